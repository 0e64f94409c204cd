-- What the rows of a column name, head by head, and the pieces that follow from it.
use Rattle.std.proofs.Common.{◌≡◌, ℕ, ◌+◌, ◌-◌, ◌^◌, ◌<◌, ◌≤◌, max, min, Bool, true, false, ◌||◌, List, [], ◌∷◌, ◌++◌, map, drop, length, get_or, replicate, refl, sym, ap, subst, ◌∙◌, arith, IsTrue, None, inl, inr, set, ◌≢◌, get_or-set_same, get_or-set_other}
use Rattle.std.specs.Prelude.{nat_eq, nat_le, slice_index_or}
use Rattle.std.specs.List.{All, list_any}
use Rattle.std.proofs.lemmas.Bool.{cases_lt}
use Rattle.std.proofs.lemmas.Bool.Decides.{nat_tests}
use Rattle.std.proofs.lemmas.List.{map-append, get_or_append_left, get_or-append_right, get_or-replicate, get_or_past, length-replicate}
use Rattle.std.proofs.lemmas.List.Elements.{All-push}
use Rattle.match_model.specs.Constructors.{FixedShape, LongerShape, MCtor, RowCtor, RowSet, belongs, least_length}
use Rattle.match_model.specs.Pieces.{each_below, fixed_end, longest_front, longest_back, lengths_end}
use Rattle.match_model.specs.WellTyped.{is_written}
use Rattle.match_model.proofs.Basics.{both}
use Rattle.range_split.proofs.Steps.{front_of}
use Rattle.slice_split.proofs.Below.{map-each_below, All-each_below}
use Rattle.pat_context.specs.Views.{plain_ctor}
use Rattle.pat_context.specs.declared.ctor.Ctor.{Ctor}
use Rattle.constructor_sets.specs.declared.lengths.Lengths.{Lengths}
use Rattle.constructor_sets.specs.Columns.{is_head, writes, plain_ctors, IsSetSplit}
use Rattle.constructor_sets.specs.RowLengths.{IsShortRow, AddsFixed, AddsLonger, AddsHead, AreLengths, length_piece}

-- the rows of a column are short

row_short : (c : MCtor) → is_head (RowSet None) c ≡ true → IsShortRow c
row_short (RowCtor s) h = at_most (least_length s) (both (belongs (RowSet None) (RowCtor s)) (is_written (RowCtor s)) h).1
  where
    at_most : (n : ℕ) → nat_le n 4294967296 ≡ true → n ≤ 2 ^ 32
    at_most n h = grind (arith, nat_tests)
row_short _ h = tt

pub rows_short : (heads : List MCtor) → All (λ c. IsTrue (is_head (RowSet None) c)) heads → All IsShortRow heads
rows_short heads all = λ k d l. row_short (get_or heads k d) (all k d l)

-- what is known of the heads that were read, where those of `rest` are still to be read
pub record Gathered (rest whole : List MCtor) (l : Lengths) : Type 0 where
  pub fixed : max (length l.marks.items) (fixed_end rest) ≡ fixed_end whole
  pub front : max l.front (longest_front rest) ≡ longest_front whole
  pub back : max l.back (longest_back rest) ≡ longest_back whole
  pub alone : (n : ℕ) → n < 2 ^ 64 - 1 →
      ((slice_index_or l.marks.items n false || nat_le l.least n) || list_any (writes (RowCtor (FixedShape n))) rest) ≡ list_any (writes (RowCtor (FixedShape n))) whole
  pub longer : (n : ℕ) → n < 2 ^ 64 - 1 → (nat_le l.least n || list_any (writes (RowCtor (LongerShape n 0))) rest) ≡ list_any (writes (RowCtor (LongerShape n 0))) whole
  pub few : (length l.marks.items ≤ 2 ^ 32 + 1) × (l.front ≤ 2 ^ 32) × (l.back ≤ 2 ^ 32)

beyond : (least n : ℕ) → least ≡ 2 ^ 64 - 1 → n < 2 ^ 64 - 1 → nat_le least n ≡ false
beyond least n e h = grind (arith, nat_tests)

pub none_gathered : (heads : List MCtor) (l : Lengths) → l.marks.items ≡ [] → l.front ≡ 0 → l.back ≡ 0 → l.least ≡ 2 ^ 64 - 1 → Gathered heads heads l
none_gathered heads l m f b least = record {
  fixed = rw m (omega arith);
  front = rw f (omega arith);
  back = rw b (omega arith);
  alone = λ n h. rw (m, beyond l.least n least h) refl;
  longer = λ n h. rw (beyond l.least n least h) refl;
  few = (rw m (omega arith), omega arith, omega arith);
}

or_end : (a : Bool) → (a || false) ≡ a
or_end true = refl
or_end false = refl

pub all_gathered : (heads : List MCtor) (l : Lengths) → Gathered [] heads l → AreLengths heads l
all_gathered heads l g = record {
  fixed = let e = g.fixed in omega arith;
  front = let e = g.front in omega arith;
  back = let e = g.back in omega arith;
  alone = λ n h. sym (or_end (slice_index_or l.marks.items n false || nat_le l.least n)) ∙ g.alone n h;
  longer = λ n h. sym (or_end (nat_le l.least n)) ∙ g.longer n h;
  few = g.few;
}

fixed_turn : (a b c r : Bool) → (((a || c) || b) || r) ≡ ((a || b) || (c || r))
fixed_turn true b c r = refl
fixed_turn false true true r = refl
fixed_turn false true false r = refl
fixed_turn false false c r = or_first c r
  where
    or_first : (c r : Bool) → ((c || false) || r) ≡ (c || r)
    or_first true r = refl
    or_first false r = refl

longer_turn : (a b c r : Bool) → ((a || (b || c)) || r) ≡ ((a || b) || (c || r))
longer_turn true b c r = refl
longer_turn false true c r = refl
longer_turn false false c r = refl

or_assoc : (b c r : Bool) → ((b || c) || r) ≡ (b || (c || r))
or_assoc true c r = refl
or_assoc false c r = refl

least_of_two : (a b n : ℕ) → nat_le (min a b) n ≡ (nat_le a n || nat_le b n)
least_of_two a b n = grind (arith, nat_tests)

at_length : (m n : ℕ) → nat_le m (n + 0) ≡ nat_le m n
at_length m n = ap (nat_le m) (omega arith)

add_fixed : (n : ℕ) (rest whole : List MCtor) (old new : Lengths) → n ≤ 2 ^ 32 → AddsFixed n old new → Gathered (RowCtor (FixedShape n) ∷ rest) whole old → Gathered rest whole new
add_fixed n rest whole old new s a g = record {
  fixed = let e = g.fixed in let c = a.count in omega arith;
  front = ap (λ m. max m (longest_front rest)) a.front ∙ g.front;
  back = ap (λ m. max m (longest_back rest)) a.back ∙ g.back;
  alone = λ k h.
      let r = list_any (writes (RowCtor (FixedShape k))) rest in
      ap (λ b. (b || nat_le new.least k) || r) (a.marked k)
      ∙ ap (λ m. ((slice_index_or old.marks.items k false || nat_eq n k) || nat_le m k) || r) a.least
      ∙ fixed_turn (slice_index_or old.marks.items k false) (nat_le old.least k) (nat_eq n k) r
      ∙ g.alone k h;
  longer = λ k h. ap (λ m. nat_le m k || list_any (writes (RowCtor (LongerShape k 0))) rest) a.least ∙ g.longer k h;
  few = let c = a.count in let m = g.few.0 in
      (omega arith, subst (λ x. x ≤ 2 ^ 32) (sym a.front) g.few.1, subst (λ x. x ≤ 2 ^ 32) (sym a.back) g.few.2);
}

add_longer : (f b : ℕ) (rest whole : List MCtor) (old new : Lengths) → f + b ≤ 2 ^ 32 → AddsLonger f b old new → Gathered (RowCtor (LongerShape f b) ∷ rest) whole old → Gathered rest whole new
add_longer f b rest whole old new s a g = record {
  fixed = ap (λ (ms : List Bool). max (length ms) (fixed_end rest)) a.marks ∙ g.fixed;
  front = let e = g.front in let c = a.front in omega arith;
  back = let e = g.back in let c = a.back in omega arith;
  alone = λ k h.
      let r = list_any (writes (RowCtor (FixedShape k))) rest in
      ap (λ (ms : List Bool). (slice_index_or ms k false || nat_le new.least k) || r) a.marks
      ∙ ap (λ t. (slice_index_or old.marks.items k false || t) || r) (ap (λ m. nat_le m k) a.least ∙ least_of_two old.least (f + b) k)
      ∙ longer_turn (slice_index_or old.marks.items k false) (nat_le old.least k) (nat_le (f + b) k) r
      ∙ g.alone k h;
  longer = λ k h.
      let r = list_any (writes (RowCtor (LongerShape k 0))) rest in
      ap (λ t. t || r) (ap (λ m. nat_le m k) a.least ∙ least_of_two old.least (f + b) k)
      ∙ or_assoc (nat_le old.least k) (nat_le (f + b) k) r
      ∙ ap (λ t. nat_le old.least k || (t || r)) (sym (at_length (f + b) k))
      ∙ g.longer k h;
  few = let m = g.few.1 in let n = g.few.2 in let p = a.front in let q = a.back in
      (subst (λ (ms : List Bool). length ms ≤ 2 ^ 32 + 1) (sym a.marks) g.few.0, omega arith, omega arith);
}

add_head : (h : MCtor) (rest whole : List MCtor) (old new : Lengths) → IsShortRow h → AddsHead h old new → Gathered (h ∷ rest) whole old → Gathered rest whole new
add_head (RowCtor (FixedShape n)) rest whole old new s a g = add_fixed n rest whole old new s a g
add_head (RowCtor (LongerShape f b)) rest whole old new s a g = add_longer f b rest whole old new s a g
add_head _ rest whole old new s a g =
    subst (Gathered rest whole) (sym a) (record { fixed = g.fixed; front = g.front; back = g.back; alone = g.alone; longer = g.longer; few = g.few })

pub one_more : (whole : List MCtor) (heads : List Ctor) (i : ℕ) (x : Ctor) (old new : Lengths) → i < length heads → x ≡ get_or heads i x → IsShortRow (plain_ctor x) →
    AddsHead (plain_ctor x) old new → Gathered (plain_ctors (drop i heads)) whole old → Gathered (plain_ctors (drop (i + 1) heads)) whole new
one_more whole heads i x old new l e s a g =
    add_head (plain_ctor x) (plain_ctors (drop (i + 1) heads)) whole old new s a
    (subst (λ (hs : List Ctor). Gathered (plain_ctors hs) whole old) (front_of heads heads i x refl l e) g)

-- the pieces

same_longer : (heads : List MCtor) (n f b : ℕ) → f + b ≡ n → list_any (writes (RowCtor (LongerShape n 0))) heads ≡ list_any (writes (RowCtor (LongerShape f b))) heads
same_longer [] n f b e = refl
same_longer (RowCtor (FixedShape m) ∷ hs) n f b e = same_longer hs n f b e
same_longer (RowCtor (LongerShape g c) ∷ hs) n f b e =
    ap (λ t. t || list_any (writes (RowCtor (LongerShape n 0))) hs) (at_length (g + c) n ∙ ap (nat_le (g + c)) (sym e))
    ∙ ap (λ t. nat_le (g + c) (f + b) || t) (same_longer hs n f b e)
same_longer (_ ∷ hs) n f b e = ap (λ t. t) (same_longer hs n f b e)

abbrev ctor_of : MCtor × Bool → MCtor
ctor_of p = p.0

pub lengths_split : (heads : List MCtor) (l : Lengths) (end : ℕ) (pieces : List (MCtor × Bool)) → AreLengths heads l → end ≡ max (length l.marks.items) (l.front + l.back) →
    pieces ≡ each_below (length_piece l.marks.items l.least) end ++ (RowCtor (LongerShape (end - l.back) l.back), nat_le l.least end) ∷ [] → IsSetSplit (RowSet None) heads pieces
lengths_split heads l end pieces a e is = record {
  listed = ap (map ctor_of) is ∙ firsts ∙ ap (λ m. up_to m l.back) end_is ∙ ap (up_to (lengths_end heads)) a.back;
  flagged = subst (All IsFlag) (sym is)
      (All-push IsFlag (each_below piece end) (RowCtor (LongerShape (end - l.back) l.back), nat_le l.least end)
      (All-each_below IsFlag piece end (λ n below. a.alone n (omega arith)))
      (a.longer end (omega arith) ∙ same_longer heads end (end - l.back) l.back (omega arith)));
}
  where
    piece : ℕ → MCtor × Bool
    piece = length_piece l.marks.items l.least

    IsFlag : MCtor × Bool → Type 0
    IsFlag p = p.1 ≡ list_any (writes p.0) heads

    up_to : ℕ → ℕ → List MCtor
    up_to m b = each_below (λ n. RowCtor (FixedShape n)) m ++ RowCtor (LongerShape (m - b) b) ∷ []

    few : end ≤ 2 ^ 33
    few = let m = a.few in omega arith

    end_is : end ≡ lengths_end heads
    end_is = e ∙ ap (λ m. max m (l.front + l.back)) a.fixed ∙ ap (λ f. max (fixed_end heads) (f + l.back)) a.front ∙ ap (λ b. max (fixed_end heads) (longest_front heads + b)) a.back

    firsts : map ctor_of (each_below piece end ++ (RowCtor (LongerShape (end - l.back) l.back), nat_le l.least end) ∷ []) ≡ up_to end l.back
    firsts =
        map-append ctor_of (each_below piece end) ((RowCtor (LongerShape (end - l.back) l.back), nat_le l.least end) ∷ [])
        ∙ ap (λ xs. xs ++ RowCtor (LongerShape (end - l.back) l.back) ∷ []) (map-each_below ctor_of piece end)

-- marks

-- marks that say no are added behind
pub padded : (marks : List Bool) (more n : ℕ) → get_or (marks ++ replicate more false) n false ≡ get_or marks n false
padded marks more n = elim (cases_lt n (length marks)) [
  | inl within ↦ get_or_append_left marks (replicate more false) false n within
  | inr past ↦ get_or-append_right marks (replicate more false) _ n false refl past ∙ unset (n - length marks) ∙ sym (get_or_past marks n false past)
]
  where
    unset : (k : ℕ) → get_or (replicate more false) k false ≡ false
    unset k = elim (cases_lt k more) [
      | inl within ↦ get_or-replicate more k false false within
      | inr past ↦ get_or_past (replicate more false) k false (omega (arith, length-replicate more false))
    ]

-- a place is marked
pub place_marked : (marks : List Bool) (k n : ℕ) → k < length marks → get_or (set marks k true) n false ≡ (get_or marks n false || nat_eq k n)
place_marked marks k n l = go (nat_eq k n) refl
  where
    same : nat_eq k n ≡ true → k ≡ n
    same e = grind (arith, nat_tests)

    differ : nat_eq k n ≡ false → n ≢ k
    differ e = grind (arith, nat_tests)

    or_true : (a : Bool) → true ≡ (a || true)
    or_true true = refl
    or_true false = refl

    go : (b : Bool) → nat_eq k n ≡ b → get_or (set marks k true) n false ≡ (get_or marks n false || b)
    go true e = subst (λ j. get_or (set marks k true) j false ≡ (get_or marks n false || true)) (same e) (get_or-set_same marks k true false l ∙ or_true (get_or marks n false))
    go false e = let ne : n ≢ k = differ e in get_or-set_other marks k n true false ne ∙ sym (or_end (get_or marks n false))
