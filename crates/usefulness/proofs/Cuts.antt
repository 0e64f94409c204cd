-- Leaves are left out while pieces are halved.
use Rattle.std.proofs.Common.{◌≡◌, inl, inr, ◌≤◌, ◌<◌, ℕ, zero, suc, ◌+◌, ◌-◌, Bool, true, false, not, ◌&&◌, ◌||◌, nat_le, nat_lt, nat_eq, List, [], ◌∷◌, ◌++◌, map, filter, cond, length, take, drop, get_or, Option, Some, None, refl, sym, ap, subst, ◌∙◌, arith, slice_get, append-nil, append_assoc}
use Rattle.std.proofs.lemmas.Bool.Decides.{nat_tests}
use Rattle.std.proofs.lemmas.List.{map-append, length-map, take_more, take-append-drop}
use Rattle.std.proofs.lemmas.List.Elements.{All-nil, All-cons, All-head, All-tail, All-append, filter-append}
use Rattle.std.proofs.lemmas.Grind.{flat_map-append}
use Rattle.std.specs.List.{All, list_all}
use Rattle.std.specs.Option.{option_to_list}
use Rattle.match_model.specs.ArenaPatterns.{MDePat, de_pat, no_de_pats, more_de_pats, de_pats_of}
use Rattle.match_model.specs.Constructors.{MCtor, RowCtor, LongerShape, WildCtor}
use Rattle.match_model.specs.Rows.{Head, is_wild, wildcards, heads_of}
use Rattle.match_model.specs.Values.{MValue}
use Rattle.match_model.proofs.Basics.{untrue, both, either}
use Rattle.constructor_sets.specs.declared.piece.Span.{Span}
use Rattle.constructor_sets.specs.Spans.{plain_span}
use Rattle.pattern_arena.specs.declared.pattern.DePat.{DePat}
use Rattle.pattern_arena.specs.Trees.{tree, placed_subs}
use Rattle.pattern_arena.proofs.TreeFacts.{tree_out}
use Rattle.pattern_matrix.specs.Sparse.{SparseRow, SparseLeaf, columns_from, leaves_listed, leaf_parts, listed, without}
use Rattle.pattern_matrix.specs.Opening.{opened_row}
use Rattle.pattern_matrix.specs.Halving.{span_has, span_meets, having, leaves_with}
use Rattle.pattern_matrix.specs.Parts.{plain_spans}
use Rattle.pattern_matrix.specs.declared.halving.Part.{Part}
use Rattle.pattern_matrix.specs.Counting.{Question, WantedRow, row_stops, to_arm, through_alternative}
use Rattle.pattern_matrix.specs.Searching.{IsDone, DoFor, StandFor}
use Rattle.pattern_matrix.proofs.Listing.{listed-wildcards}
use Rattle.pattern_matrix.proofs.ListedRows as listing
use Rattle.usefulness.specs.declared.frames.Apart.{Apart}
use Rattle.usefulness.specs.declared.marks.Marks.{Marks}
use Rattle.usefulness.specs.Frames.{SparseAsked, asked_view, asked_views, has_heads}
use Rattle.usefulness.specs.Marking.{is_marked}
use Rattle.usefulness.specs.Done.{choices_within, are_marked, is_done}
use Rattle.usefulness.specs.Children.{opened_at, opened}
use Rattle.usefulness.specs.States.{apart_rows, apart_leaves, other_numbers}
use Rattle.usefulness.specs.Cutting.{some_pattern, writes_parts, is_bare_at, is_wanted_at, is_marked_at, is_idle_at, is_last_at, entered_rows, AreEnough, IsCutPart, IsCutSoFar}
use Rattle.usefulness.proofs.Listed.{bare_heads, long_heads}
use Rattle.usefulness.proofs.DoneRows.{done_row}
use Rattle.usefulness.proofs.Dropping.{opened_got}
use Rattle.usefulness.proofs.Settled.{all_both}
use Rattle.usefulness.proofs.Enough.{same_stand, stand_both, kept_do, closed_do, stops_all}
use Rattle.usefulness.proofs.Looking.{stand_later}

-- ---- bare rows

heads_of_none : {T : Type 0} (c : MCtor) (first count : ℕ) → listed {T = T} first (heads_of c [] count) ≡ []
heads_of_none {T} (RowCtor (LongerShape f b)) first count =
    rw (taken f, dropped f) (ap (listed {T = T} first) (append-nil (wildcards (count - (f + b)))) ∙ listed-wildcards first (count - (f + b)))
  where
    taken : (n : ℕ) → take {A = Head T} n [] ≡ []
    taken zero = refl
    taken (suc n) = refl

    dropped : (n : ℕ) → drop {A = Head T} n [] ≡ []
    dropped zero = refl
    dropped (suc n) = refl
heads_of_none WildCtor first count = listed-wildcards first count
heads_of_none _ first count = refl

-- a leaf that writes no part lists none
pub no_parts : {T : Type 0} (h : Head T) (first count : ℕ) → writes_parts h ≡ false → listed first (leaf_parts count h) ≡ []
no_parts None first count e = listed-wildcards first count
no_parts (Some (de_pat c t uid at no_de_pats binds)) first count e = heads_of_none c first count
no_parts (Some (de_pat c t uid at (more_de_pats p ps) binds)) first count e = untrue (sym e)

-- a row whose heads all stand at the column has no other
no_others : {T : Type 0} (column : ℕ) (heads : List (ℕ × MDePat T)) → list_all (λ h. nat_eq h.0 column) heads ≡ true → without column heads ≡ []
no_others column [] e = refl
no_others column (h ∷ heads) e =
    let k = both (nat_eq h.0 column) (list_all (λ h. nat_eq h.0 column) heads) e in
    rw (k.0) (no_others column heads k.1)

pub bare_opened : {T : Type 0} (column first count : ℕ) (r : SparseRow T) (l : SparseLeaf T) → is_bare_at column r l ≡ true → (opened_row column first count l r).heads ≡ []
bare_opened column first count r l e =
    let k = both (not (writes_parts l.head)) (list_all (λ h. nat_eq h.0 column) r.heads) e in
    ap (λ hs. hs ++ without column r.heads) (no_parts l.head first count (off (writes_parts l.head) k.0)) ∙ no_others column r.heads k.1
  where
    off : (b : Bool) → not b ≡ true → b ≡ false
    off true e = untrue e
    off false e = refl

-- a pattern writes parts where it has patterns below it
some_number : (n : ℕ) → nat_lt 0 (suc n) ≡ true
some_number n = grind (arith, nat_tests)

pub parts_written : {T : Type 0} (p : DePat T) → nat_lt 0 (length (placed_subs p)) ≡ writes_parts (Some (tree p))
parts_written {T} p = go (placed_subs p) ∙ sym (ap (λ t. writes_parts (Some t)) (tree_out p))
  where
    go : (subs : List (DePat T)) → nat_lt 0 (length subs) ≡ some_pattern (de_pats_of (map tree subs))
    go [] = refl
    go (q ∷ qs) = some_number (length qs)

-- ---- what the row of a leaf is

pub marked_append : (m : Question → Bool) (arm : ℕ) (xs ys : List ℕ) → are_marked m arm xs ≡ true → are_marked m arm ys ≡ true → are_marked m arm (xs ++ ys) ≡ true
marked_append m arm xs ys e f = all_both (λ id. m (through_alternative arm id)) xs ys ∙ ap (λ b. b && are_marked m arm ys) e ∙ f

module _ {T : Type 0} (missing : Bool) (a : Apart T) (count : ℕ) (l : SparseLeaf T) (x : SparseAsked T) where
  -- the row of the leaf
  abbrev pub one : SparseAsked T
  one = record { row = opened_row a.taken.number a.next count l x.row; wanted = x.wanted && not (missing && is_wild l.head) }

  abbrev pub columns : List ℕ
  columns = columns_from a.next count ++ other_numbers a

  pub one_bare : is_bare_at a.taken.number x.row l ≡ true → has_heads one.row.heads ≡ false
  one_bare e = ap has_heads (bare_opened a.taken.number a.next count x.row l e)

  -- an idle one is guarded and brings nothing new
  pub idle_done : (marks : Marks) → is_idle_at (is_marked marks) missing a.taken.number x l ≡ true → (one.row.guarded ≡ true) × IsDone (is_marked marks) (asked_view columns one)
  idle_done marks e =
      let g = both x.row.guarded (is_bare_at a.taken.number x.row l && (not (is_wanted_at missing x l) || is_marked_at (is_marked marks) x.row l)) e in
      let b = both (is_bare_at a.taken.number x.row l) (not (is_wanted_at missing x l) || is_marked_at (is_marked marks) x.row l) g.1 in (
        g.0,
        elim (either (not (is_wanted_at missing x l)) (is_marked_at (is_marked marks) x.row l) b.1) [
          | inl n ↦ (λ w. untrue (off one.wanted n w))
          | inr m ↦ done_row marks one columns (all_done m b.0)
        ],
      )
    where
      off : (w : Bool) → not w ≡ true → w ≡ true → false ≡ true
      off true n w = n
      off false n w = w

      all_done : is_marked_at (is_marked marks) x.row l ≡ true → is_bare_at a.taken.number x.row l ≡ true → is_done (is_marked marks) one.row ≡ true
      all_done m b =
          let arm = both (is_marked marks (to_arm x.row.arm)) (are_marked (is_marked marks) x.row.arm x.row.chosen && are_marked (is_marked marks) x.row.arm l.chosen) m in
          let rest = both (are_marked (is_marked marks) x.row.arm x.row.chosen) (are_marked (is_marked marks) x.row.arm l.chosen) arm.1 in
          let chosen = marked_append (is_marked marks) x.row.arm x.row.chosen l.chosen rest.0 rest.1 in
          ap (λ c. c && (are_marked (is_marked marks) x.row.arm (x.row.chosen ++ l.chosen) && list_all (λ h. are_marked (is_marked marks) x.row.arm (choices_within h.1)) one.row.heads)) arm.0
          ∙ ap (λ c. c && list_all (λ h. are_marked (is_marked marks) x.row.arm (choices_within h.1)) one.row.heads) chosen
          ∙ ap (list_all (λ h. are_marked (is_marked marks) x.row.arm (choices_within h.1))) (bare_opened a.taken.number a.next count x.row l b)

  -- a last one stops all values
  pub last_stops : is_last_at a.taken.number x l ≡ true → (vs : List MValue) → length vs ≡ length columns → row_stops (asked_view columns one).row vs ≡ true
  last_stops e vs k =
      let g = both (not x.row.guarded) (is_bare_at a.taken.number x.row l) e in
      stops_all (λ q. false) (length columns) (asked_view columns one) vs (long_heads columns one) k (bare_heads one.row.heads columns (one_bare g.1)) (off x.row.guarded g.0)
    where
      off : (b : Bool) → not b ≡ true → b ≡ false
      off true e = untrue e
      off false e = refl

-- ---- the leaves of a piece that were gone through

span_lacks : (first end i : ℕ) (s : ℕ × ℕ) → first ≤ i → i < end → span_meets first end (Some s) ≡ false → span_has i (Some s) ≡ false
span_lacks first end i s l m e = lacks first end i s.0 s.1 l m e
  where
    lacks : (first end i a b : ℕ) → first ≤ i → i < end → (nat_lt a end && nat_lt first b) ≡ false → (nat_le a i && nat_lt i b) ≡ false
    lacks first end i a b l m e = grind (arith, nat_tests)

pub span_covers : (first end i : ℕ) (s : ℕ × ℕ) → first ≤ i → i < end → (nat_le s.0 first && nat_le end s.1) ≡ true → span_has i (Some s) ≡ true
span_covers first end i s l m e = has first end i s.0 s.1 l m e
  where
    has : (first end i a b : ℕ) → first ≤ i → i < end → (nat_le a first && nat_le end b) ≡ true → (nat_le a i && nat_lt i b) ≡ true
    has first end i a b l m e = grind (arith, nat_tests)

met_has : (first end : ℕ) (o : Option (ℕ × ℕ)) → first + 1 ≡ end → span_meets first end o ≡ true → span_has first o ≡ true
met_has first end None e m = m
met_has first end (Some s) e m = one first end s.0 s.1 e m
  where
    one : (first end a b : ℕ) → first + 1 ≡ end → (nat_lt a end && nat_lt first b) ≡ true → (nat_le a first && nat_lt first b) ≡ true
    one first end a b e m = grind (arith, nat_tests)

all_pass : {X : Type 0} (p : X → Bool) (xs : List X) → All (λ x. p x ≡ true) xs → filter p xs ≡ xs
all_pass p [] a = refl
all_pass p (x ∷ xs) a = rw (All-head (λ x. p x ≡ true) x xs a) (ap (λ ys. x ∷ ys) (all_pass p xs (All-tail (λ x. p x ≡ true) x xs a)))

-- a list with what stands at a number, up to there and whole
pub one_seen : (ks xs : List ℕ) (i : ℕ) → xs ≡ ks → i < length xs → take i ks ++ get_or xs i 0 ∷ [] ≡ take (i + 1) ks
one_seen ks xs i e l = ap (λ ys. take i ks ++ get_or ys i 0 ∷ []) e ∙ sym (take_more ks i 0 (subst (λ ys. i < length ys) e l))

pub all_seen : (ks xs : List ℕ) (i : ℕ) → xs ≡ ks → i < length xs → take i ks ++ get_or xs i 0 ∷ drop (i + 1) ks ≡ ks
all_seen ks xs i e l =
    sym (append_assoc (take i ks) (get_or xs i 0 ∷ []) (drop (i + 1) ks)) ∙ ap (λ ys. ys ++ drop (i + 1) ks) (one_seen ks xs i e l) ∙ take-append-drop (i + 1) ks

module _ {T : Type 0} (missing : Bool) (a : Apart T) (spans : List Span) where
  abbrev ss : List (ℕ × ℕ)
  ss = plain_spans spans

  abbrev pub at : (i count : ℕ) → List ℕ → List (WantedRow T)
  at i count ks = entered_rows missing a count (leaves_listed (apart_leaves a) (having ss i ks))

  pub at_append : (i count : ℕ) (xs ys : List ℕ) → at i count (xs ++ ys) ≡ at i count xs ++ at i count ys
  at_append i count xs ys =
      let leaves = apart_leaves a in
      let cols = columns_from a.next count ++ other_numbers a in
      let f = opened_at missing a.taken.number a.next count (apart_rows a) in
      ap (λ ks. entered_rows missing a count (leaves_listed leaves ks)) (filter-append (λ k. span_has i (slice_get ss k)) xs ys)
      ∙ ap (entered_rows missing a count) (flat_map-append (λ k. option_to_list (slice_get leaves k)) (having ss i xs) (having ss i ys))
      ∙ ap (asked_views cols) (flat_map-append f (leaves_listed leaves (having ss i xs)) (leaves_listed leaves (having ss i ys)))
      ∙ map-append (asked_view cols) (opened missing a.taken.number a.next count (apart_rows a) (leaves_listed leaves (having ss i xs))) (opened missing a.taken.number a.next count (apart_rows a) (leaves_listed leaves (having ss i ys)))

  module _ (k : ℕ) (l : SparseLeaf T) (x : SparseAsked T) (s : ℕ × ℕ) (leaf : slice_get (apart_leaves a) k ≡ Some l) (row : slice_get (apart_rows a) l.row ≡ Some x) (span : slice_get ss k ≡ Some s) where
    abbrev pub view : (count : ℕ) → WantedRow T
    view count = asked_view (columns missing a count l x) (one missing a count l x)

    at_has : (i count : ℕ) → span_has i (Some s) ≡ true → at i count (k ∷ []) ≡ view count ∷ []
    at_has i count h =
        let cols = columns_from a.next count ++ other_numbers a in
        ap (λ c. entered_rows missing a count (leaves_listed (apart_leaves a) (cond c (k ∷ []) []))) (ap (span_has i) span ∙ h)
        ∙ ap (λ o. entered_rows missing a count (option_to_list o ++ [])) leaf
        ∙ ap (λ ys. asked_views cols (ys ++ [])) (opened_got missing a.taken.number a.next count (apart_rows a) l x row)

    at_not : (i count : ℕ) → span_has i (Some s) ≡ false → at i count (k ∷ []) ≡ []
    at_not i count h = ap (λ c. entered_rows missing a count (leaves_listed (apart_leaves a) (cond c (k ∷ []) []))) (ap (span_has i) span ∙ h)

    pub more_has : (i count : ℕ) (xs : List ℕ) → span_has i (Some s) ≡ true → at i count (xs ++ k ∷ []) ≡ at i count xs ++ view count ∷ []
    more_has i count xs h = at_append i count xs (k ∷ []) ∙ ap (λ ys. at i count xs ++ ys) (at_has i count h)

    pub more_not : (i count : ℕ) (xs : List ℕ) → span_has i (Some s) ≡ false → at i count (xs ++ k ∷ []) ≡ at i count xs
    more_not i count xs h = at_append i count xs (k ∷ []) ∙ ap (λ ys. at i count xs ++ ys) (at_not i count h) ∙ append-nil (at i count xs)

    module _ (marks : Marks) (first end : ℕ) (seen kept : List ℕ) (so_far : IsCutSoFar (is_marked marks) missing a spans first end seen kept) where
      abbrev m : Question → Bool
      m = is_marked marks

      abbrev n : ℕ → ℕ
      n count = length (columns_from a.next count ++ other_numbers a)

      -- the leaf has no piece of the part
      pub step_apart : span_meets first end (Some s) ≡ false → IsCutSoFar m missing a spans first end (seen ++ k ∷ []) kept
      step_apart e = record {
        within = so_far.within;
        met = so_far.met;
        enough = λ i low high count.
            subst (λ ys. DoFor m (n count) ys (at i count kept)) (sym (more_not i count seen (span_lacks first end i s low high e))) (so_far.enough i low high count);
      }

      -- the leaf brings nothing new and stops nothing
      pub step_idle : is_idle_at m missing a.taken.number x l ≡ true → IsCutSoFar m missing a spans first end (seen ++ k ∷ []) kept
      step_idle e = record {
        within = so_far.within;
        met = so_far.met;
        enough = λ i low high count. go i count (so_far.enough i low high count) (span_has i (Some s)) refl;
      }
        where
          go : (i count : ℕ) → DoFor m (n count) (at i count seen) (at i count kept) → (b : Bool) → span_has i (Some s) ≡ b → DoFor m (n count) (at i count (seen ++ k ∷ [])) (at i count kept)
          go i count d true h =
              let done = idle_done missing a count l x marks e in
              subst (λ ys. DoFor m (n count) ys (at i count kept)) (sym (more_has i count seen h))
              (listing.leave_guarded m (n count) (at i count seen) (at i count kept) (view count) d done.0 done.1)
          go i count d false h = subst (λ ys. DoFor m (n count) ys (at i count kept)) (sym (more_not i count seen h)) d

      -- the leaf is kept
      pub step_kept : k < length spans → span_meets first end (Some s) ≡ true → IsCutSoFar m missing a spans first end (seen ++ k ∷ []) (kept ++ k ∷ [])
      step_kept w e = record {
        within = All-append (λ j. j < length spans) kept (k ∷ []) so_far.within (All-cons (λ j. j < length spans) k [] w (All-nil (λ j. j < length spans)));
        met = All-append (λ j. span_meets first end (slice_get ss j) ≡ true) kept (k ∷ []) so_far.met
            (All-cons (λ j. span_meets first end (slice_get ss j) ≡ true) k [] (ap (span_meets first end) span ∙ e) (All-nil (λ j. span_meets first end (slice_get ss j) ≡ true)));
        enough = λ i low high count. go i count (so_far.enough i low high count) (span_has i (Some s)) refl;
      }
        where
          go : (i count : ℕ) → DoFor m (n count) (at i count seen) (at i count kept) → (b : Bool) → span_has i (Some s) ≡ b → DoFor m (n count) (at i count (seen ++ k ∷ [])) (at i count (kept ++ k ∷ []))
          go i count d true h =
              subst (λ ys. DoFor m (n count) ys (at i count (kept ++ k ∷ []))) (sym (more_has i count seen h))
              (subst (DoFor m (n count) (at i count seen ++ view count ∷ [])) (sym (more_has i count kept h)) (kept_do m (n count) (at i count seen) (at i count kept) (view count) d))
          go i count d false h =
              subst (λ ys. DoFor m (n count) ys (at i count (kept ++ k ∷ []))) (sym (more_not i count seen h))
              (subst (DoFor m (n count) (at i count seen)) (sym (more_not i count kept h)) d)

      -- the leaf is kept, and stops all values in each piece of the part: what stands behind it is left out
      pub step_last : (rest : List ℕ) → k < length spans → span_meets first end (Some s) ≡ true → (nat_le s.0 first && nat_le end s.1) ≡ true → is_last_at a.taken.number x l ≡ true →
          IsCutSoFar m missing a spans first end (seen ++ k ∷ rest) (kept ++ k ∷ [])
      step_last rest w e c z =
          let one_more = step_kept w e in
          record {
            within = one_more.within;
            met = one_more.met;
            enough = λ i low high count.
                let h = span_covers first end i s low high c in
                subst (λ ys. DoFor m (n count) ys (at i count (kept ++ k ∷ []))) (sym (behind i count h))
                (subst (DoFor m (n count) (at i count seen ++ view count ∷ at i count rest)) (sym (more_has i count kept h))
                (closed_do m (n count) (at i count seen) (at i count kept) (at i count rest) (view count)
                (subst (DoFor m (n count) (at i count seen ++ view count ∷ [])) (more_has i count kept h)
                (subst (λ ys. DoFor m (n count) ys (at i count (kept ++ k ∷ []))) (more_has i count seen h) (one_more.enough i low high count)))
                (last_stops missing a count l x z)));
          }
        where
          behind : (i count : ℕ) → span_has i (Some s) ≡ true → at i count (seen ++ k ∷ rest) ≡ at i count seen ++ view count ∷ at i count rest
          behind i count h =
              ap (at i count) (sym (append_assoc seen (k ∷ []) rest))
              ∙ at_append i count (seen ++ k ∷ []) rest
              ∙ ap (λ ys. ys ++ at i count rest) (more_has i count seen h)
              ∙ append_assoc (at i count seen) (view count ∷ []) (at i count rest)

  -- nothing was gone through
  pub cut_begins : (m : Question → Bool) (first end : ℕ) → IsCutSoFar m missing a spans first end [] []
  cut_begins m first end = record {
    within = All-nil (λ k. k < length spans);
    met = All-nil (λ k. span_meets first end (slice_get ss k) ≡ true);
    enough = λ i low high count. listing.none_listed m (length (columns_from a.next count ++ other_numbers a));
  }

  -- a part that has all leaves has enough
  pub whole_cut : (m : Question → Bool) (p : Part) → p.first < p.end → p.leaves.items ≡ columns_from 0 (length spans) → IsCutPart m missing a spans p
  whole_cut m p some e = record {
    some = some;
    within = subst (All (λ k. k < length spans)) (sym e) (numbers_below 0 (length spans) (length spans) (omega arith));
    enough = λ i low high count.
        subst (λ ks. StandFor m (length (columns_from a.next count ++ other_numbers a)) (at_all i count) (entered_rows missing a count (leaves_listed (apart_leaves a) (having ss i ks)))) (ap (columns_from 0) (length-map spans plain_span) ∙ sym e)
        (same_stand m (length (columns_from a.next count ++ other_numbers a)) (at_all i count));
  }
    where
      numbers_below : (first n bound : ℕ) → first + n ≤ bound → All (λ k. k < bound) (columns_from first n)
      numbers_below first zero bound h = All-nil (λ (k : ℕ). k < bound)
      numbers_below first (suc n) bound h = All-cons (λ k. k < bound) first (columns_from (suc first) n) (omega arith) (numbers_below (suc first) n bound (omega arith))

      at_all : (i count : ℕ) → List (WantedRow T)
      at_all i count = entered_rows missing a count (leaves_listed (apart_leaves a) (leaves_with ss i))

  -- what is kept of a part is enough for each of its pieces
  pub cut_enough : (m : Question → Bool) (p : Part) (kept : List ℕ) → IsCutPart m missing a spans p → IsCutSoFar m missing a spans p.first p.end p.leaves.items kept →
      (i : ℕ) → p.first ≤ i → i < p.end → AreEnough m missing a (leaves_listed (apart_leaves a) (leaves_with ss i)) (leaves_listed (apart_leaves a) (having ss i kept))
  cut_enough m p kept part whole = λ i low high count.
      stand_both m (length (columns_from a.next count ++ other_numbers a)) (entered_rows missing a count (leaves_listed (apart_leaves a) (leaves_with ss i))) (at i count p.leaves.items) (at i count kept)
      (part.enough i low high count) (listing.listed_all m (length (columns_from a.next count ++ other_numbers a)) (at i count p.leaves.items) (at i count kept) (whole.enough i low high count))

  -- and for a part of its pieces
  pub cut_half : (m : Question → Bool) (p q : Part) → p.first ≤ q.first → q.first < q.end → q.end ≤ p.end → All (λ k. k < length spans) q.leaves.items →
      ((i : ℕ) → p.first ≤ i → i < p.end → AreEnough m missing a (leaves_listed (apart_leaves a) (leaves_with ss i)) (leaves_listed (apart_leaves a) (having ss i q.leaves.items))) →
      IsCutPart m missing a spans q
  cut_half m p q low some high w e = record { some = some; within = w; enough = λ i l h. e i (omega (arith, low, l)) (omega (arith, high, h)) }

  -- marks may grow
  pub cut_later : (old now : Question → Bool) (todo : List Part) → ((q : Question) → old q ≡ true → now q ≡ true) → All (IsCutPart old missing a spans) todo → All (IsCutPart now missing a spans) todo
  cut_later old now todo g all = λ j d l.
      let p = all j d l in
      record {
        some = p.some;
        within = p.within;
        enough = λ i low high count.
            stand_later old now (length (columns_from a.next count ++ other_numbers a)) (entered_rows missing a count (leaves_listed (apart_leaves a) (leaves_with ss i))) (at i count (get_or todo j d).leaves.items)
            g (p.enough i low high count);
      }

  -- what is kept of a part of one piece has it
  pub one_have : (first end : ℕ) (kept : List ℕ) → first + 1 ≡ end → All (λ k. span_meets first end (slice_get ss k) ≡ true) kept → All (λ k. span_has first (slice_get ss k) ≡ true) kept
  one_have first end kept e all = λ j d l. met_has first end (slice_get ss (get_or kept j d)) e (all j d l)

  pub one_enough : (m : Question → Bool) (p : Part) (kept : List ℕ) → p.first + 1 ≡ p.end → All (λ k. span_has p.first (slice_get ss k) ≡ true) kept →
      ((i : ℕ) → p.first ≤ i → i < p.end → AreEnough m missing a (leaves_listed (apart_leaves a) (leaves_with ss i)) (leaves_listed (apart_leaves a) (having ss i kept))) →
      AreEnough m missing a (leaves_listed (apart_leaves a) (leaves_with ss p.first)) (leaves_listed (apart_leaves a) kept)
  one_enough m p kept e all f =
      subst (λ ks. AreEnough m missing a (leaves_listed (apart_leaves a) (leaves_with ss p.first)) (leaves_listed (apart_leaves a) ks)) (all_pass (λ k. span_has p.first (slice_get ss k)) kept all)
      (f p.first (omega arith) (omega (arith, e)))
