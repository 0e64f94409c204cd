-- Rows that list no head, whatever piece is entered, and pieces of which they leave nothing.
use Rattle.std.proofs.Common.{◌≡◌, ◌<◌, inl, inr, ℕ, zero, suc, ◌-◌, ◌+◌, Bool, true, false, ◌||◌, not, nat_eq, List, [], ◌∷◌, ◌++◌, map, take, drop, length, get_or, Some, slice_get, refl, ap, sym, ◌∙◌, arith, append-nil, eqb}
use Rattle.std.specs.List.{list_all, list_any, flat_map}
use Rattle.std.proofs.lemmas.Bool.Decides.{nat_tests}
use Rattle.std.specs.Option.{option_to_list}
use Rattle.std.proofs.lemmas.Grind.{flat_map-append}
use Rattle.match_model.specs.ArenaPatterns.{MDePat, de_pats_of, de_pats_list}
use Rattle.match_model.specs.Constructors.{MCtor, RowCtor, LongerShape, WildCtor}
use Rattle.match_model.specs.Match.{is_empty_list}
use Rattle.match_model.specs.Rows.{Head, wildcards, heads_of}
use Rattle.match_model.proofs.Basics.{untrue, both, either, or_left, or_right}
use Rattle.pattern_arena.specs.declared.pattern.DePat.{DePat}
use Rattle.pattern_arena.specs.Trees.{tree, placed_ctor, placed_subs}
use Rattle.pattern_arena.proofs.TreeFacts.{tree_out}
use Rattle.pattern_matrix.specs.Sparse.{SparseRow, SparseLeaf, leaf_parts, leaves_listed, listed, without}
use Rattle.pattern_matrix.specs.Opening.{opened_row, opened_leaf, opened_rows}
use Rattle.pattern_matrix.proofs.Listing.{listed-wildcards}
use Rattle.witness_search.specs.Starts.{lists_none}

-- ---- a row of a leaf

heads_of_none : {T : Type 0} (c : MCtor) (first count : ℕ) → listed {T = T} first (heads_of c [] count) ≡ []
heads_of_none {T} (RowCtor (LongerShape f b)) first count =
    rw (taken f, dropped f) (ap (listed {T = T} first) (append-nil (wildcards (count - (f + b)))) ∙ listed-wildcards first (count - (f + b)))
  where
    taken : (n : ℕ) → take {A = Head T} n [] ≡ []
    taken zero = refl
    taken (suc n) = refl

    dropped : (n : ℕ) → drop {A = Head T} n [] ≡ []
    dropped zero = refl
    dropped (suc n) = refl
heads_of_none WildCtor first count = listed-wildcards first count
heads_of_none _ first count = refl

-- a pattern without patterns below it writes no part
pub none_written : {T : Type 0} (p : DePat T) (first count : ℕ) → placed_subs p ≡ [] → listed first (leaf_parts count (Some (tree p))) ≡ []
none_written {T} p first count e =
    ap (λ t. listed first (leaf_parts count (Some t))) (tree_out p)
    ∙ ap (λ (ps : List (DePat T)). listed first (heads_of (placed_ctor p) (map Some (de_pats_list (de_pats_of (map tree ps)))) count)) e
    ∙ heads_of_none (placed_ctor p) first count

-- heads that all stand at the column, without it
pub none_elsewhere : {T : Type 0} (column : ℕ) (heads : List (ℕ × MDePat T)) → list_all (λ h. nat_eq h.0 column) heads ≡ true → without column heads ≡ []
none_elsewhere column [] e = refl
none_elsewhere column (h ∷ heads) e =
    let k = both (nat_eq h.0 column) (list_all (λ h. nat_eq h.0 column) heads) e in
    rw (k.0) (none_elsewhere column heads k.1)

pub row_bare : {T : Type 0} (column first count : ℕ) (l : SparseLeaf T) (r : SparseRow T) → listed first (leaf_parts count l.head) ≡ [] → without column r.heads ≡ [] →
    lists_none (opened_row column first count l r) ≡ true
row_bare column first count l r e f = ap is_empty_list (ap (λ hs. hs ++ without column r.heads) e ∙ f)

-- ---- one of the rows of leaves

any_front : {A : Type 0} (f : A → Bool) (xs ys : List A) → list_any f xs ≡ true → list_any f (xs ++ ys) ≡ true
any_front f [] ys h = untrue h
any_front f (x ∷ xs) ys h = elim (either (f x) (list_any f xs) h) [
  | inl e ↦ or_left (f x) (list_any f (xs ++ ys)) e
  | inr e ↦ or_right (f x) (list_any f (xs ++ ys)) (any_front f xs ys e)
]

any_back : {A : Type 0} (f : A → Bool) (xs ys : List A) → list_any f ys ≡ true → list_any f (xs ++ ys) ≡ true
any_back f [] ys h = h
any_back f (x ∷ xs) ys h = or_right (f x) (list_any f (xs ++ ys)) (any_back f xs ys h)

module _ {T : Type 0} (column first count : ℕ) (rows : List (SparseRow T)) (leaves : List (SparseLeaf T)) where
  abbrev rows_at : List ℕ → List (SparseRow T)
  rows_at numbers = opened_rows column first count rows (leaves_listed leaves numbers)

  one_first : (k : ℕ) (ks : List ℕ) → rows_at (k ∷ ks) ≡ rows_at (k ∷ []) ++ rows_at ks
  one_first k ks =
      let opened = opened_leaf column first count rows in
      let here = option_to_list (slice_get leaves k) in
      flat_map-append opened here (leaves_listed leaves ks)
      ∙ ap (λ ls. flat_map opened ls ++ rows_at ks) (sym (append-nil here))

  pub some_bare : (numbers : List ℕ) (i : ℕ) → i < length numbers → list_any lists_none (rows_at (get_or numbers i 0 ∷ [])) ≡ true → list_any lists_none (rows_at numbers) ≡ true
  some_bare [] i l h = absurd (omega (arith, l))
  some_bare (k ∷ ks) zero l h = ap (list_any lists_none) (one_first k ks) ∙ any_front lists_none (rows_at (k ∷ [])) (rows_at ks) h
  some_bare (k ∷ ks) (suc i) l h = ap (list_any lists_none) (one_first k ks) ∙ any_back lists_none (rows_at (k ∷ [])) (rows_at ks) (some_bare ks i (omega (arith, l)) h)

  pub one_bare : (k : ℕ) (l : SparseLeaf T) (r : SparseRow T) → slice_get leaves k ≡ Some l → slice_get rows l.row ≡ Some r → lists_none (opened_row column first count l r) ≡ true →
      list_any lists_none (rows_at (k ∷ [])) ≡ true
  one_bare k l r e f h = rw (e, f) (or_left (lists_none (opened_row column first count l r)) false h)

-- what is not long is empty
pub none_long : {A : Type 0} (xs : List A) (b : Bool) → b ≡ eqb (length xs) 0 → b ≡ true → xs ≡ []
none_long [] b e f = refl
none_long (x ∷ xs) b e f = absurd (grind (arith, nat_tests))
