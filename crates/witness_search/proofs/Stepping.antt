-- What the steps of the search keep, and what is found of the rows before from what is found of those behind.
use Rattle.std.proofs.Common.{◌≡◌, ◌≢◌, ◌<◌, ◌≤◌, ℕ, zero, suc, ◌+◌, Bool, List, [], ◌∷◌, ◌++◌, map, length, refl, sym, ap, subst, ◌∙◌, arith, length-append, IsTrue}
use Rattle.std.specs.List.{All, flat_map}
use Rattle.std.proofs.lemmas.List.Elements.{All-cons, All-nil, All-head, All-tail, All-append}
use Rattle.match_model.specs.Values.{MValue}
use Rattle.match_model.specs.Constructors.{MCtor}
use Rattle.match_model.specs.Contexts.{Context, Open}
use Rattle.match_model.specs.ContextLaws.{PartsLaw}
use Rattle.match_model.specs.Pieces.{ArePieces}
use Rattle.match_model.specs.Rows.{expand_row, row_rest, all_specialised, parts_open, part_open}
use Rattle.match_model.specs.Matrices.{expand_rows, specialised_rows, default_rows, column_at}
use Rattle.match_model.specs.Witness.{MWitness, AnyOf}
use Rattle.match_model.specs.WitnessList.{Witnesses, anything, by_pieces}
use Rattle.constructor_sets.specs.Present.{is_sharp_head}
use Rattle.pattern_matrix.specs.HeadRows.{cols, AllTyped, all_heads}
use Rattle.pattern_matrix.proofs.MatrixHeads.{expand_all, special_all}
use Rattle.pattern_matrix.proofs.Places.{length-below, expanded_typed, expanded_none, specials_typed, specials_types}
use Rattle.pattern_matrix.specs.Halving.{leaf_ctors}
use Rattle.pattern_matrix.specs.Sparse.{SparseRow, SparseLeaf, bare_row, row_views, leaf_views, AreBelow, AreOthers, Lacks, columns_from}
use Rattle.pattern_matrix.proofs.Having.{column_is}
use Rattle.witness_search.specs.Bares.{bares, wild_rests}
use Rattle.witness_search.specs.Found.{AreSplitWitnesses, IsEnterable}
use Rattle.witness_search.specs.Wells.{heads_over, leaf_heads, NoneOr, AreApart, IsWell, IsApart}
use Rattle.witness_search.proofs.Rebare.{rows_twice, rebare, repiece, start_alike, column_alike, rests_alike}
use Rattle.witness_search.proofs.Heads.{bare_typed, bare_none, wild_typed, none_same, sharp, heads_bare, heads_default, all_wild, some_built}

-- ---- numbers

pub both_apart : (c next : ℕ) (cs : List ℕ) → All (λ d. d < next) cs → All (λ d. d ≢ c) cs → AreOthers c next cs
both_apart c next [] a b = All-nil (λ d. (d < next) × (d ≢ c))
both_apart c next (d ∷ cs) a b =
    All-cons (λ x. (x < next) × (x ≢ c)) d cs (All-head (λ x. x < next) d cs a, All-head (λ x. x ≢ c) d cs b)
    (both_apart c next cs (All-tail (λ x. x < next) d cs a) (All-tail (λ x. x ≢ c) d cs b))

others_below : (c next : ℕ) (cs : List ℕ) → AreOthers c next cs → All (λ d. d < next) cs
others_below c next cs a = λ k d l. (a k d l).0

pub others_lack : (c next : ℕ) (cs : List ℕ) → AreOthers c next cs → Lacks c cs
others_lack c next cs a = λ k d l. (a k d l).1

more_below : (n m : ℕ) (cs : List ℕ) → n ≤ m → All (λ d. d < n) cs → All (λ d. d < m) cs
more_below n m cs l a = λ k d lt. let b = a k d lt in omega (arith, b, l)

columns_below : (first n m : ℕ) → first + n ≤ m → All (λ d. d < m) (columns_from first n)
columns_below first zero m l = All-nil (λ d. d < m)
columns_below first (suc n) m l = All-cons (λ d. d < m) first (columns_from (suc first) n) (omega (arith, l)) (columns_below (suc first) n m (omega (arith, l)))

columns_other : (c first n : ℕ) → c < first → All (λ d. d ≢ c) (columns_from first n)
columns_other c first zero l = All-nil (λ d. d ≢ c)
columns_other c first (suc n) l = All-cons (λ d. d ≢ c) first (columns_from (suc first) n) (λ e. omega (arith, e, l)) (columns_other c (suc first) n (omega (arith, l)))

below_other : (c : ℕ) (cs : List ℕ) (n : ℕ) → n ≤ c → All (λ d. d < n) cs → All (λ d. d ≢ c) cs
below_other c cs n l a = λ k d lt. let b = a k d lt in (λ e. omega (arith, b, e, l))

columns_apart : (first n : ℕ) (cs : List ℕ) → All (λ d. d < first) cs → AreApart cs → AreApart (columns_from first n ++ cs)
columns_apart first zero cs a b = b
columns_apart first (suc n) cs a b = (
  All-append (λ d. d ≢ first) (columns_from (suc first) n) cs (columns_other first (suc first) n (omega arith)) (below_other first cs first (omega arith) a),
  columns_apart (suc first) n cs (more_below first (suc first) cs (omega arith) a) b,
)

length_columns : (first n : ℕ) → length (columns_from first n) ≡ n
length_columns first zero = refl
length_columns first (suc n) = let e = length_columns (suc first) n in omega (arith, e)

module _ {T : Type 0} (IsType : T → Type 0) (cx : Context T) where
  -- ---- rows taken apart

  pub apart_is : (next number : ℕ) (o : Open T) (numbers : List ℕ) (places : List (Open T)) (rows : List (SparseRow T)) (leaves : List (SparseLeaf T)) (heads : List MCtor) →
      IsWell IsType cx next (number ∷ numbers) (o ∷ places) rows → All (λ l. l.row < length rows) leaves → heads ≡ leaf_ctors leaves →
      leaf_views numbers rows leaves ≡ map bare_row (expand_rows [] (row_views (number ∷ numbers) rows)) →
      IsApart IsType cx next number o numbers places rows leaves heads
  apart_is next number o numbers places rows leaves heads w within c e =
      let hss = heads_over (number ∷ numbers) rows in
      let column = column_at [] o in
      let same : leaf_heads numbers rows leaves ≡ bares (flat_map expand_row hss) =
      ap all_heads e ∙ heads_bare (expand_rows [] (row_views (number ∷ numbers) rows)) ∙ ap bares (expand_all [] (row_views (number ∷ numbers) rows)) in
      record {
        type = w.types.0;
        types = w.types.1;
        typed = subst (AllTyped cx (cols (o ∷ places))) (sym same) (bare_typed cx (cols (o ∷ places)) (flat_map expand_row hss) (expanded_typed cx column (cols places) hss w.typed));
        none_or = subst NoneOr (sym same) (bare_none (flat_map expand_row hss) (none_same cx (flat_map expand_row hss) (expanded_none cx column (cols places) hss w.typed)));
        column = c ∙ sym (column_is numbers rows leaves within);
        within = within;
        below = w.below;
        others = both_apart number next numbers (All-tail (λ d. d < next) number numbers w.numbers_below) w.apart.0;
        apart = w.apart.1;
        as_many = omega (arith, w.as_many);
        alike = ap bares same ∙ rows_twice (flat_map expand_row hss);
      }

  pub apart_sharp : (next number : ℕ) (o : Open T) (numbers : List ℕ) (places : List (Open T)) (rows : List (SparseRow T)) (leaves : List (SparseLeaf T)) (heads : List MCtor) →
      IsApart IsType cx next number o numbers places rows leaves heads → All (λ h. IsTrue (is_sharp_head (cx.set_of o.type) h)) heads
  apart_sharp next number o numbers places rows leaves heads a =
      subst (All (λ h. IsTrue (is_sharp_head (cx.set_of o.type) h))) (sym a.column) (sharp cx (column_at [] o) (cols places) (leaf_heads numbers rows leaves) a.typed a.none_or)

  -- ---- rows that are wild at the place

  behind_heads : (numbers : List ℕ) (rows new : List (SparseRow T)) (leaves : List (SparseLeaf T)) →
      row_views numbers new ≡ map bare_row (default_rows [] (leaf_views numbers rows leaves)) → heads_over numbers new ≡ bares (wild_rests (leaf_heads numbers rows leaves))
  behind_heads numbers rows new leaves e =
      ap all_heads e ∙ heads_bare (default_rows [] (leaf_views numbers rows leaves)) ∙ ap bares (heads_default [] (leaf_views numbers rows leaves))

  pub behind_well : (next number : ℕ) (o : Open T) (numbers : List ℕ) (places : List (Open T)) (rows new : List (SparseRow T)) (leaves : List (SparseLeaf T)) (heads : List MCtor) →
      IsApart IsType cx next number o numbers places rows leaves heads → row_views numbers new ≡ map bare_row (default_rows [] (leaf_views numbers rows leaves)) →
      AreBelow next new → IsWell IsType cx next numbers places new
  behind_well next number o numbers places rows new leaves heads a e b = record {
    types = a.types;
    typed = subst (AllTyped cx (cols places)) (sym (behind_heads numbers rows new leaves e))
        (bare_typed cx (cols places) (wild_rests (leaf_heads numbers rows leaves)) (wild_typed cx (column_at [] o) (cols places) (leaf_heads numbers rows leaves) a.typed));
    below = b;
    numbers_below = others_below number next numbers a.others;
    apart = a.apart;
    as_many = a.as_many;
  }

  pub behind_back : (IsValue : T → Bool → MValue → Type 0) (numbers : List ℕ) (places : List (Open T)) (rows new : List (SparseRow T)) (leaves : List (SparseLeaf T)) →
      row_views numbers new ≡ map bare_row (default_rows [] (leaf_views numbers rows leaves)) → (ws : List (List MWitness)) →
      Witnesses cx IsValue places (heads_over numbers new) ws → Witnesses cx IsValue places (wild_rests (leaf_heads numbers rows leaves)) ws
  behind_back IsValue numbers places rows new leaves e ws h =
      rebare cx IsValue h (wild_rests (leaf_heads numbers rows leaves)) (ap bares (behind_heads numbers rows new leaves e) ∙ rows_twice (wild_rests (leaf_heads numbers rows leaves)))

  -- ---- what is found before

  pub wild_back : (IsValue : T → Bool → MValue → Type 0) (next number : ℕ) (o : Open T) (numbers : List ℕ) (places : List (Open T)) (rows : List (SparseRow T)) (leaves : List (SparseLeaf T)) (heads : List MCtor) →
      IsApart IsType cx next number o numbers places rows leaves heads → 0 < length rows → heads ≡ [] → (ws : List (List MWitness)) →
      Witnesses cx IsValue places (wild_rests (leaf_heads numbers rows leaves)) ws →
      Witnesses cx IsValue (o ∷ places) (heads_over (number ∷ numbers) rows) (map (λ w. AnyOf ∷ w) ws)
  wild_back IsValue next number o numbers places [] leaves heads a l n ws h = absurd (omega (arith, l))
  wild_back IsValue next number o numbers places (r ∷ rows) leaves heads a l n ws h =
      let found = leaf_heads numbers (r ∷ rows) leaves in
      let before = flat_map expand_row (heads_over (number ∷ numbers) (r ∷ rows)) in
      let wild = all_wild found (sym a.column ∙ n) in
      anything o places _ (heads_over (number ∷ numbers) rows) ws (start_alike found before a.alike ∙ wild.0)
      (rebare cx IsValue (subst (λ x. Witnesses cx IsValue places x ws) wild.1 h) (map row_rest before) (rests_alike found before a.alike))

  pub split_back : (IsValue : T → Bool → MValue → Type 0) (next number : ℕ) (o : Open T) (numbers : List ℕ) (places : List (Open T)) (rows : List (SparseRow T)) (leaves : List (SparseLeaf T)) (heads : List MCtor) →
      IsApart IsType cx next number o numbers places rows leaves heads → 0 < length rows → 0 < length heads → (ws : List (List MWitness)) →
      AreSplitWitnesses cx IsValue o places (leaf_heads numbers rows leaves) ws →
      Witnesses cx IsValue (o ∷ places) (heads_over (number ∷ numbers) rows) ws
  split_back IsValue next number o numbers places [] leaves heads a l n ws h = absurd (omega (arith, l))
  split_back IsValue next number o numbers places (r ∷ rows) leaves heads a l n ws (pieces, p, h) =
      let found = leaf_heads numbers (r ∷ rows) leaves in
      let before = flat_map expand_row (heads_over (number ∷ numbers) (r ∷ rows)) in
      by_pieces o places _ (heads_over (number ∷ numbers) rows) pieces ws
      (start_alike found before a.alike ∙ some_built found (subst (λ cs. 0 < length cs) a.column n))
      (subst (λ cs. ArePieces (cx.set_of o.type) cs pieces) (column_alike found before a.alike) p)
      (repiece cx IsValue h before a.alike)

  -- ---- a piece that is entered

  piece_heads : (numbers all : List ℕ) (n : ℕ) (piece : MCtor) (rows new : List (SparseRow T)) (leaves : List (SparseLeaf T)) →
      row_views all new ≡ map bare_row (specialised_rows [] piece n (leaf_views numbers rows leaves)) →
      heads_over all new ≡ bares (all_specialised piece n (leaf_heads numbers rows leaves))
  piece_heads numbers all n piece rows new leaves e =
      ap all_heads e ∙ heads_bare (specialised_rows [] piece n (leaf_views numbers rows leaves)) ∙ ap bares (special_all [] piece n (leaf_views numbers rows leaves))

  -- as many columns as places are open once a piece is entered
  pub piece_many : (next number : ℕ) (o : Open T) (numbers : List ℕ) (places : List (Open T)) (rows : List (SparseRow T)) (leaves : List (SparseLeaf T)) (heads : List MCtor) (piece : MCtor) →
      IsApart IsType cx next number o numbers places rows leaves heads →
      length (columns_from next (cx.arity piece o.type) ++ numbers) ≡ length (parts_open cx o piece ++ places)
  piece_many next number o numbers places rows leaves heads piece a =
      let n = cx.arity piece o.type in
      let i = length-append (columns_from next n) numbers in
      let j = length_columns next n in
      let k = length-append (parts_open cx o piece) places in
      let m = length-below (part_open cx o piece) n in
      omega (arith, i, j, k, m, a.as_many)

  pub piece_well : (IsValue : T → Bool → MValue → Type 0) → PartsLaw IsType IsValue cx → (next number : ℕ) (o : Open T) (numbers : List ℕ) (places : List (Open T)) (rows new : List (SparseRow T)) (leaves : List (SparseLeaf T)) (heads : List MCtor) (piece : MCtor) →
      IsApart IsType cx next number o numbers places rows leaves heads → IsEnterable cx o piece →
      row_views (columns_from next (cx.arity piece o.type) ++ numbers) new ≡ map bare_row (specialised_rows [] piece (cx.arity piece o.type) (leaf_views numbers rows leaves)) →
      AreBelow (next + cx.arity piece o.type) new →
      IsWell IsType cx (next + cx.arity piece o.type) (columns_from next (cx.arity piece o.type) ++ numbers) (parts_open cx o piece ++ places) new
  piece_well IsValue law next number o numbers places rows new leaves heads piece a b e f =
      let n = cx.arity piece o.type in
      let found = leaf_heads numbers rows leaves in
      let below = others_below number next numbers a.others in
      record {
        types = specials_types IsType IsValue cx law o places piece b.0 (a.type, a.types);
        typed = subst (AllTyped cx (cols (parts_open cx o piece ++ places))) (sym (piece_heads numbers (columns_from next n ++ numbers) n piece rows new leaves e))
            (bare_typed cx (cols (parts_open cx o piece ++ places)) (all_specialised piece n found) (specials_typed IsType IsValue cx law o places piece found a.type b.0 a.typed));
        below = f;
        numbers_below = All-append (λ d. d < next + n) (columns_from next n) numbers (columns_below next n (next + n) (omega arith)) (more_below next (next + n) numbers (omega arith) below);
        apart = columns_apart next n numbers below a.apart;
        as_many = piece_many next number o numbers places rows leaves heads piece a;
      }

  pub piece_back : (IsValue : T → Bool → MValue → Type 0) (numbers all : List ℕ) (n : ℕ) (places : List (Open T)) (piece : MCtor) (rows new : List (SparseRow T)) (leaves : List (SparseLeaf T)) →
      row_views all new ≡ map bare_row (specialised_rows [] piece n (leaf_views numbers rows leaves)) → (ws : List (List MWitness)) →
      Witnesses cx IsValue places (heads_over all new) ws → Witnesses cx IsValue places (all_specialised piece n (leaf_heads numbers rows leaves)) ws
  piece_back IsValue numbers all n places piece rows new leaves e ws h =
      rebare cx IsValue h (all_specialised piece n (leaf_heads numbers rows leaves))
      (ap bares (piece_heads numbers all n piece rows new leaves e) ∙ rows_twice (all_specialised piece n (leaf_heads numbers rows leaves)))
