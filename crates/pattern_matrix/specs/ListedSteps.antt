-- What the steps of a submatrix do, told by rows that list their heads.
use Rattle.std.specs.Prelude.{◌≡◌, ◌⊎◌, ◌↔◌, ◌<◌, ◌+◌, ℕ, Bool, true, false, List, [], ◌∷◌, ◌++◌, map, filter, length, nat_eq, replicate, slice_get, slice_index_or, IsTrue}
use Rattle.std.specs.List.{All, list_all, list_any}
use Rattle.match_model.specs.Values.{MValue}
use Rattle.match_model.specs.Witness.{MWitness}
use Rattle.match_model.specs.WitnessList.{Witnesses}
use Rattle.match_model.specs.Constructors.{MCtor, belongs}
use Rattle.match_model.specs.ArenaPatterns.{MDeMatch}
use Rattle.match_model.specs.Contexts.{Context, Open}
use Rattle.match_model.specs.Rows.{Head as MHead, is_wild, starts_wild, parts_open}
use Rattle.constructor_sets.specs.Present.{is_sharp_head}
use Rattle.pattern_matrix.specs.HeadRows.{all_heads}
use Rattle.pattern_matrix.specs.Counting.{Question, WantedRow, counts}
use Rattle.pattern_matrix.specs.Searching.{Submatrix, heads_in, weight_of, IsFit, Comes, SomeComes, apart, left_over, entered, settled, first_ctors, IsSplit, AreListed, IsLookedAt, first_submatrix}
use Rattle.pattern_matrix.specs.Sparse.{SparseRow, SparseLeaf, bare_head, row_view, row_views, columns_from, AreOver, AreBelow, AreOthers, Lacks, head_has, leaf_parts, leaves_listed, IsLeafOf, AreParts}
use Rattle.pattern_matrix.specs.Opening.{opened_rows}
use Rattle.pattern_matrix.specs.Spreading.{all_apart}
use Rattle.pattern_matrix.specs.Starting.{starting_rows}
use Rattle.pattern_matrix.specs.Halving.{leaf_ctors, AreLeafSpans, span_has, leaves_with}
use Rattle.pattern_matrix.specs.Typing.{AreLeavesTyped, AreViewsTyped}
use Rattle.pattern_matrix.specs.Wanted.{wanted_views, bare_wanted, bare_submatrix, wanted_dropped, wanted_opened}

-- a submatrix whose rows are made bare says what it said, and is as heavy; and it may be made so after each step: a submatrix
-- is looked at where its children are listed from what is left of it, made bare
pub record BareSubmatricesAreAlike {T : Type 0} (IsType : T → Type 0) (IsValue : T → Bool → MValue → Type 0) (cx : Context T) : Type 0 where
  pub same_counts : (q : Question) (rows : List (WantedRow T)) (vs : List MValue) → counts q (map bare_wanted rows) vs ≡ counts q rows vs
  pub fit : (s : Submatrix T) → IsFit IsType IsValue cx s → IsFit IsType IsValue cx (bare_submatrix s)
  pub comes : (s : Submatrix T) (q : Question) → Comes IsValue q s ↔ Comes IsValue q (bare_submatrix s)
  pub weighs : (s : Submatrix T) → weight_of (bare_submatrix s) ≡ weight_of s
  pub by_split : (old now : Question → Bool) (o : Open T) (places : List (Open T)) (rows : List (WantedRow T)) (left new : List (Submatrix T)) →
      IsFit IsType IsValue cx (record { places = o ∷ places; rows = rows }) → list_all starts_wild (heads_in rows) ≡ false →
      IsSplit IsValue cx o places (apart rows) left → AreListed now (map bare_submatrix left) new →
      ((q : Question) → old q ≡ true → now q ≡ true) → ((q : Question) → now q ≡ true → (old q ≡ true) ⊎ SomeComes IsValue q (map bare_submatrix left)) →
      IsLookedAt IsType IsValue cx old now (record { places = o ∷ places; rows = rows }) new

-- rows of heads have the witnesses that others have which are the same once they are made bare
abbrev pub AlikeRowsHaveTheWitnesses : {T : Type 0} → (T → Bool → MValue → Type 0) → Context T → Type 0
AlikeRowsHaveTheWitnesses {T} IsValue cx =
    (places : List (Open T)) (xs ys : List (List (MHead T))) (ws : List (List MWitness)) → Witnesses cx IsValue places xs ws →
    map (map bare_head) ys ≡ map (map bare_head) xs → Witnesses cx IsValue places ys ws

-- the leaves of well-typed rows are well typed; then their constructors are heads of the type's set, and each that has a piece
-- of it writes as many parts as the piece has
pub record LeavesAreTyped {T : Type 0} (IsType : T → Type 0) (cx : Context T) : Type 0 where
  pub typed : (o : Open T) (places : List (Open T)) (column : ℕ) (others : List ℕ) (rows : List (SparseRow T)) →
      AreViewsTyped cx (o ∷ places) (column ∷ others) rows →
      AreLeavesTyped cx o.type (all_apart column 0 rows)
  pub sharp : (t : T) (leaves : List (SparseLeaf T)) → AreLeavesTyped cx t leaves → All (λ c. IsTrue (is_sharp_head (cx.set_of t) c)) (leaf_ctors leaves)
  pub parts : (t : T) (piece : MCtor) → IsType t → IsTrue (belongs (cx.set_of t) piece) → (leaves : List (SparseLeaf T)) → AreLeavesTyped cx t leaves →
      All (λ l. head_has piece l.head ≡ true → length (leaf_parts (cx.arity piece t) l.head) ≡ cx.arity piece t) leaves

-- numbers of leaves whose spans have a piece: they are numbers of leaves, which have the piece, and where such leaves write so
-- many parts these do. The numbers that halving finds for the piece are such
pub record NumbersHaveThePiece (T : Type 0) : Type 0 where
  pub found : (i : ℕ) (spans : List (ℕ × ℕ)) → All (λ k. span_has i (slice_get spans k) ≡ true) (leaves_with spans i)
  pub below : (pieces : List MCtor) (i : ℕ) (d : MCtor) → i < length pieces → (leaves : List (SparseLeaf T)) (spans : List (ℕ × ℕ)) →
      AreLeafSpans pieces leaves spans →
      (numbers : List ℕ) → All (λ k. span_has i (slice_get spans k) ≡ true) numbers → All (λ k. k < length leaves) numbers
  pub parts : (pieces : List MCtor) (i : ℕ) (d : MCtor) → i < length pieces → (leaves : List (SparseLeaf T)) (spans : List (ℕ × ℕ)) →
      AreLeafSpans pieces leaves spans →
      (count : ℕ) → All (λ l. head_has (slice_index_or pieces i d) l.head ≡ true → length (leaf_parts count l.head) ≡ count) leaves →
      (numbers : List ℕ) → All (λ k. span_has i (slice_get spans k) ≡ true) numbers → All (AreParts count leaves) numbers
  pub leaf_of : (pieces : List MCtor) (i : ℕ) (d : MCtor) → i < length pieces → (leaves : List (SparseLeaf T)) (spans : List (ℕ × ℕ)) →
      AreLeafSpans pieces leaves spans →
      (count : ℕ) → All (λ l. head_has (slice_index_or pieces i d) l.head ≡ true → length (leaf_parts count l.head) ≡ count) leaves →
      (numbers : List ℕ) → All (λ k. span_has i (slice_get spans k) ≡ true) numbers →
      All (IsLeafOf (slice_index_or pieces i d) count) (leaves_listed leaves numbers)

-- the steps of a submatrix whose rows list their heads, its first column being this one: what is left of it, made bare, has
-- the rows of the leaves
pub record StepsAreListed (T : Type 0) : Type 0 where
  -- the constructors of the first place, and whether all are wild there, before and after or-patterns are taken apart
  pub ctors : (column : ℕ) (others : List ℕ) (wanted : List Bool) (rows : List (SparseRow T)) → length wanted ≡ length rows →
      first_ctors (apart (wanted_views (column ∷ others) wanted rows)) ≡ leaf_ctors (all_apart column 0 rows)
  pub wild : (column : ℕ) (others : List ℕ) (wanted : List Bool) (rows : List (SparseRow T)) → length wanted ≡ length rows →
      list_all starts_wild (heads_in (apart (wanted_views (column ∷ others) wanted rows))) ≡ list_all (λ l. is_wild l.head) (all_apart column 0 rows)
  pub none : (leaves : List (SparseLeaf T)) → (leaf_ctors leaves ≡ []) ↔ (list_all (λ l. is_wild l.head) leaves ≡ true)
  pub some : (column : ℕ) (others columns : List ℕ) (wanted : List Bool) (rows : List (SparseRow T)) → length wanted ≡ length rows → AreOver columns rows →
      list_any (λ r. list_any (λ h. nat_eq h.0 column) r.heads) rows ≡ true →
      list_all starts_wild (heads_in (wanted_views (column ∷ others) wanted rows)) ≡ false
  -- the rows without the column
  pub drops : (places : List (Open T)) (column : ℕ) (others : List ℕ) (wanted : List Bool) (rows : List (SparseRow T)) → length wanted ≡ length rows →
      Lacks column others →
      bare_submatrix (left_over places (apart (wanted_views (column ∷ others) wanted rows)))
      ≡ record { places = places; rows = wanted_dropped others column wanted rows (filter (λ l. is_wild l.head) (all_apart column 0 rows)) }
  -- the rows of a piece
  pub enters : (cx : Context T) (o : Open T) (places : List (Open T)) (piece : MCtor) (column first : ℕ) (others : List ℕ)
      (wanted : List Bool) (rows : List (SparseRow T)) →
      length wanted ≡ length rows → AreOthers column first others → AreBelow first rows →
      All (λ l. head_has piece l.head ≡ true → length (leaf_parts (cx.arity piece o.type) l.head) ≡ cx.arity piece o.type) (all_apart column 0 rows) →
      bare_submatrix (entered cx o places (apart (wanted_views (column ∷ others) wanted rows)) piece)
      ≡ record {
        places = parts_open cx o piece ++ places;
        rows = wanted_opened (columns_from first (cx.arity piece o.type) ++ others) column first (cx.arity piece o.type) wanted false rows
            (filter (λ l. head_has piece l.head) (all_apart column 0 rows));
      }
  -- and where wildcards are looked for elsewhere
  pub settles : (cx : Context T) (o : Open T) (places : List (Open T)) (piece : MCtor) (column first : ℕ) (others : List ℕ)
      (wanted : List Bool) (rows : List (SparseRow T)) →
      length wanted ≡ length rows → AreOthers column first others → AreBelow first rows →
      All (λ l. head_has piece l.head ≡ true → length (leaf_parts (cx.arity piece o.type) l.head) ≡ cx.arity piece o.type) (all_apart column 0 rows) →
      bare_submatrix (entered cx o places (settled (apart (wanted_views (column ∷ others) wanted rows))) piece)
      ≡ record {
        places = parts_open cx o piece ++ places;
        rows = wanted_opened (columns_from first (cx.arity piece o.type) ++ others) column first (cx.arity piece o.type) wanted true rows
            (filter (λ l. head_has piece l.head) (all_apart column 0 rows));
      }

-- the row behind all arms
abbrev pub behind_row : {T : Type 0} → (arm : ℕ) → SparseRow T
behind_row arm = record { heads = []; arm = arm; guarded = false; chosen = [] }

-- the rows over columns, one by one
pub record ViewsAreListed (T : Type 0) : Type 0 where
  pub heads : (columns : List ℕ) (wanted : List Bool) (rows : List (SparseRow T)) → length wanted ≡ length rows →
      heads_in (wanted_views columns wanted rows) ≡ all_heads (row_views columns rows)
  pub push : (columns : List ℕ) (wanted : List Bool) (rows : List (SparseRow T)) (w : Bool) (r : SparseRow T) → length wanted ≡ length rows →
      wanted_views columns (wanted ++ w ∷ []) (rows ++ r ∷ []) ≡ wanted_views columns wanted rows ++ record { row = row_view columns r; wanted = w } ∷ []
  pub long : (columns : List ℕ) (r : SparseRow T) → length (row_view columns r).heads ≡ length columns
  -- a row that lists nothing has wildcards alone
  pub bare : (columns : List ℕ) (r : SparseRow T) → r.heads ≡ [] → list_all is_wild (row_view columns r).heads ≡ true
  -- as many rows are opened as there are leaves
  pub opened : (column first count : ℕ) (rows : List (SparseRow T)) (leaves : List (SparseLeaf T)) → All (λ l. l.row < length rows) leaves →
      length (opened_rows column first count rows leaves) ≡ length leaves
  pub listed : (leaves : List (SparseLeaf T)) (numbers : List ℕ) → All (λ k. k < length leaves) numbers → length (leaves_listed leaves numbers) ≡ length numbers
  -- the first submatrix of a match, made bare, has the rows of its arms and the one behind them, all of them wanted
  pub first : (m : MDeMatch T) →
      bare_submatrix (first_submatrix m)
      ≡ record {
        places = record { type = m.type; sure = m.sure } ∷ [];
        rows = wanted_views (0 ∷ []) (replicate (length m.arms + 1) true) (starting_rows 0 m.arms ++ behind_row (length m.arms) ∷ []);
      }
