-- The steps of the search, as its code has them.
use Rattle.std.proofs.Common.{◌≡◌, ◌<◌, ℕ, ◌+◌, Bool, List, [], ◌∷◌, ◌++◌, true, map, length, refl, sym, ap, subst, arith}
use Rattle.std.specs.List.{All, list_any}
use Rattle.std.proofs.lemmas.List.{length-map}
use Rattle.match_model.specs.Values.{MValue}
use Rattle.match_model.specs.Constructors.{MCtor}
use Rattle.match_model.specs.Contexts.{Context, Open}
use Rattle.match_model.specs.ContextLaws.{PartsLaw, ValuesLaw}
use Rattle.match_model.specs.ArenaPatterns.{MDeArm}
use Rattle.match_model.specs.Matrices.{specialised_rows}
use Rattle.match_model.specs.Places.{MStep}
use Rattle.match_model.specs.WellTyped.{IsHeadTyped}
use Rattle.match_model.specs.Rows.{parts_open, all_specialised}
use Rattle.match_model.specs.Witness.{MWitness, AnyOf}
use Rattle.match_model.specs.WitnessList.{Witnesses}
use Rattle.pattern_matrix.specs.Columns.{plain_column}
use Rattle.pattern_matrix.specs.Halving.{leaf_ctors}
use Rattle.pattern_matrix.specs.Opening.{opened_rows}
use Rattle.pattern_matrix.specs.Sparse.{SparseRow, bare_head, bare_row, row_views, leaf_views, leaves_listed, columns_from, AreBelow, AreOthers, AreParts, IsLeafOf}
use Rattle.pattern_matrix.specs.Views.{plain_row, plain_rows, plain_leaf, plain_leaves}
use Rattle.pattern_matrix.specs.declared.rows.Leaf.{Leaf}
use Rattle.pattern_matrix.specs.declared.rows.Row.{Row}
use Rattle.witness_search.specs.Askable.{AreAskable, IsAskable, IsValued}
use Rattle.witness_search.specs.Bares.{wild_rests}
use Rattle.witness_search.specs.Found.{AreSplitWitnesses, IsEnterable, IsOfPiece, ArePieceLeaves}
use Rattle.witness_search.specs.Opened.{places_of, numbers_of}
use Rattle.witness_search.specs.Starts.{lists_none}
use Rattle.witness_search.specs.Wells.{heads_over, apart_heads, IsWell, IsTakenApart}
use Rattle.witness_search.specs.declared.apart.Apart.{Apart}
use Rattle.witness_search.specs.declared.opened.Opened.{Opened}
use Rattle.pattern_matrix.proofs.Opened.{opened_views}
use Rattle.witness_search.proofs.Askable.{entered_askable}
use Rattle.witness_search.proofs.Ends.{bare_found}
use Rattle.witness_search.proofs.Leaves.{leaves_typed, parts_fit, listed_fit, rows_of_piece}
use Rattle.witness_search.proofs.Plain.{within_code}
use Rattle.witness_search.proofs.Stepping.{wild_back, split_back, piece_well, piece_many, piece_back}

module _ {T : Type 0} (IsType : T → Type 0) (cx : Context T) (IsValue : T → Bool → MValue → Type 0) where
  -- what is found of rows and places, by what stands for them
  moved : (others : List (Opened T)) (rows new : List (Row T)) (place first : Opened T) → rows ≡ new → place ≡ first → (ws : List (List MWitness)) →
      Witnesses cx IsValue (plain_column place.column ∷ places_of others) (heads_over (place.number ∷ numbers_of others) (plain_rows rows)) ws →
      Witnesses cx IsValue (plain_column first.column ∷ places_of others) (heads_over (first.number ∷ numbers_of others) (plain_rows new)) ws
  moved others rows new place first e f ws h =
      subst (λ (x : Opened T). Witnesses cx IsValue (plain_column x.column ∷ places_of others) (heads_over (x.number ∷ numbers_of others) (plain_rows new)) ws) f
      (subst (λ (x : List (Row T)). Witnesses cx IsValue (plain_column place.column ∷ places_of others) (heads_over (place.number ∷ numbers_of others) (plain_rows x)) ws) e h)

  some_rows : (rows new : List (Row T)) → rows ≡ new → 0 < length new → 0 < length (plain_rows rows)
  some_rows rows new e l = let a = length-map rows plain_row in omega (arith, a, l, ap length e)

  pub wild_found : (others : List (Opened T)) (e : Apart T) (rows : List (Row T)) (place : Opened T) → e.rows.items ≡ rows → e.place ≡ place →
      IsTakenApart IsType cx others e → 0 < length rows → leaf_ctors (plain_leaves e.leaves.items) ≡ [] → (ws : List (List MWitness)) →
      Witnesses cx IsValue (places_of others) (wild_rests (apart_heads others e)) ws →
      Witnesses cx IsValue (plain_column place.column ∷ places_of others) (heads_over (place.number ∷ numbers_of others) (plain_rows rows)) (map (λ w. AnyOf ∷ w) ws)
  wild_found others e rows place r p a l n ws h =
      moved others e.rows.items rows e.place place r p (map (λ w. AnyOf ∷ w) ws)
      (wild_back IsType cx IsValue e.next e.place.number (plain_column e.place.column) (numbers_of others) (places_of others) (plain_rows e.rows.items) (plain_leaves e.leaves.items) (leaf_ctors (plain_leaves e.leaves.items))
      a (some_rows e.rows.items rows r l) n ws h)

  pub split_found : (others : List (Opened T)) (e : Apart T) (rows : List (Row T)) (place : Opened T) → e.rows.items ≡ rows → e.place ≡ place →
      IsTakenApart IsType cx others e → 0 < length rows → 0 < length (leaf_ctors (plain_leaves e.leaves.items)) → (ws : List (List MWitness)) →
      AreSplitWitnesses cx IsValue (plain_column e.place.column) (places_of others) (apart_heads others e) ws →
      Witnesses cx IsValue (plain_column place.column ∷ places_of others) (heads_over (place.number ∷ numbers_of others) (plain_rows rows)) ws
  split_found others e rows place r p a l n ws h =
      moved others e.rows.items rows e.place place r p ws
      (split_back IsType cx IsValue e.next e.place.number (plain_column e.place.column) (numbers_of others) (places_of others) (plain_rows e.rows.items) (plain_leaves e.leaves.items) (leaf_ctors (plain_leaves e.leaves.items))
      a (some_rows e.rows.items rows r l) n ws h)

  -- the rows of the piece, by the leaves and the columns that code has
  abbrev ArePieceRows : List (Opened T) → Apart T → MCtor → ℕ → List ℕ → List (SparseRow T) → Type 0
  ArePieceRows others e piece n numbers new =
      row_views numbers new ≡ map bare_row (specialised_rows [] piece n (leaf_views (numbers_of others) (plain_rows e.rows.items) (plain_leaves e.leaves.items)))

  pub entered_well : PartsLaw IsType IsValue cx → (others : List (Opened T)) (e : Apart T) (piece : MCtor) (new : List (SparseRow T)) (n : ℕ) (numbers : List ℕ) (places : List (Open T)) →
      IsTakenApart IsType cx others e → IsEnterable cx (plain_column e.place.column) piece → n ≡ cx.arity piece e.place.column.ty →
      numbers ≡ columns_from e.next n ++ numbers_of others → places ≡ parts_open cx (plain_column e.place.column) piece ++ places_of others →
      ArePieceRows others e piece n (columns_from e.next n ++ numbers_of others) new → AreBelow (e.next + n) new → IsWell IsType cx (e.next + n) numbers places new
  entered_well law others e piece new n numbers places a b en ens eps er eb =
      let o = plain_column e.place.column in
      let w = piece_well IsType cx IsValue law e.next e.place.number o (numbers_of others) (places_of others) (plain_rows e.rows.items) new (plain_leaves e.leaves.items) (leaf_ctors (plain_leaves e.leaves.items)) piece a b
      (subst (λ k. ArePieceRows others e piece k (columns_from e.next k ++ numbers_of others) new) en er) (subst (λ k. AreBelow (e.next + k) new) en eb) in
      subst (λ ps. IsWell IsType cx (e.next + n) numbers ps new) (sym eps)
      (subst (λ ns. IsWell IsType cx (e.next + n) ns (parts_open cx o piece ++ places_of others) new) (sym ens)
      (subst (λ k. IsWell IsType cx (e.next + k) (columns_from e.next k ++ numbers_of others) (parts_open cx o piece ++ places_of others) new) (sym en) w))

  pub entered_back : (others : List (Opened T)) (e : Apart T) (piece : MCtor) (new : List (SparseRow T)) (n : ℕ) (numbers : List ℕ) (places : List (Open T)) →
      n ≡ cx.arity piece e.place.column.ty → numbers ≡ columns_from e.next n ++ numbers_of others → places ≡ parts_open cx (plain_column e.place.column) piece ++ places_of others →
      ArePieceRows others e piece n (columns_from e.next n ++ numbers_of others) new → (ws : List (List MWitness)) → Witnesses cx IsValue places (heads_over numbers new) ws →
      IsOfPiece cx IsValue (plain_column e.place.column) (places_of others) (apart_heads others e) piece ws
  entered_back others e piece new n numbers places en ens eps er ws h =
      let o = plain_column e.place.column in
      let k = piece_back IsType cx IsValue (numbers_of others) numbers n places piece (plain_rows e.rows.items) new (plain_leaves e.leaves.items)
      (subst (λ ns. ArePieceRows others e piece n ns new) (sym ens) er) ws h in
      subst (λ m. Witnesses cx IsValue (parts_open cx o piece ++ places_of others) (all_specialised piece m (apart_heads others e)) ws) en
      (subst (λ ps. Witnesses cx IsValue ps (all_specialised piece n (apart_heads others e)) ws) eps k)

  -- the leaves' heads are typed
  pub apart_typed : (others : List (Opened T)) (e : Apart T) → IsTakenApart IsType cx others e →
      All (λ l. IsHeadTyped cx e.place.column.ty (bare_head l.head)) (plain_leaves e.leaves.items)
  apart_typed others e a =
      leaves_typed cx (plain_column e.place.column) (places_of others) (numbers_of others) (plain_rows e.rows.items) (plain_leaves e.leaves.items) a.within a.typed

  -- what is asked of the leaves of a piece
  pub parts_ready : PartsLaw IsType IsValue cx → (others : List (Opened T)) (e : Apart T) (piece : MCtor) (n : ℕ) (found : List ℕ) (leaves : List (Leaf T)) → leaves ≡ e.leaves.items →
      IsTakenApart IsType cx others e → IsEnterable cx (plain_column e.place.column) piece → n ≡ cx.arity piece e.place.column.ty → ArePieceLeaves piece (plain_leaves e.leaves.items) found →
      All (AreParts n (plain_leaves leaves)) found
  parts_ready law others e piece n found leaves el a b en f =
      subst (λ (ls : List (Leaf T)). All (AreParts n (plain_leaves ls)) found) (sym el)
      (subst (λ k. All (AreParts k (plain_leaves e.leaves.items)) found) (sym en)
      (parts_fit IsType IsValue cx law e.place.column.ty piece a.type b.0 (plain_leaves e.leaves.items) found (apart_typed others e a) f.each))

  pub numbers_ready : (e : Apart T) (piece : MCtor) (found : List ℕ) (leaves : List (Leaf T)) → leaves ≡ e.leaves.items → ArePieceLeaves piece (plain_leaves e.leaves.items) found →
      All (λ k. k < length leaves) found
  numbers_ready e piece found leaves el f =
      λ k d l. let w = f.within k d l in omega (arith, w, length-map e.leaves.items plain_leaf, ap length el)

  pub rows_ready : (others : List (Opened T)) (e : Apart T) (lent : List (Row T)) (leaves : List (Leaf T)) → lent ≡ e.rows.items → leaves ≡ e.leaves.items → IsTakenApart IsType cx others e →
      All (λ l. l.row < length lent) leaves
  rows_ready others e lent leaves er el a =
      subst (λ (rs : List (Row T)). All (λ l. l.row < length rs) leaves) (sym er)
      (subst (λ (ls : List (Leaf T)). All (λ l. l.row < length e.rows.items) ls) (sym el) (within_code e.rows.items e.leaves.items a.within))

  -- the rows that the leaves of a piece give
  pub rows_given : PartsLaw IsType IsValue cx → (others : List (Opened T)) (e : Apart T) (piece : MCtor) (n : ℕ) (found : List ℕ) (lent : List (Row T)) (leaves : List (Leaf T)) (new : List (SparseRow T)) →
      lent ≡ e.rows.items → leaves ≡ e.leaves.items →
      IsTakenApart IsType cx others e → IsEnterable cx (plain_column e.place.column) piece → n ≡ cx.arity piece e.place.column.ty → ArePieceLeaves piece (plain_leaves e.leaves.items) found →
      ((place : List MStep) (p : MCtor) (os : List ℕ) → AreBelow e.next (plain_rows lent) → AreOthers e.place.number e.next os → All (IsLeafOf p n) (leaves_listed (plain_leaves leaves) found) →
      row_views (columns_from e.next n ++ os) new ≡ map bare_row (specialised_rows place p n (leaf_views os (plain_rows lent) (leaves_listed (plain_leaves leaves) found)))) →
      ArePieceRows others e piece n (columns_from e.next n ++ numbers_of others) new
  rows_given law others e piece n found lent leaves new er el a b en f g =
      let fit = subst (λ k. All (IsLeafOf piece k) (leaves_listed (plain_leaves e.leaves.items) found)) (sym en)
      (listed_fit IsType IsValue cx law e.place.column.ty piece a.type b.0 (plain_leaves e.leaves.items) found (apart_typed others e a) f) in
      let below = subst (λ (rs : List (Row T)). AreBelow e.next (plain_rows rs)) (sym er) a.below in
      let here = g [] piece (numbers_of others) below a.others (subst (λ (ls : List (Leaf T)). All (IsLeafOf piece n) (leaves_listed (plain_leaves ls) found)) (sym el) fit) in
      rows_of_piece piece n (numbers_of others) (columns_from e.next n ++ numbers_of others) (plain_rows e.rows.items) new (plain_leaves e.leaves.items) found f
      (subst (λ (rs : List (Row T)). row_views (columns_from e.next n ++ numbers_of others) new ≡ map bare_row (specialised_rows [] piece n (leaf_views (numbers_of others) (plain_rows rs) (leaves_listed (plain_leaves e.leaves.items) found)))) er
      (subst (λ (ls : List (Leaf T)). row_views (columns_from e.next n ++ numbers_of others) new ≡ map bare_row (specialised_rows [] piece n (leaf_views (numbers_of others) (plain_rows lent) (leaves_listed (plain_leaves ls) found)))) el here))

  -- rows of a piece may be asked for where those of the place may be
  pub entered_ready : ValuesLaw IsType IsValue cx → PartsLaw IsType IsValue cx → (arms : List (MDeArm T)) (others : List (Opened T)) (e : Apart T) (piece : MCtor) (new : List (SparseRow T)) (n : ℕ) (numbers : List ℕ) (places : List (Open T)) (found : List ℕ) →
      IsTakenApart IsType cx others e → IsEnterable cx (plain_column e.place.column) piece → ArePieceLeaves piece (plain_leaves e.leaves.items) found → n ≡ cx.arity piece e.place.column.ty →
      numbers ≡ columns_from e.next n ++ numbers_of others → places ≡ parts_open cx (plain_column e.place.column) piece ++ places_of others →
      new ≡ opened_rows e.place.number e.next n (plain_rows e.rows.items) (leaves_listed (plain_leaves e.leaves.items) found) →
      IsValued IsValue (plain_column e.place.column) piece → IsAskable IsValue arms others e → AreAskable IsValue arms numbers places new
  entered_ready values law arms others e piece new n numbers places found a b f en ens eps er v k =
      let o = plain_column e.place.column in
      let fit = listed_fit IsType IsValue cx law e.place.column.ty piece a.type b.0 (plain_leaves e.leaves.items) found (apart_typed others e a) f in
      let here = entered_askable arms IsValue IsType cx values law e.next e.place.number o (numbers_of others) (places_of others) piece (plain_rows e.rows.items) new (plain_leaves e.leaves.items) found a.type b.0 f fit
      (subst (λ m. new ≡ opened_rows e.place.number e.next m (plain_rows e.rows.items) (leaves_listed (plain_leaves e.leaves.items) found)) en er) v k in
      subst (λ ps. AreAskable IsValue arms numbers ps new) (sym eps)
      (subst (λ ns. AreAskable IsValue arms ns (parts_open cx o piece ++ places_of others) new) (sym ens)
      (subst (λ m. AreAskable IsValue arms (columns_from e.next m ++ numbers_of others) (parts_open cx o piece ++ places_of others) new) (sym en) here))

  -- a row that lists no head leaves nothing of the piece
  pub covered_piece : PartsLaw IsType IsValue cx → (others : List (Opened T)) (e : Apart T) (piece : MCtor) (found : List ℕ) → IsTakenApart IsType cx others e →
      IsEnterable cx (plain_column e.place.column) piece → ArePieceLeaves piece (plain_leaves e.leaves.items) found →
      ((first count : ℕ) → list_any lists_none (opened_rows e.place.number first count (plain_rows e.rows.items) (leaves_listed (plain_leaves e.leaves.items) found)) ≡ true) →
      IsOfPiece cx IsValue (plain_column e.place.column) (places_of others) (apart_heads others e) piece []
  covered_piece law others e piece found a b f h =
      let n = cx.arity piece e.place.column.ty in
      let here = leaves_listed (plain_leaves e.leaves.items) found in
      let new = opened_rows e.place.number e.next n (plain_rows e.rows.items) here in
      let numbers = columns_from e.next n ++ numbers_of others in
      let places = parts_open cx (plain_column e.place.column) piece ++ places_of others in
      entered_back others e piece new n numbers places refl refl refl
      (rows_given law others e piece n found e.rows.items e.leaves.items new refl refl a b refl f
      (λ place p os below apart are. opened_views place p e.place.number e.next n os apart (plain_rows e.rows.items) here below are)) []
      (bare_found cx IsValue places numbers new
      (piece_many IsType cx e.next e.place.number (plain_column e.place.column) (numbers_of others) (places_of others) (plain_rows e.rows.items) (plain_leaves e.leaves.items) (leaf_ctors (plain_leaves e.leaves.items)) piece a)
      (h e.next n))
