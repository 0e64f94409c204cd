-- What the code asks of the column that is looked at.
use Rattle.std.proofs.Common.{◌≡◌, ◌<◌, ℕ, Bool, true, List, [], ◌∷◌, map, length, get_or, Some, slice_get, refl, sym, ap, ◌∙◌, subst, arith, IsTrue}
use Rattle.std.specs.List.{All}
use Rattle.std.proofs.lemmas.List.{length-map}
use Rattle.std.proofs.lemmas.Option.{slice_get_within}
use Rattle.match_model.specs.Values.{MValue}
use Rattle.match_model.specs.Constructors.{MCtor, MSet, SingleSet, PointSet, TextSet, FlagSet, OpaqueSet, NothingSet, VariantSet, NumberSet, RowSet}
use Rattle.match_model.specs.Contexts.{Context}
use Rattle.match_model.specs.ContextLaws.{ValuesLaw}
use Rattle.match_model.specs.DecisionTrees.{is_switchless}
use Rattle.match_model.specs.Keys.{Decision}
use Rattle.match_model.specs.Lowering.{ctors_at}
use Rattle.match_model.specs.Matrices.{MColumn, part_columns}
use Rattle.match_model.specs.Pieces.{ArePieces}
use Rattle.match_model.specs.RowOrder.{AreInOrder}
use Rattle.match_model.specs.Steps.{expand_head, specialise_head, default_head, rows_at, replaced_at}
use Rattle.match_model.proofs.Basics.{untrue}
use Rattle.constructor_sets.specs.Columns.{is_head, plain_piece}
use Rattle.constructor_sets.specs.Present.{is_sharp_head}
use Rattle.constructor_sets.specs.declared.piece.Piece.{Piece}
use Rattle.pat_context.specs.Views.{plain_ctor}
use Rattle.keyed_rows.proofs.Lists.{every-to}
use Rattle.keyed_matrix.specs.Steps.{AreLonger}
use Rattle.keyed_matrix.specs.Views.{plain_column}
use Rattle.keyed_matrix.specs.declared.rows.KeyedColumn.{KeyedColumn}
use Rattle.tree_laws.proofs.InColumn.{all-from}
use Rattle.tree_laws.proofs.PiecesFit.{IsColumnCtor, column-ctors, column-heads, type-of}
use Rattle.decision_tree.specs.declared.frames.Matrix.{Matrix}
use Rattle.decision_tree.specs.Matrices.{matrix_columns, matrix_rows, IsReadyMatrix, IsEntered, IsDropped, IsExpanded}
use Rattle.decision_tree.proofs.Reading.{read-map}
use Rattle.decision_tree.proofs.TypedRows.{longer-typed, typed-of}

-- one thing stands at a number
pub one-at : {A : Type 0} (xs : List A) (i : ℕ) (x y : A) → slice_get xs i ≡ Some x → slice_get xs i ≡ Some y → x ≡ y
one-at xs i x y a b = let e : Some x ≡ Some y = sym a ∙ b in cc

sharp-by : (set : MSet) (k : MCtor) → IsColumnCtor set k → is_sharp_head set k ≡ true
sharp-by set k h = rw (h.belong, h.written) refl

-- a switchless type has one piece
pub one-piece : (set : MSet) (heads pieces : List MCtor) → is_switchless set ≡ true → ArePieces set heads pieces →
    (p : MCtor) × (pieces ≡ p ∷ [])
one-piece SingleSet heads pieces s a = (_, a)
one-piece PointSet heads pieces s a = (_, a)
one-piece (RowSet (Some n)) heads pieces s a = (_, a)
one-piece (RowSet _) heads pieces s a = untrue s
one-piece TextSet heads pieces s a = untrue s
one-piece FlagSet heads pieces s a = untrue s
one-piece OpaqueSet heads pieces s a = untrue s
one-piece NothingSet heads pieces s a = untrue s
one-piece (VariantSet n later) heads pieces s a = untrue s
one-piece (NumberSet first second) heads pieces s a = untrue s

-- the first of its pieces is that one
pub first-are : (set : MSet) (heads : List MCtor) (items : List Piece) (x : Piece) → is_switchless set ≡ true →
    ArePieces set heads (map (λ q. q.0) (map plain_piece items)) → x ≡ get_or items 0 x →
    ArePieces set heads (plain_ctor x.ctor ∷ [])
first-are set heads items x s a r =
    let one = one-piece set heads (map (λ q. q.0) (map plain_piece items)) s a in
    subst (ArePieces set heads) (one.1 ∙ ap (λ q. q ∷ []) (sym (first items one.0 one.1 x r))) a
  where
    first : (items : List Piece) (p : MCtor) → map (λ q. q.0) (map plain_piece items) ≡ p ∷ [] → (x : Piece) →
        x ≡ get_or items 0 x → plain_ctor x.ctor ≡ p
    first [] p e x r = cc
    first (y ∷ items) p e x r = let same : plain_ctor y.ctor ≡ p = cc in ap (λ z. plain_ctor z.ctor) r ∙ same

pub some-piece : (set : MSet) (heads : List MCtor) (items : List Piece) → is_switchless set ≡ true →
    ArePieces set heads (map (λ q. q.0) (map plain_piece items)) → 0 < length items
some-piece set heads items s a =
    let one = one-piece set heads (map (λ q. q.0) (map plain_piece items)) s a in some items one.0 one.1
  where
    some : (items : List Piece) (p : MCtor) → map (λ q. q.0) (map plain_piece items) ≡ p ∷ [] → 0 < length items
    some [] p e = cc
    some (y ∷ items) p e = omega arith

module _ {T : Type 0} (m : Matrix T) (i : ℕ) (c : MColumn T) (there : slice_get (matrix_columns m) i ≡ Some c) where
  -- it is one of the columns
  pub within : i < length m.columns.items
  within =
      let l : i < length (matrix_columns m) = slice_get_within (matrix_columns m) i c there in
      let e : length (matrix_columns m) ≡ length m.columns.items = length-map m.columns.items plain_column in
      omega (arith, l, e)

  -- what was read there is the column
  pub read : (x : KeyedColumn T) → x ≡ get_or m.columns.items i x → plain_column x ≡ c
  read x e = one-at (matrix_columns m) i (plain_column x) c (read-map plain_column m.columns.items i x within e) there

module _ {T : Type 0} (cx : Context T) (decides : ℕ → Decision) (i : ℕ) (m e : Matrix T) (c : MColumn T)
    (there : slice_get (matrix_columns m) i ≡ Some c) where
  -- the steps at the column
  pub entered-at : (p : MCtor) (k : IsEntered cx decides i m p e) →
      (matrix_columns e ≡ replaced_at i (matrix_columns m) (part_columns cx c p))
      × AreInOrder decides (rows_at (specialise_head p (cx.arity p c.type)) c.place i (matrix_rows m)) k.whole
  entered-at p k =
      subst (λ d. (matrix_columns e ≡ replaced_at i (matrix_columns m) (part_columns cx d p))
      × AreInOrder decides (rows_at (specialise_head p (cx.arity p d.type)) d.place i (matrix_rows m)) k.whole)
      (one-at (matrix_columns m) i k.column c k.there there) (k.columns, k.rows)

  pub dropped-at : IsDropped decides i m e → (matrix_columns e ≡ replaced_at i (matrix_columns m) [])
      × AreInOrder decides (rows_at default_head c.place i (matrix_rows m)) (matrix_rows e)
  dropped-at k =
      subst (λ d. (matrix_columns e ≡ replaced_at i (matrix_columns m) [])
      × AreInOrder decides (rows_at default_head d.place i (matrix_rows m)) (matrix_rows e))
      (one-at (matrix_columns m) i k.column c k.there there) (k.columns, k.rows)

  pub expanded-at : IsExpanded decides i m e → (matrix_columns e ≡ matrix_columns m)
      × AreInOrder decides (rows_at expand_head c.place i (matrix_rows m)) (matrix_rows e)
  expanded-at k =
      subst (λ d. (matrix_columns e ≡ matrix_columns m)
      × AreInOrder decides (rows_at expand_head d.place i (matrix_rows m)) (matrix_rows e))
      (one-at (matrix_columns m) i k.column c k.there there) (k.columns, k.rows)

  pub expanded-there : IsExpanded decides i m e → slice_get (matrix_columns e) i ≡ Some c
  expanded-there k = subst (λ cs. slice_get cs i ≡ Some c) (sym k.columns) there

module _ {T : Type 0} (IsType : T → Type 0) (cx : Context T) (V : T → Bool → MValue → Type 0)
    (values : ValuesLaw IsType V cx) (decides : ℕ → Decision) (i : ℕ) (m : Matrix T) (c : MColumn T)
    (ready : IsReadyMatrix IsType cx decides i m) (there : slice_get (matrix_columns m) i ≡ Some c) where
  -- each row has a head there
  pub longer : AreLonger i (matrix_rows m)
  longer =
      longer-typed cx i (matrix_columns m) (matrix_rows m) (slice_get_within (matrix_columns m) i c there)
      (typed-of IsType cx decides (matrix_columns m) (matrix_rows m) ready.ready.good).heads

  -- its type is one of the context's
  pub is-type : (x : KeyedColumn T) → x ≡ get_or m.columns.items i x → IsType x.ty
  is-type x e =
      subst (λ (d : MColumn T). IsType d.type) (sym (read m i c there x e))
      (type-of IsType cx V values decides i c (matrix_columns m) (matrix_rows m) ready.ready there)

  -- its constructors are of the type
  pub sharp : (x : KeyedColumn T) → x ≡ get_or m.columns.items i x → (ks : List MCtor) → ks ≡ ctors_at i (matrix_rows m) →
      All (λ h. IsTrue (is_sharp_head (cx.set_of x.ty) h)) ks
  sharp x e ks k =
      subst (λ (d : MColumn T). All (λ h. IsTrue (is_sharp_head (cx.set_of d.type) h)) ks) (sym (read m i c there x e))
      (subst (All (λ h. IsTrue (is_sharp_head (cx.set_of c.type) h))) (sym k)
      (all-from (λ h. IsTrue (is_sharp_head (cx.set_of c.type) h)) (ctors_at i (matrix_rows m))
      (every-to (IsColumnCtor (cx.set_of c.type)) (λ h. IsTrue (is_sharp_head (cx.set_of c.type) h))
      (ctors_at i (matrix_rows m)) (sharp-by (cx.set_of c.type))
      (column-ctors IsType cx V values decides i c (matrix_columns m) (matrix_rows m) ready.ready there))))

  pub heads : (x : KeyedColumn T) → x ≡ get_or m.columns.items i x → (ks : List MCtor) → ks ≡ ctors_at i (matrix_rows m) →
      All (λ h. IsTrue (is_head (cx.set_of x.ty) h)) ks
  heads x e ks k =
      subst (λ (d : MColumn T). All (λ h. IsTrue (is_head (cx.set_of d.type) h)) ks) (sym (read m i c there x e))
      (subst (All (λ h. IsTrue (is_head (cx.set_of c.type) h))) (sym k)
      (column-heads IsType cx V values decides i c (matrix_columns m) (matrix_rows m) ready.ready there))
