-- What a tree is built on: what is known of rows, of their steps, and of the pieces of a column.
use Rattle.std.specs.Prelude.{◌≡◌, ◌≢◌, ◌⊎◌, ℕ, Bool, true, false, List, [], ◌∷◌, slice_get, Some, IsTrue}
use Rattle.match_model.specs.Values.{MValue}
use Rattle.match_model.specs.Constructors.{MCtor, MSet, builds}
use Rattle.match_model.specs.Contexts.{Context}
use Rattle.match_model.specs.Pieces.{ArePieces}
use Rattle.match_model.specs.Places.{part_at}
use Rattle.match_model.specs.Trees.{case_has, is_else, bindings_in, places_are}
use Rattle.match_model.specs.Matrices.{MColumn, MRow, open_of, part_columns}
use Rattle.match_model.specs.PieceStates.{is_present, HasValue, named_in}
use Rattle.match_model.specs.DecisionTrees.{row_binds, all_wild, is_switchless, case_of}
use Rattle.match_model.specs.Keys.{Decision}
use Rattle.match_model.specs.Lists.{Every, Ordered, Among, SameMembers}
use Rattle.match_model.specs.Steps.{replaced_at, expand_head, specialise_head, default_head, rows_at}
use Rattle.keyed_rows.specs.Dividing.{GoodAt, HasCount}
use Rattle.match_model.specs.RowOrder.{row_key, AreInOrder}
use Rattle.match_model.specs.KeyedWays.{row_keyed_tries, keyed_tries}
use Rattle.match_model.specs.Lowering.{ctors_at, all_wild_at}
use Rattle.keyed_steps.specs.Filled.{IsHeld, IsOpened}

-- the pieces of a column whose or-patterns are taken apart
pub record IsCut {T : Type 0} (cx : Context T) (V : T → Bool → MValue → Type 0) (i : ℕ) (c : MColumn T)
    (rows : List (MRow T)) (pieces : List MCtor) : Type 0 where
  pub distinct : Ordered (λ (p q : MCtor). p ≢ q) pieces
  pub one : (u : MValue) → V c.type c.sure u → (p : MCtor) × Among p pieces × (builds (named_in pieces) p u ≡ true)
      × ((q : MCtor) → Among q pieces → builds (named_in pieces) q u ≡ true → q ≡ p)
  pub case : (p : MCtor) (u : MValue) → Among p pieces → IsTrue (is_present (ctors_at i rows) p) →
      is_switchless (cx.set_of c.type) ≡ false →
      (case_has (case_of p) u ≡ builds (named_in pieces) p u) × (is_else (case_of p) ≡ false)
  pub opened : (p : MCtor) → Among p pieces → HasValue V (open_of c) (named_in pieces) p →
      IsOpened cx V c (named_in pieces) p

-- no row has a constructor in the column, or the value lies in a piece of the column that none has
abbrev pub IsPassed : {T : Type 0} → (set : MSet) → (i : ℕ) → (rows : List (MRow T)) → (pieces : List MCtor) →
    MValue → Type 0
IsPassed set i rows pieces u =
    IsTrue (all_wild_at i rows) ⊎ (ArePieces set (ctors_at i rows) pieces × (p : MCtor) × Among p pieces
    × (is_present (ctors_at i rows) p ≡ false) × (builds (named_in pieces) p u ≡ true))

-- the places of what each row has caught are there
abbrev pub AreCaught : {T : Type 0} → MValue → List (MRow T) → Type 0
AreCaught v rows = Every (λ r. IsTrue (places_are v r.caught)) rows

-- well-formed matrices (`Good`), also where the or-patterns of column `i` are taken apart (`Ready`), with what the steps keep
pub record IsEngine {T : Type 0} (cx : Context T) (V : T → Bool → MValue → Type 0) (decides : ℕ → Decision)
    (Good : List (MColumn T) → List (MRow T) → Type 0)
    (Ready : ℕ → List (MColumn T) → List (MRow T) → Type 0) : Type 0 where
  pub leaf : (columns : List (MColumn T)) (r : MRow T) (rows : List (MRow T)) (v : MValue) →
      Good columns (r ∷ rows) → IsTrue (all_wild r) → IsHeld V columns v → IsTrue (places_are v r.caught) →
      (row_keyed_tries decides columns v r ≡ record {
        arm = r.arm;
        guarded = r.guarded;
        key = row_key decides r;
        bindings = bindings_in
            v (row_binds columns r);
      } ∷ [])
      × IsTrue (places_are v (row_binds columns r))
  pub others : (columns : List (MColumn T)) (r : MRow T) (rows : List (MRow T)) → Good columns (r ∷ rows) →
      Good columns rows
  pub expanded : (i : ℕ) (c : MColumn T) (columns : List (MColumn T)) (rows next : List (MRow T)) →
      Good columns rows → slice_get columns i ≡ Some c →
      AreInOrder decides (rows_at expand_head c.place i rows) next → Ready i columns next
  pub expanded_same : (i : ℕ) (c : MColumn T) (columns : List (MColumn T)) (rows next : List (MRow T)) (v : MValue) →
      Good columns rows → slice_get columns i ≡ Some c →
      AreInOrder decides (rows_at expand_head c.place i rows) next → IsHeld V columns v →
      SameMembers (keyed_tries decides columns v rows) (keyed_tries decides columns v next)
  pub expanded_caught : (i : ℕ) (c : MColumn T) (columns : List (MColumn T)) (rows next : List (MRow T))
      (v : MValue) → Good columns rows → slice_get columns i ≡ Some c →
      AreInOrder decides (rows_at expand_head c.place i rows) next → IsHeld V columns v →
      AreCaught v rows → AreCaught v next
  pub dropped : (i : ℕ) (c : MColumn T) (columns : List (MColumn T)) (rows next : List (MRow T)) →
      Ready i columns rows → slice_get columns i ≡ Some c →
      AreInOrder decides (rows_at default_head c.place i rows) next → Good (replaced_at i columns []) next
  pub dropped_same : (i : ℕ) (c : MColumn T) (columns : List (MColumn T)) (rows next : List (MRow T))
      (pieces : List MCtor) (v u : MValue) → Ready i columns rows → slice_get columns i ≡ Some c →
      AreInOrder decides (rows_at default_head c.place i rows) next → IsHeld V columns v →
      part_at c.place v ≡ Some u → IsPassed (cx.set_of c.type) i rows pieces u →
      SameMembers (keyed_tries decides columns v rows) (keyed_tries decides (replaced_at i columns []) v next)
  pub dropped_caught : (i : ℕ) (c : MColumn T) (columns : List (MColumn T)) (rows next : List (MRow T))
      (v : MValue) → Ready i columns rows → slice_get columns i ≡ Some c →
      AreInOrder decides (rows_at default_head c.place i rows) next → IsHeld V columns v →
      AreCaught v rows → AreCaught v next
  pub cut : (i : ℕ) (c : MColumn T) (columns : List (MColumn T)) (rows : List (MRow T)) (pieces : List MCtor) →
      Ready i columns rows → slice_get columns i ≡ Some c → ArePieces (cx.set_of c.type) (ctors_at i rows) pieces →
      all_wild_at i rows ≡ false →
      IsCut cx V i c rows pieces
  pub entered : (i : ℕ) (c : MColumn T) (columns : List (MColumn T)) (rows next : List (MRow T))
      (pieces : List MCtor) (p : MCtor) → Ready i columns rows → slice_get columns i ≡ Some c →
      ArePieces (cx.set_of c.type) (ctors_at i rows) pieces → Among p pieces →
      AreInOrder decides (rows_at (specialise_head p (cx.arity p c.type)) c.place i rows) next →
      Good (replaced_at i columns (part_columns cx c p)) next
  pub counted : (i : ℕ) (c : MColumn T) (columns : List (MColumn T)) (rows : List (MRow T)) (pieces : List MCtor)
      (p : MCtor) → Ready i columns rows → slice_get columns i ≡ Some c → ArePieces (cx.set_of c.type)
      (ctors_at i rows) pieces → Among p pieces →
      Every (λ r. GoodAt (HasCount p (cx.arity p c.type)) i r.heads) rows
  pub entered_same : (i : ℕ) (c : MColumn T) (columns : List (MColumn T)) (rows next : List (MRow T))
      (pieces : List MCtor) (p : MCtor) (v u : MValue) → Ready i columns rows → slice_get columns i ≡ Some c →
      ArePieces (cx.set_of c.type) (ctors_at i rows) pieces → Among p pieces →
      AreInOrder decides (rows_at (specialise_head p (cx.arity p c.type)) c.place i rows) next → IsHeld V columns v →
      part_at c.place v ≡ Some u → builds (named_in pieces) p u ≡ true →
      SameMembers (keyed_tries decides columns v rows)
      (keyed_tries decides (replaced_at i columns (part_columns cx c p)) v next)
  pub entered_caught : (i : ℕ) (c : MColumn T) (columns : List (MColumn T)) (rows next : List (MRow T))
      (pieces : List MCtor) (p : MCtor) (v u : MValue) → Ready i columns rows → slice_get columns i ≡ Some c →
      ArePieces (cx.set_of c.type) (ctors_at i rows) pieces → Among p pieces →
      AreInOrder decides (rows_at (specialise_head p (cx.arity p c.type)) c.place i rows) next → IsHeld V columns v →
      part_at c.place v ≡ Some u → builds (named_in pieces) p u ≡ true → AreCaught v rows → AreCaught v next
