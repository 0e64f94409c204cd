-- The keyed ways of rows: what there is to try of them, known by what was decided and not by where it stands (our own
-- choice). A step at any column keeps them.
use Rattle.std.specs.Prelude.{◌≡◌, ◌<◌, ◌⊎◌, ℕ, Bool, true, false, List, [], ◌∷◌, map}
use Rattle.std.specs.List.{flat_map}
use Rattle.match_model.specs.Values.{MValue}
use Rattle.match_model.specs.Ways.{Way, Binding, bindings_of_both}
use Rattle.match_model.specs.Select.{Took, Missed, Short, Selected, also_asked}
use Rattle.match_model.specs.Trees.{bindings_in}
use Rattle.match_model.specs.Matrices.{MColumn, MRow, MMatrix, heads_ways}
use Rattle.match_model.specs.Lists.{Ordered, SameMembers}
use Rattle.match_model.specs.Keys.{Decision, Key, both_keys, IsBefore}
use Rattle.match_model.specs.Numbering.{way_key}
use Rattle.match_model.specs.RowOrder.{row_key}

-- a way of an arm, with all that was decided on the way to it
pub record KeyedTry : Type 0 where
  pub arm : ℕ
  pub guarded : Bool
  pub key : Key
  pub bindings : List Binding

-- the way of a row's heads as a thing to try
abbrev pub keyed_try : {T : Type 0} → (decides : ℕ → Decision) → MValue → MRow T → Way → KeyedTry
keyed_try decides v r w = record {
  arm = r.arm;
  guarded = r.guarded;
  key = both_keys (row_key decides r) (way_key decides w);
  bindings = bindings_of_both (bindings_in v r.caught) w.bindings;
}

-- what there is to try of a row
abbrev pub row_keyed_tries : {T : Type 0} → (decides : ℕ → Decision) → List (MColumn T) → MValue → MRow T →
    List KeyedTry
row_keyed_tries decides columns v r = map (keyed_try decides v r) (heads_ways columns r.heads v)

-- what there is to try of rows
abbrev pub keyed_tries : {T : Type 0} → (decides : ℕ → Decision) → List (MColumn T) → MValue → List (MRow T) →
    List KeyedTry
keyed_tries decides columns v rows = flat_map (row_keyed_tries decides columns v) rows

-- the one is tried first: its arm is, or in one arm what it decided
abbrev pub TryFirst : KeyedTry → KeyedTry → Type 0
TryFirst t u = (t.arm < u.arm) ⊎ ((t.arm ≡ u.arm) × IsBefore t.key u.key)

-- the keyed ways of a matrix on a value, in the order in which they are tried
pub record AreKeyedWays {T : Type 0} (decides : ℕ → Decision) (m : MMatrix T) (v : MValue)
    (tries : List KeyedTry) : Type 0 where
  pub ordered : Ordered TryFirst tries
  pub same : SameMembers (keyed_tries decides m.columns v m.rows) tries

-- a way without a guard is taken; a guard takes the next answer
abbrev pub select_keyed_one : KeyedTry → (guarded : Bool) → (answers : List Bool) → (others : List Bool → Selected) →
    Selected
select_keyed_one t false answers others = record { asked = []; outcome = Took t.arm t.bindings }
select_keyed_one t true [] others = record { asked = []; outcome = Short }
select_keyed_one t true (true ∷ answers) others =
    record { asked = record { arm = t.arm; bindings = t.bindings } ∷ []; outcome = Took t.arm t.bindings }
select_keyed_one t true (false ∷ answers) others =
    also_asked (record { arm = t.arm; bindings = t.bindings }) (others answers)

-- what is selected of things to try, in this order
abbrev pub select_keyed : List KeyedTry → (answers : List Bool) → Selected
select_keyed [] answers = record { asked = []; outcome = Missed }
select_keyed (t ∷ rest) answers = select_keyed_one t t.guarded answers (λ left. select_keyed rest left)
