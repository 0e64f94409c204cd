-- No meaning: what is shown of a match that goes by the types of a table, for the proofs of `telling`.
use Rattle.std.specs.Prelude.{◌≡◌, ℕ, List, map, slice_get, Option, Some, None}
use Rattle.bound_types.specs.declared.types.BoundTypes.{BoundTypes}
use Rattle.bound_types.specs.Maps.{type_in}
use Rattle.bound_types.specs.Types.{bound_type}
use Rattle.match_model.specs.ArenaPatterns.{MDeArm, MDeMatch}
use Rattle.match_model.specs.Select.{Asked, Outcome, Took, Missed, Short, Selected}
use Rattle.match_model.specs.Ways.{Binding}
use Rattle.type_table.specs.declared.table.TyId.{TyId}
use Rattle.type_table.specs.declared.table.TypeTable.{TypeTable}
use Rattle.type_table.specs.Tables.{IsOf, table_program, table_type}
use Rattle.value_syntax.specs.Texts.{written_text}
use Rattle.verdict_json.specs.OutcomeTrees.{HeldTree, AskedTree, EndingTree, ArmTaken, NoArmTaken, AnswerMissing, OutcomeTree}
use Rattle.witness_names.specs.NamedValues.{written_value}

-- the type that is there, or else the other
abbrev pub number_or : TyId → Option TyId → TyId
number_or ty None = ty
number_or ty (Some other) = other

-- the type that a name has in an arm, or else the scrutinee's
abbrev pub told_type : MDeMatch TyId → Option (MDeArm TyId) → (name : List ℕ) → TyId
told_type m None name = m.type
told_type m (Some d) name = number_or m.type (bound_type d.pat name)

-- the same in the arm with this number
abbrev pub type_told : MDeMatch TyId → (arm : ℕ) → (name : List ℕ) → TyId
type_told m j name = told_type m (slice_get m.arms j) name

-- the type that is noted of a name, or else the other
abbrev pub type_noted : TyId → Option (BoundTypes TyId) → (name : List ℕ) → TyId
type_noted ty None name = ty
type_noted ty (Some types) name = number_or ty (type_in types name)

-- what is noted are the types of the names in the arm with this number
abbrev pub AreTypesIn : MDeMatch TyId → (arm : ℕ) → Option (BoundTypes TyId) → Type 0
AreTypesIn m j types = (name : List ℕ) → type_noted m.type types name ≡ type_told m j name

-- the types of the names, and of the scrutinee, are the table's
abbrev pub AreNumbered : TypeTable → MDeMatch TyId → Type 0
AreNumbered table m = (j : ℕ) (name : List ℕ) → IsOf table (type_told m j name)

-- a binding, whose value is of this type
abbrev pub told_binding : TypeTable → TyId → Binding → HeldTree
told_binding table ty b = record {
  name = b.name;
  mode = b.mode;
  value = written_text (written_value (table_program table) (table_type table ty) b.value);
}

-- the bindings of an arm
abbrev pub told_bindings : TypeTable → MDeMatch TyId → Asked → List HeldTree
told_bindings table m a = map (λ b. told_binding table (type_told m a.arm b.name) b) a.bindings

-- a guard that got an answer
abbrev pub told_asked : TypeTable → MDeMatch TyId → Asked → AskedTree
told_asked table m a = record { arm = a.arm; bindings = told_bindings table m a }

-- how it ends
abbrev pub told_ending : TypeTable → MDeMatch TyId → Outcome → EndingTree
told_ending table m (Took arm bindings) = ArmTaken arm (told_bindings table m (record { arm = arm; bindings = bindings }))
told_ending table m Missed = NoArmTaken
told_ending table m Short = AnswerMissing

-- what the match does
abbrev pub told_outcome : TypeTable → MDeMatch TyId → Selected → OutcomeTree
told_outcome table m x = record { asked = map (told_asked table m) x.asked; ending = told_ending table m x.outcome }
