-- What a table of types gives to an engine's match of a function, and what judging such a match says of the function.
use Rattle.std.specs.Prelude.{◌≡◌, ◌↔◌, Bool, List, map, length, nat_eq, nat_lt, Some, IsTrue}
use Rattle.std.specs.List.{flat_map, Contains, IsDistinct}
use Rattle.match_model.specs.declared.Width.{Width}
use Rattle.match_model.specs.Values.{MValue}
use Rattle.match_model.specs.RustTypes.{rust_context, is_type, IsSoundProgram, RustValue}
use Rattle.match_model.specs.ContextViews.{View, Passing, Seen}
use Rattle.match_model.specs.Lists.{Every}
use Rattle.match_model.specs.ArenaPatterns.{MDeArm, MDeMatch, type_of}
use Rattle.match_model.specs.WellTyped.{IsWellTyped, uids_in}
use Rattle.match_model.specs.Made.{AreArmsMade}
use Rattle.match_model.specs.Unreachable.{Entry}
use Rattle.match_model.specs.Witness.{MWitness}
use Rattle.pattern_matrix.specs.SearchLaws.{IsJudged}
use Rattle.decl_syntax.specs.Functions.{FunctionTree}
use Rattle.decl_syntax.specs.Items.{ItemTree}
use Rattle.type_names.specs.Written.{program_of}
use Rattle.type_table.specs.declared.table.TyId.{TyId}
use Rattle.type_table.specs.declared.table.TypeTable.{TypeTable}
use Rattle.type_table.specs.Tables.{table_type, IsOf, IsTableOf}
use Rattle.type_table.specs.TableContext.{table_context, TableValue}
use Rattle.pattern_rules.specs.Settings.{Setting, program}
use Rattle.pattern_rules.specs.Faults.{function_of, BreaksNone, scrutinee_type}
use Rattle.pattern_rules.specs.ArenaForms.{all_within}
use Rattle.pattern_rules.specs.ShownMatches.{IsShownMatch}
use Rattle.pattern_rules.specs.Verdicts.{IsVerdictOn}
use Rattle.pattern_laws.specs.JudgedLaws.{by_offset}

-- the number is of this table
abbrev pub is_number_of : TypeTable → TyId → Bool
is_number_of table ty = nat_lt ty.index (length table.nodes.keys)

-- law: the context of a table of a file is seen through the types of the file, and its values are theirs
pub record TableIsSeen (items : List ItemTree) (width : Width) (table : TypeTable) : Type 0 where
  pub view : View (table_type table) (Passing (is_number_of table)) (Passing (is_type (program_of items width)))
      (table_context table) (rust_context (program_of items width))
  pub numbers : (ty : TyId) → IsOf table ty ↔ IsTrue (is_number_of table ty)
  pub values : (ty : TyId) (sure : Bool) (v : MValue) →
      TableValue table ty sure v ↔ Seen (table_type table) (RustValue (program_of items width)) ty sure v

-- law: so is every such table
abbrev pub TablesAreSeen : Type 0
TablesAreSeen = (items : List ItemTree) (width : Width) (table : TypeTable) → IsTableOf items width table →
    TableIsSeen items width table

-- the types of a file are sound, and so is that of the scrutinee of a function that breaks no rule
pub record IsSoundFile (s : Setting) : Type 0 where
  pub sound : IsSoundProgram (program s)
  pub scrutinee : (item : ItemTree) (f : FunctionTree) → Contains s.items item → function_of item.kind ≡ Some f →
      BreaksNone s f → IsTrue (is_type (program s) (scrutinee_type s f))

-- law: so is every file that has a table
abbrev pub TabledFilesAreSound : Type 0
TabledFilesAreSound = (s : Setting) (table : TypeTable) → IsTableOf s.items s.width table → IsSoundFile s

-- the match shows the function to an engine that works on the numbers of a table: its types are of the table, no two of
-- its patterns have one uid, and its ranges can be held
pub record IsTableMatch (table : TypeTable) (s : Setting) (f : FunctionTree) (m : MDeMatch TyId) : Type 0 where
  pub table_is : IsTableOf s.items s.width table
  pub shown : IsShownMatch (table_type table) s f m
  pub type_is : IsOf table m.type
  pub types : (d : MDeArm TyId) → Contains m.arms d → Every (λ q. IsOf table (type_of q)) (all_within d.pat)
  pub uids : IsDistinct nat_eq (flat_map (λ d. uids_in d.pat) m.arms)
  pub made : AreArmsMade m.arms

-- law: it is well typed
abbrev pub TableMatchIsWellTyped : Type 0
TableMatchIsWellTyped = (table : TypeTable) (s : Setting) (f : FunctionTree) (m : MDeMatch TyId) →
    IsTableMatch table s f m → IsWellTyped (IsOf table) (table_context table) m

-- law: what it is judged to be is what is found of the function, with offsets in place of uids
abbrev pub JudgedTableMatch : Type 0
JudgedTableMatch =
    (table : TypeTable) (s : Setting) (f : FunctionTree) (m : MDeMatch TyId) (exhaustive : Bool)
    (unreachable : List Entry) (witnesses : List MWitness) → IsTableMatch table s f m →
    IsJudged (TableValue table) (table_context table) m exhaustive unreachable witnesses →
    IsVerdictOn s f exhaustive (map by_offset unreachable) witnesses
