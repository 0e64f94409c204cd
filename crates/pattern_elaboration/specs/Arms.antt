-- The arms of a match that is made for a function.
use Rattle.std.specs.Prelude.{◌≡◌, ℕ, Bool, true, false, List, map, nat_eq}
use Rattle.std.specs.List.{IsDistinct, flat_map}
use Rattle.match_model.specs.declared.Mode.TheVariants.{Move}
use Rattle.match_model.specs.Types.{MType}
use Rattle.match_model.specs.Lists.{Every}
use Rattle.match_model.specs.ArenaPatterns.{MDePat, MDeArm, MDeMatch, type_of}
use Rattle.match_model.specs.WellTyped.{uids_in}
use Rattle.decl_syntax.specs.Items.{ArmTree}
use Rattle.pat_context.specs.declared.validity.Validity.{Validity}
use Rattle.pat_context.specs.declared.validity.Validity.TheVariants.{Sure, Unsure}
use Rattle.pattern_arena.specs.declared.matches.CheckedArm.{CheckedArm}
use Rattle.pattern_arena.specs.Trees.{tree}
use Rattle.type_table.specs.declared.table.TypeTable.{TypeTable}
use Rattle.type_table.specs.declared.table.TyId.{TyId}
use Rattle.type_table.specs.Tables.{IsOf, table_type}
use Rattle.pattern_rules.specs.Settings.{Setting}
use Rattle.pattern_rules.specs.Nodes.{offset_of}
use Rattle.pattern_rules.specs.ArenaForms.{all_within}
use Rattle.pattern_rules.specs.Elaborated.{standing_at}
use Rattle.pattern_rules.specs.Shown.{shown}
use Rattle.pattern_elaboration.specs.Checking.{IsSettingOf}
use Rattle.pattern_elaboration.specs.Fitting.{Fits}
use Rattle.pattern_elaboration.specs.Numbered.{IsMade}
use Rattle.pattern_elaboration.specs.Written.{built}

-- the arm has the guard of the written one, and in each setting of the table, where the written pattern fits the type,
-- it has become what it is to become at its offset
pub record IsArmShown (table : TypeTable) (t : MType) (a : ArmTree) (d : MDeArm TyId) : Type 0 where
  pub guard : d.guarded ≡ a.guarded
  pub pattern : (s : Setting) → IsSettingOf table s → Fits s t a.pattern →
      shown (table_type table) d.pat ≡ standing_at (offset_of a.pattern) (built s t Move a.pattern)

-- the uids of the arm's pattern are the next ones, and its types are of the table
abbrev pub IsArmMade : TypeTable → (from to : ℕ) → MDeArm TyId → Type 0
IsArmMade table from to d = IsMade (IsOf table) from to d.pat

-- the trees of the patterns of arms
abbrev pub arm_trees : List (CheckedArm TyId) → List (MDePat TyId)
arm_trees arms = map (λ d. tree d.pat) arms

-- no two patterns of the match have one uid, and its types are of the table
pub record IsMatchMade (table : TypeTable) (m : MDeMatch TyId) : Type 0 where
  pub type : IsOf table m.type
  pub uids : IsDistinct nat_eq (flat_map (λ d. uids_in d.pat) m.arms)
  pub types : Every (λ d. Every (λ q. IsOf table (type_of q)) (all_within d.pat)) m.arms

-- No meaning: the validity of the place of a scrutinee.
abbrev pub validity_by : Bool → Validity
validity_by true = Unsure
validity_by false = Sure
