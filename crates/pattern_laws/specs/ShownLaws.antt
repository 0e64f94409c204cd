-- What an engine's match keeps of a function, where its patterns without their uids are the elaborated ones.
use Rattle.std.specs.Prelude.{◌≡◌, Bool, IsTrue}
use Rattle.match_model.specs.Types.{MType}
use Rattle.match_model.specs.RustTypes.{rust_context, is_type}
use Rattle.match_model.specs.Contexts.{Context}
use Rattle.match_model.specs.ContextViews.{View, Passing}
use Rattle.match_model.specs.Lists.{Every}
use Rattle.match_model.specs.ArenaPatterns.{MDeArm, MDeMatch, type_of}
use Rattle.match_model.specs.WellTyped.{IsTyped, names_differ}
use Rattle.decl_syntax.specs.Items.{ArmTree}
use Rattle.decl_syntax.specs.Functions.{FunctionTree}
use Rattle.pattern_rules.specs.Settings.{Setting, program}
use Rattle.pattern_rules.specs.Faults.{scrutinee_type}
use Rattle.pattern_rules.specs.ArenaForms.{all_within}
use Rattle.pattern_rules.specs.Promises.{KeepsMatch}
use Rattle.pattern_rules.specs.ShownMatches.{IsShownArm, IsShownMatch}

-- law: the names of the arm's pattern differ
abbrev pub ShownNamesDiffer : Type 0 → Type 0
ShownNamesDiffer T = (type : T → MType) (s : Setting) (f : FunctionTree) (a : ArmTree) (d : MDeArm T) →
    IsShownArm type s f a d → IsTrue (names_differ d.pat)

-- law: the match keeps all that is promised of it
abbrev pub ShownMatchIsKept : Type 0 → Type 0
ShownMatchIsKept T = (type : T → MType) (s : Setting) (f : FunctionTree) (m : MDeMatch T) → IsShownMatch type s f m →
    KeepsMatch type s f m

-- law: the arm's pattern is well typed for a context that is seen through the types of the program, where its types are the
-- context's
abbrev pub ShownArmIsTyped : Type 0 → Type 0
ShownArmIsTyped T =
    (type : T → MType) (is_type_s : T → Bool) (cy : Context T) (s : Setting) (f : FunctionTree) (a : ArmTree)
    (d : MDeArm T) (t : T) →
    View type (Passing is_type_s) (Passing (is_type (program s))) cy (rust_context (program s)) →
    IsShownArm type s f a d →
    Every (λ q. IsTrue (is_type_s (type_of q))) (all_within d.pat) → IsTrue (is_type_s t) →
    type t ≡ scrutinee_type s f → IsTyped cy t d.pat
