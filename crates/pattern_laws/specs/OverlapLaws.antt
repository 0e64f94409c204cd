-- What the overlaps of an engine's match say of the function that it shows.
use Rattle.std.specs.Prelude.{◌≡◌, List, IsTrue}
use Rattle.std.specs.List.{Contains}
use Rattle.match_model.specs.Overlaps.{MOverlap, IsOverlapList}
use Rattle.match_model.specs.ArenaPatterns.{MDeMatch}
use Rattle.match_model.specs.ArenaWays.{match_arms, InMatchDomain}
use Rattle.match_model.specs.RustTypes.{is_type, IsSoundProgram}
use Rattle.decl_syntax.specs.Functions.{FunctionTree}
use Rattle.decl_syntax.specs.Items.{ArmTree}
use Rattle.type_table.specs.declared.table.TyId.{TyId}
use Rattle.type_table.specs.declared.table.TypeTable.{TypeTable}
use Rattle.type_table.specs.TableContext.{TableValue}
use Rattle.pattern_rules.specs.Settings.{Setting, program}
use Rattle.pattern_rules.specs.Faults.{scrutinee_type}
use Rattle.pattern_rules.specs.ShownMatches.{IsSoundArm}
use Rattle.pattern_rules.specs.Verdicts.{Domain, written_arms}
use Rattle.pattern_laws.specs.TableLaws.{IsTableMatch}

-- the overlapping ranges of the function's arms, as they are written: each once, ascending
abbrev pub IsOverlapListOn : Setting → FunctionTree → List MOverlap → Type 0
IsOverlapListOn s f os = IsOverlapList (Domain s f) (written_arms s f) os

-- law: the overlaps of a match that shows the function by the numbers of a table are the function's
abbrev pub OverlapsOfTableMatch : Type 0
OverlapsOfTableMatch =
    (table : TypeTable) (s : Setting) (f : FunctionTree) (m : MDeMatch TyId) (os : List MOverlap) →
    IsTableMatch table s f m → IsOverlapList (InMatchDomain (TableValue table) m) (match_arms m) os →
    IsOverlapListOn s f os

-- law: a function has one list of overlaps at most
abbrev pub OverlapListOnIsOne : Type 0
OverlapListOnIsOne =
    (s : Setting) (f : FunctionTree) (os ps : List MOverlap) → IsOverlapListOn s f os → IsOverlapListOn s f ps → os ≡ ps

-- law: each function that breaks no rule has one, where its arms are sound
abbrev pub SomeOverlaps : Type 0
SomeOverlaps =
    (s : Setting) (f : FunctionTree) → IsSoundProgram (program s) → IsTrue (is_type (program s) (scrutinee_type s f)) →
    ((a : ArmTree) → Contains f.arms a → IsSoundArm s f a) → (os : List MOverlap) × IsOverlapListOn s f os
