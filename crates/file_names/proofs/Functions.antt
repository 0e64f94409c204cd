-- What holds of tokens holds of those behind a function.
use Rattle.std.proofs.Common.{List, ◌∷◌}
use Rattle.decl_lexer.specs.declared.marks.Mark.TheVariants as marks
use Rattle.decl_lexer.specs.declared.words.Word.TheVariants as words
use Rattle.decl_lexer.specs.Lexing.{Placed}
use Rattle.decl_syntax.specs.Units.{is_mark, is_word}
use Rattle.decl_parser.specs.declared.runs.Until.TheVariants as until
use Rattle.decl_parser.specs.ArmGrammar as arms
use Rattle.decl_parser.specs.ArmGrammar.{SpellsGuard, no_guard, a_guard, SpellsBody, block, before_comma}
use Rattle.decl_parser.specs.ArmGrammar.{at_the_end, SpellsArm, SpellsArms, no_more, one_more}
use Rattle.decl_parser.specs.FunctionGrammar.{SpellsParameter, parameter, SpellsReturned, nothing, returned}
use Rattle.decl_parser.specs.FunctionGrammar.{SpellsScrutinee, plain, dereferenced, SpellsFunction, spelled}
use Rattle.file_names.proofs.Kept.{AreNamed, Kept, maybe_kept, attributes_kept, run_kept, behind_run}
use Rattle.file_names.proofs.Patterns.{pattern_kept}
use Rattle.file_names.proofs.Types.{type_kept}

guard_kept : Kept SpellsGuard
guard_kept _ _ _ (no_guard ts n) g = g
guard_kept _ _ _ (a_guard word ts rest e r) g = run_kept until.Arrow ts rest r g.1

body_kept : (ts rest : List Placed) → SpellsBody ts rest → AreNamed ts → AreNamed rest
body_kept _ _ (block opening closing inner us rest comma o p c m) g =
    maybe_kept (is_mark marks.Comma) us rest comma m (behind_run inner (closing ∷ us) g.1).1
body_kept _ _ (before_comma ts rest comma n r e) g = (run_kept until.CommaOrArrow ts (comma ∷ rest) r g).1
body_kept _ _ (at_the_end ts rest closing n r e) g = run_kept until.CommaOrArrow ts (closing ∷ rest) r g

arm_kept : Kept SpellsArm
arm_kept _ _ _ (arms.spelled ts us vs ws rest arrow attrs pattern guarded a p guard e b) g =
    let behind_pattern = pattern_kept us vs pattern p (attributes_kept ts us attrs a g) in
    body_kept ws rest b (guard_kept vs (arrow ∷ ws) guarded guard behind_pattern).1

arms_kept : Kept SpellsArms
arms_kept _ _ _ (no_more closing rest e) g = g.1
arms_kept _ _ _ (one_more ts us rest arm others n a more) g = arms_kept us rest others more (arm_kept ts us arm a g)

parameter_kept : Kept SpellsParameter
parameter_kept _ _ _ (parameter opening word colon closing ts us vs rest mutable comma raw name type o m n c t k e) g =
    let behind_name = maybe_kept (is_word words.Mut) ts (word ∷ colon ∷ us) mutable m g.1 in
    (maybe_kept (is_mark marks.Comma) vs (closing ∷ rest) comma k (type_kept 64 us vs type t behind_name.1.1)).1

returned_kept : (ts rest : List Placed) → SpellsReturned ts rest → AreNamed ts → AreNamed rest
returned_kept _ _ (nothing ts n) g = g
returned_kept _ _ (returned arrow ts rest e r) g = run_kept until.Block ts rest r g.1

scrutinee_kept : Kept SpellsScrutinee
scrutinee_kept _ _ _ (plain keyword word rest name raw e n) g = g.1.1
scrutinee_kept _ _ _ (dereferenced keyword star word rest name raw e s n) g = g.1.1.1

pub function_kept : Kept SpellsFunction
function_kept _ _ _ (spelled ts us vs ws rest opening inner closing p s others a b c d e f h i) g =
    let behind_parameter = parameter_kept ts us p a g in
    let behind_returned = returned_kept us (opening ∷ vs) b behind_parameter in
    let behind_scrutinee = scrutinee_kept vs (inner ∷ ws) s d behind_returned.1 in
    (arms_kept ws (closing ∷ rest) others h behind_scrutinee.1).1
