use Rattle.decl_syntax.specs.Functions.{function_view}
use Rattle.pattern_check.proofs.FieldLemmas.{if_ok}
use Rattle.pattern_check.proofs.FunctionLemmas.{found_is_first}
use Rattle.pattern_check.proofs.function.first_node_fault.Goals as goal

pub returns-clause-found : goal.returns-clause-found
returns-clause-found c = λ s i is ed at fn.
    if_ok c.scrutinee_or_arms.result _ _ (λ r h. found_is_first s (function_view c.args.function.now) r h) (c.scrutinee_or_arms.ensures s i is ed at fn)
