use Rattle.decl_syntax.specs.Functions.{function_view}
use Rattle.pattern_check.proofs.FieldLemmas.{if_ok}
use Rattle.pattern_check.proofs.FunctionLemmas.{whole_is_first, whole_breaks_none}
use Rattle.pattern_check.proofs.function.first_fault.Goals as goal

pub returns-clause-found : goal.returns-clause-found
returns-clause-found c = λ s i is ed at fn.
    if_ok c.node_or_alternatives.result _ _ (λ r h. whole_is_first s (function_view c.args.function.now) r h) (c.node_or_alternatives.ensures s i is ed at fn)

pub returns-clause-none : goal.returns-clause-none
returns-clause-none c = λ s i is ed at fn.
    if_ok c.node_or_alternatives.result _ _ (λ r h. whole_breaks_none s (function_view c.args.function.now) r h) (c.node_or_alternatives.ensures s i is ed at fn)
