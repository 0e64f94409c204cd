use Rattle.std.proofs.Common.{option_map, sym, ◌∙◌}
use Rattle.decl_syntax.specs.Functions.{function_view}
use Rattle.pattern_check.specs.FunctionFaults.{fault_view}
use Rattle.pattern_check.proofs.FieldLemmas.{if_ok}
use Rattle.pattern_check.proofs.FunctionLemmas.{view_none, whole_some, whole_none}
use Rattle.pattern_check.proofs.function.node_or_alternatives.Goals as goal

pub returns-then-is_some : goal.returns-then-is_some
returns-then-is_some c = λ s i is ed at fn.
    whole_some s (function_view c.args.function.now) c.in_ok-fault.fault (sym c.is_some.ensures ∙ c.if-is_some.true) (c.in_ok-fault.ensures s i is ed at fn)

pub returns : goal.returns
returns c = λ s i is ed at fn.
    let f = function_view c.args.function.now in
    let none = sym (c.in_ok-fault.ensures s i is ed at fn) ∙ view_none c.in_ok-fault.fault (sym c.is_some.ensures ∙ c.if-is_some.false) in
    if_ok c.alternatives_fault.result _ _ (λ r h. whole_none s f (option_map fault_view r) none h) (c.alternatives_fault.ensures s i is at fn none)
