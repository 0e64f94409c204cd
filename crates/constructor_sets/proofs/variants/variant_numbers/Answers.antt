use Rattle.std.proofs.Common.{ℕ, List, subst}
use Rattle.std.proofs.lemmas.Result.{IfOk-weaker}
use Rattle.constructor_sets.specs.Columns.{plain_ctors}
use Rattle.constructor_sets.specs.Numbered.{AreOnce, AreNumbers}
use Rattle.constructor_sets.proofs.Numbering.{heads_numbers}
use Rattle.constructor_sets.proofs.variants.variant_numbers.Goals as goal

pub returns-then-is_worth_a_table : goal.returns-then-is_worth_a_table
returns-then-is_worth_a_table c =
    let heads = plain_ctors c.args.heads.now in
    let numbers = c.in_ok-numbers.numbers.items in
    IfOk-weaker c.marked_numbers.result (λ v. AreOnce c.deref-then-is_worth_a_table.result.now v.items) (λ v. AreNumbers heads v.items)
    (λ v a. heads_numbers heads numbers v.items c.in_ok-numbers.ensures (subst (λ (xs : List ℕ). AreOnce xs v.items) c.deref-then-is_worth_a_table.ensures.value a))
    c.marked_numbers.ensures

pub returns-else-is_worth_a_table : goal.returns-else-is_worth_a_table
returns-else-is_worth_a_table c =
    let heads = plain_ctors c.args.heads.now in
    let numbers = c.in_ok-numbers.numbers.items in
    IfOk-weaker c.sorted_numbers.result (λ v. AreOnce numbers v.items) (λ v. AreNumbers heads v.items)
    (λ v a. heads_numbers heads numbers v.items c.in_ok-numbers.ensures a)
    c.sorted_numbers.ensures
