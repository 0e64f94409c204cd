use Rattle.std.proofs.Common.{rules, List, map, sym, subst}
use Rattle.std.specs.Ordering.{is_lt}
use Rattle.std.proofs.lemmas.List.Sorted.{ranks_by}
use Rattle.std.proofs.lemmas.Fn.{always_returns_same}
use Rattle.match_model.specs.Witness.{MWitness}
use Rattle.type_table.specs.Tables.{table_program, table_type}
use Rattle.witnesses.specs.Views.{plain_witness}
use Rattle.arm_maker.specs.Order.{AreInArmOrder}
use Rattle.arm_maker.specs.Turns.{turn_cmp}
use Rattle.arm_maker.proofs.Sorted.{turns_total, turns_sorted}
use Rattle.arm_maker.proofs.order.in_order.Goals as goal

pub returns : goal.returns
returns c =
    let program = table_program c.args.table.now in
    let t = table_type c.args.table.now c.args.ty in
    let ws = c.args.witnesses.now in
    let old = c.in_ok-turns.turns.items in
    let new = c.sort_by.new.self.items in
    let up = c.in_ok-sort_by.ensures.sorted (λ a b. is_lt (turn_cmp a b)) (ranks_by turns_total (λ x. x))
    (always_returns_same _ _ _ (λ a r f k. search rules)) in
    subst (λ (vs : List MWitness). AreInArmOrder program t (map plain_witness ws) vs) (sym c.in_ok-sorted.ensures)
    (turns_sorted program t old new ws c.in_ok-turns.ensures.witnesses c.requires.typed c.in_ok-turns.ensures.keys
    c.requires.apart
    c.sort_by.ensures.permutation up)
