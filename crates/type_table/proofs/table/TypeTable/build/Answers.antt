use Rattle.std.proofs.Common.{arith, length, ◌<◌}
use Rattle.decl_syntax.specs.Items.{file_view}
use Rattle.type_table.proofs.FirstFaults.{found_below, found_fault, none_broken, none_endless}
use Rattle.type_table.proofs.table.TypeTable.build.Goals as goal

pub index-requires : goal.index-requires
index-requires c =
    let lt : c.in-Some.item < length c.args.file.now.items.items =
    found_below c.args.file.now.items.items c.args.width c.in_ok-rule.field-0 c.in-Some.rule c.in-Some.item c.in-Some.is c.in_ok-rule.ensures in
    omega (arith, c.args.file.now.items.ok.0)

pub returns-in-Some-clause-fault : goal.returns-in-Some-clause-fault
returns-in-Some-clause-fault c =
    found_fault c.args.file.now.items.items c.args.width c.in_ok-rule.field-0 c.in-Some.rule c.in-Some.item c.index.result.now c.in-Some.is c.in_ok-rule.ensures c.index.ensures

pub finished-requires-clause-finite : goal.finished-requires-clause-finite
finished-requires-clause-finite c =
    none_endless (file_view c.args.file.now) c.args.width c.in_ok-draft.draft c.in_ok-draft.ensures
    (none_broken (file_view c.args.file.now) c.args.width c.in_ok-rule.field-0 c.in-None.is c.in_ok-rule.ensures)

pub returns-in-None-clause-table : goal.returns-in-None-clause-table
returns-in-None-clause-table c =
    c.finished.ensures (file_view c.args.file.now) c.args.width c.in_ok-draft.ensures
    (none_broken (file_view c.args.file.now) c.args.width c.in_ok-rule.field-0 c.in-None.is c.in_ok-rule.ensures)
