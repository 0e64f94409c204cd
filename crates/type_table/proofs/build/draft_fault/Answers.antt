use Rattle.std.proofs.Common.{List, map, ap, sym, subst}
use Rattle.std.specs.Prelude.{IfOk, option_map}
use Rattle.match_model.specs.Declarations.{MProgram}
use Rattle.decl_syntax.specs.Items.{ItemTree, item_view, file_view}
use Rattle.type_table.specs.Faults.{Breaks, ContainsItself, IsEndless, FirstThat, LeastFault}
use Rattle.type_names.specs.Meanings.{means}
use Rattle.type_table.specs.declared.nodes.Node.{Node}
use Rattle.type_table.specs.declared.entries.Entry.{Entry}
use Rattle.type_table.specs.Nodes.{AreNodes, types_in}
use Rattle.type_table.specs.Entries.{NameThemselves}
use Rattle.type_table.specs.Readings.{fault_pair}
use Rattle.type_table.proofs.FirstFaults.{program_read}
use Rattle.type_table.proofs.OwnTypes.{own_types}
use Rattle.type_table.proofs.build.draft_fault.Goals as goal

pub first_cyclic-requires-clause-are : goal.first_cyclic-requires-clause-are
first_cyclic-requires-clause-are c = subst AreNodes (sym c.as_slice-nodes.ensures.keys) c.requires.whole.are

pub first_endless-requires-clause-are : goal.first_endless-requires-clause-are
first_endless-requires-clause-are c = subst AreNodes (sym c.as_slice-nodes.ensures.keys) c.requires.whole.are

pub first_endless-requires-clause-own : goal.first_endless-requires-clause-own
first_endless-requires-clause-own c =
    subst (λ (ns : List Node). NameThemselves (types_in ns) c.deref-2.result.now) (sym c.as_slice-nodes.ensures.keys)
    (subst (λ (es : List Entry). NameThemselves (types_in c.args.draft.now.nodes.keys) es) (sym c.deref-2.ensures.value)
    (own_types (means (file_view c.args.file.now)) (file_view c.args.file.now) (types_in c.args.draft.now.nodes.keys) c.args.draft.now.items.items c.requires.told))

pub least_fault-requires-clause-cyclic : goal.least_fault-requires-clause-cyclic
least_fault-requires-clause-cyclic c =
    subst (λ (p : MProgram). FirstThat (ContainsItself p) c.in_ok-cyclic.cyclic)
    (program_read (file_view c.args.file.now) c.args.width c.args.draft.now c.as_slice-nodes.result.now c.deref.result.now c.deref-3.result.now
    c.requires c.as_slice-nodes.ensures.keys c.deref.ensures.value (ap (map item_view) c.deref-3.ensures.value))
    c.in_ok-cyclic.ensures

pub least_fault-requires-clause-endless : goal.least_fault-requires-clause-endless
least_fault-requires-clause-endless c =
    subst (λ (p : MProgram). FirstThat (IsEndless p) c.in_ok-endless.endless)
    (program_read (file_view c.args.file.now) c.args.width c.args.draft.now c.as_slice-nodes.result.now c.deref-2.result.now c.deref-3.result.now
    c.requires c.as_slice-nodes.ensures.keys c.deref-2.ensures.value (ap (map item_view) c.deref-3.ensures.value))
    c.in_ok-endless.ensures

pub returns : goal.returns
returns c =
    subst (λ (xs : List ItemTree). IfOk c.least_fault.result (λ best. LeastFault (Breaks xs c.args.width) (option_map fault_pair best)))
    (ap (map item_view) c.deref-3.ensures.value) c.least_fault.ensures
