use Rattle.std.proofs.Common.{◌∙◌, map, ap}
use Rattle.type_table.specs.Tables.{table_program, table_type}
use Rattle.witness_names.specs.Named.{named_witness}
use Rattle.witnesses.specs.Views.{plain_witness}
use Rattle.witnesses.specs.declared.witness.Witness.{Witness}
use Rattle.match_top.specs.Reports.{numbered}
use Rattle.match_top.specs.Reporting.{setting_in}
use Rattle.match_top.proofs.Matches.{judged_entry}
use Rattle.match_top.proofs.reporting.add_found.Goals as goal

pub name_witnesses-requires-clause-file : goal.name_witnesses-requires-clause-file
name_witnesses-requires-clause-file g c = (g.whole, c.args.source.options.width, c.requires.0.table_is)

pub named_tree-requires-clause-file : goal.named_tree-requires-clause-file
named_tree-requires-clause-file g c = (g.whole, c.args.source.options.width, c.requires.0.table_is)

pub returns : goal.returns
returns g c = λ command number f fs h found name_is count.
    let x = c.args.source in
    c.add_report.ensures command (setting_in x g.whole) fs (numbered number f) h
    (judged_entry command x g.whole number f c.args.ty
    (record { exhaustive = c.args.found.now.exhaustive; witnesses = c.args.found.now.witnesses; unreachable = c.args.unreachable })
    c.args.overlaps.items c.args.found.now.tree _ _ _ found
    (c.as_str.ensures.value ∙ name_is)
    c.in_ok-tree.ensures
    (c.in_ok-witnesses.ensures
    ∙ ap (map (λ (w : Witness). named_witness (table_program x.table.now) (table_type x.table.now c.args.ty) (plain_witness w))) c.deref.ensures.value))
    count
