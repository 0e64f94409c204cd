use Rattle.std.proofs.Common.{sym, ap, ◌∙◌}
use Rattle.type_table.specs.Marks.{lacks_value}
use Rattle.type_table.proofs.PartLemmas.{part_is_of}
use Rattle.type_table.proofs.table.TypeTable.is_empty_field.Goals as goal

pub is_empty-requires : goal.is_empty-requires
is_empty-requires c = record {
  of = part_is_of c.args.self.now c.args.ty c.args.k c.args.i c.in-Some.id c.requires.of (sym c.field_there.ensures ∙ c.in-Some.is);
}

pub returns-in-Some : goal.returns-in-Some
returns-in-Some c = c.is_empty.ensures.found ∙ ap (lacks_value c.args.self.now) (sym c.in-Some.is ∙ c.field_there.ensures)

pub returns-in-None : goal.returns-in-None
returns-in-None c = ap (lacks_value c.args.self.now) (sym c.in-None.is ∙ c.field_there.ensures)
