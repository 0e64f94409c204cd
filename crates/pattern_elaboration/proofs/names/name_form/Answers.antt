use Rattle.type_names.specs.Finding.{name_finds}
use Rattle.pattern_elaboration.proofs.FoundLemmas.{found_of}
use Rattle.pattern_elaboration.proofs.names.name_form.Goals as goal

pub form-requires : goal.form-requires
form-requires c = record {
  of = found_of c.args.table.now (name_finds c.requires.0 c.args.name.now) c.find_name-found.result
      (c.find_name-found.ensures c.requires.0 c.requires.1 c.requires.2);
}

pub returns : goal.returns
returns c = λ s is. c.form.ensures.form s.items s.width (name_finds s.items c.args.name.now) is
    (c.find_name-found.ensures s.items s.width is)
