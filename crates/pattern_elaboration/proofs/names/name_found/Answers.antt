use Rattle.std.proofs.Common.{◌≡◌, true, sym, ◌∙◌}
use Rattle.type_names.specs.Finding.{name_finds}
use Rattle.pattern_rules.specs.Namings.{is_path_name}
use Rattle.pattern_elaboration.proofs.FoundLemmas.{found_of}
use Rattle.pattern_elaboration.proofs.names.name_found.Goals as goal

pub returns-then-is_path_name-clause-of : goal.returns-then-is_path_name-clause-of
returns-then-is_path_name-clause-of c =
    found_of c.args.table.now (name_finds c.requires.0 c.args.name.now) c.find_name.result
    (c.find_name.ensures c.requires.0 c.requires.1 c.requires.2)

pub returns-then-is_path_name-clause-is : goal.returns-then-is_path_name-clause-is
returns-then-is_path_name-clause-is c = λ s is.
    let e : is_path_name s c.args.name.now ≡ true = sym (c.is_path_name.ensures s is) ∙ c.if-is_path_name.true in
    rw e (c.find_name.ensures s.items s.width is)
