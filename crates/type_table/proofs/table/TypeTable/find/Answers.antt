use Rattle.std.proofs.Common.{subst, sym}
use Rattle.decl_syntax.specs.Patterns.{path_view}
use Rattle.type_names.specs.Finding.{path_finds}
use Rattle.type_table.specs.Paths.{FoundIs}
use Rattle.type_table.proofs.PathLemmas.{answer_is}
use Rattle.type_table.proofs.table.TypeTable.find.Goals as goal

pub returns : goal.returns
returns c items width is =
    subst (FoundIs c.args.self.now (path_finds items (path_view c.args.path.now))) (sym c.found.ensures)
    (answer_is items width c.args.self.now is (path_view c.args.path.now) c.find-target.result (c.find-target.ensures items is.names is.finder))
