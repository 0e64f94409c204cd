use Rattle.std.proofs.Common.{true, [], ◌∷◌, subst, sym}
use Rattle.type_names.specs.Finding.{name_finds}
use Rattle.type_table.specs.Paths.{FoundIs}
use Rattle.type_table.proofs.PathLemmas.{answer_is}
use Rattle.type_table.proofs.table.TypeTable.find_name.Goals as goal

-- a bare name finds what the path of that one name finds
pub returns : goal.returns
returns c items width is =
    subst (FoundIs c.args.self.now (name_finds items c.args.name.now)) (sym c.found.ensures)
    (answer_is items width c.args.self.now is (record { names = c.args.name.now ∷ []; plain = true }) c.find_name-target.result (c.find_name-target.ensures items is.finder))
