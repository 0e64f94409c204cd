use Rattle.std.proofs.Common.{◌≡◌, true, sym, ◌∙◌}
use Rattle.decl_syntax.specs.Patterns.{path_view}
use Rattle.type_names.specs.Finding.{path_finds}
use Rattle.pattern_rules.specs.Namings.{is_short}
use Rattle.pattern_elaboration.proofs.FoundLemmas.{found_of}
use Rattle.pattern_elaboration.proofs.names.path_found.Goals as goal

pub returns-then-is_short-clause-of : goal.returns-then-is_short-clause-of
returns-then-is_short-clause-of c =
    found_of c.args.table.now (path_finds c.requires.0 (path_view c.args.path.now)) c.find.result
    (c.find.ensures c.requires.0 c.requires.1 c.requires.2)

pub returns-then-is_short-clause-is : goal.returns-then-is_short-clause-is
returns-then-is_short-clause-is c = λ s is.
    let e : is_short (path_view c.args.path.now) ≡ true = sym c.is_short.ensures ∙ c.if-is_short.true in
    rw e (c.find.ensures s.items s.width is)
