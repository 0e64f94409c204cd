use Rattle.std.proofs.Common.{◌≡◌, [], sym, ap, subst, ◌∙◌, Some}
use Rattle.range_split.specs.Ranges.{plain_range}
use Rattle.pattern_arena.specs.Trees.{tree}
use Rattle.pattern_arena.proofs.TreeFacts.{ctor_of-tree}
use Rattle.pattern_lints.specs.Hulls.{is_kept, noted}
use Rattle.pattern_lints.proofs.HullLaws.{widens-same, lies-wider, untold, uid-tree}
use Rattle.pattern_lints.proofs.hulls.note_own.Goals as goal

pub returns-then-not-is_kept-clause-widens : goal.returns-then-not-is_kept-clause-widens
returns-then-not-is_kept-clause-widens g c = widens-same c.args.hulls.now

pub returns-then-not-is_kept-clause-known : goal.returns-then-not-is_kept-clause-known
returns-then-not-is_kept-clause-known g c = λ kept.
    let p = c.args.p.now in
    absurd (untold _ kept (ap is_kept (ctor_of-tree p) ∙ sym c.is_kept.ensures ∙ c.if-not-is_kept.true))

pub returns-clause-known : goal.returns-clause-known
returns-clause-known g c = λ kept.
    let p = c.args.p.now in
    let n = c.in_ok-note.ensures.noted in
    (n.0, subst (λ u. noted c.note.new.hulls u ≡ Some n.0) (sym (uid-tree p)) n.1, lies-wider (tree p) [] (plain_range c.numbers_once-numbers.result) n.0 n.2 c.numbers_once-numbers.ensures)
