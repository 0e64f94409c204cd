use Rattle.std.proofs.Common.{◌≡◌, List, true, sym, subst, Option, Some, None}
use Rattle.std.specs.Prelude.{pos}
use Rattle.match_model.specs.Numbers.{MRange, in_range}
use Rattle.pattern_arena.specs.Trees.{tree}
use Rattle.range_split.specs.Ranges.{plain_range}
use Rattle.pattern_lints.specs.declared.beside.Column.{Column}
use Rattle.pattern_lints.specs.Beside.{number_beside}
use Rattle.pattern_lints.specs.Mixing.{first_number, LiesAt}
use Rattle.pattern_lints.proofs.BesideLaws.{in-itself}
use Rattle.pattern_lints.proofs.mixing.first_numbers.Goals as goal

pub returns-in-Some : goal.returns-in-Some
returns-in-Some g c = λ known.
    let p = c.args.p.now in
    let column = c.in-Some.column in
    let r = plain_range c.numbers_beside.result in
    subst (λ (o : Option Column). LiesAt (tree p) c.args.path.now (first_number o) r) (sym c.in-Some.is)
    (λ v position at s m. subst (λ steps. in_range r (number_beside column.depth steps position v) ≡ true) c.deref.ensures.value (c.numbers_beside.ensures known v position at s m))

pub returns-in-None : goal.returns-in-None
returns-in-None g c = λ known.
    let p = c.args.p.now in
    let r = plain_range c.one_number.result in
    subst (λ (o : Option Column). LiesAt (tree p) c.args.path.now (first_number o) r) (sym c.in-None.is)
    (λ v position at s m. subst (λ (q : MRange). in_range q (pos 0) ≡ true) (sym c.one_number.ensures) (in-itself (pos 0)))
