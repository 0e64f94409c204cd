use Rattle.std.proofs.Common.{◌≡◌, ℕ, ℤ, [], List, true, Option, Some, None, sym, ap, subst, ◌∙◌}
use Rattle.std.specs.Prelude.{int_le}
use Rattle.pattern_arena.specs.Trees.{tree}
use Rattle.range_split.specs.Numbers.{num_value}
use Rattle.pattern_lints.specs.Along.{MeetsAlong}
use Rattle.pattern_lints.specs.declared.mixing.Columns.{Columns}
use Rattle.pattern_lints.specs.Beside.{number_beside, held_of}
use Rattle.pattern_lints.specs.Mixing.{number_of}
use Rattle.pattern_lints.proofs.EndList.{got-at}
use Rattle.pattern_lints.proofs.ends.bounds_beside.Goals as goal

pub returns-in-Some : goal.returns-in-Some
returns-in-Some g c = λ v position at s m.
    let own = c.in-Some.own.now in
    let columns = c.args.columns.now in
    let place = c.args.range.now.place in
    let there = got-at columns place own c.in-Some.ensures.lookup.3.0 ∙ ap Some (sym c.in-Some.ensures.lookup.1) in
    let from = num_value c.bounds-in-Some.result.0 in
    let to = num_value c.bounds-in-Some.result.1 in
    let met = subst (λ (path : List ℕ). MeetsAlong (tree c.args.p.now) path v position at s) (sym c.deref.ensures.value) m in
    subst (λ (o : Option Columns). (int_le from (held_of (elim o [ None ↦ number_beside 0 [] position v | Some k ↦ number_of k position v ])) ≡ true)
    × (int_le (held_of (elim o [ None ↦ number_beside 0 [] position v | Some k ↦ number_of k position v ])) to ≡ true)) (sym there)
    (c.bounds-in-Some.ensures (number_of own position v) (c.numbers_in.ensures (c.requires place own there) v position at s met))
