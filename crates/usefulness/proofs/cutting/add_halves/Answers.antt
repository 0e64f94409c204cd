use Rattle.std.proofs.Common.{◌+◌, ◌-◌, ◌/◌, ◌++◌, ◌∷◌, [], refl, ap, ◌∙◌, arith}
use Rattle.pattern_matrix.specs.declared.halving.Part.{Part}
use Rattle.usefulness.proofs.cutting.add_halves.Goals as goal

pub returns : goal.returns
returns c =
    let first = c.args.first in
    let end = c.args.end in
    let middle = first + (end - first) / 2 in
    let several = c.requires.several in
    let low : Part = record { first = first; end = middle; leaves = c.in_ok-others.others } in
    let high : Part = record { first = middle; end = end; leaves = c.args.leaves } in
    record {
      low = low;
      high = high;
      are = c.in_ok-push-2.ensures.items ∙ ap (λ ps. ps ++ high ∷ []) c.in_ok-push.ensures.items;
      first = refl;
      middle = refl;
      last = refl;
      some_low = omega (arith, several);
      some_high = omega (arith, several);
      low_leaves = c.in_ok-others.ensures.items ∙ c.deref.ensures.value;
      high_leaves = refl;
    }
