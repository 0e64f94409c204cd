use Rattle.std.proofs.Common.{◌++◌, suc, pos, map, ap, sym, ◌∙◌}
use Rattle.std.proofs.lemmas.Iterator.{YieldsList-from_chars}
use Rattle.std.proofs.lemmas.Iterator.Consumers.{YieldsList-end}
use Rattle.witness_text.proofs.Lists.{same_items}
use Rattle.arm_maker.specs.Turns.{values}
use Rattle.arm_maker.proofs.keys.push_characters.Goals as goal

pub returns : goal.returns
returns c =
    let t = YieldsList-end (YieldsList-from_chars c.args.text.now c.utf8.text cc)
    c.loop-c.yielded _ c.loop-c.yielded_by _ _ c.in-None.is c.next.ensures.steps in
    c.loop-c.invariant ∙ ap (λ cs. values c.args.key.now.items ++ map (λ x. pos (suc x)) cs)
    (sym (same_items c.loop-c.yielded) ∙ t.0)
