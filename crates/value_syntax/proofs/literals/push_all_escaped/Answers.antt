use Rattle.std.proofs.Common.{◌∙◌, ap, sym, ◌++◌, string_bytes}
use Rattle.std.specs.Prelude.{flat_map}
use Rattle.std.proofs.lemmas.Iterator.{YieldsList-from_chars}
use Rattle.std.proofs.lemmas.Iterator.Consumers.{YieldsList-end}
use Rattle.witness_text.specs.Literals.{escaped}
use Rattle.witness_text.proofs.Adding.{two_added}
use Rattle.witness_text.proofs.Lists.{one_more, same_items}
use Rattle.value_syntax.proofs.literals.push_all_escaped.Goals as goal

pub loop-c-preserved : goal.loop-c-preserved
loop-c-preserved c =
    two_added _ _ _ _ _ c.loop-c.invariant c.in_ok-push_escaped.ensures
    ∙ ap (λ z. string_bytes c.args.text.now ++ z) (sym (one_more (escaped 34) c.loop-c.yielded c.in-Some.c))

pub returns : goal.returns
returns c =
    let t = YieldsList-end (YieldsList-from_chars c.args.shown.now c.utf8.shown cc)
    c.loop-c.yielded _ c.loop-c.yielded_by _ _ c.in-None.is c.next.ensures.steps in
    c.loop-c.invariant ∙ ap (λ cs. string_bytes c.args.text.now ++ flat_map (escaped 34) cs)
    (sym (same_items c.loop-c.yielded) ∙ t.0)
