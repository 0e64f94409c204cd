use Rattle.usefulness.specs.States.{child_views, wild_view, is_noted, scope_of}
use Rattle.usefulness.proofs.Looking.{single_listed}
use Rattle.usefulness.proofs.Splits.{wild_fit, looked_wild}
use Rattle.usefulness.proofs.children.dropped_column.Goals as goal

pub returns-clause-looked : goal.returns-clause-looked
returns-clause-looked g c =
    let cx = c.args.cx.now in
    let IsType = g.C.PatCx.is_type cx in
    let IsValue = g.C.PatCx.is_value cx in
    let context = g.C.PatCx.context cx in
    let values = g.met.C.PatCx.values cx in
    let law = g.met.C.PatCx.parts cx in
    let scope = scope_of c.args.reached.now in
    let a = c.args.a.now in
    let old = is_noted c.args.reached.now in
    let now = is_noted c.wild_child.new.reached in
    let new = child_views c.in_ok-wild.wild in
    looked_wild IsType IsValue context values law scope a c.requires.apart c.requires.fit old now new c.requires.none c.requires.sharp
    (single_listed IsValue old now (wild_view a) new (c.in_ok-wild.ensures.listed (wild_fit IsType IsValue context values law scope a c.requires.apart c.requires.fit c.requires.none).some))
