use Rattle.std.proofs.Common.{rules, sym, ap, subst, ◌∙◌, get_or, map, ◌∷◌, []}
use Rattle.std.proofs.lemmas.List.{map-append}
use Rattle.pat_context.specs.Parts.{Tells}
use Rattle.pattern_arena.specs.Trees.{plain_arm, plain_match}
use Rattle.range_split.specs.Numbers.{num_value}
use Rattle.pattern_lints.specs.Along.{Touching, MeetTogether}
use Rattle.pattern_lints.specs.Finding.{range_view}
use Rattle.pattern_lints.specs.Views.{plain_overlap, plain_overlaps}
use Rattle.pattern_lints.specs.Pairing.{Adds, IsPair}
use Rattle.pattern_lints.proofs.EndList.{mapped-at}
use Rattle.pattern_lints.proofs.PairList.{typed-arm, arms-touch, pair-none, pair-one}
use Rattle.pattern_lints.proofs.pairs.add_pair.Goals as goal

pub along-requires-clause-first : goal.along-requires-clause-first
along-requires-clause-first g c =
    let arms = c.args.m.now.arms.now in
    let i = c.args.one.now.arm in
    let r = c.index-m-one.result in
    typed-arm (g.C.PatCx.is_type c.args.cx.now) (g.C.PatCx.context c.args.cx.now) (plain_match c.args.m.now) i (plain_arm (get_or arms i r)) c.requires.typed
    (mapped-at plain_arm arms i r c.requires.one_arm)

pub along-requires-clause-second : goal.along-requires-clause-second
along-requires-clause-second g c =
    let arms = c.args.m.now.arms.now in
    let i = c.args.other.now.arm in
    let r = c.index-m-other.result in
    typed-arm (g.C.PatCx.is_type c.args.cx.now) (g.C.PatCx.context c.args.cx.now) (plain_match c.args.m.now) i (plain_arm (get_or arms i r)) c.requires.typed
    (mapped-at plain_arm arms i r c.requires.other_arm)

pub along-requires-clause-touch : goal.along-requires-clause-touch
along-requires-clause-touch g c =
    let arms = c.args.m.now.arms.now in
    let f = range_view c.args.one.now in
    let l = range_view c.args.other.now in
    let p = plain_arm (get_or arms f.arm c.index-m-one.result) in
    let q = plain_arm (get_or arms l.arm c.index-m-other.result) in
    subst (λ path. Touching p.pat path q.pat c.deref-2.result.now) (sym c.deref.ensures.value)
    (subst (λ path. Touching p.pat f.path q.pat path) (sym c.deref-2.ensures.value)
    (arms-touch (map plain_arm arms) f l (num_value c.args.value) p q c.requires.one c.requires.other c.requires.touch
    (mapped-at plain_arm arms f.arm c.index-m-one.result c.requires.one_arm) (mapped-at plain_arm arms l.arm c.index-m-other.result c.requires.other_arm)))

pub returns-in_ok-push : goal.returns-in_ok-push
returns-in_ok-push g c =
    let arms = c.args.m.now.arms.now in
    let m = plain_match c.args.m.now in
    let f = range_view c.args.one.now in
    let l = range_view c.args.other.now in
    let x = num_value c.args.value in
    let p = plain_arm (get_or arms f.arm c.index-m-one.result) in
    let q = plain_arm (get_or arms l.arm c.index-m-other.result) in
    let IsValue = g.C.PatCx.is_value c.args.cx.now in
    let old = c.args.overlaps.now.items in
    let told = subst (λ path. Tells c.along.result (MeetTogether IsValue m.type m.sure p.pat path q.pat l.path)) c.deref.ensures.value
    (subst (λ path. Tells c.along.result (MeetTogether IsValue m.type m.sure p.pat c.deref.result.now q.pat path)) c.deref-2.ensures.value c.along.ensures) in
    let together = subst (λ b. Tells b (MeetTogether IsValue m.type m.sure p.pat f.path q.pat l.path)) c.if-along.true told in
    subst (Adds (IsPair IsValue m f l x) (plain_overlaps old)) (sym (ap plain_overlaps c.in_ok-push.ensures.items ∙ map-append plain_overlap old (c.overlap_at.result ∷ [])))
    (pair-one IsValue m f l x (plain_overlaps old) p q (plain_overlap c.overlap_at.result) (mapped-at plain_arm arms f.arm c.index-m-one.result c.requires.one_arm)
    (mapped-at plain_arm arms l.arm c.index-m-other.result c.requires.other_arm) (search rules) together c.overlap_at.ensures)

pub returns-else-along : goal.returns-else-along
returns-else-along g c =
    let arms = c.args.m.now.arms.now in
    let m = plain_match c.args.m.now in
    let f = range_view c.args.one.now in
    let l = range_view c.args.other.now in
    let x = num_value c.args.value in
    let p = plain_arm (get_or arms f.arm c.index-m-one.result) in
    let q = plain_arm (get_or arms l.arm c.index-m-other.result) in
    let IsValue = g.C.PatCx.is_value c.args.cx.now in
    let told = subst (λ path. Tells c.along.result (MeetTogether IsValue m.type m.sure p.pat path q.pat l.path)) c.deref.ensures.value
    (subst (λ path. Tells c.along.result (MeetTogether IsValue m.type m.sure p.pat c.deref.result.now q.pat path)) c.deref-2.ensures.value c.along.ensures) in
    let apart = subst (λ b. Tells b (MeetTogether IsValue m.type m.sure p.pat f.path q.pat l.path)) c.if-along.false told in
    pair-none IsValue m f l x (plain_overlaps c.args.overlaps.now.items) p q (mapped-at plain_arm arms f.arm c.index-m-one.result c.requires.one_arm)
    (mapped-at plain_arm arms l.arm c.index-m-other.result c.requires.other_arm) apart
