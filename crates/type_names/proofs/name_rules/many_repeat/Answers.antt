use Rattle.std.proofs.Common.{◌+◌, [], map, take, drop, sym, ap, ◌∙◌}
use Rattle.std.specs.Rc.{rc_str_bytes}
use Rattle.type_names.specs.NameMaps.{contains_name}
use Rattle.decl_syntax.specs.Items.{VariantTree, variant_view}
use Rattle.type_names.specs.NameRules.{repeats}
use Rattle.type_names.specs.Views.{among}
use Rattle.type_names.proofs.TakenLemmas.{taken_step, taken_twice, parted_names, front_names}
use Rattle.type_names.proofs.name_rules.many_repeat.Goals as goal

pub returns-then-not-branch : goal.returns-then-not-branch
returns-then-not-branch c =
    let all = c.args.variants.now in
    let i = c.loop-variant.variant-index in
    let twice = taken_twice [] (map (λ x. x.name) (map variant_view (take i all))) (map (λ x. x.name) (map variant_view (drop (i + 1) all)))
    (contains_name c.loop-variant.taken) (rc_str_bytes c.variant-item.result.name) c.in_ok-take_name.field-0 c.loop-variant.invariant.1 c.in_ok-take_name.ensures.free c.if-not-branch.true in
    let names = parted_names variant_view (λ (x : VariantTree). x.name) all i c.variant-item.result c.loop-variant-test.true c.variant-item.is in
    sym (ap (repeats []) names ∙ twice)

pub loop-variant-preserved : goal.loop-variant-preserved
loop-variant-preserved c =
    let all = c.args.variants.now in
    let i = c.loop-variant.variant-index in
    let step = taken_step [] (map (λ x. x.name) (map variant_view (take i all))) (contains_name c.loop-variant.taken) (contains_name c.take_name.new.taken)
    (rc_str_bytes c.variant-item.result.name) c.in_ok-take_name.field-0 c.loop-variant.invariant.0 c.loop-variant.invariant.1 c.in_ok-take_name.ensures.free c.if-not-branch.false c.in_ok-take_name.ensures.taken in
    let names = front_names variant_view (λ (x : VariantTree). x.name) all i c.variant-item.result c.loop-variant-test.true c.variant-item.is in
    (ap (repeats []) names ∙ step.0, step.1 ∙ ap among (sym names))
