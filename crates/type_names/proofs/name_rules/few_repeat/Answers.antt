use Rattle.std.proofs.Common.{◌≡◌, ℕ, ◌+◌, ◌||◌, [], List, not, false, true, map, take, drop, refl, sym, ap, ◌∙◌}
use Rattle.std.specs.Rc.{rc_str_bytes}
use Rattle.std.specs.Str.{bytes_eq}
use Rattle.decl_syntax.specs.Items.{VariantTree, variant_view}
use Rattle.type_names.specs.NameRules.{is_among, repeats}
use Rattle.type_names.specs.Views.{among}
use Rattle.type_names.proofs.TakenLemmas.{taken_step, taken_twice, parted_names, front_names}
use Rattle.type_names.proofs.name_rules.few_repeat.Goals as goal

pub returns-then-is_named_before : goal.returns-then-is_named_before
returns-then-is_named_before c =
    let all = c.args.variants.now in
    let i = c.loop-i.i in
    let before : List (List ℕ) = map (λ x. x.name) (map variant_view (take i all)) in
    let name : List ℕ = rc_str_bytes c.index-variants-i.result.name in
    let there : is_among name before ≡ true = sym c.is_named_before.ensures ∙ c.if-is_named_before.true in
    let twice = taken_twice [] before (map (λ x. x.name) (map variant_view (drop (i + 1) all))) (among before) name (not (is_among name before)) refl refl (ap not there) in
    let names = parted_names variant_view (λ (x : VariantTree). x.name) all i c.index-variants-i.result c.loop-i-test.true c.index-variants-i.is in
    sym (ap (repeats []) names ∙ twice)

pub loop-i-preserved : goal.loop-i-preserved
loop-i-preserved c =
    let all = c.args.variants.now in
    let i = c.loop-i.i in
    let before : List (List ℕ) = map (λ x. x.name) (map variant_view (take i all)) in
    let name : List ℕ = rc_str_bytes c.index-variants-i.result.name in
    let fresh : is_among name before ≡ false = sym c.is_named_before.ensures ∙ c.if-is_named_before.false in
    let step = taken_step [] before (among before) (λ q. among before q || bytes_eq q name) name (not (is_among name before)) c.loop-i.invariant refl refl (ap not fresh) refl in
    let names = front_names variant_view (λ (x : VariantTree). x.name) all i c.index-variants-i.result c.loop-i-test.true c.index-variants-i.is in
    ap (repeats []) names ∙ step.0
