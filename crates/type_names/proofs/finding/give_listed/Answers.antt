use Rattle.std.proofs.Common.{◌≡◌, ℕ, List, map, take, sym, ap, ◌∙◌, arith, rules, ◌++◌, ◌∷◌, []}
use Rattle.std.specs.Rc.{rc_str_bytes}
use Rattle.std.specs.Str.{bytes_eq}
use Rattle.type_names.specs.NameRules.{is_among}
use Rattle.type_names.specs.Finding.{FoundTree, or_else, path_variant}
use Rattle.type_names.specs.FindingViews.{found_in, masked}
use Rattle.type_names.proofs.Places.{front_more}
use Rattle.type_names.proofs.TakenLemmas.{whole_map}
use Rattle.type_names.proofs.FindingLemmas.{or_nothing, or_again, masked_step}
use Rattle.type_names.proofs.finding.give_listed.Goals as goal

pub loop-name-init : goal.loop-name-init
loop-name-init c = λ items are q. sym (or_nothing (found_in c.args.targets.now q))

pub loop-name-preserved : goal.loop-name-preserved
loop-name-preserved c = λ items are q.
    let owner = c.args.owner.now in
    let n = c.deref.result.now in
    let same : rc_str_bytes c.name-item.result ≡ n = search rules in
    let same-2 : c.deref-in-loop-name.result.now ≡ n = search rules in
    let front = map rc_str_bytes (take c.loop-name.name-index c.args.listed.now) in
    let old = found_in c.args.targets.now q in
    masked_step or_else or_nothing or_again (path_variant items owner) front n q old (found_in c.loop-name.targets q) (found_in c.give.new.targets q)
    (c.loop-name.invariant items are q)
    (c.in_ok-give.ensures q ∙ ap (λ (f : FoundTree). or_else (found_in c.loop-name.targets q) (masked (bytes_eq q n) f)) (c.path_variant.ensures items are ∙ ap (path_variant items owner) same-2))
    ∙ ap (λ (ns : List (List ℕ)). or_else old (masked (is_among q ns) (path_variant items owner q)))
    (sym (front_more rc_str_bytes c.args.listed.now c.loop-name.name-index c.name-item.result c.loop-name-test.true c.name-item.is ∙ ap (λ (m : List ℕ). front ++ m ∷ []) same))

pub returns : goal.returns
returns c = λ items are q.
    c.loop-name.invariant items are q
    ∙ ap (λ (ns : List (List ℕ)). or_else (found_in c.args.targets.now q) (masked (is_among q ns) (path_variant items c.args.owner.now q)))
    (whole_map rc_str_bytes c.args.listed.now c.loop-name.name-index (omega arith))
