use Rattle.std.proofs.Common.{◌≡◌, ℕ, List, ◌++◌, true, not, map, take, drop, ◌+◌, sym, ap, ◌∙◌, arith, refl}
use Rattle.std.specs.Rc.{rc_str_bytes}
use Rattle.std.proofs.lemmas.List.{append-nil}
use Rattle.type_names.specs.NameMaps.{contains_name}
use Rattle.type_names.specs.NameRules.{repeats}
use Rattle.type_names.specs.Views.{among}
use Rattle.type_names.proofs.Places.{front_more}
use Rattle.type_names.proofs.TakenLemmas.{taken_step, taken_twice, parted_map, whole_map}
use Rattle.type_names.proofs.name_rules.take_names.Goals as goal

pub loop-name-init : goal.loop-name-init
loop-name-init c = λ before h. (refl, h ∙ ap among (sym (append-nil before)))

pub returns-then-not-branch : goal.returns-then-not-branch
returns-then-not-branch c = λ before h.
    let twice = taken_twice before (map rc_str_bytes (take c.loop-name.name-index c.args.names.now)) (map rc_str_bytes (drop (c.loop-name.name-index + 1) c.args.names.now))
    (contains_name c.loop-name.taken) (rc_str_bytes c.name-item.result) c.in_ok-take_name.field-0 (c.loop-name.invariant before h).1 c.in_ok-take_name.ensures.free c.if-not-branch.true in
    let all = parted_map rc_str_bytes c.args.names.now c.loop-name.name-index c.name-item.result c.loop-name-test.true c.name-item.is in
    let there : repeats before (map rc_str_bytes c.args.names.now) ≡ true = ap (repeats before) all ∙ twice in
    (sym (ap not there), λ e. absurd cc)

pub loop-name-preserved : goal.loop-name-preserved
loop-name-preserved c = λ before h.
    let step = taken_step before (map rc_str_bytes (take c.loop-name.name-index c.args.names.now)) (contains_name c.loop-name.taken) (contains_name c.take_name.new.taken)
    (rc_str_bytes c.name-item.result) c.in_ok-take_name.field-0 (c.loop-name.invariant before h).0 (c.loop-name.invariant before h).1 c.in_ok-take_name.ensures.free c.if-not-branch.false c.in_ok-take_name.ensures.taken in
    let more = front_more rc_str_bytes c.args.names.now c.loop-name.name-index c.name-item.result c.loop-name-test.true c.name-item.is in
    (ap (repeats before) more ∙ step.0, step.1 ∙ ap (λ (zs : List (List ℕ)). among (before ++ zs)) (sym more))

pub returns : goal.returns
returns c = λ before h.
    let whole = whole_map rc_str_bytes c.args.names.now c.loop-name.name-index (omega arith) in
    let facts = c.loop-name.invariant before h in
    (sym (ap not (ap (repeats before) (sym whole) ∙ facts.0)), λ e. facts.1 ∙ ap (λ (zs : List (List ℕ)). among (before ++ zs)) whole)
