use Rattle.std.proofs.Common.{◌≡◌, ℕ, List, true, false, sym, ap, ◌∙◌, rules, Bool}
use Rattle.std.specs.Rc.{rc_str_bytes}
use Rattle.type_names.specs.NameMaps.{contains_name}
use Rattle.type_names.specs.NameRules.{is_among}
use Rattle.type_names.proofs.ItemTests.{any_found, any_more}
use Rattle.type_names.proofs.name_rules.some_taken.Goals as goal

pub returns-then-contains : goal.returns-then-contains
returns-then-contains c = λ before h.
    let there : contains_name c.args.taken.now (rc_str_bytes c.name-item.result) ≡ true = search rules in
    any_found rc_str_bytes (λ n. is_among n before) c.args.names.now c.loop-name.name-index c.name-item.result c.loop-name-test.true c.name-item.is
    (ap (λ (f : List ℕ → Bool). f (rc_str_bytes c.name-item.result)) (sym h) ∙ there)

pub loop-name-preserved : goal.loop-name-preserved
loop-name-preserved c = λ before h.
    let there : contains_name c.args.taken.now (rc_str_bytes c.name-item.result) ≡ false = search rules in
    any_more rc_str_bytes (λ n. is_among n before) c.args.names.now c.loop-name.name-index c.name-item.result c.loop-name-test.true c.name-item.is
    (c.loop-name.invariant before h) (ap (λ (f : List ℕ → Bool). f (rc_str_bytes c.name-item.result)) (sym h) ∙ there)
