use Rattle.std.proofs.Common.{ℕ, List, ◌++◌, map, take, sym, ap, ◌∙◌, arith}
use Rattle.std.specs.Rc.{rc_str_bytes}
use Rattle.std.proofs.lemmas.List.{append-nil}
use Rattle.type_names.specs.NameMaps.{contains_name}
use Rattle.type_names.specs.Views.{among}
use Rattle.type_names.proofs.Places.{front_more}
use Rattle.type_names.proofs.TakenLemmas.{taken_more, whole_map}
use Rattle.type_names.proofs.name_rules.add_names.Goals as goal

pub loop-name-init : goal.loop-name-init
loop-name-init c = λ before h. h ∙ ap among (sym (append-nil before))

pub loop-name-preserved : goal.loop-name-preserved
loop-name-preserved c = λ before h.
    taken_more before (map rc_str_bytes (take c.loop-name.name-index c.args.names.now)) (contains_name c.loop-name.taken) (contains_name c.take_name.new.taken) (rc_str_bytes c.name-item.result)
    (c.loop-name.invariant before h) c.in_ok-take_name.ensures.taken
    ∙ ap (λ (zs : List (List ℕ)). among (before ++ zs)) (sym (front_more rc_str_bytes c.args.names.now c.loop-name.name-index c.name-item.result c.loop-name-test.true c.name-item.is))

pub returns : goal.returns
returns c = λ before h.
    c.loop-name.invariant before h ∙ ap (λ (zs : List (List ℕ)). among (before ++ zs)) (whole_map rc_str_bytes c.args.names.now c.loop-name.name-index (omega arith))
