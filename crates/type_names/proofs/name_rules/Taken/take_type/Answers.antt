use Rattle.std.proofs.Common.{ℕ, List}
use Rattle.std.specs.Rc.{rc_str_bytes}
use Rattle.type_names.proofs.TakenLemmas.{free_is, taken_behind}
use Rattle.type_names.proofs.name_rules.Taken.take_type.Goals as goal

pub returns : goal.returns
returns c = λ types functions values are.
    let name : List ℕ = rc_str_bytes c.args.name.now in (
      free_is types _ name _ are.types_are c.in_ok-is_new.ensures.free,
      λ _. record {
        types_are = taken_behind types _ _ name are.types_are c.in_ok-is_new.ensures.taken;
        functions_are = are.functions_are;
        values_are = are.values_are;
      },
    )
