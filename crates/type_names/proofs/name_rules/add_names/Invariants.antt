use Rattle.std.proofs.Common.{◌≡◌, ℕ, List, ◌++◌, map, take}
use Rattle.std.specs.Rc.{rc_str_bytes}
use Rattle.type_names.specs.NameMaps.{contains_name}
use Rattle.type_names.specs.Views.{among}
use Rattle.type_names.proofs.name_rules.add_names.Given as goal

abbrev pub invariant-loop-name : goal.invariant-loop-name
invariant-loop-name l = (before : List (List ℕ)) → contains_name l.initial.taken ≡ among before →
    contains_name l.taken ≡ among (before ++ map rc_str_bytes (take l.name-index l.names))
