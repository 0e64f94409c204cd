use Rattle.std.proofs.Common.{◌≡◌, false, map, take}
use Rattle.std.specs.Rc.{rc_str_bytes}
use Rattle.std.specs.Str.{bytes_eq}
use Rattle.std.specs.List.{list_any}
use Rattle.type_names.proofs.imports.first_place.Given as goal

abbrev pub invariant-loop-i : goal.invariant-loop-i
invariant-loop-i l = list_any (bytes_eq l.name) (map rc_str_bytes (take l.i l.names)) ≡ false
