use Rattle.std.proofs.Common.{◌≡◌, ◌++◌, ◌-◌, map, string_bytes}
use Rattle.std.specs.List.{range_with_len}
use Rattle.demo_file.specs.Generated.{unit_variant, arms_from}
use Rattle.demo_file.proofs.functions.push_unit_arms.Given as goal

abbrev pub invariant-loop-variant : goal.invariant-loop-variant
invariant-loop-variant l =
    string_bytes l.text
    ++ arms_from l.item l.variant (map unit_variant (range_with_len l.variant (l.count - l.variant)))
    ≡ string_bytes l.initial.text ++ arms_from l.item 0 (map unit_variant (range_with_len 0 l.count))
