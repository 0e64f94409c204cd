use Rattle.std.proofs.Common.{◌≡◌, ◌++◌, ◌-◌, string_bytes}
use Rattle.std.specs.List.{flat_map, range_with_len}
use Rattle.demo_file.specs.Generated.{listed_variant}
use Rattle.demo_file.proofs.enums.push_variants.Given as goal

abbrev pub invariant-loop-variant : goal.invariant-loop-variant
invariant-loop-variant l =
    string_bytes l.text ++ flat_map listed_variant (range_with_len l.variant (l.count - l.variant))
    ≡ string_bytes l.initial.text ++ flat_map listed_variant (range_with_len 0 l.count)
