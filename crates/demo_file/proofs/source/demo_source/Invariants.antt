use Rattle.std.proofs.Common.{◌≡◌, ◌++◌, ◌-◌, string_bytes}
use Rattle.std.specs.List.{flat_map, range_with_len}
use Rattle.demo_file.specs.Generated.{item_text, demo_file}
use Rattle.demo_file.proofs.source.demo_source.Given as goal

abbrev pub invariant-loop-item : goal.invariant-loop-item
invariant-loop-item l =
    string_bytes l.text ++ flat_map item_text (range_with_len l.item (l.n - l.item)) ≡ demo_file l.n
