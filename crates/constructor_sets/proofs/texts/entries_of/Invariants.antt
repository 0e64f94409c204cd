use Rattle.std.proofs.Common.{◌≡◌, ◌++◌, drop, filter_map}
use Rattle.std.specs.List.{All}
use Rattle.match_model.specs.Pieces.{text_of}
use Rattle.constructor_sets.specs.Columns.{plain_ctors}
use Rattle.constructor_sets.specs.Texts.{IsEntry, entry_texts}
use Rattle.constructor_sets.proofs.texts.entries_of.Given as goal

abbrev pub invariant-loop-place : goal.invariant-loop-place
invariant-loop-place l =
    (entry_texts l.entries.items ++ filter_map text_of (plain_ctors (drop l.place l.heads)) ≡ filter_map text_of (plain_ctors l.heads))
    × All (λ e. IsEntry l.heads e) l.entries.items
