use Rattle.std.proofs.Common.{◌≡◌, ◌++◌, string_bytes}
use Rattle.witness_text.specs.Trees.{witness_view}
use Rattle.witness_text.specs.Points.{starts_text}
use Rattle.witness_text.proofs.tree.push_starts.Given as goal

abbrev pub invariant-loop-here : goal.invariant-loop-here
invariant-loop-here l =
    string_bytes l.text ++ starts_text (witness_view l.here) ≡ string_bytes l.initial.text ++ starts_text (witness_view l.fn.witness)
