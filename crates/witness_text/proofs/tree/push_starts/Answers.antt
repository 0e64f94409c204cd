use Rattle.std.proofs.Common.{◌≡◌, ◌∙◌, ap, sym, ◌++◌, append_assoc, string_bytes, rules}
use Rattle.witness_text.specs.Trees.{OfPoint, witness_view}
use Rattle.witness_text.specs.declared.named.NamedWitness.TheFolds.{the_lemmas}
use Rattle.witness_text.specs.Points.{starts_text}
use Rattle.witness_text.proofs.Points.{start_text}
use Rattle.witness_text.proofs.tree.push_starts.Goals as goal

pub loop-here-preserved : goal.loop-here-preserved
loop-here-preserved c =
    let next = witness_view c.deref-here.result.now in
    let seen : witness_view c.loop-here.here.now ≡ OfPoint c.in-Point.mutable next = search (rules, the_lemmas) in
    ap (λ z. z ++ starts_text next) (c.in_ok-push_str.ensures.bytes ∙ ap (λ z. string_bytes c.loop-here.text ++ z) c.point_start.ensures)
    ∙ append_assoc (string_bytes c.loop-here.text) (start_text c.in-Point.mutable) (starts_text next)
    ∙ sym (ap (λ w. string_bytes c.loop-here.text ++ starts_text w) seen)
    ∙ c.loop-here.invariant
