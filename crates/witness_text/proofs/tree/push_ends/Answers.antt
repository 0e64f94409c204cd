use Rattle.std.proofs.Common.{◌≡◌, ◌∙◌, ap, sym, ◌++◌, append_assoc, codes, string_bytes, rules}
use Rattle.witness_text.specs.Trees.{OfPoint, witness_view}
use Rattle.witness_text.specs.declared.named.NamedWitness.TheFolds.{the_lemmas}
use Rattle.witness_text.specs.Points.{ends_text}
use Rattle.witness_text.proofs.tree.push_ends.Goals as goal

pub loop-here-preserved : goal.loop-here-preserved
unfolding lib.Utf8.encode
loop-here-preserved c =
    let next = witness_view c.deref-here.result.now in
    let seen : witness_view c.loop-here.here.now ≡ OfPoint c.in-Point.mutable next = search (rules, the_lemmas) in
    ap (λ z. z ++ ends_text next) c.in_ok-push.ensures.bytes
    ∙ append_assoc (string_bytes c.loop-here.text) (codes "]") (ends_text next)
    ∙ sym (ap (λ w. string_bytes c.loop-here.text ++ ends_text w) seen)
    ∙ c.loop-here.invariant
