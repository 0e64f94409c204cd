use Rattle.std.proofs.Common.{◌≡◌, ◌∙◌, ap, sym, ◌++◌, false, append_assoc, string_bytes, rules}
use Rattle.witness_text.specs.Trees.{OfPoint, witness_view}
use Rattle.witness_text.specs.declared.named.NamedWitness.TheFolds.{the_lemmas}
use Rattle.witness_text.specs.Points.{is_literal, mark_text, marks_text}
use Rattle.witness_text.proofs.Points.{marks_marked}
use Rattle.witness_text.proofs.pattern.push_marks.Goals as goal

pub loop-here-preserved : goal.loop-here-preserved
loop-here-preserved c =
    let next = witness_view c.deref-here.result.now in
    let seen : witness_view c.loop-here.here.now ≡ OfPoint c.in-Point.mutable next = search (rules, the_lemmas) in
    let plain : is_literal c.in-Point.mutable next ≡ false = search rules in
    ap (λ z. z ++ marks_text next) (c.in_ok-push_str.ensures.bytes ∙ ap (λ z. string_bytes c.loop-here.text ++ z) c.point_mark.ensures)
    ∙ append_assoc (string_bytes c.loop-here.text) (mark_text c.in-Point.mutable) (marks_text next)
    ∙ sym (ap (λ w. string_bytes c.loop-here.text ++ marks_text w) seen ∙ ap (λ z. string_bytes c.loop-here.text ++ z) (marks_marked c.in-Point.mutable next plain))
    ∙ c.loop-here.invariant
