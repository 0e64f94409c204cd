use Rattle.std.proofs.Common.{◌∙◌, ap, sym, ◌++◌, ◌∷◌, [], ◌+◌, drop, get_or, arith}
use Rattle.std.proofs.lemmas.List.{take_rest}
use Rattle.explain_places.specs.Bodies.{begins_body, bodies_from, body_at, waits_behind}
use Rattle.explain_places.proofs.Walking.{bodies_yes, bodies_no, bodies_end, no_piece}
use Rattle.explain_places.proofs.bodies.all_bodies.Goals as goal
use Rattle.explain_places.proofs.bodies.all_bodies.Goals.{then-begins_body+in_ok-push, else-begins_body}

pub loop-at-preserved : goal.loop-at-preserved
loop-at-preserved c =
    let pieces = c.args.pieces.now in
    let at = c.loop-at.at in
    let waits = c.loop-at.waits in
    let done = c.loop-at.bodies.items in
    let rest = bodies_from c.waits_behind-waits.result (drop (at + 1) pieces) in
    let next = c.waits_behind-waits.ensures ∙ ap (waits_behind waits) (take_rest pieces at) in
    let test = ap (begins_body waits) (sym (take_rest pieces at)) ∙ sym c.begins_body.ensures in
    elim c.if-begins_body.branch [
      | then-begins_body+in_ok-push w ↦
          let one = w.body_at.ensures ∙ ap (body_at (get_or pieces at no_piece)) (take_rest pieces (at + 1)) in
          ap (λ v. v.items ++ rest) w.bodies-is ∙ ap (λ l. l ++ rest) (w.in_ok-push.ensures.items ∙ ap (λ b. done ++ b ∷ []) one)
          ∙ bodies_yes waits _ pieces done _ at (omega arith) (test ∙ w.if-begins_body.true) next c.loop-at.invariant
      | else-begins_body w ↦
          ap (λ v. v.items ++ rest) w.bodies-is ∙ bodies_no waits _ pieces done _ at (omega arith) (test ∙ w.if-begins_body.false) next c.loop-at.invariant
    ]

pub returns : goal.returns
returns c = bodies_end c.loop-at.waits c.args.pieces.now c.loop-at.bodies.items _ c.loop-at.at (omega arith) c.loop-at.invariant
