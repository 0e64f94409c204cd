use Rattle.std.proofs.Common.{◌∙◌, ap, sym, ◌++◌, ◌+◌, drop, arith}
use Rattle.explain_places.specs.Bodies.{arrows_of}
use Rattle.explain_places.proofs.Walking.{arrows_yes, arrows_no, arrows_end}
use Rattle.explain_places.proofs.bodies.all_arrows.Goals as goal
use Rattle.explain_places.proofs.bodies.all_arrows.Goals.{then-ends_arm+in_ok-push, else-ends_arm}

pub loop-piece-preserved : goal.loop-piece-preserved
loop-piece-preserved c =
    let pieces = c.args.pieces.now in
    let at = c.loop-piece.piece-index in
    let done = c.loop-piece.places.items in
    let rest = arrows_of (drop (at + 1) pieces) in
    elim c.if-ends_arm.branch [
      | then-ends_arm+in_ok-push w ↦
          ap (λ v. v.items ++ rest) w.places-is ∙ ap (λ l. l ++ rest) w.in_ok-push.ensures.items
          ∙ arrows_yes pieces done _ at (omega arith) (sym c.ends_arm.ensures ∙ w.if-ends_arm.true) c.loop-piece.invariant
      | else-ends_arm w ↦
          ap (λ v. v.items ++ rest) w.places-is ∙ arrows_no pieces done _ at (omega arith) (sym c.ends_arm.ensures ∙ w.if-ends_arm.false) c.loop-piece.invariant
    ]

pub returns : goal.returns
returns c = arrows_end c.args.pieces.now c.loop-piece.places.items _ c.loop-piece.piece-index (omega arith) c.loop-piece.invariant
