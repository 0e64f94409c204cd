use Rattle.std.proofs.Common.{◌∙◌, ap, slice_get}
use Rattle.explain_places.specs.Bodies.{bodies_of}
use Rattle.explain_tree.specs.Places.{arm_lines, lines_from, end_of_part}
use Rattle.explain_tree.proofs.lines.arm_lines.Goals as goal

pub returns : goal.returns
unfolding arm_lines
returns c =
    let file = c.args.file.now in
    let ps = c.args.pieces.now in
    let number = c.args.number in
    let first = c.as_slice.ensures.value ∙ c.in_ok-bodies.ensures in
    let second = c.as_slice-2.ensures.value ∙ c.in_ok-bodies.ensures in
    c.in_ok-lines.ensures
    ∙ ap (λ t. lines_from file ps t c.body_at-body.result) (c.end_of_part-to.ensures.exact ∙ ap (λ b. end_of_part file b number) first)
    ∙ ap (lines_from file ps (end_of_part file (bodies_of ps) number)) (c.body_at-body.ensures ∙ ap (λ b. slice_get b number) second)
