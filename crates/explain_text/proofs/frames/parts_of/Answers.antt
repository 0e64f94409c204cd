use Rattle.std.proofs.Common.{◌∙◌, ap, ◌-◌, decimal, arith}
use Rattle.explain_lines.specs.Lines.{spot_at}
use Rattle.explain_lines.specs.declared.spots.Spot.{Spot}
use Rattle.explain_text.specs.Frames.{bar_text, gutter, indent_text, marks_text}
use Rattle.explain_text.specs.Shown.{left_part, marked_part, right_part}
use Rattle.explain_text.proofs.FrameLemmas.{place_of_spot, own_spot}
use Rattle.explain_text.proofs.frames.parts_of.Goals as goal

pub left_part-requires-clause-right : goal.left_part-requires-clause-right
left_part-requires-clause-right c =
    own_spot c.args.source.now.text.now (c.args.span.now.from - c.args.source.now.mark) c.spot_in-spot.result c.spot_in-spot.ensures

pub left_part-requires-clause-within : goal.left_part-requires-clause-within
left_part-requires-clause-within c =
    omega (arith, place_of_spot c.args.source.now.text.now (c.args.span.now.from - c.args.source.now.mark) c.spot_in-spot.result c.spot_in-spot.ensures, c.requires.within)

pub marked_part-requires : goal.marked_part-requires
marked_part-requires c =
    omega (arith, place_of_spot c.args.source.now.text.now (c.args.span.now.from - c.args.source.now.mark) c.spot_in-spot.result c.spot_in-spot.ensures, c.requires.within)

pub right_part-requires : goal.right_part-requires
right_part-requires c =
    omega (arith, place_of_spot c.args.source.now.text.now (c.args.span.now.from - c.args.source.now.mark) c.spot_in-spot.result c.spot_in-spot.ensures, c.requires.within)

pub returns : goal.returns
returns c =
    let text = c.args.source.now.text.now in
    let at = c.args.span.now.from - c.args.source.now.mark in
    let to = c.args.span.now.to - c.args.source.now.mark in
    let line = ap (λ (s : Spot). s.line) c.spot_in-spot.ensures in
    let place = place_of_spot text at c.spot_in-spot.result c.spot_in-spot.ensures in
    let pads = c.in_ok-pad.ensures ∙ ap gutter line in
    let lefts = c.in_ok-left.ensures ∙ ap (left_part text) place in
    record {
      pad = pads;
      bar = c.in_ok-bar.ensures ∙ ap bar_text (c.as_str.ensures.value ∙ pads);
      head = c.in_ok-head.ensures ∙ ap (λ n. bar_text (decimal n)) line;
      left = lefts;
      right = c.in_ok-right.ensures ∙ ap (right_part text) place;
      space = c.in_ok-space.ensures ∙ ap indent_text (c.as_str-2.ensures.value ∙ lefts);
      marks = c.in_ok-marks.ensures
          ∙ ap (λ m. marks_text m c.args.label.now) (c.as_str-3.ensures.value ∙ c.in_ok-inside.ensures
          ∙ ap (λ x. marked_part text x c.end_in-to.result) place ∙ ap (marked_part text at) c.end_in-to.ensures);
    }
