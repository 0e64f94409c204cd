use Rattle.std.proofs.Common.{◌∙◌, ap, ◌++◌, codes, decimal, string_bytes}
use Rattle.explain_lines.specs.declared.spots.Spot.{Spot}
use Rattle.explain_text.specs.Frames.{place_text}
use Rattle.explain_lines.proofs.Adding.{two_added}
use Rattle.explain_text.proofs.frames.push_place.Goals as goal

pub returns : goal.returns
unfolding place_text
returns c =
    two_added _ _ _ _ _ c.in_ok-push_str.ensures.bytes c.in_ok-write.ensures.bytes
    ∙ ap (λ (s : Spot). string_bytes c.args.text.now ++ (c.args.source.now.name.now ++ (codes ":" ++ (decimal s.line ++ (codes ":" ++ decimal s.column))))) c.spot_in-spot.ensures
