-- Frames, piece by piece.
use Rattle.std.proofs.Common.{◌≡◌, ◌∙◌, ap, sym, refl, ℕ, ◌-◌, List, ◌++◌, Bool, decimal, string_bytes}
use Rattle.explain_lines.specs.Lines.{spot_at}
use Rattle.explain_lines.specs.declared.spots.Spot.{Spot}
use Rattle.explain_text.specs.declared.frames.Parts.{Parts}
use Rattle.explain_text.specs.declared.styles.Style.{Style}
use Rattle.explain_text.specs.Shown.{left_part, right_part, marked_part}
use Rattle.explain_text.specs.Frames.{AreParts, arrow_text, bar_text, caret_text, frame_text, gutter, indent_text, marks_text, source_text}
use Rattle.explain_lines.proofs.Adding.{three_added}

place_is : (text : List ℕ) (at : ℕ) → (spot_at text at).at ≡ at
unfolding spot_at
place_is text at = refl

-- a frame is its three parts
pub frame_added : (old a b new name text label : List ℕ) (at to : ℕ) (paint : Bool) (style : Style) (parts : Parts) → AreParts text at to label parts →
    a ≡ old ++ arrow_text paint (string_bytes parts.pad) (string_bytes parts.bar) name text at →
    b ≡ a ++ source_text paint (string_bytes parts.head) (string_bytes parts.left) (string_bytes parts.right) →
    new ≡ b ++ caret_text paint style (string_bytes parts.bar) (string_bytes parts.space) (string_bytes parts.marks) →
    new ≡ old ++ frame_text paint style label name text at to
unfolding frame_text
frame_added old a b new name text label at to paint style parts p e f g =
    let pad = gutter (spot_at text at).line in
    let left = left_part text at in
    three_added old a b new _ _ _
    (e ∙ ap (λ x. old ++ arrow_text paint x (string_bytes parts.bar) name text at) p.pad
    ∙ ap (λ x. old ++ arrow_text paint pad x name text at) p.bar)
    (f ∙ ap (λ x. a ++ source_text paint x (string_bytes parts.left) (string_bytes parts.right)) p.head
    ∙ ap (λ x. a ++ source_text paint (bar_text (decimal (spot_at text at).line)) x (string_bytes parts.right)) p.left
    ∙ ap (λ x. a ++ source_text paint (bar_text (decimal (spot_at text at).line)) left x) p.right)
    (g ∙ ap (λ x. b ++ caret_text paint style x (string_bytes parts.space) (string_bytes parts.marks)) p.bar
    ∙ ap (λ x. b ++ caret_text paint style (bar_text pad) x (string_bytes parts.marks)) p.space
    ∙ ap (λ x. b ++ caret_text paint style (bar_text pad) (indent_text left) x) p.marks)

-- the place of a spot
pub place_of_spot : (text : List ℕ) (at : ℕ) (spot : Spot) → spot ≡ spot_at text at → spot.at ≡ at
place_of_spot text at spot s = ap (λ (x : Spot). x.at) s ∙ place_is text at

-- a spot is the one of its own place
pub own_spot : (text : List ℕ) (at : ℕ) (spot : Spot) → spot ≡ spot_at text at → spot ≡ spot_at text spot.at
own_spot text at spot s = s ∙ ap (spot_at text) (sym (place_of_spot text at spot s))
