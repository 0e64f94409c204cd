-- What is written of the references that a witness begins with.
use Rattle.std.proofs.Common.{◌≡◌, refl, sym, ap, ◌∙◌, ℕ, Bool, true, false, List, [], ◌++◌, append_assoc, append-nil, codes, if◌then◌else◌}
use Rattle.serde_json.specs.Data.{string}
use Rattle.serde_json.specs.Written.{compact_text}
use Rattle.witness_text.specs.declared.named.Style.{Style}
use Rattle.witness_text.specs.Trees.{WitnessTree, OfText, OfPoint}
use Rattle.witness_text.specs.Texts.{text_by, point_text, text_of}
use Rattle.witness_text.specs.Reported.{point_mark, tree_data}
use Rattle.witness_text.specs.Points.{behind_points, starts_text, ends_text, mark_text, is_literal, behind_marks, marks_text}
use Rattle.witness_text.proofs.Written.{point_written}

-- what stands before the tree behind a reference
abbrev pub start_text : (mutable : Bool) → List ℕ
start_text mutable = codes "[\"point\"," ++ (compact_text (string (point_mark mutable)) ++ codes ",")

-- a bracket may stand at either side of others
ends-turn : (w : WitnessTree) → codes "]" ++ ends_text w ≡ ends_text w ++ codes "]"
ends-turn (OfPoint mutable w) = ap (λ z. codes "]" ++ z) (ends-turn w) ∙ sym (append_assoc (codes "]") (ends_text w) (codes "]"))
ends-turn _ = sym (append-nil (codes "]"))

-- the tree of a witness, around the tree of what stands behind its references
pub tree_around : (w : WitnessTree) →
    compact_text (tree_data w) ≡ starts_text w ++ (compact_text (tree_data (behind_points w)) ++ ends_text w)
tree_around (OfPoint mutable w) =
    let start = codes "[\"point\"," ++ (compact_text (string (point_mark mutable)) ++ codes ",") in
    let tree = compact_text (tree_data (behind_points w)) in
    point_written mutable (tree_data w)
    ∙ ap (λ z. start ++ (z ++ codes "]")) (tree_around w)
    ∙ ap (λ z. start ++ z) (append_assoc (starts_text w) (tree ++ ends_text w) (codes "]"))
    ∙ ap (λ z. start ++ (starts_text w ++ z)) (append_assoc tree (ends_text w) (codes "]") ∙ ap (λ z. tree ++ z) (sym (ends-turn w)))
    ∙ sym (append_assoc start (starts_text w) (tree ++ (codes "]" ++ ends_text w)))
tree_around w = sym (append-nil (compact_text (tree_data w)))

-- a reference that is not shown as a literal alone begins with its mark
pub point_marked : (style : Style) (mutable : Bool) (w : WitnessTree) → is_literal mutable w ≡ false → text_by style (OfPoint mutable w) ≡ mark_text mutable ++ text_by style w
point_marked style true w e = refl
point_marked style false (OfText t) e = cc
point_marked style false w e = refl

-- what stands behind it
pub behind_marked : (mutable : Bool) (w : WitnessTree) → is_literal mutable w ≡ false → behind_marks (OfPoint mutable w) ≡ behind_marks w
behind_marked mutable w e = ap (λ b. if b then OfPoint mutable w else behind_marks w) e

-- the marks of it
pub marks_marked : (mutable : Bool) (w : WitnessTree) → is_literal mutable w ≡ false → marks_text (OfPoint mutable w) ≡ mark_text mutable ++ marks_text w
marks_marked mutable w e = ap (λ b. if b then [] else mark_text mutable ++ marks_text w) e

-- the text of a witness is the marks and what stands behind them
pub marks_behind : (style : Style) (w : WitnessTree) → text_by style w ≡ marks_text w ++ text_by style (behind_marks w)
marks_behind style (OfPoint mutable w) = go (is_literal mutable w) refl (marks_behind style w)
  where
    go : (b : Bool) → is_literal mutable w ≡ b → text_by style w ≡ marks_text w ++ text_by style (behind_marks w) →
        text_by style (OfPoint mutable w) ≡ (if b then [] else mark_text mutable ++ marks_text w) ++ text_by style (if b then OfPoint mutable w else behind_marks w)
    go true e h = refl
    go false e h = point_marked style mutable w e ∙ ap (λ z. mark_text mutable ++ z) h ∙ sym (append_assoc (mark_text mutable) (marks_text w) (text_by style (behind_marks w)))
marks_behind style w = refl
