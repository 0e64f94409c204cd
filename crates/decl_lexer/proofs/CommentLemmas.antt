-- One character further inside a block comment.
use Rattle.std.proofs.Common.{◌≡◌, ℕ, ◌+◌, ◌-◌, true, false, cond, eqb, ◌&&◌, List, [], ◌∷◌, drop, Option, Some, None, refl, ap, ◌∙◌}
use Rattle.decl_lexer.specs.Text.{begins_with}
use Rattle.decl_lexer.specs.Gaps.{comment_end}

abbrev step : ℕ → ℕ → List ℕ → Option (List ℕ)
step depth c cs =
    cond (eqb c 47 && begins_with (42 ∷ []) cs) (comment_end (depth + 1) (drop 1 cs))
    (cond (eqb c 42 && begins_with (47 ∷ []) cs) (cond (eqb depth 0) (Some (drop 1 cs)) (comment_end (depth - 1) (drop 1 cs)))
    (comment_end depth cs))

step_from : (depth c : ℕ) (cs : List ℕ) → comment_end depth (c ∷ cs) ≡ step depth c cs
unfolding comment_end
step_from depth c [] =
    elim (eqb c 47) as (λ a. None ≡ cond (a && false) (comment_end (depth + 1) []) (cond (eqb c 42 && false) (cond (eqb depth 0) (Some []) (comment_end (depth - 1) [])) None)) [
      | true ↦ elim (eqb c 42) as (λ b. None ≡ cond (b && false) (cond (eqb depth 0) (Some []) (comment_end (depth - 1) [])) None) [ true ↦ refl | false ↦ refl ]
      | false ↦ elim (eqb c 42) as (λ b. None ≡ cond (b && false) (cond (eqb depth 0) (Some []) (comment_end (depth - 1) [])) None) [ true ↦ refl | false ↦ refl ]
    ]
step_from depth c (d ∷ ds) = refl

pub comment_step : (depth c : ℕ) (all cs : List ℕ) → all ≡ c ∷ cs → comment_end depth all ≡ step depth c cs
comment_step depth c all cs e = ap (comment_end depth) e ∙ step_from depth c cs
