-- Lists of written patterns by their lengths.
use Rattle.std.proofs.Common.{◌≡◌, ℕ, suc, Bool, not, ◌&&◌, ◌||◌, nat_eq, nat_lt, List, [], ◌∷◌, map, length, refl, sym, ap, ◌∙◌}
use Rattle.decl_syntax.specs.Patterns.{PatternTree, patterns_from}
use Rattle.decl_syntax.specs.Widths.{pattern_count}
use Rattle.pattern_rules.specs.NodeRules.{rest_count, has_other_count}

-- how many items a list has
pub pattern_count-map : {A : Type 0} (f : A → PatternTree) (xs : List A) → pattern_count (patterns_from (map f xs)) ≡ length xs
pattern_count-map f [] = refl
pattern_count-map f (x ∷ xs) = ap suc (pattern_count-map f xs)

-- whether a list has as many items as there are parts, by its counts
pub other_count : {A : Type 0} (f : A → PatternTree) (xs : List A) (parts rests items : ℕ) {b : Bool} → rests ≡ rest_count (patterns_from (map f xs)) → items ≡ length xs →
    b ≡ ((nat_eq rests 0 && not (nat_eq items parts)) || (nat_eq rests 1 && nat_lt (suc parts) items)) → b ≡ has_other_count (patterns_from (map f xs)) parts
other_count f xs parts rests items p q h =
    h
    ∙ (ap (λ r. (nat_eq r 0 && not (nat_eq items parts)) || (nat_eq r 1 && nat_lt (suc parts) items)) p
    ∙ ap (λ i. (nat_eq (rest_count (patterns_from (map f xs))) 0 && not (nat_eq i parts)) || (nat_eq (rest_count (patterns_from (map f xs))) 1 && nat_lt (suc parts) i))
    (q ∙ sym (pattern_count-map f xs)))
