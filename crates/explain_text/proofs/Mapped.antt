-- Lists that are made one element after the other.
use Rattle.std.proofs.Common.{◌≡◌, ◌∙◌, ap, sym, refl, ℕ, ◌+◌, ◌<◌, ◌≤◌, List, [], ◌∷◌, ◌++◌, length, drop, get_or, map, append_assoc}
use Rattle.std.proofs.lemmas.List.{append-nil, drop_more, drop_all, map_push, map-append}

-- one more element
pub map_step : {F A X : Type 0} (seen : F → X) (one : A → X) (done grown : List F) (x : F) (all : List A) (i : ℕ) (a : A) (whole : List X) →
    i < length all → a ≡ get_or all i a → seen x ≡ one a → grown ≡ done ++ x ∷ [] → map seen done ++ map one (drop i all) ≡ whole →
    map seen grown ++ map one (drop (i + 1) all) ≡ whole
map_step seen one done grown x all i a whole lt e is g h =
    ap (λ l. map seen l ++ map one (drop (i + 1) all)) g
    ∙ ap (λ l. l ++ map one (drop (i + 1) all)) (map_push seen done x)
    ∙ append_assoc (map seen done) (seen x ∷ []) (map one (drop (i + 1) all))
    ∙ ap (λ y. map seen done ++ y ∷ map one (drop (i + 1) all)) is
    ∙ ap (λ l. map seen done ++ map one l) (ap (λ b. b ∷ drop (i + 1) all) e ∙ sym (drop_more all i a lt))
    ∙ h

-- all elements
pub map_end : {F A X : Type 0} (seen : F → X) (one : A → X) (done : List F) (all : List A) (i : ℕ) (whole : List X) →
    length all ≤ i → map seen done ++ map one (drop i all) ≡ whole → map seen done ≡ whole
map_end seen one done all i whole past h =
    sym (append-nil (map seen done)) ∙ ap (λ l. map seen done ++ map one l) (sym (drop_all i all past)) ∙ h

-- two maps, one after the other
pub map_map : {A B C : Type 0} (f : B → C) (g : A → B) (xs : List A) → map f (map g xs) ≡ map (λ x. f (g x)) xs
map_map f g [] = refl
map_map f g (x ∷ xs) = ap (λ l. f (g x) ∷ l) (map_map f g xs)
