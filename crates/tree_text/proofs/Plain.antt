-- Places need no escape in JSON.
use Rattle.std.proofs.Common.{◌≡◌, ◌∙◌, ap, refl, ℕ, List, [], ◌∷◌, ◌++◌, codes}
use Rattle.std.specs.Prelude.{decimal, flat_map}
use Rattle.std.proofs.lemmas.List.Concat.{flat_map-append}
use Rattle.json.specs.Print.{escape, escape_byte}
use Rattle.match_model.specs.Places.{MStep, ThroughStep, FieldStep, FrontStep, BackStep, MiddleStep}
use Rattle.witness_text.proofs.Digits.{plain_decimal}
use Rattle.serde_json.specs.Written.{compact_text}
use Rattle.tree_text.specs.Places.{step_text, place_text}
use Rattle.tree_text.specs.Reported.{place_data}

both_plain : (xs ys : List ℕ) → escape xs ≡ xs → escape ys ≡ ys → escape (xs ++ ys) ≡ xs ++ ys
both_plain xs ys p q = flat_map-append escape_byte xs ys ∙ ap (λ z. z ++ escape ys) p ∙ ap (λ z. xs ++ z) q

plain_star : escape (codes "*") ≡ codes "*"
unfolding escape_byte
plain_star = refl

plain_dot : escape (codes ".") ≡ codes "."
unfolding escape_byte
plain_dot = refl

plain_dots : escape (codes "..-") ≡ codes "..-"
unfolding escape_byte
plain_dots = refl

plain_open : escape (codes "[") ≡ codes "["
unfolding escape_byte
plain_open = refl

plain_back : escape (codes "[-") ≡ codes "[-"
unfolding escape_byte
plain_back = refl

plain_close : escape (codes "]") ≡ codes "]"
unfolding escape_byte
plain_close = refl

plain_dollar : escape (codes "$") ≡ codes "$"
unfolding escape_byte
plain_dollar = refl

-- a number and what closes it
closed_plain : (n : ℕ) → escape (decimal n ++ codes "]") ≡ decimal n ++ codes "]"
closed_plain n = both_plain (decimal n) (codes "]") (plain_decimal n) plain_close

step_plain : (s : MStep) → escape (step_text s) ≡ step_text s
step_plain ThroughStep = plain_star
step_plain (FieldStep k i) = both_plain (codes ".") (decimal i) plain_dot (plain_decimal i)
step_plain (FrontStep i) = both_plain (codes "[") (decimal i ++ codes "]") plain_open (closed_plain i)
step_plain (BackStep i) = both_plain (codes "[-") (decimal i ++ codes "]") plain_back (closed_plain i)
step_plain (MiddleStep f b) =
    both_plain (codes "[") (decimal f ++ (codes "..-" ++ (decimal b ++ codes "]"))) plain_open
    (both_plain (decimal f) (codes "..-" ++ (decimal b ++ codes "]")) (plain_decimal f)
    (both_plain (codes "..-") (decimal b ++ codes "]") plain_dots (closed_plain b)))

steps_plain : (steps : List MStep) → escape (flat_map step_text steps) ≡ flat_map step_text steps
steps_plain [] = refl
steps_plain (s ∷ steps) = both_plain (step_text s) (flat_map step_text steps) (step_plain s) (steps_plain steps)

-- a place in its quotes
pub place_written : (steps : List MStep) → compact_text (place_data steps) ≡ codes "\"$" ++ (flat_map step_text steps ++ codes "\"")
place_written steps = ap (λ z. 34 ∷ (z ++ 34 ∷ [])) (both_plain (codes "$") (flat_map step_text steps) plain_dollar (steps_plain steps))
