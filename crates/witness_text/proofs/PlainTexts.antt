-- Plain texts are not changed in a JSON string.
use Rattle.std.proofs.Common.{◌≡◌, ◌≢◌, ℕ, suc, ◌<◌, List, [], ◌∷◌, ◌++◌, length, refl, ap, ◌∙◌, arith}
use Rattle.std.specs.Prelude.{flat_map}
use Rattle.std.specs.List.{All}
use Rattle.json.specs.Print.{escape_byte}
use Rattle.witness_text.specs.Plain.{IsPlain}

plain_byte : (x : ℕ) → 34 < x → x ≢ 92 → escape_byte x ≡ x ∷ []
unfolding escape_byte
plain_byte x above other = grind arith

pub plain_text : (s : List ℕ) → All IsPlain s → flat_map escape_byte s ≡ s
plain_text [] h = refl
plain_text (x ∷ xs) h =
    let here : IsPlain x = h 0 x (omega arith) in
    ap (λ (ys : List ℕ). ys ++ flat_map escape_byte xs) (plain_byte x here.0 here.1)
    ∙ ap (λ (ys : List ℕ). x ∷ ys) (plain_text xs (λ k d lt. h (suc k) d (omega arith)))
