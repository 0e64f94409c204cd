-- For every list of texts there is a text that is none of them: one longer than all.
use Rattle.std.proofs.Common.{◌≡◌, ℕ, zero, suc, ◌+◌, ◌<◌, Bool, true, false, ◌||◌, List, [], ◌∷◌, length, replicate, refl, sym, ap, ◌∙◌, arith}
use Rattle.std.specs.List.{list_any, list_all}
use Rattle.std.proofs.lemmas.List.{length-replicate}
use Rattle.match_model.specs.Texts.{text_eq, is_scalar}
use Rattle.match_model.specs.Laws.{TextOutside}
use Rattle.match_model.proofs.Basics.{text_equal}

-- the lengths of all texts together
abbrev together : List (List ℕ) → ℕ
together [] = 0
together (t ∷ ts) = length t + together ts

scalars : (n : ℕ) → list_all is_scalar (replicate n 0) ≡ true
scalars zero = refl
scalars (suc n) = scalars n

neither : (a b : Bool) → (a ≡ true → ⊥) → b ≡ false → (a || b) ≡ false
neither true b f e = absurd (f refl)
neither false b f e = e

none : (ts : List (List ℕ)) (n : ℕ) → together ts < n → list_any (text_eq (replicate n 0)) ts ≡ false
none [] n h = refl
none (t ∷ ts) n h = neither (text_eq (replicate n 0) t) (list_any (text_eq (replicate n 0)) ts) longer (none ts n (omega arith))
  where
    longer : text_eq (replicate n 0) t ≡ true → ⊥
    longer e = let same : n ≡ length t = sym (length-replicate n 0) ∙ ap length (text_equal (replicate n 0) t e) in omega arith

pub text_outside : TextOutside
text_outside ts = (replicate (suc (together ts)) 0, scalars (suc (together ts)), none ts (suc (together ts)) (omega arith))
