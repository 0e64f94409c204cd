-- Words on the characters of a text.
use Rattle.std.specs.Prelude.{ℕ, Bool, true, false, ◌&&◌, ◌||◌, List, [], ◌∷◌, ◌==◌, if◌then◌else◌}
use lib.Chars.{codes}

-- what stands behind the characters at the front that pass
abbrev pub skip_while : (ℕ → Bool) → List ℕ → List ℕ
skip_while passes [] = []
skip_while passes (c ∷ cs) = if passes c then skip_while passes cs else c ∷ cs

-- whether the first character passes
abbrev pub first_passes : (ℕ → Bool) → List ℕ → Bool
first_passes passes [] = false
first_passes passes (c ∷ cs) = passes c

-- whether a text begins with these characters
abbrev pub begins_with : List ℕ → List ℕ → Bool
begins_with [] cs = true
begins_with (w ∷ ws) [] = false
begins_with (w ∷ []) (c ∷ cs) = c == w
begins_with (w ∷ v ∷ ws) (c ∷ cs) = c == w && begins_with (v ∷ ws) cs

-- whether the character is one of these
abbrev pub is_one_of : List ℕ → ℕ → Bool
is_one_of [] c = false
is_one_of (d ∷ []) c = c == d
is_one_of (d ∷ e ∷ ds) c = c == d || is_one_of (e ∷ ds) c

-- the character `_`
abbrev pub is_underscore : ℕ → Bool
is_underscore c = is_one_of (codes "_") c
