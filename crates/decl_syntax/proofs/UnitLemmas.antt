-- What the first token tells of the units.
use Rattle.std.proofs.Common.{◌≡◌, ◌∙◌, ◌-◌, ℕ, Bool, cond, List, [], ◌∷◌, ◌++◌, Option, Some, None, refl, sym}
use Rattle.std.specs.Prelude.{option_map, slice_get}
use Rattle.decl_lexer.specs.declared.marks.Mark.{Mark}
use Rattle.decl_lexer.specs.Lexing.{Placed}
use Rattle.decl_lexer.specs.Begins.{Lexeme, Marked, mark_of}
use Rattle.decl_lexer.specs.declared.stored.Rest.{Rest}
use Rattle.decl_lexer.specs.Stored.{first_is}
use Rattle.decl_syntax.specs.declared.cursor.Place.{Place}
use Rattle.decl_syntax.specs.declared.cursor.Place.TheVariants as places
use Rattle.decl_syntax.specs.Units.{units, units_within, halves, later_half, second_half, place_view, tokens_of, doubled_mark, from_of, behind, is_mark, same_mark, mark_seen, token_at}
use Rattle.decl_syntax.proofs.Joined.{some_is}

-- a number, or 0
abbrev pub number_or : Option ℕ → ℕ
number_or None = 0
number_or (Some n) = n

-- the first unit begins where the first token does
pub from_first : (ts : List Placed) → number_or (option_map (λ t. t.from) (slice_get ts 0)) ≡ from_of (units ts)
unfolding units
from_first [] = refl
from_first (t ∷ ts) = by (doubled_mark t.lexeme)
  where
    by : (o : Option Mark) → t.from ≡ from_of (halves t o ++ units ts)
    by None = refl
    by (Some half) = refl

-- whether the tokens begin with a mark, from the mark that comes first
pub behind_found : (mark first : Mark) (b : Bool) (ts : List Placed) → Some first ≡ first_is mark_of ts → b ≡ same_mark first mark
    → behind (is_mark mark) ts ≡ cond b (option_map (λ x. x.1) (token_at mark_seen ts)) None
behind_found mark first b [] e s = absurd cc
behind_found mark first b (t ∷ ts) e s = by t.lexeme e
  where
    by : (l : Lexeme) → Some first ≡ mark_of l → cond (is_mark mark l) (Some ts) None ≡ cond b (Some ts) None
    by (Marked other) e = let k = some_is other first (sym e) in rw (k, s) refl
    by _ e = absurd cc

-- what stands behind a place, from the tokens there
pub place_empty : (p : Place) → tokens_of p ≡ [] → place_view p ≡ []
unfolding units units_within
place_empty (places.Before rest) e = rw e refl
place_empty (places.Within rest) e = rw e refl

-- what is left of the token at which a place stands
abbrev pub place_half : Place → Placed → Option Mark → List Placed
place_half p t None = t ∷ []
place_half (places.Before rest) t (Some mark) = halves t (Some mark)
place_half (places.Within rest) t (Some mark) = later_half t (Some mark)

pub place_next : (p : Place) (t : Placed) (ts : List Placed) → tokens_of p ≡ t ∷ ts → place_view p ≡ place_half p t (doubled_mark t.lexeme) ++ units ts
unfolding units units_within
place_next (places.Before rest) t ts e = rw e (by (doubled_mark t.lexeme))
  where
    by : (o : Option Mark) → halves t o ++ units ts ≡ place_half (places.Before rest) t o ++ units ts
    by None = refl
    by (Some mark) = refl
place_next (places.Within rest) t ts e = rw e (by (doubled_mark t.lexeme))
  where
    by : (o : Option Mark) → later_half t o ++ units ts ≡ place_half (places.Within rest) t o ++ units ts
    by None = refl
    by (Some mark) = refl

-- the unit behind a place, and what stands behind that: a token that is no two marks
pub next_whole : (p : Place) (tokens : List Placed) (t : Placed) (ts after : List Placed) → tokens ≡ tokens_of p → tokens ≡ t ∷ ts → None ≡ doubled_mark t.lexeme → after ≡ units ts → place_view p ≡ t ∷ after
next_whole p tokens t ts after s e d a = place_next p t ts (sym s ∙ e) ∙ rw (← d, a) refl

pub within_second : (tokens : List Placed) (t : Placed) (ts : List Placed) (m : Mark) → tokens ≡ t ∷ ts → Some m ≡ doubled_mark t.lexeme → units_within tokens ≡ second_half m t.to ∷ units ts
unfolding units_within
within_second tokens t ts m e d = rw (e, ← d) refl

-- the first of two marks
pub next_first : (p : Place) (rest : Rest) (tokens : List Placed) (t : Placed) (ts after : List Placed) (m : Mark) (middle : ℕ) → p ≡ places.Before rest → tokens ≡ tokens_of p → tokens ≡ t ∷ ts → Some m ≡ doubled_mark t.lexeme
    → middle ≡ t.to - 1 → after ≡ units_within tokens → place_view p ≡ record { lexeme = Marked m; from = t.from; to = middle } ∷ after
next_first p rest tokens t ts after m middle b s e d k a =
    let second : after ≡ second_half m t.to ∷ units ts = a ∙ within_second tokens t ts m e d in
    place_next p t ts (sym s ∙ e) ∙ rw (b, ← d, k, second) refl

-- the second of two marks
pub next_second : (p : Place) (rest : Rest) (tokens : List Placed) (t : Placed) (ts after : List Placed) (m : Mark) (middle : ℕ) → p ≡ places.Within rest → tokens ≡ tokens_of p → tokens ≡ t ∷ ts → Some m ≡ doubled_mark t.lexeme
    → middle ≡ t.to - 1 → after ≡ units ts → place_view p ≡ record { lexeme = Marked m; from = middle; to = t.to } ∷ after
next_second p rest tokens t ts after m middle b s e d k a = place_next p t ts (sym s ∙ e) ∙ rw (b, ← d, k, a) refl
