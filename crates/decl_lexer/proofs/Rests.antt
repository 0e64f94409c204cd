-- What stands behind a piece is what its text ends with.
use Rattle.std.proofs.Common.{◌≤◌, lit≤, ◌≡◌, ℕ, Bool, true, false, cond, List, [], ◌∷◌, ◌++◌, take, drop, Ok, Err, refl, sym, ap, ◌∙◌, append_assoc}
use Rattle.std.specs.List.{take_while}
use Rattle.std.proofs.lemmas.List.{take-append-drop}
use Rattle.decl_lexer.specs.Begins.{Begins, first_case}
use Rattle.decl_lexer.specs.Text.{skip_while}
use Rattle.decl_lexer.proofs.TextLemmas.{take-skip_while}

-- the text is a front and then this rest
abbrev pub EndsIn : List ℕ → List ℕ → Type 0
EndsIn cs rest = (front : List ℕ) × (cs ≡ front ++ rest)

pub itself : (cs : List ℕ) → EndsIn cs cs
itself cs = ([], refl)

pub past : (c : ℕ) (cs rest : List ℕ) → EndsIn cs rest → EndsIn (c ∷ cs) rest
past c cs rest h = (c ∷ h.0, ap (λ (x : List ℕ). c ∷ x) h.1)

pub through : (cs ds rest : List ℕ) → EndsIn cs ds → EndsIn ds rest → EndsIn cs rest
through cs ds rest h k = (h.0 ++ k.0, h.1 ∙ ap (λ (x : List ℕ). h.0 ++ x) k.1 ∙ sym (append_assoc h.0 k.0 rest))

pub dropped : (n : ℕ) (cs : List ℕ) → EndsIn cs (drop n cs)
dropped n cs = (take n cs, sym (take-append-drop n cs))

pub skipped : (p : ℕ → Bool) (cs : List ℕ) → EndsIn cs (skip_while p cs)
skipped p cs = (take_while p cs, sym (take-skip_while p cs))

-- the rules that a piece can break
abbrev pub IsPieceRule : ℕ → Type 0
IsPieceRule rule = (2 ≤ rule) × (rule ≤ 5)

-- what stands behind a piece lies inside the text, and so does a fault, which is of a rule from 2 to 5
abbrev pub Rests : List ℕ → List ℕ → Begins → Type 0
Rests text inside (Ok x) = EndsIn inside x.1
Rests text inside (Err f) = EndsIn text f.rest × IsPieceRule f.rule

pub bad_token : IsPieceRule 2
bad_token = (lit≤ tt, lit≤ tt)

pub open_comment : IsPieceRule 3
open_comment = (lit≤ tt, lit≤ tt)

pub open_text : IsPieceRule 4
open_text = (lit≤ tt, lit≤ tt)

pub bad_escape : IsPieceRule 5
bad_escape = (lit≤ tt, lit≤ tt)

abbrev pub CasesRest : List ℕ → List ℕ → List (Bool × Begins) → Type 0
CasesRest text inside [] = Unit {0}
CasesRest text inside (case ∷ cases) = (case.0 ≡ true → Rests text inside case.1) × CasesRest text inside cases

pub cases_rest : (text inside : List ℕ) (cases : List (Bool × Begins)) (other : Begins) → CasesRest text inside cases → Rests text inside other → Rests text inside (first_case cases other)
cases_rest text inside [] other h k = k
cases_rest text inside (case ∷ cases) other h k = by (case.0) refl (cases_rest text inside cases other h.1 k)
  where
    by : (b : Bool) → case.0 ≡ b → Rests text inside (first_case cases other) → Rests text inside (cond b case.1 (first_case cases other))
    by true e others = h.0 e
    by false e others = others
