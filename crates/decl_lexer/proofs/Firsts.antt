-- One thing comes first in a text, and only one.
use Rattle.std.proofs.Common.{◌≡◌, ℕ, zero, suc, ◌+◌, ◌<◌, ◌≤◌, List, [], ◌∷◌, ◌++◌, length, Ok, Err, refl, sym, ap, subst, ◌∙◌, encode_utf8_all, length-append, arith}
use Rattle.std.proofs.lemmas.List.{append_cancel_right}
use Rattle.std.proofs.lemmas.Str.{encodes-append, length-le-encodes}
use Rattle.decl_lexer.specs.Begins.{Lexeme, Piece, Gap, Token, Begins}
use Rattle.decl_lexer.specs.Pieces.{piece_at}
use Rattle.decl_lexer.specs.Lexing.{Placed, width, First, End, Found, Broken, Finds, nothing, takes, fails, skips}
use Rattle.decl_lexer.proofs.Rests.{IsPieceRule, EndsIn, past, through, Rests}
use Rattle.decl_lexer.proofs.PieceRests.{piece_rests}

abbrev placed : ℕ → ℕ → List ℕ → Lexeme → Placed
placed at c front lexeme = record { lexeme = lexeme; from = at; to = at + width (c ∷ front) }

-- what is known of what comes first, from the piece that is read first
abbrev Behind : ℕ → ℕ → List ℕ → First → Piece → List ℕ → Type 0
Behind at c cs y Gap rest = (front : List ℕ) × (cs ≡ front ++ rest) × Finds (at + width (c ∷ front)) rest y
Behind at c cs y (Token lexeme) rest = (front : List ℕ) × (cs ≡ front ++ rest) × (y ≡ Found (placed at c front lexeme) rest)

abbrev ByPiece : ℕ → ℕ → List ℕ → First → Begins → Type 0
ByPiece at c cs y (Ok x) = Behind at c cs y x.0 x.1
ByPiece at c cs y (Err f) = (front : List ℕ) × (c ∷ cs ≡ front ++ f.rest) × (y ≡ Broken f.rule (at + width front))

abbrev ByText : ℕ → List ℕ → First → Type 0
ByText at [] y = y ≡ End
ByText at (c ∷ cs) y = ByPiece at c cs y (piece_at c cs)

by_text : (at : ℕ) (cs : List ℕ) (y : First) → Finds at cs y → ByText at cs y
by_text _ _ _ (nothing at) = refl
by_text _ _ _ (takes at c cs front rest lexeme read same) =
    let P : Begins → Type 0 = λ r. ByPiece at c cs (Found (placed at c front lexeme) rest) r in
    subst P (sym read) (front, same, refl)
by_text _ _ _ (fails at c cs front fault read same) =
    let P : Begins → Type 0 = λ r. ByPiece at c cs (Broken fault.rule (at + width front)) r in
    subst P (sym read) (front, same, refl)
by_text _ _ _ (skips at c cs front rest first read same found) =
    let P : Begins → Type 0 = λ r. ByPiece at c cs first r in
    subst P (sym read) (front, same, found)

same_front : (xs ys rest cs : List ℕ) → cs ≡ xs ++ rest → cs ≡ ys ++ rest → xs ≡ ys
same_front xs ys rest cs e f = append_cancel_right xs ys rest (sym e ∙ f)

-- what comes first, and that nothing else does
abbrev One : ℕ → List ℕ → Type 0
One at cs = (x : First) × Finds at cs x × ((y : First) → Finds at cs y → x ≡ y)

front_shorter : (n c : ℕ) (cs front rest : List ℕ) → length (c ∷ cs) < suc n → cs ≡ front ++ rest → length rest < n
front_shorter n c cs front rest lt e = let l = ap length e ∙ length-append front rest in omega arith

one_by : (n at c : ℕ) (cs : List ℕ) → length (c ∷ cs) < suc n → ((bt : ℕ) (ds : List ℕ) → length ds < n → One bt ds) → (r : Begins) → piece_at c cs ≡ r → Rests (c ∷ cs) cs r → One at (c ∷ cs)
one_by n at c cs lt below (Err f) read rests =
    let known : (y : First) → Finds at (c ∷ cs) y → Broken f.rule (at + width rests.0.0) ≡ y =
    λ y found.
    let P : Begins → Type 0 = λ r. ByPiece at c cs y r in
    let inside = subst P read (by_text at (c ∷ cs) y found) in
    ap (λ (x : List ℕ). Broken f.rule (at + width x)) (same_front rests.0.0 inside.0 f.rest (c ∷ cs) rests.0.1 inside.1) ∙ sym inside.2 in
    (Broken f.rule (at + width rests.0.0), fails at c cs rests.0.0 f read rests.0.1, known)
one_by n at c cs lt below (Ok x) read rests = by_piece (x.0) read
  where
    by_piece : (piece : Piece) → piece_at c cs ≡ Ok (piece, x.1) → One at (c ∷ cs)
    by_piece (Token lexeme) read' =
        let known : (y : First) → Finds at (c ∷ cs) y → Found (placed at c rests.0 lexeme) x.1 ≡ y =
        λ y found.
        let P : Begins → Type 0 = λ r. ByPiece at c cs y r in
        let inside = subst P read' (by_text at (c ∷ cs) y found) in
        ap (λ (z : List ℕ). Found (placed at c z lexeme) x.1) (same_front rests.0 inside.0 x.1 cs rests.1 inside.1) ∙ sym inside.2 in
        (Found (placed at c rests.0 lexeme) x.1, takes at c cs rests.0 x.1 lexeme read' rests.1, known)
    by_piece Gap read' =
        let more = below (at + width (c ∷ rests.0)) x.1 (front_shorter n c cs rests.0 x.1 lt rests.1) in
        let known : (y : First) → Finds at (c ∷ cs) y → more.0 ≡ y =
        λ y found.
        let P : Begins → Type 0 = λ r. ByPiece at c cs y r in
        let inside = subst P read' (by_text at (c ∷ cs) y found) in
        let Q : List ℕ → Type 0 = λ z. Finds (at + width (c ∷ z)) x.1 y in
        more.2 y (subst Q (sym (same_front rests.0 inside.0 x.1 cs rests.1 inside.1)) inside.2) in
        (more.0, skips at c cs rests.0 x.1 more.0 read' rests.1 more.1, known)

one_below : (n at : ℕ) (cs : List ℕ) → length cs < n → One at cs
one_below zero at cs lt = absurd (omega arith)
one_below (suc n) at [] lt = (End, nothing at, λ y found. sym (by_text at [] y found))
one_below (suc n) at (c ∷ cs) lt = one_by n at c cs lt (λ bt ds less. one_below n bt ds less) (piece_at c cs) refl (piece_rests c cs)

pub one_first : (at : ℕ) (cs : List ℕ) → One at cs
one_first at cs = one_below (suc (length cs)) at cs (omega arith)

pub same_first : (at : ℕ) (cs : List ℕ) (x y : First) → Finds at cs x → Finds at cs y → x ≡ y
same_first at cs x y h k = let one = one_first at cs in sym (one.2 x h) ∙ one.2 y k

-- a token stands where the text does, and what stands behind it is less of the text; a fault is of a rule from 2 to 5 and stands within the text
pub record IsAhead (at : ℕ) (cs : List ℕ) (token : Placed) (rest : List ℕ) : Type 0 where
  pub begins : at ≤ token.from
  pub some : token.from < token.to
  pub place : token.to + width rest ≡ at + width cs
  pub less : length rest < length cs
  pub inside : EndsIn cs rest

abbrev Ahead : ℕ → List ℕ → First → Type 0
Ahead at cs End = Unit {0}
Ahead at cs (Broken rule place) = IsPieceRule rule × (place ≤ at + width cs)
Ahead at cs (Found token rest) = IsAhead at cs token rest

pub wide : (c : ℕ) (front : List ℕ) → 0 < width (c ∷ front)
wide c front = let many = length-le-encodes (c ∷ front) in omega arith

pub width_parts : (c : ℕ) (cs front rest : List ℕ) → cs ≡ front ++ rest → width (c ∷ cs) ≡ width (c ∷ front) + width rest
width_parts c cs front rest e =
    ap (λ (x : List ℕ). width (c ∷ x)) e ∙ ap length (encodes-append (c ∷ front) rest) ∙ length-append (encode_utf8_all (c ∷ front)) (encode_utf8_all rest)

further : (at c : ℕ) (cs front rest : List ℕ) (x : First) → cs ≡ front ++ rest → Ahead (at + width (c ∷ front)) rest x → Ahead at (c ∷ cs) x
further at c cs front rest End e h = tt
further at c cs front rest (Broken rule place) e h = let parts = width_parts c cs front rest e in (h.0, omega (arith, h.1))
further at c cs front rest (Found token more) e h =
    let parts = width_parts c cs front rest e in
    let l = ap length e ∙ length-append front rest in
    record { begins = omega (arith, h.begins); some = h.some; place = omega (arith, h.place); less = omega (arith, h.less); inside = through (c ∷ cs) rest more (past c cs rest (front, e)) h.inside }

pub ahead : (at : ℕ) (cs : List ℕ) (x : First) → Finds at cs x → Ahead at cs x
ahead _ _ _ (nothing at) = tt
ahead _ _ _ (fails at c cs front fault read same) =
    let P : Begins → Type 0 = λ r. Rests (c ∷ cs) cs r in
    let known : EndsIn (c ∷ cs) fault.rest × IsPieceRule fault.rule = subst P read (piece_rests c cs) in
    let parts = ap width same ∙ ap length (encodes-append front fault.rest) ∙ length-append (encode_utf8_all front) (encode_utf8_all fault.rest) in
    (known.1, omega (arith, parts))
ahead _ _ _ (takes at c cs front rest lexeme read same) =
    let parts = width_parts c cs front rest same in
    let some = wide c front in
    let l = ap length same ∙ length-append front rest in
    record { begins = omega arith; some = omega arith; place = omega arith; less = omega arith; inside = past c cs rest (front, same) }
ahead _ _ _ (skips at c cs front rest first read same found) = further at c cs front rest first same (ahead _ _ _ found)
