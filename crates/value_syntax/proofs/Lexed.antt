-- Texts that lex, built from behind to front.
use Rattle.std.proofs.Common.{◌≡◌, ℕ, ◌+◌, false, List, [], ◌∷◌, ◌++◌, None, Ok, refl}
use Rattle.std.proofs.Common.{ap, subst}
use Rattle.std.specs.Prelude.{nat_eq, ◌==◌}
use Rattle.unicode_ident.proofs.Computing.{unicode_ident}
use Rattle.decl_lexer.specs.declared.marks.Mark.{Mark}
use Rattle.decl_lexer.specs.declared.marks.Mark.TheVariants as marks
use Rattle.decl_lexer.specs.Begins.{Lexeme, Marked, Gap, Token}
use Rattle.decl_lexer.specs.Gaps.{is_space}
use Rattle.decl_lexer.specs.Text.{skip_while, begins_with}
use Rattle.decl_lexer.specs.Pieces.{piece_at}
use Rattle.decl_lexer.specs.Lexing.{Placed, width, Found, End, Finds, takes, skips, Lexes, ends, goes_on}
use Rattle.decl_syntax.specs.Units.{units, doubled_mark, second_half}

-- the characters lex from any byte on, and what their tokens count as is this
abbrev pub Lexable : List ℕ → (List Placed → Type 0) → Type 0
Lexable cs Q = (at : ℕ) → (ts : List Placed) × Lexes at cs ts × Q (units ts)

-- a first token of this kind, and then these
pub record Then (P : Lexeme → Type 0) (Q : List Placed → Type 0) (us : List Placed) : Type 0 where
  pub first : Placed
  pub rest : List Placed
  pub whole : us ≡ first ∷ rest
  pub is : P first.lexeme
  pub holds : Q rest

-- this mark
abbrev pub Is : Mark → Lexeme → Type 0
Is mark l = l ≡ Marked mark

pub weaker : (cs : List ℕ) (Q R : List Placed → Type 0) → ((us : List Placed) → Q us → R us) → Lexable cs Q
    → Lexable cs R
weaker cs Q R f h at = let r = h at in (r.0, r.1, f (units r.0) r.2)

-- one token further in front
pub token_step : (P : Lexeme → Type 0) (Q : List Placed → Type 0) (l : Lexeme) (c : ℕ) (front behind : List ℕ) → P l
    → piece_at c (front ++ behind) ≡ Ok (Token l, behind)
    → doubled_mark l ≡ None → Lexable behind Q → Lexable (c ∷ (front ++ behind)) (Then P Q)
unfolding units
token_step P Q l c front behind p read single h at =
    let to = at + width (c ∷ front) in
    let r = h to in
    let t : Placed = record { lexeme = l; from = at; to = to } in
    let seen : units (t ∷ r.0) ≡ t ∷ units r.0 = rw single refl in (
      t ∷ r.0,
      goes_on at (c ∷ (front ++ behind)) behind t r.0
          (takes at c (front ++ behind) front behind l read refl) r.1,
      record { first = t; rest = units r.0; whole = seen; is = p; holds = r.2 },
    )

-- a space in front of what begins with none
past_gap : (at to c : ℕ) (cs : List ℕ) (ts : List Placed) → piece_at c cs ≡ Ok (Gap, cs) → to ≡ at + width (c ∷ [])
    → Lexes to cs ts → Lexes at (c ∷ cs) ts
past_gap at _ c _ _ read e (ends to cs f) = let P : ℕ → Type 0 = λ n. Finds n cs End in
    ends at (c ∷ cs) (skips at c cs [] cs End read refl (subst P e f))
past_gap at _ c _ _ read e (goes_on to cs rest t ts f l) =
    let P : ℕ → Type 0 = λ n. Finds n cs (Found t rest) in
    goes_on at (c ∷ cs) rest t ts (skips at c cs [] cs (Found t rest) read refl (subst P e f)) l

space_piece : (cs : List ℕ) → skip_while is_space cs ≡ cs → piece_at 32 cs ≡ Ok (Gap, cs)
unfolding piece_at
space_piece cs e = ap (λ x. Ok (Gap, x)) e

pub space_step : (Q : List Placed → Type 0) (cs : List ℕ) → skip_while is_space cs ≡ cs → Lexable cs Q
    → Lexable (32 ∷ cs) Q
space_step Q cs e h at = let r = h (at + width (32 ∷ [])) in
    (r.0, past_gap at _ 32 cs r.0 (space_piece cs e) refl r.1, r.2)

-- ---- marks

pub open_round : (cs : List ℕ) → piece_at 40 cs ≡ Ok (Token (Marked marks.OpenRound), cs)
unfolding piece_at unicode_ident
open_round cs = refl

pub close_round : (cs : List ℕ) → piece_at 41 cs ≡ Ok (Token (Marked marks.CloseRound), cs)
unfolding piece_at unicode_ident
close_round cs = refl

pub open_square : (cs : List ℕ) → piece_at 91 cs ≡ Ok (Token (Marked marks.OpenSquare), cs)
unfolding piece_at unicode_ident
open_square cs = refl

pub close_square : (cs : List ℕ) → piece_at 93 cs ≡ Ok (Token (Marked marks.CloseSquare), cs)
unfolding piece_at unicode_ident
close_square cs = refl

pub open_curly : (cs : List ℕ) → piece_at 123 cs ≡ Ok (Token (Marked marks.OpenCurly), cs)
unfolding piece_at unicode_ident
open_curly cs = refl

pub close_curly : (cs : List ℕ) → piece_at 125 cs ≡ Ok (Token (Marked marks.CloseCurly), cs)
unfolding piece_at unicode_ident
close_curly cs = refl

pub comma : (cs : List ℕ) → piece_at 44 cs ≡ Ok (Token (Marked marks.Comma), cs)
unfolding piece_at unicode_ident
comma cs = refl

pub question : (cs : List ℕ) → piece_at 63 cs ≡ Ok (Token (Marked marks.Question), cs)
unfolding piece_at unicode_ident
question cs = refl

pub colon : (cs : List ℕ) → piece_at 58 (32 ∷ cs) ≡ Ok (Token (Marked marks.Colon), 32 ∷ cs)
unfolding piece_at unicode_ident
colon cs = refl

pub separator : (cs : List ℕ) → piece_at 58 (58 ∷ cs) ≡ Ok (Token (Marked marks.PathSeparator), cs)
unfolding piece_at unicode_ident
separator cs = refl

pub star : (cs : List ℕ) → piece_at 42 (34 ∷ cs) ≡ Ok (Token (Marked marks.Star), 34 ∷ cs)
unfolding piece_at unicode_ident
star cs = refl

pub minus : (d : ℕ) (cs : List ℕ) → nat_eq 62 d ≡ false → nat_eq 61 d ≡ false
    → piece_at 45 (d ∷ cs) ≡ Ok (Token (Marked marks.Minus), d ∷ cs)
unfolding piece_at unicode_ident
minus d cs e f = rw (e, f) refl

ampersand : (d : ℕ) (cs : List ℕ) → nat_eq 38 d ≡ false → nat_eq 61 d ≡ false
    → piece_at 38 (d ∷ cs) ≡ Ok (Token (Marked marks.Ampersand), d ∷ cs)
unfolding piece_at unicode_ident
ampersand d cs e f = rw (e, f) refl

two_ampersands : (cs : List ℕ) → piece_at 38 (38 ∷ cs) ≡ Ok (Token (Marked marks.And), cs)
unfolding piece_at unicode_ident
two_ampersands cs = refl

-- ---- `&`, which two make one token

-- the characters lex alone and with `&` in front, and begin with no space and no byte order mark
pub record Both (cs : List ℕ) (Q : List Placed → Type 0) : Type 0 where
  pub alone : Lexable cs Q
  pub behind_and : Lexable (38 ∷ cs) (Then (Is marks.Ampersand) Q)
  pub no_space : skip_while is_space cs ≡ cs
  pub no_mark : begins_with (0xFEFF ∷ []) cs ≡ false

-- a character that ends no mark behind `&`, and is no space and no byte order mark
pub record IsApart (d : ℕ) : Type 0 where
  pub no_and : nat_eq 38 d ≡ false
  pub no_equal : nat_eq 61 d ≡ false
  pub no_space : is_space d ≡ false
  pub no_mark : (d == 0xFEFF) ≡ false

pub apart : (Q : List Placed → Type 0) (d : ℕ) (cs : List ℕ) → IsApart d → Lexable (d ∷ cs) Q → Both (d ∷ cs) Q
apart Q d cs a h = record {
  alone = h;
  behind_and = token_step (Is marks.Ampersand) Q (Marked marks.Ampersand) 38 [] (d ∷ cs) refl
      (ampersand d cs a.no_and a.no_equal) refl h;
  no_space = rw a.no_space refl;
  no_mark = a.no_mark;
}

and_step : (Q : List Placed → Type 0) (cs : List ℕ) → Lexable cs Q
    → Lexable (38 ∷ 38 ∷ cs) (Then (Is marks.Ampersand) (Then (Is marks.Ampersand) Q))
unfolding units
and_step Q cs h at =
    let to = at + width (38 ∷ 38 ∷ []) in
    let r = h to in
    let t : Placed = record { lexeme = Marked marks.And; from = at; to = to } in (
      t ∷ r.0,
      goes_on at (38 ∷ 38 ∷ cs) cs t r.0
          (takes at 38 (38 ∷ cs) (38 ∷ []) cs (Marked marks.And) (two_ampersands cs) refl) r.1,
      record {
        first = _;
        rest = second_half marks.Ampersand to ∷ units r.0;
        whole = refl;
        is = refl;
        holds = record {
          first = second_half marks.Ampersand to;
          rest = units r.0;
          whole = refl;
          is = refl;
          holds = r.2;
        };
      },
    )

pub another_and : (Q : List Placed → Type 0) (cs : List ℕ) → Both cs Q → Both (38 ∷ cs) (Then (Is marks.Ampersand) Q)
another_and Q cs b = record {
  alone = b.behind_and;
  behind_and = and_step Q cs b.alone;
  no_space = refl;
  no_mark = refl;
}

pub both_weaker : (cs : List ℕ) (Q R : List Placed → Type 0) → ((us : List Placed) → Q us → R us) → Both cs Q
    → Both cs R
both_weaker cs Q R f b = record {
  alone = weaker cs Q R f b.alone;
  behind_and = weaker (38 ∷ cs) (Then (Is marks.Ampersand) Q) (Then (Is marks.Ampersand) R)
      (λ us t. record { first = t.first; rest = t.rest; whole = t.whole; is = t.is; holds = f t.rest t.holds })
      b.behind_and;
  no_space = b.no_space;
  no_mark = b.no_mark;
}
