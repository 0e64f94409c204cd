-- Numbers, characters and their ranges in the texts of arms.
use Rattle.std.proofs.Common.{◌≡◌, ℕ, ℤ, pos, negsuc, suc, true, false, List, [], ◌∷◌, ◌++◌}
use Rattle.std.proofs.Common.{Some, None, refl, sym, ap, subst, ◌∙◌, append_assoc}
use Rattle.std.specs.Fmt.{signed_decimal}
use lib.Utf8.{scalar}
use Rattle.decl_lexer.specs.declared.marks.Mark.TheVariants as marks
use Rattle.decl_lexer.specs.Begins.{Lexeme, Character}
use Rattle.decl_lexer.specs.Lexing.{Placed}
use Rattle.decl_syntax.specs.Units.{is_mark, from_of}
use Rattle.decl_syntax.specs.Patterns.{LitTree, Shape, Char, Int}
use Rattle.decl_syntax.specs.Patterns as patterns
use Rattle.decl_syntax.specs.Grammar.{NextIsNot, only, missing}
use Rattle.decl_syntax.specs.EndGrammar.{begins_end, a_char, an_int, negated_int, char_end, int_end, SpellsEnd}
use Rattle.decl_syntax.specs.EndGrammar.{plain_end, negative_end, dots_equal, SpellsRange, both_ends, low_end}
use Rattle.decl_syntax.specs.EndGrammar.{high_end}
use Rattle.decl_syntax.specs.PatternGrammar.{a_range, one, literal, negative, PatternForm, SpellsPlain}
use Rattle.value_syntax.proofs.Lexed.{Lexable, Then, Is, weaker, Both, apart, both_weaker, open_round, close_round}
use Rattle.value_syntax.proofs.LexedNames.{Stops}
use Rattle.witness_text.specs.Arms.{grouped}
use Rattle.witness_text.specs.Literals.{char_literal}
use Rattle.arm_laws.specs.Patterns.{number_literal, grouped_shape, shape_without}
use Rattle.arm_laws.specs.Spellable.{IsShortEnd}
use Rattle.match_model.specs.Numbers.{At}
use Rattle.arm_laws.proofs.Fresh.{IsEndToken, fresh_end, fresh_minus}
use Rattle.arm_laws.proofs.Armed.{Calm, Armed, group_then, calm_mark, calm_round}
use Rattle.arm_laws.proofs.Pieces.{mark_step, dots_step, equal_step, by_round, char_step, IsNumber, number_step}
use Rattle.arm_laws.proofs.Pieces.{negative_step, After, at_stop, at_dots}

-- ---- numbers

-- the tokens of a number, and then these
abbrev pub NumberThen : ℤ → (List Placed → Type 0) → List Placed → Type 0
NumberThen (pos n) Q = Then (IsNumber n) Q
NumberThen (negsuc n) Q = Then (Is marks.Minus) (Then (IsNumber (suc n)) Q)

pub signed_step : (z : ℤ) (behind : List ℕ) (Q : List Placed → Type 0) → IsShortEnd (At z) → After behind
    → Lexable behind Q → Both (signed_decimal z ++ behind) (NumberThen z Q)
signed_step (pos n) behind Q lt k h = number_step n behind Q lt k h
signed_step (negsuc n) behind Q lt k h = negative_step (suc n) behind Q lt k h

number_token : (n : ℕ) (l : Lexeme) → IsNumber n l → IsEndToken l (Int false (Some n) [])
number_token n l e =
    rw e (record { end = refl; mark = λ m. refl; range = refl; by_ref = refl; mutable = refl; name = refl })

char_token : (c : ℕ) (l : Lexeme) → l ≡ Character c → IsEndToken l (Char c)
char_token c l e =
    rw e (record { end = refl; mark = λ m. refl; range = refl; by_ref = refl; mutable = refl; name = refl })

-- two tokens in front
two_first : {P R : Lexeme → Type 0} {Q : List Placed → Type 0} (us : List Placed) (t : Then P (Then R Q) us)
    → us ≡ t.first ∷ t.holds.first ∷ t.holds.rest
two_first us t = t.whole ∙ ap (λ vs. t.first ∷ vs) t.holds.whole

-- a number is a literal
pub number_then : (n : ℕ) (z : ℤ) (Q : List Placed → Type 0) → ((us : List Placed) → Q us → Calm us)
    → (us : List Placed) → NumberThen z Q us → Armed (suc n) (patterns.Literal (number_literal z)) Q us
unfolding SpellsPlain
number_then n (pos m) Q q us t = record {
  form = patterns.Literal (number_literal (pos m));
  rest = t.rest;
  spelled = rw t.whole (literal t.first t.rest (number_literal (pos m)) (rw t.is (an_int (Some m) [] true)));
  same = refl;
  fresh = rw t.whole (fresh_end t.first t.rest _ (number_token m t.first.lexeme t.is) (q t.rest t.holds).range);
  holds = t.holds;
}
number_then n (negsuc m) Q q us t =
    let u = t.holds in
    let w = two_first us t in record {
      form = patterns.Literal (number_literal (negsuc m));
      rest = u.rest;
      spelled = rw w (negative t.first u.first u.rest (number_literal (negsuc m)) t.is
          (rw u.is (negated_int (Some (suc m)) [] true)));
      same = refl;
      fresh = rw w (fresh_minus t.first u.first u.rest (number_literal (negsuc m)) t.is (rw u.is refl)
          (q u.rest u.holds).range);
      holds = u.holds;
    }

-- a character is a literal
pub char_then : (n c : ℕ) (Q : List Placed → Type 0) → ((us : List Placed) → Q us → Calm us) → (us : List Placed)
    → Then (λ l. l ≡ Character c) Q us → Armed (suc n) (patterns.Literal (Char c)) Q us
unfolding SpellsPlain
char_then n c Q q us t = record {
  form = patterns.Literal (Char c);
  rest = t.rest;
  spelled = rw t.whole (literal t.first t.rest (Char c) (rw t.is (a_char c)));
  same = refl;
  fresh = rw t.whole (fresh_end t.first t.rest _ (char_token c t.first.lexeme t.is) (q t.rest t.holds).range);
  holds = t.holds;
}

-- ---- ends of ranges

-- an end of a range, and then these
pub record EndThen (x : LitTree) (Q : List Placed → Type 0) (us : List Placed) : Type 0 where
  pub rest : List Placed
  pub spelled : SpellsEnd us x rest
  pub no_bar : NextIsNot (is_mark marks.Bar) us
  pub holds : Q rest

-- the characters are those of an end of a range
abbrev pub IsEndText : List ℕ → LitTree → Type 1
IsEndText cs x = (behind : List ℕ) (Q : List Placed → Type 0) → After behind → Lexable behind Q
    → Both (cs ++ behind) (EndThen x Q)

number_ends : (z : ℤ) (Q : List Placed → Type 0) (us : List Placed) → NumberThen z Q us
    → EndThen (number_literal z) Q us
number_ends (pos n) Q us t = record {
  rest = t.rest;
  spelled = rw t.whole (plain_end t.first t.rest (number_literal (pos n)) (rw t.is (int_end (Some n) [] true)));
  no_bar = rw (t.whole, t.is) refl;
  holds = t.holds;
}
number_ends (negsuc n) Q us t =
    let u = t.holds in record {
      rest = u.rest;
      spelled = rw (two_first us t) (negative_end t.first u.first u.rest (number_literal (negsuc n)) t.is
          (rw u.is (negated_int (Some (suc n)) [] true)));
      no_bar = rw (t.whole, t.is) refl;
      holds = u.holds;
    }

pub number_end : (z : ℤ) → IsShortEnd (At z) → IsEndText (signed_decimal z) (number_literal z)
number_end z lt behind Q k h =
    both_weaker _ _ _ (λ us t. number_ends z Q us t) (signed_step z behind Q lt k h)

char_ends : (c : ℕ) (Q : List Placed → Type 0) (us : List Placed) → Then (λ l. l ≡ Character c) Q us
    → EndThen (Char c) Q us
char_ends c Q us t = record {
  rest = t.rest;
  spelled = rw t.whole (plain_end t.first t.rest (Char c) (rw t.is (char_end c)));
  no_bar = rw (t.whole, t.is) refl;
  holds = t.holds;
}

pub char_end_text : (c : ℕ) → scalar c ≡ true → IsEndText (char_literal c) (Char c)
char_end_text c e behind Q k h = both_weaker _ _ _ (λ us t. char_ends c Q us t) (char_step c behind Q e h)

-- ---- ranges

-- a range of this shape, and then these
pub record RangeThen (shape : Shape) (Q : List Placed → Type 0) (us : List Placed) : Type 0 where
  pub rest : List Placed
  pub spelled : SpellsRange us shape rest
  pub no_bar : NextIsNot (is_mark marks.Bar) us
  pub holds : Q rest

-- the characters are those of a range, in front of the bracket that closes it
abbrev pub IsRangeText : List ℕ → Shape → Type 1
IsRangeText cs shape = (behind : List ℕ) (Q : List Placed → Type 0) → Stops (41 ∷ behind)
    → Lexable (41 ∷ behind) (Then (Is marks.CloseRound) Q)
    → Lexable (cs ++ 41 ∷ behind) (RangeThen shape (Then (Is marks.CloseRound) Q))

both_then : (low high : LitTree) (Q : List Placed → Type 0) (us : List Placed)
    → EndThen low (Then (Is marks.DotsEqual) (EndThen high Q)) us
    → RangeThen (patterns.Range (Some low) (Some high) true) Q us
both_then low high Q us s =
    let m = s.holds in
    let t = m.holds in record {
      rest = t.rest;
      spelled = both_ends us m.rest t.rest m.first low high true (subst (λ vs. SpellsEnd us low vs) m.whole s.spelled)
          (rw m.is dots_equal) t.spelled;
      no_bar = s.no_bar;
      holds = t.holds;
    }

pub both_text : (xs ys : List ℕ) (low high : LitTree) → IsEndText xs low → IsEndText ys high
    → IsRangeText (xs ++ 46 ∷ 46 ∷ 61 ∷ ys) (patterns.Range (Some low) (Some high) true)
both_text xs ys low high a b behind Q k h =
    let last = b (41 ∷ behind) (Then (Is marks.CloseRound) Q) (at_stop _ k) h in
    let dotted = equal_step _ (ys ++ 41 ∷ behind) last.alone in
    let first = a (46 ∷ 46 ∷ 61 ∷ (ys ++ 41 ∷ behind)) _ (at_dots _) dotted in
    let same : (xs ++ 46 ∷ 46 ∷ 61 ∷ ys) ++ 41 ∷ behind ≡ xs ++ 46 ∷ 46 ∷ 61 ∷ (ys ++ 41 ∷ behind) =
    append_assoc xs (46 ∷ 46 ∷ 61 ∷ ys) (41 ∷ behind) in
    subst (λ cs. Lexable cs (RangeThen (patterns.Range (Some low) (Some high) true) (Then (Is marks.CloseRound) Q)))
    (sym same) (weaker _ _ _ (λ us s. both_then low high (Then (Is marks.CloseRound) Q) us s) first.alone)

low_then : (low : LitTree) (Q : List Placed → Type 0) → ((us : List Placed) → Q us → NextIsNot begins_end us)
    → (us : List Placed) → EndThen low (Then (Is marks.TwoDots) Q) us
    → RangeThen (patterns.Range (Some low) None false) Q us
low_then low Q q us s =
    let m = s.holds in record {
      rest = m.rest;
      spelled = low_end us m.rest m.first low (subst (λ vs. SpellsEnd us low vs) m.whole s.spelled) m.is
          (q m.rest m.holds);
      no_bar = s.no_bar;
      holds = m.holds;
    }

pub low_text : (xs : List ℕ) (low : LitTree) → IsEndText xs low
    → IsRangeText (xs ++ 46 ∷ 46 ∷ []) (patterns.Range (Some low) None false)
low_text xs low a behind Q k h =
    let dotted = dots_step _ (41 ∷ behind) (by_round behind) h in
    let first = a (46 ∷ 46 ∷ 41 ∷ behind) _ (at_dots _) dotted in
    let same : (xs ++ 46 ∷ 46 ∷ []) ++ 41 ∷ behind ≡ xs ++ 46 ∷ 46 ∷ 41 ∷ behind =
    append_assoc xs (46 ∷ 46 ∷ []) (41 ∷ behind) in
    subst (λ cs. Lexable cs (RangeThen (patterns.Range (Some low) None false) (Then (Is marks.CloseRound) Q)))
    (sym same) (weaker _ _ _ (λ us s. low_then low (Then (Is marks.CloseRound) Q)
    (λ vs t. (calm_mark marks.CloseRound Q calm_round vs t).end) us s) first.alone)

high_then : (high : LitTree) (Q : List Placed → Type 0) (us : List Placed)
    → Then (Is marks.DotsEqual) (EndThen high Q) us → RangeThen (patterns.Range None (Some high) true) Q us
high_then high Q us m =
    let t = m.holds in record {
      rest = t.rest;
      spelled = rw m.whole (high_end m.rest t.rest m.first high true (rw m.is dots_equal) t.spelled);
      no_bar = rw (m.whole, m.is) refl;
      holds = t.holds;
    }

pub high_text : (ys : List ℕ) (high : LitTree) → IsEndText ys high
    → IsRangeText (46 ∷ 46 ∷ 61 ∷ ys) (patterns.Range None (Some high) true)
high_text ys high b behind Q k h =
    let last = b (41 ∷ behind) (Then (Is marks.CloseRound) Q) (at_stop _ k) h in
    weaker _ _ _ (λ us s. high_then high (Then (Is marks.CloseRound) Q) us s)
    (equal_step _ (ys ++ 41 ∷ behind) last.alone)

-- ---- in parentheses

range_grouped : (n : ℕ) (shape : Shape) (Q : List Placed → Type 0) (us : List Placed) → shape_without shape ≡ shape
    → Then (Is marks.OpenRound) (RangeThen shape (Then (Is marks.CloseRound) Q)) us
    → Armed (suc n) (grouped_shape shape) Q us
range_grouped n shape Q us same t =
    let s = t.holds in
    let c = s.holds in
    let spelled : SpellsRange t.rest shape (c.first ∷ c.rest) =
    subst (λ vs. SpellsRange t.rest shape vs) c.whole s.spelled in
    let p = patterns.At (from_of t.rest) shape in
    let whole : PatternForm (SpellsPlain n) t.rest p (c.first ∷ c.rest) =
    one t.rest t.rest (c.first ∷ c.rest) false p (missing t.rest s.no_bar)
    (only t.rest (c.first ∷ c.rest) p (a_range t.rest (c.first ∷ c.rest) shape spelled) (rw c.is refl)) in
    rw t.whole (group_then n shape shape t.first t.rest c.rest c.first Q t.is whole c.is same c.holds)

-- characters in parentheses
pub grouped_back : (cs behind : List ℕ) (R : List Placed → Type 0) → Lexable (cs ++ 41 ∷ behind) R
    → Both (grouped cs ++ behind) (Then (Is marks.OpenRound) R)
grouped_back cs behind R h =
    subst (λ xs. Both (40 ∷ xs) (Then (Is marks.OpenRound) R)) (sym (append_assoc cs (41 ∷ []) behind))
    (apart _ 40 (cs ++ 41 ∷ behind) (record { no_and = refl; no_equal = refl; no_space = refl; no_mark = refl })
    (mark_step marks.OpenRound 40 R (cs ++ 41 ∷ behind) (open_round _) refl h))

pub range_back : (n : ℕ) (cs : List ℕ) (shape : Shape) (behind : List ℕ) (Q : List Placed → Type 0)
    → IsRangeText cs shape → shape_without shape ≡ shape → Stops (41 ∷ behind) → Lexable behind Q
    → Both (grouped cs ++ behind) (Armed (suc n) (grouped_shape shape) Q)
range_back n cs shape behind Q a same k h =
    both_weaker _ _ _ (λ us t. range_grouped n shape Q us same t)
    (grouped_back cs behind (RangeThen shape (Then (Is marks.CloseRound) Q))
    (a behind Q k (mark_step marks.CloseRound 41 Q behind (close_round behind) refl h)))
