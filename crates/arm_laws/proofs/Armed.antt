-- What is said of the tokens of an arm's text.
use Rattle.std.proofs.Common.{◌≡◌, ℕ, suc, true, false, List, [], ◌∷◌, None, refl, ap, ◌∙◌}
use Rattle.decl_lexer.specs.declared.marks.Mark.{Mark}
use Rattle.decl_lexer.specs.declared.marks.Mark.TheVariants as marks
use Rattle.decl_lexer.specs.declared.words.Word.TheVariants as words
use Rattle.decl_lexer.specs.Begins.{Lexeme, Keyword, Marked}
use Rattle.decl_lexer.specs.Lexing.{Placed}
use Rattle.decl_syntax.specs.Units.{is_mark, is_word, token_at, from_of}
use Rattle.decl_syntax.specs.Patterns.{LitTree, Shape}
use Rattle.decl_syntax.specs.Patterns as patterns
use Rattle.decl_syntax.specs.Grammar.{NextIsNot, only, missing, there}
use Rattle.decl_syntax.specs.EndGrammar.{begins_end, IsLiteral}
use Rattle.decl_syntax.specs.EndReading.{range_mark_of}
use Rattle.decl_syntax.specs.PatternGrammar.{a_plain, PatternForm, one, wild, literal, point, group}
use Rattle.decl_syntax.specs.PatternGrammar.{SpellsPlain}
use Rattle.value_syntax.proofs.Lexed.{Then, Is}
use Rattle.arm_laws.specs.Patterns.{unplaced, grouped_shape, shape_without}
use Rattle.arm_laws.proofs.Fresh.{Fresh, IsInert, fresh_inert, inert_wild, inert_round, inert_and}

-- ---- what follows a pattern

-- a pattern that ends here goes on no further
pub record Calm (us : List Placed) : Type 0 where
  pub path : NextIsNot (is_mark marks.PathSeparator) us
  pub round : NextIsNot (is_mark marks.OpenRound) us
  pub curly : NextIsNot (is_mark marks.OpenCurly) us
  pub at : NextIsNot (is_mark marks.At) us
  pub bar : NextIsNot (is_mark marks.Bar) us
  pub range : token_at range_mark_of us ≡ None
  pub end : NextIsNot begins_end us

-- a mark that continues no pattern
pub record IsCalm (mark : Mark) : Type 0 where
  pub path : is_mark marks.PathSeparator (Marked mark) ≡ false
  pub round : is_mark marks.OpenRound (Marked mark) ≡ false
  pub curly : is_mark marks.OpenCurly (Marked mark) ≡ false
  pub at : is_mark marks.At (Marked mark) ≡ false
  pub bar : is_mark marks.Bar (Marked mark) ≡ false
  pub range : range_mark_of (Marked mark) ≡ None
  pub end : begins_end (Marked mark) ≡ false

pub calm_comma : IsCalm marks.Comma
calm_comma = record { path = refl; round = refl; curly = refl; at = refl; bar = refl; range = refl; end = refl }

pub calm_round : IsCalm marks.CloseRound
calm_round = record { path = refl; round = refl; curly = refl; at = refl; bar = refl; range = refl; end = refl }

pub calm_square : IsCalm marks.CloseSquare
calm_square = record { path = refl; round = refl; curly = refl; at = refl; bar = refl; range = refl; end = refl }

pub calm_curly : IsCalm marks.CloseCurly
calm_curly = record { path = refl; round = refl; curly = refl; at = refl; bar = refl; range = refl; end = refl }

pub calm_mark : (mark : Mark) (Q : List Placed → Type 0) → IsCalm mark → (us : List Placed) → Then (Is mark) Q us
    → Calm us
calm_mark mark Q q us t = record {
  path = rw (t.whole, t.is) q.path;
  round = rw (t.whole, t.is) q.round;
  curly = rw (t.whole, t.is) q.curly;
  at = rw (t.whole, t.is) q.at;
  bar = rw (t.whole, t.is) q.bar;
  range = rw (t.whole, t.is, q.range) refl;
  end = rw (t.whole, t.is) q.end;
}

pub calm_end : (us : List Placed) → us ≡ [] → Calm us
calm_end us e = record {
  path = rw e refl;
  round = rw e refl;
  curly = rw e refl;
  at = rw e refl;
  bar = rw e refl;
  range = rw e refl;
  end = rw e refl;
}

-- ---- a pattern of an arm

-- a pattern that is no range and of this shape, in at most so many forms around each other, and then these
pub record Armed (n : ℕ) (shape : Shape) (Q : List Placed → Type 0) (us : List Placed) : Type 0 where
  pub form : Shape
  pub rest : List Placed
  pub spelled : SpellsPlain n us form rest
  pub same : shape_without form ≡ shape
  pub fresh : Fresh us
  pub holds : Q rest

-- it is a whole pattern, where no bar follows
pub whole : (n : ℕ) (us rest : List Placed) (form : Shape) → SpellsPlain n us form rest → Fresh us
    → NextIsNot (is_mark marks.Bar) rest → PatternForm (SpellsPlain n) us (patterns.At (from_of us) form) rest
whole n us rest form s f b = one us us rest false (patterns.At (from_of us) form) (missing us f.no_bar)
    (only us rest (patterns.At (from_of us) form) (a_plain us rest form f.no_range s) b)

-- ---- one token

pub wild_then : (n : ℕ) (Q : List Placed → Type 0) (us : List Placed) → Then (Is marks.Underscore) Q us
    → Armed (suc n) patterns.Wild Q us
unfolding SpellsPlain
wild_then n Q us t = record {
  form = patterns.Wild;
  rest = t.rest;
  spelled = rw t.whole (wild t.first t.rest t.is);
  same = refl;
  fresh = rw t.whole (fresh_inert t.first t.rest (rw t.is inert_wild));
  holds = t.holds;
}

-- a literal that is no end of a range
pub literal_then : (n : ℕ) (l : Lexeme) (x : LitTree) (Q : List Placed → Type 0) (us : List Placed) → IsLiteral l x
    → IsInert l → Then (λ k. k ≡ l) Q us → Armed (suc n) (patterns.Literal x) Q us
unfolding SpellsPlain
literal_then n l x Q us i f t = record {
  form = patterns.Literal x;
  rest = t.rest;
  spelled = rw t.whole (literal t.first t.rest x (rw t.is i));
  same = refl;
  fresh = rw t.whole (fresh_inert t.first t.rest (rw t.is f));
  holds = t.holds;
}

-- ---- references

pub point_then : (n : ℕ) (shape : Shape) (Q : List Placed → Type 0) (us : List Placed)
    → Then (Is marks.Ampersand) (Armed n shape Q) us
    → Armed (suc n) (patterns.Point false (unplaced shape)) Q us
unfolding SpellsPlain
point_then n shape Q us t =
    let s = t.holds in record {
      form = patterns.Point false (patterns.At (from_of t.rest) s.form);
      rest = s.rest;
      spelled = rw t.whole (point t.first t.rest t.rest s.rest false s.form t.is
          (missing t.rest s.fresh.no_mut) s.spelled);
      same = ap (λ f. patterns.Point false (unplaced f)) s.same;
      fresh = rw t.whole (fresh_inert t.first t.rest (rw t.is inert_and));
      holds = s.holds;
    }

pub mutable_then : (n : ℕ) (shape : Shape) (Q : List Placed → Type 0) (us : List Placed)
    → Then (Is marks.Ampersand) (Then (λ l. l ≡ Keyword words.Mut) (Armed n shape Q)) us
    → Armed (suc n) (patterns.Point true (unplaced shape)) Q us
unfolding SpellsPlain
mutable_then n shape Q us t =
    let m = t.holds in
    let s = m.holds in
    let whole : us ≡ t.first ∷ m.first ∷ m.rest = t.whole ∙ ap (λ vs. t.first ∷ vs) m.whole in
    let is : is_word words.Mut m.first.lexeme ≡ true = rw m.is refl in
    record {
      form = patterns.Point true (patterns.At (from_of m.rest) s.form);
      rest = s.rest;
      spelled = rw whole (point t.first (m.first ∷ m.rest) m.rest s.rest true s.form t.is
          (there m.first m.rest is) s.spelled);
      same = ap (λ f. patterns.Point true (unplaced f)) s.same;
      fresh = rw whole (fresh_inert t.first (m.first ∷ m.rest) (rw t.is inert_and));
      holds = s.holds;
    }

-- ---- groups

-- a pattern without a bar, in parentheses
pub group_then : (n : ℕ) (shape form : Shape) (first : Placed) (us rest : List Placed) (closing : Placed)
    (Q : List Placed → Type 0) → first.lexeme ≡ Marked marks.OpenRound
    → PatternForm (SpellsPlain n) us (patterns.At (from_of us) form) (closing ∷ rest)
    → closing.lexeme ≡ Marked marks.CloseRound → shape_without form ≡ shape → Q rest
    → Armed (suc n) (grouped_shape shape) Q (first ∷ us)
unfolding SpellsPlain
group_then n shape form first us rest closing Q e s f same q = record {
  form = patterns.Group (patterns.At (from_of us) form);
  rest = rest;
  spelled = group first closing us rest (patterns.At (from_of us) form) e s f;
  same = ap (λ x. patterns.Group (unplaced x)) same;
  fresh = fresh_inert first us (rw e inert_round);
  holds = q;
}
