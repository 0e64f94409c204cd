-- Tokens that begin a pattern of an arm: no range, no binding and no bar stands there.
use Rattle.std.proofs.Common.{◌≡◌, ℕ, Bool, false, List, ◌∷◌, Some, None, refl, subst}
use Rattle.decl_lexer.specs.declared.marks.Mark.{Mark}
use Rattle.decl_lexer.specs.declared.marks.Mark.TheVariants as marks
use Rattle.decl_lexer.specs.declared.words.Word.TheVariants as words
use Rattle.decl_lexer.specs.Begins.{Lexeme, Named, Keyword, Marked, Text, name_of}
use Rattle.decl_lexer.specs.Lexing.{Placed}
use Rattle.decl_syntax.specs.Units.{is_mark, is_word, token_at, first_passes, behind}
use Rattle.decl_syntax.specs.Patterns.{LitTree, PatternTree, Shape}
use Rattle.decl_syntax.specs.Patterns as patterns
use Rattle.decl_syntax.specs.Grammar.{IsMark, NextIsNot}
use Rattle.decl_syntax.specs.EndGrammar.{Segment, SpellsPath, begins_end, IsRangeMark, two_dots, dots_equal}
use Rattle.decl_syntax.specs.EndGrammar.{SpellsRange}
use Rattle.decl_syntax.specs.EndGrammar.{both_ends, low_end, high_end}
use Rattle.decl_syntax.specs.EndReading.{end_of, end_at, negated_of, range_mark_of, range_at}
use Rattle.decl_syntax.specs.PatternGrammar.{NoRange, SpellsBoundRest, bound_rest}
use Rattle.decl_syntax.specs.PatternReading.{binding_at, bound_at}
use Rattle.decl_syntax.proofs.Joined.{none_behind}
use Rattle.decl_syntax.proofs.EndLaws.{path_heads, paths, segment_facts, end_starts, ranges}
use Rattle.decl_syntax.proofs.PatternLaws.{bound_it}

-- what a pattern of an arm begins with
pub record Fresh (us : List Placed) : Type 0 where
  pub no_range : NoRange us
  pub no_bar : NextIsNot (is_mark marks.Bar) us
  pub no_mut : NextIsNot (is_word words.Mut) us
  pub no_rest : (q : PatternTree) (vs : List Placed) → SpellsBoundRest us q vs → ⊥

-- ---- no range

unread : (us : List Placed) → range_at us ≡ None → (shape : Shape) (rest : List Placed) → SpellsRange us shape rest → ⊥
unread us e shape rest s = let k = ranges.complete us rest shape s in cc

-- an end of a range that no mark of ranges follows
end_alone : (us rest : List Placed) (low : LitTree) → token_at range_mark_of us ≡ None → end_at us ≡ Some (low, rest)
    → token_at range_mark_of rest ≡ None → NoRange us
unfolding range_at
end_alone us rest low e f g = unread us (rw (e, f, g) refl)

mark_known : (l : Lexeme) (closed : Bool) → IsRangeMark l closed → range_mark_of l ≡ None → ⊥
mark_known _ _ two_dots e = cc
mark_known _ _ dots_equal e = cc

inert_range : (us rest : List Placed) (shape : Shape) → SpellsRange us shape rest → first_passes begins_end us ≡ false
    → ((t : Placed) (ts : List Placed) → us ≡ t ∷ ts → range_mark_of t.lexeme ≡ None) → ⊥
inert_range _ _ _ (both_ends ts us rest mark low high closed s m t) e f =
    let k = (end_starts ts (mark ∷ us) low s).begins in cc
inert_range _ _ _ (low_end ts rest mark low s m n) e f = let k = (end_starts ts (mark ∷ rest) low s).begins in cc
inert_range _ _ _ (high_end us rest mark high closed m t) e f = mark_known mark.lexeme closed m (f mark us refl)

-- ---- no binding

unbound_rest : (us vs : List Placed) (q : PatternTree) → SpellsBoundRest us q vs → bound_at us ≡ None → ⊥
unbound_rest _ _ _ (bound_rest ts rest at dots b s a d n) e = let k = bound_it ts (dots ∷ rest) at b s a in cc

unbound : (t : Placed) (ts : List Placed) → is_word words.Ref t.lexeme ≡ false → is_word words.Mut t.lexeme ≡ false
    → name_of t.lexeme ≡ None → bound_at (t ∷ ts) ≡ None
unfolding bound_at binding_at
unbound t ts r m n = rw (r, m, n) refl

name_unbound : (t : Placed) (rest : List Placed) (name : List ℕ) (raw : Bool) → t.lexeme ≡ Named name raw
    → NextIsNot (is_mark marks.At) rest → bound_at (t ∷ rest) ≡ None
unfolding bound_at binding_at
name_unbound t rest name raw e n = rw (e, none_behind (is_mark marks.At) rest n) refl

pub mark_no_rest : (mark : Mark) (t : Placed) (ts vs : List Placed) (q : PatternTree) → t.lexeme ≡ Marked mark
    → SpellsBoundRest (t ∷ ts) q vs → ⊥
mark_no_rest mark t ts vs q e s = unbound_rest (t ∷ ts) vs q s (unbound t ts (rw e refl) (rw e refl) (rw e refl))

-- ---- tokens that begin nothing else

-- a token that begins no range, no binding and no bar
pub record IsInert (l : Lexeme) : Type 0 where
  pub begins : begins_end l ≡ false
  pub range : range_mark_of l ≡ None
  pub bar : is_mark marks.Bar l ≡ false
  pub by_ref : is_word words.Ref l ≡ false
  pub mutable : is_word words.Mut l ≡ false
  pub name : name_of l ≡ None

pub fresh_inert : (t : Placed) (rest : List Placed) → IsInert t.lexeme → Fresh (t ∷ rest)
fresh_inert t rest i = record {
  no_range = λ shape us s. inert_range (t ∷ rest) us shape s i.begins (λ u ts e. by_first u ts e);
  no_bar = i.bar;
  no_mut = i.mutable;
  no_rest = λ q vs s. unbound_rest (t ∷ rest) vs q s (unbound t rest i.by_ref i.mutable i.name);
}
  where
    by_first : (u : Placed) (ts : List Placed) → t ∷ rest ≡ u ∷ ts → range_mark_of u.lexeme ≡ None
    by_first u ts e = let same : t ≡ u = cc in subst (λ (x : Placed). range_mark_of x.lexeme ≡ None) same i.range

pub inert_wild : IsInert (Marked marks.Underscore)
inert_wild = record { begins = refl; range = refl; bar = refl; by_ref = refl; mutable = refl; name = refl }

pub inert_round : IsInert (Marked marks.OpenRound)
inert_round = record { begins = refl; range = refl; bar = refl; by_ref = refl; mutable = refl; name = refl }

pub inert_square : IsInert (Marked marks.OpenSquare)
inert_square = record { begins = refl; range = refl; bar = refl; by_ref = refl; mutable = refl; name = refl }

pub inert_and : IsInert (Marked marks.Ampersand)
inert_and = record { begins = refl; range = refl; bar = refl; by_ref = refl; mutable = refl; name = refl }

pub inert_true : IsInert (Keyword words.True)
inert_true = record { begins = refl; range = refl; bar = refl; by_ref = refl; mutable = refl; name = refl }

pub inert_false : IsInert (Keyword words.False)
inert_false = record { begins = refl; range = refl; bar = refl; by_ref = refl; mutable = refl; name = refl }

pub inert_text : (text : List ℕ) → IsInert (Text text)
inert_text text = record { begins = refl; range = refl; bar = refl; by_ref = refl; mutable = refl; name = refl }

-- ---- literals that could be ends of ranges

-- a token that is the end of a range
pub record IsEndToken (l : Lexeme) (x : LitTree) : Type 0 where
  pub end : end_of l ≡ Some x
  pub mark : (m : Mark) → is_mark m l ≡ false
  pub range : range_mark_of l ≡ None
  pub by_ref : is_word words.Ref l ≡ false
  pub mutable : is_word words.Mut l ≡ false
  pub name : name_of l ≡ None

one_end : (t : Placed) (rest : List Placed) (x : LitTree) → IsEndToken t.lexeme x → end_at (t ∷ rest) ≡ Some (x, rest)
unfolding end_at
one_end t rest x i = rw (i.mark marks.Minus, i.end) refl

no_mark_there : (t : Placed) (rest : List Placed) → range_mark_of t.lexeme ≡ None
    → token_at range_mark_of (t ∷ rest) ≡ None
no_mark_there t rest e = rw e refl

pub fresh_end : (t : Placed) (rest : List Placed) (x : LitTree) → IsEndToken t.lexeme x
    → token_at range_mark_of rest ≡ None → Fresh (t ∷ rest)
fresh_end t rest x i n = record {
  no_range = end_alone (t ∷ rest) rest x (no_mark_there t rest i.range) (one_end t rest x i) n;
  no_bar = i.mark marks.Bar;
  no_mut = i.mutable;
  no_rest = λ q vs s. unbound_rest (t ∷ rest) vs q s (unbound t rest i.by_ref i.mutable i.name);
}

minus_end : (minus t : Placed) (rest : List Placed) (x : LitTree) → IsMark marks.Minus minus
    → negated_of t.lexeme ≡ Some x → end_at (minus ∷ t ∷ rest) ≡ Some (x, rest)
unfolding end_at
minus_end minus t rest x e f = rw (e, f) refl

pub fresh_minus : (minus t : Placed) (rest : List Placed) (x : LitTree) → IsMark marks.Minus minus
    → negated_of t.lexeme ≡ Some x → token_at range_mark_of rest ≡ None → Fresh (minus ∷ t ∷ rest)
fresh_minus minus t rest x e f n = record {
  no_range = end_alone (minus ∷ t ∷ rest) rest x (rw e refl) (minus_end minus t rest x e f) n;
  no_bar = rw e refl;
  no_mut = rw e refl;
  no_rest = λ q vs s. unbound_rest (minus ∷ t ∷ rest) vs q s
      (unbound minus (t ∷ rest) (rw e refl) (rw e refl) (rw e refl));
}

-- ---- paths

path_end : (us rest : List Placed) (xs : List Segment) → SpellsPath us xs rest
    → end_at us ≡ Some (patterns.Other, rest)
unfolding end_at
path_end us rest xs s =
    let h = path_heads us rest xs s in
    let f = segment_facts h.first.lexeme h.part h.is in
    let no_minus : behind (is_mark marks.Minus) us ≡ None = rw (h.whole, f.mark marks.Minus) refl in
    let no_token : token_at end_of us ≡ None = rw (h.whole, f.end) refl in
    rw (no_minus, no_token, paths.complete us rest xs s) refl

-- a path whose first name no `@` follows, and which no mark of ranges follows
pub fresh_path : (t : Placed) (us rest : List Placed) (xs : List Segment) (name : List ℕ) (raw : Bool)
    → t.lexeme ≡ Named name raw → SpellsPath (t ∷ us) xs rest → NextIsNot (is_mark marks.At) us
    → token_at range_mark_of rest ≡ None → Fresh (t ∷ us)
fresh_path t us rest xs name raw e s at n = record {
  no_range = end_alone (t ∷ us) rest patterns.Other (rw e refl) (path_end (t ∷ us) rest xs s) n;
  no_bar = rw e refl;
  no_mut = rw e refl;
  no_rest = λ q vs b. unbound_rest (t ∷ us) vs q b (name_unbound t us name raw e at);
}
