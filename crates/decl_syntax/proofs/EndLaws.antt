-- A literal, a path or a range that is read is spelled so, and one that is spelled so is read.
use Rattle.std.proofs.Common.{◌≡◌, ℕ, ◌<◌, Bool, true, false, ◌&&◌, cond, List, [], ◌∷◌, ◌++◌, length, Option, Some, None, refl, sym, ap, subst, ◌∙◌, arith, inl, inr}
use Rattle.std.proofs.lemmas.List.{map_push}
use Rattle.std.proofs.Math.Bool.{and-true, and_assoc}
use Rattle.decl_lexer.specs.declared.marks.Mark.{Mark}
use Rattle.decl_lexer.specs.declared.marks.Mark.TheVariants as marks
use Rattle.decl_lexer.specs.declared.words.Word.TheVariants as words
use Rattle.decl_lexer.specs.Begins.{Lexeme, Named, Keyword, Marked, Integer, Float, Character, Byte, Text, ByteText, CText}
use Rattle.decl_lexer.specs.Lexing.{Placed}
use Rattle.decl_syntax.specs.Units.{behind, is_mark, is_word, token_at, name_of, first_passes}
use Rattle.decl_syntax.specs.Patterns.{LitTree, Shape, Range}
use Rattle.decl_syntax.specs.Grammar.{only, further}
use Rattle.decl_syntax.specs.EndGrammar.{names_of, all_names, OneToken, one_token, Segment, IsSegment, a_name, the_crate, the_value, the_parent, the_type, SpellsPath, IsLiteral, a_true, a_false, a_char, a_byte, an_int, a_float, a_text, a_byte_text, a_c_text, IsNegated, negated_int, negated_float, IsEnd, char_end, byte_end, int_end, float_end, SpellsEnd, plain_end, negative_end, path_end, begins_end, IsRangeMark, two_dots, dots_equal, SpellsRange, both_ends, low_end, high_end}
use Rattle.decl_syntax.specs.declared.stop.Stop.{Stop}
use Rattle.decl_syntax.specs.declared.stop.Stop.TheVariants as stops
use Rattle.decl_syntax.specs.EndReading.{segment_of, segments_at, path_tree_at, literal_of, negated_of, end_of, end_at, range_mark_of, range_behind, range_at}
use Rattle.decl_syntax.specs.Reading.{◌>>=◌, Fails}
use Rattle.decl_syntax.proofs.ListLemmas.{Shrinks}
use Rattle.decl_syntax.proofs.Joined.{some_is, bind_some, either_some, given, behind_some, token_some, Joined, read_shrinks, parts}

-- ---- one token

module _ {A : Type 0} (Means : Lexeme → A → Type 0) (meaning : Lexeme → Option A) (to : (l : Lexeme) (x : A) → meaning l ≡ Some x → Means l x) (from : (l : Lexeme) (x : A) → Means l x → meaning l ≡ Some x) where
  token_sound : (ts : List Placed) (y : A × List Placed) → token_at meaning ts ≡ Some y → OneToken Means ts y.0 y.1
  token_sound ts y e = let m = token_some meaning ts y e in rw m.whole (one_token m.first y.1 y.0 (to m.first.lexeme y.0 m.is))

  token_complete : (ts rest : List Placed) (x : A) → OneToken Means ts x rest → token_at meaning ts ≡ Some (x, rest)
  token_complete _ _ _ (one_token t rest x m) = rw (from t.lexeme x m) refl

  token_shrinks : (ts rest : List Placed) (x : A) → OneToken Means ts x rest → length rest < length ts
  token_shrinks _ _ _ (one_token t rest x m) = omega arith

  pub tokens : Joined (OneToken Means) (token_at meaning)
  tokens = record { sound = token_sound; complete = token_complete; shrinks = token_shrinks }

segment_to : (l : Lexeme) (x : Segment) → segment_of l ≡ Some x → IsSegment l x
segment_to (Named text raw) x e = subst (λ s. IsSegment (Named text raw) s) (some_is _ _ e) (a_name text raw)
segment_to (Keyword words.Crate) x e = subst (λ s. IsSegment (Keyword words.Crate) s) (some_is _ _ e) the_crate
segment_to (Keyword words.SelfValue) x e = subst (λ s. IsSegment (Keyword words.SelfValue) s) (some_is _ _ e) the_value
segment_to (Keyword words.Super) x e = subst (λ s. IsSegment (Keyword words.Super) s) (some_is _ _ e) the_parent
segment_to (Keyword words.SelfType) x e = subst (λ s. IsSegment (Keyword words.SelfType) s) (some_is _ _ e) the_type
segment_to _ x e = absurd cc

-- what is known of a part of a path
pub record SegmentFacts (l : Lexeme) (x : Segment) : Type 0 where
  pub read : segment_of l ≡ Some x
  pub mark : (m : Mark) → is_mark m l ≡ false
  pub by_ref : is_word words.Ref l ≡ false
  pub mutable : is_word words.Mut l ≡ false
  pub literal : literal_of l ≡ None
  pub end : end_of l ≡ None
  pub range : range_mark_of l ≡ None
  pub begins : begins_end l ≡ true

pub segment_facts : (l : Lexeme) (x : Segment) → IsSegment l x → SegmentFacts l x
segment_facts _ _ (a_name text raw) = record { read = refl; mark = λ m. refl; by_ref = refl; mutable = refl; literal = refl; end = refl; range = refl; begins = refl }
segment_facts _ _ _ = record { read = refl; mark = λ m. refl; by_ref = refl; mutable = refl; literal = refl; end = refl; range = refl; begins = refl }

pub segments : Joined (OneToken IsSegment) (token_at segment_of)
segments = tokens IsSegment segment_of segment_to (λ l x m. (segment_facts l x m).read)

pub segment_shrinks : Shrinks (token_at segment_of)
segment_shrinks = read_shrinks (OneToken IsSegment) (token_at segment_of) segments

pub paths : Joined SpellsPath segments_at
unfolding segments_at
paths = parts marks.PathSeparator (OneToken IsSegment) (token_at segment_of) segments

pub literal_to : (l : Lexeme) (x : LitTree) → literal_of l ≡ Some x → IsLiteral l x
literal_to (Keyword words.True) x e = subst (λ s. IsLiteral (Keyword words.True) s) (some_is _ _ e) a_true
literal_to (Keyword words.False) x e = subst (λ s. IsLiteral (Keyword words.False) s) (some_is _ _ e) a_false
literal_to (Character c) x e = subst (λ s. IsLiteral (Character c) s) (some_is _ _ e) (a_char c)
literal_to (Byte b) x e = subst (λ s. IsLiteral (Byte b) s) (some_is _ _ e) (a_byte b)
literal_to (Integer value suffix decimal) x e = subst (λ s. IsLiteral (Integer value suffix decimal) s) (some_is _ _ e) (an_int value suffix decimal)
literal_to Float x e = subst (λ s. IsLiteral Float s) (some_is _ _ e) a_float
literal_to (Text text) x e = subst (λ s. IsLiteral (Text text) s) (some_is _ _ e) (a_text text)
literal_to ByteText x e = subst (λ s. IsLiteral ByteText s) (some_is _ _ e) a_byte_text
literal_to CText x e = subst (λ s. IsLiteral CText s) (some_is _ _ e) a_c_text
literal_to _ x e = absurd cc

-- what is known of a literal
pub record LiteralFacts (l : Lexeme) (x : LitTree) : Type 0 where
  pub read : literal_of l ≡ Some x
  pub mark : (m : Mark) → is_mark m l ≡ false
  pub by_ref : is_word words.Ref l ≡ false
  pub mutable : is_word words.Mut l ≡ false
  pub name : name_of l ≡ None

pub literal_facts : (l : Lexeme) (x : LitTree) → IsLiteral l x → LiteralFacts l x
literal_facts _ _ a_true = record { read = refl; mark = λ m. refl; by_ref = refl; mutable = refl; name = refl }
literal_facts _ _ _ = record { read = refl; mark = λ m. refl; by_ref = refl; mutable = refl; name = refl }

pub negated_to : (l : Lexeme) (x : LitTree) → negated_of l ≡ Some x → IsNegated l x
negated_to (Integer value suffix decimal) x e = subst (λ s. IsNegated (Integer value suffix decimal) s) (some_is _ _ e) (negated_int value suffix decimal)
negated_to Float x e = subst (λ s. IsNegated Float s) (some_is _ _ e) negated_float
negated_to _ x e = absurd cc

pub negated_from : (l : Lexeme) (x : LitTree) → IsNegated l x → negated_of l ≡ Some x
negated_from _ _ (negated_int value suffix decimal) = refl
negated_from _ _ negated_float = refl

end_to : (l : Lexeme) (x : LitTree) → end_of l ≡ Some x → IsEnd l x
end_to (Character c) x e = subst (λ s. IsEnd (Character c) s) (some_is _ _ e) (char_end c)
end_to (Byte b) x e = subst (λ s. IsEnd (Byte b) s) (some_is _ _ e) (byte_end b)
end_to (Integer value suffix decimal) x e = subst (λ s. IsEnd (Integer value suffix decimal) s) (some_is _ _ e) (int_end value suffix decimal)
end_to Float x e = subst (λ s. IsEnd Float s) (some_is _ _ e) float_end
end_to _ x e = absurd cc

record EndFacts (l : Lexeme) (x : LitTree) : Type 0 where
  read : end_of l ≡ Some x
  mark : (m : Mark) → is_mark m l ≡ false
  range : range_mark_of l ≡ None
  begins : begins_end l ≡ true

end_facts : (l : Lexeme) (x : LitTree) → IsEnd l x → EndFacts l x
end_facts _ _ (char_end c) = record { read = refl; mark = λ m. refl; range = refl; begins = refl }
end_facts _ _ _ = record { read = refl; mark = λ m. refl; range = refl; begins = refl }

range_mark_to : (l : Lexeme) (x : Bool) → range_mark_of l ≡ Some x → IsRangeMark l x
range_mark_to (Marked marks.TwoDots) x e = subst (λ s. IsRangeMark (Marked marks.TwoDots) s) (some_is _ _ e) two_dots
range_mark_to (Marked marks.DotsEqual) x e = subst (λ s. IsRangeMark (Marked marks.DotsEqual) s) (some_is _ _ e) dots_equal
range_mark_to _ x e = absurd cc

range_mark_from : (l : Lexeme) (x : Bool) → IsRangeMark l x → range_mark_of l ≡ Some x
range_mark_from _ _ two_dots = refl
range_mark_from _ _ dots_equal = refl

-- ---- ends

-- what a path begins with
pub record HeadsSegment (ts : List Placed) : Type 0 where
  pub first : Placed
  pub rest : List Placed
  pub part : Segment
  pub is : IsSegment first.lexeme part
  pub whole : ts ≡ first ∷ rest

one_segment : (ts rest : List Placed) (x : Segment) → OneToken IsSegment ts x rest → HeadsSegment ts
one_segment _ _ _ (one_token t rest x m) = record { first = t; rest = rest; part = x; is = m; whole = refl }

pub path_heads : (ts rest : List Placed) (xs : List Segment) → SpellsPath ts xs rest → HeadsSegment ts
path_heads _ _ _ (only ts rest x item e) = one_segment ts rest x item
path_heads _ _ _ (further ts us rest x xs t item e others) = one_segment ts (t ∷ us) x item

end_complete : (ts rest : List Placed) (x : LitTree) → SpellsEnd ts x rest → end_at ts ≡ Some (x, rest)
unfolding end_at
end_complete _ _ _ (plain_end t rest x e) = let f = end_facts t.lexeme x e in rw (f.mark marks.Minus, f.read) refl
end_complete _ _ _ (negative_end minus t rest x e f) = rw (e, negated_from t.lexeme x f) refl
end_complete _ _ _ (path_end ts rest xs s) =
    let h = path_heads ts rest xs s in
    let f = segment_facts h.first.lexeme h.part h.is in
    let no_minus : behind (is_mark marks.Minus) ts ≡ None = rw (h.whole, f.mark marks.Minus) refl in
    let no_token : token_at end_of ts ≡ None = rw (h.whole, f.end) refl in
    rw (no_minus, no_token, paths.complete ts rest xs s) refl

end_sound : (ts : List Placed) (y : LitTree × List Placed) → end_at ts ≡ Some y → SpellsEnd ts y.0 y.1
unfolding end_at
end_sound ts y e =
    elim (either_some (behind (is_mark marks.Minus) ts) _ _ y e) [
      | inl a ↦ (
          let b = behind_some marks.Minus ts a.0 a.1 in
          let n = token_some negated_of a.0 y a.2 in
          let whole : ts ≡ b.first ∷ n.first ∷ y.1 = b.whole ∙ ap (λ us. b.first ∷ us) n.whole in
          rw whole (negative_end b.first n.first y.1 y.0 b.is (negated_to n.first.lexeme y.0 n.is)))
      | inr o ↦ elim (either_some (token_at end_of ts) _ _ y o.1) [
        | inl a ↦ (let n = token_some end_of ts a.0 a.1 in given SpellsEnd ts _ y a.2 (rw n.whole (plain_end n.first a.0.1 a.0.0 (end_to n.first.lexeme a.0.0 n.is))))
        | inr p ↦ (let r = bind_some (segments_at ts) _ y p.1 in given SpellsEnd ts _ y r.2 (path_end ts r.0.1 r.0.0 (paths.sound ts r.0 r.1)))
      ]
    ]

end_shrinks : (ts rest : List Placed) (x : LitTree) → SpellsEnd ts x rest → length rest < length ts
end_shrinks _ _ _ (plain_end t rest x e) = omega arith
end_shrinks _ _ _ (negative_end minus t rest x e f) = omega arith
end_shrinks _ _ _ (path_end ts rest xs s) = paths.shrinks ts rest xs s

-- what the end of a range does and does not begin with
pub record EndStarts (ts : List Placed) : Type 0 where
  pub begins : first_passes begins_end ts ≡ true
  pub range : token_at range_mark_of ts ≡ None
  pub round : behind (is_mark marks.CloseRound) ts ≡ None
  pub square : behind (is_mark marks.CloseSquare) ts ≡ None
  pub dots : behind (is_mark marks.TwoDots) ts ≡ None

pub end_starts : (ts rest : List Placed) (x : LitTree) → SpellsEnd ts x rest → EndStarts ts
end_starts _ _ _ (plain_end t rest x e) =
    let f = end_facts t.lexeme x e in
    record { begins = f.begins; range = rw f.range refl; round = rw (f.mark marks.CloseRound) refl; square = rw (f.mark marks.CloseSquare) refl; dots = rw (f.mark marks.TwoDots) refl }
end_starts _ _ _ (negative_end minus t rest x e f) = record { begins = rw e refl; range = rw e refl; round = rw e refl; square = rw e refl; dots = rw e refl }
end_starts _ _ _ (path_end ts rest xs s) =
    let h = path_heads ts rest xs s in
    let f = segment_facts h.first.lexeme h.part h.is in
    record { begins = rw (h.whole, f.begins) refl; range = rw (h.whole, f.range) refl; round = rw (h.whole, f.mark marks.CloseRound) refl; square = rw (h.whole, f.mark marks.CloseSquare) refl; dots = rw (h.whole, f.mark marks.TwoDots) refl }

-- ---- ranges

range_complete : (ts rest : List Placed) (x : Shape) → SpellsRange ts x rest → range_at ts ≡ Some (x, rest)
unfolding range_at range_behind
range_complete _ _ _ (both_ends ts us rest mark low high closed s m t) =
    rw ((end_starts ts (mark ∷ us) low s).range, end_complete ts (mark ∷ us) low s, range_mark_from mark.lexeme closed m, (end_starts us rest high t).begins, end_complete us rest high t) refl
range_complete _ _ _ (low_end ts rest mark low s m n) =
    rw ((end_starts ts (mark ∷ rest) low s).range, end_complete ts (mark ∷ rest) low s, m, n) refl
range_complete _ _ _ (high_end us rest mark high closed m t) = rw (range_mark_from mark.lexeme closed m, end_complete us rest high t) refl

only_two_dots : (l : Lexeme) (b : Bool) → IsRangeMark l b → b ≡ false → l ≡ Marked marks.TwoDots
only_two_dots _ _ two_dots e = refl
only_two_dots _ _ dots_equal e = absurd cc

behind_sound : (ts us : List Placed) (low : LitTree) (closed : Bool) (mark : Placed) (y : Shape × List Placed) → SpellsEnd ts low (mark ∷ us) → IsRangeMark mark.lexeme closed
    → range_behind low closed us ≡ Some y → SpellsRange ts y.0 y.1
unfolding range_behind
behind_sound ts us low closed mark y s m e = high_case (first_passes begins_end us) refl e
  where
    open_case : (b : Bool) → IsRangeMark mark.lexeme b → first_passes begins_end us ≡ false → cond b None (Some (Range (Some low) None false, us)) ≡ Some y → SpellsRange ts y.0 y.1
    open_case true m n e = absurd cc
    open_case false m n e = given SpellsRange ts _ y e (low_end ts us mark low s (only_two_dots mark.lexeme false m refl) n)

    high_case : (b : Bool) → first_passes begins_end us ≡ b → cond b (end_at us >>= λ high. Some (Range (Some low) (Some high.0) closed, high.1))
        (cond closed None (Some (Range (Some low) None false, us))) ≡ Some y → SpellsRange ts y.0 y.1
    high_case true n e = let x = bind_some (end_at us) _ y e in given SpellsRange ts _ y x.2 (both_ends ts us x.0.1 mark low x.0.0 closed s m (end_sound us x.0 x.1))
    high_case false n e = open_case closed m n e

range_sound : (ts : List Placed) (y : Shape × List Placed) → range_at ts ≡ Some y → SpellsRange ts y.0 y.1
unfolding range_at
range_sound ts y e =
    elim (either_some (token_at range_mark_of ts) _ _ y e) [
      | inl a ↦ (
          let n = token_some range_mark_of ts a.0 a.1 in
          let x = bind_some (end_at a.0.1) _ y a.2 in
          given SpellsRange ts _ y x.2 (rw n.whole (high_end a.0.1 x.0.1 n.first x.0.0 a.0.0 (range_mark_to n.first.lexeme a.0.0 n.is) (end_sound a.0.1 x.0 x.1))))
      | inr o ↦ (
          let x = bind_some (end_at ts) _ y o.1 in
          let m = bind_some (token_at range_mark_of x.0.1) _ y x.2 in
          let n = token_some range_mark_of x.0.1 m.0 m.1 in
          let low = end_sound ts x.0 x.1 in
          behind_sound ts m.0.1 x.0.0 m.0.0 n.first y (rw n.whole at low) (range_mark_to n.first.lexeme m.0.0 n.is) m.2)
    ]

range_shrinks : (ts rest : List Placed) (x : Shape) → SpellsRange ts x rest → length rest < length ts
range_shrinks _ _ _ (both_ends ts us rest mark low high closed s m t) = omega (arith, end_shrinks ts (mark ∷ us) low s, end_shrinks us rest high t)
range_shrinks _ _ _ (low_end ts rest mark low s m n) = omega (arith, end_shrinks ts (mark ∷ rest) low s)
range_shrinks _ _ _ (high_end us rest mark high closed m t) = omega (arith, end_shrinks us rest high t)

pub ranges : Joined SpellsRange range_at
ranges = record { sound = range_sound; complete = range_complete; shrinks = range_shrinks }

-- ---- the names of a path, as a loop gathers them

pub names_push : (front : List Segment) (s : Segment) → names_of (front ++ s ∷ []) ≡ names_of front ++ s.text ∷ []
names_push front s = map_push (λ (x : Segment). x.text) front s

pub all_push : (front : List Segment) (s : Segment) → all_names (front ++ s ∷ []) ≡ (all_names front && s.is_name)
all_push [] s = and-true s.is_name
all_push (x ∷ front) s = ap (λ b. x.is_name && b) (all_push front s) ∙ sym (and_assoc x.is_name (all_names front) s.is_name)

-- one name more
pub gathered : (front : List Segment) (s : Segment) (old new : List (List ℕ)) (plain : Bool) → names_of front ≡ old → all_names front ≡ plain → new ≡ old ++ s.text ∷ []
    → (names_of (front ++ s ∷ []) ≡ new) × (all_names (front ++ s ∷ []) ≡ (plain && s.is_name))
gathered front s old new plain e f g = (names_push front s ∙ ap (λ ys. ys ++ s.text ∷ []) e ∙ sym g, all_push front s ∙ ap (λ b. b && s.is_name) f)

-- where its parts are not read, neither is a path
pub path_fails : (e : Stop) (ts : List Placed) → Fails e (segments_at ts) → Fails e (path_tree_at ts)
unfolding path_tree_at
path_fails stops.Memory ts f = tt
path_fails stops.Syntax ts f = rw f refl
