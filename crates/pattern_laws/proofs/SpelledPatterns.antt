-- Patterns that tokens in order spell: their literals are spelled, and the offsets of their alternatives ascend.
use Rattle.std.proofs.Common.{◌≡◌, ℕ, zero, suc, Bool, true, false, not, ◌&&◌, ◌||◌, List, [], ◌∷◌, ◌++◌, nat_le, refl, ap, ◌∙◌, arith}
use Rattle.std.proofs.lemmas.Bool.Decides.{nat_tests}
use Rattle.decl_lexer.specs.declared.marks.Mark.{Mark}
use Rattle.decl_lexer.specs.declared.marks.Mark.TheVariants as marks
use Rattle.decl_lexer.specs.declared.words.Word.TheVariants as words
use Rattle.decl_lexer.specs.Begins as lexemes
use Rattle.decl_lexer.specs.Begins.{Lexeme, Marked}
use Rattle.decl_lexer.specs.Lexing.{Placed}
use Rattle.decl_syntax.specs.Units.{is_mark, is_word, from_of}
use Rattle.decl_syntax.specs.Patterns.{LitTree, PathTree, PatternTree, Shape, Name, Path, patterns_from, AttrTree, FieldTree, fields_from}
use Rattle.decl_syntax.specs.Widths.{pattern_count, field_count, are_many, most_parts, pattern_is_wide, shape_is_wide, some_pattern_is_wide, some_field_is_wide}
use Rattle.decl_syntax.specs.Grammar.{Spelling, CommaList, closed, last, next, Separated, only, further, Maybe, missing, there}
use Rattle.decl_syntax.specs.Runs.{SpellsAttribute, attribute}
use Rattle.decl_syntax.specs.FieldNames.{SpellsLabel, label}
use Rattle.decl_syntax.specs.EndGrammar as ends
use Rattle.decl_syntax.specs.EndGrammar.{OneToken, Segment, IsSegment, path_of, SpellsPath, IsLiteral, IsNegated, IsEnd, SpellsEnd, plain_end, negative_end, path_end, IsRangeMark, SpellsRange, both_ends, low_end, high_end}
use Rattle.decl_syntax.specs.PatternGrammar.{Binding, SpellsBinding, binding, shape_by_names, AltForm, a_range, a_plain, PatternForm, one, several, ItemForm, a_rest, a_pattern, SpellsBoundRest, bound_rest, SliceItemForm, a_bound_rest, an_item, FieldForm, labelled, shorthand, FieldList, all_closed, all_dotted, last_field, next_field, PlainForm, wild, literal, negative, bound_as, bound, path, tuple_form, brace_form, unit, only_rest, group, tuple, slice, point, SpellsPlain, SpellsPattern}
use Rattle.pattern_rules.specs.Nodes.{offset_of, shape_of, is_dots}
use Rattle.pattern_rules.specs.Spelled.{literal_is_spelled, is_bound_rest, has_bound_rest, is_spelled, shape_is_spelled, all_are_spelled, fields_are_spelled, choice_offsets, offsets_within, offsets_in_all, offsets_in_fields, offsets_of_each}
use Rattle.pattern_laws.specs.ParsedLaws.{lexeme_is_spelled}
use Rattle.pattern_laws.proofs.TokenStanding.{is_half, Moves, Reads, stay, one_token, both_move, run_moves, maybe_moves, many_moves, moved, read_moves, both_read, move_then, then_move, at_token, before_place, past_place, wider, with_test, by_test, first_told}

-- ---- tokens that are no halves

mark_whole : (m : Mark) (l : Lexeme) → is_half (Marked m) ≡ false → l ≡ Marked m → is_half l ≡ false
mark_whole m l h e = ap is_half e ∙ h

segment_whole : (l : Lexeme) (s : Segment) → IsSegment l s → is_half l ≡ false
segment_whole l s (ends.a_name text raw) = refl
segment_whole l s ends.the_crate = refl
segment_whole l s ends.the_value = refl
segment_whole l s ends.the_parent = refl
segment_whole l s ends.the_type = refl

literal_whole : (l : Lexeme) (x : LitTree) → IsLiteral l x → is_half l ≡ false
literal_whole l x ends.a_true = refl
literal_whole l x ends.a_false = refl
literal_whole l x (ends.a_char c) = refl
literal_whole l x (ends.a_byte b) = refl
literal_whole l x (ends.an_int value suffix decimal) = refl
literal_whole l x ends.a_float = refl
literal_whole l x (ends.a_text text) = refl
literal_whole l x ends.a_byte_text = refl
literal_whole l x ends.a_c_text = refl

literal_told : (l : Lexeme) (x : LitTree) → IsLiteral l x → lexeme_is_spelled l ≡ true → literal_is_spelled x ≡ true
literal_told l x ends.a_true h = refl
literal_told l x ends.a_false h = refl
literal_told l x (ends.a_char c) h = h
literal_told l x (ends.a_byte b) h = h
literal_told l x (ends.an_int value suffix decimal) h = refl
literal_told l x ends.a_float h = refl
literal_told l x (ends.a_text text) h = h
literal_told l x ends.a_byte_text h = refl
literal_told l x ends.a_c_text h = refl

negated_told : (l : Lexeme) (x : LitTree) → IsNegated l x → literal_is_spelled x ≡ true
negated_told l x (ends.negated_int value suffix decimal) = refl
negated_told l x ends.negated_float = refl

end_whole : (l : Lexeme) (x : LitTree) → IsEnd l x → is_half l ≡ false
end_whole l x (ends.char_end c) = refl
end_whole l x (ends.byte_end b) = refl
end_whole l x (ends.int_end value suffix decimal) = refl
end_whole l x ends.float_end = refl

end_told : (l : Lexeme) (x : LitTree) → IsEnd l x → lexeme_is_spelled l ≡ true → literal_is_spelled x ≡ true
end_told l x (ends.char_end c) h = h
end_told l x (ends.byte_end b) h = h
end_told l x (ends.int_end value suffix decimal) h = refl
end_told l x ends.float_end h = refl

range_mark_whole : (l : Lexeme) (b : Bool) → IsRangeMark l b → is_half l ≡ false
range_mark_whole l b ends.two_dots = refl
range_mark_whole l b ends.dots_equal = refl

-- ---- parts of patterns

-- a path stands at its first token
path_reads : (ts rest : List Placed) (segments : List Segment) → SpellsPath ts segments rest →
    Reads ts rest (from_of ts ∷ []) false true
path_reads ts rest segments (only us vs x (ends.one_token t ws y i) n) = first_told t ws true (λ h. refl)
    (segment_whole t.lexeme y i)
path_reads ts rest segments (further us vs ws x xs bar (ends.one_token t rs y i) e more) =
    then_move (t ∷ bar ∷ vs) (bar ∷ vs) ws (t.from ∷ []) false true
    (first_told t (bar ∷ vs) true (λ h. refl) (segment_whole t.lexeme y i))
    (both_move (bar ∷ vs) vs ws (one_token bar vs)
    (read_moves vs ws (from_of vs ∷ []) false true (path_reads vs ws xs more)))

-- so does the end of a range
end_reads : (ts rest : List Placed) (x : LitTree) → SpellsEnd ts x rest → Reads ts rest (from_of ts ∷ []) false
    (literal_is_spelled x)
end_reads ts rest x (plain_end t us y i) = first_told t us (literal_is_spelled y) (end_told t.lexeme y i)
    (end_whole t.lexeme y i)
end_reads ts rest x (negative_end minus t us y e i) =
    then_move (minus ∷ t ∷ us) (t ∷ us) us (minus.from ∷ []) false (literal_is_spelled y)
    (first_told minus (t ∷ us) (literal_is_spelled y) (λ h. negated_told t.lexeme y i)
    (mark_whole marks.Minus minus.lexeme refl e))
    (one_token t us)
end_reads ts rest x (path_end us vs segments s) = path_reads us vs segments s

-- and a range
range_reads : (ts rest : List Placed) (shape : Shape) → SpellsRange ts shape rest →
    Reads ts rest (from_of ts ∷ offsets_within shape) (shape_is_wide shape) (shape_is_spelled shape)
range_reads ts rest shape (both_ends us vs ws mark low high closed_ a i b) =
    both_read us (mark ∷ vs) ws (from_of us ∷ []) [] false false (literal_is_spelled low) (literal_is_spelled high)
    (end_reads us (mark ∷ vs) low a)
    (past_place (mark ∷ vs) ws mark.from [] false (literal_is_spelled high)
    (before_place mark vs ws (from_of vs) [] false (literal_is_spelled high) (end_reads vs ws high b)))
range_reads ts rest shape (low_end us vs mark low a e n) =
    both_read us (mark ∷ vs) vs (from_of us ∷ []) [] false false (literal_is_spelled low) true
    (end_reads us (mark ∷ vs) low a) (moved (mark ∷ vs) vs (one_token mark vs))
range_reads ts rest shape (high_end us vs mark high closed_ i b) =
    at_token mark us vs [] false (literal_is_spelled high) (range_mark_whole mark.lexeme closed_ i)
    (past_place us vs (from_of us) [] false (literal_is_spelled high) (end_reads us vs high b))

-- and a binding
named_whole : (l : Lexeme) (name : List ℕ) (raw : Bool) → l ≡ lexemes.Named name raw → is_half l ≡ false
named_whole l name raw e = ap is_half e

word_whole : (l : Lexeme) → is_word words.Ref l ≡ true → is_half l ≡ false
word_whole (lexemes.Keyword w) h = refl
word_whole _ h = cc

mut_whole : (l : Lexeme) → is_word words.Mut l ≡ true → is_half l ≡ false
mut_whole (lexemes.Keyword w) h = refl
mut_whole _ h = cc

mutable_reads : (ts rest : List Placed) (word : Placed) (b : Bool) (name : List ℕ) (raw : Bool) →
    Maybe (is_word words.Mut) ts b (word ∷ rest) →
    word.lexeme ≡ lexemes.Named name raw → Reads ts rest (from_of ts ∷ []) false true
mutable_reads ts rest word b name raw (missing us n) e = first_told word rest true (λ h. refl)
    (named_whole word.lexeme name raw e)
mutable_reads ts rest word b name raw (there t us p) e =
    then_move (t ∷ word ∷ rest) (word ∷ rest) rest (t.from ∷ []) false true
    (first_told t (word ∷ rest) true (λ h. refl) (mut_whole t.lexeme p))
    (one_token word rest)

binding_reads : (ts rest : List Placed) (b : Binding) → SpellsBinding ts b rest →
    Reads ts rest (from_of ts ∷ []) false true
binding_reads ts rest b (binding us vs ws word by_ref mutable name raw (missing xs n) m e) =
    mutable_reads vs ws word mutable name raw m e
binding_reads ts rest b (binding us vs ws word by_ref mutable name raw (there t xs p) m e) =
    then_move (t ∷ vs) vs ws (t.from ∷ []) false true (first_told t vs true (λ h. refl) (word_whole t.lexeme p))
    (read_moves vs ws (from_of vs ∷ []) false true (mutable_reads vs ws word mutable name raw m e))

binding_moves : (ts rest : List Placed) (b : Binding) → SpellsBinding ts b rest → Moves ts rest
binding_moves ts rest b s = read_moves ts rest (from_of ts ∷ []) false true (binding_reads ts rest b s)

pub attribute_moves : (ts rest : List Placed) (a : AttrTree) → SpellsAttribute ts a rest → Moves ts rest
attribute_moves ts rest a (attribute hash opening closing first run us h o p c) =
    both_move (hash ∷ opening ∷ first ∷ (run ++ closing ∷ us)) (run ++ closing ∷ us) us
    (both_move (hash ∷ opening ∷ first ∷ (run ++ closing ∷ us)) (opening ∷ first ∷ (run ++ closing ∷ us))
    (run ++ closing ∷ us)
    (one_token hash (opening ∷ first ∷ (run ++ closing ∷ us)))
    (both_move (opening ∷ first ∷ (run ++ closing ∷ us)) (first ∷ (run ++ closing ∷ us)) (run ++ closing ∷ us)
    (one_token opening (first ∷ (run ++ closing ∷ us))) (one_token first (run ++ closing ∷ us))))
    (both_move (run ++ closing ∷ us) (closing ∷ us) us (run_moves run (closing ∷ us)) (one_token closing us))

label_moves : (ts rest : List Placed) (name : List ℕ) → SpellsLabel ts name rest → Moves ts rest
label_moves ts rest name (label t colon us n f c) = both_move (t ∷ colon ∷ us) (colon ∷ us) us
    (one_token t (colon ∷ us)) (one_token colon us)

-- ---- forms that are no rests

path_no_dots : (p : PathTree) (b : Bool) (names : List (List ℕ)) → is_dots (shape_by_names p b names) ≡ false
path_no_dots p true [] = refl
path_no_dots p true (x ∷ []) = refl
path_no_dots p true (x ∷ y ∷ xs) = refl
path_no_dots p false [] = refl
path_no_dots p false (x ∷ xs) = refl

path_no_bound : (p : PathTree) (b : Bool) (names : List (List ℕ)) → is_bound_rest (shape_by_names p b names) ≡ false
path_no_bound p true [] = refl
path_no_bound p true (x ∷ []) = refl
path_no_bound p true (x ∷ y ∷ xs) = refl
path_no_bound p false [] = refl
path_no_bound p false (x ∷ xs) = refl

form_no_dots : (Plain : Spelling Shape) (ts rest : List Placed) (shape : Shape) → PlainForm Plain ts shape rest →
    is_dots shape ≡ false
form_no_dots Plain ts rest shape (wild t us e) = refl
form_no_dots Plain ts rest shape (literal t us x e) = refl
form_no_dots Plain ts rest shape (negative minus t us x e f) = refl
form_no_dots Plain ts rest shape (bound_as us vs ws at b p s e a) = refl
form_no_dots Plain ts rest shape (bound us vs b s e n) = refl
form_no_dots Plain ts rest shape (path us vs segments s n m k) = path_no_dots (path_of segments)
    (path_of segments).plain (path_of segments).names
form_no_dots Plain ts rest shape (tuple_form us vs ws segments opening ps s e l) = refl
form_no_dots Plain ts rest shape (brace_form us vs ws segments opening fs dotted s e l) = refl
form_no_dots Plain ts rest shape (unit opening closing us e f) = refl
form_no_dots Plain ts rest shape (only_rest opening dots closing us e f g) = refl
form_no_dots Plain ts rest shape (group opening closing us vs p e s f) = refl
form_no_dots Plain ts rest shape (tuple opening comma us vs ws first others e s f l) = refl
form_no_dots Plain ts rest shape (slice opening us vs ps e l) = refl
form_no_dots Plain ts rest shape (point and us vs ws mutable inner e m s) = refl

range_no_dots : (ts rest : List Placed) (shape : Shape) → SpellsRange ts shape rest → is_dots shape ≡ false
range_no_dots ts rest shape (both_ends us vs ws mark low high closed_ a i b) = refl
range_no_dots ts rest shape (low_end us vs mark low a e n) = refl
range_no_dots ts rest shape (high_end us vs mark high closed_ i b) = refl

range_no_bound : (ts rest : List Placed) (shape : Shape) → SpellsRange ts shape rest → is_bound_rest shape ≡ false
range_no_bound ts rest shape (both_ends us vs ws mark low high closed_ a i b) = refl
range_no_bound ts rest shape (low_end us vs mark low a e n) = refl
range_no_bound ts rest shape (high_end us vs mark high closed_ i b) = refl

-- ---- patterns, by what is within

-- what a pattern that is no range is read to
abbrev PlainReads : Spelling Shape → Type 0
PlainReads Plain = (ts rest : List Placed) (shape : Shape) → Plain ts shape rest →
    Reads ts rest (from_of ts ∷ offsets_within shape) (shape_is_wide shape) (shape_is_spelled shape)

module _ (Plain : Spelling Shape) (reads : PlainReads Plain)
    (no_dots : (ts rest : List Placed) (shape : Shape) → Plain ts shape rest → is_dots shape ≡ false)
    (no_bound : (ts rest : List Placed) (shape : Shape) → Plain ts shape rest → is_bound_rest shape ≡ false) where
  alt_reads : (ts rest : List Placed) (p : PatternTree) → AltForm Plain ts p rest →
      Reads ts rest (offset_of p ∷ choice_offsets p) (pattern_is_wide p) (is_spelled p)
  alt_reads ts rest p (a_range us vs shape s) = range_reads us vs shape s
  alt_reads ts rest p (a_plain us vs shape n s) = reads us vs shape s

  alt_inside : (ts rest : List Placed) (p : PatternTree) → AltForm Plain ts p rest →
      Reads ts rest (choice_offsets p) (pattern_is_wide p) (is_spelled p)
  alt_inside ts rest p s = past_place ts rest (offset_of p) (choice_offsets p) (pattern_is_wide p) (is_spelled p)
      (alt_reads ts rest p s)

  alt_no_dots : (ts rest : List Placed) (p : PatternTree) → AltForm Plain ts p rest → is_dots (shape_of p) ≡ false
  alt_no_dots ts rest p (a_range us vs shape s) = range_no_dots us vs shape s
  alt_no_dots ts rest p (a_plain us vs shape n s) = no_dots us vs shape s

  alt_no_bound : (ts rest : List Placed) (p : PatternTree) → AltForm Plain ts p rest → is_bound_rest (shape_of p)
      ≡ false
  alt_no_bound ts rest p (a_range us vs shape s) = range_no_bound us vs shape s
  alt_no_bound ts rest p (a_plain us vs shape n s) = no_bound us vs shape s

  -- alternatives
  each_reads : (ts rest : List Placed) (ps : List PatternTree) → Separated marks.Bar (AltForm Plain) ts ps rest →
      Reads ts rest (offsets_of_each (patterns_from ps)) (some_pattern_is_wide (patterns_from ps))
      (all_are_spelled (patterns_from ps))
  each_reads ts rest ps (only us vs p s n) =
      both_read us vs vs (offset_of p ∷ choice_offsets p) [] (pattern_is_wide p) false (is_spelled p) true
      (alt_reads us vs p s)
      (moved vs vs (stay vs))
  each_reads ts rest ps (further us vs ws p qs bar s e more) =
      both_read us (bar ∷ vs) ws (offset_of p ∷ choice_offsets p) (offsets_of_each (patterns_from qs))
      (pattern_is_wide p)
      (some_pattern_is_wide (patterns_from qs)) (is_spelled p) (all_are_spelled (patterns_from qs))
      (alt_reads us (bar ∷ vs) p s)
      (move_then (bar ∷ vs) vs ws (offsets_of_each (patterns_from qs)) (some_pattern_is_wide (patterns_from qs))
      (all_are_spelled (patterns_from qs)) (one_token bar vs) (each_reads vs ws qs more))

  -- a lone alternative
  lone : (P : PatternTree → List Placed → List Placed → Type 0) →
      ((ts rest : List Placed) (p : PatternTree) → AltForm Plain ts p rest → P p ts rest) →
      (ts rest : List Placed) (p : PatternTree) → Separated marks.Bar (AltForm Plain) ts (p ∷ []) rest → P p ts rest
  lone P f ts rest p (only us vs q s n) = f us vs q s
  lone P f ts rest p (further us vs ws q qs bar s e more) = absurd (nothing vs ws more)
    where
      nothing : (us rest : List Placed) → Separated marks.Bar (AltForm Plain) us [] rest → ⊥
      nothing us rest x = elim x [ ]

  whole_reads : (ts rest : List Placed) (p : PatternTree) → PatternForm Plain ts p rest →
      Reads ts rest (choice_offsets p) (pattern_is_wide p) (is_spelled p)
  whole_reads ts rest p (one us vs ws bar q b s) =
      move_then us vs ws (choice_offsets q) (pattern_is_wide q) (is_spelled q)
      (maybe_moves (is_mark marks.Bar) us vs bar b)
      (lone (λ r xs ys. Reads xs ys (choice_offsets r) (pattern_is_wide r) (is_spelled r)) alt_inside vs ws q s)
  whole_reads ts rest p (several us vs ws bar q r qs b s) =
      move_then us vs ws (offsets_of_each (patterns_from (q ∷ r ∷ qs)))
      (some_pattern_is_wide (patterns_from (q ∷ r ∷ qs)))
      (all_are_spelled (patterns_from (q ∷ r ∷ qs))) (maybe_moves (is_mark marks.Bar) us vs bar b)
      (each_reads vs ws (q ∷ r ∷ qs) s)

  whole_no_bound : (ts rest : List Placed) (p : PatternTree) → PatternForm Plain ts p rest → is_bound_rest (shape_of p)
      ≡ false
  whole_no_bound ts rest p (one us vs ws bar q b s) = lone (λ r xs ys. is_bound_rest (shape_of r) ≡ false)
      alt_no_bound vs ws q s
  whole_no_bound ts rest p (several us vs ws bar q r qs b s) = refl

  -- items of lists
  item_reads : (ts rest : List Placed) (p : PatternTree) → ItemForm Plain ts p rest →
      Reads ts rest (choice_offsets p) (pattern_is_wide p) (is_spelled p)
  item_reads ts rest p (a_rest dots us e n) = moved (dots ∷ us) us (one_token dots us)
  item_reads ts rest p (a_pattern us vs q s) = whole_reads us vs q s

  item_no_bound : (ts rest : List Placed) (p : PatternTree) → ItemForm Plain ts p rest → is_bound_rest (shape_of p)
      ≡ false
  item_no_bound ts rest p (a_rest dots us e n) = refl
  item_no_bound ts rest p (a_pattern us vs q s) = whole_no_bound us vs q s

  bound_rest_reads : (ts rest : List Placed) (p : PatternTree) → SpellsBoundRest ts p rest →
      Reads ts rest (choice_offsets p) (pattern_is_wide p) (is_spelled p)
  bound_rest_reads ts rest p (bound_rest us vs at dots b s e f n) =
      moved us vs
      (both_move us (at ∷ dots ∷ vs) vs (binding_moves us (at ∷ dots ∷ vs) b s)
      (both_move (at ∷ dots ∷ vs) (dots ∷ vs) vs (one_token at (dots ∷ vs)) (one_token dots vs)))

  slice_item_reads : (ts rest : List Placed) (p : PatternTree) → SliceItemForm Plain ts p rest →
      Reads ts rest (choice_offsets p) (pattern_is_wide p) (is_spelled p)
  slice_item_reads ts rest p (a_bound_rest us vs q s) = bound_rest_reads us vs q s
  slice_item_reads ts rest p (an_item us vs q n s) = item_reads us vs q s

  module _ (close : Mark) (Item : Spelling PatternTree)
      (item : (ts rest : List Placed) (p : PatternTree) → Item ts p rest →
      Reads ts rest (choice_offsets p) (pattern_is_wide p) (is_spelled p)) where
    list_reads : (ts rest : List Placed) (ps : List PatternTree) → CommaList close Item ts ps rest →
        Reads ts rest (offsets_in_all (patterns_from ps)) (some_pattern_is_wide (patterns_from ps))
        (all_are_spelled (patterns_from ps))
    list_reads ts rest ps (closed t us e) = moved (t ∷ us) us (one_token t us)
    list_reads ts rest ps (last us vs p t s e) =
        both_read us (t ∷ vs) vs (choice_offsets p) [] (pattern_is_wide p) false (is_spelled p) true
        (item us (t ∷ vs) p s)
        (moved (t ∷ vs) vs (one_token t vs))
    list_reads ts rest ps (next us vs ws p qs t s e more) =
        both_read us (t ∷ vs) ws (choice_offsets p) (offsets_in_all (patterns_from qs)) (pattern_is_wide p)
        (some_pattern_is_wide (patterns_from qs)) (is_spelled p) (all_are_spelled (patterns_from qs))
        (item us (t ∷ vs) p s)
        (move_then (t ∷ vs) vs ws (offsets_in_all (patterns_from qs)) (some_pattern_is_wide (patterns_from qs))
        (all_are_spelled (patterns_from qs)) (one_token t vs) (list_reads vs ws qs more))

  no_bound_rest : (close : Mark) (ts rest : List Placed) (ps : List PatternTree) →
      CommaList close (ItemForm Plain) ts ps rest →
      has_bound_rest (patterns_from ps) ≡ false
  no_bound_rest close ts rest ps (closed t us e) = refl
  no_bound_rest close ts rest ps (last us vs p t s e) = ap (λ b. b || false) (item_no_bound us (t ∷ vs) p s)
  no_bound_rest close ts rest ps (next us vs ws p qs t s e more) =
      ap (λ b. b || has_bound_rest (patterns_from qs)) (item_no_bound us (t ∷ vs) p s)
      ∙ no_bound_rest close vs ws qs more

  -- fields
  field_reads : (ts rest : List Placed) (f : FieldTree) → FieldForm Plain ts f rest →
      Reads ts rest (choice_offsets f.pattern) (pattern_is_wide f.pattern) (is_spelled f.pattern)
  field_reads ts rest f (labelled us vs ws xs attrs name p a l s) =
      move_then us ws xs (choice_offsets p) (pattern_is_wide p) (is_spelled p)
      (both_move us vs ws (many_moves marks.Hash SpellsAttribute attribute_moves us vs attrs a)
      (label_moves vs ws name l))
      (whole_reads ws xs p s)
  field_reads ts rest f (shorthand us vs ws attrs b a n s) =
      moved us ws (both_move us vs ws (many_moves marks.Hash SpellsAttribute attribute_moves us vs attrs a)
      (binding_moves vs ws b s))

  fields_read : (ts rest : List Placed) (x : List FieldTree × Bool) → FieldList Plain ts x rest →
      Reads ts rest (offsets_in_fields (fields_from x.0)) (some_field_is_wide (fields_from x.0))
      (fields_are_spelled (fields_from x.0))
  fields_read ts rest x (all_closed t us e) = moved (t ∷ us) us (one_token t us)
  fields_read ts rest x (all_dotted dots t us e f) =
      moved (dots ∷ t ∷ us) us (both_move (dots ∷ t ∷ us) (t ∷ us) us (one_token dots (t ∷ us)) (one_token t us))
  fields_read ts rest x (last_field us vs f t s e) =
      both_read us (t ∷ vs) vs (choice_offsets f.pattern) [] (pattern_is_wide f.pattern) false (is_spelled f.pattern)
      true (field_reads us (t ∷ vs) f s)
      (moved (t ∷ vs) vs (one_token t vs))
  fields_read ts rest x (next_field us vs ws f fs dotted t s e more) =
      both_read us (t ∷ vs) ws (choice_offsets f.pattern) (offsets_in_fields (fields_from fs))
      (pattern_is_wide f.pattern)
      (some_field_is_wide (fields_from fs)) (is_spelled f.pattern) (fields_are_spelled (fields_from fs))
      (field_reads us (t ∷ vs) f s)
      (move_then (t ∷ vs) vs ws (offsets_in_fields (fields_from fs)) (some_field_is_wide (fields_from fs))
      (fields_are_spelled (fields_from fs))
      (one_token t vs) (fields_read vs ws (fs, dotted) more))

  few_items : (n : ℕ) → are_many n ≡ false → nat_le n most_parts ≡ true
  few_items n h = grind (arith, nat_tests, h)

  path_leaf : (p : PathTree) (b : Bool) (names : List (List ℕ)) (P : Shape → Type 0) → P (Path p) →
      ((name : List ℕ) → P (Name name)) → P (shape_by_names p b names)
  path_leaf p true [] P h k = h
  path_leaf p true (x ∷ []) P h k = k x
  path_leaf p true (x ∷ y ∷ xs) P h k = h
  path_leaf p false [] P h k = h
  path_leaf p false (x ∷ xs) P h k = h

  -- the forms
  form_reads : (ts rest : List Placed) (shape : Shape) → PlainForm Plain ts shape rest →
      Reads ts rest (from_of ts ∷ offsets_within shape) (shape_is_wide shape) (shape_is_spelled shape)
  form_reads ts rest shape (wild t us e) = first_told t us true (λ h. refl)
      (mark_whole marks.Underscore t.lexeme refl e)
  form_reads ts rest shape (literal t us x i) = first_told t us (literal_is_spelled x) (literal_told t.lexeme x i)
      (literal_whole t.lexeme x i)
  form_reads ts rest shape (negative minus t us x e i) =
      then_move (minus ∷ t ∷ us) (t ∷ us) us (minus.from ∷ []) false (literal_is_spelled x)
      (first_told minus (t ∷ us) (literal_is_spelled x) (λ h. negated_told t.lexeme x i)
      (mark_whole marks.Minus minus.lexeme refl e)) (one_token t us)
  form_reads ts rest shape (bound_as us vs ws at b p s e a) =
      both_read us (at ∷ vs) ws (from_of us ∷ []) (choice_offsets p) false (pattern_is_wide p) true (is_spelled p)
      (binding_reads us (at ∷ vs) b s)
      (move_then (at ∷ vs) vs ws (choice_offsets p) (pattern_is_wide p) (is_spelled p) (one_token at vs)
      (alt_inside vs ws p a))
  form_reads ts rest shape (bound us vs b s e n) = binding_reads us vs b s
  form_reads ts rest shape (path us vs segments s n m k) =
      path_leaf (path_of segments) (path_of segments).plain (path_of segments).names
      (λ x. Reads us vs (from_of us ∷ offsets_within x) (shape_is_wide x) (shape_is_spelled x))
      (path_reads us vs segments s) (λ name. path_reads us vs segments s)
  form_reads ts rest shape (tuple_form us vs ws segments opening ps s e l) =
      wider us ws (from_of us ∷ offsets_in_all (patterns_from ps)) (are_many (pattern_count (patterns_from ps)))
      (some_pattern_is_wide (patterns_from ps))
      (all_are_spelled (patterns_from ps))
      (both_read us (opening ∷ vs) ws (from_of us ∷ []) (offsets_in_all (patterns_from ps)) false
      (some_pattern_is_wide (patterns_from ps)) true
      (all_are_spelled (patterns_from ps)) (path_reads us (opening ∷ vs) segments s)
      (move_then (opening ∷ vs) vs ws (offsets_in_all (patterns_from ps)) (some_pattern_is_wide (patterns_from ps))
      (all_are_spelled (patterns_from ps))
      (one_token opening vs) (list_reads marks.CloseRound (ItemForm Plain) item_reads vs ws ps l)))
  form_reads ts rest shape (brace_form us vs ws segments opening fs dotted s e l) =
      wider us ws (from_of us ∷ offsets_in_fields (fields_from fs)) (are_many (field_count (fields_from fs)))
      (some_field_is_wide (fields_from fs))
      (fields_are_spelled (fields_from fs))
      (both_read us (opening ∷ vs) ws (from_of us ∷ []) (offsets_in_fields (fields_from fs)) false
      (some_field_is_wide (fields_from fs)) true
      (fields_are_spelled (fields_from fs)) (path_reads us (opening ∷ vs) segments s)
      (move_then (opening ∷ vs) vs ws (offsets_in_fields (fields_from fs)) (some_field_is_wide (fields_from fs))
      (fields_are_spelled (fields_from fs))
      (one_token opening vs) (fields_read vs ws (fs, dotted) l)))
  form_reads ts rest shape (unit opening closing us e f) =
      at_token opening (closing ∷ us) us [] false true (mark_whole marks.OpenRound opening.lexeme refl e)
      (moved (closing ∷ us) us (one_token closing us))
  form_reads ts rest shape (only_rest opening dots closing us e f g) =
      at_token opening (dots ∷ closing ∷ us) us [] false true (mark_whole marks.OpenRound opening.lexeme refl e)
      (moved (dots ∷ closing ∷ us) us (both_move (dots ∷ closing ∷ us) (closing ∷ us) us (one_token dots (closing ∷ us))
      (one_token closing us)))
  form_reads ts rest shape (group opening closing us vs p e s f) =
      at_token opening us vs (choice_offsets p) (pattern_is_wide p) (is_spelled p)
      (mark_whole marks.OpenRound opening.lexeme refl e)
      (then_move us (closing ∷ vs) vs (choice_offsets p) (pattern_is_wide p) (is_spelled p)
      (whole_reads us (closing ∷ vs) p s) (one_token closing vs))
  form_reads ts rest shape (tuple opening comma us vs ws first others e s f l) =
      let free : not (has_bound_rest (patterns_from (first ∷ others))) ≡ true =
      ap (λ b. not (b || has_bound_rest (patterns_from others))) (item_no_bound us (comma ∷ vs) first s)
      ∙ ap not (no_bound_rest marks.CloseRound vs ws others l) in
      at_token opening us ws (offsets_in_all (patterns_from (first ∷ others)))
      (are_many (pattern_count (patterns_from (first ∷ others)))
      || some_pattern_is_wide (patterns_from (first ∷ others)))
      (not (has_bound_rest (patterns_from (first ∷ others))) && all_are_spelled (patterns_from (first ∷ others)))
      (mark_whole marks.OpenRound opening.lexeme refl e)
      (wider us ws (offsets_in_all (patterns_from (first ∷ others)))
      (are_many (pattern_count (patterns_from (first ∷ others))))
      (some_pattern_is_wide (patterns_from (first ∷ others)))
      (not (has_bound_rest (patterns_from (first ∷ others))) && all_are_spelled (patterns_from (first ∷ others)))
      (with_test us ws (offsets_in_all (patterns_from (first ∷ others)))
      (not (has_bound_rest (patterns_from (first ∷ others))))
      (some_pattern_is_wide (patterns_from (first ∷ others))) (all_are_spelled (patterns_from (first ∷ others))) free
      (list_reads marks.CloseRound (ItemForm Plain) item_reads us ws (first ∷ others)
      (next us vs ws first others comma s f l))))
  form_reads ts rest shape (slice opening us vs ps e l) =
      at_token opening us vs (offsets_in_all (patterns_from ps)) (are_many (pattern_count (patterns_from ps))
      || some_pattern_is_wide (patterns_from ps))
      (nat_le (pattern_count (patterns_from ps)) most_parts && all_are_spelled (patterns_from ps))
      (mark_whole marks.OpenSquare opening.lexeme refl e)
      (by_test us vs (offsets_in_all (patterns_from ps)) (are_many (pattern_count (patterns_from ps)))
      (nat_le (pattern_count (patterns_from ps)) most_parts)
      (some_pattern_is_wide (patterns_from ps)) (all_are_spelled (patterns_from ps))
      (few_items (pattern_count (patterns_from ps)))
      (list_reads marks.CloseSquare (SliceItemForm Plain) slice_item_reads us vs ps l))
  form_reads ts rest shape (point and us vs ws mutable inner e m s) =
      before_place and us ws (from_of vs) (offsets_within inner) (shape_is_wide inner) (shape_is_spelled inner)
      (move_then us vs ws (from_of vs ∷ offsets_within inner) (shape_is_wide inner) (shape_is_spelled inner)
      (maybe_moves (is_word words.Mut) us vs mutable m) (reads vs ws inner s))

  form_no_bound : (ts rest : List Placed) (shape : Shape) → PlainForm Plain ts shape rest → is_bound_rest shape ≡ false
  form_no_bound ts rest shape (wild t us e) = refl
  form_no_bound ts rest shape (literal t us x e) = refl
  form_no_bound ts rest shape (negative minus t us x e f) = refl
  form_no_bound ts rest shape (bound_as us vs ws at b p s e a) = alt_no_dots vs ws p a
  form_no_bound ts rest shape (bound us vs b s e n) = refl
  form_no_bound ts rest shape (path us vs segments s n m k) = path_no_bound (path_of segments) (path_of segments).plain
      (path_of segments).names
  form_no_bound ts rest shape (tuple_form us vs ws segments opening ps s e l) = refl
  form_no_bound ts rest shape (brace_form us vs ws segments opening fs dotted s e l) = refl
  form_no_bound ts rest shape (unit opening closing us e f) = refl
  form_no_bound ts rest shape (only_rest opening dots closing us e f g) = refl
  form_no_bound ts rest shape (group opening closing us vs p e s f) = refl
  form_no_bound ts rest shape (tuple opening comma us vs ws first others e s f l) = refl
  form_no_bound ts rest shape (slice opening us vs ps e l) = refl
  form_no_bound ts rest shape (point and us vs ws mutable inner e m s) = refl

-- ---- patterns of so many levels

plain_no_dots : (n : ℕ) (ts rest : List Placed) (shape : Shape) → SpellsPlain n ts shape rest → is_dots shape ≡ false
unfolding SpellsPlain
plain_no_dots zero ts rest shape s = absurd s
plain_no_dots (suc n) ts rest shape s = form_no_dots (SpellsPlain n) ts rest shape s

mutual
  unfolding SpellsPlain

  plain_reads : (n : ℕ) → PlainReads (SpellsPlain n)
  plain_reads zero ts rest shape s = absurd s
  plain_reads (suc n) ts rest shape s =
      form_reads (SpellsPlain n) (plain_reads n) (plain_no_dots n) (plain_no_bound n) ts rest shape s

  plain_no_bound : (n : ℕ) (ts rest : List Placed) (shape : Shape) → SpellsPlain n ts shape rest → is_bound_rest shape
      ≡ false
  plain_no_bound zero ts rest shape s = absurd s
  plain_no_bound (suc n) ts rest shape s =
      form_no_bound (SpellsPlain n) (plain_reads n) (plain_no_dots n) (plain_no_bound n) ts rest shape s

-- a pattern
pub pattern_reads : (ts rest : List Placed) (p : PatternTree) → SpellsPattern ts p rest →
    Reads ts rest (choice_offsets p) (pattern_is_wide p) (is_spelled p)
unfolding SpellsPattern
pattern_reads ts rest p s = whole_reads (SpellsPlain 64) (plain_reads 64) (plain_no_dots 64) (plain_no_bound 64)
    ts rest p s.0
