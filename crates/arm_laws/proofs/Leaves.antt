-- The parts of arms that have no parts, and references.
use Rattle.std.proofs.Common.{◌≡◌, ℕ, pos, negsuc, zero, suc, ◌^◌, ◌-◌, Bool, true, false, not, ◌&&◌}
use Rattle.std.proofs.Common.{List, [], ◌∷◌, ◌++◌, Option, Some, None, encode_utf8_all, refl, sym, subst, codes}
use Rattle.std.specs.Prelude.{is_some}
use Rattle.std.specs.Fmt.{digits, signed_decimal}
use lib.Utf8.{scalars}
use Rattle.decl_lexer.specs.declared.marks.Mark.TheVariants as marks
use Rattle.decl_lexer.specs.declared.words.Word.TheVariants as words
use Rattle.decl_lexer.specs.Begins.{Keyword, Marked, Text}
use Rattle.decl_lexer.specs.Lexing.{Placed}
use Rattle.decl_syntax.specs.Patterns.{Shape, Flag, Char, Str}
use Rattle.decl_syntax.specs.Patterns as patterns
use Rattle.decl_syntax.specs.EndGrammar.{a_true, a_false, a_text}
use Rattle.decl_syntax.specs.PatternGrammar.{SpellsPlain}
use Rattle.match_model.specs.declared.IntKind.{IntKind}
use Rattle.match_model.specs.declared.IntKind.TheVariants.{ISize}
use Rattle.match_model.specs.Numbers.{MEnd, Free, At, MRange, has_one_number}
use Rattle.value_syntax.proofs.Lexed.{Lexable, Then, Is, token_step, space_step, Both, apart, another_and}
use Rattle.value_syntax.proofs.Lexed.{both_weaker, close_round}
use Rattle.value_syntax.proofs.LexedNames.{Stops, at_round, at_space}
use Rattle.witness_text.specs.Arms.{grouped, from_greatest, up_to_least, several_text, arm_ints, is_one_char}
use Rattle.witness_text.specs.Arms.{arm_chars}
use Rattle.witness_text.specs.Literals.{char_literal, string_literal}
use Rattle.witness_text.specs.Ranges.{numbers_text, chars_text, begins_above_literals, ends_below_literals}
use Rattle.witness_text.specs.Texts.{flag_text, point_text}
use Rattle.arm_maker.specs.Sizes.{range_fits}
use Rattle.arm_laws.specs.Takes.{range_taken, greatest_of}
use Rattle.arm_laws.specs.Patterns.{number_literal, end_literal, char_end, range_shape, grouped_shape, ints_shape}
use Rattle.arm_laws.specs.Patterns.{range_written, chars_shape, unplaced, point_shape}
use Rattle.arm_laws.specs.Spellable.{IsShortEnd, IsScalarEnd}
use Rattle.arm_laws.proofs.Fresh.{inert_true, inert_false, inert_text}
use Rattle.arm_laws.proofs.Armed.{Calm, Armed, whole, wild_then, literal_then, point_then, mutable_then, group_then}
use Rattle.arm_laws.proofs.Pieces.{wild_read, true_read, false_read, mut_read, underscore_apart, t_apart, f_apart}
use Rattle.arm_laws.proofs.Pieces.{m_apart, mark_step, char_step, text_step, at_stop}
use Rattle.arm_laws.proofs.Ranges.{signed_step, number_then, char_then, number_end, char_end_text, both_text}
use Rattle.arm_laws.proofs.Ranges.{low_text, high_text, grouped_back, range_back}

-- ---- `_`, flags and texts

pub wild_back : (n : ℕ) (behind : List ℕ) (Q : List Placed → Type 0) → Stops behind → Lexable behind Q
    → Both (95 ∷ behind) (Armed (suc n) patterns.Wild Q)
wild_back n behind Q k h =
    let lexed = token_step (Is marks.Underscore) Q (Marked marks.Underscore) 95 [] behind refl (wild_read behind k)
    refl h in
    both_weaker _ _ _ (λ us t. wild_then n Q us t) (apart _ 95 behind underscore_apart lexed)

pub flag_back : (n : ℕ) (b : Bool) (behind : List ℕ) (Q : List Placed → Type 0) → Stops behind → Lexable behind Q
    → Both (flag_text b ++ behind) (Armed (suc n) (patterns.Literal (Flag b)) Q)
flag_back n true behind Q k h =
    let lexed = token_step (λ l. l ≡ Keyword words.True) Q (Keyword words.True) 116 (114 ∷ 117 ∷ 101 ∷ []) behind refl
    (true_read behind k) refl h in
    both_weaker _ _ _ (λ us t. literal_then n (Keyword words.True) (Flag true) Q us a_true inert_true t)
    (apart _ 116 (114 ∷ 117 ∷ 101 ∷ behind) t_apart lexed)
flag_back n false behind Q k h =
    let lexed = token_step (λ l. l ≡ Keyword words.False) Q (Keyword words.False) 102 (97 ∷ 108 ∷ 115 ∷ 101 ∷ [])
    behind refl (false_read behind k) refl h in
    both_weaker _ _ _ (λ us t. literal_then n (Keyword words.False) (Flag false) Q us a_false inert_false t)
    (apart _ 102 (97 ∷ 108 ∷ 115 ∷ 101 ∷ behind) f_apart lexed)

text_back : (n : ℕ) (cs behind : List ℕ) (Q : List Placed → Type 0) → scalars cs ≡ true → Lexable behind Q
    → Both (string_literal cs ++ behind) (Armed (suc n) (patterns.Literal (Str (encode_utf8_all cs))) Q)
text_back n cs behind Q u h =
    let text = encode_utf8_all cs in
    both_weaker _ _ _ (λ us t. literal_then n (Text text) (Str text) Q us (a_text text) (inert_text text) t)
    (text_step cs behind Q u h)

-- ---- references

-- a reference to what lexes so
and_back : (n : ℕ) (shape : Shape) (cs : List ℕ) (Q : List Placed → Type 0) → Both cs (Armed n shape Q)
    → Both (38 ∷ cs) (Armed (suc n) (patterns.Point false (unplaced shape)) Q)
and_back n shape cs Q b = both_weaker _ _ _ (λ us t. point_then n shape Q us t) (another_and _ cs b)

mut_back : (n : ℕ) (shape : Shape) (cs : List ℕ) (Q : List Placed → Type 0) → Both cs (Armed n shape Q)
    → Both (codes "&mut " ++ cs) (Armed (suc n) (patterns.Point true (unplaced shape)) Q)
mut_back n shape cs Q b =
    let spaced = space_step (Armed n shape Q) cs b.no_space b.alone in
    let lexed = token_step (λ l. l ≡ Keyword words.Mut) (Armed n shape Q) (Keyword words.Mut) 109 (117 ∷ 116 ∷ [])
    (32 ∷ cs) refl (mut_read (32 ∷ cs) (at_space cs)) refl spaced in
    both_weaker _ _ _ (λ us t. mutable_then n shape Q us t)
    (another_and _ _ (apart _ 109 (117 ∷ 116 ∷ 32 ∷ cs) m_apart lexed))

-- a text behind `&` is its literal; all else stands behind its mark
pub point_back : (n : ℕ) (mutable : Bool) (literal : Option (List ℕ)) (cs : List ℕ) (shape : Shape)
    (behind : List ℕ) (Q : List Placed → Type 0) → ((t : List ℕ) → literal ≡ Some t → scalars t ≡ true)
    → ((not mutable && is_some literal) ≡ false → Both (cs ++ behind) (Armed n shape Q)) → Lexable behind Q
    → Both (point_text mutable literal cs ++ behind) (Armed (suc n) (point_shape mutable literal shape) Q)
point_back n true literal cs shape behind Q s b h = mut_back n shape (cs ++ behind) Q (b refl)
point_back n false None cs shape behind Q s b h = and_back n shape (cs ++ behind) Q (b refl)
point_back n false (Some t) cs shape behind Q s b h = text_back n t behind Q (s t refl) h

-- ---- several numbers or characters

-- anything in parentheses
wild_grouped : (n : ℕ) (behind : List ℕ) (Q : List Placed → Type 0) → Lexable behind Q
    → Both (grouped (codes "_") ++ behind) (Armed (suc (suc n)) (grouped_shape patterns.Wild) Q)
wild_grouped n behind Q h =
    let closing = mark_step marks.CloseRound 41 Q behind (close_round behind) refl h in
    let inside = wild_back n (41 ∷ behind) _ (at_round behind) closing in
    both_weaker _ _ _ (λ us t. closed us t) (grouped_back (codes "_") behind _ inside.alone)
  where
    closed : (us : List Placed)
        → Then (Is marks.OpenRound) (Armed (suc n) patterns.Wild (Then (Is marks.CloseRound) Q)) us
        → Armed (suc (suc n)) (grouped_shape patterns.Wild) Q us
    closed us t =
        let s = t.holds in
        let c = s.holds in
        let spelled : SpellsPlain (suc n) t.rest s.form (c.first ∷ c.rest) =
        subst (λ vs. SpellsPlain (suc n) t.rest s.form vs) c.whole s.spelled in
        let inner = whole (suc n) t.rest (c.first ∷ c.rest) s.form spelled s.fresh (rw c.is refl) in
        rw t.whole (group_then (suc n) patterns.Wild s.form t.first t.rest c.rest c.first Q t.is inner c.is
        s.same c.holds)

-- so many levels are left below for what stands in parentheses
several_back : (n : ℕ) (low high : MEnd) (behind : List ℕ) (Q : List Placed → Type 0)
    → (has_one_number (record { low = low; high = high }) ≡ false) → IsShortEnd low → IsShortEnd high
    → Stops behind → Lexable behind Q
    → Both (grouped (numbers_text low high) ++ behind)
    (Armed (suc (suc n)) (grouped_shape (range_shape (end_literal low) (end_literal high))) Q)
several_back n Free Free behind Q e a b k h = wild_grouped n behind Q h
several_back n Free (At b) behind Q e x y k h =
    range_back (suc n) (46 ∷ 46 ∷ 61 ∷ signed_decimal b) (patterns.Range None (Some (number_literal b)) true) behind Q
    (high_text (signed_decimal b) (number_literal b) (number_end b y)) refl
    (at_round behind) h
several_back n (At a) Free behind Q e x y k h =
    range_back (suc n) (signed_decimal a ++ 46 ∷ 46 ∷ []) (patterns.Range (Some (number_literal a)) None false) behind Q
    (low_text (signed_decimal a) (number_literal a) (number_end a x)) refl
    (at_round behind) h
several_back n (At a) (At b) behind Q e x y k h =
    let same : numbers_text (At a) (At b) ≡ signed_decimal a ++ (codes "..=" ++ signed_decimal b) = rw e refl in
    subst (λ cs. Both (grouped cs ++ behind) (Armed (suc (suc n))
    (grouped_shape (range_shape (end_literal (At a)) (end_literal (At b)))) Q)) (sym same)
    (range_back (suc n) (signed_decimal a ++ 46 ∷ 46 ∷ 61 ∷ signed_decimal b)
    (patterns.Range (Some (number_literal a)) (Some (number_literal b)) true) behind Q
    (both_text (signed_decimal a) (signed_decimal b) (number_literal a) (number_literal b) (number_end a x)
    (number_end b y)) refl (at_round behind) h)

-- ---- beyond the literals

greatest_size : signed_decimal (pos (2 ^ 63 - 1)) ++ codes ".." ≡ codes "9223372036854775807.."
unfolding digits
greatest_size = refl

greatest_unsigned : signed_decimal (pos (2 ^ 64 - 1)) ++ codes ".." ≡ codes "18446744073709551615.."
unfolding digits
greatest_unsigned = refl

least_size : codes "..=" ++ signed_decimal (negsuc (2 ^ 63 - 1)) ≡ up_to_least
unfolding digits
least_size = refl

-- the text from the greatest literal on is that of the range
greatest_text : (kind : IntKind) → from_greatest kind ≡ numbers_text (greatest_of kind) Free
greatest_text ISize = sym greatest_size
greatest_text _ = sym greatest_unsigned

-- the text of several numbers is that of the range that is written for them
taken_text : (kind : IntKind) (r : MRange)
    → several_text kind r ≡ numbers_text (range_taken kind r).low (range_taken kind r).high
taken_text kind r = by_case (begins_above_literals kind r.low) (ends_below_literals kind r.high) refl refl
  where
    by_case : (a b : Bool) → begins_above_literals kind r.low ≡ a → ends_below_literals kind r.high ≡ b
        → several_text kind r ≡ numbers_text (range_taken kind r).low (range_taken kind r).high
    by_case true b e f = rw e (greatest_text kind)
    by_case false true e f = rw (e, f) (sym least_size)
    by_case false false e f = rw (e, f) refl

-- it has more numbers than one
taken_several : (kind : IntKind) (r : MRange) → has_one_number r ≡ false → has_one_number (range_taken kind r) ≡ false
taken_several kind r o = by_case (begins_above_literals kind r.low) (ends_below_literals kind r.high) refl refl
  where
    greatest : (k : IntKind) → has_one_number (record { low = greatest_of k; high = Free }) ≡ false
    greatest ISize = refl
    greatest _ = refl

    by_case : (a b : Bool) → begins_above_literals kind r.low ≡ a → ends_below_literals kind r.high ≡ b
        → has_one_number (range_taken kind r) ≡ false
    by_case true b e f = rw e (greatest kind)
    by_case false true e f = rw (e, f) refl
    by_case false false e f = rw (e, f) o

-- ---- numbers

one_back : (n : ℕ) (low high : MEnd) (behind : List ℕ) (Q : List Placed → Type 0)
    → has_one_number (record { low = low; high = high }) ≡ true → IsShortEnd low → Stops behind
    → ((us : List Placed) → Q us → Calm us) → Lexable behind Q
    → Both (numbers_text low high ++ behind) (Armed (suc n) (ints_shape true (record { low = low; high = high })) Q)
one_back n Free high behind Q e x k q h = absurd cc
one_back n (At a) Free behind Q e x k q h = absurd cc
one_back n (At a) (At b) behind Q e x k q h =
    let same : numbers_text (At a) (At b) ≡ signed_decimal a = rw e refl in
    subst (λ cs. Both (cs ++ behind) (Armed (suc n) (patterns.Literal (number_literal a)) Q)) (sym same)
    (both_weaker _ _ _ (λ us t. number_then n a Q q us t) (signed_step a behind Q x (at_stop behind k) h))

pub ints_back : (n : ℕ) (kind : IntKind) (r : MRange) (behind : List ℕ) (Q : List Placed → Type 0)
    → IsShortEnd (range_written kind r).low → IsShortEnd (range_written kind r).high
    → range_fits n (has_one_number r) ≡ true → Stops behind → ((us : List Placed) → Q us → Calm us)
    → Lexable behind Q
    → Both (arm_ints kind r ++ behind) (Armed (suc n) (ints_shape (has_one_number r) (range_written kind r)) Q)
ints_back n kind r behind Q x y f k q h = by_case (has_one_number r) refl
  where
    low_case : has_one_number r ≡ true → IsShortEnd r.low
    low_case e = rw e at x

    several : (m : ℕ) → range_fits m false ≡ true → IsShortEnd (range_taken kind r).low
        → IsShortEnd (range_taken kind r).high → has_one_number r ≡ false
        → Both (grouped (several_text kind r) ++ behind) (Armed (suc m) (ints_shape false (range_taken kind r)) Q)
    several zero g a b e = absurd cc
    several (suc m) g a b e =
        let t = range_taken kind r in
        subst (λ cs. Both (grouped cs ++ behind) (Armed (suc (suc m)) (ints_shape false t) Q)) (sym (taken_text kind r))
        (several_back m t.low t.high behind Q (taken_several kind r e) a b k h)

    by_case : (b : Bool) → has_one_number r ≡ b
        → Both (arm_ints kind r ++ behind) (Armed (suc n) (ints_shape (has_one_number r) (range_written kind r)) Q)
    by_case true e = rw e (one_back n r.low r.high behind Q e (low_case e) k q h)
    by_case false e = rw e (several n (rw e at f) (rw e at x) (rw e at y) e)

-- ---- characters

several_chars : (n : ℕ) (low high : Option ℕ) (behind : List ℕ) (Q : List Placed → Type 0)
    → is_one_char low high ≡ false → IsScalarEnd low → IsScalarEnd high → Lexable behind Q
    → Both (grouped (chars_text low high) ++ behind)
    (Armed (suc (suc n)) (grouped_shape (range_shape (char_end low) (char_end high))) Q)
several_chars n None None behind Q e x y h = wild_grouped n behind Q h
several_chars n None (Some b) behind Q e x y h =
    range_back (suc n) (46 ∷ 46 ∷ 61 ∷ char_literal b) (patterns.Range None (Some (Char b)) true) behind Q
    (high_text (char_literal b) (Char b) (char_end_text b y)) refl (at_round behind) h
several_chars n (Some a) None behind Q e x y h =
    range_back (suc n) (char_literal a ++ 46 ∷ 46 ∷ []) (patterns.Range (Some (Char a)) None false) behind Q
    (low_text (char_literal a) (Char a) (char_end_text a x)) refl (at_round behind) h
several_chars n (Some a) (Some b) behind Q e x y h =
    let same : chars_text (Some a) (Some b) ≡ char_literal a ++ (codes "..=" ++ char_literal b) = rw e refl in
    subst (λ cs. Both (grouped cs ++ behind) (Armed (suc (suc n))
    (grouped_shape (range_shape (char_end (Some a)) (char_end (Some b)))) Q)) (sym same)
    (range_back (suc n) (char_literal a ++ 46 ∷ 46 ∷ 61 ∷ char_literal b)
    (patterns.Range (Some (Char a)) (Some (Char b)) true) behind Q
    (both_text (char_literal a) (char_literal b) (Char a) (Char b) (char_end_text a x) (char_end_text b y)) refl
    (at_round behind) h)

one_char : (n : ℕ) (low high : Option ℕ) (behind : List ℕ) (Q : List Placed → Type 0)
    → is_one_char low high ≡ true → IsScalarEnd low → ((us : List Placed) → Q us → Calm us) → Lexable behind Q
    → Both (chars_text low high ++ behind) (Armed (suc n) (chars_shape true low high) Q)
one_char n None high behind Q e x q h = absurd cc
one_char n (Some a) None behind Q e x q h = absurd cc
one_char n (Some a) (Some b) behind Q e x q h =
    let same : chars_text (Some a) (Some b) ≡ char_literal a = rw e refl in
    subst (λ cs. Both (cs ++ behind) (Armed (suc n) (patterns.Literal (Char a)) Q)) (sym same)
    (both_weaker _ _ _ (λ us t. char_then n a Q q us t) (char_step a behind Q x h))

pub chars_back : (n : ℕ) (low high : Option ℕ) (behind : List ℕ) (Q : List Placed → Type 0) → IsScalarEnd low
    → IsScalarEnd high → range_fits n (is_one_char low high) ≡ true → ((us : List Placed) → Q us → Calm us)
    → Lexable behind Q
    → Both (arm_chars low high ++ behind) (Armed (suc n) (chars_shape (is_one_char low high) low high) Q)
chars_back n low high behind Q x y f q h = by_case (is_one_char low high) refl
  where
    several : (m : ℕ) → range_fits m false ≡ true → is_one_char low high ≡ false
        → Both (grouped (chars_text low high) ++ behind) (Armed (suc m) (chars_shape false low high) Q)
    several zero g e = absurd cc
    several (suc m) g e = several_chars m low high behind Q e x y h

    by_case : (b : Bool) → is_one_char low high ≡ b
        → Both (arm_chars low high ++ behind) (Armed (suc n) (chars_shape (is_one_char low high) low high) Q)
    by_case true e = rw e (one_char n low high behind Q e x q h)
    by_case false e = rw e (several n (rw e at f) e)
