-- The pattern that the text of a witness of numbers spells is the one that is meant.
use Rattle.std.proofs.Common.{◌≡◌, ℕ, ℤ, pos, negsuc, suc, Bool, true, false, ◌&&◌, ◌||◌, cond, Option, Some, None, nat_eq, refl, sym, ap, ◌∙◌, arith}
use Rattle.std.specs.Prelude.{if◌then◌else◌, not, ◌-◌, ◌^◌}
use Rattle.std.specs.Ordering.{int_eq}
use Rattle.std.proofs.lemmas.Bool.Decides.{nat_tests}
use Rattle.match_model.specs.declared.Width.{Width}
use Rattle.match_model.specs.declared.IntKind.{IntKind}
use Rattle.match_model.specs.Texts.{is_scalar}
use Rattle.match_model.specs.Types.{MType, CharType, IntType}
use Rattle.match_model.specs.Numbers.{MEnd, Free, At, MRange, closed, has_one_number}
use Rattle.match_model.specs.SourcePatterns.{written_range}
use Rattle.match_model.specs.Constructors.{NumbersCtor, in_either, is_free, belongs, end_belongs, least_held, greatest_held}
use Rattle.match_model.specs.Patterns.{NumPat, SpanPat}
use Rattle.match_model.specs.RustTypes.{rust_set}
use Rattle.match_model.proofs.Basics.{both, untrue, nat_equal, nat_itself, int_equal, int_itself}
use Rattle.witness_text.specs.Arms.{is_one_char}
use Rattle.witness_text.specs.Ranges.{begins_above_literals, ends_below_literals}
use Rattle.witness_names.specs.Named.{char_end}
use Rattle.pattern_rules.specs.Settings.{Setting, program, bottom_type}
use Rattle.pattern_rules.specs.Literals.{number_of}
use Rattle.pattern_rules.specs.Resolved.{resolved_shape}
use Rattle.arm_laws.specs.LiteralEnds.{is_literal_end, has_literal_ends}
use Rattle.arm_laws.specs.Meant.{number_meant, span_meant, numbers_meant}
use Rattle.arm_laws.specs.Patterns.{number_literal, end_literal, range_shape, range_written, one_number, ints_shape, chars_shape}
use Rattle.arm_laws.specs.Takes.{range_taken, greatest_of}
use Rattle.arm_laws.specs.TakesLaws.{NumbersAreMeant}
use Rattle.arm_laws.proofs.Meaning.{number_only}

-- ---- integers

number_kept : (z : ℤ) → number_of (number_literal z) ≡ Some z
number_kept (pos n) = refl
number_kept (negsuc n) = refl

one_resolved : (s : Setting) (t : MType) (low : MEnd) → resolved_shape s t 0 (one_number low) ≡ number_meant low
one_resolved s t Free = refl
one_resolved s t (At (pos n)) = refl
one_resolved s t (At (negsuc n)) = refl

span_resolved : (s : Setting) (t : MType) (low high : MEnd) → bottom_type t ≡ t →
    resolved_shape s t 0 (range_shape (end_literal low) (end_literal high)) ≡ span_meant s.width t low high
span_resolved s t Free Free e = refl
span_resolved s t Free (At b) e =
    ap (λ u. SpanPat 0 (written_range s.width u None true (number_of (number_literal b)))) e
    ∙ ap (λ n. SpanPat 0 (written_range s.width t None true n)) (number_kept b)
span_resolved s t (At a) Free e =
    ap (λ u. SpanPat 0 (written_range s.width u (number_of (number_literal a)) false None)) e
    ∙ ap (λ n. SpanPat 0 (written_range s.width t n false None)) (number_kept a)
span_resolved s t (At a) (At b) e =
    ap (λ u. SpanPat 0 (written_range s.width u (number_of (number_literal a)) true (number_of (number_literal b)))) e
    ∙ ap (λ n. SpanPat 0 (written_range s.width t n true (number_of (number_literal b)))) (number_kept a)
    ∙ ap (λ n. SpanPat 0 (written_range s.width t (Some a) true n)) (number_kept b)

-- a range that is open on a side has more numbers than one
open_above : (low high : MEnd) → is_free high ≡ true → has_one_number (record { low = low; high = high }) ≡ false
open_above Free high e = refl
open_above (At a) Free e = refl
open_above (At a) (At b) e = untrue e

open_below : (low high : MEnd) → is_free low ≡ true → has_one_number (record { low = low; high = high }) ≡ false
open_below Free high e = refl
open_below (At a) high e = untrue e

-- one number is within the literals, and written as it is
taken_one : (width : Width) (kind : IntKind) (r : MRange) → has_literal_ends width (IntType kind) r ≡ true →
    has_one_number r ≡ true → range_taken kind r ≡ r
taken_one width kind r h e = by (begins_above_literals kind r.low) (ends_below_literals kind r.high) refl refl
  where
    sides : (cond (begins_above_literals kind r.low) (is_free r.high) (is_literal_end width (IntType kind) r.low)
        ≡ true)
        × (cond (ends_below_literals kind r.high) (is_free r.low) (is_literal_end width (IntType kind) r.high) ≡ true)
    sides =
        both (cond (begins_above_literals kind r.low) (is_free r.high) (is_literal_end width (IntType kind) r.low))
        (cond (ends_below_literals kind r.high) (is_free r.low) (is_literal_end width (IntType kind) r.high)) h

    by : (a b : Bool) → begins_above_literals kind r.low ≡ a → ends_below_literals kind r.high ≡ b →
        range_taken kind r ≡ r
    by true b f g =
        let x : is_free r.high ≡ true =
        ap (λ c. cond c (is_free r.high) (is_literal_end width (IntType kind) r.low)) (sym f) ∙ sides.0 in
        untrue (sym (open_above r.low r.high x) ∙ e)
    by false true f g =
        let x : is_free r.low ≡ true =
        ap (λ c. cond c (is_free r.low) (is_literal_end width (IntType kind) r.high)) (sym g) ∙ sides.1 in
        untrue (sym (open_below r.low r.high x) ∙ e)
    by false false f g = rw (f, g) refl

taken_many : (kind : IntKind) (r : MRange) → has_one_number r ≡ false → has_one_number (range_taken kind r) ≡ false
taken_many kind r e = by (begins_above_literals kind r.low) (ends_below_literals kind r.high)
  where
    by : (a b : Bool) →
        has_one_number (if a then record { low = greatest_of kind; high = Free }
        else (if b then record { low = Free; high = At (negsuc (2 ^ 63 - 1)) } else r)) ≡ false
    by true b = open_above (greatest_of kind) Free refl
    by false true = refl
    by false false = e

pub ints_resolved : (s : Setting) (kind : IntKind) (r : MRange) → has_literal_ends s.width (IntType kind) r ≡ true →
    resolved_shape s (IntType kind) 0 (ints_shape (has_one_number r) (range_written kind r))
    ≡ numbers_meant s.width (IntType kind) (range_taken kind r)
ints_resolved s kind r h = by (has_one_number r) refl
  where
    by : (b : Bool) → has_one_number r ≡ b →
        resolved_shape s (IntType kind) 0 (ints_shape b (if b then r else range_taken kind r))
        ≡ numbers_meant s.width (IntType kind) (range_taken kind r)
    by true e =
        one_resolved s (IntType kind) r.low
        ∙ ap (λ c. cond c (number_meant r.low) (span_meant s.width (IntType kind) r.low r.high)) (sym e)
        ∙ ap (numbers_meant s.width (IntType kind)) (sym (taken_one s.width kind r h e))
    by false e =
        let q = range_taken kind r in
        span_resolved s (IntType kind) q.low q.high refl
        ∙ ap (λ c. cond c (number_meant q.low) (span_meant s.width (IntType kind) q.low q.high))
        (sym (taken_many kind r e))

-- ---- characters

-- a number of the type is a character
is_char_number : (z : ℤ) →
    in_either (closed (pos 0) (pos 0xd7ff)) (Some (closed (pos 0xe000) (pos 0x10ffff))) z ≡ true →
    (n : ℕ) × (z ≡ pos n) × (is_scalar n ≡ true)
is_char_number (pos n) h = (n, refl, scalar h)
  where
    scalar : in_either (closed (pos 0) (pos 0xd7ff)) (Some (closed (pos 0xe000) (pos 0x10ffff))) (pos n) ≡ true →
        is_scalar n ≡ true
    scalar h = grind (arith, nat_tests)
is_char_number (negsuc n) h = untrue h

char_there : (n : ℕ) → is_scalar n ≡ true → char_end (At (pos n)) ≡ Some n
char_there n e = ap (λ b. if b then Some n else None) e

-- two characters are one where their numbers are
same_test : (n k : ℕ) → int_eq (pos n) (pos k) ≡ nat_eq n k
same_test n k = by (nat_eq n k) refl (int_eq (pos n) (pos k)) refl
  where
    by : (b : Bool) → nat_eq n k ≡ b → (c : Bool) → int_eq (pos n) (pos k) ≡ c → c ≡ b
    by true e true f = refl
    by false e false f = refl
    by true e false f =
        untrue (sym f ∙ ap (λ z. int_eq (pos n) (pos z)) (sym (nat_equal n k e)) ∙ int_itself (pos n))
    by false e true f =
        let p : pos n ≡ pos k = int_equal (pos n) (pos k) f in
        let q : n ≡ k = cc in
        untrue (sym e ∙ ap (nat_eq n) (sym q) ∙ nat_itself n)

two_chars : (s : Setting) (n k : ℕ) → is_scalar n ≡ true → is_scalar k ≡ true →
    resolved_shape s CharType 0
    (chars_shape (is_one_char (char_end (At (pos n))) (char_end (At (pos k)))) (char_end (At (pos n)))
    (char_end (At (pos k))))
    ≡ numbers_meant s.width CharType (record { low = At (pos n); high = At (pos k) })
two_chars s n k e f =
    ap (λ x. resolved_shape s CharType 0
    (chars_shape (is_one_char x (char_end (At (pos k)))) x (char_end (At (pos k))))) (char_there n e)
    ∙ ap (λ x. resolved_shape s CharType 0 (chars_shape (is_one_char (Some n) x) (Some n) x)) (char_there k f)
    ∙ by (nat_eq n k)
    ∙ ap (λ b. cond b (NumPat (pos n)) (SpanPat 0 (written_range s.width CharType (Some (pos n)) true (Some (pos k)))))
    (sym (same_test n k))
  where
    by : (b : Bool) →
        resolved_shape s CharType 0 (chars_shape b (Some n) (Some k))
        ≡ cond b (NumPat (pos n)) (SpanPat 0 (written_range s.width CharType (Some (pos n)) true (Some (pos k))))
    by true = refl
    by false = refl

free_not : (b c : Bool) → (b && not (false && c)) ≡ true → b ≡ true
free_not true c h = refl
free_not false c h = untrue h

pub chars_resolved : (s : Setting) (low high : MEnd) →
    belongs (rust_set (program s) CharType) (NumbersCtor (record { low = low; high = high })) ≡ true →
    resolved_shape s CharType 0
    (chars_shape (is_one_char (char_end low) (char_end high)) (char_end low) (char_end high))
    ≡ numbers_meant s.width CharType (record { low = low; high = high })
chars_resolved s Free high d = untrue d
chars_resolved s (At a) Free d =
    untrue (both (end_belongs false least_held
    (in_either (closed (pos 0) (pos 0xd7ff)) (Some (closed (pos 0xe000) (pos 0x10ffff)))) (At a)) false d).1
chars_resolved s (At a) (At b) d =
    let has = in_either (closed (pos 0) (pos 0xd7ff)) (Some (closed (pos 0xe000) (pos 0x10ffff))) in
    let p = both (end_belongs false least_held has (At a)) (end_belongs false greatest_held has (At b)) d in
    let x = is_char_number a (free_not (has a) (int_eq a least_held) p.0) in
    let y = is_char_number b (free_not (has b) (int_eq b greatest_held) p.1) in
    ap (λ z. resolved_shape s CharType 0
    (chars_shape (is_one_char (char_end (At z)) (char_end (At b))) (char_end (At z)) (char_end (At b)))) x.1
    ∙ ap (λ z. resolved_shape s CharType 0
    (chars_shape (is_one_char (char_end (At (pos x.0))) (char_end (At z))) (char_end (At (pos x.0))) (char_end (At z))))
    y.1
    ∙ two_chars s x.0 y.0 x.2 y.2
    ∙ ap (λ z. numbers_meant s.width CharType (record { low = At z; high = At (pos y.0) })) (sym x.1)
    ∙ ap (λ z. numbers_meant s.width CharType (record { low = At a; high = At z })) (sym y.1)

pub numbers_are_meant : NumbersAreMeant
numbers_are_meant s CharType r d h = chars_resolved s r.low r.high d
numbers_are_meant s (IntType kind) r d h = ints_resolved s kind r h
numbers_are_meant s t r d h = absurd (number_only (program s) t r d)
