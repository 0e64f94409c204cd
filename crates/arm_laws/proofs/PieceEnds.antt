-- The ranges of the pieces of a column end at literals, or lie beyond them, where the ranges of its heads do so.
use Rattle.std.proofs.Common.{◌≡◌, inl, inr, ◌-◌, ◌^◌, ℤ, pos, negsuc, Bool, true, false, not, ◌&&◌, ◌||◌, List}
use Rattle.std.proofs.Common.{[], ◌∷◌, map, Some, None, cond, refl, sym, ap, subst, ◌∙◌, arith}
use Rattle.std.specs.Prelude.{⊤, int_le, int_lt}
use Rattle.std.specs.Ordering.{int_eq}
use Rattle.std.proofs.lemmas.Int.{ints}
use Rattle.match_model.specs.declared.IntKind.{IntKind}
use Rattle.match_model.specs.declared.IntKind.TheVariants as kinds
use Rattle.match_model.specs.declared.Width.{Width}
use Rattle.match_model.specs.declared.Width.TheVariants.{Endless, Bits16, Bits32, Bits64}
use Rattle.match_model.specs.Constructors.{MCtor, NumbersCtor, is_free, in_either, in_second, end_belongs, least_held}
use Rattle.match_model.specs.Constructors.{greatest_held, belongs}
use Rattle.match_model.specs.Declarations.{MProgram}
use Rattle.match_model.specs.Lists.{Among, Every}
use Rattle.match_model.specs.Numbers.{MEnd, Free, At, MRange, in_range, unsigned_range, signed_range, kind_range}
use Rattle.match_model.specs.Numbers.{closed}
use Rattle.match_model.specs.Pieces.{ArePieces}
use Rattle.match_model.specs.RustTypes.{rust_set}
use Rattle.match_model.specs.Types.{MType, CharType, IntType}
use Rattle.match_model.proofs.Basics.{untrue, both, either, and_true, or_left, or_right}
use Rattle.number_kinds.specs.Literals.{is_literal_of}
use Rattle.witness_text.specs.Ranges.{begins_above_literals, ends_below_literals}
use Rattle.arm_laws.specs.LiteralEnds.{is_literal_end, has_literal_ends}
use Rattle.arm_laws.specs.Near.{IsNear, AreNear}
use Rattle.arm_laws.proofs.Bases.{IsOpenBeyond, IsOpenCtor}
use Rattle.arm_laws.proofs.Follows.{HasEnds, ends}
use Rattle.arm_laws.proofs.Meaning.{number_only}
use Rattle.arm_laws.proofs.Near.{heads_near, high_near, low_near, append_none}

-- ---- ranges do not end above every literal, nor begin below every one

abbrev pub IsBounded : MType → MCtor → Type 0
IsBounded (IntType kind) (NumbersCtor r) =
    (begins_above_literals kind r.high ≡ false) × (ends_below_literals kind r.low ≡ false)
IsBounded t c = ⊤

bounded_each : (width : Width) (kind : IntKind) (ps : List MRange) →
    Every (HasEnds (IsNear kind) (kind_range width kind).low (kind_range width kind).high) ps →
    (p : MCtor) → Among p (map NumbersCtor ps) → IsBounded (IntType kind) p
bounded_each width kind [] h p a = absurd a
bounded_each width kind (r ∷ ps) ((a, b, x), h) p (inl e) =
    subst (λ c. IsBounded (IntType kind) c) (sym e) (high_near width kind r.high b, low_near width kind r.low a)
bounded_each width kind (r ∷ ps) h p (inr a) = bounded_each width kind ps h.1 p a

-- the pieces of a column whose heads have near ends
pub bounded_piece : (program : MProgram) (t : MType) (heads pieces : List MCtor) (p : MCtor) →
    ArePieces (rust_set program t) heads pieces → Every (AreNear t) heads → Among p pieces → IsBounded t p
bounded_piece program (IntType kind) heads pieces p (ps, qs, c, d, e) h a =
    bounded_each program.width kind ps
    (ends (IsNear kind) c.together (λ n x y z. heads_near kind heads h n ((c.cut n x y).0 z))) p
    (subst (λ xs. Among p xs) (e ∙ append_none ps qs d) a)
bounded_piece program _ heads pieces p k h a = tt

-- ---- numbers of a type that lie neither above every literal nor below every one are literals

from_least : (least top z : ℤ) → (int_le least z && true) ≡ true → int_lt top z ≡ false →
    (int_le least z && int_le z top) ≡ true
from_least least top z h k = grind (arith, ints)

between : (least top z : ℤ) → int_lt top z ≡ false → int_lt z least ≡ false →
    (int_le least z && int_le z top) ≡ true
between least top z h k = grind (arith, ints)

literal_there : (width : Width) (kind : IntKind) (z : ℤ) → in_range (kind_range width kind) z ≡ true →
    begins_above_literals kind (At z) ≡ false → ends_below_literals kind (At z) ≡ false →
    is_literal_of width (IntType kind) z ≡ true
literal_there width kinds.U8 z h a b = or_left (in_range (unsigned_range 8) z) false h
literal_there width kinds.U16 z h a b = or_left (in_range (unsigned_range 16) z) false h
literal_there width kinds.U32 z h a b = or_left (in_range (unsigned_range 32) z) false h
literal_there width kinds.U64 z h a b = or_left (in_range (unsigned_range 64) z) false h
literal_there width kinds.U128 z h a b = or_left (in_range (unsigned_range 128) z) false h
literal_there width kinds.I8 z h a b = or_left (in_range (signed_range 8) z) false h
literal_there width kinds.I16 z h a b = or_left (in_range (signed_range 16) z) false h
literal_there width kinds.I32 z h a b = or_left (in_range (signed_range 32) z) false h
literal_there width kinds.I64 z h a b = or_left (in_range (signed_range 64) z) false h
literal_there width kinds.I128 z h a b = or_left (in_range (signed_range 128) z) false h
literal_there Endless kinds.USize z h a b =
    or_left (in_range (unsigned_range 64) z) false (from_least (pos 0) (pos (2 ^ 64 - 1)) z h a)
literal_there Bits16 kinds.USize z h a b = or_left (in_range (unsigned_range 16) z) false h
literal_there Bits32 kinds.USize z h a b = or_left (in_range (unsigned_range 32) z) false h
literal_there Bits64 kinds.USize z h a b = or_left (in_range (unsigned_range 64) z) false h
literal_there Endless kinds.ISize z h a b =
    or_left (in_range (signed_range 64) z) false (between (negsuc (2 ^ 63 - 1)) (pos (2 ^ 63 - 1)) z a b)
literal_there Bits16 kinds.ISize z h a b = or_left (in_range (signed_range 16) z) false h
literal_there Bits32 kinds.ISize z h a b = or_left (in_range (signed_range 32) z) false h
literal_there Bits64 kinds.ISize z h a b = or_left (in_range (signed_range 64) z) false h

-- ---- ends that a range of the type can have

one_of : (whole : MRange) (n : ℤ) → in_either whole None n ≡ true → in_range whole n ≡ true
one_of whole n h =
    elim (either (in_range whole n) (in_second None n) h) [
      | inl a ↦ a
      | inr b ↦ untrue b
    ]

int_end : (width : Width) (kind : IntKind) (free : Bool) (limit : ℤ) (e : MEnd) →
    end_belongs free limit (in_either (kind_range width kind) None) e ≡ true → begins_above_literals kind e ≡ false →
    ends_below_literals kind e ≡ false → is_literal_end width (IntType kind) e ≡ true
int_end width kind free limit Free h a b = refl
int_end width kind free limit (At n) h a b =
    let has = in_either (kind_range width kind) None in
    literal_there width kind n (one_of (kind_range width kind) n (both (has n) (not (free && int_eq n limit)) h).0) a b

ints_ended : (program : MProgram) (kind : IntKind) (r : MRange) →
    belongs (rust_set program (IntType kind)) (NumbersCtor r) ≡ true → IsOpenBeyond (IntType kind) r →
    IsBounded (IntType kind) (NumbersCtor r) → has_literal_ends program.width (IntType kind) r ≡ true
ints_ended program kind r h o n =
    let whole = kind_range program.width kind in
    let low = end_belongs (is_free whole.low) least_held (in_either whole None) r.low in
    let high = end_belongs (is_free whole.high) greatest_held (in_either whole None) r.high in
    let p = both low high h in
    and_true
    (cond (begins_above_literals kind r.low) (is_free r.high) (is_literal_end program.width (IntType kind) r.low))
    (cond (ends_below_literals kind r.high) (is_free r.low) (is_literal_end program.width (IntType kind) r.high))
    (low_side (begins_above_literals kind r.low) refl p.0) (high_side (ends_below_literals kind r.high) refl p.1)
  where
    low_side : (b : Bool) → begins_above_literals kind r.low ≡ b →
        end_belongs (is_free (kind_range program.width kind).low) least_held
        (in_either (kind_range program.width kind) None) r.low ≡ true →
        cond b (is_free r.high) (is_literal_end program.width (IntType kind) r.low) ≡ true
    low_side true e k = ap is_free (o.0 e)
    low_side false e k =
        int_end program.width kind (is_free (kind_range program.width kind).low) least_held r.low k e n.1

    high_side : (b : Bool) → ends_below_literals kind r.high ≡ b →
        end_belongs (is_free (kind_range program.width kind).high) greatest_held
        (in_either (kind_range program.width kind) None) r.high ≡ true →
        cond b (is_free r.low) (is_literal_end program.width (IntType kind) r.high) ≡ true
    high_side true e k = ap is_free (o.1 e)
    high_side false e k =
        int_end program.width kind (is_free (kind_range program.width kind).high) greatest_held r.high k n.0 e

-- the two ranges of characters
abbrev first_chars : MRange
first_chars = closed (pos 0) (pos 0xd7ff)

abbrev other_chars : MRange
other_chars = closed (pos 0xe000) (pos 0x10ffff)

char_end : (width : Width) (limit : ℤ) (e : MEnd) →
    end_belongs false limit (in_either first_chars (Some other_chars)) e ≡ true → is_literal_end width CharType e ≡ true
char_end width limit Free h = refl
char_end width limit (At n) h =
    let has = in_either first_chars (Some other_chars) in
    elim (either (in_range first_chars n) (in_second (Some other_chars) n)
    (both (has n) (not (false && int_eq n limit)) h).0) [
      | inl a ↦ or_left (in_range first_chars n) (in_range other_chars n || false) a
      | inr b ↦
          or_right (in_range first_chars n) (in_range other_chars n || false) (or_left (in_range other_chars n) false b)
    ]

numbers_ended : (program : MProgram) (t : MType) (r : MRange) → belongs (rust_set program t) (NumbersCtor r) ≡ true →
    IsOpenBeyond t r → IsBounded t (NumbersCtor r) → has_literal_ends program.width t r ≡ true
numbers_ended program CharType r h o n =
    let has = in_either first_chars (Some other_chars) in
    let p = both (end_belongs false least_held has r.low) (end_belongs false greatest_held has r.high) h in
    and_true (is_literal_end program.width CharType r.low) (is_literal_end program.width CharType r.high)
    (char_end program.width least_held r.low p.0) (char_end program.width greatest_held r.high p.1)
numbers_ended program (IntType kind) r h o n = ints_ended program kind r h o n
numbers_ended program t r h o n = absurd (number_only program t r h)

-- ---- pieces

-- the range of the constructor ends so
abbrev pub IsEnded : MProgram → MType → MCtor → Type 0
IsEnded program t (NumbersCtor r) = has_literal_ends program.width t r ≡ true
IsEnded program t c = ⊤

pub ended_piece : (program : MProgram) (t : MType) (p : MCtor) → belongs (rust_set program t) p ≡ true →
    IsOpenCtor t p → IsBounded t p → IsEnded program t p
ended_piece program t (NumbersCtor r) h o n = numbers_ended program t r h o n
ended_piece program t _ h o n = tt
