-- The patterns of ranges of numbers: their nodes pass the tests.
use Rattle.std.proofs.Common.{◌≡◌, ℕ, ℤ, pos, negsuc, ◌-◌, ◌^◌, Bool, true, false, List, [], Option, Some, None, refl}
use Rattle.std.proofs.Common.{sym, ap, ◌∙◌, arith, cond}
use Rattle.std.specs.Prelude.{⊤, int_le, int_lt, if◌then◌else◌}
use Rattle.std.proofs.lemmas.Int.{ints}
use Rattle.match_model.specs.declared.IntKind.{IntKind}
use Rattle.match_model.specs.declared.IntKind.TheVariants.{USize, ISize}
use Rattle.match_model.specs.declared.Mode.TheVariants.{Move}
use Rattle.match_model.specs.declared.Width.{Width}
use Rattle.match_model.specs.declared.Width.TheVariants.{Endless, Bits16, Bits32, Bits64}
use Rattle.match_model.specs.Constructors.{NumbersCtor, is_free, end_belongs, in_either, least_held, greatest_held}
use Rattle.match_model.specs.Constructors.{builds}
use Rattle.match_model.specs.Numbers.{MEnd, Free, At, MRange, ends_ascend, has_one_number, in_range, is_from}
use Rattle.match_model.specs.Numbers.{is_up_to, kind_range}
use Rattle.match_model.specs.OfType.{has_ctor}
use Rattle.match_model.specs.RustTypes.{rust_context}
use Rattle.match_model.specs.Texts.{is_scalar}
use Rattle.match_model.specs.Types.{MType, CharType, IntType}
use Rattle.match_model.specs.Values.{MValue, Num}
use Rattle.match_model.specs.Witness.{SpanOf, fits}
use Rattle.match_model.proofs.Basics.{both, and_true, untrue}
use Rattle.number_kinds.specs.Literals.{is_literal_of, has_no_number}
use Rattle.decl_syntax.specs.Patterns.{PatternTree, Char}
use Rattle.decl_syntax.specs.Patterns as patterns
use Rattle.pattern_rules.specs.Literals.{is_refused, end_refused, has_type, end_has_type, number_of, is_outside}
use Rattle.pattern_rules.specs.Literals.{end_outside, end_number}
use Rattle.pattern_rules.specs.NodeRules.{literal_fits}
use Rattle.pattern_rules.specs.Nodes.{Standing, Elsewhere, nodes}
use Rattle.pattern_rules.specs.Settings.{Setting, program, place}
use Rattle.pattern_laws.proofs.FineNodes.{AllNodes}
use Rattle.witness_text.specs.Arms.{is_one_char}
use Rattle.witness_text.specs.Ranges.{begins_above_literals, ends_below_literals}
use Rattle.witness_names.specs.Named.{numbers_tree}
use Rattle.witness_names.specs.Named as named
use Rattle.arm_maker.proofs.Typed.{IsOfType}
use Rattle.arm_laws.specs.LiteralEnds.{is_literal_end, has_literal_ends}
use Rattle.arm_laws.specs.Patterns.{number_literal, end_literal, char_end, range_shape, unplaced, grouped_shape}
use Rattle.arm_laws.specs.Patterns.{one_number, ints_shape, chars_shape, arm_shape}
use Rattle.arm_laws.specs.Takes.{greatest_of, range_taken}
use Rattle.arm_laws.proofs.FineTests.{PassesAll}
use Rattle.arm_laws.proofs.FineLeaves.{node_at, not_no, neither, wild, literal, group, range}

-- ---- literals

number_refused : (z : ℤ) → is_refused (number_literal z) ≡ false
number_refused (pos n) = refl
number_refused (negsuc n) = refl

number_typed : (z : ℤ) (kind : IntKind) → has_type (number_literal z) (IntType kind) ≡ true
number_typed (pos n) kind = refl
number_typed (negsuc n) kind = refl

number_fits : (z : ℤ) (kind : IntKind) → literal_fits (number_literal z) (IntType kind) (IntType kind) ≡ true
number_fits (pos n) kind = refl
number_fits (negsuc n) kind = refl

number_is : (z : ℤ) → number_of (number_literal z) ≡ Some z
number_is (pos n) = refl
number_is (negsuc n) = refl

number_inside : (width : Width) (kind : IntKind) (z : ℤ) → is_literal_of width (IntType kind) z ≡ true →
    is_outside width (IntType kind) (number_literal z) ≡ false
number_inside width kind (pos n) h = not_no (is_literal_of width (IntType kind) (pos n)) h
number_inside width kind (negsuc n) h = not_no (is_literal_of width (IntType kind) (negsuc n)) h

-- ---- ends

end_accepted : (e : MEnd) → end_refused (end_literal e) ≡ false
end_accepted Free = refl
end_accepted (At z) = number_refused z

end_typed : (e : MEnd) (kind : IntKind) → end_has_type (end_literal e) (IntType kind) ≡ true
end_typed Free kind = refl
end_typed (At z) kind = number_typed z kind

end_inside : (width : Width) (kind : IntKind) (e : MEnd) → is_literal_end width (IntType kind) e ≡ true →
    end_outside width (IntType kind) (end_literal e) ≡ false
end_inside width kind Free h = refl
end_inside width kind (At z) h = number_inside width kind z h

not_less : (a b : ℤ) → int_le a b ≡ true → int_lt b a ≡ false
not_less a b h = grind (arith, ints)

open_above : (width : Width) (t : MType) (z : ℤ) →
    has_no_number width t (number_of (number_literal z)) false None ≡ false
open_above width t (pos n) = refl
open_above width t (negsuc n) = refl

open_below : (width : Width) (t : MType) (z : ℤ) →
    has_no_number width t None true (number_of (number_literal z)) ≡ false
open_below width t (pos n) = refl
open_below width t (negsuc n) = refl

not_crossed : (width : Width) (t : MType) (a b : ℤ) → int_le a b ≡ true →
    has_no_number width t (number_of (number_literal a)) true (number_of (number_literal b)) ≡ false
not_crossed width t a b h =
    ap (λ x. has_no_number width t x true (number_of (number_literal b))) (number_is a)
    ∙ (ap (λ y. has_no_number width t (Some a) true y) (number_is b) ∙ not_less a b h)

-- ---- beyond the literals

top_literal : (width : Width) (kind : IntKind) → is_free (kind_range width kind).high ≡ true →
    is_literal_end width (IntType kind) (greatest_of kind) ≡ true
top_literal Endless USize h = refl
top_literal Endless ISize h = refl
top_literal Bits16 USize h = untrue h
top_literal Bits16 ISize h = untrue h
top_literal Bits32 USize h = untrue h
top_literal Bits32 ISize h = untrue h
top_literal Bits64 USize h = untrue h
top_literal Bits64 ISize h = untrue h
top_literal width kind h = untrue h

least_literal : (width : Width) (kind : IntKind) → is_free (kind_range width kind).low ≡ true →
    is_literal_end width (IntType kind) (At (negsuc (2 ^ 63 - 1))) ≡ true
least_literal Endless ISize h = refl
least_literal Bits16 ISize h = untrue h
least_literal Bits32 ISize h = untrue h
least_literal Bits64 ISize h = untrue h
least_literal Endless USize h = untrue h
least_literal Bits16 USize h = untrue h
least_literal Bits32 USize h = untrue h
least_literal Bits64 USize h = untrue h
least_literal width kind h = untrue h

free_end : (free : Bool) (limit : ℤ) (has : ℤ → Bool) (e : MEnd) → is_free e ≡ true →
    end_belongs free limit has e ≡ true → free ≡ true
free_end free limit has Free f h = h
free_end free limit has (At n) f h = untrue f

cond_is : (b c x y : Bool) → b ≡ c → cond b x y ≡ true → cond c x y ≡ true
cond_is b c x y e h = sym (ap (λ u. cond u x y) e) ∙ h

one_high : (low high : MEnd) → has_one_number (record { low = low; high = high }) ≡ true → is_free high ≡ false
one_high (At a) (At b) h = refl
one_high (At a) Free h = untrue h
one_high Free Free h = untrue h
one_high Free (At b) h = untrue h

ascend_free : (e : MEnd) → ends_ascend e Free ≡ true
ascend_free Free = refl
ascend_free (At z) = refl

between : (a b n : ℤ) → int_le a n ≡ true → int_le n b ≡ true → int_le a b ≡ true
between a b n h k = grind (arith, ints)

ascending : (low high : MEnd) (n : ℤ) → is_from low n ≡ true → is_up_to high n ≡ true → ends_ascend low high ≡ true
ascending Free Free n h k = refl
ascending Free (At b) n h k = refl
ascending (At a) Free n h k = refl
ascending (At a) (At b) n h k = between a b n h k

-- a number of the range
number_in : (r : MRange) (v : MValue) → builds [] (NumbersCtor r) v ≡ true → (n : ℤ) × (in_range r n ≡ true)
number_in r (Num n) h = (n, h)
number_in r v h = untrue h

-- ---- characters

-- the characters ascend, where there are two
abbrev CharsAscend : (low high : Option ℕ) → Type 0
CharsAscend None high = ⊤
CharsAscend (Some a) None = ⊤
CharsAscend (Some a) (Some b) = int_le (pos a) (pos b) ≡ true

none_ascends : (low : Option ℕ) → CharsAscend low None
none_ascends None = tt
none_ascends (Some a) = tt

scalars_ascend : (x y : Bool) (a b : ℕ) → int_le (pos a) (pos b) ≡ true →
    CharsAscend (if x then Some a else None) (if y then Some b else None)
scalars_ascend true true a b h = h
scalars_ascend true false a b h = tt
scalars_ascend false y a b h = tt

chars_ascend : (low high : MEnd) → ends_ascend low high ≡ true → CharsAscend (named.char_end low) (named.char_end high)
chars_ascend Free high h = tt
chars_ascend (At (negsuc a)) high h = tt
chars_ascend (At (pos a)) Free h = none_ascends (named.char_end (At (pos a)))
chars_ascend (At (pos a)) (At (negsuc b)) h = none_ascends (named.char_end (At (pos a)))
chars_ascend (At (pos a)) (At (pos b)) h = scalars_ascend (is_scalar a) (is_scalar b) a b h

module _ (s : Setting) where
  -- each node of the pattern, which stands so at the type by a move, passes the tests
  abbrev pub AllPass : Standing → List (List ℕ) → MType → PatternTree → Type 0
  AllPass st before t p = AllNodes (PassesAll s) (nodes s st before (place t Move) p)

  chars_inner : (before : List (List ℕ)) (low high : Option ℕ) → CharsAscend low high →
      AllPass Elsewhere before CharType (unplaced (range_shape (char_end low) (char_end high)))
  chars_inner before None None h = (wild s Elsewhere before CharType, tt)
  chars_inner before (Some a) None h =
      (range s before CharType (Some (Char a)) None false refl refl refl refl, tt)
  chars_inner before None (Some b) h =
      (range s before CharType None (Some (Char b)) true refl refl refl refl, tt)
  chars_inner before (Some a) (Some b) h =
      (range s before CharType (Some (Char a)) (Some (Char b)) true refl refl refl (not_less (pos a) (pos b) h), tt)

  chars_grouped : (st : Standing) (before : List (List ℕ)) (low high : Option ℕ) → CharsAscend low high →
      AllPass st before CharType (unplaced (grouped_shape (range_shape (char_end low) (char_end high))))
  chars_grouped st before low high h = (
    group s st before CharType (unplaced (range_shape (char_end low) (char_end high))),
    chars_inner before low high h,
  )

  chars_pass : (st : Standing) (before : List (List ℕ)) (one : Bool) (low high : Option ℕ) → CharsAscend low high →
      AllPass st before CharType (unplaced (chars_shape one low high))
  chars_pass st before true (Some c) high h = (literal s st before CharType (Char c) refl refl refl, tt)
  chars_pass st before true None high h = chars_grouped st before None high h
  chars_pass st before false low high h = chars_grouped st before low high h

  -- ---- numbers of an integer type

  ints_range : (before : List (List ℕ)) (kind : IntKind) (low high : MEnd) (closed : Bool) →
      is_literal_end s.width (IntType kind) low ≡ true → is_literal_end s.width (IntType kind) high ≡ true →
      has_no_number s.width (IntType kind) (end_number (end_literal low)) closed (end_number (end_literal high))
      ≡ false → PassesAll s (node_at Elsewhere before (IntType kind) (patterns.Range (end_literal low) (end_literal
      high) closed))
  ints_range before kind low high closed a b e =
      range s before (IntType kind) (end_literal low) (end_literal high) closed
      (neither (end_refused (end_literal low)) (end_refused (end_literal high)) (end_accepted low) (end_accepted high))
      (and_true (end_has_type (end_literal low) (IntType kind)) (end_has_type (end_literal high) (IntType kind))
      (end_typed low kind) (end_typed high kind))
      (neither (end_outside s.width (IntType kind) (end_literal low))
      (end_outside s.width (IntType kind) (end_literal high)) (end_inside s.width kind low a)
      (end_inside s.width kind high b)) e

  ints_inner : (before : List (List ℕ)) (kind : IntKind) (low high : MEnd) →
      is_literal_end s.width (IntType kind) low ≡ true → is_literal_end s.width (IntType kind) high ≡ true →
      ends_ascend low high ≡ true →
      AllPass Elsewhere before (IntType kind) (unplaced (range_shape (end_literal low) (end_literal high)))
  ints_inner before kind Free Free a b h = (wild s Elsewhere before (IntType kind), tt)
  ints_inner before kind (At x) Free a b h =
      (ints_range before kind (At x) Free false a b (open_above s.width (IntType kind) x), tt)
  ints_inner before kind Free (At y) a b h =
      (ints_range before kind Free (At y) true a b (open_below s.width (IntType kind) y), tt)
  ints_inner before kind (At x) (At y) a b h =
      (ints_range before kind (At x) (At y) true a b (not_crossed s.width (IntType kind) x y h), tt)

  ints_grouped : (st : Standing) (before : List (List ℕ)) (kind : IntKind) (low high : MEnd) →
      is_literal_end s.width (IntType kind) low ≡ true → is_literal_end s.width (IntType kind) high ≡ true →
      ends_ascend low high ≡ true →
      AllPass st before (IntType kind) (unplaced (grouped_shape (range_shape (end_literal low) (end_literal high))))
  ints_grouped st before kind low high a b h = (
    group s st before (IntType kind) (unplaced (range_shape (end_literal low) (end_literal high))),
    ints_inner before kind low high a b h,
  )

  ints_one : (st : Standing) (before : List (List ℕ)) (kind : IntKind) (e : MEnd) →
      is_literal_end s.width (IntType kind) e ≡ true → AllPass st before (IntType kind) (unplaced (one_number e))
  ints_one st before kind Free h = (wild s st before (IntType kind), tt)
  ints_one st before kind (At z) h = (
    literal s st before (IntType kind) (number_literal z) (number_refused z) (number_fits z kind)
        (number_inside s.width kind z h),
    tt,
  )

  -- a range of the type, whose ends are literals or lie beyond them
  module _ (kind : IntKind) (r : MRange)
      (has : has_ctor (rust_context (program s)) (IntType kind) (NumbersCtor r) ≡ true)
      (ends : has_literal_ends s.width (IntType kind) r ≡ true) where
    belonging : (end_belongs (is_free (kind_range s.width kind).low) least_held
        (in_either (kind_range s.width kind) None) r.low ≡ true)
        × (end_belongs (is_free (kind_range s.width kind).high) greatest_held
        (in_either (kind_range s.width kind) None) r.high ≡ true)
    belonging = both (end_belongs (is_free (kind_range s.width kind).low) least_held
        (in_either (kind_range s.width kind) None) r.low)
        (end_belongs (is_free (kind_range s.width kind).high) greatest_held
        (in_either (kind_range s.width kind) None) r.high) has

    two : (cond (begins_above_literals kind r.low) (is_free r.high) (is_literal_end s.width (IntType kind) r.low)
        ≡ true)
        × (cond (ends_below_literals kind r.high) (is_free r.low) (is_literal_end s.width (IntType kind) r.high) ≡ true)
    two = both
        (cond (begins_above_literals kind r.low) (is_free r.high) (is_literal_end s.width (IntType kind) r.low))
        (cond (ends_below_literals kind r.high) (is_free r.low) (is_literal_end s.width (IntType kind) r.high)) ends

    low_by : (a : Bool) → begins_above_literals kind r.low ≡ a →
        cond a (is_free r.high) (is_literal_end s.width (IntType kind) r.low) ≡ true
    low_by a e = cond_is (begins_above_literals kind r.low) a (is_free r.high)
        (is_literal_end s.width (IntType kind) r.low) e two.0

    high_by : (a : Bool) → ends_below_literals kind r.high ≡ a →
        cond a (is_free r.low) (is_literal_end s.width (IntType kind) r.high) ≡ true
    high_by a e = cond_is (ends_below_literals kind r.high) a (is_free r.low)
        (is_literal_end s.width (IntType kind) r.high) e two.1

    one_literal : (a : Bool) → begins_above_literals kind r.low ≡ a → has_one_number r ≡ true →
        is_literal_end s.width (IntType kind) r.low ≡ true
    one_literal true e h = untrue (sym (one_high r.low r.high h) ∙ low_by true e)
    one_literal false e h = low_by false e

    several_pass : (st : Standing) (before : List (List ℕ)) (a b : Bool) → begins_above_literals kind r.low ≡ a →
        ends_below_literals kind r.high ≡ b → ends_ascend r.low r.high ≡ true →
        AllPass st before (IntType kind) (unplaced (ints_shape false
        (if a then record { low = greatest_of kind; high = Free }
        else (if b then record { low = Free; high = At (negsuc (2 ^ 63 - 1)) } else r))))
    several_pass st before true b e d h =
        ints_grouped st before kind (greatest_of kind) Free
        (top_literal s.width kind (free_end (is_free (kind_range s.width kind).high) greatest_held
        (in_either (kind_range s.width kind) None) r.high (low_by true e) belonging.1)) refl
        (ascend_free (greatest_of kind))
    several_pass st before false true e d h =
        ints_grouped st before kind Free (At (negsuc (2 ^ 63 - 1))) refl
        (least_literal s.width kind (free_end (is_free (kind_range s.width kind).low) least_held
        (in_either (kind_range s.width kind) None) r.low (high_by true d) belonging.0)) refl
    several_pass st before false false e d h =
        ints_grouped st before kind r.low r.high (low_by false e) (high_by false d) h

    ints_by : (st : Standing) (before : List (List ℕ)) (one : Bool) → has_one_number r ≡ one →
        ends_ascend r.low r.high ≡ true →
        AllPass st before (IntType kind) (unplaced (ints_shape one (if one then r else range_taken kind r)))
    ints_by st before true e h =
        ints_one st before kind r.low (one_literal (begins_above_literals kind r.low) refl e)
    ints_by st before false e h =
        several_pass st before (begins_above_literals kind r.low) (ends_below_literals kind r.high) refl refl h

  pub span_pass : (t : MType) (r : MRange) (v : MValue) → IsOfType (program s) t (SpanOf r) →
      has_literal_ends s.width t r ≡ true → fits (SpanOf r) v ≡ true → (st : Standing) (before : List (List ℕ)) →
      AllPass st before t (unplaced (arm_shape (numbers_tree t r)))
  span_pass CharType r v d l f st before =
      let n = number_in r v f in
      let held = both (is_from r.low n.0) (is_up_to r.high n.0) n.1 in
      chars_pass st before (is_one_char (named.char_end r.low) (named.char_end r.high)) (named.char_end r.low)
      (named.char_end r.high) (chars_ascend r.low r.high (ascending r.low r.high n.0 held.0 held.1))
  span_pass (IntType kind) r v d l f st before =
      let n = number_in r v f in
      let held = both (is_from r.low n.0) (is_up_to r.high n.0) n.1 in
      ints_by kind r d l st before (has_one_number r) refl (ascending r.low r.high n.0 held.0 held.1)
  span_pass t r v d l f st before = (wild s st before t, tt)
