-- The characters of the texts of arms, and the bytes that they take.
use Rattle.std.proofs.Common.{◌≡◌, ℕ, ℤ, pos, negsuc, suc, ◌<◌, Bool, true, false, List, [], ◌∷◌, ◌++◌, chars, codes}
use Rattle.std.proofs.Common.{Option, Some, None, encode_utf8_all, refl, subst, ◌∙◌, arith}
use Rattle.std.specs.Prelude.{decimal, nat_lt, nat_eq, if◌then◌else◌}
use lib.Utf8.{scalar, scalars}
use Rattle.std.specs.Char.{is_digit}
use Rattle.std.specs.List.{list_all}
use Rattle.std.specs.Ordering.{int_eq}
use Rattle.std.specs.Fmt.{signed_decimal}
use Rattle.std.proofs.Math.Utf8.{low_scalar}
use Rattle.std.proofs.lemmas.Bool.Decides.{nat_tests}
use Rattle.std.proofs.lemmas.Str.{encodes-append, encodes-IsAscii, chars-encodes}
use Rattle.decl_lexer.specs.Written.{written_name}
use Rattle.match_model.specs.declared.IntKind.{IntKind}
use Rattle.match_model.specs.declared.IntKind.TheVariants.{ISize}
use Rattle.match_model.specs.Numbers.{MEnd, Free, At, MRange, has_one_number}
use Rattle.witness_text.specs.Arms.{grouped, from_greatest, up_to_least, several_text, arm_ints, is_one_char}
use Rattle.witness_text.specs.Arms.{arm_chars}
use Rattle.witness_text.specs.Literals.{char_literal, string_literal}
use Rattle.witness_text.specs.Ranges.{numbers_text, chars_text, begins_above_literals, ends_below_literals}
use Rattle.witness_text.specs.Texts.{name_text, flag_text, joined, tuple_end, tuple_text, bracketed, braced}
use Rattle.witness_text.specs.Texts.{field_text}
use Rattle.witness_text.specs.Texts.{rest_texts, row_text, text_of, point_text, arm_text, parts_by, fields_by}
use Rattle.witness_text.specs.declared.named.Style.TheVariants.{Arm}
use Rattle.witness_text.specs.Trees.{NameTree, PlainName, WitnessTree, Anything, Undeclared, OfFlag, OfInts}
use Rattle.witness_text.specs.Trees.{OfChars, OfText, OfOthers, OfTuple, OfUnitForm, OfTupleForm, OfBraceForm, OfPoint}
use Rattle.witness_text.specs.Trees.{OfRow, WitnessTrees, no_trees, more_trees, FieldTrees, no_fields, more_fields}
use Rattle.value_syntax.specs.Trees as values
use Rattle.value_syntax.specs.Canonical.{IsName, IsFormName}
use Rattle.value_syntax.proofs.Characters.{form_chars, field_chars}
use Rattle.value_syntax.proofs.LexedNames.{name_chars, and_left, and_right}
use Rattle.value_syntax.proofs.LexedNumbers.{decimal_digits}
use Rattle.value_syntax.proofs.Encoded.{Encodes, EncodesAll, nothing_more, one_more, all_ascii, ascii_bytes}
use Rattle.value_syntax.proofs.Encoded.{value_encodes}
use Rattle.arm_laws.specs.Spellable.{IsScalarEnd, IsSpellable, AreSpellable, AreSpellableFields}

abbrev mutual
  -- the characters of an arm's text
  pub tree_chars : WitnessTree → List ℕ
  tree_chars (OfFlag b) = flag_text b
  tree_chars (OfInts kind r) = arm_ints kind r
  tree_chars (OfChars low high) = arm_chars low high
  tree_chars (OfText t) = codes "*" ++ string_literal t
  tree_chars (OfTuple ws) = tuple_text (trees_chars ws)
  tree_chars (OfUnitForm name) = form_chars name
  tree_chars (OfTupleForm name ws) = form_chars name ++ bracketed (trees_chars ws)
  tree_chars (OfBraceForm name fs) = form_chars name ++ braced (all_field_chars fs)
  tree_chars (OfPoint mutable w) = point_text mutable (text_of w) (tree_chars w)
  tree_chars (OfRow front longer back) = row_text (trees_chars front) longer (trees_chars back)
  tree_chars _ = codes "_"

  -- each of a list
  pub trees_chars : WitnessTrees → List (List ℕ)
  trees_chars no_trees = []
  trees_chars (more_trees w ws) = tree_chars w ∷ trees_chars ws

  -- each field
  pub all_field_chars : FieldTrees → List (List ℕ)
  all_field_chars no_fields = []
  all_field_chars (more_fields name w fs) = field_chars name (tree_chars w) ∷ all_field_chars fs

-- ---- characters that take bytes

scalars_append : (xs ys : List ℕ) → scalars xs ≡ true → scalars ys ≡ true → scalars (xs ++ ys) ≡ true
scalars_append [] ys h k = k
scalars_append (x ∷ xs) ys h k = rw (and_left (scalar x) (scalars xs) h)
    (scalars_append xs ys (and_right (scalar x) (scalars xs) h) k)

both : (xs ys bs ds : List ℕ) → Encodes xs bs → Encodes ys ds → Encodes (xs ++ ys) (bs ++ ds)
both xs ys bs ds h k = (scalars_append xs ys h.0 k.0, encodes-append xs ys ∙ rw (h.1, k.1) refl)

ascii_scalars : (bs : List ℕ) → all_ascii bs ≡ true → scalars bs ≡ true
ascii_scalars [] h = refl
ascii_scalars (b ∷ bs) h =
    let e = and_left (nat_lt b 128) (all_ascii bs) h in
    let lt : b < 128 = grind (arith, nat_tests) in
    rw (low_scalar b (omega (arith, lt))) (ascii_scalars bs (and_right (nat_lt b 128) (all_ascii bs) h))

pub itself : (bs : List ℕ) → all_ascii bs ≡ true → Encodes bs bs
itself bs h = (ascii_scalars bs h, encodes-IsAscii bs (ascii_bytes bs h))

-- joined texts between two others
between : (front cs bs cend bend : List ℕ) → all_ascii front ≡ true → Encodes cs bs → Encodes cend bend
    → Encodes (front ++ (cs ++ cend)) (front ++ (bs ++ bend))
between front cs bs cend bend a e f = both front (cs ++ cend) front (bs ++ bend) (itself front a)
    (both cs cend bs bend e f)

-- ---- leaves

flag_encodes : (b : Bool) → Encodes (flag_text b) (flag_text b)
flag_encodes true = itself (codes "true") refl
flag_encodes false = itself (codes "false") refl

char_encodes : (c : ℕ) → scalar c ≡ true → Encodes (char_literal c) (char_literal c)
char_encodes c e = value_encodes (values.WrittenChar c) e

digit_ascii : (c : ℕ) → is_digit c 10 ≡ true → nat_lt c 128 ≡ true
digit_ascii c e = grind (arith, nat_tests)

digits_ascii : (cs : List ℕ) → list_all (λ c. is_digit c 10) cs ≡ true → all_ascii cs ≡ true
digits_ascii [] h = refl
digits_ascii (c ∷ cs) h =
    rw (digit_ascii c (and_left (is_digit c 10) (list_all (λ x. is_digit x 10) cs) h))
    (digits_ascii cs (and_right (is_digit c 10) (list_all (λ x. is_digit x 10) cs) h))

decimal_encodes : (n : ℕ) → Encodes (decimal n) (decimal n)
decimal_encodes n = itself (decimal n) (digits_ascii (decimal n) (decimal_digits n))

number_encodes : (z : ℤ) → Encodes (signed_decimal z) (signed_decimal z)
number_encodes (pos n) = decimal_encodes n
number_encodes (negsuc n) = both (45 ∷ []) (decimal (suc n)) (45 ∷ []) (decimal (suc n)) (itself (45 ∷ []) refl)
    (decimal_encodes (suc n))

string_encodes : (cs : List ℕ) → scalars cs ≡ true → Encodes (string_literal cs) (string_literal cs)
string_encodes cs e =
    let bytes = encode_utf8_all cs in
    let same : chars bytes ≡ cs = chars-encodes cs e in
    let r = value_encodes (values.WrittenStr bytes) (cs, (e, refl)) in
    subst (λ xs. Encodes (string_literal xs) (string_literal xs)) same r

grouped_encodes : (cs : List ℕ) → Encodes cs cs → Encodes (grouped cs) (grouped cs)
grouped_encodes cs e = between (codes "(") cs cs (codes ")") (codes ")") refl e (itself (codes ")") refl)

ends_encode : (xs ys : List ℕ) → Encodes xs xs → Encodes ys ys
    → Encodes (xs ++ (codes "..=" ++ ys)) (xs ++ (codes "..=" ++ ys))
ends_encode xs ys e f = both xs (codes "..=" ++ ys) xs (codes "..=" ++ ys) e
    (both (codes "..=") ys (codes "..=") ys (itself (codes "..=") refl) f)

open_encodes : (xs : List ℕ) → Encodes xs xs → Encodes (xs ++ codes "..") (xs ++ codes "..")
open_encodes xs e = both xs (codes "..") xs (codes "..") e (itself (codes "..") refl)

up_encodes : (ys : List ℕ) → Encodes ys ys → Encodes (codes "..=" ++ ys) (codes "..=" ++ ys)
up_encodes ys e = both (codes "..=") ys (codes "..=") ys (itself (codes "..=") refl) e

-- one of two texts
either_encodes : (b : Bool) (xs ys : List ℕ) → Encodes xs xs → Encodes ys ys
    → Encodes (if b then xs else ys) (if b then xs else ys)
either_encodes true xs ys e f = e
either_encodes false xs ys e f = f

numbers_encode : (low high : MEnd) → Encodes (numbers_text low high) (numbers_text low high)
numbers_encode Free Free = itself (codes "_") refl
numbers_encode Free (At b) = up_encodes (signed_decimal b) (number_encodes b)
numbers_encode (At a) Free = open_encodes (signed_decimal a) (number_encodes a)
numbers_encode (At a) (At b) =
    either_encodes (int_eq a b) (signed_decimal a) (signed_decimal a ++ (codes "..=" ++ signed_decimal b))
    (number_encodes a) (ends_encode (signed_decimal a) (signed_decimal b) (number_encodes a) (number_encodes b))

greatest_encodes : (kind : IntKind) → Encodes (from_greatest kind) (from_greatest kind)
greatest_encodes ISize = itself (codes "9223372036854775807..") refl
greatest_encodes _ = itself (codes "18446744073709551615..") refl

several_encode : (kind : IntKind) (r : MRange) → Encodes (several_text kind r) (several_text kind r)
several_encode kind r =
    let rest : List ℕ = if ends_below_literals kind r.high then up_to_least else numbers_text r.low r.high in
    either_encodes (begins_above_literals kind r.low) (from_greatest kind) rest (greatest_encodes kind)
    (either_encodes (ends_below_literals kind r.high) up_to_least (numbers_text r.low r.high)
    (itself up_to_least refl) (numbers_encode r.low r.high))

ints_encode : (kind : IntKind) (r : MRange) → Encodes (arm_ints kind r) (arm_ints kind r)
ints_encode kind r =
    either_encodes (has_one_number r) (numbers_text r.low r.high) (grouped (several_text kind r))
    (numbers_encode r.low r.high) (grouped_encodes (several_text kind r) (several_encode kind r))

chars_text_encodes : (low high : Option ℕ) → IsScalarEnd low → IsScalarEnd high
    → Encodes (chars_text low high) (chars_text low high)
chars_text_encodes None None e f = itself (codes "_") refl
chars_text_encodes None (Some b) e f = up_encodes (char_literal b) (char_encodes b f)
chars_text_encodes (Some a) None e f = open_encodes (char_literal a) (char_encodes a e)
chars_text_encodes (Some a) (Some b) e f =
    either_encodes (nat_eq a b) (char_literal a) (char_literal a ++ (codes "..=" ++ char_literal b))
    (char_encodes a e) (ends_encode (char_literal a) (char_literal b) (char_encodes a e) (char_encodes b f))

chars_encode : (low high : Option ℕ) → IsScalarEnd low → IsScalarEnd high
    → Encodes (arm_chars low high) (arm_chars low high)
chars_encode low high e f =
    let plain = chars_text_encodes low high e f in
    either_encodes (is_one_char low high) (chars_text low high) (grouped (chars_text low high)) plain
    (grouped_encodes (chars_text low high) plain)

-- ---- names and lists

form_encodes : (name : NameTree) → IsFormName name → Encodes (form_chars name) (name_text name)
form_encodes name n = value_encodes (values.WrittenUnitForm name) n

name_encodes : (name : List ℕ) → IsName name → Encodes (name_chars name) (written_name name)
unfolding name_text
name_encodes name n = form_encodes (PlainName name) n

field_encodes : (name cs bs : List ℕ) → IsName name → Encodes cs bs
    → Encodes (field_chars name cs) (field_text name bs)
unfolding field_text
field_encodes name cs bs n e =
    both (name_chars name) (codes ": " ++ cs) (written_name name) (codes ": " ++ bs) (name_encodes name n)
    (both (codes ": ") cs (codes ": ") bs (itself (codes ": ") refl) e)

joined_encodes : (css bss : List (List ℕ)) → EncodesAll css bss → Encodes (joined css) (joined bss)
joined_encodes _ _ nothing_more = itself [] refl
joined_encodes _ _ (one_more cs bs _ _ e nothing_more) = e
joined_encodes _ _ (one_more cs bs _ _ e (one_more ds fs css bss f g)) =
    both cs (codes ", " ++ joined (ds ∷ css)) bs (codes ", " ++ joined (fs ∷ bss)) e
    (both (codes ", ") (joined (ds ∷ css)) (codes ", ") (joined (fs ∷ bss)) (itself (codes ", ") refl)
    (joined_encodes _ _ (one_more ds fs css bss f g)))

end_encodes : (css bss : List (List ℕ)) → EncodesAll css bss → Encodes (tuple_end css) (tuple_end bss)
end_encodes _ _ nothing_more = itself (codes ")") refl
end_encodes _ _ (one_more cs bs _ _ e nothing_more) = itself (codes ",)") refl
end_encodes _ _ (one_more cs bs _ _ e (one_more ds fs css bss f g)) = itself (codes ")") refl

braced_encodes : (css bss : List (List ℕ)) → EncodesAll css bss → Encodes (braced css) (braced bss)
braced_encodes _ _ nothing_more = itself (codes " {}") refl
braced_encodes _ _ (one_more cs bs css bss e f) =
    between (codes " { ") (joined (cs ∷ css)) (joined (bs ∷ bss)) (codes " }") (codes " }") refl
    (joined_encodes _ _ (one_more cs bs css bss e f)) (itself (codes " }") refl)

both_lists : (css bss dss ess : List (List ℕ)) → EncodesAll css bss → EncodesAll dss ess
    → EncodesAll (css ++ dss) (bss ++ ess)
both_lists _ _ dss ess nothing_more f = f
both_lists _ _ dss ess (one_more cs bs css bss e others) f =
    one_more cs bs (css ++ dss) (bss ++ ess) e (both_lists css bss dss ess others f)

rest_encodes : (longer : Bool) → EncodesAll (rest_texts longer) (rest_texts longer)
rest_encodes true = one_more (codes "..") (codes "..") [] [] (itself (codes "..") refl) nothing_more
rest_encodes false = nothing_more

row_encodes : (fs gs bs cs : List (List ℕ)) (longer : Bool) → EncodesAll fs gs → EncodesAll bs cs
    → Encodes (row_text fs longer bs) (row_text gs longer cs)
row_encodes fs gs bs cs longer e f =
    let all = both_lists fs gs (rest_texts longer ++ bs) (rest_texts longer ++ cs) e
    (both_lists (rest_texts longer) (rest_texts longer) bs cs (rest_encodes longer) f) in
    between (codes "[") (joined (fs ++ (rest_texts longer ++ bs))) (joined (gs ++ (rest_texts longer ++ cs)))
    (codes "]") (codes "]") refl (joined_encodes _ _ all) (itself (codes "]") refl)

point_encodes : (mutable : Bool) (literal : Option (List ℕ)) (cs bs : List ℕ)
    → ((t : List ℕ) → literal ≡ Some t → scalars t ≡ true) → Encodes cs bs
    → Encodes (point_text mutable literal cs) (point_text mutable literal bs)
point_encodes true literal cs bs s e = both (codes "&mut ") cs (codes "&mut ") bs (itself (codes "&mut ") refl) e
point_encodes false (Some t) cs bs s e = string_encodes t (s t refl)
point_encodes false None cs bs s e = both (codes "&") cs (codes "&") bs (itself (codes "&") refl) e

-- the text of a witness is Unicode
pub text_scalars : (w : WitnessTree) → IsSpellable w → (t : List ℕ) → text_of w ≡ Some t → scalars t ≡ true
text_scalars (OfText u) s t e = let same : u ≡ t = cc in subst (λ xs. scalars xs ≡ true) same s
text_scalars _ s t e = absurd cc

mutual
  pub tree_encodes : (w : WitnessTree) → IsSpellable w → Encodes (tree_chars w) (arm_text w)
  tree_encodes Anything s = itself (codes "_") refl
  tree_encodes Undeclared s = itself (codes "_") refl
  tree_encodes (OfFlag b) s = flag_encodes b
  tree_encodes (OfInts kind r) s = ints_encode kind r
  tree_encodes (OfChars low high) s = chars_encode low high s.0 s.1
  tree_encodes (OfText t) s = both (codes "*") (string_literal t) (codes "*") (string_literal t)
      (itself (codes "*") refl) (string_encodes t s)
  tree_encodes (OfOthers ts) s = itself (codes "_") refl
  tree_encodes (OfTuple ws) s =
      let e = trees_encode ws s in
      between (codes "(") (joined (trees_chars ws)) (joined (parts_by Arm ws)) (tuple_end (trees_chars ws))
      (tuple_end (parts_by Arm ws)) refl (joined_encodes _ _ e) (end_encodes _ _ e)
  tree_encodes (OfUnitForm name) s = form_encodes name s
  tree_encodes (OfTupleForm name ws) s =
      both (form_chars name) (bracketed (trees_chars ws)) (name_text name) (bracketed (parts_by Arm ws))
      (form_encodes name s.0)
      (between (codes "(") (joined (trees_chars ws)) (joined (parts_by Arm ws)) (codes ")") (codes ")") refl
      (joined_encodes _ _ (trees_encode ws s.1)) (itself (codes ")") refl))
  tree_encodes (OfBraceForm name fs) s =
      both (form_chars name) (braced (all_field_chars fs)) (name_text name) (braced (fields_by Arm fs))
      (form_encodes name s.0) (braced_encodes _ _ (fields_encode fs s.1))
  tree_encodes (OfPoint mutable w) s =
      point_encodes mutable (text_of w) (tree_chars w) (arm_text w) (text_scalars w s) (tree_encodes w s)
  tree_encodes (OfRow front longer back) s =
      row_encodes (trees_chars front) (parts_by Arm front) (trees_chars back) (parts_by Arm back) longer
      (trees_encode front s.0) (trees_encode back s.1)

  pub trees_encode : (ws : WitnessTrees) → AreSpellable ws → EncodesAll (trees_chars ws) (parts_by Arm ws)
  trees_encode no_trees s = nothing_more
  trees_encode (more_trees w ws) s = one_more (tree_chars w) (arm_text w) (trees_chars ws) (parts_by Arm ws)
      (tree_encodes w s.0) (trees_encode ws s.1)

  pub fields_encode : (fs : FieldTrees) → AreSpellableFields fs → EncodesAll (all_field_chars fs) (fields_by Arm fs)
  fields_encode no_fields s = nothing_more
  fields_encode (more_fields name w fs) s =
      one_more (field_chars name (tree_chars w)) (field_text name (arm_text w)) (all_field_chars fs) (fields_by Arm fs)
      (field_encodes name (tree_chars w) (arm_text w) s.0 (tree_encodes w s.1)) (fields_encode fs s.2)
