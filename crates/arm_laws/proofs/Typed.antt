-- A witness of a type with its names has a text that is a pattern.
use Rattle.std.proofs.Common.{◌≡◌, ℕ, ℤ, pos, negsuc, zero, suc, ◌-◌, ◌<◌, ◌^◌, Bool, true, false, ◌&&◌, ◌||◌, cond}
use Rattle.std.proofs.Common.{List, [], ◌∷◌, Option, Some, None, refl, arith, length}
use Rattle.std.specs.Prelude.{slice_get, nat_eq, nat_le, int_le}
use Rattle.std.specs.List.{list_all}
use Rattle.std.proofs.lemmas.Bool.Decides.{nat_tests}
use lib.Utf8.{scalar, scalars}
use Rattle.match_model.specs.declared.Width.{Width}
use Rattle.match_model.specs.declared.Width.TheVariants.{Endless, Bits16, Bits32, Bits64}
use Rattle.match_model.specs.declared.IntKind.{IntKind}
use Rattle.match_model.specs.declared.IntKind.TheVariants.{U8, U16, U32, U64, U128, USize, I8, I16, I32, I64, I128}
use Rattle.match_model.specs.declared.IntKind.TheVariants.{ISize}
use Rattle.match_model.specs.Constructors.{MSet, TextSet, TextCtor, PointCtor, RowCtor, belongs, is_free}
use Rattle.match_model.specs.Contexts.{Context}
use Rattle.match_model.specs.Declarations.{MField, MForm, UnitForm, TupleForm, BraceForm, MVariant, MItem}
use Rattle.match_model.specs.Declarations.{StructItem, EnumItem, OtherItem, MProgram, variants_of, node_types}
use Rattle.match_model.specs.Numbers.{MEnd, Free, At, MRange, in_range, has_one_number, closed}
use Rattle.match_model.specs.RustTypes.{rust_context, inner_type}
use Rattle.match_model.specs.OfType.{node_ctor, has_ctor, witness_is_of, witnesses_are_of}
use Rattle.match_model.specs.Texts.{is_scalar}
use Rattle.match_model.specs.Types.{DeclaredItem, OptionOwner, ResultOwner, MType, CharType, IntType, TupleType}
use Rattle.match_model.specs.Types.{PointType, SliceType, ArrayType, NamedType}
use Rattle.match_model.specs.Witness.{MWitness, AnyOf, LaterOf, FlagOf, SpanOf, TextOf, ElseOf, NodeOf, PointOf}
use Rattle.match_model.specs.Witness.{RowOf, MWitnesses, no_witnesses, more_witnesses, witnesses_list, slice_shape}
use Rattle.match_model.specs.Witness.{back_is_allowed}
use Rattle.number_kinds.specs.Literals.{is_literal_of}
use Rattle.value_syntax.specs.Canonical.{IsName, IsFormName}
use Rattle.value_syntax.proofs.LexedNames.{and_left, and_right}
use Rattle.witness_text.specs.Ranges.{begins_above_literals, ends_below_literals}
use Rattle.witness_text.specs.Trees.{NameTree, WitnessTree, trees_of, fields_of}
use Rattle.witness_names.specs.declared.paths.Paths.TheVariants.{Whole}
use Rattle.witness_names.specs.Named.{char_end, declared_name, name_by, named_fields, form_tree, variant_tree}
use Rattle.witness_names.specs.Named.{node_tree, point_tree, row_tree, types_there, named_by, parts_by, items_by}
use Rattle.witness_names.specs.Named.{numbers_tree}
use Rattle.arm_laws.specs.LiteralEnds.{is_literal_end, has_literal_ends, literal_ends, parts_literal, items_literal}
use Rattle.file_names.specs.Named.{AreFieldNames, IsNamedForm, AreNames}
use Rattle.file_names.proofs.BuiltIn.{option_name, result_name}
use Rattle.file_names.proofs.Variants.{IsOwnerNamed, IsTypeNamed, type_named, variant_named}
use Rattle.arm_laws.specs.Patterns.{range_written}
use Rattle.arm_laws.specs.Spellable.{IsShortEnd, IsScalarEnd, IsSpellable, AreSpellable, AreSpellableFields}
use Rattle.arm_laws.specs.Takes.{range_taken, greatest_of}

-- ---- numbers

unsigned_short : (top : ℕ) (z : ℤ) → top < 2 ^ 128 → in_range (closed (pos 0) (pos top)) z ≡ true → IsShortEnd (At z)
unsigned_short top (pos n) lt e =
    let le : nat_le n top ≡ true = and_right (int_le (pos 0) (pos n)) (int_le (pos n) (pos top)) e in
    grind (arith, nat_tests)
unsigned_short top (negsuc n) lt e = absurd cc

signed_short : (bottom top : ℕ) (z : ℤ) → suc bottom < 2 ^ 128 → top < 2 ^ 128
    → in_range (closed (negsuc bottom) (pos top)) z ≡ true → IsShortEnd (At z)
signed_short bottom top (pos n) lt gt e =
    let le : nat_le n top ≡ true = and_right (int_le (negsuc bottom) (pos n)) (int_le (pos n) (pos top)) e in
    grind (arith, nat_tests)
signed_short bottom top (negsuc n) lt gt e =
    let le : nat_le n bottom ≡ true = and_left (int_le (negsuc bottom) (negsuc n)) (int_le (negsuc n) (pos top)) e in
    grind (arith, nat_tests)

or_none : (b : Bool) → (b || false) ≡ true → b ≡ true
or_none true e = refl
or_none false e = absurd cc

-- the numbers of unsigned kinds and of signed ones
kind_short : (width : Width) (kind : IntKind) (z : ℤ) → is_literal_of width (IntType kind) z ≡ true → IsShortEnd (At z)
kind_short width U8 z e = unsigned_short (2 ^ 8 - 1) z (omega arith) (or_none _ e)
kind_short width U16 z e = unsigned_short (2 ^ 16 - 1) z (omega arith) (or_none _ e)
kind_short width U32 z e = unsigned_short (2 ^ 32 - 1) z (omega arith) (or_none _ e)
kind_short width U64 z e = unsigned_short (2 ^ 64 - 1) z (omega arith) (or_none _ e)
kind_short width U128 z e = unsigned_short (2 ^ 128 - 1) z (omega arith) (or_none _ e)
kind_short Endless USize z e = unsigned_short (2 ^ 64 - 1) z (omega arith) (or_none _ e)
kind_short Bits16 USize z e = unsigned_short (2 ^ 16 - 1) z (omega arith) (or_none _ e)
kind_short Bits32 USize z e = unsigned_short (2 ^ 32 - 1) z (omega arith) (or_none _ e)
kind_short Bits64 USize z e = unsigned_short (2 ^ 64 - 1) z (omega arith) (or_none _ e)
kind_short width I8 z e = signed_short (2 ^ 7 - 1) (2 ^ 7 - 1) z (omega arith) (omega arith) (or_none _ e)
kind_short width I16 z e = signed_short (2 ^ 15 - 1) (2 ^ 15 - 1) z (omega arith) (omega arith) (or_none _ e)
kind_short width I32 z e = signed_short (2 ^ 31 - 1) (2 ^ 31 - 1) z (omega arith) (omega arith) (or_none _ e)
kind_short width I64 z e = signed_short (2 ^ 63 - 1) (2 ^ 63 - 1) z (omega arith) (omega arith) (or_none _ e)
kind_short width I128 z e = signed_short (2 ^ 127 - 1) (2 ^ 127 - 1) z (omega arith) (omega arith) (or_none _ e)
kind_short Endless ISize z e = signed_short (2 ^ 63 - 1) (2 ^ 63 - 1) z (omega arith) (omega arith) (or_none _ e)
kind_short Bits16 ISize z e = signed_short (2 ^ 15 - 1) (2 ^ 15 - 1) z (omega arith) (omega arith) (or_none _ e)
kind_short Bits32 ISize z e = signed_short (2 ^ 31 - 1) (2 ^ 31 - 1) z (omega arith) (omega arith) (or_none _ e)
kind_short Bits64 ISize z e = signed_short (2 ^ 63 - 1) (2 ^ 63 - 1) z (omega arith) (omega arith) (or_none _ e)

end_short : (width : Width) (kind : IntKind) (end : MEnd) → is_literal_end width (IntType kind) end ≡ true
    → IsShortEnd end
end_short width kind Free e = tt
end_short width kind (At z) e = kind_short width kind z e

abbrev IsShortRange : MRange → Type 0
IsShortRange r = IsShortEnd r.low × IsShortEnd r.high

greatest_short : (kind : IntKind) → IsShortEnd (greatest_of kind)
greatest_short ISize = omega arith
greatest_short _ = omega arith

-- a range that is open on a side has more numbers than one
open_above : (low high : MEnd) → is_free high ≡ true → has_one_number (record { low = low; high = high }) ≡ false
open_above Free Free e = refl
open_above (At a) Free e = refl
open_above low (At b) e = absurd cc

open_below : (low high : MEnd) → is_free low ≡ true → has_one_number (record { low = low; high = high }) ≡ false
open_below Free high e = refl
open_below (At a) high e = absurd cc

one_or_taken : (kind : IntKind) (r : MRange) → IsShortRange r → IsShortRange (range_taken kind r)
    → IsShortRange (range_written kind r)
one_or_taken kind r s t = by_case (has_one_number r) refl
  where
    by_case : (b : Bool) → has_one_number r ≡ b → IsShortRange (range_written kind r)
    by_case true e = rw e s
    by_case false e = rw e t

-- the ends that are written have at most 128 bits
written_short : (width : Width) (kind : IntKind) (r : MRange) → has_literal_ends width (IntType kind) r ≡ true
    → IsShortRange (range_written kind r)
written_short width kind r e = by_case (begins_above_literals kind r.low) (ends_below_literals kind r.high) refl refl
  where
    low_side : Bool
    low_side = cond (begins_above_literals kind r.low) (is_free r.high) (is_literal_end width (IntType kind) r.low)

    high_side : Bool
    high_side = cond (ends_below_literals kind r.high) (is_free r.low) (is_literal_end width (IntType kind) r.high)

    by_case : (a b : Bool) → begins_above_literals kind r.low ≡ a → ends_below_literals kind r.high ≡ b
        → IsShortRange (range_written kind r)
    by_case true b f g =
        let x : is_free r.high ≡ true = rw f at (and_left low_side high_side e) in
        let o = open_above r.low r.high x in
        rw (o, f) (greatest_short kind, tt)
    by_case false true f g =
        let x : is_free r.low ≡ true = rw g at (and_right low_side high_side e) in
        let o = open_below r.low r.high x in
        rw (o, f, g) (tt, omega arith)
    by_case false false f g =
        let x : is_literal_end width (IntType kind) r.low ≡ true = rw f at (and_left low_side high_side e) in
        let y : is_literal_end width (IntType kind) r.high ≡ true = rw g at (and_right low_side high_side e) in
        let s : IsShortRange r = (end_short width kind r.low x, end_short width kind r.high y) in
        one_or_taken kind r s (rw (f, g) s)

-- ---- characters and texts

scalar_of : (c : ℕ) → is_scalar c ≡ true → scalar c ≡ true
scalar_of c e = grind (arith, nat_tests)

end_scalar : (end : MEnd) → IsScalarEnd (char_end end)
end_scalar Free = tt
end_scalar (At (negsuc n)) = tt
end_scalar (At (pos n)) = by_case (is_scalar n) refl
  where
    by_case : (b : Bool) → is_scalar n ≡ b → IsScalarEnd (char_end (At (pos n)))
    by_case true e = rw e (scalar_of n e)
    by_case false e = rw e tt

all_scalar : (cs : List ℕ) → list_all is_scalar cs ≡ true → scalars cs ≡ true
all_scalar [] e = refl
all_scalar (c ∷ cs) e = rw (scalar_of c (and_left (is_scalar c) (list_all is_scalar cs) e))
    (all_scalar cs (and_right (is_scalar c) (list_all is_scalar cs) e))

text_of_set : (set : MSet) (u : List ℕ) → belongs set (TextCtor u) ≡ true → scalars u ≡ true
text_of_set TextSet u e = all_scalar u e
text_of_set _ u e = absurd cc

abbrev mutual
  -- the texts of the witness are Unicode
  IsUnicode : MWitness → Type 0
  IsUnicode (TextOf u) = scalars u ≡ true
  IsUnicode (NodeOf k ws) = AreUnicode ws
  IsUnicode (PointOf w) = IsUnicode w
  IsUnicode (RowOf front longer back) = AreUnicode front × AreUnicode back
  IsUnicode _ = Unit {0}

  AreUnicode : MWitnesses → Type 0
  AreUnicode no_witnesses = Unit {0}
  AreUnicode (more_witnesses w ws) = IsUnicode w × AreUnicode ws

third : (a b c : Bool) → (a && b && c) ≡ true → c ≡ true
third true true c e = e
third true false c e = absurd cc
third false b c e = absurd cc

-- so are those of a witness of a type
mutual
  unicode_of : {T : Type 0} (cx : Context T) (t : T) (w : MWitness) → witness_is_of cx t w ≡ true → IsUnicode w
  unicode_of cx t AnyOf e = tt
  unicode_of cx t LaterOf e = tt
  unicode_of cx t (FlagOf b) e = tt
  unicode_of cx t (SpanOf r) e = tt
  unicode_of cx t (TextOf u) e = text_of_set (cx.set_of t) u e
  unicode_of cx t (ElseOf us) e = tt
  unicode_of cx t (NodeOf k ws) e =
      let c = node_ctor (cx.set_of t) k in
      unicode_all cx (cx.sub c t) 0 ws
      (and_right (nat_eq (length (witnesses_list ws)) (cx.arity c t)) (witnesses_are_of cx (cx.sub c t) 0 ws)
      (and_right (has_ctor cx t c) _ e))
  unicode_of cx t (PointOf w) e =
      unicode_of cx (cx.sub PointCtor t 0) w
      (and_right (has_ctor cx t PointCtor) (witness_is_of cx (cx.sub PointCtor t 0) w) e)
  unicode_of cx t (RowOf front longer back) e =
      let c = RowCtor (slice_shape (length (witnesses_list front)) longer (length (witnesses_list back))) in
      let first = witnesses_are_of cx (cx.sub c t) 0 front in
      let last = witnesses_are_of cx (cx.sub c t) (length (witnesses_list front)) back in
      let items : (first && last) ≡ true = third (has_ctor cx t c)
      (back_is_allowed longer (length (witnesses_list back))) (first && last) e in (
        unicode_all cx (cx.sub c t) 0 front (and_left first last items),
        unicode_all cx (cx.sub c t) (length (witnesses_list front)) back (and_right first last items),
      )

  unicode_all : {T : Type 0} (cx : Context T) (type_of : ℕ → T) (i : ℕ) (ws : MWitnesses)
      → witnesses_are_of cx type_of i ws ≡ true → AreUnicode ws
  unicode_all cx type_of i no_witnesses e = tt
  unicode_all cx type_of i (more_witnesses w ws) e = (
    unicode_of cx (type_of i) w (and_left (witness_is_of cx (type_of i) w) (witnesses_are_of cx type_of (suc i) ws) e),
    unicode_all cx type_of (suc i) ws
        (and_right (witness_is_of cx (type_of i) w) (witnesses_are_of cx type_of (suc i) ws) e),
  )

-- ---- names

-- a variant of a named type has a name that is one
abbrev IsVariantOf : MProgram → MType → MVariant → Type 0
IsVariantOf program t v = IsFormName (name_by Whole program t v.name) × IsNamedForm v.form

declared_formed : (o : Option MItem) (name : List ℕ) → IsOwnerNamed o → IsName name → IsFormName (declared_name o name)
declared_formed None name o n = n
declared_formed (Some OtherItem) name o n = n
declared_formed (Some (StructItem u)) name o n = n
declared_formed (Some (EnumItem owner marked vs)) name o n = (o, n)

path_formed : (program : MProgram) (t : MType) (name : List ℕ) → IsTypeNamed program t → IsName name
    → IsFormName (name_by Whole program t name)
path_formed program (NamedType (DeclaredItem i) args) name o n = declared_formed (slice_get program.items i) name o n
path_formed program (NamedType OptionOwner args) name o n = (option_name, n)
path_formed program (NamedType ResultOwner args) name o n = (result_name, n)
path_formed program _ name o n = n

variant_formed : (program : MProgram) (t : MType) (k : ℕ) (v : MVariant) → AreNames program
    → slice_get (variants_of program t) k ≡ Some v → IsVariantOf program t v
variant_formed program t k v names e =
    let a = variant_named program t k v names e in
    (path_formed program t v.name (type_named program t names) a.0, a.1)

-- ---- trees

abbrev AllSpellable : List WitnessTree → Type 0
AllSpellable [] = Unit {0}
AllSpellable (w ∷ ws) = IsSpellable w × AllSpellable ws

trees_spellable : (ws : List WitnessTree) → AllSpellable ws → AreSpellable (trees_of ws)
trees_spellable [] s = tt
trees_spellable (w ∷ ws) s = (s.0, trees_spellable ws s.1)

fields_spellable : (fs : List MField) (ws : List WitnessTree) → AreFieldNames fs → AllSpellable ws
    → AreSpellableFields (fields_of (named_fields fs ws))
fields_spellable [] ws a s = tt
fields_spellable (f ∷ fs) [] a s = tt
fields_spellable (f ∷ fs) (w ∷ ws) a s = (a.0, s.0, fields_spellable fs ws a.1 s.1)

form_spellable : (name : NameTree) (form : MForm) (ws : List WitnessTree) → IsFormName name → IsNamedForm form
    → AllSpellable ws → IsSpellable (form_tree name form ws)
form_spellable name UnitForm ws n a s = n
form_spellable name (TupleForm types) ws n a s = (n, trees_spellable ws s)
form_spellable name (BraceForm fs) ws n a s = (n, fields_spellable fs ws a s)

variant_spellable : (program : MProgram) (t : MType) (k : ℕ) (ws : List WitnessTree) → AreNames program
    → AllSpellable ws → IsSpellable (variant_tree Whole program t (slice_get (variants_of program t) k) ws)
variant_spellable program t k ws names s = by_case (slice_get (variants_of program t) k) refl
  where
    by_case : (o : Option MVariant) → slice_get (variants_of program t) k ≡ o
        → IsSpellable (variant_tree Whole program t o ws)
    by_case None e = tt
    by_case (Some v) e =
        let b = variant_formed program t k v names e in
        form_spellable (name_by Whole program t v.name) v.form ws b.0 b.1 s

node_spellable : (program : MProgram) (t : MType) (k : ℕ) (ws : List WitnessTree) → AreNames program
    → AllSpellable ws → IsSpellable (node_tree Whole program t k ws)
node_spellable program (TupleType types) zero ws names s = trees_spellable ws s
node_spellable program (TupleType types) (suc k) ws names s =
    variant_spellable program (TupleType types) (suc k) ws names s
node_spellable program t k ws names s = variant_spellable program t k ws names s

point_spellable : (t : MType) (w : WitnessTree) → IsSpellable w → IsSpellable (point_tree t w)
point_spellable (PointType mutable t) w s = s
point_spellable _ w s = tt

row_spellable : (t : MType) (front : List WitnessTree) (longer : Bool) (back : List WitnessTree) → AllSpellable front
    → AllSpellable back → IsSpellable (row_tree t front longer back)
row_spellable (SliceType t) front longer back f b = (trees_spellable front f, trees_spellable back b)
row_spellable (ArrayType t n) front longer back f b = (trees_spellable front f, trees_spellable back b)
row_spellable _ front longer back f b = tt

numbers_spellable : (width : Width) (t : MType) (r : MRange) → has_literal_ends width t r ≡ true
    → IsSpellable (numbers_tree t r)
numbers_spellable width CharType r e = (end_scalar r.low, end_scalar r.high)
numbers_spellable width (IntType kind) r e = written_short width kind r e
numbers_spellable width _ r e = tt

module _ (program : MProgram) (names : AreNames program) where
  mutual
    tree_spellable : (t : MType) (w : MWitness) → IsUnicode w → literal_ends program t w ≡ true
        → IsSpellable (named_by Whole program t w)
    tree_spellable t AnyOf u e = tt
    tree_spellable t LaterOf u e = tt
    tree_spellable t (FlagOf b) u e = tt
    tree_spellable t (SpanOf r) u e = numbers_spellable program.width t r e
    tree_spellable t (TextOf text) u e = u
    tree_spellable t (ElseOf texts) u e = tt
    tree_spellable t (NodeOf k ws) u e =
        let types = types_there (node_types program t k) in
        node_spellable program t k (parts_by Whole program types ws) names (parts_spellable types ws u e)
    tree_spellable t (PointOf w) u e =
        point_spellable t (named_by Whole program (inner_type t) w) (tree_spellable (inner_type t) w u e)
    tree_spellable t (RowOf front longer back) u e =
        let i = inner_type t in
        row_spellable t (items_by Whole program i front) longer (items_by Whole program i back)
        (items_spellable i front u.0 (and_left (items_literal program i front) (items_literal program i back) e))
        (items_spellable i back u.1 (and_right (items_literal program i front) (items_literal program i back) e))

    parts_spellable : (ts : List MType) (ws : MWitnesses) → AreUnicode ws → parts_literal program ts ws ≡ true
        → AllSpellable (parts_by Whole program ts ws)
    parts_spellable ts no_witnesses u e = tt
    parts_spellable [] (more_witnesses w ws) u e = tt
    parts_spellable (t ∷ ts) (more_witnesses w ws) u e = (
      tree_spellable t w u.0 (and_left (literal_ends program t w) (parts_literal program ts ws) e),
      parts_spellable ts ws u.1 (and_right (literal_ends program t w) (parts_literal program ts ws) e),
    )

    items_spellable : (t : MType) (ws : MWitnesses) → AreUnicode ws → items_literal program t ws ≡ true
        → AllSpellable (items_by Whole program t ws)
    items_spellable t no_witnesses u e = tt
    items_spellable t (more_witnesses w ws) u e = (
      tree_spellable t w u.0 (and_left (literal_ends program t w) (items_literal program t ws) e),
      items_spellable t ws u.1 (and_right (literal_ends program t w) (items_literal program t ws) e),
    )

-- a witness of the type is so
pub typed_spellable : (program : MProgram) (t : MType) (w : MWitness) → AreNames program
    → witness_is_of (rust_context program) t w ≡ true → literal_ends program t w ≡ true
    → IsSpellable (named_by Whole program t w)
typed_spellable program t w names typed e =
    tree_spellable program names t w (unicode_of (rust_context program) t w typed) e
