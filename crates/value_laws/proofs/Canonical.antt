-- A value of a type that is written with the names of a file is canonical.
use Rattle.std.proofs.Common.{◌≡◌, ℕ, zero, suc, ◌<◌, ◌^◌, ℤ, pos, negsuc, Bool, true, false, cond, List, [], ◌∷◌}
use Rattle.std.proofs.Common.{Option, Some, None, refl, arith, length, slice_get}
use Rattle.std.proofs.lemmas.Bool.Decides.{nat_tests}
use Rattle.std.specs.Prelude.{nat_lt}
use Rattle.std.specs.List.{list_all}
use lib.Utf8.{scalars}
use Rattle.match_model.specs.declared.Width.{Width}
use Rattle.match_model.specs.declared.Width.TheVariants.{Endless}
use Rattle.match_model.specs.Declarations.{MField, MForm, UnitForm, TupleForm, BraceForm, MVariant, MItem}
use Rattle.match_model.specs.Declarations.{StructItem, EnumItem, OtherItem, MProgram, variants_of, node_types}
use Rattle.match_model.specs.Lists.{Every}
use Rattle.match_model.specs.RustTypes.{inner_type}
use Rattle.match_model.specs.Texts.{is_scalar}
use Rattle.match_model.specs.Types.{DeclaredItem, OptionOwner, ResultOwner, MType, CharType, TupleType, NamedType}
use Rattle.match_model.specs.Types.{MTypes, no_types, more_types}
use Rattle.match_model.specs.Typing.{is_value, are_values, all_are_values, is_str, type_behind, item_type}
use Rattle.match_model.specs.Values.{MValue, Flag, Num, Text, Node, Point, Row, Thing, Later, Unseen, MValues}
use Rattle.match_model.specs.Values.{no_values, more_values, values_list}
use Rattle.value_syntax.specs.Canonical.{IsName, IsFormName, IsCanonical, AreCanonical, AreCanonicalFields}
use Rattle.value_syntax.specs.Trees.{WrittenTree, WrittenText, values_from, fields_from}
use Rattle.witness_text.specs.Trees.{NameTree}
use Rattle.witness_names.specs.Named.{declared_name, form_name, types_there}
use Rattle.witness_names.specs.NamedValues.{written_integer, character_or, written_number, written_point}
use Rattle.witness_names.specs.NamedValues.{written_fields, written_form, written_variant, written_node}
use Rattle.witness_names.specs.NamedValues.{written_value, written_parts, written_items}
use Rattle.file_names.specs.Named.{AreFieldNames, IsNamedForm, AreNames}
use Rattle.file_names.proofs.Variants.{IsOwnerNamed, IsTypeNamed, type_named, variant_named}
use Rattle.value_laws.specs.Short.{is_short, has_short_numbers, have_short_numbers}
use Rattle.value_laws.proofs.Leaves.{both, scalar_is, scalars_are}
use Rattle.value_laws.proofs.Shorts.{number_short}

-- ---- numbers and texts

abbrev mutual
  -- the numbers of a value have at most 128 bits, and its texts are Unicode
  IsWritable : MValue → Type 0
  IsWritable (Num n) = is_short n ≡ true
  IsWritable (Text cs) = scalars cs ≡ true
  IsWritable (Node k vs) = AreWritable vs
  IsWritable (Point mutable v) = IsWritable v
  IsWritable (Row vs) = AreWritable vs
  IsWritable _ = Unit {0}

  AreWritable : MValues → Type 0
  AreWritable no_values = Unit {0}
  AreWritable (more_values v vs) = IsWritable v × AreWritable vs

-- its numbers are short where a number of a type may be longer
abbrev pub IsShort : Width → MValue → Type 0
IsShort width v = width ≡ Endless → has_short_numbers v ≡ true

abbrev AreShort : Width → MValues → Type 0
AreShort width vs = width ≡ Endless → have_short_numbers vs ≡ true

first_short : (width : Width) (v : MValue) (vs : MValues) → AreShort width (more_values v vs) → IsShort width v
first_short width v vs s e = (both (has_short_numbers v) (have_short_numbers vs) (s e)).0

others_short : (width : Width) (v : MValue) (vs : MValues) → AreShort width (more_values v vs) → AreShort width vs
others_short width v vs s e = (both (has_short_numbers v) (have_short_numbers vs) (s e)).1

-- what is there passes the test
from_some : {A P : Type 0} (o : Option A) (test : A → Bool) → (elim o [ None ↦ false | Some x ↦ test x ]) ≡ true
    → ((x : A) → test x ≡ true → P) → P
from_some None test h k = absurd cc
from_some (Some x) test h k = k x h

-- a value of a type is so
module _ (program : MProgram) where
  mutual
    writable : (sure : Bool) (t : MType) (v : MValue) → IsShort program.width v → is_value program sure t v ≡ true
        → IsWritable v
    writable sure t (Flag b) s h = tt
    writable sure t (Num n) s h = number_short program.width t n s h
    writable sure t (Text cs) s h = scalars_are cs (both (is_str t) (list_all is_scalar cs) h).1
    writable sure t (Node k vs) s h =
        from_some (node_types program t k) (λ types. are_values program sure types vs) h
        (λ types e. parts_writable sure types vs s e)
    writable sure t (Point m v) s h =
        from_some (type_behind t m) (λ inner. is_value program false inner v) h (λ inner e. writable false inner v s e)
    writable sure t (Row vs) s h =
        from_some (item_type t (length (values_list vs))) (λ item. all_are_values program sure item vs) h
        (λ item e. items_writable sure item vs s e)
    writable sure t Thing s h = tt
    writable sure t Later s h = tt
    writable sure t Unseen s h = tt

    parts_writable : (sure : Bool) (ts : MTypes) (vs : MValues) → AreShort program.width vs
        → are_values program sure ts vs ≡ true → AreWritable vs
    parts_writable sure no_types no_values s h = tt
    parts_writable sure no_types (more_values v vs) s h = absurd cc
    parts_writable sure (more_types t ts) no_values s h = absurd cc
    parts_writable sure (more_types t ts) (more_values v vs) s h =
        let each = both (is_value program sure t v) (are_values program sure ts vs) h in
        let first = writable sure t v (first_short program.width v vs s) each.0 in
        (first, parts_writable sure ts vs (others_short program.width v vs s) each.1)

    items_writable : (sure : Bool) (t : MType) (vs : MValues) → AreShort program.width vs
        → all_are_values program sure t vs ≡ true → AreWritable vs
    items_writable sure t no_values s h = tt
    items_writable sure t (more_values v vs) s h =
        let each = both (is_value program sure t v) (all_are_values program sure t vs) h in
        let first = writable sure t v (first_short program.width v vs s) each.0 in
        (first, items_writable sure t vs (others_short program.width v vs s) each.1)

-- ---- numbers

below : (n top : ℕ) → nat_lt n top ≡ true → n < top
below n top h = grind (arith, nat_tests, h)

integer_canonical : (n : ℤ) → is_short n ≡ true → IsCanonical (written_integer n)
integer_canonical (pos n) h = (below n (2 ^ 128) h, refl)
integer_canonical (negsuc n) h = (below (suc n) (2 ^ 128) h, refl)

character_canonical : (n : ℕ) (b : Bool) → is_scalar n ≡ b → is_short (pos n) ≡ true
    → IsCanonical (character_or (pos n) (cond b (Some n) None))
character_canonical n true e h = scalar_is n e
character_canonical n false e h = integer_canonical (pos n) h

number_canonical : (t : MType) (n : ℤ) → is_short n ≡ true → IsCanonical (written_number t n)
number_canonical CharType (pos n) h = character_canonical n (is_scalar n) refl h
number_canonical CharType (negsuc n) h = integer_canonical (negsuc n) h
number_canonical _ n h = integer_canonical n h

-- ---- forms

trees_canonical : (ws : List WrittenTree) → Every IsCanonical ws → AreCanonical (values_from ws)
trees_canonical [] h = tt
trees_canonical (w ∷ ws) h = (h.0, trees_canonical ws h.1)

fields_canonical : (fs : List MField) (ws : List WrittenTree) → AreFieldNames fs → Every IsCanonical ws
    → AreCanonicalFields (fields_from (written_fields fs ws))
fields_canonical [] ws a h = tt
fields_canonical (f ∷ fs) [] a h = tt
fields_canonical (f ∷ fs) (w ∷ ws) a h = (a.0, h.0, fields_canonical fs ws a.1 h.1)

form_canonical : (name : NameTree) (form : MForm) (ws : List WrittenTree) → IsFormName name → IsNamedForm form
    → Every IsCanonical ws → IsCanonical (written_form name form ws)
form_canonical name UnitForm ws n a h = n
form_canonical name (TupleForm types) ws n a h = (n, trees_canonical ws h)
form_canonical name (BraceForm fs) ws n a h = (n, fields_canonical fs ws a h)

declared_formed : (o : Option MItem) (name : List ℕ) → IsOwnerNamed o → IsName name → IsFormName (declared_name o name)
declared_formed None name o n = n
declared_formed (Some OtherItem) name o n = n
declared_formed (Some (StructItem u)) name o n = n
declared_formed (Some (EnumItem owner marked vs)) name o n = (o, n)

path_formed : (program : MProgram) (t : MType) (name : List ℕ) → IsTypeNamed program t → IsName name
    → IsFormName (form_name program t name)
path_formed program (NamedType (DeclaredItem i) args) name o n = declared_formed (slice_get program.items i) name o n
path_formed program (NamedType OptionOwner args) name o n = n
path_formed program (NamedType ResultOwner args) name o n = n
path_formed program _ name o n = n

point_canonical : (mutable : Bool) (w : WrittenTree) → IsCanonical w → IsCanonical (written_point mutable w)
point_canonical false (WrittenText text) h = h
point_canonical mutable w h = h

-- ---- values

module _ (program : MProgram) (names : AreNames program) where
  variant_canonical : (t : MType) (k : ℕ) (ws : List WrittenTree) → Every IsCanonical ws
      → (o : Option MVariant) → slice_get (variants_of program t) k ≡ o → IsCanonical (written_variant program t o ws)
  variant_canonical t k ws h None e = tt
  variant_canonical t k ws h (Some v) e =
      let a = variant_named program t k v names e in
      form_canonical (form_name program t v.name) v.form ws
      (path_formed program t v.name (type_named program t names) a.0) a.1 h

  node_canonical : (t : MType) (k : ℕ) (ws : List WrittenTree) → Every IsCanonical ws
      → IsCanonical (written_node program t k ws)
  node_canonical (TupleType types) zero ws h = trees_canonical ws h
  node_canonical (TupleType types) (suc k) ws h =
      variant_canonical (TupleType types) (suc k) ws h (slice_get (variants_of program (TupleType types)) (suc k)) refl
  node_canonical t k ws h = variant_canonical t k ws h (slice_get (variants_of program t) k) refl

  mutual
    value_canonical : (t : MType) (v : MValue) → IsWritable v → IsCanonical (written_value program t v)
    value_canonical t (Flag b) u = tt
    value_canonical t (Num n) u = number_canonical t n u
    value_canonical t (Text cs) u = (cs, (u, refl))
    value_canonical t (Node k vs) u =
        let types = types_there (node_types program t k) in
        node_canonical t k (written_parts program types vs) (parts_canonical types vs u)
    value_canonical t (Point m v) u =
        point_canonical m (written_value program (inner_type t) v) (value_canonical (inner_type t) v u)
    value_canonical t (Row vs) u =
        trees_canonical (written_items program (inner_type t) vs) (items_canonical (inner_type t) vs u)
    value_canonical t Thing u = tt
    value_canonical t Later u = tt
    value_canonical t Unseen u = tt

    parts_canonical : (ts : List MType) (vs : MValues) → AreWritable vs
        → Every IsCanonical (written_parts program ts vs)
    parts_canonical ts no_values u = tt
    parts_canonical [] (more_values v vs) u = tt
    parts_canonical (t ∷ ts) (more_values v vs) u = (value_canonical t v u.0, parts_canonical ts vs u.1)

    items_canonical : (t : MType) (vs : MValues) → AreWritable vs → Every IsCanonical (written_items program t vs)
    items_canonical t no_values u = tt
    items_canonical t (more_values v vs) u = (value_canonical t v u.0, items_canonical t vs u.1)

-- a value of a type of the program, whose numbers have at most 128 bits
pub written_canonical : (program : MProgram) → AreNames program → (sure : Bool) (t : MType) (v : MValue)
    → IsShort program.width v → is_value program sure t v ≡ true → IsCanonical (written_value program t v)
written_canonical program names sure t v s h = value_canonical program names t v (writable program sure t v s h)
