-- Two numbers of one type are one number.
use Rattle.std.proofs.Common.{◌≡◌, ℕ, ◌<◌, ◌≤◌, Bool, true, false, List, [], ◌∷◌, map, length, Some, refl, sym, ap, ◌∙◌, suc, zero, arith, rules, subst}
use Rattle.std.specs.Prelude.{slice_get, nat_lt, nat_eq}
use Rattle.std.specs.List.{AllByRecursion, IsDistinct}
use Rattle.std.proofs.lemmas.Bool.{ltb-true, and_parts, both_ways, eqb-true}
use Rattle.std.proofs.lemmas.List.{length-map}
use Rattle.std.proofs.lemmas.Slice.Eq.{bytes_eq-Decides}
use Rattle.match_model.specs.declared.IntKind.{IntKind}
use Rattle.match_model.specs.declared.IntKind.TheVariants as ints
use Rattle.match_model.specs.Types.{MOwner, DeclaredItem, OptionOwner, ResultOwner, MOpaque, StringName, F32Name, F64Name, BoxName, VecName, RcName, ArcName, ParameterName, MType, BoolType, CharType, StrType, NeverType, IntType, OpaqueType, TupleType, PointType, SliceType, ArrayType, NamedType, MTypes, no_types, more_types, types_list}
use Rattle.type_names.specs.declared.meanings.Base.{Base}
use Rattle.type_names.specs.declared.meanings.Base.TheVariants as bases
use Rattle.type_names.specs.declared.meanings.Opaque.{Opaque}
use Rattle.type_names.specs.declared.meanings.Opaque.TheVariants as opaques
use Rattle.type_names.specs.declared.meanings.Owner.{Owner}
use Rattle.type_names.specs.declared.meanings.Owner.TheVariants as owners
use Rattle.type_table.specs.declared.nodes.Node.{Node}
use Rattle.type_table.specs.declared.nodes.Head.{Head}
use Rattle.type_table.specs.declared.nodes.Head.TheVariants as heads
use Rattle.type_table.specs.contracts.nodes.NodePartialEq.TheImpl as node_eq
use Rattle.type_table.specs.Nodes.{head_type, type_at, type_there, node_type, types_in, are_below, fits_head, AreNodes, plain, first_type}
use Rattle.type_table.proofs.NodeLemmas.{type_of_node, item_at}
use Rattle.type_table.proofs.TypeNodes.{list_back}
pub use Rattle.type_table.proofs.NodeLemmas.{item_at as node_there}

-- equal nodes are equal by the derived test
pub equal_plain : (a b : Node) → plain a ≡ plain b → node_eq.ghosts.eq a b ≡ true
equal_plain a b h = search (rules, h, bytes_eq-Decides)

holds_at : {A : Type 0} (P : A → Type 0) (xs : List A) (i : ℕ) (x : A) → AllByRecursion P xs → slice_get xs i ≡ Some x → P x
holds_at P [] i x all at = absurd cc
holds_at {A} P (y ∷ ys) zero x all at = let same : y ≡ x = cc in subst P same all.0
holds_at P (y ∷ ys) (suc i) x all at = holds_at P ys i x all.1 at

-- equal keys of a set stand at one place
pub one_place : {A : Type 0} (e : A → A → Bool) (ks : List A) (i j : ℕ) (a b : A) → IsDistinct e ks → slice_get ks i ≡ Some a → slice_get ks j ≡ Some b → e a b ≡ true → e b a ≡ true → i ≡ j
unfolding IsDistinct
one_place e [] i j a b d at_i at_j ab ba = absurd cc
one_place e (x ∷ xs) zero zero a b d at_i at_j ab ba = refl
one_place {A} e (x ∷ xs) zero (suc j) a b d at_i at_j ab ba =
    let same : x ≡ a = cc in
    let apart : e x b ≡ false = holds_at (λ y. e x y ≡ false) xs j b d.0 at_j in
    absurd (both_ways (e a b) (ap (λ (y : A). e y b) (sym same) ∙ apart) ab)
one_place {A} e (x ∷ xs) (suc i) zero a b d at_i at_j ab ba =
    let same : x ≡ b = cc in
    let apart : e x a ≡ false = holds_at (λ y. e x y ≡ false) xs i a d.0 at_i in
    absurd (both_ways (e b a) (ap (λ (y : A). e y a) (sym same) ∙ apart) ba)
one_place e (x ∷ xs) (suc i) (suc j) a b d at_i at_j ab ba = ap suc (one_place e xs i j a b d.1 at_i at_j ab ba)

-- the head and the parts of a type
abbrev int_back : IntKind → Base
int_back ints.U8 = bases.U8
int_back ints.U16 = bases.U16
int_back ints.U32 = bases.U32
int_back ints.U64 = bases.U64
int_back ints.U128 = bases.U128
int_back ints.USize = bases.USize
int_back ints.I8 = bases.I8
int_back ints.I16 = bases.I16
int_back ints.I32 = bases.I32
int_back ints.I64 = bases.I64
int_back ints.I128 = bases.I128
int_back ints.ISize = bases.ISize

abbrev opaque_back : MOpaque → Opaque
opaque_back StringName = opaques.Text
opaque_back F32Name = opaques.F32
opaque_back F64Name = opaques.F64
opaque_back BoxName = opaques.Box
opaque_back VecName = opaques.Vec
opaque_back RcName = opaques.Rc
opaque_back ArcName = opaques.Arc
opaque_back (ParameterName n) = opaques.Text

abbrev owner_back : MOwner → Owner
owner_back (DeclaredItem i) = owners.Item i
owner_back OptionOwner = owners.Option
owner_back ResultOwner = owners.Result

abbrev head_back : MType → Head
head_back BoolType = heads.Base bases.Bool
head_back CharType = heads.Base bases.Char
head_back StrType = heads.Base bases.Str
head_back NeverType = heads.Base bases.Never
head_back (IntType kind) = heads.Base (int_back kind)
head_back (OpaqueType o args) = heads.Opaque (opaque_back o)
head_back (TupleType ts) = heads.Tuple
head_back (PointType mutable t) = heads.Point mutable
head_back (SliceType t) = heads.Slice
head_back (ArrayType t n) = heads.Array n
head_back (NamedType o args) = heads.Named (owner_back o)

abbrev parts_back : MType → List MType
parts_back (OpaqueType o args) = types_list args
parts_back (TupleType ts) = types_list ts
parts_back (PointType mutable t) = t ∷ []
parts_back (SliceType t) = t ∷ []
parts_back (ArrayType t n) = t ∷ []
parts_back (NamedType o args) = types_list args
parts_back _ = []

head_is : (h : Head) (ps : List MType) → head_back (head_type h ps) ≡ h
head_is (heads.Base bases.Bool) ps = refl
head_is (heads.Opaque opaques.Text) ps = refl
head_is (heads.Named owners.Option) ps = refl
head_is _ ps = refl

none_of : (ps : List MType) → nat_eq (length ps) 0 ≡ true → [] ≡ ps
none_of [] h = refl
none_of (p ∷ ps) h = let count : length (p ∷ ps) ≡ 0 = eqb-true (length (p ∷ ps)) 0 h in absurd (omega arith)

one_of : (ps : List MType) → nat_eq (length ps) 1 ≡ true → first_type ps ∷ [] ≡ ps
one_of [] h = let count : length ps_none ≡ 1 = eqb-true (length ps_none) 1 h in absurd (omega arith)
  where
    ps_none : List MType
    ps_none = []
one_of (p ∷ []) h = refl
one_of (p ∷ q ∷ ps) h = let count : length (p ∷ q ∷ ps) ≡ 1 = eqb-true (length (p ∷ q ∷ ps)) 1 h in absurd (omega arith)

parts_is : (h : Head) (ps : List MType) → fits_head h (length ps) ≡ true → parts_back (head_type h ps) ≡ ps
parts_is (heads.Base bases.Bool) ps fits = none_of ps fits
parts_is (heads.Opaque o) ps fits = list_back ps
parts_is heads.Tuple ps fits = list_back ps
parts_is (heads.Point mutable) ps fits = one_of ps fits
parts_is heads.Slice ps fits = one_of ps fits
parts_is (heads.Array n) ps fits = one_of ps fits
parts_is (heads.Named o) ps fits = list_back ps
parts_is _ ps fits = none_of ps fits

below_all : (parts : List ℕ) (n m : ℕ) → are_below parts n ≡ true → n ≤ m → are_below parts m ≡ true
below_all [] n m h le = refl
below_all (p ∷ ps) n m h le =
    let halves = and_parts (nat_lt p n) (are_below ps n) h in
    let here : nat_lt p m ≡ true = less p n m halves.0 le in
    rw (here, below_all ps n m halves.1 le) refl
  where
    less : (p n m : ℕ) → nat_lt p n ≡ true → n ≤ m → nat_lt p m ≡ true
    less p n m h le = grind arith

pair : (a b : Node) → a.head ≡ b.head → a.parts.items ≡ b.parts.items → plain a ≡ plain b
pair a b e f = ap (λ (h : Head). (h, a.parts.items)) e ∙ ap (λ (ps : List ℕ). (b.head, ps)) f

module _ (keys : List Node) (are : AreNodes keys) (distinct : IsDistinct node_eq.ghosts.eq keys) where
  abbrev SameParts : MType → Type 0
  SameParts t = (is js : List ℕ) → are_below is (length keys) ≡ true → are_below js (length keys) ≡ true →
      map (type_at (types_in keys)) is ≡ parts_back t → map (type_at (types_in keys)) js ≡ parts_back t → is ≡ js

  facts : (i : ℕ) (n : Node) (t : MType) → slice_get keys i ≡ Some n → type_at (types_in keys) i ≡ t →
      (n.head ≡ head_back t) × (map (type_at (types_in keys)) n.parts.items ≡ parts_back t)
  facts i n t at is =
      let type : node_type (types_in keys) n ≡ t = sym (ap type_there (type_of_node keys i n are at)) ∙ is in
      let fits : fits_head n.head (length (map (type_at (types_in keys)) n.parts.items)) ≡ true = ap (fits_head n.head) (rw length-map refl) ∙ (are i n at).1 in (
        sym (head_is n.head (map (type_at (types_in keys)) n.parts.items)) ∙ ap head_back type,
        sym (parts_is n.head (map (type_at (types_in keys)) n.parts.items) fits) ∙ ap parts_back type,
      )

  step : (t : MType) → SameParts t → (i j : ℕ) → i < length keys → j < length keys → type_at (types_in keys) i ≡ t → type_at (types_in keys) j ≡ t → i ≡ j
  step t same i j lt_i lt_j is_i is_j =
      let a = item_at keys i lt_i in
      let b = item_at keys j lt_j in
      let of_a = facts i a.0 t a.1 is_i in
      let of_b = facts j b.0 t b.1 is_j in
      let below_a = below_all a.0.parts.items i (length keys) (are i a.0 a.1).0 (omega arith) in
      let below_b = below_all b.0.parts.items j (length keys) (are j b.0 b.1).0 (omega arith) in
      let parts = same a.0.parts.items b.0.parts.items below_a below_b of_a.1 of_b.1 in
      let equal = pair a.0 b.0 (of_a.0 ∙ sym of_b.0) parts in
      one_place node_eq.ghosts.eq keys i j a.0 b.0 distinct a.1 b.1 (equal_plain a.0 b.0 equal) (equal_plain b.0 a.0 (sym equal))

  one_same : (t : MType) → ((i j : ℕ) → i < length keys → j < length keys → type_at (types_in keys) i ≡ t → type_at (types_in keys) j ≡ t → i ≡ j) →
      (is js : List ℕ) → are_below is (length keys) ≡ true → are_below js (length keys) ≡ true →
      map (type_at (types_in keys)) is ≡ t ∷ [] → map (type_at (types_in keys)) js ≡ t ∷ [] → is ≡ js
  one_same t same (i ∷ []) (j ∷ []) bi bj ei ej =
      let here_i : type_at (types_in keys) i ≡ t = cc in
      let here_j : type_at (types_in keys) j ≡ t = cc in
      ap (λ (n : ℕ). n ∷ []) (same i j (ltb-true i (length keys) (and_parts (nat_lt i (length keys)) true bi).0) (ltb-true j (length keys) (and_parts (nat_lt j (length keys)) true bj).0) here_i here_j)
  one_same t same _ _ bi bj ei ej = absurd cc

  none_same : (is js : List ℕ) → are_below is (length keys) ≡ true → are_below js (length keys) ≡ true →
      map (type_at (types_in keys)) is ≡ [] → map (type_at (types_in keys)) js ≡ [] → is ≡ js
  none_same [] [] bi bj ei ej = refl
  none_same _ _ bi bj ei ej = absurd cc

  more_same : (t : MType) (ts : List MType) → ((i j : ℕ) → i < length keys → j < length keys → type_at (types_in keys) i ≡ t → type_at (types_in keys) j ≡ t → i ≡ j) →
      ((is js : List ℕ) → are_below is (length keys) ≡ true → are_below js (length keys) ≡ true → map (type_at (types_in keys)) is ≡ ts → map (type_at (types_in keys)) js ≡ ts → is ≡ js) →
      (is js : List ℕ) → are_below is (length keys) ≡ true → are_below js (length keys) ≡ true → map (type_at (types_in keys)) is ≡ t ∷ ts → map (type_at (types_in keys)) js ≡ t ∷ ts → is ≡ js
  more_same t ts same others (i ∷ is) (j ∷ js) bi bj ei ej =
      let halves_i = and_parts (nat_lt i (length keys)) (are_below is (length keys)) bi in
      let halves_j = and_parts (nat_lt j (length keys)) (are_below js (length keys)) bj in
      let here_i : type_at (types_in keys) i ≡ t = cc in
      let here_j : type_at (types_in keys) j ≡ t = cc in
      let rest_i : map (type_at (types_in keys)) is ≡ ts = cc in
      let rest_j : map (type_at (types_in keys)) js ≡ ts = cc in
      ap (λ (n : ℕ). n ∷ is) (same i j (ltb-true i (length keys) halves_i.0) (ltb-true j (length keys) halves_j.0) here_i here_j)
      ∙ ap (λ (ns : List ℕ). j ∷ ns) (others is js halves_i.1 halves_j.1 rest_i rest_j)
  more_same t ts same others _ _ bi bj ei ej = absurd cc

  mutual
    pub one_number : (t : MType) (i j : ℕ) → i < length keys → j < length keys → type_at (types_in keys) i ≡ t → type_at (types_in keys) j ≡ t → i ≡ j
    one_number BoolType = step BoolType none_same
    one_number CharType = step CharType none_same
    one_number StrType = step StrType none_same
    one_number NeverType = step NeverType none_same
    one_number (IntType kind) = step (IntType kind) none_same
    one_number (OpaqueType o args) = step (OpaqueType o args) (all_same args)
    one_number (TupleType ts) = step (TupleType ts) (all_same ts)
    one_number (PointType mutable t) = step (PointType mutable t) (one_same t (one_number t))
    one_number (SliceType t) = step (SliceType t) (one_same t (one_number t))
    one_number (ArrayType t n) = step (ArrayType t n) (one_same t (one_number t))
    one_number (NamedType o args) = step (NamedType o args) (all_same args)

    all_same : (ts : MTypes) (is js : List ℕ) → are_below is (length keys) ≡ true → are_below js (length keys) ≡ true →
        map (type_at (types_in keys)) is ≡ types_list ts → map (type_at (types_in keys)) js ≡ types_list ts → is ≡ js
    all_same no_types = none_same
    all_same (more_types t ts) = more_same t (types_list ts) (one_number t) (all_same ts)
