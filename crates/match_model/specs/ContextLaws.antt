-- The laws that a context keeps, stated over elementary constructors (our own choice of laws, after the documentation of
-- `rustc_pattern_analysis`, constructors and empty types).
use Rattle.std.specs.Prelude.{◌≡◌, ◌≢◌, ◌<◌, ◌^◌, ◌⊎◌, ◌↔◌, ⊤, ℕ, suc, ℤ, Bool, true, false, List, [], ◌∷◌, length, Some, IsTrue, int_lt}
use Rattle.match_model.specs.Values.{MValue, Point, Thing, Unseen, parts_of}
use Rattle.match_model.specs.Numbers.{in_range}
use Rattle.match_model.specs.Constructors.{MShape, MCtor, SingleCtor, PointCtor, VariantCtor, RowCtor, least_length, MSet, PointSet, NothingSet, OpaqueSet, NumberSet, Elementary, OneSingle, OnePoint, OneVariant, OneLength, elementary_ctor, builds_one, is_of_set, belongs}
use Rattle.match_model.specs.Contexts.{Context}
use Rattle.match_model.specs.Made.{IsMadeSet}

-- one elementary constructor of the set builds the value, and no other
pub record BuiltOnce (s : MSet) (v : MValue) : Type 0 where
  pub by : Elementary
  pub of_set : IsTrue (is_of_set s by)
  pub build : IsTrue (builds_one by v)
  pub only : (e : Elementary) → IsTrue (is_of_set s e) → IsTrue (builds_one e v) → e ≡ by

-- what a value of a type with this set is: bare unseen at an unsure place, an opaque thing, or built once
abbrev pub ValueIs : MSet → (sure : Bool) → MValue → Type 0
ValueIs NothingSet sure v = (v ≡ Unseen) × (sure ≡ false)
ValueIs OpaqueSet sure v = v ≡ Thing
ValueIs s sure v = BuiltOnce s v

-- every number of the second range is above every number of the first
abbrev pub RangesAscend : MSet → Type 0
RangesAscend (NumberSet first (Some second)) =
    (a b : ℤ) → IsTrue (in_range first a) → IsTrue (in_range second b) → IsTrue (int_lt a b)
RangesAscend _ = ⊤

-- one constructor builds each value, but unseen and opaque things, which are values of their types; two ranges of a type
-- ascend, and each can be held, so that what a range is cut into belongs to the type
pub record ValuesLaw {T : Type 0} (IsType : T → Type 0) (IsValue : T → Bool → MValue → Type 0) (cx : Context T) : Type 0 where
  pub each : (t : T) (sure : Bool) (v : MValue) → IsType t → IsValue t sure v → ValueIs (cx.set_of t) sure v
  pub thing : (t : T) (sure : Bool) → IsType t → cx.set_of t ≡ OpaqueSet → IsValue t sure Thing
  pub unseen : (t : T) → IsType t → cx.set_of t ≡ NothingSet → IsValue t false Unseen
  pub ascend : (t : T) → IsType t → RangesAscend (cx.set_of t)
  pub made : (t : T) → IsType t → IsMadeSet (cx.set_of t)

-- how many parts a value of the elementary constructor has
abbrev pub parts_count : {T : Type 0} → Context T → T → Elementary → ℕ
parts_count cx t OneSingle = cx.arity SingleCtor t
parts_count cx t (OneVariant k) = cx.arity (VariantCtor k) t
parts_count cx t OnePoint = 1
parts_count cx t (OneLength n) = n
parts_count cx t _ = 0

-- the values are of the types of the parts from number `i` on
abbrev pub PartsAre : {T : Type 0} → (T → Bool → MValue → Type 0) → (sure : Bool) → (sub : ℕ → T) → ℕ → List MValue → Type 0
PartsAre IsValue sure sub i [] = ⊤
PartsAre IsValue sure sub i (v ∷ vs) = IsValue (sub i) sure v × PartsAre IsValue sure sub (suc i) vs

-- how many parts a context tells of a constructor, where the constructor fixes it
abbrev pub ArityIs : MCtor → ℕ → Type 0
ArityIs SingleCtor n = ⊤
ArityIs (VariantCtor k) n = ⊤
ArityIs PointCtor n = n ≡ 1
ArityIs (RowCtor s) n = n ≡ least_length s
ArityIs _ n = n ≡ 0

-- the elementary constructor has a number of parts that the type decides
abbrev pub TypeFixesParts : Elementary → Type 0
TypeFixesParts e = (e ≡ OneSingle) ⊎ ((k : ℕ) × (e ≡ OneVariant k))

-- a built tree is a value exactly where it has the right number of parts and each is a value of its type. Behind a
-- reference no place is sure, and a reference of the other kind is no value
pub record PartsLaw {T : Type 0} (IsType : T → Type 0) (IsValue : T → Bool → MValue → Type 0) (cx : Context T) : Type 0 where
  pub parts : (t : T) (e : Elementary) (sure : Bool) (v : MValue) → IsType t → IsTrue (is_of_set (cx.set_of t) e) →
      IsTrue (builds_one e v) → e ≢ OnePoint →
      IsValue t sure v ↔ ((length (parts_of v) ≡ parts_count cx t e) × PartsAre IsValue sure (cx.sub (elementary_ctor e) t) 0 (parts_of v))
  pub point : (t : T) → IsType t → cx.set_of t ≡ PointSet →
      (mutable : Bool) × ((sure m : Bool) (v : MValue) → IsValue t sure (Point m v) ↔ ((m ≡ mutable) × IsValue (cx.sub PointCtor t 0) false v))
  pub types : (t : T) (e : Elementary) (i : ℕ) → IsType t → IsTrue (is_of_set (cx.set_of t) e) → i < parts_count cx t e →
      IsType (cx.sub (elementary_ctor e) t i)
  pub few : (t : T) (e : Elementary) → IsType t → IsTrue (is_of_set (cx.set_of t) e) → TypeFixesParts e → parts_count cx t e < 2 ^ 32
  pub arity : (t : T) (c : MCtor) → IsType t → IsTrue (belongs (cx.set_of t) c) → ArityIs c (cx.arity c t)
  pub items : (t : T) (s r : MShape) (i j : ℕ) → IsType t → IsTrue (belongs (cx.set_of t) (RowCtor s)) →
      IsTrue (belongs (cx.set_of t) (RowCtor r)) → cx.sub (RowCtor s) t i ≡ cx.sub (RowCtor r) t j
  pub item_types : (t : T) (s : MShape) (i : ℕ) → IsType t → IsTrue (belongs (cx.set_of t) (RowCtor s)) → IsType (cx.sub (RowCtor s) t i)

-- emptiness is told of sure places, exactly: where it is denied there is a value
pub record EmptyLaw {T : Type 0} (IsType : T → Type 0) (IsValue : T → Bool → MValue → Type 0) (cx : Context T) (is_empty : T → Bool) (variant_empty : T → ℕ → Bool) : Type 0 where
  pub empty : (t : T) → IsType t → is_empty t ≡ true → (v : MValue) → ¬ IsValue t true v
  pub inhabited : (t : T) → IsType t → is_empty t ≡ false → (v : MValue) × IsValue t true v
  pub variant_is_empty : (t : T) (k : ℕ) → IsType t → IsTrue (is_of_set (cx.set_of t) (OneVariant k)) → variant_empty t k ≡ true →
      (v : MValue) → IsTrue (builds_one (OneVariant k) v) → ¬ IsValue t true v
  pub variant_inhabited : (t : T) (k : ℕ) → IsType t → IsTrue (is_of_set (cx.set_of t) (OneVariant k)) → variant_empty t k ≡ false →
      (v : MValue) × IsTrue (builds_one (OneVariant k) v) × IsValue t true v

-- every type has a value at an unsure place
abbrev pub UnsureLaw : {T : Type 0} → (T → Type 0) → (T → Bool → MValue → Type 0) → Type 0
UnsureLaw {T} IsType IsValue = (t : T) → IsType t → (v : MValue) × IsValue t false v
