-- Values at the open places of a constructor's parts, and which constructors of a type have values.
use Rattle.std.specs.Prelude.{◌≡◌, ◌⊎◌, ⊤, ℕ, Bool, true, false, not, ◌||◌, List, [], ◌∷◌, length, nat_eq, None, IsTrue}
use Rattle.match_model.specs.Values.{MValue}
use Rattle.match_model.specs.Constructors.{MShape, MCtor, SingleCtor, VariantCtor, RowCtor, WildCtor, OrCtor, MSet, RowSet, OpaqueSet, NothingSet, least_length, belongs, builds}
use Rattle.match_model.specs.Contexts.{Context, Open}
use Rattle.match_model.specs.ArenaPatterns.{MDePat, ctor_of}
use Rattle.match_model.specs.Made.{IsForward}
use Rattle.match_model.specs.Rows.{parts_open}
use Rattle.match_model.specs.Witness.{parts_under}
use Rattle.match_model.specs.WellTyped.{IsTyped}
use Rattle.match_model.specs.PieceStates.{HasValue}

-- each value is one of its open place
abbrev pub AreValues : {T : Type 0} → (T → Bool → MValue → Type 0) → List (Open T) → List MValue → Type 0
AreValues IsValue [] [] = ⊤
AreValues IsValue [] (v ∷ vs) = ⊥
AreValues IsValue (o ∷ places) [] = ⊥
AreValues IsValue (o ∷ places) (v ∷ vs) = IsValue o.type o.sure v × AreValues IsValue places vs

-- of a value that a constructor of its type's set builds, the parts that the constructor meets (of a row with a rest those
-- at both ends) are as many as it has, and values of their open places
abbrev pub MetPartsAreValues : {T : Type 0} → (T → Type 0) → (T → Bool → MValue → Type 0) → Context T → Type 0
MetPartsAreValues {T} IsType IsValue cx =
    (o : Open T) (c : MCtor) (named : List (List ℕ)) (v : MValue) → IsType o.type → IsTrue (belongs (cx.set_of o.type) c) →
    IsValue o.type o.sure v → IsTrue (builds named c v) →
    (length (parts_under c v) ≡ cx.arity c o.type) × AreValues IsValue (parts_open cx o c) (parts_under c v)

-- a value of the open place that the constructor builds, and of which it meets these parts
pub record IsRefilled {T : Type 0} (IsValue : T → Bool → MValue → Type 0) (o : Open T) (named : List (List ℕ)) (c : MCtor) (wanted : List MValue) : Type 0 where
  pub value : MValue
  pub is : IsValue o.type o.sure value
  pub build : IsTrue (builds named c value)
  pub parts : parts_under c value ≡ wanted

-- from a value that a constructor builds, and values for the open places of its parts, there is another value with these
-- parts: so from an array and values for both its ends an array with these ends
abbrev pub ValuesCanBeRefilled : {T : Type 0} → (T → Type 0) → (T → Bool → MValue → Type 0) → Context T → Type 0
ValuesCanBeRefilled {T} IsType IsValue cx =
    (o : Open T) (c : MCtor) (named : List (List ℕ)) (v : MValue) (parts : List MValue) → IsType o.type →
    IsTrue (belongs (cx.set_of o.type) c) → IsValue o.type o.sure v → IsTrue (builds named c v) →
    AreValues IsValue (parts_open cx o c) parts → IsRefilled IsValue o named c parts

-- whether rows of a shape have a value at a sure place: of a type with rows of every length those of least length 0, and
-- where an item has a value all; of an array those of its one length, where it has a value
abbrev pub rows_have_value : MSet → (is_empty item_is_empty : Bool) → MShape → Bool
rows_have_value (RowSet None) e i s = nat_eq (least_length s) 0 || not i
rows_have_value _ e i s = not e

-- whether the constructor builds a value of the type at such a place, by what the context says of emptiness: behind an
-- unsure place nothing is empty
abbrev pub ctor_has_value : {T : Type 0} → Context T → (is_empty : T → Bool) → (variant_empty : T → ℕ → Bool) → (t : T) → (sure : Bool) → MCtor → Bool
ctor_has_value cx is_empty variant_empty t false c = true
ctor_has_value cx is_empty variant_empty t true SingleCtor = not (is_empty t)
ctor_has_value cx is_empty variant_empty t true (VariantCtor k) = not (variant_empty t k)
ctor_has_value cx is_empty variant_empty t true (RowCtor s) =
    rows_have_value (cx.set_of t) (is_empty t) (is_empty (cx.sub (RowCtor s) t 0)) s
ctor_has_value cx is_empty variant_empty t true _ = true

-- what a test says of a claim: it holds where the test does, else not
abbrev pub Tells : Bool → Type 0 → Type 0
Tells true P = P
Tells false P = ¬ P

-- which constructors of a type have values is told by emptiness, set by set
abbrev pub CtorValuesAreTold : {T : Type 0} → (T → Type 0) → (T → Bool → MValue → Type 0) → Context T → (is_empty : T → Bool) → (variant_empty : T → ℕ → Bool) → Type 0
CtorValuesAreTold {T} IsType IsValue cx is_empty variant_empty =
    (o : Open T) (named : List (List ℕ)) (c : MCtor) → IsType o.type → IsTrue (belongs (cx.set_of o.type) c) → IsForward c →
    Tells (ctor_has_value cx is_empty variant_empty o.type o.sure c) (HasValue IsValue o named c)

-- a pattern of an opaque type, or of a type without constructors, is a wildcard or an or-pattern
abbrev pub BarePatternsAreWild : {T : Type 0} → Context T → Type 0
BarePatternsAreWild {T} cx =
    (t : T) (p : MDePat T) → (cx.set_of t ≡ OpaqueSet) ⊎ (cx.set_of t ≡ NothingSet) → IsTyped cx t p →
    (ctor_of p ≡ WildCtor) ⊎ (ctor_of p ≡ OrCtor)
