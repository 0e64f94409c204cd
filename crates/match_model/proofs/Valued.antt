-- Every type has a value at an unsure place, and at a sure one each that is marked.
use Rattle.std.proofs.Common.{◌≡◌, ℕ, zero, suc, pos, Bool, true, false, [], refl}
use Rattle.match_model.specs.Types.{DeclaredItem, OptionOwner, ResultOwner, MType, BoolType, CharType, StrType, NeverType, IntType, OpaqueType, TupleType, PointType, SliceType, ArrayType, NamedType, MTypes, no_types, more_types}
use Rattle.match_model.specs.Declarations.{MProgram, argument}
use Rattle.match_model.specs.Values.{Flag, Num, Text, Node, Row, Thing, Unseen, no_values, more_values}
use Rattle.match_model.specs.Typing.{is_value}
use Rattle.match_model.specs.RustTypes.{is_type, are_types, IsSoundProgram}
use Rattle.match_model.specs.Emptiness.{has_value, all_have_value}
use Rattle.match_model.proofs.Basics.{both, and_true}
use Rattle.match_model.proofs.Inhabited.{Found, AllFound, zero_is, untrue, not_zero, point_found, array_found, tuple_found, more_found}
use Rattle.match_model.proofs.Instances.{instance_found}

-- a value of the argument with this number
argument_found : (program : MProgram) (sure : Bool) (args : MTypes) (n : ℕ) → AllFound program sure args → Found program sure (argument args n)
argument_found program sure no_types n f = (Thing, refl)
argument_found program sure (more_types t ts) zero (more_values v vs, h) = (v, (both (is_value program sure t v) _ h).0)
argument_found program sure (more_types t ts) (suc n) (more_values v vs, h) =
    argument_found program sure ts n (vs, (both (is_value program sure t v) _ h).1)
argument_found program sure (more_types t ts) n (no_values, h) = absurd (untrue h)

ok_found : (program : MProgram) (sure : Bool) (args : MTypes) → Found program sure (argument args 0) → Found program sure (NamedType ResultOwner args)
ok_found program sure args (v, h) = (Node 0 (more_values v no_values), and_true _ true h refl)

module _ (program : MProgram) (sound : IsSoundProgram program) where
  mutual
    -- every type has a value at an unsure place
    pub unsure : (t : MType) → is_type program t ≡ true → Found program false t
    unsure BoolType d = (Flag true, refl)
    unsure CharType d = (Num (pos 0), refl)
    unsure StrType d = (Text [], refl)
    unsure NeverType d = (Unseen, refl)
    unsure (IntType kind) d = (Num (pos 0), zero_is program.width kind)
    unsure (OpaqueType name args) d = (Thing, refl)
    unsure (TupleType ts) d = tuple_found program false ts (all_unsure ts (both _ _ d).0)
    unsure (PointType m t) d = point_found program false m t (unsure t d)
    unsure (SliceType t) d = (Row no_values, refl)
    unsure (ArrayType t n) d = let r = unsure t (both _ _ d).0 in array_found program false t n r.0 r.1
    unsure (NamedType (DeclaredItem i) args) d =
        let b = both _ _ d in
        let some = sound.finite i b.0 in
        instance_found program (DeclaredItem i) some.0 args (λ n. argument_found program false args n (all_unsure args b.1)) (some.1, some.2)
    unsure (NamedType OptionOwner args) d = (Node 0 no_values, refl)
    unsure (NamedType ResultOwner args) d = ok_found program false args (argument_found program false args 0 (all_unsure args d))

    pub all_unsure : (ts : MTypes) → are_types program ts ≡ true → AllFound program false ts
    all_unsure no_types d = (no_values, refl)
    all_unsure (more_types t ts) d =
        let b = both (is_type program t) (are_types program ts) d in
        more_found program false t ts (unsure t b.0) (all_unsure ts b.1)

  module _ (marked : MType → Bool) (known : (t : MType) → is_type program t ≡ true → marked t ≡ true → Found program true t) where
    mutual
      -- a type that has a value by the marks has one
      pub sure : (t : MType) → is_type program t ≡ true → has_value true marked t ≡ true → Found program true t
      sure BoolType d h = (Flag true, refl)
      sure CharType d h = (Num (pos 0), refl)
      sure StrType d h = (Text [], refl)
      sure NeverType d h = absurd (untrue h)
      sure (IntType kind) d h = (Num (pos 0), zero_is program.width kind)
      sure (OpaqueType name args) d h = (Thing, refl)
      sure (TupleType ts) d h = tuple_found program true ts (all_sure ts (both _ _ d).0 h)
      sure (PointType m t) d h = point_found program true m t (unsure t d)
      sure (SliceType t) d h = (Row no_values, refl)
      sure (ArrayType t zero) d h = (Row no_values, refl)
      sure (ArrayType t (suc n)) d h = let r = sure t (both _ _ d).0 (not_zero n (has_value true marked t) h) in array_found program true t (suc n) r.0 r.1
      sure (NamedType owner args) d h = known (NamedType owner args) d h

      pub all_sure : (ts : MTypes) → are_types program ts ≡ true → all_have_value true marked ts ≡ true → AllFound program true ts
      all_sure no_types d h = (no_values, refl)
      all_sure (more_types t ts) d h =
          let b = both (is_type program t) (are_types program ts) d in
          let k = both (has_value true marked t) (all_have_value true marked ts) h in
          more_found program true t ts (sure t b.0 k.0) (all_sure ts b.1 k.1)
