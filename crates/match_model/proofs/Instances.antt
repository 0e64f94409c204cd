-- Where one instance of a declaration has a finite value, every instance has one whose arguments have: what stands at a parameter is
-- put in its place.
use Rattle.std.proofs.Common.{◌≡◌, ℕ, zero, suc, Bool, true, false, Option, Some, None, nat_eq, length, refl, ap, sym, ◌∙◌, arith}
use Rattle.std.specs.Prelude.{option_map}
use Rattle.match_model.specs.Types.{MOwner, MOpaque, StringName, F32Name, F64Name, BoxName, VecName, RcName, ArcName, ParameterName, MType, BoolType, CharType, StrType, NeverType, IntType, OpaqueType, TupleType, PointType, SliceType, ArrayType, NamedType, MTypes, no_types, more_types}
use Rattle.match_model.specs.Declarations.{MProgram, argument, filled, filled_all, declared, item_types, node_types}
use Rattle.match_model.specs.Values.{MValue, Node, Point, Row, Thing, Later, Unseen, MValues, no_values, more_values, values_list}
use Rattle.match_model.specs.Typing.{is_value, are_values, all_are_values, item_type, some_if}
use Rattle.match_model.proofs.Basics.{both, found, nat_equal, untrue, named_there, named_types}
use Rattle.match_model.proofs.Empty.{type_if_is}
use Rattle.match_model.proofs.Inhabited.{Found, AllFound, point_found, array_found, more_found, tuple_found}

argument_filled : (outer inner : MTypes) (n : ℕ) → filled outer (argument inner n) ≡ argument (filled_all outer inner) n
argument_filled outer no_types n = refl
argument_filled outer (more_types t ts) zero = refl
argument_filled outer (more_types t ts) (suc n) = argument_filled outer ts n

mutual
  -- filled twice is filled once, by arguments that are filled
  pub filled_twice : (outer inner : MTypes) (t : MType) → filled outer (filled inner t) ≡ filled (filled_all outer inner) t
  filled_twice outer inner BoolType = refl
  filled_twice outer inner CharType = refl
  filled_twice outer inner StrType = refl
  filled_twice outer inner NeverType = refl
  filled_twice outer inner (IntType kind) = refl
  filled_twice outer inner (OpaqueType (ParameterName n) ts) = argument_filled outer inner n
  filled_twice outer inner (OpaqueType StringName ts) = ap (OpaqueType StringName) (all_twice outer inner ts)
  filled_twice outer inner (OpaqueType F32Name ts) = ap (OpaqueType F32Name) (all_twice outer inner ts)
  filled_twice outer inner (OpaqueType F64Name ts) = ap (OpaqueType F64Name) (all_twice outer inner ts)
  filled_twice outer inner (OpaqueType BoxName ts) = ap (OpaqueType BoxName) (all_twice outer inner ts)
  filled_twice outer inner (OpaqueType VecName ts) = ap (OpaqueType VecName) (all_twice outer inner ts)
  filled_twice outer inner (OpaqueType RcName ts) = ap (OpaqueType RcName) (all_twice outer inner ts)
  filled_twice outer inner (OpaqueType ArcName ts) = ap (OpaqueType ArcName) (all_twice outer inner ts)
  filled_twice outer inner (TupleType ts) = ap TupleType (all_twice outer inner ts)
  filled_twice outer inner (PointType m t) = ap (PointType m) (filled_twice outer inner t)
  filled_twice outer inner (SliceType t) = ap SliceType (filled_twice outer inner t)
  filled_twice outer inner (ArrayType t n) = ap (λ u. ArrayType u n) (filled_twice outer inner t)
  filled_twice outer inner (NamedType owner ts) = ap (NamedType owner) (all_twice outer inner ts)

  pub all_twice : (outer inner ts : MTypes) → filled_all outer (filled_all inner ts) ≡ filled_all (filled_all outer inner) ts
  all_twice outer inner no_types = refl
  all_twice outer inner (more_types t ts) =
      ap (λ u. more_types u (filled_all outer (filled_all inner ts))) (filled_twice outer inner t)
      ∙ ap (more_types (filled (filled_all outer inner) t)) (all_twice outer inner ts)

is_item : (b : Bool) (t u : MType) → some_if b t ≡ Some u → t ≡ u
is_item true t u e = cc
is_item false t u e = cc

no_items : (n : ℕ) (t u : MType) → some_if (nat_eq 0 (suc n)) t ≡ Some u → ⊥
no_items n t u e =
    let same : 0 ≡ suc n = nat_equal 0 (suc n) (type_if_is (nat_eq 0 (suc n)) t u e).0 in
    omega (arith, same)

is_there : {A : Type 0} (o : Option A) (f : A → Bool) → (elim o [ None ↦ false | Some x ↦ f x ]) ≡ true → (elim o [ None ↦ false | Some x ↦ true ]) ≡ true
is_there None f h = h
is_there (Some x) f h = refl

-- the parts of a node of a filled type are those of a type that is to be filled
node_filled : (program : MProgram) (outer : MTypes) (owner : MOwner) (args : MTypes) (k : ℕ) (us : MTypes) →
    item_types (declared program owner) k ≡ Some us →
    node_types program (NamedType owner (filled_all outer args)) k ≡ Some (filled_all outer (filled_all args us))
node_filled program outer owner args k us e =
    named_types program owner (filled_all outer args) k ∙ go (item_types (declared program owner) k) e ∙ ap Some (sym (all_twice outer args us))
  where
    go : (o : Option MTypes) → o ≡ Some us → option_map (filled_all (filled_all outer args)) o ≡ Some (filled_all (filled_all outer args) us)
    go o e = rw e refl

node_value : (program : MProgram) (sure : Bool) (t : MType) (k : ℕ) (ts : MTypes) → node_types program t k ≡ Some ts → AllFound program sure ts → Found program sure t
node_value program sure t k ts e (vs, h) = (Node k vs, go (node_types program t k) e)
  where
    go : (o : Option MTypes) → o ≡ Some ts → (elim o [ None ↦ false | Some us ↦ are_values program sure us vs ]) ≡ true
    go o e = rw e h

point_there : {program : MProgram} (m k : Bool) (t u : MType) (v : MValue) → (is_value program false t v ≡ true → Found program false u) →
    is_value program false (PointType m t) (Point k v) ≡ true → Found program false (PointType m u)
point_there {program} true true t u v f h = point_found program false true u (f h)
point_there {program} false false t u v f h = point_found program false false u (f h)
point_there true false t u v f h = absurd (untrue h)
point_there false true t u v f h = absurd (untrue h)

module _ (program : MProgram) (given asked : MTypes) (held : (n : ℕ) → Found program false (argument asked n)) where
  opaque_there : (name : MOpaque) (ts : MTypes) → Found program false (filled asked (OpaqueType name ts))
  opaque_there (ParameterName n) ts = held n
  opaque_there StringName ts = (Thing, refl)
  opaque_there F32Name ts = (Thing, refl)
  opaque_there F64Name ts = (Thing, refl)
  opaque_there BoxName ts = (Thing, refl)
  opaque_there VecName ts = (Thing, refl)
  opaque_there RcName ts = (Thing, refl)
  opaque_there ArcName ts = (Thing, refl)

  mutual
    value_there : (t : MType) (v : MValue) → is_value program false (filled given t) v ≡ true → Found program false (filled asked t)
    value_there BoolType v h = (v, h)
    value_there CharType v h = (v, h)
    value_there StrType v h = (v, h)
    value_there NeverType v h = (v, h)
    value_there (IntType kind) v h = (v, h)
    value_there (OpaqueType name ts) v h = opaque_there name ts
    value_there (SliceType t) v h = (Row no_values, refl)
    value_there (ArrayType t zero) v h = (Row no_values, refl)
    value_there (ArrayType t (suc n)) (Row (more_values v vs)) h =
        let r = found (item_type (ArrayType (filled given t) (suc n)) (length (values_list (more_values v vs)))) (λ u. all_are_values program false u (more_values v vs)) h in
        let same : filled given t ≡ r.0 = is_item (nat_eq (suc (length (values_list vs))) (suc n)) (filled given t) r.0 r.1 in
        let f = value_there t v (ap (λ u. is_value program false u v) same ∙ (both (is_value program false r.0 v) _ r.2).0) in
        array_found program false (filled asked t) (suc n) f.0 f.1
    value_there (ArrayType t (suc n)) (Row no_values) h =
        let r = found (item_type (ArrayType (filled given t) (suc n)) 0) (λ u. true) (is_there (item_type (ArrayType (filled given t) (suc n)) 0) (λ u. all_are_values program false u no_values) h) in
        absurd (no_items n (filled given t) r.0 r.1)
    value_there (PointType m t) (Point k v) h = point_there m k (filled given t) (filled asked t) v (λ g. value_there t v g) h
    value_there (TupleType ts) (Node zero vs) h = tuple_found program false (filled_all asked ts) (values_there ts vs h)
    value_there (NamedType owner args) (Node k vs) h =
        let r = found (node_types program (NamedType owner (filled_all given args)) k) (λ ts. are_values program false ts vs) h in
        let there = named_there program owner (filled_all given args) k r.0 r.1 in
        let same : filled_all given (filled_all args there.0) ≡ r.0 = all_twice given args there.0 ∙ there.2 in
        node_value program false (NamedType owner (filled_all asked args)) k (filled_all asked (filled_all args there.0))
        (node_filled program asked owner args k there.0 there.1)
        (values_there (filled_all args there.0) vs (ap (λ ts. are_values program false ts vs) same ∙ r.2))
    value_there (NamedType owner args) Later h = (Later, h)
    value_there (NamedType owner args) Unseen h = (Unseen, h)
    value_there t v h = cc

    values_there : (ts : MTypes) (vs : MValues) → are_values program false (filled_all given ts) vs ≡ true → AllFound program false (filled_all asked ts)
    values_there no_types vs h = (no_values, refl)
    values_there (more_types t ts) (more_values v vs) h =
        let b = both (is_value program false (filled given t) v) _ h in
        more_found program false (filled asked t) (filled_all asked ts) (value_there t v b.0) (values_there ts vs b.1)
    values_there (more_types t ts) no_values h = absurd (untrue h)

-- a finite value of one instance of a declaration shows one of each other whose arguments have one
pub instance_found : (program : MProgram) (owner : MOwner) (given asked : MTypes) → ((n : ℕ) → Found program false (argument asked n)) →
    Found program false (NamedType owner given) → Found program false (NamedType owner asked)
instance_found program owner given asked held (Node k vs, h) =
    let r = found (node_types program (NamedType owner given) k) (λ ts. are_values program false ts vs) h in
    let there = named_there program owner given k r.0 r.1 in
    let f = values_there program given asked held there.0 vs (ap (λ ts. are_values program false ts vs) there.2 ∙ r.2) in
    node_value program false (NamedType owner asked) k (filled_all asked there.0) (here (item_types (declared program owner) k) there.1) f
  where
    here : {us : MTypes} (o : Option MTypes) → item_types (declared program owner) k ≡ Some us →
        node_types program (NamedType owner asked) k ≡ Some (filled_all asked us)
    here {us} o e = named_types program owner asked k ∙ ap (option_map (filled_all asked)) e
instance_found program owner given asked held (Later, h) = (Later, h)
instance_found program owner given asked held (Unseen, h) = (Unseen, h)
instance_found program owner given asked held (v, h) = cc
