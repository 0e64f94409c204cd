-- Which constructors of a type have values, by the laws of its context.
use Rattle.std.proofs.Common.{◌≡◌, ◌<◌, ◌≤◌, ◌⊎◌, inl, inr, ◌+◌, ℕ, ℤ, Bool, true, false, not, ◌&&◌, ◌||◌, List, [], ◌∷◌, length, Option, Some, None, IsTrue, nat_eq, nat_le, refl, sym, subst, ap, ◌∙◌, arith}
use Rattle.std.proofs.lemmas.Bool.Decides.{nat_tests}
use Rattle.match_model.specs.Values.{MValue, Node, Row, values_list}
use Rattle.match_model.specs.Numbers.{MEnd, Free, At, MRange, in_range, is_from, is_up_to, ends_ascend}
use Rattle.match_model.specs.Constructors.{MShape, FixedShape, LongerShape, covers, least_length, MCtor, SingleCtor, PointCtor, LaterCtor, OtherTextCtor, VariantCtor, FlagCtor, NumbersCtor, TextCtor, RowCtor, WildCtor, OrCtor, builds, MSet, SingleSet, PointSet, FlagSet, TextSet, OpaqueSet, NothingSet, VariantSet, NumberSet, RowSet, Elementary, OneSingle, OnePoint, OneLater, OneVariant, OneFlag, OneNumber, OneText, OneLength, elementary_ctor, builds_one, is_of_set, is_free, last_range, in_either, in_second, end_belongs, greatest_held, least_held, belongs, sure_inside}
use Rattle.match_model.specs.Contexts.{Context}
use Rattle.match_model.specs.ContextLaws.{BuiltOnce, ValueIs, ValuesLaw, PartsLaw, PartsAre, EmptyLaw, UnsureLaw, parts_count}
use Rattle.match_model.specs.Made.{IsForward, IsMadeSet}
use Rattle.match_model.specs.PieceStates.{HasValue}
use Rattle.match_model.proofs.Basics.{nat_itself, nat_equal, untrue, both}
use Rattle.match_model.proofs.TextOutside.{text_outside}
use Rattle.range_split.proofs.Pairs.{some_number}
use Rattle.pat_context.specs.Parts.{ctor_has_value, rows_have_value, Tells, CtorValuesAreTold}
use Rattle.pat_context.proofs.Building.{single_built, variant_built, point_built, later_built, flag_built, number_built, text_built, other_built, row_built}
use Rattle.pat_context.proofs.Chosen.{chosen_parts}
use Rattle.pat_context.proofs.Consequences.{can_be_built}
use Rattle.pat_context.proofs.RangeEnds.{low_in, high_in}

-- an elementary constructor of the set, all of whose values the constructor builds

abbrev IsFor : MCtor → Elementary → Type 0
IsFor PointCtor e = e ≡ OnePoint
IsFor LaterCtor e = e ≡ OneLater
IsFor (FlagCtor b) e = e ≡ OneFlag b
IsFor (NumbersCtor r) e = (n : ℤ) × (e ≡ OneNumber n)
IsFor (TextCtor t) e = e ≡ OneText t
IsFor OtherTextCtor e = (t : List ℕ) × (e ≡ OneText t)
IsFor _ e = Unit {0}

record Served (set : MSet) (named : List (List ℕ)) (c : MCtor) : Type 0 where
  pub by : Elementary
  pub of_set : is_of_set set by ≡ true
  pub is_for : IsFor c by
  pub build : (v : MValue) → builds_one by v ≡ true → builds named c v ≡ true

least_covers : (s : MShape) → covers s (least_length s) ≡ true
least_covers (FixedShape n) = nat_itself n
least_covers (LongerShape f b) = grind (arith, nat_tests)

-- a number of a range of the set, which is the set's
number_of : (first : MRange) (second : Option MRange) (r : MRange) → IsMadeSet (NumberSet first second) →
    belongs (NumberSet first second) (NumbersCtor r) ≡ true → ends_ascend r.low r.high ≡ true →
    (n : ℤ) × (in_range r n ≡ true) × (in_either first second n ≡ true)
number_of first second r m b up =
    let s = both (end_belongs (is_free first.low) least_held (in_either first second) r.low) (end_belongs (is_free (last_range first second).high) greatest_held (in_either first second) r.high) b in
    low r.low r.high refl refl s.0 s.1
  where
    all_free : (r : MRange) (n : ℤ) → r.low ≡ Free → r.high ≡ Free → in_range r n ≡ true
    all_free r n e f = ap (λ x. is_from x n && is_up_to r.high n) e ∙ ap (λ x. is_up_to x n) f

    low : (l h : MEnd) → r.low ≡ l → r.high ≡ h →
        end_belongs (is_free first.low) least_held (in_either first second) l ≡ true →
        end_belongs (is_free (last_range first second).high) greatest_held (in_either first second) h ≡ true →
        (n : ℤ) × (in_range r n ≡ true) × (in_either first second n ≡ true)
    low (At a) h e f p q =
        (a, low_in r a e up, (both (in_either first second a) (not (is_free first.low && Rattle.std.specs.Ordering.int_eq a least_held)) p).0)
    low Free (At k) e f p q =
        (k, high_in r k f up, (both (in_either first second k) (not (is_free (last_range first second).high && Rattle.std.specs.Ordering.int_eq k greatest_held)) q).0)
    low Free Free e f p q =
        let n = some_number first.low first.high m.0.up in
        (n.0, all_free r n.0 e f, ap (λ y. y || in_second second n.0) n.1)

served : (set : MSet) (named : List (List ℕ)) (c : MCtor) → IsMadeSet set → belongs set c ≡ true → IsForward c →
    Served set named c
served SingleSet named SingleCtor m h k = record { by = OneSingle; of_set = refl; is_for = tt; build = λ v b. single_built named v b }
served PointSet named PointCtor m h k = record { by = OnePoint; of_set = refl; is_for = refl; build = λ v b. point_built named v b }
served (VariantSet count later) named (VariantCtor j) m h k = record { by = OneVariant j; of_set = h; is_for = tt; build = λ v b. variant_built named j v b }
served (VariantSet count later) named LaterCtor m h k = record { by = OneLater; of_set = h; is_for = refl; build = λ v b. later_built named v b }
served FlagSet named (FlagCtor x) m h k = record { by = OneFlag x; of_set = refl; is_for = refl; build = λ v b. flag_built named x v b }
served (NumberSet first second) named (NumbersCtor r) m h k =
    let n = number_of first second r m h k in
    record { by = OneNumber n.0; of_set = n.2; is_for = (n.0, refl); build = λ v b. number_built named r n.0 n.1 v b }
served TextSet named (TextCtor t) m h k = record { by = OneText t; of_set = h; is_for = refl; build = λ v b. text_built named t v b }
served TextSet named OtherTextCtor m h k =
    let t = text_outside named in
    record { by = OneText t.0; of_set = t.1; is_for = (t.0, refl); build = λ v b. other_built named t.0 t.2 v b }
served (RowSet None) named (RowCtor s) m h k = record { by = OneLength (least_length s); of_set = refl; is_for = tt; build = λ v b. row_built named s (least_length s) (least_covers s) v b }
served (RowSet (Some n)) named (RowCtor s) m h k = record { by = OneLength n; of_set = nat_itself n; is_for = tt; build = λ v b. row_built named s n h v b }
served _ named c m h k = untrue h

unsure_inside : (c : MCtor) → sure_inside c false ≡ false
unsure_inside PointCtor = refl
unsure_inside _ = refl

-- a constructor builds what its elementary constructor builds, and no other variant
variant_back : (named : List (List ℕ)) (k : ℕ) (v : MValue) → builds named (VariantCtor k) v ≡ true →
    builds_one (OneVariant k) v ≡ true
variant_back named k (Node j parts) b = b
variant_back named k _ b = untrue b

single_by : (e : Elementary) (v : MValue) → is_of_set SingleSet e ≡ true → builds_one e v ≡ true →
    builds_one OneSingle v ≡ true
single_by OneSingle v h b = b
single_by _ v h b = untrue h

length_by : (n : ℕ) (e : Elementary) (v : MValue) → is_of_set (RowSet (Some n)) e ≡ true → builds_one e v ≡ true →
    builds_one (OneLength n) v ≡ true
length_by n (OneLength m) v h b = subst (λ k. builds_one (OneLength k) v ≡ true) (sym (nat_equal n m h)) b
length_by n _ v h b = untrue h

module _ {T : Type 0} (IsType : T → Type 0) (IsValue : T → Bool → MValue → Type 0) (cx : Context T) (values : ValuesLaw IsType IsValue cx) (parts : PartsLaw IsType IsValue cx) where
  abbrev Has : T → Bool → List (List ℕ) → MCtor → Type 0
  Has t sure named c = HasValue IsValue (record { type = t; sure = sure }) named c

  -- a value of the elementary constructor, from one for each part
  reach : (t : T) (sure : Bool) (named : List (List ℕ)) (c : MCtor) (e : Elementary) → IsType t →
      is_of_set (cx.set_of t) e ≡ true →
      ((i : ℕ) → i < parts_count cx t e → (v : MValue) × IsValue (cx.sub (elementary_ctor e) t i) (sure_inside (elementary_ctor e) sure) v) →
      ((v : MValue) → builds_one e v ≡ true → builds named c v ≡ true) → Has t sure named c
  reach t sure named c e d h each build =
      let p = chosen_parts IsType IsValue cx t e sure d h each in
      let b = can_be_built IsType IsValue cx parts t e sure p.0 d h p.1 in
      (b.value, b.is, build b.value b.build)

  -- behind an unsure place
  unsure_has : UnsureLaw IsType IsValue → (t : T) (named : List (List ℕ)) (c : MCtor) → IsType t →
      Served (cx.set_of t) named c → Has t false named c
  unsure_has unsure t named c d s =
      reach t false named c s.by d s.of_set
      (λ i l.
      let v = unsure (cx.sub (elementary_ctor s.by) t i) (parts.types t s.by i d s.of_set l) in
      (v.0, subst (λ b. IsValue (cx.sub (elementary_ctor s.by) t i) b v.0) (sym (unsure_inside (elementary_ctor s.by))) v.1))
      s.build

  -- without parts, or with a part behind a reference
  bare_has : (t : T) (sure : Bool) (named : List (List ℕ)) (c : MCtor) → IsType t →
      (s : Served (cx.set_of t) named c) → parts_count cx t s.by ≡ 0 → Has t sure named c
  bare_has t sure named c d s z = reach t sure named c s.by d s.of_set (λ i l. absurd (omega (arith, l, z))) s.build

  point_has : UnsureLaw IsType IsValue → (t : T) (sure : Bool) (named : List (List ℕ)) (c : MCtor) → IsType t →
      (s : Served (cx.set_of t) named c) → s.by ≡ OnePoint → Has t sure named c
  point_has unsure t sure named c d s e =
      reach t sure named c OnePoint d (subst (λ (x : Elementary). is_of_set (cx.set_of t) x ≡ true) e s.of_set)
      (λ i l. unsure (cx.sub PointCtor t i) (parts.types t OnePoint i d (subst (λ (x : Elementary). is_of_set (cx.set_of t) x ≡ true) e s.of_set) l))
      (λ v b. s.build v (subst (λ (x : Elementary). builds_one x v ≡ true) (sym e) b))

  -- rows of every length

  any_length : (t : T) (n : ℕ) → cx.set_of t ≡ RowSet None → is_of_set (cx.set_of t) (OneLength n) ≡ true
  any_length t n e = ap (λ s. is_of_set s (OneLength n)) e

  any_shape : (t : T) (s : MShape) → cx.set_of t ≡ RowSet None → IsTrue (belongs (cx.set_of t) (RowCtor s))
  any_shape t s e = ap (λ x. belongs x (RowCtor s)) e

  slice_has : (t : T) (sure : Bool) (named : List (List ℕ)) (s : MShape) → IsType t → cx.set_of t ≡ RowSet None →
      (least_length s ≡ 0) ⊎ ((v : MValue) × IsValue (cx.sub (RowCtor s) t 0) sure v) → Has t sure named (RowCtor s)
  slice_has t sure named s d e some =
      reach t sure named (RowCtor s) (OneLength (least_length s)) d (any_length t (least_length s) e) (each some) (λ v b. row_built named s (least_length s) (least_covers s) v b)
    where
      each : (least_length s ≡ 0) ⊎ ((v : MValue) × IsValue (cx.sub (RowCtor s) t 0) sure v) → (i : ℕ) →
          i < least_length s → (v : MValue) × IsValue (cx.sub (RowCtor (FixedShape (least_length s))) t i) sure v
      each (inl z) i l = absurd (omega (arith, l, z))
      each (inr (v, h)) i l =
          (v, subst (λ u. IsValue u sure v) (parts.items t s (FixedShape (least_length s)) 0 i d (any_shape t s e) (any_shape t (FixedShape (least_length s)) e)) h)

  slice_lacks : (t : T) (sure : Bool) (named : List (List ℕ)) (s : MShape) → IsType t → cx.set_of t ≡ RowSet None →
      0 < least_length s → ((v : MValue) → ¬ IsValue (cx.sub (RowCtor s) t 0) sure v) → ¬ Has t sure named (RowCtor s)
  slice_lacks t sure named s d e l none h = go h.0 h.1 h.2
    where
      least_of : (s : MShape) (n : ℕ) → covers s n ≡ true → least_length s ≤ n
      least_of (FixedShape m) n h = omega (arith, nat_equal m n h)
      least_of (LongerShape f b) n h = at_most (f + b) n h
        where
          at_most : (m n : ℕ) → nat_le m n ≡ true → m ≤ n
          at_most m n h = grind (arith, nat_tests)

      first : (vs : List MValue) (sub : ℕ → T) → 0 < length vs → PartsAre IsValue sure sub 0 vs →
          (v : MValue) × IsValue (sub 0) sure v
      first [] sub l p = absurd (omega arith)
      first (v ∷ vs) sub l p = (v, p.0)

      go : (v : MValue) → IsValue t sure v → builds named (RowCtor s) v ≡ true → ⊥
      go (Row items) i b =
          let n = length (values_list items) in
          let p = (parts.parts t (OneLength n) sure (Row items) d (any_length t n e) (nat_itself n) (λ x. cc)).0 i in
          let x = first (values_list items) (cx.sub (RowCtor (FixedShape n)) t) (omega (arith, least_of s n b)) p.1 in
          none x.0 (subst (λ (y : T). IsValue y sure x.0) (parts.items t (FixedShape n) s 0 0 d (any_shape t (FixedShape n) e) (any_shape t s e)) x.1)
      go _ i b = untrue b

  module _ (is_empty : T → Bool) (variant_empty : T → ℕ → Bool) (empty : EmptyLaw IsType IsValue cx is_empty variant_empty) (unsure : UnsureLaw IsType IsValue) where
    -- where the type has one elementary constructor
    whole_told : (t : T) (named : List (List ℕ)) (c : MCtor) → IsType t →
        ((v : MValue) → IsValue t true v → builds named c v ≡ true) → Tells (not (is_empty t)) (Has t true named c)
    whole_told t named c d build = go (is_empty t) refl
      where
        go : (b : Bool) → is_empty t ≡ b → Tells (not b) (Has t true named c)
        go true e = λ h. empty.empty t d e h.0 h.1
        go false e = let v = empty.inhabited t d e in (v.0, v.1, build v.0 v.1)

    single_told : (t : T) (named : List (List ℕ)) → IsType t → belongs (cx.set_of t) SingleCtor ≡ true →
        Tells (not (is_empty t)) (Has t true named SingleCtor)
    single_told t named d h = whole_told t named SingleCtor d (λ v i. go (cx.set_of t) h v (values.each t true v d i))
      where
        go : (s : MSet) → belongs s SingleCtor ≡ true → (v : MValue) → ValueIs s true v →
            builds named SingleCtor v ≡ true
        go SingleSet h v b = single_built named v (single_by b.by v b.of_set b.build)
        go _ h v b = untrue h

    array_told : (t : T) (named : List (List ℕ)) (s : MShape) (n : ℕ) → IsType t → cx.set_of t ≡ RowSet (Some n) →
        covers s n ≡ true → Tells (not (is_empty t)) (Has t true named (RowCtor s))
    array_told t named s n d e h =
        whole_told t named (RowCtor s) d
        (λ v i. let b : BuiltOnce (RowSet (Some n)) v = subst (λ (x : MSet). ValueIs x true v) e (values.each t true v d i) in row_built named s n h v (length_by n b.by v b.of_set b.build))

    variant_told : (t : T) (named : List (List ℕ)) (k : ℕ) → IsType t →
        is_of_set (cx.set_of t) (OneVariant k) ≡ true →
        Tells (not (variant_empty t k)) (Has t true named (VariantCtor k))
    variant_told t named k d h = go (variant_empty t k) refl
      where
        go : (b : Bool) → variant_empty t k ≡ b → Tells (not b) (Has t true named (VariantCtor k))
        go true e = λ x. empty.variant_is_empty t k d h e x.0 (variant_back named k x.0 x.2) x.1
        go false e = let v = empty.variant_inhabited t k d h e in (v.0, v.2, variant_built named k v.0 v.1)

    slice_told : (t : T) (named : List (List ℕ)) (s : MShape) → IsType t → cx.set_of t ≡ RowSet None →
        Tells (nat_eq (least_length s) 0 || not (is_empty (cx.sub (RowCtor s) t 0))) (Has t true named (RowCtor s))
    slice_told t named s d e = go (nat_eq (least_length s) 0) (is_empty (cx.sub (RowCtor s) t 0)) refl refl
      where
        item : IsType (cx.sub (RowCtor s) t 0)
        item = parts.item_types t s 0 d (any_shape t s e)

        more : (n : ℕ) → nat_eq n 0 ≡ false → 0 < n
        more n h = grind (arith, nat_tests)

        go : (z i : Bool) → nat_eq (least_length s) 0 ≡ z → is_empty (cx.sub (RowCtor s) t 0) ≡ i →
            Tells (z || not i) (Has t true named (RowCtor s))
        go true i f g = slice_has t true named s d e (inl (nat_equal (least_length s) 0 f))
        go false true f g =
            slice_lacks t true named s d e (more (least_length s) f) (λ v. empty.empty (cx.sub (RowCtor s) t 0) item g v)
        go false false f g = slice_has t true named s d e (inr (empty.inhabited (cx.sub (RowCtor s) t 0) item g))

    rows_told : (t : T) (named : List (List ℕ)) (s : MShape) (set : MSet) → IsType t → cx.set_of t ≡ set →
        belongs set (RowCtor s) ≡ true →
        Tells (rows_have_value set (is_empty t) (is_empty (cx.sub (RowCtor s) t 0)) s) (Has t true named (RowCtor s))
    rows_told t named s (RowSet None) d e h = slice_told t named s d e
    rows_told t named s (RowSet (Some n)) d e h = array_told t named s n d e h
    rows_told t named s SingleSet d e h = untrue h
    rows_told t named s PointSet d e h = untrue h
    rows_told t named s FlagSet d e h = untrue h
    rows_told t named s TextSet d e h = untrue h
    rows_told t named s OpaqueSet d e h = untrue h
    rows_told t named s NothingSet d e h = untrue h
    rows_told t named s (VariantSet c l) d e h = untrue h
    rows_told t named s (NumberSet a b) d e h = untrue h

    variant_of : (set : MSet) (k : ℕ) → belongs set (VariantCtor k) ≡ true → is_of_set set (OneVariant k) ≡ true
    variant_of (VariantSet count later) k h = h
    variant_of _ k h = untrue h

    no_wild : (set : MSet) → belongs set WildCtor ≡ true → ⊥
    no_wild SingleSet h = cc
    no_wild PointSet h = cc
    no_wild FlagSet h = cc
    no_wild TextSet h = cc
    no_wild OpaqueSet h = cc
    no_wild NothingSet h = cc
    no_wild (VariantSet c l) h = cc
    no_wild (NumberSet a b) h = cc
    no_wild (RowSet l) h = cc

    no_or : (set : MSet) → belongs set OrCtor ≡ true → ⊥
    no_or SingleSet h = cc
    no_or PointSet h = cc
    no_or FlagSet h = cc
    no_or TextSet h = cc
    no_or OpaqueSet h = cc
    no_or NothingSet h = cc
    no_or (VariantSet c l) h = cc
    no_or (NumberSet a b) h = cc
    no_or (RowSet l) h = cc

    sure_told : (t : T) (named : List (List ℕ)) (c : MCtor) → IsType t → belongs (cx.set_of t) c ≡ true →
        Served (cx.set_of t) named c → Tells (ctor_has_value cx is_empty variant_empty t true c) (Has t true named c)
    sure_told t named SingleCtor d h s = single_told t named d h
    sure_told t named (VariantCtor k) d h s = variant_told t named k d (variant_of (cx.set_of t) k h)
    sure_told t named (RowCtor r) d h s = rows_told t named r (cx.set_of t) d refl h
    sure_told t named PointCtor d h s = point_has unsure t true named PointCtor d s s.is_for
    sure_told t named LaterCtor d h s = bare_has t true named LaterCtor d s (ap (parts_count cx t) s.is_for)
    sure_told t named (FlagCtor b) d h s = bare_has t true named (FlagCtor b) d s (ap (parts_count cx t) s.is_for)
    sure_told t named (NumbersCtor r) d h s =
        bare_has t true named (NumbersCtor r) d s (ap (parts_count cx t) s.is_for.1)
    sure_told t named (TextCtor u) d h s = bare_has t true named (TextCtor u) d s (ap (parts_count cx t) s.is_for)
    sure_told t named OtherTextCtor d h s = bare_has t true named OtherTextCtor d s (ap (parts_count cx t) s.is_for.1)
    sure_told t named WildCtor d h s = absurd (no_wild (cx.set_of t) h)
    sure_told t named OrCtor d h s = absurd (no_or (cx.set_of t) h)

    pub ctor_values_told : CtorValuesAreTold IsType IsValue cx is_empty variant_empty
    ctor_values_told o named c d h m = go o.sure
      where
        s : Served (cx.set_of o.type) named c
        s = served (cx.set_of o.type) named c (values.made o.type d) h m

        go : (sure : Bool) →
            Tells (ctor_has_value cx is_empty variant_empty o.type sure c)
            (HasValue IsValue (record { type = o.type; sure = sure }) named c)
        go true = sure_told o.type named c d h s
        go false = unsure_has unsure o.type named c d s
