-- The type at a place: a step to a part of a constructor of the type leads to the part's type.
use Rattle.std.proofs.Common.{◌≡◌, ◌<◌, ◌≤◌, ℕ, zero, suc, ◌+◌, ◌-◌, Bool, true, false, ◌&&◌, cond, List, [], ◌∷◌, ◌++◌, nat_eq, nat_lt, nat_le, Option, Some, None, refl, sym, ap, ◌∙◌, subst, arith}
use Rattle.std.proofs.lemmas.Bool.Decides.{nat_tests}
use Rattle.match_model.specs.Values.{MValue}
use Rattle.match_model.specs.Constructors.{FixedShape, LongerShape, MShape, MCtor, SingleCtor, PointCtor, LaterCtor, OtherTextCtor, VariantCtor, FlagCtor, NumbersCtor, TextCtor, RowCtor, MSet, SingleSet, PointSet, FlagSet, TextSet, VariantSet, NumberSet, RowSet, least_length, shape_belongs, belongs}
use Rattle.match_model.specs.Contexts.{Context}
use Rattle.match_model.specs.ContextLaws.{PartsLaw}
use Rattle.match_model.specs.Places.{MStep, ThroughStep, FieldStep, FrontStep, BackStep, MiddleStep}
use Rattle.match_model.specs.Matrices.{part_step}
use Rattle.match_model.specs.OfType.{has_ctor, entered, type_entered, type_at_place, place_is_of}
use Rattle.match_model.proofs.Basics.{and_true, untrue}

module _ {T : Type 0} (cx : Context T) where
  entered-is : (t : T) (k : MCtor) (i : ℕ) → has_ctor cx t k ≡ true → nat_lt i (cx.arity k t) ≡ true →
      type_entered cx t (Some (record { ctor = k; part = i })) ≡ Some (cx.sub k t i)
  entered-is t k i h l =
      go (has_ctor cx t k && nat_lt i (cx.arity k t)) (and_true (has_ctor cx t k) (nat_lt i (cx.arity k t)) h l)
    where
      go : (b : Bool) → b ≡ true → (elim b [ true ↦ Some (cx.sub k t i) | false ↦ None ]) ≡ Some (cx.sub k t i)
      go true e = refl
      go false e = cc

  -- one step further
  pub type-behind : (root t u : T) (place : List MStep) (s : MStep) → type_at_place cx root place ≡ Some t →
      type_entered cx t (entered (cx.set_of t) s) ≡ Some u → type_at_place cx root (place ++ s ∷ []) ≡ Some u
  type-behind root t u [] s e h =
      let same : t ≡ root = some-is t root (sym e) in
      ap (λ o. elim o [ None ↦ None | Some w ↦ Some w ]) (subst
      (λ x. type_entered cx x (entered (cx.set_of x) s) ≡ Some u) same h)
    where
      some-is : (x y : T) → Some x ≡ Some y → x ≡ y
      some-is x y e = cc
  type-behind root t u (r ∷ place) s e h =
      go (type_entered cx root (entered (cx.set_of root) r)) e (λ w k. type-behind w t u place s k h)
    where
      go : (o : Option T) → (elim o [ None ↦ None | Some w ↦ type_at_place cx w place ]) ≡ Some t →
          ((w : T) → type_at_place cx w place ≡ Some t → type_at_place cx w (place ++ s ∷ []) ≡ Some u) →
          (elim o [ None ↦ None | Some w ↦ type_at_place cx w (place ++ s ∷ []) ]) ≡ Some u
      go None e ih = cc
      go (Some w) e ih = ih w e

  place-step : (t u : T) (s : MStep) (steps : List MStep) → type_entered cx t (entered (cx.set_of t) s) ≡ Some u →
      place_is_of cx u steps ≡ true → place_is_of cx t (s ∷ steps) ≡ true
  place-step t u ThroughStep steps e h = ap (λ o. elim o [ None ↦ false | Some w ↦ place_is_of cx w steps ]) e ∙ h
  place-step t u (FieldStep k i) steps e h = ap (λ o. elim o [ None ↦ false | Some w ↦ place_is_of cx w steps ]) e ∙ h
  place-step t u (FrontStep i) steps e h = ap (λ o. elim o [ None ↦ false | Some w ↦ place_is_of cx w steps ]) e ∙ h
  place-step t u (BackStep i) steps e h = ap (λ o. elim o [ None ↦ false | Some w ↦ place_is_of cx w steps ]) e ∙ h
  place-step t u (MiddleStep f b) steps e h = cc

  -- a place with a type, and what stands behind it, is of the type
  pub place-behind : (root t : T) (place rest : List MStep) → type_at_place cx root place ≡ Some t →
      place_is_of cx t rest ≡ true → place_is_of cx root (place ++ rest) ≡ true
  place-behind root t [] rest e h =
      let same : t ≡ root = some-is t root (sym e) in
      subst (λ x. place_is_of cx x rest ≡ true) same h
    where
      some-is : (x y : T) → Some x ≡ Some y → x ≡ y
      some-is x y e = cc
  place-behind root t (s ∷ place) rest e h =
      go (type_entered cx root (entered (cx.set_of root) s)) refl e (λ w k. place-behind w t place rest k h)
    where
      go : (o : Option T) → type_entered cx root (entered (cx.set_of root) s) ≡ o →
          (elim o [ None ↦ None | Some w ↦ type_at_place cx w place ]) ≡ Some t →
          ((w : T) → type_at_place cx w place ≡ Some t → place_is_of cx w (place ++ rest) ≡ true) →
          place_is_of cx root (s ∷ (place ++ rest)) ≡ true
      go None q e ih = cc
      go (Some w) q e ih = place-step root w s (place ++ rest) q (ih w e)

lt_true : (m n : ℕ) → m < n → nat_lt m n ≡ true
lt_true m n h = grind (arith, nat_tests)

module _ {T : Type 0} (IsType : T → Type 0) (V : T → Bool → MValue → Type 0) (cx : Context T)
    (law : PartsLaw IsType V cx) (t : T) (type : IsType t) where
  abbrev Led : MSet → MCtor → ℕ → Type 0
  Led set p i = type_entered cx t (entered set (part_step p i)) ≡ Some (cx.sub p t i)

  -- a step to an item, by a shape with so many items at that end
  item : (len : Option ℕ) (s p : MShape) (i j : ℕ) → cx.set_of t ≡ RowSet len → shape_belongs len s ≡ true →
      shape_belongs len p ≡ true → i < cx.arity (RowCtor s) t → type_entered cx t (Some
      (record { ctor = RowCtor s; part = i })) ≡ Some (cx.sub (RowCtor p) t j)
  item len s p i j q bs bp l =
      let one : belongs (cx.set_of t) (RowCtor s) ≡ true = subst (λ x. belongs x (RowCtor s) ≡ true) (sym q) bs in
      let other : belongs (cx.set_of t) (RowCtor p) ≡ true = subst (λ x. belongs x (RowCtor p) ≡ true) (sym q) bp in
      entered-is cx t (RowCtor s) i one (lt_true i (cx.arity (RowCtor s) t) l)
      ∙ ap Some (law.items t s p i j type one other)

  front_fits : (len : Option ℕ) (p : MShape) (n i : ℕ) → i < n → ((m : ℕ) → len ≡ Some m → n ≤ m) →
      shape_belongs len (LongerShape (suc i) 0) ≡ true
  front_fits None p n i l f = refl
  front_fits (Some m) p n i l f = let k : n ≤ m = f m refl in le_true (suc i + 0) m (omega (arith, k, l))
    where
      le_true : (a b : ℕ) → a ≤ b → nat_le a b ≡ true
      le_true a b h = grind (arith, nat_tests)

  back_fits : (len : Option ℕ) (p : MShape) (n i : ℕ) → i < n → ((m : ℕ) → len ≡ Some m → n ≤ m) →
      shape_belongs len (LongerShape 0 (suc i)) ≡ true
  back_fits None p n i l f = refl
  back_fits (Some m) p n i l f = let k : n ≤ m = f m refl in le_true (0 + suc i) m (omega (arith, k, l))
    where
      le_true : (a b : ℕ) → a ≤ b → nat_le a b ≡ true
      le_true a b h = grind (arith, nat_tests)

  some-number : (m n : ℕ) → Some m ≡ Some n → m ≡ n
  some-number m n e = cc

  least : (len : Option ℕ) (p : MShape) (n : ℕ) → shape_belongs len p ≡ true → (m : ℕ) → len ≡ Some m →
      n ≡ least_length p → n ≤ m
  least None p n h m e q = cc
  least (Some l) (FixedShape k) n h m e q =
      let s : l ≡ m = some-number l m e in let r : k ≡ l = nat_is k l h in omega (arith, s, r, q)
    where
      nat_is : (a b : ℕ) → nat_eq a b ≡ true → a ≡ b
      nat_is a b h = grind (arith, nat_tests)
  least (Some l) (LongerShape f b) n h m e q =
      let s : l ≡ m = some-number l m e in let r : f + b ≤ l = le_is (f + b) l h in omega (arith, s, r, q)
    where
      le_is : (a b : ℕ) → nat_le a b ≡ true → a ≤ b
      le_is a b h = grind (arith, nat_tests)

  no-part : {A : Type 0} (n i : ℕ) → n ≡ 0 → i < n → A
  no-part n i e l = absurd (omega (arith, e, l))

  by-set : (set : MSet) → cx.set_of t ≡ set → (p : MCtor) (i : ℕ) → belongs set p ≡ true → i < cx.arity p t →
      Led set p i
  by-set SingleSet q SingleCtor i b l =
      entered-is cx t SingleCtor i (subst (λ x. belongs x SingleCtor ≡ true) (sym q) refl)
      (lt_true i (cx.arity SingleCtor t) l)
  by-set PointSet q PointCtor i b l =
      let has : belongs (cx.set_of t) PointCtor ≡ true = subst (λ x. belongs x PointCtor ≡ true) (sym q) refl in
      let one : cx.arity PointCtor t ≡ 1 = law.arity t PointCtor type has in
      let first : i ≡ 0 = omega (arith, one, l) in
      entered-is cx t PointCtor 0 has (lt_true 0 (cx.arity PointCtor t) (omega (arith, one))) ∙ ap (λ x. Some
      (cx.sub PointCtor t x)) (sym first)
  by-set (VariantSet n later) q (VariantCtor k) i b l =
      entered-is cx t (VariantCtor k) i (subst (λ x. belongs x (VariantCtor k) ≡ true) (sym q) b)
      (lt_true i (cx.arity (VariantCtor k) t) l)
  by-set (VariantSet n later) q LaterCtor i b l =
      no-part (cx.arity LaterCtor t) i (law.arity t LaterCtor type
      (subst (λ x. belongs x LaterCtor ≡ true) (sym q) b)) l
  by-set FlagSet q (FlagCtor c) i b l =
      no-part (cx.arity (FlagCtor c) t) i (law.arity t (FlagCtor c) type
      (subst (λ x. belongs x (FlagCtor c) ≡ true) (sym q) b)) l
  by-set (NumberSet first second) q (NumbersCtor r) i b l =
      no-part (cx.arity (NumbersCtor r) t) i (law.arity t (NumbersCtor r) type
      (subst (λ x. belongs x (NumbersCtor r) ≡ true) (sym q) b)) l
  by-set TextSet q (TextCtor u) i b l =
      no-part (cx.arity (TextCtor u) t) i (law.arity t (TextCtor u) type
      (subst (λ x. belongs x (TextCtor u) ≡ true) (sym q) b)) l
  by-set TextSet q OtherTextCtor i b l =
      no-part (cx.arity OtherTextCtor t) i (law.arity t OtherTextCtor type
      (subst (λ x. belongs x OtherTextCtor ≡ true) (sym q) b)) l
  by-set (RowSet len) q (RowCtor (FixedShape n)) i b l =
      let count : cx.arity (RowCtor (FixedShape n)) t ≡ n = law.arity t (RowCtor (FixedShape n)) type
      (subst (λ x. belongs x (RowCtor (FixedShape n)) ≡ true) (sym q) b) in
      let fits : shape_belongs len (LongerShape (suc i) 0) ≡ true = front_fits len (FixedShape n) n i
      (omega (arith, l, count)) (λ m e. least len (FixedShape n) n b m e refl) in
      front len (FixedShape n) i q fits b
    where
      front : (len : Option ℕ) (p : MShape) (i : ℕ) → cx.set_of t ≡ RowSet len →
          shape_belongs len (LongerShape (suc i) 0) ≡ true → shape_belongs len p ≡ true →
          type_entered cx t (Some (record { ctor = RowCtor (LongerShape (suc i) 0); part = i })) ≡ Some
          (cx.sub (RowCtor p) t i)
      front len p i q f b =
          let items : cx.arity (RowCtor (LongerShape (suc i) 0)) t ≡ suc i + 0 = law.arity t
          (RowCtor (LongerShape (suc i) 0)) type (subst (λ x. belongs x (RowCtor (LongerShape (suc i) 0)) ≡ true)
          (sym q) f) in
          item len (LongerShape (suc i) 0) p i i q f b (omega (arith, items))
  by-set (RowSet len) q (RowCtor (LongerShape f c)) i b l =
      let count : cx.arity (RowCtor (LongerShape f c)) t ≡ f + c = law.arity t (RowCtor (LongerShape f c)) type
      (subst (λ x. belongs x (RowCtor (LongerShape f c)) ≡ true) (sym q) b) in
      go (nat_lt i f) (f + c - i) refl (omega (arith, l, count))
    where
      front : shape_belongs len (LongerShape (suc i) 0) ≡ true → type_entered cx t (Some
          (record { ctor = RowCtor (LongerShape (suc i) 0); part = i })) ≡ Some (cx.sub (RowCtor (LongerShape f c)) t i)
      front g =
          let items : cx.arity (RowCtor (LongerShape (suc i) 0)) t ≡ suc i + 0 = law.arity t
          (RowCtor (LongerShape (suc i) 0)) type (subst (λ x. belongs x (RowCtor (LongerShape (suc i) 0)) ≡ true)
          (sym q) g) in
          item len (LongerShape (suc i) 0) (LongerShape f c) i i q g b (omega (arith, items))

      back : (j : ℕ) → shape_belongs len (LongerShape 0 (suc j)) ≡ true →
          type_entered cx t (Some (record { ctor = RowCtor (LongerShape 0 (suc j)); part = 0 })) ≡ Some
          (cx.sub (RowCtor (LongerShape f c)) t i)
      back j g =
          let items : cx.arity (RowCtor (LongerShape 0 (suc j))) t ≡ 0 + suc j = law.arity t
          (RowCtor (LongerShape 0 (suc j))) type (subst (λ x. belongs x (RowCtor (LongerShape 0 (suc j))) ≡ true)
          (sym q) g) in
          item len (LongerShape 0 (suc j)) (LongerShape f c) 0 i q g b (omega (arith, items))

      go : (before : Bool) (rest : ℕ) → rest ≡ f + c - i → i < f + c →
          type_entered cx t (entered (RowSet len) (cond before (FrontStep i) (BackStep rest))) ≡ Some
          (cx.sub (RowCtor (LongerShape f c)) t i)
      go true rest e l =
          front (front_fits len (LongerShape f c) (f + c) i l (λ m d. least len (LongerShape f c) (f + c) b m d refl))
      go false zero e l = absurd (omega (arith, e, l))
      go false (suc j) e l =
          back j (back_fits len (LongerShape f c) (f + c) j (omega (arith, e, l))
          (λ m d. least len (LongerShape f c) (f + c) b m d refl))
  by-set _ q p i b l = untrue b

  -- the step to part `i` of a constructor of the type leads to the part's type
  pub part-entered : (p : MCtor) (i : ℕ) → belongs (cx.set_of t) p ≡ true → i < cx.arity p t →
      type_entered cx t (entered (cx.set_of t) (part_step p i)) ≡ Some (cx.sub p t i)
  part-entered p i b l = by-set (cx.set_of t) refl p i b l
