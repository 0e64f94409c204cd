-- Witnesses of a type, of which one stands before the other, can be put in the order of arms.
use Rattle.std.proofs.Common.{◌≡◌, ◌∙◌, ◌⊎◌, inl, inr, List, [], ◌∷◌, refl, sym, ap, subst}
use Rattle.std.proofs.lemmas.Cmp.{int_cmp_total}
use Rattle.std.specs.declared.cmp.Ordering.TheVariants.{Less, Greater}
use Rattle.std.specs.Cmp.{IsTotalOrder}
use Rattle.std.specs.Cmp.Lexicographic.{slice_cmp, lists_total}
use Rattle.std.specs.Ordering.{int_cmp, ordering_reverse}
use Rattle.arm_maker.specs.Keys.{arm_key}
use Rattle.arm_maker.specs.Order.{compare_arm, ArmFirst, AreInArmOrder, IsOneFirst}
use Rattle.arm_maker.proofs.Agreeing.{Agrees}
use Rattle.arm_maker.proofs.KeysAgree.{keys_agree}
use Rattle.arm_maker.proofs.Lower.{Lower, lower_less}
use Rattle.arm_maker.proofs.Typed.{IsOfType}
use Rattle.match_model.specs.Declarations.{MProgram}
use Rattle.match_model.specs.Lists.{Every, Ordered, Among, SameMembers}
use Rattle.match_model.specs.Types.{MType}
use Rattle.match_model.specs.Witness.{MWitness}

every_of : {A : Type 0} (P : A → Type 0) (xs : List A) → ((x : A) → Among x xs → P x) → Every P xs
every_of P [] h = tt
every_of P (x ∷ xs) h = (h x (inl refl), every_of P xs (λ y a. h y (inr a)))

every_at : {A : Type 0} (P : A → Type 0) (xs : List A) → Every P xs → (x : A) → Among x xs → P x
every_at P [] h x a = absurd a
every_at P (y ∷ xs) h x (inl e) = subst P (sym e) h.0
every_at P (y ∷ xs) h x (inr a) = every_at P xs h.1 x a

every_map : {A : Type 0} (P Q : A → Type 0) (xs : List A) → ((x : A) → P x → Q x) → Every P xs → Every Q xs
every_map P Q [] f h = tt
every_map P Q (x ∷ xs) f h = (f x h.0, every_map P Q xs f h.1)

ordered_map : {A : Type 0} (R S : A → A → Type 0) (xs : List A) → ((x y : A) → R x y → S x y) → Ordered R xs → Ordered S xs
ordered_map R S [] f h = tt
ordered_map R S (x ∷ xs) f h = (every_map (R x) (S x) xs (f x) h.0, ordered_map R S xs f h.1)

-- where of two that are told apart one stands before the other, and no three stand in a ring, all can be put in an order
module _ {A : Type 0} (R Told : A → A → Type 0) (P : A → Type 0) (total : (x y : A) → P x → P y → Told x y → R x y ⊎ R y x) (no_ring : (x y z : A) → R x y → R y z → R z x → ⊥) where
  -- these and one more, in an order
  record Inserted (x : A) (ys : List A) : Type 0 where
    all : List A
    ordered : Ordered R all
    forth : (y : A) → Among y (x ∷ ys) → Among y all
    back : (y : A) → Among y all → Among y (x ∷ ys)

  -- the first one is put behind
  put_behind : (x y : A) (ys : List A) → R y x → Every (R y) ys → Inserted x ys → Inserted x (y ∷ ys)
  put_behind x y ys r after rest = record {
    all = y ∷ rest.all;
    ordered = (every_of (R y) rest.all (λ z a. place z (rest.back z a)), rest.ordered);
    forth = λ z a. there z a;
    back = λ z a. here z a;
  }
    where
      place : (z : A) → Among z (x ∷ ys) → R y z
      place z (inl e) = subst (R y) (sym e) r
      place z (inr a) = every_at (R y) ys after z a

      there : (z : A) → Among z (x ∷ y ∷ ys) → Among z (y ∷ rest.all)
      there z (inl e) = inr (rest.forth z (inl e))
      there z (inr (inl e)) = inl e
      there z (inr (inr a)) = inr (rest.forth z (inr a))

      turn : (z : A) → Among z (x ∷ ys) → Among z (x ∷ y ∷ ys)
      turn z (inl e) = inl e
      turn z (inr a) = inr (inr a)

      here : (z : A) → Among z (y ∷ rest.all) → Among z (x ∷ y ∷ ys)
      here z (inl e) = inr (inl e)
      here z (inr a) = turn z (rest.back z a)

  -- the first one is put in front
  put_before : (x y : A) (ys : List A) → P x → R x y → Ordered R (y ∷ ys) → Every P ys → ((z : A) → Among z ys → Told x z) → Inserted x (y ∷ ys)
  put_before x y ys px r ordered pys told = record {
    all = x ∷ y ∷ ys;
    ordered = ((r, every_of (R x) ys (λ z a. before z (every_at (R y) ys ordered.0 z a) (total x z px (every_at P ys pys z a) (told z a)))), ordered);
    forth = λ z a. a;
    back = λ z a. a;
  }
    where
      before : (z : A) → R y z → R x z ⊎ R z x → R x z
      before z s (inl q) = q
      before z s (inr q) = absurd (no_ring x y z r s q)

  insert : (x : A) (ys : List A) → P x → Every P ys → Ordered R ys → ((y : A) → Among y ys → Told x y) → Inserted x ys
  insert x [] px pys ordered told = record { all = x ∷ []; ordered = (tt, tt); forth = λ y a. a; back = λ y a. a }
  insert x (y ∷ ys) px pys ordered told = by (insert x ys px pys.1 ordered.1 (λ z a. told z (inr a))) (total x y px pys.0 (told y (inl refl)))
    where
      by : Inserted x ys → R x y ⊎ R y x → Inserted x (y ∷ ys)
      by rest (inl r) = put_before x y ys px r ordered pys.1 (λ z a. told z (inr a))
      by rest (inr r) = put_behind x y ys r ordered.0 rest

  -- all of them, in an order
  record Sorted (xs : List A) : Type 0 where
    all : List A
    ordered : Ordered R all
    same : SameMembers xs all

  sort : (xs : List A) → Every P xs → Ordered Told xs → Sorted xs
  sort [] pxs told = record { all = []; ordered = tt; same = record { forth = λ y a. a; back = λ y a. a } }
  sort (x ∷ xs) pxs told = by (sort xs pxs.1 told.1)
    where
      by : Sorted xs → Sorted (x ∷ xs)
      by rest = record { all = more.all; ordered = more.ordered; same = record { forth = λ y a. more.forth y (going y a); back = λ y a. coming y (more.back y a) } }
        where
          more : Inserted x rest.all
          more =
              insert x rest.all pxs.0 (every_of P rest.all (λ y a. every_at P xs pxs.1 y (rest.same.back y a))) rest.ordered
              (λ y a. every_at (Told x) xs told.0 y (rest.same.back y a))

          going : (y : A) → Among y (x ∷ xs) → Among y (x ∷ rest.all)
          going y (inl e) = inl e
          going y (inr a) = inr (rest.same.forth y a)

          coming : (y : A) → Among y (x ∷ rest.all) → Among y (x ∷ xs)
          coming y (inl e) = inl e
          coming y (inr a) = inr (rest.same.back y a)

-- ---- witnesses

module _ (program : MProgram) (t : MType) where
  -- it stands before the other among arms, and so do its numbers
  abbrev IsFirst : MWitness → MWitness → Type 0
  IsFirst w u = ArmFirst program t w u × Lower (arm_key program t w) (arm_key program t u)

  one_is_first : (w u : MWitness) → IsOfType program t w → IsOfType program t u → IsOneFirst w u → IsFirst w u ⊎ IsFirst u w
  one_is_first w u h g (inl e) =
      subst (λ c. Agrees c (compare_arm program t w u) (compare_arm program t u w) (arm_key program t w) (arm_key program t u)) e (keys_agree program t w u h g)
  one_is_first w u h g (inr e) =
      turned
      (subst (λ c. Agrees c (compare_arm program t u w) (compare_arm program t w u) (arm_key program t u) (arm_key program t w)) e (keys_agree program t u w g h))
    where
      turned : IsFirst u w ⊎ IsFirst w u → IsFirst w u ⊎ IsFirst u w
      turned (inl r) = inr r
      turned (inr r) = inl r

  -- numbers do not come before one another in a ring
  lists : IsTotalOrder (slice_cmp int_cmp)
  lists = lists_total int_cmp_total

  no_ring_of : (w u v : MWitness) → IsFirst w u → IsFirst u v → IsFirst v w → ⊥
  no_ring_of w u v a b c =
      let k = arm_key program t w in
      let l = arm_key program t u in
      let m = arm_key program t v in
      let through = lists.trans k l m (lower_less k l a.1) (lower_less l m b.1) in
      differ (sym (lower_less m k c.1) ∙ lists.antisymm m k ∙ ap ordering_reverse through)
    where
      differ : Less ≡ Greater → ⊥
      differ e = cc

  pub some_order : (ws : List MWitness) → Every (IsOfType program t) ws → Ordered IsOneFirst ws → (sorted : List MWitness) × AreInArmOrder program t ws sorted
  some_order ws typed told =
      let s = sort IsFirst IsOneFirst (IsOfType program t) one_is_first no_ring_of ws typed told in
      (s.all, record { same = s.same; ordered = ordered_map IsFirst (ArmFirst program t) s.all (λ x y r. r.0) s.ordered })
