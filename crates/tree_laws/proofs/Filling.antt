-- Values at the places of columns, when one column is replaced_at.
use Rattle.std.proofs.Common.{◌≡◌, ℕ, zero, suc, Bool, List, [], ◌∷◌, ◌++◌, Some, slice_get, refl, sym, ap, subst}
use Rattle.match_model.specs.Values.{MValue}
use Rattle.match_model.specs.Places.{part_at}
use Rattle.match_model.specs.Matrices.{MColumn}
use Rattle.match_model.specs.Steps.{replaced_at}
use Rattle.keyed_steps.specs.Filled.{AreValues, ArePartsAt, IsHeld, HaveValues}

some-is : {A : Type 0} (x y : A) → Some x ≡ Some y → x ≡ y
some-is x y e = cc

module _ {T : Type 0} (V : T → Bool → MValue → Type 0) where
  values-append : (ns cs : List (MColumn T)) (ws us : List MValue) → AreValues V ns ws → AreValues V cs us →
      AreValues V (ns ++ cs) (ws ++ us)
  values-append [] cs [] us a b = b
  values-append [] cs (w ∷ ws) us a b = elim a [ ]
  values-append (n ∷ ns) cs [] us a b = elim a [ ]
  values-append (n ∷ ns) cs (w ∷ ws) us a b = (a.0, values-append ns cs ws us a.1 b)

  -- values of some columns and those behind them
  pub record Split (ns cs : List (MColumn T)) (us : List MValue) : Type 0 where
    pub front : List MValue
    pub back : List MValue
    pub is : us ≡ front ++ back
    pub front_are : AreValues V ns front
    pub back_are : AreValues V cs back

  values-split : (ns cs : List (MColumn T)) (us : List MValue) → AreValues V (ns ++ cs) us → Split ns cs us
  values-split [] cs us a = record { front = []; back = us; is = refl; front_are = tt; back_are = a }
  values-split (n ∷ ns) cs [] a = elim a [ ]
  values-split (n ∷ ns) cs (u ∷ us) a =
      let r = values-split ns cs us a.1 in
      record {
        front = u ∷ r.front;
        back = r.back;
        is = ap
            (λ l. u ∷ l) r.is;
        front_are = (a.0, r.front_are);
        back_are = r.back_are;
      }

  -- what stands at a column
  pub at-column : (cs : List (MColumn T)) (us : List MValue) (v : MValue) (i : ℕ) (c : MColumn T) → AreValues V cs us →
      ArePartsAt v cs us → slice_get cs i ≡ Some c → (u : MValue) × (part_at c.place v ≡ Some u) × V c.type c.sure u
  at-column [] us v i c a b e = cc
  at-column (d ∷ cs) [] v i c a b e = elim a [ ]
  at-column (d ∷ cs) (u ∷ us) v zero c a b e = (
    u,
    subst (λ x. part_at x.place v ≡ Some u) (some-is d c e) b.0,
    subst (λ x. V x.type x.sure u)
        (some-is d c e) a.0,
  )
  at-column (d ∷ cs) (u ∷ us) v (suc i) c a b e = at-column cs us v i c a.1 b.1 e

  parts-append : (v : MValue) (ns cs : List (MColumn T)) (ws us : List MValue) → ArePartsAt v ns ws →
      ArePartsAt v cs us → ArePartsAt v (ns ++ cs) (ws ++ us)
  parts-append v [] cs [] us a b = b
  parts-append v [] cs (w ∷ ws) us a b = elim a [ ]
  parts-append v (n ∷ ns) cs [] us a b = elim a [ ]
  parts-append v (n ∷ ns) cs (w ∷ ws) us a b = (a.0, parts-append v ns cs ws us a.1 b)

  -- a value holds the columns after one was replaced_at, where it holds the new ones
  pub held-replaced : (cs new : List (MColumn T)) (v : MValue) (i : ℕ) → IsHeld V cs v → IsHeld V new v →
      IsHeld V (replaced_at i cs new) v
  held-replaced cs new v i h n = go cs i h.0 h.1 h.2
    where
      go : (cs : List (MColumn T)) (i : ℕ) (us : List MValue) → AreValues V cs us → ArePartsAt v cs us →
          IsHeld V (replaced_at i cs new) v
      go [] i us a b = ([], tt, tt)
      go (c ∷ cs) i [] a b = elim a [ ]
      go (c ∷ cs) zero (u ∷ us) a b =
          (n.0 ++ us, values-append new cs n.0 us n.1 a.1, parts-append v new cs n.0 us n.2 b.1)
      go (c ∷ cs) (suc i) (u ∷ us) a b = let r = go cs i us a.1 b.1 in (u ∷ r.0, (a.0, r.1), (b.0, r.2))

  pub values-replaced : (cs new : List (MColumn T)) (i : ℕ) → HaveValues V cs → HaveValues V new →
      HaveValues V (replaced_at i cs new)
  values-replaced cs new i h n = go cs i h.0 h.1
    where
      go : (cs : List (MColumn T)) (i : ℕ) (us : List MValue) → AreValues V cs us → HaveValues V (replaced_at i cs new)
      go [] i us a = ([], tt)
      go (c ∷ cs) i [] a = elim a [ ]
      go (c ∷ cs) zero (u ∷ us) a = (n.0 ++ us, values-append new cs n.0 us n.1 a.1)
      go (c ∷ cs) (suc i) (u ∷ us) a = let r = go cs i us a.1 in (u ∷ r.0, (a.0, r.1))

  -- values of the columns after one was replaced_at come from values before, the one made from the new ones
  pub record Back (cs new : List (MColumn T)) (i : ℕ) (c : MColumn T) (P : MValue → Type 0)
      (ws : List MValue) : Type 0 where
    pub us : List MValue
    pub are : AreValues V cs us
    pub part : (v : MValue) → ArePartsAt v cs us → (x : MValue) × P x × (part_at c.place v ≡ Some x)
    pub at : (v : MValue) → ArePartsAt v cs us → ArePartsAt v (replaced_at i cs new) ws

  pub values-back : (cs new : List (MColumn T)) (i : ℕ) (c : MColumn T) (P : MValue → Type 0) (ws : List MValue) →
      slice_get cs i ≡ Some c → AreValues V (replaced_at i cs new) ws →
      ((us : List MValue) → AreValues V new us → (x : MValue) × V c.type c.sure x × P x
      × ((v : MValue) → part_at c.place v ≡ Some x → ArePartsAt v new us)) →
      Back cs new i c P ws
  values-back [] new i c P ws e a m = cc
  values-back (d ∷ cs) new zero c P ws e a m =
      let same : d ≡ c = some-is d c e in
      let s = values-split new cs ws a in
      let x = m s.front s.front_are in
      record {
        us = x.0 ∷ s.back;
        are = (subst (λ y. V y.type y.sure x.0) (sym same) x.1, s.back_are);
        part = λ v b. (x.0, x.2, subst (λ y. part_at y.place v ≡ Some x.0) same b.0);
        at =
            λ v b. subst (λ l. ArePartsAt v (new ++ cs) l) (sym s.is) (parts-append v new cs s.front s.back
            (x.3 v (subst (λ y. part_at y.place v ≡ Some x.0) same b.0)) b.1);
      }
  values-back (d ∷ cs) new (suc i) c P [] e a m = elim a [ ]
  values-back (d ∷ cs) new (suc i) c P (w ∷ ws) e a m =
      let r = values-back cs new i c P ws e a.1 m in
      record {
        us = w ∷ r.us;
        are = (a.0, r.are);
        part = λ v b. r.part v b.1;
        at = λ v b. (b.0, r.at v b.1);
      }
