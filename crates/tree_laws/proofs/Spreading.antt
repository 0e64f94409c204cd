-- When a column is looked at, the positions of its parts lie apart from all others, and from what was looked at.
use Rattle.std.proofs.Common.{◌≡◌, ◌⊎◌, inl, inr, ℕ, zero, suc, List, [], ◌∷◌, ◌++◌, map, Some, slice_get, refl, sym, ap, ◌∙◌, subst, append_assoc}
use Rattle.match_model.specs.Values.{MValue}
use Rattle.match_model.specs.Places.{position_at}
use Rattle.match_model.specs.Matrices.{MColumn}
use Rattle.match_model.specs.Lists.{Every, Ordered, Among}
use Rattle.keyed_rows.proofs.Lists.{every-append, every-to, ordered-append, ordered-map}
use Rattle.match_model.specs.Steps.{replaced_at}
use Rattle.keyed_steps.specs.Positions.{IsIn, AreApart, IsSpread, inside, ArePositions}

-- what lies in a part lies in the whole
in-whole : (p : List ℕ) (k : ℕ) (q : List ℕ) → IsIn (inside p k) q → IsIn p q
in-whole p k q h = (k ∷ h.0, h.1 ∙ append_assoc p (k ∷ []) h.0)

-- a whole does not lie in its part
not-in-part : (p : List ℕ) (k : ℕ) → ¬ IsIn (inside p k) p
not-in-part [] k h = no h.1
  where
    no : [] ≡ k ∷ h.0 → ⊥
    no e = cc
not-in-part (x ∷ p) k h = not-in-part p k (h.0, tail h.1)
  where
    tail : x ∷ p ≡ x ∷ (inside p k ++ h.0) → p ≡ inside p k ++ h.0
    tail e = cc

-- what has a part in it has the whole in it, or is the part
in-part : (q p : List ℕ) (k : ℕ) → IsIn q (inside p k) → IsIn q p ⊎ IsIn p q
in-part [] p k h = inl (p, refl)
in-part (x ∷ q) [] k h = inr (x ∷ q, refl)
in-part (x ∷ q) (y ∷ p) k h =
    let same : y ≡ x = heads h.1 in
    elim (in-part q p k (h.0, tails h.1)) [
      | inl i ↦ inl (i.0, rw (same, i.1) refl)
      | inr i ↦ inr (i.0, rw (same, i.1) refl)
    ]
  where
    heads : y ∷ inside p k ≡ x ∷ (q ++ h.0) → y ≡ x
    heads e = cc

    tails : y ∷ inside p k ≡ x ∷ (q ++ h.0) → inside p k ≡ q ++ h.0
    tails e = cc

-- two parts lie apart
parts-apart : (p : List ℕ) (j k : ℕ) → ¬ (j ≡ k) → AreApart (inside p j) (inside p k)
parts-apart p j k n = (λ h. n (number p j k h.0 h.1), λ h. n (sym (number p k j h.0 h.1)))
  where
    number : (p : List ℕ) (j k : ℕ) (rest : List ℕ) → inside p k ≡ inside p j ++ rest → j ≡ k
    number [] j k rest e = cc
    number (x ∷ p) j k rest e = number p j k rest (tail e)
      where
        tail : x ∷ inside p k ≡ x ∷ (inside p j ++ rest) → inside p k ≡ inside p j ++ rest
        tail e = cc

-- what lies apart from the whole lies apart from its part
apart-part : (q p : List ℕ) (k : ℕ) → AreApart q p → AreApart q (inside p k)
apart-part q p k a = (λ h. elim (in-part q p k h) [ inl i ↦ a.0 i | inr i ↦ a.1 i ], λ h. a.1 (in-whole p k q h))

apart-sym : (p q : List ℕ) → AreApart p q → AreApart q p
apart-sym p q a = (a.1, a.0)

-- the parts of one position among others
parts-ordered : (p : List ℕ) (ks : List ℕ) → Ordered (λ (i j : ℕ). ¬ (i ≡ j)) ks → Ordered AreApart (map (inside p) ks)
parts-ordered p ks o = ordered-map (λ (i j : ℕ). ¬ (i ≡ j)) AreApart (inside p) ks (λ i j n. parts-apart p i j n) o

all-parts : (q p : List ℕ) (ks : List ℕ) → AreApart q p → Every (AreApart q) (map (inside p) ks)
all-parts q p [] a = tt
all-parts q p (k ∷ ks) a = (apart-part q p k a, all-parts q p ks a)

parts-before : (p : List ℕ) (ks : List ℕ) (qs : List (List ℕ)) → Every (AreApart p) qs →
    Every (λ x. Every (AreApart x) qs) (map (inside p) ks)
parts-before p [] qs a = tt
parts-before p (k ∷ ks) qs a = (
  every-to (AreApart p) (AreApart (inside p k)) qs (λ q i. apart-sym q (inside p k)
      (apart-part q p k (apart-sym p q i))) a,
  parts-before p ks qs a,
)

some-is : {A : Type 0} (x y : A) → Some x ≡ Some y → x ≡ y
some-is x y e = cc

-- the positions after a column was looked at
pub spread-step : (seen ps : List (List ℕ)) (i : ℕ) (p : List ℕ) (ks : List ℕ) → IsSpread seen ps →
    slice_get ps i ≡ Some p → Ordered (λ (i j : ℕ). ¬ (i ≡ j)) ks →
    IsSpread (p ∷ seen) (replaced_at i ps (map (inside p) ks))
spread-step seen ps i p ks s e o = record { fresh = fresh ps i s.fresh s.apart e; apart = apart ps i s.apart e }
  where
    Fresh : List ℕ → Type 0
    Fresh q = Every (λ s. ¬ IsIn q s) (p ∷ seen)

    part-fresh : (ks : List ℕ) → Every (λ s. ¬ IsIn p s) seen →
        Every (λ q. Every (λ s. ¬ IsIn q s) (p ∷ seen)) (map (inside p) ks)
    part-fresh [] f = tt
    part-fresh (k ∷ ks) f = (
      (
        not-in-part p k,
        every-to (λ s. ¬ IsIn p s) (λ s. ¬ IsIn (inside p k) s) seen
            (λ s n h. n (in-whole p k s h)) f,
      ),
      part-fresh ks f,
    )

    others : (qs : List (List ℕ)) → Every (λ q. Every (λ s. ¬ IsIn q s) seen) qs → Every (AreApart p) qs →
        Every (λ q. Every (λ s. ¬ IsIn q s) (p ∷ seen)) qs
    others [] f a = tt
    others (q ∷ qs) f a = ((a.0.1, f.0), others qs f.1 a.1)

    fresh : (qs : List (List ℕ)) (i : ℕ) → Every (λ q. Every (λ s. ¬ IsIn q s) seen) qs → Ordered AreApart qs →
        slice_get qs i ≡ Some p → Every (λ q. Every (λ s. ¬ IsIn q s) (p ∷ seen)) (replaced_at i qs (map (inside p) ks))
    fresh [] i f a e = tt
    fresh (q ∷ qs) zero f a e =
        let same : q ≡ p = some-is q p e in
        every-append (λ q. Every (λ s. ¬ IsIn q s) (p ∷ seen)) (map (inside p) ks) qs
        (part-fresh ks (subst (λ x. Every (λ s. ¬ IsIn x s) seen) same f.0))
        (others qs f.1 (subst (λ x. Every (AreApart x) qs) same a.0))
    fresh (q ∷ qs) (suc i) f a e = ((here qs i a.0 e, f.0), fresh qs i f.1 a.1 e)
      where
        here : (rs : List (List ℕ)) (i : ℕ) → Every (AreApart q) rs → slice_get rs i ≡ Some p → ¬ IsIn q p
        here [] i a e = cc
        here (r ∷ rs) zero a e = subst (λ x. ¬ IsIn q x) (some-is r p e) a.0.0
        here (r ∷ rs) (suc i) a e = here rs i a.1 e

    apart-replaced : (q : List ℕ) (rs : List (List ℕ)) (i : ℕ) → Every (AreApart q) rs → slice_get rs i ≡ Some p →
        Every (AreApart q) (replaced_at i rs (map (inside p) ks))
    apart-replaced q [] i a e = tt
    apart-replaced q (r ∷ rs) zero a e =
        every-append (AreApart q) (map (inside p) ks) rs (all-parts q p ks (subst (AreApart q) (some-is r p e) a.0)) a.1
    apart-replaced q (r ∷ rs) (suc i) a e = (a.0, apart-replaced q rs i a.1 e)

    apart : (qs : List (List ℕ)) (i : ℕ) → Ordered AreApart qs → slice_get qs i ≡ Some p →
        Ordered AreApart (replaced_at i qs (map (inside p) ks))
    apart [] i a e = tt
    apart (q ∷ qs) zero a e =
        ordered-append AreApart (map (inside p) ks) qs (parts-ordered p ks o) a.1
        (parts-before p ks qs (subst (λ x. Every (AreApart x) qs) (some-is q p e) a.0))
    apart (q ∷ qs) (suc i) a e = (apart-replaced q qs i a.0 e, apart qs i a.1 e)

-- what was looked at may be forgotten
pub spread-less : (s : List ℕ) (seen ps : List (List ℕ)) → IsSpread (s ∷ seen) ps → IsSpread seen ps
spread-less s seen ps i = record { fresh = every-to _ _ ps (λ p f. f.1) i.fresh; apart = i.apart }

-- an open position was not looked at
pub not-seen : (seen ps : List (List ℕ)) (i : ℕ) (p : List ℕ) → IsSpread seen ps → slice_get ps i ≡ Some p →
    ¬ Among p seen
not-seen seen ps i p s e = go ps i s.fresh e
  where
    never : (l : List (List ℕ)) → Every (λ s. ¬ IsIn p s) l → ¬ Among p l
    never [] f a = a
    never (x ∷ l) f (inl h) = f.0 ([], sym h ∙ sym (nil p))
      where
        nil : (q : List ℕ) → q ++ [] ≡ q
        nil [] = refl
        nil (y ∷ q) = ap (λ r. y ∷ r) (nil q)
    never (x ∷ l) f (inr h) = never l f.1 h

    go : (qs : List (List ℕ)) (i : ℕ) → Every (λ q. Every (λ s. ¬ IsIn q s) seen) qs → slice_get qs i ≡ Some p →
        ¬ Among p seen
    go [] i f e = cc
    go (q ∷ qs) zero f e = never seen (subst (λ x. Every (λ s. ¬ IsIn x s) seen) (some-is q p e) f.0)
    go (q ∷ qs) (suc i) f e = go qs i f.1 e

-- the position of a column
pub position-of : {T : Type 0} (v : MValue) (cs : List (MColumn T)) (ps : List (List ℕ)) (i : ℕ) (c : MColumn T) →
    ArePositions v cs ps → slice_get cs i ≡ Some c → (p : List ℕ) × (slice_get ps i ≡ Some p)
    × (position_at c.place v ≡ Some p)
position-of v [] [] i c a e = cc
position-of v [] (p ∷ ps) i c a e = elim a [ ]
position-of v (d ∷ cs) [] i c a e = elim a [ ]
position-of v (d ∷ cs) (p ∷ ps) zero c a e = (p, refl, subst (λ x. position_at x.place v ≡ Some p) (some-is d c e) a.0)
position-of v (d ∷ cs) (p ∷ ps) (suc i) c a e = position-of v cs ps i c a.1 e

positions-append : {T : Type 0} (v : MValue) (ns cs : List (MColumn T)) (rs ps : List (List ℕ)) →
    ArePositions v ns rs → ArePositions v cs ps → ArePositions v (ns ++ cs) (rs ++ ps)
positions-append v [] cs [] ps b a = a
positions-append v [] cs (r ∷ rs) ps b a = elim b [ ]
positions-append v (n ∷ ns) cs [] ps b a = elim b [ ]
positions-append v (n ∷ ns) cs (r ∷ rs) ps b a = (b.0, positions-append v ns cs rs ps b.1 a)

-- the positions of the columns after one was replaced_at
pub positions-replaced : {T : Type 0} (v : MValue) (cs new : List (MColumn T)) (ps qs : List (List ℕ)) (i : ℕ) →
    ArePositions v cs ps → ArePositions v new qs → ArePositions v (replaced_at i cs new) (replaced_at i ps qs)
positions-replaced v [] new [] qs i a b = tt
positions-replaced v [] new (p ∷ ps) qs i a b = elim a [ ]
positions-replaced v (c ∷ cs) new [] qs i a b = elim a [ ]
positions-replaced v (c ∷ cs) new (p ∷ ps) qs zero a b = positions-append v new cs qs ps b a.1
positions-replaced v (c ∷ cs) new (p ∷ ps) qs (suc i) a b = (a.0, positions-replaced v cs new ps qs i a.1 b)
