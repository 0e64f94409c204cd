-- What comes first of things in an order.
use Rattle.std.proofs.Common.{◌≡◌, ◌<◌, ◌⊎◌, inl, inr, ℕ, List, [], ◌∷◌, Some, refl, sym, ap, ◌∙◌, arith, subst}
use Rattle.std.proofs.lemmas.Bool.{cases_lt}
use Rattle.match_model.specs.Keys.{Key, IsBefore}
use Rattle.match_model.specs.Lists.{Every, Ordered, Among, SameMembers}
use Rattle.match_model.specs.KeyedWays.{KeyedTry, TryFirst}
use Rattle.keyed_rows.proofs.Parting.{among-every}

-- of two keys at most one comes before the other
pub before-asym : (f g : Key) → IsBefore f g → IsBefore g f → ⊥
before-asym f g a b = elim (cases_lt a.at b.at) [
  | inl l ↦ unequal a.one a.other a.less (same_some a.one a.other (sym a.first ∙ (sym (b.same a.at l) ∙ a.second)))
  | inr l ↦ (elim (cases_lt b.at a.at) [
    | inl m ↦ unequal b.one b.other b.less (same_some b.one b.other (sym b.first ∙ (sym (a.same b.at m) ∙ b.second)))
    | inr m ↦ both a.at b.at (omega (arith, l, m)) a.one a.other b.one b.other a.first a.second b.first b.second a.less
        b.less
  ])
]
  where
    same_some : (x y : ℕ) → Some x ≡ Some y → x ≡ y
    same_some x y e = cc

    unequal : (x y : ℕ) → x < y → x ≡ y → ⊥
    unequal x y l e = omega (arith, l, e)

    both : (m n : ℕ) → m ≡ n → (p q r s : ℕ) → f m ≡ Some p → g m ≡ Some q → g n ≡ Some r → f n ≡ Some s → p < q →
        r < s → ⊥
    both m n e p q r s h i j k l o =
        let first : p ≡ s = same_some p s (sym h ∙ (ap f e ∙ k)) in
        let second : q ≡ r = same_some q r (sym i ∙ (ap g e ∙ j)) in
        omega (arith, first, second, l, o)

pub tried-asym : (t u : KeyedTry) → TryFirst t u → TryFirst u t → ⊥
tried-asym t u (inl a) (inl b) = omega (arith, a, b)
tried-asym t u (inl a) (inr b) = let e : u.arm ≡ t.arm = b.0 in omega (arith, a, e)
tried-asym t u (inr a) (inl b) = let e : t.arm ≡ u.arm = a.0 in omega (arith, b, e)
tried-asym t u (inr a) (inr b) = before-asym t.key u.key a.1 b.1

-- things in order, which are one and others behind it
pub record Picked {A : Type 0} (R : A → A → Type 0) (t : A) (others all : List A) : Type 0 where
  pub rest : List A
  pub is : all ≡ t ∷ rest
  pub ordered : Ordered R rest
  pub same : SameMembers others rest

pub first-of : {A : Type 0} (R : A → A → Type 0) → ((x y : A) → R x y → R y x → ⊥) → (t : A) (others all : List A) →
    Ordered R all → SameMembers (t ∷ others) all → Every (R t) others → Picked R t others all
first-of R asym t others [] o s e = absurd (s.forth t (inl refl))
first-of R asym t others (x ∷ all) o s e = go (s.back x (inl refl))
  where
    go : (x ≡ t) ⊎ Among x others → Picked R t others (x ∷ all)
    go (inl h) = record {
      rest = all;
      is = ap (λ y. y ∷ all) h;
      ordered = o.1;
      same = record { forth = λ y i. onward y i (s.forth y (inr i)); back = λ y i. backward y i (s.back y (inr i)) };
    }
      where
        onward : (y : _) → Among y others → (y ≡ x) ⊎ Among y all → Among y all
        onward y i (inl k) =
            let r : R t y = among-every (R t) others y e i in
            let same : y ≡ t = k ∙ h in
            absurd (asym t t (subst (R t) same r) (subst (R t) same r))
        onward y i (inr k) = k

        backward : (y : _) → Among y all → (y ≡ t) ⊎ Among y others → Among y others
        backward y i (inl k) =
            let r : R x y = among-every (R x) all y o.0 i in
            let same : y ≡ x = k ∙ sym h in
            absurd (asym x x (subst (R x) same r) (subst (R x) same r))
        backward y i (inr k) = k
    go (inr h) = absurd (late (s.forth t (inl refl)))
      where
        ahead : R t x
        ahead = among-every (R t) others x e h

        late : (t ≡ x) ⊎ Among t all → ⊥
        late (inl k) = asym t t (subst (R t) (sym k) ahead) (subst (R t) (sym k) ahead)
        late (inr k) = asym t x ahead (among-every (R x) all t o.0 k)
