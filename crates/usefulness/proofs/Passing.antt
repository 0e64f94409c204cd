-- What was to be looked at gives way to what is.
use Rattle.std.proofs.Common.{◌≡◌, ◌⊎◌, inl, inr, ℕ, Bool, true, false, List, [], ◌∷◌, ◌++◌, length, ap, sym, subst, ◌∙◌, arith, append_assoc}
use Rattle.std.specs.List.{Contains}
use Rattle.match_model.specs.Values.{MValue}
use Rattle.match_model.specs.Contexts.{Context}
use Rattle.match_model.proofs.Basics.{untrue}
use Rattle.pattern_matrix.specs.Counting.{Question, WantedRow, counts}
use Rattle.pattern_matrix.specs.Searching.{Submatrix, IsFit, Comes, SomeComes, StandFor, IsLookedAt}
use Rattle.pattern_matrix.proofs.HandingOn.{here, in_cons}
use Rattle.pattern_matrix.proofs.SearchSteps.{values_long}
use Rattle.usefulness.specs.Behind.{Passes}
use Rattle.usefulness.specs.Covering.{behind}
use Rattle.usefulness.specs.Listing.{AreAllListed}
use Rattle.usefulness.specs.Stack.{IsNext}
use Rattle.usefulness.proofs.Looking.{in_left, in_right, in_either, stood_fit, stood_back}

module _ {T : Type 0} (IsValue : T → Bool → MValue → Type 0) where
  some_left : (xs ys : List (Submatrix T)) → SomeComes IsValue behind xs → SomeComes IsValue behind (xs ++ ys)
  some_left xs ys (s, i, c) = (s, in_left xs ys s i, c)

  some_right : (xs ys : List (Submatrix T)) → SomeComes IsValue behind ys → SomeComes IsValue behind (xs ++ ys)
  some_right xs ys (s, i, c) = (s, in_right xs ys s i, c)

  some_either : (xs ys : List (Submatrix T)) → SomeComes IsValue behind (xs ++ ys) → SomeComes IsValue behind xs ⊎ SomeComes IsValue behind ys
  some_either xs ys (s, i, c) = elim (in_either xs ys s i) [
    | inl j ↦ inl (s, j, c)
    | inr j ↦ inr (s, j, c)
  ]

  pub one_some : (s : Submatrix T) → Comes IsValue behind s → SomeComes IsValue behind (s ∷ [])
  one_some s c = (s, here s [], c)

  pub some_one : (s : Submatrix T) → SomeComes IsValue behind (s ∷ []) → Comes IsValue behind s
  some_one s (n, i, c) = in_cons s n [] (λ z. Comes IsValue behind z → Comes IsValue behind s) (λ d. d) (λ z (k, l, e). absurd (omega (arith, l))) i c

  pub none_comes : SomeComes IsValue behind [] → ⊥
  none_comes (s, (k, l, e), c) = omega (arith, l)

  pub passes_same : (xs : List (Submatrix T)) → Passes IsValue false xs xs
  passes_same xs = (λ c. c, λ c. c)

  -- the last ones give way to others
  pub passes_on : (m : Bool) (all stay gone more : List (Submatrix T)) → Passes IsValue false all (stay ++ gone) → Passes IsValue m gone more → Passes IsValue m all (stay ++ more)
  passes_on true all stay gone more a b = a.1 (some_right stay gone b)
  passes_on false all stay gone more a b = (
    λ c. elim (some_either stay gone (a.0 c)) [
      | inl d ↦ some_left stay more d
      | inr e ↦ some_right stay more (b.0 e)
    ],
    λ c. a.1 (elim (some_either stay more c) [
      | inl d ↦ some_left stay gone d
      | inr e ↦ some_right stay gone (b.1 e)
    ]),
  )

  -- a submatrix gives way to another where a value comes to the row behind in the one exactly where in the other
  pub passes_to : (s t : Submatrix T) → (Comes IsValue behind s → Comes IsValue behind t) → (Comes IsValue behind t → Comes IsValue behind s) → Passes IsValue false (s ∷ []) (t ∷ [])
  passes_to s t f g = (λ c. one_some t (f (some_one s c)), λ c. one_some s (g (some_one t c)))

  -- where nothing comes to it, it gives way to nothing
  pub passes_none : (s : Submatrix T) → (Comes IsValue behind s → ⊥) → Passes IsValue false (s ∷ []) []
  passes_none s f = (λ c. absurd (f (some_one s c)), λ c. absurd (none_comes c))

  -- and the other way round
  pub nothing_comes : (s : Submatrix T) → Passes IsValue false (s ∷ []) [] → Comes IsValue behind s → ⊥
  nothing_comes s p c = none_comes (p.0 (one_some s c))

  -- a submatrix that is looked at
  pub looked_passes : (IsType : T → Type 0) (cx : Context T) (m : Bool) (old now : Question → Bool) (s : Submatrix T) (new : List (Submatrix T)) → old behind ≡ false → now behind ≡ m → IsLookedAt IsType IsValue cx old now s new →
      Passes IsValue m (s ∷ []) new
  looked_passes IsType cx true old now s new o e l = elim (l.right behind e) [
    | inl z ↦ untrue (sym o ∙ z)
    | inr c ↦ one_some s c
  ]
  looked_passes IsType cx false old now s new o e l = (
    λ c. elim (l.on behind (some_one s c)) [
      | inl z ↦ untrue (sym e ∙ z)
      | inr d ↦ d
    ],
    λ (n, i, c). one_some s (l.back n i behind c),
  )

  module _ (IsType : T → Type 0) (cx : Context T) (old now : Question → Bool) (o : old behind ≡ false) where
    -- submatrices that are listed
    pub listed_passes : (m : Bool) (left new : List (Submatrix T)) → now behind ≡ m → AreAllListed IsValue old now left new → Passes IsValue m left new
    listed_passes true left new e l = elim (l.right behind e) [
      | inl z ↦ untrue (sym o ∙ z)
      | inr c ↦ c
    ]
    listed_passes false left new e l = (
      λ (n, i, c). on n i c (l.listed.each n i),
      λ (n, i, c). let (k, j, p, d) = l.listed.of_left n i in (k, j, stood_back IsType IsValue cx now k n p d behind c),
    )
      where
        on : (n : Submatrix T) → Contains left n → Comes IsValue behind n → (rows : List (WantedRow T)) × StandFor now (length n.places) n.rows rows × (Contains new (record { places = n.places; rows = rows }) ⊎ (rows ≡ [])) →
            SomeComes IsValue behind new
        on n i (vs, b, c) (rows, d, h) = elim (d.on behind vs (values_long IsValue n.places vs b) c) [
          | inl z ↦ untrue (sym e ∙ z)
          | inr k ↦ elim h [
            | inl j ↦ (record { places = n.places; rows = rows }, j, (vs, b, k))
            | inr z ↦ untrue (sym (ap (λ (xs : List (WantedRow T)). counts behind xs vs) z) ∙ k)
          ]
        ]

    -- the end of what is to be looked at is taken
    pub next_passes : (m : Bool) (before after new : List (Submatrix T)) → now behind ≡ m → IsNext IsValue old now before after new → Passes IsValue m before (after ++ new)
    next_passes m before after new e n =
        subst (Passes IsValue m before) (sym (ap (λ ys. ys ++ new) n.after_is ∙ append_assoc n.stay n.back new))
        (passes_on m before n.stay n.gone (n.back ++ new) (subst (Passes IsValue false before) n.before_is (passes_same before)) (listed_passes m n.gone (n.back ++ new) e n.listed))

  -- what is back fits
  pub back_fit : (IsType : T → Type 0) (cx : Context T) (old now : Question → Bool) (before after new : List (Submatrix T)) → IsNext IsValue old now before after new → ((s : Submatrix T) → Contains before s → IsFit IsType IsValue cx s) →
      (m : Submatrix T) → Contains after m → IsFit IsType IsValue cx m
  back_fit IsType cx old now before after new n fit m i = elim (in_either n.stay n.back m (subst (λ ys. Contains ys m) n.after_is i)) [
    | inl j ↦ fit m (subst (λ ys. Contains ys m) (sym n.before_is) (in_left n.stay n.gone m j))
    | inr j ↦
        let (s, k, e, d) = n.listed.listed.of_left m (in_left n.back new m j) in
        stood_fit IsType IsValue cx now s m (fit s (subst (λ ys. Contains ys s) (sym n.before_is) (in_right n.stay n.gone s k))) e d
  ]
