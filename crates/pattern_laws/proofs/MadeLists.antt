-- Makers of lists of patterns, each at the type with its number.
use Rattle.std.proofs.Common.{◌≡◌, ℕ, zero, suc, ◌+◌, ◌-◌, ◌≤◌, List, [], ◌∷◌, ◌++◌, length, replicate, slice_get, Some, refl, sym, ap, subst, ◌∙◌, arith}
use Rattle.match_model.specs.Types.{MType, MTypes, no_types, more_types, types_list}
use Rattle.match_model.specs.Patterns.{MRest, NoRest, SomeRest, BoundRest}
use Rattle.match_model.specs.Matching.{laid_out}
use Rattle.match_model.specs.ArenaPatterns.{MDePats, no_de_pats, more_de_pats}
use Rattle.pattern_rules.specs.Builders.{Built, Maker, made, made_at, and_pats, wild_maker}
use Rattle.pattern_laws.proofs.KeptRows.{next_number, no_more, replicate_length}
use Rattle.pattern_laws.proofs.Fitting.{CountFits}

module _ (R : MType → Built → Type 0) where
  -- something holds of what makers make one by one, each at the type with its number, from number `i` on
  abbrev pub MadeFrom : (types : ℕ → MType) → (i : ℕ) → List Maker → Type 0
  MadeFrom types i [] = Unit {0}
  MadeFrom types i (f ∷ fs) = R (types i) (f (types i)) × MadeFrom types (suc i) fs

  both_made : (types : ℕ → MType) (i : ℕ) (fs gs : List Maker) → MadeFrom types i fs →
      MadeFrom types (i + length fs) gs → MadeFrom types i (fs ++ gs)
  both_made types i [] gs h k = subst (λ n. MadeFrom types n gs) (no_more i) k
  both_made types i (f ∷ fs) gs h k =
      (h.0, both_made types (suc i) fs gs h.1 (subst (λ n. MadeFrom types n gs) (sym (next_number i (length fs))) k))

  module _ (wild : (t : MType) → R t (wild_maker t)) where
    wilds_made : (types : ℕ → MType) (i n : ℕ) → MadeFrom types i (replicate n wild_maker)
    wilds_made types i zero = tt
    wilds_made types i (suc n) = (wild (types i), wilds_made types (suc i) n)

    -- the items round a rest of a fitting number, all of so many
    pub laid_made : (types : ℕ → MType) (rest : MRest) (n : ℕ) (fs bs : List Maker) →
        CountFits rest (length fs + length bs) n → MadeFrom types 0 fs →
        MadeFrom types (n - length bs) bs → MadeFrom types 0 (laid_out wild_maker fs rest bs n)
    laid_made types rest n fs bs c h k = go rest c
      where
        there : (d : ℕ) → d ≡ n - length bs → MadeFrom types d bs
        there d e = subst (λ x. MadeFrom types x bs) (sym e) k

        around : length fs + length bs ≤ n →
            MadeFrom types 0 (fs ++ (replicate (n - (length fs + length bs)) wild_maker ++ bs))
        around c =
            both_made types 0 fs (replicate (n - (length fs + length bs)) wild_maker ++ bs) h
            (both_made types (0 + length fs) (replicate (n - (length fs + length bs)) wild_maker) bs
            (wilds_made types (0 + length fs) (n - (length fs + length bs)))
            (there ((0 + length fs) + length (replicate (n - (length fs + length bs)) wild_maker))
            (ap (λ x. (0 + length fs) + x) (replicate_length (n - (length fs + length bs)) wild_maker)
            ∙ omega (arith, c))))

        go : (rest : MRest) → CountFits rest (length fs + length bs) n →
            MadeFrom types 0 (laid_out wild_maker fs rest bs n)
        go NoRest c = both_made types 0 fs bs h (there (0 + length fs) (omega (arith, c)))
        go SomeRest c = around c
        go (BoundRest name written) c = around c

-- something holds of each pattern
abbrev pub EachIs : (Built → Type 0) → MDePats MType → Type 0
EachIs Q no_de_pats = Unit {0}
EachIs Q (more_de_pats p ps) = Q p × EachIs Q ps

-- the patterns of the parts of a tuple
pub made_each : (Q : Built → Type 0) (types : ℕ → MType) (i : ℕ) (fs : List Maker) (ts : MTypes) →
    ((j : ℕ) (u : MType) → slice_get (types_list ts) j ≡ Some u → types (i + j) ≡ u) →
    MadeFrom (λ t p. Q p) types i fs → EachIs Q (made fs ts)
made_each Q types i [] ts at h = tt
made_each Q types i (f ∷ fs) no_types at h = tt
made_each Q types i (f ∷ fs) (more_types t ts) at h =
    let first : types i ≡ t = ap types (sym (no_more i)) ∙ at 0 t refl in (
      subst (λ u. Q (f u)) first h.0,
      made_each Q types (suc i) fs ts
          (λ j u s. ap types (next_number i j) ∙ at (suc j) u s) h.1,
    )

-- the patterns of the items of a row
pub items_each : (Q : Built → Type 0) (t : MType) (i j : ℕ) (fs bs : List Maker) → MadeFrom (λ u p. Q p)
    (λ n. t) i fs → MadeFrom (λ u p. Q p) (λ n. t) j bs →
    EachIs Q (and_pats (made_at fs t) (made_at bs t))
items_each Q t i j [] [] h k = tt
items_each Q t i j [] (b ∷ bs) h k = (k.0, items_each Q t i (suc j) [] bs tt k.1)
items_each Q t i j (f ∷ fs) bs h k = (h.0, items_each Q t (suc i) j fs bs h.1 k)
