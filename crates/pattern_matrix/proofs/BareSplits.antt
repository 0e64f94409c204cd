-- A submatrix is looked at where the children are listed from what is left of it, made bare.
use Rattle.std.proofs.Common.{◌≡◌, ◌⊎◌, inl, inr, ◌<◌, Bool, true, false, List, [], ◌∷◌, map, length, sym, ap, subst, ◌∙◌, arith}
use Rattle.std.specs.List.{list_all, Contains}
use Rattle.match_model.specs.Values.{MValue}
use Rattle.match_model.specs.Contexts.{Context, Open}
use Rattle.match_model.specs.ContextLaws.{PartsLaw, ValuesLaw}
use Rattle.match_model.specs.Rows.{starts_wild}
use Rattle.match_model.proofs.Basics.{untrue}
use Rattle.pat_context.specs.Parts.{AreValues}
use Rattle.pattern_matrix.specs.Counting.{Question, WantedRow, counts}
use Rattle.pattern_matrix.specs.Searching.{Submatrix, heads_in, weight_of, IsFit, Comes, SomeComes, apart, IsSplit, AreListed, IsLookedAt, StandFor}
use Rattle.pattern_matrix.specs.ReachLaws.{SplitsHandOn}
use Rattle.pattern_matrix.proofs.HandingOn.{contains-map, from-map}
use Rattle.pattern_matrix.proofs.ListedRows.{part_typed, part_made, part_weighs}
use Rattle.pattern_matrix.proofs.SearchSteps.{values_long}
use Rattle.pattern_matrix.proofs.Splitting.{splits_hand_on}
use Rattle.pattern_matrix.specs.Wanted.{bare_submatrix}
use Rattle.pattern_matrix.proofs.BareCounts.{fit_bare, comes_bare, weighs_bare}

module _ {T : Type 0} (IsType : T → Type 0) (IsValue : T → Bool → MValue → Type 0) (cx : Context T) (values : ValuesLaw IsType IsValue cx) (law : PartsLaw IsType IsValue cx) where
  -- what is known of each submatrix that is left
  record IsLeftOf (s n : Submatrix T) : Type 0 where
    pub fit : IsFit IsType IsValue cx n
    pub back : (q : Question) → Comes IsValue q n → Comes IsValue q s
    pub falls : weight_of n < weight_of s

  left_bare : (s n : Submatrix T) → IsLeftOf s n → IsLeftOf s (bare_submatrix n)
  left_bare s n l = record {
    fit = fit_bare IsType IsValue cx n l.fit;
    back = λ q c. l.back q ((comes_bare IsType IsValue cx n q).1 c);
    falls = let k = l.falls in let e = weighs_bare n in omega (arith, k, e);
  }

  stood_fit : (is_marked : Question → Bool) (n m : Submatrix T) → IsFit IsType IsValue cx n → m.places ≡ n.places →
      StandFor is_marked (length n.places) n.rows m.rows → IsFit IsType IsValue cx m
  stood_fit is_marked n m f e d =
      subst (λ ps. IsFit IsType IsValue cx (record { places = ps; rows = m.rows })) (sym e)
      (record { types = f.types; typed = part_typed cx n.places (heads_in m.rows) (heads_in n.rows) d.part f.typed; made = part_made (heads_in m.rows) (heads_in n.rows) d.part f.made; some = f.some })

  stood_back : (is_marked : Question → Bool) (n m : Submatrix T) → m.places ≡ n.places → StandFor is_marked (length n.places) n.rows m.rows →
      (q : Question) → Comes IsValue q m → Comes IsValue q n
  stood_back is_marked n m e d q (vs, a, c) =
      let b = subst (λ ps. AreValues IsValue ps vs) e a in (vs, b, d.back q vs (values_long IsValue n.places vs b) c)

  pub bare_split_is_look : (old now : Question → Bool) (o : Open T) (places : List (Open T)) (rows : List (WantedRow T)) (left new : List (Submatrix T)) →
      IsFit IsType IsValue cx (record { places = o ∷ places; rows = rows }) → list_all starts_wild (heads_in rows) ≡ false →
      IsSplit IsValue cx o places (apart rows) left →
      AreListed now (map bare_submatrix left) new → ((q : Question) → old q ≡ true → now q ≡ true) →
      ((q : Question) → now q ≡ true → (old q ≡ true) ⊎ SomeComes IsValue q (map bare_submatrix left)) →
      IsLookedAt IsType IsValue cx old now (record { places = o ∷ places; rows = rows }) new
  bare_split_is_look old now o places rows left new f w p a g r = record {
    grow = g;
    right = λ q e. elim (r q e) [ inl m ↦ inl m | inr (n, i, c) ↦ inr ((each n i).back q c) ];
    fit = λ m i. let (n, j, e, d) = a.of_left m i in stood_fit now n m (each n j).fit e d;
    lighter = λ m i. let (n, j, e, d) = a.of_left m i in let k = (each n j).falls in let l = part_weighs m.rows n.rows d.part in omega (arith, k, l);
    back = λ m i q c. let (n, j, e, d) = a.of_left m i in (each n j).back q (stood_back now n m e d q c);
    on = λ q c. handed q (hand.on o places rows left f p q c);
  }
    where
      s : Submatrix T
      s = record { places = o ∷ places; rows = rows }

      hand : SplitsHandOn IsType IsValue cx
      hand = splits_hand_on IsType IsValue cx values law

      each : (n : Submatrix T) → Contains (map bare_submatrix left) n → IsLeftOf s n
      each n i =
          let (m, j, e) = from-map bare_submatrix left n i in
          subst (IsLeftOf s) e (left_bare s m (record { fit = hand.fit o places rows left f p m j; back = hand.back o places rows left f p m j; falls = hand.falls o places rows left f p w m j }))

      handed : (q : Question) → SomeComes IsValue q left → (now q ≡ true) ⊎ SomeComes IsValue q new
      handed q (n, i, b) = go (a.each (bare_submatrix n) (contains-map bare_submatrix left n i)) ((comes_bare IsType IsValue cx n q).0 b)
        where
          go : (rows : List (WantedRow T)) × StandFor now (length n.places) (bare_submatrix n).rows rows × (Contains new (record { places = n.places; rows = rows }) ⊎ (rows ≡ [])) →
              Comes IsValue q (bare_submatrix n) → (now q ≡ true) ⊎ SomeComes IsValue q new
          go (kept, d, h) (vs, b, c) =
              elim (d.on q vs (values_long IsValue n.places vs b) c) [
                | inl m ↦ inl m
                | inr e ↦ elim h [
                  | inl j ↦ inr (record { places = n.places; rows = kept }, j, (vs, b, e))
                  | inr z ↦ untrue (sym (ap (λ (xs : List (WantedRow T)). counts q xs vs) z) ∙ e)
                ]
              ]
