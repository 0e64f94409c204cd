-- The laws of a context carry over to another that is seen through a one-to-one map of types.
use Rattle.std.proofs.Common.{◌≡◌, ◌<◌, ◌^◌, ℕ, suc, Bool, false, List, [], ◌∷◌, IsTrue, refl, sym, ◌∙◌, subst}
use Rattle.match_model.specs.Values.{MValue, parts_of}
use Rattle.match_model.specs.Constructors.{MCtor, SingleCtor, PointCtor, VariantCtor, RowCtor, Elementary, OneSingle, OnePoint, OneLater, OneVariant, OneFlag, OneNumber, OneText, OneLength, elementary_ctor, is_of_set, belongs}
use Rattle.match_model.specs.Contexts.{Context}
use Rattle.match_model.specs.ContextViews.{View, Seen}
use Rattle.match_model.specs.Made.{IsMadeSet}
use Rattle.match_model.specs.ContextLaws.{ValueIs, RangesAscend, ValuesLaw, parts_count, PartsAre, ArityIs, PartsLaw, EmptyLaw, UnsureLaw}

module _ {S T : Type 0} (f : S → T) (IsTypeS : S → Type 0) (IsType : T → Type 0) (IsValue : T → Bool → MValue → Type 0) (cy : Context S) (cx : Context T) where
  module _ (w : View f IsTypeS IsType cy cx) where
    count_is : (s : S) (e : Elementary) → parts_count cx (f s) e ≡ parts_count cy s e
    count_is s OneSingle = w.arity SingleCtor s
    count_is s (OneVariant k) = w.arity (VariantCtor k) s
    count_is s OnePoint = refl
    count_is s (OneLength n) = refl
    count_is s OneLater = refl
    count_is s (OneFlag b) = refl
    count_is s (OneNumber n) = refl
    count_is s (OneText t) = refl

    of_set : (s : S) (e : Elementary) → IsTrue (is_of_set (cy.set_of s) e) → IsTrue (is_of_set (cx.set_of (f s)) e)
    of_set s e h = subst (λ x. IsTrue (is_of_set x e)) (sym (w.set s)) h

    of_ctor : (s : S) (c : MCtor) → IsTrue (belongs (cy.set_of s) c) → IsTrue (belongs (cx.set_of (f s)) c)
    of_ctor s c h = subst (λ x. IsTrue (belongs x c)) (sym (w.set s)) h

    pub values_carry : ValuesLaw IsType IsValue cx → ValuesLaw IsTypeS (Seen f IsValue) cy
    values_carry law = record {
      each = λ s sure v d h. subst (λ x. ValueIs x sure v) (w.set s) (law.each (f s) sure v (w.is_type s d) h);
      thing = λ s sure d e. law.thing (f s) sure (w.is_type s d) (w.set s ∙ e);
      unseen = λ s d e. law.unseen (f s) (w.is_type s d) (w.set s ∙ e);
      ascend = λ s d. subst RangesAscend (w.set s) (law.ascend (f s) (w.is_type s d));
      made = λ s d. subst IsMadeSet (w.set s) (law.made (f s) (w.is_type s d));
    }

    parts_forth : (sure : Bool) (c : MCtor) (s : S) (i : ℕ) (vs : List MValue) → PartsAre IsValue sure (cx.sub c (f s)) i vs → PartsAre (Seen f IsValue) sure (cy.sub c s) i vs
    parts_forth sure c s i [] h = tt
    parts_forth sure c s i (v ∷ vs) h = (subst (λ t. IsValue t sure v) (w.sub c s i) h.0, parts_forth sure c s (suc i) vs h.1)

    parts_back : (sure : Bool) (c : MCtor) (s : S) (i : ℕ) (vs : List MValue) → PartsAre (Seen f IsValue) sure (cy.sub c s) i vs → PartsAre IsValue sure (cx.sub c (f s)) i vs
    parts_back sure c s i [] h = tt
    parts_back sure c s i (v ∷ vs) h = (subst (λ t. IsValue t sure v) (sym (w.sub c s i)) h.0, parts_back sure c s (suc i) vs h.1)

    pub parts_carry : PartsLaw IsType IsValue cx → PartsLaw IsTypeS (Seen f IsValue) cy
    parts_carry law = record {
      parts = λ s e sure v d h b n.
          let g = law.parts (f s) e sure v (w.is_type s d) (of_set s e h) b n in (
            (λ x. ((g.0 x).0 ∙ count_is s e, parts_forth sure (elementary_ctor e) s 0 (parts_of v) (g.0 x).1)),
            (λ p. g.1 (p.0 ∙ sym (count_is s e), parts_back sure (elementary_ctor e) s 0 (parts_of v) p.1)),
          );
      point = λ s d e.
          let g = law.point (f s) (w.is_type s d) (w.set s ∙ e) in (
            g.0,
            λ sure m v. (
              (λ x. (((g.1 sure m v).0 x).0, subst (λ t. IsValue t false v) (w.sub PointCtor s 0) ((g.1 sure m v).0 x).1)),
              (λ p. (g.1 sure m v).1 (p.0, subst (λ t. IsValue t false v) (sym (w.sub PointCtor s 0)) p.1)),
            ),
          );
      types = λ s e i d h l. w.part_type s e i d h l;
      few = λ s e d h k. subst (λ n. n < 2 ^ 32) (count_is s e) (law.few (f s) e (w.is_type s d) (of_set s e h) k);
      arity = λ s c d h. subst (ArityIs c) (w.arity c s) (law.arity (f s) c (w.is_type s d) (of_ctor s c h));
      items = λ s p r i j d h k.
          w.one _ _ (w.item_type s p i d h) (w.item_type s r j d k)
          (sym (w.sub (RowCtor p) s i) ∙ law.items (f s) p r i j (w.is_type s d) (of_ctor s (RowCtor p) h) (of_ctor s (RowCtor r) k) ∙ w.sub (RowCtor r) s j);
      item_types = λ s r i d h. w.item_type s r i d h;
    }

    pub empty_carries : (is_empty : T → Bool) (variant_empty : T → ℕ → Bool) → EmptyLaw IsType IsValue cx is_empty variant_empty → EmptyLaw IsTypeS (Seen f IsValue) cy (λ s. is_empty (f s)) (λ s k. variant_empty (f s) k)
    empty_carries is_empty variant_empty law = record {
      empty = λ s d e v. law.empty (f s) (w.is_type s d) e v;
      inhabited = λ s d e. law.inhabited (f s) (w.is_type s d) e;
      variant_is_empty = λ s k d h e v b. law.variant_is_empty (f s) k (w.is_type s d) (of_set s (OneVariant k) h) e v b;
      variant_inhabited = λ s k d h e. law.variant_inhabited (f s) k (w.is_type s d) (of_set s (OneVariant k) h) e;
    }

    pub unsure_carries : UnsureLaw IsType IsValue → UnsureLaw IsTypeS (Seen f IsValue)
    unsure_carries law = λ s d. law (f s) (w.is_type s d)
