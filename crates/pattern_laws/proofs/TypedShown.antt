-- A pattern is well typed where the one without its uids is, for a context that is seen through the types of the program.
use Rattle.std.proofs.Common.{◌≡◌, ℕ, suc, ◌+◌, ◌<◌, Bool, true, ◌&&◌, IsTrue, List, [], ◌∷◌, ◌++◌, length, refl, sym, ap, subst, ◌∙◌, arith}
use Rattle.match_model.specs.Types.{MType}
use Rattle.match_model.specs.Declarations.{MProgram}
use Rattle.match_model.specs.RustTypes.{rust_context, rust_set, rust_arity, is_type}
use Rattle.match_model.specs.Constructors.{MCtor, SingleCtor, PointCtor, LaterCtor, OtherTextCtor, WildCtor, OrCtor, VariantCtor, FlagCtor, NumbersCtor, TextCtor, RowCtor, MSet, SingleSet, PointSet, VariantSet, OneSingle, OnePoint, OneVariant, is_of_set, belongs}
use Rattle.match_model.specs.Contexts.{Context}
use Rattle.match_model.specs.ContextViews.{View, Passing}
use Rattle.match_model.specs.ArenaPatterns.{MDePat, de_pat, MDePats, no_de_pats, more_de_pats, de_pats_list, type_of, at_of}
use Rattle.match_model.specs.WellTyped.{IsTyped, AreAllTyped, ArePartsTyped, HasNone, ByCtor, is_written}
use Rattle.match_model.specs.Lists.{Every}
use Rattle.pattern_rules.specs.Settings.{program}
use Rattle.pattern_rules.specs.Faults.{scrutinee_type}
use Rattle.pattern_rules.specs.ArenaForms.{all_within, all_below}
use Rattle.pattern_rules.proofs.SameTypes.{both_left}
use Rattle.pattern_rules.specs.Shown.{uid_under, settled, settled_all}
use Rattle.pattern_laws.specs.ShownLaws.{ShownArmIsTyped}
use Rattle.pattern_laws.proofs.ArmsKept.{arms_typed}

by_ctor : (c : MCtor) (A B C A' B' C' : Type 0) → (A → A') → (B → B') → (C → C') → ByCtor c A B C → ByCtor c A' B' C'
by_ctor WildCtor A B C A' B' C' f g h x = f x
by_ctor OrCtor A B C A' B' C' f g h x = g x
by_ctor c A B C A' B' C' f g h x = h x

module _ {T : Type 0} (rust : MProgram) (type : T → MType) (is_type_s : T → Bool) (cy : Context T)
    (view : View type (Passing is_type_s) (Passing (is_type rust)) cy (rust_context rust)) where
  count_settled : (c : MCtor) (ps : MDePats T) → length (de_pats_list (settled_all type c ps)) ≡ length
      (de_pats_list ps)
  count_settled c no_de_pats = refl
  count_settled c (more_de_pats p ps) = ap suc (count_settled c ps)

  none_settled : (c : MCtor) (ps : MDePats T) → HasNone (settled_all type c ps) → HasNone ps
  none_settled c no_de_pats h = tt
  none_settled c (more_de_pats p ps) h = absurd h

  every_left : (xs ys : List (MDePat T)) → Every (λ q. IsTrue (is_type_s (type_of q))) (xs ++ ys) →
      Every (λ q. IsTrue (is_type_s (type_of q))) xs
  every_left [] ys h = tt
  every_left (x ∷ xs) ys h = (h.0, every_left xs ys h.1)

  every_right : (xs ys : List (MDePat T)) → Every (λ q. IsTrue (is_type_s (type_of q))) (xs ++ ys) →
      Every (λ q. IsTrue (is_type_s (type_of q))) ys
  every_right [] ys h = h
  every_right (x ∷ xs) ys h = every_right xs ys h.1

  none_below : (i : ℕ) → i < 0 → ⊥
  none_below i h = omega (arith, h)

  no_parts : (c : MCtor) (t : T) (i : ℕ) → rust_arity rust c (type t) ≡ 0 → i < cy.arity c t → ⊥
  no_parts c t i e h = none_below i (subst (λ n. i < n) (sym (view.arity c t) ∙ e) h)

  single_there : (st : MSet) → belongs st SingleCtor ≡ true → is_of_set st OneSingle ≡ true
  single_there SingleSet h = refl
  single_there st h = cc

  point_there : (st : MSet) → belongs st PointCtor ≡ true → is_of_set st OnePoint ≡ true
  point_there PointSet h = refl
  point_there st h = cc

  variant_there : (st : MSet) (k : ℕ) → belongs st (VariantCtor k) ≡ true → is_of_set st (OneVariant k) ≡ true
  variant_there (VariantSet count later) k h = h
  variant_there st k h = cc

  -- the types of parts are types
  pub sub_is_type : (c : MCtor) (t : T) (i : ℕ) → IsTrue (is_type_s t) → belongs (cy.set_of t) c ≡ true →
      i < cy.arity c t → IsTrue (is_type_s (cy.sub c t i))
  sub_is_type SingleCtor t i d b lt = view.part_type t OneSingle i d (single_there (cy.set_of t) b) lt
  sub_is_type (VariantCtor k) t i d b lt = view.part_type t (OneVariant k) i d (variant_there (cy.set_of t) k b) lt
  sub_is_type PointCtor t i d b lt = view.part_type t OnePoint i d (point_there (cy.set_of t) b)
      (subst (λ n. i < n) (sym (view.arity PointCtor t)) lt)
  sub_is_type (RowCtor s) t i d b lt = view.item_type t s i d b
  sub_is_type LaterCtor t i d b lt = absurd (no_parts LaterCtor t i refl lt)
  sub_is_type OtherTextCtor t i d b lt = absurd (no_parts OtherTextCtor t i refl lt)
  sub_is_type WildCtor t i d b lt = absurd (no_parts WildCtor t i refl lt)
  sub_is_type OrCtor t i d b lt = absurd (no_parts OrCtor t i refl lt)
  sub_is_type (FlagCtor f) t i d b lt = absurd (no_parts (FlagCtor f) t i refl lt)
  sub_is_type (NumbersCtor r) t i d b lt = absurd (no_parts (NumbersCtor r) t i refl lt)
  sub_is_type (TextCtor s) t i d b lt = absurd (no_parts (TextCtor s) t i refl lt)

  mutual
    pub typed_settled : (p : MDePat T) (u : ℕ) (t : T) → IsTrue (is_type_s t) →
        Every (λ q. IsTrue (is_type_s (type_of q))) (all_within p) →
        IsTyped (rust_context rust) (type t) (settled type u p) → IsTyped cy t p
    typed_settled (de_pat c w uid at subs binds) u t d k h = (
      view.one w t k.0 d h.0,
      h.1,
      by_ctor c (HasNone (settled_all type c subs))
          (AreAllTyped (rust_context rust) (type t) (settled_all type c subs))
          (IsTrue (belongs (rust_set rust (type t)) c && is_written c)
          × (length (de_pats_list (settled_all type c subs)) ≡ rust_arity rust c (type t))
          × ArePartsTyped (rust_context rust) ((rust_context rust).sub c (type t)) 0 (settled_all type c subs))
          (HasNone subs) (AreAllTyped cy t subs)
          (IsTrue (belongs (cy.set_of t) c && is_written c) × (length (de_pats_list subs) ≡ cy.arity c t)
          × ArePartsTyped cy (cy.sub c t) 0 subs)
          (none_settled c subs) (λ x. all_typed_settled c subs t d k.1 x)
          (λ x. node_typed c t d x (λ ok. parts_settled c subs ((rust_context rust).sub c (type t)) (cy.sub c t) 0
          (λ i. view.sub c t i) ok k.1 x.2)) h.2,
    )
      where
        node_typed : (c : MCtor) (t : T) → IsTrue (is_type_s t) →
            IsTrue (belongs (rust_set rust (type t)) c && is_written c)
            × (length (de_pats_list (settled_all type c subs)) ≡ rust_arity rust c (type t))
            × ArePartsTyped (rust_context rust) ((rust_context rust).sub c (type t)) 0 (settled_all type c subs) →
            (((i : ℕ) → i < 0 + length (de_pats_list subs) → IsTrue (is_type_s (cy.sub c t i))) →
            ArePartsTyped cy (cy.sub c t) 0 subs) →
            IsTrue (belongs (cy.set_of t) c && is_written c) × (length (de_pats_list subs) ≡ cy.arity c t)
            × ArePartsTyped cy (cy.sub c t) 0 subs
        node_typed c t d x parts =
            let set : IsTrue (belongs (cy.set_of t) c && is_written c) = subst
            (λ st. IsTrue (belongs st c && is_written c)) (view.set t) x.0 in
            let count : length (de_pats_list subs) ≡ cy.arity c t = sym (count_settled c subs)
            ∙ (x.1 ∙ view.arity c t) in (
              set,
              count,
              parts (λ i lt. sub_is_type c t i d (both_left (belongs (cy.set_of t) c) (is_written c) set)
                  (omega (arith, lt, count))),
            )

    all_typed_settled : (c : MCtor) (ps : MDePats T) (t : T) → IsTrue (is_type_s t) →
        Every (λ q. IsTrue (is_type_s (type_of q))) (all_below ps) →
        AreAllTyped (rust_context rust) (type t) (settled_all type c ps) → AreAllTyped cy t ps
    all_typed_settled c no_de_pats t d k h = tt
    all_typed_settled c (more_de_pats p ps) t d k h = (
      typed_settled p (uid_under c p) t d (every_left (all_within p) (all_below ps) k) h.0,
      all_typed_settled c ps t d (every_right (all_within p) (all_below ps) k) h.1,
    )

    parts_settled : (c : MCtor) (ps : MDePats T) (xs : ℕ → MType) (ts : ℕ → T) (i : ℕ) →
        ((j : ℕ) → xs j ≡ type (ts j)) → ((j : ℕ) → j < i + length (de_pats_list ps) → IsTrue (is_type_s (ts j))) →
        Every (λ q. IsTrue (is_type_s (type_of q))) (all_below ps) → ArePartsTyped (rust_context rust) xs i
        (settled_all type c ps) → ArePartsTyped cy ts i ps
    parts_settled c no_de_pats xs ts i e ok k h = tt
    parts_settled c (more_de_pats p ps) xs ts i e ok k h = (
      typed_settled p (uid_under c p) (ts i) (ok i (omega arith)) (every_left (all_within p) (all_below ps) k)
          (subst (λ w. IsTyped (rust_context rust) w (settled type (uid_under c p) p)) (e i) h.0),
      parts_settled c ps xs ts (suc i) e (λ j lt. ok j (omega (arith, lt)))
          (every_right (all_within p) (all_below ps) k) h.1,
    )

pub typed_shown : (T : Type 0) → ShownArmIsTyped T
typed_shown T type is_type_s cy s f a d t view h k i e =
    typed_settled (program s) type is_type_s cy view d.pat (at_of d.pat) t i k
    (subst (λ w. IsTyped (rust_context (program s)) w (settled type (at_of d.pat) d.pat)) (sym e)
    (subst (λ p. IsTyped (rust_context (program s)) (scrutinee_type s f) p) (sym h.pattern)
    (arms_typed s f a h.sound)))
