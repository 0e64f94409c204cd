-- What holds of a pattern and of all below it.
use Rattle.std.proofs.Common.{◌≡◌, ℕ, zero, suc, ◌≤◌, Bool, true, false, not, ◌&&◌, ◌||◌, List, [], ◌∷◌, ◌++◌, length, slice_get, Some, nat_eq, refl, ap, subst, ◌∙◌, arith, if◌then◌else◌}
use Rattle.std.proofs.lemmas.Bool.Decides.{nat_tests}
use Rattle.std.specs.List.{list_any, list_all}
use Rattle.match_model.specs.declared.Mode.{Mode}
use Rattle.match_model.specs.Types.{MType, StrType, PointType}
use Rattle.match_model.specs.Numbers.{MRange}
use Rattle.match_model.specs.Declarations.{MProgram}
use Rattle.match_model.specs.RustTypes.{inner_type}
use Rattle.match_model.specs.Constructors.{MCtor, SingleCtor, PointCtor, WildCtor, OrCtor, VariantCtor, FlagCtor, NumbersCtor, TextCtor, RowCtor}
use Rattle.match_model.specs.Patterns.{MPat}
use Rattle.match_model.specs.ArenaPatterns.{MBound, de_pat, MDePats, no_de_pats, more_de_pats, de_pats_list, ctor_of, type_of}
use Rattle.pattern_rules.specs.ArenaForms.{all_within, all_below, subs_in, is_or, is_wide, is_text, is_lone_range, lone_ranges_only}
use Rattle.pattern_rules.specs.Promises.{is_text_reference, text_is_referred, texts_are_referred}
use Rattle.pattern_rules.specs.Builders.{Built, over, leaf, point}
use Rattle.pattern_rules.specs.Elaborated.{with_bound, is_wide_ctor, standing_at, elaborated}
use Rattle.pattern_laws.proofs.Fitting.{IsText, Fits}
use Rattle.pattern_laws.proofs.MadeLists.{EachIs}
use Rattle.pattern_laws.proofs.EachMade.{IsNode, HasTwo, each_made}

-- something holds of each element
abbrev pub Every : {A : Type 0} → (A → Type 0) → List A → Type 0
Every E [] = Unit {0}
Every E (x ∷ xs) = E x × Every E xs

pub every_append : {A : Type 0} (E : A → Type 0) (xs ys : List A) → Every E xs → Every E ys → Every E (xs ++ ys)
every_append E [] ys h k = k
every_append E (x ∷ xs) ys h k = (h.0, every_append E xs ys h.1 k)

pub every_at : {A : Type 0} (E : A → Type 0) (xs : List A) (k : ℕ) (x : A) → slice_get xs k ≡ Some x → Every E xs →
    E x
every_at E [] k x e h = absurd cc
every_at E (y ∷ xs) zero x e h = let same : y ≡ x = cc in subst E same h.0
every_at E (y ∷ xs) (suc k) x e h = every_at E xs k x e h.1

pub every_true : {A : Type 0} (f : A → Bool) (xs : List A) → Every (λ x. f x ≡ true) xs → list_all f xs ≡ true
every_true f [] h = refl
every_true f (x ∷ xs) h = rw (h.0, every_true f xs h.1) refl

pub below_every : (E : Built → Type 0) (ps : MDePats MType) → EachIs (λ p. Every E (all_within p)) ps →
    Every E (all_below ps)
below_every E no_de_pats h = tt
below_every E (more_de_pats p ps) h = every_append E (all_within p) (all_below ps) h.0 (below_every E ps h.1)

-- neither a range nor an or-pattern
abbrev pub IsOther : MCtor → Type 0
IsOther OrCtor = ⊥
IsOther (NumbersCtor r) = ⊥
IsOther _ = Unit {0}

node_other : (c : MCtor) → IsNode c → IsOther c
node_other SingleCtor h = tt
node_other (VariantCtor k) h = tt
node_other (RowCtor s) h = tt
node_other c h = absurd h

wide_same : (c : MCtor) (t : MType) (u a : ℕ) (subs : MDePats MType) (binds : List MBound) →
    is_wide (de_pat c t u a subs binds) ≡ is_wide_ctor c
wide_same (NumbersCtor r) t u a subs binds = refl
wide_same c t u a subs binds = refl

-- what asks only for the constructor
or_same : (c : MCtor) (t : MType) (u a v b : ℕ) (subs : MDePats MType) (binds others : List MBound) →
    is_or (de_pat c t u a subs binds) ≡ is_or (de_pat c t v b subs others)
or_same OrCtor t u a v b subs binds others = refl
or_same c t u a v b subs binds others = refl

text_same : (c : MCtor) (t : MType) (u a v b : ℕ) (subs : MDePats MType) (binds others : List MBound) →
    is_text (de_pat c t u a subs binds) ≡ is_text (de_pat c t v b subs others)
text_same (TextCtor s) t u a v b subs binds others = refl
text_same c t u a v b subs binds others = refl

reference_same : (c : MCtor) (t : MType) (u a v b : ℕ) (subs : MDePats MType) (binds others : List MBound) →
    is_text_reference (λ w. w) (de_pat c t u a subs binds) ≡ is_text_reference (λ w. w) (de_pat c t v b subs others)
reference_same PointCtor t u a v b subs binds others = refl
reference_same c t u a v b subs binds others = refl

lone_same : (c : MCtor) (t : MType) (u a v b : ℕ) (subs : MDePats MType) (binds others : List MBound) →
    is_lone_range (de_pat c t u a subs binds) ≡ true → is_lone_range (de_pat c t v b subs others) ≡ true
lone_same c t u a v b subs binds others k =
    ap (λ x. not (x && nat_eq (length (de_pats_list subs)) 1) || list_all is_wide (de_pats_list subs))
    (or_same c t v b u a subs others binds) ∙ k

referred_same : (c : MCtor) (t : MType) (u a v b : ℕ) (subs : MDePats MType) (binds others : List MBound) →
    text_is_referred (λ w. w) (de_pat c t u a subs binds) ≡ true → text_is_referred (λ w. w)
    (de_pat c t v b subs others) ≡ true
referred_same c t u a v b subs binds others k = ap (λ x. x || not (list_any is_text (de_pats_list subs)))
    (reference_same c t v b u a subs others binds) ∙ k

-- something that asks only constructor, type and what is below, and holds of every way of making a node, holds everywhere
module _ (program : MProgram) (Holds : MRange → MType → Type 0) (most : ℕ) (E : Built → Type 0)
    (other : (c : MCtor) (t : MType) (u a : ℕ) (subs : MDePats MType) (binds : List MBound) → IsOther c →
    E (de_pat c t u a subs binds))
    (number : (t : MType) (r : MRange) (u a : ℕ) → Holds r t → E (de_pat (NumbersCtor r) t u a no_de_pats []))
    (choice : (t : MType) (u a : ℕ) (subs : MDePats MType) → HasTwo subs → length (de_pats_list subs) ≤ most →
    E (de_pat OrCtor t u a subs []))
    (lone : (t : MType) (u a : ℕ) (p : Built) → is_wide p ≡ true →
    E (de_pat OrCtor t u a (more_de_pats p no_de_pats) []))
    (again : (c : MCtor) (t : MType) (u a v b : ℕ) (subs : MDePats MType) (binds others : List MBound) →
    E (de_pat c t u a subs binds) → E (de_pat c t v b subs others)) where
  standing_every : (here : ℕ) (p : Built) → Every E (all_within p) → Every E (all_within (standing_at here p))
  standing_every here (de_pat c t u a subs binds) h = go (is_wide_ctor c) (not (nat_eq here a)) refl
    where
      go : (w d : Bool) → is_wide_ctor c ≡ w →
          Every E (all_within (if w && d then de_pat OrCtor t here here
          (more_de_pats (de_pat c t a a subs binds) no_de_pats) [] else de_pat c t here here subs binds))
      go true true e = (
        lone t here here (de_pat c t a a subs binds) (wide_same c t a a subs binds ∙ e),
        every_append E (all_within (de_pat c t a a subs binds)) [] (again c t u a a a subs binds binds h.0, h.1) tt,
      )
      go true false e = (again c t u a here here subs binds binds h.0, h.1)
      go false d e = (again c t u a here here subs binds binds h.0, h.1)

  bound_every : (b : MBound) (p : Built) → Every E (all_within p) → Every E (all_within (with_bound b p))
  bound_every b (de_pat c t u a subs binds) h = (again c t u a u a subs binds (b ∷ binds) h.0, h.1)

  pub every_made : (here : ℕ) (p : MPat) (t : MType) (m : Mode) → Fits program Holds most p t →
      Every E (all_within (standing_at here (elaborated program p t m)))
  every_made here p t m h = standing_every here (elaborated program p t m)
      (each_made program Holds most (λ q. Every E (all_within q))
      (λ w. (other WildCtor w 0 0 no_de_pats [] tt, tt))
      (λ w r a q. (number w r 0 a q, tt))
      (λ w b. (other (FlagCtor b) w 0 0 no_de_pats [] tt, tt))
      (λ w s q. (
        other PointCtor w 0 0 (more_de_pats (leaf (TextCtor s) (inner_type w)) no_de_pats) [] tt,
        (other (TextCtor s) (inner_type w) 0 0 no_de_pats [] tt, tt),
      ))
      (λ w q k. (other PointCtor w 0 0 (more_de_pats q no_de_pats) [] tt, every_append E (all_within q) [] k tt))
      (λ c w subs k q. (other c w 0 0 subs [] (node_other c k), below_every E subs q))
      (λ w subs two few q. (choice w 0 0 subs two few, below_every E subs q))
      bound_every standing_every p t m h)

-- or-patterns with one alternative stand only over ranges of more than one number
Lone : Built → Type 0
Lone p = is_lone_range p ≡ true

other_lone : (c : MCtor) (t : MType) (u a : ℕ) (subs : MDePats MType) (binds : List MBound) → IsOther c →
    Lone (de_pat c t u a subs binds)
unfolding Lone
other_lone OrCtor t u a subs binds h = absurd h
other_lone c t u a subs binds h = refl

two_lone : (t : MType) (u a : ℕ) (subs : MDePats MType) → HasTwo subs → Lone (de_pat OrCtor t u a subs [])
unfolding Lone
two_lone t u a no_de_pats h = absurd h
two_lone t u a (more_de_pats p no_de_pats) h = absurd h
two_lone t u a (more_de_pats p (more_de_pats q ps)) h = let several : nat_eq (suc (suc (length (de_pats_list ps)))) 1
    ≡ false = grind (arith, nat_tests) in rw several refl

pub lone_made : (program : MProgram) (Holds : MRange → MType → Type 0) (most here : ℕ) (p : MPat) (t : MType)
    (m : Mode) → Fits program Holds most p t →
    lone_ranges_only (standing_at here (elaborated program p t m)) ≡ true
unfolding Lone
lone_made program Holds most here p t m h =
    every_true is_lone_range (all_within (standing_at here (elaborated program p t m)))
    (every_made program Holds most (λ q. is_lone_range q ≡ true) other_lone (λ w r u a q. refl)
    (λ w u a subs two few. two_lone w u a subs two) (λ w u a q k. rw k refl)
    lone_same here p t m h)

-- of each range this holds at its type
abbrev pub RangeHolds : (MRange → MType → Type 0) → Built → Type 0
RangeHolds Holds q = (r : MRange) → ctor_of q ≡ NumbersCtor r → Holds r (type_of q)

other_range : (Holds : MRange → MType → Type 0) (c : MCtor) (t : MType) (u a : ℕ) (subs : MDePats MType)
    (binds : List MBound) → IsOther c → RangeHolds Holds (de_pat c t u a subs binds)
other_range Holds OrCtor t u a subs binds h r e = absurd h
other_range Holds (NumbersCtor q) t u a subs binds h r e = absurd h
other_range Holds c t u a subs binds h r e = absurd (clash e)
  where
    clash : c ≡ NumbersCtor r → ⊥
    clash e = absurd cc

no_choice : (r : MRange) → OrCtor ≡ NumbersCtor r → ⊥
no_choice r e = absurd cc

pub ranges_made : (program : MProgram) (Holds : MRange → MType → Type 0) (most here : ℕ) (p : MPat) (t : MType)
    (m : Mode) → Fits program Holds most p t →
    Every (RangeHolds Holds) (all_within (standing_at here (elaborated program p t m)))
ranges_made program Holds most here p t m h =
    every_made program Holds most (RangeHolds Holds) (other_range Holds)
    (λ w q u a k r e. let same : q ≡ r = cc in subst (λ x. Holds x w) same k)
    (λ w u a subs two few r e. absurd (no_choice r e)) (λ w u a q k r e. absurd (no_choice r e))
    (λ c w u a v b subs binds others k. k) here p t m h

-- each or-pattern has at most so many alternatives
abbrev pub FewChoices : ℕ → Built → Type 0
FewChoices most q = is_or q ≡ true → length (subs_in q) ≤ most

other_few : (most : ℕ) (c : MCtor) (t : MType) (u a : ℕ) (subs : MDePats MType) (binds : List MBound) → IsOther c →
    FewChoices most (de_pat c t u a subs binds)
other_few most OrCtor t u a subs binds h e = absurd h
other_few most c t u a subs binds h e = absurd (clash e)
  where
    clash : false ≡ true → ⊥
    clash e = absurd cc

pub few_made : (program : MProgram) (Holds : MRange → MType → Type 0) (most here : ℕ) (p : MPat) (t : MType)
    (m : Mode) → 1 ≤ most → Fits program Holds most p t →
    Every (FewChoices most) (all_within (standing_at here (elaborated program p t m)))
few_made program Holds most here p t m one h =
    every_made program Holds most (FewChoices most) (other_few most) (λ w q u a k e. absurd (clash e))
    (λ w u a subs two few e. few) (λ w u a q k e. one)
    (λ c w u a v b subs binds others k e. k (or_same c w u a v b subs binds others ∙ e)) here p t m h
  where
    clash : false ≡ true → ⊥
    clash e = absurd cc

-- a text stands only below a shared reference to one
Referred : Built → Type 0
Referred p = (is_text p ≡ false) × Every (λ q. text_is_referred (λ t. t) q ≡ true) (all_within p)

no_texts : (ps : MDePats MType) → EachIs Referred ps → list_any is_text (de_pats_list ps) ≡ false
unfolding Referred
no_texts no_de_pats h = refl
no_texts (more_de_pats p ps) h = rw (h.0.0, no_texts ps h.1) refl

referred_below : (ps : MDePats MType) → EachIs Referred ps →
    EachIs (λ p. Every (λ q. text_is_referred (λ t. t) q ≡ true) (all_within p)) ps
unfolding Referred
referred_below no_de_pats h = tt
referred_below (more_de_pats p ps) h = (h.0.1, referred_below ps h.1)

or_right : (a b : Bool) → b ≡ true → (a || b) ≡ true
or_right true b h = refl
or_right false b h = h

node_referred : (c : MCtor) (t : MType) (u a : ℕ) (subs : MDePats MType) (binds : List MBound) →
    EachIs Referred subs → text_is_referred (λ w. w) (de_pat c t u a subs binds) ≡ true
node_referred c t u a subs binds h =
    or_right (is_text_reference (λ w. w) (de_pat c t u a subs binds)) (not (list_any is_text (de_pats_list subs)))
    (ap not (no_texts subs h))

no_text_node : (c : MCtor) (t : MType) (subs : MDePats MType) → IsNode c → is_text (over c t subs) ≡ false
no_text_node SingleCtor t subs h = refl
no_text_node (VariantCtor k) t subs h = refl
no_text_node (RowCtor s) t subs h = refl
no_text_node c t subs h = absurd h

text_referred : (t : MType) (s : List ℕ) → IsText t → Referred (point t (leaf (TextCtor s) (inner_type t)))
unfolding Referred
text_referred (PointType false StrType) s h = (refl, (refl, (refl, tt)))
text_referred t s h = absurd h

standing_referred : (here : ℕ) (p : Built) → Referred p → Referred (standing_at here p)
unfolding Referred
standing_referred here (de_pat c t u a subs binds) h = go (is_wide_ctor c) (not (nat_eq here a)) refl
  where
    go : (w d : Bool) → is_wide_ctor c ≡ w →
        (is_text (if w && d then de_pat OrCtor t here here
        (more_de_pats (de_pat c t a a subs binds) no_de_pats) [] else de_pat c t here here subs binds) ≡ false)
        × Every (λ q. text_is_referred (λ t'. t') q ≡ true)
        (all_within (if w && d then de_pat OrCtor t here here
        (more_de_pats (de_pat c t a a subs binds) no_de_pats) [] else de_pat c t here here subs binds))
    go true true e = (
      refl,
      (
        node_referred OrCtor t here here (more_de_pats (de_pat c t a a subs binds) no_de_pats) [] (
          (text_same c t a a u a subs binds binds ∙ h.0, (referred_same c t u a a a subs binds binds h.1.0, h.1.1)),
          tt,
        ),
        every_append (λ q. text_is_referred (λ t'. t') q ≡ true) (all_within (de_pat c t a a subs binds)) []
            (referred_same c t u a a a subs binds binds h.1.0, h.1.1) tt,
      ),
    )
    go true false e = (
      text_same c t here here u a subs binds binds
          ∙ h.0,
      (referred_same c t u a here here subs binds binds h.1.0, h.1.1),
    )
    go false d e = (
      text_same c t here here u a subs binds binds
          ∙ h.0,
      (referred_same c t u a here here subs binds binds h.1.0, h.1.1),
    )

pub texts_made : (program : MProgram) (Holds : MRange → MType → Type 0) (most here : ℕ) (p : MPat) (t : MType)
    (m : Mode) → Fits program Holds most p t →
    texts_are_referred (λ w. w) (standing_at here (elaborated program p t m)) ≡ true
unfolding Referred
texts_made program Holds most here p t m h = go
    (standing_referred here (elaborated program p t m) (each_made program Holds most Referred
    (λ w. (refl, (refl, tt)))
    (λ w r a q. (refl, (refl, tt)))
    (λ w b. (refl, (refl, tt)))
    text_referred
    (λ w q k. (
      refl,
      (
        node_referred PointCtor w 0 0 (more_de_pats q no_de_pats) [] (k, tt),
        every_append
            (λ x. text_is_referred (λ t'. t') x ≡ true) (all_within q) [] k.1 tt,
      ),
    ))
    (λ c w subs k q. (
      no_text_node c w subs k,
      (
        node_referred c w 0 0 subs [] q,
        below_every (λ x. text_is_referred (λ t'. t') x ≡ true) subs
            (referred_below subs q),
      ),
    ))
    (λ w subs two few q. (
      refl,
      (
        node_referred OrCtor w 0 0 subs [] q,
        below_every (λ x. text_is_referred (λ t'. t') x ≡ true) subs
            (referred_below subs q),
      ),
    ))
    bound_referred standing_referred p t m h))
  where
    bound_referred : (b : MBound) (q : Built) → Referred q → Referred (with_bound b q)
    bound_referred b (de_pat c w u a subs binds) k = (
      text_same c w u a u a subs (b ∷ binds) binds
          ∙ k.0,
      (referred_same c w u a u a subs binds (b ∷ binds) k.1.0, k.1.1),
    )

    go : (is_text (standing_at here (elaborated program p t m)) ≡ false)
        × Every (λ q. text_is_referred (λ w. w) q ≡ true) (all_within (standing_at here (elaborated program p t m))) →
        texts_are_referred (λ w. w) (standing_at here (elaborated program p t m)) ≡ true
    go (e, k) = rw e (every_true (text_is_referred (λ w. w))
        (all_within (standing_at here (elaborated program p t m))) k)
