-- Common values of patterns as they are placed, and what loops over them keep.
use Rattle.std.proofs.Common.{◌≡◌, ◌<◌, ◌≤◌, ◌⊎◌, inl, inr, ℕ, zero, suc, ◌+◌, Bool, true, List, [], ◌∷◌, map, length, slice_get, get_or, Option, Some, None, refl, sym, ap, ◌∙◌, subst, arith}
use Rattle.std.proofs.lemmas.Bool.{cases_lt}
use Rattle.std.proofs.lemmas.Option.{slice_get_within, slice_get-get_or}
use Rattle.match_model.specs.Values.{MValue}
use Rattle.match_model.specs.Constructors.{WildCtor, OrCtor}
use Rattle.match_model.specs.ArenaPatterns.{MDePat, ctor_of, subs_of}
use Rattle.match_model.specs.WellTyped.{is_written}
use Rattle.match_model.specs.Rows.{Head}
use Rattle.match_model.proofs.Basics.{untrue}
use Rattle.pat_context.specs.Parts.{Tells}
use Rattle.pattern_arena.specs.declared.pattern.DePat.{DePat}
use Rattle.pattern_arena.specs.Trees.{tree, placed_ctor, placed_subs}
use Rattle.pattern_arena.proofs.TreeFacts.{ctor_of-tree, subs_of-tree, sub-tree}
use Rattle.slice_split.specs.declared.shape.Shape.{Shape}
use Rattle.pat_context.specs.declared.ctor.Ctor.{Ctor}
use Rattle.pat_context.specs.declared.ctor.Ctor.TheVariants as c
use Rattle.pat_context.specs.Views.{plain_ctor}
use Rattle.pattern_lints.specs.Meeting.{Common, IsSharp, part_head, place_of, HeadFits, IsDone, Skipped, Spot, spot_part, IsPatternAt}
use Rattle.pattern_lints.specs.Lengths.{IsSpotOf, SpotIsBelow}
use Rattle.pattern_lints.proofs.Leaves.{IsLeaf}
use Rattle.pattern_lints.proofs.Sizes.{placed_count}
use Rattle.pattern_lints.proofs.HeadParts.{some_same, got, place_head}
use Rattle.pattern_lints.proofs.PartsCommon.{flipped, or_common, common_or, wild_first}
use Rattle.pattern_lints.proofs.Told.{tells, wild_second, IsOne}

pub turned : {T : Type 0} (IsValue : T → Bool → MValue → Type 0) (t : T) (sure : Bool) (h g : Head T) (b : Bool) → Tells b (Common IsValue t sure h g) →
    Tells b (Common IsValue t sure g h)
turned IsValue t sure h g b = tells b (flipped IsValue t sure h g) (flipped IsValue t sure g h)

pub wild_told : {T : Type 0} (IsValue : T → Bool → MValue → Type 0) (t : T) (sure : Bool) (p : DePat T) (g : Head T) (b : Bool) → placed_ctor p ≡ WildCtor →
    Tells b (Common IsValue t sure None g) → Tells b (Common IsValue t sure (Some (tree p)) g)
wild_told IsValue t sure p g b w = let x = wild_first IsValue t sure (tree p) g (ctor_of-tree p ∙ w) in tells b x.1 x.0

pub wild_second_told : {T : Type 0} (IsValue : T → Bool → MValue → Type 0) (t : T) (sure : Bool) (h : Head T) (q : DePat T) (b : Bool) → placed_ctor q ≡ WildCtor →
    Tells b (Common IsValue t sure h None) → Tells b (Common IsValue t sure h (Some (tree q)))
wild_second_told IsValue t sure h q b w = let x = wild_second IsValue t sure h (tree q) (ctor_of-tree q ∙ w) in tells b x.0 x.1

-- ---- alternatives

-- none of so many things is such
abbrev pub NoneYet : {A : Type 0} → List A → (A → Type 0) → ℕ → Type 0
NoneYet {A} xs P n = (i : ℕ) (x : A) → i < n → slice_get xs i ≡ Some x → ¬ P x

pub none_more : {A : Type 0} (xs : List A) (P : A → Type 0) (n : ℕ) (x : A) → n < length xs → x ≡ get_or xs n x → NoneYet xs P n → ¬ P x → NoneYet xs P (n + 1)
none_more {A} xs P n x l e none not_one i y m there = elim (cases_lt i n) [
  | inl below ↦ none i y below there
  | inr past ↦ (
      let same : i ≡ n = omega (arith, m, past) in
      let z : Some x ≡ Some y = ap Some e ∙ sym (slice_get-get_or xs n x l) ∙ ap (slice_get xs) (sym same) ∙ there in
      λ p. not_one (subst P (sym (some_same x y z)) p))
]

pub mapped_back : {A B : Type 0} (f : A → B) (xs : List A) (i : ℕ) (y : B) → slice_get (map f xs) i ≡ Some y → (x : A) × (slice_get xs i ≡ Some x) × (y ≡ f x)
mapped_back f [] i y e = cc
mapped_back f (x ∷ xs) zero y e = (x, refl, sym (some_same (f x) y e))
mapped_back f (x ∷ xs) (suc i) y e = mapped_back f xs i y e

-- where no alternative has a common value, the or-pattern has none
pub or_none : {T : Type 0} (IsValue : T → Bool → MValue → Type 0) (t : T) (sure : Bool) (p : DePat T) (g : Head T) (n : ℕ) → placed_ctor p ≡ OrCtor →
    length (placed_subs p) ≤ n → NoneYet (placed_subs p) (λ s. Common IsValue t sure (Some (tree s)) g) n → ¬ Common IsValue t sure (Some (tree p)) g
or_none IsValue t sure p g n or l none m =
    let a = or_common IsValue t sure (tree p) g (ctor_of-tree p ∙ or) m in
    let b = mapped_back tree (placed_subs p) a.0 a.1 (subst (λ xs. slice_get xs a.0 ≡ Some a.1) (subs_of-tree p) a.2) in
    none a.0 b.0 (let w = slice_get_within (placed_subs p) a.0 b.0 b.1 in omega (arith, w, l)) b.1 (subst (λ q. Common IsValue t sure (Some q) g) b.2 a.3)

pub or_some : {T : Type 0} (IsValue : T → Bool → MValue → Type 0) (t : T) (sure : Bool) (p s : DePat T) (g : Head T) (n : ℕ) → placed_ctor p ≡ OrCtor →
    n < length (placed_subs p) → s ≡ get_or (placed_subs p) n s → Common IsValue t sure (Some (tree s)) g → Common IsValue t sure (Some (tree p)) g
or_some IsValue t sure p s g n or l e m =
    common_or IsValue t sure (tree p) (tree s) n g (ctor_of-tree p ∙ or) (sub-tree p s n (slice_get-get_or (placed_subs p) n s l ∙ ap Some (sym e))) m

-- ---- lengths

-- none of so many lengths is such
abbrev pub NoneFrom : (low : ℕ) → (ℕ → Type 0) → ℕ → Type 0
NoneFrom low P i = (m : ℕ) → low ≤ m → m < low + i → ¬ P m

pub none_next : (low : ℕ) (P : ℕ → Type 0) (i : ℕ) → NoneFrom low P i → ¬ P (low + i) → NoneFrom low P (i + 1)
none_next low P i none not_one m l u = elim (cases_lt m (low + i)) [
  | inl below ↦ none m l below
  | inr past ↦ λ p. not_one (subst P (let e : m ≡ low + i = omega (arith, u, past) in e) p)
]

-- ---- parts

-- the parts that are done are such
abbrev pub AllDone : (n front gap : ℕ) → (ℕ → Type 0) → ℕ → Type 0
AllDone n front gap P i = (k : ℕ) → k < n → IsDone front gap i k → P k

pub none_done : (n front gap : ℕ) (P : ℕ → Type 0) → AllDone n front gap P 0
none_done n front gap P k l (inl d) = let a : k < 0 = d.1 in absurd (omega (arith, a))
none_done n front gap P k l (inr d) = let a : front + gap ≤ k = d.0 in let b : k < 0 + gap = d.1 in absurd (omega (arith, a, b))

pub one_done : (n front gap : ℕ) (P : ℕ → Type 0) (i j : ℕ) → (i < front → j ≡ i) → (front ≤ i → j ≡ i + gap) → AllDone n front gap P i → P j → AllDone n front gap P (i + 1)
one_done n front gap P i j before behind done one k l d = go d (cases_lt i front)
  where
    go : IsDone front gap (i + 1) k → (i < front) ⊎ (front ≤ i) → P k
    go (inl x) (inl a) =
        let u : k < front = x.0 in
        let v : k < i + 1 = x.1 in
        elim (cases_lt k i) [
          | inl below ↦ done k l (inl (u, below))
          | inr past ↦ subst P (let e : j ≡ k = before a ∙ omega (arith, v, past) in e) one
        ]
    go (inl x) (inr a) = let u : k < front = x.0 in done k l (inl (u, omega (arith, u, a)))
    go (inr x) (inl a) = let u : front + gap ≤ k = x.0 in let v : k < i + 1 + gap = x.1 in absurd (omega (arith, u, v, a))
    go (inr x) (inr a) =
        let u : front + gap ≤ k = x.0 in
        let v : k < i + 1 + gap = x.1 in
        elim (cases_lt k (i + gap)) [
          | inl below ↦ done k l (inr (u, below))
          | inr past ↦ subst P (let e : j ≡ k = behind a ∙ omega (arith, v, past) in e) one
        ]

-- ---- patterns as they are placed

pub placed_sub : {T : Type 0} (p s : DePat T) (n : ℕ) → n < length (placed_subs p) → s ≡ get_or (placed_subs p) n s → slice_get (subs_of (tree p)) n ≡ Some (tree s)
placed_sub p s n l e = sub-tree p s n (slice_get-get_or (placed_subs p) n s l ∙ ap Some (sym e))

pub tree_sharp : {T : Type 0} (p : DePat T) → IsSharp (placed_ctor p) → IsSharp (ctor_of (tree p))
tree_sharp p s = subst IsSharp (sym (ctor_of-tree p)) s

pub ctor_sharp : (x : Ctor) → (x ≡ c.Wild → ⊥) → (x ≡ c.Or → ⊥) → IsSharp (plain_ctor x)
ctor_sharp c.Single w o = tt
ctor_sharp c.Point w o = tt
ctor_sharp (c.Variant k) w o = tt
ctor_sharp c.Later w o = tt
ctor_sharp (c.Flag b) w o = tt
ctor_sharp (c.Numbers r) w o = tt
ctor_sharp (c.Text t) w o = tt
ctor_sharp c.OtherText w o = tt
ctor_sharp (c.Row s) w o = tt
ctor_sharp c.Wild w o = absurd (w refl)
ctor_sharp c.Or w o = absurd (o refl)

pub ctor_one : (x : Ctor) → ((x ≡ c.Single) ⊎ ((x ≡ c.Point) ⊎ ((k : ℕ) × (x ≡ c.Variant k)))) → IsOne (plain_ctor x)
ctor_one x (inl e) = subst (λ (y : Ctor). IsOne (plain_ctor y)) (sym e) tt
ctor_one x (inr (inl e)) = subst (λ (y : Ctor). IsOne (plain_ctor y)) (sym e) tt
ctor_one x (inr (inr e)) = subst (λ (y : Ctor). IsOne (plain_ctor y)) (sym e.1) tt

pub ctor_leaf : (x : Ctor) → IsSharp (plain_ctor x) → is_written (plain_ctor x) ≡ true → (x ≡ c.Single → ⊥) → (x ≡ c.Point → ⊥) → ((k : ℕ) → x ≡ c.Variant k → ⊥) →
    ((s : Shape) → x ≡ c.Row s → ⊥) → IsLeaf (plain_ctor x)
ctor_leaf c.Single s w a b d e = absurd (a refl)
ctor_leaf c.Point s w a b d e = absurd (b refl)
ctor_leaf (c.Variant k) s w a b d e = absurd (d k refl)
ctor_leaf (c.Flag x) s w a b d e = tt
ctor_leaf (c.Numbers r) s w a b d e = tt
ctor_leaf (c.Text t) s w a b d e = tt
ctor_leaf (c.Row r) s w a b d e = absurd (e r refl)
ctor_leaf c.Later s w a b d e = untrue w
ctor_leaf c.OtherText s w a b d e = untrue w
ctor_leaf c.Wild s w a b d e = absurd s
ctor_leaf c.Or s w a b d e = absurd s

pub tree_leaf : {T : Type 0} (p : DePat T) → IsLeaf (placed_ctor p) → IsLeaf (ctor_of (tree p))
tree_leaf p s = subst IsLeaf (sym (ctor_of-tree p)) s

pub tree_one : {T : Type 0} (p : DePat T) → IsOne (placed_ctor p) → IsOne (ctor_of (tree p))
tree_one p s = subst IsOne (sym (ctor_of-tree p)) s

-- the first number of a spot is below the count of the patterns
pub spot_below : {T : Type 0} (p : DePat T) (g : Head T) (spot : Spot) → IsSpotOf (Some (tree p)) g spot → SpotIsBelow spot (length (placed_subs p))
spot_below p g None w = tt
spot_below p g (Some s) w = subst (λ (x : ℕ). s.0 < x) (placed_count p) w.0

-- a pattern stands at the part of a spot
pub spot_pattern : {T : Type 0} (p : DePat T) (g : Head T) (n : ℕ) (spot : Spot) → HeadFits (Some (tree p)) n → IsSpotOf (Some (tree p)) g spot →
    IsPatternAt (Some (tree p)) n (spot_part (placed_ctor p) n spot)
spot_pattern p g n None fits w = tt
spot_pattern {T} p g n (Some s) fits w = λ e.
    let at = place_head (ctor_of (tree p)) (subs_of (tree p)) n s.0 fits w.0 in
    let x = got (subs_of (tree p)) s.0 w.0 in
    none x.0 (sym x.1 ∙ sym at ∙ subst (λ c. part_head (Some (tree p)) n (place_of c n s.0) ≡ None) (sym (ctor_of-tree p)) e)
  where
    none : (q : MDePat T) → Some q ≡ None → ⊥
    none q z = cc

-- what is left out has a pattern, so it is not a part that none writes
pub not_left_out : {T : Type 0} (h : Head T) (n : ℕ) (o : Option ℕ) (k : ℕ) → IsPatternAt h n o → part_head h n k ≡ None → ¬ Skipped o k
not_left_out h n None k a e s = s
not_left_out h n (Some b) k a e s = a (subst (λ (x : ℕ). part_head h n x ≡ None) s e)
