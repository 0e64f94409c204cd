-- The numbers that are noted of texts and or-patterns have those of the values that they match.
use Rattle.std.proofs.Common.{◌≡◌, ◌<◌, ◌≤◌, ◌⊎◌, inl, inr, ℕ, zero, suc, ◌+◌, ℤ, Bool, true, false, ◌&&◌, List, [], ◌∷◌, map, length, get_or, slice_get, Option, None, Some, cond, nat_eq, refl, sym, ap, subst, ◌∙◌, arith}
use Rattle.std.specs.Prelude.{int_le}
use Rattle.std.specs.Option.{option_map}
use Rattle.std.proofs.lemmas.Int.{ints}
use Rattle.std.proofs.lemmas.Bool.{eqb-true}
use Rattle.std.proofs.lemmas.Bool.Decides.{nat_tests}
use Rattle.std.proofs.lemmas.Option.{slice_get_within}
use Rattle.indexmap.specs.IndexMap.{get}
use Rattle.match_model.specs.Numbers.{At, MRange, in_range, is_from, is_up_to}
use Rattle.match_model.specs.Constructors.{OrCtor}
use Rattle.match_model.specs.ArenaPatterns.{MDePat, MDeArm, ctor_of, subs_of, uid_of}
use Rattle.match_model.specs.Rows.{Head}
use Rattle.range_split.specs.Ranges.{plain_range}
use Rattle.range_split.specs.declared.range.Range.{Range}
use Rattle.pattern_arena.specs.declared.pattern.DePat.{DePat, out-DePat}
use Rattle.pattern_arena.specs.Trees.{tree, placed_ctor, placed_subs}
use Rattle.pattern_arena.proofs.TreeFacts.{ctor_of-tree, subs_of-tree, tree_out}
use Rattle.pattern_lints.specs.declared.hulls.Hulls.{Hulls}
use Rattle.pattern_lints.specs.Beside.{LiesBelow, number_below, own_range}
use Rattle.pattern_lints.specs.Meeting.{pattern_size}
use Rattle.pattern_lints.specs.Hulls.{noted, is_kept, pattern_at, IsWithin, HasNoted, Widens, IsKnown, AreKnown, SubsAreKnown, AreKnownIn, IsOnlyPart}
use Rattle.pattern_lints.proofs.EndList.{last-or-below, one-at, got-at, mapped-at}
use Rattle.pattern_lints.proofs.HeadParts.{some_same}
use Rattle.pattern_lints.proofs.Matched.{or_forth}
use Rattle.pattern_lints.proofs.PlacedMeets.{mapped_back}
use Rattle.pattern_lints.proofs.Sizes.{sub_smaller}

-- ---- ends and ranges

chain : (x y z : ℤ) → int_le x y ≡ true → int_le y z ≡ true → int_le x z ≡ true
chain x y z g h = grind (arith, ints)

pub from-lower : (a b x : ℤ) → int_le a b ≡ true → is_from (At b) x ≡ true → is_from (At a) x ≡ true
from-lower a b x l h = chain a b x l h

pub up-higher : (a b x : ℤ) → int_le a b ≡ true → is_up_to (At a) x ≡ true → is_up_to (At b) x ≡ true
up-higher a b x l h = chain x a b h l

both-true : (a b : Bool) → (a && b) ≡ true → (a ≡ true) × (b ≡ true)
both-true true b h = (refl, h)
both-true false b h = cc

both-hold : (a b : Bool) → a ≡ true → b ≡ true → (a && b) ≡ true
both-hold a b g h = ap (λ x. x && b) g ∙ h

-- a range between wider ends has the numbers
pub wider : (r s : MRange) (x : ℤ) → (is_from r.low x ≡ true → is_from s.low x ≡ true) → (is_up_to r.high x ≡ true → is_up_to s.high x ≡ true) → in_range r x ≡ true → in_range s x ≡ true
wider r s x f g h =
    let b = both-true (is_from r.low x) (is_up_to r.high x) h in
    both-hold (is_from s.low x) (is_up_to s.high x) (f b.0) (g b.1)

pub lies-wider : {T : Type 0} (p : MDePat T) (steps : List ℕ) (r s : MRange) → IsWithin r s → LiesBelow p steps r → LiesBelow p steps s
lies-wider p steps r s w l = λ v m. w (number_below steps v) (l v m)

-- ---- what is noted

pub widens-same : (h : Hulls) → Widens h h
widens-same h = λ uid r e. (r, e, λ x i. i)

pub widens-then : (a b c : Hulls) → Widens a b → Widens b c → Widens a c
widens-then a b c f g = λ uid r e.
    let s = f uid r e in
    let t = g uid s.0 s.1 in
    (t.0, t.1, λ x i. t.2 x (s.2 x i))

-- a map that has the range at one uid, and is as before at others
abbrev pub IsNotedAt : Hulls → Hulls → (uid : ℕ) → Range → Type 0
IsNotedAt old new uid all = (q : ℕ) → get nat_eq new.of q ≡ cond (nat_eq uid q) (Some all) (get nat_eq old.of q)

nat-itself : (n : ℕ) → nat_eq n n ≡ true
nat-itself n = grind (arith, nat_tests)

pub noted-there : (old new : Hulls) (uid : ℕ) (all : Range) (r : MRange) → IsNotedAt old new uid all → IsWithin r (plain_range all) → HasNoted new uid r
noted-there old new uid all r at w =
    let here = at uid ∙ ap (λ b. cond b (Some all) (get nat_eq old.of uid)) (nat-itself uid) in
    (plain_range all, ap (option_map plain_range) here, w)

pub noted-widens : (old new : Hulls) (uid : ℕ) (all : Range) → IsNotedAt old new uid all → ((r : MRange) → noted old uid ≡ Some r → IsWithin r (plain_range all)) → Widens old new
noted-widens old new uid all at w = λ q r e. go q r e (nat_eq uid q) refl
  where
    go : (q : ℕ) (r : MRange) → noted old q ≡ Some r → (b : Bool) → nat_eq uid q ≡ b → HasNoted new q r
    go q r e true same =
        let is = eqb-true uid q same in
        subst (λ n. HasNoted new n r) is (noted-there old new uid all r at (w r (subst (λ n. noted old n ≡ Some r) (sym is) e)))
    go q r e false apart =
        let old-is = at q ∙ ap (λ b. cond b (Some all) (get nat_eq old.of q)) apart in
        (r, ap (option_map plain_range) old-is ∙ e, λ x i. i)

-- ---- what is known

pub known-widened : {T : Type 0} (a b : Hulls) (p : MDePat T) → Widens a b → IsKnown a p → IsKnown b p
known-widened a b p w k = λ kept.
    let n = k kept in
    let m = w (uid_of p) n.0 n.1 in
    (m.0, m.1, lies-wider p [] n.0 m.0 m.2 n.2)

pub all-widened : {T : Type 0} (a b : Hulls) (p : MDePat T) → Widens a b → AreKnown a p → AreKnown b p
all-widened a b p w k = λ path q e. known-widened a b q w (k path q e)

pub known-itself : {T : Type 0} (h : Hulls) (p : MDePat T) → AreKnown h p → IsKnown h p
known-itself h p k = k [] p refl

pub known-sub : {T : Type 0} (h : Hulls) (p q : MDePat T) (i : ℕ) → slice_get (subs_of p) i ≡ Some q → AreKnown h p → AreKnown h q
known-sub {T} h p q i e k = λ path x there.
    k (i ∷ path) x (subst (λ (o : Head T). elim o [ None ↦ None | Some s ↦ pattern_at s path ] ≡ Some x) (sym e) there)

-- the pattern itself, and those below it
pub known-whole : {T : Type 0} (h : Hulls) (p : DePat T) → IsKnown h (tree p) → SubsAreKnown h p → AreKnown h (tree p)
known-whole {T} h p own subs = λ path q e. go path q e
  where
    below : (i : ℕ) (path : List ℕ) (q : MDePat T) (o : Head T) → slice_get (subs_of (tree p)) i ≡ o → elim o [ None ↦ None | Some s ↦ pattern_at s path ] ≡ Some q → IsKnown h q
    below i path q None is e = cc
    below i path q (Some s) is e =
        let b = mapped_back tree (placed_subs p) i s (subst (λ xs. slice_get xs i ≡ Some s) (subs_of-tree p) is) in
        subs i b.0 b.1 path q (subst (λ (y : MDePat T). pattern_at y path ≡ Some q) b.2 e)

    go : (path : List ℕ) (q : MDePat T) → pattern_at (tree p) path ≡ Some q → IsKnown h q
    go [] q e = subst (λ (y : MDePat T). IsKnown h y) (some_same (tree p) q e) own
    go (i ∷ path) q e = below i path q (slice_get (subs_of (tree p)) i) refl e

-- of the first patterns below
abbrev pub SubsAreKnownTo : {T : Type 0} → Hulls → DePat T → (n : ℕ) → Type 0
SubsAreKnownTo {T} h p n = (i : ℕ) (q : DePat T) → i < n → slice_get (placed_subs p) i ≡ Some q → AreKnown h (tree q)

pub subs-none : {T : Type 0} (h : Hulls) (p : DePat T) → SubsAreKnownTo h p 0
subs-none h p = λ i q l. absurd (omega (arith, l))

pub subs-more : {T : Type 0} (a b : Hulls) (p q : DePat T) (n : ℕ) → n < length (placed_subs p) → q ≡ get_or (placed_subs p) n q → Widens a b → SubsAreKnownTo a p n → AreKnown b (tree q) → SubsAreKnownTo b p (n + 1)
subs-more {T} a b p q n l is w old own = λ i x m there. elim (last-or-below i n m) [
  | inl below ↦ all-widened a b (tree x) w (old i x below there)
  | inr here ↦
      let same : x ≡ q = one-at (placed_subs p) i n x q here there (got-at (placed_subs p) n q l ∙ ap Some (sym is)) in
      subst (λ (y : DePat T). AreKnown b (tree y)) (sym same) own
]

pub subs-all : {T : Type 0} (h : Hulls) (p : DePat T) (n : ℕ) → length (placed_subs p) ≤ n → SubsAreKnownTo h p n → SubsAreKnown h p
subs-all h p n l known = λ i q there. let within = slice_get_within (placed_subs p) i q there in known i q (omega (arith, within, l)) there

pub untold : (b : Bool) → b ≡ true → b ≡ false → ⊥
untold b t f = cc

-- behind a part that stands alone
pub known-only : {T : Type 0} (h : Hulls) (p q : DePat T) → IsOnlyPart p q → AreKnown h (tree q) → AreKnown h (tree p)
known-only {T} h p q only known =
    known-whole h p (λ kept. absurd (untold (is_kept (ctor_of (tree p))) kept (ap is_kept (ctor_of-tree p) ∙ only.plain)))
    (λ i x there. subst (λ (y : DePat T). AreKnown h (tree y)) (sym (lone (placed_subs p) i x only.only there)) known)
  where
    lone : (xs : List (DePat T)) (i : ℕ) (x : DePat T) → xs ≡ q ∷ [] → slice_get xs i ≡ Some x → x ≡ q
    lone xs i x e there = at i (ap (λ ys. slice_get ys i) (sym e) ∙ there)
      where
        at : (j : ℕ) → slice_get (q ∷ []) j ≡ Some x → x ≡ q
        at zero f = sym (some_same q x f)
        at (suc j) f = cc

pub only-smaller : {T : Type 0} (p q : DePat T) → IsOnlyPart p q → pattern_size (tree q) < pattern_size (tree p)
only-smaller p q only =
    let there : slice_get (subs_of (tree p)) 0 ≡ Some (tree q) = ap (λ xs. slice_get xs 0) (subs_of-tree p ∙ ap (map tree) only.only) in
    sub_smaller (tree p) 0 (tree q) there

-- ---- arms

abbrev pub KnownTo : {T : Type 0} → Hulls → List (MDeArm T) → (n : ℕ) → Type 0
KnownTo {T} h arms n = (j : ℕ) (a : MDeArm T) → j < n → slice_get arms j ≡ Some a → AreKnown h a.pat

pub arms-none : {T : Type 0} (h : Hulls) (arms : List (MDeArm T)) → KnownTo h arms 0
arms-none h arms = λ j a l. absurd (omega (arith, l))

pub arms-more : {T : Type 0} (a b : Hulls) (arms : List (MDeArm T)) (n : ℕ) (arm : MDeArm T) → slice_get arms n ≡ Some arm → Widens a b → KnownTo a arms n → AreKnown b arm.pat → KnownTo b arms (n + 1)
arms-more {T} a b arms n arm at w old own = λ j x m there. elim (last-or-below j n m) [
  | inl below ↦ all-widened a b x.pat w (old j x below there)
  | inr here ↦
      let same : x ≡ arm = one-at arms j n x arm here there at in
      subst (λ (y : MDeArm T). AreKnown b y.pat) (sym same) own
]

pub arms-all : {T : Type 0} (h : Hulls) (arms : List (MDeArm T)) (n : ℕ) → length arms ≤ n → KnownTo h arms n → AreKnownIn h arms
arms-all h arms n l known = λ j a there. let within = slice_get_within arms j a there in known j a (omega (arith, within, l)) there

-- ---- alternatives

-- the range has the numbers of the first alternatives
abbrev pub Holds : {T : Type 0} → (p : DePat T) → (n : ℕ) → MRange → Type 0
Holds {T} p n r = (i : ℕ) (q : DePat T) → i < n → slice_get (placed_subs p) i ≡ Some q → LiesBelow (tree q) [] r

pub holds-none : {T : Type 0} (p : DePat T) (r : MRange) → Holds p 0 r
holds-none p r = λ i q l. absurd (omega (arith, l))

pub holds-more : {T : Type 0} (p q : DePat T) (n : ℕ) (r own s : MRange) → n < length (placed_subs p) → q ≡ get_or (placed_subs p) n q → Holds p n r → LiesBelow (tree q) [] own → IsWithin r s → IsWithin own s →
    Holds p (n + 1) s
holds-more {T} p q n r own s l is old lies first second = λ i x m there. elim (last-or-below i n m) [
  | inl below ↦ lies-wider (tree x) [] r s first (old i x below there)
  | inr here ↦
      let same : x ≡ q = one-at (placed_subs p) i n x q here there (got-at (placed_subs p) n q l ∙ ap Some (sym is)) in
      subst (λ (y : DePat T). LiesBelow (tree y) [] s) (sym same) (lies-wider (tree q) [] own s second lies)
]

pub holds-all : {T : Type 0} (p : DePat T) (n : ℕ) (r : MRange) → placed_ctor p ≡ OrCtor → length (placed_subs p) ≤ n → Holds p n r → LiesBelow (tree p) [] r
holds-all {T} p n r or l holds = λ v m.
    let a = or_forth (tree p) v (ctor_of-tree p ∙ or) m in
    let b = mapped_back tree (placed_subs p) a.0 a.1 (subst (λ xs. slice_get xs a.0 ≡ Some a.1) (subs_of-tree p) a.2) in
    let within = slice_get_within (placed_subs p) a.0 b.0 b.1 in
    let lies : LiesBelow a.1 [] r = subst (λ (y : MDePat T). LiesBelow y [] r) (sym b.2) (holds a.0 b.0 (omega (arith, within, l)) b.1) in
    lies v a.3

-- ---- uids

pub uid-tree : {T : Type 0} (p : DePat T) → uid_of (tree p) ≡ (out-DePat T p).uid
uid-tree p = ap uid_of (tree_out p)
