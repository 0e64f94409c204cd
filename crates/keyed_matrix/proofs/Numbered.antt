-- What the alternatives of patterns decide, alternative by alternative.
use Rattle.std.proofs.Common.{◌≡◌, ◌<◌, ◌+◌, ℕ, zero, suc, Bool, true, false, List, [], ◌∷◌, ◌++◌, map, take, drop, length, get_or, nat_eq, nat_lt, Option, Some, None, is_some, cond, refl, sym, ap, ◌∙◌, arith, append_assoc, append-nil, drop-cons, add-one}
use Rattle.std.proofs.lemmas.Bool.Decides.{nat_tests}
use Rattle.std.specs.List.{flat_map}
use Rattle.std.specs.Option.{option_map}
use Rattle.match_model.specs.ArenaPatterns.{MDePats, no_de_pats, more_de_pats, de_pats_of, uid_of}
use Rattle.match_model.specs.Keys.{Decision}
use Rattle.match_model.specs.Numbering.{Decided as Listed, or_count, or_counts, own_count, is_choice, own_decision, decisions_in, decisions_below, decision_of}
use Rattle.pattern_arena.specs.declared.pattern.DePat.{DePat, out-DePat}
use Rattle.pattern_arena.specs.declared.matches.CheckedArm.{CheckedArm}
use Rattle.pattern_arena.specs.Trees.{tree, placed_ctor, placed_subs, plain_arm}
use Rattle.pattern_arena.proofs.TreeFacts.{tree_out}
use Rattle.match_model.specs.Constructors.{MCtor, OrCtor}
use Rattle.keyed_matrix.specs.declared.keys.Decided.{Decided}
use Rattle.keyed_matrix.specs.Deciding.{plain_decision, or_none, listed_of, or_second, AddsDecisions}

is-same : (a b : ℕ) → nat_eq a b ≡ true → a ≡ b
is-same a b e = grind (arith, nat_tests)

pub second-none : (a : Option Decision) → or_second a None ≡ a
second-none None = refl
second-none (Some d) = refl

pub listed-append : (xs ys : List Listed) (u : ℕ) →
    listed_of (xs ++ ys) u ≡ or_second (listed_of xs u) (listed_of ys u)
listed-append [] ys u = refl
listed-append (x ∷ xs) ys u = go (nat_eq x.uid u) (listed-append xs ys u)
  where
    go : (b : Bool) → listed_of (xs ++ ys) u ≡ or_second (listed_of xs u) (listed_of ys u) →
        cond b (Some x.decision) (listed_of (xs ++ ys) u)
        ≡ or_second (cond b (Some x.decision) (listed_of xs u)) (listed_of ys u)
    go true ih = refl
    go false ih = ih

-- the decision of a list
pub decision-listed : (ds : List Listed) (u : ℕ) → or_none (listed_of ds u) ≡ decision_of ds u
decision-listed [] u = refl
decision-listed (d ∷ ds) u = go (nat_eq d.uid u) (decision-listed ds u)
  where
    go : (b : Bool) → or_none (listed_of ds u) ≡ decision_of ds u →
        or_none (cond b (Some d.decision) (listed_of ds u)) ≡ cond b d.decision (decision_of ds u)
    go true ih = refl
    go false ih = ih

-- nothing more is listed
pub adds-nothing : (f : ℕ → Option Decision) → AddsDecisions f [] f
adds-nothing f u = sym (second-none (f u))

three : (a b c : Option Decision) → or_second (or_second a b) c ≡ or_second a (or_second b c)
three None b c = refl
three (Some d) b c = refl

-- one list after another
pub adds-both : (f g h : ℕ → Option Decision) (xs ys : List Listed) → AddsDecisions f xs g → AddsDecisions g ys h →
    AddsDecisions f (xs ++ ys) h
adds-both f g h xs ys a b u =
    b u ∙ ap (λ x. or_second x (listed_of ys u)) (a u) ∙ three (f u) (listed_of xs u) (listed_of ys u)
    ∙ ap (or_second (f u)) (sym (listed-append xs ys u))

-- what is listed before the rest, and then the rest
pub rest-after : (f g : ℕ → Option Decision) (xs rest : List Listed) → AddsDecisions f xs g → (u : ℕ) →
    or_second (g u) (listed_of rest u) ≡ or_second (f u) (listed_of (xs ++ rest) u)
rest-after f g xs rest a u =
    ap (λ x. or_second x (listed_of rest u)) (a u) ∙ three (f u) (listed_of xs u) (listed_of rest u)
    ∙ ap (or_second (f u)) (sym (listed-append xs rest u))

-- an uid that is noted where nothing was
pub noted : (old new : ℕ → Option Decision) (uid : ℕ) (d : Decision) → old uid ≡ None →
    ((u : ℕ) → new u ≡ cond (nat_eq uid u) (Some d) (old u)) →
    AddsDecisions old (record { uid = uid; decision = d } ∷ []) new
noted old new uid d none at u = at u ∙ go (nat_eq uid u) refl
  where
    go : (b : Bool) → nat_eq uid u ≡ b → cond b (Some d) (old u) ≡ or_second (old u) (cond b (Some d) None)
    go true e = sym (ap (λ x. or_second x (Some d)) (ap old (sym (is-same uid u e)) ∙ none))
    go false e = sym (second-none (old u))

-- where something was, nothing changes
pub noted-before : (old : ℕ → Option Decision) (uid : ℕ) (d : Decision) → is_some (old uid) ≡ true →
    AddsDecisions old (record { uid = uid; decision = d } ∷ []) old
noted-before old uid d some u = go (nat_eq uid u) refl
  where
    kept : (a : Option Decision) → is_some a ≡ true → a ≡ or_second a (Some d)
    kept None e = cc
    kept (Some x) e = refl

    go : (b : Bool) → nat_eq uid u ≡ b → old u ≡ or_second (old u) (cond b (Some d) None)
    go true e = kept (old u) (ap (λ x. is_some (old x)) (sym (is-same uid u e)) ∙ some)
    go false e = sym (second-none (old u))

pub mapped-none : (x : Option Decided) → x ≡ None → option_map plain_decision x ≡ None
mapped-none x e = ap (option_map plain_decision) e

pub mapped-some : (x : Option Decided) → is_some x ≡ true → is_some (option_map plain_decision x) ≡ true
mapped-some None e = cc
mapped-some (Some d) e = refl

pub mapped-cond : (b : Bool) (d : Decided) (x : Option Decided) →
    option_map plain_decision (cond b (Some d) x) ≡ cond b (Some (plain_decision d)) (option_map plain_decision x)
mapped-cond true d x = refl
mapped-cond false d x = refl

-- what the patterns decide that come from number `k` on
abbrev pub below_from : {T : Type 0} → (choice : Bool) → (n k m : ℕ) → List (DePat T) → List Listed
below_from choice n k m ps = decisions_below choice n k m (de_pats_of (map tree ps))

-- how many or-patterns they have
abbrev pub counts_from : {T : Type 0} → List (DePat T) → ℕ
counts_from ps = or_counts (de_pats_of (map tree ps))

uid-tree : {T : Type 0} (q : DePat T) → uid_of (tree q) ≡ (out-DePat T q).uid
uid-tree q = ap uid_of (tree_out q)

-- the first of them, and the others
pub below-more : {T : Type 0} (choice : Bool) (n k m : ℕ) (ps : List (DePat T)) (q : DePat T) → k < length ps →
    q ≡ get_or ps k q →
    below_from choice n k m (drop k ps)
    ≡ (own_decision choice (out-DePat T q).uid n k ++ decisions_in m (tree q))
    ++ below_from choice n (suc k) (or_count (tree q) + m) (drop (k + 1) ps)
below-more {T} choice n k m ps q l e =
    ap (below_from choice n k m) (drop-cons ps k q l ∙ ap (λ r. r ∷ drop (suc k) ps) (sym e))
    ∙ ap (λ uid. (own_decision choice uid n k ++ decisions_in m (tree q))
    ++ below_from choice n (suc k) (or_count (tree q) + m) (drop (suc k) ps)) (uid-tree q)
    ∙ ap (λ j. (own_decision choice (out-DePat T q).uid n k ++ decisions_in m (tree q))
    ++ below_from choice n (suc k) (or_count (tree q) + m) (drop j ps)) (sym (add-one k))

-- the same, where the number behind the first is known
pub below-next : {T : Type 0} (choice : Bool) (n k m next : ℕ) (ps : List (DePat T)) (q : DePat T) → k < length ps →
    q ≡ get_or ps k q → next ≡ or_count (tree q) + m →
    below_from choice n k m (drop k ps)
    ≡ (own_decision choice (out-DePat T q).uid n k ++ decisions_in m (tree q))
    ++ below_from choice n (k + 1) next (drop (k + 1) ps)
below-next {T} choice n k m next ps q l e f =
    below-more choice n k m ps q l e
    ∙ ap (λ x. (own_decision choice (out-DePat T q).uid n k ++ decisions_in m (tree q))
    ++ below_from choice n (suc k) x (drop (k + 1) ps)) (sym f)
    ∙ ap (λ j. (own_decision choice (out-DePat T q).uid n k ++ decisions_in m (tree q))
    ++ below_from choice n j next (drop (k + 1) ps)) (sym (add-one k))

-- an or-pattern is a choice where it has two alternatives
pub choice-length : {T : Type 0} (ps : List (DePat T)) →
    nat_lt 1 (length ps) ≡ is_choice OrCtor (de_pats_of (map tree ps))
choice-length [] = refl
choice-length (x ∷ []) = refl
choice-length (x ∷ y ∷ ps) = several x y ps
  where
    several : {T : Type 0} (x y : DePat T) (ps : List (DePat T)) → nat_lt 1 (length (x ∷ y ∷ ps)) ≡ true
    several x y ps = grind arith

pub counts-more : {T : Type 0} (k : ℕ) (ps : List (DePat T)) (q : DePat T) → k < length ps → q ≡ get_or ps k q →
    counts_from (drop k ps) ≡ or_count (tree q) + counts_from (drop (k + 1) ps)
counts-more k ps q l e =
    ap counts_from (drop-cons ps k q l ∙ ap (λ r. r ∷ drop (suc k) ps) (sym e))
    ∙ ap (λ j. or_count (tree q) + counts_from (drop j ps)) (sym (add-one k))

own-of : {T : Type 0} (c : MCtor) (ps : MDePats T) → own_count c ps ≡ cond (is_choice c ps) 1 0
own-of OrCtor no_de_pats = refl
own-of OrCtor (more_de_pats p no_de_pats) = refl
own-of OrCtor (more_de_pats p (more_de_pats q qs)) = refl
own-of _ ps = refl

-- a pattern's own alternatives and those inside them
pub decisions-tree : {T : Type 0} (n : ℕ) (p : DePat T) (choice : Bool) (first : ℕ) →
    choice ≡ is_choice (placed_ctor p) (de_pats_of (map tree (placed_subs p))) → first ≡ cond choice 1 0 + n →
    decisions_in n (tree p) ≡ below_from choice n 0 first (placed_subs p)
decisions-tree n p choice first e f =
    ap (decisions_in n) (tree_out p)
    ∙ ap (λ c. below_from c n 0 (own_count (placed_ctor p) (de_pats_of (map tree (placed_subs p))) + n) (placed_subs p)) (sym e)
    ∙ ap (λ m. below_from choice n 0 m (placed_subs p))
    (ap (λ x. x + n) (own-of (placed_ctor p) (de_pats_of (map tree (placed_subs p))) ∙ ap (λ c. cond c 1 0) (sym e)) ∙ sym f)

pub count-tree : {T : Type 0} (n : ℕ) (p : DePat T) (choice : Bool) (first : ℕ) →
    choice ≡ is_choice (placed_ctor p) (de_pats_of (map tree (placed_subs p))) → first ≡ cond choice 1 0 + n →
    counts_from (placed_subs p) + first ≡ or_count (tree p) + n
count-tree n p choice first e f =
    let own : own_count (placed_ctor p) (de_pats_of (map tree (placed_subs p))) ≡ cond choice 1 0 =
    own-of (placed_ctor p) (de_pats_of (map tree (placed_subs p))) ∙ ap (λ c. cond c 1 0) (sym e) in
    let all : or_count (tree p) ≡ own_count (placed_ctor p) (de_pats_of (map tree (placed_subs p))) + counts_from (placed_subs p) =
    ap or_count (tree_out p) in
    omega (arith, own, all, f)

no-own : (T : Type 0) (c : MCtor) → own_count {T = T} c no_de_pats ≡ 0
no-own T OrCtor = refl
no-own T c = refl

none-there : {A : Type 0} (xs : List A) → nat_eq (length xs) 0 ≡ true → xs ≡ []
none-there [] e = refl
none-there (x ∷ xs) e =
    let same : length (x ∷ xs) ≡ 0 = is-same (length (x ∷ xs)) 0 e in
    absurd (omega (arith, same))

-- a pattern without others below it
pub leaf-counts : {T : Type 0} (p : DePat T) → nat_eq (length (placed_subs p)) 0 ≡ true → or_count (tree p) ≡ 0
leaf-counts {T} p e =
    ap or_count (tree_out p)
    ∙ ap (λ ps. own_count (placed_ctor p) (de_pats_of (map tree ps)) + or_counts (de_pats_of (map tree ps)))
    (none-there (placed_subs p) e)
    ∙ ap (λ n. n + 0) (no-own T (placed_ctor p))

pub leaf-decides : {T : Type 0} (n : ℕ) (p : DePat T) → nat_eq (length (placed_subs p)) 0 ≡ true →
    decisions_in n (tree p) ≡ []
leaf-decides n p e =
    ap (decisions_in n) (tree_out p)
    ∙ ap (λ ps. decisions_below (is_choice (placed_ctor p) (de_pats_of (map tree ps))) n 0
    (own_count (placed_ctor p) (de_pats_of (map tree ps)) + n) (de_pats_of (map tree ps)))
    (none-there (placed_subs p) e)

-- one pattern more
pub pattern-on : {T : Type 0} (choice : Bool) (n k before next : ℕ) (ps : List (DePat T)) (q : DePat T)
    (f h all : ℕ → Option Decision) (whole : ℕ) → k < length ps → q ≡ get_or ps k q → next ≡ or_count (tree q) + before →
    AddsDecisions f (own_decision choice (out-DePat T q).uid n k ++ decisions_in before (tree q)) h →
    (counts_from (drop k ps) + before ≡ whole)
    × ((u : ℕ) → or_second (f u) (listed_of (below_from choice n k before (drop k ps)) u) ≡ all u) →
    (counts_from (drop (k + 1) ps) + next ≡ whole)
    × ((u : ℕ) → or_second (h u) (listed_of (below_from choice n (k + 1) next (drop (k + 1) ps)) u) ≡ all u)
pattern-on {T} choice n k before next ps q f h all whole l e is adds was =
    let more = counts-more k ps q l e in
    let sum = was.0 in
    let these : List Listed = own_decision choice (out-DePat T q).uid n k ++ decisions_in before (tree q) in (
      omega (arith, more, is, sum),
      λ u. rest-after f h these (below_from choice n (k + 1) next (drop (k + 1) ps)) adds u
          ∙ ap (λ (ds : List Listed). or_second (f u) (listed_of ds u)) (sym (below-next choice n k before next ps q l e is))
          ∙ was.1 u,
    )

-- what the arms decide, one after the other
abbrev pub arms_decide : {T : Type 0} → List (CheckedArm T) → List Listed
arms_decide arms = flat_map (λ a. decisions_in 0 a.pat) (map plain_arm arms)

arm-more : {T : Type 0} (arms : List (CheckedArm T)) (i : ℕ) (a : CheckedArm T) → i < length arms → a ≡ get_or arms i a →
    arms_decide (take (suc i) arms) ≡ arms_decide (take i arms) ++ decisions_in 0 (tree a.pat)
arm-more [] i a l e = absurd (omega (arith, l))
arm-more (x ∷ arms) zero a l e = append-nil (decisions_in 0 (tree x.pat)) ∙ ap (λ b. decisions_in 0 (tree b.pat)) (sym e)
arm-more (x ∷ arms) (suc i) a l e =
    ap (λ ds. decisions_in 0 (tree x.pat) ++ ds) (arm-more arms i a (omega (arith, l)) e)
    ∙ sym (append_assoc (decisions_in 0 (tree x.pat)) (arms_decide (take i arms)) (decisions_in 0 (tree a.pat)))

-- one arm more
pub arms-more : {T : Type 0} (old new : ℕ → Option Decision) (arms : List (CheckedArm T)) (i : ℕ) (a : CheckedArm T) →
    i < length arms → a ≡ get_or arms i a → ((u : ℕ) → old u ≡ listed_of (arms_decide (take i arms)) u) →
    AddsDecisions old (decisions_in 0 (tree a.pat)) new → (u : ℕ) → new u ≡ listed_of (arms_decide (take (i + 1) arms)) u
arms-more old new arms i a l e before adds u =
    adds u ∙ ap (λ x. or_second x (listed_of (decisions_in 0 (tree a.pat)) u)) (before u)
    ∙ sym (listed-append (arms_decide (take i arms)) (decisions_in 0 (tree a.pat)) u)
    ∙ ap (λ ds. listed_of ds u) (sym (arm-more arms i a l e))
    ∙ ap (λ j. listed_of (arms_decide (take j arms)) u) (sym (add-one i))
