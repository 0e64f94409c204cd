-- Patterns inside patterns.
use Rattle.std.proofs.Common.{◌≡◌, inl, inr, ℕ, zero, suc, ◌+◌, ◌-◌, Bool, true, false, List, [], ◌∷◌, ◌++◌, map, take, drop, cond, Some, None, nat_eq, refl, sym, subst, arith}
use Rattle.std.proofs.lemmas.List.Elements.{All-nil, All-cons, All-head, All-tail, All-append}
use Rattle.std.specs.List.{All, Contains}
use Rattle.match_model.specs.Constructors.{LongerShape, MCtor, RowCtor, WildCtor, OrCtor}
use Rattle.match_model.specs.ArenaPatterns.{MDePat, de_pat, MDePats, no_de_pats, more_de_pats, de_pats_list, uid_of, MDeArm}
use Rattle.match_model.specs.Rows.{Head, Choice, choices_of, all_choices_of, choice_among, with_binds, choices_by, heads_of, wildcards, is_wild}
use Rattle.pattern_matrix.specs.Sparse.{SparseLeaf, bare_head, head_at, leaf_parts}
use Rattle.pattern_matrix.specs.Spreading.{leaf_of, apart, all_apart}
use Rattle.pattern_matrix.proofs.HandingOn.{here, there, in_cons}
use Rattle.usefulness.specs.Scope.{patterns_in, patterns_in_all, patterns_of, Scope, IsKnown, AreKnown}
use Rattle.usefulness.specs.Frames.{SparseAsked, rows_of, IsHeadIn, IsRowIn}
use Rattle.usefulness.proofs.Looking.{in_left, in_right, in_either}

-- a pattern is in itself
pub itself_in : {T : Type 0} (p : MDePat T) → Contains (patterns_in p) p
itself_in (de_pat c t uid at subs binds) = here (de_pat c t uid at subs binds) (patterns_in_all subs)

none_in : {A C : Type 0} (x : A) → Contains [] x → C
none_in x (k, l, e) = absurd (omega (arith, l))

-- what is inside one inside a pattern is inside that
mutual
  pub inside_in : {T : Type 0} (p q r : MDePat T) → Contains (patterns_in p) q → Contains (patterns_in q) r → Contains (patterns_in p) r
  inside_in (de_pat c t uid at subs binds) q r i j =
      in_cons (de_pat c t uid at subs binds) q (patterns_in_all subs) (λ z. Contains (patterns_in z) r → Contains (de_pat c t uid at subs binds ∷ patterns_in_all subs) r)
      (λ k. k) (λ z k l. there (de_pat c t uid at subs binds) r (patterns_in_all subs) (inside_all subs z r k l)) i j

  inside_all : {T : Type 0} (ps : MDePats T) (q r : MDePat T) → Contains (patterns_in_all ps) q → Contains (patterns_in q) r → Contains (patterns_in_all ps) r
  inside_all no_de_pats q r i j = none_in q i
  inside_all (more_de_pats p ps) q r i j = elim (in_either (patterns_in p) (patterns_in_all ps) q i) [
    | inl k ↦ in_left (patterns_in p) (patterns_in_all ps) r (inside_in p q r k j)
    | inr k ↦ in_right (patterns_in p) (patterns_in_all ps) r (inside_all ps q r k j)
  ]

-- those below are
subs_in_all : {T : Type 0} (ps : MDePats T) (q : MDePat T) → Contains (de_pats_list ps) q → Contains (patterns_in_all ps) q
subs_in_all no_de_pats q i = none_in q i
subs_in_all (more_de_pats p ps) q i =
    in_cons p q (de_pats_list ps) (λ z. Contains (patterns_in p ++ patterns_in_all ps) z)
    (in_left (patterns_in p) (patterns_in_all ps) p (itself_in p)) (λ z k. in_right (patterns_in p) (patterns_in_all ps) z (subs_in_all ps z k)) i

-- what is inside a pattern of arms is one of theirs
pub inside_arms : {T : Type 0} (arms : List (MDeArm T)) (p q : MDePat T) → Contains (patterns_of arms) p → Contains (patterns_in p) q → Contains (patterns_of arms) q
inside_arms [] p q i j = none_in p i
inside_arms (a ∷ arms) p q i j = elim (in_either (patterns_in a.pat) (patterns_of arms) p i) [
  | inl k ↦ in_left (patterns_in a.pat) (patterns_of arms) q (inside_in a.pat p q k j)
  | inr k ↦ in_right (patterns_in a.pat) (patterns_of arms) q (inside_arms arms p q k j)
]

module _ {T : Type 0} (scope : Scope T) where
  wild_known : (n : ℕ) → AreKnown scope (wildcards n)
  wild_known zero = tt
  wild_known (suc n) = (tt, wild_known n)

  both_known : (xs ys : List (Head T)) → AreKnown scope xs → AreKnown scope ys → AreKnown scope (xs ++ ys)
  both_known [] ys h k = k
  both_known (x ∷ xs) ys h k = (h.0, both_known xs ys h.1 k)

  take_known : (n : ℕ) (xs : List (Head T)) → AreKnown scope xs → AreKnown scope (take n xs)
  take_known zero xs h = tt
  take_known (suc n) [] h = tt
  take_known (suc n) (x ∷ xs) h = (h.0, take_known n xs h.1)

  drop_known : (n : ℕ) (xs : List (Head T)) → AreKnown scope xs → AreKnown scope (drop n xs)
  drop_known zero xs h = h
  drop_known (suc n) [] h = tt
  drop_known (suc n) (x ∷ xs) h = drop_known n xs h.1

  heads_known : (c : MCtor) (hs : List (Head T)) (n : ℕ) → AreKnown scope hs → AreKnown scope (heads_of c hs n)
  heads_known (RowCtor (LongerShape f b)) hs n h =
      both_known (take f hs) (wildcards (n - (f + b)) ++ drop f hs) (take_known f hs h)
      (both_known (wildcards (n - (f + b))) (drop f hs) (wild_known (n - (f + b))) (drop_known f hs h))
  heads_known WildCtor hs n h = wild_known n
  heads_known _ hs n h = h

  some_known : (ps : List (MDePat T)) → ((p : MDePat T) → Contains ps p → Contains (patterns_of scope.written) p) → AreKnown scope (map Some ps)
  some_known [] f = tt
  some_known (p ∷ ps) f = (f p (here p ps), some_known ps (λ q i. f q (there p q ps i)))

  -- the heads of the parts
  pub parts_known : (count : ℕ) (h : Head T) → IsKnown scope h → AreKnown scope (leaf_parts count h)
  parts_known count None k = wild_known count
  parts_known count (Some (de_pat c t uid at subs binds)) k =
      let p = de_pat c t uid at subs binds in
      heads_known c (map Some (de_pats_list subs)) count
      (some_known (de_pats_list subs) (λ q i. inside_arms scope.written p q k (there p q (patterns_in_all subs) (subs_in_all subs q i))))

-- the choices of a pattern are inside it
all_turn : {A : Type 0} (P Q : A → Type 0) (f : A → A) → ((x : A) → P x → Q (f x)) → (xs : List A) → All P xs → All Q (map f xs)
all_turn P Q f h [] a = All-nil Q
all_turn P Q f h (x ∷ xs) a = All-cons Q (f x) (map f xs) (h x (All-head P x xs a)) (all_turn P Q f h xs (All-tail P x xs a))

all_more : {A : Type 0} (P Q : A → Type 0) → ((x : A) → P x → Q x) → (xs : List A) → All P xs → All Q xs
all_more P Q h [] a = All-nil Q
all_more P Q h (x ∷ xs) a = All-cons Q x xs (h x (All-head P x xs a)) (all_more P Q h xs (All-tail P x xs a))

module _ {T : Type 0} where
  by_ctor : (P : Choice T → Type 0) (c : MCtor) (others self : List (Choice T)) → All P others → All P self → All P (choices_by c others self)
  by_ctor P OrCtor others self a b = a
  by_ctor P _ others self a b = b

  same_pattern : (subs : MDePats T) (uid : ℕ) (c : Choice T) → (choice_among subs uid c).pat ≡ c.pat
  same_pattern no_de_pats uid c = refl
  same_pattern (more_de_pats p no_de_pats) uid c = refl
  same_pattern (more_de_pats p (more_de_pats q qs)) uid c = refl

  mutual
    choices_inside : (p : MDePat T) → All (λ (c : Choice T). Contains (patterns_in p) c.pat) (choices_of p)
    choices_inside (de_pat c t uid at subs binds) =
        let p = de_pat c t uid at subs binds in
        by_ctor (λ (c : Choice T). Contains (patterns_in p) c.pat) c (map (with_binds binds) (all_choices_of (choice_among subs) subs)) (record { pat = p; chosen = []; binds = [] } ∷ [])
        (all_turn (λ (c : Choice T). Contains (patterns_in_all subs) c.pat) (λ (c : Choice T). Contains (patterns_in p) c.pat) (with_binds binds) (λ x i. there p x.pat (patterns_in_all subs) i)
        (all_choices_of (choice_among subs) subs) (all_inside (choice_among subs) (same_pattern subs) subs))
        (All-cons (λ (c : Choice T). Contains (patterns_in p) c.pat) (record { pat = p; chosen = []; binds = [] }) [] (itself_in p) (All-nil (λ (c : Choice T). Contains (patterns_in p) c.pat)))

    all_inside : (choose : ℕ → Choice T → Choice T) → ((uid : ℕ) (c : Choice T) → (choose uid c).pat ≡ c.pat) → (ps : MDePats T) → All (λ (c : Choice T). Contains (patterns_in_all ps) c.pat) (all_choices_of choose ps)
    all_inside choose same no_de_pats = All-nil (λ (c : Choice T). Contains (patterns_in_all no_de_pats) c.pat)
    all_inside choose same (more_de_pats p ps) =
        All-append (λ (c : Choice T). Contains (patterns_in p ++ patterns_in_all ps) c.pat) (map (choose (uid_of p)) (choices_of p)) (all_choices_of choose ps)
        (all_turn (λ (c : Choice T). Contains (patterns_in p) c.pat) (λ (c : Choice T). Contains (patterns_in p ++ patterns_in_all ps) c.pat) (choose (uid_of p))
        (λ x i. subst (Contains (patterns_in p ++ patterns_in_all ps)) (sym (same (uid_of p) x)) (in_left (patterns_in p) (patterns_in_all ps) x.pat i))
        (choices_of p) (choices_inside p))
        (all_more (λ (c : Choice T). Contains (patterns_in_all ps) c.pat) (λ (c : Choice T). Contains (patterns_in p ++ patterns_in_all ps) c.pat)
        (λ x i. in_right (patterns_in p) (patterns_in_all ps) x.pat i) (all_choices_of choose ps) (all_inside choose same ps))

  module _ (scope : Scope T) where
    bare_known : (p : MDePat T) → Contains (patterns_of scope.written) p → IsKnown scope (bare_head (Some p))
    bare_known p k = go (is_wild (Some p))
      where
        go : (b : Bool) → IsKnown scope (cond b None (Some p))
        go true = tt
        go false = k

    leaves_of_known : (row : ℕ) (chosen : List ℕ) (p : MDePat T) → Contains (patterns_of scope.written) p → (cs : List (Choice T)) → All (λ (c : Choice T). Contains (patterns_in p) c.pat) cs →
        All (λ (l : SparseLeaf T). IsKnown scope l.head) (map (leaf_of row chosen) cs)
    leaves_of_known row chosen p k [] a = All-nil (λ (l : SparseLeaf T). IsKnown scope l.head)
    leaves_of_known row chosen p k (c ∷ cs) a =
        All-cons (λ (l : SparseLeaf T). IsKnown scope l.head) (leaf_of row chosen c) (map (leaf_of row chosen) cs)
        (bare_known c.pat (inside_arms scope.written p c.pat k (All-head (λ (c : Choice T). Contains (patterns_in p) c.pat) c cs a)))
        (leaves_of_known row chosen p k cs (All-tail (λ (c : Choice T). Contains (patterns_in p) c.pat) c cs a))

    apart_known : (row : ℕ) (h : Head T) → IsKnown scope h → All (λ (l : SparseLeaf T). IsKnown scope l.head) (apart row h)
    apart_known row None k = All-cons (λ (l : SparseLeaf T). IsKnown scope l.head) (record { row = row; head = None; chosen = [] }) [] tt (All-nil (λ (l : SparseLeaf T). IsKnown scope l.head))
    apart_known row (Some p) k = leaves_of_known row [] p k (choices_of p) (choices_inside p)

    head_known : (columns : List ℕ) (heads : List (ℕ × MDePat T)) (column : ℕ) → All (IsHeadIn scope columns) heads → IsKnown scope (head_at heads column)
    head_known columns [] column a = tt
    head_known columns (h ∷ heads) column a = go (nat_eq h.0 column) (head_known columns heads column (All-tail (IsHeadIn scope columns) h heads a))
      where
        go : (b : Bool) → IsKnown scope (head_at heads column) → IsKnown scope (cond b (bare_head (Some h.1)) (head_at heads column))
        go true k = bare_known h.1 (All-head (IsHeadIn scope columns) h heads a).known
        go false k = k

    -- what stands at a column of rows is known
    pub leaves_known : (columns : List ℕ) (column row : ℕ) (xs : List (SparseAsked T)) → All (IsRowIn scope columns) xs → All (λ (l : SparseLeaf T). IsKnown scope l.head) (all_apart column row (rows_of xs))
    leaves_known columns column row [] a = All-nil (λ (l : SparseLeaf T). IsKnown scope l.head)
    leaves_known columns column row (x ∷ xs) a =
        All-append (λ (l : SparseLeaf T). IsKnown scope l.head) (apart row (head_at x.row.heads column)) (all_apart column (suc row) (rows_of xs))
        (apart_known row (head_at x.row.heads column) (head_known columns x.row.heads column (All-head (IsRowIn scope columns) x xs a).heads))
        (leaves_known columns column (suc row) xs (All-tail (IsRowIn scope columns) x xs a))
