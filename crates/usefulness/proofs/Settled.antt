-- Alternatives that are marked, pattern by pattern.
use Rattle.std.proofs.Common.{◌≡◌, ◌<◌, ◌≤◌, ◌+◌, ℕ, suc, Bool, true, false, not, ◌&&◌, ◌||◌, List, [], ◌∷◌, ◌++◌, map, cond, length, drop, get_or, refl, ap, sym, ◌∙◌, append_assoc, drop-cons, arith}
use Rattle.std.proofs.Math.ListN.{drop_of_length-le}
use Rattle.std.specs.List.{list_all, flat_map}
use Rattle.match_model.specs.Constructors.{MCtor, OrCtor}
use Rattle.match_model.specs.ArenaPatterns.{MDePat, de_pats_of, uid_of}
use Rattle.match_model.specs.Numbering.{is_choice}
use Rattle.match_model.specs.Rows.{is_or_ctor}
use Rattle.pattern_arena.specs.declared.pattern.DePat.{DePat, out-DePat}
use Rattle.pattern_arena.specs.Trees.{tree, placed_ctor, placed_subs}
use Rattle.pattern_arena.proofs.TreeFacts.{tree_out}
use Rattle.usefulness.specs.Done.{choices_within, choices_among}

-- the alternatives in these patterns, and, where these are a choice, they themselves
abbrev pub choices_listed : {T : Type 0} → (choice : Bool) → List (MDePat T) → List ℕ
choices_listed choice ps = flat_map (λ p. cond choice (uid_of p ∷ []) [] ++ choices_within p) ps

among_listed : {T : Type 0} (choice : Bool) (ps : List (MDePat T)) → choices_among choice (de_pats_of ps) ≡ choices_listed choice ps
among_listed choice [] = refl
among_listed choice (p ∷ ps) =
    ap (λ ys. cond choice (uid_of p ∷ []) [] ++ (choices_within p ++ ys)) (among_listed choice ps)
    ∙ sym (append_assoc (cond choice (uid_of p ∷ []) []) (choices_within p) (choices_listed choice ps))

-- those in a pattern are those of the patterns below it
pub within_listed : {T : Type 0} (p : DePat T) → choices_within (tree p) ≡ choices_listed (is_choice (placed_ctor p) (de_pats_of (map tree (placed_subs p)))) (map tree (placed_subs p))
within_listed p = ap choices_within (tree_out p) ∙ among_listed (is_choice (placed_ctor p) (de_pats_of (map tree (placed_subs p)))) (map tree (placed_subs p))

pub all_both : {A : Type 0} (f : A → Bool) (xs ys : List A) → list_all f (xs ++ ys) ≡ (list_all f xs && list_all f ys)
all_both f [] ys = refl
all_both f (x ∷ xs) ys = ap (λ b. f x && b) (all_both f xs ys) ∙ assoc (f x) (list_all f xs) (list_all f ys)
  where
    assoc : (a b c : Bool) → (a && (b && c)) ≡ ((a && b) && c)
    assoc true b c = refl
    assoc false b c = refl

own_all : (f : ℕ → Bool) (choice : Bool) (uid : ℕ) → list_all f (cond choice (uid ∷ []) []) ≡ (not choice || f uid)
own_all f true uid = go (f uid)
  where
    go : (b : Bool) → (b && true) ≡ b
    go true = refl
    go false = refl
own_all f false uid = refl

module _ {T : Type 0} (f : ℕ → Bool) (choice : Bool) where
  -- the first pattern, and the others
  first_all : (p : MDePat T) (ps : List (MDePat T)) →
      list_all f (choices_listed choice (p ∷ ps)) ≡ (((not choice || f (uid_of p)) && list_all f (choices_within p)) && list_all f (choices_listed choice ps))
  first_all p ps =
      all_both f (cond choice (uid_of p ∷ []) [] ++ choices_within p) (choices_listed choice ps)
      ∙ ap (λ b. b && list_all f (choices_listed choice ps))
      (all_both f (cond choice (uid_of p ∷ []) []) (choices_within p) ∙ ap (λ b. b && list_all f (choices_within p)) (own_all f choice (uid_of p)))

  module _ (subs : List (DePat T)) (i : ℕ) (q : DePat T) (l : i < length subs) (e : q ≡ get_or subs i q) where
    next : suc i ≡ i + 1
    next = omega arith

    next_all : list_all f (choices_listed choice (map tree (drop i subs)))
        ≡ (((not choice || f (out-DePat T q).uid) && list_all f (choices_within (tree q))) && list_all f (choices_listed choice (map tree (drop (i + 1) subs))))
    next_all =
        ap (λ qs. list_all f (choices_listed choice (map tree qs))) (drop-cons subs i q l ∙ ap (λ z. z ∷ drop (suc i) subs) (sym e) ∙ ap (λ n. q ∷ drop n subs) next)
        ∙ first_all (tree q) (map tree (drop (i + 1) subs))
        ∙ ap (λ t. ((not choice || f (uid_of t)) && list_all f (choices_within (tree q))) && list_all f (choices_listed choice (map tree (drop (i + 1) subs)))) (tree_out q)

    -- the next pattern is itself an alternative that is not marked, or one in it is not, or all of its are
    pub own_unmarked : (choice && not (f (out-DePat T q).uid)) ≡ true → list_all f (choices_listed choice (map tree (drop i subs))) ≡ false
    own_unmarked u = next_all ∙ go choice (f (out-DePat T q).uid) u
      where
        go : (c b : Bool) → (c && not b) ≡ true → (((not c || b) && list_all f (choices_within (tree q))) && list_all f (choices_listed choice (map tree (drop (i + 1) subs)))) ≡ false
        go true false u = refl
        go true true u = cc
        go false b u = cc

    pub inner_unmarked : list_all f (choices_within (tree q)) ≡ false → list_all f (choices_listed choice (map tree (drop i subs))) ≡ false
    inner_unmarked u = next_all ∙ ap (λ b. ((not choice || f (out-DePat T q).uid) && b) && list_all f (choices_listed choice (map tree (drop (i + 1) subs)))) u ∙ go (not choice || f (out-DePat T q).uid)
      where
        go : (c : Bool) → ((c && false) && list_all f (choices_listed choice (map tree (drop (i + 1) subs)))) ≡ false
        go true = refl
        go false = refl

    pub one_settled : (choice && not (f (out-DePat T q).uid)) ≡ false → list_all f (choices_within (tree q)) ≡ true →
        list_all f (choices_listed choice (map tree (drop (i + 1) subs))) ≡ list_all f (choices_listed choice (map tree (drop i subs)))
    one_settled u w = sym (next_all ∙ ap (λ b. ((not choice || f (out-DePat T q).uid) && b) && list_all f (choices_listed choice (map tree (drop (i + 1) subs)))) w ∙ go choice (f (out-DePat T q).uid) u)
      where
        go : (c b : Bool) → (c && not b) ≡ false → (((not c || b) && true) && list_all f (choices_listed choice (map tree (drop (i + 1) subs)))) ≡ list_all f (choices_listed choice (map tree (drop (i + 1) subs)))
        go true true u = refl
        go true false u = cc
        go false b u = refl

-- two or more patterns below another are a choice where that is an or-pattern, and fewer are none
pub several_told : {T : Type 0} (p : DePat T) → 1 < length (placed_subs p) → is_or_ctor (placed_ctor p) ≡ is_choice (placed_ctor p) (de_pats_of (map tree (placed_subs p)))
several_told {T} p = go (placed_ctor p) (placed_subs p)
  where
    go : (c : MCtor) (ps : List (DePat T)) → 1 < length ps → is_or_ctor c ≡ is_choice c (de_pats_of (map tree ps))
    go OrCtor [] l = absurd (omega arith)
    go OrCtor (x ∷ []) l = absurd (omega arith)
    go OrCtor (x ∷ y ∷ ps) l = refl
    go _ ps l = refl

pub few_told : {T : Type 0} (p : DePat T) → length (placed_subs p) ≤ 1 → false ≡ is_choice (placed_ctor p) (de_pats_of (map tree (placed_subs p)))
few_told {T} p = go (placed_ctor p) (placed_subs p)
  where
    go : (c : MCtor) (ps : List (DePat T)) → length ps ≤ 1 → false ≡ is_choice c (de_pats_of (map tree ps))
    go OrCtor [] l = refl
    go OrCtor (x ∷ []) l = refl
    go OrCtor (x ∷ y ∷ ps) l = absurd (omega arith)
    go _ ps l = refl

pub ruleset choices = (several_told, few_told)

-- all of no alternatives are marked
pub none_left : {T : Type 0} (f : ℕ → Bool) (choice : Bool) (subs : List (DePat T)) (i : ℕ) → length subs ≤ i → list_all f (choices_listed choice (map tree (drop i subs))) ≡ true
none_left f choice subs i l = ap (λ qs. list_all f (choices_listed choice (map tree qs))) (drop_of_length-le subs l)
