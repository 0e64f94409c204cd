-- A match with other types and uids: what its alternatives decide, and its tree.
use Rattle.std.proofs.Common.{◌≡◌, ℕ, suc, ◌+◌, Bool, true, false, cond, List, [], ◌∷◌, ◌++◌, map, nat_eq, Some, refl, sym, ap, subst, ◌∙◌}
use Rattle.std.specs.List.{flat_map}
use Rattle.std.proofs.lemmas.List.{map-append}
use Rattle.std.proofs.lemmas.Bool.Decides.{nat_tests}
use Rattle.std.proofs.Common.{arith}
use Rattle.match_model.specs.Values.{MValue, Unseen}
use Rattle.match_model.specs.Constructors.{MCtor, OrCtor}
use Rattle.match_model.specs.Contexts.{Context}
use Rattle.match_model.specs.ContextViews.{Seen}
use Rattle.match_model.specs.ArenaPatterns.{MDePat, de_pat, MDePats, no_de_pats, more_de_pats, uid_of, MDeArm, MDeMatch}
use Rattle.match_model.specs.ArenaWays.{InMatchDomain}
use Rattle.match_model.specs.Matrices.{first_rows, first_matrix}
use Rattle.match_model.specs.Numbering.{own_count, or_count, or_counts, Decided, is_choice, own_decision, decisions_in, decisions_below, decision_of, match_decisions}
use Rattle.match_model.specs.Trees.{MNode}
use Rattle.match_model.specs.Lowering.{Lowers}
use Rattle.match_model.specs.FewestBranches.{IsFewest}
use Rattle.match_model.specs.MatchTree.{nothing_to_lower, lowered, IsMatchTree}
use Rattle.pattern_laws.proofs.MovedRows.{moved, all_moved, uid_moved, row_moved}
use Rattle.pattern_laws.proofs.MovedTrees.{lowered_moved, fewest_moved}

module _ {S U : Type 0} (f : S → U) (g : ℕ → ℕ) where
  abbrev pub arm_moved : MDeArm S → MDeArm U
  arm_moved a = record { pat = moved f g a.pat; guarded = a.guarded }

  abbrev pub match_moved : MDeMatch S → MDeMatch U
  match_moved m = record { type = f m.type; sure = m.sure; arms = map arm_moved m.arms }

  abbrev decided_moved : Decided → Decided
  decided_moved d = record { uid = g d.uid; decision = d.decision }

  own_same : (c : MCtor) (ps : MDePats S) → own_count c (all_moved f g ps) ≡ own_count c ps
  own_same OrCtor no_de_pats = refl
  own_same OrCtor (more_de_pats p no_de_pats) = refl
  own_same OrCtor (more_de_pats p (more_de_pats q qs)) = refl
  own_same c ps = refl

  choice_same : (c : MCtor) (ps : MDePats S) → is_choice c (all_moved f g ps) ≡ is_choice c ps
  choice_same OrCtor no_de_pats = refl
  choice_same OrCtor (more_de_pats p no_de_pats) = refl
  choice_same OrCtor (more_de_pats p (more_de_pats q qs)) = refl
  choice_same c ps = refl

  mutual
    count_same : (p : MDePat S) → or_count (moved f g p) ≡ or_count p
    count_same (de_pat c t uid at subs binds) =
        ap (λ n. n + or_counts (all_moved f g subs)) (own_same c subs)
        ∙ ap (λ n. own_count c subs + n) (counts_same subs)

    counts_same : (ps : MDePats S) → or_counts (all_moved f g ps) ≡ or_counts ps
    counts_same no_de_pats = refl
    counts_same (more_de_pats p ps) =
        ap (λ n. n + or_counts (all_moved f g ps)) (count_same p) ∙ ap (λ n. or_count p + n) (counts_same ps)

  own_moved : (choice : Bool) (u n k : ℕ) →
      own_decision choice (g u) n k ≡ map decided_moved (own_decision choice u n k)
  own_moved true u n k = refl
  own_moved false u n k = refl

  mutual
    decisions_moved : (n : ℕ) (p : MDePat S) → decisions_in n (moved f g p) ≡ map decided_moved (decisions_in n p)
    decisions_moved n (de_pat c t uid at subs binds) =
        ap (λ b. decisions_below b n 0 (own_count c (all_moved f g subs) + n) (all_moved f g subs)) (choice_same c subs)
        ∙ (ap (λ k. decisions_below (is_choice c subs) n 0 (k + n) (all_moved f g subs)) (own_same c subs)
        ∙ below_moved (is_choice c subs) n 0 (own_count c subs + n) subs)

    below_moved : (choice : Bool) (n k m : ℕ) (ps : MDePats S) →
        decisions_below choice n k m (all_moved f g ps) ≡ map decided_moved (decisions_below choice n k m ps)
    below_moved choice n k m no_de_pats = refl
    below_moved choice n k m (more_de_pats p ps) =
        ap (λ u. (own_decision choice u n k ++ decisions_in m (moved f g p))
        ++ decisions_below choice n (suc k) (or_count (moved f g p) + m) (all_moved f g ps)) (uid_moved f g p)
        ∙ (ap (λ c. (own_decision choice (g (uid_of p)) n k ++ decisions_in m (moved f g p))
        ++ decisions_below choice n (suc k) (c + m) (all_moved f g ps)) (count_same p)
        ∙ (ap (λ ds. (ds ++ decisions_in m (moved f g p))
        ++ decisions_below choice n (suc k) (or_count p + m) (all_moved f g ps)) (own_moved choice (uid_of p) n k)
        ∙ (ap (λ ds. (map decided_moved (own_decision choice (uid_of p) n k) ++ ds)
        ++ decisions_below choice n (suc k) (or_count p + m) (all_moved f g ps)) (decisions_moved m p)
        ∙ (ap (λ ds. (map decided_moved (own_decision choice (uid_of p) n k)
        ++ map decided_moved (decisions_in m p)) ++ ds)
        (below_moved choice n (suc k) (or_count p + m) ps)
        ∙ (ap (λ ds. ds ++ map decided_moved (decisions_below choice n (suc k) (or_count p + m) ps))
        (sym (map-append decided_moved (own_decision choice (uid_of p) n k) (decisions_in m p)))
        ∙ sym (map-append decided_moved (own_decision choice (uid_of p) n k ++ decisions_in m p)
        (decisions_below choice n (suc k) (or_count p + m) ps)))))))

  arms_decisions : (arms : List (MDeArm S)) →
      flat_map (λ a. decisions_in 0 a.pat) (map arm_moved arms)
      ≡ map decided_moved (flat_map (λ a. decisions_in 0 a.pat) arms)
  arms_decisions [] = refl
  arms_decisions (a ∷ arms) =
      ap (λ ds. ds ++ flat_map (λ b. decisions_in 0 b.pat) (map arm_moved arms)) (decisions_moved 0 a.pat)
      ∙ (ap (λ ds. map decided_moved (decisions_in 0 a.pat) ++ ds) (arms_decisions arms)
      ∙ sym (map-append decided_moved (decisions_in 0 a.pat) (flat_map (λ b. decisions_in 0 b.pat) arms)))

  rows_first : (j : ℕ) (arms : List (MDeArm S)) →
      first_rows j (map arm_moved arms) ≡ map (row_moved f g) (first_rows j arms)
  rows_first j [] = refl
  rows_first j (a ∷ arms) = ap (λ rs. row_moved f g (record {
    heads = Some a.pat ∷ [];
    arm = j;
    guarded = a.guarded;
    chosen = [];
    caught = [];
  }) ∷ rs) (rows_first (suc j) arms)

  module _ (apart : (u v : ℕ) → g u ≡ g v → u ≡ v) where
    uid_same : (u v : ℕ) → nat_eq (g u) (g v) ≡ nat_eq u v
    uid_same u v = by (nat_eq (g u) (g v)) (nat_eq u v) refl refl
      where
        by : (x y : Bool) → nat_eq (g u) (g v) ≡ x → nat_eq u v ≡ y → nat_eq (g u) (g v) ≡ nat_eq u v
        by true true e h = e ∙ sym h
        by false false e h = e ∙ sym h
        by true false e h =
            let same : g u ≡ g v = grind (arith, nat_tests, e) in
            let there : u ≡ v = apart u v same in
            grind (arith, nat_tests, h, there)
        by false true e h =
            let same : u ≡ v = grind (arith, nat_tests, h) in
            let there : g u ≡ g v = ap g same in
            grind (arith, nat_tests, e, there)

    decision_same : (ds : List Decided) (u : ℕ) → decision_of (map decided_moved ds) (g u) ≡ decision_of ds u
    decision_same [] u = refl
    decision_same (d ∷ ds) u =
        ap (λ b. cond b d.decision (decision_of (map decided_moved ds) (g u))) (uid_same d.uid u)
        ∙ ap (λ x. cond (nat_eq d.uid u) d.decision x) (decision_same ds u)

    told : (m : MDeMatch S) (u : ℕ) → match_decisions (match_moved m) (g u) ≡ match_decisions m u
    told m u =
        ap (λ ds. decision_of ds (g u)) (arms_decisions m.arms)
        ∙ decision_same (flat_map (λ a. decisions_in 0 a.pat) m.arms) u

    -- its tree is that of the match
    pub tree_moved : (cy : Context S) (cx : Context U) → ((s : S) → cx.set_of (f s) ≡ cy.set_of s) →
        ((c : MCtor) (s : S) → cx.arity c (f s) ≡ cy.arity c s) →
        ((c : MCtor) (s : S) (i : ℕ) → cx.sub c (f s) i ≡ f (cy.sub c s i)) → (V : U → Bool → MValue → Type 0)
        (m : MDeMatch S) (nodes : List MNode) → IsMatchTree cy (Seen f V) m nodes →
        IsMatchTree cx V (match_moved m) nodes
    tree_moved cy cx set arity sub V m _ (nothing_to_lower none) = nothing_to_lower none
    tree_moved cy cx set arity sub V m _ (lowered v tree nodes inside lowers shared) =
        lowered v tree nodes inside
        (subst (λ rows. Lowers cx V (match_decisions (match_moved m)) (IsFewest cx V)
        ((u : MValue) → InMatchDomain V (match_moved m) u → u ≡ Unseen) (first_matrix (match_moved m)).columns rows
        tree)
        (sym (rows_first 0 m.arms))
        (lowered_moved f g cy cx set arity sub V (match_decisions m) (match_decisions (match_moved m)) (told m)
        (IsFewest cy (Seen f V)) (IsFewest cx V) (fewest_moved f g cy cx set arity sub V)
        ((u : MValue) → InMatchDomain V (match_moved m) u → u ≡ Unseen) (first_matrix m).columns (first_matrix m).rows
        tree lowers)) shared
