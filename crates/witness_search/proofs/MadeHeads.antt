-- Where the ranges of the arms' patterns can be held, so can those of the rows' heads.
use Rattle.std.proofs.Common.{inl, inr, ℕ, Bool, true, false, List, [], ◌∷◌, cond, Some, None, nat_eq, arith}
use Rattle.std.specs.List.{All, Contains}
use Rattle.std.proofs.lemmas.List.Elements.{All-head, All-tail}
use Rattle.match_model.specs.ArenaPatterns.{MDePat, de_pat, MDePats, no_de_pats, more_de_pats, MDeArm}
use Rattle.match_model.specs.Made.{IsMadePat, AreMadePats, AreArmsMade}
use Rattle.match_model.specs.Rows.{is_wild}
use Rattle.pattern_matrix.specs.HeadRows.{IsMadeHead, AreMadeHeads, AreMadeRows}
use Rattle.pattern_matrix.specs.Sparse.{SparseRow, bare_head, head_at, heads_at}
use Rattle.pattern_matrix.proofs.HandingOn.{in_cons}
use Rattle.usefulness.specs.Covering.{scope_asked}
use Rattle.usefulness.specs.Frames.{IsHeadIn, IsRowIn}
use Rattle.usefulness.specs.Scope.{patterns_in, patterns_in_all, patterns_of}
use Rattle.usefulness.proofs.Looking.{in_either}
use Rattle.witness_search.specs.Askable.{unwanted_all, AreRowsOf}
use Rattle.witness_search.specs.Wells.{heads_over}

mutual
  inside_made : {T : Type 0} (p q : MDePat T) → IsMadePat p → Contains (patterns_in p) q → IsMadePat q
  inside_made (de_pat c t uid at subs binds) q h i = in_cons (de_pat c t uid at subs binds) q (patterns_in_all subs) IsMadePat h (λ z k. inside_all_made subs z h.1 k) i

  inside_all_made : {T : Type 0} (ps : MDePats T) (q : MDePat T) → AreMadePats ps → Contains (patterns_in_all ps) q → IsMadePat q
  inside_all_made no_de_pats q h (k, l, e) = absurd (omega (arith, l))
  inside_all_made (more_de_pats p ps) q h i = elim (in_either (patterns_in p) (patterns_in_all ps) q i) [ inl k ↦ inside_made p q h.0 k | inr k ↦ inside_all_made ps q h.1 k ]

of_arms_made : {T : Type 0} (arms : List (MDeArm T)) (q : MDePat T) → AreArmsMade arms → Contains (patterns_of arms) q → IsMadePat q
of_arms_made [] q h (k, l, e) = absurd (omega (arith, l))
of_arms_made (a ∷ arms) q h i = elim (in_either (patterns_in a.pat) (patterns_of arms) q i) [ inl k ↦ inside_made a.pat q h.0 k | inr k ↦ of_arms_made arms q h.1 k ]

bare_made : {T : Type 0} (p : MDePat T) → IsMadePat p → IsMadeHead (bare_head (Some p))
bare_made p h = go (is_wild (Some p))
  where
    go : (b : Bool) → IsMadeHead (cond b None (Some p))
    go true = tt
    go false = h

module _ {T : Type 0} (arms : List (MDeArm T)) (made : AreArmsMade arms) (columns : List ℕ) where
  head_made : (heads : List (ℕ × MDePat T)) (c : ℕ) → All (IsHeadIn (scope_asked arms) columns) heads → IsMadeHead (head_at heads c)
  head_made [] c a = tt
  head_made (h ∷ heads) c a = go (nat_eq h.0 c) (head_made heads c (All-tail (IsHeadIn (scope_asked arms) columns) h heads a))
    where
      go : (b : Bool) → IsMadeHead (head_at heads c) → IsMadeHead (cond b (bare_head (Some h.1)) (head_at heads c))
      go true k = bare_made h.1 (of_arms_made arms h.1 made (All-head (IsHeadIn (scope_asked arms) columns) h heads a).known)
      go false k = k

  heads_made : (heads : List (ℕ × MDePat T)) (numbers : List ℕ) → All (IsHeadIn (scope_asked arms) columns) heads → AreMadeHeads (heads_at heads numbers)
  heads_made heads [] a = tt
  heads_made heads (c ∷ numbers) a = (head_made heads c a, heads_made heads numbers a)

  pub rows_made : (numbers : List ℕ) (rows : List (SparseRow T)) → AreRowsOf arms columns rows → AreMadeRows (heads_over numbers rows)
  rows_made numbers [] a = tt
  rows_made numbers (r ∷ rows) a = (
    heads_made r.heads numbers (All-head (IsRowIn (scope_asked arms) columns) (record { row = r; wanted = false }) (unwanted_all rows) a).heads,
    rows_made numbers rows (All-tail (IsRowIn (scope_asked arms) columns) (record { row = r; wanted = false }) (unwanted_all rows) a),
  )
