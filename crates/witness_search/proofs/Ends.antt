-- Where nothing is left to look at.
use Rattle.std.proofs.Common.{◌≡◌, ◌<◌, ℕ, Bool, true, false, ◌||◌, List, [], ◌∷◌, replicate, length, refl, sym, ap, subst, ◌∙◌, arith}
use Rattle.std.specs.List.{list_any}
use Rattle.match_model.specs.Values.{MValue}
use Rattle.match_model.specs.Contexts.{Context, Open}
use Rattle.match_model.specs.ArenaPatterns.{MDePat}
use Rattle.match_model.specs.Match.{is_empty_list}
use Rattle.match_model.specs.Witness.{MWitness, AnyOf}
use Rattle.match_model.specs.WitnessList.{Witnesses, taken, covered, no_row, are_wild}
use Rattle.pattern_matrix.specs.Sparse.{SparseRow, heads_at}
use Rattle.witness_search.specs.Starts.{lists_none}
use Rattle.witness_search.specs.Wells.{heads_over}

none_wild : {T : Type 0} (places : List (Open T)) (numbers : List ℕ) → length numbers ≡ length places → are_wild places (heads_at {T = T} [] numbers) ≡ true
none_wild [] [] e = refl
none_wild [] (c ∷ numbers) e = absurd (omega (arith, e))
none_wild (o ∷ places) [] e = absurd (omega (arith, e))
none_wild (o ∷ places) (c ∷ numbers) e = none_wild places numbers (omega (arith, e))

row_bare : {T : Type 0} (places : List (Open T)) (numbers : List ℕ) (heads : List (ℕ × MDePat T)) → length numbers ≡ length places → is_empty_list heads ≡ true →
    are_wild places (heads_at heads numbers) ≡ true
row_bare places numbers [] e h = none_wild places numbers e
row_bare places numbers (x ∷ heads) e h = cc

some_bare : {T : Type 0} (places : List (Open T)) (numbers : List ℕ) (rows : List (SparseRow T)) → length numbers ≡ length places → list_any lists_none rows ≡ true →
    list_any (are_wild places) (heads_over numbers rows) ≡ true
some_bare places numbers [] e h = cc
some_bare {T = T} places numbers (r ∷ rows) e h = go (lists_none r) refl h (some_bare places numbers rows e)
  where
    or_true : (b : Bool) → (b || true) ≡ true
    or_true true = refl
    or_true false = refl

    go : (b : Bool) → lists_none r ≡ b → (b || list_any lists_none rows) ≡ true → (list_any lists_none rows ≡ true → list_any (are_wild places) (heads_over numbers rows) ≡ true) →
        (are_wild places (heads_at r.heads numbers) || list_any (are_wild places) (heads_over numbers rows)) ≡ true
    go true f k m = ap (λ x. x || list_any (are_wild places) (heads_over numbers rows)) (row_bare places numbers r.heads e f)
    go false f k m = ap (λ x. are_wild places (heads_at r.heads numbers) || x) (m k) ∙ or_true (are_wild places (heads_at r.heads numbers))

module _ {T : Type 0} (cx : Context T) (IsValue : T → Bool → MValue → Type 0) where
  -- a row that lists no head leaves nothing
  pub bare_found : (places : List (Open T)) (numbers : List ℕ) (rows : List (SparseRow T)) → length numbers ≡ length places → list_any lists_none rows ≡ true →
      Witnesses cx IsValue places (heads_over numbers rows) []
  bare_found places numbers rows e h = covered places (heads_over numbers rows) (some_bare places numbers rows e h)

  -- without a row there is one stack
  pub none_found : (places : List (Open T)) (numbers : List ℕ) (rows : List (SparseRow T)) (n : ℕ) (ws : List (List MWitness)) → length rows ≡ 0 → n ≡ length places →
      ws ≡ replicate n AnyOf ∷ [] → Witnesses cx IsValue places (heads_over numbers rows) ws
  none_found places numbers [] n ws l e f = subst (Witnesses cx IsValue places []) (sym (f ∙ ap (λ k. replicate k AnyOf ∷ []) e)) (no_row places)
  none_found places numbers (r ∷ rows) n ws l e f = absurd (omega (arith, l))

  -- without a place a row leaves nothing
  pub taken_found : (places : List (Open T)) (numbers : List ℕ) (rows : List (SparseRow T)) (ws : List (List MWitness)) → places ≡ [] → 0 < length rows → ws ≡ [] →
      Witnesses cx IsValue places (heads_over numbers rows) ws
  taken_found [] numbers [] ws p l f = absurd (omega (arith, l))
  taken_found [] numbers (r ∷ rows) ws p l f = subst (Witnesses cx IsValue [] (heads_over numbers (r ∷ rows))) (sym f) (taken _ (heads_over numbers rows))
  taken_found (o ∷ places) numbers rows ws p l f = absurd (cc)
