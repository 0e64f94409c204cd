-- Patterns that are no wildcards without names.
use Rattle.std.proofs.Common.{◌≡◌, ℕ, Bool, true, false, ◌||◌, List, [], ◌∷◌, map, length, nat_eq, cond, Some, None, refl, ap, ◌∙◌}
use Rattle.std.specs.List.{list_any}
use Rattle.match_model.specs.ArenaPatterns.{MBound, MDePat, de_pat, MDePats, more_de_pats, de_pats_of}
use Rattle.match_model.specs.Constructors.{MCtor, WildCtor}
use Rattle.match_model.specs.Rows.{Head}
use Rattle.pattern_arena.specs.declared.pattern.DePat.{DePat}
use Rattle.pattern_arena.specs.Trees.{tree, placed_subs}
use Rattle.pattern_arena.proofs.TreeFacts.{tree_out}
use Rattle.decision_tree.specs.Thin.{is_blank, is_blank_head, thin_head}

module _ {T : Type 0} where
  over-others : (c : MCtor) (t : T) (uid at : ℕ) (p : MDePat T) (ps : MDePats T) (binds : List MBound) →
      is_blank (de_pat c t uid at (more_de_pats p ps) binds) ≡ false
  over-others WildCtor t uid at p ps binds = refl
  over-others c t uid at p ps binds = refl

  -- a pattern with others below it is none
  pub not-blank : (p : DePat T) → nat_eq (length (placed_subs p)) 0 ≡ false → is_blank (tree p) ≡ false
  not-blank p e = ap is_blank (tree_out p) ∙ go (placed_subs p) e _ _ _ _ _
    where
      go : (subs : List (DePat T)) → nat_eq (length subs) 0 ≡ false → (c : MCtor) (t : T) (uid at : ℕ)
          (binds : List MBound) → is_blank (de_pat c t uid at (de_pats_of (map tree subs)) binds) ≡ false
      go [] e c t uid at binds = cc
      go (q ∷ qs) e c t uid at binds = over-others c t uid at (tree q) (de_pats_of (map tree qs)) binds

  -- without one the heads stay as they are
  pub none-blank : (hs : List (Head T)) → list_any is_blank_head hs ≡ false → map thin_head hs ≡ hs
  none-blank [] e = refl
  none-blank (None ∷ hs) e = ap (λ l. None ∷ l) (none-blank hs e)
  none-blank (Some p ∷ hs) e = go (is_blank p) e (none-blank hs)
    where
      go : (b : Bool) → (b || list_any is_blank_head hs) ≡ false →
          (list_any is_blank_head hs ≡ false → map thin_head hs ≡ hs) →
          cond b None (Some p) ∷ map thin_head hs ≡ Some p ∷ hs
      go true e f = cc
      go false e f = ap (λ l. Some p ∷ l) (f e)
