-- The constructors of leaves in the arena.
use Rattle.std.proofs.Common.{◌≡◌, [], ◌∷◌, Some, refl, ◌∙◌}
use Rattle.match_model.specs.Constructors.{MCtor, WildCtor}
use Rattle.match_model.specs.ArenaPatterns.{MDePat, de_pat}
use Rattle.match_model.specs.Rows.{first_ctor, ctor_unless_wild}
use Rattle.pattern_arena.specs.declared.pattern.DePat.{DePat}
use Rattle.pattern_arena.specs.Trees.{tree, placed_ctor}
use Rattle.pattern_arena.proofs.TreeFacts.{tree_out}
use Rattle.pattern_matrix.specs.Sparse.{bare_head}

bare_ctor : {T : Type 0} (q : MDePat T) (c : MCtor) → q ≡ q → first_ctor (bare_head (Some q) ∷ []) ≡ first_ctor (Some q ∷ [])
bare_ctor (de_pat WildCtor t uid at subs binds) c e = refl
bare_ctor (de_pat _ t uid at subs binds) c e = refl

pub head-ctor : {T : Type 0} (p : DePat T) → first_ctor (bare_head (Some (tree p)) ∷ []) ≡ ctor_unless_wild (placed_ctor p)
head-ctor p = bare_ctor (tree p) WildCtor refl ∙ rw (tree_out p) refl

pub ruleset leaf_heads = head-ctor
