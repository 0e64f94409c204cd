-- Whether a form binds a name again.
use Rattle.std.proofs.Common.{◌≡◌, ℕ, Bool, true, false, not, ◌&&◌, List, [], ◌∷◌, Option, Some, None, refl}
use Rattle.decl_syntax.specs.Patterns.{PatternTree, Name, bind_shape}
use Rattle.type_names.specs.NameRules.{is_among}
use Rattle.pattern_rules.specs.Settings.{Setting, Place}
use Rattle.pattern_rules.specs.Namings.{is_path_name}
use Rattle.pattern_rules.specs.Nodes.{Standing}
use Rattle.pattern_rules.specs.OtherRules.{binds_twice}
use Rattle.pattern_check.specs.NodeForms.{node_at}
use Rattle.pattern_check.specs.Walks.{Holds, own_names}

-- a bare name
pub bare_twice : (path : Bool) (n : List ℕ) (names before : List (List ℕ)) → Holds names before → (s : Setting) (at : ℕ) (st : Standing) (p : Place) → path ≡ is_path_name s n →
    (not path && is_among n names) ≡ binds_twice s (node_at at (Name n) st p before)
bare_twice true n names before h s at st p e = rw (← e) refl
bare_twice false n names before h s at st p e = rw (← e) (h n)

-- a name with `ref`, `mut` or `@`
pub written_twice : (n : List ℕ) (by_ref mutable : Bool) (sub : Option PatternTree) (s : Setting) (at : ℕ) (st : Standing) (p : Place) (before : List (List ℕ)) →
    is_among n before ≡ binds_twice s (node_at at (bind_shape n by_ref mutable sub) st p before)
written_twice n by_ref mutable None s at st p before = refl
written_twice n by_ref mutable (Some q) s at st p before = refl

pub written_names : (n : List ℕ) (by_ref mutable : Bool) (sub : Option PatternTree) (s : Setting) → own_names s (bind_shape n by_ref mutable sub) ≡ n ∷ []
written_names n by_ref mutable None s = refl
written_names n by_ref mutable (Some q) s = refl
