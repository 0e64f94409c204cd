-- Where a property of types gives that paths find their variants, and parts have it, all paths in an arm find theirs.
use Rattle.std.proofs.Common.{ℕ, List, [], ◌∷◌}
use Rattle.std.specs.Prelude.{⊤}
use Rattle.match_model.specs.Declarations.{node_types}
use Rattle.match_model.specs.RustTypes.{inner_type}
use Rattle.match_model.specs.Types.{MType}
use Rattle.match_model.specs.Witness.{MWitness, NodeOf, PointOf, RowOf, MWitnesses, no_witnesses, more_witnesses}
use Rattle.pattern_rules.specs.Settings.{Setting, program}
use Rattle.witness_names.specs.Named.{types_there}
use Rattle.arm_laws.specs.Found.{FindsVariant, PathsFind, PartsFind, ItemsFind}

-- all types of a list have the property
abbrev pub AllTypes : (MType → Type 0) → List MType → Type 0
AllTypes P [] = ⊤
AllTypes P (t ∷ ts) = P t × AllTypes P ts

module _ (s : Setting) (P : MType → Type 0) (finds : (t : MType) (k : ℕ) → P t → FindsVariant s t k)
    (inner : (t : MType) → P t → P (inner_type t))
    (parts : (t : MType) (k : ℕ) → P t → AllTypes P (types_there (node_types (program s) t k))) where
  mutual
    pub paths_find : (t : MType) (w : MWitness) → P t → PathsFind s t w
    paths_find t (NodeOf k ws) p =
        (finds t k p, parts_find (types_there (node_types (program s) t k)) ws (parts t k p))
    paths_find t (PointOf w) p = paths_find (inner_type t) w (inner t p)
    paths_find t (RowOf front longer back) p =
        (items_find (inner_type t) front (inner t p), items_find (inner_type t) back (inner t p))
    paths_find t w p = tt

    parts_find : (ts : List MType) (ws : MWitnesses) → AllTypes P ts → PartsFind s ts ws
    parts_find (t ∷ ts) (more_witnesses w ws) p = (paths_find t w p.0, parts_find ts ws p.1)
    parts_find ts ws p = tt

    items_find : (t : MType) (ws : MWitnesses) → P t → ItemsFind s t ws
    items_find t no_witnesses p = tt
    items_find t (more_witnesses w ws) p = (paths_find t w p, items_find t ws p)
