-- What the paths in arms find: the variants for which they are written.
use Rattle.std.specs.Prelude.{◌≡◌, ℕ, true, false, List, [], ◌∷◌, length, map, slice_get, Some}
use Rattle.std.specs.Str.{bytes_eq}
use Rattle.list_members.specs.Members.{repeats}
use Rattle.match_model.specs.Declarations.{MField, MForm, UnitForm, TupleForm, BraceForm, MVariant, variants_of}
use Rattle.match_model.specs.Declarations.{node_types}
use Rattle.match_model.specs.OfType.{node_ctor}
use Rattle.match_model.specs.RustTypes.{rust_set, inner_type}
use Rattle.match_model.specs.Types.{MType}
use Rattle.match_model.specs.Witness.{MWitness, NodeOf, PointOf, RowOf, MWitnesses, no_witnesses, more_witnesses}
use Rattle.pattern_rules.specs.Namings.{meets, found_ctor, field_names}
use Rattle.pattern_rules.specs.Settings.{Setting, program}
use Rattle.type_names.specs.Finding.{FoundTree, path_finds, found_form}
use Rattle.type_names.specs.declared.meanings.FormKind.{FormKind}
use Rattle.type_names.specs.declared.meanings.FormKind.TheVariants as kinds
use Rattle.witness_names.specs.Named.{name_by, types_there}
use Rattle.witness_names.specs.declared.paths.Paths.TheVariants.{Whole}
use Rattle.arm_laws.specs.Patterns.{path_of}

-- which of the three forms it is
abbrev pub kind_in : MForm → FormKind
kind_in UnitForm = kinds.Unit
kind_in (TupleForm types) = kinds.Tuple
kind_in (BraceForm fields) = kinds.Brace

-- these are the names of the form's fields: as many as types, or the declared ones, none of which stands twice
abbrev pub AreNamesOf : MForm → List (List ℕ) → Type 0
AreNamesOf UnitForm names = Unit {0}
AreNamesOf (TupleForm types) names = length names ≡ length types
AreNamesOf (BraceForm fields) names = (names ≡ map (λ (f : MField). f.name) fields) × (repeats bytes_eq [] names
    ≡ false)

-- what was found is this variant of the type, the one with this number
pub record IsVariantFound (s : Setting) (t : MType) (k : ℕ) (v : MVariant) (found : FoundTree) : Type 0 where
  pub meets : meets found t ≡ true
  pub ctor : found_ctor found ≡ node_ctor (rust_set (program s) t) k
  pub form : found_form s.items found ≡ Some (kind_in v.form)
  pub names : AreNamesOf v.form (field_names s.items found)

-- the path that an arm has for the variant of the type with this number, if there is one, finds it
abbrev pub FindsVariant : Setting → MType → ℕ → Type 0
FindsVariant s t k = (v : MVariant) → slice_get (variants_of (program s) t) k ≡ Some v →
    IsVariantFound s t k v (path_finds s.items (path_of (name_by Whole (program s) t v.name)))

abbrev mutual
  -- so do all paths in the arm for the witness of the type
  pub PathsFind : Setting → MType → MWitness → Type 0
  PathsFind s t (NodeOf k ws) = FindsVariant s t k × PartsFind s (types_there (node_types (program s) t k)) ws
  PathsFind s t (PointOf w) = PathsFind s (inner_type t) w
  PathsFind s t (RowOf front longer back) = ItemsFind s (inner_type t) front × ItemsFind s (inner_type t) back
  PathsFind s t w = Unit {0}

  -- the same of parts, each of its own type
  pub PartsFind : Setting → List MType → MWitnesses → Type 0
  PartsFind s (t ∷ ts) (more_witnesses w ws) = PathsFind s t w × PartsFind s ts ws
  PartsFind s ts ws = Unit {0}

  -- the same of items, all of one type
  pub ItemsFind : Setting → MType → MWitnesses → Type 0
  ItemsFind s t no_witnesses = Unit {0}
  ItemsFind s t (more_witnesses w ws) = PathsFind s t w × ItemsFind s t ws
