-- What callers see of targets and finders.
use Rattle.std.specs.Prelude.{◌≡◌, ℕ, Bool, List, map, Option, Some, None, if◌then◌else◌}
use Rattle.std.specs.Global.{Global}
use Rattle.std.specs.Prelude.{String}
use Rattle.std.specs.declared.hash.FoldHasher.{FoldHasher}
use Rattle.std.specs.declared.hash.BuildHasherDefault.{BuildHasherDefault}
use Rattle.indexmap.specs.IndexMap.{IndexMap, get_by_text}
use Rattle.match_model.specs.Types.{MOwner}
use Rattle.decl_syntax.specs.Items.{ItemTree}
use Rattle.type_names.specs.declared.meanings.Owner.{Owner}
use Rattle.type_names.specs.declared.targets.Target.{Target}
use Rattle.type_names.specs.declared.targets.Target.TheVariants as targets
use Rattle.type_names.specs.declared.finding.Finder as declared_finder
use Rattle.type_names.specs.Finding.{FoundTree, FoundNothing, FoundTwice, FoundStruct, FoundVariant, given_from, globbed, variants_named, agreed, same_variant}
use Rattle.type_names.specs.Views.{owner_view}

-- what a target says
abbrev pub target_view : Target → FoundTree
target_view targets.Nothing = FoundNothing
target_view targets.Twice = FoundTwice
target_view (targets.Struct i) = FoundStruct i
target_view (targets.Variant owner variant) = FoundVariant (owner_view owner) variant

-- a map from names to targets
abbrev pub TargetMap : Type 0
TargetMap = IndexMap (String Global) Target (BuildHasherDefault FoldHasher)

-- what a look-up says; nothing where the name is not there
abbrev pub told : Option Target → FoundTree
told None = FoundNothing
told (Some t) = target_view t

-- what the map says of a name
abbrev pub found_in : TargetMap → (name : List ℕ) → FoundTree
found_in targets name = told (get_by_text targets name)

-- the finder is that of the items: it has what they give to each name, and what their globs give
pub record IsFinder (items : List ItemTree) (finder : declared_finder.Finder) : Type 0 where
  pub given : (name : List ℕ) → found_in finder.given name ≡ given_from items name 0 items
  pub globs : (name : List ℕ) → found_in finder.globs name ≡ globbed items name

-- No meaning: what was found with a further variant of the name.
abbrev pub with_variant : FoundTree → MOwner → ℕ → FoundTree
with_variant FoundNothing o k = FoundVariant o k
with_variant (FoundVariant p l) o k = if same_variant (p, l) (o, k) then FoundVariant p l else FoundTwice
with_variant _ o k = FoundTwice

-- No meaning: what was found with what is found further.
abbrev pub joined : FoundTree → FoundTree → FoundTree
joined f FoundNothing = f
joined f (FoundVariant o k) = with_variant f o k
joined f _ = FoundTwice

-- No meaning: what is found where the test holds.
abbrev pub masked : Bool → FoundTree → FoundTree
masked b f = if b then f else FoundNothing

-- No meaning: what these enums give to a name.
abbrev pub owners_find : List ItemTree → (name : List ℕ) → List Owner → FoundTree
owners_find items name owners = agreed (variants_named items name (map owner_view owners))
