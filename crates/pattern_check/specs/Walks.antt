-- A walk over the nodes of a pattern: the first of them that breaks a rule, and the names that are bound before each.
use Rattle.std.specs.Prelude.{◌≡◌, ℕ, ◌||◌, List, [], ◌∷◌, take, length, Option, Some, None}
use denote.Ref.{Bor}
use Rattle.match_model.specs.declared.Mode.{Mode}
use Rattle.match_model.specs.Types.{MType}
use Rattle.match_model.specs.Declarations.{MProgram, node_types}
use Rattle.match_model.specs.RustTypes.{part_type}
use Rattle.decl_syntax.specs.Patterns.{PatternTree, Shape}
use Rattle.decl_syntax.specs.Patterns as patterns
use Rattle.type_names.specs.NameRules.{is_among}
use Rattle.type_table.specs.declared.table.TypeTable.{TypeTable}
use Rattle.pattern_rules.specs.declared.Edition.{Edition}
use Rattle.pattern_rules.specs.Settings.{Setting, Place, place, bottom_type}
use Rattle.pattern_rules.specs.Namings.{is_path_name, found_by}
use Rattle.pattern_rules.specs.Nodes.{Node, Elsewhere, nodes, nodes_within, name_if, names_bound, names_of_all, names_of_fields}
use Rattle.pattern_rules.specs.Faults.{NodeRule, node_rules}
use Rattle.pattern_rules.specs.FirstFault.{least_broken}
use Rattle.pattern_check.specs.declared.fault.NodeFault as declared_fault
use Rattle.pattern_check.specs.Checking.{IsSettingOf, IsMet}

-- a fault at this offset, where there is a rule
abbrev pub fault_at : (at : ℕ) → Option ℕ → Option declared_fault.NodeFault
fault_at at None = None
fault_at at (Some rule) = Some (record { rule = rule; at = at })

-- the first of the two that is there
abbrev pub earlier : Option declared_fault.NodeFault → Option declared_fault.NodeFault → Option declared_fault.NodeFault
earlier None other = other
earlier (Some x) other = Some x

-- the first node that breaks one of these rules
abbrev pub first_in : List NodeRule → Setting → List Node → Option declared_fault.NodeFault
first_in rules s [] = None
first_in rules s (n ∷ ns) = earlier (fault_at n.at (least_broken rules s n)) (first_in rules s ns)

-- the text
abbrev pub text_at : Bor (List ℕ) → List ℕ
text_at n = n.now

-- the names are those, in any order and number
abbrev pub Holds : (names before : List (List ℕ)) → Type 0
Holds names before = (q : List ℕ) → is_among q names ≡ is_among q before

-- further names were added behind the old ones
pub record Adds (old new names : List (List ℕ)) : Type 0 where
  pub among : (q : List ℕ) → is_among q new ≡ (is_among q old || is_among q names)
  pub kept : take (length old) new ≡ old

-- the name that a form binds by itself
abbrev pub own_names : Setting → Shape → List (List ℕ)
own_names s (patterns.Name name) = name_if (is_path_name s name) name
own_names s (patterns.Bind name by_ref mutable) = name ∷ []
own_names s (patterns.BindAs name by_ref mutable p) = name ∷ []
own_names s _ = []

-- the names that the patterns within it bind
abbrev pub inner_names : Setting → Shape → List (List ℕ)
inner_names s (patterns.BindAs name by_ref mutable p) = names_bound s p
inner_names s (patterns.TupleForm path ps) = names_of_all s ps
inner_names s (patterns.Brace path fs rest) = names_of_fields s fs
inner_names s (patterns.Tuple ps) = names_of_all s ps
inner_names s (patterns.Group p) = names_bound s p
inner_names s (patterns.Slice ps) = names_of_all s ps
inner_names s (patterns.Point mutable p) = names_bound s p
inner_names s (patterns.Or ps) = names_of_all s ps
inner_names s _ = []

-- the nodes below one of this form, where `before` has the name that it binds by itself too
abbrev pub inner_nodes : Setting → (before : List (List ℕ)) → Place → Shape → List Node
inner_nodes s before p (patterns.BindAs name by_ref mutable q) = nodes s Elsewhere before p q
inner_nodes s before p shape = nodes_within s before p shape

-- the types of the parts of a tuple, or of a variant of a type
abbrev pub types_of_parts : MProgram → MType → (variant : ℕ) → ℕ → MType
types_of_parts p t k i = part_type t (node_types p t k) i

-- No meaning: what is told of nodes, in each setting of the table and edition, where these names are bound before them.
abbrev pub FirstIs : TypeTable → Edition → (names : List (List ℕ)) → (Setting → List (List ℕ) → List Node) → Option declared_fault.NodeFault → Type 0
FirstIs table edition names ns answer =
    (s : Setting) (before : List (List ℕ)) → IsSettingOf table s → s.edition ≡ edition → Holds names before → answer ≡ first_in node_rules s (ns s before)

-- No meaning: names were added, where no rule is broken.
abbrev pub NamesAre : TypeTable → (old new : List (List ℕ)) → (Setting → List (List ℕ)) → Option declared_fault.NodeFault → Type 0
NamesAre table old new names answer = answer ≡ None → (s : Setting) → IsSettingOf table s → Adds old new (names s)

-- No meaning: a form that names a struct or variant names that of the type.
abbrev pub IsFine : Setting → Shape → MType → Type 0
IsFine s (patterns.TupleForm path ps) t = IsMet s (found_by s (patterns.TupleForm path ps)) (bottom_type t)
IsFine s (patterns.Brace path fs rest) t = IsMet s (found_by s (patterns.Brace path fs rest)) (bottom_type t)
IsFine s _ t = Unit {0}

-- No meaning: what is told of the nodes below one of this form, which breaks no rule by itself.
abbrev pub FirstWithin : TypeTable → Edition → (names : List (List ℕ)) → Shape → MType → Mode → Option declared_fault.NodeFault → Type 0
FirstWithin table edition names shape t m answer =
    (s : Setting) (before : List (List ℕ)) → IsSettingOf table s → s.edition ≡ edition → Holds names before → IsFine s shape t →
    answer ≡ first_in node_rules s (inner_nodes s before (place t m) shape)
