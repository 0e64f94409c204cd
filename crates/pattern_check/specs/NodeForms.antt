-- The nodes of which a rule is asked, and the first of several tests that holds.
use Rattle.std.specs.Prelude.{◌≡◌, ℕ, Bool, true, false, not, ◌&&◌, ◌||◌, List, [], Option, Some, None, is_some, is_none}
use Rattle.match_model.specs.declared.Mode.{Mode}
use Rattle.match_model.specs.declared.Width.{Width}
use Rattle.match_model.specs.Types.{MType}
use Rattle.decl_syntax.specs.Patterns.{Shape, LitTree}
use Rattle.type_table.specs.declared.table.TypeTable.{TypeTable}
use Rattle.pattern_rules.specs.declared.Edition.{Edition}
use Rattle.pattern_rules.specs.Settings.{Setting, Place, place}
use Rattle.pattern_rules.specs.Literals.{end_has_type, end_outside, is_empty_at}
use Rattle.pattern_rules.specs.Nodes as rules
use Rattle.pattern_rules.specs.Nodes.{Node}
use Rattle.std.specs.Str.{bytes_eq}
use Rattle.list_members.specs.Members.{repeats}
use Rattle.pattern_rules.specs.NodeRules.{is_numeric, some_absent}
use Rattle.pattern_rules.specs.OtherRules.{binds_twice, is_item}
use Rattle.pattern_rules.specs.Faults.{node_rules}
use Rattle.pattern_rules.specs.FirstFault.{least_broken}
use Rattle.pattern_check.specs.declared.own_fault.Standing.{Standing}
use Rattle.pattern_check.specs.declared.own_fault.Standing.TheVariants as standings
use Rattle.pattern_check.specs.Checking.{IsSettingOf}

-- where a node stands
abbrev pub standing_view : Standing → rules.Standing
standing_view standings.AsItem = rules.AsItem
standing_view standings.AsName = rules.AsName
standing_view standings.Elsewhere = rules.Elsewhere

-- the node of this form that stands so
abbrev pub node_at : (at : ℕ) → Shape → rules.Standing → Place → (before : List (List ℕ)) → Node
node_at at shape standing p before = record { at = at; shape = shape; standing = standing; place = p; before = before }

-- the rule, if it is broken, or else what is told of the later ones
abbrev pub pick : (broken : Bool) → (rule : ℕ) → Option ℕ → Option ℕ
pick broken rule rest = elim broken [ true ↦ Some rule | false ↦ rest ]

-- in each setting of the table and edition, the answer is the least rule that a node of this form breaks by itself, where
-- it stands so; `twice` says that it binds a name again
abbrev pub OwnFaultIs : TypeTable → Edition → Shape → rules.Standing → MType → Mode → (twice : Bool) → Option ℕ → Type 0
OwnFaultIs table edition shape standing t m twice answer =
    (s : Setting) (at : ℕ) (before : List (List ℕ)) → IsSettingOf table s → s.edition ≡ edition →
    twice ≡ binds_twice s (node_at at shape standing (place t m) before) →
    answer ≡ least_broken node_rules s (node_at at shape standing (place t m) before)

-- No meaning: a range with these ends is open above and an item of a slice pattern.
abbrev pub open_item : rules.Standing → (low high : Option LitTree) → Bool
open_item standing low high = is_item standing && (is_some low && is_none high)

-- No meaning: what is told of a range none of whose ends is refused.
abbrev pub range_rules : Width → MType → (low high : Option LitTree) → (closed is_open : Bool) → Option ℕ
range_rules width t low high closed is_open =
    pick (not (is_numeric t && (end_has_type low t && end_has_type high t))) 22
    (pick (end_outside width t low || end_outside width t high) 28 (pick (is_empty_at width t low high closed) 29 (pick is_open 33 None)))

-- No meaning: what is told of the written fields of a form whose fields have these names.
abbrev pub field_rules : (declared written : List (List ℕ)) → (rest : Bool) → Option ℕ
field_rules declared written rest =
    pick (some_absent written declared) 24 (pick (repeats bytes_eq [] written) 25 (pick (not rest && some_absent declared written) 26 None))
