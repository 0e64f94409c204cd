-- Nodes of patterns for witnesses, form by form: each passes the tests.
use Rattle.std.proofs.Common.{◌≡◌, ℕ, Bool, true, false, not, ◌||◌, ◌&&◌, List, [], Option, Some, refl, ap, ◌∙◌}
use Rattle.std.specs.Prelude.{nat_le}
use Rattle.std.specs.Str.{bytes_eq}
use Rattle.list_members.specs.Members.{repeats}
use Rattle.match_model.specs.declared.Mode.TheVariants.{Move}
use Rattle.match_model.specs.Types.{MType}
use Rattle.match_model.specs.Constructors.{SingleCtor}
use Rattle.match_model.specs.RustTypes.{rust_arity}
use Rattle.match_model.proofs.Basics.{untrue}
use Rattle.decl_syntax.specs.Patterns.{PathTree, PatternTree, PatternTrees, Shape, FieldTrees, LitTree}
use Rattle.decl_syntax.specs.Patterns as patterns
use Rattle.type_names.specs.Finding.{FoundTree, FoundNothing, FoundTwice, FoundStruct, FoundVariant, name_finds}
use Rattle.type_names.specs.Finding.{found_form, is_found}
use Rattle.type_names.specs.declared.meanings.FormKind.{FormKind}
use Rattle.type_names.specs.declared.meanings.FormKind.TheVariants as kinds
use Rattle.pattern_rules.specs.Settings.{Setting, program, place, bottom_type}
use Rattle.pattern_rules.specs.Namings.{is_unit_form, is_tuple_form, is_twice, is_short, is_path_name, found_if}
use Rattle.pattern_rules.specs.Namings.{found_by, field_names, fields_found, meets}
use Rattle.pattern_rules.specs.Literals.{is_refused, some_end_refused, end_has_type, is_outside, end_outside}
use Rattle.pattern_rules.specs.Literals.{is_empty_at}
use Rattle.pattern_rules.specs.Nodes.{Node, Standing, Elsewhere}
use Rattle.pattern_rules.specs.NodeRules.{literal_fits, is_numeric, is_point, is_tuple, is_row, rest_count}
use Rattle.pattern_rules.specs.NodeRules.{has_other_count, misfits_array, has_rests, written_names, some_absent}
use Rattle.pattern_rules.specs.NodeRules.{is_looked_up}
use Rattle.pattern_rules.specs.OtherRules.{is_free_edition, is_item}
use Rattle.arm_laws.proofs.FineTests.{PassesAll, and_no}

-- a node at the type by a move
abbrev pub node_at : Standing → List (List ℕ) → MType → Shape → Node
node_at st before t shape =
    record { at = 0; shape = shape; standing = st; place = place t Move; before = before }

pub not_no : (b : Bool) → b ≡ true → not b ≡ false
not_no b h = rw h refl

and_not : (a b : Bool) → b ≡ true → (a && not b) ≡ false
and_not a b h = rw h (and_no a)

and_false : (a b : Bool) → b ≡ false → (a && b) ≡ false
and_false a b h = rw h (and_no a)

pub neither : (b c : Bool) → b ≡ false → c ≡ false → (b || c) ≡ false
neither b c h k = rw (h, k) refl

module _ (s : Setting) (st : Standing) (before : List (List ℕ)) (t : MType) where
  pub wild : PassesAll s (node_at st before t patterns.Wild)
  wild = record {
    known = refl;
    binding = refl;
    type = refl;
    count = refl;
    field = refl;
    once = refl;
    all = refl;
    rest = refl;
    range = refl;
    ends = refl;
    name = refl;
    others = refl;
    mode = and_no (not (is_free_edition s.edition));
    item = and_no (is_item st);
    kind = refl;
  }

  pub dots : PassesAll s (node_at st before t patterns.Rest)
  dots = record {
    known = refl;
    binding = refl;
    type = refl;
    count = refl;
    field = refl;
    once = refl;
    all = refl;
    rest = refl;
    range = refl;
    ends = refl;
    name = refl;
    others = refl;
    mode = and_no (not (is_free_edition s.edition));
    item = and_no (is_item st);
    kind = refl;
  }

  pub literal : (l : LitTree) → is_refused l ≡ false → literal_fits l t (bottom_type t) ≡ true →
      is_outside s.width (bottom_type t) l ≡ false → PassesAll s (node_at st before t (patterns.Literal l))
  literal l k f o = record {
    known = refl;
    binding = refl;
    type = and_not (not (is_refused l)) (literal_fits l t (bottom_type t)) f;
    count = refl;
    field = refl;
    once = refl;
    all = refl;
    rest = refl;
    range = and_false (not (is_refused l)) (is_outside s.width (bottom_type t) l) o;
    ends = refl;
    name = refl;
    others = refl;
    mode = and_no (not (is_free_edition s.edition));
    item = and_no (is_item st);
    kind = k;
  }

  pub group : (p : PatternTree) → PassesAll s (node_at st before t (patterns.Group p))
  group p = record {
    known = refl;
    binding = refl;
    type = refl;
    count = refl;
    field = refl;
    once = refl;
    all = refl;
    rest = refl;
    range = refl;
    ends = refl;
    name = refl;
    others = refl;
    mode = and_no (not (is_free_edition s.edition));
    item = and_no (is_item st);
    kind = refl;
  }

  pub point : (mutable : Bool) (p : PatternTree) → is_point mutable t ≡ true →
      PassesAll s (node_at st before t (patterns.Point mutable p))
  point mutable p h = record {
    known = refl;
    binding = refl;
    type = not_no (is_point mutable t) h;
    count = refl;
    field = refl;
    once = refl;
    all = refl;
    rest = refl;
    range = refl;
    ends = refl;
    name = refl;
    others = refl;
    mode = and_no (not (is_free_edition s.edition));
    item = and_no (is_item st);
    kind = refl;
  }

  pub tuple : (ps : PatternTrees) → is_tuple (bottom_type t) ≡ true →
      has_other_count ps (rust_arity (program s) SingleCtor (bottom_type t)) ≡ false → has_rests ps ≡ false →
      PassesAll s (node_at st before t (patterns.Tuple ps))
  tuple ps h c r = record {
    known = refl;
    binding = refl;
    type = not_no (is_tuple (bottom_type t)) h;
    count = and_false (is_tuple (bottom_type t))
        (has_other_count ps (rust_arity (program s) SingleCtor (bottom_type t))) c;
    field = refl;
    once = refl;
    all = refl;
    rest = r;
    range = refl;
    ends = refl;
    name = refl;
    others = refl;
    mode = and_no (not (is_free_edition s.edition));
    item = and_no (is_item st);
    kind = refl;
  }

  pub slice : (ps : PatternTrees) → is_row (bottom_type t) ≡ true → misfits_array ps (bottom_type t) ≡ false →
      has_rests ps ≡ false → PassesAll s (node_at st before t (patterns.Slice ps))
  slice ps h c r = record {
    known = refl;
    binding = refl;
    type = not_no (is_row (bottom_type t)) h;
    count = c;
    field = refl;
    once = refl;
    all = refl;
    rest = r;
    range = refl;
    ends = refl;
    name = refl;
    others = refl;
    mode = and_no (not (is_free_edition s.edition));
    item = and_no (is_item st);
    kind = refl;
  }

-- a range in its parentheses
pub range : (s : Setting) (before : List (List ℕ)) (t : MType) (low high : Option LitTree) (closed : Bool) →
    some_end_refused low high ≡ false →
    (is_numeric (bottom_type t) && (end_has_type low (bottom_type t) && end_has_type high (bottom_type t))) ≡ true →
    (end_outside s.width (bottom_type t) low || end_outside s.width (bottom_type t) high) ≡ false →
    is_empty_at s.width (bottom_type t) low high closed ≡ false →
    PassesAll s (node_at Elsewhere before t (patterns.Range low high closed))
range s before t low high closed k f o e = record {
  known = refl;
  binding = refl;
  type = and_not (not (some_end_refused low high))
      (is_numeric (bottom_type t) && (end_has_type low (bottom_type t) && end_has_type high (bottom_type t))) f;
  count = refl;
  field = refl;
  once = refl;
  all = refl;
  rest = refl;
  range = and_false (not (some_end_refused low high))
      (end_outside s.width (bottom_type t) low || end_outside s.width (bottom_type t) high) o;
  ends = and_false (not (some_end_refused low high)) (is_empty_at s.width (bottom_type t) low high closed) e;
  name = refl;
  others = refl;
  mode = and_no (not (is_free_edition s.edition));
  item = refl;
  kind = k;
}

-- ---- named forms

not_twice : (found : FoundTree) (t : MType) → meets found t ≡ true → is_twice found ≡ false
not_twice FoundTwice t h = untrue h
not_twice FoundNothing t h = refl
not_twice (FoundStruct i) t h = refl
not_twice (FoundVariant o k) t h = refl

is_there : (found : FoundTree) (t : MType) → meets found t ≡ true → is_found found ≡ true
is_there FoundTwice t h = untrue h
is_there FoundNothing t h = untrue h
is_there (FoundStruct i) t h = refl
is_there (FoundVariant o k) t h = refl

-- what was found meets the type, and is of this kind
pub record IsFoundIn (s : Setting) (t : MType) (kind : FormKind) (found : FoundTree) : Type 0 where
  pub meets : meets found t ≡ true
  pub form : found_form s.items found ≡ Some kind

module _ (s : Setting) (st : Standing) (before : List (List ℕ)) (t : MType) where
  pub name_alone : (name : List ℕ) → IsFoundIn s (bottom_type t) kinds.Unit (name_finds s.items name) →
      PassesAll s (node_at st before t (patterns.Name name))
  name_alone name f =
      let found = name_finds s.items name in
      let path : is_path_name s name ≡ true = ap is_unit_form f.form in
      let same : found_if (is_path_name s name) found ≡ found = ap (λ b. found_if b found) path in
      record {
        known = and_false (is_looked_up st) (is_twice found) (not_twice found (bottom_type t) f.meets);
        binding = ap is_tuple_form f.form;
        type = and_not (is_found (found_if (is_path_name s name) found))
            (meets (found_if (is_path_name s name) found) (bottom_type t))
            (ap (λ x. meets x (bottom_type t)) same ∙ f.meets);
        count = refl;
        field = refl;
        once = refl;
        all = refl;
        rest = refl;
        range = refl;
        ends = refl;
        name = rw path refl;
        others = refl;
        mode = and_no (not (is_free_edition s.edition));
        item = and_no (is_item st);
        kind = refl;
      }

  pub path_alone : (path : PathTree) → is_short path ≡ true →
      IsFoundIn s (bottom_type t) kinds.Unit (found_by s (patterns.Path path)) →
      PassesAll s (node_at st before t (patterns.Path path))
  path_alone path short f =
      let found = found_by s (patterns.Path path) in
      record {
        known = and_not (is_short path) (is_found found) (is_there found (bottom_type t) f.meets);
        binding = refl;
        type = and_not (is_found found) (meets found (bottom_type t)) f.meets;
        count = and_not (is_found found) (is_unit_form (found_form s.items found)) (ap is_unit_form f.form);
        field = refl;
        once = refl;
        all = refl;
        rest = refl;
        range = refl;
        ends = refl;
        name = refl;
        others = refl;
        mode = and_no (not (is_free_edition s.edition));
        item = and_no (is_item st);
        kind = not_no (is_short path) short;
      }

  pub tuple_form : (path : PathTree) (ps : PatternTrees) → is_short path ≡ true →
      IsFoundIn s (bottom_type t) kinds.Tuple (found_by s (patterns.TupleForm path ps)) →
      has_other_count ps (fields_found s.items (found_by s (patterns.TupleForm path ps))) ≡ false →
      has_rests ps ≡ false → PassesAll s (node_at st before t (patterns.TupleForm path ps))
  tuple_form path ps short f c r =
      let found = found_by s (patterns.TupleForm path ps) in
      let fits = neither (not (is_tuple_form (found_form s.items found)))
      (has_other_count ps (fields_found s.items found))
      (not_no (is_tuple_form (found_form s.items found)) (ap is_tuple_form f.form)) c in
      record {
        known = and_not (is_short path) (is_found found) (is_there found (bottom_type t) f.meets);
        binding = refl;
        type = and_not (is_found found) (meets found (bottom_type t)) f.meets;
        count = and_false (is_found found)
            (nat_le (rest_count ps) 1 && (not (is_tuple_form (found_form s.items found))
            || has_other_count ps (fields_found s.items found)))
            (and_false (nat_le (rest_count ps) 1) (not (is_tuple_form (found_form s.items found))
            || has_other_count ps (fields_found s.items found)) fits);
        field = refl;
        once = refl;
        all = refl;
        rest = r;
        range = refl;
        ends = refl;
        name = refl;
        others = refl;
        mode = and_no (not (is_free_edition s.edition));
        item = and_no (is_item st);
        kind = not_no (is_short path) short;
      }

  pub brace_form : (path : PathTree) (fs : FieldTrees) → is_short path ≡ true →
      IsFoundIn s (bottom_type t) kinds.Brace (found_by s (patterns.Brace path fs false)) →
      some_absent (written_names fs) (field_names s.items (found_by s (patterns.Brace path fs false))) ≡ false →
      repeats bytes_eq [] (written_names fs) ≡ false →
      some_absent (field_names s.items (found_by s (patterns.Brace path fs false))) (written_names fs) ≡ false →
      PassesAll s (node_at st before t (patterns.Brace path fs false))
  brace_form path fs short f declared once written =
      let found = found_by s (patterns.Brace path fs false) in
      record {
        known = and_not (is_short path) (is_found found) (is_there found (bottom_type t) f.meets);
        binding = refl;
        type = and_not (is_found found) (meets found (bottom_type t)) f.meets;
        count = refl;
        field = and_false (is_found found) (some_absent (written_names fs) (field_names s.items found)) declared;
        once = once;
        all = and_false (is_found found) (some_absent (field_names s.items found) (written_names fs)) written;
        rest = refl;
        range = refl;
        ends = refl;
        name = refl;
        others = refl;
        mode = and_no (not (is_free_edition s.edition));
        item = and_no (is_item st);
        kind = not_no (is_short path) short;
      }
