-- The least rule that a node breaks by itself, form by form.
use Rattle.std.proofs.Common.{◌≡◌, ℕ, Bool, true, false, not, ◌&&◌, ◌||◌, List, [], Option, Some, None, refl, ap, ◌∙◌}
use Rattle.std.specs.Str.{bytes_eq}
use Rattle.match_model.specs.declared.Mode.{Mode}
use Rattle.match_model.specs.declared.Width.{Width}
use Rattle.match_model.specs.Types.{MType, SliceType, ArrayType}
use Rattle.match_model.specs.Constructors.{SingleCtor}
use Rattle.match_model.specs.RustTypes.{rust_arity}
use Rattle.list_members.specs.Members.{repeats}
use Rattle.decl_syntax.specs.Patterns.{PathTree, PatternTree, PatternTrees, FieldTrees, LitTree, Wild, Rest, Group, Or, Literal, Name, Bind, BindAs, Path, TupleForm, Brace, Tuple, Slice, Point, Range, bind_shape}
use Rattle.type_names.specs.Finding.{FoundTree, name_finds, path_finds, found_form, is_found}
use Rattle.pattern_rules.specs.Settings.{Setting, program, place, bottom_type, is_move}
use Rattle.pattern_rules.specs.Namings.{found_if, is_short, is_path_name, is_unit_form, is_tuple_form, name_form, field_names, meets}
use Rattle.pattern_rules.specs.Literals.{is_refused, some_end_refused, is_outside, end_has_type, end_outside, is_empty_at}
use Rattle.pattern_rules.specs.Nodes.{Node, Standing, AsItem, AsName, Elsewhere}
use Rattle.pattern_rules.specs.NodeRules.{is_unknown_name, name_is_twice, is_no_binding, is_taken_name, literal_fits, is_numeric, is_point, is_tuple, is_row, misses, has_wrong_type, has_other_count, misfits_form, has_wrong_count, written_names, some_absent, names_no_field, names_field_twice, misses_field, has_rests, has_rest_twice}
use Rattle.pattern_rules.specs.OtherRules.{is_out_of_range, is_empty_range, binds_twice, is_free_edition, writes_mode, is_item, is_open_item, is_unsupported_pattern}
use Rattle.pattern_rules.specs.Faults.{node_rules}
use Rattle.pattern_rules.specs.FirstFault.{least_broken}
use Rattle.pattern_check.specs.NodeForms.{node_at, pick, open_item, range_rules, field_rules}

-- the tests of a node one by one
chain : (s : Setting) (n : Node) {b20 b21 b22 b23 b24 b25 b26 b27 b28 b29 b30 b32 b33 b35 : Bool} →
    b20 ≡ is_unknown_name s n → b21 ≡ is_no_binding s n → b22 ≡ has_wrong_type s n → b23 ≡ has_wrong_count s n → b24 ≡ names_no_field s n → b25 ≡ names_field_twice s n →
    b26 ≡ misses_field s n → b27 ≡ has_rest_twice s n → b28 ≡ is_out_of_range s n → b29 ≡ is_empty_range s n → b30 ≡ binds_twice s n → b32 ≡ writes_mode s n →
    b33 ≡ is_open_item s n → b35 ≡ is_unsupported_pattern s n →
    pick b20 20 (pick b21 21 (pick b22 22 (pick b23 23 (pick b24 24 (pick b25 25 (pick b26 26 (pick b27 27 (pick b28 28 (pick b29 29 (pick b30 30 (pick b32 32 (pick b33 33 (pick b35 35 None)))))))))))))
    ≡ least_broken node_rules s n
chain s n e20 e21 e22 e23 e24 e25 e26 e27 e28 e29 e30 e32 e33 e35 =
    rw (e20, e21, e22, e23, e24, e25, e26, e27, e28, e29, e30, e32, e33, e35) refl

no_mode : (a b : Bool) → false ≡ (a && (b && false))
no_mode true true = refl
no_mode true false = refl
no_mode false b = refl

no_item : (st : Standing) → false ≡ (is_item st && false)
no_item AsItem = refl
no_item AsName = refl
no_item Elsewhere = refl

-- the same range by equal widths, types and places
pub range_along : (w v : Width) (t u : MType) (low high : Option LitTree) (closed o p : Bool) → w ≡ v → t ≡ u → o ≡ p → range_rules w t low high closed o ≡ range_rules v u low high closed p
range_along w v t u low high closed o p e f g = rw (e, f, g) refl

-- a range at a type without numbers
pub range_wrong : (w : Width) (t : MType) (low high : Option LitTree) (closed o : Bool) → false ≡ is_numeric t → Some 22 ≡ range_rules w t low high closed o
range_wrong w t low high closed o e = rw (← e) refl

-- no mode is written and the node is no open item
abbrev NoMode : Setting → Mode → Type 0
NoMode s m = false ≡ (not (is_free_edition s.edition) && (not (is_move m) && false))

module _ (s : Setting) (at : ℕ) (st : Standing) (t : MType) (m : Mode) (before : List (List ℕ)) where
  modeless : NoMode s m
  modeless = no_mode (not (is_free_edition s.edition)) (not (is_move m))

  pub wild_none : None ≡ least_broken node_rules s (node_at at Wild st (place t m) before)
  wild_none = chain s (node_at at Wild st (place t m) before) refl refl refl refl refl refl refl refl refl refl refl modeless (no_item st) refl

  pub rest_none : None ≡ least_broken node_rules s (node_at at Rest st (place t m) before)
  rest_none = chain s (node_at at Rest st (place t m) before) refl refl refl refl refl refl refl refl refl refl refl modeless (no_item st) refl

  pub group_none : (p : PatternTree) → None ≡ least_broken node_rules s (node_at at (Group p) st (place t m) before)
  group_none p = chain s (node_at at (Group p) st (place t m) before) refl refl refl refl refl refl refl refl refl refl refl modeless (no_item st) refl

  pub or_none : (ps : PatternTrees) → None ≡ least_broken node_rules s (node_at at (Or ps) st (place t m) before)
  or_none ps = chain s (node_at at (Or ps) st (place t m) before) refl refl refl refl refl refl refl refl refl refl refl modeless (no_item st) refl

  pub literal_refused : (l : LitTree) → true ≡ is_refused l → Some 35 ≡ least_broken node_rules s (node_at at (Literal l) st (place t m) before)
  literal_refused l e =
      let n = node_at at (Literal l) st (place t m) before in
      let wrong : false ≡ has_wrong_type s n = rw (← e) refl in
      let out : false ≡ is_out_of_range s n = rw (← e) refl in
      chain s n refl refl wrong refl refl refl refl refl out refl refl modeless (no_item st) e

  pub literal_other : (l : LitTree) (fits outside : Bool) (r : Option ℕ) → false ≡ is_refused l → fits ≡ literal_fits l t (bottom_type t) →
      outside ≡ is_outside s.width (bottom_type t) l → r ≡ pick (not fits) 22 (pick outside 28 None) → r ≡ least_broken node_rules s (node_at at (Literal l) st (place t m) before)
  literal_other l fits outside r e f o h =
      let n = node_at at (Literal l) st (place t m) before in
      let wrong : not fits ≡ has_wrong_type s n = rw (f, ← e) refl in
      let out : outside ≡ is_out_of_range s n = rw (o, ← e) refl in
      h ∙ chain s n refl refl wrong refl refl refl refl refl out refl refl modeless (no_item st) e

  item_open : (low high : Option LitTree) (closed : Bool) → open_item st low high ≡ is_open_item s (node_at at (Range low high closed) st (place t m) before)
  item_open None high closed = refl
  item_open (Some l) None closed = refl
  item_open (Some l) (Some h) closed = refl

  pub range_refused : (low high : Option LitTree) (closed : Bool) (r : Option ℕ) → true ≡ some_end_refused low high → r ≡ pick (open_item st low high) 33 (Some 35) →
      r ≡ least_broken node_rules s (node_at at (Range low high closed) st (place t m) before)
  range_refused low high closed r e h =
      let n = node_at at (Range low high closed) st (place t m) before in
      let wrong : false ≡ has_wrong_type s n = rw (← e) refl in
      let out : false ≡ is_out_of_range s n = rw (← e) refl in
      let empty : false ≡ is_empty_range s n = rw (← e) refl in
      h ∙ chain s n refl refl wrong refl refl refl refl refl out empty refl modeless (item_open low high closed) e

  pub range_other : (low high : Option LitTree) (closed : Bool) (r : Option ℕ) → false ≡ some_end_refused low high →
      r ≡ range_rules s.width (bottom_type t) low high closed (open_item st low high) → r ≡ least_broken node_rules s (node_at at (Range low high closed) st (place t m) before)
  range_other low high closed r e h =
      let n = node_at at (Range low high closed) st (place t m) before in
      let u = bottom_type t in
      let wrong : not (is_numeric u && (end_has_type low u && end_has_type high u)) ≡ has_wrong_type s n = rw (← e) refl in
      let out : (end_outside s.width u low || end_outside s.width u high) ≡ is_out_of_range s n = rw (← e) refl in
      let empty : is_empty_at s.width u low high closed ≡ is_empty_range s n = rw (← e) refl in
      h ∙ chain s n refl refl wrong refl refl refl refl refl out empty refl modeless (item_open low high closed) e

  pub name_rules : (name : List ℕ) (b20 b21 b22 b30 : Bool) (r : Option ℕ) → b20 ≡ name_is_twice s st name → b21 ≡ is_tuple_form (name_form s name) →
      b22 ≡ misses (found_if (is_path_name s name) (name_finds s.items name)) (bottom_type t) → b30 ≡ binds_twice s (node_at at (Name name) st (place t m) before) →
      r ≡ pick b20 20 (pick b21 21 (pick b22 22 (pick b30 30 None))) → r ≡ least_broken node_rules s (node_at at (Name name) st (place t m) before)
  name_rules name b20 b21 b22 b30 r e20 e21 e22 e30 h =
      h ∙ chain s (node_at at (Name name) st (place t m) before) e20 e21 e22 refl refl refl refl refl refl refl e30 modeless (no_item st) refl

  pub binding_rules : (name : List ℕ) (by_ref mutable : Bool) (sub : Option PatternTree) (b20 b21 b30 b32 : Bool) (r : Option ℕ) → b20 ≡ name_is_twice s st name → b21 ≡ is_taken_name s st name →
      b30 ≡ binds_twice s (node_at at (bind_shape name by_ref mutable sub) st (place t m) before) → b32 ≡ (not (is_free_edition s.edition) && (not (is_move m) && (by_ref || mutable))) →
      r ≡ pick b20 20 (pick b21 21 (pick b30 30 (pick b32 32 None))) → r ≡ least_broken node_rules s (node_at at (bind_shape name by_ref mutable sub) st (place t m) before)
  binding_rules name by_ref mutable None b20 b21 b30 b32 r e20 e21 e30 e32 h =
      h ∙ chain s (node_at at (Bind name by_ref mutable) st (place t m) before) e20 e21 refl refl refl refl refl refl refl refl e30 e32 (no_item st) refl
  binding_rules name by_ref mutable (Some p) b20 b21 b30 b32 r e20 e21 e30 e32 h =
      h ∙ chain s (node_at at (BindAs name by_ref mutable p) st (place t m) before) e20 e21 refl refl refl refl refl refl refl refl e30 e32 (no_item st) refl

  pub point_rules : (mutable : Bool) (p : PatternTree) (b22 b32 : Bool) (r : Option ℕ) → b22 ≡ not (is_point mutable t) → b32 ≡ (not (is_free_edition s.edition) && (not (is_move m) && true)) →
      r ≡ pick b22 22 (pick b32 32 None) → r ≡ least_broken node_rules s (node_at at (Point mutable p) st (place t m) before)
  point_rules mutable p b22 b32 r e22 e32 h =
      h ∙ chain s (node_at at (Point mutable p) st (place t m) before) refl refl e22 refl refl refl refl refl refl refl refl e32 (no_item st) refl

  pub tuple_wrong : (ps : PatternTrees) → false ≡ is_tuple (bottom_type t) → Some 22 ≡ least_broken node_rules s (node_at at (Tuple ps) st (place t m) before)
  tuple_wrong ps e =
      let n = node_at at (Tuple ps) st (place t m) before in
      let wrong : true ≡ has_wrong_type s n = rw (← e) refl in
      chain s n refl refl wrong refl refl refl refl refl refl refl refl modeless (no_item st) refl

  pub tuple_rules : (ps : PatternTrees) (b23 b27 : Bool) (r : Option ℕ) → true ≡ is_tuple (bottom_type t) → b23 ≡ has_other_count ps (rust_arity (program s) SingleCtor (bottom_type t)) →
      b27 ≡ has_rests ps → r ≡ pick b23 23 (pick b27 27 None) → r ≡ least_broken node_rules s (node_at at (Tuple ps) st (place t m) before)
  tuple_rules ps b23 b27 r e e23 e27 h =
      let n = node_at at (Tuple ps) st (place t m) before in
      let fine : false ≡ has_wrong_type s n = rw (← e) refl in
      let count : b23 ≡ has_wrong_count s n = rw (e23, ← e) refl in
      h ∙ chain s n refl refl fine count refl refl refl e27 refl refl refl modeless (no_item st) refl

  pub slice_wrong : (ps : PatternTrees) → false ≡ is_row (bottom_type t) → Some 22 ≡ least_broken node_rules s (node_at at (Slice ps) st (place t m) before)
  slice_wrong ps e =
      let n = node_at at (Slice ps) st (place t m) before in
      let wrong : true ≡ has_wrong_type s n = rw (← e) refl in
      chain s n refl refl wrong refl refl refl refl refl refl refl refl modeless (no_item st) refl

  pub slice_rules : (ps : PatternTrees) (u : MType) (b27 : Bool) (r : Option ℕ) → bottom_type t ≡ SliceType u → b27 ≡ has_rests ps → r ≡ pick b27 27 None →
      r ≡ least_broken node_rules s (node_at at (Slice ps) st (place t m) before)
  slice_rules ps u b27 r e e27 h =
      let n = node_at at (Slice ps) st (place t m) before in
      let fine : false ≡ has_wrong_type s n = rw e refl in
      let count : false ≡ has_wrong_count s n = rw e refl in
      h ∙ chain s n refl refl fine count refl refl refl e27 refl refl refl modeless (no_item st) refl

  pub array_rules : (ps : PatternTrees) (u : MType) (len : ℕ) (b23 b27 : Bool) (r : Option ℕ) → bottom_type t ≡ ArrayType u len → b23 ≡ has_other_count ps len → b27 ≡ has_rests ps →
      r ≡ pick b23 23 (pick b27 27 None) → r ≡ least_broken node_rules s (node_at at (Slice ps) st (place t m) before)
  array_rules ps u len b23 b27 r e e23 e27 h =
      let n = node_at at (Slice ps) st (place t m) before in
      let fine : false ≡ has_wrong_type s n = rw e refl in
      let count : b23 ≡ has_wrong_count s n = rw (e, e23) refl in
      h ∙ chain s n refl refl fine count refl refl refl e27 refl refl refl modeless (no_item st) refl

  found_short : (b : Bool) (f : FoundTree) → true ≡ is_found (found_if b f) → true ≡ b
  found_short true f e = refl
  found_short false f e = e

  and_true : (b : Bool) → b ≡ (b && true)
  and_true true = refl
  and_true false = refl

  and_false : (b : Bool) → false ≡ (b && false)
  and_false true = refl
  and_false false = refl

  either : (b : Bool) → pick b 20 (Some 35) ≡ pick b 20 (pick (not b) 35 None)
  either true = refl
  either false = refl

  either_after : (b c : Bool) (rule : ℕ) → pick b 20 (pick c rule (Some 35)) ≡ pick b 20 (pick c rule (pick (not b) 35 None))
  either_after true c rule = refl
  either_after false c rule = refl

  -- what a path finds
  abbrev path_found : PathTree → FoundTree
  path_found path = found_if (is_short path) (path_finds s.items path)

  pub path_unfound : (path : PathTree) (r : Option ℕ) → false ≡ is_found (path_found path) → r ≡ pick (is_short path) 20 (Some 35) →
      r ≡ least_broken node_rules s (node_at at (Path path) st (place t m) before)
  path_unfound path r e h =
      let n = node_at at (Path path) st (place t m) before in
      let unknown : is_short path ≡ is_unknown_name s n = rw (← e) (and_true (is_short path)) in
      let fine : false ≡ has_wrong_type s n = rw (← e) refl in
      let count : false ≡ has_wrong_count s n = rw (← e) refl in
      h ∙ (either (is_short path) ∙ chain s n unknown refl fine count refl refl refl refl refl refl refl modeless (no_item st) refl)

  pub path_missed : (path : PathTree) → true ≡ is_found (path_found path) → false ≡ meets (path_found path) (bottom_type t) →
      Some 22 ≡ least_broken node_rules s (node_at at (Path path) st (place t m) before)
  path_missed path e f =
      let n = node_at at (Path path) st (place t m) before in
      let known : false ≡ is_unknown_name s n = rw (← e) (and_false (is_short path)) in
      let wrong : true ≡ has_wrong_type s n = rw (← e, ← f) refl in
      chain s n known refl wrong refl refl refl refl refl refl refl refl modeless (no_item st) refl

  pub path_rules : (path : PathTree) (b23 : Bool) (r : Option ℕ) → true ≡ is_found (path_found path) → true ≡ meets (path_found path) (bottom_type t) →
      b23 ≡ not (is_unit_form (found_form s.items (path_found path))) → r ≡ pick b23 23 None → r ≡ least_broken node_rules s (node_at at (Path path) st (place t m) before)
  path_rules path b23 r e f e23 h =
      let n = node_at at (Path path) st (place t m) before in
      let known : false ≡ is_unknown_name s n = rw (← e) (and_false (is_short path)) in
      let fine : false ≡ has_wrong_type s n = rw (← e, ← f) refl in
      let count : b23 ≡ has_wrong_count s n = rw (← e) e23 in
      let read : false ≡ is_unsupported_pattern s n = ap not (found_short (is_short path) (path_finds s.items path) e) in
      h ∙ chain s n known refl fine count refl refl refl refl refl refl refl modeless (no_item st) read

  pub form_unfound : (path : PathTree) (ps : PatternTrees) (b27 : Bool) (r : Option ℕ) → false ≡ is_found (path_found path) → b27 ≡ has_rests ps →
      r ≡ pick (is_short path) 20 (pick b27 27 (Some 35)) → r ≡ least_broken node_rules s (node_at at (TupleForm path ps) st (place t m) before)
  form_unfound path ps b27 r e e27 h =
      let n = node_at at (TupleForm path ps) st (place t m) before in
      let unknown : is_short path ≡ is_unknown_name s n = rw (← e) (and_true (is_short path)) in
      let fine : false ≡ has_wrong_type s n = rw (← e) refl in
      let count : false ≡ has_wrong_count s n = rw (← e) refl in
      h ∙ (either_after (is_short path) b27 27 ∙ chain s n unknown refl fine count refl refl refl e27 refl refl refl modeless (no_item st) refl)

  pub form_missed : (path : PathTree) (ps : PatternTrees) → true ≡ is_found (path_found path) → false ≡ meets (path_found path) (bottom_type t) →
      Some 22 ≡ least_broken node_rules s (node_at at (TupleForm path ps) st (place t m) before)
  form_missed path ps e f =
      let n = node_at at (TupleForm path ps) st (place t m) before in
      let known : false ≡ is_unknown_name s n = rw (← e) (and_false (is_short path)) in
      let wrong : true ≡ has_wrong_type s n = rw (← e, ← f) refl in
      chain s n known refl wrong refl refl refl refl refl refl refl refl modeless (no_item st) refl

  pub form_rules : (path : PathTree) (ps : PatternTrees) (b23 b27 : Bool) (r : Option ℕ) → true ≡ is_found (path_found path) → true ≡ meets (path_found path) (bottom_type t) →
      b23 ≡ misfits_form s (path_found path) ps → b27 ≡ has_rests ps → r ≡ pick b23 23 (pick b27 27 None) →
      r ≡ least_broken node_rules s (node_at at (TupleForm path ps) st (place t m) before)
  form_rules path ps b23 b27 r e f e23 e27 h =
      let n = node_at at (TupleForm path ps) st (place t m) before in
      let known : false ≡ is_unknown_name s n = rw (← e) (and_false (is_short path)) in
      let fine : false ≡ has_wrong_type s n = rw (← e, ← f) refl in
      let read : false ≡ is_unsupported_pattern s n = ap not (found_short (is_short path) (path_finds s.items path) e) in
      h ∙ chain s n known refl fine e23 refl refl refl e27 refl refl refl modeless (no_item st) read

  pub brace_unfound : (path : PathTree) (fs : FieldTrees) (rest : Bool) (b25 : Bool) (r : Option ℕ) → false ≡ is_found (path_found path) → b25 ≡ repeats bytes_eq [] (written_names fs) →
      r ≡ pick (is_short path) 20 (pick b25 25 (Some 35)) → r ≡ least_broken node_rules s (node_at at (Brace path fs rest) st (place t m) before)
  brace_unfound path fs rest b25 r e e25 h =
      let n = node_at at (Brace path fs rest) st (place t m) before in
      let unknown : is_short path ≡ is_unknown_name s n = rw (← e) (and_true (is_short path)) in
      let fine : false ≡ has_wrong_type s n = rw (← e) refl in
      let named : false ≡ names_no_field s n = rw (← e) refl in
      let all : false ≡ misses_field s n = rw (← e) refl in
      h ∙ (either_after (is_short path) b25 25 ∙ chain s n unknown refl fine refl named e25 all refl refl refl refl modeless (no_item st) refl)

  pub brace_missed : (path : PathTree) (fs : FieldTrees) (rest : Bool) → true ≡ is_found (path_found path) → false ≡ meets (path_found path) (bottom_type t) →
      Some 22 ≡ least_broken node_rules s (node_at at (Brace path fs rest) st (place t m) before)
  brace_missed path fs rest e f =
      let n = node_at at (Brace path fs rest) st (place t m) before in
      let known : false ≡ is_unknown_name s n = rw (← e) (and_false (is_short path)) in
      let wrong : true ≡ has_wrong_type s n = rw (← e, ← f) refl in
      chain s n known refl wrong refl refl refl refl refl refl refl refl modeless (no_item st) refl

  pub brace_rules : (path : PathTree) (fs : FieldTrees) (rest : Bool) (r : Option ℕ) → true ≡ is_found (path_found path) → true ≡ meets (path_found path) (bottom_type t) →
      r ≡ field_rules (field_names s.items (path_found path)) (written_names fs) rest → r ≡ least_broken node_rules s (node_at at (Brace path fs rest) st (place t m) before)
  brace_rules path fs rest r e f h =
      let n = node_at at (Brace path fs rest) st (place t m) before in
      let known : false ≡ is_unknown_name s n = rw (← e) (and_false (is_short path)) in
      let fine : false ≡ has_wrong_type s n = rw (← e, ← f) refl in
      let named : some_absent (written_names fs) (field_names s.items (path_found path)) ≡ names_no_field s n = rw (← e) refl in
      let all : (not rest && some_absent (field_names s.items (path_found path)) (written_names fs)) ≡ misses_field s n = rw (← e) refl in
      let read : false ≡ is_unsupported_pattern s n = ap not (found_short (is_short path) (path_finds s.items path) e) in
      h ∙ chain s n known refl fine refl named refl all refl refl refl refl modeless (no_item st) read
