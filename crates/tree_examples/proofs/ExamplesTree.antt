-- Worked examples: places, trees and what they mean; arena patterns and overlaps.
use Rattle.std.proofs.Common.{◌≡◌, ℕ, pos, Bool, true, false, List, [], ◌∷◌, map, length, Some, None, slice_get, refl, inl, arith}
use Rattle.match_model.specs.declared.Mode.TheVariants.{Move, Ref}
use Rattle.match_model.specs.Types.{MType, BoolType}
use Rattle.match_model.specs.Values.{MValue, Flag, Node, Point, Text, no_values}
use Rattle.match_model.specs.Numbers.{MRange, Free, At}
use Rattle.match_model.specs.Patterns.{MPat, SpanPat}
use Rattle.match_model.specs.Match.{ArmWays, arm_ways, alternative, no_alternative}
use Rattle.match_model.specs.Select.{Took, Missed, Short, tries_from}
use Rattle.match_model.specs.Places.{ThroughStep, FieldStep, FrontStep, BackStep, MiddleStep, part_at, position_at}
use Rattle.match_model.specs.Trees.{FlagCase, VariantCase, ElseCase, LengthCase, LongerCase, SpanCase, TextCase, case_has, MBind, MBranch, MNode, SwitchNode, AskNode, TakeNode, MissNode, successors, GoesOn, by_case, by_refusal, at_once, after, Means, looked_at, number_for, one_has}
use Rattle.match_model.specs.Overlaps.{Overlaps}
use Rattle.match_model.specs.Constructors.{LongerShape, NumbersCtor, RowCtor, WildCtor, OrCtor, PointCtor}
use Rattle.match_model.specs.ArenaPatterns.{WholePart, MDePat, de_pat, no_de_pats, de_pats_of, MDeArm}
use Rattle.match_model.specs.ArenaWays.{arena_ways, arena_arm, arena_alternatives}
use Rattle.match_model.specs.ArenaUnreachable.{in_reading_order}
use Rattle.match_model.specs.Unreachable.{Entry}
use Rattle.match_model.specs.Matrices.{MColumn, matrix_ways, first_rows, expand_rows}
use Rattle.match_model.specs.OfType.{type_at_place, case_is_of, node_is_of}
use Rattle.match_model.specs.RustTypes.{rust_context}
use Rattle.tree_examples.proofs.Small.{program, flag_pair, x_name, number, tuple, row, bound}

abbrev arm : MPat → ℕ → Bool → ArmWays
arm p at guarded = arm_ways (record { pat = p; at = at; guarded = guarded })

-- steps and positions: from the front from 0, from the back from 1
abbrev three : MValue
three = row (Flag true ∷ Flag false ∷ Flag true ∷ [])

pub front_and_back : (part_at (FrontStep 2 ∷ []) three ≡ Some (Flag true))
    × (part_at (BackStep 1 ∷ []) three ≡ Some (Flag true)) × (position_at (FrontStep 2 ∷ []) three ≡ position_at
    (BackStep 1 ∷ []) three)
front_and_back = (refl, refl, refl)

pub not_there : (part_at (BackStep 0 ∷ []) three ≡ None) × (part_at (BackStep 4 ∷ []) three ≡ None)
    × (part_at (FrontStep 3 ∷ []) three ≡ None) × (position_at (FieldStep 1 0 ∷ []) (Node 0 no_values) ≡ None)
not_there = (refl, refl, refl, refl)

pub middles : (part_at (MiddleStep 1 1 ∷ []) three ≡ Some (row (Flag false ∷ [])))
    × (part_at (MiddleStep 2 2 ∷ []) three ≡ None) × (part_at (MiddleStep 1 2 ∷ []) three ≡ Some (row []))
    × (position_at (MiddleStep 1 1 ∷ []) three ≡ None)
middles = (refl, refl, refl, refl)

pub through : (part_at (ThroughStep ∷ FieldStep 0 1 ∷ []) (Point false (tuple (Flag true ∷ number 5 ∷ []))) ≡ Some
    (number 5)) × (position_at (ThroughStep ∷ FieldStep 0 1 ∷ [])
    (Point false (tuple (Flag true ∷ number 5 ∷ []))) ≡ Some (0 ∷ 1 ∷ []))
through = (refl, refl)

-- which case has a part; an else has what no other case has
pub cases : (case_has (LengthCase 3) three ≡ true) × (case_has (LongerCase 2 2) three ≡ false) × (case_has (LongerCase 1 1) three ≡ true) × (case_has (TextCase (97 ∷ [])) (Text (97 ∷ [])) ≡ true) × (case_has (SpanCase (record { low = At (pos 0); high = Free })) (number 7) ≡ true) × (case_has (VariantCase 1) (Node 0 no_values) ≡ false)
cases = (refl, refl, refl, refl, refl, refl)

abbrev true_or_else : ℕ → ℕ → List MBranch
true_or_else n m = record { case = FlagCase true; next = n } ∷ record { case = ElseCase; next = m } ∷ []

pub else_case : (number_for (Flag true) (true_or_else 1 2) ≡ Some 0)
    × (number_for (Flag false) (true_or_else 1 2) ≡ Some 1) ×
    (one_has (Flag false) (true_or_else 1 2) ≡ true) × (one_has (Flag false) (record {
      case = FlagCase true;
      next = 1;
    } ∷ []) ≡ false)
else_case = (refl, refl, refl, refl)

-- the tree of `(true, x) => .., (_, x) if g => ..`
abbrev x_there : List MBind
x_there = record { name = x_name; mode = Move; place = FieldStep 0 1 ∷ [] } ∷ []

abbrev small_tree : List MNode
small_tree =
    SwitchNode (FieldStep 0 0 ∷ []) (true_or_else 1 2) ∷ TakeNode 0 x_there ∷ AskNode 1 x_there 3 ∷ MissNode ∷ []

abbrev true_false : MValue
true_false = tuple (Flag true ∷ Flag false ∷ [])

abbrev false_false : MValue
false_false = tuple (Flag false ∷ Flag false ∷ [])

-- what it takes, and with which bindings
abbrev to_else : GoesOn small_tree false_false (record { node = 0; left = []; refused = [] })
    (record { node = 2; left = []; refused = [] })
to_else = by_case 0 [] [] (FieldStep 0 0 ∷ []) (true_or_else 1 2) (record { case = ElseCase; next = 2 }) refl refl

pub tree_takes : Means small_tree true_false []
    (record { asked = []; outcome = Took 0 (bound x_name Move (Flag false) ∷ []) })
tree_takes = record {
  asked_nodes = [];
  walk = record {
    last = record { node = 1; left = []; refused = [] };
    comes =
        after _ _ _ (by_case 0 [] [] (FieldStep 0 0 ∷ []) (true_or_else 1 2)
        (record { case = FlagCase true; next = 1 }) refl refl) (at_once _);
    ends = refl;
    asks = refl;
  };
  asks = refl;
}

-- it is short of an answer, missed where the guard refuses, or takes the arm whose guard does not
pub tree_short : Means small_tree false_false [] (record { asked = []; outcome = Short })
tree_short = record {
  asked_nodes = [];
  walk =
      record {
        last = record { node = 2; left = []; refused = [] };
        comes = after _ _ _ to_else
            (at_once _);
        ends = refl;
        asks = refl;
      };
  asks = refl;
}

pub tree_misses : Means small_tree false_false (false ∷ true ∷ [])
    (record { asked = record { arm = 1; bindings = bound x_name Move (Flag false) ∷ [] } ∷ []; outcome = Missed })
tree_misses = record {
  asked_nodes = 2 ∷ [];
  walk = record {
    last = record { node = 3; left = true ∷ []; refused = 2 ∷ [] };
    comes =
        after _ _ _ (by_case 0 (false ∷ true ∷ []) [] (FieldStep 0 0 ∷ []) (true_or_else 1 2)
        (record { case = ElseCase; next = 2 }) refl refl)
        (after _ _ _ (by_refusal 2 (true ∷ []) [] 1 x_there 3 refl) (at_once _));
    ends = refl;
    asks = refl;
  };
  asks = refl;
}

pub tree_asks : Means small_tree false_false (true ∷ [])
    (record {
      asked = record { arm = 1; bindings = bound x_name Move (Flag false) ∷ [] } ∷ [];
      outcome = Took 1
          (bound x_name Move (Flag false) ∷ []);
    })
tree_asks = record {
  asked_nodes = 2 ∷ [];
  walk = record {
    last = record { node = 2; left = true ∷ []; refused = [] };
    comes =
        after _ _ _ (by_case 0 (true ∷ []) [] (FieldStep 0 0 ∷ []) (true_or_else 1 2)
        (record { case = ElseCase; next = 2 }) refl refl) (at_once _);
    ends = refl;
    asks = refl;
  };
  asks = refl;
}

-- where each node goes on
pub goes_on : map successors small_tree ≡ (1 ∷ 2 ∷ []) ∷ [] ∷ (3 ∷ []) ∷ [] ∷ []
goes_on = refl

-- the tree of `[true, .., true] => .., _ => ..` on `[bool; 3]` looks at two positions of a value of the type
abbrev array_tree : List MNode
array_tree =
    SwitchNode (FrontStep 0 ∷ []) (true_or_else 1 3) ∷ SwitchNode (BackStep 1 ∷ [])
    (true_or_else 2 3) ∷ TakeNode 0 [] ∷ TakeNode 1 [] ∷ []

pub two_positions : (looked_at three (slice_get array_tree 0) ≡ Some (0 ∷ []))
    × (looked_at three (slice_get array_tree 1) ≡ Some (2 ∷ []))
two_positions = (refl, refl)

-- places and cases of a type
pub of_pair : (type_at_place (rust_context program) flag_pair (FieldStep 0 1 ∷ []) ≡ Some BoolType)
    × (type_at_place (rust_context program) flag_pair (FieldStep 0 2 ∷ []) ≡ None)
    × (type_at_place (rust_context program) flag_pair (FieldStep 1 0 ∷ []) ≡ None)
    × (case_is_of (rust_context program) BoolType (VariantCase 0) ≡ false)
    × (node_is_of (rust_context program) flag_pair (SwitchNode (FieldStep 0 0 ∷ []) (true_or_else 1 2)) ≡ true)
of_pair = (refl, refl, refl, refl, refl)

-- `&[x, .., 0..=9]` in an arena: the dereference is written out; the range is met at the last item's own number
abbrev digits : MRange
digits = record { low = At (pos 0); high = At (pos 9) }

abbrev row_pat : MDePat MType
row_pat =
    de_pat PointCtor BoolType 1 0 (de_pats_of (de_pat (RowCtor (LongerShape 1 1)) BoolType 2 0
    (de_pats_of (de_pat WildCtor BoolType 3 1 no_de_pats
    (record { name = x_name; mode = Ref; part = WholePart } ∷ []) ∷ de_pat
    (NumbersCtor digits) BoolType 4 8 no_de_pats [] ∷ [])) [] ∷ [])) []

pub arena_row : arena_ways row_pat (Point false
    (row (number 1 ∷ number 2 ∷ number 3 ∷ []))) ≡ record {
      trace = [];
      bindings = bound x_name Ref
          (number 1) ∷ [];
      spans = record { at = 8; position = 0 ∷ 2 ∷ []; range = digits } ∷ [];
    } ∷ []
arena_row = refl

-- an or-pattern of two adds its choices' uids; one of a single sub adds nothing, and has no alternative
abbrev zero_pat : ℕ → ℕ → MDePat MType
zero_pat uid at = de_pat (NumbersCtor (record { low = At (pos 0); high = At (pos 0) })) BoolType uid at no_de_pats []

pub arena_or : arena_ways (de_pat OrCtor BoolType 1 2 (de_pats_of (zero_pat 2 2 ∷ zero_pat 3 6 ∷ [])) [])
    (number 0) ≡ record { trace = 2 ∷ []; bindings = []; spans = [] } ∷ record
    { trace = 3 ∷ []; bindings = []; spans = [] } ∷ []
arena_or = refl

pub arena_lone : (arena_ways (de_pat OrCtor BoolType 1 2 (de_pats_of (zero_pat 2 3 ∷ [])) [])
    (number 0) ≡ record { trace = []; bindings = []; spans = [] } ∷ [])
    × (arena_alternatives (de_pat OrCtor BoolType 1 2 (de_pats_of (zero_pat 2 3 ∷ [])) []) ≡ no_alternative)
    × (arena_alternatives (de_pat OrCtor BoolType 1 2 (de_pats_of (zero_pat 2 2 ∷ zero_pat 3 6 ∷ [])) []) ≡ alternative
    2 2 no_alternative (alternative 3 6 no_alternative no_alternative))
arena_lone = (refl, refl, refl)

-- reading order is by offset, and stable
abbrev entry : ℕ → ℕ → Entry
entry id at = record { arm = 0; id = id; at = at; whole = false }

pub by_offset : in_reading_order
    (entry 1 9 ∷ entry 2 4 ∷ entry 3 9 ∷ entry 4 4 ∷ []) ≡ entry 2 4 ∷ entry 4 4 ∷ entry 1 9 ∷ entry 3 9 ∷ []
by_offset = refl

-- the first matrix has the arms' ways
abbrev or_arm : MDeArm MType
or_arm =
    record {
      pat = de_pat OrCtor BoolType 1 2 (de_pats_of
          (zero_pat 2 2 ∷ de_pat WildCtor BoolType 3 6 no_de_pats [] ∷ [])) [];
      guarded = true;
    }

pub first_matrix : matrix_ways
    (record { columns = record { place = []; type = BoolType; sure = true } ∷ []; rows = first_rows 0 (or_arm ∷ []) })
    (number 0) ≡ tries_from 0 (arena_arm or_arm ∷ []) (number 0)
first_matrix = refl

-- `x @ (0 | (0 | _))` in place of its one row: each row has the uids of its alternatives, and the name caught; the rows have
-- the ways of the first one
abbrev nested_arm : MDeArm MType
nested_arm = record {
  pat =
      de_pat OrCtor BoolType 1 2 (de_pats_of (zero_pat 2 2 ∷ de_pat OrCtor BoolType 3 6
      (de_pats_of (zero_pat 4 6 ∷ de_pat WildCtor BoolType 5 10 no_de_pats [] ∷ [])) [] ∷ []))
      (record { name = x_name; mode = Move; part = WholePart } ∷ []);
  guarded = true;
}

abbrev nested_columns : List (MColumn MType)
nested_columns = record { place = []; type = BoolType; sure = true } ∷ []

pub nested_rows : map (λ r. r.chosen) (expand_rows []
    (first_rows 0 (nested_arm ∷ []))) ≡ (2 ∷ []) ∷ (3 ∷ 4 ∷ []) ∷ (3 ∷ 5 ∷ []) ∷ []
nested_rows = refl

pub nested_ways : (matrix_ways
    (record { columns = nested_columns; rows = expand_rows [] (first_rows 0 (nested_arm ∷ [])) })
    (number 0) ≡ matrix_ways (record { columns = nested_columns; rows = first_rows 0 (nested_arm ∷ []) }) (number 0))
    × (length (matrix_ways (record { columns = nested_columns; rows = first_rows 0 (nested_arm ∷ []) }) (number 0)) ≡ 3)
nested_ways = (refl, refl)

-- `0..=5 => .., 5..=9 => ..` overlap at 5
abbrev low_half : MRange
low_half = record { low = At (pos 0); high = At (pos 5) }

abbrev high_half : MRange
high_half = record { low = At (pos 5); high = At (pos 9) }

pub halves_overlap : Overlaps (λ v. v ≡ number 5) (arm (SpanPat 10 low_half) 10 false ∷ arm
    (SpanPat 30 high_half) 30 true ∷ []) 10 30 (pos 5)
halves_overlap = (
  number 5,
  refl,
  record {
    first_index = 0;
    second_index = 1;
    first_try =
        record {
          arm = 0;
          guarded = false;
          way = record
              { trace = []; bindings = []; spans = record { at = 10; position = []; range = low_half } ∷ [] };
        };
    second_try =
        record {
          arm = 1;
          guarded = true;
          way = record
              { trace = []; bindings = []; spans = record { at = 30; position = []; range = high_half } ∷ [] };
        };
    first_span = record { at = 10; position = []; range = low_half };
    second_span = record { at = 30; position = []; range = high_half };
    different = λ e. omega (arith, e);
    first_there = refl;
    second_there = refl;
    first_met = (0, omega arith, refl);
    second_met = (0, omega arith, refl);
    first_at = refl;
    second_at = refl;
    ordered = omega arith;
    same_position = refl;
    is_number = refl;
    meet = inl (refl, refl);
  },
)
