-- The pattern of an arm has as many levels and parts as its witness, wherever it stands.
use Rattle.std.proofs.Common.{◌≡◌, ℕ, zero, suc, ◌+◌, Bool, true, false, ◌&&◌, ◌||◌, Option, Some, None, refl}
use Rattle.std.proofs.Common.{ap, ◌∙◌, arith, List}
use Rattle.std.specs.Prelude.{nat_le}
use Rattle.std.proofs.lemmas.Bool.Decides.{nat_tests}
use Rattle.decl_syntax.specs.Patterns.{LitTree, PatternTree, Shape, PatternTrees, none, more, FieldTrees, no_field}
use Rattle.decl_syntax.specs.Patterns.{and_field, fits, fits_within, all_fit}
use Rattle.decl_syntax.specs.Patterns as patterns
use Rattle.decl_syntax.specs.Widths.{most_parts, are_many, pattern_count, pattern_is_wide, shape_is_wide}
use Rattle.decl_syntax.specs.Widths.{some_pattern_is_wide, some_field_is_wide}
use Rattle.decl_syntax.specs.Widths as widths
use Rattle.match_model.specs.Numbers.{MEnd, Free, At, MRange, has_one_number}
use Rattle.value_syntax.proofs.LexedNames.{and_left, and_right}
use Rattle.witness_text.specs.Arms.{is_one_char}
use Rattle.witness_text.specs.Texts.{text_of}
use Rattle.witness_text.specs.Trees.{NameTree, PlainName, VariantName, WitnessTree, Anything, Undeclared, OfFlag}
use Rattle.witness_text.specs.Trees.{OfInts}
use Rattle.witness_text.specs.Trees.{OfChars, OfText, OfOthers, OfTuple, OfUnitForm, OfTupleForm, OfBraceForm, OfPoint}
use Rattle.witness_text.specs.Trees.{OfRow, WitnessTrees, no_trees, more_trees, no_fields, more_fields}
use Rattle.witness_text.specs.Trees as trees
use Rattle.arm_maker.specs.Sizes.{tree_count, rest_count, rest_fits, range_fits, point_fits, arm_fits, parts_fit}
use Rattle.arm_maker.specs.Sizes as sizes
use Rattle.arm_laws.specs.Patterns.{range_shape, unit_shape, and_more, unplaced, rest_shapes, one_number, ints_shape}
use Rattle.arm_laws.specs.Patterns.{range_written, chars_shape, char_end, end_literal, point_shape, arm_shape}
use Rattle.arm_laws.specs.Patterns.{arm_shapes}
use Rattle.arm_laws.specs.Patterns.{arm_fields, without_places, shape_without, all_without, fields_without}

-- ---- wherever it stands

mutual
  pub same_fits : (p : PatternTree) (n : ℕ) → fits (without_places p) n ≡ fits p n
  same_fits (patterns.At from shape) zero = refl
  same_fits (patterns.At from shape) (suc n) = same_within shape n

  same_within : (shape : Shape) (n : ℕ) → fits_within (shape_without shape) n ≡ fits_within shape n
  same_within (patterns.BindAs name by_ref mutable p) n = same_fits p n
  same_within (patterns.TupleForm path ps) n = same_all ps n
  same_within (patterns.Brace path fs rest) n = same_fields fs n
  same_within (patterns.Tuple ps) n = same_all ps n
  same_within (patterns.Group p) n = same_fits p n
  same_within (patterns.Slice ps) n = same_all ps n
  same_within (patterns.Point mutable p) n = same_fits p n
  same_within (patterns.Or ps) n = same_all ps n
  same_within _ n = refl

  same_all : (ps : PatternTrees) (n : ℕ) → all_fit (all_without ps) n ≡ all_fit ps n
  same_all none n = refl
  same_all (more p ps) n = rw (same_fits p n, same_all ps n) refl

  same_fields : (fs : FieldTrees) (n : ℕ) → patterns.fields_fit (fields_without fs) n ≡ patterns.fields_fit fs n
  same_fields no_field n = refl
  same_fields (and_field name short attrs p fs) n = rw (same_fits p n, same_fields fs n) refl

same_count : (ps : PatternTrees) → pattern_count (all_without ps) ≡ pattern_count ps
same_count none = refl
same_count (more p ps) = ap suc (same_count ps)

same_field_count : (fs : FieldTrees) → widths.field_count (fields_without fs) ≡ widths.field_count fs
same_field_count no_field = refl
same_field_count (and_field name short attrs p fs) = ap suc (same_field_count fs)

mutual
  pub same_wide : (p : PatternTree) → pattern_is_wide (without_places p) ≡ pattern_is_wide p
  same_wide (patterns.At from shape) = same_shape shape

  same_shape : (shape : Shape) → shape_is_wide (shape_without shape) ≡ shape_is_wide shape
  same_shape (patterns.BindAs name by_ref mutable p) = same_wide p
  same_shape (patterns.TupleForm path ps) = rw (same_count ps, same_some ps) refl
  same_shape (patterns.Brace path fs rest) = rw (same_field_count fs, same_some_field fs) refl
  same_shape (patterns.Tuple ps) = rw (same_count ps, same_some ps) refl
  same_shape (patterns.Group p) = same_wide p
  same_shape (patterns.Slice ps) = rw (same_count ps, same_some ps) refl
  same_shape (patterns.Point mutable p) = same_wide p
  same_shape (patterns.Or ps) = same_some ps
  same_shape _ = refl

  same_some : (ps : PatternTrees) → some_pattern_is_wide (all_without ps) ≡ some_pattern_is_wide ps
  same_some none = refl
  same_some (more p ps) = rw (same_wide p, same_some ps) refl

  same_some_field : (fs : FieldTrees) → some_field_is_wide (fields_without fs) ≡ some_field_is_wide fs
  same_some_field no_field = refl
  same_some_field (and_field name short attrs p fs) = rw (same_wide p, same_some_field fs) refl

-- ---- levels

pub no_levels : (w : WitnessTree) → arm_fits zero w ≡ false
no_levels Anything = refl
no_levels _ = refl

range_within : (low high : Option LitTree) (n : ℕ) → fits_within (range_shape low high) n ≡ true
range_within None None n = refl
range_within (Some a) None n = refl
range_within None (Some b) n = refl
range_within (Some a) (Some b) n = refl

ints_within : (one : Bool) (r : MRange) (n : ℕ) → range_fits n one ≡ true → fits_within (ints_shape one r) n ≡ true
ints_within true r n e = by_end r.low
  where
    by_end : (low : MEnd) → fits_within (one_number low) n ≡ true
    by_end Free = refl
    by_end (At z) = refl
ints_within false r zero e = absurd cc
ints_within false r (suc n) e = range_within (end_literal r.low) (end_literal r.high) n

chars_within : (one : Bool) (low high : Option ℕ) (n : ℕ) → is_one_char low high ≡ one → range_fits n one ≡ true
    → fits_within (chars_shape one low high) n ≡ true
chars_within true None high n f e = absurd cc
chars_within true (Some c) high n f e = refl
chars_within false None high zero f e = absurd cc
chars_within false (Some c) high zero f e = absurd cc
chars_within false None high (suc n) f e = range_within None (char_end high) n
chars_within false (Some c) high (suc n) f e = range_within (char_end (Some c)) (char_end high) n

unit_within : (name : NameTree) (n : ℕ) → fits_within (unit_shape name) n ≡ true
unit_within (PlainName name) n = refl
unit_within (VariantName owner name) n = refl

both_true : (a b : Bool) → a ≡ true → b ≡ true → (a && b) ≡ true
both_true a b e f = rw (e, f) refl

rest_all : (longer : Bool) (n : ℕ) (ps : PatternTrees) → rest_fits n longer ≡ true → all_fit ps n ≡ true
    → all_fit (and_more (rest_shapes longer) ps) n ≡ true
rest_all false n ps e f = f
rest_all true zero ps e f = absurd cc
rest_all true (suc n) ps e f = f

all_behind : (ps qs : PatternTrees) (n : ℕ) → all_fit ps n ≡ true → all_fit qs n ≡ true
    → all_fit (and_more ps qs) n ≡ true
all_behind none qs n e f = f
all_behind (more p ps) qs n e f = both_true (fits p n) (all_fit (and_more ps qs) n)
    (and_left (fits p n) (all_fit ps n) e) (all_behind ps qs n (and_right (fits p n) (all_fit ps n) e) f)

-- what holds one level down holds of the pattern
at_levels : (w : WitnessTree) (shape : Shape)
    → ((m : ℕ) → arm_fits (suc m) w ≡ true → fits_within shape m ≡ true) → (n : ℕ) → arm_fits n w ≡ true
    → fits (unplaced shape) n ≡ true
at_levels w shape f zero e = let none_left = no_levels w in absurd cc
at_levels w shape f (suc m) e = f m e

point_within : (mutable : Bool) (literal : Option (List ℕ)) (shape : Shape) (below : Bool) (n : ℕ)
    → (below ≡ true → fits (unplaced shape) n ≡ true) → point_fits mutable literal below ≡ true
    → fits_within (point_shape mutable literal shape) n ≡ true
point_within true literal shape below n f e = f e
point_within false None shape below n f e = f e
point_within false (Some t) shape below n f e = refl

mutual
  arm_within : (w : WitnessTree) (n : ℕ) → arm_fits (suc n) w ≡ true → fits_within (arm_shape w) n ≡ true
  arm_within Anything n e = refl
  arm_within Undeclared n e = refl
  arm_within (OfFlag b) n e = refl
  arm_within (OfInts kind r) n e = ints_within (has_one_number r) (range_written kind r) n e
  arm_within (OfChars low high) n e = chars_within (is_one_char low high) low high n refl e
  arm_within (OfText t) n e = refl
  arm_within (OfOthers ts) n e = refl
  arm_within (OfTuple ws) n e = arms_within ws n (and_right (nat_le (tree_count ws) most_parts) (parts_fit n ws) e)
  arm_within (OfUnitForm name) n e = unit_within name n
  arm_within (OfTupleForm name ws) n e =
      arms_within ws n (and_right (nat_le (tree_count ws) most_parts) (parts_fit n ws) e)
  arm_within (OfBraceForm name fs) n e =
      fields_within fs n (and_right (nat_le (sizes.field_count fs) most_parts) (sizes.fields_fit n fs) e)
  arm_within (OfPoint mutable w) n e = point_within mutable (text_of w) (arm_shape w) (arm_fits n w) n
      (at_levels w (arm_shape w) (λ m f. arm_within w m f) n) e
  arm_within (OfRow front longer back) n e =
      let f = and_right (nat_le (tree_count front + (rest_count longer + tree_count back)) most_parts)
      (rest_fits n longer && (parts_fit n front && parts_fit n back)) e in
      let g = and_right (rest_fits n longer) (parts_fit n front && parts_fit n back) f in
      let last = rest_all longer n (arm_shapes back)
      (and_left (rest_fits n longer) (parts_fit n front && parts_fit n back) f)
      (arms_within back n (and_right (parts_fit n front) (parts_fit n back) g)) in
      all_behind (arm_shapes front) (and_more (rest_shapes longer) (arm_shapes back)) n
      (arms_within front n (and_left (parts_fit n front) (parts_fit n back) g)) last

  arms_within : (ws : WitnessTrees) (n : ℕ) → parts_fit n ws ≡ true → all_fit (arm_shapes ws) n ≡ true
  arms_within no_trees n e = refl
  arms_within (more_trees w ws) n e =
      both_true (fits (unplaced (arm_shape w)) n) (all_fit (arm_shapes ws) n)
      (at_levels w (arm_shape w) (λ m f. arm_within w m f) n (and_left (arm_fits n w) (parts_fit n ws) e))
      (arms_within ws n (and_right (arm_fits n w) (parts_fit n ws) e))

  fields_within : (fs : trees.FieldTrees) (n : ℕ) → sizes.fields_fit n fs ≡ true
      → patterns.fields_fit (arm_fields fs) n ≡ true
  fields_within no_fields n e = refl
  fields_within (more_fields name w fs) n e =
      both_true (fits (unplaced (arm_shape w)) n) (patterns.fields_fit (arm_fields fs) n)
      (at_levels w (arm_shape w) (λ m f. arm_within w m f) n (and_left (arm_fits n w) (sizes.fields_fit n fs) e))
      (fields_within fs n (and_right (arm_fits n w) (sizes.fields_fit n fs) e))

-- the pattern of an arm has at most as many levels as are allowed for its witness
pub pattern_fits : (w : WitnessTree) (n : ℕ) → arm_fits n w ≡ true → fits (unplaced (arm_shape w)) n ≡ true
pattern_fits w n e = at_levels w (arm_shape w) (λ m f. arm_within w m f) n e

-- ---- parts

count_of : (ws : WitnessTrees) → pattern_count (arm_shapes ws) ≡ tree_count ws
count_of no_trees = refl
count_of (more_trees w ws) = ap suc (count_of ws)

field_count_of : (fs : trees.FieldTrees) → widths.field_count (arm_fields fs) ≡ sizes.field_count fs
field_count_of no_fields = refl
field_count_of (more_fields name w fs) = ap suc (field_count_of fs)

count_behind : (ps qs : PatternTrees) → pattern_count (and_more ps qs) ≡ pattern_count ps + pattern_count qs
count_behind none qs = omega arith
count_behind (more p ps) qs = let e = count_behind ps qs in omega (arith, e)

rest_counts : (longer : Bool) → pattern_count (rest_shapes longer) ≡ rest_count longer
rest_counts true = refl
rest_counts false = refl

row_count : (front : WitnessTrees) (longer : Bool) (back : WitnessTrees)
    → pattern_count (and_more (arm_shapes front) (and_more (rest_shapes longer) (arm_shapes back))) ≡ tree_count front +
    (rest_count longer + tree_count back)
row_count front longer back =
    count_behind (arm_shapes front) (and_more (rest_shapes longer) (arm_shapes back))
    ∙ rw (count_behind (rest_shapes longer) (arm_shapes back), count_of front, rest_counts longer, count_of back) refl

few : (n m : ℕ) → n ≡ m → nat_le m most_parts ≡ true → are_many n ≡ false
few n m e f = grind (arith, nat_tests)

neither : (a b : Bool) → a ≡ false → b ≡ false → (a || b) ≡ false
neither a b e f = rw (e, f) refl

some_behind : (ps qs : PatternTrees) → some_pattern_is_wide ps ≡ false → some_pattern_is_wide qs ≡ false
    → some_pattern_is_wide (and_more ps qs) ≡ false
some_behind none qs e f = f
some_behind (more p ps) qs e f = by_first (pattern_is_wide p) refl e (λ k. some_behind ps qs k f)
  where
    by_first : (b : Bool) → pattern_is_wide p ≡ b → (pattern_is_wide p || some_pattern_is_wide ps) ≡ false
        → (some_pattern_is_wide ps ≡ false → some_pattern_is_wide (and_more ps qs) ≡ false)
        → (pattern_is_wide p || some_pattern_is_wide (and_more ps qs)) ≡ false
    by_first true g h others = let k : true ≡ false = rw g at h in absurd cc
    by_first false g h others = let k : some_pattern_is_wide ps ≡ false = rw g at h in rw g (others k)

rest_narrow : (longer : Bool) → some_pattern_is_wide (rest_shapes longer) ≡ false
rest_narrow true = refl
rest_narrow false = refl

range_narrow : (low high : Option LitTree) → shape_is_wide (range_shape low high) ≡ false
range_narrow None None = refl
range_narrow (Some a) None = refl
range_narrow None (Some b) = refl
range_narrow (Some a) (Some b) = refl

ints_narrow : (one : Bool) (r : MRange) → shape_is_wide (ints_shape one r) ≡ false
ints_narrow true r = by_end r.low
  where
    by_end : (low : MEnd) → shape_is_wide (one_number low) ≡ false
    by_end Free = refl
    by_end (At z) = refl
ints_narrow false r = range_narrow (end_literal r.low) (end_literal r.high)

chars_narrow : (one : Bool) (low high : Option ℕ) → shape_is_wide (chars_shape one low high) ≡ false
chars_narrow true None high = range_narrow None (char_end high)
chars_narrow true (Some c) high = refl
chars_narrow false None high = range_narrow None (char_end high)
chars_narrow false (Some c) high = range_narrow (char_end (Some c)) (char_end high)

unit_narrow : (name : NameTree) → shape_is_wide (unit_shape name) ≡ false
unit_narrow (PlainName name) = refl
unit_narrow (VariantName owner name) = refl

below_narrow : (w : WitnessTree) (shape : Shape) → ((m : ℕ) → arm_fits (suc m) w ≡ true → shape_is_wide shape ≡ false)
    → (n : ℕ) → arm_fits n w ≡ true → shape_is_wide shape ≡ false
below_narrow w shape f zero e = let none_left = no_levels w in absurd cc
below_narrow w shape f (suc m) e = f m e

point_narrow : (mutable : Bool) (literal : Option (List ℕ)) (shape : Shape) (below : Bool)
    → (below ≡ true → shape_is_wide shape ≡ false) → point_fits mutable literal below ≡ true
    → shape_is_wide (point_shape mutable literal shape) ≡ false
point_narrow true literal shape below f e = f e
point_narrow false None shape below f e = f e
point_narrow false (Some t) shape below f e = refl

list_narrow : (ws : WitnessTrees) (n : ℕ) → (parts_fit n ws ≡ true → some_pattern_is_wide (arm_shapes ws) ≡ false)
    → (nat_le (tree_count ws) most_parts && parts_fit n ws) ≡ true
    → (are_many (pattern_count (arm_shapes ws)) || some_pattern_is_wide (arm_shapes ws)) ≡ false
list_narrow ws n f e =
    neither (are_many (pattern_count (arm_shapes ws))) (some_pattern_is_wide (arm_shapes ws))
    (few _ _ (count_of ws) (and_left (nat_le (tree_count ws) most_parts) (parts_fit n ws) e))
    (f (and_right (nat_le (tree_count ws) most_parts) (parts_fit n ws) e))

mutual
  arm_narrow : (w : WitnessTree) (n : ℕ) → arm_fits (suc n) w ≡ true → shape_is_wide (arm_shape w) ≡ false
  arm_narrow Anything n e = refl
  arm_narrow Undeclared n e = refl
  arm_narrow (OfFlag b) n e = refl
  arm_narrow (OfInts kind r) n e = ints_narrow (has_one_number r) (range_written kind r)
  arm_narrow (OfChars low high) n e = chars_narrow (is_one_char low high) low high
  arm_narrow (OfText t) n e = refl
  arm_narrow (OfOthers ts) n e = refl
  arm_narrow (OfTuple ws) n e = list_narrow ws n (λ f. some_narrow ws n f) e
  arm_narrow (OfUnitForm name) n e = unit_narrow name
  arm_narrow (OfTupleForm name ws) n e = list_narrow ws n (λ f. some_narrow ws n f) e
  arm_narrow (OfBraceForm name fs) n e =
      neither (are_many (widths.field_count (arm_fields fs))) (some_field_is_wide (arm_fields fs))
      (few _ _ (field_count_of fs) (and_left (nat_le (sizes.field_count fs) most_parts) (sizes.fields_fit n fs) e))
      (fields_narrow fs n (and_right (nat_le (sizes.field_count fs) most_parts) (sizes.fields_fit n fs) e))
  arm_narrow (OfPoint mutable w) n e = point_narrow mutable (text_of w) (arm_shape w) (arm_fits n w)
      (below_narrow w (arm_shape w) (λ m f. arm_narrow w m f) n) e
  arm_narrow (OfRow front longer back) n e =
      let counts = nat_le (tree_count front + (rest_count longer + tree_count back)) most_parts in
      let f = and_right counts (rest_fits n longer && (parts_fit n front && parts_fit n back)) e in
      let g = and_right (rest_fits n longer) (parts_fit n front && parts_fit n back) f in
      let last = some_behind (rest_shapes longer) (arm_shapes back) (rest_narrow longer)
      (some_narrow back n (and_right (parts_fit n front) (parts_fit n back) g)) in
      neither (are_many (pattern_count (and_more (arm_shapes front) (and_more (rest_shapes longer) (arm_shapes back)))))
      (some_pattern_is_wide (and_more (arm_shapes front) (and_more (rest_shapes longer) (arm_shapes back))))
      (few _ _ (row_count front longer back)
      (and_left counts (rest_fits n longer && (parts_fit n front && parts_fit n back)) e))
      (some_behind (arm_shapes front) (and_more (rest_shapes longer) (arm_shapes back))
      (some_narrow front n (and_left (parts_fit n front) (parts_fit n back) g)) last)

  some_narrow : (ws : WitnessTrees) (n : ℕ) → parts_fit n ws ≡ true → some_pattern_is_wide (arm_shapes ws) ≡ false
  some_narrow no_trees n e = refl
  some_narrow (more_trees w ws) n e =
      neither (pattern_is_wide (unplaced (arm_shape w))) (some_pattern_is_wide (arm_shapes ws))
      (below_narrow w (arm_shape w) (λ m f. arm_narrow w m f) n (and_left (arm_fits n w) (parts_fit n ws) e))
      (some_narrow ws n (and_right (arm_fits n w) (parts_fit n ws) e))

  fields_narrow : (fs : trees.FieldTrees) (n : ℕ) → sizes.fields_fit n fs ≡ true
      → some_field_is_wide (arm_fields fs) ≡ false
  fields_narrow no_fields n e = refl
  fields_narrow (more_fields name w fs) n e =
      neither (pattern_is_wide (unplaced (arm_shape w))) (some_field_is_wide (arm_fields fs))
      (below_narrow w (arm_shape w) (λ m f. arm_narrow w m f) n (and_left (arm_fits n w) (sizes.fields_fit n fs) e))
      (fields_narrow fs n (and_right (arm_fits n w) (sizes.fields_fit n fs) e))

-- no list of it is longer than the limits allow
pub pattern_narrow : (w : WitnessTree) (n : ℕ) → arm_fits n w ≡ true → pattern_is_wide (unplaced (arm_shape w)) ≡ false
pattern_narrow w n e = below_narrow w (arm_shape w) (λ m f. arm_narrow w m f) n e
