-- The patterns of tuples and rows: their nodes pass the tests where those of their parts do.
use Rattle.std.proofs.Common.{◌≡◌, ℕ, suc, ◌+◌, ◌-◌, Bool, true, false, not, ◌||◌, ◌&&◌, List, [], ◌∷◌, ◌++◌, length}
use Rattle.std.proofs.Common.{slice_get, Option, Some, None, refl, sym, ap, subst, ◌∙◌, nat_eq, arith}
use Rattle.std.specs.Prelude.{⊤, if◌then◌else◌, nat_le, nat_lt}
use Rattle.std.proofs.lemmas.Bool.Decides.{nat_tests}
use Rattle.match_model.specs.declared.Mode.TheVariants.{Move}
use Rattle.match_model.specs.Constructors.{MCtor, RowCtor, SingleCtor, covers}
use Rattle.match_model.specs.Numbers.{MEnd, Free, At, MRange, has_one_number}
use Rattle.match_model.specs.OfType.{has_ctor, witnesses_are_of}
use Rattle.match_model.specs.RustTypes.{rust_context, inner_type, type_or}
use Rattle.match_model.specs.Types.{MType, TupleType, SliceType, ArrayType, MTypes, types_list}
use Rattle.match_model.specs.Witness.{RowOf, MWitness, MWitnesses, no_witnesses, more_witnesses, witnesses_list}
use Rattle.match_model.specs.Witness.{slice_shape, back_is_allowed}
use Rattle.match_model.proofs.Basics.{both, nat_equal, nat_itself}
use Rattle.decl_syntax.specs.Patterns.{PatternTrees, none, more}
use Rattle.decl_syntax.specs.Patterns as patterns
use Rattle.decl_syntax.specs.Widths.{pattern_count}
use Rattle.pattern_rules.specs.NodeRules.{rest_count, has_other_count, has_rests}
use Rattle.pattern_rules.specs.Nodes.{Standing, AsItem, Elsewhere, is_rest, is_rest_shape, nodes, names_bound}
use Rattle.pattern_rules.specs.Nodes.{part_behind, part_nodes, item_nodes, slice_item_type, part_types}
use Rattle.pattern_rules.specs.Settings.{Setting, program, place, rest_type}
use Rattle.pattern_laws.proofs.FineNodes.{AllNodes}
use Rattle.witness_text.specs.Arms.{is_one_char}
use Rattle.witness_text.specs.Texts.{text_of}
use Rattle.witness_text.specs.Trees.{NameTree, PlainName, VariantName, WitnessTree, OfInts, OfChars, OfTuple}
use Rattle.witness_text.specs.Trees.{OfUnitForm, OfPoint, WitnessTrees, no_trees, more_trees, trees_of}
use Rattle.witness_names.specs.declared.paths.Paths.TheVariants.{Whole}
use Rattle.witness_names.specs.Named.{named_by, parts_by, items_by}
use Rattle.arm_maker.proofs.Typed.{IsOfType, AreParts}
use Rattle.arm_laws.specs.Patterns.{and_more, rest_shapes, unplaced, unit_shape, one_number, ints_shape}
use Rattle.arm_laws.specs.Patterns.{range_written, chars_shape, point_shape, arm_shape, arm_shapes}
use Rattle.arm_laws.proofs.FineTests.{PassesAll, all_append}
use Rattle.arm_laws.proofs.FineLeaves.{dots, tuple, slice}
use Rattle.arm_laws.proofs.FineNumbers.{AllPass}

-- ---- no pattern of a witness is `..`

one_no_rest : (e : MEnd) → is_rest_shape (one_number e) ≡ false
one_no_rest Free = refl
one_no_rest (At z) = refl

ints_no_rest : (one : Bool) (r : MRange) → is_rest_shape (ints_shape one r) ≡ false
ints_no_rest true r = one_no_rest r.low
ints_no_rest false r = refl

chars_no_rest : (one : Bool) (low high : Option ℕ) → is_rest_shape (chars_shape one low high) ≡ false
chars_no_rest true (Some c) high = refl
chars_no_rest true None high = refl
chars_no_rest false low high = refl

unit_no_rest : (name : NameTree) → is_rest_shape (unit_shape name) ≡ false
unit_no_rest (PlainName name) = refl
unit_no_rest (VariantName owner name) = refl

point_no_rest : (mutable : Bool) (o : Option (List ℕ)) (inner : patterns.Shape) →
    is_rest_shape (point_shape mutable o inner) ≡ false
point_no_rest true o inner = refl
point_no_rest false None inner = refl
point_no_rest false (Some t) inner = refl

pub no_rest : (w : WitnessTree) → is_rest (unplaced (arm_shape w)) ≡ false
no_rest (OfInts kind r) = ints_no_rest (has_one_number r) (range_written kind r)
no_rest (OfChars low high) = chars_no_rest (is_one_char low high) low high
no_rest (OfUnitForm name) = unit_no_rest name
no_rest (OfPoint mutable w) = point_no_rest mutable (text_of w) (arm_shape w)
no_rest w = refl

-- ---- counts

sum_of : (a b c d : ℕ) → a ≡ c → b ≡ d → a + b ≡ c + d
sum_of a b c d h k = omega (arith, h, k)

regroup : (a b c : ℕ) → a + (b + c) ≡ (a + b) + c
regroup a b c = omega arith

pub plus_none : (n : ℕ) → 0 + n ≡ n
plus_none n = omega arith

plus_suc : (a b : ℕ) → suc (a + b) ≡ suc a + b
plus_suc a b = omega arith

plus_one : (n : ℕ) → suc n ≡ 1 + n
plus_one n = omega arith

pub rests_none : (ws : WitnessTrees) → rest_count (arm_shapes ws) ≡ 0
rests_none no_trees = refl
rests_none (more_trees w ws) =
    ap (λ b. (if b then 1 else 0) + rest_count (arm_shapes ws)) (no_rest w)
    ∙ (plus_none (rest_count (arm_shapes ws)) ∙ rests_none ws)

pub trees_count : (ws : List WitnessTree) → pattern_count (arm_shapes (trees_of ws)) ≡ length ws
trees_count [] = refl
trees_count (w ∷ ws) = ap suc (trees_count ws)

rests_more : (ps qs : PatternTrees) → rest_count (and_more ps qs) ≡ rest_count ps + rest_count qs
rests_more none qs = sym (plus_none (rest_count qs))
rests_more (more p ps) qs =
    ap (λ n. (if is_rest p then 1 else 0) + n) (rests_more ps qs)
    ∙ regroup (if is_rest p then 1 else 0) (rest_count ps) (rest_count qs)

count_more : (ps qs : PatternTrees) → pattern_count (and_more ps qs) ≡ pattern_count ps + pattern_count qs
count_more none qs = sym (plus_none (pattern_count qs))
count_more (more p ps) qs = ap suc (count_more ps qs) ∙ plus_suc (pattern_count ps) (pattern_count qs)

-- the items of a row
abbrev row_patterns : (front : WitnessTrees) → (longer : Bool) → (back : WitnessTrees) → PatternTrees
row_patterns front longer back = and_more (arm_shapes front) (and_more (rest_shapes longer) (arm_shapes back))

-- how many of them are `..`
abbrev rests_in : Bool → ℕ
rests_in true = 1
rests_in false = 0

behind_rests : (longer : Bool) (back : WitnessTrees) →
    rest_count (and_more (rest_shapes longer) (arm_shapes back)) ≡ rests_in longer
behind_rests true back = ap (λ n. 1 + n) (rests_none back)
behind_rests false back = rests_none back

behind_count : (longer : Bool) (back : WitnessTrees) →
    pattern_count (and_more (rest_shapes longer) (arm_shapes back)) ≡ rests_in longer + pattern_count (arm_shapes back)
behind_count true back = plus_one (pattern_count (arm_shapes back))
behind_count false back = sym (plus_none (pattern_count (arm_shapes back)))

row_rests : (front : WitnessTrees) (longer : Bool) (back : WitnessTrees) →
    rest_count (row_patterns front longer back) ≡ rests_in longer
row_rests front longer back =
    rests_more (arm_shapes front) (and_more (rest_shapes longer) (arm_shapes back))
    ∙ (sum_of (rest_count (arm_shapes front)) (rest_count (and_more (rest_shapes longer) (arm_shapes back))) 0
    (rests_in longer) (rests_none front) (behind_rests longer back) ∙ plus_none (rests_in longer))

row_count : (front : WitnessTrees) (longer : Bool) (back : WitnessTrees) →
    pattern_count (row_patterns front longer back)
    ≡ pattern_count (arm_shapes front) + (rests_in longer + pattern_count (arm_shapes back))
row_count front longer back =
    count_more (arm_shapes front) (and_more (rest_shapes longer) (arm_shapes back))
    ∙ ap (λ n. pattern_count (arm_shapes front) + n) (behind_count longer back)

few : (longer : Bool) → nat_lt 1 (rests_in longer) ≡ false
few true = refl
few false = refl

-- the test of counts, by the number of rests
abbrev other_by : (rests count parts : ℕ) → Bool
other_by rests count parts = (nat_eq rests 0 && not (nat_eq count parts)) || (nat_eq rests 1 && nat_lt (suc parts)
    count)

same_number : (a b : ℕ) → a ≡ b → (not (nat_eq a b) || false) ≡ false
same_number a b e = ap (λ c. not (nat_eq a c) || false) (sym e) ∙ ap (λ c. not c || false) (nat_itself a)

not_more : (n c f b : ℕ) → c ≡ f + (1 + b) → nat_le (f + b) n ≡ true → nat_lt (suc n) c ≡ false
not_more n c f b e h = grind (arith, nat_tests)

pub exact_count : (ps : PatternTrees) (n : ℕ) → rest_count ps ≡ 0 → pattern_count ps ≡ n → has_other_count ps n ≡ false
exact_count ps n r c = ap (λ k. other_by k (pattern_count ps) n) r ∙ same_number (pattern_count ps) n c

row_fits : (longer : Bool) (f b n c : ℕ) → c ≡ f + (rests_in longer + b) → covers (slice_shape f longer b) n ≡ true →
    other_by (rests_in longer) c n ≡ false
row_fits true f b n c e h = not_more n c f b e h
row_fits false f b n c e h = same_number c n (e ∙ (ap (λ k. f + k) (plus_none b) ∙ nat_equal (f + b) n h))

pub no_rests : (ps : PatternTrees) → rest_count ps ≡ 0 → has_rests ps ≡ false
no_rests ps r = ap (nat_lt 1) r

module _ (s : Setting) where
  -- each node of the pattern of the witness passes, wherever it stands at the type by a move
  abbrev pub IsPassing : MType → MWitness → Type 0
  IsPassing t w = (st : Standing) (before : List (List ℕ)) →
      AllPass s st before t (unplaced (arm_shape (named_by Whole (program s) t w)))

  -- so do those of parts, each of its own type
  abbrev pub ArePassing : List MType → MWitnesses → Type 0
  ArePassing [] ws = ⊤
  ArePassing (t ∷ ts) no_witnesses = ⊤
  ArePassing (t ∷ ts) (more_witnesses w ws) = IsPassing t w × ArePassing ts ws

  -- and those of items, all of one type
  abbrev pub AllPassing : MType → MWitnesses → Type 0
  AllPassing t no_witnesses = ⊤
  AllPassing t (more_witnesses w ws) = IsPassing t w × AllPassing t ws

  pub parts_count : (ts : List MType) (ws : MWitnesses) → AreParts (program s) ts ws →
      length (parts_by Whole (program s) ts ws) ≡ length ts
  parts_count [] no_witnesses d = refl
  parts_count [] (more_witnesses w ws) d = absurd d
  parts_count (t ∷ ts) no_witnesses d = absurd d
  parts_count (t ∷ ts) (more_witnesses w ws) d = ap suc (parts_count ts ws d.1)

  items_count : (t : MType) (ws : MWitnesses) → length (items_by Whole (program s) t ws) ≡ length (witnesses_list ws)
  items_count t no_witnesses = refl
  items_count t (more_witnesses w ws) = ap suc (items_count t ws)

  -- ---- tuples, and tuple forms

  pub parts_pass : (types : ℕ → MType) (n i : ℕ) (u : MType) (ts : List MType) (ws : MWitnesses) →
      ((j : ℕ) → types (i + j) ≡ type_or u (slice_get ts j)) → ArePassing ts ws → (before : List (List ℕ)) →
      AllNodes (PassesAll s) (part_nodes s before types Move n i (arm_shapes (trees_of (parts_by Whole (program s)
      ts ws))))
  parts_pass types n i u [] no_witnesses same h before = tt
  parts_pass types n i u [] (more_witnesses w ws) same h before = tt
  parts_pass types n i u (t ∷ ts) no_witnesses same h before = tt
  parts_pass types n i u (t ∷ ts) (more_witnesses w ws) same h before =
      let tree = named_by Whole (program s) t w in
      let q = unplaced (arm_shape tree) in
      let qs = arm_shapes (trees_of (parts_by Whole (program s) ts ws)) in
      let here : i ≡ i + 0 = omega arith in
      let first : types i ≡ t = ap types here ∙ same 0 in
      let behind : part_behind n i q qs ≡ suc i = ap (λ b. if b then n - pattern_count qs else suc i) (no_rest tree) in
      all_append (PassesAll s) (nodes s Elsewhere before (place (types i) Move) q)
      (part_nodes s (before ++ names_bound s q) types Move n (part_behind n i q qs) qs)
      (subst (λ x. AllPass s Elsewhere before x q) (sym first) (h.0 Elsewhere before))
      (subst (λ k. AllNodes (PassesAll s) (part_nodes s (before ++ names_bound s q) types Move n k qs)) (sym behind)
      (parts_pass types n (suc i) u ts ws (shifted same) h.1 (before ++ names_bound s q)))
    where
      shifted : ((j : ℕ) → types (i + j) ≡ type_or u (slice_get (t ∷ ts) j)) → (j : ℕ) →
          types (suc i + j) ≡ type_or u (slice_get ts j)
      shifted same j = let next : suc i + j ≡ i + suc j = omega arith in ap types next ∙ same (suc j)

  pub tuple_pass : (types : MTypes) (ws : MWitnesses) → AreParts (program s) (types_list types) ws →
      ArePassing (types_list types) ws → (st : Standing) (before : List (List ℕ)) →
      AllPass s st before (TupleType types)
      (unplaced (arm_shape (OfTuple (trees_of (parts_by Whole (program s) (types_list types) ws)))))
  tuple_pass types ws d h st before =
      let parts = parts_by Whole (program s) (types_list types) ws in
      let qs = arm_shapes (trees_of parts) in (
        tuple s st before (TupleType types) qs refl
            (exact_count qs (length (types_list types)) (rests_none (trees_of parts))
            (trees_count parts ∙ parts_count (types_list types) ws d))
            (no_rests qs (rests_none (trees_of parts))),
        parts_pass (part_types s SingleCtor (TupleType types)) (length (types_list types)) 0 (TupleType types)
            (types_list types) ws (λ j. ap (part_types s SingleCtor (TupleType types)) (plus_none j)) h before,
      )

  -- ---- slices and arrays

  last_pass : (t u : MType) (items : ℕ) (ws : MWitnesses) → inner_type t ≡ u → AllPassing u ws →
      (before : List (List ℕ)) →
      AllNodes (PassesAll s) (item_nodes s before t items Move (arm_shapes (trees_of (items_by Whole (program s) u
      ws))))
  last_pass t u items no_witnesses e h before = tt
  last_pass t u items (more_witnesses w ws) e h before =
      let tree = named_by Whole (program s) u w in
      let q = unplaced (arm_shape tree) in
      let qs = arm_shapes (trees_of (items_by Whole (program s) u ws)) in
      let here : slice_item_type t items q ≡ u =
      ap (λ b. if b then rest_type t items else inner_type t) (no_rest tree) ∙ e in
      all_append (PassesAll s) (nodes s AsItem before (place (slice_item_type t items q) Move) q)
      (item_nodes s (before ++ names_bound s q) t items Move qs)
      (subst (λ x. AllPass s AsItem before x q) (sym here) (h.0 AsItem before))
      (last_pass t u items ws e h.1 (before ++ names_bound s q))

  first_pass : (t u : MType) (items : ℕ) (ws : MWitnesses) (rest : PatternTrees) → inner_type t ≡ u → AllPassing u ws →
      ((before : List (List ℕ)) → AllNodes (PassesAll s) (item_nodes s before t items Move rest)) →
      (before : List (List ℕ)) → AllNodes (PassesAll s)
      (item_nodes s before t items Move (and_more (arm_shapes (trees_of (items_by Whole (program s) u ws))) rest))
  first_pass t u items no_witnesses rest e h k before = k before
  first_pass t u items (more_witnesses w ws) rest e h k before =
      let tree = named_by Whole (program s) u w in
      let q = unplaced (arm_shape tree) in
      let qs = and_more (arm_shapes (trees_of (items_by Whole (program s) u ws))) rest in
      let here : slice_item_type t items q ≡ u =
      ap (λ b. if b then rest_type t items else inner_type t) (no_rest tree) ∙ e in
      all_append (PassesAll s) (nodes s AsItem before (place (slice_item_type t items q) Move) q)
      (item_nodes s (before ++ names_bound s q) t items Move qs)
      (subst (λ x. AllPass s AsItem before x q) (sym here) (h.0 AsItem before))
      (first_pass t u items ws rest e h.1 k (before ++ names_bound s q))

  middle_pass : (t : MType) (items : ℕ) (longer : Bool) (qs : PatternTrees) →
      ((before : List (List ℕ)) → AllNodes (PassesAll s) (item_nodes s before t items Move qs)) →
      (before : List (List ℕ)) →
      AllNodes (PassesAll s) (item_nodes s before t items Move (and_more (rest_shapes longer) qs))
  middle_pass t items true qs k before = (dots s AsItem before (rest_type t items), k (before ++ []))
  middle_pass t items false qs k before = k before

  items_pass : (t u : MType) (items : ℕ) (front : MWitnesses) (longer : Bool) (back : MWitnesses) → inner_type t ≡ u →
      AllPassing u front → AllPassing u back → (before : List (List ℕ)) →
      AllNodes (PassesAll s) (item_nodes s before t items Move
      (row_patterns (trees_of (items_by Whole (program s) u front)) longer (trees_of (items_by Whole (program s) u
      back))))
  items_pass t u items front longer back e h k =
      first_pass t u items front
      (and_more (rest_shapes longer) (arm_shapes (trees_of (items_by Whole (program s) u back)))) e h
      (middle_pass t items longer (arm_shapes (trees_of (items_by Whole (program s) u back)))
      (last_pass t u items back e k))

  covered : (u : MType) (front : MWitnesses) (longer : Bool) (back : MWitnesses) (n : ℕ) →
      covers (slice_shape (length (witnesses_list front)) longer (length (witnesses_list back))) n ≡ true →
      has_other_count (row_patterns (trees_of (items_by Whole (program s) u front)) longer
      (trees_of (items_by Whole (program s) u back))) n ≡ false
  covered u front longer back n h =
      let fs = items_by Whole (program s) u front in
      let bs = items_by Whole (program s) u back in
      let count = pattern_count (row_patterns (trees_of fs) longer (trees_of bs)) in
      let f = length (witnesses_list front) in
      let b = length (witnesses_list back) in
      let many : count ≡ f + (rests_in longer + b) =
      row_count (trees_of fs) longer (trees_of bs)
      ∙ (ap (λ k. k + (rests_in longer + pattern_count (arm_shapes (trees_of bs)))) (trees_count fs
      ∙ items_count u front)
      ∙ ap (λ k. f + (rests_in longer + k)) (trees_count bs ∙ items_count u back)) in
      ap (λ k. other_by k count n) (row_rests (trees_of fs) longer (trees_of bs)) ∙ row_fits longer f b n count many h

  row_ctor : (t : MType) (front : MWitnesses) (longer : Bool) (back : MWitnesses) →
      IsOfType (program s) t (RowOf front longer back) →
      has_ctor (rust_context (program s)) t
      (RowCtor (slice_shape (length (witnesses_list front)) longer (length (witnesses_list back)))) ≡ true
  row_ctor t front longer back d =
      let n = length (witnesses_list front) in
      let k = length (witnesses_list back) in
      let c : MCtor = RowCtor (slice_shape n longer k) in
      (both (has_ctor (rust_context (program s)) t c) (back_is_allowed longer k)
      (both (has_ctor (rust_context (program s)) t c && back_is_allowed longer k)
      (witnesses_are_of (rust_context (program s)) (λ i. inner_type t) 0 front
      && witnesses_are_of (rust_context (program s)) (λ i. inner_type t) n back) d).0).0

  few_rests : (u : MType) (front : MWitnesses) (longer : Bool) (back : MWitnesses) →
      has_rests (row_patterns (trees_of (items_by Whole (program s) u front)) longer
      (trees_of (items_by Whole (program s) u back))) ≡ false
  few_rests u front longer back =
      ap (nat_lt 1) (row_rests (trees_of (items_by Whole (program s) u front)) longer
      (trees_of (items_by Whole (program s) u back))) ∙ few longer

  pub slice_pass : (u : MType) (front : MWitnesses) (longer : Bool) (back : MWitnesses) → AllPassing u front →
      AllPassing u back → IsPassing (SliceType u) (RowOf front longer back)
  slice_pass u front longer back h k st before =
      let qs = row_patterns (trees_of (items_by Whole (program s) u front)) longer
      (trees_of (items_by Whole (program s) u back)) in (
        slice s st before (SliceType u) qs refl refl (few_rests u front longer back),
        items_pass (SliceType u) u (pattern_count qs) front longer back refl h k before,
      )

  pub array_pass : (u : MType) (n : ℕ) (front : MWitnesses) (longer : Bool) (back : MWitnesses) →
      IsOfType (program s) (ArrayType u n) (RowOf front longer back) → AllPassing u front → AllPassing u back →
      IsPassing (ArrayType u n) (RowOf front longer back)
  array_pass u n front longer back d h k st before =
      let qs = row_patterns (trees_of (items_by Whole (program s) u front)) longer
      (trees_of (items_by Whole (program s) u back)) in (
        slice s st before (ArrayType u n) qs refl
            (covered u front longer back n (row_ctor (ArrayType u n) front longer back d)) (few_rests u front longer back),
        items_pass (ArrayType u n) u (pattern_count qs) front longer back refl h k before,
      )
