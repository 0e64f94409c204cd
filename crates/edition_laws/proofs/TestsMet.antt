-- What values of a type meet of a test that holds at the types of their parts.
use Rattle.std.proofs.Common.{◌≡◌, ℕ, zero, suc, ◌+◌, ◌-◌, ◌≤◌, Bool, true, false, List, [], ◌∷◌, ◌++◌, length, replicate, nat_eq, Option, Some, None, slice_get, if◌then◌else◌, refl, sym, ap, subst, ◌∙◌, arith}
use mathlib.Core.Bool.{beq}
use Rattle.match_model.specs.declared.Mode.{Mode}
use Rattle.match_model.specs.Types.{MType, TupleType, PointType, SliceType, ArrayType, MTypes, no_types, more_types, types_list}
use Rattle.match_model.specs.Values.{MValue, Flag, Num, Text, Node, Point, Row, Thing, Later, Unseen, MValues, no_values, more_values, values_list}
use Rattle.match_model.specs.Declarations.{MProgram, node_types}
use Rattle.match_model.specs.RustTypes.{part_type, inner_type}
use Rattle.match_model.specs.Places.{some_if}
use Rattle.match_model.specs.Patterns.{MRest, NoRest, SomeRest, BoundRest}
use Rattle.match_model.specs.Matching.{mode_behind, laid_out}
use Rattle.match_model.specs.Readings.{Test, passes, move_if_rest_mut, test_through, test_parts, test_form, test_items, test_row, test_list, test_inside}
use Rattle.match_model.specs.Typing.{is_value, are_values, all_are_values}
use Rattle.match_model.proofs.Basics.{and_true, nat_equal}
use Rattle.pattern_rules.specs.Settings.{bottom_type, bottom_mode}
use Rattle.pattern_rules.specs.NodeRules.{is_row}
use Rattle.pattern_rules.proofs.SameTypes.{both_left, both_right}
use Rattle.pattern_laws.proofs.KeptLeaves.{IsBottom, point_value}
use Rattle.pattern_laws.proofs.KeptParts.{count_keeps}
use Rattle.pattern_laws.proofs.KeptRows.{next_number, no_more, replicate_length, part_there}
use Rattle.pattern_laws.proofs.Fitting.{CountFits}

-- a test of any value, behind references or not
through_always : (f : Mode → Test) → ((m : Mode) (w : MValue) → f m w ≡ true) → (m : Mode) (v : MValue) →
    test_through f m v ≡ true
through_always f h m (Point n w) = through_always f h (mode_behind n m) w
through_always f h m (Flag b) = h m (Flag b)
through_always f h m (Num n) = h m (Num n)
through_always f h m (Text t) = h m (Text t)
through_always f h m (Node k parts) = h m (Node k parts)
through_always f h m (Row items) = h m (Row items)
through_always f h m Thing = h m Thing
through_always f h m Later = h m Later
through_always f h m Unseen = h m Unseen

-- a form without written fields
pub bare_form : (k : ℕ) (m : Mode) (v : MValue) → test_through (λ m' w. test_form k (λ i. passes) w) m v ≡ true
bare_form k = through_always (λ m' w. test_form k (λ i. passes) w) (λ m' w. form w)
  where
    parts : (i : ℕ) (vs : List MValue) → test_parts (λ j. passes) i vs ≡ true
    parts i [] = refl
    parts i (v ∷ vs) = parts (suc i) vs

    form : (w : MValue) → test_form k (λ i. passes) w ≡ true
    form (Node j vs) = go (nat_eq k j)
      where
        go : (b : Bool) → (if b then test_parts (λ i. passes) 0 (values_list vs) else true) ≡ true
        go true = parts 0 (values_list vs)
        go false = refl
    form (Flag b) = refl
    form (Num n) = refl
    form (Text t) = refl
    form (Point n w) = refl
    form (Row items) = refl
    form Thing = refl
    form Later = refl
    form Unseen = refl

-- behind all references
plain_test : (program : MProgram) (f : Mode → Test) (u : MType) (m : Mode) (sure : Bool) (v : MValue) → IsBottom u →
    is_value program sure u v ≡ true → f m v ≡ true → test_through f m v ≡ true
plain_test program f (PointType n t) m sure v b e h = absurd b
plain_test program f u m sure (Point n w) b e h = cc
plain_test program f u m sure v b e h = h

pub through_met : (program : MProgram) (f : Mode → Test) (t : MType) (m : Mode) (sure : Bool) (v : MValue) →
    is_value program sure t v ≡ true →
    ((b : Bool) (w : MValue) → is_value program b (bottom_type t) w ≡ true → f (bottom_mode t m) w ≡ true) →
    test_through f m v ≡ true
through_met program f (PointType n t) m sure v e h =
    go (point_value program sure n t v e) (λ w i. through_met program f t (mode_behind n m) false w i h)
  where
    go : (w : MValue) × (v ≡ Point n w) × (is_value program false t w ≡ true) →
        ((w : MValue) → is_value program false t w ≡ true → test_through f (mode_behind n m) w ≡ true) →
        test_through f m v ≡ true
    go (w, i, j) ih = rw i (ih w j)
through_met program f u m sure v e h = plain_test program f u m sure v tt e (h sure v e)

-- what a reference points to
pub inside_met : (program : MProgram) (f : Test) (t : MType) (sure : Bool) (v : MValue) →
    is_value program sure t v ≡ true → ((w : MValue) → is_value program false (inner_type t) w ≡ true → f w ≡ true) →
    test_inside f v ≡ true
inside_met program f (PointType k t) sure (Point n w) e h = h w (go (beq k n) e)
  where
    go : (b : Bool) → elim (some_if b t) as (λ x. Bool) [ None ↦ false | Some u ↦ is_value program false u w ] ≡ true →
        is_value program false t w ≡ true
    go true i = i
    go false i = cc
inside_met program f t sure (Point n w) e h = cc
inside_met program f t sure v e h = refl

-- the parts of a node, by the types of their numbers
parts_met : (program : MProgram) (sure : Bool) (types : ℕ → MType) (f : ℕ → Test) →
    ((i : ℕ) (w : MValue) → is_value program sure (types i) w ≡ true → f i w ≡ true) →
    (i : ℕ) (ts : MTypes) (vs : MValues) →
    ((j : ℕ) (u : MType) → slice_get (types_list ts) j ≡ Some u → types (i + j) ≡ u) →
    are_values program sure ts vs ≡ true → test_parts f i (values_list vs) ≡ true
parts_met program sure types f h i no_types no_values at e = refl
parts_met program sure types f h i no_types (more_values v vs) at e = cc
parts_met program sure types f h i (more_types t ts) no_values at e = cc
parts_met program sure types f h i (more_types t ts) (more_values v vs) at e =
    let first : types i ≡ t = ap types (sym (no_more i)) ∙ at 0 t refl in
    and_true (f i v) (test_parts f (suc i) (values_list vs))
    (h i v (subst (λ u. is_value program sure u v ≡ true) (sym first)
    (both_left (is_value program sure t v) (are_values program sure ts vs) e)))
    (parts_met program sure types f h (suc i) ts vs (λ j u s. ap types (next_number i j) ∙ at (suc j) u s)
    (both_right (is_value program sure t v) (are_values program sure ts vs) e))

-- a node of the variant
pub form_met : (program : MProgram) (k : ℕ) (types : ℕ → MType) (f : ℕ → Test) (u : MType) (sure : Bool) (v : MValue) →
    ((j : ℕ) → types j ≡ part_type u (node_types program u k) j) →
    ((i : ℕ) (w : MValue) → is_value program sure (types i) w ≡ true → f i w ≡ true) →
    is_value program sure u v ≡ true → test_form k f v ≡ true
form_met program k types f u sure (Node j vs) same h e = go (nat_eq k j) refl
  where
    found : (o : Option MTypes) → node_types program u k ≡ o →
        elim o as (λ x. Bool) [ None ↦ false | Some ts ↦ are_values program sure ts vs ] ≡ true →
        test_parts f 0 (values_list vs) ≡ true
    found None n i = cc
    found (Some ts) n i =
        parts_met program sure types f h 0 ts vs
        (λ l w s. same (0 + l) ∙ (ap (λ o. part_type u o (0 + l)) n ∙ part_there u ts l w s)) i

    go : (b : Bool) → nat_eq k j ≡ b → (if b then test_parts f 0 (values_list vs) else true) ≡ true
    go true d =
        found (node_types program u k) refl
        (subst (λ n. elim (node_types program u n) as (λ x. Bool)
        [ None ↦ false | Some ts ↦ are_values program sure ts vs ] ≡ true) (sym (nat_equal k j d)) e)
    go false d = refl
form_met program k types f u sure (Flag b) same h e = refl
form_met program k types f u sure (Num n) same h e = refl
form_met program k types f u sure (Text t) same h e = refl
form_met program k types f u sure (Point n w) same h e = refl
form_met program k types f u sure (Row items) same h e = refl
form_met program k types f u sure Thing same h e = refl
form_met program k types f u sure Later same h e = refl
form_met program k types f u sure Unseen same h e = refl

-- ---- lists

-- tests that hold one by one, each of the values of the type with its number, from number `i` on
abbrev pub MetFrom : MProgram → (sure : Bool) → (types : ℕ → MType) → (i : ℕ) → List Test → Type 0
MetFrom program sure types i [] = Unit {0}
MetFrom program sure types i (f ∷ fs) =
    ((v : MValue) → is_value program sure (types i) v ≡ true → f v ≡ true) × MetFrom program sure types (suc i) fs

module _ (program : MProgram) (sure : Bool) where
  both_met : (types : ℕ → MType) (i : ℕ) (fs gs : List Test) → MetFrom program sure types i fs →
      MetFrom program sure types (i + length fs) gs → MetFrom program sure types i (fs ++ gs)
  both_met types i [] gs h k = subst (λ n. MetFrom program sure types n gs) (no_more i) k
  both_met types i (f ∷ fs) gs h k = (
    h.0,
    both_met types (suc i) fs gs h.1
        (subst (λ n. MetFrom program sure types n gs) (sym (next_number i (length fs))) k),
  )

  passes_met : (types : ℕ → MType) (i n : ℕ) → MetFrom program sure types i (replicate n passes)
  passes_met types i zero = tt
  passes_met types i (suc n) = (λ v e. refl, passes_met types (suc i) n)

  -- round a rest of a fitting number, all of so many
  laid_met : (types : ℕ → MType) (rest : MRest) (n : ℕ) (fs bs : List Test) →
      CountFits rest (length fs + length bs) n → MetFrom program sure types 0 fs →
      MetFrom program sure types (n - length bs) bs → MetFrom program sure types 0 (laid_out passes fs rest bs n)
  laid_met types rest n fs bs c h k = go rest c
    where
      there : (d : ℕ) → d ≡ n - length bs → MetFrom program sure types d bs
      there d e = subst (λ x. MetFrom program sure types x bs) (sym e) k

      around : length fs + length bs ≤ n →
          MetFrom program sure types 0 (fs ++ (replicate (n - (length fs + length bs)) passes ++ bs))
      around c =
          both_met types 0 fs (replicate (n - (length fs + length bs)) passes ++ bs) h
          (both_met types (0 + length fs) (replicate (n - (length fs + length bs)) passes) bs
          (passes_met types (0 + length fs) (n - (length fs + length bs)))
          (there ((0 + length fs) + length (replicate (n - (length fs + length bs)) passes))
          (ap (λ x. (0 + length fs) + x) (replicate_length (n - (length fs + length bs)) passes)
          ∙ omega (arith, c))))

      go : (rest : MRest) → CountFits rest (length fs + length bs) n →
          MetFrom program sure types 0 (laid_out passes fs rest bs n)
      go NoRest c = both_met types 0 fs bs h (there (0 + length fs) (omega (arith, c)))
      go SomeRest c = around c
      go (BoundRest name written) c = around c

  -- the items of a tuple
  tuple_items : (types : ℕ → MType) (i : ℕ) (ts : MTypes) (vs : MValues) (fs : List Test) →
      ((j : ℕ) (u : MType) → slice_get (types_list ts) j ≡ Some u → types (i + j) ≡ u) →
      are_values program sure ts vs ≡ true → MetFrom program sure types i fs → test_items fs (values_list vs) ≡ true
  tuple_items types i ts vs [] at e h = refl
  tuple_items types i no_types no_values (f ∷ fs) at e h = refl
  tuple_items types i no_types (more_values v vs) (f ∷ fs) at e h = cc
  tuple_items types i (more_types t ts) no_values (f ∷ fs) at e h = cc
  tuple_items types i (more_types t ts) (more_values v vs) (f ∷ fs) at e h =
      let first : types i ≡ t = ap types (sym (no_more i)) ∙ at 0 t refl in
      and_true (f v) (test_items fs (values_list vs))
      (h.0 v (subst (λ u. is_value program sure u v ≡ true) (sym first)
      (both_left (is_value program sure t v) (are_values program sure ts vs) e)))
      (tuple_items types (suc i) ts vs fs (λ j u s. ap types (next_number i j) ∙ at (suc j) u s)
      (both_right (is_value program sure t v) (are_values program sure ts vs) e) h.1)

  -- a tuple
  pub tuple_met : (ts : MTypes) (rest : MRest) (m : Mode) (fs bs : List Test) (v : MValue) →
      CountFits rest (length fs + length bs) (length (types_list ts)) → move_if_rest_mut rest m ≡ true →
      MetFrom program sure (part_type (TupleType ts) (Some ts)) 0 fs →
      MetFrom program sure (part_type (TupleType ts) (Some ts)) (length (types_list ts) - length bs) bs →
      is_value program sure (TupleType ts) v ≡ true → test_list fs rest bs m v ≡ true
  tuple_met ts rest m fs bs (Node zero vs) c r h k e =
      and_true (move_if_rest_mut rest m)
      (test_items (laid_out passes fs rest bs (length (values_list vs))) (values_list vs)) r
      (subst (λ n. test_items (laid_out passes fs rest bs n) (values_list vs) ≡ true) (count_keeps program sure ts vs e)
      (tuple_items (part_type (TupleType ts) (Some ts)) 0 ts vs
      (laid_out passes fs rest bs (length (types_list ts))) (part_there (TupleType ts) ts) e
      (laid_met (part_type (TupleType ts) (Some ts)) rest (length (types_list ts)) fs bs c h k)))
  tuple_met ts rest m fs bs (Node (suc j) vs) c r h k e = cc
  tuple_met ts rest m fs bs (Row vs) c r h k e = cc
  tuple_met ts rest m fs bs (Flag b) c r h k e = refl
  tuple_met ts rest m fs bs (Num n) c r h k e = refl
  tuple_met ts rest m fs bs (Text t) c r h k e = refl
  tuple_met ts rest m fs bs (Point n w) c r h k e = refl
  tuple_met ts rest m fs bs Thing c r h k e = refl
  tuple_met ts rest m fs bs Later c r h k e = refl
  tuple_met ts rest m fs bs Unseen c r h k e = refl

  -- tests at one type hold whatever their numbers
  pub any_number : (t : MType) (i j : ℕ) (fs : List Test) → MetFrom program sure (λ n. t) i fs →
      MetFrom program sure (λ n. t) j fs
  any_number t i j [] h = tt
  any_number t i j (f ∷ fs) h = (h.0, any_number t (suc i) (suc j) fs h.1)

  laid_at_one : (t : MType) (rest : MRest) (n : ℕ) (fs bs : List Test) → MetFrom program sure (λ i. t) 0 fs →
      MetFrom program sure (λ i. t) 0 bs → MetFrom program sure (λ i. t) 0 (laid_out passes fs rest bs n)
  laid_at_one t rest n fs bs h k = go rest
    where
      around : MetFrom program sure (λ i. t) 0 (fs ++ (replicate (n - (length fs + length bs)) passes ++ bs))
      around =
          both_met (λ i. t) 0 fs (replicate (n - (length fs + length bs)) passes ++ bs) h
          (both_met (λ i. t) (0 + length fs) (replicate (n - (length fs + length bs)) passes) bs
          (passes_met (λ i. t) (0 + length fs) (n - (length fs + length bs)))
          (any_number t 0 ((0 + length fs) + length (replicate (n - (length fs + length bs)) passes)) bs k))

      go : (rest : MRest) → MetFrom program sure (λ i. t) 0 (laid_out passes fs rest bs n)
      go NoRest = both_met (λ i. t) 0 fs bs h (any_number t 0 (0 + length fs) bs k)
      go SomeRest = around
      go (BoundRest name written) = around

  -- the items of a row
  row_items : (t : MType) (i : ℕ) (vs : MValues) (fs : List Test) → all_are_values program sure t vs ≡ true →
      MetFrom program sure (λ n. t) i fs → test_items fs (values_list vs) ≡ true
  row_items t i vs [] e h = refl
  row_items t i no_values (f ∷ fs) e h = refl
  row_items t i (more_values v vs) (f ∷ fs) e h =
      and_true (f v) (test_items fs (values_list vs))
      (h.0 v (both_left (is_value program sure t v) (all_are_values program sure t vs) e))
      (row_items t (suc i) vs fs (both_right (is_value program sure t v) (all_are_values program sure t vs) e) h.1)

  row_test : (t : MType) (rest : MRest) (m : Mode) (fs bs : List Test) (vs : MValues) →
      move_if_rest_mut rest m ≡ true → MetFrom program sure (λ i. t) 0 fs → MetFrom program sure (λ i. t) 0 bs →
      all_are_values program sure t vs ≡ true → test_row fs rest bs m (values_list vs) ≡ true
  row_test t rest m fs bs vs r h k e =
      and_true (move_if_rest_mut rest m)
      (test_items (laid_out passes fs rest bs (length (values_list vs))) (values_list vs)) r
      (row_items t 0 vs (laid_out passes fs rest bs (length (values_list vs))) e
      (laid_at_one t rest (length (values_list vs)) fs bs h k))

  -- a slice or an array
  pub row_met : (u : MType) (rest : MRest) (m : Mode) (fs bs : List Test) (v : MValue) → is_row u ≡ true →
      move_if_rest_mut rest m ≡ true → MetFrom program sure (λ i. inner_type u) 0 fs →
      MetFrom program sure (λ i. inner_type u) 0 bs → is_value program sure u v ≡ true → test_list fs rest bs m v ≡ true
  row_met (SliceType t) rest m fs bs (Row vs) w r h k e = row_test t rest m fs bs vs r h k e
  row_met (ArrayType t n) rest m fs bs (Row vs) w r h k e = go (nat_eq (length (values_list vs)) n) e
    where
      go : (b : Bool) → elim (some_if b t) as (λ x. Bool) [ None ↦ false | Some u ↦ all_are_values program sure u vs ]
          ≡ true → test_row fs rest bs m (values_list vs) ≡ true
      go true i = row_test t rest m fs bs vs r h k i
      go false i = cc
  row_met (SliceType t) rest m fs bs (Node j vs) w r h k e = cc
  row_met (ArrayType t n) rest m fs bs (Node j vs) w r h k e = cc
  row_met u rest m fs bs (Row vs) w r h k e = cc
  row_met u rest m fs bs (Node j vs) w r h k e = cc
  row_met u rest m fs bs (Flag b) w r h k e = refl
  row_met u rest m fs bs (Num n) w r h k e = refl
  row_met u rest m fs bs (Text t) w r h k e = refl
  row_met u rest m fs bs (Point n x) w r h k e = refl
  row_met u rest m fs bs Thing w r h k e = refl
  row_met u rest m fs bs Later w r h k e = refl
  row_met u rest m fs bs Unseen w r h k e = refl
