-- The written items of tuples and rows, each at its part's type.
use Rattle.std.proofs.Common.{◌≡◌, ℕ, zero, suc, ◌+◌, ◌-◌, ◌≤◌, Bool, true, false, List, [], ◌∷◌, ◌++◌, length, replicate, Some, refl, sym, ap, subst, ◌∙◌, arith, if◌then◌else◌}
use Rattle.std.specs.Prelude.{slice_get}
use Rattle.match_model.specs.declared.Mode.{Mode}
use Rattle.match_model.specs.Constructors.{SingleCtor}
use Rattle.match_model.specs.RustTypes.{rust_arity, inner_type, type_or}
use Rattle.match_model.specs.Types.{MType, TupleType, SliceType, ArrayType, MTypes, no_types, more_types, types_list}
use Rattle.match_model.specs.Patterns.{MRest, NoRest, SomeRest, BoundRest, no_pats, more_pats}
use Rattle.match_model.specs.Matching.{laid_out}
use Rattle.decl_syntax.specs.Patterns.{PatternTree, At, Rest, BindAs, PatternTrees, none, more}
use Rattle.decl_syntax.specs.Widths.{pattern_count}
use Rattle.pattern_rules.specs.Settings.{Setting, program}
use Rattle.pattern_rules.specs.Nodes.{shape_of, is_rest, part_types}
use Rattle.pattern_rules.specs.NodeRules.{is_row, rest_count, has_rests, has_other_count}
use Rattle.pattern_rules.specs.Resolved.{resolved, front_items, back_items, rest_in, rest_of}
use Rattle.pattern_rules.specs.Builders.{Built, Maker, over, wild_maker, made, made_at, row_of, list_of}
use Rattle.pattern_rules.specs.Elaborated.{makers}
use Rattle.pattern_elaboration.specs.Written.{built, built_front, built_back}
use Rattle.pattern_elaboration.specs.Rests.{fixed}
use Rattle.pattern_elaboration.specs.Fitting.{TupleFits}
use Rattle.std.proofs.lemmas.Bool.Decides.{nat_tests}

fixed_count : (ps : List Built) → length (fixed ps) ≡ length ps
fixed_count [] = refl
fixed_count (p ∷ ps) = ap suc (fixed_count ps)

-- the makers agree, one by one, at the types of the parts from this one on
abbrev pub Agree : (types : ℕ → MType) → (i : ℕ) → List Maker → List Maker → Type 0
Agree types i [] [] = Unit {0}
Agree types i [] (g ∷ gs) = ⊥
Agree types i (f ∷ fs) [] = ⊥
Agree types i (f ∷ fs) (g ∷ gs) = (f (types i) ≡ g (types i)) × Agree types (suc i) fs gs

agree_self : (types : ℕ → MType) (i : ℕ) (fs : List Maker) → Agree types i fs fs
agree_self types i [] = tt
agree_self types i (f ∷ fs) = (refl, agree_self types (suc i) fs)

agree_both : (types : ℕ → MType) (i : ℕ) (fs gs fs' gs' : List Maker) → Agree types i fs gs →
    Agree types (i + length fs) fs' gs' → Agree types i (fs ++ fs') (gs ++ gs')
agree_both types i [] [] fs' gs' h k = subst (λ n. Agree types n fs' gs') (omega arith) k
agree_both types i [] (g ∷ gs) fs' gs' h k = absurd h
agree_both types i (f ∷ fs) [] fs' gs' h k = absurd h
agree_both types i (f ∷ fs) (g ∷ gs) fs' gs' h k =
    (h.0, agree_both types (suc i) fs gs fs' gs' h.1 (subst (λ n. Agree types n fs' gs') (omega arith) k))

pub agree_length : (types : ℕ → MType) (i : ℕ) (fs gs : List Maker) → Agree types i fs gs → length fs ≡ length gs
agree_length types i [] [] h = refl
agree_length types i [] (g ∷ gs) h = absurd h
agree_length types i (f ∷ fs) [] h = absurd h
agree_length types i (f ∷ fs) (g ∷ gs) h = ap suc (agree_length types (suc i) fs gs h.1)

-- makers that agree make the same parts
made_agree : (types : ℕ → MType) (i : ℕ) (fs gs : List Maker) (ts : MTypes) → Agree types i fs gs →
    ((j : ℕ) (w : MType) → slice_get (types_list ts) j ≡ Some w → types (i + j) ≡ w) → made fs ts ≡ made gs ts
made_agree types i [] [] ts h k = refl
made_agree types i [] (g ∷ gs) ts h k = absurd h
made_agree types i (f ∷ fs) [] ts h k = absurd h
made_agree types i (f ∷ fs) (g ∷ gs) no_types h k = refl
made_agree types i (f ∷ fs) (g ∷ gs) (more_types t ts) h k = rw (first, made_agree types (suc i) fs gs ts h.1 later)
    refl
  where
    here : types i ≡ t
    here = ap types (omega arith) ∙ k 0 t refl

    first : f t ≡ g t
    first = ap f (sym here) ∙ (h.0 ∙ ap g here)

    later : (j : ℕ) (w : MType) → slice_get (types_list ts) j ≡ Some w → types (suc i + j) ≡ w
    later j w e = ap types (omega arith) ∙ k (suc j) w e

-- makers that agree make the same items of a row
pub row_agree : (t : MType) (i : ℕ) (fs gs : List Maker) → Agree (λ j. t) i fs gs → made_at fs t ≡ made_at gs t
row_agree t i [] [] h = refl
row_agree t i [] (g ∷ gs) h = absurd h
row_agree t i (f ∷ fs) [] h = absurd h
row_agree t i (f ∷ fs) (g ∷ gs) h = rw (h.0, row_agree t (suc i) fs gs h.1) refl

length_replicated : {A : Type 0} (x : A) (c : ℕ) → length (replicate c x) ≡ c
length_replicated x zero = refl
length_replicated x (suc c) = ap suc (length_replicated x c)

agree_none : (types : ℕ → MType) (i : ℕ) (xs ys : List Maker) → length xs ≡ 0 → length xs ≡ length ys →
    Agree types i xs ys
agree_none types i [] [] e f = tt
agree_none types i [] (y ∷ ys) e f = absurd (omega arith)
agree_none types i (x ∷ xs) ys e f = absurd (omega arith)

-- the same with wildcards between
laid_agree : (types : ℕ → MType) (n : ℕ) (fs gs : List Maker) (rest : MRest) (fs' gs' : List Maker) →
    Agree types 0 fs gs →
    Agree types (n - length fs') fs' gs' → length fs + length fs' ≤ n → (rest ≡ NoRest → length fs' ≡ 0) →
    Agree types 0 (laid_out wild_maker fs rest fs' n) (laid_out wild_maker gs rest gs' n)
laid_agree types n fs gs rest fs' gs' h k le absent = by rest absent
  where
    front_same : length fs ≡ length gs
    front_same = agree_length types 0 fs gs h

    back_same : length fs' ≡ length gs'
    back_same = agree_length types (n - length fs') fs' gs' k

    middle : Agree types 0 (fs ++ (replicate (n - (length fs + length fs')) wild_maker ++ fs'))
        (gs ++ (replicate (n - (length gs + length gs')) wild_maker ++ gs'))
    middle =
        let len : length (replicate (n - (length fs + length fs')) wild_maker) ≡ n - (length fs + length fs') =
        length_replicated wild_maker (n - (length fs + length fs')) in
        rw (← front_same, ← back_same)
        (agree_both types 0 fs gs (replicate (n - (length fs + length fs')) wild_maker ++ fs')
        (replicate (n - (length fs + length fs')) wild_maker ++ gs') h
        (agree_both types (0 + length fs) (replicate (n - (length fs + length fs')) wild_maker)
        (replicate (n - (length fs + length fs')) wild_maker) fs' gs'
        (agree_self types (0 + length fs) (replicate (n - (length fs + length fs')) wild_maker))
        (subst (λ i. Agree types i fs' gs') (omega (arith, len, le)) k)))

    by : (r : MRest) → (r ≡ NoRest → length fs' ≡ 0) → Agree types 0 (laid_out wild_maker fs r fs' n)
        (laid_out wild_maker gs r gs' n)
    by NoRest ab = agree_both types 0 fs gs fs' gs' h (agree_none types (0 + length fs) fs' gs' (ab refl) back_same)
    by SomeRest ab = middle
    by (BoundRest name written) ab = middle

-- the items up to a rest
pub front_agrees : (s : Setting) (types : ℕ → MType) (i : ℕ) (m : Mode) (ps : PatternTrees) →
    Agree types i (fixed (built_front s types i m ps)) (makers (program s) (front_items s types i ps) m)
front_agrees s types i m none = tt
front_agrees s types i m (more p ps) = by (is_rest p) (front_agrees s types (suc i) m ps)
  where
    by : (b : Bool) → Agree types (suc i) (fixed (built_front s types (suc i) m ps))
        (makers (program s) (front_items s types (suc i) ps) m) → Agree types i
        (fixed (if b then [] else built s (types i) m p ∷ built_front s types (suc i) m ps))
        (makers (program s) (if b then no_pats else more_pats (resolved s (types i) p)
        (front_items s types (suc i) ps)) m)
    by true h = tt
    by false h = (refl, h)

-- how many items stand behind the first rest
abbrev behind : PatternTrees → ℕ
behind none = 0
behind (more p ps) = if is_rest p then pattern_count ps else behind ps

-- the items behind it
back_agrees : (s : Setting) (types : ℕ → MType) (parts : ℕ) (m : Mode) (ps : PatternTrees) →
    Agree types (parts - behind ps) (fixed (built_back s types parts m ps))
    (makers (program s) (back_items s types parts ps) m)
back_agrees s types parts m none = tt
back_agrees s types parts m (more p ps) = by (is_rest p) (back_agrees s types parts m ps)
  where
    by : (b : Bool) → Agree types (parts - behind ps) (fixed (built_back s types parts m ps))
        (makers (program s) (back_items s types parts ps) m) →
        Agree types (parts - (if b then pattern_count ps else behind ps))
        (fixed (if b then built_front s types (parts - pattern_count ps) m ps else built_back s types parts m ps))
        (makers (program s) (if b then front_items s types (parts - pattern_count ps) ps else back_items s types parts
        ps) m)
    by true h = front_agrees s types (parts - pattern_count ps) m ps
    by false h = h

-- without a rest all items stand in front
front_count : (s : Setting) (types : ℕ → MType) (i : ℕ) (m : Mode) (ps : PatternTrees) → rest_count ps ≡ 0 →
    length (built_front s types i m ps) ≡ pattern_count ps
front_count s types i m none h = refl
front_count s types i m (more p ps) h = by (is_rest p) h (λ e. front_count s types (suc i) m ps e)
  where
    by : (b : Bool) → (if b then 1 else 0) + rest_count ps ≡ 0 →
        (rest_count ps ≡ 0 → length (built_front s types (suc i) m ps) ≡ pattern_count ps) →
        length (if b then [] else built s (types i) m p ∷ built_front s types (suc i) m ps) ≡ suc (pattern_count ps)
    by true e k = absurd (omega arith)
    by false e k = ap suc (k (omega arith))

back_count : (s : Setting) (types : ℕ → MType) (parts : ℕ) (m : Mode) (ps : PatternTrees) → rest_count ps ≤ 1 →
    length (built_back s types parts m ps) ≡ behind ps
back_count s types parts m none h = refl
back_count s types parts m (more p ps) h = by (is_rest p) h (λ e. back_count s types parts m ps e)
  where
    by : (b : Bool) → (if b then 1 else 0) + rest_count ps ≤ 1 →
        (rest_count ps ≤ 1 → length (built_back s types parts m ps) ≡ behind ps) →
        length (if b then built_front s types (parts - pattern_count ps) m ps else built_back s types parts m ps) ≡
        (if b then pattern_count ps else behind ps)
    by true e k = front_count s types (parts - pattern_count ps) m ps (omega arith)
    by false e k = k (omega arith)

both_count : (s : Setting) (types : ℕ → MType) (i parts : ℕ) (m : Mode) (ps : PatternTrees) → rest_count ps ≤ 1 →
    length (built_front s types i m ps) + (behind ps + rest_count ps) ≡ pattern_count ps
both_count s types i parts m none h = refl
both_count s types i parts m (more p ps) h = by (is_rest p) h (λ e. both_count s types (suc i) parts m ps e)
  where
    by : (b : Bool) → (if b then 1 else 0) + rest_count ps ≤ 1 →
        (rest_count ps ≤ 1 → length (built_front s types (suc i) m ps) + (behind ps + rest_count ps) ≡ pattern_count
        ps) →
        length (if b then [] else built s (types i) m p ∷ built_front s types (suc i) m ps)
        + ((if b then pattern_count ps else behind ps) + ((if b then 1 else 0) + rest_count ps)) ≡ suc
        (pattern_count ps)
    by true e k = omega arith
    by false e k = let f = k (omega arith) in omega arith

not_absent : (p : PatternTree) → is_rest p ≡ true → rest_in (shape_of p) ≡ NoRest → ⊥
not_absent (At from Rest) h e = absurd cc
not_absent (At from (BindAs name by_ref mutable (At at Rest))) h e = absurd cc
not_absent (At from shape) h e = absurd cc

none_behind : (ps : PatternTrees) → rest_of ps ≡ NoRest → behind ps ≡ 0
none_behind none h = refl
none_behind (more (At from shape) ps) h = by (is_rest (At from shape)) refl h (λ e. none_behind ps e)
  where
    by : (b : Bool) → is_rest (At from shape) ≡ b → (if b then rest_in shape else rest_of ps) ≡ NoRest →
        (rest_of ps ≡ NoRest → behind ps ≡ 0) → (if b then pattern_count ps else behind ps) ≡ 0
    by true e k rec = absurd (not_absent (At from shape) e k)
    by false e k rec = rec k

-- how many items a list with at most one rest has, where it fits so many parts
fitting_count : (ps : PatternTrees) (parts : ℕ) → has_rests ps ≡ false → has_other_count ps parts ≡ false →
    pattern_count ps ≤ parts + rest_count ps
fitting_count ps parts h k = grind (arith, nat_tests)

few_rests : (ps : PatternTrees) → has_rests ps ≡ false → rest_count ps ≤ 1
few_rests ps h = grind (arith, nat_tests)

-- a tuple
pub tuple_agrees : (s : Setting) (t : MType) (m : Mode) (ps : PatternTrees) → TupleFits s t ps →
    list_of (program s) (fixed (built_front s (part_types s SingleCtor t) 0 m ps)) (rest_of ps)
    (fixed (built_back s (part_types s SingleCtor t) (rust_arity (program s) SingleCtor t) m ps)) t m
    ≡ list_of (program s) (makers (program s) (front_items s (part_types s SingleCtor t) 0 ps) m) (rest_of ps)
    (makers (program s) (back_items s (part_types s SingleCtor t) (rust_arity (program s) SingleCtor t) ps) m) t m
tuple_agrees s (TupleType ts) m ps fits =
    let types : ℕ → MType = part_types s SingleCtor (TupleType ts) in
    let n : ℕ = length (types_list ts) in
    let few : rest_count ps ≤ 1 = few_rests ps fits.once in
    let count : length (fixed (built_back s (part_types s SingleCtor (TupleType ts)) (length (types_list ts)) m ps)) ≡
    behind ps
    = fixed_count (built_back s (part_types s SingleCtor (TupleType ts)) (length (types_list ts)) m ps)
    ∙ back_count s (part_types s SingleCtor (TupleType ts)) (length (types_list ts)) m ps few in
    let front : length (fixed (built_front s (part_types s SingleCtor (TupleType ts)) 0 m ps)) ≡ length
    (built_front s (part_types s SingleCtor (TupleType ts)) 0 m ps)
    = fixed_count (built_front s (part_types s SingleCtor (TupleType ts)) 0 m ps) in
    let all = both_count s (part_types s SingleCtor (TupleType ts)) 0 (length (types_list ts)) m ps few in
    let within : pattern_count ps ≤ length (types_list ts) + rest_count ps = fitting_count ps (length (types_list ts))
    fits.once fits.count in
    ap (over SingleCtor (TupleType ts))
    (made_agree (part_types s SingleCtor (TupleType ts)) 0
    (laid_out wild_maker (fixed (built_front s (part_types s SingleCtor (TupleType ts)) 0 m ps)) (rest_of ps)
    (fixed (built_back s (part_types s SingleCtor (TupleType ts)) (length (types_list ts)) m ps))
    (length (types_list ts)))
    (laid_out wild_maker (makers (program s) (front_items s (part_types s SingleCtor (TupleType ts)) 0 ps) m)
    (rest_of ps) (makers (program s) (back_items s (part_types s SingleCtor (TupleType ts)) (length (types_list ts))
    ps) m) (length (types_list ts)))
    ts
    (laid_agree (part_types s SingleCtor (TupleType ts)) (length (types_list ts))
    (fixed (built_front s (part_types s SingleCtor (TupleType ts)) 0 m ps))
    (makers (program s) (front_items s (part_types s SingleCtor (TupleType ts)) 0 ps) m) (rest_of ps)
    (fixed (built_back s (part_types s SingleCtor (TupleType ts)) (length (types_list ts)) m ps))
    (makers (program s) (back_items s (part_types s SingleCtor (TupleType ts)) (length (types_list ts)) ps) m)
    (front_agrees s (part_types s SingleCtor (TupleType ts)) 0 m ps)
    (subst (λ i. Agree (part_types s SingleCtor (TupleType ts)) (length (types_list ts) - i)
    (fixed (built_back s (part_types s SingleCtor (TupleType ts)) (length (types_list ts)) m ps))
    (makers (program s) (back_items s (part_types s SingleCtor (TupleType ts)) (length (types_list ts)) ps) m))
    (sym count)
    (back_agrees s (part_types s SingleCtor (TupleType ts)) (length (types_list ts)) m ps))
    (omega (arith, all, within, count, front))
    (λ e. count ∙ none_behind ps e))
    (λ j w e. ap (part_types s SingleCtor (TupleType ts)) (omega arith) ∙ ap (type_or (TupleType ts)) e))
tuple_agrees s t m ps fits = absurd (let h = fits.type in cc)

-- a row
pub row_agrees : (s : Setting) (t : MType) (m : Mode) (ps : PatternTrees) (parts : ℕ) → is_row t ≡ true →
    list_of (program s) (fixed (built_front s (λ i. inner_type t) 0 m ps)) (rest_of ps)
    (fixed (built_back s (λ i. inner_type t) parts m ps)) t m
    ≡ list_of (program s) (makers (program s) (front_items s (λ i. inner_type t) 0 ps) m) (rest_of ps)
    (makers (program s) (back_items s (λ i. inner_type t) parts ps) m) t m
row_agrees s t m ps parts h = by t h
  where
    same : (t item : MType) →
        row_of (fixed (built_front s (λ i. item) 0 m ps)) (rest_of ps) (fixed (built_back s (λ i. item) parts m ps)) t
        item m
        ≡ row_of (makers (program s) (front_items s (λ i. item) 0 ps) m) (rest_of ps)
        (makers (program s) (back_items s (λ i. item) parts ps) m) t item m
    same t item =
        let f = front_agrees s (λ i. item) 0 m ps in
        let b = back_agrees s (λ i. item) parts m ps in
        rw (
          agree_length (λ i. item) 0 (fixed (built_front s (λ i. item) 0 m ps))
              (makers (program s) (front_items s (λ i. item) 0 ps) m) f,
          agree_length (λ i. item) (parts - behind ps) (fixed (built_back s (λ i. item) parts m ps))
              (makers (program s) (back_items s (λ i. item) parts ps) m) b,
          row_agree item 0 (fixed (built_front s (λ i. item) 0 m ps))
              (makers (program s) (front_items s (λ i. item) 0 ps) m) f,
          row_agree item (parts - behind ps) (fixed (built_back s (λ i. item) parts m ps))
              (makers (program s) (back_items s (λ i. item) parts ps) m) b,
        ) refl

    by : (t : MType) → is_row t ≡ true →
        list_of (program s) (fixed (built_front s (λ i. inner_type t) 0 m ps)) (rest_of ps)
        (fixed (built_back s (λ i. inner_type t) parts m ps)) t m
        ≡ list_of (program s) (makers (program s) (front_items s (λ i. inner_type t) 0 ps) m) (rest_of ps)
        (makers (program s) (back_items s (λ i. inner_type t) parts ps) m) t m
    by (SliceType item) e = same (SliceType item) item
    by (ArrayType item n) e = same (ArrayType item n) item
    by t e = absurd cc

-- the items of a tuple are at most as many as its parts
pub tuple_few : (s : Setting) (t : MType) (m : Mode) (ps : PatternTrees) → TupleFits s t ps →
    length (built_front s (part_types s SingleCtor t) 0 m ps) + length (built_back s (part_types s SingleCtor t)
    (rust_arity (program s) SingleCtor t) m ps)
    ≤ rust_arity (program s) SingleCtor t
tuple_few s t m ps fits =
    let few : rest_count ps ≤ 1 = few_rests ps fits.once in
    omega (
      arith,
      both_count s (part_types s SingleCtor t) 0 (rust_arity (program s) SingleCtor t) m ps few,
      back_count s (part_types s SingleCtor t) (rust_arity (program s) SingleCtor t) m ps few,
      fitting_count ps
          (rust_arity (program s) SingleCtor t) fits.once fits.count,
    )
