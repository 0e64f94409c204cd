-- A pattern that fits its type is well typed for it as it is elaborated.
use Rattle.std.proofs.Common.{◌≡◌, ℕ, suc, ◌+◌, ◌-◌, Bool, true, false, not, ◌&&◌, List, [], ◌∷◌, length, nat_eq, refl, sym, ap, subst, ◌∙◌, arith, slice_get, Option, Some, None, if◌then◌else◌}
use Rattle.std.proofs.lemmas.Bool.Decides.{nat_tests}
use Rattle.std.specs.List.{list_all}
use Rattle.match_model.specs.declared.Mode.{Mode}
use Rattle.match_model.specs.Types.{MType, BoolType, StrType, TupleType, PointType, SliceType, ArrayType, MTypes, no_types, more_types, types_list}
use Rattle.match_model.specs.Numbers.{MRange, closed, has_one_number}
use Rattle.match_model.specs.Texts.{is_scalar}
use Rattle.match_model.specs.Declarations.{MProgram, node_types}
use Rattle.match_model.specs.RustTypes.{rust_context, rust_set, count_of_types, part_type, inner_type}
use Rattle.match_model.specs.Constructors.{WildCtor, OrCtor, FlagCtor, NumbersCtor, TextCtor, RowCtor, MSet, SingleSet, belongs, least_length}
use Rattle.match_model.specs.Patterns.{MRest, NoRest, SomeRest, BoundRest, MPat, WildPat, NumPat, FlagPat, TextPat, SpanPat, BindPat, FormPat, ListPat, PointPat, OrPat, MPats, no_pats, more_pats, MNumbered, no_numbered, more_numbered, numbers_in}
use Rattle.match_model.specs.Matching.{to_move, mode_written, mode_behind, laid_out}
use Rattle.match_model.specs.ArenaPatterns.{WholePart, de_pat, no_de_pats, more_de_pats, de_pats_list}
use Rattle.match_model.specs.WellTyped.{IsTyped, AreAllTyped, ArePartsTyped, part_is_of}
use Rattle.pattern_rules.specs.Builders.{Built, Maker, over, leaf, span, point, through_type, types_or_none, parts_from, node_ctor, form, made, made_at, wild_maker, shape, rest_bound, and_pats, row_of, tuple_of, list_of}
use Rattle.pattern_rules.specs.Elaborated.{with_bound, is_wide_ctor, standing_at, elaborated, elaborated_field, elaborated_alternatives, makers}
use Rattle.pattern_laws.proofs.KeptLeaves.{AtBottom, EachType}
use Rattle.pattern_laws.proofs.KeptParts.{FormFits}
use Rattle.pattern_laws.proofs.KeptRows.{next_number, no_more, laid_count, part_there}
use Rattle.pattern_laws.proofs.WaysKept.{makers_count}
use Rattle.pattern_laws.proofs.MadeLists.{MadeFrom, laid_made}
use Rattle.pattern_laws.proofs.Fitting.{RangeFits, IsBool, IsText, CountFits, IsNarrow, VariantFits, PointFits, ListFits, FitsIf, pats_count, Fits, FieldFits, PatsFit, AllFit}

-- the pattern is well typed for the type
abbrev pub Typed : MProgram → MType → Built → Type 0
Typed program t p = IsTyped (rust_context program) t p

-- a wildcard
wild_typed : (program : MProgram) (t : MType) → Typed program t (leaf WildCtor t)
wild_typed program t = (refl, refl, tt)

number_typed : (program : MProgram) (r : MRange) (at : ℕ) (t : MType) → RangeFits program r t →
    Typed program t (de_pat (NumbersCtor r) t 0 at no_de_pats [])
number_typed program r at t h = (refl, refl, (rw h refl, refl, tt))

flag_typed : (program : MProgram) (b : Bool) (t : MType) → IsBool t → Typed program t (leaf (FlagCtor b) t)
flag_typed program b BoolType h = (refl, refl, (refl, refl, tt))
flag_typed program b t h = absurd h

-- a reference over what it refers to
point_typed : (program : MProgram) (n : Bool) (t : MType) (p : Built) → Typed program t p →
    Typed program (PointType n t) (point (PointType n t) p)
point_typed program n t p h = (refl, refl, (refl, refl, (h, tt)))

text_typed : (program : MProgram) (s : List ℕ) (t : MType) → IsText t → list_all is_scalar s ≡ true →
    Typed program t (point t (leaf (TextCtor s) (inner_type t)))
text_typed program s (PointType false StrType) h e = point_typed program false StrType (leaf (TextCtor s) StrType)
    (refl, refl, (rw e refl, refl, tt))
text_typed program s t h e = absurd h

-- behind all references
through_typed : (program : MProgram) (P : MType → Type 0) (f : MType → Mode → Built) →
    ((u : MType) (m : Mode) → P u → Typed program u (f u m)) →
    (t : MType) (m : Mode) → AtBottom P t → Typed program t (through_type f t m)
through_typed program P f h (PointType n t) m p =
    point_typed program n t (through_type f t (mode_behind n m)) (through_typed program P f h t (mode_behind n m) p)
through_typed program P f h u m p = h u m p

pointed_typed : (program : MProgram) (mutable : Bool) (P : MType → Type 0) (f : MType → Built) →
    ((u : MType) → P u → Typed program u (f u)) →
    (t : MType) → PointFits mutable P t → Typed program t (point t (f (inner_type t)))
pointed_typed program mutable P f h (PointType n t) p = point_typed program n t (f t) (h t p.1)
pointed_typed program mutable P f h t p = absurd p

-- a name for the whole
bound_typed : (program : MProgram) (name : List ℕ) (m : Mode) (t : MType) (p : Built) → Typed program t p →
    Typed program t (with_bound (record { name = name; mode = m; part = WholePart }) p)
bound_typed program name m t (de_pat c u uid at subs binds) h = (h.0, h.1, h.2)

-- an alternative
pub standing_typed : (program : MProgram) (here : ℕ) (t : MType) (p : Built) → Typed program t p →
    Typed program t (standing_at here p)
standing_typed program here t (de_pat c u uid at subs binds) h = go (is_wide_ctor c && not (nat_eq here at))
  where
    go : (b : Bool) → Typed program t
        (if b then de_pat OrCtor u here here
        (more_de_pats (de_pat c u at at subs binds) no_de_pats) [] else de_pat c u here here subs binds)
    go true = (h.0, refl, ((h.0, h.1, h.2), tt))
    go false = (h.0, h.1, h.2)

-- the parts of a node
parts_typed : (program : MProgram) (Q : ℕ → MType → Type 0) (f : ℕ → MType → Built) →
    ((i : ℕ) (w : MType) → Q i w → Typed program w (f i w)) →
    (types : ℕ → MType) (i : ℕ) (ts : MTypes) →
    ((j : ℕ) (u : MType) → slice_get (types_list ts) j ≡ Some u → types (i + j) ≡ u) → EachType Q i ts →
    ArePartsTyped (rust_context program) types i (parts_from f i ts)
parts_typed program Q f h types i no_types at q = tt
parts_typed program Q f h types i (more_types t ts) at q =
    let first : types i ≡ t = ap types (sym (no_more i)) ∙ at 0 t refl in (
      subst (λ u. Typed program u (f i t)) (sym first) (h i t q.0),
      parts_typed program Q f h types (suc i) ts (λ j u s. ap types (next_number i j) ∙ at (suc j) u s) q.1,
    )

parts_count : (f : ℕ → MType → Built) (i : ℕ) (ts : MTypes) → length (de_pats_list (parts_from f i ts)) ≡ length
    (types_list ts)
parts_count f i no_types = refl
parts_count f i (more_types t ts) = ap suc (parts_count f (suc i) ts)

-- a node over such parts
node_typed : (program : MProgram) (Q : ℕ → MType → Type 0) (f : ℕ → MType → Built) →
    ((i : ℕ) (w : MType) → Q i w → Typed program w (f i w)) →
    (u : MType) (o : Option MTypes) → EachType Q 0 (types_or_none o) →
    (length (de_pats_list (parts_from f 0 (types_or_none o))) ≡ count_of_types o)
    × ArePartsTyped (rust_context program) (λ i. part_type u o i) 0 (parts_from f 0 (types_or_none o))
node_typed program Q f h u None q = (refl, tt)
node_typed program Q f h u (Some ts) q =
    (parts_count f 0 ts, parts_typed program Q f h (λ i. part_type u (Some ts) i) 0 ts (part_there u ts) q)

form_typed : (program : MProgram) (Q : ℕ → MType → Type 0) (f : ℕ → MType → Built) →
    ((i : ℕ) (w : MType) → Q i w → Typed program w (f i w)) →
    (k : ℕ) (written : List ℕ) (u : MType) → VariantFits program k u → FormFits program u k written →
    EachType Q 0 (types_or_none (node_types program u k)) →
    Typed program u (form program k f u)
form_typed program Q f h k written u b fit q = go (rust_set program u) refl
  where
    by_set : (st : MSet) → belongs (rust_set program u) (node_ctor st k) ≡ true → (st ≡ SingleSet → k ≡ 0) →
        Typed program u (over (node_ctor st k) u (parts_from f 0 (types_or_none (node_types program u k))))
    by_set SingleSet e single =
        let k0 : k ≡ 0 = single refl in
        let parts = node_typed program Q f h u (node_types program u k) q in (
          refl,
          refl,
          (
            rw e refl,
            parts.0 ∙ ap (λ n. count_of_types (node_types program u n)) k0,
            subst (λ n. ArePartsTyped (rust_context program) (λ i. part_type u (node_types program u n) i) 0
                (parts_from f 0 (types_or_none (node_types program u k)))) k0 parts.1,
          ),
        )
    by_set st e single =
        let parts = node_typed program Q f h u (node_types program u k) q in
        (refl, refl, (rw e refl, parts.0, parts.1))

    go : (st : MSet) → rust_set program u ≡ st →
        Typed program u (over (node_ctor (rust_set program u) k) u
        (parts_from f 0 (types_or_none (node_types program u k))))
    go st e = by_set (rust_set program u) b fit.single

-- makers make well-typed patterns one by one, each for the type with its number, from number `i` on
abbrev pub TypedFrom : MProgram → (types : ℕ → MType) → (i : ℕ) → List Maker → Type 0
TypedFrom program types i fs = MadeFrom (λ t p. Typed program t p) types i fs

-- makers at the types of a tuple
made_typed : (program : MProgram) (types : ℕ → MType) (i : ℕ) (fs : List Maker) (ts : MTypes) →
    ((j : ℕ) (u : MType) → slice_get (types_list ts) j ≡ Some u → types (i + j) ≡ u) →
    length fs ≡ length (types_list ts) → TypedFrom program types i fs →
    (length (de_pats_list (made fs ts)) ≡ length (types_list ts)) × ArePartsTyped (rust_context program) types i
    (made fs ts)
made_typed program types i [] no_types at e h = (refl, tt)
made_typed program types i (f ∷ fs) (more_types t ts) at e h =
    let first : types i ≡ t = ap types (sym (no_more i)) ∙ at 0 t refl in
    let others = made_typed program types (suc i) fs ts (λ j u s. ap types (next_number i j) ∙ at (suc j) u s)
    (omega (arith, e)) h.1 in
    (ap suc others.0, (subst (λ u. Typed program (types i) (f u)) first h.0, others.1))
made_typed program types i [] (more_types t ts) at e h = absurd (omega (arith, e))
made_typed program types i (f ∷ fs) no_types at e h = absurd (omega (arith, e))

tuple_typed : (program : MProgram) (rest : MRest) (ts : MTypes) (fs bs : List Maker) →
    CountFits rest (length fs + length bs) (length (types_list ts)) →
    TypedFrom program (part_type (TupleType ts) (Some ts)) 0 fs →
    TypedFrom program (part_type (TupleType ts) (Some ts)) (length (types_list ts) - length bs) bs →
    Typed program (TupleType ts) (tuple_of fs rest bs (TupleType ts) ts)
tuple_typed program rest ts fs bs c h k =
    let parts = made_typed program (part_type (TupleType ts) (Some ts)) 0
    (laid_out wild_maker fs rest bs (length (types_list ts))) ts (part_there (TupleType ts) ts)
    (laid_count wild_maker rest (length (types_list ts)) fs bs c)
    (laid_made (λ t p. Typed program t p) (wild_typed program) (part_type (TupleType ts) (Some ts)) rest
    (length (types_list ts)) fs bs c h k) in
    (refl, refl, (refl, parts.0, parts.1))

-- items at one type
items_typed : (program : MProgram) (t : MType) (i j : ℕ) (fs bs : List Maker) → TypedFrom program (λ n. t) i fs →
    TypedFrom program (λ n. t) j bs →
    (length (de_pats_list (and_pats (made_at fs t) (made_at bs t))) ≡ length fs + length bs)
    × ArePartsTyped (rust_context program) (λ n. t) i (and_pats (made_at fs t) (made_at bs t))
items_typed program t i j [] [] h k = (refl, tt)
items_typed program t i j [] (b ∷ bs) h k =
    let others = items_typed program t (suc i) (suc j) [] bs tt k.1 in
    (omega (arith, others.0), (k.0, others.1))
items_typed program t i j (f ∷ fs) bs h k =
    let others = items_typed program t (suc i) j fs bs h.1 k in
    (omega (arith, others.0), (h.0, others.1))

-- a name of the rest stands on a row with that rest
rest_typed : (front back : ℕ) (rest : MRest) (m : Mode) →
    list_all (λ b. part_is_of (RowCtor (shape front back rest)) b.part) (rest_bound front back rest m) ≡ true
rest_typed front back NoRest m = refl
rest_typed front back SomeRest m = refl
rest_typed front back (BoundRest name written) m = rw (nat_same front, nat_same back) refl
  where
    nat_same : (n : ℕ) → nat_eq n n ≡ true
    nat_same n = grind (arith, nat_tests)

shape_least : (front back : ℕ) (rest : MRest) → least_length (shape front back rest) ≡ front + back
shape_least front back NoRest = refl
shape_least front back SomeRest = refl
shape_least front back (BoundRest name written) = refl

row_typed : (program : MProgram) (rest : MRest) (m : Mode) (u t : MType) (fs bs : List Maker) → inner_type u ≡ t →
    belongs (rust_set program u) (RowCtor (shape (length fs) (length bs) rest)) ≡ true →
    IsNarrow (length fs + length bs) →
    TypedFrom program (λ n. t) 0 fs → TypedFrom program (λ n. t) 0 bs → Typed program u (row_of fs rest bs u t m)
row_typed program rest m u t fs bs inner b narrow h k =
    let items = items_typed program t 0 0 fs bs h k in (
      refl,
      rest_typed (length fs) (length bs) rest m,
      (
        rw (b, shape_least (length fs) (length bs) rest) narrow,
        items.0 ∙ sym (shape_least (length fs) (length bs) rest),
        subst (λ w. ArePartsTyped (rust_context program) (λ n. w) 0 (and_pats (made_at fs t) (made_at bs t)))
            (sym inner) items.1,
      ),
    )

-- a shape that fits an array's length
array_shape : (program : MProgram) (t : MType) (rest : MRest) (front back n : ℕ) → CountFits rest (front + back) n →
    belongs (rust_set program (ArrayType t n)) (RowCtor (shape front back rest)) ≡ true
array_shape program t NoRest front back n c = grind (arith, nat_tests, c)
array_shape program t SomeRest front back n c = grind (arith, nat_tests, c)
array_shape program t (BoundRest name written) front back n c = grind (arith, nat_tests, c)

pub list_typed : (program : MProgram) (front back : (ℕ → MType) → ℕ → Type 0) (fs bs : List Maker) →
    ((types : ℕ → MType) (i : ℕ) → front types i → TypedFrom program types i fs) →
    ((types : ℕ → MType) (i : ℕ) → back types i → TypedFrom program types i bs) →
    (rest : MRest) (u : MType) (m : Mode) → ListFits front rest back (length fs) (length bs) u →
    Typed program u (list_of program fs rest bs u m)
list_typed program front back fs bs h k rest (SliceType t) m q =
    row_typed program rest m (SliceType t) t fs bs refl refl q.0 (h (λ i. t) 0 q.1) (k (λ i. t) 0 q.2)
list_typed program front back fs bs h k rest (ArrayType t n) m q =
    row_typed program rest m (ArrayType t n) t fs bs refl
    (array_shape program t rest (length fs) (length bs) n q.1) q.0 (h (λ i. t) 0 q.2) (k (λ i. t) 0 q.3)
list_typed program front back fs bs h k rest (TupleType ts) m q =
    tuple_typed program rest ts fs bs q.1 (h (part_type (TupleType ts) (Some ts)) 0 q.2)
    (k (part_type (TupleType ts) (Some ts)) (length (types_list ts) - length bs) q.3)
list_typed program front back fs bs h k rest u m q = absurd q

field_typed : (program : MProgram) (b : Bool) (A C : Type 0) (t : MType) (x z : Built) → FitsIf b A C →
    (A → Typed program t x) → (C → Typed program t z) →
    Typed program t (if b then x else z)
field_typed program true A C t x z q f h = f q
field_typed program false A C t x z q f h = h q

mutual
  -- the pattern is well typed
  pub is_typed : (program : MProgram) (most : ℕ) (p : MPat) (t : MType) (m : Mode) →
      Fits program (RangeFits program) most p t → Typed program t (elaborated program p t m)
  is_typed program most WildPat t m h = wild_typed program t
  is_typed program most (NumPat n) t m h =
      through_typed program (λ u. RangeFits program (closed n n) u) (λ u m'. leaf (NumbersCtor (closed n n)) u)
      (λ u m' r. number_typed program (closed n n) 0 u r) t m h
  is_typed program most (FlagPat b) t m h = through_typed program (λ u. IsBool u) (λ u m'. leaf (FlagCtor b) u)
      (λ u m' r. flag_typed program b u r) t m h
  is_typed program most (TextPat s) t m h = text_typed program s t h.0 h.1
  is_typed program most (SpanPat at r) t m h =
      through_typed program (λ u. RangeFits program r u) (λ u m'. span at r u)
      (λ u m' q. number_typed program r (if has_one_number r then 0 else at) u q) t m h
  is_typed program most (BindPat name written p) t m h =
      bound_typed program name (mode_written to_move written m) t (elaborated program p t m)
      (is_typed program most p t m h)
  is_typed program most (FormPat k fields) t m h =
      through_typed program (λ u. VariantFits program k u × FormFits program u k (numbers_in fields)
      × EachType (λ i w. FieldFits program (RangeFits program) most fields i w) 0
      (types_or_none (node_types program u k)))
      (λ u m'. form program k (λ i w. elaborated_field program fields i w m') u)
      (λ u m' q. form_typed program (λ i w. FieldFits program (RangeFits program) most fields i w)
      (λ i w. elaborated_field program fields i w m')
      (λ i w r. field_is_typed program most fields i w m' r) k (numbers_in fields) u q.0 q.1 q.2) t m h
  is_typed program most (ListPat front rest back) t m h =
      through_typed program (λ u. ListFits (λ types i. PatsFit program (RangeFits program) most front types i) rest
      (λ types i. PatsFit program (RangeFits program) most back types i) (pats_count front) (pats_count back) u)
      (λ u m'. list_of program (makers program front m') rest (makers program back m') u m')
      (λ u m' q. list_typed program (λ types i. PatsFit program (RangeFits program) most front types i)
      (λ types i. PatsFit program (RangeFits program) most back types i) (makers program front m')
      (makers program back m')
      (λ types i f. pats_typed program most front types i m' f)
      (λ types i f. pats_typed program most back types i m' f) rest u m'
      (subst (λ n. ListFits (λ types i. PatsFit program (RangeFits program) most front types i) rest
      (λ types i. PatsFit program (RangeFits program) most back types i) (length (makers program front m')) n u)
      (sym (makers_count program back m'))
      (subst (λ n. ListFits (λ types i. PatsFit program (RangeFits program) most front types i) rest
      (λ types i. PatsFit program (RangeFits program) most back types i) n (pats_count back) u)
      (sym (makers_count program front m')) q)))
      t m h
  is_typed program most (PointPat mutable p) t m h =
      pointed_typed program mutable (λ u. Fits program (RangeFits program) most p u)
      (λ u. elaborated program p u (to_move m)) (λ u q. is_typed program most p u (to_move m) q) t h
  is_typed program most (OrPat alternatives) t m h =
      (refl, refl, alternatives_typed program most alternatives t m h.2)

  field_is_typed : (program : MProgram) (most : ℕ) (ps : MNumbered) (i : ℕ) (t : MType) (m : Mode) →
      FieldFits program (RangeFits program) most ps i t → Typed program t (elaborated_field program ps i t m)
  field_is_typed program most no_numbered i t m h = wild_typed program t
  field_is_typed program most (more_numbered j p ps) i t m h =
      field_typed program (nat_eq i j) (Fits program (RangeFits program) most p t)
      (FieldFits program (RangeFits program) most ps i t) t (elaborated program p t m)
      (elaborated_field program ps i t m) h
      (λ q. is_typed program most p t m q) (λ q. field_is_typed program most ps i t m q)

  pats_typed : (program : MProgram) (most : ℕ) (ps : MPats) (types : ℕ → MType) (i : ℕ) (m : Mode) →
      PatsFit program (RangeFits program) most ps types i → TypedFrom program types i (makers program ps m)
  pats_typed program most no_pats types i m h = tt
  pats_typed program most (more_pats p ps) types i m h =
      (is_typed program most p (types i) m h.0, pats_typed program most ps types (suc i) m h.1)

  alternatives_typed : (program : MProgram) (most : ℕ) (ps : MNumbered) (t : MType) (m : Mode) →
      AllFit program (RangeFits program) most ps t → AreAllTyped (rust_context program) t
      (elaborated_alternatives program ps t m)
  alternatives_typed program most no_numbered t m h = tt
  alternatives_typed program most (more_numbered at p ps) t m h = (
    standing_typed program at t (elaborated program p t m) (is_typed program most p t m h.0),
    alternatives_typed program most ps t m h.1,
  )
