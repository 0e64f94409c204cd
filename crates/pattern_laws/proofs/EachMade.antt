-- What holds of each way of making a pattern holds of the elaborated pattern of one that fits.
use Rattle.std.proofs.Common.{◌≡◌, ℕ, suc, ◌-◌, ◌≤◌, Bool, true, false, List, [], length, Some, nat_eq, refl, sym, ap, subst, if◌then◌else◌}
use Rattle.match_model.specs.declared.Mode.{Mode}
use Rattle.match_model.specs.Types.{MType, TupleType, PointType, SliceType, ArrayType, MTypes, no_types, more_types, types_list}
use Rattle.match_model.specs.Numbers.{MRange, closed, has_one_number}
use Rattle.match_model.specs.Declarations.{MProgram, node_types}
use Rattle.match_model.specs.RustTypes.{rust_set, part_type, inner_type}
use Rattle.match_model.specs.Constructors.{MCtor, SingleCtor, VariantCtor, RowCtor, WildCtor, OrCtor, FlagCtor, NumbersCtor, TextCtor, MSet, SingleSet}
use Rattle.match_model.specs.Patterns.{MRest, NoRest, SomeRest, BoundRest, MPat, WildPat, NumPat, FlagPat, TextPat, SpanPat, BindPat, FormPat, ListPat, PointPat, OrPat, MPats, no_pats, more_pats, MNumbered, no_numbered, more_numbered, numbers_in}
use Rattle.match_model.specs.SourcePatterns.{two_or_more}
use Rattle.match_model.specs.Matching.{to_move, mode_written, mode_behind, laid_out}
use Rattle.match_model.specs.ArenaPatterns.{WholePart, MiddlePart, MBound, de_pat, MDePats, no_de_pats, more_de_pats, de_pats_list}
use Rattle.pattern_rules.specs.Builders.{Built, Maker, over, leaf, span, point, through_type, types_or_none, parts_from, node_ctor, form, made, made_at, and_pats, wild_maker, shape, row_of, list_of}
use Rattle.pattern_rules.specs.Elaborated.{with_bound, standing_at, elaborated, elaborated_field, elaborated_alternatives, makers}
use Rattle.pattern_laws.proofs.KeptLeaves.{AtBottom, EachType}
use Rattle.pattern_laws.proofs.KeptParts.{FormFits}
use Rattle.pattern_laws.proofs.KeptRows.{part_there}
use Rattle.pattern_laws.proofs.WaysKept.{makers_count}
use Rattle.pattern_laws.proofs.MadeLists.{MadeFrom, laid_made, EachIs, made_each, items_each}
use Rattle.pattern_laws.proofs.Fitting.{IsBool, IsText, VariantFits, PointFits, ListFits, FitsIf, pats_count, numbered_count, Fits, FieldFits, PatsFit, AllFit}

-- a constructor of a struct, tuple, variant or row
abbrev pub IsNode : MCtor → Type 0
IsNode SingleCtor = Unit {0}
IsNode (VariantCtor k) = Unit {0}
IsNode (RowCtor s) = Unit {0}
IsNode _ = ⊥

-- there are two patterns or more
abbrev pub HasTwo : MDePats MType → Type 0
HasTwo no_de_pats = ⊥
HasTwo (more_de_pats p no_de_pats) = ⊥
HasTwo (more_de_pats p (more_de_pats q ps)) = Unit {0}

module _ (program : MProgram) (Holds : MRange → MType → Type 0) (most : ℕ) (Q : Built → Type 0)
    (wild : (t : MType) → Q (leaf WildCtor t))
    (number : (t : MType) (r : MRange) (at : ℕ) → Holds r t → Q (de_pat (NumbersCtor r) t 0 at no_de_pats []))
    (flag : (t : MType) (b : Bool) → Q (leaf (FlagCtor b) t))
    (text : (t : MType) (s : List ℕ) → IsText t → Q (point t (leaf (TextCtor s) (inner_type t))))
    (reference : (t : MType) (p : Built) → Q p → Q (point t p))
    (node : (c : MCtor) (t : MType) (subs : MDePats MType) → IsNode c → EachIs Q subs → Q (over c t subs))
    (choice : (t : MType) (subs : MDePats MType) → HasTwo subs → length (de_pats_list subs) ≤ most → EachIs Q subs →
    Q (over OrCtor t subs))
    (bound : (b : MBound) (p : Built) → Q p → Q (with_bound b p))
    (standing : (a : ℕ) (p : Built) → Q p → Q (standing_at a p)) where
  through_each : (P : MType → Type 0) (f : MType → Mode → Built) → ((u : MType) (m : Mode) → P u → Q (f u m)) →
      (t : MType) (m : Mode) → AtBottom P t → Q (through_type f t m)
  through_each P f h (PointType n t) m p = reference (PointType n t) (through_type f t (mode_behind n m))
      (through_each P f h t (mode_behind n m) p)
  through_each P f h u m p = h u m p

  pointed_each : (mutable : Bool) (P : MType → Type 0) (f : MType → Built) → ((u : MType) → P u → Q (f u)) →
      (t : MType) → PointFits mutable P t → Q (point t (f (inner_type t)))
  pointed_each mutable P f h (PointType n t) p = reference (PointType n t) (f t) (h t p.1)
  pointed_each mutable P f h t p = absurd p

  parts_each : (A : ℕ → MType → Type 0) (f : ℕ → MType → Built) → ((i : ℕ) (w : MType) → A i w → Q (f i w)) →
      (i : ℕ) (ts : MTypes) → EachType A i ts → EachIs Q (parts_from f i ts)
  parts_each A f h i no_types q = tt
  parts_each A f h i (more_types t ts) q = (h i t q.0, parts_each A f h (suc i) ts q.1)

  node_is : (st : MSet) (k : ℕ) → IsNode (node_ctor st k)
  node_is SingleSet k = tt
  node_is st k = tt

  row_each : (rest : MRest) (m : Mode) (u t : MType) (fs bs : List Maker) → MadeFrom (λ w p. Q p) (λ n. t) 0 fs →
      MadeFrom (λ w p. Q p) (λ n. t) 0 bs → Q (row_of fs rest bs u t m)
  row_each NoRest m u t fs bs h k = node (RowCtor (shape (length fs) (length bs) NoRest)) u
      (and_pats (made_at fs t) (made_at bs t)) tt (items_each Q t 0 0 fs bs h k)
  row_each SomeRest m u t fs bs h k = node (RowCtor (shape (length fs) (length bs) SomeRest)) u
      (and_pats (made_at fs t) (made_at bs t)) tt (items_each Q t 0 0 fs bs h k)
  row_each (BoundRest name written) m u t fs bs h k =
      bound (record { name = name; mode = mode_written to_move written m; part = MiddlePart (length fs) (length bs) })
      (over (RowCtor (shape (length fs) (length bs) (BoundRest name written))) u
      (and_pats (made_at fs t) (made_at bs t)))
      (node (RowCtor (shape (length fs) (length bs) (BoundRest name written))) u
      (and_pats (made_at fs t) (made_at bs t)) tt (items_each Q t 0 0 fs bs h k))

  list_each : (front back : (ℕ → MType) → ℕ → Type 0) (fs bs : List Maker) →
      ((types : ℕ → MType) (i : ℕ) → front types i → MadeFrom (λ w p. Q p) types i fs) →
      ((types : ℕ → MType) (i : ℕ) → back types i → MadeFrom (λ w p. Q p) types i bs) → (rest : MRest) (u : MType)
      (m : Mode) → ListFits front rest back (length fs) (length bs) u →
      Q (list_of program fs rest bs u m)
  list_each front back fs bs h k rest (SliceType t) m q = row_each rest m (SliceType t) t fs bs (h (λ i. t) 0 q.1)
      (k (λ i. t) 0 q.2)
  list_each front back fs bs h k rest (ArrayType t n) m q = row_each rest m (ArrayType t n) t fs bs (h (λ i. t) 0 q.2)
      (k (λ i. t) 0 q.3)
  list_each front back fs bs h k rest (TupleType ts) m q =
      node SingleCtor (TupleType ts) (made (laid_out wild_maker fs rest bs (length (types_list ts))) ts) tt
      (made_each Q (part_type (TupleType ts) (Some ts)) 0 (laid_out wild_maker fs rest bs (length (types_list ts))) ts
      (part_there (TupleType ts) ts)
      (laid_made (λ w p. Q p) wild (part_type (TupleType ts) (Some ts)) rest (length (types_list ts)) fs bs q.1
      (h (part_type (TupleType ts) (Some ts)) 0 q.2)
      (k (part_type (TupleType ts) (Some ts)) (length (types_list ts) - length bs) q.3)))
  list_each front back fs bs h k rest u m q = absurd q

  field_each : (b : Bool) (A C : Type 0) (x z : Built) → FitsIf b A C → (A → Q x) → (C → Q z) → Q (if b then x else z)
  field_each true A C x z q f h = f q
  field_each false A C x z q f h = h q

  two_made : (ps : MNumbered) (t : MType) (m : Mode) → two_or_more ps ≡ true →
      HasTwo (elaborated_alternatives program ps t m)
  two_made no_numbered t m h = cc
  two_made (more_numbered a p no_numbered) t m h = cc
  two_made (more_numbered a p (more_numbered b q ps)) t m h = tt

  made_count : (ps : MNumbered) (t : MType) (m : Mode) →
      length (de_pats_list (elaborated_alternatives program ps t m)) ≡ numbered_count ps
  made_count no_numbered t m = refl
  made_count (more_numbered a p ps) t m = ap suc (made_count ps t m)

  mutual
    pub each_made : (p : MPat) (t : MType) (m : Mode) → Fits program Holds most p t → Q (elaborated program p t m)
    each_made WildPat t m h = wild t
    each_made (NumPat n) t m h = through_each (λ u. Holds (closed n n) u) (λ u m'. leaf (NumbersCtor (closed n n)) u)
        (λ u m' q. number u (closed n n) 0 q) t m h
    each_made (FlagPat b) t m h = through_each (λ u. IsBool u) (λ u m'. leaf (FlagCtor b) u)
        (λ u m' q. flag u b) t m h
    each_made (TextPat s) t m h = text t s h.0
    each_made (SpanPat at r) t m h = through_each (λ u. Holds r u) (λ u m'. span at r u)
        (λ u m' q. number u r (if has_one_number r then 0 else at) q) t m h
    each_made (BindPat name written p) t m h = bound
        (record { name = name; mode = mode_written to_move written m; part = WholePart }) (elaborated program p t m)
        (each_made p t m h)
    each_made (FormPat k fields) t m h =
        through_each (λ u. VariantFits program k u × FormFits program u k (numbers_in fields)
        × EachType (λ i w. FieldFits program Holds most fields i w) 0 (types_or_none (node_types program u k)))
        (λ u m'. form program k (λ i w. elaborated_field program fields i w m') u)
        (λ u m' q. node (node_ctor (rust_set program u) k) u
        (parts_from (λ i w. elaborated_field program fields i w m') 0 (types_or_none (node_types program u k)))
        (node_is (rust_set program u) k)
        (parts_each (λ i w. FieldFits program Holds most fields i w) (λ i w. elaborated_field program fields i w m')
        (λ i w r. field_made fields i w m' r) 0 (types_or_none (node_types program u k)) q.2)) t m h
    each_made (ListPat front rest back) t m h =
        through_each (λ u. ListFits (λ types i. PatsFit program Holds most front types i) rest
        (λ types i. PatsFit program Holds most back types i) (pats_count front) (pats_count back) u)
        (λ u m'. list_of program (makers program front m') rest (makers program back m') u m')
        (λ u m' q. list_each (λ types i. PatsFit program Holds most front types i)
        (λ types i. PatsFit program Holds most back types i) (makers program front m') (makers program back m')
        (λ types i f. pats_made front types i m' f) (λ types i f. pats_made back types i m' f) rest u m'
        (subst (λ n. ListFits (λ types i. PatsFit program Holds most front types i) rest
        (λ types i. PatsFit program Holds most back types i) (length (makers program front m')) n u)
        (sym (makers_count program back m'))
        (subst (λ n. ListFits (λ types i. PatsFit program Holds most front types i) rest
        (λ types i. PatsFit program Holds most back types i) n (pats_count back) u)
        (sym (makers_count program front m')) q)))
        t m h
    each_made (PointPat mutable p) t m h =
        pointed_each mutable (λ u. Fits program Holds most p u) (λ u. elaborated program p u (to_move m))
        (λ u q. each_made p u (to_move m) q) t h
    each_made (OrPat alternatives) t m h =
        choice t (elaborated_alternatives program alternatives t m) (two_made alternatives t m h.0)
        (subst (λ n. n ≤ most) (sym (made_count alternatives t m)) h.1) (alternatives_made alternatives t m h.2)

    field_made : (ps : MNumbered) (i : ℕ) (t : MType) (m : Mode) → FieldFits program Holds most ps i t →
        Q (elaborated_field program ps i t m)
    field_made no_numbered i t m h = wild t
    field_made (more_numbered j p ps) i t m h =
        field_each (nat_eq i j) (Fits program Holds most p t) (FieldFits program Holds most ps i t)
        (elaborated program p t m) (elaborated_field program ps i t m) h
        (λ q. each_made p t m q) (λ q. field_made ps i t m q)

    pats_made : (ps : MPats) (types : ℕ → MType) (i : ℕ) (m : Mode) → PatsFit program Holds most ps types i →
        MadeFrom (λ w p. Q p) types i (makers program ps m)
    pats_made no_pats types i m h = tt
    pats_made (more_pats p ps) types i m h = (each_made p (types i) m h.0, pats_made ps types (suc i) m h.1)

    alternatives_made : (ps : MNumbered) (t : MType) (m : Mode) → AllFit program Holds most ps t →
        EachIs Q (elaborated_alternatives program ps t m)
    alternatives_made no_numbered t m h = tt
    alternatives_made (more_numbered at p ps) t m h = (
      standing at (elaborated program p t m) (each_made p t m h.0),
      alternatives_made ps t m h.1,
    )
