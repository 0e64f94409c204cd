-- A pattern that fits its type keeps its ways as it is elaborated.
use Rattle.std.proofs.Common.{◌≡◌, ℕ, suc, Bool, true, false, List, length, map, nat_eq, refl, sym, ap, subst, ◌∙◌, if◌then◌else◌}
use Rattle.match_model.specs.declared.Mode.{Mode}
use Rattle.match_model.specs.Types.{MType, StrType, PointType}
use Rattle.match_model.specs.Values.{MValue, Point}
use Rattle.match_model.specs.Numbers.{MRange, closed}
use Rattle.match_model.specs.Declarations.{MProgram, node_types}
use Rattle.match_model.specs.Constructors.{NumbersCtor, FlagCtor, TextCtor}
use Rattle.match_model.specs.RustTypes.{inner_type}
use Rattle.match_model.specs.Typing.{is_value}
use Rattle.match_model.specs.SourcePatterns.{two_or_more}
use Rattle.match_model.specs.Patterns.{MPat, WildPat, NumPat, FlagPat, TextPat, SpanPat, BindPat, FormPat, ListPat, PointPat, OrPat, MPats, no_pats, more_pats, MNumbered, no_numbered, more_numbered, numbers_in}
use Rattle.match_model.specs.Ways.{Way, under, choosing, binding}
use Rattle.match_model.specs.Matching.{Matcher, to_move, mode_written, ways, matchers, field_ways, alternatives_ways, number_ways, flag_ways, text_ways, span_ways, form_ways, list_ways, point_ways}
use Rattle.match_model.specs.ArenaPatterns.{WholePart, uid_of}
use Rattle.match_model.specs.ArenaWays.{arena_ways, arena_alternatives_ways, chosen_of}
use Rattle.pattern_rules.specs.Builders.{Built, leaf, span, point, types_or_none, form, list_of}
use Rattle.pattern_rules.specs.Elaborated.{standing_at, elaborated, elaborated_field, elaborated_alternatives, makers}
use Rattle.pattern_laws.proofs.KeptLeaves.{with_none, point_keeps, point_value, EachType, through_keeps, number_keeps, flag_keeps, span_keeps, text_keeps, add_keeps}
use Rattle.pattern_laws.proofs.KeptParts.{FormFits, standing_keeps, form_keeps}
use Rattle.pattern_laws.proofs.KeptRows.{KeepFrom, list_keeps}
use Rattle.pattern_laws.proofs.Fitting.{IsBool, IsText, VariantFits, PointFits, ListFits, FitsIf, pats_count, Fits, FieldFits, PatsFit, AllFit}

-- a text at `&str`
text_point_keeps : (program : MProgram) (s : List ℕ) (t : MType) (sure : Bool) (v : MValue) → IsText t →
    is_value program sure t v ≡ true →
    arena_ways (point t (leaf (TextCtor s) (inner_type t))) v ≡ text_ways s v
text_point_keeps program s (PointType false StrType) sure v h e = go (point_value program sure false StrType v e)
  where
    go : (w : MValue) × (v ≡ Point false w) × (is_value program false StrType w ≡ true) →
        arena_ways (point (PointType false StrType) (leaf (TextCtor s) StrType)) v ≡ text_ways s v
    go (w, i, j) = rw i (point_keeps (PointType false StrType) (leaf (TextCtor s) StrType) false w
        ∙ text_keeps s StrType w)
text_point_keeps program s t sure v h e = absurd h

point_ways_same : (n : Bool) (g : Matcher) (w : MValue) → map (under 0) (g w) ≡ point_ways n g (Point n w)
point_ways_same true g w = refl
point_ways_same false g w = refl

-- a written reference
point_pattern_keeps : (program : MProgram) (mutable : Bool) (P : MType → Type 0) (f : MType → Built) (g : Matcher) →
    ((u : MType) (w : MValue) → P u → is_value program false u w ≡ true → arena_ways (f u) w ≡ g w) →
    (t : MType) (sure : Bool) (v : MValue) → PointFits mutable P t → is_value program sure t v ≡ true →
    arena_ways (point t (f (inner_type t))) v ≡ point_ways mutable g v
point_pattern_keeps program mutable P f g h (PointType n t) sure v p e = go (point_value program sure n t v e)
  where
    go : (w : MValue) × (v ≡ Point n w) × (is_value program false t w ≡ true) →
        arena_ways (point (PointType n t) (f t)) v ≡ point_ways mutable g v
    go (w, i, j) =
        rw (i, p.0) (point_keeps (PointType n t) (f t) n w ∙ ap (map (under 0)) (h t w p.1 j) ∙ point_ways_same n g w)
point_pattern_keeps program mutable P f g h t sure v p e = absurd p

-- two alternatives or more are a choice
two_choose : (program : MProgram) (ps : MNumbered) (t : MType) (m : Mode) (v : MValue) → two_or_more ps ≡ true →
    arena_alternatives_ways (chosen_of (elaborated_alternatives program ps t m))
    (elaborated_alternatives program ps t m) v
    ≡ arena_alternatives_ways (λ uid w. choosing uid w) (elaborated_alternatives program ps t m) v
two_choose program no_numbered t m v h = cc
two_choose program (more_numbered a p no_numbered) t m v h = cc
two_choose program (more_numbered a p (more_numbered b q ps)) t m v h = refl

part_of_two_keeps : (b : Bool) (A C : Type 0) (x z : Built) (xs zs : List Way) (v : MValue) → FitsIf b A C →
    (A → arena_ways x v ≡ xs) → (C → arena_ways z v ≡ zs) → arena_ways (if b then x else z) v ≡ (if b then xs else zs)
part_of_two_keeps true A C x z xs zs v q f h = f q
part_of_two_keeps false A C x z xs zs v q f h = h q

pub makers_count : (program : MProgram) (ps : MPats) (m : Mode) → length (makers program ps m) ≡ pats_count ps
makers_count program no_pats m = refl
makers_count program (more_pats p ps) m = ap suc (makers_count program ps m)

mutual
  -- the ways of the pattern
  pub keeps : (program : MProgram) (Holds : MRange → MType → Type 0) (most : ℕ) (p : MPat) (t : MType) (m : Mode)
      (sure : Bool) (v : MValue) → Fits program Holds most p t →
      is_value program sure t v ≡ true → arena_ways (elaborated program p t m) v ≡ ways p m v
  keeps program Holds most WildPat t m sure v h e = refl
  keeps program Holds most (NumPat n) t m sure v h e =
      through_keeps program (λ u. Holds (closed n n) u) (λ u m'. leaf (NumbersCtor (closed n n)) u)
      (λ m' w. number_ways n w)
      (λ u m' sure' w b h' e'. number_keeps n u w) t m sure v h e
  keeps program Holds most (FlagPat b) t m sure v h e =
      through_keeps program (λ u. IsBool u) (λ u m'. leaf (FlagCtor b) u) (λ m' w. flag_ways b w)
      (λ u m' sure' w c h' e'. flag_keeps b u w) t m sure v h e
  keeps program Holds most (TextPat s) t m sure v h e = text_point_keeps program s t sure v h.0 e
  keeps program Holds most (SpanPat at r) t m sure v h e =
      through_keeps program (λ u. Holds r u) (λ u m'. span at r u) (λ m' w. span_ways at r w)
      (λ u m' sure' w c h' e'. span_keeps at r u w) t m sure v h e
  keeps program Holds most (BindPat name written p) t m sure v h e =
      add_keeps (record { name = name; mode = mode_written to_move written m; part = WholePart })
      (elaborated program p t m) v
      ∙ ap (map (binding name (mode_written to_move written m) v)) (keeps program Holds most p t m sure v h e)
  keeps program Holds most (FormPat k fields) t m sure v h e =
      through_keeps program (λ u. VariantFits program k u × FormFits program u k (numbers_in fields)
      × EachType (λ i w. FieldFits program Holds most fields i w) 0 (types_or_none (node_types program u k)))
      (λ u m'. form program k (λ i w. elaborated_field program fields i w m') u)
      (λ m' w. form_ways k (numbers_in fields) (λ i u. field_ways to_move fields m' i u) w)
      (λ u m' sure' w b h' e'. form_keeps program sure' (λ i w. FieldFits program Holds most fields i w)
      (λ i w. elaborated_field program fields i w m')
      (λ i u. field_ways to_move fields m' i u)
      (λ i u x q y. field_keeps program Holds most fields i u m' sure' x q y) k
      (numbers_in fields) u w h'.1 h'.2 e') t m sure v h e
  keeps program Holds most (ListPat front rest back) t m sure v h e =
      through_keeps program (λ u. ListFits (λ types i. PatsFit program Holds most front types i) rest
      (λ types i. PatsFit program Holds most back types i) (pats_count front) (pats_count back) u)
      (λ u m'. list_of program (makers program front m') rest (makers program back m') u m')
      (λ m' w. list_ways to_move (matchers to_move front m') rest (matchers to_move back m') m' w)
      (λ u m' sure' w b h' e'. list_keeps program (λ types i. PatsFit program Holds most front types i)
      (λ types i. PatsFit program Holds most back types i)
      (makers program front m') (makers program back m') (matchers to_move front m') (matchers to_move back m')
      (λ s types i f. pats_keep program Holds most front types i m' s f)
      (λ s types i f. pats_keep program Holds most back types i m' s f) rest u m' sure' w
      (subst (λ n. ListFits (λ types i. PatsFit program Holds most front types i) rest
      (λ types i. PatsFit program Holds most back types i) (length (makers program front m')) n u)
      (sym (makers_count program back m'))
      (subst (λ n. ListFits (λ types i. PatsFit program Holds most front types i) rest
      (λ types i. PatsFit program Holds most back types i) n (pats_count back) u)
      (sym (makers_count program front m')) h')) e')
      t m sure v h e
  keeps program Holds most (PointPat mutable p) t m sure v h e =
      point_pattern_keeps program mutable (λ u. Fits program Holds most p u) (λ u. elaborated program p u (to_move m))
      (λ w. ways p (to_move m) w)
      (λ u w x y. keeps program Holds most p u (to_move m) false w x y) t sure v h e
  keeps program Holds most (OrPat alternatives) t m sure v h e =
      with_none v (arena_alternatives_ways (chosen_of (elaborated_alternatives program alternatives t m))
      (elaborated_alternatives program alternatives t m) v)
      ∙ two_choose program alternatives t m v h.0 ∙ alternatives_keep program Holds most alternatives t m sure v h.2 e

  -- those of the field with this number
  pub field_keeps : (program : MProgram) (Holds : MRange → MType → Type 0) (most : ℕ) (ps : MNumbered) (i : ℕ)
      (t : MType) (m : Mode) (sure : Bool) (v : MValue) → FieldFits program Holds most ps i t →
      is_value program sure t v ≡ true → arena_ways (elaborated_field program ps i t m) v
      ≡ field_ways to_move ps m i v
  field_keeps program Holds most no_numbered i t m sure v h e = refl
  field_keeps program Holds most (more_numbered j p ps) i t m sure v h e =
      part_of_two_keeps (nat_eq i j) (Fits program Holds most p t) (FieldFits program Holds most ps i t)
      (elaborated program p t m) (elaborated_field program ps i t m)
      (ways p m v) (field_ways to_move ps m i v) v h (λ x. keeps program Holds most p t m sure v x e)
      (λ x. field_keeps program Holds most ps i t m sure v x e)

  -- those of the items of a list
  pub pats_keep : (program : MProgram) (Holds : MRange → MType → Type 0) (most : ℕ) (ps : MPats) (types : ℕ → MType)
      (i : ℕ) (m : Mode) (sure : Bool) → PatsFit program Holds most ps types i →
      KeepFrom program sure types i (makers program ps m) (matchers to_move ps m)
  pats_keep program Holds most no_pats types i m sure h = tt
  pats_keep program Holds most (more_pats p ps) types i m sure h = (
    λ v e. keeps program Holds most p (types i) m sure v h.0 e,
    pats_keep program Holds most ps types
        (suc i) m sure h.1,
  )

  -- those of alternatives
  pub alternatives_keep : (program : MProgram) (Holds : MRange → MType → Type 0) (most : ℕ) (ps : MNumbered)
      (t : MType) (m : Mode) (sure : Bool) (v : MValue) → AllFit program Holds most ps t →
      is_value program sure t v ≡ true →
      arena_alternatives_ways (λ uid w. choosing uid w) (elaborated_alternatives program ps t m) v
      ≡ alternatives_ways to_move ps m v
  alternatives_keep program Holds most no_numbered t m sure v h e = refl
  alternatives_keep program Holds most (more_numbered a p ps) t m sure v h e =
      let k : (arena_ways (standing_at a (elaborated program p t m)) v ≡ arena_ways (elaborated program p t m) v)
      × (uid_of (standing_at a (elaborated program p t m)) ≡ a) =
      ((standing_keeps a (elaborated program p t m) v).0, (standing_keeps a (elaborated program p t m) v).1) in
      rw (
        k.1,
        k.0,
        keeps program Holds most p t m sure v h.0 e,
        alternatives_keep program Holds most ps t m sure v h.1 e,
      ) refl
