-- Whether a written pattern matches a value does not depend on where it and its parts stand.
use Rattle.std.proofs.Common.{◌≡◌, ℕ, zero, suc, ◌+◌, ◌-◌, Bool, true, false, not, ◌&&◌, ◌||◌, List, [], ◌∷◌, ◌++◌, map, replicate, length, nat_eq, refl, sym, ap, ◌∙◌}
use Rattle.std.specs.Prelude.{⊤, if◌then◌else◌}
use Rattle.match_model.specs.declared.Mode.{Mode}
use Rattle.match_model.specs.Types.{MType}
use Rattle.match_model.specs.Constructors.{SingleCtor}
use Rattle.match_model.specs.RustTypes.{rust_arity, inner_type}
use Rattle.match_model.specs.Values.{MValue, Flag, Num, Text, Node, Point, Row, MValues, values_list}
use Rattle.match_model.specs.Match.{is_empty_list}
use Rattle.match_model.specs.Numbers.{MRange, in_range}
use Rattle.match_model.specs.Matching.{Matcher, wild, mode_behind, through_points, span_way, parts_ways, are_parts, form_ways, items_ways, laid_out, middle_of, bind_rest, list_items_ways, list_ways, point_ways, mode_written, matchers, field_ways, alternatives_ways, ways, to_move}
use Rattle.match_model.specs.Patterns.{MRest, NoRest, SomeRest, BoundRest, MPat, WildPat, NumPat, FlagPat, TextPat, SpanPat, BindPat, FormPat, ListPat, PointPat, OrPat, MPats, no_pats, more_pats, MNumbered, no_numbered, more_numbered, numbers_in}
use Rattle.match_model.specs.Ways.{Way, under, combine, choosing, binding}
use Rattle.decl_syntax.specs.Patterns.{PatternTree, At, Shape, PatternTrees, FieldTrees, no_field, and_field}
use Rattle.decl_syntax.specs.Patterns as patterns
use Rattle.decl_syntax.specs.Widths.{pattern_count}
use Rattle.pattern_rules.specs.Settings.{Setting, program, bottom_type}
use Rattle.pattern_rules.specs.Namings.{found_by, found_ctor, found_number, field_names, field_number, fields_found}
use Rattle.pattern_rules.specs.Nodes.{is_rest, is_rest_shape, is_dots, shape_of, part_behind, part_types}
use Rattle.pattern_rules.specs.OtherRules.{written}
use Rattle.pattern_rules.specs.Resolved.{rest_in, rest_of, resolved, resolved_shape, form_parts, form_fields, front_items, back_items, alternatives}
use Rattle.arm_laws.specs.Patterns.{without_places, shape_without, all_without, fields_without}
use Rattle.arm_laws.specs.TakesLaws.{OffsetsAreAlone}
use Rattle.arm_laws.proofs.Matched.{some, some_map, some_combine}

-- ---- patterns without offsets

abbrev mutual
  pub bare : MPat → MPat
  bare WildPat = WildPat
  bare (NumPat n) = NumPat n
  bare (FlagPat b) = FlagPat b
  bare (TextPat t) = TextPat t
  bare (SpanPat at r) = SpanPat 0 r
  bare (BindPat name w p) = BindPat name w (bare p)
  bare (FormPat k fields) = FormPat k (bare_fields fields)
  bare (ListPat front rest back) = ListPat (bare_items front) rest (bare_items back)
  bare (PointPat mutable p) = PointPat mutable (bare p)
  bare (OrPat ps) = OrPat (bare_choices ps)

  pub bare_items : MPats → MPats
  bare_items no_pats = no_pats
  bare_items (more_pats p ps) = more_pats (bare p) (bare_items ps)

  pub bare_fields : MNumbered → MNumbered
  bare_fields no_numbered = no_numbered
  bare_fields (more_numbered n p ps) = more_numbered n (bare p) (bare_fields ps)

  pub bare_choices : MNumbered → MNumbered
  bare_choices no_numbered = no_numbered
  bare_choices (more_numbered n p ps) = more_numbered 0 (bare p) (bare_choices ps)

-- ---- they match the same values

-- both match the same values
abbrev Alike : Matcher → Matcher → Type 0
Alike f g = (v : MValue) → some (f v) ≡ some (g v)

abbrev AreAlike : List Matcher → List Matcher → Type 0
AreAlike [] [] = ⊤
AreAlike [] (g ∷ gs) = ⊥
AreAlike (f ∷ fs) [] = ⊥
AreAlike (f ∷ fs) (g ∷ gs) = Alike f g × AreAlike fs gs

appended : (xs ys : List Way) → some (xs ++ ys) ≡ (some xs || some ys)
appended [] ys = refl
appended (x ∷ xs) ys = refl

same_map : (f g : Way → Way) (xs ys : List Way) → some xs ≡ some ys → some (map f xs) ≡ some (map g ys)
same_map f g xs ys e = some_map f xs ∙ e ∙ sym (some_map g ys)

same_combine : (xs ys us vs : List Way) → some xs ≡ some ys → some us ≡ some vs → some (combine xs us) ≡ some
    (combine ys vs)
same_combine xs ys us vs e f =
    some_combine xs us ∙ ap (λ b. b && some us) e ∙ ap (λ b. some ys && b) f ∙ sym (some_combine ys vs)

through_alike : (f g : Mode → Matcher) → ((m : Mode) → Alike (f m) (g m)) → (m : Mode) (v : MValue) →
    some (through_points f m v) ≡ some (through_points g m v)
through_alike f g h m (Point mutable w) =
    same_map (under 0) (under 0) (through_points f (mode_behind mutable m) w)
    (through_points g (mode_behind mutable m) w) (through_alike f g h (mode_behind mutable m) w)
through_alike f g h m v = h m v

span_alike : (at : ℕ) (r : MRange) (m : Mode) (v : MValue) → some (ways (SpanPat 0 r) m v) ≡ some
    (ways (SpanPat at r) m v)
span_alike at r m (Num x) = by (in_range r x)
  where
    by : (b : Bool) → some (if b then span_way 0 r ∷ [] else []) ≡ some (if b then span_way at r ∷ [] else [])
    by true = refl
    by false = refl
span_alike at r m (Point mutable w) =
    same_map (under 0) (under 0) (ways (SpanPat 0 r) (mode_behind mutable m) w)
    (ways (SpanPat at r) (mode_behind mutable m) w) (span_alike at r (mode_behind mutable m) w)
span_alike at r m v = refl

items_alike : (fs gs : List Matcher) → AreAlike fs gs → (i : ℕ) (vs : List MValue) →
    some (items_ways fs i vs) ≡ some (items_ways gs i vs)
items_alike [] [] h i [] = refl
items_alike [] [] h i (v ∷ vs) = refl
items_alike [] (g ∷ gs) h i vs = absurd h
items_alike (f ∷ fs) [] h i vs = absurd h
items_alike (f ∷ fs) (g ∷ gs) h i [] = refl
items_alike (f ∷ fs) (g ∷ gs) h i (v ∷ vs) =
    same_combine (map (under i) (f v)) (map (under i) (g v)) (items_ways fs (suc i) vs) (items_ways gs (suc i) vs)
    (same_map (under i) (under i) (f v) (g v) (h.0 v)) (items_alike fs gs h.1 (suc i) vs)

parts_alike : (f g : ℕ → Matcher) → ((i : ℕ) → Alike (f i) (g i)) → (i : ℕ) (vs : List MValue) →
    some (parts_ways f i vs) ≡ some (parts_ways g i vs)
parts_alike f g h i [] = refl
parts_alike f g h i (v ∷ vs) =
    same_combine (map (under i) (f i v)) (map (under i) (g i v)) (parts_ways f (suc i) vs) (parts_ways g (suc i) vs)
    (same_map (under i) (under i) (f i v) (g i v) (h i v)) (parts_alike f g h (suc i) vs)

both_alike : (fs gs hs ks : List Matcher) → AreAlike fs gs → AreAlike hs ks → AreAlike (fs ++ hs) (gs ++ ks)
both_alike [] [] hs ks a b = b
both_alike [] (g ∷ gs) hs ks a b = absurd a
both_alike (f ∷ fs) [] hs ks a b = absurd a
both_alike (f ∷ fs) (g ∷ gs) hs ks a b = (a.0, both_alike fs gs hs ks a.1 b)

wild_alike : (n : ℕ) → AreAlike (replicate n wild) (replicate n wild)
wild_alike zero = tt
wild_alike (suc n) = ((λ v. refl), wild_alike n)

alike_length : (fs gs : List Matcher) → AreAlike fs gs → length fs ≡ length gs
alike_length [] [] h = refl
alike_length [] (g ∷ gs) h = absurd h
alike_length (f ∷ fs) [] h = absurd h
alike_length (f ∷ fs) (g ∷ gs) h = ap suc (alike_length fs gs h.1)

-- a rest stands for as many items
filled_alike : (fs gs hs ks : List Matcher) (n : ℕ) → AreAlike fs gs → AreAlike hs ks →
    AreAlike (fs ++ (replicate (n - (length fs + length hs)) wild ++ hs))
    (gs ++ (replicate (n - (length gs + length ks)) wild ++ ks))
filled_alike fs gs hs ks n a b =
    rw (alike_length fs gs a, alike_length hs ks b) (both_alike fs gs
    (replicate (n - (length gs + length ks)) wild ++ hs)
    (replicate (n - (length gs + length ks)) wild ++ ks) a
    (both_alike (replicate (n - (length gs + length ks)) wild) (replicate (n - (length gs + length ks)) wild) hs ks
    (wild_alike (n - (length gs + length ks))) b))

laid_alike : (fs gs hs ks : List Matcher) (rest : MRest) (n : ℕ) → AreAlike fs gs → AreAlike hs ks →
    AreAlike (laid_out wild fs rest hs n) (laid_out wild gs rest ks n)
laid_alike fs gs hs ks NoRest n a b = both_alike fs gs hs ks a b
laid_alike fs gs hs ks SomeRest n a b = filled_alike fs gs hs ks n a b
laid_alike fs gs hs ks (BoundRest name w) n a b = filled_alike fs gs hs ks n a b

list_alike : (fs gs hs ks : List Matcher) (rest : MRest) (m : Mode) (vs : List MValue) → AreAlike fs gs →
    AreAlike hs ks →
    some (list_items_ways to_move fs rest hs m vs) ≡ some (list_items_ways to_move gs rest ks m vs)
list_alike fs gs hs ks rest m vs a b =
    same_map (bind_rest to_move rest m (middle_of (length fs) (length hs) vs))
    (bind_rest to_move rest m (middle_of (length gs) (length ks) vs))
    (items_ways (laid_out wild fs rest hs (length vs)) 0 vs) (items_ways (laid_out wild gs rest ks (length vs)) 0 vs)
    (items_alike (laid_out wild fs rest hs (length vs)) (laid_out wild gs rest ks (length vs))
    (laid_alike fs gs hs ks rest (length vs) a b) 0 vs)

rows_alike : (fs gs hs ks : List Matcher) (rest : MRest) (m : Mode) (v : MValue) → AreAlike fs gs →
    AreAlike hs ks → some (list_ways to_move fs rest hs m v) ≡ some (list_ways to_move gs rest ks m v)
rows_alike fs gs hs ks rest m (Node k parts) a b = list_alike fs gs hs ks rest m (values_list parts) a b
rows_alike fs gs hs ks rest m (Row items) a b = list_alike fs gs hs ks rest m (values_list items) a b
rows_alike fs gs hs ks rest m v a b = refl

forms_alike : (k : ℕ) (ns : List ℕ) (f g : ℕ → Matcher) → ((i : ℕ) → Alike (f i) (g i)) → (v : MValue) →
    some (form_ways k ns f v) ≡ some (form_ways k ns g v)
forms_alike k ns f g h (Node j parts) = by (nat_eq k j && are_parts ns (length (values_list parts)))
  where
    by : (b : Bool) →
        some (if b then parts_ways f 0 (values_list parts) else []) ≡ some
        (if b then parts_ways g 0 (values_list parts) else [])
    by true = parts_alike f g h 0 (values_list parts)
    by false = refl
forms_alike k ns f g h v = refl

points_alike : (mutable : Bool) (f g : Matcher) → Alike f g → Alike (point_ways mutable f) (point_ways mutable g)
points_alike true f g h (Point true w) = same_map (under 0) (under 0) (f w) (g w) (h w)
points_alike false f g h (Point false w) = same_map (under 0) (under 0) (f w) (g w) (h w)
points_alike true f g h v = refl
points_alike false f g h v = refl

numbers_kept : (fields : MNumbered) → numbers_in (bare_fields fields) ≡ numbers_in fields
numbers_kept no_numbered = refl
numbers_kept (more_numbered n p ps) = ap (λ ns. n ∷ ns) (numbers_kept ps)

mutual
  pub bare_alike : (p : MPat) (m : Mode) (v : MValue) → some (ways (bare p) m v) ≡ some (ways p m v)
  bare_alike WildPat m v = refl
  bare_alike (NumPat n) m v = refl
  bare_alike (FlagPat b) m v = refl
  bare_alike (TextPat t) m v = refl
  bare_alike (SpanPat at r) m v = span_alike at r m v
  bare_alike (BindPat name w p) m v =
      same_map (binding name (mode_written to_move w m) v) (binding name (mode_written to_move w m) v)
      (ways (bare p) m v) (ways p m v) (bare_alike p m v)
  bare_alike (FormPat k fields) m v =
      through_alike
      (λ n w. form_ways k (numbers_in (bare_fields fields)) (λ i u. field_ways to_move (bare_fields fields) n i u) w)
      (λ n w. form_ways k (numbers_in fields) (λ i u. field_ways to_move fields n i u) w)
      (λ n w. ap (λ ns. some (form_ways k ns (λ i u. field_ways to_move (bare_fields fields) n i u) w))
      (numbers_kept fields)
      ∙ forms_alike k (numbers_in fields) (λ i u. field_ways to_move (bare_fields fields) n i u)
      (λ i u. field_ways to_move fields n i u) (λ i u. fields_alike fields n i u) w) m v
  bare_alike (ListPat front rest back) m v =
      through_alike
      (λ n w. list_ways to_move (matchers to_move (bare_items front) n) rest (matchers to_move (bare_items back) n) n w)
      (λ n w. list_ways to_move (matchers to_move front n) rest (matchers to_move back n) n w)
      (λ n w. rows_alike (matchers to_move (bare_items front) n) (matchers to_move front n)
      (matchers to_move (bare_items back) n) (matchers to_move back n) rest n w (bare_items_alike front n)
      (bare_items_alike back n)) m v
  bare_alike (PointPat mutable p) m v =
      points_alike mutable (λ w. ways (bare p) (to_move m) w) (λ w. ways p (to_move m) w)
      (λ w. bare_alike p (to_move m) w) v
  bare_alike (OrPat ps) m v = choices_alike ps m v

  bare_items_alike : (ps : MPats) (m : Mode) → AreAlike (matchers to_move (bare_items ps) m) (matchers to_move ps m)
  bare_items_alike no_pats m = tt
  bare_items_alike (more_pats p ps) m = ((λ v. bare_alike p m v), bare_items_alike ps m)

  fields_alike : (fields : MNumbered) (m : Mode) (i : ℕ) (v : MValue) →
      some (field_ways to_move (bare_fields fields) m i v) ≡ some (field_ways to_move fields m i v)
  fields_alike no_numbered m i v = refl
  fields_alike (more_numbered n p ps) m i v =
      one_of (nat_eq i n) (ways (bare p) m v) (ways p m v) (field_ways to_move (bare_fields ps) m i v)
      (field_ways to_move ps m i v) (bare_alike p m v) (fields_alike ps m i v)
    where
      one_of : (b : Bool) (xs ys us vs : List Way) → some xs ≡ some ys → some us ≡ some vs →
          some (if b then xs else us) ≡ some (if b then ys else vs)
      one_of true xs ys us vs e f = e
      one_of false xs ys us vs e f = f

  choices_alike : (ps : MNumbered) (m : Mode) (v : MValue) →
      some (alternatives_ways to_move (bare_choices ps) m v) ≡ some (alternatives_ways to_move ps m v)
  choices_alike no_numbered m v = refl
  choices_alike (more_numbered n p ps) m v =
      appended (map (choosing 0) (ways (bare p) m v)) (alternatives_ways to_move (bare_choices ps) m v)
      ∙ ap (λ b. b || some (alternatives_ways to_move (bare_choices ps) m v))
      (same_map (choosing 0) (choosing n) (ways (bare p) m v) (ways p m v) (bare_alike p m v))
      ∙ ap (λ b. some (map (choosing n) (ways p m v)) || b) (choices_alike ps m v)
      ∙ sym (appended (map (choosing n) (ways p m v)) (alternatives_ways to_move ps m v))

-- ---- what a written pattern means without its offsets

dots_kept : (shape : Shape) → is_dots (shape_without shape) ≡ is_dots shape
dots_kept patterns.Rest = refl
dots_kept shape = refl

rest_shape_kept : (shape : Shape) → is_rest_shape (shape_without shape) ≡ is_rest_shape shape
rest_shape_kept patterns.Rest = refl
rest_shape_kept (patterns.BindAs name by_ref mutable (At from shape)) = dots_kept shape
rest_shape_kept shape = refl

rest_kept : (p : PatternTree) → is_rest (without_places p) ≡ is_rest p
rest_kept (At from shape) = rest_shape_kept shape

rest_in_kept : (shape : Shape) → rest_in (shape_without shape) ≡ rest_in shape
rest_in_kept patterns.Rest = refl
rest_in_kept (patterns.BindAs name by_ref mutable (At from patterns.Rest)) = refl
rest_in_kept (patterns.BindAs name by_ref mutable (At from shape)) = refl
rest_in_kept shape = refl

rest_of_kept : (ps : PatternTrees) → rest_of (all_without ps) ≡ rest_of ps
rest_of_kept patterns.none = refl
rest_of_kept (patterns.more (At from shape) ps) =
    ap (λ b. if b then rest_in (shape_without shape) else rest_of (all_without ps)) (rest_shape_kept shape)
    ∙ ap (λ r. if is_rest_shape shape then r else rest_of (all_without ps)) (rest_in_kept shape)
    ∙ ap (λ r. if is_rest_shape shape then rest_in shape else r) (rest_of_kept ps)

count_kept : (ps : PatternTrees) → pattern_count (all_without ps) ≡ pattern_count ps
count_kept patterns.none = refl
count_kept (patterns.more p ps) = ap suc (count_kept ps)

module _ (s : Setting) where
  -- one part more of a tuple form, or a rest
  part_bare : (types : ℕ → MType) (parts i : ℕ) (p q : PatternTree) (ps qs : PatternTrees) →
      is_rest q ≡ is_rest p → pattern_count qs ≡ pattern_count ps →
      bare (resolved s (types i) p) ≡ bare (resolved s (types i) q) →
      ((j : ℕ) → bare_fields (form_parts s types parts j ps) ≡ bare_fields (form_parts s types parts j qs)) →
      bare_fields (form_parts s types parts i (patterns.more p ps)) ≡ bare_fields
      (form_parts s types parts i (patterns.more q qs))
  part_bare types parts i p q ps qs r c e f =
      by (is_rest p) ∙ ap (λ b. bare_fields (written_part b q qs)) (sym r)
    where
      written_part : Bool → PatternTree → PatternTrees → MNumbered
      written_part b x xs =
          if b then form_parts s types parts (if b then parts - pattern_count xs else suc i) xs
          else more_numbered i (resolved s (types i) x)
          (form_parts s types parts (if b then parts - pattern_count xs else suc i) xs)

      by : (b : Bool) → bare_fields (written_part b p ps) ≡ bare_fields (written_part b q qs)
      by true =
          f (parts - pattern_count ps) ∙ ap (λ n. bare_fields (form_parts s types parts (parts - n) qs)) (sym c)
      by false =
          ap (λ x. more_numbered i x (bare_fields (form_parts s types parts (suc i) ps))) e
          ∙ ap (λ x. more_numbered i (bare (resolved s (types i) q)) x) (f (suc i))

  front_bare : (types : ℕ → MType) (i : ℕ) (p q : PatternTree) (ps qs : PatternTrees) → is_rest q ≡ is_rest p →
      bare (resolved s (types i) p) ≡ bare (resolved s (types i) q) →
      bare_items (front_items s types (suc i) ps) ≡ bare_items (front_items s types (suc i) qs) →
      bare_items (front_items s types i (patterns.more p ps)) ≡ bare_items
      (front_items s types i (patterns.more q qs))
  front_bare types i p q ps qs r e f =
      by (is_rest p) ∙ ap (λ b. bare_items (written_front b q qs)) (sym r)
    where
      written_front : Bool → PatternTree → PatternTrees → MPats
      written_front b x xs =
          if b then no_pats else more_pats (resolved s (types i) x) (front_items s types (suc i) xs)

      by : (b : Bool) → bare_items (written_front b p ps) ≡ bare_items (written_front b q qs)
      by true = refl
      by false =
          ap (λ x. more_pats x (bare_items (front_items s types (suc i) ps))) e
          ∙ ap (λ x. more_pats (bare (resolved s (types i) q)) x) f

  back_bare : (types : ℕ → MType) (parts : ℕ) (p q : PatternTree) (ps qs : PatternTrees) → is_rest q ≡ is_rest p →
      pattern_count qs ≡ pattern_count ps →
      ((i : ℕ) → bare_items (front_items s types i ps) ≡ bare_items (front_items s types i qs)) →
      bare_items (back_items s types parts ps) ≡ bare_items (back_items s types parts qs) →
      bare_items (back_items s types parts (patterns.more p ps)) ≡ bare_items
      (back_items s types parts (patterns.more q qs))
  back_bare types parts p q ps qs r c f g =
      by (is_rest p) ∙ ap (λ b. bare_items (written_back b q qs)) (sym r)
    where
      written_back : Bool → PatternTree → PatternTrees → MPats
      written_back b x xs =
          if b then front_items s types (parts - pattern_count xs) xs else back_items s types parts xs

      by : (b : Bool) → bare_items (written_back b p ps) ≡ bare_items (written_back b q qs)
      by true =
          f (parts - pattern_count ps) ∙ ap (λ n. bare_items (front_items s types (parts - n) qs)) (sym c)
      by false = g

  mutual
    pub resolved_bare : (t : MType) (p : PatternTree) → bare (resolved s t p) ≡ bare (resolved s t (without_places p))
    resolved_bare t (At from shape) = shape_bare t from shape

    shape_bare : (t : MType) (from : ℕ) (shape : Shape) →
        bare (resolved_shape s t from shape) ≡ bare (resolved_shape s t 0 (shape_without shape))
    shape_bare t from patterns.Wild = refl
    shape_bare t from patterns.Rest = refl
    shape_bare t from (patterns.Literal l) = refl
    shape_bare t from (patterns.Name name) = refl
    shape_bare t from (patterns.Bind name by_ref mutable) = refl
    shape_bare t from (patterns.BindAs name by_ref mutable p) =
        ap (BindPat name (written by_ref mutable)) (resolved_bare t p)
    shape_bare t from (patterns.Path path) = refl
    shape_bare t from (patterns.TupleForm path ps) =
        ap (FormPat (found_number (found_by s (patterns.TupleForm path ps))))
        (parts_bare (part_types s (found_ctor (found_by s (patterns.TupleForm path ps))) (bottom_type t))
        (fields_found s.items (found_by s (patterns.TupleForm path ps))) 0 ps)
    shape_bare t from (patterns.Brace path fs rest) =
        ap (FormPat (found_number (found_by s (patterns.Brace path fs rest))))
        (fields_bare (part_types s (found_ctor (found_by s (patterns.Brace path fs rest))) (bottom_type t))
        (field_names s.items (found_by s (patterns.Brace path fs rest))) fs)
    shape_bare t from (patterns.Tuple ps) =
        let types = part_types s SingleCtor (bottom_type t) in
        let n = rust_arity (program s) SingleCtor (bottom_type t) in
        ap (λ x. ListPat x (rest_of ps) (bare_items (back_items s types n ps))) (fronts_bare types 0 ps)
        ∙ ap (λ x. ListPat (bare_items (front_items s types 0 (all_without ps))) x
        (bare_items (back_items s types n ps))) (sym (rest_of_kept ps))
        ∙ ap (λ x. ListPat (bare_items (front_items s types 0 (all_without ps))) (rest_of (all_without ps)) x)
        (backs_bare types n ps)
    shape_bare t from (patterns.Group p) = resolved_bare t p
    shape_bare t from (patterns.Slice ps) =
        let types : ℕ → MType = λ i. inner_type (bottom_type t) in
        ap (λ x. ListPat x (rest_of ps) (bare_items (back_items s types (pattern_count ps) ps)))
        (fronts_bare types 0 ps)
        ∙ ap (λ x. ListPat (bare_items (front_items s types 0 (all_without ps))) x
        (bare_items (back_items s types (pattern_count ps) ps))) (sym (rest_of_kept ps))
        ∙ ap (λ x. ListPat (bare_items (front_items s types 0 (all_without ps))) (rest_of (all_without ps)) x)
        (backs_bare types (pattern_count ps) ps)
        ∙ ap (λ n. ListPat (bare_items (front_items s types 0 (all_without ps))) (rest_of (all_without ps))
        (bare_items (back_items s types n (all_without ps)))) (sym (count_kept ps))
    shape_bare t from (patterns.Point mutable p) = ap (PointPat mutable) (resolved_bare (inner_type t) p)
    shape_bare t from (patterns.Range low high closed) = refl
    shape_bare t from (patterns.Or ps) = ap OrPat (choices_bare t ps)

    parts_bare : (types : ℕ → MType) (parts i : ℕ) (ps : PatternTrees) →
        bare_fields (form_parts s types parts i ps) ≡ bare_fields (form_parts s types parts i (all_without ps))
    parts_bare types parts i patterns.none = refl
    parts_bare types parts i (patterns.more p ps) =
        part_bare types parts i p (without_places p) ps (all_without ps) (rest_kept p) (count_kept ps)
        (resolved_bare (types i) p) (λ j. parts_bare types parts j ps)

    fields_bare : (types : ℕ → MType) (names : List (List ℕ)) (fs : FieldTrees) →
        bare_fields (form_fields s types names fs) ≡ bare_fields (form_fields s types names (fields_without fs))
    fields_bare types names no_field = refl
    fields_bare types names (and_field name short attrs p fs) =
        let n = field_number names name in
        ap (λ x. more_numbered n x (bare_fields (form_fields s types names fs))) (resolved_bare (types n) p)
        ∙ ap (λ x. more_numbered n (bare (resolved s (types n) (without_places p))) x) (fields_bare types names fs)

    fronts_bare : (types : ℕ → MType) (i : ℕ) (ps : PatternTrees) →
        bare_items (front_items s types i ps) ≡ bare_items (front_items s types i (all_without ps))
    fronts_bare types i patterns.none = refl
    fronts_bare types i (patterns.more p ps) =
        front_bare types i p (without_places p) ps (all_without ps) (rest_kept p) (resolved_bare (types i) p)
        (fronts_bare types (suc i) ps)

    backs_bare : (types : ℕ → MType) (parts : ℕ) (ps : PatternTrees) →
        bare_items (back_items s types parts ps) ≡ bare_items (back_items s types parts (all_without ps))
    backs_bare types parts patterns.none = refl
    backs_bare types parts (patterns.more p ps) =
        back_bare types parts p (without_places p) ps (all_without ps) (rest_kept p) (count_kept ps)
        (λ i. fronts_bare types i ps) (backs_bare types parts ps)

    choices_bare : (t : MType) (ps : PatternTrees) →
        bare_choices (alternatives s t ps) ≡ bare_choices (alternatives s t (all_without ps))
    choices_bare t patterns.none = refl
    choices_bare t (patterns.more p ps) =
        ap (λ x. more_numbered 0 x (bare_choices (alternatives s t ps))) (resolved_bare t p)
        ∙ ap (λ x. more_numbered 0 (bare (resolved s t (without_places p))) x) (choices_bare t ps)

pub offsets_are_alone : OffsetsAreAlone
offsets_are_alone s t p q m v e =
    sym (bare_alike (resolved s t p) m v)
    ∙ ap (λ x. some (ways x m v))
    (resolved_bare s t p ∙ ap (λ r. bare (resolved s t r)) e ∙ sym (resolved_bare s t q))
    ∙ bare_alike (resolved s t q) m v
