-- The ways in which a pattern of the source matches a value, in order (Rust Reference, Patterns and binding modes; the
-- order of the ways is our own choice).
use Rattle.std.specs.Prelude.{ℕ, suc, ℤ, Bool, true, false, ◌&&◌, List, [], ◌∷◌, ◌++◌, map, length, take, drop, replicate, ◌+◌, ◌-◌, nat_eq, nat_lt, if◌then◌else◌}
use Rattle.std.specs.List.{list_all}
use Rattle.std.specs.Ordering.{int_eq}
use mathlib.Core.Bool.{beq}
use Rattle.match_model.specs.declared.Mode.{Mode}
use Rattle.match_model.specs.declared.Mode.TheVariants.{Move, Ref, RefMut}
use Rattle.match_model.specs.Values.{MValue, Flag, Num, Text, Node, Point, Row, values_list, values_of}
use Rattle.match_model.specs.Texts.{text_eq}
use Rattle.match_model.specs.Numbers.{MRange, in_range, has_one_number}
use Rattle.match_model.specs.Patterns.{Written, WrittenPlain, WrittenMut, WrittenRef, WrittenRefMut, MRest, NoRest, SomeRest, BoundRest, MPat, WildPat, NumPat, FlagPat, TextPat, SpanPat, BindPat, FormPat, ListPat, PointPat, OrPat, MPats, no_pats, more_pats, MNumbered, no_numbered, more_numbered, numbers_in, all_differ}
use Rattle.match_model.specs.Ways.{Way, bare_way, combine, under, choosing, binding}

-- how a part of a value is matched
abbrev pub Matcher : Type 0
Matcher = MValue → List Way

-- everything matches, in one way with nothing in it
abbrev pub wild : Matcher
wild v = bare_way ∷ []

-- one way with nothing in it where the test holds, else none
abbrev pub bare_if : Bool → List Way
bare_if b = if b then bare_way ∷ [] else []

-- the mode of a name that is written so, where this binding mode holds; `back` says what becomes of the mode at `mut`
abbrev pub mode_written : (back : Mode → Mode) → Written → Mode → Mode
mode_written back WrittenPlain m = m
mode_written back WrittenMut m = back m
mode_written back WrittenRef m = Ref
mode_written back WrittenRefMut m = RefMut

-- the binding mode behind a reference that a pattern goes through on its own
abbrev pub mode_behind : (mutable : Bool) → Mode → Mode
mode_behind false m = Ref
mode_behind true Move = RefMut
mode_behind true Ref = Ref
mode_behind true RefMut = RefMut

-- the ways behind all references, with the binding mode there
abbrev pub through_points : (Mode → Matcher) → Mode → Matcher
through_points f m (Point mutable w) = map (under 0) (through_points f (mode_behind mutable m) w)
through_points f m v = f m v

-- the value is the number
abbrev pub number_ways : ℤ → Matcher
number_ways n (Num x) = bare_if (int_eq n x)
number_ways n _ = []

-- the value is the flag
abbrev pub flag_ways : Bool → Matcher
flag_ways b (Flag c) = bare_if (beq b c)
flag_ways b _ = []

-- the value is the text behind one shared reference; a string literal goes through no other
abbrev pub text_ways : List ℕ → Matcher
text_ways t (Point false (Text u)) = bare_if (text_eq t u)
text_ways t _ = []

-- the way of a range that was met, which keeps the range where it has more than one number
abbrev pub span_way : (at : ℕ) → MRange → Way
span_way at r = record bare_way { spans = if has_one_number r then [] else record { at = at; position = []; range = r } ∷ [] }

-- the value is a number in the range
abbrev pub span_ways : (at : ℕ) → MRange → Matcher
span_ways at r (Num x) = if in_range r x then span_way at r ∷ [] else []
span_ways at r _ = []

-- the combinations of one way per part, the parts being numbered from `i`
abbrev pub parts_ways : (ℕ → Matcher) → ℕ → List MValue → List Way
parts_ways f i [] = bare_way ∷ []
parts_ways f i (v ∷ vs) = combine (map (under i) (f i v)) (parts_ways f (suc i) vs)

-- each number is that of one of so many parts, and none stands twice
abbrev pub are_parts : List ℕ → (count : ℕ) → Bool
are_parts is n = all_differ is && list_all (λ i. nat_lt i n) is

-- the value is a node of the variant that has each written field, none of them twice, and whose parts match
abbrev pub form_ways : (variant : ℕ) → (written : List ℕ) → (ℕ → Matcher) → Matcher
form_ways k written f (Node j parts) =
    if nat_eq k j && are_parts written (length (values_list parts)) then parts_ways f 0 (values_list parts) else []
form_ways k written f _ = []

-- the combinations of one way per item, the items being numbered from `i`; none where there are not as many matchers
abbrev pub items_ways : List Matcher → ℕ → List MValue → List Way
items_ways [] i [] = bare_way ∷ []
items_ways [] i (_ ∷ _) = []
items_ways (f ∷ fs) i [] = []
items_ways (f ∷ fs) i (v ∷ vs) = combine (map (under i) (f v)) (items_ways fs (suc i) vs)

-- one thing for each of so many items: those of the front, the filler for each item of the rest, those of the back
abbrev pub laid_out : {A : Type 0} → (filler : A) → (front : List A) → MRest → (back : List A) → (len : ℕ) → List A
laid_out filler front NoRest back len = front ++ back
laid_out filler front SomeRest back len = front ++ (replicate (len - (length front + length back)) filler ++ back)
laid_out filler front (BoundRest name written) back len =
    front ++ (replicate (len - (length front + length back)) filler ++ back)

-- the middle items, without so many at each end, as a row
abbrev pub middle_of : (front back : ℕ) → List MValue → MValue
middle_of front back items = Row (values_of (take (length items - (front + back)) (drop front items)))

-- the way with the middle items bound, where the rest has a name
abbrev pub bind_rest : (back : Mode → Mode) → MRest → Mode → (middle : MValue) → Way → Way
bind_rest back NoRest m middle w = w
bind_rest back SomeRest m middle w = w
bind_rest back (BoundRest name written) m middle w = binding name (mode_written back written m) middle w

-- the items match, those at the front first; what the rest has is bound where it has a name
abbrev pub list_items_ways : (Mode → Mode) → List Matcher → MRest → List Matcher → Mode → List MValue → List Way
list_items_ways by front rest back m items =
    map (bind_rest by rest m (middle_of (length front) (length back) items))
    (items_ways (laid_out wild front rest back (length items)) 0 items)

-- the value is a tuple or row whose items match
abbrev pub list_ways : (Mode → Mode) → List Matcher → MRest → List Matcher → Mode → Matcher
list_ways by front rest back m (Node k parts) = list_items_ways by front rest back m (values_list parts)
list_ways by front rest back m (Row items) = list_items_ways by front rest back m (values_list items)
list_ways by front rest back m _ = []

-- the value is a reference of this kind, and what it points to matches
abbrev pub point_ways : (mutable : Bool) → Matcher → Matcher
point_ways true f (Point true w) = map (under 0) (f w)
point_ways false f (Point false w) = map (under 0) (f w)
point_ways m f _ = []

abbrev mutual
  -- the ways of the pattern; `back` says what becomes of the binding mode at a `&` and at a `mut`
  pub ways_by : (back : Mode → Mode) → MPat → Mode → Matcher
  ways_by back WildPat m v = bare_way ∷ []
  ways_by back (NumPat n) m v = through_points (λ m' w. number_ways n w) m v
  ways_by back (FlagPat b) m v = through_points (λ m' w. flag_ways b w) m v
  ways_by back (TextPat t) m v = text_ways t v
  ways_by back (SpanPat at r) m v = through_points (λ m' w. span_ways at r w) m v
  ways_by back (BindPat name written p) m v = map (binding name (mode_written back written m) v) (ways_by back p m v)
  ways_by back (FormPat k fields) m v = through_points (λ m' w. form_ways k (numbers_in fields) (λ i u. field_ways back fields m' i u) w) m v
  ways_by back (ListPat front rest tail) m v =
      through_points (λ m' w. list_ways back (matchers back front m') rest (matchers back tail m') m' w) m v
  ways_by back (PointPat mutable p) m v = point_ways mutable (λ w. ways_by back p (back m) w) v
  ways_by back (OrPat alternatives) m v = alternatives_ways back alternatives m v

  -- how each pattern of a list matches
  pub matchers : (back : Mode → Mode) → MPats → Mode → List Matcher
  matchers back no_pats m = []
  matchers back (more_pats p ps) m = (λ v. ways_by back p m v) ∷ matchers back ps m

  -- how the field with this number matches; one that is not written is a wildcard
  pub field_ways : (back : Mode → Mode) → MNumbered → Mode → ℕ → Matcher
  field_ways back no_numbered m i v = bare_way ∷ []
  field_ways back (more_numbered j p ps) m i v = if nat_eq i j then ways_by back p m v else field_ways back ps m i v

  -- the ways of the alternatives, one after the other, each with its alternative chosen
  pub alternatives_ways : (back : Mode → Mode) → MNumbered → Mode → Matcher
  alternatives_ways back no_numbered m v = []
  alternatives_ways back (more_numbered at p ps) m v = map (choosing at) (ways_by back p m v) ++ alternatives_ways back ps m v

-- a `&` and a `mut` bring the binding mode back to a move, as in edition 2021; where no `&` and no `mut` stands under
-- another mode, as edition 2024 asks, nothing comes of it
abbrev pub to_move : Mode → Mode
to_move m = Move

-- the ways in which the pattern matches the value, in order; at an arm the mode is a move
abbrev pub ways : MPat → Mode → Matcher
ways = ways_by to_move
