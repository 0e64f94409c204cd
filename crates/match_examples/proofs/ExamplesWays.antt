-- Worked examples: in which ways a pattern matches a value.
use Rattle.std.proofs.Common.{◌≡◌, ℕ, pos, negsuc, true, false, List, [], ◌∷◌, length, refl}
use Rattle.match_model.specs.declared.Mode.{Mode}
use Rattle.match_model.specs.declared.Mode.TheVariants.{Move, Ref, RefMut}
use Rattle.match_model.specs.Values.{MValue, Flag, Num, Text, Node, Point, Row, Thing, Later, Unseen, no_values, values_of}
use Rattle.match_model.specs.Numbers.{Free, At}
use Rattle.match_model.specs.Patterns.{WrittenPlain, WrittenMut, WrittenRef, WrittenRefMut, NoRest, SomeRest, BoundRest, MPat, WildPat, NumPat, FlagPat, TextPat, SpanPat, BindPat, FormPat, ListPat, PointPat, OrPat, no_pats, more_pats, no_numbered, more_numbered}
use Rattle.match_model.specs.Ways.{Way, Binding, bare_way}
use Rattle.match_model.specs.Matching.{ways, ways_by}
use Rattle.match_model.specs.Readings.{moves_at}

abbrev pub a_name : List ℕ
a_name = 97 ∷ []

abbrev pub b_name : List ℕ
b_name = 98 ∷ []

abbrev pub x_name : List ℕ
x_name = 120 ∷ []

-- a name alone
abbrev pub name : List ℕ → MPat
name n = BindPat n WrittenPlain WildPat

-- the patterns of a tuple
abbrev pub pair : MPat → MPat → MPat
pair p q = ListPat (more_pats p (more_pats q no_pats)) NoRest no_pats

abbrev pub number : ℕ → MValue
number n = Num (pos n)

abbrev pub tuple : List MValue → MValue
tuple vs = Node 0 (values_of vs)

abbrev pub row : List MValue → MValue
row vs = Row (values_of vs)

-- a binding, and a way that only binds
abbrev pub bound : List ℕ → Mode → MValue → Binding
bound n m v = record { name = n; mode = m; value = v }

abbrev pub binds : List Binding → Way
binds bs = record { trace = []; bindings = bs; spans = [] }

-- how many ways there are
abbrev pub count : MPat → MValue → ℕ
count p v = length (ways p Move v)

-- `_` and a name match everything, the bare unseen, an opaque thing and a later variant too
pub wild_on_unseen : ways WildPat Move Unseen ≡ bare_way ∷ []
wild_on_unseen = refl

pub name_on_later : ways (name x_name) Move Later ≡ binds (bound x_name Move Later ∷ []) ∷ []
name_on_later = refl

pub name_on_thing : count (name x_name) Thing ≡ 1
name_on_thing = refl

-- no other pattern matches these
pub none_on_unseen : (count (ListPat no_pats SomeRest no_pats) Unseen ≡ 0) × (count (FormPat 0 no_numbered) Later ≡ 0) × (count (FlagPat true) Thing ≡ 0) × (count (SpanPat 0 (record { low = Free; high = Free })) Unseen ≡ 0)
none_on_unseen = (refl, refl, refl, refl)

-- numbers, negative ones too, and flags
pub numbers : (count (NumPat (pos 1)) (number 1) ≡ 1) × (count (NumPat (negsuc 0)) (Num (negsuc 0)) ≡ 1) × (count (NumPat (pos 1)) (Num (negsuc 0)) ≡ 0)
numbers = (refl, refl, refl)

pub flags : (count (FlagPat true) (Flag true) ≡ 1) × (count (FlagPat true) (Flag false) ≡ 0)
flags = (refl, refl)

-- a string literal matches behind exactly one shared reference
pub text_behind_one : (count (TextPat (97 ∷ [])) (Point false (Text (97 ∷ []))) ≡ 1) × (count (TextPat (97 ∷ [])) (Text (97 ∷ [])) ≡ 0) × (count (TextPat (97 ∷ [])) (Point true (Text (97 ∷ []))) ≡ 0) × (count (TextPat (97 ∷ [])) (Point false (Point false (Text (97 ∷ [])))) ≡ 0)
text_behind_one = (refl, refl, refl, refl)

-- `&"a"` on `&&str`
pub text_in_point : count (PointPat false (TextPat (97 ∷ []))) (Point false (Point false (Text (97 ∷ [])))) ≡ 1
text_in_point = refl

-- a range keeps itself where it has more than one number; its position goes through references
pub span_is_met : ways (SpanPat 7 (record { low = At (pos 0); high = At (pos 9) })) Move (Point false (number 9)) ≡ record { trace = []; bindings = []; spans = record { at = 7; position = 0 ∷ []; range = record { low = At (pos 0); high = At (pos 9) } } ∷ [] } ∷ []
span_is_met = refl

pub span_of_one : ways (SpanPat 7 (record { low = At (pos 3); high = At (pos 3) })) Move (number 3) ≡ bare_way ∷ []
span_of_one = refl

pub span_beyond : (count (SpanPat 7 (record { low = At (pos 0); high = At (pos 9) })) (number 10) ≡ 0) × (count (SpanPat 7 (record { low = At (pos 0); high = Free })) (Num (negsuc 0)) ≡ 0) × (count (SpanPat 7 (record { low = Free; high = At (pos 9) })) (Num (negsuc 99)) ≡ 1)
span_beyond = (refl, refl, refl)

-- the binding mode: behind `&` it is `ref`; behind `&mut` a move becomes `ref mut`, and `ref` stays
pub behind_shared : ways (pair (name x_name) WildPat) Move (Point false (tuple (Flag true ∷ Flag false ∷ []))) ≡ binds (bound x_name Ref (Flag true) ∷ []) ∷ []
behind_shared = refl

pub behind_mutable : ways (pair (name x_name) WildPat) Move (Point true (tuple (Flag true ∷ Flag false ∷ []))) ≡ binds (bound x_name RefMut (Flag true) ∷ []) ∷ []
behind_mutable = refl

pub behind_mutable_shared : ways (pair (name x_name) WildPat) Move (Point true (Point false (tuple (Flag true ∷ Flag false ∷ [])))) ≡ binds (bound x_name Ref (Flag true) ∷ []) ∷ []
behind_mutable_shared = refl

pub behind_shared_mutable : ways (pair (name x_name) WildPat) Move (Point false (Point true (tuple (Flag true ∷ Flag false ∷ [])))) ≡ binds (bound x_name Ref (Flag true) ∷ []) ∷ []
behind_shared_mutable = refl

pub behind_mutable_twice : ways (pair (name x_name) WildPat) Move (Point true (Point true (tuple (Flag true ∷ Flag false ∷ [])))) ≡ binds (bound x_name RefMut (Flag true) ∷ []) ∷ []
behind_mutable_twice = refl

-- a name binds the reference itself by move, and its pattern goes through it
pub name_before_pattern : ways (BindPat x_name WrittenPlain (FormPat 1 no_numbered)) Move (Point false (Node 1 no_values)) ≡ binds (bound x_name Move (Point false (Node 1 no_values)) ∷ []) ∷ []
name_before_pattern = refl

-- written `ref` and `ref mut` decide alone
pub written_ref : ways (BindPat x_name WrittenRef WildPat) Move (Flag true) ≡ binds (bound x_name Ref (Flag true) ∷ []) ∷ []
written_ref = refl

pub written_ref_mut : ways (BindPat x_name WrittenRefMut WildPat) Move (Flag true) ≡ binds (bound x_name RefMut (Flag true) ∷ []) ∷ []
written_ref_mut = refl

-- `(mut a, &b)` on `&(1, &2)` binds both by move
pub back_to_move : ways (pair (BindPat a_name WrittenMut WildPat) (PointPat false (name b_name))) Move (Point false (tuple (number 1 ∷ Point false (number 2) ∷ []))) ≡ binds (bound a_name Move (number 1) ∷ bound b_name Move (number 2) ∷ []) ∷ []
back_to_move = refl

-- by the older reading, where the mode that holds stays, both are bound by reference; that pattern is refused in edition 2024
pub older_reading : ways_by (λ m. m) (pair (BindPat a_name WrittenMut WildPat) (PointPat false (name b_name))) Move (Point false (tuple (number 1 ∷ Point false (number 2) ∷ []))) ≡ binds (bound a_name Ref (number 1) ∷ bound b_name Ref (number 2) ∷ []) ∷ []
older_reading = refl

pub no_move_there : moves_at (pair (BindPat a_name WrittenMut WildPat) (PointPat false (name b_name))) Move (Point false (tuple (number 1 ∷ Point false (number 2) ∷ []))) ≡ false
no_move_there = refl

pub move_there : moves_at (PointPat false (pair (BindPat a_name WrittenMut WildPat) (PointPat false (name b_name)))) Move (Point false (tuple (number 1 ∷ Point false (number 2) ∷ []))) ≡ true
move_there = refl

-- `&x` matches a shared reference alone, and what it points to
pub point_kinds : (ways (PointPat false (name x_name)) Move (Point false (number 1)) ≡ binds (bound x_name Move (number 1) ∷ []) ∷ []) × (count (PointPat false WildPat) (Point true (number 1)) ≡ 0) × (count (PointPat true WildPat) (Point true (number 1)) ≡ 1) × (count (PointPat false WildPat) (number 1) ≡ 0)
point_kinds = (refl, refl, refl, refl)

-- alternatives in order, each in the trace; `(x, _) | (_, x)` on `(true, false)` binds `true` first
abbrev pub either_side : MPat
either_side = OrPat (more_numbered 10 (pair (name x_name) WildPat) (more_numbered 19 (pair WildPat (name x_name)) no_numbered))

pub true_first : ways either_side Move (tuple (Flag true ∷ Flag false ∷ [])) ≡ record { trace = 10 ∷ []; bindings = bound x_name Move (Flag true) ∷ []; spans = [] } ∷ (record { trace = 19 ∷ []; bindings = bound x_name Move (Flag false) ∷ []; spans = [] } ∷ [])
true_first = refl

-- `1 | _` on 1 and on 2
pub one_or_any : (count (OrPat (more_numbered 3 (NumPat (pos 1)) (more_numbered 7 WildPat no_numbered))) (number 1) ≡ 2) × (count (OrPat (more_numbered 3 (NumPat (pos 1)) (more_numbered 7 WildPat no_numbered))) (number 2) ≡ 1)
one_or_any = (refl, refl)

-- an alternative inside an alternative, behind a reference: the outer one first in the trace
pub nested_trace : ways (OrPat (more_numbered 5 (NumPat (pos 0)) (more_numbered 13 (ListPat (more_pats (OrPat (more_numbered 14 (FlagPat true) (more_numbered 21 WildPat no_numbered))) no_pats) NoRest no_pats) no_numbered))) Move (Point false (tuple (Flag false ∷ []))) ≡ record { trace = 13 ∷ (21 ∷ []); bindings = []; spans = [] } ∷ []
nested_trace = refl

-- `S { b: 0 | _, a: 0 | _ }`, `a` being field 0: it varies slowest, though it is written last
pub declared_order : ways (FormPat 0 (more_numbered 1 (OrPat (more_numbered 7 (NumPat (pos 0)) (more_numbered 11 WildPat no_numbered))) (more_numbered 0 (OrPat (more_numbered 17 (NumPat (pos 0)) (more_numbered 21 WildPat no_numbered))) no_numbered))) Move (tuple (number 0 ∷ number 0 ∷ [])) ≡ record { trace = 17 ∷ (7 ∷ []); bindings = []; spans = [] } ∷ (record { trace = 17 ∷ (11 ∷ []); bindings = []; spans = [] } ∷ (record { trace = 21 ∷ (7 ∷ []); bindings = []; spans = [] } ∷ (record { trace = 21 ∷ (11 ∷ []); bindings = []; spans = [] } ∷ [])))
declared_order = refl

-- a field that is not written is a wildcard; another variant does not match
pub unwritten_field : (count (FormPat 1 (more_numbered 1 (FlagPat true) no_numbered)) (Node 1 (values_of (number 9 ∷ Flag true ∷ []))) ≡ 1) × (count (FormPat 1 no_numbered) (Node 0 no_values) ≡ 0)
unwritten_field = (refl, refl)

-- a written number that is no field's, or stands twice, matches nothing, and is no wildcard
pub wrong_fields : (count (FormPat 0 (more_numbered 7 (FlagPat true) no_numbered)) (Node 0 (values_of (Flag false ∷ []))) ≡ 0) × (count (FormPat 0 (more_numbered 0 (FlagPat true) (more_numbered 0 (FlagPat false) no_numbered))) (Node 0 (values_of (Flag true ∷ []))) ≡ 0) × (count (FormPat 0 (more_numbered 1 WildPat (more_numbered 0 (FlagPat true) no_numbered))) (Node 0 (values_of (Flag true ∷ number 3 ∷ []))) ≡ 1)
wrong_fields = (refl, refl, refl)

-- the mode at the `&` of a form's pattern is asked in that form alone, not where its field is another form's
pub other_form : (moves_at (FormPat 1 (more_numbered 0 (FormPat 0 (more_numbered 0 (PointPat false (NumPat (pos 0))) no_numbered)) no_numbered)) Move (Node 0 (values_of (Point false (tuple (Point false (number 0) ∷ [])) ∷ []))) ≡ true) × (moves_at (FormPat 0 (more_numbered 0 (FormPat 0 (more_numbered 0 (PointPat false (NumPat (pos 0))) no_numbered)) no_numbered)) Move (Node 0 (values_of (Point false (tuple (Point false (number 0) ∷ [])) ∷ []))) ≡ false)
other_form = (refl, refl)

-- bindings stand in the order of their names
pub by_name : ways (pair (name b_name) (name a_name)) Move (tuple (number 1 ∷ number 2 ∷ [])) ≡ binds (bound a_name Move (number 2) ∷ bound b_name Move (number 1) ∷ []) ∷ []
by_name = refl

-- `[ref a, b @ .., _]` on `&mut [1, 2, 3, 4]`
pub rest_bound : ways (ListPat (more_pats (BindPat a_name WrittenRef WildPat) no_pats) (BoundRest b_name WrittenPlain) (more_pats WildPat no_pats)) Move (Point true (row (number 1 ∷ number 2 ∷ number 3 ∷ number 4 ∷ []))) ≡ binds (bound a_name Ref (number 1) ∷ bound b_name RefMut (row (number 2 ∷ number 3 ∷ [])) ∷ []) ∷ []
rest_bound = refl

-- `[a, b @ ..]` on `[1]`: the rest is empty
pub empty_rest : ways (ListPat (more_pats (name a_name) no_pats) (BoundRest b_name WrittenPlain) no_pats) Move (row (number 1 ∷ [])) ≡ binds (bound a_name Move (number 1) ∷ bound b_name Move (row []) ∷ []) ∷ []
empty_rest = refl

-- `[.., 3]`: the back patterns meet the last items
pub rest_unbound : (count (ListPat no_pats SomeRest (more_pats (NumPat (pos 3)) no_pats)) (row (number 1 ∷ number 3 ∷ [])) ≡ 1) × (count (ListPat no_pats SomeRest (more_pats (NumPat (pos 3)) no_pats)) (row (number 3 ∷ number 1 ∷ [])) ≡ 0)
rest_unbound = (refl, refl)

-- too few items, and too many without a rest
pub lengths : (count (ListPat (more_pats WildPat (more_pats WildPat no_pats)) SomeRest no_pats) (row (number 1 ∷ [])) ≡ 0) × (count (ListPat (more_pats WildPat no_pats) NoRest no_pats) (row (number 1 ∷ number 2 ∷ [])) ≡ 0) × (count (ListPat (more_pats WildPat no_pats) NoRest no_pats) (row []) ≡ 0) × (count (ListPat no_pats NoRest no_pats) (row []) ≡ 1)
lengths = (refl, refl, refl, refl)

-- the range of the last item, behind a reference, is at the item's own number
pub span_at_back : ways (ListPat no_pats SomeRest (more_pats (SpanPat 4 (record { low = At (pos 0); high = At (pos 9) })) no_pats)) Move (Point false (row (number 1 ∷ number 2 ∷ number 3 ∷ []))) ≡ record { trace = []; bindings = []; spans = record { at = 4; position = 0 ∷ (2 ∷ []); range = record { low = At (pos 0); high = At (pos 9) } } ∷ [] } ∷ []
span_at_back = refl
