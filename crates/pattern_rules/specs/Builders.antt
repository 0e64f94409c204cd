-- No meaning: the patterns of an engine from which the elaborated ones are built.
use Rattle.std.specs.Prelude.{ℕ, suc, ◌+◌, List, [], ◌∷◌, length, Option, Some, None, if◌then◌else◌}
use Rattle.match_model.specs.declared.Mode.{Mode}
use Rattle.match_model.specs.Types.{MType, PointType, SliceType, ArrayType, MTypes, no_types, more_types, types_list}
use Rattle.match_model.specs.Numbers.{MRange, has_one_number}
use Rattle.match_model.specs.Declarations.{MProgram, node_types}
use Rattle.match_model.specs.RustTypes.{rust_set}
use Rattle.match_model.specs.Constructors.{MCtor, SingleCtor, VariantCtor, PointCtor, WildCtor, NumbersCtor, RowCtor, MShape, FixedShape, LongerShape, MSet, SingleSet}
use Rattle.match_model.specs.Patterns.{MRest, NoRest, SomeRest, BoundRest}
use Rattle.match_model.specs.Matching.{mode_written, mode_behind, to_move, laid_out}
use Rattle.match_model.specs.ArenaPatterns.{MiddlePart, MBound, MDePat, de_pat, MDePats, no_de_pats, more_de_pats}

-- a pattern of the engine over plain types
abbrev pub Built : Type 0
Built = MDePat MType

-- a constructor over these patterns
abbrev pub over : MCtor → MType → MDePats MType → Built
over c t subs = de_pat c t 0 0 subs []

-- a constructor without parts
abbrev pub leaf : MCtor → MType → Built
leaf c t = over c t no_de_pats

-- a range, with its offset where it has more than one number
abbrev pub span : (at : ℕ) → MRange → MType → Built
span at r t = de_pat (NumbersCtor r) t 0 (if has_one_number r then 0 else at) no_de_pats []

-- a reference over a pattern
abbrev pub point : MType → Built → Built
point t p = over PointCtor t (more_de_pats p no_de_pats)

-- what stands behind all references of the type, each of them written out
abbrev pub through_type : (MType → Mode → Built) → MType → Mode → Built
through_type f (PointType mutable t) m = point (PointType mutable t) (through_type f t (mode_behind mutable m))
through_type f t m = f t m

-- the types that may be there
abbrev pub types_or_none : Option MTypes → MTypes
types_or_none None = no_types
types_or_none (Some ts) = ts

-- one pattern for each type, the parts being numbered from `i`
abbrev pub parts_from : (ℕ → MType → Built) → ℕ → MTypes → MDePats MType
parts_from f i no_types = no_de_pats
parts_from f i (more_types t ts) = more_de_pats (f i t) (parts_from f (suc i) ts)

-- the constructor of a node with this variant
abbrev pub node_ctor : MSet → ℕ → MCtor
node_ctor SingleSet k = SingleCtor
node_ctor _ k = VariantCtor k

-- a node of the variant, with one pattern for each part
abbrev pub form : MProgram → ℕ → (ℕ → MType → Built) → MType → Built
form program k f t = over (node_ctor (rust_set program t) k) t (parts_from f 0 (types_or_none (node_types program t k)))

-- what a pattern becomes at a type
abbrev pub Maker : Type 0
Maker = MType → Built

-- one pattern for each type, by makers one by one
abbrev pub made : List Maker → MTypes → MDePats MType
made [] ts = no_de_pats
made (f ∷ fs) no_types = no_de_pats
made (f ∷ fs) (more_types t ts) = more_de_pats (f t) (made fs ts)

-- the patterns of makers at one type
abbrev pub made_at : List Maker → MType → MDePats MType
made_at [] t = no_de_pats
made_at (f ∷ fs) t = more_de_pats (f t) (made_at fs t)

-- a wildcard
abbrev pub wild_maker : Maker
wild_maker t = leaf WildCtor t

-- the shape of a row with so many items at each end
abbrev pub shape : (front back : ℕ) → MRest → MShape
shape front back NoRest = FixedShape (front + back)
shape front back SomeRest = LongerShape front back
shape front back (BoundRest name written) = LongerShape front back

-- the name of the rest, if it has one
abbrev pub rest_bound : (front back : ℕ) → MRest → Mode → List MBound
rest_bound front back NoRest m = []
rest_bound front back SomeRest m = []
rest_bound front back (BoundRest name written) m = record { name = name; mode = mode_written to_move written m; part = MiddlePart front back } ∷ []

-- both lists of patterns
abbrev pub and_pats : MDePats MType → MDePats MType → MDePats MType
and_pats no_de_pats qs = qs
and_pats (more_de_pats p ps) qs = more_de_pats p (and_pats ps qs)

-- a row of a slice or array of these items
abbrev pub row_of : List Maker → MRest → List Maker → MType → MType → Mode → Built
row_of fronts rest backs t item m =
    de_pat (RowCtor (shape (length fronts) (length backs) rest)) t 0 0 (and_pats (made_at fronts item) (made_at backs item))
    (rest_bound (length fronts) (length backs) rest m)

-- a tuple of parts of these types
abbrev pub tuple_of : List Maker → MRest → List Maker → MType → MTypes → Built
tuple_of fronts rest backs t ts = over SingleCtor t (made (laid_out wild_maker fronts rest backs (length (types_list ts))) ts)

-- a list pattern at a type: a row of a slice or array, else a tuple
abbrev pub list_of : MProgram → List Maker → MRest → List Maker → MType → Mode → Built
list_of program fronts rest backs (SliceType item) m = row_of fronts rest backs (SliceType item) item m
list_of program fronts rest backs (ArrayType item n) m = row_of fronts rest backs (ArrayType item n) item m
list_of program fronts rest backs t m = tuple_of fronts rest backs t (types_or_none (node_types program t 0))
