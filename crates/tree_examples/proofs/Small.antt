-- What the examples share: a program of two enums, names, values, and rows that are in order as they stand.
use Rattle.std.proofs.Common.{ℕ, pos, Bool, true, false, List, [], ◌∷◌}
use Rattle.match_model.specs.declared.Mode.{Mode}
use Rattle.match_model.specs.declared.Width.TheVariants.{Endless}
use Rattle.match_model.specs.Types.{DeclaredItem, MType, BoolType, NamedType, TupleType, no_types, more_types}
use Rattle.match_model.specs.Declarations.{EnumItem, MProgram}
use Rattle.match_model.specs.Values.{MValue, Num, Node, Row, values_of}
use Rattle.match_model.specs.Ways.{Binding}
use Rattle.match_model.specs.Constructors.{FlagCtor}
use Rattle.match_model.specs.ArenaPatterns.{MDePat, de_pat, no_de_pats}
use Rattle.match_model.specs.Matrices.{MRow}
use Rattle.match_model.specs.Lists.{Ordered}
use Rattle.match_model.specs.Keys.{Decision}
use Rattle.match_model.specs.RowOrder.{RowFirst, AreInOrder}

-- `#[non_exhaustive] enum G {}  enum N {}`
abbrev pub program : MProgram
program = record { items = EnumItem (71 ∷ []) true [] ∷ EnumItem (78 ∷ []) false [] ∷ []; width = Endless }

abbrev pub marked_enum : MType
marked_enum = NamedType (DeclaredItem 0) no_types

abbrev pub empty_enum : MType
empty_enum = NamedType (DeclaredItem 1) no_types

abbrev pub flag_pair : MType
flag_pair = TupleType (more_types BoolType (more_types BoolType no_types))

abbrev pub x_name : List ℕ
x_name = 120 ∷ []

abbrev pub number : ℕ → MValue
number n = Num (pos n)

abbrev pub tuple : List MValue → MValue
tuple vs = Node 0 (values_of vs)

abbrev pub row : List MValue → MValue
row vs = Row (values_of vs)

abbrev pub bound : List ℕ → Mode → MValue → Binding
bound n m v = record { name = n; mode = m; value = v }

abbrev pub flag_pat : ℕ → Bool → MDePat MType
flag_pat uid b = de_pat (FlagCtor b) BoolType uid uid no_de_pats []

-- rows that stand in order already
pub as_they_are : {T : Type 0} (decides : ℕ → Decision) (rows : List (MRow T)) → Ordered (RowFirst decides) rows →
    AreInOrder decides rows rows
as_they_are decides rows o = record { same = record { forth = λ x a. a; back = λ x a. a }; ordered = o }
