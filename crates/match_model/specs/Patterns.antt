-- Patterns as the source has them, with names resolved (Rust Reference, Patterns). Parentheses are left out, and
-- inserted dereferences are not there yet.
use Rattle.std.specs.Prelude.{ℕ, ℤ, Bool, true, not, ◌&&◌, List, [], ◌∷◌, nat_eq}
use Rattle.std.specs.List.{list_any}
use Rattle.match_model.specs.Numbers.{MRange}

-- how a binding is written: `x`, `mut x`, `ref x` or `ref mut x`
pub data Written : Type 0 where
  WrittenPlain WrittenMut WrittenRef WrittenRefMut : Written

-- the rest of a list pattern: none, `..`, or `name @ ..`
pub data MRest : Type 0 where
  NoRest SomeRest : MRest
  BoundRest : (name : List ℕ) → Written → MRest

mutual
  -- a pattern: `_`; a number, a character being its scalar value; `true` or `false`; a string literal; a range, `at` this
  -- offset; a name, by its UTF-8 bytes, with the pattern behind its `@`, `_` where there is none; a struct or variant with
  -- its written fields; a tuple or slice; `&` or `&mut`; two alternatives or more
  pub data MPat : Type 0 where
    WildPat : MPat
    NumPat : ℤ → MPat
    FlagPat : Bool → MPat
    TextPat : (scalars : List ℕ) → MPat
    SpanPat : (at : ℕ) → MRange → MPat
    BindPat : (name : List ℕ) → Written → MPat → MPat
    FormPat : (variant : ℕ) → (fields : MNumbered) → MPat
    ListPat : (front : MPats) → MRest → (back : MPats) → MPat
    PointPat : (mutable : Bool) → MPat → MPat
    OrPat : (alternatives : MNumbered) → MPat

  -- the items of a list pattern, each at its place
  pub data MPats : Type 0 where
    no_pats : MPats
    more_pats : MPat → MPats → MPats

  -- patterns in the order in which they are written, each with a number: in a form the number of its field in the
  -- declaration, in an or-pattern the alternative's offset
  pub data MNumbered : Type 0 where
    no_numbered : MNumbered
    more_numbered : ℕ → MPat → MNumbered → MNumbered

-- an arm: its pattern, that pattern's offset, and whether it has a guard
pub record MArm : Type 0 where
  pub pat : MPat
  pub at : ℕ
  pub guarded : Bool

-- the numbers of the patterns, in order
abbrev pub numbers_in : MNumbered → List ℕ
numbers_in no_numbered = []
numbers_in (more_numbered n p ps) = n ∷ numbers_in ps

-- the number is none of these
abbrev pub is_none_of : List ℕ → ℕ → Bool
is_none_of ns n = not (list_any (nat_eq n) ns)

-- no number stands twice
abbrev pub all_differ : List ℕ → Bool
all_differ [] = true
all_differ (n ∷ ns) = is_none_of ns n && all_differ ns
