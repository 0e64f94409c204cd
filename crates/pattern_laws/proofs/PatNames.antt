-- The names of patterns of the definitions, and when they differ.
use Rattle.std.proofs.Common.{ℕ, List, [], ◌∷◌, ◌++◌}
use Rattle.match_model.specs.Patterns.{MRest, NoRest, SomeRest, BoundRest, MPat, WildPat, NumPat, FlagPat, TextPat, SpanPat, BindPat, FormPat, ListPat, PointPat, OrPat, MPats, no_pats, more_pats, MNumbered, no_numbered, more_numbered}
use Rattle.pattern_laws.proofs.NameLists.{In, joined, AllApart}

-- the name of a rest, if it has one
abbrev pub rest_names : MRest → List (List ℕ)
rest_names NoRest = []
rest_names SomeRest = []
rest_names (BoundRest name written) = name ∷ []

abbrev mutual
  -- the names that the pattern binds
  pub pat_names : MPat → List (List ℕ)
  pat_names WildPat = []
  pat_names (NumPat n) = []
  pat_names (FlagPat b) = []
  pat_names (TextPat s) = []
  pat_names (SpanPat at r) = []
  pat_names (BindPat name written p) = name ∷ pat_names p
  pat_names (FormPat k fields) = joined (names_of_numbered fields)
  pat_names (ListPat front rest back) = joined (names_of_pats front ++ (rest_names rest ∷ names_of_pats back))
  pat_names (PointPat mutable p) = pat_names p
  pat_names (OrPat alternatives) = joined (names_of_numbered alternatives)

  -- those of each field or alternative
  pub names_of_numbered : MNumbered → List (List (List ℕ))
  names_of_numbered no_numbered = []
  names_of_numbered (more_numbered n p ps) = pat_names p ∷ names_of_numbered ps

  -- those of each item
  pub names_of_pats : MPats → List (List (List ℕ))
  names_of_pats no_pats = []
  names_of_pats (more_pats p ps) = pat_names p ∷ names_of_pats ps

abbrev mutual
  -- no two names of the pattern are one, but for those of different alternatives
  pub NamesDiffer : MPat → Type 0
  NamesDiffer WildPat = Unit {0}
  NamesDiffer (NumPat n) = Unit {0}
  NamesDiffer (FlagPat b) = Unit {0}
  NamesDiffer (TextPat s) = Unit {0}
  NamesDiffer (SpanPat at r) = Unit {0}
  NamesDiffer (BindPat name written p) = (In name (pat_names p) → ⊥) × NamesDiffer p
  NamesDiffer (FormPat k fields) = EachDiffers fields × AllApart (names_of_numbered fields)
  NamesDiffer (ListPat front rest back) = PatsDiffer front × PatsDiffer back × AllApart
      (names_of_pats front ++ (rest_names rest ∷ names_of_pats back))
  NamesDiffer (PointPat mutable p) = NamesDiffer p
  NamesDiffer (OrPat alternatives) = EachDiffers alternatives

  -- the names of each field or alternative differ
  pub EachDiffers : MNumbered → Type 0
  EachDiffers no_numbered = Unit {0}
  EachDiffers (more_numbered n p ps) = NamesDiffer p × EachDiffers ps

  -- the names of each item differ
  pub PatsDiffer : MPats → Type 0
  PatsDiffer no_pats = Unit {0}
  PatsDiffer (more_pats p ps) = NamesDiffer p × PatsDiffer ps
