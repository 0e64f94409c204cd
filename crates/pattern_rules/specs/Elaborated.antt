-- No meaning: the pattern of an engine that a pattern of the definitions becomes at a type and a binding mode. An alternative
-- has its offset as its uid; other uids and offsets are 0, but for ranges of more than one number, which have their own.
use Rattle.std.specs.Prelude.{ℕ, Bool, false, not, ◌&&◌, List, [], ◌∷◌, nat_eq, if◌then◌else◌}
use Rattle.match_model.specs.declared.Mode.{Mode}
use Rattle.match_model.specs.Types.{MType}
use Rattle.match_model.specs.Numbers.{closed, has_one_number}
use Rattle.match_model.specs.Declarations.{MProgram}
use Rattle.match_model.specs.RustTypes.{inner_type}
use Rattle.match_model.specs.Constructors.{MCtor, WildCtor, OrCtor, FlagCtor, NumbersCtor, TextCtor}
use Rattle.match_model.specs.Patterns.{MPat, WildPat, NumPat, FlagPat, TextPat, SpanPat, BindPat, FormPat, ListPat, PointPat, OrPat, MPats, no_pats, more_pats, MNumbered, no_numbered, more_numbered}
use Rattle.match_model.specs.Matching.{mode_written, to_move}
use Rattle.match_model.specs.ArenaPatterns.{WholePart, MBound, de_pat, MDePats, no_de_pats, more_de_pats}
use Rattle.pattern_rules.specs.Builders.{Built, Maker, over, leaf, span, point, through_type, form, list_of}

-- the pattern with one more name bound
abbrev pub with_bound : MBound → Built → Built
with_bound b (de_pat c t uid at subs binds) = de_pat c t uid at subs (b ∷ binds)

-- the constructor is a range of more than one number
abbrev pub is_wide_ctor : MCtor → Bool
is_wide_ctor (NumbersCtor r) = not (has_one_number r)
is_wide_ctor _ = false

-- the pattern as an alternative, or as an arm's, at the offset; a range that stands elsewhere keeps its own below
abbrev pub standing_at : ℕ → Built → Built
standing_at here (de_pat c t uid at subs binds) =
    if is_wide_ctor c && not (nat_eq here at) then de_pat OrCtor t here here (more_de_pats (de_pat c t at at subs binds) no_de_pats) []
    else de_pat c t here here subs binds

abbrev mutual
  -- the pattern of the engine that a pattern becomes
  pub elaborated : MProgram → MPat → MType → Mode → Built
  elaborated program WildPat t m = leaf WildCtor t
  elaborated program (NumPat n) t m = through_type (λ u m'. leaf (NumbersCtor (closed n n)) u) t m
  elaborated program (FlagPat b) t m = through_type (λ u m'. leaf (FlagCtor b) u) t m
  elaborated program (TextPat text) t m = point t (leaf (TextCtor text) (inner_type t))
  elaborated program (SpanPat at r) t m = through_type (λ u m'. span at r u) t m
  elaborated program (BindPat name written p) t m =
      with_bound (record { name = name; mode = mode_written to_move written m; part = WholePart }) (elaborated program p t m)
  elaborated program (FormPat k fields) t m =
      through_type (λ u m'. form program k (λ i w. elaborated_field program fields i w m') u) t m
  elaborated program (ListPat front rest back) t m =
      through_type (λ u m'. list_of program (makers program front m') rest (makers program back m') u m') t m
  elaborated program (PointPat mutable p) t m = point t (elaborated program p (inner_type t) (to_move m))
  elaborated program (OrPat alternatives) t m = over OrCtor t (elaborated_alternatives program alternatives t m)

  -- the field with this number; a wildcard where it is not written
  pub elaborated_field : MProgram → MNumbered → ℕ → MType → Mode → Built
  elaborated_field program no_numbered i t m = leaf WildCtor t
  elaborated_field program (more_numbered j p ps) i t m = if nat_eq i j then elaborated program p t m else elaborated_field program ps i t m

  -- what the items of a list become
  pub makers : MProgram → MPats → Mode → List Maker
  makers program no_pats m = []
  makers program (more_pats p ps) m = (λ t. elaborated program p t m) ∷ makers program ps m

  -- the alternatives, each at its offset
  pub elaborated_alternatives : MProgram → MNumbered → MType → Mode → MDePats MType
  elaborated_alternatives program no_numbered t m = no_de_pats
  elaborated_alternatives program (more_numbered at p ps) t m =
      more_de_pats (standing_at at (elaborated program p t m)) (elaborated_alternatives program ps t m)
