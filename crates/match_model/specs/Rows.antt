-- Rows of heads over open places, and what becomes of them when the first place is looked at (Maranget 2007, 2008).
use Rattle.std.specs.Prelude.{ℕ, ◌+◌, ◌-◌, Bool, true, false, List, [], ◌∷◌, ◌++◌, map, take, drop, replicate, Option, Some, None, cond}
use Rattle.std.specs.List.{flat_map, filter_map}
use Rattle.match_model.specs.Constructors.{LongerShape, MCtor, RowCtor, WildCtor, OrCtor, has_piece, sure_inside}
use Rattle.match_model.specs.Contexts.{Context, Open}
use Rattle.match_model.specs.ArenaPatterns.{MBound, MDePat, de_pat, MDePats, no_de_pats, more_de_pats, de_pats_list, uid_of}
use Rattle.match_model.specs.Pieces.{each_below}

-- a head of a row: a pattern, or a wildcard that stands where a pattern wrote nothing
abbrev pub Head : (T : Type 0) → Type 0
Head T = Option (MDePat T)

-- the pattern is a wildcard or a lone name
abbrev pub is_wild_ctor : MCtor → Bool
is_wild_ctor WildCtor = true
is_wild_ctor _ = false

-- the head is a wildcard or a lone name
abbrev pub is_wild : {T : Type 0} → Head T → Bool
is_wild None = true
is_wild (Some (de_pat c t uid at subs binds)) = is_wild_ctor c

-- what stands in place of a pattern: one without alternatives, with the uids of the alternatives that were chosen on the
-- way to it, the outermost first, and the names that were bound around it
pub record Choice (T : Type 0) : Type 0 where
  pub pat : MDePat T
  pub chosen : List ℕ
  pub binds : List MBound

-- the alternative with the names around it in front
abbrev pub with_binds : {T : Type 0} → List MBound → Choice T → Choice T
with_binds binds c = record c { binds = binds ++ c.binds }

-- the choice with one more alternative chosen on the way to it
abbrev pub choice_through : {T : Type 0} → (uid : ℕ) → Choice T → Choice T
choice_through uid c = record c { chosen = uid ∷ c.chosen }

-- the choice through an alternative of an or-pattern; a lone alternative is no choice
abbrev pub choice_among : {T : Type 0} → MDePats T → (uid : ℕ) → Choice T → Choice T
choice_among no_de_pats uid c = c
choice_among (more_de_pats p no_de_pats) uid c = c
choice_among (more_de_pats p (more_de_pats q qs)) uid c = choice_through uid c

-- which of two lists counts: the first for an or-pattern
abbrev pub choices_by : {T : Type 0} → MCtor → (alternatives self : List (Choice T)) → List (Choice T)
choices_by OrCtor alternatives self = alternatives
choices_by _ alternatives self = self

abbrev mutual
  -- what stands in place of the pattern when or-patterns are expanded: the alternatives, in order, none of which is an
  -- or-pattern; any other pattern itself
  pub choices_of : {T : Type 0} → MDePat T → List (Choice T)
  choices_of (de_pat c t uid at subs binds) =
      choices_by c (map (with_binds binds) (all_choices_of (choice_among subs) subs))
      (record { pat = de_pat c t uid at subs binds; chosen = []; binds = [] } ∷ [])

  -- what stands in place of the alternatives, one after the other, each chosen so
  pub all_choices_of : {T : Type 0} → (choose : ℕ → Choice T → Choice T) → MDePats T → List (Choice T)
  all_choices_of choose no_de_pats = []
  all_choices_of choose (more_de_pats p ps) = map (choose (uid_of p)) (choices_of p) ++ all_choices_of choose ps

-- the row once for each alternative of its first head
abbrev pub expand_row : {T : Type 0} → List (Head T) → List (List (Head T))
expand_row [] = [] ∷ []
expand_row (None ∷ rest) = (None ∷ rest) ∷ []
expand_row (Some p ∷ rest) = map (λ c. Some c.pat ∷ rest) (choices_of p)

-- the row's first head is a wildcard or a lone name
abbrev pub starts_wild : {T : Type 0} → List (Head T) → Bool
starts_wild [] = true
starts_wild (h ∷ rest) = is_wild h

-- the pattern is an or-pattern
abbrev pub is_or_ctor : MCtor → Bool
is_or_ctor OrCtor = true
is_or_ctor _ = false

-- the row's first head is an or-pattern
abbrev pub starts_or : {T : Type 0} → List (Head T) → Bool
starts_or (Some (de_pat c t uid at subs binds) ∷ rest) = is_or_ctor c
starts_or _ = false

-- the row without its first head
abbrev pub row_rest : {T : Type 0} → List (Head T) → List (Head T)
row_rest [] = []
row_rest (h ∷ rest) = rest

-- the constructor, where it is no wildcard
abbrev pub ctor_unless_wild : MCtor → Option MCtor
ctor_unless_wild WildCtor = None
ctor_unless_wild c = Some c

-- the constructor of the row's first head, where that is no wildcard
abbrev pub first_ctor : {T : Type 0} → List (Head T) → Option MCtor
first_ctor (Some (de_pat c t uid at subs binds) ∷ rest) = ctor_unless_wild c
first_ctor _ = None

-- the constructors of the column: of the first heads that are no wildcards
abbrev pub column_of : {T : Type 0} → List (List (Head T)) → List MCtor
column_of rows = filter_map first_ctor rows

-- so many wildcards
abbrev pub wildcards : {T : Type 0} → ℕ → List (Head T)
wildcards n = replicate n None

-- the heads of so many parts: those that the pattern writes, with wildcards in the middle of a row for the others
abbrev pub heads_of : {T : Type 0} → MCtor → List (Head T) → (count : ℕ) → List (Head T)
heads_of (RowCtor (LongerShape f b)) subs n = take f subs ++ (wildcards (n - (f + b)) ++ drop f subs)
heads_of WildCtor subs n = wildcards n
heads_of _ subs n = subs

-- the row specialised by the piece, which has so many parts (Maranget 2008): the heads of the parts in place of the first
-- head; no row where that head has not all of the piece
abbrev pub specialised_heads : {T : Type 0} → (piece : MCtor) → (count : ℕ) → List (Head T) → List (List (Head T))
specialised_heads piece n [] = []
specialised_heads piece n (None ∷ rest) = (wildcards n ++ rest) ∷ []
specialised_heads piece n (Some (de_pat c t uid at subs binds) ∷ rest) =
    cond (has_piece c piece) ((heads_of c (map Some (de_pats_list subs)) n ++ rest) ∷ []) []

-- the rows specialised by the piece, in order
abbrev pub all_specialised : {T : Type 0} → (piece : MCtor) → (count : ℕ) → List (List (Head T)) → List (List (Head T))
all_specialised piece n rows = flat_map (specialised_heads piece n) rows

-- the open place of part `i` of a piece
abbrev pub part_open : {T : Type 0} → Context T → Open T → (piece : MCtor) → ℕ → Open T
part_open cx o piece i = record { type = cx.sub piece o.type i; sure = sure_inside piece o.sure }

-- the open places of the parts of a piece, in order
abbrev pub parts_open : {T : Type 0} → Context T → Open T → (piece : MCtor) → List (Open T)
parts_open cx o piece = each_below (part_open cx o piece) (cx.arity piece o.type)
