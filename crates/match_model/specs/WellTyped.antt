-- When a match, a row or a matrix of the engine is well typed for a context (after the Rust Reference, Patterns; what an
-- engine asks besides is our own choice).
use Rattle.std.specs.Prelude.{◌≡◌, ⊤, ℕ, suc, ◌^◌, Bool, true, false, not, ◌&&◌, List, [], ◌∷◌, ◌++◌, map, length, nat_eq, nat_le, Some, None, IsTrue}
use Rattle.std.specs.List.{list_any, list_all, flat_map, Contains, IsDistinct}
use Rattle.match_model.specs.Texts.{text_eq}
use Rattle.match_model.specs.Constructors.{LongerShape, MCtor, LaterCtor, OtherTextCtor, RowCtor, WildCtor, OrCtor, least_length, belongs}
use Rattle.match_model.specs.Contexts.{Context}
use Rattle.match_model.specs.ArenaPatterns.{MPart, WholePart, MiddlePart, MBound, MDePat, de_pat, MDePats, no_de_pats, more_de_pats, de_pats_list, MDeArm, MDeMatch}
use Rattle.match_model.specs.Rows.{Head}
use Rattle.match_model.specs.Matrices.{MColumn, MRow, MMatrix}

-- the name is none of these
abbrev pub is_new : List (List ℕ) → List ℕ → Bool
is_new names name = not (list_any (text_eq name) names)

-- no name stands twice
abbrev pub are_distinct : List (List ℕ) → Bool
are_distinct [] = true
are_distinct (name ∷ rest) = is_new rest name && are_distinct rest

-- no name stands in both lists
abbrev pub are_apart : List (List ℕ) → List (List ℕ) → Bool
are_apart names others = list_all (is_new names) others

-- the names that are bound
abbrev pub bound_names : List MBound → List (List ℕ)
bound_names binds = map (λ b. b.name) binds

abbrev mutual
  -- the names that the pattern binds, in all of its alternatives
  pub names_in : {T : Type 0} → MDePat T → List (List ℕ)
  names_in (de_pat c t uid at subs binds) = bound_names binds ++ names_in_all subs

  -- the names that the patterns bind
  pub names_in_all : {T : Type 0} → MDePats T → List (List ℕ)
  names_in_all no_de_pats = []
  names_in_all (more_de_pats p ps) = names_in p ++ names_in_all ps

-- which of two tests counts: the first for an or-pattern
abbrev pub if_or : MCtor → Bool → Bool → Bool
if_or OrCtor b c = b
if_or _ b c = c

abbrev mutual
  -- two names differ, unless an or-pattern holds them in different alternatives
  pub names_differ : {T : Type 0} → MDePat T → Bool
  names_differ (de_pat c t uid at subs binds) =
      are_distinct (bound_names binds)
      && (are_apart (bound_names binds) (names_in_all subs) && if_or c (names_differ_in_each subs) (names_differ_in_all subs))

  -- the names of each pattern differ
  pub names_differ_in_each : {T : Type 0} → MDePats T → Bool
  names_differ_in_each no_de_pats = true
  names_differ_in_each (more_de_pats p ps) = names_differ p && names_differ_in_each ps

  -- the names of all the patterns differ
  pub names_differ_in_all : {T : Type 0} → MDePats T → Bool
  names_differ_in_all no_de_pats = true
  names_differ_in_all (more_de_pats p ps) =
      names_differ p && (are_apart (names_in p) (names_in_all ps) && names_differ_in_all ps)

-- a name of the middle stands only on a row with a rest and the same two sides
abbrev pub part_is_of : MCtor → MPart → Bool
part_is_of c WholePart = true
part_is_of (RowCtor (LongerShape f b)) (MiddlePart g c) = nat_eq f g && nat_eq b c
part_is_of _ (MiddlePart g c) = false

-- a pattern can have the constructor: it is no variant that is to come, not the rest of all texts, and no row that asks for
-- more items than an array has, but for one
abbrev pub is_written : MCtor → Bool
is_written LaterCtor = false
is_written OtherTextCtor = false
is_written (RowCtor s) = nat_le (least_length s) (2 ^ 32)
is_written _ = true

-- no patterns stand below
abbrev pub HasNone : {T : Type 0} → MDePats T → Type 0
HasNone no_de_pats = ⊤
HasNone (more_de_pats p ps) = ⊥

-- what a node asks: of a wildcard nothing below, of an or-pattern its alternatives, of any other constructor its parts
abbrev pub ByCtor : MCtor → (wild or parts : Type 0) → Type 0
ByCtor WildCtor wild or parts = wild
ByCtor OrCtor wild or parts = or
ByCtor _ wild or parts = parts

abbrev mutual
  -- the pattern is well typed: it has the type; its constructor belongs to the type's set, has as many patterns as parts, and
  -- each is well typed for its part; alternatives have the or-pattern's type. An or-pattern may have one alternative, or
  -- none: it then matches nothing, and an expanded row with it is gone
  pub IsTyped : {T : Type 0} → Context T → T → MDePat T → Type 0
  IsTyped cx t (de_pat c u uid at subs binds) =
      (u ≡ t) × IsTrue (list_all (λ b. part_is_of c b.part) binds)
      × ByCtor c (HasNone subs) (AreAllTyped cx t subs)
      (IsTrue (belongs (cx.set_of t) c && is_written c) × (length (de_pats_list subs) ≡ cx.arity c t) × ArePartsTyped cx (cx.sub c t) 0 subs)

  -- the patterns are all well typed for the type
  pub AreAllTyped : {T : Type 0} → Context T → T → MDePats T → Type 0
  AreAllTyped cx t no_de_pats = ⊤
  AreAllTyped cx t (more_de_pats p ps) = IsTyped cx t p × AreAllTyped cx t ps

  -- the patterns are well typed for the parts from number `i` on
  pub ArePartsTyped : {T : Type 0} → Context T → (ℕ → T) → ℕ → MDePats T → Type 0
  ArePartsTyped cx type_of i no_de_pats = ⊤
  ArePartsTyped cx type_of i (more_de_pats p ps) = IsTyped cx (type_of i) p × ArePartsTyped cx type_of (suc i) ps

abbrev mutual
  -- the uids of the pattern and of those inside it
  pub uids_in : {T : Type 0} → MDePat T → List ℕ
  uids_in (de_pat c t uid at subs binds) = uid ∷ uids_in_all subs

  -- the uids of the patterns and of those inside them
  pub uids_in_all : {T : Type 0} → MDePats T → List ℕ
  uids_in_all no_de_pats = []
  uids_in_all (more_de_pats p ps) = uids_in p ++ uids_in_all ps

-- the match is well typed: its type is one of the context's, each arm's pattern has it, the names of an arm differ, and no two
-- patterns have one uid
pub record IsWellTyped {T : Type 0} (IsType : T → Type 0) (cx : Context T) (m : MDeMatch T) : Type 0 where
  pub type : IsType m.type
  pub typed : (a : MDeArm T) → Contains m.arms a → IsTyped cx m.type a.pat
  pub names : (a : MDeArm T) → Contains m.arms a → IsTrue (names_differ a.pat)
  pub uids : IsDistinct nat_eq (flat_map (λ a. uids_in a.pat) m.arms)

-- a head is a wildcard, or well typed for the type of its column
abbrev pub IsHeadTyped : {T : Type 0} → Context T → T → Head T → Type 0
IsHeadTyped cx t None = ⊤
IsHeadTyped cx t (Some p) = IsTyped cx t p

-- there is one head for each column, well typed for it
abbrev pub AreHeadsTyped : {T : Type 0} → Context T → List (MColumn T) → List (Head T) → Type 0
AreHeadsTyped cx [] [] = ⊤
AreHeadsTyped cx [] (h ∷ heads) = ⊥
AreHeadsTyped cx (c ∷ columns) [] = ⊥
AreHeadsTyped cx (c ∷ columns) (h ∷ heads) = IsHeadTyped cx c.type h × AreHeadsTyped cx columns heads

-- the names that a head binds
abbrev pub head_names : {T : Type 0} → Head T → List (List ℕ)
head_names None = []
head_names (Some p) = names_in p

-- the names of a head differ
abbrev pub head_names_differ : {T : Type 0} → Head T → Bool
head_names_differ None = true
head_names_differ (Some p) = names_differ p

-- the names of the heads differ, unless an or-pattern holds them in different alternatives, and are none of those caught
abbrev pub heads_names_differ : {T : Type 0} → (caught : List (List ℕ)) → List (Head T) → Bool
heads_names_differ caught [] = are_distinct caught
heads_names_differ caught (h ∷ heads) =
    head_names_differ h && (are_apart caught (head_names h) && (are_apart (head_names h) (flat_map head_names heads) && heads_names_differ caught heads))

-- the matrix is well formed: its columns have types of the context, each row a well-typed head for each column, and the names
-- of a row differ
pub record IsWellFormed {T : Type 0} (IsType : T → Type 0) (cx : Context T) (m : MMatrix T) : Type 0 where
  pub columns : (c : MColumn T) → Contains m.columns c → IsType c.type
  pub heads : (r : MRow T) → Contains m.rows r → AreHeadsTyped cx m.columns r.heads
  pub names : (r : MRow T) → Contains m.rows r → IsTrue (heads_names_differ (map (λ b. b.name) r.caught) r.heads)
