-- The numbers of texts and or-patterns, by the uids of the patterns (our own choice).
use Rattle.std.specs.Prelude.{◌≡◌, ℕ, ℤ, Bool, true, false, List, [], ◌∷◌, map, slice_get, Option, None, Some, IsTrue, nat_eq}
use Rattle.std.specs.Option.{option_map}
use Rattle.indexmap.specs.IndexMap.{get}
use Rattle.match_model.specs.Numbers.{MRange, Free, in_range}
use Rattle.match_model.specs.Constructors.{MCtor, TextCtor, OrCtor}
use Rattle.match_model.specs.ArenaPatterns.{MDePat, MDeArm, ctor_of, subs_of, uid_of}
use Rattle.match_model.specs.Rows.{Head}
use Rattle.range_split.specs.Ranges.{plain_range}
use Rattle.pattern_arena.specs.declared.pattern.DePat.{DePat}
use Rattle.pattern_arena.specs.Trees.{tree, placed_ctor, placed_subs}
use Rattle.pattern_lints.specs.declared.hulls.Hulls.{Hulls}
use Rattle.pattern_lints.specs.Beside.{LiesBelow}

-- the numbers that are noted for the uid
abbrev pub noted : Hulls → ℕ → Option MRange
noted h uid = option_map plain_range (get nat_eq h.of uid)

-- the numbers, or all
abbrev pub or_all : Option MRange → MRange
or_all None = record { low = Free; high = Free }
or_all (Some r) = r

abbrev pub noted_or_all : Hulls → ℕ → MRange
noted_or_all h uid = or_all (noted h uid)

-- the numbers of such patterns are noted
abbrev pub is_kept : MCtor → Bool
is_kept (TextCtor t) = true
is_kept OrCtor = true
is_kept _ = false

-- the second range has the numbers of the first
abbrev pub IsWithin : MRange → MRange → Type 0
IsWithin r s = (x : ℤ) → IsTrue (in_range r x) → IsTrue (in_range s x)

-- numbers are noted for the uid, and those of the range are among them
abbrev pub HasNoted : Hulls → (uid : ℕ) → MRange → Type 0
HasNoted h uid r = (s : MRange) × (noted h uid ≡ Some s) × IsWithin r s

-- what was noted still is, perhaps with more numbers
abbrev pub Widens : Hulls → Hulls → Type 0
Widens old new = (uid : ℕ) (r : MRange) → noted old uid ≡ Some r → HasNoted new uid r

-- if the pattern is a text or an or-pattern, the numbers noted for its uid have that of each value that it matches
abbrev pub IsKnown : {T : Type 0} → Hulls → MDePat T → Type 0
IsKnown h p = IsTrue (is_kept (ctor_of p)) → (r : MRange) × (noted h (uid_of p) ≡ Some r) × LiesBelow p [] r

-- the pattern to which the numbers of patterns below lead
abbrev pub pattern_at : {T : Type 0} → MDePat T → List ℕ → Head T
pattern_at p [] = Some p
pattern_at p (i ∷ path) = elim (slice_get (subs_of p) i) [ None ↦ None | Some q ↦ pattern_at q path ]

-- so it is of each pattern in the pattern
abbrev pub AreKnown : {T : Type 0} → Hulls → MDePat T → Type 0
AreKnown {T} h p = (path : List ℕ) (q : MDePat T) → pattern_at p path ≡ Some q → IsKnown h q

-- so it is in each pattern below
abbrev pub SubsAreKnown : {T : Type 0} → Hulls → DePat T → Type 0
SubsAreKnown {T} h p = (i : ℕ) (q : DePat T) → slice_get (placed_subs p) i ≡ Some q → AreKnown h (tree q)

-- so it is in each arm's pattern
abbrev pub AreKnownIn : {T : Type 0} → Hulls → List (MDeArm T) → Type 0
AreKnownIn {T} h arms = (j : ℕ) (a : MDeArm T) → slice_get arms j ≡ Some a → AreKnown h a.pat

-- the second pattern is the only part of the first, whose numbers are not noted
pub record IsOnlyPart {T : Type 0} (p q : DePat T) : Type 0 where
  pub only : placed_subs p ≡ q ∷ []
  pub plain : is_kept (placed_ctor p) ≡ false
