-- What follows from being the witness list of a match (Maranget 2007; exactness and order are our own choice).
use Rattle.std.specs.Prelude.{◌≡◌, ◌↔◌, ◌≤◌, ℕ, Bool, true, false, ◌&&◌, ◌||◌, List, [], ◌∷◌, ◌++◌, length, IsTrue}
use Rattle.std.specs.List.{Contains}
use Rattle.match_model.specs.Values.{MValue}
use Rattle.match_model.specs.Contexts.{Context}
use Rattle.match_model.specs.ArenaPatterns.{MDeMatch}
use Rattle.match_model.specs.ArenaWays.{match_arms, InMatchDomain}
use Rattle.match_model.specs.Match.{IsExhaustive}
use Rattle.match_model.specs.Constructors.{MCtor, builds}
use Rattle.match_model.specs.ContextLaws.{ArityIs}
use Rattle.match_model.specs.Rows.{is_wild_ctor, is_or_ctor}
use Rattle.match_model.specs.Witness.{MWitness, witnesses_of, all_fit, parts_under}
use Rattle.match_model.specs.WitnessList.{IsWitnessList, wrapped}
use Rattle.match_model.specs.ExactCover.{IsExactCover}
use Rattle.match_model.specs.WellTyped.{IsWellTyped}
use Rattle.match_model.specs.Made.{AreArmsMade}
use Rattle.match_model.specs.OfType.{witness_is_of}

-- the match is well typed, the ranges in its patterns can be held, and the witnesses are its list
pub record IsListOf {T : Type 0} (IsType : T → Type 0) (IsValue : T → Bool → MValue → Type 0) (cx : Context T) (m : MDeMatch T) (ws : List MWitness) : Type 0 where
  pub typed : IsWellTyped IsType cx m
  pub made : AreArmsMade m.arms
  pub listed : IsWitnessList cx IsValue m ws

-- the witness list of a match is an exact cover: it is fitted by exactly the values that no arm covers, by each once, and it
-- ascends
abbrev pub ListsAreCovers : {T : Type 0} → (T → Type 0) → (T → Bool → MValue → Type 0) → Context T → Type 0
ListsAreCovers {T} IsType IsValue cx =
    (m : MDeMatch T) (ws : List MWitness) → IsListOf IsType IsValue cx m ws → IsExactCover (InMatchDomain IsValue m) (match_arms m) ws

-- a match is exhaustive exactly where its witness list is empty
abbrev pub EmptyIsExhaustive : {T : Type 0} → (T → Type 0) → (T → Bool → MValue → Type 0) → Context T → Type 0
EmptyIsExhaustive {T} IsType IsValue cx =
    (m : MDeMatch T) (ws : List MWitness) → IsListOf IsType IsValue cx m ws →
    IsExhaustive (InMatchDomain IsValue m) (match_arms m) ↔ (ws ≡ [])

-- each witness of a match is of the type of its scrutinee
abbrev pub WitnessesAreOfType : {T : Type 0} → (T → Type 0) → (T → Bool → MValue → Type 0) → Context T → Type 0
WitnessesAreOfType {T} IsType IsValue cx =
    (m : MDeMatch T) (ws : List MWitness) → IsListOf IsType IsValue cx m ws →
    (w : MWitness) → Contains ws w → IsTrue (witness_is_of cx m.type w)

-- wrapping the first witnesses of a stack in a constructor, which has so many parts, keeps exactly which values fit: the new
-- stack fits values where the constructor builds the first of them and the old stack fits its parts and the others
abbrev pub WrappingKeepsFits : Type 0
WrappingKeepsFits =
    (c : MCtor) (named : List (List ℕ)) (n : ℕ) (ws : List MWitness) (v : MValue) (vs : List MValue) →
    (is_wild_ctor c || is_or_ctor c) ≡ false → ArityIs c n → n ≤ length ws →
    (builds named c v ≡ true → length (parts_under c v) ≡ n) →
    all_fit (witnesses_of (wrapped c named n ws)) (v ∷ vs) ≡ (builds named c v && all_fit (witnesses_of ws) (parts_under c v ++ vs))
