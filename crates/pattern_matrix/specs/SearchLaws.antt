-- What a search for what is reached may do, and what it tells at its end.
use Rattle.std.specs.Prelude.{◌≡◌, ◌≢◌, ◌⊎◌, ◌↔◌, ◌≤◌, ◌<◌, ℕ, Bool, true, false, ◌&&◌, List, [], ◌∷◌, ◌++◌, length, nat_eq, map}
use Rattle.std.specs.List.{list_all, list_any, Contains}
use Rattle.match_model.specs.Values.{MValue, Unseen}
use Rattle.match_model.specs.Contexts.{Context, Open}
use Rattle.match_model.specs.ArenaPatterns.{MDeMatch}
use Rattle.match_model.specs.ArenaWays.{match_arms, InMatchDomain}
use Rattle.match_model.specs.ArenaUnreachable.{in_reading_order, IsReadingList}
use Rattle.match_model.specs.Made.{AreArmsMade}
use Rattle.match_model.specs.Match.{is_empty_list, IsExhaustive}
use Rattle.match_model.specs.Constructors.{MCtor}
use Rattle.match_model.specs.Rows.{starts_wild}
use Rattle.match_model.specs.Weights.{rows_weight}
use Rattle.constructor_sets.specs.Present.{AreFound}
use Rattle.match_model.specs.Unreachable.{Entry}
use Rattle.match_model.specs.WellTyped.{IsWellTyped}
use Rattle.match_model.specs.Witness.{MWitness}
use Rattle.match_model.specs.WitnessList.{IsWitnessList}
use Rattle.pattern_matrix.specs.Counting.{Question, WantedRow, has_chosen, counts, to_arm, through_alternative}
use Rattle.pattern_matrix.specs.ReachLaws.{left_from, AreMarksExact}
use Rattle.pattern_matrix.specs.Searching.{Submatrix, weight_of, heads_in, is_bare, IsFit, Comes, SomeComes, apart, IsSplit, IsDone, IsNoted, DoFor, StandFor, AreAlike, AreListed, IsSearch, IsLookedAt, work, moved_first, first_submatrix, IsColumnCut}

-- rows of so many heads are listed one by one
pub record RowsAreListed (T : Type 0) : Type 0 where
  -- at first none is
  pub none : (is_marked : Question → Bool) (n : ℕ) → DoFor {T = T} is_marked n [] []
  -- marks may grow
  pub later : (old now : Question → Bool) (n : ℕ) (through kept : List (WantedRow T)) → ((q : Question) → old q ≡ true → now q ≡ true) →
      DoFor old n through kept → DoFor now n through kept
  -- a guarded row of which nothing new is wanted is left out
  pub leave_guarded : (is_marked : Question → Bool) (n : ℕ) (through kept : List (WantedRow T)) (x : WantedRow T) → DoFor is_marked n through kept →
      x.row.guarded ≡ true → IsDone is_marked x → DoFor is_marked n (through ++ x ∷ []) kept
  -- a guarded row of wildcards is left out where it is marked
  pub note_guarded : (is_marked : Question → Bool) (n : ℕ) (through kept : List (WantedRow T)) (x : WantedRow T) → DoFor is_marked n through kept →
      length x.row.heads ≡ n → is_bare x ≡ true → x.row.guarded ≡ true → IsNoted is_marked x → DoFor is_marked n (through ++ x ∷ []) kept
  -- any row may be listed; it is wanted no more where everything that it may answer is marked
  pub list_row : (is_marked : Question → Bool) (n : ℕ) (through kept : List (WantedRow T)) (x : WantedRow T) (w : Bool) → DoFor is_marked n through kept →
      (w ≡ true → x.wanted ≡ true) → (w ≡ false → IsDone is_marked x) →
      DoFor is_marked n (through ++ x ∷ []) (kept ++ record { row = x.row; wanted = w } ∷ [])
  -- at the end of the rows those that are listed stand for them
  pub all : (is_marked : Question → Bool) (n : ℕ) (rows kept : List (WantedRow T)) → DoFor is_marked n rows kept → StandFor is_marked n rows kept
  -- and so where a row of wildcards without a guard was gone through, whatever stands behind it
  pub close : (is_marked : Question → Bool) (n : ℕ) (through kept : List (WantedRow T)) (x : WantedRow T) (rest : List (WantedRow T)) →
      DoFor is_marked n (through ++ x ∷ []) kept → length x.row.heads ≡ n → is_bare x ≡ true → x.row.guarded ≡ false →
      StandFor is_marked n (through ++ x ∷ rest) kept
  -- where none was listed before such a row, and it is marked, nothing is left
  pub note_last : (is_marked : Question → Bool) (n : ℕ) (through : List (WantedRow T)) (x : WantedRow T) (rest : List (WantedRow T)) →
      DoFor is_marked n through [] → length x.row.heads ≡ n → is_bare x ≡ true → x.row.guarded ≡ false → IsNoted is_marked x →
      StandFor is_marked n (through ++ x ∷ rest) []
  -- rows behind the last wanted one are left out
  pub cut_behind : (is_marked : Question → Bool) (n : ℕ) (rows kept behind : List (WantedRow T)) → StandFor is_marked n rows (kept ++ behind) →
      list_any (λ x. x.wanted) behind ≡ false → StandFor is_marked n rows kept
  -- a wanted row of wildcards before which none was listed counts for all values, so what it answers may be marked
  pub noted_counts : (is_marked : Question → Bool) (n : ℕ) (through : List (WantedRow T)) (x : WantedRow T) (rest : List (WantedRow T)) →
      DoFor is_marked n through [] → length x.row.heads ≡ n → is_bare x ≡ true → x.wanted ≡ true →
      (q : Question) → (nat_eq q.arm x.row.arm && has_chosen q x.row.chosen) ≡ true →
      (vs : List MValue) → length vs ≡ n → counts q (through ++ x ∷ rest) vs ≡ true

-- any place may be taken first
pub record PlacesMayBeMoved {T : Type 0} (IsType : T → Type 0) (IsValue : T → Bool → MValue → Type 0) (cx : Context T) : Type 0 where
  pub fit : (i : ℕ) (s : Submatrix T) → IsFit IsType IsValue cx s → IsFit IsType IsValue cx (moved_first i s)
  pub comes : (i : ℕ) (s : Submatrix T) → IsFit IsType IsValue cx s → (q : Question) → Comes IsValue q s ↔ Comes IsValue q (moved_first i s)
  pub weighs : (i : ℕ) (s : Submatrix T) → weight_of (moved_first i s) ≡ weight_of s

-- a search
pub record SearchIsExact {T : Type 0} (IsType : T → Type 0) (IsValue : T → Bool → MValue → Type 0) (cx : Context T) : Type 0 where
  -- it begins with the first submatrix and nothing marked
  pub begins : (first : Submatrix T) → IsFit IsType IsValue cx first → IsSearch IsType IsValue cx first (λ q. false) (first ∷ []) []
  -- the last one of what is to be looked at is looked at
  pub looks : (first : Submatrix T) (old now : Question → Bool) (todo new seen : List (Submatrix T)) (s : Submatrix T) →
      IsSearch IsType IsValue cx first old (todo ++ s ∷ []) seen → IsLookedAt IsType IsValue cx old now s new →
      IsSearch IsType IsValue cx first now (todo ++ new) (s ∷ seen)
  -- by taking its first place apart
  pub by_split : (old now : Question → Bool) (o : Open T) (places : List (Open T)) (rows : List (WantedRow T)) (left new : List (Submatrix T)) →
      IsFit IsType IsValue cx (record { places = o ∷ places; rows = rows }) → list_all starts_wild (heads_in rows) ≡ false →
      IsSplit IsValue cx o places (apart rows) left → AreListed now left new →
      ((q : Question) → old q ≡ true → now q ≡ true) → ((q : Question) → now q ≡ true → (old q ≡ true) ⊎ SomeComes IsValue q left) →
      IsLookedAt IsType IsValue cx old now (record { places = o ∷ places; rows = rows }) new
  -- what is marked is right: a wanted row of wildcards before which none was listed is come to
  pub noted : (is_marked : Question → Bool) (places : List (Open T)) (through : List (WantedRow T)) (x : WantedRow T) (rest : List (WantedRow T)) →
      IsFit IsType IsValue cx (record { places = places; rows = through ++ x ∷ rest }) → DoFor is_marked (length places) through [] →
      length x.row.heads ≡ length places → is_bare x ≡ true → x.wanted ≡ true →
      (q : Question) → (nat_eq q.arm x.row.arm && has_chosen q x.row.chosen) ≡ true →
      Comes IsValue q (record { places = places; rows = through ++ x ∷ rest })
  -- one that says the same and is no heavier may stand in place of a submatrix, as with another place first
  pub restates : (first : Submatrix T) (is_marked : Question → Bool) (todo seen : List (Submatrix T)) (s t : Submatrix T) →
      IsSearch IsType IsValue cx first is_marked (todo ++ s ∷ []) seen → IsFit IsType IsValue cx t → weight_of t ≤ weight_of s →
      ((q : Question) → Comes IsValue q s ↔ Comes IsValue q t) → IsSearch IsType IsValue cx first is_marked (todo ++ t ∷ []) seen
  -- what was seen may be forgotten
  pub forgets : (first : Submatrix T) (is_marked : Question → Bool) (todo seen fewer : List (Submatrix T)) →
      IsSearch IsType IsValue cx first is_marked todo seen → ((t : Submatrix T) → Contains fewer t → Contains seen t) →
      IsSearch IsType IsValue cx first is_marked todo fewer
  -- or it is left out, where one was seen that is no heavier and says the same
  pub repeats : (first : Submatrix T) (is_marked : Question → Bool) (todo seen : List (Submatrix T)) (s t : Submatrix T) →
      IsSearch IsType IsValue cx first is_marked (todo ++ s ∷ []) seen → Contains seen t → weight_of t ≤ weight_of s →
      ((q : Question) → Comes IsValue q s → (is_marked q ≡ true) ⊎ Comes IsValue q t) → IsSearch IsType IsValue cx first is_marked todo seen
  -- as one over the same places does whose rows say the same, but for alternatives that are marked
  pub alike : (is_marked : Question → Bool) (places : List (Open T)) (rows others : List (WantedRow T)) → AreAlike is_marked rows others → (q : Question) →
      Comes IsValue q (record { places = places; rows = rows }) → (is_marked q ≡ true) ⊎ Comes IsValue q (record { places = places; rows = others })
  pub alike_weighs : (is_marked : Question → Bool) (rows others : List (WantedRow T)) → AreAlike is_marked rows others →
      rows_weight (map (λ x. x.row) rows) ≡ rows_weight (map (λ x. x.row) others)
  -- at the end exactly what values come to is marked
  pub ends : (first : Submatrix T) (is_marked : Question → Bool) (seen : List (Submatrix T)) → IsSearch IsType IsValue cx first is_marked [] seen →
      (q : Question) → (is_marked q ≡ true) ↔ Comes IsValue q first
  -- and each step leaves less to do, where fewer than `b` new ones come of it
  pub falls : (b : ℕ) (todo new : List (Submatrix T)) (s : Submatrix T) → length new < b →
      ((n : Submatrix T) → Contains new n → weight_of n < weight_of s) → work b (todo ++ new) < work b (todo ++ s ∷ [])

-- what the search for what is reached promises of a match: its marks tell exactly which arms and alternatives are reachable, and
-- whether the row behind all arms is, which is so where some value is not covered
pub record IsReached {T : Type 0} (IsValue : T → Bool → MValue → Type 0) (m : MDeMatch T) (is_marked : Question → Bool) : Type 0 where
  pub exact : AreMarksExact (InMatchDomain IsValue m) (match_arms m) (λ j. is_marked (to_arm j)) (λ j id. is_marked (through_alternative j id))
  pub behind : is_marked (to_arm (length m.arms)) ≡ false → IsExhaustive (InMatchDomain IsValue m) (match_arms m)
  pub behind_too : ((v : MValue) → InMatchDomain IsValue m v → v ≢ Unseen) → IsExhaustive (InMatchDomain IsValue m) (match_arms m) →
      is_marked (to_arm (length m.arms)) ≡ false

-- what judging a match promises
pub record IsJudged {T : Type 0} (IsValue : T → Bool → MValue → Type 0) (cx : Context T) (m : MDeMatch T) (exhaustive : Bool) (unreachable : List Entry) (witnesses : List MWitness) : Type 0 where
  pub tells : (exhaustive ≡ true) ↔ IsExhaustive (InMatchDomain IsValue m) (match_arms m)
  pub list : IsReadingList (InMatchDomain IsValue m) (match_arms m) unreachable
  pub witness_list : IsWitnessList cx IsValue m witnesses

-- the first submatrix of a well-typed match whose scrutinee has a value fits, and where exactly what comes in it is marked, the
-- marks are those that are promised
pub record FirstTells {T : Type 0} (IsType : T → Type 0) (IsValue : T → Bool → MValue → Type 0) (cx : Context T) : Type 0 where
  pub fit : (m : MDeMatch T) → IsWellTyped IsType cx m → AreArmsMade m.arms → (v : MValue) × InMatchDomain IsValue m v →
      IsFit IsType IsValue cx (first_submatrix m)
  pub reached : (m : MDeMatch T) (is_marked : Question → Bool) → ((q : Question) → (is_marked q ≡ true) ↔ Comes IsValue q (first_submatrix m)) →
      IsReached IsValue m is_marked

-- what is found of a column, the heads of the first place being its heads, says how it is cut
abbrev pub FoundIsCut : {T : Type 0} → (T → Bool → MValue → Type 0) → Context T → Type 0
FoundIsCut {T} IsValue cx =
    (o : Open T) (heads ctors : List MCtor) (missing : Bool) (gaps : List MCtor) → AreFound IsValue cx o heads ctors missing gaps →
    IsColumnCut IsValue cx o heads ctors missing

-- an exhaustive match has the empty witness list
abbrev pub ExhaustiveHasNone : {T : Type 0} → (T → Type 0) → (T → Bool → MValue → Type 0) → Context T → Type 0
ExhaustiveHasNone {T} IsType IsValue cx =
    (m : MDeMatch T) → IsWellTyped IsType cx m → AreArmsMade m.arms → IsExhaustive (InMatchDomain IsValue m) (match_arms m) →
    IsWitnessList cx IsValue m []

-- from marks that are those that are promised, and the witnesses, which are to be found only where the row behind all arms is
-- marked, comes what judging a match promises
abbrev pub JudgedByMarks : {T : Type 0} → (T → Type 0) → (T → Bool → MValue → Type 0) → Context T → Type 0
JudgedByMarks {T} IsType IsValue cx =
    (m : MDeMatch T) (is_marked : Question → Bool) (ws : List MWitness) → IsWellTyped IsType cx m → AreArmsMade m.arms → IsReached IsValue m is_marked →
    (is_marked (to_arm (length m.arms)) ≡ true → IsWitnessList cx IsValue m ws) → (is_marked (to_arm (length m.arms)) ≡ false → ws ≡ []) →
    IsJudged IsValue cx m (is_empty_list ws)
    (in_reading_order (left_from (λ j. is_marked (to_arm j)) (λ j id. is_marked (through_alternative j id)) 0 (match_arms m))) ws
