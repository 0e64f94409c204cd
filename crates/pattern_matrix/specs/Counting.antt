-- What values come to in rows of heads: which rows, and there which alternatives (Maranget 2007, useful clauses). Only
-- tests are made of the ways, so that it does not count in which order the columns stand.
use Rattle.std.specs.Prelude.{⊤, ◌≡◌, ℕ, Bool, true, false, not, ◌&&◌, ◌||◌, List, [], ◌∷◌, ◌++◌, map, length, None, nat_eq}
use Rattle.std.specs.List.{flat_map, list_any}
use Rattle.match_model.specs.Values.{MValue}
use Rattle.match_model.specs.ArenaPatterns.{MDeMatch}
use Rattle.match_model.specs.Match.{counting_ways, goes_through}
use Rattle.match_model.specs.Rows.{Head}
use Rattle.match_model.specs.Matrices.{MRow, head_ways, first_rows}
use Rattle.match_model.specs.Places.{MStep}
use Rattle.match_model.specs.Steps.{Replacement, replacements_at, row_replaced}
use Rattle.pattern_matrix.specs.Covering.{row_takes}

-- what is asked of a match: whether some value comes to the arm as a `whole`, or else through its alternative
pub record Question : Type 0 where
  pub arm : ℕ
  pub whole : Bool
  pub id : ℕ

-- a row, and whether something new is looked for in it; a row that is not wanted still stops values
pub record WantedRow (T : Type 0) : Type 0 where
  pub row : MRow T
  pub wanted : Bool

-- one of the head's ways that count goes through the alternative
abbrev pub head_passes : {T : Type 0} → (guarded : Bool) → (id : ℕ) → Head T → MValue → Bool
head_passes g id h v = list_any (goes_through id) (counting_ways g (head_ways h v))

-- one of the heads does, each on its value
abbrev pub heads_pass : {T : Type 0} → (guarded : Bool) → (id : ℕ) → List (Head T) → List MValue → Bool
heads_pass g id [] vs = false
heads_pass g id (h ∷ heads) [] = false
heads_pass g id (h ∷ heads) (v ∷ vs) = head_passes g id h v || heads_pass g id heads vs

-- the arm is asked for, or an alternative that is among those chosen
abbrev pub has_chosen : Question → (chosen : List ℕ) → Bool
has_chosen q chosen = q.whole || list_any (nat_eq q.id) chosen

-- the row is of the arm, and its heads take the values as the question asks
abbrev pub row_answers : {T : Type 0} → Question → MRow T → List MValue → Bool
row_answers q r vs =
    nat_eq q.arm r.arm && (row_takes r.heads vs && (has_chosen q r.chosen || heads_pass r.guarded q.id r.heads vs))

-- no row behind this one counts for the values
abbrev pub row_stops : {T : Type 0} → MRow T → List MValue → Bool
row_stops r vs = not r.guarded && row_takes r.heads vs

-- the values come to a wanted row, as the question asks: no row before it stops them
abbrev pub counts : {T : Type 0} → Question → List (WantedRow T) → List MValue → Bool
counts q [] vs = false
counts q (x ∷ rows) vs = (x.wanted && row_answers q x.row vs) || (not (row_stops x.row vs) && counts q rows vs)

-- rows of which all are wanted
abbrev pub all_wanted : {T : Type 0} → List (MRow T) → List (WantedRow T)
all_wanted rows = map (λ r. record { row = r; wanted = true }) rows

-- the rows when the heads of column `i`, which has this place, are replaced; each is wanted where the row was
abbrev pub wanted_at : {T : Type 0} → (Head T → List (Replacement T)) → List MStep → (i : ℕ) → List (WantedRow T) →
    List (WantedRow T)
wanted_at f place i rows =
    flat_map (λ x. map (λ y. record { row = row_replaced place x.row y; wanted = x.wanted }) (replacements_at f i x.row.heads)) rows

-- each row has so many heads
abbrev pub AreLong : {T : Type 0} → ℕ → List (WantedRow T) → Type 0
AreLong n [] = ⊤
AreLong n (x ∷ rows) = (length x.row.heads ≡ n) × AreLong n rows

-- a row of one wildcard without a guard, as one more arm
abbrev pub row_behind : {T : Type 0} → (arm : ℕ) → MRow T
row_behind arm = record { heads = None ∷ []; arm = arm; guarded = false; chosen = []; caught = [] }

-- the rows to look at for a match: those of its arms, and one behind them that takes what they leave
abbrev pub asked_rows : {T : Type 0} → MDeMatch T → List (WantedRow T)
asked_rows m = all_wanted (first_rows 0 m.arms ++ row_behind (length m.arms) ∷ [])

-- the question for an arm
abbrev pub to_arm : ℕ → Question
to_arm j = record { arm = j; whole = true; id = 0 }

-- the question for an alternative of an arm
abbrev pub through_alternative : (arm id : ℕ) → Question
through_alternative j id = record { arm = j; whole = false; id = id }
