-- What callers see of what a match does with one value: its values, without where they lie in memory.
use Rattle.std.specs.Prelude.{ℕ, List, map, string_bytes}
use Rattle.match_model.specs.declared.Mode.{Mode}
use Rattle.verdict_json.specs.declared.outcome.HeldText.{HeldText}
use Rattle.verdict_json.specs.declared.outcome.AskedText.{AskedText}
use Rattle.verdict_json.specs.declared.outcome.EndingText.{EndingText}
use Rattle.verdict_json.specs.declared.outcome.EndingText.TheVariants as e
use Rattle.verdict_json.specs.declared.outcome.OutcomeText.{OutcomeText}

-- a name, how it is bound, and what it is bound to, as a text
pub record HeldTree : Type 0 where
  pub name : List ℕ
  pub mode : Mode
  pub value : List ℕ

-- a guard that got an answer: its arm, and the names that it saw
pub record AskedTree : Type 0 where
  pub arm : ℕ
  pub bindings : List HeldTree

-- how it ends: an arm is taken, with its names; no arm is; or an answer of a guard is missing
pub data EndingTree : Type 0 where
  ArmTaken : (arm : ℕ) → List HeldTree → EndingTree
  NoArmTaken AnswerMissing : EndingTree

-- the guards that got an answer, in order, and how it ends
pub record OutcomeTree : Type 0 where
  pub asked : List AskedTree
  pub ending : EndingTree

-- what a caller sees of a name
abbrev pub held_view : HeldText → HeldTree
held_view h = record { name = string_bytes h.name; mode = h.mode; value = string_bytes h.value }

-- what a caller sees of a guard
abbrev pub asked_view : AskedText → AskedTree
asked_view a = record { arm = a.arm; bindings = map held_view a.bindings.items }

-- what a caller sees of how it ends
abbrev pub ending_view : EndingText → EndingTree
ending_view (e.Took arm bindings) = ArmTaken arm (map held_view bindings.items)
ending_view e.Missed = NoArmTaken
ending_view e.Short = AnswerMissing

-- what a caller sees of what a match does with a value
abbrev pub outcome_view : OutcomeText → OutcomeTree
outcome_view o = record { asked = map asked_view o.asked.items; ending = ending_view o.ending }
