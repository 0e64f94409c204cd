-- What a match does with a value, as the definitions have it.
use Rattle.std.specs.Prelude.{map}
use Rattle.std.specs.String.{string_bytes}
use Rattle.match_model.specs.Select.{Asked, Outcome, Took, Missed, Short, Selected}
use Rattle.match_model.specs.Ways.{Binding}
use Rattle.tree_eval.specs.Views.{plain_value}
use Rattle.first_match.specs.declared.held.Ending.{Ending}
use Rattle.first_match.specs.declared.held.Ending.TheVariants as endings
use Rattle.first_match.specs.declared.held.Held.{Held}
use Rattle.first_match.specs.declared.held.HeldArm.{HeldArm}
use Rattle.first_match.specs.declared.held.Selection.{Selection}

-- a name with what it is bound to
abbrev pub plain_held : Held → Binding
plain_held h = record { name = string_bytes h.name; mode = h.mode; value = plain_value h.value }

-- an arm with what it binds
abbrev pub arm_view : HeldArm → Asked
arm_view a = record { arm = a.arm; bindings = map plain_held a.held.items }

-- an arm is taken
abbrev pub took_arm : Asked → Outcome
took_arm a = Took a.arm a.bindings

-- how it ends
abbrev pub ending_view : Ending → Outcome
ending_view (endings.Took a) = took_arm (arm_view a)
ending_view endings.Missed = Missed
ending_view endings.Short = Short

-- what the match does
abbrev pub selection_view : Selection → Selected
selection_view x = record { asked = map arm_view x.asked.items; outcome = ending_view x.ending }
