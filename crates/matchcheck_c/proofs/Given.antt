-- The room is too small exactly where a call says so.
use Rattle.std.proofs.Common.{◌≡◌, ◌∙◌, sym, ℕ, List, arith}
use Rattle.match_top.specs.Statuses.{status_number}
use Rattle.match_top.specs.declared.statuses.Status.{Status}
use Rattle.match_top.specs.declared.statuses.Status.TheVariants.{Clean, Found, Words, Refused, ReadFault, WriteFault, NoMemory}
use Rattle.matchcheck_c.specs.Room.{IsGiven, is_whole, is_small, IsSmall, no_room}
use Rattle.matchcheck_c.specs.declared.room.Told.{Told}

-- no status of the program has that number
never_no_room : (status : Status) → status_number status ≡ no_room → ⊥
never_no_room Clean e = omega arith
never_no_room Found e = omega arith
never_no_room Words e = omega arith
never_no_room Refused e = omega arith
never_no_room ReadFault e = omega arith
never_no_room WriteFault e = omega arith
never_no_room NoMemory e = omega arith

pub given_small : (text : List ℕ) (status : Status) (told : Told) (was now : List ℕ) → IsGiven text (status_number status) told was now
    → told.status ≡ no_room → IsSmall text told.length was now
given_small text status told was now (is_whole same whole) e = absurd (never_no_room status (sym same ∙ e))
given_small text status told was now (is_small same small) e = small
