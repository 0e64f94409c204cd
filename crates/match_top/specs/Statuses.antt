-- How a run ends.
use Rattle.std.specs.Prelude.{ℕ, ⊤}
use Rattle.match_top.specs.declared.statuses.Status.{Status}
use Rattle.match_top.specs.declared.statuses.Status.TheVariants.{Clean, Found, Words, Refused, ReadFault, WriteFault, NoMemory}

-- the number with which the program ends (our own choice)
abbrev pub status_number : Status → ℕ
status_number Clean = 0
status_number Found = 1
status_number Words = 2
status_number Refused = 3
status_number ReadFault = 4
status_number WriteFault = 5
status_number NoMemory = 6

-- the status judges the file: it was read to its end, or as far as its length decides, and the whole answer was written
abbrev pub IsVerdict : Status → Type 0
IsVerdict Clean = ⊤
IsVerdict Found = ⊤
IsVerdict Refused = ⊤
IsVerdict Words = ⊥
IsVerdict ReadFault = ⊥
IsVerdict WriteFault = ⊥
IsVerdict NoMemory = ⊥
