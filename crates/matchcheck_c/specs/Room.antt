-- What becomes of the room that a caller gives for a text.
use Rattle.std.specs.Prelude.{ℕ, ◌≡◌, ◌≤◌, ◌<◌, ◌++◌, List, drop, length}
use Rattle.matchcheck_c.specs.declared.room.Told.{Told}

-- the status where the room is too small (our own choice)
abbrev pub no_room : ℕ
no_room = 7

-- a text of so many bytes stands at the front of the room, and the rest of the room is as it was
pub record IsWhole (text : List ℕ) (count : ℕ) (was now : List ℕ) : Type 0 where
  pub counted : count ≡ length text
  pub fits : count ≤ length was
  pub stands : now ≡ text ++ drop count was

-- a text of so many bytes is longer than the room, which is as it was
pub record IsSmall (text : List ℕ) (count : ℕ) (was now : List ℕ) : Type 0 where
  pub counted : count ≡ length text
  pub longer : length was < count
  pub same : now ≡ was

-- no text is told, and the room is as it was
pub record IsUntouched (count : ℕ) (was now : List ℕ) : Type 0 where
  pub counted : count ≡ 0
  pub same : now ≡ was

-- a text with the status of this number is given to the room, where it fits
pub data IsGiven (text : List ℕ) (number : ℕ) (told : Told) (was now : List ℕ) : Type 0 where
  is_whole : told.status ≡ number → IsWhole text told.length was now → IsGiven text number told was now
  is_small : told.status ≡ no_room → IsSmall text told.length was now → IsGiven text number told was now
