-- What was noted of submatrices that were looked at: the words of each, and beside them what its rows had chosen.
use Rattle.std.specs.Prelude.{◌≡◌, ◌⊎◌, ℕ, List, [], Option, Some, slice_get}
use Rattle.std.specs.List.{All, Contains}
use Rattle.std.specs.Option.{IfSome}
use Rattle.usefulness.specs.declared.chosen.ChosenIn.{ChosenIn}
use Rattle.usefulness.specs.declared.told.Told.{Told}
use Rattle.usefulness.specs.declared.told.ToldChosen.{ToldChosen}
use Rattle.usefulness.specs.Keys.{told_keys}

-- lists of words, and alternatives that stand beside them
pub record Memo : Type 0 where
  pub lists : List (List ℕ)
  pub chosen : List ToldChosen

abbrev pub memo_of : Told → Memo
memo_of told = record { lists = told_keys told; chosen = told.chosen.keys }

abbrev pub no_memo : Memo
no_memo = record { lists = []; chosen = [] }

-- the alternative that the row has chosen, as it stands beside the list with this number
abbrev pub told_beside : (list : ℕ) → ChosenIn → ToldChosen
told_beside list c = record { list = list; row = c.row; uid = c.uid }

-- the alternative without the list beside which it stands
abbrev pub chosen_of : ToldChosen → ChosenIn
chosen_of c = record { row = c.row; uid = c.uid }

-- the words were noted, and beside them each of the alternatives
abbrev pub AreAllNoted : (memo : Memo) → (w : List ℕ) → (chosen : List ChosenIn) → Type 0
AreAllNoted memo w chosen = (k : ℕ) × (slice_get memo.lists k ≡ Some w) × All (λ c. Contains memo.chosen (told_beside k c)) chosen

-- no list was noted but these words, and each keeps its number; this is the number of these words, if they were noted
pub record AreWordsNoted (w : List ℕ) (old now : Memo) (list : Option ℕ) : Type 0 where
  pub lists : (v : List ℕ) → Contains now.lists v → Contains old.lists v ⊎ (v ≡ w)
  pub stay : (k : ℕ) (v : List ℕ) → slice_get old.lists k ≡ Some v → slice_get now.lists k ≡ Some v
  pub chosen : now.chosen ≡ old.chosen
  pub number : IfSome list (λ k. slice_get now.lists k ≡ Some w)

-- no list was noted, and no alternative but some of these, beside the list with this number
pub record AreNotedBeside (list : ℕ) (chosen : List ChosenIn) (old now : Memo) : Type 0 where
  pub lists : now.lists ≡ old.lists
  pub beside : (c : ToldChosen) → Contains now.chosen c → Contains old.chosen c ⊎ ((c.list ≡ list) × Contains chosen (chosen_of c))

-- no list was noted but these words, and each keeps its number; no alternative was noted but some of these, beside the words
pub record IsNotedIn (w : List ℕ) (chosen : List ChosenIn) (old now : Memo) : Type 0 where
  pub lists : (v : List ℕ) → Contains now.lists v → Contains old.lists v ⊎ (v ≡ w)
  pub stay : (k : ℕ) (v : List ℕ) → slice_get old.lists k ≡ Some v → slice_get now.lists k ≡ Some v
  pub beside : (c : ToldChosen) → Contains now.chosen c → Contains old.chosen c ⊎ (Contains chosen (chosen_of c) × (slice_get now.lists c.list ≡ Some w))
