-- The fields of a JSON object.
use Rattle.std.specs.Prelude.{ℕ, List, Bool, Option, Some, None, option_map, option_and_then}
use Rattle.serde_json.specs.Data.{Data, null, boolean, number, string, array, object, Items}
use Rattle.serde_json.specs.Find.{get, as_number, as_u64, as_str, as_bool, as_array}

-- the number of this key: an integer of 64 bits, no less than 0
abbrev pub number_at : List ℕ → Data → Option ℕ
number_at key d = option_and_then as_u64 (option_and_then as_number (get key d))

-- the text of this key
abbrev pub text_at : List ℕ → Data → Option (List ℕ)
text_at key d = option_and_then as_str (get key d)

-- the truth value of this key
abbrev pub flag_at : List ℕ → Data → Option Bool
flag_at key d = option_and_then as_bool (get key d)

-- the list of this key
abbrev pub items_at : List ℕ → Data → Option Items
items_at key d = option_and_then as_array (get key d)

-- a number, or `null` for none
abbrev pub place_of : Data → Option (Option ℕ)
place_of null = Some None
place_of (boolean b) = None
place_of (number n) = option_map Some (as_u64 n)
place_of (string s) = None
place_of (array ds) = None
place_of (object ms) = None

-- the number of this key, or `null` for none
abbrev pub place_at : List ℕ → Data → Option (Option ℕ)
place_at key d = option_and_then place_of (get key d)
