-- Files in memory, by their names.
use Rattle.std.specs.Prelude.{ℕ, List, [], Bool, drop, Option, option_map, option_and_then, unwrap_or, slice_get, Vec, String, string_bytes}
use Rattle.std.specs.List.{position}
use Rattle.std.specs.Str.{bytes_eq}
use Rattle.std.specs.declared.alloc.Global.{Global}

-- names with the bytes that lie under them
abbrev pub Named : Type 0
Named = List (String Global × Vec ℕ Global)

-- whether the file has this name
abbrev pub has_name : List ℕ → (String Global × Vec ℕ Global) → Bool
has_name name file = bytes_eq (string_bytes file.0) name

-- where the first file of that name stands
abbrev pub place_of : Named → List ℕ → Option ℕ
place_of named name = position (has_name name) named

-- the bytes of the file that stands there
abbrev pub file_at : Named → ℕ → Option (List ℕ)
file_at named place = option_map (λ file. file.1.items) (slice_get named place)

-- the bytes of the first file of that name
abbrev pub held : Named → List ℕ → Option (List ℕ)
held named name = option_and_then (file_at named) (place_of named name)

-- the bytes of the file that stands there from an offset on; none where there is no such file
abbrev pub file_from : Named → ℕ → ℕ → List ℕ
file_from named place at = drop at (unwrap_or (file_at named place) [])
