-- What maps and sets hold by the text of a name.
use Rattle.std.specs.Prelude.{ℕ, Bool, List, Option}
use Rattle.std.specs.Str.{bytes_eq}
use Rattle.std.specs.Rc.{rc_str_bytes}
use Rattle.std.specs.Global.{Global}
use Rattle.std.specs.declared.rc.RcStr.{RcStr}
use Rattle.indexmap.specs.IndexMap.{IndexMap, get_by}
use Rattle.indexmap.specs.IndexSet.{IndexSet, contains_by}

-- what stands in the map at the name with this text
abbrev pub get_by_name : {A S : Type 0} → IndexMap (RcStr Global) A S → (text : List ℕ) → Option A
get_by_name places text = get_by (λ k. bytes_eq text (rc_str_bytes k)) places

-- whether a name with this text stands in the set
abbrev pub contains_name : {S : Type 0} → IndexSet (RcStr Global) S → (text : List ℕ) → Bool
contains_name names text = contains_by (λ k. bytes_eq text (rc_str_bytes k)) names
