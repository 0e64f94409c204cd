-- Refusals as JSON.
use Rattle.std.specs.Prelude.{ℕ, List, [], ◌∷◌, ◌++◌, Option, Some, None, codes}
use Rattle.serde_json.specs.Data.{Data, null, number, unsigned, string, object, no_members, member}
use Rattle.serde_json.specs.Written.{compact_text}
use Rattle.verdict_json.specs.Rules.{name_of}
use Rattle.verdict_json.specs.declared.refusal.Refusal.{Refusal}

-- a number, or `null` where there is none
abbrev pub number_data : Option ℕ → Data
number_data None = null
number_data (Some n) = number (unsigned n)

-- a refusal by a rule of this name
abbrev pub refusal_data : Refusal → List ℕ → Data
refusal_data r name =
    object (member (codes "arm") (number_data r.arm)
    (member (codes "at") (number_data r.at)
    (member (codes "item") (number_data r.item)
    (member (codes "name") (string name)
    (member (codes "rule") (number (unsigned r.rule)) no_members)))))

-- the name, where there is one
abbrev pub name_or_empty : Option (List ℕ) → List ℕ
name_or_empty None = []
name_or_empty (Some name) = name

-- a refusal that stands alone
abbrev pub alone_data : Refusal → List ℕ → Data
alone_data r name = object (member (codes "refused") (refusal_data r name) no_members)

-- the bytes that are written for a refusal that stands alone, the line feed included
unfoldable pub refusal_text : Refusal → List ℕ
refusal_text r =
    compact_text (alone_data r (name_or_empty (name_of r.rule))) ++ 10 ∷ []
