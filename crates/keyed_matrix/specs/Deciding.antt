-- Decisions as the definitions have them, and a table of them by uids.
use Rattle.std.specs.Prelude.{◌≡◌, ℕ, List, [], ◌∷◌, nat_eq, Option, Some, None, cond}
use Rattle.std.specs.Option.{option_map}
use Rattle.std.specs.declared.cmp.Ordering.{Ordering}
use Rattle.std.specs.Ordering.{ordering_then, nat_cmp}
use Rattle.indexmap.specs.IndexMap.{get}
use Rattle.match_model.specs.Keys.{Decision}
use Rattle.match_model.specs.Numbering.{Decided as Listed}
use Rattle.keyed_matrix.specs.declared.keys.Decided.{Decided}
use Rattle.keyed_matrix.specs.declared.decisions.Decisions.{Decisions}

-- the decision
abbrev pub plain_decision : Decided → Decision
plain_decision d = record { number = d.number; alternative = d.alternative }

-- by the or-pattern, then by the alternative
abbrev pub decided_cmp : Decided → Decided → Ordering
decided_cmp d e = ordering_then (nat_cmp d.number e.number) (nat_cmp d.alternative e.alternative)

-- what the table has for the uid
abbrev pub in_table : Decisions → ℕ → Option Decision
in_table t uid = option_map plain_decision (get nat_eq t.of uid)

-- the decision, or that of no alternative
abbrev pub or_none : Option Decision → Decision
or_none (Some d) = d
or_none None = record { number = 0; alternative = 0 }

-- what the table says that the alternative with the uid decides
abbrev pub table_decides : Decisions → ℕ → Decision
table_decides t uid = or_none (in_table t uid)

-- what is listed first of the uid
abbrev pub listed_of : List Listed → (uid : ℕ) → Option Decision
listed_of [] uid = None
listed_of (d ∷ ds) uid = cond (nat_eq d.uid uid) (Some d.decision) (listed_of ds uid)

-- the first, or else the second
abbrev pub or_second : Option Decision → Option Decision → Option Decision
or_second None b = b
or_second (Some d) b = Some d

-- what is known of uids, and then what is listed of the others
abbrev pub AddsDecisions : (old : ℕ → Option Decision) → List Listed → (new : ℕ → Option Decision) → Type 0
AddsDecisions old ds new = (uid : ℕ) → new uid ≡ or_second (old uid) (listed_of ds uid)
