-- Refusals that stand alone.
use Rattle.std.specs.Prelude.{◌≡◌, ℕ, List, Option, None}
use Rattle.verdict_json.specs.Refused.{refusal_text}
use Rattle.verdict_json.specs.declared.refusal.Refusal.{Refusal}
use Rattle.match_top.specs.declared.statuses.Status.{Status}
use Rattle.match_top.specs.declared.statuses.Status.TheVariants.{Refused}

-- the text is this refusal alone
abbrev pub IsRefusal : Refusal → List ℕ → Status → Type 0
IsRefusal refusal text status = (text ≡ refusal_text refusal) × (status ≡ Refused)

-- the source is refused as a whole by this rule, with this item and this place in it, if any
abbrev pub IsRefusedIn : ℕ → Option ℕ → Option ℕ → List ℕ → Status → Type 0
IsRefusedIn rule item place text status = IsRefusal (record { rule = rule; item = item; arm = None; at = place }) text status

-- the same of a rule that names no item
abbrev pub IsRefusedAt : ℕ → Option ℕ → List ℕ → Status → Type 0
IsRefusedAt rule place text status = IsRefusedIn rule None place text status

-- what is asked is refused by this rule, without a place in the source
abbrev pub IsRefusedBy : ℕ → List ℕ → Status → Type 0
IsRefusedBy rule text status = IsRefusedAt rule None text status
