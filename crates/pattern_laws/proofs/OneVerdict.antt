-- Of a function one thing alone is found.
use Rattle.std.proofs.Common.{◌≡◌, ◌↔◌, Bool, true, false, refl}
use Rattle.match_model.specs.Match.{IsExhaustive}
use Rattle.match_model.specs.RustTypes.{rust_context, RustValue}
use Rattle.match_model.proofs.OneMeaning.{one_list}
use Rattle.match_model.proofs.OneAnswer.{one_witness_list}
use Rattle.pattern_rules.specs.Settings.{program}
use Rattle.pattern_rules.specs.Verdicts.{Domain, written_arms, elaborated_match}
use Rattle.pattern_laws.specs.JudgedLaws.{VerdictIsOne}

one_flag : (X : Type 0) (a b : Bool) → (a ≡ true) ↔ X → (b ≡ true) ↔ X → a ≡ b
one_flag X true true h k = refl
one_flag X false false h k = refl
one_flag X true false h k = let e = k.1 (h.0 refl) in cc
one_flag X false true h k = let e = h.1 (k.0 refl) in cc

pub one_verdict : VerdictIsOne
one_verdict s f e t us es ws os h k = (
  one_flag (IsExhaustive (Domain s f) (written_arms s f)) e t h.tells k.tells,
  one_list (Domain s f) (written_arms s f) us es h.unreachable_is k.unreachable_is,
  one_witness_list (rust_context (program s)) (RustValue (program s)) (elaborated_match s f) ws os h.listed k.listed,
)
