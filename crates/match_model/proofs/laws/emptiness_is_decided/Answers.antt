use Rattle.std.proofs.Common.{inl, inr, sym, ◌∙◌}
use Rattle.match_model.proofs.Basics.{untrue}
use Rattle.match_model.proofs.Decided.{valued_or_none, finite_or_none}
use Rattle.match_model.proofs.laws.emptiness_is_decided.Goals as goal

pub returns-clause-sure : goal.returns-clause-sure
returns-clause-sure c program sound t typed = elim (valued_or_none program sound t typed) [ inl v ↦ inl v | inr none ↦ inr (λ v h. untrue (sym (none v) ∙ h)) ]

pub returns-clause-unsure : goal.returns-clause-unsure
returns-clause-unsure c program fields owner args typed =
    elim (finite_or_none program fields owner args typed) [ inl v ↦ inl v | inr none ↦ inr (λ v h. untrue (sym (none v) ∙ h)) ]
