use Rattle.std.proofs.Common.{chars, refl, inl, inr}
use Rattle.decl_lexer.specs.Lexing.{mark_width, without_mark}
use Rattle.decl_lexer.proofs.LexLaws as laws
use Rattle.decl_lexer.proofs.Valid.{not_valid, valid_or_not}
use Rattle.decl_lexer.proofs.laws.tokens_or_fault.Goals as goal

pub returns-clause-some : goal.returns-clause-some
returns-clause-some c bytes =
    elim (valid_or_not bytes) [
      | inl u ↦ elim (laws.some_reading (mark_width (chars bytes)) (without_mark (chars bytes))) [
        | inl t ↦ inl (t.0, (u, t.1))
        | inr f ↦ inr (f.0, f.1, inr (u, f.2))
      ]
      | inr v ↦ inr (1, v.0, inl (refl, v.1))
    ]

pub returns-clause-not_both : goal.returns-clause-not_both
returns-clause-not_both c bytes ts rule place h k =
    elim k [ inl f ↦ not_valid bytes place h.0 f.1 | inr f ↦ laws.never_both rule place _ _ ts h.1 f.1 ]
