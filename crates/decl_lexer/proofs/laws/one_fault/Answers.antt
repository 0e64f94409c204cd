use Rattle.std.proofs.Common.{sym, ◌∙◌, inl, inr}
use Rattle.decl_lexer.proofs.LexLaws as laws
use Rattle.decl_lexer.proofs.Valid.{not_valid, same_valid}
use Rattle.decl_lexer.proofs.laws.one_fault.Goals as goal

pub returns : goal.returns
returns c bytes rule place other elsewhere h k =
    elim h [
      | inl f ↦ elim k [ inl g ↦ (f.0 ∙ sym g.0, same_valid bytes place elsewhere f.1 g.1) | inr g ↦ absurd (not_valid bytes place g.0 f.1) ]
      | inr f ↦ elim k [ inl g ↦ absurd (not_valid bytes elsewhere f.0 g.1) | inr g ↦ laws.one_fault rule place other elsewhere _ _ f.1 g.1 ]
    ]
