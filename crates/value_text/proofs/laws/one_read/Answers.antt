use Rattle.std.proofs.Common.{◌≡◌, Some, ap, sym, ◌∙◌}
use Rattle.value_text.specs.Meanings.{meant}
use Rattle.value_text.proofs.laws.one_read.Goals as goal

pub returns : goal.returns
returns c = λ program sure t text u v a b.
    let same : a.0 ≡ b.0 = c.one_written.ensures text a.0 b.0 a.1 b.1 in
    let e : Some u ≡ Some v = sym a.2 ∙ (ap (meant program sure t) same ∙ b.2) in
    cc
