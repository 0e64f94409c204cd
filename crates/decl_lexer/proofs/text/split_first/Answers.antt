use Rattle.std.proofs.Common.{rules, ◌≡◌, ◌<◌, ◌∙◌, List, ℕ, Some, ap, sym, arith}
use Rattle.std.specs.Prelude.{slice_get}
use Rattle.decl_lexer.proofs.TextLemmas.{past_ascii, cut_ascii}
use Rattle.decl_lexer.proofs.text.split_first.Goals as goal

pub range_from-requires : goal.range_from-requires
range_from-requires c _ =
    let first : slice_get c.args.text.now 0 ≡ Some c.in-Some.field-0.now = ap (λ (t : List ℕ). slice_get t 0) (sym c.as_bytes.ensures.value) ∙ sym c.in-Some.ensures.value in
    let ascii : c.in-Some.field-0.now < 128 = omega (arith, c.in-Some.first-is, c.if-first-lt128.true) in
    cut_ascii c.args.text.now c.in-Some.field-0.now c.utf8.text first ascii

pub returns-in-Some-clause-cases : goal.returns-in-Some-clause-cases
returns-in-Some-clause-cases c =
    let first : slice_get c.args.text.now 0 ≡ Some c.in-Some.field-0.now = ap (λ (t : List ℕ). slice_get t 0) (sym c.as_bytes.ensures.value) ∙ sym c.in-Some.ensures.value in
    let ascii : c.in-Some.field-0.now < 128 = omega (arith, c.in-Some.first-is, c.if-first-lt128.true) in
    past_ascii c.args.text.now c.range_from.result.now c.in-Some.field-0.now c.utf8.text first ascii (search rules)
