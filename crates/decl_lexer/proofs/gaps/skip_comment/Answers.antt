use Rattle.std.proofs.Common.{arith, rules}
use Rattle.std.proofs.lemmas.Grind.{common_steps}
use Rattle.std.proofs.lemmas.Bool.Decides.{nat_tests}
use Rattle.decl_lexer.specs.Gaps.{comment_end}
use Rattle.decl_lexer.proofs.CommentLemmas.{comment_step}
use Rattle.decl_lexer.proofs.gaps.skip_comment.Goals as goal

pub loop-first-preserved-then-first_is : goal.loop-first-preserved-then-first_is
loop-first-preserved-then-first_is c =
    let step = comment_step c.loop-first.depth c.in-Some.first _ _ c.in-Some.ensures.cases in
    record { utf8 = c.skip_first-rest.utf8; rest = grind (arith, nat_tests, common_steps); shorter = omega (arith, c.in-Some.ensures.shorter) }

pub loop-first-preserved-then-first_is-2 : goal.loop-first-preserved-then-first_is-2
loop-first-preserved-then-first_is-2 c =
    let step = comment_step c.loop-first.depth c.in-Some.first _ _ c.in-Some.ensures.cases in
    record { utf8 = c.skip_first-rest-then-first_is-2.utf8; rest = grind (arith, nat_tests, common_steps); shorter = omega (arith, c.in-Some.ensures.shorter) }

pub loop-first-preserved : goal.loop-first-preserved
loop-first-preserved c =
    let step = comment_step c.loop-first.depth c.in-Some.first _ _ c.in-Some.ensures.cases in
    record { utf8 = search rules; rest = grind (arith, nat_tests, common_steps); shorter = omega (arith, c.in-Some.ensures.shorter) }

pub returns-then-depth-eq0 : goal.returns-then-depth-eq0
returns-then-depth-eq0 c =
    let step = comment_step c.loop-first.depth c.in-Some.first _ _ c.in-Some.ensures.cases in
    grind (arith, nat_tests, common_steps)

pub returns : goal.returns
unfolding comment_end
returns c = rw c.in_default.ensures.cases at c.loop-first.invariant.rest
