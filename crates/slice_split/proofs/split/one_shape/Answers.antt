use Rattle.std.proofs.Common.{◌≡◌, true, false, ◌||◌, cond, ◌+◌, sym, ap, ◌∙◌, arith}
use Rattle.std.specs.Prelude.{nat_lt, nat_le}
use Rattle.std.proofs.lemmas.Bool.Decides.{nat_tests}
use Rattle.match_model.specs.Constructors.{RowCtor, FixedShape, LongerShape}
use Rattle.slice_split.specs.Shapes.{plain_shapes}
use Rattle.slice_split.proofs.Arrays.{told_by_ends}
use Rattle.slice_split.proofs.split.one_shape.Goals as goal
use Rattle.slice_split.proofs.split.one_shape.Goals.{then-ends-ne0, else-ends-ne0}

pub returns-then-len-ends : goal.returns-then-len-ends
returns-then-len-ends c =
    let ends = c.ends_of-ends.result in
    let e = told_by_ends (plain_shapes c.args.columns.now) c.args.len ends.fixed_end ends.front ends.back c.ends_of-ends.ensures.fixed c.ends_of-ends.ensures.front c.ends_of-ends.ensures.back in
    let t : (nat_lt 0 ends.fixed_end || nat_le c.args.len (ends.front + ends.back)) ≡ true =
    elim c.if-ends-ne0.branch [ then-ends-ne0 w ↦ grind (arith, nat_tests) | else-ends-ne0 w ↦ grind (arith, nat_tests) ] in
    sym (e ∙ ap (λ b. cond b (RowCtor (FixedShape c.args.len)) (RowCtor (LongerShape ends.front ends.back))) t)

pub returns-else-len-ends : goal.returns-else-len-ends
returns-else-len-ends c =
    let ends = c.ends_of-ends.result in
    let e = told_by_ends (plain_shapes c.args.columns.now) c.args.len ends.fixed_end ends.front ends.back c.ends_of-ends.ensures.fixed c.ends_of-ends.ensures.front c.ends_of-ends.ensures.back in
    let t : (nat_lt 0 ends.fixed_end || nat_le c.args.len (ends.front + ends.back)) ≡ false =
    elim c.if-ends-ne0.branch [ then-ends-ne0 w ↦ grind (arith, nat_tests) | else-ends-ne0 w ↦ grind (arith, nat_tests) ] in
    sym (e ∙ ap (λ b. cond b (RowCtor (FixedShape c.args.len)) (RowCtor (LongerShape ends.front ends.back))) t)
