use Rattle.std.proofs.Common.{◌≡◌, ◌∙◌, sym}
use Rattle.match_model.specs.Types.{PointType}
use Rattle.type_table.specs.Tables.{table_type}
use Rattle.pattern_elaboration.proofs.TypeLemmas.{point_type, bottom_step, fewer_levels, bottom_here}
use Rattle.pattern_elaboration.proofs.types.bottom.Goals as goal

pub loop-mutable-preserved : goal.loop-mutable-preserved
loop-mutable-preserved c =
    let t = table_type c.args.table.now c.loop-mutable.here.ty in
    let u = table_type c.args.table.now c.in-Some.inner in
    let e : t ≡ PointType c.in-Some.mutable u = point_type t u c.in-Some.mutable c.in-Some.ensures.is in
    let step = bottom_step t u c.in-Some.mutable c.loop-mutable.here.mode c.mode_behind.result e c.mode_behind.ensures
    in
    record {
      of = c.in-Some.ensures.of;
      ty = step.0 ∙ c.loop-mutable.invariant.ty;
      mode = step.1 ∙ c.loop-mutable.invariant.mode;
    }

pub loop-mutable-smaller : goal.loop-mutable-smaller
loop-mutable-smaller c =
    let t = table_type c.args.table.now c.loop-mutable.here.ty in
    let u = table_type c.args.table.now c.in-Some.inner in
    fewer_levels t u c.in-Some.mutable (point_type t u c.in-Some.mutable c.in-Some.ensures.is)

pub returns : goal.returns
returns c =
    let here = bottom_here (table_type c.args.table.now c.loop-mutable.here.ty) c.loop-mutable.here.mode
    c.in_default.ensures.is in
    record {
      of = c.loop-mutable.invariant.of;
      ty = sym here.0 ∙ c.loop-mutable.invariant.ty;
      mode = sym here.1 ∙ c.loop-mutable.invariant.mode;
    }
