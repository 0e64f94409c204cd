use Rattle.std.proofs.Common.{◌≡◌, ◌++◌, ◌∷◌, [], List, map, sym, ap, subst, ◌∙◌}
use Rattle.match_model.specs.declared.Mode.{Mode}
use Rattle.match_model.specs.Types.{PointType}
use Rattle.match_model.specs.Lists.{Every}
use Rattle.type_table.specs.Tables.{IsOf, table_type}
use Rattle.type_table.specs.declared.table.TyId.{TyId}
use Rattle.pattern_rules.specs.Builders.{through_type}
use Rattle.pattern_elaboration.specs.Placed.{wrapped}
use Rattle.pattern_elaboration.proofs.Peeling.{peel_step, peel_end, every_more}
use Rattle.pattern_elaboration.proofs.TypeLemmas.{point_type, bottom_step, fewer_levels, bottom_here}
use Rattle.pattern_elaboration.proofs.references.peel.Goals as goal

pub loop-mutable-preserved : goal.loop-mutable-preserved
loop-mutable-preserved c =
    let t = table_type c.args.table.now c.loop-mutable.place.ty in
    let u = table_type c.args.table.now c.in-Some.inner in
    let e : t ≡ PointType c.in-Some.mutable u = point_type t u c.in-Some.mutable c.in-Some.ensures.is in
    let step = bottom_step t u c.in-Some.mutable c.loop-mutable.place.mode c.mode_behind.result e
    c.mode_behind.ensures in
    record {
      of = c.in-Some.ensures.of;
      levels = subst (λ (xs : List TyId). Every (IsOf c.args.table.now) xs) (sym c.in_ok-push.ensures.items)
          (every_more (IsOf c.args.table.now) c.loop-mutable.levels.items c.loop-mutable.place.ty
          c.loop-mutable.invariant.levels c.loop-mutable.invariant.of);
      ty = step.0 ∙ c.loop-mutable.invariant.ty;
      mode = step.1 ∙ c.loop-mutable.invariant.mode;
      through = λ f.
          peel_step (table_type c.args.table.now) f _ c.loop-mutable.levels.items c.loop-mutable.place.ty
          c.in-Some.mutable u c.loop-mutable.place.mode (c.loop-mutable.invariant.through f) e
          ∙ (ap (λ (m : Mode). wrapped (map (table_type c.args.table.now)
          (c.loop-mutable.levels.items ++ c.loop-mutable.place.ty ∷ [])) (through_type f u m))
          (sym c.mode_behind.ensures)
          ∙ ap (λ (xs : List TyId). wrapped (map (table_type c.args.table.now) xs)
          (through_type f u c.mode_behind.result)) (sym c.in_ok-push.ensures.items));
    }

pub loop-mutable-smaller : goal.loop-mutable-smaller
loop-mutable-smaller c =
    let t = table_type c.args.table.now c.loop-mutable.place.ty in
    let u = table_type c.args.table.now c.in-Some.inner in
    fewer_levels t u c.in-Some.mutable (point_type t u c.in-Some.mutable c.in-Some.ensures.is)

pub returns : goal.returns
returns c =
    let t = table_type c.args.table.now c.loop-mutable.place.ty in
    let here = bottom_here t c.loop-mutable.place.mode c.in_default.ensures.is in
    record {
      of = c.loop-mutable.invariant.of;
      levels = c.loop-mutable.invariant.levels;
      ty = sym here.0 ∙ c.loop-mutable.invariant.ty;
      mode = sym here.1 ∙ c.loop-mutable.invariant.mode;
      through = λ f. c.loop-mutable.invariant.through f
          ∙ ap (wrapped (map (table_type c.args.table.now) c.loop-mutable.levels.items))
          (peel_end f t c.loop-mutable.place.mode c.in_default.ensures.is);
    }
