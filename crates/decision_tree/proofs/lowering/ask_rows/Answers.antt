use Rattle.std.proofs.Common.{◌≡◌, ◌∙◌, reverse, drop, length, Some, slice_get, refl, sym, ap, subst, arith}
use Rattle.std.proofs.lemmas.List.{length-map}
use Rattle.keyed_matrix.specs.Deciding.{table_decides}
use Rattle.keyed_matrix.specs.Views.{plain_column, plain_columns, plain_rows}
use Rattle.tree_eval.specs.Trees.{table_trees}
use Rattle.decision_tree.specs.declared.frames.Matrix.{Matrix}
use Rattle.decision_tree.specs.Asking.{AreAsked}
use Rattle.decision_tree.specs.Matrices.{matrix_columns}
use Rattle.decision_tree.specs.Waiting.{Awaits}
use Rattle.decision_tree.proofs.Asking.{all-as-many, good-behind, scope-behind}
use Rattle.decision_tree.proofs.lowering.ask_rows.Goals as goal

pub push_guards-requires : goal.push_guards-requires
push_guards-requires g c κs inside =
    let cx = c.args.cx.now in
    let IsType = g.C.PatCx.is_type cx in
    let context = g.C.PatCx.context cx in
    let V = g.C.PatCx.is_value cx in
    let decides = table_decides c.args.decisions.now in
    let frames = reverse c.args.frames.now.items in
    let now = table_trees c.args.table.now in
    let m = c.args.m in (
      inside.0,
      (
        inside.1,
        (
          omega (arith, c.count_asked-count.ensures.within, ap length c.deref.ensures.value, ap length c.deref-3.ensures.value),
          (
            subst (λ rs. AreAsked c.count_asked-count.result (plain_rows rs))
                (c.deref.ensures.value ∙ sym c.deref-3.ensures.value) c.count_asked-count.ensures.asked,
            (
              (λ k r s. ap length c.deref-2.ensures.value ∙ sym (length-map m.columns.items plain_column)
                  ∙ all-as-many IsType context decides m c.requires.1.1.0 k r
                  (subst (λ rs. slice_get (plain_rows rs) k ≡ Some r) c.deref-3.ensures.value s)),
              subst (λ cs. Awaits IsType context V decides g.root frames now (plain_columns cs) (plain_rows c.deref-3.result.now))
                  (sym c.deref-2.ensures.value)
                  (subst (λ rs. Awaits IsType context V decides g.root frames now (matrix_columns m) (plain_rows rs))
                  (sym c.deref-3.ensures.value) c.requires.1.1.1.0),
            ),
          ),
        ),
      ),
    )

pub returns : goal.returns
returns g c =
    let cx = c.args.cx.now in
    let IsType = g.C.PatCx.is_type cx in
    let context = g.C.PatCx.context cx in
    let V = g.C.PatCx.is_value cx in
    let decides = table_decides c.args.decisions.now in
    let frames = reverse c.push_guards.new.frames.items in
    let now = table_trees c.args.table.now in
    let m = c.args.m in
    let count = c.count_asked-count.result in
    let next : Matrix g.row.C-Ty.Denot = record { columns = m.columns; rows = c.in_ok-rest.rest } in
    let tail = c.in_ok-rest.ensures.tail in (
      good-behind IsType context decides m next count refl tail c.requires.1.1.0,
      subst (λ rs. Awaits IsType context V decides g.root frames now (matrix_columns m) (plain_rows rs))
          (ap (drop count) c.deref-3.ensures.value ∙ sym tail)
          (subst (λ cs. Awaits IsType context V decides g.root frames now (plain_columns cs)
          (plain_rows (drop count c.deref-3.result.now))) c.deref-2.ensures.value c.in_ok-push_guards.ensures),
      scope-behind IsType context decides m next count refl tail g.root c.requires.1.1.1.1,
    )
