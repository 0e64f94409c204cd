use Rattle.std.proofs.Common.{◌≡◌, true, None, sym, subst}
use Rattle.match_model.specs.Types.{MType}
use Rattle.decl_syntax.specs.Patterns.{PatternTree, At, shape_view}
use Rattle.type_table.specs.Tables.{table_type}
use Rattle.pattern_rules.specs.Settings.{place, rest_type}
use Rattle.pattern_rules.specs.Nodes.{AsItem, nodes, is_rest}
use Rattle.pattern_rules.specs.OtherRules.{bound_by}
use Rattle.pattern_check.specs.NodeForms.{node_at}
use Rattle.pattern_check.specs.BoundSets.{bounds_view, bound_list, Binds, Told}
use Rattle.pattern_check.proofs.FieldLemmas.{if_ok}
use Rattle.pattern_check.proofs.WalkSteps.{view_at}
use Rattle.pattern_check.proofs.GatherSteps.{rest_below, rest_is}
use Rattle.pattern_check.proofs.alternatives.bind_rest.Goals as goal

pub returns-clause-told : goal.returns-clause-told
returns-clause-told c =
    let table = c.args.table.now in
    let item = c.args.item.now in
    let t = table_type table c.args.here.ty in
    let m = c.args.here.mode in
    let pl = place (rest_type t c.args.count) m in
    let old = bounds_view table c.args.bounds.now.keys in
    let new = bounds_view table c.bind_own.new.bounds.keys in
    if_ok c.bind_own.result _ _
    (λ r h s before is.
    subst (λ (q : PatternTree). is_rest q ≡ true → Told s old new None (nodes s AsItem before pl q)) (sym (view_at item))
    (λ rest. rest_below s old new before pl (At item.from (shape_view item.kind)) rest
    (subst (λ (u : MType). Binds old new (bound_list (bound_by s (node_at item.from (shape_view item.kind) AsItem (place u m) before))))
    (rest_is t c.args.count c.saturating_sub-taken.result c.saturating_sub-taken.ensures) (h s item.from AsItem before is))))
    c.bind_own.ensures.binds
