use Rattle.std.proofs.Common.{reverse, sym, subst}
use Rattle.pattern_arena.specs.Trees.{plain_match}
use Rattle.pattern_arena.proofs.Held.{arms_made}
use Rattle.keyed_matrix.specs.Deciding.{table_decides}
use Rattle.tree_eval.specs.Trees.{table_trees}
use Rattle.decision_tree.specs.KnownTrees.{AreKnown}
use Rattle.decision_tree.specs.Waiting.{IsBare, IsTurn}
use Rattle.decision_tree.specs.declared.frames.Turn.TheVariants.{Lower}
use Rattle.decision_tree.proofs.FirstMatrix.{first-turn}
use Rattle.decision_tree.proofs.lowering.lower_match.Goals as goal

pub loop-step-init : goal.loop-step-init
loop-step-init g c = (
  subst (λ m. IsTurn (g.C.PatCx.is_type c.args.cx.now) (g.C.PatCx.context c.args.cx.now)
      (g.C.PatCx.is_value c.args.cx.now) (table_decides c.args.decisions.now) m (reverse c.new-frames.result.items)
      (table_trees c.args.table.now) (Lower c.in_ok-first.first)) (sym c.requires.1.1.0)
      (first-turn (g.C.PatCx.is_type c.args.cx.now) (g.C.PatCx.context c.args.cx.now) (g.C.PatCx.is_value c.args.cx.now)
      (g.met.C.PatCx.parts c.args.cx.now) (g.met.C.PatCx.values c.args.cx.now) (plain_match c.args.m.now)
      c.requires.1.1.1.0 (arms_made c.args.m.now.arms.now) (table_decides c.args.decisions.now) c.requires.1.1.1.1.1.0
      c.in_ok-first.first c.new-frames.result.items (table_trees c.args.table.now) c.in_ok-first.ensures.columns
      c.in_ok-first.ensures.rows c.new-frames.ensures.items c.requires.1.1.1.1.1.1.1),
  subst (AreKnown (g.C.PatCx.context c.args.cx.now) (g.C.PatCx.is_value c.args.cx.now)
      (table_decides c.args.decisions.now) (IsBare (g.C.PatCx.is_value c.args.cx.now) g.root) g.root
      (table_trees c.args.table.now)) (sym c.none_known-known.ensures) tt,
)
