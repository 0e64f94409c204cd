use Rattle.std.proofs.Common.{◌∙◌, map, sym, ap, arith}
use Rattle.pattern_arena.specs.Trees.{tree}
use Rattle.tree_eval.specs.Views.{plain_value}
use Rattle.first_match.specs.Bound.{bound_ways}
use Rattle.first_match.specs.Names.{plain_seen, put_all}
use Rattle.first_match.proofs.Bound.{names_added}
use Rattle.first_match.proofs.Joined.{put_none}
use Rattle.first_match.proofs.ways.behind_references.Goals as goal

pub behind-init : goal.behind-init
behind-init g c = (omega arith, rw c.requires (sym (put_none (bound_ways (tree c.args.p.now) (plain_value c.args.value.now)))))

pub behind-preserved : goal.behind-preserved
behind-preserved g c =
    let new = map plain_seen c.add_names.new.seen.items in (
      omega (arith, c.behind.invariant.0, c.in-Some.ensures.lighter),
      names_added c.behind.at.pattern.now (plain_value c.behind.at.value.now) (map plain_seen c.behind.seen.items) new
          (bound_ways (tree c.args.p.now) (plain_value c.args.value.now)) c.behind.invariant.1 c.in_ok-add_names.ensures
          ∙ ap (map (put_all new)) c.in-Some.ensures.ways,
    )

pub returns-in-None-clause-ways : goal.returns-in-None-clause-ways
returns-in-None-clause-ways g c =
    names_added c.behind.at.pattern.now (plain_value c.behind.at.value.now) (map plain_seen c.behind.seen.items)
    (map plain_seen c.add_names.new.seen.items) (bound_ways (tree c.args.p.now) (plain_value c.args.value.now))
    c.behind.invariant.1 c.in_ok-add_names.ensures
