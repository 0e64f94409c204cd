use Rattle.std.proofs.Common.{rules, refl, ◌∙◌, get_or, map}
use Rattle.pattern_arena.specs.Trees.{plain_arm}
use Rattle.pattern_lints.specs.Finding.{range_views}
use Rattle.pattern_lints.proofs.EndList.{mapped-at}
use Rattle.pattern_lints.proofs.Arms.{found-more, found-all}
use Rattle.pattern_lints.proofs.spots.find_ranges.Goals as goal

pub loop-j-preserved : goal.loop-j-preserved
loop-j-preserved g c =
    let arms = c.args.arms.now in
    let j = c.loop-j.j in
    let n = c.in_ok-find_in.ensures in (
      n.path ∙ c.loop-j.invariant.0,
      found-more (map plain_arm arms) j (plain_arm (get_or arms j c.index-arms-j.result)) (record c.loop-j.finding { arm = j }) c.find_in.new.finding
          (mapped-at plain_arm arms j c.index-arms-j.result c.loop-j-test.true) refl c.loop-j.invariant.0 c.loop-j.invariant.1 n,
    )

pub returns : goal.returns
returns g c =
    found-all c.args.arms.now c.loop-j.j c.loop-j.finding.places.keys (range_views c.loop-j.finding) (search rules) c.loop-j.invariant.1
