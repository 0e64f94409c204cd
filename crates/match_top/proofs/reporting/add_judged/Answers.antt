use Rattle.decl_syntax.specs.Functions.{function_view}
use Rattle.decl_syntax.specs.Items.{arm_view}
use Rattle.std.proofs.Common.{◌^◌, refl, arith}
use Rattle.std.proofs.lemmas.List.{length-map}
use Rattle.match_top.proofs.Matches.{few_arms}
use Rattle.match_top.proofs.Named.{few_held}
use Rattle.match_top.proofs.reporting.add_judged.Goals as goal

pub match_of-requires : goal.match_of-requires
match_of-requires g c = record { fine = (g.whole, c.requires.0) }

pub verdict_on-requires-clause-few : goal.verdict_on-requires-clause-few
verdict_on-requires-clause-few g c =
    few_arms c.args.source.now g.whole (function_view c.args.f) c.in_ok-m.m (2 ^ 32) (c.in_ok-m.ensures g.whole c.requires.0)
    (few_held c.args.f.arms.items (2 ^ 32) c.requires.1.0)

pub verdict_on-requires-clause-shown : goal.verdict_on-requires-clause-shown
verdict_on-requires-clause-shown g c = (g.whole, function_view c.args.f, c.in_ok-m.ensures g.whole c.requires.0)

pub tree_of-requires-clause-few : goal.tree_of-requires-clause-few
tree_of-requires-clause-few g c =
    few_arms c.args.source.now g.whole (function_view c.args.f) c.in_ok-m.m (2 ^ 32) (c.in_ok-m.ensures g.whole c.requires.0)
    (few_held c.args.f.arms.items (2 ^ 32) c.requires.1.0)

pub tree_of-requires-clause-shown : goal.tree_of-requires-clause-shown
tree_of-requires-clause-shown g c = (g.whole, function_view c.args.f, c.in_ok-m.ensures g.whole c.requires.0)

pub overlaps_on-requires : goal.overlaps_on-requires
overlaps_on-requires g c = (g.whole, function_view c.args.f, c.in_ok-m.ensures g.whole c.requires.0)

pub add_found-requires : goal.add_found-requires
add_found-requires g c = (c.requires.0.sound, (c.in_ok-m.ensures g.whole c.requires.0).type_is)

pub returns : goal.returns
returns g c = λ fs h.
    let f = function_view c.args.f in
    let made = c.in_ok-m.ensures g.whole c.requires.0 in
    c.add_found.ensures c.args.command c.args.number f fs h
    (record {
      asked = c.requires.1.1;
      fine = c.requires.0;
      type_is = made.shown.type_is;
      verdict = c.in_ok-judgement.ensures g.whole f made;
      overlaps_are = c.in_ok-overlaps.ensures g.whole f made;
      tree_is = c.in_ok-tree.ensures g.whole f made;
    })
    refl
    (omega (arith, length-map c.args.f.arms.items arm_view, c.len-count.ensures))
