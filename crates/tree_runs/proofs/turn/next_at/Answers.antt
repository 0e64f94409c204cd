use Rattle.std.proofs.Common.{◌≡◌, ◌∙◌, ap, sym, map, Some, None}
use Rattle.std.specs.Prelude.{option_map}
use Rattle.match_model.specs.Places.{part_at}
use Rattle.match_model.specs.Trees.{MBranch}
use Rattle.pat_context.specs.Places.{steps_of}
use Rattle.pat_context.specs.Views.{plain_place}
use Rattle.tree_eval.specs.Nodes.{plain_branch}
use Rattle.tree_eval.specs.Views.{plain_value}
use Rattle.tree_runs.specs.Parts.{plain_part}
use Rattle.tree_runs.proofs.Chosen.{branch_there, taken_branch}
use Rattle.tree_runs.proofs.turn.next_at.Goals as goal

pub unreachable-requires-in_default-next_for : goal.unreachable-requires-in_default-next_for
unreachable-requires-in_default-next_for c =
    let v = plain_value c.args.value.now in
    let place = plain_place (steps_of c.args.place.now) in
    let u = plain_part c.in-Some.part in
    let there : Some u ≡ part_at place v =
    sym (ap (option_map plain_part) c.in-Some.is) ∙ c.part_at.ensures
    ∙ ap (λ s. part_at (plain_place s) v) c.steps.ensures in
    let b = branch_there (part_at place v) u (map plain_branch c.args.cases.now) c.requires there in
    let none : None ≡ Some b.0.next = sym c.in_default-next_for.is ∙ c.next_for.ensures
    ∙ ap (option_map (λ (x : MBranch). x.next)) b.1 in
    cc

pub returns : goal.returns
returns c =
    let v = plain_value c.args.value.now in
    let place = plain_place (steps_of c.args.place.now) in
    let u = plain_part c.in-Some.part in
    let there : Some u ≡ part_at place v =
    sym (ap (option_map plain_part) c.in-Some.is) ∙ c.part_at.ensures
    ∙ ap (λ s. part_at (plain_place s) v) c.steps.ensures in
    let b = branch_there (part_at place v) u (map plain_branch c.args.cases.now) c.requires there in
    let next : Some c.in-Some-next_for.next ≡ Some b.0.next =
    sym c.in-Some-next_for.is ∙ c.next_for.ensures ∙ ap (option_map (λ (x : MBranch). x.next)) b.1 in
    let same : b.0.next ≡ c.in-Some-next_for.next = cc in
    (b.0, taken_branch place (map plain_branch c.args.cases.now) v u b.0 (sym there) b.1, same)
