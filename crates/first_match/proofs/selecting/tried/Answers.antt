use Rattle.std.proofs.Common.{◌≡◌, ◌∙◌, ◌-◌, map, take, drop, length, ap, arith}
use Rattle.std.proofs.lemmas.List.{length-drop, take_all}
use Rattle.match_model.specs.ArenaWays.{arena_ways}
use Rattle.pattern_arena.specs.Trees.{tree}
use Rattle.tree_eval.specs.Views.{plain_value}
use Rattle.first_match.specs.Asking.{ways_asked}
use Rattle.first_match.specs.Names.{names_held}
use Rattle.first_match.specs.Selections.{arm_view}
use Rattle.first_match.proofs.Asking.{tried_first, tried_guarded}
use Rattle.first_match.proofs.selecting.tried.Goals as goal

pub returns-then-not-arm-clause-tries : goal.returns-then-not-arm-clause-tries
returns-then-not-arm-clause-tries g c =
    let asked = c.args.asked.now.items in
    tried_first c.first_taken.result c.args.number c.args.arm.now.guarded (arena_ways (tree c.args.arm.now.pat) (plain_value c.args.value.now))
    (map (λ w. names_held w.items) c.deref.result.now) (map arm_view asked) (drop (length asked) c.args.answers.now) c.if-not-arm.true
    (ap (map (λ w. names_held w.items)) c.deref.ensures.value ∙ c.in_ok-ways.ensures)
    c.first_taken.ensures

pub returns-clause-tries : goal.returns-clause-tries
returns-clause-tries g c =
    let asked = c.args.asked.now.items in
    let left = drop (length asked) c.args.answers.now in
    let answers = c.args.answers.now in
    let same : c.len.result ≡ length asked = omega (arith, c.len.ensures, c.args.asked.now.ok.0) in
    let rest : take (length answers - c.len.result) (drop c.len.result answers) ≡ left =
    take_all (length answers - c.len.result) (drop c.len.result answers) (omega (arith, length-drop c.len.result answers))
    ∙ ap (λ n. drop n answers) same in
    let most : c.ways_asked-most.result ≡ ways_asked left = c.ways_asked-most.ensures.count ∙ ap ways_asked rest in
    tried_guarded c.guards_asked.result c.args.number c.args.arm.now.guarded (arena_ways (tree c.args.arm.now.pat) (plain_value c.args.value.now))
    (map (λ w. names_held w.items) c.deref-2.result.now) c.ways_asked-most.result (map arm_view asked)
    (map arm_view c.guards_asked.new.asked.items) left (drop (length c.guards_asked.new.asked.items) c.args.answers.now) c.if-not-arm.false most
    (ap (map (λ w. names_held w.items)) c.deref-2.ensures.value ∙ c.in_ok-ways-2.ensures)
    c.guards_asked.ensures.tries
