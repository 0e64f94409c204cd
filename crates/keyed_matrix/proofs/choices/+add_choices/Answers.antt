use Rattle.std.proofs.Common.{◌++◌, List, map, length, ap, sym, ◌∙◌, nat_lt}
use Rattle.std.proofs.lemmas.List.{take_all, map-append}
use Rattle.match_model.specs.ArenaPatterns.{MBound}
use Rattle.pattern_arena.specs.declared.pattern.DePat.{DePat, out-DePat}
use Rattle.pattern_arena.specs.Trees.{tree, placed_subs, plain_bound}
use Rattle.keyed_matrix.specs.Choosing.{plain_choices, choices_of_each}
use Rattle.keyed_matrix.proofs.ChoiceByChoice.{choices-or}
use Rattle.keyed_matrix.proofs.choices.+add_choices.Goals as goal

pub returns-after-loop-q : goal.returns-after-loop-q
returns-after-loop-q g t c =
    let p = c.args.p.now in
    let chosen = c.args.chosen.items in
    let binds = c.args.binds.now in
    let around = c.in_ok-around.around.items in
    let old = plain_choices c.args.all.now.items in
    let several = nat_lt 1 (length (placed_subs p)) in
    c.loop-q.invariant
    ∙ ap (λ (xs : List (DePat g.row.T.Denot)). old ++ choices_of_each chosen (map plain_bound around) several (map tree xs))
    (take_all c.loop-q.q-index (placed_subs p) c.loop-q-test.false)
    ∙ ap (λ (bs : List MBound). old ++ choices_of_each chosen bs several (map tree (placed_subs p)))
    (ap (map plain_bound) c.in_ok-around.ensures ∙ map-append plain_bound binds (out-DePat g.row.T.Denot p).form.now.binds.now)
    ∙ ap (λ xs. old ++ xs) (sym (choices-or chosen (map plain_bound binds) p (sym c.is_or.ensures ∙ c.if-is_or.true)))
