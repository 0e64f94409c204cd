use Rattle.std.proofs.Common.{◌++◌, List, map, length, ap, sym, ◌∙◌, nat_lt}
use Rattle.std.proofs.lemmas.List.{take_all}
use Rattle.pattern_arena.specs.declared.pattern.DePat.{DePat}
use Rattle.pattern_arena.specs.Trees.{tree, placed_subs}
use Rattle.pattern_matrix.specs.Views.{plain_leaves}
use Rattle.pattern_matrix.specs.ChosenLists.{kept_chosen}
use Rattle.pattern_matrix.specs.Spreading.{spread_each}
use Rattle.pattern_matrix.proofs.Spreads.{spread-or}
use Rattle.pattern_matrix.proofs.leaves.+add_choices.Goals as goal

pub returns-after-loop-q : goal.returns-after-loop-q
returns-after-loop-q g t c =
    let p = c.args.p.now in
    let row = c.args.row in
    let chosen = kept_chosen c.args.chosen.now in
    let old = plain_leaves c.args.leaves.now.items in
    c.loop-q.invariant
    ∙ ap (λ (xs : List (DePat g.row.T.Denot)). old ++ spread_each row chosen (nat_lt 1 (length (placed_subs p))) (map tree xs)) (take_all c.loop-q.q-index (placed_subs p) c.loop-q-test.false)
    ∙ ap (λ xs. old ++ xs) (sym (spread-or row chosen p (sym c.is_or.ensures ∙ c.if-is_or.true)))
