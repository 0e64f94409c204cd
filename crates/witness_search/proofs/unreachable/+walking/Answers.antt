use Rattle.std.proofs.Common.{◌≡◌, ◌++◌, ◌+◌, ℕ, Bool, suc, List, map, take, ap, subst, sym, ◌∙◌, arith, append_assoc}
use Rattle.std.proofs.lemmas.List.{take_all}
use Rattle.pattern_arena.specs.declared.pattern.DePat.{DePat}
use Rattle.pattern_arena.specs.Trees.{tree, placed_subs}
use Rattle.pattern_matrix.specs.Counting.{through_alternative}
use Rattle.witness_search.specs.Entries.{plain_entries, left_of_one, left_of_each}
use Rattle.witness_search.proofs.Walking.{left-below, each_more}
use Rattle.witness_search.proofs.unreachable.+walking.Goals as goal

pub add_left-loop-q-preserved : goal.add_left-loop-q-preserved
add_left-loop-q-preserved g t c =
    let f : ℕ → Bool = λ id. g.M.Marked.is_marked c.args.marks.now (through_alternative c.args.arm id) in
    let j = c.args.arm in
    let chosen = c.is_choice-chosen.result in
    let subs = placed_subs c.args.p.now in
    let i = c.loop-q.q-index in
    let q = c.q-item.result in
    let old = plain_entries c.args.found.now.items in
    let next : suc i ≡ i + 1 = omega arith in
    let more = subst (λ k. left_of_each f j chosen (map tree (take k subs)) ≡ left_of_each f j chosen (map tree (take i subs)) ++ left_of_one f j chosen (tree q))
    next (each_more f j chosen subs i q c.loop-q-test.true c.q-item.is) in
    c.in_ok-add_one_left.ensures ∙ ap (λ xs. xs ++ left_of_one f j chosen (tree q)) c.loop-q.invariant
    ∙ append_assoc old (left_of_each f j chosen (map tree (take i subs))) (left_of_one f j chosen (tree q)) ∙ ap (λ xs. old ++ xs) (sym more)

pub add_left-returns : goal.add_left-returns
add_left-returns g t c =
    let f : ℕ → Bool = λ id. g.M.Marked.is_marked c.args.marks.now (through_alternative c.args.arm id) in
    let j = c.args.arm in
    let chosen = c.is_choice-chosen.result in
    let p = c.args.p.now in
    let old = plain_entries c.args.found.now.items in
    c.loop-q.invariant
    ∙ ap (λ (xs : List (DePat g.row.T.Denot)). old ++ left_of_each f j chosen (map tree xs)) (take_all c.loop-q.q-index (placed_subs p) c.loop-q-test.false)
    ∙ ap (λ xs. old ++ xs) (sym (left-below f j p chosen c.is_choice-chosen.ensures))
