use Rattle.std.proofs.Common.{◌≡◌, ◌+◌, ◌++◌, List, drop, ap, sym, ◌∙◌, arith, subst, append-nil}
use Rattle.std.proofs.lemmas.List.{drop_all}
use Rattle.match_model.specs.Numbering.{Decided as Listed, own_decision, decisions_in}
use Rattle.pattern_arena.specs.declared.pattern.DePat.{DePat, out-DePat}
use Rattle.pattern_arena.specs.Trees.{tree, placed_subs}
use Rattle.keyed_matrix.specs.Deciding.{in_table, listed_of, or_second, AddsDecisions}
use Rattle.keyed_matrix.proofs.Numbered.{below_from, counts_from, adds-both, second-none, pattern-on, leaf-counts, leaf-decides, decisions-tree, count-tree}
use Rattle.keyed_matrix.proofs.decisions.+add_decisions.Goals as goal
use Rattle.keyed_matrix.proofs.decisions.+add_decisions.Goals.{then-not-is_empty+in_ok-next-2, else-not-is_empty}

pub loop-k-preserved : goal.loop-k-preserved
loop-k-preserved g t c =
    let subs = placed_subs c.args.p.now in
    let k = c.loop-k.k in
    let q = c.q-item.result in
    let choice = c.is_choice-choice.result in
    let n = c.args.number in
    let before = c.loop-k.next in
    let next = c.if-not-is_empty.next in
    let own = own_decision choice (out-DePat g.row.T.Denot q).uid n k in
    let inner = decisions_in before (tree q) in
    let f = in_table c.loop-k.all in
    let noted = c.in_ok-note_alternative.ensures in
    let on = pattern-on choice n k before next subs q f (in_table c.if-not-is_empty.all)
    (λ u. or_second (in_table c.args.all.now u) (listed_of (below_from choice n 0 c.in_ok-next.next subs) u))
    (counts_from subs + c.in_ok-next.next) c.loop-k-test.true c.q-item.is in
    elim c.if-not-is_empty.branch [
      | then-not-is_empty+in_ok-next-2 w ↦ on (w.next-is ∙ w.in_ok-next-2.ensures.next)
          (subst (λ t. AddsDecisions f (own ++ inner) (in_table t)) (sym w.all-is)
          (adds-both f (in_table c.note_alternative.new.all) (in_table w.add_decisions.new.all) own inner noted
          w.in_ok-next-2.ensures.added)) c.loop-k.invariant
      | else-not-is_empty w ↦ (let empty = sym c.is_empty.ensures ∙ w.if-not-is_empty.false in
          let none = leaf-counts q empty in
          let same = w.next-is in
          on (omega (arith, none, same))
          (subst (λ t. AddsDecisions f (own ++ inner) (in_table t)) (sym w.all-is)
          (subst (λ ds. AddsDecisions f ds (in_table c.note_alternative.new.all))
          (sym (ap (λ ds. own ++ ds) (leaf-decides before q empty) ∙ append-nil own)) noted)) c.loop-k.invariant)
    ]

pub returns-clause-next : goal.returns-clause-next
returns-clause-next g t c =
    let subs = placed_subs c.args.p.now in
    let none : counts_from (drop c.loop-k.k subs) ≡ 0 = ap counts_from (drop_all c.loop-k.k subs c.loop-k-test.false) in
    let all = count-tree c.args.number c.args.p.now c.is_choice-choice.result c.in_ok-next.next c.is_choice-choice.ensures c.in_ok-next.ensures in
    omega (arith, none, all, c.loop-k.invariant.0)

pub returns-clause-added : goal.returns-clause-added
returns-clause-added g t c =
    let subs = placed_subs c.args.p.now in
    let k = c.loop-k.k in
    let choice = c.is_choice-choice.result in
    let n = c.args.number in
    let first = c.in_ok-next.next in
    let f = in_table c.loop-k.all in
    let old = in_table c.args.all.now in
    λ u. sym (ap (λ (ps : List (DePat g.row.T.Denot)). or_second (f u) (listed_of (below_from choice n k c.loop-k.next ps) u))
    (drop_all k subs c.loop-k-test.false) ∙ second-none (f u))
    ∙ c.loop-k.invariant.1 u
    ∙ ap (λ (ds : List Listed). or_second (old u) (listed_of ds u))
    (sym (decisions-tree n c.args.p.now choice first c.is_choice-choice.ensures c.in_ok-next.ensures))
