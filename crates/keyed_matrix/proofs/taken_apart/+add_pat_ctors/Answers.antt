use Rattle.std.proofs.Common.{◌++◌, List, map, ap, sym, ◌∙◌}
use Rattle.std.proofs.lemmas.List.{take_all}
use Rattle.std.specs.Option.{option_to_list}
use Rattle.match_model.specs.Rows.{choices_of, ctor_unless_wild}
use Rattle.pat_context.specs.Views.{plain_ctor}
use Rattle.pattern_arena.specs.declared.pattern.DePat.{DePat}
use Rattle.pattern_arena.specs.Trees.{tree, placed_ctor, placed_subs}
use Rattle.keyed_matrix.specs.Choosing.{ctors_chosen, ctors_of_each}
use Rattle.keyed_matrix.proofs.RowSteps.{on-rows}
use Rattle.keyed_matrix.proofs.TakenApart.{or-ctors, other-ctors}
use Rattle.keyed_matrix.proofs.taken_apart.+add_pat_ctors.Goals as goal

pub returns-after-loop-q : goal.returns-after-loop-q
returns-after-loop-q g t c =
    let p = c.args.p.now in
    let old = map plain_ctor c.args.ctors.now.items in
    c.loop-q.invariant
    ∙ ap (λ (xs : List (DePat g.row.T.Denot)). old ++ ctors_of_each (map tree xs))
    (take_all c.loop-q.q-index (placed_subs p) c.loop-q-test.false)
    ∙ ap (λ ks. old ++ ks) (sym (or-ctors p (sym c.is_or.ensures ∙ c.if-is_or.true)))

pub returns-else-is_or : goal.returns-else-is_or
returns-else-is_or g t c =
    let p = c.args.p.now in
    on-rows c.add_unless_wild.result (map plain_ctor c.add_unless_wild.new.ctors.items) (map plain_ctor c.args.ctors.now.items)
    (option_to_list (ctor_unless_wild (placed_ctor p))) (ctors_chosen (choices_of (tree p)))
    (other-ctors p (sym c.is_or.ensures ∙ c.if-is_or.false)) c.add_unless_wild.ensures
