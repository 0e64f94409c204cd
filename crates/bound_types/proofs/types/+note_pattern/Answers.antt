use Rattle.std.proofs.Common.{◌∙◌, ap, map, sym}
use Rattle.std.specs.Option.{option_or}
use Rattle.indexmap.specs.IndexMap.{get_by_text}
use Rattle.match_model.specs.Places.{some_if}
use Rattle.pattern_arena.specs.declared.pattern.DePat.{DePat, out-DePat}
use Rattle.pattern_arena.specs.Trees.{tree, placed_subs, plain_bound}
use Rattle.bound_types.specs.Types.{has_name, bound_type}
use Rattle.bound_types.proofs.Preorder.{from_on, noted_first, own_or_below, one_noted, none_there, none_behind, type_is}
use Rattle.bound_types.proofs.types.+note_pattern.Goals as goal

pub loop-sub-preserved : goal.loop-sub-preserved
loop-sub-preserved g t c = λ q.
    one_noted (placed_subs c.args.pat.now) q c.loop-sub.sub-index c.sub-item.result (get_by_text c.loop-sub.types q)
    (get_by_text c.note_pattern.new.types q) _
    c.loop-sub-test.true
    (c.in_ok-note_pattern.ensures q
    ∙ ap (λ (x : DePat g.row.T.Denot). option_or (get_by_text c.loop-sub.types q) (bound_type (tree x) q))
    c.sub-item.is)
    (c.loop-sub.invariant q)

pub returns : goal.returns
returns g t c = λ q.
    let p = c.args.pat.now in
    let old = get_by_text c.args.types.now q in
    let own = has_name q (map plain_bound (out-DePat g.row.T.Denot p).form.now.binds.now) in
    let below = from_on (placed_subs p) q 0 in
    sym (none_behind (get_by_text c.loop-sub.types q))
    ∙ ap (option_or (get_by_text c.loop-sub.types q))
    (none_there (placed_subs p) q c.loop-sub.sub-index c.loop-sub-test.false)
    ∙ c.loop-sub.invariant q
    ∙ ap (λ o. option_or o below) (c.in_ok-note_names.ensures q)
    ∙ ap (λ (ty : g.row.T.Denot). option_or (option_or old (some_if own ty)) below)
    (type_is p c.type_of.result c.type_of.ensures)
    ∙ noted_first old (some_if own (out-DePat g.row.T.Denot p).form.now.ty) below
    ∙ ap (option_or old) (sym (own_or_below p q))
