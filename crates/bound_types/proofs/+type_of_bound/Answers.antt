use Rattle.std.proofs.Common.{◌∙◌, ap, sym}
use Rattle.pattern_arena.specs.declared.pattern.DePat.{DePat}
use Rattle.pattern_arena.specs.Trees.{tree, placed_subs}
use Rattle.bound_types.specs.Types.{bound_type}
use Rattle.bound_types.proofs.Preorder.{below_it, found_here, not_here, none_there}
use Rattle.bound_types.proofs.+type_of_bound.Goals as goal

pub returns-then-is_some : goal.returns-then-is_some
returns-then-is_some g t c =
    let p = c.args.pat.now in
    let name = c.args.name.now in
    found_here (placed_subs p) name c.loop-sub.sub-index c.sub-item.result c.type_of_bound-found.result
    c.loop-sub-test.true
    (sym c.is_some.ensures ∙ c.if-is_some.true)
    (c.type_of_bound-found.ensures ∙ ap (λ (x : DePat g.row.T.Denot). bound_type (tree x) name) c.sub-item.is)
    ∙ c.loop-sub.invariant ∙ sym (below_it p name (sym c.has_name.ensures ∙ c.if-has_name.false))

pub loop-sub-preserved : goal.loop-sub-preserved
loop-sub-preserved g t c =
    let p = c.args.pat.now in
    let name = c.args.name.now in
    not_here (placed_subs p) name c.loop-sub.sub-index c.sub-item.result c.type_of_bound-found.result
    c.loop-sub-test.true
    (sym c.is_some.ensures ∙ c.if-is_some.false)
    (c.type_of_bound-found.ensures ∙ ap (λ (x : DePat g.row.T.Denot). bound_type (tree x) name) c.sub-item.is)
    ∙ c.loop-sub.invariant

pub returns : goal.returns
returns g t c =
    let p = c.args.pat.now in
    let name = c.args.name.now in
    none_there (placed_subs p) name c.loop-sub.sub-index c.loop-sub-test.false ∙ c.loop-sub.invariant
    ∙ sym (below_it p name (sym c.has_name.ensures ∙ c.if-has_name.false))
