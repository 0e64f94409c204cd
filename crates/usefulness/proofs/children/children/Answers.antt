use Rattle.std.proofs.Common.{◌≡◌, ◌<◌, [], List, length, ap, sym, subst, ◌∙◌, IsTrue, arith}
use Rattle.std.specs.List.{All}
use Rattle.constructor_sets.specs.Present.{is_sharp_head}
use Rattle.pattern_matrix.specs.Halving.{leaf_ctors}
use Rattle.pattern_matrix.specs.Views.{plain_leaves}
use Rattle.pattern_matrix.specs.declared.rows.Leaf.{Leaf}
use Rattle.usefulness.specs.States.{plain_open, plain_opens, apart_leaves, apart_rows}
use Rattle.usefulness.proofs.ColumnFacts.{sharp}
use Rattle.usefulness.proofs.children.children.Goals as goal

pub dropped_column-requires-clause-none : goal.dropped_column-requires-clause-none
dropped_column-requires-clause-none g c =
    subst (λ (ls : List (Leaf g.row.C-Ty.Denot)). leaf_ctors (plain_leaves ls) ≡ []) c.deref.ensures.value (c.are_wild.ensures.none c.if-are_wild.true)

pub leaf_pieces-requires-clause-heads : goal.leaf_pieces-requires-clause-heads
leaf_pieces-requires-clause-heads g c =
    let cx = c.args.cx.now in
    let a = c.args.a in
    let context = g.C.PatCx.context cx in
    subst (All (λ h. IsTrue (is_sharp_head (context.set_of a.taken.column.ty) h)))
    (sym (ap (λ ls. leaf_ctors (plain_leaves ls)) c.deref-2.ensures.value ∙ ap leaf_ctors c.requires.apart.leaves))
    (sharp (g.C.PatCx.is_type cx) (g.C.PatCx.is_value cx) context (g.met.C.PatCx.values cx) (g.met.C.PatCx.parts cx) (plain_open a.taken) (plain_opens a.others.items) (apart_rows a) c.requires.fit)

pub split_column-requires-clause-some : goal.split_column-requires-clause-some
split_column-requires-clause-some g c = λ e.
    let long = subst (λ (ls : List (Leaf g.row.C-Ty.Denot)). 0 < length (leaf_ctors (plain_leaves ls))) c.deref.ensures.value (c.are_wild.ensures.some c.if-are_wild.false) in
    let none : length (leaf_ctors (apart_leaves c.args.a)) ≡ 0 = ap length e in
    omega (arith, long, none)
