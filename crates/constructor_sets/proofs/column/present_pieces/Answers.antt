use Rattle.std.proofs.Common.{List, subst, sym, ◌∙◌}
use Rattle.std.specs.List.{AllPairs}
use Rattle.pat_context.specs.Views.{is_sure}
use Rattle.pat_context.specs.declared.ctor.Ctor.{Ctor}
use Rattle.constructor_sets.specs.Columns.{plain_ctors}
use Rattle.constructor_sets.specs.Spans.{Precedes, AreHadByAll}
use Rattle.constructor_sets.proofs.Sharp.{found_rise, sharp_written}
use Rattle.constructor_sets.proofs.ArrayHeads.{found_had}
use Rattle.constructor_sets.proofs.column.present_pieces.Goals as goal

pub spans_by_set-requires-clause-rising : goal.spans_by_set-requires-clause-rising
spans_by_set-requires-clause-rising g c =
    let cx = c.args.cx.now in
    let found = c.in_ok-found.found in
    subst (λ (xs : List Ctor). AllPairs Precedes (plain_ctors xs)) (sym c.deref.ensures.value)
    (found_rise (g.C.PatCx.is_value cx) (g.C.PatCx.context cx) (record { type = c.args.ty; sure = is_sure c.args.validity }) (plain_ctors c.args.heads.now) (plain_ctors found.ctors.items) found.missing (plain_ctors found.gaps.items)
    ((g.met.C.PatCx.values cx).ascend c.args.ty c.requires.ty) c.in_ok-found.ensures)

pub spans_by_set-requires-clause-heads : goal.spans_by_set-requires-clause-heads
spans_by_set-requires-clause-heads g c = sharp_written ((g.C.PatCx.context c.args.cx.now).set_of c.args.ty) c.args.heads.now c.requires.heads

pub spans_by_set-requires-clause-arrays : goal.spans_by_set-requires-clause-arrays
spans_by_set-requires-clause-arrays g c =
    let cx = c.args.cx.now in
    let found = c.in_ok-found.found in
    λ n e.
    subst (λ (xs : List Ctor). AreHadByAll (plain_ctors xs) (plain_ctors c.args.heads.now)) (sym c.deref.ensures.value)
    (found_had (g.C.PatCx.is_value cx) (g.C.PatCx.context cx) (record { type = c.args.ty; sure = is_sure c.args.validity }) (plain_ctors c.args.heads.now) (plain_ctors found.ctors.items) found.missing (plain_ctors found.gaps.items)
    n (sym c.requires.set ∙ e) c.requires.heads c.in_ok-found.ensures)
