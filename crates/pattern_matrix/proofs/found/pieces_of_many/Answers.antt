use Rattle.std.proofs.Common.{◌≡◌, ◌<◌, ℕ, List, map, length, Some, slice_get, IsTrue, sym, subst}
use Rattle.std.specs.List.{All}
use Rattle.std.proofs.lemmas.List.{length-map}
use Rattle.pat_context.specs.declared.ctor.Ctor.{Ctor}
use Rattle.constructor_sets.specs.Columns.{plain_ctors}
use Rattle.constructor_sets.specs.Present.{ArePresent, is_sharp_head}
use Rattle.constructor_sets.specs.Spans.{plain_span, AreSpans}
use Rattle.constructor_sets.specs.declared.piece.Span.{Span}
use Rattle.pattern_matrix.specs.Columns.{plain_column}
use Rattle.pattern_matrix.specs.Halving.{leaf_ctors}
use Rattle.pattern_matrix.specs.Parts.{plain_spans}
use Rattle.pattern_matrix.specs.Views.{plain_leaves}
use Rattle.pattern_matrix.proofs.Members.{all_same}
use Rattle.pattern_matrix.proofs.SameHeads.{found_same}
use Rattle.pattern_matrix.proofs.Keeping.{within_spans, spans_of_all}
use Rattle.pattern_matrix.proofs.found.pieces_of_many.Goals as goal

pub present-requires-clause-heads : goal.present-requires-clause-heads
present-requires-clause-heads g c =
    let set = (g.C.PatCx.context c.args.cx.now).set_of c.args.column.now.ty in
    let heads = c.in_ok-heads.heads in
    subst (λ (cs : List Ctor). All (λ h. IsTrue (is_sharp_head set h)) (plain_ctors cs)) (sym c.deref.ensures.value)
    (all_same (λ h. IsTrue (is_sharp_head set h)) (leaf_ctors (plain_leaves c.args.leaves.now)) (plain_ctors heads.ctors.items) c.in_ok-heads.ensures.same c.requires.heads)

pub spans_at-requires : goal.spans_at-requires
spans_at-requires g c =
    let heads = c.in_ok-heads.heads in
    let found = c.in_ok-found.found in
    let each = subst (λ (cs : List Ctor). AreSpans (plain_ctors found.ctors.items) (plain_ctors cs) (map plain_span found.spans.items)) c.deref.ensures.value c.in_ok-found.ensures.each in
    let within = within_spans (plain_ctors found.ctors.items) (plain_ctors heads.ctors.items) (leaf_ctors (plain_leaves c.args.leaves.now)) heads.numbers.items (map plain_span found.spans.items)
    each c.in_ok-heads.ensures.numbered in
    subst (λ (ss : List Span). All (λ k. k < length ss) c.deref-3.result.now) (sym c.deref-2.ensures.value)
    (subst (λ (ns : List ℕ). All (λ k. k < length found.spans.items) ns) (sym c.deref-3.ensures.value)
    (subst (λ (n : ℕ). All (λ k. k < n) heads.numbers.items) (length-map found.spans.items plain_span) within))

pub returns : goal.returns
returns g c =
    let cx = c.args.cx.now in
    let o = plain_column c.args.column.now in
    let all = leaf_ctors (plain_leaves c.args.leaves.now) in
    let heads = c.in_ok-heads.heads in
    let found = c.in_ok-found.found in
    let spans = c.in_ok-spans.spans.items in
    let distinct = c.in_ok-heads.ensures in
    let kept = plain_ctors heads.ctors.items in
    let present = subst (λ (cs : List Ctor). ArePresent (g.C.PatCx.is_value cx) (g.C.PatCx.context cx) o (plain_ctors cs) (plain_ctors found.ctors.items) found.missing (plain_ctors found.gaps.items) (map plain_span found.spans.items))
    c.deref.ensures.value c.in_ok-found.ensures in
    let numbered : map Some (plain_spans spans) ≡ map (slice_get (plain_spans found.spans.items)) heads.numbers.items =
    subst (λ (ns : List ℕ). map Some (plain_spans spans) ≡ map (slice_get (plain_spans found.spans.items)) ns) c.deref-3.ensures.value
    (subst (λ (ss : List Span). map Some (plain_spans spans) ≡ map (slice_get (plain_spans ss)) c.deref-3.result.now) c.deref-2.ensures.value c.in_ok-spans.ensures) in
    record {
      found = found_same kept all (record { forth = distinct.same.back; back = distinct.same.forth }) (g.C.PatCx.is_value cx) (g.C.PatCx.context cx) o (plain_ctors found.ctors.items) found.missing (plain_ctors found.gaps.items) present.found;
      each = spans_of_all (plain_ctors found.ctors.items) kept all heads.numbers.items (map plain_span found.spans.items) (map plain_span spans) present.each distinct.numbered numbered;
    }
