use Rattle.std.proofs.Common.{◌≡◌, ◌<◌, ◌||◌, ℕ, List, subst, sym, ap, ◌∙◌, map}
use Rattle.std.specs.List.{AllPairs, list_any}
use Rattle.std.proofs.lemmas.List.Kept.{AllPairs-filter}
use Rattle.match_model.specs.Constructors.{MCtor, VariantCtor}
use Rattle.match_model.specs.Pieces.{each_below}
use Rattle.pat_context.specs.Views.{is_sure}
use Rattle.pat_context.specs.declared.ctor.Ctor.{Ctor}
use Rattle.constructor_sets.specs.Columns.{plain_ctors}
use Rattle.constructor_sets.specs.Present.{AreFound}
use Rattle.constructor_sets.specs.Spans.{AreSpans, plain_span}
use Rattle.constructor_sets.specs.Numbered.{is_valued, is_left_out}
use Rattle.constructor_sets.proofs.Sharp.{numbers_below}
use Rattle.constructor_sets.proofs.VariantStates.{variants_found}
use Rattle.constructor_sets.proofs.variants.present_variants.Goals as goal

pub valued_numbers-requires-clause-numbers : goal.valued_numbers-requires-clause-numbers
valued_numbers-requires-clause-numbers g c =
    numbers_below c.args.count c.args.later (plain_ctors c.args.heads.now) c.in_ok-numbers.numbers.items c.requires.heads c.in_ok-numbers.ensures

pub variant_spans-requires : goal.variant_spans-requires
variant_spans-requires g c =
    let p = is_valued (g.C.PatCx.variant_empty_of c.args.cx.now c.args.ty) (is_sure c.args.validity) in
    let numbers = c.in_ok-numbers.numbers.items in
    subst (AllPairs (λ j k. j < k)) (sym (c.deref-2.ensures.value ∙ c.in_ok-valued.ensures))
    (AllPairs-filter (λ j k. j < k) p numbers c.in_ok-numbers.ensures.ascending)

pub returns : goal.returns
returns g c =
    let cx = c.args.cx.now in
    let sure = is_sure c.args.validity in
    let empty = g.C.PatCx.variant_empty_of cx c.args.ty in
    let heads = plain_ctors c.args.heads.now in
    let numbers = c.in_ok-numbers.numbers.items in
    let valued = c.in_ok-valued.valued.items in
    let ctors = plain_ctors c.in_ok-ctors.ctors.items in
    let are : ctors ≡ map VariantCtor valued = c.in_ok-ctors.ensures ∙ ap (λ (xs : List ℕ). map VariantCtor xs) c.deref-3.ensures.value in
    record {
      found = subst (λ (xs : List Ctor). AreFound (g.C.PatCx.is_value cx) (g.C.PatCx.context cx) (record { type = c.args.ty; sure = sure }) heads ctors c.is_missing-missing.result (plain_ctors xs))
          (sym c.new-gaps.ensures.items)
          (variants_found (g.C.PatCx.is_type cx) (g.C.PatCx.is_value cx) (g.C.PatCx.context cx) (g.met.C.PatCx.values cx) (g.met.C.PatCx.parts cx) (g.met.C.PatCx.unsure cx) (g.C.PatCx.empty_of cx) (g.C.PatCx.variant_empty_of cx)
          (g.met.C.PatCx.empty cx) c.args.ty sure c.requires.ty c.args.count c.args.later c.requires.set c.args.heads.now c.requires.heads numbers c.in_ok-numbers.ensures ctors c.is_missing-missing.result
          (are ∙ ap (map VariantCtor) c.in_ok-valued.ensures)
          (c.is_missing-missing.ensures ∙ ap (λ (xs : List ℕ). c.args.later || list_any (is_left_out empty sure xs) (each_below (λ k. k) c.args.count)) c.deref.ensures.value));
      each = subst (λ (ps : List MCtor). AreSpans ps heads (map plain_span c.in_ok-spans.spans.items)) (ap (map VariantCtor) c.deref-2.ensures.value ∙ sym are) c.in_ok-spans.ensures;
    }
