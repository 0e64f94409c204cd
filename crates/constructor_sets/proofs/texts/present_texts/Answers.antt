use Rattle.std.proofs.Common.{◌≡◌, Bool, true, false, List, IsTrue, [], ◌∷◌, ◌++◌, length, map, sym, ap, subst, ◌∙◌}
use Rattle.std.specs.List.{AllPairs}
use Rattle.match_model.specs.Constructors.{MCtor, TextSet, TextCtor, OtherTextCtor}
use Rattle.pat_context.specs.Views.{is_sure}
use Rattle.pat_context.specs.declared.ctor.Ctor.{Ctor}
use Rattle.constructor_sets.specs.declared.texts.Entry.{Entry}
use Rattle.constructor_sets.specs.Columns.{plain_ctors, plain_flagged, IsSetSplit}
use Rattle.constructor_sets.specs.Present.{AreKept}
use Rattle.constructor_sets.specs.Spans.{Precedes}
use Rattle.constructor_sets.specs.Texts.{entry_texts, is_each_text}
use Rattle.constructor_sets.proofs.Sharp.{found_rise, sharp_written, sharp_heads}
use Rattle.constructor_sets.proofs.TextSpans.{text_split, all_kept}
use Rattle.constructor_sets.proofs.texts.present_texts.Goals as goal

abbrev flagged_texts : List Entry → List (MCtor × Bool)
flagged_texts named = map (λ t. (TextCtor t, true)) (entry_texts named) ++ (OtherTextCtor, false) ∷ []

pub found_pieces-requires-clause-pieces : goal.found_pieces-requires-clause-pieces
found_pieces-requires-clause-pieces g c =
    let heads = plain_ctors c.args.heads.now in
    subst (λ (ps : List (Ctor × Bool)). IsSetSplit TextSet heads (plain_flagged ps)) (sym c.deref-2.ensures.value)
    (text_split heads c.in_ok-pieces.pieces.items (entry_texts c.in_ok-told.told.named.items) (sharp_heads TextSet heads c.requires.heads) c.in_ok-told.ensures.named
    (c.in_ok-pieces.ensures ∙ ap flagged_texts c.deref.ensures.value))

pub text_spans-requires-clause-rising : goal.text_spans-requires-clause-rising
text_spans-requires-clause-rising g c =
    let cx = c.args.cx.now in
    let found = c.in_ok-found.found in
    subst (λ (xs : List Ctor). AllPairs Precedes (plain_ctors xs)) (sym c.deref-3.ensures.value)
    (found_rise (g.C.PatCx.is_value cx) (g.C.PatCx.context cx) (record { type = c.args.ty; sure = is_sure c.args.validity }) (plain_ctors c.args.heads.now) (plain_ctors found.ctors.items) found.missing (plain_ctors found.gaps.items)
    ((g.met.C.PatCx.values cx).ascend c.args.ty c.requires.ty) c.in_ok-found.ensures.found)

pub text_spans-requires-clause-heads : goal.text_spans-requires-clause-heads
text_spans-requires-clause-heads g c = sharp_written TextSet c.args.heads.now c.requires.heads

pub text_spans-requires-clause-pieces : goal.text_spans-requires-clause-pieces
text_spans-requires-clause-pieces g c =
    let named = c.in_ok-told.told.named.items in
    subst (λ (xs : List Ctor). IsTrue (is_each_text (length named) xs) → plain_ctors xs ≡ map TextCtor (entry_texts named)) (sym c.deref-3.ensures.value)
    (all_kept c.in_ok-found.found.ctors.items c.in_ok-pieces.pieces.items named (c.in_ok-pieces.ensures ∙ ap flagged_texts c.deref.ensures.value)
    (subst (λ ps. AreKept ps (plain_ctors c.in_ok-found.found.ctors.items)) c.deref-2.ensures.value c.in_ok-found.ensures.kept))
