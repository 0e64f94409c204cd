use Rattle.std.proofs.Common.{◌≡◌, Bool, true, false, [], ◌∷◌, ◌++◌, map, Vec, Global, ap, ◌∙◌}
use Rattle.std.proofs.lemmas.Result.{IfOk-weaker}
use Rattle.match_model.specs.Constructors.{TextSet, TextCtor, OtherTextCtor}
use Rattle.pat_context.specs.declared.ctor.Ctor.{Ctor}
use Rattle.constructor_sets.specs.Columns.{plain_ctors, plain_flagged, IsSetSplit}
use Rattle.constructor_sets.specs.Texts.{entry_texts}
use Rattle.constructor_sets.proofs.TextSpans.{text_split}
use Rattle.constructor_sets.proofs.texts.texts.Goals as goal

pub returns : goal.returns
returns c =
    let column = plain_ctors c.args.column.now in
    let texts = entry_texts c.in_ok-told.told.named.items in
    IfOk-weaker c.text_pieces.result
    (λ (v : Vec (Ctor × Bool) Global). plain_flagged v.items ≡ map (λ t. (TextCtor t, true)) (entry_texts c.deref.result.now) ++ (OtherTextCtor, false) ∷ [])
    (λ (v : Vec (Ctor × Bool) Global). IsSetSplit TextSet column (plain_flagged v.items))
    (λ v e.
    text_split column v.items texts c.requires c.in_ok-told.ensures.named
    (e ∙ ap (λ named. map (λ t. (TextCtor t, true)) (entry_texts named) ++ (OtherTextCtor, false) ∷ []) c.deref.ensures.value))
    c.text_pieces.ensures
