use Rattle.std.proofs.Common.{[], ◌∷◌, ◌++◌, ◌∙◌, ap, sym, subst}
use Rattle.std.specs.List.{All}
use Rattle.std.proofs.lemmas.List.Elements.{All-nil, All-cons}
use Rattle.pattern_matrix.specs.declared.halving.Part.{Part}
use Rattle.usefulness.specs.Cutting.{IsCutPart}
use Rattle.usefulness.proofs.Cuts.{whole_cut}
use Rattle.usefulness.proofs.children.all_parts.Goals as goal

pub returns-in_ok-push-clause-parts : goal.returns-in_ok-push-clause-parts
returns-in_ok-push-clause-parts g c = λ m.
    let spans = c.args.spans.now in
    let part : Part = record { first = 0; end = c.args.count; leaves = c.in_ok-leaves.leaves } in
    let is = IsCutPart m c.args.missing c.args.a.now spans in
    subst (All is) (sym (c.in_ok-push.ensures.items ∙ ap (λ xs. xs ++ part ∷ []) c.new-parts.ensures.items))
    (All-cons is part [] (whole_cut c.args.missing c.args.a.now spans m part c.if-count-gt0.true c.in_ok-leaves.ensures) (All-nil is))
