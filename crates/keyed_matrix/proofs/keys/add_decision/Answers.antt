use Rattle.std.proofs.Common.{◌<◌, map, ap, sym, subst, ◌∙◌, ◌∷◌, []}
use Rattle.std.proofs.lemmas.List.{map-append}
use Rattle.match_model.specs.Lists.{Every}
use Rattle.keyed_matrix.specs.Deciding.{plain_decision}
use Rattle.keyed_matrix.specs.KeyLists.{DoAscend}
use Rattle.keyed_matrix.proofs.Putting.{put-behind}
use Rattle.keyed_matrix.proofs.keys.add_decision.Goals as goal

pub is_above-requires : goal.is_above-requires
is_above-requires c = subst (λ ds. DoAscend (map plain_decision ds)) (sym c.deref.ensures.value) c.requires

pub returns-in_ok-push : goal.returns-in_ok-push
returns-in_ok-push c =
    let xs = c.args.key.now.items in
    let d = c.args.decided in
    ap (map plain_decision) c.in_ok-push.ensures.items ∙ map-append plain_decision xs (d ∷ [])
    ∙ sym (put-behind (plain_decision d) (map plain_decision xs)
    (subst (λ ds. Every (λ e. e.number < d.number) (map plain_decision ds)) c.deref.ensures.value
    (c.is_above.ensures c.if-is_above.true)))
