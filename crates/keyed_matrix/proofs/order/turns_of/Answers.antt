use Rattle.std.proofs.Common.{◌++◌, ◌∷◌, [], map, ap, sym, subst, ◌∙◌}
use Rattle.std.proofs.lemmas.List.{map-append}
use Rattle.std.proofs.lemmas.List.Elements.{All-push}
use Rattle.std.specs.List.{All}
use Rattle.match_model.specs.Keys.{key_of}
use Rattle.keyed_matrix.specs.declared.order.Turn.{Turn}
use Rattle.keyed_matrix.specs.Deciding.{table_decides}
use Rattle.keyed_matrix.specs.Turns.{HasKey, turn_rows}
use Rattle.keyed_matrix.proofs.order.turns_of.Goals as goal

pub loop-row-preserved : goal.loop-row-preserved
loop-row-preserved g c =
    let decides = table_decides c.args.decisions.now in
    let old = c.loop-row.turns.items in
    let x : Turn g.row.T.Denot = record { key = c.in_ok-key.key; row = c.in-Some.row } in
    let one : HasKey decides x = record {
      ascends = c.in_ok-key.ensures.ascends;
      same = λ o. c.in_ok-key.ensures.key o ∙ ap (λ xs. key_of (map decides xs) o) c.as_slice.ensures;
    } in (
      ap turn_rows c.in_ok-push.ensures.items ∙ map-append (λ (t : Turn g.row.T.Denot). t.row) old (x ∷ [])
          ∙ ap (λ rs. rs ++ c.in-Some.row ∷ []) c.loop-row.invariant.0,
      subst (All (HasKey decides)) (sym c.in_ok-push.ensures.items)
          (All-push (HasKey decides) old x c.loop-row.invariant.1 one),
    )
