use Rattle.std.proofs.Common.{◌++◌, get_or, length, sym, ap, subst, ◌∙◌}
use Rattle.std.specs.List.{All, flat_map}
use Rattle.pattern_matrix.specs.Sparse.{AreHeadsBelow}
use Rattle.usefulness.specs.Frames.{numbers, AreOpen}
use Rattle.usefulness.specs.States.{plain_opens, plain_askeds}
use Rattle.usefulness.specs.Words.{AreNumbered, column_words, row_words}
use Rattle.usefulness.proofs.Writing.{all_written}
use Rattle.usefulness.proofs.telling.tell.Goals as goal

pub places-requires : goal.places-requires
places-requires g c = subst (λ os. AreOpen c.args.frame.now.next (numbers (plain_opens os))) (sym c.as_slice.ensures.value) c.requires.open

pub add_rows-requires : goal.add_rows-requires
add_rows-requires g c =
    subst (λ ps. All (λ x. AreHeadsBelow (length ps) x.row.heads) (plain_askeds c.as_slice-4.result.now)) (sym c.as_slice-3.ensures.value)
    (subst (λ rs. All (λ x. AreHeadsBelow (length c.in_ok-places.places.items) x.row.heads) (plain_askeds rs)) (sym c.as_slice-4.ensures.value)
    (subst (λ n. All (λ x. AreHeadsBelow n x.row.heads) (plain_askeds c.args.frame.now.rows.items)) (sym c.in_ok-places.ensures.long) c.requires.below))

pub returns : goal.returns
returns g c =
    let places = c.in_ok-places.places.items in
    let columns = c.args.frame.now.columns.items in
    let rows = c.args.frame.now.rows.items in (
      (λ n. get_or places n 0),
      subst (λ os. AreNumbered (λ n. get_or places n 0) 0 (numbers (plain_opens os))) c.as_slice.ensures.value c.in_ok-places.ensures.numbered,
      all_written _ _ _ (column_words (plain_opens columns)) (flat_map (row_words (λ n. get_or places n 0)) (plain_askeds rows)) c.new-words.ensures.items
          (c.in_ok-add_columns.ensures ∙ ap (λ os. c.new-words.result.items ++ column_words (plain_opens os)) c.as_slice-2.ensures.value)
          (c.in_ok-add_rows.ensures
          ∙ ap (λ ps. c.add_columns.new.words.items ++ flat_map (row_words (λ n. get_or ps n 0)) (plain_askeds c.as_slice-4.result.now)) c.as_slice-3.ensures.value
          ∙ ap (λ rs. c.add_columns.new.words.items ++ flat_map (row_words (λ n. get_or places n 0)) (plain_askeds rs)) c.as_slice-4.ensures.value),
    )
