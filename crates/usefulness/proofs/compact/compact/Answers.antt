use Rattle.std.proofs.Common.{false, refl, ap, ◌∙◌, slice_index_or}
use Rattle.usefulness.specs.Compact.{some_lists, used_of}
use Rattle.usefulness.specs.States.{plain_opens, plain_askeds}
use Rattle.usefulness.proofs.Noting.{used_same}
use Rattle.usefulness.proofs.compact.compact.Goals as goal

pub returns : goal.returns
returns g c =
    let used = c.in_ok-used.used.items in
    let columns = c.args.frame.columns.items in
    let rows = c.args.frame.rows.items in
    record {
      rows = refl;
      next = refl;
      columns =
          c.in_ok-kept.ensures
          ∙ ap (λ us. used_of (λ n. slice_index_or us n false) (plain_opens c.deref-3.result.now)) c.deref-2.ensures.value
          ∙ ap (λ os. used_of (λ n. slice_index_or used n false) (plain_opens os)) c.deref-3.ensures.value
          ∙ used_same (λ n. slice_index_or used n false) (some_lists (plain_askeds rows)) (λ n. c.in_ok-used.ensures n ∙ ap (λ xs. some_lists (plain_askeds xs) n) c.deref.ensures.value) (plain_opens columns);
    }
