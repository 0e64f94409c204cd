use Rattle.std.proofs.Common.{◌≡◌, List, Bool, false, get_or, length, subst}
use Rattle.std.specs.List.{filter}
use Rattle.std.proofs.lemmas.Result.{IfOk-weaker}
use Rattle.match_model.specs.Pieces.{each_below}
use Rattle.constructor_sets.specs.Numbered.{AreOnce}
use Rattle.constructor_sets.proofs.Tables.{marked_once}
use Rattle.constructor_sets.proofs.variants.marked_numbers.Goals as goal

pub returns : goal.returns
returns c =
    let marks = c.in_ok-marks.marks.items in
    IfOk-weaker c.marked_places.result (λ v. v.items ≡ filter (λ k. get_or c.deref.result.now k false) (each_below (λ k. k) (length c.deref.result.now))) (λ v. AreOnce c.args.numbers.now v.items)
    (λ v e. marked_once c.args.numbers.now v.items marks c.in_ok-marks.ensures.marks (subst (λ (xs : List Bool). v.items ≡ filter (λ k. get_or xs k false) (each_below (λ k. k) (length xs))) c.deref.ensures.value e))
    c.marked_places.ensures
