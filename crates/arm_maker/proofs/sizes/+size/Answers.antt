use Rattle.std.proofs.Common.{◌≡◌, suc, ◌-◌, true, false, length, ap, sym, ◌∙◌, rules, arith}
use Rattle.witness_text.specs.declared.named.NamedWitness.TheFolds.{the_lemmas}
use Rattle.witness_text.specs.Trees.{OfRow, witness_view, witnesses_view, fields_view}
use Rattle.arm_maker.specs.Sizes.{arm_fits, parts_fit, fields_fit, tree_count, field_count}
use Rattle.arm_maker.proofs.Counts.{counted, fields_counted, too_many, is_narrow_row, row_refused, row_items_fit}
use Rattle.arm_maker.proofs.sizes.+size.Goals as goal

pub fits-returns : goal.fits-returns
fits-returns t c =
    let same : suc (c.args.levels - 1) ≡ c.args.levels = omega arith in
    c.fits_above.ensures ∙ ap (λ n. arm_fits n (witness_view c.args.witness.now)) same

pub fits_above-returns-then-not-row_fits : goal.fits_above-returns-then-not-row_fits
fits_above-returns-then-not-row_fits t c =
    let front = c.in-Row.front.items in
    let back = c.in-Row.back.items in
    let seen : witness_view c.args.witness.now ≡ OfRow (witnesses_view front) c.in-Row.longer (witnesses_view back) =
    search (rules, the_lemmas) in
    let refused : is_narrow_row c.args.below front c.in-Row.longer back ≡ false = search rules in
    sym (ap (arm_fits (suc c.args.below)) seen ∙ row_refused c.args.below front c.in-Row.longer back refused)

pub fits_above-returns-else-not-all_fit : goal.fits_above-returns-else-not-all_fit
fits_above-returns-else-not-all_fit t c =
    let front = c.in-Row.front.items in
    let back = c.in-Row.back.items in
    let seen : witness_view c.args.witness.now ≡ OfRow (witnesses_view front) c.in-Row.longer (witnesses_view back) =
    search (rules, the_lemmas) in
    let narrow : is_narrow_row c.args.below front c.in-Row.longer back ≡ true = search rules in
    let fit : parts_fit c.args.below (witnesses_view front) ≡ true = search rules in
    let last : c.all_fit-in-Row.result ≡ parts_fit c.args.below (witnesses_view back) = search rules in
    last ∙ sym (ap (arm_fits (suc c.args.below)) seen
    ∙ row_items_fit c.args.below front c.in-Row.longer back narrow fit)

pub form_fits-returns-then-fields-gt-MOST_PARTS : goal.form_fits-returns-then-fields-gt-MOST_PARTS
form_fits-returns-then-fields-gt-MOST_PARTS t c =
    let fs = c.args.fields.now in
    too_many (field_count (fields_view fs)) (length fs) (fields_fit c.args.levels (fields_view fs))
    (fields_counted fs) (omega arith)

pub list_fits-returns-then-parts-gt-MOST_PARTS : goal.list_fits-returns-then-parts-gt-MOST_PARTS
list_fits-returns-then-parts-gt-MOST_PARTS t c =
    let ps = c.args.parts.now in
    too_many (tree_count (witnesses_view ps)) (length ps) (parts_fit c.args.levels (witnesses_view ps)) (counted ps)
    (omega arith)
