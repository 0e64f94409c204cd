use Rattle.std.proofs.Common.{[], ◌∷◌, refl}
use Rattle.std.proofs.lemmas.Result.{on_ok_weaker}
use Rattle.usefulness.specs.Listing.{as_wanted}
use Rattle.usefulness.specs.States.{plain_asked, is_noted}
use Rattle.usefulness.proofs.Steps.{listed_closed, listed_left, listed_noted, listed_kept, wanted_as, on_ok_all}
use Rattle.usefulness.proofs.listing.list_row.Goals as goal

pub returns-then-listing : goal.returns-then-listing
returns-then-listing g c = λ scope old columns through l i.
    listed_closed scope old columns through (plain_asked c.args.asked ∷ []) c.args.reached.now c.args.listing.now l c.if-listing.true

pub returns-then-is_empty-2 : goal.returns-then-is_empty-2
returns-then-is_empty-2 g c =
    on_ok_weaker c.note.result
    (λ noted scope old columns through l i.
    listed_noted scope old columns through (plain_asked c.args.asked) c.args.reached.now c.args.listing.now l c.note.new.reached c.note.new.listing
    c.note.ensures.rows c.note.ensures.end c.note.ensures.scope (noted old columns through l.listed))
    c.note.ensures.listed

pub returns-then-not-wanted : goal.returns-then-not-wanted
returns-then-not-wanted g c = λ scope old columns through l i.
    let x = plain_asked c.args.asked in
    listed_left scope old columns through x c.args.reached.now c.args.listing.now l c.if-listing.false c.if-asked.true
    ((wanted_as c.args.reached.now.marks columns x c.is_wanted-wanted.result c.is_wanted-wanted.ensures).1 c.if-not-wanted.true)

pub returns-else-asked : goal.returns-else-asked
returns-else-asked g c =
    let x = plain_asked c.args.asked in
    let w = c.is_wanted-wanted.result in
    on_ok_all c.keep.result c.keep.ensures.rows c.keep.ensures.kept c.keep.ensures.listed
    (λ rows kept listed scope old columns through l i.
    listed_kept scope old columns through x c.args.reached.now c.args.listing.now l c.keep.new.listing (as_wanted w x) rows kept (record { arm = i.arm; heads = i.heads })
    (listed old (is_noted c.args.reached.now) columns through x refl (wanted_as c.args.reached.now.marks columns x w c.is_wanted-wanted.ensures) l.listed))
