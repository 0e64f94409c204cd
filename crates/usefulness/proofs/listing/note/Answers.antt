use Rattle.std.proofs.Common.{◌≡◌, ◌&&◌, ◌||◌, ◌∙◌, Bool, true, false, refl, sym, ap}
use Rattle.usefulness.specs.Marking.{is_marked, is_answer}
use Rattle.usefulness.specs.States.{plain_asked, plain_askeds, is_noted}
use Rattle.usefulness.proofs.Listed.{noted_row}
use Rattle.usefulness.proofs.listing.note.Goals as goal

pub returns-in_ok-mark-clause-listed : goal.returns-in_ok-mark-clause-listed
returns-in_ok-mark-clause-listed g c = λ old columns through l.
    let x = plain_asked c.args.asked.now in
    noted_row old (is_noted c.args.reached.now) (is_marked c.mark.new.self) columns through (plain_askeds c.args.listing.now.rows.items) x c.args.listing.now.closed l c.requires.none c.requires.more c.requires.bare
    (λ q.
    c.in_ok-mark.ensures.marked q
    ∙ ap (λ z. is_noted c.args.reached.now q || is_answer x.row.arm z q) c.as_slice.ensures
    ∙ ap (λ b. is_noted c.args.reached.now q || (b && is_answer x.row.arm x.row.chosen q)) (sym c.if-asked.true))

pub returns-else-asked-clause-listed : goal.returns-else-asked-clause-listed
returns-else-asked-clause-listed g c = λ old columns through l.
    let x = plain_asked c.args.asked.now in
    noted_row old (is_noted c.args.reached.now) (is_noted c.args.reached.now) columns through (plain_askeds c.args.listing.now.rows.items) x c.args.listing.now.closed l c.requires.none c.requires.more c.requires.bare
    (λ q. nothing (is_noted c.args.reached.now q) (is_answer x.row.arm x.row.chosen q) ∙ ap (λ b. is_noted c.args.reached.now q || (b && is_answer x.row.arm x.row.chosen q)) (sym c.if-asked.false))
  where
    nothing : (b d : Bool) → b ≡ (b || (false && d))
    nothing true d = refl
    nothing false d = refl
