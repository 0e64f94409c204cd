use Rattle.std.proofs.Common.{◌≡◌, ◌&&◌, ◌∙◌, ◌∷◌, ◌++◌, [], length, refl, false, not, sym, ap, subst}
use Rattle.std.proofs.lemmas.List.{map-append}
use Rattle.pattern_matrix.specs.HeadLists.{kept_heads}
use Rattle.usefulness.specs.Frames.{has_heads}
use Rattle.usefulness.specs.Listing.{as_wanted, IsListing}
use Rattle.usefulness.specs.States.{plain_asked, plain_askeds}
use Rattle.usefulness.proofs.Listed.{kept_row}
use Rattle.usefulness.proofs.Steps.{no_heads}
use Rattle.usefulness.proofs.listing.keep.Goals.{then-is_empty, else-is_empty, then-wanted, else-wanted}
use Rattle.usefulness.proofs.listing.keep.Goals as goal

pub returns-clause-listed : goal.returns-clause-listed
returns-clause-listed g c = λ old now columns through x same wants l.
    let y = plain_asked c.args.asked in
    let w = c.args.asked.wanted in
    let before = c.args.listing.now in
    let pushed = ap plain_askeds c.in_ok-push.ensures.items ∙ map-append plain_asked before.rows.items (c.args.asked ∷ []) in
    let kept : plain_askeds c.if-wanted.listing.rows.items ≡ plain_askeds before.rows.items ++ y ∷ [] =
    elim c.if-wanted.branch [
      | then-wanted w ↦ ap (λ z. plain_askeds z.rows.items) w.listing-is ∙ pushed
      | else-wanted w ↦ ap (λ z. plain_askeds z.rows.items) w.listing-is ∙ pushed
    ] in
    let after : plain_askeds c.if-wanted.listing.rows.items ≡ plain_askeds before.rows.items ++ as_wanted w x ∷ [] =
    kept ∙ ap (λ r. plain_askeds before.rows.items ++ (record { row = r; wanted = w }) ∷ []) (sym same) in
    let closes : (c.is_empty.result && not y.row.guarded) ≡ c.if-is_empty.closed =
    elim c.if-is_empty.branch [
      | then-is_empty w ↦ ap (λ b. b && not y.row.guarded) w.if-is_empty.true ∙ sym w.closed-is
      | else-is_empty w ↦ ap (λ b. b && not y.row.guarded) w.if-is_empty.false ∙ sym w.if-is_empty.false ∙ sym w.closed-is
    ] in
    subst (IsListing old now columns (through ++ x ∷ []) (plain_askeds c.if-wanted.listing.rows.items)) (ap (λ r. c.is_empty.result && not r.guarded) same ∙ closes)
    (kept_row old now columns through (plain_askeds before.rows.items) (plain_askeds c.if-wanted.listing.rows.items) x w before.closed l c.requires.more wants after c.is_empty.result
    (λ e. subst (λ r. has_heads r.heads ≡ false) (sym same)
    (no_heads (kept_heads c.args.asked.row.heads) (length (kept_heads c.args.asked.row.heads)) refl (sym c.is_empty.ensures ∙ e))))
