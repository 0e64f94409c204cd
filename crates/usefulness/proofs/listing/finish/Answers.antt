use Rattle.std.proofs.Common.{◌≡◌, ◌<◌, ◌∷◌, [], ◌∙◌, length, take, ap, sym, subst, arith}
use Rattle.std.specs.List.{All}
use Rattle.std.proofs.lemmas.List.{length-map, take-map}
use Rattle.usefulness.specs.Frames.{IsRowIn, numbers, has_start, sub_view}
use Rattle.usefulness.specs.States.{plain_asked, plain_askeds, plain_opens}
use Rattle.usefulness.proofs.Finishing.{start_taken, subs_some}
use Rattle.usefulness.proofs.Having.{all_take}
use Rattle.usefulness.proofs.Steps.{some_long}
use Rattle.usefulness.proofs.listing.finish.Goals as goal

pub returns-clause-good : goal.returns-clause-good
returns-clause-good g c = λ arms shown rows.
    let l = c.args.listing in
    let new = c.truncate.new.self in
    let taken : plain_askeds new.items ≡ take l.end (plain_askeds l.rows.items) = ap plain_askeds c.truncate.ensures.items ∙ sym (take-map plain_asked l.end l.rows.items) in
    let long = length-map new.items plain_asked in
    let some : 0 < length (plain_askeds new.items) = some_long (length (plain_askeds new.items)) new.len (sym c.is_empty.ensures ∙ c.if-is_empty.false) (omega (arith, long, new.ok.0)) in
    record {
      columns = shown;
      heads = subst (All (IsRowIn arms (numbers (plain_opens c.args.columns.items)))) (sym taken) (all_take (IsRowIn arms (numbers (plain_opens c.args.columns.items))) l.end (plain_askeds l.rows.items) rows);
      start = ap has_start taken ∙ start_taken l.end (plain_askeds l.rows.items) (subst (λ ys. 0 < length ys) taken some) c.requires.kept.start;
    }

pub returns-clause-views : goal.returns-clause-views
returns-clause-views g c =
    let l = c.args.listing in
    let new = c.truncate.new.self in
    let taken : plain_askeds new.items ≡ take l.end (plain_askeds l.rows.items) = ap plain_askeds c.truncate.ensures.items ∙ sym (take-map plain_asked l.end l.rows.items) in
    let long = length-map new.items plain_asked in
    let some : 0 < length (plain_askeds new.items) = some_long (length (plain_askeds new.items)) new.len (sym c.is_empty.ensures ∙ c.if-is_empty.false) (omega (arith, long, new.ok.0)) in
    ap (λ xs. sub_view (plain_opens c.args.columns.items) xs ∷ []) taken ∙ sym (subs_some (plain_opens c.args.columns.items) (take l.end (plain_askeds l.rows.items)) (subst (λ ys. 0 < length ys) taken some))
