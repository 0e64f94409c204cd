use Rattle.std.proofs.Common.{rules, refl, sym, subst, option_map}
use Rattle.range_split.specs.Ranges.{plain_range}
use Rattle.pattern_lints.specs.Spots.{own_spot}
use Rattle.pattern_lints.specs.Finding.{Notes}
use Rattle.pattern_lints.proofs.Noting.{notes-none, notes-one}
use Rattle.pattern_lints.proofs.spots.note.Goals as goal

pub returns-in_ok-push : goal.returns-in_ok-push
returns-in_ok-push c =
    let a = c.args.finding.now in
    let b = record a { found = c.push.new.self } in
    subst (λ o. Notes a b c.args.place (own_spot c.args.at (option_map plain_range o))) (sym c.in-Some.is)
    (notes-one a b (record { arm = a.arm; path = c.in_ok-path.path; at = c.args.at; range = c.in-Some.range; place = c.args.place }) refl refl refl c.in_ok-push.ensures.items refl (search rules))

pub returns-in_default : goal.returns-in_default
returns-in_default c =
    let a = c.args.finding.now in
    subst (λ o. Notes a a c.args.place (own_spot c.args.at (option_map plain_range o))) (sym c.in_default.is) (notes-none a c.args.place)
