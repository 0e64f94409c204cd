use Rattle.std.proofs.Common.{refl}
use Rattle.pattern_lints.proofs.spots.go_in.Goals as goal

pub returns : goal.returns
returns g c = record {
  opened = c.place_below.new.finding;
  opens = c.in_ok-below.ensures;
  table = refl;
  found = refl;
  arm = refl;
  path = c.in_ok-push.ensures.items;
}
