-- What is unreachable has one list in reading order.
use Rattle.std.proofs.Common.{◌≡◌, List, sym, ap, ◌∙◌}
use Rattle.match_model.specs.Values.{MValue}
use Rattle.match_model.specs.Match.{ArmWays}
use Rattle.match_model.specs.Unreachable.{Entry}
use Rattle.match_model.specs.ArenaUnreachable.{in_reading_order, IsReadingList}
use Rattle.match_model.proofs.OneMeaning.{one_list}

pub one_reading_list : (Domain : MValue → Type 0) (arms : List ArmWays) (es fs : List Entry) →
    IsReadingList Domain arms es → IsReadingList Domain arms fs → es ≡ fs
one_reading_list Domain arms es fs a b = a.2 ∙ ap in_reading_order (one_list Domain arms a.0 b.0 a.1 b.1) ∙ sym b.2
