use Rattle.std.proofs.Common.{◌≡◌, ℕ, List, map, take}
use Rattle.std.specs.Rc.{rc_str_bytes}
use Rattle.decl_syntax.specs.Items.{ItemTree}
use Rattle.type_names.specs.NameRules.{is_among}
use Rattle.type_names.specs.Finding.{or_else, path_variant}
use Rattle.type_names.specs.FindingViews.{found_in, masked}
use Rattle.type_names.specs.Views.{AreNames}
use Rattle.type_names.proofs.finding.give_listed.Given as goal

abbrev pub invariant-loop-name : goal.invariant-loop-name
invariant-loop-name l = (items : List ItemTree) → AreNames items l.names → (q : List ℕ) →
    found_in l.targets q ≡ or_else (found_in l.initial.targets q) (masked (is_among q (map rc_str_bytes (take l.name-index l.listed))) (path_variant items l.owner q))
