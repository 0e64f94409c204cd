use Rattle.std.proofs.Common.{◌≡◌, ◌≤◌, ◌++◌, List, true, map, drop, length}
use Rattle.match_model.specs.Select.{Try, select_from}
use Rattle.first_match.specs.Asking.{after_asking, tries_binding}
use Rattle.first_match.specs.Names.{names_held}
use Rattle.first_match.specs.Selections.{arm_view}
use Rattle.first_match.proofs.selecting.guards_asked.Given as goal

abbrev pub invariant-loop-way : goal.invariant-loop-way
invariant-loop-way l =
    (length l.asked.items ≤ length l.answers) ×
    ((rest : List Try) →
    after_asking (map arm_view l.asked.items) (select_from
    (tries_binding l.number true (map (λ w. names_held w.items) (drop l.way-index l.ways)) ++ rest)
    (drop (length l.asked.items) l.answers))
    ≡ after_asking (map arm_view l.fn.asked.items) (select_from
    (tries_binding l.number true (map (λ w. names_held w.items) l.ways) ++ rest)
    (drop (length l.fn.asked.items) l.answers)))
