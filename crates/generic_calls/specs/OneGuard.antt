-- A tree with one guard, and the walks through it.
use Rattle.std.specs.Prelude.{ℕ, Bool, true, false, List, [], ◌∷◌}
use Rattle.match_model.specs.Trees.{MNode, AskNode, MissNode}
use Rattle.tree_runs.specs.declared.run.Outcome.{Outcome}
use Rattle.tree_runs.specs.declared.run.Outcome.TheVariants as run

-- node 0 asks the guard of arm 0, which binds nothing; where the guard refuses, no arm is left
abbrev pub one_guard : List MNode
one_guard = AskNode 0 [] 1 ∷ MissNode ∷ []

-- how the walk with these answers ends: the guard has no answer, or takes its arm, or refuses
abbrev pub end_by : (answers : List Bool) → Outcome
end_by [] = run.Short 0
end_by (true ∷ _) = run.Took 0 1
end_by (false ∷ _) = run.Missed 1

-- the nodes whose guards get one of these answers
abbrev pub asked_by : (answers : List Bool) → List ℕ
asked_by [] = []
asked_by (_ ∷ _) = 0 ∷ []
