-- What a place shows of itself.
use Rattle.std.specs.Prelude.{List}
use Rattle.pat_context.specs.declared.place.Place.{Place}
use Rattle.pat_context.specs.declared.place.Step.{Step}

-- the steps from the scrutinee to the place
abbrev pub steps_of : Place → List Step
steps_of p = p.steps.items
