-- The rest of a list of items, and patterns that stand at whatever type.
use Rattle.std.specs.Prelude.{◌≡◌, ⊤, List, [], map}
use Rattle.match_model.specs.declared.Mode.{Mode}
use Rattle.match_model.specs.Patterns.{MRest, NoRest, SomeRest, BoundRest}
use Rattle.match_model.specs.Matching.{mode_written, to_move}
use Rattle.pattern_rules.specs.Builders.{Built, Maker}
use Rattle.pattern_elaboration.specs.declared.rows.Rest.{Rest}
use Rattle.pattern_elaboration.specs.declared.rows.Rest.TheVariants as r

-- the rest is the written one, where this binding mode holds
abbrev pub RestIs : Rest → MRest → Mode → Type 0
RestIs r.Absent NoRest m = ⊤
RestIs r.Unnamed SomeRest m = ⊤
RestIs (r.Named name mode) (BoundRest n w) m = (name.now ≡ n) × (mode ≡ mode_written to_move w m)
RestIs _ _ m = ⊥

-- the patterns, where there is a rest
abbrev pub where_rest : MRest → List Built → List Built
where_rest NoRest ps = []
where_rest SomeRest ps = ps
where_rest (BoundRest name written) ps = ps

-- the patterns, each at whatever type
abbrev pub fixed : List Built → List Maker
fixed ps = map (λ p t. p) ps
