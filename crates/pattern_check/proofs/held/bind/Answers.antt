use Rattle.std.proofs.Common.{[], ◌∷◌, subst}
use Rattle.match_model.specs.Types.{MType}
use Rattle.pattern_check.specs.declared.held.Bound.{Bound}
use Rattle.pattern_check.specs.BoundSets.{bounds_view, Binds}
use Rattle.pattern_check.proofs.SetLemmas.{binds_key, held_key}
use Rattle.pattern_check.proofs.held.bind.Goals as goal

pub returns-clause-held : goal.returns-clause-held
returns-clause-held c =
    let k : Bound = record { name = c.args.name; held = c.held_at-held.result; mode = c.args.mode } in
    held_key c.args.table.now c.args.bounds.now.keys k c.insert.new.self.keys c.in_ok-insert.ensures.keys c.requires.held c.held_at-held.ensures.of

pub returns-clause-binds : goal.returns-clause-binds
returns-clause-binds c =
    let table = c.args.table.now in
    let k : Bound = record { name = c.args.name; held = c.held_at-held.result; mode = c.args.mode } in
    let old = bounds_view table c.args.bounds.now.keys in
    let new = bounds_view table c.insert.new.self.keys in
    subst (λ (t : MType). Binds old new (record { name = c.args.name.now; type = t; mode = c.args.mode } ∷ [])) c.held_at-held.ensures.is
    (binds_key table c.args.bounds.now.keys k c.insert.new.self.keys c.in_ok-insert.ensures.keys)
