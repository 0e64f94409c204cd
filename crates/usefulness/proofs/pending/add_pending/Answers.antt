use Rattle.std.proofs.Common.{◌++◌, length, sym, ap, ◌∙◌, append-nil}
use Rattle.usefulness.proofs.Stacking.{more_none, more_some}
use Rattle.usefulness.proofs.Steps.{some_long}
use Rattle.usefulness.proofs.Trims.{none_left}
use Rattle.usefulness.proofs.pending.add_pending.Goals as goal

pub returns-then-is_empty : goal.returns-then-is_empty
returns-then-is_empty g c =
    let p = c.args.p in
    let old = c.args.todo.now.items in
    sym (ap (λ es. old ++ es) (more_none p (none_left p.parts.items p.parts.len (sym p.parts.ok.0) (sym c.is_empty.ensures ∙ c.if-is_empty.true))) ∙ append-nil old)

pub returns-in-Ok : goal.returns-in-Ok
returns-in-Ok g c =
    let p = c.args.p in
    let old = c.args.todo.now.items in
    c.in-Ok.ensures.items ∙ ap (λ es. old ++ es) (sym (more_some p (some_long (length p.parts.items) p.parts.len (sym c.is_empty.ensures ∙ c.if-is_empty.false) (sym p.parts.ok.0))))
