use Rattle.std.proofs.Common.{◌≡◌, refl, rules}
use Rattle.std.specs.Rc.{rc_str_bytes}
use Rattle.decl_syntax.proofs.ViewLemmas.{bind_as_view}
use Rattle.decl_syntax.proofs.pattern.bind_as.Goals as goal

pub returns : goal.returns
returns c =
    let copied : rc_str_bytes c.in_ok-name.name ≡ rc_str_bytes c.args.found.name.now = search rules in
    rw (bind_as_view c.in_ok-name.name c.args.found.by_ref c.args.found.mutable c.in_ok-new.field-0, c.in_ok-new.ensures.ok, copied) refl
