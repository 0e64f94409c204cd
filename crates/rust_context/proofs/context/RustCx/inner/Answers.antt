use Rattle.rust_context.proofs.PartsThere.{inner_itself}
use Rattle.rust_context.proofs.context.RustCx.inner.Goals as goal

pub returns-in_default : goal.returns-in_default
returns-in_default c =
    inner_itself c.args.self.now.table.now c.args.ty c.kind.result c.requires.of c.kind.ensures.is c.in_default.not-Point c.in_default.not-Slice
    c.in_default.not-Array
