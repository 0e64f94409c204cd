use Rattle.std.proofs.Common.{◌≡◌, ap, sym}
use Rattle.match_model.specs.Types.{PointType}
use Rattle.match_model.specs.RustTypes.{inner_type}
use Rattle.type_table.specs.Tables.{table_type}
use Rattle.pattern_elaboration.proofs.TypeLemmas.{point_type}
use Rattle.pattern_elaboration.proofs.types.inner.Goals as goal

pub returns-in-Some-clause-is : goal.returns-in-Some-clause-is
returns-in-Some-clause-is c =
    let t = table_type c.args.table.now c.args.ty in
    let u = table_type c.args.table.now c.in-Some.inner in
    let e : t ≡ PointType c.in-Some.field-0-0 u = point_type t u c.in-Some.field-0-0 c.in-Some.ensures.is in
    ap inner_type (sym e)
