use Rattle.std.proofs.Common.{◌∙◌, option_map}
use Rattle.decl_syntax.specs.Patterns.{lit_view}
use Rattle.number_kinds.specs.Kinds.{kind_type}
use Rattle.pat_context.specs.Views.{plain_ctor}
use Rattle.type_table.specs.Tables.{table_type}
use Rattle.pattern_elaboration.proofs.TypeLemmas.{number_type}
use Rattle.pattern_elaboration.proofs.LiteralRanges.{range_moved}
use Rattle.pattern_elaboration.proofs.literals.range_ctor.Goals as goal

pub returns-in-Some : goal.returns-in-Some
returns-in-Some c = λ s is fits.
    let t = table_type c.args.table.now c.args.ty in
    range_moved c.width.result s.width (kind_type c.in-Some.kind) t (plain_ctor c.kind_range_ctor.result)
    (option_map lit_view c.args.range.now.low) (option_map lit_view c.args.range.now.high) c.args.range.now.closed
    (c.width.ensures ∙ is.width_is) (number_type t c.in-Some.kind c.in-Some.ensures) c.kind_range_ctor.ensures fits
