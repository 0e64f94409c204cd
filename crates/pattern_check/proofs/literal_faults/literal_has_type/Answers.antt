use Rattle.std.proofs.Common.{ap, sym, ◌∙◌}
use Rattle.decl_syntax.specs.Patterns.{lit_view}
use Rattle.type_table.specs.Tables.{table_type}
use Rattle.pattern_rules.specs.Literals.{has_type}
use Rattle.pattern_check.proofs.TypeLemmas.{number_type, no_number_type, flag_type}
use Rattle.pattern_check.proofs.literal_faults.literal_has_type.Goals as goal

pub returns-in-Some : goal.returns-in-Some
returns-in-Some c =
    c.has_type.ensures ∙ ap (has_type (lit_view c.args.lit.now)) (sym (number_type (table_type c.args.table.now c.args.ty) c.in-Some.kind c.in-Some.ensures))

pub returns-then-is_flag : goal.returns-then-is_flag
returns-then-is_flag c = c.is_bool.ensures ∙ flag_type (lit_view c.args.lit.now) (table_type c.args.table.now c.args.ty) (sym c.is_flag.ensures ∙ c.if-is_flag.true)

pub returns-else-is_flag : goal.returns-else-is_flag
returns-else-is_flag c =
    c.if-is_flag.false ∙ no_number_type (lit_view c.args.lit.now) (table_type c.args.table.now c.args.ty) c.in-None.ensures (sym c.is_flag.ensures ∙ c.if-is_flag.false)
