use Rattle.std.proofs.Common.{map, arith}
use Rattle.std.proofs.lemmas.List.{length-map}
use Rattle.decl_syntax.specs.Items.{field_view}
use Rattle.decl_parser.proofs.WidthLemmas.{many_fields, few_fields}
use Rattle.decl_parser.proofs.widths.fields_are_wide.Goals as goal

pub returns-then-len-gt-MOST_PARTS : goal.returns-then-len-gt-MOST_PARTS
returns-then-len-gt-MOST_PARTS c =
    many_fields (map field_view c.args.fields.now.items) (omega (arith, length-map c.args.fields.now.items field_view, c.len.ensures, c.if-len-gt-MOST_PARTS.true))

pub returns : goal.returns
returns c =
    few_fields (map field_view c.args.fields.now.items) c.some_field_is_wide.result
    (omega (arith, length-map c.args.fields.now.items field_view, c.len.ensures, c.if-len-gt-MOST_PARTS.false)) c.some_field_is_wide.ensures
