use Rattle.std.proofs.Common.{map, arith}
use Rattle.std.proofs.lemmas.List.{length-map}
use Rattle.decl_syntax.specs.Patterns.{pattern_view, field_view}
use Rattle.decl_syntax.proofs.WidthLemmas.{many_patterns, few_patterns, many_fields, few_fields}
use Rattle.decl_syntax.proofs.widths.+pattern_widths.Goals as goal

pub fields_are_wide-returns-then-len-gt-MOST_PARTS : goal.fields_are_wide-returns-then-len-gt-MOST_PARTS
fields_are_wide-returns-then-len-gt-MOST_PARTS t c =
    many_fields (map field_view c.args.fields.now.items) (omega (arith, length-map c.args.fields.now.items field_view, c.len.ensures, c.if-len-gt-MOST_PARTS.true))

pub fields_are_wide-returns : goal.fields_are_wide-returns
fields_are_wide-returns t c =
    few_fields (map field_view c.args.fields.now.items) c.some_field_is_wide.result
    (omega (arith, length-map c.args.fields.now.items field_view, c.len.ensures, c.if-len-gt-MOST_PARTS.false)) c.some_field_is_wide.ensures

pub list_is_wide-returns-then-len-gt-MOST_PARTS : goal.list_is_wide-returns-then-len-gt-MOST_PARTS
list_is_wide-returns-then-len-gt-MOST_PARTS t c =
    many_patterns (map pattern_view c.args.items.now.items) (omega (arith, length-map c.args.items.now.items pattern_view, c.len.ensures, c.if-len-gt-MOST_PARTS.true))

pub list_is_wide-returns : goal.list_is_wide-returns
list_is_wide-returns t c =
    few_patterns (map pattern_view c.args.items.now.items) c.some_pattern_is_wide.result
    (omega (arith, length-map c.args.items.now.items pattern_view, c.len.ensures, c.if-len-gt-MOST_PARTS.false)) c.some_pattern_is_wide.ensures
