use Rattle.std.proofs.Common.{map, sym, ◌∙◌, arith}
use Rattle.decl_syntax.specs.Patterns.{pattern_view, field_view}
use Rattle.type_names.proofs.ItemTests.{any_found, any_none}
use Rattle.type_names.proofs.WrittenLemmas.{patterns_any, fields_any}
use Rattle.type_names.proofs.attributes.+attributes.Goals as goal

pub some_unsupported-returns-then-pattern_unsupported : goal.some_unsupported-returns-then-pattern_unsupported
some_unsupported-returns-then-pattern_unsupported t c =
    any_found pattern_view _ c.args.patterns.now c.loop-pattern.pattern-index c.pattern-item.result c.loop-pattern-test.true c.pattern-item.is (sym c.pattern_unsupported.ensures ∙ c.if-pattern_unsupported.true)
    ∙ sym (patterns_any (map pattern_view c.args.patterns.now))

pub some_unsupported-returns : goal.some_unsupported-returns
some_unsupported-returns t c =
    any_none pattern_view _ c.args.patterns.now c.loop-pattern.pattern-index (omega arith) c.loop-pattern.invariant ∙ sym (patterns_any (map pattern_view c.args.patterns.now))

pub fields_unsupported-returns-then-field_unsupported : goal.fields_unsupported-returns-then-field_unsupported
fields_unsupported-returns-then-field_unsupported t c =
    any_found field_view _ c.args.fields.now c.loop-field.field-index c.field-item.result c.loop-field-test.true c.field-item.is (sym c.field_unsupported.ensures ∙ c.if-field_unsupported.true)
    ∙ sym (fields_any (map field_view c.args.fields.now))

pub fields_unsupported-returns : goal.fields_unsupported-returns
fields_unsupported-returns t c =
    any_none field_view _ c.args.fields.now c.loop-field.field-index (omega arith) c.loop-field.invariant ∙ sym (fields_any (map field_view c.args.fields.now))
