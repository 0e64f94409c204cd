use Rattle.std.proofs.Common.{◌≡◌, ℕ, ◌+◌, ◌<◌, ◌≤◌, List, [], ◌∷◌, ◌++◌, Vec, Option, Some, None, Bool, map, chars, string_bytes, length, rules, ap, sym, subst, refl, ◌∙◌, arith, false}
use Rattle.std.specs.Global.{Global}
use Rattle.std.specs.Prelude.{option_map, pos, IfOk}
use Rattle.std.proofs.lemmas.List.{map-append}
use Rattle.std.proofs.lemmas.Result.{IfOk-weaker}
use Rattle.match_model.specs.Declarations.{node_types}
use Rattle.match_model.specs.Types.{MType}
use Rattle.match_model.specs.Values.{MValue}
use Rattle.tree_eval.specs.declared.value.Value.{Value}
use Rattle.tree_eval.specs.Views.{plain_value}
use Rattle.type_table.specs.Tables.{table_program, table_type}
use Rattle.value_syntax.specs.declared.value.WrittenValue.{WrittenValue}
use Rattle.value_syntax.specs.declared.value.WrittenValue.TheFolds.{the_lemmas}
use Rattle.value_syntax.specs.declared.value.WrittenValue.TheVariants as v
use Rattle.value_syntax.specs.Trees.{WrittenTree, WrittenFlag, WrittenChar, WrittenByte, WrittenInt, WrittenStr, WrittenText, WrittenOpaque, WrittenLater, WrittenPoint, WrittenUnitForm, written_view, path_view, values_view, fields_view, field_view}
use Rattle.value_text.specs.Names.{field_found}
use Rattle.value_text.specs.Meanings.{meant, meant_parts, meant_items, meant_fields, node}
use Rattle.value_text.specs.Lookups.{fields_there, plain_values, plain_numbered}
use Rattle.value_text.proofs.FieldsFound.{fields_counted}
use Rattle.value_text.proofs.Readings.{stepped, stopped, finished, next_part, no_part, part_there, parts_differ, next_field, items_of, brace_meant, row_meant, no_row}
use Rattle.value_text.proofs.meaning.+meaning.Goals as goal

pub mean-returns-in-Flag : goal.mean-returns-in-Flag
mean-returns-in-Flag t c =
    let table = c.args.table.now in
    let seen : written_view c.args.written.now ≡ WrittenFlag c.in-Flag.b = search (rules, the_lemmas, c.in-Flag.is) in
    c.flag.ensures c.args.sure ∙ ap (meant (table_program table) c.args.sure (table_type table c.args.ty)) (sym seen)

pub mean-returns-in-Char : goal.mean-returns-in-Char
mean-returns-in-Char t c =
    let table = c.args.table.now in
    let seen : written_view c.args.written.now ≡ WrittenChar c.in-Char.c = search (rules, the_lemmas, c.in-Char.is) in
    c.character.ensures c.args.sure ∙ ap (meant (table_program table) c.args.sure (table_type table c.args.ty)) (sym seen)

pub mean-returns-in-Byte : goal.mean-returns-in-Byte
mean-returns-in-Byte t c =
    let table = c.args.table.now in
    let seen : written_view c.args.written.now ≡ WrittenByte c.in-Byte.b = search (rules, the_lemmas, c.in-Byte.is) in
    c.byte.ensures c.args.sure ∙ ap (meant (table_program table) c.args.sure (table_type table c.args.ty)) (sym seen)

pub mean-returns-in-Int : goal.mean-returns-in-Int
mean-returns-in-Int t c =
    let table = c.args.table.now in
    let made : List ℕ → Option MValue = λ s. meant (table_program table) c.args.sure (table_type table c.args.ty) (WrittenInt c.in-Int.negative c.in-Int.size s) in
    let seen : written_view c.args.written.now ≡ WrittenInt c.in-Int.negative c.in-Int.size (string_bytes c.in-Int.suffix) = search (rules, the_lemmas, c.in-Int.is) in
    c.integer.ensures c.args.sure ∙ (ap made c.deref.ensures ∙ ap (meant (table_program table) c.args.sure (table_type table c.args.ty)) (sym seen))

pub mean-returns-in-Str : goal.mean-returns-in-Str
mean-returns-in-Str t c =
    let table = c.args.table.now in
    let made : List ℕ → Option MValue = λ s. meant (table_program table) c.args.sure (table_type table c.args.ty) (WrittenStr s) in
    let seen : written_view c.args.written.now ≡ WrittenStr (string_bytes c.in-Str.shown) = search (rules, the_lemmas, c.in-Str.is) in
    subst (λ (u : Option MValue). IfOk c.text_behind.result (λ o. option_map plain_value o ≡ u))
    (ap made c.deref-in-Str.ensures ∙ ap (meant (table_program table) c.args.sure (table_type table c.args.ty)) (sym seen)) (c.text_behind.ensures c.args.sure)

pub mean-returns-in-Text : goal.mean-returns-in-Text
mean-returns-in-Text t c =
    let table = c.args.table.now in
    let made : List ℕ → Option MValue = λ s. meant (table_program table) c.args.sure (table_type table c.args.ty) (WrittenText s) in
    let seen : written_view c.args.written.now ≡ WrittenText (string_bytes c.in-Text.shown) = search (rules, the_lemmas, c.in-Text.is) in
    subst (λ (u : Option MValue). IfOk c.text.result (λ o. option_map plain_value o ≡ u))
    (ap made c.deref-in-Text.ensures ∙ ap (meant (table_program table) c.args.sure (table_type table c.args.ty)) (sym seen)) (c.text.ensures c.args.sure)

pub mean-returns-in-Opaque : goal.mean-returns-in-Opaque
mean-returns-in-Opaque t c =
    let table = c.args.table.now in
    let seen : written_view c.args.written.now ≡ WrittenOpaque = search (rules, the_lemmas, c.in-Opaque.is) in
    c.thing.ensures c.args.sure ∙ ap (meant (table_program table) c.args.sure (table_type table c.args.ty)) (sym seen)

pub mean-returns-in-Later : goal.mean-returns-in-Later
mean-returns-in-Later t c =
    let table = c.args.table.now in
    let seen : written_view c.args.written.now ≡ WrittenLater = search (rules, the_lemmas, c.in-Later.is) in
    c.later.ensures c.args.sure ∙ ap (meant (table_program table) c.args.sure (table_type table c.args.ty)) (sym seen)

pub mean-returns-in-Point : goal.mean-returns-in-Point
mean-returns-in-Point t c =
    let table = c.args.table.now in
    let made : WrittenValue → Option MValue = λ w. meant (table_program table) c.args.sure (table_type table c.args.ty) (WrittenPoint c.in-Point.mutable (written_view w)) in
    let seen : written_view c.args.written.now ≡ WrittenPoint c.in-Point.mutable (written_view c.in-Point.inner.value) = search (rules, the_lemmas, c.in-Point.is) in
    IfOk-weaker c.mean_point.result _ _
    (λ o e. e c.args.sure ∙ (ap made c.deref-in-Point.ensures ∙ ap (meant (table_program table) c.args.sure (table_type table c.args.ty)) (sym seen))) c.mean_point.ensures

pub mean-returns-in-UnitForm : goal.mean-returns-in-UnitForm
mean-returns-in-UnitForm t c =
    let table = c.args.table.now in
    let seen : written_view c.args.written.now ≡ WrittenUnitForm (path_view c.in-UnitForm.path) = search (rules, the_lemmas, c.in-UnitForm.is) in
    c.mean_unit.ensures c.args.sure ∙ ap (meant (table_program table) c.args.sure (table_type table c.args.ty)) (sym seen)

pub mean_brace_form-returns : goal.mean_brace_form-returns
mean_brace_form-returns t c =
    let table = c.args.table.now in
    let program = table_program table in
    let ty = table_type table c.args.ty in
    let k = c.in-Some.variant in
    brace_meant program c.args.sure ty (path_view c.args.path.now) (fields_view c.args.fields.now) k c.fields-count.result (fields_there program ty k) c.in-Some-2.given.items
    (option_map (λ (v : Vec Value Global). v.items) c.in_ok-values.values) (option_map plain_value c.node.result) c.in-Some.ensures.fields
    (ap (option_map (λ (v : Vec (ℕ × Value) Global). plain_numbered v.items)) (sym c.in-Some-2.is) ∙ c.in_ok-given.ensures)
    (c.fields-count.ensures ∙ fields_counted program ty k c.in-Some.ensures.brace) c.in_ok-values.ensures
    (c.node.ensures ∙ ap (option_map (node k)) (items_of plain_values c.in_ok-values.values))

pub mean_fields-loop-field-preserved : goal.mean_fields-loop-field-preserved
mean_fields-loop-field-preserved t c =
    let table = c.args.table.now in
    let program = table_program table in
    let fields = fields_there program (table_type table c.args.ty) c.args.variant in
    let item = c.field-item.result in
    let seen : field_view item ≡ record { name = string_bytes item.name; value = written_view item.value } = search (rules, the_lemmas) in
    let at : Some (c.in-Some.i, table_type table c.in-Some.place) ≡ field_found fields (string_bytes item.name) = c.in-Some.ensures.is ∙ ap (field_found fields) c.deref.ensures in
    let value : Some (plain_value c.in-Some-2.value) ≡ meant program c.args.sure (table_type table c.in-Some.place) (written_view item.value)
    = ap (option_map plain_value) (sym c.in-Some-2.is) ∙ c.in_ok-value.ensures in
    stepped (plain_numbered c.loop-field.given.items) (plain_numbered c.push.new.self.items) (c.in-Some.i, plain_value c.in-Some-2.value) _ _ _
    (ap plain_numbered c.in_ok-push.ensures.items ∙ map-append (λ (g : ℕ × Value). (g.0, plain_value g.1)) c.loop-field.given.items _)
    (next_field program c.args.sure fields c.args.fields.now c.loop-field.field-index item c.loop-field-test.true c.field-item.is (string_bytes item.name) (written_view item.value) seen
    c.in-Some.i (table_type table c.in-Some.place) (Some (plain_value c.in-Some-2.value)) at value)
    c.loop-field.invariant

pub mean_parts-returns-then-parts-count : goal.mean_parts-returns-then-parts-count
mean_parts-returns-then-parts-count t c =
    let table = c.args.table.now in
    let o = node_types (table_program table) (table_type table c.args.ty) c.args.variant in
    parts_differ (table_program table) c.args.sure o c.args.parts.now (λ e. absurd (let same : length c.args.parts.now ≡ c.fields-count.result = e ∙ sym c.fields-count.ensures in omega (arith, c.if-parts-count.true, same)))

pub mean_parts-field-place-requires-clause-there : goal.mean_parts-field-place-requires-clause-there
mean_parts-field-place-requires-clause-there t c =
    let table = c.args.table.now in
    let below : c.loop-part.i < c.fields-count.result = omega (arith, c.loop-part.invariant.index, c.loop-part-test.true, c.if-parts-count.false) in
    part_there (node_types (table_program table) (table_type table c.args.ty) c.args.variant) c.loop-part.i (subst (λ n. c.loop-part.i < n) c.fields-count.ensures below)

pub mean_parts-returns-in_default : goal.mean_parts-returns-in_default
mean_parts-returns-in_default t c =
    let table = c.args.table.now in
    let program = table_program table in
    let o = node_types program (table_type table c.args.ty) c.args.variant in
    stopped (plain_values c.loop-part.values.items) _ _
    (next_part program c.args.sure o c.args.parts.now c.loop-part.i c.loop-part.part-index c.part-item.result (table_type table c.field-place.result) None
    c.loop-part-test.true c.part-item.is c.field-place.ensures.type_is (ap (option_map plain_value) (sym c.in_default.is) ∙ c.in_ok-value.ensures))
    c.loop-part.invariant.made

pub mean_parts-loop-part-preserved : goal.mean_parts-loop-part-preserved
mean_parts-loop-part-preserved t c =
    let table = c.args.table.now in
    let program = table_program table in
    let o = node_types program (table_type table c.args.ty) c.args.variant in
    record {
      index = ap (λ n. n + 1) c.loop-part.invariant.index;
      made = stepped (plain_values c.loop-part.values.items) (plain_values c.push.new.self.items) (plain_value c.in-Some.value) _ _ _
          (ap plain_values c.in_ok-push.ensures.items ∙ map-append plain_value c.loop-part.values.items _)
          (next_part program c.args.sure o c.args.parts.now c.loop-part.i c.loop-part.part-index c.part-item.result (table_type table c.field-place.result)
          (Some (plain_value c.in-Some.value)) c.loop-part-test.true c.part-item.is c.field-place.ensures.type_is
          (ap (option_map plain_value) (sym c.in-Some.is) ∙ c.in_ok-value.ensures))
          c.loop-part.invariant.made;
    }

pub mean_parts-returns : goal.mean_parts-returns
mean_parts-returns t c =
    let table = c.args.table.now in
    let program = table_program table in
    let o = node_types program (table_type table c.args.ty) c.args.variant in
    let past : c.fields-count.result ≤ c.loop-part.i = omega (arith, c.loop-part.invariant.index, c.loop-part-test.false, c.if-parts-count.false) in
    finished (plain_values c.loop-part.values.items) _ _
    (no_part program c.args.sure o c.args.parts.now c.loop-part.i c.loop-part.part-index c.loop-part-test.false (subst (λ n. n ≤ c.loop-part.i) c.fields-count.ensures past))
    c.loop-part.invariant.made

pub mean_row-returns-in_default : goal.mean_row-returns-in_default
mean_row-returns-in_default t c =
    let table = c.args.table.now in
    no_row (table_program table) c.args.sure (table_type table c.args.ty) (length c.args.items.now) c.args.items.now c.in_default.ensures.is refl

pub mean_row-returns : goal.mean_row-returns
mean_row-returns t c =
    let table = c.args.table.now in
    row_meant (table_program table) c.args.sure (table_type table c.args.ty) (table_type table c.in-Some.item) (length c.args.items.now) c.args.items.now
    (option_map (λ (v : Vec Value Global). plain_values v.items) c.in_ok-values.values) (option_map plain_value c.row.result) c.in-Some.ensures.is refl c.in_ok-values.ensures c.row.ensures
