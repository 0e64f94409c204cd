use Rattle.std.proofs.Common.{◌≡◌, ℕ, ◌+◌, ◌<◌, ◌≤◌, ◌++◌, Bor, Vec, List, [], ◌∷◌, Option, map, rules, ap, sym, subst, ◌∙◌, add-one, string_bytes}
use Rattle.std.specs.Global.{Global}
use Rattle.std.specs.Prelude.{option_map}
use Rattle.std.proofs.lemmas.List.{map-append}
use Rattle.match_model.specs.Declarations.{node_types}
use Rattle.type_table.specs.Tables.{table_program, table_type, type_variant}
use Rattle.value_syntax.specs.declared.value.WrittenField.{WrittenField}
use Rattle.value_syntax.specs.declared.value.WrittenValue.{WrittenValue}
use Rattle.value_syntax.specs.declared.value.WrittenValue.TheFolds.{the_lemmas}
use Rattle.value_syntax.specs.Trees.{FieldTree, written_view, field_view}
use Rattle.witness_names.proofs.PartLists.{part_there, moved, ended, stayed}
use Rattle.witness_names.proofs.ValueLists.{parts_on, fields_on, next_value, no_value, next_named, no_typed, no_named, no_more}
use Rattle.witness_names.proofs.values.+values.Goals as goal
use Rattle.witness_names.proofs.values.+values.Goals.{name_fields-then-i-count+in-Some+in_ok-name+in_ok-value+in_ok-push, name_fields-else-i-count, name_parts-then-i-count+in_ok-value+in_ok-push, name_parts-else-i-count}

pub name_fields-returns-in_default : goal.name_fields-returns-in_default
name_fields-returns-in_default t c =
    let table = c.args.table.now in
    let program = table_program table in
    let v = type_variant program (table_type table c.args.ty) c.args.variant in
    let o = node_types program (table_type table c.args.ty) c.args.variant in
    let none = sym c.field_name.ensures ∙ ap (λ (n : Option (Bor (List ℕ))). option_map (λ s. s.now) n)
    c.in_default.is in
    ended _ _ _ (no_named program v o c.args.parts.now c.loop-part.i c.loop-part.part-index none) c.loop-part.invariant

pub name_fields-field-place-requires-clause-there : goal.name_fields-field-place-requires-clause-there
name_fields-field-place-requires-clause-there t c =
    let table = c.args.table.now in
    part_there (node_types (table_program table) (table_type table c.args.ty) c.args.variant) c.loop-part.i
    (subst (λ n. c.loop-part.i < n) c.fields-count.ensures c.if-i-count.true)

pub name_fields-loop-part-preserved : goal.name_fields-loop-part-preserved
name_fields-loop-part-preserved t c =
    let table = c.args.table.now in
    let program = table_program table in
    let v = type_variant program (table_type table c.args.ty) c.args.variant in
    let o = node_types program (table_type table c.args.ty) c.args.variant in
    let ps = c.args.parts.now in
    let i = c.loop-part.i in
    let k = c.loop-part.part-index in
    elim c.if-i-count.branch [
      | name_fields-then-i-count+in-Some+in_ok-name+in_ok-value+in_ok-push w ↦
          let named = sym w.field_name.ensures ∙ ap (λ (n : Option (Bor (List ℕ))). option_map (λ s. s.now) n)
          w.in-Some.is in
          let next = next_named program o ps i k v c.part-item.result _ (written_view w.in_ok-value.value) _
          c.loop-part-test.true c.part-item.is
          w.field-place.ensures.type_is w.in_ok-value.ensures named in
          let index = w.i-is ∙ add-one i in
          let seen : field_view (record { name = w.in_ok-name.name; value = w.in_ok-value.value })
          ≡ record { name = string_bytes w.in_ok-name.name; value = written_view w.in_ok-value.value } =
          search (rules, the_lemmas) in
          let same : field_view (record { name = w.in_ok-name.name; value = w.in_ok-value.value })
          ≡ record { name = w.in-Some.name.now; value = written_view w.in_ok-value.value } =
          seen ∙ ap (λ n. record { name = n; value = written_view w.in_ok-value.value }) w.in_ok-name.ensures.ok in
          let grown = ap (λ (f : Vec WrittenField Global). map field_view f.items) w.fields-is
          ∙ (ap (map field_view) w.in_ok-push.ensures.items
          ∙ (map-append field_view c.loop-part.fields.items _
          ∙ ap (λ (f : FieldTree). map field_view c.loop-part.fields.items ++ f ∷ []) same)) in
          moved _ _ _ _ _ _ grown (next ∙ ap (λ j. record {
            name = w.in-Some.name.now;
            value = written_view w.in_ok-value.value;
          } ∷ fields_on program v o ps j (k + 1)) (sym index)) c.loop-part.invariant
      | name_fields-else-i-count w ↦
          let past = subst (λ n. n ≤ i) c.fields-count.ensures w.if-i-count.false in
          stayed _ _ _ _ _ (ap (λ (f : Vec WrittenField Global). map field_view f.items) w.fields-is) (no_typed program
          v o ps i k past)
          (ap (λ j. fields_on program v o ps j (k + 1)) w.i-is
          ∙ no_typed program v o ps i (k + 1) past) c.loop-part.invariant
    ]

pub name_fields-returns : goal.name_fields-returns
name_fields-returns t c =
    let table = c.args.table.now in
    let program = table_program table in
    let v = type_variant program (table_type table c.args.ty) c.args.variant in
    let o = node_types program (table_type table c.args.ty) c.args.variant in
    ended _ _ _ (no_more program v o c.args.parts.now c.loop-part.i c.loop-part.part-index c.loop-part-test.false)
    c.loop-part.invariant

pub name_parts-loop-part-preserved : goal.name_parts-loop-part-preserved
name_parts-loop-part-preserved t c =
    let table = c.args.table.now in
    let program = table_program table in
    let o = node_types program (table_type table c.args.ty) c.args.variant in
    let ps = c.args.parts.now in
    let i = c.loop-part.i in
    let k = c.loop-part.part-index in
    elim c.if-i-count.branch [
      | name_parts-then-i-count+in_ok-value+in_ok-push w ↦
          let next = next_value program o ps i k c.part-item.result _ (written_view w.in_ok-value.value)
          c.loop-part-test.true c.part-item.is
          w.field-place.ensures.type_is w.in_ok-value.ensures in
          let index = w.i-is ∙ add-one i in
          let grown = ap (λ (f : Vec WrittenValue Global). map written_view f.items) w.named-is
          ∙ (ap (map written_view) w.in_ok-push.ensures.items
          ∙ map-append written_view c.loop-part.named.items _) in
          moved _ _ _ _ _ _ grown (next ∙ ap (λ j. written_view w.in_ok-value.value
          ∷ parts_on program o ps j (k + 1)) (sym index)) c.loop-part.invariant
      | name_parts-else-i-count w ↦
          let past = subst (λ n. n ≤ i) c.fields-count.ensures w.if-i-count.false in
          stayed _ _ _ _ _ (ap (λ (f : Vec WrittenValue Global). map written_view f.items) w.named-is) (no_value
          program o ps i k past)
          (ap (λ j. parts_on program o ps j (k + 1)) w.i-is
          ∙ no_value program o ps i (k + 1) past) c.loop-part.invariant
    ]
