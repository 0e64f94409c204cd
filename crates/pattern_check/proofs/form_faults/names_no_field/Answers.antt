use Rattle.std.proofs.Common.{◌≡◌, ℕ, not, ◌+◌, Option, List, ap, sym, ◌∙◌, ◌||◌, Bool, drop, arith}
use Rattle.std.specs.Rc.{rc_str_bytes}
use Rattle.std.specs.Prelude.{position, is_none}
use Rattle.std.specs.Str.{bytes_eq}
use Rattle.decl_syntax.specs.declared.tree.FieldPat.{FieldPat}
use Rattle.type_names.specs.NameRules.{is_among}
use Rattle.type_table.specs.Lookups.{field_names}
use Rattle.type_table.specs.Tables.{table_program, table_type, type_variant}
use Rattle.pattern_rules.specs.NodeRules.{some_absent}
use Rattle.pattern_check.proofs.FieldLemmas.{absent_is, absent_from, names_of, drop_past, not_not}
use Rattle.pattern_check.proofs.form_faults.names_no_field.Goals as goal

pub loop-field-preserved : goal.loop-field-preserved
loop-field-preserved c =
    let names = field_names (type_variant (table_program c.args.table.now) (table_type c.args.table.now c.args.ty) c.args.variant) in
    let n = rc_str_bytes c.field-item.result.name in
    let later = some_absent (names_of (drop (c.loop-field.field-index + 1) c.args.fields.now)) names in
    let here : not (is_among n names) ≡ c.is_none.result
    = sym (absent_is n names) ∙ (ap (λ (o : Option ℕ). is_none o) (ap (λ (q : List ℕ). position (λ m. bytes_eq q m) names) (sym c.deref.ensures.value) ∙ sym c.field_named.ensures) ∙ (ap not c.is_none.ensures ∙ not_not c.is_none.result)) in
    sym (absent_from names c.args.fields.now c.loop-field.field-index c.field-item.result (omega arith) c.field-item.is
    ∙ ap (λ (b : Bool). b || later) (here ∙ c.if-is_none.false))
    ∙ c.loop-field.invariant

pub returns-then-is_none : goal.returns-then-is_none
returns-then-is_none c =
    let names = field_names (type_variant (table_program c.args.table.now) (table_type c.args.table.now c.args.ty) c.args.variant) in
    let n = rc_str_bytes c.field-item.result.name in
    let later = some_absent (names_of (drop (c.loop-field.field-index + 1) c.args.fields.now)) names in
    let here : not (is_among n names) ≡ c.is_none.result
    = sym (absent_is n names) ∙ (ap (λ (o : Option ℕ). is_none o) (ap (λ (q : List ℕ). position (λ m. bytes_eq q m) names) (sym c.deref.ensures.value) ∙ sym c.field_named.ensures) ∙ (ap not c.is_none.ensures ∙ not_not c.is_none.result)) in
    sym (absent_from names c.args.fields.now c.loop-field.field-index c.field-item.result (omega arith) c.field-item.is
    ∙ ap (λ (b : Bool). b || later) (here ∙ c.if-is_none.true))
    ∙ c.loop-field.invariant

pub returns : goal.returns
returns c =
    let names = field_names (type_variant (table_program c.args.table.now) (table_type c.args.table.now c.args.ty) c.args.variant) in
    sym (ap (λ (fs : List FieldPat). some_absent (names_of fs) names) (drop_past c.args.fields.now c.loop-field.field-index (omega arith)))
    ∙ c.loop-field.invariant
