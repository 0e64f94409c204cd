use Rattle.std.proofs.Common.{◌≡◌, ℕ, Bool, true, false, not, ◌||◌, Option, map, ap, sym, ◌∙◌, arith}
use Rattle.type_names.specs.declared.meanings.FormKind.{FormKind}
use Rattle.type_names.specs.Finding.{found_form}
use Rattle.decl_syntax.specs.Patterns.{pattern_view, patterns_from}
use Rattle.pattern_rules.specs.Namings.{is_tuple_form, fields_found}
use Rattle.pattern_rules.specs.NodeRules.{has_other_count}
use Rattle.pattern_check.proofs.FieldLemmas.{form_found, misfits_many, misfits_few}
use Rattle.pattern_check.proofs.form_faults.misfits_form.Goals as goal

pub returns-then-rest_count-gt1 : goal.returns-then-rest_count-gt1
returns-then-rest_count-gt1 c = λ s told is f m.
    misfits_many s told (patterns_from (map pattern_view c.args.items.now)) c.rest_count.result c.rest_count.ensures c.if-rest_count-gt1.true

pub returns-then-not-is_tuple_form : goal.returns-then-not-is_tuple_form
returns-then-not-is_tuple_form c = λ s told is f m.
    let ps = patterns_from (map pattern_view c.args.items.now) in
    let tuple : is_tuple_form (found_form s.items told) ≡ false
    = ap (λ (o : Option FormKind). is_tuple_form o) (sym (c.form.ensures.form s.items s.width told is f)) ∙ (sym c.is_tuple_form.ensures ∙ c.if-not-is_tuple_form.true) in
    ap not c.if-not-is_tuple_form.true
    ∙ (ap (λ (b : Bool). not b || has_other_count ps (fields_found s.items told)) (sym tuple)
    ∙ misfits_few s told ps c.rest_count.result c.rest_count.ensures (omega arith) (form_found s.items told m.there))

pub returns-else-not-is_tuple_form : goal.returns-else-not-is_tuple_form
returns-else-not-is_tuple_form c = λ s told is f m.
    let ps = patterns_from (map pattern_view c.args.items.now) in
    let tuple : is_tuple_form (found_form s.items told) ≡ true
    = ap (λ (o : Option FormKind). is_tuple_form o) (sym (c.form.ensures.form s.items s.width told is f)) ∙ (sym c.is_tuple_form.ensures ∙ c.if-not-is_tuple_form.false) in
    c.has_other_count.ensures
    ∙ (ap (λ (n : ℕ). has_other_count ps n) (c.field_count.ensures s told is f m)
    ∙ (ap (λ (b : Bool). not b || has_other_count ps (fields_found s.items told)) (sym tuple)
    ∙ misfits_few s told ps c.rest_count.result c.rest_count.ensures (omega arith) (form_found s.items told m.there)))
