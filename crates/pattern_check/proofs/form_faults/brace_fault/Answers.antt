use Rattle.std.proofs.Common.{◌≡◌, Bool, true, false, Option, ℕ, map, ap, sym, ◌∙◌}
use Rattle.std.specs.Prelude.{is_some}
use Rattle.match_model.specs.Types.{MType}
use Rattle.decl_syntax.specs.Patterns.{path_view, field_view, fields_from}
use Rattle.type_names.specs.Finding.{path_finds, found_form, is_found}
use Rattle.type_table.specs.Tables.{table_type}
use Rattle.pattern_rules.specs.Settings.{bottom_type}
use Rattle.pattern_rules.specs.Namings.{found_if, is_short, meets}
use Rattle.pattern_check.specs.NodeForms.{pick}
use Rattle.pattern_check.proofs.FieldLemmas.{path_there}
use Rattle.std.proofs.Common.{List}
use Rattle.decl_syntax.specs.Patterns.{Brace}
use Rattle.pattern_rules.specs.declared.Edition.TheVariants.{E2021}
use Rattle.pattern_rules.specs.Settings.{Setting}
use Rattle.pattern_check.proofs.FieldLemmas.{if_ok}
use Rattle.type_table.specs.Lookups as declared
use Rattle.type_table.specs.Tables.{table_program, type_variant}
use Rattle.pattern_rules.specs.NodeRules.{written_names}
use Rattle.pattern_check.specs.NodeForms.{field_rules, OwnFaultIs}
use Rattle.pattern_check.proofs.NamedFields.{names_in, met_is_named}
use Rattle.pattern_check.proofs.OwnFaults.{brace_unfound, brace_missed, brace_rules}
use Rattle.pattern_check.proofs.form_faults.brace_fault.Goals as goal

pub meets-requires : goal.meets-requires
meets-requires c = record { found = c.path_found-found.ensures.of; of = c.bottom_type-met.ensures.of }

pub field_fault-requires : goal.field_fault-requires
field_fault-requires c =
    let s : Setting = record { items = c.requires.file.0; width = c.requires.file.1; edition = E2021 } in
    let told = found_if (is_short (path_view c.args.path.now)) (path_finds s.items (path_view c.args.path.now)) in
    let f = c.path_found-found.ensures.is s c.requires.file.2 in
    let u = table_type c.args.table.now c.bottom_type-met.result in
    record {
      of = c.bottom_type-met.ensures.of;
      named = met_is_named told u (sym (c.meets.ensures told f) ∙ c.if-not-meets.false);
    }

pub returns-then-not-is_found : goal.returns-then-not-is_found
returns-then-not-is_found c = λ edition standing m twice s at before is e tw.
    let path = path_view c.args.path.now in
    let told = found_if (is_short path) (path_finds s.items path) in
    let t = table_type c.args.table.now c.args.ty in
    let f = c.path_found-found.ensures.is s is in
    brace_unfound s at standing t m before path (fields_from (map field_view c.args.fields.now)) c.args.rest c.in_ok-names_field_twice.field-0 c.pick.result
    (sym c.if-not-is_found.true ∙ c.is_found.ensures told f) c.in_ok-names_field_twice.ensures
    (c.pick.ensures ∙ (ap (λ (b : Bool). pick b 20 c.pick-unread.result) c.is_short.ensures ∙ ap (λ (r : Option ℕ). pick (is_short path) 20 r) c.pick-unread.ensures))

pub returns-then-not-meets : goal.returns-then-not-meets
returns-then-not-meets c = λ edition standing m twice s at before is e tw.
    let path = path_view c.args.path.now in
    let told = found_if (is_short path) (path_finds s.items path) in
    let t = table_type c.args.table.now c.args.ty in
    let f = c.path_found-found.ensures.is s is in
    let found : true ≡ is_found told = sym c.if-not-is_found.false ∙ c.is_found.ensures told f in
    let met : false ≡ meets told (bottom_type t) = sym c.if-not-meets.true ∙ (c.meets.ensures told f ∙ ap (λ (u : MType). meets told u) c.bottom_type-met.ensures.is) in
    brace_missed s at standing t m before path (fields_from (map field_view c.args.fields.now)) c.args.rest found met

pub returns : goal.returns
returns c = λ edition standing m twice.
    let t = table_type c.args.table.now c.args.ty in
    let p = table_program c.args.table.now in
    let u = table_type c.args.table.now c.bottom_type-met.result in
    let fs = fields_from (map field_view c.args.fields.now) in
    let path = path_view c.args.path.now in
    let rules : Option ℕ → Type 0 = λ r. r ≡ field_rules (declared.field_names (type_variant p u c.found_number.result)) (written_names fs) c.args.rest in
    if_ok c.field_fault.result rules (OwnFaultIs c.args.table.now edition (Brace path fs c.args.rest) standing t m twice)
    (λ r h s at before is e tw.
    let told = found_if (is_short path) (path_finds s.items path) in
    let f = c.path_found-found.ensures.is s is in
    let found : true ≡ is_found told = sym c.if-not-is_found.false ∙ c.is_found.ensures told f in
    let meet : meets told u ≡ true = sym (c.meets.ensures told f) ∙ c.if-not-meets.false in
    let met : true ≡ meets told (bottom_type t) = sym meet ∙ ap (λ (v : MType). meets told v) c.bottom_type-met.ensures.is in
    let there : is_some (found_form s.items told) ≡ true = path_there s.items path (is_short path) found in
    let names = names_in p s.items s.width told u is.program there (c.types_are_sound.ensures.types c.bottom_type-met.result c.bottom_type-met.ensures.of) meet in
    brace_rules s at standing t m before path fs c.args.rest r found met
    (h
    ∙ (ap (λ (k : ℕ). field_rules (declared.field_names (type_variant p u k)) (written_names fs) c.args.rest) (c.found_number.ensures told f)
    ∙ ap (λ (ns : List (List ℕ)). field_rules ns (written_names fs) c.args.rest) (sym names))))
    c.field_fault.ensures
