use Rattle.std.proofs.Common.{◌≡◌, true, false, ℕ, map, Option, ap, sym, ◌∙◌}
use Rattle.match_model.specs.Types.{MType}
use Rattle.match_model.specs.Declarations.{MProgram}
use Rattle.match_model.specs.Constructors.{SingleCtor}
use Rattle.match_model.specs.RustTypes.{rust_arity}
use Rattle.decl_syntax.specs.Patterns.{pattern_view, patterns_from}
use Rattle.type_table.specs.Tables.{table_type, table_program}
use Rattle.pattern_rules.specs.Settings.{bottom_type, program}
use Rattle.pattern_rules.specs.NodeRules.{is_tuple, has_other_count}
use Rattle.pattern_check.specs.NodeForms.{pick}
use Rattle.pattern_check.proofs.OwnFaults.{tuple_wrong, tuple_rules}
use Rattle.pattern_check.proofs.form_faults.tuple_fault.Goals as goal

pub returns-then-not-is_tuple : goal.returns-then-not-is_tuple
returns-then-not-is_tuple c = λ edition standing m twice s at before is e tw.
    let t = table_type c.args.table.now c.args.ty in
    let other : false ≡ is_tuple (bottom_type t) = sym c.if-not-is_tuple.true ∙ (c.is_tuple.ensures ∙ ap (λ (u : MType). is_tuple u) c.bottom_type-met.ensures.is) in
    tuple_wrong s at standing t m before (patterns_from (map pattern_view c.args.items.now)) other

pub returns : goal.returns
returns c = λ edition standing m twice s at before is e tw.
    let t = table_type c.args.table.now c.args.ty in
    let ps = patterns_from (map pattern_view c.args.items.now) in
    let tuple : true ≡ is_tuple (bottom_type t) = sym c.if-not-is_tuple.false ∙ (c.is_tuple.ensures ∙ ap (λ (u : MType). is_tuple u) c.bottom_type-met.ensures.is) in
    let count : c.fields.result ≡ rust_arity (table_program c.args.table.now) SingleCtor (table_type c.args.table.now c.bottom_type-met.result) = c.fields.ensures in
    tuple_rules s at standing t m before ps c.has_other_count.result c.has_rests.result c.pick.result tuple
    (c.has_other_count.ensures
    ∙ ap (λ (n : ℕ). has_other_count ps n)
    (count ∙ (ap (λ (p : MProgram). rust_arity p SingleCtor (table_type c.args.table.now c.bottom_type-met.result)) is.program
    ∙ ap (λ (u : MType). rust_arity (program s) SingleCtor u) c.bottom_type-met.ensures.is)))
    c.has_rests.ensures
    (c.pick.ensures ∙ ap (λ (r : Option ℕ). pick c.has_other_count.result 23 r) c.pick-rests.ensures)
