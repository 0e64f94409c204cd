use Rattle.std.proofs.Common.{ap, sym, ◌∙◌}
use Rattle.match_model.specs.declared.Width.{Width}
use Rattle.match_model.specs.Types.{MType}
use Rattle.number_kinds.specs.Kinds.{kind_type}
use Rattle.decl_syntax.specs.Patterns.{lit_view}
use Rattle.type_table.specs.Tables.{table_type}
use Rattle.pattern_rules.specs.Literals.{is_outside}
use Rattle.pattern_check.proofs.TypeLemmas.{number_type, not_outside}
use Rattle.pattern_check.proofs.literal_faults.number_outside.Goals as goal

pub returns-in-Some : goal.returns-in-Some
returns-in-Some c = λ s is.
    let t = table_type c.args.table.now c.args.ty in
    let l = lit_view c.args.lit.now in
    c.is_outside.ensures
    ∙ (ap (λ (w : Width). is_outside w (kind_type c.in-Some.kind) l) (c.width.ensures ∙ is.width_is)
    ∙ ap (λ (u : MType). is_outside s.width u l) (sym (number_type t c.in-Some.kind c.in-Some.ensures)))

pub returns-in-None : goal.returns-in-None
returns-in-None c = λ s is. not_outside s.width (table_type c.args.table.now c.args.ty) (lit_view c.args.lit.now) c.in-None.ensures
