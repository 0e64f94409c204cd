use Rattle.std.proofs.Common.{◌≡◌, List, [], map, sym, subst, ◌∙◌}
use Rattle.std.proofs.lemmas.Result.{IfOk-weaker}
use Rattle.match_model.specs.ArenaPatterns.{de_pat, de_pats_of}
use Rattle.pattern_arena.specs.declared.pattern.DePat.{DePat}
use Rattle.pattern_arena.specs.Trees.{tree}
use Rattle.pat_context.specs.Views.{plain_ctor}
use Rattle.type_table.specs.declared.table.TyId.{TyId}
use Rattle.type_table.specs.Tables.{IsOf, table_program, table_type}
use Rattle.pattern_rules.specs.Builders.{form}
use Rattle.pattern_elaboration.specs.Given.{trees, given_fields, filled}
use Rattle.pattern_elaboration.specs.Numbered.{AreMade}
use Rattle.pattern_elaboration.specs.Walking.{plain}
use Rattle.pattern_elaboration.specs.Written.{built_there}
use Rattle.pattern_elaboration.proofs.FieldLists.{form_shown, filled_made}
use Rattle.pattern_elaboration.proofs.fields.form_over.Goals as goal

pub returns-clause-shown : goal.returns-clause-shown
returns-clause-shown c =
    let table = c.args.table.now in
    let parts : c.deref.result.now ≡ filled c.args.fields.now c.in_ok-parts.parts.items = c.deref.ensures.value
    ∙ c.fill.ensures in
    IfOk-weaker c.over.result
    (λ p. tree p ≡ de_pat (plain_ctor c.form_ctor-ctor.result) c.args.ty c.wildcards.new.next 0
    (de_pats_of (map tree c.deref.result.now)) [])
    (λ p. plain table p ≡ form (table_program table) c.args.variant
    (built_there (given_fields (table_type table) c.args.fields.now)) (table_type table c.args.ty))
    (λ p e. form_shown (table_type table) (table_program table) c.args.variant c.args.fields.now
    c.in_ok-parts.parts.items c.deref.result.now c.args.ty
    (plain_ctor c.form_ctor-ctor.result) c.wildcards.new.next
    (tree p) c.form_ctor-ctor.ensures c.in_ok-parts.ensures.shown parts e)
    c.over.ensures.tree

pub returns-clause-made : goal.returns-clause-made
returns-clause-made c = λ from h.
    let table = c.args.table.now in
    let parts : c.deref.result.now ≡ filled c.args.fields.now c.in_ok-parts.parts.items = c.deref.ensures.value
    ∙ c.fill.ensures in
    c.over.ensures.made table from c.requires
    (subst (λ (ps : List (DePat TyId)). AreMade (IsOf table) from c.wildcards.new.next (trees ps)) (sym parts)
    (filled_made (IsOf table) from c.args.next.now c.wildcards.new.next c.args.fields.now c.in_ok-parts.parts.items h
    c.in_ok-parts.ensures.made))
