use Rattle.std.proofs.Common.{◌≡◌, [], map, ap, ◌∙◌}
use Rattle.std.proofs.lemmas.Result.{IfOk-weaker}
use Rattle.match_model.specs.ArenaPatterns.{MDePat, de_pat, no_de_pats}
use Rattle.pat_context.specs.Views.{plain_ctor}
use Rattle.pattern_arena.specs.Trees.{tree}
use Rattle.type_table.specs.declared.table.TyId.{TyId}
use Rattle.type_table.specs.Tables.{table_type}
use Rattle.pattern_rules.specs.Shown.{settled}
use Rattle.pattern_elaboration.specs.Placed.{wrapped}
use Rattle.pattern_elaboration.specs.Walking.{plain}
use Rattle.pattern_elaboration.proofs.literals.leaf_behind.Goals as goal

pub returns-clause-shown : goal.returns-clause-shown
returns-clause-shown c =
    let table = c.args.table.now in
    let levels = map (table_type table) c.args.peeled.levels.items in
    IfOk-weaker c.wrap.result
    (λ p. settled (table_type table) 0 (tree p) ≡ wrapped levels
    (settled (table_type table) 0 (tree c.in_ok-below.below)))
    (λ p. plain table p ≡ wrapped levels (de_pat (plain_ctor c.args.ctor)
    (table_type table c.args.peeled.place.ty) 0 c.args.at no_de_pats []))
    (λ p e. e ∙ ap (λ (q : MDePat TyId). wrapped levels (settled (table_type table) 0 q)) c.in_ok-below.ensures.tree)
    (c.wrap.ensures.shown (table_type table))
