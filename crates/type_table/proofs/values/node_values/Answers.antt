use Rattle.std.proofs.Common.{◌≡◌, ◌++◌, List, map, ap, ◌∙◌, length}
use Rattle.std.proofs.lemmas.Result.{IfOk-weaker}
use Rattle.horn_clauses.specs.Derivations.{IsLeastModel}
use Rattle.horn_clauses.specs.declared.clause.Clause.{Clause}
use Rattle.type_table.specs.Bodies.{bodies_of, said_from, clause_pair}
use Rattle.type_table.specs.Possible.{TellsValues}
use Rattle.type_table.proofs.ValueLemmas.{clauses_within, tells_values}
use Rattle.type_table.proofs.values.node_values.Goals as goal

pub least_model-requires : goal.least_model-requires
least_model-requires c =
    let all = said_from (bodies_of c.args.sure c.args.items.now) 0 c.args.nodes.now in
    let clauses : map clause_pair c.deref.result.now ≡ all =
    ap (map clause_pair) c.deref.ensures.value ∙ (c.in_ok-add_nodes.ensures ∙ ap (λ (xs : List Clause). map clause_pair xs ++ all) c.in_ok-clauses.ensures.items) in
    clauses_within c.args.sure c.args.nodes.now c.args.items.now c.requires.are c.requires.below c.deref.result.now clauses

pub returns : goal.returns
returns c =
    let all = said_from (bodies_of c.args.sure c.args.items.now) 0 c.args.nodes.now in
    let clauses : map clause_pair c.deref.result.now ≡ all =
    ap (map clause_pair) c.deref.ensures.value ∙ (c.in_ok-add_nodes.ensures ∙ ap (λ (xs : List Clause). map clause_pair xs ++ all) c.in_ok-clauses.ensures.items) in
    IfOk-weaker c.least_model.result
    (λ v. IsLeastModel (length c.args.nodes.now) c.deref.result.now v.items)
    (λ v. TellsValues c.args.sure c.args.nodes.now c.args.items.now v.items)
    (λ v model. tells_values c.args.sure c.args.nodes.now c.args.items.now c.requires.are c.requires.below c.deref.result.now clauses v.items model)
    c.least_model.ensures
