use Rattle.std.proofs.Common.{◌≡◌, ◌∙◌, Bool, false, Option, Some, None, ap, sym, rules}
use Rattle.std.specs.Prelude.{option_map}
use Rattle.match_model.specs.Witness.{PointOf}
use Rattle.type_table.specs.Tables.{table_program, table_type}
use Rattle.type_table.specs.declared.table.TyId.{TyId}
use Rattle.witnesses.specs.Views.{plain_witness}
use Rattle.witnesses.specs.declared.witness.Witness.TheFolds.{the_lemmas}
use Rattle.witness_names.specs.Lookups.{pointed, pointed_view}
use Rattle.witnesses.specs.Points.{begins_with_point}
use Rattle.witness_names.proofs.Points.{behind_step, behind_end, behind_last}
use Rattle.witness_names.proofs.naming.behind_points.Goals as goal

pub loop-here-preserved : goal.loop-here-preserved
loop-here-preserved c =
    let table = c.args.table.now in
    let t = table_type table c.loop-here.behind in
    let u = table_type table c.in-Some.next in
    let next = plain_witness c.deref-here.result.now in
    let is : plain_witness c.loop-here.here.now ≡ PointOf next = search (rules, the_lemmas) in
    let there : pointed t ≡ Some (c.in-Some._mutable, u) = sym c.pointed.ensures.is ∙ ap (λ (o : Option (Bool × TyId)). option_map (pointed_view table) o) c.in-Some.is in
    record {
      of = c.in-Some.ensures.of;
      named = λ paths. behind_step paths (table_program table) t u c.in-Some._mutable next (plain_witness c.loop-here.here.now) there is ∙ c.loop-here.invariant.named paths;
      size = search (rules, the_lemmas);
    }

pub returns-in_default-pointed-clause-named : goal.returns-in_default-pointed-clause-named
returns-in_default-pointed-clause-named c paths =
    let table = c.args.table.now in
    let t = table_type table c.loop-here.behind in
    let none : pointed t ≡ None = sym c.pointed.ensures.is ∙ ap (λ (o : Option (Bool × TyId)). option_map (pointed_view table) o) c.in_default-pointed.is in
    sym (behind_end paths (table_program table) t (plain_witness c.loop-here.here.now) none) ∙ c.loop-here.invariant.named paths

pub returns : goal.returns
returns c =
    let table = c.args.table.now in
    let t = table_type table c.loop-here.behind in
    let here = plain_witness c.loop-here.here.now in
    let none : begins_with_point here ≡ false = search (rules, the_lemmas) in
    record {
      of = c.loop-here.invariant.of;
      named = λ paths. sym (behind_last paths (table_program table) t here none) ∙ c.loop-here.invariant.named paths;
      size = c.loop-here.invariant.size;
    }
