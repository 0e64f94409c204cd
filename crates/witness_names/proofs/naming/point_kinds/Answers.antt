use Rattle.std.proofs.Common.{◌≡◌, ◌∙◌, ◌++◌, [], ◌∷◌, Bool, Option, Some, None, ap, sym, rules, append_assoc, append-nil}
use Rattle.std.specs.Prelude.{option_map}
use Rattle.match_model.specs.Witness.{PointOf}
use Rattle.type_table.specs.Tables.{table_type}
use Rattle.type_table.specs.declared.table.TyId.{TyId}
use Rattle.witnesses.specs.Views.{plain_witness}
use Rattle.witnesses.specs.declared.witness.Witness.TheFolds.{the_lemmas}
use Rattle.witness_names.specs.Lookups.{pointed, pointed_view}
use Rattle.witness_names.specs.Points.{point_kinds}
use Rattle.witness_names.proofs.Points.{kinds_step, kinds_end}
use Rattle.witness_names.proofs.naming.point_kinds.Goals as goal

pub loop-here-preserved : goal.loop-here-preserved
loop-here-preserved c =
    let table = c.args.table.now in
    let t = table_type table c.loop-here.behind in
    let u = table_type table c.in-Some.next in
    let m = c.in-Some.mutable in
    let next = plain_witness c.deref-here.result.now in
    let kinds = c.loop-here.kinds.items in
    let is : plain_witness c.loop-here.here.now ≡ PointOf next = search (rules, the_lemmas) in
    let there : pointed t ≡ Some (m, u) = sym c.pointed.ensures.is ∙ ap (λ (o : Option (Bool × TyId)). option_map (pointed_view table) o) c.in-Some.is in
    record {
      of = c.in-Some.ensures.of;
      kinds = ap (λ xs. xs ++ point_kinds next u) c.in_ok-push.ensures.items ∙ append_assoc kinds (m ∷ []) (point_kinds next u)
          ∙ ap (λ xs. kinds ++ xs) (sym (kinds_step t u m next (plain_witness c.loop-here.here.now) there is)) ∙ c.loop-here.invariant.kinds;
    }

pub returns-in_default-pointed : goal.returns-in_default-pointed
returns-in_default-pointed c =
    let table = c.args.table.now in
    let t = table_type table c.loop-here.behind in
    let none : pointed t ≡ None = sym c.pointed.ensures.is ∙ ap (λ (o : Option (Bool × TyId)). option_map (pointed_view table) o) c.in_default-pointed.is in
    sym (append-nil c.loop-here.kinds.items) ∙ ap (λ xs. c.loop-here.kinds.items ++ xs) (sym (kinds_end t (plain_witness c.loop-here.here.now) none)) ∙ c.loop-here.invariant.kinds
