use Rattle.std.proofs.Common.{◌≡◌, ◌<◌, List, [], ◌∷◌, take, length, get_or, None, sym, subst, arith}
use Rattle.std.proofs.lemmas.List.{take_all, get_or_default}
use Rattle.match_model.specs.declared.Mode.TheVariants.{Move}
use Rattle.pattern_rules.specs.OtherRules.{BoundName}
use Rattle.pattern_check.specs.declared.held.Bound.{Bound}
use Rattle.pattern_check.specs.BoundSets.{bound_view, bounds_view, Binds}
use Rattle.pattern_check.proofs.SetLemmas.{binds_key, binds_both, held_key, held_at, one_more_bound}
use Rattle.pattern_check.proofs.held.add_all.Goals as goal

pub loop-bound-preserved : goal.loop-bound-preserved
loop-bound-preserved c =
    let table = c.args.table.now in
    let i = c.loop-bound.bound-index in
    let d : Bound = record { name = record { ref_ptr = (0, 0); now = [] }; held = record { ty = record { index = 0 }; length = None }; mode = Move } in
    let k : Bound = get_or c.args.more.now i d in
    let lt : i < length c.args.more.now = omega arith in
    let at : k ≡ get_or c.args.more.now i k = get_or_default c.args.more.now i d k lt in
    let old = bounds_view table c.args.bounds.now.keys in
    let cur = bounds_view table c.loop-bound.bounds.keys in
    let new = bounds_view table c.insert.new.self.keys in
    record {
      held = held_key table c.loop-bound.bounds.keys k c.insert.new.self.keys c.in_ok-insert.ensures.keys c.loop-bound.invariant.held (held_at table c.args.more.now i k lt at c.requires.more);
      binds = subst (λ (bs : List BoundName). Binds old new bs) (sym (one_more_bound table c.args.more.now i k lt at))
          (binds_both old cur new (bounds_view table (take i c.args.more.now)) (bound_view table k ∷ []) c.loop-bound.invariant.binds
          (binds_key table c.loop-bound.bounds.keys k c.insert.new.self.keys c.in_ok-insert.ensures.keys));
    }

pub returns-clause-binds : goal.returns-clause-binds
returns-clause-binds c =
    let table = c.args.table.now in
    subst (λ (ks : List Bound). Binds (bounds_view table c.args.bounds.now.keys) (bounds_view table c.loop-bound.bounds.keys) (bounds_view table ks))
    (take_all c.loop-bound.bound-index c.args.more.now (omega arith)) c.loop-bound.invariant.binds
