use Rattle.std.proofs.Common.{◌≡◌, ◌∙◌, ap, sym, List, Bool, [], ◌∷◌, ◌++◌, rules}
use Rattle.witness_text.specs.Trees.{OfPoint, witness_view}
use Rattle.witness_text.specs.declared.named.NamedWitness.TheViews as w
use Rattle.witness_text.specs.declared.named.NamedWitness.TheFolds.{the_lemmas}
use Rattle.witness_names.specs.Points.{put_behind}
use Rattle.witness_names.proofs.Points.{inside}
use Rattle.witness_names.proofs.naming.put_behind.Goals as goal

pub loop-mutable-preserved : goal.loop-mutable-preserved
loop-mutable-preserved c =
    let kinds = c.pop.new.self.items in
    let last = witness_view c.loop-mutable.all in
    let popped : c.loop-mutable.kinds.items ≡ kinds ++ c.in-Some.mutable ∷ [] = c.in-Some.ensures.items in
    let new : witness_view (w.Point c.in-Some.mutable c.in_ok-new.field-0) ≡ OfPoint c.in-Some.mutable last = search (rules, the_lemmas) in
    ap (put_behind kinds) new ∙ sym (inside kinds c.in-Some.mutable last) ∙ sym (ap (λ (ks : List Bool). put_behind ks last) popped) ∙ c.loop-mutable.invariant
