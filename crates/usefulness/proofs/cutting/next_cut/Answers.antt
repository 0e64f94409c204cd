use Rattle.std.proofs.Common.{None, Some, [], ◌∷◌, ◌++◌, sym, subst}
use Rattle.pattern_matrix.specs.Parts.{pieces_in}
use Rattle.std.proofs.lemmas.List.Elements.{All-pop}
use Rattle.usefulness.specs.States.{is_noted}
use Rattle.usefulness.specs.Cutting.{IsCutPart, IsCutOff, parts_left}
use Rattle.usefulness.proofs.Trims.{both_off, left_behind}
use Rattle.usefulness.proofs.cutting.next_cut.Goals as goal

pub loop-part-preserved : goal.loop-part-preserved
loop-part-preserved g c =
    let m = is_noted c.args.reached.now in
    let missing = c.args.missing in
    let a = c.args.a.now in
    let spans = c.args.spans.now in
    let before = parts_left c.args.todo.now.items in
    let popped = c.pop.new.self.items in
    let part = c.in-Some.part in
    let after = c.cut_part.new.todo.items in (
      both_off missing a spans m before (parts_left (popped ++ part ∷ [])) (parts_left after) None
          (subst (λ ps. IsCutOff m missing a spans before (parts_left ps) None) c.in-Some.ensures.items c.loop-part.invariant.0)
          (subst (λ z. IsCutOff m missing a spans z (parts_left after) None) (sym (left_behind popped part)) (subst (λ o. IsCutOff m missing a spans (parts_left popped ++ pieces_in part) (parts_left after) o) c.in-None.is c.in_ok-found.ensures.cut)),
      c.in_ok-found.ensures.others (All-pop (IsCutPart m missing a spans) c.loop-part.todo.items popped c.pop.result c.pop.ensures.items c.loop-part.invariant.1).0,
    )

pub returns-in-Some-found-clause-cut : goal.returns-in-Some-found-clause-cut
returns-in-Some-found-clause-cut g c =
    let m = is_noted c.args.reached.now in
    let missing = c.args.missing in
    let a = c.args.a.now in
    let spans = c.args.spans.now in
    let before = parts_left c.args.todo.now.items in
    let popped = c.pop.new.self.items in
    let part = c.in-Some.part in
    let after = c.cut_part.new.todo.items in
    let next = c.in-Some-found.next in
    both_off missing a spans m before (parts_left (popped ++ part ∷ [])) (parts_left after) (Some next)
    (subst (λ ps. IsCutOff m missing a spans before (parts_left ps) None) c.in-Some.ensures.items c.loop-part.invariant.0)
    (subst (λ z. IsCutOff m missing a spans z (parts_left after) (Some next)) (sym (left_behind popped part)) (subst (λ o. IsCutOff m missing a spans (parts_left popped ++ pieces_in part) (parts_left after) o) c.in-Some-found.is c.in_ok-found.ensures.cut))

pub returns-in-Some-found-clause-parts : goal.returns-in-Some-found-clause-parts
returns-in-Some-found-clause-parts g c =
    c.in_ok-found.ensures.others
    (All-pop (IsCutPart (is_noted c.args.reached.now) c.args.missing c.args.a.now c.args.spans.now) c.loop-part.todo.items c.pop.new.self.items c.pop.result c.pop.ensures.items c.loop-part.invariant.1).0
