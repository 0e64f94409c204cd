use Rattle.std.proofs.Common.{ap, ◌∙◌, min, max, ◌-◌}
use Rattle.pattern_lints.specs.Meeting.{plain_head, head_front, head_back}
use Rattle.pattern_lints.proofs.Sizes.{ends_written}
use Rattle.pattern_lints.proofs.places.ends.Goals as goal

pub returns : goal.returns
returns g c =
    let h = plain_head c.args.p in
    let k = plain_head c.args.q in
    let n = c.args.n in
    ends_written h k n c.min-front.result c.min-back.result
    (c.min-front.ensures ∙ ap (λ x. min x n) (c.max.ensures ∙ ap (λ x. max x c.front_of-2.result) c.front_of.ensures ∙ ap (max (head_front h)) c.front_of-2.ensures))
    (c.min-back.ensures ∙ ap (λ x. min x (n - c.min-front.result)) (c.max-2.ensures ∙ ap (λ x. max x c.back_of-2.result) c.back_of.ensures ∙ ap (max (head_back h)) c.back_of-2.ensures))
