use Rattle.std.proofs.Common.{◌<◌, ◌++◌, ◌+◌, ◌∙◌, take, drop, length, ap, sym, subst, append_assoc}
use Rattle.keyed_matrix.specs.Views.{plain_run, plain_heads}
use Rattle.keyed_matrix.proofs.HeadRuns.{replaced-there, rest-of}
use Rattle.keyed_matrix.proofs.heads.replaced_heads.Goals as goal

pub returns : goal.returns
returns g c =
    let xs = c.args.heads.now in
    let new = plain_heads c.args.new.now in
    let k = c.run_of-k.result.0 in
    let left = c.run_of-k.result.1 in
    let x = c.index-heads-k.result in
    let last = plain_heads (drop (k + 1) xs) in
    let end = drop (left + 1) (plain_run x) in
    let start = plain_heads (take k xs) ++ take left (plain_run x) in
    let one = c.in_ok-extend_from_slice.ensures.items ∙ ap (λ ys. ys ++ take k xs) c.in_ok-all.ensures.items in
    let two = c.in_ok-add_start.ensures ∙ ap (λ ys. plain_heads ys ++ take left (plain_run x)) one in
    let three = c.in_ok-add_rest.ensures ∙ ap (λ hs. hs ++ new) two in
    let four = c.in_ok-add_end.ensures ∙ ap (λ hs. hs ++ end) three in
    c.in_ok-add_rest-2.ensures ∙ ap (λ ys. plain_heads c.add_end.new.all.items ++ plain_heads ys) (rest-of k xs)
    ∙ ap (λ hs. hs ++ last) four ∙ append_assoc (start ++ new) end last
    ∙ replaced-there xs k left c.args.i x c.run_of-k.ensures.within c.index-heads-k.is c.run_of-k.ensures.before
    (subst (λ y. left < length (plain_run y)) (sym c.index-heads-k.is) (c.run_of-k.ensures.inside x)) new
