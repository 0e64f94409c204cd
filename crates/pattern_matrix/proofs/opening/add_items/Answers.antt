use Rattle.std.proofs.Common.{◌≡◌, ◌+◌, ◌-◌, ◌++◌, map, take, min, length, Some, arith, append_assoc, List, ap, sym, ◌∙◌}
use Rattle.pattern_arena.specs.declared.pattern.DePat.{DePat}
use Rattle.pattern_arena.specs.Trees.{tree}
use Rattle.pattern_matrix.specs.Sparse.{listed}
use Rattle.pattern_matrix.specs.Views.{plain_heads}
use Rattle.pattern_matrix.proofs.Listing.{items-listed}
use Rattle.pattern_matrix.proofs.opening.add_items.Goals as goal

pub returns : goal.returns
returns g c =
    let subs = c.args.subs.now in
    let first = c.args.first in
    let cut = c.min-cut.result in
    let next = first + cut + c.saturating_sub-gap.result in
    let count = c.args.count in
    let is_cut : cut ≡ min (length subs) c.args.front = omega arith in
    let is_next : first + (cut + (count - (c.args.front + c.args.back))) ≡ next = omega arith in
    let whole = items-listed {T = g.row.T.Denot} first next c.args.front c.args.back count cut subs is_cut is_next in
    let old = plain_heads c.args.heads.now.items in
    let pats = λ (ps : List (DePat g.row.T.Denot)). map (λ (p : DePat g.row.T.Denot). Some (tree p)) ps in
    let start = c.split_at.result.0.now in
    let end = c.split_at.result.1.now in
    c.in_ok-add_subs-2.ensures
    ∙ ap (λ xs. xs ++ listed next (pats end)) c.in_ok-add_subs.ensures
    ∙ append_assoc old (listed first (pats start)) (listed next (pats end))
    ∙ ap (λ xs. old ++ xs)
    (ap (λ ys. listed first (pats ys) ++ listed next (pats end)) c.split_at.ensures.front
    ∙ ap (λ ys. listed first (pats (take cut subs)) ++ listed next (pats ys)) c.split_at.ensures.back
    ∙ sym whole)
