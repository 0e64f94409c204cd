use Rattle.std.proofs.Common.{◌++◌, take, get_or, refl, sym, subst}
use Rattle.pattern_matrix.specs.Sparse.{columns_from, leaves_listed}
use Rattle.pattern_matrix.specs.Views.{plain_leaf}
use Rattle.usefulness.specs.Scope.{IsKnown}
use Rattle.usefulness.specs.Children.{opened, opened_at}
use Rattle.usefulness.specs.States.{IsListed, apart_rows, apart_leaves, other_numbers, is_noted, scope_of}
use Rattle.usefulness.proofs.Dropping.{opened_more}
use Rattle.usefulness.proofs.Reading.{got_at, leaf_within, leaf_known}
use Rattle.usefulness.proofs.Steps.{listed_first}
use Rattle.usefulness.proofs.entering.opened_listing.Goals as goal

pub loop-k-init : goal.loop-k-init
loop-k-init g c =
    let none = c.in_ok-listing.ensures in
    let a = c.args.a.now in
    listed_first (scope_of c.args.reached.now) c.args.reached.now (columns_from a.next c.args.count ++ other_numbers a) c.in_ok-listing.listing refl none.rows none.closed none.kept

pub list_opened-requires-clause-within : goal.list_opened-requires-clause-within
list_opened-requires-clause-within g c =
    leaf_within (scope_of c.args.reached.now) c.args.a.now c.requires.apart (get_or c.args.leaves.now c.loop-k.k-index 0) c.index.result.now
    (c.requires.within c.loop-k.k-index 0 c.loop-k-test.true) c.index.ensures

pub list_opened-requires-clause-parts : goal.list_opened-requires-clause-parts
list_opened-requires-clause-parts g c =
    let k = get_or c.args.leaves.now c.loop-k.k-index 0 in
    c.requires.parts c.loop-k.k-index 0 c.loop-k-test.true (plain_leaf c.index.result.now)
    (got_at plain_leaf c.args.a.now.leaves.items k c.index.result.now (c.requires.within c.loop-k.k-index 0 c.loop-k-test.true) c.index.ensures)

pub list_opened-requires-clause-known : goal.list_opened-requires-clause-known
list_opened-requires-clause-known g c =
    subst (λ n. IsKnown n (plain_leaf c.index.result.now).head) (sym c.loop-k.invariant.known)
    (leaf_known (scope_of c.args.reached.now) c.args.a.now c.requires.apart (get_or c.args.leaves.now c.loop-k.k-index 0) c.index.result.now
    (c.requires.within c.loop-k.k-index 0 c.loop-k-test.true) c.index.ensures)

pub loop-k-preserved : goal.loop-k-preserved
loop-k-preserved g c =
    let a = c.args.a.now in
    let first = c.args.reached.now in
    let inv = c.loop-k.invariant in
    let i = c.loop-k.k-index in
    let leaf = c.index.result.now in
    let k = get_or c.args.leaves.now i 0 in
    let got = got_at plain_leaf a.leaves.items k leaf (c.requires.within i 0 c.loop-k-test.true) c.index.ensures in
    let columns = columns_from a.next c.args.count ++ other_numbers a in
    let through = opened c.args.missing a.taken.number a.next c.args.count (apart_rows a) (leaves_listed (apart_leaves a) (take i c.args.leaves.now)) in
    let at = opened_at c.args.missing a.taken.number a.next c.args.count (apart_rows a) (plain_leaf leaf) in
    let reached = c.list_opened.new.reached in
    let listing = c.list_opened.new.listing in
    subst (λ ys. IsListed (scope_of first) (is_noted first) reached columns ys listing)
    (sym (opened_more c.args.missing a.taken.number a.next c.args.count (apart_rows a) (apart_leaves a) c.args.leaves.now i (plain_leaf leaf) c.loop-k-test.true got))
    (subst (λ n. IsListed n (is_noted first) reached columns (through ++ at) listing) inv.known
    (c.in_ok-list_opened.ensures (is_noted first) through (subst (λ n. IsListed n (is_noted first) c.loop-k.reached columns through c.loop-k.listing) (sym inv.known) inv)))
