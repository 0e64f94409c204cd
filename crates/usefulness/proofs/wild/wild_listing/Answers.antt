use Rattle.std.proofs.Common.{◌≡◌, ◌<◌, ◌++◌, length, take, get_or, refl, sym, subst}
use Rattle.pattern_matrix.specs.Views.{plain_leaf, plain_leaves}
use Rattle.usefulness.specs.Children.{dropped, dropped_at}
use Rattle.usefulness.specs.States.{IsListed, apart_rows, other_numbers, is_noted, scope_of}
use Rattle.usefulness.proofs.Dropping.{dropped_more}
use Rattle.usefulness.proofs.Reading.{leaf_within}
use Rattle.usefulness.proofs.Steps.{listed_first}
use Rattle.usefulness.proofs.wild.wild_listing.Goals as goal

pub loop-leaf-init : goal.loop-leaf-init
loop-leaf-init g c =
    let none = c.in_ok-listing.ensures in
    listed_first (scope_of c.args.reached.now) c.args.reached.now (other_numbers c.args.a.now) c.in_ok-listing.listing refl none.rows none.closed none.kept

pub list_wild-requires-clause-within : goal.list_wild-requires-clause-within
list_wild-requires-clause-within g c =
    let i = c.loop-leaf.leaf-index in
    let leaf = c.leaf-item.result in
    let same = c.deref-leaf-items.ensures.value in
    leaf_within (scope_of c.args.reached.now) c.args.a.now c.requires.apart i leaf
    (subst (λ ls. i < length ls) same c.loop-leaf-test.true) (subst (λ ls. leaf ≡ get_or ls i leaf) same c.leaf-item.is)

pub loop-leaf-preserved : goal.loop-leaf-preserved
loop-leaf-preserved g c =
    let a = c.args.a.now in
    let first = c.args.reached.now in
    let inv = c.loop-leaf.invariant in
    let i = c.loop-leaf.leaf-index in
    let leaf = c.leaf-item.result in
    let same = c.deref-leaf-items.ensures.value in
    let reached = c.list_wild.new.reached in
    let listing = c.list_wild.new.listing in
    let through = dropped a.taken.number (apart_rows a) (plain_leaves (take c.loop-leaf.leaf-index a.leaves.items)) in
    let at = dropped_at a.taken.number (apart_rows a) (plain_leaf c.leaf-item.result) in
    subst (λ ys. IsListed (scope_of first) (is_noted first) reached (other_numbers a) ys listing)
    (sym (dropped_more a.taken.number (apart_rows a) plain_leaf a.leaves.items i leaf
    (subst (λ ls. i < length ls) same c.loop-leaf-test.true) (subst (λ ls. leaf ≡ get_or ls i leaf) same c.leaf-item.is)))
    (subst (λ n. IsListed n (is_noted first) reached (other_numbers a) (through ++ at) listing) inv.known
    (c.in_ok-list_wild.ensures (is_noted first) through (subst (λ n. IsListed n (is_noted first) c.loop-leaf.reached (other_numbers a) through c.loop-leaf.listing) (sym inv.known) inv)))
