use Rattle.std.proofs.Common.{◌≡◌, ◌++◌, ◌+◌, ◌∙◌, true, length, ap, sym, subst, arith}
use Rattle.std.specs.List.{All}
use Rattle.std.proofs.lemmas.Option.{IfSome_then}
use Rattle.pat_context.specs.Views.{plain_ctor}
use Rattle.pattern_matrix.specs.Sparse.{columns_from, leaf_parts, leaves_listed, head_has, AreParts}
use Rattle.usefulness.specs.Children.{opened}
use Rattle.usefulness.specs.Frames.{IsRowIn, AreOpen, numbers}
use Rattle.usefulness.specs.States.{plain_opens, plain_askeds, child_views, IsListed, apart_rows, apart_leaves, other_numbers, is_noted, scope_of}
use Rattle.usefulness.proofs.Having.{all_listed, all_numbered}
use Rattle.usefulness.proofs.Left.{piece_listed, piece_over, columns_same, columns_open}
use Rattle.usefulness.proofs.entering.piece_child.Goals as goal

pub opened_listing-requires-clause-parts : goal.opened_listing-requires-clause-parts
opened_listing-requires-clause-parts g c =
    let leaves = apart_leaves c.args.a.now in
    let piece = plain_ctor c.args.piece.now in
    let n = (g.C.PatCx.context c.args.cx.now).arity piece c.args.a.now.taken.column.ty in
    let same : n ≡ c.count_parts-count.result = sym c.count_parts-count.ensures.value in
    let written = all_listed (λ l. head_has piece l.head ≡ true → length (leaf_parts n l.head) ≡ n) leaves c.args.leaves.now c.requires.piece.long in
    subst (λ m. All (AreParts m leaves) c.args.leaves.now) same
    (all_numbered (λ l. length (leaf_parts n l.head) ≡ n) leaves c.args.leaves.now (λ k d l. written k d l (c.requires.have k d l)))

pub returns-clause-good : goal.returns-clause-good
returns-clause-good g c =
    let scope = scope_of c.args.reached.now in
    let a = c.args.a.now in
    let piece = plain_ctor c.args.piece.now in
    let n = (g.C.PatCx.context c.args.cx.now).arity piece a.taken.column.ty in
    let parts = c.in_ok-columns.columns.items in
    let columns = c.extend_from_slice.new.self.items in
    let same : n ≡ c.count_parts-count.result = sym c.count_parts-count.ensures.value in
    let longer = c.in_ok-extend_from_slice.ensures.items ∙ ap (λ ys. parts ++ ys) c.deref.ensures.value in
    IfSome_then c.finish.result c.finish.ensures.good
    (λ f good. good scope
    (subst (λ e. AreOpen e (numbers (plain_opens columns))) (sym c.in_ok-end.ensures.number)
    (subst (λ m. AreOpen (a.next + m) (numbers (plain_opens columns))) same
    (columns_open (g.C.PatCx.is_value c.args.cx.now) scope a c.requires.apart (is_noted c.args.reached.now) c.opened_listing.new.reached c.in_ok-listing.listing
    (g.C.PatCx.context c.args.cx.now) piece c.args.missing c.requires.piece parts c.in_ok-columns.ensures.numbers c.in_ok-columns.ensures.places columns longer)))
    (subst (λ ns. All (IsRowIn scope ns) (plain_askeds c.in_ok-listing.listing.rows.items))
    (ap (λ m. columns_from a.next m ++ other_numbers a) (sym same) ∙ sym (columns_same (g.C.PatCx.is_value c.args.cx.now) scope a c.requires.apart (is_noted c.args.reached.now) c.opened_listing.new.reached c.in_ok-listing.listing
    (g.C.PatCx.context c.args.cx.now) piece c.args.missing c.requires.piece parts c.in_ok-columns.ensures.numbers c.in_ok-columns.ensures.places columns longer))
    c.in_ok-listing.ensures.rows))

pub returns-clause-listed : goal.returns-clause-listed
returns-clause-listed g c =
    let scope = scope_of c.args.reached.now in
    let a = c.args.a.now in
    let piece = plain_ctor c.args.piece.now in
    let n = (g.C.PatCx.context c.args.cx.now).arity piece a.taken.column.ty in
    let parts = c.in_ok-columns.columns.items in
    let columns = c.extend_from_slice.new.self.items in
    let reached = c.opened_listing.new.reached in
    let old = is_noted c.args.reached.now in
    let listing = c.in_ok-listing.listing in
    let same : n ≡ c.count_parts-count.result = sym c.count_parts-count.ensures.value in
    let longer = c.in_ok-extend_from_slice.ensures.items ∙ ap (λ ys. parts ++ ys) c.deref.ensures.value in
    let leaves = leaves_listed (apart_leaves a) c.args.leaves.now in
    piece_listed (g.C.PatCx.is_value c.args.cx.now) scope a c.requires.apart old reached listing
    (g.C.PatCx.context c.args.cx.now) piece c.args.missing c.requires.piece parts c.in_ok-columns.ensures.numbers c.in_ok-columns.ensures.places columns (child_views c.finish.result) leaves longer c.finish.ensures.views
    (c.requires.enough n)
    (subst (λ m. IsListed scope old reached (columns_from a.next m ++ other_numbers a) (opened c.args.missing a.taken.number a.next m (apart_rows a) leaves) listing) (sym same) c.in_ok-listing.ensures)

pub returns-then-listing-eq0-clause-listed : goal.returns-then-listing-eq0-clause-listed
returns-then-listing-eq0-clause-listed g c =
    let scope = scope_of c.args.reached.now in
    let a = c.args.a.now in
    let context = g.C.PatCx.context c.args.cx.now in
    let piece = plain_ctor c.args.piece.now in
    let n = context.arity piece a.taken.column.ty in
    let reached = c.opened_listing.new.reached in
    let old = is_noted c.args.reached.now in
    let listing = c.in_ok-listing.listing in
    let same : n ≡ c.count_parts-count.result = sym c.count_parts-count.ensures.value in
    let leaves = leaves_listed (apart_leaves a) c.args.leaves.now in
    let none = c.if-listing-eq0.true in
    piece_over (g.C.PatCx.is_value c.args.cx.now) scope a c.requires.apart old reached listing context piece c.args.missing c.requires.piece leaves (omega (arith, none))
    (c.requires.enough n)
    (subst (λ m. IsListed scope old reached (columns_from a.next m ++ other_numbers a) (opened c.args.missing a.taken.number a.next m (apart_rows a) leaves) listing) (sym same) c.in_ok-listing.ensures)
