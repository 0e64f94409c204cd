use Rattle.std.proofs.Common.{◌≡◌, ◌∙◌, sym, true, arith}
use Rattle.std.proofs.lemmas.Grind.{common_steps}
use Rattle.match_model.specs.Rows.{is_wild}
use Rattle.pattern_matrix.specs.Views.{plain_row, plain_leaf}
use Rattle.pattern_matrix.proofs.Getting.{got}
use Rattle.pattern_matrix.proofs.opening.add_dropped.Goals as goal

pub returns-in_ok-push : goal.returns-in_ok-push
returns-in_ok-push g c =
    let here = got plain_row c.args.rows.now c.args.leaf.now.row c.index-rows-leaf.result c.requires.within c.index-rows-leaf.is in
    let wild : is_wild (plain_leaf c.args.leaf.now).head ≡ true = sym c.is_wild_leaf.ensures ∙ c.if-is_wild_leaf.true in
    rw (wild, here) (grind (arith, common_steps))
