use Rattle.std.proofs.Common.{rules, ◌≡◌, ◌∙◌, sym, ap, arith}
use Rattle.decl_syntax.specs.declared.tree.PatKind.TheViews.{out-Pat}
use Rattle.decl_syntax.specs.declared.tree.PatKind.TheFolds.{the_lemmas}
use Rattle.decl_syntax.specs.Patterns.{At, pattern_view, shape_view, fits}
use Rattle.decl_syntax.proofs.ViewLemmas.{fits_at}
use Rattle.decl_syntax.proofs.levels.+levels.Goals as goal

pub fits-returns : goal.fits-returns
fits-returns t c =
    let p = c.args.pattern.now in
    let v : pattern_view p ≡ At (out-Pat p).from (shape_view (out-Pat p).kind) = search (rules, the_lemmas) in
    c.fits_within.ensures ∙ sym (ap (λ q. fits q c.args.levels) v ∙ fits_at (out-Pat p).from (shape_view (out-Pat p).kind) c.args.levels (omega (arith, c.if-levels-eq0.false)))
