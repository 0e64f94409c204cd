use Rattle.std.proofs.Common.{◌≡◌, length, refl, ap, subst, ◌∙◌, arith}
use Rattle.std.specs.List.{All}
use Rattle.pattern_matrix.specs.Sparse.{columns_from}
use Rattle.usefulness.specs.Cutting.{IsCutPart}
use Rattle.usefulness.proofs.children.open_pieces.Goals as goal

pub returns : goal.returns
returns g c =
    let found = c.args.found in
    let count : c.len.result ≡ length found.ctors.items = (let read = c.len.ensures in omega (arith, read, found.ctors.ok.0)) in
    record {
      apart = refl;
      pieces = refl;
      missing = refl;
      spans = refl;
      left = c.in_ok-parts.ensures.pieces ∙ ap (columns_from 0) count;
      parts = λ m. subst (λ ss. All (IsCutPart m found.missing c.args.a ss) c.in_ok-parts.parts.items) c.deref.ensures.value (c.in_ok-parts.ensures.parts m);
    }
