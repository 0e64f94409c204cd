use Rattle.std.proofs.Common.{true, false, refl, sym, add-zero}
use Rattle.range_split.proofs.Steps.{passes_cut}
use Rattle.range_split.proofs.walk.Walk.pass.Goals as goal

pub returns-then-cut : goal.returns-then-cut
returns-then-cut c =
    passes_cut c.args.cut.now c.args.self.now _ c.piece_before-piece.result c.first-first.result true c.if-cut.true c.first-first.ensures refl refl (sym (add-zero c.args.self.now.ended))
    c.piece_before-piece.ensures

pub returns-else-cut : goal.returns-else-cut
returns-else-cut c =
    passes_cut c.args.cut.now c.args.self.now _ c.piece_before-piece.result c.first-first.result false c.if-cut.false c.first-first.ensures refl (sym (add-zero c.args.self.now.begun)) refl
    c.piece_before-piece.ensures
