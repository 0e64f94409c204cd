use Rattle.std.proofs.Common.{subst, List}
use Rattle.explain_places.specs.declared.pieces.Piece.{Piece}
use Rattle.explain_report.specs.Skimming.{read_skimmed}
use Rattle.explain_tree.specs.Pictures.{Answers, outcome_of}
use Rattle.explain_tree.proofs.Answering.{answered}
use Rattle.explain_tree.proofs.pictures.picture.Goals as goal

pub returns : goal.returns
returns c =
    answered c.args.file.now c.in_ok-pieces.pieces.items (outcome_of c.args.file.now c.args.name.now (read_skimmed c.args.json.now)) c.json_drawn.result
    c.in_ok-pieces.ensures.exact
    (subst (λ (ps : List Piece). Answers (outcome_of c.args.file.now c.args.name.now (read_skimmed c.args.json.now) ps) c.json_drawn.result)
    c.as_slice.ensures.value c.json_drawn.ensures)
