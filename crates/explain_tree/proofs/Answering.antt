-- An answer by the tokens of the file.
use Rattle.std.proofs.Common.{ℕ, List, Result, Ok, Err, Vec}
use Rattle.std.specs.declared.alloc.Global.{Global}
use Rattle.explain_places.specs.declared.pieces.Piece.{Piece}
use Rattle.explain_places.specs.Pieces.{ArePieces}
use Rattle.explain_tree.specs.Pictures.{Outcome, Answers, AnswersBy}
use Rattle.explain_tree.specs.declared.pictures.Fault.{Fault}
use Rattle.explain_tree.specs.declared.pictures.Fault.TheVariants.{NoReport, NoTree, NoMemory}

pub answered : (file : List ℕ) (ps : List Piece) (outcome : List Piece → Outcome) (r : Result (Vec ℕ Global) Fault) → ArePieces file ps → Answers (outcome ps) r → AnswersBy file outcome r
answered file ps outcome (Ok picture) p a = (ps, p, a)
answered file ps outcome (Err NoReport) p a = (ps, p, a)
answered file ps outcome (Err NoTree) p a = (ps, p, a)
answered file ps outcome (Err NoMemory) p a = tt
