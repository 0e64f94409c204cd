use Rattle.std.proofs.Common.{sym, subst}
use Rattle.std.specs.Prelude.{IsTrue}
use Rattle.std.specs.List.{All}
use Rattle.match_model.specs.Constructors.{MSet}
use Rattle.constructor_sets.specs.Columns.{is_head, plain_ctors}
use Rattle.constructor_sets.proofs.Sharp.{sharp_heads}
use Rattle.constructor_sets.proofs.column.found_by_set.Goals as goal

pub set_pieces-requires-clause-column : goal.set_pieces-requires-clause-column
set_pieces-requires-clause-column g c =
    subst (λ (x : MSet). All (λ h. IsTrue (is_head x h)) (plain_ctors c.args.heads.now)) (sym c.set.ensures)
    (sharp_heads ((g.C.PatCx.context c.args.cx.now).set_of c.args.ty) (plain_ctors c.args.heads.now) c.requires.heads)
