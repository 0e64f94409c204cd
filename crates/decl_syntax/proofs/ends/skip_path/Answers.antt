use Rattle.std.proofs.Common.{◌++◌, ◌∷◌, [], refl, sym}
use Rattle.decl_lexer.specs.declared.marks.Mark.TheVariants as marks
use Rattle.decl_syntax.specs.declared.stop.Stop.TheVariants as stops
use Rattle.decl_syntax.specs.Units.{left, token_at}
use Rattle.decl_syntax.specs.EndReading.{segment_of, segment_view, segments_at}
use Rattle.decl_syntax.proofs.ListLemmas.{no_front, parts_stuck, parts_end, parts_go_on}
use Rattle.decl_syntax.proofs.EndLaws.{segment_shrinks}
use Rattle.decl_syntax.proofs.ends.skip_path.Goals as goal

pub parts-init : goal.parts-init
unfolding segments_at
parts-init c = ([], no_front _)

pub returns-in_default : goal.returns-in_default
returns-in_default c = rw (parts_stuck marks.PathSeparator (token_at segment_of) segment_shrinks c.parts.invariant.0 (left c.parts.rest) (segments_at (left c.args.at)) c.parts.invariant.1 stops.Syntax (sym c.in_default.ensures)) refl

pub parts-preserved : goal.parts-preserved
parts-preserved c = (c.parts.invariant.0 ++ segment_view c.in-Some.field-0-0.now c.in-Some.field-0-1 ∷ [], parts_go_on marks.PathSeparator (token_at segment_of) segment_shrinks c.parts.invariant.0 (left c.parts.rest) (segments_at (left c.args.at)) c.parts.invariant.1 _ _ _ (sym c.in-Some.ensures) c.in-Some-behind.ensures)

pub returns-in-None : goal.returns-in-None
returns-in-None c = rw (parts_end marks.PathSeparator (token_at segment_of) segment_shrinks c.parts.invariant.0 (left c.parts.rest) (segments_at (left c.args.at)) c.parts.invariant.1 _ _ (sym c.in-Some.ensures) c.in-None.ensures) refl
