use Rattle.std.proofs.Common.{◌++◌, ◌∷◌, [], refl, sym}
use Rattle.decl_lexer.specs.declared.marks.Mark.TheVariants as marks
use Rattle.decl_syntax.specs.declared.stop.Stop.TheVariants as stops
use Rattle.decl_syntax.specs.Units.{left}
use Rattle.decl_syntax.proofs.ListLemmas.{no_front, parts_stuck, parts_end, parts_go_on}
use Rattle.decl_parser.specs.DeclarationReading.{lifetime_at, bounds_at}
use Rattle.decl_parser.proofs.ParamLaws.{lifetimes_shrink, lifetime_some, lifetime_none}
use Rattle.decl_parser.proofs.params.skip_bounds.Goals as goal

pub bounds-init : goal.bounds-init
unfolding bounds_at
bounds-init c = ([], no_front _)

pub returns-in_default : goal.returns-in_default
returns-in_default c =
    rw (parts_stuck marks.Plus lifetime_at lifetimes_shrink c.bounds.invariant.0 (left c.bounds.rest) (bounds_at (left c.args.at)) c.bounds.invariant.1 stops.Syntax (lifetime_none (left c.bounds.rest) (sym c.in_default.ensures))) refl

pub bounds-preserved : goal.bounds-preserved
bounds-preserved c = (
  c.bounds.invariant.0 ++ tt ∷ [],
  parts_go_on marks.Plus lifetime_at lifetimes_shrink c.bounds.invariant.0 (left c.bounds.rest) (bounds_at (left c.args.at)) c.bounds.invariant.1 _ _ _
      (lifetime_some (left c.bounds.rest) _ (sym c.in-Some.ensures)) c.in-Some-behind.ensures,
)

pub returns-in-None : goal.returns-in-None
returns-in-None c =
    rw (parts_end marks.Plus lifetime_at lifetimes_shrink c.bounds.invariant.0 (left c.bounds.rest) (bounds_at (left c.args.at)) c.bounds.invariant.1 _ _
    (lifetime_some (left c.bounds.rest) _ (sym c.in-Some.ensures)) c.in-None.ensures) refl
