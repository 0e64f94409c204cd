use Rattle.std.proofs.Common.{sym, subst}
use Rattle.match_top.specs.Reporting.{AsksForFindings}
use Rattle.match_top.proofs.reporting.add_fine.Goals as goal

pub add_judged-requires : goal.add_judged-requires
add_judged-requires g c = (c.requires.0, (c.requires.1, subst AsksForFindings (sym c.in-Check.is) tt))

pub add_judged-requires-in-Trees : goal.add_judged-requires-in-Trees
add_judged-requires-in-Trees g c = (c.requires.0, (c.requires.1, subst AsksForFindings (sym c.in-Trees.is) tt))

pub returns-in-Arms : goal.returns-in-Arms
returns-in-Arms g c = c.add_armed.ensures c.args.command c.in-Arms.is

pub add_armed-requires : goal.add_armed-requires
add_armed-requires g c = (c.requires.0, c.requires.1)

pub returns-in-Check : goal.returns-in-Check
returns-in-Check g c = c.add_judged.ensures

pub returns-in-Trees : goal.returns-in-Trees
returns-in-Trees g c = c.add_judged-in-Trees.ensures
