use Rattle.std.proofs.Common.{length, refl}
use Rattle.decl_syntax.specs.Patterns.{pattern_view}
use Rattle.pattern_check.proofs.ListLemmas.{other_count}
use Rattle.pattern_check.proofs.counts.has_other_count.Goals as goal

pub returns : goal.returns
returns c = other_count pattern_view c.args.items.now c.args.parts c.rest_count.result (length c.args.items.now) c.rest_count.ensures refl c.counts_differ.ensures
