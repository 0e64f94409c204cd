use Rattle.std.proofs.Common.{sym, ◌∙◌}
use Rattle.pat_context.specs.Views.{plain_ctor}
use Rattle.constructor_sets.specs.Columns.{plain_ctors}
use Rattle.constructor_sets.proofs.KnownSpans.{written_short, more_known}
use Rattle.constructor_sets.proofs.known.known_or_found.Goals as goal

pub span-requires : goal.span-requires
span-requires c = written_short (plain_ctor c.args.head.now) c.requires.head

pub keep-requires : goal.keep-requires
keep-requires c = written_short (plain_ctor c.args.head.now) c.requires.head

pub returns-in-Some-clause-span : goal.returns-in-Some-clause-span
returns-in-Some-clause-span c = c.requires.known (plain_ctor c.args.head.now) c.in-Some.span (sym c.span.ensures ∙ c.in-Some.is)

pub returns-in-None-clause-known : goal.returns-in-None-clause-known
returns-in-None-clause-known c =
    more_known (plain_ctors c.args.pieces.now) (plain_ctor c.args.head.now) c.span_of-span.result c.args.known.now c.keep.new.self c.requires.known c.span_of-span.ensures c.keep.ensures
