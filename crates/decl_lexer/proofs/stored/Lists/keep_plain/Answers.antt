use Rattle.std.proofs.Common.{rules, ◌∙◌, false}
use Rattle.decl_lexer.proofs.StoredLemmas.{grew_same, name_shown}
use Rattle.decl_lexer.proofs.stored.Lists.keep_plain.Goals as goal

pub returns-in_ok-number-in-Name-clause-grows : goal.returns-in_ok-number-in-Name-clause-grows
returns-in_ok-number-in-Name-clause-grows c =
    (c.in_ok-number-in-Name.ensures.grew, grew_same c.args.self.now.large.items, grew_same c.args.self.now.integers.items, grew_same c.args.self.now.texts.items)

pub returns-in_ok-number-in-Name-clause-shows : goal.returns-in_ok-number-in-Name-clause-shows
returns-in_ok-number-in-Name-clause-shows c longer g =
    name_shown c.put_recent.new.names.keys longer.names.keys _ c.in_ok-number-in-Name.number false c.in_ok-number-in-Name.ensures.entry g.0 ∙ search rules
