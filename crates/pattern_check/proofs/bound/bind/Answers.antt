use Rattle.std.proofs.Common.{not, ap, ◌∙◌}
use Rattle.pattern_check.proofs.NameLists.{adds_key, text_there}
use Rattle.pattern_check.proofs.FieldLemmas.{not_not}
use Rattle.pattern_check.proofs.bound.bind.Goals as goal

pub returns-clause-twice : goal.returns-clause-twice
returns-clause-twice c =
    ap not c.in_ok-is_new.ensures.added ∙ (not_not _ ∙ text_there c.args.names.now.keys c.args.name)

pub returns-clause-adds : goal.returns-clause-adds
returns-clause-adds c = adds_key c.args.names.now.keys c.args.name c.insert.new.self.keys c.in_ok-is_new.ensures.keys
