use Rattle.match_top.proofs.demo_words.demo_by.Goals as goal

pub returns-in-len2-clause-within : goal.returns-in-len2-clause-within
returns-in-len2-clause-within c = λ n e. let is = (c.demo_number.ensures n).0 e in (is.1, is.2)
