use Rattle.std.proofs.Common.{◌≤◌, length, arith}
use Rattle.std.proofs.lemmas.Bool.Decides.{nat_tests}
use Rattle.match_top.specs.Answers.{longest_source, most_taken}
use Rattle.match_top.proofs.Answered.{taken_whole}
use Rattle.match_top.proofs.embedding.front_of.Goals as goal

pub returns-else-source-gt-LONGEST_SOURCE : goal.returns-else-source-gt-LONGEST_SOURCE
unfolding longest_source
returns-else-source-gt-LONGEST_SOURCE c =
    let fits : length c.args.source.now ≤ most_taken = grind (arith, nat_tests) in taken_whole c.args.source.now fits
