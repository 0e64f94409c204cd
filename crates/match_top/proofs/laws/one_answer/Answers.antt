use Rattle.match_top.proofs.OneAnswer.{one_answer_of}
use Rattle.match_top.proofs.laws.one_answer.Goals as goal

pub returns : goal.returns
returns c = λ request.
    one_answer_of c.answer_is_one.ensures c.verdict_is_one.ensures c.overlap_list_is_one.ensures c.tree_is_one.ensures c.one_written.ensures request c.one_file.ensures c.one_fault-2.ensures c.file_or_fault.ensures
    c.one_token_list.ensures c.one_fault.ensures c.tokens_or_fault.ensures.not_both
