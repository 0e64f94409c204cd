use Rattle.std.proofs.Common.{◌≡◌, List, Bool, true, false, map, length, sym, ap, subst, ◌∙◌, arith, vec_len}
use Rattle.std.proofs.lemmas.List.{length-map}
use Rattle.match_model.specs.Match.{is_empty_list}
use Rattle.match_model.specs.Unreachable.{Entry}
use Rattle.pattern_arena.specs.Trees.{plain_arm, plain_match}
use Rattle.pattern_matrix.specs.Counting.{Question, to_arm}
use Rattle.pattern_matrix.specs.SearchLaws.{IsJudged}
use Rattle.witnesses.specs.Views.{plain_witness}
use Rattle.witness_search.specs.Entries.{plain_entries}
use Rattle.witness_search.proofs.Plain.{empty_test}
use Rattle.witness_search.proofs.judge.judge_by.Goals as goal

pub returns : goal.returns
returns g c =
    let cx = c.args.cx.now in
    let m = plain_match c.args.m.now in
    let is_marked : Question → Bool = g.M.Marked.is_marked c.args.marks.now in
    let found = c.in_ok-witnesses.witnesses in
    let ws = map plain_witness found.items in
    let count : length m.arms ≡ length c.args.m.now.arms.now = length-map c.args.m.now.arms.now plain_arm in
    let empty : c.is_empty.result ≡ is_empty_list ws = c.is_empty.ensures ∙ empty_test plain_witness (vec_len found) found.items (omega (arith, found.ok.0)) in
    let judged = c.judged_by_marks.ensures m is_marked ws c.requires.typed c.matches_are_made.ensures c.requires.reached
    (λ h. c.in_ok-witnesses.ensures.missed (subst (λ n. is_marked (to_arm n) ≡ true) count h))
    (λ h. ap (map plain_witness) (c.in_ok-witnesses.ensures.none (subst (λ n. is_marked (to_arm n) ≡ false) count h))) in
    subst (λ b. IsJudged (g.C.PatCx.is_value cx) (g.C.PatCx.context cx) m b (plain_entries c.in_ok-unreachable.unreachable.items) ws) (sym empty)
    (subst (λ (es : List Entry). IsJudged (g.C.PatCx.is_value cx) (g.C.PatCx.context cx) m (is_empty_list ws) es ws) (sym c.in_ok-unreachable.ensures) judged)
