use Rattle.std.proofs.Common.{◌≡◌, ◌+◌, length, ap, sym, ◌∙◌, rules}
use Rattle.match_model.specs.Witness.{RowOf, witnesses_list}
use Rattle.witnesses.specs.Views.{plain_witness}
use Rattle.witnesses.specs.declared.witness.Witness.TheFolds.{the_lemmas}
use Rattle.arm_maker.specs.Keys.{ends_count}
use Rattle.arm_maker.proofs.PartKeys.{plain_items, items_counted}
use Rattle.arm_maker.proofs.keys.ends_count.Goals as goal

pub returns-in-Row : goal.returns-in-Row
returns-in-Row c =
    let front = c.in-Row.front.items in
    let back = c.in-Row.back.items in
    let seen : plain_witness c.args.witness.now ≡ RowOf (plain_items front) c.in-Row.longer (plain_items back) =
    search (rules, the_lemmas) in
    let first : c.len.result ≡ length front = search rules in
    let last : c.len-in-Row.result ≡ length back = search rules in
    ap (λ n. n + c.len-in-Row.result) first ∙ ap (λ n. length front + n) last
    ∙ ap (λ n. n + length back) (sym (items_counted front))
    ∙ ap (λ n. length (witnesses_list (plain_items front)) + n) (sym (items_counted back))
    ∙ ap ends_count (sym seen)
