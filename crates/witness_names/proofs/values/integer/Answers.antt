use Rattle.std.proofs.Common.{◌≡◌, ◌∙◌, [], rules}
use Rattle.value_syntax.specs.declared.value.WrittenValue.TheFolds.{the_lemmas}
use Rattle.value_syntax.specs.declared.value.WrittenValue.TheVariants as v
use Rattle.value_syntax.specs.Trees.{WrittenInt, written_view}
use Rattle.witness_names.proofs.NumberLemmas.{integer_by_sign}
use Rattle.witness_names.proofs.values.integer.Goals as goal

pub returns : goal.returns
returns c =
    let n = c.args.number.now in
    let seen : written_view (v.Int n.negative n.size c.new.result) ≡ WrittenInt n.negative n.size [] =
    search (rules, the_lemmas) in
    seen ∙ integer_by_sign n.negative n.size n.zero_is_not_negative
