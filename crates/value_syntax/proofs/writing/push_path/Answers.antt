use Rattle.std.proofs.Common.{rules, ◌≡◌}
use Rattle.witness_text.specs.Trees.{VariantName}
use Rattle.witness_text.specs.Texts.{name_text}
use Rattle.value_syntax.specs.Trees.{path_view}
use Rattle.value_syntax.proofs.writing.push_path.Goals as goal

pub returns-in-Some : goal.returns-in-Some
unfolding name_text
returns-in-Some c =
    let seen : path_view c.args.path.now ≡ VariantName c.as_str.result.now c.as_str-in-Some.result.now = search rules in
    rw seen c.push_variant.ensures
