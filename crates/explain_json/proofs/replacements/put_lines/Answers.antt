use Rattle.std.proofs.Common.{◌≡◌, ◌∙◌, ap, ◌++◌, map, string_bytes, rules}
use Rattle.std.specs.Prelude.{flat_map}
use Rattle.explain_json.specs.Replacements.{comma_text, put_line, put_lines}
use Rattle.explain_json.proofs.replacements.put_lines.Goals as goal

pub returns : goal.returns
unfolding put_lines
returns c =
    let begun : string_bytes c.in_ok-text.text ≡ comma_text c.args.comma = search rules in
    c.in_ok-push_put_lines.ensures ∙ ap (λ z. z ++ flat_map put_line (map string_bytes c.args.lines.now)) begun
