use Rattle.std.proofs.Common.{◌≡◌, ℕ, Some, List, rules, ap, ◌∙◌, string_bytes, cond}
use Rattle.std.specs.Prelude.{Option}
use Rattle.std.specs.Str.{bytes_eq}
use Rattle.std.proofs.lemmas.Map.Text.{hash_map_updates_text}
use Rattle.indexmap.specs.IndexMap.{get_by_text}
use Rattle.type_names.specs.declared.targets.Target.{Target}
use Rattle.type_names.specs.FindingViews.{told}
use Rattle.type_names.proofs.FindingLemmas.{told_if}
use Rattle.type_names.proofs.finding.put.Goals as goal

pub returns : goal.returns
returns c = λ q.
    let copied : string_bytes c.in_ok-key.key ≡ c.args.name.now = search rules in
    ap (λ (t : Option Target). told t) (hash_map_updates_text (string_bytes c.in_ok-key.key) c.args.targets.now c.insert.new.self (Some c.args.target) c.in_ok-insert.ensures.updates q)
    ∙ (ap (λ (n : List ℕ). told (cond (bytes_eq n q) (Some c.args.target) (get_by_text c.args.targets.now q))) copied
    ∙ told_if c.args.name.now q c.args.target (get_by_text c.args.targets.now q))
