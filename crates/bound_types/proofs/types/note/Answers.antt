use Rattle.std.proofs.Common.{◌≡◌, ◌∙◌, ℕ, List, Some, ap, cond, rules, string_bytes, sym}
use Rattle.std.proofs.lemmas.Map.Text.{hash_map_updates_text}
use Rattle.indexmap.specs.IndexMap.{get_by_text}
use Rattle.match_model.specs.Texts.{text_eq}
use Rattle.bound_types.proofs.Preorder.{noted_new}
use Rattle.bound_types.proofs.types.note.Goals as goal

pub returns : goal.returns
returns g c = λ q.
    let old = get_by_text c.args.types.now in
    let name = c.args.name.now in
    let written : string_bytes c.in_ok-key.key ≡ name = search rules in
    hash_map_updates_text (string_bytes c.in_ok-key.key) c.args.types.now c.insert.new.self (Some c.copied.result)
    c.in_ok-insert.ensures.updates q
    ∙ ap (λ (n : List ℕ). cond (text_eq n q) (Some c.copied.result) (old q)) written
    ∙ ap (λ (t : g.row.T.Denot). cond (text_eq name q) (Some t) (old q)) c.copied.ensures
    ∙ noted_new old name q c.args.ty.now (sym c.is_noted.ensures ∙ c.if-is_noted.false)
