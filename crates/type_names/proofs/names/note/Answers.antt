use Rattle.std.proofs.Common.{◌≡◌, ℕ, Option, Some, List, rules, ap, ◌∙◌, cond, unwrap_or}
use Rattle.std.specs.Rc.{rc_str_bytes}
use Rattle.std.specs.Str.{bytes_eq}
use Rattle.indexmap.specs.Entry.{map_with_value}
use Rattle.type_names.proofs.NameMapLemmas.{map_updates_name}
use Rattle.type_names.specs.NameMaps.{get_by_name}
use Rattle.type_names.specs.Views.{text_of, first_place}
use Rattle.type_names.specs.Meanings.{is_name}
use Rattle.type_names.proofs.Places.{same_functions, with_entry}
use Rattle.type_names.proofs.names.note.Goals as goal

pub returns : goal.returns
returns c =
    let old = get_by_name c.args.places.now in
    let name : List ℕ = rc_str_bytes c.in_ok-copy.copy in
    let named : Some (rc_str_bytes c.in-Some.text.now) ≡ text_of c.args.name = search rules in
    let copied : name ≡ rc_str_bytes c.in-Some.text.now = search rules in
    let value : c.or_insert.result.now ≡ unwrap_or (old name) c.args.at = c.or_insert.ensures.value ∙ ap (λ o. unwrap_or o c.args.at) c.in_ok-places.ensures.value in
    let new = map_with_value c.in_ok-places.field-0 c.or_insert.result.now in
    same_functions (λ q.
    let noted : get_by_name new q ≡ first_place (old q) (is_name q (text_of c.args.name)) c.args.at =
    map_updates_name name c.args.places.now new (Some c.or_insert.result.now) (c.in_ok-places.ensures.update.0 c.or_insert.result.now) q
    ∙ (ap (λ (v : ℕ). cond (bytes_eq name q) (Some v) (old q)) value
    ∙ (with_entry old name q c.args.at
    ∙ ap (λ (n : Option (List ℕ)). first_place (old q) (is_name q n) c.args.at) (ap Some copied ∙ named))) in
    search (rules, noted))
