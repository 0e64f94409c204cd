-- Enums that are noted once.
use Rattle.std.proofs.Common.{◌≡◌, ℕ, Bool, true, false, List, [], ◌∷◌, ◌++◌, map, refl, sym, ap, ◌∙◌, rules, cond}
use Rattle.std.specs.List.{list_any}
use Rattle.std.proofs.lemmas.List.{map-append}
use Rattle.indexmap.specs.IndexSet.{insert_key}
use Rattle.match_model.specs.Types.{MOwner}
use Rattle.decl_syntax.specs.Items.{ItemTree}
use Rattle.type_names.specs.declared.meanings.Owner.{Owner}
use Rattle.type_names.specs.contracts.meanings.OwnerPartialEq.TheImpl as owner_eq
use Rattle.type_names.specs.Imports.{variant_number}
use Rattle.type_names.specs.Finding.{numbered, variants_named, agreed}
use Rattle.type_names.specs.Views.{owner_view}
use Rattle.type_names.specs.FindingViews.{joined, owners_find}
use Rattle.type_names.proofs.FindingLemmas.{owner_push, owner_again}

same : (a b : Owner) → owner_eq.ghosts.eq a b ≡ true → a ≡ b
same a b h = search (rules, h)

pub noted : (items : List ItemTree) (q : List ℕ) (keys : List Owner) (o : Owner) →
    owners_find items q (insert_key owner_eq.ghosts.eq keys o) ≡ joined (owners_find items q keys) (numbered (owner_view o) (variant_number items (owner_view o) q))
noted items q keys o = by (list_any (owner_eq.ghosts.eq o) keys) refl
  where
    by : (b : Bool) → list_any (owner_eq.ghosts.eq o) keys ≡ b →
        owners_find items q (cond b keys (keys ++ o ∷ [])) ≡ joined (owners_find items q keys) (numbered (owner_view o) (variant_number items (owner_view o) q))
    by true e = sym (owner_again owner_view (owner_eq.ghosts.eq o) (owner_view o) (λ a h. ap owner_view (sym (same o a h))) items q keys e)
    by false e =
        ap (λ (os : List MOwner). agreed (variants_named items q os)) (map-append owner_view keys (o ∷ []))
        ∙ owner_push items q (map owner_view keys) (owner_view o)
