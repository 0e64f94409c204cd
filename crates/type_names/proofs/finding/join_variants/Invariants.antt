use Rattle.std.proofs.Common.{◌≡◌, ℕ, List, map, take}
use Rattle.decl_syntax.specs.Items.{ItemTree, variant_view}
use Rattle.type_names.specs.Imports.{variant_number}
use Rattle.type_names.specs.NameRules.{is_among}
use Rattle.type_names.specs.Finding.{numbered}
use Rattle.type_names.specs.FindingViews.{found_in, joined, masked}
use Rattle.type_names.specs.Views.{AreNames, owner_view}
use Rattle.type_names.proofs.finding.join_variants.Given as goal

abbrev pub invariant-loop-variant : goal.invariant-loop-variant
invariant-loop-variant l = (items : List ItemTree) → AreNames items l.names → (q : List ℕ) →
    found_in l.targets q ≡ joined (found_in l.initial.targets q)
    (masked (is_among q (map (λ v. v.name) (map variant_view (take l.variant-index l.variants)))) (numbered (owner_view l.owner) (variant_number items (owner_view l.owner) q)))
