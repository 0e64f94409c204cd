-- What is found of a match, part by part.
use Rattle.std.proofs.Common.{◌≡◌, ◌∙◌, ap, ℕ, List, Bool, Option, Some, None}
use Rattle.explain_report.specs.Records.{OverlapTree, JudgedTree}
use Rattle.explain_report.specs.Reading.{judged_from}
use Rattle.explain_report.specs.declared.records.Unreached.{Unreached}

-- without its overlaps nothing is found
pub lost_overlaps : (e : Bool) (flag : Option Bool) (o : Option (List OverlapTree)) (u : Option (List Unreached)) (w : Option (List (List ℕ))) →
    flag ≡ Some e → o ≡ None → judged_from flag o u w ≡ None
lost_overlaps e flag o u w f n = ap (λ x. judged_from x o u w) f ∙ ap (λ x. judged_from (Some e) x u w) n

-- nor without what is unreachable
pub lost_unreachable : (e : Bool) (os : List OverlapTree) (flag : Option Bool) (o : Option (List OverlapTree)) (u : Option (List Unreached)) (w : Option (List (List ℕ))) →
    flag ≡ Some e → o ≡ Some os → u ≡ None → judged_from flag o u w ≡ None
lost_unreachable e os flag o u w f p n =
    ap (λ x. judged_from x o u w) f ∙ ap (λ x. judged_from (Some e) x u w) p ∙ ap (λ x. judged_from (Some e) (Some os) x w) n

-- nor without its witnesses
pub lost_witnesses : (e : Bool) (os : List OverlapTree) (us : List Unreached) (flag : Option Bool) (o : Option (List OverlapTree)) (u : Option (List Unreached)) (w : Option (List (List ℕ))) →
    flag ≡ Some e → o ≡ Some os → u ≡ Some us → w ≡ None → judged_from flag o u w ≡ None
lost_witnesses e os us flag o u w f p q n =
    ap (λ x. judged_from x o u w) f ∙ ap (λ x. judged_from (Some e) x u w) p ∙ ap (λ x. judged_from (Some e) (Some os) x w) q
    ∙ ap (judged_from (Some e) (Some os) (Some us)) n

-- all parts together are what is found
pub found_judged : (e : Bool) (os : List OverlapTree) (us : List Unreached) (ws : List (List ℕ)) (flag : Option Bool) (o : Option (List OverlapTree)) (u : Option (List Unreached)) (w : Option (List (List ℕ))) →
    flag ≡ Some e → o ≡ Some os → u ≡ Some us → w ≡ Some ws →
    judged_from flag o u w ≡ Some (record { exhaustive = e; overlaps = os; unreachable = us; witnesses = ws })
found_judged e os us ws flag o u w f p q r =
    ap (λ x. judged_from x o u w) f ∙ ap (λ x. judged_from (Some e) x u w) p ∙ ap (λ x. judged_from (Some e) (Some os) x w) q
    ∙ ap (judged_from (Some e) (Some os) (Some us)) r
