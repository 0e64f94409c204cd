-- Literals and ranges at types of a table.
use Rattle.std.proofs.Common.{◌≡◌, Bool, Option, sym, ap, subst, ◌∙◌}
use Rattle.match_model.specs.declared.Width.{Width}
use Rattle.match_model.specs.Types.{MType}
use Rattle.match_model.specs.Constructors.{MCtor, NumbersCtor}
use Rattle.decl_syntax.specs.Patterns.{LitTree}
use Rattle.pattern_rules.specs.Literals.{range_meant}
use Rattle.pattern_elaboration.specs.Fitting.{RangeFits}

-- what holds at one width and type holds at the same ones by other names
pub range_moved : (w v : Width) (u t : MType) (c : MCtor) (low high : Option LitTree) (closed : Bool) → w ≡ v → t ≡ u →
    (RangeFits w u low high closed → c ≡ NumbersCtor (range_meant w u low high closed)) →
    RangeFits v t low high closed →
    c ≡ NumbersCtor (range_meant v t low high closed)
range_moved w v u t c low high closed e f h fits =
    h (subst (λ k. RangeFits k u low high closed) (sym e) (subst (λ x. RangeFits v x low high closed) f fits))
    ∙ (ap (λ k. NumbersCtor (range_meant k u low high closed)) e
    ∙ ap (λ x. NumbersCtor (range_meant v x low high closed)) (sym f))
