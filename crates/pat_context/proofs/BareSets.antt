-- Patterns of types without constructors, and constructors of the program.
use Rattle.std.proofs.Common.{◌≡◌, ◌⊎◌, inl, inr, false, ◌&&◌, IsTrue, refl, sym, ap, ◌∙◌}
use Rattle.match_model.specs.Constructors.{MCtor, SingleCtor, PointCtor, LaterCtor, OtherTextCtor, VariantCtor, FlagCtor, NumbersCtor, TextCtor, RowCtor, WildCtor, OrCtor, OpaqueSet, NothingSet, MSet, belongs}
use Rattle.match_model.specs.Contexts.{Context}
use Rattle.match_model.specs.ArenaPatterns.{de_pat}
use Rattle.match_model.specs.WellTyped.{IsTyped, is_written}
use Rattle.match_model.proofs.Basics.{untrue, both}
use Rattle.pat_context.specs.Parts.{BarePatternsAreWild}

bare_has_none : (set : MSet) → (set ≡ OpaqueSet) ⊎ (set ≡ NothingSet) → (c : MCtor) → belongs set c ≡ false
bare_has_none set (inl e) c = ap (λ s. belongs s c) e
bare_has_none set (inr e) c = ap (λ s. belongs s c) e

pub bare_patterns : {T : Type 0} (cx : Context T) → BarePatternsAreWild cx
bare_patterns cx t (de_pat c u uid at subs binds) bare h = go c h
  where
    none : (c : MCtor) → IsTrue (belongs (cx.set_of t) c && is_written c) → (c ≡ WildCtor) ⊎ (c ≡ OrCtor)
    none c b = untrue (sym (bare_has_none (cx.set_of t) bare c) ∙ (both (belongs (cx.set_of t) c) (is_written c) b).0)

    go : (c : MCtor) → IsTyped cx t (de_pat c u uid at subs binds) → (c ≡ WildCtor) ⊎ (c ≡ OrCtor)
    go WildCtor k = inl refl
    go OrCtor k = inr refl
    go SingleCtor k = none SingleCtor k.2.0
    go PointCtor k = none PointCtor k.2.0
    go LaterCtor k = none LaterCtor k.2.0
    go OtherTextCtor k = none OtherTextCtor k.2.0
    go (VariantCtor j) k = none (VariantCtor j) k.2.0
    go (FlagCtor b) k = none (FlagCtor b) k.2.0
    go (NumbersCtor r) k = none (NumbersCtor r) k.2.0
    go (TextCtor x) k = none (TextCtor x) k.2.0
    go (RowCtor s) k = none (RowCtor s) k.2.0
