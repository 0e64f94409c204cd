-- Maps by the texts of names: what a change at one text leaves at others.
use Rattle.std.proofs.Common.{◌≡◌, ℕ, Bool, true, false, cond, List, Option, sym, subst, ◌∙◌, refl}
use Rattle.std.specs.Str.{bytes_eq}
use Rattle.std.specs.Rc.{rc_str_bytes}
use Rattle.std.specs.Global.{Global}
use Rattle.std.specs.declared.rc.RcStr.{RcStr}
use Rattle.std.specs.Map.{lookup, IsKeyTest, AreApart, KeepsOthers}
use Rattle.std.specs.HashMap as maps
use Rattle.std.specs.Cmp.Lexicographic.{bytes_decides, nat_list_eq_equiv}
use Rattle.indexmap.specs.IndexMap.{IndexMap}
use Rattle.type_names.specs.NameMaps.{get_by_name}

apart : (here there own : List ℕ) → bytes_eq here there ≡ false → bytes_eq here own ≡ true → bytes_eq there own ≡ false
apart here there own n y = nat_list_eq_equiv.symm there own ∙ sym (nat_list_eq_equiv.congr here own there y) ∙ n

module _ {K : Type 0} (eq : K → K → Bool) (test : K → Bool) where
  other_entries : {A : Type 0} (old new : List (K × A)) → KeepsOthers eq test old new → (other : K → Bool) → IsKeyTest eq other → AreApart test other → lookup other new ≡ lookup other old
  unfolding KeepsOthers
  other_entries old new h = h

-- one that is w at this text, and like another one at other texts
by_text : {W : Type 0} (old new : List ℕ → W) (here : List ℕ) (w : W) → new here ≡ w → ((q : List ℕ) → bytes_eq here q ≡ false → new q ≡ old q) → (q : List ℕ) → new q ≡ cond (bytes_eq here q) w (old q)
by_text {W} old new here w at others q = go (bytes_eq here q) refl
  where
    go : (b : Bool) → bytes_eq here q ≡ b → new q ≡ cond b w (old q)
    go true e = subst (λ l. new l ≡ w) ((bytes_decides here q).0 e) at
    go false e = others q e

pub map_updates_name : {A S : Type 0} (here : List ℕ) (old new : IndexMap (RcStr Global) A S) (w : Option A) → maps.UpdatesBy (λ x y. bytes_eq (rc_str_bytes x) (rc_str_bytes y)) (λ k. bytes_eq here (rc_str_bytes k)) old new w
    → (q : List ℕ) → get_by_name new q ≡ cond (bytes_eq here q) w (get_by_name old q)
map_updates_name here old new w h = by_text (get_by_name old) (get_by_name new) here w h.1 (λ q e. other_entries _ _ _ _ h.3 _ (λ x y. nat_list_eq_equiv.congr q (rc_str_bytes x) (rc_str_bytes y)) (λ k. apart here q (rc_str_bytes k) e))
