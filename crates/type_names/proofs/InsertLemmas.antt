-- A set of names after an insert, also of a name that it has.
use Rattle.std.proofs.Common.{◌≡◌, ℕ, Bool, true, false, cond, ◌||◌, List, [], ◌∷◌, ◌++◌, refl, sym, ap, ◌∙◌}
use Rattle.std.specs.Str.{bytes_eq}
use Rattle.std.specs.Rc.{rc_str_bytes}
use Rattle.std.specs.Global.{Global}
use Rattle.std.specs.List.{list_any}
use Rattle.std.specs.declared.rc.RcStr.{RcStr}
use Rattle.std.proofs.lemmas.Slice.Eq.{bytes_eq-Decides}
use Rattle.std.proofs.Math.Bool.{or-false}
use Rattle.std.proofs.lemmas.List.Folds.{list_any-append}
use Rattle.indexmap.specs.IndexSet.{insert_key}

-- whether a name is among these
abbrev has : List (RcStr Global) → List ℕ → Bool
has ks q = list_any (λ x. bytes_eq q (rc_str_bytes x)) ks

known : (ks : List (RcStr Global)) (name q : List ℕ) (b : Bool) → bytes_eq q name ≡ b → has ks name ≡ true → has ks q ≡ (has ks q || b)
known ks name q true e h =
    let same : q ≡ name = (bytes_eq-Decides q name).0 e in
    let found : has ks q ≡ true = ap (has ks) same ∙ h in
    rw found refl
known ks name q false e h = sym (or-false (has ks q))

pub has_inserted : (ks new : List (RcStr Global)) (k : RcStr Global) (q : List ℕ) → new ≡ insert_key (λ x y. bytes_eq (rc_str_bytes x) (rc_str_bytes y)) ks k →
    list_any (λ x. bytes_eq q (rc_str_bytes x)) new ≡ (list_any (λ x. bytes_eq q (rc_str_bytes x)) ks || bytes_eq q (rc_str_bytes k))
has_inserted ks new k q e = go (has ks (rc_str_bytes k)) refl e
  where
    go : (b : Bool) → has ks (rc_str_bytes k) ≡ b → new ≡ cond b ks (ks ++ k ∷ []) → has new q ≡ (has ks q || bytes_eq q (rc_str_bytes k))
    go true h f = ap (λ (zs : List (RcStr Global)). has zs q) f ∙ known ks (rc_str_bytes k) q (bytes_eq q (rc_str_bytes k)) refl h
    go false h f =
        ap (λ (zs : List (RcStr Global)). has zs q) f
        ∙ (list_any-append (λ x. bytes_eq q (rc_str_bytes x)) ks (k ∷ []) ∙ ap (λ b. has ks q || b) (or-false (bytes_eq q (rc_str_bytes k))))
