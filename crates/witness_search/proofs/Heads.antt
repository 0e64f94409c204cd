-- Rows without names keep their types, and the heads of the matrix steps are those of the steps of rows of heads.
use Rattle.std.proofs.Common.{◌≡◌, ◌<◌, Bool, true, false, ◌&&◌, List, [], ◌∷◌, ◌++◌, map, length, cond, Option, Some, None, refl, sym, ap, subst, ◌∙◌, arith, IsTrue}
use Rattle.std.specs.List.{All, list_all, cons_option}
use Rattle.std.proofs.lemmas.List.Elements.{All-cons, All-nil}
use Rattle.match_model.specs.Constructors.{MCtor, SingleCtor, PointCtor, LaterCtor, OtherTextCtor, VariantCtor, FlagCtor, NumbersCtor, TextCtor, RowCtor, WildCtor, OrCtor}
use Rattle.match_model.specs.Contexts.{Context}
use Rattle.match_model.specs.ArenaPatterns.{de_pat}
use Rattle.match_model.specs.Places.{MStep}
use Rattle.match_model.specs.Rows.{Head, is_wild, starts_wild, starts_or, row_rest, column_of, first_ctor}
use Rattle.match_model.specs.Matrices.{MColumn, MRow, row_with, first_wild, first_binds, default_rows}
use Rattle.match_model.specs.WellTyped.{IsHeadTyped, AreHeadsTyped}
use Rattle.match_model.proofs.Basics.{untrue}
use Rattle.constructor_sets.specs.Present.{is_sharp_head}
use Rattle.pattern_matrix.specs.HeadRows.{AllTyped, all_heads}
use Rattle.pattern_matrix.proofs.Places as places
use Rattle.pattern_matrix.specs.Sparse.{bare_head, bare_row}
use Rattle.witness_search.specs.Bares.{bares, wild_rests}
use Rattle.witness_search.specs.Wells.{NoneOr}

-- ---- types

module _ {T : Type 0} (cx : Context T) where
  head_typed : (t : T) (h : Head T) (b : Bool) → is_wild h ≡ b → IsHeadTyped cx t h → IsHeadTyped cx t (bare_head h)
  head_typed t h true e k = subst (λ b. IsHeadTyped cx t (cond b None h)) (sym e) tt
  head_typed t h false e k = subst (λ b. IsHeadTyped cx t (cond b None h)) (sym e) k

  row_typed : (columns : List (MColumn T)) (hs : List (Head T)) → AreHeadsTyped cx columns hs → AreHeadsTyped cx columns (map bare_head hs)
  row_typed [] [] k = k
  row_typed [] (h ∷ hs) k = absurd k
  row_typed (c ∷ columns) [] k = absurd k
  row_typed (c ∷ columns) (h ∷ hs) k = (head_typed c.type h (is_wild h) refl k.0, row_typed columns hs k.1)

  pub bare_typed : (columns : List (MColumn T)) (hss : List (List (Head T))) → AllTyped cx columns hss → AllTyped cx columns (bares hss)
  bare_typed columns [] k = tt
  bare_typed columns (hs ∷ hss) k = (row_typed columns hs k.0, bare_typed columns hss k.1)

  pub wild_typed : (c : MColumn T) (columns : List (MColumn T)) (hss : List (List (Head T))) → AllTyped cx (c ∷ columns) hss → AllTyped cx columns (wild_rests hss)
  wild_typed c columns [] k = tt
  wild_typed c columns ([] ∷ hss) k = absurd k.0
  wild_typed c columns ((h ∷ hs) ∷ hss) k = go (is_wild h) (wild_typed c columns hss k.1)
    where
      go : (b : Bool) → AllTyped cx columns (wild_rests hss) → AllTyped cx columns (cond b (hs ∷ []) [] ++ wild_rests hss)
      go true m = (k.0.1, m)
      go false m = m

  pub none_same : (hss : List (List (Head T))) → places.NoneOr cx hss → NoneOr hss
  none_same [] k = tt
  none_same (hs ∷ hss) k = (k.0, none_same hss k.1)

  -- the constructors of a typed column are heads of its set, and no wildcards
  pub sharp : (c : MColumn T) (columns : List (MColumn T)) (hss : List (List (Head T))) → AllTyped cx (c ∷ columns) hss → NoneOr hss →
      All (λ h. IsTrue (is_sharp_head (cx.set_of c.type) h)) (column_of hss)
  sharp c columns [] k n = All-nil (λ h. IsTrue (is_sharp_head (cx.set_of c.type) h))
  sharp c columns ([] ∷ hss) k n = absurd k.0
  sharp c columns ((None ∷ hs) ∷ hss) k n = sharp c columns hss k.1 n.1
  sharp c columns ((Some (de_pat d t uid at subs binds) ∷ hs) ∷ hss) k n = go d k.0.0 n.0 (sharp c columns hss k.1 n.1)
    where
      go : (d : MCtor) → IsHeadTyped cx c.type (Some (de_pat d t uid at subs binds)) → starts_or (Some (de_pat d t uid at subs binds) ∷ hs) ≡ false →
          All (λ h. IsTrue (is_sharp_head (cx.set_of c.type) h)) (column_of hss) →
          All (λ h. IsTrue (is_sharp_head (cx.set_of c.type) h)) (column_of ((Some (de_pat d t uid at subs binds) ∷ hs) ∷ hss))
      go WildCtor h e m = m
      go OrCtor h e m = untrue (sym e)
      go SingleCtor h e m = All-cons (λ x. IsTrue (is_sharp_head (cx.set_of c.type) x)) SingleCtor (column_of hss) h.2.0 m
      go PointCtor h e m = All-cons (λ x. IsTrue (is_sharp_head (cx.set_of c.type) x)) PointCtor (column_of hss) h.2.0 m
      go LaterCtor h e m = All-cons (λ x. IsTrue (is_sharp_head (cx.set_of c.type) x)) LaterCtor (column_of hss) h.2.0 m
      go OtherTextCtor h e m = All-cons (λ x. IsTrue (is_sharp_head (cx.set_of c.type) x)) OtherTextCtor (column_of hss) h.2.0 m
      go (VariantCtor i) h e m = All-cons (λ x. IsTrue (is_sharp_head (cx.set_of c.type) x)) (VariantCtor i) (column_of hss) h.2.0 m
      go (FlagCtor i) h e m = All-cons (λ x. IsTrue (is_sharp_head (cx.set_of c.type) x)) (FlagCtor i) (column_of hss) h.2.0 m
      go (NumbersCtor i) h e m = All-cons (λ x. IsTrue (is_sharp_head (cx.set_of c.type) x)) (NumbersCtor i) (column_of hss) h.2.0 m
      go (TextCtor i) h e m = All-cons (λ x. IsTrue (is_sharp_head (cx.set_of c.type) x)) (TextCtor i) (column_of hss) h.2.0 m
      go (RowCtor i) h e m = All-cons (λ x. IsTrue (is_sharp_head (cx.set_of c.type) x)) (RowCtor i) (column_of hss) h.2.0 m

bare_or : {T : Type 0} (hs : List (Head T)) → starts_or hs ≡ false → starts_or (map bare_head hs) ≡ false
bare_or [] e = refl
bare_or (None ∷ hs) e = refl
bare_or (Some (de_pat WildCtor t uid at subs binds) ∷ hs) e = refl
bare_or (Some (de_pat _ t uid at subs binds) ∷ hs) e = e

pub bare_none : {T : Type 0} (hss : List (List (Head T))) → NoneOr hss → NoneOr (bares hss)
bare_none [] k = tt
bare_none (hs ∷ hss) k = (bare_or hs k.0, bare_none hss k.1)

-- ---- heads of rows

pub heads_bare : {T : Type 0} (rows : List (MRow T)) → all_heads (map bare_row rows) ≡ bares (all_heads rows)
heads_bare [] = refl
heads_bare (r ∷ rows) = ap (λ xs. map bare_head r.heads ∷ xs) (heads_bare rows)

pub heads_default : {T : Type 0} (place : List MStep) (rows : List (MRow T)) → all_heads (default_rows place rows) ≡ wild_rests (all_heads rows)
heads_default place [] = refl
heads_default {T = T} place (r ∷ rows) = go (first_wild r) (heads_default place rows)
  where
    go : (b : Bool) → all_heads (default_rows place rows) ≡ wild_rests (all_heads rows) → all_heads (cond b (row_with r (row_rest r.heads) [] (first_binds place r.heads) ∷ []) [] ++ default_rows place rows)
        ≡ cond b (row_rest r.heads ∷ []) [] ++ wild_rests (all_heads rows)
    go true e = ap (λ xs. row_rest r.heads ∷ xs) e
    go false e = e

-- ---- columns of wildcards

ctor_none : {T : Type 0} (hs : List (Head T)) → starts_wild hs ≡ false → (c : MCtor) × (first_ctor hs ≡ Some c)
ctor_none [] e = cc
ctor_none (None ∷ hs) e = cc
ctor_none (Some (de_pat WildCtor t uid at subs binds) ∷ hs) e = cc
ctor_none (Some (de_pat SingleCtor t uid at subs binds) ∷ hs) e = (SingleCtor, refl)
ctor_none (Some (de_pat PointCtor t uid at subs binds) ∷ hs) e = (PointCtor, refl)
ctor_none (Some (de_pat LaterCtor t uid at subs binds) ∷ hs) e = (LaterCtor, refl)
ctor_none (Some (de_pat OtherTextCtor t uid at subs binds) ∷ hs) e = (OtherTextCtor, refl)
ctor_none (Some (de_pat OrCtor t uid at subs binds) ∷ hs) e = (OrCtor, refl)
ctor_none (Some (de_pat (VariantCtor i) t uid at subs binds) ∷ hs) e = (VariantCtor i, refl)
ctor_none (Some (de_pat (FlagCtor i) t uid at subs binds) ∷ hs) e = (FlagCtor i, refl)
ctor_none (Some (de_pat (NumbersCtor i) t uid at subs binds) ∷ hs) e = (NumbersCtor i, refl)
ctor_none (Some (de_pat (TextCtor i) t uid at subs binds) ∷ hs) e = (TextCtor i, refl)
ctor_none (Some (de_pat (RowCtor i) t uid at subs binds) ∷ hs) e = (RowCtor i, refl)

wild_none : {T : Type 0} (hs : List (Head T)) → starts_wild hs ≡ true → first_ctor hs ≡ None
wild_none [] e = refl
wild_none (None ∷ hs) e = refl
wild_none (Some (de_pat WildCtor t uid at subs binds) ∷ hs) e = refl
wild_none (Some (de_pat _ t uid at subs binds) ∷ hs) e = cc

column_some : {T : Type 0} (hs : List (Head T)) (hss : List (List (Head T))) (o : Option MCtor) → first_ctor hs ≡ o →
    column_of (hs ∷ hss) ≡ cons_option o (column_of hss)
column_some hs hss o e = ap (λ x. cons_option x (column_of hss)) e

-- where no head is there all rows are wild, and their rests are all rests
pub all_wild : {T : Type 0} (hss : List (List (Head T))) → column_of hss ≡ [] →
    (list_all starts_wild hss ≡ true) × (wild_rests hss ≡ map row_rest hss)
all_wild [] e = (refl, refl)
all_wild {T = T} (hs ∷ hss) e = go (starts_wild hs) refl (λ k. all_wild hss k)
  where
    step : starts_wild hs ≡ true → (column_of hss ≡ [] → (list_all starts_wild hss ≡ true) × (wild_rests hss ≡ map row_rest hss)) →
        (list_all starts_wild (hs ∷ hss) ≡ true) × (wild_rests (hs ∷ hss) ≡ map row_rest (hs ∷ hss))
    step w f =
        let rest = f (sym (column_some hs hss None (wild_none hs w)) ∙ e) in
        (ap (λ b. b && list_all starts_wild hss) w ∙ rest.0, ap (λ b. cond b (row_rest hs ∷ []) [] ++ wild_rests hss) w ∙ ap (λ xs. row_rest hs ∷ xs) rest.1)

    go : (b : Bool) → starts_wild hs ≡ b → (column_of hss ≡ [] → (list_all starts_wild hss ≡ true) × (wild_rests hss ≡ map row_rest hss)) →
        (list_all starts_wild (hs ∷ hss) ≡ true) × (wild_rests (hs ∷ hss) ≡ map row_rest (hs ∷ hss))
    go true w f = step w f
    go false w f =
        let some = ctor_none hs w in
        absurd (let bad : some.0 ∷ column_of hss ≡ [] = sym (column_some hs hss (Some some.0) some.1) ∙ e in cc)

-- where a head is there not all rows are wild
pub some_built : {T : Type 0} (hss : List (List (Head T))) → 0 < length (column_of hss) → list_all starts_wild hss ≡ false
some_built [] l = absurd (omega (arith, l))
some_built {T = T} (hs ∷ hss) l = go (starts_wild hs) refl (λ k. some_built hss k)
  where
    step : starts_wild hs ≡ true → (0 < length (column_of hss) → list_all starts_wild hss ≡ false) → list_all starts_wild (hs ∷ hss) ≡ false
    step w f = ap (λ b. b && list_all starts_wild hss) w ∙ f (subst (λ cs. 0 < length cs) (column_some hs hss None (wild_none hs w)) l)

    go : (b : Bool) → starts_wild hs ≡ b → (0 < length (column_of hss) → list_all starts_wild hss ≡ false) → list_all starts_wild (hs ∷ hss) ≡ false
    go true w f = step w f
    go false w f = ap (λ b. b && list_all starts_wild hss) w
