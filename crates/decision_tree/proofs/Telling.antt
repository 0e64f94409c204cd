-- What tells a submatrix tells it from all others of the match.
use Rattle.std.proofs.Common.{◌≡◌, List, [], ◌∷◌, map, Some, None, nat_eq, refl, sym, ap, ◌∙◌}
use Rattle.std.specs.List.{IsDistinct, flat_map}
use Rattle.match_model.specs.ArenaPatterns.{uid_of, MDeMatch}
use Rattle.match_model.specs.Contexts.{Context}
use Rattle.match_model.specs.Lists.{Every}
use Rattle.match_model.specs.Matrices.{MColumn, MRow}
use Rattle.match_model.specs.OfType.{type_at_place}
use Rattle.match_model.specs.Rows.{Head}
use Rattle.match_model.specs.WellTyped.{uids_in}
use Rattle.decision_tree.specs.Known.{IsHeadOf, IsTypeThere, IsInScope, MKnownColumn, MKnownRow, head_uid, known_column, known_row, known_matrix}
use Rattle.decision_tree.proofs.Pinned.{pinned}

first-same : {A : Type 0} (x y : A) (xs ys : List A) → x ∷ xs ≡ y ∷ ys → x ≡ y
first-same x y xs ys e = cc

rest-same : {A : Type 0} (x y : A) (xs ys : List A) → x ∷ xs ≡ y ∷ ys → xs ≡ ys
rest-same x y xs ys e = cc

none-some : {A B : Type 0} (x : A) (xs : List A) → [] ≡ x ∷ xs → B
none-some x xs e = cc

some-none : {A B : Type 0} (x : A) (xs : List A) → x ∷ xs ≡ [] → B
some-none x xs e = cc

-- lists that show the same are the same, where what shows the same is
map-tells : {A B : Type 0} (f : A → B) (P : A → Type 0) → ((x y : A) → P x → P y → f x ≡ f y → x ≡ y) →
    (xs ys : List A) → Every P xs → Every P ys → map f xs ≡ map f ys → xs ≡ ys
map-tells f P h [] [] p q e = refl
map-tells f P h [] (y ∷ ys) p q e = none-some (f y) (map f ys) e
map-tells f P h (x ∷ xs) [] p q e = some-none (f x) (map f xs) e
map-tells f P h (x ∷ xs) (y ∷ ys) p q e =
    let here : x ≡ y = h x y p.0 q.0 (first-same (f x) (f y) (map f xs) (map f ys) e) in
    let rest : xs ≡ ys = map-tells f P h xs ys p.1 q.1 (rest-same (f x) (f y) (map f xs) (map f ys) e) in
    λ k. here k ∷ rest k

some-same : {A : Type 0} (x y : A) → Some x ≡ Some y → x ≡ y
some-same x y e = cc

module _ {T : Type 0} (cx : Context T) (m : MDeMatch T)
    (uids : IsDistinct nat_eq (flat_map (λ a. uids_in a.pat) m.arms)) where
  head-tells : (h g : Head T) → IsHeadOf m.arms h → IsHeadOf m.arms g → head_uid h ≡ head_uid g → h ≡ g
  head-tells None None i j e = refl
  head-tells None (Some q) i j e = cc
  head-tells (Some p) None i j e = cc
  head-tells (Some p) (Some q) i j e = ap Some (pinned m.arms uids p q i j (some-same (uid_of p) (uid_of q) e))

  abbrev IsRowOf : MRow T → Type 0
  IsRowOf r = Every (IsHeadOf m.arms) r.heads

  -- rows whose heads have the same uids have the same heads
  pub heads-told : (r s : MRow T) → IsRowOf r → IsRowOf s → map head_uid r.heads ≡ map head_uid s.heads →
      r.heads ≡ s.heads
  heads-told r s i j e = map-tells head_uid (IsHeadOf m.arms) head-tells r.heads s.heads i j e

  row-tells : (r s : MRow T) → IsRowOf r → IsRowOf s → known_row r ≡ known_row s → r ≡ s
  row-tells r s i j e =
      let heads : r.heads ≡ s.heads = heads-told r s i j (ap (λ (k : MKnownRow). k.heads) e) in
      λ k. record {
        heads = heads k;
        arm = (ap (λ (x : MKnownRow). x.arm) e) k;
        guarded = (ap (λ (x : MKnownRow). x.guarded) e) k;
        chosen = (ap (λ (x : MKnownRow). x.chosen) e) k;
        caught = (ap (λ (x : MKnownRow). x.caught) e) k;
      }

  column-tells : (c d : MColumn T) → IsTypeThere cx m.type c → IsTypeThere cx m.type d →
      known_column c ≡ known_column d → c ≡ d
  column-tells c d i j e =
      let place : c.place ≡ d.place = ap (λ (k : MKnownColumn). k.place) e in
      let type : c.type ≡ d.type = some-same c.type d.type (sym i ∙ ap (type_at_place cx m.type) place ∙ j) in
      λ k. record {
        place = place k;
        type = type k;
        sure = (ap (λ (x : MKnownColumn). x.sure) e) k;
      }

  -- submatrices that are told alike have the same columns
  pub columns-told : (columns cs : List (MColumn T)) (rows rs : List (MRow T)) → IsInScope cx m columns rows →
      IsInScope cx m cs rs → known_matrix columns rows ≡ known_matrix cs rs → columns ≡ cs
  columns-told columns cs rows rs i j e =
      map-tells known_column (IsTypeThere cx m.type) column-tells columns cs i.columns_are j.columns_are
      (ap (λ k. k.columns) e)

  -- and the same rows
  pub rows-told : (columns cs : List (MColumn T)) (rows rs : List (MRow T)) → IsInScope cx m columns rows →
      IsInScope cx m cs rs → known_matrix columns rows ≡ known_matrix cs rs → rows ≡ rs
  rows-told columns cs rows rs i j e =
      map-tells known_row IsRowOf row-tells rows rs i.rows_are j.rows_are (ap (λ k. k.rows) e)
