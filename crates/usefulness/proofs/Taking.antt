-- A column is taken from the open ones.
use Rattle.std.proofs.Common.{◌≡◌, ◌<◌, ℕ, zero, suc, false, List, [], ◌∷◌, ◌++◌, length, take, drop, get_or, Some, refl, ap, sym, subst, ◌∙◌, arith, slice_get}
use Rattle.std.specs.List.{All, Contains, list_all}
use Rattle.match_model.specs.Contexts.{Open}
use Rattle.match_model.specs.Rows.{starts_wild}
use Rattle.pattern_matrix.specs.Views.{plain_leaves}
use Rattle.pattern_matrix.specs.Spreading.{all_apart}
use Rattle.pattern_matrix.specs.Searching.{heads_in, put_second, moved, moved_first}
use Rattle.usefulness.specs.declared.frames.Frame.{Frame}
use Rattle.usefulness.specs.declared.frames.Apart.{Apart}
use Rattle.usefulness.specs.Frames.{SparseAsked, IsHeadIn, IsRowIn, AreOpen, numbers, sub_view, rows_of}
use Rattle.usefulness.specs.States.{plain_open, plain_opens, plain_askeds, frame_view, apart_view, IsGood, IsApart, IsChosen}
use Rattle.usefulness.proofs.RowFacts.{some_sharp}
use Rattle.usefulness.proofs.MovedFirst.{map_moved, view_moved, open_moved, rows_in_moved}
use Rattle.usefulness.specs.Scope.{Scope}

-- the one that is moved, and the others
pub moved_remove : {A : Type 0} (i : ℕ) (xs : List A) (x : A) → i < length xs → x ≡ get_or xs i x → moved i xs ≡ x ∷ (take i xs ++ drop (suc i) xs)
moved_remove i [] x l e = absurd (omega (arith, l))
moved_remove zero (y ∷ xs) x l e = ap (λ z. z ∷ xs) (sym e)
moved_remove (suc i) (y ∷ xs) x l e = ap (put_second y) (moved_remove i xs x (omega (arith, l)) e)

second_none : {A : Type 0} (w : A) (vs : List A) → put_second w vs ≡ [] → ⊥
second_none w [] g = cc
second_none w (v ∷ vs) g = cc

moved_none : {A : Type 0} (i : ℕ) (xs : List A) (x : A) → slice_get xs i ≡ Some x → moved i xs ≡ [] → ⊥
moved_none i [] x e g = cc
moved_none zero (w ∷ xs) x e g = cc
moved_none (suc i) (w ∷ xs) x e g = second_none w (moved i xs) g

second_head : {A : Type 0} (z x y : A) (us ys : List A) → (us ≡ [] → ⊥) → ((u : A) (vs : List A) → us ≡ u ∷ vs → x ≡ u) → put_second z us ≡ y ∷ ys → x ≡ y
second_head z x y [] ys n f e = absurd (n refl)
second_head z x y (u ∷ us) ys n f e = let same : u ≡ y = cc in f u us refl ∙ same

moved_head : {A : Type 0} (i : ℕ) (xs : List A) (x y : A) (ys : List A) → slice_get xs i ≡ Some x → moved i xs ≡ y ∷ ys → x ≡ y
moved_head i [] x y ys e f = cc
moved_head zero (z ∷ xs) x y ys e f = cc
moved_head (suc i) (z ∷ xs) x y ys e f = second_head z x y (moved i xs) ys (moved_none i xs x e) (λ u vs g. moved_head i xs x u vs e g) f

module _ {T : Type 0} (scope : Scope T) (place : ℕ) (f : Frame T) (a : Apart T) (good : IsGood scope f) (rows : plain_askeds a.rows.items ≡ plain_askeds f.rows.items)
    (at_front : moved place (plain_opens f.columns.items) ≡ plain_open a.taken ∷ plain_opens a.others.items) (next : a.next ≡ f.next) where
  moved_numbers : moved place (numbers (plain_opens f.columns.items)) ≡ a.taken.number ∷ numbers (plain_opens a.others.items)
  moved_numbers = sym (map_moved (λ (o : ℕ × Open T). o.0) place (plain_opens f.columns.items)) ∙ ap numbers at_front

  open_all : AreOpen a.next (a.taken.number ∷ numbers (plain_opens a.others.items))
  open_all = subst (λ n. AreOpen n (a.taken.number ∷ numbers (plain_opens a.others.items))) (sym next) (subst (AreOpen f.next) moved_numbers (open_moved f.next place (numbers (plain_opens f.columns.items)) good.columns))

  rows_all : All (IsRowIn scope (a.taken.number ∷ numbers (plain_opens a.others.items))) (plain_askeds a.rows.items)
  rows_all = subst (All (IsRowIn scope (a.taken.number ∷ numbers (plain_opens a.others.items)))) (sym rows) (subst (λ ns. All (IsRowIn scope ns) (plain_askeds f.rows.items)) moved_numbers (rows_in_moved scope place (numbers (plain_opens f.columns.items)) (plain_askeds f.rows.items) good.heads))

  pub apart_of : plain_leaves a.leaves.items ≡ all_apart a.taken.number 0 (rows_of (plain_askeds a.rows.items)) → IsApart scope a
  apart_of leaves = record { leaves = leaves; number = open_all.0; others = open_all.1; columns = open_all.2; rows = rows_all }

  pub view_of : moved_first place (frame_view f) ≡ apart_view a
  view_of = view_moved place (plain_opens f.columns.items) (plain_askeds f.rows.items) ∙ ap (λ os. sub_view os (plain_askeds f.rows.items)) at_front ∙ ap (sub_view (plain_open a.taken ∷ plain_opens a.others.items)) (sym rows)

  pub sharp_of : (number : ℕ) → IsChosen number (plain_askeds f.rows.items) → slice_get (numbers (plain_opens f.columns.items)) place ≡ Some number →
      list_all starts_wild (heads_in (apart_view a).rows) ≡ false
  sharp_of number (x, h, i, j, e) g =
      let same = moved_head place (numbers (plain_opens f.columns.items)) number a.taken.number (numbers (plain_opens a.others.items)) g moved_numbers in
      some_sharp scope (a.taken.number ∷ numbers (plain_opens a.others.items)) (numbers (plain_opens a.others.items)) a.taken.number (plain_askeds a.rows.items) x h rows_all (subst (λ xs. Contains xs x) (sym rows) i) j (e ∙ same)

-- a column where a row lists a head is open
pub chosen_open : {T : Type 0} (scope : Scope T) (number : ℕ) (columns : List ℕ) (xs : List (SparseAsked T)) → All (IsRowIn scope columns) xs → IsChosen number xs → Contains columns number
chosen_open {T} scope number columns xs a (x, h, (k, l, e), (n, m, g), f) =
    let row : IsRowIn scope columns x = subst (IsRowIn scope columns) e (a k x l) in
    let head : IsHeadIn scope columns h = subst (IsHeadIn scope columns) g (row.heads n h m) in
    subst (Contains columns) f head.column
