-- What is read from lists.
use Rattle.std.proofs.Common.{◌≡◌, ◌<◌, ℕ, zero, suc, ◌+◌, List, [], ◌∷◌, ◌++◌, map, length, take, drop, get_or, Some, refl, ap, sym, subst, ◌∙◌, arith, slice_get}
use Rattle.std.proofs.lemmas.List.{length-map}
use Rattle.std.specs.List.{All}
use Rattle.pattern_matrix.specs.declared.rows.Leaf.{Leaf}
use Rattle.pattern_matrix.specs.Views.{plain_leaf}
use Rattle.pattern_matrix.proofs.Apart.{all_within}
use Rattle.pattern_matrix.specs.Searching.{moved}
use Rattle.usefulness.specs.declared.frames.Apart.{Apart}
use Rattle.usefulness.specs.declared.frames.OpenColumn.{OpenColumn}
use Rattle.usefulness.specs.Frames.{SparseAsked, rows_of}
use Rattle.usefulness.specs.States.{plain_asked, plain_open, plain_opens, IsApart, apart_rows, apart_leaves, other_numbers}
use Rattle.usefulness.proofs.MovedFirst.{map_moved}
use Rattle.usefulness.proofs.RowFacts.{at_get}
use Rattle.usefulness.proofs.Taking.{moved_remove}
use Rattle.usefulness.specs.Scope.{Scope, IsKnown}
use Rattle.usefulness.proofs.Inside.{leaves_known}

-- what is got of a list that another one is made of
pub got_at : {X Y : Type 0} (f : X → Y) (xs : List X) (i : ℕ) (x : X) → i < length xs → x ≡ get_or xs i x → slice_get (map f xs) i ≡ Some (f x)
got_at f [] i x l e = absurd (omega (arith, l))
got_at f (y ∷ xs) zero x l e = ap (λ z. Some (f z)) (sym e)
got_at f (y ∷ xs) (suc i) x l e = got_at f xs i x (omega (arith, l)) e

-- something stands at each number
pub some_at : {X : Type 0} (xs : List X) (i : ℕ) → i < length xs → (x : X) × (x ≡ get_or xs i x)
some_at [] i l = absurd (omega (arith, l))
some_at (y ∷ xs) zero l = (y, refl)
some_at (y ∷ xs) (suc i) l = some_at xs i (omega (arith, l))

-- a column is moved to the front where it is taken from the others
pub moved_out : {T : Type 0} (columns others : List (OpenColumn T)) (i : ℕ) (o : OpenColumn T) → i < length columns → o ≡ get_or columns i o → others ≡ take i columns ++ drop (i + 1) columns →
    moved i (plain_opens columns) ≡ plain_open o ∷ plain_opens others
moved_out columns others i o l e f =
    let same : suc i ≡ i + 1 = omega arith in
    sym (map_moved plain_open i columns)
    ∙ ap plain_opens (moved_remove i columns o l e)
    ∙ ap (λ ys. plain_open o ∷ plain_opens ys) (ap (λ n. take i columns ++ drop n columns) same ∙ sym f)

-- each leaf is of a row
pub leaf_within : {T : Type 0} (scope : Scope T) (a : Apart T) → IsApart scope a → (i : ℕ) (l : Leaf T) → i < length a.leaves.items → l ≡ get_or a.leaves.items i l → l.row < length a.rows.items
leaf_within {T} scope a apart i l h e =
    let long = length-map (apart_rows a) (λ (x : SparseAsked T). x.row) in
    let all = length-map a.rows.items plain_asked in
    at_get (λ h. h.row < length a.rows.items) (apart_leaves a) i (plain_leaf l)
    (subst (All (λ h. h.row < length a.rows.items)) (sym apart.leaves) (all_within a.taken.number 0 (length a.rows.items) (rows_of (apart_rows a)) (omega (arith, long, all))))
    (got_at plain_leaf a.leaves.items i l h e)

-- and its head is known
pub leaf_known : {T : Type 0} (scope : Scope T) (a : Apart T) → IsApart scope a → (i : ℕ) (l : Leaf T) → i < length a.leaves.items → l ≡ get_or a.leaves.items i l → IsKnown scope (plain_leaf l).head
leaf_known scope a apart i l h e =
    at_get (λ h. IsKnown scope h.head) (apart_leaves a) i (plain_leaf l)
    (subst (All (λ h. IsKnown scope h.head)) (sym apart.leaves) (leaves_known scope (a.taken.number ∷ other_numbers a) a.taken.number 0 (apart_rows a) apart.rows))
    (got_at plain_leaf a.leaves.items i l h e)
