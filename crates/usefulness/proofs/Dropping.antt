-- What stands at a leaf, and one leaf more.
use Rattle.std.proofs.Common.{◌≡◌, ◌<◌, ℕ, ◌+◌, Bool, true, false, not, ◌&&◌, List, [], ◌∷◌, ◌++◌, map, length, take, get_or, Some, refl, ap, sym, ◌∙◌, slice_get, append-nil}
use Rattle.std.proofs.lemmas.List.{take_more, map-append}
use Rattle.std.proofs.lemmas.Grind.{flat_map-append}
use Rattle.std.specs.Option.{option_to_list}
use Rattle.match_model.specs.Rows.{is_wild}
use Rattle.pattern_matrix.specs.Sparse.{SparseLeaf, leaves_listed}
use Rattle.pattern_matrix.specs.Opening.{dropped_row, opened_row}
use Rattle.usefulness.specs.Frames.{SparseAsked}
use Rattle.usefulness.specs.Children.{dropped_at, dropped, opened_at, opened}

pub dropped_got : {T : Type 0} (column : ℕ) (xs : List (SparseAsked T)) (l : SparseLeaf T) (x : SparseAsked T) → is_wild l.head ≡ true → slice_get xs l.row ≡ Some x →
    dropped_at column xs l ≡ record { row = dropped_row column l x.row; wanted = x.wanted } ∷ []
dropped_got column xs l x w e = rw (w, e) refl

pub dropped_not : {T : Type 0} (column : ℕ) (xs : List (SparseAsked T)) (l : SparseLeaf T) → is_wild l.head ≡ false → dropped_at column xs l ≡ []
dropped_not column xs l w = rw w refl

pub opened_got : {T : Type 0} (missing : Bool) (column first count : ℕ) (xs : List (SparseAsked T)) (l : SparseLeaf T) (x : SparseAsked T) → slice_get xs l.row ≡ Some x →
    opened_at missing column first count xs l ≡ record { row = opened_row column first count l x.row; wanted = x.wanted && not (missing && is_wild l.head) } ∷ []
opened_got missing column first count xs l x e = rw e refl

pub dropped_more : {T S : Type 0} (column : ℕ) (xs : List (SparseAsked T)) (f : S → SparseLeaf T) (ls : List S) (i : ℕ) (l : S) → i < length ls → l ≡ get_or ls i l →
    dropped column xs (map f (take (i + 1) ls)) ≡ dropped column xs (map f (take i ls)) ++ dropped_at column xs (f l)
dropped_more column xs f ls i l h e =
    ap (λ ys. dropped column xs (map f ys)) (take_more ls i l h ∙ ap (λ z. take i ls ++ z ∷ []) (sym e))
    ∙ ap (dropped column xs) (map-append f (take i ls) (l ∷ []))
    ∙ flat_map-append (dropped_at column xs) (map f (take i ls)) (f l ∷ [])
    ∙ ap (λ ys. dropped column xs (map f (take i ls)) ++ ys) (append-nil (dropped_at column xs (f l)))

pub opened_more : {T : Type 0} (missing : Bool) (column first count : ℕ) (xs : List (SparseAsked T)) (leaves : List (SparseLeaf T)) (numbers : List ℕ) (i : ℕ) (l : SparseLeaf T) → i < length numbers →
    slice_get leaves (get_or numbers i 0) ≡ Some l →
    opened missing column first count xs (leaves_listed leaves (take (i + 1) numbers)) ≡ opened missing column first count xs (leaves_listed leaves (take i numbers)) ++ opened_at missing column first count xs l
opened_more missing column first count xs leaves numbers i l h e =
    ap (λ ys. opened missing column first count xs (leaves_listed leaves ys)) (take_more numbers i 0 h)
    ∙ ap (opened missing column first count xs) (flat_map-append (λ k. option_to_list (slice_get leaves k)) (take i numbers) (get_or numbers i 0 ∷ []) ∙ ap (λ ys. leaves_listed leaves (take i numbers) ++ ys) (rw e refl))
    ∙ flat_map-append (opened_at missing column first count xs) (leaves_listed leaves (take i numbers)) (l ∷ [])
    ∙ ap (λ ys. opened missing column first count xs (leaves_listed leaves (take i numbers)) ++ ys) (append-nil (opened_at missing column first count xs l))
