-- A column is chosen and found among the open ones.
use Rattle.std.proofs.Common.{◌≡◌, ◌<◌, ◌∙◌, ℕ, zero, suc, true, List, [], ◌∷◌, map, length, get_or, Some, refl, ap, sym, subst, arith, slice_get}
use Rattle.match_model.proofs.Basics.{untrue}
use Rattle.pattern_matrix.specs.declared.rows.Head.{Head}
use Rattle.pattern_matrix.specs.HeadLists.{kept_heads}
use Rattle.pattern_matrix.specs.Views.{plain_head}
use Rattle.pattern_matrix.proofs.HandingOn.{contains-map}
use Rattle.usefulness.specs.declared.frames.OpenColumn.{OpenColumn}
use Rattle.usefulness.specs.declared.frames.Asked.{Asked}
use Rattle.usefulness.specs.Frames.{has_start, has_heads, numbers}
use Rattle.usefulness.specs.States.{plain_asked, plain_askeds, plain_opens, IsChosen, ListsHeads}

some_heads : {T : Type 0} (heads : List (Head T)) → has_heads (map plain_head heads) ≡ true → 0 < length heads
some_heads [] e = untrue e
some_heads (h ∷ heads) e = omega arith

-- the first row lists a head
pub first_lists : {T : Type 0} (rows : List (Asked T)) → has_start (plain_askeds rows) ≡ true → ListsHeads 0 rows
first_lists [] e = untrue e
first_lists (x ∷ rows) e = (omega arith, λ d. some_heads (kept_heads x.row.heads) e)

-- what stands at a place within does not depend on the default
pub same_got : {A : Type 0} (xs : List A) (k : ℕ) (d e : A) → k < length xs → get_or xs k d ≡ get_or xs k e
same_got [] k d e l = absurd (omega (arith, l))
same_got (x ∷ xs) zero d e l = refl
same_got (x ∷ xs) (suc k) d e l = same_got xs k d e (omega (arith, l))

-- a row that lists one
pub one_lists : {T : Type 0} (rows : List (Asked T)) (i : ℕ) (x : Asked T) → i < length rows → x ≡ get_or rows i x → 0 < length (kept_heads x.row.heads) → ListsHeads i rows
one_lists rows i x l e h = (l, λ d. subst (λ z. 0 < length (kept_heads z.row.heads)) (e ∙ same_got rows i x d l) h)

-- a head of a row is in a column that may be chosen
pub chosen_at : {T : Type 0} (rows : List (Asked T)) (i : ℕ) (x : Asked T) (k : ℕ) (h : Head T) → i < length rows → x ≡ get_or rows i x → k < length (kept_heads x.row.heads) →
    h ≡ get_or (kept_heads x.row.heads) k h → IsChosen h.column (plain_askeds rows)
chosen_at rows i x k h l e m f =
    (plain_asked x, plain_head h, contains-map plain_asked rows x (i, l, sym e), contains-map plain_head (kept_heads x.row.heads) h (k, m, sym f), refl)

-- the number stands at its place
pub number_at : {T : Type 0} (columns : List (OpenColumn T)) (i : ℕ) (o : OpenColumn T) → i < length columns → o ≡ get_or columns i o → slice_get (numbers (plain_opens columns)) i ≡ Some o.number
number_at [] i o l e = absurd (omega (arith, l))
number_at (c ∷ columns) zero o l e = ap (λ (z : OpenColumn _). Some z.number) (sym e)
number_at (c ∷ columns) (suc i) o l e = number_at columns i o (omega (arith, l)) e
