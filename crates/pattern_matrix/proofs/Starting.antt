-- The rows of arms are those of the first matrix.
use Rattle.std.proofs.Common.{◌≡◌, ℕ, suc, ◌<◌, Bool, true, false, List, [], ◌∷◌, map, cond, Some, None, refl, ap, sym, ◌∙◌, arith, ◌+◌, length, get_or, drop}
use Rattle.std.proofs.lemmas.List.{drop_more}
use Rattle.std.proofs.lemmas.List.Elements.{All-nil, All-cons}
use Rattle.match_model.specs.ArenaPatterns.{MDePat, MDeArm}
use Rattle.match_model.specs.Rows.{is_wild}
use Rattle.match_model.specs.Matrices.{first_rows}
use Rattle.pattern_matrix.specs.Sparse.{bare_row, head_at, row_view, row_views, AreHeadsBelow, AreBelow}
use Rattle.pattern_matrix.specs.Starting.{starting_row, starting_rows}

head_stands : {T : Type 0} (p : MDePat T) (b : Bool) → is_wild (Some p) ≡ b → head_at (cond b [] ((0, p) ∷ [])) 0 ≡ cond b None (Some p)
head_stands p true e = refl
head_stands p false e = rw e refl

row_stands : {T : Type 0} (j : ℕ) (a : MDeArm T) → row_view (0 ∷ []) (starting_row j a) ≡ bare_row (record { heads = Some a.pat ∷ []; arm = j; guarded = a.guarded; chosen = []; caught = [] })
row_stands j a = rw (head_stands a.pat (is_wild (Some a.pat)) refl) refl

pub rows_stand : {T : Type 0} (j : ℕ) (arms : List (MDeArm T)) → row_views (0 ∷ []) (starting_rows j arms) ≡ map bare_row (first_rows j arms)
rows_stand j [] = refl
rows_stand j (a ∷ arms) =
    ap (λ r. r ∷ row_views (0 ∷ []) (starting_rows (suc j) arms)) (row_stands j a)
    ∙ ap (λ rs. bare_row (record { heads = Some a.pat ∷ []; arm = j; guarded = a.guarded; chosen = []; caught = [] }) ∷ rs) (rows_stand (suc j) arms)

one_below : {T : Type 0} (p : MDePat T) (b : Bool) → AreHeadsBelow 1 (cond b [] ((0, p) ∷ []))
one_below p true = All-nil (λ h. h.0 < 1)
one_below p false = All-cons (λ h. h.0 < 1) (0, p) [] (omega arith) (All-nil (λ h. h.0 < 1))

pub rows_below : {T : Type 0} (j : ℕ) (arms : List (MDeArm T)) → AreBelow 1 (starting_rows j arms)
rows_below j [] = All-nil (λ r. AreHeadsBelow 1 r.heads)
rows_below j (a ∷ arms) = All-cons (λ r. AreHeadsBelow 1 r.heads) (starting_row j a) (starting_rows (suc j) arms) (one_below a.pat (is_wild (Some a.pat))) (rows_below (suc j) arms)

-- one arm more
pub starting-drop : {X : Type 0} {T : Type 0} (f : X → MDeArm T) (arms : List X) (i : ℕ) (a : X) → i < length arms → a ≡ get_or arms i a →
    starting_rows i (map f (drop i arms)) ≡ starting_row i (f a) ∷ starting_rows (i + 1) (map f (drop (i + 1) arms))
starting-drop f arms i a h e =
    ap (λ ys. starting_rows i (map f ys)) (drop_more arms i a h)
    ∙ ap (λ b. starting_row i (f b) ∷ starting_rows (suc i) (map f (drop (i + 1) arms))) (sym e)
    ∙ ap (λ k. starting_row i (f a) ∷ starting_rows k (map f (drop (i + 1) arms))) (let same : suc i ≡ i + 1 = omega arith in same)
