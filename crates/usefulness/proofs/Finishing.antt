-- The rows up to the last wanted one.
use Rattle.std.proofs.Common.{◌≡◌, ◌<◌, ◌≤◌, ℕ, zero, suc, Bool, true, false, ◌||◌, List, [], ◌∷◌, ◌++◌, length, take, drop, refl, arith}
use Rattle.std.specs.List.{list_any}
use Rattle.match_model.specs.Contexts.{Open}
use Rattle.usefulness.specs.Frames.{SparseAsked, has_heads, starts_listed, has_start, sub_view, subs_of}

pub start_taken : {T : Type 0} (end : ℕ) (xs : List (SparseAsked T)) → 0 < length (take end xs) → starts_listed xs ≡ true → has_start (take end xs) ≡ true
start_taken zero xs l s = absurd (omega (arith, l))
start_taken (suc end) [] l s = absurd (omega (arith, l))
start_taken (suc end) (x ∷ xs) l s = s

pub subs_some : {T : Type 0} (columns : List (ℕ × Open T)) (xs : List (SparseAsked T)) → 0 < length xs → subs_of columns xs ≡ sub_view columns xs ∷ []
subs_some columns [] l = absurd (omega (arith, l))
subs_some columns (x ∷ xs) l = refl

pub subs_none : {T : Type 0} (columns : List (ℕ × Open T)) (xs : List (SparseAsked T)) → length xs ≡ 0 → subs_of columns xs ≡ []
subs_none columns [] l = refl
subs_none columns (x ∷ xs) l = absurd (omega (arith, l))

-- one row more is kept
pub start_more : {T : Type 0} (xs : List (SparseAsked T)) (x : SparseAsked T) → starts_listed xs ≡ true → (xs ≡ [] → has_heads x.row.heads ≡ true) → starts_listed (xs ++ x ∷ []) ≡ true
start_more [] x s f = f refl
start_more (y ∷ xs) x s f = s

neither : (b c d : Bool) → (b || c) ≡ false → (c ≡ false → d ≡ false) → (b || d) ≡ false
neither true c d e f = e
neither false c d e f = f e

pub end_unwanted : {T : Type 0} (end : ℕ) (xs : List (SparseAsked T)) (x : SparseAsked T) → end ≤ length xs → list_any (λ (y : SparseAsked T). y.wanted) (drop end xs) ≡ false → x.wanted ≡ false →
    list_any (λ (y : SparseAsked T). y.wanted) (drop end (xs ++ x ∷ [])) ≡ false
end_unwanted zero [] x l e w = rw w refl
end_unwanted (suc end) [] x l e w = absurd (omega (arith, l))
end_unwanted zero (y ∷ xs) x l e w = neither y.wanted (list_any (λ (z : SparseAsked _). z.wanted) xs) (list_any (λ (z : SparseAsked _). z.wanted) (xs ++ x ∷ [])) e (λ f. end_unwanted zero xs x (omega arith) f w)
end_unwanted (suc end) (y ∷ xs) x l e w = end_unwanted end xs x (omega (arith, l)) e w

pub end_all : {T : Type 0} (end : ℕ) (xs : List (SparseAsked T)) → end ≡ length xs → list_any (λ (y : SparseAsked T). y.wanted) (drop end xs) ≡ false
end_all zero [] e = refl
end_all zero (x ∷ xs) e = absurd (omega (arith, e))
end_all (suc end) [] e = absurd (omega (arith, e))
end_all (suc end) (x ∷ xs) e = end_all end xs (omega (arith, e))
