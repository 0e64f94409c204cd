-- What stays true while marks are carried on.
use Rattle.std.proofs.Common.{◌≡◌, ℕ, ◌<◌, ◌≤◌, Bool, true, false, Option, Some, None, List, length, replicate, get_or, set, zero, suc, refl, sym, ap, subst, ◌∙◌, arith, ⊎_elim}
use Rattle.std.proofs.lemmas.List.{get_or-set_same, get_or-set_other, get_or_default, set_past}
use Rattle.std.proofs.lemmas.Bool.{cases_eq, cases_lt}
use Rattle.horn_clauses.specs.declared.clause.Clause.{Clause}
use Rattle.horn_clauses.specs.Marks.{IsHeld, AreSound}
use Rattle.horn_clauses.specs.Waiting.{AreNumbers, HoldsBefore}
use Rattle.horn_clauses.proofs.Models.{held_more}

-- entries stay numbers where one is set to a number or to nothing
pub numbers_set : (m : ℕ) (es : List (Option ℕ)) (i : ℕ) (e : Option ℕ) → AreNumbers m es → ((c : ℕ) → e ≡ Some c → c < m) → AreNumbers m (set es i e)
numbers_set m es i e all one k c is =
    ⊎_elim (λ in_range. ⊎_elim
    (λ same. one c (sym (get_or-set_same es i e None in_range) ∙ ap (λ x. get_or (set es i e) x None) (sym same) ∙ is))
    (λ other. all k c (sym (get_or-set_other es i k e None other) ∙ is))
    (cases_eq k i))
    (λ past. all k c (ap (λ (xs : List (Option ℕ)). get_or xs k None) (sym (set_past es i e past)) ∙ is))
    (cases_lt i (length es))

-- the atoms of a body are marked up to where the search stopped
pub held_front : (clauses : List Clause) (marks : List Bool) (places : List ℕ) (n p : ℕ) (c : Clause) →
    HoldsBefore clauses marks places → n < length clauses → c ≡ get_or clauses n c →
    ((k : ℕ) → get_or places n 0 ≤ k → k < p → IsHeld marks (get_or c.body.items k 0)) →
    (k : ℕ) → k < p → IsHeld marks (get_or c.body.items k 0)
held_front clauses marks places n p c before within is found k l =
    ⊎_elim (λ low. subst (λ (x : Clause). IsHeld marks (get_or x.body.items k 0)) (sym is) (before n k c within low))
    (λ high. found k high l)
    (cases_lt k (get_or places n 0))

-- the atoms before each place stay marked where the place of one clause is set
pub before_set : (clauses : List Clause) (marks : List Bool) (places : List ℕ) (n p : ℕ) (c : Clause) →
    HoldsBefore clauses marks places → length places ≡ length clauses → n < length clauses → c ≡ get_or clauses n c →
    ((k : ℕ) → k < p → IsHeld marks (get_or c.body.items k 0)) →
    HoldsBefore clauses marks (set places n p)
before_set clauses marks places n p c before len within is front m k d in_clauses low =
    ⊎_elim (λ same.
    let here : get_or clauses m d ≡ c = ap (λ x. get_or clauses x d) same ∙ get_or_default clauses n d c within ∙ sym is in
    let below : k < p = subst (λ x. k < x) (ap (λ x. get_or (set places n p) x 0) same ∙ get_or-set_same places n p 0 (subst (λ x. n < x) (sym len) within)) low in
    subst (λ (x : Clause). IsHeld marks (get_or x.body.items k 0)) (sym here) (front k below))
    (λ other. before m k d in_clauses (subst (λ x. k < x) (get_or-set_other places n m p 0 other) low))
    (cases_eq m n)

-- the atoms before each place stay marked where another atom is marked
pub before_more : (clauses : List Clause) (marks : List Bool) (places : List ℕ) (h : ℕ) → h < length marks →
    HoldsBefore clauses marks places → HoldsBefore clauses (set marks h true) places
before_more clauses marks places h within before c k d l m =
    held_more marks h (get_or (get_or clauses c d).body.items k 0) within (before c k d l m)

get_or-replicated : {X : Type 0} (n : ℕ) (x : X) (k : ℕ) → get_or (replicate n x) k x ≡ x
get_or-replicated zero x k = refl
get_or-replicated (suc n) x zero = refl
get_or-replicated (suc n) x (suc k) = get_or-replicated n x k

-- where nothing is marked all marks are sound
pub sound_start : (clauses : List Clause) (marks : List Bool) (n : ℕ) → marks ≡ replicate n false → AreSound clauses marks
sound_start clauses marks n is a held = let e = get_or-replicated n false a in cc

-- where every place is the first nothing need be marked
pub before_start : (clauses : List Clause) (marks : List Bool) (places : List ℕ) (n : ℕ) → places ≡ replicate n 0 → HoldsBefore clauses marks places
before_start clauses marks places n is c k d l low =
    let e : get_or (replicate {A = ℕ} n 0) c 0 ≡ 0 = get_or-replicated {X = ℕ} n 0 c in
    let z : get_or places c 0 ≡ 0 = ap (λ (xs : List ℕ). get_or xs c 0) is ∙ e in absurd (omega arith)

-- where no entry is there all are numbers
pub numbers_start : (m : ℕ) (es : List (Option ℕ)) (n : ℕ) → es ≡ replicate n None → AreNumbers m es
numbers_start m es n is k c some = let e = get_or-replicated {X = Option ℕ} n None k in cc
