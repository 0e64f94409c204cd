-- Columns are numbered by their places.
use Rattle.std.proofs.Common.{◌≡◌, ◌≢◌, ◌<◌, ◌≤◌, ◌+◌, ℕ, zero, suc, List, [], ◌∷◌, ◌++◌, take, length, get_or, set, Some, slice_get, refl, ap, sym, subst, ◌∙◌, arith, get_or-set_same, get_or-set_other}
use Rattle.std.proofs.lemmas.List.Elements.{All-nil, All-cons, All-head, All-tail}
use Rattle.std.proofs.lemmas.List.{length-map, take_all}
use Rattle.std.specs.List.{All}
use Rattle.match_model.specs.Contexts.{Open}
use Rattle.usefulness.specs.declared.frames.OpenColumn.{OpenColumn}
use Rattle.usefulness.specs.Frames.{numbers, AreOpen}
use Rattle.usefulness.specs.States.{plain_open, plain_opens}
use Rattle.usefulness.specs.Words.{AreNumbered}
use Rattle.usefulness.proofs.Choosing.{number_at}
use Rattle.usefulness.proofs.RowFacts.{at_get, numbers_below}

numbered_set : (ps : List ℕ) (k v first : ℕ) (cs : List ℕ) → All (λ c. c ≢ k) cs → AreNumbered (λ c. get_or ps c 0) first cs → AreNumbered (λ c. get_or (set ps k v) c 0) first cs
numbered_set ps k v first [] a n = tt
numbered_set ps k v first (c ∷ cs) a n = (get_or-set_other ps k c v 0 (All-head (λ (c : ℕ). c ≢ k) c cs a) ∙ n.0, numbered_set ps k v (suc first) cs (All-tail (λ (c : ℕ). c ≢ k) c cs a) n.1)

numbered_more : (at : ℕ → ℕ) (first : ℕ) (cs : List ℕ) (c : ℕ) → AreNumbered at first cs → at c ≡ first + length cs → AreNumbered at first (cs ++ c ∷ [])
numbered_more at first [] c n e = (omega (arith, e), tt)
numbered_more at first (d ∷ cs) c n e = (n.0, numbered_more at (suc first) cs c n.1 (omega (arith, e)))

-- those before one are others
others_before : (next : ℕ) (cs : List ℕ) (i n : ℕ) → AreOpen next cs → i < length cs → n ≡ get_or cs i n → All (λ c. c ≢ n) (take i cs)
others_before next [] i n o l e = absurd (omega (arith, l))
others_before next (c ∷ cs) zero n o l e = All-nil (λ (c : ℕ). c ≢ n)
others_before next (c ∷ cs) (suc i) n o l e =
    let later = o.1 i n (omega (arith, l)) in
    All-cons (λ (c : ℕ). c ≢ n) c (take i cs) (λ k. later.1 (sym e ∙ sym k)) (others_before next cs i n o.2 (omega (arith, l)) e)

take_next : (cs : List ℕ) (i n : ℕ) → i < length cs → n ≡ get_or cs i n → take (i + 1) cs ≡ take i cs ++ n ∷ []
take_next [] i n l e = absurd (omega (arith, l))
take_next (c ∷ cs) zero n l e = ap (λ z. z ∷ []) (sym e)
take_next (c ∷ cs) (suc i) n l e = let k : suc i + 1 ≡ suc (i + 1) = omega arith in ap (λ m. take m (c ∷ cs)) k ∙ ap (λ zs. c ∷ zs) (take_next cs i n (omega (arith, l)) e)

take_long : (cs : List ℕ) (i : ℕ) → i < length cs → length (take i cs) ≡ i
take_long [] i l = absurd (omega (arith, l))
take_long (c ∷ cs) zero l = refl
take_long (c ∷ cs) (suc i) l = ap suc (take_long cs i (omega (arith, l)))

-- one more is numbered
pub place_step : (next : ℕ) (cs : List ℕ) (i n : ℕ) (ps : List ℕ) → AreOpen next cs → i < length cs → n ≡ get_or cs i n → n < length ps → AreNumbered (λ c. get_or ps c 0) 0 (take i cs) →
    AreNumbered (λ c. get_or (set ps n i) c 0) 0 (take (i + 1) cs)
place_step next cs i n ps o l e below a =
    subst (AreNumbered (λ c. get_or (set ps n i) c 0) 0) (sym (take_next cs i n l e))
    (numbered_more (λ c. get_or (set ps n i) c 0) 0 (take i cs) n (numbered_set ps n i 0 (take i cs) (others_before next cs i n o l e) a)
    (get_or-set_same ps n i 0 below ∙ (let long = take_long cs i l in omega (arith, long))))

-- what is got of a list stands there
got_there : (xs : List ℕ) (i v : ℕ) → slice_get xs i ≡ Some v → (i < length xs) × (v ≡ get_or xs i v)
got_there [] i v e = cc
got_there (x ∷ xs) zero v e = (omega arith, cc)
got_there (x ∷ xs) (suc i) v e = let (l, f) = got_there xs i v e in (omega (arith, l), f)

-- one column more has its place
pub place_next : {T : Type 0} (next : ℕ) (columns : List (OpenColumn T)) (i : ℕ) (x : OpenColumn T) (ps : List ℕ) → AreOpen next (numbers (plain_opens columns)) → i < length columns → x ≡ get_or columns i x → length ps ≡ next →
    AreNumbered (λ c. get_or ps c 0) 0 (take i (numbers (plain_opens columns))) → (x.number < length ps) × AreNumbered (λ c. get_or (set ps x.number i) c 0) 0 (take (i + 1) (numbers (plain_opens columns)))
place_next next columns i x ps o l e long a =
    let cs = numbers (plain_opens columns) in
    let at = number_at columns i x l e in
    let there = got_there cs i x.number at in
    let low = at_get (λ (c : ℕ). c < next) cs i x.number (numbers_below next cs o) at in
    let below : x.number < length ps = omega (arith, low, long) in
    (below, place_step next cs i x.number ps o there.0 there.1 below a)

pub place_all : {T : Type 0} (columns : List (OpenColumn T)) (i : ℕ) (at : ℕ → ℕ) → length columns ≤ i → AreNumbered at 0 (take i (numbers (plain_opens columns))) → AreNumbered at 0 (numbers (plain_opens columns))
place_all {T} columns i at l a =
    let long = length-map (plain_opens columns) (λ (o : ℕ × Open T). o.0) in
    let opens = length-map columns plain_open in
    subst (AreNumbered at 0) (take_all i (numbers (plain_opens columns)) (omega (arith, l, long, opens))) a
