-- The rows of the arms are listed one by one, and then the one behind them.
use Rattle.std.proofs.Common.{◌≡◌, ◌<◌, ℕ, zero, suc, ◌+◌, true, false, List, [], ◌∷◌, ◌++◌, map, take, length, get_or, refl, ap, sym, subst, ◌∙◌, arith}
use Rattle.std.proofs.lemmas.List.{map-append, length-map, take_more}
use Rattle.std.proofs.lemmas.List.Elements.{All-nil}
use Rattle.std.specs.List.{Contains}
use Rattle.match_model.specs.ArenaPatterns.{MDeArm, MDePat}
use Rattle.match_model.proofs.Basics.{untrue}
use Rattle.pattern_matrix.specs.Sparse.{SparseRow}
use Rattle.pattern_matrix.specs.Starting.{starting_row, starting_rows}
use Rattle.usefulness.specs.Scope.{Scope, scope_for, patterns_in, patterns_of}
use Rattle.usefulness.specs.Frames.{SparseAsked, IsHeadIn, IsRowIn}
use Rattle.usefulness.specs.Starting.{wanted_all, behind_row, asked_from}
use Rattle.usefulness.proofs.Beginning.{row_starts_in}
use Rattle.usefulness.proofs.Inside.{itself_in}
use Rattle.usefulness.proofs.Looking.{in_left, in_right}

-- what an arm writes is among what the arms write
known_at : {T X : Type 0} (f : X → MDeArm T) (arms : List X) (i : ℕ) (a : X) → i < length arms → a ≡ get_or arms i a → Contains (patterns_of (map f arms)) (f a).pat
known_at f [] i a l e = absurd (omega (arith, l))
known_at f (y ∷ ys) zero a l e =
    subst (λ z. Contains (patterns_in (f z).pat ++ patterns_of (map f ys)) (f a).pat) e (in_left (patterns_in (f a).pat) (patterns_of (map f ys)) (f a).pat (itself_in (f a).pat))
known_at f (y ∷ ys) (suc i) a l e = in_right (patterns_in (f y).pat) (patterns_of (map f ys)) (f a).pat (known_at f ys i a (omega (arith, l)) e)

-- the row of an arm is of the arms, and over the one column
pub arm_in : {T X : Type 0} (f : X → MDeArm T) (arms : List X) (i : ℕ) (a : X) → i < length arms → a ≡ get_or arms i a →
    IsRowIn (scope_for (map f arms)) (0 ∷ []) (record { row = starting_row i (f a); wanted = true })
arm_in f arms i a l e = let same = length-map arms f in row_starts_in (scope_for (map f arms)) i (f a) (omega (arith, l, same)) (known_at f arms i a l e)

-- the rows of the arms gone through, and that of one more
starting_push : {T : Type 0} (n : ℕ) (xs : List (MDeArm T)) (x : MDeArm T) → starting_rows n (xs ++ x ∷ []) ≡ starting_rows n xs ++ starting_row (n + length xs) x ∷ []
starting_push n [] x = ap (λ k. starting_row k x ∷ []) (omega arith)
starting_push n (y ∷ ys) x =
    ap (λ rs. starting_row n y ∷ rs) (starting_push (suc n) ys x ∙ ap (λ k. starting_rows (suc n) ys ++ starting_row k x ∷ []) (omega arith))

taken_long : {X : Type 0} (xs : List X) (i : ℕ) → i < length xs → length (take i xs) ≡ i
taken_long [] i l = absurd (omega (arith, l))
taken_long (x ∷ xs) zero l = refl
taken_long (x ∷ xs) (suc i) l = let e = taken_long xs i (omega (arith, l)) in omega (arith, e)

pub arm_more : {T X : Type 0} (f : X → MDeArm T) (arms : List X) (i : ℕ) (a : X) (x : SparseAsked T) → i < length arms → a ≡ get_or arms i a →
    x ≡ record { row = starting_row i (f a); wanted = true } →
    wanted_all (starting_rows 0 (map f (take i arms))) ++ x ∷ [] ≡ wanted_all (starting_rows 0 (map f (take (i + 1) arms)))
arm_more {T} f arms i a x l e k =
    let before = map f (take i arms) in
    let wanted : SparseRow T → SparseAsked T = λ r. record { row = r; wanted = true } in
    let taken : take (i + 1) arms ≡ take i arms ++ a ∷ [] = take_more arms i a l ∙ ap (λ z. take i arms ++ z ∷ []) (sym e) in
    let long : 0 + length before ≡ i = (let same = length-map (take i arms) f in let many = taken_long arms i l in omega (arith, same, many)) in
    ap (λ y. wanted_all (starting_rows 0 before) ++ y ∷ []) (k ∙ ap (λ n. wanted (starting_row n (f a))) (sym long))
    ∙ sym (map-append wanted (starting_rows 0 before) (starting_row (0 + length before) (f a) ∷ []))
    ∙ ap wanted_all (sym (starting_push 0 before (f a)))
    ∙ ap (λ ys. wanted_all (starting_rows 0 ys)) (sym (ap (map f) taken ∙ map-append f (take i arms) (a ∷ [])))

-- all rows, and the one behind
pub with_behind : {T : Type 0} (m : List (MDeArm T)) (x : SparseAsked T) → x ≡ record { row = behind_row (length m); wanted = true } →
    wanted_all (starting_rows 0 m) ++ x ∷ [] ≡ asked_from m
with_behind m x g =
    ap (λ z. wanted_all (starting_rows 0 m) ++ z ∷ []) g
    ∙ sym (map-append (λ (r : SparseRow _). record { row = r; wanted = true }) (starting_rows 0 m) (behind_row (length m) ∷ []))

pub behind_in : {T : Type 0} (scope : Scope T) (n : ℕ) (x : SparseAsked T) → n < scope.arms → x ≡ record { row = behind_row n; wanted = true } → IsRowIn scope (0 ∷ []) x
behind_in scope n x l g = subst (IsRowIn scope (0 ∷ [])) (sym g) (record { arm = l; heads = All-nil (IsHeadIn scope (0 ∷ [])) })

-- a row without heads is the one behind
abbrev pub plain_behind : {T : Type 0} → List (ℕ × MDePat T) → ℕ → List ℕ → SparseAsked T
plain_behind heads arm chosen = record { row = record { heads = heads; arm = arm; guarded = false; chosen = chosen }; wanted = true }

pub behind_is : {T : Type 0} (heads : List (ℕ × MDePat T)) (arm n : ℕ) (chosen : List ℕ) → heads ≡ [] → arm ≡ n → chosen ≡ [] →
    plain_behind heads arm chosen ≡ record { row = behind_row n; wanted = true }
behind_is heads arm n chosen e f g = rw (e, f, g) refl

-- nothing is left
pub none_left : {A : Type 0} (xs : List A) → length xs ≡ 0 → xs ≡ []
none_left [] e = refl
none_left (x ∷ xs) e = absurd (omega (arith, e))

-- what is not long is empty
pub none_long : {A : Type 0} (xs : List A) (n : ℕ) → n ≡ length xs → (0 < n → false ≡ true) → xs ≡ []
none_long [] n e f = refl
none_long (x ∷ xs) n e f = untrue (f (omega (arith, e)))
