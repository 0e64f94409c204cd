-- Submatrices that were begun one above the other, and those that have ended.
use Rattle.std.proofs.Common.{◌≡◌, ◌≤◌, ◌<◌, ◌-◌, ℕ, zero, suc, List, [], ◌∷◌, ◌++◌, length, drop, get_or, refl, ap, sym, subst, ◌∙◌, arith, append_assoc, append-nil}
use Rattle.std.proofs.lemmas.List.{length-append}
use Rattle.std.proofs.lemmas.List.Elements.{All-nil, All-cons, All-head, All-tail, All-append}
use Rattle.std.specs.List.{All, Contains}
use Rattle.pattern_matrix.proofs.HandingOn.{here}
use Rattle.usefulness.specs.declared.begun.Begun.{Begun}
use Rattle.usefulness.specs.Behind.{IsAscending, AreEnded}
use Rattle.usefulness.proofs.Looking.{in_left, in_right}

-- what stands past the end of a list, and what stands before it
pub drop_past : {A : Type 0} (xs ys : List A) → drop (length xs) (xs ++ ys) ≡ ys
drop_past [] ys = refl
drop_past (x ∷ xs) ys = drop_past xs ys

pub drop_before : {A : Type 0} (n : ℕ) (xs ys : List A) → n ≤ length xs → drop n (xs ++ ys) ≡ drop n xs ++ ys
drop_before zero xs ys l = refl
drop_before (suc n) [] ys l = absurd (omega (arith, l))
drop_before (suc n) (x ∷ xs) ys l = drop_before n xs ys (omega (arith, l))

-- what holds of one holds of the other
pub all_map : {A : Type 0} (P Q : A → Type 0) (xs : List A) → ((x : A) → P x → Q x) → All P xs → All Q xs
all_map P Q [] f a = All-nil Q
all_map P Q (x ∷ xs) f a = All-cons Q x xs (f x (All-head P x xs a)) (all_map P Q xs f (All-tail P x xs a))

-- of two properties of all
pub all_both : {A : Type 0} (P Q R : A → Type 0) (xs : List A) → ((x : A) → P x → Q x → R x) → All P xs → All Q xs → All R xs
all_both P Q R [] f a b = All-nil R
all_both P Q R (x ∷ xs) f a b = All-cons R x xs (f x (All-head P x xs a) (All-head Q x xs b)) (all_both P Q R xs f (All-tail P x xs a) (All-tail Q x xs b))

-- of both ends
pub all_front : {A : Type 0} (P : A → Type 0) (xs ys : List A) → All P (xs ++ ys) → All P xs
all_front P [] ys a = All-nil P
all_front P (x ∷ xs) ys a = All-cons P x xs (All-head P x (xs ++ ys) a) (all_front P xs ys (All-tail P x (xs ++ ys) a))

-- the first ones were begun one above the other
pub ascending_front : (xs ys : List Begun) → IsAscending (xs ++ ys) → IsAscending xs
ascending_front [] ys a = tt
ascending_front (b ∷ xs) ys a = (all_front (λ c. b.below ≤ c.below) xs ys a.0, ascending_front xs ys a.1)

-- more are begun above those that were
pub ascending_more : (n : ℕ) (xs ys : List Begun) → IsAscending xs → All (λ b. b.below ≤ n) xs → IsAscending ys → All (λ b. n ≤ b.below) ys → IsAscending (xs ++ ys)
ascending_more n [] ys a u d v = d
ascending_more n (b ∷ xs) ys a u d v =
    let low = All-head (λ (c : Begun). c.below ≤ n) b xs u in (
      All-append (λ c. b.below ≤ c.below) xs ys a.0 (all_map (λ c. n ≤ c.below) (λ c. b.below ≤ c.below) ys (λ c l. omega (arith, l, low)) v),
      ascending_more n xs ys a.1 (All-tail (λ (c : Begun). c.below ≤ n) b xs u) d v,
    )

-- where the last one was begun below this, all were
pub all_under : (n : ℕ) (begun : List Begun) → IsAscending begun → ((front : List Begun) (b : Begun) → begun ≡ front ++ b ∷ [] → b.below < n) → All (λ b. b.below < n) begun
all_under n [] a last = All-nil (λ (b : Begun). b.below < n)
all_under n (b ∷ []) a last = All-cons (λ b. b.below < n) b [] (last [] b refl) (All-nil (λ (b : Begun). b.below < n))
all_under n (b ∷ c ∷ begun) a last =
    let more = all_under n (c ∷ begun) a.1 (λ front d e. last (b ∷ front) d (ap (λ zs. b ∷ zs) e)) in
    let next = All-head (λ (d : Begun). d.below < n) c begun more in
    let low = All-head (λ (d : Begun). b.below ≤ d.below) c begun a.0 in
    All-cons (λ b. b.below < n) b (c ∷ begun) (omega (arith, next, low)) more

-- none has ended yet
pub none_ended : (n : ℕ) (begun : List Begun) → ((front : List Begun) (b : Begun) → begun ≡ front ++ b ∷ [] → b.below < n) → AreEnded n begun begun
none_ended n begun last = record { gone = []; are = sym (append-nil begun); last = last }

-- one more has
pub ended_more : (n : ℕ) (old mid now : List Begun) (last : List Begun) → old ≡ mid ++ last → AreEnded n mid now → AreEnded n old now
ended_more n old mid now last e d = record {
  gone = d.gone ++ last;
  are = e ∙ ap (λ ys. ys ++ last) d.are ∙ append_assoc now d.gone last;
  last = d.last;
}

-- the words are of one that was begun no lower than this
abbrev pub Ended : (n : ℕ) → List Begun → List ℕ → Type 0
Ended n begun w = (b : Begun) × Contains begun b × (n ≤ b.below) × (w ≡ b.words.items)

-- no element stands last in an empty list
pub none_last : (n : ℕ) (begun : List Begun) → begun ≡ [] → (front : List Begun) (b : Begun) → begun ≡ front ++ b ∷ [] → b.below < n
none_last n begun e front b g = let l = ap length (sym e ∙ g) ∙ length-append front (b ∷ []) in absurd (omega (arith, l))

-- the last element, as it is read
pub last_got : {A : Type 0} (xs front : List A) (x d : A) (n : ℕ) → xs ≡ front ++ x ∷ [] → n ≡ length xs → get_or xs (n - 1) d ≡ x
last_got {A} xs front x d n e l =
    let long = l ∙ ap length e ∙ length-append front (x ∷ []) in
    let at : n - 1 ≡ length front = omega (arith, long) in
    ap (λ k. get_or xs k d) at ∙ ap (λ ys. get_or ys (length front) d) e ∙ go front
  where
    go : (ys : List A) → get_or (ys ++ x ∷ []) (length ys) d ≡ x
    go [] = refl
    go (y ∷ ys) = go ys

-- one that was begun is among those that were at first
pub still_there : {A : Type 0} (all mid front gone : List A) (x : A) → all ≡ mid ++ gone → mid ≡ front ++ x ∷ [] → Contains all x
still_there all mid front gone x e g = subst (λ ys. Contains ys x) (sym (e ∙ ap (λ ys. ys ++ gone) g)) (in_left (front ++ x ∷ []) gone x (in_right front (x ∷ []) x (here x [])))
