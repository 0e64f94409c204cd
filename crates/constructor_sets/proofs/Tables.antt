-- Numbers that are told from a table of marks.
use Rattle.std.proofs.Common.{◌≡◌, ℕ, zero, suc, ◌+◌, ◌<◌, ◌≤◌, Bool, true, false, ◌&&◌, nat_lt, List, [], ◌∷◌, cond, IsTrue, take, length, get_or, refl, sym, ap, subst, ◌∙◌, arith}
use Rattle.std.specs.List.{All, filter}
use Rattle.std.proofs.lemmas.Bool.Decides.{nat_tests}
use Rattle.std.proofs.lemmas.List.Elements.{All-head, All-more, All-tail}
use Rattle.std.proofs.lemmas.List.Kept.{AllPairs-filter}
use Rattle.match_model.specs.Pieces.{each_below}
use Rattle.match_model.proofs.Basics.{untrue}
use Rattle.slice_split.proofs.Below.{AllPairs-each_below}
use Rattle.constructor_sets.specs.Numbered.{is_listed, AreOnce}
use Rattle.constructor_sets.proofs.Numbering.{filter_listed, below_listed}

pub marked_once : (numbers once : List ℕ) (marks : List Bool) → ((n : ℕ) → get_or marks n false ≡ is_listed numbers n) → once ≡ filter (λ k. get_or marks k false) (each_below (λ k. k) (length marks)) → AreOnce numbers once
marked_once numbers once marks told e =
    subst (AreOnce numbers) (sym e)
    (record {
      each = λ k.
          filter_listed (λ j. get_or marks j false) (each_below (λ k. k) (length marks)) k
          ∙ ap (λ b. get_or marks k false && b) (below_listed (length marks) k)
          ∙ within marks k
          ∙ told k;
      ascending = AllPairs-filter (λ j k. j < k) (λ j. get_or marks j false) (each_below (λ k. k) (length marks)) (AllPairs-each_below (λ j k. j < k) (λ k. k) (length marks) (λ j k l. l));
    })
  where
    and_so : (a b : Bool) → b ≡ true → (a && b) ≡ a
    and_so true b e = e
    and_so false b e = refl

    within : (marks : List Bool) (k : ℕ) → (get_or marks k false && nat_lt k (length marks)) ≡ get_or marks k false
    within [] k = refl
    within (m ∷ ms) zero = and_so m _ (first (length ms))
      where
        first : (n : ℕ) → nat_lt 0 (suc n) ≡ true
        first n = grind (arith, nat_tests)
    within (m ∷ ms) (suc k) = ap (λ b. get_or ms k false && b) (shifted k (length ms)) ∙ within ms k
      where
        shifted : (k n : ℕ) → nat_lt (suc k) (suc n) ≡ nat_lt k n
        shifted k n = grind (arith, nat_tests)

-- an end above all numbers

pub higher_end : (numbers : List ℕ) (i end next : ℕ) → i < length numbers → end ≤ next → get_or numbers i 0 < next → All (λ k. k < end) (take i numbers) → All (λ k. k < next) (take (i + 1) numbers)
higher_end numbers i end next l up own all = All-more (λ k. k < next) numbers i 0 l (λ k d m. more (get_or (take i numbers) k d) (all k d m)) own
  where
    more : (k : ℕ) → k < end → k < next
    more k m = omega arith

-- a filter that keeps all

pub all_kept : (p : ℕ → Bool) (numbers : List ℕ) → All (λ k. IsTrue (p k)) numbers → numbers ≡ filter p numbers
all_kept p [] all = refl
all_kept p (x ∷ xs) all = one (p x) (All-head (λ k. IsTrue (p k)) x xs all) (all_kept p xs (All-tail (λ k. IsTrue (p k)) x xs all))
  where
    one : (b : Bool) → b ≡ true → xs ≡ filter p xs → x ∷ xs ≡ cond b (x ∷ filter p xs) (filter p xs)
    one true e h = ap (λ ys. x ∷ ys) h
    one false e h = untrue e
