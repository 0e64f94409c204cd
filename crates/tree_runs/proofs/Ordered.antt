-- Names with what they hold, the last one first.
use Rattle.std.proofs.Common.{◌≡◌, ℕ, suc, ◌<◌, true, false, List, [], ◌∷◌, ◌++◌, map, reverse, length, take, drop, get_or, refl, sym, ap, ◌∙◌, append_assoc}
use Rattle.std.specs.Ordering.{is_lt, match_ordering}
use Rattle.std.specs.declared.cmp.Ordering.{Ordering}
use Rattle.std.specs.declared.cmp.Ordering.TheVariants.{Less, Equal, Greater}
use Rattle.std.proofs.lemmas.List.{reverse-append, map-append}
use Rattle.std.proofs.Math.Seq.{drop-cons, take-suc}
use Rattle.match_model.specs.Texts.{compare_texts}
use Rattle.match_model.specs.Ways.{Binding, bind_into}
use Rattle.tree_runs.specs.declared.held.Held.{Held}
use Rattle.tree_runs.specs.Held.{plain_held, held_backward}

backward_both : (xs ys : List Held) → held_backward (xs ++ ys) ≡ held_backward ys ++ held_backward xs
backward_both xs ys = ap reverse (map-append plain_held xs ys) ∙ reverse-append (map plain_held xs) (map plain_held ys)

module _ (xs : List Held) (i : ℕ) (d : Held) (h : i < length xs) where
  taken_more : held_backward (take (suc i) xs) ≡ plain_held (get_or xs i d) ∷ held_backward (take i xs)
  taken_more = ap held_backward (take-suc xs i d h) ∙ backward_both (take i xs) (get_or xs i d ∷ [])

  dropped_less : held_backward (drop i xs) ≡ held_backward (drop (suc i) xs) ++ plain_held (get_or xs i d) ∷ []
  dropped_less = ap held_backward (drop-cons xs i d h) ∙ backward_both (get_or xs i d ∷ []) (drop (suc i) xs)

-- a name goes behind one that is less, and before one that is not
goes_behind : (o : Ordering) (t u w : List Binding) → is_lt o ≡ true → match_ordering o t u w ≡ t
goes_behind Less t u w e = refl
goes_behind Equal t u w e = cc
goes_behind Greater t u w e = cc

goes_before : (o : Ordering) (t u : List Binding) → is_lt o ≡ false → match_ordering o t u u ≡ u
goes_before Less t u e = cc
goes_before Equal t u e = refl
goes_before Greater t u e = refl

-- the place of a name is among those that are not passed yet
abbrev pub IsPassed : List Held → (name : List ℕ) → (at : ℕ) → Type 0
IsPassed xs name at =
    (b : Binding) → b.name ≡ name →
    bind_into b (held_backward xs) ≡ held_backward (drop at xs) ++ bind_into b (held_backward (take at xs))

-- the place of a name is here
abbrev pub IsPlace : List Held → (name : List ℕ) → (at : ℕ) → Type 0
IsPlace xs name at =
    (b : Binding) → b.name ≡ name →
    bind_into b (held_backward xs) ≡ held_backward (drop at xs) ++ b ∷ held_backward (take at xs)

pub none_passed : (xs : List Held) (name : List ℕ) → IsPassed xs name (length xs)
none_passed xs name b e =
    sym (ap (λ l. held_backward l ++ bind_into b (held_backward (take (length xs) xs))) (drop_all_of xs)
    ∙ ap (λ l. bind_into b (held_backward l)) (take_all_of xs))
  where
    drop_all_of : (l : List Held) → drop (length l) l ≡ []
    drop_all_of [] = refl
    drop_all_of (x ∷ l) = drop_all_of l

    take_all_of : (l : List Held) → take (length l) l ≡ l
    take_all_of [] = refl
    take_all_of (x ∷ l) = ap (λ m. x ∷ m) (take_all_of l)

pub all_passed : (xs : List Held) (name : List ℕ) → IsPassed xs name 0 → IsPlace xs name 0
all_passed xs name p b e = p b e

module _ (xs : List Held) (name : List ℕ) (i : ℕ) (d : Held) (h : i < length xs) (p : IsPassed xs name (suc i)) where
  abbrev Last : Binding
  Last = plain_held (get_or xs i d)

  pub one_passed : is_lt (compare_texts Last.name name) ≡ true → IsPassed xs name i
  one_passed less b e =
      let less_here : is_lt (compare_texts Last.name b.name) ≡ true = ap (λ n. is_lt (compare_texts Last.name n)) e
      ∙ less in
      let rest = bind_into b (held_backward (take i xs)) in
      p b e
      ∙ ap (λ l. held_backward (drop (suc i) xs) ++ bind_into b l) (taken_more xs i d h)
      ∙ ap (λ l. held_backward (drop (suc i) xs) ++ l)
      (goes_behind (compare_texts Last.name b.name) (Last ∷ rest) (b ∷ Last ∷ held_backward (take i xs))
      (b ∷ Last ∷ held_backward (take i xs)) less_here)
      ∙ sym (append_assoc (held_backward (drop (suc i) xs)) (Last ∷ []) rest)
      ∙ ap (λ l. l ++ rest) (sym (dropped_less xs i d h))

  pub stays_behind : is_lt (compare_texts Last.name name) ≡ false → IsPlace xs name (suc i)
  stays_behind not_less b e =
      let not_here : is_lt (compare_texts Last.name b.name) ≡ false = ap (λ n. is_lt (compare_texts Last.name n)) e
      ∙ not_less in
      let rest = bind_into b (held_backward (take i xs)) in
      p b e
      ∙ ap (λ l. held_backward (drop (suc i) xs) ++ bind_into b l) (taken_more xs i d h)
      ∙ ap (λ l. held_backward (drop (suc i) xs) ++ l)
      (goes_before (compare_texts Last.name b.name) (Last ∷ rest) (b ∷ Last ∷ held_backward (take i xs)) not_here)
      ∙ ap (λ l. held_backward (drop (suc i) xs) ++ b ∷ l) (sym (taken_more xs i d h))

-- one more among the names
pub one_inserted : (xs : List Held) (at : ℕ) (x : Held) →
    held_backward (take at xs ++ x ∷ drop at xs)
    ≡ held_backward (drop at xs) ++ plain_held x ∷ held_backward (take at xs)
one_inserted xs at x =
    backward_both (take at xs) (x ∷ drop at xs)
    ∙ ap (λ l. l ++ held_backward (take at xs)) (backward_both (x ∷ []) (drop at xs))
    ∙ append_assoc (held_backward (drop at xs)) (plain_held x ∷ []) (held_backward (take at xs))

-- the names the other way round
pub reversed_back : (xs : List Held) → map plain_held (reverse xs) ≡ held_backward xs
reversed_back [] = refl
reversed_back (x ∷ xs) =
    ap (map plain_held) (reverse-append (x ∷ []) xs) ∙ map-append plain_held (reverse xs) (x ∷ [])
    ∙ ap (λ l. l ++ plain_held x ∷ []) (reversed_back xs) ∙ sym (backward_both (x ∷ []) xs)
