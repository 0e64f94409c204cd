-- A split is determined, and each number lies in one piece.
use Rattle.std.proofs.Common.{◌≡◌, ℕ, ℤ, pos, ◌<◌, ◌+ℤ◌, ◌-ℤ◌, Bool, true, false, ◌||◌, ◌⊎◌, inl, inr, List, [], ◌∷◌, map, length, get_or, refl, ap, sym, ◌∙◌, arith, subst}
use Rattle.std.specs.Prelude.{IsTrue, int_le, int_lt}
use Rattle.std.specs.Ordering.{int_eq}
use Rattle.std.specs.List.{All, list_any}
use Rattle.std.proofs.lemmas.Int.{ints}
use Rattle.std.proofs.lemmas.Bool.Decides.{Decides-int_eq}
use Rattle.std.proofs.lemmas.List.{get_or_default}
use Rattle.std.proofs.lemmas.List.Elements.{All-head, All-tail}
use Rattle.std.proofs.lemmas.List.Folds.{Any-from_list_any}
use Rattle.match_model.specs.Numbers.{MEnd, Free, At, MRange, in_range, is_from, is_up_to}
use Rattle.match_model.specs.Pieces.{Follow, last_one, one_more, is_at}
use Rattle.range_split.specs.Ends.{ends_ascend}
use Rattle.range_split.specs.Splits.{IsSplit, some_has}
use Rattle.range_split.specs.Laws.{IsInOnePiece}
use Rattle.range_split.proofs.Basics.{both_true, and_true, same_bool, reflexive, back, piece_of}
use Rattle.range_split.specs.Walks.{range_of}
use Rattle.range_split.proofs.Following.{Follow-ascends}
use Rattle.range_split.proofs.Sides.{not_its_low, from_later, Follow-starts_from}

abbrev starts : ℤ → List MRange → Bool
starts n ps = list_any (λ p. is_at n p.low) ps

or_true : (a b : Bool) → a ≡ true → (a || b) ≡ true
or_true true b h = refl
or_true false b h = absurd (cc)

-- a piece begins at the low end
Follow-begins : {low high : MEnd} {ps : List MRange} → Follow low high ps → (n : ℤ) → is_at n low ≡ true → starts n ps ≡ true
Follow-begins (last_one low high m h) n e = or_true (is_at n low) false e
Follow-begins (one_more low high m rest h f) n e = or_true (is_at n low) (starts n rest) e

-- the end of a piece that another one follows is in the whole, and so is the next number
end_in : (low high : MEnd) (m : ℤ) → IsTrue (is_from low m) → IsTrue (ends_ascend (At (m +ℤ pos 1)) high) → IsTrue (in_range (range_of low high) (m +ℤ pos 1 -ℤ pos 1))
end_in low Free m p q = and_true _ _ (subst (λ x. IsTrue (is_from low x)) (sym (back m)) p) refl
end_in low (At b) m p q = and_true _ _ (subst (λ x. IsTrue (is_from low x)) (sym (back m)) p) (below m b q)
  where
    below : (m b : ℤ) → IsTrue (int_le (m +ℤ pos 1) b) → IsTrue (int_le (m +ℤ pos 1 -ℤ pos 1) b)
    below m b h = grind (arith, ints)

next_in : (low high : MEnd) (m : ℤ) → IsTrue (is_from low m) → IsTrue (ends_ascend (At (m +ℤ pos 1)) high) → IsTrue (in_range (range_of low high) (m +ℤ pos 1))
next_in low high m p q = and_true _ _ (from_later low (m +ℤ pos 1) m p (reflexive (m +ℤ pos 1))) (up high (m +ℤ pos 1) q)
  where
    up : (high : MEnd) (n : ℤ) → IsTrue (ends_ascend (At n) high) → IsTrue (is_up_to high n)
    up Free n h = refl
    up (At b) n h = h

not_start : (low : MEnd) (m : ℤ) → IsTrue (is_from low m) → is_at (m +ℤ pos 1) low ≡ false
not_start low m h = not_its_low low (m +ℤ pos 1) (subst (λ x. IsTrue (is_from low x)) (sym (back m)) h)

-- pieces that go on behind a number begin there
starts_next : (low high : MEnd) (m : ℤ) (rest : List MRange) → IsTrue (is_from low m) → Follow (At (m +ℤ pos 1)) high rest → starts (m +ℤ pos 1) (range_of low (At m) ∷ rest) ≡ true
starts_next low high m rest h f =
    ap (λ b. b || starts (m +ℤ pos 1) rest) (not_start low m h) ∙ Follow-begins f (m +ℤ pos 1) ((Decides-int_eq (m +ℤ pos 1) (m +ℤ pos 1)).1 refl)

-- pieces that go on behind a greater number do not
starts_later : (low high : MEnd) (m k : ℤ) (rest : List MRange) → IsTrue (is_from low m) → IsTrue (int_lt m k) → Follow (At (k +ℤ pos 1)) high rest → starts (m +ℤ pos 1) (range_of low (At k) ∷ rest) ≡ false
starts_later low high m k rest h less f =
    ap (λ b. b || starts (m +ℤ pos 1) rest) (not_start low m h) ∙ Follow-starts_from f (m +ℤ pos 1) (k +ℤ pos 1) refl (both m k less)
  where
    both : (m k : ℤ) → IsTrue (int_lt m k) → IsTrue (int_lt (m +ℤ pos 1) (k +ℤ pos 1))
    both m k h = grind (arith, ints)

differ : (b c : Bool) → b ≡ true → c ≡ false → b ≡ c → ⊥
differ b c s t e = let u : true ≡ false = sym s ∙ e ∙ t in absurd (cc)

three : (m k : ℤ) → (m ≡ k) ⊎ (IsTrue (int_lt m k) ⊎ IsTrue (int_lt k m))
three m k =
    elim (int_eq m k) as (λ t. int_eq m k ≡ t → (m ≡ k) ⊎ (IsTrue (int_lt m k) ⊎ IsTrue (int_lt k m))) [
      | true ↦ λ t. inl ((Decides-int_eq m k).0 t)
      | false ↦ λ t. elim (int_lt m k) as (λ u. int_lt m k ≡ u → (m ≡ k) ⊎ (IsTrue (int_lt m k) ⊎ IsTrue (int_lt k m))) [
        | true ↦ λ u. inr (inl u)
        | false ↦ λ u. inr (inr (above m k (λ e. let w : false ≡ true = sym t ∙ (Decides-int_eq m k).1 e in absurd (cc)) u))
      ] refl
    ] refl
  where
    above : (m k : ℤ) → (m ≡ k → ⊥) → int_lt m k ≡ false → IsTrue (int_lt k m)
    above m k p q = grind (arith, ints)

abbrev SameStarts : (low high : MEnd) → (xs ys : List MRange) → Type 0
SameStarts low high xs ys = (n : ℤ) → IsTrue (in_range (range_of low high) (n -ℤ pos 1)) → IsTrue (in_range (range_of low high) n) → starts n xs ≡ starts n ys

one_against : (low high : MEnd) (m : ℤ) (rest : List MRange) → IsTrue (is_from low m) → Follow (At (m +ℤ pos 1)) high rest → SameStarts low high (range_of low high ∷ []) (range_of low (At m) ∷ rest) → ⊥
one_against low high m rest h f same =
    let up = Follow-ascends f in
    differ (starts (m +ℤ pos 1) (range_of low (At m) ∷ rest)) (starts (m +ℤ pos 1) (range_of low high ∷ [])) (starts_next low high m rest h f)
    (ap (λ b. b || false) (not_start low m h)) (sym (same (m +ℤ pos 1) (end_in low high m h up) (next_in low high m h up)))

-- what follows from end to end is determined by where pieces begin
same_follow : {low high : MEnd} {xs ys : List MRange} → Follow low high xs → Follow low high ys → SameStarts low high xs ys → xs ≡ ys
same_follow (last_one low high m h) (last_one _ _ k i) same = refl
same_follow (last_one low high m h) (one_more _ _ k rest i f) same = absurd (one_against low high k rest (both_true _ _ i).0 f same)
same_follow (one_more low high m rest h f) (last_one _ _ k i) same = absurd (one_against low high m rest (both_true _ _ h).0 f (λ n p q. sym (same n p q)))
same_follow (one_more low high m rest h f) (one_more _ _ k tail i g) same =
    elim (three m k) [
      | inl e ↦
          let g' : Follow (At (m +ℤ pos 1)) high tail = subst (λ x. Follow (At (x +ℤ pos 1)) high tail) (sym e) g in
          let t : rest ≡ tail = same_follow f g' (λ n p q. rest_same n p q) in
          ap (λ x. range_of low (At x) ∷ rest) e ∙ ap (λ xs. range_of low (At k) ∷ xs) t
      | inr e ↦ elim e [
        | inl less ↦ absurd (first_less m k rest tail (both_true _ _ h).0 less f g same)
        | inr less ↦ absurd (first_less k m tail rest (both_true _ _ i).0 less g f (λ n p q. sym (same n p q)))
      ]
    ]
  where
    from : IsTrue (is_from low m)
    from = (both_true _ _ h).0

    wider : (n : ℤ) → IsTrue (in_range (range_of (At (m +ℤ pos 1)) high) n) → IsTrue (in_range (range_of low high) n)
    wider n p = let s = both_true _ _ p in and_true _ _ (from_later low n m from s.0) s.1

    cancel : (a b c : Bool) → a ≡ false → (a || b) ≡ (a || c) → b ≡ c
    cancel true b c p q = absurd (cc)
    cancel false b c p q = q

    rest_same : (n : ℤ) → IsTrue (in_range (range_of (At (m +ℤ pos 1)) high) (n -ℤ pos 1)) → IsTrue (in_range (range_of (At (m +ℤ pos 1)) high) n) → starts n rest ≡ starts n tail
    rest_same n p q =
        cancel (is_at n low) (starts n rest) (starts n tail) (not_its_low low n (both_true _ _ (wider (n -ℤ pos 1) p)).0) (same n (wider (n -ℤ pos 1) p) (wider n q))

    first_less : (m k : ℤ) (rest tail : List MRange) → IsTrue (is_from low m) → IsTrue (int_lt m k) → Follow (At (m +ℤ pos 1)) high rest → Follow (At (k +ℤ pos 1)) high tail →
        SameStarts low high (range_of low (At m) ∷ rest) (range_of low (At k) ∷ tail) → ⊥
    first_less m k rest tail p less f g same =
        differ (starts (m +ℤ pos 1) (range_of low (At m) ∷ rest)) (starts (m +ℤ pos 1) (range_of low (At k) ∷ tail))
        (starts_next low high m rest p f) (starts_later low high m k tail p less g)
        (same (m +ℤ pos 1) (end_in low high m p (Follow-ascends f)) (next_in low high m p (Follow-ascends f)))

same_piece : (g : MRange → Bool) (p q : MRange × Bool) → p.0 ≡ q.0 → p.1 ≡ g p.0 → q.1 ≡ g q.0 → p ≡ q
same_piece g p q s a b =
    let t : p.1 ≡ q.1 = a ∙ ap g s ∙ sym b in
    ap (λ (x : MRange). (x, p.1)) s ∙ ap (λ (y : Bool). (q.0, y)) t

same_pieces : (g : MRange → Bool) (ps qs : List (MRange × Bool)) → map piece_of ps ≡ map piece_of qs → All (λ p. p.1 ≡ g p.0) ps → All (λ p. p.1 ≡ g p.0) qs → ps ≡ qs
same_pieces g [] [] e a b = refl
same_pieces g [] (q ∷ qs) e a b = absurd (cc)
same_pieces g (p ∷ ps) [] e a b = absurd (cc)
same_pieces g (p ∷ ps) (q ∷ qs) e a b =
    let head : p.0 ≡ q.0 = cc in
    let tail : map piece_of ps ≡ map piece_of qs = cc in
    let x = same_piece g p q head (All-head (λ p. p.1 ≡ g p.0) p ps a) (All-head (λ p. p.1 ≡ g p.0) q qs b) in
    let xs = same_pieces g ps qs tail (All-tail (λ p. p.1 ≡ g p.0) p ps a) (All-tail (λ p. p.1 ≡ g p.0) q qs b) in
    ap (λ y. y ∷ ps) x ∙ ap (λ ys. q ∷ ys) xs

pub determined : (whole : MRange) (columns : List MRange) (ps qs : List (MRange × Bool)) → IsSplit whole columns ps → IsSplit whole columns qs → ps ≡ qs
determined whole columns ps qs p q =
    same_pieces (some_has columns) ps qs
    (same_follow p.cut.together q.cut.together
    (λ n before at. same_bool (starts n (map piece_of ps)) (starts n (map piece_of qs))
    (λ t. (q.cut.cut n before at).1 ((p.cut.cut n before at).0 t))
    (λ t. (p.cut.cut n before at).1 ((q.cut.cut n before at).0 t))))
    p.flagged q.flagged

pub in_one_piece : (whole : MRange) (columns : List MRange) (pieces : List (MRange × Bool)) → IsSplit whole columns pieces →
    (n : ℤ) → IsTrue (in_range whole n) → IsInOnePiece pieces n
in_one_piece whole columns pieces s n inside =
    let found = Any-from_list_any (λ p. in_range p.0 n) pieces (s.together n ∙ inside) in
    record {
      place = found.0;
      within = found.2;
      has = at found;
      only = λ k d l h. one k found.0 d l found.2 h (at found d);
    }
  where
    at : (f : (k : ℕ) × (x : MRange × Bool) × (k < length pieces) × (get_or pieces k x ≡ x) × (in_range x.0 n ≡ true)) → (d : MRange × Bool) → in_range (get_or pieces f.0 d).0 n ≡ true
    at f d = ap (λ (x : MRange × Bool). in_range x.0 n) (get_or_default pieces f.0 d f.1 f.2 ∙ f.3) ∙ f.4

    irreflexive : (n : ℤ) → IsTrue (int_lt n n) → ⊥
    irreflexive n h = grind (arith, ints)

    not_below : (i j : ℕ) (d : MRange × Bool) → i < j → j < length pieces → in_range (get_or pieces i d).0 n ≡ true → in_range (get_or pieces j d).0 n ≡ true → ⊥
    not_below i j d l m p q = irreflexive n (s.ascending i j d l m n n p q)

    one : (j k : ℕ) (d : MRange × Bool) → j < length pieces → k < length pieces → in_range (get_or pieces j d).0 n ≡ true → in_range (get_or pieces k d).0 n ≡ true → j ≡ k
    one j k d l m p q =
        let a : j < k → ⊥ = λ h. not_below j k d h m p q in
        let b : k < j → ⊥ = λ h. not_below k j d h l q p in
        omega arith
