-- How many ranges have a number: those that have begun without those that have ended.
use Rattle.std.proofs.Common.{◌≡◌, ℕ, ℤ, pos, ◌+◌, ◌+ℤ◌, ◌-ℤ◌, Bool, true, false, not, cond, ◌&&◌, ◌||◌, List, [], ◌∷◌, ◌++◌, refl, arith, sym, ◌∙◌, ap, subst, zero-add}
use Rattle.std.specs.Prelude.{IsTrue, int_le, int_lt, nat_eq}
use Rattle.std.specs.Ordering.{int_eq}
use Rattle.std.specs.List.{All, list_any, count_by}
use Rattle.std.proofs.lemmas.Int.{ints}
use Rattle.std.proofs.lemmas.Bool.Decides.{Decides-int_eq, nat_tests}
use Rattle.std.proofs.lemmas.List.Elements.{All-nil, All-cons, All-head, All-tail, All-append}
use Rattle.std.proofs.lemmas.List.Sums.{sum_by-cons, sum_by-append}
use Rattle.std.proofs.lemmas.List.Folds.{list_any-append}
use Rattle.match_model.specs.Numbers.{MEnd, Free, At, MRange, in_range, is_from, is_up_to}
use Rattle.match_model.specs.Constructors.{low_within}
use Rattle.match_model.specs.Pieces.{is_at, is_cut_at}
use Rattle.range_split.specs.Ends.{ends_ascend}
use Rattle.range_split.specs.Cuts.{begin_cut, end_cut, cuts_of, has_start, begun_at, ended_at}
use Rattle.range_split.proofs.Basics.{both_true, and_true, or_false, same_bool}
use Rattle.range_split.proofs.Held.{not_equal}
use Rattle.range_split.specs.Walks.{range_of}
use Rattle.range_split.specs.Walks.{bit}

-- a cut where a test holds
abbrev cut_if : Bool → ℤ × Bool → List (ℤ × Bool)
cut_if t c = cond t (c ∷ []) []

begun_if : (t : Bool) (a n : ℤ) → begun_at n (cut_if t (a, true)) ≡ bit (t && int_le a n)
begun_if true a n = zero-add (bit (int_le a n))
begun_if false a n = refl

ended_if : (t : Bool) (a n : ℤ) → ended_at n (cut_if t (a, false)) ≡ bit (t && int_le a n)
ended_if true a n = zero-add (bit (int_le a n))
ended_if false a n = refl

not_begun : (t : Bool) (a n : ℤ) → begun_at n (cut_if t (a, false)) ≡ 0
not_begun true a n = refl
not_begun false a n = refl

not_ended : (t : Bool) (a n : ℤ) → ended_at n (cut_if t (a, true)) ≡ 0
not_ended true a n = refl
not_ended false a n = refl

differs : (a b : ℤ) → not (int_eq a b) ≡ (int_lt a b || int_lt b a)
differs a b =
    elim (int_eq a b) as (λ t. int_eq a b ≡ t → not t ≡ (int_lt a b || int_lt b a)) [
      | true ↦ λ t. same a b ((Decides-int_eq a b).0 t)
      | false ↦ λ t. other a b (not_equal a b t)
    ] refl
  where
    same : (a b : ℤ) → a ≡ b → false ≡ (int_lt a b || int_lt b a)
    same a b e = grind (arith, ints)

    other : (a b : ℤ) → (a ≡ b → ⊥) → true ≡ (int_lt a b || int_lt b a)
    other a b e = grind (arith, ints)

-- a range has begun at a number of the whole where it has the start of the whole's low end or has begun inside
begun_one : (low high a : MEnd) (n : ℤ) → IsTrue (in_range (range_of low high) n) → bit (low_within a low) + begun_at n (begin_cut (range_of low high) a) ≡ bit (is_from a n)
begun_one low high Free n h = refl
begun_one Free high (At a) n h =
    ap (λ k. 0 + k) (begun_if (in_range (range_of Free high) a && not false) a n) ∙ zero-add (bit ((in_range (range_of Free high) a && not false) && int_le a n)) ∙ ap bit (inside high a n h)
  where
    inside : (high : MEnd) (a n : ℤ) → IsTrue (is_up_to high n) → ((is_up_to high a && true) && int_le a n) ≡ int_le a n
    inside Free a n h = refl
    inside (At b) a n h = grind (arith, ints)
begun_one (At l) high (At a) n h =
    ap (λ k. bit (int_le a l) + k) (begun_if (in_range (range_of (At l) high) a && not (int_eq a l)) a n)
    ∙ ap (λ t. bit (int_le a l) + bit ((in_range (range_of (At l) high) a && t) && int_le a n)) (differs a l)
    ∙ inside l high a n (both_true _ _ h).0 (both_true _ _ h).1
  where
    fin : (h n : Bool) → ((h && false) && n) ≡ false
    fin true n = refl
    fin false n = refl

    dead : (x h w n : Bool) → (x ≡ true → w ≡ false) → (((x && h) && w) && n) ≡ false
    dead false h w n g = refl
    dead true h w n g = ap (λ w. (h && w) && n) (g refl) ∙ fin h n

    live : (h n : Bool) → (n ≡ true → h ≡ true) → ((h && true) && n) ≡ n
    live true n g = refl
    live false true g = g refl
    live false false g = refl

    sums : (t x h w n : Bool) → (t ≡ true → n ≡ true) → (t ≡ true → x ≡ true → w ≡ false) → (t ≡ false → x ≡ true) → (t ≡ false → w ≡ true) → (n ≡ true → h ≡ true) →
        bit t + bit (((x && h) && w) && n) ≡ bit n
    sums true x h w n f g i j k = ap (λ b. 1 + bit b) (dead x h w n (g refl)) ∙ sym (ap bit (f refl))
    sums false x h w n f g i j k =
        zero-add (bit (((x && h) && w) && n)) ∙ ap (λ b. bit (((b && h) && w) && n)) (i refl) ∙ ap (λ b. bit ((h && b) && n)) (j refl) ∙ ap bit (live h n k)

    reach : (high : MEnd) (a n : ℤ) → IsTrue (is_up_to high n) → int_le a n ≡ true → is_up_to high a ≡ true
    reach Free a n p q = refl
    reach (At b) a n p q = grind (arith, ints)

    first : (l a n : ℤ) → IsTrue (int_le l n) → int_le a l ≡ true → int_le a n ≡ true
    first l a n p q = grind (arith, ints)

    second : (l a : ℤ) → int_le a l ≡ true → int_le l a ≡ true → (int_lt a l || int_lt l a) ≡ false
    second l a p q = grind (arith, ints)

    third : (l a : ℤ) → int_le a l ≡ false → int_le l a ≡ true
    third l a p = grind (arith, ints)

    fourth : (l a : ℤ) → int_le a l ≡ false → (int_lt a l || int_lt l a) ≡ true
    fourth l a p = grind (arith, ints)

    inside : (l : ℤ) (high : MEnd) (a n : ℤ) → IsTrue (int_le l n) → IsTrue (is_up_to high n) →
        bit (int_le a l) + bit (((int_le l a && is_up_to high a) && (int_lt a l || int_lt l a)) && int_le a n) ≡ bit (int_le a n)
    inside l high a n p q =
        sums (int_le a l) (int_le l a) (is_up_to high a) (int_lt a l || int_lt l a) (int_le a n) (first l a n p) (second l a) (third l a) (fourth l a) (reach high a n q)

-- a range has ended before a number of the whole where it reaches the whole and is not up to the number
ended_one : (low high b : MEnd) (n : ℤ) → IsTrue (in_range (range_of low high) n) → ended_at n (end_cut (range_of low high) b) ≡ bit (ends_ascend low b && not (is_up_to b n))
ended_one Free high Free n h = refl
ended_one (At l) high Free n h = refl
ended_one low Free (At b) n h =
    ended_if (in_range (range_of low Free) b && not false) (b +ℤ pos 1) n ∙ ap bit (inside low b n)
  where
    inside : (low : MEnd) (b n : ℤ) → (((is_from low b && true) && true) && int_le (b +ℤ pos 1) n) ≡ (ends_ascend low (At b) && not (int_le n b))
    inside Free b n = grind (arith, ints)
    inside (At l) b n = grind (arith, ints)
ended_one low (At g) (At b) n h =
    ended_if (in_range (range_of low (At g)) b && not (int_eq b g)) (b +ℤ pos 1) n
    ∙ ap (λ t. bit ((in_range (range_of low (At g)) b && t) && int_le (b +ℤ pos 1) n)) (differs b g)
    ∙ ap bit (inside low g b n (both_true _ _ h).1)
  where
    inside : (low : MEnd) (g b n : ℤ) → IsTrue (int_le n g) → (((is_from low b && int_le b g) && (int_lt b g || int_lt g b)) && int_le (b +ℤ pos 1) n) ≡ (ends_ascend low (At b) && not (int_le n b))
    inside Free g b n h = grind (arith, ints)
    inside (At l) g b n h = grind (arith, ints)

begun_end : (whole : MRange) (b : MEnd) (n : ℤ) → begun_at n (end_cut whole b) ≡ 0
begun_end whole Free n = refl
begun_end whole (At b) n = not_begun (in_range whole b && not (is_at b whole.high)) (b +ℤ pos 1) n

ended_begin : (whole : MRange) (a : MEnd) (n : ℤ) → ended_at n (begin_cut whole a) ≡ 0
ended_begin whole Free n = refl
ended_begin whole (At a) n = not_ended (in_range whole a && not (is_at a whole.low)) a n

abbrev cuts_one : MRange → MRange → List (ℤ × Bool)
cuts_one whole r = begin_cut whole r.low ++ end_cut whole r.high

-- of one range: it has begun and not ended exactly where it has the number
one_range : (whole r : MRange) (n : ℤ) → IsTrue (in_range whole n) → IsTrue (ends_ascend r.low r.high) →
    bit (has_start whole r) + begun_at n (cuts_one whole r) ≡ bit (in_range r n) + ended_at n (cuts_one whole r)
one_range whole r n h up =
    let b = sum_by-append (λ (c : ℤ × Bool). bit (c.1 && int_le c.0 n)) (begin_cut whole r.low) (end_cut whole r.high) in
    let e = sum_by-append (λ (c : ℤ × Bool). bit (not c.1 && int_le c.0 n)) (begin_cut whole r.low) (end_cut whole r.high) in
    let began = begun_one whole.low whole.high r.low n h in
    let ended = ended_one whole.low whole.high r.high n h in
    let reach = ends_ascend whole.low r.high in
    adds (low_within r.low whole.low) reach (is_from r.low n) (is_up_to r.high n)
    (begun_at n (begin_cut whole r.low)) (begun_at n (end_cut whole r.high)) (ended_at n (begin_cut whole r.low)) (ended_at n (end_cut whole r.high))
    (begun_at n (cuts_one whole r)) (ended_at n (cuts_one whole r))
    b e (begun_end whole r.high n) (ended_begin whole r.low n) began ended
    (past r.low r.high n up) (short r.high whole.low n (both_true _ _ h).0) (early r.low r.high whole.low up)
  where
    past : (low high : MEnd) (n : ℤ) → IsTrue (ends_ascend low high) → is_up_to high n ≡ false → is_from low n ≡ true
    past Free high n up h = refl
    past (At a) Free n up h = absurd (cc)
    past (At a) (At b) n up h = grind (arith, ints)

    short : (high low : MEnd) (n : ℤ) → IsTrue (is_from low n) → ends_ascend low high ≡ false → is_up_to high n ≡ false
    short Free Free n h e = e
    short Free (At l) n h e = e
    short (At b) Free n h e = absurd (cc)
    short (At b) (At l) n h e = grind (arith, ints)

    early : (low high start : MEnd) → IsTrue (ends_ascend low high) → ends_ascend start high ≡ false → low_within low start ≡ true
    early Free high start up e = refl
    early (At a) Free Free up e = absurd (cc)
    early (At a) Free (At l) up e = absurd (cc)
    early (At a) (At b) Free up e = absurd (cc)
    early (At a) (At b) (At l) up e = grind (arith, ints)

    adds : (w r l u : Bool) (bb be eb ee b e : ℕ) → b ≡ bb + be → e ≡ eb + ee → be ≡ 0 → eb ≡ 0 → bit w + bb ≡ bit l → ee ≡ bit (r && not u) →
        (u ≡ false → l ≡ true) → (r ≡ false → u ≡ false) → (r ≡ false → w ≡ true) → bit (w && r) + b ≡ bit (l && u) + e
    adds true true true true bb be eb ee b e p q s t x y f g i = omega arith
    adds true true true false bb be eb ee b e p q s t x y f g i = omega arith
    adds true true false true bb be eb ee b e p q s t x y f g i = omega arith
    adds true true false false bb be eb ee b e p q s t x y f g i = omega arith
    adds true false true true bb be eb ee b e p q s t x y f g i = let z : true ≡ false = g refl in absurd (cc)
    adds true false true false bb be eb ee b e p q s t x y f g i = omega arith
    adds true false false true bb be eb ee b e p q s t x y f g i = let z : true ≡ false = g refl in absurd (cc)
    adds true false false false bb be eb ee b e p q s t x y f g i = let z : false ≡ true = f refl in absurd (cc)
    adds false true true true bb be eb ee b e p q s t x y f g i = omega arith
    adds false true true false bb be eb ee b e p q s t x y f g i = omega arith
    adds false true false true bb be eb ee b e p q s t x y f g i = omega arith
    adds false true false false bb be eb ee b e p q s t x y f g i = let z : false ≡ true = f refl in absurd (cc)
    adds false false l u bb be eb ee b e p q s t x y f g i = let z : false ≡ true = i refl in absurd (cc)

-- of a column: as many ranges have a number as have begun and not ended there
pub having : (whole : MRange) (columns : List MRange) (n : ℤ) → IsTrue (in_range whole n) → All (λ r. IsTrue (ends_ascend r.low r.high)) columns →
    count_by (has_start whole) columns + begun_at n (cuts_of whole columns) ≡ count_by (λ r. in_range r n) columns + ended_at n (cuts_of whole columns)
having whole [] n h up = refl
having whole (r ∷ rs) n h up =
    let H : MRange → Type 0 = λ r. IsTrue (ends_ascend r.low r.high) in
    let one = one_range whole r n h (All-head H r rs up) in
    let more = having whole rs n h (All-tail H r rs up) in
    let s = sum_by-cons (λ (r : MRange). bit (has_start whole r)) r rs in
    let i = sum_by-cons (λ (r : MRange). bit (in_range r n)) r rs in
    let b = sum_by-append (λ (c : ℤ × Bool). bit (c.1 && int_le c.0 n)) (cuts_one whole r) (cuts_of whole rs) in
    let e = sum_by-append (λ (c : ℤ × Bool). bit (not c.1 && int_le c.0 n)) (cuts_one whole r) (cuts_of whole rs) in
    adds (bit (has_start whole r)) (count_by (has_start whole) rs) (begun_at n (cuts_one whole r)) (begun_at n (cuts_of whole rs))
    (bit (in_range r n)) (count_by (λ r. in_range r n) rs) (ended_at n (cuts_one whole r)) (ended_at n (cuts_of whole rs))
    _ _ _ _ s i b e one more
  where
    adds : (s0 s b0 b i0 i e0 e s' i' b' e' : ℕ) → s' ≡ s0 + s → i' ≡ i0 + i → b' ≡ b0 + b → e' ≡ e0 + e → s0 + b0 ≡ i0 + e0 → s + b ≡ i + e → s' + b' ≡ i' + e'
    adds s0 s b0 b i0 i e0 e s' i' b' e' p q r t x y = omega arith

-- the count is not zero exactly where some range has the number
pub some_counted : {A : Type 0} (p : A → Bool) (xs : List A) → not (nat_eq (count_by p xs) 0) ≡ list_any p xs
some_counted p [] = refl
some_counted p (x ∷ xs) =
    ap (λ k. not (nat_eq k 0)) (sum_by-cons (λ y. bit (p y)) x xs) ∙ one (p x) (count_by p xs) ∙ ap (λ b. p x || b) (some_counted p xs)
  where
    one : (t : Bool) (k : ℕ) → not (nat_eq (bit t + k) 0) ≡ (t || not (nat_eq k 0))
    one true k = grind (arith, nat_tests)
    one false k = ap (λ x. not (nat_eq x 0)) (zero-add k)

-- ---- where the cuts are

any_cut_if : (t : Bool) (a n : ℤ) (b : Bool) → list_any (λ c. int_eq n c.0) (cut_if t (a, b)) ≡ (t && int_eq n a)
any_cut_if true a n b = or_false (int_eq n a)
any_cut_if false a n b = refl

begins_at : (whole : MRange) (a : MEnd) (n : ℤ) → IsTrue (in_range whole (n -ℤ pos 1)) → IsTrue (in_range whole n) → list_any (λ c. int_eq n c.0) (begin_cut whole a) ≡ is_at n a
begins_at whole Free n p q = refl
begins_at whole (At a) n p q =
    any_cut_if (in_range whole a && not (is_at a whole.low)) a n true ∙
    same_bool ((in_range whole a && not (is_at a whole.low)) && int_eq n a) (int_eq n a)
    (λ t. (both_true _ _ t).1)
    (λ t. let e = (Decides-int_eq n a).0 t in and_true _ _ (subst (λ x. (in_range whole x && not (is_at x whole.low)) ≡ true) e (and_true _ _ q (off whole.low n (both_true _ _ p).0))) t)
  where
    off : (low : MEnd) (n : ℤ) → IsTrue (is_from low (n -ℤ pos 1)) → not (is_at n low) ≡ true
    off Free n h = refl
    off (At l) n h = differs n l ∙ numbers l n h
      where
        numbers : (l n : ℤ) → IsTrue (int_le l (n -ℤ pos 1)) → (int_lt n l || int_lt l n) ≡ true
        numbers l n h = grind (arith, ints)

ends_at : (whole : MRange) (b : MEnd) (n : ℤ) → IsTrue (in_range whole (n -ℤ pos 1)) → IsTrue (in_range whole n) → list_any (λ c. int_eq n c.0) (end_cut whole b) ≡ is_at (n -ℤ pos 1) b
ends_at whole Free n p q = refl
ends_at whole (At b) n p q =
    any_cut_if (in_range whole b && not (is_at b whole.high)) (b +ℤ pos 1) n false ∙
    same_bool ((in_range whole b && not (is_at b whole.high)) && int_eq n (b +ℤ pos 1)) (int_eq (n -ℤ pos 1) b)
    (λ t. (Decides-int_eq (n -ℤ pos 1) b).1 (before n b ((Decides-int_eq n (b +ℤ pos 1)).0 (both_true _ _ t).1)))
    (λ t. let e = (Decides-int_eq (n -ℤ pos 1) b).0 t in
    and_true _ _ (subst (λ x. (in_range whole x && not (is_at x whole.high)) ≡ true) e (and_true _ _ p (off whole.high n (both_true _ _ q).1)))
    ((Decides-int_eq n (b +ℤ pos 1)).1 (behind n b e)))
  where
    before : (n b : ℤ) → n ≡ b +ℤ pos 1 → n -ℤ pos 1 ≡ b
    before n b e = omega (arith, ints)

    behind : (n b : ℤ) → n -ℤ pos 1 ≡ b → n ≡ b +ℤ pos 1
    behind n b e = omega (arith, ints)

    off : (high : MEnd) (n : ℤ) → IsTrue (is_up_to high n) → not (is_at (n -ℤ pos 1) high) ≡ true
    off Free n h = refl
    off (At g) n h = differs (n -ℤ pos 1) g ∙ numbers g n h
      where
        numbers : (g n : ℤ) → IsTrue (int_le n g) → (int_lt (n -ℤ pos 1) g || int_lt g (n -ℤ pos 1)) ≡ true
        numbers g n h = grind (arith, ints)

-- inside the whole the cuts are those of the definitions
pub cuts_at : (whole : MRange) (columns : List MRange) (n : ℤ) → IsTrue (in_range whole (n -ℤ pos 1)) → IsTrue (in_range whole n) →
    list_any (λ c. int_eq n c.0) (cuts_of whole columns) ≡ is_cut_at columns n
cuts_at whole [] n p q = refl
cuts_at whole (r ∷ rs) n p q =
    list_any-append (λ (c : ℤ × Bool). int_eq n c.0) (cuts_one whole r) (cuts_of whole rs)
    ∙ ap (λ b. b || list_any (λ (c : ℤ × Bool). int_eq n c.0) (cuts_of whole rs))
    (list_any-append (λ (c : ℤ × Bool). int_eq n c.0) (begin_cut whole r.low) (end_cut whole r.high)
    ∙ ap (λ b. b || list_any (λ (c : ℤ × Bool). int_eq n c.0) (end_cut whole r.high)) (begins_at whole r.low n p q)
    ∙ ap (λ b. is_at n r.low || b) (ends_at whole r.high n p q))
    ∙ ap (λ b. (is_at n r.low || is_at (n -ℤ pos 1) r.high) || b) (cuts_at whole rs n p q)

-- each cut is inside the whole
abbrev pub IsInside : MRange → ℤ × Bool → Type 0
IsInside whole c = IsTrue (is_from whole.low c.0) × IsTrue (is_up_to whole.high c.0)

inside_if : (whole : MRange) (t : Bool) (c : ℤ × Bool) → (t ≡ true → IsInside whole c) → All (IsInside whole) (cut_if t c)
inside_if whole true c h = All-cons (IsInside whole) c [] (h refl) (All-nil (IsInside whole))
inside_if whole false c h = All-nil (IsInside whole)

inside_begin : (whole : MRange) (a : MEnd) → All (IsInside whole) (begin_cut whole a)
inside_begin whole Free = All-nil (IsInside whole)
inside_begin whole (At a) = inside_if whole (in_range whole a && not (is_at a whole.low)) (a, true) (λ t. both_true _ _ (both_true _ _ t).0)

inside_end : (whole : MRange) (b : MEnd) → All (IsInside whole) (end_cut whole b)
inside_end whole Free = All-nil (IsInside whole)
inside_end whole (At b) =
    inside_if whole (in_range whole b && not (is_at b whole.high)) (b +ℤ pos 1, false)
    (λ t. let p = both_true _ _ t in let q = both_true _ _ p.0 in (from whole.low b q.0, up_to whole.high b q.1 p.1))
  where
    from : (low : MEnd) (b : ℤ) → IsTrue (is_from low b) → IsTrue (is_from low (b +ℤ pos 1))
    from Free b h = refl
    from (At l) b h = grind (arith, ints)

    up_to : (high : MEnd) (b : ℤ) → IsTrue (is_up_to high b) → not (is_at b high) ≡ true → IsTrue (is_up_to high (b +ℤ pos 1))
    up_to Free b h k = refl
    up_to (At g) b h k = numbers g b h (sym (differs b g) ∙ k)
      where
        numbers : (g b : ℤ) → IsTrue (int_le b g) → (int_lt b g || int_lt g b) ≡ true → IsTrue (int_le (b +ℤ pos 1) g)
        numbers g b h k = grind (arith, ints)

pub all_inside : (whole : MRange) (columns : List MRange) → All (IsInside whole) (cuts_of whole columns)
all_inside whole [] = All-nil (IsInside whole)
all_inside whole (r ∷ rs) =
    All-append (IsInside whole) (cuts_one whole r) (cuts_of whole rs)
    (All-append (IsInside whole) (begin_cut whole r.low) (end_cut whole r.high) (inside_begin whole r.low) (inside_end whole r.high))
    (all_inside whole rs)
