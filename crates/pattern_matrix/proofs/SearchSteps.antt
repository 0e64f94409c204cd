-- A search keeps what it says, gets less at each step, and tells at its end exactly what values come to.
use Rattle.std.proofs.Common.{◌≡◌, ◌⊎◌, inl, inr, ◌↔◌, ◌≤◌, ◌<◌, ℕ, zero, suc, ◌+◌, ◌*◌, Bool, true, false, not, ◌&&◌, ◌||◌, List, [], ◌∷◌, ◌++◌, length, nat_eq, refl, sym, ap, subst, ◌∙◌, arith, map}
use Rattle.std.specs.List.{list_all, Contains}
use Rattle.match_model.specs.Values.{MValue}
use Rattle.match_model.specs.Contexts.{Context, Open}
use Rattle.match_model.specs.ContextLaws.{PartsLaw, ValuesLaw}
use Rattle.match_model.specs.Rows.{starts_wild}
use Rattle.match_model.proofs.Basics.{untrue, both}
use Rattle.match_model.specs.Weights.{heads_weight, rows_weight}
use Rattle.pat_context.specs.Parts.{AreValues}
use Rattle.pattern_matrix.specs.Covering.{row_takes}
use Rattle.pattern_matrix.specs.Counting.{Question, WantedRow, has_chosen, heads_pass, row_answers, row_stops, counts}
use Rattle.pattern_matrix.specs.Searching.{Submatrix, weight_of, heads_in, IsFit, Comes, SomeComes, apart, IsSplit, StandFor, IsAccounted, IsSearch, IsLookedAt, power, work, AreListed, AreAlike, is_bare, DoFor}
use Rattle.pattern_matrix.proofs.HandingOn.{here, there, in_cons}
use Rattle.pattern_matrix.proofs.ListedRows.{part_typed, part_made, part_weighs, noted_counts}
use Rattle.pattern_matrix.proofs.Splitting.{splits_hand_on}

-- membership

in_left : {A : Type 0} (xs ys : List A) (z : A) → Contains xs z → Contains (xs ++ ys) z
in_left [] ys z (k, l, e) = absurd (omega (arith, l))
in_left (x ∷ xs) ys z (zero, l, e) = (zero, omega arith, e)
in_left (x ∷ xs) ys z (suc k, l, e) = there x z (xs ++ ys) (in_left xs ys z (k, omega (arith, l), e))

in_right : {A : Type 0} (xs ys : List A) (z : A) → Contains ys z → Contains (xs ++ ys) z
in_right [] ys z c = c
in_right (x ∷ xs) ys z c = there x z (xs ++ ys) (in_right xs ys z c)

in_either : {A : Type 0} (xs ys : List A) (z : A) → Contains (xs ++ ys) z → Contains xs z ⊎ Contains ys z
in_either [] ys z c = inr c
in_either (x ∷ xs) ys z (zero, l, e) = inl (zero, omega arith, e)
in_either (x ∷ xs) ys z (suc k, l, e) =
    elim (in_either xs ys z (k, omega (arith, l), e)) [ inl c ↦ inl (there x z xs c) | inr c ↦ inr c ]

the_one : {A : Type 0} (x z : A) → Contains (x ∷ []) z → x ≡ z
the_one x z (zero, l, e) = e
the_one x z (suc k, l, e) = absurd (omega (arith, l))

-- the work

work_append : {T : Type 0} (b : ℕ) (xs ys : List (Submatrix T)) → work b (xs ++ ys) ≡ work b xs + work b ys
work_append b [] ys = omega arith
work_append b (x ∷ xs) ys = let e = work_append b xs ys in omega (arith, e)

times_more : (a b c : ℕ) → b ≤ c → a * b ≤ a * c
times_more zero b c h = omega arith
times_more (suc a) b c h = let k : a * b ≤ a * c = times_more a b c h in omega (arith, k, h)

power_some : (b n : ℕ) → 1 ≤ b → 1 ≤ power b n
power_some b zero h = omega arith
power_some b (suc n) h = let k = power_some b n h in let m = times_more b 1 (power b n) k in omega (arith, m, h)

power_more : (b n m : ℕ) → 1 ≤ b → n ≤ m → power b n ≤ power b m
power_more b zero m h l = power_some b m h
power_more b (suc n) zero h l = absurd (omega (arith, l))
power_more b (suc n) (suc m) h l = times_more b (power b n) (power b m) (power_more b n m h (omega (arith, l)))

times_less : (a b c : ℕ) → a < b → 1 ≤ c → a * c < b * c
times_less zero zero c h k = absurd (omega (arith, h))
times_less zero (suc b) c h k = omega (arith, k)
times_less (suc a) zero c h k = absurd (omega (arith, h))
times_less (suc a) (suc b) c h k = let m : a * c < b * c = times_less a b c (omega (arith, h)) k in omega (arith, m)

-- submatrices that weigh at most so much
work_most : {T : Type 0} (b w : ℕ) (new : List (Submatrix T)) → 1 ≤ b → ((n : Submatrix T) → Contains new n → weight_of n < suc w) → work b new ≤ length new * power b w
work_most b w [] h f = omega arith
work_most b w (n ∷ new) h f =
    let k = power_more b (weight_of n) w h (let l = f n (here n new) in omega (arith, l)) in
    let m = work_most b w new h (λ x c. f x (there n x new c)) in
    omega (arith, k, m)

new_works : {T : Type 0} (b w : ℕ) (new : List (Submatrix T)) → length new < b → ((n : Submatrix T) → Contains new n → weight_of n < w) → work b new < power b w
new_works b zero [] h f = omega arith
new_works b zero (n ∷ new) h f = let l = f n (here n new) in absurd (omega (arith, l))
new_works b (suc w) new h f =
    let k = work_most b w new (omega (arith, h)) f in
    let m = times_less (length new) b (power b w) h (power_some b w (omega (arith, h))) in
    omega (arith, k, m)

pub work_falls : {T : Type 0} (b : ℕ) (todo new : List (Submatrix T)) (s : Submatrix T) → length new < b → ((n : Submatrix T) → Contains new n → weight_of n < weight_of s) →
    work b (todo ++ new) < work b (todo ++ s ∷ [])
work_falls b todo new s h f =
    let k = new_works b (weight_of s) new h f in
    let a = work_append b todo new in
    let c = work_append b todo (s ∷ []) in
    omega (arith, k, a, c)

pub work_less : {T : Type 0} (b : ℕ) (todo : List (Submatrix T)) (s : Submatrix T) → 1 ≤ b → work b todo < work b (todo ++ s ∷ [])
work_less b todo s h =
    let c = work_append b todo (s ∷ []) in
    let k = power_some b (weight_of s) h in
    omega (arith, c, k)

-- rows that say the same

alike_counts : {T : Type 0} (is_marked : Question → Bool) (q : Question) (rows others : List (WantedRow T)) (vs : List MValue) → is_marked q ≡ false → AreAlike is_marked rows others →
    counts q rows vs ≡ true → counts q others vs ≡ true
alike_counts is_marked q [] others vs m a e = untrue e
alike_counts is_marked q (x ∷ rows) [] vs m a e = absurd a
alike_counts {T} is_marked q (x ∷ rows) (y ∷ others) vs m a e =
    go (x.wanted && row_answers q x.row vs) (row_stops x.row vs) (counts q rows vs) e answers (sym stops) (alike_counts is_marked q rows others vs m a.1)
  where
    stops : row_stops x.row vs ≡ row_stops y.row vs
    stops = ap (λ g. not g && row_takes x.row.heads vs) a.0.guarded ∙ ap (λ hs. not y.row.guarded && row_takes hs vs) a.0.heads

    passes : heads_pass x.row.guarded q.id x.row.heads vs ≡ heads_pass y.row.guarded q.id y.row.heads vs
    passes = ap (λ g. heads_pass g q.id x.row.heads vs) a.0.guarded ∙ ap (λ hs. heads_pass y.row.guarded q.id hs vs) a.0.heads

    either : (c d p : Bool) → (c ≡ true → d ≡ true) → (c || p) ≡ true → (d || p) ≡ true
    either true d p f e = ap (λ b. b || p) (f refl)
    either false true p f e = refl
    either false false p f e = e

    answers : (x.wanted && row_answers q x.row vs) ≡ true → (y.wanted && row_answers q y.row vs) ≡ true
    answers h =
        let w = both x.wanted (row_answers q x.row vs) h in
        let r = both (nat_eq q.arm x.row.arm) (row_takes x.row.heads vs && (has_chosen q x.row.chosen || heads_pass x.row.guarded q.id x.row.heads vs)) w.1 in
        let t = both (row_takes x.row.heads vs) (has_chosen q x.row.chosen || heads_pass x.row.guarded q.id x.row.heads vs) r.1 in
        let c = either (has_chosen q x.row.chosen) (has_chosen q y.row.chosen) (heads_pass x.row.guarded q.id x.row.heads vs) (a.0.chosen w.0 q m) t.1 in
        ap (λ b. b && row_answers q y.row vs) (sym a.0.wanted ∙ w.0)
        ∙ ap (λ n. nat_eq q.arm n && (row_takes y.row.heads vs && (has_chosen q y.row.chosen || heads_pass y.row.guarded q.id y.row.heads vs))) (sym (a.0.arm w.0))
        ∙ ap (λ b. b && (row_takes y.row.heads vs && (has_chosen q y.row.chosen || heads_pass y.row.guarded q.id y.row.heads vs))) r.0
        ∙ ap (λ hs. row_takes hs vs && (has_chosen q y.row.chosen || heads_pass y.row.guarded q.id y.row.heads vs)) (sym a.0.heads)
        ∙ ap (λ b. b && (has_chosen q y.row.chosen || heads_pass y.row.guarded q.id y.row.heads vs)) t.0
        ∙ ap (λ p. has_chosen q y.row.chosen || p) (sym passes)
        ∙ c

    go : (b s k : Bool) → (b || (not s && k)) ≡ true → (b ≡ true → (y.wanted && row_answers q y.row vs) ≡ true) → row_stops y.row vs ≡ s → (k ≡ true → counts q others vs ≡ true) →
        ((y.wanted && row_answers q y.row vs) || (not (row_stops y.row vs) && counts q others vs)) ≡ true
    go true s k e f d g = ap (λ b. b || (not (row_stops y.row vs) && counts q others vs)) (f refl)
    go false true k e f d g = untrue e
    go false false k e f d g =
        ap (λ s. (y.wanted && row_answers q y.row vs) || (not s && counts q others vs)) d
        ∙ ap (λ b. (y.wanted && row_answers q y.row vs) || b) (g e)
        ∙ closed (y.wanted && row_answers q y.row vs)
      where
        closed : (b : Bool) → (b || true) ≡ true
        closed b = grind arith

pub alike_weighs : {T : Type 0} (is_marked : Question → Bool) (rows others : List (WantedRow T)) → AreAlike is_marked rows others → rows_weight (map (λ x. x.row) rows) ≡ rows_weight (map (λ x. x.row) others)
alike_weighs is_marked [] [] a = refl
alike_weighs is_marked [] (y ∷ others) a = absurd a
alike_weighs is_marked (x ∷ rows) [] a = absurd a
alike_weighs is_marked (x ∷ rows) (y ∷ others) a =
    ap (λ hs. heads_weight hs + rows_weight (map (λ x. x.row) rows)) a.0.heads ∙ ap (λ n. heads_weight y.row.heads + n) (alike_weighs is_marked rows others a.1)

pub values_long : {T : Type 0} (IsValue : T → Bool → MValue → Type 0) (places : List (Open T)) (vs : List MValue) → AreValues IsValue places vs → length vs ≡ length places
values_long IsValue [] [] a = refl
values_long IsValue [] (v ∷ vs) a = absurd a
values_long IsValue (o ∷ places) [] a = absurd a
values_long IsValue (o ∷ places) (v ∷ vs) a = ap suc (values_long IsValue places vs a.1)

module _ {T : Type 0} (IsType : T → Type 0) (IsValue : T → Bool → MValue → Type 0) (cx : Context T) where
  pub begins : (first : Submatrix T) → IsFit IsType IsValue cx first → IsSearch IsType IsValue cx first (λ q. false) (first ∷ []) []
  begins first f = record {
    right = λ q e. untrue e;
    fit = λ s c. subst (IsFit IsType IsValue cx) (the_one first s c) f;
    back = λ s c q k. subst (Comes IsValue q) (sym (the_one first s c)) k;
    on = λ q c. inr (first, here first [], omega arith, c);
    told = λ s (k, l, e). absurd (omega (arith, l));
  }

  pub ends : (first : Submatrix T) (is_marked : Question → Bool) (seen : List (Submatrix T)) → IsSearch IsType IsValue cx first is_marked [] seen → (q : Question) → (is_marked q ≡ true) ↔ Comes IsValue q first
  ends first is_marked seen s q = (
    s.right q,
    λ c. elim (s.on q c) [ inl m ↦ m | inr (n, (k, l, e), w, d) ↦ absurd (omega (arith, l)) ],
  )

  -- what was accounted for by a submatrix that is looked at is so by what comes of it
  still_accounted : (old now : Question → Bool) (todo new : List (Submatrix T)) (s : Submatrix T) → IsLookedAt IsType IsValue cx old now s new → (q : Question) (w : ℕ) →
      IsAccounted IsValue old (todo ++ s ∷ []) q w → IsAccounted IsValue now (todo ++ new) q w
  still_accounted old now todo new s k q w (inl m) = inl (k.grow q m)
  still_accounted old now todo new s k q w (inr (n, c, l, d)) =
      elim (in_either todo (s ∷ []) n c) [
        | inl i ↦ inr (n, in_left todo new n i, l, d)
        | inr i ↦ (
            let e = the_one s n i in
            let lighter : weight_of s < w = subst (λ (x : Submatrix T). weight_of x < w) (sym e) l in
            elim (k.on q (subst (Comes IsValue q) (sym e) d)) [
              | inl m ↦ inl m
              | inr (x, j, b) ↦ inr (x, in_right todo new x j, (let h = k.lighter x j in omega (arith, h, lighter)), b)
            ])
      ]

  pub looks : (first : Submatrix T) (old now : Question → Bool) (todo new seen : List (Submatrix T)) (s : Submatrix T) → IsSearch IsType IsValue cx first old (todo ++ s ∷ []) seen →
      IsLookedAt IsType IsValue cx old now s new → IsSearch IsType IsValue cx first now (todo ++ new) (s ∷ seen)
  looks first old now todo new seen s h k = record {
    right = λ q e. elim (k.right q e) [ inl m ↦ h.right q m | inr c ↦ h.back s (in_right todo (s ∷ []) s (here s [])) q c ];
    fit = λ n c. elim (in_either todo new n c) [ inl i ↦ h.fit n (in_left todo (s ∷ []) n i) | inr i ↦ k.fit n i ];
    back = λ n c q d. elim (in_either todo new n c) [
      | inl i ↦ h.back n (in_left todo (s ∷ []) n i) q d
      | inr i ↦ h.back s (in_right todo (s ∷ []) s (here s [])) q (k.back n i q d)
    ];
    on = λ q c. still_accounted old now todo new s k q (suc (weight_of first)) (h.on q c);
    told = λ x i q c.
        in_cons s x seen (λ x. Comes IsValue q x → IsAccounted IsValue now (todo ++ new) q (weight_of x))
        (λ c. elim (k.on q c) [ inl m ↦ inl m | inr (n, j, b) ↦ inr (n, in_right todo new n j, k.lighter n j, b) ])
        (λ x i c. still_accounted old now todo new s k q (weight_of x) (h.told x i q c)) i c;
  }

  -- a submatrix that says what one says that was seen is left out
  pub repeats : (first : Submatrix T) (is_marked : Question → Bool) (todo seen : List (Submatrix T)) (s t : Submatrix T) → IsSearch IsType IsValue cx first is_marked (todo ++ s ∷ []) seen →
      Contains seen t → weight_of t ≤ weight_of s → ((q : Question) → Comes IsValue q s → (is_marked q ≡ true) ⊎ Comes IsValue q t) → IsSearch IsType IsValue cx first is_marked todo seen
  repeats first is_marked todo seen s t h i w f = record {
    right = h.right;
    fit = λ n c. h.fit n (in_left todo (s ∷ []) n c);
    back = λ n c. h.back n (in_left todo (s ∷ []) n c);
    on = λ q c. without q (suc (weight_of first)) (h.on q c);
    told = λ x j q c. without q (weight_of x) (h.told x j q c);
  }
    where
      by_seen : (q : Question) (u : ℕ) → weight_of s < u → IsAccounted IsValue is_marked (todo ++ s ∷ []) q (weight_of t) → IsAccounted IsValue is_marked todo q u
      by_seen q u l (inl m) = inl m
      by_seen q u l (inr (n, c, k, d)) =
          elim (in_either todo (s ∷ []) n c) [
            | inl j ↦ inr (n, j, omega (arith, k, w, l), d)
            | inr j ↦ (let e = ap weight_of (the_one s n j) in absurd (omega (arith, e, k, w)))
          ]

      without : (q : Question) (u : ℕ) → IsAccounted IsValue is_marked (todo ++ s ∷ []) q u → IsAccounted IsValue is_marked todo q u
      without q u (inl m) = inl m
      without q u (inr (n, c, k, d)) =
          elim (in_either todo (s ∷ []) n c) [
            | inl j ↦ inr (n, j, k, d)
            | inr j ↦ (
                let e = the_one s n j in
                let l : weight_of s < u = subst (λ (x : Submatrix T). weight_of x < u) (sym e) k in
                elim (f q (subst (Comes IsValue q) (sym e) d)) [ inl m ↦ inl m | inr b ↦ by_seen q u l (h.told t i q b) ])
          ]

  -- what was seen may be forgotten
  pub forgets : (first : Submatrix T) (is_marked : Question → Bool) (todo seen fewer : List (Submatrix T)) → IsSearch IsType IsValue cx first is_marked todo seen →
      ((t : Submatrix T) → Contains fewer t → Contains seen t) → IsSearch IsType IsValue cx first is_marked todo fewer
  forgets first is_marked todo seen fewer h f = record { right = h.right; fit = h.fit; back = h.back; on = h.on; told = λ t i. h.told t (f t i) }

  -- one that says the same and is no heavier may stand in place of a submatrix
  pub restates : (first : Submatrix T) (is_marked : Question → Bool) (todo seen : List (Submatrix T)) (s t : Submatrix T) → IsSearch IsType IsValue cx first is_marked (todo ++ s ∷ []) seen →
      IsFit IsType IsValue cx t → weight_of t ≤ weight_of s → ((q : Question) → Comes IsValue q s ↔ Comes IsValue q t) → IsSearch IsType IsValue cx first is_marked (todo ++ t ∷ []) seen
  restates first is_marked todo seen s t h f w g = record {
    right = h.right;
    fit = λ n c. elim (in_either todo (t ∷ []) n c) [ inl i ↦ h.fit n (in_left todo (s ∷ []) n i) | inr i ↦ subst (IsFit IsType IsValue cx) (the_one t n i) f ];
    back = λ n c q d. elim (in_either todo (t ∷ []) n c) [
      | inl i ↦ h.back n (in_left todo (s ∷ []) n i) q d
      | inr i ↦ h.back s (in_right todo (s ∷ []) s (here s [])) q ((g q).1 (subst (Comes IsValue q) (sym (the_one t n i)) d))
    ];
    on = λ q c. instead q (suc (weight_of first)) (h.on q c);
    told = λ x j q c. instead q (weight_of x) (h.told x j q c);
  }
    where
      instead : (q : Question) (u : ℕ) → IsAccounted IsValue is_marked (todo ++ s ∷ []) q u → IsAccounted IsValue is_marked (todo ++ t ∷ []) q u
      instead q u (inl m) = inl m
      instead q u (inr (n, c, k, d)) =
          elim (in_either todo (s ∷ []) n c) [
            | inl j ↦ inr (n, in_left todo (t ∷ []) n j, k, d)
            | inr j ↦ (
                let e = the_one s n j in
                let l : weight_of s < u = subst (λ (x : Submatrix T). weight_of x < u) (sym e) k in
                inr (t, in_right todo (t ∷ []) t (here t []), omega (arith, w, l), (g q).0 (subst (Comes IsValue q) (sym e) d)))
          ]

  -- a wanted row of wildcards before which none was listed is come to
  pub noted : (is_marked : Question → Bool) (places : List (Open T)) (through : List (WantedRow T)) (x : WantedRow T) (rest : List (WantedRow T)) →
      IsFit IsType IsValue cx (record { places = places; rows = through ++ x ∷ rest }) → DoFor is_marked (length places) through [] → length x.row.heads ≡ length places → is_bare x ≡ true → x.wanted ≡ true →
      (q : Question) → (nat_eq q.arm x.row.arm && has_chosen q x.row.chosen) ≡ true → Comes IsValue q (record { places = places; rows = through ++ x ∷ rest })
  noted is_marked places through x rest f d l b w q a =
      (f.some.0, f.some.1, noted_counts is_marked (length places) through x rest d l b w q a f.some.0 (values_long IsValue places f.some.0 f.some.1))

  -- rows that say the same over the same places
  pub alike_come : (is_marked : Question → Bool) (places : List (Open T)) (rows others : List (WantedRow T)) → AreAlike is_marked rows others → (q : Question) →
      Comes IsValue q (record { places = places; rows = rows }) → (is_marked q ≡ true) ⊎ Comes IsValue q (record { places = places; rows = others })
  alike_come is_marked places rows others a q (vs, b, e) = go (is_marked q) refl
    where
      go : (m : Bool) → is_marked q ≡ m → (is_marked q ≡ true) ⊎ Comes IsValue q (record { places = places; rows = others })
      go true m = inl m
      go false m = inr (vs, b, alike_counts is_marked q rows others vs m a e)

module _ {T : Type 0} (IsType : T → Type 0) (IsValue : T → Bool → MValue → Type 0) (cx : Context T) (values : ValuesLaw IsType IsValue cx) (law : PartsLaw IsType IsValue cx) where
  stood_fit : (is_marked : Question → Bool) (n m : Submatrix T) → IsFit IsType IsValue cx n → m.places ≡ n.places → StandFor is_marked (length n.places) n.rows m.rows → IsFit IsType IsValue cx m
  stood_fit is_marked n m f e d =
      subst (λ ps. IsFit IsType IsValue cx (record { places = ps; rows = m.rows })) (sym e)
      (record { types = f.types; typed = part_typed cx n.places (heads_in m.rows) (heads_in n.rows) d.part f.typed; made = part_made (heads_in m.rows) (heads_in n.rows) d.part f.made; some = f.some })

  stood_back : (is_marked : Question → Bool) (n m : Submatrix T) → m.places ≡ n.places → StandFor is_marked (length n.places) n.rows m.rows → (q : Question) → Comes IsValue q m → Comes IsValue q n
  stood_back is_marked n m e d q (vs, a, c) =
      let b = subst (λ ps. AreValues IsValue ps vs) e a in (vs, b, d.back q vs (values_long IsValue n.places vs b) c)

  -- a submatrix that fits, whose first place was taken apart, and whose children's rows were listed, is looked at
  pub split_is_look : (old now : Question → Bool) (o : Open T) (places : List (Open T)) (rows : List (WantedRow T)) (left new : List (Submatrix T)) →
      IsFit IsType IsValue cx (record { places = o ∷ places; rows = rows }) → list_all starts_wild (heads_in rows) ≡ false → IsSplit IsValue cx o places (apart rows) left → AreListed now left new →
      ((q : Question) → old q ≡ true → now q ≡ true) → ((q : Question) → now q ≡ true → (old q ≡ true) ⊎ SomeComes IsValue q left) →
      IsLookedAt IsType IsValue cx old now (record { places = o ∷ places; rows = rows }) new
  split_is_look old now o places rows left new f w p a g r =
      let law : Rattle.pattern_matrix.specs.ReachLaws.SplitsHandOn IsType IsValue cx = splits_hand_on IsType IsValue cx values law in
      record {
        grow = g;
        right = λ q e. elim (r q e) [ inl m ↦ inl m | inr (n, i, c) ↦ inr (law.back o places rows left f p n i q c) ];
        fit = λ m i. let (n, j, e, d) = a.of_left m i in stood_fit now n m (law.fit o places rows left f p n j) e d;
        lighter = λ m i. let (n, j, e, d) = a.of_left m i in let k = law.falls o places rows left f p w n j in let l = part_weighs m.rows n.rows d.part in omega (arith, k, l);
        back = λ m i q c. let (n, j, e, d) = a.of_left m i in law.back o places rows left f p n j q (stood_back now n m e d q c);
        on = λ q c. handed q (law.on o places rows left f p q c);
      }
    where
      handed : (q : Question) → SomeComes IsValue q left → (now q ≡ true) ⊎ SomeComes IsValue q new
      handed q (n, i, (vs, b, c)) = go (a.each n i)
        where
          go : (rows : List (WantedRow T)) × StandFor now (length n.places) n.rows rows × (Contains new (record { places = n.places; rows = rows }) ⊎ (rows ≡ [])) →
              (now q ≡ true) ⊎ SomeComes IsValue q new
          go (kept, d, h) =
              elim (d.on q vs (values_long IsValue n.places vs b) c) [
                | inl m ↦ inl m
                | inr e ↦ elim h [
                  | inl j ↦ inr (record { places = n.places; rows = kept }, j, (vs, b, e))
                  | inr z ↦ untrue (sym (ap (λ (xs : List (WantedRow T)). counts q xs vs) z) ∙ e)
                ]
              ]
