-- A submatrix whose children were listed is looked at.
use Rattle.std.proofs.Common.{◌≡◌, ◌⊎◌, inl, inr, ℕ, Bool, true, false, List, [], ◌∷◌, ◌++◌, map, length, refl, ap, sym, subst, ◌∙◌, arith}
use Rattle.std.specs.List.{list_all, Contains}
use Rattle.match_model.specs.Values.{MValue}
use Rattle.match_model.specs.Contexts.{Context, Open}
use Rattle.match_model.specs.ContextLaws.{PartsLaw, ValuesLaw}
use Rattle.match_model.specs.Rows.{starts_wild}
use Rattle.match_model.proofs.Basics.{untrue}
use Rattle.pat_context.specs.Parts.{AreValues}
use Rattle.pattern_matrix.specs.Counting.{Question, WantedRow, counts}
use Rattle.pattern_matrix.specs.ReachLaws.{SplitsHandOn}
use Rattle.pattern_matrix.specs.Searching.{Submatrix, weight_of, heads_in, IsFit, Comes, SomeComes, IsSplit, StandFor, IsLookedAt, AreListed, apart as taken_apart}
use Rattle.pattern_matrix.proofs.HandingOn.{contains-map, from-map, here, there, in_cons}
use Rattle.pattern_matrix.proofs.ListedRows.{part_typed, part_made, part_weighs}
use Rattle.pattern_matrix.proofs.SearchSteps.{values_long}
use Rattle.pattern_matrix.proofs.Splitting.{splits_hand_on}
use Rattle.usefulness.specs.Children.{bare_sub}
use Rattle.usefulness.specs.Listing.{IsListedAs, AreAllListed}
use Rattle.usefulness.proofs.BareRows.{fit_bare, comes_bare, comes_named, weight_bare}
use Rattle.usefulness.proofs.Enough.{same_stand, stand_both}

-- what stands for rows while less is marked does so while more is
pub stand_later : {T : Type 0} (old now : Question → Bool) (n : ℕ) (rows kept : List (WantedRow T)) → ((q : Question) → old q ≡ true → now q ≡ true) → StandFor old n rows kept → StandFor now n rows kept
stand_later old now n rows kept g s = record {
  on = λ q vs l c. elim (s.on q vs l c) [ inl m ↦ inl (g q m) | inr e ↦ inr e ];
  back = s.back;
  part = s.part;
}

-- where rows stand for others, what was listed for them was for these
pub stood_listed : {T : Type 0} (IsValue : T → Bool → MValue → Type 0) (old now : Question → Bool) (places : List (Open T)) (rows others : List (WantedRow T)) (new : List (Submatrix T)) → StandFor old (length places) rows others →
    IsListedAs IsValue old now (record { places = places; rows = others }) new → IsListedAs IsValue old now (record { places = places; rows = rows }) new
stood_listed {T} IsValue old now places rows others new d l = record {
  grow = l.grow;
  right = λ q m. elim (l.right q m) [
    | inl o ↦ inl o
    | inr (vs, a, c) ↦ inr (vs, a, d.back q vs (values_long IsValue places vs a) c)
  ];
  listed = record {
    each = λ n i. in_cons s n [] (λ n. (ys : List (WantedRow T)) × StandFor now (length n.places) n.rows ys × (Contains new (record { places = n.places; rows = ys }) ⊎ (ys ≡ [])))
        (let (ys, e, h) = l.listed.each t (here t []) in (ys, stand_both now (length places) rows others ys later e, h)) (λ z (k, m, e). absurd (omega (arith, m))) i;
    of_left = λ m i.
        let (n, j, e, z) = l.listed.of_left m i in
        in_cons t n [] (λ n. m.places ≡ n.places → StandFor now (length n.places) n.rows m.rows → (n : Submatrix T) × Contains (s ∷ []) n × (m.places ≡ n.places) × StandFor now (length n.places) n.rows m.rows)
        (λ e z. (s, here s [], e, stand_both now (length places) rows others m.rows later z)) (λ z (k, h, e). absurd (omega (arith, h))) j e z;
  };
}
  where
    s : Submatrix T
    s = record { places = places; rows = rows }

    t : Submatrix T
    t = record { places = places; rows = others }

    later : StandFor now (length places) rows others
    later = stand_later old now (length places) rows others l.grow d

-- what was listed stays so while more is marked
pub listed_later : {T : Type 0} (old now : Question → Bool) (left new : List (Submatrix T)) → ((q : Question) → old q ≡ true → now q ≡ true) → AreListed old left new → AreListed now left new
listed_later old now left new g a = record {
  each = λ n i. let (rows, s, h) = a.each n i in (rows, stand_later old now (length n.places) n.rows rows g s, h);
  of_left = λ m i. let (n, j, e, s) = a.of_left m i in (n, j, e, stand_later old now (length n.places) n.rows m.rows g s);
}

pub in_left : {A : Type 0} (xs ys : List A) (z : A) → Contains xs z → Contains (xs ++ ys) z
in_left [] ys z (k, l, e) = absurd (omega (arith, l))
in_left (x ∷ xs) ys z c = in_cons x z xs (λ w. Contains (x ∷ (xs ++ ys)) w) (here x (xs ++ ys)) (λ w d. there x w (xs ++ ys) (in_left xs ys w d)) c

pub in_right : {A : Type 0} (xs ys : List A) (z : A) → Contains ys z → Contains (xs ++ ys) z
in_right [] ys z c = c
in_right (x ∷ xs) ys z c = there x z (xs ++ ys) (in_right xs ys z c)

pub in_either : {A : Type 0} (xs ys : List A) (z : A) → Contains (xs ++ ys) z → Contains xs z ⊎ Contains ys z
in_either [] ys z c = inr c
in_either (x ∷ xs) ys z c =
    in_cons x z (xs ++ ys) (λ w. Contains (x ∷ xs) w ⊎ Contains ys w) (inl (here x xs))
    (λ w d. elim (in_either xs ys w d) [ inl e ↦ inl (there x w xs e) | inr e ↦ inr e ]) c

-- both lists of children were listed
listed_both : {T : Type 0} (now : Question → Bool) (left more new others : List (Submatrix T)) → AreListed now left new → AreListed now more others → AreListed now (left ++ more) (new ++ others)
listed_both {T} now left more new others a b = record {
  each = λ n i. elim (in_either left more n i) [
    | inl j ↦ let (rows, s, h) = a.each n j in (rows, s, kept_left (record { places = n.places; rows = rows }) rows h)
    | inr j ↦ let (rows, s, h) = b.each n j in (rows, s, kept_right (record { places = n.places; rows = rows }) rows h)
  ];
  of_left = λ m i. elim (in_either new others m i) [
    | inl j ↦ let (n, k, e, s) = a.of_left m j in (n, in_left left more n k, e, s)
    | inr j ↦ let (n, k, e, s) = b.of_left m j in (n, in_right left more n k, e, s)
  ];
}
  where
    kept_left : (m : Submatrix T) (rows : List (WantedRow T)) → Contains new m ⊎ (rows ≡ []) → Contains (new ++ others) m ⊎ (rows ≡ [])
    kept_left m rows (inl c) = inl (in_left new others m c)
    kept_left m rows (inr e) = inr e

    kept_right : (m : Submatrix T) (rows : List (WantedRow T)) → Contains others m ⊎ (rows ≡ []) → Contains (new ++ others) m ⊎ (rows ≡ [])
    kept_right m rows (inl c) = inl (in_right new others m c)
    kept_right m rows (inr e) = inr e

-- the order of the children does not count
swapped : {T : Type 0} (now : Question → Bool) (left more new others : List (Submatrix T)) → AreListed now (left ++ more) (new ++ others) → AreListed now (left ++ more) (others ++ new)
swapped {T} now left more new others a = record {
  each = λ n i. let (rows, s, h) = a.each n i in (rows, s, over (record { places = n.places; rows = rows }) rows h);
  of_left = λ m i. a.of_left m (elim (in_either others new m i) [ inl j ↦ in_right new others m j | inr j ↦ in_left new others m j ]);
}
  where
    over : (m : Submatrix T) (rows : List (WantedRow T)) → Contains (new ++ others) m ⊎ (rows ≡ []) → Contains (others ++ new) m ⊎ (rows ≡ [])
    over m rows (inl c) = elim (in_either new others m c) [ inl j ↦ inl (in_right others new m j) | inr j ↦ inl (in_left others new m j) ]
    over m rows (inr e) = inr e

module _ {T : Type 0} (IsValue : T → Bool → MValue → Type 0) where
  -- at first none is listed
  pub none_listed : (is_marked : Question → Bool) → AreAllListed {T = T} IsValue is_marked is_marked [] []
  none_listed is_marked = record {
    grow = λ q m. m;
    right = λ q m. inl m;
    listed = record { each = λ n (k, l, e). absurd (omega (arith, l)); of_left = λ m (k, l, e). absurd (omega (arith, l)) };
  }

  -- submatrices stand for themselves
  pub self_listed : (is_marked : Question → Bool) (left : List (Submatrix T)) → AreAllListed {T = T} IsValue is_marked is_marked left left
  self_listed is_marked left = record {
    grow = λ q m. m;
    right = λ q m. inl m;
    listed = record {
      each = λ n i. (n.rows, same_stand is_marked (length n.places) n.rows, inl i);
      of_left = λ n i. (n, i, refl, same_stand is_marked (length n.places) n.rows);
    };
  }

  -- a submatrix stands for itself
  pub itself_listed : (is_marked : Question → Bool) (s : Submatrix T) → IsListedAs {T = T} IsValue is_marked is_marked s (s ∷ [])
  itself_listed is_marked s = record {
    grow = λ q m. m;
    right = λ q m. inl m;
    listed = (self_listed is_marked (s ∷ [])).listed;
  }

  -- one alone was listed
  pub single_listed : (old now : Question → Bool) (s : Submatrix T) (new : List (Submatrix T)) → IsListedAs IsValue old now s new → AreAllListed IsValue old now (s ∷ []) new
  single_listed old now s new a = record {
    grow = a.grow;
    right = λ q m. elim (a.right q m) [ inl o ↦ inl o | inr c ↦ inr (s, here s [], c) ];
    listed = a.listed;
  }

  -- the first is listed before the others, and stands behind them
  pub first_listed : (old now then : Question → Bool) (s : Submatrix T) (left others new : List (Submatrix T)) → IsListedAs IsValue old now s others → AreAllListed IsValue now then left new →
      AreAllListed IsValue old then (s ∷ left) (new ++ others)
  first_listed old now then s left others new a b = record {
    grow = λ q m. b.grow q (a.grow q m);
    right = λ q m. elim (b.right q m) [
      | inl k ↦ elim (a.right q k) [
        | inl o ↦ inl o
        | inr c ↦ inr (s, here s left, c)
      ]
      | inr (n, i, c) ↦ inr (n, there s n left i, c)
    ];
    listed = swapped then (s ∷ []) left others new (listed_both then (s ∷ []) left others new (listed_later now then (s ∷ []) others b.grow a.listed) b.listed);
  }

  -- some are listed before others, and stand behind them
  pub both_listed : (old now then : Question → Bool) (left new more others : List (Submatrix T)) → AreAllListed IsValue old now left new → AreAllListed IsValue now then more others →
      AreAllListed IsValue old then (more ++ left) (others ++ new)
  both_listed old now then left new more others a b = record {
    grow = λ q m. b.grow q (a.grow q m);
    right = λ q m. elim (b.right q m) [
      | inl k ↦ elim (a.right q k) [
        | inl o ↦ inl o
        | inr (n, i, c) ↦ inr (n, in_right more left n i, c)
      ]
      | inr (n, i, c) ↦ inr (n, in_left more left n i, c)
    ];
    listed = listed_both then more left others new b.listed (listed_later now then left new b.grow a.listed);
  }

  -- some are listed behind others, and nothing is left of any
  pub none_behind : (old now then : Question → Bool) (left more : List (Submatrix T)) → AreAllListed IsValue old now left [] → AreAllListed IsValue now then more [] → AreAllListed IsValue old then (left ++ more) []
  none_behind old now then left more a b = record {
    grow = λ q m. b.grow q (a.grow q m);
    right = λ q m. elim (b.right q m) [
      | inl k ↦ elim (a.right q k) [
        | inl o ↦ inl o
        | inr (n, i, c) ↦ inr (n, in_left left more n i, c)
      ]
      | inr (n, i, c) ↦ inr (n, in_right left more n i, c)
    ];
    listed = listed_both then left more [] [] (listed_later now then left [] b.grow a.listed) b.listed;
  }

  -- marks that come of some of them change nothing of them all
  pub all_still : (old now : Question → Bool) (some rest : List (Submatrix T)) → AreAllListed IsValue old now some [] → AreAllListed IsValue old now (some ++ rest) (some ++ rest)
  all_still old now some rest a = record {
    grow = a.grow;
    right = λ q m. elim (a.right q m) [
      | inl o ↦ inl o
      | inr (n, i, c) ↦ inr (n, in_left some rest n i, c)
    ];
    listed = (self_listed now (some ++ rest)).listed;
  }

module _ {T : Type 0} (IsType : T → Type 0) (IsValue : T → Bool → MValue → Type 0) (cx : Context T) where
  pub stood_fit : (is_marked : Question → Bool) (n m : Submatrix T) → IsFit IsType IsValue cx n → m.places ≡ n.places → StandFor is_marked (length n.places) n.rows m.rows → IsFit IsType IsValue cx m
  stood_fit is_marked n m f e d =
      subst (λ ps. IsFit IsType IsValue cx (record { places = ps; rows = m.rows })) (sym e)
      (record { types = f.types; typed = part_typed cx n.places (heads_in m.rows) (heads_in n.rows) d.part f.typed; made = part_made (heads_in m.rows) (heads_in n.rows) d.part f.made; some = f.some })

  pub stood_back : (is_marked : Question → Bool) (n m : Submatrix T) → m.places ≡ n.places → StandFor is_marked (length n.places) n.rows m.rows → (q : Question) → Comes IsValue q m → Comes IsValue q n
  stood_back is_marked n m e d q (vs, a, c) =
      let b = subst (λ ps. AreValues IsValue ps vs) e a in (vs, b, d.back q vs (values_long IsValue n.places vs b) c)

module _ {T : Type 0} (IsType : T → Type 0) (IsValue : T → Bool → MValue → Type 0) (cx : Context T) (values : ValuesLaw IsType IsValue cx) (law : PartsLaw IsType IsValue cx) where
  -- what is left of a submatrix that fits, fits without names
  pub left_fit : (o : Open T) (places : List (Open T)) (rows : List (WantedRow T)) (left : List (Submatrix T)) → IsFit IsType IsValue cx (record { places = o ∷ places; rows = rows }) →
      IsSplit IsValue cx o places (taken_apart rows) left → (n : Submatrix T) → Contains left n → IsFit IsType IsValue cx (bare_sub n)
  left_fit o places rows left f p n i =
      let handed : SplitsHandOn IsType IsValue cx = splits_hand_on IsType IsValue cx values law in
      fit_bare IsType IsValue cx n (handed.fit o places rows left f p n i)

  -- a submatrix whose first place was taken apart, and of which everything that is left was listed without names
  pub looked : (old now : Question → Bool) (o : Open T) (places : List (Open T)) (rows : List (WantedRow T)) (left new : List (Submatrix T)) →
      IsFit IsType IsValue cx (record { places = o ∷ places; rows = rows }) → list_all starts_wild (heads_in rows) ≡ false → IsSplit IsValue cx o places (taken_apart rows) left →
      AreAllListed IsValue old now (map bare_sub left) new →
      IsLookedAt IsType IsValue cx old now (record { places = o ∷ places; rows = rows }) new
  looked old now o places rows left new f w p a =
      let handed : SplitsHandOn IsType IsValue cx = splits_hand_on IsType IsValue cx values law in
      record {
        grow = a.grow;
        right = λ q e. elim (a.right q e) [
          | inl m ↦ inl m
          | inr (m, i, c) ↦
              let (n, j, k) = from-map bare_sub left m i in
              inr (handed.back o places rows left f p n j q (comes_named IsType IsValue cx q n (subst (Comes IsValue q) (sym k) c)))
        ];
        fit = λ m i.
            let (b, j, e, d) = a.listed.of_left m i in
            let (n, k, g) = from-map bare_sub left b j in
            stood_fit IsType IsValue cx now b m (subst (IsFit IsType IsValue cx) g (fit_bare IsType IsValue cx n (handed.fit o places rows left f p n k))) e d;
        lighter = λ m i.
            let (b, j, e, d) = a.listed.of_left m i in
            let (n, k, g) = from-map bare_sub left b j in
            let lighter = handed.falls o places rows left f p w n k in
            let same = ap weight_of (sym g) ∙ weight_bare n in
            let part = part_weighs m.rows b.rows d.part in
            omega (arith, lighter, same, part);
        back = λ m i q c.
            let (b, j, e, d) = a.listed.of_left m i in
            let (n, k, g) = from-map bare_sub left b j in
            handed.back o places rows left f p n k q (comes_named IsType IsValue cx q n (subst (Comes IsValue q) (sym g) (stood_back IsType IsValue cx now b m e d q c)));
        on = λ q c. kept q (handed.on o places rows left f p q c);
      }
    where
      kept : (q : Question) → SomeComes IsValue q left → (now q ≡ true) ⊎ SomeComes IsValue q new
      kept q (n, i, c) = go (comes_bare IsType IsValue cx q n c) (a.listed.each (bare_sub n) (contains-map bare_sub left n i))
        where
          go : Comes IsValue q (bare_sub n) →
              (rows : List (WantedRow T)) × StandFor now (length n.places) (bare_sub n).rows rows × (Contains new (record { places = n.places; rows = rows }) ⊎ (rows ≡ [])) →
              (now q ≡ true) ⊎ SomeComes IsValue q new
          go (vs, b, e) (kept, d, h) =
              elim (d.on q vs (values_long IsValue n.places vs b) e) [
                | inl m ↦ inl m
                | inr k ↦ elim h [
                  | inl j ↦ inr (record { places = n.places; rows = kept }, j, (vs, b, k))
                  | inr z ↦ untrue (sym (ap (λ (xs : List (WantedRow T)). counts q xs vs) z) ∙ k)
                ]
              ]
