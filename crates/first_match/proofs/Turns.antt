-- The loops over ways, turn by turn.
use Rattle.std.proofs.Common.{◌≡◌, ◌≢◌, ◌≤◌, ◌<◌, ℕ, zero, suc, ◌+◌, ◌-◌, List, [], ◌∷◌, ◌++◌, map, length, take, drop, get_or, slice_get, Some, refl, sym, ap, subst, ◌∙◌, arith}
use Rattle.std.proofs.lemmas.Grind.{flat_map-append}
use Rattle.std.proofs.lemmas.List.{append-nil, append_assoc, drop_all, length-map, map-append, take-append-drop, take_all, take_more}
use Rattle.std.proofs.Math.Seq.{drop-cons}
use Rattle.match_model.specs.ArenaPatterns.{MDePat, de_pats_of}
use Rattle.match_model.specs.Values.{MValue}
use Rattle.match_model.specs.Ways.{Binding, bindings_of_both}
use Rattle.pattern_arena.specs.declared.pattern.DePat.{DePat}
use Rattle.pattern_arena.specs.Trees.{tree}
use Rattle.first_match.specs.Bound.{all_both, bound_in, bound_on, bound_ways}
use Rattle.first_match.proofs.Cuts.{cut_full, cut_more, cut_both, cut_under}

-- what is full stays so
pub full_stays : {A : Type 0} (k : ℕ) (now xs ys all : List A) → now ≡ take k xs → k ≤ length now → xs ++ ys ≡ all →
    now ≡ take k all
full_stays k now xs ys all h long e =
    h ∙ cut_full k xs ys (subst (λ l. k ≤ length l) h long) ∙ ap (take k) e

pub one_cut : {A : Type 0} (k : ℕ) (x : A) → 0 < k → x ∷ [] ≡ take k (x ∷ [])
one_cut zero x h = absurd (omega (arith, h))
one_cut (suc zero) x h = refl
one_cut (suc (suc k)) x h = refl

pub none_cut : {A : Type 0} (k : ℕ) → [] ≡ take {A = A} k []
none_cut zero = refl
none_cut (suc k) = refl

-- ways that are joined to one
pub each_mapped : {A B C : Type 0} (g : A → B) (f : B → C) (old : List C) (xs : List A) (i : ℕ) →
    (old ++ map f (map g (take i xs))) ++ map f (map g (drop i xs)) ≡ old ++ map f (map g xs)
each_mapped g f old xs i =
    append_assoc old (map f (map g (take i xs))) (map f (map g (drop i xs)))
    ∙ ap (λ l. old ++ l)
    (sym (map-append f (map g (take i xs)) (map g (drop i xs)))
    ∙ ap (map f) (sym (map-append g (take i xs) (drop i xs)) ∙ ap (map g) (take-append-drop i xs)))

-- combinations
pub all_combined : {A : Type 0} (g : A → List Binding) (xs : List A) (i : ℕ) (yss : List (List Binding)) →
    all_both (map g (take i xs)) yss ++ all_both (map g (drop i xs)) yss ≡ all_both (map g xs) yss
all_combined g xs i yss =
    sym (flat_map-append (λ a. map (bindings_of_both a) yss) (map g (take i xs)) (map g (drop i xs)))
    ∙ ap (λ l. all_both l yss) (sym (map-append g (take i xs) (drop i xs)) ∙ ap (map g) (take-append-drop i xs))

lone_both : (xs : List Binding) (yss : List (List Binding)) → map (bindings_of_both xs) yss ≡ all_both (xs ∷ []) yss
lone_both xs yss = sym (append-nil (map (bindings_of_both xs) yss))

pub one_more_combined : {A : Type 0} (g : A → List Binding) (xs : List A) (i : ℕ) (x : A) (k : ℕ) (yss old new : List (List Binding)) →
    i < length xs → x ≡ get_or xs i x → old ≡ take k (all_both (map g (take i xs)) yss) →
    new ≡ take k (old ++ map (bindings_of_both (g x)) yss) → new ≡ take k (all_both (map g (take (i + 1) xs)) yss)
one_more_combined g xs i x k yss old new h at e d =
    let before = all_both (map g (take i xs)) yss in
    let more : map g (take (i + 1) xs) ≡ map g (take i xs) ++ g x ∷ [] =
    ap (map g) (take_more xs i x h ∙ ap (λ y. take i xs ++ y ∷ []) (sym at)) ∙ map-append g (take i xs) (x ∷ []) in
    d ∙ ap (λ l. take k (l ++ map (bindings_of_both (g x)) yss)) e
    ∙ cut_under k before (map (bindings_of_both (g x)) yss)
    ∙ ap (λ l. take k (before ++ l)) (lone_both (g x) yss)
    ∙ ap (take k) (sym (flat_map-append (λ a. map (bindings_of_both a) yss) (map g (take i xs)) (g x ∷ [])))
    ∙ ap (λ l. take k (all_both l yss)) (sym more)

-- a lone way, and ways that are cut already
pub lone_combined : {A : Type 0} (g : A → List Binding) (xs : List A) (x : A) (k : ℕ) (yss new : List (List Binding)) →
    length xs ≡ 1 → x ≡ get_or xs 0 x → length yss ≤ k → new ≡ map (bindings_of_both (g x)) yss →
    new ≡ take k (all_both (map g xs) yss)
lone_combined g [] x k yss new one at few e = absurd (omega (arith, one))
lone_combined g (y ∷ z ∷ xs) x k yss new one at few e = absurd (omega (arith, one))
lone_combined g (y ∷ []) x k yss new one at few e =
    let whole = map (bindings_of_both (g y)) yss in
    e ∙ ap (λ (w : _). map (bindings_of_both (g w)) yss) at
    ∙ sym (take_all k whole (omega (arith, length-map yss (bindings_of_both (g y)), few)))
    ∙ ap (take k) (lone_both (g y) yss)

-- ---- alternatives

in_append : {T : Type 0} (ps qs : List (MDePat T)) (v : MValue) →
    bound_in (de_pats_of (ps ++ qs)) v ≡ bound_in (de_pats_of ps) v ++ bound_in (de_pats_of qs) v
in_append [] qs v = refl
in_append (p ∷ ps) qs v =
    ap (λ (l : List (List Binding)). bound_ways p v ++ l) (in_append ps qs v)
    ∙ sym (append_assoc (bound_ways p v) (bound_in (de_pats_of ps) v) (bound_in (de_pats_of qs) v))

module _ {T : Type 0} (ps : List (DePat T)) (v : MValue) where
  -- what the first so many bind
  abbrev pub In : ℕ → List (List Binding)
  In i = bound_in (de_pats_of (map tree (take i ps))) v

  pub all_in : (i : ℕ) → In i ++ bound_in (de_pats_of (map tree (drop i ps))) v ≡ bound_in (de_pats_of (map tree ps)) v
  all_in i =
      sym (in_append (map tree (take i ps)) (map tree (drop i ps)) v)
      ∙ ap (λ l. bound_in (de_pats_of l) v)
      (sym (map-append tree (take i ps) (drop i ps)) ∙ ap (map tree) (take-append-drop i ps))

  in_more : (i : ℕ) (p : DePat T) → i < length ps → p ≡ get_or ps i p → In i ++ bound_ways (tree p) v ≡ In (i + 1)
  in_more i p h at =
      ap (λ l. In i ++ l) (sym (append-nil (bound_ways (tree p) v)))
      ∙ sym (in_append (map tree (take i ps)) (tree p ∷ []) v)
      ∙ ap (λ l. bound_in (de_pats_of l) v)
      (sym (map-append tree (take i ps) (p ∷ []))
      ∙ ap (map tree) (ap (λ q. take i ps ++ q ∷ []) at ∙ sym (take_more ps i p h)))

  pub one_more_in : (i : ℕ) (p : DePat T) (k n : ℕ) (old more new : List (List Binding)) → i < length ps →
      p ≡ get_or ps i p → old ≡ take k (In i) → n ≡ length old → more ≡ take (k - n) (bound_ways (tree p) v) →
      new ≡ old ++ more → new ≡ take k (In (i + 1))
  one_more_in i p k n old more new h at e c d j =
      let count : n ≡ length (take k (In i)) = c ∙ ap length e in
      j ∙ ap (λ l. l ++ more) e
      ∙ ap (λ l. take k (In i) ++ l) (d ∙ ap (λ m. take (k - m) (bound_ways (tree p) v)) count)
      ∙ cut_more k (In i) (bound_ways (tree p) v)
      ∙ ap (take k) (in_more i p h at)

  pub in_all : (i : ℕ) (k : ℕ) (now : List (List Binding)) → length ps ≤ i → now ≡ take k (In i) →
      now ≡ take k (bound_in (de_pats_of (map tree ps)) v)
  in_all i k now h e = e ∙ ap (λ l. take k (bound_in (de_pats_of (map tree l)) v)) (take_all i ps h)

-- ---- parts

nothing_both : (xss : List (List Binding)) → all_both xss [] ≡ []
nothing_both [] = refl
nothing_both (xs ∷ xss) = nothing_both xss

-- no way where there are not as many patterns as parts
pub on_differ : {T : Type 0} (ps : List (MDePat T)) (vs : List MValue) → length ps ≢ length vs →
    bound_on (de_pats_of ps) vs ≡ []
on_differ [] [] h = absurd (h refl)
on_differ [] (v ∷ vs) h = refl
on_differ (p ∷ ps) [] h = refl
on_differ (p ∷ ps) (v ∷ vs) h =
    ap (all_both (bound_ways p v)) (on_differ ps vs (λ e. h (ap suc e))) ∙ nothing_both (bound_ways p v)

module _ {T : Type 0} (ps : List (DePat T)) (vs : List MValue) where
  -- what those from one on bind
  abbrev pub On : ℕ → List (List Binding)
  On i = bound_on (de_pats_of (map tree (drop i ps))) (drop i vs)

  pub on_none : (i k : ℕ) (now : List (List Binding)) → length ps ≤ i → length vs ≤ i → 0 < k → now ≡ [] ∷ [] →
      now ≡ take k (On i)
  on_none i k now h j some e =
      e ∙ one_cut k [] some
      ∙ ap (take k) (sym (ap (λ l. bound_on (de_pats_of (map tree l)) (drop i vs)) (drop_all i ps h)
      ∙ ap (λ l. bound_on (de_pats_of {T = T} []) l) (drop_all i vs j)))

  value_on : (us : List MValue) (i : ℕ) (v : MValue) → slice_get us i ≡ Some v → drop i us ≡ v ∷ drop (suc i) us
  value_on [] zero v e = cc
  value_on [] (suc i) v e = cc
  value_on (u ∷ us) zero v e = let same : u ≡ v = cc in ap (λ w. w ∷ us) same
  value_on (u ∷ us) (suc i) v e = value_on us i v e

  pub one_more_on : (i left : ℕ) (p : DePat T) (v : MValue) (k : ℕ) (here old new : List (List Binding)) → i < length ps →
      left ≡ suc i → p ≡ get_or ps i p → slice_get vs i ≡ Some v → here ≡ take k (bound_ways (tree p) v) →
      old ≡ take k (On left) → new ≡ take k (all_both here old) → new ≡ take k (On i)
  one_more_on i left p v k here old new h is at there e d j =
      let first : map tree (drop i ps) ≡ tree p ∷ map tree (drop (suc i) ps) =
      ap (map tree) (drop-cons ps i p h ∙ ap (λ q. q ∷ drop (suc i) ps) (sym at)) in
      j ∙ ap (λ l. take k (all_both l old)) e
      ∙ ap (λ l. take k (all_both (take k (bound_ways (tree p) v)) l)) (d ∙ ap (λ n. take k (On n)) is)
      ∙ cut_both bindings_of_both k (bound_ways (tree p) v) (On (suc i))
      ∙ ap (take k) (sym (ap (λ l. bound_on (de_pats_of l) (drop i vs)) first
      ∙ ap (λ l. bound_on (de_pats_of (tree p ∷ map tree (drop (suc i) ps))) l) (value_on vs i v there)))
