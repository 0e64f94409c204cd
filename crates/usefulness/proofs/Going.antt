-- One step of a search.
use Rattle.std.proofs.Common.{◌≡◌, ◌⊎◌, inl, inr, ◌<◌, ◌^◌, ℕ, suc, Bool, true, List, [], ◌∷◌, ◌++◌, length, refl, ap, sym, subst, ◌∙◌, arith, append-nil, append_assoc}
use Rattle.std.proofs.lemmas.List.Elements.{All-cons, All-append}
use Rattle.std.proofs.lemmas.Grind.{flat_map-append}
use Rattle.std.specs.List.{All, Contains}
use Rattle.match_model.specs.Values.{MValue}
use Rattle.match_model.specs.Contexts.{Context}
use Rattle.match_model.proofs.Basics.{untrue}
use Rattle.pattern_matrix.specs.Counting.{Question, WantedRow, counts}
use Rattle.pattern_matrix.specs.Searching.{Submatrix, weight_of, work, IsFit, Comes, StandFor, IsAccounted, IsSearch}
use Rattle.pattern_matrix.proofs.HandingOn.{here, in_cons}
use Rattle.pattern_matrix.proofs.ListedRows.{part_weighs}
use Rattle.pattern_matrix.proofs.SearchSteps.{values_long}
use Rattle.usefulness.specs.declared.frames.Frame.{Frame}
use Rattle.usefulness.specs.declared.frames.Opened.{Opened}
use Rattle.usefulness.specs.declared.frames.Reached.{Reached}
use Rattle.usefulness.specs.declared.frames.Todo.{Todo}
use Rattle.usefulness.specs.Memo.{Memo}
use Rattle.usefulness.specs.Scope.{Scope}
use Rattle.usefulness.specs.Listing.{AreAllListed}
use Rattle.usefulness.specs.Stack.{todo_view, todo_views, IsTodo, IsOpened, opened_todo, opened_views, AreMadeOf, IsNext, IsTaken, IsGoing}
use Rattle.usefulness.specs.Told.{AreLighter, IsStep}
use Rattle.usefulness.specs.States.{frame_view, is_noted, scope_of}
use Rattle.usefulness.proofs.Looking.{in_left, in_right, in_either, stood_fit, stood_back}
use Rattle.usefulness.proofs.Stacking.{work_both, all_later, opened_are, opened_good, opened_few}

in_last : {A : Type 0} (xs : List A) (x : A) → Contains (xs ++ x ∷ []) x
in_last xs x = in_right xs (x ∷ []) x (here x [])

front_all : {A : Type 0} (P : A → Type 0) (xs ys : List A) → All P (xs ++ ys) → All P xs
front_all P [] ys a = λ k d l. absurd (omega (arith, l))
front_all P (x ∷ xs) ys a = All-cons P x xs (a 0 x (omega arith)) (front_all P xs ys (λ k d l. a (suc k) d (omega (arith, l))))

module _ {T : Type 0} (IsType : T → Type 0) (IsValue : T → Bool → MValue → Type 0) (cx : Context T) where
  -- some of what is to be looked at was listed
  relisted : (first : Submatrix T) (old now : Question → Bool) (stay gone more seen : List (Submatrix T)) → IsSearch IsType IsValue cx first old (stay ++ gone) seen → AreAllListed IsValue old now gone more →
      IsSearch IsType IsValue cx first now (stay ++ more) seen
  relisted first old now stay gone more seen search l = record {
    right = λ q m. elim (l.right q m) [
      | inl o ↦ search.right q o
      | inr (n, i, c) ↦ search.back n (in_right stay gone n i) q c
    ];
    fit = λ s i. elim (in_either stay more s i) [
      | inl j ↦ search.fit s (in_left stay gone s j)
      | inr j ↦ let (n, k, e, d) = l.listed.of_left s j in stood_fit IsType IsValue cx now n s (search.fit n (in_right stay gone n k)) e d
    ];
    back = λ s i q c. elim (in_either stay more s i) [
      | inl j ↦ search.back s (in_left stay gone s j) q c
      | inr j ↦ let (n, k, e, d) = l.listed.of_left s j in search.back n (in_right stay gone n k) q (stood_back IsType IsValue cx now n s e d q c)
    ];
    on = λ q c. accounted q (suc (weight_of first)) (search.on q c);
    told = λ n i q c. accounted q (weight_of n) (search.told n i q c);
  }
    where
      one : (q : Question) (w : ℕ) (n : Submatrix T) → weight_of n < w → Comes IsValue q n →
          (rows : List (WantedRow T)) × StandFor now (length n.places) n.rows rows × (Contains more (record { places = n.places; rows = rows }) ⊎ (rows ≡ [])) → IsAccounted IsValue now (stay ++ more) q w
      one q w n l (vs, b, e) (rows, d, h) = elim (d.on q vs (values_long IsValue n.places vs b) e) [
        | inl m ↦ inl m
        | inr k ↦ elim h [
          | inl i ↦ (let part = part_weighs rows n.rows d.part in inr (record { places = n.places; rows = rows }, in_right stay more (record { places = n.places; rows = rows }) i, omega (arith, l, part), (vs, b, k)))
          | inr z ↦ untrue (sym (ap (λ (xs : List (WantedRow T)). counts q xs vs) z) ∙ k)
        ]
      ]

      accounted : (q : Question) (w : ℕ) → IsAccounted IsValue old (stay ++ gone) q w → IsAccounted IsValue now (stay ++ more) q w
      accounted q w (inl m) = inl (l.grow q m)
      accounted q w (inr (n, i, m, c)) = elim (in_either stay gone n i) [
        | inl j ↦ inr (n, in_left stay more n j, m, c)
        | inr j ↦ one q w n m c (l.listed.each n j)
      ]

  -- the end of what is to be looked at was taken
  search_next : (first : Submatrix T) (old now : Question → Bool) (front before after new seen : List (Submatrix T)) → IsSearch IsType IsValue cx first old (front ++ before) seen → IsNext IsValue old now before after new →
      IsSearch IsType IsValue cx first now ((front ++ after) ++ new) seen
  search_next first old now front before after new seen search n =
      subst (λ ys. IsSearch IsType IsValue cx first now ys seen)
      (sym (ap (λ ys. (front ++ ys) ++ new) n.after_is ∙ ap (λ ys. ys ++ new) (sym (append_assoc front n.stay n.back)) ∙ append_assoc (front ++ n.stay) n.back new))
      (relisted first old now (front ++ n.stay) n.gone (n.back ++ new) seen
      (subst (λ ys. IsSearch IsType IsValue cx first old ys seen) (ap (λ ys. front ++ ys) n.before_is ∙ sym (append_assoc front n.stay n.gone)) search) n.listed)

  -- and what comes of it is less to do
  next_less : (b : ℕ) (old now : Question → Bool) (front before after new others : List (Submatrix T)) → IsNext IsValue old now before after new → length others < b → AreMadeOf others new →
      work b ((front ++ after) ++ others) < work b (front ++ before)
  next_less b old now front before after new others n l made =
      let less = n.less b others l made in
      let a = work_both b (front ++ after) others in
      let c = work_both b front after in
      let d = ap (work b) n.after_is ∙ work_both b n.stay n.back in
      let e = work_both b n.back others in
      let f = work_both b front before in
      let g = ap (work b) n.before_is ∙ work_both b n.stay n.gone in
      omega (arith, less, a, c, d, e, f, g)

  -- what is new fits
  pub new_fit : (old now : Question → Bool) (before after new : List (Submatrix T)) → IsNext IsValue old now before after new → ((s : Submatrix T) → Contains before s → IsFit IsType IsValue cx s) →
      (m : Submatrix T) → Contains new m → IsFit IsType IsValue cx m
  new_fit old now before after new n fit m i =
      let (s, j, e, d) = n.listed.listed.of_left m (in_right n.back new m i) in
      stood_fit IsType IsValue cx now s m (fit s (subst (λ ys. Contains ys s) (sym n.before_is) (in_right n.stay n.gone s j))) e d

  views_last : (before : List (Todo T)) (entry : Todo T) → todo_views cx (before ++ entry ∷ []) ≡ todo_views cx before ++ todo_view cx entry
  views_last before entry = flat_map-append (todo_view cx) before (entry ∷ []) ∙ ap (λ ys. todo_views cx before ++ ys) (append-nil (todo_view cx entry))

  module _ (scope : Scope T) where
    -- the entry that is taken is good, and what it stands for fits
    pub entry_fits : (first : Submatrix T) (m : Reached T) (memo : Memo) (all before : List (Todo T)) (entry : Todo T) → all ≡ before ++ entry ∷ [] → IsGoing IsType IsValue cx first scope m memo all →
        (s : Submatrix T) → Contains (todo_view cx entry) s → IsFit IsType IsValue cx s
    entry_fits first m memo all before entry e going s i =
        going.search.fit s (subst (λ ys. Contains ys s) (sym (ap (todo_views cx) e ∙ views_last before entry)) (in_right (todo_views cx before) (todo_view cx entry) s i))

    pub entry_good : (first : Submatrix T) (m : Reached T) (memo : Memo) (all before : List (Todo T)) (entry : Todo T) → all ≡ before ++ entry ∷ [] → IsGoing IsType IsValue cx first scope m memo all →
        IsTodo IsType IsValue cx scope (is_noted m) entry
    entry_good first m memo all before entry e going =
        let (k, l, is) = in_last before entry in
        let good = subst (All (IsTodo IsType IsValue cx scope (is_noted m))) e going.good in
        subst (IsTodo IsType IsValue cx scope (is_noted m)) is (good k entry l)

    module _ (old : Reached T) (memo : Memo) (before : List (Todo T)) (entry : Todo T) (mid : Reached T) (after : List (Todo T)) where
      after_views : (new : List (Submatrix T)) (t : IsTaken IsType IsValue cx scope (is_noted old) (is_noted mid) entry before after new) → todo_views cx after ≡ todo_views cx before ++ todo_views cx t.back
      after_views new t = ap (todo_views cx) t.are ∙ flat_map-append (todo_view cx) before t.back

      after_good : (new : List (Submatrix T)) (t : IsTaken IsType IsValue cx scope (is_noted old) (is_noted mid) entry before after new) → All (IsTodo IsType IsValue cx scope (is_noted old)) (before ++ entry ∷ []) →
          All (IsTodo IsType IsValue cx scope (is_noted mid)) after
      after_good new t all =
          subst (All (IsTodo IsType IsValue cx scope (is_noted mid))) (sym t.are)
          (All-append (IsTodo IsType IsValue cx scope (is_noted mid)) before t.back
          (all_later IsType IsValue cx scope (is_noted old) (is_noted mid) before t.next.listed.grow (front_all (IsTodo IsType IsValue cx scope (is_noted old)) before (entry ∷ []) all)) t.good)

      after_search : (first : Submatrix T) (seen new : List (Submatrix T)) (t : IsTaken IsType IsValue cx scope (is_noted old) (is_noted mid) entry before after new) →
          IsSearch IsType IsValue cx first (is_noted old) (todo_views cx (before ++ entry ∷ [])) seen → IsSearch IsType IsValue cx first (is_noted mid) (todo_views cx after ++ new) seen
      after_search first seen new t search =
          subst (λ ys. IsSearch IsType IsValue cx first (is_noted mid) (ys ++ new) seen) (sym (after_views new t))
          (search_next first (is_noted old) (is_noted mid) (todo_views cx before) (todo_view cx entry) (todo_views cx t.back) new seen
          (subst (λ ys. IsSearch IsType IsValue cx first (is_noted old) ys seen) (views_last before entry) search) t.next)

      pub after_less : (b : ℕ) (new others : List (Submatrix T)) (t : IsTaken IsType IsValue cx scope (is_noted old) (is_noted mid) entry before after new) → length others < b → AreMadeOf others new →
          work b (todo_views cx after ++ others) < work b (todo_views cx (before ++ entry ∷ []))
      after_less b new others t l made =
          subst (λ n. work b (todo_views cx after ++ others) < n) (ap (work b) (sym (views_last before entry)))
          (subst (λ ys. work b (ys ++ others) < work b (todo_views cx before ++ todo_view cx entry)) (sym (after_views new t))
          (next_less b (is_noted old) (is_noted mid) (todo_views cx before) (todo_view cx entry) (todo_views cx t.back) new others t.next l made))

      -- nothing is left to be looked at
      pub goes_past : (first : Submatrix T) → IsTaken IsType IsValue cx scope (is_noted old) (is_noted mid) entry before after [] → scope_of mid ≡ scope_of old → IsGoing IsType IsValue cx first scope old memo (before ++ entry ∷ []) →
          IsGoing IsType IsValue cx first scope mid memo after
      goes_past first t e going = record {
        known = e ∙ going.known;
        good = after_good [] t going.good;
        seen = going.seen;
        search = subst (λ ys. IsSearch IsType IsValue cx first (is_noted mid) ys going.seen) (append-nil (todo_views cx after)) (after_search first going.seen [] t going.search);
        told = going.told;
      }

      pub less_past : IsTaken IsType IsValue cx scope (is_noted old) (is_noted mid) entry before after [] → work (2 ^ 65) (todo_views cx after) < work (2 ^ 65) (todo_views cx (before ++ entry ∷ []))
      less_past t =
          subst (λ ys. work (2 ^ 65) ys < work (2 ^ 65) (todo_views cx (before ++ entry ∷ []))) (append-nil (todo_views cx after))
          (after_less (2 ^ 65) [] [] t (omega arith) ((λ e. refl), (λ m n (k, l, e). absurd (omega (arith, l)))))

      -- rows are looked at
      module _ (f : Frame T) (t : IsTaken IsType IsValue cx scope (is_noted old) (is_noted mid) entry before after (frame_view f ∷ [])) (now : Reached T) (o : Opened T) (opened : IsOpened IsType IsValue cx scope (is_noted now) o)
          (last : List (Todo T)) (are : last ≡ after ++ opened_todo o) where
        last_views : todo_views cx last ≡ todo_views cx after ++ opened_views cx o
        last_views = ap (todo_views cx) are ∙ flat_map-append (todo_view cx) after (opened_todo o) ∙ ap (λ ys. todo_views cx after ++ ys) (opened_are IsType IsValue cx scope o)

        pub goes_on : (first : Submatrix T) (then : Memo) → scope_of mid ≡ scope_of old → scope_of now ≡ scope_of mid → ((q : Question) → is_noted mid q ≡ true → is_noted now q ≡ true) →
            IsStep IsType IsValue cx scope (is_noted mid) (is_noted now) (frame_view f) (opened_views cx o) memo then → IsGoing IsType IsValue cx first scope old memo (before ++ entry ∷ []) → IsGoing IsType IsValue cx first scope now then last
        goes_on first then e g grow step going =
            let (more, search, told) = step first (todo_views cx after) going.seen (after_search first going.seen (frame_view f ∷ []) t going.search) going.told in
            record {
              known = g ∙ e ∙ going.known;
              good = subst (All (IsTodo IsType IsValue cx scope (is_noted now))) (sym are)
                  (All-append (IsTodo IsType IsValue cx scope (is_noted now)) after (opened_todo o)
                  (all_later IsType IsValue cx scope (is_noted mid) (is_noted now) after grow (after_good (frame_view f ∷ []) t going.good)) (opened_good IsType IsValue cx scope (is_noted now) o opened));
              seen = more;
              search = subst (λ ys. IsSearch IsType IsValue cx first (is_noted now) ys more) (sym last_views) search;
              told = told;
            }

        pub less_on : AreLighter (opened_views cx o) (frame_view f) → work (2 ^ 65) (todo_views cx last) < work (2 ^ 65) (todo_views cx (before ++ entry ∷ []))
        less_on light =
            subst (λ ys. work (2 ^ 65) ys < work (2 ^ 65) (todo_views cx (before ++ entry ∷ []))) (sym last_views)
            (after_less (2 ^ 65) (frame_view f ∷ []) (opened_views cx o) t (opened_few IsType IsValue cx scope (is_noted now) o opened)
            ((λ e. cc), (λ m n i j. in_cons (frame_view f) m [] (λ m. weight_of n < weight_of m) (light n j) (λ z (k, l, e). absurd (omega (arith, l))) i)))
