-- A search for values that come to the row behind all others takes a step.
use Rattle.std.proofs.Common.{◌≡◌, ◌⊎◌, inl, inr, ◌≤◌, ◌<◌, ◌+◌, ℕ, suc, Bool, true, false, List, [], ◌∷◌, ◌++◌, map, length, drop, refl, ap, sym, subst, ◌∙◌, arith, append-nil}
use Rattle.std.proofs.lemmas.List.{length-append}
use Rattle.std.proofs.lemmas.List.Elements.{All-nil, All-append}
use Rattle.std.proofs.lemmas.Grind.{flat_map-append}
use Rattle.std.proofs.Math.ListN.{drop_of_length-le}
use Rattle.std.specs.List.{All, Contains}
use Rattle.match_model.specs.Values.{MValue}
use Rattle.match_model.specs.ArenaPatterns.{MDeArm}
use Rattle.match_model.specs.Contexts.{Context}
use Rattle.pattern_arena.specs.Trees.{plain_arm}
use Rattle.pattern_matrix.specs.Counting.{Question}
use Rattle.pattern_matrix.specs.Searching.{Submatrix, IsFit, Comes}
use Rattle.usefulness.specs.declared.begun.Begun.{Begun}
use Rattle.usefulness.specs.declared.behind.Search.{Search}
use Rattle.usefulness.specs.declared.covered.Covered.{Covered}
use Rattle.usefulness.specs.declared.frames.Todo.{Todo}
use Rattle.usefulness.specs.declared.told.Told.{Told}
use Rattle.usefulness.specs.Behind.{is_behind, Passes, IsBegun, IsAscending, IsAsked, IsOpen, IsStepped, AreEnded}
use Rattle.usefulness.specs.Covering.{behind, covered_arms, scope_asked, AreCovered, IsKnown}
use Rattle.usefulness.specs.Keys.{told_keys}
use Rattle.usefulness.specs.Stack.{todo_view, todo_views, IsTodo}
use Rattle.usefulness.specs.States.{is_noted, scope_of}
use Rattle.usefulness.specs.Told.{IsPinned}
use Rattle.usefulness.proofs.Known.{known_more}
use Rattle.usefulness.proofs.Looking.{in_left, in_right, in_either}
use Rattle.usefulness.proofs.Nested.{Ended, drop_before, all_map, all_both, all_front, ascending_front, ascending_more, all_under}
use Rattle.usefulness.proofs.Passing.{some_one, passes_on, nothing_comes}
use Rattle.usefulness.proofs.SameSubs.{all_got}
use Rattle.usefulness.proofs.Stacking.{all_later}

module _ {T : Type 0} (IsType : T → Type 0) (IsValue : T → Bool → MValue → Type 0) (cx : Context T) (arms : List (MDeArm T)) (first : Submatrix T) where
  views_last : (todo : List (Todo T)) (entry : Todo T) → todo_views cx (todo ++ entry ∷ []) ≡ todo_views cx todo ++ todo_view cx entry
  views_last todo entry = flat_map-append (todo_view cx) todo (entry ∷ []) ∙ ap (λ ys. todo_views cx todo ++ ys) (append-nil (todo_view cx entry))

  -- the last entry gives way to others
  entry_passes : (m : Bool) (all : List (Submatrix T)) (todo more : List (Todo T)) (entry : Todo T) → Passes IsValue false all (todo_views cx (todo ++ entry ∷ [])) → Passes IsValue m (todo_view cx entry) (todo_views cx more) →
      Passes IsValue m all (todo_views cx (todo ++ more))
  entry_passes m all todo more entry a b =
      subst (Passes IsValue m all) (sym (flat_map-append (todo_view cx) todo more))
      (passes_on IsValue m all (todo_views cx todo) (todo_view cx entry) (todo_views cx more) (subst (Passes IsValue false all) (views_last todo entry) a) b)

  module _ (loop popped : Search T) (entry : Todo T) (todo : loop.todo.items ≡ popped.todo.items ++ entry ∷ []) (same : loop.reached ≡ popped.reached) (still : loop.begun.items ≡ popped.begun.items) (asked : IsAsked IsType IsValue cx arms first loop) where
    in_last : Contains loop.todo.items entry
    in_last = subst (λ es. Contains es entry) (sym todo) (in_right popped.todo.items (entry ∷ []) entry (0, omega arith, refl))

    -- the entry that was taken is good, and what it stands for fits
    pub taken_good : IsTodo IsType IsValue cx (scope_asked arms) (is_noted popped.reached) entry
    taken_good = subst (λ m. IsTodo IsType IsValue cx (scope_asked arms) (is_noted m) entry) same (all_got (IsTodo IsType IsValue cx (scope_asked arms) (is_noted loop.reached)) loop.todo.items entry asked.good in_last)

    pub taken_fit : (s : Submatrix T) → Contains (todo_view cx entry) s → IsFit IsType IsValue cx s
    taken_fit s i = asked.fit s (subst (λ ys. Contains ys s) (sym (ap (todo_views cx) todo ∙ views_last popped.todo.items entry)) (in_right (todo_views cx popped.todo.items) (todo_view cx entry) s i))

    pub taken_known : scope_of popped.reached ≡ scope_asked arms
    taken_known = ap scope_of (sym same) ∙ asked.known

    module _ (goes : IsOpen loop) where
      pub taken_unmarked : is_behind popped ≡ false
      taken_unmarked = ap (λ m. is_noted m behind) (sym same) ∙ goes.unmarked

      one_longer : length loop.todo.items ≡ length popped.todo.items + 1
      one_longer = ap length todo ∙ length-append popped.todo.items (entry ∷ [])

      -- what was begun gives way to what stands above it now
      begun_on : (m : Bool) (more : List (Todo T)) (b : Begun) → Passes IsValue m (todo_view cx entry) (todo_views cx more) → b.below < length loop.todo.items → IsBegun IsType IsValue cx arms (is_behind loop) loop.todo.items b →
          IsBegun IsType IsValue cx arms m (popped.todo.items ++ more) b
      begun_on m more b p l k =
          let longer = one_longer in
          let within : b.below ≤ length popped.todo.items = omega (arith, l, longer) in
          known_more IsType IsValue cx arms (λ s. Passes IsValue (is_behind loop) (s ∷ []) (todo_views cx (drop b.below loop.todo.items))) (λ s. Passes IsValue m (s ∷ []) (todo_views cx (drop b.below (popped.todo.items ++ more)))) b.words.items
          (λ s q.
          subst (λ es. Passes IsValue m (s ∷ []) (todo_views cx es)) (sym (drop_before b.below popped.todo.items more within))
          (entry_passes m (s ∷ []) (drop b.below popped.todo.items) more entry
          (subst (λ es. Passes IsValue false (s ∷ []) (todo_views cx es)) (ap (drop b.below) todo ∙ drop_before b.below popped.todo.items (entry ∷ []) within)
          (subst (λ n. Passes IsValue n (s ∷ []) (todo_views cx (drop b.below loop.todo.items))) goes.unmarked q)) p)) k

      module _ (now : Search T) (st : IsStepped IsType IsValue cx arms popped now (todo_view cx entry)) where
        low : All (λ b. b.below ≤ length popped.todo.items) loop.begun.items
        low = let longer = one_longer in all_map (λ b. b.below < length loop.todo.items) (λ b. b.below ≤ length popped.todo.items) loop.begun.items (λ b l. omega (arith, l, longer)) goes.under

        begun_are : now.begun.items ≡ loop.begun.items ++ st.new
        begun_are = st.begun ∙ ap (λ bs. bs ++ st.new) (sym still)

        grown : (q : Question) → is_noted loop.reached q ≡ true → is_noted now.reached q ≡ true
        grown q e = st.grow q (ap (λ m. is_noted m q) (sym same) ∙ e)

        -- the search goes on
        pub asked_on : IsAsked IsType IsValue cx arms first now
        asked_on = record {
          known = st.known;
          good = subst (All (IsTodo IsType IsValue cx (scope_asked arms) (is_noted now.reached))) (sym st.are)
              (All-append (IsTodo IsType IsValue cx (scope_asked arms) (is_noted now.reached)) popped.todo.items st.more
              (all_later IsType IsValue cx (scope_asked arms) (is_noted loop.reached) (is_noted now.reached) popped.todo.items grown
              (all_front (IsTodo IsType IsValue cx (scope_asked arms) (is_noted loop.reached)) popped.todo.items (entry ∷ []) (subst (All (IsTodo IsType IsValue cx (scope_asked arms) (is_noted loop.reached))) todo asked.good))) st.good);
          fit = λ n i. elim (in_either (todo_views cx popped.todo.items) (todo_views cx st.more) n (subst (λ ys. Contains ys n) (ap (todo_views cx) st.are ∙ flat_map-append (todo_view cx) popped.todo.items st.more) i)) [
            | inl j ↦ asked.fit n (subst (λ ys. Contains ys n) (sym (ap (todo_views cx) todo ∙ views_last popped.todo.items entry)) (in_left (todo_views cx popped.todo.items) (todo_view cx entry) n j))
            | inr j ↦ st.fit n j
          ];
          passes = subst (λ es. Passes IsValue (is_behind now) (first ∷ []) (todo_views cx es)) (sym st.are)
              (entry_passes (is_behind now) (first ∷ []) popped.todo.items st.more entry
              (subst (λ es. Passes IsValue false (first ∷ []) (todo_views cx es)) todo
              (subst (λ m. Passes IsValue m (first ∷ []) (todo_views cx loop.todo.items)) goes.unmarked asked.passes)) st.passes);
          begun = subst (All (IsBegun IsType IsValue cx arms (is_behind now) now.todo.items)) (sym begun_are)
              (All-append (IsBegun IsType IsValue cx arms (is_behind now) now.todo.items) loop.begun.items st.new
              (subst (λ es. All (IsBegun IsType IsValue cx arms (is_behind now) es) loop.begun.items) (sym st.are)
              (all_both (λ b. b.below < length loop.todo.items) (IsBegun IsType IsValue cx arms (is_behind loop) loop.todo.items) (IsBegun IsType IsValue cx arms (is_behind now) (popped.todo.items ++ st.more)) loop.begun.items
              (λ b l k. begun_on (is_behind now) st.more b st.passes l k) goes.under asked.begun)) st.each);
          ascending = subst IsAscending (sym begun_are) (ascending_more (length popped.todo.items) loop.begun.items st.new asked.ascending low st.ascending st.under);
        }

  -- those that have ended are gone
  module _ (s : Search T) (asked : IsAsked IsType IsValue cx arms first s) (n : ℕ) (now : Search T) (same : now.reached ≡ s.reached) (still : now.todo.items ≡ s.todo.items) (ended : AreEnded n s.begun.items now.begun.items) where
    ascending_now : IsAscending now.begun.items
    ascending_now = ascending_front now.begun.items ended.gone (subst IsAscending ended.are asked.ascending)

    pub ended_asked : IsAsked IsType IsValue cx arms first now
    ended_asked = record {
      known = ap scope_of same ∙ asked.known;
      good = subst (All (IsTodo IsType IsValue cx (scope_asked arms) (is_noted now.reached))) (sym still) (subst (λ m. All (IsTodo IsType IsValue cx (scope_asked arms) (is_noted m)) s.todo.items) (sym same) asked.good);
      fit = λ n i. asked.fit n (subst (λ es. Contains (todo_views cx es) n) still i);
      passes = subst (λ es. Passes IsValue (is_behind now) (first ∷ []) (todo_views cx es)) (sym still)
          (subst (λ m. Passes IsValue (is_noted m behind) (first ∷ []) (todo_views cx s.todo.items)) (sym same) asked.passes);
      begun = subst (λ es. All (IsBegun IsType IsValue cx arms (is_behind now) es) now.begun.items) (sym still)
          (subst (λ m. All (IsBegun IsType IsValue cx arms (is_noted m behind) s.todo.items) now.begun.items) (sym same)
          (all_front (IsBegun IsType IsValue cx arms (is_behind s) s.todo.items) now.begun.items ended.gone (subst (All (IsBegun IsType IsValue cx arms (is_behind s) s.todo.items)) ended.are asked.begun)));
      ascending = ascending_now;
    }

    pub ended_open : is_behind s ≡ false → n ≡ length s.todo.items → IsOpen now
    ended_open u e = record {
      unmarked = ap (λ m. is_noted m behind) same ∙ u;
      under = subst (λ k. All (λ b. b.below < k) now.begun.items) (e ∙ ap length (sym still)) (all_under n now.begun.items ascending_now ended.last);
    }

  -- ---- what is known of those that have ended

  module _ (s : Search T) (asked : IsAsked IsType IsValue cx arms first s) (w : List ℕ) where
    -- nothing is left above it, so no value comes to the row behind
    pub ended_full : is_behind s ≡ false → Ended (length s.todo.items) s.begun.items w → IsKnown IsType IsValue cx arms (λ n. Comes IsValue behind n → ⊥) w
    ended_full u (b, i, l, e) =
        subst (IsKnown IsType IsValue cx arms (λ n. Comes IsValue behind n → ⊥)) (sym e)
        (known_more IsType IsValue cx arms (λ n. Passes IsValue (is_behind s) (n ∷ []) (todo_views cx (drop b.below s.todo.items))) (λ n. Comes IsValue behind n → ⊥) b.words.items
        (λ n p. nothing_comes IsValue n (subst (λ es. Passes IsValue false (n ∷ []) (todo_views cx es)) (drop_of_length-le s.todo.items l) (subst (λ m. Passes IsValue m (n ∷ []) (todo_views cx (drop b.below s.todo.items))) u p)))
        (all_got (IsBegun IsType IsValue cx arms (is_behind s) s.todo.items) s.begun.items b asked.begun i))

    -- a value is known to come to the row behind of what was begun
    pub ended_left : is_behind s ≡ true → Ended 0 s.begun.items w → IsKnown IsType IsValue cx arms (λ n. Comes IsValue behind n) w
    ended_left u (b, i, l, e) =
        subst (IsKnown IsType IsValue cx arms (λ n. Comes IsValue behind n)) (sym e)
        (known_more IsType IsValue cx arms (λ n. Passes IsValue (is_behind s) (n ∷ []) (todo_views cx (drop b.below s.todo.items))) (λ n. Comes IsValue behind n) b.words.items
        (λ n p. some_one IsValue n (subst (λ m. Passes IsValue m (n ∷ []) (todo_views cx (drop b.below s.todo.items))) u p))
        (all_got (IsBegun IsType IsValue cx arms (is_behind s) s.todo.items) s.begun.items b asked.begun i))

  -- at the end no value comes to the row behind, or one does
  pub asked_none : (s : Search T) → IsAsked IsType IsValue cx arms first s → is_behind s ≡ false → s.todo.items ≡ [] → Comes IsValue behind first → ⊥
  asked_none s asked u e = nothing_comes IsValue first (subst (λ es. Passes IsValue false (first ∷ []) (todo_views cx es)) e (subst (λ m. Passes IsValue m (first ∷ []) (todo_views cx s.todo.items)) u asked.passes))

  pub asked_some : (s : Search T) → IsAsked IsType IsValue cx arms first s → is_behind s ≡ true → Comes IsValue behind first
  asked_some s asked u = some_one IsValue first (subst (λ m. Passes IsValue m (first ∷ []) (todo_views cx s.todo.items)) u asked.passes)

-- the arms are the same
pub arms_same : {T : Type 0} (old now : Covered T) → now.arms ≡ old.arms → covered_arms now ≡ covered_arms old
arms_same old now e = ap (λ z. map plain_arm z.now) e

-- more is known of rows that cover all values, or of rows that do not
module _ {T : Type 0} (IsType : T → Type 0) (IsValue : T → Bool → MValue → Type 0) (cx : Context T) (old now : Covered T) (known : AreCovered IsType IsValue cx old) (same : now.arms ≡ old.arms) where
  known_now : (Holds : Submatrix T → Type 0) (w : List ℕ) → IsKnown IsType IsValue cx (covered_arms old) Holds w → IsKnown IsType IsValue cx (covered_arms now) Holds w
  known_now Holds w k = subst (λ a. IsKnown IsType IsValue cx (map plain_arm a.now) Holds w) (sym same) k

  pinned_now : IsPinned (scope_asked (covered_arms now))
  pinned_now = subst (λ a. IsPinned (scope_asked (map plain_arm a.now))) (sym same) known.pinned

  pub full_more : now.left ≡ old.left → ((w : List ℕ) → Contains (told_keys now.full) w → Contains (told_keys old.full) w ⊎ IsKnown IsType IsValue cx (covered_arms old) (λ s. Comes IsValue behind s → ⊥) w) →
      AreCovered IsType IsValue cx now
  full_more e more = record {
    pinned = pinned_now;
    full = λ w i. known_now (λ s. Comes IsValue behind s → ⊥) w (elim (more w i) [
      | inl j ↦ known.full w j
      | inr k ↦ k
    ]);
    left = λ w i. known_now (λ s. Comes IsValue behind s) w (known.left w (subst (λ (t : Told). Contains (told_keys t) w) e i));
  }

  pub left_more : now.full ≡ old.full → ((w : List ℕ) → Contains (told_keys now.left) w → Contains (told_keys old.left) w ⊎ IsKnown IsType IsValue cx (covered_arms old) (λ s. Comes IsValue behind s) w) →
      AreCovered IsType IsValue cx now
  left_more e more = record {
    pinned = pinned_now;
    full = λ w i. known_now (λ s. Comes IsValue behind s → ⊥) w (known.full w (subst (λ (t : Told). Contains (told_keys t) w) e i));
    left = λ w i. known_now (λ s. Comes IsValue behind s) w (elim (more w i) [
      | inl j ↦ known.left w j
      | inr k ↦ k
    ]);
  }
