-- Rows are looked at in a search for values that come to the row behind all others.
use Rattle.std.proofs.Common.{◌≡◌, inl, inr, ◌≤◌, ◌<◌, ◌^◌, ◌+◌, ℕ, Bool, true, false, ◌||◌, List, [], ◌∷◌, ◌++◌, map, length, drop, refl, ap, sym, subst, ◌∙◌, arith, append-nil, append_assoc}
use Rattle.std.proofs.lemmas.List.{length-append}
use Rattle.std.proofs.lemmas.List.Elements.{All-nil, All-cons, All-append}
use Rattle.std.proofs.lemmas.Grind.{flat_map-append}
use Rattle.std.specs.List.{All, Contains}
use Rattle.match_model.specs.Values.{MValue}
use Rattle.match_model.specs.ArenaPatterns.{MDeArm}
use Rattle.match_model.specs.Contexts.{Context}
use Rattle.pattern_arena.specs.Trees.{plain_arm}
use Rattle.pattern_matrix.specs.Counting.{Question}
use Rattle.pattern_matrix.specs.Searching.{Submatrix, weight_of, work, IsFit, Comes, IsLookedAt}
use Rattle.pattern_matrix.proofs.HandingOn.{in_cons}
use Rattle.usefulness.specs.declared.begun.Begun.{Begun}
use Rattle.usefulness.specs.declared.behind.Search.{Search}
use Rattle.usefulness.specs.declared.frames.Frame.{Frame}
use Rattle.usefulness.specs.declared.frames.Opened.{Opened}
use Rattle.usefulness.specs.declared.frames.Reached.{Reached}
use Rattle.usefulness.specs.declared.frames.Todo.{Todo}
use Rattle.usefulness.specs.Behind.{is_behind, Passes, IsBegun, IsStepped, IsLooked}
use Rattle.usefulness.specs.Covering.{behind, scope_asked, IsKnown}
use Rattle.usefulness.specs.Scope.{Scope}
use Rattle.usefulness.specs.Stack.{todo_view, todo_views, opened_todo, opened_views, AreMadeOf, IsOpened, IsTodo, IsTaken}
use Rattle.usefulness.specs.Memo.{no_memo}
use Rattle.usefulness.specs.States.{frame_view, is_noted, scope_of}
use Rattle.usefulness.proofs.Going.{after_less}
use Rattle.usefulness.proofs.Known.{known_more}
use Rattle.usefulness.proofs.Looking.{in_either}
use Rattle.usefulness.proofs.Nested.{drop_past, all_map}
use Rattle.usefulness.proofs.Passing.{one_some, passes_on, passes_to, looked_passes, next_passes, back_fit}
use Rattle.usefulness.proofs.Stacking.{all_later, opened_are, opened_good, opened_few}

abbrev scope_by : {T : Type 0} → ℕ → List (MDeArm T) → Scope T
scope_by n written = record { arms = n; written = written }

or_true : (b : Bool) → (b || true) ≡ true
or_true true = refl
or_true false = refl

module _ {T : Type 0} (IsType : T → Type 0) (IsValue : T → Bool → MValue → Type 0) (cx : Context T) (arms : List (MDeArm T)) where
  -- rows are opened at one of their columns
  module _ (old now : Search T) (f : Frame T) (o : Opened T) (b : Begun) (known : scope_of old.reached ≡ scope_asked arms) (unmarked : is_behind old ≡ false) (same : scope_of now.reached ≡ scope_of old.reached)
      (opened : IsOpened IsType IsValue cx (scope_asked arms) (is_noted now.reached) o) (looked : IsLookedAt IsType IsValue cx (is_noted old.reached) (is_noted now.reached) (frame_view f) (opened_views cx o))
      (todo : now.todo.items ≡ old.todo.items ++ opened_todo o) (begun : now.begun.items ≡ old.begun.items ++ b ∷ []) (below : b.below ≡ length old.todo.items) (k : IsKnown IsType IsValue cx arms (λ s. s ≡ frame_view f) b.words.items) where
    views : todo_views cx (opened_todo o) ≡ opened_views cx o
    views = opened_are IsType IsValue cx (scope_asked arms) o

    gives : Passes IsValue (is_behind now) (frame_view f ∷ []) (todo_views cx (opened_todo o))
    gives =
        subst (Passes IsValue (is_behind now) (frame_view f ∷ [])) (sym views)
        (looked_passes IsValue IsType cx (is_behind now) (is_noted old.reached) (is_noted now.reached) (frame_view f) (opened_views cx o) unmarked refl looked)

    above : drop b.below now.todo.items ≡ opened_todo o
    above = ap (λ n. drop n now.todo.items) below ∙ ap (drop (length old.todo.items)) todo ∙ drop_past old.todo.items (opened_todo o)

    begun_now : IsBegun IsType IsValue cx arms (is_behind now) now.todo.items b
    begun_now = known_more IsType IsValue cx arms (λ s. s ≡ frame_view f) (λ s. Passes IsValue (is_behind now) (s ∷ []) (todo_views cx (drop b.below now.todo.items))) b.words.items
        (λ s e. subst (λ z. Passes IsValue (is_behind now) (z ∷ []) (todo_views cx (drop b.below now.todo.items))) (sym e)
        (subst (λ es. Passes IsValue (is_behind now) (frame_view f ∷ []) (todo_views cx es)) (sym above) gives)) k

    pub looked_new : IsLooked IsType IsValue cx arms old now (frame_view f)
    looked_new = record {
      stepped = record {
        known = same ∙ known;
        grow = looked.grow;
        more = opened_todo o;
        are = todo;
        good = opened_good IsType IsValue cx (scope_asked arms) (is_noted now.reached) o opened;
        fit = λ n i. looked.fit n (subst (λ ys. Contains ys n) views i);
        passes = gives;
        new = b ∷ [];
        begun = begun;
        under = All-cons (λ b. length old.todo.items ≤ b.below) b [] (omega (arith, below)) (All-nil (λ (b : Begun). length old.todo.items ≤ b.below));
        each = All-cons (IsBegun IsType IsValue cx arms (is_behind now) now.todo.items) b [] begun_now (All-nil (IsBegun IsType IsValue cx arms (is_behind now) now.todo.items));
        ascending = (All-nil (λ (c : Begun). b.below ≤ c.below), tt);
      };
      lighter = λ n i. looked.lighter n (subst (λ ys. Contains ys n) views i);
      few = subst (λ ys. length ys < 2 ^ 65) (sym views) (opened_few IsType IsValue cx (scope_asked arms) (is_noted now.reached) o opened);
    }

  -- nothing is left of rows of which it is known whether they cover all values
  pub looked_known : (old now : Search T) (s : Submatrix T) → scope_of now.reached ≡ scope_asked arms → ((q : Question) → is_noted old.reached q ≡ true → is_noted now.reached q ≡ true) → now.todo.items ≡ old.todo.items →
      now.begun.items ≡ old.begun.items → Passes IsValue (is_behind now) (s ∷ []) [] → IsLooked IsType IsValue cx arms old now s
  looked_known old now s known grow todo begun passes = record {
    stepped = record {
      known = known;
      grow = grow;
      more = [];
      are = todo ∙ sym (append-nil old.todo.items);
      good = All-nil (IsTodo IsType IsValue cx (scope_asked arms) (is_noted now.reached));
      fit = λ n (k, l, e). absurd (omega (arith, l));
      passes = passes;
      new = [];
      begun = begun ∙ sym (append-nil old.begun.items);
      under = All-nil (λ (b : Begun). length old.todo.items ≤ b.below);
      each = All-nil (IsBegun IsType IsValue cx arms (is_behind now) now.todo.items);
      ascending = tt;
    };
    lighter = λ n (k, l, e). absurd (omega (arith, l));
    few = let e : 0 < 2 ^ 65 = omega arith in e;
  }

  -- a value is known to come to the row behind, which is marked
  marked_known : (old now : Reached T) → now.arms ≡ old.arms → length now.marks.arms.items ≡ length old.marks.arms.items → scope_of old ≡ scope_asked arms → scope_of now ≡ scope_asked arms
  marked_known old now e f k = ap (λ n. scope_by n (map plain_arm now.arms.now)) f ∙ ap (λ z. scope_by (length old.marks.arms.items) (map plain_arm z.now)) e ∙ k

  pub looked_left : (old now : Search T) (s : Submatrix T) (answers : Question → Bool) → scope_of old.reached ≡ scope_asked arms → now.reached.arms ≡ old.reached.arms → length now.reached.marks.arms.items ≡ length old.reached.marks.arms.items →
      ((q : Question) → is_noted now.reached q ≡ (is_noted old.reached q || answers q)) → answers behind ≡ true → now.todo.items ≡ old.todo.items → now.begun.items ≡ old.begun.items → Comes IsValue behind s → IsLooked IsType IsValue cx arms old now s
  looked_left old now s answers known same long marked own todo begun comes =
      looked_known old now s (marked_known old.reached now.reached same long known) (λ q e. marked q ∙ ap (λ b. b || answers q) e) todo begun
      (subst (λ m. Passes IsValue m (s ∷ []) []) (sym (marked behind ∙ ap (λ b. is_noted old.reached behind || b) own ∙ or_true (is_noted old.reached behind))) (one_some IsValue s comes))

  -- a submatrix that says the same and weighs as much was looked at
  pub looked_for : (old now : Search T) (s t : Submatrix T) → (Comes IsValue behind s → Comes IsValue behind t) → (Comes IsValue behind t → Comes IsValue behind s) → weight_of t ≡ weight_of s → IsLooked IsType IsValue cx arms old now t →
      IsLooked IsType IsValue cx arms old now s
  looked_for old now s t f g w l = record {
    stepped = record {
      known = l.stepped.known;
      grow = l.stepped.grow;
      more = l.stepped.more;
      are = l.stepped.are;
      good = l.stepped.good;
      fit = l.stepped.fit;
      passes = passes_on IsValue (is_behind now) (s ∷ []) [] (t ∷ []) (todo_views cx l.stepped.more) (passes_to IsValue s t f g) l.stepped.passes;
      new = l.stepped.new;
      begun = l.stepped.begun;
      under = l.stepped.under;
      each = l.stepped.each;
      ascending = l.stepped.ascending;
    };
    lighter = λ n i. subst (λ m. weight_of n < m) w (l.lighter n i);
    few = l.few;
  }

  -- ---- the entry that was taken

  module _ (old mid : Search T) (entry : Todo T) (known : scope_of mid.reached ≡ scope_asked arms) (unmarked : is_behind old ≡ false) (begun : mid.begun.items ≡ old.begun.items)
      (fit : (s : Submatrix T) → Contains (todo_view cx entry) s → IsFit IsType IsValue cx s) (new : List (Submatrix T))
      (t : IsTaken IsType IsValue cx (scope_asked arms) (is_noted old.reached) (is_noted mid.reached) entry old.todo.items mid.todo.items new) where
    back_gives : (m : Bool) → is_behind mid ≡ m → Passes IsValue m (todo_view cx entry) (todo_views cx t.back ++ new)
    back_gives m e = next_passes IsValue IsType cx (is_noted old.reached) (is_noted mid.reached) unmarked m (todo_view cx entry) (todo_views cx t.back) new e t.next

    back_fits : (n : Submatrix T) → Contains (todo_views cx t.back) n → IsFit IsType IsValue cx n
    back_fits = back_fit IsValue IsType cx (is_noted old.reached) (is_noted mid.reached) (todo_view cx entry) (todo_views cx t.back) new t.next fit

    stepped_by : Passes IsValue (is_behind mid) (todo_view cx entry) (todo_views cx t.back) → IsStepped IsType IsValue cx arms old mid (todo_view cx entry)
    stepped_by p = record {
      known = known;
      grow = t.next.listed.grow;
      more = t.back;
      are = t.are;
      good = t.good;
      fit = back_fits;
      passes = p;
      new = [];
      begun = begun ∙ sym (append-nil old.begun.items);
      under = All-nil (λ (b : Begun). length old.todo.items ≤ b.below);
      each = All-nil (IsBegun IsType IsValue cx arms (is_behind mid) mid.todo.items);
      ascending = tt;
    }

    -- nothing new is left of it
    pub stepped_past : new ≡ [] → IsStepped IsType IsValue cx arms old mid (todo_view cx entry)
    stepped_past e = stepped_by (subst (Passes IsValue (is_behind mid) (todo_view cx entry)) (ap (λ ys. todo_views cx t.back ++ ys) e ∙ append-nil (todo_views cx t.back)) (back_gives (is_behind mid) refl))

    -- or a value is known to come to the row behind
    pub stepped_behind : is_behind mid ≡ true → IsStepped IsType IsValue cx arms old mid (todo_view cx entry)
    stepped_behind e = stepped_by (subst (λ m. Passes IsValue m (todo_view cx entry) (todo_views cx t.back)) (sym e) (back_gives true e))

    -- and it is less to do
    pub less_past : work (2 ^ 65) (todo_views cx mid.todo.items) < work (2 ^ 65) (todo_views cx (old.todo.items ++ entry ∷ []))
    less_past =
        subst (λ ys. work (2 ^ 65) ys < work (2 ^ 65) (todo_views cx (old.todo.items ++ entry ∷ []))) (append-nil (todo_views cx mid.todo.items))
        (after_less IsType IsValue cx (scope_asked arms) old.reached no_memo old.todo.items entry mid.reached mid.todo.items (2 ^ 65) new [] t (omega arith) ((λ e. refl), (λ m n i (k, l, e). absurd (omega (arith, l)))))

  -- and rows of it were looked at
  module _ (old mid now : Search T) (entry : Todo T) (goes : is_behind mid ≡ false) (unmarked : is_behind old ≡ false) (begun : mid.begun.items ≡ old.begun.items)
      (fit : (s : Submatrix T) → Contains (todo_view cx entry) s → IsFit IsType IsValue cx s) (s : Submatrix T)
      (t : IsTaken IsType IsValue cx (scope_asked arms) (is_noted old.reached) (is_noted mid.reached) entry old.todo.items mid.todo.items (s ∷ [])) (l : IsLooked IsType IsValue cx arms mid now s) where
    abbrev more : List (Todo T)
    more = l.stepped.more

    both_views : todo_views cx (t.back ++ more) ≡ todo_views cx t.back ++ todo_views cx more
    both_views = flat_map-append (todo_view cx) t.back more

    longer : length old.todo.items ≤ length mid.todo.items
    longer = let e = ap length t.are ∙ length-append old.todo.items t.back in omega (arith, e)

    pub stepped_on : IsStepped IsType IsValue cx arms old now (todo_view cx entry)
    stepped_on = record {
      known = l.stepped.known;
      grow = λ q e. l.stepped.grow q (t.next.listed.grow q e);
      more = t.back ++ more;
      are = l.stepped.are ∙ ap (λ ys. ys ++ more) t.are ∙ append_assoc old.todo.items t.back more;
      good = All-append (IsTodo IsType IsValue cx (scope_asked arms) (is_noted now.reached)) t.back more
          (all_later IsType IsValue cx (scope_asked arms) (is_noted mid.reached) (is_noted now.reached) t.back l.stepped.grow t.good) l.stepped.good;
      fit = λ n i. elim (in_either (todo_views cx t.back) (todo_views cx more) n (subst (λ ys. Contains ys n) both_views i)) [
        | inl j ↦ back_fit IsValue IsType cx (is_noted old.reached) (is_noted mid.reached) (todo_view cx entry) (todo_views cx t.back) (s ∷ []) t.next fit n j
        | inr j ↦ l.stepped.fit n j
      ];
      passes = subst (Passes IsValue (is_behind now) (todo_view cx entry)) (sym both_views)
          (passes_on IsValue (is_behind now) (todo_view cx entry) (todo_views cx t.back) (s ∷ []) (todo_views cx more)
          (next_passes IsValue IsType cx (is_noted old.reached) (is_noted mid.reached) unmarked false (todo_view cx entry) (todo_views cx t.back) (s ∷ []) goes t.next) l.stepped.passes);
      new = l.stepped.new;
      begun = l.stepped.begun ∙ ap (λ bs. bs ++ l.stepped.new) begun;
      under = let m = longer in all_map (λ b. length mid.todo.items ≤ b.below) (λ b. length old.todo.items ≤ b.below) l.stepped.new (λ b k. omega (arith, k, m)) l.stepped.under;
      each = l.stepped.each;
      ascending = l.stepped.ascending;
    }

    pub less_on : work (2 ^ 65) (todo_views cx now.todo.items) < work (2 ^ 65) (todo_views cx (old.todo.items ++ entry ∷ []))
    less_on =
        subst (λ ys. work (2 ^ 65) ys < work (2 ^ 65) (todo_views cx (old.todo.items ++ entry ∷ []))) (sym (ap (todo_views cx) l.stepped.are ∙ flat_map-append (todo_view cx) mid.todo.items more))
        (after_less IsType IsValue cx (scope_asked arms) old.reached no_memo old.todo.items entry mid.reached mid.todo.items (2 ^ 65) (s ∷ []) (todo_views cx more) t l.few
        ((λ e. cc), (λ m n i j. in_cons s m [] (λ m. weight_of n < weight_of m) (l.lighter n j) (λ z (k, h, e). absurd (omega (arith, h))) i)))
