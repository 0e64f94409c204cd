-- A search for values that come to the row behind all others begins.
use Rattle.std.proofs.Common.{◌≡◌, ◌<◌, ℕ, Bool, true, false, List, [], ◌∷◌, ◌++◌, map, take, length, Option, refl, ap, sym, subst, ◌∙◌, arith, append_assoc}
use Rattle.std.proofs.lemmas.List.{map-append}
use Rattle.std.proofs.lemmas.List.Elements.{All-nil, All-head, All-tail}
use Rattle.std.specs.List.{All, Contains}
use Rattle.std.specs.Option.{option_to_list, IfSome}
use Rattle.match_model.specs.Values.{MValue}
use Rattle.match_model.specs.ArenaPatterns.{MDePat, MDeArm}
use Rattle.match_model.specs.Contexts.{Context, Open}
use Rattle.pattern_matrix.specs.Counting.{Question}
use Rattle.pattern_matrix.specs.Searching.{Submatrix, IsFit, StandFor}
use Rattle.pattern_matrix.proofs.HandingOn.{in_cons}
use Rattle.usefulness.specs.declared.begun.Begun.{Begun}
use Rattle.usefulness.specs.declared.behind.Search.{Search}
use Rattle.usefulness.specs.declared.frames.Frame.{Frame}
use Rattle.usefulness.specs.declared.frames.Listing.{Listing}
use Rattle.usefulness.specs.declared.frames.Reached.{Reached}
use Rattle.usefulness.specs.declared.frames.Todo.TheVariants.{Rows}
use Rattle.usefulness.specs.Behind.{is_behind, row_asked, rows_asked, last_asked, Passes, IsBegun, IsAscending, IsAsked, IsOpen}
use Rattle.usefulness.specs.Covering.{behind, scope_asked, IsAsking}
use Rattle.usefulness.specs.Frames.{SparseAsked, numbers, sub_view, subs_of, IsHeadIn, IsRowIn}
use Rattle.usefulness.specs.Listing.{IsListedAs, AreAllListed}
use Rattle.usefulness.specs.Stack.{todo_views, IsTodo}
use Rattle.usefulness.specs.States.{plain_askeds, child_views, is_noted, scope_of, IsGood, IsListed}
use Rattle.usefulness.proofs.AskedRows.{asking_fit}
use Rattle.usefulness.proofs.Listed.{listing_ends}
use Rattle.usefulness.proofs.Looking.{single_listed, stood_fit}
use Rattle.usefulness.proofs.Passing.{listed_passes}
use Rattle.usefulness.proofs.Stacking.{rows_views, rows_good}

-- the rows gone through, and one more
pub row_more : {T X : Type 0} (f : X → List (ℕ × MDePat T)) (done : List X) (x : X) (y : SparseAsked T) → y ≡ row_asked (f x) →
    map row_asked (map f done) ++ y ∷ [] ≡ map row_asked (map f (done ++ x ∷ []))
row_more f done x y e =
    ap (λ z. map row_asked (map f done) ++ z ∷ []) e
    ∙ sym (map-append row_asked (map f done) (f x ∷ []))
    ∙ ap (map row_asked) (sym (map-append f done (x ∷ [])))

-- all rows, and the one behind
pub last_more : {T : Type 0} (rows all : List (List (ℕ × MDePat T))) (y : SparseAsked T) → rows ≡ all → y ≡ last_asked → map row_asked rows ++ y ∷ [] ≡ rows_asked all
last_more rows all y e f = ap (λ zs. map row_asked zs ++ y ∷ []) e ∙ ap (λ z. map row_asked all ++ z ∷ []) f

-- what holds of all holds of the one that comes next
pub next_holds : {T X : Type 0} (f : X → List (ℕ × MDePat T)) (P : List (ℕ × MDePat T) → Type 0) (all done left rest : List X) (x : X) → All P (map f all) → done ++ left ≡ all → left ≡ x ∷ rest → P (f x)
next_holds {X = X} f P all done left rest x a e g = go done (subst (λ zs. All P (map f zs)) (sym e ∙ ap (λ zs. done ++ zs) g) a)
  where
    go : (zs : List X) → All P (map f (zs ++ x ∷ rest)) → P (f x)
    go [] b = All-head P (f x) (map f rest) b
    go (z ∷ zs) b = go zs (All-tail P (f z) (map f (zs ++ x ∷ rest)) b)

module _ {T : Type 0} (IsType : T → Type 0) (IsValue : T → Bool → MValue → Type 0) (cx : Context T) (arms : List (MDeArm T)) where
  module _ (next : ℕ) (shown : List (ℕ × Open T)) (rows : List (List (ℕ × MDePat T))) (asking : IsAsking IsType IsValue cx arms next shown rows) (old : Question → Bool) (now : Reached T) (l : Listing T) (new : List (Submatrix T))
      (none : (q : Question) → old q ≡ false) (listed : IsListed (scope_asked arms) old now (numbers shown) (rows_asked rows) l) (are : new ≡ subs_of shown (take l.end (plain_askeds l.rows.items))) where
    abbrev first : Submatrix T
    first = sub_view shown (rows_asked rows)

    all_listed : AreAllListed IsValue old (is_noted now) (first ∷ []) new
    all_listed =
        single_listed IsValue old (is_noted now) first new
        (subst (IsListedAs IsValue old (is_noted now) first) (sym are)
        (listing_ends IsValue old (is_noted now) shown (rows_asked rows) (plain_askeds l.rows.items) asking.some l.closed l.end listed.listed listed.kept.end))

    pub first_passes : Passes IsValue (is_noted now behind) (sub_view shown (rows_asked rows) ∷ []) new
    first_passes = listed_passes IsValue IsType cx old (is_noted now) (none behind) (is_noted now behind) (first ∷ []) new refl all_listed

    pub first_fit : (n : Submatrix T) → Contains new n → IsFit IsType IsValue cx n
    first_fit n i =
        let (s, j, e, d) = all_listed.listed.of_left n i in
        in_cons first s [] (λ z. n.places ≡ z.places → StandFor (is_noted now) (length z.places) z.rows n.rows → IsFit IsType IsValue cx n)
        (λ e d. stood_fit IsType IsValue cx (is_noted now) first n (asking_fit IsType IsValue cx arms next shown rows asking) e d) (λ z (k, m, g). absurd (omega (arith, m))) j e d

  -- the rows that are looked at first stand on the stack alone
  pub asked_first : (first : Submatrix T) (s : Search T) (w : Option (Frame T)) → s.todo.items ≡ map Rows (option_to_list w) → s.begun.items ≡ [] → scope_of s.reached ≡ scope_asked arms → IfSome w (λ f. IsGood (scope_asked arms) f) →
      ((n : Submatrix T) → Contains (child_views w) n → IsFit IsType IsValue cx n) → Passes IsValue (is_behind s) (first ∷ []) (child_views w) → IsAsked IsType IsValue cx arms first s
  asked_first first s w todo begun known good fit passes =
      let views = ap (todo_views cx) todo ∙ rows_views IsType IsValue cx (scope_asked arms) w in
      record {
        known = known;
        good = subst (All (IsTodo IsType IsValue cx (scope_asked arms) (is_noted s.reached))) (sym todo) (rows_good IsType IsValue cx (scope_asked arms) (is_noted s.reached) w good);
        fit = λ n i. fit n (subst (λ ys. Contains ys n) views i);
        passes = subst (Passes IsValue (is_behind s) (first ∷ [])) (sym views) passes;
        begun = subst (All (IsBegun IsType IsValue cx arms (is_behind s) s.todo.items)) (sym begun) (All-nil (IsBegun IsType IsValue cx arms (is_behind s) s.todo.items));
        ascending = subst IsAscending (sym begun) tt;
      }

-- nothing was begun yet
pub open_first : {T : Type 0} (s : Search T) → is_behind s ≡ false → s.begun.items ≡ [] → IsOpen s
open_first s u e = record {
  unmarked = u;
  under = subst (All (λ b. b.below < length s.todo.items)) (sym e) (All-nil (λ (b : Begun). b.below < length s.todo.items));
}
