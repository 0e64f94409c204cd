-- The rows that are asked for, and the one behind them: values come to it where no row takes them.
use Rattle.std.proofs.Common.{◌≡◌, ◌<◌, ℕ, suc, Bool, true, false, not, ◌&&◌, ◌||◌, List, [], ◌∷◌, ◌++◌, map, length, nat_eq, refl, ap, sym, ◌∙◌, arith}
use Rattle.std.proofs.lemmas.List.{length-map}
use Rattle.std.proofs.lemmas.List.Elements.{All-nil, All-cons, All-head, All-tail, All-append}
use Rattle.std.specs.List.{All}
use Rattle.match_model.specs.Values.{MValue}
use Rattle.match_model.specs.ArenaPatterns.{MDePat, MDeArm}
use Rattle.match_model.specs.Contexts.{Context, Open}
use Rattle.match_model.specs.WellTyped.{AreHeadsTyped}
use Rattle.match_model.proofs.Basics.{untrue}
use Rattle.pat_context.specs.Parts.{AreValues}
use Rattle.pattern_matrix.specs.Covering.{row_takes, some_takes}
use Rattle.pattern_matrix.specs.HeadRows.{cols, AllTyped, AreMadeHeads, AreMadeRows}
use Rattle.pattern_matrix.specs.Sparse.{heads_at}
use Rattle.pattern_matrix.specs.Counting.{has_chosen, heads_pass, counts}
use Rattle.pattern_matrix.specs.Searching.{heads_in, IsFit, Comes}
use Rattle.pattern_matrix.proofs.SearchSteps.{values_long}
use Rattle.usefulness.specs.Behind.{row_asked, last_asked, rows_asked}
use Rattle.usefulness.specs.Covering.{behind, heads_over, scope_asked, AreAllTaken, AreSomeLeft, IsAsking}
use Rattle.usefulness.specs.Frames.{asked_views, numbers, places, sub_view, IsHeadIn, IsRowIn}

-- a row without heads takes all values
bare_takes : (T : Type 0) (columns : List ℕ) (vs : List MValue) → length vs ≡ length columns → row_takes (heads_at {T = T} [] columns) vs ≡ true
bare_takes T [] [] l = refl
bare_takes T [] (v ∷ vs) l = absurd (omega (arith, l))
bare_takes T (c ∷ columns) [] l = absurd (omega (arith, l))
bare_takes T (c ∷ columns) (v ∷ vs) l = bare_takes T columns vs (omega (arith, l))

last_counts : (T : Type 0) (columns : List ℕ) (vs : List MValue) → length vs ≡ length columns → counts behind (asked_views columns (last_asked {T = T} ∷ [])) vs ≡ true
last_counts T columns vs l =
    ap (λ t. (true && (nat_eq 1 1 && (t && (has_chosen behind [] || heads_pass {T = T} false 0 (heads_at [] columns) vs)))) || (not (not false && t) && false))
    (bare_takes T columns vs l)

not_either : (a b : Bool) → (not a && not b) ≡ not (a || b)
not_either true b = refl
not_either false b = refl

bare_made : (T : Type 0) (columns : List ℕ) → AreMadeHeads (heads_at {T = T} [] columns)
bare_made T [] = tt
bare_made T (c ∷ columns) = (tt, bare_made T columns)

module _ {T : Type 0} where
  -- values come to the row behind exactly where no row takes them
  rows_count : (shown : List (ℕ × Open T)) (rows : List (List (ℕ × MDePat T))) (vs : List MValue) → length vs ≡ length (numbers shown) →
      counts behind (asked_views (numbers shown) (rows_asked rows)) vs ≡ not (some_takes (heads_over shown rows) vs)
  rows_count shown [] vs l = last_counts T (numbers shown) vs l
  rows_count shown (heads ∷ rows) vs l =
      let t = row_takes (heads_at heads (numbers shown)) vs in
      ap (λ b. not t && b) (rows_count shown rows vs l) ∙ not_either t (some_takes (heads_over shown rows) vs)

  module _ (IsValue : T → Bool → MValue → Type 0) (shown : List (ℕ × Open T)) (rows : List (List (ℕ × MDePat T))) where
    long : (vs : List MValue) → AreValues IsValue (places shown) vs → length vs ≡ length (numbers shown)
    long vs a = values_long IsValue (places shown) vs a ∙ length-map shown (λ (o : ℕ × Open T). o.1) ∙ sym (length-map shown (λ (o : ℕ × Open T). o.0))

    -- where none comes to it, some row takes each list of values
    pub all_taken : (Comes IsValue behind (sub_view shown (rows_asked rows)) → ⊥) → AreAllTaken IsValue shown rows
    all_taken none vs a = go (some_takes (heads_over shown rows) vs) refl
      where
        go : (b : Bool) → some_takes (heads_over shown rows) vs ≡ b → b ≡ true
        go true e = refl
        go false e = absurd (none (vs, a, rows_count shown rows vs (long vs a) ∙ ap not e))

    -- where some does, no row takes some list
    pub some_left : Comes IsValue behind (sub_view shown (rows_asked rows)) → AreSomeLeft IsValue shown rows
    some_left (vs, a, c) = (vs, a, go (some_takes (heads_over shown rows) vs) (sym (rows_count shown rows vs (long vs a)) ∙ c))
      where
        go : (b : Bool) → not b ≡ true → b ≡ false
        go true e = untrue e
        go false e = refl

  -- ---- they fit

  bare_typed : (cx : Context T) (shown : List (ℕ × Open T)) → AreHeadsTyped cx (cols (places shown)) (heads_at [] (numbers shown))
  bare_typed cx [] = tt
  bare_typed cx (o ∷ shown) = (tt, bare_typed cx shown)

  rows_typed : (cx : Context T) (shown : List (ℕ × Open T)) (rows : List (List (ℕ × MDePat T))) → AllTyped cx (cols (places shown)) (heads_over shown rows) → AllTyped cx (cols (places shown)) (heads_in (asked_views (numbers shown) (rows_asked rows)))
  rows_typed cx shown [] t = (bare_typed cx shown, tt)
  rows_typed cx shown (heads ∷ rows) t = (t.0, rows_typed cx shown rows t.1)

  rows_made : (shown : List (ℕ × Open T)) (rows : List (List (ℕ × MDePat T))) → AreMadeRows (heads_over shown rows) → AreMadeRows (heads_in (asked_views (numbers shown) (rows_asked rows)))
  rows_made shown [] m = (bare_made T (numbers shown), tt)
  rows_made shown (heads ∷ rows) m = (m.0, rows_made shown rows m.1)

  pub asking_fit : (IsType : T → Type 0) (IsValue : T → Bool → MValue → Type 0) (cx : Context T) (arms : List (MDeArm T)) (next : ℕ) (shown : List (ℕ × Open T)) (rows : List (List (ℕ × MDePat T))) →
      IsAsking IsType IsValue cx arms next shown rows → IsFit IsType IsValue cx (sub_view shown (rows_asked rows))
  asking_fit IsType IsValue cx arms next shown rows a = record {
    types = a.types;
    typed = rows_typed cx shown rows a.typed;
    made = rows_made shown rows a.made;
    some = a.some;
  }

  -- ---- they are of the arms

  pub row_in : (arms : List (MDeArm T)) (columns : List ℕ) (heads : List (ℕ × MDePat T)) → All (IsHeadIn (scope_asked arms) columns) heads → IsRowIn (scope_asked arms) columns (row_asked heads)
  row_in arms columns heads h = record { arm = omega arith; heads = h }

  pub last_in : (arms : List (MDeArm T)) (columns : List ℕ) → IsRowIn (scope_asked arms) columns last_asked
  last_in arms columns = record { arm = omega arith; heads = All-nil (IsHeadIn (scope_asked arms) columns) }
