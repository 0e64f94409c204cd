-- What is left of the rows at a column that was taken.
use Rattle.std.proofs.Common.{◌≡◌, ◌<◌, ℕ, zero, suc, Bool, true, false, List, [], ◌∷◌, map, length, refl, ap, sym, subst, ◌∙◌, arith, IsTrue, get_or}
use Rattle.std.proofs.lemmas.List.Elements.{All-cons, All-head, All-tail}
use Rattle.std.specs.List.{All, Contains, list_all, filter_map}
use Rattle.match_model.specs.Values.{MValue}
use Rattle.match_model.specs.Constructors.{MCtor, belongs}
use Rattle.match_model.specs.Contexts.{Context, Open}
use Rattle.match_model.specs.ContextLaws.{PartsLaw, ValuesLaw}
use Rattle.match_model.specs.Rows.{starts_wild, column_of}
use Rattle.pat_context.specs.Laws.{HasFewItems}
use Rattle.constructor_sets.specs.declared.piece.PieceState.{PieceState}
use Rattle.constructor_sets.specs.declared.piece.PieceState.TheVariants.{Present, Missing, Empty}
use Rattle.constructor_sets.specs.Present.{present_piece, AreFound}
use Rattle.pattern_matrix.specs.Halving.{leaf_ctors}
use Rattle.pattern_matrix.specs.Sparse.{head_has, leaf_parts}
use Rattle.pattern_matrix.specs.Counting.{Question}
use Rattle.pattern_matrix.specs.Searching.{Submatrix, heads_in, IsFit, IsColumnCut, IsSplit, all_wild, none_missing, some_missing, IsLookedAt, left_over, entered, first_ctors}
use Rattle.pattern_matrix.proofs.HandingOn.{contains-map, here, there}
use Rattle.pattern_matrix.proofs.FoundCut.{cut_of}
use Rattle.usefulness.specs.declared.frames.Apart.{Apart}
use Rattle.usefulness.specs.Frames.{asked_views}
use Rattle.usefulness.specs.Children.{bare_sub, settled_if}
use Rattle.usefulness.specs.Listing.{AreAllListed}
use Rattle.usefulness.specs.States.{plain_open, plain_opens, other_numbers, other_places, apart_rows, apart_leaves, apart_place, apart_wanted, apart_view, IsApart, IsEnterable, piece_view, wild_view}
use Rattle.usefulness.proofs.Commute.{settled_none}
use Rattle.usefulness.proofs.ColumnFacts.{ctors_are, long_parts}
use Rattle.usefulness.proofs.ColumnFacts as column
use Rattle.usefulness.proofs.Looking.{left_fit, looked}
use Rattle.usefulness.specs.Scope.{Scope}

-- what is left of the pieces
entered_all : {T : Type 0} (cx : Context T) (a : Apart T) (missing : Bool) (ctors : List MCtor) →
    map bare_sub (map (entered cx (apart_place a) (other_places a) (settled_if missing (apart_wanted a))) ctors) ≡ map (piece_view cx a missing) ctors
entered_all cx a missing [] = refl
entered_all cx a missing (c ∷ ctors) = ap (λ ys. piece_view cx a missing c ∷ ys) (entered_all cx a missing ctors)

-- what stands past the end does not count
same_got : {A : Type 0} (xs : List A) (k : ℕ) (d e : A) → k < length xs → get_or xs k d ≡ get_or xs k e
same_got [] k d e l = absurd (omega (arith, l))
same_got (x ∷ xs) zero d e l = refl
same_got (x ∷ xs) (suc k) d e l = same_got xs k d e (omega (arith, l))

-- present pieces are among the pieces
all_present : (P : MCtor → Type 0) (pieces : List (MCtor × PieceState)) → All P (map (λ (p : MCtor × PieceState). p.0) pieces) → All P (filter_map present_piece pieces)
all_present P [] a = a
all_present P ((c, Present) ∷ pieces) a = All-cons P c (filter_map present_piece pieces) (All-head P c (map (λ (p : MCtor × PieceState). p.0) pieces) a) (all_present P pieces (All-tail P c (map (λ (p : MCtor × PieceState). p.0) pieces) a))
all_present P ((c, Missing) ∷ pieces) a = all_present P pieces (All-tail P c (map (λ (p : MCtor × PieceState). p.0) pieces) a)
all_present P ((c, Empty) ∷ pieces) a = all_present P pieces (All-tail P c (map (λ (p : MCtor × PieceState). p.0) pieces) a)

module _ {T : Type 0} (IsType : T → Type 0) (IsValue : T → Bool → MValue → Type 0) (cx : Context T) (values : ValuesLaw IsType IsValue cx) (law : PartsLaw IsType IsValue cx)
    (scope : Scope T) (a : Apart T) (apart : IsApart scope a) (fit : IsFit IsType IsValue cx (apart_view a)) where
  ctors_same : leaf_ctors (apart_leaves a) ≡ first_ctors (apart_wanted a)
  ctors_same = ap leaf_ctors apart.leaves ∙ ctors_are a.taken.number (other_numbers a) (apart_rows a)

  abbrev o : Open T
  o = apart_place a

  abbrev rest : List (Open T)
  rest = other_places a

  -- all rows are wild at the column
  wild_split : leaf_ctors (apart_leaves a) ≡ [] → IsSplit IsValue cx o rest (apart_wanted a) (left_over rest (apart_wanted a) ∷ [])
  wild_split e = all_wild (column.all_wild (heads_in (apart_wanted a)) (sym ctors_same ∙ e))

  not_wild : (leaf_ctors (apart_leaves a) ≡ [] → ⊥) → list_all starts_wild (heads_in (apart_wanted a)) ≡ false
  not_wild n = go (column_of (heads_in (apart_wanted a))) refl
    where
      go : (cs : List MCtor) → column_of (heads_in (apart_wanted a)) ≡ cs → list_all starts_wild (heads_in (apart_wanted a)) ≡ false
      go [] e = absurd (n (ctors_same ∙ e))
      go (c ∷ cs) e = column.not_all_wild (heads_in (apart_wanted a)) c cs e

  -- the column is cut by what was found
  module _ (ctors gaps : List MCtor) (missing : Bool) (some : leaf_ctors (apart_leaves a) ≡ [] → ⊥) (found : AreFound IsValue cx o (leaf_ctors (apart_leaves a)) ctors missing gaps) where
    abbrev left : Bool → List (Submatrix T)
    left true = left_over rest (apart_wanted a) ∷ map (entered cx o rest (settled_if true (apart_wanted a))) ctors
    left false = map (entered cx o rest (settled_if false (apart_wanted a))) ctors

    cut : IsColumnCut IsValue cx o (first_ctors (apart_wanted a)) ctors missing
    cut = cut_of IsValue cx o (first_ctors (apart_wanted a)) ctors missing gaps (subst (λ hs. AreFound IsValue cx o hs ctors missing gaps) ctors_same found)

    found_split : (m : Bool) → missing ≡ m → IsSplit IsValue cx o rest (apart_wanted a) (left m)
    found_split true e = some_missing ctors (not_wild some) (subst (IsColumnCut IsValue cx o (first_ctors (apart_wanted a)) ctors) e cut)
    found_split false e =
        subst (λ ys. IsSplit IsValue cx o rest (apart_wanted a) (map (entered cx o rest ys) ctors)) (sym (settled_none (apart_wanted a)))
        (none_missing ctors (not_wild some) (subst (IsColumnCut IsValue cx o (first_ctors (apart_wanted a)) ctors) e cut))

    in_left : (m : Bool) (p : MCtor) → Contains ctors p → Contains (left m) (entered cx o rest (settled_if m (apart_wanted a)) p)
    in_left true p i = there (left_over rest (apart_wanted a)) (entered cx o rest (settled_if true (apart_wanted a)) p) (map (entered cx o rest (settled_if true (apart_wanted a))) ctors) (contains-map (entered cx o rest (settled_if true (apart_wanted a))) ctors p i)
    in_left false p i = contains-map (entered cx o rest (settled_if false (apart_wanted a))) ctors p i

    -- each piece can be entered
    pub enterable : All (IsEnterable IsValue cx a) ctors
    enterable = λ k d l.
        let p = get_or ctors k d in
        record {
          belong = (subst (All (λ p. IsTrue (belongs (cx.set_of o.type) p))) (sym found.present) (all_present (λ p. IsTrue (belongs (cx.set_of o.type) p)) found.pieces found.split.are.belong)) k d l;
          held = (subst (All HasFewItems) (sym found.present) (all_present HasFewItems found.pieces found.split.are.held)) k d l;
          some = (left_fit IsType IsValue cx values law o rest (asked_views (a.taken.number ∷ other_numbers a) (apart_rows a)) (left missing) fit (found_split missing refl) (entered cx o rest (settled_if missing (apart_wanted a)) p) (in_left missing p (k, l, same_got ctors k p d l))).some;
          long = subst (All (λ l. head_has p l.head ≡ true → length (leaf_parts (cx.arity p a.taken.column.ty) l.head) ≡ cx.arity p a.taken.column.ty)) (sym apart.leaves)
              (long_parts IsType IsValue cx values law (plain_open a.taken) (plain_opens a.others.items) (apart_rows a) fit p
              ((subst (All (λ p. IsTrue (belongs (cx.set_of o.type) p))) (sym found.present) (all_present (λ p. IsTrue (belongs (cx.set_of o.type) p)) found.pieces found.split.are.belong)) k d l));
        }

    -- what is left over fits, where a piece is missing
    pub wild_fits : missing ≡ true → IsFit IsType IsValue cx (wild_view a)
    wild_fits e = left_fit IsType IsValue cx values law o rest (asked_views (a.taken.number ∷ other_numbers a) (apart_rows a)) (left true) fit (found_split true e) (left_over rest (apart_wanted a)) (here (left_over rest (apart_wanted a)) (map (entered cx o rest (settled_if true (apart_wanted a))) ctors))

    pub looked_missing : (old now : Question → Bool) (new : List (Submatrix T)) → missing ≡ true → list_all starts_wild (heads_in (apart_view a).rows) ≡ false →
        AreAllListed IsValue old now (wild_view a ∷ map (piece_view cx a missing) ctors) new → IsLookedAt IsType IsValue cx old now (apart_view a) new
    looked_missing old now new e w l =
        looked IsType IsValue cx values law old now o rest (asked_views (a.taken.number ∷ other_numbers a) (apart_rows a)) (left true) new fit w (found_split true e)
        (subst (λ ys. AreAllListed IsValue old now (wild_view a ∷ ys) new) (ap (λ m. map (piece_view cx a m) ctors) e ∙ sym (entered_all cx a true ctors)) l)

    pub looked_present : (old now : Question → Bool) (new : List (Submatrix T)) → missing ≡ false → list_all starts_wild (heads_in (apart_view a).rows) ≡ false →
        AreAllListed IsValue old now (map (piece_view cx a missing) ctors) new → IsLookedAt IsType IsValue cx old now (apart_view a) new
    looked_present old now new e w l =
        looked IsType IsValue cx values law old now o rest (asked_views (a.taken.number ∷ other_numbers a) (apart_rows a)) (left false) new fit w (found_split false e)
        (subst (λ ys. AreAllListed IsValue old now ys new) (ap (λ m. map (piece_view cx a m) ctors) e ∙ sym (entered_all cx a false ctors)) l)

  pub wild_fit : leaf_ctors (apart_leaves a) ≡ [] → IsFit IsType IsValue cx (wild_view a)
  wild_fit e = left_fit IsType IsValue cx values law o rest (asked_views (a.taken.number ∷ other_numbers a) (apart_rows a)) (left_over rest (apart_wanted a) ∷ []) fit (wild_split e) (left_over rest (apart_wanted a)) (here (left_over rest (apart_wanted a)) [])

  pub looked_wild : (old now : Question → Bool) (new : List (Submatrix T)) → leaf_ctors (apart_leaves a) ≡ [] → list_all starts_wild (heads_in (apart_view a).rows) ≡ false →
      AreAllListed IsValue old now (wild_view a ∷ []) new → IsLookedAt IsType IsValue cx old now (apart_view a) new
  looked_wild old now new e w l = looked IsType IsValue cx values law old now o rest (asked_views (a.taken.number ∷ other_numbers a) (apart_rows a)) (left_over rest (apart_wanted a) ∷ []) new fit w (wild_split e) l
