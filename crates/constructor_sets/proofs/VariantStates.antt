-- The variants that heads have, and whether one is missing, are those of the split of the column.
use Rattle.std.proofs.Common.{◌≡◌, ℕ, zero, suc, ◌<◌, Bool, true, false, not, ◌&&◌, ◌||◌, nat_lt, List, [], ◌∷◌, ◌++◌, cond, map, filter_map, append-nil, Option, None, refl, sym, ap, subst, ◌∙◌, arith, IsTrue}
use Rattle.std.specs.List.{All, list_any, filter}
use Rattle.std.proofs.lemmas.Bool.Decides.{nat_tests}
use Rattle.std.proofs.lemmas.List.{map-append}
use Rattle.std.proofs.lemmas.List.Elements.{All-append, All-cons, All-nil, All-map, filter-append, filter_map-append}
use Rattle.std.proofs.lemmas.List.Folds.{list_any-append}
use Rattle.std.proofs.lemmas.List.Kept.{AllPairs-filter}
use Rattle.match_model.specs.Values.{MValue, Node, Later}
use Rattle.match_model.specs.Constructors.{MCtor, LaterCtor, VariantCtor, MSet, VariantSet, OneLater, OneVariant, is_of_set, builds, builds_one, has_piece}
use Rattle.match_model.specs.Contexts.{Context}
use Rattle.match_model.specs.ContextLaws.{ValuesLaw, PartsLaw, EmptyLaw, UnsureLaw}
use Rattle.match_model.specs.Pieces.{each_below, variant_pieces}
use Rattle.match_model.specs.PieceStates.{HasValue}
use Rattle.slice_split.proofs.Below.{map-map, map-each_below, All-each_below, AllPairs-each_below}
use Rattle.pat_context.specs.Views.{plain_ctor}
use Rattle.pat_context.specs.declared.ctor.Ctor.{Ctor}
use Rattle.pat_context.specs.declared.ctor.Ctor.TheVariants as c
use Rattle.pat_context.specs.declared.ctor.CtorSet.TheVariants as s
use Rattle.constructor_sets.specs.declared.piece.Piece.{Piece}
use Rattle.constructor_sets.specs.declared.piece.PieceState.{PieceState}
use Rattle.constructor_sets.specs.declared.piece.PieceState.TheVariants.{Present, Missing, Empty}
use Rattle.constructor_sets.specs.Columns.{is_head, writes, plain_ctors, plain_piece, IsSetSplit}
use Rattle.constructor_sets.specs.Serving.{IsValueAnswer, IsFoundState, AreFoundStates}
use Rattle.constructor_sets.specs.Present.{present_piece, is_missing, gap_of, AreFound}
use Rattle.constructor_sets.specs.Numbered.{is_valued, is_left_out, AreNumbers}
use Rattle.constructor_sets.proofs.Valued.{reach_unsure, reach_bare}
use Rattle.constructor_sets.proofs.Whole.{whole_split}
use Rattle.constructor_sets.proofs.Sharp.{AreSharp, sharp_heads, sharp_writes, written_below, later_unwritten}
use Rattle.constructor_sets.proofs.Numbering.{filter_listed, below_listed, same_numbers}

-- the split

abbrev state_by : (valued written : Bool) → PieceState
state_by false written = Empty
state_by true true = Present
state_by true false = Missing

abbrev state_at : (ℕ → Bool) → Bool → List MCtor → ℕ → PieceState
state_at empty sure heads k = state_by (is_valued empty sure k) (list_any (writes (VariantCtor k)) heads)

abbrev piece_at : (ℕ → Bool) → Bool → List MCtor → ℕ → Piece
piece_at empty sure heads k = record { ctor = c.Variant k; state = state_at empty sure heads k }

abbrev later_piece : Bool → List Piece
later_piece true = record { ctor = c.Later; state = Missing } ∷ []
later_piece false = []

abbrev pieces_of : (ℕ → Bool) → Bool → List MCtor → (count : ℕ) → (later : Bool) → List Piece
pieces_of empty sure heads count later = each_below (piece_at empty sure heads) count ++ later_piece later

abbrev flagged_of : List MCtor → (count : ℕ) → (later : Bool) → List (MCtor × Bool)
flagged_of heads count later = map (λ p. (p, list_any (writes p) heads)) (variant_pieces count later)

set_split : (heads : List MCtor) (count : ℕ) (later : Bool) → IsSetSplit (VariantSet count later) heads (flagged_of heads count later)
set_split heads count later = record {
  listed = map-map (λ (p : MCtor × Bool). p.0) (λ p. (p, list_any (writes p) heads)) (variant_pieces count later) ∙ same (variant_pieces count later);
  flagged = All-map (λ (p : MCtor × Bool). p.1 ≡ list_any (writes p.0) heads) (λ p. (p, list_any (writes p) heads)) (variant_pieces count later) (λ k d l. refl);
}
  where
    same : (ps : List MCtor) → map (λ p. p) ps ≡ ps
    same [] = refl
    same (p ∷ ps) = ap (λ qs. p ∷ qs) (same ps)

ctors_are : (empty : ℕ → Bool) (sure : Bool) (heads : List MCtor) (count : ℕ) (later : Bool) → map (λ p. plain_ctor p.ctor) (pieces_of empty sure heads count later) ≡ map (λ p. p.0) (flagged_of heads count later)
ctors_are empty sure heads count later =
    map-append (λ (p : Piece). plain_ctor p.ctor) (each_below (piece_at empty sure heads) count) (later_piece later)
    ∙ ap (λ ps. ps ++ map (λ (p : Piece). plain_ctor p.ctor) (later_piece later)) (map-each_below (λ (p : Piece). plain_ctor p.ctor) (piece_at empty sure heads) count)
    ∙ last later ∙ sym ((set_split heads count later).listed)
  where
    last : (later : Bool) → each_below VariantCtor count ++ map (λ (p : Piece). plain_ctor p.ctor) (later_piece later) ≡ variant_pieces count later
    last true = refl
    last false = append-nil (each_below VariantCtor count)

-- which variants have a value

module _ {T : Type 0} (IsType : T → Type 0) (IsValue : T → Bool → MValue → Type 0) (cx : Context T) (parts : PartsLaw IsType IsValue cx) (unsure : UnsureLaw IsType IsValue)
    (is_empty : T → Bool) (variant_empty : T → ℕ → Bool) (law : EmptyLaw IsType IsValue cx is_empty variant_empty) (t : T) (d : IsType t) (count : ℕ) (later : Bool) (e : cx.set_of t ≡ VariantSet count later) where
  of_set : (k : ℕ) → k < count → IsTrue (is_of_set (cx.set_of t) (OneVariant k))
  of_set k l = subst (λ (x : MSet). IsTrue (is_of_set x (OneVariant k))) (sym e) (below k count l)
    where
      below : (k n : ℕ) → k < n → nat_lt k n ≡ true
      below k n l = grind (arith, nat_tests)

  built : (named : List (List ℕ)) (k : ℕ) (v : MValue) → builds_one (OneVariant k) v ≡ true → builds named (VariantCtor k) v ≡ true
  built named k (Node j ps) b = b
  built named k _ b = b

  unbuilt : (named : List (List ℕ)) (k : ℕ) (v : MValue) → builds named (VariantCtor k) v ≡ true → builds_one (OneVariant k) v ≡ true
  unbuilt named k (Node j ps) b = b
  unbuilt named k _ b = b

  variant_answer : (sure : Bool) (k : ℕ) → k < count → IsValueAnswer IsValue (record { type = t; sure = sure }) (VariantCtor k) (is_valued (variant_empty t) sure k)
  variant_answer false k l = λ named. let r = reach_unsure IsType IsValue cx parts unsure t (OneVariant k) d (of_set k l) in (r.0, r.1, built named k r.0 r.2)
  variant_answer true k l = go (variant_empty t k) refl
    where
      go : (b : Bool) → variant_empty t k ≡ b → IsValueAnswer IsValue (record { type = t; sure = true }) (VariantCtor k) (not b)
      go true f = λ named h. law.variant_is_empty t k d (of_set k l) f h.0 (unbuilt named k h.0 h.2) h.1
      go false f = λ named. let r = law.variant_inhabited t k d (of_set k l) f in (r.0, r.2, built named k r.0 r.1)

  later_answer : (sure : Bool) → later ≡ true → (named : List (List ℕ)) → HasValue IsValue (record { type = t; sure = sure }) named LaterCtor
  later_answer sure f named =
      let r = reach_bare IsType IsValue cx parts t OneLater sure d (subst (λ (x : MSet). IsTrue (is_of_set x OneLater)) (sym e) f) refl in
      (r.0, r.1, built_later r.0 r.2)
    where
      built_later : (v : MValue) → builds_one OneLater v ≡ true → builds named LaterCtor v ≡ true
      built_later Later b = b
      built_later _ b = b

  variant_state : (sure : Bool) (heads : List MCtor) → AreSharp (VariantSet count later) heads → (k : ℕ) → k < count →
      IsFoundState IsValue (record { type = t; sure = sure }) (VariantCtor k) (list_any (λ h. has_piece h (VariantCtor k)) heads) (state_at (variant_empty t) sure heads k)
  variant_state sure heads all k l = go (is_valued (variant_empty t) sure k) (list_any (writes (VariantCtor k)) heads) (variant_answer sure k l) (sym (sharp_writes (VariantSet count later) heads (VariantCtor k) all))
    where
      go : (b w : Bool) → IsValueAnswer IsValue (record { type = t; sure = sure }) (VariantCtor k) b → list_any (λ h. has_piece h (VariantCtor k)) heads ≡ w →
          IsFoundState IsValue (record { type = t; sure = sure }) (VariantCtor k) (list_any (λ h. has_piece h (VariantCtor k)) heads) (state_by b w)
      go false w h f = h
      go true true h f = (h, f)
      go true false h f = (h, f)

  later_states : (sure : Bool) (heads : List MCtor) → AreSharp (VariantSet count later) heads → (b : Bool) → later ≡ b → AreFoundStates IsValue (record { type = t; sure = sure }) heads (later_piece b)
  later_states sure heads all true f =
      All-cons (λ (p : Piece). IsFoundState IsValue (record { type = t; sure = sure }) (plain_ctor p.ctor) (list_any (λ h. has_piece h (plain_ctor p.ctor)) heads) p.state) (record { ctor = c.Later; state = Missing }) []
      (later_answer sure f, sym (sharp_writes (VariantSet count later) heads LaterCtor all) ∙ later_unwritten count later heads all)
      (All-nil (λ (p : Piece). IsFoundState IsValue (record { type = t; sure = sure }) (plain_ctor p.ctor) (list_any (λ h. has_piece h (plain_ctor p.ctor)) heads) p.state))
  later_states sure heads all false f = All-nil (λ (p : Piece). IsFoundState IsValue (record { type = t; sure = sure }) (plain_ctor p.ctor) (list_any (λ h. has_piece h (plain_ctor p.ctor)) heads) p.state)

  states_are : (sure : Bool) (heads : List MCtor) → AreSharp (VariantSet count later) heads → AreFoundStates IsValue (record { type = t; sure = sure }) heads (pieces_of (variant_empty t) sure heads count later)
  states_are sure heads all =
      All-append (λ (p : Piece). IsFoundState IsValue (record { type = t; sure = sure }) (plain_ctor p.ctor) (list_any (λ h. has_piece h (plain_ctor p.ctor)) heads) p.state)
      (each_below (piece_at (variant_empty t) sure heads) count) (later_piece later)
      (All-each_below (λ (p : Piece). IsFoundState IsValue (record { type = t; sure = sure }) (plain_ctor p.ctor) (list_any (λ h. has_piece h (plain_ctor p.ctor)) heads) p.state) (piece_at (variant_empty t) sure heads) count
      (λ k l. variant_state sure heads all k l))
      (later_states sure heads all later refl)

-- what is read off the split

module _ (empty : ℕ → Bool) (sure : Bool) (heads : List MCtor) where
  is_kept : ℕ → Bool
  is_kept k = is_valued empty sure k && list_any (writes (VariantCtor k)) heads

  kept_numbers : (n : ℕ) → filter_map present_piece (map plain_piece (each_below (piece_at empty sure heads) n)) ≡ map VariantCtor (filter is_kept (each_below (λ k. k) n))
  unfolding is_kept
  kept_numbers zero = refl
  kept_numbers (suc n) =
      ap (filter_map present_piece) (map-append plain_piece (each_below (piece_at empty sure heads) n) (piece_at empty sure heads n ∷ []))
      ∙ filter_map-append present_piece (map plain_piece (each_below (piece_at empty sure heads) n)) (plain_piece (piece_at empty sure heads n) ∷ [])
      ∙ ap (λ ps. ps ++ filter_map present_piece (plain_piece (piece_at empty sure heads n) ∷ [])) (kept_numbers n)
      ∙ ap (λ ps. map VariantCtor (filter is_kept (each_below (λ k. k) n)) ++ ps) (one n (is_valued empty sure n) (list_any (writes (VariantCtor n)) heads))
      ∙ sym (map-append VariantCtor (filter is_kept (each_below (λ k. k) n)) (cond (is_kept n) (n ∷ []) []))
      ∙ ap (map VariantCtor) (sym (filter-append is_kept (each_below (λ k. k) n) (n ∷ [])))
    where
      one : (k : ℕ) (b w : Bool) → filter_map present_piece ((VariantCtor k, state_by b w) ∷ []) ≡ map VariantCtor (cond (b && w) (k ∷ []) [])
      one k false w = refl
      one k true true = refl
      one k true false = refl

  some_missing : (n : ℕ) (numbers : List ℕ) → AreNumbers heads numbers → list_any is_missing (map plain_piece (each_below (piece_at empty sure heads) n)) ≡ list_any (is_left_out empty sure numbers) (each_below (λ k. k) n)
  some_missing zero numbers a = refl
  some_missing (suc n) numbers a =
      ap (list_any is_missing) (map-append plain_piece (each_below (piece_at empty sure heads) n) (piece_at empty sure heads n ∷ []))
      ∙ list_any-append is_missing (map plain_piece (each_below (piece_at empty sure heads) n)) (plain_piece (piece_at empty sure heads n) ∷ [])
      ∙ ap (λ b. b || (is_missing (plain_piece (piece_at empty sure heads n)) || false)) (some_missing n numbers a)
      ∙ ap (λ b. list_any (is_left_out empty sure numbers) (each_below (λ k. k) n) || (b || false))
      (one n (is_valued empty sure n) (list_any (writes (VariantCtor n)) heads) ∙ ap (λ b. is_valued empty sure n && not b) (sym (a.each n)))
      ∙ sym (list_any-append (is_left_out empty sure numbers) (each_below (λ k. k) n) (n ∷ []))
    where
      one : (k : ℕ) (b w : Bool) → is_missing (VariantCtor k, state_by b w) ≡ (b && not w)
      one k false w = refl
      one k true true = refl
      one k true false = refl

  no_gaps : (n : ℕ) → filter_map gap_of (map plain_piece (each_below (piece_at empty sure heads) n)) ≡ []
  no_gaps zero = refl
  no_gaps (suc n) =
      ap (filter_map gap_of) (map-append plain_piece (each_below (piece_at empty sure heads) n) (piece_at empty sure heads n ∷ []))
      ∙ filter_map-append gap_of (map plain_piece (each_below (piece_at empty sure heads) n)) (plain_piece (piece_at empty sure heads n) ∷ [])
      ∙ ap (λ ps. ps ++ filter_map gap_of (plain_piece (piece_at empty sure heads n) ∷ [])) (no_gaps n)

  numbers_same : (count : ℕ) (later : Bool) (numbers : List ℕ) → AreSharp (VariantSet count later) heads → AreNumbers heads numbers → filter (is_valued empty sure) numbers ≡ filter is_kept (each_below (λ k. k) count)
  unfolding is_kept
  numbers_same count later numbers all a =
      same_numbers (filter (is_valued empty sure) numbers) (filter is_kept (each_below (λ k. k) count))
      (AllPairs-filter (λ j k. j < k) (is_valued empty sure) numbers a.ascending)
      (AllPairs-filter (λ j k. j < k) is_kept (each_below (λ k. k) count) (AllPairs-each_below (λ j k. j < k) (λ k. k) count (λ j k l. l)))
      (λ n.
      filter_listed (is_valued empty sure) numbers n ∙ ap (λ b. is_valued empty sure n && b) (a.each n)
      ∙ bounded (is_valued empty sure n) (list_any (writes (VariantCtor n)) heads) (nat_lt n count) (λ w. below n count (written_below count later heads n all w))
      ∙ ap (λ b. is_kept n && b) (sym (below_listed count n)) ∙ sym (filter_listed is_kept (each_below (λ k. k) count) n))
    where
      below : (k n : ℕ) → k < n → nat_lt k n ≡ true
      below k n l = grind (arith, nat_tests)

      bounded : (b w l : Bool) → (w ≡ true → l ≡ true) → (b && w) ≡ ((b && w) && l)
      bounded false w l h = refl
      bounded true false l h = refl
      bounded true true l h = sym (h refl)

pub variants_found : {T : Type 0} (IsType : T → Type 0) (IsValue : T → Bool → MValue → Type 0) (cx : Context T) (values : ValuesLaw IsType IsValue cx) (parts : PartsLaw IsType IsValue cx)
    (unsure : UnsureLaw IsType IsValue) (is_empty : T → Bool) (variant_empty : T → ℕ → Bool) → EmptyLaw IsType IsValue cx is_empty variant_empty → (t : T) (sure : Bool) → IsType t →
    (count : ℕ) (later : Bool) → cx.set_of t ≡ VariantSet count later → (heads : List Ctor) → AreSharp (VariantSet count later) (plain_ctors heads) → (numbers : List ℕ) → AreNumbers (plain_ctors heads) numbers →
    (ctors : List MCtor) (missing : Bool) → ctors ≡ map VariantCtor (filter (is_valued (variant_empty t) sure) numbers) →
    missing ≡ (later || list_any (is_left_out (variant_empty t) sure numbers) (each_below (λ k. k) count)) →
    AreFound IsValue cx (record { type = t; sure = sure }) (plain_ctors heads) ctors missing []
variants_found IsType IsValue cx values parts unsure is_empty variant_empty law t sure d count later e heads all numbers a ctors missing f g =
    let hs = plain_ctors heads in
    let empty = variant_empty t in
    let each = each_below (piece_at empty sure hs) count in
    record {
      pieces = map plain_piece (pieces_of empty sure hs count later);
      split = whole_split IsType IsValue cx values t sure (s.Variants count later) heads (flagged_of hs count later) (pieces_of empty sure hs count later) d (sym e)
          (subst (λ (x : MSet). All (λ h. IsTrue (is_head x h)) hs) (sym e) (sharp_heads (VariantSet count later) hs all)) (set_split hs count later) (ctors_are empty sure hs count later)
          (states_are IsType IsValue cx parts unsure is_empty variant_empty law t d count later e sure hs all);
      present = f ∙ ap (map VariantCtor) (numbers_same empty sure hs count later numbers all a) ∙ sym (kept_numbers empty sure hs count) ∙ sym (without each later present_piece (λ q. refl));
      some_missing = g ∙ ap (λ b. later || b) (sym (some_missing empty sure hs count numbers a)) ∙ sym (with_later each later);
      missing_parts = sym (no_gaps empty sure hs count) ∙ sym (without each later gap_of (λ q. refl));
    }
  where
    without : {A : Type 0} (ps : List Piece) (later : Bool) (h : MCtor × PieceState → Option A) → (Unit {0} → h (LaterCtor, Missing) ≡ None) →
        filter_map h (map plain_piece (ps ++ later_piece later)) ≡ filter_map h (map plain_piece ps)
    without ps false h e = ap (λ qs. filter_map h (map plain_piece qs)) (append-nil ps)
    without ps true h e =
        ap (filter_map h) (map-append plain_piece ps (later_piece true)) ∙ filter_map-append h (map plain_piece ps) ((LaterCtor, Missing) ∷ [])
        ∙ ap (λ qs. filter_map h (map plain_piece ps) ++ qs) (none h (e tt)) ∙ append-nil (filter_map h (map plain_piece ps))
      where
        none : {A : Type 0} (h : MCtor × PieceState → Option A) → h (LaterCtor, Missing) ≡ None → filter_map h ((LaterCtor, Missing) ∷ []) ≡ []
        none h e = rw e refl

    with_later : (ps : List Piece) (later : Bool) → list_any is_missing (map plain_piece (ps ++ later_piece later)) ≡ (later || list_any is_missing (map plain_piece ps))
    with_later ps false = ap (λ qs. list_any is_missing (map plain_piece qs)) (append-nil ps)
    with_later ps true =
        ap (list_any is_missing) (map-append plain_piece ps (later_piece true)) ∙ list_any-append is_missing (map plain_piece ps) ((LaterCtor, Missing) ∷ []) ∙ turned (list_any is_missing (map plain_piece ps))
      where
        turned : (b : Bool) → (b || true) ≡ true
        turned true = refl
        turned false = refl
