-- What is found of the pieces of a set, piece by piece.
use Rattle.std.proofs.Common.{◌≡◌, ℕ, ◌+◌, ◌<◌, Bool, true, false, ◌||◌, List, [], ◌∷◌, ◌++◌, map, filter_map, take, length, get_or, refl, sym, ap, subst, ◌∙◌, arith}
use Rattle.std.specs.List.{All, list_any}
use Rattle.std.proofs.lemmas.List.{map-append}
use Rattle.std.proofs.lemmas.List.Elements.{All-push, filter_map-append}
use Rattle.std.proofs.lemmas.List.Folds.{list_any-append}
use Rattle.match_model.specs.Values.{MValue}
use Rattle.match_model.specs.Constructors.{MCtor, MSet, has_piece}
use Rattle.match_model.specs.Contexts.{Context, Open}
use Rattle.match_model.specs.ContextLaws.{ValuesLaw, RangesAscend}
use Rattle.range_split.proofs.Splits.{All-unmap}
use Rattle.slice_split.proofs.Below.{map-map}
use Rattle.pat_context.specs.Views.{plain_ctor, plain_set}
use Rattle.pat_context.specs.declared.ctor.Ctor.{Ctor}
use Rattle.pat_context.specs.declared.ctor.CtorSet.{CtorSet}
use Rattle.constructor_sets.specs.declared.piece.Piece.{Piece}
use Rattle.constructor_sets.specs.declared.piece.PieceState.{PieceState}
use Rattle.constructor_sets.specs.Columns.{writes, plain_ctors, plain_piece, plain_flagged, IsSetSplit}
use Rattle.constructor_sets.specs.Serving.{IsServing, IsFoundState}
use Rattle.constructor_sets.specs.Present.{present_piece, is_missing, gap_of, AreFound, AreFoundOf}
use Rattle.constructor_sets.proofs.Sharp.{AreSharp, sharp_heads, sharp_writes}
use Rattle.constructor_sets.proofs.Whole.{pushed_ctors, serving_of, whole_split}

or_false : (b c : Bool) → (b || (c || false)) ≡ (b || c)
or_false true c = refl
or_false false true = refl
or_false false false = refl

-- of no piece nothing is found
pub none_found : {T : Type 0} (IsValue : T → Bool → MValue → Type 0) (o : Open T) (heads : List MCtor) → AreFoundOf IsValue o heads [] [] false []
none_found IsValue o heads = record {
  pieces = [];
  same = refl;
  states = λ k d l. absurd (omega (arith, l));
  present = refl;
  some_missing = refl;
  missing_parts = refl;
}

-- one piece more
pub more_found : {T : Type 0} (IsValue : T → Bool → MValue → Type 0) (o : Open T) (heads : List MCtor) (flagged : List (Ctor × Bool)) (i : ℕ) (x : Ctor × Bool) (state : PieceState)
    (ctors ctors' : List MCtor) (missing missing' : Bool) (gaps gaps' : List MCtor) → i < length flagged → x ≡ get_or flagged i x →
    IsFoundState IsValue o (plain_ctor x.0) (list_any (λ h. has_piece h (plain_ctor x.0)) heads) state →
    ctors' ≡ ctors ++ filter_map present_piece ((plain_ctor x.0, state) ∷ []) → missing' ≡ (missing || is_missing (plain_ctor x.0, state)) → gaps' ≡ gaps ++ filter_map gap_of ((plain_ctor x.0, state) ∷ []) →
    AreFoundOf IsValue o heads (take i flagged) ctors missing gaps → AreFoundOf IsValue o heads (take (i + 1) flagged) ctors' missing' gaps'
more_found IsValue o heads flagged i x state ctors ctors' missing missing' gaps gaps' l is st c m g f =
    let p : Piece = record { ctor = x.0; state = state } in
    let grown : map plain_piece (f.pieces ++ p ∷ []) ≡ map plain_piece f.pieces ++ (plain_ctor x.0, state) ∷ [] = map-append plain_piece f.pieces (p ∷ []) in
    record {
      pieces = f.pieces ++ p ∷ [];
      same = pushed_ctors f.pieces (f.pieces ++ p ∷ []) p flagged i x refl l is refl f.same;
      states = All-push (λ (q : Piece). IsFoundState IsValue o (plain_ctor q.ctor) (list_any (λ h. has_piece h (plain_ctor q.ctor)) heads) q.state) f.pieces p f.states st;
      present = c ∙ ap (λ xs. xs ++ filter_map present_piece ((plain_ctor x.0, state) ∷ [])) f.present
          ∙ sym (ap (filter_map present_piece) grown ∙ filter_map-append present_piece (map plain_piece f.pieces) ((plain_ctor x.0, state) ∷ []));
      some_missing = m ∙ ap (λ b. b || is_missing (plain_ctor x.0, state)) f.some_missing ∙ sym (or_false (list_any is_missing (map plain_piece f.pieces)) (is_missing (plain_ctor x.0, state)))
          ∙ sym (ap (list_any is_missing) grown ∙ list_any-append is_missing (map plain_piece f.pieces) ((plain_ctor x.0, state) ∷ []));
      missing_parts = g ∙ ap (λ xs. xs ++ filter_map gap_of ((plain_ctor x.0, state) ∷ [])) f.missing_parts
          ∙ sym (ap (filter_map gap_of) grown ∙ filter_map-append gap_of (map plain_piece f.pieces) ((plain_ctor x.0, state) ∷ []));
    }

module _ {T : Type 0} (IsType : T → Type 0) (IsValue : T → Bool → MValue → Type 0) (cx : Context T) (law : ValuesLaw IsType IsValue cx) (t : T) (set : CtorSet) (heads : List Ctor) (found : List (Ctor × Bool))
    (d : IsType t) (e : plain_set set ≡ cx.set_of t) (all : AreSharp (cx.set_of t) (plain_ctors heads)) (split : IsSetSplit (plain_set set) (plain_ctors heads) (plain_flagged found)) where
  ascends : RangesAscend (plain_set set)
  ascends = subst RangesAscend (sym e) (law.ascend t d)

  sharp : AreSharp (plain_set set) (plain_ctors heads)
  sharp = subst (λ (x : MSet). AreSharp x (plain_ctors heads)) (sym e) all

  -- each of the pieces serves, and its flag tells whether a head has it
  pub all_serve : All (λ p. IsServing (plain_set set) (plain_ctor p.0)) found
  all_serve =
      All-unmap (λ (p : MCtor × Bool). IsServing (plain_set set) p.0) (λ (p : Ctor × Bool). (plain_ctor p.0, p.1)) found
      (All-unmap (IsServing (plain_set set)) (λ (p : MCtor × Bool). p.0) (plain_flagged found)
      (serving_of set heads (map (λ (p : MCtor × Bool). p.0) (plain_flagged found)) ascends (sharp_heads (plain_set set) (plain_ctors heads) sharp) split.listed))

  pub all_flagged : All (λ p. p.1 ≡ list_any (λ h. has_piece h (plain_ctor p.0)) (plain_ctors heads)) found
  all_flagged = λ k x l.
      All-unmap (λ (p : MCtor × Bool). p.1 ≡ list_any (writes p.0) (plain_ctors heads)) (λ (p : Ctor × Bool). (plain_ctor p.0, p.1)) found split.flagged k x l
      ∙ sharp_writes (plain_set set) (plain_ctors heads) (plain_ctor (get_or found k x).0) sharp

  -- so what is found of them is found of the column
  pub all_found : (sure : Bool) (ctors : List MCtor) (missing : Bool) (gaps : List MCtor) → AreFoundOf IsValue (record { type = t; sure = sure }) (plain_ctors heads) found ctors missing gaps →
      AreFound IsValue cx (record { type = t; sure = sure }) (plain_ctors heads) ctors missing gaps
  all_found sure ctors missing gaps f = record {
    pieces = map plain_piece f.pieces;
    split = whole_split IsType IsValue cx law t sure set heads (plain_flagged found) f.pieces d e (sharp_heads (cx.set_of t) (plain_ctors heads) all) split
        (f.same ∙ sym (map-map (λ (p : MCtor × Bool). p.0) (λ (p : Ctor × Bool). (plain_ctor p.0, p.1)) found)) f.states;
    present = f.present;
    some_missing = f.some_missing;
    missing_parts = f.missing_parts;
  }
