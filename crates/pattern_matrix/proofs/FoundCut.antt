-- What is found of a column says which pieces are present and whether one is missing.
use Rattle.std.proofs.Common.{◌≡◌, ℕ, zero, suc, Bool, true, false, List, [], ◌∷◌, map, filter_map, sym, subst, ◌∙◌, arith}
use Rattle.std.specs.List.{list_any, All, Contains}
use Rattle.std.proofs.lemmas.List.Elements.{All-head, All-tail}
use Rattle.match_model.specs.Values.{MValue}
use Rattle.match_model.specs.Constructors.{MCtor}
use Rattle.match_model.specs.Contexts.{Context, Open}
use Rattle.match_model.specs.PieceStates.{HasValue, IsPresentPiece, IsMissingPiece, named_in}
use Rattle.match_model.proofs.Basics.{untrue}
use Rattle.constructor_sets.specs.declared.piece.PieceState.{PieceState}
use Rattle.constructor_sets.specs.declared.piece.PieceState.TheVariants.{Present, Missing, Empty}
use Rattle.constructor_sets.specs.Columns.{IsState}
use Rattle.constructor_sets.specs.Present.{present_piece, is_missing, AreFound}
use Rattle.pattern_matrix.specs.Searching.{IsColumnCut}
use Rattle.pattern_matrix.proofs.HandingOn.{here, there}

module _ {T : Type 0} (IsValue : T → Bool → MValue → Type 0) (o : Open T) (named : List (List ℕ)) (heads : List MCtor) where
  abbrev States : List (MCtor × PieceState) → Type 0
  States ps = All (λ p. IsState IsValue o named heads p.0 p.1) ps

  -- a present piece is one of the pieces, and has a value and a head
  of_pieces : (ps : List (MCtor × PieceState)) → States ps → (p : MCtor) → Contains (filter_map present_piece ps) p →
      Contains (map (λ x. x.0) ps) p × IsPresentPiece IsValue o named heads p
  of_pieces [] s p (k, l, e) = absurd (omega (arith, l))
  of_pieces ((c, Present) ∷ ps) s p (zero, l, e) =
      ((zero, omega arith, e), subst (IsPresentPiece IsValue o named heads) e (All-head (λ p. IsState IsValue o named heads p.0 p.1) (c, Present) ps s))
  of_pieces ((c, Present) ∷ ps) s p (suc k, l, e) =
      let r = of_pieces ps (All-tail (λ p. IsState IsValue o named heads p.0 p.1) (c, Present) ps s) p (k, omega (arith, l), e) in (there c p (map (λ x. x.0) ps) r.0, r.1)
  of_pieces ((c, Missing) ∷ ps) s p i =
      let r = of_pieces ps (All-tail (λ p. IsState IsValue o named heads p.0 p.1) (c, Missing) ps s) p i in (there c p (map (λ x. x.0) ps) r.0, r.1)
  of_pieces ((c, Empty) ∷ ps) s p i =
      let r = of_pieces ps (All-tail (λ p. IsState IsValue o named heads p.0 p.1) (c, Empty) ps s) p i in (there c p (map (λ x. x.0) ps) r.0, r.1)

  -- each piece with a value and a head is present
  all_of : (ps : List (MCtor × PieceState)) → States ps → (p : MCtor) → Contains (map (λ x. x.0) ps) p → IsPresentPiece IsValue o named heads p →
      Contains (filter_map present_piece ps) p
  all_of [] s p (k, l, e) h = absurd (omega (arith, l))
  all_of ((c, Present) ∷ ps) s p (zero, l, e) h = (zero, omega arith, e)
  all_of ((c, Present) ∷ ps) s p (suc k, l, e) h =
      there c p (filter_map present_piece ps) (all_of ps (All-tail (λ p. IsState IsValue o named heads p.0 p.1) (c, Present) ps s) p (k, omega (arith, l), e) h)
  all_of ((c, Missing) ∷ ps) s p (zero, l, e) h =
      let m = subst (IsMissingPiece IsValue o named heads) e (All-head (λ p. IsState IsValue o named heads p.0 p.1) (c, Missing) ps s) in untrue (sym m.1 ∙ h.1)
  all_of ((c, Missing) ∷ ps) s p (suc k, l, e) h = all_of ps (All-tail (λ p. IsState IsValue o named heads p.0 p.1) (c, Missing) ps s) p (k, omega (arith, l), e) h
  all_of ((c, Empty) ∷ ps) s p (zero, l, e) h =
      let n = All-head (λ p. IsState IsValue o named heads p.0 p.1) (c, Empty) ps s in absurd (n (subst (λ x. HasValue IsValue o named x) (sym e) h.0))
  all_of ((c, Empty) ∷ ps) s p (suc k, l, e) h = all_of ps (All-tail (λ p. IsState IsValue o named heads p.0 p.1) (c, Empty) ps s) p (k, omega (arith, l), e) h

  -- one is missing where the test says so
  one_of : (ps : List (MCtor × PieceState)) → States ps → list_any is_missing ps ≡ true → (p : MCtor) × Contains (map (λ x. x.0) ps) p × IsMissingPiece IsValue o named heads p
  one_of [] s e = untrue e
  one_of ((c, Missing) ∷ ps) s e = (c, here c (map (λ x. x.0) ps), All-head (λ p. IsState IsValue o named heads p.0 p.1) (c, Missing) ps s)
  one_of ((c, Present) ∷ ps) s e =
      let r = one_of ps (All-tail (λ p. IsState IsValue o named heads p.0 p.1) (c, Present) ps s) e in (r.0, there c r.0 (map (λ x. x.0) ps) r.1, r.2)
  one_of ((c, Empty) ∷ ps) s e =
      let r = one_of ps (All-tail (λ p. IsState IsValue o named heads p.0 p.1) (c, Empty) ps s) e in (r.0, there c r.0 (map (λ x. x.0) ps) r.1, r.2)

  none_of : (ps : List (MCtor × PieceState)) → States ps → list_any is_missing ps ≡ false → (p : MCtor) → Contains (map (λ x. x.0) ps) p → IsMissingPiece IsValue o named heads p → ⊥
  none_of [] s e p (k, l, d) m = omega (arith, l)
  none_of ((c, Missing) ∷ ps) s e p i m = untrue (sym e)
  none_of ((c, Present) ∷ ps) s e p (zero, l, d) m =
      let h = subst (IsPresentPiece IsValue o named heads) d (All-head (λ p. IsState IsValue o named heads p.0 p.1) (c, Present) ps s) in untrue (sym m.1 ∙ h.1)
  none_of ((c, Present) ∷ ps) s e p (suc k, l, d) m = none_of ps (All-tail (λ p. IsState IsValue o named heads p.0 p.1) (c, Present) ps s) e p (k, omega (arith, l), d) m
  none_of ((c, Empty) ∷ ps) s e p (zero, l, d) m =
      let n = All-head (λ p. IsState IsValue o named heads p.0 p.1) (c, Empty) ps s in n (subst (λ x. HasValue IsValue o named x) (sym d) m.0)
  none_of ((c, Empty) ∷ ps) s e p (suc k, l, d) m = none_of ps (All-tail (λ p. IsState IsValue o named heads p.0 p.1) (c, Empty) ps s) e p (k, omega (arith, l), d) m

pub cut_of : {T : Type 0} (IsValue : T → Bool → MValue → Type 0) (cx : Context T) (o : Open T) (heads ctors : List MCtor) (missing : Bool) (gaps : List MCtor) →
    AreFound IsValue cx o heads ctors missing gaps → IsColumnCut IsValue cx o heads ctors missing
cut_of {T} IsValue cx o heads ctors missing gaps f =
    let ps = map (λ (x : MCtor × PieceState). x.0) f.pieces in
    let named = named_in ps in
    let s = f.split.states in
    record {
      pieces = ps;
      listed = f.split.are.listed;
      each_present = λ p i. of_pieces IsValue o named heads f.pieces s p (subst (λ xs. Contains xs p) f.present i);
      all_present = λ p i h. subst (λ xs. Contains xs p) (sym f.present) (all_of IsValue o named heads f.pieces s p i h);
      one_missing = λ e. one_of IsValue o named heads f.pieces s (sym f.some_missing ∙ e);
      none_missing = λ e. none_of IsValue o named heads f.pieces s (sym f.some_missing ∙ e);
    }
