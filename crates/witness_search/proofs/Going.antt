-- Going through the pieces of a place, one after the other.
use Rattle.std.proofs.Common.{◌≡◌, ◌<◌, ℕ, zero, suc, Bool, List, [], ◌∷◌, ◌++◌, map, filter_map, drop, length, get_or, refl, sym, ap, subst, ◌∙◌, arith, append_assoc, drop-cons}
use Rattle.std.specs.List.{All}
use Rattle.std.proofs.lemmas.List.Elements.{All-head, All-tail}
use Rattle.match_model.specs.Values.{MValue}
use Rattle.match_model.specs.Constructors.{MCtor}
use Rattle.match_model.specs.Contexts.{Context, Open}
use Rattle.match_model.specs.Rows.{Head}
use Rattle.match_model.specs.Witness.{MWitness}
use Rattle.constructor_sets.specs.Columns.{plain_piece}
use Rattle.constructor_sets.specs.Present.{present_piece}
use Rattle.constructor_sets.specs.declared.piece.Piece.{Piece}
use Rattle.constructor_sets.specs.declared.piece.PieceState.{PieceState}
use Rattle.constructor_sets.specs.declared.piece.PieceState.TheVariants.{Present, Missing, Empty}
use Rattle.witness_search.specs.Cuts.{IsNextOf, IsLeftBehind}
use Rattle.witness_search.specs.Found.{AreOfPiece, AreOfPieces, AreNumbered}
use Rattle.witness_search.specs.Turns.{AreLeftFrom, GoesOn}

-- what holds of all pieces holds of the one with the number
pub at_piece : (P : MCtor × PieceState → Type 0) (pieces : List Piece) (i : ℕ) (p : Piece) → i < length pieces → p ≡ get_or pieces i p → All P (map plain_piece pieces) → P (plain_piece p)
at_piece P [] i p l is a = absurd (omega (arith, l))
at_piece P (x ∷ xs) zero p l is a = subst (λ y. P (plain_piece y)) (sym is) (All-head P (plain_piece x) (map plain_piece xs) a)
at_piece P (x ∷ xs) (suc i) p l is a = at_piece P xs i p (omega (arith, l)) is (All-tail P (plain_piece x) (map plain_piece xs) a)

-- the pieces from a number on: the one with the number, and those behind it
pub from_piece : (pieces : List Piece) (i : ℕ) (p : Piece) → i < length pieces → p ≡ get_or pieces i p → drop i pieces ≡ p ∷ drop (suc i) pieces
from_piece pieces i p l is = drop-cons pieces i p l ∙ ap (λ y. y ∷ drop (suc i) pieces) (sym is)

next_of : (ctors : List MCtor) (numbers : List ℕ) (p : MCtor × PieceState) (ps : List (MCtor × PieceState)) → AreNumbered ctors numbers (filter_map present_piece (p ∷ ps)) → IsNextOf ctors numbers p
next_of ctors [] (c, Present) ps h = absurd h
next_of ctors (k ∷ ks) (c, Present) ps h = (k, ks, refl, h.0)
next_of ctors numbers (c, Missing) ps h = tt
next_of ctors numbers (c, Empty) ps h = tt

tail_same : (k j : ℕ) (ks new : List ℕ) → k ∷ ks ≡ j ∷ new → ks ≡ new
tail_same k j ks new e = cc

left_of : (ctors : List MCtor) (old new : List ℕ) (p : MCtor × PieceState) (ps : List (MCtor × PieceState)) → AreNumbered ctors old (filter_map present_piece (p ∷ ps)) → IsLeftBehind p old new →
    AreNumbered ctors new (filter_map present_piece ps)
left_of ctors [] new (c, Present) ps h b = absurd h
left_of ctors (k ∷ ks) new (c, Present) ps h (j, e) = subst (λ ns. AreNumbered ctors ns (filter_map present_piece ps)) (tail_same k j ks new e) h.1
left_of ctors old new (c, Missing) ps h b = subst (λ ns. AreNumbered ctors ns (filter_map present_piece ps)) b h
left_of ctors old new (c, Empty) ps h b = subst (λ ns. AreNumbered ctors ns (filter_map present_piece ps)) b h

pub next_at : (ctors : List MCtor) (numbers : List ℕ) (pieces : List Piece) (i : ℕ) (p : Piece) → i < length pieces → p ≡ get_or pieces i p → AreLeftFrom ctors numbers pieces i →
    IsNextOf ctors numbers (plain_piece p)
next_at ctors numbers pieces i p l is h =
    next_of ctors numbers (plain_piece p) (map plain_piece (drop (suc i) pieces))
    (subst (λ (ps : List Piece). AreNumbered ctors numbers (filter_map present_piece (map plain_piece ps))) (from_piece pieces i p l is) h)

pub left_behind : (ctors : List MCtor) (old new : List ℕ) (pieces : List Piece) (i j : ℕ) (p : Piece) → j ≡ suc i → i < length pieces → p ≡ get_or pieces i p → AreLeftFrom ctors old pieces i →
    IsLeftBehind (plain_piece p) old new → AreLeftFrom ctors new pieces j
left_behind ctors old new pieces i j p e l is h b =
    subst (λ n. AreLeftFrom ctors new pieces n) (sym e)
    (left_of ctors old new (plain_piece p) (map plain_piece (drop (suc i) pieces))
    (subst (λ (ps : List Piece). AreNumbered ctors old (filter_map present_piece (map plain_piece ps))) (from_piece pieces i p l is) h) b)

module _ {T : Type 0} (cx : Context T) (IsValue : T → Bool → MValue → Type 0) (named : List (List ℕ)) (o : Open T) (places : List (Open T)) (rows : List (List (Head T))) where
  pub goes_on : (pieces : List Piece) (i j : ℕ) (p : Piece) (done us new : List (List MWitness)) → j ≡ suc i → i < length pieces → p ≡ get_or pieces i p → GoesOn cx IsValue named o places rows pieces i done →
      AreOfPiece cx IsValue named o places rows (plain_piece p) us → new ≡ done ++ us → GoesOn cx IsValue named o places rows pieces j new
  goes_on pieces i j p done us new e l is g f n ts h =
      let rest = subst (λ k. AreOfPieces cx IsValue named o places rows (map plain_piece (drop k pieces)) ts) e h in
      let here = subst (λ (ps : List Piece). AreOfPieces cx IsValue named o places rows (map plain_piece ps) (us ++ ts)) (sym (from_piece pieces i p l is)) (us, ts, f, rest, refl) in
      subst (λ ws. AreOfPieces cx IsValue named o places rows (map plain_piece pieces) ws) (sym (ap (λ ws. ws ++ ts) n ∙ append_assoc done us ts)) (g (us ++ ts) here)
