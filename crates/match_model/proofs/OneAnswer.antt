-- A match has one witness list.
use Rattle.std.proofs.Common.{◌≡◌, Bool, false, List, [], ◌∷◌, ◌++◌, map, IsTrue, refl, sym, ap, subst, ◌∙◌, ℕ}
use Rattle.std.specs.List.{flat_map, list_all}
use Rattle.match_model.specs.Values.{MValue}
use Rattle.match_model.specs.Witness.{MWitness, AnyOf}
use Rattle.match_model.specs.Constructors.{MCtor}
use Rattle.match_model.specs.Contexts.{Context, Open}
use Rattle.match_model.specs.ArenaPatterns.{MDeMatch}
use Rattle.match_model.specs.Rows.{Head, expand_row, starts_wild, row_rest, column_of, all_specialised, parts_open}
use Rattle.match_model.specs.WitnessList.{named_in, Witnesses, taken, covered, no_row, anything, by_pieces, PieceWitnesses, no_piece, with_value, without_value, IsWitnessList, nothing_to_match, by_rows}
use Rattle.match_model.proofs.Covered.{covered_none}
use Rattle.match_model.proofs.Basics.{untrue}
use Rattle.match_model.proofs.OnePieces.{one_pieces}

-- a test cannot hold and fail
clash : {A : Type 0} (b : Bool) → IsTrue b → b ≡ false → A
clash b h e = untrue (sym e ∙ h)

lone_same : (ws us : List MWitness) → map (λ w. w ∷ []) ws ≡ map (λ w. w ∷ []) us → ws ≡ us
lone_same [] [] e = refl
lone_same [] (u ∷ us) e = cc
lone_same (w ∷ ws) [] e = cc
lone_same (w ∷ ws) (u ∷ us) e =
    let h : w ≡ u = cc in
    let t : map (λ w. w ∷ []) ws ≡ map (λ w. w ∷ []) us = cc in
    rw (h, lone_same ws us t) refl

module _ {T : Type 0} (cx : Context T) (IsValue : T → Bool → MValue → Type 0) where
  mutual
    one_witnesses : (places : List (Open T)) (rows : List (List (Head T))) (ws us : List (List MWitness)) →
        Witnesses cx IsValue places rows ws → Witnesses cx IsValue places rows us → ws ≡ us
    one_witnesses _ _ _ _ (covered places rows h) (covered _ _ k) = refl
    one_witnesses _ _ _ us (covered places rows h) b = sym (covered_none cx IsValue places rows us b h)
    one_witnesses _ _ ws _ a (covered places rows h) = covered_none cx IsValue places rows ws a h
    one_witnesses _ _ _ _ (taken row rows) (taken _ _) = refl
    one_witnesses _ _ _ _ (no_row places) (no_row _) = refl
    one_witnesses _ _ _ _ (anything o places row rows ws h a) (anything _ _ _ _ us k b) =
        ap (map (λ w. AnyOf ∷ w)) (one_witnesses places (map row_rest (flat_map expand_row (row ∷ rows))) ws us a b)
    one_witnesses _ _ _ _ (anything o places row rows ws h a) (by_pieces _ _ _ _ qs us k q b) =
        clash (list_all starts_wild (flat_map expand_row (row ∷ rows))) h k
    one_witnesses _ _ _ _ (by_pieces o places row rows ps ws h p a) (anything _ _ _ _ us k b) =
        clash (list_all starts_wild (flat_map expand_row (row ∷ rows))) k h
    one_witnesses _ _ _ _ (by_pieces o places row rows ps ws h p a) (by_pieces _ _ _ _ qs us k q b) =
        let e : qs ≡ ps = sym (one_pieces (cx.set_of o.type) (column_of (flat_map expand_row (row ∷ rows))) ps qs p q) in
        one_piece_witnesses (named_in ps) o places (flat_map expand_row (row ∷ rows)) ps ws us a
        (subst (λ l. PieceWitnesses cx IsValue (named_in l) o places (flat_map expand_row (row ∷ rows)) l us) e b)

    one_piece_witnesses : (named : List (List ℕ)) (o : Open T) (places : List (Open T)) (rows : List (List (Head T))) (pieces : List MCtor) (ws us : List (List MWitness)) →
        PieceWitnesses cx IsValue named o places rows pieces ws → PieceWitnesses cx IsValue named o places rows pieces us → ws ≡ us
    one_piece_witnesses _ _ _ _ _ _ _ (no_piece named o places rows) (no_piece _ _ _ _) = refl
    one_piece_witnesses _ _ _ _ _ _ _ (with_value named o places rows piece pieces ws vs h a b) (with_value _ _ _ _ _ _ us ts k c d) =
        rw (
          one_witnesses (parts_open cx o piece ++ places) (all_specialised piece (cx.arity piece o.type) rows) ws us a c,
          one_piece_witnesses named o places rows pieces vs ts b d,
        ) refl
    one_piece_witnesses _ _ _ _ _ _ _ (with_value named o places rows piece pieces ws vs h a b) (without_value _ _ _ _ _ _ ts n d) = absurd (n h)
    one_piece_witnesses _ _ _ _ _ _ _ (without_value named o places rows piece pieces vs n b) (with_value _ _ _ _ _ _ us ts k c d) = absurd (n k)
    one_piece_witnesses _ _ _ _ _ _ _ (without_value named o places rows piece pieces vs n b) (without_value _ _ _ _ _ _ ts m d) =
        one_piece_witnesses named o places rows pieces vs ts b d

  pub one_witness_list : (m : MDeMatch T) (ws us : List MWitness) → IsWitnessList cx IsValue m ws → IsWitnessList cx IsValue m us → ws ≡ us
  one_witness_list m _ _ (nothing_to_match none) (nothing_to_match _) = refl
  one_witness_list m _ _ (nothing_to_match none) (by_rows v us h n b) = absurd (n (none v h))
  one_witness_list m _ _ (by_rows v ws h n a) (nothing_to_match none) = absurd (n (none v h))
  one_witness_list m _ _ (by_rows v ws h n a) (by_rows u us k o b) = lone_same ws us (one_witnesses _ _ _ _ a b)
