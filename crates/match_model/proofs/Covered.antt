-- Rows of which one is all wildcards leave no witness.
use Rattle.std.proofs.Common.{◌≡◌, ◌⊎◌, inl, inr, ℕ, zero, suc, Bool, true, false, List, [], ◌∷◌, ◌++◌, map, length, subst, Some, None, refl, ap, ◌∙◌}
use Rattle.std.specs.List.{flat_map, list_any}
use Rattle.match_model.specs.Values.{MValue}
use Rattle.match_model.specs.Witness.{MWitness, AnyOf}
use Rattle.match_model.specs.Constructors.{MCtor, WildCtor}
use Rattle.match_model.specs.Contexts.{Context, Open}
use Rattle.match_model.specs.ArenaPatterns.{de_pat}
use Rattle.match_model.specs.Rows.{Head, is_wild, expand_row, row_rest, specialised_heads, all_specialised, wildcards, part_open, parts_open}
use Rattle.match_model.specs.Pieces.{each_below}
use Rattle.match_model.specs.WitnessList.{are_wild, named_in, Witnesses, taken, covered, no_row, anything, by_pieces, PieceWitnesses, no_piece, with_value, without_value}
use Rattle.match_model.proofs.Basics.{both, or_left, or_right, either, untrue}

any_append : {A : Type 0} (P : A → Bool) (xs ys : List A) → (list_any P xs ≡ true) ⊎ (list_any P ys ≡ true) → list_any P (xs ++ ys) ≡ true
any_append P [] ys (inl h) = untrue h
any_append P [] ys (inr h) = h
any_append P (x ∷ xs) ys (inr h) = or_right (P x) _ (any_append P xs ys (inr h))
any_append P (x ∷ xs) ys (inl h) =
    elim (either (P x) (list_any P xs) h) [
      | inl k ↦ or_left (P x) _ k
      | inr k ↦ or_right (P x) _ (any_append P xs ys (inl k))
    ]

any_flat : {A B : Type 0} (P : A → Bool) (Q : B → Bool) (f : A → List B) → ((x : A) → P x ≡ true → list_any Q (f x) ≡ true) → (xs : List A) →
    list_any P xs ≡ true → list_any Q (flat_map f xs) ≡ true
any_flat P Q f each [] h = untrue h
any_flat P Q f each (x ∷ xs) h =
    elim (either (P x) (list_any P xs) h) [
      | inl k ↦ any_append Q (f x) (flat_map f xs) (inl (each x k))
      | inr k ↦ any_append Q (f x) (flat_map f xs) (inr (any_flat P Q f each xs k))
    ]

any_map : {A B : Type 0} (P : A → Bool) (Q : B → Bool) (f : A → B) → ((x : A) → P x ≡ true → Q (f x) ≡ true) → (xs : List A) →
    list_any P xs ≡ true → list_any Q (map f xs) ≡ true
any_map P Q f each [] h = untrue h
any_map P Q f each (x ∷ xs) h =
    elim (either (P x) (list_any P xs) h) [
      | inl k ↦ or_left (Q (f x)) _ (each x k)
      | inr k ↦ or_right (Q (f x)) _ (any_map P Q f each xs k)
    ]

expanded : {T : Type 0} (o : Open T) (places : List (Open T)) (row : List (Head T)) → are_wild (o ∷ places) row ≡ true → list_any (are_wild (o ∷ places)) (expand_row row) ≡ true
expanded o places [] h = untrue h
expanded o places (None ∷ rest) h = or_left (are_wild places rest) false h
expanded o places (Some (de_pat WildCtor t uid at subs binds) ∷ rest) h = or_left (are_wild places rest) false h
expanded o places (Some (de_pat _ t uid at subs binds) ∷ rest) h = untrue h

rested : {T : Type 0} (o : Open T) (places : List (Open T)) (row : List (Head T)) → are_wild (o ∷ places) row ≡ true → are_wild places (row_rest row) ≡ true
rested o places [] h = untrue h
rested o places (x ∷ rest) h = (both (is_wild x) (are_wild places rest) h).1

wild_front : {T : Type 0} (ps places : List (Open T)) (rest : List (Head T)) → are_wild places rest ≡ true → are_wild (ps ++ places) (wildcards (length ps) ++ rest) ≡ true
wild_front [] places rest h = h
wild_front (p ∷ ps) places rest h = wild_front ps places rest h

push_count : {A : Type 0} (xs : List A) (y : A) → length (xs ++ y ∷ []) ≡ suc (length xs)
push_count [] y = refl
push_count (x ∷ xs) y = ap suc (push_count xs y)

below_count : {A : Type 0} (f : ℕ → A) (n : ℕ) → length (each_below f n) ≡ n
below_count f zero = refl
below_count f (suc n) = push_count (each_below f n) (f n) ∙ ap suc (below_count f n)

module _ {T : Type 0} (cx : Context T) (IsValue : T → Bool → MValue → Type 0) where
  wild_parts : (o : Open T) (places : List (Open T)) (piece : MCtor) (rest : List (Head T)) → are_wild places rest ≡ true →
      are_wild (parts_open cx o piece ++ places) (wildcards (cx.arity piece o.type) ++ rest) ≡ true
  wild_parts o places piece rest h =
      subst (λ n. are_wild (parts_open cx o piece ++ places) (wildcards n ++ rest) ≡ true) (below_count (part_open cx o piece) (cx.arity piece o.type))
      (wild_front (parts_open cx o piece) places rest h)

  specialised : (o : Open T) (places : List (Open T)) (piece : MCtor) (row : List (Head T)) → are_wild (o ∷ places) row ≡ true →
      list_any (are_wild (parts_open cx o piece ++ places)) (specialised_heads piece (cx.arity piece o.type) row) ≡ true
  specialised o places piece [] h = untrue h
  specialised o places piece (None ∷ rest) h = or_left _ false (wild_parts o places piece rest h)
  specialised o places piece (Some (de_pat WildCtor t uid at subs binds) ∷ rest) h = or_left _ false (wild_parts o places piece rest h)
  specialised o places piece (Some (de_pat _ t uid at subs binds) ∷ rest) h = untrue h

  mutual
    pub covered_none : (places : List (Open T)) (rows : List (List (Head T))) (ws : List (List MWitness)) → Witnesses cx IsValue places rows ws →
        list_any (are_wild places) rows ≡ true → ws ≡ []
    covered_none _ _ _ (covered places rows h) k = refl
    covered_none _ _ _ (taken row rows) k = refl
    covered_none _ _ _ (no_row places) k = untrue k
    covered_none _ _ _ (anything o places row rows ws h a) k =
        ap (map (λ w. AnyOf ∷ w)) (covered_none places (map row_rest (flat_map expand_row (row ∷ rows))) ws a
        (any_map (are_wild (o ∷ places)) (are_wild places) row_rest (rested o places) (flat_map expand_row (row ∷ rows))
        (any_flat (are_wild (o ∷ places)) (are_wild (o ∷ places)) expand_row (expanded o places) (row ∷ rows) k)))
    covered_none _ _ _ (by_pieces o places row rows pieces ws h p a) k =
        pieces_none (named_in pieces) o places (flat_map expand_row (row ∷ rows)) pieces ws a
        (any_flat (are_wild (o ∷ places)) (are_wild (o ∷ places)) expand_row (expanded o places) (row ∷ rows) k)

    pieces_none : (named : List (List ℕ)) (o : Open T) (places : List (Open T)) (rows : List (List (Head T))) (pieces : List MCtor) (ws : List (List MWitness)) →
        PieceWitnesses cx IsValue named o places rows pieces ws → list_any (are_wild (o ∷ places)) rows ≡ true → ws ≡ []
    pieces_none _ _ _ _ _ _ (no_piece named o places rows) k = refl
    pieces_none _ _ _ _ _ _ (with_value named o places rows piece pieces ws us h a b) k =
        rw (
          covered_none (parts_open cx o piece ++ places) (all_specialised piece (cx.arity piece o.type) rows) ws a
              (any_flat (are_wild (o ∷ places)) (are_wild (parts_open cx o piece ++ places)) (specialised_heads piece (cx.arity piece o.type)) (specialised o places piece) rows k),
          pieces_none named o places rows pieces us b k,
        ) refl
    pieces_none _ _ _ _ _ _ (without_value named o places rows piece pieces us n b) k = pieces_none named o places rows pieces us b k
