-- The witnesses of a piece that no head has are those of the rows that are wild there, once for all such pieces.
use Rattle.std.proofs.Common.{◌≡◌, ℕ, zero, suc, ◌+◌, Bool, true, false, ◌||◌, List, [], ◌∷◌, ◌++◌, map, replicate, length, cond, Some, None, refl, sym, ap, subst, ◌∙◌, arith, length-append}
use Rattle.std.specs.List.{flat_map, list_all, cons_option}
use Rattle.std.proofs.lemmas.List.{map-append}
use Rattle.match_model.specs.Values.{MValue}
use Rattle.match_model.specs.Constructors.{MCtor, WildCtor, has_piece}
use Rattle.match_model.specs.Contexts.{Context, Open}
use Rattle.match_model.specs.ArenaPatterns.{de_pat, de_pats_list}
use Rattle.match_model.specs.Rows.{Head, expand_row, starts_wild, row_rest, first_ctor, column_of, wildcards, heads_of, specialised_heads, all_specialised}
use Rattle.match_model.specs.Matrices.{MColumn}
use Rattle.match_model.specs.PieceStates.{is_present}
use Rattle.match_model.specs.Witness.{MWitness, AnyOf}
use Rattle.match_model.specs.WitnessList.{Witnesses, taken, covered, no_row, anything, by_pieces}
use Rattle.match_model.proofs.Basics.{untrue}
use Rattle.pattern_matrix.specs.HeadRows.{AllTyped}
use Rattle.witness_search.specs.Bares.{wild_rests}

-- ---- the rows of a piece that no head has

or_false : (a b : Bool) → (a || b) ≡ false → (a ≡ false) × (b ≡ false)
or_false true b e = cc
or_false false b e = (refl, e)

special_row : {T : Type 0} (p : MCtor) (n : ℕ) (h : Head T) (hs : List (Head T)) (others : List MCtor) →
    is_present (cons_option (first_ctor (h ∷ hs)) others) p ≡ false →
    (specialised_heads p n (h ∷ hs) ≡ map (λ xs. wildcards n ++ xs) (cond (starts_wild (h ∷ hs)) (hs ∷ []) [])) × (is_present others p ≡ false)
special_row p n None hs others e = (refl, e)
special_row p n (Some (de_pat WildCtor t uid at subs binds)) hs others e = (refl, e)
special_row {T = T} p n (Some (de_pat c t uid at subs binds)) hs others e =
    let b = or_false (has_piece c p) (is_present others p) e in
    (ap (λ x. cond x ((heads_of c (map Some (de_pats_list subs)) n ++ hs) ∷ []) []) b.0, b.1)

pub missing_rows : {T : Type 0} (cx : Context T) (c : MColumn T) (columns : List (MColumn T)) (p : MCtor) (n : ℕ) (hss : List (List (Head T))) →
    AllTyped cx (c ∷ columns) hss → is_present (column_of hss) p ≡ false →
    all_specialised p n hss ≡ map (λ xs. wildcards n ++ xs) (wild_rests hss)
missing_rows cx c columns p n [] t e = refl
missing_rows cx c columns p n ([] ∷ hss) t e = absurd t.0
missing_rows cx c columns p n ((h ∷ hs) ∷ hss) t e =
    let one = special_row p n h hs (column_of hss) e in
    ap (λ xs. xs ++ all_specialised p n hss) one.0
    ∙ ap (λ xs. map (λ xs. wildcards n ++ xs) (cond (starts_wild (h ∷ hs)) (hs ∷ []) []) ++ xs) (missing_rows cx c columns p n hss t.1 one.1)
    ∙ sym (map-append (λ xs. wildcards n ++ xs) (cond (starts_wild (h ∷ hs)) (hs ∷ []) []) (wild_rests hss))

-- ---- wildcards in front of rows

expand_wild : {T : Type 0} (f : List (Head T) → List (Head T)) (hss : List (List (Head T))) →
    flat_map expand_row (map (λ hs. None ∷ f hs) hss) ≡ map (λ hs. None ∷ f hs) hss
expand_wild f [] = refl
expand_wild f (hs ∷ hss) = ap (λ xs. (None ∷ f hs) ∷ xs) (expand_wild f hss)

start_wild : {T : Type 0} (f : List (Head T) → List (Head T)) (hss : List (List (Head T))) →
    list_all starts_wild (map (λ hs. None ∷ f hs) hss) ≡ true
start_wild f [] = refl
start_wild f (hs ∷ hss) = start_wild f hss

rest_wild : {T : Type 0} (f : List (Head T) → List (Head T)) (hss : List (List (Head T))) → map row_rest (map (λ hs. None ∷ f hs) hss) ≡ map f hss
rest_wild f [] = refl
rest_wild f (hs ∷ hss) = ap (λ xs. f hs ∷ xs) (rest_wild f hss)

same_rows : {A : Type 0} (xss : List (List A)) → map (λ xs. [] ++ xs) xss ≡ xss
same_rows [] = refl
same_rows (xs ∷ xss) = ap (λ ys. xs ∷ ys) (same_rows xss)

more_any : (n : ℕ) (ws : List (List MWitness)) →
    map (λ w. AnyOf ∷ w) (map (λ w. replicate n AnyOf ++ w) ws) ≡ map (λ w. replicate (suc n) AnyOf ++ w) ws
more_any n [] = refl
more_any n (w ∷ ws) = ap (λ xs. (AnyOf ∷ (replicate n AnyOf ++ w)) ∷ xs) (more_any n ws)

any_append : (n : ℕ) (m k : ℕ) → n + m ≡ k → replicate n AnyOf ++ replicate m AnyOf ≡ replicate k AnyOf
any_append zero m k e = ap (λ i. replicate i AnyOf) (let s : m ≡ k = omega (arith, e) in s)
any_append (suc n) m zero e = absurd (omega (arith, e))
any_append (suc n) m (suc k) e = ap (λ xs. AnyOf ∷ xs) (any_append n m k (omega (arith, e)))

module _ {T : Type 0} (cx : Context T) (IsValue : T → Bool → MValue → Type 0) where
  -- without a row anything is a witness, and nothing else
  none_is : {places : List (Open T)} {xs : List (List (Head T))} {ws : List (List MWitness)} → Witnesses cx IsValue places xs ws → xs ≡ [] →
      ws ≡ replicate (length places) AnyOf ∷ []
  none_is (taken row rows) e = absurd (cc)
  none_is (covered places [] t) e = untrue t
  none_is (covered places (row ∷ rows) t) e = absurd (cc)
  none_is (no_row places) e = refl
  none_is (anything o places row rows ws t h) e = absurd (cc)
  none_is (by_pieces o places row rows pieces ws t a h) e = absurd (cc)

  -- with wildcards for some places in front of each row, anything stands there in each witness
  pub in_front : (qs : List (Open T)) (n : ℕ) (places : List (Open T)) (hss : List (List (Head T))) (ws : List (List MWitness)) → length qs ≡ n →
      Witnesses cx IsValue places hss ws →
      Witnesses cx IsValue (qs ++ places) (map (λ hs. wildcards n ++ hs) hss) (map (λ w. replicate n AnyOf ++ w) ws)
  in_front [] zero places hss ws e h =
      subst (λ x. Witnesses cx IsValue places x (map (λ w. replicate zero AnyOf ++ w) ws)) (sym (same_rows hss))
      (subst (Witnesses cx IsValue places hss) (sym (same_rows ws)) h)
  in_front [] (suc n) places hss ws e h = absurd (omega (arith, e))
  in_front (q ∷ qs) zero places hss ws e h = absurd (omega (arith, e))
  in_front (q ∷ qs) (suc n) places [] ws e h =
      let s = none_is h refl in
      let k : suc n + length places ≡ length (q ∷ (qs ++ places)) = omega (arith, e, length-append qs places) in
      subst (Witnesses cx IsValue (q ∷ (qs ++ places)) []) (sym (ap (map (λ w. replicate (suc n) AnyOf ++ w)) s ∙ ap (λ w. w ∷ []) (any_append (suc n) (length places) (length (q ∷ (qs ++ places))) k)))
      (no_row (q ∷ (qs ++ places)))
  in_front (q ∷ qs) (suc n) places (row ∷ rows) ws e h =
      let f : List (Head T) → List (Head T) = λ hs. wildcards n ++ hs in
      let hss = row ∷ rows in
      subst (Witnesses cx IsValue (q ∷ (qs ++ places)) (map (λ hs. wildcards (suc n) ++ hs) hss)) (more_any n ws)
      (anything q (qs ++ places) (None ∷ f row) (map (λ hs. None ∷ f hs) rows) (map (λ w. replicate n AnyOf ++ w) ws)
      (ap (list_all starts_wild) (expand_wild f hss) ∙ start_wild f hss)
      (subst (λ x. Witnesses cx IsValue (qs ++ places) x (map (λ w. replicate n AnyOf ++ w) ws)) (sym (ap (map row_rest) (expand_wild f hss) ∙ rest_wild f hss))
      (in_front qs n places hss ws (omega (arith, e)) h)))
