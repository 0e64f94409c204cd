-- The names that wildcards bind do not count for witnesses.
use Rattle.std.proofs.Common.{◌≡◌, ℕ, Bool, true, false, ◌&&◌, ◌||◌, List, [], ◌∷◌, ◌++◌, map, cond, Some, None, refl, sym, ap, subst, ◌∙◌}
use Rattle.std.specs.List.{flat_map, list_all, list_any, cons_option}
use Rattle.std.proofs.lemmas.List.{map-append}
use Rattle.match_model.specs.Values.{MValue}
use Rattle.match_model.specs.Constructors.{MCtor, WildCtor, has_piece}
use Rattle.match_model.specs.Contexts.{Context, Open}
use Rattle.match_model.specs.ArenaPatterns.{de_pat, de_pats_list}
use Rattle.match_model.specs.Pieces.{ArePieces}
use Rattle.match_model.specs.Rows.{Head, Choice, choices_of, is_wild, expand_row, starts_wild, row_rest, first_ctor, column_of, wildcards, heads_of, specialised_heads, all_specialised}
use Rattle.match_model.specs.Witness.{MWitness}
use Rattle.match_model.specs.WitnessList.{Witnesses, taken, covered, no_row, anything, by_pieces, PieceWitnesses, no_piece, with_value, without_value, are_wild}
use Rattle.pattern_matrix.specs.Sparse.{bare_head}
use Rattle.witness_search.specs.Bares.{bares}

bare_wild : {T : Type 0} (h : Head T) (b : Bool) → is_wild h ≡ b → is_wild (bare_head h) ≡ is_wild h
bare_wild h true e = ap (λ b. is_wild (cond b None h)) e ∙ sym e
bare_wild h false e = ap (λ b. is_wild (cond b None h)) e

bare_twice : {T : Type 0} (h : Head T) (b : Bool) → is_wild h ≡ b → bare_head (bare_head h) ≡ bare_head h
bare_twice h true e = ap (λ b. bare_head (cond b None h)) e ∙ sym (ap (λ b. cond b None h) e)
bare_twice h false e = ap (λ b. bare_head (cond b None h)) e

pub row_twice : {T : Type 0} (hs : List (Head T)) → map bare_head (map bare_head hs) ≡ map bare_head hs
row_twice [] = refl
row_twice (h ∷ hs) = ap (λ x. x ∷ map bare_head (map bare_head hs)) (bare_twice h (is_wild h) refl) ∙ ap (λ xs. bare_head h ∷ xs) (row_twice hs)

pub rows_twice : {T : Type 0} (hss : List (List (Head T))) → bares (bares hss) ≡ bares hss
rows_twice [] = refl
rows_twice (hs ∷ hss) = ap (λ x. x ∷ bares (bares hss)) (row_twice hs) ∙ ap (λ xs. map bare_head hs ∷ xs) (rows_twice hss)

-- ---- tests of rows

row_wild : {T : Type 0} (places : List (Open T)) (hs : List (Head T)) → are_wild places (map bare_head hs) ≡ are_wild places hs
row_wild [] [] = refl
row_wild [] (h ∷ hs) = refl
row_wild (o ∷ places) [] = refl
row_wild (o ∷ places) (h ∷ hs) =
    ap (λ b. b && are_wild places (map bare_head hs)) (bare_wild h (is_wild h) refl) ∙ ap (λ b. is_wild h && b) (row_wild places hs)

rows_wild : {T : Type 0} (places : List (Open T)) (hss : List (List (Head T))) →
    list_any (are_wild places) (bares hss) ≡ list_any (are_wild places) hss
rows_wild places [] = refl
rows_wild places (hs ∷ hss) =
    ap (λ b. b || list_any (are_wild places) (bares hss)) (row_wild places hs) ∙ ap (λ b. are_wild places hs || b) (rows_wild places hss)

row_starts : {T : Type 0} (hs : List (Head T)) → starts_wild (map bare_head hs) ≡ starts_wild hs
row_starts [] = refl
row_starts (h ∷ hs) = bare_wild h (is_wild h) refl

rows_start : {T : Type 0} (hss : List (List (Head T))) → list_all starts_wild (bares hss) ≡ list_all starts_wild hss
rows_start [] = refl
rows_start (hs ∷ hss) = ap (λ b. b && list_all starts_wild (bares hss)) (row_starts hs) ∙ ap (λ b. starts_wild hs && b) (rows_start hss)

row_ctor : {T : Type 0} (hs : List (Head T)) → first_ctor (map bare_head hs) ≡ first_ctor hs
row_ctor [] = refl
row_ctor (None ∷ hs) = refl
row_ctor (Some (de_pat WildCtor t uid at subs binds) ∷ hs) = refl
row_ctor (Some (de_pat _ t uid at subs binds) ∷ hs) = refl

pub column_bare : {T : Type 0} (hss : List (List (Head T))) → column_of (bares hss) ≡ column_of hss
column_bare [] = refl
column_bare (hs ∷ hss) = ap (λ o. cons_option o (column_of (bares hss))) (row_ctor hs) ∙ ap (cons_option (first_ctor hs)) (column_bare hss)

rests_bare : {T : Type 0} (hss : List (List (Head T))) → bares (map row_rest hss) ≡ map row_rest (bares hss)
rests_bare [] = refl
rests_bare ([] ∷ hss) = ap (λ xs. [] ∷ xs) (rests_bare hss)
rests_bare ((h ∷ hs) ∷ hss) = ap (λ xs. map bare_head hs ∷ xs) (rests_bare hss)

-- ---- steps of rows

choices_bare : {T : Type 0} (hs : List (Head T)) (cs : List (Choice T)) →
    bares (map (λ c. Some c.pat ∷ map bare_head hs) cs) ≡ bares (map (λ c. Some c.pat ∷ hs) cs)
choices_bare hs [] = refl
choices_bare hs (c ∷ cs) =
    ap (λ x. (bare_head (Some c.pat) ∷ x) ∷ bares (map (λ c. Some c.pat ∷ map bare_head hs) cs)) (row_twice hs)
    ∙ ap (λ xs. (bare_head (Some c.pat) ∷ map bare_head hs) ∷ xs) (choices_bare hs cs)

expand_row_bare : {T : Type 0} (hs : List (Head T)) → bares (expand_row (map bare_head hs)) ≡ bares (expand_row hs)
expand_row_bare [] = refl
expand_row_bare (None ∷ hs) = ap (λ x. (None ∷ x) ∷ []) (row_twice hs)
expand_row_bare (Some (de_pat WildCtor t uid at subs binds) ∷ hs) = ap (λ x. (None ∷ x) ∷ []) (row_twice hs)
expand_row_bare (Some (de_pat c t uid at subs binds) ∷ hs) = choices_bare hs (choices_of (de_pat c t uid at subs binds))

expand_bare : {T : Type 0} (hss : List (List (Head T))) → bares (flat_map expand_row (bares hss)) ≡ bares (flat_map expand_row hss)
expand_bare [] = refl
expand_bare (hs ∷ hss) =
    map-append (map bare_head) (expand_row (map bare_head hs)) (flat_map expand_row (bares hss))
    ∙ ap (λ xs. xs ++ bares (flat_map expand_row (bares hss))) (expand_row_bare hs)
    ∙ ap (λ xs. bares (expand_row hs) ++ xs) (expand_bare hss)
    ∙ sym (map-append (map bare_head) (expand_row hs) (flat_map expand_row hss))

behind_bare : {T : Type 0} (xs hs : List (Head T)) → map bare_head (xs ++ map bare_head hs) ≡ map bare_head (xs ++ hs)
behind_bare xs hs =
    map-append bare_head xs (map bare_head hs) ∙ ap (λ ys. map bare_head xs ++ ys) (row_twice hs) ∙ sym (map-append bare_head xs hs)

special_row_bare : {T : Type 0} (p : MCtor) (n : ℕ) (hs : List (Head T)) →
    bares (specialised_heads p n (map bare_head hs)) ≡ bares (specialised_heads p n hs)
special_row_bare p n [] = refl
special_row_bare p n (None ∷ hs) = ap (λ x. x ∷ []) (behind_bare (wildcards n) hs)
special_row_bare p n (Some (de_pat WildCtor t uid at subs binds) ∷ hs) = ap (λ x. x ∷ []) (behind_bare (wildcards n) hs)
special_row_bare {T = T} p n (Some (de_pat c t uid at subs binds) ∷ hs) = go (has_piece c p)
  where
    go : (b : Bool) → bares (cond b ((heads_of c (map Some (de_pats_list subs)) n ++ map bare_head hs) ∷ []) [])
        ≡ bares (cond b ((heads_of c (map Some (de_pats_list subs)) n ++ hs) ∷ []) [])
    go true = ap (λ x. x ∷ []) (behind_bare (heads_of c (map Some (de_pats_list subs)) n) hs)
    go false = refl

special_bare : {T : Type 0} (p : MCtor) (n : ℕ) (hss : List (List (Head T))) →
    bares (all_specialised p n (bares hss)) ≡ bares (all_specialised p n hss)
special_bare p n [] = refl
special_bare p n (hs ∷ hss) =
    map-append (map bare_head) (specialised_heads p n (map bare_head hs)) (all_specialised p n (bares hss))
    ∙ ap (λ xs. xs ++ bares (all_specialised p n (bares hss))) (special_row_bare p n hs)
    ∙ ap (λ xs. bares (specialised_heads p n hs) ++ xs) (special_bare p n hss)
    ∙ sym (map-append (map bare_head) (specialised_heads p n hs) (all_specialised p n hss))

-- ---- rows that are alike but for these names

pub expand_alike : {T : Type 0} (xs ys : List (List (Head T))) → bares xs ≡ bares ys → bares (flat_map expand_row xs) ≡ bares (flat_map expand_row ys)
expand_alike xs ys e = sym (expand_bare xs) ∙ ap (λ zs. bares (flat_map expand_row zs)) e ∙ expand_bare ys

pub special_alike : {T : Type 0} (p : MCtor) (n : ℕ) (xs ys : List (List (Head T))) → bares xs ≡ bares ys →
    bares (all_specialised p n xs) ≡ bares (all_specialised p n ys)
special_alike p n xs ys e = sym (special_bare p n xs) ∙ ap (λ zs. bares (all_specialised p n zs)) e ∙ special_bare p n ys

pub rests_alike : {T : Type 0} (xs ys : List (List (Head T))) → bares xs ≡ bares ys → bares (map row_rest xs) ≡ bares (map row_rest ys)
rests_alike xs ys e = rests_bare xs ∙ ap (map row_rest) e ∙ sym (rests_bare ys)

pub start_alike : {T : Type 0} (xs ys : List (List (Head T))) → bares xs ≡ bares ys → list_all starts_wild ys ≡ list_all starts_wild xs
start_alike xs ys e = sym (rows_start ys) ∙ ap (list_all starts_wild) (sym e) ∙ rows_start xs

pub column_alike : {T : Type 0} (xs ys : List (List (Head T))) → bares xs ≡ bares ys → column_of xs ≡ column_of ys
column_alike xs ys e = sym (column_bare xs) ∙ ap column_of e ∙ column_bare ys

wild_alike : {T : Type 0} (places : List (Open T)) (xs ys : List (List (Head T))) → bares xs ≡ bares ys →
    list_any (are_wild places) ys ≡ list_any (are_wild places) xs
wild_alike places xs ys e = sym (rows_wild places ys) ∙ ap (list_any (are_wild places)) (sym e) ∙ rows_wild places xs

module _ {T : Type 0} (cx : Context T) (IsValue : T → Bool → MValue → Type 0) where
  mutual
    -- rows that are alike have the same witnesses
    pub rebare : {places : List (Open T)} {xs : List (List (Head T))} {ws : List (List MWitness)} → Witnesses cx IsValue places xs ws →
        (ys : List (List (Head T))) → bares xs ≡ bares ys → Witnesses cx IsValue places ys ws
    rebare (taken row rows) [] e = absurd (cc)
    rebare (taken row rows) (y ∷ ys) e = taken y ys
    rebare (covered places rows t) ys e = covered places ys (wild_alike places rows ys e ∙ t)
    rebare (no_row places) [] e = no_row places
    rebare (no_row places) (y ∷ ys) e = absurd (cc)
    rebare (anything o places row rows ws t h) [] e = absurd (cc)
    rebare (anything o places row rows ws t h) (y ∷ ys) e =
        let xs = row ∷ rows in
        let zs = y ∷ ys in
        let alike = expand_alike xs zs e in
        anything o places y ys ws (start_alike (flat_map expand_row xs) (flat_map expand_row zs) alike ∙ t)
        (rebare h (map row_rest (flat_map expand_row zs)) (rests_alike (flat_map expand_row xs) (flat_map expand_row zs) alike))
    rebare (by_pieces o places row rows pieces ws t a h) [] e = absurd (cc)
    rebare (by_pieces o places row rows pieces ws t a h) (y ∷ ys) e =
        let xs = row ∷ rows in
        let zs = y ∷ ys in
        let alike = expand_alike xs zs e in
        by_pieces o places y ys pieces ws (start_alike (flat_map expand_row xs) (flat_map expand_row zs) alike ∙ t)
        (subst (λ c. ArePieces (cx.set_of o.type) c pieces) (column_alike (flat_map expand_row xs) (flat_map expand_row zs) alike) a)
        (repiece h (flat_map expand_row zs) alike)

    pub repiece : {named : List (List ℕ)} {o : Open T} {places : List (Open T)} {xs : List (List (Head T))} {pieces : List MCtor} {ws : List (List MWitness)} →
        PieceWitnesses cx IsValue named o places xs pieces ws → (ys : List (List (Head T))) → bares xs ≡ bares ys →
        PieceWitnesses cx IsValue named o places ys pieces ws
    repiece (no_piece named o places rows) ys e = no_piece named o places ys
    repiece (with_value named o places rows piece pieces ws us v h k) ys e =
        with_value named o places ys piece pieces ws us v
        (rebare h (all_specialised piece (cx.arity piece o.type) ys) (special_alike piece (cx.arity piece o.type) rows ys e)) (repiece k ys e)
    repiece (without_value named o places rows piece pieces us v k) ys e =
        without_value named o places ys piece pieces us v (repiece k ys e)
