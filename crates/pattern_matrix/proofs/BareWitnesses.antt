-- Rows of heads have the witnesses that they have once they are made bare.
use Rattle.std.proofs.Common.{◌≡◌, ℕ, Bool, true, false, ◌&&◌, ◌||◌, cond, List, [], ◌∷◌, ◌++◌, map, Some, None, refl, sym, ap, subst, ◌∙◌}
use Rattle.std.specs.List.{list_any, list_all, flat_map, cons_option}
use Rattle.std.proofs.lemmas.List.{map-append}
use Rattle.match_model.specs.Values.{MValue}
use Rattle.match_model.specs.Witness.{MWitness}
use Rattle.match_model.specs.Constructors.{MCtor, WildCtor, OrCtor, has_piece}
use Rattle.match_model.specs.Contexts.{Context, Open}
use Rattle.match_model.specs.ArenaPatterns.{de_pat, de_pats_list}
use Rattle.match_model.specs.Pieces.{ArePieces}
use Rattle.match_model.specs.Rows.{Head as MHead, Choice, choices_of, is_wild, starts_wild, first_ctor, column_of, row_rest, expand_row, wildcards, heads_of, specialised_heads, all_specialised, parts_open}
use Rattle.match_model.specs.WitnessList.{Witnesses, PieceWitnesses, are_wild, named_in, taken, covered, no_row, anything, by_pieces, no_piece, with_value, without_value}
use Rattle.pattern_matrix.specs.Sparse.{bare_head}
use Rattle.pattern_matrix.proofs.BareCounts.{bare_wild, starts_bare}
use Rattle.pattern_matrix.proofs.WantedSteps.{bare_all, bare_behind}

-- the rows without the names that their wildcards bind
abbrev pub bare_heads : {T : Type 0} → List (List (MHead T)) → List (List (MHead T))
bare_heads hss = map (map bare_head) hss

-- ---- what does not see these names

wild_places : {T : Type 0} (places : List (Open T)) (hs : List (MHead T)) → are_wild places (map bare_head hs) ≡ are_wild places hs
wild_places [] [] = refl
wild_places [] (h ∷ hs) = refl
wild_places (o ∷ places) [] = refl
wild_places (o ∷ places) (h ∷ hs) = ap (λ b. b && are_wild places (map bare_head hs)) (bare_wild h) ∙ ap (λ b. is_wild h && b) (wild_places places hs)

any_wild : {T : Type 0} (places : List (Open T)) (hss : List (List (MHead T))) → list_any (are_wild places) (bare_heads hss) ≡ list_any (are_wild places) hss
any_wild places [] = refl
any_wild places (hs ∷ hss) = ap (λ b. b || list_any (are_wild places) (bare_heads hss)) (wild_places places hs) ∙ ap (λ b. are_wild places hs || b) (any_wild places hss)

all_wild : {T : Type 0} (hss : List (List (MHead T))) → list_all starts_wild (bare_heads hss) ≡ list_all starts_wild hss
all_wild [] = refl
all_wild (hs ∷ hss) = ap (λ b. b && list_all starts_wild (bare_heads hss)) (starts_bare hs) ∙ ap (λ b. starts_wild hs && b) (all_wild hss)

ctor_bare : {T : Type 0} (hs : List (MHead T)) → first_ctor (map bare_head hs) ≡ first_ctor hs
ctor_bare [] = refl
ctor_bare (None ∷ hs) = refl
ctor_bare (Some (de_pat WildCtor t uid at subs binds) ∷ hs) = refl
ctor_bare (Some (de_pat _ t uid at subs binds) ∷ hs) = refl

pub column_bare : {T : Type 0} (hss : List (List (MHead T))) → column_of (bare_heads hss) ≡ column_of hss
column_bare [] = refl
column_bare (hs ∷ hss) = ap (λ o. cons_option o (column_of (bare_heads hss))) (ctor_bare hs) ∙ ap (λ cs. cons_option (first_ctor hs) cs) (column_bare hss)

rest_bare : {T : Type 0} (hss : List (List (MHead T))) → bare_heads (map row_rest hss) ≡ map row_rest (bare_heads hss)
rest_bare [] = refl
rest_bare ([] ∷ hss) = ap (λ xs. [] ∷ xs) (rest_bare hss)
rest_bare ((h ∷ hs) ∷ hss) = ap (λ xs. map bare_head hs ∷ xs) (rest_bare hss)

-- ---- a step on bare rows is the step on rows, made bare

module _ {T : Type 0} (f : List (MHead T) → List (List (MHead T))) (same : (hs : List (MHead T)) → bare_heads (f hs) ≡ bare_heads (f (map bare_head hs))) where
  rows_same : (hss : List (List (MHead T))) → bare_heads (flat_map f hss) ≡ bare_heads (flat_map f (bare_heads hss))
  rows_same [] = refl
  rows_same (hs ∷ hss) =
      map-append (map bare_head) (f hs) (flat_map f hss)
      ∙ ap (λ xs. xs ++ bare_heads (flat_map f hss)) (same hs)
      ∙ ap (λ xs. bare_heads (f (map bare_head hs)) ++ xs) (rows_same hss)
      ∙ sym (map-append (map bare_head) (f (map bare_head hs)) (flat_map f (bare_heads hss)))

  -- rows alike before it are alike after it
  pub keeps_alike : (xs ys : List (List (MHead T))) → bare_heads ys ≡ bare_heads xs → bare_heads (flat_map f ys) ≡ bare_heads (flat_map f xs)
  keeps_alike xs ys e = rows_same ys ∙ ap (λ hss. bare_heads (flat_map f hss)) e ∙ sym (rows_same xs)

choices_same : {T : Type 0} (cs : List (Choice T)) (rest : List (MHead T)) →
    bare_heads (map (λ c. Some c.pat ∷ rest) cs) ≡ bare_heads (map (λ c. Some c.pat ∷ map bare_head rest) cs)
choices_same [] rest = refl
choices_same (c ∷ cs) rest =
    ap (λ hs. (bare_head (Some c.pat) ∷ hs) ∷ bare_heads (map (λ c. Some c.pat ∷ rest) cs)) (sym (bare_all rest))
    ∙ ap (λ xs. (bare_head (Some c.pat) ∷ map bare_head (map bare_head rest)) ∷ xs) (choices_same cs rest)

expand_same : {T : Type 0} (hs : List (MHead T)) → bare_heads (expand_row hs) ≡ bare_heads (expand_row (map bare_head hs))
expand_same [] = refl
expand_same (None ∷ rest) = ap (λ hs. (None ∷ hs) ∷ []) (sym (bare_all rest))
expand_same (Some (de_pat WildCtor t uid at subs binds) ∷ rest) = ap (λ hs. (None ∷ hs) ∷ []) (sym (bare_all rest))
expand_same (Some (de_pat c t uid at subs binds) ∷ rest) = choices_same (choices_of (de_pat c t uid at subs binds)) rest

special_same : {T : Type 0} (p : MCtor) (n : ℕ) (hs : List (MHead T)) →
    bare_heads (specialised_heads p n hs) ≡ bare_heads (specialised_heads p n (map bare_head hs))
special_same p n [] = refl
special_same p n (None ∷ rest) = ap (λ hs. hs ∷ []) (bare_behind (wildcards n) rest)
special_same p n (Some (de_pat WildCtor t uid at subs binds) ∷ rest) = ap (λ hs. hs ∷ []) (bare_behind (wildcards n) rest)
special_same p n (Some (de_pat OrCtor t uid at subs binds) ∷ rest) = refl
special_same {T} p n (Some (de_pat c t uid at subs binds) ∷ rest) = go (has_piece c p)
  where
    go : (b : Bool) → bare_heads (cond b ((heads_of c (map Some (de_pats_list subs)) n ++ rest) ∷ []) []) ≡ bare_heads (cond b ((heads_of c (map Some (de_pats_list subs)) n ++ map bare_head rest) ∷ []) [])
    go true = ap (λ hs. hs ∷ []) (bare_behind (heads_of c (map Some (de_pats_list subs)) n) rest)
    go false = refl

-- ---- rows that are alike have the same witnesses

module _ {T : Type 0} (IsValue : T → Bool → MValue → Type 0) (cx : Context T) where
  mutual
    pub alike_witnesses : (places : List (Open T)) (xs : List (List (MHead T))) (ws : List (List MWitness)) → Witnesses cx IsValue places xs ws →
        (ys : List (List (MHead T))) → bare_heads ys ≡ bare_heads xs → Witnesses cx IsValue places ys ws
    alike_witnesses places xs ws (taken row rows) [] e = cc
    alike_witnesses places xs ws (taken row rows) (y ∷ ys) e = taken y ys
    alike_witnesses places xs ws (covered ps rows c) ys e = covered ps ys (sym (any_wild ps ys) ∙ ap (list_any (are_wild ps)) e ∙ any_wild ps rows ∙ c)
    alike_witnesses places xs ws (no_row ps) [] e = no_row ps
    alike_witnesses places xs ws (no_row ps) (y ∷ ys) e = cc
    alike_witnesses places xs ws (anything o ps row rows us w k) [] e = cc
    alike_witnesses places xs ws (anything o ps row rows us w k) (y ∷ ys) e =
        let old = flat_map expand_row (row ∷ rows) in
        let new = flat_map expand_row (y ∷ ys) in
        let same = keeps_alike expand_row expand_same (row ∷ rows) (y ∷ ys) e in
        anything o ps y ys us (sym (all_wild new) ∙ ap (list_all starts_wild) same ∙ all_wild old ∙ w)
        (alike_witnesses ps (map row_rest old) us k (map row_rest new) (rest_bare new ∙ ap (map row_rest) same ∙ sym (rest_bare old)))
    alike_witnesses places xs ws (by_pieces o ps row rows pieces us w a k) [] e = cc
    alike_witnesses places xs ws (by_pieces o ps row rows pieces us w a k) (y ∷ ys) e =
        let old = flat_map expand_row (row ∷ rows) in
        let new = flat_map expand_row (y ∷ ys) in
        let same = keeps_alike expand_row expand_same (row ∷ rows) (y ∷ ys) e in
        by_pieces o ps y ys pieces us (sym (all_wild new) ∙ ap (list_all starts_wild) same ∙ all_wild old ∙ w)
        (subst (λ cs. ArePieces (cx.set_of o.type) cs pieces) (sym (sym (column_bare new) ∙ ap column_of same ∙ column_bare old)) a)
        (alike_pieces (named_in pieces) o ps old pieces us k new same)

    pub alike_pieces : (named : List (List ℕ)) (o : Open T) (places : List (Open T)) (xs : List (List (MHead T))) (pieces : List MCtor) (ws : List (List MWitness)) →
        PieceWitnesses cx IsValue named o places xs pieces ws → (ys : List (List (MHead T))) → bare_heads ys ≡ bare_heads xs → PieceWitnesses cx IsValue named o places ys pieces ws
    alike_pieces named o places xs pieces ws (no_piece m q ps rows) ys e = no_piece m q ps ys
    alike_pieces named o places xs pieces ws (with_value m q ps rows p rest us vs v k r) ys e =
        with_value m q ps ys p rest us vs v
        (alike_witnesses (parts_open cx q p ++ ps) (all_specialised p (cx.arity p q.type) rows) us k (all_specialised p (cx.arity p q.type) ys) (keeps_alike (specialised_heads p (cx.arity p q.type)) (special_same p (cx.arity p q.type)) rows ys e))
        (alike_pieces m q ps rows rest vs r ys e)
    alike_pieces named o places xs pieces ws (without_value m q ps rows p rest vs v r) ys e = without_value m q ps ys p rest vs v (alike_pieces m q ps rows rest vs r ys e)
