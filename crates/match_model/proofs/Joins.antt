-- Ways joined and combined: the groups do not count.
use Rattle.std.proofs.Common.{◌≡◌, List, [], ◌∷◌, map, refl, sym, ap, ◌∙◌, append_assoc, Ordering, Less, Equal, Greater}
use Rattle.std.specs.Ordering.{ordering_reverse, match_ordering}
use Rattle.std.proofs.lemmas.Cmp.{nat_list_cmp_total}
use Rattle.std.proofs.lemmas.Grind.{flat_map-append}
use Rattle.std.proofs.lemmas.List.{map-append, append-nil}
use Rattle.match_model.specs.Ways.{Binding, Way, bind_into, bindings_of_both, join, combine, bare_way}
use Rattle.match_model.specs.Texts.{compare_texts}

greater_from : (a b : Binding) → compare_texts a.name b.name ≡ Less → compare_texts b.name a.name ≡ Greater
greater_from a b h = nat_list_cmp_total.antisymm b.name a.name ∙ ap ordering_reverse h

-- two bindings of different names go in in either order
bind_into_swap : (a b : Binding) (bs : List Binding) → compare_texts a.name b.name ≡ Less →
    bind_into a (bind_into b bs) ≡ bind_into b (bind_into a bs)
bind_into_swap a b [] h = rw (h, greater_from a b h) refl
bind_into_swap a b (c ∷ rest) h =
    go (compare_texts c.name a.name) (compare_texts c.name b.name) refl refl (bind_into_swap a b rest h)
  where
    go : (o p : Ordering) → compare_texts c.name a.name ≡ o → compare_texts c.name b.name ≡ p →
        bind_into a (bind_into b rest) ≡ bind_into b (bind_into a rest) →
        bind_into a (bind_into b (c ∷ rest)) ≡ bind_into b (bind_into a (c ∷ rest))
    go Less p e f ih =
        let f' : compare_texts c.name b.name ≡ Less = nat_list_cmp_total.trans c.name a.name b.name e h in
        simp (e, f') (ap (λ l. c ∷ l) ih)
    go Equal Less e f ih = simp (e, f, h)
    go Equal Equal e f ih = simp (e, f, h, greater_from a b h)
    go Equal Greater e f ih = simp (e, f, h, greater_from a b h)
    go Greater Less e f ih = simp (e, f, h)
    go Greater Equal e f ih = simp (e, f, h, greater_from a b h)
    go Greater Greater e f ih = simp (e, f, h, greater_from a b h)

-- a list that has an element
abbrev HasElement : List Binding → Type 0
HasElement [] = ⊥
HasElement (_ ∷ _) = Unit {0}

both-nil : (bs : List Binding) → bindings_of_both bs [] ≡ bs
both-nil [] = refl
both-nil (b ∷ bs) = refl

both-cons : (a : Binding) (rest bs : List Binding) → HasElement bs → bindings_of_both (a ∷ rest) bs ≡ bind_into a (bindings_of_both rest bs)
both-cons a rest [] h = elim h [ ]
both-cons a rest (b ∷ bs) h = refl

both-bind_into : (a : Binding) (bs : List Binding) (c : Binding) (cs : List Binding) →
    bindings_of_both (bind_into a bs) (c ∷ cs) ≡ bind_into a (bindings_of_both bs (c ∷ cs))
both-bind_into a [] c cs = refl
both-bind_into a (b ∷ rest) c cs = go (compare_texts b.name a.name) refl (both-bind_into a rest c cs)
  where
    go : (o : Ordering) → compare_texts b.name a.name ≡ o →
        bindings_of_both (bind_into a rest) (c ∷ cs) ≡ bind_into a (bindings_of_both rest (c ∷ cs)) →
        bindings_of_both (bind_into a (b ∷ rest)) (c ∷ cs) ≡ bind_into a (bindings_of_both (b ∷ rest) (c ∷ cs))
    go Less e ih = rw e (ap (bind_into b) ih ∙ bind_into_swap b a (bindings_of_both rest (c ∷ cs)) e)
    go Equal e ih = rw e refl
    go Greater e ih = rw e refl

bind_into-has : (a : Binding) (bs : List Binding) → HasElement (bind_into a bs)
bind_into-has a [] = tt
bind_into-has a (b ∷ bs) = go (compare_texts b.name a.name)
  where
    go : (o : Ordering) → HasElement (match_ordering o (b ∷ bind_into a bs) (a ∷ b ∷ bs) (a ∷ b ∷ bs))
    go Less = tt
    go Equal = tt
    go Greater = tt

both-has : (bs : List Binding) (c : Binding) (cs : List Binding) → HasElement (bindings_of_both bs (c ∷ cs))
both-has [] c cs = tt
both-has (b ∷ bs) c cs = bind_into-has b (bindings_of_both bs (c ∷ cs))

both_assoc : (xs bs cs : List Binding) →
    bindings_of_both (bindings_of_both xs bs) cs ≡ bindings_of_both xs (bindings_of_both bs cs)
both_assoc [] bs cs = refl
both_assoc (a ∷ rest) [] cs = refl
both_assoc (a ∷ rest) (b ∷ bs) [] = both-nil (bindings_of_both (a ∷ rest) (b ∷ bs))
both_assoc (a ∷ rest) (b ∷ bs) (c ∷ cs) =
    both-bind_into a (bindings_of_both rest (b ∷ bs)) c cs
    ∙ ap (bind_into a) (both_assoc rest (b ∷ bs) (c ∷ cs))
    ∙ sym (both-cons a rest (bindings_of_both (b ∷ bs) (c ∷ cs)) (both-has (b ∷ bs) c cs))

pub join_assoc : (a b c : Way) → join (join a b) c ≡ join a (join b c)
join_assoc a b c =
    rw (append_assoc a.trace b.trace c.trace, append_assoc a.spans b.spans c.spans, both_assoc a.bindings b.bindings c.bindings) refl

map_join-join : (a b : Way) (ws : List Way) → map (join (join a b)) ws ≡ map (join a) (map (join b) ws)
map_join-join a b [] = refl
map_join-join a b (w ∷ ws) = rw (join_assoc a b w, map_join-join a b ws) refl

combine_map-join : (a : Way) (bs cs : List Way) → combine (map (join a) bs) cs ≡ map (join a) (combine bs cs)
combine_map-join a [] cs = refl
combine_map-join a (b ∷ rest) cs =
    rw (map_join-join a b cs, combine_map-join a rest cs) (sym (map-append (join a) (map (join b) cs) (combine rest cs)))

pub combine_assoc : (xs bs cs : List Way) → combine (combine xs bs) cs ≡ combine xs (combine bs cs)
combine_assoc [] bs cs = refl
combine_assoc (a ∷ rest) bs cs =
    flat_map-append (λ w. map (join w) cs) (map (join a) bs) (combine rest bs)
    ∙ rw (combine_map-join a bs cs, combine_assoc rest bs cs) refl

-- the bare way is a unit on both sides
join_bare : (w : Way) → join w bare_way ≡ w
join_bare w = rw (append-nil w.trace, append-nil w.spans, both-nil w.bindings) refl

pub combine_bare_right : (ws : List Way) → combine ws (bare_way ∷ []) ≡ ws
combine_bare_right [] = refl
combine_bare_right (w ∷ ws) = rw (join_bare w, combine_bare_right ws) refl

map_bare : (ws : List Way) → map (join bare_way) ws ≡ ws
map_bare [] = refl
map_bare (w ∷ ws) = ap (λ r. w ∷ r) (map_bare ws)

pub combine_bare_left : (ws : List Way) → combine (bare_way ∷ []) ws ≡ ws
combine_bare_left ws = append-nil (map (join bare_way) ws) ∙ map_bare ws

pub bare_unit : (w : Way) → (join w bare_way ≡ w) × (join bare_way w ≡ w)
bare_unit w = (join_bare w, refl)
