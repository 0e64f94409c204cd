-- Bindings of different names may be joined in either order.
use Rattle.std.proofs.Common.{◌≡◌, ◌≢◌, List, [], ◌∷◌, refl, sym, ap, ◌∙◌, subst, Ordering, Less, Equal, Greater}
use Rattle.std.specs.Ordering.{ordering_reverse}
use Rattle.std.proofs.lemmas.Cmp.{nat_list_cmp_total}
use Rattle.match_model.specs.Ways.{Binding, bind_into, bindings_of_both}
use Rattle.match_model.specs.Texts.{compare_texts}
use Rattle.match_model.specs.Lists.{Every}

greater-from : (a b : Binding) → compare_texts a.name b.name ≡ Less → compare_texts b.name a.name ≡ Greater
greater-from a b h = nat_list_cmp_total.antisymm b.name a.name ∙ ap ordering_reverse h

-- two bindings of different names go in in either order
pub swap-less : (a b : Binding) (bs : List Binding) → compare_texts a.name b.name ≡ Less →
    bind_into a (bind_into b bs) ≡ bind_into b (bind_into a bs)
swap-less a b [] h = rw (h, greater-from a b h) refl
swap-less a b (c ∷ rest) h =
    go (compare_texts c.name a.name) (compare_texts c.name b.name) refl refl (swap-less a b rest h)
  where
    go : (o p : Ordering) → compare_texts c.name a.name ≡ o → compare_texts c.name b.name ≡ p →
        bind_into a (bind_into b rest) ≡ bind_into b (bind_into a rest) →
        bind_into a (bind_into b (c ∷ rest)) ≡ bind_into b (bind_into a (c ∷ rest))
    go Less p e f ih =
        let f' : compare_texts c.name b.name ≡ Less = nat_list_cmp_total.trans c.name a.name b.name e h in
        simp (e, f') (ap (λ l. c ∷ l) ih)
    go Equal Less e f ih = simp (e, f, h)
    go Equal Equal e f ih = simp (e, f, h, greater-from a b h)
    go Equal Greater e f ih = simp (e, f, h, greater-from a b h)
    go Greater Less e f ih = simp (e, f, h)
    go Greater Equal e f ih = simp (e, f, h, greater-from a b h)
    go Greater Greater e f ih = simp (e, f, h, greater-from a b h)

-- the names differ
abbrev pub Differ : Binding → Binding → Type 0
Differ a b = compare_texts a.name b.name ≢ Equal

pub swap : (a b : Binding) (bs : List Binding) → Differ a b →
    bind_into a (bind_into b bs) ≡ bind_into b (bind_into a bs)
swap a b bs d = go (compare_texts a.name b.name) refl
  where
    go : (o : Ordering) → compare_texts a.name b.name ≡ o → bind_into a (bind_into b bs) ≡ bind_into b (bind_into a bs)
    go Less e = swap-less a b bs e
    go Equal e = absurd (d e)
    go Greater e = sym (swap-less b a bs (nat_list_cmp_total.antisymm b.name a.name ∙ ap ordering_reverse e))

-- the first list put into the second, one by one
abbrev pub put_all : List Binding → List Binding → List Binding
put_all [] bs = bs
put_all (a ∷ rest) bs = bind_into a (put_all rest bs)

-- the list is what comes of putting its bindings in one by one
abbrev pub Canonical : List Binding → Type 0
Canonical bs = put_all bs [] ≡ bs

pub put-into : (a : Binding) (bs zs : List Binding) → put_all (bind_into a bs) zs ≡ bind_into a (put_all bs zs)
put-into a [] zs = refl
put-into a (b ∷ rest) zs = go (compare_texts b.name a.name) refl (put-into a rest zs)
  where
    go : (o : Ordering) → compare_texts b.name a.name ≡ o → put_all (bind_into a rest) zs ≡ bind_into a
        (put_all rest zs) → put_all (bind_into a (b ∷ rest)) zs ≡ bind_into a (put_all (b ∷ rest) zs)
    go Less e ih = rw e (ap (bind_into b) ih ∙ swap-less b a (put_all rest zs) e)
    go Equal e ih = rw e refl
    go Greater e ih = rw e refl

pub canonical-into : (a : Binding) (bs : List Binding) → Canonical bs → Canonical (bind_into a bs)
canonical-into a bs h = put-into a bs [] ∙ ap (bind_into a) h

-- joining canonical lists puts the first into the second
pub both-put : (xs ys : List Binding) → Canonical xs → bindings_of_both xs ys ≡ put_all xs ys
both-put xs [] h = nil xs ∙ sym h
  where
    nil : (l : List Binding) → bindings_of_both l [] ≡ l
    nil [] = refl
    nil (a ∷ l) = refl
both-put xs (b ∷ ys) h = go xs
  where
    go : (l : List Binding) → bindings_of_both l (b ∷ ys) ≡ put_all l (b ∷ ys)
    go [] = refl
    go (a ∷ l) = ap (bind_into a) (go l)

canonical-put : (xs ys : List Binding) → Canonical ys → Canonical (put_all xs ys)
canonical-put [] ys h = h
canonical-put (a ∷ xs) ys h = canonical-into a (put_all xs ys) (canonical-put xs ys h)

pub canonical-both : (xs ys : List Binding) → Canonical xs → Canonical ys → Canonical (bindings_of_both xs ys)
canonical-both xs ys h k = subst Canonical (sym (both-put xs ys h)) (canonical-put xs ys k)

-- no name of the first stands in the second
abbrev pub Apart : List Binding → List Binding → Type 0
Apart xs ys = Every (λ a. Every (Differ a) ys) xs

push-through : (a : Binding) (ys zs : List Binding) → Every (Differ a) ys →
    bind_into a (put_all ys zs) ≡ put_all ys (bind_into a zs)
push-through a [] zs d = refl
push-through a (y ∷ ys) zs d = swap a y (put_all ys zs) d.0 ∙ ap (bind_into y) (push-through a ys zs d.1)

put-swap : (xs ys zs : List Binding) → Apart xs ys → put_all xs (put_all ys zs) ≡ put_all ys (put_all xs zs)
put-swap [] ys zs d = refl
put-swap (a ∷ xs) ys zs d = ap (bind_into a) (put-swap xs ys zs d.1) ∙ push-through a ys (put_all xs zs) d.0

-- bindings of different names may be joined in either order
pub both-swap : (xs ys : List Binding) → Canonical xs → Canonical ys → Apart xs ys →
    bindings_of_both xs ys ≡ bindings_of_both ys xs
both-swap xs ys h k d =
    both-put xs ys h ∙ (ap (put_all xs) (sym k) ∙ (put-swap xs ys [] d ∙ (ap (put_all ys) h ∙ sym (both-put ys xs k))))

put-put : (xs ys zs : List Binding) → put_all (put_all xs ys) zs ≡ put_all xs (put_all ys zs)
put-put [] ys zs = refl
put-put (a ∷ xs) ys zs = put-into a (put_all xs ys) zs ∙ ap (bind_into a) (put-put xs ys zs)

-- the groups do not count
pub both-assoc : (xs ys zs : List Binding) → Canonical xs → Canonical ys →
    bindings_of_both (bindings_of_both xs ys) zs ≡ bindings_of_both xs (bindings_of_both ys zs)
both-assoc xs ys zs h k =
    both-put (bindings_of_both xs ys) zs (canonical-both xs ys h k)
    ∙ (ap (λ l. put_all l zs) (both-put xs ys h) ∙ (put-put xs ys zs ∙
    (ap (put_all xs) (sym (both-put ys zs k)) ∙ sym (both-put xs (bindings_of_both ys zs) h))))
