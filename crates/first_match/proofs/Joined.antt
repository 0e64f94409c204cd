-- The names of ways that are joined.
use Rattle.std.proofs.Common.{◌≡◌, true, List, [], ◌∷◌, ◌++◌, map, length, nat_eq, reverse, refl, sym, ap, ◌∙◌, arith}
use Rattle.std.proofs.lemmas.Bool.Decides.{nat_tests}
use Rattle.std.proofs.lemmas.List.{map-append, reverse-append, reverse-reverse}
use Rattle.match_model.specs.Ways.{Binding, Way, bind_into, bindings_of_both}
use Rattle.match_model.proofs.Joins.{join_assoc}
use Rattle.first_match.specs.declared.names.Seen.{Seen}
use Rattle.first_match.specs.Asking.{way_binding}
use Rattle.first_match.specs.Names.{plain_seen, put_all, names_held}

both_assoc : (xs ys zs : List Binding) →
    bindings_of_both (bindings_of_both xs ys) zs ≡ bindings_of_both xs (bindings_of_both ys zs)
both_assoc xs ys zs = ap (λ (w : Way). w.bindings) (join_assoc (way_binding xs) (way_binding ys) (way_binding zs))

pub both_none : (xs : List Binding) → bindings_of_both xs [] ≡ xs
both_none [] = refl
both_none (x ∷ xs) = refl

pub none_both : (xss : List (List Binding)) → map (bindings_of_both []) xss ≡ xss
none_both [] = refl
none_both (xs ∷ xss) = ap (λ (yss : List (List Binding)). xs ∷ yss) (none_both xss)

one_both : (a : Binding) (bs : List Binding) → bind_into a bs ≡ bindings_of_both (a ∷ []) bs
one_both a [] = refl
one_both a (b ∷ bs) = refl

put_both : (xs bs : List Binding) → bindings_of_both (put_all xs []) bs ≡ put_all xs bs
put_both [] bs = refl
put_both (a ∷ rest) bs =
    ap (λ (xs : List Binding). bindings_of_both xs bs) (one_both a (put_all rest []))
    ∙ both_assoc (a ∷ []) (put_all rest []) bs
    ∙ ap (bindings_of_both (a ∷ [])) (put_both rest bs)
    ∙ sym (one_both a (put_all rest bs))

pub put_append : (xs bs cs : List Binding) → put_all (xs ++ bs) cs ≡ put_all xs (put_all bs cs)
put_append [] bs cs = refl
put_append (a ∷ rest) bs cs = ap (bind_into a) (put_append rest bs cs)

pub put_put : (xs bs : List Binding) (css : List (List Binding)) →
    map (put_all xs) (map (put_all bs) css) ≡ map (put_all (xs ++ bs)) css
put_put xs bs [] = refl
put_put xs bs (cs ∷ css) =
    ap (λ (ys : List Binding). ys ∷ map (put_all xs) (map (put_all bs) css)) (sym (put_append xs bs cs))
    ∙ ap (λ (yss : List (List Binding)). put_all (xs ++ bs) cs ∷ yss) (put_put xs bs css)

pub put_none : (css : List (List Binding)) → map (put_all []) css ≡ css
put_none [] = refl
put_none (cs ∷ css) = ap (λ (xss : List (List Binding)). cs ∷ xss) (put_none css)

pub names_joined : (way first : List Seen) →
    names_held (way ++ first) ≡ bindings_of_both (names_held first) (names_held way)
names_joined way first =
    ap (λ (bs : List Binding). put_all (reverse bs) []) (map-append plain_seen way first)
    ∙ ap (λ (bs : List Binding). put_all bs []) (reverse-append (map plain_seen way) (map plain_seen first))
    ∙ put_append (reverse (map plain_seen first)) (reverse (map plain_seen way)) []
    ∙ sym (put_both (reverse (map plain_seen first)) (names_held way))

pub map_reversed : {A B : Type 0} (f : A → B) (xs : List A) → map f (reverse xs) ≡ reverse (map f xs)
map_reversed f [] = refl
map_reversed f (x ∷ xs) =
    ap (map f) (reverse-append (x ∷ []) xs)
    ∙ map-append f (reverse xs) (x ∷ [])
    ∙ ap (λ l. l ++ f x ∷ []) (map_reversed f xs)
    ∙ sym (reverse-append (f x ∷ []) (map f xs))

names_reversed : (seen : List Seen) → names_held (reverse seen) ≡ put_all (map plain_seen seen) []
names_reversed seen =
    ap (λ (bs : List Binding). put_all (reverse bs) []) (map_reversed plain_seen seen)
    ∙ ap (λ (bs : List Binding). put_all bs []) (reverse-reverse (map plain_seen seen))

pub each_reversed : (seen : List Seen) (bss : List (List Binding)) →
    map (bindings_of_both (names_held (reverse seen))) bss ≡ map (put_all (map plain_seen seen)) bss
each_reversed seen [] = refl
each_reversed seen (bs ∷ bss) =
    ap (λ (xs : List Binding). xs ∷ map (bindings_of_both (names_held (reverse seen))) bss)
    (ap (λ (xs : List Binding). bindings_of_both xs bs) (names_reversed seen) ∙ put_both (map plain_seen seen) bs)
    ∙ ap (λ (xss : List (List Binding)). put_all (map plain_seen seen) bs ∷ xss) (each_reversed seen bss)

pub no_names : {A : Type 0} (xs : List A) → nat_eq (length xs) 0 ≡ true → xs ≡ []
no_names [] h = refl
no_names (x ∷ xs) h = grind (arith, nat_tests, h)

-- nothing is put before a way
pub none_first : (first : List Seen) → first ≡ [] → (bss : List (List Binding)) →
    bss ≡ map (bindings_of_both (names_held first)) bss
none_first first e bss = rw e (sym (none_both bss))
