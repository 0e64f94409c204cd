-- Sets of the members of lists, and lists by what their members show.
use Rattle.std.proofs.Common.{◌≡◌, ℕ, ◌<◌, ◌≤◌, ◌+◌, Bool, true, false, not, ◌&&◌, ◌||◌, if◌then◌else◌, List, [], ◌∷◌, ◌++◌, map, length, take, drop, get_or, refl, sym, ap, ◌∙◌, append_assoc}
use Rattle.std.specs.Cmp.{IsEquivalence}
use Rattle.std.specs.List.{list_any, list_all}
use Rattle.std.proofs.lemmas.List.Folds.{list_any-append}
use Rattle.std.proofs.lemmas.List.{append-nil, take_more, take_all}
use Rattle.std.proofs.Common.{suc, add-one, take-append-drop, drop-cons}
use Rattle.indexmap.specs.IndexSet.{insert_key, insert_all}
use Rattle.list_members.specs.Members.{is_among, are_among, have_same_members, repeats}

or_false : (b : Bool) → (b || false) ≡ b
or_false true = refl
or_false false = refl

or_assoc : (a b c : Bool) → ((a || b) || c) ≡ (a || (b || c))
or_assoc true b c = refl
or_assoc false b c = refl

-- what is equal to a member is a member
among_by : {K : Type 0} (eq : K → K → Bool) → IsEquivalence eq → (q k : K) (ks : List K) → eq q k ≡ true → is_among eq k ks ≡ true → is_among eq q ks ≡ true
among_by eq laws q k [] e h = absurd cc
among_by eq laws q k (x ∷ ks) e h = by (eq k x) refl (among_by eq laws q k ks e)
  where
    second : (a b : Bool) → a ≡ false → (a || b) ≡ true → b ≡ true
    second true b f h = absurd cc
    second false b f h = h

    by : (t : Bool) → eq k x ≡ t → (is_among eq k ks ≡ true → is_among eq q ks ≡ true) → (eq q x || is_among eq q ks) ≡ true
    by true f rest = rw (laws.congr q k x e, f) refl
    by false f rest = rw (laws.congr q k x e, f) (rest (second (eq k x) (is_among eq k ks) f h))

-- a set with a key inserted
among_insert : {K : Type 0} (eq : K → K → Bool) → IsEquivalence eq → (q k : K) (ks : List K) →
    is_among eq q (insert_key eq ks k) ≡ (is_among eq q ks || eq q k)
among_insert eq laws q k ks = by (list_any (eq k) ks) refl
  where
    known : (a b : Bool) → (b ≡ true → a ≡ true) → a ≡ (a || b)
    known true b f = refl
    known false true f = f refl
    known false false f = refl

    by : (t : Bool) → list_any (eq k) ks ≡ t → is_among eq q (if t then ks else ks ++ k ∷ []) ≡ (is_among eq q ks || eq q k)
    by true h = known (is_among eq q ks) (eq q k) (λ e. among_by eq laws q k ks e h)
    by false h = list_any-append (eq q) ks (k ∷ []) ∙ ap (λ b. is_among eq q ks || b) (or_false (eq q k))

among_all : {K : Type 0} (eq : K → K → Bool) → IsEquivalence eq → (q : K) (ks xs : List K) →
    is_among eq q (insert_all eq ks xs) ≡ (is_among eq q ks || is_among eq q xs)
among_all eq laws q ks [] = sym (or_false (is_among eq q ks))
among_all eq laws q ks (x ∷ xs) =
    among_all eq laws q (insert_key eq ks x) xs
    ∙ (ap (λ b. b || is_among eq q xs) (among_insert eq laws q x ks) ∙ or_assoc (is_among eq q ks) (eq q x) (is_among eq q xs))

-- the set of a list has its members
pub set_has : {K : Type 0} (eq : K → K → Bool) → IsEquivalence eq → (q : K) (keys xs : List K) → keys ≡ insert_all eq [] xs → list_any (eq q) keys ≡ is_among eq q xs
set_has eq laws q keys xs e = ap (list_any (eq q)) e ∙ among_all eq laws q [] xs

-- the members of texts by their bytes
any_map : {A B : Type 0} (f : A → B) (p : B → Bool) (xs : List A) → list_any (λ x. p (f x)) xs ≡ list_any p (map f xs)
any_map f p [] = refl
any_map f p (x ∷ xs) = ap (λ b. p (f x) || b) (any_map f p xs)

pub among_map : {A B : Type 0} (f : A → B) (eq : B → B → Bool) (xs ys : List A) → are_among (λ x y. eq (f x) (f y)) xs ys ≡ are_among eq (map f xs) (map f ys)
among_map f eq [] ys = refl
among_map f eq (x ∷ xs) ys = rw (any_map f (eq (f x)) ys) (ap (λ b. is_among eq (f x) (map f ys) && b) (among_map f eq xs ys))

map_append : {A B : Type 0} (f : A → B) (xs ys : List A) → map f (xs ++ ys) ≡ map f xs ++ map f ys
map_append f [] ys = refl
map_append f (x ∷ xs) ys = ap (λ zs. f x ∷ zs) (map_append f xs ys)

pub repeats_map : {A B : Type 0} (f : A → B) (eq : B → B → Bool) (before xs : List A) → repeats (λ x y. eq (f x) (f y)) before xs ≡ repeats eq (map f before) (map f xs)
repeats_map f eq before [] = refl
repeats_map f eq before (x ∷ xs) =
    rw (any_map f (eq (f x)) before)
    (ap (λ b. is_among eq (f x) (map f before) || b)
    (repeats_map f eq (before ++ x ∷ []) xs ∙ ap (λ zs. repeats eq zs (map f xs)) (map_append f before (x ∷ []))))

-- a list in two parts
pub repeats_append : {K : Type 0} (eq : K → K → Bool) (before xs ys : List K) → repeats eq before (xs ++ ys) ≡ (repeats eq before xs || repeats eq (before ++ xs) ys)
repeats_append eq before [] ys = ap (λ zs. repeats eq zs ys) (sym (append-nil before))
repeats_append eq before (x ∷ xs) ys =
    ap (λ b. is_among eq x before || b) (repeats_append eq (before ++ x ∷ []) xs ys)
    ∙ (ap (λ zs. is_among eq x before || (repeats eq (before ++ x ∷ []) xs || repeats eq zs ys)) (append_assoc before (x ∷ []) xs)
    ∙ sym (or_assoc (is_among eq x before) (repeats eq (before ++ x ∷ []) xs) (repeats eq (before ++ x ∷ xs) ys)))

-- a list around one of its items
parted : {K : Type 0} (xs : List K) (i : ℕ) (x : K) → i < length xs → x ≡ get_or xs i x → xs ≡ take i xs ++ x ∷ drop (i + 1) xs
parted {K} xs i x lt is = sym (take-append-drop i xs) ∙ ap (λ (ys : List K). take i xs ++ ys) (rw add-one (drop-cons xs i x lt ∙ ap (λ (y : K). y ∷ drop (suc i) xs) (sym is)))

front_more : {K : Type 0} (xs : List K) (i : ℕ) (x : K) → i < length xs → x ≡ get_or xs i x → take (i + 1) xs ≡ take i xs ++ x ∷ []
front_more {K} xs i x lt is = take_more xs i x lt ∙ ap (λ (y : K). take i xs ++ y ∷ []) (sym is)

there : (b c : Bool) → c ≡ not b → c ≡ false → b ≡ true
there true c e h = refl
there false c e h = absurd cc

absent : (b c : Bool) → c ≡ not b → c ≡ true → b ≡ false
absent true c e h = absurd cc
absent false c e h = refl

-- a key that was seen stands twice
pub repeats_found : {K : Type 0} (eq : K → K → Bool) (xs keys : List K) (i : ℕ) (x : K) (b : Bool) → i < length xs → x ≡ get_or xs i x →
    keys ≡ take i xs → b ≡ not (list_any (eq x) keys) → b ≡ false → true ≡ repeats eq [] xs
repeats_found {K} eq xs keys i x b lt is seen fresh known =
    let here : is_among eq x (take i xs) ≡ true = ap (list_any (eq x)) (sym seen) ∙ there (list_any (eq x) keys) b fresh known in
    sym (ap (repeats eq []) (parted xs i x lt is) ∙ (repeats_append eq [] (take i xs) (x ∷ drop (i + 1) xs) ∙ second here))
  where
    either : (a b c : Bool) → b ≡ true → (a || (b || c)) ≡ true
    either true b c h = refl
    either false true c h = refl
    either false false c h = absurd cc

    second : is_among eq x (take i xs) ≡ true → (repeats eq [] (take i xs) || repeats eq (take i xs) (x ∷ drop (i + 1) xs)) ≡ true
    second h = either (repeats eq [] (take i xs)) (is_among eq x (take i xs)) (repeats eq (take i xs ++ x ∷ []) (drop (i + 1) xs)) h

-- a key that was not seen goes behind the others
pub repeats_step : {K : Type 0} (eq : K → K → Bool) (xs keys new : List K) (i : ℕ) (x : K) (b : Bool) → i < length xs → x ≡ get_or xs i x →
    keys ≡ take i xs → repeats eq [] (take i xs) ≡ false → b ≡ not (list_any (eq x) keys) → b ≡ true → new ≡ insert_key eq keys x →
    (new ≡ take (i + 1) xs) × (repeats eq [] (take (i + 1) xs) ≡ false)
repeats_step {K} eq xs keys new i x b lt is seen before fresh known put =
    let apart : list_any (eq x) keys ≡ false = absent (list_any (eq x) keys) b fresh known in
    let here : is_among eq x (take i xs) ≡ false = ap (list_any (eq x)) (sym seen) ∙ apart in
    let more = front_more xs i x lt is in (
      put ∙ (put_last (list_any (eq x) keys) apart ∙ (ap (λ (ks : List K). ks ++ x ∷ []) seen ∙ sym more)),
      ap (repeats eq []) more ∙ (repeats_append eq [] (take i xs) (x ∷ []) ∙ neither (repeats eq [] (take i xs)) (is_among eq x (take i xs)) before here),
    )
  where
    put_last : (t : Bool) → t ≡ false → (if t then keys else keys ++ x ∷ []) ≡ keys ++ x ∷ []
    put_last true h = absurd cc
    put_last false h = refl

    neither : (a b : Bool) → a ≡ false → b ≡ false → (a || (b || false)) ≡ false
    neither true b h k = absurd cc
    neither false true h k = absurd cc
    neither false false h k = refl

-- no key was seen twice
pub repeats_none : {K : Type 0} (eq : K → K → Bool) (xs : List K) (i : ℕ) → length xs ≤ i → repeats eq [] (take i xs) ≡ false → false ≡ repeats eq [] xs
repeats_none eq xs i all none = sym (ap (repeats eq []) (sym (take_all i xs all)) ∙ none)

-- what the set of a list tells of another
pub among_set : {K : Type 0} (eq : K → K → Bool) → IsEquivalence eq → (xs ys keys : List K) → keys ≡ insert_all eq [] ys →
    list_all (λ x. list_any (eq x) keys) xs ≡ are_among eq xs ys
among_set eq laws [] ys keys e = refl
among_set eq laws (x ∷ xs) ys keys e = rw (set_has eq laws x keys ys e) (ap (λ b. is_among eq x ys && b) (among_set eq laws xs ys keys e))

-- neither list lacks a member of the other
pub same_members : {K : Type 0} (eq : K → K → Bool) (xs ys : List K) (a b : Bool) → a ≡ are_among eq xs ys → b ≡ are_among eq ys xs → a ≡ true → b ≡ have_same_members eq xs ys
same_members eq xs ys a b p q h = q ∙ ap (λ c. c && are_among eq ys xs) (sym h ∙ p)

pub other_members : {K : Type 0} (eq : K → K → Bool) (xs ys : List K) (a : Bool) → a ≡ are_among eq xs ys → a ≡ false → false ≡ have_same_members eq xs ys
other_members eq xs ys a p h = ap (λ c. c && are_among eq ys xs) (sym h ∙ p)
