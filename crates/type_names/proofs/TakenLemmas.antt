-- Names that are taken one by one.
use Rattle.std.proofs.Common.{◌≡◌, ℕ, ◌+◌, ◌<◌, ◌≤◌, Bool, true, false, not, ◌||◌, List, [], ◌∷◌, ◌++◌, map, length, refl, sym, ap, ◌∙◌, append_assoc, take, drop, get_or}
use Rattle.std.specs.Str.{bytes_eq}
use Rattle.std.proofs.lemmas.List.{append-nil, map-append, take_all}
use Rattle.std.proofs.Math.Bool.{or_assoc, or-true, or-false}
use Rattle.std.proofs.lemmas.List.Folds.{list_any-append}
use Rattle.type_names.specs.NameRules.{is_among, repeats, some_among, is_taken, taken_names, function_names, value_names}
use Rattle.decl_syntax.specs.Items.{KindTree, ItemTree}
use Rattle.type_names.specs.Views.{among}
use Rattle.type_names.proofs.Places.{same_functions, front_more}
use Rattle.type_names.proofs.ItemTests.{parted}

pub repeats_append : (before xs ys : List (List ℕ)) → repeats before (xs ++ ys) ≡ (repeats before xs || repeats (before ++ xs) ys)
repeats_append before [] ys = ap (λ (zs : List (List ℕ)). repeats zs ys) (sym (append-nil before))
repeats_append before (x ∷ xs) ys =
    ap (λ b. is_among x before || b) (repeats_append (before ++ x ∷ []) xs ys)
    ∙ (ap (λ (zs : List (List ℕ)). is_among x before || (repeats (before ++ x ∷ []) xs || repeats zs ys)) (append_assoc before (x ∷ []) xs)
    ∙ sym (or_assoc (is_among x before) (repeats (before ++ x ∷ []) xs) (repeats (before ++ x ∷ xs) ys)))

pub among_push : (xs : List (List ℕ)) (y q : List ℕ) → is_among q (xs ++ y ∷ []) ≡ (is_among q xs || bytes_eq q y)
among_push xs y q = list_any-append (bytes_eq q) xs (y ∷ []) ∙ ap (λ b. is_among q xs || b) (or-false (bytes_eq q y))

pub free : (b c : Bool) → c ≡ not b → c ≡ true → b ≡ false
free true c e h = absurd cc
free false c e h = refl

bound : (b c : Bool) → c ≡ not b → c ≡ false → b ≡ true
bound true c e h = refl
bound false c e h = absurd cc

-- a name that is taken behind one list
pub taken_behind : (before : List (List ℕ)) (old new : List ℕ → Bool) (name : List ℕ) → old ≡ among before → new ≡ (λ q. old q || bytes_eq q name) → new ≡ among (before ++ name ∷ [])
taken_behind before old new name is more = more ∙ same_functions (λ q. ap (λ (f : List ℕ → Bool). f q || bytes_eq q name) is ∙ sym (among_push before name q))

-- a name that is taken behind two lists
pub taken_more : (before xs : List (List ℕ)) (old new : List ℕ → Bool) (y : List ℕ) → old ≡ among (before ++ xs) → new ≡ (λ q. old q || bytes_eq q y) →
    new ≡ among (before ++ (xs ++ y ∷ []))
taken_more before xs old new y is more = taken_behind (before ++ xs) old new y is more ∙ ap among (append_assoc before xs (y ∷ []))

-- a name that was free is taken behind the others
pub taken_step : (before xs : List (List ℕ)) (old new : List ℕ → Bool) (y : List ℕ) (b : Bool) → repeats before xs ≡ false → old ≡ among (before ++ xs) →
    b ≡ not (old y) → b ≡ true → new ≡ (λ q. old q || bytes_eq q y) →
    (repeats before (xs ++ y ∷ []) ≡ false) × (new ≡ among (before ++ (xs ++ y ∷ [])))
taken_step before xs old new y b differ is fresh is_new more =
    let new_y : is_among y (before ++ xs) ≡ false = ap (λ (f : List ℕ → Bool). f y) (sym is) ∙ free (old y) b fresh is_new in (
      repeats_append before xs (y ∷ []) ∙ rw (differ, new_y) refl,
      taken_more before xs old new y is more,
    )

-- a name that was not free is there twice
pub taken_twice : (before xs ys : List (List ℕ)) (old : List ℕ → Bool) (y : List ℕ) (b : Bool) → old ≡ among (before ++ xs) →
    b ≡ not (old y) → b ≡ false → repeats before (xs ++ y ∷ ys) ≡ true
taken_twice before xs ys old y b is fresh known =
    let there : is_among y (before ++ xs) ≡ true = ap (λ (f : List ℕ → Bool). f y) (sym is) ∙ bound (old y) b fresh known in
    repeats_append before xs (y ∷ ys) ∙ rw there (or-true (repeats before xs))

-- the names of a list around one of them
pub parted_map : {A B : Type 0} (f : A → B) (xs : List A) (i : ℕ) (x : A) → i < length xs → x ≡ get_or xs i x → map f xs ≡ map f (take i xs) ++ f x ∷ map f (drop (i + 1) xs)
parted_map f xs i x lt is = ap (map f) (parted xs i x lt is) ∙ map-append f (take i xs) (x ∷ drop (i + 1) xs)

-- the names of what is seen of a list, around one item
pub parted_names : {A B : Type 0} (view : A → B) (name : B → List ℕ) (xs : List A) (i : ℕ) (x : A) → i < length xs → x ≡ get_or xs i x →
    map name (map view xs) ≡ map name (map view (take i xs)) ++ name (view x) ∷ map name (map view (drop (i + 1) xs))
parted_names view name xs i x lt is =
    ap (map name) (parted_map view xs i x lt is) ∙ map-append name (map view (take i xs)) (view x ∷ map view (drop (i + 1) xs))

-- the names of what is seen of a front that is one item longer
pub front_names : {A B : Type 0} (view : A → B) (name : B → List ℕ) (xs : List A) (i : ℕ) (x : A) → i < length xs → x ≡ get_or xs i x →
    map name (map view (take (i + 1) xs)) ≡ map name (map view (take i xs)) ++ name (view x) ∷ []
front_names view name xs i x lt is = ap (map name) (front_more view xs i x lt is) ∙ map-append name (map view (take i xs)) (view x ∷ [])

pub whole_map : {A B : Type 0} (f : A → B) (xs : List A) (i : ℕ) → length xs ≤ i → map f (take i xs) ≡ map f xs
whole_map f xs i all = ap (map f) (take_all i xs all)

-- no name of the item is taken
pub not_taken : (all : List ItemTree) (types functions values : List (List ℕ)) (k : KindTree) (ts fs vs : List (List ℕ)) →
    ts ≡ taken_names k → fs ≡ function_names k → vs ≡ value_names all k →
    repeats types ts ≡ false → some_among fs functions ≡ false → some_among fs values ≡ false → some_among vs functions ≡ false →
    false ≡ is_taken all types functions values k
not_taken all types functions values k ts fs vs t f v a b c d = rw (← t, ← f, ← v, a, b, c, d) refl

-- a name alone is free unless it is one of those before it
pub free_is : (before : List (List ℕ)) (old : List ℕ → Bool) (name : List ℕ) (b : Bool) → old ≡ among before → b ≡ not (old name) → not b ≡ is_among name before
free_is before old name b is fresh = ap not fresh ∙ (not_not (old name) ∙ ap (λ (f : List ℕ → Bool). f name) is)
  where
    not_not : (x : Bool) → not (not x) ≡ x
    not_not true = refl
    not_not false = refl

-- what breaks rule 10 by one name
pub is_taken_by_type : (all : List ItemTree) (types functions values : List (List ℕ)) (k : KindTree) (name : List ℕ) →
    name ∷ [] ≡ taken_names k → [] ≡ function_names k → [] ≡ value_names all k → is_among name types ≡ is_taken all types functions values k
is_taken_by_type all types functions values k name t f v = rw (← t, ← f, ← v) (sym (or-false (is_among name types || false) ∙ or-false (is_among name types)))

pub is_taken_by_function : (all : List ItemTree) (types functions values : List (List ℕ)) (k : KindTree) (name : List ℕ) →
    [] ≡ taken_names k → name ∷ [] ≡ function_names k → [] ≡ value_names all k → (is_among name functions || is_among name values) ≡ is_taken all types functions values k
is_taken_by_function all types functions values k name t f v = rw (← t, ← f, ← v) (alone (is_among name functions) (is_among name values))
  where
    alone : (x y : Bool) → (x || y) ≡ ((x || false) || ((y || false) || false))
    alone true y = refl
    alone false true = refl
    alone false false = refl
