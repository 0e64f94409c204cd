-- What counts of a row, where others stand in its place one after the other: by two tests of each of them, that it takes
-- the values and that it answers.
use Rattle.std.proofs.Common.{◌≡◌, ℕ, Bool, true, false, not, ◌&&◌, ◌||◌, List, [], ◌∷◌, ◌++◌, map, nat_eq, refl, sym, ap, ◌∙◌, arith}
use Rattle.std.specs.List.{list_any, flat_map}
use Rattle.match_model.specs.Values.{MValue}
use Rattle.match_model.specs.Ways.{Way}
use Rattle.match_model.specs.Match.{counting_ways, goes_through}
use Rattle.match_model.specs.Rows.{Head}
use Rattle.match_model.specs.Steps.{Replacement}
use Rattle.match_model.specs.Matrices.{head_ways}
use Rattle.pattern_matrix.specs.Covering.{is_some_there, head_takes, row_takes}
use Rattle.pattern_matrix.specs.Counting.{head_passes, heads_pass}
use Rattle.pattern_matrix.proofs.Traces.{behind, joined, head_traces, row_traces}

-- one row: is it wanted, is it guarded, do its other heads take and answer, does this one take and answer, and does what
-- stands behind it count
abbrev pub one_counts : (w g a b t p k : Bool) → Bool
one_counts w g a b t p k = (w && ((a && t) && (b || p))) || (not (not g && (a && t)) && k)

-- rows one after the other in place of one
abbrev pub fold : {A : Type 0} → (w g a b : Bool) → (takes answers : A → Bool) → List A → (k : Bool) → Bool
fold w g a b t p [] k = k
fold w g a b t p (y ∷ ys) k = one_counts w g a b (t y) (p y) (fold w g a b t p ys k)

-- each of the list is such a one
abbrev pub Each : {A : Type 0} → (A → Type 0) → List A → Type 0
Each P [] = Unit {0}
Each P (y ∷ ys) = P y × Each P ys

one_same : (w g a b t p c d u x k : Bool) → (a && t) ≡ (c && u) → (b || p) ≡ (d || x) →
    one_counts w g a b t p k ≡ one_counts w g c d u x k
one_same w g a b t p c d u x k e f = ap (λ y. (w && (y && (b || p))) || (not (not g && y) && k)) e ∙ ap (λ y. (w && ((c && u) && y)) || (not (not g && (c && u)) && k)) f

-- only the tests count
pub fold-same : {A : Type 0} (w g a b c d : Bool) (t p u x : A → Bool) (ys : List A) (k : Bool) →
    Each (λ y. ((a && t y) ≡ (c && u y)) × ((b || p y) ≡ (d || x y))) ys → fold w g a b t p ys k ≡ fold w g c d u x ys k
fold-same w g a b c d t p u x [] k h = refl
fold-same w g a b c d t p u x (y ∷ ys) k h =
    ap (one_counts w g a b (t y) (p y)) (fold-same w g a b c d t p u x ys k h.1)
    ∙ one_same w g a b (t y) (p y) c d (u y) (x y) (fold w g c d u x ys k) h.0.0 h.0.1

pub every : {A : Type 0} (P : A → Type 0) → ((y : A) → P y) → (ys : List A) → Each P ys
every P f [] = tt
every P f (y ∷ ys) = (f y, every P f ys)

pub fold-map : {A B : Type 0} (w g a b : Bool) (t p : B → Bool) (f : A → B) (ys : List A) (k : Bool) →
    fold w g a b t p (map f ys) k ≡ fold w g a b (λ y. t (f y)) (λ y. p (f y)) ys k
fold-map w g a b t p f [] k = refl
fold-map w g a b t p f (y ∷ ys) k = ap (one_counts w g a b (t (f y)) (p (f y))) (fold-map w g a b t p f ys k)

pub fold-append : {A : Type 0} (w g a b : Bool) (t p : A → Bool) (xs ys : List A) (k : Bool) →
    fold w g a b t p (xs ++ ys) k ≡ fold w g a b t p xs (fold w g a b t p ys k)
fold-append w g a b t p [] ys k = refl
fold-append w g a b t p (x ∷ xs) ys k = ap (one_counts w g a b (t x) (p x)) (fold-append w g a b t p xs ys k)

-- traces

abbrev pub has : ℕ → List ℕ → Bool
has id t = list_any (nat_eq id) t

-- the traces that count
abbrev pub counting_traces : (guarded : Bool) → List (List ℕ) → List (List ℕ)
counting_traces true ts = ts
counting_traces false [] = []
counting_traces false (t ∷ ts) = t ∷ []

abbrev pub some_has : (guarded : Bool) → (id : ℕ) → List (List ℕ) → Bool
some_has g id ts = list_any (has id) (counting_traces g ts)

abbrev pub yes : {A : Type 0} → A → Bool
yes x = true

none_taken : {A : Type 0} (w g b : Bool) (t p : A → Bool) (ys : List A) (k : Bool) → fold w g false b t p ys k ≡ k
none_taken w g b t p [] k = refl
none_taken w g b t p (y ∷ ys) k = closed w g (t y) (b || p y) (fold w g false b t p ys k) ∙ none_taken w g b t p ys k
  where
    closed : (w g t x k : Bool) → ((w && ((false && t) && x)) || (not (not g && (false && t)) && k)) ≡ k
    closed w g t x k = grind arith

one_more : (w a b p s m k : Bool) →
    one_counts w true a b true p (one_counts w true a b s m k) ≡ one_counts w true a b true (p || (s && m)) k
one_more w a b p s m k = grind arith

guarded_fold : (w a b : Bool) (id : ℕ) (ts : List (List ℕ)) (k : Bool) →
    fold w true a b yes (has id) ts k ≡ one_counts w true a b (is_some_there ts) (list_any (has id) ts) k
guarded_fold w a b id [] k = closed w a b k
  where
    closed : (w a b k : Bool) → k ≡ one_counts w true a b false false k
    closed w a b k = grind arith
guarded_fold w a b id (t ∷ ts) k =
    ap (one_counts w true a b true (has id t)) (guarded_fold w a b id ts k)
    ∙ one_more w a b (has id t) (is_some_there ts) (list_any (has id) ts) k
    ∙ ap (λ m. one_counts w true a b true (has id t || m) k) (some_if_any ts)
  where
    some_if_any : (ts : List (List ℕ)) → (is_some_there ts && list_any (has id) ts) ≡ list_any (has id) ts
    some_if_any [] = refl
    some_if_any (t ∷ ts) = refl

-- the rows of traces count as one row
pub traces_fold : (w g a b : Bool) (id : ℕ) (ts : List (List ℕ)) (k : Bool) →
    fold w g a b yes (has id) ts k ≡ one_counts w g a b (is_some_there ts) (some_has g id ts) k
traces_fold w true a b id ts k = guarded_fold w a b id ts k
traces_fold w false a b id [] k = closed w a b k
  where
    closed : (w a b k : Bool) → k ≡ one_counts w false a b false false k
    closed w a b k = grind arith
traces_fold w false true b id (t ∷ ts) k = closed w b (has id t) (fold w false true b yes (has id) ts k) k
  where
    closed : (w b p m k : Bool) → one_counts w false true b true p m ≡ one_counts w false true b true (p || false) k
    closed w b p m k = grind arith
traces_fold w false false b id (t ∷ ts) k = none_taken w false b yes (has id) (t ∷ ts) k ∙ closed w b (has id t) k
  where
    closed : (w b p k : Bool) → k ≡ one_counts w false false b true (p || false) k
    closed w b p k = grind arith

pub has-append : (id : ℕ) (s t : List ℕ) → has id (s ++ t) ≡ (has id s || has id t)
has-append id [] t = refl
has-append id (x ∷ s) t = ap (λ b. nat_eq id x || b) (has-append id s t) ∙ assoc (nat_eq id x) (has id s) (has id t)
  where
    assoc : (a b c : Bool) → (a || (b || c)) ≡ ((a || b) || c)
    assoc a b c = grind arith

or_assoc : (a b c : Bool) → (a || (b || c)) ≡ ((a || b) || c)
or_assoc a b c = grind arith

-- traces with one in front count as where the row had chosen it
front_fold : (w g a b : Bool) (id : ℕ) (s : List ℕ) (ts : List (List ℕ)) (k : Bool) →
    fold w g a b yes (has id) (behind s ts) k ≡ fold w g a (b || has id s) yes (has id) ts k
front_fold w g a b id s ts k =
    fold-map w g a b yes (has id) (λ t. s ++ t) ts k
    ∙ fold-same w g a b a (b || has id s) yes (λ t. has id (s ++ t)) yes (has id) ts k
    (every (λ t. ((a && true) ≡ (a && true)) × ((b || has id (s ++ t)) ≡ ((b || has id s) || has id t)))
    (λ t. (refl, ap (λ x. b || x) (has-append id s t) ∙ or_assoc b (has id s) (has id t))) ts)

-- a head's, and a row's

some_map : {A B : Type 0} (f : A → B) (xs : List A) → is_some_there (map f xs) ≡ is_some_there xs
some_map f [] = refl
some_map f (x ∷ xs) = refl

pub head_some : {T : Type 0} (h : Head T) (v : MValue) → is_some_there (head_traces h v) ≡ head_takes h v
head_some h v = some_map (λ w. w.trace) (head_ways h v)

ways_have : (g : Bool) (id : ℕ) (ws : List Way) → some_has g id (map (λ w. w.trace) ws) ≡ list_any (goes_through id) (counting_ways g ws)
ways_have true id [] = refl
ways_have true id (w ∷ ws) = ap (λ b. has id w.trace || b) (ways_have true id ws)
ways_have false id [] = refl
ways_have false id (w ∷ ws) = refl

pub head_has : {T : Type 0} (g : Bool) (id : ℕ) (h : Head T) (v : MValue) → some_has g id (head_traces h v) ≡ head_passes g id h v
head_has g id h v = ways_have g id (head_ways h v)

some-append : {A : Type 0} (xs ys : List A) → is_some_there (xs ++ ys) ≡ (is_some_there xs || is_some_there ys)
some-append [] ys = refl
some-append (x ∷ xs) ys = refl

joined_some : (us bs : List (List ℕ)) → is_some_there (joined us bs) ≡ (is_some_there us && is_some_there bs)
joined_some [] bs = refl
joined_some (a ∷ us) bs = some-append (behind a bs) (joined us bs) ∙ ap (λ x. x || is_some_there (joined us bs)) (some_map (λ b. a ++ b) bs) ∙ ap (λ x. is_some_there bs || x) (joined_some us bs) ∙ closed (is_some_there us) (is_some_there bs)
  where
    closed : (a b : Bool) → (b || (a && b)) ≡ b
    closed a b = grind arith

row_some : {T : Type 0} (hs : List (Head T)) (vs : List MValue) → is_some_there (row_traces hs vs) ≡ row_takes hs vs
row_some [] [] = refl
row_some [] (v ∷ vs) = refl
row_some (h ∷ hs) [] = refl
row_some (h ∷ hs) (v ∷ vs) =
    joined_some (head_traces h v) (row_traces hs vs)
    ∙ ap (λ x. x && is_some_there (row_traces hs vs)) (head_some h v)
    ∙ ap (λ x. head_takes h v && x) (row_some hs vs)

any-append : {A : Type 0} (q : A → Bool) (xs ys : List A) → list_any q (xs ++ ys) ≡ (list_any q xs || list_any q ys)
any-append q [] ys = refl
any-append q (x ∷ xs) ys = ap (λ b. q x || b) (any-append q xs ys) ∙ or_assoc (q x) (list_any q xs) (list_any q ys)

any_behind : (id : ℕ) (s : List ℕ) (ts : List (List ℕ)) → list_any (has id) (behind s ts) ≡ ((is_some_there ts && has id s) || list_any (has id) ts)
any_behind id s [] = refl
any_behind id s (t ∷ []) = ap (λ b. b || false) (has-append id s t) ∙ closed (has id s) (has id t)
  where
    closed : (a b : Bool) → ((a || b) || false) ≡ (a || (b || false))
    closed a b = grind arith
any_behind id s (t ∷ u ∷ ts) = ap (λ b. b || list_any (has id) (behind s (u ∷ ts))) (has-append id s t) ∙ ap (λ b. (has id s || has id t) || b) (any_behind id s (u ∷ ts)) ∙ closed (has id s) (has id t) (list_any (has id) (u ∷ ts))
  where
    closed : (a b c : Bool) → ((a || b) || (a || c)) ≡ (a || (b || c))
    closed a b c = grind arith

-- where both have a trace, their combinations have what either has
joined_any : (id : ℕ) (us bs : List (List ℕ)) →
    list_any (has id) (joined us bs) ≡ ((is_some_there us && is_some_there bs) && (list_any (has id) us || list_any (has id) bs))
joined_any id [] bs = refl
joined_any id (a ∷ us) bs =
    any-append (has id) (behind a bs) (joined us bs)
    ∙ ap (λ x. x || list_any (has id) (joined us bs)) (any_behind id a bs)
    ∙ ap (λ x. ((is_some_there bs && has id a) || list_any (has id) bs) || x) (joined_any id us bs)
    ∙ cases us bs
  where
    closed : (a u s b : Bool) → ((a || b) || ((s && true) && (u || b))) ≡ (((true && true) && ((a || (s && u)) || b)))
    closed a u s b = grind arith

    none : (id : ℕ) (us : List (List ℕ)) → ((is_some_there us && false) && (list_any (has id) us || false)) ≡ false
    none id [] = refl
    none id (u ∷ us) = refl

    cases : (us bs : List (List ℕ)) →
        (((is_some_there bs && has id a) || list_any (has id) bs) || ((is_some_there us && is_some_there bs) && (list_any (has id) us || list_any (has id) bs)))
        ≡ ((is_some_there bs) && ((has id a || list_any (has id) us) || list_any (has id) bs))
    cases us [] = none id us
    cases [] (b ∷ bs) = closed (has id a) false false (list_any (has id) (b ∷ bs))
    cases (u ∷ us) (b ∷ bs) = closed (has id a) (list_any (has id) (u ∷ us)) true (list_any (has id) (b ∷ bs))

first_joined : (us bs : List (List ℕ)) (id : ℕ) → some_has false id (joined us bs) ≡ ((is_some_there us && is_some_there bs) && (some_has false id us || some_has false id bs))
first_joined [] bs id = refl
first_joined (a ∷ us) [] id = none us
  where
    none : (us : List (List ℕ)) → some_has false id (joined us []) ≡ false
    none [] = refl
    none (u ∷ us) = none us
first_joined (a ∷ us) (b ∷ bs) id = ap (λ x. x || false) (has-append id a b) ∙ closed (has id a) (has id b)
  where
    closed : (a b : Bool) → ((a || b) || false) ≡ ((a || false) || (b || false))
    closed a b = grind arith

joined_has : (g : Bool) (id : ℕ) (us bs : List (List ℕ)) →
    some_has g id (joined us bs) ≡ ((is_some_there us && is_some_there bs) && (some_has g id us || some_has g id bs))
joined_has true id us bs = joined_any id us bs
joined_has false id us bs = first_joined us bs id

-- where a row takes the values, one of its heads passes where one of its ways that count does
row_has : {T : Type 0} (g : Bool) (id : ℕ) (hs : List (Head T)) (vs : List MValue) →
    some_has g id (row_traces hs vs) ≡ (row_takes hs vs && heads_pass g id hs vs)
row_has true id [] [] = refl
row_has false id [] [] = refl
row_has true id [] (v ∷ vs) = refl
row_has false id [] (v ∷ vs) = refl
row_has true id (h ∷ hs) [] = refl
row_has false id (h ∷ hs) [] = refl
row_has g id (h ∷ hs) (v ∷ vs) =
    joined_has g id (head_traces h v) (row_traces hs vs)
    ∙ ap (λ x. (x && is_some_there (row_traces hs vs)) && (some_has g id (head_traces h v) || some_has g id (row_traces hs vs))) (head_some h v)
    ∙ ap (λ x. (head_takes h v && x) && (some_has g id (head_traces h v) || some_has g id (row_traces hs vs))) (row_some hs vs)
    ∙ ap (λ x. (head_takes h v && row_takes hs vs) && (x || some_has g id (row_traces hs vs))) (head_has g id h v)
    ∙ ap (λ x. (head_takes h v && row_takes hs vs) && (head_passes g id h v || x)) (row_has g id hs vs)
    ∙ closed (head_takes h v) (row_takes hs vs) (head_passes g id h v) (heads_pass g id hs vs)
  where
    closed : (t s p m : Bool) → ((t && s) && (p || (s && m))) ≡ ((t && s) && (p || m))
    closed t s p m = grind arith

-- replacements, whose heads stand on these values

abbrev pub takes_in : {T : Type 0} → List MValue → Replacement T → Bool
takes_in us y = row_takes y.heads us

abbrev pub passes_in : {T : Type 0} → (guarded : Bool) → (id : ℕ) → List MValue → Replacement T → Bool
passes_in g id us y = has id y.chosen || heads_pass g id y.heads us

abbrev pub traces_in : {T : Type 0} → List MValue → List (Replacement T) → List (List ℕ)
traces_in us ys = flat_map (λ y. behind y.chosen (row_traces y.heads us)) ys

one_fold : {T : Type 0} (w g a b : Bool) (id : ℕ) (us : List MValue) (y : Replacement T) (k : Bool) →
    fold w g a b yes (has id) (behind y.chosen (row_traces y.heads us)) k ≡ one_counts w g a b (takes_in us y) (passes_in g id us y) k
one_fold w g a b id us y k =
    front_fold w g a b id y.chosen (row_traces y.heads us) k
    ∙ traces_fold w g a (b || has id y.chosen) id (row_traces y.heads us) k
    ∙ ap (λ s. one_counts w g a (b || has id y.chosen) s (some_has g id (row_traces y.heads us)) k) (row_some y.heads us)
    ∙ ap (λ p. one_counts w g a (b || has id y.chosen) (row_takes y.heads us) p k) (row_has g id y.heads us)
    ∙ closed w g a b (row_takes y.heads us) (has id y.chosen) (heads_pass g id y.heads us) k
  where
    closed : (w g a b t c p k : Bool) → one_counts w g a (b || c) t (t && p) k ≡ one_counts w g a b t (c || p) k
    closed w g a b t c p k = grind arith

all_fold : {T : Type 0} (w g a b : Bool) (id : ℕ) (us : List MValue) (ys : List (Replacement T)) (k : Bool) →
    fold w g a b (takes_in us) (passes_in g id us) ys k ≡ fold w g a b yes (has id) (traces_in us ys) k
all_fold w g a b id us [] k = refl
all_fold w g a b id us (y ∷ ys) k =
    ap (one_counts w g a b (takes_in us y) (passes_in g id us y)) (all_fold w g a b id us ys k)
    ∙ sym (one_fold w g a b id us y (fold w g a b yes (has id) (traces_in us ys) k))
    ∙ sym (fold-append w g a b yes (has id) (behind y.chosen (row_traces y.heads us)) (traces_in us ys) k)

-- replacements that have the traces of a head count as it does
pub stands_for : {T : Type 0} (w g a b : Bool) (id : ℕ) (us : List MValue) (ys : List (Replacement T)) (h : Head T) (v : MValue) (k : Bool) →
    traces_in us ys ≡ head_traces h v →
    fold w g a b (takes_in us) (passes_in g id us) ys k ≡ one_counts w g a b (head_takes h v) (head_passes g id h v) k
stands_for w g a b id us ys h v k e =
    all_fold w g a b id us ys k
    ∙ ap (λ ts. fold w g a b yes (has id) ts k) e
    ∙ traces_fold w g a b id (head_traces h v) k
    ∙ ap (λ s. one_counts w g a b s (some_has g id (head_traces h v)) k) (head_some h v)
    ∙ ap (λ p. one_counts w g a b (head_takes h v) p k) (head_has g id h v)
