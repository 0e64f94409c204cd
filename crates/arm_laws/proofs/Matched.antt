-- Whether a pattern of several parts matches, by whether its parts match.
use Rattle.std.proofs.Common.{◌≡◌, ◌<◌, ◌≤◌, ℕ, zero, suc, ◌+◌, ◌-◌, Bool, true, false, not, ◌&&◌, ◌||◌, List, []}
use Rattle.std.proofs.Common.{◌∷◌, ◌++◌, map, take, drop, replicate, length, nat_eq, nat_lt, nat_le, refl, sym, ap}
use Rattle.std.proofs.Common.{◌∙◌, arith, length-append, length-take-le, length-drop}
use Rattle.std.proofs.lemmas.List.{take-append-drop}
use Rattle.std.specs.Prelude.{if◌then◌else◌}
use Rattle.std.specs.List.{list_any, list_all}
use Rattle.std.proofs.lemmas.Bool.Decides.{nat_tests}
use Rattle.match_model.specs.declared.Mode.{Mode}
use Rattle.match_model.specs.Values.{MValue}
use Rattle.match_model.specs.Match.{is_empty_list}
use Rattle.match_model.specs.Matching.{Matcher, wild, are_parts, parts_ways, items_ways, matchers, field_ways, ways}
use Rattle.match_model.specs.Matching.{to_move}
use Rattle.match_model.specs.Patterns.{MPats, no_pats, more_pats, MNumbered, numbers_in, is_none_of, all_differ}
use Rattle.match_model.specs.Ways.{Way, join, combine, under}
use Rattle.match_model.proofs.Basics.{and_true, nat_itself}
use Rattle.arm_laws.specs.Meant.{numbered}

-- there is a way
abbrev pub some : List Way → Bool
some ws = not (is_empty_list ws)

pub some_map : (f : Way → Way) (ws : List Way) → some (map f ws) ≡ some ws
some_map f [] = refl
some_map f (w ∷ ws) = refl

some_append : (xs ys : List Way) → some (xs ++ ys) ≡ (some xs || some ys)
some_append [] ys = refl
some_append (x ∷ xs) ys = refl

absorbed : (a b : Bool) → (a || (b && a)) ≡ a
absorbed true b = refl
absorbed false true = refl
absorbed false false = refl

pub some_combine : (xs ys : List Way) → some (combine xs ys) ≡ (some xs && some ys)
some_combine [] ys = refl
some_combine (x ∷ xs) ys =
    some_append (map (join x) ys) (combine xs ys)
    ∙ ap (λ b. b || some (combine xs ys)) (some_map (join x) ys)
    ∙ ap (λ b. some ys || b) (some_combine xs ys) ∙ absorbed (some ys) (some xs)

-- each part matches, and there are as many parts as patterns
abbrev pub all_match : Mode → MPats → List MValue → Bool
all_match m no_pats [] = true
all_match m (more_pats p ps) (v ∷ vs) = some (ways p m v) && all_match m ps vs
all_match m ps vs = false

-- one matcher, and the others
some_next : (f : Matcher) (v : MValue) (i : ℕ) (rest : List Way) (b : Bool) → some rest ≡ b →
    some (combine (map (under i) (f v)) rest) ≡ (some (f v) && b)
some_next f v i rest b e =
    some_combine (map (under i) (f v)) rest
    ∙ ap (λ c. c && some rest) (some_map (under i) (f v)) ∙ ap (λ c. some (f v) && c) e

-- ---- tuples and rows

-- behind as many items as there are patterns
pub items_first : (m : Mode) (ps : MPats) (fs : List Matcher) (i : ℕ) (xs vs : List MValue) →
    length xs ≡ length (matchers to_move ps m) →
    some (items_ways (matchers to_move ps m ++ fs) i (xs ++ vs))
    ≡ (all_match m ps xs && some (items_ways fs (i + length xs) vs))
items_first m no_pats fs i [] vs l = let e : i ≡ i + 0 = omega arith in ap (λ j. some (items_ways fs j vs)) e
items_first m no_pats fs i (x ∷ xs) vs l = absurd (omega (arith, l))
items_first m (more_pats p ps) fs i [] vs l = absurd (omega (arith, l))
items_first m (more_pats p ps) fs i (x ∷ xs) vs l =
    let e : suc i + length xs ≡ i + suc (length xs) = omega arith in
    some_next (λ v. ways p m v) x i (items_ways (matchers to_move ps m ++ fs) (suc i) (xs ++ vs))
    (all_match m ps xs && some (items_ways fs (i + suc (length xs)) vs))
    (items_first m ps fs (suc i) xs vs (omega (arith, l)) ∙ ap (λ j. all_match m ps xs && some (items_ways fs j vs)) e)
    ∙ together (some (ways p m x)) (all_match m ps xs) (some (items_ways fs (i + suc (length xs)) vs))
  where
    together : (a b c : Bool) → (a && (b && c)) ≡ ((a && b) && c)
    together true b c = refl
    together false b c = refl

-- items that a rest has
rest_first : (fs : List Matcher) (i : ℕ) (xs vs : List MValue) →
    some (items_ways (replicate (length xs) wild ++ fs) i (xs ++ vs)) ≡ some (items_ways fs (i + length xs) vs)
rest_first fs i [] vs = let e : i ≡ i + 0 = omega arith in ap (λ j. some (items_ways fs j vs)) e
rest_first fs i (x ∷ xs) vs =
    let e : suc i + length xs ≡ i + suc (length xs) = omega arith in
    some_next wild x i (items_ways (replicate (length xs) wild ++ fs) (suc i) (xs ++ vs))
    (some (items_ways fs (i + suc (length xs)) vs))
    (rest_first fs (suc i) xs vs ∙ ap (λ j. some (items_ways fs j vs)) e)

-- all items
pub items_all : (m : Mode) (ps : MPats) (i : ℕ) (vs : List MValue) →
    some (items_ways (matchers to_move ps m) i vs) ≡ all_match m ps vs
items_all m no_pats i [] = refl
items_all m no_pats i (v ∷ vs) = refl
items_all m (more_pats p ps) i [] = refl
items_all m (more_pats p ps) i (v ∷ vs) =
    some_next (λ u. ways p m u) v i (items_ways (matchers to_move ps m) (suc i) vs) (all_match m ps vs)
    (items_all m ps (suc i) vs)

append_none : {A : Type 0} (xs : List A) → xs ++ [] ≡ xs
append_none [] = refl
append_none (x ∷ xs) = ap (λ ys. x ∷ ys) (append_none xs)

pub items_alone : (m : Mode) (ps : MPats) (i : ℕ) (vs : List MValue) →
    some (items_ways (matchers to_move ps m ++ []) i vs) ≡ all_match m ps vs
items_alone m ps i vs =
    ap (λ fs. some (items_ways fs i vs)) (append_none (matchers to_move ps m)) ∙ items_all m ps i vs

-- the first items, those of a rest, and the last ones
pub items_around : (m : Mode) (ps qs : MPats) (xs ys zs : List MValue) → length xs ≡ length (matchers to_move ps m) →
    some (items_ways (matchers to_move ps m ++ (replicate (length ys) wild ++ matchers to_move qs m)) 0
    (xs ++ (ys ++ zs)))
    ≡ (all_match m ps xs && all_match m qs zs)
items_around m ps qs xs ys zs l =
    items_first m ps (replicate (length ys) wild ++ matchers to_move qs m) 0 xs (ys ++ zs) l
    ∙ ap (λ b. all_match m ps xs && b)
    (rest_first (matchers to_move qs m) (0 + length xs) ys zs ∙ items_all m qs (0 + length xs + length ys) zs)

-- fewer items than matchers
pub items_few : (fs : List Matcher) (i : ℕ) (vs : List MValue) → length vs < length fs → some (items_ways fs i vs) ≡
    false
items_few [] i vs l = absurd (omega (arith, l))
items_few (f ∷ fs) i [] l = refl
items_few (f ∷ fs) i (v ∷ vs) l =
    some_next f v i (items_ways fs (suc i) vs) false (items_few fs (suc i) vs (omega (arith, l))) ∙ none (some (f v))
  where
    none : (b : Bool) → (b && false) ≡ false
    none true = refl
    none false = refl

drop_none : {A : Type 0} (n : ℕ) → drop {A = A} n [] ≡ []
drop_none zero = refl
drop_none (suc n) = refl

drop_more : {A : Type 0} (f n : ℕ) (xs : List A) → drop n (drop f xs) ≡ drop (f + n) xs
drop_more zero n xs = let z : n ≡ 0 + n = omega arith in ap (λ k. drop k xs) z
drop_more (suc f) n [] = drop_none n ∙ sym (drop_none (suc f + n))
drop_more (suc f) n (x ∷ xs) =
    let z : suc (f + n) ≡ suc f + n = omega arith in
    drop_more f n xs ∙ ap (λ k. drop k (x ∷ xs)) z

-- the first items and the last ones, and whatever stands between
pub longer_some : (m : Mode) (ps qs : MPats) (f b : ℕ) (vs : List MValue) → length (matchers to_move ps m) ≡ f →
    length (matchers to_move qs m) ≡ b →
    some (items_ways (matchers to_move ps m ++ (replicate (length vs - (f + b)) wild ++ matchers to_move qs m)) 0 vs)
    ≡ (nat_le (f + b) (length vs) && (all_match m ps (take f vs) && all_match m qs (drop (length vs - b) vs)))
longer_some m ps qs f b vs lf lb = go (nat_le (f + b) (length vs)) refl
  where
    short : (n k : ℕ) → nat_le k n ≡ false → n < k
    short n k e = grind (arith, nat_tests)

    enough : (n k : ℕ) → nat_le k n ≡ true → k ≤ n
    enough n k e = grind (arith, nat_tests)

    go : (c : Bool) → nat_le (f + b) (length vs) ≡ c →
        some (items_ways (matchers to_move ps m ++ (replicate (length vs - (f + b)) wild ++ matchers to_move qs m)) 0
        vs)
        ≡ (c && (all_match m ps (take f vs) && all_match m qs (drop (length vs - b) vs)))
    go false e =
        let s = short (length vs) (f + b) e in
        let x = length-append (matchers to_move ps m) (replicate (length vs - (f + b)) wild ++ matchers to_move qs m)
        in
        let y = length-append (replicate (length vs - (f + b)) wild) (matchers to_move qs m) in
        items_few (matchers to_move ps m ++ (replicate (length vs - (f + b)) wild ++ matchers to_move qs m)) 0 vs
        (omega (arith, s, x, y, lf, lb))
    go true e =
        let s = enough (length vs) (f + b) e in
        let k = length vs - (f + b) in
        let rest = drop f vs in
        let lr = length-drop f vs in
        let lx : length (take f vs) ≡ length (matchers to_move ps m) = length-take-le f vs (omega (arith, s)) ∙ sym lf
        in
        let ly : length (take k rest) ≡ k = length-take-le k rest (omega (arith, s, lr)) in
        let whole : take f vs ++ (take k rest ++ drop k rest) ≡ vs = ap (λ us. take f vs ++ us)
        (take-append-drop k rest) ∙ take-append-drop f vs in
        let z : f + k ≡ length vs - b = omega (arith, s) in
        ap (λ i. some (items_ways (matchers to_move ps m ++ (replicate i wild ++ matchers to_move qs m)) 0 vs))
        (sym ly)
        ∙ ap (λ us. some (items_ways (matchers to_move ps m ++
        (replicate (length (take k rest)) wild ++ matchers to_move qs m)) 0 us)) (sym whole)
        ∙ items_around m ps qs (take f vs) (take k rest) (drop k rest) lx
        ∙ ap (λ us. all_match m ps (take f vs) && all_match m qs us) (drop_more f k vs ∙ ap (λ i. drop i vs) z)

-- ---- forms

abbrev pub pats_count : MPats → ℕ
pats_count no_pats = 0
pats_count (more_pats p ps) = suc (pats_count ps)

below_none : (ps : MPats) (i n : ℕ) → n < i → is_none_of (numbers_in (numbered i ps)) n ≡ true
below_none no_pats i n l = refl
below_none (more_pats p ps) i n l =
    let e : nat_eq n i ≡ false = grind (arith, nat_tests) in
    ap (λ b. not (b || list_any (nat_eq n) (numbers_in (numbered (suc i) ps)))) e
    ∙ below_none ps (suc i) n (omega (arith, l))

fields_differ : (ps : MPats) (i : ℕ) → all_differ (numbers_in (numbered i ps)) ≡ true
fields_differ no_pats i = refl
fields_differ (more_pats p ps) i =
    and_true (is_none_of (numbers_in (numbered (suc i) ps)) i) (all_differ (numbers_in (numbered (suc i) ps)))
    (below_none ps (suc i) i (omega arith)) (fields_differ ps (suc i))

fields_below : (ps : MPats) (i n : ℕ) → i + pats_count ps ≤ n → list_all (λ j. nat_lt j n)
    (numbers_in (numbered i ps)) ≡ true
fields_below no_pats i n l = refl
fields_below (more_pats p ps) i n l =
    and_true (nat_lt i n) (list_all (λ j. nat_lt j n) (numbers_in (numbered (suc i) ps))) (grind (arith, nat_tests))
    (fields_below ps (suc i) n (omega (arith, l)))

pub fields_are_parts : (ps : MPats) → are_parts (numbers_in (numbered 0 ps)) (pats_count ps) ≡ true
fields_are_parts ps =
    and_true (all_differ (numbers_in (numbered 0 ps))) (list_all (λ j. nat_lt j (pats_count ps))
    (numbers_in (numbered 0 ps)))
    (fields_differ ps 0) (fields_below ps 0 (pats_count ps) (omega arith))

-- from one field on a form has the patterns in order
fields_from : (fields : MNumbered) (m : Mode) (ps : MPats) (i : ℕ) (vs : List MValue) → length vs ≡ pats_count ps →
    ((j : ℕ) (u : MValue) → field_ways to_move fields m (i + j) u ≡ field_ways to_move (numbered i ps) m (i + j) u) →
    some (parts_ways (λ j u. field_ways to_move fields m j u) i vs) ≡ all_match m ps vs
fields_from fields m no_pats i [] l same = refl
fields_from fields m no_pats i (v ∷ vs) l same = absurd (omega (arith, l))
fields_from fields m (more_pats p ps) i [] l same = absurd (omega (arith, l))
fields_from fields m (more_pats p ps) i (v ∷ vs) l same =
    some_next (λ u. field_ways to_move fields m i u) v i (parts_ways (λ j u. field_ways to_move fields m j u) (suc i)
    vs)
    (all_match m ps vs) (fields_from fields m ps (suc i) vs (omega (arith, l)) next)
    ∙ ap (λ ws. some ws && all_match m ps vs) here
  where
    pick : (b : Bool) (j : ℕ) (u : MValue) → nat_eq j i ≡ b →
        field_ways to_move (numbered i (more_pats p ps)) m j u
        ≡ (elim b [ true ↦ ways p m u | false ↦ field_ways to_move (numbered (suc i) ps) m j u ])
    pick true j u e = ap (λ b. if b then ways p m u else field_ways to_move (numbered (suc i) ps) m j u) e
    pick false j u e = ap (λ b. if b then ways p m u else field_ways to_move (numbered (suc i) ps) m j u) e

    here : field_ways to_move fields m i v ≡ ways p m v
    here =
        let z : i ≡ i + 0 = omega arith in
        ap (λ j. field_ways to_move fields m j v) z ∙ same 0 v
        ∙ ap (λ j. field_ways to_move (numbered i (more_pats p ps)) m j v) (sym z) ∙ pick true i v (nat_itself i)

    next : (j : ℕ) (u : MValue) → field_ways to_move fields m (suc i + j) u ≡ field_ways to_move (numbered (suc i) ps)
        m (suc i + j) u
    next j u =
        let z : suc i + j ≡ i + suc j = omega arith in
        let n : nat_eq (suc i + j) i ≡ false = grind (arith, nat_tests) in
        ap (λ k. field_ways to_move fields m k u) z ∙ same (suc j) u
        ∙ ap (λ k. field_ways to_move (numbered i (more_pats p ps)) m k u) (sym z) ∙ pick false (suc i + j) u n

pub fields_all : (m : Mode) (ps : MPats) (vs : List MValue) → length vs ≡ pats_count ps →
    some (parts_ways (λ j u. field_ways to_move (numbered 0 ps) m j u) 0 vs) ≡ all_match m ps vs
fields_all m ps vs l = fields_from (numbered 0 ps) m ps 0 vs l (λ j u. refl)
