-- The elaborated pattern binds no other names, and they differ.
use Rattle.std.proofs.Common.{◌≡◌, ◌⊎◌, inl, inr, ℕ, zero, suc, ◌+◌, ◌-◌, ◌≤◌, Bool, true, false, not, ◌&&◌, List, [], ◌∷◌, ◌++◌, length, replicate, nat_eq, refl, subst, arith, if◌then◌else◌}
use Rattle.std.proofs.lemmas.Bool.Decides.{nat_tests}
use Rattle.match_model.specs.declared.Mode.{Mode}
use Rattle.match_model.specs.Types.{MType, PointType, MTypes, no_types, more_types}
use Rattle.match_model.specs.Declarations.{MProgram, node_types}
use Rattle.match_model.specs.Constructors.{MCtor, OrCtor, WildCtor, PointCtor}
use Rattle.match_model.specs.RustTypes.{rust_set}
use Rattle.match_model.specs.Patterns.{MRest, NoRest, SomeRest, BoundRest, MNumbered, no_numbered, more_numbered}
use Rattle.match_model.specs.Matching.{mode_behind, laid_out}
use Rattle.match_model.specs.ArenaPatterns.{MPart, de_pat, MDePats, no_de_pats, more_de_pats}
use Rattle.match_model.specs.WellTyped.{is_new, are_distinct, are_apart, bound_names, names_in, names_in_all, if_or, names_differ, names_differ_in_each, names_differ_in_all}
use Rattle.pattern_rules.specs.Builders.{Built, Maker, over, point, through_type, types_or_none, parts_from, node_ctor, form, wild_maker}
use Rattle.pattern_rules.specs.Elaborated.{with_bound, is_wide_ctor, standing_at}
use Rattle.pattern_rules.proofs.SameTypes.{both_left, both_right}
use Rattle.pattern_laws.proofs.NameLists.{In, Apart, Within, in_left, in_right, in_either, joined, AllApart, joined_left, joined_right, joined_either, filled_apart, new_name, apart_names, names_apart}
use Rattle.pattern_laws.proofs.PatNames.{pat_names, names_of_numbered}

-- the pattern binds only these names, and they differ
pub record Binds (names : List (List ℕ)) (p : Built) : Type 0 where
  pub within : Within (names_in p) names
  pub differ : names_differ p ≡ true

-- the same of patterns one by one, of which no two have a name in common where the lists have none
abbrev pub EachBinds : List (List (List ℕ)) → MDePats MType → Type 0
EachBinds [] no_de_pats = Unit {0}
EachBinds (n ∷ ns) (more_de_pats p ps) = Binds n p × EachBinds ns ps
EachBinds _ _ = ⊥

pub both_true : (a b : Bool) → a ≡ true → b ≡ true → (a && b) ≡ true
both_true true b h k = k
both_true false b h k = h

pub nothing_new : (others : List (List ℕ)) → are_apart [] others ≡ true
nothing_new others = apart_names [] others (λ x a b. a)

-- the names of patterns one by one
pub each_within : (ns : List (List (List ℕ))) (ps : MDePats MType) → EachBinds ns ps → Within (names_in_all ps)
    (joined ns)
each_within [] no_de_pats h x a = a
each_within (n ∷ ns) (more_de_pats p ps) h x a = go (in_either x (names_in p) (names_in_all ps) a)
    (λ k. each_within ns ps h.1 x k)
  where
    go : In x (names_in p) ⊎ In x (names_in_all ps) → (In x (names_in_all ps) → In x (joined ns)) →
        In x (n ++ joined ns)
    go (inl k) rest = in_left x n (joined ns) (h.0.within x k)
    go (inr k) rest = in_right x n (joined ns) (rest k)
each_within [] (more_de_pats p ps) h x a = absurd h
each_within (n ∷ ns) no_de_pats h x a = absurd h

pub each_differ : (ns : List (List (List ℕ))) (ps : MDePats MType) → EachBinds ns ps → names_differ_in_each ps ≡ true
each_differ [] no_de_pats h = refl
each_differ (n ∷ ns) (more_de_pats p ps) h = both_true (names_differ p) (names_differ_in_each ps) h.0.differ
    (each_differ ns ps h.1)
each_differ [] (more_de_pats p ps) h = absurd h
each_differ (n ∷ ns) no_de_pats h = absurd h

all_differ : (ns : List (List (List ℕ))) (ps : MDePats MType) → EachBinds ns ps → AllApart ns →
    names_differ_in_all ps ≡ true
all_differ [] no_de_pats h k = refl
all_differ (n ∷ ns) (more_de_pats p ps) h k =
    both_true (names_differ p) (are_apart (names_in p) (names_in_all ps) && names_differ_in_all ps) h.0.differ
    (both_true (are_apart (names_in p) (names_in_all ps)) (names_differ_in_all ps)
    (apart_names (names_in p) (names_in_all ps) (λ x a b. k.0 x (h.0.within x a) (each_within ns ps h.1 x b)))
    (all_differ ns ps h.1 k.1))
all_differ [] (more_de_pats p ps) h k = absurd h
all_differ (n ∷ ns) no_de_pats h k = absurd h

-- the node's test of what stands below, by its constructor
below_differ : (c : MCtor) (ps : MDePats MType) → names_differ_in_each ps ≡ true → names_differ_in_all ps ≡ true →
    if_or c (names_differ_in_each ps) (names_differ_in_all ps) ≡ true
below_differ OrCtor ps h k = h
below_differ c ps h k = k

-- a node without names over patterns
pub over_binds : (c : MCtor) (t : MType) (ns : List (List (List ℕ))) (ps : MDePats MType) → EachBinds ns ps →
    AllApart ns → Binds (joined ns) (over c t ps)
over_binds c t ns ps h k = record {
  within = each_within ns ps h;
  differ = both_true (are_apart [] (names_in_all ps)) (if_or c (names_differ_in_each ps) (names_differ_in_all ps))
      (nothing_new (names_in_all ps)) (below_differ c ps (each_differ ns ps h) (all_differ ns ps h k));
}

pub wider : (xs ys : List (List ℕ)) (p : Built) → Within xs ys → Binds xs p → Binds ys p
wider xs ys p h b = record { within = λ x a. h x (b.within x a); differ = b.differ }

leaf_differs : (c : MCtor) → if_or c true true ≡ true
leaf_differs OrCtor = refl
leaf_differs c = refl

pub leaf_binds : (c : MCtor) (t : MType) (at : ℕ) → Binds [] (de_pat c t 0 at no_de_pats [])
leaf_binds c t at = record { within = λ x a. a; differ = leaf_differs c }

one_list : (n : List (List ℕ)) → Within (joined (n ∷ [])) n
one_list n x a = go (in_either x n [] a)
  where
    go : In x n ⊎ In x [] → In x n
    go (inl k) = k
    go (inr k) = absurd k

pub point_binds : (n : List (List ℕ)) (t : MType) (p : Built) → Binds n p → Binds n (point t p)
point_binds n t p h = wider (joined (n ∷ [])) n (point t p) (one_list n)
    (over_binds PointCtor t (n ∷ []) (more_de_pats p no_de_pats) (h, tt) (λ x a b. b, tt))

pub through_binds : (n : List (List ℕ)) (f : MType → Mode → Built) → ((u : MType) (m : Mode) → Binds n (f u m)) →
    (t : MType) (m : Mode) → Binds n (through_type f t m)
through_binds n f h (PointType b t) m = point_binds n (PointType b t) (through_type f t (mode_behind b m))
    (through_binds n f h t (mode_behind b m))
through_binds n f h t m = h t m

-- one more name
pub bound_binds : (n : List (List ℕ)) (name : List ℕ) (m : Mode) (part : MPart) (p : Built) → (In name n → ⊥) →
    Binds n p →
    Binds (name ∷ n) (with_bound (record { name = name; mode = m; part = part }) p)
bound_binds n name m part (de_pat c t uid at subs binds) new h = record { within = within; differ = differ }
  where
    apart : are_apart (bound_names binds) (names_in_all subs) ≡ true
    apart = both_left (are_apart (bound_names binds) (names_in_all subs))
        (if_or c (names_differ_in_each subs) (names_differ_in_all subs))
        (both_right (are_distinct (bound_names binds))
        (are_apart (bound_names binds) (names_in_all subs) && if_or c (names_differ_in_each subs)
        (names_differ_in_all subs)) h.differ)

    below : if_or c (names_differ_in_each subs) (names_differ_in_all subs) ≡ true
    below = both_right (are_apart (bound_names binds) (names_in_all subs))
        (if_or c (names_differ_in_each subs) (names_differ_in_all subs))
        (both_right (are_distinct (bound_names binds))
        (are_apart (bound_names binds) (names_in_all subs) && if_or c (names_differ_in_each subs)
        (names_differ_in_all subs)) h.differ)

    within : (x : List ℕ) → In x (name ∷ (bound_names binds ++ names_in_all subs)) → In x (name ∷ n)
    within x (inl e) = inl e
    within x (inr k) = inr (h.within x k)

    not_here : In name (bound_names binds) → ⊥
    not_here k = new (h.within name (in_left name (bound_names binds) (names_in_all subs) k))

    not_below : (x : List ℕ) → In x (name ∷ bound_names binds) → In x (names_in_all subs) → ⊥
    not_below x (inl e) b = new
        (h.within name (in_right name (bound_names binds) (names_in_all subs)
        (subst (λ z. In z (names_in_all subs)) e b)))
    not_below x (inr k) b = names_apart (bound_names binds) (names_in_all subs) apart x k b

    differ : ((is_new (bound_names binds) name && are_distinct (bound_names binds)) &&
        (are_apart (name ∷ bound_names binds) (names_in_all subs) && if_or c (names_differ_in_each subs)
        (names_differ_in_all subs))) ≡ true
    differ =
        both_true (is_new (bound_names binds) name && are_distinct (bound_names binds))
        (are_apart (name ∷ bound_names binds) (names_in_all subs) && if_or c (names_differ_in_each subs)
        (names_differ_in_all subs))
        (both_true (is_new (bound_names binds) name) (are_distinct (bound_names binds))
        (new_name (bound_names binds) name not_here)
        (both_left (are_distinct (bound_names binds))
        (are_apart (bound_names binds) (names_in_all subs) && if_or c (names_differ_in_each subs)
        (names_differ_in_all subs)) h.differ))
        (both_true (are_apart (name ∷ bound_names binds) (names_in_all subs))
        (if_or c (names_differ_in_each subs) (names_differ_in_all subs))
        (apart_names (name ∷ bound_names binds) (names_in_all subs) not_below) below)

-- an alternative
pub standing_binds : (n : List (List ℕ)) (here : ℕ) (p : Built) → Binds n p → Binds n (standing_at here p)
standing_binds n here (de_pat c t uid at subs binds) h = go (is_wide_ctor c && not (nat_eq here at))
  where
    moved : (u a : ℕ) → Binds n (de_pat c t u a subs binds)
    moved u a = record { within = h.within; differ = h.differ }

    go : (b : Bool) → Binds n
        (if b then de_pat OrCtor t here here
        (more_de_pats (de_pat c t at at subs binds) no_de_pats) [] else de_pat c t here here subs binds)
    go true =
        let one : Binds (joined (n ∷ []))
        (over OrCtor t (more_de_pats (de_pat c t at at subs binds) no_de_pats)) = over_binds OrCtor t (n ∷ [])
        (more_de_pats (de_pat c t at at subs binds) no_de_pats) (moved at at, tt) (λ x a b. b, tt) in
        record { within = λ x a. one_list n x (one.within x a); differ = one.differ }
    go false = moved here here

-- the fields one by one: that of number `i` binds only names of the written field with that number
abbrev pub names_at : MNumbered → ℕ → List (List ℕ)
names_at no_numbered i = []
names_at (more_numbered j p ps) i = if nat_eq i j then pat_names p else names_at ps i

at_within : (fields : MNumbered) (i : ℕ) → Within (names_at fields i) (joined (names_of_numbered fields))
at_within no_numbered i x a = a
at_within (more_numbered j p ps) i x a = go (nat_eq i j) a (λ k. at_within ps i x k)
  where
    go : (b : Bool) → In x (if b then pat_names p else names_at ps i) →
        (In x (names_at ps i) → In x (joined (names_of_numbered ps))) →
        In x (pat_names p ++ joined (names_of_numbered ps))
    go true k rest = in_left x (pat_names p) (joined (names_of_numbered ps)) k
    go false k rest = in_right x (pat_names p) (joined (names_of_numbered ps)) (rest k)

-- different fields have no name in common
at_apart : (fields : MNumbered) (i k : ℕ) → (i ≡ k → ⊥) → AllApart (names_of_numbered fields) →
    Apart (names_at fields i) (names_at fields k)
at_apart no_numbered i k d h x a b = a
at_apart (more_numbered j p ps) i k d h x a b = go (nat_eq i j) (nat_eq k j) refl refl a b (at_apart ps i k d h.1 x)
  where
    go : (c e : Bool) → nat_eq i j ≡ c → nat_eq k j ≡ e → In x (if c then pat_names p else names_at ps i) →
        In x (if e then pat_names p else names_at ps k) →
        (In x (names_at ps i) → In x (names_at ps k) → ⊥) → ⊥
    go true true q r a b rest = let same : i ≡ k = grind (arith, nat_tests, q, r) in d same
    go true false q r a b rest = h.0 x a (at_within ps k x b)
    go false true q r a b rest = h.0 x b (at_within ps i x a)
    go false false q r a b rest = rest a b

-- the names of the parts from number `i` on
abbrev names_from : MNumbered → ℕ → MTypes → List (List (List ℕ))
names_from fields i no_types = []
names_from fields i (more_types t ts) = names_at fields i ∷ names_from fields (suc i) ts

later_part : (fields : MNumbered) (i k : ℕ) (ts : MTypes) → suc i ≤ k → AllApart (names_of_numbered fields) →
    Apart (names_at fields i) (joined (names_from fields k ts))
later_part fields i k no_types le h x a b = b
later_part fields i k (more_types t ts) le h x a b = go
    (in_either x (names_at fields k) (joined (names_from fields (suc k) ts)) b)
    (later_part fields i (suc k) ts (omega (arith, le)) h x a)
  where
    different : i ≡ k → ⊥
    different e = absurd (omega (arith, le, e))

    go : In x (names_at fields k) ⊎ In x (joined (names_from fields (suc k) ts)) →
        (In x (joined (names_from fields (suc k) ts)) → ⊥) → ⊥
    go (inl q) rest = at_apart fields i k different h x a q
    go (inr q) rest = rest q

from_apart : (fields : MNumbered) (i : ℕ) (ts : MTypes) → AllApart (names_of_numbered fields) →
    AllApart (names_from fields i ts)
from_apart fields i no_types h = tt
from_apart fields i (more_types t ts) h = (
  later_part fields i (suc i) ts (omega arith) h,
  from_apart fields
      (suc i) ts h,
)

from_within : (fields : MNumbered) (i : ℕ) (ts : MTypes) → Within (joined (names_from fields i ts))
    (joined (names_of_numbered fields))
from_within fields i no_types x a = absurd a
from_within fields i (more_types t ts) x a = go
    (in_either x (names_at fields i) (joined (names_from fields (suc i) ts)) a)
    (λ k. from_within fields (suc i) ts x k)
  where
    go : In x (names_at fields i) ⊎ In x (joined (names_from fields (suc i) ts)) →
        (In x (joined (names_from fields (suc i) ts)) → In x (joined (names_of_numbered fields))) →
        In x (joined (names_of_numbered fields))
    go (inl k) rest = at_within fields i x k
    go (inr k) rest = rest k

parts_bind : (fields : MNumbered) (f : ℕ → MType → Built) →
    ((i : ℕ) (w : MType) → Binds (names_at fields i) (f i w)) → (i : ℕ) (ts : MTypes) →
    EachBinds (names_from fields i ts) (parts_from f i ts)
parts_bind fields f h i no_types = tt
parts_bind fields f h i (more_types t ts) = (h i t, parts_bind fields f h (suc i) ts)

pub form_binds : (program : MProgram) (k : ℕ) (fields : MNumbered) (f : ℕ → MType → Built) →
    ((i : ℕ) (w : MType) → Binds (names_at fields i) (f i w)) → AllApart (names_of_numbered fields) → (u : MType) →
    Binds (joined (names_of_numbered fields)) (form program k f u)
form_binds program k fields f h a u =
    wider (joined (names_from fields 0 (types_or_none (node_types program u k)))) (joined (names_of_numbered fields))
    (form program k f u) (from_within fields 0 (types_or_none (node_types program u k)))
    (over_binds (node_ctor (rust_set program u) k) u (names_from fields 0 (types_or_none (node_types program u k)))
    (parts_from f 0 (types_or_none (node_types program u k)))
    (parts_bind fields f h 0 (types_or_none (node_types program u k)))
    (from_apart fields 0 (types_or_none (node_types program u k)) a))

-- makers one by one, at whatever types
abbrev pub MakersBind : List (List (List ℕ)) → List Maker → Type 0
MakersBind [] [] = Unit {0}
MakersBind (n ∷ ns) (f ∷ fs) = ((t : MType) → Binds n (f t)) × MakersBind ns fs
MakersBind _ _ = ⊥

pub makers_append : (ns ms : List (List (List ℕ))) (fs gs : List Maker) → MakersBind ns fs → MakersBind ms gs →
    MakersBind (ns ++ ms) (fs ++ gs)
makers_append [] ms [] gs h k = k
makers_append (n ∷ ns) ms (f ∷ fs) gs h k = (h.0, makers_append ns ms fs gs h.1 k)
makers_append [] ms (f ∷ fs) gs h k = absurd h
makers_append (n ∷ ns) ms [] gs h k = absurd h

wilds_bind : (k : ℕ) → MakersBind (replicate k []) (replicate k wild_maker)
wilds_bind zero = tt
wilds_bind (suc k) = (λ t. leaf_binds WildCtor t 0, wilds_bind k)

-- the names of the items laid out, and that they are apart
pub laid_names : MRest → List (List (List ℕ)) → List (List (List ℕ)) → ℕ → List (List (List ℕ))
laid_names NoRest ns ms k = ns ++ ms
laid_names SomeRest ns ms k = ns ++ (replicate k [] ++ ms)
laid_names (BoundRest name written) ns ms k = ns ++ (replicate k [] ++ ms)

pub laid_bind : (rest : MRest) (ns ms : List (List (List ℕ))) (fs bs : List Maker) (len : ℕ) → MakersBind ns fs →
    MakersBind ms bs →
    MakersBind (laid_names rest ns ms (len - (length fs + length bs))) (laid_out wild_maker fs rest bs len)
unfolding laid_names
laid_bind NoRest ns ms fs bs len h k = makers_append ns ms fs bs h k
laid_bind SomeRest ns ms fs bs len h k =
    makers_append ns (replicate (len - (length fs + length bs)) [] ++ ms) fs
    (replicate (len - (length fs + length bs)) wild_maker ++ bs) h
    (makers_append (replicate (len - (length fs + length bs)) []) ms
    (replicate (len - (length fs + length bs)) wild_maker) bs (wilds_bind (len - (length fs + length bs))) k)
laid_bind (BoundRest name written) ns ms fs bs len h k =
    makers_append ns (replicate (len - (length fs + length bs)) [] ++ ms) fs
    (replicate (len - (length fs + length bs)) wild_maker ++ bs) h
    (makers_append (replicate (len - (length fs + length bs)) []) ms
    (replicate (len - (length fs + length bs)) wild_maker) bs (wilds_bind (len - (length fs + length bs))) k)

pub laid_apart : (rest : MRest) (ns ms : List (List (List ℕ))) (k : ℕ) → AllApart (ns ++ ms) →
    AllApart (laid_names rest ns ms k)
unfolding laid_names
laid_apart NoRest ns ms k h = h
laid_apart SomeRest ns ms k h = filled_apart ns ms k h
laid_apart (BoundRest name written) ns ms k h = filled_apart ns ms k h

nones_within : (k : ℕ) (ms : List (List (List ℕ))) → Within (joined (replicate k [] ++ ms)) (joined ms)
nones_within zero ms x a = a
nones_within (suc k) ms x a = nones_within k ms x a

pub laid_within : (rest : MRest) (ns ms : List (List (List ℕ))) (r : List (List ℕ)) (k : ℕ) →
    Within (joined (laid_names rest ns ms k)) (joined (ns ++ (r ∷ ms)))
unfolding laid_names
laid_within rest ns ms r k x a = by rest a
  where
    behind : In x (joined ms) → In x (joined (ns ++ (r ∷ ms)))
    behind q = joined_right x ns (r ∷ ms) (in_right x r (joined ms) q)

    plain : In x (joined ns) ⊎ In x (joined ms) → In x (joined (ns ++ (r ∷ ms)))
    plain (inl q) = joined_left x ns (r ∷ ms) q
    plain (inr q) = behind q

    filled : In x (joined ns) ⊎ In x (joined (replicate k [] ++ ms)) → In x (joined (ns ++ (r ∷ ms)))
    filled (inl q) = joined_left x ns (r ∷ ms) q
    filled (inr q) = behind (nones_within k ms x q)

    by : (rest : MRest) → In x (joined (laid_names rest ns ms k)) → In x (joined (ns ++ (r ∷ ms)))
    by NoRest a = plain (joined_either x ns ms a)
    by SomeRest a = filled (joined_either x ns (replicate k [] ++ ms) a)
    by (BoundRest name written) a = filled (joined_either x ns (replicate k [] ++ ms) a)
