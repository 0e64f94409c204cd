-- The alternatives of an elaborated pattern are in reading order those of the pattern of the definitions.
use Rattle.std.proofs.Common.{◌≡◌, inl, inr, ℕ, zero, suc, ◌+◌, ◌-◌, ◌<◌, ◌≤◌, Bool, true, false, not, ◌&&◌, ◌||◌, List, [], ◌∷◌, ◌++◌, length, replicate, slice_get, Some, nat_eq, nat_lt, refl, sym, ap, subst, ◌∙◌, arith, if◌then◌else◌}
use Rattle.std.proofs.lemmas.Bool.Decides.{nat_tests}
use Rattle.std.specs.List.{list_any, list_all}
use Rattle.match_model.specs.declared.Mode.{Mode}
use Rattle.match_model.specs.Types.{MType, TupleType, PointType, SliceType, ArrayType, MTypes, no_types, more_types, types_list}
use Rattle.match_model.specs.Numbers.{MRange, closed, has_one_number}
use Rattle.match_model.specs.Declarations.{MProgram, node_types}
use Rattle.match_model.specs.RustTypes.{rust_set, part_type, inner_type}
use Rattle.match_model.specs.Constructors.{MCtor, SingleCtor, RowCtor, WildCtor, OrCtor, FlagCtor, NumbersCtor, TextCtor, MSet, SingleSet}
use Rattle.match_model.specs.Patterns.{MRest, NoRest, SomeRest, BoundRest, MPat, WildPat, NumPat, FlagPat, TextPat, SpanPat, BindPat, FormPat, ListPat, PointPat, OrPat, MPats, no_pats, more_pats, MNumbered, no_numbered, more_numbered, numbers_in, is_none_of, all_differ}
use Rattle.match_model.specs.SourcePatterns.{two_or_more, ids_in}
use Rattle.match_model.specs.Match.{Alternatives, no_alternative, alternative, and_others, alternatives_in, alternatives_in_items, alternatives_in_fields, alternatives_of}
use Rattle.match_model.specs.Lists.{Among}
use Rattle.match_model.specs.Matching.{to_move, mode_written, mode_behind, laid_out, are_parts}
use Rattle.match_model.specs.ArenaPatterns.{WholePart, MBound, de_pat, MDePats, no_de_pats, more_de_pats, uid_of, at_of}
use Rattle.match_model.specs.ArenaWays.{arena_alternatives, alternatives_in_subs, choices_in}
use Rattle.pattern_rules.specs.ArenaForms.{put_alternative, in_reading}
use Rattle.pattern_rules.specs.Builders.{Built, Maker, over, leaf, span, point, through_type, types_or_none, parts_from, node_ctor, form, made, made_at, and_pats, wild_maker, shape, rest_bound, tuple_of, list_of}
use Rattle.pattern_rules.specs.Elaborated.{with_bound, is_wide_ctor, standing_at, elaborated, elaborated_field, elaborated_alternatives, makers}
use Rattle.pattern_rules.proofs.SameTypes.{both_left, both_right}
use Rattle.pattern_laws.proofs.KeptLeaves.{AtBottom, EachType}
use Rattle.pattern_laws.proofs.KeptParts.{FormFits}
use Rattle.pattern_laws.proofs.KeptRows.{next_number, no_more, replicate_length, laid_count, part_there}
use Rattle.pattern_laws.proofs.WaysKept.{makers_count}
use Rattle.pattern_laws.proofs.Fitting.{IsBool, VariantFits, CountFits, PointFits, ListFits, FitsIf, pats_count, Fits, FieldFits, PatsFit, AllFit}
use Rattle.pattern_laws.proofs.Reading.{puts, roots, Same, same_others, same_reading, puts_others, puts_swap, RootsApart, Rising, rising_left, rising_right, rising_apart, Named, named_others, ids_others, roots_within}

-- the pattern has these alternatives
abbrev pub Has : Alternatives → Built → Type 0
Has x p = Same (arena_alternatives p) x

no_or : Alternatives → MCtor → Type 0
no_or x OrCtor = ⊥
no_or x c = Unit {0}

-- a node that is no or-pattern
over_has : (c : MCtor) (t : MType) (u a : ℕ) (subs : MDePats MType) (binds : List MBound) (x : Alternatives) →
    no_or x c → Same (alternatives_in_subs subs) x → Has x (de_pat c t u a subs binds)
unfolding no_or
over_has OrCtor t u a subs binds x h k = absurd h
over_has c t u a subs binds x h k = k

leaf_has : (c : MCtor) (t : MType) (a : ℕ) → Has no_alternative (de_pat c t 0 a no_de_pats [])
leaf_has OrCtor t a z = refl
leaf_has c t a z = refl

-- one pattern before others
more_has : (x y : Alternatives) (p : Built) (ps : MDePats MType) → Has x p → Same (alternatives_in_subs ps) y →
    Same (alternatives_in_subs (more_de_pats p ps)) (and_others x y)
more_has x y p ps h k = same_others (arena_alternatives p) (alternatives_in_subs ps) x y h k

others_none : (x : Alternatives) → and_others x no_alternative ≡ x
others_none no_alternative = refl
others_none (alternative id at inside others) = ap (alternative id at inside) (others_none others)

one_has : (x : Alternatives) (p : Built) → Has x p → Same (alternatives_in_subs (more_de_pats p no_de_pats)) x
one_has x p h = subst (λ y. Same (alternatives_in_subs (more_de_pats p no_de_pats)) y) (others_none x)
    (more_has x no_alternative p no_de_pats h (λ z. refl))

point_has : (x : Alternatives) (t : MType) (p : Built) → Has x p → Has x (point t p)
point_has x t p h = one_has x p h

through_has : (x : Alternatives) (P : MType → Type 0) (f : MType → Mode → Built) →
    ((u : MType) (m : Mode) → P u → Has x (f u m)) → (t : MType) (m : Mode) → AtBottom P t →
    Has x (through_type f t m)
through_has x P f h (PointType b t) m q = point_has x (PointType b t) (through_type f t (mode_behind b m))
    (through_has x P f h t (mode_behind b m) q)
through_has x P f h t m q = h t m q

pointed_has : (x : Alternatives) (mutable : Bool) (P : MType → Type 0) (f : MType → Built) →
    ((u : MType) → P u → Has x (f u)) → (t : MType) → PointFits mutable P t → Has x (point t (f (inner_type t)))
pointed_has x mutable P f h (PointType n t) q = point_has x (PointType n t) (f t) (h t q.1)
pointed_has x mutable P f h t q = absurd q

-- alternatives ask for no offset of the pattern itself, and for no names
alike : (c : MCtor) (t : MType) (u a v b : ℕ) (subs : MDePats MType) (binds others : List MBound) →
    arena_alternatives (de_pat c t u a subs binds) ≡ arena_alternatives (de_pat c t v b subs others)
alike c t u a v b subs binds others = refl

bound_has : (x : Alternatives) (b : MBound) (p : Built) → Has x p → Has x (with_bound b p)
bound_has x b (de_pat c t u a subs binds) h = h

-- an alternative
pub standing_has : (x : Alternatives) (here : ℕ) (p : Built) → Has x p → Has x (standing_at here p)
standing_has x here (de_pat c t u a subs binds) h = go (is_wide_ctor c && not (nat_eq here a))
  where
    go : (b : Bool) → Has x
        (if b then de_pat OrCtor t here here
        (more_de_pats (de_pat c t a a subs binds) no_de_pats) [] else de_pat c t here here subs binds)
    go true = one_has x (de_pat c t a a subs binds) h
    go false = h

standing_ids : (here : ℕ) (p : Built) → (uid_of (standing_at here p) ≡ here) × (at_of (standing_at here p) ≡ here)
standing_ids here (de_pat c t u a subs binds) = go (is_wide_ctor c && not (nat_eq here a))
  where
    go : (b : Bool) → (uid_of
        (if b then de_pat OrCtor t here here
        (more_de_pats (de_pat c t a a subs binds) no_de_pats) [] else de_pat c t here here subs binds) ≡ here)
        × (at_of (if b then de_pat OrCtor t here here
        (more_de_pats (de_pat c t a a subs binds) no_de_pats) [] else de_pat c t here here subs binds) ≡ here)
    go true = (refl, refl)
    go false = (refl, refl)

-- the alternatives of the field with this number
abbrev field_alternatives : MNumbered → ℕ → Alternatives
field_alternatives no_numbered i = no_alternative
field_alternatives (more_numbered j p ps) i = if nat_eq i j then alternatives_in p else field_alternatives ps i

-- those of the parts from number `i` on
abbrev part_alternatives : MNumbered → ℕ → MTypes → Alternatives
part_alternatives fields i no_types = no_alternative
part_alternatives fields i (more_types t ts) = and_others (field_alternatives fields i)
    (part_alternatives fields (suc i) ts)

parts_have : (fields : MNumbered) (A : ℕ → MType → Type 0) (f : ℕ → MType → Built) →
    ((i : ℕ) (w : MType) → A i w → Has (field_alternatives fields i) (f i w)) → (i : ℕ) (ts : MTypes) →
    EachType A i ts →
    Same (alternatives_in_subs (parts_from f i ts)) (part_alternatives fields i ts)
parts_have fields A f h i no_types q = λ z. refl
parts_have fields A f h i (more_types t ts) q =
    more_has (field_alternatives fields i) (part_alternatives fields (suc i) ts) (f i t) (parts_from f (suc i) ts)
    (h i t q.0) (parts_have fields A f h (suc i) ts q.1)

-- no part has this number any more
past_part : (j : ℕ) (p : MPat) (ps : MNumbered) (i : ℕ) (ts : MTypes) → j < i →
    part_alternatives (more_numbered j p ps) i ts ≡ part_alternatives ps i ts
past_part j p ps i no_types lt = refl
past_part j p ps i (more_types t ts) lt =
    let other : nat_eq i j ≡ false = grind (arith, nat_tests, lt) in
    rw other (ap (and_others (field_alternatives ps i)) (past_part j p ps (suc i) ts (omega (arith, lt))))

-- a field that is not written has none
not_written : (ps : MNumbered) (i : ℕ) → list_any (nat_eq i) (numbers_in ps) ≡ false →
    field_alternatives ps i ≡ no_alternative
not_written no_numbered i h = refl
not_written (more_numbered j p ps) i h = go (nat_eq i j) refl h (λ k. not_written ps i k)
  where
    go : (b : Bool) → nat_eq i j ≡ b → (b || list_any (nat_eq i) (numbers_in ps)) ≡ false →
        (list_any (nat_eq i) (numbers_in ps) ≡ false → field_alternatives ps i ≡ no_alternative) →
        (if b then alternatives_in p else field_alternatives ps i) ≡ no_alternative
    go true e k rest = cc
    go false e k rest = rest k

-- those of a field are among those of all
field_roots : (ps : MNumbered) (i u : ℕ) → Among u (roots (field_alternatives ps i)) →
    Among u (roots (alternatives_in_fields ps))
field_roots no_numbered i u h = absurd h
field_roots (more_numbered j p ps) i u h = go (nat_eq i j) h (λ k. field_roots ps i u k)
  where
    roots_left : (x y : Alternatives) → Among u (roots x) → Among u (roots (and_others x y))
    roots_left no_alternative y k = absurd k
    roots_left (alternative id at inside others) y (inl e) = inl e
    roots_left (alternative id at inside others) y (inr k) = inr (roots_left others y k)

    roots_right : (x y : Alternatives) → Among u (roots y) → Among u (roots (and_others x y))
    roots_right no_alternative y k = k
    roots_right (alternative id at inside others) y k = inr (roots_right others y k)

    go : (b : Bool) → Among u (roots (if b then alternatives_in p else field_alternatives ps i)) →
        (Among u (roots (field_alternatives ps i)) → Among u (roots (alternatives_in_fields ps))) →
        Among u (roots (and_others (alternatives_in p) (alternatives_in_fields ps)))
    go true k rest = roots_left (alternatives_in p) (alternatives_in_fields ps) k
    go false k rest = roots_right (alternatives_in p) (alternatives_in_fields ps) (rest k)

-- one field more, whose number is that of a part
with_part : (j : ℕ) (p : MPat) (ps : MNumbered) (i : ℕ) (ts : MTypes) → i ≤ j → j < i + length (types_list ts) →
    list_any (nat_eq j) (numbers_in ps) ≡ false →
    RootsApart (alternatives_in p) (alternatives_in_fields ps) → (z : Alternatives) →
    puts (part_alternatives (more_numbered j p ps) i ts) z ≡ puts (alternatives_in p)
    (puts (part_alternatives ps i ts) z)
with_part j p ps i no_types le lt new d z = absurd (omega (arith, le, lt))
with_part j p ps i (more_types t ts) le lt new d z = go (nat_eq i j) refl
    (λ k l. with_part j p ps (suc i) ts k l new d z)
  where
    go : (b : Bool) → nat_eq i j ≡ b →
        (suc i ≤ j → j < suc i + length (types_list ts) → puts (part_alternatives (more_numbered j p ps) (suc i) ts) z
        ≡ puts (alternatives_in p) (puts (part_alternatives ps (suc i) ts) z)) →
        puts (and_others (if b then alternatives_in p else field_alternatives ps i)
        (part_alternatives (more_numbered j p ps) (suc i) ts)) z
        ≡ puts (alternatives_in p) (puts (and_others (field_alternatives ps i) (part_alternatives ps (suc i) ts)) z)
    go true e rest =
        let same : j ≡ i = grind (arith, nat_tests, e) in
        let none : field_alternatives ps i ≡ no_alternative = ap (field_alternatives ps) (sym same)
        ∙ not_written ps j new in
        puts_others (alternatives_in p) (part_alternatives (more_numbered j p ps) (suc i) ts) z
        ∙ (ap (λ x. puts (alternatives_in p) (puts x z)) (past_part j p ps (suc i) ts (omega (arith, same)))
        ∙ ap (λ x. puts (alternatives_in p) (puts (and_others x (part_alternatives ps (suc i) ts)) z)) (sym none))
    go false e rest =
        let other : suc i ≤ j = grind (arith, nat_tests, e, le) in
        puts_others (field_alternatives ps i) (part_alternatives (more_numbered j p ps) (suc i) ts) z
        ∙ (ap (puts (field_alternatives ps i)) (rest other (omega (arith, lt)))
        ∙ (sym (puts_swap (alternatives_in p) (field_alternatives ps i) (puts (part_alternatives ps (suc i) ts) z)
        (λ a h k. d a h (field_roots ps i a k)))
        ∙ ap (puts (alternatives_in p))
        (sym (puts_others (field_alternatives ps i) (part_alternatives ps (suc i) ts) z))))

no_fields : (i : ℕ) (ts : MTypes) → part_alternatives no_numbered i ts ≡ no_alternative
no_fields i no_types = refl
no_fields i (more_types t ts) = no_fields (suc i) ts

mutual
  -- the source's alternatives are named by their offsets
  pub are_named : (p : MPat) → Named (alternatives_in p)
  are_named WildPat = tt
  are_named (NumPat n) = tt
  are_named (FlagPat b) = tt
  are_named (TextPat s) = tt
  are_named (SpanPat at r) = tt
  are_named (BindPat name written p) = are_named p
  are_named (FormPat k fields) = fields_named fields
  are_named (ListPat front rest back) = named_others (alternatives_in_items front) (alternatives_in_items back)
      (items_named front) (items_named back)
  are_named (PointPat mutable p) = are_named p
  are_named (OrPat choices) = choices_named choices

  fields_named : (ps : MNumbered) → Named (alternatives_in_fields ps)
  fields_named no_numbered = tt
  fields_named (more_numbered n p ps) = named_others (alternatives_in p) (alternatives_in_fields ps) (are_named p)
      (fields_named ps)

  items_named : (ps : MPats) → Named (alternatives_in_items ps)
  items_named no_pats = tt
  items_named (more_pats p ps) = named_others (alternatives_in p) (alternatives_in_items ps) (are_named p)
      (items_named ps)

  choices_named : (ps : MNumbered) → Named (alternatives_of ps)
  choices_named no_numbered = tt
  choices_named (more_numbered at p ps) = (refl, choices_named ps)

-- the written fields of a form, each the field of a part
all_parts : (ps : MNumbered) (n : ℕ) (ts : MTypes) → n ≡ length (types_list ts) → are_parts (numbers_in ps) n ≡ true →
    Rising (ids_in (alternatives_in_fields ps)) → (z : Alternatives) →
    puts (part_alternatives ps 0 ts) z ≡ puts (alternatives_in_fields ps) z
all_parts no_numbered n ts e h r z = ap (λ x. puts x z) (no_fields 0 ts)
all_parts (more_numbered j p ps) n ts e h r z =
    with_part j p ps 0 ts (omega arith) below new apart z
    ∙ (ap (puts (alternatives_in p))
    (all_parts ps n ts e others
    (rising_right (ids_in (alternatives_in p)) (ids_in (alternatives_in_fields ps)) both) z)
    ∙ sym (puts_others (alternatives_in p) (alternatives_in_fields ps) z))
  where
    both : Rising (ids_in (alternatives_in p) ++ ids_in (alternatives_in_fields ps))
    both = subst Rising (ids_others (alternatives_in p) (alternatives_in_fields ps)) r

    differ : (is_none_of (numbers_in ps) j && all_differ (numbers_in ps)) ≡ true
    differ = both_left (is_none_of (numbers_in ps) j && all_differ (numbers_in ps))
        (nat_lt j n && list_all (λ i. nat_lt i n) (numbers_in ps)) h

    least : (nat_lt j n && list_all (λ i. nat_lt i n) (numbers_in ps)) ≡ true
    least = both_right (is_none_of (numbers_in ps) j && all_differ (numbers_in ps))
        (nat_lt j n && list_all (λ i. nat_lt i n) (numbers_in ps)) h

    untrue : (b : Bool) → not b ≡ true → b ≡ false
    untrue true q = cc
    untrue false q = refl

    new : list_any (nat_eq j) (numbers_in ps) ≡ false
    new = untrue (list_any (nat_eq j) (numbers_in ps))
        (both_left (is_none_of (numbers_in ps) j) (all_differ (numbers_in ps)) differ)

    below : j < 0 + length (types_list ts)
    below = let first : nat_lt j n ≡ true = both_left (nat_lt j n)
        (list_all (λ i. nat_lt i n) (numbers_in ps)) least in grind (arith, nat_tests, first, e)

    join : (a b : Bool) → a ≡ true → b ≡ true → (a && b) ≡ true
    join true b q w = w
    join false b q w = q

    others : are_parts (numbers_in ps) n ≡ true
    others = join (all_differ (numbers_in ps)) (list_all (λ i. nat_lt i n) (numbers_in ps))
        (both_right (is_none_of (numbers_in ps) j) (all_differ (numbers_in ps)) differ)
        (both_right (nat_lt j n) (list_all (λ i. nat_lt i n) (numbers_in ps)) least)

    apart : RootsApart (alternatives_in p) (alternatives_in_fields ps)
    apart a x y = rising_apart (ids_in (alternatives_in p)) (ids_in (alternatives_in_fields ps)) a both
        (roots_within (alternatives_in p) a (are_named p) x)
        (roots_within (alternatives_in_fields ps) a (fields_named ps) y)

node_plain : (x : Alternatives) (st : MSet) (k : ℕ) → no_or x (node_ctor st k)
unfolding no_or
node_plain x SingleSet k = tt
node_plain x st k = tt

form_has : (program : MProgram) (fields : MNumbered) (A : ℕ → MType → Type 0) (f : ℕ → MType → Built) →
    ((i : ℕ) (w : MType) → A i w → Has (field_alternatives fields i) (f i w)) →
    (k : ℕ) (u : MType) → FormFits program u k (numbers_in fields) →
    EachType A 0 (types_or_none (node_types program u k)) → Rising (ids_in (alternatives_in_fields fields)) →
    Has (alternatives_in_fields fields) (form program k f u)
form_has program fields A f h k u fit q r =
    over_has (node_ctor (rust_set program u) k) u 0 0 (parts_from f 0 (types_or_none (node_types program u k))) []
    (alternatives_in_fields fields) (node_plain (alternatives_in_fields fields) (rust_set program u) k)
    (λ z. parts_have fields A f h 0 (types_or_none (node_types program u k)) q z
    ∙ all_parts fields (length (types_list (types_or_none (node_types program u k))))
    (types_or_none (node_types program u k)) refl fit.fields r z)

-- makers one by one, each at the type with its number, from number `i` on
abbrev HaveFrom : (types : ℕ → MType) → (i : ℕ) → List Maker → List Alternatives → Type 0
HaveFrom types i [] [] = Unit {0}
HaveFrom types i (f ∷ fs) (x ∷ xs) = Has x (f (types i)) × HaveFrom types (suc i) fs xs
HaveFrom types i _ _ = ⊥

both_have : (types : ℕ → MType) (i : ℕ) (fs gs : List Maker) (xs ys : List Alternatives) → HaveFrom types i fs xs →
    HaveFrom types (i + length fs) gs ys → HaveFrom types i (fs ++ gs) (xs ++ ys)
both_have types i [] gs [] ys h k = subst (λ n. HaveFrom types n gs ys) (no_more i) k
both_have types i (f ∷ fs) gs (x ∷ xs) ys h k = (
  h.0,
  both_have types (suc i) fs gs xs ys h.1
      (subst (λ n. HaveFrom types n gs ys) (sym (next_number i (length fs))) k),
)
both_have types i [] gs (x ∷ xs) ys h k = absurd h
both_have types i (f ∷ fs) gs [] ys h k = absurd h

wilds_have : (types : ℕ → MType) (i n : ℕ) → HaveFrom types i (replicate n wild_maker) (replicate n no_alternative)
wilds_have types i zero = tt
wilds_have types i (suc n) = (leaf_has WildCtor (types i) 0, wilds_have types (suc i) n)

-- all of these, one after the other
abbrev all_of : List Alternatives → Alternatives
all_of [] = no_alternative
all_of (x ∷ xs) = and_others x (all_of xs)

others_three : (x y z : Alternatives) → and_others (and_others x y) z ≡ and_others x (and_others y z)
others_three no_alternative y z = refl
others_three (alternative id at inside others) y z = ap (alternative id at inside) (others_three others y z)

all_append : (xs ys : List Alternatives) → all_of (xs ++ ys) ≡ and_others (all_of xs) (all_of ys)
all_append [] ys = refl
all_append (x ∷ xs) ys = ap (and_others x) (all_append xs ys) ∙ sym (others_three x (all_of xs) (all_of ys))

all_none : (n : ℕ) (ys : List Alternatives) → all_of (replicate n no_alternative ++ ys) ≡ all_of ys
all_none zero ys = refl
all_none (suc n) ys = all_none n ys

-- the alternatives of what is laid out
laid_have : (types : ℕ → MType) (rest : MRest) (n : ℕ) (fs bs : List Maker) (xs ys : List Alternatives) →
    CountFits rest (length fs + length bs) n → HaveFrom types 0 fs xs →
    HaveFrom types (n - length bs) bs ys → (zs : List Alternatives) × HaveFrom types 0
    (laid_out wild_maker fs rest bs n) zs × (all_of zs ≡ and_others (all_of xs) (all_of ys))
laid_have types rest n fs bs xs ys c h k = go rest c
  where
    there : (d : ℕ) → d ≡ n - length bs → HaveFrom types d bs ys
    there d e = subst (λ i. HaveFrom types i bs ys) (sym e) k

    around : length fs + length bs ≤ n → (zs : List Alternatives) × HaveFrom types 0
        (fs ++ (replicate (n - (length fs + length bs)) wild_maker ++ bs)) zs
        × (all_of zs ≡ and_others (all_of xs) (all_of ys))
    around c = (
      xs ++ (replicate (n - (length fs + length bs)) no_alternative ++ ys),
      both_have types 0 fs (replicate (n - (length fs + length bs)) wild_maker ++ bs) xs
          (replicate (n - (length fs + length bs)) no_alternative ++ ys) h
          (both_have types (0 + length fs) (replicate (n - (length fs + length bs)) wild_maker) bs
          (replicate (n - (length fs + length bs)) no_alternative) ys
          (wilds_have types (0 + length fs) (n - (length fs + length bs)))
          (there ((0 + length fs) + length (replicate (n - (length fs + length bs)) wild_maker))
          (ap (λ i. (0 + length fs) + i) (replicate_length (n - (length fs + length bs)) wild_maker)
          ∙ omega (arith, c)))),
      all_append xs (replicate (n - (length fs + length bs)) no_alternative ++ ys) ∙ ap (and_others (all_of xs))
          (all_none (n - (length fs + length bs)) ys),
    )

    go : (rest : MRest) → CountFits rest (length fs + length bs) n → (zs : List Alternatives) × HaveFrom types 0
        (laid_out wild_maker fs rest bs n) zs × (all_of zs ≡ and_others (all_of xs) (all_of ys))
    go NoRest c = (
      xs ++ ys,
      both_have types 0 fs bs xs ys h (there (0 + length fs) (omega (arith, c))),
      all_append xs ys,
    )
    go SomeRest c = around c
    go (BoundRest name written) c = around c

-- the patterns of the parts of a tuple
made_have : (types : ℕ → MType) (i : ℕ) (fs : List Maker) (ts : MTypes) (xs : List Alternatives) →
    ((j : ℕ) (u : MType) → slice_get (types_list ts) j ≡ Some u → types (i + j) ≡ u) →
    length fs ≡ length (types_list ts) → HaveFrom types i fs xs → Same (alternatives_in_subs (made fs ts)) (all_of xs)
made_have types i [] no_types [] at e h = λ z. refl
made_have types i (f ∷ fs) (more_types t ts) (x ∷ xs) at e h =
    let first : types i ≡ t = ap types (sym (no_more i)) ∙ at 0 t refl in
    more_has x (all_of xs) (f t) (made fs ts) (subst (λ u. Has x (f u)) first h.0)
    (made_have types (suc i) fs ts xs (λ j u s. ap types (next_number i j) ∙ at (suc j) u s) (omega (arith, e)) h.1)
made_have types i [] (more_types t ts) xs at e h = absurd (omega (arith, e))
made_have types i (f ∷ fs) no_types xs at e h = absurd (omega (arith, e))
made_have types i [] ts (x ∷ xs) at e h = absurd h
made_have types i (f ∷ fs) ts [] at e h = absurd h

-- the patterns of the items of a row
items_have : (t : MType) (i j : ℕ) (fs bs : List Maker) (xs ys : List Alternatives) → HaveFrom (λ n. t) i fs xs →
    HaveFrom (λ n. t) j bs ys →
    Same (alternatives_in_subs (and_pats (made_at fs t) (made_at bs t))) (and_others (all_of xs) (all_of ys))
items_have t i j [] [] [] [] h k = λ z. refl
items_have t i j [] (b ∷ bs) [] (y ∷ ys) h k = more_has y (all_of ys) (b t) (made_at bs t) k.0
    (items_have t i (suc j) [] bs [] ys tt k.1)
items_have t i j (f ∷ fs) bs (x ∷ xs) ys h k =
    subst (λ w. Same (alternatives_in_subs (more_de_pats (f t) (and_pats (made_at fs t) (made_at bs t)))) w)
    (sym (others_three x (all_of xs) (all_of ys)))
    (more_has x (and_others (all_of xs) (all_of ys)) (f t) (and_pats (made_at fs t) (made_at bs t)) h.0
    (items_have t (suc i) j fs bs xs ys h.1 k))
items_have t i j [] [] [] (y ∷ ys) h k = absurd k
items_have t i j [] (b ∷ bs) [] [] h k = absurd k
items_have t i j [] bs (x ∷ xs) ys h k = absurd h
items_have t i j (f ∷ fs) bs [] ys h k = absurd h

list_has : (program : MProgram) (front back : (ℕ → MType) → ℕ → Type 0) (fs bs : List Maker)
    (xs ys : List Alternatives) → ((types : ℕ → MType) (i : ℕ) → front types i → HaveFrom types i fs xs) →
    ((types : ℕ → MType) (i : ℕ) → back types i → HaveFrom types i bs ys) → (rest : MRest) (u : MType) (m : Mode) →
    ListFits front rest back (length fs) (length bs) u →
    Has (and_others (all_of xs) (all_of ys)) (list_of program fs rest bs u m)
unfolding no_or
list_has program front back fs bs xs ys h k rest (SliceType t) m q =
    over_has (RowCtor (shape (length fs) (length bs) rest)) (SliceType t) 0 0 (and_pats (made_at fs t) (made_at bs t))
    (rest_bound (length fs) (length bs) rest m) (and_others (all_of xs) (all_of ys)) tt
    (items_have t 0 0 fs bs xs ys (h (λ i. t) 0 q.1) (k (λ i. t) 0 q.2))
list_has program front back fs bs xs ys h k rest (ArrayType t n) m q =
    over_has (RowCtor (shape (length fs) (length bs) rest)) (ArrayType t n) 0 0
    (and_pats (made_at fs t) (made_at bs t)) (rest_bound (length fs) (length bs) rest m)
    (and_others (all_of xs) (all_of ys)) tt
    (items_have t 0 0 fs bs xs ys (h (λ i. t) 0 q.2) (k (λ i. t) 0 q.3))
list_has program front back fs bs xs ys h k rest (TupleType ts) m q =
    go (laid_have (part_type (TupleType ts) (Some ts)) rest (length (types_list ts)) fs bs xs ys q.1
    (h (part_type (TupleType ts) (Some ts)) 0 q.2)
    (k (part_type (TupleType ts) (Some ts)) (length (types_list ts) - length bs) q.3))
  where
    go : (zs : List Alternatives) × HaveFrom (part_type (TupleType ts) (Some ts)) 0
        (laid_out wild_maker fs rest bs (length (types_list ts))) zs
        × (all_of zs ≡ and_others (all_of xs) (all_of ys)) →
        Has (and_others (all_of xs) (all_of ys)) (tuple_of fs rest bs (TupleType ts) ts)
    go (zs, l, e) =
        subst (λ w. Has w (tuple_of fs rest bs (TupleType ts) ts)) e
        (over_has SingleCtor (TupleType ts) 0 0 (made (laid_out wild_maker fs rest bs (length (types_list ts))) ts) []
        (all_of zs) tt
        (made_have (part_type (TupleType ts) (Some ts)) 0
        (laid_out wild_maker fs rest bs (length (types_list ts))) ts zs (part_there (TupleType ts) ts)
        (laid_count wild_maker rest (length (types_list ts)) fs bs q.1) l))
list_has program front back fs bs xs ys h k rest u m q = absurd q

-- the alternatives of each item
abbrev items_each : MPats → List Alternatives
items_each no_pats = []
items_each (more_pats p ps) = alternatives_in p ∷ items_each ps

items_all : (ps : MPats) → all_of (items_each ps) ≡ alternatives_in_items ps
items_all no_pats = refl
items_all (more_pats p ps) = ap (and_others (alternatives_in p)) (items_all ps)

-- an or-pattern of two alternatives or more
or_has : (program : MProgram) (ps : MNumbered) (t : MType) (m : Mode) (x : Alternatives) → two_or_more ps ≡ true →
    Same (choices_in (elaborated_alternatives program ps t m)) x →
    Has x (over OrCtor t (elaborated_alternatives program ps t m))
or_has program no_numbered t m x h k = cc
or_has program (more_numbered a p no_numbered) t m x h k = cc
or_has program (more_numbered a p (more_numbered b q ps)) t m x h k = k

field_if : (b : Bool) (A C : Type 0) (x y : Alternatives) (p q : Built) → FitsIf b A C → (A → Has x p) →
    (C → Has y q) → Has (if b then x else y) (if b then p else q)
field_if true A C x y p q f h k = h f
field_if false A C x y p q f h k = k f

module _ (program : MProgram) (Holds : MRange → MType → Type 0) (most : ℕ) where
  mutual
    pub has_alternatives : (p : MPat) (t : MType) (m : Mode) → Fits program Holds most p t →
        Rising (ids_in (alternatives_in p)) → Has (alternatives_in p) (elaborated program p t m)
    has_alternatives WildPat t m h r = leaf_has WildCtor t 0
    has_alternatives (NumPat n) t m h r = through_has no_alternative (λ u. Holds (closed n n) u)
        (λ u m'. leaf (NumbersCtor (closed n n)) u) (λ u m' q. leaf_has (NumbersCtor (closed n n)) u 0) t m h
    has_alternatives (FlagPat b) t m h r = through_has no_alternative (λ u. IsBool u) (λ u m'. leaf (FlagCtor b) u)
        (λ u m' q. leaf_has (FlagCtor b) u 0) t m h
    has_alternatives (TextPat s) t m h r = point_has no_alternative t (leaf (TextCtor s) (inner_type t))
        (leaf_has (TextCtor s) (inner_type t) 0)
    has_alternatives (SpanPat at r) t m h q = through_has no_alternative (λ u. Holds r u) (λ u m'. span at r u)
        (λ u m' w. leaf_has (NumbersCtor r) u (if has_one_number r then 0 else at)) t m h
    has_alternatives (BindPat name written p) t m h r =
        bound_has (alternatives_in p)
        (record { name = name; mode = mode_written to_move written m; part = WholePart })
        (elaborated program p t m) (has_alternatives p t m h r)
    has_alternatives (FormPat k fields) t m h r =
        through_has (alternatives_in_fields fields)
        (λ u. VariantFits program k u × FormFits program u k (numbers_in fields)
        × EachType (λ i w. FieldFits program Holds most fields i w) 0 (types_or_none (node_types program u k)))
        (λ u m'. form program k (λ i w. elaborated_field program fields i w m') u)
        (λ u m' q. form_has program fields (λ i w. FieldFits program Holds most fields i w)
        (λ i w. elaborated_field program fields i w m') (λ i w f. field_has fields i w m' f r) k u q.1 q.2 r) t m h
    has_alternatives (ListPat front rest back) t m h r =
        let both : Rising (ids_in (alternatives_in_items front) ++ ids_in (alternatives_in_items back)) = subst Rising
        (ids_others (alternatives_in_items front) (alternatives_in_items back)) r in
        through_has (and_others (alternatives_in_items front) (alternatives_in_items back))
        (λ u. ListFits (λ types i. PatsFit program Holds most front types i) rest
        (λ types i. PatsFit program Holds most back types i) (pats_count front) (pats_count back) u)
        (λ u m'. list_of program (makers program front m') rest (makers program back m') u m')
        (λ u m' q. subst (λ w. Has w (list_of program (makers program front m') rest (makers program back m') u m'))
        (ap (λ w. and_others w (all_of (items_each back))) (items_all front)
        ∙ ap (and_others (alternatives_in_items front)) (items_all back))
        (list_has program (λ types i. PatsFit program Holds most front types i)
        (λ types i. PatsFit program Holds most back types i) (makers program front m') (makers program back m')
        (items_each front) (items_each back)
        (λ types i f. pats_have front types i m' f
        (rising_left (ids_in (alternatives_in_items front)) (ids_in (alternatives_in_items back)) both))
        (λ types i f. pats_have back types i m' f
        (rising_right (ids_in (alternatives_in_items front)) (ids_in (alternatives_in_items back)) both)) rest u m'
        (subst (λ n. ListFits (λ types i. PatsFit program Holds most front types i) rest
        (λ types i. PatsFit program Holds most back types i) (length (makers program front m')) n u)
        (sym (makers_count program back m'))
        (subst (λ n. ListFits (λ types i. PatsFit program Holds most front types i) rest
        (λ types i. PatsFit program Holds most back types i) n (pats_count back) u)
        (sym (makers_count program front m')) q)))) t m h
    has_alternatives (PointPat mutable p) t m h r =
        pointed_has (alternatives_in p) mutable (λ u. Fits program Holds most p u)
        (λ u. elaborated program p u (to_move m)) (λ u q. has_alternatives p u (to_move m) q r) t h
    has_alternatives (OrPat choices) t m h r = or_has program choices t m (alternatives_of choices) h.0
        (choices_have choices t m h.2 r)

    field_has : (ps : MNumbered) (i : ℕ) (t : MType) (m : Mode) → FieldFits program Holds most ps i t →
        Rising (ids_in (alternatives_in_fields ps)) → Has (field_alternatives ps i)
        (elaborated_field program ps i t m)
    field_has no_numbered i t m h r = leaf_has WildCtor t 0
    field_has (more_numbered j p ps) i t m h r =
        let both : Rising (ids_in (alternatives_in p) ++ ids_in (alternatives_in_fields ps)) = subst Rising
        (ids_others (alternatives_in p) (alternatives_in_fields ps)) r in
        field_if (nat_eq i j) (Fits program Holds most p t) (FieldFits program Holds most ps i t) (alternatives_in p)
        (field_alternatives ps i) (elaborated program p t m) (elaborated_field program ps i t m) h
        (λ q. has_alternatives p t m q
        (rising_left (ids_in (alternatives_in p)) (ids_in (alternatives_in_fields ps)) both))
        (λ q. field_has ps i t m q
        (rising_right (ids_in (alternatives_in p)) (ids_in (alternatives_in_fields ps)) both))

    pats_have : (ps : MPats) (types : ℕ → MType) (i : ℕ) (m : Mode) → PatsFit program Holds most ps types i →
        Rising (ids_in (alternatives_in_items ps)) → HaveFrom types i (makers program ps m) (items_each ps)
    pats_have no_pats types i m h r = tt
    pats_have (more_pats p ps) types i m h r =
        let both : Rising (ids_in (alternatives_in p) ++ ids_in (alternatives_in_items ps)) = subst Rising
        (ids_others (alternatives_in p) (alternatives_in_items ps)) r in (
          has_alternatives p (types i) m h.0
              (rising_left (ids_in (alternatives_in p)) (ids_in (alternatives_in_items ps)) both),
          pats_have ps types (suc i) m h.1
              (rising_right (ids_in (alternatives_in p)) (ids_in (alternatives_in_items ps)) both),
        )

    choices_have : (ps : MNumbered) (t : MType) (m : Mode) → AllFit program Holds most ps t →
        Rising (ids_in (alternatives_of ps)) → Same (choices_in (elaborated_alternatives program ps t m))
        (alternatives_of ps)
    choices_have no_numbered t m h r = λ z. refl
    choices_have (more_numbered a p ps) t m h r =
        let inside : in_reading (arena_alternatives (standing_at a (elaborated program p t m))) ≡ alternatives_in p =
        same_reading (arena_alternatives (standing_at a (elaborated program p t m))) (alternatives_in p)
        (standing_has (alternatives_in p) a (elaborated program p t m)
        (has_alternatives p t m h.0 (rising_left (ids_in (alternatives_in p)) (ids_in (alternatives_of ps)) r.1)))
        (are_named p) (rising_left (ids_in (alternatives_in p)) (ids_in (alternatives_of ps)) r.1) in
        let ids = standing_ids a (elaborated program p t m) in
        λ z. rw (inside, ids.1)
        (ap (put_alternative a (alternatives_in p))
        (choices_have ps t m h.1 (rising_right (ids_in (alternatives_in p)) (ids_in (alternatives_of ps)) r.1) z))
