-- How many or-patterns an elaborated pattern has.
use Rattle.std.proofs.Common.{◌≡◌, ℕ, zero, suc, ◌+◌, ◌-◌, ◌≤◌, Bool, true, false, not, ◌&&◌, List, [], ◌∷◌, ◌++◌, length, replicate, filter, nat_eq, refl, ap, arith, if◌then◌else◌}
use Rattle.std.proofs.lemmas.Bool.Decides.{nat_tests}
use Rattle.match_model.specs.declared.Mode.{Mode}
use Rattle.match_model.specs.Types.{MType, PointType, SliceType, ArrayType, MTypes, no_types, more_types, types_list}
use Rattle.match_model.specs.Numbers.{closed}
use Rattle.match_model.specs.Declarations.{MProgram, node_types}
use Rattle.match_model.specs.RustTypes.{rust_set, inner_type}
use Rattle.match_model.specs.Constructors.{MCtor, SingleCtor, RowCtor, OrCtor, FlagCtor, NumbersCtor, TextCtor, MSet, SingleSet}
use Rattle.match_model.specs.Patterns.{MRest, NoRest, SomeRest, BoundRest, MPat, WildPat, NumPat, FlagPat, TextPat, SpanPat, BindPat, FormPat, ListPat, PointPat, OrPat, MPats, no_pats, more_pats, MNumbered, no_numbered, more_numbered}
use Rattle.match_model.specs.Matching.{to_move, mode_written, mode_behind, laid_out}
use Rattle.match_model.specs.ArenaPatterns.{WholePart, MBound, de_pat, MDePats, no_de_pats, more_de_pats}
use Rattle.pattern_rules.specs.ArenaForms.{all_within, all_below, is_or}
use Rattle.pattern_rules.specs.Builders.{Built, Maker, over, leaf, span, point, through_type, types_or_none, parts_from, node_ctor, form, made, made_at, and_pats, wild_maker, shape, rest_bound, list_of}
use Rattle.pattern_rules.specs.Elaborated.{with_bound, is_wide_ctor, standing_at, elaborated, elaborated_field, elaborated_alternatives, makers}

-- how many of the patterns are or-patterns
abbrev pub or_count : List Built → ℕ
or_count ps = length (filter is_or ps)

-- one where the test holds
abbrev one_if : Bool → ℕ
one_if b = if b then 1 else 0

or_more : (p : Built) (ps : List Built) → or_count (p ∷ ps) ≡ one_if (is_or p) + or_count ps
or_more p ps = go (is_or p) refl
  where
    go : (b : Bool) → is_or p ≡ b → or_count (p ∷ ps) ≡ one_if b + or_count ps
    go true e = rw e (omega arith)
    go false e = rw e (omega arith)

or_append : (ps qs : List Built) → or_count (ps ++ qs) ≡ or_count ps + or_count qs
or_append [] qs = omega arith
or_append (p ∷ ps) qs = omega (arith, or_more p (ps ++ qs), or_more p ps, or_append ps qs)

-- the pattern has at most so many or-patterns, or one fewer where it is a range of more than one number
abbrev pub Chooses : ℕ → Built → Type 0
Chooses n (de_pat c t uid at subs binds) = one_if (is_or (de_pat c t uid at subs binds)) +
    (or_count (all_below subs) + one_if (is_wide_ctor c)) ≤ n

-- the patterns have at most so many
abbrev BelowChoose : ℕ → MDePats MType → Type 0
BelowChoose n subs = or_count (all_below subs) ≤ n

or_same : (c : MCtor) (t : MType) (u a v b : ℕ) (subs : MDePats MType) (binds others : List MBound) →
    is_or (de_pat c t u a subs binds) ≡ is_or (de_pat c t v b subs others)
or_same OrCtor t u a v b subs binds others = refl
or_same c t u a v b subs binds others = refl

-- all of them
all_choose : (n : ℕ) (p : Built) → Chooses n p → or_count (all_within p) ≤ n
all_choose n (de_pat c t u a subs binds) h = omega (arith, h, or_more (de_pat c t u a subs binds) (all_below subs))

-- an alternative has one more where it is such a range
pub standing_chooses : (n here : ℕ) (p : Built) → Chooses n p → or_count (all_within (standing_at here p)) ≤ n
standing_chooses n here (de_pat c t u a subs binds) h = go (is_wide_ctor c) (not (nat_eq here a)) h
  where
    same : (v b : ℕ) → one_if (is_or (de_pat c t v b subs binds)) ≡ one_if (is_or (de_pat c t u a subs binds))
    same v b = ap one_if (or_same c t v b u a subs binds binds)

    go : (w d : Bool) → one_if (is_or (de_pat c t u a subs binds)) + (or_count (all_below subs) + one_if w) ≤ n →
        or_count (all_within (if w && d then de_pat OrCtor t here here
        (more_de_pats (de_pat c t a a subs binds) no_de_pats) [] else de_pat c t here here subs binds)) ≤ n
    go true true k =
        omega (
          arith,
          k,
          same a a,
          or_append (all_within (de_pat c t a a subs binds)) [],
          or_more (de_pat c t a a subs binds) (all_below subs),
          or_more (de_pat OrCtor t here here (more_de_pats (de_pat c t a a subs binds) no_de_pats) [])
              (all_within (de_pat c t a a subs binds) ++ []),
        )
    go true false k = omega (arith, k, same here here, or_more (de_pat c t here here subs binds) (all_below subs))
    go false d k = omega (arith, k, same here here, or_more (de_pat c t here here subs binds) (all_below subs))

bound_chooses : (n : ℕ) (b : MBound) (p : Built) → Chooses n p → Chooses n (with_bound b p)
bound_chooses n b (de_pat c t u a subs binds) h = omega
    (arith, h, ap one_if (or_same c t u a u a subs (b ∷ binds) binds))

-- one pattern before others
more_choose : (n k : ℕ) (p : Built) (ps : MDePats MType) → Chooses n p → BelowChoose k ps →
    BelowChoose (n + k) (more_de_pats p ps)
more_choose n k p ps h q = omega (arith, all_choose n p h, q, or_append (all_within p) (all_below ps))

point_chooses : (n : ℕ) (t : MType) (p : Built) → Chooses n p → Chooses n (point t p)
point_chooses n t p h = omega (arith, all_choose n p h, or_append (all_within p) [])

through_chooses : (n : ℕ) (f : MType → Mode → Built) → ((u : MType) (m : Mode) → Chooses n (f u m)) →
    (t : MType) (m : Mode) → Chooses n (through_type f t m)
through_chooses n f h (PointType b t) m = point_chooses n (PointType b t) (through_type f t (mode_behind b m))
    (through_chooses n f h t (mode_behind b m))
through_chooses n f h t m = h t m

-- a node that is neither a range nor an or-pattern
abbrev IsPlain : MCtor → Type 0
IsPlain OrCtor = ⊥
IsPlain (NumbersCtor r) = ⊥
IsPlain _ = Unit {0}

plain_chooses : (n : ℕ) (c : MCtor) (t : MType) (u a : ℕ) (subs : MDePats MType) (binds : List MBound) → IsPlain c →
    BelowChoose n subs → Chooses n (de_pat c t u a subs binds)
plain_chooses n OrCtor t u a subs binds h k = absurd h
plain_chooses n (NumbersCtor r) t u a subs binds h k = absurd h
plain_chooses n c t u a subs binds h k = omega (arith, k)

node_plain : (st : MSet) (k : ℕ) → IsPlain (node_ctor st k)
node_plain SingleSet k = tt
node_plain st k = tt

wide_chooses : (t : MType) (r : MCtor) (w : Bool) → one_if false + (0 + one_if w) ≤ 1
wide_chooses t r true = omega arith
wide_chooses t r false = omega arith

no_wide : (n : ℕ) (b : Bool) → b ≡ false → 0 + (0 + one_if b) ≤ n
no_wide n b e = rw e (omega arith)

-- the sum of numbers
abbrev pub total : List ℕ → ℕ
total [] = 0
total (n ∷ ns) = n + total ns

abbrev mutual
  -- how many or-patterns and ranges the pattern has
  pub choices : MPat → ℕ
  choices WildPat = 0
  choices (NumPat n) = 1
  choices (FlagPat b) = 0
  choices (TextPat s) = 0
  choices (SpanPat at r) = 1
  choices (BindPat name written p) = choices p
  choices (FormPat k fields) = total (choices_of fields)
  choices (ListPat front rest back) = total (choices_each front) + total (choices_each back)
  choices (PointPat mutable p) = choices p
  choices (OrPat alternatives) = suc (total (choices_of alternatives))

  -- those of each field or alternative
  pub choices_of : MNumbered → List ℕ
  choices_of no_numbered = []
  choices_of (more_numbered n p ps) = choices p ∷ choices_of ps

  -- those of each item
  pub choices_each : MPats → List ℕ
  choices_each no_pats = []
  choices_each (more_pats p ps) = choices p ∷ choices_each ps

-- those of the field with this number
abbrev choices_at : MNumbered → ℕ → ℕ
choices_at no_numbered i = 0
choices_at (more_numbered j p ps) i = if nat_eq i j then choices p else choices_at ps i

-- those of the parts from number `i` on
abbrev choices_from : MNumbered → ℕ → MTypes → ℕ
choices_from fields i no_types = 0
choices_from fields i (more_types t ts) = choices_at fields i + choices_from fields (suc i) ts

from_none : (i : ℕ) (ts : MTypes) → choices_from no_numbered i ts ≡ 0
from_none i no_types = refl
from_none i (more_types t ts) = omega (arith, from_none (suc i) ts)

-- a field is met once
past_field : (j : ℕ) (p : MPat) (ps : MNumbered) (i : ℕ) (ts : MTypes) → suc j ≤ i →
    choices_from (more_numbered j p ps) i ts ≡ choices_from ps i ts
past_field j p ps i no_types le = refl
past_field j p ps i (more_types t ts) le =
    let other : nat_eq i j ≡ false = grind (arith, nat_tests, le) in
    rw other (ap (λ n. choices_at ps i + n) (past_field j p ps (suc i) ts (omega (arith, le))))

with_field : (j : ℕ) (p : MPat) (ps : MNumbered) (i : ℕ) (ts : MTypes) →
    choices_from (more_numbered j p ps) i ts ≤ choices p + choices_from ps i ts
with_field j p ps i no_types = omega arith
with_field j p ps i (more_types t ts) = go (nat_eq i j) refl (with_field j p ps (suc i) ts)
  where
    go : (b : Bool) → nat_eq i j ≡ b → choices_from (more_numbered j p ps) (suc i) ts ≤ choices p + choices_from ps
        (suc i) ts →
        (if b then choices p else choices_at ps i) + choices_from (more_numbered j p ps) (suc i) ts ≤ choices p +
        (choices_at ps i + choices_from ps (suc i) ts)
    go true e rest =
        let le : suc j ≤ suc i = grind (arith, nat_tests, e) in
        omega (arith, past_field j p ps (suc i) ts le)
    go false e rest = omega (arith, rest)

all_fields : (fields : MNumbered) (i : ℕ) (ts : MTypes) → choices_from fields i ts ≤ total (choices_of fields)
all_fields no_numbered i ts = omega (arith, from_none i ts)
all_fields (more_numbered j p ps) i ts = omega (arith, with_field j p ps i ts, all_fields ps i ts)

parts_choose : (fields : MNumbered) (f : ℕ → MType → Built) →
    ((i : ℕ) (w : MType) → Chooses (choices_at fields i) (f i w)) → (i : ℕ) (ts : MTypes) →
    BelowChoose (choices_from fields i ts) (parts_from f i ts)
parts_choose fields f h i no_types = omega arith
parts_choose fields f h i (more_types t ts) = more_choose (choices_at fields i) (choices_from fields (suc i) ts)
    (f i t) (parts_from f (suc i) ts) (h i t) (parts_choose fields f h (suc i) ts)

form_chooses : (program : MProgram) (k : ℕ) (fields : MNumbered) (f : ℕ → MType → Built) →
    ((i : ℕ) (w : MType) → Chooses (choices_at fields i) (f i w)) → (u : MType) →
    Chooses (total (choices_of fields)) (form program k f u)
form_chooses program k fields f h u =
    plain_chooses (total (choices_of fields)) (node_ctor (rust_set program u) k) u 0 0
    (parts_from f 0 (types_or_none (node_types program u k))) [] (node_plain (rust_set program u) k)
    (omega (
      arith,
      parts_choose fields f h 0 (types_or_none (node_types program u k)),
      all_fields fields 0
          (types_or_none (node_types program u k)),
    ))

-- makers one by one, at whatever types
abbrev MakersChoose : List ℕ → List Maker → Type 0
MakersChoose [] [] = Unit {0}
MakersChoose (n ∷ ns) (f ∷ fs) = ((t : MType) → Chooses n (f t)) × MakersChoose ns fs
MakersChoose _ _ = ⊥

makers_append : (ns ms : List ℕ) (fs gs : List Maker) → MakersChoose ns fs → MakersChoose ms gs →
    MakersChoose (ns ++ ms) (fs ++ gs)
makers_append [] ms [] gs h k = k
makers_append (n ∷ ns) ms (f ∷ fs) gs h k = (h.0, makers_append ns ms fs gs h.1 k)
makers_append [] ms (f ∷ fs) gs h k = absurd h
makers_append (n ∷ ns) ms [] gs h k = absurd h

total_append : (ns ms : List ℕ) → total (ns ++ ms) ≡ total ns + total ms
total_append [] ms = omega arith
total_append (n ∷ ns) ms = omega (arith, total_append ns ms)

total_none : (k : ℕ) → total (replicate k 0) ≡ 0
total_none zero = refl
total_none (suc k) = omega (arith, total_none k)

wilds_choose : (k : ℕ) → MakersChoose (replicate k 0) (replicate k wild_maker)
wilds_choose zero = tt
wilds_choose (suc k) = (λ t. omega arith, wilds_choose k)

made_choose : (ns : List ℕ) (fs : List Maker) (ts : MTypes) → MakersChoose ns fs → BelowChoose (total ns) (made fs ts)
made_choose [] [] ts h = omega arith
made_choose (n ∷ ns) (f ∷ fs) no_types h = omega arith
made_choose (n ∷ ns) (f ∷ fs) (more_types t ts) h = more_choose n (total ns) (f t) (made fs ts) (h.0 t)
    (made_choose ns fs ts h.1)
made_choose [] (f ∷ fs) ts h = absurd h
made_choose (n ∷ ns) [] ts h = absurd h

laid_choose : (rest : MRest) (ns ms : List ℕ) (fs bs : List Maker) (len : ℕ) (ts : MTypes) → MakersChoose ns fs →
    MakersChoose ms bs → BelowChoose (total ns + total ms) (made (laid_out wild_maker fs rest bs len) ts)
laid_choose rest ns ms fs bs len ts h k = go rest
  where
    around : BelowChoose (total ns + total ms)
        (made (fs ++ (replicate (len - (length fs + length bs)) wild_maker ++ bs)) ts)
    around =
        omega (
          arith,
          made_choose (ns ++ (replicate (len - (length fs + length bs)) 0 ++ ms))
              (fs ++ (replicate (len - (length fs + length bs)) wild_maker ++ bs)) ts
              (makers_append ns (replicate (len - (length fs + length bs)) 0 ++ ms) fs
              (replicate (len - (length fs + length bs)) wild_maker ++ bs) h
              (makers_append (replicate (len - (length fs + length bs)) 0) ms
              (replicate (len - (length fs + length bs)) wild_maker) bs (wilds_choose (len - (length fs + length bs))) k)),
          total_append ns (replicate (len - (length fs + length bs)) 0 ++ ms),
          total_append
              (replicate (len - (length fs + length bs)) 0) ms,
          total_none (len - (length fs + length bs)),
        )

    go : (rest : MRest) → BelowChoose (total ns + total ms) (made (laid_out wild_maker fs rest bs len) ts)
    go NoRest = omega (
      arith,
      made_choose (ns ++ ms) (fs ++ bs) ts (makers_append ns ms fs bs h k),
      total_append ns ms,
    )
    go SomeRest = around
    go (BoundRest name written) = around

items_choose : (ns ms : List ℕ) (fs bs : List Maker) (t : MType) → MakersChoose ns fs → MakersChoose ms bs →
    BelowChoose (total ns + total ms) (and_pats (made_at fs t) (made_at bs t))
items_choose [] [] [] [] t h k = omega arith
items_choose [] (m ∷ ms) [] (b ∷ bs) t h k = omega
    (arith, more_choose m (total [] + total ms) (b t) (made_at bs t) (k.0 t) (items_choose [] ms [] bs t tt k.1))
items_choose (n ∷ ns) ms (f ∷ fs) bs t h k = omega (
  arith,
  more_choose n (total ns + total ms) (f t) (and_pats (made_at fs t) (made_at bs t)) (h.0 t)
      (items_choose ns ms fs bs t h.1 k),
)
items_choose [] [] [] (b ∷ bs) t h k = absurd k
items_choose [] (m ∷ ms) [] [] t h k = absurd k
items_choose [] ms (f ∷ fs) bs t h k = absurd h
items_choose (n ∷ ns) ms [] bs t h k = absurd h

list_chooses : (program : MProgram) (rest : MRest) (ns ms : List ℕ) (fs bs : List Maker) (u : MType) (m : Mode) →
    MakersChoose ns fs → MakersChoose ms bs →
    Chooses (total ns + total ms) (list_of program fs rest bs u m)
list_chooses program rest ns ms fs bs (SliceType t) m h k =
    plain_chooses (total ns + total ms) (RowCtor (shape (length fs) (length bs) rest)) (SliceType t) 0 0
    (and_pats (made_at fs t) (made_at bs t)) (rest_bound (length fs) (length bs) rest m) tt
    (items_choose ns ms fs bs t h k)
list_chooses program rest ns ms fs bs (ArrayType t n) m h k =
    plain_chooses (total ns + total ms) (RowCtor (shape (length fs) (length bs) rest)) (ArrayType t n) 0 0
    (and_pats (made_at fs t) (made_at bs t)) (rest_bound (length fs) (length bs) rest m) tt
    (items_choose ns ms fs bs t h k)
list_chooses program rest ns ms fs bs u m h k =
    plain_chooses (total ns + total ms) SingleCtor u 0 0
    (made (laid_out wild_maker fs rest bs (length (types_list (types_or_none (node_types program u 0)))))
    (types_or_none (node_types program u 0))) [] tt
    (laid_choose rest ns ms fs bs (length (types_list (types_or_none (node_types program u 0))))
    (types_or_none (node_types program u 0)) h k)

or_chooses : (n : ℕ) (t : MType) (subs : MDePats MType) → BelowChoose n subs → Chooses (suc n) (over OrCtor t subs)
or_chooses n t subs h = omega (arith, h)

field_chooses : (b : Bool) (n m : ℕ) (p q : Built) → Chooses n p → Chooses m q → Chooses (if b then n else m)
    (if b then p else q)
field_chooses true n m p q h k = h
field_chooses false n m p q h k = k

number_chooses : (n : ℕ) (t : MType) (p : Built) → Chooses 0 p → Chooses n p
number_chooses n t (de_pat c u uid at subs binds) h = omega (arith, h)

mutual
  pub chooses : (program : MProgram) (p : MPat) (t : MType) (m : Mode) →
      Chooses (choices p) (elaborated program p t m)
  chooses program WildPat t m = omega arith
  chooses program (NumPat n) t m = through_chooses 1 (λ u m'. leaf (NumbersCtor (closed n n)) u)
      (λ u m'. wide_chooses u (NumbersCtor (closed n n)) (is_wide_ctor (NumbersCtor (closed n n)))) t m
  chooses program (FlagPat b) t m = through_chooses 0 (λ u m'. leaf (FlagCtor b) u) (λ u m'. omega arith) t m
  chooses program (TextPat s) t m = point_chooses 0 t (leaf (TextCtor s) (inner_type t)) (omega arith)
  chooses program (SpanPat at r) t m = through_chooses 1 (λ u m'. span at r u)
      (λ u m'. wide_chooses u (NumbersCtor r) (is_wide_ctor (NumbersCtor r))) t m
  chooses program (BindPat name written p) t m =
      bound_chooses (choices p) (record { name = name; mode = mode_written to_move written m; part = WholePart })
      (elaborated program p t m) (chooses program p t m)
  chooses program (FormPat k fields) t m =
      through_chooses (total (choices_of fields))
      (λ u m'. form program k (λ i w. elaborated_field program fields i w m') u)
      (λ u m'. form_chooses program k fields (λ i w. elaborated_field program fields i w m')
      (λ i w. field_choose program fields i w m') u) t m
  chooses program (ListPat front rest back) t m =
      through_chooses (total (choices_each front) + total (choices_each back))
      (λ u m'. list_of program (makers program front m') rest (makers program back m') u m')
      (λ u m'. list_chooses program rest (choices_each front) (choices_each back) (makers program front m')
      (makers program back m') u m' (pats_choose program front m') (pats_choose program back m')) t m
  chooses program (PointPat mutable p) t m = point_chooses (choices p) t
      (elaborated program p (inner_type t) (to_move m)) (chooses program p (inner_type t) (to_move m))
  chooses program (OrPat alternatives) t m = or_chooses (total (choices_of alternatives)) t
      (elaborated_alternatives program alternatives t m) (alternatives_choose program alternatives t m)

  field_choose : (program : MProgram) (ps : MNumbered) (i : ℕ) (t : MType) (m : Mode) → Chooses (choices_at ps i)
      (elaborated_field program ps i t m)
  field_choose program no_numbered i t m = omega arith
  field_choose program (more_numbered j p ps) i t m =
      field_chooses (nat_eq i j) (choices p) (choices_at ps i) (elaborated program p t m)
      (elaborated_field program ps i t m) (chooses program p t m) (field_choose program ps i t m)

  pats_choose : (program : MProgram) (ps : MPats) (m : Mode) → MakersChoose (choices_each ps) (makers program ps m)
  pats_choose program no_pats m = tt
  pats_choose program (more_pats p ps) m = (λ t. chooses program p t m, pats_choose program ps m)

  alternatives_choose : (program : MProgram) (ps : MNumbered) (t : MType) (m : Mode) →
      BelowChoose (total (choices_of ps)) (elaborated_alternatives program ps t m)
  alternatives_choose program no_numbered t m = omega arith
  alternatives_choose program (more_numbered at p ps) t m =
      omega (
        arith,
        standing_chooses (choices p) at (elaborated program p t m) (chooses program p t m),
        alternatives_choose program ps t m,
        or_append (all_within (standing_at at (elaborated program p t m)))
            (all_below (elaborated_alternatives program ps t m)),
      )
