-- Bodies of clauses: which atoms they ask, and what holds where they do.
use Rattle.std.proofs.Common.{◌≡◌, ℕ, ◌+◌, ◌<◌, ◌≤◌, Bool, true, false, ◌||◌, cond, List, [], ◌∷◌, ◌++◌, map, length, Option, Some, None, refl, sym, ap, subst, ◌∙◌, suc, zero, arith}
use Rattle.std.specs.Prelude.{slice_get, nat_lt, nat_eq}
use Rattle.std.specs.List.{AllByRecursion, list_all, list_any}
use Rattle.std.proofs.lemmas.Bool.{ltb-true, lt-ltb, and_parts, and_from, or_left, or_right}
use Rattle.type_names.specs.declared.meanings.Base.TheVariants as bases
use Rattle.type_names.specs.declared.meanings.Owner.TheVariants as owners
use Rattle.type_names.specs.declared.meanings.FormKind.{FormKind}
use Rattle.type_names.specs.declared.meanings.FormKind.TheVariants as form_kinds
use Rattle.horn_clauses.specs.declared.clause.Clause.{Clause}
use Rattle.type_table.specs.declared.nodes.Head.{Head}
use Rattle.type_table.specs.declared.nodes.Head.TheVariants as heads
use Rattle.type_table.specs.declared.entries.FieldEntry.{FieldEntry}
use Rattle.type_table.specs.declared.entries.VariantEntry.{VariantEntry}
use Rattle.type_table.specs.declared.entries.Entry.{Entry}
use Rattle.type_table.specs.declared.entries.Entry.TheVariants as entry_kinds
use Rattle.type_table.specs.Nodes.{are_below}
use Rattle.type_table.specs.Entries.{field_below, variant_below, entry_below}
use Rattle.type_table.specs.Bodies.{each_alone, outright, base_bodies, point_bodies, array_bodies, form_atoms, variant_body, asks_nothing, least_asking, enum_bodies, entry_bodies, item_bodies, node_bodies, said, said_from, clause_pair}
use Rattle.type_table.proofs.FieldLemmas.{all_at}

-- the body is one of those
abbrev pub Among : List ℕ → List (List ℕ) → Type 0
Among b bs = (k : ℕ) × (slice_get bs k ≡ Some b)

-- all atoms of one of the bodies hold
abbrev pub some_body : (ℕ → Bool) → List (List ℕ) → Bool
some_body f bodies = list_any (list_all f) bodies

pub among_all : (w : List ℕ → Bool) (bs : List (List ℕ)) (k : ℕ) (b : List ℕ) → slice_get bs k ≡ Some b → list_all w bs ≡ true → w b ≡ true
among_all w bs k b at h = all_at w bs k b h at

pub among_some : (f : ℕ → Bool) (bs : List (List ℕ)) (k : ℕ) (b : List ℕ) → slice_get bs k ≡ Some b → list_all f b ≡ true → some_body f bs ≡ true
among_some f [] k b at h = absurd cc
among_some f (c ∷ cs) zero b at h =
    let same : c ≡ b = cc in
    or_left (list_all f c) (some_body f cs) (ap (list_all f) same ∙ h)
among_some f (c ∷ cs) (suc k) b at h = or_right (list_all f c) (some_body f cs) (among_some f cs k b at h)

pub no_among : {A : Type 0} (b : List ℕ) → Among b [] → A
no_among b among = let e : None ≡ Some b = among.1 in absurd cc

pub alone : (x b : List ℕ) → Among b (x ∷ []) → x ≡ b
alone x b (zero, e) = cc
alone x b (suc k, e) = absurd cc

all_append : {A : Type 0} (P : A → Type 0) (xs ys : List A) → AllByRecursion P xs → AllByRecursion P ys → AllByRecursion P (xs ++ ys)
all_append P [] ys h k = k
all_append P (x ∷ xs) ys h k = (h.0, all_append P xs ys h.1 k)

said_all : (P : ℕ × List ℕ → Type 0) (h : ℕ) (bs : List (List ℕ)) → ((b : List ℕ) → Among b bs → P (h, b)) → AllByRecursion P (said h bs)
said_all P h [] each = tt
said_all P h (b ∷ bs) each = (each b (0, refl), said_all P h bs (λ c among. each c (suc among.0, among.1)))

-- what holds of the clauses of things that are numbered
pub from_all : {A : Type 0} (P : ℕ × List ℕ → Type 0) (bodies : A → List (List ℕ)) (i : ℕ) (xs : List A) →
    ((n : ℕ) (x : A) (b : List ℕ) → slice_get xs n ≡ Some x → Among b (bodies x) → P (i + n, b)) → AllByRecursion P (said_from bodies i xs)
from_all P bodies i [] each = tt
from_all P bodies i (x ∷ xs) each =
    all_append P (said i (bodies x)) (said_from bodies (i + 1) xs)
    (said_all P i (bodies x) (λ b among. let none : i + 0 ≡ i = omega arith in subst (λ (h : ℕ). P (h, b)) none (each 0 x b refl among)))
    (from_all P bodies (i + 1) xs (λ n y b at among. let moved : i + suc n ≡ (i + 1) + n = omega arith in subst (λ (h : ℕ). P (h, b)) moved (each (suc n) y b at among)))

pub pairs_all : (P : ℕ × List ℕ → Type 0) (clauses : List Clause) → AllByRecursion P (map clause_pair clauses) → AllByRecursion (λ c. P (clause_pair c)) clauses
pairs_all P [] h = tt
pairs_all P (c ∷ cs) h = (h.0, pairs_all P cs h.1)

-- the head holds where the body does
abbrev pub follows : (ℕ → Bool) → ℕ × List ℕ → Type 0
follows f p = list_all f p.1 ≡ true → f p.0 ≡ true

all_of_append : {A : Type 0} (P : A → Type 0) (xs ys : List A) → AllByRecursion P (xs ++ ys) → AllByRecursion P xs × AllByRecursion P ys
all_of_append P [] ys h = (tt, h)
all_of_append P (x ∷ xs) ys h = let rest = all_of_append P xs ys h.1 in ((h.0, rest.0), rest.1)

said_follows : (f : ℕ → Bool) (h : ℕ) (bs : List (List ℕ)) → AllByRecursion (follows f) (said h bs) → some_body f bs ≡ true → f h ≡ true
said_follows f h [] all s = absurd cc
said_follows f h (b ∷ bs) all s = by (list_all f b) refl s (said_follows f h bs all.1)
  where
    by : (t : Bool) → list_all f b ≡ t → (t || some_body f bs) ≡ true → (some_body f bs ≡ true → f h ≡ true) → f h ≡ true
    by true e s rest = all.0 e
    by false e s rest = rest s

-- where one of its bodies holds, so does a thing that is numbered
pub from_follows : {A : Type 0} (f : ℕ → Bool) (bodies : A → List (List ℕ)) (i : ℕ) (xs : List A) → AllByRecursion (follows f) (said_from bodies i xs) →
    (n : ℕ) (x : A) → slice_get xs n ≡ Some x → some_body f (bodies x) ≡ true → f (i + n) ≡ true
from_follows f bodies i [] all n x at s = absurd cc
from_follows {A} f bodies i (y ∷ ys) all zero x at s =
    let same : y ≡ x = cc in
    let none : i ≡ i + 0 = omega arith in
    let here = (all_of_append (follows f) (said i (bodies y)) (said_from bodies (i + 1) ys) all).0 in
    ap f (sym none) ∙ said_follows f i (bodies y) here (ap (λ (z : A). some_body f (bodies z)) same ∙ s)
from_follows f bodies i (y ∷ ys) all (suc n) x at s =
    let moved : i + suc n ≡ (i + 1) + n = omega arith in
    let rest = (all_of_append (follows f) (said i (bodies y)) (said_from bodies (i + 1) ys) all).1 in
    ap f moved ∙ from_follows f bodies (i + 1) ys rest n x at s

-- a body that asks nothing holds, so beside it the others need not be asked
bare_holds : (f : ℕ → Bool) (bodies : List (List ℕ)) → list_any asks_nothing bodies ≡ true → some_body f bodies ≡ true
bare_holds f [] h = h
bare_holds f ([] ∷ bs) h = refl
bare_holds f ((a ∷ atoms) ∷ bs) h = or_right (list_all f (a ∷ atoms)) (some_body f bs) (bare_holds f bs h)

pub least_says : (f : ℕ → Bool) (bodies : List (List ℕ)) → some_body f bodies ≡ some_body f (least_asking bodies)
least_says f bodies = by (list_any asks_nothing bodies) refl
  where
    by : (b : Bool) → list_any asks_nothing bodies ≡ b → some_body f bodies ≡ some_body f (cond b outright bodies)
    by true e = bare_holds f bodies e
    by false e = refl

bare_among : (bodies : List (List ℕ)) → list_any asks_nothing bodies ≡ true → Among [] bodies
bare_among [] h = absurd cc
bare_among ([] ∷ bs) h = (0, refl)
bare_among ((a ∷ atoms) ∷ bs) h = let there = bare_among bs h in (suc there.0, there.1)

-- one of the bodies that are asked is one of all
pub least_among : (bodies : List (List ℕ)) (b : List ℕ) → Among b (least_asking bodies) → Among b bodies
least_among bodies b among = by (list_any asks_nothing bodies) refl among
  where
    by : (t : Bool) → list_any asks_nothing bodies ≡ t → Among b (cond t outright bodies) → Among b bodies
    by true e a = subst (λ (c : List ℕ). Among c bodies) (alone [] b a) (bare_among bodies e)
    by false e a = a

-- the bodies ask of atoms that there are
within_each : (w : ℕ → Bool) (atoms : List ℕ) → list_all w atoms ≡ true → list_all (list_all w) (each_alone atoms) ≡ true
within_each w [] h = refl
within_each w (a ∷ atoms) h =
    let halves = and_parts (w a) (list_all w atoms) h in
    rw (halves.0, within_each w atoms halves.1) refl

within_one : (w : ℕ → Bool) (b : List ℕ) → list_all w b ≡ true → list_all (list_all w) (b ∷ []) ≡ true
within_one w b h = rw h refl

within_fields : (n : ℕ) (fs : List FieldEntry) → list_all (field_below n) fs ≡ true → are_below (map (λ f. f.ty) fs) n ≡ true
within_fields n [] h = refl
within_fields n (f ∷ fs) h =
    let halves = and_parts (nat_lt f.ty n) (list_all (field_below n) fs) h in
    and_from (nat_lt f.ty n) (are_below (map (λ f. f.ty) fs) n) halves.0 (within_fields n fs halves.1)

-- so do the fields of a variant
pub within_variant : (n : ℕ) (v : VariantEntry) → variant_below n v ≡ true → are_below (variant_body v) n ≡ true
within_variant n v h = by v.form
  where
    by : (k : FormKind) → are_below (form_atoms k (map (λ f. f.ty) v.fields.items)) n ≡ true
    by form_kinds.Unit = refl
    by _ = within_fields n v.fields.items h

within_variants : (n : ℕ) (vs : List VariantEntry) → list_all (variant_below n) vs ≡ true → list_all (λ b. are_below b n) (map variant_body vs) ≡ true
within_variants n [] h = refl
within_variants n (v ∷ vs) h =
    let halves = and_parts (variant_below n v) (list_all (variant_below n) vs) h in
    rw (within_variant n v halves.0, within_variants n vs halves.1) refl

within_least : (w : List ℕ → Bool) (bodies : List (List ℕ)) → w [] ≡ true → list_all w bodies ≡ true → list_all w (least_asking bodies) ≡ true
within_least w bodies e h = by (list_any asks_nothing bodies)
  where
    by : (b : Bool) → list_all w (cond b outright bodies) ≡ true
    by true = rw e refl
    by false = h

within_enum : (sure later : Bool) (w : List ℕ → Bool) (bodies : List (List ℕ)) → w [] ≡ true → list_all w bodies ≡ true → list_all w (enum_bodies sure later bodies) ≡ true
within_enum sure true w bodies e h = rw e refl
within_enum true false w bodies e h = within_least w bodies e h
within_enum false false w [] e h = rw e refl
within_enum false false w (b ∷ bs) e h = within_least w (b ∷ bs) e h

entry_within : (sure : Bool) (n : ℕ) (e : Entry) → entry_below n e ≡ true → list_all (λ b. are_below b n) (entry_bodies sure e) ≡ true
entry_within sure n (entry_kinds.Struct id v) h = within_one (λ p. nat_lt p n) (variant_body v) (within_variant n v (and_parts (nat_lt id n) (variant_below n v) h).1)
entry_within sure n (entry_kinds.Enum id name later variants) h =
    within_enum sure later (λ b. are_below b n) (map variant_body variants.items) refl
    (within_variants n variants.items (and_parts (nat_lt id n) (list_all (variant_below n) variants.items) h).1)
entry_within sure n _ h = refl

pub node_within : (sure : Bool) (n : ℕ) (entries : List Entry) (h : Head) (parts : List ℕ) → list_all (entry_below n) entries ≡ true → are_below parts n ≡ true →
    list_all (λ b. are_below b n) (node_bodies sure entries h parts) ≡ true
node_within sure n entries (heads.Base bases.Never) parts all below = by sure
  where
    by : (s : Bool) → list_all (λ b. are_below b n) (base_bodies s bases.Never) ≡ true
    by true = refl
    by false = refl
node_within sure n entries heads.Tuple parts all below = within_one (λ p. nat_lt p n) parts below
node_within sure n entries (heads.Point mutable) parts all below = by sure
  where
    by : (s : Bool) → list_all (λ b. are_below b n) (point_bodies s parts) ≡ true
    by true = refl
    by false = within_one (λ p. nat_lt p n) parts below
node_within sure n entries (heads.Array len) parts all below = by (nat_eq len 0)
  where
    by : (b : Bool) → list_all (λ b. are_below b n) (cond b outright (parts ∷ [])) ≡ true
    by true = refl
    by false = within_one (λ p. nat_lt p n) parts below
node_within sure n entries (heads.Named (owners.Item i)) parts all below = by (slice_get entries i) refl
  where
    by : (o : Option Entry) → slice_get entries i ≡ o → list_all (λ b. are_below b n) (item_bodies sure o) ≡ true
    by None at = refl
    by (Some e) at = entry_within sure n e (all_at (entry_below n) entries i e all at)
node_within sure n entries (heads.Named owners.Result) parts all below = within_each (λ p. nat_lt p n) parts below
node_within sure n entries _ parts all below = refl

-- parts that are below a number are below a greater one
pub below_more : (parts : List ℕ) (m n : ℕ) → m ≤ n → are_below parts m ≡ true → are_below parts n ≡ true
below_more [] m n le h = refl
below_more (p ∷ ps) m n le h =
    let halves = and_parts (nat_lt p m) (are_below ps m) h in
    let lt : p < m = ltb-true p m halves.0 in
    and_from (nat_lt p n) (are_below ps n) (lt-ltb p n (omega arith)) (below_more ps m n le halves.1)
