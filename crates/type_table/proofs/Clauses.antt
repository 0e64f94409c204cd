-- Lists of clauses.
use Rattle.std.proofs.Common.{◌≡◌, ℕ, ◌+◌, ◌<◌, ◌≤◌, true, List, [], ◌∷◌, ◌++◌, length, sym, ap, ◌∙◌, append_assoc, suc, zero, arith, take, get_or, refl}
use Rattle.std.specs.Prelude.{nat_lt}
use Rattle.std.specs.List.{All, AllByRecursion, list_all}
use Rattle.std.proofs.lemmas.List.{append-nil, take_more, length-take-le}
use Rattle.std.proofs.lemmas.List.Elements.{All-from_recursion}
use Rattle.std.proofs.lemmas.Bool.{ltb-true, and_parts, and_from, lt-ltb}
use Rattle.std.proofs.lemmas.Option.{slice_get_read}
use Rattle.type_table.specs.declared.nodes.Node.{Node}
use Rattle.type_table.specs.declared.entries.FieldEntry.{FieldEntry}
use Rattle.type_table.specs.declared.entries.VariantEntry.{VariantEntry}
use Rattle.type_table.specs.declared.entries.Entry.{Entry}
use Rattle.type_table.specs.declared.entries.Entry.TheVariants as entries
use Rattle.type_table.specs.Nodes.{AreNodes, are_below}
use Rattle.type_table.specs.Entries.{field_below, variant_below, entry_below}
use Rattle.type_table.specs.Bodies.{said, said_from}

said_push : {A : Type 0} (bodies : A → List (List ℕ)) (i : ℕ) (xs : List A) (x : A) (h : ℕ) → i + length xs ≡ h →
    said_from bodies i (xs ++ x ∷ []) ≡ said_from bodies i xs ++ said h (bodies x)
said_push bodies i [] x h e =
    let same : i ≡ h = omega arith in
    append-nil (said i (bodies x)) ∙ ap (λ (n : ℕ). said n (bodies x)) same
said_push bodies i (y ∷ ys) x h e =
    let moved : (i + 1) + length ys ≡ h = omega arith in
    ap (λ (cs : List (ℕ × List ℕ)). said i (bodies y) ++ cs) (said_push bodies (i + 1) ys x h moved)
    ∙ sym (append_assoc (said i (bodies y)) (said_from bodies (i + 1) ys) (said h (bodies x)))

-- the clauses of one thing more
pub said_more : {A : Type 0} (bodies : A → List (List ℕ)) (start i h : ℕ) (xs : List A) (x : A) (init old new : List (ℕ × List ℕ)) →
    i < length xs → x ≡ get_or xs i x → start + i ≡ h → old ≡ init ++ said_from bodies start (take i xs) → new ≡ old ++ said h (bodies x) →
    new ≡ init ++ said_from bodies start (take (i + 1) xs)
said_more {A} bodies start i h xs x init old new lt is e before more =
    let front : take (i + 1) xs ≡ take i xs ++ x ∷ [] = take_more xs i x lt ∙ ap (λ (y : A). take i xs ++ y ∷ []) (sym is) in
    let count : length (take i xs) ≡ i = length-take-le i xs (omega arith) in
    let place : start + length (take i xs) ≡ h = ap (λ (n : ℕ). start + n) count ∙ e in
    more
    ∙ (ap (λ (cs : List (ℕ × List ℕ)). cs ++ said h (bodies x)) before
    ∙ (append_assoc init (said_from bodies start (take i xs)) (said h (bodies x))
    ∙ ap (λ (cs : List (ℕ × List ℕ)). init ++ cs) (sym (ap (said_from bodies start) front ∙ said_push bodies start (take i xs) x h place))))

few_parts : (n : ℕ) (parts : List ℕ) → are_below parts n ≡ true → n ≤ 4294967296 → AllByRecursion (λ p. p < 4294967296) parts
few_parts n [] b l = tt
few_parts n (p ∷ ps) b l =
    let halves = and_parts (nat_lt p n) (are_below ps n) b in
    let lt : p < n = ltb-true p n halves.0 in
    (omega arith, few_parts n ps halves.1 l)

-- a node's parts are below 2^32
pub parts_few : (nodes : List Node) (i : ℕ) (n : Node) → AreNodes nodes → length nodes < 4294967296 →
    i < length nodes → n ≡ get_or nodes i n → All (λ p. p < 4294967296) n.parts.items
parts_few nodes i n are few lt is =
    All-from_recursion (λ p. p < 4294967296) n.parts.items (few_parts i n.parts.items (are i n (slice_get_read nodes (length nodes) i n refl lt is)).0 (omega arith))

few_atoms : (count n : ℕ) (parts : List ℕ) → are_below parts n ≡ true → count + n < 4294967296 → AllByRecursion (λ p. count + p < 4294967296) parts
few_atoms count n [] b l = tt
few_atoms count n (p ∷ ps) b l =
    let halves = and_parts (nat_lt p n) (are_below ps n) b in
    let lt : p < n = ltb-true p n halves.0 in
    (omega arith, few_atoms count n ps halves.1 l)

-- so are they behind as many items
pub atoms_few : (count : ℕ) (nodes : List Node) (i : ℕ) (n : Node) → AreNodes nodes → count + length nodes < 4294967296 →
    i < length nodes → n ≡ get_or nodes i n → All (λ p. count + p < 4294967296) n.parts.items
atoms_few count nodes i n are few lt is =
    All-from_recursion (λ p. count + p < 4294967296) n.parts.items (few_atoms count i n.parts.items (are i n (slice_get_read nodes (length nodes) i n refl lt is)).0 (omega arith))

few_fields : (m n : ℕ) (fs : List FieldEntry) → m ≤ n → list_all (field_below m) fs ≡ true → list_all (field_below n) fs ≡ true
few_fields m n [] le h = refl
few_fields m n (f ∷ fs) le h =
    let halves = and_parts (nat_lt f.ty m) (list_all (field_below m) fs) h in
    let lt : f.ty < m = ltb-true f.ty m halves.0 in
    and_from (nat_lt f.ty n) (list_all (field_below n) fs) (lt-ltb f.ty n (omega arith)) (few_fields m n fs le halves.1)

few_variants : (m n : ℕ) (vs : List VariantEntry) → m ≤ n → list_all (variant_below m) vs ≡ true → list_all (variant_below n) vs ≡ true
few_variants m n [] le h = refl
few_variants m n (v ∷ vs) le h =
    let halves = and_parts (variant_below m v) (list_all (variant_below m) vs) h in
    and_from (variant_below n v) (list_all (variant_below n) vs) (few_fields m n v.fields.items le halves.0) (few_variants m n vs le halves.1)

few_number : (m n a : ℕ) → m ≤ n → nat_lt a m ≡ true → nat_lt a n ≡ true
few_number m n a le h = let lt : a < m = ltb-true a m h in lt-ltb a n (omega arith)

few_entry : (m n : ℕ) (e : Entry) → m ≤ n → entry_below m e ≡ true → entry_below n e ≡ true
few_entry m n (entries.Struct id v) le h =
    let halves = and_parts (nat_lt id m) (variant_below m v) h in
    and_from (nat_lt id n) (variant_below n v) (few_number m n id le halves.0) (few_fields m n v.fields.items le halves.1)
few_entry m n (entries.Enum id name later variants) le h =
    let halves = and_parts (nat_lt id m) (list_all (variant_below m) variants.items) h in
    and_from (nat_lt id n) (list_all (variant_below n) variants.items) (few_number m n id le halves.0) (few_variants m n variants.items le halves.1)
few_entry m n (entries.Function param deref) le h = few_number m n param le h
few_entry m n entries.Import le h = refl

more_entries : (m n : ℕ) (es : List Entry) → m ≤ n → list_all (entry_below m) es ≡ true → list_all (entry_below n) es ≡ true
more_entries m n [] le h = refl
more_entries m n (e ∷ es) le h =
    let halves = and_parts (entry_below m e) (list_all (entry_below m) es) h in
    and_from (entry_below n e) (list_all (entry_below n) es) (few_entry m n e le halves.0) (more_entries m n es le halves.1)

-- the numbers in the entries are below 2^32
pub entries_few : (nodes : List Node) (es : List Entry) → list_all (entry_below (length nodes)) es ≡ true → length nodes < 4294967296 → list_all (entry_below 4294967296) es ≡ true
entries_few nodes es below few = more_entries (length nodes) 4294967296 es (omega arith) below
