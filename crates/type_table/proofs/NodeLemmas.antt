-- The types of nodes in a set that grows at its end.
use Rattle.std.proofs.Common.{◌≡◌, ℕ, ◌+◌, ◌<◌, Bool, true, false, List, [], ◌∷◌, ◌++◌, map, length, Some, refl, sym, ap, ◌∙◌, append_assoc, suc, zero, arith, length-append, cond, inl, inr, ◌⊎◌}
use Rattle.std.specs.Prelude.{slice_get, nat_lt, option_map}
use Rattle.std.specs.List.{list_any}
use Rattle.indexmap.specs.IndexSet.{insert_key}
use Rattle.std.proofs.lemmas.List.{append-nil}
use Rattle.std.proofs.lemmas.Bool.{ltb-true, and_parts}
use Rattle.std.proofs.lemmas.Option.{slice_get-map}
use Rattle.match_model.specs.Types.{MType}
use Rattle.type_table.specs.declared.nodes.Node.{Node}
use Rattle.type_table.specs.declared.nodes.Head.{Head}
use Rattle.type_table.specs.Nodes.{head_type, type_there, type_at, node_type, types_from, types_in, are_below, fits_head, AreNodes, Extends, plain}

pub get_front : {A : Type 0} (xs ys : List A) (i : ℕ) → i < length xs → slice_get (xs ++ ys) i ≡ slice_get xs i
get_front [] ys i lt = absurd (omega arith)
get_front (x ∷ xs) ys zero lt = refl
get_front (x ∷ xs) ys (suc i) lt = get_front xs ys i (omega arith)

pub get_next : {A : Type 0} (xs : List A) (y : A) (ys : List A) → slice_get (xs ++ y ∷ ys) (length xs) ≡ Some y
get_next [] y ys = refl
get_next (x ∷ xs) y ys = get_next xs y ys

pub get_below : {A : Type 0} (xs : List A) (i : ℕ) (x : A) → slice_get xs i ≡ Some x → i < length xs
get_below [] i x h = absurd cc
get_below (y ∷ ys) zero x h = omega arith
get_below (y ∷ ys) (suc i) x h = let below : i < length ys = get_below ys i x h in omega arith

pub item_at : {A : Type 0} (xs : List A) (i : ℕ) → i < length xs → (x : A) × (slice_get xs i ≡ Some x)
item_at [] i lt = absurd (omega arith)
item_at (x ∷ xs) zero lt = (x, refl)
item_at (x ∷ xs) (suc i) lt = item_at xs i (omega arith)

pub map_has : {A B : Type 0} (f : A → B) (xs : List A) (k : ℕ) (x : A) → slice_get xs k ≡ Some x → slice_get (map f xs) k ≡ Some (f x)
map_has f xs k x h = slice_get-map f xs k ∙ ap (option_map f) h

-- types behind others leave those
pub type_prefix : (ns : List Node) (done : List MType) (j : ℕ) → j < length done → slice_get (types_from done ns) j ≡ slice_get done j
type_prefix [] done j lt = refl
type_prefix (n ∷ ns) done j lt =
    let longer : j < length (done ++ node_type done n ∷ []) = omega (arith, length-append {A = MType}) in
    type_prefix ns (done ++ node_type done n ∷ []) j longer ∙ get_front done (node_type done n ∷ []) j lt

-- parts that are below a number up to which the types agree
pub same_parts : (a b : List MType) (parts : List ℕ) (n : ℕ) → are_below parts n ≡ true → ((j : ℕ) → j < n → slice_get a j ≡ slice_get b j) → map (type_at a) parts ≡ map (type_at b) parts
same_parts a b [] n below agree = refl
same_parts a b (p ∷ ps) n below agree =
    let halves = and_parts (nat_lt p n) (are_below ps n) below in
    let here : type_at a p ≡ type_at b p = ap type_there (agree p (ltb-true p n halves.0)) in
    let others : map (type_at a) ps ≡ map (type_at b) ps = same_parts a b ps n halves.1 agree in
    ap (λ t. t ∷ map (type_at a) ps) here ∙ ap (λ ts. type_at b p ∷ ts) others

pub same_node : (a b : List MType) (node : Node) (n : ℕ) → are_below node.parts.items n ≡ true → ((j : ℕ) → j < n → slice_get a j ≡ slice_get b j) → node_type a node ≡ node_type b node
same_node a b node n below agree = ap (head_type node.head) (same_parts a b node.parts.items n below agree)

-- a node's type stands at its number
from_type : (ns : List Node) (done : List MType) (i : ℕ) (k : Node) → slice_get ns i ≡ Some k → are_below k.parts.items (length done + i) ≡ true →
    slice_get (types_from done ns) (length done + i) ≡ Some (node_type (types_from done ns) k)
from_type [] done i k at below = absurd cc
from_type (n ∷ ns) done zero k at below =
    let same : n ≡ k = cc in
    let zero_more : length done + 0 ≡ length done = omega arith in
    let longer : length done < length (done ++ node_type done n ∷ []) = omega (arith, length-append {A = MType}) in
    let agree : (j : ℕ) → j < length done → slice_get done j ≡ slice_get (types_from done (n ∷ ns)) j = λ j lt. sym (type_prefix (n ∷ ns) done j lt) in
    let below_done : are_below k.parts.items (length done) ≡ true = ap (λ (m : ℕ). are_below k.parts.items m) (sym zero_more) ∙ below in
    ap (λ (m : ℕ). slice_get (types_from done (n ∷ ns)) m) zero_more
    ∙ (type_prefix ns (done ++ node_type done n ∷ []) (length done) longer
    ∙ (get_next done (node_type done n) []
    ∙ ap Some (ap (node_type done) same ∙ same_node done (types_from done (n ∷ ns)) k (length done) below_done agree)))
from_type (n ∷ ns) done (suc i) k at below =
    let moved : length done + suc i ≡ length (done ++ node_type done n ∷ []) + i = omega (arith, length-append {A = MType}) in
    ap (λ (m : ℕ). slice_get (types_from done (n ∷ ns)) m) moved
    ∙ from_type ns (done ++ node_type done n ∷ []) i k at (ap (λ (m : ℕ). are_below k.parts.items m) (sym moved) ∙ below)

pub type_of_node : (ks : List Node) (i : ℕ) (k : Node) → AreNodes ks → slice_get ks i ≡ Some k → slice_get (types_in ks) i ≡ Some (node_type (types_in ks) k)
type_of_node ks i k are at =
    let none : 0 + i ≡ i = omega arith in
    ap (λ (m : ℕ). slice_get (types_in ks) m) (sym none) ∙ from_type ks [] i k at (ap (λ (m : ℕ). are_below k.parts.items m) none ∙ (are i k at).0)

pub count_types : (ns : List Node) (done : List MType) → length (types_from done ns) ≡ length done + length ns
count_types [] done = omega arith
count_types (n ∷ ns) done = count_types ns (done ++ node_type done n ∷ []) ∙ omega (arith, length-append {A = MType})

pub types_append : (xs ys : List Node) (done : List MType) → types_from done (xs ++ ys) ≡ types_from (types_from done xs) ys
types_append [] ys done = refl
types_append (x ∷ xs) ys done = types_append xs ys (done ++ node_type done x ∷ [])

-- more nodes leave the types of those before
pub types_stay : (old new : List Node) (i : ℕ) → Extends old new → i < length old → slice_get (types_in new) i ≡ slice_get (types_in old) i
types_stay old new i more lt =
    let count : length (types_in old) ≡ length old = count_types old [] ∙ omega arith in
    ap (λ (ns : List Node). slice_get (types_in ns) i) more.1
    ∙ (ap (λ (ts : List MType). slice_get ts i) (types_append old more.0 []) ∙ type_prefix more.0 (types_in old) i (omega arith))

pub type_stays : (old new : List Node) (i : ℕ) (t : MType) → Extends old new → slice_get (types_in old) i ≡ Some t → slice_get (types_in new) i ≡ Some t
type_stays old new i t more at =
    let below : i < length (types_in old) = get_below (types_in old) i t at in
    let count : length (types_in old) ≡ length old = count_types old [] ∙ omega arith in
    types_stay old new i more (omega arith) ∙ at

pub extends_itself : (ns : List Node) → Extends ns ns
extends_itself ns = ([], sym (append-nil ns))

pub extends_twice : (a b c : List Node) → Extends a b → Extends b c → Extends a c
extends_twice a b c f g = (f.0 ++ g.0, g.1 ∙ (ap (λ (ns : List Node). ns ++ g.0) f.1 ∙ append_assoc a f.0 g.0))

get_push : {A : Type 0} (xs : List A) (y x : A) (i : ℕ) → slice_get (xs ++ y ∷ []) i ≡ Some x → (slice_get xs i ≡ Some x) ⊎ ((i ≡ length xs) × (y ≡ x))
get_push [] y x zero h = inr (refl, cc)
get_push [] y x (suc i) h = absurd cc
get_push (z ∷ zs) y x zero h = inl h
get_push (z ∷ zs) y x (suc i) h = next (get_push zs y x i h)
  where
    next : (slice_get zs i ≡ Some x) ⊎ ((i ≡ length zs) × (y ≡ x)) → (slice_get zs i ≡ Some x) ⊎ ((suc i ≡ suc (length zs)) × (y ≡ x))
    next (inl e) = inl e
    next (inr e) = inr (ap suc e.0, e.1)

-- nodes with one more
pub nodes_push : (ks : List Node) (n : Node) → AreNodes ks → are_below n.parts.items (length ks) ≡ true → fits_head n.head (length n.parts.items) ≡ true → AreNodes (ks ++ n ∷ [])
nodes_push ks n are below fits i k at = by (get_push ks n k i at)
  where
    by : (slice_get ks i ≡ Some k) ⊎ ((i ≡ length ks) × (n ≡ k)) → (are_below k.parts.items i ≡ true) × (fits_head k.head (length k.parts.items) ≡ true)
    by (inl e) = are i k e
    by (inr e) = (
      ap (λ (m : ℕ). are_below k.parts.items m) e.0 ∙ (ap (λ (x : Node). are_below x.parts.items (length ks)) (sym e.1) ∙ below),
      ap (λ (x : Node). fits_head x.head (length x.parts.items)) (sym e.1) ∙ fits,
    )

-- the type of a node is that of an equal one
pub same_type : (types : List MType) (a b : Node) → plain a ≡ plain b → node_type types a ≡ node_type types b
same_type types a b e = ap (λ (p : Head × List ℕ). head_type p.0 (map (type_at types) p.1)) e

-- nodes with one more, unless it is there
pub nodes_insert : (eq : Node → Node → Bool) (ks : List Node) (n : Node) → AreNodes ks → are_below n.parts.items (length ks) ≡ true → fits_head n.head (length n.parts.items) ≡ true → AreNodes (insert_key eq ks n)
nodes_insert eq ks n are below fits = by (list_any (eq n) ks)
  where
    by : (b : Bool) → AreNodes (cond b ks (ks ++ n ∷ []))
    by true = are
    by false = nodes_push ks n are below fits

pub extends_insert : (eq : Node → Node → Bool) (ks : List Node) (n : Node) → Extends ks (insert_key eq ks n)
extends_insert eq ks n = by (list_any (eq n) ks)
  where
    by : (b : Bool) → Extends ks (cond b ks (ks ++ n ∷ []))
    by true = extends_itself ks
    by false = (n ∷ [], refl)

-- the type of a node that was put in
pub type_inserted : (old new : List Node) (n k : Node) (i : ℕ) → AreNodes new → Extends old new → are_below n.parts.items (length old) ≡ true →
    slice_get new i ≡ Some k → plain n ≡ plain k → slice_get (types_in new) i ≡ Some (node_type (types_in old) n)
type_inserted old new n k i are more below at same =
    let agree : (j : ℕ) → j < length old → slice_get (types_in new) j ≡ slice_get (types_in old) j = λ j lt. types_stay old new j more lt in
    type_of_node new i k are at
    ∙ ap Some (sym (same_type (types_in new) n k same) ∙ same_node (types_in new) (types_in old) n (length old) below agree)
