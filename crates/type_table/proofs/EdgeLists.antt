-- The lists of edges as they grow, and that they go to nodes that there are.
use Rattle.std.proofs.Common.{◌≡◌, ℕ, ◌+◌, ◌<◌, ◌≤◌, Bool, true, false, cond, List, [], ◌∷◌, ◌++◌, map, length, Some, refl, sym, ap, ◌∙◌, suc, arith, append_assoc, take, get_or, length-append}
use Rattle.std.specs.Prelude.{slice_get, nat_lt}
use Rattle.std.specs.Global.{Vec}
use Rattle.std.specs.List.{All, AllByRecursion, list_all}
use Rattle.std.proofs.lemmas.Bool.{ltb-true, and_parts, and_from, lt-ltb}
use Rattle.std.proofs.lemmas.List.{append-nil, length-map, take_more}
use Rattle.std.proofs.lemmas.List.Elements.{All-from_recursion}
use Rattle.cycle_search.specs.Graphs.{plain_graph, HasTargetsBelow}
use Rattle.type_names.specs.declared.meanings.Owner.TheVariants as owners
use Rattle.type_table.specs.declared.nodes.Head.{Head}
use Rattle.type_table.specs.declared.nodes.Head.TheVariants as heads
use Rattle.type_table.specs.declared.nodes.Node.{Node}
use Rattle.type_names.specs.declared.meanings.FormKind.{FormKind}
use Rattle.type_names.specs.declared.meanings.FormKind.TheVariants as form_kinds
use Rattle.type_table.specs.declared.entries.FieldEntry.{FieldEntry}
use Rattle.type_table.specs.declared.entries.VariantEntry.{VariantEntry}
use Rattle.type_table.specs.declared.entries.Entry.{Entry}
use Rattle.type_table.specs.declared.entries.Entry.TheVariants as entry_kinds
use Rattle.type_table.specs.Nodes.{AreNodes, are_below}
use Rattle.type_table.specs.Entries.{field_below, variant_below, entry_below}
use Rattle.type_table.specs.Bodies.{form_atoms}
use Rattle.type_table.specs.Edges.{node_atoms, variant_edges, node_edges, edges_of, variants_edges, entry_edges}
use Rattle.type_table.proofs.NodeLemmas.{get_below}
use Rattle.type_table.proofs.FieldLemmas.{all_at}
use Rattle.type_table.proofs.BodyLists.{below_more}

-- the edges of one variant more
pub edges_more : (count i : ℕ) (vs : List VariantEntry) (v : VariantEntry) (old new more : List ℕ) → i < length vs → v ≡ get_or vs i v →
    old ≡ variants_edges count (take i vs) → more ≡ variant_edges count v → new ≡ old ++ more → new ≡ variants_edges count (take (i + 1) vs)
edges_more count i vs v old new more lt is before here e =
    let front : take (i + 1) vs ≡ take i vs ++ v ∷ [] = take_more vs i v lt ∙ ap (λ (y : VariantEntry). take i vs ++ y ∷ []) (sym is) in
    e
    ∙ (ap (λ (xs : List ℕ). xs ++ more) before
    ∙ (ap (λ (xs : List ℕ). variants_edges count (take i vs) ++ xs) here
    ∙ sym (ap (variants_edges count) front ∙ pushed (take i vs))))
  where
    pushed : (xs : List VariantEntry) → variants_edges count (xs ++ v ∷ []) ≡ variants_edges count xs ++ variant_edges count v
    pushed [] = append-nil (variant_edges count v)
    pushed (x ∷ xs) = ap (λ (ys : List ℕ). variant_edges count x ++ ys) (pushed xs) ∙ sym (append_assoc (variant_edges count x) (variants_edges count xs) (variant_edges count v))

-- the edges go to nodes that there are
module _ (count n : ℕ) where
  within_parts : (parts : List ℕ) → are_below parts n ≡ true → list_all (λ a. nat_lt a (count + n)) (node_atoms count parts) ≡ true
  within_parts [] h = refl
  within_parts (p ∷ ps) h =
      let halves = and_parts (nat_lt p n) (are_below ps n) h in
      let lt : p < n = ltb-true p n halves.0 in
      rw (lt-ltb (count + p) (count + n) (omega arith), within_parts ps halves.1) refl

  within_fields : (fs : List FieldEntry) → list_all (field_below n) fs ≡ true → list_all (λ a. nat_lt a (count + n)) (node_atoms count (map (λ f. f.ty) fs)) ≡ true
  within_fields [] h = refl
  within_fields (f ∷ fs) h =
      let halves = and_parts (nat_lt f.ty n) (list_all (field_below n) fs) h in
      let lt : f.ty < n = ltb-true f.ty n halves.0 in
      rw (lt-ltb (count + f.ty) (count + n) (omega arith), within_fields fs halves.1) refl

  within_form : (k : FormKind) (w : ℕ → Bool) (atoms : List ℕ) → list_all w atoms ≡ true → list_all w (form_atoms k atoms) ≡ true
  within_form form_kinds.Unit w atoms h = refl
  within_form _ w atoms h = h

  within_variant : (v : VariantEntry) → variant_below n v ≡ true → list_all (λ a. nat_lt a (count + n)) (variant_edges count v) ≡ true
  within_variant v h = within_form v.form (λ a. nat_lt a (count + n)) (node_atoms count (map (λ f. f.ty) v.fields.items)) (within_fields v.fields.items h)

  variants_within : (vs : List VariantEntry) → list_all (variant_below n) vs ≡ true → list_all (λ a. nat_lt a (count + n)) (variants_edges count vs) ≡ true
  variants_within [] h = refl
  variants_within (v ∷ vs) h =
      let halves = and_parts (variant_below n v) (list_all (variant_below n) vs) h in
      all_joined (λ a. nat_lt a (count + n)) (variant_edges count v) (variants_edges count vs) (within_variant v halves.0) (variants_within vs halves.1)
    where
      all_joined : (p : ℕ → Bool) (xs ys : List ℕ) → list_all p xs ≡ true → list_all p ys ≡ true → list_all p (xs ++ ys) ≡ true
      all_joined p [] ys f g = g
      all_joined p (x ∷ xs) ys f g = let parts = and_parts (p x) (list_all p xs) f in and_from (p x) (list_all p (xs ++ ys)) parts.0 (all_joined p xs ys parts.1 g)

  entry_edges_within : (e : Entry) → entry_below n e ≡ true → list_all (λ a. nat_lt a (count + n)) (entry_edges count e) ≡ true
  entry_edges_within (entry_kinds.Struct id v) h = within_variant v (and_parts (nat_lt id n) (variant_below n v) h).1
  entry_edges_within (entry_kinds.Enum id name later variants) h = variants_within variants.items (and_parts (nat_lt id n) (list_all (variant_below n) variants.items) h).1
  entry_edges_within _ h = refl

  node_edges_within : (h : Head) (parts : List ℕ) → are_below parts n ≡ true → list_all (λ a. nat_lt a (count + n)) (node_edges count h parts) ≡ true
  node_edges_within heads.Tuple parts below = within_parts parts below
  node_edges_within (heads.Array len) parts below = within_parts parts below
  node_edges_within (heads.Named (owners.Item i)) parts below = by (nat_lt i count) refl
    where
      by : (b : Bool) → nat_lt i count ≡ b → list_all (λ a. nat_lt a (count + n)) (cond b (i ∷ []) []) ≡ true
      by false e = refl
      by true e = let lt : i < count = ltb-true i count e in rw (lt-ltb i (count + n) (omega arith)) refl
  node_edges_within (heads.Named owners.Option) parts below = within_parts parts below
  node_edges_within (heads.Named owners.Result) parts below = within_parts parts below
  node_edges_within _ parts below = refl

mapped_all : {A : Type 0} (p : List ℕ → Bool) (f : A → List ℕ) (xs : List A) → ((i : ℕ) (x : A) → slice_get xs i ≡ Some x → p (f x) ≡ true) → list_all p (map f xs) ≡ true
mapped_all p f [] each = refl
mapped_all p f (x ∷ xs) each = and_from (p (f x)) (list_all p (map f xs)) (each 0 x refl) (mapped_all p f xs (λ i y at. each (suc i) y at))

lists_joined : (p : List ℕ → Bool) (xs ys : List (List ℕ)) → list_all p xs ≡ true → list_all p ys ≡ true → list_all p (xs ++ ys) ≡ true
lists_joined p [] ys f g = g
lists_joined p (x ∷ xs) ys f g = let parts = and_parts (p x) (list_all p xs) f in and_from (p x) (list_all p (xs ++ ys)) parts.0 (lists_joined p xs ys parts.1 g)

module _ (nodes : List Node) (entries : List Entry) (are : AreNodes nodes) (below : list_all (entry_below (length nodes)) entries ≡ true) where
  graph_within : list_all (list_all (λ a. nat_lt a (length entries + length nodes))) (map (entry_edges (length entries)) entries ++ map (edges_of (length entries)) nodes) ≡ true
  graph_within =
      lists_joined (list_all (λ a. nat_lt a (length entries + length nodes))) (map (entry_edges (length entries)) entries) (map (edges_of (length entries)) nodes)
      (mapped_all (list_all (λ a. nat_lt a (length entries + length nodes))) (entry_edges (length entries)) entries
      (λ i e at. entry_edges_within (length entries) (length nodes) e (all_at (entry_below (length nodes)) entries i e below at)))
      (mapped_all (list_all (λ a. nat_lt a (length entries + length nodes))) (edges_of (length entries)) nodes
      (λ i k at.
      let lt : i < length nodes = get_below nodes i k at in
      node_edges_within (length entries) (length nodes) k.head k.parts.items (below_more k.parts.items i (length nodes) (omega arith) (are i k at).0)))

  -- the graph has a node for each item and each node
  pub graph_count : (edges : List (Vec ℕ)) → plain_graph edges ≡ map (entry_edges (length entries)) entries ++ map (edges_of (length entries)) nodes →
      length edges ≡ length entries + length nodes
  graph_count edges e =
      let all : length (plain_graph edges) ≡ length (map (entry_edges (length entries)) entries ++ map (edges_of (length entries)) nodes) = ap length e in
      let own : length (plain_graph edges) ≡ length edges = length-map _ _ in
      let both_lists : length (map (entry_edges (length entries)) entries ++ map (edges_of (length entries)) nodes)
      ≡ length (map (entry_edges (length entries)) entries) + length (map (edges_of (length entries)) nodes) = length-append _ _ in
      let items : length (map (entry_edges (length entries)) entries) ≡ length entries = length-map _ _ in
      let others : length (map (edges_of (length entries)) nodes) ≡ length nodes = length-map _ _ in
      omega arith

  -- as the search for cycles asks it
  pub targets_within : (edges : List (Vec ℕ)) → plain_graph edges ≡ map (entry_edges (length entries)) entries ++ map (edges_of (length entries)) nodes →
      All (HasTargetsBelow (length edges)) edges
  targets_within edges e =
      All-from_recursion (HasTargetsBelow (length edges)) edges
      (go edges
      (ap (list_all (list_all (λ a. nat_lt a (length edges)))) e
      ∙ (ap (λ (m : ℕ). list_all (list_all (λ a. nat_lt a m)) (map (entry_edges (length entries)) entries ++ map (edges_of (length entries)) nodes)) (graph_count edges e) ∙ graph_within)))
    where
      one : (m : ℕ) (xs : List ℕ) → list_all (λ a. nat_lt a m) xs ≡ true → AllByRecursion (λ j. j < m) xs
      one m [] h = tt
      one m (x ∷ xs) h = let halves = and_parts (nat_lt x m) (list_all (λ a. nat_lt a m) xs) h in (ltb-true x m halves.0, one m xs halves.1)

      go : (ts : List (Vec ℕ)) → list_all (list_all (λ a. nat_lt a (length edges))) (plain_graph ts) ≡ true → AllByRecursion (HasTargetsBelow (length edges)) ts
      go [] h = tt
      go (t ∷ ts) h =
          let halves = and_parts (list_all (λ a. nat_lt a (length edges)) t.items) (list_all (list_all (λ a. nat_lt a (length edges))) (plain_graph ts)) h in
          (All-from_recursion (λ j. j < length edges) t.items (one (length edges) t.items halves.0), go ts halves.1)
