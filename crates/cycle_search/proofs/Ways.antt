-- Edges and ways.
use Rattle.std.proofs.Common.{◌≡◌, ℕ, ◌<◌, ◌≤◌, ◌⊎◌, List, [], length, get_or, sym, ap, subst, ◌∙◌, arith, ⊎_elim}
use Rattle.std.specs.Global.{Vec}
use Rattle.std.specs.List.{All, Contains}
use Rattle.std.proofs.lemmas.List.{get_or-map, get_or_past}
use Rattle.std.proofs.lemmas.List.Elements.{All-contains, Contains-get_or}
use Rattle.cycle_search.specs.Graphs.{plain_graph, IsEdge, Reaches, by_edge, by_way}
use Rattle.cycle_search.specs.Laws.{WaysAreJoined}

pub joined : WaysAreJoined
joined graph from over to (by_edge e) r = by_way e r
joined graph from over to (by_way e s) r = by_way e (joined graph _ over to s r)

-- a way to a node that is the start or reached from it goes on by an edge
pub goes_on : (graph : List (List ℕ)) (start from to : ℕ) → (from ≡ start) ⊎ Reaches graph start from → IsEdge graph from to → Reaches graph start to
goes_on graph start from to known e =
    ⊎_elim (λ same. by_edge (subst (λ x. IsEdge graph x to) same e)) (λ r. joined graph start from to r (by_edge e)) known

-- what the graph has for a node
pub targets_are : (edges : List (Vec ℕ)) (i : ℕ) (targets : Vec ℕ) → i < length edges → targets ≡ get_or edges i targets →
    get_or (plain_graph edges) i [] ≡ targets.items
targets_are edges i targets within is =
    get_or-map (λ (t : Vec ℕ). t.items) edges i targets [] within ∙ ap (λ (t : Vec ℕ). t.items) (sym is)

-- each place of a node's list is an edge
pub edge_at : (edges : List (Vec ℕ)) (i : ℕ) (targets : Vec ℕ) (items : List ℕ) → i < length edges → targets ≡ get_or edges i targets → items ≡ targets.items →
    (k : ℕ) → k < length items → IsEdge (plain_graph edges) i (get_or items k 0)
edge_at edges i targets items within is same k l =
    subst (λ (xs : List ℕ). Contains xs (get_or items k 0)) (same ∙ sym (targets_are edges i targets within is)) (Contains-get_or items k 0 l)

-- a node that is not there has no edge
pub no_edge_past : (graph : List (List ℕ)) (i j : ℕ) → length graph ≤ i → IsEdge graph i j → ⊥
no_edge_past graph i j past e =
    let f : Contains {X = ℕ} [] j = subst (λ (xs : List ℕ). Contains xs j) (get_or_past graph i [] past) e in
    let l : f.0 < length {A = ℕ} [] = f.1 in absurd (omega arith)

pub no_way_past : (graph : List (List ℕ)) (i j : ℕ) → length graph ≤ i → Reaches graph i j → ⊥
no_way_past graph i j past (by_edge e) = no_edge_past graph i _ past e
no_way_past graph i j past (by_way e r) = no_edge_past graph i _ past e

-- what holds of all nodes in a node's list holds of the end of each of its edges
pub edge_in : (edges : List (Vec ℕ)) (i : ℕ) (targets : Vec ℕ) (items : List ℕ) → i < length edges → targets ≡ get_or edges i targets → items ≡ targets.items →
    (P : ℕ → Type 0) → All P items → (to : ℕ) → IsEdge (plain_graph edges) i to → P to
edge_in edges i targets items within is same P all to e =
    All-contains P items to all (subst (λ (xs : List ℕ). Contains xs to) (targets_are edges i targets within is ∙ sym same) e)
