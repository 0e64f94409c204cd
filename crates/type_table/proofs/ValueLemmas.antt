-- The least model of the clauses tells which types have values.
use Rattle.std.proofs.Common.{◌≡◌, ℕ, ◌+◌, ◌<◌, ◌≤◌, Bool, true, false, List, [], ◌∷◌, map, length, Some, refl, sym, ap, subst, ◌∙◌, arith, get_or}
use Rattle.std.specs.Prelude.{slice_get, nat_lt}
use Rattle.std.specs.List.{All, AllByRecursion, Contains, list_all}
use Rattle.std.proofs.lemmas.Bool.{ltb-true, and_parts, both_ways, false_from_ne_true}
use Rattle.std.proofs.lemmas.List.Elements.{All-from_recursion, recursion_from_All, All-contains_itself}
use Rattle.match_model.specs.Types.{MType}
use Rattle.match_model.specs.Typing.{is_value}
use Rattle.horn_clauses.specs.declared.clause.Clause.{Clause}
use Rattle.horn_clauses.specs.Derivations.{IsLeastModel}
use Rattle.horn_clauses.specs.Marks.{IsWithin, IsHeld, HoldsThroughout}
use Rattle.horn_clauses.proofs.Models.{derived_closed}
use Rattle.type_table.specs.declared.nodes.Node.{Node}
use Rattle.type_table.specs.declared.entries.Entry.{Entry}
use Rattle.type_table.specs.Nodes.{AreNodes, types_in, type_at, are_below}
use Rattle.type_table.specs.Entries.{entry_below}
use Rattle.type_table.specs.Bodies.{bodies_of, said_from, clause_pair}
use Rattle.type_table.specs.Possible.{program_in, TellsValues}
use Rattle.type_table.proofs.NodeLemmas.{get_below}
use Rattle.type_table.proofs.BodyLists.{Among, some_body, among_all, from_all, pairs_all, follows, from_follows, node_within, below_more}
use Rattle.type_table.proofs.ValuesFound.{derived_found}
use Rattle.type_table.proofs.ValuesHeld.{value_held}

-- marks on atoms as a test
abbrev held : List Bool → ℕ → Bool
held marks a = get_or marks a false

all_held : (marks : List Bool) (b : List ℕ) → list_all (held marks) b ≡ true → HoldsThroughout marks b
all_held marks b h = All-from_recursion (IsHeld marks) b (go b h)
  where
    go : (rest : List ℕ) → list_all (held marks) rest ≡ true → AllByRecursion (IsHeld marks) rest
    go [] k = tt
    go (a ∷ rest) k = let halves = and_parts (held marks a) (list_all (held marks) rest) k in (halves.0, go rest halves.1)

module _ (sure : Bool) (nodes : List Node) (entries : List Entry) (are : AreNodes nodes) (below : list_all (entry_below (length nodes)) entries ≡ true) where
  abbrev pairs : List (ℕ × List ℕ)
  pairs = said_from (bodies_of sure entries) 0 nodes

  -- the atoms of a pair are nodes
  abbrev Inside : ℕ × List ℕ → Type 0
  Inside p = (p.0 < length nodes) × (are_below p.1 (length nodes) ≡ true)

  pair_inside : (n : ℕ) (k : Node) (b : List ℕ) → slice_get nodes n ≡ Some k → Among b (bodies_of sure entries k) → Inside (0 + n, b)
  pair_inside n k b at among =
      let lt : n < length nodes = get_below nodes n k at in (
        omega arith,
        among_all (λ c. are_below c (length nodes)) (bodies_of sure entries k) among.0 b among.1
            (node_within sure (length nodes) entries k.head k.parts.items below (below_more k.parts.items n (length nodes) (omega arith) (are n k at).0)),
      )

  pub clauses_within : (clauses : List Clause) → map clause_pair clauses ≡ said_from (bodies_of sure entries) 0 nodes → All (IsWithin (length nodes)) clauses
  clauses_within clauses e =
      All-from_recursion (IsWithin (length nodes)) clauses
      (go clauses (pairs_all Inside clauses (subst (AllByRecursion Inside) (sym e) (from_all Inside (bodies_of sure entries) 0 nodes pair_inside))))
    where
      body : (b : List ℕ) → are_below b (length nodes) ≡ true → AllByRecursion (λ a. a < length nodes) b
      body [] h = tt
      body (a ∷ b) h = let halves = and_parts (nat_lt a (length nodes)) (are_below b (length nodes)) h in (ltb-true a (length nodes) halves.0, body b halves.1)

      go : (cs : List Clause) → AllByRecursion (λ c. Inside (clause_pair c)) cs → AllByRecursion (IsWithin (length nodes)) cs
      go [] h = tt
      go (c ∷ cs) h = (record { head = h.0.0; body = All-from_recursion (λ a. a < length nodes) c.body.items (body c.body.items h.0.1) }, go cs h.1)

  module _ (clauses : List Clause) (e : map clause_pair clauses ≡ said_from (bodies_of sure entries) 0 nodes) (marks : List Bool) (model : IsLeastModel (length nodes) clauses marks) where
    one_follows : (c : Clause) → Contains clauses c → follows (held marks) (clause_pair c)
    one_follows c listed h =
        let body : HoldsThroughout marks c.body.items = all_held marks c.body.items h in
        model.complete c.head (derived_closed clauses c listed (λ k d l. model.sound (get_or c.body.items k d) (body k d l)))

    all_follow : AllByRecursion (follows (held marks)) pairs
    all_follow =
        let each : All (λ c. follows (held marks) (clause_pair c)) clauses = λ k d l. one_follows (get_or clauses k d) (All-contains_itself clauses k d l) in
        subst (AllByRecursion (follows (held marks))) e (go clauses (recursion_from_All (λ c. follows (held marks) (clause_pair c)) clauses each))
      where
        go : (cs : List Clause) → AllByRecursion (λ c. follows (held marks) (clause_pair c)) cs → AllByRecursion (follows (held marks)) (map clause_pair cs)
        go [] h = tt
        go (c ∷ cs) h = (h.0, go cs h.1)

    closed : (n : ℕ) (k : Node) → slice_get nodes n ≡ Some k → some_body (held marks) (bodies_of sure entries k) ≡ true → held marks n ≡ true
    closed n k at some =
        let none : 0 + n ≡ n = omega arith in
        ap (held marks) (sym none) ∙ from_follows (held marks) (bodies_of sure entries) 0 nodes all_follow n k at some

    pub tells_values : TellsValues sure nodes entries marks
    tells_values = record {
      len = model.len;
      complete = λ width n v lt h. value_held width sure nodes entries are below (held marks) closed v n lt h;
      sound = λ width finite n none. false_from_ne_true (held marks n)
          (λ h.
          let value = derived_found width sure nodes entries are below finite clauses e n (model.sound n h) in
          both_ways (is_value (program_in width nodes entries) sure (type_at (types_in nodes) n) value.0) (none value.0) value.1);
    }
