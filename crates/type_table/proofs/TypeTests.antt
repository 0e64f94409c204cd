-- A test that each node's type passes where its parts do is passed by each type of a table, and by the fields of the items.
use Rattle.std.proofs.Common.{◌≡◌, ⊎_elim, ℕ, ◌<◌, ◌≤◌, zero, suc, Bool, true, List, [], ◌∷◌, map, Some, length, ap, sym, ◌∙◌, arith}
use Rattle.std.specs.Prelude.{slice_get, nat_lt}
use Rattle.std.specs.List.{list_all}
use Rattle.std.proofs.lemmas.Bool.{ltb-true, and_parts, cases_lt}
use Rattle.match_model.specs.Types.{MType, MTypes, no_types, more_types, types_of}
use Rattle.match_model.specs.Declarations.{form_types, item_types, variant_types}
use Rattle.type_names.specs.declared.meanings.FormKind.{FormKind}
use Rattle.type_names.specs.declared.meanings.FormKind.TheVariants as form_kinds
use Rattle.type_table.specs.declared.nodes.Node.{Node}
use Rattle.type_table.specs.declared.entries.FieldEntry.{FieldEntry}
use Rattle.type_table.specs.declared.entries.VariantEntry.{VariantEntry}
use Rattle.type_table.specs.declared.entries.Entry.{Entry}
use Rattle.type_table.specs.declared.entries.Entry.TheVariants as entry_kinds
use Rattle.type_table.specs.Nodes.{AreNodes, types_in, type_at, type_there, node_type, are_below}
use Rattle.type_table.specs.Entries.{entry_told, variant_entry, field_entry, form_with, field_below, variant_below, entry_below}
use Rattle.type_table.proofs.NodeLemmas.{type_of_node, item_at}

-- the test of a type, and that of a list of types
module _ (one : MType → Bool) (all : MTypes → Bool) (none : all no_types ≡ true)
    (more : (t : MType) (ts : MTypes) → one t ≡ true → all ts ≡ true → all (more_types t ts) ≡ true) where
  module _ (types : List MType) (n : ℕ) (each : (a : ℕ) → a < n → one (type_at types a) ≡ true) where
    parts_pass : (parts : List ℕ) → are_below parts n ≡ true → all (types_of (map (type_at types) parts)) ≡ true
    parts_pass [] below = none
    parts_pass (p ∷ ps) below =
        let halves = and_parts (nat_lt p n) (are_below ps n) below in
        more (type_at types p) (types_of (map (type_at types) ps)) (each p (ltb-true p n halves.0)) (parts_pass ps halves.1)

    fields_pass : (fs : List FieldEntry) → list_all (field_below n) fs ≡ true → all (types_of (map (λ f. f.type) (map (field_entry types) fs))) ≡ true
    fields_pass [] below = none
    fields_pass (f ∷ fs) below =
        let halves = and_parts (nat_lt f.ty n) (list_all (field_below n) fs) below in
        more (type_at types f.ty) (types_of (map (λ f. f.type) (map (field_entry types) fs))) (each f.ty (ltb-true f.ty n halves.0)) (fields_pass fs halves.1)

    form_pass : (k : FormKind) (fs : List FieldEntry) → list_all (field_below n) fs ≡ true → all (form_types (form_with k (map (field_entry types) fs))) ≡ true
    form_pass form_kinds.Unit fs below = none
    form_pass _ fs below = fields_pass fs below

    variants_pass : (vs : List VariantEntry) → list_all (variant_below n) vs ≡ true →
        (k : ℕ) (ts : MTypes) → variant_types (slice_get (map (variant_entry types) vs) k) ≡ Some ts → all ts ≡ true
    variants_pass [] below k ts e = cc
    variants_pass (v ∷ vs) below zero ts e =
        let halves = and_parts (variant_below n v) (list_all (variant_below n) vs) below in
        let same : form_types (variant_entry types v).form ≡ ts = cc in
        ap all (sym same) ∙ form_pass v.form v.fields.items halves.0
    variants_pass (v ∷ vs) below (suc k) ts e = variants_pass vs (and_parts (variant_below n v) (list_all (variant_below n) vs) below).1 k ts e

    entry_pass : (e : Entry) → entry_below n e ≡ true → (k : ℕ) (ts : MTypes) → item_types (Some (entry_told types e).item) k ≡ Some ts → all ts ≡ true
    entry_pass (entry_kinds.Struct id v) below zero ts h =
        let halves = and_parts (nat_lt id n) (variant_below n v) below in
        let same : form_types (variant_entry types v).form ≡ ts = cc in
        ap all (sym same) ∙ form_pass v.form v.fields.items halves.1
    entry_pass (entry_kinds.Enum id name later variants) below k ts h =
        variants_pass variants.items (and_parts (nat_lt id n) (list_all (variant_below n) variants.items) below).1 k ts h
    entry_pass _ below _ ts h = cc

    -- the types of fields pass
    pub items_pass : (es : List Entry) → list_all (entry_below n) es ≡ true →
        (i k : ℕ) (ts : MTypes) → item_types (slice_get (map (λ e. (entry_told types e).item) es) i) k ≡ Some ts → all ts ≡ true
    items_pass [] below i k ts h = cc
    items_pass (e ∷ es) below zero k ts h = entry_pass e (and_parts (entry_below n e) (list_all (entry_below n) es) below).0 k ts h
    items_pass (e ∷ es) below (suc i) k ts h = items_pass es (and_parts (entry_below n e) (list_all (entry_below n) es) below).1 i k ts h

  module _ (nodes : List Node) (are : AreNodes nodes)
      (head : (i : ℕ) (k : Node) → slice_get nodes i ≡ Some k → all (types_of (map (type_at (types_in nodes)) k.parts.items)) ≡ true → one (node_type (types_in nodes) k) ≡ true) where
    -- the types of nodes pass
    pub types_pass : (n : ℕ) → n ≤ length nodes → (a : ℕ) → a < n → one (type_at (types_in nodes) a) ≡ true
    types_pass zero le a lt = absurd (omega arith)
    types_pass (suc n) le a lt =
        ⊎_elim
        (λ low. types_pass n (omega arith) a low)
        (λ high. let top : a ≡ n = omega arith in ap (λ (m : ℕ). one (type_at (types_in nodes) m)) top ∙ here (types_pass n (omega arith)))
        (cases_lt a n)
      where
        node : (k : Node) × (slice_get nodes n ≡ Some k)
        node = item_at nodes n (omega arith)

        here : ((b : ℕ) → b < n → one (type_at (types_in nodes) b) ≡ true) → one (type_at (types_in nodes) n) ≡ true
        here before =
            let type : type_at (types_in nodes) n ≡ node_type (types_in nodes) node.0 = ap type_there (type_of_node nodes n node.0 are node.1) in
            ap one type ∙ head n node.0 node.1 (parts_pass (types_in nodes) n before node.0.parts.items (are n node.0 node.1).0)
