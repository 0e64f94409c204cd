-- What the clauses derive has a value.
use Rattle.std.proofs.Common.{◌≡◌, ℕ, ◌+◌, ◌<◌, ◌≤◌, zero, suc, pos, Bool, true, false, not, cond, List, [], ◌∷◌, ◌++◌, map, length, Option, Some, None, refl, ap, sym, subst, ◌∙◌, arith, get_or}
use Rattle.std.specs.Prelude.{slice_get, nat_lt, nat_eq}
use Rattle.std.specs.List.{All, AllByRecursion, list_all}
use Rattle.std.specs.Rc.{rc_str_bytes}
use Rattle.std.proofs.lemmas.Bool.{ltb-true, eqb-true, and_parts}
use Rattle.std.proofs.lemmas.List.{length-map}
use Rattle.std.proofs.lemmas.List.Elements.{All-from_recursion, All-contains}
use Rattle.match_model.specs.declared.Width.{Width}
use Rattle.match_model.specs.declared.IntKind.{IntKind}
use Rattle.match_model.specs.declared.IntKind.TheVariants as ints
use Rattle.match_model.specs.Types.{DeclaredItem, OptionOwner, ResultOwner, MType, NeverType, IntType, TupleType, PointType, ArrayType, NamedType, MTypes, no_types, more_types, types_of}
use Rattle.match_model.specs.Declarations.{MVariant, MItem, EnumItem, MProgram, form_types, variant_types, item_types, item_variants, item_is_marked, item_is_bare, node_types}
use Rattle.match_model.specs.Values.{MValue, Flag, Num, Text, Node, Row, Thing, Later, Unseen, MValues, no_values, more_values}
use Rattle.match_model.specs.Typing.{is_value, are_values}
use Rattle.match_model.proofs.Basics.{and_true}
use Rattle.match_model.proofs.Inhabited.{Found, AllFound, zero_is, point_found, array_found, tuple_found, more_found}
use Rattle.horn_clauses.specs.declared.clause.Clause.{Clause}
use Rattle.horn_clauses.specs.Derivations.{Derives}
use Rattle.horn_clauses.proofs.Models.{derived_holds}
use Rattle.type_names.specs.declared.meanings.Base.{Base}
use Rattle.type_names.specs.declared.meanings.Base.TheVariants as bases
use Rattle.type_names.specs.declared.meanings.Owner.TheVariants as owners
use Rattle.type_names.specs.declared.meanings.FormKind.{FormKind}
use Rattle.type_names.specs.declared.meanings.FormKind.TheVariants as form_kinds
use Rattle.type_names.specs.Views.{base_view}
use Rattle.type_table.specs.declared.nodes.Head.{Head}
use Rattle.type_table.specs.declared.nodes.Head.TheVariants as heads
use Rattle.type_table.specs.declared.nodes.Node as declared_node
use Rattle.type_table.specs.declared.entries.FieldEntry.{FieldEntry}
use Rattle.type_table.specs.declared.entries.VariantEntry.{VariantEntry}
use Rattle.type_table.specs.declared.entries.Entry.{Entry}
use Rattle.type_table.specs.declared.entries.Entry.TheVariants as entry_kinds
use Rattle.type_table.specs.Nodes.{AreNodes, types_in, type_at, type_there, head_type, first_type, fits_head, are_below}
use Rattle.type_table.specs.Entries.{entry_told, variant_entry, field_entry, form_with, entry_below}
use Rattle.type_table.specs.Bodies.{each_alone, outright, unseen_bodies, base_bodies, point_bodies, array_bodies, form_atoms, variant_body, least_asking, enum_bodies, entry_bodies, item_bodies, node_bodies, bodies_of, said_from, clause_pair}
use Rattle.type_table.specs.Possible.{program_in, AreFinite}
use Rattle.type_table.proofs.NodeLemmas.{type_of_node, get_below, count_types, map_has}
use Rattle.type_table.proofs.PlainTypes.{item_in, fields_in}
use Rattle.type_table.proofs.ByValue.{mapped}
use Rattle.type_table.proofs.BodyLists.{Among, no_among, alone, from_all, pairs_all, least_among, below_more}

-- the field types of a form, by the numbers of their nodes
pub fields_are : (types : List MType) (fs : List FieldEntry) → map (λ f. f.type) (map (field_entry types) fs) ≡ map (type_at types) (map (λ f. f.ty) fs)
fields_are types [] = refl
fields_are types (f ∷ fs) = ap (λ (ts : List MType). type_at types f.ty ∷ ts) (fields_are types fs)

pub variant_fields : (types : List MType) (v : VariantEntry) → form_types (variant_entry types v).form ≡ types_of (map (type_at types) (variant_body v))
variant_fields types v = by v.form
  where
    by : (k : FormKind) → form_types (form_with k (map (field_entry types) v.fields.items)) ≡ types_of (map (type_at types) (form_atoms k (map (λ f. f.ty) v.fields.items)))
    by form_kinds.Unit = refl
    by _ = ap types_of (fields_are types v.fields.items)

-- the only part
pub one_part : (parts : List ℕ) → nat_eq (length parts) 1 ≡ true → (p : ℕ) × (parts ≡ p ∷ [])
one_part [] e = let f : length none ≡ 1 = eqb-true (length none) 1 e in absurd (omega arith)
  where
    none : List ℕ
    none = []
one_part (p ∷ []) e = (p, refl)
one_part (p ∷ q ∷ ps) e = let f : length (p ∷ q ∷ ps) ≡ 1 = eqb-true (length (p ∷ q ∷ ps)) 1 e in absurd (omega arith)

-- a value by the variant with this number
node_value : (program : MProgram) (sure : Bool) (t : MType) (k : ℕ) (ts : MTypes) → node_types program t k ≡ Some ts → AllFound program sure ts → Found program sure t
node_value program sure t k ts e (vs, h) = (Node k vs, by (node_types program t k) e)
  where
    by : (o : Option MTypes) → o ≡ Some ts → (elim o [ None ↦ false | Some us ↦ are_values program sure us vs ]) ≡ true
    by o e = rw e h

module _ (width : Width) (sure : Bool) (nodes : List declared_node.Node) (entries : List Entry) (are : AreNodes nodes) (below : list_all (entry_below (length nodes)) entries ≡ true)
    (finite : sure ≡ true → AreFinite (program_in width nodes entries) (types_in nodes)) where
  abbrev program : MProgram
  program = program_in width nodes entries

  abbrev types : List MType
  types = types_in nodes

  -- the types of these nodes have values
  abbrev Each : List ℕ → Type 0
  Each b = (k : ℕ) → k < length b → Found program sure (type_at types (get_or b k 0))

  parts_found : (b : List ℕ) → Each b → AllFound program sure (types_of (map (type_at types) b))
  parts_found [] each = (no_values, refl)
  parts_found (p ∷ ps) each =
      more_found program sure (type_at types p) (types_of (map (type_at types) ps)) (each 0 (omega arith)) (parts_found ps (λ k lt. each (suc k) (omega (arith, lt))))

  never_found : (s : Bool) (b : List ℕ) → Among b (unseen_bodies s) → Found program s NeverType
  never_found true b among = no_among b among
  never_found false b among = (Unseen, refl)

  number_found : (kind : IntKind) → Found program sure (IntType kind)
  number_found kind = (Num (pos 0), zero_is width kind)

  base_found : (base : Base) (b : List ℕ) → Among b (base_bodies sure base) → Found program sure (base_view base)
  base_found bases.Never b among = never_found sure b among
  base_found bases.Bool b among = (Flag true, refl)
  base_found bases.Char b among = (Num (pos 0), refl)
  base_found bases.Str b among = (Text [], refl)
  base_found bases.U8 b among = number_found ints.U8
  base_found bases.U16 b among = number_found ints.U16
  base_found bases.U32 b among = number_found ints.U32
  base_found bases.U64 b among = number_found ints.U64
  base_found bases.U128 b among = number_found ints.U128
  base_found bases.USize b among = number_found ints.USize
  base_found bases.I8 b among = number_found ints.I8
  base_found bases.I16 b among = number_found ints.I16
  base_found bases.I32 b among = number_found ints.I32
  base_found bases.I64 b among = number_found ints.I64
  base_found bases.I128 b among = number_found ints.I128
  base_found bases.ISize b among = number_found ints.ISize

  -- what is behind a reference has a value at an unsure place
  behind_found : (s : Bool) → sure ≡ s → (p : ℕ) → p < length nodes → (b : List ℕ) → Among b (point_bodies s (p ∷ [])) → Each b → Found program false (type_at types p)
  behind_found true e p lt b among each =
      let many : length types ≡ length nodes = count_types nodes [] ∙ omega arith in
      finite e p (omega (arith, many, lt))
  behind_found false e p lt b among each =
      let one : Each (p ∷ []) = subst Each (sym (alone (p ∷ []) b among)) each in
      subst (λ (s : Bool). Found program s (type_at types p)) e (one 0 (omega arith))

  array_there : (n : ℕ) (c : Bool) → nat_eq n 0 ≡ c → (p : ℕ) (b : List ℕ) → Among b (cond c outright ((p ∷ []) ∷ [])) → Each b → Found program sure (ArrayType (type_at types p) n)
  array_there n true e p b among each = subst (λ (m : ℕ). Found program sure (ArrayType (type_at types p) m)) (sym (eqb-true n 0 e)) (Row no_values, refl)
  array_there n false e p b among each =
      let one : Each (p ∷ []) = subst Each (sym (alone (p ∷ []) b among)) each in
      let value = one 0 (omega arith) in
      array_found program sure (type_at types p) n value.0 value.1

  variant_found : (i : ℕ) (e : Entry) (args : MTypes) (k : ℕ) (v : VariantEntry) → slice_get entries i ≡ Some e →
      item_types (Some (entry_told types e).item) k ≡ Some (form_types (variant_entry types v).form) → Each (variant_body v) → Found program sure (NamedType (DeclaredItem i) args)
  variant_found i e args k v at is each =
      node_value program sure (NamedType (DeclaredItem i) args) k (types_of (map (type_at types) (variant_body v)))
      (fields_in width nodes entries are below i e args k at ∙ (is ∙ ap Some (variant_fields types v))) (parts_found (variant_body v) each)

  later_found : (i : ℕ) (e : Entry) (args : MTypes) → slice_get entries i ≡ Some e → item_is_marked (Some (entry_told types e).item) ≡ true → Found program sure (NamedType (DeclaredItem i) args)
  later_found i e args at h = (Later, ap item_is_marked (item_in width nodes entries are below i e at) ∙ h)

  bare_found : (i : ℕ) (e : Entry) (args : MTypes) → sure ≡ false → slice_get entries i ≡ Some e → item_is_bare (Some (entry_told types e).item) ≡ true → Found program sure (NamedType (DeclaredItem i) args)
  bare_found i e args unsure at h = (Unseen, and_true (not sure) (item_is_bare (slice_get program.items i)) (ap not unsure) (ap item_is_bare (item_in width nodes entries are below i e at) ∙ h))

  -- one of the variants whose bodies are asked
  some_found : (i : ℕ) (e : Entry) (args : MTypes) (vs : List VariantEntry) → slice_get entries i ≡ Some e → item_variants (Some (entry_told types e).item) ≡ map (variant_entry types) vs →
      (b : List ℕ) → Among b (least_asking (map variant_body vs)) → Each b → Found program sure (NamedType (DeclaredItem i) args)
  some_found i e args vs at told b among each =
      let there = least_among (map variant_body vs) b among in
      let m = mapped variant_body vs there.0 b there.1 in
      let is : item_types (Some (entry_told types e).item) there.0 ≡ Some (form_types (variant_entry types m.0).form) =
      ap (λ (ws : List MVariant). variant_types (slice_get ws there.0)) told ∙ ap variant_types (map_has (variant_entry types) vs there.0 m.0 m.1) in
      variant_found i e args there.0 m.0 at is (subst Each (sym m.2) each)

  enum_found : (s : Bool) → sure ≡ s → (i : ℕ) (e : Entry) (args : MTypes) (later : Bool) (vs : List VariantEntry) → slice_get entries i ≡ Some e →
      item_variants (Some (entry_told types e).item) ≡ map (variant_entry types) vs → item_is_marked (Some (entry_told types e).item) ≡ later →
      (vs ≡ [] → later ≡ false → item_is_bare (Some (entry_told types e).item) ≡ true) →
      (b : List ℕ) → Among b (enum_bodies s later (map variant_body vs)) → Each b → Found program sure (NamedType (DeclaredItem i) args)
  enum_found s is i e args true vs at told marked bare b among each = later_found i e args at marked
  enum_found true is i e args false vs at told marked bare b among each = some_found i e args vs at told b among each
  enum_found false is i e args false [] at told marked bare b among each = bare_found i e args is at (bare refl refl)
  enum_found false is i e args false (v ∷ vs) at told marked bare b among each = some_found i e args (v ∷ vs) at told b among each

  entry_found : (i : ℕ) (e : Entry) (args : MTypes) → slice_get entries i ≡ Some e → (b : List ℕ) → Among b (entry_bodies sure e) → Each b → Found program sure (NamedType (DeclaredItem i) args)
  entry_found i (entry_kinds.Struct id v) args at b among each =
      variant_found i (entry_kinds.Struct id v) args 0 v at refl (subst Each (sym (alone (variant_body v) b among)) each)
  entry_found i (entry_kinds.Enum id name later variants) args at b among each =
      enum_found sure refl i (entry_kinds.Enum id name later variants) args later variants.items at refl refl bare b among each
    where
      bare : variants.items ≡ [] → later ≡ false → item_is_bare (Some (entry_told types (entry_kinds.Enum id name later variants)).item) ≡ true
      bare is unmarked =
          ap (λ (vs : List VariantEntry). item_is_bare (Some (EnumItem (rc_str_bytes name) later (map (variant_entry types) vs)))) is
          ∙ ap (λ (m : Bool). item_is_bare (Some (EnumItem (rc_str_bytes name) m []))) unmarked
  entry_found i (entry_kinds.Function param deref) args at b among each = no_among b among
  entry_found i entry_kinds.Import args at b among each = no_among b among

  item_found : (i : ℕ) (args : MTypes) (o : Option Entry) → slice_get entries i ≡ o → (b : List ℕ) → Among b (item_bodies sure o) → Each b → Found program sure (NamedType (DeclaredItem i) args)
  item_found i args None at b among each = no_among b among
  item_found i args (Some e) at b among each = entry_found i e args at b among each

  result_found : (parts : List ℕ) → nat_eq (length parts) 2 ≡ true → (b : List ℕ) → Among b (each_alone parts) → Each b → Found program sure (NamedType ResultOwner (types_of (map (type_at types) parts)))
  result_found [] fits b among each = no_among b among
  result_found (p ∷ []) fits b among each = let e : length (p ∷ []) ≡ 2 = eqb-true (length (p ∷ [])) 2 fits in absurd (omega arith)
  result_found (p ∷ q ∷ []) fits b (zero, at) each =
      let same : p ∷ [] ≡ b = cc in
      let value = (subst Each (sym same) each) 0 (omega arith) in
      (Node 0 (more_values value.0 no_values), and_true _ true value.1 refl)
  result_found (p ∷ q ∷ []) fits b (suc zero, at) each =
      let same : q ∷ [] ≡ b = cc in
      let value = (subst Each (sym same) each) 0 (omega arith) in
      (Node 1 (more_values value.0 no_values), and_true _ true value.1 refl)
  result_found (p ∷ q ∷ []) fits b (suc (suc k), at) each = let e : None ≡ Some b = at in absurd cc
  result_found (p ∷ q ∷ r ∷ ps) fits b among each = let e : length (p ∷ q ∷ r ∷ ps) ≡ 2 = eqb-true (length (p ∷ q ∷ r ∷ ps)) 2 fits in absurd (omega arith)

  -- where the types of all atoms of one of a node's bodies have values, so has its own
  head_found : (h : Head) (parts : List ℕ) → fits_head h (length parts) ≡ true → are_below parts (length nodes) ≡ true → (b : List ℕ) → Among b (node_bodies sure entries h parts) → Each b →
      Found program sure (head_type h (map (type_at types) parts))
  head_found (heads.Base base) parts fits within b among each = base_found base b among
  head_found (heads.Opaque o) parts fits within b among each = (Thing, refl)
  head_found heads.Tuple parts fits within b among each =
      tuple_found program sure (types_of (map (type_at types) parts)) (parts_found parts (subst Each (sym (alone parts b among)) each))
  head_found (heads.Point mutable) parts fits within b among each =
      let one = one_part parts fits in
      let low : nat_lt one.0 (length nodes) ≡ true = (and_parts (nat_lt one.0 (length nodes)) true (ap (λ (ps : List ℕ). are_below ps (length nodes)) (sym one.1) ∙ within)).0 in
      subst (λ (ps : List ℕ). Found program sure (head_type (heads.Point mutable) (map (type_at types) ps))) (sym one.1)
      (point_found program sure mutable (type_at types one.0)
      (behind_found sure refl one.0 (ltb-true one.0 (length nodes) low) b (subst (λ (ps : List ℕ). Among b (point_bodies sure ps)) one.1 among) each))
  head_found heads.Slice parts fits within b among each = (Row no_values, refl)
  head_found (heads.Array n) parts fits within b among each =
      let one = one_part parts fits in
      subst (λ (ps : List ℕ). Found program sure (head_type (heads.Array n) (map (type_at types) ps))) (sym one.1)
      (array_there n (nat_eq n 0) refl one.0 b (subst (λ (ps : List ℕ). Among b (array_bodies n ps)) one.1 among) each)
  head_found (heads.Named (owners.Item i)) parts fits within b among each = item_found i (types_of (map (type_at types) parts)) (slice_get entries i) refl b among each
  head_found (heads.Named owners.Option) parts fits within b among each = (Node 0 no_values, refl)
  head_found (heads.Named owners.Result) parts fits within b among each = result_found parts fits b among each

  -- the head of the clause has a value where its atoms have
  abbrev Step : ℕ × List ℕ → Type 0
  Step p = Each p.1 → Found program sure (type_at types p.0)

  node_step : (n : ℕ) (k : declared_node.Node) (b : List ℕ) → slice_get nodes n ≡ Some k → Among b (bodies_of sure entries k) → Step (0 + n, b)
  node_step n k b at among each =
      let lt : n < length nodes = get_below nodes n k at in
      let none : n ≡ 0 + n = omega arith in
      let type : type_at types n ≡ head_type k.head (map (type_at types) k.parts.items) = ap type_there (type_of_node nodes n k are at) in
      let value = head_found k.head k.parts.items (are n k at).1 (below_more k.parts.items n (length nodes) (omega arith) (are n k at).0) b among each in
      subst (λ (m : ℕ). Found program sure (type_at types m)) none (subst (λ (t : MType). Found program sure t) (sym type) value)

  -- what can be derived has a value
  pub derived_found : (clauses : List Clause) → map clause_pair clauses ≡ said_from (bodies_of sure entries) 0 nodes → (a : ℕ) → Derives clauses a → Found program sure (type_at types a)
  derived_found clauses e a d =
      derived_holds clauses (λ n. Found program sure (type_at types n))
      (λ c listed parts. All-contains (λ (x : Clause). Step (clause_pair x)) clauses c steps listed parts) d
    where
      steps : All (λ c. Step (clause_pair c)) clauses
      steps = All-from_recursion (λ c. Step (clause_pair c)) clauses (pairs_all Step clauses (subst (AllByRecursion Step) (sym e) (from_all Step (bodies_of sure entries) 0 nodes node_step)))
