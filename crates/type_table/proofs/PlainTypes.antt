-- No type of a table has a type parameter, so the variants of a declared type are those that its item has.
use Rattle.std.proofs.Common.{◌≡◌, ℕ, ◌<◌, Bool, true, false, ◌&&◌, List, [], ◌∷◌, map, Option, Some, length, refl, ap, sym, subst, ◌∙◌, arith}
use Rattle.std.specs.Prelude.{slice_get, nat_eq}
use Rattle.std.specs.List.{list_all}
use Rattle.std.proofs.lemmas.Bool.{and_parts, and_from, eqb-true}
use Rattle.std.proofs.lemmas.List.{length-map}
use Rattle.match_model.specs.declared.Width.{Width}
use Rattle.match_model.specs.Types.{DeclaredItem, MType, MTypes, no_types, more_types, types_of, NamedType}
use Rattle.match_model.specs.Declarations.{MItem, MVariant, MProgram, variant_types, item_variants, item_types, node_types, variants_of}
use Rattle.match_model.proofs.Filled.{name_below, parameters_below, all_below, FieldsArePlain, plain_variants}
use Rattle.type_names.specs.declared.meanings.Opaque.{Opaque}
use Rattle.type_names.specs.declared.meanings.Opaque.TheVariants as opaques
use Rattle.type_names.specs.Views.{opaque_view}
use Rattle.type_table.specs.declared.nodes.Head.{Head}
use Rattle.type_table.specs.declared.nodes.Head.TheVariants as heads
use Rattle.type_table.specs.declared.nodes.Node.{Node}
use Rattle.type_table.specs.declared.entries.Entry.{Entry}
use Rattle.type_table.specs.declared.table.TypeTable.{TypeTable}
use Rattle.type_table.specs.Nodes.{AreNodes, types_in, type_at, node_type, head_type, fits_head}
use Rattle.type_table.specs.Entries.{entry_told, entry_below}
use Rattle.type_table.specs.Possible.{items_in, program_in}
use Rattle.type_table.specs.Tables.{table_program}
use Rattle.type_table.proofs.NodeLemmas.{map_has}
use Rattle.type_table.proofs.FieldLemmas.{base_cases}
use Rattle.type_table.proofs.TypeTests.{items_pass, types_pass}

more_plain : (t : MType) (ts : MTypes) → parameters_below 0 t ≡ true → all_below 0 ts ≡ true → all_below 0 (more_types t ts) ≡ true
more_plain t ts h k = and_from (parameters_below 0 t) (all_below 0 ts) h k

opaque_plain : (o : Opaque) (ts : MTypes) → all_below 0 ts ≡ true → name_below 0 (opaque_view o) ts (all_below 0 ts) ≡ true
opaque_plain opaques.Text ts h = h
opaque_plain opaques.F32 ts h = h
opaque_plain opaques.F64 ts h = h
opaque_plain opaques.Box ts h = h
opaque_plain opaques.Vec ts h = h
opaque_plain opaques.Rc ts h = h
opaque_plain opaques.Arc ts h = h

one_plain : (ps : List MType) → nat_eq (length ps) 1 ≡ true → all_below 0 (types_of ps) ≡ true → (t : MType) × (ps ≡ t ∷ []) × (parameters_below 0 t ≡ true)
one_plain [] fits h = let e : length none ≡ 1 = eqb-true (length none) 1 fits in absurd (omega arith)
  where
    none : List MType
    none = []
one_plain (t ∷ []) fits h = (t, refl, (and_parts (parameters_below 0 t) true h).0)
one_plain (t ∷ u ∷ ps) fits h = let e : length (t ∷ u ∷ ps) ≡ 1 = eqb-true (length (t ∷ u ∷ ps)) 1 fits in absurd (omega arith)

head_plain : (h : Head) (ps : List MType) → fits_head h (length ps) ≡ true → all_below 0 (types_of ps) ≡ true → parameters_below 0 (head_type h ps) ≡ true
head_plain (heads.Base b) ps fits s = base_cases (λ t. parameters_below 0 t ≡ true) refl refl refl refl (λ kind. refl) b
head_plain (heads.Opaque o) ps fits s = opaque_plain o (types_of ps) s
head_plain heads.Tuple ps fits s = s
head_plain (heads.Point mutable) ps fits s =
    let one = one_plain ps fits s in
    ap (λ (qs : List MType). parameters_below 0 (head_type (heads.Point mutable) qs)) one.1 ∙ one.2
head_plain heads.Slice ps fits s =
    let one = one_plain ps fits s in
    ap (λ (qs : List MType). parameters_below 0 (head_type heads.Slice qs)) one.1 ∙ one.2
head_plain (heads.Array n) ps fits s =
    let one = one_plain ps fits s in
    ap (λ (qs : List MType). parameters_below 0 (head_type (heads.Array n) qs)) one.1 ∙ one.2
head_plain (heads.Named o) ps fits s = s

node_plain : (nodes : List Node) → AreNodes nodes → (i : ℕ) (k : Node) → slice_get nodes i ≡ Some k →
    all_below 0 (types_of (map (type_at (types_in nodes)) k.parts.items)) ≡ true → parameters_below 0 (node_type (types_in nodes) k) ≡ true
node_plain nodes are i k at parts =
    let fits : fits_head k.head (length (map (type_at (types_in nodes)) k.parts.items)) ≡ true = ap (fits_head k.head) (rw length-map refl) ∙ (are i k at).1 in
    head_plain k.head (map (type_at (types_in nodes)) k.parts.items) fits parts

module _ (width : Width) (nodes : List Node) (entries : List Entry) (are : AreNodes nodes) (below : list_all (entry_below (length nodes)) entries ≡ true) where
  fields_plain : FieldsArePlain (program_in width nodes entries)
  fields_plain i k ts h =
      items_pass (parameters_below 0) (all_below 0) refl more_plain (types_in nodes) (length nodes)
      (types_pass (parameters_below 0) (all_below 0) refl more_plain nodes are (node_plain nodes are) (length nodes) (omega arith))
      entries below i k ts h

  -- the variants of a declared type are those of its item
  pub variants_in : (i : ℕ) (args : MTypes) → variants_of (program_in width nodes entries) (NamedType (DeclaredItem i) args) ≡ item_variants (slice_get (items_in nodes entries) i)
  variants_in i args = plain_variants (program_in width nodes entries) fields_plain i args

  -- what an entry declares
  pub item_in : (i : ℕ) (e : Entry) → slice_get entries i ≡ Some e → slice_get (items_in nodes entries) i ≡ Some (entry_told (types_in nodes) e).item
  item_in i e at = map_has (λ e. (entry_told (types_in nodes) e).item) entries i e at

  -- the field types of its types
  pub fields_in : (i : ℕ) (e : Entry) (args : MTypes) (k : ℕ) → slice_get entries i ≡ Some e →
      node_types (program_in width nodes entries) (NamedType (DeclaredItem i) args) k ≡ item_types (Some (entry_told (types_in nodes) e).item) k
  fields_in i e args k at =
      ap (λ (vs : List MVariant). variant_types (slice_get vs k)) (variants_in i args) ∙ ap (λ (o : Option MItem). item_types o k) (item_in i e at)

items_told : (nodes : List Node) (entries : List Entry) → items_in nodes entries ≡ map (λ x. x.item) (map (entry_told (types_in nodes)) entries)
items_told nodes [] = refl
items_told nodes (e ∷ es) = ap (λ (is : List MItem). (entry_told (types_in nodes) e).item ∷ is) (items_told nodes es)

module _ (t : TypeTable) where
  pub same_items : items_in t.nodes.keys t.items.items ≡ (table_program t).items
  same_items = items_told t.nodes.keys t.items.items

  pub same_program : program_in t.width t.nodes.keys t.items.items ≡ table_program t
  same_program = ap (λ (is : List MItem). with_items is) same_items
    where
      with_items : List MItem → MProgram
      with_items is = record { items = is; width = t.width }

  -- the same of a table
  pub table_variants : (i : ℕ) (args : MTypes) → variants_of (table_program t) (NamedType (DeclaredItem i) args) ≡ item_variants (slice_get (table_program t).items i)
  table_variants i args =
      subst (λ (p : MProgram). variants_of p (NamedType (DeclaredItem i) args) ≡ item_variants (slice_get p.items i)) same_program
      (variants_in t.width t.nodes.keys t.items.items t.whole.are t.whole.below i args)
