-- The types of the numbers of parts are the types of the parts.
use Rattle.std.proofs.Common.{◌≡◌, ℕ, ◌<◌, ◌≤◌, true, List, [], ◌∷◌, map, length, Option, Some, None, refl, sym, ap, ◌∙◌, suc, zero, subst, arith}
use Rattle.std.specs.Prelude.{slice_get, nat_lt, option_map, unwrap_or}
use Rattle.std.specs.List.{list_all}
use Rattle.std.proofs.lemmas.Bool.{ltb-true, and_parts, eqb-true}
use Rattle.std.proofs.lemmas.Option.{slice_get_past}
use Rattle.match_model.specs.Types.{MType, MTypes, NeverType, DeclaredItem, NamedType, types_of}
use Rattle.match_model.specs.Declarations.{MItem, MVariant, node_types, variant_types, item_variants}
use Rattle.match_model.specs.RustTypes.{type_or, part_type, inner_type}
use Rattle.type_names.specs.declared.meanings.Owner.TheVariants as owners
use Rattle.type_names.proofs.Variants.{get_map}
use Rattle.type_names.specs.declared.meanings.FormKind.{FormKind}
use Rattle.type_names.specs.declared.meanings.FormKind.TheVariants as form_kinds
use Rattle.type_table.specs.declared.entries.FieldEntry.{FieldEntry}
use Rattle.type_table.specs.declared.entries.VariantEntry.{VariantEntry}
use Rattle.type_table.specs.declared.entries.Entry.{Entry}
use Rattle.type_table.specs.declared.entries.Entry.TheVariants as entries
use Rattle.type_table.specs.declared.nodes.Head.{Head}
use Rattle.type_table.specs.declared.nodes.Head.TheVariants as heads
use Rattle.type_table.specs.declared.nodes.Node.{Node}
use Rattle.type_table.specs.declared.table.TyId.{TyId}
use Rattle.type_table.specs.declared.table.TypeTable.{TypeTable}
use Rattle.type_table.specs.Nodes.{head_type, first_type, type_at, type_there, are_below}
use Rattle.type_table.specs.Entries.{entry_told, variant_entry, entry_below, variant_below, field_below}
use Rattle.type_table.specs.Parts.{id_at, part_at, field_at, entry_variant_at, head_part, node_part, part_there, part_id, head_inner, node_inner, inner_id}
use Rattle.type_table.specs.Readings as readings
use Rattle.type_table.specs.Readings.{tuple_part, option_part, result_part}
use Rattle.type_table.specs.Tables.{IsOf, table_types, table_type, table_program, type_parts, field_type, part_of, field_number, number_with}
use Rattle.type_table.proofs.FieldLemmas.{all_at, base_field, tuple_field, option_field, result_field, entry_field, base_cases}
use Rattle.type_table.proofs.KindLemmas.{parts_are, shape_of, parts_fit, program_at}
use Rattle.type_table.proofs.NodeLemmas.{count_types}
use Rattle.type_table.proofs.PlainTypes.{table_variants}

twice : (t : TypeTable) (o : Option ℕ) → option_map (table_type t) (id_at o) ≡ option_map {U = MType} (type_at (table_types t)) o
twice t None = refl
twice t (Some p) = refl

-- the types of parts that may be there
part_types_at : (t : TypeTable) (ps : List ℕ) (o : Option ℕ) → option_map (table_type t) (part_at ps o) ≡ readings.part_type (map (type_at (table_types t)) ps) o
part_types_at t ps None = refl
part_types_at t ps (Some n) = twice t (slice_get ps n) ∙ sym (get_map (type_at (table_types t)) ps n)

-- the type of a field of an entry's variant
field_types_at : (t : TypeTable) (o : Option VariantEntry) (i : ℕ) →
    option_map (table_type t) (field_at o i) ≡ part_of (variant_types (option_map {U = MVariant} (variant_entry (table_types t)) o)) i
field_types_at t None i = refl
field_types_at t (Some v) i = twice t (field_number v i) ∙ entry_field (table_types t) v i

-- the variant of an entry is that of its item
entry_variants : (types : List MType) (o : Option Entry) (k : ℕ) →
    option_map {U = MVariant} (variant_entry types) (entry_variant_at o k) ≡ slice_get (item_variants (option_map {U = MItem} (λ e. (entry_told types e).item) o)) k
entry_variants types None k = refl
entry_variants types (Some (entries.Struct id v)) zero = refl
entry_variants types (Some (entries.Enum id name later variants)) k = sym (get_map (variant_entry types) variants.items k)
entry_variants types _ _ = refl

entry_types : (t : TypeTable) (n k i : ℕ) (ts : MTypes) →
    option_map (table_type t) (field_at (entry_variant_at (slice_get t.items.items n) k) i) ≡ field_type (table_program t) (NamedType (DeclaredItem n) ts) k i
entry_types t n k i ts =
    field_types_at t (entry_variant_at (slice_get t.items.items n) k) i
    ∙ (ap (λ (o : Option MVariant). part_of (variant_types o) i) (entry_variants (table_types t) (slice_get t.items.items n) k)
    ∙ (ap (λ (o : Option MItem). part_of (variant_types (slice_get (item_variants o) k)) i) (sym (program_at t n))
    ∙ ap (λ (vs : List MVariant). part_of (variant_types (slice_get vs k)) i) (sym (table_variants t n ts))))

-- the numbers of the types of fields are of the table
field_below_at : (m : ℕ) (v : VariantEntry) (i : ℕ) (id : TyId) → variant_below m v ≡ true → field_at (Some v) i ≡ Some id → id.index < m
field_below_at m v i id below h = by_form v.form h
  where
    index_of : ℕ → Option TyId → ℕ
    index_of p None = p
    index_of p (Some x) = x.index

    by : (q : Option FieldEntry) → slice_get v.fields.items i ≡ q → id_at (option_map (λ f. f.ty) q) ≡ Some id → id.index < m
    by None e k = absurd cc
    by (Some f) e k =
        let index : f.ty ≡ id.index = ap (index_of f.ty) k in
        let lt : f.ty < m = ltb-true f.ty m (all_at (field_below m) v.fields.items i f below e) in
        omega (arith, index, lt)

    by_form : (form : FormKind) → id_at (number_with form (option_map (λ f. f.ty) (slice_get v.fields.items i))) ≡ Some id → id.index < m
    by_form form_kinds.Unit k = absurd cc
    by_form _ k = by (slice_get v.fields.items i) refl k

entry_variant_below : (m : ℕ) (e : Entry) (k : ℕ) (v : VariantEntry) → entry_below m e ≡ true → entry_variant_at (Some e) k ≡ Some v → variant_below m v ≡ true
entry_variant_below m (entries.Struct id w) zero v below h =
    let same : w ≡ v = cc in
    ap (variant_below m) (sym same) ∙ (and_parts (nat_lt id m) (variant_below m w) below).1
entry_variant_below m (entries.Enum id name later variants) k v below h =
    all_at (variant_below m) variants.items k v (and_parts (nat_lt id m) (list_all (variant_below m) variants.items) below).1 h
entry_variant_below m _ _ v below h = absurd cc

field_is_of : (t : TypeTable) (n k i : ℕ) (id : TyId) → field_at (entry_variant_at (slice_get t.items.items n) k) i ≡ Some id → IsOf t id
field_is_of t n k i id = by (slice_get t.items.items n) refl
  where
    by_variant : (e : Entry) (w : Option VariantEntry) → slice_get t.items.items n ≡ Some e → entry_variant_at (Some e) k ≡ w → field_at w i ≡ Some id → IsOf t id
    by_variant e None there x h = absurd cc
    by_variant e (Some v) there x h =
        field_below_at (length t.nodes.keys) v i id
        (entry_variant_below (length t.nodes.keys) e k v (all_at (entry_below (length t.nodes.keys)) t.items.items n e t.whole.below there) x) h

    by : (o : Option Entry) → slice_get t.items.items n ≡ o → field_at (entry_variant_at o k) i ≡ Some id → IsOf t id
    by None there h = absurd cc
    by (Some e) there h = by_variant e (entry_variant_at (Some e) k) there refl h

module _ (t : TypeTable) (ty : TyId) where
  -- a number that is not of the table stands for `!`
  past_is_never : slice_get t.nodes.keys ty.index ≡ None → table_type t ty ≡ NeverType
  past_is_never e =
      let le : length t.nodes.keys ≤ ty.index = past t.nodes.keys ty.index e in
      let count : length (table_types t) ≡ length t.nodes.keys = count_types t.nodes.keys [] ∙ omega arith in
      ap type_there (slice_get_past (table_types t) ty.index (omega (arith, le, count)))
    where
      past : {A : Type 0} (xs : List A) (i : ℕ) → slice_get xs i ≡ None → length xs ≤ i
      past [] i e = omega arith
      past (x ∷ xs) zero e = absurd cc
      past (x ∷ xs) (suc i) e = let le : length xs ≤ i = past xs i e in omega (arith, le)

  module _ (n : Node) (at : slice_get t.nodes.keys ty.index ≡ Some n) where
    abbrev Parts : List MType
    Parts = type_parts t ty

    found : (o : Option ℕ) → option_map (table_type t) (part_at n.parts.items o) ≡ readings.part_type Parts o
    found o = part_types_at t n.parts.items o ∙ ap (λ (ps : List MType). readings.part_type ps o) (sym (parts_are t ty n at))

    first_is : length Parts ≡ 1 → first_type Parts ≡ table_type t (unwrap_or (part_at n.parts.items (Some 0)) ty)
    first_is one = ap first_type (parts_are t ty n at) ∙ by n.parts.items (sym (ap length (parts_are t ty n at)) ∙ one)
      where
        by : (ps : List ℕ) → length (map (type_at (table_types t)) ps) ≡ 1 → first_type (map (type_at (table_types t)) ps) ≡ table_type t (unwrap_or (part_at ps (Some 0)) ty)
        by [] e = absurd (omega (arith, e))
        by (p ∷ ps) e = refl

    field_by : (h : Head) → n.head ≡ h → (k i : ℕ) →
        option_map (table_type t) (head_part t.items.items h n.parts.items k i) ≡ field_type (table_program t) (head_type h Parts) k i
    field_by (heads.Base b) e k i = base_field (table_program t) b k i
    field_by heads.Tuple e k i = found (tuple_part k i) ∙ tuple_field (table_program t) Parts k i
    field_by (heads.Named (owners.Item m)) e k i = entry_types t m k i (types_of Parts)
    field_by (heads.Named owners.Option) e k i =
        found (option_part k i) ∙ option_field (table_program t) Parts k i (eqb-true (length Parts) 1 (parts_fit t ty n at (heads.Named owners.Option) e))
    field_by (heads.Named owners.Result) e k i =
        found (result_part k i) ∙ result_field (table_program t) Parts k i (eqb-true (length Parts) 2 (parts_fit t ty n at (heads.Named owners.Result) e))
    field_by _ e k i = refl

    inner_by : (h : Head) → n.head ≡ h → inner_type (head_type h Parts) ≡ table_type t (unwrap_or (head_inner h n.parts.items) ty)
    inner_by (heads.Base b) e = base_cases (λ u. inner_type u ≡ u) refl refl refl refl (λ kind. refl) b ∙ sym (shape_of t ty n at (heads.Base b) e)
    inner_by (heads.Opaque o) e = sym (shape_of t ty n at (heads.Opaque o) e)
    inner_by heads.Tuple e = sym (shape_of t ty n at heads.Tuple e)
    inner_by (heads.Point mutable) e = first_is (eqb-true (length Parts) 1 (parts_fit t ty n at (heads.Point mutable) e))
    inner_by heads.Slice e = first_is (eqb-true (length Parts) 1 (parts_fit t ty n at heads.Slice e))
    inner_by (heads.Array len) e = first_is (eqb-true (length Parts) 1 (parts_fit t ty n at (heads.Array len) e))
    inner_by (heads.Named owner) e = sym (shape_of t ty n at (heads.Named owner) e)

    part_below : (o : Option ℕ) (id : TyId) → part_at n.parts.items o ≡ Some id → id.index < ty.index
    part_below o id = among n.parts.items o (t.whole.are ty.index n at).0
      where
        by : (ps : List ℕ) (k : ℕ) (q : Option ℕ) → are_below ps ty.index ≡ true → slice_get ps k ≡ q → id_at q ≡ Some id → id.index < ty.index
        by ps k None below e h = absurd cc
        by ps k (Some p) below e h =
            let index : p ≡ id.index = ap index_of h in
            let lt : p < ty.index = ltb-true p ty.index (all_at (λ r. nat_lt r ty.index) ps k p below e) in
            omega (arith, index, lt)
          where
            index_of : Option TyId → ℕ
            index_of None = p
            index_of (Some x) = x.index

        among : (ps : List ℕ) (o : Option ℕ) → are_below ps ty.index ≡ true → part_at ps o ≡ Some id → id.index < ty.index
        among ps None below h = absurd cc
        among ps (Some k) below h = by ps k (slice_get ps k) below refl h

    head_below : (h : Head) (k i : ℕ) (id : TyId) → IsOf t ty → head_part t.items.items h n.parts.items k i ≡ Some id → IsOf t id
    head_below heads.Tuple k i id of h = let lt = part_below (tuple_part k i) id h in omega (arith, lt, of)
    head_below (heads.Named (owners.Item m)) k i id of h = field_is_of t m k i id h
    head_below (heads.Named owners.Option) k i id of h = let lt = part_below (option_part k i) id h in omega (arith, lt, of)
    head_below (heads.Named owners.Result) k i id of h = let lt = part_below (result_part k i) id h in omega (arith, lt, of)
    head_below _ k i id of h = absurd cc

    inner_below : (h : Head) (id : TyId) → IsOf t ty → head_inner h n.parts.items ≡ Some id → IsOf t id
    inner_below (heads.Point mutable) id of h = let lt = part_below (Some 0) id h in omega (arith, lt, of)
    inner_below heads.Slice id of h = let lt = part_below (Some 0) id h in omega (arith, lt, of)
    inner_below (heads.Array len) id of h = let lt = part_below (Some 0) id h in omega (arith, lt, of)
    inner_below _ id of h = absurd cc

  -- the types of the fields of a type, by their numbers
  pub part_types : (k i : ℕ) → option_map (table_type t) (part_there t ty k i) ≡ field_type (table_program t) (table_type t ty) k i
  part_types k i = by (slice_get t.nodes.keys ty.index) refl
    where
      by : (o : Option Node) → slice_get t.nodes.keys ty.index ≡ o → option_map (table_type t) (part_there t ty k i) ≡ field_type (table_program t) (table_type t ty) k i
      by None e =
          ap (λ (o : Option Node). option_map (table_type t) (node_part t.items.items o k i)) e
          ∙ ap (λ (u : MType). field_type (table_program t) u k i) (sym (past_is_never e))
      by (Some n) e =
          ap (λ (o : Option Node). option_map (table_type t) (node_part t.items.items o k i)) e
          ∙ (field_by n e n.head refl k i ∙ ap (λ (u : MType). field_type (table_program t) u k i) (sym (shape_of t ty n e n.head refl)))

  -- they are of the table
  pub part_is_of : (k i : ℕ) (id : TyId) → IsOf t ty → part_there t ty k i ≡ Some id → IsOf t id
  part_is_of k i id of h = by (slice_get t.nodes.keys ty.index) refl
    where
      by : (o : Option Node) → slice_get t.nodes.keys ty.index ≡ o → IsOf t id
      by None e = absurd (none (sym (ap (λ (o : Option Node). node_part t.items.items o k i) e) ∙ h))
        where
          none : None ≡ Some id → ⊥
          none x = cc
      by (Some n) e = head_below n e n.head k i id of (sym (ap (λ (o : Option Node). node_part t.items.items o k i) e) ∙ h)

  -- the type behind a reference, or of items, by its number
  pub inner_is : inner_type (table_type t ty) ≡ table_type t (inner_id t ty)
  inner_is = by (slice_get t.nodes.keys ty.index) refl
    where
      by : (o : Option Node) → slice_get t.nodes.keys ty.index ≡ o → inner_type (table_type t ty) ≡ table_type t (inner_id t ty)
      by None e =
          ap inner_type (past_is_never e)
          ∙ (sym (past_is_never e) ∙ ap (λ (o : Option Node). table_type t (unwrap_or (node_inner o) ty)) (sym e))
      by (Some n) e =
          ap inner_type (shape_of t ty n e n.head refl)
          ∙ (inner_by n e n.head refl ∙ ap (λ (o : Option Node). table_type t (unwrap_or (node_inner o) ty)) (sym e))

  -- where a number is asked for and there is none, it is the type's own
  or_itself : (o : Option TyId) → IsOf t ty → ((id : TyId) → o ≡ Some id → IsOf t id) → IsOf t (unwrap_or o ty)
  or_itself None of h = of
  or_itself (Some id) of h = h id refl

  pub part_id_is_of : (k i : ℕ) → IsOf t ty → IsOf t (part_id t ty k i)
  part_id_is_of k i of = or_itself (part_there t ty k i) of (λ id h. part_is_of k i id of h)

  pub inner_is_of : IsOf t ty → IsOf t (inner_id t ty)
  inner_is_of of = or_itself (node_inner (slice_get t.nodes.keys ty.index)) of (λ id h. by (slice_get t.nodes.keys ty.index) refl id h)
    where
      by : (o : Option Node) → slice_get t.nodes.keys ty.index ≡ o → (id : TyId) → node_inner o ≡ Some id → IsOf t id
      by None e id h = absurd cc
      by (Some n) e id h = inner_below n e n.head id of h

  -- the type of a part, which is the type itself where there is none, by its number
  pub part_is : (k i : ℕ) → part_type (table_type t ty) (node_types (table_program t) (table_type t ty) k) i ≡ table_type t (part_id t ty k i)
  part_is k i =
      by_types (node_types (table_program t) (table_type t ty) k)
      ∙ (ap (type_or (table_type t ty)) (sym (part_types k i)) ∙ by_number (part_there t ty k i))
    where
      by_types : (o : Option MTypes) → part_type (table_type t ty) o i ≡ type_or (table_type t ty) (part_of o i)
      by_types None = refl
      by_types (Some ts) = refl

      by_number : (o : Option TyId) → type_or (table_type t ty) (option_map (table_type t) o) ≡ table_type t (unwrap_or o ty)
      by_number None = refl
      by_number (Some id) = refl

-- a type that holds an inner one
pub inner_held : (t : TypeTable) (ty inner : TyId) → IsOf t ty → inner ≡ inner_id t ty → (made : MType → MType) → ((u : MType) → inner_type (made u) ≡ u) →
    {u : MType} → table_type t ty ≡ made u → IsOf t inner × (table_type t ty ≡ made (table_type t inner))
inner_held t ty inner of is made back {u = u} shape =
    let type : u ≡ table_type t inner = sym (back u) ∙ (ap inner_type (sym shape) ∙ (inner_is t ty ∙ ap (table_type t) (sym is))) in
    (subst (IsOf t) (sym is) (inner_is_of t ty of), shape ∙ ap made type)
