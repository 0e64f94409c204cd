-- What a table tells of emptiness, where no declared type is endless.
use Rattle.std.proofs.Common.{◌≡◌, ◌⊎◌, inl, inr, ℕ, ◌+◌, ◌<◌, ◌≤◌, zero, suc, Bool, true, false, not, ◌||◌, List, [], ◌∷◌, map, length, Option, Some, None, is_some, refl, sym, ap, subst, ◌∙◌, arith, get_or}
use Rattle.std.specs.Prelude.{slice_get, option_map}
use Rattle.std.proofs.lemmas.Bool.{both_ways, not-true, not-false, or_left, or_right}
use Rattle.match_model.specs.Types.{MType, MTypes, no_types, more_types, types_list}
use Rattle.match_model.specs.Declarations.{MProgram, node_types}
use Rattle.match_model.specs.Values.{MValue, Node, MValues, no_values, more_values}
use Rattle.match_model.specs.Typing.{is_value, are_values}
use Rattle.match_model.specs.Constructors.{OneVariant, builds_one}
use Rattle.match_model.specs.RustTypes.{count_of_types, IsSoundProgram, RustValue}
use Rattle.match_model.specs.Contexts.{Context}
use Rattle.match_model.specs.ContextLaws.{EmptyLaw}
use Rattle.match_model.specs.Emptiness.{IsRustType}
use Rattle.match_model.proofs.Basics.{both, found, nat_equal, nat_itself, untrue}
use Rattle.match_model.proofs.Decided.{valued_or_none}
use Rattle.match_model.proofs.Inhabited.{Found, AllFound, more_found}
use Rattle.match_model.proofs.Valued.{unsure}
use Rattle.type_table.specs.declared.table.TypeTable.{TypeTable}
use Rattle.type_table.specs.declared.table.TyId.{TyId}
use Rattle.type_table.specs.Nodes.{types_in, type_at}
use Rattle.type_table.specs.Possible.{program_in, AreFinite}
use Rattle.type_table.specs.Parts.{part_there}
use Rattle.type_table.specs.Tables.{table_program, table_type, IsOf, field_type, part_of, fields_of_type}
use Rattle.type_table.specs.Marks.{found_empty, lacks_value, lacks_field, found_variant_empty}
use Rattle.type_table.specs.Empty.{TellsEmpty, TellsVariantEmpty}
use Rattle.type_table.proofs.EndlessItems.{read}
use Rattle.type_table.proofs.NodeLemmas.{count_types, get_below}
use Rattle.type_table.proofs.PartLemmas.{part_types, part_is_of}
use Rattle.type_table.proofs.PlainTypes.{same_program}
use Rattle.type_table.proofs.SoundTypes.{types_typed, sound_program}

-- each of the types has a value
all_found : (program : MProgram) (ts : MTypes) → ((i : ℕ) (u : MType) → slice_get (types_list ts) i ≡ Some u → Found program true u) → AllFound program true ts
all_found program no_types each = (no_values, refl)
all_found program (more_types t ts) each = more_found program true t ts (each 0 t refl) (all_found program ts (λ i u at. each (suc i) u at))

-- and where they all have some, so has one
one_found : (program : MProgram) (ts : MTypes) (vs : MValues) → are_values program true ts vs ≡ true → (i : ℕ) (u : MType) → slice_get (types_list ts) i ≡ Some u → Found program true u
one_found program no_types vs h i u at = absurd cc
one_found program (more_types t ts) (more_values v vs) h zero u at =
    let same : t ≡ u = cc in
    (v, ap (λ w. is_value program true w v) (sym same) ∙ (both (is_value program true t v) _ h).0)
one_found program (more_types t ts) (more_values v vs) h (suc i) u at = one_found program ts vs (both (is_value program true t v) _ h).1 i u at
one_found program (more_types t ts) _ h i u at = absurd cc

-- the node that a variant builds
variant_node : (k : ℕ) (v : MValue) → builds_one (OneVariant k) v ≡ true → (parts : MValues) × (v ≡ Node k parts)
variant_node k (Node j parts) h = (parts, ap (λ i. Node i parts) (nat_equal j k h))
variant_node k _ h = absurd (untrue h)

-- of the first fields one lacks a value exactly where one of them does
none_lacks : (t : TypeTable) (ty : TyId) (k n : ℕ) → lacks_field t ty k n ≡ false → (i : ℕ) → i < n → lacks_value t (part_there t ty k i) ≡ false
none_lacks t ty k zero h i lt = absurd (omega (arith, lt))
none_lacks t ty k (suc n) h i lt = by (lacks_field t ty k n) refl h (less_or_same i n lt) (λ e low. none_lacks t ty k n e i low)
  where
    less_or_same : (i n : ℕ) → i < suc n → (i < n) ⊎ (i ≡ n)
    less_or_same i n l = grind (arith, l)

    by : (b : Bool) → lacks_field t ty k n ≡ b → (b || lacks_value t (part_there t ty k n)) ≡ false → (i < n) ⊎ (i ≡ n) →
        (lacks_field t ty k n ≡ false → i < n → lacks_value t (part_there t ty k i) ≡ false) → lacks_value t (part_there t ty k i) ≡ false
    by true e f w rest = absurd cc
    by false e f (inl low) rest = rest e low
    by false e f (inr same) rest = ap (λ (j : ℕ). lacks_value t (part_there t ty k j)) same ∙ f

all_have : (t : TypeTable) (ty : TyId) (k n : ℕ) → ((i : ℕ) → i < n → lacks_value t (part_there t ty k i) ≡ false) → lacks_field t ty k n ≡ false
all_have t ty k zero each = refl
all_have t ty k (suc n) each = neither (lacks_field t ty k n) _ (all_have t ty k n (λ i lt. each i (omega (arith, lt)))) (each n (omega arith))
  where
    neither : (a b : Bool) → a ≡ false → b ≡ false → (a || b) ≡ false
    neither a b e f = rw (e, f) refl

-- a field that lacks one
pub some_lacks : (t : TypeTable) (ty : TyId) (k n i : ℕ) → i < n → lacks_value t (part_there t ty k i) ≡ true → lacks_field t ty k n ≡ true
some_lacks t ty k zero i lt h = absurd (omega (arith, lt))
some_lacks t ty k (suc n) i lt h = by (less_or_same i n lt) (λ low. some_lacks t ty k n i low h)
  where
    less_or_same : (i n : ℕ) → i < suc n → (i < n) ⊎ (i ≡ n)
    less_or_same i n l = grind (arith, l)

    by : (i < n) ⊎ (i ≡ n) → (i < n → lacks_field t ty k n ≡ true) → lacks_field t ty k (suc n) ≡ true
    by (inl low) rest = or_left (lacks_field t ty k n) (lacks_value t (part_there t ty k n)) (rest low)
    by (inr same) rest = or_right (lacks_field t ty k n) (lacks_value t (part_there t ty k n)) (ap (λ (j : ℕ). lacks_value t (part_there t ty k j)) (sym same) ∙ h)

-- one field more
pub none_more : (t : TypeTable) (ty : TyId) (k i : ℕ) → lacks_field t ty k i ≡ false → lacks_value t (part_there t ty k i) ≡ false → lacks_field t ty k (i + 1) ≡ false
none_more t ty k i before here =
    let next : i + 1 ≡ suc i = omega arith in
    ap (lacks_field t ty k) next ∙ all_have t ty k (suc i) (λ j lt. by j (less_or_same j i lt))
  where
    less_or_same : (i n : ℕ) → i < suc n → (i < n) ⊎ (i ≡ n)
    less_or_same i n l = grind (arith, l)

    by : (j : ℕ) → (j < i) ⊎ (j ≡ i) → lacks_value t (part_there t ty k j) ≡ false
    by j (inl low) = none_lacks t ty k i before j low
    by j (inr same) = ap (λ (m : ℕ). lacks_value t (part_there t ty k m)) same ∙ here

-- all fields
pub none_past : (t : TypeTable) (ty : TyId) (k n i : ℕ) → n ≤ i → lacks_field t ty k i ≡ false → lacks_field t ty k n ≡ false
none_past t ty k n i le before = all_have t ty k n (λ j lt. none_lacks t ty k i before j (omega (arith, lt, le)))

module _ (t : TypeTable) where
  -- the types of the table are types of its program
  pub rust_types : (ty : TyId) → IsOf t ty → IsRustType (table_program t) (table_type t ty)
  rust_types ty of =
      subst (λ (p : MProgram). IsRustType p (table_type t ty)) (same_program t) (types_typed t.width t.nodes.keys t.items.items t.whole.are t.whole.below t.whole.known t.whole.few ty.index of)

  -- and this is sound
  pub sound_table : IsSoundProgram (table_program t)
  sound_table =
      subst IsSoundProgram (same_program t)
      (sound_program t.width t.nodes.keys t.items.items t.whole.are t.whole.below t.whole.known t.whole.few t.finite)

  -- each of its types has a finite value
  all_finite : AreFinite (table_program t) (types_in t.nodes.keys)
  all_finite n lt =
      let many : length (types_in t.nodes.keys) ≡ length t.nodes.keys = count_types t.nodes.keys [] ∙ omega arith in
      unsure (table_program t) sound_table (type_at (types_in t.nodes.keys) n) (rust_types (record { index = n }) (omega (arith, many, lt)))

  pub found_here : (ty : TyId) → IsOf t ty → (b : Bool) → b ≡ get_or t.values.items ty.index b → not b ≡ found_empty t ty
  found_here ty of b is =
      let len : length t.values.items ≡ length t.nodes.keys = t.whole.values.len in
      ap not (read t.values.items ty.index b (omega (arith, len, of)) is)

  -- what has a value is marked
  valued_marked : (ty : TyId) → IsOf t ty → (v : MValue) → is_value (table_program t) true (table_type t ty) v ≡ true → found_empty t ty ≡ false
  valued_marked ty of v h =
      ap not (t.whole.values.complete t.width ty.index v of (ap (λ (p : MProgram). is_value p true (table_type t ty) v) (same_program t) ∙ h))

  -- what is marked has a value
  marked_valued : (ty : TyId) → IsOf t ty → found_empty t ty ≡ false → Found (table_program t) true (table_type t ty)
  marked_valued ty of e = by (valued_or_none (table_program t) sound_table (table_type t ty) (rust_types ty of))
    where
      by : Found (table_program t) true (table_type t ty) ⊎ ((v : MValue) → is_value (table_program t) true (table_type t ty) v ≡ false) → Found (table_program t) true (table_type t ty)
      by (inl v) = v
      by (inr none) =
          let unmarked : get_or t.values.items ty.index false ≡ false =
          t.whole.values.sound t.width (λ s. subst (λ (p : MProgram). AreFinite p (types_in t.nodes.keys)) (sym (same_program t)) all_finite) ty.index
          (λ v. ap (λ (p : MProgram). is_value p true (table_type t ty) v) (same_program t) ∙ none v) in
          absurd (both_ways (get_or t.values.items ty.index false) unmarked (not-false (get_or t.values.items ty.index false) e))

  pub tells_empty : (ty : TyId) → IsOf t ty → (b : Bool) → b ≡ found_empty t ty → TellsEmpty (table_program t) (table_type t ty) b
  tells_empty ty of true e = λ v h. untrue (sym (valued_marked ty of v h) ∙ sym e)
  tells_empty ty of false e = marked_valued ty of (sym e)

  -- the field of a variant that is there, as a type of the table
  field_there : (ty : TyId) → IsOf t ty → (k i : ℕ) (ts : MTypes) (u : MType) → node_types (table_program t) (table_type t ty) k ≡ Some ts → slice_get (types_list ts) i ≡ Some u →
      (id : TyId) × (part_there t ty k i ≡ Some id) × IsOf t id × (table_type t id ≡ u)
  field_there ty of k i ts u is at =
      by (part_there t ty k i) refl (part_types t ty k i ∙ (ap (λ (o : Option MTypes). part_of o i) is ∙ at))
    where
      by : (o : Option TyId) → part_there t ty k i ≡ o → option_map {U = MType} (table_type t) o ≡ Some u → (id : TyId) × (part_there t ty k i ≡ Some id) × IsOf t id × (table_type t id ≡ u)
      by None e f = absurd cc
      by (Some id) e f = (id, e, part_is_of t ty k i id of e, cc)

  variant_valued : (ty : TyId) → IsOf t ty → (k : ℕ) → found_variant_empty t ty k ≡ false → TellsVariantEmpty (table_program t) (table_type t ty) k false
  variant_valued ty of k e = by (node_types (table_program t) (table_type t ty) k) refl e
    where
      node : (ts : MTypes) → node_types (table_program t) (table_type t ty) k ≡ Some ts → AllFound (table_program t) true ts → TellsVariantEmpty (table_program t) (table_type t ty) k false
      node ts is (vs, h) = (Node k vs, nat_itself k, go (node_types (table_program t) (table_type t ty) k) is)
        where
          go : (o : Option MTypes) → o ≡ Some ts → (elim o [ None ↦ false | Some us ↦ are_values (table_program t) true us vs ]) ≡ true
          go o is = rw is h

      by : (o : Option MTypes) → node_types (table_program t) (table_type t ty) k ≡ o → (not (is_some o) || lacks_field t ty k (fields_of_type (table_program t) (table_type t ty) k)) ≡ false →
          TellsVariantEmpty (table_program t) (table_type t ty) k false
      by None is f = absurd cc
      by (Some ts) is f =
          let many : fields_of_type (table_program t) (table_type t ty) k ≡ length (types_list ts) = ap count_of_types is in
          node ts is (all_found (table_program t) ts
          (λ i u at.
          let field = field_there ty of k i ts u is at in
          let low : i < length (types_list ts) = get_below (types_list ts) i u at in
          let has : found_empty t field.0 ≡ false =
          ap (lacks_value t) (sym field.1) ∙ none_lacks t ty k (fields_of_type (table_program t) (table_type t ty) k) f i (omega (arith, many, low)) in
          subst (λ (w : MType). Found (table_program t) true w) field.3 (marked_valued field.0 field.2 has)))

  variant_none : (ty : TyId) → IsOf t ty → (k : ℕ) → found_variant_empty t ty k ≡ true → (v : MValue) → builds_one (OneVariant k) v ≡ true →
      is_value (table_program t) true (table_type t ty) v ≡ true → ⊥
  variant_none ty of k e v built h =
      let n = variant_node k v built in
      let value : is_value (table_program t) true (table_type t ty) (Node k n.0) ≡ true = ap (is_value (table_program t) true (table_type t ty)) (sym n.1) ∙ h in
      let r = found (node_types (table_program t) (table_type t ty) k) (λ ts. are_values (table_program t) true ts n.0) value in
      both_ways (found_variant_empty t ty k) (none r.0 r.1 n.0 r.2) e
    where
      -- a field of the variant, if it is there, has a value
      has : (ts : MTypes) → node_types (table_program t) (table_type t ty) k ≡ Some ts → (vs : MValues) → are_values (table_program t) true ts vs ≡ true →
          (i : ℕ) → (o : Option TyId) → part_there t ty k i ≡ o → lacks_value t o ≡ false
      has ts is vs g i None p = refl
      has ts is vs g i (Some id) p =
          let field : Some (table_type t id) ≡ slice_get (types_list ts) i =
          ap (option_map {U = MType} (table_type t)) (sym p) ∙ (part_types t ty k i ∙ ap (λ (o : Option MTypes). part_of o i) is) in
          let value = one_found (table_program t) ts vs g i (table_type t id) (sym field) in
          valued_marked id (part_is_of t ty k i id of p) value.0 value.1

      none : (ts : MTypes) → node_types (table_program t) (table_type t ty) k ≡ Some ts → (vs : MValues) → are_values (table_program t) true ts vs ≡ true → found_variant_empty t ty k ≡ false
      none ts is vs g = by (is_some (node_types (table_program t) (table_type t ty) k)) (ap is_some is)
          (all_have t ty k (fields_of_type (table_program t) (table_type t ty) k) (λ i lt. has ts is vs g i (part_there t ty k i) refl))
        where
          by : (b : Bool) → b ≡ true → {c : Bool} → c ≡ false → (not b || c) ≡ false
          by true e f = f
          by false e f = absurd cc

  pub tells_variant : (ty : TyId) → IsOf t ty → (k : ℕ) (b : Bool) → b ≡ found_variant_empty t ty k → TellsVariantEmpty (table_program t) (table_type t ty) k b
  tells_variant ty of k true e = variant_none ty of k (sym e)
  tells_variant ty of k false e = variant_valued ty of k (sym e)

  -- the law of a context on emptiness, for each type of the table
  pub empty_law : (cx : Context TyId) →
      EmptyLaw (IsOf t) (λ ty. RustValue (table_program t) (table_type t ty)) cx (found_empty t) (found_variant_empty t)
  empty_law cx = record {
    empty = λ ty of e. tells_empty ty of true (sym e);
    inhabited = λ ty of e. tells_empty ty of false (sym e);
    variant_is_empty = λ ty k of s e. tells_variant ty of k true (sym e);
    variant_inhabited = λ ty k of s e. tells_variant ty of k false (sym e);
  }
