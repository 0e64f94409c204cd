-- The types of a table are types of its program, and this is sound where no declared type is endless.
use Rattle.std.proofs.Common.{◌≡◌, ◌⊎◌, inl, inr, ℕ, ◌<◌, ◌≤◌, ◌^◌, zero, suc, true, false, List, [], ◌∷◌, map, Some, None, length, refl, ap, sym, subst, ◌∙◌, arith}
use Rattle.std.specs.Prelude.{slice_get, nat_lt, nat_eq}
use Rattle.std.specs.List.{All, AllByRecursion, list_all}
use Rattle.std.proofs.lemmas.List.{length-map}
use Rattle.std.proofs.lemmas.List.Elements.{recursion_from_All}
use Rattle.std.proofs.lemmas.Bool.{eqb-true}
use Rattle.match_model.specs.declared.Width.{Width}
use Rattle.match_model.specs.Types.{DeclaredItem, MType, NamedType, MTypes, no_types, more_types, types_list, types_of}
use Rattle.match_model.specs.Declarations.{MProgram, form_types, item_types, variant_types}
use Rattle.match_model.specs.Values.{MValue}
use Rattle.match_model.specs.Typing.{is_value}
use Rattle.match_model.specs.RustTypes.{is_type, are_types, is_declared, opaque_arguments, FieldsAreTypes, IsSoundProgram}
use Rattle.match_model.proofs.Basics.{both, and_true}
use Rattle.match_model.proofs.Decided.{finite_or_none}
use Rattle.match_model.proofs.Inhabited.{Found}
use Rattle.type_names.specs.Views.{opaque_view}
use Rattle.type_names.specs.declared.meanings.Base.TheVariants as bases
use Rattle.type_names.specs.declared.meanings.Owner.TheVariants as owners
use Rattle.type_names.specs.declared.meanings.FormKind.{FormKind}
use Rattle.type_names.specs.declared.meanings.FormKind.TheVariants as form_kinds
use Rattle.type_table.specs.declared.nodes.Head.{Head}
use Rattle.type_table.specs.declared.nodes.Head.TheVariants as heads
use Rattle.type_table.specs.declared.nodes.Node.{Node}
use Rattle.type_table.specs.declared.entries.VariantEntry.{VariantEntry}
use Rattle.type_table.specs.declared.entries.Entry.{Entry}
use Rattle.type_table.specs.declared.entries.Entry.TheVariants as entry_kinds
use Rattle.type_table.specs.Nodes.{AreNodes, types_in, type_at, node_type, head_type, fits_head}
use Rattle.type_table.specs.Entries.{entry_told, variant_entry, entry_below}
use Rattle.type_table.specs.Empty.{NoneEndless}
use Rattle.type_table.specs.Known.{declares_type, is_known_head, IsKnown, HasFewFields, IsFew}
use Rattle.type_table.specs.Possible.{program_in}
use Rattle.type_table.specs.Tables.{fields_with, fields_of_entry}
use Rattle.type_table.proofs.KindLemmas.{count_back, fields_count}
use Rattle.type_table.proofs.TypeTests.{items_pass, types_pass}

-- what an entry declares, by its item
declared_item : (types : List MType) (es : List Entry) (i : ℕ) → declares_type (slice_get es i) ≡ is_declared (slice_get (map (λ e. (entry_told types e).item) es) i)
declared_item types (entry_kinds.Struct id v ∷ es) zero = refl
declared_item types (e ∷ es) (suc i) = declared_item types es i
declared_item types _ _ = refl

all_typed : (program : MProgram) (t : MType) (ts : MTypes) → is_type program t ≡ true → are_types program ts ≡ true → are_types program (more_types t ts) ≡ true
all_typed program t ts h k = and_true (is_type program t) (are_types program ts) h k

one_typed : (program : MProgram) (ps : List MType) → nat_eq (length ps) 1 ≡ true → are_types program (types_of ps) ≡ true → (t : MType) × (ps ≡ t ∷ []) × (is_type program t ≡ true)
one_typed program [] fits h = let e : length none ≡ 1 = eqb-true (length none) 1 fits in absurd (omega arith)
  where
    none : List MType
    none = []
one_typed program (t ∷ []) fits h = (t, refl, (both (is_type program t) true h).0)
one_typed program (t ∷ u ∷ ps) fits h = let e : length (t ∷ u ∷ ps) ≡ 1 = eqb-true (length (t ∷ u ∷ ps)) 1 fits in absurd (omega arith)

-- as many types as are asked for
counted : (ps : List MType) (n : ℕ) → nat_eq (length ps) n ≡ true → nat_eq (length (types_list (types_of ps))) n ≡ true
counted ps n fits = ap (λ (m : ℕ). nat_eq m n) (count_back ps) ∙ fits

module _ (program : MProgram) (entries : List Entry) (same : (i : ℕ) → declares_type (slice_get entries i) ≡ is_declared (slice_get program.items i)) where
  item_typed : (i : ℕ) (ps : List MType) → nat_eq (length ps) 0 ≡ true → declares_type (slice_get entries i) ≡ true → is_type program (head_type (heads.Named (owners.Item i)) ps) ≡ true
  item_typed i [] fits known = and_true _ _ (sym (same i) ∙ known) refl
  item_typed i (t ∷ ps) fits known = let e : length (t ∷ ps) ≡ 0 = eqb-true (length (t ∷ ps)) 0 fits in absurd (omega arith)

  head_typed : (h : Head) (ps : List MType) → fits_head h (length ps) ≡ true → is_known_head entries h (length ps) ≡ true → are_types program (types_of ps) ≡ true →
      is_type program (head_type h ps) ≡ true
  head_typed (heads.Base bases.Bool) ps fits known s = refl
  head_typed (heads.Opaque o) ps fits known s = and_true _ _ s (counted ps (opaque_arguments (opaque_view o)) fits)
  head_typed heads.Tuple ps fits known s = and_true _ _ s (ap (λ (n : ℕ). nat_lt n (2 ^ 32)) (count_back ps) ∙ known)
  head_typed (heads.Point mutable) ps fits known s =
      let one = one_typed program ps fits s in
      ap (λ (qs : List MType). is_type program (head_type (heads.Point mutable) qs)) one.1 ∙ one.2
  head_typed heads.Slice ps fits known s =
      let one = one_typed program ps fits s in
      ap (λ (qs : List MType). is_type program (head_type heads.Slice qs)) one.1 ∙ one.2
  head_typed (heads.Array n) ps fits known s =
      let one = one_typed program ps fits s in
      ap (λ (qs : List MType). is_type program (head_type (heads.Array n) qs)) one.1 ∙ and_true _ _ one.2 known
  head_typed (heads.Named (owners.Item i)) ps fits known s = item_typed i ps fits known
  head_typed (heads.Named owners.Option) ps fits known s = s
  head_typed (heads.Named owners.Result) ps fits known s = s
  head_typed _ ps fits known s = refl

-- what holds of each holds of the one with this number
pub holds_at : {A : Type 0} (P : A → Type 0) (xs : List A) → AllByRecursion P xs → (i : ℕ) (x : A) → slice_get xs i ≡ Some x → P x
holds_at P [] all i x h = absurd (nothing h)
  where
    nothing : None ≡ Some x → ⊥
    nothing k = cc
holds_at P (y ∷ ys) all zero x h = let same : y ≡ x = cc in subst P same all.0
holds_at P (y ∷ ys) all (suc i) x h = holds_at P ys all.1 i x h

-- how many fields there are
pub fields_few : (types : List MType) (v : VariantEntry) → HasFewFields v → (ts : MTypes) → form_types (variant_entry types v).form ≡ ts → length (types_list ts) < 4294967296
fields_few types v few ts e =
    let count : length (types_list ts) ≡ fields_of_entry v = ap (λ (us : MTypes). length (types_list us)) (sym e) ∙ fields_count types v in
    let most : fields_of_entry v ≤ length v.fields.items = at_most v.form in
    let lt : length v.fields.items < 4294967296 = few in
    omega (arith, count, most, lt)
  where
    at_most : (k : FormKind) → fields_with k (length v.fields.items) ≤ length v.fields.items
    at_most form_kinds.Unit = omega arith
    at_most form_kinds.Tuple = omega arith
    at_most form_kinds.Brace = omega arith

variants_few : (types : List MType) (vs : List VariantEntry) → AllByRecursion HasFewFields vs →
    (k : ℕ) (ts : MTypes) → variant_types (slice_get (map (variant_entry types) vs) k) ≡ Some ts → length (types_list ts) < 4294967296
variants_few types [] few k ts e = absurd (nothing e)
  where
    nothing : None ≡ Some ts → ⊥
    nothing k = cc
variants_few types (v ∷ vs) few zero ts e = let same : form_types (variant_entry types v).form ≡ ts = cc in fields_few types v few.0 ts same
variants_few types (v ∷ vs) few (suc k) ts e = variants_few types vs few.1 k ts e

entry_few : (types : List MType) (e : Entry) → IsFew e → (k : ℕ) (ts : MTypes) → item_types (Some (entry_told types e).item) k ≡ Some ts → length (types_list ts) < 4294967296
entry_few types (entry_kinds.Struct id v) few k ts h = variants_few types (v ∷ []) (few, tt) k ts h
entry_few types (entry_kinds.Enum id name later variants) few k ts h = variants_few types variants.items (recursion_from_All HasFewFields variants.items few.1) k ts h
entry_few types _ few k ts h = variants_few types [] tt k ts h

pub items_few : (types : List MType) (es : List Entry) → AllByRecursion IsFew es →
    (i k : ℕ) (ts : MTypes) → item_types (slice_get (map (λ e. (entry_told types e).item) es) i) k ≡ Some ts → length (types_list ts) < 4294967296
items_few types [] few i k ts h = variants_few types [] tt k ts h
items_few types (e ∷ es) few zero k ts h = entry_few types e few.0 k ts h
items_few types (e ∷ es) few (suc i) k ts h = items_few types es few.1 i k ts h

module _ (width : Width) (nodes : List Node) (entries : List Entry) (are : AreNodes nodes) (below : list_all (entry_below (length nodes)) entries ≡ true)
    (known : All (IsKnown entries) nodes) (few : All IsFew entries) where
  abbrev program : MProgram
  program = program_in width nodes entries

  node_typed : (i : ℕ) (k : Node) → slice_get nodes i ≡ Some k →
      are_types program (types_of (map (type_at (types_in nodes)) k.parts.items)) ≡ true → is_type program (node_type (types_in nodes) k) ≡ true
  node_typed i k there parts =
      let count : length (map (type_at (types_in nodes)) k.parts.items) ≡ length k.parts.items = rw length-map refl in
      head_typed program entries (declared_item (types_in nodes) entries) k.head (map (type_at (types_in nodes)) k.parts.items)
      (ap (fits_head k.head) count ∙ (are i k there).1)
      (ap (is_known_head entries k.head) count ∙ holds_at (IsKnown entries) nodes (recursion_from_All (IsKnown entries) nodes known) i k there)
      parts

  pub types_typed : (a : ℕ) → a < length nodes → is_type program (type_at (types_in nodes) a) ≡ true
  types_typed = types_pass (is_type program) (are_types program) refl (all_typed program) nodes are node_typed (length nodes) (omega arith)

  fields_typed : FieldsAreTypes program
  fields_typed i k ts h = items_pass (is_type program) (are_types program) refl (all_typed program) (types_in nodes) (length nodes) types_typed entries below i k ts h

  pub sound_program : NoneEndless program → IsSoundProgram program
  sound_program none = record {
    fields = fields_typed;
    few = λ i k ts h. items_few (types_in nodes) entries (recursion_from_All IsFew entries few) i k ts h;
    finite = λ i declared. finite i declared (finite_or_none program fields_typed (DeclaredItem i) no_types (and_true _ _ declared refl));
  }
    where
      finite : (i : ℕ) → is_declared (slice_get program.items i) ≡ true →
          Found program false (NamedType (DeclaredItem i) no_types) ⊎ ((v : MValue) → is_value program false (NamedType (DeclaredItem i) no_types) v ≡ false) →
          (arguments : MTypes) × (v : MValue) × (is_value program false (NamedType (DeclaredItem i) arguments) v ≡ true)
      finite i declared (inl (v, h)) = (no_types, v, h)
      finite i declared (inr endless) = absurd (none i (record { declared = declared; endless = endless }))
