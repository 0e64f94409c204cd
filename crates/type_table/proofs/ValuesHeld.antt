-- Marks that are closed under the clauses have each node whose type has a value.
use Rattle.std.proofs.Common.{◌≡◌, ℕ, ℤ, ◌<◌, zero, suc, Bool, true, false, not, ◌&&◌, ◌||◌, cond, List, [], ◌∷◌, map, length, Option, Some, None, refl, ap, sym, ◌∙◌, arith}
use Rattle.std.specs.Prelude.{slice_get, nat_lt, nat_eq}
use Rattle.std.specs.List.{list_all}
use Rattle.std.specs.Rc.{rc_str_bytes}
use Rattle.std.proofs.lemmas.Bool.{ltb-true, lt-ltb, eqb-true, and_parts, and_from, or_left, or_right}
use mathlib.Core.Bool.{beq}
use Rattle.match_model.specs.declared.Width.{Width}
use Rattle.match_model.specs.Types.{DeclaredItem, MType, BoolType, CharType, StrType, NeverType, IntType, OpaqueType, TupleType, PointType, SliceType, ArrayType, NamedType, MTypes, no_types, more_types, types_of, types_list}
use Rattle.match_model.specs.Declarations.{MVariant, MItem, EnumItem, MProgram, variant_types, item_types, item_variants, item_is_marked, item_is_bare, is_constructorless, node_types}
use Rattle.match_model.specs.Values.{MValue, Flag, Num, Text, Node, Point, Row, Thing, Later, Unseen, MValues, no_values, more_values, values_list}
use Rattle.match_model.specs.Typing.{is_value, are_values, all_are_values, item_type, type_behind}
use Rattle.match_model.proofs.Basics.{both, found, untrue, nothing, nat_equal}
use Rattle.match_model.proofs.Empty.{type_if_is}
use Rattle.type_names.specs.declared.meanings.Base.TheVariants as bases
use Rattle.type_names.specs.declared.meanings.Owner.TheVariants as owners
use Rattle.type_table.specs.declared.nodes.Head.{Head}
use Rattle.type_table.specs.declared.nodes.Head.TheVariants as heads
use Rattle.type_table.specs.declared.nodes.Node as declared_node
use Rattle.type_table.specs.declared.entries.VariantEntry.{VariantEntry}
use Rattle.type_table.specs.declared.entries.Entry.{Entry}
use Rattle.type_table.specs.declared.entries.Entry.TheVariants as entry_kinds
use Rattle.type_table.specs.Nodes.{AreNodes, types_in, type_at, type_there, head_type, fits_head, are_below}
use Rattle.type_table.specs.Entries.{entry_told, variant_entry, entry_below, variant_below}
use Rattle.type_table.specs.Bodies.{outright, unseen_bodies, point_bodies, variant_body, least_asking, enum_bodies, entry_bodies, item_bodies, node_bodies, bodies_of}
use Rattle.type_table.specs.Possible.{program_in}
use Rattle.type_table.proofs.NodeLemmas.{type_of_node, item_at, map_has}
use Rattle.type_table.proofs.FieldLemmas.{all_at}
use Rattle.type_table.proofs.PlainTypes.{variants_in, item_in, fields_in}
use Rattle.type_table.proofs.ByValue.{mapped}
use Rattle.type_table.proofs.BodyLists.{some_body, among_some, least_says, within_variant, below_more}
use Rattle.type_table.proofs.ValuesFound.{variant_fields, one_part}

-- a type whose node may ask something
abbrev asks : MType → Bool
asks NeverType = true
asks (TupleType ts) = true
asks (PointType mutable t) = true
asks (ArrayType t n) = true
asks (NamedType owner args) = true
asks _ = false

-- the value is of no such type
abbrev IsLeaf : MProgram → (sure : Bool) → MValue → Type 0
IsLeaf program sure v = (t : MType) → asks t ≡ true → is_value program sure t v ≡ true → ⊥

flag_leaf : (program : MProgram) (sure b : Bool) → IsLeaf program sure (Flag b)
flag_leaf program sure b BoolType a h = untrue a
flag_leaf program sure b _ a h = cc

num_leaf : (program : MProgram) (sure : Bool) (n : ℤ) → IsLeaf program sure (Num n)
num_leaf program sure n CharType a h = untrue a
num_leaf program sure n (IntType kind) a h = untrue a
num_leaf program sure n _ a h = cc

text_leaf : (program : MProgram) (sure : Bool) (u : List ℕ) → IsLeaf program sure (Text u)
text_leaf program sure u StrType a h = untrue a
text_leaf program sure u _ a h = cc

thing_leaf : (program : MProgram) (sure : Bool) → IsLeaf program sure Thing
thing_leaf program sure (OpaqueType name args) a h = untrue a
thing_leaf program sure _ a h = cc

-- what is not there is not there when it is mapped
none_mapped : {A B : Type 0} (f : A → B) (xs : List A) (j : ℕ) → slice_get xs j ≡ None → slice_get (map f xs) j ≡ None
none_mapped f [] j e = refl
none_mapped f (x ∷ xs) zero e = absurd cc
none_mapped f (x ∷ xs) (suc j) e = none_mapped f xs j e

type_behind_point : (u inner : MType) (n m : Bool) → type_behind (PointType n u) m ≡ Some inner → u ≡ inner
type_behind_point u inner n m e = (type_if_is (beq n m) u inner e).1

module _ (width : Width) (sure : Bool) (nodes : List declared_node.Node) (entries : List Entry) (are : AreNodes nodes) (below : list_all (entry_below (length nodes)) entries ≡ true)
    (held : ℕ → Bool) (closed : (n : ℕ) (k : declared_node.Node) → slice_get nodes n ≡ Some k → some_body held (bodies_of sure entries k) ≡ true → held n ≡ true) where
  abbrev program : MProgram
  program = program_in width nodes entries

  abbrev types : List MType
  types = types_in nodes

  abbrev Parts : List ℕ → MTypes
  Parts parts = types_of (map (type_at types) parts)

  -- one of the node's bodies holds, where a value of its type is this
  abbrev Body : Head → List ℕ → MValue → Type 0
  Body h parts v = is_value program sure (head_type h (map (type_at types) parts)) v ≡ true → some_body held (node_bodies sure entries h parts) ≡ true

  one_body : (b : List ℕ) → list_all held b ≡ true → some_body held (b ∷ []) ≡ true
  one_body b h = or_left (list_all held b) false h

  leaf_body : (v : MValue) → IsLeaf program sure v → (h : Head) (parts : List ℕ) → Body h parts v
  leaf_body v leaf (heads.Base bases.Never) parts h = absurd (leaf NeverType refl h)
  leaf_body v leaf heads.Tuple parts h = absurd (leaf (TupleType (Parts parts)) refl h)
  leaf_body v leaf (heads.Point mutable) parts h = absurd (leaf (head_type (heads.Point mutable) (map (type_at types) parts)) refl h)
  leaf_body v leaf (heads.Array n) parts h = absurd (leaf (head_type (heads.Array n) (map (type_at types) parts)) refl h)
  leaf_body v leaf (heads.Named (owners.Item i)) parts h = absurd (leaf (NamedType (DeclaredItem i) (Parts parts)) refl h)
  leaf_body v leaf (heads.Named owners.Result) parts h = absurd (leaf (head_type (heads.Named owners.Result) (map (type_at types) parts)) refl h)
  leaf_body v leaf _ parts h = refl

  -- ---- values that have parts

  -- what is known of the parts of a node's value
  abbrev KnownParts : MValues → Type 0
  KnownParts vs = (parts : List ℕ) → are_below parts (length nodes) ≡ true → are_values program sure (Parts parts) vs ≡ true → list_all held parts ≡ true

  variant_held : (v : VariantEntry) (ts : MTypes) (vs : MValues) → variant_below (length nodes) v ≡ true → variant_types (Some (variant_entry types v)) ≡ Some ts →
      are_values program sure ts vs ≡ true → KnownParts vs → list_all held (variant_body v) ≡ true
  variant_held v ts vs within is h known =
      let same : ts ≡ Parts (variant_body v) = some_same (sym is ∙ ap Some (variant_fields types v)) in
      known (variant_body v) (within_variant (length nodes) v within) (ap (λ (us : MTypes). are_values program sure us vs) (sym same) ∙ h)
    where
      some_same : {us : MTypes} → Some ts ≡ Some us → ts ≡ us
      some_same e = cc

  variants_held : (variants : List VariantEntry) (k : ℕ) (ts : MTypes) (vs : MValues) → list_all (variant_below (length nodes)) variants ≡ true →
      variant_types (slice_get (map (variant_entry types) variants) k) ≡ Some ts → are_values program sure ts vs ≡ true → KnownParts vs → some_body held (map variant_body variants) ≡ true
  variants_held [] k ts vs within is h known = absurd cc
  variants_held (v ∷ variants) zero ts vs within is h known =
      or_left _ _ (variant_held v ts vs (and_parts (variant_below (length nodes) v) (list_all (variant_below (length nodes)) variants) within).0 is h known)
  variants_held (v ∷ variants) (suc k) ts vs within is h known =
      or_right _ _ (variants_held variants k ts vs (and_parts (variant_below (length nodes) v) (list_all (variant_below (length nodes)) variants) within).1 is h known)

  enum_held : (s later : Bool) (bodies : List (List ℕ)) → some_body held bodies ≡ true → some_body held (enum_bodies s later bodies) ≡ true
  enum_held s true bodies h = refl
  enum_held true false bodies h = sym (least_says held bodies) ∙ h
  enum_held false false [] h = refl
  enum_held false false (b ∷ bs) h = sym (least_says held (b ∷ bs)) ∙ h

  entry_held : (e : Entry) (k : ℕ) (ts : MTypes) (vs : MValues) → entry_below (length nodes) e ≡ true → item_types (Some (entry_told types e).item) k ≡ Some ts →
      are_values program sure ts vs ≡ true → KnownParts vs → some_body held (entry_bodies sure e) ≡ true
  entry_held (entry_kinds.Struct id v) zero ts vs within is h known =
      one_body (variant_body v) (variant_held v ts vs (and_parts (nat_lt id (length nodes)) (variant_below (length nodes) v) within).1 is h known)
  entry_held (entry_kinds.Enum id name later variants) k ts vs within is h known =
      enum_held sure later (map variant_body variants.items)
      (variants_held variants.items k ts vs (and_parts (nat_lt id (length nodes)) (list_all (variant_below (length nodes)) variants.items) within).1 is h known)
  entry_held _ k ts vs within is h known = absurd cc

  item_held : (i : ℕ) (args : MTypes) (o : Option Entry) → slice_get entries i ≡ o → (k : ℕ) (ts : MTypes) (vs : MValues) → node_types program (NamedType (DeclaredItem i) args) k ≡ Some ts →
      are_values program sure ts vs ≡ true → KnownParts vs → some_body held (item_bodies sure o) ≡ true
  item_held i args (Some e) at k ts vs is h known =
      entry_held e k ts vs (all_at (entry_below (length nodes)) entries i e below at) (sym (fields_in width nodes entries are below i e args k at) ∙ is) h known
  item_held i args None at k ts vs is h known =
      let none : node_types program (NamedType (DeclaredItem i) args) k ≡ None =
      ap (λ (ws : List MVariant). variant_types (slice_get ws k)) (variants_in width nodes entries are below i args)
      ∙ ap (λ (o : Option MItem). item_types o k) (none_mapped (λ e. (entry_told types e).item) entries i at) in
      absurd (nothing ts (sym none ∙ is))

  result_held : (parts : List ℕ) → nat_eq (length parts) 2 ≡ true → are_below parts (length nodes) ≡ true → (k : ℕ) (vs : MValues) →
      is_value program sure (head_type (heads.Named owners.Result) (map (type_at types) parts)) (Node k vs) ≡ true → KnownParts vs →
      some_body held (node_bodies sure entries (heads.Named owners.Result) parts) ≡ true
  result_held [] fits within k vs h known = let e : length none ≡ 2 = eqb-true (length none) 2 fits in absurd (omega arith)
    where
      none : List ℕ
      none = []
  result_held (p ∷ []) fits within k vs h known = let e : length (p ∷ []) ≡ 2 = eqb-true (length (p ∷ [])) 2 fits in absurd (omega arith)
  result_held (p ∷ q ∷ []) fits within zero vs h known =
      let low = and_parts (nat_lt p (length nodes)) (are_below (q ∷ []) (length nodes)) within in
      or_left (list_all held (p ∷ [])) _ (known (p ∷ []) (and_from (nat_lt p (length nodes)) true low.0 refl) h)
  result_held (p ∷ q ∷ []) fits within (suc zero) vs h known =
      let low = and_parts (nat_lt p (length nodes)) (are_below (q ∷ []) (length nodes)) within in
      or_right (list_all held (p ∷ [])) _ (or_left (list_all held (q ∷ [])) false (known (q ∷ []) low.1 h))
  result_held (p ∷ q ∷ []) fits within (suc (suc k)) vs h known = absurd (untrue h)
  result_held (p ∷ q ∷ r ∷ ps) fits within k vs h known = let e : length (p ∷ q ∷ r ∷ ps) ≡ 2 = eqb-true (length (p ∷ q ∷ r ∷ ps)) 2 fits in absurd (omega arith)

  node_body : (k : ℕ) (vs : MValues) → KnownParts vs → (h : Head) (parts : List ℕ) → fits_head h (length parts) ≡ true → are_below parts (length nodes) ≡ true → Body h parts (Node k vs)
  node_body k vs known (heads.Base bases.Never) parts fits within h = absurd (untrue h)
  node_body zero vs known heads.Tuple parts fits within h = one_body parts (known parts within h)
  node_body (suc k) vs known heads.Tuple parts fits within h = absurd (untrue h)
  node_body k vs known (heads.Point mutable) parts fits within h = absurd (untrue h)
  node_body k vs known (heads.Array n) parts fits within h = absurd (untrue h)
  node_body k vs known (heads.Named (owners.Item i)) parts fits within h =
      let r = found (node_types program (NamedType (DeclaredItem i) (Parts parts)) k) (λ ts. are_values program sure ts vs) h in
      item_held i (Parts parts) (slice_get entries i) refl k r.0 vs r.1 r.2 known
  node_body k vs known (heads.Named owners.Result) parts fits within h = result_held parts fits within k vs h known
  node_body k vs known _ parts fits within h = refl

  -- what is known of the value behind a reference
  abbrev KnownInner : MValue → Type 0
  KnownInner v = sure ≡ false → (p : ℕ) → p < length nodes → is_value program false (type_at types p) v ≡ true → held p ≡ true

  point_held : (s : Bool) → sure ≡ s → (n m : Bool) (v : MValue) (p : ℕ) → p < length nodes → is_value program sure (PointType n (type_at types p)) (Point m v) ≡ true → KnownInner v →
      some_body held (point_bodies s (p ∷ [])) ≡ true
  point_held true e n m v p lt h known = refl
  point_held false e n m v p lt h known =
      let r = found (type_behind (PointType n (type_at types p)) m) (λ u. is_value program false u v) h in
      one_body (p ∷ [])
      (and_from (held p) true (known e p lt (ap (λ u. is_value program false u v) (type_behind_point (type_at types p) r.0 n m r.1) ∙ r.2)) refl)

  part_low : (p : ℕ) (parts : List ℕ) → parts ≡ p ∷ [] → are_below parts (length nodes) ≡ true → p < length nodes
  part_low p parts e within = ltb-true p (length nodes) (and_parts (nat_lt p (length nodes)) true (ap (λ (ps : List ℕ). are_below ps (length nodes)) (sym e) ∙ within)).0

  point_body : (m : Bool) (v : MValue) → KnownInner v → (h : Head) (parts : List ℕ) → fits_head h (length parts) ≡ true → are_below parts (length nodes) ≡ true → Body h parts (Point m v)
  point_body m v known (heads.Base bases.Never) parts fits within h = absurd (untrue h)
  point_body m v known heads.Tuple parts fits within h = absurd (untrue h)
  point_body m v known (heads.Point mutable) parts fits within h =
      let one = one_part parts fits in
      ap (λ (ps : List ℕ). some_body held (point_bodies sure ps)) one.1
      ∙ point_held sure refl mutable m v one.0 (part_low one.0 parts one.1 within)
      (ap (λ (ps : List ℕ). is_value program sure (head_type (heads.Point mutable) (map (type_at types) ps)) (Point m v)) (sym one.1) ∙ h) known
  point_body m v known (heads.Array n) parts fits within h = absurd (untrue h)
  point_body m v known (heads.Named (owners.Item i)) parts fits within h = absurd (untrue h)
  point_body m v known (heads.Named owners.Result) parts fits within h = absurd (untrue h)
  point_body m v known _ parts fits within h = refl

  -- what is known of the items of a row
  abbrev KnownItems : MValues → Type 0
  KnownItems vs = (p : ℕ) → p < length nodes → all_are_values program sure (type_at types p) vs ≡ true → (nat_eq (length (values_list vs)) 0 || held p) ≡ true

  array_held : (n : ℕ) (vs : MValues) (p : ℕ) → p < length nodes → is_value program sure (ArrayType (type_at types p) n) (Row vs) ≡ true → KnownItems vs →
      some_body held (cond (nat_eq n 0) outright ((p ∷ []) ∷ [])) ≡ true
  array_held n vs p lt h known =
      let r = found (item_type (ArrayType (type_at types p) n) (length (values_list vs))) (λ u. all_are_values program sure u vs) h in
      let is = type_if_is (nat_eq (length (values_list vs)) n) (type_at types p) r.0 r.1 in
      by (nat_eq n 0)
      (ap (λ (m : ℕ). nat_eq m 0 || held p) (sym (nat_equal (length (values_list vs)) n is.0)) ∙ known p lt (ap (λ u. all_are_values program sure u vs) is.1 ∙ r.2))
    where
      by : (c : Bool) → (c || held p) ≡ true → some_body held (cond c outright ((p ∷ []) ∷ [])) ≡ true
      by true k = refl
      by false k = one_body (p ∷ []) (and_from (held p) true k refl)

  row_body : (vs : MValues) → KnownItems vs → (h : Head) (parts : List ℕ) → fits_head h (length parts) ≡ true → are_below parts (length nodes) ≡ true → Body h parts (Row vs)
  row_body vs known (heads.Base bases.Never) parts fits within h = absurd (untrue h)
  row_body vs known heads.Tuple parts fits within h = absurd (untrue h)
  row_body vs known (heads.Point mutable) parts fits within h = absurd (untrue h)
  row_body vs known (heads.Array n) parts fits within h =
      let one = one_part parts fits in
      ap (λ (ps : List ℕ). some_body held (cond (nat_eq n 0) outright (ps ∷ []))) one.1
      ∙ array_held n vs one.0 (part_low one.0 parts one.1 within)
      (ap (λ (ps : List ℕ). is_value program sure (head_type (heads.Array n) (map (type_at types) ps)) (Row vs)) (sym one.1) ∙ h) known
  row_body vs known (heads.Named (owners.Item i)) parts fits within h = absurd (untrue h)
  row_body vs known (heads.Named owners.Result) parts fits within h = absurd (untrue h)
  row_body vs known _ parts fits within h = refl

  -- ---- values without parts

  later_entry : (o : Option Entry) (item : Option MItem) → item_is_marked item ≡ true → ((e : Entry) → o ≡ Some e → item ≡ Some (entry_told types e).item) → (o ≡ None → item ≡ None) →
      some_body held (item_bodies sure o) ≡ true
  later_entry None item h there none = absurd (untrue (sym (ap item_is_marked (none refl)) ∙ h))
  later_entry (Some e) item h there none = by e (sym (ap item_is_marked (there e refl)) ∙ h)
    where
      by : (e : Entry) → item_is_marked (Some (entry_told types e).item) ≡ true → some_body held (entry_bodies sure e) ≡ true
      by (entry_kinds.Enum id name true variants) k = refl
      by (entry_kinds.Enum id name false variants) k = absurd (untrue k)
      by _ k = absurd cc

  bare_entry : sure ≡ false → (o : Option Entry) (item : Option MItem) → item_is_bare item ≡ true → ((e : Entry) → o ≡ Some e → item ≡ Some (entry_told types e).item) → (o ≡ None → item ≡ None) →
      some_body held (item_bodies sure o) ≡ true
  bare_entry unsure None item h there none = absurd (untrue (sym (ap item_is_bare (none refl)) ∙ h))
  bare_entry unsure (Some e) item h there none = by e (sym (ap item_is_bare (there e refl)) ∙ h)
    where
      no_variants : (s : Bool) → s ≡ false → (name : List ℕ) (later : Bool) (vs : List VariantEntry) → item_is_bare (Some (EnumItem name later (map (variant_entry types) vs))) ≡ true →
          some_body held (enum_bodies s later (map variant_body vs)) ≡ true
      no_variants s f name true vs h = refl
      no_variants false f name false [] h = refl
      no_variants false f name false (v ∷ vs) h = absurd (untrue h)
      no_variants true f name false vs h = absurd (untrue (sym f))

      by : (e : Entry) → item_is_bare (Some (entry_told types e).item) ≡ true → some_body held (entry_bodies sure e) ≡ true
      by (entry_kinds.Enum id name later variants) k = no_variants sure unsure (rc_str_bytes name) later variants.items k
      by _ k = absurd cc

  told_item : (i : ℕ) (e : Entry) → slice_get entries i ≡ Some e → slice_get program.items i ≡ Some (entry_told types e).item
  told_item i e at = item_in width nodes entries are below i e at

  told_none : (i : ℕ) → slice_get entries i ≡ None → slice_get program.items i ≡ None
  told_none i at = none_mapped (λ e. (entry_told types e).item) entries i at

  later_body : (h : Head) (parts : List ℕ) → Body h parts Later
  later_body (heads.Base bases.Never) parts h = absurd (untrue h)
  later_body heads.Tuple parts h = absurd (untrue h)
  later_body (heads.Point mutable) parts h = absurd (untrue h)
  later_body (heads.Array n) parts h = absurd (untrue h)
  later_body (heads.Named (owners.Item i)) parts h = later_entry (slice_get entries i) (slice_get program.items i) h (told_item i) (told_none i)
  later_body (heads.Named owners.Result) parts h = absurd (untrue h)
  later_body _ parts h = refl

  never_body : (s : Bool) → not s ≡ true → some_body held (unseen_bodies s) ≡ true
  never_body true h = absurd (untrue h)
  never_body false h = refl

  is_unsure : (s b : Bool) → (not s && b) ≡ true → (s ≡ false) × (b ≡ true)
  is_unsure false b h = (refl, h)
  is_unsure true b h = absurd (untrue h)

  no_unseen : (s : Bool) → (not s && false) ≡ true → ⊥
  no_unseen true h = untrue h
  no_unseen false h = untrue h

  unseen_body : (h : Head) (parts : List ℕ) → Body h parts Unseen
  unseen_body (heads.Base bases.Never) parts h = never_body sure (both (not sure) true h).0
  unseen_body heads.Tuple parts h = absurd (no_unseen sure h)
  unseen_body (heads.Point mutable) parts h = absurd (no_unseen sure h)
  unseen_body (heads.Array n) parts h = absurd (no_unseen sure h)
  unseen_body (heads.Named (owners.Item i)) parts h =
      let k = is_unsure sure (item_is_bare (slice_get program.items i)) h in
      bare_entry k.0 (slice_get entries i) (slice_get program.items i) k.1 (told_item i) (told_none i)
  unseen_body (heads.Named owners.Result) parts h = absurd (no_unseen sure h)
  unseen_body _ parts h = refl

  -- ---- all values

  -- a node is marked, where one of its bodies holds
  node_held : (v : MValue) → ((h : Head) (parts : List ℕ) → fits_head h (length parts) ≡ true → are_below parts (length nodes) ≡ true → Body h parts v) →
      (n : ℕ) → n < length nodes → is_value program sure (type_at types n) v ≡ true → held n ≡ true
  node_held v body n lt h =
      let k = item_at nodes n lt in
      let type : type_at types n ≡ head_type k.0.head (map (type_at types) k.0.parts.items) = ap type_there (type_of_node nodes n k.0 are k.1) in
      closed n k.0 k.1
      (body k.0.head k.0.parts.items (are n k.0 k.1).1 (below_more k.0.parts.items n (length nodes) (omega (arith, lt)) (are n k.0 k.1).0)
      (ap (λ t. is_value program sure t v) (sym type) ∙ h))

  mutual
    pub value_held : (v : MValue) (n : ℕ) → n < length nodes → is_value program sure (type_at types n) v ≡ true → held n ≡ true
    value_held (Node k vs) n lt h = node_held (Node k vs) (node_body k vs (λ parts within g. values_held vs parts within g)) n lt h
    value_held (Point m v) n lt h =
        node_held (Point m v) (point_body m v (λ e p low g. value_held v p low (ap (λ s. is_value program s (type_at types p) v) e ∙ g))) n lt h
    value_held (Row vs) n lt h = node_held (Row vs) (row_body vs (λ p low g. items_held vs p low g)) n lt h
    value_held (Flag b) n lt h = node_held (Flag b) (λ hd parts fits within. leaf_body (Flag b) (flag_leaf program sure b) hd parts) n lt h
    value_held (Num m) n lt h = node_held (Num m) (λ hd parts fits within. leaf_body (Num m) (num_leaf program sure m) hd parts) n lt h
    value_held (Text u) n lt h = node_held (Text u) (λ hd parts fits within. leaf_body (Text u) (text_leaf program sure u) hd parts) n lt h
    value_held Thing n lt h = node_held Thing (λ hd parts fits within. leaf_body Thing (thing_leaf program sure) hd parts) n lt h
    value_held Later n lt h = node_held Later (λ hd parts fits within. later_body hd parts) n lt h
    value_held Unseen n lt h = node_held Unseen (λ hd parts fits within. unseen_body hd parts) n lt h

    values_held : (vs : MValues) (parts : List ℕ) → are_below parts (length nodes) ≡ true → are_values program sure (Parts parts) vs ≡ true → list_all held parts ≡ true
    values_held no_values [] within h = refl
    values_held no_values (p ∷ ps) within h = absurd (untrue h)
    values_held (more_values v vs) [] within h = absurd (untrue h)
    values_held (more_values v vs) (p ∷ ps) within h =
        let low = and_parts (nat_lt p (length nodes)) (are_below ps (length nodes)) within in
        let b = both (is_value program sure (type_at types p) v) _ h in
        and_from (held p) (list_all held ps) (value_held v p (ltb-true p (length nodes) low.0) b.0) (values_held vs ps low.1 b.1)

    items_held : (vs : MValues) (p : ℕ) → p < length nodes → all_are_values program sure (type_at types p) vs ≡ true → (nat_eq (length (values_list vs)) 0 || held p) ≡ true
    items_held no_values p low h = refl
    items_held (more_values v vs) p low h = or_right _ _ (value_held v p low (both (is_value program sure (type_at types p) v) _ h).0)
