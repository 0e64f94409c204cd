-- The patterns of structs and variants: their nodes pass the tests where those of their fields do.
use Rattle.std.proofs.Common.{◌≡◌, ℕ, zero, suc, ◌+◌, Bool, true, false, not, ◌||◌, List, [], ◌∷◌, ◌++◌, map, length}
use Rattle.std.proofs.Common.{slice_get, Option, Some, None, option_map, position, refl, sym, ap, subst, ◌∙◌, arith}
use Rattle.std.proofs.Common.{bytes_eq}
use Rattle.std.proofs.lemmas.Option.{slice_get-map}
use Rattle.std.proofs.lemmas.Slice.Eq.{bytes_eq-Decides}
use Rattle.list_members.specs.Members.{repeats}
use Rattle.match_model.specs.declared.Mode.TheVariants.{Move}
use Rattle.match_model.specs.Constructors.{MSet, SingleSet}
use Rattle.match_model.specs.Declarations.{MField, MForm, UnitForm, TupleForm, BraceForm, MVariant, MProgram}
use Rattle.match_model.specs.Declarations.{form_types, variant_types, variants_of, node_types}
use Rattle.match_model.specs.OfType.{node_ctor}
use Rattle.match_model.specs.RustTypes.{rust_set, rust_sub, part_type, type_or}
use Rattle.match_model.specs.Types.{MOwner, MType, NamedType, MTypes, types_list, types_of}
use Rattle.match_model.specs.Witness.{NodeOf, MWitnesses, no_witnesses, more_witnesses}
use Rattle.match_model.proofs.Basics.{or_left, or_right}
use Rattle.decl_syntax.specs.Patterns as patterns
use Rattle.type_names.specs.Finding.{FoundTree, path_finds}
use Rattle.type_names.specs.Meanings.{is_name}
use Rattle.type_names.specs.NameRules.{is_among}
use Rattle.type_names.proofs.Places.{position_hit, position_skip}
use Rattle.pattern_rules.specs.Namings.{is_short, found_if, found_by, found_ctor, field_names, fields_found}
use Rattle.pattern_rules.specs.Namings.{field_number}
use Rattle.pattern_rules.specs.NodeRules.{written_names, some_absent}
use Rattle.pattern_rules.specs.Nodes.{Standing, Elsewhere, nodes, names_bound, field_nodes, part_types}
use Rattle.pattern_rules.specs.Settings.{Setting, program, place}
use Rattle.pattern_laws.proofs.FineNodes.{AllNodes}
use Rattle.witness_text.specs.Trees.{NameTree, PlainName, VariantName, WitnessTree, OfTupleForm, OfBraceForm}
use Rattle.witness_text.specs.Trees.{trees_of, fields_of}
use Rattle.witness_names.specs.declared.paths.Paths.TheVariants.{Whole}
use Rattle.witness_names.specs.Named.{name_by, named_by, parts_by, named_fields, form_tree, variant_tree, types_there}
use Rattle.arm_maker.proofs.Typed.{AreParts}
use Rattle.arm_laws.specs.Found.{kind_in, AreNamesOf, IsVariantFound, FindsVariant}
use Rattle.arm_laws.specs.Patterns.{path_of, unit_shape, unplaced, arm_shape, arm_shapes, arm_fields}
use Rattle.arm_laws.proofs.FineTests.{PassesAll, all_append}
use Rattle.arm_laws.proofs.FineLeaves.{IsFoundIn, not_no, neither, wild, name_alone, path_alone, tuple_form}
use Rattle.arm_laws.proofs.FineLeaves.{brace_form}
use Rattle.arm_laws.proofs.FineNumbers.{AllPass}
use Rattle.arm_laws.proofs.FineLists.{rests_none, trees_count, exact_count, no_rests, ArePassing, parts_count}
use Rattle.arm_laws.proofs.FineLists.{parts_pass, plus_none}

-- ---- names in a list

same_name : (name : List ℕ) → bytes_eq name name ≡ true
same_name name = (bytes_eq-Decides name name).1 refl

none_of : (b c : Bool) → (b || c) ≡ false → (b ≡ false) × (c ≡ false)
none_of false c h = (refl, h)
none_of true c h = absurd cc

last_unlike : (name other : List ℕ) (before : List (List ℕ)) → is_among name (before ++ other ∷ []) ≡ false →
    bytes_eq name other ≡ false
last_unlike name other [] h = (none_of (bytes_eq name other) false h).0
last_unlike name other (b ∷ bs) h =
    last_unlike name other bs (none_of (bytes_eq name b) (is_among name (bs ++ other ∷ [])) h).1

others_unlike : (name other : List ℕ) (before : List (List ℕ)) → is_among name (before ++ other ∷ []) ≡ false →
    is_among name before ≡ false
others_unlike name other [] h = refl
others_unlike name other (b ∷ bs) h =
    let two = none_of (bytes_eq name b) (is_among name (bs ++ other ∷ [])) h in
    rw two.0 (others_unlike name other bs two.1)

unlike_before : (before names : List (List ℕ)) (k : ℕ) (name : List ℕ) → repeats bytes_eq before names ≡ false →
    slice_get names k ≡ Some name → is_among name before ≡ false
unlike_before before [] k name h e = absurd cc
unlike_before before (n ∷ ns) zero name h e =
    let same : n ≡ name = cc in
    ap (λ m. is_among m before) (sym same)
    ∙ (none_of (is_among n before) (repeats bytes_eq (before ++ n ∷ []) ns) h).0
unlike_before before (n ∷ ns) (suc k) name h e =
    others_unlike name n before (unlike_before (before ++ n ∷ []) ns k name
    (none_of (is_among n before) (repeats bytes_eq (before ++ n ∷ []) ns) h).1 e)

own_place : (before names : List (List ℕ)) (k : ℕ) (name : List ℕ) → repeats bytes_eq before names ≡ false →
    slice_get names k ≡ Some name → position (λ n. is_name name (Some n)) names ≡ Some k
own_place before [] k name h e = absurd cc
own_place before (n ∷ ns) zero name h e =
    let same : n ≡ name = cc in
    position_hit (λ n. is_name name (Some n)) n ns (ap (bytes_eq name) same ∙ same_name name)
own_place before (n ∷ ns) (suc k) name h e =
    let later = (none_of (is_among n before) (repeats bytes_eq (before ++ n ∷ []) ns) h).1 in
    position_skip (λ n. is_name name (Some n)) n ns
    (last_unlike name n before (unlike_before (before ++ n ∷ []) ns k name later e))
    ∙ ap (option_map suc) (own_place (before ++ n ∷ []) ns k name later e)

number_at : (names : List (List ℕ)) (k : ℕ) (name : List ℕ) → repeats bytes_eq [] names ≡ false →
    slice_get names k ≡ Some name → field_number names name ≡ k
number_at names k name h e = rw (own_place [] names k name h e) refl

among_middle : (x : List ℕ) (before rest : List (List ℕ)) → is_among x (before ++ x ∷ rest) ≡ true
among_middle x [] rest = or_left (bytes_eq x x) (is_among x rest) (same_name x)
among_middle x (b ∷ bs) rest = or_right (bytes_eq x b) (is_among x (bs ++ x ∷ rest)) (among_middle x bs rest)

moved : (before rest : List (List ℕ)) (x : List ℕ) → before ++ (x ∷ rest) ≡ (before ++ (x ∷ [])) ++ rest
moved [] rest x = refl
moved (b ∷ bs) rest x = ap (λ ys. b ∷ ys) (moved bs rest x)

none_absent_of : (names before : List (List ℕ)) → some_absent names (before ++ names) ≡ false
none_absent_of [] before = refl
none_absent_of (x ∷ xs) before =
    neither (not (is_among x (before ++ x ∷ xs))) (some_absent xs (before ++ x ∷ xs))
    (not_no (is_among x (before ++ x ∷ xs)) (among_middle x before xs))
    (ap (some_absent xs) (moved before xs x) ∙ none_absent_of xs (before ++ x ∷ []))

none_absent : (names those : List (List ℕ)) → names ≡ those → some_absent names those ≡ false
none_absent names those e = ap (some_absent names) (sym e) ∙ none_absent_of names []

-- ---- types and names of fields

list_again : (types : List MType) → types_list (types_of types) ≡ types
list_again [] = refl
list_again (t ∷ ts) = ap (λ us. t ∷ us) (list_again ts)

map_length : (fields : List MField) → length (map (λ (f : MField). f.type) fields) ≡ length fields
map_length [] = refl
map_length (f ∷ fs) = ap suc (map_length fs)

less_one : (a b : ℕ) → suc a ≡ suc b → a ≡ b
less_one a b e = omega (arith, e)

zero_one : {A : Type 0} (n : ℕ) → 0 ≡ suc n → A
zero_one n e = absurd (omega (arith, e))

fields_written : (fields : List MField) (parts : List WitnessTree) → length parts ≡ length fields →
    written_names (arm_fields (fields_of (named_fields fields parts))) ≡ map (λ (f : MField). f.name) fields
fields_written [] parts e = refl
fields_written (f ∷ fs) [] e = zero_one (length fs) e
fields_written (f ∷ fs) (w ∷ ws) e =
    ap (λ ns. f.name ∷ ns) (fields_written fs ws (less_one (length ws) (length fs) e))

node_sub : (program : MProgram) (set : MSet) (k : ℕ) (t : MType) (j : ℕ) →
    rust_sub program (node_ctor set k) t j ≡ part_type t (node_types program t k) j
node_sub program SingleSet zero t j = refl
node_sub program SingleSet (suc k) t j = refl
node_sub program set k t j = refl

part_there : (t : MType) (o : Option MTypes) (j : ℕ) → part_type t o j ≡ type_or t (slice_get (types_there o) j)
part_there t None j = refl
part_there t (Some ts) j = refl

short : (name : NameTree) → is_short (path_of name) ≡ true
short (PlainName name) = refl
short (VariantName owner name) = refl

found_short : (name : NameTree) (found : FoundTree) → found_if (is_short (path_of name)) found ≡ found
found_short name found = ap (λ b. found_if b found) (short name)

module _ (s : Setting) where
  fields_pass : (types : ℕ → MType) (names : List (List ℕ)) (u : MType) (fields : List MField) (ts : List MType)
      (ws : MWitnesses) → ((j : ℕ) (f : MField) → slice_get fields j ≡ Some f →
      types (field_number names f.name) ≡ type_or u (slice_get ts j)) → ArePassing s ts ws → (before : List (List ℕ)) →
      AllNodes (PassesAll s) (field_nodes s before types Move names
      (arm_fields (fields_of (named_fields fields (parts_by Whole (program s) ts ws)))))
  fields_pass types names u [] ts ws ok h before = tt
  fields_pass types names u (f ∷ fs) [] no_witnesses ok h before = tt
  fields_pass types names u (f ∷ fs) [] (more_witnesses w ws) ok h before = tt
  fields_pass types names u (f ∷ fs) (t ∷ ts) no_witnesses ok h before = tt
  fields_pass types names u (f ∷ fs) (t ∷ ts) (more_witnesses w ws) ok h before =
      let q = unplaced (arm_shape (named_by Whole (program s) t w)) in
      let qs = arm_fields (fields_of (named_fields fs (parts_by Whole (program s) ts ws))) in
      let first : types (field_number names f.name) ≡ t = ok 0 f refl in
      all_append (PassesAll s) (nodes s Elsewhere before (place (types (field_number names f.name)) Move) q)
      (field_nodes s (before ++ names_bound s q) types Move names qs)
      (subst (λ x. AllPass s Elsewhere before x q) (sym first) (h.0 Elsewhere before))
      (fields_pass types names u fs ts ws (λ j g e. ok (suc j) g e) h.1 (before ++ names_bound s q))

  -- a variant of the type with its parts
  module _ (owner : MOwner) (arguments : MTypes) (k : ℕ) (ws : MWitnesses) (v : MVariant)
      (there : slice_get (variants_of (program s) (NamedType owner arguments)) k ≡ Some v)
      (typed : AreParts (program s) (types_there (node_types (program s) (NamedType owner arguments) k)) ws)
      (passing : ArePassing s (types_there (node_types (program s) (NamedType owner arguments) k)) ws) where
    abbrev T : MType
    T = NamedType owner arguments

    abbrev Types : List MType
    Types = types_there (node_types (program s) T k)

    abbrev Parts : List WitnessTree
    Parts = parts_by Whole (program s) Types ws

    types_are : Types ≡ types_list (form_types v.form)
    types_are = ap (λ o. types_there (variant_types o)) there

    part_is : (found : FoundTree) → IsVariantFound s T k v found → (j : ℕ) →
        part_types s (found_ctor found) T j ≡ type_or T (slice_get Types j)
    part_is found f j =
        ap (λ c. rust_sub (program s) c T j) f.ctor
        ∙ (node_sub (program s) (rust_set (program s) T) k T j ∙ part_there T (node_types (program s) T k) j)

    of_kind : (form : MForm) → v.form ≡ form → (found : FoundTree) → IsVariantFound s T k v found →
        IsFoundIn s T (kind_in form) found
    of_kind form e found f = record {
      meets = f.meets;
      form = f.form ∙ ap (λ x. Some (kind_in x)) e;
    }

    unit_pass : v.form ≡ UnitForm → (name : NameTree) → IsVariantFound s T k v (path_finds s.items (path_of name)) →
        (st : Standing) (before : List (List ℕ)) → AllPass s st before T (unplaced (unit_shape name))
    unit_pass e (PlainName name) f st before =
        (name_alone s st before T name (of_kind UnitForm e (path_finds s.items (path_of (PlainName name))) f), tt)
    unit_pass e (VariantName o name) f st before = (
      path_alone s st before T (path_of (VariantName o name)) refl
          (of_kind UnitForm e (path_finds s.items (path_of (VariantName o name))) f),
      tt,
    )

    tuple_form_pass : (types : List MType) → v.form ≡ TupleForm types → (name : NameTree) →
        IsVariantFound s T k v (path_finds s.items (path_of name)) → (st : Standing) (before : List (List ℕ)) →
        AllPass s st before T (unplaced (arm_shape (OfTupleForm name (trees_of Parts))))
    tuple_form_pass types e name f st before =
        let qs = arm_shapes (trees_of Parts) in
        let found = found_by s (patterns.TupleForm (path_of name) qs) in
        let g : IsVariantFound s T k v found =
        subst (IsVariantFound s T k v) (sym (found_short name (path_finds s.items (path_of name)))) f in
        let names : length (field_names s.items found) ≡ length types =
        subst (λ x. AreNamesOf x (field_names s.items found)) e g.names in
        let many : length Parts ≡ length types =
        parts_count s Types ws typed
        ∙ (ap length types_are ∙ (ap (λ x. length (types_list (form_types x))) e ∙ ap length (list_again types))) in (
          tuple_form s st before T (path_of name) qs (short name) (of_kind (TupleForm types) e found g)
              (exact_count qs (fields_found s.items found) (rests_none (trees_of Parts))
              (trees_count Parts ∙ (many ∙ sym names)))
              (no_rests qs (rests_none (trees_of Parts))),
          parts_pass s (part_types s (found_ctor found) T) (fields_found s.items found) 0 T Types ws
              (λ j. ap (part_types s (found_ctor found) T) (plus_none j) ∙ part_is found g j) passing before,
        )

    brace_form_pass : (fields : List MField) → v.form ≡ BraceForm fields → (name : NameTree) →
        IsVariantFound s T k v (path_finds s.items (path_of name)) → (st : Standing) (before : List (List ℕ)) →
        AllPass s st before T (unplaced (arm_shape (OfBraceForm name (fields_of (named_fields fields Parts)))))
    brace_form_pass fields e name f st before =
        let fs = arm_fields (fields_of (named_fields fields Parts)) in
        let found = found_by s (patterns.Brace (path_of name) fs false) in
        let g : IsVariantFound s T k v found =
        subst (IsVariantFound s T k v) (sym (found_short name (path_finds s.items (path_of name)))) f in
        let names : AreNamesOf (BraceForm fields) (field_names s.items found) =
        subst (λ x. AreNamesOf x (field_names s.items found)) e g.names in
        let many : length Parts ≡ length fields =
        parts_count s Types ws typed
        ∙ (ap length types_are ∙ (ap (λ x. length (types_list (form_types x))) e
        ∙ (ap length (list_again (map (λ (f : MField). f.type) fields)) ∙ map_length fields))) in
        let written : written_names fs ≡ field_names s.items found =
        fields_written fields Parts many ∙ sym names.0 in (
          brace_form s st before T (path_of name) fs (short name) (of_kind (BraceForm fields) e found g)
              (none_absent (written_names fs) (field_names s.items found) written)
              (ap (repeats bytes_eq []) written ∙ names.1)
              (none_absent (field_names s.items found) (written_names fs) (sym written)),
          fields_pass (part_types s (found_ctor found) T) (field_names s.items found) T fields Types ws
              (λ j x at. ap (part_types s (found_ctor found) T) (number_at (field_names s.items found) j x.name names.1
              (ap (λ ns. slice_get ns j) names.0 ∙ (slice_get-map (λ (f : MField). f.name) fields j
              ∙ ap (option_map (λ (f : MField). f.name)) at))) ∙ part_is found g j) passing before,
        )

    form_pass : (form : MForm) → v.form ≡ form → (name : NameTree) →
        IsVariantFound s T k v (path_finds s.items (path_of name)) → (st : Standing) (before : List (List ℕ)) →
        AllPass s st before T (unplaced (arm_shape (form_tree name form Parts)))
    form_pass UnitForm e name f st before = unit_pass e name f st before
    form_pass (TupleForm types) e name f st before = tuple_form_pass types e name f st before
    form_pass (BraceForm fields) e name f st before = brace_form_pass fields e name f st before

  pub variant_pass : (owner : MOwner) (arguments : MTypes) (k : ℕ) (ws : MWitnesses) →
      FindsVariant s (NamedType owner arguments) k →
      AreParts (program s) (types_there (node_types (program s) (NamedType owner arguments) k)) ws →
      ArePassing s (types_there (node_types (program s) (NamedType owner arguments) k)) ws → (st : Standing)
      (before : List (List ℕ)) → AllPass s st before (NamedType owner arguments)
      (unplaced (arm_shape (named_by Whole (program s) (NamedType owner arguments) (NodeOf k ws))))
  variant_pass owner arguments k ws finds typed passing st before =
      go (slice_get (variants_of (program s) (NamedType owner arguments)) k) refl
    where
      go : (o : Option MVariant) → slice_get (variants_of (program s) (NamedType owner arguments)) k ≡ o →
          AllPass s st before (NamedType owner arguments)
          (unplaced (arm_shape (variant_tree Whole (program s) (NamedType owner arguments) o
          (parts_by Whole (program s) (types_there (node_types (program s) (NamedType owner arguments) k)) ws))))
      go None e = (wild s st before (NamedType owner arguments), tt)
      go (Some v) e =
          form_pass owner arguments k ws v e typed passing v.form refl
          (name_by Whole (program s) (NamedType owner arguments) v.name) (finds v e) st before
