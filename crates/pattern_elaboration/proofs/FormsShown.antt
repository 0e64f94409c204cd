-- Structs, variants, tuples and rows that a walk has made, as what the written ones become.
use Rattle.std.proofs.Common.{◌≡◌, ℕ, ◌+◌, ◌≤◌, suc, true, false, List, [], ◌∷◌, length, refl, sym, ap, subst, ◌∙◌, arith}
use Rattle.std.specs.Prelude.{IsTrue}
use Rattle.match_model.specs.declared.Mode.{Mode}
use Rattle.match_model.specs.Types.{MType, TupleType, SliceType, ArrayType}
use Rattle.match_model.specs.Constructors.{SingleCtor}
use Rattle.match_model.specs.Declarations.{MProgram}
use Rattle.match_model.specs.RustTypes.{is_type, rust_arity, inner_type}
use Rattle.match_model.specs.Patterns.{MNumbered, FormPat, ListPat}
use Rattle.decl_syntax.specs.Patterns.{PatternTrees, FieldTrees}
use Rattle.decl_syntax.specs.Widths.{pattern_count}
use Rattle.pattern_arena.specs.declared.pattern.DePat.{DePat}
use Rattle.type_names.specs.Finding.{FoundTree}
use Rattle.type_table.specs.declared.table.TyId.{TyId}
use Rattle.type_table.specs.declared.table.TypeTable.{TypeTable}
use Rattle.type_table.specs.Lookups as declared
use Rattle.type_table.specs.Tables.{table_program, table_type, fields_of_type, type_variant}
use Rattle.pattern_rules.specs.Settings.{Setting, program, bottom_type}
use Rattle.pattern_rules.specs.Namings.{found_ctor, found_number, fields_found, field_names, meets}
use Rattle.pattern_rules.specs.Nodes.{part_types}
use Rattle.pattern_rules.specs.NodeRules.{is_tuple, is_row}
use Rattle.pattern_rules.specs.Resolved.{form_parts, form_fields, front_items, back_items, rest_of}
use Rattle.pattern_rules.specs.Builders.{Built, Maker, through_type, form, list_of}
use Rattle.pattern_rules.specs.Elaborated.{elaborated, elaborated_field, makers}
use Rattle.pattern_elaboration.specs.Checking.{IsSettingOf, IsMet}
use Rattle.pattern_elaboration.specs.Fitting.{PartsFit, FieldsFit, TupleFits, RowFits}
use Rattle.pattern_elaboration.specs.Given.{given, given_fields}
use Rattle.pattern_elaboration.specs.Placed.{wrapped}
use Rattle.pattern_elaboration.specs.Rests.{fixed}
use Rattle.pattern_elaboration.specs.Walking.{PartsShown, FieldsShown, ItemsShown, item_types, item_count}
use Rattle.pattern_elaboration.specs.Written.{types_of_parts, BuiltField, built_there, built_parts, built_fields, built_front, built_back}
use Rattle.pattern_elaboration.proofs.FoundForms.{form_found}
use Rattle.pattern_elaboration.proofs.NamedFields.{names_in, counted, met_is_named}
use Rattle.pattern_elaboration.proofs.WrittenFields.{part_there, field_there, forms_agree, types_found}
use Rattle.pattern_elaboration.proofs.WrittenItems.{tuple_agrees, row_agrees, tuple_few}

module _ (table : TypeTable) (s : Setting) (is : IsSettingOf table s) (found : FoundTree) (t u : MType) (m n : Mode)
    (k : ℕ) (levels : List MType)
    (met : IsMet s found (bottom_type t)) (type : IsTrue (is_type (table_program table) u))
    (bottom : u ≡ bottom_type t) (number : k ≡ found_number found)
    (through : (f : MType → Mode → Built) → through_type f t m ≡ wrapped levels (f u n)) where
  met_here : meets found u ≡ true
  met_here = ap (meets found) bottom ∙ met.met

  pub no_tuple : is_tuple u ≡ false
  no_tuple = met_is_named found u met_here

  names_told : declared.field_names (type_variant (table_program table) u k) ≡ field_names s.items found
  names_told =
      ap (λ i. declared.field_names (type_variant (table_program table) u i)) number
      ∙ sym (names_in (table_program table) s.items s.width found u is.program met.there type met_here)

  count_told : fields_of_type (table_program table) u k ≡ fields_found s.items found
  count_told = counted (table_program table) u k no_tuple ∙ ap (λ (ns : List (List ℕ)). length ns) names_told

  types_told : (i : ℕ) → types_of_parts (table_program table) u k i ≡ part_types s (found_ctor found) (bottom_type t) i
  types_told i =
      ap (λ p. types_of_parts p u k i) is.program
      ∙ (ap (λ v. types_of_parts (program s) v k i) bottom
      ∙ (ap (λ j. types_of_parts (program s) (bottom_type t) j i) number
      ∙ sym (types_found s found (bottom_type t) i (form_found s.items found met.there))))

  types_here : (i : ℕ) → part_types s (found_ctor found) (bottom_type t) i ≡ types_of_parts (program s) u
      (found_number found) i
  types_here i =
      types_found s found (bottom_type t) i (form_found s.items found met.there)
      ∙ ap (λ v. types_of_parts (program s) v (found_number found) i) (sym bottom)

  form_done : (fields : List BuiltField) (written : MNumbered) →
      ((i : ℕ) → elaborated_field (program s) written i (part_types s (found_ctor found) (bottom_type t) i) n
      ≡ built_there fields i (part_types s (found_ctor found) (bottom_type t) i)) →
      wrapped levels (form (table_program table) k (built_there fields) u) ≡ elaborated (program s)
      (FormPat (found_number found) written) t m
  form_done fields written h =
      ap (wrapped levels)
      (ap (λ p. form p k (built_there fields) u) is.program
      ∙ (ap (λ j. form (program s) j (built_there fields) u) number
      ∙ sym (forms_agree (program s) (found_number found) (λ i w. elaborated_field (program s) written i w n)
      (built_there fields) u
      (λ j. subst (λ w. elaborated_field (program s) written j w n ≡ built_there fields j w) (types_here j) (h j)))))
      ∙ sym (through (λ v o. form (program s) (found_number found) (λ i w. elaborated_field (program s) written i w o)
      v))

  pub tuple_form_shown : (ps : PatternTrees) (fields : List (ℕ × DePat TyId)) (p : Built) → PartsShown table u n k ps
      fields →
      PartsFit s (part_types s (found_ctor found) (bottom_type t)) (fields_found s.items found) 0 ps →
      p ≡ wrapped levels (form (table_program table) k (built_there (given_fields (table_type table) fields)) u) →
      p ≡ elaborated (program s) (FormPat (found_number found)
      (form_parts s (part_types s (found_ctor found) (bottom_type t)) (fields_found s.items found) 0 ps)) t m
  tuple_form_shown ps fields p shown fit made =
      made
      ∙ (ap (λ (fs : List BuiltField). wrapped levels (form (table_program table) k (built_there fs) u))
      (shown s (part_types s (found_ctor found) (bottom_type t)) (fields_found s.items found) is types_told count_told
      fit)
      ∙ form_done (built_parts s (part_types s (found_ctor found) (bottom_type t)) (fields_found s.items found) 0 n ps)
      (form_parts s (part_types s (found_ctor found) (bottom_type t)) (fields_found s.items found) 0 ps)
      (part_there s (part_types s (found_ctor found) (bottom_type t)) (fields_found s.items found) 0 n ps))

  pub brace_shown : (fs : FieldTrees) (fields : List (ℕ × DePat TyId)) (p : Built) → FieldsShown table u n k fs fields →
      FieldsFit s (part_types s (found_ctor found) (bottom_type t)) (field_names s.items found) fs →
      p ≡ wrapped levels (form (table_program table) k (built_there (given_fields (table_type table) fields)) u) →
      p ≡ elaborated (program s) (FormPat (found_number found)
      (form_fields s (part_types s (found_ctor found) (bottom_type t)) (field_names s.items found) fs)) t m
  brace_shown fs fields p shown fit made =
      made
      ∙ (ap (λ (gs : List BuiltField). wrapped levels (form (table_program table) k (built_there gs) u))
      (shown s (part_types s (found_ctor found) (bottom_type t)) (field_names s.items found) is types_told no_tuple
      names_told fit)
      ∙ form_done (built_fields s (part_types s (found_ctor found) (bottom_type t)) (field_names s.items found) n fs)
      (form_fields s (part_types s (found_ctor found) (bottom_type t)) (field_names s.items found) fs)
      (field_there s (part_types s (found_ctor found) (bottom_type t)) (field_names s.items found) n fs))

-- the types of the items, and their number
tuple_types : (p : MProgram) (s : Setting) (v : MType) (i : ℕ) → p ≡ program s → is_tuple v ≡ true →
    item_types p v i ≡ part_types s SingleCtor v i
tuple_types p s (TupleType ts) i e h = ap (λ q. types_of_parts q (TupleType ts) 0 i) e
tuple_types p s v i e h = absurd cc

tuple_parts : (p : MProgram) (s : Setting) (v : MType) (items : ℕ) → p ≡ program s → is_tuple v ≡ true →
    item_count p v items ≡ rust_arity (program s) SingleCtor v
tuple_parts p s (TupleType ts) items e h = ap (λ q. fields_of_type q (TupleType ts) 0) e
tuple_parts p s v items e h = absurd cc

row_types : (p : MProgram) (v : MType) (i : ℕ) → is_row v ≡ true → item_types p v i ≡ inner_type v
row_types p (SliceType t) i h = refl
row_types p (ArrayType t n) i h = refl
row_types p v i h = absurd cc

row_parts : (p : MProgram) (v : MType) (items : ℕ) → is_row v ≡ true → item_count p v items ≡ items
row_parts p (SliceType t) items h = refl
row_parts p (ArrayType t n) items h = refl
row_parts p v items h = absurd cc

module _ (table : TypeTable) (s : Setting) (is : IsSettingOf table s) (t u : MType) (m n : Mode) (levels : List MType)
    (bottom : u ≡ bottom_type t)
    (through : (f : MType → Mode → Built) → through_type f t m ≡ wrapped levels (f u n)) (ps : PatternTrees)
    (front back : List (DePat TyId)) where
  list_done : (fs bs fs' bs' : List Maker) → list_of (program s) fs (rest_of ps) bs u n ≡ list_of (program s) fs'
      (rest_of ps) bs' u n →
      list_of (table_program table) fs (rest_of ps) bs u n ≡ list_of (program s) fs' (rest_of ps) bs' u n
  list_done fs bs fs' bs' e = ap (λ p. list_of p fs (rest_of ps) bs u n) is.program ∙ e

  tuple_given : TupleFits s (bottom_type t) ps → ItemsShown table u n ps front back →
      PartsFit s (part_types s SingleCtor (bottom_type t)) (rust_arity (program s) SingleCtor (bottom_type t)) 0 ps →
      (given (table_type table) front ≡ built_front s (part_types s SingleCtor (bottom_type t)) 0 n ps)
      × (given (table_type table) back ≡ built_back s (part_types s SingleCtor (bottom_type t))
      (rust_arity (program s) SingleCtor (bottom_type t)) n ps)
  tuple_given fits shown fit =
      shown s (part_types s SingleCtor (bottom_type t)) (rust_arity (program s) SingleCtor (bottom_type t)) is
      (λ i. ap (λ v. item_types (table_program table) v i) bottom ∙ tuple_types (table_program table) s
      (bottom_type t) i is.program fits.type)
      (ap (λ v. item_count (table_program table) v (pattern_count ps)) bottom ∙ tuple_parts (table_program table) s
      (bottom_type t) (pattern_count ps) is.program fits.type)
      fits.once fit

  pub tuple_is : TupleFits s (bottom_type t) ps → is_tuple u ≡ true
  tuple_is fits = ap is_tuple bottom ∙ fits.type

  pub tuple_within : TupleFits s (bottom_type t) ps → ItemsShown table u n ps front back →
      PartsFit s (part_types s SingleCtor (bottom_type t)) (rust_arity (program s) SingleCtor (bottom_type t)) 0 ps →
      length front + length back ≤ rust_arity (table_program table) SingleCtor u
  tuple_within fits shown fit =
      let g = tuple_given fits shown fit in
      let few = tuple_few s (bottom_type t) n ps fits in
      let f : length front ≡ length (built_front s (part_types s SingleCtor (bottom_type t)) 0 n ps) = sym
      (given_length front) ∙ ap (λ (bs : List Built). length bs) g.0 in
      let b : length back ≡ length (built_back s (part_types s SingleCtor (bottom_type t))
      (rust_arity (program s) SingleCtor (bottom_type t)) n ps) = sym (given_length back)
      ∙ ap (λ (bs : List Built). length bs) g.1 in
      let parts : rust_arity (table_program table) SingleCtor u ≡ rust_arity (program s) SingleCtor (bottom_type t)
      = ap (λ p. rust_arity p SingleCtor u) is.program ∙ ap (λ v. rust_arity (program s) SingleCtor v) bottom in
      omega (arith, few, f, b, parts)
    where
      given_length : (xs : List (DePat TyId)) → length (given (table_type table) xs) ≡ length xs
      given_length [] = refl
      given_length (x ∷ xs) = ap suc (given_length xs)

  pub tuple_shown : TupleFits s (bottom_type t) ps → ItemsShown table u n ps front back →
      PartsFit s (part_types s SingleCtor (bottom_type t)) (rust_arity (program s) SingleCtor (bottom_type t)) 0 ps →
      (p : Built) →
      p ≡ wrapped levels (list_of (table_program table) (fixed (given (table_type table) front)) (rest_of ps)
      (fixed (given (table_type table) back)) u n) →
      p ≡ elaborated (program s) (ListPat (front_items s (part_types s SingleCtor (bottom_type t)) 0 ps) (rest_of ps)
      (back_items s (part_types s SingleCtor (bottom_type t)) (rust_arity (program s) SingleCtor (bottom_type t)) ps))
      t m
  tuple_shown fits shown fit p made =
      let g = tuple_given fits shown fit in
      made
      ∙ (ap (wrapped levels)
      (ap (λ (bs : List Built). list_of (table_program table) (fixed bs) (rest_of ps)
      (fixed (given (table_type table) back)) u n) g.0
      ∙ (ap (λ (bs : List Built). list_of (table_program table)
      (fixed (built_front s (part_types s SingleCtor (bottom_type t)) 0 n ps)) (rest_of ps) (fixed bs) u n) g.1
      ∙ list_done (fixed (built_front s (part_types s SingleCtor (bottom_type t)) 0 n ps))
      (fixed (built_back s (part_types s SingleCtor (bottom_type t)) (rust_arity (program s) SingleCtor
      (bottom_type t)) n ps))
      (makers (program s) (front_items s (part_types s SingleCtor (bottom_type t)) 0 ps) n)
      (makers (program s) (back_items s (part_types s SingleCtor (bottom_type t)) (rust_arity (program s) SingleCtor
      (bottom_type t)) ps) n)
      (subst (λ v. list_of (program s) (fixed (built_front s (part_types s SingleCtor (bottom_type t)) 0 n ps))
      (rest_of ps)
      (fixed (built_back s (part_types s SingleCtor (bottom_type t)) (rust_arity (program s) SingleCtor
      (bottom_type t)) n ps)) v n
      ≡ list_of (program s) (makers (program s) (front_items s (part_types s SingleCtor (bottom_type t)) 0 ps) n)
      (rest_of ps)
      (makers (program s) (back_items s (part_types s SingleCtor (bottom_type t)) (rust_arity (program s) SingleCtor
      (bottom_type t)) ps) n) v n)
      (sym bottom) (tuple_agrees s (bottom_type t) n ps fits))))
      ∙ sym (through (λ v o. list_of (program s) (makers (program s)
      (front_items s (part_types s SingleCtor (bottom_type t)) 0 ps) o) (rest_of ps)
      (makers (program s) (back_items s (part_types s SingleCtor (bottom_type t)) (rust_arity (program s) SingleCtor
      (bottom_type t)) ps) o) v o)))

  pub row_is : RowFits (bottom_type t) ps → is_row u ≡ true
  row_is fits = ap is_row bottom ∙ fits.type

  pub row_shown : RowFits (bottom_type t) ps → ItemsShown table u n ps front back →
      PartsFit s (λ i. inner_type (bottom_type t)) (pattern_count ps) 0 ps → (p : Built) →
      p ≡ wrapped levels (list_of (table_program table) (fixed (given (table_type table) front)) (rest_of ps)
      (fixed (given (table_type table) back)) u n) →
      p ≡ elaborated (program s) (ListPat (front_items s (λ i. inner_type (bottom_type t)) 0 ps) (rest_of ps)
      (back_items s (λ i. inner_type (bottom_type t)) (pattern_count ps) ps)) t m
  row_shown fits shown fit p made =
      let g = shown s (λ i. inner_type (bottom_type t)) (pattern_count ps) is
      (λ i. ap (λ v. item_types (table_program table) v i) bottom ∙ row_types (table_program table) (bottom_type t) i
      fits.type)
      (ap (λ v. item_count (table_program table) v (pattern_count ps)) bottom ∙ row_parts (table_program table)
      (bottom_type t) (pattern_count ps) fits.type)
      fits.once fit in
      made
      ∙ (ap (wrapped levels)
      (ap (λ (bs : List Built). list_of (table_program table) (fixed bs) (rest_of ps)
      (fixed (given (table_type table) back)) u n) g.0
      ∙ (ap (λ (bs : List Built). list_of (table_program table)
      (fixed (built_front s (λ i. inner_type (bottom_type t)) 0 n ps)) (rest_of ps) (fixed bs) u n) g.1
      ∙ list_done (fixed (built_front s (λ i. inner_type (bottom_type t)) 0 n ps))
      (fixed (built_back s (λ i. inner_type (bottom_type t)) (pattern_count ps) n ps))
      (makers (program s) (front_items s (λ i. inner_type (bottom_type t)) 0 ps) n)
      (makers (program s) (back_items s (λ i. inner_type (bottom_type t)) (pattern_count ps) ps) n)
      (subst (λ v. list_of (program s) (fixed (built_front s (λ i. inner_type (bottom_type t)) 0 n ps)) (rest_of ps)
      (fixed (built_back s (λ i. inner_type (bottom_type t)) (pattern_count ps) n ps)) v n
      ≡ list_of (program s) (makers (program s) (front_items s (λ i. inner_type (bottom_type t)) 0 ps) n) (rest_of ps)
      (makers (program s) (back_items s (λ i. inner_type (bottom_type t)) (pattern_count ps) ps) n) v n)
      (sym bottom) (row_agrees s (bottom_type t) n ps (pattern_count ps) fits.type))))
      ∙ sym (through (λ v o. list_of (program s) (makers (program s) (front_items s (λ i. inner_type (bottom_type t))
      0 ps) o) (rest_of ps)
      (makers (program s) (back_items s (λ i. inner_type (bottom_type t)) (pattern_count ps) ps) o) v o)))
