-- The types of items that tokens spell, of which none breaks a rule on declarations, are sound.
use Rattle.std.proofs.Common.{◌≡◌, ◌⊎◌, inl, inr, ℕ, zero, suc, ◌<◌, Bool, true, false, not, ◌&&◌, List, [], ◌∷◌, map, length, Option, Some, None, slice_get, IsTrue, refl, sym, ap, subst, ◌∙◌}
use Rattle.std.specs.Prelude.{is_some}
use Rattle.std.specs.List.{Contains}
use Rattle.std.proofs.lemmas.List.{length-map}
use Rattle.std.proofs.lemmas.Option.{slice_get_read}
use Rattle.range_split.proofs.Basics.{either_false}
use Rattle.match_model.specs.declared.Width.{Width}
use Rattle.match_model.specs.Types.{DeclaredItem, MType, PointType, NamedType, MTypes, no_types, types_list, types_of}
use Rattle.match_model.specs.Declarations.{MProgram, form_types, item_types, variant_types}
use Rattle.match_model.specs.Values.{MValue}
use Rattle.match_model.specs.Typing.{is_value}
use Rattle.match_model.specs.RustTypes.{is_type, are_types, is_declared, FieldsAreTypes, IsSoundProgram}
use Rattle.match_model.proofs.Basics.{and_true, nothing}
use Rattle.match_model.proofs.Decided.{finite_or_none}
use Rattle.match_model.proofs.Inhabited.{Found}
use Rattle.decl_syntax.specs.Functions.{FunctionTree}
use Rattle.decl_syntax.specs.Items.{FieldItem, FormTree, Unit, VariantTree, KindTree, Enum, Struct, Import, Function, ItemTree}
use Rattle.decl_syntax.specs.Items as forms
use Rattle.decl_syntax.specs.Widths.{are_many, type_is_wide}
use Rattle.decl_parser.specs.FileGrammar.{AreNarrow}
use Rattle.decl_parser.specs.ItemWidths.{some_field_is_wide, fields_are_wide, form_is_wide, some_variant_is_wide, some_arm_is_wide, kind_is_wide, item_is_wide}
use Rattle.type_names.specs.Meanings.{means}
use Rattle.type_names.specs.Written.{type_of, field_of, form_of, variant_of, is_marked_by, kind_of, item_of, program_of}
use Rattle.type_table.specs.Faults as declarations
use Rattle.type_table.proofs.KindLemmas.{count_back}
use Rattle.pattern_rules.specs.Settings.{Setting, program}
use Rattle.pattern_rules.specs.Faults.{function_of, parameter_type, is_reference, scrutinee_by}
use Rattle.pattern_laws.specs.ParsedLaws.{FilesAreSound}
use Rattle.pattern_laws.proofs.WrittenTypes.{few_parts, written_is_type}

-- ---- declarations

-- the types are types of the program, and few
record AreFine (p : MProgram) (ts : MTypes) : Type 0 where
  typed : are_types p ts ≡ true
  few : length (types_list ts) < 4294967296

module _ (items : List ItemTree) (width : Width) where
  abbrev file : MProgram
  file = program_of items width

  abbrev field_type : FieldItem → MType
  field_type f = type_of (means items) true f.type

  fields_typed : (fs : List FieldItem) → some_field_is_wide fs ≡ false →
      are_types file (types_of (map field_type fs)) ≡ true
  fields_typed [] narrow = refl
  fields_typed (f ∷ fs) narrow =
      let halves = either_false (type_is_wide f.type) (some_field_is_wide fs) narrow in
      and_true _ _ (written_is_type items width true f.type halves.0) (fields_typed fs halves.1)

  fields_fine : (fs : List FieldItem) → fields_are_wide fs ≡ false → AreFine file (types_of (map field_type fs))
  fields_fine fs narrow =
      let halves = either_false (are_many (length fs)) (some_field_is_wide fs) narrow in
      record {
        typed = fields_typed fs halves.1;
        few =
            few_parts (length (types_list (types_of (map field_type fs)))) (length fs)
            (count_back (map field_type fs) ∙ length-map fs field_type) halves.0;
      }

  brace_types : (fs : List FieldItem) → map (λ f. f.type) (map (field_of (means items)) fs) ≡ map field_type fs
  brace_types [] = refl
  brace_types (f ∷ fs) = ap (λ (ts : List MType). field_type f ∷ ts) (brace_types fs)

  form_fine : (form : FormTree) → form_is_wide form ≡ false → AreFine file (form_types (form_of (means items) form))
  form_fine Unit narrow = record { typed = refl; few = few_parts 0 0 refl refl }
  form_fine (forms.Tuple fs) narrow = fields_fine fs narrow
  form_fine (forms.Brace fs) narrow =
      subst (λ (ts : List MType). AreFine file (types_of ts)) (sym (brace_types fs)) (fields_fine fs narrow)

  form_there : (form : FormTree) (ts : MTypes) → form_is_wide form ≡ false →
      Some (form_types (form_of (means items) form)) ≡ Some ts → AreFine file ts
  form_there form ts narrow e =
      let same : form_types (form_of (means items) form) ≡ ts = cc in
      subst (AreFine file) same (form_fine form narrow)

  variants_fine : (vs : List VariantTree) → some_variant_is_wide vs ≡ false → (k : ℕ) (ts : MTypes) →
      variant_types (slice_get (map (variant_of (means items)) vs) k) ≡ Some ts → AreFine file ts
  variants_fine [] narrow k ts e = absurd (nothing ts e)
  variants_fine (v ∷ vs) narrow zero ts e =
      form_there v.form ts (either_false (form_is_wide v.form) (some_variant_is_wide vs) narrow).0 e
  variants_fine (v ∷ vs) narrow (suc k) ts e =
      variants_fine vs (either_false (form_is_wide v.form) (some_variant_is_wide vs) narrow).1 k ts e

  kind_fine : (marked : Bool) (kind : KindTree) → kind_is_wide kind ≡ false → (k : ℕ) (ts : MTypes) →
      item_types (Some (kind_of (means items) marked kind)) k ≡ Some ts → AreFine file ts
  kind_fine marked (Enum name variants) narrow k ts e = variants_fine variants narrow k ts e
  kind_fine marked (Struct name form) narrow zero ts e = form_there form ts narrow e
  kind_fine marked (Struct name form) narrow (suc k) ts e = absurd (nothing ts e)
  kind_fine marked (Import owner listed) narrow k ts e = absurd (nothing ts e)
  kind_fine marked (Function name param deref arms) narrow k ts e = absurd (nothing ts e)

  items_fine : (xs : List ItemTree) → AreNarrow xs → (i k : ℕ) (ts : MTypes) →
      item_types (slice_get (map (item_of (means items)) xs) i) k ≡ Some ts → AreFine file ts
  items_fine [] narrow i k ts e = absurd (nothing ts e)
  items_fine (x ∷ xs) narrow zero k ts e = kind_fine (is_marked_by x.attrs) x.kind narrow.0 k ts e
  items_fine (x ∷ xs) narrow (suc i) k ts e = items_fine xs narrow.1 i k ts e

-- ---- finite values

module _ (items : List ItemTree) (width : Width) (narrow : AreNarrow items)
    (unbroken : declarations.BreaksNone items width) where
  declared_fine : (i k : ℕ) (ts : MTypes) → item_types (slice_get (program_of items width).items i) k ≡ Some ts →
      AreFine (program_of items width) ts
  declared_fine i k ts e = items_fine items width items narrow i k ts e

  fields_are_types : FieldsAreTypes (program_of items width)
  fields_are_types i k ts e = (declared_fine i k ts e).typed

  sound_items : IsSoundProgram (program_of items width)
  sound_items = record {
    fields = fields_are_types;
    few = λ i k ts e. (declared_fine i k ts e).few;
    finite = λ i declared. by i declared
        (finite_or_none (program_of items width) fields_are_types (DeclaredItem i) no_types (and_true _ _ declared refl));
  }
    where
      by : (i : ℕ) → is_declared (slice_get (program_of items width).items i) ≡ true →
          Found (program_of items width) false (NamedType (DeclaredItem i) no_types)
          ⊎ ((v : MValue) → is_value (program_of items width) false (NamedType (DeclaredItem i) no_types) v ≡ false) →
          (arguments : MTypes) × (v : MValue)
          × IsTrue (is_value (program_of items width) false (NamedType (DeclaredItem i) arguments) v)
      by i declared (inl v) = (no_types, v.0, v.1)
      by i declared (inr endless) =
          absurd (unbroken i 36 (declarations.endless_type refl (record { declared = declared; endless = endless })))

-- ---- scrutinees

-- the type of the scrutinee is one of the program where that of the parameter is
pub scrutinee_is_type : (p : MProgram) (t : MType) (star : Option ℕ) → (is_some star && not (is_reference t)) ≡ false →
    IsTrue (is_type p t) → IsTrue (is_type p (scrutinee_by t star))
scrutinee_is_type p t None h k = k
scrutinee_is_type p (PointType mutable t) (Some at) h k = k
scrutinee_is_type p t (Some at) h k = absurd cc

narrow_at : (xs : List ItemTree) → AreNarrow xs → (n : ℕ) (item : ItemTree) → slice_get xs n ≡ Some item →
    item_is_wide item ≡ false
narrow_at [] narrow n item at = absurd (nothing item at)
narrow_at (x ∷ xs) narrow zero item at = let same : x ≡ item = cc in subst (λ y. item_is_wide y ≡ false) same narrow.0
narrow_at (x ∷ xs) narrow (suc n) item at = narrow_at xs narrow.1 n item at

parameter_narrow : (kind : KindTree) (f : FunctionTree) → function_of kind ≡ Some f → kind_is_wide kind ≡ false →
    type_is_wide f.param ≡ false
parameter_narrow (Function name param deref arms) f e narrow =
    let same : record { name = name; param = param; deref = deref; arms = arms } ≡ f = cc in
    ap (λ (g : FunctionTree). type_is_wide g.param) (sym same)
    ∙ (either_false (type_is_wide param) (some_arm_is_wide arms) narrow).0
parameter_narrow (Enum name variants) f e narrow = absurd (nothing f e)
parameter_narrow (Struct name form) f e narrow = absurd (nothing f e)
parameter_narrow (Import owner listed) f e narrow = absurd (nothing f e)

parameter_typed : (s : Setting) (item : ItemTree) (f : FunctionTree) → AreNarrow s.items → Contains s.items item →
    function_of item.kind ≡ Some f → is_type (program s) (parameter_type s f) ≡ true
parameter_typed s item f narrow c e =
    let there : slice_get s.items c.0 ≡ Some item =
    slice_get_read s.items (length s.items) c.0 item refl c.1 (sym c.2) in
    written_is_type s.items s.width true f.param
    (parameter_narrow item.kind f e (narrow_at s.items narrow c.0 item there))

pub files_are_sound : FilesAreSound
files_are_sound tokens s spelled unbroken = record {
  sound = sound_items s.items s.width spelled.narrow unbroken;
  scrutinee = λ item f c e fine.
      scrutinee_is_type (program s) (parameter_type s f) f.deref fine.scrutinee
      (parameter_typed s item f spelled.narrow c e);
}
