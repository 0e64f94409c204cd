-- The pattern for a witness breaks no rule.
use Rattle.std.proofs.Common.{◌≡◌, ℕ, zero, Bool, true, false, ◌&&◌, List, [], ◌∷◌, length, take, drop, ◌-◌, Option}
use Rattle.std.proofs.Common.{Some, None, slice_get, refl, sym, subst, ◌∙◌, nat_eq}
use Rattle.std.specs.Prelude.{encode_utf8_all}
use Rattle.match_model.specs.declared.Mode.TheVariants.{Move}
use Rattle.match_model.specs.declared.Width.{Width}
use Rattle.match_model.specs.Constructors.{FlagCtor, TextCtor, belongs, covers}
use Rattle.match_model.specs.Declarations.{MForm, UnitForm, TupleForm, BraceForm, MVariant, MItem, StructItem}
use Rattle.match_model.specs.Declarations.{EnumItem, OtherItem, declared, variants_of, node_types}
use Rattle.match_model.specs.Numbers.{MRange}
use Rattle.match_model.specs.RustTypes.{rust_set, item_set, inner_type}
use Rattle.match_model.specs.Types.{MType, BoolType, StrType, CharType, IntType, TupleType, PointType, SliceType}
use Rattle.match_model.specs.Types.{ArrayType, NamedType}
use Rattle.match_model.specs.Typing.{is_str}
use Rattle.match_model.specs.Values.{MValue, Node, Point, Row, values_list}
use Rattle.match_model.specs.Witness.{MWitness, AnyOf, LaterOf, FlagOf, SpanOf, TextOf, ElseOf, NodeOf, PointOf}
use Rattle.match_model.specs.Witness.{RowOf, MWitnesses, no_witnesses, more_witnesses, witnesses_list, slice_shape}
use Rattle.match_model.specs.Witness.{node_fits, point_fits, slice_fits, fits, all_fit}
use Rattle.match_model.proofs.Basics.{both, untrue}
use Rattle.decl_syntax.specs.Patterns.{Flag, Str}
use Rattle.pattern_rules.specs.Faults.{scrutinee_type}
use Rattle.pattern_rules.specs.Literals.{is_outside}
use Rattle.pattern_rules.specs.Nodes.{Standing, Elsewhere, nodes}
use Rattle.pattern_rules.specs.Settings.{Setting, program, place, bottom_type}
use Rattle.pattern_laws.proofs.FineNodes.{AllNodes}
use Rattle.witness_text.specs.Texts.{text_of}
use Rattle.witness_text.specs.Trees.{WitnessTree}
use Rattle.witness_names.specs.declared.paths.Paths.TheVariants.{Whole}
use Rattle.witness_names.specs.Named.{name_by, named_by, parts_by, items_by, numbers_tree, form_tree, variant_tree}
use Rattle.witness_names.specs.Named.{node_tree, point_tree, row_tree, types_there}
use Rattle.arm_maker.proofs.Typed.{IsOfType, AreParts, AreItems, node_parts, point_part, row_items}
use Rattle.arm_laws.specs.Fine.{ArmPatternIsFine}
use Rattle.arm_laws.specs.Found.{FindsVariant, PathsFind, PartsFind, ItemsFind}
use Rattle.arm_laws.specs.LiteralEnds.{literal_ends, parts_literal, items_literal}
use Rattle.arm_laws.specs.MeantTypes.{IsMeantType}
use Rattle.arm_laws.specs.Patterns.{unplaced, point_shape, arm_shape}
use Rattle.arm_laws.proofs.FineFound.{meant_paths_find}
use Rattle.arm_laws.proofs.FineTests.{PassesAll, all_at}
use Rattle.arm_laws.proofs.FineLeaves.{wild, literal, point}
use Rattle.arm_laws.proofs.FineNumbers.{AllPass, span_pass}
use Rattle.arm_laws.proofs.FineLists.{IsPassing, ArePassing, AllPassing, tuple_pass, slice_pass, array_pass}
use Rattle.arm_laws.proofs.FineForms.{variant_pass}
use Rattle.arm_laws.proofs.MeantClosed.{meant_types, scrutinee_meant}
use Rattle.arm_laws.proofs.Unplaced.{placed_pass}

-- ---- values that fit

node_inside : (k : ℕ) (fit : List MValue → Bool) (v : MValue) → node_fits k fit v ≡ true →
    (vs : List MValue) × (fit vs ≡ true)
node_inside k fit (Node j parts) h = (values_list parts, (both (nat_eq k j) (fit (values_list parts)) h).1)
node_inside k fit v h = untrue h

point_inside : (fit : MValue → Bool) (v : MValue) → point_fits fit v ≡ true → (u : MValue) × (fit u ≡ true)
point_inside fit (Point mutable v) h = (v, h)
point_inside fit v h = untrue h

-- values that fit the front, and some that fit the back
pub record Ends (front back : List MValue → Bool) : Type 0 where
  pub first : List MValue
  pub last : List MValue
  pub first_fit : front first ≡ true
  pub last_fit : back last ≡ true

row_inside : (f : ℕ) (longer : Bool) (b : ℕ) (front back : List MValue → Bool) (v : MValue) →
    slice_fits f longer b front back v ≡ true → Ends front back
row_inside f longer b front back (Row items) h =
    let vs = values_list items in
    let p = both (covers (slice_shape f longer b) (length vs)) (front (take f vs) && back (drop (length vs - b)
    vs)) h in
    let q = both (front (take f vs)) (back (drop (length vs - b) vs)) p.1 in
    record { first = take f vs; last = drop (length vs - b) vs; first_fit = q.0; last_fit = q.1 }
row_inside f longer b front back v h = untrue h

-- ---- texts

no_named_flag : (o : Option MItem) (b : Bool) → belongs (item_set o) (FlagCtor b) ≡ true → ⊥
no_named_flag None b h = untrue h
no_named_flag (Some (StructItem v)) b h = untrue h
no_named_flag (Some OtherItem) b h = untrue h
no_named_flag (Some (EnumItem name false [])) b h = untrue h
no_named_flag (Some (EnumItem name true [])) b h = untrue h
no_named_flag (Some (EnumItem name marked (v ∷ vs))) b h = untrue h

no_named_text : (o : Option MItem) (u : List ℕ) → belongs (item_set o) (TextCtor u) ≡ true → ⊥
no_named_text None u h = untrue h
no_named_text (Some (StructItem v)) u h = untrue h
no_named_text (Some OtherItem) u h = untrue h
no_named_text (Some (EnumItem name false [])) u h = untrue h
no_named_text (Some (EnumItem name true [])) u h = untrue h
no_named_text (Some (EnumItem name marked (v ∷ vs))) u h = untrue h

numbers_no_text : (t : MType) (r : MRange) → text_of (numbers_tree t r) ≡ None
numbers_no_text CharType r = refl
numbers_no_text (IntType kind) r = refl
numbers_no_text t r = refl

point_no_text : (t : MType) (w : WitnessTree) → text_of (point_tree t w) ≡ None
point_no_text (PointType mutable t) w = refl
point_no_text t w = refl

row_no_text : (t : MType) (front : List WitnessTree) (longer : Bool) (back : List WitnessTree) →
    text_of (row_tree t front longer back) ≡ None
row_no_text (SliceType t) front longer back = refl
row_no_text (ArrayType t n) front longer back = refl
row_no_text t front longer back = refl

no_outside : (width : Width) (t : MType) (u : List ℕ) → is_outside width t (Str u) ≡ false
no_outside width (IntType kind) u = refl
no_outside width t u = refl

none_is : {A : Type 0} (u : List ℕ) → None ≡ Some u → A
none_is u e = absurd cc

module _ (s : Setting) where
  form_no_text : (t : MType) (form : MForm) (name : List ℕ) (parts : List WitnessTree) →
      text_of (form_tree (name_by Whole (program s) t name) form parts) ≡ None
  form_no_text t UnitForm name parts = refl
  form_no_text t (TupleForm types) name parts = refl
  form_no_text t (BraceForm fields) name parts = refl

  variant_no_text : (t : MType) (o : Option MVariant) (parts : List WitnessTree) →
      text_of (variant_tree Whole (program s) t o parts) ≡ None
  variant_no_text t None parts = refl
  variant_no_text t (Some v) parts = form_no_text t v.form v.name parts

  node_no_text : (t : MType) (k : ℕ) (parts : List WitnessTree) → text_of (node_tree Whole (program s) t k parts) ≡ None
  node_no_text (TupleType types) zero parts = refl
  node_no_text t k parts = variant_no_text t (slice_get (variants_of (program s) t) k) parts

  text_only : (t : MType) (u : List ℕ) → belongs (rust_set (program s) t) (TextCtor u) ≡ true → is_str t ≡ true
  text_only StrType u h = refl
  text_only (NamedType owner ts) u h = absurd (no_named_text (declared (program s) owner) u h)
  text_only t u h = untrue h

  text_type : (t : MType) (w : MWitness) (u : List ℕ) → IsOfType (program s) t w →
      text_of (named_by Whole (program s) t w) ≡ Some u → is_str t ≡ true
  text_type t (TextOf x) u d e = text_only t x d
  text_type t (SpanOf r) u d e = none_is u (sym (numbers_no_text t r) ∙ e)
  text_type t (NodeOf k ws) u d e = none_is u (sym (node_no_text t k
      (parts_by Whole (program s) (types_there (node_types (program s) t k)) ws)) ∙ e)
  text_type t (PointOf w) u d e = none_is u (sym (point_no_text t (named_by Whole (program s) (inner_type t) w)) ∙ e)
  text_type t (RowOf front longer back) u d e =
      none_is u (sym (row_no_text t (items_by Whole (program s) (inner_type t) front) longer
      (items_by Whole (program s) (inner_type t) back)) ∙ e)
  text_type t w u d e = none_is u e

  -- ---- flags, references, nodes and rows

  flag_pass : (t : MType) (b : Bool) → belongs (rust_set (program s) t) (FlagCtor b) ≡ true →
      IsPassing s t (FlagOf b)
  flag_pass BoolType b h st before = (literal s st before BoolType (Flag b) refl refl refl, tt)
  flag_pass (NamedType owner ts) b h st before = absurd (no_named_flag (declared (program s) owner) b h)
  flag_pass t b h st before = untrue h

  pointed_pass : (u : MType) (w : MWitness) → IsOfType (program s) u w → IsPassing s u w → (st : Standing)
      (before : List (List ℕ)) (mutable : Bool) (o : Option (List ℕ)) →
      text_of (named_by Whole (program s) u w) ≡ o → AllPass s st before (PointType mutable u)
      (unplaced (point_shape mutable o (arm_shape (named_by Whole (program s) u w))))
  pointed_pass u w d h st before true o e = (
    point s st before (PointType true u) true (unplaced (arm_shape (named_by Whole (program s) u w))) refl,
    h Elsewhere before,
  )
  pointed_pass u w d h st before false None e = (
    point s st before (PointType false u) false (unplaced (arm_shape (named_by Whole (program s) u w))) refl,
    h Elsewhere before,
  )
  pointed_pass u w d h st before false (Some x) e = (
    literal s st before (PointType false u) (Str (encode_utf8_all x)) refl (text_type u w x d e)
        (no_outside s.width (bottom_type u) (encode_utf8_all x)),
    tt,
  )

  point_pass : (t : MType) (w : MWitness) → IsOfType (program s) (inner_type t) w → IsPassing s (inner_type t) w →
      IsPassing s t (PointOf w)
  point_pass (PointType mutable u) w d h st before =
      pointed_pass u w d h st before mutable (text_of (named_by Whole (program s) u w)) refl
  point_pass t w d h st before = (wild s st before t, tt)

  node_pass : (t : MType) (k : ℕ) (ws : MWitnesses) → FindsVariant s t k →
      AreParts (program s) (types_there (node_types (program s) t k)) ws →
      ArePassing s (types_there (node_types (program s) t k)) ws → IsPassing s t (NodeOf k ws)
  node_pass (TupleType types) zero ws finds d h st before = tuple_pass s types ws d h st before
  node_pass (NamedType owner ts) k ws finds d h st before = variant_pass s owner ts k ws finds d h st before
  node_pass t k ws finds d h st before = (wild s st before t, tt)

  row_pass : (t : MType) (front : MWitnesses) (longer : Bool) (back : MWitnesses) →
      IsOfType (program s) t (RowOf front longer back) → AllPassing s (inner_type t) front →
      AllPassing s (inner_type t) back → IsPassing s t (RowOf front longer back)
  row_pass (SliceType u) front longer back d h k st before = slice_pass s u front longer back h k st before
  row_pass (ArrayType u n) front longer back d h k st before = array_pass s u n front longer back d h k st before
  row_pass t front longer back d h k st before = (wild s st before t, tt)

  -- ---- witnesses

  mutual
    passing : (t : MType) (w : MWitness) (v : MValue) → PathsFind s t w → IsOfType (program s) t w →
        literal_ends (program s) t w ≡ true → fits w v ≡ true → IsPassing s t w
    passing t AnyOf v finds d l f st before = (wild s st before t, tt)
    passing t LaterOf v finds d l f st before = (wild s st before t, tt)
    passing t (ElseOf us) v finds d l f st before = (wild s st before t, tt)
    passing t (TextOf u) v finds d l f st before = (wild s st before t, tt)
    passing t (FlagOf b) v finds d l f st before = flag_pass t b d st before
    passing t (SpanOf r) v finds d l f st before = span_pass s t r v d l f st before
    passing t (NodeOf k ws) v finds d l f st before =
        let i = node_inside k (λ vs. all_fit ws vs) v f in
        let typed = node_parts (program s) t k ws d in
        node_pass t k ws finds.0 typed
        (parts_passing (types_there (node_types (program s) t k)) ws i.0 finds.1 typed l i.1) st before
    passing t (PointOf w) v finds d l f st before =
        let i = point_inside (λ u. fits w u) v f in
        let typed = point_part (program s) t w d in
        point_pass t w typed (passing (inner_type t) w i.0 finds typed l i.1) st before
    passing t (RowOf front longer back) v finds d l f st before =
        let i = row_inside (length (witnesses_list front)) longer (length (witnesses_list back))
        (λ vs. all_fit front vs) (λ vs. all_fit back vs) v f in
        let typed = row_items (program s) t front longer back d in
        let two = both (items_literal (program s) (inner_type t) front) (items_literal (program s) (inner_type t)
        back) l in
        row_pass t front longer back d
        (items_passing (inner_type t) front i.first finds.0 typed.0 two.0 i.first_fit)
        (items_passing (inner_type t) back i.last finds.1 typed.1 two.1 i.last_fit) st before

    parts_passing : (ts : List MType) (ws : MWitnesses) (vs : List MValue) → PartsFind s ts ws →
        AreParts (program s) ts ws → parts_literal (program s) ts ws ≡ true → all_fit ws vs ≡ true → ArePassing s ts ws
    parts_passing [] ws vs finds d l f = tt
    parts_passing (t ∷ ts) no_witnesses vs finds d l f = tt
    parts_passing (t ∷ ts) (more_witnesses w ws) [] finds d l f = untrue f
    parts_passing (t ∷ ts) (more_witnesses w ws) (v ∷ vs) finds d l f =
        let a = both (literal_ends (program s) t w) (parts_literal (program s) ts ws) l in
        let b = both (fits w v) (all_fit ws vs) f in
        (passing t w v finds.0 d.0 a.0 b.0, parts_passing ts ws vs finds.1 d.1 a.1 b.1)

    items_passing : (t : MType) (ws : MWitnesses) (vs : List MValue) → ItemsFind s t ws →
        AreItems (program s) t ws → items_literal (program s) t ws ≡ true → all_fit ws vs ≡ true → AllPassing s t ws
    items_passing t no_witnesses vs finds d l f = tt
    items_passing t (more_witnesses w ws) [] finds d l f = untrue f
    items_passing t (more_witnesses w ws) (v ∷ vs) finds d l f =
        let a = both (literal_ends (program s) t w) (items_literal (program s) t ws) l in
        let b = both (fits w v) (all_fit ws vs) f in
        (passing t w v finds.0 d.0 a.0 b.0, items_passing t ws vs finds.1 d.1 a.1 b.1)

pub arm_pattern_is_fine : ArmPatternIsFine
arm_pattern_is_fine s f w v p once d l k e i n at =
    let t = scrutinee_type s f in
    let finds = meant_paths_find s once (IsMeantType s) (meant_types s) t w (scrutinee_meant s f) in
    all_at s (nodes s Elsewhere [] (place t Move) p) i n
    (placed_pass s Elsewhere [] (place t Move) p
    (subst (λ q. AllNodes (PassesAll s) (nodes s Elsewhere [] (place t Move) q)) (sym e)
    (passing s t w v finds d l k Elsewhere []))) at
