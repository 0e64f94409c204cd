-- Where a text stands in a witness only behind shared references, it stands so in the witness with its names.
use Rattle.std.proofs.Common.{◌≡◌, ℕ, zero, suc, Bool, true, false, not, ◌&&◌, ◌||◌, List, [], ◌∷◌, Option, Some, None}
use Rattle.std.proofs.Common.{is_some, slice_get, refl}
use Rattle.std.specs.Prelude.{⊤}
use Rattle.match_model.specs.Declarations.{MField, MForm, UnitForm, TupleForm, BraceForm, MVariant, MProgram}
use Rattle.match_model.specs.Declarations.{variants_of, node_types}
use Rattle.match_model.specs.RustTypes.{inner_type}
use Rattle.match_model.specs.Types.{MType, CharType, IntType, TupleType, PointType, SliceType, ArrayType}
use Rattle.match_model.specs.Numbers.{MRange}
use Rattle.match_model.specs.Witness.{MWitness, AnyOf, LaterOf, FlagOf, SpanOf, TextOf, ElseOf, NodeOf, PointOf, RowOf}
use Rattle.match_model.specs.Witness.{MWitnesses, no_witnesses, more_witnesses}
use Rattle.match_model.proofs.Basics.{untrue, both, and_true, or_right}
use Rattle.witness_text.specs.Texts.{text_of}
use Rattle.witness_text.specs.Trees.{NameTree, WitnessTree, trees_of, fields_of}
use Rattle.witness_names.specs.declared.paths.Paths.TheVariants.{Whole}
use Rattle.witness_names.specs.Named.{name_by, named_fields, form_tree, variant_tree, node_tree, point_tree, row_tree}
use Rattle.witness_names.specs.Named.{types_there, named_by, parts_by, items_by, numbers_tree}
use Rattle.arm_laws.specs.Meant as witnesses
use Rattle.arm_laws.specs.Meant.{text_in, is_mutable, parts_referred, items_referred}
use Rattle.arm_laws.specs.Spellable.{is_referred, are_referred, fields_referred}

abbrev AllReferred : List WitnessTree → Type 0
AllReferred [] = ⊤
AllReferred (w ∷ ws) = (is_referred w ≡ true) × AllReferred ws

trees_referred : (ws : List WitnessTree) → AllReferred ws → are_referred (trees_of ws) ≡ true
trees_referred [] h = refl
trees_referred (w ∷ ws) h = and_true (is_referred w) (are_referred (trees_of ws)) h.0 (trees_referred ws h.1)

named_referred : (fs : List MField) (ws : List WitnessTree) → AllReferred ws →
    fields_referred (fields_of (named_fields fs ws)) ≡ true
named_referred [] ws h = refl
named_referred (f ∷ fs) [] h = refl
named_referred (f ∷ fs) (w ∷ ws) h =
    and_true (is_referred w) (fields_referred (fields_of (named_fields fs ws))) h.0 (named_referred fs ws h.1)

form_referred : (name : NameTree) (form : MForm) (ws : List WitnessTree) → AllReferred ws →
    is_referred (form_tree name form ws) ≡ true
form_referred name UnitForm ws h = refl
form_referred name (TupleForm types) ws h = trees_referred ws h
form_referred name (BraceForm fs) ws h = named_referred fs ws h

variant_referred : (program : MProgram) (t : MType) (v : Option MVariant) (ws : List WitnessTree) → AllReferred ws →
    is_referred (variant_tree Whole program t v ws) ≡ true
variant_referred program t None ws h = refl
variant_referred program t (Some v) ws h = form_referred (name_by Whole program t v.name) v.form ws h

node_referred : (program : MProgram) (t : MType) (k : ℕ) (ws : List WitnessTree) → AllReferred ws →
    is_referred (node_tree Whole program t k ws) ≡ true
node_referred program (TupleType types) zero ws h = trees_referred ws h
node_referred program (TupleType types) (suc k) ws h =
    variant_referred program (TupleType types) (slice_get (variants_of program (TupleType types)) (suc k)) ws h
node_referred program t k ws h = variant_referred program t (slice_get (variants_of program t) k) ws h

row_referred : (t : MType) (front : List WitnessTree) (longer : Bool) (back : List WitnessTree) → AllReferred front →
    AllReferred back → is_referred (row_tree t front longer back) ≡ true
row_referred (SliceType t) front longer back h k =
    and_true (are_referred (trees_of front)) (are_referred (trees_of back)) (trees_referred front h)
    (trees_referred back k)
row_referred (ArrayType t n) front longer back h k =
    and_true (are_referred (trees_of front)) (are_referred (trees_of back)) (trees_referred front h)
    (trees_referred back k)
row_referred _ front longer back h k = refl

numbers_referred : (t : MType) (r : MRange) → is_referred (numbers_tree t r) ≡ true
numbers_referred CharType r = refl
numbers_referred (IntType kind) r = refl
numbers_referred _ r = refl

-- what a reference leads to is a text, or texts stand in it so
point_referred : (t : MType) (w : WitnessTree) →
    ((not (is_mutable t) && is_some (text_of w)) || is_referred w) ≡ true → is_referred (point_tree t w) ≡ true
point_referred (PointType mutable t) w h = h
point_referred _ w h = refl

module _ (program : MProgram) where
  none_in : (c r : Bool) → ((c && false) || r) ≡ true → r ≡ true
  none_in true r h = h
  none_in false r h = h

  -- behind a reference
  behind : (c : Bool) (u : MType) (w : MWitness) →
      ((c && is_some (text_in w)) || witnesses.is_referred program u w) ≡ true →
      (witnesses.is_referred program u w ≡ true → is_referred (named_by Whole program u w) ≡ true) →
      ((c && is_some (text_of (named_by Whole program u w))) || is_referred (named_by Whole program u w)) ≡ true
  behind c u (TextOf x) h f = h
  behind c u w h f =
      or_right (c && is_some (text_of (named_by Whole program u w))) (is_referred (named_by Whole program u w))
      (f (none_in c (witnesses.is_referred program u w) h))

  mutual
    pub tree_referred : (t : MType) (w : MWitness) → witnesses.is_referred program t w ≡ true →
        is_referred (named_by Whole program t w) ≡ true
    tree_referred t AnyOf h = refl
    tree_referred t LaterOf h = refl
    tree_referred t (FlagOf b) h = refl
    tree_referred t (SpanOf r) h = numbers_referred t r
    tree_referred t (TextOf u) h = untrue h
    tree_referred t (ElseOf us) h = refl
    tree_referred t (NodeOf k ws) h =
        let ts = types_there (node_types program t k) in
        node_referred program t k (parts_by Whole program ts ws) (parts_of ts ws h)
    tree_referred t (PointOf w) h =
        point_referred t (named_by Whole program (inner_type t) w)
        (behind (not (is_mutable t)) (inner_type t) w h (tree_referred (inner_type t) w))
    tree_referred t (RowOf front longer back) h =
        let u = inner_type t in
        let s = both (items_referred program u front) (items_referred program u back) h in
        row_referred t (items_by Whole program u front) longer (items_by Whole program u back) (items_of u front s.0)
        (items_of u back s.1)

    parts_of : (ts : List MType) (ws : MWitnesses) → parts_referred program ts ws ≡ true →
        AllReferred (parts_by Whole program ts ws)
    parts_of ts no_witnesses h = tt
    parts_of [] (more_witnesses w ws) h = tt
    parts_of (t ∷ ts) (more_witnesses w ws) h =
        let s = both (witnesses.is_referred program t w) (parts_referred program ts ws) h in
        (tree_referred t w s.0, parts_of ts ws s.1)

    items_of : (t : MType) (ws : MWitnesses) → items_referred program t ws ≡ true →
        AllReferred (items_by Whole program t ws)
    items_of t no_witnesses h = tt
    items_of t (more_witnesses w ws) h =
        let s = both (witnesses.is_referred program t w) (items_referred program t ws) h in
        (tree_referred t w s.0, items_of t ws s.1)
