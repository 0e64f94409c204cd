-- Laws of the definitions, each proved as the contract of a function of `laws` (our own choice of laws).
use Rattle.std.specs.Prelude.{◌≡◌, ◌↔◌, ℕ, Bool, true, false, List, [], ◌∷◌, ◌++◌, map, length, replicate, IsTrue}
use Rattle.std.specs.List.{list_any, list_all}
use Rattle.std.specs.Str.{IsUtf8}
use Rattle.std.specs.Prelude.{chars}
use Rattle.match_model.specs.declared.Mode.{Mode}
use Rattle.match_model.specs.Types.{MType}
use Rattle.match_model.specs.Declarations.{MProgram, variants_of}
use Rattle.match_model.specs.Values.{MValue, Point}
use Rattle.match_model.specs.Patterns.{MPat, NumPat, FlagPat, SpanPat, FormPat, ListPat, OrPat, MNumbered, more_numbered}
use Rattle.match_model.specs.Ways.{Way, bare_way, join, combine, choosing, under}
use Rattle.match_model.specs.Matching.{ways, mode_behind}
use Rattle.match_model.specs.Match.{ArmWays, is_covered, IsExhaustive}
use Rattle.match_model.specs.Texts.{is_scalar, text_eq, compare_texts}
use Rattle.match_model.specs.SourcePatterns.{offsets_ascend, offsets_differ}
use Rattle.match_model.specs.Witness.{MWitness}
use Rattle.match_model.specs.ExactCover.{IsExactCover}
use Rattle.match_model.specs.ContextViews.{Passing}
use Rattle.match_model.specs.Select.{tries_from, select, Took, Missed}
use Rattle.match_model.specs.ArenaPatterns.{MDePat, de_pats_of, MDeMatch}
use Rattle.match_model.specs.ArenaWays.{NumberedPart, subs_ways, match_arms}
use Rattle.match_model.specs.Matrices.{first_matrix, matrix_ways}
use Rattle.match_model.specs.Constructors.{VariantSet}
use Rattle.match_model.specs.ContextLaws.{ValuesLaw}
use Rattle.match_model.specs.RustTypes.{is_type, rust_set, rust_context, RustValue}

-- the ways of an or-pattern are those of its first alternative and then those of the others
abbrev pub OrIsConcatenation : Type 0
OrIsConcatenation =
    (at : ℕ) (p : MPat) (ps : MNumbered) (m : Mode) (v : MValue) →
    ways (OrPat (more_numbered at p ps)) m v ≡ map (choosing at) (ways p m v) ++ ways (OrPat ps) m v

-- the pattern goes through references on its own
abbrev pub goes_through_references : MPat → Bool
goes_through_references (NumPat n) = true
goes_through_references (FlagPat b) = true
goes_through_references (SpanPat at r) = true
goes_through_references (FormPat k fields) = true
goes_through_references (ListPat front rest back) = true
goes_through_references _ = false

-- such a pattern has on a reference its own ways behind it, and the binding mode changes as it says
abbrev pub GoesThrough : Type 0
GoesThrough =
    (p : MPat) (m : Mode) (mutable : Bool) (v : MValue) → IsTrue (goes_through_references p) →
    ways p m (Point mutable v) ≡ map (under 0) (ways p (mode_behind mutable m) v)

-- where all guards refuse, a match is missed exactly where no arm covers the value
abbrev pub MissedWhereUncovered : Type 0
MissedWhereUncovered =
    (arms : List ArmWays) (v : MValue) →
    let answers : List Bool = replicate (length (tries_from 0 arms v)) false in
    ((select arms v answers).outcome ≡ Missed) ↔ (is_covered arms v ≡ false)

-- where all guards refuse, the first arm that covers the value is taken, with the bindings of its first way
abbrev pub FirstWayIsTaken : Type 0
FirstWayIsTaken =
    (before : List ArmWays) (a : ArmWays) (rest : List ArmWays) (v : MValue) (w : Way) (ws : List Way) (more : List Bool) →
    is_covered before v ≡ false → a.guarded ≡ false → a.ways_of v ≡ w ∷ ws →
    (select (before ++ a ∷ rest) v (replicate (length (tries_from 0 before v)) false ++ more)).outcome ≡ Took (length before) w.bindings

-- it does not count in which groups ways are joined or combined
abbrev pub JoinIsAssociative : Type 0
JoinIsAssociative = (a b c : Way) → join (join a b) c ≡ join a (join b c)

-- it does not count in which groups lists of ways are combined
abbrev pub CombineIsAssociative : Type 0
CombineIsAssociative = (xs ys zs : List Way) → combine (combine xs ys) zs ≡ combine xs (combine ys zs)

-- a way joined with the bare way, on either side, is itself
abbrev pub BareWayIsUnit : Type 0
BareWayIsUnit = (w : Way) → (join w bare_way ≡ w) × (join bare_way w ≡ w)

-- the ways of patterns on a list of parts are the combinations of those on its two halves
abbrev pub PartsSplit : (T : Type 0) → Type 0
PartsSplit T =
    (ps qs : List (MDePat T)) (us vs : List NumberedPart) → length ps ≡ length us →
    subs_ways (de_pats_of (ps ++ qs)) (us ++ vs) ≡ combine (subs_ways (de_pats_of ps) us) (subs_ways (de_pats_of qs) vs)

-- the matrix of the arms' patterns over the scrutinee has the arms' ways
abbrev pub FirstMatrixHasTheArms : (T : Type 0) → Type 0
FirstMatrixHasTheArms T =
    (m : MDeMatch T) (v : MValue) → matrix_ways (first_matrix m) v ≡ tries_from 0 (match_arms m) v

-- a type that has variants has as many as its set of constructors says
abbrev pub VariantsAreCounted : Type 0
VariantsAreCounted =
    (program : MProgram) (t : MType) (count : ℕ) (later : Bool) → IsTrue (is_type program t) →
    rust_set program t ≡ VariantSet count later → length (variants_of program t) ≡ count

-- Rust's own types keep the law on values: exactly one elementary constructor builds each
abbrev pub RustValuesLaw : Type 0
RustValuesLaw =
    (program : MProgram) → ValuesLaw (λ t. IsTrue (is_type program t)) (RustValue program) (rust_context program)

-- a match is exhaustive exactly where an exact cover of what it leaves out is empty, over any domain that a test tells
abbrev pub ExhaustiveWhereNothingIsLeft : Type 0
ExhaustiveWhereNothingIsLeft =
    (domain : MValue → Bool) (arms : List ArmWays) (ws : List MWitness) → IsExactCover (Passing domain) arms ws →
    IsExhaustive (Passing domain) arms ↔ (ws ≡ [])

-- where the offsets of a pattern's alternatives ascend, they differ
abbrev pub AscendingOffsetsDiffer : Type 0
AscendingOffsetsDiffer = (p : MPat) → IsTrue (offsets_ascend p) → IsTrue (offsets_differ p)

-- for every list of texts there is a text outside
abbrev pub TextOutside : Type 0
TextOutside = (texts : List (List ℕ)) → (t : List ℕ) × IsTrue (list_all is_scalar t) × (list_any (text_eq t) texts ≡ false)

-- two texts stand to each other as their UTF-8 bytes do (The Unicode Standard, UTF-8), and are equal where these are
abbrev pub TextsAreOrderedAsBytes : Type 0
TextsAreOrderedAsBytes =
    (a b : List ℕ) → IsUtf8 a → IsUtf8 b →
    (compare_texts a b ≡ compare_texts (chars a) (chars b)) × (text_eq a b ≡ text_eq (chars a) (chars b))
