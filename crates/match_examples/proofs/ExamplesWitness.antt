-- Worked examples: witnesses, the values that fit them, and their order; the witness list of small matches.
use Rattle.std.proofs.Common.{◌≡◌, ℕ, pos, negsuc, Bool, true, false, [], ◌∷◌, ◌^◌, Some, None, refl}
use Rattle.match_model.specs.Types.{OptionOwner, MType, BoolType, NeverType, PointType, SliceType, NamedType, no_types, more_types}
use Rattle.match_model.specs.Values.{MValue, Flag, Num, Text, Node, Point, Row, Thing, Later, Unseen, no_values, values_of}
use Rattle.match_model.specs.Numbers.{MRange, Free, At}
use Rattle.match_model.specs.Witness.{AnyOf, LaterOf, FlagOf, SpanOf, TextOf, ElseOf, NodeOf, PointOf, RowOf, no_witnesses, witnesses_of, fits}
use Rattle.match_model.specs.WitnessOrder.{compare_witness, Same, Before, NotBefore}
use Rattle.match_model.specs.Constructors.{FixedShape, LongerShape, FlagCtor, NumbersCtor, RowCtor, belongs, is_of_set, MSet, OneText, OneNumber, NumberSet, TextSet, RowSet, TextCtor, has_piece}
use Rattle.match_model.specs.ArenaPatterns.{MDePat, de_pat, no_de_pats, MDeMatch}
use Rattle.match_model.specs.Pieces.{slice_pieces, array_piece, Follow, last_one, one_more, is_cut_at}
use Rattle.match_model.specs.WitnessList.{IsWitnessList, nothing_to_match, by_rows, no_row, taken, by_pieces, with_value, no_piece}
use Rattle.match_model.specs.OfType.{witness_is_of}
use Rattle.match_model.specs.RustTypes.{rust_context, RustValue}
use Rattle.match_examples.proofs.ExamplesValues.{program}

abbrev span : ℕ → ℕ → MRange
span a b = record { low = At (pos a); high = At (pos b) }

-- anything, flags, ranges, texts, all other texts, later variants
pub fits_any : (fits AnyOf Unseen ≡ true) × (fits AnyOf (Flag true) ≡ true)
fits_any = (refl, refl)

pub fits_flag : (fits (FlagOf true) (Flag true) ≡ true) × (fits (FlagOf true) (Flag false) ≡ false) × (fits (FlagOf true) Unseen ≡ false)
fits_flag = (refl, refl, refl)

pub fits_span : (fits (SpanOf (span 3 5)) (Num (pos 5)) ≡ true) × (fits (SpanOf (span 3 5)) (Num (pos 6)) ≡ false) × (fits (SpanOf (record { low = Free; high = At (negsuc 0) })) (Num (negsuc 99)) ≡ true)
fits_span = (refl, refl, refl)

pub fits_text : (fits (TextOf (97 ∷ [])) (Text (97 ∷ [])) ≡ true) × (fits (ElseOf ((97 ∷ []) ∷ [])) (Text (97 ∷ [])) ≡ false) × (fits (ElseOf ((97 ∷ []) ∷ [])) (Text []) ≡ true)
fits_text = (refl, refl, refl)

pub fits_later : (fits LaterOf Later ≡ true) × (fits LaterOf (Node 0 no_values) ≡ false)
fits_later = (refl, refl)

-- parts fit one by one, and there are as many
pub fits_node : (fits (NodeOf 1 (witnesses_of (AnyOf ∷ FlagOf true ∷ []))) (Node 1 (values_of (Thing ∷ Flag true ∷ []))) ≡ true) × (fits (NodeOf 1 (witnesses_of (AnyOf ∷ []))) (Node 1 (values_of (Thing ∷ Flag true ∷ []))) ≡ false) × (fits (NodeOf 1 no_witnesses) (Node 0 no_values) ≡ false)
fits_node = (refl, refl, refl)

pub fits_point : (fits (PointOf (FlagOf true)) (Point true (Flag true)) ≡ true) × (fits (PointOf AnyOf) (Flag true) ≡ false)
fits_point = (refl, refl)

-- `[_, .., 3..]`, and a row of one length
pub fits_longer : (fits (RowOf (witnesses_of (AnyOf ∷ [])) true (witnesses_of (SpanOf (record { low = At (pos 3); high = Free }) ∷ []))) (Row (values_of (Num (pos 9) ∷ Num (pos 0) ∷ Num (pos 3) ∷ []))) ≡ true) × (fits (RowOf (witnesses_of (AnyOf ∷ [])) true (witnesses_of (AnyOf ∷ []))) (Row (values_of (Num (pos 9) ∷ []))) ≡ false)
fits_longer = (refl, refl)

pub fits_fixed : (fits (RowOf (witnesses_of (AnyOf ∷ [])) false no_witnesses) (Row (values_of (Thing ∷ []))) ≡ true) × (fits (RowOf (witnesses_of (AnyOf ∷ [])) false no_witnesses) (Row (values_of (Thing ∷ Thing ∷ []))) ≡ false)
fits_fixed = (refl, refl)

-- the order: variants before later ones, ranges by their numbers, `Else` after all texts, rows by their least length
pub order_node : (compare_witness (NodeOf 0 no_witnesses) (NodeOf 1 no_witnesses) ≡ Before) × (compare_witness (NodeOf 7 no_witnesses) LaterOf ≡ Before) × (compare_witness LaterOf (NodeOf 7 no_witnesses) ≡ NotBefore)
order_node = (refl, refl, refl)

pub order_flag : (compare_witness (FlagOf false) (FlagOf true) ≡ Before) × (compare_witness (FlagOf true) (FlagOf false) ≡ NotBefore)
order_flag = (refl, refl)

pub order_span : (compare_witness (SpanOf (span 0 5)) (SpanOf (span 6 9)) ≡ Before) × (compare_witness (SpanOf (record { low = Free; high = At (negsuc 0) })) (SpanOf (span 0 5)) ≡ Before) × (compare_witness (SpanOf (span 0 5)) (SpanOf (span 0 5)) ≡ Same)
order_span = (refl, refl, refl)

pub order_text : (compare_witness (TextOf (97 ∷ [])) (TextOf (98 ∷ [])) ≡ Before) × (compare_witness (TextOf (98 ∷ [])) (ElseOf ((98 ∷ []) ∷ [])) ≡ Before) × (compare_witness (ElseOf []) (TextOf (98 ∷ [])) ≡ NotBefore)
order_text = (refl, refl, refl)

pub order_row : (compare_witness (RowOf (witnesses_of (AnyOf ∷ [])) false no_witnesses) (RowOf (witnesses_of (AnyOf ∷ AnyOf ∷ [])) true no_witnesses) ≡ Before) × (compare_witness (RowOf (witnesses_of (AnyOf ∷ AnyOf ∷ [])) false no_witnesses) (RowOf (witnesses_of (AnyOf ∷ [])) true (witnesses_of (AnyOf ∷ []))) ≡ NotBefore)
order_row = (refl, refl)

-- the first difference decides: the parts are walked in order
pub order_parts : compare_witness (NodeOf 0 (witnesses_of (FlagOf false ∷ FlagOf true ∷ []))) (NodeOf 0 (witnesses_of (FlagOf true ∷ FlagOf false ∷ []))) ≡ Before
order_parts = refl

pub order_any : (compare_witness AnyOf (FlagOf true) ≡ NotBefore) × (compare_witness (FlagOf true) AnyOf ≡ NotBefore)
order_any = (refl, refl)

-- a range of the witness list spans no hole: its ends lie in the set; on a free side the last number held is no end
abbrev usize_set : MSet
usize_set = NumberSet (record { low = At (pos 0); high = Free }) None

pub number_belongs : (belongs usize_set (NumbersCtor (record { low = At (pos 3); high = Free })) ≡ true) × (belongs usize_set (NumbersCtor (record { low = Free; high = Free })) ≡ false) × (is_of_set usize_set (OneNumber (pos (2 ^ 200))) ≡ true)
number_belongs = (refl, refl, refl)

pub text_belongs : (is_of_set TextSet (OneText (0xd800 ∷ [])) ≡ false) × (belongs TextSet (TextCtor (97 ∷ [])) ≡ true)
text_belongs = (refl, refl)

pub row_belongs : (belongs (RowSet (Some 3)) (RowCtor (LongerShape 1 2)) ≡ true) × (belongs (RowSet (Some 3)) (RowCtor (FixedShape 2)) ≡ false)
row_belongs = (refl, refl)

-- `[], [_], [_, .., _]` on a slice: lengths 0 and 1, and all from 2 on, in which the last item is placed from the back
pub lengths_cut : slice_pieces (RowCtor (FixedShape 0) ∷ RowCtor (FixedShape 1) ∷ RowCtor (LongerShape 1 1) ∷ []) ≡ RowCtor (FixedShape 0) ∷ RowCtor (FixedShape 1) ∷ RowCtor (LongerShape 1 1) ∷ []
lengths_cut = refl

pub array_cut : (array_piece 3 (RowCtor (LongerShape 1 1) ∷ []) ≡ RowCtor (LongerShape 1 1)) × (array_piece 2 (RowCtor (LongerShape 1 1) ∷ []) ≡ RowCtor (FixedShape 2))
array_cut = (refl, refl)

pub pieces_had : (has_piece (RowCtor (LongerShape 1 0)) (RowCtor (LongerShape 1 1)) ≡ true) × (has_piece (RowCtor (FixedShape 2)) (RowCtor (LongerShape 1 1)) ≡ false) × (has_piece (NumbersCtor (span 0 9)) (NumbersCtor (span 3 9)) ≡ true) × (has_piece (NumbersCtor (span 0 9)) (NumbersCtor (span 3 10)) ≡ false)
pieces_had = (refl, refl, refl, refl)

-- 0 to 255 with the head 0 to 99: cut behind 99
pub byte_follows : Follow (At (pos 0)) (At (pos 255)) (span 0 99 ∷ span 100 255 ∷ [])
byte_follows = one_more (At (pos 0)) (At (pos 255)) (pos 99) (span 100 255 ∷ []) refl (last_one (At (pos 100)) (At (pos 255)) (pos 100) refl)

pub byte_cuts : (is_cut_at (span 0 99 ∷ []) (pos 100) ≡ true) × (is_cut_at (span 0 99 ∷ []) (pos 99) ≡ false)
byte_cuts = (refl, refl)

-- witnesses of a type: a range over the surrogates is none of `char`; a variant beyond the last is none
abbrev option_bool : MType
option_bool = NamedType OptionOwner (more_types BoolType no_types)

pub of_option : (witness_is_of (rust_context program) option_bool (NodeOf 1 (witnesses_of (FlagOf true ∷ []))) ≡ true) × (witness_is_of (rust_context program) option_bool (NodeOf 2 no_witnesses) ≡ false) × (witness_is_of (rust_context program) option_bool (NodeOf 1 no_witnesses) ≡ false) × (witness_is_of (rust_context program) option_bool (FlagOf true) ≡ false)
of_option = (refl, refl, refl, refl)

-- `match x {}` on `!` leaves nothing out, on `&!` it leaves out anything
abbrev no_arms : MType → MDeMatch MType
no_arms t = record { type = t; sure = true; arms = [] }

never_unseen : (v : MValue) → RustValue program NeverType true v → v ≡ Unseen
never_unseen Unseen h = refl
never_unseen (Flag b) h = cc
never_unseen (Num n) h = cc
never_unseen (Text u) h = cc
never_unseen (Node k parts) h = cc
never_unseen (Point m v) h = cc
never_unseen (Row items) h = cc
never_unseen Thing h = cc
never_unseen Later h = cc

pub never_list : IsWitnessList (rust_context program) (RustValue program) (no_arms NeverType) []
never_list = nothing_to_match never_unseen

pub never_behind_list : IsWitnessList (rust_context program) (RustValue program) (no_arms (PointType false NeverType)) (AnyOf ∷ [])
never_behind_list = by_rows (Point false Unseen) (AnyOf ∷ []) refl no_unseen (no_row (record { type = PointType false NeverType; sure = true } ∷ []))
  where
    no_unseen : Point false Unseen ≡ Unseen → ⊥
    no_unseen e = cc

-- `true => ..` on `bool` leaves out `false`
abbrev flag_pat : Bool → MDePat MType
flag_pat b = de_pat (FlagCtor b) BoolType 0 0 no_de_pats []

abbrev only_true : MDeMatch MType
only_true = record { type = BoolType; sure = true; arms = record { pat = flag_pat true; guarded = false } ∷ [] }

pub only_true_list : IsWitnessList (rust_context program) (RustValue program) only_true (FlagOf false ∷ [])
only_true_list =
    by_rows (Flag true) (FlagOf false ∷ []) refl no_unseen
    (by_pieces (record { type = BoolType; sure = true }) [] (Some (flag_pat true) ∷ []) [] (FlagCtor false ∷ FlagCtor true ∷ []) ((FlagOf false ∷ []) ∷ []) refl refl
    (with_value _ _ _ _ (FlagCtor false) (FlagCtor true ∷ []) ([] ∷ []) [] (Flag false, refl, refl) (no_row [])
    (with_value _ _ _ _ (FlagCtor true) [] [] [] (Flag true, refl, refl) (taken [] [])
    (no_piece _ _ _ _))))
  where
    no_unseen : Flag true ≡ Unseen → ⊥
    no_unseen e = cc

-- a row of one length has all its items in front
pub of_rows : (witness_is_of (rust_context program) (SliceType BoolType) (RowOf (witnesses_of (FlagOf false ∷ [])) false (witnesses_of (FlagOf true ∷ []))) ≡ false) × (witness_is_of (rust_context program) (SliceType BoolType) (RowOf (witnesses_of (FlagOf false ∷ FlagOf true ∷ [])) false no_witnesses) ≡ true) × (witness_is_of (rust_context program) (SliceType BoolType) (RowOf (witnesses_of (FlagOf false ∷ [])) true (witnesses_of (FlagOf true ∷ []))) ≡ true)
of_rows = (refl, refl, refl)
