-- Witness lists of matches on slices and arrays: lengths, ends, and arrays of no items.
use Rattle.std.proofs.Common.{◌≡◌, true, false, [], ◌∷◌, Some, refl}
use Rattle.match_model.specs.Types.{MType, BoolType, NeverType, SliceType, ArrayType}
use Rattle.match_model.specs.Values.{MValue, Flag, Row, Unseen, no_values, values_of}
use Rattle.match_model.specs.Witness.{AnyOf, FlagOf, RowOf, no_witnesses, witnesses_of}
use Rattle.match_model.specs.Constructors.{FlagCtor, RowCtor, FixedShape, LongerShape}
use Rattle.match_model.specs.ArenaPatterns.{MDePat, de_pat, no_de_pats, de_pats_of, MDeMatch}
use Rattle.match_model.specs.WitnessList.{IsWitnessList, by_rows, no_row, taken, by_pieces, with_value, no_piece}
use Rattle.match_model.specs.RustTypes.{rust_context, RustValue}
use Rattle.match_examples.proofs.ExamplesValues.{program}
use Rattle.match_examples.proofs.SmallMatches.{one, flag_pat}

-- `[]` and `[true, .., false]` on a slice of flags: `[_]`, `[false, .., _]`, `[true, .., true]`
abbrev flags : MType
flags = SliceType BoolType

abbrev none_pat : MDePat MType
none_pat = de_pat (RowCtor (FixedShape 0)) flags 1 1 no_de_pats []

abbrev ends_pat : MDePat MType
ends_pat = de_pat (RowCtor (LongerShape 1 1)) flags 2 2 (de_pats_of (flag_pat true ∷ flag_pat false ∷ [])) []

abbrev slice_match : MDeMatch MType
slice_match = record { type = flags; sure = true; arms = record { pat = none_pat; guarded = false } ∷ record { pat = ends_pat; guarded = false } ∷ [] }

pub slice_list : IsWitnessList (rust_context program) (RustValue program) slice_match
    (RowOf (witnesses_of (AnyOf ∷ [])) false no_witnesses ∷ RowOf (witnesses_of (FlagOf false ∷ [])) true (witnesses_of (AnyOf ∷ [])) ∷ RowOf (witnesses_of (FlagOf true ∷ [])) true (witnesses_of (FlagOf true ∷ [])) ∷ [])
slice_list =
    by_rows (Row no_values) _ refl seen
    (by_pieces (record { type = flags; sure = true }) [] (Some none_pat ∷ []) ((Some ends_pat ∷ []) ∷ []) (RowCtor (FixedShape 0) ∷ RowCtor (FixedShape 1) ∷ RowCtor (LongerShape 1 1) ∷ []) _ refl refl
    (with_value _ _ _ _ (RowCtor (FixedShape 0)) _ [] _ (Row no_values, refl, refl) (taken [] [])
    (with_value _ _ _ _ (RowCtor (FixedShape 1)) _ ((AnyOf ∷ []) ∷ []) _ (Row (values_of (Flag true ∷ [])), refl, refl) (no_row (record { type = BoolType; sure = true } ∷ []))
    (with_value _ _ _ _ (RowCtor (LongerShape 1 1)) [] ((FlagOf false ∷ AnyOf ∷ []) ∷ (FlagOf true ∷ FlagOf true ∷ []) ∷ []) [] (Row (values_of (Flag true ∷ Flag true ∷ [])), refl, refl)
    (by_pieces (record { type = BoolType; sure = true }) (record { type = BoolType; sure = true } ∷ []) (Some (flag_pat true) ∷ Some (flag_pat false) ∷ []) [] (FlagCtor false ∷ FlagCtor true ∷ []) _ refl refl
    (with_value _ _ _ _ (FlagCtor false) _ ((AnyOf ∷ []) ∷ []) _ (Flag false, refl, refl) (no_row (record { type = BoolType; sure = true } ∷ []))
    (with_value _ _ _ _ (FlagCtor true) [] ((FlagOf true ∷ []) ∷ []) [] (Flag true, refl, refl)
    (by_pieces (record { type = BoolType; sure = true }) [] (Some (flag_pat false) ∷ []) [] (FlagCtor false ∷ FlagCtor true ∷ []) _ refl refl
    (with_value _ _ _ _ (FlagCtor false) _ [] _ (Flag false, refl, refl) (taken [] [])
    (with_value _ _ _ _ (FlagCtor true) [] ([] ∷ []) [] (Flag true, refl, refl) (no_row []) (no_piece _ _ _ _))))
    (no_piece _ _ _ _))))
    (no_piece _ _ _ _)))))
  where
    seen : Row no_values ≡ Unseen → ⊥
    seen e = cc

-- `[true, .., true] => ..` on `[bool; 3]`: one piece by its ends
abbrev three_flags : MType
three_flags = ArrayType BoolType 3

abbrev array_pat : MDePat MType
array_pat = de_pat (RowCtor (LongerShape 1 1)) three_flags 2 2 (de_pats_of (flag_pat true ∷ flag_pat true ∷ [])) []

abbrev array_value : MValue
array_value = Row (values_of (Flag true ∷ Flag true ∷ Flag true ∷ []))

pub array_list : IsWitnessList (rust_context program) (RustValue program) (one three_flags array_pat)
    (RowOf (witnesses_of (FlagOf false ∷ [])) true (witnesses_of (AnyOf ∷ [])) ∷ RowOf (witnesses_of (FlagOf true ∷ [])) true (witnesses_of (FlagOf false ∷ [])) ∷ [])
array_list =
    by_rows array_value _ refl seen
    (by_pieces (record { type = three_flags; sure = true }) [] (Some array_pat ∷ []) [] (RowCtor (LongerShape 1 1) ∷ []) _ refl refl
    (with_value _ _ _ _ (RowCtor (LongerShape 1 1)) [] ((FlagOf false ∷ AnyOf ∷ []) ∷ (FlagOf true ∷ FlagOf false ∷ []) ∷ []) [] (array_value, refl, refl)
    (by_pieces (record { type = BoolType; sure = true }) (record { type = BoolType; sure = true } ∷ []) (Some (flag_pat true) ∷ Some (flag_pat true) ∷ []) [] (FlagCtor false ∷ FlagCtor true ∷ []) _ refl refl
    (with_value _ _ _ _ (FlagCtor false) _ ((AnyOf ∷ []) ∷ []) _ (Flag false, refl, refl) (no_row (record { type = BoolType; sure = true } ∷ []))
    (with_value _ _ _ _ (FlagCtor true) [] ((FlagOf false ∷ []) ∷ []) [] (Flag true, refl, refl)
    (by_pieces (record { type = BoolType; sure = true }) [] (Some (flag_pat true) ∷ []) [] (FlagCtor false ∷ FlagCtor true ∷ []) _ refl refl
    (with_value _ _ _ _ (FlagCtor false) _ ([] ∷ []) _ (Flag false, refl, refl) (no_row [])
    (with_value _ _ _ _ (FlagCtor true) [] [] [] (Flag true, refl, refl) (taken [] []) (no_piece _ _ _ _))))
    (no_piece _ _ _ _))))
    (no_piece _ _ _ _)))
  where
    seen : array_value ≡ Unseen → ⊥
    seen e = cc

-- `[!; 0]`: without an arm anything is left, and after the arm `[]` nothing
abbrev no_flags : MType
no_flags = ArrayType NeverType 0

abbrev empty_pat : MDePat MType
empty_pat = de_pat (RowCtor (FixedShape 0)) no_flags 1 1 no_de_pats []

empty_seen : Row no_values ≡ Unseen → ⊥
empty_seen e = cc

pub no_arm_list : IsWitnessList (rust_context program) (RustValue program) (record { type = no_flags; sure = true; arms = [] }) (AnyOf ∷ [])
no_arm_list = by_rows (Row no_values) (AnyOf ∷ []) refl empty_seen (no_row (record { type = no_flags; sure = true } ∷ []))

pub empty_array_list : IsWitnessList (rust_context program) (RustValue program) (one no_flags empty_pat) []
empty_array_list =
    by_rows (Row no_values) [] refl empty_seen
    (by_pieces (record { type = no_flags; sure = true }) [] (Some empty_pat ∷ []) [] (RowCtor (FixedShape 0) ∷ []) _ refl refl
    (with_value _ _ _ _ (RowCtor (FixedShape 0)) [] [] [] (Row no_values, refl, refl) (taken [] []) (no_piece _ _ _ _)))
