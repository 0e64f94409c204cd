-- The order in which the pieces of a column stand (our own choice).
use Rattle.std.specs.Prelude.{◌≡◌, ◌<◌, ⊤, true, false, List, [], ◌∷◌}
use Rattle.match_model.specs.Constructors.{MCtor, LaterCtor, OtherTextCtor, VariantCtor, FlagCtor, NumbersCtor, TextCtor, RowCtor, least_length}
use Rattle.match_model.specs.WitnessOrder.{Before, compare_low, compare_text}

-- the first constructor stands before the second one: `false` before `true`, variants by number and then later ones, ranges
-- by their low ends, texts ascending and then all others, rows by their least length
abbrev pub IsEarlier : MCtor → MCtor → Type 0
IsEarlier (FlagCtor false) (FlagCtor true) = ⊤
IsEarlier (VariantCtor j) (VariantCtor k) = j < k
IsEarlier (VariantCtor j) LaterCtor = ⊤
IsEarlier (NumbersCtor r) (NumbersCtor s) = compare_low r.low s.low ≡ Before
IsEarlier (TextCtor t) (TextCtor u) = compare_text t u ≡ Before
IsEarlier (TextCtor t) OtherTextCtor = ⊤
IsEarlier (RowCtor s) (RowCtor r) = least_length s < least_length r
IsEarlier _ _ = ⊥

-- the constructor stands before each of these
abbrev pub IsBeforeEach : MCtor → List MCtor → Type 0
IsBeforeEach c [] = ⊤
IsBeforeEach c (d ∷ ds) = IsEarlier c d × IsBeforeEach c ds

-- each constructor stands before all later ones
abbrev pub AreInOrder : List MCtor → Type 0
AreInOrder [] = ⊤
AreInOrder (c ∷ cs) = IsBeforeEach c cs × AreInOrder cs
