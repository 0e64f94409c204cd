-- A witness with room for its parts, and the witness that has them: so memory is had before anything moves.
use Rattle.std.specs.Prelude.{ℕ, ◌+◌, ◌-◌, min, List, take, drop, replicate, length, true, false}
use Rattle.match_model.specs.Constructors.{MShape, FixedShape, LongerShape, MCtor, SingleCtor, PointCtor, LaterCtor, OtherTextCtor, WildCtor, OrCtor, VariantCtor, FlagCtor, NumbersCtor, TextCtor, RowCtor}
use Rattle.match_model.specs.Witness.{MWitness, AnyOf, LaterOf, FlagOf, SpanOf, TextOf, ElseOf, NodeOf, PointOf, RowOf, MWitnesses, no_witnesses, witnesses_list, witnesses_of}
use Rattle.match_model.specs.WitnessList.{first_witness}

-- so many places for witnesses
abbrev pub places : ℕ → MWitnesses
places n = witnesses_of (replicate n AnyOf)

-- a row of the shape with so many places, as many in front as the shape names there
abbrev pub row_room : MShape → ℕ → MWitness
row_room (FixedShape m) n = RowOf (places n) false no_witnesses
row_room (LongerShape f b) n = RowOf (places (min n f)) true (places (n - min n f))

-- a witness of the constructor with so many places, where the column names these texts
abbrev pub room_for : MCtor → (named : List (List ℕ)) → ℕ → MWitness
room_for SingleCtor named n = NodeOf 0 (places n)
room_for (VariantCtor k) named n = NodeOf k (places n)
room_for PointCtor named n = PointOf AnyOf
room_for LaterCtor named n = LaterOf
room_for (FlagCtor b) named n = FlagOf b
room_for (NumbersCtor r) named n = SpanOf r
room_for (TextCtor t) named n = TextOf t
room_for OtherTextCtor named n = ElseOf named
room_for (RowCtor s) named n = row_room s n
room_for WildCtor named n = AnyOf
room_for OrCtor named n = AnyOf

-- how many witnesses stand right below
abbrev pub parts_of_witness : MWitness → ℕ
parts_of_witness (NodeOf k ws) = length (witnesses_list ws)
parts_of_witness (PointOf w) = 1
parts_of_witness (RowOf front longer back) = length (witnesses_list front) + length (witnesses_list back)
parts_of_witness _ = 0

-- the same witness with the first of these in the places of those right below it
abbrev pub filled : MWitness → List MWitness → MWitness
filled (NodeOf k ws) us = NodeOf k (witnesses_of (take (length (witnesses_list ws)) us))
filled (PointOf w) us = PointOf (first_witness us)
filled (RowOf front longer back) us =
    RowOf (witnesses_of (take (length (witnesses_list front)) us)) longer
    (witnesses_of (take (length (witnesses_list back)) (drop (length (witnesses_list front)) us)))
filled w us = w
