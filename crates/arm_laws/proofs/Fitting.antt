-- What fits a witness of a type its arm takes.
use Rattle.std.proofs.Common.{◌≡◌, ℤ, pos, negsuc, ◌-◌, ◌^◌, Bool, true, false, ◌&&◌, cond, List, [], ◌∷◌, length}
use Rattle.std.proofs.Common.{take, drop, nat_eq, refl, arith}
use Rattle.std.specs.Prelude.{int_lt}
use Rattle.std.proofs.lemmas.Int.{ints}
use Rattle.match_model.specs.declared.IntKind.{IntKind}
use Rattle.match_model.specs.declared.IntKind.TheVariants as kinds
use Rattle.match_model.specs.Types.{MType, IntType}
use Rattle.match_model.specs.Declarations.{MProgram, node_types}
use Rattle.match_model.specs.Numbers.{MEnd, Free, At, MRange, in_range}
use Rattle.match_model.specs.RustTypes.{inner_type}
use Rattle.match_model.specs.Constructors.{covers}
use Rattle.match_model.specs.Values.{MValue, Node, Point, Row, Num, values_list}
use Rattle.match_model.specs.Witness.{MWitness, AnyOf, LaterOf, FlagOf, SpanOf, TextOf, ElseOf, NodeOf, PointOf}
use Rattle.match_model.specs.Witness.{RowOf, MWitnesses, no_witnesses, more_witnesses, witnesses_list, slice_shape}
use Rattle.match_model.specs.Witness.{fits, all_fit}
use Rattle.match_model.proofs.Basics.{both, and_true, untrue}
use Rattle.witness_names.specs.Named.{types_there}
use Rattle.arm_maker.proofs.Typed.{IsOfType, AreParts, AreItems, node_parts, point_part, row_items}
use Rattle.arm_laws.specs.Takes.{range_taken, taken_by, takes, parts_take, items_take}

-- from a number above the greatest literal on, or below the least one
above : (top n : ℤ) (high : MEnd) (z : ℤ) → int_lt top n ≡ true → in_range (record { low = At n; high = high }) z ≡
    true →
    in_range (record { low = At top; high = Free }) z ≡ true
above top n Free z l h = grind (arith, ints)
above top n (At m) z l h = grind (arith, ints)

below : (least m : ℤ) (low : MEnd) (z : ℤ) → int_lt m least ≡ true → in_range (record { low = low; high = At m }) z ≡
    true →
    in_range (record { low = Free; high = At least }) z ≡ true
below least m Free z l h = grind (arith, ints)
below least m (At n) z l h = grind (arith, ints)

-- the written range has each number of the range
wider : (kind : IntKind) (low high : MEnd) (z : ℤ) → in_range (record { low = low; high = high }) z ≡ true →
    in_range (range_taken kind (record { low = low; high = high })) z ≡ true
wider kinds.USize Free high z h = h
wider kinds.USize (At n) high z h = go (int_lt (pos (2 ^ 64 - 1)) n) refl
  where
    go : (b : Bool) → int_lt (pos (2 ^ 64 - 1)) n ≡ b →
        in_range (cond b (record { low = At (pos (2 ^ 64 - 1)); high = Free }) (record { low = At n; high = high })) z
        ≡ true
    go true e = above (pos (2 ^ 64 - 1)) n high z e h
    go false e = h
wider kinds.ISize Free Free z h = h
wider kinds.ISize Free (At m) z h = go (int_lt m (negsuc (2 ^ 63 - 1))) refl
  where
    go : (b : Bool) → int_lt m (negsuc (2 ^ 63 - 1)) ≡ b →
        in_range (cond b (record { low = Free; high = At (negsuc (2 ^ 63 - 1)) })
        (record { low = Free; high = At m })) z ≡ true
    go true e = below (negsuc (2 ^ 63 - 1)) m Free z e h
    go false e = h
wider kinds.ISize (At n) Free z h = go (int_lt (pos (2 ^ 63 - 1)) n) refl
  where
    go : (b : Bool) → int_lt (pos (2 ^ 63 - 1)) n ≡ b →
        in_range (cond b (record { low = At (pos (2 ^ 63 - 1)); high = Free }) (record { low = At n; high = Free })) z
        ≡ true
    go true e = above (pos (2 ^ 63 - 1)) n Free z e h
    go false e = h
wider kinds.ISize (At n) (At m) z h =
    go (int_lt (pos (2 ^ 63 - 1)) n) (int_lt m (negsuc (2 ^ 63 - 1))) refl refl
  where
    go : (b c : Bool) → int_lt (pos (2 ^ 63 - 1)) n ≡ b → int_lt m (negsuc (2 ^ 63 - 1)) ≡ c →
        in_range (cond b (record { low = At (pos (2 ^ 63 - 1)); high = Free })
        (cond c (record { low = Free; high = At (negsuc (2 ^ 63 - 1)) }) (record { low = At n; high = At m }))) z ≡
        true
    go true c e f = above (pos (2 ^ 63 - 1)) n (At m) z e h
    go false true e f = below (negsuc (2 ^ 63 - 1)) m (At n) z f h
    go false false e f = h
wider _ low high z h = h

wider_by : (t : MType) (r : MRange) (z : ℤ) → in_range r z ≡ true → in_range (taken_by t r) z ≡ true
wider_by (IntType kind) r z h = wider kind r.low r.high z h
wider_by _ r z h = h

span_taken : (program : MProgram) (t : MType) (r : MRange) (v : MValue) → fits (SpanOf r) v ≡ true →
    takes program t (SpanOf r) v ≡ true
span_taken program t r (Num z) h = wider_by t r z h
span_taken program t r _ h = untrue h

module _ (program : MProgram) where
  mutual
    pub fits_takes : (t : MType) (w : MWitness) (v : MValue) → IsOfType program t w → fits w v ≡ true →
        takes program t w v ≡ true
    fits_takes t AnyOf v d h = refl
    fits_takes t LaterOf v d h = refl
    fits_takes t (ElseOf ts) v d h = refl
    fits_takes t (FlagOf b) v d h = h
    fits_takes t (TextOf b) v d h = h
    fits_takes t (SpanOf r) v d h = span_taken program t r v h
    fits_takes t (NodeOf k ws) (Node j parts) d h =
        let b = both (nat_eq k j) (all_fit ws (values_list parts)) h in
        and_true (nat_eq k j) (parts_take program (types_there (node_types program t k)) ws (values_list parts)) b.0
        (parts_taken (types_there (node_types program t k)) ws (values_list parts) (node_parts program t k ws d) b.1)
    fits_takes t (NodeOf k ws) _ d h = untrue h
    fits_takes t (PointOf w) (Point m v) d h = fits_takes (inner_type t) w v (point_part program t w d) h
    fits_takes t (PointOf w) _ d h = untrue h
    fits_takes t (RowOf front longer back) (Row items) d h =
        let vs = values_list items in
        let f = length (witnesses_list front) in
        let b = length (witnesses_list back) in
        let c = both (covers (slice_shape f longer b) (length vs))
        (all_fit front (take f vs) && all_fit back (drop (length vs - b) vs)) h in
        let e = both (all_fit front (take f vs)) (all_fit back (drop (length vs - b) vs)) c.1 in
        let g = row_items program t front longer back d in
        and_true (covers (slice_shape f longer b) (length vs)) _ c.0
        (and_true (items_take program (inner_type t) front (take f vs))
        (items_take program (inner_type t) back (drop (length vs - b) vs))
        (items_taken (inner_type t) front (take f vs) g.0 e.0)
        (items_taken (inner_type t) back (drop (length vs - b) vs) g.1 e.1))
    fits_takes t (RowOf front longer back) _ d h = untrue h

    parts_taken : (ts : List MType) (ws : MWitnesses) (vs : List MValue) → AreParts program ts ws → all_fit ws vs ≡
        true →
        parts_take program ts ws vs ≡ true
    parts_taken [] no_witnesses [] d h = refl
    parts_taken (t ∷ ts) no_witnesses vs d h = absurd d
    parts_taken [] no_witnesses (v ∷ vs) d h = untrue h
    parts_taken [] (more_witnesses w ws) vs d h = absurd d
    parts_taken (t ∷ ts) (more_witnesses w ws) [] d h = untrue h
    parts_taken (t ∷ ts) (more_witnesses w ws) (v ∷ vs) d h =
        let b = both (fits w v) (all_fit ws vs) h in
        and_true (takes program t w v) (parts_take program ts ws vs) (fits_takes t w v d.0 b.0)
        (parts_taken ts ws vs d.1 b.1)

    items_taken : (t : MType) (ws : MWitnesses) (vs : List MValue) → AreItems program t ws → all_fit ws vs ≡ true →
        items_take program t ws vs ≡ true
    items_taken t no_witnesses [] d h = refl
    items_taken t no_witnesses (v ∷ vs) d h = untrue h
    items_taken t (more_witnesses w ws) [] d h = untrue h
    items_taken t (more_witnesses w ws) (v ∷ vs) d h =
        let b = both (fits w v) (all_fit ws vs) h in
        and_true (takes program t w v) (items_take program t ws vs) (fits_takes t w v d.0 b.0)
        (items_taken t ws vs d.1 b.1)
