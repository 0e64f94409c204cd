-- The list of witnesses of a match, among all exact ones (our own choice).
use Rattle.std.specs.Prelude.{◌≡◌, ◌≢◌, ℕ, Bool, true, false, ◌&&◌, List, [], ◌∷◌, ◌++◌, map, take, drop, replicate, length, Some, IsTrue}
use Rattle.std.specs.List.{flat_map, list_all, list_any}
use Rattle.match_model.specs.Values.{MValue, Unseen}
use Rattle.match_model.specs.Witness.{MWitness, AnyOf, LaterOf, FlagOf, SpanOf, TextOf, ElseOf, NodeOf, PointOf, RowOf, no_witnesses, witnesses_of}
use Rattle.match_model.specs.Constructors.{MShape, FixedShape, LongerShape, MCtor, SingleCtor, PointCtor, LaterCtor, OtherTextCtor, VariantCtor, FlagCtor, NumbersCtor, TextCtor, RowCtor, WildCtor, OrCtor}
use Rattle.match_model.specs.Contexts.{Context, Open}
use Rattle.match_model.specs.ArenaPatterns.{MDePat, MDeArm, MDeMatch}
use Rattle.match_model.specs.ArenaWays.{InMatchDomain}
use Rattle.match_model.specs.Pieces.{ArePieces}
pub use Rattle.match_model.specs.PieceStates.{HasValue, named_in}
use Rattle.match_model.specs.Rows.{Head, is_wild, expand_row, starts_wild, row_rest, column_of, all_specialised, parts_open}

-- the first of the witnesses, or anything
abbrev pub first_witness : List MWitness → MWitness
first_witness [] = AnyOf
first_witness (w ∷ ws) = w

-- the witness of a row by the witnesses of its items
abbrev pub slice_witness : MShape → List MWitness → MWitness
slice_witness (FixedShape n) ws = RowOf (witnesses_of ws) false no_witnesses
slice_witness (LongerShape f b) ws = RowOf (witnesses_of (take f ws)) true (witnesses_of (drop f ws))

-- the witness of a constructor by those of its parts, in a column that names these texts
abbrev pub witness_of : MCtor → (named : List (List ℕ)) → List MWitness → MWitness
witness_of SingleCtor named ws = NodeOf 0 (witnesses_of ws)
witness_of (VariantCtor k) named ws = NodeOf k (witnesses_of ws)
witness_of PointCtor named ws = PointOf (first_witness ws)
witness_of LaterCtor named ws = LaterOf
witness_of (FlagCtor b) named ws = FlagOf b
witness_of (NumbersCtor r) named ws = SpanOf r
witness_of (TextCtor t) named ws = TextOf t
witness_of OtherTextCtor named ws = ElseOf named
witness_of (RowCtor s) named ws = slice_witness s ws
witness_of WildCtor named ws = AnyOf
witness_of OrCtor named ws = AnyOf

-- the witnesses of the open places, the first so many of which are the parts of the piece, wrapped in it
abbrev pub wrapped : MCtor → (named : List (List ℕ)) → (count : ℕ) → List MWitness → List MWitness
wrapped piece named n ws = witness_of piece named (take n ws) ∷ drop n ws

-- the row has one head for each place, and each is a wildcard or a lone name
abbrev pub are_wild : {T : Type 0} → List (Open T) → List (Head T) → Bool
are_wild [] [] = true
are_wild [] (h ∷ heads) = false
are_wild (o ∷ places) [] = false
are_wild (o ∷ places) (h ∷ heads) = is_wild h && are_wild places heads

mutual
  -- the witnesses of rows over open places, one witness for each place. A row of wildcards leaves none, so no later place
  -- is looked at; nor does a row where no place is left. Without a row there is one, with anything at each place. Else the
  -- first place is looked at, or-patterns being expanded there: it is anything where all rows have a wildcard; else the
  -- pieces of the column give theirs
  pub data Witnesses {T : Type 0} (cx : Context T) (IsValue : T → Bool → MValue → Type 0) :
      List (Open T) → List (List (Head T)) → List (List MWitness) → Type 0 where
    taken : (row : List (Head T)) (rows : List (List (Head T))) → Witnesses cx IsValue [] (row ∷ rows) []
    covered : (places : List (Open T)) (rows : List (List (Head T))) → IsTrue (list_any (are_wild places) rows) →
        Witnesses cx IsValue places rows []
    no_row : (places : List (Open T)) → Witnesses cx IsValue places [] (replicate (length places) AnyOf ∷ [])
    anything : (o : Open T) (places : List (Open T)) (row : List (Head T)) (rows : List (List (Head T))) (ws : List (List MWitness)) →
        IsTrue (list_all starts_wild (flat_map expand_row (row ∷ rows))) →
        Witnesses cx IsValue places (map row_rest (flat_map expand_row (row ∷ rows))) ws →
        Witnesses cx IsValue (o ∷ places) (row ∷ rows) (map (λ w. AnyOf ∷ w) ws)
    by_pieces : (o : Open T) (places : List (Open T)) (row : List (Head T)) (rows : List (List (Head T))) (pieces : List MCtor) (ws : List (List MWitness)) →
        list_all starts_wild (flat_map expand_row (row ∷ rows)) ≡ false →
        ArePieces (cx.set_of o.type) (column_of (flat_map expand_row (row ∷ rows))) pieces →
        PieceWitnesses cx IsValue (named_in pieces) o places (flat_map expand_row (row ∷ rows)) pieces ws →
        Witnesses cx IsValue (o ∷ places) (row ∷ rows) ws

  -- the witnesses of the pieces of the first place that have a value there, one piece after the other
  pub data PieceWitnesses {T : Type 0} (cx : Context T) (IsValue : T → Bool → MValue → Type 0) :
      (named : List (List ℕ)) → Open T → List (Open T) → List (List (Head T)) → (pieces : List MCtor) → List (List MWitness) → Type 0 where
    no_piece : (named : List (List ℕ)) (o : Open T) (places : List (Open T)) (rows : List (List (Head T))) →
        PieceWitnesses cx IsValue named o places rows [] []
    with_value : (named : List (List ℕ)) (o : Open T) (places : List (Open T)) (rows : List (List (Head T))) (piece : MCtor) (pieces : List MCtor) (ws us : List (List MWitness)) →
        HasValue IsValue o named piece →
        Witnesses cx IsValue (parts_open cx o piece ++ places) (all_specialised piece (cx.arity piece o.type) rows) ws →
        PieceWitnesses cx IsValue named o places rows pieces us →
        PieceWitnesses cx IsValue named o places rows (piece ∷ pieces) (map (wrapped piece named (cx.arity piece o.type)) ws ++ us)
    without_value : (named : List (List ℕ)) (o : Open T) (places : List (Open T)) (rows : List (List (Head T))) (piece : MCtor) (pieces : List MCtor) (us : List (List MWitness)) →
        ¬ HasValue IsValue o named piece →
        PieceWitnesses cx IsValue named o places rows pieces us →
        PieceWitnesses cx IsValue named o places rows (piece ∷ pieces) us

-- the row of the arm where it has no guard, else none
abbrev pub row_of : {T : Type 0} → MDeArm T → List (List (Head T))
row_of a = row_unless a.guarded a.pat
  where
    row_unless : {T : Type 0} → Bool → MDePat T → List (List (Head T))
    row_unless true p = []
    row_unless false p = (Some p ∷ []) ∷ []

-- the witness list of a match: empty where the scrutinee has no value but maybe a bare unseen, else by the rows of the
-- arms without a guard over the one open place
pub data IsWitnessList {T : Type 0} (cx : Context T) (IsValue : T → Bool → MValue → Type 0) (m : MDeMatch T) : List MWitness → Type 0 where
  nothing_to_match : ((v : MValue) → InMatchDomain IsValue m v → v ≡ Unseen) → IsWitnessList cx IsValue m []
  by_rows : (v : MValue) (ws : List MWitness) → InMatchDomain IsValue m v → v ≢ Unseen →
      Witnesses cx IsValue (record { type = m.type; sure = m.sure } ∷ []) (flat_map row_of m.arms) (map (λ w. w ∷ []) ws) →
      IsWitnessList cx IsValue m ws
