-- What the search does next, and what waits for the stacks that it finds.
use Rattle.std.specs.Prelude.{box_value, ◌≡◌, ℕ, Bool, true, List, [], ◌∷◌, ◌++◌, map, filter_map, drop, take}
use Rattle.std.specs.List.{All}
use Rattle.match_model.specs.Values.{MValue}
use Rattle.match_model.specs.Constructors.{MCtor}
use Rattle.match_model.specs.Contexts.{Context, Open}
use Rattle.match_model.specs.ArenaPatterns.{MDeArm}
use Rattle.match_model.specs.Rows.{Head}
use Rattle.match_model.specs.Witness.{MWitness, AnyOf}
use Rattle.match_model.specs.WitnessList.{Witnesses, wrapped}
use Rattle.pat_context.specs.Views.{plain_ctor}
use Rattle.constructor_sets.specs.Columns.{plain_ctors, plain_piece}
use Rattle.constructor_sets.specs.Present.{ArePresent, present_piece}
use Rattle.constructor_sets.specs.Spans.{plain_span}
use Rattle.constructor_sets.specs.declared.piece.Piece.{Piece}
use Rattle.constructor_sets.specs.declared.piece.PresentPieces.{PresentPieces}
use Rattle.pattern_matrix.specs.Columns.{plain_column}
use Rattle.pattern_matrix.specs.Halving.{leaf_ctors}
use Rattle.pattern_matrix.specs.Parts.{IsFull, pieces_left}
use Rattle.pattern_matrix.specs.Sparse.{SparseRow}
use Rattle.pattern_matrix.specs.Views.{plain_rows, plain_leaves}
use Rattle.pattern_matrix.specs.declared.halving.Part.{Part}
use Rattle.witnesses.specs.Views.{plain_stack, plain_names}
use Rattle.witness_search.specs.Askable.{AreAskable, IsAskable}
use Rattle.witness_search.specs.Bares.{wild_rests}
use Rattle.witness_search.specs.Cuts.{IsCut}
use Rattle.witness_search.specs.Found.{AreOfPieces, AreNumbered, AreSplitWitnesses}
use Rattle.witness_search.specs.Opened.{places_of, numbers_of}
use Rattle.witness_search.specs.Wells.{heads_over, apart_heads, IsWell, IsTakenApart}
use Rattle.witness_search.specs.declared.apart.Apart.{Apart}
use Rattle.witness_search.specs.declared.cut.Cut.{Cut}
use Rattle.witness_search.specs.declared.frames.Frame.{Frame}
use Rattle.witness_search.specs.declared.frames.Stage.{Stage}
use Rattle.witness_search.specs.declared.frames.Stage.TheVariants.{Wild, Missing, Piece as InPiece}
use Rattle.witness_search.specs.declared.frames.Turn.{Turn}
use Rattle.witness_search.specs.declared.frames.Turn.TheVariants.{Look, Go, Found, Done}
use Rattle.witness_search.specs.declared.frames.Walk.{Walk}
use Rattle.witness_search.specs.declared.opened.Opened.{Opened}

-- the places and the rows of heads whose witnesses are searched, and the arms whose patterns the rows may hold
pub record Root (T : Type 0) : Type 0 where
  pub places : List (Open T)
  pub rows : List (List (Head T))
  pub arms : List (MDeArm T)

-- the numbers that are left are those of the pieces from here on
abbrev pub AreLeftFrom : (ctors : List MCtor) → (numbers : List ℕ) → (pieces : List Piece) → (from : ℕ) → Type 0
AreLeftFrom ctors numbers pieces i = AreNumbered ctors numbers (filter_map present_piece (map plain_piece (drop i pieces)))

-- what is found of the pieces from here on, behind what was found, is found of all
abbrev pub GoesOn : {T : Type 0} → Context T → (T → Bool → MValue → Type 0) → (named : List (List ℕ)) → Open T → List (Open T) → List (List (Head T)) → (pieces : List Piece) → (from : ℕ) → (done : List (List MWitness)) → Type 0
GoesOn cx IsValue named o places rows pieces i done =
    (ts : List (List MWitness)) → AreOfPieces cx IsValue named o places rows (map plain_piece (drop i pieces)) ts →
    AreOfPieces cx IsValue named o places rows (map plain_piece pieces) (done ++ ts)

-- a place was taken apart, and some piece of it is missing; these are the stacks of the rows that are wild there
pub record IsMissing {T : Type 0} (IsType : T → Type 0) (cx : Context T) (IsValue : T → Bool → MValue → Type 0) (opened : List (Opened T)) (e : Apart T) (p : PresentPieces) (ws : List (List MWitness)) : Type 0 where
  pub apart : IsTakenApart IsType cx opened e
  pub found : ArePresent IsValue cx (plain_column e.place.column) (leaf_ctors (plain_leaves e.leaves.items)) (plain_ctors p.ctors.items) p.missing (plain_ctors p.gaps.items) (map plain_span p.spans.items)
  pub missing : p.missing ≡ true
  pub behind : Witnesses cx IsValue (places_of opened) (wild_rests (apart_heads opened e)) ws

-- a place was taken apart and cut, and these are the stacks of so many pieces of it
pub record IsWalked {T : Type 0} (IsType : T → Type 0) (cx : Context T) (IsValue : T → Bool → MValue → Type 0) (opened : List (Opened T)) (e : Apart T) (c : Cut) (todo : List Part) (done : ℕ) (ws : List (List MWitness)) : Type 0 where
  pub apart : IsTakenApart IsType cx opened e
  pub cut : IsCut cx IsValue opened e c
  pub found : GoesOn cx IsValue (plain_names c.names.items) (plain_column e.place.column) (places_of opened) (apart_heads opened e) c.pieces.items done ws
  pub left : AreLeftFrom (plain_ctors c.ctors.items) (pieces_left todo) c.pieces.items done
  pub full : All (IsFull c.spans.items) todo

-- the same of code
abbrev pub IsGoneThrough : {T : Type 0} → (T → Type 0) → Context T → (T → Bool → MValue → Type 0) → List (Opened T) → Walk T → Type 0
IsGoneThrough IsType cx IsValue opened w = IsWalked IsType cx IsValue opened w.e w.cut w.todo.items w.done (map plain_stack w.all.items)

-- the place that waits, and its rows
abbrev pub waiting : {T : Type 0} → Frame T → Apart T
waiting f = record { rows = f.rows; place = box_value f.place; next = f.next; leaves = f.leaves }

-- this place was put behind those that wait, at this stage
abbrev pub IsPut : {T : Type 0} → (old new : List (Frame T)) → Apart T → Stage → Type 0
IsPut {T} old new e stage = (f : Frame T) × (new ≡ old ++ f ∷ []) × (waiting f ≡ e) × (f.stage ≡ stage)

-- these stacks for the open places are what a place waits for, at this stage, where what it makes of them is what waits behind
abbrev pub Takes : {T : Type 0} → (T → Type 0) → Context T → (T → Bool → MValue → Type 0) → List (MDeArm T) → (Behind : List (Opened T) → List (List MWitness) → Type 0) → Apart T → Stage → List (Opened T) → List (List MWitness) → Type 0
Takes IsType cx IsValue arms Behind e Wild opened ws = Behind (opened ++ e.place ∷ []) (map (λ w. AnyOf ∷ w) ws)
Takes IsType cx IsValue arms Behind e (Missing p) opened ws =
    IsMissing IsType cx IsValue opened e p ws × IsAskable IsValue arms opened e
    × ((us : List (List MWitness)) → AreSplitWitnesses cx IsValue (plain_column e.place.column) (places_of opened) (apart_heads opened e) us → Behind (opened ++ e.place ∷ []) us)
Takes IsType cx IsValue arms Behind e (InPiece p) opened ws =
    IsWalked IsType cx IsValue (take p.before opened) e p.cut p.todo.items p.done (map plain_stack p.all.items ++ map (wrapped (plain_ctor p.ctor) (plain_names p.cut.names.items) p.count) ws)
    × IsAskable IsValue arms (take p.before opened) e
    × ((us : List (List MWitness)) → AreSplitWitnesses cx IsValue (plain_column e.place.column) (places_of (take p.before opened)) (apart_heads (take p.before opened) e) us →
    Behind (take p.before opened ++ e.place ∷ []) us)

-- these stacks for the open places are what waits for them, the last place that waits first; in the end they are the witnesses
-- that are searched
abbrev pub Accepts : {T : Type 0} → (T → Type 0) → Context T → (T → Bool → MValue → Type 0) → Root T → List (Frame T) → List (Opened T) → List (List MWitness) → Type 0
Accepts IsType cx IsValue root [] opened ws = Witnesses cx IsValue root.places root.rows ws
Accepts IsType cx IsValue root (f ∷ frames) opened ws = Takes IsType cx IsValue root.arms (Accepts IsType cx IsValue root frames) (waiting f) f.stage opened ws

-- what is found of all pieces of the place is what waits for it
abbrev pub Ends : {T : Type 0} → (T → Type 0) → Context T → (T → Bool → MValue → Type 0) → Root T → List (Frame T) → List (Opened T) → Apart T → Type 0
Ends IsType cx IsValue root frames opened e =
    (us : List (List MWitness)) → AreSplitWitnesses cx IsValue (plain_column e.place.column) (places_of opened) (apart_heads opened e) us → Accepts IsType cx IsValue root frames (opened ++ e.place ∷ []) us

-- the witnesses of the rows are what waits for them
abbrev pub IsWanted : {T : Type 0} → (T → Type 0) → Context T → (T → Bool → MValue → Type 0) → Root T → List (Frame T) → List (Opened T) → List (SparseRow T) → Type 0
IsWanted IsType cx IsValue root frames opened rows =
    (ws : List (List MWitness)) → Witnesses cx IsValue (places_of opened) (heads_over (numbers_of opened) rows) ws → Accepts IsType cx IsValue root frames opened ws

-- the same, where one more place is open
abbrev pub IsWantedAt : {T : Type 0} → (T → Type 0) → Context T → (T → Bool → MValue → Type 0) → Root T → List (Frame T) → List (Opened T) → Opened T → List (SparseRow T) → Type 0
IsWantedAt IsType cx IsValue root frames opened place rows =
    (ws : List (List MWitness)) → Witnesses cx IsValue (plain_column place.column ∷ places_of opened) (heads_over (place.number ∷ numbers_of opened) rows) ws →
    Accepts IsType cx IsValue root frames (opened ++ place ∷ []) ws

-- what is done next leads to the witnesses that are searched
abbrev pub IsTurn : {T : Type 0} → (T → Type 0) → Context T → (T → Bool → MValue → Type 0) → Root T → List (Frame T) → List (Opened T) → Turn T → Type 0
IsTurn IsType cx IsValue root frames opened (Look rows next) =
    IsWell IsType cx next (numbers_of opened) (places_of opened) (plain_rows rows.items) × AreAskable IsValue root.arms (numbers_of opened) (places_of opened) (plain_rows rows.items)
    × IsWanted IsType cx IsValue root frames opened (plain_rows rows.items)
IsTurn IsType cx IsValue root frames opened (Go w) = IsGoneThrough IsType cx IsValue opened w × IsAskable IsValue root.arms opened w.e × Ends IsType cx IsValue root frames opened w.e
IsTurn IsType cx IsValue root frames opened (Found stacks) = Accepts IsType cx IsValue root frames opened (map plain_stack stacks.items)
IsTurn IsType cx IsValue root frames opened (Done stacks) = Witnesses cx IsValue root.places root.rows (map plain_stack stacks.items)
