-- What waits takes what the search finds.
use Rattle.std.proofs.Common.{◌≡◌, ◌≢◌, ◌<◌, ◌≤◌, ℕ, suc, ◌+◌, Bool, true, List, [], ◌∷◌, ◌++◌, map, take, length, get_or, reverse, refl, sym, ap, subst, ◌∙◌, arith, append-nil, Vec, Global}
use Rattle.std.specs.List.{All}
use Rattle.std.proofs.lemmas.List.{drop_all, reverse-append}
use Rattle.match_model.specs.Values.{MValue}
use Rattle.match_model.specs.Constructors.{MCtor}
use Rattle.match_model.specs.Contexts.{Context, Open}
use Rattle.match_model.specs.Witness.{MWitness, AnyOf}
use Rattle.match_model.specs.WitnessList.{Witnesses, wrapped}
use Rattle.pat_context.specs.Views.{plain_ctor}
use Rattle.constructor_sets.specs.Columns.{plain_ctors, plain_piece}
use Rattle.constructor_sets.specs.Present.{ArePresent}
use Rattle.constructor_sets.specs.Spans.{plain_span}
use Rattle.constructor_sets.specs.declared.piece.Piece.{Piece}
use Rattle.constructor_sets.specs.declared.piece.PieceState.{PieceState}
use Rattle.constructor_sets.specs.declared.piece.PieceState.TheVariants as state
use Rattle.constructor_sets.specs.declared.piece.PresentPieces.{PresentPieces}
use Rattle.pattern_matrix.specs.Columns.{plain_column}
use Rattle.pattern_matrix.specs.Halving.{leaf_ctors}
use Rattle.pattern_matrix.specs.Parts.{IsFull, pieces_left}
use Rattle.pattern_matrix.specs.Sparse.{SparseRow}
use Rattle.pattern_matrix.specs.Views.{plain_rows, plain_leaves}
use Rattle.pattern_matrix.specs.declared.halving.Part.{Part}
use Rattle.pattern_matrix.specs.declared.rows.Row.{Row}
use Rattle.witnesses.specs.Views.{plain_stack, plain_names}
use Rattle.witness_search.specs.Askable.{IsAskable}
use Rattle.witness_search.specs.Bares.{wild_rests}
use Rattle.witness_search.specs.Cuts.{IsCut, IsLeft, IsLeftBehind, wrapped_behind}
use Rattle.witness_search.specs.Found.{AreOfPiece, AreOfPieces, AreSplitWitnesses, AreWrapped, IsOfPiece}
use Rattle.witness_search.specs.Opened.{places_of, numbers_of}
use Rattle.witness_search.specs.Turns.{Root, IsPut, AreLeftFrom, GoesOn, IsWalked, IsGoneThrough, Accepts, Ends, IsWanted, IsWantedAt, IsTurn, Takes}
use Rattle.witness_search.specs.Wells.{heads_over, apart_heads, IsTakenApart}
use Rattle.witness_search.specs.declared.apart.Apart.{Apart}
use Rattle.witness_search.specs.declared.cut.Cut.{Cut}
use Rattle.witness_search.specs.declared.frames.Frame.{Frame}
use Rattle.witness_search.specs.declared.frames.Stage.{Stage}
use Rattle.witness_search.specs.declared.frames.Stage.TheVariants.{Wild, Missing, Piece as InPiece}
use Rattle.witness_search.specs.declared.frames.Turn.TheVariants.{Go}
use Rattle.witness_search.specs.declared.frames.Walk.{Walk}
use Rattle.witness_search.specs.declared.frames.Within.{Within}
use Rattle.witness_search.specs.declared.opened.Opened.{Opened}
use Rattle.witness_search.proofs.Going.{at_piece, left_behind, goes_on}
use Rattle.witness_search.proofs.Steps.{wild_found, split_found}

module _ {T : Type 0} (IsType : T → Type 0) (cx : Context T) (IsValue : T → Bool → MValue → Type 0) where
  -- ---- the pieces of a place, one after the other

  -- what is found where all pieces were gone through
  pub walked_all : (opened : List (Opened T)) (w : Walk T) → length w.cut.pieces.items ≤ w.done → IsGoneThrough IsType cx IsValue opened w →
      AreSplitWitnesses cx IsValue (plain_column w.e.place.column) (places_of opened) (apart_heads opened w.e) (map plain_stack w.all.items)
  walked_all opened w l g =
      let pieces = w.cut.pieces.items in
      let all = map plain_stack w.all.items in
      let End : List Piece → List (List MWitness) → Type 0 =
      λ ps ws. AreOfPieces cx IsValue (plain_names w.cut.names.items) (plain_column w.e.place.column) (places_of opened) (apart_heads opened w.e) (map plain_piece ps) ws in
      g.cut.back all (subst (End pieces) (append-nil all) (g.found [] (subst (λ (ps : List Piece). End ps []) (sym (drop_all w.done pieces l)) refl)))

  absent_left : (c : MCtor) (s : PieceState) (numbers : List ℕ) → s ≢ state.Present → IsLeftBehind (c, s) numbers numbers
  absent_left c state.Present numbers n = absurd (n refl)
  absent_left c state.Missing numbers n = refl
  absent_left c state.Empty numbers n = refl

  absent_found : (named : List (List ℕ)) (o : Open T) (opened : List (Opened T)) (e : Apart T) (c : MCtor) (behind us : List (List MWitness)) (s : PieceState) → s ≢ state.Present →
      (s ≡ state.Missing → AreWrapped cx IsValue named o (places_of opened) (apart_heads opened e) c (wrapped_behind cx named o behind c)) →
      (s ≡ state.Missing → us ≡ wrapped_behind cx named o behind c) → (s ≡ state.Empty → us ≡ []) →
      AreOfPiece cx IsValue named o (places_of opened) (apart_heads opened e) (c, s) us
  absent_found named o opened e c behind us state.Present n m f g = absurd (n refl)
  absent_found named o opened e c behind us state.Missing n m f g = subst (λ ws. AreWrapped cx IsValue named o (places_of opened) (apart_heads opened e) c ws) (sym (f refl)) (m refl)
  absent_found named o opened e c behind us state.Empty n m f g = g refl

  -- one more piece, which no head has
  pub passed : (opened : List (Opened T)) (w : Walk T) (piece : Piece) (us new : List (List MWitness)) → w.done < length w.cut.pieces.items → piece ≡ get_or w.cut.pieces.items w.done piece →
      piece.state ≢ state.Present → IsGoneThrough IsType cx IsValue opened w → new ≡ map plain_stack w.all.items ++ us →
      (piece.state ≡ state.Missing → us ≡ wrapped_behind cx (plain_names w.cut.names.items) (plain_column w.e.place.column) (map plain_stack w.cut.behind.items) (plain_ctor piece.ctor)) →
      (piece.state ≡ state.Empty → us ≡ []) → IsWalked IsType cx IsValue opened w.e w.cut w.todo.items (w.done + 1) new
  passed opened w piece us new l is n g e f h =
      let names = plain_names w.cut.names.items in
      let o = plain_column w.e.place.column in
      let pieces = w.cut.pieces.items in
      let behind = map plain_stack w.cut.behind.items in
      let next : w.done + 1 ≡ suc w.done = omega arith in
      let here = absent_found names o opened w.e (plain_ctor piece.ctor) behind us piece.state n
      (at_piece (λ q. q.1 ≡ state.Missing → AreWrapped cx IsValue names o (places_of opened) (apart_heads opened w.e) q.0 (wrapped_behind cx names o behind q.0)) pieces w.done piece l is g.cut.missing) f h in
      record {
        apart = g.apart;
        cut = g.cut;
        found = goes_on cx IsValue names o (places_of opened) (apart_heads opened w.e) pieces w.done (w.done + 1) piece (map plain_stack w.all.items) us new next l is g.found here e;
        left = left_behind (plain_ctors w.cut.ctors.items) (pieces_left w.todo.items) (pieces_left w.todo.items) pieces w.done (w.done + 1) piece next l is g.left
            (absent_left (plain_ctor piece.ctor) piece.state (pieces_left w.todo.items) n);
        full = g.full;
      }

  -- one more piece, which heads have, and of which rows leave nothing
  pub covered : (opened : List (Opened T)) (w : Walk T) (piece : Piece) (todo : List Part) → w.done < length w.cut.pieces.items → piece ≡ get_or w.cut.pieces.items w.done piece →
      piece.state ≡ state.Present → IsGoneThrough IsType cx IsValue opened w → IsLeft (pieces_left w.todo.items) (pieces_left todo) → All (IsFull w.cut.spans.items) todo →
      IsOfPiece cx IsValue (plain_column w.e.place.column) (places_of opened) (apart_heads opened w.e) (plain_ctor piece.ctor) [] →
      IsWalked IsType cx IsValue opened w.e w.cut todo (w.done + 1) (map plain_stack w.all.items)
  covered opened w piece todo l is p g left full none =
      let names = plain_names w.cut.names.items in
      let o = plain_column w.e.place.column in
      let pieces = w.cut.pieces.items in
      let all = map plain_stack w.all.items in
      let next : w.done + 1 ≡ suc w.done = omega arith in
      let shown : plain_piece piece ≡ (plain_ctor piece.ctor, state.Present) = ap (λ s. (plain_ctor piece.ctor, s)) p in
      record {
        apart = g.apart;
        cut = g.cut;
        found = goes_on cx IsValue names o (places_of opened) (apart_heads opened w.e) pieces w.done (w.done + 1) piece all [] all next l is g.found
            (subst (λ q. AreOfPiece cx IsValue names o (places_of opened) (apart_heads opened w.e) q []) (sym shown) ([], none, refl)) (sym (append-nil all));
        left = left_behind (plain_ctors w.cut.ctors.items) (pieces_left w.todo.items) (pieces_left todo) pieces w.done (w.done + 1) piece next l is g.left
            (subst (λ q. IsLeftBehind q (pieces_left w.todo.items) (pieces_left todo)) (sym shown) left);
        full = full;
      }

  -- ---- what waits

  module _ (root : Root T) where
    on_top : (old new : List (Frame T)) (e : Apart T) (stage : Stage) (opened : List (Opened T)) (ws : List (List MWitness)) → IsPut old new e stage →
        Takes IsType cx IsValue root.arms (Accepts IsType cx IsValue root (reverse old)) e stage opened ws → Accepts IsType cx IsValue root (reverse new) opened ws
    on_top old new e stage opened ws (f, pushed, ee, es) h =
        subst (λ fs. Accepts IsType cx IsValue root fs opened ws) (sym (ap reverse pushed ∙ reverse-append old (f ∷ [])))
        (subst (λ (x : Apart T). Takes IsType cx IsValue root.arms (Accepts IsType cx IsValue root (reverse old)) x f.stage opened ws) (sym ee)
        (subst (λ (s : Stage). Takes IsType cx IsValue root.arms (Accepts IsType cx IsValue root (reverse old)) e s opened ws) (sym es) h))

    pub popped : (old new : List (Frame T)) (f : Frame T) (opened : List (Opened T)) (ws : List (List MWitness)) → old ≡ new ++ f ∷ [] →
        Accepts IsType cx IsValue root (reverse old) opened ws → Accepts IsType cx IsValue root (f ∷ reverse new) opened ws
    popped old new f opened ws e h = subst (λ fs. Accepts IsType cx IsValue root fs opened ws) (ap reverse e ∙ reverse-append new (f ∷ [])) h

    -- the first place taken off
    pub wanted_first : (fs : List (Frame T)) (old new : List (Opened T)) (place : Opened T) (rows : List (SparseRow T)) → old ≡ new ++ place ∷ [] →
        places_of old ≡ plain_column place.column ∷ places_of new → numbers_of old ≡ place.number ∷ numbers_of new →
        IsWanted IsType cx IsValue root fs old rows → IsWantedAt IsType cx IsValue root fs new place rows
    wanted_first fs old new place rows e ep en w = λ ws h.
        subst (λ os. Accepts IsType cx IsValue root fs os ws) e
        (w ws (subst (λ ps. Witnesses cx IsValue ps (heads_over (numbers_of old) rows) ws) (sym ep) (subst (λ ns. Witnesses cx IsValue (plain_column place.column ∷ places_of new) (heads_over ns rows) ws) (sym en) h)))

    -- a place where all rows are wild waits
    pub wild_look : (old new : List (Frame T)) (opened : List (Opened T)) (e bare : Apart T) (rows : List (Row T)) (place : Opened T) (behind : List (SparseRow T)) → IsPut old new bare Wild →
        bare.place ≡ place → e.rows.items ≡ rows → e.place ≡ place → IsTakenApart IsType cx opened e → 0 < length rows → leaf_ctors (plain_leaves e.leaves.items) ≡ [] →
        IsWantedAt IsType cx IsValue root (reverse old) opened place (plain_rows rows) →
        ((ws : List (List MWitness)) → Witnesses cx IsValue (places_of opened) (heads_over (numbers_of opened) behind) ws → Witnesses cx IsValue (places_of opened) (wild_rests (apart_heads opened e)) ws) →
        IsWanted IsType cx IsValue root (reverse new) opened behind
    wild_look old new opened e bare rows place behind pushed eb er ep a some none w b = λ ws h.
        on_top old new bare Wild opened ws pushed
        (subst (λ (x : Opened T). Accepts IsType cx IsValue root (reverse old) (opened ++ x ∷ []) (map (λ v. AnyOf ∷ v) ws)) (sym eb)
        (w (map (λ v. AnyOf ∷ v) ws) (wild_found IsType cx IsValue opened e rows place er ep a some none ws (b ws h))))

    -- what is found of all pieces of a place is wanted
    pub split_ends : (fs : List (Frame T)) (opened : List (Opened T)) (e : Apart T) (rows : List (Row T)) (place : Opened T) → e.rows.items ≡ rows → e.place ≡ place →
        IsTakenApart IsType cx opened e → 0 < length rows → 0 < length (leaf_ctors (plain_leaves e.leaves.items)) → IsWantedAt IsType cx IsValue root fs opened place (plain_rows rows) →
        Ends IsType cx IsValue root fs opened e
    split_ends fs opened e rows place er ep a some n w = λ us h.
        subst (λ (x : Opened T). Accepts IsType cx IsValue root fs (opened ++ x ∷ []) us) (sym ep) (w us (split_found IsType cx IsValue opened e rows place er ep a some n us h))

    -- a place of which a piece is missing waits
    pub missing_look : (old new : List (Frame T)) (opened : List (Opened T)) (e : Apart T) (found : PresentPieces) (behind : List (SparseRow T)) → IsPut old new e (Missing found) →
        IsTakenApart IsType cx opened e →
        ArePresent IsValue cx (plain_column e.place.column) (leaf_ctors (plain_leaves e.leaves.items)) (plain_ctors found.ctors.items) found.missing (plain_ctors found.gaps.items) (map plain_span found.spans.items) →
        found.missing ≡ true → IsAskable IsValue root.arms opened e → Ends IsType cx IsValue root (reverse old) opened e →
        ((ws : List (List MWitness)) → Witnesses cx IsValue (places_of opened) (heads_over (numbers_of opened) behind) ws → Witnesses cx IsValue (places_of opened) (wild_rests (apart_heads opened e)) ws) →
        IsWanted IsType cx IsValue root (reverse new) opened behind
    missing_look old new opened e found behind pushed a p m known ends b = λ ws h.
        on_top old new e (Missing found) opened ws pushed (record { apart = a; found = p; missing = m; behind = b ws h }, known, ends)

    -- a piece waits
    pub piece_look : (old new : List (Frame T)) (opened now : List (Opened T)) (e : Apart T) (p : Within) (piece : Piece) (i : ℕ) (left : List ℕ) (rows : List (SparseRow T)) →
        IsPut old new e (InPiece p) → take p.before now ≡ opened → IsTakenApart IsType cx opened e → IsCut cx IsValue opened e p.cut →
        GoesOn cx IsValue (plain_names p.cut.names.items) (plain_column e.place.column) (places_of opened) (apart_heads opened e) p.cut.pieces.items i (map plain_stack p.all.items) →
        p.done ≡ suc i → i < length p.cut.pieces.items → piece ≡ get_or p.cut.pieces.items i piece → piece.ctor ≡ p.ctor → piece.state ≡ state.Present →
        p.count ≡ cx.arity (plain_ctor p.ctor) e.place.column.ty →
        AreLeftFrom (plain_ctors p.cut.ctors.items) left p.cut.pieces.items i → IsLeft left (pieces_left p.todo.items) → All (IsFull p.cut.spans.items) p.todo.items →
        IsAskable IsValue root.arms opened e → Ends IsType cx IsValue root (reverse old) opened e →
        ((ws : List (List MWitness)) → Witnesses cx IsValue (places_of now) (heads_over (numbers_of now) rows) ws →
        IsOfPiece cx IsValue (plain_column e.place.column) (places_of opened) (apart_heads opened e) (plain_ctor p.ctor) ws) →
        IsWanted IsType cx IsValue root (reverse new) now rows
    piece_look old new opened now e p piece i left rows pushed kept a c g done l is ec es en from behind full known ends b = λ ws h.
        on_top old new e (InPiece p) now ws pushed (
          subst (λ os. IsWalked IsType cx IsValue os e p.cut p.todo.items p.done (map plain_stack p.all.items ++ map (wrapped (plain_ctor p.ctor) (plain_names p.cut.names.items) p.count) ws)) (sym kept) (walked ws h),
          subst (λ os. IsAskable IsValue root.arms os e) (sym kept) known,
          subst (λ os. Ends IsType cx IsValue root (reverse old) os e) (sym kept) ends,
        )
      where
        here : (ws : List (List MWitness)) → Witnesses cx IsValue (places_of now) (heads_over (numbers_of now) rows) ws →
            AreOfPiece cx IsValue (plain_names p.cut.names.items) (plain_column e.place.column) (places_of opened) (apart_heads opened e) (plain_piece piece)
            (map (wrapped (plain_ctor p.ctor) (plain_names p.cut.names.items) p.count) ws)
        here ws h =
            let names = plain_names p.cut.names.items in
            subst (λ q. AreOfPiece cx IsValue names (plain_column e.place.column) (places_of opened) (apart_heads opened e) q (map (wrapped (plain_ctor p.ctor) names p.count) ws))
            (sym (ap (λ x. (plain_ctor x, piece.state)) ec ∙ ap (λ s. (plain_ctor p.ctor, s)) es))
            (ws, b ws h, ap (λ n. map (wrapped (plain_ctor p.ctor) names n) ws) en)

        walked : (ws : List (List MWitness)) → Witnesses cx IsValue (places_of now) (heads_over (numbers_of now) rows) ws →
            IsWalked IsType cx IsValue opened e p.cut p.todo.items p.done (map plain_stack p.all.items ++ map (wrapped (plain_ctor p.ctor) (plain_names p.cut.names.items) p.count) ws)
        walked ws h =
            let names = plain_names p.cut.names.items in
            let us = map (wrapped (plain_ctor p.ctor) names p.count) ws in
            let shown : plain_piece piece ≡ (plain_ctor p.ctor, state.Present) = ap (λ x. (plain_ctor x, piece.state)) ec ∙ ap (λ s. (plain_ctor p.ctor, s)) es in
            record {
              apart = a;
              cut = c;
              found = goes_on cx IsValue names (plain_column e.place.column) (places_of opened) (apart_heads opened e) p.cut.pieces.items i p.done piece (map plain_stack p.all.items) us
                  (map plain_stack p.all.items ++ us) done l is g (here ws h) refl;
              left = left_behind (plain_ctors p.cut.ctors.items) left (pieces_left p.todo.items) p.cut.pieces.items i p.done piece done l is from
                  (subst (λ q. IsLeftBehind q left (pieces_left p.todo.items)) (sym shown) behind);
              full = full;
            }

    -- the pieces of a place, behind one
    pub piece_resumed : (fs : List (Frame T)) (opened now : List (Opened T)) (e : Apart T) (p : Within) (w : Walk T) (ws : List (List MWitness)) → now ≡ take p.before opened → w.e ≡ e →
        w.cut ≡ p.cut → w.todo ≡ p.todo → w.done ≡ p.done →
        map plain_stack w.all.items ≡ map plain_stack p.all.items ++ map (wrapped (plain_ctor p.ctor) (plain_names p.cut.names.items) p.count) ws →
        Takes IsType cx IsValue root.arms (Accepts IsType cx IsValue root fs) e (InPiece p) opened ws → IsTurn IsType cx IsValue root fs now (Go w)
    piece_resumed fs opened now e p w ws en ee ec et ed ea h =
        let us = map plain_stack p.all.items ++ map (wrapped (plain_ctor p.ctor) (plain_names p.cut.names.items) p.count) ws in (
          subst (λ os. IsWalked IsType cx IsValue os w.e w.cut w.todo.items w.done (map plain_stack w.all.items)) (sym en)
              (subst (λ us. IsWalked IsType cx IsValue (take p.before opened) w.e w.cut w.todo.items w.done us) (sym ea)
              (subst (λ n. IsWalked IsType cx IsValue (take p.before opened) w.e w.cut w.todo.items n us) (sym ed)
              (subst (λ (x : Vec Part Global). IsWalked IsType cx IsValue (take p.before opened) w.e w.cut x.items p.done us) (sym et)
              (subst (λ (x : Cut). IsWalked IsType cx IsValue (take p.before opened) w.e x p.todo.items p.done us) (sym ec)
              (subst (λ (x : Apart T). IsWalked IsType cx IsValue (take p.before opened) x p.cut p.todo.items p.done us) (sym ee) h.0))))),
          subst (λ os. IsAskable IsValue root.arms os w.e) (sym en) (subst (λ (x : Apart T). IsAskable IsValue root.arms (take p.before opened) x) (sym ee) h.1),
          subst (λ os. Ends IsType cx IsValue root fs os w.e) (sym en) (subst (λ (x : Apart T). Ends IsType cx IsValue root fs (take p.before opened) x) (sym ee) h.2),
        )
