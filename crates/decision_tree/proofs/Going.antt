-- What each turn of the lowering keeps.
use Rattle.std.proofs.Common.{◌≡◌, ℕ, zero, suc, Bool, true, false, inl, inr, List, [], ◌∷◌, ◌++◌, map, reverse, refl, sym, ap, subst, ◌∙◌, append_assoc, append-nil, arith, slice_get, Some, IsTrue}
use Rattle.std.proofs.lemmas.List.{map-append, reverse-append}
use Rattle.std.specs.List.{All, filter_map}
use Rattle.match_model.specs.Values.{MValue}
use Rattle.match_model.specs.ArenaPatterns.{MDeMatch}
use Rattle.match_model.specs.Constructors.{MCtor}
use Rattle.match_model.specs.Contexts.{Context}
use Rattle.match_model.specs.DecisionTrees.{MTree, SwitchTree, AskTree, TakeTree, MissTree, VoidTree, MBranches, no_branch, more_branches, row_binds, all_wild, case_of}
use Rattle.match_model.specs.FewestBranches.{IsFewest}
use Rattle.match_model.specs.Keys.{Decision}
use Rattle.match_model.specs.Lists.{Every, Each}
use Rattle.match_model.specs.Lowering.{no_value_left, no_row_left, takes, asks, switches, Branches, with_else, no_case, one_case, ctors_at}
use Rattle.match_model.specs.Matrices.{MColumn, MRow, open_of, part_columns}
use Rattle.match_model.specs.PieceStates.{named_in}
use Rattle.match_model.specs.Places.{MStep}
use Rattle.match_model.specs.RowOrder.{AreInOrder}
use Rattle.match_model.specs.SharedTrees.{WalksAll, last_first, case_trees}
use Rattle.match_model.specs.Steps.{specialise_head, rows_at, replaced_at}
use Rattle.match_model.specs.Trees.{MBind, MCase, ElseCase, MBranch}
use Rattle.constructor_sets.specs.Columns.{IsState, plain_ctors}
use Rattle.constructor_sets.specs.Present.{present_piece}
use Rattle.constructor_sets.specs.declared.piece.PieceState.{PieceState}
use Rattle.constructor_sets.specs.declared.piece.PieceState.TheVariants.{Present, Missing, Empty}
use Rattle.tree_sharing.specs.Table.{IsBuilt, IsCaseAt}
use Rattle.tree_eval.specs.Nodes.{plain_bind, plain_branch, plain_case}
use Rattle.tree_eval.specs.Tables.{IsFinished, FinishesAsk, FinishesSwitch}
use Rattle.tree_eval.specs.declared.tree.Bind.{Bind}
use Rattle.tree_eval.specs.declared.tree.Case.{Case}
use Rattle.tree_eval.proofs.Keeping.{keep-cases}
use Rattle.decision_tree.specs.declared.frames.Frame.{Frame}
use Rattle.decision_tree.specs.declared.frames.Frame.TheVariants.{Guard, Switch, Last, Others, Note}
use Rattle.decision_tree.specs.declared.frames.Looked.{Looked}
use Rattle.decision_tree.specs.declared.frames.Matrix.{Matrix}
use Rattle.decision_tree.specs.declared.frames.Turn.TheVariants.{Finished, Done}
use Rattle.decision_tree.specs.Matrices.{matrix_columns, matrix_rows}
use Rattle.decision_tree.specs.Waiting.{IsCutOf, IsBare, Makes, Leads, IsLooked, IsElseNext, IsPieceNext, IsSwitching, Awaits, IsLeft, IsTurn}

pub all-every : {A : Type 0} (P : A → Type 0) (xs : List A) → All P xs → Every P xs
all-every P [] h = tt
all-every P (x ∷ xs) h = (h zero x (omega arith), all-every P xs (λ j d l. h (suc j) d (omega (arith, l))))

module _ {T : Type 0} (IsType : T → Type 0) (cx : Context T) (V : T → Bool → MValue → Type 0)
    (decides : ℕ → Decision) (m : MDeMatch T) where
  abbrev Waits : List (Frame T) → (now : List MTree) → List (MColumn T) → List (MRow T) → Type 0
  Waits = Awaits IsType cx V decides m

  abbrev Goes : List (Frame T) → (now : List MTree) → (index : ℕ) → Type 0
  Goes frames now index = IsTurn IsType cx V decides m frames now (Finished index)

  -- no row is left
  pub left-void : (frames : List (Frame T)) (now new : List MTree) (columns : List (MColumn T)) (index : ℕ) →
      IsBare V m → IsBuilt now → Waits frames now columns [] → IsFinished now VoidTree index new → Goes frames new index
  left-void frames now new columns index bare built a f =
      (columns, [], VoidTree, now, built, no_value_left columns bare, a, f)

  pub left-miss : (frames : List (Frame T)) (now new : List MTree) (columns : List (MColumn T)) (index : ℕ) →
      ¬ IsBare V m → IsBuilt now → Waits frames now columns [] → IsFinished now MissTree index new → Goes frames new index
  left-miss frames now new columns index bare built a f =
      (columns, [], MissTree, now, built, no_row_left columns bare, a, f)

  -- the first row is taken
  pub taken : (frames : List (Frame T)) (now new : List MTree) (columns : List (MColumn T)) (r : MRow T)
      (rows : List (MRow T)) (binds : List MBind) (index : ℕ) → IsTrue (all_wild r) → r.guarded ≡ false →
      binds ≡ row_binds columns r → IsBuilt now → Waits frames now columns (r ∷ rows) →
      IsFinished now (TakeTree r.arm binds) index new → Goes frames new index
  taken frames now new columns r rows binds index w g e built a f = (
    columns,
    r ∷ rows,
    TakeTree r.arm (row_binds columns r),
    now,
    built,
    takes columns r rows w g,
    a,
    subst (λ bs. IsFinished now (TakeTree r.arm bs) index new) e f,
  )

  -- its guard was asked
  pub asked : (frames : List (Frame T)) (arm : ℕ) (binds : List Bind) (now new : List MTree) (columns : List (MColumn T))
      (rows : List (MRow T)) (t : MTree) (before : List MTree) (refused index : ℕ) (r : MRow T) → IsTrue (all_wild r) →
      r.guarded ≡ true → arm ≡ r.arm → map plain_bind binds ≡ row_binds columns r → IsBuilt before →
      Makes IsType cx V decides m columns rows t → Waits frames before columns (r ∷ rows) →
      IsFinished before t refused now → FinishesAsk now arm (map plain_bind binds) refused index new →
      Goes frames new index
  asked frames arm binds now new columns rows t before refused index r w g e b built makes a done f = (
    columns,
    r ∷ rows,
    AskTree r.arm (row_binds columns r) t,
    before,
    built,
    asks columns r rows t w g makes,
    a,
    subst (λ bs. IsFinished before (AskTree r.arm bs t) index new) b
        (subst (λ j. IsFinished before (AskTree j (map plain_bind binds) t) index new) e (f before t built done.walk done.at)),
  )

  -- nothing waits
  pub all-done : (now : List MTree) (index : ℕ) → Goes [] now index → IsTurn IsType cx V decides m [] now (Done index)
  all-done now index (columns, rows, t, before, built, makes, a, f) =
      (t, a.0 t makes, subst (λ ts. IsFinished ts t index now) a.1 f)

  -- other rows whose tree is the tree that is waited for
  pub leads-more : (frames : List (Frame T)) (now : List MTree) (columns cs : List (MColumn T)) (rows rs : List (MRow T)) →
      Leads IsType cx V decides m columns rows cs rs → Waits frames now cs rs → Waits frames now columns rows
  leads-more [] now columns cs rows rs l a = (λ t k. a.0 t (l t k), a.1)
  leads-more (Guard arm binds ∷ frames) now columns cs rows rs l (ds, r, qs, b, w, g, e, f, a) =
      (ds, r, qs, λ t k. b t (l t k), w, g, e, f, a)
  leads-more (Switch x case ∷ frames) now columns cs rows rs l (ds, qs, b, whole, base, front, behind, branches, k, n, a, cut) =
      (ds, qs, λ t k. b t (l t k), whole, base, front, behind, branches, k, n, a, cut)
  leads-more (Last place cases case ∷ frames) now columns cs rows rs l (e, i, at, (ds, qs, b, whole, base, front, behind, branches, k, n, a)) =
      (e, i, at, (ds, qs, λ t x. b t (l t x), whole, base, front, behind, branches, k, n, a))
  leads-more (Others place case next ∷ frames) now columns cs rows rs l (e, i, p, at, is, made, g, s, (ds, qs, b, whole, base, front, behind, branches, k, n, a)) =
      (e, i, p, at, is, made, g, s, (ds, qs, λ t x. b t (l t x), whole, base, front, behind, branches, k, n, a))
  leads-more (Note x ∷ frames) now columns cs rows rs l (ds, qs, b, e, s, a) =
      (ds, qs, λ t k. b t (l t k), e, s, a)

  module _ (i : ℕ) (c : MColumn T) (columns : List (MColumn T)) (rows : List (MRow T)) (all : List MCtor) where
    abbrev Cases : List MCtor → MBranches → Type 0
    Cases pieces branches = Branches cx V decides (IsFewest cx V) (IsBare V m) i c columns rows all pieces branches

    abbrev pub State : MCtor × PieceState → Type 0
    State p = IsState V (open_of c) (named_in all) (ctors_at i rows) p.0 p.1

    -- pieces that are passed, since no row has them or they have no value
    pub skipped : (pieces : List (MCtor × PieceState)) (behind : List MCtor) (branches : MBranches) →
        filter_map present_piece pieces ≡ [] → Every State pieces → Cases behind branches →
        Cases (map (λ p. p.0) pieces ++ behind) branches
    skipped [] behind branches none states bs = bs
    skipped ((p, Present) ∷ pieces) behind branches none states bs = absurd (cons-nil p (filter_map present_piece pieces) none)
      where
        cons-nil : (k : MCtor) (ks : List MCtor) → k ∷ ks ≡ [] → ⊥
        cons-nil k ks e = cc
    skipped ((p, Missing) ∷ pieces) behind branches none states bs =
        no_case i c columns rows all p (map (λ q. q.0) pieces ++ behind) branches (inl states.0.1)
        (skipped pieces behind branches none states.1 bs)
    skipped ((p, Empty) ∷ pieces) behind branches none states bs =
        no_case i c columns rows all p (map (λ q. q.0) pieces ++ behind) branches (inr states.0)
        (skipped pieces behind branches none states.1 bs)

  -- the last piece that is present, and what is passed behind it
  pub record IsLast (pieces : List (MCtor × PieceState)) (ks : List MCtor) (k : MCtor) : Type 0 where
    pub front : List (MCtor × PieceState)
    pub passed : List (MCtor × PieceState)
    pub cut : pieces ≡ front ++ (k, Present) ∷ passed
    pub todo : filter_map present_piece front ≡ ks
    pub none : filter_map present_piece passed ≡ []

  nil-snoc : {A : Type 0} (xs : List A) (x : A) → [] ≡ xs ++ x ∷ [] → ⊥
  nil-snoc [] x e = cc
  nil-snoc (y ∷ xs) x e = cc

  pub last-present : (pieces : List (MCtor × PieceState)) (ks : List MCtor) (k : MCtor) →
      filter_map present_piece pieces ≡ ks ++ k ∷ [] → IsLast pieces ks k
  last-present [] ks k e = absurd (nil-snoc ks k e)
  last-present ((p, Missing) ∷ pieces) ks k e =
      let l : IsLast pieces ks k = last-present pieces ks k e in
      record {
        front = (p, Missing) ∷ l.front;
        passed = l.passed;
        cut = ap (λ r. (p, Missing) ∷ r) l.cut;
        todo = l.todo;
        none = l.none;
      }
  last-present ((p, Empty) ∷ pieces) ks k e =
      let l : IsLast pieces ks k = last-present pieces ks k e in
      record {
        front = (p, Empty) ∷ l.front;
        passed = l.passed;
        cut = ap (λ r. (p, Empty) ∷ r) l.cut;
        todo = l.todo;
        none = l.none;
      }
  last-present ((p, Present) ∷ pieces) [] k e =
      let same : p ≡ k = cc in
      let rest : filter_map present_piece pieces ≡ [] = cc in
      record {
        front = [];
        passed = pieces;
        cut = ap (λ q. (q, Present) ∷ pieces) same;
        todo = refl;
        none = rest;
      }
  last-present ((p, Present) ∷ pieces) (x ∷ ks) k e =
      let same : p ≡ x = cc in
      let rest : filter_map present_piece pieces ≡ ks ++ k ∷ [] = cc in
      let l : IsLast pieces ks k = last-present pieces ks k rest in
      record {
        front = (p, Present) ∷ l.front;
        passed = l.passed;
        cut = ap (λ r. (p, Present) ∷ r) l.cut;
        todo = ap (λ r. p ∷ r) l.todo ∙ ap (λ q. q ∷ ks) same;
        none = l.none;
      }

  is-true : (b : Bool) → b ≡ true → IsTrue b
  is-true b e = e

  -- the indices of the cases, one more of them
  more-cases : (branches : MBranches) (cases : List MBranch) (c case : MCase) (t : MTree) (index : ℕ)
      (before now : List MTree) → case ≡ c → IsFinished before t index now →
      Each (IsCaseAt before) (case_trees branches) (reverse cases) →
      Each (IsCaseAt now) (case_trees (more_branches c t branches))
      (reverse (cases ++ record { case = case; next = index } ∷ []))
  more-cases branches cases c case t index before now e f at =
      subst (Each (IsCaseAt now) (case_trees (more_branches c t branches)))
      (sym (reverse-append cases (record { case = case; next = index } ∷ [])))
      ((e, f.at), keep-cases before t now (case_trees branches) (reverse cases) f.walk at)

  module _ (frames : List (Frame T)) (e : Matrix T) (i : ℕ) (todo : List MCtor) (cases : List MBranch)
      (case : MCase) (index : ℕ) (before now : List MTree) (columns : List (MColumn T)) (rows whole : List (MRow T))
      (t : MTree) (base : List MTree) (front behind : List (MCtor × PieceState)) (branches : MBranches)
      (k : IsLooked IsType cx V decides m e i todo cases whole base before front behind branches)
      (makes : Makes IsType cx V decides m columns rows t) (f : IsFinished before t index now)
      (a : Waits frames base (matrix_columns e) whole) where
    -- the tree of the last case was finished
    pub else-done : IsElseNext IsType cx V decides m e i k.column k.pieces case columns rows front behind branches →
        IsLeft IsType cx V decides m frames now e i todo (cases ++ record { case = case; next = index } ∷ [])
    else-done n = (
      whole,
      base,
      k.pieces,
      [],
      more_branches ElseCase t no_branch,
      record {
        column = k.column;
        there = k.there;
        ready = k.ready;
        scope = k.scope;
        chosen = k.chosen;
        expanded = k.expanded;
        some = k.some;
        switch = k.switch;
        pieces = k.pieces;
        split = k.split;
        still = k.still ∙ ap (filter_map present_piece) n.all;
        built = k.built;
        walked = last_first base before now ElseCase t no_branch (subst (λ bs. WalksAll base bs before) n.none k.walked) f.walk;
        at = more-cases no_branch cases ElseCase case t index before now n.is f
            (subst (λ bs. Each (IsCaseAt before) (case_trees bs) (reverse cases)) n.none k.at);
      },
      sym (append-nil k.pieces),
      with_else i k.column (matrix_columns e) (matrix_rows e) rows (map (λ p. p.0) k.pieces) n.piece t n.missing n.value
          n.order (subst (λ cs. Makes IsType cx V decides m cs rows t) n.over makes),
      a,
    )

    state-at : (P : MCtor × PieceState → Type 0) (xs : List (MCtor × PieceState)) (p : MCtor × PieceState)
        (ys : List (MCtor × PieceState)) → Every P (xs ++ p ∷ ys) → P p
    state-at P [] p ys h = h.0
    state-at P (x ∷ xs) p ys h = state-at P xs p ys h.1

    -- the tree of the case of a piece was finished
    pub piece-done : IsPieceNext IsType cx V decides m e i k.column k.pieces case columns rows front behind branches →
        IsLeft IsType cx V decides m frames now e i todo (cases ++ record { case = case; next = index } ∷ [])
    piece-done n =
        let state : State i k.column (matrix_columns e) (matrix_rows e) (map (λ p. p.0) k.pieces) (n.piece, Present) =
        state-at (State i k.column (matrix_columns e) (matrix_rows e) (map (λ p. p.0) k.pieces)) front (n.piece, Present) behind
        (subst (Every (State i k.column (matrix_columns e) (matrix_rows e) (map (λ p. p.0) k.pieces))) n.cut
        (all-every (State i k.column (matrix_columns e) (matrix_rows e) (map (λ p. p.0) k.pieces)) k.pieces k.split.states)) in (
          whole,
          base,
          front,
          (n.piece, Present) ∷ behind,
          more_branches (case_of n.piece) t branches,
          record {
            column = k.column;
            there = k.there;
            ready = k.ready;
            scope = k.scope;
            chosen = k.chosen;
            expanded = k.expanded;
            some = k.some;
            switch = k.switch;
            pieces = k.pieces;
            split = k.split;
            still = k.still;
            built = k.built;
            walked = last_first base before now (case_of n.piece) t branches k.walked f.walk;
            at = more-cases branches cases (case_of n.piece) case t index before now n.is f k.at;
          },
          n.cut,
          one_case i k.column (matrix_columns e) (matrix_rows e) rows (map (λ p. p.0) k.pieces) n.piece
              (map (λ p. p.0) behind) t branches (is-true _ state.1) state.0 n.order
              (subst (λ cs. Makes IsType cx V decides m cs rows t) n.over makes) n.done,
          a,
        )

  every-behind : (P : MCtor × PieceState → Type 0) (xs ys : List (MCtor × PieceState)) → Every P (xs ++ ys) → Every P ys
  every-behind P [] ys h = h
  every-behind P (x ∷ xs) ys h = every-behind P xs ys h.1

  every-front : (P : MCtor × PieceState → Type 0) (xs ys : List (MCtor × PieceState)) → Every P (xs ++ ys) → Every P xs
  every-front P [] ys h = tt
  every-front P (x ∷ xs) ys h = (h.0, every-front P xs ys h.1)

  -- all cases are done: the switch is finished
  pub switch-done : (frames : List (Frame T)) (now new : List MTree) (e : Matrix T) (i : ℕ) (cases : List MBranch)
      (place : List MStep) (index : ℕ) (left : IsLeft IsType cx V decides m frames now e i [] cases) →
      ((c : MColumn T) → slice_get (matrix_columns e) i ≡ Some c → place ≡ c.place) →
      FinishesSwitch now place (reverse cases) index new → Goes frames new index
  switch-done frames now new e i cases place index (whole, base, front, behind, branches, k, cut, done, a) there f =
      let states : Every (State i k.column (matrix_columns e) (matrix_rows e) (map (λ p. p.0) k.pieces)) front =
      every-front (State i k.column (matrix_columns e) (matrix_rows e) (map (λ p. p.0) k.pieces)) front behind
      (subst (Every (State i k.column (matrix_columns e) (matrix_rows e) (map (λ p. p.0) k.pieces))) cut
      (all-every (State i k.column (matrix_columns e) (matrix_rows e) (map (λ p. p.0) k.pieces)) k.pieces k.split.states)) in
      let all : Cases i k.column (matrix_columns e) (matrix_rows e) (map (λ p. p.0) k.pieces) (map (λ p. p.0) k.pieces)
      branches =
      subst (λ ps. Cases i k.column (matrix_columns e) (matrix_rows e) (map (λ p. p.0) k.pieces) ps branches)
      (sym (ap (map (λ p. p.0)) cut ∙ map-append (λ p. p.0) front behind))
      (skipped i k.column (matrix_columns e) (matrix_rows e) (map (λ p. p.0) k.pieces) front (map (λ p. p.0) behind)
      branches (sym k.still) states done) in (
        matrix_columns e,
        whole,
        SwitchTree k.column.place branches,
        base,
        k.built,
        switches i k.column (matrix_columns e) whole (matrix_rows e) (map (λ p. p.0) k.pieces) branches k.chosen k.there
            k.expanded k.some k.switch k.split.are.listed all,
        a,
        subst (λ q. IsFinished base (SwitchTree q branches) index new) (there k.column k.there)
            (f base branches k.built k.walked k.at),
      )

  -- the tree of a case was finished
  pub case-done : (frames : List (Frame T)) (e : Matrix T) (i : ℕ) (todo : List MCtor) (cases : List MBranch)
      (case : MCase) (index : ℕ) (before now : List MTree) (columns : List (MColumn T)) (rows : List (MRow T))
      (t : MTree) → IsSwitching IsType cx V decides m (Waits frames) e i todo cases case before columns rows →
      Makes IsType cx V decides m columns rows t → IsFinished before t index now →
      IsLeft IsType cx V decides m frames now e i todo (cases ++ record { case = case; next = index } ∷ [])
  case-done frames e i todo cases case index before now columns rows t (cs, qs, b, whole, base, front, behind, branches, k, n, a) makes f =
      elim n [
        | inl h ↦ else-done frames e i todo cases case index before now cs qs whole t base front behind branches k
            (b t makes) f a h
        | inr h ↦ piece-done frames e i todo cases case index before now cs qs whole t base front behind branches k
            (b t makes) f a h
      ]

  -- the last piece that is left is entered
  pub piece-next : (frames : List (Frame T)) (now : List MTree) (e : Matrix T) (i : ℕ) (cases : List MBranch)
      (case : MCase) (ks : List MCtor) (p : MCtor) (columns : List (MColumn T)) (rows : List (MRow T)) →
      IsLeft IsType cx V decides m frames now e i (ks ++ p ∷ []) cases → case ≡ case_of p →
      ((c : MColumn T) → slice_get (matrix_columns e) i ≡ Some c →
      (columns ≡ replaced_at i (matrix_columns e) (part_columns cx c p))
      × AreInOrder decides (rows_at (specialise_head p (cx.arity p c.type)) c.place i (matrix_rows e)) rows) →
      IsSwitching IsType cx V decides m (Waits frames) e i ks cases case now columns rows
  piece-next frames now e i cases case ks p columns rows (whole, base, front, behind, branches, k, cut, done, a) is entered =
      let last : IsLast front ks p = last-present front ks p (sym k.still) in
      let over : k.pieces ≡ last.front ++ (p, Present) ∷ (last.passed ++ behind) =
      cut ∙ ap (λ r. r ++ behind) last.cut ∙ append_assoc last.front ((p, Present) ∷ last.passed) behind in
      let states : Every (State i k.column (matrix_columns e) (matrix_rows e) (map (λ q. q.0) k.pieces))
      ((p, Present) ∷ (last.passed ++ behind)) =
      every-behind (State i k.column (matrix_columns e) (matrix_rows e) (map (λ q. q.0) k.pieces)) last.front
      ((p, Present) ∷ (last.passed ++ behind))
      (subst (Every (State i k.column (matrix_columns e) (matrix_rows e) (map (λ q. q.0) k.pieces))) over
      (all-every (State i k.column (matrix_columns e) (matrix_rows e) (map (λ q. q.0) k.pieces)) k.pieces k.split.states)) in (
        columns,
        rows,
        λ t makes. makes,
        whole,
        base,
        last.front,
        last.passed ++ behind,
        branches,
        record {
          column = k.column;
          there = k.there;
          ready = k.ready;
          scope = k.scope;
          chosen = k.chosen;
          expanded = k.expanded;
          some = k.some;
          switch = k.switch;
          pieces = k.pieces;
          split = k.split;
          still = sym last.todo;
          built = k.built;
          walked = k.walked;
          at = k.at;
        },
        inr (record {
          piece = p;
          is = is;
          cut = over;
          over = (entered k.column k.there).0;
          order = (entered k.column k.there).1;
          done = subst (λ ps. Cases i k.column (matrix_columns e) (matrix_rows e) (map (λ q. q.0) k.pieces) ps branches)
              (sym (map-append (λ q. q.0) last.passed behind))
              (skipped i k.column (matrix_columns e) (matrix_rows e) (map (λ q. q.0) k.pieces) last.passed
              (map (λ q. q.0) behind) branches last.none
              (every-front (State i k.column (matrix_columns e) (matrix_rows e) (map (λ q. q.0) k.pieces)) last.passed
              behind states.1) done);
        }),
        a,
      )

  -- so it is of a switch as it waits
  pub piece-begun : (frames : List (Frame T)) (now : List MTree) (l : Looked T) (case : Case) (ks : List MCtor) (p : MCtor)
      (columns : List (MColumn T)) (rows : List (MRow T)) →
      IsLeft IsType cx V decides m frames now l.matrix l.column (ks ++ p ∷ []) (map plain_branch l.cases.items) →
      plain_ctors l.pieces.items ≡ ks → plain_case case ≡ case_of p →
      ((c : MColumn T) → slice_get (matrix_columns l.matrix) l.column ≡ Some c →
      (columns ≡ replaced_at l.column (matrix_columns l.matrix) (part_columns cx c p))
      × AreInOrder decides (rows_at (specialise_head p (cx.arity p c.type)) c.place l.column (matrix_rows l.matrix)) rows) →
      IsCutOf l → Waits (Switch l case ∷ frames) now columns rows
  piece-begun frames now l case ks p columns rows left todo is entered rest =
      with-rest (subst (λ qs. IsSwitching IsType cx V decides m (Waits frames) l.matrix l.column qs
      (map plain_branch l.cases.items) (plain_case case) now columns rows) (sym todo)
      (piece-next frames now l.matrix l.column (map plain_branch l.cases.items) (plain_case case) ks p columns rows left is entered))
    where
      with-rest : IsSwitching IsType cx V decides m (Waits frames) l.matrix l.column (plain_ctors l.pieces.items)
          (map plain_branch l.cases.items) (plain_case case) now columns rows → Waits (Switch l case ∷ frames) now columns rows
      with-rest (cs, qs, b, whole, base, front, behind, branches, k, n, a) =
          (cs, qs, b, whole, base, front, behind, branches, k, n, a, rest)

  -- and of its case of all pieces that stand in no row
  pub without-cut : (frames : List (Frame T)) (now : List MTree) (l : Looked T) (case : Case) (columns : List (MColumn T))
      (rows : List (MRow T)) → Waits (Switch l case ∷ frames) now columns rows →
      IsSwitching IsType cx V decides m (Waits frames) l.matrix l.column (plain_ctors l.pieces.items)
      (map plain_branch l.cases.items) (plain_case case) now columns rows
  without-cut frames now l case columns rows (cs, qs, b, whole, base, front, behind, branches, k, n, a, cut) =
      (cs, qs, b, whole, base, front, behind, branches, k, n, a)
