-- What the code's lists and matrices give to each turn of the lowering.
use Rattle.std.proofs.Common.{◌≡◌, ◌<◌, ℕ, suc, ◌+◌, Bool, true, false, inl, inr, List, [], ◌∷◌, ◌++◌, map, reverse, length, get_or, nat_lt, Some, slice_get, refl, sym, ap, ◌∙◌, subst, arith, append_assoc}
use Rattle.std.specs.List.{remove, list_all}
use Rattle.std.specs.Global.{Vec}
use Rattle.std.proofs.lemmas.List.{length-map, map-append, reverse-append}
use Rattle.match_model.specs.Values.{MValue}
use Rattle.match_model.specs.ArenaPatterns.{MDeMatch}
use Rattle.match_model.specs.Constructors.{MCtor}
use Rattle.match_model.specs.Contexts.{Context}
use Rattle.match_model.specs.DecisionTrees.{MTree, all_wild, row_binds, is_switchless}
use Rattle.match_model.specs.FewestBranches.{IsFewest}
use Rattle.match_model.specs.Keys.{Decision}
use Rattle.match_model.specs.Lists.{Each, Among, Ordered}
use Rattle.match_model.specs.Lowering.{ctors_at, all_wild_at}
use Rattle.match_model.specs.Matrices.{MColumn, MRow, open_of}
use Rattle.match_model.specs.Pieces.{ArePieces}
use Rattle.match_model.specs.SharedTrees.{CaseTree, case_trees}
use Rattle.match_model.specs.Steps.{replaced_at}
use Rattle.match_model.specs.Trees.{MBranch}
use Rattle.pat_context.specs.Views.{plain_ctor, is_sure}
use Rattle.pat_context.specs.declared.ctor.Ctor.{Ctor}
use Rattle.constructor_sets.specs.Columns.{plain_ctors, IsColumnSplit}
use Rattle.constructor_sets.specs.declared.piece.PieceState.{PieceState}
use Rattle.constructor_sets.specs.Present.{AreFound}
use Rattle.constructor_sets.specs.declared.piece.PieceState.TheVariants.{Present}
use Rattle.keyed_rows.specs.Parting.{RowParted}
use Rattle.keyed_steps.specs.Good.{IsGood}
use Rattle.keyed_matrix.specs.Views.{plain_column, plain_columns, plain_heads, plain_rows, plain_row}
use Rattle.keyed_matrix.specs.declared.rows.KeyedColumn.{KeyedColumn}
use Rattle.keyed_matrix.specs.declared.rows.KeyedRow.{KeyedRow}
use Rattle.tree_sharing.specs.Table.{IsCaseAt}
use Rattle.tree_eval.proofs.Filled.{is-below}
use Rattle.tree_eval.proofs.Pointwise.{and_true}
use Rattle.tree_eval.specs.Nodes.{plain_bind, plain_branch, plain_case}
use Rattle.tree_eval.specs.Tables.{FinishesAsk, AreBelow}
use Rattle.tree_eval.specs.declared.tree.Bind.{Bind}
use Rattle.tree_eval.specs.declared.tree.Case.{Case}
use Rattle.decision_tree.specs.declared.frames.Frame.{Frame}
use Rattle.decision_tree.specs.declared.frames.Frame.TheVariants.{Guard, Switch}
use Rattle.decision_tree.specs.declared.frames.Looked.{Looked}
use Rattle.decision_tree.specs.declared.frames.Matrix.{Matrix}
use Rattle.decision_tree.specs.declared.frames.Turn.TheVariants.{Finished}
use Rattle.decision_tree.specs.Known.{IsInScope}
use Rattle.decision_tree.specs.Matrices.{matrix_columns, matrix_rows, IsGoodMatrix, IsReadyMatrix, IsPieceAt, IsEntered, IsDropped, IsExpanded}
use Rattle.decision_tree.specs.Waiting.{IsCutOf, Leads, Awaits, IsLeft, IsOpened, IsTurn}
use Rattle.decision_tree.proofs.Beginning.{dropped-leads, opened-leads}
use Rattle.decision_tree.proofs.Fronts.{front-leads}
use Rattle.decision_tree.proofs.Going.{leads-more, asked, IsLast, last-present, else-done, piece-done}
use Rattle.decision_tree.proofs.Looking.{within, entered-at, dropped-at, expanded-at, expanded-there}
use Rattle.decision_tree.proofs.TypedRows.{as-many}

-- what is taken off the front
pub taken-off : {A : Type 0} (xs : List A) (x : A) → 0 < length xs → x ≡ get_or xs 0 x → xs ≡ x ∷ remove xs 0
taken-off [] x l e = absurd (omega arith)
taken-off (y ∷ xs) x l e = ap (λ z. z ∷ xs) (sym e)

-- what is put at the end, or taken off it, comes first in the order of waiting
pub last-first : {A : Type 0} (xs ys : List A) (x : A) → ys ≡ xs ++ x ∷ [] → reverse ys ≡ x ∷ reverse xs
last-first xs ys x e = ap reverse e ∙ reverse-append xs (x ∷ [])

pub map-snoc : {A B : Type 0} (f : A → B) (xs ys : List A) (x : A) → ys ≡ xs ++ x ∷ [] → map f ys ≡ map f xs ++ f x ∷ []
map-snoc f xs ys x e = ap (map f) e ∙ map-append f xs (x ∷ [])

pub among-middle : {A : Type 0} (xs ys : List A) (x : A) → Among x (xs ++ x ∷ ys)
among-middle [] ys x = inl refl
among-middle (y ∷ xs) ys x = inr (among-middle xs ys x)

-- no piece is left
pub none-there : (xs : List Ctor) → length xs ≡ 0 → plain_ctors xs ≡ []
none-there [] e = refl
none-there (x ∷ xs) e = absurd (omega (arith, e))

-- one is
pub one-there : (xs : List Ctor) (x : Ctor) → length xs ≡ 1 → x ≡ get_or xs 0 x → plain_ctors xs ≡ plain_ctor x ∷ []
one-there [] x l e = absurd (omega (arith, l))
one-there (y ∷ []) x l e = ap (λ z. plain_ctor z ∷ []) (sym e)
one-there (y ∷ z ∷ xs) x l e = absurd (omega (arith, l))

-- the indices of cases are those of trees
pub each-below : (trees : List MTree) (l : List CaseTree) (bs : List MBranch) → Each (IsCaseAt trees) l bs →
    AreBelow (length trees) bs
each-below trees [] [] e = refl
each-below trees [] (b ∷ bs) e = elim e [ ]
each-below trees (a ∷ l) [] e = elim e [ ]
each-below trees (a ∷ l) (b ∷ bs) e =
    let h : e.0.1.later + suc b.next ≡ length trees = e.0.1.count in
    and_true (nat_lt b.next (length trees)) (list_all (λ x. nat_lt x.next (length trees)) bs)
    (is-below b.next (length trees) (omega (arith, h))) (each-below trees l bs e.1)

module _ {T : Type 0} (IsType : T → Type 0) (cx : Context T) (V : T → Bool → MValue → Type 0)
    (decides : ℕ → Decision) (m : MDeMatch T) where
  abbrev Waits : List (Frame T) → (now : List MTree) → List (MColumn T) → List (MRow T) → Type 0
  Waits = Awaits IsType cx V decides m

  -- a matrix without its first row
  pub good-rest : (e next : Matrix T) (r : MRow T) → next.columns ≡ e.columns →
      matrix_rows e ≡ r ∷ matrix_rows next → IsGoodMatrix IsType cx decides e → IsGoodMatrix IsType cx decides next
  good-rest e next r cs rs g =
      let columns : matrix_columns e ≡ matrix_columns next = ap (λ v. plain_columns v.items) (sym cs) in
      let good : IsGood IsType cx decides (matrix_columns next) (r ∷ matrix_rows next) =
      subst (λ q. IsGood IsType cx decides q (r ∷ matrix_rows next)) columns
      (subst (IsGood IsType cx decides (matrix_columns e)) rs g.good) in
      record {
        good = record { columns_are = good.columns_are; rows_are = good.rows_are.1 };
        parted = (subst (Ordered (RowParted decides)) rs g.parted).1;
      }

  -- a row has as many heads as there are columns
  pub first-as-many : (e : Matrix T) (r : KeyedRow T) (rows : List (KeyedRow T)) → e.rows.items ≡ r ∷ rows →
      IsGoodMatrix IsType cx decides e → length e.columns.items ≡ length (plain_row r).heads
  first-as-many e r rows rs g =
      let good : IsGood IsType cx decides (matrix_columns e) (plain_rows (r ∷ rows)) =
      subst (λ q. IsGood IsType cx decides (matrix_columns e) (plain_rows q)) rs g.good in
      let same : length (matrix_columns e) ≡ length (plain_heads r.heads.items) =
      as-many cx (matrix_columns e) (plain_heads r.heads.items) good.rows_are.0.typed in
      sym (length-map e.columns.items plain_column) ∙ same

  -- the guard of the first row is asked
  pub guard-begun : (frames : List (Frame T)) (now : List MTree) (arm : ℕ) (binds : Vec Bind)
      (columns : List (MColumn T)) (r : MRow T) (rows : List (MRow T)) → all_wild r ≡ true → r.guarded ≡ true →
      arm ≡ r.arm → map plain_bind binds.items ≡ row_binds columns r → Waits frames now columns (r ∷ rows) →
      Waits (Guard arm binds ∷ frames) now columns rows
  guard-begun frames now arm binds columns r rows w g e b a = (columns, r, rows, λ t k. k, w, g, e, b, a)

  -- and refused: the tree of the rows behind it was finished
  pub guard-resumed : (frames : List (Frame T)) (now new : List MTree) (arm : ℕ) (binds : Vec Bind) (refused index : ℕ) →
      IsTurn IsType cx V decides m (Guard arm binds ∷ frames) now (Finished refused) →
      FinishesAsk now arm (map plain_bind binds.items) refused index new →
      IsTurn IsType cx V decides m frames new (Finished index)
  guard-resumed frames now new arm binds refused index (columns, rows, t, before, built, makes, (cs, r, rs, b, w, g, e, k, a), f) done =
      asked IsType cx V decides m frames arm binds.items now new cs rs t before refused index r w g e k built (b t makes) a f done

  -- the tree of a case was finished
  pub switch-resumed : (frames : List (Frame T)) (now : List MTree) (l : Looked T) (case : Case) (index : ℕ) →
      IsTurn IsType cx V decides m (Switch l case ∷ frames) now (Finished index) →
      IsLeft IsType cx V decides m frames now l.matrix l.column (plain_ctors l.pieces.items)
      (map plain_branch l.cases.items ++ plain_branch (case, index) ∷ [])
  switch-resumed frames now l case index (columns, rows, t, before, built, makes, (cs, qs, b, whole, base, front, behind, branches, k, n, a, cut), f) =
      elim n [
        | inl h ↦ else-done IsType cx V decides m frames l.matrix l.column (plain_ctors l.pieces.items)
            (map plain_branch l.cases.items) (plain_case case) index before now cs qs whole t base front behind branches k
            (b t makes) f a h
        | inr h ↦ piece-done IsType cx V decides m frames l.matrix l.column (plain_ctors l.pieces.items)
            (map plain_branch l.cases.items) (plain_case case) index before now cs qs whole t base front behind branches k
            (b t makes) f a h
      ]

  -- what is to do of the other pieces is as it was
  pub switch-cut : (frames : List (Frame T)) (now : List MTree) (l : Looked T) (case : Case) (index : ℕ) →
      IsTurn IsType cx V decides m (Switch l case ∷ frames) now (Finished index) → IsCutOf l
  switch-cut frames now l case index (columns, rows, t, before, built, makes, (cs, qs, b, whole, base, front, behind, branches, k, n, a, cut), f) =
      cut

  -- the last piece to come was taken off
  pub left-last : (frames : List (Frame T)) (now : List MTree) (e : Matrix T) (i : ℕ) (old new : List Ctor) (p : Ctor)
      (cases : List MBranch) → old ≡ new ++ p ∷ [] → IsLeft IsType cx V decides m frames now e i (plain_ctors old) cases →
      IsLeft IsType cx V decides m frames now e i (plain_ctors new ++ plain_ctor p ∷ []) cases
  left-last frames now e i old new p cases q a =
      subst (λ ks. IsLeft IsType cx V decides m frames now e i ks cases) (map-snoc plain_ctor new old p q) a

  -- there is none
  pub left-none : (frames : List (Frame T)) (now : List MTree) (e : Matrix T) (i : ℕ) (old : List Ctor)
      (cases : List MBranch) → length old ≡ 0 → IsLeft IsType cx V decides m frames now e i (plain_ctors old) cases →
      IsLeft IsType cx V decides m frames now e i [] cases
  left-none frames now e i [] cases q a = a
  left-none frames now e i (p ∷ old) cases q a = absurd (omega (arith, q))

  -- the column is there, and the cases go on at trees
  pub left-within : (frames : List (Frame T)) (now : List MTree) (e : Matrix T) (i : ℕ) (todo : List MCtor)
      (cases : List MBranch) → IsLeft IsType cx V decides m frames now e i todo cases → i < length e.columns.items
  left-within frames now e i todo cases (whole, base, front, behind, branches, k, cut, done, a) =
      within e i k.column k.there

  pub left-below : (frames : List (Frame T)) (now : List MTree) (e : Matrix T) (i : ℕ) (todo : List MCtor)
      (cases : List MBranch) → IsLeft IsType cx V decides m frames now e i todo cases →
      AreBelow (length now) (reverse cases)
  left-below frames now e i todo cases (whole, base, front, behind, branches, k, cut, done, a) =
      each-below now (case_trees branches) (reverse cases) k.at

  -- the piece that is entered next is one of the column
  pub piece-there : (frames : List (Frame T)) (now : List MTree) (e : Matrix T) (i : ℕ) (ks : List MCtor) (p : MCtor)
      (cases : List MBranch) → IsLeft IsType cx V decides m frames now e i (ks ++ p ∷ []) cases → IsPieceAt cx i e p
  piece-there frames now e i ks p cases (whole, base, front, behind, branches, k, cut, done, a) =
      let last : IsLast IsType cx V decides m front ks p = last-present IsType cx V decides m front ks p (sym k.still) in
      let over : map (λ q. q.0) k.pieces ≡ map (λ q. q.0) last.front ++ p ∷ map (λ q. q.0) (last.passed ++ behind) =
      ap (map (λ q. q.0)) (cut ∙ ap (λ r. r ++ behind) last.cut ∙ append_assoc last.front ((p, Present) ∷ last.passed) behind)
      ∙ map-append (λ q. q.0) last.front ((p, Present) ∷ (last.passed ++ behind)) in
      record {
        column = k.column;
        there = k.there;
        pieces = map (λ q. q.0) k.pieces;
        are = k.split.are.listed;
        among = subst (Among p) (sym over) (among-middle (map (λ q. q.0) last.front) (map (λ q. q.0) (last.passed ++ behind)) p);
      }

  -- the column is dropped
  pub dropped-turn : (frames : List (Frame T)) (now : List MTree) (i : ℕ) (e x next : Matrix T) →
      (f : IsFewest cx V (matrix_columns e) (matrix_rows e) i) → IsExpanded decides i e x →
      all_wild_at i (matrix_rows x) ≡ true → IsDropped decides i x next →
      Waits frames now (matrix_columns e) (matrix_rows e) → Waits frames now (matrix_columns next) (matrix_rows next)
  dropped-turn frames now i e x next f k w d a =
      let over = expanded-at cx decides i e x f.column f.there k in
      let there : slice_get (matrix_columns x) i ≡ Some f.column =
      expanded-there cx decides i e x f.column f.there k in
      let rest = dropped-at cx decides i x next f.column there d in
      leads-more IsType cx V decides m frames now (matrix_columns next) (matrix_columns e) (matrix_rows next)
      (matrix_rows e)
      (subst (λ cs. Leads IsType cx V decides m cs (matrix_rows next) (matrix_columns e) (matrix_rows e))
      (sym (rest.0 ∙ ap (λ cs. replaced_at i cs []) over.0))
      (dropped-leads IsType cx V decides m i f.column (matrix_columns e) (matrix_rows e) (matrix_rows x)
      (matrix_rows next) f f.there over.1 w rest.1)) a

  -- the column is opened, or a switch begins
  pub opened : (frames : List (Frame T)) (now : List MTree) (i : ℕ) (e x : Matrix T) (switchless : Bool)
      (f : IsFewest cx V (matrix_columns e) (matrix_rows e) i) → IsExpanded decides i e x →
      IsReadyMatrix IsType cx decides i x → IsInScope cx m (matrix_columns x) (matrix_rows x) →
      all_wild_at i (matrix_rows x) ≡ false → is_switchless (cx.set_of f.column.type) ≡ switchless → Waits frames now (matrix_columns e) (matrix_rows e) →
      IsOpened IsType cx V decides m frames now i switchless x
  opened frames now i e x switchless f k ready scope w kind a =
      let over = expanded-at cx decides i e x f.column f.there k in
      record {
        column = f.column;
        there = expanded-there cx decides i e x f.column f.there k;
        rows = matrix_rows e;
        chosen = subst (λ cs. IsFewest cx V cs (matrix_rows e) i) (sym over.0) f;
        expanded = over.1;
        ready = ready;
        scope = scope;
        some = w;
        kind = kind;
        awaits = subst (λ cs. Waits frames now cs (matrix_rows e)) (sym over.0) a;
      }

  -- the parts of the column have taken its place
  pub opened-turn : (frames : List (Frame T)) (now : List MTree) (i : ℕ) (x next : Matrix T) (p : MCtor)
      (o : IsOpened IsType cx V decides m frames now i true x) →
      ArePieces (cx.set_of o.column.type) (ctors_at i (matrix_rows x)) (p ∷ []) → IsEntered cx decides i x p next →
      Waits frames now (matrix_columns next) (matrix_rows next)
  opened-turn frames now i x next p o are k =
      let rest = entered-at cx decides i x next o.column o.there p k in
      leads-more IsType cx V decides m frames now (matrix_columns next) (matrix_columns next) (matrix_rows next) k.whole
      (front-leads IsType cx V decides m (matrix_columns next) (matrix_rows next) k.whole k.front)
      (leads-more IsType cx V decides m frames now (matrix_columns next) (matrix_columns x) k.whole o.rows
      (subst (λ cs. Leads IsType cx V decides m cs k.whole (matrix_columns x) o.rows) (sym rest.0)
      (opened-leads IsType cx V decides m i o.column (matrix_columns x) o.rows (matrix_rows x) k.whole p
      o.chosen o.there o.expanded o.some o.kind are rest.1)) o.awaits)

  -- what was found of the pieces of the column, which was read twice
  pub found-at : (x y : KeyedColumn T) (c : MColumn T) (ks hs cs gaps : List MCtor) (missing : Bool) →
      plain_column x ≡ c → plain_column y ≡ c → ks ≡ hs →
      AreFound V cx (record { type = x.ty; sure = is_sure y.validity }) ks cs missing gaps →
      AreFound V cx (open_of c) hs cs missing gaps
  found-at x y c ks hs cs gaps missing p q k f =
      subst (λ (d : MColumn T). AreFound V cx (record { type = d.type; sure = c.sure }) hs cs missing gaps) p
      (subst (λ (d : MColumn T). AreFound V cx (record { type = x.ty; sure = d.sure }) hs cs missing gaps) q
      (subst (λ l. AreFound V cx (record { type = x.ty; sure = is_sure y.validity }) l cs missing gaps) k f))

  -- the pieces into which it was cut
  pub listed-at : (x y : KeyedColumn T) (c : MColumn T) (ks hs : List MCtor) (pieces : List (MCtor × PieceState)) →
      plain_column x ≡ c → ks ≡ hs →
      IsColumnSplit V cx (record { type = x.ty; sure = is_sure y.validity }) ks pieces →
      ArePieces (cx.set_of c.type) hs (map (λ q. q.0) pieces)
  listed-at x y c ks hs pieces p k f =
      subst (λ (d : MColumn T). ArePieces (cx.set_of d.type) hs (map (λ q. q.0) pieces)) p
      (subst (λ l. ArePieces (cx.set_of x.ty) l (map (λ q. q.0) pieces)) k f.are.listed)
