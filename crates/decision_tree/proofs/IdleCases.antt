-- The case of a piece whose first row is taken and binds nothing in what is open then.
use Rattle.std.proofs.Common.{◌≡◌, ◌<◌, ℕ, Bool, true, false, ◌&&◌, List, [], ◌∷◌, ◌++◌, map, length, get_or, append-nil, Some, None, slice_get, refl, sym, ap, ◌∙◌, subst, arith}
use Rattle.std.specs.List.{list_all}
use Rattle.std.proofs.lemmas.List.{length-map}
use Rattle.std.proofs.lemmas.Option.{slice_get_within}
use Rattle.match_model.specs.Values.{MValue}
use Rattle.match_model.specs.ArenaPatterns.{MDeMatch, de_pat, no_de_pats, more_de_pats}
use Rattle.match_model.specs.Constructors.{MCtor, WildCtor}
use Rattle.match_model.specs.Contexts.{Context}
use Rattle.match_model.specs.ContextLaws.{ValuesLaw}
use Rattle.match_model.specs.DecisionTrees.{MTree, TakeTree, all_head_binds, all_wild, by_name, case_of, row_binds}
use Rattle.match_model.specs.Keys.{Decision}
use Rattle.match_model.specs.Matrices.{MColumn, MRow, head_binds, part_columns}
use Rattle.match_model.specs.Places.{MStep}
use Rattle.match_model.specs.RowOrder.{AreInOrder}
use Rattle.match_model.specs.Rows.{Head, is_wild}
use Rattle.match_model.specs.Steps.{specialise_head, rows_at, replaced_at}
use Rattle.match_model.specs.Trees.{MBind}
use Rattle.match_model.proofs.Basics.{both, untrue}
use Rattle.constructor_sets.specs.Columns.{plain_ctors}
use Rattle.keyed_matrix.specs.Steps.{AreLonger}
use Rattle.keyed_matrix.specs.Views.{plain_row, plain_rows}
use Rattle.keyed_matrix.specs.declared.rows.KeyedRow.{KeyedRow}
use Rattle.tree_sharing.specs.Table.{IsBuilt}
use Rattle.tree_eval.specs.Nodes.{plain_branch, plain_case}
use Rattle.tree_eval.specs.Tables.{IsFinished}
use Rattle.tree_eval.specs.declared.tree.Case.{Case}
use Rattle.decision_tree.specs.declared.frames.Frame.{Frame}
use Rattle.decision_tree.specs.declared.frames.Frame.TheVariants.{Switch}
use Rattle.decision_tree.specs.declared.frames.Looked.{Looked}
use Rattle.decision_tree.specs.declared.frames.Turn.TheVariants.{Finished}
use Rattle.decision_tree.specs.declared.frames.Matrix.{Matrix}
use Rattle.decision_tree.specs.Cutting.{head_there, takes_by}
use Rattle.decision_tree.specs.Idle.{is_idle, takes_idly, is_idle_alone, IsIdleFirst}
use Rattle.decision_tree.specs.Matrices.{matrix_columns, matrix_rows}
use Rattle.decision_tree.specs.Waiting.{IsCutOf, IsPlaceAt, Awaits, IsLeft, IsTurn}
use Rattle.decision_tree.proofs.Cuts.{longer-at}
use Rattle.decision_tree.proofs.Going.{taken, piece-begun}
use Rattle.decision_tree.proofs.Looking.{one-at, longer}
use Rattle.decision_tree.proofs.Passing.{IsPassed, passed-row}
use Rattle.decision_tree.proofs.Reading.{read-map}
use Rattle.decision_tree.proofs.StillInOrder.{entered-in-order}

module _ {T : Type 0} where
  -- such a head is a wildcard, and binds nothing
  idle-wild : (h : Head T) → is_idle h ≡ true → is_wild h ≡ true
  idle-wild None e = refl
  idle-wild (Some (de_pat WildCtor t uid at no_de_pats [])) e = refl
  idle-wild (Some (de_pat WildCtor t uid at no_de_pats (b ∷ bs))) e = refl
  idle-wild (Some (de_pat WildCtor t uid at (more_de_pats p ps) binds)) e = refl
  idle-wild (Some (de_pat c t uid at subs binds)) e = untrue e

  idle-none : (place : List MStep) (h : Head T) → is_idle h ≡ true → head_binds place h ≡ []
  idle-none place None e = refl
  idle-none place (Some (de_pat WildCtor t uid at no_de_pats [])) e = refl
  idle-none place (Some (de_pat WildCtor t uid at no_de_pats (b ∷ bs))) e = untrue e
  idle-none place (Some (de_pat WildCtor t uid at (more_de_pats p ps) binds)) e = untrue e
  idle-none place (Some (de_pat c t uid at subs binds)) e = untrue e

  all-idle-wild : (hs : List (Head T)) → list_all is_idle hs ≡ true → list_all is_wild hs ≡ true
  all-idle-wild [] e = refl
  all-idle-wild (h ∷ hs) e =
      let k = both (is_idle h) (list_all is_idle hs) e in
      ap (λ b. b && list_all is_wild hs) (idle-wild h k.0) ∙ all-idle-wild hs k.1

  all-idle-none : (columns : List (MColumn T)) (hs : List (Head T)) → list_all is_idle hs ≡ true →
      all_head_binds columns hs ≡ []
  all-idle-none [] [] e = refl
  all-idle-none [] (h ∷ hs) e = refl
  all-idle-none (c ∷ columns) [] e = refl
  all-idle-none (c ∷ columns) (h ∷ hs) e =
      let k = both (is_idle h) (list_all is_idle hs) e in
      ap (λ bs. bs ++ all_head_binds columns hs) (idle-none c.place h k.0) ∙ all-idle-none columns hs k.1

  -- what a row binds whose heads are such heads
  idle-row-binds : (columns : List (MColumn T)) (y : MRow T) (bs : List MBind) → list_all is_idle y.heads ≡ true →
      y.caught ≡ bs → by_name bs ≡ row_binds columns y
  idle-row-binds columns y bs e c =
      ap by_name (sym c ∙ sym (append-nil y.caught) ∙ ap (λ xs. y.caught ++ xs) (sym (all-idle-none columns y.heads e)))

-- ---- a number that stands alone

module _ {T : Type 0} (i : ℕ) where
  pub idle-read : (rows : List (KeyedRow T)) (numbers : List ℕ) (k : ℕ) (row : KeyedRow T) → length numbers ≡ 1 →
      k ≡ get_or numbers 0 k → k < length rows → row ≡ get_or rows k row →
      takes_by is_idle i (plain_row row) ≡ is_idle_alone i (plain_rows rows) numbers
  idle-read rows [] k row one at l is = absurd (omega (arith, one))
  idle-read rows (x ∷ y ∷ numbers) k row one at l is = absurd (omega (arith, one))
  idle-read rows (x ∷ []) k row one at l is =
      ap (takes_idly i) (sym (read-map plain_row rows k row l is)) ∙ ap (λ q. takes_idly i (slice_get (plain_rows rows) q)) at

  pub idle-others : (rows : List (MRow T)) (numbers : List ℕ) → ¬ (length numbers ≡ 1) →
      false ≡ is_idle_alone i rows numbers
  idle-others rows [] none = refl
  idle-others rows (x ∷ []) none = absurd (none refl)
  idle-others rows (x ∷ y ∷ numbers) none = refl

  pub idle-some : (rows : List (MRow T)) (numbers : List ℕ) → is_idle_alone i rows numbers ≡ true → 0 < length numbers
  idle-some rows [] e = untrue e
  idle-some rows (x ∷ numbers) e = omega arith

  pub idle-one : (rows : List (MRow T)) (numbers : List ℕ) (k : ℕ) → is_idle_alone i rows numbers ≡ true →
      k ≡ get_or numbers 0 k → numbers ≡ k ∷ []
  idle-one rows [] k e at = untrue e
  idle-one rows (x ∷ []) k e at = ap (λ q. q ∷ []) (sym at)
  idle-one rows (x ∷ y ∷ numbers) k e at = untrue e

  -- it is that of a row
  pub idle-within : (e : Matrix T) (p : MCtor) (k : ℕ) → IsIdleFirst i (matrix_rows e) p k → k < length e.rows.items
  idle-within e p k first =
      let l : k < length (matrix_rows e) = slice_get_within (matrix_rows e) k first.row first.got in
      let long : length (matrix_rows e) ≡ length e.rows.items = length-map e.rows.items plain_row in
      omega (arith, l, long)

module _ {T : Type 0} (IsType : T → Type 0) (cx : Context T) (V : T → Bool → MValue → Type 0)
    (values : ValuesLaw IsType V cx) (decides : ℕ → Decision) (m : MDeMatch T) where
  -- its tree is finished
  pub idle-turn : (frames : List (Frame T)) (now new : List MTree) (l : Looked T) (case : Case) (p : MCtor) (k : ℕ)
      (row : MRow T) (place : List MStep) (binds : List MBind) (index : ℕ) →
      IsLeft IsType cx V decides m frames now l.matrix l.column (plain_ctors l.pieces.items ++ p ∷ [])
      (map plain_branch l.cases.items) →
      IsCutOf l → IsIdleFirst l.column (matrix_rows l.matrix) p k → plain_case case ≡ case_of p →
      slice_get (matrix_rows l.matrix) k ≡ Some row → IsPlaceAt IsType cx V decides m place l.matrix l.column →
      binds ≡ by_name (row.caught ++ head_binds place (head_there l.column row.heads)) → IsBuilt now →
      IsFinished now (TakeTree row.arm binds) index new →
      IsTurn IsType cx V decides m (Switch l case ∷ frames) new (Finished index)
  idle-turn frames now new l case p k row place binds index left cut first is got at bound built f =
      let x = left.5 in
      let c = x.column in
      let i = l.column in
      let rows = matrix_rows l.matrix in
      let columns = replaced_at i (matrix_columns l.matrix) (part_columns cx c p) in
      let long : AreLonger i rows = longer IsType cx V values decides i l.matrix c x.ready x.there in
      let r : MRow T = first.row in
      let same : r ≡ row = one-at rows k r row first.got got in
      let y : IsPassed is_idle refl (rows_at (specialise_head p (cx.arity p c.type)) c.place i (r ∷ [])) c.place i r =
      passed-row is_idle refl p (cx.arity p c.type) c.place i r (longer-at i rows k r long first.got) first.takes first.has in
      let o = first.first (cx.arity p c.type) c.place in
      let whole : rows_at (specialise_head p (cx.arity p c.type)) c.place i rows ≡ y.row ∷ o.0 =
      o.1 ∙ ap (λ xs. xs ++ o.0) y.alone in
      let order : AreInOrder decides (rows_at (specialise_head p (cx.arity p c.type)) c.place i rows) (y.row ∷ o.0) =
      subst (AreInOrder decides (rows_at (specialise_head p (cx.arity p c.type)) c.place i rows)) whole
      (entered-in-order decides p (cx.arity p c.type) c.place i rows x.ready.parted) in
      let caught : y.row.caught ≡ row.caught ++ head_binds place (head_there i row.heads) =
      y.caught ∙ ap (λ (s : MRow T). s.caught ++ head_binds c.place (head_there i s.heads)) same
      ∙ ap (λ q. row.caught ++ head_binds q (head_there i row.heads)) (sym (at c x.there)) in
      taken IsType cx V decides m (Switch l case ∷ frames) now new columns y.row o.0 binds index
      (all-idle-wild y.row.heads y.passes) y.unguarded
      (bound ∙ idle-row-binds columns y.row (row.caught ++ head_binds place (head_there i row.heads)) y.passes caught) built
      (piece-begun IsType cx V decides m frames now l case (plain_ctors l.pieces.items) p columns (y.row ∷ o.0) left refl is
      (λ d there. subst (λ b. (columns ≡ replaced_at i (matrix_columns l.matrix) (part_columns cx b p))
      × AreInOrder decides (rows_at (specialise_head p (cx.arity p b.type)) b.place i rows) (y.row ∷ o.0))
      (one-at (matrix_columns l.matrix) i c d x.there there) (refl, order)) cut)
      (subst (λ j. IsFinished now (TakeTree j binds) index new) (ap (λ (s : MRow T). s.arm) (sym same) ∙ sym y.arm) f)
