-- The names that heads bind by themselves, column by column.
use Rattle.std.proofs.Common.{◌≡◌, ◌<◌, ℕ, zero, suc, ◌+◌, List, [], ◌∷◌, ◌++◌, take, drop, length, get_or, refl, sym, ap, ◌∙◌, arith, append_assoc, append-nil, Result, Ok, Err, OnOk}
use Rattle.match_model.specs.DecisionTrees.{all_head_binds}
use Rattle.match_model.specs.Matrices.{MColumn, head_binds}
use Rattle.match_model.specs.Rows.{Head, wildcards}
use Rattle.match_model.specs.Trees.{MBind}
use Rattle.pat_context.specs.Views.{plain_place}
use Rattle.keyed_matrix.specs.declared.rows.HeadRun.{HeadRun}
use Rattle.keyed_matrix.specs.declared.rows.KeyedColumn.{KeyedColumn}
use Rattle.keyed_matrix.specs.Views.{plain_run, plain_heads, plain_columns}
use Rattle.keyed_matrix.proofs.HeadRuns.{runs-until}

module _ {T : Type 0} where
  no-heads : (columns : List (MColumn T)) → all_head_binds columns [] ≡ []
  no-heads [] = refl
  no-heads (c ∷ columns) = refl

  -- wildcards bind none
  wilds-bind : (columns : List (MColumn T)) (n : ℕ) → all_head_binds columns (wildcards n) ≡ []
  wilds-bind [] n = refl
  wilds-bind (c ∷ columns) zero = refl
  wilds-bind (c ∷ columns) (suc n) = wilds-bind columns n

  -- heads behind others
  behind-others : (columns : List (MColumn T)) (xs ys : List (Head T)) →
      all_head_binds columns (xs ++ ys)
      ≡ all_head_binds columns xs ++ all_head_binds (drop (length xs) columns) ys
  behind-others [] [] ys = refl
  behind-others [] (x ∷ xs) ys = refl
  behind-others (c ∷ columns) [] ys = refl
  behind-others (c ∷ columns) (x ∷ xs) ys =
      ap (λ bs. head_binds c.place x ++ bs) (behind-others columns xs ys)
      ∙ sym (append_assoc (head_binds c.place x) (all_head_binds columns xs) (all_head_binds (drop (length xs) columns) ys))

  -- one head
  one-binds : (columns : List (KeyedColumn T)) (at : ℕ) (c : KeyedColumn T) (h : Head T) → at < length columns →
      head_binds (plain_place (get_or columns at c).place.now) h ≡ all_head_binds (drop at (plain_columns columns)) (h ∷ [])
  one-binds [] at c h l = absurd (omega (arith, l))
  one-binds (x ∷ columns) zero c h l =
      sym (append-nil (head_binds (plain_place x.place.now) h))
      ∙ ap (λ bs. head_binds (plain_place x.place.now) h ++ bs) (sym (no-heads (plain_columns columns)))
  one-binds (x ∷ columns) (suc at) c h l = one-binds columns at c h (omega (arith, l))

  -- a run that is one head
  pub run-binds : {A E : Type 0} (told : Result A E) (columns : List (KeyedColumn T)) (at : ℕ) (c : KeyedColumn T)
      (h : Head T) (one : HeadRun T) (old new : List MBind) → at < length columns → plain_run one ≡ h ∷ [] →
      OnOk told (new ≡ old ++ head_binds (plain_place (get_or columns at c).place.now) h) →
      OnOk told (new ≡ old ++ all_head_binds (drop at (plain_columns columns)) (plain_run one))
  run-binds (Ok a) columns at c h one old new l is n =
      n ∙ ap (λ bs. old ++ bs)
      (one-binds columns at c h l ∙ ap (all_head_binds (drop at (plain_columns columns))) (sym is))
  run-binds (Err a) columns at c h one old new l is n = tt

  -- a run of wildcards
  pub none-bind : (columns : List (MColumn T)) (n : ℕ) (one : HeadRun T) (old : List MBind) → plain_run one ≡ wildcards n →
      old ≡ old ++ all_head_binds columns (plain_run one)
  none-bind columns n one old is =
      sym (append-nil old)
      ∙ ap (λ bs. old ++ bs) (sym (ap (all_head_binds columns) is ∙ wilds-bind columns n))

  -- the heads of one run more
  pub names-next : (xs : List (HeadRun T)) (k : ℕ) (x : HeadRun T) → k < length xs → x ≡ get_or xs k x →
      (columns : List (MColumn T)) (old now new : List MBind) (at : ℕ) → at ≡ length (plain_heads (take k xs)) →
      now ≡ old ++ all_head_binds columns (plain_heads (take k xs)) →
      new ≡ now ++ all_head_binds (drop at columns) (plain_run x) →
      new ≡ old ++ all_head_binds columns (plain_heads (take (k + 1) xs))
  names-next xs k x l e columns old now new at a h n =
      let before = plain_heads (take k xs) in
      n ∙ ap (λ bs. bs ++ all_head_binds (drop at columns) (plain_run x)) h
      ∙ append_assoc old (all_head_binds columns before) (all_head_binds (drop at columns) (plain_run x))
      ∙ ap (λ bs. old ++ bs)
      (ap (λ j. all_head_binds columns before ++ all_head_binds (drop j columns) (plain_run x)) a
      ∙ sym (behind-others columns before (plain_run x))
      ∙ ap (all_head_binds columns) (sym (runs-until xs k x l e)))

  pub names-begun : (columns : List (MColumn T)) (old : List MBind) → old ≡ old ++ all_head_binds columns []
  names-begun columns old = sym (append-nil old) ∙ ap (λ bs. old ++ bs) (sym (no-heads columns))
