-- The constructors of what stands in place of a pattern, and of rows whose or-patterns are taken apart.
use denote.Bor.{Bor}
use Rattle.std.proofs.Common.{◌≡◌, ◌<◌, ℕ, zero, suc, Bool, true, false, List, [], ◌∷◌, ◌++◌, map, drop, length, nat_lt, refl, ap, sym, ◌∙◌, arith, Option, Some, None, slice_get, cond, append-nil}
use Rattle.std.specs.List.{flat_map, cons_option}
use Rattle.std.specs.Option.{option_to_list}
use Rattle.std.proofs.lemmas.Option.{slice_get_within, get_or_from_slice_get}
use Rattle.match_model.specs.ArenaPatterns.{MBound, MDePat, de_pat, uid_of}
use Rattle.match_model.specs.Constructors.{MCtor}
use Rattle.match_model.specs.Lowering.{ctors_at}
use Rattle.match_model.specs.Matrices.{MRow}
use Rattle.match_model.specs.Places.{MStep}
use Rattle.match_model.specs.Rows.{Head, Choice, choices_of, first_ctor, ctor_unless_wild, is_or_ctor, starts_or}
use Rattle.match_model.specs.Steps.{Replacement, expand_head, replacements_at, row_replaced, replaced_at, rows_at, with_others, with_head}
use Rattle.pattern_arena.specs.declared.pattern.DePat.{DePat, out-DePat}
use Rattle.pattern_arena.specs.Trees.{tree, placed_ctor, placed_subs, plain_bound}
use Rattle.pattern_arena.proofs.TreeFacts.{tree_out}
use Rattle.keyed_matrix.specs.Choosing.{choice_after, choices_after, choices_of_each, ctors_chosen, ctors_of_each}
use Rattle.keyed_matrix.specs.InColumns.{head_ctors}
use Rattle.keyed_matrix.specs.Steps.{row_at, put_at, chosen_one, chosen_rows, row_ctors}
use Rattle.keyed_matrix.specs.Views.{plain_heads, plain_row}
use Rattle.keyed_matrix.specs.declared.rows.KeyedRow.{KeyedRow}
use Rattle.keyed_matrix.proofs.ChoiceByChoice.{alone, choices-other, choices-or, after-nothing}
use Rattle.keyed_matrix.proofs.InColumn.{heads-from}
use Rattle.keyed_matrix.proofs.Replaced.{map-map, replacements-of}

one-ctor : (o : Option MCtor) → cons_option o [] ≡ option_to_list o
one-ctor None = refl
one-ctor (Some k) = refl

joined : (o : Option MCtor) (xs ys : List MCtor) → cons_option o xs ++ ys ≡ cons_option o (xs ++ ys)
joined None xs ys = refl
joined (Some k) xs ys = refl

module _ {T : Type 0} where
  -- what was chosen and bound before does not matter
  ctors-after : (chosen : List ℕ) (binds : List MBound) (cs : List (Choice T)) →
      ctors_chosen (map (choice_after chosen binds) cs) ≡ ctors_chosen cs
  ctors-after chosen binds [] = refl
  ctors-after chosen binds (c ∷ cs) = ap (cons_option (first_ctor (Some c.pat ∷ []))) (ctors-after chosen binds cs)

  ctors-append : (xs ys : List (Choice T)) → ctors_chosen (xs ++ ys) ≡ ctors_chosen xs ++ ctors_chosen ys
  ctors-append [] ys = refl
  ctors-append (c ∷ xs) ys =
      ap (cons_option (first_ctor (Some c.pat ∷ []))) (ctors-append xs ys)
      ∙ sym (joined (first_ctor (Some c.pat ∷ [])) (ctors_chosen xs) (ctors_chosen ys))

  each-ctors : (chosen : List ℕ) (binds : List MBound) (several : Bool) (ps : List (MDePat T)) →
      ctors_chosen (choices_of_each chosen binds several ps) ≡ ctors_of_each ps
  each-ctors chosen binds several [] = refl
  each-ctors chosen binds several (p ∷ ps) =
      let these = choices_after (chosen ++ cond several (uid_of p ∷ []) []) binds p in
      ctors-append these (choices_of_each chosen binds several ps)
      ∙ ap (λ ks. ks ++ ctors_chosen (choices_of_each chosen binds several ps))
      (ctors-after (chosen ++ cond several (uid_of p ∷ []) []) binds (choices_of p))
      ∙ ap (λ ks. ctors_chosen (choices_of p) ++ ks) (each-ctors chosen binds several ps)

  -- an or-pattern has those of its alternatives
  pub or-ctors : (p : DePat T) → is_or_ctor (placed_ctor p) ≡ true →
      ctors_chosen (choices_of (tree p)) ≡ ctors_of_each (map tree (placed_subs p))
  or-ctors p h =
      ap ctors_chosen (sym (after-nothing (tree p)) ∙ choices-or [] [] p h)
      ∙ each-ctors [] (map plain_bound (out-DePat T p).form.now.binds.now) (nat_lt 1 (length (placed_subs p)))
      (map tree (placed_subs p))

  -- another pattern has its own
  pub other-ctors : (p : DePat T) → is_or_ctor (placed_ctor p) ≡ false →
      ctors_chosen (choices_of (tree p)) ≡ option_to_list (ctor_unless_wild (placed_ctor p))
  other-ctors p h =
      ap ctors_chosen (sym (after-nothing (tree p)) ∙ choices-other [] [] p h)
      ∙ one-ctor (first_ctor (Some (tree p) ∷ []))
      ∙ ap (λ q. option_to_list (first_ctor (Some q ∷ []))) (tree_out p)

  -- ---- a row

  drop-replaced : (i : ℕ) (hs : List (Head T)) (h : Head T) → i < length hs →
      drop i (replaced_at i hs (h ∷ [])) ≡ h ∷ drop (suc i) hs
  drop-replaced i [] h l = absurd (omega (arith, l))
  drop-replaced zero (x ∷ hs) h l = refl
  drop-replaced (suc i) (x ∷ hs) h l = drop-replaced i hs h (omega (arith, l))

  head-ctor : (h : Head T) (hs : List (Head T)) → first_ctor (h ∷ hs) ≡ first_ctor (h ∷ [])
  head-ctor None hs = refl
  head-ctor (Some (de_pat c t uid at subs binds)) hs = refl

  chosen-ctors : (place : List MStep) (i : ℕ) (r : MRow T) (cs : List (Choice T)) → i < length r.heads →
      ctors_at i (chosen_rows place i r cs) ≡ ctors_chosen cs
  chosen-ctors place i r [] l = refl
  chosen-ctors place i r (c ∷ cs) l =
      ap (λ o. cons_option o (ctors_at i (chosen_rows place i r cs)))
      (ap first_ctor (drop-replaced i r.heads (Some c.pat) l) ∙ head-ctor (Some c.pat) (drop (suc i) r.heads))
      ∙ ap (cons_option (first_ctor (Some c.pat ∷ []))) (chosen-ctors place i r cs l)

  -- the constructors of a row are those of its head
  pub row-ctors : (i : ℕ) (r : MRow T) (h : Head T) → slice_get r.heads i ≡ Some h → row_ctors i r ≡ head_ctors h
  row-ctors i r None e =
      let within = slice_get_within r.heads i None e in
      ap (λ ys. ctors_at i (map (row_replaced [] r) ys))
      (replacements-of expand_head i r.heads None within
      ∙ ap (λ x. map (put_at i r.heads) (expand_head x)) (get_or_from_slice_get r.heads i None None e))
      ∙ ap (λ hs. cons_option (first_ctor hs) []) (drop-replaced i r.heads None within)
  row-ctors i r (Some p) e =
      let within = slice_get_within r.heads i (Some p) e in
      ap (λ ys. ctors_at i (map (row_replaced [] r) ys))
      (replacements-of expand_head i r.heads (Some p) within
      ∙ ap (λ x. map (put_at i r.heads) (expand_head x)) (get_or_from_slice_get r.heads i (Some p) (Some p) e)
      ∙ map-map (put_at i r.heads) chosen_one (λ c. put_at i r.heads (chosen_one c)) (choices_of p) (λ c. refl))
      ∙ ap (ctors_at i) (map-map (row_replaced [] r) (λ c. put_at i r.heads (chosen_one c))
      (λ c. row_replaced [] r (put_at i r.heads (chosen_one c))) (choices_of p) (λ c. refl))
      ∙ chosen-ctors [] i r (choices_of p) within

  -- ---- rows

  at-append : (i : ℕ) (xs ys : List (MRow T)) → ctors_at i (xs ++ ys) ≡ ctors_at i xs ++ ctors_at i ys
  at-append i [] ys = refl
  at-append i (r ∷ xs) ys =
      ap (cons_option (first_ctor (drop i r.heads))) (at-append i xs ys)
      ∙ sym (joined (first_ctor (drop i r.heads)) (ctors_at i xs) (ctors_at i ys))

  -- the place of the column does not matter
  same-place : (place : List MStep) (i : ℕ) (r : MRow T) (ys : List (Replacement T)) →
      ctors_at i (map (row_replaced [] r) ys) ≡ ctors_at i (map (row_replaced place r) ys)
  same-place place i r [] = refl
  same-place place i r (y ∷ ys) = ap (cons_option (first_ctor (drop i y.heads))) (same-place place i r ys)

  pub rows-ctors : (place : List MStep) (i : ℕ) (rows : List (MRow T)) →
      flat_map (row_ctors i) rows ≡ ctors_at i (rows_at expand_head place i rows)
  rows-ctors place i [] = refl
  rows-ctors place i (r ∷ rows) =
      ap (λ ks. ks ++ flat_map (row_ctors i) rows) (same-place place i r (replacements_at expand_head i r.heads))
      ∙ ap (λ ks. ctors_at i (row_at expand_head place i r) ++ ks) (rows-ctors place i rows)
      ∙ sym (at-append i (row_at expand_head place i r) (rows_at expand_head place i rows))

  -- ---- or-patterns in a column

  pub or-none : (row : KeyedRow T) (i : ℕ) → slice_get (plain_row row).heads i ≡ Some None →
      false ≡ starts_or (drop i (plain_row row).heads)
  or-none row i e = sym (ap starts_or (heads-from (plain_row row).heads i None e))

  pub or-some : (row : KeyedRow T) (i : ℕ) (p : Bor (DePat T)) → slice_get (plain_row row).heads i ≡ Some (Some (tree p.now)) →
      is_or_ctor (placed_ctor p.now) ≡ starts_or (drop i (plain_row row).heads)
  or-some row i p e =
      sym (ap starts_or (heads-from (plain_row row).heads i (Some (tree p.now)) e)
      ∙ ap (λ q. starts_or (Some q ∷ drop (suc i) (plain_heads row.heads.items))) (tree_out p.now))

  -- ---- a row without an or-pattern in the column is not changed when it is expanded

  expand-plain : (h : Head T) (hs : List (Head T)) → starts_or (h ∷ hs) ≡ false →
      expand_head h ≡ record { heads = h ∷ []; chosen = []; binds = [] } ∷ []
  expand-plain None hs e = refl
  expand-plain (Some (de_pat c t uid at subs binds)) hs e =
      ap (map (λ (x : Choice T). record { heads = Some x.pat ∷ []; chosen = x.chosen; binds = x.binds }))
      (alone c _ (record { pat = de_pat c t uid at subs binds; chosen = []; binds = [] } ∷ []) e)

  plain-at : (i : ℕ) (hs : List (Head T)) → i < length hs → starts_or (drop i hs) ≡ false →
      replacements_at expand_head i hs ≡ record { heads = hs; chosen = []; binds = [] } ∷ []
  plain-at i [] l e = absurd (omega (arith, l))
  plain-at zero (h ∷ hs) l e = ap (map (with_others hs)) (expand-plain h hs e)
  plain-at (suc i) (h ∷ hs) l e = ap (map (with_head h)) (plain-at i hs (omega (arith, l)) e)

  pub plain-row : (place : List MStep) (i : ℕ) (r : MRow T) → i < length r.heads → starts_or (drop i r.heads) ≡ false →
      row_at expand_head place i r ≡ r ∷ []
  plain-row place i r l e =
      ap (map (row_replaced place r)) (plain-at i r.heads l e)
      ∙ ap (λ x. x ∷ []) (rw (append-nil r.chosen, append-nil r.caught) refl)
