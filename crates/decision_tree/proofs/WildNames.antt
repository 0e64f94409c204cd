-- What a leaf binds does not depend on when a name was caught.
use Rattle.std.proofs.Common.{◌≡◌, ◌≢◌, ℕ, zero, suc, List, [], ◌∷◌, ◌++◌, refl, sym, ap, ◌∙◌, append_assoc, Ordering, Less, Equal, Greater, Some, slice_get}
use Rattle.std.specs.Ordering.{ordering_reverse, is_eq}
use Rattle.std.proofs.lemmas.Map.Text.{is_eq-slice_cmp}
use Rattle.match_model.proofs.Basics.{text_equal}
use Rattle.std.proofs.lemmas.Cmp.{nat_list_cmp_total}
use Rattle.match_model.specs.DecisionTrees.{all_head_binds, by_name, row_binds}
use Rattle.match_model.specs.Lists.{Every}
use Rattle.match_model.specs.Matrices.{MColumn, MRow, head_binds}
use Rattle.match_model.specs.Rows.{Head}
use Rattle.match_model.specs.Steps.{replaced_at}
use Rattle.match_model.specs.Texts.{compare_texts}
use Rattle.match_model.specs.Trees.{MBind}
use Rattle.match_model.specs.Ways.{put_by}
use Rattle.decision_tree.specs.WildColumns.{head_at, left_out}

greater-from : (a b : MBind) → compare_texts a.name b.name ≡ Less → compare_texts b.name a.name ≡ Greater
greater-from a b h = nat_list_cmp_total.antisymm b.name a.name ∙ ap ordering_reverse h

abbrev put : MBind → List MBind → List MBind
put b bs = put_by (λ c. c.name) b bs

-- two names that differ go in in either order
swap-less : (a b : MBind) (bs : List MBind) → compare_texts a.name b.name ≡ Less → put a (put b bs) ≡ put b (put a bs)
swap-less a b [] h = rw (h, greater-from a b h) refl
swap-less a b (c ∷ rest) h =
    go (compare_texts c.name a.name) (compare_texts c.name b.name) refl refl (swap-less a b rest h)
  where
    go : (o p : Ordering) → compare_texts c.name a.name ≡ o → compare_texts c.name b.name ≡ p →
        put a (put b rest) ≡ put b (put a rest) → put a (put b (c ∷ rest)) ≡ put b (put a (c ∷ rest))
    go Less p e f ih =
        let f' : compare_texts c.name b.name ≡ Less = nat_list_cmp_total.trans c.name a.name b.name e h in
        simp (e, f') (ap (λ l. c ∷ l) ih)
    go Equal Less e f ih = simp (e, f, h)
    go Equal Equal e f ih = simp (e, f, h, greater-from a b h)
    go Equal Greater e f ih = simp (e, f, h, greater-from a b h)
    go Greater Less e f ih = simp (e, f, h)
    go Greater Equal e f ih = simp (e, f, h, greater-from a b h)
    go Greater Greater e f ih = simp (e, f, h, greater-from a b h)

swap : (a b : MBind) (bs : List MBind) → a.name ≢ b.name → put a (put b bs) ≡ put b (put a bs)
swap a b bs d = go (compare_texts a.name b.name) refl
  where
    go : (o : Ordering) → compare_texts a.name b.name ≡ o → put a (put b bs) ≡ put b (put a bs)
    go Less e = swap-less a b bs e
    go Equal e = absurd (d (text_equal a.name b.name (sym (is_eq-slice_cmp a.name b.name) ∙ ap is_eq e)))
    go Greater e = sym (swap-less b a bs (nat_list_cmp_total.antisymm b.name a.name ∙ ap ordering_reverse e))

-- the name is none of these
abbrev pub IsNewName : List MBind → MBind → Type 0
IsNewName bs a = Every (λ b. b.name ≢ a.name) bs

one-moved : (xs : List MBind) (b : MBind) (ys : List MBind) → IsNewName xs b →
    by_name (xs ++ b ∷ ys) ≡ by_name (b ∷ xs ++ ys)
one-moved [] b ys n = refl
one-moved (x ∷ xs) b ys n = ap (put x) (one-moved xs b ys n.1) ∙ swap x b (by_name (xs ++ ys)) n.0

-- names that differ from those before them may come first
pub all-moved : (xs bs ys : List MBind) → Every (IsNewName xs) bs →
    by_name (xs ++ (bs ++ ys)) ≡ by_name (bs ++ (xs ++ ys))
all-moved xs [] ys n = refl
all-moved xs (b ∷ bs) ys n = one-moved xs b (bs ++ ys) n.0 ∙ ap (put b) (all-moved xs bs ys n.1)

module _ {T : Type 0} where
  -- the names that heads bind before a column
  abbrev pub binds_before : ℕ → List (MColumn T) → List (Head T) → List MBind
  binds_before zero columns heads = []
  binds_before (suc i) [] heads = []
  binds_before (suc i) (c ∷ columns) [] = []
  binds_before (suc i) (c ∷ columns) (h ∷ heads) = head_binds c.place h ++ binds_before i columns heads

  abbrev pub binds_behind : ℕ → List (MColumn T) → List (Head T) → List MBind
  binds_behind i [] heads = []
  binds_behind i (c ∷ columns) [] = []
  binds_behind zero (c ∷ columns) (h ∷ heads) = all_head_binds columns heads
  binds_behind (suc i) (c ∷ columns) (h ∷ heads) = binds_behind i columns heads

  binds-cut : (i : ℕ) (columns : List (MColumn T)) (heads : List (Head T)) →
      all_head_binds (replaced_at i columns []) (replaced_at i heads []) ≡ binds_before i columns heads ++ binds_behind i columns heads
  binds-cut zero [] heads = refl
  binds-cut (suc i) [] heads = refl
  binds-cut zero (c ∷ columns) [] = none columns
    where
      none : (cs : List (MColumn T)) → all_head_binds cs [] ≡ []
      none [] = refl
      none (c ∷ cs) = refl
  binds-cut (suc i) (c ∷ columns) [] = refl
  binds-cut zero (c ∷ columns) (h ∷ heads) = refl
  binds-cut (suc i) (c ∷ columns) (h ∷ heads) =
      ap (λ bs. head_binds c.place h ++ bs) (binds-cut i columns heads)
      ∙ sym (append_assoc (head_binds c.place h) (binds_before i columns heads) (binds_behind i columns heads))

  binds-whole : (i : ℕ) (columns : List (MColumn T)) (heads : List (Head T)) (d : MColumn T) →
      slice_get columns i ≡ Some d → all_head_binds columns heads
      ≡ binds_before i columns heads ++ (head_binds d.place (head_at i heads) ++ binds_behind i columns heads)
  binds-whole zero [] heads d e = cc
  binds-whole (suc i) [] heads d e = cc
  binds-whole zero (c ∷ columns) [] d e = refl
  binds-whole (suc i) (c ∷ columns) [] d e = refl
  binds-whole zero (c ∷ columns) (h ∷ heads) d e =
      ap (λ (x : MColumn T). head_binds x.place h ++ all_head_binds columns heads) (same c d e)
    where
      same : (x y : MColumn T) → Some x ≡ Some y → x ≡ y
      same x y e = cc
  binds-whole (suc i) (c ∷ columns) (h ∷ heads) d e =
      ap (λ bs. head_binds c.place h ++ bs) (binds-whole i columns heads d e)
      ∙ sym (append_assoc (head_binds c.place h) (binds_before i columns heads)
      (head_binds d.place (head_at i heads) ++ binds_behind i columns heads))

  -- what a row binds whose head is left out
  pub binds-left : (i : ℕ) (columns : List (MColumn T)) (d : MColumn T) (r : MRow T) → slice_get columns i ≡ Some d →
      Every (IsNewName (r.caught ++ binds_before i columns r.heads)) (head_binds d.place (head_at i r.heads)) →
      row_binds columns r ≡ row_binds (replaced_at i columns []) (left_out d.place i r)
  binds-left i columns d r e n =
      ap (λ bs. by_name (r.caught ++ bs)) (binds-whole i columns r.heads d e)
      ∙ (ap by_name (sym (append_assoc r.caught before (own ++ behind)))
      ∙ (all-moved (r.caught ++ before) own behind n
      ∙ (ap (λ bs. by_name (own ++ bs)) (append_assoc r.caught before behind)
      ∙ (ap (λ bs. by_name (own ++ (r.caught ++ bs))) (sym (binds-cut i columns r.heads))
      ∙ ap by_name (sym (append_assoc own r.caught (all_head_binds (replaced_at i columns []) (replaced_at i r.heads []))))))))
    where
      before : List MBind
      before = binds_before i columns r.heads

      own : List MBind
      own = head_binds d.place (head_at i r.heads)

      behind : List MBind
      behind = binds_behind i columns r.heads
