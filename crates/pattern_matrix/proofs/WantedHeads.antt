-- What stands at the first place of a submatrix whose rows list their heads.
use Rattle.std.proofs.Common.{◌≡◌, ◌↔◌, ℕ, ◌<◌, Bool, true, false, ◌&&◌, ◌||◌, cond, List, [], ◌∷◌, ◌++◌, map, length, Some, None, nat_eq, refl, sym, ap, ◌∙◌, arith}
use Rattle.std.specs.List.{All, list_all, list_any, Contains}
use Rattle.std.specs.Option.{option_to_list}
use Rattle.std.proofs.lemmas.List.Elements.{All-head, All-tail, filter_map-append}
use Rattle.match_model.specs.Constructors.{MCtor, WildCtor}
use Rattle.match_model.specs.ArenaPatterns.{MDePat, de_pat}
use Rattle.match_model.specs.Rows.{Head as MHead, is_wild, starts_wild, first_ctor, column_of}
use Rattle.match_model.proofs.Basics.{untrue}
use Rattle.pattern_matrix.specs.Counting.{WantedRow}
use Rattle.pattern_matrix.specs.Searching.{heads_in, apart, first_ctors}
use Rattle.pattern_matrix.specs.Sparse.{SparseRow, SparseLeaf, bare_head, head_at, heads_at, leaf_row, AreHeadsOver, AreOver}
use Rattle.pattern_matrix.specs.Spreading.{all_apart}
use Rattle.pattern_matrix.specs.Halving.{leaf_ctors}
use Rattle.pattern_matrix.specs.Wanted.{wanted_views, bare_wanted, is_leaf_wanted, wanted_leaves}
use Rattle.pattern_matrix.proofs.Apart.{all_within}
use Rattle.pattern_matrix.proofs.BareCounts.{bare_wild, all_wild_bare}
use Rattle.pattern_matrix.proofs.BareWitnesses.{column_bare}
use Rattle.pattern_matrix.proofs.WantedSteps.{wanted_apart}
use Rattle.pattern_matrix.proofs.Having.{got_some, head_ctor, one_ctor}

heads_in_bare : {T : Type 0} (rows : List (WantedRow T)) → heads_in (map bare_wanted rows) ≡ map (map bare_head) (heads_in rows)
heads_in_bare [] = refl
heads_in_bare (x ∷ rows) = ap (λ hss. map bare_head x.row.heads ∷ hss) (heads_in_bare rows)

ctors_bare : {T : Type 0} (rows : List (WantedRow T)) → first_ctors (map bare_wanted rows) ≡ first_ctors rows
ctors_bare rows = ap column_of (heads_in_bare rows) ∙ column_bare (heads_in rows)

-- ---- leaves

module _ {T : Type 0} (others : List ℕ) (wanted : List Bool) (rows : List (SparseRow T)) where
  leaves_ctors : (leaves : List (SparseLeaf T)) → All (λ l. l.row < length rows) leaves →
      first_ctors (wanted_leaves others wanted false rows leaves) ≡ leaf_ctors leaves
  leaves_ctors [] h = refl
  leaves_ctors (l ∷ leaves) h =
      let some = got_some rows l.row (All-head (λ x. x.row < length rows) l leaves h) in
      let hs = bare_head l.head ∷ heads_at some.0.heads others in
      let more = heads_in (wanted_leaves others wanted false rows leaves) in
      ap (λ o. column_of (heads_in (map (λ r. record { row = leaf_row others l r; wanted = is_leaf_wanted wanted false l }) (option_to_list o) ++ wanted_leaves others wanted false rows leaves))) some.1
      ∙ filter_map-append first_ctor (hs ∷ []) more
      ∙ ap (λ cs. cs ++ column_of more) (one_ctor first_ctor hs (first_ctor (bare_head l.head ∷ [])) (head_ctor (bare_head l.head) (heads_at some.0.heads others)))
      ∙ ap (λ cs. option_to_list (first_ctor (bare_head l.head ∷ [])) ++ cs) (leaves_ctors leaves (All-tail (λ x. x.row < length rows) l leaves h))

  leaves_wild : (leaves : List (SparseLeaf T)) → All (λ l. l.row < length rows) leaves →
      list_all starts_wild (heads_in (wanted_leaves others wanted false rows leaves)) ≡ list_all (λ l. is_wild l.head) leaves
  leaves_wild [] h = refl
  leaves_wild (l ∷ leaves) h =
      let some = got_some rows l.row (All-head (λ x. x.row < length rows) l leaves h) in
      let more = heads_in (wanted_leaves others wanted false rows leaves) in
      ap (λ o. list_all starts_wild (heads_in (map (λ r. record { row = leaf_row others l r; wanted = is_leaf_wanted wanted false l }) (option_to_list o) ++ wanted_leaves others wanted false rows leaves))) some.1
      ∙ ap (λ b. b && list_all starts_wild more) (bare_wild l.head)
      ∙ ap (λ b. is_wild l.head && b) (leaves_wild leaves (All-tail (λ x. x.row < length rows) l leaves h))

within : {T : Type 0} (column : ℕ) (rows : List (SparseRow T)) → All (λ l. l.row < length rows) (all_apart column 0 rows)
within column rows = all_within column 0 (length rows) rows (omega arith)

pub ctors_listed : {T : Type 0} (column : ℕ) (others : List ℕ) (wanted : List Bool) (rows : List (SparseRow T)) → length wanted ≡ length rows →
    first_ctors (apart (wanted_views (column ∷ others) wanted rows)) ≡ leaf_ctors (all_apart column 0 rows)
ctors_listed column others wanted rows e =
    sym (ctors_bare (apart (wanted_views (column ∷ others) wanted rows))) ∙ ap first_ctors (wanted_apart column others wanted rows e)
    ∙ leaves_ctors others wanted rows (all_apart column 0 rows) (within column rows)

pub wild_listed : {T : Type 0} (column : ℕ) (others : List ℕ) (wanted : List Bool) (rows : List (SparseRow T)) → length wanted ≡ length rows →
    list_all starts_wild (heads_in (apart (wanted_views (column ∷ others) wanted rows))) ≡ list_all (λ l. is_wild l.head) (all_apart column 0 rows)
wild_listed column others wanted rows e =
    sym (all_wild_bare (apart (wanted_views (column ∷ others) wanted rows))) ∙ ap (λ xs. list_all starts_wild (heads_in xs)) (wanted_apart column others wanted rows e)
    ∙ leaves_wild others wanted rows (all_apart column 0 rows) (within column rows)

-- ---- no constructor

one_wild : {T : Type 0} (h : MHead T) → is_wild h ≡ true → option_to_list (first_ctor (bare_head h ∷ [])) ≡ []
one_wild None e = refl
one_wild (Some (de_pat WildCtor t uid at subs binds)) e = refl
one_wild (Some (de_pat _ t uid at subs binds)) e = cc

one_sharp : {T : Type 0} (h : MHead T) → is_wild h ≡ false → (c : MCtor) × (option_to_list (first_ctor (bare_head h ∷ [])) ≡ c ∷ [])
one_sharp None e = cc
one_sharp (Some (de_pat WildCtor t uid at subs binds)) e = cc
one_sharp (Some (de_pat c t uid at subs binds)) e = (c, refl)

pub none_listed : {T : Type 0} (leaves : List (SparseLeaf T)) → (leaf_ctors leaves ≡ []) ↔ (list_all (λ l. is_wild l.head) leaves ≡ true)
none_listed [] = (λ e. refl, λ e. refl)
none_listed {T} (l ∷ leaves) = go (is_wild l.head) refl (none_listed leaves)
  where
    go : (b : Bool) → is_wild l.head ≡ b → (leaf_ctors leaves ≡ []) ↔ (list_all (λ (x : SparseLeaf T). is_wild x.head) leaves ≡ true) →
        (leaf_ctors (l ∷ leaves) ≡ []) ↔ ((is_wild l.head && list_all (λ (x : SparseLeaf T). is_wild x.head) leaves) ≡ true)
    go true e f =
        let none : leaf_ctors (l ∷ leaves) ≡ leaf_ctors leaves = ap (λ cs. cs ++ leaf_ctors leaves) (one_wild l.head e) in (
          λ k. ap (λ b. b && list_all (λ (x : SparseLeaf T). is_wild x.head) leaves) e ∙ f.0 (sym none ∙ k),
          λ k. none ∙ f.1 (sym (ap (λ b. b && list_all (λ (x : SparseLeaf T). is_wild x.head) leaves) e) ∙ k),
        )
    go false e f =
        let (c, some) = one_sharp l.head e in (
          λ k. absurd (let long : length (c ∷ leaf_ctors leaves) ≡ 0 = ap length (sym (ap (λ cs. cs ++ leaf_ctors leaves) some) ∙ k) in omega (arith, long)),
          λ k. untrue (sym (ap (λ b. b && list_all (λ (x : SparseLeaf T). is_wild x.head) leaves) e) ∙ k),
        )

-- ---- a head that is listed

-- one of the heads stands at the column, and none is a wildcard
head_stands : {T : Type 0} (columns : List ℕ) (column : ℕ) (heads : List (ℕ × MDePat T)) → AreHeadsOver columns heads →
    list_any (λ h. nat_eq h.0 column) heads ≡ true → is_wild (head_at heads column) ≡ false
head_stands columns column [] over e = untrue e
head_stands {T} columns column (x ∷ heads) over e =
    go (nat_eq x.0 column) e (head_stands columns column heads (All-tail (λ y. Contains columns y.0 × (is_wild (Some y.1) ≡ false)) x heads over))
  where
    go : (b : Bool) → (b || list_any (λ (h : ℕ × MDePat T). nat_eq h.0 column) heads) ≡ true →
        (list_any (λ (h : ℕ × MDePat T). nat_eq h.0 column) heads ≡ true → is_wild (head_at heads column) ≡ false) →
        is_wild (cond b (bare_head (Some x.1)) (head_at heads column)) ≡ false
    go true e f = bare_wild (Some x.1) ∙ (All-head (λ y. Contains columns y.0 × (is_wild (Some y.1) ≡ false)) x heads over).1
    go false e f = f e

pub some_listed : {T : Type 0} (column : ℕ) (others columns : List ℕ) (wanted : List Bool) (rows : List (SparseRow T)) → length wanted ≡ length rows →
    AreOver columns rows →
    list_any (λ r. list_any (λ h. nat_eq h.0 column) r.heads) rows ≡ true → list_all starts_wild (heads_in (wanted_views (column ∷ others) wanted rows)) ≡ false
some_listed column others columns wanted [] l over e = untrue e
some_listed column others columns [] (r ∷ rows) l over e = absurd (omega (arith, l))
some_listed {T} column others columns (w ∷ wanted) (r ∷ rows) l over e =
    go (list_any (λ h. nat_eq h.0 column) r.heads) refl e (some_listed column others columns wanted rows (omega (arith, l)) (All-tail (λ x. AreHeadsOver columns x.heads) r rows over))
  where
    closed : (b : Bool) → (b && false) ≡ false
    closed true = refl
    closed false = refl

    go : (b : Bool) → list_any (λ (h : ℕ × MDePat T). nat_eq h.0 column) r.heads ≡ b →
        (b || list_any (λ (r : SparseRow T). list_any (λ h. nat_eq h.0 column) r.heads) rows) ≡ true →
        (list_any (λ (r : SparseRow T). list_any (λ h. nat_eq h.0 column) r.heads) rows ≡ true → list_all starts_wild (heads_in (wanted_views (column ∷ others) wanted rows)) ≡ false) →
        (is_wild (head_at r.heads column) && list_all starts_wild (heads_in (wanted_views (column ∷ others) wanted rows))) ≡ false
    go true b e f = ap (λ x. x && list_all starts_wild (heads_in (wanted_views (column ∷ others) wanted rows))) (head_stands columns column r.heads (All-head (λ x. AreHeadsOver columns x.heads) r rows over) b)
    go false b e f = ap (λ x. is_wild (head_at r.heads column) && x) (f e) ∙ closed (is_wild (head_at r.heads column))
