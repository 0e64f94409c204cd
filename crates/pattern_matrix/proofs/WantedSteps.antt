-- The steps of a submatrix do to its rows, made bare, what they do to listed rows.
use Rattle.std.proofs.Common.{◌≡◌, ◌+◌, ℕ, zero, suc, Bool, true, false, not, ◌&&◌, cond, List, [], ◌∷◌, ◌++◌, map, filter, length, Option, Some, None, slice_get, slice_index_or, refl, sym, ap, ◌∙◌, arith, append-nil}
use Rattle.std.specs.List.{All, flat_map}
use Rattle.std.specs.Option.{option_to_list}
use Rattle.std.proofs.lemmas.List.{map-append}
use Rattle.std.proofs.lemmas.Grind.{flat_map-append}
use Rattle.std.proofs.lemmas.List.Elements.{All-head, All-tail}
use Rattle.match_model.specs.Constructors.{MCtor, WildCtor, OrCtor, has_piece}
use Rattle.match_model.specs.ArenaPatterns.{de_pat, de_pats_list}
use Rattle.match_model.specs.Rows.{Head as MHead, Choice, choices_of, is_wild, starts_wild, wildcards, heads_of}
use Rattle.match_model.specs.Matrices.{MRow}
use Rattle.match_model.specs.Steps.{Replacement, expand_head, specialise_head, default_head, with_others, replacements_at, row_replaced}
use Rattle.pattern_matrix.specs.Counting.{WantedRow, wanted_at}
use Rattle.pattern_matrix.specs.Searching.{apart, settled}
use Rattle.pattern_matrix.specs.Sparse.{SparseRow, SparseLeaf, bare_head, bare_row, head_at, heads_at, row_view, leaf_row, columns_from, AreHeadsBelow, AreBelow, AreOthers, Lacks, head_has, leaf_parts}
use Rattle.pattern_matrix.specs.Opening.{opened_row, dropped_row}
use Rattle.pattern_matrix.specs.Spreading.{leaf_of, all_apart}
use Rattle.pattern_matrix.specs.Spreading as spreading
use Rattle.pattern_matrix.specs.Wanted.{wanted_views, bare_wanted, is_leaf_wanted, of_leaf, wanted_leaves, wanted_opened, wanted_dropped}
use Rattle.pattern_matrix.proofs.Apart.{bare-bare, bare-heads_at, one_choice}
use Rattle.pattern_matrix.proofs.BareCounts.{bare_wild, starts_bare}
use Rattle.pattern_matrix.proofs.Opened.{at_get, opened_heads, left_heads}

-- the rows of the replacements
abbrev put : {T : Type 0} → MRow T → Bool → List (Replacement T) → List (WantedRow T)
put r w ys = map (λ y. record { row = row_replaced [] r y; wanted = w }) ys

and_true : (b : Bool) → (b && true) ≡ b
and_true true = refl
and_true false = refl

pub bare_all : {T : Type 0} (hs : List (MHead T)) → map bare_head (map bare_head hs) ≡ map bare_head hs
bare_all [] = refl
bare_all (h ∷ hs) = ap (λ x. x ∷ map bare_head (map bare_head hs)) (bare-bare h) ∙ ap (λ xs. bare_head h ∷ xs) (bare_all hs)

pub bare_behind : {T : Type 0} (hs rest : List (MHead T)) → map bare_head (hs ++ rest) ≡ map bare_head (hs ++ map bare_head rest)
bare_behind hs rest = map-append bare_head hs rest ∙ ap (λ xs. map bare_head hs ++ xs) (sym (bare_all rest)) ∙ sym (map-append bare_head hs (map bare_head rest))

-- a row of these heads that has chosen this, made bare
abbrev bare_of : {T : Type 0} → MRow T → Bool → (chosen : List ℕ) → List (MHead T) → WantedRow T
bare_of r w chosen hs = record { row = record { heads = map bare_head hs; arm = r.arm; guarded = r.guarded; chosen = chosen; caught = [] }; wanted = w }

-- ---- a step on bare rows is the step on rows, made bare

module _ {T : Type 0} (f : MHead T → List (Replacement T))
    (same : (r : MRow T) (w : Bool) (hs : List (MHead T)) → map bare_wanted (put r w (replacements_at f 0 hs)) ≡ map bare_wanted (put (bare_row r) w (replacements_at f 0 (map bare_head hs)))) where
  pub step_bare : (rows : List (WantedRow T)) → map bare_wanted (wanted_at f [] 0 rows) ≡ map bare_wanted (wanted_at f [] 0 (map bare_wanted rows))
  step_bare [] = refl
  step_bare (x ∷ rows) =
      map-append bare_wanted (put x.row x.wanted (replacements_at f 0 x.row.heads)) (wanted_at f [] 0 rows)
      ∙ ap (λ xs. xs ++ map bare_wanted (wanted_at f [] 0 rows)) (same x.row x.wanted x.row.heads)
      ∙ ap (λ xs. map bare_wanted (put (bare_row x.row) x.wanted (replacements_at f 0 (map bare_head x.row.heads))) ++ xs) (step_bare rows)
      ∙ sym (map-append bare_wanted (put (bare_row x.row) x.wanted (replacements_at f 0 (map bare_head x.row.heads))) (wanted_at f [] 0 (map bare_wanted rows)))

same_special : {T : Type 0} (p : MCtor) (n : ℕ) (r : MRow T) (w : Bool) (hs : List (MHead T)) →
    map bare_wanted (put r w (replacements_at (specialise_head p n) 0 hs)) ≡ map bare_wanted (put (bare_row r) w (replacements_at (specialise_head p n) 0 (map bare_head hs)))
same_special p n r w [] = refl
same_special p n r w (None ∷ rest) = ap (λ hs. record { row = record { heads = hs; arm = r.arm; guarded = r.guarded; chosen = r.chosen ++ []; caught = [] }; wanted = w } ∷ []) (bare_behind (wildcards n) rest)
same_special p n r w (Some (de_pat WildCtor t uid at subs binds) ∷ rest) =
    ap (λ hs. record { row = record { heads = hs; arm = r.arm; guarded = r.guarded; chosen = r.chosen ++ []; caught = [] }; wanted = w } ∷ []) (bare_behind (wildcards n) rest)
same_special p n r w (Some (de_pat OrCtor t uid at subs binds) ∷ rest) = refl
same_special {T} p n r w (Some (de_pat c t uid at subs binds) ∷ rest) = go (has_piece c p)
  where
    hs : List (MHead T)
    hs = heads_of c (map Some (de_pats_list subs)) n

    go : (b : Bool) →
        map bare_wanted (put r w (map (with_others rest) (cond b (record { heads = heads_of c (map Some (de_pats_list subs)) n; chosen = []; binds = binds } ∷ []) [])))
        ≡ map bare_wanted (put (bare_row r) w (map (with_others (map bare_head rest)) (cond b (record { heads = heads_of c (map Some (de_pats_list subs)) n; chosen = []; binds = binds } ∷ []) [])))
    go true = ap (λ hs. record { row = record { heads = hs; arm = r.arm; guarded = r.guarded; chosen = r.chosen ++ []; caught = [] }; wanted = w } ∷ []) (bare_behind hs rest)
    go false = refl

same_default : {T : Type 0} (r : MRow T) (w : Bool) (hs : List (MHead T)) →
    map bare_wanted (put r w (replacements_at default_head 0 hs)) ≡ map bare_wanted (put (bare_row r) w (replacements_at default_head 0 (map bare_head hs)))
same_default r w [] = refl
same_default r w (None ∷ rest) = ap (λ hs. record { row = record { heads = hs; arm = r.arm; guarded = r.guarded; chosen = r.chosen ++ []; caught = [] }; wanted = w } ∷ []) (bare_behind [] rest)
same_default r w (Some (de_pat WildCtor t uid at subs binds) ∷ rest) = ap (λ hs. record { row = record { heads = hs; arm = r.arm; guarded = r.guarded; chosen = r.chosen ++ []; caught = [] }; wanted = w } ∷ []) (bare_behind [] rest)
same_default r w (Some (de_pat _ t uid at subs binds) ∷ rest) = refl

settled_bare : {T : Type 0} (rows : List (WantedRow T)) → map bare_wanted (settled rows) ≡ settled (map bare_wanted rows)
settled_bare [] = refl
settled_bare (x ∷ rows) =
    ap (λ b. record { row = bare_row x.row; wanted = x.wanted && not b } ∷ map bare_wanted (settled rows)) (sym (starts_bare x.row.heads))
    ∙ ap (λ xs. record { row = bare_row x.row; wanted = x.wanted && not (starts_wild (map bare_head x.row.heads)) } ∷ xs) (settled_bare rows)

-- ---- taking or-patterns apart

module _ {T : Type 0} (others : List ℕ) (rows : List (SparseRow T)) (wanted : List Bool) (n : ℕ) (r : SparseRow T) (w : Bool) (here : slice_get rows n ≡ Some r) (flag : slice_index_or wanted n false ≡ w) where
  -- the row with this head in front
  abbrev in_front : MHead T → MRow T
  in_front h = record { heads = h ∷ heads_at r.heads others; arm = r.arm; guarded = r.guarded; chosen = r.chosen; caught = [] }

  flagged : (l : SparseLeaf T) → l.row ≡ n → is_leaf_wanted wanted false l ≡ w
  flagged l e = and_true (slice_index_or wanted l.row false) ∙ ap (λ k. slice_index_or wanted k false) e ∙ flag

  one_leaf : (l : SparseLeaf T) → l.row ≡ n → of_leaf wanted false rows (leaf_row others) l ≡ record { row = leaf_row others l r; wanted = w } ∷ []
  one_leaf l e = ap (λ o. map (λ x. record { row = leaf_row others l x; wanted = is_leaf_wanted wanted false l }) (option_to_list o)) (ap (slice_get rows) e ∙ here) ∙ ap (λ b. record { row = leaf_row others l r; wanted = b } ∷ []) (flagged l e)

  choices_apart : (h : MHead T) (cs : List (Choice T)) →
      wanted_leaves others wanted false rows (map (leaf_of n []) cs)
      ≡ map bare_wanted (put (in_front h) w (map (with_others (heads_at r.heads others)) (map (λ c. record { heads = Some c.pat ∷ []; chosen = c.chosen; binds = c.binds }) cs)))
  choices_apart h [] = refl
  choices_apart h (c ∷ cs) =
      let more = wanted_leaves others wanted false rows (map (leaf_of n []) cs) in
      ap (λ xs. xs ++ more) (one_leaf (leaf_of n [] c) refl)
      ∙ ap (λ x. record { row = x; wanted = w } ∷ more) (one_choice [] others rows n r here h c)
      ∙ ap (λ xs. bare_wanted (record { row = row_replaced [] (in_front h) (record { heads = Some c.pat ∷ heads_at r.heads others; chosen = c.chosen; binds = c.binds }); wanted = w }) ∷ xs) (choices_apart h cs)

  row_apart : (h : MHead T) → wanted_leaves others wanted false rows (spreading.apart n h) ≡ map bare_wanted (put (in_front h) w (replacements_at expand_head 0 (h ∷ heads_at r.heads others)))
  row_apart None =
      ap (λ xs. xs ++ []) (one_leaf (record { row = n; head = None; chosen = [] }) refl)
      ∙ ap (λ hs. record { row = record { heads = None ∷ hs; arm = r.arm; guarded = r.guarded; chosen = r.chosen ++ []; caught = [] }; wanted = w } ∷ []) (sym (bare-heads_at r.heads others))
  row_apart (Some p) = choices_apart (Some p) (choices_of p)

apart_from : {T : Type 0} (column : ℕ) (others : List ℕ) (rows : List (SparseRow T)) (wanted : List Bool) (n : ℕ) (more : List (SparseRow T)) (flags : List Bool) → length flags ≡ length more →
    ((i k : ℕ) → n + i ≡ k → slice_get rows k ≡ slice_get more i) → ((i k : ℕ) → n + i ≡ k → slice_index_or wanted k false ≡ slice_index_or flags i false) →
    wanted_leaves others wanted false rows (all_apart column n more) ≡ map bare_wanted (apart (wanted_views (column ∷ others) flags more))
apart_from column others rows wanted n [] flags e get flag = refl
apart_from column others rows wanted n (r ∷ more) [] e get flag = absurd (omega (arith, e))
apart_from column others rows wanted n (r ∷ more) (w ∷ flags) e get flag =
    let h = head_at r.heads column in
    let rest = apart (wanted_views (column ∷ others) flags more) in
    let one = put (row_view (column ∷ others) r) w (replacements_at expand_head 0 (h ∷ heads_at r.heads others)) in
    flat_map-append (of_leaf wanted false rows (leaf_row others)) (spreading.apart n h) (all_apart column (suc n) more)
    ∙ ap (λ xs. xs ++ wanted_leaves others wanted false rows (all_apart column (suc n) more)) (row_apart others rows wanted n r w (get zero n (omega arith)) (flag zero n (omega arith)) h)
    ∙ ap (λ xs. map bare_wanted one ++ xs) (apart_from column others rows wanted (suc n) more flags (omega (arith, e)) (λ i k e. get (suc i) k (omega (arith, e))) (λ i k e. flag (suc i) k (omega (arith, e))))
    ∙ sym (map-append bare_wanted one rest)

pub wanted_apart : {T : Type 0} (column : ℕ) (others : List ℕ) (wanted : List Bool) (rows : List (SparseRow T)) → length wanted ≡ length rows →
    map bare_wanted (apart (wanted_views (column ∷ others) wanted rows)) ≡ wanted_leaves others wanted false rows (all_apart column 0 rows)
wanted_apart column others wanted rows e =
    sym (apart_from column others rows wanted 0 rows wanted e (λ i k e. let same : k ≡ i = omega (arith, e) in ap (slice_get rows) same) (λ i k e. let same : k ≡ i = omega (arith, e) in ap (λ j. slice_index_or wanted j false) same))

-- ---- wildcards are looked for elsewhere

settle_leaf : {T : Type 0} (others : List ℕ) (wanted : List Bool) (rows : List (SparseRow T)) (l : SparseLeaf T) →
    settled (of_leaf wanted false rows (leaf_row others) l) ≡ of_leaf wanted true rows (leaf_row others) l
settle_leaf {T} others wanted rows l = go (slice_get rows l.row)
  where
    flag : ((slice_index_or wanted l.row false && true) && not (is_wild (bare_head l.head))) ≡ (slice_index_or wanted l.row false && not (is_wild l.head))
    flag = ap (λ b. b && not (is_wild (bare_head l.head))) (and_true (slice_index_or wanted l.row false)) ∙ ap (λ b. slice_index_or wanted l.row false && not b) (bare_wild l.head)

    go : (o : Option (SparseRow T)) → settled (map (λ r. record { row = leaf_row others l r; wanted = is_leaf_wanted wanted false l }) (option_to_list o)) ≡ map (λ r. record { row = leaf_row others l r; wanted = is_leaf_wanted wanted true l }) (option_to_list o)
    go None = refl
    go (Some r) = ap (λ b. record { row = leaf_row others l r; wanted = b } ∷ []) flag

settle_leaves : {T : Type 0} (others : List ℕ) (wanted : List Bool) (rows : List (SparseRow T)) (leaves : List (SparseLeaf T)) →
    settled (wanted_leaves others wanted false rows leaves) ≡ wanted_leaves others wanted true rows leaves
settle_leaves others wanted rows [] = refl
settle_leaves {T} others wanted rows (l ∷ leaves) =
    map-append (λ (x : WantedRow T). record { row = x.row; wanted = x.wanted && not (starts_wild x.row.heads) }) (of_leaf wanted false rows (leaf_row others) l) (wanted_leaves others wanted false rows leaves)
    ∙ ap (λ xs. xs ++ settled (wanted_leaves others wanted false rows leaves)) (settle_leaf others wanted rows l)
    ∙ ap (λ xs. of_leaf wanted true rows (leaf_row others) l ++ xs) (settle_leaves others wanted rows leaves)

pub wanted_settled : {T : Type 0} (others : List ℕ) (wanted : List Bool) (rows : List (SparseRow T)) (leaves : List (SparseLeaf T)) (xs : List (WantedRow T)) →
    map bare_wanted xs ≡ wanted_leaves others wanted false rows leaves → map bare_wanted (settled xs) ≡ wanted_leaves others wanted true rows leaves
wanted_settled others wanted rows leaves xs e = settled_bare xs ∙ ap settled e ∙ settle_leaves others wanted rows leaves

-- ---- entering a piece

-- the row of a leaf, by whether its head has the piece
special_row : {T : Type 0} (piece : MCtor) (n : ℕ) (h : MHead T) (b : Bool) → head_has piece h ≡ b → (m : MRow T) (w : Bool) (rest : List (MHead T)) →
    map bare_wanted (put m w (replacements_at (specialise_head piece n) 0 (bare_head h ∷ rest))) ≡ cond b (bare_of m w (m.chosen ++ []) (leaf_parts n h ++ rest) ∷ []) []
special_row piece n None true e m w rest = refl
special_row piece n None false e m w rest = cc
special_row piece n (Some (de_pat WildCtor t uid at subs binds)) true e m w rest = refl
special_row piece n (Some (de_pat WildCtor t uid at subs binds)) false e m w rest = cc
special_row piece n (Some (de_pat OrCtor t uid at subs binds)) true e m w rest = cc
special_row piece n (Some (de_pat OrCtor t uid at subs binds)) false e m w rest = refl
special_row piece n (Some (de_pat c t uid at subs binds)) true e m w rest = rw e refl
special_row piece n (Some (de_pat c t uid at subs binds)) false e m w rest = rw e refl

module _ {T : Type 0} (piece : MCtor) (column first count : ℕ) (others : List ℕ) (lacks : AreOthers column first others) (wanted : List Bool) (elsewhere : Bool) (rows : List (SparseRow T)) (below : AreBelow first rows) where
  abbrev special : List (WantedRow T) → List (WantedRow T)
  special xs = wanted_at (specialise_head piece count) [] 0 xs

  abbrev opened_of : SparseLeaf T → List (WantedRow T)
  opened_of l = of_leaf wanted elsewhere rows (λ l r. row_view (columns_from first count ++ others) (opened_row column first count l r)) l

  enter_leaf : (l : SparseLeaf T) (b : Bool) → head_has piece l.head ≡ b → (head_has piece l.head ≡ true → length (leaf_parts count l.head) ≡ count) →
      map bare_wanted (special (of_leaf wanted elsewhere rows (leaf_row others) l)) ≡ cond b (opened_of l) []
  enter_leaf l b has parts = go (slice_get rows l.row) (λ r e. at_get (λ x. AreHeadsBelow first x.heads) rows l.row r below e)
    where
      w : Bool
      w = is_leaf_wanted wanted elsewhere l

      none : (b : Bool) → ◌≡◌ {A = List (WantedRow T)} [] (cond b [] [])
      none true = refl
      none false = refl

      some : (b : Bool) → head_has piece l.head ≡ b → (r : SparseRow T) → AreHeadsBelow first r.heads →
          cond b (bare_of (leaf_row others l r) w ((r.chosen ++ l.chosen) ++ []) (leaf_parts count l.head ++ heads_at r.heads others) ∷ []) []
          ≡ cond b (record { row = row_view (columns_from first count ++ others) (opened_row column first count l r); wanted = w } ∷ []) []
      some false e r low = refl
      some true e r low =
          ap (λ ns. bare_of (leaf_row others l r) w ns (leaf_parts count l.head ++ heads_at r.heads others) ∷ []) (append-nil (r.chosen ++ l.chosen))
          ∙ ap (λ hs. record { row = record { heads = hs; arm = r.arm; guarded = r.guarded; chosen = r.chosen ++ l.chosen; caught = [] }; wanted = w } ∷ [])
          (sym (opened_heads [] piece column first count others lacks l r (parts e) low))

      go : (o : Option (SparseRow T)) → ((r : SparseRow T) → o ≡ Some r → AreHeadsBelow first r.heads) →
          map bare_wanted (special (map (λ r. record { row = leaf_row others l r; wanted = w }) (option_to_list o)))
          ≡ cond b (map (λ r. record { row = row_view (columns_from first count ++ others) (opened_row column first count l r); wanted = w }) (option_to_list o)) []
      go None low = none b
      go (Some r) low =
          ap (map bare_wanted) (append-nil (put (leaf_row others l r) w (replacements_at (specialise_head piece count) 0 (bare_head l.head ∷ heads_at r.heads others))))
          ∙ special_row piece count l.head b has (leaf_row others l r) w (heads_at r.heads others)
          ∙ some b has r (low r refl)

  enter_leaves : (leaves : List (SparseLeaf T)) → All (λ l. head_has piece l.head ≡ true → length (leaf_parts count l.head) ≡ count) leaves →
      map bare_wanted (special (wanted_leaves others wanted elsewhere rows leaves))
      ≡ wanted_opened (columns_from first count ++ others) column first count wanted elsewhere rows (filter (λ l. head_has piece l.head) leaves)
  enter_leaves [] parts = refl
  enter_leaves (l ∷ leaves) parts =
      let P = λ (x : SparseLeaf T). head_has piece x.head ≡ true → length (leaf_parts count x.head) ≡ count in
      let kept = filter (λ x. head_has piece x.head) leaves in
      ap (map bare_wanted) (flat_map-append (λ x. put x.row x.wanted (replacements_at (specialise_head piece count) 0 x.row.heads)) (of_leaf wanted elsewhere rows (leaf_row others) l) (wanted_leaves others wanted elsewhere rows leaves))
      ∙ map-append bare_wanted (special (of_leaf wanted elsewhere rows (leaf_row others) l)) (special (wanted_leaves others wanted elsewhere rows leaves))
      ∙ ap (λ xs. xs ++ map bare_wanted (special (wanted_leaves others wanted elsewhere rows leaves))) (enter_leaf l (head_has piece l.head) refl (All-head P l leaves parts))
      ∙ ap (λ xs. cond (head_has piece l.head) (opened_of l) [] ++ xs) (enter_leaves leaves (All-tail P l leaves parts))
      ∙ join (head_has piece l.head) l kept
    where
      join : (b : Bool) (l : SparseLeaf T) (kept : List (SparseLeaf T)) →
          cond b (opened_of l) [] ++ flat_map opened_of kept ≡ flat_map opened_of (cond b (l ∷ kept) kept)
      join true l kept = refl
      join false l kept = refl

  pub wanted_enters : (leaves : List (SparseLeaf T)) (xs : List (WantedRow T)) → map bare_wanted xs ≡ wanted_leaves others wanted elsewhere rows leaves →
      All (λ l. head_has piece l.head ≡ true → length (leaf_parts count l.head) ≡ count) leaves →
      map bare_wanted (special xs) ≡ wanted_opened (columns_from first count ++ others) column first count wanted elsewhere rows (filter (λ l. head_has piece l.head) leaves)
  wanted_enters leaves xs e parts =
      step_bare (specialise_head piece count) (same_special piece count) xs ∙ ap (λ ys. map bare_wanted (special ys)) e ∙ enter_leaves leaves parts

-- ---- without the column

default_row : {T : Type 0} (h : MHead T) (b : Bool) → is_wild h ≡ b → (m : MRow T) (w : Bool) (rest : List (MHead T)) →
    map bare_wanted (put m w (replacements_at default_head 0 (bare_head h ∷ rest))) ≡ cond b (bare_of m w (m.chosen ++ []) rest ∷ []) []
default_row None true e m w rest = refl
default_row None false e m w rest = cc
default_row (Some (de_pat WildCtor t uid at subs binds)) true e m w rest = refl
default_row (Some (de_pat WildCtor t uid at subs binds)) false e m w rest = cc
default_row (Some (de_pat c t uid at subs binds)) true e m w rest = cc
default_row (Some (de_pat c t uid at subs binds)) false e m w rest = refl

module _ {T : Type 0} (column : ℕ) (others : List ℕ) (lacks : Lacks column others) (wanted : List Bool) (rows : List (SparseRow T)) where
  abbrev default : List (WantedRow T) → List (WantedRow T)
  default xs = wanted_at default_head [] 0 xs

  abbrev dropped_of : SparseLeaf T → List (WantedRow T)
  dropped_of l = of_leaf wanted false rows (λ l r. row_view others (dropped_row column l r)) l

  drop_leaf : (l : SparseLeaf T) (b : Bool) → is_wild l.head ≡ b →
      map bare_wanted (default (of_leaf wanted false rows (leaf_row others) l)) ≡ cond b (dropped_of l) []
  drop_leaf l b wild = go (slice_get rows l.row)
    where
      w : Bool
      w = is_leaf_wanted wanted false l

      none : (b : Bool) → ◌≡◌ {A = List (WantedRow T)} [] (cond b [] [])
      none true = refl
      none false = refl

      some : (b : Bool) (r : SparseRow T) → cond b (bare_of (leaf_row others l r) w ((r.chosen ++ l.chosen) ++ []) (heads_at r.heads others) ∷ []) [] ≡ cond b (record { row = row_view others (dropped_row column l r); wanted = w } ∷ []) []
      some false r = refl
      some true r =
          ap (λ ns. bare_of (leaf_row others l r) w ns (heads_at r.heads others) ∷ []) (append-nil (r.chosen ++ l.chosen))
          ∙ ap (λ hs. record { row = record { heads = hs; arm = r.arm; guarded = r.guarded; chosen = r.chosen ++ l.chosen; caught = [] }; wanted = w } ∷ []) (sym (left_heads [] column others lacks r))

      go : (o : Option (SparseRow T)) →
          map bare_wanted (default (map (λ r. record { row = leaf_row others l r; wanted = w }) (option_to_list o)))
          ≡ cond b (map (λ r. record { row = row_view others (dropped_row column l r); wanted = w }) (option_to_list o)) []
      go None = none b
      go (Some r) =
          ap (map bare_wanted) (append-nil (put (leaf_row others l r) w (replacements_at default_head 0 (bare_head l.head ∷ heads_at r.heads others))))
          ∙ default_row l.head b wild (leaf_row others l r) w (heads_at r.heads others)
          ∙ some b r

  drop_leaves : (leaves : List (SparseLeaf T)) → map bare_wanted (default (wanted_leaves others wanted false rows leaves)) ≡ wanted_dropped others column wanted rows (filter (λ l. is_wild l.head) leaves)
  drop_leaves [] = refl
  drop_leaves (l ∷ leaves) =
      let kept = filter (λ x. is_wild x.head) leaves in
      ap (map bare_wanted) (flat_map-append (λ x. put x.row x.wanted (replacements_at default_head 0 x.row.heads)) (of_leaf wanted false rows (leaf_row others) l) (wanted_leaves others wanted false rows leaves))
      ∙ map-append bare_wanted (default (of_leaf wanted false rows (leaf_row others) l)) (default (wanted_leaves others wanted false rows leaves))
      ∙ ap (λ xs. xs ++ map bare_wanted (default (wanted_leaves others wanted false rows leaves))) (drop_leaf l (is_wild l.head) refl)
      ∙ ap (λ xs. cond (is_wild l.head) (dropped_of l) [] ++ xs) (drop_leaves leaves)
      ∙ join (is_wild l.head) l kept
    where
      join : (b : Bool) (l : SparseLeaf T) (kept : List (SparseLeaf T)) →
          cond b (dropped_of l) [] ++ flat_map dropped_of kept ≡ flat_map dropped_of (cond b (l ∷ kept) kept)
      join true l kept = refl
      join false l kept = refl

  pub wanted_left : (leaves : List (SparseLeaf T)) (xs : List (WantedRow T)) → map bare_wanted xs ≡ wanted_leaves others wanted false rows leaves →
      map bare_wanted (default xs) ≡ wanted_dropped others column wanted rows (filter (λ l. is_wild l.head) leaves)
  wanted_left leaves xs e = step_bare default_head same_default xs ∙ ap (λ ys. map bare_wanted (default ys)) e ∙ drop_leaves leaves
