-- Rows taken apart at one column.
use Rattle.std.proofs.Common.{◌≡◌, ℕ, zero, suc, ◌+◌, ◌<◌, ◌≤◌, subst, Bool, List, [], ◌∷◌, ◌++◌, map, length, cond, Some, None, refl, ap, sym, ◌∙◌, true, false, arith, append-nil, slice_get, nat_eq}
use Rattle.std.proofs.lemmas.List.{map-append, get_or-map, length-map}
use Rattle.std.proofs.lemmas.Grind.{flat_map-append}
use Rattle.std.proofs.lemmas.List.Elements.{All-nil, All-cons, All-append, All-map}
use Rattle.std.specs.List.{All}
use Rattle.match_model.specs.ArenaPatterns.{MDePat, de_pat}
use Rattle.match_model.specs.Places.{MStep}
use Rattle.match_model.specs.Rows.{Head as MHead, Choice, choices_of, is_wild}
use Rattle.match_model.specs.Constructors.{WildCtor}
use Rattle.match_model.specs.Matrices.{MRow, row_with, expand_first, expand_rows, bind_at}
use Rattle.pattern_arena.specs.declared.pattern.DePat.{DePat}
use Rattle.pattern_arena.specs.Trees.{tree}
use Rattle.pattern_matrix.specs.Sparse.{SparseRow, SparseLeaf, bare_head, bare_row, head_at, heads_at, row_view, row_views, leaf_row, leaf_view, leaf_views}
use Rattle.pattern_matrix.specs.Spreading.{leaf_of, spread, apart, all_apart}

-- a wildcard has one choice, itself
wild_choices : {T : Type 0} (p : MDePat T) (row : ℕ) → is_wild (Some p) ≡ true → spread row [] p ≡ record { row = row; head = None; chosen = [] } ∷ []
wild_choices (de_pat WildCtor t uid at subs binds) row h = refl
wild_choices (de_pat _ t uid at subs binds) row h = cc

-- a row without a pattern at the column
pub apart-none : {T : Type 0} (row : ℕ) (h : MHead T) → None ≡ h → apart row h ≡ record { row = row; head = None; chosen = [] } ∷ []
apart-none row h e = rw (← e) refl

-- a row with a pattern there, which may be a wildcard
by_wild : {T : Type 0} (row : ℕ) (q : MDePat T) (b : Bool) → is_wild (Some q) ≡ b → apart row (cond b None (Some q)) ≡ spread row [] q
by_wild row q true e = sym (wild_choices q row e)
by_wild row q false e = refl

pub apart-some : {T : Type 0} (row : ℕ) (p : DePat T) (h : MHead T) → bare_head (Some (tree p)) ≡ h → apart row h ≡ spread row [] (tree p)
apart-some row p h e = rw (← e) (by_wild row (tree p) (is_wild (Some (tree p))) refl)

pub ruleset aparts = (apart-none, apart-some)

-- a bare head has no names that a wildcard binds
bare_by : {T : Type 0} (p : MDePat T) (b : Bool) → is_wild (Some p) ≡ b → bare_head (cond b None (Some p)) ≡ cond b None (Some p)
bare_by p true e = refl
bare_by p false e = rw e refl

pub bare-bare : {T : Type 0} (h : MHead T) → bare_head (bare_head h) ≡ bare_head h
bare-bare None = refl
bare-bare (Some p) = bare_by p (is_wild (Some p)) refl

-- a listed head is bare
found_bare : {T : Type 0} (b : Bool) (p : MDePat T) (h : MHead T) → bare_head h ≡ h → bare_head (cond b (bare_head (Some p)) h) ≡ cond b (bare_head (Some p)) h
found_bare true p h e = bare-bare (Some p)
found_bare false p h e = e

pub bare-head_at : {T : Type 0} (heads : List (ℕ × MDePat T)) (column : ℕ) → bare_head (head_at heads column) ≡ head_at heads column
bare-head_at [] column = refl
bare-head_at (h ∷ heads) column = found_bare (nat_eq h.0 column) h.1 (head_at heads column) (bare-head_at heads column)

pub bare-heads_at : {T : Type 0} (heads : List (ℕ × MDePat T)) (columns : List ℕ) → map bare_head (heads_at heads columns) ≡ heads_at heads columns
bare-heads_at heads [] = refl
bare-heads_at heads (c ∷ columns) = ap (λ h. h ∷ map bare_head (heads_at heads columns)) (bare-head_at heads c) ∙ ap (λ hs. head_at heads c ∷ hs) (bare-heads_at heads columns)

module _ {T : Type 0} (place : List MStep) (others : List ℕ) (rows : List (SparseRow T)) (n : ℕ) (r : SparseRow T) (here : slice_get rows n ≡ Some r) where
  -- the row with this head in front
  abbrev fronted : MHead T → MRow T
  fronted h = record { heads = h ∷ heads_at r.heads others; arm = r.arm; guarded = r.guarded; chosen = r.chosen; caught = [] }

  -- the row of a choice
  abbrev chosen_row : MHead T → Choice T → MRow T
  chosen_row h c = row_with (fronted h) (Some c.pat ∷ heads_at r.heads others) c.chosen (map (bind_at place) c.binds)

  pub one_choice : (h : MHead T) (c : Choice T) → leaf_row others (leaf_of n [] c) r ≡ bare_row (chosen_row h c)
  one_choice h c = rw (bare-bare (Some c.pat), bare-heads_at r.heads others) refl

  each_choice : (h : MHead T) (cs : List (Choice T)) → leaf_views others rows (map (leaf_of n []) cs) ≡ map bare_row (map (chosen_row h) cs)
  each_choice h [] = refl
  each_choice h (c ∷ cs) =
      rw here (ap (λ x. x ∷ leaf_views others rows (map (leaf_of n []) cs)) (one_choice h c) ∙ ap (λ xs. bare_row (chosen_row h c) ∷ xs) (each_choice h cs))

  -- the leaves of a row are its expanded rows
  row_apart : (h : MHead T) → leaf_views others rows (apart n h) ≡ map bare_row (expand_first place (fronted h) (h ∷ heads_at r.heads others))
  row_apart None = rw (here, append-nil r.chosen, bare-heads_at r.heads others) refl
  row_apart (Some p) = each_choice (Some p) (choices_of p)

leaf_views-append : {T : Type 0} (others : List ℕ) (rows : List (SparseRow T)) (ls ms : List (SparseLeaf T)) →
    leaf_views others rows (ls ++ ms) ≡ leaf_views others rows ls ++ leaf_views others rows ms
leaf_views-append others rows ls ms = flat_map-append (leaf_view others rows) ls ms

-- the leaves of rows are the expanded rows, but for the names that are caught
apart_from : {T : Type 0} (place : List MStep) (column : ℕ) (others : List ℕ) (rows : List (SparseRow T)) (n : ℕ) (more : List (SparseRow T)) →
    ((i k : ℕ) → n + i ≡ k → slice_get rows k ≡ slice_get more i) →
    leaf_views others rows (all_apart column n more) ≡ map bare_row (expand_rows place (row_views (column ∷ others) more))
apart_from place column others rows n [] get = refl
apart_from place column others rows n (r ∷ more) get =
    leaf_views-append others rows (apart n (head_at r.heads column)) (all_apart column (suc n) more)
    ∙ ap (λ xs. xs ++ leaf_views others rows (all_apart column (suc n) more)) (row_apart place others rows n r (get zero n (omega arith)) (head_at r.heads column))
    ∙ ap (λ xs. map bare_row (expand_first place (row_view (column ∷ others) r) (row_view (column ∷ others) r).heads) ++ xs)
    (apart_from place column others rows (suc n) more (λ i k e. get (suc i) k (omega arith)))
    ∙ sym (map-append bare_row (expand_first place (row_view (column ∷ others) r) (row_view (column ∷ others) r).heads) (expand_rows place (row_views (column ∷ others) more)))

pub apart_views : {T : Type 0} (place : List MStep) (column : ℕ) (others : List ℕ) (rows : List (SparseRow T)) →
    leaf_views others rows (all_apart column 0 rows) ≡ map bare_row (expand_rows place (row_views (column ∷ others) rows))
apart_views place column others rows = apart_from place column others rows 0 rows (λ i k e. let same : k ≡ i = omega arith in ap (slice_get rows) same)

-- the leaves have numbers of rows
apart_within : {T : Type 0} (n bound : ℕ) (h : MHead T) → n < bound → All (λ l. l.row < bound) (apart n h)
apart_within n bound None h = All-cons (λ l. l.row < bound) (record { row = n; head = None; chosen = [] }) [] h (All-nil (λ l. l.row < bound))
apart_within n bound (Some p) h = All-map (λ l. l.row < bound) (leaf_of n []) (choices_of p) (λ k d lt. h)

pub all_within : {T : Type 0} (column n bound : ℕ) (rows : List (SparseRow T)) → n + length rows ≤ bound → All (λ l. l.row < bound) (all_apart column n rows)
all_within column n bound [] h = All-nil (λ l. l.row < bound)
all_within column n bound (r ∷ rows) h =
    All-append (λ l. l.row < bound) (apart n (head_at r.heads column)) (all_apart column (suc n) rows) (apart_within n bound (head_at r.heads column) (omega arith)) (all_within column (suc n) bound rows (omega arith))

-- what holds of each after a map holds of each before it
pub All-unmap : {X Y : Type 0} (P : Y → Type 0) (f : X → Y) (xs : List X) → All P (map f xs) → All (λ x. P (f x)) xs
All-unmap P f xs h = λ k d lt. let long = length-map xs f in subst P (get_or-map f xs k d (f d) lt) (h k (f d) (omega arith))
