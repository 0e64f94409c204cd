-- The rows of a piece, and those that are left over, are the rows of the definitions without names.
use Rattle.std.proofs.Common.{◌≡◌, ℕ, Bool, true, false, not, ◌&&◌, List, [], ◌∷◌, ◌++◌, map, filter, length, cond, Option, Some, None, refl, ap, sym, ◌∙◌, slice_get}
use Rattle.std.proofs.lemmas.List.{map-append}
use Rattle.std.proofs.lemmas.Grind.{flat_map-append}
use Rattle.std.proofs.lemmas.List.Elements.{All-nil, All-cons, All-head, All-tail}
use Rattle.std.specs.List.{All}
use Rattle.std.specs.Option.{option_to_list}
use Rattle.match_model.specs.Constructors.{MCtor, WildCtor, OrCtor, has_piece}
use Rattle.match_model.specs.ArenaPatterns.{de_pat, de_pats_list}
use Rattle.match_model.specs.Rows.{Head, is_wild, starts_wild, heads_of}
use Rattle.match_model.specs.Matrices.{MRow, row_with, first_binds, bind_at, default_rows, specialised_rows}
use Rattle.match_model.specs.Steps.{default_head, specialise_head, replacements_at, row_replaced, with_others}
use Rattle.match_model.proofs.Basics.{untrue}
use Rattle.pattern_matrix.specs.Sparse.{SparseLeaf, bare_head, bare_row, heads_at, row_views, leaf_row, leaf_parts, head_has, columns_from, AreHeadsBelow, AreOthers, Lacks, IsLeafOf}
use Rattle.pattern_matrix.specs.Opening.{opened_row, dropped_row}
use Rattle.pattern_matrix.proofs.Apart.{bare-bare}
use Rattle.pattern_matrix.proofs.Opened.{dropped_views, opened_views}
use Rattle.pattern_matrix.specs.Counting.{WantedRow, wanted_at}
use Rattle.usefulness.specs.Frames.{SparseAsked, asked_view, asked_views}
use Rattle.usefulness.specs.Children.{bare_wanted, bare_rows, dropped_at, dropped, opened_at, opened, leaf_wanted, leaves_wanted, settled_if}

-- the rows with a flag
abbrev flags : {T : Type 0} → (wanted : Bool) → List (MRow T) → List (WantedRow T)
flags w rows = map (λ r. record { row = r; wanted = w }) rows

bare_flags : {T : Type 0} (w : Bool) (rows : List (MRow T)) → flags w (map bare_row rows) ≡ bare_rows (flags w rows)
bare_flags w [] = refl
bare_flags w (r ∷ rows) = ap (λ ys. record { row = bare_row r; wanted = w } ∷ ys) (bare_flags w rows)

-- one row that is specialised, or left over
special_flags : {T : Type 0} (piece : MCtor) (n : ℕ) (w : Bool) (r : MRow T) (h : Head T) (hs : List (Head T)) → r.heads ≡ h ∷ hs →
    wanted_at (specialise_head piece n) [] 0 (record { row = r; wanted = w } ∷ []) ≡ flags w (specialised_rows [] piece n (r ∷ []))
special_flags piece n w r None hs e = rw e refl
special_flags {T} piece n w r (Some (de_pat c t uid at subs binds)) hs e = rw e (go (has_piece c piece))
  where
    go : (b : Bool) →
        map (λ y. record { row = row_replaced [] r y; wanted = w }) (map (with_others hs) (cond b (record { heads = heads_of c (map Some (de_pats_list subs)) n; chosen = []; binds = binds } ∷ []) [])) ++ []
        ≡ flags w (map (λ heads. row_with r heads [] (first_binds {T = T} [] (Some (de_pat c t uid at subs binds) ∷ hs))) (cond b ((heads_of c (map Some (de_pats_list subs)) n ++ hs) ∷ []) []) ++ [])
    go true = refl
    go false = refl

default_flags : {T : Type 0} (w : Bool) (r : MRow T) (h : Head T) (hs : List (Head T)) → r.heads ≡ h ∷ hs →
    wanted_at default_head [] 0 (record { row = r; wanted = w } ∷ []) ≡ flags w (default_rows [] (r ∷ []))
default_flags w r None hs e = rw e refl
default_flags {T} w r (Some (de_pat c t uid at subs binds)) hs e = rw e (go (is_wild {T = T} (Some (de_pat c t uid at subs binds))))
  where
    go : (b : Bool) →
        map (λ y. record { row = row_replaced [] r y; wanted = w }) (map (with_others hs) (cond b (record { heads = []; chosen = []; binds = binds } ∷ []) [])) ++ []
        ≡ flags w (cond b (row_with r hs [] (map (bind_at []) binds) ∷ []) [] ++ [])
    go true = refl
    go false = refl

pub wild_bare : {T : Type 0} (h : Head T) → is_wild (bare_head h) ≡ is_wild h
wild_bare None = refl
wild_bare (Some (de_pat WildCtor t uid at subs binds)) = refl
wild_bare (Some (de_pat _ t uid at subs binds)) = refl

module _ {T : Type 0} (column : ℕ) (others : List ℕ) (lacks : Lacks column others) where
  -- the leaf with number 0, of one row
  abbrev lone : SparseLeaf T → SparseLeaf T
  lone l = record { row = 0; head = l.head; chosen = l.chosen }

  dropped_one : (l : SparseLeaf T) (x : SparseAsked T) →
      asked_views others (cond (is_wild l.head) (record { row = dropped_row column l x.row; wanted = x.wanted } ∷ []) [])
      ≡ bare_rows (wanted_at default_head [] 0 (record { row = leaf_row others l x.row; wanted = x.wanted } ∷ []))
  dropped_one l x =
      flagged (is_wild l.head)
      ∙ ap (flags x.wanted) (dropped_views [] column others lacks (x.row ∷ []) (lone l ∷ []))
      ∙ bare_flags x.wanted (default_rows [] (leaf_row others l x.row ∷ []))
      ∙ ap bare_rows (sym (default_flags x.wanted (leaf_row others l x.row) (bare_head l.head) (heads_at x.row.heads others) refl))
    where
      flagged : (b : Bool) →
          asked_views others (cond b (record { row = dropped_row column l x.row; wanted = x.wanted } ∷ []) []) ≡ flags x.wanted (row_views others (cond b (dropped_row column l x.row ∷ []) [] ++ []))
      flagged true = refl
      flagged false = refl

  dropped_each : (l : SparseLeaf T) (o : Option (SparseAsked T)) →
      asked_views others (cond (is_wild l.head) (map (λ x. record { row = dropped_row column l x.row; wanted = x.wanted }) (option_to_list o)) [])
      ≡ bare_rows (wanted_at default_head [] 0 (map (λ x. record { row = leaf_row others l x.row; wanted = x.wanted }) (option_to_list o)))
  dropped_each l None = none (is_wild l.head)
    where
      none : (b : Bool) → asked_views {T = T} others (cond b [] []) ≡ []
      none true = refl
      none false = refl
  dropped_each l (Some x) = dropped_one l x

  pub dropped_is : (xs : List (SparseAsked T)) (leaves : List (SparseLeaf T)) →
      asked_views others (dropped column xs leaves) ≡ bare_rows (wanted_at default_head [] 0 (leaves_wanted others xs leaves))
  dropped_is xs [] = refl
  dropped_is xs (l ∷ leaves) =
      let step = wanted_at default_head [] 0 in
      map-append (asked_view others) (dropped_at column xs l) (dropped column xs leaves)
      ∙ ap (λ ys. ys ++ asked_views others (dropped column xs leaves)) (dropped_each l (slice_get xs l.row))
      ∙ ap (λ ys. bare_rows (step (leaf_wanted others xs l)) ++ ys) (dropped_is xs leaves)
      ∙ sym (map-append bare_wanted (step (leaf_wanted others xs l)) (step (leaves_wanted others xs leaves)))
      ∙ ap bare_rows (sym (flat_map-append (λ x. map (λ y. record { row = row_replaced [] x.row y; wanted = x.wanted }) (replacements_at default_head 0 x.row.heads)) (leaf_wanted others xs l) (leaves_wanted others xs leaves)))

module _ {T : Type 0} (piece : MCtor) (column first count : ℕ) (others : List ℕ) (apart : AreOthers column first others) (missing : Bool) where
  abbrev step : List (WantedRow T) → List (WantedRow T)
  step ys = wanted_at (specialise_head piece count) [] 0 (settled_if missing ys)

  opened_one : (l : SparseLeaf T) (x : SparseAsked T) → AreHeadsBelow first x.row.heads → IsLeafOf piece count l →
      asked_views (columns_from first count ++ others) (record { row = opened_row column first count l x.row; wanted = x.wanted && not (missing && is_wild l.head) } ∷ [])
      ≡ bare_rows (step (record { row = leaf_row others l x.row; wanted = x.wanted } ∷ []))
  opened_one l x below is =
      let w = x.wanted && not (missing && is_wild l.head) in
      let lone : SparseLeaf T = record { row = 0; head = l.head; chosen = l.chosen } in
      ap (flags w) (opened_views [] piece column first count others apart (x.row ∷ []) (lone ∷ []) (All-cons (λ r. AreHeadsBelow first r.heads) x.row [] below (All-nil (λ r. AreHeadsBelow first r.heads))) (All-cons (IsLeafOf piece count) lone [] (record { has = is.has; parts = is.parts }) (All-nil (IsLeafOf piece count))))
      ∙ bare_flags w (specialised_rows [] piece count (leaf_row others l x.row ∷ []))
      ∙ ap bare_rows (sym (special_flags piece count w (leaf_row others l x.row) (bare_head l.head) (heads_at x.row.heads others) refl))
      ∙ ap (λ b. bare_rows (wanted_at (specialise_head piece count) [] 0 (record { row = leaf_row others l x.row; wanted = x.wanted && not (missing && b) } ∷ []))) (sym (wild_bare l.head))

  opened_each : (l : SparseLeaf T) (o : Option (SparseAsked T)) → ((x : SparseAsked T) → o ≡ Some x → AreHeadsBelow first x.row.heads) → IsLeafOf piece count l →
      asked_views (columns_from first count ++ others) (map (λ x. record { row = opened_row column first count l x.row; wanted = x.wanted && not (missing && is_wild l.head) }) (option_to_list o))
      ≡ bare_rows (step (map (λ x. record { row = leaf_row others l x.row; wanted = x.wanted }) (option_to_list o)))
  opened_each l None below is = refl
  opened_each l (Some x) below is = opened_one l x (below x refl) is

  -- a leaf that has nothing of the piece
  none_opened : (l : SparseLeaf T) (o : Option (SparseAsked T)) → head_has piece l.head ≡ false →
      step (map (λ x. record { row = leaf_row others l x.row; wanted = x.wanted }) (option_to_list o)) ≡ []
  none_opened l None e = refl
  none_opened l (Some x) e = go l.head e
    where
      go : (h : Head T) → head_has piece h ≡ false →
          step (record { row = record (leaf_row others l x.row) { heads = bare_head h ∷ heads_at x.row.heads others }; wanted = x.wanted } ∷ []) ≡ []
      go None e = untrue (sym e)
      go (Some (de_pat WildCtor t uid at subs binds)) e = untrue (sym e)
      go (Some (de_pat OrCtor t uid at subs binds)) e = refl
      go (Some (de_pat _ t uid at subs binds)) e = rw e refl

  step-append : (xs ys : List (WantedRow T)) → step (xs ++ ys) ≡ step xs ++ step ys
  step-append xs ys =
      ap (wanted_at (specialise_head piece count) [] 0) (map-append (λ x. record { row = x.row; wanted = x.wanted && not (missing && starts_wild x.row.heads) }) xs ys)
      ∙ flat_map-append (λ x. map (λ y. record { row = row_replaced [] x.row y; wanted = x.wanted }) (replacements_at (specialise_head piece count) 0 x.row.heads)) (settled_if missing xs) (settled_if missing ys)

  joined : (xs : List (SparseAsked T)) (l : SparseLeaf T) (leaves : List (SparseLeaf T)) →
      bare_rows (step (leaf_wanted others xs l)) ++ bare_rows (step (leaves_wanted others xs leaves)) ≡ bare_rows (step (leaves_wanted others xs (l ∷ leaves)))
  joined xs l leaves =
      sym (map-append bare_wanted (step (leaf_wanted others xs l)) (step (leaves_wanted others xs leaves)))
      ∙ ap bare_rows (sym (step-append (leaf_wanted others xs l) (leaves_wanted others xs leaves)))

  -- one leaf more, which may have the piece
  next_leaf : (xs : List (SparseAsked T)) (l : SparseLeaf T) (leaves : List (SparseLeaf T)) (b : Bool) → head_has piece l.head ≡ b →
      ((x : SparseAsked T) → slice_get xs l.row ≡ Some x → AreHeadsBelow first x.row.heads) → (head_has piece l.head ≡ true → length (leaf_parts count l.head) ≡ count) →
      asked_views (columns_from first count ++ others) (opened missing column first count xs (filter (λ l. head_has piece l.head) leaves)) ≡ bare_rows (step (leaves_wanted others xs leaves)) →
      asked_views (columns_from first count ++ others) (opened missing column first count xs (cond b (l ∷ filter (λ l. head_has piece l.head) leaves) (filter (λ l. head_has piece l.head) leaves))) ≡ bare_rows (step (leaves_wanted others xs (l ∷ leaves)))
  next_leaf xs l leaves true e below long rest =
      let had = filter (λ l. head_has piece l.head) leaves in
      map-append (asked_view (columns_from first count ++ others)) (opened_at missing column first count xs l) (opened missing column first count xs had)
      ∙ ap (λ ys. ys ++ asked_views (columns_from first count ++ others) (opened missing column first count xs had)) (opened_each l (slice_get xs l.row) below (record { has = e; parts = long e }))
      ∙ ap (λ ys. bare_rows (step (leaf_wanted others xs l)) ++ ys) rest
      ∙ joined xs l leaves
  next_leaf xs l leaves false e below long rest =
      rest
      ∙ ap (λ ys. bare_rows ys ++ bare_rows (step (leaves_wanted others xs leaves))) (sym (none_opened l (slice_get xs l.row) e))
      ∙ joined xs l leaves

  pub opened_is : (xs : List (SparseAsked T)) (leaves : List (SparseLeaf T)) → ((k : ℕ) (x : SparseAsked T) → slice_get xs k ≡ Some x → AreHeadsBelow first x.row.heads) →
      All (λ l. head_has piece l.head ≡ true → length (leaf_parts count l.head) ≡ count) leaves →
      asked_views (columns_from first count ++ others) (opened missing column first count xs (filter (λ l. head_has piece l.head) leaves)) ≡ bare_rows (step (leaves_wanted others xs leaves))
  opened_is xs [] below parts = refl
  opened_is xs (l ∷ leaves) below parts =
      next_leaf xs l leaves (head_has piece l.head) refl (below l.row)
      (All-head (λ l. head_has piece l.head ≡ true → length (leaf_parts count l.head) ≡ count) l leaves parts)
      (opened_is xs leaves below (All-tail (λ l. head_has piece l.head ≡ true → length (leaf_parts count l.head) ≡ count) l leaves parts))

-- without names twice is without names
pub bare_twice : {T : Type 0} (hs : List (Head T)) → map bare_head (map bare_head hs) ≡ map bare_head hs
bare_twice [] = refl
bare_twice (h ∷ hs) = ap (λ x. x ∷ map bare_head (map bare_head hs)) (bare-bare h) ∙ ap (λ ys. bare_head h ∷ ys) (bare_twice hs)

pub bare_behind : {T : Type 0} (ps hs : List (Head T)) → map bare_head (ps ++ map bare_head hs) ≡ map bare_head (ps ++ hs)
bare_behind ps hs =
    map-append bare_head ps (map bare_head hs) ∙ ap (λ ys. map bare_head ps ++ ys) (bare_twice hs) ∙ sym (map-append bare_head ps hs)
