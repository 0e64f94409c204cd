-- A step of a matrix at any column: expand the or-patterns there, specialise by a piece, or go on with the default rows
-- (Maranget 2008). Each step is told by what stands in place of the one head.
use Rattle.std.specs.Prelude.{ℕ, zero, suc, List, [], ◌∷◌, ◌++◌, map, Some, None, cond}
use Rattle.std.specs.List.{flat_map}
use Rattle.match_model.specs.Constructors.{MCtor, has_piece}
use Rattle.match_model.specs.ArenaPatterns.{MBound, de_pat, de_pats_list}
use Rattle.match_model.specs.Places.{MStep}
use Rattle.match_model.specs.Rows.{Head, is_wild, choices_of, wildcards, heads_of}
use Rattle.match_model.specs.Matrices.{MRow, row_with, bind_at}

-- what stands in place of a head: heads for the columns that come instead, the uids of the alternatives that were chosen,
-- and the names that were caught
pub record Replacement (T : Type 0) : Type 0 where
  pub heads : List (Head T)
  pub chosen : List ℕ
  pub binds : List MBound

-- the names that the head binds by itself
abbrev pub own_binds : {T : Type 0} → Head T → List MBound
own_binds None = []
own_binds (Some (de_pat c t uid at subs binds)) = binds

-- expanding: each alternative, none of which is an or-pattern
abbrev pub expand_head : {T : Type 0} → Head T → List (Replacement T)
expand_head None = record { heads = None ∷ []; chosen = []; binds = [] } ∷ []
expand_head (Some p) =
    map (λ c. record { heads = Some c.pat ∷ []; chosen = c.chosen; binds = c.binds }) (choices_of p)

-- specialising by a piece of so many parts: the heads of the parts, where the head has all of the piece
abbrev pub specialise_head : {T : Type 0} → (piece : MCtor) → (count : ℕ) → Head T → List (Replacement T)
specialise_head piece n None = record { heads = wildcards n; chosen = []; binds = [] } ∷ []
specialise_head piece n (Some (de_pat c t uid at subs binds)) =
    cond (has_piece c piece)
    (record { heads = heads_of c (map Some (de_pats_list subs)) n; chosen = []; binds = binds } ∷ [])
    []

-- the default: nothing, where the head is a wildcard or a name
abbrev pub default_head : {T : Type 0} → Head T → List (Replacement T)
default_head h = cond (is_wild h) (record { heads = []; chosen = []; binds = own_binds h } ∷ []) []

-- the replacement with these heads behind its own
abbrev pub with_others : {T : Type 0} → List (Head T) → Replacement T → Replacement T
with_others others y = record y { heads = y.heads ++ others }

-- the replacement with one head in front
abbrev pub with_head : {T : Type 0} → Head T → Replacement T → Replacement T
with_head h y = record y { heads = h ∷ y.heads }

-- what stands in place of all heads of a row when that of column `i` is replaced
abbrev pub replacements_at : {T : Type 0} → (Head T → List (Replacement T)) → (i : ℕ) → List (Head T) →
    List (Replacement T)
replacements_at f i [] = []
replacements_at f zero (h ∷ hs) = map (with_others hs) (f h)
replacements_at f (suc i) (h ∷ hs) = map (with_head h) (replacements_at f i hs)

-- the list with these in place of number `i`
abbrev pub replaced_at : {A : Type 0} → (i : ℕ) → List A → (new : List A) → List A
replaced_at i [] new = []
replaced_at zero (x ∷ xs) new = new ++ xs
replaced_at (suc i) (x ∷ xs) new = x ∷ replaced_at i xs new

-- the row with this in place of its heads; what is caught has the place
abbrev pub row_replaced : {T : Type 0} → List MStep → MRow T → Replacement T → MRow T
row_replaced place r y = row_with r y.heads y.chosen (map (bind_at place) y.binds)

-- the rows when the heads of column `i`, which has this place, are replaced
abbrev pub rows_at : {T : Type 0} → (Head T → List (Replacement T)) → List MStep → (i : ℕ) → List (MRow T) →
    List (MRow T)
rows_at f place i rows = flat_map (λ r. map (row_replaced place r) (replacements_at f i r.heads)) rows
