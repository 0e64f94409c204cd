-- The steps of the first column are the steps at column 0, for rows that have a head there.
use Rattle.std.proofs.Common.{◌≡◌, ℕ, Bool, true, false, List, [], ◌∷◌, ◌++◌, map, Some, None, cond, refl, sym, ap, ◌∙◌}
use Rattle.std.proofs.lemmas.List.{append-nil}
use Rattle.match_model.specs.Constructors.{MCtor, has_piece}
use Rattle.match_model.specs.ArenaPatterns.{de_pat, de_pats_list}
use Rattle.match_model.specs.Places.{MStep}
use Rattle.match_model.specs.Rows.{Head, Choice, is_wild, choices_of, row_rest, starts_wild, specialised_heads, heads_of}
use Rattle.match_model.specs.Matrices.{MRow, row_with, bind_at, head_binds, first_binds, expand_first, expand_rows, specialised_rows, default_rows}
use Rattle.match_model.specs.Lists.{Every}
use Rattle.match_model.specs.Steps.{own_binds, expand_head, specialise_head, default_head, with_others, replacements_at, row_replaced, rows_at}

-- the row has a head in the first column
pub record HasHead {T : Type 0} (r : MRow T) : Type 0 where
  pub head : Head T
  pub rest : List (Head T)
  pub heads : r.heads ≡ head ∷ rest

module _ {T : Type 0} (place : List MStep) where
  unchanged : (r : MRow T) (hs : List (Head T)) → r.heads ≡ hs → r ≡ row_with r hs [] []
  unchanged r hs e =
      let chosen : r.chosen ≡ r.chosen ++ [] = sym (append-nil r.chosen) in
      let caught : r.caught ≡ r.caught ++ [] = sym (append-nil r.caught) in
      λ i. record { heads = e i; arm = r.arm; guarded = r.guarded; chosen = chosen i; caught = caught i }

  expand_one : (r : MRow T) (h : Head T) (rest : List (Head T)) → r.heads ≡ h ∷ rest →
      expand_first place r (h ∷ rest) ≡ map (row_replaced place r) (replacements_at expand_head 0 (h ∷ rest))
  expand_one r None rest e = ap (λ x. x ∷ []) (unchanged r (None ∷ rest) e)
  expand_one r (Some p) rest e = each (choices_of p)
    where
      each : (cs : List (Choice T)) → map (λ c. row_with r (Some c.pat ∷ rest) c.chosen
          (map (bind_at place) c.binds)) cs
          ≡ map (row_replaced place r) (map (with_others rest) (map
          (λ c. record { heads = Some c.pat ∷ []; chosen = c.chosen; binds = c.binds }) cs))
      each [] = refl
      each (c ∷ cs) = ap (λ l. row_with r (Some c.pat ∷ rest) c.chosen (map (bind_at place) c.binds) ∷ l) (each cs)

  -- expanding the first column
  pub expand-first-column : (rows : List (MRow T)) → Every HasHead rows →
      expand_rows place rows ≡ rows_at expand_head place 0 rows
  expand-first-column [] e = refl
  expand-first-column (r ∷ rows) e =
      let k : r.heads ≡ e.0.head ∷ e.0.rest = e.0.heads in
      rw (expand-first-column rows e.1) (ap (λ l. l ++ rows_at expand_head place 0 rows)
      (ap (expand_first place r) k ∙ expand_one r e.0.head e.0.rest k
      ∙ sym (ap (λ hs. map (row_replaced place r) (replacements_at expand_head 0 hs)) k)))

  specialise_one : (piece : MCtor) (n : ℕ) (r : MRow T) (hs : List (Head T)) →
      map (λ heads. row_with r heads [] (first_binds place hs)) (specialised_heads piece n hs) ≡ map
      (row_replaced place r) (replacements_at (specialise_head piece n) 0 hs)
  specialise_one piece n r [] = refl
  specialise_one piece n r (None ∷ rest) = refl
  specialise_one piece n r (Some (de_pat c t u at subs binds) ∷ rest) = go (has_piece c piece)
    where
      go : (b : Bool) → map (λ heads. row_with r heads [] (map (bind_at place) binds))
          (cond b ((heads_of c (map Some (de_pats_list subs)) n ++ rest) ∷ []) [])
          ≡ map (row_replaced place r) (map (with_others rest) (cond b
          (record { heads = heads_of c (map Some (de_pats_list subs)) n; chosen = []; binds = binds } ∷ []) []))
      go true = refl
      go false = refl

  -- specialising by a piece of the first column
  pub specialise-first-column : (piece : MCtor) (n : ℕ) (rows : List (MRow T)) →
      specialised_rows place piece n rows ≡ rows_at (specialise_head piece n) place 0 rows
  specialise-first-column piece n [] = refl
  specialise-first-column piece n (r ∷ rows) =
      rw (specialise-first-column piece n rows) (ap (λ l. l ++ rows_at (specialise_head piece n) place 0 rows)
      (specialise_one piece n r r.heads))

  bound_by : (h : Head T) → head_binds place h ≡ map (bind_at place) (own_binds h)
  bound_by None = refl
  bound_by (Some (de_pat c t u at subs binds)) = refl

  default_one : (r : MRow T) (h : Head T) (rest : List (Head T)) →
      cond (is_wild h) (row_with r rest [] (head_binds place h) ∷ []) [] ≡ map (row_replaced place r)
      (replacements_at default_head 0 (h ∷ rest))
  default_one r h rest = go (is_wild h)
    where
      go : (b : Bool) → cond b (row_with r rest [] (head_binds place h) ∷ []) [] ≡ map (row_replaced place r)
          (map (with_others rest) (cond b (record { heads = []; chosen = []; binds = own_binds h } ∷ []) []))
      go true = ap (λ l. row_with r rest [] l ∷ []) (bound_by h)
      go false = refl

  -- the default rows of the first column
  pub default-first-column : (rows : List (MRow T)) → Every HasHead rows →
      default_rows place rows ≡ rows_at default_head place 0 rows
  default-first-column [] e = refl
  default-first-column (r ∷ rows) e =
      let k : r.heads ≡ e.0.head ∷ e.0.rest = e.0.heads in
      rw (default-first-column rows e.1) (ap (λ l. l ++ rows_at default_head place 0 rows)
      (ap (λ hs. cond (starts_wild hs) (row_with r (row_rest hs) [] (first_binds place hs) ∷ []) []) k
      ∙ default_one r e.0.head e.0.rest ∙ sym (ap
      (λ hs. map (row_replaced place r) (replacements_at default_head 0 hs)) k)))
