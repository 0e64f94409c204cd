-- Steps do not tell a wildcard that binds nothing from one that no pattern wrote.
use Rattle.std.proofs.Common.{◌≡◌, ℕ, zero, suc, true, false, ◌&&◌, List, [], ◌∷◌, ◌++◌, map, drop, Some, None, refl, sym, ap, ◌∙◌}
use Rattle.std.specs.List.{list_all}
use Rattle.std.proofs.lemmas.List.{map-append}
use Rattle.match_model.specs.ArenaPatterns.{de_pat, no_de_pats, more_de_pats}
use Rattle.match_model.specs.Constructors.{WildCtor, MCtor}
use Rattle.match_model.specs.DecisionTrees.{all_wild, all_head_binds, by_name, row_binds}
use Rattle.match_model.specs.FewestBranches.{is_asked}
use Rattle.match_model.specs.Lists.{Every}
use Rattle.match_model.specs.Lowering.{ctors_at, all_wild_at}
use Rattle.match_model.specs.Matrices.{MColumn, MRow, head_binds}
use Rattle.match_model.specs.Places.{MStep}
use Rattle.match_model.specs.Rows.{Head, is_wild, starts_wild, first_ctor}
use Rattle.match_model.specs.Steps.{Replacement, expand_head, specialise_head, default_head, with_others, with_head, replacements_at, row_replaced, rows_at}
use Rattle.decision_tree.specs.Thin.{thin_head, thin_row, thin_rows}

module _ {T : Type 0} where
  -- what is the same of no pattern and of such a wildcard is the same of a head and of the thin one
  pub thin-same : {B : Type 0} (g : Head T → B) →
      ((t : T) (uid at : ℕ) → g None ≡ g (Some (de_pat WildCtor t uid at no_de_pats []))) → (h : Head T) →
      g (thin_head h) ≡ g h
  thin-same g e None = refl
  thin-same g e (Some (de_pat WildCtor t uid at no_de_pats [])) = e t uid at
  thin-same g e (Some (de_pat WildCtor t uid at no_de_pats (b ∷ bs))) = refl
  thin-same g e (Some (de_pat WildCtor t uid at (more_de_pats p ps) binds)) = refl
  thin-same g e (Some (de_pat c t uid at subs binds)) = refl

  -- what holds of no pattern and of a head holds of the thin one
  pub thin-keeps : (P : Head T → Type 0) → P None → (h : Head T) → P h → P (thin_head h)
  thin-keeps P n None p = p
  thin-keeps P n (Some (de_pat WildCtor t uid at no_de_pats [])) p = n
  thin-keeps P n (Some (de_pat WildCtor t uid at no_de_pats (b ∷ bs))) p = p
  thin-keeps P n (Some (de_pat WildCtor t uid at (more_de_pats q qs) binds)) p = p
  thin-keeps P n (Some (de_pat c t uid at subs binds)) p = p

  pub every-thin : (P : Head T → Type 0) → P None → (hs : List (Head T)) → Every P hs → Every P (map thin_head hs)
  every-thin P n [] e = tt
  every-thin P n (h ∷ hs) e = (thin-keeps P n h e.0, every-thin P n hs e.1)

  thin-wild : (h : Head T) → is_wild (thin_head h) ≡ is_wild h
  thin-wild = thin-same is_wild (λ t uid at. refl)

  twice : (h : Head T) → thin_head (thin_head h) ≡ thin_head h
  twice = thin-same thin_head (λ t uid at. refl)

  all-twice : (hs : List (Head T)) → map thin_head (map thin_head hs) ≡ map thin_head hs
  all-twice [] = refl
  all-twice (h ∷ hs) = λ k. twice h k ∷ all-twice hs k

  pub rows-twice : (rows : List (MRow T)) → thin_rows (thin_rows rows) ≡ thin_rows rows
  rows-twice [] = refl
  rows-twice (r ∷ rows) = λ k. record r { heads = all-twice r.heads k } ∷ rows-twice rows k

  -- a row is a leaf as without them, and binds the same
  pub leaf-thin : (r : MRow T) → all_wild (thin_row r) ≡ all_wild r
  leaf-thin r = go r.heads
    where
      go : (hs : List (Head T)) → list_all is_wild (map thin_head hs) ≡ list_all is_wild hs
      go [] = refl
      go (h ∷ hs) = λ k. thin-wild h k && go hs k

  pub binds-thin : (columns : List (MColumn T)) (r : MRow T) → row_binds columns (thin_row r) ≡ row_binds columns r
  binds-thin columns r = ap (λ bs. by_name (r.caught ++ bs)) (go columns r.heads)
    where
      go : (columns : List (MColumn T)) (hs : List (Head T)) →
          all_head_binds columns (map thin_head hs) ≡ all_head_binds columns hs
      go [] [] = refl
      go [] (h ∷ hs) = refl
      go (c ∷ columns) [] = refl
      go (c ∷ columns) (h ∷ hs) = λ k. thin-same (head_binds c.place) (λ t uid at. refl) h k ++ go columns hs k

  -- what depends on the head of a column alone is the same
  at-thin : {B : Type 0} (g : List (Head T) → B) →
      ((h : Head T) (xs ys : List (Head T)) → g (thin_head h ∷ xs) ≡ g (h ∷ ys)) → (i : ℕ) (hs : List (Head T)) →
      g (drop i (map thin_head hs)) ≡ g (drop i hs)
  at-thin g law zero [] = refl
  at-thin g law (suc i) [] = refl
  at-thin g law zero (h ∷ hs) = law h (map thin_head hs) hs
  at-thin g law (suc i) (h ∷ hs) = at-thin g law i hs

  starts-thin : (i : ℕ) (hs : List (Head T)) → starts_wild (drop i (map thin_head hs)) ≡ starts_wild (drop i hs)
  starts-thin = at-thin starts_wild (λ h xs ys. thin-wild h)

  ctor-beside : (h : Head T) (xs ys : List (Head T)) → first_ctor (h ∷ xs) ≡ first_ctor (h ∷ ys)
  ctor-beside None xs ys = refl
  ctor-beside (Some (de_pat c t uid at subs binds)) xs ys = refl

  ctor-thin : (i : ℕ) (hs : List (Head T)) → first_ctor (drop i (map thin_head hs)) ≡ first_ctor (drop i hs)
  ctor-thin = at-thin first_ctor (λ h xs ys. ctor-beside (thin_head h) xs ys
      ∙ thin-same (λ x. first_ctor (x ∷ ys)) (λ t uid at. refl) h)

  pub wild-thin : (i : ℕ) (rows : List (MRow T)) → all_wild_at i (thin_rows rows) ≡ all_wild_at i rows
  wild-thin i [] = refl
  wild-thin i (r ∷ rows) = λ k. starts-thin i r.heads k && wild-thin i rows k

  pub ctors-thin : (i : ℕ) (rows : List (MRow T)) → ctors_at i (thin_rows rows) ≡ ctors_at i rows
  ctors-thin i [] = refl
  ctors-thin i (r ∷ rows) = rw (ctor-thin i r.heads, ctors-thin i rows) refl

  pub asked-thin : (i : ℕ) (rows : List (MRow T)) → is_asked i (thin_rows rows) ≡ is_asked i rows
  asked-thin i [] = refl
  asked-thin i (r ∷ rows) = ap (λ b. elim b [ true ↦ false | false ↦ true ]) (starts-thin i r.heads)

  -- what stands in place of a head, with thin heads
  abbrev pub thin_replacement : Replacement T → Replacement T
  thin_replacement y = record y { heads = map thin_head y.heads }

  -- the step puts the same in place of a head and of the thin one, but for such wildcards
  abbrev pub IsBlind : (Head T → List (Replacement T)) → Type 0
  IsBlind f = (h : Head T) → map thin_replacement (f (thin_head h)) ≡ map thin_replacement (f h)

  pub expand-blind : IsBlind expand_head
  expand-blind = thin-same (λ h. map thin_replacement (expand_head h)) (λ t uid at. refl)

  pub default-blind : IsBlind default_head
  default-blind = thin-same (λ h. map thin_replacement (default_head h)) (λ t uid at. refl)

  pub specialise-blind : (p : MCtor) (n : ℕ) → IsBlind (specialise_head p n)
  specialise-blind p n = thin-same (λ h. map thin_replacement (specialise_head p n h)) (λ t uid at. refl)

  module _ (f : Head T → List (Replacement T)) (blind : IsBlind f) where
    through-others : (hs : List (Head T)) (ys : List (Replacement T)) →
        map thin_replacement (map (with_others hs) ys) ≡ map (with_others (map thin_head hs)) (map thin_replacement ys)
    through-others hs [] = refl
    through-others hs (y ∷ ys) =
        λ k. record y { heads = map-append thin_head y.heads hs k } ∷ through-others hs ys k

    through-head : (h : Head T) (ys : List (Replacement T)) →
        map thin_replacement (map (with_head h) ys) ≡ map (with_head (thin_head h)) (map thin_replacement ys)
    through-head h [] = refl
    through-head h (y ∷ ys) = ap (λ l. record y { heads = thin_head h ∷ map thin_head y.heads } ∷ l) (through-head h ys)

    replacements-thin : (i : ℕ) (hs : List (Head T)) →
        map thin_replacement (replacements_at f i (map thin_head hs)) ≡ map thin_replacement (replacements_at f i hs)
    replacements-thin i [] = refl
    replacements-thin zero (h ∷ hs) =
        through-others (map thin_head hs) (f (thin_head h))
        ∙ (λ k. map (with_others (all-twice hs k)) (blind h k)) ∙ sym (through-others hs (f h))
    replacements-thin (suc i) (h ∷ hs) =
        through-head (thin_head h) (replacements_at f i (map thin_head hs))
        ∙ (λ k. map (with_head (twice h k)) (replacements-thin i hs k)) ∙ sym (through-head h (replacements_at f i hs))

    through-row : (place : List MStep) (r : MRow T) (ys : List (Replacement T)) →
        thin_rows (map (row_replaced place r) ys) ≡ map (row_replaced place r) (map thin_replacement ys)
    through-row place r [] = refl
    through-row place r (y ∷ ys) = ap (λ l. row_replaced place r (thin_replacement y) ∷ l) (through-row place r ys)

    row-thin : (place : List MStep) (i : ℕ) (r : MRow T) →
        thin_rows (map (row_replaced place r) (replacements_at f i (map thin_head r.heads)))
        ≡ thin_rows (map (row_replaced place r) (replacements_at f i r.heads))
    row-thin place i r =
        through-row place r (replacements_at f i (map thin_head r.heads))
        ∙ ap (map (row_replaced place r)) (replacements-thin i r.heads)
        ∙ sym (through-row place r (replacements_at f i r.heads))

    rows-thin : (place : List MStep) (i : ℕ) (rows : List (MRow T)) →
        thin_rows (rows_at f place i (thin_rows rows)) ≡ thin_rows (rows_at f place i rows)
    rows-thin place i [] = refl
    rows-thin place i (r ∷ rows) =
        map-append thin_row (map (row_replaced place r) (replacements_at f i (map thin_head r.heads)))
        (rows_at f place i (thin_rows rows))
        ∙ (λ k. row-thin place i r k ++ rows-thin place i rows k)
        ∙ sym (map-append thin_row (map (row_replaced place r) (replacements_at f i r.heads)) (rows_at f place i rows))

    -- a step of rows that are the same when thin makes such rows
    pub rows-alike : (place : List MStep) (i : ℕ) (rs rows : List (MRow T)) → thin_rows rs ≡ thin_rows rows →
        thin_rows (rows_at f place i rs) ≡ thin_rows (rows_at f place i rows)
    rows-alike place i rs rows e =
        sym (rows-thin place i rs) ∙ ap (λ xs. thin_rows (rows_at f place i xs)) e ∙ rows-thin place i rows
