-- Patterns, rows and columns with other types and uids: what a step of a matrix makes of them.
use Rattle.std.proofs.Common.{◌≡◌, ℕ, zero, suc, ◌+◌, ◌-◌, Bool, true, false, cond, ◌&&◌, List, [], ◌∷◌, ◌++◌, map, take, drop, Some, None, refl, sym, ap, ◌∙◌}
use Rattle.std.specs.List.{list_all, flat_map, cons_option}
use Rattle.std.proofs.lemmas.List.{map-append}
use Rattle.match_model.specs.Constructors.{MCtor, LongerShape, RowCtor, WildCtor, OrCtor, has_piece}
use Rattle.match_model.specs.Places.{MStep}
use Rattle.match_model.specs.ArenaPatterns.{MDePat, de_pat, MDePats, no_de_pats, more_de_pats, de_pats_list, uid_of}
use Rattle.match_model.specs.Rows.{Head, is_wild, starts_wild, Choice, with_binds, choice_among, choices_of, all_choices_of, first_ctor, wildcards, heads_of}
use Rattle.match_model.specs.Matrices.{MColumn, MRow, bind_at, head_binds}
use Rattle.match_model.specs.Steps.{Replacement, own_binds, expand_head, specialise_head, default_head, with_others, with_head, replacements_at, replaced_at, row_replaced, rows_at}
use Rattle.match_model.specs.DecisionTrees.{all_head_binds, by_name, row_binds, all_wild}
use Rattle.match_model.specs.Lowering.{ctors_at, all_wild_at}
use Rattle.match_model.specs.FewestBranches.{is_asked}
use Rattle.pattern_laws.proofs.Skeletons.{take_map, drop_map}

-- ---- lists

pub map_both : {A B C D : Type 0} (h : A → B) (k : A → C) (i : B → D) (j : C → D) → ((a : A) → i (h a) ≡ j (k a)) →
    (xs : List A) → map i (map h xs) ≡ map j (map k xs)
map_both h k i j same [] = refl
map_both h k i j same (x ∷ xs) =
    ap (λ y. y ∷ map i (map h xs)) (same x) ∙ ap (λ ys. j (k x) ∷ ys) (map_both h k i j same xs)

flat_both : {A B C D : Type 0} (h : A → B) (j : C → D) (step : A → List C) (by : B → List D) →
    ((a : A) → by (h a) ≡ map j (step a)) → (xs : List A) → flat_map by (map h xs) ≡ map j (flat_map step xs)
flat_both h j step by same [] = refl
flat_both h j step by same (x ∷ xs) =
    ap (λ ys. ys ++ flat_map by (map h xs)) (same x)
    ∙ (ap (λ ys. map j (step x) ++ ys) (flat_both h j step by same xs)
    ∙ sym (map-append j (step x) (flat_map step xs)))

pub replaced_map : {A B : Type 0} (h : A → B) (i : ℕ) (xs new : List A) →
    replaced_at i (map h xs) (map h new) ≡ map h (replaced_at i xs new)
replaced_map h zero [] new = refl
replaced_map h (suc i) [] new = refl
replaced_map h zero (x ∷ xs) new = sym (map-append h new xs)
replaced_map h (suc i) (x ∷ xs) new = ap (λ ys. h x ∷ ys) (replaced_map h i xs new)

module _ {S U : Type 0} (f : S → U) (g : ℕ → ℕ) where
  abbrev mutual
    -- the pattern with other types and uids
    pub moved : MDePat S → MDePat U
    moved (de_pat c t uid at subs binds) = de_pat c (f t) (g uid) at (all_moved subs) binds

    pub all_moved : MDePats S → MDePats U
    all_moved no_de_pats = no_de_pats
    all_moved (more_de_pats p ps) = more_de_pats (moved p) (all_moved ps)

  abbrev pub head_moved : Head S → Head U
  head_moved None = None
  head_moved (Some p) = Some (moved p)

  abbrev pub column_moved : MColumn S → MColumn U
  column_moved c = record { place = c.place; type = f c.type; sure = c.sure }

  abbrev pub row_moved : MRow S → MRow U
  row_moved r = record {
    heads = map head_moved r.heads;
    arm = r.arm;
    guarded = r.guarded;
    chosen = map g r.chosen;
    caught = r.caught;
  }

  abbrev choice_moved : Choice S → Choice U
  choice_moved c = record { pat = moved c.pat; chosen = map g c.chosen; binds = c.binds }

  abbrev replacement_moved : Replacement S → Replacement U
  replacement_moved y = record { heads = map head_moved y.heads; chosen = map g y.chosen; binds = y.binds }

  -- ---- choices

  pub uid_moved : (p : MDePat S) → uid_of (moved p) ≡ g (uid_of p)
  uid_moved (de_pat c t uid at subs binds) = refl

  among_moved : (ps : MDePats S) (u : ℕ) (c : Choice S) →
      choice_among (all_moved ps) (g u) (choice_moved c) ≡ choice_moved (choice_among ps u c)
  among_moved no_de_pats u c = refl
  among_moved (more_de_pats p no_de_pats) u c = refl
  among_moved (more_de_pats p (more_de_pats q qs)) u c = refl

  mutual
    choices_moved : (p : MDePat S) → choices_of (moved p) ≡ map choice_moved (choices_of p)
    choices_moved (de_pat OrCtor t uid at subs binds) =
        ap (map (with_binds binds))
        (all_choices_moved (choice_among subs) (choice_among (all_moved subs)) (among_moved subs) subs)
        ∙ map_both choice_moved (with_binds binds) (with_binds binds) choice_moved (λ c. refl)
        (all_choices_of (choice_among subs) subs)
    choices_moved (de_pat c t uid at subs binds) = refl

    all_choices_moved : (choose : ℕ → Choice S → Choice S) (by : ℕ → Choice U → Choice U) →
        ((u : ℕ) (c : Choice S) → by (g u) (choice_moved c) ≡ choice_moved (choose u c)) → (ps : MDePats S) →
        all_choices_of by (all_moved ps) ≡ map choice_moved (all_choices_of choose ps)
    all_choices_moved choose by same no_de_pats = refl
    all_choices_moved choose by same (more_de_pats p ps) =
        ap (λ u. map (by u) (choices_of (moved p)) ++ all_choices_of by (all_moved ps)) (uid_moved p)
        ∙ (ap (λ cs. map (by (g (uid_of p))) cs ++ all_choices_of by (all_moved ps)) (choices_moved p)
        ∙ (ap (λ cs. cs ++ all_choices_of by (all_moved ps))
        (map_both choice_moved (choose (uid_of p)) (by (g (uid_of p))) choice_moved (λ c. same (uid_of p) c)
        (choices_of p))
        ∙ (ap (λ cs. map choice_moved (map (choose (uid_of p)) (choices_of p)) ++ cs)
        (all_choices_moved choose by same ps)
        ∙ sym (map-append choice_moved (map (choose (uid_of p)) (choices_of p)) (all_choices_of choose ps)))))

  -- ---- heads

  wild_moved : (h : Head S) → is_wild (head_moved h) ≡ is_wild h
  wild_moved None = refl
  wild_moved (Some (de_pat c t uid at subs binds)) = refl

  own_moved : (h : Head S) → own_binds (head_moved h) ≡ own_binds h
  own_moved None = refl
  own_moved (Some (de_pat c t uid at subs binds)) = refl

  binds_moved : (place : List MStep) (h : Head S) → head_binds place (head_moved h) ≡ head_binds place h
  binds_moved place None = refl
  binds_moved place (Some (de_pat c t uid at subs binds)) = refl

  wildcards_moved : (n : ℕ) → map head_moved (wildcards n) ≡ wildcards n
  wildcards_moved zero = refl
  wildcards_moved (suc n) = ap (λ hs. None ∷ hs) (wildcards_moved n)

  heads_moved : (c : MCtor) (hs : List (Head S)) (n : ℕ) →
      map head_moved (heads_of c hs n) ≡ heads_of c (map head_moved hs) n
  heads_moved (RowCtor (LongerShape f b)) hs n =
      map-append head_moved (take f hs) (wildcards (n - (f + b)) ++ drop f hs)
      ∙ (ap (λ xs. xs ++ map head_moved (wildcards (n - (f + b)) ++ drop f hs)) (take_map head_moved f hs)
      ∙ ap (λ xs. take f (map head_moved hs) ++ xs)
      (map-append head_moved (wildcards (n - (f + b))) (drop f hs)
      ∙ (ap (λ xs. xs ++ map head_moved (drop f hs)) (wildcards_moved (n - (f + b)))
      ∙ ap (λ xs. wildcards (n - (f + b)) ++ xs) (drop_map head_moved f hs))))
  heads_moved WildCtor hs n = wildcards_moved n
  heads_moved c hs n = refl

  subs_moved : (ps : MDePats S) → map head_moved (map Some (de_pats_list ps)) ≡ map Some (de_pats_list (all_moved ps))
  subs_moved no_de_pats = refl
  subs_moved (more_de_pats p ps) = ap (λ hs. Some (moved p) ∷ hs) (subs_moved ps)

  -- ---- what stands in place of a head

  pub expand_moved : (h : Head S) → expand_head (head_moved h) ≡ map replacement_moved (expand_head h)
  expand_moved None = refl
  expand_moved (Some p) =
      ap (map (λ c. record { heads = Some c.pat ∷ []; chosen = c.chosen; binds = c.binds })) (choices_moved p)
      ∙ map_both choice_moved (λ c. record { heads = Some c.pat ∷ []; chosen = c.chosen; binds = c.binds })
      (λ c. record { heads = Some c.pat ∷ []; chosen = c.chosen; binds = c.binds }) replacement_moved (λ c. refl)
      (choices_of p)

  pub specialise_moved : (piece : MCtor) (n : ℕ) (h : Head S) →
      specialise_head piece n (head_moved h) ≡ map replacement_moved (specialise_head piece n h)
  specialise_moved piece n None =
      ap (λ hs. record { heads = hs; chosen = []; binds = [] } ∷ []) (sym (wildcards_moved n))
  specialise_moved piece n (Some (de_pat c t uid at subs binds)) = go (has_piece c piece)
    where
      go : (b : Bool) →
          cond b (record { heads = heads_of c (map Some (de_pats_list (all_moved subs))) n; chosen = []; binds = binds }
          ∷ []) []
          ≡ map replacement_moved
          (cond b (record { heads = heads_of c (map Some (de_pats_list subs)) n; chosen = []; binds = binds } ∷ []) [])
      go true =
          ap (λ hs. record { heads = hs; chosen = []; binds = binds } ∷ [])
          (sym (heads_moved c (map Some (de_pats_list subs)) n ∙ ap (λ hs. heads_of c hs n) (subs_moved subs)))
      go false = refl

  pub default_moved : (h : Head S) → default_head (head_moved h) ≡ map replacement_moved (default_head h)
  default_moved h =
      ap (λ b. cond b (record { heads = []; chosen = []; binds = own_binds (head_moved h) } ∷ []) []) (wild_moved h)
      ∙ (ap (λ bs. cond (is_wild h) (record { heads = []; chosen = []; binds = bs } ∷ []) []) (own_moved h)
      ∙ go (is_wild h))
    where
      go : (b : Bool) → cond b (record { heads = []; chosen = []; binds = own_binds h } ∷ []) []
          ≡ map replacement_moved (cond b (record { heads = []; chosen = []; binds = own_binds h } ∷ []) [])
      go true = refl
      go false = refl

  -- ---- rows

  module _ (step : Head S → List (Replacement S)) (by : Head U → List (Replacement U))
      (same : (h : Head S) → by (head_moved h) ≡ map replacement_moved (step h)) where
    replacements_moved : (i : ℕ) (hs : List (Head S)) →
        replacements_at by i (map head_moved hs) ≡ map replacement_moved (replacements_at step i hs)
    replacements_moved zero [] = refl
    replacements_moved (suc i) [] = refl
    replacements_moved zero (h ∷ hs) =
        ap (map (with_others (map head_moved hs))) (same h)
        ∙ map_both replacement_moved (with_others hs) (with_others (map head_moved hs)) replacement_moved
        (λ y. ap (λ (xs : List (Head U)). record { heads = xs; chosen = map g y.chosen; binds = y.binds })
        (sym (map-append head_moved y.heads hs))) (step h)
    replacements_moved (suc i) (h ∷ hs) =
        ap (map (with_head (head_moved h))) (replacements_moved i hs)
        ∙ map_both replacement_moved (with_head h) (with_head (head_moved h)) replacement_moved (λ y. refl)
        (replacements_at step i hs)

    row_replaced_moved : (place : List MStep) (r : MRow S) (y : Replacement S) →
        row_replaced place (row_moved r) (replacement_moved y) ≡ row_moved (row_replaced place r y)
    row_replaced_moved place r y =
        ap (λ (ns : List ℕ). record {
          heads = map head_moved y.heads;
          arm = r.arm;
          guarded = r.guarded;
          chosen = ns;
          caught = r.caught ++ map (bind_at place) y.binds;
        }) (sym (map-append g r.chosen y.chosen))

    -- the rows of a step
    pub rows_moved : (place : List MStep) (i : ℕ) (rows : List (MRow S)) →
        rows_at by place i (map row_moved rows) ≡ map row_moved (rows_at step place i rows)
    rows_moved place i rows =
        flat_both row_moved row_moved (λ r. map (row_replaced place r) (replacements_at step i r.heads))
        (λ r. map (row_replaced place r) (replacements_at by i r.heads))
        (λ r. ap (map (row_replaced place (row_moved r))) (replacements_moved i r.heads)
        ∙ map_both replacement_moved (row_replaced place r) (row_replaced place (row_moved r)) row_moved
        (λ y. row_replaced_moved place r y) (replacements_at step i r.heads)) rows

  -- ---- what is asked of rows

  starts_moved : (hs : List (Head S)) → starts_wild (map head_moved hs) ≡ starts_wild hs
  starts_moved [] = refl
  starts_moved (h ∷ hs) = wild_moved h

  starts_at : (i : ℕ) (hs : List (Head S)) → starts_wild (drop i (map head_moved hs)) ≡ starts_wild (drop i hs)
  starts_at i hs = ap starts_wild (sym (drop_map head_moved i hs)) ∙ starts_moved (drop i hs)

  first_moved : (hs : List (Head S)) → first_ctor (map head_moved hs) ≡ first_ctor hs
  first_moved [] = refl
  first_moved (None ∷ hs) = refl
  first_moved (Some (de_pat c t uid at subs binds) ∷ hs) = refl

  pub ctors_moved : (i : ℕ) (rows : List (MRow S)) → ctors_at i (map row_moved rows) ≡ ctors_at i rows
  ctors_moved i [] = refl
  ctors_moved i (r ∷ rows) =
      ap (λ o. cons_option o (ctors_at i (map row_moved rows)))
      (ap first_ctor (sym (drop_map head_moved i r.heads)) ∙ first_moved (drop i r.heads))
      ∙ ap (λ cs. cons_option (first_ctor (drop i r.heads)) cs) (ctors_moved i rows)

  pub wild_at_moved : (i : ℕ) (rows : List (MRow S)) → all_wild_at i (map row_moved rows) ≡ all_wild_at i rows
  wild_at_moved i [] = refl
  wild_at_moved i (r ∷ rows) =
      ap (λ b. b && all_wild_at i (map row_moved rows)) (starts_at i r.heads)
      ∙ ap (λ b. starts_wild (drop i r.heads) && b) (wild_at_moved i rows)

  pub asked_moved : (i : ℕ) (rows : List (MRow S)) → is_asked i (map row_moved rows) ≡ is_asked i rows
  asked_moved i [] = refl
  asked_moved i (r ∷ rows) = ap (λ b. elim b [ true ↦ false | false ↦ true ]) (starts_at i r.heads)

  heads_wild : (hs : List (Head S)) → list_all is_wild (map head_moved hs) ≡ list_all is_wild hs
  heads_wild [] = refl
  heads_wild (h ∷ hs) =
      ap (λ b. b && list_all is_wild (map head_moved hs)) (wild_moved h) ∙ ap (λ b. is_wild h && b) (heads_wild hs)

  pub all_wild_moved : (r : MRow S) → all_wild (row_moved r) ≡ all_wild r
  all_wild_moved r = heads_wild r.heads

  all_binds_moved : (cs : List (MColumn S)) (hs : List (Head S)) →
      all_head_binds (map column_moved cs) (map head_moved hs) ≡ all_head_binds cs hs
  all_binds_moved [] hs = refl
  all_binds_moved (c ∷ cs) [] = refl
  all_binds_moved (c ∷ cs) (h ∷ hs) =
      ap (λ bs. bs ++ all_head_binds (map column_moved cs) (map head_moved hs)) (binds_moved c.place h)
      ∙ ap (λ bs. head_binds c.place h ++ bs) (all_binds_moved cs hs)

  pub row_binds_moved : (cs : List (MColumn S)) (r : MRow S) →
      row_binds (map column_moved cs) (row_moved r) ≡ row_binds cs r
  row_binds_moved cs r = ap (λ bs. by_name (r.caught ++ bs)) (all_binds_moved cs r.heads)
