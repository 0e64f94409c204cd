-- Rows of heads by their constructors alone: what the witness list of a match looks at.
use Rattle.std.proofs.Common.{◌≡◌, ℕ, Bool, true, false, cond, ◌&&◌, ◌||◌, List, [], ◌∷◌, ◌++◌, map, take, drop, Some, None, ◌-◌, ◌+◌, suc, zero, refl, sym, ap, ◌∙◌}
use Rattle.std.specs.List.{list_any, list_all, flat_map, cons_option}
use Rattle.std.proofs.lemmas.List.{map-append}
use Rattle.match_model.specs.Constructors.{MCtor, LongerShape, RowCtor, WildCtor, OrCtor, has_piece}
use Rattle.match_model.specs.Contexts.{Open}
use Rattle.match_model.specs.ArenaPatterns.{MBound, MDePat, de_pat, MDePats, no_de_pats, more_de_pats, de_pats_list, uid_of}
use Rattle.match_model.specs.Rows.{Head, is_wild, Choice, with_binds, choice_among, choices_of, all_choices_of, expand_row, starts_wild, row_rest, first_ctor, column_of, wildcards, heads_of, specialised_heads, all_specialised}
use Rattle.match_model.specs.WitnessList.{are_wild}

abbrev mutual
  -- the pattern by its constructors
  pub skeleton : {T : Type 0} → MDePat T → MDePat ℕ
  skeleton (de_pat c t uid at subs binds) = de_pat c 0 0 0 (skeletons subs) []

  -- the patterns by their constructors
  pub skeletons : {T : Type 0} → MDePats T → MDePats ℕ
  skeletons no_de_pats = no_de_pats
  skeletons (more_de_pats p ps) = more_de_pats (skeleton p) (skeletons ps)

-- a head by its constructors
abbrev pub head_skeleton : {T : Type 0} → Head T → Head ℕ
head_skeleton None = None
head_skeleton (Some p) = Some (skeleton p)

-- rows by their constructors
abbrev pub row_skeletons : {T : Type 0} → List (List (Head T)) → List (List (Head ℕ))
row_skeletons rows = map (map head_skeleton) rows

-- an open place without its type
abbrev pub bare_place : {T : Type 0} → Open T → Open ℕ
bare_place o = record { type = 0; sure = o.sure }

-- ---- tests

wild_by : {T : Type 0} (h : Head T) → is_wild (head_skeleton h) ≡ is_wild h
wild_by None = refl
wild_by (Some (de_pat c t uid at subs binds)) = refl

wild_places : {T : Type 0} (places : List (Open T)) (hs : List (Head T)) →
    are_wild (map bare_place places) (map head_skeleton hs) ≡ are_wild places hs
wild_places [] [] = refl
wild_places [] (h ∷ hs) = refl
wild_places (o ∷ places) [] = refl
wild_places (o ∷ places) (h ∷ hs) =
    ap (λ b. b && are_wild (map bare_place places) (map head_skeleton hs)) (wild_by h)
    ∙ ap (λ b. is_wild h && b) (wild_places places hs)

pub any_wild : {T : Type 0} (places : List (Open T)) (rows : List (List (Head T))) →
    list_any (are_wild (map bare_place places)) (row_skeletons rows) ≡ list_any (are_wild places) rows
any_wild places [] = refl
any_wild places (hs ∷ rows) =
    ap (λ b. b || list_any (are_wild (map bare_place places)) (row_skeletons rows)) (wild_places places hs)
    ∙ ap (λ b. are_wild places hs || b) (any_wild places rows)

starts_by : {T : Type 0} (hs : List (Head T)) → starts_wild (map head_skeleton hs) ≡ starts_wild hs
starts_by [] = refl
starts_by (h ∷ hs) = wild_by h

pub all_wild : {T : Type 0} (rows : List (List (Head T))) →
    list_all starts_wild (row_skeletons rows) ≡ list_all starts_wild rows
all_wild [] = refl
all_wild (hs ∷ rows) =
    ap (λ b. b && list_all starts_wild (row_skeletons rows)) (starts_by hs)
    ∙ ap (λ b. starts_wild hs && b) (all_wild rows)

ctor_by : {T : Type 0} (hs : List (Head T)) → first_ctor (map head_skeleton hs) ≡ first_ctor hs
ctor_by [] = refl
ctor_by (None ∷ hs) = refl
ctor_by (Some (de_pat c t uid at subs binds) ∷ hs) = refl

pub column_by : {T : Type 0} (rows : List (List (Head T))) → column_of (row_skeletons rows) ≡ column_of rows
column_by [] = refl
column_by (hs ∷ rows) =
    ap (λ o. cons_option o (column_of (row_skeletons rows))) (ctor_by hs)
    ∙ ap (λ cs. cons_option (first_ctor hs) cs) (column_by rows)

-- ---- steps

pub rests_by : {T : Type 0} (rows : List (List (Head T))) →
    row_skeletons (map row_rest rows) ≡ map row_rest (row_skeletons rows)
rests_by [] = refl
rests_by ([] ∷ rows) = ap (λ xs. [] ∷ xs) (rests_by rows)
rests_by ((h ∷ hs) ∷ rows) = ap (λ xs. map head_skeleton hs ∷ xs) (rests_by rows)

-- a step that each row makes by its constructors all rows make by them
steps_by : {T : Type 0} (step : List (Head T) → List (List (Head T))) (by : List (Head ℕ) → List (List (Head ℕ))) →
    ((hs : List (Head T)) → row_skeletons (step hs) ≡ by (map head_skeleton hs)) → (rows : List (List (Head T))) →
    row_skeletons (flat_map step rows) ≡ flat_map by (row_skeletons rows)
steps_by step by same [] = refl
steps_by step by same (hs ∷ rows) =
    map-append (map head_skeleton) (step hs) (flat_map step rows)
    ∙ (ap (λ xs. xs ++ row_skeletons (flat_map step rows)) (same hs)
    ∙ ap (λ xs. by (map head_skeleton hs) ++ xs) (steps_by step by same rows))

-- the patterns of choices
abbrev pats_of : {T : Type 0} → List (Choice T) → List (MDePat ℕ)
pats_of cs = map (λ c. skeleton c.pat) cs

abbrev chosen_pats : List (Choice ℕ) → List (MDePat ℕ)
chosen_pats cs = map (λ c. c.pat) cs

bound_pats : {T : Type 0} (binds : List MBound) (cs : List (Choice T)) → pats_of (map (with_binds binds) cs)
    ≡ pats_of cs
bound_pats binds [] = refl
bound_pats binds (c ∷ cs) = ap (λ ps. skeleton c.pat ∷ ps) (bound_pats binds cs)

bound_chosen : (binds : List MBound) (cs : List (Choice ℕ)) → chosen_pats (map (with_binds binds) cs) ≡ chosen_pats cs
bound_chosen binds [] = refl
bound_chosen binds (c ∷ cs) = ap (λ ps. c.pat ∷ ps) (bound_chosen binds cs)

through_pats : {T : Type 0} (choose : ℕ → Choice T → Choice T) → ((u : ℕ) (c : Choice T) → (choose u c).pat ≡ c.pat) →
    (u : ℕ) (cs : List (Choice T)) → pats_of (map (choose u) cs) ≡ pats_of cs
through_pats choose keeps u [] = refl
through_pats choose keeps u (c ∷ cs) =
    ap (λ p. skeleton p ∷ pats_of (map (choose u) cs)) (keeps u c)
    ∙ ap (λ ps. skeleton c.pat ∷ ps) (through_pats choose keeps u cs)

through_chosen : (choose : ℕ → Choice ℕ → Choice ℕ) → ((u : ℕ) (c : Choice ℕ) → (choose u c).pat ≡ c.pat) →
    (u : ℕ) (cs : List (Choice ℕ)) → chosen_pats (map (choose u) cs) ≡ chosen_pats cs
through_chosen choose keeps u [] = refl
through_chosen choose keeps u (c ∷ cs) =
    ap (λ p. p ∷ chosen_pats (map (choose u) cs)) (keeps u c)
    ∙ ap (λ ps. c.pat ∷ ps) (through_chosen choose keeps u cs)

among_keeps : {T : Type 0} (ps : MDePats T) (u : ℕ) (c : Choice T) → (choice_among ps u c).pat ≡ c.pat
among_keeps no_de_pats u c = refl
among_keeps (more_de_pats p no_de_pats) u c = refl
among_keeps (more_de_pats p (more_de_pats q qs)) u c = refl

mutual
  choices_by : {T : Type 0} (p : MDePat T) → pats_of (choices_of p) ≡ chosen_pats (choices_of (skeleton p))
  choices_by {T} (de_pat OrCtor t uid at subs binds) =
      bound_pats binds (all_choices_of (choice_among subs) subs)
      ∙ (all_choices_by (choice_among subs) (choice_among (skeletons subs)) (among_keeps subs)
      (among_keeps (skeletons subs)) subs
      ∙ sym (bound_chosen [] (all_choices_of (choice_among (skeletons subs)) (skeletons subs))))
  choices_by {T} (de_pat c t uid at subs binds) = refl

  all_choices_by : {T : Type 0} (choose : ℕ → Choice T → Choice T) (by : ℕ → Choice ℕ → Choice ℕ) →
      ((u : ℕ) (c : Choice T) → (choose u c).pat ≡ c.pat) → ((u : ℕ) (c : Choice ℕ) → (by u c).pat ≡ c.pat) →
      (ps : MDePats T) → pats_of (all_choices_of choose ps) ≡ chosen_pats (all_choices_of by (skeletons ps))
  all_choices_by {T} choose by keeps keeps' no_de_pats = refl
  all_choices_by {T} choose by keeps keeps' (more_de_pats p ps) =
      map-append (λ c. skeleton c.pat) (map (choose (uid_of p)) (choices_of p)) (all_choices_of choose ps)
      ∙ (ap (λ xs. xs ++ pats_of (all_choices_of choose ps))
      (through_pats choose keeps (uid_of p) (choices_of p)
      ∙ (choices_by p ∙ sym (through_chosen by keeps' (uid_of (skeleton p)) (choices_of (skeleton p)))))
      ∙ (ap (λ xs. chosen_pats (map (by (uid_of (skeleton p))) (choices_of (skeleton p))) ++ xs)
      (all_choices_by choose by keeps keeps' ps)
      ∙ sym (map-append (λ c. c.pat) (map (by (uid_of (skeleton p))) (choices_of (skeleton p)))
      (all_choices_of by (skeletons ps)))))

-- a row for each pattern
abbrev before : List (Head ℕ) → List (MDePat ℕ) → List (List (Head ℕ))
before rest ps = map (λ p. Some p ∷ rest) ps

rows_of : {T : Type 0} (rest : List (Head T)) (cs : List (Choice T)) →
    row_skeletons (map (λ c. Some c.pat ∷ rest) cs) ≡ before (map head_skeleton rest) (pats_of cs)
rows_of rest [] = refl
rows_of rest (c ∷ cs) = ap (λ xs. (Some (skeleton c.pat) ∷ map head_skeleton rest) ∷ xs) (rows_of rest cs)

rows_chosen : (rest : List (Head ℕ)) (cs : List (Choice ℕ)) →
    map (λ c. Some c.pat ∷ rest) cs ≡ before rest (chosen_pats cs)
rows_chosen rest [] = refl
rows_chosen rest (c ∷ cs) = ap (λ xs. (Some c.pat ∷ rest) ∷ xs) (rows_chosen rest cs)

expand_by : {T : Type 0} (hs : List (Head T)) → row_skeletons (expand_row hs) ≡ expand_row (map head_skeleton hs)
expand_by [] = refl
expand_by (None ∷ rest) = refl
expand_by (Some p ∷ rest) =
    rows_of rest (choices_of p)
    ∙ (ap (before (map head_skeleton rest)) (choices_by p)
    ∙ sym (rows_chosen (map head_skeleton rest) (choices_of (skeleton p))))

-- the expanded rows
pub expanded_by : {T : Type 0} (rows : List (List (Head T))) →
    row_skeletons (flat_map expand_row rows) ≡ flat_map expand_row (row_skeletons rows)
expanded_by rows = steps_by expand_row expand_row expand_by rows

pub take_map : {A B : Type 0} (f : A → B) (n : ℕ) (xs : List A) → map f (take n xs) ≡ take n (map f xs)
take_map f zero xs = refl
take_map f (suc n) [] = refl
take_map f (suc n) (x ∷ xs) = ap (λ ys. f x ∷ ys) (take_map f n xs)

pub drop_map : {A B : Type 0} (f : A → B) (n : ℕ) (xs : List A) → map f (drop n xs) ≡ drop n (map f xs)
drop_map f zero xs = refl
drop_map f (suc n) [] = refl
drop_map f (suc n) (x ∷ xs) = drop_map f n xs

wildcards_by : (T : Type 0) (n : ℕ) → map (head_skeleton {T = T}) (wildcards n) ≡ wildcards n
wildcards_by T zero = refl
wildcards_by T (suc n) = ap (λ hs. None ∷ hs) (wildcards_by T n)

heads_by : {T : Type 0} (c : MCtor) (hs : List (Head T)) (n : ℕ) →
    map head_skeleton (heads_of c hs n) ≡ heads_of c (map head_skeleton hs) n
heads_by {T} (RowCtor (LongerShape f b)) hs n =
    map-append head_skeleton (take f hs) (wildcards (n - (f + b)) ++ drop f hs)
    ∙ (ap (λ xs. xs ++ map head_skeleton (wildcards (n - (f + b)) ++ drop f hs)) (take_map head_skeleton f hs)
    ∙ ap (λ xs. take f (map head_skeleton hs) ++ xs)
    (map-append head_skeleton (wildcards (n - (f + b))) (drop f hs)
    ∙ (ap (λ xs. xs ++ map head_skeleton (drop f hs)) (wildcards_by T (n - (f + b)))
    ∙ ap (λ xs. wildcards (n - (f + b)) ++ xs) (drop_map head_skeleton f hs))))
heads_by {T} WildCtor hs n = wildcards_by T n
heads_by c hs n = refl

subs_by : {T : Type 0} (ps : MDePats T) →
    map head_skeleton (map Some (de_pats_list ps)) ≡ map Some (de_pats_list (skeletons ps))
subs_by no_de_pats = refl
subs_by (more_de_pats p ps) = ap (λ hs. Some (skeleton p) ∷ hs) (subs_by ps)

special_by : {T : Type 0} (piece : MCtor) (n : ℕ) (hs : List (Head T)) →
    row_skeletons (specialised_heads piece n hs) ≡ specialised_heads piece n (map head_skeleton hs)
special_by piece n [] = refl
special_by {T} piece n (None ∷ rest) =
    ap (λ hs. hs ∷ [])
    (map-append head_skeleton (wildcards n) rest
    ∙ ap (λ hs. hs ++ map head_skeleton rest) (wildcards_by T n))
special_by {T} piece n (Some (de_pat c t uid at subs binds) ∷ rest) = go (has_piece c piece)
  where
    go : (b : Bool) → row_skeletons (cond b ((heads_of c (map Some (de_pats_list subs)) n ++ rest) ∷ []) [])
        ≡ cond b ((heads_of c (map Some (de_pats_list (skeletons subs))) n ++ map head_skeleton rest) ∷ []) []
    go true =
        ap (λ hs. hs ∷ [])
        (map-append head_skeleton (heads_of c (map Some (de_pats_list subs)) n) rest
        ∙ ap (λ hs. hs ++ map head_skeleton rest)
        (heads_by c (map Some (de_pats_list subs)) n ∙ ap (λ hs. heads_of c hs n) (subs_by subs)))
    go false = refl

-- the specialised rows
pub specialised_by : {T : Type 0} (piece : MCtor) (n : ℕ) (rows : List (List (Head T))) →
    row_skeletons (all_specialised piece n rows) ≡ all_specialised piece n (row_skeletons rows)
specialised_by piece n rows = steps_by (specialised_heads piece n) (specialised_heads piece n) (special_by piece n) rows
