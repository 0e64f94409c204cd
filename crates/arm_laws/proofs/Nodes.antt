-- Rows of which each pattern has, with those below it, some property of its type and constructor.
use Rattle.std.proofs.Common.{◌≡◌, ℕ, zero, suc, ◌+◌, ◌-◌, Bool, true, false, List, [], ◌∷◌, ◌++◌, map, take, drop}
use Rattle.std.proofs.Common.{cond, Some, None, refl, sym, subst}
use Rattle.std.specs.Prelude.{⊤}
use Rattle.std.specs.List.{flat_map}
use Rattle.match_model.specs.Constructors.{FixedShape, LongerShape, MCtor, RowCtor, WildCtor, OrCtor, has_piece}
use Rattle.match_model.specs.Contexts.{Context}
use Rattle.match_model.specs.Lists.{Every}
use Rattle.match_model.specs.Matrices.{MColumn}
use Rattle.match_model.specs.ArenaPatterns.{MDePat, de_pat, MDePats, no_de_pats, more_de_pats, de_pats_list, uid_of}
use Rattle.match_model.specs.ArenaPatterns.{MDeArm}
use Rattle.match_model.specs.Rows.{Head, Choice, choices_of, all_choices_of, choice_among, with_binds, choices_by}
use Rattle.match_model.specs.Rows.{wildcards, heads_of, specialised_heads, all_specialised, expand_row, row_rest}
use Rattle.match_model.specs.Rows.{column_of}
use Rattle.match_model.specs.WitnessList.{row_of}
use Rattle.pattern_matrix.specs.HeadRows.{AllTyped}
use Rattle.arm_laws.specs.Near.{HasNodes, HaveNodes}

module _ {T : Type 0} (P : T → MCtor → Type 0) where
  -- the same of a head, of a row, and of rows
  abbrev pub IsHead : Head T → Type 0
  IsHead None = ⊤
  IsHead (Some p) = HasNodes P p

  abbrev pub AreHeads : List (Head T) → Type 0
  AreHeads [] = ⊤
  AreHeads (h ∷ hs) = IsHead h × AreHeads hs

  abbrev pub AreRows : List (List (Head T)) → Type 0
  AreRows [] = ⊤
  AreRows (hs ∷ hss) = AreHeads hs × AreRows hss

  -- lists

  heads-append : (xs ys : List (Head T)) → AreHeads xs → AreHeads ys → AreHeads (xs ++ ys)
  heads-append [] ys h k = k
  heads-append (x ∷ xs) ys h k = (h.0, heads-append xs ys h.1 k)

  heads-take : (n : ℕ) (xs : List (Head T)) → AreHeads xs → AreHeads (take n xs)
  heads-take zero xs h = tt
  heads-take (suc n) [] h = tt
  heads-take (suc n) (x ∷ xs) h = (h.0, heads-take n xs h.1)

  heads-drop : (n : ℕ) (xs : List (Head T)) → AreHeads xs → AreHeads (drop n xs)
  heads-drop zero xs h = h
  heads-drop (suc n) [] h = tt
  heads-drop (suc n) (x ∷ xs) h = heads-drop n xs h.1

  wilds : (n : ℕ) → AreHeads (wildcards n)
  wilds zero = tt
  wilds (suc n) = (tt, wilds n)

  subs_heads : (ps : MDePats T) → HaveNodes P ps → AreHeads (map Some (de_pats_list ps))
  subs_heads no_de_pats h = tt
  subs_heads (more_de_pats p ps) h = (h.0, subs_heads ps h.1)

  rows-append : (xs ys : List (List (Head T))) → AreRows xs → AreRows ys → AreRows (xs ++ ys)
  rows-append [] ys h k = k
  rows-append (x ∷ xs) ys h k = (h.0, rows-append xs ys h.1 k)

  -- choices

  abbrev AreChoices : List (Choice T) → Type 0
  AreChoices [] = ⊤
  AreChoices (c ∷ cs) = HasNodes P c.pat × AreChoices cs

  choices-append : (xs ys : List (Choice T)) → AreChoices xs → AreChoices ys → AreChoices (xs ++ ys)
  choices-append [] ys h k = k
  choices-append (x ∷ xs) ys h k = (h.0, choices-append xs ys h.1 k)

  choices-map : (f : Choice T → Choice T) → ((c : Choice T) → (f c).pat ≡ c.pat) → (cs : List (Choice T)) →
      AreChoices cs → AreChoices (map f cs)
  choices-map f k [] h = tt
  choices-map f k (c ∷ cs) h = (subst (HasNodes P) (sym (k c)) h.0, choices-map f k cs h.1)

  keeps_pat : (subs : MDePats T) (uid : ℕ) (c : Choice T) → (choice_among subs uid c).pat ≡ c.pat
  keeps_pat no_de_pats uid c = refl
  keeps_pat (more_de_pats p no_de_pats) uid c = refl
  keeps_pat (more_de_pats p (more_de_pats q qs)) uid c = refl

  mutual
    choices_nodes : (p : MDePat T) → HasNodes P p → AreChoices (choices_of p)
    choices_nodes (de_pat c t uid at subs binds) h =
        go c h (choices-map (with_binds binds) (λ d. refl) (all_choices_of (choice_among subs) subs)
        (alternatives_nodes (choice_among subs) (λ x d. keeps_pat subs x d) subs h.1))
      where
        go : (c : MCtor) → HasNodes P (de_pat c t uid at subs binds) →
            AreChoices (map (with_binds binds) (all_choices_of (choice_among subs) subs)) →
            AreChoices (choices_by c (map (with_binds binds) (all_choices_of (choice_among subs) subs))
            (record { pat = de_pat c t uid at subs binds; chosen = []; binds = [] } ∷ []))
        go OrCtor m f = f
        go _ m f = (m, tt)

    alternatives_nodes : (choose : ℕ → Choice T → Choice T) → ((u : ℕ) (d : Choice T) → (choose u d).pat ≡ d.pat) →
        (ps : MDePats T) → HaveNodes P ps → AreChoices (all_choices_of choose ps)
    alternatives_nodes choose k no_de_pats h = tt
    alternatives_nodes choose k (more_de_pats p ps) h =
        choices-append (map (choose (uid_of p)) (choices_of p)) (all_choices_of choose ps)
        (choices-map (choose (uid_of p)) (λ d. k (uid_of p) d) (choices_of p) (choices_nodes p h.0))
        (alternatives_nodes choose k ps h.1)

  -- the steps keep it

  spread : (rest : List (Head T)) (cs : List (Choice T)) → AreHeads rest → AreChoices cs →
      AreRows (map (λ c. Some c.pat ∷ rest) cs)
  spread rest [] h k = tt
  spread rest (c ∷ cs) h k = ((k.0, h), spread rest cs h k.1)

  expand_one : (hs : List (Head T)) → AreHeads hs → AreRows (expand_row hs)
  expand_one [] h = (tt, tt)
  expand_one (None ∷ rest) h = (h, tt)
  expand_one (Some p ∷ rest) h = spread rest (choices_of p) h.1 (choices_nodes p h.0)

  pub expand_nodes : (hss : List (List (Head T))) → AreRows hss → AreRows (flat_map expand_row hss)
  expand_nodes [] h = tt
  expand_nodes (hs ∷ hss) h =
      rows-append (expand_row hs) (flat_map expand_row hss) (expand_one hs h.0) (expand_nodes hss h.1)

  pub rests_nodes : (hss : List (List (Head T))) → AreRows hss → AreRows (map row_rest hss)
  rests_nodes [] h = tt
  rests_nodes ([] ∷ hss) h = (tt, rests_nodes hss h.1)
  rests_nodes ((x ∷ hs) ∷ hss) h = (h.0.1, rests_nodes hss h.1)

  heads_nodes : (c : MCtor) (hs : List (Head T)) (n : ℕ) → AreHeads hs → AreHeads (heads_of c hs n)
  heads_nodes (RowCtor (LongerShape f b)) hs n h =
      heads-append (take f hs) (wildcards (n - (f + b)) ++ drop f hs) (heads-take f hs h)
      (heads-append (wildcards (n - (f + b))) (drop f hs) (wilds (n - (f + b))) (heads-drop f hs h))
  heads_nodes (RowCtor (FixedShape m)) hs n h = h
  heads_nodes WildCtor hs n h = wilds n
  heads_nodes _ hs n h = h

  special_one : (piece : MCtor) (n : ℕ) (hs : List (Head T)) → AreHeads hs → AreRows (specialised_heads piece n hs)
  special_one piece n [] h = tt
  special_one piece n (None ∷ rest) h = (heads-append (wildcards n) rest (wilds n) h.1, tt)
  special_one piece n (Some (de_pat c t uid at subs binds) ∷ rest) h = go (has_piece c piece)
    where
      go : (b : Bool) → AreRows (cond b ((heads_of c (map Some (de_pats_list subs)) n ++ rest) ∷ []) [])
      go true = (
        heads-append (heads_of c (map Some (de_pats_list subs)) n) rest
            (heads_nodes c (map Some (de_pats_list subs)) n (subs_heads subs h.0.1)) h.1,
        tt,
      )
      go false = tt

  pub special_nodes : (piece : MCtor) (n : ℕ) (hss : List (List (Head T))) → AreRows hss →
      AreRows (all_specialised piece n hss)
  special_nodes piece n [] h = tt
  special_nodes piece n (hs ∷ hss) h =
      rows-append (specialised_heads piece n hs) (all_specialised piece n hss) (special_one piece n hs h.0)
      (special_nodes piece n hss h.1)

  -- the heads of a column have the property at its type
  pub column_nodes : (cx : Context T) (c : MColumn T) (cs : List (MColumn T)) (hss : List (List (Head T))) →
      AllTyped cx (c ∷ cs) hss → AreRows hss → Every (P c.type) (column_of hss)
  column_nodes cx c cs [] d h = tt
  column_nodes cx c cs ([] ∷ hss) d h = column_nodes cx c cs hss d.1 h.1
  column_nodes cx c cs ((None ∷ hs) ∷ hss) d h = column_nodes cx c cs hss d.1 h.1
  column_nodes cx c cs ((Some (de_pat x t uid at subs binds) ∷ hs) ∷ hss) d h =
      go x (subst (λ u. P u x) d.0.0.0 h.0.0.0) (column_nodes cx c cs hss d.1 h.1)
    where
      go : (x : MCtor) → P c.type x → Every (P c.type) (column_of hss) →
          Every (P c.type) (column_of ((Some (de_pat x t uid at subs binds) ∷ hs) ∷ hss))
      go WildCtor m k = k
      go _ m k = (m, k)

  -- the rows of arms
  pub arms_nodes : (arms : List (MDeArm T)) → Every (λ a. HasNodes P a.pat) arms → AreRows (flat_map row_of arms)
  arms_nodes [] h = tt
  arms_nodes (a ∷ arms) h = go a.guarded (arms_nodes arms h.1)
    where
      go : (g : Bool) → AreRows (flat_map row_of arms) →
          AreRows (row_of (record { pat = a.pat; guarded = g }) ++ flat_map row_of arms)
      go true k = k
      go false k = ((h.0, tt), k)
