-- Rows whose ranges are the program's: they do not run backward, and their ends can be held.
use Rattle.std.proofs.Common.{◌≡◌, ℕ, zero, suc, ◌+◌, ◌-◌, Bool, true, false, List, [], ◌∷◌, ◌++◌, map, take, drop, cond, Some, None, refl, sym, subst}
use Rattle.std.specs.List.{flat_map, All}
use Rattle.std.proofs.lemmas.List.Elements.{All-cons, All-nil}
use Rattle.match_model.specs.Constructors.{FixedShape, LongerShape, MCtor, SingleCtor, PointCtor, LaterCtor, OtherTextCtor, VariantCtor, FlagCtor, NumbersCtor, TextCtor, RowCtor, WildCtor, OrCtor, has_piece}
use Rattle.match_model.specs.ArenaPatterns.{MDePat, de_pat, MDePats, no_de_pats, more_de_pats, de_pats_list, uid_of}
use Rattle.match_model.specs.Rows.{Head, Choice, choices_of, all_choices_of, choice_among, with_binds, choices_by, wildcards, heads_of, specialised_heads, all_specialised, expand_row, row_rest, column_of}
use Rattle.match_model.specs.Made.{IsMade, IsMadePat, AreMadePats}
pub use Rattle.pattern_matrix.specs.HeadRows.{IsMadeHead, AreMadeHeads, AreMadeRows}

-- lists

heads-append : {T : Type 0} (xs ys : List (Head T)) → AreMadeHeads xs → AreMadeHeads ys → AreMadeHeads (xs ++ ys)
heads-append [] ys h k = k
heads-append (x ∷ xs) ys h k = (h.0, heads-append xs ys h.1 k)

heads-take : {T : Type 0} (n : ℕ) (xs : List (Head T)) → AreMadeHeads xs → AreMadeHeads (take n xs)
heads-take zero xs h = tt
heads-take (suc n) [] h = tt
heads-take (suc n) (x ∷ xs) h = (h.0, heads-take n xs h.1)

heads-drop : {T : Type 0} (n : ℕ) (xs : List (Head T)) → AreMadeHeads xs → AreMadeHeads (drop n xs)
heads-drop zero xs h = h
heads-drop (suc n) [] h = tt
heads-drop (suc n) (x ∷ xs) h = heads-drop n xs h.1

wilds_made : (T : Type 0) (n : ℕ) → AreMadeHeads (wildcards {T = T} n)
wilds_made T zero = tt
wilds_made T (suc n) = (tt, wilds_made T n)

subs_made : {T : Type 0} (ps : MDePats T) → AreMadePats ps → AreMadeHeads (map Some (de_pats_list ps))
subs_made no_de_pats h = tt
subs_made (more_de_pats p ps) h = (h.0, subs_made ps h.1)

pub rows-append : {T : Type 0} (xs ys : List (List (Head T))) → AreMadeRows xs → AreMadeRows ys → AreMadeRows (xs ++ ys)
rows-append [] ys h k = k
rows-append (x ∷ xs) ys h k = (h.0, rows-append xs ys h.1 k)

-- choices

abbrev AreMadeChoices : {T : Type 0} → List (Choice T) → Type 0
AreMadeChoices [] = Unit {0}
AreMadeChoices (c ∷ cs) = IsMadePat c.pat × AreMadeChoices cs

choices-append : {T : Type 0} (xs ys : List (Choice T)) → AreMadeChoices xs → AreMadeChoices ys →
    AreMadeChoices (xs ++ ys)
choices-append [] ys h k = k
choices-append (x ∷ xs) ys h k = (h.0, choices-append xs ys h.1 k)

choices-map : {T : Type 0} (f : Choice T → Choice T) → ((c : Choice T) → (f c).pat ≡ c.pat) →
    (cs : List (Choice T)) → AreMadeChoices cs → AreMadeChoices (map f cs)
choices-map f k [] h = tt
choices-map f k (c ∷ cs) h = (subst IsMadePat (sym (k c)) h.0, choices-map f k cs h.1)

keeps_pat : {T : Type 0} (subs : MDePats T) (uid : ℕ) (c : Choice T) → (choice_among subs uid c).pat ≡ c.pat
keeps_pat no_de_pats uid c = refl
keeps_pat (more_de_pats p no_de_pats) uid c = refl
keeps_pat (more_de_pats p (more_de_pats q qs)) uid c = refl

mutual
  choices_made : {T : Type 0} (p : MDePat T) → IsMadePat p → AreMadeChoices (choices_of p)
  choices_made {T} (de_pat c t uid at subs binds) h =
      go c h.0 h.1 (choices-map (with_binds binds) (λ d. refl) (all_choices_of (choice_among subs) subs) (alternatives_made (choice_among subs) (λ x d. keeps_pat subs x d) subs h.1))
    where
      go : (c : MCtor) → IsMade c → AreMadePats subs →
          AreMadeChoices (map (with_binds binds) (all_choices_of (choice_among subs) subs)) →
          AreMadeChoices (choices_by c (map (with_binds binds) (all_choices_of (choice_among subs) subs)) (record { pat = de_pat c t uid at subs binds; chosen = []; binds = [] } ∷ []))
      go OrCtor m s f = f
      go _ m s f = ((m, s), tt)

  alternatives_made : {T : Type 0} (choose : ℕ → Choice T → Choice T) →
      ((u : ℕ) (d : Choice T) → (choose u d).pat ≡ d.pat) → (ps : MDePats T) → AreMadePats ps →
      AreMadeChoices (all_choices_of choose ps)
  alternatives_made choose k no_de_pats h = tt
  alternatives_made choose k (more_de_pats p ps) h =
      choices-append (map (choose (uid_of p)) (choices_of p)) (all_choices_of choose ps) (choices-map (choose (uid_of p)) (λ d. k (uid_of p) d) (choices_of p) (choices_made p h.0)) (alternatives_made choose k ps h.1)

-- the steps keep it

spread_made : {T : Type 0} (rest : List (Head T)) (cs : List (Choice T)) → AreMadeHeads rest → AreMadeChoices cs →
    AreMadeRows (map (λ c. Some c.pat ∷ rest) cs)
spread_made rest [] h k = tt
spread_made rest (c ∷ cs) h k = ((k.0, h), spread_made rest cs h k.1)

row_made : {T : Type 0} (hs : List (Head T)) → AreMadeHeads hs → AreMadeRows (expand_row hs)
row_made [] h = (tt, tt)
row_made (None ∷ rest) h = (h, tt)
row_made (Some p ∷ rest) h = spread_made rest (choices_of p) h.1 (choices_made p h.0)

pub expand_made : {T : Type 0} (hss : List (List (Head T))) → AreMadeRows hss → AreMadeRows (flat_map expand_row hss)
expand_made [] h = tt
expand_made (hs ∷ hss) h = rows-append (expand_row hs) (flat_map expand_row hss) (row_made hs h.0) (expand_made hss h.1)

pub rests_made : {T : Type 0} (hss : List (List (Head T))) → AreMadeRows hss → AreMadeRows (map row_rest hss)
rests_made [] h = tt
rests_made ([] ∷ hss) h = (tt, rests_made hss h.1)
rests_made ((x ∷ hs) ∷ hss) h = (h.0.1, rests_made hss h.1)

pub column_made : {T : Type 0} (hss : List (List (Head T))) → AreMadeRows hss → All IsMade (column_of hss)
column_made [] h = All-nil IsMade
column_made ([] ∷ hss) h = column_made hss h.1
column_made ((None ∷ hs) ∷ hss) h = column_made hss h.1
column_made ((Some (de_pat c t uid at subs binds) ∷ hs) ∷ hss) h = go c h.0.0.0 (column_made hss h.1)
  where
    go : (c : MCtor) → IsMade c → All IsMade (column_of hss) →
        All IsMade (column_of ((Some (de_pat c t uid at subs binds) ∷ hs) ∷ hss))
    go WildCtor m k = k
    go OrCtor m k = All-cons IsMade OrCtor (column_of hss) m k
    go SingleCtor m k = All-cons IsMade SingleCtor (column_of hss) m k
    go PointCtor m k = All-cons IsMade PointCtor (column_of hss) m k
    go LaterCtor m k = All-cons IsMade LaterCtor (column_of hss) m k
    go OtherTextCtor m k = All-cons IsMade OtherTextCtor (column_of hss) m k
    go (VariantCtor i) m k = All-cons IsMade (VariantCtor i) (column_of hss) m k
    go (FlagCtor i) m k = All-cons IsMade (FlagCtor i) (column_of hss) m k
    go (NumbersCtor i) m k = All-cons IsMade (NumbersCtor i) (column_of hss) m k
    go (TextCtor i) m k = All-cons IsMade (TextCtor i) (column_of hss) m k
    go (RowCtor i) m k = All-cons IsMade (RowCtor i) (column_of hss) m k

heads_made : {T : Type 0} (c : MCtor) (hs : List (Head T)) (n : ℕ) → AreMadeHeads hs → AreMadeHeads (heads_of c hs n)
heads_made {T} (RowCtor (LongerShape f b)) hs n h =
    heads-append (take f hs) (wildcards (n - (f + b)) ++ drop f hs) (heads-take f hs h) (heads-append (wildcards (n - (f + b))) (drop f hs) (wilds_made T (n - (f + b))) (heads-drop f hs h))
heads_made (RowCtor (FixedShape m)) hs n h = h
heads_made {T} WildCtor hs n h = wilds_made T n
heads_made OrCtor hs n h = h
heads_made SingleCtor hs n h = h
heads_made PointCtor hs n h = h
heads_made LaterCtor hs n h = h
heads_made OtherTextCtor hs n h = h
heads_made (VariantCtor i) hs n h = h
heads_made (FlagCtor i) hs n h = h
heads_made (NumbersCtor i) hs n h = h
heads_made (TextCtor i) hs n h = h

special_one : {T : Type 0} (piece : MCtor) (n : ℕ) (hs : List (Head T)) → AreMadeHeads hs →
    AreMadeRows (specialised_heads piece n hs)
special_one piece n [] h = tt
special_one {T} piece n (None ∷ rest) h = (heads-append (wildcards n) rest (wilds_made T n) h.1, tt)
special_one piece n (Some (de_pat c t uid at subs binds) ∷ rest) h = go (has_piece c piece)
  where
    go : (b : Bool) → AreMadeRows (cond b ((heads_of c (map Some (de_pats_list subs)) n ++ rest) ∷ []) [])
    go true =
        (heads-append (heads_of c (map Some (de_pats_list subs)) n) rest (heads_made c (map Some (de_pats_list subs)) n (subs_made subs h.0.1)) h.1, tt)
    go false = tt

pub special_made : {T : Type 0} (piece : MCtor) (n : ℕ) (hss : List (List (Head T))) → AreMadeRows hss →
    AreMadeRows (all_specialised piece n hss)
special_made piece n [] h = tt
special_made piece n (hs ∷ hss) h =
    rows-append (specialised_heads piece n hs) (all_specialised piece n hss) (special_one piece n hs h.0) (special_made piece n hss h.1)
