-- Each step of a matrix lowers the weight of its rows, or keeps it and takes a column away.
use Rattle.std.proofs.Common.{◌≡◌, inl, inr, ◌≤◌, ◌<◌, ℕ, zero, suc, ◌+◌, ◌*◌, ◌-◌, Bool, true, false, not, ◌&&◌, ◌||◌, List, [], ◌∷◌, ◌++◌, map, take, drop, Some, None, cond, refl, sym, ap, ◌∙◌, arith}
use Rattle.std.specs.List.{flat_map, list_any, list_all}
use Rattle.std.proofs.lemmas.List.{take-append-drop}
use Rattle.std.proofs.Math.Nat.{mul_assoc, one-mul}
use Rattle.match_model.specs.Constructors.{LongerShape, MCtor, WildCtor, OrCtor, RowCtor, has_piece}
use Rattle.match_model.specs.ArenaPatterns.{MDePat, de_pat, MDePats, no_de_pats, more_de_pats, de_pats_list, uid_of}
use Rattle.match_model.specs.Places.{MStep}
use Rattle.match_model.specs.Rows.{Head, Choice, with_binds, choice_among, choices_of, all_choices_of, is_wild_ctor, is_or_ctor, starts_wild, starts_or, row_rest, wildcards, heads_of, specialised_heads}
use Rattle.match_model.specs.Matrices.{MRow, bind_at, row_with, first_binds, expand_first, first_wild, first_or}
use Rattle.match_model.specs.Weights.{weight_by, weight, weights_together, weights_product, head_weight, heads_weight, rows_weight, StepsLowerWeights}
use Rattle.match_model.proofs.Basics.{either, untrue}

-- ---- numbers

product_more : (a b c : ℕ) → a ≤ b → a * c ≤ b * c
product_more zero b c h = omega arith
product_more (suc a) zero c h = absurd (omega (arith, h))
product_more (suc a) (suc b) c h = let k : a * c ≤ b * c = product_more a b c (omega (arith, h)) in omega (arith, k)

product_less : (a b c : ℕ) → a < b → 1 ≤ c → a * c < b * c
product_less a zero c h k = absurd (omega (arith, h))
product_less a (suc b) c h k = let m : a * c ≤ b * c = product_more a b c (omega (arith, h)) in omega (arith, m, k)

product_one : (a b : ℕ) → 1 ≤ a → 1 ≤ b → 1 ≤ a * b
product_one zero b h k = absurd (omega (arith, h))
product_one (suc a) b h k = omega (arith, k)

sum_times : (a b c : ℕ) → (a + b) * c ≡ a * c + b * c
sum_times zero b c = omega arith
sum_times (suc a) b c = let e : (a + b) * c ≡ a * c + b * c = sum_times a b c in omega (arith, e)

-- ---- weights of patterns and heads

weight_by_one : (c : MCtor) (s q : ℕ) → 1 ≤ weight_by c s q
weight_by_one WildCtor s q = omega arith
weight_by_one OrCtor s q = omega arith
weight_by_one _ s q = omega arith

weight_one : {T : Type 0} (p : MDePat T) → 1 ≤ weight p
weight_one (de_pat c t uid at subs binds) = weight_by_one c (weights_together subs) (weights_product subs)

head_one : {T : Type 0} (h : Head T) → 1 ≤ head_weight h
head_one None = omega arith
head_one (Some p) = weight_one p

heads_one : {T : Type 0} (hs : List (Head T)) → 1 ≤ heads_weight hs
heads_one [] = omega arith
heads_one (h ∷ hs) = product_one (head_weight h) (heads_weight hs) (head_one h) (heads_one hs)

heads_append : {T : Type 0} (xs ys : List (Head T)) → heads_weight (xs ++ ys) ≡ heads_weight xs * heads_weight ys
heads_append [] ys = sym (one-mul (heads_weight ys))
heads_append (x ∷ xs) ys =
    ap (λ n. head_weight x * n) (heads_append xs ys) ∙ sym (mul_assoc (head_weight x) (heads_weight xs) (heads_weight ys))

wild_weight : (T : Type 0) (n : ℕ) → heads_weight (wildcards {T = T} n) ≡ 1
wild_weight T zero = refl
wild_weight T (suc n) = one-mul (heads_weight (wildcards {T = T} n)) ∙ wild_weight T n

subs_weight : {T : Type 0} (ps : MDePats T) → heads_weight (map Some (de_pats_list ps)) ≡ weights_product ps
subs_weight no_de_pats = refl
subs_weight (more_de_pats p ps) = ap (λ n. weight p * n) (subs_weight ps)

-- wildcards in the middle weigh nothing
middle_weight : {T : Type 0} (f n : ℕ) (hs : List (Head T)) → heads_weight (take f hs ++ (wildcards n ++ drop f hs)) ≡ heads_weight hs
middle_weight {T = T} f n hs =
    heads_append (take f hs) (wildcards n ++ drop f hs)
    ∙ ap (λ w. heads_weight (take f hs) * w)
    (heads_append (wildcards n) (drop f hs) ∙ ap (λ w. w * heads_weight (drop f hs)) (wild_weight T n) ∙ one-mul (heads_weight (drop f hs)))
    ∙ sym (heads_append (take f hs) (drop f hs)) ∙ ap heads_weight (take-append-drop f hs)

-- ---- specialised rows

-- the heads of a pattern's parts weigh at most what it does, and less where it is no wildcard
parts_weigh : {T : Type 0} (c piece : MCtor) (subs : MDePats T) (n : ℕ) → has_piece c piece ≡ true →
    (heads_weight (heads_of c (map Some (de_pats_list subs)) n) ≤ weight_by c (weights_together subs) (weights_product subs))
    × (is_wild_ctor c ≡ false → heads_weight (heads_of c (map Some (de_pats_list subs)) n) < weight_by c (weights_together subs) (weights_product subs))
parts_weigh {T = T} WildCtor piece subs n h = let e = wild_weight T n in (omega (arith, e), λ k. untrue (sym k))
parts_weigh OrCtor piece subs n h = untrue h
parts_weigh (RowCtor (LongerShape f b)) piece subs n h =
    let e = middle_weight f (n - (f + b)) (map Some (de_pats_list subs)) ∙ subs_weight subs in (omega (arith, e), λ k. omega (arith, e))
parts_weigh _ piece subs n h = let e = subs_weight subs in (omega (arith, e), λ k. omega (arith, e))

-- the weight of rows of heads
abbrev total : {T : Type 0} → List (List (Head T)) → ℕ
total [] = 0
total (heads ∷ rows) = heads_weight heads + total rows

-- the row of a pattern with this constructor and weight: its parts in its place, where it has the piece
kept : {T : Type 0} (c piece : MCtor) (inside rest : List (Head T)) (whole : ℕ) → 1 ≤ whole →
    (has_piece c piece ≡ true → (heads_weight inside ≤ whole) × (is_wild_ctor c ≡ false → heads_weight inside < whole)) →
    (b : Bool) → has_piece c piece ≡ b →
    (total (cond b ((inside ++ rest) ∷ []) []) ≤ whole * heads_weight rest)
    × (is_wild_ctor c ≡ false → total (cond b ((inside ++ rest) ∷ []) []) < whole * heads_weight rest)
kept c piece inside rest whole some parts false h =
    let k = product_one whole (heads_weight rest) some (heads_one rest) in (omega arith, λ m. omega (arith, k))
kept c piece inside rest whole some parts true h =
    let w = parts h in
    let e = heads_append inside rest in
    let k = product_more (heads_weight inside) whole (heads_weight rest) w.0 in (
      omega (arith, e, k),
      λ m. let l = product_less (heads_weight inside) whole (heads_weight rest) (w.1 m) (heads_one rest) in omega (arith, e, l),
    )

one_specialised : {T : Type 0} (piece : MCtor) (n : ℕ) (heads : List (Head T)) →
    (total (specialised_heads piece n heads) ≤ heads_weight heads)
    × (starts_wild heads ≡ false → total (specialised_heads piece n heads) < heads_weight heads)
one_specialised piece n [] = (omega arith, λ k. untrue (sym k))
one_specialised {T = T} piece n (None ∷ rest) =
    let e = heads_append (wildcards {T = T} n) rest ∙ ap (λ w. w * heads_weight rest) (wild_weight T n) in
    (omega (arith, e), λ k. untrue (sym k))
one_specialised {T = T} piece n (Some (de_pat c t uid at subs binds) ∷ rest) =
    kept c piece (heads_of c (map Some (de_pats_list subs)) n) rest (weight_by c (weights_together subs) (weights_product subs))
    (weight_by_one c (weights_together subs) (weights_product subs)) (parts_weigh c piece subs n) (has_piece c piece) refl

rows_append : {T : Type 0} (xs ys : List (MRow T)) → rows_weight (xs ++ ys) ≡ rows_weight xs + rows_weight ys
rows_append [] ys = omega arith
rows_append (x ∷ xs) ys = let e = rows_append xs ys in omega (arith, e)

-- rows that come from others one by one weigh no more where each does not, and less where one does
pub rows_by : {T : Type 0} (f : MRow T → List (MRow T)) → ((r : MRow T) → rows_weight (f r) ≤ heads_weight r.heads) → (rows : List (MRow T)) →
    rows_weight (flat_map f rows) ≤ rows_weight rows
rows_by f each [] = omega arith
rows_by f each (r ∷ rows) = let e = rows_append (f r) (flat_map f rows) in let k = each r in let l = rows_by f each rows in omega (arith, e, k, l)

pub rows_by_less : {T : Type 0} (f : MRow T → List (MRow T)) (falls : MRow T → Bool) → ((r : MRow T) → rows_weight (f r) ≤ heads_weight r.heads) →
    ((r : MRow T) → falls r ≡ true → rows_weight (f r) < heads_weight r.heads) → (rows : List (MRow T)) →
    list_any falls rows ≡ true → rows_weight (flat_map f rows) < rows_weight rows
rows_by_less f falls each less [] h = untrue h
rows_by_less f falls each less (r ∷ rows) h =
    let e = rows_append (f r) (flat_map f rows) in
    elim (either (falls r) (list_any falls rows) h) [
      | inl k ↦ (let a = less r k in let b = rows_by f each rows in omega (arith, e, a, b))
      | inr k ↦ (let a = each r in let b = rows_by_less f falls each less rows k in omega (arith, e, a, b))
    ]

or_behind : (a b : Bool) → b ≡ true → (a || b) ≡ true
or_behind true b h = refl
or_behind false b h = h

some_other : (p q all any : Bool) → (p ≡ false → q ≡ true) → (all ≡ false → any ≡ true) → (p && all) ≡ false → (q || any) ≡ true
some_other false q all any other behind h = rw (other refl) refl
some_other true q all any other behind h = or_behind q any (behind h)

not_all : {T : Type 0} (P Q : MRow T → Bool) → ((r : MRow T) → P r ≡ false → Q r ≡ true) → (rows : List (MRow T)) →
    list_all P rows ≡ false → list_any Q rows ≡ true
not_all P Q other [] h = untrue (sym h)
not_all P Q other (r ∷ rows) h = some_other (P r) (Q r) (list_all P rows) (list_any Q rows) (other r) (not_all P Q other rows) h

-- ---- or-patterns that are expanded

-- the weight of choices
abbrev chosen : {T : Type 0} → List (Choice T) → ℕ
chosen [] = 0
chosen (c ∷ cs) = weight c.pat + chosen cs

chosen_append : {T : Type 0} (xs ys : List (Choice T)) → chosen (xs ++ ys) ≡ chosen xs + chosen ys
chosen_append [] ys = omega arith
chosen_append (x ∷ xs) ys = let e = chosen_append xs ys in omega (arith, e)

chosen_map : {T : Type 0} (f : Choice T → Choice T) → ((c : Choice T) → (f c).pat ≡ c.pat) → (cs : List (Choice T)) → chosen (map f cs) ≡ chosen cs
chosen_map f same [] = refl
chosen_map f same (c ∷ cs) = let e = ap weight (same c) in let k = chosen_map f same cs in omega (arith, e, k)

among_same : {T : Type 0} (subs : MDePats T) (uid : ℕ) (c : Choice T) → (choice_among subs uid c).pat ≡ c.pat
among_same no_de_pats uid c = refl
among_same (more_de_pats p no_de_pats) uid c = refl
among_same (more_de_pats p (more_de_pats q qs)) uid c = refl

alone_weighs : (c : MCtor) (s q : ℕ) → is_or_ctor c ≡ false → weight_by c s q + 0 ≤ weight_by c s q
alone_weighs c s q h = omega arith

mutual
  choices_weigh : {T : Type 0} (p : MDePat T) → chosen (choices_of p) ≤ weight p
  choices_weigh (de_pat OrCtor t uid at subs binds) =
      let e = chosen_map (with_binds binds) (λ c. refl) (all_choices_of (choice_among subs) subs) in
      let k = all_weigh (choice_among subs) (among_same subs) subs in omega (arith, e, k)
  choices_weigh (de_pat _ t uid at subs binds) = omega arith

  all_weigh : {T : Type 0} (choose : ℕ → Choice T → Choice T) → ((uid : ℕ) (c : Choice T) → (choose uid c).pat ≡ c.pat) → (ps : MDePats T) →
      chosen (all_choices_of choose ps) ≤ weights_together ps
  all_weigh choose same no_de_pats = omega arith
  all_weigh choose same (more_de_pats p ps) =
      let e = chosen_append (map (choose (uid_of p)) (choices_of p)) (all_choices_of choose ps) in
      let f = chosen_map (choose (uid_of p)) (same (uid_of p)) (choices_of p) in
      let k = choices_weigh p in let l = all_weigh choose same ps in omega (arith, e, f, k, l)

choices_less : {T : Type 0} (p : MDePat T) (rest : List (Head T)) → starts_or (Some p ∷ rest) ≡ true → chosen (choices_of p) < weight p
choices_less (de_pat OrCtor t uid at subs binds) rest h =
    let e = chosen_map (with_binds binds) (λ c. refl) (all_choices_of (choice_among subs) subs) in
    let k = all_weigh (choice_among subs) (among_same subs) subs in omega (arith, e, k)
choices_less (de_pat _ t uid at subs binds) rest h = untrue h

-- rows that differ in their first head alone
spread : {T : Type 0} (f : Choice T → MRow T) (rest : List (Head T)) → ((c : Choice T) → (f c).heads ≡ Some c.pat ∷ rest) → (cs : List (Choice T)) →
    rows_weight (map f cs) ≡ chosen cs * heads_weight rest
spread f rest same [] = omega arith
spread f rest same (c ∷ cs) =
    let e = ap heads_weight (same c) in let k = spread f rest same cs in
    let m = sum_times (weight c.pat) (chosen cs) (heads_weight rest) in omega (arith, e, k, m)

one_expanded : {T : Type 0} (place : List MStep) (r : MRow T) (heads : List (Head T)) → r.heads ≡ heads →
    (rows_weight (expand_first place r heads) ≤ heads_weight heads)
    × (starts_or heads ≡ true → rows_weight (expand_first place r heads) < heads_weight heads)
one_expanded place r [] e = let k = ap heads_weight e in (omega (arith, k), λ h. untrue h)
one_expanded place r (None ∷ rest) e = let k = ap heads_weight e in (omega (arith, k), λ h. untrue h)
one_expanded place r (Some p ∷ rest) e =
    let s = spread (λ c. row_with r (Some c.pat ∷ rest) c.chosen (map (bind_at place) c.binds)) rest (λ c. refl) (choices_of p) in
    let k = product_more (chosen (choices_of p)) (weight p) (heads_weight rest) (choices_weigh p) in (
      omega (arith, s, k),
      λ h. let l = product_less (chosen (choices_of p)) (weight p) (heads_weight rest) (choices_less p rest h) (heads_one rest) in omega (arith, s, l),
    )

-- ---- default rows

with_heads : {T : Type 0} (f : List (Head T) → MRow T) → ((hs : List (Head T)) → (f hs).heads ≡ hs) → (hss : List (List (Head T))) → rows_weight (map f hss) ≡ total hss
with_heads f same [] = refl
with_heads f same (hs ∷ hss) = let e = ap heads_weight (same hs) in let k = with_heads f same hss in omega (arith, e, k)

rest_weighs : {T : Type 0} (heads : List (Head T)) → heads_weight (row_rest heads) ≤ heads_weight heads
rest_weighs [] = omega arith
rest_weighs (h ∷ heads) =
    let k = product_more 1 (head_weight h) (heads_weight heads) (head_one h) in let e = one-mul (heads_weight heads) in omega (arith, k, e)

kept_weighs : {T : Type 0} (b : Bool) (r : MRow T) (n : ℕ) → heads_weight r.heads ≤ n → rows_weight (cond b (r ∷ []) []) ≤ n
kept_weighs true r n h = omega (arith, h)
kept_weighs false r n h = omega arith

pub steps_lower : {T : Type 0} → StepsLowerWeights T
steps_lower {T = T} = record {
  expanded = λ place rows. rows_by (λ r. expand_first place r r.heads) (λ r. (one_expanded place r r.heads refl).0) rows;
  fewer_ors = λ place rows. rows_by_less (λ r. expand_first place r r.heads) first_or (λ r. (one_expanded place r r.heads refl).0)
      (λ r. (one_expanded place r r.heads refl).1) rows;
  specialised = λ place piece n rows. rows_by _ (λ r. below (specials r place piece n) (one_specialised piece n r.heads).0) rows;
  fewer_ctors = λ place piece n rows h. rows_by_less _ not_wild (λ r. below (specials r place piece n) (one_specialised piece n r.heads).0)
      (λ r k. under (specials r place piece n) ((one_specialised piece n r.heads).1 (turned (first_wild r) k))) rows
      (not_all first_wild not_wild (λ r k. ap not k) rows h);
  default = λ place rows. rows_by _ (λ r. kept_weighs (first_wild r) _ (heads_weight r.heads) (rest_weighs r.heads)) rows;
}
  where
    not_wild : MRow T → Bool
    not_wild r = not (first_wild r)

    turned : (b : Bool) → not b ≡ true → b ≡ false
    turned true h = untrue h
    turned false h = refl

    specials : (r : MRow T) (place : List MStep) (piece : MCtor) (n : ℕ) →
        rows_weight (map (λ heads. row_with r heads [] (first_binds place r.heads)) (specialised_heads piece n r.heads)) ≡ total (specialised_heads piece n r.heads)
    specials r place piece n = with_heads (λ heads. row_with r heads [] (first_binds place r.heads)) (λ hs. refl) (specialised_heads piece n r.heads)

    below : {a b c : ℕ} → a ≡ b → b ≤ c → a ≤ c
    below e h = omega (arith, e, h)

    under : {a b c : ℕ} → a ≡ b → b < c → a < c
    under e h = omega (arith, e, h)
