-- What is left of a submatrix, where a head at its first place is no wildcard, weighs less.
use Rattle.std.proofs.Common.{◌≡◌, ◌≤◌, ◌<◌, ℕ, ◌+◌, Bool, true, false, not, ◌&&◌, ◌||◌, List, [], ◌∷◌, ◌++◌, map, cond, Some, None, refl, sym, ap, subst, ◌∙◌, arith}
use Rattle.std.specs.List.{list_all, list_any, flat_map, Contains}
use Rattle.match_model.specs.Values.{MValue}
use Rattle.match_model.specs.Constructors.{MCtor, SingleCtor, OrCtor}
use Rattle.match_model.specs.Contexts.{Context, Open}
use Rattle.match_model.specs.ArenaPatterns.{de_pat}
use Rattle.match_model.specs.Rows.{Head, is_wild, starts_wild, starts_or, row_rest, expand_row, all_specialised}
use Rattle.match_model.specs.Matrices.{MRow, expand_rows, first_wild, first_or, row_with, first_binds, specialised_rows, default_rows}
use Rattle.match_model.specs.Steps.{Replacement, expand_head, specialise_head, default_head, with_others, own_binds}
use Rattle.match_model.specs.Weights.{heads_weight, rows_weight}
use Rattle.match_model.proofs.Basics.{untrue}
use Rattle.match_model.proofs.Falling.{rows_by_less, steps_lower}
use Rattle.pattern_matrix.specs.HeadRows.{all_heads, cols, AllTyped}
use Rattle.pattern_matrix.specs.Counting.{WantedRow, wanted_at}
use Rattle.pattern_matrix.specs.Searching.{Submatrix, weight_of, heads_in, apart, left_over, entered, settled, IsSplit, all_wild, none_missing, some_missing}
use Rattle.pattern_matrix.proofs.MatrixHeads.{expand_all, special_all}
use Rattle.pattern_matrix.proofs.Splits.{replaced_heads, wanted_heads, special_heads, AreSome, expanded_heads}
use Rattle.pattern_matrix.proofs.HandingOn.{tell, some_heads, settled_heads, from-map, in_cons}

-- the weight of rows of heads
abbrev pub total : {T : Type 0} → List (List (Head T)) → ℕ
total [] = 0
total (hs ∷ hss) = heads_weight hs + total hss

pub rows_total : {T : Type 0} (rows : List (MRow T)) → rows_weight rows ≡ total (all_heads rows)
rows_total [] = refl
rows_total (r ∷ rows) = ap (λ n. heads_weight r.heads + n) (rows_total rows)

abbrev plain_rows : {T : Type 0} → List (WantedRow T) → List (MRow T)
plain_rows rows = map (λ x. x.row) rows

plain_heads : {T : Type 0} (rows : List (WantedRow T)) → all_heads (plain_rows rows) ≡ heads_in rows
plain_heads [] = refl
plain_heads (x ∷ rows) = ap (λ hss. x.row.heads ∷ hss) (plain_heads rows)

wanted_total : {T : Type 0} (rows : List (WantedRow T)) → rows_weight (plain_rows rows) ≡ total (heads_in rows)
wanted_total rows = rows_total (plain_rows rows) ∙ ap total (plain_heads rows)

apart_total : {T : Type 0} (rows : List (WantedRow T)) → AreSome (heads_in rows) → rows_weight (plain_rows (apart rows)) ≡ rows_weight (expand_rows [] (plain_rows rows))
apart_total rows s =
    wanted_total (apart rows)
    ∙ ap total (wanted_heads expand_head rows ∙ expanded_heads (heads_in rows) s ∙ ap (flat_map expand_row) (sym (plain_heads rows)) ∙ sym (expand_all [] (plain_rows rows)))
    ∙ sym (rows_total (expand_rows [] (plain_rows rows)))

special_total : {T : Type 0} (p : MCtor) (n : ℕ) (rows : List (WantedRow T)) → rows_weight (plain_rows (wanted_at (specialise_head p n) [] 0 rows)) ≡ rows_weight (specialised_rows [] p n (plain_rows rows))
special_total p n rows =
    wanted_total (wanted_at (specialise_head p n) [] 0 rows)
    ∙ ap total (wanted_heads (specialise_head p n) rows ∙ special_heads p n (heads_in rows) ∙ ap (all_specialised p n) (sym (plain_heads rows)) ∙ sym (special_all [] p n (plain_rows rows)))
    ∙ sym (rows_total (specialised_rows [] p n (plain_rows rows)))

default_total : {T : Type 0} (rows : List (WantedRow T)) → AreSome (heads_in rows) → rows_weight (plain_rows (wanted_at default_head [] 0 rows)) ≡ rows_weight (default_rows [] (plain_rows rows))
default_total rows s =
    wanted_total (wanted_at default_head [] 0 rows) ∙ ap total (wanted_heads default_head rows) ∙ same rows s
  where
    one_row : {T : Type 0} (r : MRow T) (hs : List (Head T)) (others : List (List (Head T))) (rest : List (MRow T)) → r.heads ≡ hs → (hs ≡ [] → ⊥) → total others ≡ rows_weight rest →
        total (replaced_heads default_head hs ++ others) ≡ rows_weight (cond (starts_wild hs) (row_with r (row_rest hs) [] (first_binds [] hs) ∷ []) [] ++ rest)
    one_row r [] others rest e s f = absurd (s refl)
    one_row {T} r (h ∷ hs) others rest e s f = go (is_wild h)
      where
        put : Bool → List (Replacement T)
        put b = cond b (record { heads = []; chosen = []; binds = own_binds h } ∷ []) []

        go : (b : Bool) → total (map (λ (y : Replacement T). y.heads) (map (with_others hs) (put b)) ++ others) ≡ rows_weight (cond b (row_with r hs [] (first_binds [] (h ∷ hs)) ∷ []) [] ++ rest)
        go true = ap (λ n. heads_weight hs + n) f
        go false = f

    same : {T : Type 0} (rows : List (WantedRow T)) → AreSome (heads_in rows) → total (flat_map (replaced_heads default_head) (heads_in rows)) ≡ rows_weight (default_rows [] (plain_rows rows))
    same [] s = refl
    same (x ∷ rows) s = one_row x.row x.row.heads (flat_map (replaced_heads default_head) (heads_in rows)) (default_rows [] (plain_rows rows)) refl s.0 (same rows s.1)

-- the default rows weigh less where one was no wildcard

alone_all : {T : Type 0} (r : MRow T) → first_wild r ≡ false → list_all first_wild (r ∷ []) ≡ false
alone_all r e = ap (λ b. b && true) e

default_less : {T : Type 0} (rows : List (MRow T)) → list_any (λ r. not (first_wild r)) rows ≡ true → rows_weight (default_rows [] rows) < rows_weight rows
default_less {T} rows h = rows_by_less (λ r. cond (first_wild r) (row_with r (row_rest r.heads) [] (first_binds [] r.heads) ∷ []) []) (λ r. not (first_wild r)) each less rows h
  where
    each : (r : MRow T) → rows_weight (cond (first_wild r) (row_with r (row_rest r.heads) [] (first_binds [] r.heads) ∷ []) []) ≤ heads_weight r.heads
    each r = go (first_wild r) (steps_lower.default [] (r ∷ []))
      where
        go : (b : Bool) → rows_weight (cond b (row_with r (row_rest r.heads) [] (first_binds [] r.heads) ∷ []) [] ++ []) ≤ heads_weight r.heads + 0 →
            rows_weight (cond b (row_with r (row_rest r.heads) [] (first_binds [] r.heads) ∷ []) []) ≤ heads_weight r.heads
        go true k = omega (arith, k)
        go false k = omega arith

    less : (r : MRow T) → not (first_wild r) ≡ true → rows_weight (cond (first_wild r) (row_with r (row_rest r.heads) [] (first_binds [] r.heads) ∷ []) []) < heads_weight r.heads
    less r e = go (first_wild r) refl e
      where
        go : (b : Bool) → first_wild r ≡ b → not b ≡ true → rows_weight (cond b (row_with r (row_rest r.heads) [] (first_binds [] r.heads) ∷ []) []) < heads_weight r.heads
        go true d e = untrue e
        go false d e = let k = steps_lower.fewer_ctors [] SingleCtor 0 (r ∷ []) (alone_all r d) in omega (arith, k)

-- no or-pattern stands first

expand_alone : {T : Type 0} (rows : List (WantedRow T)) → list_any first_or (plain_rows rows) ≡ false → flat_map expand_row (heads_in rows) ≡ heads_in rows
expand_alone [] e = refl
expand_alone {T} (x ∷ rows) e =
    let k = neither (first_or x.row) (list_any first_or (plain_rows rows)) e in
    ap (λ hss. hss ++ flat_map expand_row (heads_in rows)) (one_row x.row.heads k.0) ∙ ap (λ hss. x.row.heads ∷ hss) (expand_alone rows k.1)
  where
    neither : (a b : Bool) → (a || b) ≡ false → (a ≡ false) × (b ≡ false)
    neither true b e = untrue (sym e)
    neither false b e = (refl, e)

    one_row : (hs : List (Head T)) → starts_or hs ≡ false → expand_row hs ≡ hs ∷ []
    one_row [] e = refl
    one_row (None ∷ rest) e = refl
    one_row (Some (de_pat OrCtor t uid at subs binds) ∷ rest) e = untrue (sym e)
    one_row (Some (de_pat _ t uid at subs binds) ∷ rest) e = refl

wild_rows : {T : Type 0} (rows : List (WantedRow T)) → list_all first_wild (plain_rows rows) ≡ list_all starts_wild (heads_in rows)
wild_rows [] = refl
wild_rows (x ∷ rows) = ap (λ b. starts_wild x.row.heads && b) (wild_rows rows)

some_other : {T : Type 0} (rows : List (MRow T)) → list_all first_wild rows ≡ false → list_any (λ r. not (first_wild r)) rows ≡ true
some_other [] e = untrue (sym e)
some_other (r ∷ rows) e = go (first_wild r) e (some_other rows)
  where
    go : (b : Bool) → (b && list_all first_wild rows) ≡ false → (list_all first_wild rows ≡ false → list_any (λ r. not (first_wild r)) rows ≡ true) → (not b || list_any (λ r. not (first_wild r)) rows) ≡ true
    go true e f = f e
    go false e f = refl

apart_some : {T : Type 0} (cx : Context T) (o : Open T) (places : List (Open T)) (rows : List (WantedRow T)) → AllTyped cx (cols (o ∷ places)) (heads_in (apart rows)) → AreSome (heads_in (apart rows))
apart_some cx o places rows t = some_heads cx o places (heads_in (apart rows)) t

-- how a child of rows without or-patterns weighs: at most what they do, and less where one is no wildcard
abbrev Light : {T : Type 0} → List (WantedRow T) → Submatrix T → Type 0
Light rows n = (weight_of n ≤ rows_weight (plain_rows rows)) × (list_all starts_wild (heads_in rows) ≡ false → weight_of n < rows_weight (plain_rows rows))

left_light : {T : Type 0} (places : List (Open T)) (rows : List (WantedRow T)) → AreSome (heads_in rows) → Light rows (left_over places rows)
left_light places rows s =
    let e = default_total rows s in (
      let k = steps_lower.default [] (plain_rows rows) in omega (arith, e, k),
      λ w. let k = default_less (plain_rows rows) (some_other (plain_rows rows) (wild_rows rows ∙ w)) in omega (arith, e, k),
    )

entered_light : {T : Type 0} (cx : Context T) (o : Open T) (places : List (Open T)) (rows : List (WantedRow T)) (p : MCtor) → Light rows (entered cx o places rows p)
entered_light cx o places rows p =
    let n = cx.arity p o.type in
    let e = special_total p n rows in (
      let k = steps_lower.specialised [] p n (plain_rows rows) in omega (arith, e, k),
      λ w. let k = steps_lower.fewer_ctors [] p n (plain_rows rows) (wild_rows rows ∙ w) in omega (arith, e, k),
    )

settled_plain : {T : Type 0} (rows : List (WantedRow T)) → rows_weight (plain_rows (settled rows)) ≡ rows_weight (plain_rows rows)
settled_plain rows = wanted_total (settled rows) ∙ ap total (settled_heads rows) ∙ sym (wanted_total rows)

settled_light : {T : Type 0} (rows : List (WantedRow T)) (n : Submatrix T) → Light (settled rows) n → Light rows n
settled_light rows n l = let e = settled_plain rows in (
  let k = l.0 in omega (arith, e, k),
  λ w. let k = l.1 (ap (list_all starts_wild) (settled_heads rows) ∙ w) in omega (arith, e, k),
)

child_light : {T : Type 0} (IsValue : T → Bool → MValue → Type 0) (cx : Context T) (o : Open T) (places : List (Open T)) (rows : List (WantedRow T)) (children : List (Submatrix T)) →
    AreSome (heads_in rows) → IsSplit IsValue cx o places rows children → (n : Submatrix T) → Contains children n → Light rows n
child_light IsValue cx o places rows children s (all_wild w) n i = in_cons (left_over places rows) n [] (Light rows) (left_light places rows s) (λ z (k, l, d). absurd (omega (arith, l))) i
child_light IsValue cx o places rows children s (none_missing present w c) n i =
    let r = from-map (entered cx o places rows) present n i in subst (Light rows) r.2 (entered_light cx o places rows r.0)
child_light IsValue cx o places rows children s (some_missing present w c) n i =
    in_cons (left_over places rows) n (map (entered cx o places (settled rows)) present) (Light rows) (left_light places rows s)
    (λ z j. let r = from-map (entered cx o places (settled rows)) present z j in settled_light rows z (subst (Light (settled rows)) r.2 (entered_light cx o places (settled rows) r.0))) i

pub falls : {T : Type 0} (IsValue : T → Bool → MValue → Type 0) (cx : Context T) (o : Open T) (places : List (Open T)) (rows : List (WantedRow T)) (children : List (Submatrix T)) →
    AllTyped cx (cols (o ∷ places)) (heads_in rows) → AllTyped cx (cols (o ∷ places)) (heads_in (apart rows)) →
    IsSplit IsValue cx o places (apart rows) children → list_all starts_wild (heads_in rows) ≡ false → (n : Submatrix T) → Contains children n → weight_of n < rows_weight (plain_rows rows)
falls IsValue cx o places rows children t u p w n i =
    let some = some_heads cx o places (heads_in rows) t in
    let l = child_light IsValue cx o places (apart rows) children (apart_some cx o places rows u) p n i in
    let e = apart_total rows some in
    tell (list_any first_or (plain_rows rows))
    (λ h. let a = l.0 in let k = steps_lower.fewer_ors [] (plain_rows rows) h in omega (arith, a, e, k))
    (λ h.
    let same : heads_in (apart rows) ≡ heads_in rows = wanted_heads expand_head rows ∙ expanded_heads (heads_in rows) some ∙ expand_alone rows h in
    let a = l.1 (ap (list_all starts_wild) same ∙ w) in
    let k = steps_lower.expanded [] (plain_rows rows) in omega (arith, a, e, k))
