-- A step of a row, by what stands in place of its head.
use denote.Bor.{Bor}
use Rattle.std.proofs.Common.{◌≡◌, ◌<◌, ℕ, ◌+◌, ◌-◌, true, false, List, [], ◌∷◌, ◌++◌, map, take, drop, length, get_or, min, refl, ap, sym, ◌∙◌, arith, Option, Some, cond, subst, append_assoc, append-nil, slice_get, Result, Ok, Err, OnOk}
use Rattle.std.specs.List.{All}
use Rattle.std.proofs.lemmas.List.{length-map, take_min, drop_min, take-map}
use Rattle.std.specs.List.{drop-map}
use Rattle.std.proofs.lemmas.List.Elements.{All-head, All-tail}
use Rattle.std.proofs.lemmas.Option.{get_or_from_slice_get, slice_get_within}
use Rattle.match_model.specs.Constructors.{MCtor, RowCtor, LongerShape, has_piece}
use Rattle.match_model.specs.ArenaPatterns.{MBound, de_pats_list, de_pats_of}
use Rattle.match_model.specs.Places.{MStep}
use Rattle.match_model.specs.Matrices.{MRow}
use Rattle.match_model.specs.Rows.{Head, wildcards, heads_of, choices_of, is_wild_ctor}
use Rattle.match_model.specs.Steps.{Replacement, row_replaced, replaced_at, expand_head, specialise_head, default_head}
use Rattle.pattern_arena.specs.declared.pattern.DePat.{DePat, out-DePat}
use Rattle.pattern_arena.specs.Trees.{tree, placed_ctor, placed_subs, plain_bound}
use Rattle.pattern_arena.proofs.TreeFacts.{tree_out}
use Rattle.keyed_matrix.specs.declared.rows.KeyedRow.{KeyedRow}
use Rattle.keyed_matrix.specs.Views.{plain_head, plain_heads, plain_row, plain_rows}
use Rattle.keyed_matrix.specs.Steps.{row_at, put_at, chosen_one, chosen_rows}
use Rattle.keyed_matrix.proofs.Replaced.{replacements-of, get-map, map-map}

-- the rows of what the step says of the head
pub row-of : {T : Type 0} (f : Head T → List (Replacement T)) (place : List MStep) (i : ℕ) (row : KeyedRow T)
    (h : Option (Bor (DePat T))) → slice_get (plain_row row).heads i ≡ Some (plain_head h) →
    row_at f place i (plain_row row)
    ≡ map (row_replaced place (plain_row row)) (map (put_at i (plain_heads row.heads.items)) (f (plain_head h)))
row-of {T} f place i row h e =
    let heads = plain_heads row.heads.items in
    ap (map (row_replaced place (plain_row row)))
    (replacements-of f i heads (plain_head h) (slice_get_within heads i (plain_head h) e)
    ∙ ap (λ x. map (put_at i heads) (f x)) (get_or_from_slice_get heads i (plain_head h) (plain_head h) e))

-- one row, where the step says one thing
pub row-one : {T : Type 0} (f : Head T → List (Replacement T)) (place : List MStep) (i : ℕ) (row : KeyedRow T)
    (h : Option (Bor (DePat T))) (y : Replacement T) → slice_get (plain_row row).heads i ≡ Some (plain_head h) → f (plain_head h) ≡ y ∷ [] →
    row_at f place i (plain_row row)
    ≡ row_replaced place (plain_row row) (put_at i (plain_heads row.heads.items) y) ∷ []
row-one f place i row h y e k =
    row-of f place i row h e
    ∙ ap (λ ys. map (row_replaced place (plain_row row)) (map (put_at i (plain_heads row.heads.items)) ys)) k

-- no row, where it says nothing
pub row-none : {T : Type 0} (f : Head T → List (Replacement T)) (place : List MStep) (i : ℕ) (row : KeyedRow T)
    (h : Option (Bor (DePat T))) → slice_get (plain_row row).heads i ≡ Some (plain_head h) → f (plain_head h) ≡ [] →
    row_at f place i (plain_row row) ≡ []
row-none f place i row h e k =
    row-of f place i row h e
    ∙ ap (λ ys. map (row_replaced place (plain_row row)) (map (put_at i (plain_heads row.heads.items)) ys)) k

-- a row for each choice
pub row-chosen : {T : Type 0} (place : List MStep) (i : ℕ) (row : KeyedRow T) (p : Bor (DePat T)) →
    slice_get (plain_row row).heads i ≡ Some (Some (tree p.now)) →
    row_at expand_head place i (plain_row row) ≡ chosen_rows place i (plain_row row) (choices_of (tree p.now))
row-chosen {T} place i row p e =
    row-of expand_head place i row (Some p) e
    ∙ ap (map (row_replaced place (plain_row row))) (map-map (put_at i (plain_heads row.heads.items)) chosen_one
    (λ c. put_at i (plain_heads row.heads.items) (chosen_one c)) (choices_of (tree p.now)) (λ c. refl))
    ∙ map-map (row_replaced place (plain_row row)) (λ c. put_at i (plain_heads row.heads.items) (chosen_one c))
    (λ c. row_replaced place (plain_row row) (put_at i (plain_heads row.heads.items) (chosen_one c)))
    (choices_of (tree p.now)) (λ c. refl)

listed : {T : Type 0} (ps : List (DePat T)) → map Some (de_pats_list (de_pats_of (map tree ps))) ≡ map (λ p. Some (tree p)) ps
listed [] = refl
listed (p ∷ ps) = ap (λ qs. Some (tree p) ∷ qs) (listed ps)

-- what specialising says of a pattern
pub specialised-has : {T : Type 0} (piece : MCtor) (count : ℕ) (p : DePat T) →
    has_piece (placed_ctor p) piece ≡ true →
    specialise_head piece count (Some (tree p)) ≡ (record {
      heads = heads_of (placed_ctor p) (map (λ q. Some (tree q)) (placed_subs p)) count;
      chosen = [];
      binds = map plain_bound (out-DePat T p).form.now.binds.now;
    }) ∷ []
specialised-has {T} piece count p h =
    ap (λ q. specialise_head piece count (Some q)) (tree_out p)
    ∙ ap (λ b. cond b (y (map Some (de_pats_list (de_pats_of (map tree (placed_subs p))))) ∷ []) []) h
    ∙ ap (λ hs. y hs ∷ []) (listed (placed_subs p))
  where
    y : List (Head T) → Replacement T
    y hs = record {
      heads = heads_of (placed_ctor p) hs count;
      chosen = [];
      binds = map plain_bound (out-DePat T p).form.now.binds.now;
    }

pub specialised-lacks : {T : Type 0} (piece : MCtor) (count : ℕ) (p : DePat T) →
    has_piece (placed_ctor p) piece ≡ false → specialise_head piece count (Some (tree p)) ≡ []
specialised-lacks {T} piece count p h =
    ap (λ q. specialise_head piece count (Some q)) (tree_out p)
    ∙ ap (λ b. cond b (y ∷ []) []) h
  where
    y : Replacement T
    y = record {
      heads = heads_of (placed_ctor p) (map Some (de_pats_list (de_pats_of (map tree (placed_subs p))))) count;
      chosen = [];
      binds = map plain_bound (out-DePat T p).form.now.binds.now;
    }

-- what dropping says of a pattern
pub default-wild : {T : Type 0} (p : DePat T) → is_wild_ctor (placed_ctor p) ≡ true →
    default_head (Some (tree p)) ≡ (record { heads = []; chosen = []; binds = map plain_bound (out-DePat T p).form.now.binds.now }) ∷ []
default-wild {T} p h =
    ap (λ q. default_head (Some q)) (tree_out p)
    ∙ ap (λ b. cond b ((record { heads = []; chosen = []; binds = map plain_bound (out-DePat T p).form.now.binds.now }) ∷ []) []) h

pub default-other : {T : Type 0} (p : DePat T) → is_wild_ctor (placed_ctor p) ≡ false → default_head (Some (tree p)) ≡ []
default-other {T} p h =
    ap (λ q. default_head (Some q)) (tree_out p)
    ∙ ap (λ b. cond b ((record { heads = []; chosen = []; binds = map plain_bound (out-DePat T p).form.now.binds.now }) ∷ []) []) h

-- a row of a list that has more heads
pub longer-row : {T : Type 0} (i : ℕ) (rows : List (KeyedRow T)) (k : ℕ) (row : KeyedRow T) →
    All (λ r. i < length r.heads) (plain_rows rows) → k < length rows → row ≡ get_or rows k row →
    i < length (plain_row row).heads
longer-row i rows k row all l e =
    let long : length (plain_rows rows) ≡ length rows = length-map rows plain_row in
    let a = all k (plain_row row) (omega (arith, l, long)) in
    let same : get_or (plain_rows rows) k (plain_row row) ≡ plain_row row = get-map plain_row rows k row ∙ ap plain_row (sym e) in
    subst (λ (r : MRow _). i < length r.heads) same a

-- the next row of a list that has more heads, of which some rows were taken out
pub longer-next : {T : Type 0} (i : ℕ) (rows done : List (KeyedRow T)) (row : KeyedRow T) (left rest : List (KeyedRow T)) →
    All (λ r. i < length r.heads) (plain_rows rows) → done ++ left ≡ rows → left ≡ row ∷ rest →
    i < length (plain_row row).heads
longer-next {T} i rows done row left rest a e f =
    go done (subst (λ zs. All (λ r. i < length r.heads) (plain_rows zs)) (sym e ∙ ap (λ zs. done ++ zs) f) a)
  where
    go : (zs : List (KeyedRow T)) → All (λ r. i < length r.heads) (plain_rows (zs ++ row ∷ rest)) →
        i < length (plain_row row).heads
    go [] b = All-head (λ r. i < length r.heads) (plain_row row) (plain_rows rest) b
    go (z ∷ zs) b = go zs (All-tail (λ r. i < length r.heads) (plain_row z) (plain_rows (zs ++ row ∷ rest)) b)

-- the head that was found is this one
pub was-head : {T : Type 0} (hs : List (Head T)) (i : ℕ) (x y : Option (Bor (DePat T))) →
    slice_get hs i ≡ Some (plain_head x) → x ≡ y → slice_get hs i ≡ Some (plain_head y)
was-head hs i x y e same = e ∙ ap (λ z. Some (plain_head z)) same

-- a row with so many wildcards in place of a head, where nothing else is added
pub rewilded : {T : Type 0} (place : List MStep) (i n : ℕ) (r : MRow T) →
    row_replaced place r (put_at i r.heads (record { heads = wildcards n; chosen = []; binds = [] }))
    ≡ record r { heads = replaced_at i r.heads (wildcards n) }
rewilded place i n r = λ k. record r {
  heads = replaced_at i r.heads (wildcards n);
  chosen = append-nil r.chosen k;
  caught = append-nil r.caught k;
}

-- rows that were added, as other rows
pub on-rows : {A E R : Type 0} (r : Result A E) (new old xs ys : List R) → ys ≡ xs → OnOk r (new ≡ old ++ xs) →
    OnOk r (new ≡ old ++ ys)
on-rows (Ok a) new old xs ys e h = h ∙ ap (λ zs. old ++ zs) (sym e)
on-rows (Err a) new old xs ys e h = tt

pub no-rows : {R : Type 0} (old ys : List R) → ys ≡ [] → old ≡ old ++ ys
no-rows old ys e = sym (append-nil old) ∙ ap (λ zs. old ++ zs) (sym e)

-- the replacement with these heads, where nothing is chosen
abbrev pub of_heads : {T : Type 0} → List MBound → List (Head T) → List (Replacement T)
of_heads binds heads = record { heads = heads; chosen = []; binds = binds } ∷ []

-- the heads of the ends of a row, and those between them
pub ends-between : {T : Type 0} (subs : List (DePat T)) (front back count gap : ℕ) (first between all : List (Head T)) →
    gap ≡ count - front - back →
    first ≡ map (λ q. Some (tree q)) (take (min (length subs) front) subs) →
    between ≡ first ++ wildcards gap →
    all ≡ between ++ map (λ q. Some (tree q)) (drop (min (length subs) front) subs) →
    all ≡ heads_of (RowCtor (LongerShape front back)) (map (λ q. Some (tree q)) subs) count
ends-between {T} subs front back count gap first between all g f b a =
    let least : min (length subs) front ≡ min front (length subs) = omega arith in
    let start : map (λ q. Some (tree q)) (take (min (length subs) front) subs) ≡ take front (map (λ q. Some (tree q)) subs) =
    ap (λ n. map (λ q. Some (tree q)) (take n subs)) least ∙ ap (map (λ q. Some (tree q))) (take_min front subs)
    ∙ sym (take-map (λ (q : DePat T). Some (tree q)) front subs) in
    let end : map (λ q. Some (tree q)) (drop (min (length subs) front) subs) ≡ drop front (map (λ q. Some (tree q)) subs) =
    ap (λ n. map (λ q. Some (tree q)) (drop n subs)) least ∙ ap (map (λ q. Some (tree q))) (drop_min front subs)
    ∙ sym (drop-map (λ (q : DePat T). Some (tree q)) front subs) in
    let many : gap ≡ count - (front + back) = omega (arith, g) in
    a ∙ ap (λ xs. xs ++ map (λ q. Some (tree q)) (drop (min (length subs) front) subs)) (b ∙ ap (λ xs. xs ++ wildcards gap) (f ∙ start))
    ∙ ap (λ xs. (take front (map (λ q. Some (tree q)) subs) ++ wildcards gap) ++ xs) end
    ∙ ap (λ n. (take front (map (λ q. Some (tree q)) subs) ++ wildcards n) ++ drop front (map (λ q. Some (tree q)) subs)) many
    ∙ append_assoc (take front (map (λ q. Some (tree q)) subs)) (wildcards (count - (front + back)))
    (drop front (map (λ q. Some (tree q)) subs))
