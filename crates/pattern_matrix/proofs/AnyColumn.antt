-- Steps at whatever column keep what counts.
use Rattle.std.proofs.Common.{◌≡◌, ◌<◌, ℕ, zero, suc, Bool, true, not, ◌&&◌, ◌||◌, List, [], ◌∷◌, ◌++◌, map, length, nat_eq, Some, None, slice_get, refl, sym, ap, ◌∙◌, arith}
use Rattle.std.proofs.lemmas.List.{append-nil}
use Rattle.match_model.specs.Values.{MValue}
use Rattle.match_model.specs.Places.{MStep}
use Rattle.match_model.specs.Rows.{Head, Choice, choices_of}
use Rattle.match_model.specs.Steps.{Replacement, expand_head, with_others, with_head, replacements_at, replaced_at, row_replaced}
use Rattle.pattern_matrix.specs.Covering.{head_takes, row_takes}
use Rattle.pattern_matrix.specs.Counting.{Question, WantedRow, AreLong, head_passes, heads_pass, has_chosen, counts, wanted_at}
use Rattle.pattern_matrix.specs.ReachLaws.{ExpandingKeepsCounts}
use Rattle.pattern_matrix.proofs.Specials.{row-append}
use Rattle.pattern_matrix.proofs.Traces.{behind, joined, head_traces, choice_traces, choices_trace}
use Rattle.pattern_matrix.proofs.Folds.{one_counts, fold, Each, every, fold-same, fold-map, takes_in, passes_in, traces_in, has, has-append, stands_for}

-- these replacements of a head, on other values, have its traces on its value
abbrev pub Replaces : {T : Type 0} → (Head T → List (Replacement T)) → List MValue → MValue → Head T → Type 0
Replaces f us v h = (traces_in us (f h) ≡ head_traces h v) × Each (λ y. length y.heads ≡ length us) (f h)

-- the head of the column is such a one
abbrev pub HeadAt : {T : Type 0} → (Head T → Type 0) → ℕ → List (Head T) → Type 0
HeadAt P i [] = Unit {0}
HeadAt P zero (h ∷ hs) = P h
HeadAt P (suc i) (h ∷ hs) = HeadAt P i hs

-- in each row
abbrev pub HeadsAt : {T : Type 0} → (Head T → Type 0) → ℕ → List (WantedRow T) → Type 0
HeadsAt P i [] = Unit {0}
HeadsAt P i (x ∷ rows) = HeadAt P i x.row.heads × HeadsAt P i rows

pass-append : {T : Type 0} (g : Bool) (id : ℕ) (hs gs : List (Head T)) (xs ys : List MValue) → length hs ≡ length xs →
    heads_pass g id (hs ++ gs) (xs ++ ys) ≡ (heads_pass g id hs xs || heads_pass g id gs ys)
pass-append g id [] gs [] ys e = refl
pass-append g id [] gs (x ∷ xs) ys e = absurd (omega (arith, e))
pass-append g id (h ∷ hs) gs [] ys e = absurd (omega (arith, e))
pass-append g id (h ∷ hs) gs (x ∷ xs) ys e =
    ap (λ b. head_passes g id h x || b) (pass-append g id hs gs xs ys (omega (arith, e)))
    ∙ closed (head_passes g id h x) (heads_pass g id hs xs) (heads_pass g id gs ys)
  where
    closed : (a b c : Bool) → (a || (b || c)) ≡ ((a || b) || c)
    closed a b c = grind arith

-- a row whose head at a column is replaced counts as before
pub row_moved : {T : Type 0} (w g a b : Bool) (id : ℕ) (f : Head T → List (Replacement T)) (i : ℕ) (hs : List (Head T)) (vs us : List MValue) (v : MValue) (k : Bool) →
    slice_get vs i ≡ Some v → length hs ≡ length vs → HeadAt (Replaces f us v) i hs →
    fold w g a b (takes_in (replaced_at i vs us)) (passes_in g id (replaced_at i vs us)) (replacements_at f i hs) k
    ≡ one_counts w g a b (row_takes hs vs) (heads_pass g id hs vs) k
row_moved w g a b id f i [] [] us v k e l r = absurd (cc)
row_moved w g a b id f i [] (u ∷ vs) us v k e l r = absurd (omega (arith, l))
row_moved w g a b id f i (h ∷ hs) [] us v k e l r = absurd (omega (arith, l))
row_moved {T} w g a b id f zero (h ∷ hs) (u ∷ vs) us v k e l r =
    let s : u ≡ v = cc in
    fold-map w g a b (takes_in (us ++ vs)) (passes_in g id (us ++ vs)) (with_others hs) (f h) k
    ∙ fold-same w g a b (a && row_takes hs vs) (b || heads_pass g id hs vs) (λ y. row_takes (y.heads ++ hs) (us ++ vs)) (λ y. has id y.chosen || heads_pass g id (y.heads ++ hs) (us ++ vs)) (takes_in us) (passes_in g id us) (f h) k (each (f h) r.1)
    ∙ stands_for w g (a && row_takes hs vs) (b || heads_pass g id hs vs) id us (f h) h v k r.0
    ∙ closed w g a b (head_takes h v) (head_passes g id h v) (row_takes hs vs) (heads_pass g id hs vs) k
    ∙ ap (λ x. one_counts w g a b (head_takes h x && row_takes hs vs) (head_passes g id h x || heads_pass g id hs vs) k) (sym s)
  where
    closed : (w g a b t p s m k : Bool) → one_counts w g (a && s) (b || m) t p k ≡ one_counts w g a b (t && s) (p || m) k
    closed w g a b t p s m k = grind arith

    takes_other : (a t s : Bool) → (a && (t && s)) ≡ ((a && s) && t)
    takes_other a t s = grind arith

    passes_other : (b c p m : Bool) → (b || (c || (p || m))) ≡ ((b || m) || (c || p))
    passes_other b c p m = grind arith

    each : (ys : List (Replacement T)) → Each (λ y. length y.heads ≡ length us) ys →
        Each (λ y. ((a && row_takes (y.heads ++ hs) (us ++ vs)) ≡ ((a && row_takes hs vs) && row_takes y.heads us))
        × ((b || (has id y.chosen || heads_pass g id (y.heads ++ hs) (us ++ vs))) ≡ ((b || heads_pass g id hs vs) || (has id y.chosen || heads_pass g id y.heads us)))) ys
    each [] h = tt
    each (y ∷ ys) h = (
      (
        ap (λ x. a && x) (row-append y.heads hs us vs h.0) ∙ takes_other a (row_takes y.heads us) (row_takes hs vs),
        ap (λ x. b || (has id y.chosen || x)) (pass-append g id y.heads hs us vs h.0) ∙ passes_other b (has id y.chosen) (heads_pass g id y.heads us) (heads_pass g id hs vs),
      ),
      each ys h.1,
    )
row_moved {T} w g a b id f (suc i) (h ∷ hs) (u ∷ vs) us v k e l r =
    let ws = replaced_at i vs us in
    fold-map w g a b (takes_in (u ∷ ws)) (passes_in g id (u ∷ ws)) (with_head h) (replacements_at f i hs) k
    ∙ fold-same w g a b (a && head_takes h u) (b || head_passes g id h u) (λ y. head_takes h u && row_takes y.heads ws) (λ y. has id y.chosen || (head_passes g id h u || heads_pass g id y.heads ws)) (takes_in ws) (passes_in g id ws) (replacements_at f i hs) k
    (every (λ y. ((a && (head_takes h u && row_takes y.heads ws)) ≡ ((a && head_takes h u) && row_takes y.heads ws))
    × ((b || (has id y.chosen || (head_passes g id h u || heads_pass g id y.heads ws))) ≡ ((b || head_passes g id h u) || (has id y.chosen || heads_pass g id y.heads ws))))
    (λ y. (takes_other a (head_takes h u) (row_takes y.heads ws), passes_other b (has id y.chosen) (head_passes g id h u) (heads_pass g id y.heads ws))) (replacements_at f i hs))
    ∙ row_moved w g (a && head_takes h u) (b || head_passes g id h u) id f i hs vs us v k e (omega (arith, l)) r
    ∙ closed w g a b (head_takes h u) (head_passes g id h u) (row_takes hs vs) (heads_pass g id hs vs) k
  where
    closed : (w g a b t p s m k : Bool) → one_counts w g (a && t) (b || p) s m k ≡ one_counts w g a b (t && s) (p || m) k
    closed w g a b t p s m k = grind arith

    takes_other : (a t s : Bool) → (a && (t && s)) ≡ ((a && t) && s)
    takes_other a t s = grind arith

    passes_other : (b c p m : Bool) → (b || (c || (p || m))) ≡ ((b || p) || (c || m))
    passes_other b c p m = grind arith

-- rows

one_row : {T : Type 0} (q : Question) (x : WantedRow T) (rows : List (WantedRow T)) (vs : List MValue) →
    counts q (x ∷ rows) vs
    ≡ one_counts (x.wanted && nat_eq q.arm x.row.arm) x.row.guarded true (has_chosen q x.row.chosen) (row_takes x.row.heads vs) (heads_pass x.row.guarded q.id x.row.heads vs) (counts q rows vs)
one_row q x rows vs = closed x.wanted (nat_eq q.arm x.row.arm) x.row.guarded (row_takes x.row.heads vs) (has_chosen q x.row.chosen) (heads_pass x.row.guarded q.id x.row.heads vs) (counts q rows vs)
  where
    closed : (w n g t b p k : Bool) → ((w && (n && (t && (b || p)))) || (not (not g && t) && k)) ≡ one_counts (w && n) g true b t p k
    closed w n g t b p k = grind arith

-- replacements of a row, with other rows behind them
pub these_rows : {T : Type 0} (q : Question) (place : List MStep) (x : WantedRow T) (ys : List (Replacement T)) (rest : List (WantedRow T)) (vs : List MValue) →
    counts q (map (λ y. record { row = row_replaced place x.row y; wanted = x.wanted }) ys ++ rest) vs
    ≡ fold (x.wanted && nat_eq q.arm x.row.arm) x.row.guarded true (has_chosen q x.row.chosen) (takes_in vs) (passes_in x.row.guarded q.id vs) ys (counts q rest vs)
these_rows q place x [] rest vs = refl
these_rows {T} q place x (y ∷ ys) rest vs =
    let w = x.wanted && nat_eq q.arm x.row.arm in
    let g = x.row.guarded in
    let k = fold w g true (has_chosen q x.row.chosen) (takes_in vs) (passes_in g q.id vs) ys (counts q rest vs) in
    let y' : WantedRow T = record { row = row_replaced place x.row y; wanted = x.wanted } in
    one_row q y' (map (λ y. record { row = row_replaced place x.row y; wanted = x.wanted }) ys ++ rest) vs
    ∙ ap (one_counts w g true (has_chosen q (x.row.chosen ++ y.chosen)) (row_takes y.heads vs) (heads_pass g q.id y.heads vs)) (these_rows q place x ys rest vs)
    ∙ ap (λ c. one_counts w g true (q.whole || c) (row_takes y.heads vs) (heads_pass g q.id y.heads vs) k) (has-append q.id x.row.chosen y.chosen)
    ∙ closed w g q.whole (has q.id x.row.chosen) (has q.id y.chosen) (row_takes y.heads vs) (heads_pass g q.id y.heads vs) k
  where
    closed : (w g e b c t p k : Bool) → one_counts w g true (e || (b || c)) t p k ≡ one_counts w g true (e || b) t (c || p) k
    closed w g e b c t p k = grind arith

-- rows whose heads at a column are replaced, all by what has their traces, count as before
pub replaced_counts : {T : Type 0} (q : Question) (f : Head T → List (Replacement T)) (place : List MStep) (i : ℕ) (rows : List (WantedRow T)) (vs us : List MValue) (v : MValue) →
    slice_get vs i ≡ Some v → AreLong (length vs) rows → HeadsAt (Replaces f us v) i rows →
    counts q (wanted_at f place i rows) (replaced_at i vs us) ≡ counts q rows vs
replaced_counts q f place i [] vs us v e l r = refl
replaced_counts q f place i (x ∷ rows) vs us v e l r =
    let ws = replaced_at i vs us in
    let w = x.wanted && nat_eq q.arm x.row.arm in
    let g = x.row.guarded in
    let b = has_chosen q x.row.chosen in
    these_rows q place x (replacements_at f i x.row.heads) (wanted_at f place i rows) ws
    ∙ ap (fold w g true b (takes_in ws) (passes_in g q.id ws) (replacements_at f i x.row.heads)) (replaced_counts q f place i rows vs us v e l.1 r.1)
    ∙ row_moved w g true b q.id f i x.row.heads vs us v (counts q rows vs) e l.0 r.0
    ∙ sym (one_row q x rows vs)

-- expanding

joined_end : (ts : List (List ℕ)) → joined ts ([] ∷ []) ≡ ts
joined_end [] = refl
joined_end (t ∷ ts) = ap (λ x. x ∷ joined ts ([] ∷ [])) (append-nil t) ∙ ap (λ xs. t ∷ xs) (joined_end ts)

choices_stand : {T : Type 0} (v : MValue) (cs : List (Choice T)) →
    traces_in (v ∷ []) (map (λ c. record { heads = Some c.pat ∷ []; chosen = c.chosen; binds = c.binds }) cs) ≡ choice_traces v cs
choices_stand v [] = refl
choices_stand v (c ∷ cs) =
    ap (λ ts. behind c.chosen ts ++ traces_in (v ∷ []) (map (λ c. record { heads = Some c.pat ∷ []; chosen = c.chosen; binds = c.binds }) cs)) (joined_end (head_traces (Some c.pat) v))
    ∙ ap (λ ts. behind c.chosen (head_traces (Some c.pat) v) ++ ts) (choices_stand v cs)

choices_long : {T : Type 0} (cs : List (Choice T)) → Each (λ (y : Replacement T). length y.heads ≡ 1) (map (λ c. record { heads = Some c.pat ∷ []; chosen = c.chosen; binds = c.binds }) cs)
choices_long [] = tt
choices_long (c ∷ cs) = (refl, choices_long cs)

pub expand_replaces : {T : Type 0} (v : MValue) (h : Head T) → Replaces expand_head (v ∷ []) v h
expand_replaces v None = (refl, (refl, tt))
expand_replaces v (Some p) = (choices_stand v (choices_of p) ∙ choices_trace p v, choices_long (choices_of p))

pub head_at : {T : Type 0} (P : Head T → Type 0) → ((h : Head T) → P h) → (i : ℕ) (hs : List (Head T)) → HeadAt P i hs
head_at P f i [] = tt
head_at P f zero (h ∷ hs) = f h
head_at P f (suc i) (h ∷ hs) = head_at P f i hs

pub heads_at : {T : Type 0} (P : Head T → Type 0) → ((h : Head T) → P h) → (i : ℕ) (rows : List (WantedRow T)) → HeadsAt P i rows
heads_at P f i [] = tt
heads_at P f i (x ∷ rows) = (head_at P f i x.row.heads, heads_at P f i rows)

pub at_value : (i : ℕ) (vs : List MValue) → i < length vs → (v : MValue) × (slice_get vs i ≡ Some v) × (replaced_at i vs (v ∷ []) ≡ vs)
at_value i [] l = absurd (omega (arith, l))
at_value zero (u ∷ vs) l = (u, refl, refl)
at_value (suc i) (u ∷ vs) l = let r = at_value i vs (omega (arith, l)) in (r.0, r.1, ap (λ ws. u ∷ ws) r.2)

pub expanding_keeps : {T : Type 0} → ExpandingKeepsCounts T
expanding_keeps q place i rows vs l m =
    let r = at_value i vs l in
    ap (counts q (wanted_at expand_head place i rows)) (sym r.2)
    ∙ replaced_counts q expand_head place i rows vs (r.0 ∷ []) r.0 r.1 m (heads_at (Replaces expand_head (r.0 ∷ []) r.0) (expand_replaces r.0) i rows)
