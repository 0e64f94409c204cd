-- Whichever place stands first, the same counts.
use Rattle.std.proofs.Common.{◌≡◌, ℕ, zero, suc, ◌+◌, ◌*◌, Bool, false, not, ◌&&◌, ◌||◌, List, [], ◌∷◌, map, length, nat_eq, refl, sym, ap, ◌∙◌, arith}
use Rattle.match_model.specs.Values.{MValue}
use Rattle.match_model.specs.Contexts.{Context, Open}
use Rattle.match_model.specs.Rows.{Head}
use Rattle.match_model.specs.WellTyped.{AreHeadsTyped}
use Rattle.match_model.specs.Weights.{head_weight, heads_weight, rows_weight}
use Rattle.pat_context.specs.Parts.{AreValues}
use Rattle.pattern_matrix.specs.Covering.{head_takes, row_takes}
use Rattle.pattern_matrix.specs.HeadRows.{cols, AreTypes, AllTyped, AreMadeHeads, AreMadeRows}
use Rattle.pattern_matrix.specs.Counting.{Question, WantedRow, AreLong, head_passes, heads_pass, has_chosen, counts}
use Rattle.pattern_matrix.specs.Searching.{Submatrix, heads_in, weight_of, IsFit, Comes, put_second, moved, moved_first}
use Rattle.pattern_matrix.proofs.HandingOn.{all_long}

takes_second : {T : Type 0} (h : Head T) (v : MValue) (hs : List (Head T)) (vs : List MValue) → row_takes (put_second h hs) (put_second v vs) ≡ (head_takes h v && row_takes hs vs)
takes_second h v [] [] = refl
takes_second h v [] (u ∷ vs) = closed (head_takes h u) (head_takes h v)
  where
    closed : (a b : Bool) → (a && false) ≡ (b && false)
    closed a b = grind arith
takes_second h v (x ∷ hs) [] = closed (head_takes x v) (head_takes h v)
  where
    closed : (a b : Bool) → (a && false) ≡ (b && false)
    closed a b = grind arith
takes_second h v (x ∷ hs) (u ∷ vs) = closed (head_takes x u) (head_takes h v) (row_takes hs vs)
  where
    closed : (a b c : Bool) → (a && (b && c)) ≡ (b && (a && c))
    closed a b c = grind arith

pub takes_moved : {T : Type 0} (i : ℕ) (hs : List (Head T)) (vs : List MValue) → length hs ≡ length vs → row_takes (moved i hs) (moved i vs) ≡ row_takes hs vs
takes_moved i [] [] l = refl
takes_moved i [] (v ∷ vs) l = absurd (omega (arith, l))
takes_moved i (h ∷ hs) [] l = absurd (omega (arith, l))
takes_moved zero (h ∷ hs) (v ∷ vs) l = refl
takes_moved (suc i) (h ∷ hs) (v ∷ vs) l = takes_second h v (moved i hs) (moved i vs) ∙ ap (λ b. head_takes h v && b) (takes_moved i hs vs (omega (arith, l)))

second_long : {A : Type 0} (x : A) (xs : List A) → length (put_second x xs) ≡ suc (length xs)
second_long x [] = refl
second_long x (y ∷ ys) = refl

pub moved_long : {A : Type 0} (i : ℕ) (xs : List A) → length (moved i xs) ≡ length xs
moved_long i [] = refl
moved_long zero (x ∷ xs) = refl
moved_long (suc i) (x ∷ xs) = second_long x (moved i xs) ∙ ap suc (moved_long i xs)

passes_second : {T : Type 0} (g : Bool) (id : ℕ) (h : Head T) (v : MValue) (hs : List (Head T)) (vs : List MValue) → length hs ≡ length vs →
    heads_pass g id (put_second h hs) (put_second v vs) ≡ (head_passes g id h v || heads_pass g id hs vs)
passes_second g id h v [] [] l = refl
passes_second g id h v [] (u ∷ vs) l = absurd (omega (arith, l))
passes_second g id h v (x ∷ hs) [] l = absurd (omega (arith, l))
passes_second g id h v (x ∷ hs) (u ∷ vs) l = closed (head_passes g id x u) (head_passes g id h v) (heads_pass g id hs vs)
  where
    closed : (a b c : Bool) → (a || (b || c)) ≡ (b || (a || c))
    closed a b c = grind arith

pub passes_moved : {T : Type 0} (g : Bool) (id : ℕ) (i : ℕ) (hs : List (Head T)) (vs : List MValue) → length hs ≡ length vs → heads_pass g id (moved i hs) (moved i vs) ≡ heads_pass g id hs vs
passes_moved g id i [] [] l = refl
passes_moved g id i [] (v ∷ vs) l = absurd (omega (arith, l))
passes_moved g id i (h ∷ hs) [] l = absurd (omega (arith, l))
passes_moved g id zero (h ∷ hs) (v ∷ vs) l = refl
passes_moved g id (suc i) (h ∷ hs) (v ∷ vs) l =
    passes_second g id h v (moved i hs) (moved i vs) (moved_long i hs ∙ omega (arith, l) ∙ sym (moved_long i vs))
    ∙ ap (λ b. head_passes g id h v || b) (passes_moved g id i hs vs (omega (arith, l)))

-- rows

abbrev moved_rows : {T : Type 0} → ℕ → List (WantedRow T) → List (WantedRow T)
moved_rows i rows = map (λ x. record { row = record x.row { heads = moved i x.row.heads }; wanted = x.wanted }) rows

pub counts_moved : {T : Type 0} (q : Question) (i : ℕ) (rows : List (WantedRow T)) (vs : List MValue) → AreLong (length vs) rows → counts q (moved_rows i rows) (moved i vs) ≡ counts q rows vs
counts_moved q i [] vs l = refl
counts_moved q i (x ∷ rows) vs l =
    let t = row_takes (moved i x.row.heads) (moved i vs) in
    let p = heads_pass x.row.guarded q.id (moved i x.row.heads) (moved i vs) in
    ap (λ k. (x.wanted && (nat_eq q.arm x.row.arm && (t && (has_chosen q x.row.chosen || p)))) || (not (not x.row.guarded && t) && k)) (counts_moved q i rows vs l.1)
    ∙ ap (λ t. (x.wanted && (nat_eq q.arm x.row.arm && (t && (has_chosen q x.row.chosen || p)))) || (not (not x.row.guarded && t) && counts q rows vs)) (takes_moved i x.row.heads vs l.0)
    ∙ ap (λ p. (x.wanted && (nat_eq q.arm x.row.arm && (row_takes x.row.heads vs && (has_chosen q x.row.chosen || p)))) || (not (not x.row.guarded && row_takes x.row.heads vs) && counts q rows vs)) (passes_moved x.row.guarded q.id i x.row.heads vs l.0)

-- values

second_values : {T : Type 0} (IsValue : T → Bool → MValue → Type 0) (o : Open T) (v : MValue) (places : List (Open T)) (vs : List MValue) → IsValue o.type o.sure v → AreValues IsValue places vs →
    AreValues IsValue (put_second o places) (put_second v vs)
second_values IsValue o v [] [] a b = (a, tt)
second_values IsValue o v [] (u ∷ vs) a b = absurd b
second_values IsValue o v (p ∷ places) [] a b = absurd b
second_values IsValue o v (p ∷ places) (u ∷ vs) a b = (b.0, (a, b.1))

values_moved : {T : Type 0} (IsValue : T → Bool → MValue → Type 0) (i : ℕ) (places : List (Open T)) (vs : List MValue) → AreValues IsValue places vs → AreValues IsValue (moved i places) (moved i vs)
values_moved IsValue i [] [] a = tt
values_moved IsValue i [] (v ∷ vs) a = absurd a
values_moved IsValue i (o ∷ places) [] a = absurd a
values_moved IsValue zero (o ∷ places) (v ∷ vs) a = a
values_moved IsValue (suc i) (o ∷ places) (v ∷ vs) a = second_values IsValue o v (moved i places) (moved i vs) a.0 (values_moved IsValue i places vs a.1)

-- values of the moved places come of values of the places
abbrev IsMoved : {T : Type 0} → (T → Bool → MValue → Type 0) → ℕ → List (Open T) → List MValue → Type 0
IsMoved IsValue i places ws = (vs : List MValue) × AreValues IsValue places vs × (moved i vs ≡ ws)

moved_back : {T : Type 0} (IsValue : T → Bool → MValue → Type 0) (i : ℕ) (places : List (Open T)) (ws : List MValue) → AreValues IsValue (moved i places) ws → IsMoved IsValue i places ws
moved_back IsValue i [] [] a = ([], tt, refl)
moved_back IsValue i [] (w ∷ ws) a = absurd a
moved_back IsValue zero (o ∷ places) [] a = absurd a
moved_back IsValue zero (o ∷ places) (w ∷ ws) a = (w ∷ ws, a, refl)
moved_back {T} IsValue (suc i) (o ∷ places) ws a = go (moved i places) ws a (moved_back IsValue i places)
  where
    go : (ps : List (Open T)) (ws : List MValue) → AreValues IsValue (put_second o ps) ws → ((us : List MValue) → AreValues IsValue ps us → IsMoved IsValue i places us) → IsMoved IsValue (suc i) (o ∷ places) ws
    go [] [] a f = absurd a
    go [] (w ∷ []) a f = let r = f [] tt in (w ∷ r.0, (a.0, r.1), ap (put_second w) r.2)
    go [] (w ∷ u ∷ ws) a f = absurd a.1
    go (p ∷ ps) [] a f = absurd a
    go (p ∷ ps) (w ∷ []) a f = absurd a.1
    go (p ∷ ps) (w ∷ u ∷ ws) a f = let r = f (w ∷ ws) (a.0, a.1.1) in (u ∷ r.0, (a.1.0, r.1), ap (put_second u) r.2)

-- heads

second_typed : {T : Type 0} (cx : Context T) (o : Open T) (h : Head T) (places : List (Open T)) (hs : List (Head T)) → AreHeadsTyped cx (cols (o ∷ places)) (h ∷ hs) → AreHeadsTyped cx (cols (put_second o places)) (put_second h hs)
second_typed cx o h [] [] t = (t.0, tt)
second_typed cx o h [] (x ∷ hs) t = absurd t.1
second_typed cx o h (p ∷ places) [] t = absurd t.1
second_typed cx o h (p ∷ places) (x ∷ hs) t = (t.1.0, (t.0, t.1.1))

heads_typed : {T : Type 0} (cx : Context T) (i : ℕ) (places : List (Open T)) (hs : List (Head T)) → AreHeadsTyped cx (cols places) hs → AreHeadsTyped cx (cols (moved i places)) (moved i hs)
heads_typed cx i [] [] t = tt
heads_typed cx i [] (h ∷ hs) t = absurd t
heads_typed cx i (o ∷ places) [] t = absurd t
heads_typed cx zero (o ∷ places) (h ∷ hs) t = t
heads_typed cx (suc i) (o ∷ places) (h ∷ hs) t = second_typed cx o h (moved i places) (moved i hs) (t.0, heads_typed cx i places hs t.1)

rows_typed : {T : Type 0} (cx : Context T) (i : ℕ) (places : List (Open T)) (rows : List (WantedRow T)) → AllTyped cx (cols places) (heads_in rows) → AllTyped cx (cols (moved i places)) (heads_in (moved_rows i rows))
rows_typed cx i places [] t = tt
rows_typed cx i places (x ∷ rows) t = (heads_typed cx i places x.row.heads t.0, rows_typed cx i places rows t.1)

second_made : {T : Type 0} (h : Head T) (hs : List (Head T)) → AreMadeHeads (h ∷ hs) → AreMadeHeads (put_second h hs)
second_made h [] m = m
second_made h (x ∷ hs) m = (m.1.0, (m.0, m.1.1))

heads_made : {T : Type 0} (i : ℕ) (hs : List (Head T)) → AreMadeHeads hs → AreMadeHeads (moved i hs)
heads_made i [] m = tt
heads_made zero (h ∷ hs) m = m
heads_made (suc i) (h ∷ hs) m = second_made h (moved i hs) (m.0, heads_made i hs m.1)

rows_made : {T : Type 0} (i : ℕ) (rows : List (WantedRow T)) → AreMadeRows (heads_in rows) → AreMadeRows (heads_in (moved_rows i rows))
rows_made i [] m = tt
rows_made i (x ∷ rows) m = (heads_made i x.row.heads m.0, rows_made i rows m.1)

second_types : {T : Type 0} (IsType : T → Type 0) (o : Open T) (places : List (Open T)) → AreTypes IsType (cols (o ∷ places)) → AreTypes IsType (cols (put_second o places))
second_types IsType o [] t = t
second_types IsType o (p ∷ places) t = (t.1.0, (t.0, t.1.1))

types_moved : {T : Type 0} (IsType : T → Type 0) (i : ℕ) (places : List (Open T)) → AreTypes IsType (cols places) → AreTypes IsType (cols (moved i places))
types_moved IsType i [] t = tt
types_moved IsType zero (o ∷ places) t = t
types_moved IsType (suc i) (o ∷ places) t = second_types IsType o (moved i places) (t.0, types_moved IsType i places t.1)

swap : (a b c : ℕ) → a * (b * c) ≡ b * (a * c)
swap a b c = grind arith

second_weighs : {T : Type 0} (h : Head T) (hs : List (Head T)) → heads_weight (put_second h hs) ≡ head_weight h * heads_weight hs
second_weighs h [] = refl
second_weighs h (x ∷ hs) = swap (head_weight x) (head_weight h) (heads_weight hs)

heads_weigh : {T : Type 0} (i : ℕ) (hs : List (Head T)) → heads_weight (moved i hs) ≡ heads_weight hs
heads_weigh i [] = refl
heads_weigh zero (h ∷ hs) = refl
heads_weigh (suc i) (h ∷ hs) = second_weighs h (moved i hs) ∙ ap (λ n. head_weight h * n) (heads_weigh i hs)

rows_weigh : {T : Type 0} (i : ℕ) (rows : List (WantedRow T)) → rows_weight (map (λ x. x.row) (moved_rows i rows)) ≡ rows_weight (map (λ x. x.row) rows)
rows_weigh i [] = refl
rows_weigh i (x ∷ rows) = ap (λ n. n + rows_weight (map (λ x. x.row) (moved_rows i rows))) (heads_weigh i x.row.heads) ∙ ap (λ n. heads_weight x.row.heads + n) (rows_weigh i rows)

pub weighs_moved : {T : Type 0} (i : ℕ) (s : Submatrix T) → weight_of (moved_first i s) ≡ weight_of s
weighs_moved i s = rows_weigh i s.rows

module _ {T : Type 0} (IsType : T → Type 0) (IsValue : T → Bool → MValue → Type 0) (cx : Context T) where
  pub fit_moved : (i : ℕ) (s : Submatrix T) → IsFit IsType IsValue cx s → IsFit IsType IsValue cx (moved_first i s)
  fit_moved i s f = record {
    types = types_moved IsType i s.places f.types;
    typed = rows_typed cx i s.places s.rows f.typed;
    made = rows_made i s.rows f.made;
    some = (moved i f.some.0, values_moved IsValue i s.places f.some.0 f.some.1);
  }

  pub comes_moved : (i : ℕ) (s : Submatrix T) → IsFit IsType IsValue cx s → (q : Question) → Comes IsValue q s → Comes IsValue q (moved_first i s)
  comes_moved i s f q (vs, a, e) = (moved i vs, values_moved IsValue i s.places vs a, counts_moved q i s.rows vs (all_long IsValue cx s.places s.rows vs f.typed a) ∙ e)

  pub comes_unmoved : (i : ℕ) (s : Submatrix T) → IsFit IsType IsValue cx s → (q : Question) → Comes IsValue q (moved_first i s) → Comes IsValue q s
  comes_unmoved i s f q (ws, a, e) =
      let r = moved_back IsValue i s.places ws a in
      (r.0, r.1, sym (counts_moved q i s.rows r.0 (all_long IsValue cx s.places s.rows r.0 f.typed r.1)) ∙ ap (counts q (moved_first i s).rows) r.2 ∙ e)
