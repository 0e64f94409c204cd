-- Rows are listed one by one; those that bring nothing new and stop nothing are left out.
use Rattle.std.proofs.Common.{◌≡◌, ◌⊎◌, inl, inr, ◌≤◌, ℕ, ◌+◌, Bool, true, false, not, ◌&&◌, ◌||◌, List, [], ◌∷◌, ◌++◌, map, length, nat_eq, refl, sym, ap, subst, ◌∙◌, arith}
use Rattle.std.specs.List.{list_all, list_any}
use Rattle.std.proofs.lemmas.List.{append-nil}
use Rattle.match_model.specs.Values.{MValue}
use Rattle.match_model.specs.Contexts.{Context, Open}
use Rattle.match_model.specs.Rows.{Head, is_wild}
use Rattle.match_model.specs.Weights.{heads_weight, rows_weight}
use Rattle.match_model.proofs.Basics.{untrue, both, or_right}
use Rattle.pattern_matrix.specs.Covering.{is_some_there, row_takes}
use Rattle.pattern_matrix.specs.HeadRows.{cols, AllTyped, AreMadeRows}
use Rattle.pattern_matrix.specs.Counting.{Question, WantedRow, has_chosen, heads_pass, row_answers, row_stops, counts}
use Rattle.pattern_matrix.specs.Searching.{heads_in, counts_before, is_bare, IsDone, IsNoted, IsPart, no_more, kept, left_out, DoFor, StandFor}
use Rattle.pattern_matrix.proofs.PieceTraces.{wild_trace}
use Rattle.pattern_matrix.proofs.Folds.{some_has, head_some, head_has}

-- what stands behind

pub before_none : {T : Type 0} (q : Question) (rows : List (WantedRow T)) (vs : List MValue) → counts_before q rows vs false ≡ counts q rows vs
before_none q [] vs = refl
before_none q (x ∷ rows) vs = ap (λ b. (x.wanted && row_answers q x.row vs) || (not (row_stops x.row vs) && b)) (before_none q rows vs)

pub before_append : {T : Type 0} (q : Question) (xs ys : List (WantedRow T)) (vs : List MValue) (k : Bool) →
    counts_before q (xs ++ ys) vs k ≡ counts_before q xs vs (counts_before q ys vs k)
before_append q [] ys vs k = refl
before_append q (x ∷ xs) ys vs k = ap (λ b. (x.wanted && row_answers q x.row vs) || (not (row_stops x.row vs) && b)) (before_append q xs ys vs k)

pub counts_append : {T : Type 0} (q : Question) (xs ys : List (WantedRow T)) (vs : List MValue) → counts q (xs ++ ys) vs ≡ counts_before q xs vs (counts q ys vs)
counts_append q xs ys vs = sym (before_none q (xs ++ ys) vs) ∙ before_append q xs ys vs false ∙ ap (counts_before q xs vs) (before_none q ys vs)

-- more behind counts no less
before_more : {T : Type 0} (q : Question) (rows : List (WantedRow T)) (vs : List MValue) (k m : Bool) → (k ≡ true → m ≡ true) →
    counts_before q rows vs k ≡ true → counts_before q rows vs m ≡ true
before_more q [] vs k m f e = f e
before_more q (x ∷ rows) vs k m f e = go (x.wanted && row_answers q x.row vs) (row_stops x.row vs) (counts_before q rows vs k) (counts_before q rows vs m) e (before_more q rows vs k m f)
  where
    go : (a s c d : Bool) → (a || (not s && c)) ≡ true → (c ≡ true → d ≡ true) → (a || (not s && d)) ≡ true
    go true s c d e f = refl
    go false true c d e f = untrue e
    go false false c d e f = f e

-- parts

pub part_append : {T : Type 0} (xs ys us ws : List (List (Head T))) → IsPart xs ys → IsPart us ws → IsPart (xs ++ us) (ys ++ ws)
part_append xs ys us ws no_more q = q
part_append xs ys us ws (kept hs cs bs p) q = kept hs (cs ++ us) (bs ++ ws) (part_append cs bs us ws p q)
part_append xs ys us ws (left_out hs cs bs p) q = left_out hs (cs ++ us) (bs ++ ws) (part_append cs bs us ws p q)

pub part_self : {T : Type 0} (xs : List (List (Head T))) → IsPart xs xs
part_self [] = no_more
part_self (x ∷ xs) = kept x xs xs (part_self xs)

pub part_none : {T : Type 0} (xs : List (List (Head T))) → IsPart [] xs
part_none [] = no_more
part_none (x ∷ xs) = left_out x [] xs (part_none xs)

-- what is a part of a list is one of its rest, or begins as it does
taken_out : {T : Type 0} (xs ys : List (List (Head T))) (hs : List (Head T)) (cs : List (List (Head T))) → IsPart xs ys → ys ≡ hs ∷ cs →
    IsPart xs cs ⊎ ((us : List (List (Head T))) × (xs ≡ hs ∷ us) × IsPart us cs)
taken_out xs ys hs cs no_more e = absurd (cc)
taken_out xs ys hs cs (kept h us bs p) e =
    let f : h ≡ hs = cc in let g : bs ≡ cs = cc in inr (us, ap (λ y. y ∷ us) f, subst (IsPart us) g p)
taken_out xs ys hs cs (left_out h us bs p) e = let g : bs ≡ cs = cc in inl (subst (IsPart us) g p)

pub part_both : {T : Type 0} (xs ys zs : List (List (Head T))) → IsPart xs ys → IsPart ys zs → IsPart xs zs
part_both xs ys zs p no_more = p
part_both xs ys zs p (left_out hs cs bs q) = left_out hs xs bs (part_both xs cs bs p q)
part_both {T} xs ys zs p (kept hs cs bs q) = go (taken_out xs (hs ∷ cs) hs cs p refl) (λ us r. part_both us cs bs r q)
  where
    go : IsPart xs cs ⊎ ((us : List (List (Head T))) × (xs ≡ hs ∷ us) × IsPart us cs) → ((us : List (List (Head T))) → IsPart us cs → IsPart us bs) → IsPart xs (hs ∷ bs)
    go (inl r) f = left_out hs xs bs (f xs r)
    go (inr (us, e, r)) f = subst (λ y. IsPart y (hs ∷ bs)) (sym e) (kept hs us bs (f us r))

pub part_typed : {T : Type 0} (cx : Context T) (places : List (Open T)) (xs ys : List (List (Head T))) → IsPart xs ys → AllTyped cx (cols places) ys → AllTyped cx (cols places) xs
part_typed cx places xs ys no_more t = tt
part_typed cx places xs ys (kept hs cs bs p) t = (t.0, part_typed cx places cs bs p t.1)
part_typed cx places xs ys (left_out hs cs bs p) t = part_typed cx places cs bs p t.1

pub part_made : {T : Type 0} (xs ys : List (List (Head T))) → IsPart xs ys → AreMadeRows ys → AreMadeRows xs
part_made xs ys no_more t = tt
part_made xs ys (kept hs cs bs p) t = (t.0, part_made cs bs p t.1)
part_made xs ys (left_out hs cs bs p) t = part_made cs bs p t.1

-- the weight of rows of heads
abbrev total : {T : Type 0} → List (List (Head T)) → ℕ
total [] = 0
total (hs ∷ hss) = heads_weight hs + total hss

part_total : {T : Type 0} (xs ys : List (List (Head T))) → IsPart xs ys → total xs ≤ total ys
part_total xs ys no_more = omega arith
part_total xs ys (kept hs cs bs p) = let k = part_total cs bs p in omega (arith, k)
part_total xs ys (left_out hs cs bs p) = let k = part_total cs bs p in omega (arith, k)

wanted_total : {T : Type 0} (rows : List (WantedRow T)) → rows_weight (map (λ x. x.row) rows) ≡ total (heads_in rows)
wanted_total [] = refl
wanted_total (x ∷ rows) = ap (λ n. heads_weight x.row.heads + n) (wanted_total rows)

pub part_weighs : {T : Type 0} (xs ys : List (WantedRow T)) → IsPart (heads_in xs) (heads_in ys) → rows_weight (map (λ x. x.row) xs) ≤ rows_weight (map (λ x. x.row) ys)
part_weighs xs ys p = let a = wanted_total xs in let b = wanted_total ys in let k = part_total (heads_in xs) (heads_in ys) p in omega (arith, a, b, k)

heads_append : {T : Type 0} (xs ys : List (WantedRow T)) → heads_in (xs ++ ys) ≡ heads_in xs ++ heads_in ys
heads_append [] ys = refl
heads_append (x ∷ xs) ys = ap (λ hss. x.row.heads ∷ hss) (heads_append xs ys)

-- one row more: kept or left out
part_more : {T : Type 0} (kept_rows rows : List (WantedRow T)) (more : List (WantedRow T)) (x : WantedRow T) → IsPart (heads_in kept_rows) (heads_in rows) → IsPart (heads_in more) (x.row.heads ∷ []) →
    IsPart (heads_in (kept_rows ++ more)) (heads_in (rows ++ x ∷ []))
part_more kept_rows rows more x p q =
    subst (λ xs. IsPart xs (heads_in (rows ++ x ∷ []))) (sym (heads_append kept_rows more))
    (subst (IsPart (heads_in kept_rows ++ heads_in more)) (sym (heads_append rows (x ∷ []))) (part_append (heads_in kept_rows) (heads_in rows) (heads_in more) (x.row.heads ∷ []) p q))

-- bare rows

takes_all : {T : Type 0} (hs : List (Head T)) (vs : List MValue) → length vs ≡ length hs → list_all is_wild hs ≡ true → row_takes hs vs ≡ true
takes_all [] [] l e = refl
takes_all [] (v ∷ vs) l e = absurd (omega (arith, l))
takes_all (h ∷ hs) [] l e = absurd (omega (arith, l))
takes_all (h ∷ hs) (v ∷ vs) l e =
    let b = both (is_wild h) (list_all is_wild hs) e in
    ap (λ t. t && row_takes hs vs) (sym (head_some h v) ∙ ap is_some_there (wild_trace h v b.0)) ∙ takes_all hs vs (omega (arith, l)) b.1

passes_none : {T : Type 0} (g : Bool) (id : ℕ) (hs : List (Head T)) (vs : List MValue) → list_all is_wild hs ≡ true → heads_pass g id hs vs ≡ false
passes_none g id [] vs e = refl
passes_none g id (h ∷ hs) [] e = refl
passes_none g id (h ∷ hs) (v ∷ vs) e =
    let b = both (is_wild h) (list_all is_wild hs) e in
    ap (λ p. p || heads_pass g id hs vs) (sym (head_has g id h v) ∙ ap (some_has g id) (wild_trace h v b.0) ∙ one_none g) ∙ passes_none g id hs vs b.1
  where
    one_none : (g : Bool) → some_has g id ([] ∷ []) ≡ false
    one_none true = refl
    one_none false = refl

-- a bare row takes the values, and answers by what it has chosen
bare_answers : {T : Type 0} (q : Question) (x : WantedRow T) (vs : List MValue) → length vs ≡ length x.row.heads → is_bare x ≡ true →
    row_answers q x.row vs ≡ (nat_eq q.arm x.row.arm && has_chosen q x.row.chosen)
bare_answers q x vs l e =
    ap (λ t. nat_eq q.arm x.row.arm && (t && (has_chosen q x.row.chosen || heads_pass x.row.guarded q.id x.row.heads vs))) (takes_all x.row.heads vs l e)
    ∙ ap (λ p. nat_eq q.arm x.row.arm && (has_chosen q x.row.chosen || p)) (passes_none x.row.guarded q.id x.row.heads vs e)
    ∙ closed (nat_eq q.arm x.row.arm) (has_chosen q x.row.chosen)
  where
    closed : (a b : Bool) → (a && (b || false)) ≡ (a && b)
    closed a b = grind arith

bare_stops : {T : Type 0} (x : WantedRow T) (vs : List MValue) → length vs ≡ length x.row.heads → is_bare x ≡ true → row_stops x.row vs ≡ not x.row.guarded
bare_stops x vs l e = ap (λ t. not x.row.guarded && t) (takes_all x.row.heads vs l e) ∙ closed (not x.row.guarded)
  where
    closed : (a : Bool) → (a && true) ≡ a
    closed a = grind arith

-- ---- the steps, over rows of so many heads

pub none_listed : {T : Type 0} (is_marked : Question → Bool) (n : ℕ) → DoFor {T = T} is_marked n [] []
none_listed is_marked n = record { on = λ q vs k l e. inr e; back = λ q vs k l e. e; part = no_more }

-- marks may grow
pub listed_later : {T : Type 0} (old now : Question → Bool) (n : ℕ) (through kept_rows : List (WantedRow T)) → ((q : Question) → old q ≡ true → now q ≡ true) →
    DoFor old n through kept_rows → DoFor now n through kept_rows
listed_later old now n through kept_rows g d = record {
  on = λ q vs k l e. elim (d.on q vs k l e) [ inl m ↦ inl (g q m) | inr m ↦ inr m ];
  back = d.back;
  part = d.part;
}

one_through : {T : Type 0} (q : Question) (rows : List (WantedRow T)) (x : WantedRow T) (vs : List MValue) (k : Bool) →
    counts_before q (rows ++ x ∷ []) vs k ≡ counts_before q rows vs ((x.wanted && row_answers q x.row vs) || (not (row_stops x.row vs) && k))
one_through q rows x vs k = before_append q rows (x ∷ []) vs k

-- whether a question is answered for a row that is left out
answered : {T : Type 0} (q : Question) (x : WantedRow T) (vs : List MValue) (is_marked : Question → Bool) → (x.wanted ≡ true → row_answers q x.row vs ≡ true → is_marked q ≡ true) →
    (is_marked q ≡ true) ⊎ ((x.wanted && row_answers q x.row vs) ≡ false)
answered q x vs is_marked f = go x.wanted (row_answers q x.row vs) f
  where
    go : (w a : Bool) → (w ≡ true → a ≡ true → is_marked q ≡ true) → (is_marked q ≡ true) ⊎ ((w && a) ≡ false)
    go true true f = inl (f refl refl)
    go true false f = inr refl
    go false a f = inr refl

-- a row that brings nothing new and stops nothing is left out
gone_on : {T : Type 0} (is_marked : Question → Bool) (n : ℕ) (through kept_rows : List (WantedRow T)) (x : WantedRow T) → DoFor is_marked n through kept_rows →
    ((vs : List MValue) → length vs ≡ n → row_stops x.row vs ≡ false) →
    ((q : Question) (vs : List MValue) → length vs ≡ n → x.wanted ≡ true → row_answers q x.row vs ≡ true → is_marked q ≡ true) →
    DoFor is_marked n (through ++ x ∷ []) kept_rows
gone_on {T} is_marked n through kept_rows x d s f = record {
  on = λ q vs k l e.
      let e' = sym (one_through q through x vs k) ∙ e in
      elim (answered q x vs is_marked (f q vs l)) [
        | inl m ↦ inl m
        | inr m ↦ d.on q vs k l (subst (λ b. counts_before q through vs b ≡ true) (ap (λ a. a || (not (row_stops x.row vs) && k)) m ∙ ap (λ b. not b && k) (s vs l)) e')
      ];
  back = λ q vs k l e.
      one_through q through x vs k
      ∙ before_more q through vs k ((x.wanted && row_answers q x.row vs) || (not (row_stops x.row vs) && k)) (λ t. ap (λ b. (x.wanted && row_answers q x.row vs) || (not b && k)) (s vs l) ∙ ap (λ b. (x.wanted && row_answers q x.row vs) || b) t ∙ closed (x.wanted && row_answers q x.row vs)) (d.back q vs k l e);
  part = subst (λ xs. IsPart xs (heads_in (through ++ x ∷ []))) (ap heads_in (append-nil kept_rows)) (part_more kept_rows through [] x d.part (left_out x.row.heads [] [] no_more));
}
  where
    closed : (a : Bool) → (a || true) ≡ true
    closed a = grind arith

guarded_stops : {T : Type 0} (x : WantedRow T) (vs : List MValue) → x.row.guarded ≡ true → row_stops x.row vs ≡ false
guarded_stops x vs g = ap (λ b. not b && row_takes x.row.heads vs) g

-- a guarded row of which nothing new is wanted
pub leave_guarded : {T : Type 0} (is_marked : Question → Bool) (n : ℕ) (through kept_rows : List (WantedRow T)) (x : WantedRow T) → DoFor is_marked n through kept_rows →
    x.row.guarded ≡ true → IsDone is_marked x → DoFor is_marked n (through ++ x ∷ []) kept_rows
leave_guarded is_marked n through kept_rows x d g f =
    gone_on is_marked n through kept_rows x d (λ vs l. guarded_stops x vs g) (λ q vs l w a. f w q vs a)

-- a bare guarded row that is noted
pub note_guarded : {T : Type 0} (is_marked : Question → Bool) (n : ℕ) (through kept_rows : List (WantedRow T)) (x : WantedRow T) → DoFor is_marked n through kept_rows →
    length x.row.heads ≡ n → is_bare x ≡ true → x.row.guarded ≡ true → IsNoted is_marked x → DoFor is_marked n (through ++ x ∷ []) kept_rows
note_guarded is_marked n through kept_rows x d l b g f =
    gone_on is_marked n through kept_rows x d (λ vs m. guarded_stops x vs g) (λ q vs m w a. f w q (sym (bare_answers q x vs (m ∙ sym l) b) ∙ a))

-- the row as it is listed: wanted no more, where everything that it may answer is marked
abbrev pub as_wanted : {T : Type 0} → Bool → WantedRow T → WantedRow T
as_wanted w x = record { row = x.row; wanted = w }

-- any other row is listed
pub list_row : {T : Type 0} (is_marked : Question → Bool) (n : ℕ) (through kept_rows : List (WantedRow T)) (x : WantedRow T) (w : Bool) → DoFor is_marked n through kept_rows →
    (w ≡ true → x.wanted ≡ true) → (w ≡ false → IsDone is_marked x) → DoFor is_marked n (through ++ x ∷ []) (kept_rows ++ as_wanted w x ∷ [])
list_row {T} is_marked n through kept_rows x w d less f = record {
  on = λ q vs k l e. onward q vs k l (sym (one_through q through x vs k) ∙ e);
  back = λ q vs k l e.
      let a = row_answers q x.row vs in
      let s = row_stops x.row vs in
      one_through q through x vs k
      ∙ before_more q through vs ((w && a) || (not s && k)) ((x.wanted && a) || (not s && k)) (wider w x.wanted a (not s && k) less)
      (d.back q vs ((w && a) || (not s && k)) l (sym (before_append q kept_rows (as_wanted w x ∷ []) vs k) ∙ e));
  part = part_more kept_rows through (as_wanted w x ∷ []) x d.part (kept x.row.heads [] [] no_more);
}
  where
    wider : (w y a c : Bool) → (w ≡ true → y ≡ true) → ((w && a) || c) ≡ true → ((y && a) || c) ≡ true
    wider true true a c f e = e
    wider true false a c f e = untrue (f refl)
    wider false y true true f e = or_right (y && true) true refl
    wider false y true false f e = untrue e
    wider false y false c f e = or_right (y && false) c e

    same : (q : Question) (vs : List MValue) (k : Bool) → (is_marked q ≡ true) ⊎ (((x.wanted && row_answers q x.row vs) || (not (row_stops x.row vs) && k)) ≡ ((w && row_answers q x.row vs) || (not (row_stops x.row vs) && k)))
    same q vs k = go w x.wanted less f
      where
        go : (w y : Bool) → (w ≡ true → y ≡ true) → (w ≡ false → y ≡ true → (q : Question) (vs : List MValue) → row_answers q x.row vs ≡ true → is_marked q ≡ true) →
            (is_marked q ≡ true) ⊎ (((y && row_answers q x.row vs) || (not (row_stops x.row vs) && k)) ≡ ((w && row_answers q x.row vs) || (not (row_stops x.row vs) && k)))
        go true true less f = inr refl
        go true false less f = untrue (less refl)
        go false false less f = inr refl
        go false true less f = by (row_answers q x.row vs) refl
          where
            by : (b : Bool) → row_answers q x.row vs ≡ b → (is_marked q ≡ true) ⊎ ((row_answers q x.row vs || (not (row_stops x.row vs) && k)) ≡ (not (row_stops x.row vs) && k))
            by true e = inl (f refl refl q vs e)
            by false e = inr (ap (λ b. b || (not (row_stops x.row vs) && k)) e)

    onward : (q : Question) (vs : List MValue) (k : Bool) → length vs ≡ n → counts_before q through vs ((x.wanted && row_answers q x.row vs) || (not (row_stops x.row vs) && k)) ≡ true →
        (is_marked q ≡ true) ⊎ (counts_before q (kept_rows ++ as_wanted w x ∷ []) vs k ≡ true)
    onward q vs k l e =
        elim (d.on q vs ((x.wanted && row_answers q x.row vs) || (not (row_stops x.row vs) && k)) l e) [
          | inl m ↦ inl m
          | inr m ↦ elim (same q vs k) [ inl h ↦ inl h | inr h ↦ inr (before_append q kept_rows (as_wanted w x ∷ []) vs k ∙ subst (λ b. counts_before q kept_rows vs b ≡ true) h m) ]
        ]

-- the end of the rows
pub listed_all : {T : Type 0} (is_marked : Question → Bool) (n : ℕ) (rows kept_rows : List (WantedRow T)) → DoFor is_marked n rows kept_rows → StandFor is_marked n rows kept_rows
listed_all is_marked n rows kept_rows d = record {
  on = λ q vs l e. elim (d.on q vs false l (before_none q rows vs ∙ e)) [ inl m ↦ inl m | inr m ↦ inr (sym (before_none q kept_rows vs) ∙ m) ];
  back = λ q vs l e. sym (before_none q rows vs) ∙ d.back q vs false l (before_none q kept_rows vs ∙ e);
  part = d.part;
}

-- behind a row that stops everything nothing counts
stopped : {T : Type 0} (q : Question) (x : WantedRow T) (rest : List (WantedRow T)) (vs : List MValue) → row_stops x.row vs ≡ true → counts q (x ∷ rest) vs ≡ (x.wanted && row_answers q x.row vs)
stopped q x rest vs s = ap (λ b. (x.wanted && row_answers q x.row vs) || (not b && counts q rest vs)) s ∙ closed (x.wanted && row_answers q x.row vs)
  where
    closed : (a : Bool) → (a || false) ≡ a
    closed a = grind arith

pub close : {T : Type 0} (is_marked : Question → Bool) (n : ℕ) (through kept_rows : List (WantedRow T)) (x : WantedRow T) (rest : List (WantedRow T)) →
    DoFor is_marked n (through ++ x ∷ []) kept_rows → length x.row.heads ≡ n → is_bare x ≡ true → x.row.guarded ≡ false → StandFor is_marked n (through ++ x ∷ rest) kept_rows
close {T} is_marked n through kept_rows x rest d l b g = record {
  on = λ q vs m e. (listed_all is_marked n (through ++ x ∷ []) kept_rows d).on q vs m (same q vs m ∙ e);
  back = λ q vs m e. sym (same q vs m) ∙ (listed_all is_marked n (through ++ x ∷ []) kept_rows d).back q vs m e;
  part = part_both (heads_in kept_rows) (heads_in (through ++ x ∷ [])) (heads_in (through ++ x ∷ rest)) d.part
      (subst (λ ys. IsPart ys (heads_in (through ++ x ∷ rest))) (sym (heads_append through (x ∷ [])))
      (subst (IsPart (heads_in through ++ x.row.heads ∷ [])) (sym (heads_append through (x ∷ rest)))
      (part_append (heads_in through) (heads_in through) (x.row.heads ∷ []) (x.row.heads ∷ heads_in rest) (part_self (heads_in through)) (kept x.row.heads [] (heads_in rest) (part_none (heads_in rest))))));
}
  where
    same : (q : Question) (vs : List MValue) → length vs ≡ n → counts q (through ++ x ∷ []) vs ≡ counts q (through ++ x ∷ rest) vs
    same q vs m =
        let s : row_stops x.row vs ≡ true = bare_stops x vs (m ∙ sym l) b ∙ ap not g in
        counts_append q through (x ∷ []) vs
        ∙ ap (counts_before q through vs) (stopped q x [] vs s ∙ sym (stopped q x rest vs s))
        ∙ sym (counts_append q through (x ∷ rest) vs)

-- a bare row without a guard that is noted, where none was listed before: then nothing is left
pub note_last : {T : Type 0} (is_marked : Question → Bool) (n : ℕ) (through : List (WantedRow T)) (x : WantedRow T) (rest : List (WantedRow T)) →
    DoFor is_marked n through [] → length x.row.heads ≡ n → is_bare x ≡ true → x.row.guarded ≡ false → IsNoted is_marked x → StandFor is_marked n (through ++ x ∷ rest) []
note_last is_marked n through x rest d l b g f = record {
  on = λ q vs m e.
      let s : row_stops x.row vs ≡ true = bare_stops x vs (m ∙ sym l) b ∙ ap not g in
      elim (d.on q vs (x.wanted && row_answers q x.row vs) m (ap (counts_before q through vs) (sym (stopped q x rest vs s)) ∙ sym (counts_append q through (x ∷ rest) vs) ∙ e)) [
        | inl h ↦ inl h
        | inr h ↦ (let w = both x.wanted (row_answers q x.row vs) h in inl (f w.0 q (sym (bare_answers q x vs (m ∙ sym l) b) ∙ w.1)))
      ];
  back = λ q vs m e. untrue e;
  part = part_none (heads_in (through ++ x ∷ rest));
}

-- rows behind the last wanted one are left out
unwanted : {T : Type 0} (q : Question) (rows : List (WantedRow T)) (vs : List MValue) → list_any (λ x. x.wanted) rows ≡ false → counts q rows vs ≡ false
unwanted q [] vs e = refl
unwanted q (x ∷ rows) vs e = go x.wanted e (unwanted q rows vs)
  where
    go : (w : Bool) → (w || list_any (λ x. x.wanted) rows) ≡ false → (list_any (λ x. x.wanted) rows ≡ false → counts q rows vs ≡ false) → ((w && row_answers q x.row vs) || (not (row_stops x.row vs) && counts q rows vs)) ≡ false
    go true e f = untrue (sym e)
    go false e f = ap (λ b. not (row_stops x.row vs) && b) (f e) ∙ closed (row_stops x.row vs)
      where
        closed : (s : Bool) → (not s && false) ≡ false
        closed s = grind arith

pub cut_behind : {T : Type 0} (is_marked : Question → Bool) (n : ℕ) (rows kept_rows behind : List (WantedRow T)) → StandFor is_marked n rows (kept_rows ++ behind) →
    list_any (λ x. x.wanted) behind ≡ false → StandFor is_marked n rows kept_rows
cut_behind is_marked n rows kept_rows behind d w = record {
  on = λ q vs l e. elim (d.on q vs l e) [ inl m ↦ inl m | inr m ↦ inr (sym (same q vs) ∙ m) ];
  back = λ q vs l e. d.back q vs l (same q vs ∙ e);
  part = part_both (heads_in kept_rows) (heads_in (kept_rows ++ behind)) (heads_in rows)
      (subst (IsPart (heads_in kept_rows)) (sym (heads_append kept_rows behind))
      (subst (λ xs. IsPart xs (heads_in kept_rows ++ heads_in behind)) (append-nil (heads_in kept_rows)) (part_append (heads_in kept_rows) (heads_in kept_rows) [] (heads_in behind) (part_self (heads_in kept_rows)) (part_none (heads_in behind))))) d.part;
}
  where
    same : (q : Question) (vs : List MValue) → counts q (kept_rows ++ behind) vs ≡ counts q kept_rows vs
    same q vs = counts_append q kept_rows behind vs ∙ ap (counts_before q kept_rows vs) (unwanted q behind vs w) ∙ before_none q kept_rows vs

-- what a bare wanted row answers for, where none was listed before it, counts for all values
pub noted_counts : {T : Type 0} (is_marked : Question → Bool) (n : ℕ) (through : List (WantedRow T)) (x : WantedRow T) (rest : List (WantedRow T)) →
    DoFor is_marked n through [] → length x.row.heads ≡ n → is_bare x ≡ true → x.wanted ≡ true → (q : Question) → (nat_eq q.arm x.row.arm && has_chosen q x.row.chosen) ≡ true →
    (vs : List MValue) → length vs ≡ n → counts q (through ++ x ∷ rest) vs ≡ true
noted_counts is_marked n through x rest d l b w q a vs m =
    counts_append q through (x ∷ rest) vs
    ∙ d.back q vs (counts q (x ∷ rest) vs) m (ap (λ y. (y && row_answers q x.row vs) || (not (row_stops x.row vs) && counts q rest vs)) w ∙ ap (λ y. y || (not (row_stops x.row vs) && counts q rest vs)) (bare_answers q x vs (m ∙ sym l) b ∙ a))
