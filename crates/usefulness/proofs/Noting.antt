-- Columns that are noted, head by head.
use Rattle.std.proofs.Common.{◌≡◌, ℕ, zero, suc, ◌+◌, ◌≤◌, ◌<◌, ◌≢◌, Bool, true, false, ◌||◌, nat_eq, List, [], ◌∷◌, ◌++◌, map, cond, take, drop, length, get_or, set, replicate, refl, sym, ap, subst, ◌∙◌, arith, append_assoc, get_or-set_same, get_or-set_other}
use Rattle.std.proofs.lemmas.Bool.Decides.{nat_tests}
use Rattle.std.proofs.lemmas.List.{map-append, append-nil, take_all}
use Rattle.std.proofs.Math.ListN.{drop_of_length-le}
use Rattle.std.specs.List.{All, list_any, flat_map}
use Rattle.match_model.specs.ArenaPatterns.{MDePat}
use Rattle.match_model.specs.Contexts.{Open}
use Rattle.pattern_matrix.specs.declared.rows.Head.{Head}
use Rattle.pattern_matrix.specs.Sparse.{AreHeadsBelow}
use Rattle.pattern_matrix.specs.HeadLists.{kept_heads}
use Rattle.pattern_matrix.specs.Views.{plain_head, plain_heads}
use Rattle.usefulness.specs.declared.frames.Asked.{Asked}
use Rattle.usefulness.specs.declared.frames.OpenColumn.{OpenColumn}
use Rattle.usefulness.specs.Frames.{SparseAsked}
use Rattle.usefulness.specs.States.{plain_asked, plain_askeds, plain_open, plain_opens}
use Rattle.usefulness.proofs.Reading.{got_at}
use Rattle.usefulness.proofs.RowFacts.{at_get}
use Rattle.usefulness.specs.Compact.{lists_at, some_lists, used_of}

-- the one at a place, and those behind it
pub next_any : {A B : Type 0} (p : B → Bool) (f : A → B) (xs : List A) (i : ℕ) (x : A) → i < length xs → x ≡ get_or xs i x →
    list_any p (map f (drop i xs)) ≡ (p (f x) || list_any p (map f (drop (i + 1) xs)))
next_any p f [] i x l e = absurd (omega arith)
next_any p f (y ∷ ys) zero x l e = rw (sym e) refl
next_any p f (y ∷ ys) (suc i) x l e =
    let n : suc (i + 1) ≡ suc i + 1 = omega arith in
    subst (λ j. list_any p (map f (drop i ys)) ≡ (p (f x) || list_any p (map f (drop j (y ∷ ys))))) n (next_any p f ys i x (omega arith) e)

or_twice : (a b : Bool) → (a || (true || b)) ≡ true
or_twice true b = refl
or_twice false b = refl

-- one more is noted
pub noted : (marks : List Bool) (k n : ℕ) (rest whole : Bool) → k < length marks → (get_or marks n false || (nat_eq k n || rest)) ≡ whole → (get_or (set marks k true) n false || rest) ≡ whole
noted marks k n rest whole l h = go (nat_eq k n) refl
  where
    same : nat_eq k n ≡ true → k ≡ n
    same e = grind (arith, nat_tests)

    differ : nat_eq k n ≡ false → n ≢ k
    differ e = grind (arith, nat_tests)

    go : (b : Bool) → nat_eq k n ≡ b → (get_or (set marks k true) n false || rest) ≡ whole
    go true e =
        subst (λ j. (get_or (set marks k true) j false || rest) ≡ whole) (same e)
        (ap (λ b. b || rest) (get_or-set_same marks k true false l) ∙ sym (or_twice (get_or marks n false) rest) ∙ ap (λ b. get_or marks n false || (b || rest)) (sym e) ∙ h)
    go false e = let ne : n ≢ k = differ e in ap (λ b. b || rest) (get_or-set_other marks k n true false ne) ∙ ap (λ b. get_or marks n false || (b || rest)) (sym e) ∙ h

-- those of one row more
pub row_noted : (now old mine rest whole : Bool) → now ≡ (old || mine) → (old || (mine || rest)) ≡ whole → (now || rest) ≡ whole
row_noted now old mine rest whole e h = ap (λ b. b || rest) e ∙ assoc old mine rest ∙ h
  where
    assoc : (a b c : Bool) → ((a || b) || c) ≡ (a || (b || c))
    assoc true b c = refl
    assoc false b c = refl

pub none_more : (b : Bool) → (b || false) ≡ b
none_more true = refl
none_more false = refl

pub none_noted : (n c : ℕ) → get_or (replicate n false) c false ≡ false
none_noted zero c = refl
none_noted (suc n) zero = refl
none_noted (suc n) (suc c) = none_noted n c

-- columns that are used
pub used_both : {T : Type 0} (f : ℕ → Bool) (xs ys : List (ℕ × Open T)) → used_of f (xs ++ ys) ≡ used_of f xs ++ used_of f ys
used_both f [] ys = refl
used_both {T} f (x ∷ xs) ys = go (f x.0) (used_both f xs ys)
  where
    go : (b : Bool) → used_of f (xs ++ ys) ≡ used_of f xs ++ used_of f ys → cond b (x ∷ used_of f (xs ++ ys)) (used_of f (xs ++ ys)) ≡ cond b (x ∷ used_of f xs) (used_of f xs) ++ used_of f ys
    go true e = ap (λ zs. x ∷ zs) e
    go false e = e

pub used_same : {T : Type 0} (f g : ℕ → Bool) → ((c : ℕ) → f c ≡ g c) → (xs : List (ℕ × Open T)) → used_of f xs ≡ used_of g xs
used_same f g e [] = refl
used_same f g e (x ∷ xs) = ap (λ b. cond b (x ∷ used_of f xs) (used_of f xs)) (e x.0) ∙ ap (λ zs. cond (g x.0) (x ∷ zs) zs) (used_same f g e xs)

-- ---- as the code notes them

pub note_step : {T : Type 0} (heads : List (Head T)) (i : ℕ) (x : Head T) (used : List Bool) (c : ℕ) (whole : Bool) → i < length heads → x ≡ get_or heads i x → x.column < length used →
    (get_or used c false || lists_at (plain_heads (drop i heads)) c) ≡ whole → (get_or (set used x.column true) c false || lists_at (plain_heads (drop (i + 1) heads)) c) ≡ whole
note_step heads i x used c whole l e below h =
    noted used x.column c (lists_at (plain_heads (drop (i + 1) heads)) c) whole below (ap (λ b. get_or used c false || b) (sym (next_any (λ (h : ℕ × MDePat _). nat_eq h.0 c) plain_head heads i x l e)) ∙ h)

pub note_all : {T : Type 0} (heads : List (Head T)) (i : ℕ) (b whole : Bool) (c : ℕ) → length heads ≤ i → (b || lists_at (plain_heads (drop i heads)) c) ≡ whole → b ≡ whole
note_all heads i b whole c l h = sym (none_more b) ∙ ap (λ hs. b || lists_at (plain_heads hs) c) (sym (drop_of_length-le heads l)) ∙ h

pub rows_step : {T : Type 0} (rows : List (Asked T)) (i : ℕ) (x : Asked T) (now old : List Bool) (c : ℕ) (whole : Bool) → i < length rows → x ≡ get_or rows i x →
    get_or now c false ≡ (get_or old c false || lists_at (plain_heads (kept_heads x.row.heads)) c) →
    (get_or old c false || some_lists (plain_askeds (drop i rows)) c) ≡ whole → (get_or now c false || some_lists (plain_askeds (drop (i + 1) rows)) c) ≡ whole
rows_step rows i x now old c whole l e n h =
    row_noted (get_or now c false) (get_or old c false) (lists_at (plain_heads (kept_heads x.row.heads)) c) (some_lists (plain_askeds (drop (i + 1) rows)) c) whole n
    (ap (λ b. get_or old c false || b) (sym (next_any (λ (y : SparseAsked _). lists_at y.row.heads c) plain_asked rows i x l e)) ∙ h)

pub rows_all : {T : Type 0} (rows : List (Asked T)) (i : ℕ) (b whole : Bool) (c : ℕ) → length rows ≤ i → (b || some_lists (plain_askeds (drop i rows)) c) ≡ whole → b ≡ whole
rows_all rows i b whole c l h = sym (none_more b) ∙ ap (λ xs. b || some_lists (plain_askeds xs) c) (sym (drop_of_length-le rows l)) ∙ h

-- heads of a row that comes next are below
pub next_below : {T : Type 0} (next : ℕ) (rows : List (Asked T)) (i : ℕ) (x : Asked T) → All (λ y. AreHeadsBelow next y.row.heads) (plain_askeds rows) → i < length rows → x ≡ get_or rows i x →
    AreHeadsBelow next (plain_heads (kept_heads x.row.heads))
next_below next rows i x a l e = at_get (λ y. AreHeadsBelow next y.row.heads) (plain_askeds rows) i (plain_asked x) a (got_at plain_asked rows i x l e)

pub column_below : {T : Type 0} (n : ℕ) (heads : List (Head T)) (i : ℕ) (x : Head T) → AreHeadsBelow n (plain_heads heads) → i < length heads → x ≡ get_or heads i x → x.column < n
column_below n heads i x a l e = at_get (λ h. h.0 < n) (plain_heads heads) i (plain_head x) a (got_at plain_head heads i x l e)

-- the first ones and one more
pub take_one : {A : Type 0} (xs : List A) (i : ℕ) (x : A) → i < length xs → x ≡ get_or xs i x → take (i + 1) xs ≡ take i xs ++ x ∷ []
take_one [] i x l e = absurd (omega (arith, l))
take_one (y ∷ xs) zero x l e = ap (λ z. z ∷ []) (sym e)
take_one (y ∷ xs) (suc i) x l e =
    let k : suc i + 1 ≡ suc (i + 1) = omega arith in
    ap (λ m. take m (y ∷ xs)) k ∙ ap (λ zs. y ∷ zs) (take_one xs i x (omega (arith, l)) e)

-- one column more is kept
pub kept_step : {T : Type 0} (f : ℕ → Bool) (columns : List (OpenColumn T)) (i : ℕ) (x : OpenColumn T) (kept now : List (ℕ × Open T)) → i < length columns → x ≡ get_or columns i x →
    kept ≡ used_of f (plain_opens (take i columns)) → now ≡ kept ++ used_of f (plain_open x ∷ []) → now ≡ used_of f (plain_opens (take (i + 1) columns))
kept_step f columns i x kept now l e k n =
    n ∙ ap (λ zs. zs ++ used_of f (plain_open x ∷ [])) k ∙ sym (used_both f (plain_opens (take i columns)) (plain_open x ∷ []))
    ∙ ap (used_of f) (sym (map-append plain_open (take i columns) (x ∷ []))) ∙ ap (λ zs. used_of f (plain_opens zs)) (sym (take_one columns i x l e))

-- words are written piece by piece
both_flat : {A B : Type 0} (f : A → List B) (xs ys : List A) → flat_map f (xs ++ ys) ≡ flat_map f xs ++ flat_map f ys
both_flat f [] ys = refl
both_flat f (x ∷ xs) ys = ap (λ zs. f x ++ zs) (both_flat f xs ys) ∙ sym (append_assoc (f x) (flat_map f xs) (flat_map f ys))

pub words_step : {A B : Type 0} (view : A → B) (f : B → List ℕ) (xs : List A) (i : ℕ) (x : A) (start words now : List ℕ) → i < length xs → x ≡ get_or xs i x →
    words ≡ start ++ flat_map f (map view (take i xs)) → now ≡ words ++ f (view x) → now ≡ start ++ flat_map f (map view (take (i + 1) xs))
words_step view f xs i x start words now l e w n =
    let one : flat_map f (view x ∷ []) ≡ f (view x) = append-nil (f (view x)) in
    n ∙ ap (λ zs. zs ++ f (view x)) w ∙ append_assoc start (flat_map f (map view (take i xs))) (f (view x))
    ∙ ap (λ zs. start ++ (flat_map f (map view (take i xs)) ++ zs)) (sym one)
    ∙ ap (λ zs. start ++ zs) (sym (both_flat f (map view (take i xs)) (view x ∷ [])) ∙ ap (flat_map f) (sym (map-append view (take i xs) (x ∷ [])))
    ∙ ap (λ zs. flat_map f (map view zs)) (sym (take_one xs i x l e)))

-- when all have been gone through
pub kept_all : {T : Type 0} (f : ℕ → Bool) (columns : List (OpenColumn T)) (i : ℕ) (kept : List (ℕ × Open T)) → length columns ≤ i → kept ≡ used_of f (plain_opens (take i columns)) → kept ≡ used_of f (plain_opens columns)
kept_all f columns i kept l k = k ∙ ap (λ zs. used_of f (plain_opens zs)) (take_all i columns l)

pub words_all : {A B : Type 0} (view : A → B) (f : B → List ℕ) (xs : List A) (i : ℕ) (start words : List ℕ) → length xs ≤ i → words ≡ start ++ flat_map f (map view (take i xs)) → words ≡ start ++ flat_map f (map view xs)
words_all view f xs i start words l w = w ∙ ap (λ zs. start ++ flat_map f (map view zs)) (take_all i xs l)
