-- What stands at the column of rows that fit.
use Rattle.std.proofs.Common.{◌≡◌, ◌<◌, ℕ, zero, suc, Bool, true, false, List, [], ◌∷◌, ◌++◌, map, length, Option, Some, None, refl, ap, sym, subst, ◌∙◌, arith, slice_get, IsTrue}
use Rattle.std.proofs.lemmas.List.{length-map, map-append}
use Rattle.std.proofs.lemmas.List.Elements.{All-nil, All-cons, All-head, All-tail}
use Rattle.std.specs.List.{All, list_all}
use Rattle.std.specs.Option.{option_to_list}
use Rattle.match_model.specs.Values.{MValue}
use Rattle.match_model.specs.Constructors.{MCtor, MSet, WildCtor, belongs}
use Rattle.match_model.specs.Contexts.{Context, Open}
use Rattle.match_model.specs.ContextLaws.{PartsLaw, ValuesLaw}
use Rattle.match_model.specs.ArenaPatterns.{de_pat}
use Rattle.match_model.specs.Rows.{Head, starts_wild, first_ctor, column_of, wildcards}
use Rattle.match_model.specs.Matrices.{MRow, column_at, column_ctors}
use Rattle.match_model.specs.WellTyped.{AreHeadsTyped}
use Rattle.pattern_matrix.specs.Sparse.{SparseRow, SparseLeaf, bare_head, heads_at, leaf_row, leaf_view, leaf_views, leaf_parts, head_has}
use Rattle.pattern_matrix.specs.Spreading.{all_apart}
use Rattle.pattern_matrix.specs.Halving.{leaf_ctors}
use Rattle.pattern_matrix.proofs.Apart.{all_within}
use Rattle.pattern_matrix.proofs.Having.{column_is}
use Rattle.constructor_sets.specs.Columns.{is_head}
use Rattle.constructor_sets.specs.Present.{is_sharp_head}
use Rattle.pattern_matrix.specs.Counting.{WantedRow}
use Rattle.pattern_matrix.specs.HeadRows.{cols, AllTyped}
use Rattle.pattern_matrix.specs.Searching.{heads_in, IsFit, first_ctors, apart as taken_apart}
use Rattle.pattern_matrix.proofs.HandingOn.{apart_fit, apart_none}
use Rattle.pattern_matrix.proofs.Places.{heads_good}
use Rattle.pattern_matrix.proofs.SpecialTyped.{head_fitted}
use Rattle.usefulness.specs.Frames.{SparseAsked, asked_views, rows_of, numbers, places, sub_view}
use Rattle.usefulness.specs.Children.{bare_rows, leaf_wanted, leaves_wanted}
use Rattle.usefulness.proofs.BareRows.{fit_bare}
use Rattle.usefulness.proofs.Leaves.{leaves_apart}

-- the rows of leaves without what is wanted
leaf_same : {T : Type 0} (others : List ℕ) (xs : List (SparseAsked T)) (l : SparseLeaf T) (o : Option (SparseAsked T)) (p : Option (SparseRow T)) →
    option_to_list p ≡ map (λ (x : SparseAsked T). x.row) (option_to_list o) →
    map (λ (x : WantedRow T). x.row) (map (λ (x : SparseAsked T). record { row = leaf_row others l x.row; wanted = x.wanted }) (option_to_list o)) ≡ map (leaf_row others l) (option_to_list p)
leaf_same others xs l None p e = ap (map (leaf_row others l)) (sym e)
leaf_same others xs l (Some x) p e = ap (map (leaf_row others l)) (sym e)

row_got : {T : Type 0} (xs : List (SparseAsked T)) (k : ℕ) → option_to_list (slice_get (rows_of xs) k) ≡ map (λ (x : SparseAsked T). x.row) (option_to_list (slice_get xs k))
row_got [] k = refl
row_got (x ∷ xs) zero = refl
row_got (x ∷ xs) (suc k) = row_got xs k

leaves_same : {T : Type 0} (others : List ℕ) (xs : List (SparseAsked T)) (leaves : List (SparseLeaf T)) → map (λ (x : WantedRow T). x.row) (leaves_wanted others xs leaves) ≡ leaf_views others (rows_of xs) leaves
leaves_same others xs [] = refl
leaves_same {T} others xs (l ∷ leaves) =
    map-append (λ (x : WantedRow T). x.row) (leaf_wanted others xs l) (leaves_wanted others xs leaves)
    ∙ ap (λ ys. ys ++ map (λ (x : WantedRow T). x.row) (leaves_wanted others xs leaves)) (leaf_same others xs l (slice_get xs l.row) (slice_get (rows_of xs) l.row) (row_got xs l.row))
    ∙ ap (λ ys. leaf_view others (rows_of xs) l ++ ys) (leaves_same others xs leaves)

heads_same : {T : Type 0} (ys : List (WantedRow T)) → heads_in ys ≡ map (λ (r : MRow T). r.heads) (map (λ (x : WantedRow T). x.row) ys)
heads_same [] = refl
heads_same (y ∷ ys) = ap (λ hs. y.row.heads ∷ hs) (heads_same ys)

-- names leave the constructors as they are
first_bare : {T : Type 0} (hs : List (Head T)) → first_ctor (map bare_head hs) ≡ first_ctor hs
first_bare [] = refl
first_bare (None ∷ hs) = refl
first_bare (Some (de_pat WildCtor t uid at subs binds) ∷ hs) = refl
first_bare (Some (de_pat _ t uid at subs binds) ∷ hs) = refl

column_bare : {T : Type 0} (ys : List (WantedRow T)) → column_of (heads_in (bare_rows ys)) ≡ column_of (heads_in ys)
column_bare [] = refl
column_bare (y ∷ ys) = rw (first_bare y.row.heads, column_bare ys) refl

-- the constructors of the leaves are those of the first place
pub ctors_are : {T : Type 0} (column : ℕ) (others : List ℕ) (xs : List (SparseAsked T)) → leaf_ctors (all_apart column 0 (rows_of xs)) ≡ first_ctors (taken_apart (asked_views (column ∷ others) xs))
ctors_are {T} column others xs =
    let leaves : List (SparseLeaf T) = all_apart column 0 (rows_of xs) in
    sym (column_is others (rows_of xs) leaves (all_within column 0 (length (rows_of xs)) (rows_of xs) (omega arith)))
    ∙ ap column_ctors (sym (leaves_same others xs leaves))
    ∙ ap column_of (sym (heads_same (leaves_wanted others xs leaves)))
    ∙ ap (λ ys. column_of (heads_in ys)) (leaves_apart column others xs)
    ∙ column_bare (taken_apart (asked_views (column ∷ others) xs))

-- no constructor of a column is a wildcard
sharp_all : {T : Type 0} (set : MSet) (hss : List (List (Head T))) → All (λ h. IsTrue (is_head set h)) (column_of hss) → All (λ h. IsTrue (is_sharp_head set h)) (column_of hss)
sharp_all set [] a = All-nil (λ h. IsTrue (is_sharp_head set h))
sharp_all set ([] ∷ hss) a = sharp_all set hss a
sharp_all set ((None ∷ hs) ∷ hss) a = sharp_all set hss a
sharp_all set ((Some (de_pat WildCtor t uid at subs binds) ∷ hs) ∷ hss) a = sharp_all set hss a
sharp_all set ((Some (de_pat c t uid at subs binds) ∷ hs) ∷ hss) a =
    All-cons (λ h. IsTrue (is_sharp_head set h)) c (column_of hss) (All-head (λ h. IsTrue (is_head set h)) c (column_of hss) a) (sharp_all set hss (All-tail (λ h. IsTrue (is_head set h)) c (column_of hss) a))

-- without constructors all rows are wild there, and with one not all are
pub all_wild : {T : Type 0} (hss : List (List (Head T))) → column_of hss ≡ [] → list_all starts_wild hss ≡ true
all_wild [] e = refl
all_wild ([] ∷ hss) e = all_wild hss e
all_wild ((None ∷ hs) ∷ hss) e = all_wild hss e
all_wild ((Some (de_pat WildCtor t uid at subs binds) ∷ hs) ∷ hss) e = all_wild hss e
all_wild ((Some (de_pat _ t uid at subs binds) ∷ hs) ∷ hss) e = cc

pub not_all_wild : {T : Type 0} (hss : List (List (Head T))) (c : MCtor) (cs : List MCtor) → column_of hss ≡ c ∷ cs → list_all starts_wild hss ≡ false
not_all_wild [] c cs e = cc
not_all_wild ([] ∷ hss) c cs e = not_all_wild hss c cs e
not_all_wild ((None ∷ hs) ∷ hss) c cs e = not_all_wild hss c cs e
not_all_wild ((Some (de_pat WildCtor t uid at subs binds) ∷ hs) ∷ hss) c cs e = not_all_wild hss c cs e
not_all_wild ((Some (de_pat _ t uid at subs binds) ∷ hs) ∷ hss) c cs e = refl

module _ {T : Type 0} (IsType : T → Type 0) (IsValue : T → Bool → MValue → Type 0) (cx : Context T) (values : ValuesLaw IsType IsValue cx) (law : PartsLaw IsType IsValue cx)
    (o : ℕ × Open T) (others : List (ℕ × Open T)) (xs : List (SparseAsked T)) (fit : IsFit IsType IsValue cx (sub_view (o ∷ others) xs)) where
  abbrev rows : List (WantedRow T)
  rows = asked_views (o.0 ∷ numbers others) xs

  abbrev leaves : List (SparseLeaf T)
  leaves = all_apart o.0 0 (rows_of xs)

  apart_fits : IsFit IsType IsValue cx (record { places = o.1 ∷ places others; rows = taken_apart rows })
  apart_fits = apart_fit IsType IsValue cx values law o.1 (places others) rows fit

  -- the constructors are of the column's set, and patterns can have them
  pub sharp : All (λ h. IsTrue (is_sharp_head (cx.set_of o.1.type) h)) (leaf_ctors leaves)
  sharp =
      subst (All (λ h. IsTrue (is_sharp_head (cx.set_of o.1.type) h))) (sym (ctors_are o.0 (numbers others) xs))
      (sharp_all (cx.set_of o.1.type) (heads_in (taken_apart rows))
      (heads_good cx (column_at [] o.1) (cols (places others)) (heads_in (taken_apart rows)) apart_fits.typed (apart_none IsType IsValue cx values law o.1 (places others) rows fit)))

  leaves_typed : AllTyped cx (cols (o.1 ∷ places others)) (heads_in (leaves_wanted (numbers others) xs leaves))
  leaves_typed =
      subst (λ ys. AllTyped cx (cols (o.1 ∷ places others)) (heads_in ys)) (sym (leaves_apart o.0 (numbers others) xs))
      (fit_bare IsType IsValue cx (record { places = o.1 ∷ places others; rows = taken_apart rows }) apart_fits).typed

  wild_parts : (n : ℕ) → length {A = Head T} (wildcards n) ≡ n
  wild_parts zero = refl
  wild_parts (suc n) = ap suc (wild_parts n)

  one_long : (piece : MCtor) → IsType o.1.type → IsTrue (belongs (cx.set_of o.1.type) piece) → (h : Head T) (hs : List (Head T)) → AreHeadsTyped cx (cols (o.1 ∷ places others)) (bare_head h ∷ hs) →
      head_has piece h ≡ true → length (leaf_parts (cx.arity piece o.1.type) h) ≡ cx.arity piece o.1.type
  one_long piece d b None hs t e = wild_parts (cx.arity piece o.1.type)
  one_long piece d b (Some (de_pat WildCtor u uid at subs binds)) hs t e = wild_parts (cx.arity piece o.1.type)
  one_long piece d b (Some (de_pat c u uid at subs binds)) hs t e = (head_fitted IsType IsValue cx law o.1.type c piece u uid at subs binds d b t.0 e).0

  abbrev Long : MCtor → SparseLeaf T → Type 0
  Long piece l = head_has piece l.head ≡ true → length (leaf_parts (cx.arity piece o.1.type) l.head) ≡ cx.arity piece o.1.type

  -- a leaf that has a piece writes as many parts as the piece has
  pub long_parts : (piece : MCtor) → IsTrue (belongs (cx.set_of o.1.type) piece) →
      All (λ l. head_has piece l.head ≡ true → length (leaf_parts (cx.arity piece o.1.type) l.head) ≡ cx.arity piece o.1.type) leaves
  long_parts piece b = go leaves (all_within o.0 0 (length (rows_of xs)) (rows_of xs) (omega arith)) leaves_typed
    where
      one : (l : SparseLeaf T) (p : Option (SparseAsked T)) (more : List (WantedRow T)) → slice_get xs l.row ≡ p → l.row < length xs →
          AllTyped cx (cols (o.1 ∷ places others)) (heads_in (map (λ x. record { row = leaf_row (numbers others) l x.row; wanted = x.wanted }) (option_to_list p) ++ more)) →
          Long piece l × AllTyped cx (cols (o.1 ∷ places others)) (heads_in more)
      one l None more e k t = absurd (there_is xs l.row e k)
        where
          there_is : (ys : List (SparseAsked T)) (i : ℕ) → slice_get ys i ≡ None → i < length ys → ⊥
          there_is [] i e k = omega (arith, k)
          there_is (y ∷ ys) zero e k = cc
          there_is (y ∷ ys) (suc i) e k = there_is ys i e (omega (arith, k))
      one l (Some x) more e k t = (one_long piece fit.types.0 b l.head (heads_at x.row.heads (numbers others)) t.0, t.1)

      go : (ls : List (SparseLeaf T)) → All (λ l. l.row < length (rows_of xs)) ls → AllTyped cx (cols (o.1 ∷ places others)) (heads_in (leaves_wanted (numbers others) xs ls)) → All (Long piece) ls
      go [] w t = All-nil (Long piece)
      go (l ∷ ls) w t =
          let long = length-map xs (λ (x : SparseAsked T). x.row) in
          let here = All-head (λ l. l.row < length (rows_of xs)) l ls w in
          let r = one l (slice_get xs l.row) (leaves_wanted (numbers others) xs ls) refl (omega (arith, long, here)) t in
          All-cons (Long piece) l ls r.0 (go ls (All-tail (λ l. l.row < length (rows_of xs)) l ls w) r.1)
