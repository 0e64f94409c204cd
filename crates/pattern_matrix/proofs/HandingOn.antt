-- What values come to in a submatrix they come to in one of those that are left of it, and in these nothing else.
use Rattle.std.proofs.Common.{◌≡◌, ℕ, zero, suc, ◌+◌, Bool, true, false, ◌||◌, List, [], ◌∷◌, ◌++◌, map, take, drop, length, cond, refl, sym, ap, subst, ◌∙◌, arith, IsTrue}
use Rattle.std.specs.List.{list_all, flat_map, Contains}
use Rattle.std.proofs.lemmas.List.{take-append-drop}
use Rattle.match_model.specs.Values.{MValue}
use Rattle.match_model.specs.Constructors.{MCtor, belongs, builds}
use Rattle.match_model.specs.Contexts.{Context, Open}
use Rattle.match_model.specs.ContextLaws.{PartsLaw, ValuesLaw}
use Rattle.match_model.specs.Pieces.{ArePieces}
use Rattle.match_model.specs.PieceStates.{HasValue, is_present, named_in}
use Rattle.match_model.specs.Rows.{Head, is_wild, starts_wild, expand_row, parts_open, part_open}
use Rattle.match_model.specs.Matrices.{column_at}
use Rattle.match_model.specs.Steps.{Replacement, expand_head, specialise_head, default_head, with_others, own_binds}
use Rattle.match_model.specs.WellTyped.{AreHeadsTyped}
use Rattle.match_model.specs.Witness.{parts_under}
use Rattle.constructor_sets.specs.Columns.{one, hits}
use Rattle.constructor_sets.proofs.Once.{once_of}
use Rattle.constructor_sets.proofs.Whole.{made_pieces}
use Rattle.pat_context.specs.Parts.{AreValues}
use Rattle.pat_context.proofs.Parting.{parts_values, refill}
use Rattle.pattern_matrix.specs.HeadRows.{cols, AllTyped, AreMadeHeads, AreMadeRows}
use Rattle.pattern_matrix.specs.Counting.{Question, WantedRow, AreLong, counts}
use Rattle.pattern_matrix.specs.Searching.{Submatrix, heads_in, IsFit, Comes, SomeComes, apart, left_over, entered, settled, first_ctors, IsSplit, all_wild, none_missing, some_missing}
use Rattle.pattern_matrix.proofs.Specials.{AreSidedRows}
use Rattle.pattern_matrix.proofs.Made.{rows-append, expand_made, column_made, special_made}
use Rattle.pattern_matrix.proofs.Places.{length-below, values-append, expanded_typed, NoneOr, expanded_none, heads_good, specials_typed, specials_types}
use Rattle.pattern_matrix.proofs.Exact.{built, seen, AreAllSided, all_sided, values-split}
use Rattle.pattern_matrix.proofs.AnyColumn.{Replaces, HeadsAt, replaced_counts, expand_replaces, heads_at}
use Rattle.pattern_matrix.proofs.Splits.{replaced_heads, wanted_heads, special_heads, AreSome, expanded_heads, specials_replace, wilds_replace, missing_replace, wild_alone, kinds_count, wild_counts}

pub contains-map : {A B : Type 0} (f : A → B) (xs : List A) (x : A) → Contains xs x → Contains (map f xs) (f x)
contains-map f [] x (k, l, e) = absurd (omega (arith, l))
contains-map f (y ∷ xs) x (zero, l, e) = (zero, omega arith, ap f e)
contains-map f (y ∷ xs) x (suc k, l, e) = let r = contains-map f xs x (k, omega (arith, l), e) in (suc r.0, let m = r.1 in omega (arith, m), r.2)

pub from-map : {A B : Type 0} (f : A → B) (xs : List A) (y : B) → Contains (map f xs) y → (x : A) × Contains xs x × (f x ≡ y)
from-map f [] y (k, l, e) = absurd (omega (arith, l))
from-map f (x ∷ xs) y (zero, l, e) = (x, (zero, omega arith, refl), e)
from-map {A} f (x ∷ xs) y (suc k, l, e) = more (from-map f xs y (k, omega (arith, l), e))
  where
    more : (z : A) × Contains xs z × (f z ≡ y) → (z : A) × Contains (x ∷ xs) z × (f z ≡ y)
    more (z, (j, m, d), g) = (z, (suc j, omega (arith, m), d), g)

pub here : {A : Type 0} (x : A) (xs : List A) → Contains (x ∷ xs) x
here x xs = (zero, omega arith, refl)

pub there : {A : Type 0} (x y : A) (xs : List A) → Contains xs y → Contains (x ∷ xs) y
there x y xs (k, l, e) = (suc k, omega (arith, l), e)

pub in_cons : {A : Type 0} (x y : A) (xs : List A) (P : A → Type 0) → P x → ((z : A) → Contains xs z → P z) → Contains (x ∷ xs) y → P y
in_cons x y xs P p f (zero, l, e) = subst P e p
in_cons x y xs P p f (suc k, l, e) = f y (k, omega (arith, l), e)

pub tell : (b : Bool) → {A : Type 0} → (b ≡ true → A) → (b ≡ false → A) → A
tell true f g = f refl
tell false f g = g refl

-- a piece that builds the value
hit_piece : (named : List (List ℕ)) (pieces : List MCtor) (v : MValue) → hits named pieces v ≡ 1 → (p : MCtor) × Contains pieces p × (builds named p v ≡ true)
hit_piece named [] v e = absurd (omega (arith, e))
hit_piece named (x ∷ pieces) v e = go (builds named x v) refl e (hit_piece named pieces v)
  where
    go : (b : Bool) → builds named x v ≡ b → one b + hits named pieces v ≡ 1 → (hits named pieces v ≡ 1 → (p : MCtor) × Contains pieces p × (builds named p v ≡ true)) →
        (p : MCtor) × Contains (x ∷ pieces) p × (builds named p v ≡ true)
    go true b e f = (x, here x pieces, b)
    go false b e f = let r = f (omega (arith, e)) in (r.0, there x r.0 pieces r.1, r.2)

pub settled_heads : {T : Type 0} (rows : List (WantedRow T)) → heads_in (settled rows) ≡ heads_in rows
settled_heads [] = refl
settled_heads (x ∷ rows) = ap (λ hss. x.row.heads ∷ hss) (settled_heads rows)

-- the heads of the rows that are wild at the first place, without it
default_made : {T : Type 0} (hss : List (List (Head T))) → AreMadeRows hss → AreMadeRows (flat_map (replaced_heads default_head) hss)
default_made [] m = tt
default_made {T} (hs ∷ hss) m = rows-append (replaced_heads default_head hs) (flat_map (replaced_heads default_head) hss) (one_row hs m.0) (default_made hss m.1)
  where
    one_row : (hs : List (Head T)) → AreMadeHeads hs → AreMadeRows (replaced_heads default_head hs)
    one_row [] m = tt
    one_row (h ∷ rest) m = go (is_wild h)
      where
        put : Bool → List (Replacement T)
        put b = cond b (record { heads = []; chosen = []; binds = own_binds h } ∷ []) []

        go : (b : Bool) → AreMadeRows (map (λ (y : Replacement T). y.heads) (map (with_others rest) (put b)))
        go true = (m.1, tt)
        go false = tt

typed-append : {T : Type 0} (cx : Context T) (places : List (Open T)) (xs ys : List (List (Head T))) → AllTyped cx (cols places) xs → AllTyped cx (cols places) ys → AllTyped cx (cols places) (xs ++ ys)
typed-append cx places [] ys h k = k
typed-append cx places (x ∷ xs) ys h k = (h.0, typed-append cx places xs ys h.1 k)

default_typed : {T : Type 0} (cx : Context T) (o : Open T) (places : List (Open T)) (hss : List (List (Head T))) → AllTyped cx (cols (o ∷ places)) hss →
    AllTyped cx (cols places) (flat_map (replaced_heads default_head) hss)
default_typed cx o places [] t = tt
default_typed {T} cx o places (hs ∷ hss) t = typed-append cx places (replaced_heads default_head hs) (flat_map (replaced_heads default_head) hss) (one_row hs t.0) (default_typed cx o places hss t.1)
  where
    one_row : (hs : List (Head T)) → AreHeadsTyped cx (cols (o ∷ places)) hs → AllTyped cx (cols places) (replaced_heads default_head hs)
    one_row [] t = absurd t
    one_row (h ∷ rest) t = go (is_wild h)
      where
        put : Bool → List (Replacement T)
        put b = cond b (record { heads = []; chosen = []; binds = own_binds h } ∷ []) []

        go : (b : Bool) → AllTyped cx (cols places) (map (λ (y : Replacement T). y.heads) (map (with_others rest) (put b)))
        go true = (t.1, tt)
        go false = tt

-- rows have as many heads as there are values
same_length : {T : Type 0} (IsValue : T → Bool → MValue → Type 0) (cx : Context T) (places : List (Open T)) (hs : List (Head T)) (vs : List MValue) →
    AreHeadsTyped cx (cols places) hs → AreValues IsValue places vs → length hs ≡ length vs
same_length IsValue cx [] [] [] h a = refl
same_length IsValue cx [] (x ∷ hs) vs h a = absurd h
same_length IsValue cx [] [] (v ∷ vs) h a = absurd a
same_length IsValue cx (o ∷ places) [] vs h a = absurd h
same_length IsValue cx (o ∷ places) (x ∷ hs) [] h a = absurd a
same_length IsValue cx (o ∷ places) (x ∷ hs) (v ∷ vs) h a = ap suc (same_length IsValue cx places hs vs h.1 a.1)

pub all_long : {T : Type 0} (IsValue : T → Bool → MValue → Type 0) (cx : Context T) (places : List (Open T)) (rows : List (WantedRow T)) (vs : List MValue) →
    AllTyped cx (cols places) (heads_in rows) → AreValues IsValue places vs → AreLong (length vs) rows
all_long IsValue cx places [] vs t a = tt
all_long IsValue cx places (x ∷ rows) vs t a = (same_length IsValue cx places x.row.heads vs t.0 a, all_long IsValue cx places rows vs t.1 a)

pub some_heads : {T : Type 0} (cx : Context T) (o : Open T) (places : List (Open T)) (hss : List (List (Head T))) → AllTyped cx (cols (o ∷ places)) hss → AreSome hss
some_heads cx o places [] t = tt
some_heads cx o places (hs ∷ hss) t = ((λ e. subst (AreHeadsTyped cx (cols (o ∷ places))) e t.0), some_heads cx o places hss t.1)

module _ {T : Type 0} (IsType : T → Type 0) (IsValue : T → Bool → MValue → Type 0) (cx : Context T) (values : ValuesLaw IsType IsValue cx) (law : PartsLaw IsType IsValue cx) where
  abbrev pub Fit : List (Open T) → List (WantedRow T) → Type 0
  Fit places rows = IsFit IsType IsValue cx (record { places = places; rows = rows })

  -- taking or-patterns apart

  apart_heads : (o : Open T) (places : List (Open T)) (rows : List (WantedRow T)) → Fit (o ∷ places) rows → heads_in (apart rows) ≡ flat_map expand_row (heads_in rows)
  apart_heads o places rows f = wanted_heads expand_head rows ∙ expanded_heads (heads_in rows) (some_heads cx o places (heads_in rows) f.typed)

  pub apart_fit : (o : Open T) (places : List (Open T)) (rows : List (WantedRow T)) → Fit (o ∷ places) rows → Fit (o ∷ places) (apart rows)
  apart_fit o places rows f = record {
    types = f.types;
    typed = subst (AllTyped cx (cols (o ∷ places))) (sym (apart_heads o places rows f)) (expanded_typed cx (column_at [] o) (cols places) (heads_in rows) f.typed);
    made = subst AreMadeRows (sym (apart_heads o places rows f)) (expand_made (heads_in rows) f.made);
    some = f.some;
  }

  pub apart_none : (o : Open T) (places : List (Open T)) (rows : List (WantedRow T)) → Fit (o ∷ places) rows → NoneOr cx (heads_in (apart rows))
  apart_none o places rows f = subst (NoneOr cx) (sym (apart_heads o places rows f)) (expanded_none cx (column_at [] o) (cols places) (heads_in rows) f.typed)

  pub apart_counts : (o : Open T) (places : List (Open T)) (rows : List (WantedRow T)) → Fit (o ∷ places) rows → (q : Question) (v : MValue) (vs : List MValue) →
      AreValues IsValue (o ∷ places) (v ∷ vs) → counts q (apart rows) (v ∷ vs) ≡ counts q rows (v ∷ vs)
  apart_counts o places rows f q v vs a =
      replaced_counts q expand_head [] 0 rows (v ∷ vs) (v ∷ []) v refl (all_long IsValue cx (o ∷ places) rows (v ∷ vs) f.typed a) (heads_at (Replaces expand_head (v ∷ []) v) (expand_replaces v) 0 rows)

  -- what is left fits

  some_left : (o : Open T) (places : List (Open T)) → (vs : List MValue) × AreValues IsValue (o ∷ places) vs → (vs : List MValue) × AreValues IsValue places vs
  some_left o places ([], a) = absurd a
  some_left o places (v ∷ vs, a) = (vs, a.1)

  left_fit : (o : Open T) (places : List (Open T)) (rows : List (WantedRow T)) → Fit (o ∷ places) rows → IsFit IsType IsValue cx (left_over places rows)
  left_fit o places rows f = record {
    types = f.types.1;
    typed = subst (AllTyped cx (cols places)) (sym (wanted_heads default_head rows)) (default_typed cx o places (heads_in rows) f.typed);
    made = subst AreMadeRows (sym (wanted_heads default_head rows)) (default_made (heads_in rows) f.made);
    some = some_left o places f.some;
  }

  settled_fit : (o : Open T) (places : List (Open T)) (rows : List (WantedRow T)) → Fit (o ∷ places) rows → Fit (o ∷ places) (settled rows)
  settled_fit o places rows f = record {
    types = f.types;
    typed = subst (AllTyped cx (cols (o ∷ places))) (sym (settled_heads rows)) f.typed;
    made = subst AreMadeRows (sym (settled_heads rows)) f.made;
    some = f.some;
  }

  entered_fit : (o : Open T) (places : List (Open T)) (rows : List (WantedRow T)) (named : List (List ℕ)) (p : MCtor) → Fit (o ∷ places) rows → IsTrue (belongs (cx.set_of o.type) p) →
      HasValue IsValue o named p → IsFit IsType IsValue cx (entered cx o places rows p)
  entered_fit o places rows named p f b (v, a, k) =
      let n = cx.arity p o.type in
      let heads = wanted_heads (specialise_head p n) rows ∙ special_heads p n (heads_in rows) in
      let parts = parts_values IsType IsValue cx values law o p named v (cx.set_of o.type) f.types.0 refl b a k in
      let left = some_left o places f.some in
      record {
        types = specials_types IsType IsValue cx law o places p b f.types;
        typed = subst (AllTyped cx (cols (parts_open cx o p ++ places))) (sym heads) (specials_typed IsType IsValue cx law o places p (heads_in rows) f.types.0 b f.typed);
        made = subst AreMadeRows (sym heads) (special_made p n (heads_in rows) f.made);
        some = (parts_under p v ++ left.0, values-append IsValue (parts_open cx o p) places (parts_under p v) left.0 parts.1 left.1);
      }

  -- the pieces of the first place

  -- the pieces belong to the type, and the rows are one-sided for them; each value is of exactly one
  pub record AreSplitting (o : Open T) (rows : List (WantedRow T)) (pieces : List MCtor) : Type 0 where
    pub belong : (p : MCtor) → Contains pieces p → IsTrue (belongs (cx.set_of o.type) p)
    pub sided : (p : MCtor) → Contains pieces p → AreSidedRows (named_in pieces) p (cx.arity p o.type) (heads_in rows)
    pub once : (v : MValue) → IsValue o.type o.sure v → hits (named_in pieces) pieces v ≡ 1

  sided_at : (o : Open T) (named : List (List ℕ)) (hss : List (List (Head T))) (p : MCtor) (pieces : List MCtor) → AreAllSided IsType IsValue cx values law o named hss pieces → Contains pieces p →
      IsTrue (belongs (cx.set_of o.type) p) × AreSidedRows named p (cx.arity p o.type) hss
  sided_at o named hss p [] s (k, l, e) = absurd (omega (arith, l))
  sided_at o named hss p (x ∷ pieces) s (zero, l, e) = subst (λ y. IsTrue (belongs (cx.set_of o.type) y) × AreSidedRows named y (cx.arity y o.type) hss) e s.0
  sided_at o named hss p (x ∷ pieces) s (suc k, l, e) = sided_at o named hss p pieces s.1 (k, omega (arith, l), e)

  splitting : (o : Open T) (places : List (Open T)) (rows : List (WantedRow T)) (pieces : List MCtor) → Fit (o ∷ places) rows → NoneOr cx (heads_in rows) →
      list_all starts_wild (heads_in rows) ≡ false → ArePieces (cx.set_of o.type) (first_ctors rows) pieces → AreSplitting o rows pieces
  splitting o places rows pieces f n e a =
      let hs = heads_in rows in
      let d = f.types.0 in
      let m = made_pieces (cx.set_of o.type) (first_ctors rows) pieces (values.made o.type d) (values.ascend o.type d) (heads_good cx (column_at [] o) (cols places) hs f.typed n) (column_made hs f.made) a in
      let s = all_sided IsType IsValue cx values law o places (named_in pieces) hs pieces d f.typed n m.belong m.one_sided m.room in
      record {
        belong = λ p c. (sided_at o (named_in pieces) hs p pieces s c).0;
        sided = λ p c. (sided_at o (named_in pieces) hs p pieces s c).1;
        once = λ v k.
            let b = values.each o.type o.sure v d k in
            let u = built IsType IsValue cx values law (cx.set_of o.type) o.sure v (seen IsType IsValue cx values law (cx.set_of o.type) o places hs refl f.typed n e) b in
            once_of (cx.set_of o.type) o.sure (first_ctors rows) pieces (values.ascend o.type d) a v b u.0 u.1;
      }

  -- a value of the piece counts among what has it as before
  entered_counts : (o : Open T) (places : List (Open T)) (rows : List (WantedRow T)) (named : List (List ℕ)) (p : MCtor) → Fit (o ∷ places) rows → IsTrue (belongs (cx.set_of o.type) p) →
      AreSidedRows named p (cx.arity p o.type) (heads_in rows) → (q : Question) (v : MValue) (vs : List MValue) → AreValues IsValue (o ∷ places) (v ∷ vs) → builds named p v ≡ true →
      counts q (entered cx o places rows p).rows (parts_under p v ++ vs) ≡ counts q rows (v ∷ vs)
  entered_counts o places rows named p f b s q v vs a k =
      let n = cx.arity p o.type in
      let parts = parts_values IsType IsValue cx values law o p named v (cx.set_of o.type) f.types.0 refl b a.0 k in
      replaced_counts q (specialise_head p n) [] 0 rows (v ∷ vs) (parts_under p v) v refl (all_long IsValue cx (o ∷ places) rows (v ∷ vs) f.typed a) (specials_replace named p n v rows k parts.0 s)

  enters : (o : Open T) (places : List (Open T)) (rows : List (WantedRow T)) (named : List (List ℕ)) (p : MCtor) → Fit (o ∷ places) rows → IsTrue (belongs (cx.set_of o.type) p) →
      AreSidedRows named p (cx.arity p o.type) (heads_in rows) → (q : Question) (v : MValue) (vs : List MValue) → AreValues IsValue (o ∷ places) (v ∷ vs) → builds named p v ≡ true →
      counts q rows (v ∷ vs) ≡ true → Comes IsValue q (entered cx o places rows p)
  enters o places rows named p f b s q v vs a k e =
      let parts = parts_values IsType IsValue cx values law o p named v (cx.set_of o.type) f.types.0 refl b a.0 k in
      (parts_under p v ++ vs, values-append IsValue (parts_open cx o p) places (parts_under p v) vs parts.1 a.1, entered_counts o places rows named p f b s q v vs a k ∙ e)

  -- and from there a value of the piece can be put together
  leaves : (o : Open T) (places : List (Open T)) (rows : List (WantedRow T)) (named : List (List ℕ)) (p : MCtor) → Fit (o ∷ places) rows → IsTrue (belongs (cx.set_of o.type) p) →
      AreSidedRows named p (cx.arity p o.type) (heads_in rows) → HasValue IsValue o named p → (q : Question) → Comes IsValue q (entered cx o places rows p) → Comes IsValue q (record { places = o ∷ places; rows = rows })
  leaves o places rows named p f b s (x, w, k) q (zs, a, e) =
      let n = cx.arity p o.type in
      let z = values-split IsType IsValue cx values law (parts_open cx o p) places n zs (length-below (part_open cx o p) n) a in
      let r = refill IsType IsValue cx values law o p named x (cx.set_of o.type) f.types.0 refl b w k (take n zs) z.0 in (
        r.value ∷ drop n zs,
        (r.is, z.1),
        sym (entered_counts o places rows named p f b s q r.value (drop n zs) (r.is, z.1) r.build)
            ∙ ap (λ ys. counts q (entered cx o places rows p).rows (ys ++ drop n zs)) r.parts
            ∙ ap (counts q (entered cx o places rows p).rows) (take-append-drop n zs) ∙ e,
      )

  default_counts : (o : Open T) (places : List (Open T)) (rows : List (WantedRow T)) → Fit (o ∷ places) rows → (q : Question) (v : MValue) (vs : List MValue) → AreValues IsValue (o ∷ places) (v ∷ vs) →
      HeadsAt (Replaces default_head [] v) 0 rows → counts q (left_over places rows).rows vs ≡ counts q rows (v ∷ vs)
  default_counts o places rows f q v vs a h = replaced_counts q default_head [] 0 rows (v ∷ vs) [] v refl (all_long IsValue cx (o ∷ places) rows (v ∷ vs) f.typed a) h

  -- handing on

  pub goes_on : (o : Open T) (places : List (Open T)) (rows : List (WantedRow T)) (children : List (Submatrix T)) → Fit (o ∷ places) rows → NoneOr cx (heads_in rows) →
      IsSplit IsValue cx o places rows children → (q : Question) (v : MValue) (vs : List MValue) → AreValues IsValue (o ∷ places) (v ∷ vs) → counts q rows (v ∷ vs) ≡ true → SomeComes IsValue q children
  goes_on o places rows children f n (all_wild w) q v vs a e =
      (left_over places rows, here (left_over places rows) [], (vs, a.1, default_counts o places rows f q v vs a (wilds_replace v rows w) ∙ e))
  goes_on o places rows children f n (none_missing present w c) q v vs a e =
      let s = splitting o places rows c.pieces f n w c.listed in
      let h = hit_piece (named_in c.pieces) c.pieces v (s.once v a.0) in
      let p = h.0 in
      let has : HasValue IsValue o (named_in c.pieces) p = (v, a.0, h.2) in
      tell (is_present (first_ctors rows) p)
      (λ t. (entered cx o places rows p, contains-map (entered cx o places rows) present p (c.all_present p h.1 (has, t)), enters o places rows (named_in c.pieces) p f (s.belong p h.1) (s.sided p h.1) q v vs a h.2 e))
      (λ t. absurd (c.none_missing refl p h.1 (has, t)))
  goes_on o places rows children f n (some_missing present w c) q v vs a e =
      let s = splitting o places rows c.pieces f n w c.listed in
      let h = hit_piece (named_in c.pieces) c.pieces v (s.once v a.0) in
      let p = h.0 in
      let has : HasValue IsValue o (named_in c.pieces) p = (v, a.0, h.2) in
      let left = left_over places rows in
      let others = map (entered cx o places (settled rows)) present in
      tell (is_present (first_ctors rows) p)
      (λ t.
      tell (counts q (settled rows) (v ∷ vs))
      (λ k. (
        entered cx o places (settled rows) p,
        there left (entered cx o places (settled rows) p) others (contains-map (entered cx o places (settled rows)) present p (c.all_present p h.1 (has, t))),
        enters o places (settled rows) (named_in c.pieces) p (settled_fit o places rows f) (s.belong p h.1) (subst (AreSidedRows (named_in c.pieces) p (cx.arity p o.type)) (sym (settled_heads rows)) (s.sided p h.1)) q v vs a h.2 k,
      ))
      (λ k.
      let wild : counts q (wild_alone rows) (v ∷ vs) ≡ true = sym (ap (λ b. b || counts q (wild_alone rows) (v ∷ vs)) k) ∙ sym (kinds_count q rows (v ∷ vs)) ∙ e in
      (left, here left others, (vs, a.1, wild_counts q v vs rows (all_long IsValue cx (o ∷ places) rows (v ∷ vs) f.typed a) wild))))
      (λ t. (left, here left others, (vs, a.1, default_counts o places rows f q v vs a (missing_replace (named_in c.pieces) p (cx.arity p o.type) v rows h.2 (s.sided p h.1) t) ∙ e)))

  -- handing back

  first_value : (o : Open T) (places : List (Open T)) → (vs : List MValue) × AreValues IsValue (o ∷ places) vs → (v : MValue) × IsValue o.type o.sure v
  first_value o places ([], a) = absurd a
  first_value o places (v ∷ vs, a) = (v, a.0)

  -- the settled rows count less
  settled_less : (q : Question) (s : List (Open T)) (rows : List (WantedRow T)) → Comes IsValue q (record { places = s; rows = settled rows }) → Comes IsValue q (record { places = s; rows = rows })
  settled_less q s rows (vs, a, e) = (vs, a, kinds_count q rows vs ∙ ap (λ b. b || counts q (wild_alone rows) vs) e)

  pub comes_back : (o : Open T) (places : List (Open T)) (rows : List (WantedRow T)) (children : List (Submatrix T)) → Fit (o ∷ places) rows → NoneOr cx (heads_in rows) →
      IsSplit IsValue cx o places rows children → (n : Submatrix T) → Contains children n →
      IsFit IsType IsValue cx n × ((q : Question) → Comes IsValue q n → Comes IsValue q (record { places = o ∷ places; rows = rows }))
  comes_back o places rows children f n (all_wild w) x i =
      let v = first_value o places f.some in
      in_cons (left_over places rows) x [] (λ x. IsFit IsType IsValue cx x × ((q : Question) → Comes IsValue q x → Comes IsValue q (record { places = o ∷ places; rows = rows })))
      (left_fit o places rows f, λ q (vs, a, e). (v.0 ∷ vs, (v.1, a), sym (default_counts o places rows f q v.0 vs (v.1, a) (wilds_replace v.0 rows w)) ∙ e))
      (λ z (k, l, d). absurd (omega (arith, l))) i
  comes_back o places rows children f n (none_missing present w c) x i =
      let s = splitting o places rows c.pieces f n w c.listed in
      let r = from-map (entered cx o places rows) present x i in
      let p = r.0 in
      let k = c.each_present p r.1 in
      subst (λ x. IsFit IsType IsValue cx x × ((q : Question) → Comes IsValue q x → Comes IsValue q (record { places = o ∷ places; rows = rows }))) r.2
      (entered_fit o places rows (named_in c.pieces) p f (s.belong p k.0) k.1.0, leaves o places rows (named_in c.pieces) p f (s.belong p k.0) (s.sided p k.0) k.1.0)
  comes_back o places rows children f n (some_missing present w c) x i =
      let s = splitting o places rows c.pieces f n w c.listed in
      let m = c.one_missing refl in
      let g = settled_fit o places rows f in
      in_cons (left_over places rows) x (map (entered cx o places (settled rows)) present) (λ x. IsFit IsType IsValue cx x × ((q : Question) → Comes IsValue q x → Comes IsValue q (record { places = o ∷ places; rows = rows }))) (
        left_fit o places rows f,
        λ q (vs, a, e).
            let (v, b, k) = m.2.0 in
            (v ∷ vs, (b, a), sym (default_counts o places rows f q v vs (b, a) (missing_replace (named_in c.pieces) m.0 (cx.arity m.0 o.type) v rows k (s.sided m.0 m.1) m.2.1)) ∙ e),
      )
      (λ z j.
      let r = from-map (entered cx o places (settled rows)) present z j in
      let p = r.0 in
      let k = c.each_present p r.1 in
      let sides = subst (AreSidedRows (named_in c.pieces) p (cx.arity p o.type)) (sym (settled_heads rows)) (s.sided p k.0) in
      subst (λ x. IsFit IsType IsValue cx x × ((q : Question) → Comes IsValue q x → Comes IsValue q (record { places = o ∷ places; rows = rows }))) r.2
      (entered_fit o places (settled rows) (named_in c.pieces) p g (s.belong p k.0) k.1.0, λ q t. settled_less q (o ∷ places) rows (leaves o places (settled rows) (named_in c.pieces) p g (s.belong p k.0) sides k.1.0 q t))) i
