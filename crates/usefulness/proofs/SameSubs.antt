-- A submatrix of the words of another says the same, but for what its rows have chosen.
use Rattle.std.proofs.Common.{◌≡◌, ℕ, zero, suc, Bool, true, ◌||◌, nat_eq, List, [], ◌∷◌, map, length, refl, ap, sym, subst, ◌∙◌, arith}
use Rattle.std.proofs.lemmas.List.{length-map}
use Rattle.std.specs.List.{All, Contains, list_any}
use Rattle.match_model.specs.Values.{MValue}
use Rattle.match_model.specs.ArenaPatterns.{MDePat, de_pat, uid_of, type_of}
use Rattle.match_model.specs.Contexts.{Context, Open}
use Rattle.match_model.specs.WellTyped.{IsTyped, IsHeadTyped, AreHeadsTyped}
use Rattle.pat_context.specs.Parts.{AreValues}
use Rattle.pattern_matrix.specs.HeadRows.{cols, AllTyped}
use Rattle.pattern_matrix.specs.Sparse.{head_at, heads_at}
use Rattle.pattern_matrix.specs.Counting.{Question}
use Rattle.pattern_matrix.specs.Searching.{heads_in, weight_of, IsFit, Comes}
use Rattle.usefulness.specs.Compact.{AreAllUsed}
use Rattle.usefulness.specs.Frames.{SparseAsked, asked_views, numbers, places, sub_view}
use Rattle.usefulness.specs.Words.{AreNumbered, bit, words}
use Rattle.usefulness.proofs.LikeRows.{AreLike, CountsAt, HaveChosenToo, at_counts, counts_at, like_counts, like_weighs}
use Rattle.usefulness.proofs.SameWords.{cons_same, split_same, bit_same, rows_same, AreSameRows, AreAligned, all_aligned, all_like, partner, same_at}

-- a row's head has its column's type
typed_at : {T : Type 0} (cx : Context T) (heads : List (ℕ × MDePat T)) (shown : List (ℕ × Open T)) (o : ℕ × Open T) → AreHeadsTyped cx (cols (places shown)) (heads_at heads (numbers shown)) → Contains shown o →
    IsHeadTyped cx o.1.type (head_at heads o.0)
typed_at cx heads [] o t (k, l, e) = absurd (omega (arith, l))
typed_at cx heads (r ∷ shown) o t (zero, l, e) = subst (λ z. IsHeadTyped cx z.1.type (head_at heads z.0)) e t.0
typed_at cx heads (r ∷ shown) o t (suc k, l, e) = typed_at cx heads shown o t.1 (k, omega (arith, l), e)

row_typed : {T : Type 0} (cx : Context T) (shown : List (ℕ × Open T)) (xs : List (SparseAsked T)) (x : SparseAsked T) → AllTyped cx (cols (places shown)) (heads_in (asked_views (numbers shown) xs)) → Contains xs x →
    AreHeadsTyped cx (cols (places shown)) (heads_at x.row.heads (numbers shown))
row_typed cx shown [] x t (k, l, e) = absurd (omega (arith, l))
row_typed cx shown (y ∷ xs) x t (zero, l, e) = subst (λ z. AreHeadsTyped cx (cols (places shown)) (heads_at z.row.heads (numbers shown))) e t.0
row_typed cx shown (y ∷ xs) x t (suc k, l, e) = row_typed cx shown xs x t.1 (k, omega (arith, l), e)

type_is : {T : Type 0} (cx : Context T) (t : T) (p : MDePat T) → IsTyped cx t p → type_of p ≡ t
type_is cx t (de_pat c u uid at subs binds) h = h.0

bits_same : {T : Type 0} (shown others : List (ℕ × Open T)) → map (λ o. bit o.1.sure) shown ≡ map (λ o. bit o.1.sure) others → map (λ o. o.1.sure) shown ≡ map (λ o. o.1.sure) others
bits_same [] [] e = refl
bits_same [] (p ∷ others) e = cc
bits_same (o ∷ shown) [] e = cc
bits_same (o ∷ shown) (p ∷ others) e =
    let (b, r) = cons_same e in
    ap (λ z. z ∷ map (λ o. o.1.sure) shown) (bit_same o.1.sure p.1.sure b) ∙ ap (λ zs. p.1.sure ∷ zs) (bits_same shown others r)

-- what holds of all holds of one
pub all_got : {A : Type 0} (P : A → Type 0) (xs : List A) (x : A) → All P xs → Contains xs x → P x
all_got P xs x a (k, l, e) = subst P e (a k x l)

module _ {T : Type 0} (IsType : T → Type 0) (IsValue : T → Bool → MValue → Type 0) (cx : Context T) (Known : MDePat T → Type 0)
    (pinned : (p q : MDePat T) → Known p → Known q → uid_of p ≡ uid_of q → p ≡ q) (at to : ℕ → ℕ) (shown others : List (ℕ × Open T)) (xs ys : List (SparseAsked T))
    (fit : IsFit IsType IsValue cx (sub_view shown xs)) (fits : IsFit IsType IsValue cx (sub_view others ys)) (numbered : AreNumbered at 0 (numbers shown)) (numbered_too : AreNumbered to 0 (numbers others))
    (known : All (λ x. All (λ h. Contains (numbers shown) h.0 × Known h.1) x.row.heads) xs) (knowns : All (λ x. All (λ h. Contains (numbers others) h.0 × Known h.1) x.row.heads) ys)
    (used : AreAllUsed (numbers shown) xs) (same : words at shown xs ≡ words to others ys) where
  abbrev AreKnownIn : (columns : List ℕ) → SparseAsked T → Type 0
  AreKnownIn columns x = All (λ h. Contains columns h.0 × Known h.1) x.row.heads

  as_long : length shown ≡ length others
  as_long = (cons_same same).0

  halves : (map (λ (o : ℕ × Open T). bit o.1.sure) shown ≡ map (λ (o : ℕ × Open T). bit o.1.sure) others) × AreSameRows at to xs ys
  halves =
      let (b, r) = split_same (map (λ (o : ℕ × Open T). bit o.1.sure) shown) (map (λ (o : ℕ × Open T). bit o.1.sure) others) _ _
      (length-map shown (λ (o : ℕ × Open T). bit o.1.sure) ∙ as_long ∙ sym (length-map others (λ (o : ℕ × Open T). bit o.1.sure))) (cons_same same).1 in
      (b, rows_same at to xs ys r)

  aligned : AreAligned at to (numbers shown) (numbers others)
  aligned = all_aligned at to 0 (numbers shown) (numbers others) numbered numbered_too (length-map shown (λ (o : ℕ × Open T). o.0) ∙ as_long ∙ sym (length-map others (λ (o : ℕ × Open T). o.0)))

  number_in : (zs : List (ℕ × Open T)) (o : ℕ × Open T) → Contains zs o → Contains (numbers zs) o.0
  number_in [] o (k, l, e) = absurd (omega (arith, l))
  number_in (z ∷ zs) o (zero, l, e) = (0, omega arith, ap (λ (w : ℕ × Open T). w.0) e)
  number_in (z ∷ zs) o (suc k, l, e) = let (n, m, f) = number_in zs o (k, omega (arith, l), e) in (suc n, omega (arith, m), f)

  -- columns of one place have one type
  type_same : (o p : ℕ × Open T) → Contains shown o → Contains others p → AreAligned at to (o.0 ∷ []) (p.0 ∷ []) → o.1.type ≡ p.1.type
  type_same o p i j k =
      let (x, m, (r, e)) = used o.0 (number_in shown o i) in
      let (y, n, s) = partner Known pinned at to (numbers shown) (numbers others) numbered numbered_too aligned xs ys x halves.1 m in
      let f : head_at x.row.heads o.0 ≡ head_at y.row.heads p.0 = same_at Known pinned at to (numbers shown) (numbers others) numbered numbered_too x.row.heads y.row.heads o.0 p.0 s.heads (all_got (AreKnownIn (numbers shown)) xs x known m) (all_got (AreKnownIn (numbers others)) ys y knowns n) (number_in shown o i) (number_in others p j) k.0 in
      let mine = subst (IsHeadTyped cx o.1.type) e (typed_at cx x.row.heads shown o (row_typed cx shown xs x fit.typed m) i) in
      let theirs = subst (IsHeadTyped cx p.1.type) (sym f ∙ e) (typed_at cx y.row.heads others p (row_typed cx others ys y fits.typed n) j) in
      sym (type_is cx o.1.type r mine) ∙ type_is cx p.1.type r theirs

  places_from : (ss ts : List (ℕ × Open T)) → AreAligned at to (numbers ss) (numbers ts) → map (λ o. o.1.sure) ss ≡ map (λ o. o.1.sure) ts →
      ((o : ℕ × Open T) → Contains ss o → Contains shown o) → ((o : ℕ × Open T) → Contains ts o → Contains others o) → places ss ≡ places ts
  places_from [] [] k b i j = refl
  places_from [] (p ∷ ts) k b i j = absurd k
  places_from (o ∷ ss) [] k b i j = absurd k
  places_from (o ∷ ss) (p ∷ ts) k b i j =
      let (s, r) = cons_same b in
      let t = type_same o p (i o (0, omega arith, refl)) (j p (0, omega arith, refl)) (k.0, tt) in
      ap (λ z. (record { type = z; sure = o.1.sure }) ∷ places ss) t
      ∙ ap (λ z. (record { type = p.1.type; sure = z }) ∷ places ss) s
      ∙ ap (λ zs. p.1 ∷ zs) (places_from ss ts k.1 r (λ o (n, l, e). i o (suc n, omega (arith, l), e)) (λ o (n, l, e). j o (suc n, omega (arith, l), e)))

  places_same : places shown ≡ places others
  places_same = places_from shown others aligned (bits_same shown others halves.0) (λ o i. i) (λ o i. i)

  rows_like : AreLike (asked_views (numbers shown) xs) (asked_views (numbers others) ys)
  rows_like = all_like Known pinned at to (numbers shown) (numbers others) numbered numbered_too aligned xs ys halves.1 known knowns

  -- where values come to a row of the one, they come to the row in its place, if that has chosen what is asked for where the first has
  pub same_comes : (q : Question) (vs : List MValue) (i : ℕ) → AreValues IsValue (places shown) vs → CountsAt q (asked_views (numbers shown) xs) vs i → HaveChosenToo q xs ys i →
      Comes IsValue q (sub_view others ys)
  same_comes q vs i a c h = (
    vs,
    subst (λ ps. AreValues IsValue ps vs) places_same a,
    at_counts q (asked_views (numbers others) ys) vs i (like_counts q vs (numbers shown) (numbers others) xs ys i rows_like h c),
  )

  -- so they do where an arm is asked for
  pub whole_comes : (q : Question) → q.whole ≡ true → Comes IsValue q (sub_view shown xs) → Comes IsValue q (sub_view others ys)
  whole_comes q w (vs, a, c) =
      let (i, k) = counts_at q (asked_views (numbers shown) xs) vs c in
      same_comes q vs i a k (λ x y e f g. ap (λ b. b || list_any (nat_eq q.id) y.row.chosen) w)

  pub same_weighs : weight_of (sub_view shown xs) ≡ weight_of (sub_view others ys)
  same_weighs = like_weighs (asked_views (numbers shown) xs) (asked_views (numbers others) ys) rows_like
