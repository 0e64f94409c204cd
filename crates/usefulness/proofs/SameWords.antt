-- Submatrices of equal words say the same.
use Rattle.std.proofs.Common.{◌≡◌, inl, inr, ◌≤◌, ◌*◌, ℕ, zero, suc, Bool, true, false, List, [], ◌∷◌, ◌++◌, cond, length, nat_eq, Some, refl, ap, sym, subst, ◌∙◌, append_assoc, arith}
use Rattle.std.proofs.lemmas.Bool.Decides.{eqb_tells}
use Rattle.std.proofs.lemmas.List.Elements.{All-head, All-tail}
use Rattle.std.specs.List.{All, Contains, flat_map}
use Rattle.match_model.specs.ArenaPatterns.{MDePat, uid_of}
use Rattle.match_model.proofs.Basics.{untrue, nat_itself}
use Rattle.pattern_matrix.specs.Sparse.{bare_head, head_at, heads_at}
use Rattle.usefulness.specs.Frames.{SparseAsked, asked_view, asked_views}
use Rattle.usefulness.specs.Words.{AreNumbered, bit, head_words, wanted_words, row_words}
use Rattle.usefulness.proofs.LikeRows.{IsLike, AreLike}

-- ---- lists of words

pub cons_same : {A : Type 0} {x y : A} {xs ys : List A} → x ∷ xs ≡ y ∷ ys → (x ≡ y) × (xs ≡ ys)
cons_same e = (cc, cc)

pub split_same : {A : Type 0} (xs ys rest more : List A) → length xs ≡ length ys → xs ++ rest ≡ ys ++ more → (xs ≡ ys) × (rest ≡ more)
split_same [] [] rest more l e = (refl, e)
split_same [] (y ∷ ys) rest more l e = absurd (omega (arith, l))
split_same (x ∷ xs) [] rest more l e = absurd (omega (arith, l))
split_same (x ∷ xs) (y ∷ ys) rest more l e =
    let (f, g) = cons_same e in
    let (h, k) = split_same xs ys rest more (omega (arith, l)) g in
    (ap (λ z. z ∷ xs) f ∙ ap (λ zs. y ∷ zs) h, k)

pub bit_same : (a b : Bool) → bit a ≡ bit b → a ≡ b
bit_same true true e = refl
bit_same false false e = refl
bit_same true false e = absurd (omega (arith, e))
bit_same false true e = absurd (omega (arith, e))

-- ---- heads

-- heads one by one at columns of one place, with patterns of one uid
abbrev pub AreSameHeads : {T : Type 0} → (at to : ℕ → ℕ) → (hs gs : List (ℕ × MDePat T)) → Type 0
AreSameHeads at to [] [] = Unit {0}
AreSameHeads at to [] (g ∷ gs) = ⊥
AreSameHeads at to (h ∷ hs) [] = ⊥
AreSameHeads at to (h ∷ hs) (g ∷ gs) = (at h.0 ≡ to g.0) × (uid_of h.1 ≡ uid_of g.1) × AreSameHeads at to hs gs

heads_long : {T : Type 0} (at : ℕ → ℕ) (hs : List (ℕ × MDePat T)) → length (flat_map (head_words at) hs) ≡ 2 * length hs
heads_long at [] = refl
heads_long at (h ∷ hs) = let l = heads_long at hs in omega (arith, l)

heads_same : {T : Type 0} (at to : ℕ → ℕ) (hs gs : List (ℕ × MDePat T)) → length hs ≡ length gs → flat_map (head_words at) hs ≡ flat_map (head_words to) gs → AreSameHeads at to hs gs
heads_same at to [] [] l e = tt
heads_same at to [] (g ∷ gs) l e = absurd (omega (arith, l))
heads_same at to (h ∷ hs) [] l e = absurd (omega (arith, l))
heads_same at to (h ∷ hs) (g ∷ gs) l e =
    let (f, e) = cons_same e in
    let (k, e) = cons_same e in
    (f, k, heads_same at to hs gs (omega (arith, l)) e)

-- ---- rows

-- rows of the same words
pub record IsSameRow {T : Type 0} (at to : ℕ → ℕ) (x y : SparseAsked T) : Type 0 where
  pub heads : AreSameHeads at to x.row.heads y.row.heads
  pub guarded : x.row.guarded ≡ y.row.guarded
  pub wanted : x.wanted ≡ y.wanted
  pub arm : x.wanted ≡ true → x.row.arm ≡ y.row.arm

abbrev pub AreSameRows : {T : Type 0} → (at to : ℕ → ℕ) → (xs ys : List (SparseAsked T)) → Type 0
AreSameRows at to [] [] = Unit {0}
AreSameRows at to [] (y ∷ ys) = ⊥
AreSameRows at to (x ∷ xs) [] = ⊥
AreSameRows at to (x ∷ xs) (y ∷ ys) = IsSameRow at to x y × AreSameRows at to xs ys

module _ {T : Type 0} (at to : ℕ → ℕ) where
  -- what a row writes, and then the others
  row_same : (x y : SparseAsked T) (rest more : List ℕ) → row_words at x ++ rest ≡ row_words to y ++ more → IsSameRow at to x y × (rest ≡ more)
  row_same x y rest more e =
      let (l, e) = cons_same e in
      let long : length (flat_map (head_words at) x.row.heads) ≡ length (flat_map (head_words to) y.row.heads) = heads_long at x.row.heads ∙ ap (λ n. 2 * n) l ∙ sym (heads_long to y.row.heads) in
      let (h, e) = split_same (flat_map (head_words at) x.row.heads) (flat_map (head_words to) y.row.heads)
      (bit x.row.guarded ∷ bit x.wanted ∷ (wanted_words x ++ rest)) (bit y.row.guarded ∷ bit y.wanted ∷ (wanted_words y ++ more)) long
      (sym (append_assoc (flat_map (head_words at) x.row.heads) (bit x.row.guarded ∷ bit x.wanted ∷ wanted_words x) rest) ∙ e ∙ append_assoc (flat_map (head_words to) y.row.heads) (bit y.row.guarded ∷ bit y.wanted ∷ wanted_words y) more) in
      let (g, e) = cons_same e in
      let (w, e) = cons_same e in
      let wanted = bit_same x.wanted y.wanted w in
      let (a, r) = go x.wanted y.wanted refl refl wanted e in
      (record { heads = heads_same at to x.row.heads y.row.heads l h; guarded = bit_same x.row.guarded y.row.guarded g; wanted = wanted; arm = a }, r)
    where
      go : (u v : Bool) → x.wanted ≡ u → y.wanted ≡ v → x.wanted ≡ y.wanted → wanted_words x ++ rest ≡ wanted_words y ++ more → (x.wanted ≡ true → x.row.arm ≡ y.row.arm) × (rest ≡ more)
      go true false i j w e = untrue (sym j ∙ sym w ∙ i)
      go false true i j w e = untrue (sym i ∙ w ∙ j)
      go false false i j w e = ((λ k. untrue (sym i ∙ k)), sym (ap (λ b. cond b (x.row.arm ∷ []) [] ++ rest) i) ∙ e ∙ ap (λ b. cond b (y.row.arm ∷ []) [] ++ more) j)
      go true true i j w e =
          let d : x.row.arm ∷ rest ≡ y.row.arm ∷ more = sym (ap (λ b. cond b (x.row.arm ∷ []) [] ++ rest) i) ∙ e ∙ ap (λ b. cond b (y.row.arm ∷ []) [] ++ more) j in
          let (a, r) = cons_same d in
          ((λ k. a), r)

  pub rows_same : (xs ys : List (SparseAsked T)) → flat_map (row_words at) xs ≡ flat_map (row_words to) ys → AreSameRows at to xs ys
  rows_same [] [] e = tt
  rows_same [] (y ∷ ys) e = cc
  rows_same (x ∷ xs) [] e = cc
  rows_same (x ∷ xs) (y ∷ ys) e =
      let (s, r) = row_same x y (flat_map (row_words at) xs) (flat_map (row_words to) ys) e in
      (s, rows_same xs ys r)

-- ---- columns

-- columns one by one that have one place
abbrev pub AreAligned : (at to : ℕ → ℕ) → (cs ds : List ℕ) → Type 0
AreAligned at to [] [] = Unit {0}
AreAligned at to [] (d ∷ ds) = ⊥
AreAligned at to (c ∷ cs) [] = ⊥
AreAligned at to (c ∷ cs) (d ∷ ds) = (at c ≡ to d) × AreAligned at to cs ds

pub all_aligned : (at to : ℕ → ℕ) (first : ℕ) (cs ds : List ℕ) → AreNumbered at first cs → AreNumbered to first ds → length cs ≡ length ds → AreAligned at to cs ds
all_aligned at to first [] [] a b l = tt
all_aligned at to first [] (d ∷ ds) a b l = absurd (omega (arith, l))
all_aligned at to first (c ∷ cs) [] a b l = absurd (omega (arith, l))
all_aligned at to first (c ∷ cs) (d ∷ ds) a b l = (a.0 ∙ sym b.0, all_aligned at to (suc first) cs ds a.1 b.1 (omega (arith, l)))

place_from : (at : ℕ → ℕ) (first : ℕ) (cs : List ℕ) (c : ℕ) → AreNumbered at first cs → Contains cs c → first ≤ at c
place_from at first [] c a (k, l, e) = absurd (omega (arith, l))
place_from at first (d ∷ cs) c a (zero, l, e) = let f = ap at e in let g = a.0 in omega (arith, f, g)
place_from at first (d ∷ cs) c a (suc k, l, e) = let f = place_from at (suc first) cs c a.1 (k, omega (arith, l), e) in omega (arith, f)

-- the place tells the number
place_tells : (at : ℕ → ℕ) (first : ℕ) (cs : List ℕ) (c d : ℕ) → AreNumbered at first cs → Contains cs c → Contains cs d → at c ≡ at d → c ≡ d
place_tells at first [] c d a (k, l, e) j f = absurd (omega (arith, l))
place_tells at first (x ∷ cs) c d a (zero, l, e) (zero, m, g) f = sym e ∙ g
place_tells at first (x ∷ cs) c d a (zero, l, e) (suc j, m, g) f =
    let h = place_from at (suc first) cs d a.1 (j, omega (arith, m), g) in
    let i = ap at e in
    let k = a.0 in
    absurd (omega (arith, h, i, k, f))
place_tells at first (x ∷ cs) c d a (suc k, l, e) (zero, m, g) f =
    let h = place_from at (suc first) cs c a.1 (k, omega (arith, l), e) in
    let i = ap at g in
    let j = a.0 in
    absurd (omega (arith, h, i, j, f))
place_tells at first (x ∷ cs) c d a (suc k, l, e) (suc j, m, g) f = place_tells at (suc first) cs c d a.1 (k, omega (arith, l), e) (j, omega (arith, m), g) f

-- ---- patterns of one uid are one

module _ {T : Type 0} (Known : MDePat T → Type 0) (pinned : (p q : MDePat T) → Known p → Known q → uid_of p ≡ uid_of q → p ≡ q) (at to : ℕ → ℕ) (columns others : List ℕ) (numbered : AreNumbered at 0 columns) (numbered_too : AreNumbered to 0 others) where
  abbrev pub AreKnownAt : (cs : List ℕ) → List (ℕ × MDePat T) → Type 0
  AreKnownAt cs hs = All (λ h. Contains cs h.0 × Known h.1) hs

  -- the heads at columns of one place
  pub same_at : (hs gs : List (ℕ × MDePat T)) (c d : ℕ) → AreSameHeads at to hs gs → AreKnownAt columns hs → AreKnownAt others gs → Contains columns c → Contains others d →
      at c ≡ to d → head_at hs c ≡ head_at gs d
  same_at [] [] c d s a b i j e = refl
  same_at [] (g ∷ gs) c d s a b i j e = absurd s
  same_at (h ∷ hs) [] c d s a b i j e = absurd s
  same_at (h ∷ hs) (g ∷ gs) c d s a b i j e =
      let x = All-head (λ (h : ℕ × MDePat T). Contains columns h.0 × Known h.1) h hs a in
      let y = All-head (λ (h : ℕ × MDePat T). Contains others h.0 × Known h.1) g gs b in
      let p : h.1 ≡ g.1 = pinned h.1 g.1 x.1 y.1 s.1 in
      let rest = same_at hs gs c d s.2 (All-tail (λ (h : ℕ × MDePat T). Contains columns h.0 × Known h.1) h hs a) (All-tail (λ (h : ℕ × MDePat T). Contains others h.0 × Known h.1) g gs b) i j e in
      ap (λ q. cond (nat_eq h.0 c) (bare_head (Some q)) (head_at hs c)) p
      ∙ ap (λ z. cond (nat_eq h.0 c) (bare_head (Some g.1)) z) rest
      ∙ ap (λ z. cond z (bare_head (Some g.1)) (head_at gs d)) (same_test h.0 g.0 x.0 y.0 s.0)
    where
      same_test : (m n : ℕ) → Contains columns m → Contains others n → at m ≡ to n → nat_eq m c ≡ nat_eq n d
      same_test m n k l f = elim (eqb_tells m c) [
        | inl same ↦ same.0 ∙ sym (subst (λ z. nat_eq n z ≡ true) (place_tells to 0 others n d numbered_too l j (sym f ∙ ap at same.1 ∙ e)) (nat_itself n))
        | inr other ↦ elim (eqb_tells n d) [
          | inl too ↦ absurd (other.1 (place_tells at 0 columns m c numbered k i (f ∙ ap to too.1 ∙ sym e)))
          | inr different ↦ other.0 ∙ sym different.0
        ]
      ]

  same_heads : (hs gs : List (ℕ × MDePat T)) (cs ds : List ℕ) → AreSameHeads at to hs gs → AreKnownAt columns hs → AreKnownAt others gs → AreAligned at to cs ds →
      ((c : ℕ) → Contains cs c → Contains columns c) → ((d : ℕ) → Contains ds d → Contains others d) → heads_at hs cs ≡ heads_at gs ds
  same_heads hs gs [] [] s a b k i j = refl
  same_heads hs gs [] (d ∷ ds) s a b k i j = absurd k
  same_heads hs gs (c ∷ cs) [] s a b k i j = absurd k
  same_heads hs gs (c ∷ cs) (d ∷ ds) s a b k i j =
      ap (λ z. z ∷ heads_at hs cs) (same_at hs gs c d s a b (i c (0, omega arith, refl)) (j d (0, omega arith, refl)) k.0)
      ∙ ap (λ zs. head_at gs d ∷ zs) (same_heads hs gs cs ds s a b k.1 (λ c (n, l, e). i c (suc n, omega (arith, l), e)) (λ d (n, l, e). j d (suc n, omega (arith, l), e)))

-- ---- rows that are the same

module _ {T : Type 0} (Known : MDePat T → Type 0) (pinned : (p q : MDePat T) → Known p → Known q → uid_of p ≡ uid_of q → p ≡ q) (at to : ℕ → ℕ) (columns others : List ℕ) (numbered : AreNumbered at 0 columns) (numbered_too : AreNumbered to 0 others)
    (aligned : AreAligned at to columns others) where
  abbrev AreKnownRows : (cs : List ℕ) → List (SparseAsked T) → Type 0
  AreKnownRows cs xs = All (λ x. All (λ h. Contains cs h.0 × Known h.1) x.row.heads) xs

  one_like : (x y : SparseAsked T) → IsSameRow at to x y → All (λ h. Contains columns h.0 × Known h.1) x.row.heads → All (λ h. Contains others h.0 × Known h.1) y.row.heads → IsLike (asked_view columns x) (asked_view others y)
  one_like x y s a b = record {
    heads = same_heads Known pinned at to columns others numbered numbered_too x.row.heads y.row.heads columns others s.heads a b aligned (λ c i. i) (λ d i. i);
    guarded = s.guarded;
    wanted = s.wanted;
    arm = s.arm;
  }

  pub all_like : (xs ys : List (SparseAsked T)) → AreSameRows at to xs ys → AreKnownRows columns xs → AreKnownRows others ys → AreLike (asked_views columns xs) (asked_views others ys)
  all_like [] [] s a b = tt
  all_like [] (y ∷ ys) s a b = absurd s
  all_like (x ∷ xs) [] s a b = absurd s
  all_like (x ∷ xs) (y ∷ ys) s a b = (
    one_like x y s.0 (All-head (λ (x : SparseAsked T). All (λ (h : ℕ × MDePat T). Contains columns h.0 × Known h.1) x.row.heads) x xs a)
        (All-head (λ (x : SparseAsked T). All (λ (h : ℕ × MDePat T). Contains others h.0 × Known h.1) x.row.heads) y ys b),
    all_like xs ys s.1 (All-tail (λ (x : SparseAsked T). All (λ (h : ℕ × MDePat T). Contains columns h.0 × Known h.1) x.row.heads) x xs a)
        (All-tail (λ (x : SparseAsked T). All (λ (h : ℕ × MDePat T). Contains others h.0 × Known h.1) x.row.heads) y ys b),
  )

  -- the row that stands in the place of one
  pub partner : (xs ys : List (SparseAsked T)) (x : SparseAsked T) → AreSameRows at to xs ys → Contains xs x → (y : SparseAsked T) × Contains ys y × IsSameRow at to x y
  partner [] ys x s (k, l, e) = absurd (omega (arith, l))
  partner (z ∷ xs) [] x s i = absurd s
  partner (z ∷ xs) (y ∷ ys) x s (zero, l, e) = (y, (0, omega arith, refl), subst (λ w. IsSameRow at to w y) e s.0)
  partner (z ∷ xs) (y ∷ ys) x s (suc k, l, e) =
      let (w, (n, m, f), r) = partner xs ys x s.1 (k, omega (arith, l), e) in
      (w, (suc n, omega (arith, m), f), r)
