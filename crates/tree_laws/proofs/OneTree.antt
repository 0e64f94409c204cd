-- A choice of columns that is one gives one tree.
use Rattle.std.proofs.Common.{◌≡◌, inl, inr, ℕ, Bool, false, List, [], ◌∷◌, Some, slice_get, refl, sym, ap, ◌∙◌, arith, subst, IsTrue}
use Rattle.match_model.specs.Values.{MValue}
use Rattle.match_model.specs.Constructors.{MCtor}
use Rattle.match_model.specs.Contexts.{Context}
use Rattle.match_model.specs.Pieces.{ArePieces}
use Rattle.match_model.specs.Trees.{ElseCase}
use Rattle.match_model.specs.Matrices.{MColumn, MRow, part_columns}
use Rattle.match_model.specs.PieceStates.{is_present}
use Rattle.match_model.specs.DecisionTrees.{MTree, SwitchTree, AskTree, MBranches, no_branch, more_branches, row_binds, all_wild, is_switchless}
use Rattle.match_model.proofs.OnePieces.{one_pieces}
use Rattle.match_model.specs.Keys.{Decision}
use Rattle.match_model.specs.Lists.{Ordered, SameMembers}
use Rattle.match_model.specs.Steps.{replaced_at, expand_head, specialise_head, default_head, rows_at}
use Rattle.match_model.specs.RowOrder.{row_key, RowFirst, AreInOrder}
use Rattle.keyed_rows.proofs.Picking.{first-of, before-asym}
use Rattle.match_model.specs.Lowering.{ctors_at, all_wild_at, Lowers, no_value_left, no_row_left, takes, asks, drops, opens, switches, Branches, no_else, with_else, no_case, one_case}

pub clash : {A : Type 0} (b : Bool) → IsTrue b → b ≡ false → A
clash b h e = cc

no-members : {A : Type 0} (xs : List A) → SameMembers [] xs → [] ≡ xs
no-members [] s = refl
no-members (x ∷ xs) s = elim (s.back x (inl refl)) [ ]

-- things in an order are one list
sorted-one : {A : Type 0} (R : A → A → Type 0) → ((x y : A) → R x y → R y x → ⊥) → (xs ys : List A) → Ordered R xs →
    Ordered R ys → SameMembers xs ys → xs ≡ ys
sorted-one R asym [] ys o p s = no-members ys s
sorted-one R asym (x ∷ xs) ys o p s =
    let k = first-of R asym x xs ys p s o.0 in
    ap (λ l. x ∷ l) (sorted-one R asym xs k.rest o.1 k.ordered k.same) ∙ sym k.is

row-asym : {T : Type 0} (decides : ℕ → Decision) (r s : MRow T) → RowFirst decides r s → RowFirst decides s r → ⊥
row-asym decides r s (inl a) (inl b) = omega (arith, a, b)
row-asym decides r s (inl a) (inr b) = let e : s.arm ≡ r.arm = b.0 in omega (arith, a, e)
row-asym decides r s (inr a) (inl b) = let e : r.arm ≡ s.arm = a.0 in omega (arith, b, e)
row-asym decides r s (inr a) (inr b) = before-asym (row_key decides r) (row_key decides s) a.1 b.1

-- the same rows in order are one list
pub order-one : {T : Type 0} (decides : ℕ → Decision) (rows xs ys : List (MRow T)) → AreInOrder decides rows xs →
    AreInOrder decides rows ys → xs ≡ ys
order-one decides rows xs ys a b =
    sorted-one (RowFirst decides) (row-asym decides) xs ys a.ordered b.ordered
    (record { forth = λ x i. b.same.forth x (a.same.back x i); back = λ x i. a.same.forth x (b.same.back x i) })

-- what is looked at: a column and the rows with its or-patterns taken apart
record Look (T : Type 0) : Type 0 where
  pub i : ℕ
  pub c : MColumn T
  pub rows : List (MRow T)

abbrev look : {T : Type 0} → ℕ → MColumn T → List (MRow T) → Look T
look i c rows = record { i = i; c = c; rows = rows }

some-is : {A : Type 0} (x y : A) → Some x ≡ Some y → x ≡ y
some-is x y e = cc

module _ {T : Type 0} (cx : Context T) (V : T → Bool → MValue → Type 0) (decides : ℕ → Decision)
    (Chooses : List (MColumn T) → List (MRow T) → ℕ → Type 0) (BareOnly : Type 0)
    (pick-one : (cs : List (MColumn T)) (rows : List (MRow T)) (i j : ℕ) → Chooses cs rows i → Chooses cs rows j →
    i ≡ j)
    (pick-open : (cs : List (MColumn T)) (r : MRow T) (rows : List (MRow T)) (i : ℕ) → Chooses cs (r ∷ rows) i →
    all_wild r ≡ false)
    (pick-some : (cs : List (MColumn T)) (i : ℕ) → Chooses cs [] i → ⊥) where
  abbrev L : List (MColumn T) → List (MRow T) → MTree → Type 0
  L cs rows t = Lowers cx V decides Chooses BareOnly cs rows t

  same-look : (cs : List (MColumn T)) (rows : List (MRow T)) (i j : ℕ) (c d : MColumn T) (xs ys : List (MRow T)) →
      Chooses cs rows i → Chooses cs rows j → slice_get cs i ≡ Some c → slice_get cs j ≡ Some d →
      AreInOrder decides (rows_at expand_head c.place i rows) xs →
      AreInOrder decides (rows_at expand_head d.place j rows) ys → look j d ys ≡ look i c xs
  same-look cs rows i j c d xs ys p q e f a b = λ k. record { i = ji k; c = dc k; rows = yx k }
    where
      ji : j ≡ i
      ji = pick-one cs rows j i q p

      dc : d ≡ c
      dc = some-is d c (sym f ∙ (ap (slice_get cs) ji ∙ e))

      yx : ys ≡ xs
      yx = order-one decides (rows_at expand_head c.place i rows) ys xs
          (subst (λ (z : MColumn T). AreInOrder decides (rows_at expand_head z.place i rows) ys) dc
          (subst (λ k. AreInOrder decides (rows_at expand_head d.place k rows) ys) ji b)) a

  mutual
    pub one-tree : (cs : List (MColumn T)) (rows : List (MRow T)) (s t : MTree) → L cs rows s → L cs rows t → s ≡ t
    one-tree _ _ _ _ (no_value_left cs b) (no_value_left _ x) = refl
    one-tree _ _ _ _ (no_value_left cs b) (no_row_left _ n) = absurd (n b)
    one-tree _ _ _ _ (no_value_left cs b) (drops j d _ _ ys next t pk e o w q l) = absurd (pick-some cs j pk)
    one-tree _ _ _ _ (no_value_left cs b) (opens j d _ _ ys next p t pk e o w sl are q l) = absurd (pick-some cs j pk)
    one-tree _ _ _ _ (no_value_left cs b) (switches j d _ _ ys ps bs pk e o w sl are l) = absurd (pick-some cs j pk)
    one-tree _ _ _ _ (no_row_left cs n) (no_value_left _ b) = absurd (n b)
    one-tree _ _ _ _ (no_row_left cs n) (no_row_left _ m) = refl
    one-tree _ _ _ _ (no_row_left cs n) (drops j d _ _ ys next t pk e o w q l) = absurd (pick-some cs j pk)
    one-tree _ _ _ _ (no_row_left cs n) (opens j d _ _ ys next p t pk e o w sl are q l) = absurd (pick-some cs j pk)
    one-tree _ _ _ _ (no_row_left cs n) (switches j d _ _ ys ps bs pk e o w sl are l) = absurd (pick-some cs j pk)
    one-tree _ _ _ _ (takes cs r rows w g) (takes _ _ _ x h) = refl
    one-tree _ _ _ _ (takes cs r rows w g) (asks _ _ _ t x h b) = clash r.guarded h g
    one-tree _ _ _ _ (takes cs r rows w g) (drops j d _ _ ys next t pk e o x q l) =
        clash (all_wild r) w (pick-open cs r rows j pk)
    one-tree _ _ _ _ (takes cs r rows w g) (opens j d _ _ ys next p t pk e o x sl are q l) =
        clash (all_wild r) w (pick-open cs r rows j pk)
    one-tree _ _ _ _ (takes cs r rows w g) (switches j d _ _ ys ps bs pk e o x sl are l) =
        clash (all_wild r) w (pick-open cs r rows j pk)
    one-tree _ _ _ _ (asks cs r rows s w g a) (takes _ _ _ x h) = clash r.guarded g h
    one-tree _ _ _ _ (asks cs r rows s w g a) (asks _ _ _ t x h b) =
        ap (AskTree r.arm (row_binds cs r)) (one-tree cs rows s t a b)
    one-tree _ _ _ _ (asks cs r rows s w g a) (drops j d _ _ ys next t pk e o x q l) =
        clash (all_wild r) w (pick-open cs r rows j pk)
    one-tree _ _ _ _ (asks cs r rows s w g a) (opens j d _ _ ys next p t pk e o x sl are q l) =
        clash (all_wild r) w (pick-open cs r rows j pk)
    one-tree _ _ _ _ (asks cs r rows s w g a) (switches j d _ _ ys ps bs pk e o x sl are l) =
        clash (all_wild r) w (pick-open cs r rows j pk)
    one-tree _ _ _ _ (drops i c cs _ xs next s pk e o w q l) (no_value_left _ b) = absurd (pick-some cs i pk)
    one-tree _ _ _ _ (drops i c cs _ xs next s pk e o w q l) (no_row_left _ n) = absurd (pick-some cs i pk)
    one-tree _ _ _ _ (drops i c cs _ xs next s pk e o w q l) (takes _ r rows x h) =
        clash (all_wild r) x (pick-open cs r rows i pk)
    one-tree _ _ _ _ (drops i c cs _ xs next s pk e o w q l) (asks _ r rows u x h b) =
        clash (all_wild r) x (pick-open cs r rows i pk)
    one-tree _ _ _ _ (drops i c cs _ xs next s pk e o w q l) (drops j d _ rows ys last t px f u v y m) =
        let z = same-look cs rows i j c d xs ys pk px e f o u in
        let there : AreInOrder decides (rows_at default_head c.place i xs) last = subst
        (λ (k : Look T). AreInOrder decides (rows_at default_head k.c.place k.i k.rows) last) z y in
        let same : last ≡ next = order-one decides (rows_at default_head c.place i xs) last next there q in
        one-tree (replaced_at i cs []) next s t l (subst (λ k. L (replaced_at i cs []) k t) same
        (subst (λ (k : Look T). L (replaced_at k.i cs []) last t) z m))
    one-tree _ _ _ _ (drops i c cs _ xs next s pk e o w q l) (opens j d _ rows ys last r t px f u v sr ar y m) =
        let z = same-look cs rows i j c d xs ys pk px e f o u in
        clash (all_wild_at i xs) w (subst (λ (y : Look T). all_wild_at y.i y.rows ≡ false) z v)
    one-tree _ _ _ _ (drops i c cs _ xs next s pk e o w q l) (switches j d _ rows ys rs ts px f u v sr ar m) =
        let z = same-look cs rows i j c d xs ys pk px e f o u in
        clash (all_wild_at i xs) w (subst (λ (y : Look T). all_wild_at y.i y.rows ≡ false) z v)
    one-tree _ _ _ _ (opens i c cs _ xs next p s pk e o w sl are q l) (no_value_left _ b) = absurd (pick-some cs i pk)
    one-tree _ _ _ _ (opens i c cs _ xs next p s pk e o w sl are q l) (no_row_left _ n) = absurd (pick-some cs i pk)
    one-tree _ _ _ _ (opens i c cs _ xs next p s pk e o w sl are q l) (takes _ r rows x h) =
        clash (all_wild r) x (pick-open cs r rows i pk)
    one-tree _ _ _ _ (opens i c cs _ xs next p s pk e o w sl are q l) (asks _ r rows u x h b) =
        clash (all_wild r) x (pick-open cs r rows i pk)
    one-tree _ _ _ _ (opens i c cs _ xs next p s pk e o w sl are q l) (drops j d _ rows ys last t px f u v y m) =
        let z = same-look cs rows i j c d xs ys pk px e f o u in
        clash (all_wild_at i xs) (subst (λ (y : Look T). IsTrue (all_wild_at y.i y.rows)) z v) w
    one-tree _ _ _ _ (opens i c cs _ xs next p s pk e o w sl are q l)
        (opens j d _ rows ys last r t px f u v sr ar y m) =
        let z = same-look cs rows i j c d xs ys pk px e f o u in
        let pieces : ArePieces (cx.set_of c.type) (ctors_at i xs) (r ∷ []) = subst
        (λ (k : Look T). ArePieces (cx.set_of k.c.type) (ctors_at k.i k.rows) (r ∷ [])) z ar in
        let lists : r ∷ [] ≡ p ∷ [] = one_pieces (cx.set_of c.type) (ctors_at i xs) (r ∷ []) (p ∷ []) pieces are in
        let piece : r ≡ p = cc in
        let there : AreInOrder decides (rows_at (specialise_head p (cx.arity p c.type)) c.place i xs) last =
        subst (λ k. AreInOrder decides (rows_at (specialise_head k (cx.arity k c.type)) c.place i xs) last) piece
        (subst (λ (k : Look T). AreInOrder decides (rows_at
        (specialise_head r (cx.arity r k.c.type)) k.c.place k.i k.rows) last) z y) in
        let same : last ≡ next = order-one decides (rows_at
        (specialise_head p (cx.arity p c.type)) c.place i xs) last next there q in
        one-tree (replaced_at i cs (part_columns cx c p)) next s t l
        (subst (λ k. L (replaced_at i cs (part_columns cx c p)) k t) same
        (subst (λ k. L (replaced_at i cs (part_columns cx c k)) last t) piece
        (subst (λ (k : Look T). L (replaced_at k.i cs (part_columns cx k.c r)) last t) z m)))
    one-tree _ _ _ _ (opens i c cs _ xs next p s pk e o w sl are q l) (switches j d _ rows ys rs ts px f u v sr ar m) =
        let z = same-look cs rows i j c d xs ys pk px e f o u in
        clash (is_switchless (cx.set_of c.type)) sl (subst
        (λ (y : Look T). is_switchless (cx.set_of y.c.type) ≡ false) z sr)
    one-tree _ _ _ _ (switches i c cs _ xs ps ss pk e o w sl are l) (no_value_left _ b) = absurd (pick-some cs i pk)
    one-tree _ _ _ _ (switches i c cs _ xs ps ss pk e o w sl are l) (no_row_left _ n) = absurd (pick-some cs i pk)
    one-tree _ _ _ _ (switches i c cs _ xs ps ss pk e o w sl are l) (takes _ r rows x h) =
        clash (all_wild r) x (pick-open cs r rows i pk)
    one-tree _ _ _ _ (switches i c cs _ xs ps ss pk e o w sl are l) (asks _ r rows u x h b) =
        clash (all_wild r) x (pick-open cs r rows i pk)
    one-tree _ _ _ _ (switches i c cs _ xs ps ss pk e o w sl are l) (drops j d _ rows ys last t px f u v y m) =
        let z = same-look cs rows i j c d xs ys pk px e f o u in
        clash (all_wild_at i xs) (subst (λ (y : Look T). IsTrue (all_wild_at y.i y.rows)) z v) w
    one-tree _ _ _ _ (switches i c cs _ xs ps ss pk e o w sl are l) (opens j d _ rows ys last r t px f u v sr ar y m) =
        let z = same-look cs rows i j c d xs ys pk px e f o u in
        clash (is_switchless (cx.set_of c.type)) (subst
        (λ (y : Look T). IsTrue (is_switchless (cx.set_of y.c.type))) z sr) sl
    one-tree _ _ _ _ (switches i c cs _ xs ps ss pk e o w sl are l) (switches j d _ rows ys rs ts px f u v sr ar m) =
        let z = same-look cs rows i j c d xs ys pk px e f o u in
        let pieces : ArePieces (cx.set_of c.type) (ctors_at i xs) rs = subst
        (λ (k : Look T). ArePieces (cx.set_of k.c.type) (ctors_at k.i k.rows) rs) z ar in
        let lists : rs ≡ ps = one_pieces (cx.set_of c.type) (ctors_at i xs) rs ps pieces are in
        let places : d.place ≡ c.place = ap (λ (k : Look T). k.c.place) z in
        let there : Branches cx V decides Chooses BareOnly i c cs xs ps ps ts =
        subst (λ k. Branches cx V decides Chooses BareOnly i c cs xs k k ts) lists
        (subst (λ (k : Look T). Branches cx V decides Chooses BareOnly k.i k.c cs k.rows rs rs ts) z m) in
        ap (SwitchTree c.place) (one-branches i c cs xs ps ps ss ts l there) ∙ ap (λ k. SwitchTree k ts) (sym places)

    one-branches : (i : ℕ) (c : MColumn T) (cs : List (MColumn T)) (rows : List (MRow T)) (all pieces : List MCtor)
        (s t : MBranches) → Branches cx V decides Chooses BareOnly i c cs rows all pieces s →
        Branches cx V decides Chooses BareOnly i c cs rows all pieces t → s ≡ t
    one-branches _ _ _ _ _ _ _ _ (no_else i c cs rows all n) (no_else _ _ _ _ _ m) = refl
    one-branches _ _ _ _ _ _ _ _ (no_else i c cs rows all n) (with_else _ _ _ _ next _ p t m h o l) = absurd (n p m h)
    one-branches _ _ _ _ _ _ _ _ (with_else i c cs rows next all p s m h o l) (no_else _ _ _ _ _ n) = absurd (n p m h)
    one-branches _ _ _ _ _ _ _ _ (with_else i c cs rows next all p s m h o l) (with_else _ _ _ _ last _ q t n k u v) =
        let same : last ≡ next = order-one decides (rows_at default_head c.place i rows) last next u o in
        ap (λ y. more_branches ElseCase y no_branch) (one-tree (replaced_at i cs []) next s t l
        (subst (λ z. L (replaced_at i cs []) z t) same v))
    one-branches _ _ _ _ _ _ _ _ (no_case i c cs rows all p ps s n a) (no_case _ _ _ _ _ _ _ t m b) =
        one-branches i c cs rows all ps s t a b
    one-branches _ _ _ _ _ _ _ _ (no_case i c cs rows all p ps s n a) (one_case _ _ _ _ next _ _ _ t ts pr h o l b) =
        absurd (elim n [ inl x ↦ clash (is_present (ctors_at i rows) p) pr x | inr x ↦ x h ])
    one-branches _ _ _ _ _ _ _ _ (one_case i c cs rows next all p ps s ss pr h o l a) (no_case _ _ _ _ _ _ _ t n b) =
        absurd (elim n [ inl x ↦ clash (is_present (ctors_at i rows) p) pr x | inr x ↦ x h ])
    one-branches _ _ _ _ _ _ _ _ (one_case i c cs rows next all p ps s ss pr h o l a)
        (one_case _ _ _ _ last _ _ _ t ts px k u v b) =
        let same : last ≡ next = order-one decides (rows_at
        (specialise_head p (cx.arity p c.type)) c.place i rows) last next u o in
        rw (
          one-tree (replaced_at i cs (part_columns cx c p)) next s t l
              (subst (λ z. L (replaced_at i cs (part_columns cx c p)) z t) same v),
          one-branches i c cs rows all ps ss ts a
              b,
        ) refl
