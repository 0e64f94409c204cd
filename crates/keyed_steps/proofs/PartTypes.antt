-- The parts of a piece have types of the context, and the heads of the parts are well typed for them.
use Rattle.std.proofs.Common.{◌≡◌, ◌<◌, ◌≤◌, ℕ, zero, suc, ◌+◌, ◌-◌, Bool, true, false, List, [], ◌∷◌, ◌++◌, map, take, drop, length, nat_lt, cond, Some, None, refl, sym, ap, ◌∙◌, arith, subst}
use Rattle.match_model.specs.Values.{MValue}
use Rattle.match_model.specs.Constructors.{FixedShape, LongerShape, MCtor, SingleCtor, PointCtor, LaterCtor, OtherTextCtor, WildCtor, OrCtor, VariantCtor, FlagCtor, NumbersCtor, TextCtor, RowCtor, MSet, OneSingle, OneVariant, OnePoint, belongs, has_piece, is_of_set}
use Rattle.match_model.specs.Contexts.{Context}
use Rattle.match_model.specs.ContextLaws.{PartsLaw}
use Rattle.match_model.specs.ArenaPatterns.{MDePats, no_de_pats, more_de_pats, de_pats_list}
use Rattle.match_model.specs.Pieces.{each_below}
use Rattle.match_model.specs.Places.{MStep, ThroughStep, FieldStep, FrontStep, BackStep, MiddleStep}
use Rattle.match_model.specs.Rows.{Head, wildcards, heads_of, part_open}
use Rattle.match_model.specs.Matrices.{MColumn, open_of, column_at, part_step, part_columns}
use Rattle.match_model.specs.WellTyped.{IsHeadTyped, AreHeadsTyped, ArePartsTyped}
use Rattle.match_model.proofs.Basics.{untrue, nat_equal}
use Rattle.match_model.specs.Lists.{Every}
use Rattle.keyed_rows.proofs.Lists.{every-append}
use Rattle.keyed_rows.proofs.PartsDone.{MeetsAll}
use Rattle.keyed_steps.proofs.Opening.{each_from, below-from}
use Rattle.keyed_steps.specs.Good.{IsStraight, IsGoodColumn}
use Rattle.keyed_steps.proofs.HeadCounts.{IsWritten}
use Rattle.keyed_steps.proofs.PieceParts.{single-of, variant-of, point-of, wild-belongs, or-belongs}

straight-then : (place : List MStep) (s : MStep) → IsStraight place → IsStraight (s ∷ []) → IsStraight (place ++ s ∷ [])
straight-then [] s h k = k
straight-then (ThroughStep ∷ place) s h k = straight-then place s h k
straight-then (FieldStep i j ∷ place) s h k = straight-then place s h k
straight-then (FrontStep i ∷ place) s h k = straight-then place s h k
straight-then (BackStep i ∷ place) s h k = straight-then place s h k
straight-then (MiddleStep f b ∷ place) s h k = absurd h

step-straight : (p : MCtor) (i : ℕ) → IsStraight (part_step p i ∷ [])
step-straight PointCtor i = tt
step-straight (VariantCtor k) i = tt
step-straight (RowCtor (FixedShape n)) i = tt
step-straight (RowCtor (LongerShape f b)) i = go (nat_lt i f)
  where
    go : (x : Bool) → IsStraight (cond x (FrontStep i) (BackStep (f + b - i)) ∷ [])
    go true = tt
    go false = tt
step-straight SingleCtor i = tt
step-straight LaterCtor i = tt
step-straight OtherTextCtor i = tt
step-straight WildCtor i = tt
step-straight OrCtor i = tt
step-straight (FlagCtor b) i = tt
step-straight (NumbersCtor r) i = tt
step-straight (TextCtor t) i = tt

pub every-below : {A : Type 0} (P : A → Type 0) (f : ℕ → A) (n : ℕ) → ((i : ℕ) → i < n → P (f i)) →
    Every P (each_below f n)
every-below P f zero h = tt
every-below P f (suc n) h =
    every-append P (each_below f n) (f n ∷ []) (every-below P f n (λ i l. h i (omega (arith, l))))
    (h n (omega arith), tt)

point-set : (set : MSet) → belongs set PointCtor ≡ true → is_of_set set OnePoint ≡ true
point-set set h = subst (λ s. is_of_set s OnePoint ≡ true) (sym (point-of set h)) refl

module _ {T : Type 0} (IsType : T → Type 0) (cx : Context T) (V : T → Bool → MValue → Type 0)
    (law : PartsLaw IsType V cx) (t : T) (is : IsType t) where
  abbrev Of : MCtor → Type 0
  Of k = belongs (cx.set_of t) k ≡ true

  none-below : (p : MCtor) (j : ℕ) → cx.arity p t ≡ 0 → j < cx.arity p t → ⊥
  none-below p j e l = omega (arith, e, l)

  -- the types of parts
  part-type : (p : MCtor) (j : ℕ) → Of p → j < cx.arity p t → IsType (cx.sub p t j)
  part-type SingleCtor j o l = law.types t OneSingle j is (single-of (cx.set_of t) o) l
  part-type (VariantCtor k) j o l = law.types t (OneVariant k) j is (variant-of (cx.set_of t) k o) l
  part-type PointCtor j o l =
      let e : cx.arity PointCtor t ≡ 1 = law.arity t PointCtor is o in
      law.types t OnePoint j is (point-set (cx.set_of t) o) (omega (arith, e, l))
  part-type (RowCtor s) j o l = law.item_types t s j is o
  part-type LaterCtor j o l = absurd (none-below LaterCtor j (law.arity t LaterCtor is o) l)
  part-type OtherTextCtor j o l = absurd (none-below OtherTextCtor j (law.arity t OtherTextCtor is o) l)
  part-type (FlagCtor b) j o l = absurd (none-below (FlagCtor b) j (law.arity t (FlagCtor b) is o) l)
  part-type (NumbersCtor r) j o l = absurd (none-below (NumbersCtor r) j (law.arity t (NumbersCtor r) is o) l)
  part-type (TextCtor x) j o l = absurd (none-below (TextCtor x) j (law.arity t (TextCtor x) is o) l)
  part-type WildCtor j o l = untrue (sym (wild-belongs (cx.set_of t)) ∙ o)
  part-type OrCtor j o l = untrue (sym (or-belongs (cx.set_of t)) ∙ o)

  -- a constructor that has the piece has its types
  sub-same : (k p : MCtor) (j : ℕ) → MeetsAll k → has_piece k p ≡ true → Of k → Of p → j < cx.arity p t →
      cx.sub k t j ≡ cx.sub p t j
  sub-same WildCtor p j m h a b l = elim m [ ]
  sub-same OrCtor p j m h a b l = elim m [ ]
  sub-same (RowCtor (LongerShape f g)) p j m h a b l = elim m [ ]
  sub-same SingleCtor SingleCtor j m h a b l = refl
  sub-same SingleCtor _ j m h a b l = untrue h
  sub-same PointCtor PointCtor j m h a b l = refl
  sub-same PointCtor _ j m h a b l = untrue h
  sub-same LaterCtor LaterCtor j m h a b l = refl
  sub-same LaterCtor _ j m h a b l = untrue h
  sub-same OtherTextCtor OtherTextCtor j m h a b l = refl
  sub-same OtherTextCtor _ j m h a b l = untrue h
  sub-same (VariantCtor i) (VariantCtor k) j m h a b l = ap (λ n. cx.sub (VariantCtor n) t j) (nat_equal i k h)
  sub-same (VariantCtor i) _ j m h a b l = untrue h
  sub-same (FlagCtor i) (FlagCtor k) j m h a b l = absurd (none-below (FlagCtor k) j (law.arity t (FlagCtor k) is b) l)
  sub-same (FlagCtor i) _ j m h a b l = untrue h
  sub-same (NumbersCtor i) (NumbersCtor k) j m h a b l =
      absurd (none-below (NumbersCtor k) j (law.arity t (NumbersCtor k) is b) l)
  sub-same (NumbersCtor i) _ j m h a b l = untrue h
  sub-same (TextCtor i) (TextCtor k) j m h a b l = absurd (none-below (TextCtor k) j (law.arity t (TextCtor k) is b) l)
  sub-same (TextCtor i) _ j m h a b l = untrue h
  sub-same (RowCtor (FixedShape i)) (RowCtor s) j m h a b l = law.items t (FixedShape i) s j j is a b
  sub-same (RowCtor (FixedShape i)) _ j m h a b l = untrue h

  -- heads typed for the parts from number `j`
  abbrev pub TypedFrom : (ℕ → T) → ℕ → List (Head T) → Type 0
  TypedFrom type_of j [] = Unit {0}
  TypedFrom type_of j (h ∷ hs) = IsHeadTyped cx (type_of j) h × TypedFrom type_of (suc j) hs

  from-subs : (type_of : ℕ → T) (j : ℕ) (subs : MDePats T) → ArePartsTyped cx type_of j subs →
      TypedFrom type_of j (map Some (de_pats_list subs))
  from-subs type_of j no_de_pats h = tt
  from-subs type_of j (more_de_pats p ps) h = (h.0, from-subs type_of (suc j) ps h.1)

  from-same : (a b : ℕ → T) (j n : ℕ) (hs : List (Head T)) → length hs + j ≤ n → ((i : ℕ) → i < n → a i ≡ b i) →
      TypedFrom a j hs → TypedFrom b j hs
  from-same a b j n [] l e h = tt
  from-same a b j n (x ∷ hs) l e h = (
    subst (λ (s : T). IsHeadTyped cx s x) (e j (omega (arith, l))) h.0,
    from-same a b (suc j) n hs
        (omega (arith, l)) e h.1,
  )

  pub from-wild : (a : ℕ → T) (j m : ℕ) → TypedFrom a j (wildcards m)
  from-wild a j zero = tt
  from-wild a j (suc m) = (tt, from-wild a (suc j) m)

  -- heads of one type
  all-from : (a : ℕ → T) (s : T) (j : ℕ) (hs : List (Head T)) → ((i : ℕ) → s ≡ a i) → Every (IsHeadTyped cx s) hs →
      TypedFrom a j hs
  all-from a s j [] e h = tt
  all-from a s j (x ∷ hs) e h = (subst (λ (z : T). IsHeadTyped cx z x) (e j) h.0, all-from a s (suc j) hs e h.1)

  from-all : (a : ℕ → T) (s : T) (j : ℕ) (hs : List (Head T)) → ((i : ℕ) → s ≡ a i) → TypedFrom a j hs →
      Every (IsHeadTyped cx s) hs
  from-all a s j [] e h = tt
  from-all a s j (x ∷ hs) e h = (subst (λ (z : T). IsHeadTyped cx z x) (sym (e j)) h.0, from-all a s (suc j) hs e h.1)

  put-wild : (P : Head T → Type 0) → P None → (f m : ℕ) (hs : List (Head T)) → Every P hs →
      Every P (take f hs ++ (wildcards m ++ drop f hs))
  put-wild P n zero zero hs h = h
  put-wild P n zero (suc m) hs h = (n, put-wild P n zero m hs h)
  put-wild P n (suc f) zero [] h = tt
  put-wild P n (suc f) (suc m) [] h = (n, put-wild P n (suc f) m [] h)
  put-wild P n (suc f) m (x ∷ hs) h = (h.0, put-wild P n f m hs h.1)

  -- the heads of the parts of a piece
  pub meets-from : (k p : MCtor) (subs : MDePats T) → MeetsAll k → IsWritten cx t k subs →
      ArePartsTyped cx (cx.sub k t) 0 subs → has_piece k p ≡ true → Of p →
      length (map {B = Head T} Some (de_pats_list subs)) ≡ cx.arity p t →
      TypedFrom (cx.sub p t) 0 (map Some (de_pats_list subs))
  meets-from k p subs m w h has o count =
      from-same (cx.sub k t) (cx.sub p t) 0 (cx.arity p t) (map Some (de_pats_list subs)) (omega (arith, count))
      (λ i l. sub-same k p i m has w.belong o l) (from-subs (cx.sub k t) 0 subs h)

  pub ends-from : (f b : ℕ) (p : MCtor) (subs : MDePats T) (n : ℕ) → Of (RowCtor (LongerShape f b)) →
      ArePartsTyped cx (cx.sub (RowCtor (LongerShape f b)) t) 0 subs → has_piece (RowCtor (LongerShape f b)) p ≡ true →
      Of p →
      TypedFrom (cx.sub p t) 0 (heads_of (RowCtor (LongerShape f b)) (map Some (de_pats_list subs)) n)
  ends-from f b (RowCtor r) subs n a h has o =
      let k : MCtor = RowCtor (LongerShape f b) in
      let s : T = cx.sub k t 0 in
      all-from (cx.sub (RowCtor r) t) s 0 (heads_of k (map Some (de_pats_list subs)) n)
      (λ i. law.items t (LongerShape f b) r 0 i is a o)
      (put-wild (IsHeadTyped cx s) tt f (n - (f + b)) (map Some (de_pats_list subs))
      (from-all (cx.sub k t) s 0 (map Some (de_pats_list subs)) (λ i. law.items t (LongerShape f b)
      (LongerShape f b) 0 i is a a) (from-subs (cx.sub k t) 0 subs h)))
  ends-from f b _ subs n a h has o = untrue has

  -- and at its columns
  columns-typed : (col : ℕ → MColumn T) (type_of : ℕ → T) → ((i : ℕ) → (col i).type ≡ type_of i) →
      (j n : ℕ) (hs : List (Head T)) → length hs ≡ n → TypedFrom type_of j hs → AreHeadsTyped cx (each_from col j n) hs
  columns-typed col type_of e j zero [] l h = tt
  columns-typed col type_of e j zero (x ∷ hs) l h = absurd (omega (arith, l))
  columns-typed col type_of e j (suc n) [] l h = absurd (omega (arith, l))
  columns-typed col type_of e j (suc n) (x ∷ hs) l h = (
    subst (λ (s : T). IsHeadTyped cx s x) (sym (e j)) h.0,
    columns-typed col type_of e (suc j) n hs
        (omega (arith, l)) h.1,
  )

  pub piece-typed : (c : MColumn T) (p : MCtor) (hs : List (Head T)) → c.type ≡ t → length hs ≡ cx.arity p c.type →
      TypedFrom (cx.sub p c.type) 0 hs → AreHeadsTyped cx (part_columns cx c p) hs
  piece-typed c p hs same l h =
      let Col : ℕ → MColumn T = λ i. column_at (c.place ++ part_step p i ∷ []) (part_open cx (open_of c) p i) in
      subst (λ cs. AreHeadsTyped cx cs hs) (sym (below-from Col (cx.arity p c.type)))
      (columns-typed Col (cx.sub p c.type) (λ i. refl) 0 (cx.arity p c.type) hs l h)

  -- the columns of parts are good
  pub columns-good : (c : MColumn T) (p : MCtor) → c.type ≡ t → Of p → IsStraight c.place →
      Every (IsGoodColumn IsType) (part_columns cx c p)
  columns-good c p same o s =
      every-below (IsGoodColumn IsType) (λ i. column_at (c.place ++ part_step p i ∷ []) (part_open cx (open_of c) p i))
      (cx.arity p c.type) (λ i l. record {
        type =
            subst (λ (x : T). IsType (cx.sub p x i)) (sym same) (part-type p i o
            (subst (λ (x : T). i < cx.arity p x) same l));
        straight = straight-then c.place (part_step p i) s (step-straight p i);
      })
