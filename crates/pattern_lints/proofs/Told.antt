-- What the answers on parts, pieces and rows tell.
use Rattle.std.proofs.Common.{◌≡◌, ◌<◌, ◌≤◌, ◌⊎◌, inl, inr, ◌↔◌, ℕ, ◌+◌, ◌-◌, ◌^◌, Bool, true, false, List, length, nat_eq, Some, None, IsTrue, refl, sym, ap, ◌∙◌, subst, arith}
use Rattle.std.proofs.lemmas.Bool.{cases_lt}
use Rattle.match_model.specs.Values.{MValue}
use Rattle.match_model.specs.Constructors.{FixedShape, LongerShape, least_length, MCtor, SingleCtor, PointCtor, LaterCtor, OtherTextCtor, WildCtor, OrCtor, VariantCtor, FlagCtor, NumbersCtor, TextCtor, RowCtor, MSet, SingleSet, PointSet, VariantSet, Elementary, OneSingle, OnePoint, OneLater, OneVariant, OneFlag, OneNumber, OneText, OneLength, elementary_ctor, is_of_set, belongs, has_piece, sure_inside}
use Rattle.match_model.specs.Contexts.{Context}
use Rattle.match_model.specs.ContextLaws.{ValuesLaw, PartsLaw, parts_count}
use Rattle.match_model.specs.ArenaPatterns.{MDePat, ctor_of, subs_of}
use Rattle.match_model.specs.WellTyped.{is_written, IsTyped, IsHeadTyped}
use Rattle.match_model.specs.Rows.{Head}
use Rattle.match_model.proofs.Basics.{nat_equal, nat_itself, untrue}
use Rattle.pat_context.specs.Laws.{HasFewItems}
use Rattle.pat_context.specs.Parts.{Tells}
use Rattle.pat_context.proofs.Consequences.{few_parts}
use Rattle.pattern_lints.specs.Meeting.{head_matches, head_ctor, IsSharp, Common, head_by, part_head, front_by, back_by, Fits, HeadFits, PartMeets, AllMeet, IsWritten, IsDone, Skipped, Spot, Stands, spot_part, IsPiece, PieceMeets, PiecesMeet, IsAlike, IsAlikeHead}
use Rattle.pattern_lints.specs.Lengths.{IsSharpHead, head_least}
use Rattle.pattern_lints.proofs.HeadParts.{got, le_true}
use Rattle.pattern_lints.proofs.PieceHeads.{alike_of, typed_sharp, typed_wild, length_belongs, ctor_fits, head_part_typed}
use Rattle.pattern_lints.proofs.PartsCommon.{kind, or_has_none, flipped, wild_first, Settled, settled}
use Rattle.pattern_lints.proofs.RowLengths.{only_length}

-- ---- answers

pub tells : {P Q : Type 0} (b : Bool) → (P → Q) → (Q → P) → Tells b P → Tells b Q
tells true f g h = f h
tells false f g h = λ q. h (g q)

pub tells_true : {P : Type 0} (b : Bool) → b ≡ true → P → Tells b P
tells_true true e p = p
tells_true false e p = cc

pub tells_false : {P : Type 0} (b : Bool) → b ≡ false → ¬ P → Tells b P
tells_false false e p = p
tells_false true e p = cc

-- ---- values of a type

pub any_value : {T : Type 0} (IsValue : T → Bool → MValue → Type 0) (t : T) (sure : Bool) (b : Bool) → (b ≡ true → (v : MValue) × IsValue t sure v) →
    (b ≡ false → (v : MValue) → ¬ IsValue t sure v) → Tells b (Common IsValue t sure None None)
any_value IsValue t sure true f g = let x = f refl in record { value = x.0; is = x.1; first = refl; second = refl }
any_value IsValue t sure false f g = λ m. g refl m.value m.is

-- ---- wildcards on the second side

pub wild_second : {T : Type 0} (IsValue : T → Bool → MValue → Type 0) (t : T) (sure : Bool) (h : Head T) (q : MDePat T) → ctor_of q ≡ WildCtor →
    Common IsValue t sure h None ↔ Common IsValue t sure h (Some q)
wild_second IsValue t sure h q w = (
  (λ m. flipped IsValue t sure (Some q) h ((wild_first IsValue t sure q h w).1 (flipped IsValue t sure h None m))),
  (λ m. flipped IsValue t sure None h ((wild_first IsValue t sure q h w).0 (flipped IsValue t sure h (Some q) m))),
)

-- ---- constructors with one elementary one

abbrev pub IsOne : MCtor → Type 0
IsOne SingleCtor = Unit {0}
IsOne PointCtor = Unit {0}
IsOne (VariantCtor k) = Unit {0}
IsOne _ = ⊥

-- the elementary constructor that it is
record IsElementary (set : MSet) (c : MCtor) : Type 0 where
  by : Elementary
  is : c ≡ elementary_ctor by
  of_set : is_of_set set by ≡ true
  only : (e : Elementary) → has_piece c (elementary_ctor e) ≡ true → e ≡ by

one_elementary : (set : MSet) (c : MCtor) → IsOne c → belongs set c ≡ true → IsElementary set c
one_elementary SingleSet SingleCtor o b = record { by = OneSingle; is = refl; of_set = refl; only = only }
  where
    only : (e : Elementary) → has_piece SingleCtor (elementary_ctor e) ≡ true → e ≡ OneSingle
    only OneSingle h = refl
    only _ h = untrue h
one_elementary PointSet PointCtor o b = record { by = OnePoint; is = refl; of_set = refl; only = only }
  where
    only : (e : Elementary) → has_piece PointCtor (elementary_ctor e) ≡ true → e ≡ OnePoint
    only OnePoint h = refl
    only _ h = untrue h
one_elementary (VariantSet n l) (VariantCtor k) o b = record { by = OneVariant k; is = refl; of_set = b; only = only }
  where
    only : (e : Elementary) → has_piece (VariantCtor k) (elementary_ctor e) ≡ true → e ≡ OneVariant k
    only (OneVariant j) h = ap OneVariant (sym (nat_equal k j h))
    only _ h = untrue h
one_elementary (VariantSet n l) SingleCtor o b = untrue b
one_elementary (VariantSet n l) PointCtor o b = untrue b
one_elementary (VariantSet n l) LaterCtor o b = absurd o
one_elementary SingleSet (VariantCtor k) o b = untrue b
one_elementary SingleSet PointCtor o b = untrue b
one_elementary PointSet (VariantCtor k) o b = untrue b
one_elementary PointSet SingleCtor o b = untrue b
one_elementary _ SingleCtor o b = untrue b
one_elementary _ PointCtor o b = untrue b
one_elementary _ (VariantCtor k) o b = untrue b
one_elementary _ _ o b = absurd o

has_itself : (c d : MCtor) → IsOne c → IsAlike c d → has_piece d c ≡ true
has_itself SingleCtor SingleCtor o a = refl
has_itself SingleCtor _ o a = untrue a
has_itself PointCtor PointCtor o a = refl
has_itself PointCtor _ o a = untrue a
has_itself (VariantCtor j) (VariantCtor k) o a = let e : j ≡ k = nat_equal j k a in subst (λ (x : ℕ). nat_eq x j ≡ true) e (nat_itself j)
has_itself (VariantCtor j) _ o a = untrue a
has_itself LaterCtor d o a = absurd o
has_itself OtherTextCtor d o a = absurd o
has_itself WildCtor d o a = absurd o
has_itself OrCtor d o a = absurd o
has_itself (FlagCtor b) d o a = absurd o
has_itself (NumbersCtor r) d o a = absurd o
has_itself (TextCtor t) d o a = absurd o
has_itself (RowCtor r) d o a = absurd o

one_has : (c : MCtor) → IsOne c → has_piece c c ≡ true
one_has SingleCtor o = refl
one_has PointCtor o = refl
one_has (VariantCtor j) o = nat_itself j
one_has LaterCtor o = absurd o
one_has OtherTextCtor o = absurd o
one_has WildCtor o = absurd o
one_has OrCtor o = absurd o
one_has (FlagCtor b) o = absurd o
one_has (NumbersCtor r) o = absurd o
one_has (TextCtor t) o = absurd o
one_has (RowCtor r) o = absurd o

alike_has : {T : Type 0} (c : MCtor) (g : Head T) → IsOne c → IsAlikeHead c g → has_piece (head_ctor g) c ≡ true
alike_has c None o a = refl
alike_has c (Some q) o a = has_itself c (ctor_of q) o a

-- sets that have an elementary constructor have it as a constructor
single_belongs : (set : MSet) → is_of_set set OneSingle ≡ true → belongs set SingleCtor ≡ true
single_belongs SingleSet h = refl
single_belongs _ h = untrue h

point_belongs : (set : MSet) → is_of_set set OnePoint ≡ true → belongs set PointCtor ≡ true
point_belongs PointSet h = refl
point_belongs _ h = untrue h

variant_belongs : (set : MSet) (k : ℕ) → is_of_set set (OneVariant k) ≡ true → belongs set (VariantCtor k) ≡ true
variant_belongs (VariantSet n l) k h = h
variant_belongs _ k h = untrue h

module _ {T : Type 0} (IsType : T → Type 0) (IsValue : T → Bool → MValue → Type 0) (cx : Context T) (values : ValuesLaw IsType IsValue cx) (parts : PartsLaw IsType IsValue cx) where
  -- ---- pieces

  pub head_fits : (t : T) (h : Head T) (e : Elementary) → IsType t → IsHeadTyped cx t h → has_piece (head_ctor h) (elementary_ctor e) ≡ true →
      HeadFits h (parts_count cx t e)
  head_fits t None e d ht has = tt
  head_fits t (Some p) e d ht has = elim (kind (ctor_of p)) [
    | inl w ↦ subst (λ c. Fits c (length (subs_of p)) (parts_count cx t e)) (sym w) (ap length (typed_wild cx t p ht w))
    | inr (inl or) ↦ absurd (or_has_none (ctor_of p) (elementary_ctor e) or has)
    | inr (inr s) ↦ (let y = typed_sharp cx t p ht s in ctor_fits IsType IsValue cx parts t (ctor_of p) e (length (subs_of p)) d y.belongs y.written s has y.count)
  ]

  pub first_fits : (t : T) (c : MCtor) (n : ℕ) (h g : Head T) → IsType t → IsHeadTyped cx t h → IsPiece cx t c n h g → HeadFits h n
  first_fits t c n h g d ht m =
      subst (λ (x : ℕ). HeadFits h x) (sym m.count) (head_fits t h m.by d ht (subst (λ x. has_piece (head_ctor h) x ≡ true) m.is m.first))

  pub second_fits : (t : T) (c : MCtor) (n : ℕ) (h g : Head T) → IsType t → IsHeadTyped cx t g → IsPiece cx t c n h g → HeadFits g n
  second_fits t c n h g d gt m =
      subst (λ (x : ℕ). HeadFits g x) (sym m.count) (head_fits t g m.by d gt (subst (λ x. has_piece (head_ctor g) x ≡ true) m.is m.second))

  elementary_parts : (t : T) (e : Elementary) (k : ℕ) → IsType t → is_of_set (cx.set_of t) e ≡ true → k < parts_count cx t e →
      IsTrue (belongs (cx.set_of t) (elementary_ctor e)) × (k < cx.arity (elementary_ctor e) t)
  elementary_parts t OneSingle k d o l = (single_belongs (cx.set_of t) o, l)
  elementary_parts t OnePoint k d o l =
      let b = point_belongs (cx.set_of t) o in
      let a : cx.arity PointCtor t ≡ 1 = parts.arity t PointCtor d b in (b, omega (arith, a, l))
  elementary_parts t (OneVariant j) k d o l = (variant_belongs (cx.set_of t) j o, l)
  elementary_parts t (OneLength m) k d o l =
      let b = length_belongs (cx.set_of t) m o in
      let a : cx.arity (RowCtor (FixedShape m)) t ≡ m = parts.arity t (RowCtor (FixedShape m)) d b in (b, omega (arith, a, l))
  elementary_parts t OneLater k d o l = absurd (omega (arith, l))
  elementary_parts t (OneFlag b) k d o l = absurd (omega (arith, l))
  elementary_parts t (OneNumber n) k d o l = absurd (omega (arith, l))
  elementary_parts t (OneText u) k d o l = absurd (omega (arith, l))

  -- a piece with a part belongs to the type
  pub piece_parts : (t : T) (c : MCtor) (n : ℕ) (h g : Head T) (k : ℕ) → IsType t → IsPiece cx t c n h g → k < n →
      IsTrue (belongs (cx.set_of t) c) × (k < cx.arity c t)
  piece_parts t c n h g k d m l =
      subst (λ x. IsTrue (belongs (cx.set_of t) x) × (k < cx.arity x t)) (sym m.is) (elementary_parts t m.by k d m.of_set (subst (λ (x : ℕ). k < x) m.count l))

  -- the patterns for a part have its type
  pub first_typed : (t : T) (c : MCtor) (n : ℕ) (h g : Head T) (k : ℕ) → IsType t → IsHeadTyped cx t h → IsPiece cx t c n h g → k < n →
      IsHeadTyped cx (cx.sub c t k) (part_head h n k)
  first_typed t c n h g k d ht m l =
      subst (λ x. IsHeadTyped cx (cx.sub x t k) (part_head h n k)) (sym m.is)
      (subst (λ (x : ℕ). IsHeadTyped cx (cx.sub (elementary_ctor m.by) t k) (part_head h x k)) (sym m.count)
      (head_part_typed IsType IsValue cx parts t h m.by k d ht m.of_set (subst (λ x. has_piece (head_ctor h) x ≡ true) m.is m.first) (subst (λ (x : ℕ). k < x) m.count l)))

  pub second_typed : (t : T) (c : MCtor) (n : ℕ) (h g : Head T) (k : ℕ) → IsType t → IsHeadTyped cx t g → IsPiece cx t c n h g → k < n →
      IsHeadTyped cx (cx.sub c t k) (part_head g n k)
  second_typed t c n h g k d gt m l =
      subst (λ x. IsHeadTyped cx (cx.sub x t k) (part_head g n k)) (sym m.is)
      (subst (λ (x : ℕ). IsHeadTyped cx (cx.sub (elementary_ctor m.by) t k) (part_head g x k)) (sym m.count)
      (head_part_typed IsType IsValue cx parts t g m.by k d gt m.of_set (subst (λ x. has_piece (head_ctor g) x ≡ true) m.is m.second) (subst (λ (x : ℕ). k < x) m.count l)))

  -- ---- parts that no pattern writes

  unwritten : (c : MCtor) (ps : List (MDePat T)) (n k : ℕ) → IsSharp c → Fits c (length ps) n → k < n → head_by c ps n k ≡ None → (f b : ℕ) × (c ≡ RowCtor (LongerShape f b))
  unwritten (RowCtor (LongerShape f b)) ps n k s h l e = (f, b, refl)
  unwritten WildCtor ps n k s h l e = absurd s
  unwritten OrCtor ps n k s h l e = absurd s
  unwritten SingleCtor ps n k s h l e = let x = got ps k (omega (arith, h, l)) in let f : Some x.0 ≡ None = sym x.1 ∙ e in cc
  unwritten PointCtor ps n k s h l e = let x = got ps k (omega (arith, h, l)) in let f : Some x.0 ≡ None = sym x.1 ∙ e in cc
  unwritten LaterCtor ps n k s h l e = let x = got ps k (omega (arith, h, l)) in let f : Some x.0 ≡ None = sym x.1 ∙ e in cc
  unwritten OtherTextCtor ps n k s h l e = let x = got ps k (omega (arith, h, l)) in let f : Some x.0 ≡ None = sym x.1 ∙ e in cc
  unwritten (VariantCtor j) ps n k s h l e = let x = got ps k (omega (arith, h, l)) in let f : Some x.0 ≡ None = sym x.1 ∙ e in cc
  unwritten (FlagCtor b) ps n k s h l e = let x = got ps k (omega (arith, h, l)) in let f : Some x.0 ≡ None = sym x.1 ∙ e in cc
  unwritten (NumbersCtor r) ps n k s h l e = let x = got ps k (omega (arith, h, l)) in let f : Some x.0 ≡ None = sym x.1 ∙ e in cc
  unwritten (TextCtor t) ps n k s h l e = let x = got ps k (omega (arith, h, l)) in let f : Some x.0 ≡ None = sym x.1 ∙ e in cc
  unwritten (RowCtor (FixedShape m)) ps n k s h l e = let x = got ps k (omega (arith, h, l)) in let f : Some x.0 ≡ None = sym x.1 ∙ e in cc

  -- where a part is written by none, all parts have one type
  pub one_type : (t : T) (c : MCtor) (n : ℕ) (p : MDePat T) (g : Head T) (k i j : ℕ) → IsType t → IsTyped cx t p → IsSharp (ctor_of p) → IsPiece cx t c n (Some p) g →
      k < n → part_head (Some p) n k ≡ None → cx.sub c t i ≡ cx.sub c t j
  one_type t c n p g k i j d pt s m l e =
      let r = unwritten (ctor_of p) (subs_of p) n k s (first_fits t c n (Some p) g d pt m) l e in
      let has = subst (λ x. has_piece x (elementary_ctor m.by) ≡ true) r.2 (subst (λ x. has_piece (ctor_of p) x ≡ true) m.is m.first) in
      let o = only_length (LongerShape r.0 r.1) m.by has in
      let is : c ≡ RowCtor (FixedShape o.0) = m.is ∙ ap elementary_ctor o.1 in
      let b = length_belongs (cx.set_of t) o.0 (subst (λ (x : Elementary). is_of_set (cx.set_of t) x ≡ true) o.1 m.of_set) in
      subst (λ x. cx.sub x t i ≡ cx.sub x t j) (sym is) (parts.items t (FixedShape o.0) (FixedShape o.0) i j d b b)

  -- all parts meet, where those that are written do, and one between them has a value
  pub all_meet : (t : T) (sure : Bool) (c : MCtor) (n : ℕ) (Skip : ℕ → Type 0) (p : MDePat T) (g : Head T) (front back gap i : ℕ) → IsType t → IsTyped cx t p → IsSharp (ctor_of p) →
      IsPiece cx t c n (Some p) g → IsWritten (Some p) g n front back → gap ≡ n - front - back → front + back ≤ i →
      (0 < gap → (u : MValue) × IsValue (cx.sub c t front) (sure_inside c sure) u) →
      ((k : ℕ) → k < n → IsDone front gap i k → PartMeets IsValue cx t sure c n Skip (Some p) g k) → AllMeet IsValue cx t sure c n Skip (Some p) g
  all_meet t sure c n Skip p g front back gap i d pt s m w e l middle done k less free = go (cases_lt k front) (cases_lt k (front + gap))
    where
      fits : front + back ≤ n
      fits = w.within

      go : (k < front) ⊎ (front ≤ k) → (k < front + gap) ⊎ (front + gap ≤ k) → Common IsValue (cx.sub c t k) (sure_inside c sure) (part_head (Some p) n k) (part_head g n k)
      go (inl a) b = done k less (inl (a, omega (arith, a, l))) free
      go (inr a) (inr b) = done k less (inr (b, omega (arith, less, l, e, fits))) free
      go (inr a) (inl b) =
          let first = w.first k less a (omega (arith, a, b, e, fits)) in
          let second = w.second k less a (omega (arith, a, b, e, fits)) in
          let u = middle (omega (arith, a, b)) in record {
            value = u.0;
            is = subst (λ x. IsValue x (sure_inside c sure) u.0) (one_type t c n p g k front k d pt s m less first) u.1;
            first = subst (λ (x : Head T). head_matches x u.0 ≡ true) (sym first) refl;
            second = subst (λ (x : Head T). head_matches x u.0 ≡ true) (sym second) refl;
          }

  -- ---- one piece

  pub one_piece : (t : T) (p : MDePat T) (g : Head T) (n : ℕ) → IsType t → IsTyped cx t p → IsOne (ctor_of p) → IsSharp (ctor_of p) → IsAlikeHead (ctor_of p) g →
      n ≡ length (subs_of p) → IsPiece cx t (ctor_of p) n (Some p) g
  one_piece t p g n d pt o s a e =
      let y = typed_sharp cx t p pt s in
      let x = one_elementary (cx.set_of t) (ctor_of p) o y.belongs in
      record {
        by = x.by;
        is = x.is;
        of_set = x.of_set;
        count = e ∙ y.count ∙ counted x.by x.is;
        first = one_has (ctor_of p) o;
        second = alike_has (ctor_of p) g o a;
      }
    where
      sharp_one : (e : Elementary) → IsOne (elementary_ctor e) → IsTrue (belongs (cx.set_of t) (elementary_ctor e)) → cx.arity (elementary_ctor e) t ≡ parts_count cx t e
      sharp_one OneSingle o b = refl
      sharp_one OnePoint o b = parts.arity t PointCtor d b
      sharp_one (OneVariant k) o b = refl
      sharp_one OneLater o b = absurd o
      sharp_one (OneFlag x) o b = absurd o
      sharp_one (OneNumber n) o b = absurd o
      sharp_one (OneText u) o b = absurd o
      sharp_one (OneLength m) o b = absurd o

      counted : (e : Elementary) → ctor_of p ≡ elementary_ctor e → cx.arity (ctor_of p) t ≡ parts_count cx t e
      counted e is = ap (λ c. cx.arity c t) is ∙ sharp_one e (subst IsOne is o) (subst (λ c. IsTrue (belongs (cx.set_of t) c)) is (typed_sharp cx t p pt s).belongs)

  pub pieces_one : (t : T) (sure : Bool) (p : MDePat T) (g : Head T) (spot : Spot) (n : ℕ) → IsType t → IsTyped cx t p → IsOne (ctor_of p) → IsSharp (ctor_of p) →
      IsPiece cx t (ctor_of p) n (Some p) g → PieceMeets IsValue cx t sure (ctor_of p) n (Some p) g spot ↔ PiecesMeet IsValue cx t sure (Some p) g spot
  pieces_one t sure p g spot n d pt o s m = ((λ a. record { piece = ctor_of p; count = n; had = m; stand = a.stand; all = a.all }), back)
    where
      same : (e : Elementary) → has_piece (ctor_of p) (elementary_ctor e) ≡ true → e ≡ m.by
      same e h =
          let x = one_elementary (cx.set_of t) (ctor_of p) o (typed_sharp cx t p pt s).belongs in
          x.only e h ∙ sym (x.only m.by (subst (λ c. has_piece (ctor_of p) c ≡ true) m.is m.first))

      back : PiecesMeet IsValue cx t sure (Some p) g spot → PieceMeets IsValue cx t sure (ctor_of p) n (Some p) g spot
      back a =
          let z = settled IsType IsValue cx values parts t sure (Some p) g spot a in
          let e = same z.by z.first in
          let c : elementary_ctor z.by ≡ ctor_of p = ap elementary_ctor e ∙ sym m.is in
          let k : parts_count cx t z.by ≡ n = ap (parts_count cx t) e ∙ sym m.count in
          record {
            stand = subst (λ (x : ℕ). Stands (ctor_of p) (head_ctor g) x spot) k z.stand;
            all = subst (λ (x : ℕ). AllMeet IsValue cx t sure (ctor_of p) x (Skipped (spot_part (ctor_of p) x spot)) (Some p) g) k
                (subst (λ c. AllMeet IsValue cx t sure c (parts_count cx t z.by) (Skipped (spot_part (ctor_of p) (parts_count cx t z.by) spot)) (Some p) g) c z.all);
          }

  -- what two patterns have in common makes them alike
  pub pieces_alike : (t : T) (sure : Bool) (p : MDePat T) (g : Head T) (spot : Spot) → IsSharp (ctor_of p) → IsSharpHead g → PiecesMeet IsValue cx t sure (Some p) g spot →
      IsAlikeHead (ctor_of p) g
  pieces_alike t sure p g spot s gs a = go g gs (settled IsType IsValue cx values parts t sure (Some p) g spot a)
    where
      go : (g : Head T) → IsSharpHead g → Settled IsType IsValue cx values parts t sure (Some p) g spot → IsAlikeHead (ctor_of p) g
      go None gs z = tt
      go (Some q) gs z = alike_of (ctor_of p) (ctor_of q) z.by s gs z.first z.second

  -- ---- rows

  -- the patterns below a pattern are few
  least_count : (c : MCtor) (count : ℕ) → IsSharp c → ((f b : ℕ) → c ≡ RowCtor (LongerShape f b) → count ≡ f + b) → front_by c count + back_by c ≡ count
  least_count (RowCtor (LongerShape f b)) count s h = sym (h f b refl)
  least_count WildCtor count s h = absurd s
  least_count OrCtor count s h = absurd s
  least_count SingleCtor count s h = omega arith
  least_count PointCtor count s h = omega arith
  least_count LaterCtor count s h = omega arith
  least_count OtherTextCtor count s h = omega arith
  least_count (VariantCtor k) count s h = omega arith
  least_count (FlagCtor b) count s h = omega arith
  least_count (NumbersCtor r) count s h = omega arith
  least_count (TextCtor t) count s h = omega arith
  least_count (RowCtor (FixedShape m)) count s h = omega arith

  few_written : (c : MCtor) → is_written c ≡ true → HasFewItems c
  few_written (RowCtor r) w = let l = le_true (least_length r) (2 ^ 32) w in omega (arith, l)
  few_written SingleCtor w = tt
  few_written PointCtor w = tt
  few_written LaterCtor w = tt
  few_written OtherTextCtor w = tt
  few_written WildCtor w = tt
  few_written OrCtor w = tt
  few_written (VariantCtor k) w = tt
  few_written (FlagCtor b) w = tt
  few_written (NumbersCtor r) w = tt
  few_written (TextCtor t) w = tt

  pub few_all : (t : T) (h : Head T) → IsType t → IsHeadTyped cx t h → IsSharpHead h → head_least h ≤ 2 ^ 33
  few_all t None d ht s = omega arith
  few_all t (Some p) d ht s =
      let y = typed_sharp cx t p ht s in
      let few = few_parts IsType IsValue cx parts t (ctor_of p) d y.belongs (few_written (ctor_of p) y.written) in
      let e = least_count (ctor_of p) (length (subs_of p)) s (λ f b z. y.count ∙ ap (λ c. cx.arity c t) z ∙ parts.arity t (RowCtor (LongerShape f b)) d (subst (λ c. IsTrue (belongs (cx.set_of t) c)) z y.belongs)) in
      omega (arith, few, e, y.count)
