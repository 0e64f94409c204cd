-- The pieces of a column are distinct, build each value once, and have the cases of what they build.
use Rattle.std.proofs.Common.{◌≡◌, ◌≢◌, ◌⊎◌, inl, inr, ℕ, Bool, true, false, List, [], ◌∷◌, refl, sym, ap, ◌∙◌, arith, subst}
use Rattle.match_model.specs.Values.{MValue, Flag, Num, Text, Node, Point, Row, Thing, Later, Unseen}
use Rattle.match_model.specs.Constructors.{FixedShape, LongerShape, MCtor, MSet, SingleCtor, PointCtor, LaterCtor, OtherTextCtor, WildCtor, OrCtor, VariantCtor, FlagCtor, NumbersCtor, TextCtor, RowCtor, SingleSet, PointSet, FlagSet, TextSet, OpaqueSet, NothingSet, VariantSet, NumberSet, RowSet, builds, belongs, has_piece, Elementary, OneSingle, OnePoint, OneLater, OneVariant, OneFlag, OneNumber, OneText, OneLength, builds_one}
use Rattle.match_model.specs.ContextLaws.{ValueIs}
use Rattle.match_model.specs.Trees.{case_has, is_else}
use Rattle.match_model.specs.DecisionTrees.{is_switchless, case_of}
use Rattle.match_model.specs.WellTyped.{is_written}
use Rattle.match_model.proofs.Basics.{untrue}
use Rattle.match_model.specs.Lists.{Among}
use Rattle.constructor_sets.specs.Columns.{one, hits}
use Rattle.tree_laws.proofs.PiecesFit.{IsColumnCtor}

-- who builds a value has a hit
pub hit-some : (named : List (List ℕ)) (pieces : List MCtor) (v : MValue) (q : MCtor) → Among q pieces →
    builds named q v ≡ true → hits named pieces v ≡ 0 → ⊥
hit-some named [] v q a b h = a
hit-some named (p ∷ pieces) v q (inl e) b h =
    let k : one (builds named p v) ≡ 1 = ap one (subst (λ x. builds named x v ≡ true) e b) in
    omega (arith, h, k)
hit-some named (p ∷ pieces) v q (inr a) b h = hit-some named pieces v q a b (omega (arith, h))

-- one hit, by one piece
pub record IsHit (named : List (List ℕ)) (pieces : List MCtor) (v : MValue) : Type 0 where
  pub by : MCtor
  pub among : Among by pieces
  pub built : builds named by v ≡ true
  pub only : (q : MCtor) → Among q pieces → builds named q v ≡ true → q ≡ by

pub hit-one : (named : List (List ℕ)) (pieces : List MCtor) (v : MValue) → hits named pieces v ≡ 1 →
    IsHit named pieces v
hit-one named [] v h = absurd (omega (arith, h))
hit-one named (p ∷ pieces) v h = go (builds named p v) refl (λ k. hit-one named pieces v k)
  where
    go : (b : Bool) → builds named p v ≡ b → (hits named pieces v ≡ 1 → IsHit named pieces v) →
        IsHit named (p ∷ pieces) v
    go true e f =
        let k : one (builds named p v) ≡ 1 = ap one e in
        let none : hits named pieces v ≡ 0 = omega (arith, h, k) in
        record {
          by = p;
          among = inl refl;
          built = e;
          only = λ q a b. elim a
              [ inl s ↦ s | inr c ↦ absurd (hit-some named pieces v q c b none) ];
        }
    go false e f =
        let k : one (builds named p v) ≡ 0 = ap one e in
        let r : IsHit named pieces v = f (omega (arith, h, k)) in
        record {
          by = r.by;
          among = inr r.among;
          built = r.built;
          only = λ q a b. elim a
              [ inl s ↦ untrue (sym e ∙ subst (λ x. builds named x v ≡ true) s b) | inr c ↦ r.only q c b ];
        }

-- a value of a type with a constructor is seen
pub seen : (e : Elementary) (v : MValue) → builds_one e v ≡ true → (v ≡ Unseen) ⊎ (v ≡ Thing) → ⊥
seen e v b (inl q) = none e (subst (λ x. builds_one e x ≡ true) q b)
  where
    none : (e : Elementary) → builds_one e Unseen ≡ true → ⊥
    none OneSingle b = cc
    none OnePoint b = cc
    none OneLater b = cc
    none (OneVariant k) b = cc
    none (OneFlag k) b = cc
    none (OneNumber k) b = cc
    none (OneText k) b = cc
    none (OneLength k) b = cc
seen e v b (inr q) = none e (subst (λ x. builds_one e x ≡ true) q b)
  where
    none : (e : Elementary) → builds_one e Thing ≡ true → ⊥
    none OneSingle b = cc
    none OnePoint b = cc
    none OneLater b = cc
    none (OneVariant k) b = cc
    none (OneFlag k) b = cc
    none (OneNumber k) b = cc
    none (OneText k) b = cc
    none (OneLength k) b = cc

pub value-seen : (set : MSet) (sure : Bool) (k : MCtor) (v : MValue) → belongs set k ≡ true → ValueIs set sure v →
    (v ≡ Unseen) ⊎ (v ≡ Thing) → ⊥
value-seen OpaqueSet sure k v b w = untrue b
value-seen NothingSet sure k v b w = untrue b
value-seen SingleSet sure k v b w = seen w.by v w.build
value-seen PointSet sure k v b w = seen w.by v w.build
value-seen FlagSet sure k v b w = seen w.by v w.build
value-seen TextSet sure k v b w = seen w.by v w.build
value-seen (VariantSet count later) sure k v b w = seen w.by v w.build
value-seen (NumberSet first second) sure k v b w = seen w.by v w.build
value-seen (RowSet len) sure k v b w = seen w.by v w.build

-- only a column of texts counts what it names
named-same : (named : List (List ℕ)) (p : MCtor) (u : MValue) → p ≢ OtherTextCtor → builds [] p u ≡ builds named p u
named-same named OtherTextCtor u n = absurd (n refl)
named-same named WildCtor u n = refl
named-same named OrCtor u n = refl
named-same named SingleCtor (Node k ps) n = refl
named-same named SingleCtor _ n = refl
named-same named PointCtor (Point m w) n = refl
named-same named PointCtor _ n = refl
named-same named LaterCtor Later n = refl
named-same named LaterCtor _ n = refl
named-same named (VariantCtor j) (Node k ps) n = refl
named-same named (VariantCtor j) _ n = refl
named-same named (FlagCtor j) (Flag k) n = refl
named-same named (FlagCtor j) _ n = refl
named-same named (NumbersCtor j) (Num k) n = refl
named-same named (NumbersCtor j) _ n = refl
named-same named (TextCtor j) (Text k) n = refl
named-same named (TextCtor j) _ n = refl
named-same named (RowCtor j) (Row k) n = refl
named-same named (RowCtor j) _ n = refl

-- a piece that a pattern's constructor has is one that patterns write
unwritten : (set : MSet) (k p : MCtor) → IsColumnCtor set k → has_piece k p ≡ true → (p ≡ LaterCtor)
    ⊎ (p ≡ OtherTextCtor) → ⊥
unwritten set k p g h (inl e) = go k g.belong g.written (subst (λ x. has_piece k x ≡ true) e h)
  where
    wild : (set : MSet) → belongs set WildCtor ≡ true → ⊥
    wild set b = no set b
      where
        no : (set : MSet) → belongs set WildCtor ≡ true → ⊥
        no SingleSet b = cc
        no PointSet b = cc
        no FlagSet b = cc
        no TextSet b = cc
        no OpaqueSet b = cc
        no NothingSet b = cc
        no (VariantSet c l) b = cc
        no (NumberSet f s) b = cc
        no (RowSet l) b = cc

    go : (k : MCtor) → belongs set k ≡ true → is_written k ≡ true → has_piece k LaterCtor ≡ true → ⊥
    go WildCtor b w h = wild set b
    go LaterCtor b w h = untrue w
    go _ b w h = untrue h
unwritten set k p g h (inr e) = go k g.belong g.written (subst (λ x. has_piece k x ≡ true) e h)
  where
    no : (set : MSet) → belongs set WildCtor ≡ true → ⊥
    no SingleSet b = cc
    no PointSet b = cc
    no FlagSet b = cc
    no TextSet b = cc
    no OpaqueSet b = cc
    no NothingSet b = cc
    no (VariantSet c l) b = cc
    no (NumberSet f s) b = cc
    no (RowSet l) b = cc

    go : (k : MCtor) → belongs set k ≡ true → is_written k ≡ true → has_piece k OtherTextCtor ≡ true → ⊥
    go WildCtor b w h = no set b
    go OtherTextCtor b w h = untrue w
    go _ b w h = untrue h

switch-single : (set : MSet) → belongs set SingleCtor ≡ true → is_switchless set ≡ true
switch-single SingleSet b = refl
switch-single _ b = untrue b

switch-point : (set : MSet) → belongs set PointCtor ≡ true → is_switchless set ≡ true
switch-point PointSet b = refl
switch-point _ b = untrue b

switch-none : (set : MSet) (p : MCtor) → belongs set p ≡ true → (p ≡ WildCtor) ⊎ (p ≡ OrCtor) → ⊥
switch-none set p b (inl e) = no set (subst (λ x. belongs set x ≡ true) e b)
  where
    no : (set : MSet) → belongs set WildCtor ≡ true → ⊥
    no SingleSet b = cc
    no PointSet b = cc
    no FlagSet b = cc
    no TextSet b = cc
    no OpaqueSet b = cc
    no NothingSet b = cc
    no (VariantSet c l) b = cc
    no (NumberSet f s) b = cc
    no (RowSet l) b = cc
switch-none set p b (inr e) = no set (subst (λ x. belongs set x ≡ true) e b)
  where
    no : (set : MSet) → belongs set OrCtor ≡ true → ⊥
    no SingleSet b = cc
    no PointSet b = cc
    no FlagSet b = cc
    no TextSet b = cc
    no OpaqueSet b = cc
    no NothingSet b = cc
    no (VariantSet c l) b = cc
    no (NumberSet f s) b = cc
    no (RowSet l) b = cc

-- the case of a present piece
pub case-is : (set : MSet) (named : List (List ℕ)) (p k : MCtor) (u : MValue) → belongs set p ≡ true →
    IsColumnCtor set k → has_piece k p ≡ true → is_switchless set ≡ false →
    (case_has (case_of p) u ≡ builds named p u) × (is_else (case_of p) ≡ false)
case-is set named SingleCtor k u b g h s = untrue (sym s ∙ switch-single set b)
case-is set named PointCtor k u b g h s = untrue (sym s ∙ switch-point set b)
case-is set named LaterCtor k u b g h s = absurd (unwritten set k LaterCtor g h (inl refl))
case-is set named OtherTextCtor k u b g h s = absurd (unwritten set k OtherTextCtor g h (inr refl))
case-is set named WildCtor k u b g h s = absurd (switch-none set WildCtor b (inl refl))
case-is set named OrCtor k u b g h s = absurd (switch-none set OrCtor b (inr refl))
case-is set named (VariantCtor j) k u b g h s = (named-same named (VariantCtor j) u (λ e. cc), refl)
case-is set named (FlagCtor j) k u b g h s = (named-same named (FlagCtor j) u (λ e. cc), refl)
case-is set named (NumbersCtor j) k u b g h s = (named-same named (NumbersCtor j) u (λ e. cc), refl)
case-is set named (TextCtor j) k u b g h s = (named-same named (TextCtor j) u (λ e. cc), refl)
case-is set named (RowCtor (FixedShape n)) k u b g h s = (named-same named (RowCtor (FixedShape n)) u (λ e. cc), refl)
case-is set named (RowCtor (LongerShape f r)) k u b g h s =
    (named-same named (RowCtor (LongerShape f r)) u (λ e. cc), refl)
