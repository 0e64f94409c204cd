-- The parts of a value stand at the places of the columns of its piece.
use Rattle.std.proofs.Common.{false, ◌≡◌, ◌<◌, ◌≤◌, ℕ, zero, suc, ◌+◌, Bool, true, List, [], ◌∷◌, ◌++◌, map, length, Option, Some, None, slice_get, nat_eq, refl, sym, ap, ◌∙◌, arith, subst, IsTrue}
use Rattle.match_model.specs.Values.{MValue, Node, Point, Row, parts_of, values_list, values_of, MValues, no_values, more_values}
use Rattle.match_model.specs.Constructors.{MShape, FixedShape, LongerShape, MCtor, SingleCtor, PointCtor, LaterCtor, OtherTextCtor, VariantCtor, FlagCtor, NumbersCtor, TextCtor, RowCtor, WildCtor, OrCtor, MSet, SingleSet, VariantSet, Elementary, OneSingle, OneVariant, builds, builds_one, is_of_set, belongs, sure_inside, elementary_ctor}
use Rattle.match_model.specs.Contexts.{Context}
use Rattle.match_model.specs.ContextLaws.{PartsLaw, PartsAre}
use Rattle.match_model.specs.Pieces.{each_below}
use Rattle.match_model.specs.Places.{MStep, step_into, step_number, part_at, position_at, position_under, found_if}
use Rattle.match_model.specs.Rows.{part_open}
use Rattle.match_model.specs.Matrices.{MColumn, open_of, column_at, part_step, part_columns}
use Rattle.match_model.specs.PieceStates.{HasValue}
use Rattle.match_model.proofs.Basics.{nat_equal, nat_itself}
use Rattle.match_model.specs.Lists.{Every, Ordered}
use Rattle.keyed_steps.specs.Positions.{inside, ArePositions}
use Rattle.keyed_steps.specs.Filled.{AreValues, ArePartsAt, HaveValues, IsOpened}

-- one step further in
pub part-then : (place : List MStep) (s : MStep) (v u : MValue) → part_at place v ≡ Some u →
    part_at (place ++ s ∷ []) v ≡ step_into s u
part-then [] s v u e = go (step_into s v) ∙ ap (step_into s) (some-is v u e)
  where
    some-is : (x y : MValue) → Some x ≡ Some y → x ≡ y
    some-is x y e = cc

    go : (o : Option MValue) → (elim o [ None ↦ None | Some w ↦ Some w ]) ≡ o
    go None = refl
    go (Some w) = refl
part-then (t ∷ place) s v u e = go (step_into t v) e (λ w h. part-then place s w u h)
  where
    go : (o : Option MValue) → (elim o [ None ↦ None | Some w ↦ part_at place w ]) ≡ Some u →
        ((w : MValue) → part_at place w ≡ Some u → part_at (place ++ s ∷ []) w ≡ step_into s u) →
        (elim o [ None ↦ None | Some w ↦ part_at (place ++ s ∷ []) w ]) ≡ step_into s u
    go None e h = cc
    go (Some w) e h = h w e

pub position-then : (place : List MStep) (s : MStep) (v u x : MValue) (p : List ℕ) (k : ℕ) → part_at place v ≡ Some u →
    position_at place v ≡ Some p → step_into s u ≡ Some x → step_number s u ≡ Some k →
    position_at (place ++ s ∷ []) v ≡ Some (inside p k)
position-then [] s v u x p k e f g h =
    let same : u ≡ v = cc in
    let nil : p ≡ [] = cc in
    let into : step_into s v ≡ Some x = ap (step_into s) (sym same) ∙ g in
    let number : step_number s v ≡ Some k = ap (step_number s) (sym same) ∙ h in
    go (step_into s v) into (step_number s v) number ∙ ap (λ q. Some (inside q k)) (sym nil)
  where
    go : (o : Option MValue) → o ≡ Some x → (n : Option ℕ) → n ≡ Some k →
        (elim o [ None ↦ None | Some w ↦ position_under n (Some []) ]) ≡ Some (k ∷ [])
    go None e n f = cc
    go (Some w) e None f = cc
    go (Some w) e (Some j) f = ap (λ i. Some (i ∷ [])) (number j k f)
      where
        number : (a b : ℕ) → Some a ≡ Some b → a ≡ b
        number a b e = cc
position-then (t ∷ place) s v u x p k e f g h =
    go (step_into t v) (step_number t v) p e f (λ w q a b. position-then place s w u x q k a b g h)
  where
    go : (o : Option MValue) (n : Option ℕ) (p : List ℕ) →
        (elim o [ None ↦ None | Some w ↦ part_at place w ]) ≡ Some u →
        (elim o [ None ↦ None | Some w ↦ position_under n (position_at place w) ]) ≡ Some p →
        ((w : MValue) (q : List ℕ) → part_at place w ≡ Some u → position_at place w ≡ Some q →
        position_at (place ++ s ∷ []) w ≡ Some (inside q k)) →
        (elim o [ None ↦ None | Some w ↦ position_under n (position_at (place ++ s ∷ []) w) ]) ≡ Some (inside p k)
    go None n p e f h = cc
    go (Some w) n p e f h = inner n (position_at place w) refl f
      where
        inner : (m : Option ℕ) (q : Option (List ℕ)) → position_at place w ≡ q → position_under m q ≡ Some p →
            position_under m (position_at (place ++ s ∷ []) w) ≡ Some (inside p k)
        inner None q a b = cc
        inner (Some i) None a b = cc
        inner (Some i) (Some is) a b =
            let whole : i ∷ is ≡ p = cc in
            rw (h w is e a) (ap (λ (l : List ℕ). Some (inside l k)) whole)

-- the things from number `k` on
abbrev pub each_from : {A : Type 0} → (ℕ → A) → ℕ → ℕ → List A
each_from f k zero = []
each_from f k (suc n) = f k ∷ each_from f (suc k) n

from-last : {A : Type 0} (f : ℕ → A) (k n : ℕ) → each_from f k (suc n) ≡ each_from f k n ++ f (k + n) ∷ []
from-last f k zero = ap (λ m. f m ∷ []) (plus k)
  where
    plus : (k : ℕ) → k ≡ k + 0
    plus k = omega arith
from-last f k (suc n) =
    ap (λ l. f k ∷ l) (from-last f (suc k) n ∙ ap (λ m. each_from f (suc k) n ++ f m ∷ []) (plus k n))
  where
    plus : (k n : ℕ) → suc k + n ≡ k + suc n
    plus k n = omega arith

pub below-from : {A : Type 0} (f : ℕ → A) (n : ℕ) → each_below f n ≡ each_from f 0 n
below-from f zero = refl
below-from f (suc n) =
    ap (λ l. l ++ f n ∷ []) (below-from f n) ∙ (ap (λ m. each_from f 0 n ++ f m ∷ []) (plus n) ∙ sym (from-last f 0 n))
  where
    plus : (n : ℕ) → n ≡ 0 + n
    plus n = omega arith

module _ {T : Type 0} (V : T → Bool → MValue → Type 0) where
  -- what stands in a column
  record Stands (v : MValue) (c : MColumn T) (x : MValue) : Type 0 where
    pub value : V c.type c.sure x
    pub part : part_at c.place v ≡ Some x

  stand : (v : MValue) (col : ℕ → MColumn T) (k n : ℕ) (xs : List MValue) → length xs ≡ n →
      ((i : ℕ) (x : MValue) → slice_get xs i ≡ Some x → Stands v (col (i + k)) x) → AreValues V (each_from col k n) xs
      × ArePartsAt v (each_from col k n) xs
  stand v col k zero [] e h = (tt, tt)
  stand v col k zero (x ∷ xs) e h = absurd (omega (arith, e))
  stand v col k (suc n) [] e h = absurd (omega (arith, e))
  stand v col k (suc n) (x ∷ xs) e h =
      let here : Stands v (col k) x = subst (λ m. Stands v (col m) x) (zero-plus k) (h 0 x refl) in
      let rest = stand v col (suc k) n xs (omega (arith, e)) (λ i y a. subst (λ m. Stands v (col m) y) (plus i k)
      (h (suc i) y a)) in
      ((here.value, rest.0), (here.part, rest.1))
    where
      zero-plus : (k : ℕ) → 0 + k ≡ k
      zero-plus k = omega arith

      plus : (i k : ℕ) → suc i + k ≡ i + suc k
      plus i k = omega arith

  positions-from : (v : MValue) (col : ℕ → MColumn T) (p : List ℕ) (num : ℕ → ℕ) (k n : ℕ) →
      ((i : ℕ) → k ≤ i → i < k + n → position_at (col i).place v ≡ Some (inside p (num i))) →
      ArePositions v (each_from col k n) (map (inside p) (each_from num k n))
  positions-from v col p num k zero h = tt
  positions-from v col p num k (suc n) h = (
    h k (omega arith) (omega arith),
    positions-from v col p num (suc k) n
        (λ i a b. h i (omega (arith, a)) (omega (arith, b))),
  )

distinct-from : (num : ℕ → ℕ) (k n : ℕ) → ((i j : ℕ) → k ≤ i → i < j → j < k + n → ¬ (num i ≡ num j)) →
    Ordered (λ (a b : ℕ). ¬ (a ≡ b)) (each_from num k n)
distinct-from num k zero h = tt
distinct-from num k (suc n) h = (
  others (suc k) n (omega arith) (omega arith),
  distinct-from num (suc k) n
      (λ i j a b c. h i j (omega (arith, a)) b (omega (arith, c))),
)
  where
    others : (m l : ℕ) → k < m → m + l ≤ k + suc n → Every (λ (b : ℕ). ¬ (num k ≡ b)) (each_from num m l)
    others m zero a b = tt
    others m (suc l) a b =
        (h k m (omega arith) a (omega (arith, b)), others (suc m) l (omega (arith, a)) (omega (arith, b)))

-- the parts of a list
values_same : (vs : List MValue) → values_list (values_of vs) ≡ vs
values_same [] = refl
values_same (v ∷ vs) = ap (λ l. v ∷ l) (values_same vs)

module _ {T : Type 0} (cx : Context T) (V : T → Bool → MValue → Type 0) (c : MColumn T) (named : List (List ℕ))
    (piece : MCtor) where
  -- the parts of a value that the piece builds, by the steps to them
  pub record HasParts (u : MValue) (xs : List MValue) : Type 0 where
    pub count : length xs ≡ cx.arity piece c.type
    pub steps : (i : ℕ) (x : MValue) → slice_get xs i ≡ Some x → step_into (part_step piece i) u ≡ Some x
    pub values : (i : ℕ) (x : MValue) → slice_get xs i ≡ Some x → V (cx.sub piece c.type i) (sure_inside piece c.sure) x
    pub num : ℕ → ℕ
    pub numbers : (i : ℕ) → i < cx.arity piece c.type → step_number (part_step piece i) u ≡ Some (num i)
    pub apart : (i j : ℕ) → i < j → j < cx.arity piece c.type → ¬ (num i ≡ num j)

  abbrev Col : ℕ → MColumn T
  Col i = column_at (c.place ++ part_step piece i ∷ []) (part_open cx (open_of c) piece i)

  columns-from : part_columns cx c piece ≡ each_from Col 0 (cx.arity piece c.type)
  columns-from = below-from Col (cx.arity piece c.type)

  pub placed : (v u : MValue) (xs : List MValue) → part_at c.place v ≡ Some u → HasParts u xs →
      AreValues V (part_columns cx c piece) xs × ArePartsAt v (part_columns cx c piece) xs
  placed v u xs e h =
      let s = stand V v Col 0 (cx.arity piece c.type) xs h.count one in
      (subst (λ cs. AreValues V cs xs) (sym columns-from) s.0, subst (λ cs. ArePartsAt v cs xs) (sym columns-from) s.1)
    where
      zero-plus : (i : ℕ) → i ≡ i + 0
      zero-plus i = omega arith

      one : (i : ℕ) (x : MValue) → slice_get xs i ≡ Some x → Stands V v (Col (i + 0)) x
      one i x a =
          subst (λ m. Stands V v (Col m) x) (zero-plus i)
          (record { value = h.values i x a; part = part-then c.place (part_step piece i) v u e ∙ h.steps i x a })

  there-at : (xs : List MValue) (i : ℕ) → i < length xs → (x : MValue) × (slice_get xs i ≡ Some x)
  there-at [] i l = absurd (omega (arith, l))
  there-at (x ∷ xs) zero l = (x, refl)
  there-at (x ∷ xs) (suc i) l = there-at xs i (omega (arith, l))

  pub positioned : (v u : MValue) (p : List ℕ) (xs : List MValue) → part_at c.place v ≡ Some u →
      position_at c.place v ≡ Some p → HasParts u xs →
      (ks : List ℕ) × Ordered (λ (i j : ℕ). ¬ (i ≡ j)) ks × ArePositions v (part_columns cx c piece) (map (inside p) ks)
  positioned v u p xs e f h = (
    each_from h.num 0 (cx.arity piece c.type),
    distinct-from h.num 0 (cx.arity piece c.type) (λ i j a b d. h.apart i j b (omega (arith, d))),
    subst (λ cs. ArePositions v cs (map (inside p) (each_from h.num 0 (cx.arity piece c.type)))) (sym columns-from)
        (positions-from V v Col p h.num 0 (cx.arity piece c.type) (λ i a b. at i (omega (arith, b)))),
  )
    where
      at : (i : ℕ) → i < cx.arity piece c.type → position_at (Col i).place v ≡ Some (inside p (h.num i))
      at i l =
          let n : length xs ≡ cx.arity piece c.type = h.count in
          let x = there-at xs i (omega (arith, l, n)) in
          position-then c.place (part_step piece i) v u x.0 p (h.num i) e f (h.steps i x.0 x.1) (h.numbers i l)

  -- values of the columns, part by part
  pub record Each (k n : ℕ) (us : List MValue) : Type 0 where
    pub count : length us ≡ n
    pub values : PartsAre V (sure_inside piece c.sure) (cx.sub piece c.type) k us

  values-each : (k n : ℕ) (us : List MValue) → AreValues V (each_from Col k n) us → Each k n us
  values-each k zero [] a = record { count = refl; values = tt }
  values-each k zero (u ∷ us) a = elim a [ ]
  values-each k (suc n) [] a = elim a [ ]
  values-each k (suc n) (u ∷ us) a =
      let r = values-each (suc k) n us a.1 in record { count = ap suc r.count; values = (a.0, r.values) }

  pub columns-each : (us : List MValue) → AreValues V (part_columns cx c piece) us → Each 0 (cx.arity piece c.type) us
  columns-each us a = values-each 0 (cx.arity piece c.type) us (subst (λ cs. AreValues V cs us) columns-from a)

  -- a piece is opened, where each value that it builds has its parts, and any parts make one
  pub opened-by : HasValue V (open_of c) named piece → ((u : MValue) → V c.type c.sure u →
      builds named piece u ≡ true → (xs : List MValue) × HasParts u xs) →
      ((us : List MValue) → Each 0 (cx.arity piece c.type) us → (u : MValue) × V c.type c.sure u
      × (builds named piece u ≡ true) × HasParts u us) → IsOpened cx V c named piece
  opened-by some parts make = record {
    gives = λ v u e w b. (let p = parts u w b in let s = placed v u p.0 e p.1 in (p.0, s.0, s.1));
    places = λ v u p e w b f. (let q = parts u w b in positioned v u p q.0 e f q.1);
    makes = λ us a. (let m = make us (columns-each us a) in (m.0, m.1, m.2, λ v e. (placed v m.0 us e m.3).1));
    lives = lives (parts some.0 some.1 some.2);
  }
    where
      lives : ((xs : List MValue) × HasParts some.0 xs) → HaveValues V (part_columns cx c piece)
      lives p = (
        p.0,
        subst (λ cs. AreValues V cs p.0) (sym columns-from) (values-are 0 (cx.arity piece c.type) p.0 p.1.count
            (λ i x a. subst (λ m. V (cx.sub piece c.type m) (sure_inside piece c.sure) x) (plus i) (p.1.values i x a))),
      )
        where
          plus : (i : ℕ) → i ≡ i + 0
          plus i = omega arith

          values-are : (k n : ℕ) (xs : List MValue) → length xs ≡ n →
              ((i : ℕ) (x : MValue) → slice_get xs i ≡ Some x → V (cx.sub piece c.type (i + k))
              (sure_inside piece c.sure) x) → AreValues V (each_from Col k n) xs
          values-are k zero [] e h = tt
          values-are k zero (x ∷ xs) e h = absurd (omega (arith, e))
          values-are k (suc n) [] e h = absurd (omega (arith, e))
          values-are k (suc n) (x ∷ xs) e h = (
            subst (λ m. V (cx.sub piece c.type m) (sure_inside piece c.sure) x) (zero-plus k) (h 0 x refl),
            values-are (suc k) n xs (omega (arith, e)) (λ i y a. subst
                (λ m. V (cx.sub piece c.type m) (sure_inside piece c.sure) y) (step i k) (h (suc i) y a)),
          )
            where
              zero-plus : (k : ℕ) → 0 + k ≡ k
              zero-plus k = omega arith

              step : (i k : ℕ) → suc i + k ≡ i + suc k
              step i k = omega arith

parts-at : {T : Type 0} (V : T → Bool → MValue → Type 0) (sure : Bool) (sub : ℕ → T) (k : ℕ) (xs : List MValue) (i : ℕ)
    (x : MValue) → PartsAre V sure sub k xs → slice_get xs i ≡ Some x → V (sub (i + k)) sure x
parts-at V sure sub k [] i x p e = cc
parts-at V sure sub k (y ∷ xs) zero x p e =
    let same : y ≡ x = cc in
    subst (λ m. V (sub m) sure x) (plus k) (subst (V (sub k) sure) same p.0)
  where
    plus : (k : ℕ) → k ≡ 0 + k
    plus k = omega arith
parts-at V sure sub k (y ∷ xs) (suc i) x p e =
    subst (λ m. V (sub m) sure x) (plus i k) (parts-at V sure sub (suc k) xs i x p.1 e)
  where
    plus : (i k : ℕ) → i + suc k ≡ suc i + k
    plus i k = omega arith

module _ {T : Type 0} (IsType : T → Type 0) (cx : Context T) (V : T → Bool → MValue → Type 0)
    (law : PartsLaw IsType V cx) (c : MColumn T) (is : IsType c.type) (named : List (List ℕ)) where
  plus-zero : (i : ℕ) → i + 0 ≡ i
  plus-zero i = omega arith

  -- a variant is opened
  variant-parts : (k : ℕ) → IsTrue (is_of_set (cx.set_of c.type) (OneVariant k)) → (u : MValue) → V c.type c.sure u →
      builds named (VariantCtor k) u ≡ true → (xs : List MValue) × HasParts cx V c named (VariantCtor k) u xs
  variant-parts k of (Node j ps) w b =
      let l = (law.parts c.type (OneVariant k) c.sure (Node j ps) is of b (λ e. different e)).0 w in (
        values_list ps,
        record {
          count = l.0;
          steps = λ i x a. ap (λ t. found_if t (slice_get (values_list ps) i)) (turned j k b) ∙ a;
          values =
              λ i x a. subst (λ m. V (cx.sub (VariantCtor k) c.type m) c.sure x) (plus-zero i)
              (parts-at V c.sure (cx.sub (VariantCtor k) c.type) 0 (values_list ps) i x l.1 a);
          num = λ i. i;
          numbers = λ i h. refl;
          apart = λ i j h m e. omega (arith, h, e);
        },
      )
    where
      turned : (a b : ℕ) → nat_eq a b ≡ true → nat_eq b a ≡ true
      turned a b h = let e : a ≡ b = nat_equal a b h in subst (λ x. nat_eq x a ≡ true) e (nat_itself a)

      different : OneVariant k ≡ Rattle.match_model.specs.Constructors.OnePoint → ⊥
      different e = cc
  variant-parts k of (Rattle.match_model.specs.Values.Flag t) w b = cc
  variant-parts k of (Rattle.match_model.specs.Values.Num t) w b = cc
  variant-parts k of (Rattle.match_model.specs.Values.Text t) w b = cc
  variant-parts k of (Point m t) w b = cc
  variant-parts k of (Row t) w b = cc
  variant-parts k of Rattle.match_model.specs.Values.Thing w b = cc
  variant-parts k of Rattle.match_model.specs.Values.Later w b = cc
  variant-parts k of Rattle.match_model.specs.Values.Unseen w b = cc

  variant-makes : (k : ℕ) → IsTrue (is_of_set (cx.set_of c.type) (OneVariant k)) → (us : List MValue) →
      Each cx V c named (VariantCtor k) 0 (cx.arity (VariantCtor k) c.type) us →
      (u : MValue) × V c.type c.sure u × (builds named (VariantCtor k) u ≡ true)
      × HasParts cx V c named (VariantCtor k) u us
  unfolding variant-parts
  variant-makes k of us e =
      let u : MValue = Node k (values_of us) in
      let b : builds named (VariantCtor k) u ≡ true = nat_itself k in
      let count : length (values_list (values_of us)) ≡ cx.arity (VariantCtor k) c.type = ap length (values_same us)
      ∙ e.count in
      let parts : PartsAre V c.sure (cx.sub (VariantCtor k) c.type) 0 (values_list (values_of us)) = subst
      (PartsAre V c.sure (cx.sub (VariantCtor k) c.type) 0) (sym (values_same us)) e.values in
      let w : V c.type c.sure u = (law.parts c.type (OneVariant k) c.sure u is of b (λ h. different h)).1
      (count, parts) in
      (u, w, b, subst (HasParts cx V c named (VariantCtor k) u) (values_same us) (variant-parts k of u w b).1)
    where
      different : OneVariant k ≡ Rattle.match_model.specs.Constructors.OnePoint → ⊥
      different e = cc

  -- a variant with a value is opened
  pub variant-opened : (k : ℕ) → IsTrue (is_of_set (cx.set_of c.type) (OneVariant k)) →
      HasValue V (open_of c) named (VariantCtor k) → IsOpened cx V c named (VariantCtor k)
  variant-opened k of some = opened-by cx V c named (VariantCtor k) some (variant-parts k of) (variant-makes k of)

  -- a piece without parts is opened
  pub bare-opened : (piece : MCtor) → cx.arity piece c.type ≡ 0 → HasValue V (open_of c) named piece →
      IsOpened cx V c named piece
  bare-opened piece none some = opened-by cx V c named piece some (λ u w b. ([], bare u)) (λ us e. make us e.count)
    where
      bare : (u : MValue) → HasParts cx V c named piece u []
      bare u = record {
        count = sym none;
        steps = λ i x a. absurd (no-item i x a);
        values = λ i x a. absurd (no-item i x a);
        num = λ i. i;
        numbers = λ i h. absurd (omega (arith, h, none));
        apart = λ i j h l e. absurd (omega (arith, l, none));
      }
        where
          no-item : (i : ℕ) (x : MValue) → slice_get [] i ≡ Some x → ⊥
          no-item i x a = cc

      make : (us : List MValue) → length us ≡ cx.arity piece c.type → (u : MValue) × V c.type c.sure u
          × (builds named piece u ≡ true) × HasParts cx V c named piece u us
      make [] e = (some.0, some.1, some.2, bare some.0)
      make (u ∷ us) e = absurd (omega (arith, e, none))

  -- what stands behind a reference
  pub point-opened : cx.set_of c.type ≡ Rattle.match_model.specs.Constructors.PointSet →
      cx.arity PointCtor c.type ≡ 1 → HasValue V (open_of c) named PointCtor → IsOpened cx V c named PointCtor
  point-opened set one some = opened-by cx V c named PointCtor some parts (λ us e. make us e.count e.values)
    where
      mutability : (mutable : Bool) × ((sure m : Bool) (v : MValue) →
          (V c.type sure (Point m v) → ((m ≡ mutable) × V (cx.sub PointCtor c.type 0) false v))
          × (((m ≡ mutable) × V (cx.sub PointCtor c.type 0) false v) → V c.type sure (Point m v)))
      mutability = let l = law.point c.type is set in (l.0, λ sure m v. ((l.1 sure m v).0, (l.1 sure m v).1))

      behind : (m : Bool) (w : MValue) → V (cx.sub PointCtor c.type 0) false w →
          HasParts cx V c named PointCtor (Point m w) (w ∷ [])
      behind m w h = record {
        count = sym one;
        steps = λ i x a. at i x a;
        values = λ i x a. value i x a;
        num = λ i. 0;
        numbers = λ i l. refl;
        apart = λ i j l k e. absurd (omega (arith, l, k, one));
      }
        where
          at : (i : ℕ) (x : MValue) → slice_get (w ∷ []) i ≡ Some x →
              step_into (part_step PointCtor i) (Point m w) ≡ Some x
          at zero x a = a
          at (suc i) x a = cc

          value : (i : ℕ) (x : MValue) → slice_get (w ∷ []) i ≡ Some x → V (cx.sub PointCtor c.type i) false x
          value zero x a = let same : w ≡ x = cc in subst (V (cx.sub PointCtor c.type 0) false) same h
          value (suc i) x a = cc

      parts : (u : MValue) → V c.type c.sure u → builds named PointCtor u ≡ true → (xs : List MValue)
          × HasParts cx V c named PointCtor u xs
      parts (Point m w) h b = (w ∷ [], behind m w ((mutability.1 c.sure m w).0 h).1)
      parts (Node k ps) h b = cc
      parts (Row ps) h b = cc
      parts (Rattle.match_model.specs.Values.Flag t) h b = cc
      parts (Rattle.match_model.specs.Values.Num t) h b = cc
      parts (Rattle.match_model.specs.Values.Text t) h b = cc
      parts Rattle.match_model.specs.Values.Thing h b = cc
      parts Rattle.match_model.specs.Values.Later h b = cc
      parts Rattle.match_model.specs.Values.Unseen h b = cc

      make : (us : List MValue) → length us ≡ cx.arity PointCtor c.type →
          PartsAre V false (cx.sub PointCtor c.type) 0 us → (u : MValue) × V c.type c.sure u
          × (builds named PointCtor u ≡ true) × HasParts cx V c named PointCtor u us
      make [] e h = absurd (omega (arith, e, one))
      make (w ∷ []) e h =
          (Point mutability.0 w, (mutability.1 c.sure mutability.0 w).1 (refl, h.0), refl, behind mutability.0 w h.0)
      make (w ∷ (x ∷ us)) e h = absurd (omega (arith, e, one))
