-- Rows with a rest: their ends are the parts of the piece, and any ends make one, with the middle of a row that there is.
use Rattle.std.proofs.Common.{◌≡◌, inl, inr, ◌≤◌, ℕ, ◌+◌, ◌-◌, Bool, true, List, ◌++◌, length, take, drop, nat_le, refl, sym, ap, ◌∙◌, arith, subst, length-append}
use Rattle.std.proofs.lemmas.Bool.Decides.{nat_tests}
use Rattle.match_model.specs.Values.{MValue, Flag, Num, Text, Node, Point, Row, Thing, Later, Unseen, MValues, values_list, values_of, parts_of}
use Rattle.match_model.specs.Constructors.{LongerShape, RowCtor, OneLength, builds, is_of_set, belongs}
use Rattle.match_model.specs.Contexts.{Context}
use Rattle.match_model.specs.ContextLaws.{PartsLaw, ValuesLaw}
use Rattle.match_model.specs.Matrices.{MColumn, open_of}
use Rattle.match_model.specs.PieceStates.{HasValue}
use Rattle.keyed_steps.specs.Filled.{IsOpened}
use Rattle.keyed_steps.proofs.Opening.{HasParts, Each, opened-by}
use Rattle.keyed_steps.proofs.OpeningRows.{longer-parts}
use Rattle.keyed_steps.proofs.Items.{values-same, parts-get}
use Rattle.keyed_steps.proofs.RowItems.{at-least, of-length, items-of, row-of, AreItems}
use Rattle.keyed_steps.proofs.Cutting.{take-length, drop-length, get-take, get-drop-in, get-append, take-front, drop-front, whole}

at-most : (i f : ℕ) → i ≤ f → nat_le i f ≡ true
at-most i f h = grind (arith, nat_tests)

module _ {T : Type 0} (IsType : T → Type 0) (cx : Context T) (V : T → Bool → MValue → Type 0)
    (law : PartsLaw IsType V cx) (values : ValuesLaw IsType V cx) (c : MColumn T) (is : IsType c.type)
    (named : List (List ℕ)) (f b : ℕ) (of : belongs (cx.set_of c.type) (RowCtor (LongerShape f b)) ≡ true) where
  abbrev Are : List MValue → Type 0
  Are xs = AreItems IsType cx V law values c is (LongerShape f b) of xs

  arity-is : cx.arity (RowCtor (LongerShape f b)) c.type ≡ f + b
  arity-is = law.arity c.type (RowCtor (LongerShape f b)) is of

  -- the items at both ends
  abbrev pub ends-of : List MValue → List MValue
  ends-of xs = take f xs ++ drop (length xs - b) xs

  pub ends-parts : (u : MValue) → V c.type c.sure u → builds named (RowCtor (LongerShape f b)) u ≡ true →
      HasParts cx V c named (RowCtor (LongerShape f b)) u (ends-of (parts_of u))
  ends-parts (Row items) w t =
      longer-parts cx V c named f b items (at-least (f + b) (length (values_list items)) t) arity-is
      (items-of IsType cx V law values c is (LongerShape f b) of items w)
  ends-parts (Flag t) w e = cc
  ends-parts (Num t) w e = cc
  ends-parts (Text t) w e = cc
  ends-parts (Point m t) w e = cc
  ends-parts (Node k t) w e = cc
  ends-parts Thing w e = cc
  ends-parts Later w e = cc
  ends-parts Unseen w e = cc

  join-items : (xs ys : List MValue) → Are xs → Are ys → Are (xs ++ ys)
  join-items xs ys h k i x a j = elim (get-append xs ys i x a) [ inl e ↦ h i x e j | inr e ↦ k e.0 x e.1 j ]

  -- other ends around the middle of a row
  abbrev refilled : List MValue → List MValue → List MValue
  refilled us xs = take f us ++ (take (length xs - (f + b)) (drop f xs) ++ drop f us)

  refilled-length : (us xs : List MValue) → length us ≡ f + b → f + b ≤ length xs → length (refilled us xs) ≡ length xs
  refilled-length us xs e l =
      let a : length (take f us) ≡ f = take-length f us (omega (arith, e)) in
      let d : length (drop f us) + f ≡ length us = drop-length f us (omega (arith, e)) in
      let g : length (drop f xs) + f ≡ length xs = drop-length f xs (omega (arith, l)) in
      let m : length (take (length xs - (f + b)) (drop f xs)) ≡ length xs - (f + b) = take-length (length xs - (f + b))
      (drop f xs) (omega (arith, g, l)) in
      let p : length (refilled us xs) ≡ length (take f us) + length (take (length xs - (f + b)) (drop f xs) ++ drop f us) = length-append {A = MValue} (take f us) (take (length xs - (f + b)) (drop f xs) ++ drop f us) in
      let q : length (take (length xs - (f + b)) (drop f xs) ++ drop f us) ≡ length (take (length xs - (f + b)) (drop f xs)) + length (drop f us) = length-append {A = MValue} (take (length xs - (f + b)) (drop f xs)) (drop f us) in
      omega (arith, a, d, g, m, p, q, e, l)

  refilled-ends : (us xs : List MValue) → length us ≡ f + b → f + b ≤ length xs → ends-of (refilled us xs) ≡ us
  refilled-ends us xs e l =
      let ms : List MValue = take (length xs - (f + b)) (drop f xs) in
      let a : length (take f us) ≡ f = take-length f us (omega (arith, e)) in
      let n : length (refilled us xs) ≡ length xs = refilled-length us xs e l in
      let g : length (drop f xs) + f ≡ length xs = drop-length f xs (omega (arith, l)) in
      let m : length ms ≡ length xs - (f + b) = take-length (length xs - (f + b)) (drop f xs) (omega (arith, g, l)) in
      let k : length (refilled us xs) - b ≡ f + (length ms + 0) = omega (arith, n, m, l) in
      ap (λ l. l ++ drop (length (refilled us xs) - b) (refilled us xs)) (take-front f (take f us) (ms ++ drop f us) a)
      ∙ (ap (λ i. take f us ++ drop i (refilled us xs)) k
      ∙ (ap (λ l. take f us ++ l) (drop-front f (length ms + 0) (take f us) (ms ++ drop f us) a
      ∙ drop-front (length ms) 0 ms (drop f us) refl)
      ∙ whole f us))

  made-by : (us : List MValue) → length us ≡ f + b → Are us → (items : MValues) → V c.type c.sure (Row items) →
      builds named (RowCtor (LongerShape f b)) (Row items) ≡ true →
      (u : MValue) × V c.type c.sure u × (builds named (RowCtor (LongerShape f b)) u ≡ true)
      × HasParts cx V c named (RowCtor (LongerShape f b)) u us
  made-by us e h items w t =
      let xs : List MValue = values_list items in
      let l : f + b ≤ length xs = at-least (f + b) (length xs) t in
      let n : length (refilled us xs) ≡ length xs = refilled-length us xs e l in
      let old : Are xs = items-of IsType cx V law values c is (LongerShape f b) of items w in
      let new : Are (refilled us xs) = join-items (take f us) (take (length xs - (f + b)) (drop f xs) ++ drop f us)
      (λ i x a. h i x (get-take f us i x a))
      (join-items (take (length xs - (f + b)) (drop f xs)) (drop f us)
      (λ i x a. (let k = get-drop-in f xs i x (get-take (length xs - (f + b)) (drop f xs) i x a) in old k.0 x k.1))
      (λ i x a. (let k = get-drop-in f us i x a in h k.0 x k.1))) in
      let o : is_of_set (cx.set_of c.type) (OneLength (length (refilled us xs))) ≡ true = subst
      (λ k. is_of_set (cx.set_of c.type) (OneLength k) ≡ true) (sym n)
      (of-length IsType cx V law values c is (LongerShape f b) of items w) in
      let u : MValue = Row (values_of (refilled us xs)) in
      let value : V c.type c.sure u = row-of IsType cx V law values c is (LongerShape f b) of (refilled us xs) o new in
      let same : values_list (values_of (refilled us xs)) ≡ refilled us xs = values-same (refilled us xs) in
      let built : builds named (RowCtor (LongerShape f b)) u ≡ true = subst (λ (k : ℕ). nat_le (f + b) k ≡ true)
      (sym (ap length same ∙ n)) t in (
        u,
        value,
        built,
        subst (HasParts cx V c named (RowCtor (LongerShape f b)) u)
            (ap ends-of same ∙ refilled-ends us xs e l) (ends-parts u value built),
      )

  longer-makes : HasValue V (open_of c) named (RowCtor (LongerShape f b)) → (us : List MValue) →
      Each cx V c named (RowCtor (LongerShape f b)) 0 (cx.arity (RowCtor (LongerShape f b)) c.type) us →
      (u : MValue) × V c.type c.sure u × (builds named (RowCtor (LongerShape f b)) u ≡ true)
      × HasParts cx V c named (RowCtor (LongerShape f b)) u us
  longer-makes some us e = go some.0 some.1 some.2
    where
      go : (v : MValue) → V c.type c.sure v → builds named (RowCtor (LongerShape f b)) v ≡ true → (u : MValue)
          × V c.type c.sure u × (builds named (RowCtor (LongerShape f b)) u ≡ true)
          × HasParts cx V c named (RowCtor (LongerShape f b)) u us
      go (Row items) w t =
          made-by us (e.count ∙ arity-is) (λ i x a j. subst (λ (t : T). V t c.sure x)
          (law.items c.type (LongerShape f b) (LongerShape f b) (i + 0) j is of of)
          (parts-get V c.sure (cx.sub (RowCtor (LongerShape f b)) c.type) 0 us i x e.values a)) items w t
      go (Flag t) w b = cc
      go (Num t) w b = cc
      go (Text t) w b = cc
      go (Point m t) w b = cc
      go (Node k t) w b = cc
      go Thing w b = cc
      go Later w b = cc
      go Unseen w b = cc

  -- rows with a rest are opened
  pub longer-opened : HasValue V (open_of c) named (RowCtor (LongerShape f b)) →
      IsOpened cx V c named (RowCtor (LongerShape f b))
  longer-opened some =
      opened-by cx V c named (RowCtor (LongerShape f b)) some (λ u w t. (ends-of (parts_of u), ends-parts u w t))
      (longer-makes some)
