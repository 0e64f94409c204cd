-- Rows of one length: their items are the parts of the piece, and any items make one.
use Rattle.std.proofs.Common.{◌≡◌, ℕ, ◌+◌, Bool, true, List, length, Some, nat_eq, refl, sym, ap, ◌∙◌, arith, subst}
use Rattle.match_model.specs.Values.{MValue, Flag, Num, Text, Node, Point, Row, Thing, Later, Unseen, values_list, values_of, parts_of}
use Rattle.match_model.specs.Constructors.{FixedShape, RowCtor, MSet, RowSet, SingleSet, PointSet, FlagSet, TextSet, OpaqueSet, NothingSet, VariantSet, NumberSet, OneLength, builds, is_of_set, belongs}
use Rattle.match_model.specs.Contexts.{Context}
use Rattle.match_model.specs.ContextLaws.{PartsLaw, ValuesLaw}
use Rattle.match_model.specs.Matrices.{MColumn, open_of}
use Rattle.match_model.specs.PieceStates.{HasValue}
use Rattle.match_model.proofs.Basics.{nat_equal, nat_itself, untrue}
use Rattle.keyed_steps.specs.Filled.{IsOpened}
use Rattle.keyed_steps.proofs.Opening.{HasParts, Each, opened-by}
use Rattle.keyed_steps.proofs.Items.{values-same, parts-get}
use Rattle.keyed_steps.proofs.RowItems.{turned, items-of, row-of}
use Rattle.std.proofs.Common.{None}

-- the set of a row of one length has that length
fixed-length : (set : MSet) (n : ℕ) → belongs set (RowCtor (FixedShape n)) ≡ true → is_of_set set (OneLength n) ≡ true
fixed-length (RowSet None) n h = refl
fixed-length (RowSet (Some m)) n h = turned n m h
fixed-length SingleSet n h = untrue h
fixed-length PointSet n h = untrue h
fixed-length FlagSet n h = untrue h
fixed-length TextSet n h = untrue h
fixed-length OpaqueSet n h = untrue h
fixed-length NothingSet n h = untrue h
fixed-length (VariantSet count later) n h = untrue h
fixed-length (NumberSet first second) n h = untrue h

module _ {T : Type 0} (IsType : T → Type 0) (cx : Context T) (V : T → Bool → MValue → Type 0)
    (law : PartsLaw IsType V cx) (values : ValuesLaw IsType V cx) (c : MColumn T) (is : IsType c.type)
    (named : List (List ℕ)) (n : ℕ) (of : belongs (cx.set_of c.type) (RowCtor (FixedShape n)) ≡ true) where
  pub fixed-parts : (u : MValue) → V c.type c.sure u → builds named (RowCtor (FixedShape n)) u ≡ true →
      HasParts cx V c named (RowCtor (FixedShape n)) u (parts_of u)
  fixed-parts (Row items) w b =
      let count : n ≡ length (values_list items) = nat_equal n (length (values_list items)) b in
      record {
        count = sym count ∙ sym (law.arity c.type (RowCtor (FixedShape n)) is of);
        steps = λ i x a. a;
        values = λ i x a. items-of IsType cx V law values c is (FixedShape n) of items w i x a i;
        num = λ i. i;
        numbers = λ i h. refl;
        apart = λ i j h m e. omega (arith, h, e);
      }
  fixed-parts (Flag t) w b = cc
  fixed-parts (Num t) w b = cc
  fixed-parts (Text t) w b = cc
  fixed-parts (Point m t) w b = cc
  fixed-parts (Node k t) w b = cc
  fixed-parts Thing w b = cc
  fixed-parts Later w b = cc
  fixed-parts Unseen w b = cc

  fixed-makes : (us : List MValue) → Each cx V c named (RowCtor (FixedShape n)) 0 (cx.arity
      (RowCtor (FixedShape n)) c.type) us →
      (u : MValue) × V c.type c.sure u × (builds named (RowCtor (FixedShape n)) u ≡ true)
      × HasParts cx V c named (RowCtor (FixedShape n)) u us
  fixed-makes us e =
      let u : MValue = Row (values_of us) in
      let count : length us ≡ n = e.count ∙ law.arity c.type (RowCtor (FixedShape n)) is of in
      let b : builds named (RowCtor (FixedShape n)) u ≡ true = subst (λ k. nat_eq n k ≡ true)
      (sym (ap length (values-same us) ∙ count)) (nat_itself n) in
      let o : is_of_set (cx.set_of c.type) (OneLength (length us)) ≡ true = subst
      (λ k. is_of_set (cx.set_of c.type) (OneLength k) ≡ true) (sym count) (fixed-length (cx.set_of c.type) n of) in
      let w : V c.type c.sure u = row-of IsType cx V law values c is (FixedShape n) of us o
      (λ i x a j. subst (λ (t : T). V t c.sure x) (law.items c.type (FixedShape n) (FixedShape n) (i + 0) j is of of)
      (parts-get V c.sure (cx.sub (RowCtor (FixedShape n)) c.type) 0 us i x e.values a)) in
      (u, w, b, subst (HasParts cx V c named (RowCtor (FixedShape n)) u) (values-same us) (fixed-parts u w b))

  -- rows of one length are opened
  pub fixed-opened : HasValue V (open_of c) named (RowCtor (FixedShape n)) →
      IsOpened cx V c named (RowCtor (FixedShape n))
  fixed-opened some =
      opened-by cx V c named (RowCtor (FixedShape n)) some (λ u w b. (parts_of u, fixed-parts u w b)) fixed-makes
