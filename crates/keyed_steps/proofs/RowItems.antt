-- The items of a row are values of the one item type, and items of a length that the type has make a row.
use Rattle.std.proofs.Common.{◌≡◌, ◌≤◌, ℕ, ◌+◌, Bool, true, List, length, Some, None, slice_get, nat_eq, nat_le, refl, sym, ap, arith, subst}
use Rattle.std.proofs.lemmas.Bool.Decides.{nat_tests}
use Rattle.match_model.specs.Values.{MValue, Row, MValues, values_list, values_of}
use Rattle.match_model.specs.Constructors.{MShape, FixedShape, RowCtor, MSet, RowSet, SingleSet, PointSet, FlagSet, TextSet, OpaqueSet, NothingSet, VariantSet, NumberSet, Elementary, OnePoint, OneLength, builds_one, is_of_set, belongs}
use Rattle.match_model.specs.Contexts.{Context}
use Rattle.match_model.specs.ContextLaws.{PartsLaw, PartsAre, ValuesLaw, ValueIs}
use Rattle.match_model.specs.Matrices.{MColumn}
use Rattle.match_model.proofs.Basics.{nat_equal, nat_itself, untrue}
use Rattle.keyed_steps.proofs.Items.{values-same, parts-get, parts-each}

pub turned : (a b : ℕ) → nat_eq a b ≡ true → nat_eq b a ≡ true
turned a b h = let e : a ≡ b = nat_equal a b h in subst (λ x. nat_eq x a ≡ true) e (nat_itself a)

pub at-least : (a b : ℕ) → nat_le a b ≡ true → a ≤ b
at-least a b h = grind (arith, nat_tests)

-- a set with a row has the elementary rows of the lengths of its values
row-length : (set : MSet) (s : MShape) (sure : Bool) (items : MValues) → belongs set (RowCtor s) ≡ true →
    ValueIs set sure (Row items) → is_of_set set (OneLength (length (values_list items))) ≡ true
row-length (RowSet len) s sure items h w = go w.by w.of_set w.build
  where
    go : (e : Elementary) → is_of_set (RowSet len) e ≡ true → builds_one e (Row items) ≡ true →
        is_of_set (RowSet len) (OneLength (length (values_list items))) ≡ true
    go (OneLength n) a b =
        subst (λ k. is_of_set (RowSet len) (OneLength k) ≡ true) (nat_equal n (length (values_list items)) b) a
    go _ a b = untrue a
row-length SingleSet s sure items h w = untrue h
row-length PointSet s sure items h w = untrue h
row-length FlagSet s sure items h w = untrue h
row-length TextSet s sure items h w = untrue h
row-length OpaqueSet s sure items h w = untrue h
row-length NothingSet s sure items h w = untrue h
row-length (VariantSet count later) s sure items h w = untrue h
row-length (NumberSet first second) s sure items h w = untrue h

-- a row of that length belongs to the set
length-belongs : (set : MSet) (n : ℕ) → is_of_set set (OneLength n) ≡ true → belongs set (RowCtor (FixedShape n)) ≡ true
length-belongs (RowSet None) n h = refl
length-belongs (RowSet (Some m)) n h = turned m n h
length-belongs SingleSet n h = untrue h
length-belongs PointSet n h = untrue h
length-belongs FlagSet n h = untrue h
length-belongs TextSet n h = untrue h
length-belongs OpaqueSet n h = untrue h
length-belongs NothingSet n h = untrue h
length-belongs (VariantSet count later) n h = untrue h
length-belongs (NumberSet first second) n h = untrue h

module _ {T : Type 0} (IsType : T → Type 0) (cx : Context T) (V : T → Bool → MValue → Type 0)
    (law : PartsLaw IsType V cx) (values : ValuesLaw IsType V cx) (c : MColumn T) (is : IsType c.type) (s : MShape)
    (of : belongs (cx.set_of c.type) (RowCtor s) ≡ true) where
  -- each is an item
  abbrev pub AreItems : List MValue → Type 0
  AreItems xs = (i : ℕ) (x : MValue) → slice_get xs i ≡ Some x → (j : ℕ) → V (cx.sub (RowCtor s) c.type j) c.sure x

  different : (n : ℕ) → OneLength n ≡ OnePoint → ⊥
  different n e = cc

  pub of-length : (items : MValues) → V c.type c.sure (Row items) →
      is_of_set (cx.set_of c.type) (OneLength (length (values_list items))) ≡ true
  of-length items w = row-length (cx.set_of c.type) s c.sure items of (values.each c.type c.sure (Row items) is w)

  pub items-of : (items : MValues) → V c.type c.sure (Row items) → AreItems (values_list items)
  items-of items w i x a j =
      let n : ℕ = length (values_list items) in
      let o : is_of_set (cx.set_of c.type) (OneLength n) ≡ true = of-length items w in
      let l = (law.parts c.type (OneLength n) c.sure (Row items) is o (nat_itself n) (λ e. different n e)).0 w in
      subst (λ (t : T). V t c.sure x) (law.items c.type (FixedShape n) s (i + 0) j is
      (length-belongs (cx.set_of c.type) n o) of)
      (parts-get V c.sure (cx.sub (RowCtor (FixedShape n)) c.type) 0 (values_list items) i x l.1 a)

  pub row-of : (xs : List MValue) → is_of_set (cx.set_of c.type) (OneLength (length xs)) ≡ true → AreItems xs →
      V c.type c.sure (Row (values_of xs))
  row-of xs o h =
      let n : ℕ = length xs in
      let same : values_list (values_of xs) ≡ xs = values-same xs in
      (law.parts c.type (OneLength n) c.sure (Row (values_of xs)) is o
      (subst (λ l. nat_eq n (length l) ≡ true) (sym same) (nat_itself n)) (λ e. different n e)).1 (
        ap length same,
        subst (PartsAre V c.sure (cx.sub (RowCtor (FixedShape n)) c.type) 0) (sym same)
            (parts-each V c.sure (cx.sub (RowCtor (FixedShape n)) c.type) 0 xs
            (λ i x a. subst (λ (t : T). V t c.sure x) (law.items c.type s (FixedShape n) 0 (i + 0) is of
            (length-belongs (cx.set_of c.type) n o)) (h i x a 0))),
      )
