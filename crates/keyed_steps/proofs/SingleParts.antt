-- The parts of a struct or a tuple stand at the columns of its piece, and any parts make one.
use Rattle.std.proofs.Common.{◌≡◌, ℕ, ◌+◌, Bool, true, List, length, slice_get, nat_eq, refl, sym, ap, ◌∙◌, arith, subst, IsTrue}
use Rattle.match_model.specs.Values.{MValue, Flag, Num, Text, Node, Point, Row, Thing, Later, Unseen, values_list, values_of, parts_of}
use Rattle.match_model.specs.Constructors.{SingleCtor, OneSingle, OnePoint, builds, is_of_set}
use Rattle.match_model.specs.Contexts.{Context}
use Rattle.match_model.specs.ContextLaws.{PartsLaw, PartsAre}
use Rattle.match_model.specs.Places.{found_if}
use Rattle.match_model.specs.Matrices.{MColumn, open_of}
use Rattle.match_model.specs.PieceStates.{HasValue}
use Rattle.match_model.proofs.Basics.{nat_equal, nat_itself}
use Rattle.keyed_steps.specs.Filled.{IsOpened}
use Rattle.keyed_steps.proofs.Opening.{HasParts, Each, opened-by}
use Rattle.keyed_steps.proofs.Items.{parts-get, values-same}

module _ {T : Type 0} (IsType : T → Type 0) (cx : Context T) (V : T → Bool → MValue → Type 0)
    (law : PartsLaw IsType V cx) (c : MColumn T) (is : IsType c.type) (named : List (List ℕ))
    (of : IsTrue (is_of_set (cx.set_of c.type) OneSingle)) where
  different : OneSingle ≡ OnePoint → ⊥
  different e = cc

  turned : (a b : ℕ) → nat_eq a b ≡ true → nat_eq b a ≡ true
  turned a b h = let e : a ≡ b = nat_equal a b h in subst (λ x. nat_eq x a ≡ true) e (nat_itself a)

  plus-zero : (i : ℕ) → i + 0 ≡ i
  plus-zero i = omega arith

  pub single-parts : (u : MValue) → V c.type c.sure u → builds named SingleCtor u ≡ true →
      HasParts cx V c named SingleCtor u (parts_of u)
  single-parts (Node j ps) w b =
      let l = (law.parts c.type OneSingle c.sure (Node j ps) is of b (λ e. different e)).0 w in
      record {
        count = l.0;
        steps = λ i x a. ap (λ t. found_if t (slice_get (values_list ps) i)) (turned j 0 b) ∙ a;
        values =
            λ i x a. subst (λ m. V (cx.sub SingleCtor c.type m) c.sure x) (plus-zero i)
            (parts-get V c.sure (cx.sub SingleCtor c.type) 0 (values_list ps) i x l.1 a);
        num = λ i. i;
        numbers = λ i h. refl;
        apart = λ i j h m e. omega (arith, h, e);
      }
  single-parts (Flag t) w b = cc
  single-parts (Num t) w b = cc
  single-parts (Text t) w b = cc
  single-parts (Point m t) w b = cc
  single-parts (Row t) w b = cc
  single-parts Thing w b = cc
  single-parts Later w b = cc
  single-parts Unseen w b = cc

  single-makes : (us : List MValue) → Each cx V c named SingleCtor 0 (cx.arity SingleCtor c.type) us →
      (u : MValue) × V c.type c.sure u × (builds named SingleCtor u ≡ true) × HasParts cx V c named SingleCtor u us
  single-makes us e =
      let u : MValue = Node 0 (values_of us) in
      let b : builds named SingleCtor u ≡ true = refl in
      let count : length (values_list (values_of us)) ≡ cx.arity SingleCtor c.type = ap length (values-same us)
      ∙ e.count in
      let parts : PartsAre V c.sure (cx.sub SingleCtor c.type) 0 (values_list (values_of us)) = subst
      (PartsAre V c.sure (cx.sub SingleCtor c.type) 0) (sym (values-same us)) e.values in
      let w : V c.type c.sure u = (law.parts c.type OneSingle c.sure u is of b (λ h. different h)).1 (count, parts) in
      (u, w, b, subst (HasParts cx V c named SingleCtor u) (values-same us) (single-parts u w b))

  -- a struct or a tuple with a value is opened
  pub single-opened : HasValue V (open_of c) named SingleCtor → IsOpened cx V c named SingleCtor
  single-opened some = opened-by cx V c named SingleCtor some (λ u w b. (parts_of u, single-parts u w b)) single-makes
