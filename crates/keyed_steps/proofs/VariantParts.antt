-- The parts of a variant stand at the columns of its piece.
use Rattle.std.proofs.Common.{◌≡◌, ℕ, ◌+◌, Bool, true, List, slice_get, nat_eq, refl, ap, ◌∙◌, arith, subst, IsTrue}
use Rattle.match_model.specs.Values.{MValue, Flag, Num, Text, Node, Point, Row, Thing, Later, Unseen, values_list, parts_of}
use Rattle.match_model.specs.Constructors.{VariantCtor, OneVariant, OnePoint, builds, is_of_set}
use Rattle.match_model.specs.Contexts.{Context}
use Rattle.match_model.specs.ContextLaws.{PartsLaw}
use Rattle.match_model.specs.Places.{found_if}
use Rattle.match_model.specs.Matrices.{MColumn}
use Rattle.match_model.proofs.Basics.{nat_equal, nat_itself}
use Rattle.keyed_steps.proofs.Opening.{HasParts}
use Rattle.keyed_steps.proofs.Items.{parts-get}

module _ {T : Type 0} (IsType : T → Type 0) (cx : Context T) (V : T → Bool → MValue → Type 0)
    (law : PartsLaw IsType V cx) (c : MColumn T) (is : IsType c.type) (named : List (List ℕ)) (k : ℕ)
    (of : IsTrue (is_of_set (cx.set_of c.type) (OneVariant k))) where
  different : OneVariant k ≡ OnePoint → ⊥
  different e = cc

  turned : (a b : ℕ) → nat_eq a b ≡ true → nat_eq b a ≡ true
  turned a b h = let e : a ≡ b = nat_equal a b h in subst (λ x. nat_eq x a ≡ true) e (nat_itself a)

  plus-zero : (i : ℕ) → i + 0 ≡ i
  plus-zero i = omega arith

  pub variant-parts : (u : MValue) → V c.type c.sure u → builds named (VariantCtor k) u ≡ true →
      HasParts cx V c named (VariantCtor k) u (parts_of u)
  variant-parts (Node j ps) w b =
      let l = (law.parts c.type (OneVariant k) c.sure (Node j ps) is of b (λ e. different e)).0 w in
      record {
        count = l.0;
        steps = λ i x a. ap (λ t. found_if t (slice_get (values_list ps) i)) (turned j k b) ∙ a;
        values =
            λ i x a. subst (λ m. V (cx.sub (VariantCtor k) c.type m) c.sure x) (plus-zero i)
            (parts-get V c.sure (cx.sub (VariantCtor k) c.type) 0 (values_list ps) i x l.1 a);
        num = λ i. i;
        numbers = λ i h. refl;
        apart = λ i j h m e. omega (arith, h, e);
      }
  variant-parts (Flag t) w b = cc
  variant-parts (Num t) w b = cc
  variant-parts (Text t) w b = cc
  variant-parts (Point m t) w b = cc
  variant-parts (Row t) w b = cc
  variant-parts Thing w b = cc
  variant-parts Later w b = cc
  variant-parts Unseen w b = cc
