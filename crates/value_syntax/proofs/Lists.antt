-- Lists of values and fields, and what the code asks of a list in their place.
use Rattle.std.proofs.Common.{◌≡◌, ap, refl, Bool, false, List, [], ◌∷◌, ◌++◌, length, arith, codes}
use Rattle.std.specs.Prelude.{◌==◌}
use Rattle.witness_text.specs.Texts.{tuple_end, braced}
use Rattle.witness_text.specs.Writing.{listed}
use Rattle.witness_text.proofs.Lists.{joined_listed}
use Rattle.value_syntax.specs.declared.value.WrittenValue.{WrittenValue}
use Rattle.value_syntax.specs.declared.value.WrittenField.{WrittenField}
use Rattle.value_syntax.specs.Trees.{values_view, fields_view}
use Rattle.value_syntax.specs.Texts.{value_texts, field_texts}

-- how a tuple of these parts is closed
pub one_closed : (vs : List WrittenValue) → length vs ≡ 1 → tuple_end (value_texts (values_view vs)) ≡ codes ",)"
one_closed [] e = absurd (omega arith)
one_closed (v ∷ []) e = refl
one_closed (v ∷ u ∷ vs) e = absurd (omega arith)

pub others_closed : (vs : List WrittenValue) → (length vs ≡ 1 → ⊥)
    → tuple_end (value_texts (values_view vs)) ≡ codes ")"
others_closed [] e = refl
others_closed (v ∷ []) e = absurd (e refl)
others_closed (v ∷ u ∷ vs) e = refl

-- fields in their braces
pub some_braced : (fs : List WrittenField) (bare : Bool) → bare ≡ (length fs == 0) → bare ≡ false →
    braced (field_texts (fields_view fs)) ≡ codes " { " ++ (listed false (field_texts (fields_view fs)) ++ codes " }")
some_braced [] bare e f = absurd cc
some_braced (f ∷ fs) bare e g = ap (λ z. codes " { " ++ (z ++ codes " }"))
    (joined_listed (field_texts (fields_view (f ∷ fs))))
