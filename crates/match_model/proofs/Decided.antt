-- Whether a type has a value is decided: at a sure place for every sound program, at an unsure one for every program whose fields are
-- types.
use Rattle.std.proofs.Common.{◌≡◌, ◌⊎◌, inl, inr, Bool, true, false, refl, sym, ◌∙◌}
use Rattle.match_model.specs.Types.{MOwner, MType, NamedType, MTypes}
use Rattle.match_model.specs.Declarations.{MProgram}
use Rattle.match_model.specs.Values.{MValue}
use Rattle.match_model.specs.Typing.{is_value}
use Rattle.match_model.specs.RustTypes.{is_type, FieldsAreTypes, IsSoundProgram}
use Rattle.match_model.specs.Emptiness.{has_value, AreMarks}
use Rattle.match_model.proofs.Basics.{untrue}
use Rattle.match_model.proofs.Empty.{value_has}
use Rattle.match_model.proofs.Inhabited.{Found}
use Rattle.match_model.proofs.Rounds.{marks_exist}
use Rattle.match_model.proofs.Valued.{unsure, sure}

-- marks that tell emptiness, for a sound program
pub sure_marks : (program : MProgram) → IsSoundProgram program → (marked : MType → Bool) × AreMarks program true marked
sure_marks program sound = marks_exist true program (λ i k ts e. sound.fields i k ts e) (λ e t d. unsure program sound t d)

not_so : (a b : Bool) → b ≡ false → (a ≡ true → b ≡ true) → a ≡ false
not_so true b e f = sym (f refl) ∙ e
not_so false b e f = refl

-- a type has a value at a sure place, or has none
pub valued_or_none : (program : MProgram) → IsSoundProgram program → (t : MType) → is_type program t ≡ true →
    Found program true t ⊎ ((v : MValue) → is_value program true t v ≡ false)
valued_or_none program sound t d = by (has_value true marks.0 t) refl
  where
    marks : (marked : MType → Bool) × AreMarks program true marked
    marks = sure_marks program sound

    by : (b : Bool) → has_value true marks.0 t ≡ b → Found program true t ⊎ ((v : MValue) → is_value program true t v ≡ false)
    by true e = inl (sure program sound marks.0 marks.1.held t d e)
    by false e = inr (λ v. not_so (is_value program true t v) (has_value true marks.0 t) e (λ h. value_has program true marks.0 marks.1.stable v t h))

-- a named type has a finite value where a place is not sure to hold a valid one, or has none
pub finite_or_none : (program : MProgram) → FieldsAreTypes program → (owner : MOwner) (args : MTypes) → is_type program (NamedType owner args) ≡ true →
    Found program false (NamedType owner args) ⊎ ((v : MValue) → is_value program false (NamedType owner args) v ≡ false)
finite_or_none program fields owner args d = by (marked (NamedType owner args)) refl
  where
    marks : (marked : MType → Bool) × AreMarks program false marked
    marks = marks_exist false program fields (λ e t d. absurd (untrue e))

    marked : MType → Bool
    marked = marks.0

    by : (b : Bool) → marked (NamedType owner args) ≡ b → Found program false (NamedType owner args) ⊎ ((v : MValue) → is_value program false (NamedType owner args) v ≡ false)
    by true e = inl (marks.1.held (NamedType owner args) d e)
    by false e = inr (λ v. not_so (is_value program false (NamedType owner args) v) (marked (NamedType owner args)) e
        (λ h. value_has program false marked marks.1.stable v (NamedType owner args) h))
