-- What was read of the words is their form.
use Rattle.std.proofs.Common.{◌≡◌, ◌∙◌, ℕ, List, [], ◌∷◌, Option, Some, None, refl, sym, ap, subst}
use Rattle.std.specs.Prelude.{String, string_bytes}
use Rattle.std.specs.declared.alloc.Global.{Global}
use Rattle.match_top.specs.DemoWords.{IsDemo}
use Rattle.match_top.specs.Asked.{asked_view}
use Rattle.match_top.specs.Words.{Form, form_of, form_behind}
use Rattle.match_top.specs.declared.words.Asked.{Asked}

some_is : (a b : Form) → Some a ≡ Some b → a ≡ b
some_is a b e = cc

-- the form is the one that was read
pub form_read : (a : Asked) (form : Form) (o : Option Form) → Some (asked_view a) ≡ o → o ≡ Some form → asked_view a ≡ form
form_read a form o read is = some_is (asked_view a) form (read ∙ is)

-- `demo N` has no form of a question on a file
pub demo_is_no_form : (words : List (String Global)) (n : ℕ) → IsDemo words n → form_of words ≡ None
demo_is_no_form [] n is = absurd is
demo_is_no_form (name ∷ []) n is = absurd is
demo_is_no_form (name ∷ number ∷ []) n is = subst (λ (b : List ℕ). form_behind b (string_bytes number) [] ≡ None) (sym is.0) refl
demo_is_no_form (name ∷ number ∷ more ∷ words) n is = absurd is

-- and so it is none
pub demo_or_form : {A : Type 0} (words : List (String Global)) (n : ℕ) (form : Form) → IsDemo words n → form_of words ≡ Some form → A
demo_or_form words n form is formed = absurd (some_none form (sym (demo_is_no_form words n is) ∙ formed))
  where
    some_none : (form : Form) → None ≡ Some form → ⊥
    some_none form e = cc

-- the number that was read is the one that is asked for
pub same_number : (n m : ℕ) → Some n ≡ Some m → n ≡ m
same_number n m e = cc

-- where none was read none is asked for
pub no_number_is : {A : Type 0} (n : ℕ) → None ≡ Some n → A
no_number_is n e = absurd (none_some n e)
  where
    none_some : (n : ℕ) → None ≡ Some n → ⊥
    none_some n e = cc
