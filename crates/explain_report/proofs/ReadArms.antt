-- A report of `arms` that is there, and one that is not.
use Rattle.std.proofs.Common.{◌≡◌, ◌∙◌, sym, refl, ℕ, List, [], ◌∷◌, length, map, Bool, true, false, nat_eq, Option, Some, arith, Result, option_and_then, String}
use Rattle.std.proofs.lemmas.Bool.{eq-eqb, eqb-true, false≢true}
use Rattle.std.specs.Global.{Vec, Global}
use Rattle.explain_report.specs.Arms.{arms_of, arms_view, read_arms}
use Rattle.explain_report.specs.Reading.{Reads}
use Rattle.explain_report.specs.Skimming.{read_skimmed}
use Rattle.explain_report.specs.declared.records.ReadFault.{ReadFault}

-- an empty text tells of no function
pub empty_read : (text : List ℕ) (b : Bool) → b ≡ nat_eq (length text) 0 → b ≡ true → read_arms text ≡ Some []
unfolding read_arms
empty_read [] b e t = refl
empty_read (x ∷ xs) b e t =
    let none = eqb-true (length (x ∷ xs)) 0 (sym e ∙ t) in
    absurd (omega (arith, none))

-- another text is read
pub text_read : (text : List ℕ) (b : Bool) (r : Result (Vec (Vec (String Global))) ReadFault) → b ≡ nat_eq (length text) 0 → b ≡ false →
    Reads (λ (v : Vec (Vec (String Global))). map arms_view v.items) (option_and_then arms_of (read_skimmed text)) r →
    Reads (λ (v : Vec (Vec (String Global))). map arms_view v.items) (read_arms text) r
unfolding read_arms
text_read [] b r e f h = absurd (false≢true (sym f ∙ e ∙ eq-eqb 0 0 refl))
text_read (x ∷ xs) b r e f h = h
