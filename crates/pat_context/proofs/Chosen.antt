-- Values for all parts, from a value for each; a text that is none of a list.
use Rattle.std.proofs.Common.{◌≡◌, ◌<◌, ◌≤◌, ◌+◌, ℕ, zero, suc, Bool, List, [], ◌∷◌, length, refl, ap, arith}
use Rattle.match_model.specs.Values.{MValue}
use Rattle.match_model.specs.Constructors.{elementary_ctor, sure_inside}
use Rattle.match_model.specs.Contexts.{Context}
use Rattle.match_model.specs.ContextLaws.{PartsAre, parts_count}
use Rattle.pat_context.specs.Laws.{PartsCanBeChosen}

module _ {T : Type 0} (IsValue : T → Bool → MValue → Type 0) (sure : Bool) (sub : ℕ → T) where
  Chosen : ℕ → ℕ → Type 0
  Chosen n i = (vs : List MValue) × (length vs ≡ n) × PartsAre IsValue sure sub i vs

  chosen : (n i : ℕ) → ((j : ℕ) → i ≤ j → j < i + n → (v : MValue) × IsValue (sub j) sure v) → Chosen n i
  unfolding Chosen
  chosen zero i each = ([], refl, tt)
  chosen (suc n) i each =
      let f = each i (omega arith) (omega arith) in
      let r = chosen n (suc i) (λ j a b. each j (omega (arith, a)) (omega (arith, b))) in
      (f.0 ∷ r.0, ap suc r.1, (f.1, r.2))

pub chosen_parts : {T : Type 0} (IsType : T → Type 0) (IsValue : T → Bool → MValue → Type 0) (cx : Context T) → PartsCanBeChosen IsType IsValue cx
unfolding Chosen
chosen_parts IsType IsValue cx t e sure d s each =
    let r = chosen IsValue (sure_inside (elementary_ctor e) sure) (cx.sub (elementary_ctor e) t) (parts_count cx t e) 0 (λ j a b. each j (omega (arith, b))) in
    (r.0, record { count = r.1; each = r.2 })
