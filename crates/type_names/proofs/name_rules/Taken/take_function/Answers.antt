use Rattle.std.proofs.Common.{◌≡◌, ℕ, Bool, true, false, ◌||◌, List, sym, ap, ◌∙◌, rules}
use Rattle.std.specs.Rc.{rc_str_bytes}
use Rattle.std.proofs.Math.Bool.{or-true, or-false}
use Rattle.type_names.specs.NameMaps.{contains_name}
use Rattle.type_names.specs.NameRules.{is_among}
use Rattle.type_names.proofs.TakenLemmas.{free_is, taken_behind}
use Rattle.type_names.proofs.name_rules.Taken.take_function.Goals as goal

pub returns-then-contains : goal.returns-then-contains
returns-then-contains c = λ types functions values are.
    let name : List ℕ = rc_str_bytes c.args.name.now in
    let there : contains_name c.args.self.now.values name ≡ true = search rules in
    let known : is_among name values ≡ true = ap (λ (f : List ℕ → Bool). f name) (sym are.values_are) ∙ there in
    (sym (ap (λ b. is_among name functions || b) known ∙ or-true (is_among name functions)), λ e. absurd cc)

pub returns : goal.returns
returns c = λ types functions values are.
    let name : List ℕ = rc_str_bytes c.args.name.now in
    let there : contains_name c.args.self.now.values name ≡ false = search rules in
    let unknown : is_among name values ≡ false = ap (λ (f : List ℕ → Bool). f name) (sym are.values_are) ∙ there in (
      free_is functions _ name _ are.functions_are c.in_ok-is_new.ensures.free ∙ sym (ap (λ b. is_among name functions || b) unknown ∙ or-false (is_among name functions)),
      λ _. record {
        types_are = are.types_are;
        functions_are = taken_behind functions _ _ name are.functions_are c.in_ok-is_new.ensures.taken;
        values_are = are.values_are;
      },
    )
