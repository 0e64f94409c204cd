use Rattle.std.proofs.Common.{◌≡◌, ℕ, List, [], ◌∷◌, ◌++◌, map, sym, ap, ◌∙◌, rules}
use Rattle.std.specs.Rc.{rc_str_bytes}
use Rattle.std.proofs.lemmas.List.{append-nil}
use Rattle.std.proofs.lemmas.Result.{IfOk-weaker}
use Rattle.decl_syntax.specs.Items.{item_view, kind_view}
use Rattle.type_names.specs.NameRules.{taken_names, function_names, value_names}
use Rattle.type_names.specs.Views.{among}
use Rattle.type_names.proofs.TakenLemmas.{is_taken_by_type, is_taken_by_function}
use Rattle.type_names.proofs.name_rules.Taken.take.Goals as goal

-- with no names behind it a list is the same
with_none : (names more : List (List ℕ)) → [] ≡ more → names ≡ names ++ more
with_none names more e = sym (append-nil names) ∙ ap (λ (zs : List (List ℕ)). names ++ zs) e

pub returns-in-Enum : goal.returns-in-Enum
returns-in-Enum c = λ types functions values are.
    let all = map item_view c.args.items.now in
    let k = kind_view c.args.kind.now in
    let name : List ℕ = rc_str_bytes c.in-Enum.e.name in
    let ts : name ∷ [] ≡ taken_names k = search rules in
    let fs : [] ≡ function_names k = search rules in
    let vs : [] ≡ value_names all k = search rules in
    IfOk-weaker c.take_type.result _ _ (λ b taken. (
      taken.0 ∙ is_taken_by_type all types functions values k name ts fs vs,
      λ free. record {
        types_are = (taken.1 free).types_are ∙ ap (λ (zs : List (List ℕ)). among (types ++ zs)) ts;
        functions_are = (taken.1 free).functions_are ∙ ap among (with_none functions (function_names k) fs);
        values_are = (taken.1 free).values_are ∙ ap among (with_none values (value_names all k) vs);
      },
    )) (c.take_type.ensures types functions values are)

pub returns-in-Function : goal.returns-in-Function
returns-in-Function c = λ types functions values are.
    let all = map item_view c.args.items.now in
    let k = kind_view c.args.kind.now in
    let name : List ℕ = rc_str_bytes c.in-Function.f.name in
    let ts : [] ≡ taken_names k = search rules in
    let fs : name ∷ [] ≡ function_names k = search rules in
    let vs : [] ≡ value_names all k = search rules in
    IfOk-weaker c.take_function.result _ _ (λ b taken. (
      taken.0 ∙ is_taken_by_function all types functions values k name ts fs vs,
      λ free. record {
        types_are = (taken.1 free).types_are ∙ ap among (with_none types (taken_names k) ts);
        functions_are = (taken.1 free).functions_are ∙ ap (λ (zs : List (List ℕ)). among (functions ++ zs)) fs;
        values_are = (taken.1 free).values_are ∙ ap among (with_none values (value_names all k) vs);
      },
    )) (c.take_function.ensures types functions values are)
