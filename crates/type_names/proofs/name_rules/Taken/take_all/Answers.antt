use Rattle.std.proofs.Common.{◌≡◌, ℕ, List, ◌++◌, map, sym, ap, ◌∙◌, rules}
use Rattle.std.specs.Rc.{rc_str_bytes}
use Rattle.decl_syntax.specs.Items.{item_view, kind_view}
use Rattle.type_names.specs.NameRules.{some_among, taken_names, function_names, value_names}
use Rattle.type_names.specs.Views.{among}
use Rattle.type_names.proofs.TakenLemmas.{not_taken, free}
use Rattle.type_names.proofs.name_rules.Taken.take_all.Goals as goal

pub returns : goal.returns
returns c = λ types functions values are.
    let all = map item_view c.args.items.now in
    let k = kind_view c.args.kind.now in
    let fresh = c.in_ok-take_names.ensures types are.types_are in
    let ts : map rc_str_bytes c.deref.result.now ≡ taken_names k = search rules in
    let fs : map rc_str_bytes c.deref-2.result.now ≡ function_names k = search rules in
    let fs3 : map rc_str_bytes c.deref-3.result.now ≡ function_names k = search rules in
    let vs4 : map rc_str_bytes c.deref-4.result.now ≡ value_names all k = search rules in
    let fs2 : map rc_str_bytes c.deref-else-some_taken.result.now ≡ function_names k = search rules in
    let vs2 : map rc_str_bytes c.deref-else-some_taken-2.result.now ≡ value_names all k = search rules in
    let a = free _ _ fresh.0 c.if-not-branch.false in
    let b = sym (c.some_taken.ensures functions are.functions_are) ∙ c.if-some_taken.false in
    let d = sym (c.some_taken-else-some_taken.ensures values are.values_are) ∙ c.if-some_taken-2.false in
    let e = sym (c.some_taken-else-some_taken-2.ensures functions are.functions_are) ∙ c.if-some_taken-3.false in (
      not_taken all types functions values k (map rc_str_bytes c.deref.result.now) (map rc_str_bytes c.deref-2.result.now) (map rc_str_bytes c.deref-else-some_taken-2.result.now)
          ts fs vs2 a b (ap (λ (zs : List (List ℕ)). some_among zs values) (fs ∙ sym fs2) ∙ d) e,
      λ _. record {
        types_are = fresh.1 c.if-not-branch.false ∙ ap (λ (zs : List (List ℕ)). among (types ++ zs)) ts;
        functions_are = c.in_ok-add_names.ensures functions are.functions_are ∙ ap (λ (zs : List (List ℕ)). among (functions ++ zs)) fs3;
        values_are = c.in_ok-add_names-2.ensures values are.values_are ∙ ap (λ (zs : List (List ℕ)). among (values ++ zs)) vs4;
      },
    )
