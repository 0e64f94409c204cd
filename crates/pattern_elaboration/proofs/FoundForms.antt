-- What a path finds has a form.
use Rattle.std.proofs.Common.{◌≡◌, Bool, true, false, List, refl, ◌∙◌}
use Rattle.std.specs.Prelude.{is_some}
use Rattle.decl_syntax.specs.Patterns.{PathTree}
use Rattle.decl_syntax.specs.Items.{ItemTree}
use Rattle.type_names.specs.Finding.{FoundTree, FoundNothing, FoundTwice, FoundStruct, FoundVariant, path_finds, found_form, is_found}
use Rattle.type_names.proofs.FormLemmas.{target_has}
use Rattle.pattern_rules.specs.Namings.{found_if}

-- what a path finds is there
pub path_there : (items : List ItemTree) (path : PathTree) (short : Bool) →
    is_found (found_if short (path_finds items path)) ≡ true →
    is_some (found_form items (found_if short (path_finds items path))) ≡ true
path_there items path true e = target_has items path (path_finds items path)
    (found_form items (path_finds items path)) refl refl ∙ e
path_there items path false e = absurd cc

-- what has a form was found
pub form_found : (items : List ItemTree) (told : FoundTree) → is_some (found_form items told) ≡ true →
    is_found told ≡ true
form_found items FoundNothing h = absurd cc
form_found items FoundTwice h = absurd cc
form_found items (FoundStruct i) h = refl
form_found items (FoundVariant o k) h = refl
