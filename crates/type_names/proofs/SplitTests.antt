-- A test of written types that holds where one of several does, item by item.
use Rattle.std.proofs.Common.{◌≡◌, Bool, true, false, ◌||◌, List, [], ◌∷◌, refl, ap, ◌∙◌}
use Rattle.std.specs.List.{list_any}
use Rattle.decl_syntax.specs.Types.{TypeTree, TypeTrees, Never, none, more}
use Rattle.decl_syntax.specs.Types as written
use Rattle.decl_syntax.specs.Items.{FormTree, Unit, KindTree, Enum, Struct, Import, Function}
use Rattle.decl_syntax.specs.Items as forms
use Rattle.type_names.specs.Meanings.{Means, arguments_sized}
use Rattle.type_names.specs.TypeRules.{TypeTest, some_within, some_of_all, some_field, some_type, is_unknown, is_sizeless, is_long, is_miscounted}
use Rattle.type_names.specs.SomeRule.{some_test}

crossed : (a b c d : Bool) → ((a || b) || (c || d)) ≡ ((a || c) || (b || d))
crossed false true true d = refl
crossed _ _ _ d = refl

any_split : {A : Type 0} (p q r : A → Bool) → ((x : A) → r x ≡ (p x || q x)) → (xs : List A) → list_any r xs ≡ (list_any p xs || list_any q xs)
any_split p q r h [] = refl
any_split p q r h (x ∷ xs) =
    ap (λ b. b || list_any r xs) (h x)
    ∙ (ap (λ b. (p x || q x) || b) (any_split p q r h xs) ∙ crossed (p x) (q x) (list_any p xs) (list_any q xs))

module _ (names : Means) (a b : TypeTest) where
  abbrev both : TypeTest
  both = λ sized t. a sized t || b sized t

  mutual
    within_split : (sized : Bool) (t : TypeTree) → some_within names both sized t ≡ (some_within names a sized t || some_within names b sized t)
    within_split sized Never = refl
    within_split sized (written.Tuple ts) =
        ap (λ x. both sized (written.Tuple ts) || x) (all_split true ts)
        ∙ crossed (a sized (written.Tuple ts)) (b sized (written.Tuple ts)) (some_of_all names a true ts) (some_of_all names b true ts)
    within_split sized (written.Point mutable t) =
        ap (λ x. both sized (written.Point mutable t) || x) (within_split false t)
        ∙ crossed (a sized (written.Point mutable t)) (b sized (written.Point mutable t)) (some_within names a false t) (some_within names b false t)
    within_split sized (written.Slice t) =
        ap (λ x. both sized (written.Slice t) || x) (within_split true t)
        ∙ crossed (a sized (written.Slice t)) (b sized (written.Slice t)) (some_within names a true t) (some_within names b true t)
    within_split sized (written.Array t len suffix) =
        ap (λ x. both sized (written.Array t len suffix) || x) (within_split true t)
        ∙ crossed (a sized (written.Array t len suffix)) (b sized (written.Array t len suffix)) (some_within names a true t) (some_within names b true t)
    within_split sized (written.Named name ts) =
        ap (λ x. both sized (written.Named name ts) || x) (all_split (arguments_sized (names name)) ts)
        ∙ crossed (a sized (written.Named name ts)) (b sized (written.Named name ts)) (some_of_all names a (arguments_sized (names name)) ts) (some_of_all names b (arguments_sized (names name)) ts)

    all_split : (sized : Bool) (ts : TypeTrees) → some_of_all names both sized ts ≡ (some_of_all names a sized ts || some_of_all names b sized ts)
    all_split sized none = refl
    all_split sized (more t ts) =
        ap (λ x. x || some_of_all names both sized ts) (within_split sized t)
        ∙ (ap (λ x. (some_within names a sized t || some_within names b sized t) || x) (all_split sized ts)
        ∙ crossed (some_within names a sized t) (some_within names b sized t) (some_of_all names a sized ts) (some_of_all names b sized ts))

  field_split : (f : FormTree) → some_field names both f ≡ (some_field names a f || some_field names b f)
  field_split Unit = refl
  field_split (forms.Tuple fields) = any_split _ _ _ (λ f. within_split true f.type) fields
  field_split (forms.Brace fields) = any_split _ _ _ (λ f. within_split true f.type) fields

  type_split : (k : KindTree) → some_type names both k ≡ (some_type names a k || some_type names b k)
  type_split (Enum name variants) = any_split _ _ _ (λ v. field_split v.form) variants
  type_split (Struct name form) = field_split form
  type_split (Import owner listed) = refl
  type_split (Function name parameter deref arms) = within_split true parameter

-- the test of one of the rules holds in an item where that of the first, the second, the third or the fourth does
pub some_test_split : (names : Means) (k : KindTree) → some_type names (some_test names) k
    ≡ (some_type names (is_unknown names) k || (some_type names (is_sizeless names) k || (some_type names (is_long names) k || some_type names (is_miscounted names) k)))
some_test_split names k =
    let unknown = is_unknown names in
    let sizeless = is_sizeless names in
    let long = is_long names in
    let miscounted = is_miscounted names in
    type_split names unknown (λ s t. sizeless s t || (long s t || miscounted s t)) k
    ∙ ap (λ x. some_type names unknown k || x) (type_split names sizeless (λ s t. long s t || miscounted s t) k
    ∙ ap (λ x. some_type names sizeless k || x) (type_split names long miscounted k))
