-- Rules 13, 14, 16 and 17 on written types.
use Rattle.std.specs.Prelude.{ℕ, suc, Bool, true, false, not, ◌&&◌, ◌||◌, nat_eq, Option, Some, None}
use Rattle.std.specs.List.{list_any}
use Rattle.match_model.specs.Typing.{is_str}
use Rattle.decl_syntax.specs.Types.{TypeTree, TypeTrees, Never, none, more}
use Rattle.decl_syntax.specs.Types as written
use Rattle.decl_syntax.specs.Items.{FormTree, Unit, KindTree, Enum, Struct, Import, Function}
use Rattle.decl_syntax.specs.Items as forms
use Rattle.type_names.specs.Meanings.{Meaning, BaseName, Means, argument_count, arguments_sized}
use Rattle.type_names.specs.declared.type_rules.TypeRule.{TypeRule}
use Rattle.type_names.specs.declared.type_rules.TypeRule.TheVariants as rules
use Rattle.type_names.specs.Written.{is_length}

-- a test of a written type at a place that needs a size or does not
abbrev pub TypeTest : Type 0
TypeTest = (sized : Bool) → TypeTree → Bool

abbrev mutual
  -- the test holds of the written type or of one that stands in it; behind a reference no size is needed
  pub some_within : Means → TypeTest → (sized : Bool) → TypeTree → Bool
  some_within names test sized Never = test sized Never
  some_within names test sized (written.Tuple ts) = test sized (written.Tuple ts) || some_of_all names test true ts
  some_within names test sized (written.Point mutable t) = test sized (written.Point mutable t) || some_within names test false t
  some_within names test sized (written.Slice t) = test sized (written.Slice t) || some_within names test true t
  some_within names test sized (written.Array t len suffix) = test sized (written.Array t len suffix) || some_within names test true t
  some_within names test sized (written.Named name ts) =
      test sized (written.Named name ts) || some_of_all names test (arguments_sized (names name)) ts

  -- the test holds within one of the written types
  pub some_of_all : Means → TypeTest → (sized : Bool) → TypeTrees → Bool
  some_of_all names test sized none = false
  some_of_all names test sized (more t ts) = some_within names test sized t || some_of_all names test sized ts

-- how many written types there are
abbrev pub count_of : TypeTrees → ℕ
count_of none = 0
count_of (more t ts) = suc (count_of ts)

-- the name has no meaning
abbrev pub means_nothing : Option Meaning → Bool
means_nothing None = true
means_nothing (Some m) = false

-- rule 13: a name that means nothing
abbrev pub is_unknown : Means → TypeTest
is_unknown names sized (written.Named name ts) = means_nothing (names name)
is_unknown names sized _ = false

-- the name means `str`
abbrev pub means_str : Option Meaning → Bool
means_str (Some (BaseName t)) = is_str t
means_str _ = false

-- rule 14: `str` or `[T]` where a size is needed
abbrev pub is_sizeless : Means → TypeTest
is_sizeless names sized (written.Named name ts) = sized && means_str (names name)
is_sizeless names sized (written.Slice t) = sized
is_sizeless names sized _ = false

-- rule 16: an array whose length is none
abbrev pub is_long : Means → TypeTest
is_long names sized (written.Array t len suffix) = not (is_length len suffix)
is_long names sized _ = false

-- the name means something that has another number of arguments
abbrev pub counts_differ : ℕ → Option Meaning → Bool
counts_differ n None = false
counts_differ n (Some m) = not (nat_eq n (argument_count m))

-- rule 17: another number of type arguments than the type of that name has
abbrev pub is_miscounted : Means → TypeTest
is_miscounted names sized (written.Named name ts) = counts_differ (count_of ts) (names name)
is_miscounted names sized _ = false

-- the rule's test
abbrev pub type_test : TypeRule → Means → TypeTest
type_test rules.UnknownType names = is_unknown names
type_test rules.SizelessPlace names = is_sizeless names
type_test rules.ArrayLength names = is_long names
type_test rules.ArgumentCount names = is_miscounted names

-- the test holds within the type of a field
abbrev pub some_field : Means → TypeTest → FormTree → Bool
some_field names test Unit = false
some_field names test (forms.Tuple fields) = list_any (λ f. some_within names test true f.type) fields
some_field names test (forms.Brace fields) = list_any (λ f. some_within names test true f.type) fields

-- the test holds within a type that is written in the item: of a field, or of a parameter
abbrev pub some_type : Means → TypeTest → KindTree → Bool
some_type names test (Enum name variants) = list_any (λ v. some_field names test v.form) variants
some_type names test (Struct name form) = some_field names test form
some_type names test (Import owner listed) = false
some_type names test (Function name parameter deref arms) = some_within names test true parameter
