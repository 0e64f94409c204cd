-- Lists of written types.
use Rattle.std.proofs.Common.{◌≡◌, Bool, ◌||◌, List, [], ◌∷◌, length, refl, ap, ◌∙◌, suc, sym}
use Rattle.std.specs.List.{list_any}
use Rattle.std.proofs.Math.Bool.{or_assoc}
use Rattle.decl_syntax.specs.Types.{TypeTree, types_from}
use Rattle.type_names.specs.Meanings.{Means}
use Rattle.type_names.specs.TypeRules.{TypeTest, some_within, some_of_all, count_of}
use Rattle.decl_syntax.specs.Patterns.{PatternTree, FieldTree, patterns_from, fields_from}
use Rattle.type_names.specs.Attributes.{pattern_unsupported, some_unsupported, fields_unsupported, field_unsupported, is_unsupported}

pub count_from : (ts : List TypeTree) → count_of (types_from ts) ≡ length ts
count_from [] = refl
count_from (t ∷ ts) = ap suc (count_from ts)

pub some_from : (names : Means) (test : TypeTest) (sized : Bool) (ts : List TypeTree) →
    some_of_all names test sized (types_from ts) ≡ list_any (some_within names test sized) ts
some_from names test sized [] = refl
some_from names test sized (t ∷ ts) = ap (λ b. some_within names test sized t || b) (some_from names test sized ts)

pub patterns_any : (ps : List PatternTree) → some_unsupported (patterns_from ps) ≡ list_any pattern_unsupported ps
patterns_any [] = refl
patterns_any (p ∷ ps) = ap (λ b. pattern_unsupported p || b) (patterns_any ps)

pub fields_any : (fs : List FieldTree) → fields_unsupported (fields_from fs) ≡ list_any field_unsupported fs
fields_any [] = refl
fields_any (f ∷ fs) =
    ap (λ b. is_unsupported f.attrs || (pattern_unsupported f.pattern || b)) (fields_any fs)
    ∙ sym (or_assoc (is_unsupported f.attrs) (pattern_unsupported f.pattern) (list_any field_unsupported fs))
