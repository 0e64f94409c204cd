-- The written fields of a struct or variant, found by their numbers.
use Rattle.std.proofs.Common.{◌≡◌, ℕ, suc, ◌+◌, Bool, true, false, nat_eq, List, ◌∷◌, Option, Some, None, refl, sym, ap, ◌∙◌, arith, if◌then◌else◌}
use Rattle.std.specs.Prelude.{slice_get}
use Rattle.match_model.specs.declared.Mode.{Mode}
use Rattle.match_model.specs.Types.{MType, MTypes, no_types, more_types, types_list}
use Rattle.match_model.specs.Declarations.{MProgram, node_types}
use Rattle.match_model.specs.RustTypes.{rust_set, type_or, part_type}
use Rattle.match_model.specs.Patterns.{more_numbered}
use Rattle.decl_syntax.specs.Patterns.{PatternTree, PatternTrees, none, more, FieldTrees, no_field, and_field}
use Rattle.type_names.specs.Finding.{FoundTree, FoundNothing, FoundTwice, FoundStruct, FoundVariant, is_found}
use Rattle.pattern_rules.specs.Settings.{Setting, program}
use Rattle.pattern_rules.specs.Namings.{field_number, found_ctor, found_number}
use Rattle.pattern_rules.specs.Nodes.{is_rest, part_behind, part_types}
use Rattle.pattern_rules.specs.Resolved.{resolved, form_parts, form_fields}
use Rattle.pattern_rules.specs.Builders.{Built, over, parts_from, types_or_none, node_ctor, form}
use Rattle.pattern_rules.specs.Elaborated.{elaborated, elaborated_field}
use Rattle.pattern_rules.proofs.SameTypes.{numbers_are_one}
use Rattle.pattern_elaboration.specs.Written.{types_of_parts, built, built_there, built_parts, built_fields}

-- a field at its number
here_or : (s : Setting) (types : ℕ → MType) (m : Mode) (p : PatternTree) (i j : ℕ) (behind other : Built) →
    behind ≡ other →
    (if nat_eq i j then elaborated (program s) (resolved s (types j) p) (types i) m else behind) ≡
    (if nat_eq i j then built s (types j) m p else other)
here_or s types m p i j behind other e = by (nat_eq i j) (numbers_are_one i j)
  where
    by : (b : Bool) → (b ≡ true → i ≡ j) → (if b then elaborated (program s) (resolved s (types j) p) (types i) m else
        behind) ≡ (if b then built s (types j) m p else other)
    by true h = ap (λ t. elaborated (program s) (resolved s (types j) p) t m) (ap types (h refl))
    by false h = e

-- the written fields of a tuple form
pub part_there : (s : Setting) (types : ℕ → MType) (parts j : ℕ) (m : Mode) (ps : PatternTrees) (i : ℕ) →
    elaborated_field (program s) (form_parts s types parts j ps) i (types i) m ≡ built_there
    (built_parts s types parts j m ps) i (types i)
part_there s types parts j m none i = refl
part_there s types parts j m (more p ps) i = by (is_rest p) (part_behind parts j p ps) (part_there s types parts
    (part_behind parts j p ps) m ps i)
  where
    by : (b : Bool) (k : ℕ) →
        elaborated_field (program s) (form_parts s types parts k ps) i (types i) m ≡ built_there
        (built_parts s types parts k m ps) i (types i) →
        elaborated_field (program s) (if b then form_parts s types parts k ps else more_numbered j
        (resolved s (types j) p) (form_parts s types parts k ps)) i (types i) m
        ≡ built_there (if b then built_parts s types parts k m ps else (j, built s (types j) m p) ∷ built_parts s
        types parts k m ps) i (types i)
    by true k h = h
    by false k h =
        here_or s types m p i j (elaborated_field (program s) (form_parts s types parts k ps) i (types i) m)
        (built_there (built_parts s types parts k m ps) i (types i)) h

-- the written fields of a brace form
pub field_there : (s : Setting) (types : ℕ → MType) (names : List (List ℕ)) (m : Mode) (fs : FieldTrees) (i : ℕ) →
    elaborated_field (program s) (form_fields s types names fs) i (types i) m ≡ built_there
    (built_fields s types names m fs) i (types i)
field_there s types names m no_field i = refl
field_there s types names m (and_field name short attrs p fs) i =
    here_or s types m p i (field_number names name) (elaborated_field (program s) (form_fields s types names fs) i
    (types i) m)
    (built_there (built_fields s types names m fs) i (types i)) (field_there s types names m fs i)

-- one pattern for each type, where two ways to make them agree at each part's type
parts_agree : (f g : ℕ → MType → Built) (types : ℕ → MType) (i : ℕ) (ts : MTypes) →
    ((j : ℕ) (w : MType) → slice_get (types_list ts) j ≡ Some w → types (i + j) ≡ w) →
    ((j : ℕ) → f j (types j) ≡ g j (types j)) →
    parts_from f i ts ≡ parts_from g i ts
parts_agree f g types i no_types h k = refl
parts_agree f g types i (more_types t ts) h k = rw (first, parts_agree f g types (suc i) ts later k) refl
  where
    here : types i ≡ t
    here = ap types (omega arith) ∙ h 0 t refl

    first : f i t ≡ g i t
    first = ap (f i) (sym here) ∙ (k i ∙ ap (g i) here)

    later : (j : ℕ) (w : MType) → slice_get (types_list ts) j ≡ Some w → types (suc i + j) ≡ w
    later j w e = ap types (omega arith) ∙ h (suc j) w e

part_is_there : (t : MType) (o : Option MTypes) (j : ℕ) (w : MType) → slice_get (types_list (types_or_none o)) j ≡
    Some w → part_type t o j ≡ w
part_is_there t None j w e = absurd cc
part_is_there t (Some ts) j w e = ap (type_or t) e

-- a node of a variant, where two ways to make its parts agree at each part's type
pub forms_agree : (p : MProgram) (k : ℕ) (f g : ℕ → MType → Built) (t : MType) →
    ((j : ℕ) → f j (types_of_parts p t k j) ≡ g j (types_of_parts p t k j)) →
    form p k f t ≡ form p k g t
forms_agree p k f g t h =
    ap (over (node_ctor (rust_set p t) k) t)
    (parts_agree f g (types_of_parts p t k) 0 (types_or_none (node_types p t k)) (λ j w e. ap (types_of_parts p t k)
    (omega arith) ∙ part_is_there t (node_types p t k) j w e) h)

-- the types of the parts of what was found
pub types_found : (s : Setting) (found : FoundTree) (t : MType) (i : ℕ) → is_found found ≡ true →
    part_types s (found_ctor found) t i ≡ types_of_parts (program s) t (found_number found) i
types_found s (FoundStruct n) t i h = refl
types_found s (FoundVariant o k) t i h = refl
types_found s FoundNothing t i h = absurd cc
types_found s FoundTwice t i h = absurd cc
