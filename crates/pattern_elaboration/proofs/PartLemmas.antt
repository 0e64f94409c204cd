-- The types of parts by their numbers.
use Rattle.std.proofs.Common.{◌≡◌, ℕ, ◌<◌, ◌≤◌, List, length, position, Option, Some, None, refl, sym, ap, arith}
use Rattle.std.specs.Prelude.{IsSome}
use Rattle.std.proofs.lemmas.Option.{slice_get_past}
use Rattle.std.specs.Str.{bytes_eq}
use Rattle.pattern_rules.specs.Namings.{field_number}
use Rattle.match_model.specs.Types.{MType, MTypes, types_list}
use Rattle.match_model.specs.RustTypes.{count_of_types, type_or, part_type}
use Rattle.type_table.specs.Tables.{part_of}
use Rattle.type_table.proofs.OneNumber.{node_there}

pub part_there : (o : Option MTypes) (i : ℕ) → i < count_of_types o → IsSome (part_of o i)
part_there None i lt = absurd (omega arith)
part_there (Some ts) i lt = let there = node_there (types_list ts) i lt in rw there.1 refl

pub part_is : (t u : MType) (o : Option MTypes) (i : ℕ) → part_of o i ≡ Some u → u ≡ part_type t o i
part_is t u None i e = absurd cc
part_is t u (Some ts) i e = sym (ap (type_or t) e)

pub part_past : (t : MType) (o : Option MTypes) (i : ℕ) → count_of_types o ≤ i → t ≡ part_type t o i
part_past t None i le = refl
part_past t (Some ts) i le = rw (slice_get_past (types_list ts) i le) refl

-- the number of a field by its place among the names
pub number_some : (names : List (List ℕ)) (name : List ℕ) (i : ℕ) → Some i ≡ position (λ n. bytes_eq name n) names →
    field_number names name ≡ i
number_some names name i e = rw (← e) refl

pub number_none : (names : List (List ℕ)) (name : List ℕ) → None ≡ position (λ n. bytes_eq name n) names →
    field_number names name ≡ length names
number_none names name e = rw (← e) refl
