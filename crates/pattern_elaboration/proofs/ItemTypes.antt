-- The types of items, and how many parts a list has, by what kind a type is of.
use Rattle.std.proofs.Common.{◌≡◌, ℕ, Option, Some, None, refl, ap}
use Rattle.match_model.specs.Types.{MType, SliceType, ArrayType}
use Rattle.match_model.specs.Declarations.{MProgram}
use Rattle.type_table.specs.Tables.{fields_of_type}
use Rattle.pattern_elaboration.specs.TypeTests.{row_of}
use Rattle.pattern_elaboration.specs.Walking.{item_types, item_count}
use Rattle.pattern_elaboration.specs.Written.{types_of_parts}

pub item_there : (p : MProgram) (t u : MType) (n : Option ℕ) (i : ℕ) → Some (u, n) ≡ row_of t → u ≡ item_types p t i
item_there p (SliceType v) u n i h = let e : (u, n) ≡ (v, None) = cc in ap (λ (x : MType × Option ℕ). x.0) e
item_there p (ArrayType v k) u n i h = let e : (u, n) ≡ (v, Some k) = cc in ap (λ (x : MType × Option ℕ). x.0) e
item_there p t u n i h = absurd cc

pub part_there : (p : MProgram) (t : MType) (i : ℕ) → None ≡ row_of t → types_of_parts p t 0 i ≡ item_types p t i
part_there p (SliceType v) i h = absurd cc
part_there p (ArrayType v k) i h = absurd cc
part_there p t i h = refl

pub row_count : (p : MProgram) (t u : MType) (n : Option ℕ) (items : ℕ) → Some (u, n) ≡ row_of t →
    items ≡ item_count p t items
row_count p (SliceType v) u n items h = refl
row_count p (ArrayType v k) u n items h = refl
row_count p t u n items h = absurd cc

pub part_count : (p : MProgram) (t : MType) (items : ℕ) → None ≡ row_of t → fields_of_type p t 0 ≡ item_count p t items
part_count p (SliceType v) items h = absurd cc
part_count p (ArrayType v k) items h = absurd cc
part_count p t items h = refl
