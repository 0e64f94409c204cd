-- A struct or enum type has as many variants as its set of constructors says.
use Rattle.std.proofs.Common.{◌≡◌, ℕ, Bool, true, false, [], ◌∷◌, Option, Some, None, length, ◌∙◌}
use Rattle.std.proofs.lemmas.List.{length-map}
use Rattle.match_model.specs.Types.{MType, NamedType}
use Rattle.match_model.specs.Declarations.{MItem, StructItem, EnumItem, OtherItem, MProgram, item_variants, filled_variant, declared, variants_of}
use Rattle.match_model.specs.Constructors.{VariantSet}
use Rattle.match_model.specs.RustTypes.{item_set, rust_set, is_type}

counted_item : (o : Option MItem) (count : ℕ) (later : Bool) → item_set o ≡ VariantSet count later → length (item_variants o) ≡ count
counted_item None count later e = cc
counted_item (Some OtherItem) count later e = cc
counted_item (Some (StructItem v)) count later e = cc
counted_item (Some (EnumItem name false [])) count later e = cc
counted_item (Some (EnumItem name true [])) count later e = cc
counted_item (Some (EnumItem name marked (v ∷ vs))) count later e = cc

pub counted : (program : MProgram) (t : MType) (count : ℕ) (later : Bool) → is_type program t ≡ true →
    rust_set program t ≡ VariantSet count later → length (variants_of program t) ≡ count
counted program (NamedType owner args) count later d e =
    length-map (item_variants (declared program owner)) (filled_variant args) ∙ counted_item (declared program owner) count later e
counted program _ count later d e = cc
