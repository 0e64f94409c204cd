-- A switch without a variant needs no type for its names.
use Rattle.std.proofs.Common.{◌≡◌, ◌∙◌, ap, refl, Bool, true, false, List, [], ◌∷◌, map, Option, Some, None}
use Rattle.std.specs.Prelude.{◌||◌, option_map}
use Rattle.match_model.specs.Declarations.{MVariant, MProgram}
use Rattle.match_model.specs.Trees.{MCase, VariantCase, FlagCase, SpanCase, TextCase, LengthCase, LongerCase, ElseCase, MBranch}
use Rattle.match_model.specs.Types.{MType}
use Rattle.witness_text.specs.Trees.{NameTree}
use Rattle.type_names.specs.declared.meanings.FormKind.{FormKind}
use Rattle.witness_names.specs.declared.paths.Paths.TheVariants.{Short}
use Rattle.witness_names.specs.Named.{form_name}
use Rattle.witness_names.specs.Lookups.{form_told}
use Rattle.witness_names.specs.NamedTrees.{named_case, named_branch, is_variant, has_variant}

neither : (b c : Bool) → (b || c) ≡ false → (b ≡ false) × (c ≡ false)
neither false c h = (refl, h)
neither true c h = absurd cc

module _ (program : MProgram) (at other : Option MType) where
  case_alike : (c : MCase) → is_variant c ≡ false → named_case program at c ≡ named_case program other c
  case_alike (VariantCase k) h = absurd cc
  case_alike (FlagCase b) h = refl
  case_alike (SpanCase r) h = refl
  case_alike (TextCase t) h = refl
  case_alike (LengthCase n) h = refl
  case_alike (LongerCase front back) h = refl
  case_alike ElseCase h = refl

  -- without a variant the names are the same, whatever the type
  pub names_alike : (bs : List MBranch) → has_variant bs ≡ false → map (named_branch program at) bs ≡ map (named_branch program other) bs
  names_alike [] h = refl
  names_alike (b ∷ bs) h =
      let both = neither (is_variant b.case) (has_variant bs) h in
      ap (λ c. record { case = c; next = b.next } ∷ map (named_branch program at) bs) (case_alike b.case both.0)
      ∙ ap (λ rest. named_branch program other b ∷ rest) (names_alike bs both.1)

-- the name of a form that is told
pub name_told : (program : MProgram) (t : MType) (o : Option MVariant) (told : Option (FormKind × NameTree)) →
    told ≡ option_map (form_told Short program t) o → option_map (λ p. p.1) told ≡ option_map (λ v. form_name program t v.name) o
name_told program t None told e = ap (option_map (λ p. p.1)) e
name_told program t (Some v) told e = ap (option_map (λ p. p.1)) e
