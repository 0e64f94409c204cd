-- A part below the count is there, and a type without one behind it stands for itself.
use Rattle.std.proofs.Common.{◌≡◌, ◌<◌, ℕ, zero, suc, Bool, true, List, [], ◌∷◌, length, is_some, Option, Some, None, slice_get, refl, sym, ap, ◌∙◌, arith}
use Rattle.match_model.specs.Types.{MType, OpaqueType, MTypes, types_list}
use Rattle.match_model.specs.RustTypes.{count_of_types, inner_type}
use Rattle.match_model.specs.Typing.{is_opaque}
use Rattle.match_model.proofs.Basics.{untrue}
use Rattle.type_table.specs.declared.kinds.TyKind.{TyKind}
use Rattle.type_table.specs.declared.kinds.TyKind.TheVariants as kinds
use Rattle.type_table.specs.declared.table.TyId.{TyId}
use Rattle.type_table.specs.declared.table.TypeTable.{TypeTable}
use Rattle.type_table.specs.Parts.{inner_id}
use Rattle.type_table.specs.Tables.{IsOf, KindIs, part_of, table_type}
use Rattle.type_table.proofs.ContextLemmas.{one_id}
use Rattle.type_table.proofs.PartLemmas.{inner_is, inner_is_of}

item_there : {A : Type 0} (xs : List A) (i : ℕ) → i < length xs → is_some (slice_get xs i) ≡ true
item_there [] i h = absurd (omega (arith, h))
item_there (x ∷ xs) zero h = refl
item_there (x ∷ xs) (suc i) h = item_there xs i (omega (arith, h))

pub part_there : (o : Option MTypes) (i : ℕ) → i < count_of_types o → is_some (part_of o i) ≡ true
part_there None i h = absurd (omega (arith, h))
part_there (Some ts) i h = item_there (types_list ts) i h

opaque : (t : MType) → is_opaque t ≡ true → inner_type t ≡ t
opaque (OpaqueType name arguments) h = refl
opaque _ h = untrue h

plain : (t u : MType) → t ≡ u → inner_type u ≡ u → inner_type t ≡ t
plain t u e h = ap inner_type e ∙ (h ∙ sym e)

module _ (table : TypeTable) (ty : TyId) where
  holds_itself : (kind : TyKind) → KindIs table (table_type table ty) kind →
      ((mutable : Bool) (inner : TyId) → kind ≡ kinds.Point mutable inner → ⊥) → ((item : TyId) → kind ≡ kinds.Slice item → ⊥) →
      ((item : TyId) (n : ℕ) → kind ≡ kinds.Array item n → ⊥) → inner_type (table_type table ty) ≡ table_type table ty
  holds_itself kinds.Bool k p s a = plain _ _ k refl
  holds_itself kinds.Char k p s a = plain _ _ k refl
  holds_itself (kinds.Int kind) k p s a = plain _ _ k refl
  holds_itself kinds.Str k p s a = plain _ _ k refl
  holds_itself kinds.Never k p s a = plain _ _ k refl
  holds_itself kinds.Opaque k p s a = opaque _ k
  holds_itself (kinds.Tuple n) k p s a = plain _ _ k.1 refl
  holds_itself (kinds.Point mutable inner) k p s a = absurd (p mutable inner refl)
  holds_itself (kinds.Slice item) k p s a = absurd (s item refl)
  holds_itself (kinds.Array item n) k p s a = absurd (a item n refl)
  holds_itself (kinds.Struct n) k p s a = plain _ _ k.2 refl
  holds_itself (kinds.Enum count later) k p s a = plain _ _ k.2 refl

  pub inner_itself : (kind : TyKind) → IsOf table ty → KindIs table (table_type table ty) kind →
      ((mutable : Bool) (inner : TyId) → kind ≡ kinds.Point mutable inner → ⊥) → ((item : TyId) → kind ≡ kinds.Slice item → ⊥) →
      ((item : TyId) (n : ℕ) → kind ≡ kinds.Array item n → ⊥) → ty ≡ inner_id table ty
  inner_itself kind of k p s a =
      one_id table ty (inner_id table ty) of (inner_is_of table ty of) (sym (holds_itself kind k p s a) ∙ inner_is table ty)
