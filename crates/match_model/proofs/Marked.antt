-- Marks by which no type is left to mark tell emptiness exactly.
use Rattle.std.proofs.Common.{◌≡◌, ℕ, Bool, true, false, not, Option, Some, None, IsTrue, nat_eq, ap, ◌∙◌, sym, arith}
use Rattle.match_model.specs.Types.{MType, MTypes}
use Rattle.match_model.specs.Declarations.{MProgram, node_types}
use Rattle.match_model.specs.Values.{MValue, Flag, Num, Text, Node, Point, Row, Thing, Later, Unseen, MValues}
use Rattle.match_model.specs.Typing.{is_value, are_values}
use Rattle.match_model.specs.Constructors.{OneVariant, builds_one}
use Rattle.match_model.specs.ContextLaws.{EmptyLaw, UnsureLaw}
use Rattle.match_model.specs.RustTypes.{is_type, IsSoundProgram, rust_context, RustValue}
use Rattle.match_model.specs.Emptiness.{has_value, all_have_value, variant_has_value, AreMarks, IsRustType}
use Rattle.match_model.proofs.Basics.{nat_equal, nat_itself, found}
use Rattle.match_model.proofs.RustParts.{types_of_node}
use Rattle.match_model.proofs.Empty.{Stable, value_has, values_have}
use Rattle.match_model.proofs.Inhabited.{AllFound}
use Rattle.match_model.proofs.Valued.{unsure, sure, all_sure}

untrue : false ≡ true → ⊥
untrue e = cc

-- the parts of a node of types that were found
node_found : (program : MProgram) (sure : Bool) (t : MType) (k : ℕ) (ts : MTypes) → node_types program t k ≡ Some ts →
    AllFound program sure ts → (vs : MValues) × (is_value program sure t (Node k vs) ≡ true)
node_found program sure t k ts e (vs, h) = (vs, by (node_types program t k) e)
  where
    by : (o : Option MTypes) → o ≡ Some ts → (elim o [ None ↦ false | Some us ↦ are_values program sure us vs ]) ≡ true
    by o e = rw e h

not_true : (b : Bool) → not b ≡ true → b ≡ false
not_true b h = grind arith

not_false : (b : Bool) → not b ≡ false → b ≡ true
not_false b h = grind arith

clash : (b : Bool) → b ≡ false → b ≡ true → ⊥
clash true e h = grind arith
clash false e h = grind arith

-- the node that a variant builds
variant_node : (k : ℕ) (v : MValue) → builds_one (OneVariant k) v ≡ true → (parts : MValues) × (v ≡ Node k parts)
variant_node k (Node j parts) h = (parts, ap (λ i. Node i parts) (sym (nat_equal k j (flipped h))))
  where
    flipped : nat_eq j k ≡ true → nat_eq k j ≡ true
    flipped h = rw (nat_equal j k h) (nat_itself k)
variant_node k (Flag b) h = absurd (untrue h)
variant_node k (Num n) h = absurd (untrue h)
variant_node k (Text u) h = absurd (untrue h)
variant_node k (Point m w) h = absurd (untrue h)
variant_node k (Row items) h = absurd (untrue h)
variant_node k Thing h = absurd (untrue h)
variant_node k Later h = absurd (untrue h)
variant_node k Unseen h = absurd (untrue h)

no_variant : (program : MProgram) (marked : MType → Bool) → Stable program true marked → (t : MType) (k : ℕ) → variant_has_value program marked t k ≡ false →
    (v : MValue) → builds_one (OneVariant k) v ≡ true → is_value program true t v ≡ true → ⊥
no_variant program marked stable t k none v built h =
    let n = variant_node k v built in
    let h' : is_value program true t (Node k n.0) ≡ true = ap (is_value program true t) (sym n.1) ∙ h in
    let r = found (node_types program t k) (λ ts. are_values program true ts n.0) h' in
    clash (variant_has_value program marked t k) none (by (node_types program t k) r.1 (values_have program true marked stable n.0 r.0 r.2))
  where
    by : {ts : MTypes} (o : Option MTypes) → o ≡ Some ts → all_have_value true marked ts ≡ true → (elim o [ None ↦ false | Some us ↦ all_have_value true marked us ]) ≡ true
    by o e h = rw e h

pub rust_unsure : (program : MProgram) → IsSoundProgram program → UnsureLaw (IsRustType program) (RustValue program)
rust_unsure program sound t d = unsure program sound t d

pub rust_empty : (program : MProgram) (marked : MType → Bool) → IsSoundProgram program → AreMarks program true marked →
    EmptyLaw (IsRustType program) (RustValue program) (rust_context program) (λ t. not (has_value true marked t)) (λ t k. not (variant_has_value program marked t k))
rust_empty program marked sound are = record {
  empty = λ t d e v h. clash (has_value true marked t) (not_true _ e) (value_has program true marked are.stable v t h);
  inhabited = λ t d e. sure program sound marked are.held t d (not_false _ e);
  variant_is_empty = λ t k d s e v b h. no_variant program marked are.stable t k (not_true _ e) v b h;
  variant_inhabited = λ t k d s e. inhabited_variant t k d (found (node_types program t k) (λ ts. all_have_value true marked ts) (not_false _ e));
}
  where
    inhabited_variant : (t : MType) (k : ℕ) → is_type program t ≡ true → (ts : MTypes) × (node_types program t k ≡ Some ts) × (all_have_value true marked ts ≡ true) →
        (v : MValue) × IsTrue (builds_one (OneVariant k) v) × RustValue program t true v
    inhabited_variant t k d (ts, e, h) =
        let r = node_found program true t k ts e (all_sure program sound marked are.held ts (types_of_node program sound t k ts d e) h) in
        (Node k r.0, nat_itself k, r.1)
