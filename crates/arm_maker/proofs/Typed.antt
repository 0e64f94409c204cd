-- The parts of a witness of a type, each of its own type.
use Rattle.std.proofs.Common.{◌≡◌, ℕ, zero, suc, ◌+◌, true, Bool, ◌&&◌, List, [], ◌∷◌, length, Option, Some, None, slice_get, nat_eq, refl, sym, ap, ◌∙◌, arith}
use Rattle.std.specs.Prelude.{⊤}
use Rattle.match_model.specs.Types.{MType, MTypes, types_list}
use Rattle.match_model.specs.Constructors.{MCtor, RowCtor, PointCtor, MSet, SingleSet}
use Rattle.match_model.specs.Declarations.{MProgram, node_types}
use Rattle.match_model.specs.OfType.{node_ctor, has_ctor, witness_is_of, witnesses_are_of}
use Rattle.match_model.specs.RustTypes.{count_of_types, type_or, part_type, inner_type, rust_set, rust_arity, rust_sub, rust_context}
use Rattle.match_model.specs.Witness.{MWitness, NodeOf, PointOf, RowOf, MWitnesses, no_witnesses, more_witnesses, witnesses_list, slice_shape, back_is_allowed}
use Rattle.match_model.proofs.Basics.{both, nat_equal}
use Rattle.witness_names.specs.Named.{types_there}

-- the witness is of the type
abbrev pub IsOfType : MProgram → MType → MWitness → Type 0
IsOfType program t w = witness_is_of (rust_context program) t w ≡ true

-- as many witnesses as types, each of its own
abbrev pub AreParts : MProgram → List MType → MWitnesses → Type 0
AreParts program [] no_witnesses = ⊤
AreParts program [] (more_witnesses w ws) = ⊥
AreParts program (t ∷ ts) no_witnesses = ⊥
AreParts program (t ∷ ts) (more_witnesses w ws) = IsOfType program t w × AreParts program ts ws

-- witnesses of one type
abbrev pub AreItems : MProgram → MType → MWitnesses → Type 0
AreItems program t no_witnesses = ⊤
AreItems program t (more_witnesses w ws) = IsOfType program t w × AreItems program t ws

module _ (program : MProgram) where
  items_typed : (f : ℕ → MType) (t : MType) → ((i : ℕ) → f i ≡ t) → (i : ℕ) (ws : MWitnesses) →
      witnesses_are_of (rust_context program) f i ws ≡ true → AreItems program t ws
  items_typed f t same i no_witnesses h = tt
  items_typed f t same i (more_witnesses w ws) h =
      let p = both (witness_is_of (rust_context program) (f i) w)
      (witnesses_are_of (rust_context program) f (suc i) ws) h in
      (ap (λ u. witness_is_of (rust_context program) u w) (sym (same i)) ∙ p.0, items_typed f t same (suc i) ws p.1)

  parts_typed : (ts : List MType) (t : MType) (f : ℕ → MType) (i : ℕ) →
      ((j : ℕ) → f (i + j) ≡ type_or t (slice_get ts j)) →
      (ws : MWitnesses) → length (witnesses_list ws) ≡ length ts → witnesses_are_of (rust_context program) f i ws
      ≡ true →
      AreParts program ts ws
  parts_typed [] t f i same no_witnesses l h = tt
  parts_typed [] t f i same (more_witnesses w ws) l h = absurd (omega (arith, l))
  parts_typed (u ∷ ts) t f i same no_witnesses l h = absurd (omega (arith, l))
  parts_typed (u ∷ ts) t f i same (more_witnesses w ws) l h =
      let p = both (witness_is_of (rust_context program) (f i) w)
      (witnesses_are_of (rust_context program) f (suc i) ws) h in
      let here : i ≡ i + 0 = omega arith in
      let first : f i ≡ u = ap f here ∙ same 0 in (
        ap (λ v. witness_is_of (rust_context program) v w) (sym first) ∙ p.0,
        parts_typed ts t f (suc i) (shifted i same) ws (omega (arith, l)) p.1,
      )
    where
      shifted : (i : ℕ) → ((j : ℕ) → f (i + j) ≡ type_or t (slice_get (u ∷ ts) j)) → (j : ℕ) → f (suc i + j)
          ≡ type_or t (slice_get ts j)
      shifted i same j = let next : suc i + j ≡ i + suc j = omega arith in ap f next ∙ same (suc j)

  types_typed : (o : Option MTypes) (t : MType) (f : ℕ → MType) → ((j : ℕ) → f j ≡ part_type t o j) →
      (ws : MWitnesses) →
      length (witnesses_list ws) ≡ count_of_types o → witnesses_are_of (rust_context program) f 0 ws ≡ true →
      AreParts program (types_there o) ws
  types_typed None t f same ws l h = parts_typed [] t f 0 (λ j. at j) ws l h
    where
      at : (j : ℕ) → f (0 + j) ≡ type_or t (slice_get [] j)
      at j = let e : 0 + j ≡ j = omega arith in ap f e ∙ same j
  types_typed (Some ts) t f same ws l h = parts_typed (types_list ts) t f 0 (λ j. at j) ws l h
    where
      at : (j : ℕ) → f (0 + j) ≡ type_or t (slice_get (types_list ts) j)
      at j = let e : 0 + j ≡ j = omega arith in ap f e ∙ same j

  -- the constructor of a node has the parts of its variant
  node_arity : (set : MSet) (k : ℕ) (t : MType) → rust_arity program (node_ctor set k) t ≡ count_of_types
      (node_types program t k)
  node_arity SingleSet zero t = refl
  node_arity SingleSet (suc k) t = refl
  node_arity set k t = refl

  node_sub : (set : MSet) (k : ℕ) (t : MType) (j : ℕ) → rust_sub program (node_ctor set k) t j ≡ part_type t
      (node_types program t k) j
  node_sub SingleSet zero t j = refl
  node_sub SingleSet (suc k) t j = refl
  node_sub set k t j = refl

  pub node_parts : (t : MType) (k : ℕ) (ws : MWitnesses) → IsOfType program t (NodeOf k ws) →
      AreParts program (types_there (node_types program t k)) ws
  node_parts t k ws h =
      let c = node_ctor (rust_set program t) k in
      let p = (both (has_ctor (rust_context program) t c)
      (nat_eq (length (witnesses_list ws)) (rust_arity program c t) && witnesses_are_of (rust_context program)
      (rust_sub program c t) 0 ws) h).1 in
      let q = both (nat_eq (length (witnesses_list ws)) (rust_arity program c t))
      (witnesses_are_of (rust_context program) (rust_sub program c t) 0 ws) p in
      types_typed (node_types program t k) t (rust_sub program c t) (node_sub (rust_set program t) k t) ws
      (nat_equal (length (witnesses_list ws)) (rust_arity program c t) q.0 ∙ node_arity (rust_set program t) k t) q.1

  pub point_part : (t : MType) (w : MWitness) → IsOfType program t (PointOf w) → IsOfType program (inner_type t) w
  point_part t w h = (both (has_ctor (rust_context program) t PointCtor)
      (witness_is_of (rust_context program) (inner_type t) w) h).1

  pub row_items : (t : MType) (front : MWitnesses) (longer : Bool) (back : MWitnesses) → IsOfType program t
      (RowOf front longer back) →
      AreItems program (inner_type t) front × AreItems program (inner_type t) back
  row_items t front longer back h =
      let n = length (witnesses_list front) in
      let m = length (witnesses_list back) in
      let c : MCtor = RowCtor (slice_shape n longer m) in
      let p = (both (has_ctor (rust_context program) t c && back_is_allowed longer m)
      (witnesses_are_of (rust_context program) (λ i. inner_type t) 0 front && witnesses_are_of (rust_context program)
      (λ i. inner_type t) n back) h).1 in
      let q = both (witnesses_are_of (rust_context program) (λ i. inner_type t) 0 front)
      (witnesses_are_of (rust_context program) (λ i. inner_type t) n back) p in (
        items_typed (λ i. inner_type t) (inner_type t) (λ i. refl) 0 front q.0,
        items_typed (λ i. inner_type t)
            (inner_type t) (λ i. refl) n back q.1,
      )
