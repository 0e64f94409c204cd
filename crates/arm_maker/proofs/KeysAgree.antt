-- The numbers of two witnesses of a type agree with the order of arms.
use Rattle.std.proofs.Common.{◌≡◌, inl, ℕ, ◌+◌, pos, Bool, List, [], ◌∷◌, ◌++◌, length, nat_eq, nat_lt, refl, sym, subst, arith}
use Rattle.match_model.specs.Types.{MType}
use Rattle.match_model.specs.Declarations.{MProgram, node_types}
use Rattle.match_model.specs.RustTypes.{inner_type}
use Rattle.match_model.specs.Witness.{MWitness, AnyOf, LaterOf, FlagOf, SpanOf, TextOf, ElseOf, NodeOf, PointOf, RowOf, MWitnesses, no_witnesses, more_witnesses, witnesses_list}
use Rattle.match_model.specs.WitnessOrder.{Same, compare_nat, compare_shape, compare_witness, compare_witnesses, and_then}
use Rattle.match_model.proofs.Basics.{nat_equal}
use Rattle.witness_names.specs.Named.{types_there}
use Rattle.arm_maker.specs.Order.{compare_arm, compare_parts, compare_items}
use Rattle.arm_maker.specs.Keys.{arm_key, parts_key, items_key}
use Rattle.arm_maker.proofs.Agreeing.{Agrees, agrees_behind, agrees_then, compared_same, zero_one, nats_agree, flags_agree, ranges_agree, texts_agree, others_agree, shapes_agree, shape_same}
use Rattle.arm_maker.proofs.Typed.{IsOfType, AreParts, AreItems, node_parts, point_part, row_items}

module _ (program : MProgram) where
  -- the types of the parts of a variant
  abbrev node_there : MType → ℕ → List MType
  node_there t k = types_there (node_types program t k)

  same_variant : (k j : ℕ) → compare_nat k j ≡ Same → k ≡ j
  same_variant k j e = nat_equal k j (compared_same (nat_eq k j) (nat_lt k j) e)

  -- nodes, where their parts agree
  nodes_agree : (t : MType) (k j : ℕ) (ws us : MWitnesses) →
      ((ts : List MType) → AreParts program ts ws → AreParts program ts us →
      Agrees (compare_witnesses ws us) (compare_parts program ts ws us) (compare_parts program ts us ws)
      (parts_key program ts ws) (parts_key program ts us)) →
      IsOfType program t (NodeOf k ws) → IsOfType program t (NodeOf j us) →
      Agrees (compare_witness (NodeOf k ws) (NodeOf j us)) (compare_arm program t (NodeOf k ws) (NodeOf j us))
      (compare_arm program t (NodeOf j us) (NodeOf k ws)) (arm_key program t (NodeOf k ws))
      (arm_key program t (NodeOf j us))
  nodes_agree t k j ws us parts h g =
      let c = compare_nat k j in
      let d = compare_witnesses ws us in
      let forth = compare_parts program (node_there t k) ws us in
      let back = compare_parts program (node_there t j) us ws in
      let mine = parts_key program (node_there t k) ws in
      let other = parts_key program (node_there t j) us in
      agrees_behind (and_then c d) (and_then c forth) (and_then (compare_nat j k) back) (pos 0 ∷ []) (pos k ∷ mine)
      (pos j ∷ other)
      (agrees_then c d c forth (compare_nat j k) back (pos k ∷ []) (pos j ∷ []) mine other (nats_agree k j)
      (λ e. below (same_variant k j e)))
    where
      below : k ≡ j →
          Agrees (compare_witnesses ws us) (compare_parts program (node_there t k) ws us)
          (compare_parts program (node_there t j) us ws)
          (parts_key program (node_there t k) ws) (parts_key program (node_there t j) us)
      below s =
          subst (λ i. Agrees (compare_witnesses ws us) (compare_parts program (node_there t k) ws us)
          (compare_parts program (node_there t i) us ws)
          (parts_key program (node_there t k) ws) (parts_key program (node_there t i) us)) s
          (parts (node_there t k) (node_parts program t k ws h)
          (subst (λ i. AreParts program (node_there t i) us) (sym s) (node_parts program t j us g)))

  -- rows, where their items agree
  rows_agree : (t : MType) (f : MWitnesses) (longer : Bool) (b g : MWitnesses) (wider : Bool) (c : MWitnesses) →
      (length (witnesses_list f) ≡ length (witnesses_list g) →
      Agrees (compare_witnesses f g) (compare_items program (inner_type t) f g)
      (compare_items program (inner_type t) g f)
      (items_key program (inner_type t) f) (items_key program (inner_type t) g)) →
      (length (witnesses_list b) ≡ length (witnesses_list c) →
      Agrees (compare_witnesses b c) (compare_items program (inner_type t) b c)
      (compare_items program (inner_type t) c b)
      (items_key program (inner_type t) b) (items_key program (inner_type t) c)) →
      Agrees (compare_witness (RowOf f longer b) (RowOf g wider c))
      (compare_arm program t (RowOf f longer b) (RowOf g wider c))
      (compare_arm program t (RowOf g wider c) (RowOf f longer b)) (arm_key program t (RowOf f longer b))
      (arm_key program t (RowOf g wider c))
  rows_agree t f longer b g wider c front back =
      let nf = length (witnesses_list f) in
      let nb = length (witnesses_list b) in
      let ng = length (witnesses_list g) in
      let nc = length (witnesses_list c) in
      let u = inner_type t in
      let shape = compare_shape nf longer nb ng wider nc in
      let turned = compare_shape ng wider nc nf longer nb in
      agrees_then shape (and_then (compare_witnesses f g) (compare_witnesses b c))
      shape (and_then (compare_items program u f g) (compare_items program u b c))
      turned (and_then (compare_items program u g f) (compare_items program u c b))
      (pos (nf + nb) ∷ []) (pos (ng + nc) ∷ []) (items_key program u f ++ items_key program u b)
      (items_key program u g ++ items_key program u c)
      (shapes_agree nf longer nb ng wider nc)
      (λ e. agrees_then (compare_witnesses f g) (compare_witnesses b c) (compare_items program u f g)
      (compare_items program u b c)
      (compare_items program u g f) (compare_items program u c b) (items_key program u f) (items_key program u g)
      (items_key program u b)
      (items_key program u c) (front (shape_same nf longer nb ng wider nc e).0)
      (λ d. back (shape_same nf longer nb ng wider nc e).1))

  mutual
    pub keys_agree : (t : MType) (w u : MWitness) → IsOfType program t w → IsOfType program t u →
        Agrees (compare_witness w u) (compare_arm program t w u) (compare_arm program t u w) (arm_key program t w)
        (arm_key program t u)
    keys_agree t AnyOf AnyOf h g = (refl, refl, refl)
    keys_agree t LaterOf LaterOf h g = (refl, refl, refl)
    keys_agree t (FlagOf a) (FlagOf b) h g = flags_agree a b
    keys_agree t (SpanOf r) (SpanOf s) h g = ranges_agree t r s
    keys_agree t (TextOf a) (TextOf b) h g = texts_agree a b
    keys_agree t (TextOf a) (ElseOf us) h g = inl (refl, inl zero_one)
    keys_agree t (ElseOf ts) (ElseOf us) h g = others_agree ts us
    keys_agree t (NodeOf k ws) LaterOf h g = inl (refl, inl zero_one)
    keys_agree t (NodeOf k ws) (NodeOf j us) h g = nodes_agree t k j ws us (λ ts p q. parts_agree ts ws us p q) h g
    keys_agree t (PointOf w) (PointOf u) h g = keys_agree (inner_type t) w u (point_part program t w h)
        (point_part program t u g)
    keys_agree t (RowOf f longer b) (RowOf k wider c) h g =
        let p = row_items program t f longer b h in
        let q = row_items program t k wider c g in
        rows_agree t f longer b k wider c (λ l. items_agree (inner_type t) f k l p.0 q.0)
        (λ l. items_agree (inner_type t) b c l p.1 q.1)
    keys_agree t _ _ h g = tt

    parts_agree : (ts : List MType) (ws us : MWitnesses) → AreParts program ts ws → AreParts program ts us →
        Agrees (compare_witnesses ws us) (compare_parts program ts ws us) (compare_parts program ts us ws)
        (parts_key program ts ws) (parts_key program ts us)
    parts_agree [] no_witnesses no_witnesses p q = (refl, refl, refl)
    parts_agree [] no_witnesses (more_witnesses u us) p q = absurd q
    parts_agree [] (more_witnesses w ws) us p q = absurd p
    parts_agree (t ∷ ts) no_witnesses us p q = absurd p
    parts_agree (t ∷ ts) (more_witnesses w ws) no_witnesses p q = absurd q
    parts_agree (t ∷ ts) (more_witnesses w ws) (more_witnesses u us) p q =
        agrees_then (compare_witness w u) (compare_witnesses ws us) (compare_arm program t w u)
        (compare_parts program ts ws us)
        (compare_arm program t u w) (compare_parts program ts us ws) (arm_key program t w) (arm_key program t u)
        (parts_key program ts ws)
        (parts_key program ts us) (keys_agree t w u p.0 q.0) (λ e. parts_agree ts ws us p.1 q.1)

    items_agree : (t : MType) (ws us : MWitnesses) → length (witnesses_list ws) ≡ length (witnesses_list us) →
        AreItems program t ws → AreItems program t us →
        Agrees (compare_witnesses ws us) (compare_items program t ws us) (compare_items program t us ws)
        (items_key program t ws) (items_key program t us)
    items_agree t no_witnesses no_witnesses l p q = (refl, refl, refl)
    items_agree t no_witnesses (more_witnesses u us) l p q = absurd (omega (arith, l))
    items_agree t (more_witnesses w ws) no_witnesses l p q = absurd (omega (arith, l))
    items_agree t (more_witnesses w ws) (more_witnesses u us) l p q =
        agrees_then (compare_witness w u) (compare_witnesses ws us) (compare_arm program t w u)
        (compare_items program t ws us)
        (compare_arm program t u w) (compare_items program t us ws) (arm_key program t w) (arm_key program t u)
        (items_key program t ws)
        (items_key program t us) (keys_agree t w u p.0 q.0) (λ e. items_agree t ws us (omega (arith, l)) p.1 q.1)
