-- Of two witnesses that differ somewhere first, the arm of the one that stands first takes nothing that fits the
-- other.
use Rattle.std.proofs.Common.{◌≡◌, ℕ, ◌+◌, ◌-◌, Bool, true, false, ◌&&◌, List, [], ◌∷◌, ◌++◌, length, take, drop}
use Rattle.std.proofs.Common.{replicate, nat_eq, refl, sym, ap, subst, ◌∙◌, arith, length-take-le, length-drop}
use Rattle.std.proofs.lemmas.List.{take-append-drop}
use Rattle.match_model.specs.Types.{MType}
use Rattle.match_model.specs.Declarations.{MProgram, node_types}
use Rattle.match_model.specs.Contexts.{Open}
use Rattle.match_model.specs.RustTypes.{rust_context, rust_arity, inner_type}
use Rattle.match_model.specs.Rows.{parts_open}
use Rattle.match_model.specs.Values.{MValue, Node, Point, Row, Flag, Num, Text, Thing, Later, Unseen, values_list}
use Rattle.match_model.specs.Constructors.{FixedShape, LongerShape, MCtor, SingleCtor, PointCtor, LaterCtor}
use Rattle.match_model.specs.Constructors.{OtherTextCtor, VariantCtor, FlagCtor, NumbersCtor, TextCtor, RowCtor}
use Rattle.match_model.specs.Constructors.{WildCtor, OrCtor, covers}
use Rattle.match_model.specs.Witness.{MWitness, NodeOf, PointOf, no_witnesses, witnesses_of, witnesses_list, fits}
use Rattle.match_model.specs.Witness.{all_fit, node_fits, point_fits, slice_fits}
use Rattle.match_model.specs.WitnessList.{witness_of}
use Rattle.match_model.specs.WitnessOrder.{Compared, Same, Before, NotBefore, and_then, compare_nat, compare_shape}
use Rattle.pattern_matrix.proofs.Comparing.{and_then-same}
use Rattle.witness_names.specs.Named.{types_there}
use Rattle.arm_maker.specs.Order.{compare_arm, compare_parts, compare_items}
use Rattle.arm_laws.specs.Takes.{takes, parts_take, items_take}
use Rattle.arm_laws.specs.Parted.{PartedOne, by_pieces, in_parts, Parted, at_head, behind}
use Rattle.arm_laws.proofs.Apart.{RowHas, is_proper, list_back}
use Rattle.arm_laws.proofs.Bases.{AreDisjoint, IsOpenCtor, first_takes_none}
use Rattle.arm_laws.proofs.Itself.{nat_same, shape_same, itself}
use Rattle.arm_laws.proofs.Stacks.{types, variant_types, single_types, row_types, items_compared, items_taken}
use Rattle.arm_laws.proofs.Stacks.{items_halves, fit_halves, compared_halves}

module _ (program : MProgram) where
  -- two pieces of a column: they have no value in common, are open beyond the literals, and their witnesses are
  -- told apart
  pub record IsApart (o : Open MType) (named : List (List ℕ)) (p q : MCtor) : Type 0 where
    pub disjoint : AreDisjoint named p q
    pub proper : (is_proper p ≡ true) × (is_proper q ≡ true)
    pub open_beyond : IsOpenCtor o.type p × IsOpenCtor o.type q
    pub forth : (ws us : List MWitness) → RowHas p (length ws) → RowHas q (length us) →
        compare_arm program o.type (witness_of p named ws) (witness_of q named us) ≡ Same → ⊥
    pub back : (ws us : List MWitness) → RowHas q (length ws) → RowHas p (length us) →
        compare_arm program o.type (witness_of q named ws) (witness_of p named us) ≡ Same → ⊥

  pub turned_pieces : (o : Open MType) (named : List (List ℕ)) (p q : MCtor) → IsApart o named p q → IsApart o named q
      p
  turned_pieces o named p q h = record {
    disjoint = λ v x y. h.disjoint v y x;
    proper = (h.proper.1, h.proper.0);
    open_beyond = (h.open_beyond.1, h.open_beyond.0);
    forth = h.back;
    back = h.forth;
  }

  -- the two are told apart, and where the first stands first, its arm takes nothing that fits the second
  abbrev pub AreTold : MType → MWitness → MWitness → Type 0
  AreTold t w u =
      (compare_arm program t w u ≡ Same → ⊥)
      × ((v : MValue) → compare_arm program t w u ≡ Before → takes program t w v ≡ true → fits u v ≡ true → ⊥)

  -- the same of two stacks
  abbrev pub AreToldAll : List MType → List MWitness → List MWitness → Type 0
  AreToldAll ts ws us =
      (compare_parts program ts (witnesses_of ws) (witnesses_of us) ≡ Same → ⊥)
      × ((vs : List MValue) → compare_parts program ts (witnesses_of ws) (witnesses_of us) ≡ Before →
      parts_take program ts (witnesses_of ws) vs ≡ true → all_fit (witnesses_of us) vs ≡ true → ⊥)

  both : (a b : Bool) → (a && b) ≡ true → (a ≡ true) × (b ≡ true)
  both true true e = (refl, refl)
  both true false e = absurd cc
  both false b e = absurd cc

  row_has : (t : MType) (p : MCtor) (n : ℕ) → n ≡ rust_arity program p t → RowHas p n
  row_has t SingleCtor n e = tt
  row_has t PointCtor n e = tt
  row_has t LaterCtor n e = tt
  row_has t OtherTextCtor n e = tt
  row_has t (VariantCtor k) n e = tt
  row_has t (FlagCtor b) n e = tt
  row_has t (NumbersCtor r) n e = tt
  row_has t (TextCtor y) n e = tt
  row_has t (RowCtor s) n e = e
  row_has t WildCtor n e = tt
  row_has t OrCtor n e = tt

  -- the first of two stacks differ
  head_told : (t : MType) (ts : List MType) (w u : MWitness) (ws us : List MWitness) → AreTold t w u →
      AreToldAll (t ∷ ts) (w ∷ ws) (u ∷ us)
  head_told t ts w u ws us h =
      (λ e. h.0 (same (compare_arm program t w u) e), λ vs c e f. go vs (compare_arm program t w u) refl c e f)
    where
      rest : Compared
      rest = compare_parts program ts (witnesses_of ws) (witnesses_of us)

      same : (c : Compared) → and_then c rest ≡ Same → c ≡ Same
      same Same e = refl
      same Before e = absurd cc
      same NotBefore e = absurd cc

      go : (vs : List MValue) (c : Compared) → compare_arm program t w u ≡ c → and_then c rest ≡ Before →
          parts_take program (t ∷ ts) (witnesses_of (w ∷ ws)) vs ≡ true → all_fit (witnesses_of (u ∷ us)) vs ≡ true → ⊥
      go [] c k d e f = absurd cc
      go (v ∷ vs) Same k d e f = h.0 k
      go (v ∷ vs) Before k d e f =
          h.1 v k (both (takes program t w v) (parts_take program ts (witnesses_of ws) vs) e).0
          (both (fits u v) (all_fit (witnesses_of us) vs) f).0
      go (v ∷ vs) NotBefore k d e f = absurd cc

  -- the first are one
  behind_told : (t : MType) (ts : List MType) (w : MWitness) (ws us : List MWitness) → AreToldAll ts ws us →
      AreToldAll (t ∷ ts) (w ∷ ws) (w ∷ us)
  behind_told t ts w ws us h =
      (λ e. h.0 (sym (gone) ∙ e), λ vs c e f. go vs (sym gone ∙ c) e f)
    where
      gone : compare_parts program (t ∷ ts) (witnesses_of (w ∷ ws)) (witnesses_of (w ∷ us)) ≡ compare_parts program ts
          (witnesses_of ws) (witnesses_of us)
      gone = ap (λ c. and_then c (compare_parts program ts (witnesses_of ws) (witnesses_of us))) (itself program t w)

      go : (vs : List MValue) → compare_parts program ts (witnesses_of ws) (witnesses_of us) ≡ Before →
          parts_take program (t ∷ ts) (witnesses_of (w ∷ ws)) vs ≡ true → all_fit (witnesses_of (w ∷ us)) vs ≡ true → ⊥
      go [] d e f = absurd cc
      go (v ∷ vs) d e f =
          h.1 vs d (both (takes program t w v) (parts_take program ts (witnesses_of ws) vs) e).1
          (both (fits w v) (all_fit (witnesses_of us) vs) f).1

  -- a node of a variant
  node_told : (t : MType) (k : ℕ) (ws us : List MWitness) → AreToldAll (types_there (node_types program t k)) ws us →
      AreTold t (NodeOf k (witnesses_of ws)) (NodeOf k (witnesses_of us))
  node_told t k ws us h = (λ e. h.0 (sym gone ∙ e), λ v c e f. go v (sym gone ∙ c) e f)
    where
      ts : List MType
      ts = types_there (node_types program t k)

      gone : and_then (compare_nat k k) (compare_parts program ts (witnesses_of ws) (witnesses_of us)) ≡ compare_parts
          program ts (witnesses_of ws) (witnesses_of us)
      gone = ap (λ c. and_then c (compare_parts program ts (witnesses_of ws) (witnesses_of us))) (nat_same k)

      go : (v : MValue) → compare_parts program ts (witnesses_of ws) (witnesses_of us) ≡ Before →
          node_fits k (λ vs. parts_take program ts (witnesses_of ws) vs) v ≡ true → node_fits k
          (λ vs. all_fit (witnesses_of us) vs) v ≡ true → ⊥
      go (Node j parts) c e f =
          h.1 (values_list parts) c (both (nat_eq k j) (parts_take program ts (witnesses_of ws) (values_list parts))
          e).1
          (both (nat_eq k j) (all_fit (witnesses_of us) (values_list parts)) f).1
      go (Flag b) c e f = absurd cc
      go (Num n) c e f = absurd cc
      go (Text y) c e f = absurd cc
      go (Point m v) c e f = absurd cc
      go (Row items) c e f = absurd cc
      go Thing c e f = absurd cc
      go Later c e f = absurd cc
      go Unseen c e f = absurd cc

  -- a reference
  point_told : (t : MType) (w u : MWitness) → AreToldAll (inner_type t ∷ []) (w ∷ []) (u ∷ []) →
      AreTold t (PointOf w) (PointOf u)
  point_told t w u h = (
    λ e. h.0 (and_then-same (compare_arm program (inner_type t) w u) ∙ e),
    λ v c e f. go v
        (and_then-same (compare_arm program (inner_type t) w u) ∙ c) e f,
  )
    where
      alone : (b : Bool) → b ≡ true → (b && true) ≡ true
      alone true e = refl
      alone false e = absurd cc

      go : (v : MValue) → compare_parts program (inner_type t ∷ []) (witnesses_of (w ∷ [])) (witnesses_of (u ∷ [])) ≡
          Before →
          point_fits (λ z. takes program (inner_type t) w z) v ≡ true → point_fits (λ z. fits u z) v ≡ true → ⊥
      go (Point m v) c e f =
          h.1 (v ∷ []) c (alone (takes program (inner_type t) w v) e) (alone (fits u v) f)
      go (Node j parts) c e f = absurd cc
      go (Flag b) c e f = absurd cc
      go (Num n) c e f = absurd cc
      go (Text y) c e f = absurd cc
      go (Row items) c e f = absurd cc
      go Thing c e f = absurd cc
      go Later c e f = absurd cc
      go Unseen c e f = absurd cc

  -- a row of one length
  fixed_told : (t : MType) (n : ℕ) (ws us : List MWitness) → length ws ≡ n → length us ≡ n →
      AreToldAll (replicate n (inner_type t)) ws us →
      AreTold t (witness_of (RowCtor (FixedShape n)) [] ws) (witness_of (RowCtor (FixedShape n)) [] us)
  fixed_told t n ws us l m h = (λ e. h.0 (sym gone ∙ e), λ v c e f. go v (sym gone ∙ c) e f)
    where
      i : MType
      i = inner_type t

      k : length (witnesses_list (witnesses_of ws)) ≡ n
      k = ap length (list_back ws) ∙ l

      j : length (witnesses_list (witnesses_of us)) ≡ n
      j = ap length (list_back us) ∙ m

      gone : and_then (compare_shape (length (witnesses_list (witnesses_of ws))) false 0
          (length (witnesses_list (witnesses_of us))) false 0)
          (and_then (compare_items program i (witnesses_of ws) (witnesses_of us)) Same)
          ≡ compare_parts program (replicate n i) (witnesses_of ws) (witnesses_of us)
      gone =
          subst (λ z. and_then (compare_shape z false 0 (length (witnesses_list (witnesses_of us))) false 0)
          (and_then (compare_items program i (witnesses_of ws) (witnesses_of us)) Same) ≡ compare_parts program
          (replicate n i) (witnesses_of ws) (witnesses_of us)) (sym k)
          (subst (λ z. and_then (compare_shape n false 0 z false 0)
          (and_then (compare_items program i (witnesses_of ws) (witnesses_of us)) Same) ≡ compare_parts program
          (replicate n i) (witnesses_of ws) (witnesses_of us)) (sym j)
          (ap (λ c. and_then c (and_then (compare_items program i (witnesses_of ws) (witnesses_of us)) Same))
          (shape_same n false 0)
          ∙ and_then-same (compare_items program i (witnesses_of ws) (witnesses_of us))
          ∙ items_compared program i ws us (l ∙ sym m)
          ∙ ap (λ z. compare_parts program (replicate z i) (witnesses_of ws) (witnesses_of us)) l))

      go : (v : MValue) → compare_parts program (replicate n i) (witnesses_of ws) (witnesses_of us) ≡ Before →
          slice_fits (length (witnesses_list (witnesses_of ws))) false 0
          (λ vs. items_take program i (witnesses_of ws) vs) (λ vs. items_take program i no_witnesses vs) v ≡ true →
          slice_fits (length (witnesses_list (witnesses_of us))) false 0 (λ vs. all_fit (witnesses_of us) vs)
          (λ vs. all_fit no_witnesses vs) v ≡ true → ⊥
      go (Row items) c e f =
          let vs = values_list items in
          let a = both (items_take program i (witnesses_of ws) (take (length (witnesses_list (witnesses_of ws))) vs))
          _ (both (covers (FixedShape (length (witnesses_list (witnesses_of ws)) + 0)) (length vs)) _ e).1 in
          let b = both (all_fit (witnesses_of us) (take (length (witnesses_list (witnesses_of us))) vs)) _
          (both (covers (FixedShape (length (witnesses_list (witnesses_of us)) + 0)) (length vs)) _ f).1 in
          h.1 (take n vs) c
          (subst (λ z. parts_take program (replicate z i) (witnesses_of ws) (take n vs) ≡ true) l
          (items_taken program i ws (take n vs) (subst (λ z. items_take program i (witnesses_of ws) (take z vs) ≡
          true) k a.0)))
          (subst (λ z. all_fit (witnesses_of us) (take z vs) ≡ true) j b.0)
      go (Node q parts) c e f = absurd cc
      go (Flag b) c e f = absurd cc
      go (Num x) c e f = absurd cc
      go (Text y) c e f = absurd cc
      go (Point m v) c e f = absurd cc
      go Thing c e f = absurd cc
      go Later c e f = absurd cc
      go Unseen c e f = absurd cc

  -- a row by its first and last items
  longer_told : (t : MType) (m b : ℕ) (ws us : List MWitness) → length ws ≡ m + b → length us ≡ m + b →
      AreToldAll (replicate (m + b) (inner_type t)) ws us →
      AreTold t (witness_of (RowCtor (LongerShape m b)) [] ws) (witness_of (RowCtor (LongerShape m b)) [] us)
  longer_told t m b ws us l k h = (λ e. h.0 (sym gone ∙ e), λ v c e f. go v (sym gone ∙ c) e f)
    where
      i : MType
      i = inner_type t

      fw : List MWitness
      fw = take m ws

      bw : List MWitness
      bw = drop m ws

      fu : List MWitness
      fu = take m us

      bu : List MWitness
      bu = drop m us

      lfw : length fw ≡ m
      lfw = length-take-le m ws (omega (arith, l))

      lfu : length fu ≡ m
      lfu = length-take-le m us (omega (arith, k))

      lbw : length bw ≡ b
      lbw = let d = length-drop m ws in omega (arith, d, l)

      lbu : length bu ≡ b
      lbu = let d = length-drop m us in omega (arith, d, k)

      wfw : length (witnesses_list (witnesses_of fw)) ≡ m
      wfw = ap length (list_back fw) ∙ lfw

      wfu : length (witnesses_list (witnesses_of fu)) ≡ m
      wfu = ap length (list_back fu) ∙ lfu

      wbw : length (witnesses_list (witnesses_of bw)) ≡ b
      wbw = ap length (list_back bw) ∙ lbw

      wbu : length (witnesses_list (witnesses_of bu)) ≡ b
      wbu = ap length (list_back bu) ∙ lbu

      wholes : fw ++ bw ≡ ws
      wholes = take-append-drop m ws

      wholes_too : fu ++ bu ≡ us
      wholes_too = take-append-drop m us

      inside : Compared
      inside = and_then (compare_items program i (witnesses_of fw) (witnesses_of fu))
          (compare_items program i (witnesses_of bw) (witnesses_of bu))

      inside_is : inside ≡ compare_parts program (replicate (m + b) i) (witnesses_of ws) (witnesses_of us)
      inside_is =
          compared_halves program i fw fu bw bu (lfw ∙ sym lfu)
          ∙ subst (λ z. compare_items program i (witnesses_of (fw ++ bw)) (witnesses_of (fu ++ bu)) ≡ compare_items
          program i (witnesses_of z) (witnesses_of us)) wholes
          (ap (λ z. compare_items program i (witnesses_of (fw ++ bw)) (witnesses_of z)) wholes_too)
          ∙ items_compared program i ws us (l ∙ sym k)
          ∙ ap (λ z. compare_parts program (replicate z i) (witnesses_of ws) (witnesses_of us)) l

      shaped : (a c d e : ℕ) → a ≡ m → c ≡ b → d ≡ m → e ≡ b → compare_shape a true c d true e ≡ Same
      shaped a c d e p q r s =
          ap (λ z. compare_shape z true c d true e) p ∙ ap (λ z. compare_shape m true z d true e) q
          ∙ ap (λ z. compare_shape m true b z true e) r ∙ ap (λ z. compare_shape m true b m true z) s ∙ shape_same m
          true b

      gone : and_then (compare_shape (length (witnesses_list (witnesses_of fw))) true
          (length (witnesses_list (witnesses_of bw))) (length (witnesses_list (witnesses_of fu))) true
          (length (witnesses_list (witnesses_of bu)))) inside
          ≡ compare_parts program (replicate (m + b) i) (witnesses_of ws) (witnesses_of us)
      gone =
          ap (λ c. and_then c inside) (shaped (length (witnesses_list (witnesses_of fw)))
          (length (witnesses_list (witnesses_of bw))) (length (witnesses_list (witnesses_of fu)))
          (length (witnesses_list (witnesses_of bu))) wfw wbw wfu wbu)
          ∙ inside_is

      go : (v : MValue) → compare_parts program (replicate (m + b) i) (witnesses_of ws) (witnesses_of us) ≡ Before →
          slice_fits (length (witnesses_list (witnesses_of fw))) true (length (witnesses_list (witnesses_of bw)))
          (λ vs. items_take program i (witnesses_of fw) vs) (λ vs. items_take program i (witnesses_of bw) vs) v ≡
          true →
          slice_fits (length (witnesses_list (witnesses_of fu))) true (length (witnesses_list (witnesses_of bu)))
          (λ vs. all_fit (witnesses_of fu) vs) (λ vs. all_fit (witnesses_of bu) vs) v ≡ true → ⊥
      go (Row items) c e f =
          let vs = values_list items in
          let n = length vs in
          let a = both (items_take program i (witnesses_of fw) (take (length (witnesses_list (witnesses_of fw))) vs))
          (items_take program i (witnesses_of bw) (drop (n - length (witnesses_list (witnesses_of bw))) vs))
          (both (covers (LongerShape (length (witnesses_list (witnesses_of fw)))
          (length (witnesses_list (witnesses_of bw)))) n) _ e).1 in
          let d = both (all_fit (witnesses_of fu) (take (length (witnesses_list (witnesses_of fu))) vs))
          (all_fit (witnesses_of bu) (drop (n - length (witnesses_list (witnesses_of bu))) vs))
          (both (covers (LongerShape (length (witnesses_list (witnesses_of fu)))
          (length (witnesses_list (witnesses_of bu)))) n) _ f).1 in
          let xs = take m vs ++ drop (n - b) vs in
          let taken : items_take program i (witnesses_of (fw ++ bw)) xs ≡ true =
          items_halves program i fw bw (take m vs) (drop (n - b) vs)
          (subst (λ z. items_take program i (witnesses_of fw) (take z vs) ≡ true) wfw a.0)
          (subst (λ z. items_take program i (witnesses_of bw) (drop (n - z) vs) ≡ true) wbw a.1) in
          let fit : all_fit (witnesses_of (fu ++ bu)) xs ≡ true =
          fit_halves fu bu (take m vs) (drop (n - b) vs) (subst (λ z. all_fit (witnesses_of fu) (take z vs) ≡ true)
          wfu d.0)
          (subst (λ z. all_fit (witnesses_of bu) (drop (n - z) vs) ≡ true) wbu d.1) in
          h.1 xs c
          (subst (λ z. parts_take program (replicate z i) (witnesses_of ws) xs ≡ true) l
          (items_taken program i ws xs (subst (λ z. items_take program i (witnesses_of z) xs ≡ true) wholes taken)))
          (subst (λ z. all_fit (witnesses_of z) xs ≡ true) wholes_too fit)
      go (Node q parts) c e f = absurd cc
      go (Flag x) c e f = absurd cc
      go (Num x) c e f = absurd cc
      go (Text y) c e f = absurd cc
      go (Point q v) c e f = absurd cc
      go Thing c e f = absurd cc
      go Later c e f = absurd cc
      go Unseen c e f = absurd cc

  -- one piece over parts that differ
  parts_told : (o : Open MType) (p : MCtor) (named : List (List ℕ)) (ws us : List MWitness) →
      length ws ≡ rust_arity program p o.type → length us ≡ rust_arity program p o.type →
      Parted (rust_context program) IsApart (parts_open (rust_context program) o p) ws us →
      AreToldAll (types (parts_open (rust_context program) o p)) ws us →
      AreTold o.type (witness_of p named ws) (witness_of p named us)
  parts_told o SingleCtor named ws us l m d h =
      node_told o.type 0 ws us (subst (λ ts. AreToldAll ts ws us) (single_types program o) h)
  parts_told o (VariantCtor k) named ws us l m d h =
      node_told o.type k ws us (subst (λ ts. AreToldAll ts ws us) (variant_types program o k) h)
  parts_told o PointCtor named (w ∷ []) (u ∷ []) l m d h = point_told o.type w u h
  parts_told o PointCtor named [] us l m d h = absurd (omega (arith, l))
  parts_told o PointCtor named (w ∷ x ∷ ws) us l m d h = absurd (omega (arith, l))
  parts_told o PointCtor named (w ∷ []) [] l m d h = absurd (omega (arith, m))
  parts_told o PointCtor named (w ∷ []) (u ∷ x ∷ us) l m d h = absurd (omega (arith, m))
  parts_told o (RowCtor (FixedShape n)) named ws us l m d h =
      fixed_told o.type n ws us l m (subst (λ ts. AreToldAll ts ws us) (row_types program o (FixedShape n)) h)
  parts_told o (RowCtor (LongerShape f b)) named ws us l m d h =
      longer_told o.type f b ws us l m (subst (λ ts. AreToldAll ts ws us) (row_types program o (LongerShape f b)) h)
  parts_told o LaterCtor named ws us l m d h = elim d [ ]
  parts_told o OtherTextCtor named ws us l m d h = elim d [ ]
  parts_told o WildCtor named ws us l m d h = elim d [ ]
  parts_told o OrCtor named ws us l m d h = elim d [ ]
  parts_told o (FlagCtor x) named ws us l m d h = elim d [ ]
  parts_told o (NumbersCtor r) named ws us l m d h = elim d [ ]
  parts_told o (TextCtor y) named ws us l m d h = elim d [ ]

  mutual
    pub one_told : {o : Open MType} {w u : MWitness} → PartedOne (rust_context program) IsApart o w u → AreTold o.type
        w u
    one_told (by_pieces o named p q ws us h l m) =
        let i = row_has o.type p (length ws) l in
        let j = row_has o.type q (length us) m in (
          h.forth ws us i j,
          λ v c e f. first_takes_none program o.type named p q ws us v h.disjoint i j h.proper.0 h.proper.1
              h.open_beyond.0 h.open_beyond.1 c e f,
        )
    one_told (in_parts o p named ws us l m d) = parts_told o p named ws us l m d (stack_told d)

    pub stack_told : {places : List (Open MType)} {ws us : List MWitness} →
        Parted (rust_context program) IsApart places ws us → AreToldAll (types places) ws us
    stack_told (at_head o places w u ws us d) = head_told o.type (types places) w u ws us (one_told d)
    stack_told (behind o places w ws us d) = behind_told o.type (types places) w ws us (stack_told d)
