-- In the order of arms, the arm for a witness of a match takes nothing that fits a later one.
use Rattle.std.proofs.Common.{◌≡◌, ◌⊎◌, inl, inr, Bool, true, false, ◌&&◌, List, [], ◌∷◌, map, IsTrue, refl, sym}
use Rattle.std.proofs.Common.{subst, ◌∙◌}
use Rattle.std.specs.List.{All, flat_map}
use Rattle.std.proofs.lemmas.List.Elements.{All-head, All-tail}
use Rattle.match_model.specs.Types.{MType}
use Rattle.match_model.specs.Declarations.{MProgram}
use Rattle.match_model.specs.Constructors.{MCtor, belongs}
use Rattle.match_model.specs.Contexts.{Open}
use Rattle.match_model.specs.ArenaPatterns.{MDeMatch}
use Rattle.match_model.specs.Emptiness.{IsRustType}
use Rattle.match_model.specs.Lists.{Among, Every, Ordered}
use Rattle.match_model.specs.RustTypes.{rust_context, rust_set, IsSoundProgram, RustValue}
use Rattle.match_model.specs.Witness.{MWitness, fits}
use Rattle.match_model.specs.WitnessList.{IsWitnessList, nothing_to_match, by_rows, row_of, named_in}
use Rattle.match_model.specs.WitnessOrder.{Same, Before}
use Rattle.match_model.proofs.RustValues.{rust_values_law}
use Rattle.match_model.proofs.RustParts.{rust_parts}
use Rattle.constructor_sets.specs.Columns.{AreColumnPieces}
use Rattle.constructor_sets.proofs.InOrder.{in_order_of}
use Rattle.pattern_matrix.proofs.Comparing.{and_then-same}
use Rattle.pattern_matrix.proofs.Covers.{rows_made, rows_typed}
use Rattle.pattern_matrix.proofs.Whole.{arms_typed}
use Rattle.arm_maker.specs.Order.{ArmFirst, compare_arm}
use Rattle.arm_laws.specs.TakingLaws.{TakesNone, EarlierTakesNone}
use Rattle.arm_laws.specs.Near.{AreNear, IsNearList}
use Rattle.arm_laws.specs.Parted.{StandsBefore, first, later, Parted}
use Rattle.arm_laws.specs.Takes.{takes}
use Rattle.arm_laws.proofs.Differing.{IsApart, turned_pieces, stack_told}
use Rattle.arm_laws.proofs.Disjoint.{earlier, both_proper, none_common, told_forth, told_back}
use Rattle.arm_laws.proofs.Itself.{itself}
use Rattle.arm_laws.proofs.Near.{open_piece}
use Rattle.arm_laws.proofs.Nodes.{arms_nodes}
use Rattle.arm_laws.proofs.Parting.{ArePartedFrom, ArePartedAll, stacks_parted, turn}

among_all : {A : Type 0} (P : A → Type 0) (xs : List A) (x : A) → All P xs → Among x xs → P x
among_all P [] x h a = absurd a
among_all P (y ∷ xs) x h (inl e) = subst P (sym e) (All-head P y xs h)
among_all P (y ∷ xs) x h (inr a) = among_all P xs x (All-tail P y xs h) a

both_among : (p q : MCtor) (pieces : List MCtor) → StandsBefore p q pieces → Among p pieces × Among q pieces
both_among p q pieces (first rest a) = (inl refl, inr a)
both_among p q pieces (later c rest s) = let r = both_among p q rest s in (inr r.0, inr r.1)

not_before : Same ≡ Before → ⊥
not_before e = cc

module _ (program : MProgram) (sound : IsSoundProgram program) where
  -- what holds of two pieces of a column whose heads have near ends
  pieces_apart : (o : Open MType) (heads pieces : List MCtor) (p q : MCtor) → IsRustType program o.type →
      Every (AreNear o.type) heads → AreColumnPieces (rust_set program o.type) heads pieces →
      StandsBefore p q pieces → IsApart program o (named_in pieces) p q
  pieces_apart o heads pieces p q d h c s =
      let values = rust_values_law program in
      let asc = values.ascend o.type d in
      let e = earlier p q pieces
      (in_order_of (rust_set program o.type) heads pieces (values.made o.type d) asc c.listed) s in
      let a = both_among p q pieces s in
      record {
        disjoint = λ v x y. none_common (rust_set program o.type) heads pieces p q asc c.listed
            (among_all (λ r. IsTrue (belongs (rust_set program o.type) r)) pieces p c.belong a.0) s e v x y;
        proper = both_proper p q e;
        open_beyond = (
          open_piece program o.type heads pieces p c.listed h a.0,
          open_piece program o.type heads pieces
              q c.listed h a.1,
        );
        forth = λ ws us l k. told_forth program o.type (named_in pieces) p q e ws us l k;
        back = λ ws us l k. told_back program o.type (named_in pieces) p q e us ws k l;
      }

  -- stacks of one witness each
  abbrev AreParted : Open MType → MWitness → MWitness → Type 0
  AreParted o w u = Parted (rust_context program) (IsApart program) (o ∷ []) (w ∷ []) (u ∷ [])

  from_one : (o : Open MType) (w : MWitness) (ws : List MWitness) →
      ArePartedFrom (rust_context program) (IsApart program) (o ∷ []) (w ∷ []) (map (λ z. z ∷ []) ws) →
      (u : MWitness) → Among u ws → AreParted o w u
  from_one o w [] h u a = absurd a
  from_one o w (x ∷ ws) h u (inl e) = subst (AreParted o w) (sym e) h.0
  from_one o w (x ∷ ws) h u (inr a) = from_one o w ws h.1 u a

  -- any two witnesses are one, or parted
  any_two : (o : Open MType) (ws : List MWitness) →
      ArePartedAll (rust_context program) (IsApart program) (o ∷ []) (map (λ z. z ∷ []) ws) → (w u : MWitness) →
      Among w ws → Among u ws → (w ≡ u) ⊎ AreParted o w u
  any_two o [] h w u a b = absurd a
  any_two o (x ∷ ws) h w u (inl e) (inl f) = inl (e ∙ sym f)
  any_two o (x ∷ ws) h w u (inl e) (inr b) = inr (subst (λ z. AreParted o z u) (sym e) (from_one o x ws h.0 u b))
  any_two o (x ∷ ws) h w u (inr a) (inl f) =
      inr (turn (rust_context program) (IsApart program) (turned_pieces program)
      (subst (λ z. AreParted o z w) (sym f) (from_one o x ws h.0 w a)))
  any_two o (x ∷ ws) h w u (inr a) (inr b) = any_two o ws h.1 w u a b

  with_true : (b : Bool) → b ≡ true → (b && true) ≡ true
  with_true true e = refl
  with_true false e = absurd cc

  -- of two of a list the one that stands first takes nothing that fits the other
  pair_taken : (o : Open MType) (w u : MWitness) → (w ≡ u) ⊎ AreParted o w u → ArmFirst program o.type w u →
      TakesNone program o.type w u
  pair_taken o w u (inl e) f v x y =
      not_before (sym (itself program o.type w) ∙ subst (λ z. compare_arm program o.type w z ≡ Before) (sym e) f)
  pair_taken o w u (inr d) f v x y =
      (stack_told program d).1 (v ∷ []) (and_then-same (compare_arm program o.type w u) ∙ f)
      (with_true (takes program o.type w v) x) (with_true (fits u v) y)

  parted_list : (m : MDeMatch MType) (ws : List MWitness) → IsNearList program m ws → (w u : MWitness) →
      Among w ws → Among u ws → (w ≡ u) ⊎ AreParted (record { type = m.type; sure = m.sure }) w u
  parted_list m ws h w u a b = go ws h.listed a b
    where
      go : (ws : List MWitness) → IsWitnessList (rust_context program) (RustValue program) m ws → Among w ws → Among u
          ws →
          (w ≡ u) ⊎ AreParted (record { type = m.type; sure = m.sure }) w u
      go ws (nothing_to_match f) a b = absurd a
      go ws (by_rows x us i n k) a b =
          let values = rust_values_law program in
          let parts = rust_parts program sound in
          let cx = rust_context program in
          any_two (record { type = m.type; sure = m.sure }) us
          (stacks_parted cx (IsApart program) (IsRustType program) (RustValue program) values parts AreNear
          pieces_apart
          (record { type = m.type; sure = m.sure } ∷ []) (flat_map row_of m.arms) (map (λ z. z ∷ []) us) k (h.type, tt)
          (rows_typed (IsRustType program) (RustValue program) cx values parts m m.arms
          (arms_typed cx m.type m.arms h.typed))
          (rows_made (IsRustType program) (RustValue program) cx values parts m.arms h.made)
          (arms_nodes AreNear m.arms h.near)) w u a b

  every_pair : (R S : MWitness → MWitness → Type 0) (all : List MWitness) →
      ((w u : MWitness) → Among w all → Among u all → R w u → S w u) → (ws : List MWitness) →
      ((w : MWitness) → Among w ws → Among w all) → Ordered R ws → Ordered S ws
  every_pair R S all f [] sub o = tt
  every_pair R S all f (w ∷ ws) sub o =
      (each w (sub w (inl refl)) ws (λ u a. sub u (inr a)) o.0, every_pair R S all f ws (λ u a. sub u (inr a)) o.1)
    where
      each : (w : MWitness) → Among w all → (us : List MWitness) → ((u : MWitness) → Among u us → Among u all) →
          Every (R w) us → Every (S w) us
      each w a [] sub h = tt
      each w a (u ∷ us) sub h = (f w u a (sub u (inl refl)) h.0, each w a us (λ z b. sub z (inr b)) h.1)

pub earlier_takes_none : EarlierTakesNone
earlier_takes_none program m witnesses sorted sound h order =
    every_pair program sound (ArmFirst program m.type) (TakesNone program m.type) witnesses
    (λ w u a b f. pair_taken program sound (record { type = m.type; sure = m.sure }) w u
    (parted_list program sound m witnesses h w u a b) f)
    sorted order.same.back order.ordered
