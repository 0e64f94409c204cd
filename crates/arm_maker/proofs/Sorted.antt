-- Witnesses that were sorted by their numbers are in the order of arms.
use Rattle.std.proofs.Common.{◌≡◌, ◌⊎◌, inl, inr, zero, suc, true, false, List, [], ◌∷◌, map, get_or, sym, ap, subst, ◌∙◌, arith, true≢false, All, IsPermutation, IsSortedBy, is_lt}
use Rattle.std.proofs.lemmas.Cmp.{int_cmp_total}
use Rattle.std.proofs.lemmas.List.Sorted.{ranks_by, sorted_far, IsPermutation-keeps, IsPermutation-map, IsPermutation-sym, Contains-permutation, All-permutation}
use Rattle.std.specs.declared.cmp.Ordering.TheVariants.{Less}
use Rattle.std.specs.Cmp.{IsTotalOrder, on_total}
use Rattle.std.specs.Cmp.Lexicographic.{slice_cmp, lists_total}
use Rattle.std.specs.Ordering.{int_cmp}
use Rattle.match_model.specs.Declarations.{MProgram}
use Rattle.match_model.specs.Lists.{Every, Ordered}
use Rattle.match_model.specs.Types.{MType}
use Rattle.match_model.specs.Witness.{MWitness}
use Rattle.match_model.specs.WitnessOrder.{Before, compare_witness}
use Rattle.keyed_rows.proofs.Members.{among-contains, contains-among}
use Rattle.witnesses.specs.declared.witness.Witness.{Witness}
use Rattle.witnesses.specs.Views.{plain_witness}
use Rattle.arm_maker.specs.declared.order.Turn.{Turn}
use Rattle.arm_maker.specs.Keys.{arm_key}
use Rattle.arm_maker.specs.Order.{compare_arm, ArmFirst, AreInArmOrder, IsOneFirst}
use Rattle.arm_maker.specs.Turns.{values, turn_cmp, turn_witnesses, turn_witness, HasKey}
use Rattle.arm_maker.proofs.Agreeing.{Agrees}
use Rattle.arm_maker.proofs.Apart.{AreApart, ordered_apart, pairs_ordered, exchanged}
use Rattle.arm_maker.proofs.KeysAgree.{keys_agree}
use Rattle.arm_maker.proofs.Lower.{Lower, lower_less}
use Rattle.arm_maker.proofs.Typed.{IsOfType}

pub turns_total : IsTotalOrder {K = Turn} turn_cmp
turns_total = on_total (λ (x : Turn). values x.key.items) (lists_total int_cmp_total)

module _ (program : MProgram) (t : MType) where
  -- one of the two comes first
  abbrev AreTold : Turn → Turn → Type 0
  AreTold x y = IsOneFirst (turn_witness x) (turn_witness y)

  -- the first one comes first among arms
  abbrev IsFirst : Turn → Turn → Type 0
  IsFirst x y = ArmFirst program t (turn_witness x) (turn_witness y)

  -- the witness of the turn is of the type
  abbrev IsTyped : Turn → Type 0
  IsTyped x = IsOfType program t (turn_witness x)

  either : (x y : Turn) → AreTold x y → AreTold y x
  either x y (inl a) = inr a
  either x y (inr a) = inl a

  apart_kept : (old new : List Turn) → IsPermutation old new → AreApart AreTold old → AreApart AreTold new
  apart_kept old new moved p =
      IsPermutation-keeps old (AreApart AreTold) p (λ l i j u v q. exchanged AreTold l i j u v q) new moved

  ordered_turns : (xs : List Turn) → Ordered IsOneFirst (turn_witnesses xs) → Ordered AreTold xs
  ordered_turns [] o = tt
  ordered_turns (x ∷ xs) o = (each xs o.0, ordered_turns xs o.1)
    where
      each : (ys : List Turn) → Every (IsOneFirst (turn_witness x)) (turn_witnesses ys) → Every (AreTold x) ys
      each [] h = tt
      each (y ∷ ys) h = (h.0, each ys h.1)

  ordered_witnesses : (xs : List Turn) → Ordered IsFirst xs → Ordered (ArmFirst program t) (turn_witnesses xs)
  ordered_witnesses [] o = tt
  ordered_witnesses (x ∷ xs) o = (each xs o.0, ordered_witnesses xs o.1)
    where
      each : (ys : List Turn) → Every (IsFirst x) ys → Every (ArmFirst program t (turn_witness x)) (turn_witnesses ys)
      each [] h = tt
      each (y ∷ ys) h = (h.0, each ys h.1)

  -- each turn has a witness of the type, where all witnesses are
  turns_typed : (xs : List Turn) (ws : List Witness) → turn_witnesses xs ≡ map plain_witness ws →
      All (λ w. IsOfType program t (plain_witness w)) ws → All IsTyped xs
  turns_typed [] ws e a i d l = absurd (omega (arith, l))
  turns_typed (x ∷ xs) [] e a i d l = absurd cc
  turns_typed (x ∷ xs) (w ∷ ws) e a zero d l =
      let s : turn_witness x ≡ plain_witness w = cc in
      subst (IsOfType program t) (sym s) (a 0 w (omega arith))
  turns_typed (x ∷ xs) (w ∷ ws) e a (suc i) d l =
      let s : turn_witnesses xs ≡ map plain_witness ws = cc in
      turns_typed xs ws s (λ j f m. a (suc j) f (omega (arith, m))) i d (omega (arith, l))

  -- a turn with lower numbers compares as less
  less_turn : (x y : Turn) → HasKey program t x → HasKey program t y →
      Lower (arm_key program t (turn_witness x)) (arm_key program t (turn_witness y)) → turn_cmp x y ≡ Less
  less_turn x y h k l =
      ap (λ z. slice_cmp int_cmp z (values y.key.items)) h
      ∙ ap (λ z. slice_cmp int_cmp (arm_key program t (turn_witness x)) z) k
      ∙ lower_less (arm_key program t (turn_witness x)) (arm_key program t (turn_witness y)) l

  -- of two witnesses of which one is first, the one with lower numbers is first among arms
  told : (w u : MWitness) → IsOfType program t w → IsOfType program t u → compare_witness w u ≡ Before →
      ((compare_arm program t w u ≡ Before) × Lower (arm_key program t w) (arm_key program t u))
      ⊎ ((compare_arm program t u w ≡ Before) × Lower (arm_key program t u) (arm_key program t w))
  told w u h g e =
      subst (λ c. Agrees c (compare_arm program t w u) (compare_arm program t u w) (arm_key program t w)
      (arm_key program t u)) e
      (keys_agree program t w u h g)

  -- of two sorted turns the first comes first, where one does
  first_of : (x y : Turn) → HasKey program t x → HasKey program t y → IsTyped x → IsTyped y → is_lt (turn_cmp y x)
      ≡ false →
      AreTold x y → IsFirst x y
  first_of x y h k p q e (inl a) = pick (told (turn_witness x) (turn_witness y) p q a)
    where
      pick : ((compare_arm program t (turn_witness x) (turn_witness y) ≡ Before)
          × Lower (arm_key program t (turn_witness x)) (arm_key program t (turn_witness y)))
          ⊎ ((compare_arm program t (turn_witness y) (turn_witness x) ≡ Before)
          × Lower (arm_key program t (turn_witness y)) (arm_key program t (turn_witness x))) → IsFirst x y
      pick (inl b) = b.0
      pick (inr b) = absurd (true≢false (sym (ap is_lt (less_turn y x k h b.1)) ∙ e))
  first_of x y h k p q e (inr a) = pick (told (turn_witness y) (turn_witness x) q p a)
    where
      pick : ((compare_arm program t (turn_witness y) (turn_witness x) ≡ Before)
          × Lower (arm_key program t (turn_witness y)) (arm_key program t (turn_witness x)))
          ⊎ ((compare_arm program t (turn_witness x) (turn_witness y) ≡ Before)
          × Lower (arm_key program t (turn_witness x)) (arm_key program t (turn_witness y))) → IsFirst x y
      pick (inl b) = absurd (true≢false (sym (ap is_lt (less_turn y x k h b.1)) ∙ e))
      pick (inr b) = b.0

  sorted : (old new : List Turn) → All (HasKey program t) old → All IsTyped old → Ordered IsOneFirst
      (turn_witnesses old) →
      IsPermutation old new → IsSortedBy (λ x y. is_lt (turn_cmp x y)) new →
      AreInArmOrder program t (turn_witnesses old) (turn_witnesses new)
  sorted old new keys typed parted moved up = record {
    same = record {
      forth = λ r a. contains-among (turn_witnesses new) r
          (Contains-permutation (turn_witnesses old) (turn_witnesses new) r witnesses_moved
          (among-contains (turn_witnesses old) r a));
      back = λ r a. contains-among (turn_witnesses old) r
          (Contains-permutation (turn_witnesses new) (turn_witnesses old) r
          (IsPermutation-sym (turn_witnesses old) (turn_witnesses new) witnesses_moved)
          (among-contains (turn_witnesses new) r a));
    };
    ordered = ordered_witnesses new (pairs_ordered IsFirst new
        (λ i j d l m. first_of (get_or new i d) (get_or new j d)
        (kept i d (omega (arith, l, m))) (kept j d m) (typed_kept i d (omega (arith, l, m))) (typed_kept j d m)
        (sorted_far (λ x y. is_lt (turn_cmp x y)) (ranks_by turns_total (λ x. x)) new up i j d (omega (arith, l)) m)
        (apart i j d (omega (arith, l, m)) m (λ e. absurd (omega (arith, l, e))))));
  }
    where
      witnesses_moved : IsPermutation (turn_witnesses old) (turn_witnesses new)
      witnesses_moved = IsPermutation-map turn_witness old new moved

      kept : All (HasKey program t) new
      kept = All-permutation (HasKey program t) old new moved keys

      typed_kept : All IsTyped new
      typed_kept = All-permutation IsTyped old new moved typed

      apart : AreApart AreTold new
      apart = apart_kept old new moved (ordered_apart AreTold either old (ordered_turns old parted))

  pub turns_sorted : (old new : List Turn) (ws : List Witness) → turn_witnesses old ≡ map plain_witness ws →
      All (λ w. IsOfType program t (plain_witness w)) ws → All (HasKey program t) old →
      Ordered IsOneFirst (map plain_witness ws) → IsPermutation old new → IsSortedBy (λ x y. is_lt (turn_cmp x y)) new →
      AreInArmOrder program t (map plain_witness ws) (turn_witnesses new)
  turns_sorted old new ws same typed keys parted moved up =
      subst (λ (vs : List MWitness). AreInArmOrder program t vs (turn_witnesses new)) same
      (sorted old new keys (turns_typed old ws same typed)
      (subst (λ (vs : List MWitness). Ordered IsOneFirst vs) (sym same) parted) moved up)
