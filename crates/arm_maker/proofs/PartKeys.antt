-- The numbers of what is left of a list.
use Rattle.std.proofs.Common.{◌≡◌, ℕ, suc, ◌+◌, ◌<◌, ◌≤◌, ℤ, pos, true, List, [], ◌∷◌, ◌++◌, map, length, drop, get_or, Option, Some, refl, sym, ap, ◌∙◌, append_assoc}
use Rattle.std.proofs.lemmas.List.{drop_all}
use Rattle.match_model.specs.Types.{MType, MTypes}
use Rattle.match_model.specs.Declarations.{MProgram}
use Rattle.match_model.specs.RustTypes.{count_of_types, inner_type}
use Rattle.match_model.specs.Witness.{MWitness, MWitnesses, RowOf, no_witnesses, more_witnesses, witnesses_list, witnesses_of}
use Rattle.type_table.specs.Tables.{part_of}
use Rattle.witnesses.specs.Views.{plain_witness}
use Rattle.witnesses.specs.declared.witness.Witness.{Witness}
use Rattle.witness_names.specs.Named.{types_there}
use Rattle.witness_names.proofs.PartLists.{types_from, types_past}
use Rattle.witness_names.specs.Lookups.{front_of, back_of}
use Rattle.arm_maker.specs.Keys.{arm_key, parts_key, items_key, is_row, ends_count}
use Rattle.arm_maker.proofs.Rests.{rest_from}

-- numbers go from what is left to what is there
pub moved : (before after xs rest left all : List ℤ) → after ≡ before ++ xs → rest ≡ xs ++ left → before ++ rest ≡ all →
    after ++ left ≡ all
moved before after xs rest left all a r h =
    ap (λ z. z ++ left) a ∙ (append_assoc before xs left ∙ (ap (λ z. before ++ z) (sym r) ∙ h))

-- the numbers of the parts from one of them on, the first of which has this number
abbrev pub keys_from : MProgram → Option MTypes → List Witness → (i k : ℕ) → List ℤ
keys_from program o ps i k = parts_key program (drop i (types_there o)) (witnesses_of (map plain_witness (drop k ps)))

module _ (program : MProgram) (o : Option MTypes) (ps : List Witness) (i k : ℕ) where
  -- the first of the rest has its type
  pub next_part : (p : Witness) (t : MType) → k < length ps → p ≡ get_or ps k p → part_of o i ≡ Some t →
      keys_from program o ps i k ≡ arm_key program t (plain_witness p) ++ keys_from program o ps (suc i) (k + 1)
  next_part p t below is h =
      ap (λ (qs : List Witness). parts_key program (drop i (types_there o)) (witnesses_of (map plain_witness qs)))
      (rest_from ps k p below is)
      ∙ ap (λ ts. parts_key program ts (more_witnesses (plain_witness p)
      (witnesses_of (map plain_witness (drop (k + 1) ps))))) (types_from o i t h)

  no_types_left : (us : MWitnesses) → parts_key program [] us ≡ []
  no_types_left no_witnesses = refl
  no_types_left (more_witnesses u us) = refl

  -- without a type there are none
  pub no_part : count_of_types o ≤ i → keys_from program o ps i k ≡ []
  no_part h = let us = witnesses_of (map plain_witness (drop k ps)) in ap (λ ts. parts_key program ts us)
      (types_past o i h) ∙ no_types_left us

  no_parts_left : (ts : List MType) → parts_key program ts no_witnesses ≡ []
  no_parts_left [] = refl
  no_parts_left (t ∷ ts) = refl

  -- nor without a witness
  pub no_witness : length ps ≤ k → keys_from program o ps i k ≡ []
  no_witness h =
      ap (λ (qs : List Witness). parts_key program (drop i (types_there o)) (witnesses_of (map plain_witness qs)))
      (drop_all k ps h)
      ∙ no_parts_left (drop i (types_there o))

-- the items of a row
abbrev pub plain_items : List Witness → MWitnesses
plain_items ws = witnesses_of (map plain_witness ws)

pub items_counted : (ws : List Witness) → length (witnesses_list (plain_items ws)) ≡ length ws
items_counted [] = refl
items_counted (w ∷ ws) = ap suc (items_counted ws)

-- the numbers of a row, one after the other
pub row_added : (program : MProgram) (t : MType) (k0 k1 k2 k3 : List ℤ) (w : MWitness) (u : MType) → is_row w ≡ true →
    u ≡ inner_type t → k1 ≡ k0 ++ (pos (ends_count w) ∷ []) → k2 ≡ k1 ++ items_key program u (front_of w) →
    k3 ≡ k2 ++ items_key program u (back_of w) → k3 ≡ k0 ++ arm_key program t w
row_added program t k0 k1 k2 k3 (RowOf front longer back) u is inner e f g =
    let fs = items_key program u front in
    let bs = items_key program u back in
    let n : List ℤ = pos (length (witnesses_list front) + length (witnesses_list back)) ∷ [] in
    g ∙ ap (λ z. z ++ bs) (f ∙ ap (λ z. z ++ fs) e)
    ∙ append_assoc (k0 ++ n) fs bs ∙ append_assoc k0 n (fs ++ bs)
    ∙ ap (λ v. k0 ++ (n ++ (items_key program v front ++ items_key program v back))) inner
row_added program t k0 k1 k2 k3 _ u is inner e f g = absurd cc
