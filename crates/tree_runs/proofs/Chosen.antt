-- The branch that a switch takes.
use Rattle.std.proofs.Common.{◌≡◌, ◌⊎◌, inl, inr, ℕ, Bool, true, ◌&&◌, List, map, Option, Some, None, slice_get, count_by, nat_eq, refl, sym, ap, ◌∙◌, lit<}
use Rattle.std.specs.Option.{option_or}
use Rattle.std.specs.Prelude.{IsTrue, option_map}
use Rattle.std.specs.List.{find, Contains}
use Rattle.std.proofs.lemmas.Option.{slice_get-map, slice_get_within, get_or_from_slice_get}
use Rattle.match_model.specs.Values.{MValue}
use Rattle.match_model.specs.Places.{MStep, part_at}
use Rattle.match_model.specs.Trees.{MBranch, case_has, is_else, number_for, number_at, branch_at, one_has, is_decided}
use Rattle.match_model.proofs.Basics.{either, both, nat_equal, untrue}
use Rattle.tree_runs.specs.Turns.{branch_for}
use Rattle.tree_runs.proofs.Found.{found_numbered, none_numbered, some_found}

module _ (u : MValue) (bs : List MBranch) where
  abbrev Has : MBranch → Bool
  Has b = case_has b.case u

  abbrev Others : MBranch → Bool
  Others b = is_else b.case

  -- the number and the branch go together
  pub record IsChosen (b : MBranch) : Type 0 where
    pub number : ℕ
    pub first : number_for u bs ≡ Some number
    pub there : slice_get bs number ≡ Some b

  by_case : (b : MBranch) → find Has bs ≡ Some b → IsChosen b
  by_case b e =
      let f = found_numbered Has bs b e in
      record {
        number = f.number;
        first = rw (f.first, number_for) refl;
        there = f.there;
      }

  by_else : (b : MBranch) → find Has bs ≡ None → find Others bs ≡ Some b → IsChosen b
  by_else b n e =
      let f = found_numbered Others bs b e in
      record {
        number = f.number;
        first = rw (none_numbered Has bs n, number_for) f.first;
        there = f.there;
      }

  pub chosen : (b : MBranch) → branch_for u bs ≡ Some b → IsChosen b
  chosen b e = go (find Has bs) refl e
    where
      go : (o : Option MBranch) → find Has bs ≡ o → option_or o (find Others bs) ≡ Some b → IsChosen b
      go None h k = by_else b h k
      go (Some c) h k = let same : c ≡ b = cc in by_case b (h ∙ ap (λ x. Some x) same)

  -- where exactly one has the part, there is one
  pub one_chosen : one_has u bs ≡ true → (b : MBranch) × (branch_for u bs ≡ Some b)
  one_chosen h = go (either _ _ h)
    where
      found : (b : MBranch) → find Has bs ≡ Some b → branch_for u bs ≡ Some b
      found b e = rw e refl

      else_found : (o : Option MBranch) → find Has bs ≡ o → (c : MBranch) → find Others bs ≡ Some c →
          (b : MBranch) × (branch_for u bs ≡ Some b)
      else_found (Some b) k c e = (b, found b k)
      else_found None k c e = (c, rw (k, e) refl)

      go : (nat_eq (count_by Has bs) 1 ≡ true) ⊎
          ((nat_eq (count_by Has bs) 0 && nat_eq (count_by Others bs) 1) ≡ true) →
          (b : MBranch) × (branch_for u bs ≡ Some b)
      go (inl k) = let f = some_found Has 1 bs (nat_equal _ 1 k) (lit< tt) in (f.0, found f.0 f.1)
      go (inr k) =
          let f = some_found Others 1 bs (nat_equal _ 1 (both _ _ k).1) (lit< tt) in
          else_found (find Has bs) refl f.0 f.1

-- the branch for the part at the place is the one that is taken
pub taken_branch : (place : List MStep) (bs : List MBranch) (v u : MValue) (b : MBranch) → part_at place v ≡ Some u →
    branch_for u bs ≡ Some b → branch_at place bs v ≡ Some b
taken_branch place bs v u b e h =
    let f = chosen u bs b h in
    let number : number_at place bs v ≡ Some f.number = rw (e, number_at) f.first in
    rw (number, branch_at) f.there

-- a branch that is taken is one of them
pub branch_within : (place : List MStep) (bs : List MBranch) (v : MValue) (b : MBranch) →
    branch_at place bs v ≡ Some b →
    (i : ℕ) × (slice_get bs i ≡ Some b)
branch_within place bs v b e = go (number_at place bs v) e
  where
    go : (o : Option ℕ) → (elim o [ None ↦ None | Some i ↦ slice_get bs i ]) ≡ Some b →
        (i : ℕ) × (slice_get bs i ≡ Some b)
    go None k = cc
    go (Some i) k = (i, k)

-- where a branch goes on is among where all do
pub next_within : (place : List MStep) (bs : List MBranch) (v : MValue) (b : MBranch) → branch_at place bs v ≡ Some b →
    Contains (map (λ c. c.next) bs) b.next
next_within place bs v b e =
    let i = branch_within place bs v b e in
    let there : slice_get (map (λ (c : MBranch). c.next) bs) i.0 ≡ Some b.next =
    slice_get-map (λ (c : MBranch). c.next) bs i.0 ∙ ap (option_map (λ (c : MBranch). c.next)) i.1 in
    (i.0, slice_get_within _ i.0 b.next there, get_or_from_slice_get _ i.0 b.next b.next there)

-- a decided switch has a part and a branch for it
pub record IsDecidedBy (o : Option MValue) (bs : List MBranch) : Type 0 where
  pub part : MValue
  pub there : o ≡ Some part
  pub branch : MBranch
  pub is : branch_for part bs ≡ Some branch

pub decided : (o : Option MValue) (bs : List MBranch) → IsTrue (is_decided o bs) → IsDecidedBy o bs
decided None bs h = untrue h
decided (Some u) bs h = let b = one_chosen u bs h in record { part = u; there = refl; branch = b.0; is = b.1 }

-- so has a part that is there
pub branch_there : (o : Option MValue) (u : MValue) (bs : List MBranch) → IsTrue (is_decided o bs) → Some u ≡ o →
    (b : MBranch) × (branch_for u bs ≡ Some b)
branch_there o u bs h e =
    let d = decided o bs h in
    let k : Some d.part ≡ Some u = sym d.there ∙ sym e in
    let same : d.part ≡ u = cc in
    (d.branch, ap (λ w. branch_for w bs) (sym same) ∙ d.is)
