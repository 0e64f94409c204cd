-- A pattern below another one is smaller, and stands in it as it is placed.
use Rattle.std.proofs.Common.{◌≡◌, ◌<◌, ◌≤◌, ℕ, zero, suc, ◌+◌, ◌-◌, Bool, true, false, min, max, length, slice_get, cond, nat_lt, Some, None, refl, sym, ap, ◌∙◌, subst, arith}
use Rattle.std.proofs.lemmas.List.{length-map}
use Rattle.match_model.specs.Constructors.{MCtor, LongerShape, RowCtor}
use Rattle.match_model.specs.ArenaPatterns.{MDePat, de_pat, MDePats, no_de_pats, more_de_pats, de_pats_list, ctor_of, subs_of}
use Rattle.match_model.specs.Made.{IsForward}
use Rattle.match_model.specs.Rows.{Head}
use Rattle.constructor_sets.proofs.Whole.{forward}
use Rattle.pat_context.proofs.Held.{made_ctor}
use Rattle.pattern_arena.specs.declared.pattern.DePat.{DePat, out-DePat}
use Rattle.pattern_arena.specs.Trees.{tree, placed_ctor, placed_subs}
use Rattle.pattern_arena.proofs.TreeFacts.{ctor_of-tree, subs_of-tree}
use Rattle.pattern_lints.specs.Meeting.{head_by, part_head, front_by, back_by, head_front, head_back, Fits, HeadFits, IsWritten, pattern_size, patterns_size, head_size}
use Rattle.pattern_lints.proofs.HeadParts.{some_same, middle_head}

-- there are as many patterns below a tree as below the pattern
pub placed_count : {T : Type 0} (p : DePat T) → length (subs_of (tree p)) ≡ length (placed_subs p)
placed_count p = ap length (subs_of-tree p) ∙ length-map (placed_subs p) tree

-- patterns fit as their trees do
pub placed_fits : {T : Type 0} (p : DePat T) (n : ℕ) → HeadFits (Some (tree p)) n → Fits (placed_ctor p) (length (placed_subs p)) n
placed_fits p n h = subst (λ (m : ℕ). Fits (placed_ctor p) m n) (placed_count p) (subst (λ c. Fits c (length (subs_of (tree p))) n) (ctor_of-tree p) h)

pub front_placed : {T : Type 0} (p : DePat T) → front_by (placed_ctor p) (length (placed_subs p)) ≡ head_front (Some (tree p))
front_placed p = sym (ap (λ c. front_by c (length (subs_of (tree p)))) (ctor_of-tree p) ∙ ap (front_by (placed_ctor p)) (placed_count p))

pub back_placed : {T : Type 0} (p : DePat T) → back_by (placed_ctor p) ≡ head_back (Some (tree p))
back_placed p = sym (ap back_by (ctor_of-tree p))

-- what the two write, by their ends
pub ends_written : {T : Type 0} (h g : Head T) (n front back : ℕ) → front ≡ min (max (head_front h) (head_front g)) n →
    back ≡ min (max (head_back h) (head_back g)) (n - front) → IsWritten h g n front back
ends_written h g n front back f b = record {
  within = omega (arith, f, b);
  first = λ k l x y. middle_head h n k (omega (arith, f, x, l)) (omega (arith, f, b, x, l, y));
  second = λ k l x y. middle_head g n k (omega (arith, f, x, l)) (omega (arith, f, b, x, l, y));
}

-- the range of a placed pattern's constructor does not run backward
pub placed_forward : {T : Type 0} (p : DePat T) → IsForward (placed_ctor p)
placed_forward {T} p = forward (placed_ctor p) (made_ctor (out-DePat T p).form.now.ctor)

pub tree_forward : {T : Type 0} (p : DePat T) → IsForward (ctor_of (tree p))
tree_forward p = subst IsForward (sym (ctor_of-tree p)) (placed_forward p)

among_smaller : {T : Type 0} (ps : MDePats T) (i : ℕ) (q : MDePat T) → slice_get (de_pats_list ps) i ≡ Some q → pattern_size q ≤ patterns_size ps
among_smaller no_de_pats i q e = cc
among_smaller (more_de_pats p ps) zero q e = subst (λ x. pattern_size x ≤ pattern_size p + patterns_size ps) (some_same p q e) (omega arith)
among_smaller (more_de_pats p ps) (suc i) q e = let h = among_smaller ps i q e in omega (arith, h)

pub sub_smaller : {T : Type 0} (p : MDePat T) (i : ℕ) (q : MDePat T) → slice_get (subs_of p) i ≡ Some q → pattern_size q < pattern_size p
sub_smaller (de_pat c t uid at subs binds) i q e = let h = among_smaller subs i q e in omega (arith, h)

pub size_some : {T : Type 0} (p : MDePat T) → 0 < pattern_size p
size_some (de_pat c t uid at subs binds) = omega arith

got_smaller : {T : Type 0} (p : MDePat T) (i : ℕ) → head_size (slice_get (subs_of p) i) < pattern_size p
got_smaller {T} p i = go (slice_get (subs_of p) i) refl
  where
    go : (h : Head T) → slice_get (subs_of p) i ≡ h → head_size h < pattern_size p
    go None e = size_some p
    go (Some q) e = sub_smaller p i q e

pub head_by_smaller : {T : Type 0} (c : MCtor) (p : MDePat T) (n k : ℕ) → head_size (head_by c (subs_of p) n k) < pattern_size p
head_by_smaller {T} (RowCtor (LongerShape f b)) p n k = go (nat_lt k f) (nat_lt b (n - k))
  where
    go : (t u : Bool) → head_size {T = T} (cond t (slice_get (subs_of p) k) (cond u None (slice_get (subs_of p) (f + b - (n - k))))) < pattern_size p
    go true u = got_smaller p k
    go false true = size_some p
    go false false = got_smaller p (f + b - (n - k))
head_by_smaller c p n k = got_smaller p k

pub part_smaller : {T : Type 0} (h : Head T) (n k : ℕ) → head_size (part_head h n k) ≤ head_size h
part_smaller None n k = omega arith
part_smaller (Some p) n k = let h = head_by_smaller (ctor_of p) p n k in omega (arith, h)

pub parts_smaller : {T : Type 0} (p : MDePat T) (g : Head T) (n k : ℕ) →
    head_size (part_head (Some p) n k) + head_size (part_head g n k) < pattern_size p + head_size g
parts_smaller p g n k =
    let a = head_by_smaller (ctor_of p) p n k in
    let b = part_smaller g n k in
    omega (arith, a, b)
