-- What is one node of the definitions, the derived test finds equal.
use Rattle.std.proofs.Common.{◌≡◌, ℕ, ◌+◌, ◌*◌, ◌^◌, ◌<◌, true, false, not, ◌&&◌, map, zero, suc, refl, ap, sym, ◌∙◌, rules, arith, nat_eq, chars}
use Rattle.std.specs.Prelude.{IsTrue}
use Rattle.std.specs.String.{string_bytes}
use Rattle.std.specs.declared.string.String.{String}
use Rattle.std.specs.declared.alloc.Global.{Global}
use Rattle.std.proofs.lemmas.Slice.Eq.{bytes_eq-Decides}
use Rattle.std.proofs.lemmas.Str.{IsUtf8-had, encodes-chars}
use lib.Utf8.{encodes}
use Rattle.range_split.specs.declared.size.Size.{Size}
use Rattle.range_split.specs.declared.range.EndKind.{EndKind}
use Rattle.range_split.specs.declared.range.EndKind.TheVariants as ends
use Rattle.range_split.specs.declared.range.Range.{Range}
use Rattle.range_split.specs.Numbers.{signed, whole_size}
use Rattle.range_split.specs.Ends.{kept_end, is_kept}
use Rattle.range_split.specs.Ranges.{plain_range}
use Rattle.range_split.specs.contracts.size.SizePartialEq.TheImpl as size_eq
use Rattle.range_split.specs.contracts.range.EndKindPartialEq.TheImpl as kind_eq
use Rattle.range_split.specs.contracts.range.RangePartialEq.TheImpl as range_eq
use Rattle.pat_context.specs.declared.place.Step.{Step}
use Rattle.pat_context.specs.declared.place.Step.TheVariants as st
use Rattle.pat_context.specs.declared.place.Place.{Place}
use Rattle.pat_context.specs.contracts.place.StepPartialEq.TheImpl as step_eq
use Rattle.pat_context.specs.contracts.place.PlacePartialEq.TheImpl as place_eq
use Rattle.pat_context.specs.Places.{steps_of}
use Rattle.pat_context.specs.Views.{plain_step, plain_place}
use Rattle.tree_eval.specs.declared.tree.Case.{Case}
use Rattle.tree_eval.specs.declared.tree.Case.TheVariants as c
use Rattle.tree_eval.specs.declared.tree.Bind.{Bind}
use Rattle.tree_eval.specs.declared.tree.Node.{Node}
use Rattle.tree_eval.specs.declared.tree.Node.TheVariants as n
use Rattle.tree_eval.specs.contracts.tree.CasePartialEq.TheImpl as case_eq
use Rattle.tree_eval.specs.contracts.tree.BindPartialEq.TheImpl as bind_eq
use Rattle.tree_eval.specs.contracts.tree.NodePartialEq.TheImpl as node_eq
use Rattle.tree_eval.specs.Nodes.{plain_case, plain_branch, plain_bind, plain_node}
use Rattle.tree_eval.proofs.Pointwise.{and_true, nat-itself, nat-same, pointwise-from}

equal_step : (a b : Step) → plain_step a ≡ plain_step b → step_eq.ghosts.eq a b ≡ true
equal_step st.Through st.Through h = refl
equal_step (st.Field j i) (st.Field k l) h =
    let e : j ≡ k = cc in let f : i ≡ l = cc in and_true _ _ (nat-itself j k e) (nat-itself i l f)
equal_step (st.Front i) (st.Front j) h = let e : i ≡ j = cc in nat-itself i j e
equal_step (st.Back i) (st.Back j) h = let e : i ≡ j = cc in nat-itself i j e
equal_step (st.Middle j i) (st.Middle k l) h =
    let e : j ≡ k = cc in let f : i ≡ l = cc in and_true _ _ (nat-itself j k e) (nat-itself i l f)
equal_step a b h = cc

equal_place : (a b : Place) → plain_place (steps_of a) ≡ plain_place (steps_of b) → place_eq.ghosts.eq a b ≡ true
equal_place a b h = pointwise-from (λ x y. step_eq.ghosts.eq x y) plain_step (steps_of a) (steps_of b) equal_step h

-- a number has one pair of halves
halves : (a b c d : ℕ) → b < 2 ^ 64 → d < 2 ^ 64 → a * 2 ^ 64 + b ≡ c * 2 ^ 64 + d → (a ≡ c) × (b ≡ d)
halves a b c d l m e = (omega (arith, l, m, e), omega (arith, l, m, e))

equal_size : (a b : Size) → whole_size a ≡ whole_size b → size_eq.ghosts.eq a b ≡ true
equal_size a b h =
    let e = halves a.upper a.lower b.upper b.lower a.lower_fits b.lower_fits h in
    and_true _ _ (nat-itself a.upper b.upper e.0) (nat-itself a.lower b.lower e.1)

same_signs : (m n : ℕ) → signed true m ≡ signed true n → m ≡ n
same_signs zero zero e = refl
same_signs (suc m) (suc n) e = let f : m ≡ n = cc in ap suc f
same_signs zero (suc n) e = cc
same_signs (suc m) zero e = cc

other_signs : (m n : ℕ) → not (nat_eq m 0) ≡ true → signed true m ≡ signed false n → ⊥
other_signs zero n h e = cc
other_signs (suc m) n h e = cc

-- an end is kept in one way
equal_end : (j k : EndKind) (a b : Size) → IsTrue (is_kept j a) → IsTrue (is_kept k b) → kept_end j a ≡ kept_end k b →
    (kind_eq.ghosts.eq j k ≡ true) × (size_eq.ghosts.eq a b ≡ true)
equal_end ends.Free ends.Free a b p q h =
    (refl, equal_size a b (nat-same (whole_size a) 0 p ∙ sym (nat-same (whole_size b) 0 q)))
equal_end ends.Negative ends.Negative a b p q h =
    let e : signed true (whole_size a) ≡ signed true (whole_size b) = cc in (refl, equal_size a b (same_signs _ _ e))
equal_end ends.Positive ends.Positive a b p q h =
    let e : whole_size a ≡ whole_size b = cc in (refl, equal_size a b e)
equal_end ends.Negative ends.Positive a b p q h =
    let e : signed true (whole_size a) ≡ signed false (whole_size b) = cc in absurd (other_signs (whole_size a) (whole_size b) p e)
equal_end ends.Positive ends.Negative a b p q h =
    let e : signed false (whole_size a) ≡ signed true (whole_size b) = cc in absurd (other_signs (whole_size b) (whole_size a) q (sym e))
equal_end ends.Free ends.Negative a b p q h = cc
equal_end ends.Free ends.Positive a b p q h = cc
equal_end ends.Negative ends.Free a b p q h = cc
equal_end ends.Positive ends.Free a b p q h = cc

equal_range : (a b : Range) → plain_range a ≡ plain_range b → range_eq.ghosts.eq a b ≡ true
equal_range a b h =
    let low = equal_end a.low_kind b.low_kind a.low_size b.low_size a.low_is_kept b.low_is_kept (ap (λ r. r.low) h) in
    let high = equal_end a.high_kind b.high_kind a.high_size b.high_size a.high_is_kept b.high_is_kept (ap (λ r. r.high) h) in
    and_true _ _ low.0 (and_true _ _ high.0 (and_true _ _ low.1 high.1))

-- a text has one spelling
one_spelling : (a b : String Global) → chars (string_bytes a) ≡ chars (string_bytes b) → string_bytes a ≡ string_bytes b
one_spelling a b e =
    sym (encodes-chars (string_bytes a) (IsUtf8-had (string_bytes a) a.ok))
    ∙ ap encodes e ∙ encodes-chars (string_bytes b) (IsUtf8-had (string_bytes b) b.ok)

equal_case : (a b : Case) → plain_case a ≡ plain_case b → case_eq.ghosts.eq a b ≡ true
equal_case (c.Variant k) (c.Variant l) h = let e : k ≡ l = cc in nat-itself k l e
equal_case (c.Flag k) (c.Flag l) h = let e : k ≡ l = cc in search (rules, e)
equal_case (c.Span r) (c.Span s) h = let e : plain_range r ≡ plain_range s = cc in equal_range r s e
equal_case (c.Text r) (c.Text s) h =
    let e : chars (string_bytes r) ≡ chars (string_bytes s) = cc in
    (bytes_eq-Decides (string_bytes r) (string_bytes s)).1 (one_spelling r s e)
equal_case (c.Length k) (c.Length l) h = let e : k ≡ l = cc in nat-itself k l e
equal_case (c.Longer f b) (c.Longer g d) h =
    let e : f ≡ g = cc in let i : b ≡ d = cc in and_true _ _ (nat-itself f g e) (nat-itself b d i)
equal_case c.Else c.Else h = refl
equal_case a b h = cc

equal_branch : (a b : Case × ℕ) → plain_branch a ≡ plain_branch b → (case_eq.ghosts.eq a.0 b.0 && nat_eq a.1 b.1) ≡ true
equal_branch a b h =
    and_true _ _ (equal_case a.0 b.0 (ap (λ x. x.case) h)) (nat-itself a.1 b.1 (ap (λ x. x.next) h))

equal_bind : (a b : Bind) → plain_bind a ≡ plain_bind b → bind_eq.ghosts.eq a b ≡ true
equal_bind a b h =
    let mode : a.mode ≡ b.mode = ap (λ x. x.mode) h in
    and_true _ _ ((bytes_eq-Decides (string_bytes a.name) (string_bytes b.name)).1 (ap (λ x. x.name) h))
    (and_true _ _ (search (rules, mode)) (equal_place a.place b.place (ap (λ x. x.place) h)))

pub equal_node : (a b : Node) → plain_node a ≡ plain_node b → node_eq.ghosts.eq a b ≡ true
equal_node (n.Switch p xs) (n.Switch q ys) h =
    let place : plain_place (steps_of p) ≡ plain_place (steps_of q) = cc in
    let cases : map plain_branch xs.items ≡ map plain_branch ys.items = cc in
    and_true _ _ (equal_place p q place)
    (pointwise-from (λ x y. case_eq.ghosts.eq x.0 y.0 && nat_eq x.1 y.1) plain_branch xs.items ys.items equal_branch cases)
equal_node (n.Ask j xs i) (n.Ask k ys l) h =
    let arm : j ≡ k = cc in
    let names : map plain_bind xs.items ≡ map plain_bind ys.items = cc in
    let next : i ≡ l = cc in
    and_true _ _ (nat-itself j k arm)
    (and_true _ _ (pointwise-from (λ x y. bind_eq.ghosts.eq x y) plain_bind xs.items ys.items equal_bind names)
    (nat-itself i l next))
equal_node (n.Take j xs) (n.Take k ys) h =
    let arm : j ≡ k = cc in
    let names : map plain_bind xs.items ≡ map plain_bind ys.items = cc in
    and_true _ _ (nat-itself j k arm)
    (pointwise-from (λ x y. bind_eq.ghosts.eq x y) plain_bind xs.items ys.items equal_bind names)
equal_node n.Miss n.Miss h = refl
equal_node n.Void n.Void h = refl
equal_node a b h = cc
