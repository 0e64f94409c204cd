-- Nodes that the derived test finds equal are one node of the definitions.
use Rattle.std.proofs.Common.{◌≡◌, ℕ, ◌+◌, ◌*◌, ◌^◌, true, false, ◌&&◌, map, refl, ap, rules, nat_eq}
use Rattle.std.specs.String.{string_bytes}
use Rattle.std.proofs.lemmas.Slice.Eq.{bytes_eq-Decides}
use Rattle.match_model.specs.Numbers.{At}
use Rattle.match_model.specs.declared.Mode.{Mode}
use Rattle.match_model.specs.contracts.ModePartialEq.TheImpl as mode_eq
use Rattle.range_split.specs.declared.size.Size.{Size}
use Rattle.range_split.specs.declared.range.EndKind.{EndKind}
use Rattle.range_split.specs.declared.range.Range.{Range}
use Rattle.range_split.specs.declared.range.EndKind.TheVariants as ends
use Rattle.range_split.specs.Numbers.{signed, whole_size}
use Rattle.range_split.specs.Ends.{kept_end}
use Rattle.range_split.specs.Ranges.{plain_range}
use Rattle.range_split.specs.contracts.size.SizePartialEq.TheImpl as size_eq
use Rattle.range_split.specs.contracts.range.EndKindPartialEq.TheImpl as kind_eq
use Rattle.range_split.specs.contracts.range.RangePartialEq.TheImpl as range_eq
use Rattle.pat_context.specs.declared.place.Step.{Step}
use Rattle.pat_context.specs.declared.place.Place.{Place}
use Rattle.pat_context.specs.contracts.place.StepPartialEq.TheImpl as step_eq
use Rattle.pat_context.specs.contracts.place.PlacePartialEq.TheImpl as place_eq
use Rattle.pat_context.specs.Places.{steps_of}
use Rattle.pat_context.specs.Views.{plain_step, plain_place}
use Rattle.tree_eval.specs.declared.tree.Case.{Case}
use Rattle.tree_eval.specs.declared.tree.Case.TheVariants as c
use Rattle.tree_eval.specs.declared.tree.Bind.{Bind}
use Rattle.tree_eval.specs.declared.tree.Node.{Node}
use Rattle.tree_eval.specs.declared.tree.Node.TheVariants as n
use Rattle.tree_eval.specs.contracts.tree.CasePartialEq.TheImpl as case_eq
use Rattle.tree_eval.specs.contracts.tree.BindPartialEq.TheImpl as bind_eq
use Rattle.tree_eval.specs.contracts.tree.NodePartialEq.TheImpl as node_eq
use Rattle.tree_eval.specs.Nodes.{plain_case, plain_branch, plain_bind, plain_node}
use Rattle.tree_eval.proofs.Pointwise.{both, nat-same, pointwise-map}

same_step : (a b : Step) → step_eq.ghosts.eq a b ≡ true → plain_step a ≡ plain_step b
same_step a b h = let e : a ≡ b = search (rules, h) in ap plain_step e

same_place : (a b : Place) → place_eq.ghosts.eq a b ≡ true → plain_place (steps_of a) ≡ plain_place (steps_of b)
same_place a b h = pointwise-map (λ x y. step_eq.ghosts.eq x y) plain_step (steps_of a) (steps_of b) same_step h

same_size : (a b : Size) → size_eq.ghosts.eq a b ≡ true → whole_size a ≡ whole_size b
same_size a b h =
    let k = both _ _ h in
    let upper = nat-same a.upper b.upper k.0 in
    let lower = nat-same a.lower b.lower k.1 in
    λ i. upper i * 2 ^ 64 + lower i

same_end : (j k : EndKind) (a b : Size) → kind_eq.ghosts.eq j k ≡ true → size_eq.ghosts.eq a b ≡ true → kept_end j a ≡ kept_end k b
same_end ends.Free ends.Free a b e s = refl
same_end ends.Negative ends.Negative a b e s = ap (λ n. At (signed true n)) (same_size a b s)
same_end ends.Positive ends.Positive a b e s = ap (λ n. At (signed false n)) (same_size a b s)
same_end j k a b e s = cc

same_range : (a b : Range) → range_eq.ghosts.eq a b ≡ true → plain_range a ≡ plain_range b
same_range a b h =
    let k = both _ _ h in
    let l = both _ _ k.1 in
    let m = both _ _ l.1 in
    let low : kept_end a.low_kind a.low_size ≡ kept_end b.low_kind b.low_size =
    same_end a.low_kind b.low_kind a.low_size b.low_size k.0 m.0 in
    let high : kept_end a.high_kind a.high_size ≡ kept_end b.high_kind b.high_size =
    same_end a.high_kind b.high_kind a.high_size b.high_size l.0 m.1 in
    λ i. record { low = low i; high = high i }

same_case : (a b : Case) → case_eq.ghosts.eq a b ≡ true → plain_case a ≡ plain_case b
same_case (c.Variant k) (c.Variant l) h = search (rules, h)
same_case (c.Flag k) (c.Flag l) h = search (rules, h)
same_case (c.Span r) (c.Span s) h =
    let e : range_eq.ghosts.eq r s ≡ true = h in
    rw (same_range r s e) refl
same_case (c.Text r) (c.Text s) h =
    let e : string_bytes r ≡ string_bytes s = (bytes_eq-Decides (string_bytes r) (string_bytes s)).0 h in
    rw e refl
same_case (c.Length k) (c.Length l) h = search (rules, h)
same_case (c.Longer f b) (c.Longer g d) h = search (rules, h)
same_case c.Else c.Else h = refl
same_case a b h = cc

same_branch : (a b : Case × ℕ) → (case_eq.ghosts.eq a.0 b.0 && nat_eq a.1 b.1) ≡ true → plain_branch a ≡ plain_branch b
same_branch a b h =
    let k = both _ _ h in
    let case : plain_case a.0 ≡ plain_case b.0 = same_case a.0 b.0 k.0 in
    let next : a.1 ≡ b.1 = nat-same a.1 b.1 k.1 in
    λ i. record { case = case i; next = next i }

same_mode : (a b : Mode) → mode_eq.ghosts.eq a b ≡ true → a ≡ b
same_mode a b h = search (rules, h)

same_bind : (a b : Bind) → bind_eq.ghosts.eq a b ≡ true → plain_bind a ≡ plain_bind b
same_bind a b h =
    let first = both _ _ h in
    let rest = both _ _ first.1 in
    let name : string_bytes a.name ≡ string_bytes b.name =
    (bytes_eq-Decides (string_bytes a.name) (string_bytes b.name)).0 first.0 in
    let mode : a.mode ≡ b.mode = same_mode a.mode b.mode rest.0 in
    let place = same_place a.place b.place rest.1 in
    λ i. record { name = name i; mode = mode i; place = place i }

pub same_node : (a b : Node) → node_eq.ghosts.eq a b ≡ true → plain_node a ≡ plain_node b
same_node (n.Switch p xs) (n.Switch q ys) h =
    let k = both _ _ h in
    let place = same_place p q k.0 in
    let cases : map plain_branch xs.items ≡ map plain_branch ys.items =
    pointwise-map (λ x y. case_eq.ghosts.eq x.0 y.0 && nat_eq x.1 y.1) plain_branch xs.items ys.items same_branch k.1 in
    rw (place, cases) refl
same_node (n.Ask j xs i) (n.Ask k ys l) h =
    let first = both _ _ h in
    let rest = both _ _ first.1 in
    let arm : j ≡ k = nat-same j k first.0 in
    let names : map plain_bind xs.items ≡ map plain_bind ys.items =
    pointwise-map (λ x y. bind_eq.ghosts.eq x y) plain_bind xs.items ys.items same_bind rest.0 in
    let next : i ≡ l = nat-same i l rest.1 in
    rw (arm, names, next) refl
same_node (n.Take j xs) (n.Take k ys) h =
    let first = both _ _ h in
    let arm : j ≡ k = nat-same j k first.0 in
    let names : map plain_bind xs.items ≡ map plain_bind ys.items =
    pointwise-map (λ x y. bind_eq.ghosts.eq x y) plain_bind xs.items ys.items same_bind first.1 in
    rw (arm, names) refl
same_node n.Miss n.Miss h = refl
same_node n.Void n.Void h = refl
same_node a b h = cc
