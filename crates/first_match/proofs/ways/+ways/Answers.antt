use Rattle.std.proofs.Common.{◌≡◌, ◌≢◌, ◌<◌, ◌≤◌, ◌-◌, ◌∙◌, suc, false, true, List, [], map, length, take, drop, reverse, IfOk, sym, ap, subst, arith}
use Rattle.std.specs.Prelude.{option_map}
use Rattle.std.proofs.lemmas.List.{length-map, map-append, take-map}
use Rattle.match_model.specs.ArenaPatterns.{de_pats_of}
use Rattle.match_model.specs.Ways.{Binding, bindings_of_both}
use Rattle.pattern_arena.specs.Trees.{tree, placed_subs}
use Rattle.tree_eval.specs.Views.{plain_value}
use Rattle.first_match.specs.Bound.{all_both, bound_in, bound_on, bound_ways, inner_ways, is_or, is_wild}
use Rattle.first_match.specs.Names.{names_held, plain_seen, put_all}
use Rattle.first_match.specs.Parts.{plain_met}
use Rattle.first_match.proofs.Bound.{bound_where, inner_or, inner_parts, weight_item}
use Rattle.first_match.proofs.Cuts.{cut_length}
use Rattle.first_match.proofs.Joined.{each_reversed}
use Rattle.first_match.proofs.Turns.{In, On, all_in, full_stays, none_cut, on_differ, one_more_in, one_more_on}
use Rattle.first_match.proofs.ways.+ways.Goals as goal

-- ---- a pattern

pub ways_of-returns : goal.ways_of-returns
ways_of-returns g t c =
    let seen = c.behind_references.new.seen.items in
    let put = put_all (map plain_seen seen) in
    let ways = map (λ w. names_held w.items) c.in_ok-ways.ways.items in
    let inner = inner_ways (tree c.in_ok-at.at.pattern.now) (plain_value c.in_ok-at.at.value.now) in
    let same : map (bindings_of_both (names_held c.deref.result.now)) ways
    ≡ take c.args.most (bound_ways (tree c.args.p.now) (plain_value c.args.value.now)) =
    ap (λ s. map (bindings_of_both (names_held s)) ways) (c.deref.ensures.value ∙ c.reverse.ensures.items)
    ∙ each_reversed seen ways
    ∙ ap (map put) c.in_ok-ways.ensures
    ∙ sym (take-map put c.args.most inner)
    ∙ ap (take c.args.most) (sym c.in_ok-at.ensures.ways) in
    subst (λ (bss : List (List Binding)). IfOk c.each_joined.result (λ ws. map (λ w. names_held w.items) ws.items ≡ bss)) same
    c.each_joined.ensures

-- ---- by its constructor

pub ways_by_ctor-returns-then-is_or : goal.ways_by_ctor-returns-then-is_or
ways_by_ctor-returns-then-is_or g t c =
    let is = inner_or c.args.p.now (plain_value c.args.value.now) (sym c.is_wild.ensures ∙ c.if-is_wild.false)
    (sym c.is_or.ensures ∙ c.if-is_or.true) in
    subst (λ (bss : List (List Binding)). IfOk c.ways_in.result (λ ws. map (λ w. names_held w.items) ws.items ≡ take c.args.most bss))
    (sym is) c.ways_in.ensures

pub ways_by_ctor-returns-in-None : goal.ways_by_ctor-returns-in-None
ways_by_ctor-returns-in-None g t c =
    let subs = de_pats_of (map tree (placed_subs c.args.p.now)) in
    let is : inner_ways (tree c.args.p.now) (plain_value c.args.value.now) ≡ [] =
    inner_parts c.args.p.now (plain_value c.args.value.now) (sym c.is_wild.ensures ∙ c.if-is_wild.false)
    (sym c.is_or.ensures ∙ c.if-is_or.false)
    ∙ ap (λ o. bound_where o subs) (sym c.parts_met.ensures ∙ ap (option_map plain_met) c.in-None.is) in
    ap (map (λ w. names_held w.items)) c.new.ensures.items ∙ none_cut c.args.most ∙ ap (take c.args.most) (sym is)

pub ways_by_ctor-returns-in-Some : goal.ways_by_ctor-returns-in-Some
ways_by_ctor-returns-in-Some g t c =
    let subs = de_pats_of (map tree (placed_subs c.args.p.now)) in
    let is : inner_ways (tree c.args.p.now) (plain_value c.args.value.now) ≡ bound_on subs (plain_met c.in-Some.parts) =
    inner_parts c.args.p.now (plain_value c.args.value.now) (sym c.is_wild.ensures ∙ c.if-is_wild.false)
    (sym c.is_or.ensures ∙ c.if-is_or.false)
    ∙ ap (λ o. bound_where o subs) (sym c.parts_met.ensures ∙ ap (option_map plain_met) c.in-Some.is) in
    subst (λ (bss : List (List Binding)). IfOk c.ways_on.result (λ ws. map (λ w. names_held w.items) ws.items ≡ take c.args.most bss))
    (sym is) c.ways_on.ensures

-- ---- alternatives

pub ways_in-returns-then-len-most : goal.ways_in-returns-then-len-most
ways_in-returns-then-len-most g t c =
    let ps = c.args.patterns.now in
    let v = plain_value c.args.value.now in
    let i = c.loop-pattern.pattern-index in
    let now = map (λ w. names_held w.items) c.loop-pattern.all.items in
    let long : c.args.most ≤ length now =
    omega (arith, c.if-len-most.true, c.len.ensures, c.loop-pattern.all.ok.0, length-map c.loop-pattern.all.items (λ w. names_held w.items)) in
    full_stays c.args.most now (In ps v i) (bound_in (de_pats_of (map tree (drop i ps))) v) _ c.loop-pattern.invariant long
    (all_in ps v i)

pub ways_in-ways_of-requires : goal.ways_in-ways_of-requires
ways_in-ways_of-requires g t c κs within =
    let less = weight_item c.args.patterns.now c.loop-pattern.pattern-index c.pattern-item.result c.loop-pattern-test.true c.pattern-item.is in (
      omega (arith, c.decreases, less),
      (within, omega (arith, c.if-len-most.false, c.len.ensures, c.len-in-loop-pattern.ensures)),
    )

pub ways_in-loop-pattern-preserved : goal.ways_in-loop-pattern-preserved
ways_in-loop-pattern-preserved g t c =
    let old = c.loop-pattern.all.items in
    let more = c.in_ok-more.more.items in
    let count : c.len-in-loop-pattern.result ≡ length (map (λ w. names_held w.items) old) =
    omega (arith, c.len-in-loop-pattern.ensures, c.loop-pattern.all.ok.0, length-map old (λ w. names_held w.items)) in
    one_more_in c.args.patterns.now (plain_value c.args.value.now) c.loop-pattern.pattern-index c.pattern-item.result c.args.most
    c.len-in-loop-pattern.result (map (λ w. names_held w.items) old) (map (λ w. names_held w.items) more) _
    c.loop-pattern-test.true c.pattern-item.is c.loop-pattern.invariant count c.in_ok-more.ensures
    (ap (map (λ w. names_held w.items)) c.in_ok-add_ways.ensures ∙ map-append (λ w. names_held w.items) old more)

-- ---- parts

pub ways_on-returns-then-patterns-count : goal.ways_on-returns-then-patterns-count
ways_on-returns-then-patterns-count g t c =
    let ps = map tree c.args.patterns.now in
    let differ : length ps ≢ length (plain_met c.args.parts) = λ e. absurd
    (let same : length c.args.patterns.now ≡ c.count.result = sym (length-map c.args.patterns.now tree) ∙ e ∙ sym c.count.ensures in
    omega (arith, c.if-patterns-count.true, same)) in
    ap (map (λ w. names_held w.items)) c.new.ensures.items ∙ none_cut c.args.most
    ∙ ap (take c.args.most) (sym (on_differ ps (plain_met c.args.parts) differ))

pub ways_on-ways_of-requires : goal.ways_on-ways_of-requires
ways_on-ways_of-requires g t c κs within =
    let within_list : c.loop-left.left - 1 < length c.args.patterns.now = omega (arith, c.loop-left.invariant.0, c.loop-left-test.true) in
    let less = weight_item c.args.patterns.now (c.loop-left.left - 1) c.index-patterns-left.result within_list c.index-patterns-left.is in
    (omega (arith, c.decreases, less), (within, c.requires))

pub ways_on-combined-requires : goal.ways_on-combined-requires
ways_on-combined-requires g t c =
    let whole = On c.args.patterns.now (plain_met c.args.parts) c.loop-left.left in
    let is = ap length c.loop-left.invariant.1 in
    omega (arith, is, cut_length c.args.most whole, length-map c.loop-left.all.items (λ w. names_held w.items))

pub ways_on-loop-left-preserved : goal.ways_on-loop-left-preserved
ways_on-loop-left-preserved g t c =
    let left = c.loop-left.left in
    let old = map (λ w. names_held w.items) c.loop-left.all.items in
    let here = map (λ w. names_held w.items) c.in_ok-here.here.items in
    let within_list : left - 1 < length c.args.patterns.now = omega (arith, c.loop-left.invariant.0, c.loop-left-test.true) in
    let next : left ≡ suc (left - 1) = omega (arith, c.loop-left-test.true) in (
      omega (arith, c.loop-left.invariant.0),
      one_more_on c.args.patterns.now (plain_met c.args.parts) (left - 1) left c.index-patterns-left.result (plain_value c.part.result.now) c.args.most
          here old _ within_list next c.index-patterns-left.is c.part.ensures c.in_ok-here.ensures c.loop-left.invariant.1
          (c.in_ok-joint.ensures ∙ ap (λ fs. take c.args.most (all_both (map (λ w. names_held w.items) fs) old)) c.deref.ensures.value),
    )
