use Rattle.std.proofs.Common.{◌≡◌, ℕ, ◌+◌, ◌<◌, Bool, true, List, false, length, get_or, set, sym, subst, ap, ◌∙◌, arith}
use Rattle.std.specs.Global.{Vec}
use Rattle.std.proofs.lemmas.List.{length-map, get_or_read}
use Rattle.std.proofs.lemmas.List.Elements.{All-from_get_or}
use Rattle.cycle_search.specs.Graphs.{plain_graph, Reaches, HasTargetsBelow}
use Rattle.cycle_search.specs.Searched.{IsReached, IsDone}
use Rattle.cycle_search.proofs.Ways.{edge_at, edge_in, goes_on}
use Rattle.cycle_search.proofs.Searches.{IsGoing, from_known, from_within, target_new, target_old, done_more}
use Rattle.cycle_search.proofs.way.goes_back.Goals as goal
use Rattle.cycle_search.proofs.way.goes_back.Goals.{then-not-index+in_ok-push, else-not-index}

pub loop-target-init : goal.loop-target-init
loop-target-init c = record {
  searched = c.requires.searched;
  front = λ k l. absurd (omega arith);
  from_is = sym (get_or_read c.args.trail.now.items c.args.done c.index.result.now c.requires.more c.index.ensures 0);
  more = c.requires.more;
}

pub returns-then-target-start-clause-yes : goal.returns-then-target-start-clause-yes
returns-then-target-start-clause-yes c _ =
    let graph = plain_graph c.args.edges.now in
    let items = c.deref-target-items.result.now in
    let from = c.index.result.now in
    let i = c.loop-target.target-index in
    let in_edges : from < length c.args.edges.now =
    subst (λ k. from < k) (length-map c.args.edges.now (λ (v : Vec ℕ). v.items))
    (from_within (plain_graph c.args.edges.now) c.args.start c.deref-target-items.result.now from c.loop-target.reached.items c.loop-target.trail.items c.args.done c.loop-target.target-index c.loop-target.invariant) in
    let e = edge_at c.args.edges.now from c.index-edges-from.result items in_edges c.index-edges-from.is c.deref-target-items.ensures.value i c.loop-target-test.true in
    subst (λ x. Reaches graph c.args.start x) c.if-target-start.true
    (goes_on graph c.args.start from (get_or items i 0) (from_known graph c.args.start items from c.loop-target.reached.items c.loop-target.trail.items c.args.done i c.loop-target.invariant) e)

pub loop-target-preserved : goal.loop-target-preserved
loop-target-preserved c =
    let graph = plain_graph c.args.edges.now in
    let items = c.deref-target-items.result.now in
    let from = c.index.result.now in
    let i = c.loop-target.target-index in
    let t : ℕ = get_or items i 0 in
    let n = length-map c.args.edges.now (λ (v : Vec ℕ). v.items) in
    let in_edges : from < length c.args.edges.now =
    subst (λ k. from < k) (length-map c.args.edges.now (λ (v : Vec ℕ). v.items))
    (from_within (plain_graph c.args.edges.now) c.args.start c.deref-target-items.result.now from c.loop-target.reached.items c.loop-target.trail.items c.args.done c.loop-target.target-index c.loop-target.invariant) in
    let e = edge_at c.args.edges.now from c.index-edges-from.result items in_edges c.index-edges-from.is c.deref-target-items.ensures.value i c.loop-target-test.true in
    let below : HasTargetsBelow (length c.args.edges.now) c.index-edges-from.result =
    subst (HasTargetsBelow (length c.args.edges.now)) (sym c.index-edges-from.is) (c.requires.targets from c.index-edges-from.result in_edges) in
    let within : t < length graph =
    subst (λ k. t < k) (sym n)
    (subst (λ (xs : List ℕ). get_or xs i 0 < length c.args.edges.now) (sym c.deref-target-items.ensures.value)
    (below i 0 (subst (λ (xs : List ℕ). i < length xs) c.deref-target-items.ensures.value c.loop-target-test.true))) in
    let in_marks : t < length c.loop-target.reached.items = subst (λ k. t < k) (sym c.loop-target.invariant.searched.len) within in
    let read : c.index-in-loop-target.result.now ≡ get_or c.loop-target.reached.items t false =
    get_or_read c.loop-target.reached.items t c.index-in-loop-target.result.now in_marks c.index-in-loop-target.ensures false in
    let going : List Bool → List ℕ → Type 0 = λ ms xs. IsGoing graph c.args.start items from ms xs c.args.done (i + 1) in
    elim c.if-not-index.branch [
      | then-not-index+in_ok-push w ↦
          let new : get_or c.loop-target.reached.items t false ≡ false = sym read ∙ w.if-not-index.true in
          subst (λ (ms : List Bool). going ms c.if-not-index.trail.items) (sym (ap (λ (r : Vec Bool). r.items) w.reached-is))
          (subst (λ (xs : List ℕ). going (set c.loop-target.reached.items t true) xs) (sym (ap (λ (q : Vec ℕ). q.items) w.trail-is ∙ w.in_ok-push.ensures.items))
          (target_new graph c.args.start items from c.loop-target.reached.items c.loop-target.trail.items c.args.done i c.loop-target.invariant e within c.if-target-start.false new))
      | else-not-index w ↦
          let old : get_or c.loop-target.reached.items t false ≡ true = sym read ∙ w.if-not-index.false in
          subst (λ (ms : List Bool). going ms c.if-not-index.trail.items) (sym (ap (λ (r : Vec Bool). r.items) w.reached-is))
          (subst (λ (xs : List ℕ). going c.loop-target.reached.items xs) (sym (ap (λ (q : Vec ℕ). q.items) w.trail-is))
          (target_old graph c.args.start items from c.loop-target.reached.items c.loop-target.trail.items c.args.done i c.loop-target.invariant c.if-target-start.false old))
    ]

pub returns-clause-no : goal.returns-clause-no
returns-clause-no c _ =
    let graph = plain_graph c.args.edges.now in
    let items = c.deref-target-items.result.now in
    let from = c.index.result.now in
    let marks = c.loop-target.reached.items in
    let s = c.loop-target.invariant in
    let in_edges : from < length c.args.edges.now =
    subst (λ k. from < k) (length-map c.args.edges.now (λ (v : Vec ℕ). v.items))
    (from_within (plain_graph c.args.edges.now) c.args.start c.deref-target-items.result.now from c.loop-target.reached.items c.loop-target.trail.items c.args.done c.loop-target.target-index c.loop-target.invariant) in
    let P : ℕ → Type 0 = λ x. IsReached marks x × (x ≡ c.args.start → ⊥) in
    let here : IsDone graph c.args.start marks from =
    edge_in c.args.edges.now from c.index-edges-from.result items in_edges c.index-edges-from.is c.deref-target-items.ensures.value P
    (All-from_get_or P items 0 (λ k l. s.front k (omega arith))) in
    done_more graph c.args.start marks c.loop-target.trail.items c.args.done s.searched s.more (subst (IsDone graph c.args.start marks) (sym s.from_is) here)
