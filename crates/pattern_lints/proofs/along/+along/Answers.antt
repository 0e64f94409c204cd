-- What is left to show of two paths: each is one use of a lemma.
use Rattle.std.proofs.Common.{◌≡◌, ◌<◌, ◌∷◌, ℕ, [], true, length, sym, ap, ◌∙◌, subst, arith}
use Rattle.std.proofs.lemmas.List.{nil_from_length}
use Rattle.match_model.specs.Constructors.{belongs, sure_inside}
use Rattle.match_model.specs.ArenaPatterns.{ctor_of}
use Rattle.match_model.specs.WellTyped.{IsTyped}
use Rattle.pat_context.specs.Parts.{Tells}
use Rattle.pat_context.specs.Views.{is_sure}
use Rattle.pattern_arena.specs.Trees.{tree}
use Rattle.pattern_arena.proofs.TreeFacts.{ctor_of-tree}
use Rattle.pattern_lints.specs.Along.{Touching, MeetTogether}
use Rattle.pattern_lints.specs.Meeting.{IsSharp}
use Rattle.pattern_lints.proofs.Sizes.{placed_count, tree_forward}
use Rattle.pattern_lints.proofs.PieceHeads.{typed_or, typed_sharp}
use Rattle.pattern_lints.proofs.AlongSteps.{steps_forth, steps_back, first_goes_on, first_or_forth, first_or_back, second_or_forth, second_or_back}
use Rattle.pattern_lints.proofs.Told.{tells}
use Rattle.pattern_lints.proofs.PlacedMeets.{tree_sharp}
use Rattle.pattern_lints.proofs.Touches.{first_step, second_step, first_within, second_within, touch_first, touch_second, first_sharp, second_sharp, first_goes, second_goes, same_part, both_end}
use Rattle.pattern_lints.proofs.along.+along.Goals as goal

-- ---- through alternatives

pub first_along-sub-requires : goal.first_along-sub-requires
first_along-sub-requires g t c =
    let x = subst (λ path. Touching (tree c.args.p.now) path (tree c.args.q.now) c.args.other.now) c.in-Some.ensures.cases.0 c.requires.touch in
    subst (λ (n : ℕ). c.in-Some.i.now < n) (placed_count c.args.p.now) (first_within (tree c.args.p.now) c.in-Some.i.now c.in-Some.rest.now (tree c.args.q.now) c.args.other.now x)

pub first_along-along-requires : goal.first_along-along-requires
first_along-along-requires g t c κs within =
    let p = tree c.args.p.now in
    let q = tree c.args.q.now in
    let x = subst (λ path. Touching p path q c.args.other.now) c.in-Some.ensures.cases.0 c.requires.touch in
    let l = ap length c.in-Some.ensures.cases.0 in (
      omega (arith, c.decreases, l),
      (
        within.0,
        (
          within.1,
          (
            c.requires.ty,
            (
              typed_or (g.C.PatCx.context c.args.cx.now) c.args.ty p c.requires.first (ctor_of-tree c.args.p.now ∙ c.requires.or) c.in-Some.i.now (tree c.sub.result.now) c.sub.ensures.tree,
              (c.requires.second, touch_first p c.in-Some.i.now c.in-Some.rest.now q c.args.other.now (tree c.sub.result.now) c.sub.ensures.tree x),
            ),
          ),
        ),
      ),
    )

pub first_along-returns-in-Some : goal.first_along-returns-in-Some
first_along-returns-in-Some g t c =
    let iv = g.C.PatCx.is_value c.args.cx.now in
    let sure = is_sure c.args.validity in
    let p = tree c.args.p.now in
    let q = tree c.args.q.now in
    let or = ctor_of-tree c.args.p.now ∙ c.requires.or in
    subst (λ path. Tells c.along.result (MeetTogether iv c.args.ty sure p path q c.args.other.now)) (sym c.in-Some.ensures.cases.0)
    (tells c.along.result
    (first_or_back iv c.args.ty sure p c.in-Some.i.now c.in-Some.rest.now q c.args.other.now (tree c.sub.result.now) or c.sub.ensures.tree)
    (first_or_forth iv c.args.ty sure p c.in-Some.i.now c.in-Some.rest.now q c.args.other.now (tree c.sub.result.now) or c.sub.ensures.tree) c.along.ensures)

pub first_along-returns-in-None : goal.first_along-returns-in-None
first_along-returns-in-None g t c m =
    let none = nil_from_length c.args.path.now c.in-None.ensures.cases in
    first_goes (tree c.args.p.now) (tree c.args.q.now) c.args.other.now (ctor_of-tree c.args.p.now ∙ c.requires.or)
    (subst (λ path. Touching (tree c.args.p.now) path (tree c.args.q.now) c.args.other.now) none c.requires.touch)

pub second_along-sub-requires : goal.second_along-sub-requires
second_along-sub-requires g t c =
    let x = subst (λ other. Touching (tree c.args.p.now) c.args.path.now (tree c.args.q.now) other) c.in-Some.ensures.cases.0 c.requires.touch in
    subst (λ (n : ℕ). c.in-Some.j.now < n) (placed_count c.args.q.now) (second_within (tree c.args.p.now) c.args.path.now (tree c.args.q.now) c.in-Some.j.now c.in-Some.behind.now x)

pub second_along-along-requires : goal.second_along-along-requires
second_along-along-requires g t c κs within =
    let p = tree c.args.p.now in
    let q = tree c.args.q.now in
    let x = subst (λ other. Touching p c.args.path.now q other) c.in-Some.ensures.cases.0 c.requires.touch in
    let l = ap length c.in-Some.ensures.cases.0 in (
      omega (arith, c.decreases, l),
      (
        within.0,
        (
          within.1,
          (
            c.requires.ty,
            (
              c.requires.first,
              (
                typed_or (g.C.PatCx.context c.args.cx.now) c.args.ty q c.requires.second (ctor_of-tree c.args.q.now ∙ c.requires.or) c.in-Some.j.now (tree c.sub.result.now) c.sub.ensures.tree,
                touch_second p c.args.path.now q c.in-Some.j.now c.in-Some.behind.now (tree c.sub.result.now) c.sub.ensures.tree x,
              ),
            ),
          ),
        ),
      ),
    )

pub second_along-returns-in-Some : goal.second_along-returns-in-Some
second_along-returns-in-Some g t c =
    let iv = g.C.PatCx.is_value c.args.cx.now in
    let sure = is_sure c.args.validity in
    let p = tree c.args.p.now in
    let q = tree c.args.q.now in
    let or = ctor_of-tree c.args.q.now ∙ c.requires.or in
    subst (λ other. Tells c.along.result (MeetTogether iv c.args.ty sure p c.args.path.now q other)) (sym c.in-Some.ensures.cases.0)
    (tells c.along.result
    (second_or_back iv c.args.ty sure p c.args.path.now q c.in-Some.j.now c.in-Some.behind.now (tree c.sub.result.now) or c.sub.ensures.tree)
    (second_or_forth iv c.args.ty sure p c.args.path.now q c.in-Some.j.now c.in-Some.behind.now (tree c.sub.result.now) or c.sub.ensures.tree) c.along.ensures)

pub second_along-returns-in-None : goal.second_along-returns-in-None
second_along-returns-in-None g t c m =
    let none = nil_from_length c.args.other.now c.in-None.ensures.cases in
    second_goes (tree c.args.p.now) c.args.path.now (tree c.args.q.now) (ctor_of-tree c.args.q.now ∙ c.requires.or)
    (subst (λ other. Touching (tree c.args.p.now) c.args.path.now (tree c.args.q.now) other) none c.requires.touch)

-- ---- both paths

pub both_along-parts_along-requires : goal.both_along-parts_along-requires
both_along-parts_along-requires g t c κs within =
    let context = g.C.PatCx.context c.args.cx.now in
    let p = tree c.args.p.now in
    let q = tree c.args.q.now in
    let ps = first_sharp context c.args.ty p c.args.path.now q c.args.other.now c.requires.first c.requires.touch (λ e. c.requires.sharp (sym (ctor_of-tree c.args.p.now) ∙ e)) in
    let qs = second_sharp context c.args.ty p c.args.path.now q c.args.other.now c.requires.second c.requires.touch (λ e. c.requires.also_sharp (sym (ctor_of-tree c.args.q.now) ∙ e)) in
    let l = ap length c.in-Some.ensures.cases.0 in
    let m = ap length c.in-Some-split_first.ensures.cases.0 in (
      omega (arith, c.decreases, l, m),
      (
        within.0,
        (
          within.1,
          (
            c.requires.ty,
            (
              subst IsSharp (ctor_of-tree c.args.p.now) ps,
              (
                subst IsSharp (ctor_of-tree c.args.q.now) qs,
                (
                  c.requires.first,
                  (
                    c.requires.second,
                    subst (λ path. Touching p path q (c.in-Some-split_first.j.now ∷ c.in-Some-split_first.behind.now)) c.in-Some.ensures.cases.0
                        (subst (λ other. Touching p c.args.path.now q other) c.in-Some-split_first.ensures.cases.0 c.requires.touch),
                  ),
                ),
              ),
            ),
          ),
        ),
      ),
    )

pub both_along-returns-in-Some-split_first : goal.both_along-returns-in-Some-split_first
both_along-returns-in-Some-split_first g t c =
    let iv = g.C.PatCx.is_value c.args.cx.now in
    let sure = is_sure c.args.validity in
    let p = tree c.args.p.now in
    let q = tree c.args.q.now in
    subst (λ path. Tells c.parts_along.result (MeetTogether iv c.args.ty sure p path q c.args.other.now)) (sym c.in-Some.ensures.cases.0)
    (subst (λ other. Tells c.parts_along.result (MeetTogether iv c.args.ty sure p (c.in-Some.i.now ∷ c.in-Some.rest.now) q other)) (sym c.in-Some-split_first.ensures.cases.0) c.parts_along.ensures)

pub both_along-returns-in-None-split_first : goal.both_along-returns-in-None-split_first
both_along-returns-in-None-split_first g t c m =
    let cx = c.args.cx.now in
    let iv = g.C.PatCx.is_value cx in
    let context = g.C.PatCx.context cx in
    let sure = is_sure c.args.validity in
    let p = tree c.args.p.now in
    let q = tree c.args.q.now in
    let ps = first_sharp context c.args.ty p c.args.path.now q c.args.other.now c.requires.first c.requires.touch (λ e. c.requires.sharp (sym (ctor_of-tree c.args.p.now) ∙ e)) in
    let none = nil_from_length c.args.other.now c.in-None-split_first.ensures.cases in
    first_goes_on (g.C.PatCx.is_type cx) iv context (g.met.C.PatCx.values cx) (g.met.C.PatCx.parts cx) c.args.ty sure p c.in-Some.i.now c.in-Some.rest.now q c.requires.ty c.requires.first ps
    (subst (λ path. MeetTogether iv c.args.ty sure p path q []) c.in-Some.ensures.cases.0 (subst (λ other. MeetTogether iv c.args.ty sure p c.args.path.now q other) none m))

-- ---- parts of both

pub parts_along-pieces_meet-requires-clause-also_sharp : goal.parts_along-pieces_meet-requires-clause-also_sharp
parts_along-pieces_meet-requires-clause-also_sharp g t c = tree_sharp c.args.q.now c.requires.also_sharp

pub parts_along-pieces_meet-requires-clause-within : goal.parts_along-pieces_meet-requires-clause-within
parts_along-pieces_meet-requires-clause-within g t c = (
  first_within (tree c.args.p.now) c.args.i c.args.rest.now (tree c.args.q.now) (c.args.j ∷ c.args.behind.now) c.requires.touch,
  second_within (tree c.args.p.now) (c.args.i ∷ c.args.rest.now) (tree c.args.q.now) c.args.j c.args.behind.now c.requires.touch,
)

pub parts_along-returns-then-not-pieces_meet : goal.parts_along-returns-then-not-pieces_meet
parts_along-returns-then-not-pieces_meet g t c m =
    let cx = c.args.cx.now in
    let p = tree c.args.p.now in
    let q = tree c.args.q.now in
    let a = first_step p c.args.i c.args.rest.now q (c.args.j ∷ c.args.behind.now) c.requires.touch in
    let b = second_step p (c.args.i ∷ c.args.rest.now) q c.args.j c.args.behind.now c.requires.touch in
    c.if-not-pieces_meet.ensures
    (steps_forth (g.C.PatCx.is_type cx) (g.C.PatCx.is_value cx) (g.C.PatCx.context cx) (g.met.C.PatCx.values cx) (g.met.C.PatCx.parts cx) c.args.ty (is_sure c.args.validity)
    p c.args.i c.args.rest.now q c.args.j c.args.behind.now a.sub b.sub c.requires.ty c.requires.first c.requires.second
    (tree_sharp c.args.p.now c.requires.sharp) (tree_sharp c.args.q.now c.requires.also_sharp) a.there b.there m).pieces

pub parts_along-part_type-part-requires-clause-belongs : goal.parts_along-part_type-part-requires-clause-belongs
parts_along-part_type-part-requires-clause-belongs g t c =
    let context = g.C.PatCx.context c.args.cx.now in
    subst (λ d. belongs (context.set_of c.args.ty) d ≡ true) (ctor_of-tree c.args.p.now)
    (typed_sharp context c.args.ty (tree c.args.p.now) c.requires.first (tree_sharp c.args.p.now c.requires.sharp)).belongs

pub parts_along-part_type-part-requires-clause-below : goal.parts_along-part_type-part-requires-clause-below
parts_along-part_type-part-requires-clause-below g t c =
    let context = g.C.PatCx.context c.args.cx.now in
    let y = typed_sharp context c.args.ty (tree c.args.p.now) c.requires.first (tree_sharp c.args.p.now c.requires.sharp) in
    let l = first_within (tree c.args.p.now) c.args.i c.args.rest.now (tree c.args.q.now) (c.args.j ∷ c.args.behind.now) c.requires.touch in
    subst (λ d. c.args.i < context.arity d c.args.ty) (ctor_of-tree c.args.p.now) (subst (λ (n : ℕ). c.args.i < n) y.count l)

pub parts_along-sub-requires : goal.parts_along-sub-requires
parts_along-sub-requires g t c =
    subst (λ (n : ℕ). c.args.i < n) (placed_count c.args.p.now) (first_within (tree c.args.p.now) c.args.i c.args.rest.now (tree c.args.q.now) (c.args.j ∷ c.args.behind.now) c.requires.touch)

pub parts_along-sub-requires-2 : goal.parts_along-sub-requires-2
parts_along-sub-requires-2 g t c =
    subst (λ (n : ℕ). c.args.j < n) (placed_count c.args.q.now) (second_within (tree c.args.p.now) (c.args.i ∷ c.args.rest.now) (tree c.args.q.now) c.args.j c.args.behind.now c.requires.touch)

pub parts_along-along-requires : goal.parts_along-along-requires
parts_along-along-requires g t c κs within =
    let cx = c.args.cx.now in
    let iv = g.C.PatCx.is_value cx in
    let context = g.C.PatCx.context cx in
    let p = tree c.args.p.now in
    let q = tree c.args.q.now in
    let ps = tree_sharp c.args.p.now c.requires.sharp in
    let qs = tree_sharp c.args.q.now c.requires.also_sharp in
    let x = typed_sharp context c.args.ty p c.requires.first ps in
    let y = typed_sharp context c.args.ty q c.requires.second qs in
    let il = first_within p c.args.i c.args.rest.now q (c.args.j ∷ c.args.behind.now) c.requires.touch in
    let jl = second_within p (c.args.i ∷ c.args.rest.now) q c.args.j c.args.behind.now c.requires.touch in
    let same = same_part (g.C.PatCx.is_type cx) iv context (g.met.C.PatCx.values cx) (g.met.C.PatCx.parts cx) c.args.ty (is_sure c.args.validity) p q c.args.i c.args.j c.requires.ty c.requires.first c.requires.second ps qs il jl c.if-not-pieces_meet.ensures in
    let here = ap (λ d. context.sub d c.args.ty c.args.i) (ctor_of-tree c.args.p.now) ∙ sym c.part_type-part.ensures.value in (
      omega (arith, c.decreases),
      (
        within.0,
        (
          within.1,
          (
            c.part_type-part.ensures.is,
            (
              subst (λ u. IsTyped context u (tree c.sub.result.now)) here (x.subs c.args.i (tree c.sub.result.now) c.sub.ensures.tree),
              (
                subst (λ u. IsTyped context u (tree c.sub-2.result.now)) (same ∙ here) (y.subs c.args.j (tree c.sub-2.result.now) c.sub-2.ensures.tree),
                touch_second (tree c.sub.result.now) c.args.rest.now q c.args.j c.args.behind.now (tree c.sub-2.result.now) c.sub-2.ensures.tree
                    (touch_first p c.args.i c.args.rest.now q (c.args.j ∷ c.args.behind.now) (tree c.sub.result.now) c.sub.ensures.tree c.requires.touch),
              ),
            ),
          ),
        ),
      ),
    )

pub parts_along-returns : goal.parts_along-returns
parts_along-returns g t c =
    let cx = c.args.cx.now in
    let iv = g.C.PatCx.is_value cx in
    let context = g.C.PatCx.context cx in
    let p = tree c.args.p.now in
    let q = tree c.args.q.now in
    let sure = is_sure c.args.validity in
    let ps = tree_sharp c.args.p.now c.requires.sharp in
    let qs = tree_sharp c.args.q.now c.requires.also_sharp in
    let a = tree c.sub.result.now in
    let b = tree c.sub-2.result.now in
    let here = sym (ap (λ d. context.sub d c.args.ty c.args.i) (ctor_of-tree c.args.p.now) ∙ sym c.part_type-part.ensures.value) in
    let inside = sym (ap (λ d. sure_inside d sure) (ctor_of-tree c.args.p.now) ∙ sym c.inside.ensures) in
    tells c.along.result
    (λ m. steps_back (g.C.PatCx.is_type cx) iv context (g.met.C.PatCx.values cx) (g.met.C.PatCx.parts cx) c.args.ty sure p c.args.i c.args.rest.now q c.args.j c.args.behind.now a b
    c.requires.ty c.requires.first c.requires.second ps qs c.sub.ensures.tree c.sub-2.ensures.tree (record { pieces = c.if-not-pieces_meet.ensures; below = m }))
    (λ m. (steps_forth (g.C.PatCx.is_type cx) iv context (g.met.C.PatCx.values cx) (g.met.C.PatCx.parts cx) c.args.ty sure p c.args.i c.args.rest.now q c.args.j c.args.behind.now a b
    c.requires.ty c.requires.first c.requires.second ps qs c.sub.ensures.tree c.sub-2.ensures.tree m).below)
    (subst (λ u. Tells c.along.result (MeetTogether iv u (sure_inside (ctor_of p) sure) a c.args.rest.now b c.args.behind.now)) here
    (subst (λ s. Tells c.along.result (MeetTogether iv c.part_type-part.result s a c.args.rest.now b c.args.behind.now)) inside c.along.ensures))

pub both_along-returns-in-None : goal.both_along-returns-in-None
both_along-returns-in-None g t c =
    let cx = c.args.cx.now in
    let iv = g.C.PatCx.is_value cx in
    let context = g.C.PatCx.context cx in
    let sure = is_sure c.args.validity in
    let p = tree c.args.p.now in
    let q = tree c.args.q.now in
    let none = nil_from_length c.args.path.now c.in-None.ensures.cases in
    let touch = subst (λ path. Touching p path q c.args.other.now) none c.requires.touch in
    let qs = second_sharp context c.args.ty p c.args.path.now q c.args.other.now c.requires.second c.requires.touch (λ e. c.requires.also_sharp (sym (ctor_of-tree c.args.q.now) ∙ e)) in
    subst (λ path. Tells c.is_empty.result (MeetTogether iv c.args.ty sure p path q c.args.other.now)) (sym none)
    (both_end (g.C.PatCx.is_type cx) iv context (g.met.C.PatCx.values cx) (g.met.C.PatCx.parts cx) c.args.ty sure p q c.args.other.now c.is_empty.result c.requires.ty c.requires.first c.requires.second
    (tree_forward c.args.p.now) (tree_forward c.args.q.now) qs touch c.is_empty.ensures)
