-- What is left to show of the answers on common values: each is one use of a lemma.
use Rattle.std.proofs.Common.{◌≡◌, ◌<◌, ◌≤◌, ◌+◌, ◌-◌, ℕ, true, false, Some, None, length, inl, inr, refl, sym, ap, ◌∙◌, subst, arith}
use Rattle.std.proofs.lemmas.Bool.{cases_lt}
use Rattle.match_model.specs.Constructors.{FixedShape, RowCtor, OneLength, belongs, has_piece, sure_inside}
use Rattle.match_model.specs.ArenaPatterns.{ctor_of}
use Rattle.match_model.specs.WellTyped.{is_written, IsHeadTyped}
use Rattle.match_model.proofs.Basics.{both, and_true}
use Rattle.slice_split.specs.Shapes.{plain_shape}
use Rattle.pat_context.specs.Parts.{Tells}
use Rattle.pat_context.specs.Views.{plain_ctor, is_sure}
use Rattle.pattern_arena.specs.Trees.{tree, placed_ctor, placed_subs}
use Rattle.pattern_arena.specs.declared.pattern.DePat.{out-DePat}
use Rattle.pattern_arena.proofs.TreeFacts.{ctor_of-tree}
use Rattle.pattern_lints.specs.Meeting.{plain_head, head_ctor, IsSharp, Common, part_head, AllMeet, PartMeets, PieceMeets, RowsMeet, Skipped, Stands, IsPiece, IsPatternAt, IsAlikeHead, head_size, spot_part}
use Rattle.pattern_lints.specs.Lengths.{tried_lengths}
use Rattle.pattern_lints.proofs.Sizes.{sub_smaller, size_some, parts_smaller, placed_count, placed_fits, tree_forward}
use Rattle.pattern_lints.proofs.PieceHeads.{typed_or, typed_sharp}
use Rattle.pattern_lints.proofs.PartsCommon.{common_forth, common_back, sharp_not_or}
use Rattle.pattern_lints.proofs.RowLengths.{pieces_of_rows, rows_of_pieces, one_is_tried, tried_allowed}
use Rattle.pattern_lints.proofs.Leaves.{leaves_meet}
use Rattle.pattern_lints.proofs.Told.{tells, any_value, first_fits, second_fits, piece_parts, first_typed, second_typed, all_meet, one_piece, pieces_one, pieces_alike, few_all}
use Rattle.pattern_lints.proofs.PlacedMeets.{turned, wild_told, wild_second_told, none_more, or_none, or_some, none_next, one_done, none_done, placed_sub, tree_sharp, ctor_sharp, ctor_one, ctor_leaf, tree_leaf, tree_one, spot_below, spot_pattern, not_left_out}
use Rattle.pattern_lints.proofs.meeting.+meets.Goals as goal

-- a part that is written is one of the parts
below : (i front back n k : ℕ) → i < front + back → front + back ≤ n → (i < front → k ≡ i) → (front ≤ i → k ≡ i + (n - front - back)) → k < n
below i front back n k l w before behind = elim (cases_lt i front) [
  | inl a ↦ (let e = before a in omega (arith, e, a, w))
  | inr a ↦ (let e = behind a in omega (arith, e, l, w))
]

-- ---- alternatives

pub any_meets-one_meets-requires : goal.any_meets-one_meets-requires
any_meets-one_meets-requires g t c κs within =
    let there = placed_sub c.args.p.now c.s-item.result c.loop-s.s-index c.loop-s-test.true c.s-item.is in
    let less = sub_smaller (tree c.args.p.now) c.loop-s.s-index (tree c.s-item.result) there in (
      omega (arith, c.decreases, less),
      (
        within.0,
        (
          within.1,
          (
            c.requires.ty,
            (
              typed_or (g.C.PatCx.context c.args.cx.now) c.args.ty (tree c.args.p.now) c.requires.first (ctor_of-tree c.args.p.now ∙ c.requires.or) c.loop-s.s-index (tree c.s-item.result) there,
              c.requires.second,
            ),
          ),
        ),
      ),
    )

pub any_meets-returns-then-one_meets : goal.any_meets-returns-then-one_meets
any_meets-returns-then-one_meets g t c =
    or_some (g.C.PatCx.is_value c.args.cx.now) c.args.ty (is_sure c.args.validity) c.args.p.now c.s-item.result (plain_head c.args.q) c.loop-s.s-index c.requires.or
    c.loop-s-test.true c.s-item.is c.if-one_meets.ensures

pub any_meets-loop-s-preserved : goal.any_meets-loop-s-preserved
any_meets-loop-s-preserved g t c =
    none_more (placed_subs c.args.p.now) (λ s. Common (g.C.PatCx.is_value c.args.cx.now) c.args.ty (is_sure c.args.validity) (Some (tree s)) (plain_head c.args.q))
    c.loop-s.s-index c.s-item.result c.loop-s-test.true c.s-item.is c.loop-s.invariant c.if-one_meets.ensures

pub any_meets-returns : goal.any_meets-returns
any_meets-returns g t c =
    or_none (g.C.PatCx.is_value c.args.cx.now) c.args.ty (is_sure c.args.validity) c.args.p.now (plain_head c.args.q) c.loop-s.s-index c.requires.or
    c.loop-s-test.false c.loop-s.invariant

-- ---- by the first pattern

pub lone_meets-returns-in-Some : goal.lone_meets-returns-in-Some
lone_meets-returns-in-Some g t c =
    let iv = g.C.PatCx.is_value c.args.cx.now in
    subst (λ h. Tells c.one_meets.result (Common iv c.args.ty (is_sure c.args.validity) None (plain_head h))) (sym c.in-Some.is)
    (turned iv c.args.ty (is_sure c.args.validity) (Some (tree c.in-Some.q.now)) None c.one_meets.result c.one_meets.ensures)

pub lone_meets-returns-in-None : goal.lone_meets-returns-in-None
lone_meets-returns-in-None g t c =
    let iv = g.C.PatCx.is_value c.args.cx.now in
    subst (λ h. Tells c.has_value.result (Common iv c.args.ty (is_sure c.args.validity) None (plain_head h))) (sym c.in-None.is)
    (any_value iv c.args.ty (is_sure c.args.validity) c.has_value.result c.has_value.ensures.some c.has_value.ensures.none)

pub one_meets-sharp_meets-requires : goal.one_meets-sharp_meets-requires
one_meets-sharp_meets-requires g t c κs within = (
  omega (arith, c.decreases),
  (
    within.0,
    (
      within.1,
      (
        c.requires.ty,
        (ctor_sharp (out-DePat g.row.C-Ty.Denot c.args.p.now).form.now.ctor c.in_default.not-Wild c.in_default.not-Or, (c.requires.first, c.requires.second)),
      ),
    ),
  ),
)

pub one_meets-lone_meets-requires : goal.one_meets-lone_meets-requires
one_meets-lone_meets-requires g t c κs within =
    let some = size_some (tree c.args.p.now) in
    (omega (arith, c.decreases, some), (within.0, (within.1, (c.requires.ty, c.requires.second))))

pub one_meets-returns-in-Wild : goal.one_meets-returns-in-Wild
one_meets-returns-in-Wild g t c =
    wild_told (g.C.PatCx.is_value c.args.cx.now) c.args.ty (is_sure c.args.validity) c.args.p.now (plain_head c.args.q) c.lone_meets.result (ap plain_ctor c.in-Wild.is) c.lone_meets.ensures

-- ---- by the second pattern

pub pair_meets-pieces_meet-requires-in_default : goal.pair_meets-pieces_meet-requires-in_default
pair_meets-pieces_meet-requires-in_default g t c κs within = (
  omega (arith, c.decreases),
  (
    within.0,
    (
      within.1,
      (
        c.requires.ty,
        (
          c.requires.sharp,
          (tree_sharp c.args.q.now (ctor_sharp (out-DePat g.row.C-Ty.Denot c.args.q.now).form.now.ctor c.in_default.not-Wild c.in_default.not-Or), (c.requires.first, (c.requires.second, tt))),
        ),
      ),
    ),
  ),
)

pub pair_meets-returns-in-Wild : goal.pair_meets-returns-in-Wild
pair_meets-returns-in-Wild g t c =
    let cx = c.args.cx.now in
    let iv = g.C.PatCx.is_value cx in
    let p = tree c.args.p.now in
    let sure = is_sure c.args.validity in
    wild_second_told iv c.args.ty sure (Some p) c.args.q.now c.pieces_meet.result (ap plain_ctor c.in-Wild.is)
    (tells c.pieces_meet.result
    (common_back (g.C.PatCx.is_type cx) iv (g.C.PatCx.context cx) (g.met.C.PatCx.values cx) (g.met.C.PatCx.parts cx) c.args.ty sure (Some p) None c.requires.ty c.requires.first tt)
    (common_forth (g.C.PatCx.is_type cx) iv (g.C.PatCx.context cx) (g.met.C.PatCx.values cx) (g.met.C.PatCx.parts cx) c.args.ty sure p None c.requires.ty c.requires.first tt
    (tree_sharp c.args.p.now c.requires.sharp) (λ e. cc)) c.pieces_meet.ensures)

pub pair_meets-returns-in-Or : goal.pair_meets-returns-in-Or
pair_meets-returns-in-Or g t c =
    turned (g.C.PatCx.is_value c.args.cx.now) c.args.ty (is_sure c.args.validity) (Some (tree c.args.q.now)) (Some (tree c.args.p.now)) c.any_meets.result c.any_meets.ensures

pub pair_meets-returns-in_default : goal.pair_meets-returns-in_default
pair_meets-returns-in_default g t c =
    let cx = c.args.cx.now in
    let iv = g.C.PatCx.is_value cx in
    let p = tree c.args.p.now in
    let q = tree c.args.q.now in
    let sure = is_sure c.args.validity in
    let qs = tree_sharp c.args.q.now (ctor_sharp (out-DePat g.row.C-Ty.Denot c.args.q.now).form.now.ctor c.in_default.not-Wild c.in_default.not-Or) in
    tells c.pieces_meet-in_default.result
    (common_back (g.C.PatCx.is_type cx) iv (g.C.PatCx.context cx) (g.met.C.PatCx.values cx) (g.met.C.PatCx.parts cx) c.args.ty sure (Some p) (Some q) c.requires.ty c.requires.first c.requires.second)
    (common_forth (g.C.PatCx.is_type cx) iv (g.C.PatCx.context cx) (g.met.C.PatCx.values cx) (g.met.C.PatCx.parts cx) c.args.ty sure p (Some q) c.requires.ty c.requires.first c.requires.second
    (tree_sharp c.args.p.now c.requires.sharp) (sharp_not_or (ctor_of q) qs)) c.pieces_meet-in_default.ensures

pub sharp_meets-returns-in-None : goal.sharp_meets-returns-in-None
sharp_meets-returns-in-None g t c =
    let cx = c.args.cx.now in
    let iv = g.C.PatCx.is_value cx in
    let p = tree c.args.p.now in
    let sure = is_sure c.args.validity in
    subst (λ h. Tells c.pieces_meet.result (Common iv c.args.ty sure (Some p) (plain_head h))) (sym c.in-None.is)
    (tells c.pieces_meet.result
    (common_back (g.C.PatCx.is_type cx) iv (g.C.PatCx.context cx) (g.met.C.PatCx.values cx) (g.met.C.PatCx.parts cx) c.args.ty sure (Some p) None c.requires.ty c.requires.first tt)
    (common_forth (g.C.PatCx.is_type cx) iv (g.C.PatCx.context cx) (g.met.C.PatCx.values cx) (g.met.C.PatCx.parts cx) c.args.ty sure p None c.requires.ty c.requires.first tt
    (tree_sharp c.args.p.now c.requires.sharp) (λ e. cc)) c.pieces_meet.ensures)

-- ---- one part

pub part_meets-returns-then-skips : goal.part_meets-returns-then-skips
part_meets-returns-then-skips g t c free = absurd (free c.if-skips.ensures)

pub part_meets-part_type-part-requires-clause-belongs : goal.part_meets-part_type-part-requires-clause-belongs
part_meets-part_type-part-requires-clause-belongs g t c =
    let cx = c.args.cx.now in
    (piece_parts (g.C.PatCx.is_type cx) (g.C.PatCx.is_value cx) (g.C.PatCx.context cx) (g.met.C.PatCx.values cx) (g.met.C.PatCx.parts cx) c.args.ty (plain_ctor c.args.c.now) c.args.n
    (Some (tree c.args.p.now)) (plain_head c.args.q) c.args.k c.requires.ty c.requires.piece c.requires.below).0

pub part_meets-part_type-part-requires-clause-below : goal.part_meets-part_type-part-requires-clause-below
part_meets-part_type-part-requires-clause-below g t c =
    let cx = c.args.cx.now in
    (piece_parts (g.C.PatCx.is_type cx) (g.C.PatCx.is_value cx) (g.C.PatCx.context cx) (g.met.C.PatCx.values cx) (g.met.C.PatCx.parts cx) c.args.ty (plain_ctor c.args.c.now) c.args.n
    (Some (tree c.args.p.now)) (plain_head c.args.q) c.args.k c.requires.ty c.requires.piece c.requires.below).1

pub part_meets-part_of-requires-clause-fits : goal.part_meets-part_of-requires-clause-fits
part_meets-part_of-requires-clause-fits g t c =
    let cx = c.args.cx.now in
    first_fits (g.C.PatCx.is_type cx) (g.C.PatCx.is_value cx) (g.C.PatCx.context cx) (g.met.C.PatCx.values cx) (g.met.C.PatCx.parts cx) c.args.ty (plain_ctor c.args.c.now) c.args.n
    (Some (tree c.args.p.now)) (plain_head c.args.q) c.requires.ty c.requires.first c.requires.piece

pub part_meets-part_of-requires-2-clause-fits : goal.part_meets-part_of-requires-2-clause-fits
part_meets-part_of-requires-2-clause-fits g t c =
    let cx = c.args.cx.now in
    second_fits (g.C.PatCx.is_type cx) (g.C.PatCx.is_value cx) (g.C.PatCx.context cx) (g.met.C.PatCx.values cx) (g.met.C.PatCx.parts cx) c.args.ty (plain_ctor c.args.c.now) c.args.n
    (Some (tree c.args.p.now)) (plain_head c.args.q) c.requires.ty c.requires.second c.requires.piece

pub part_meets-meets-requires : goal.part_meets-meets-requires
part_meets-meets-requires g t c κs within =
    let cx = c.args.cx.now in
    let context = g.C.PatCx.context cx in
    let piece = plain_ctor c.args.c.now in
    let h = Some (tree c.args.p.now) in
    let k = plain_head c.args.q in
    let less = parts_smaller (tree c.args.p.now) k c.args.n c.args.k in
    let first = ap head_size c.part_of.ensures in
    let second = ap head_size c.part_of-2.ensures in
    let ft = first_typed (g.C.PatCx.is_type cx) (g.C.PatCx.is_value cx) context (g.met.C.PatCx.values cx) (g.met.C.PatCx.parts cx) c.args.ty piece c.args.n h k c.args.k c.requires.ty c.requires.first c.requires.piece c.requires.below in
    let st = second_typed (g.C.PatCx.is_type cx) (g.C.PatCx.is_value cx) context (g.met.C.PatCx.values cx) (g.met.C.PatCx.parts cx) c.args.ty piece c.args.n h k c.args.k c.requires.ty c.requires.second c.requires.piece c.requires.below in (
      omega (arith, c.decreases, less, first, second),
      (
        within.0,
        (
          within.1,
          (
            c.part_type-part.ensures.is,
            (
              subst (λ u. IsHeadTyped context u (plain_head c.part_of.result)) (sym c.part_type-part.ensures.value) (subst (λ x. IsHeadTyped context (context.sub piece c.args.ty c.args.k) x) (sym c.part_of.ensures) ft),
              subst (λ u. IsHeadTyped context u (plain_head c.part_of-2.result)) (sym c.part_type-part.ensures.value) (subst (λ x. IsHeadTyped context (context.sub piece c.args.ty c.args.k) x) (sym c.part_of-2.ensures) st),
            ),
          ),
        ),
      ),
    )

pub part_meets-returns : goal.part_meets-returns
part_meets-returns g t c =
    let cx = c.args.cx.now in
    let iv = g.C.PatCx.is_value cx in
    let context = g.C.PatCx.context cx in
    let piece = plain_ctor c.args.c.now in
    tells c.meets.result (λ m free. m) (λ m. m c.if-skips.ensures)
    (subst (λ u. Tells c.meets.result (Common iv u (sure_inside piece (is_sure c.args.validity)) (part_head (Some (tree c.args.p.now)) c.args.n c.args.k) (part_head (plain_head c.args.q) c.args.n c.args.k))) c.part_type-part.ensures.value
    (subst (λ b. Tells c.meets.result (Common iv c.part_type-part.result b (part_head (Some (tree c.args.p.now)) c.args.n c.args.k) (part_head (plain_head c.args.q) c.args.n c.args.k))) c.inside.ensures
    (subst (λ h. Tells c.meets.result (Common iv c.part_type-part.result (is_sure c.inside.result) h (part_head (plain_head c.args.q) c.args.n c.args.k))) c.part_of.ensures
    (subst (λ h. Tells c.meets.result (Common iv c.part_type-part.result (is_sure c.inside.result) (plain_head c.part_of.result) h)) c.part_of-2.ensures c.meets.ensures))))

-- ---- all parts

pub parts_meet-middle_has_value-requires-clause-belongs : goal.parts_meet-middle_has_value-requires-clause-belongs
parts_meet-middle_has_value-requires-clause-belongs g t c gap =
    let cx = c.args.cx.now in
    (piece_parts (g.C.PatCx.is_type cx) (g.C.PatCx.is_value cx) (g.C.PatCx.context cx) (g.met.C.PatCx.values cx) (g.met.C.PatCx.parts cx) c.args.ty (plain_ctor c.args.c.now) c.args.n
    (Some (tree c.args.p.now)) (plain_head c.args.q) c.ends-front.result.0 c.requires.ty c.requires.piece (omega (arith, gap))).0

pub parts_meet-middle_has_value-requires-clause-below : goal.parts_meet-middle_has_value-requires-clause-below
parts_meet-middle_has_value-requires-clause-below g t c gap =
    let cx = c.args.cx.now in
    (piece_parts (g.C.PatCx.is_type cx) (g.C.PatCx.is_value cx) (g.C.PatCx.context cx) (g.met.C.PatCx.values cx) (g.met.C.PatCx.parts cx) c.args.ty (plain_ctor c.args.c.now) c.args.n
    (Some (tree c.args.p.now)) (plain_head c.args.q) c.ends-front.result.0 c.requires.ty c.requires.piece (omega (arith, gap))).1

pub parts_meet-returns-then-not-middle_has_value : goal.parts_meet-returns-then-not-middle_has_value
parts_meet-returns-then-not-middle_has_value g t c all =
    c.if-not-middle_has_value.ensures (λ gap.
    let front = c.ends-front.result.0 in
    let below : front < c.args.n = omega (arith, gap) in
    let unwritten = c.ends-front.ensures.first front below (omega arith) (omega (arith, gap)) in
    let m = all front below (not_left_out (Some (tree c.args.p.now)) c.args.n c.args.but front c.requires.left unwritten) in
    (m.value, m.is))

pub parts_meet-written_part-k-requires : goal.parts_meet-written_part-k-requires
parts_meet-written_part-k-requires g t c = omega (arith, c.loop-i-test.true, c.ends-front.ensures.within, c.ranges.n.fits)

pub parts_meet-part_meets-requires : goal.parts_meet-part_meets-requires
parts_meet-part_meets-requires g t c κs within = (
  omega (arith, c.decreases),
  (
    within.0,
    (
      within.1,
      (
        c.requires.ty,
        (
          c.requires.sharp,
          (
            c.requires.also_sharp,
            (
              c.requires.first,
              (
                c.requires.second,
                (
                  c.requires.piece,
                  below c.loop-i.i c.ends-front.result.0 c.ends-front.result.1 c.args.n c.written_part-k.result c.loop-i-test.true c.ends-front.ensures.within c.written_part-k.ensures.before c.written_part-k.ensures.behind,
                ),
              ),
            ),
          ),
        ),
      ),
    ),
  ),
)

pub parts_meet-returns-then-not-part_meets : goal.parts_meet-returns-then-not-part_meets
parts_meet-returns-then-not-part_meets g t c all =
    c.if-not-part_meets.ensures (all c.written_part-k.result
    (below c.loop-i.i c.ends-front.result.0 c.ends-front.result.1 c.args.n c.written_part-k.result c.loop-i-test.true c.ends-front.ensures.within c.written_part-k.ensures.before c.written_part-k.ensures.behind))

pub parts_meet-loop-i-init : goal.parts_meet-loop-i-init
parts_meet-loop-i-init g t c =
    none_done c.args.n c.ends-front.result.0 (c.args.n - c.ends-front.result.0 - c.ends-front.result.1)
    (PartMeets (g.C.PatCx.is_value c.args.cx.now) (g.C.PatCx.context c.args.cx.now) c.args.ty (is_sure c.args.validity) (plain_ctor c.args.c.now) c.args.n (Skipped c.args.but) (Some (tree c.args.p.now)) (plain_head c.args.q))

pub parts_meet-loop-i-preserved : goal.parts_meet-loop-i-preserved
parts_meet-loop-i-preserved g t c =
    one_done c.args.n c.ends-front.result.0 (c.args.n - c.ends-front.result.0 - c.ends-front.result.1)
    (PartMeets (g.C.PatCx.is_value c.args.cx.now) (g.C.PatCx.context c.args.cx.now) c.args.ty (is_sure c.args.validity) (plain_ctor c.args.c.now) c.args.n (Skipped c.args.but) (Some (tree c.args.p.now)) (plain_head c.args.q))
    c.loop-i.i c.written_part-k.result c.written_part-k.ensures.before c.written_part-k.ensures.behind c.loop-i.invariant c.if-not-part_meets.ensures

pub parts_meet-returns : goal.parts_meet-returns
parts_meet-returns g t c =
    let cx = c.args.cx.now in
    all_meet (g.C.PatCx.is_type cx) (g.C.PatCx.is_value cx) (g.C.PatCx.context cx) (g.met.C.PatCx.values cx) (g.met.C.PatCx.parts cx) c.args.ty (is_sure c.args.validity) (plain_ctor c.args.c.now) c.args.n
    (Skipped c.args.but) (tree c.args.p.now) (plain_head c.args.q) c.ends-front.result.0 c.ends-front.result.1 (c.args.n - c.ends-front.result.0 - c.ends-front.result.1) c.loop-i.i
    c.requires.ty c.requires.first (tree_sharp c.args.p.now c.requires.sharp) c.requires.piece c.ends-front.ensures refl c.loop-i-test.false c.if-not-middle_has_value.ensures c.loop-i.invariant

-- ---- one piece

pub piece_meets-stands-requires-clause-first : goal.piece_meets-stands-requires-clause-first
piece_meets-stands-requires-clause-first g t c =
    let cx = c.args.cx.now in
    placed_fits c.args.p.now c.args.n
    (first_fits (g.C.PatCx.is_type cx) (g.C.PatCx.is_value cx) (g.C.PatCx.context cx) (g.met.C.PatCx.values cx) (g.met.C.PatCx.parts cx) c.args.ty (plain_ctor c.args.c.now) c.args.n
    (Some (tree c.args.p.now)) (plain_head c.args.q) c.requires.ty c.requires.first c.requires.piece)

pub piece_meets-stands-requires-clause-second : goal.piece_meets-stands-requires-clause-second
piece_meets-stands-requires-clause-second g t c =
    let cx = c.args.cx.now in
    second_fits (g.C.PatCx.is_type cx) (g.C.PatCx.is_value cx) (g.C.PatCx.context cx) (g.met.C.PatCx.values cx) (g.met.C.PatCx.parts cx) c.args.ty (plain_ctor c.args.c.now) c.args.n
    (Some (tree c.args.p.now)) (plain_head c.args.q) c.requires.ty c.requires.second c.requires.piece

pub piece_meets-returns-then-not-stands : goal.piece_meets-returns-then-not-stands
piece_meets-returns-then-not-stands g t c m =
    c.if-not-stands.ensures (subst (λ d. Stands d (head_ctor (plain_head c.args.q)) c.args.n c.args.spot) (ctor_of-tree c.args.p.now) m.stand)

pub piece_meets-part_left_out-but-requires-clause-first : goal.piece_meets-part_left_out-but-requires-clause-first
piece_meets-part_left_out-but-requires-clause-first g t c =
    let cx = c.args.cx.now in
    placed_fits c.args.p.now c.args.n
    (first_fits (g.C.PatCx.is_type cx) (g.C.PatCx.is_value cx) (g.C.PatCx.context cx) (g.met.C.PatCx.values cx) (g.met.C.PatCx.parts cx) c.args.ty (plain_ctor c.args.c.now) c.args.n
    (Some (tree c.args.p.now)) (plain_head c.args.q) c.requires.ty c.requires.first c.requires.piece)

pub piece_meets-part_left_out-but-requires-clause-within : goal.piece_meets-part_left_out-but-requires-clause-within
piece_meets-part_left_out-but-requires-clause-within g t c = spot_below c.args.p.now (plain_head c.args.q) c.args.spot c.requires.within

pub piece_meets-parts_meet-requires : goal.piece_meets-parts_meet-requires
piece_meets-parts_meet-requires g t c κs within =
    let cx = c.args.cx.now in
    let fits = first_fits (g.C.PatCx.is_type cx) (g.C.PatCx.is_value cx) (g.C.PatCx.context cx) (g.met.C.PatCx.values cx) (g.met.C.PatCx.parts cx) c.args.ty (plain_ctor c.args.c.now) c.args.n
    (Some (tree c.args.p.now)) (plain_head c.args.q) c.requires.ty c.requires.first c.requires.piece in (
      omega (arith, c.decreases),
      (
        within.0,
        (
          within.1,
          (
            c.requires.ty,
            (
              c.requires.sharp,
              (
                c.requires.also_sharp,
                (
                  c.requires.first,
                  (
                    c.requires.second,
                    (
                      c.requires.piece,
                      subst (λ o. IsPatternAt (Some (tree c.args.p.now)) c.args.n o) (sym c.part_left_out-but.ensures) (spot_pattern c.args.p.now (plain_head c.args.q) c.args.n c.args.spot fits c.requires.within),
                    ),
                  ),
                ),
              ),
            ),
          ),
        ),
      ),
    )

pub piece_meets-returns : goal.piece_meets-returns
piece_meets-returns g t c =
    let cx = c.args.cx.now in
    let iv = g.C.PatCx.is_value cx in
    let context = g.C.PatCx.context cx in
    let h = Some (tree c.args.p.now) in
    let k = plain_head c.args.q in
    let same = ctor_of-tree c.args.p.now in
    let but = c.part_left_out-but.ensures ∙ ap (λ d. spot_part d c.args.n c.args.spot) (sym same) in
    tells c.parts_meet.result
    (λ all. record { stand = subst (λ d. Stands d (head_ctor k) c.args.n c.args.spot) (sym same) c.if-not-stands.ensures; all = all })
    (λ m. m.all)
    (subst (λ o. Tells c.parts_meet.result (AllMeet iv context c.args.ty (is_sure c.args.validity) (plain_ctor c.args.c.now) c.args.n (Skipped o) h k)) but c.parts_meet.ensures)

-- ---- pieces

pub pieces_meet-returns-then-not-is_alike : goal.pieces_meet-returns-then-not-is_alike
pieces_meet-returns-then-not-is_alike g t c m =
    let cx = c.args.cx.now in
    c.if-not-is_alike.ensures (subst (λ d. IsAlikeHead d (plain_head c.args.q)) (ctor_of-tree c.args.p.now)
    (pieces_alike (g.C.PatCx.is_type cx) (g.C.PatCx.is_value cx) (g.C.PatCx.context cx) (g.met.C.PatCx.values cx) (g.met.C.PatCx.parts cx) c.args.ty (is_sure c.args.validity) (tree c.args.p.now)
    (plain_head c.args.q) c.args.spot (tree_sharp c.args.p.now c.requires.sharp) c.requires.also_sharp m))

pub pieces_meet-rows_meet-requires : goal.pieces_meet-rows_meet-requires
pieces_meet-rows_meet-requires g t c κs within = (
  omega (arith, c.decreases),
  (
    within.0,
    (
      within.1,
      (
        c.requires.ty,
        (
          (plain_shape c.in-Row.field-0, ap plain_ctor c.in-Row.is),
          (c.requires.also_sharp, (c.requires.first, (c.requires.second, c.requires.within))),
        ),
      ),
    ),
  ),
)

pub pieces_meet-piece_meets-requires : goal.pieces_meet-piece_meets-requires
pieces_meet-piece_meets-requires g t c κs within =
    let cx = c.args.cx.now in
    let same = ctor_of-tree c.args.p.now in
    let alike = subst (λ d. IsAlikeHead d (plain_head c.args.q)) (sym same) c.if-not-is_alike.ensures in
    let piece = one_piece (g.C.PatCx.is_type cx) (g.C.PatCx.is_value cx) (g.C.PatCx.context cx) (g.met.C.PatCx.values cx) (g.met.C.PatCx.parts cx) c.args.ty (tree c.args.p.now) (plain_head c.args.q)
    (length (placed_subs c.args.p.now)) c.requires.ty c.requires.first (tree_one c.args.p.now (ctor_one (out-DePat g.row.C-Ty.Denot c.args.p.now).form.now.ctor c.in-Single.is))
    (tree_sharp c.args.p.now c.requires.sharp) alike (sym (placed_count c.args.p.now)) in (
      omega (arith, c.decreases),
      (
        within.0,
        (
          within.1,
          (
            c.requires.ty,
            (
              c.requires.sharp,
              (
                c.requires.also_sharp,
                (
                  c.requires.first,
                  (
                    c.requires.second,
                    (
                      c.requires.within,
                      subst (λ d. IsPiece (g.C.PatCx.context cx) c.args.ty d (length (placed_subs c.args.p.now)) (Some (tree c.args.p.now)) (plain_head c.args.q)) same piece,
                    ),
                  ),
                ),
              ),
            ),
          ),
        ),
      ),
    )

pub pieces_meet-returns-in-Single : goal.pieces_meet-returns-in-Single
pieces_meet-returns-in-Single g t c =
    let cx = c.args.cx.now in
    let iv = g.C.PatCx.is_value cx in
    let context = g.C.PatCx.context cx in
    let p = tree c.args.p.now in
    let k = plain_head c.args.q in
    let n = length (placed_subs c.args.p.now) in
    let same = ctor_of-tree c.args.p.now in
    let one = tree_one c.args.p.now (ctor_one (out-DePat g.row.C-Ty.Denot c.args.p.now).form.now.ctor c.in-Single.is) in
    let sharp = tree_sharp c.args.p.now c.requires.sharp in
    let alike = subst (λ d. IsAlikeHead d k) (sym same) c.if-not-is_alike.ensures in
    let piece = one_piece (g.C.PatCx.is_type cx) iv context (g.met.C.PatCx.values cx) (g.met.C.PatCx.parts cx) c.args.ty p k n c.requires.ty c.requires.first one sharp alike (sym (placed_count c.args.p.now)) in
    let x = pieces_one (g.C.PatCx.is_type cx) iv context (g.met.C.PatCx.values cx) (g.met.C.PatCx.parts cx) c.args.ty (is_sure c.args.validity) p k c.args.spot n c.requires.ty c.requires.first one sharp piece in
    tells c.piece_meets.result x.0 x.1
    (subst (λ d. Tells c.piece_meets.result (PieceMeets iv context c.args.ty (is_sure c.args.validity) d n (Some p) k c.args.spot)) (sym same) c.piece_meets.ensures)

pub pieces_meet-returns-in_default : goal.pieces_meet-returns-in_default
pieces_meet-returns-in_default g t c =
    let cx = c.args.cx.now in
    let p = tree c.args.p.now in
    let k = plain_head c.args.q in
    let same = ctor_of-tree c.args.p.now in
    let sharp = tree_sharp c.args.p.now c.requires.sharp in
    let written = subst (λ d. is_written d ≡ true) same (typed_sharp (g.C.PatCx.context cx) c.args.ty p c.requires.first sharp).written in
    leaves_meet (g.C.PatCx.is_type cx) (g.C.PatCx.is_value cx) (g.C.PatCx.context cx) (g.met.C.PatCx.values cx) (g.met.C.PatCx.parts cx)
    (g.C.PatCx.empty_of cx) (g.C.PatCx.variant_empty_of cx) (g.met.C.PatCx.empty cx) (g.met.C.PatCx.unsure cx)
    c.args.ty (is_sure c.args.validity) p k c.args.spot c.requires.ty c.requires.first c.requires.second
    (tree_leaf c.args.p.now (ctor_leaf (out-DePat g.row.C-Ty.Denot c.args.p.now).form.now.ctor c.requires.sharp written c.in_default.not-Single c.in_default.not-Point c.in_default.not-Variant c.in_default.not-Row))
    sharp c.requires.also_sharp (tree_forward c.args.p.now) (subst (λ d. IsAlikeHead d k) (sym same) c.if-not-is_alike.ensures) c.requires.within

-- ---- rows

pub row_meets-returns-then-not-have_piece : goal.row_meets-returns-then-not-have_piece
row_meets-returns-then-not-have_piece g t c m =
    let row = RowCtor (FixedShape c.args.n) in
    let first = subst (λ d. has_piece d row ≡ true) (ctor_of-tree c.args.p.now) m.first in
    let h : false ≡ true = sym c.if-not-have_piece.true ∙ c.have_piece.ensures ∙ and_true (has_piece (placed_ctor c.args.p.now) row) (has_piece (head_ctor (plain_head c.args.q)) row) first m.second in cc

pub row_meets-piece_meets-requires : goal.row_meets-piece_meets-requires
row_meets-piece_meets-requires g t c κs within =
    let row = RowCtor (FixedShape c.args.n) in
    let same = ctor_of-tree c.args.p.now in
    let b = both (has_piece (placed_ctor c.args.p.now) row) (has_piece (head_ctor (plain_head c.args.q)) row) (sym c.have_piece.ensures ∙ c.if-not-have_piece.false) in (
      omega (arith, c.decreases),
      (
        within.0,
        (
          within.1,
          (
            c.requires.ty,
            (
              subst IsSharp (sym c.requires.row.1) tt,
              (
                c.requires.also_sharp,
                (
                  c.requires.first,
                  (
                    c.requires.second,
                    (
                      c.requires.within,
                      record { by = OneLength c.args.n; is = refl; of_set = c.requires.allowed; count = refl; first = subst (λ d. has_piece d row ≡ true) (sym same) b.0; second = b.1 },
                    ),
                  ),
                ),
              ),
            ),
          ),
        ),
      ),
    )

pub row_meets-returns : goal.row_meets-returns
row_meets-returns g t c =
    let row = RowCtor (FixedShape c.args.n) in
    let same = ctor_of-tree c.args.p.now in
    let b = both (has_piece (placed_ctor c.args.p.now) row) (has_piece (head_ctor (plain_head c.args.q)) row) (sym c.have_piece.ensures ∙ c.if-not-have_piece.false) in
    tells c.piece_meets.result
    (λ a. record { allowed = c.requires.allowed; first = subst (λ d. has_piece d row ≡ true) (sym same) b.0; second = b.1; stand = a.stand; all = a.all })
    (λ a. record { stand = a.stand; all = a.all }) c.piece_meets.ensures

pub rows_meet-lengths-low-requires-clause-first : goal.rows_meet-lengths-low-requires-clause-first
rows_meet-lengths-low-requires-clause-first g t c =
    let cx = c.args.cx.now in
    few_all (g.C.PatCx.is_type cx) (g.C.PatCx.is_value cx) (g.C.PatCx.context cx) (g.met.C.PatCx.values cx) (g.met.C.PatCx.parts cx) c.args.ty (Some (tree c.args.p.now)) c.requires.ty c.requires.first
    (tree_sharp c.args.p.now (subst IsSharp (sym c.requires.row.1) tt))

pub rows_meet-lengths-low-requires-clause-second : goal.rows_meet-lengths-low-requires-clause-second
rows_meet-lengths-low-requires-clause-second g t c =
    let cx = c.args.cx.now in
    few_all (g.C.PatCx.is_type cx) (g.C.PatCx.is_value cx) (g.C.PatCx.context cx) (g.met.C.PatCx.values cx) (g.met.C.PatCx.parts cx) c.args.ty (plain_head c.args.q) c.requires.ty c.requires.second c.requires.also_sharp

pub rows_meet-overflow_add-low : goal.rows_meet-overflow_add-low
rows_meet-overflow_add-low g t c = omega (arith, c.lengths-low.ensures.held, c.loop-i-test.true)

pub rows_meet-row_meets-requires : goal.rows_meet-row_meets-requires
rows_meet-row_meets-requires g t c κs within =
    let cx = c.args.cx.now in
    let context = g.C.PatCx.context cx in
    let h = Some (tree c.args.p.now) in
    let k = plain_head c.args.q in
    let same = ctor_of-tree c.args.p.now ∙ c.requires.row.1 in
    let sharp = tree_sharp c.args.p.now (subst IsSharp (sym c.requires.row.1) tt) in
    let b = subst (λ d. belongs (context.set_of c.args.ty) d ≡ true) same (typed_sharp context c.args.ty (tree c.args.p.now) c.requires.first sharp).belongs in
    let low = c.lengths-low.ensures.first ∙ ap (λ s. (tried_lengths s c.args.spot h k).0) c.set-set.ensures in
    let count = c.lengths-low.ensures.count ∙ ap (λ s. (tried_lengths s c.args.spot h k).1) c.set-set.ensures in (
      omega (arith, c.decreases),
      (
        within.0,
        (
          within.1,
          (
            c.requires.ty,
            (
              c.requires.row,
              (
                c.requires.also_sharp,
                (
                  c.requires.first,
                  (
                    c.requires.second,
                    (
                      c.requires.within,
                      tried_allowed (context.set_of c.args.ty) c.requires.row.0 c.args.spot h k (c.lengths-low.result.0 + c.loop-i.i) b (omega (arith, low)) (omega (arith, low, count, c.loop-i-test.true)),
                    ),
                  ),
                ),
              ),
            ),
          ),
        ),
      ),
    )

pub rows_meet-returns-then-row_meets : goal.rows_meet-returns-then-row_meets
rows_meet-returns-then-row_meets g t c =
    let cx = c.args.cx.now in
    pieces_of_rows (g.C.PatCx.is_type cx) (g.C.PatCx.is_value cx) (g.C.PatCx.context cx) (g.met.C.PatCx.values cx) (g.met.C.PatCx.parts cx) c.args.ty (is_sure c.args.validity)
    (Some (tree c.args.p.now)) (plain_head c.args.q) c.args.spot (c.lengths-low.result.0 + c.loop-i.i) c.if-row_meets.ensures

pub rows_meet-loop-i-init : goal.rows_meet-loop-i-init
rows_meet-loop-i-init g t c m l u = absurd (omega (arith, l, u))

pub rows_meet-loop-i-preserved : goal.rows_meet-loop-i-preserved
rows_meet-loop-i-preserved g t c =
    none_next c.lengths-low.result.0
    (RowsMeet (g.C.PatCx.is_value c.args.cx.now) (g.C.PatCx.context c.args.cx.now) c.args.ty (is_sure c.args.validity) (Some (tree c.args.p.now)) (plain_head c.args.q) c.args.spot)
    c.loop-i.i c.loop-i.invariant c.if-row_meets.ensures

pub rows_meet-returns : goal.rows_meet-returns
rows_meet-returns g t c m =
    let cx = c.args.cx.now in
    let iv = g.C.PatCx.is_value cx in
    let context = g.C.PatCx.context cx in
    let h = Some (tree c.args.p.now) in
    let k = plain_head c.args.q in
    let sure = is_sure c.args.validity in
    let sharp = tree_sharp c.args.p.now (subst IsSharp (sym c.requires.row.1) tt) in
    let z = rows_of_pieces (g.C.PatCx.is_type cx) iv context (g.met.C.PatCx.values cx) (g.met.C.PatCx.parts cx) c.args.ty sure h k c.args.spot c.requires.row.0 (ctor_of-tree c.args.p.now ∙ c.requires.row.1) m in
    let x = one_is_tried (g.C.PatCx.is_type cx) iv context (g.met.C.PatCx.values cx) (g.met.C.PatCx.parts cx) c.args.ty sure h k c.args.spot z.0 c.requires.ty c.requires.first c.requires.second sharp c.requires.also_sharp c.requires.within z.1 in
    let low = c.lengths-low.ensures.first ∙ ap (λ s. (tried_lengths s c.args.spot h k).0) c.set-set.ensures in
    let count = c.lengths-low.ensures.count ∙ ap (λ s. (tried_lengths s c.args.spot h k).1) c.set-set.ensures in
    c.loop-i.invariant x.number (omega (arith, low, x.from_low)) (omega (arith, low, count, x.below, c.loop-i-test.false)) x.meet

pub any_meets-loop-s-init : goal.any_meets-loop-s-init
any_meets-loop-s-init g t c i s l e = absurd (omega (arith, l))
