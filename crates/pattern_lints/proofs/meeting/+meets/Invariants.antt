use Rattle.std.proofs.Common.{◌+◌, ◌*◌, Some}
use Rattle.pat_context.specs.Views.{plain_ctor, is_sure}
use Rattle.pattern_arena.specs.Trees.{tree, placed_subs}
use Rattle.pattern_lints.specs.Meeting.{plain_head, pattern_size, head_size, Common, PartMeets, RowsMeet, Skipped}
use Rattle.pattern_lints.proofs.PlacedMeets.{NoneYet, NoneFrom, AllDone}
use Rattle.pattern_lints.proofs.meeting.+meets.Given as goal

abbrev pub decreases-meets : goal.decreases-meets
decreases-meets g l = 20 * (head_size (plain_head l.p) + head_size (plain_head l.q)) + 11

abbrev pub decreases-lone_meets : goal.decreases-lone_meets
decreases-lone_meets g l = 20 * head_size (plain_head l.q) + 10

abbrev pub decreases-one_meets : goal.decreases-one_meets
decreases-one_meets g l = 20 * (pattern_size (tree l.p.now) + head_size (plain_head l.q)) + 9

abbrev pub decreases-sharp_meets : goal.decreases-sharp_meets
decreases-sharp_meets g l = 20 * (pattern_size (tree l.p.now) + head_size (plain_head l.q)) + 8

abbrev pub decreases-pair_meets : goal.decreases-pair_meets
decreases-pair_meets g l = 20 * (pattern_size (tree l.p.now) + pattern_size (tree l.q.now)) + 7

abbrev pub decreases-any_meets : goal.decreases-any_meets
decreases-any_meets g l = 20 * (pattern_size (tree l.p.now) + head_size (plain_head l.q)) + 6

abbrev pub decreases-pieces_meet : goal.decreases-pieces_meet
decreases-pieces_meet g l = 20 * (pattern_size (tree l.p.now) + head_size (plain_head l.q)) + 6

abbrev pub decreases-rows_meet : goal.decreases-rows_meet
decreases-rows_meet g l = 20 * (pattern_size (tree l.p.now) + head_size (plain_head l.q)) + 5

abbrev pub decreases-row_meets : goal.decreases-row_meets
decreases-row_meets g l = 20 * (pattern_size (tree l.p.now) + head_size (plain_head l.q)) + 4

abbrev pub decreases-piece_meets : goal.decreases-piece_meets
decreases-piece_meets g l = 20 * (pattern_size (tree l.p.now) + head_size (plain_head l.q)) + 3

abbrev pub decreases-parts_meet : goal.decreases-parts_meet
decreases-parts_meet g l = 20 * (pattern_size (tree l.p.now) + head_size (plain_head l.q)) + 2

abbrev pub decreases-part_meets : goal.decreases-part_meets
decreases-part_meets g l = 20 * (pattern_size (tree l.p.now) + head_size (plain_head l.q)) + 1

abbrev pub invariant-any_meets-loop-s : goal.invariant-any_meets-loop-s
invariant-any_meets-loop-s g l =
    NoneYet (placed_subs l.p) (λ s. Common (g.C.PatCx.is_value l.cx) l.ty (is_sure l.validity) (Some (tree s)) (plain_head l.q)) l.s-index

abbrev pub invariant-rows_meet-loop-i : goal.invariant-rows_meet-loop-i
invariant-rows_meet-loop-i g l =
    NoneFrom l.low (RowsMeet (g.C.PatCx.is_value l.cx) (g.C.PatCx.context l.cx) l.ty (is_sure l.validity) (Some (tree l.p)) (plain_head l.q) l.spot) l.i

abbrev pub invariant-parts_meet-loop-i : goal.invariant-parts_meet-loop-i
invariant-parts_meet-loop-i g l =
    AllDone l.n l.front l.gap
    (PartMeets (g.C.PatCx.is_value l.cx) (g.C.PatCx.context l.cx) l.ty (is_sure l.validity) (plain_ctor l.c) l.n (Skipped l.but) (Some (tree l.p)) (plain_head l.q)) l.i
