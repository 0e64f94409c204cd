use Rattle.std.proofs.Common.{◌<◌, ◌∙◌, [], ◌∷◌, length, get_or, sym, subst, arith}
use Rattle.std.proofs.lemmas.List.{length-map}
use Rattle.std.proofs.lemmas.Option.{slice_get_within, get_or_from_slice_get}
use Rattle.constructor_sets.specs.declared.piece.Span.{Span}
use Rattle.constructor_sets.specs.Columns.{plain_ctors}
use Rattle.constructor_sets.specs.Spans.{plain_span}
use Rattle.pattern_matrix.specs.Parts.{plain_spans}
use Rattle.pattern_matrix.specs.Views.{plain_leaf}
use Rattle.pattern_matrix.proofs.Getting.{got-read}
use Rattle.usefulness.specs.Cutting.{AreEnough}
use Rattle.usefulness.specs.Frames.{IsRowIn}
use Rattle.usefulness.specs.States.{IsEnterable, plain_asked, apart_leaves, apart_rows, other_numbers, is_noted, scope_of}
use Rattle.usefulness.proofs.LoneRows.{lone_enough, lone_listed}
use Rattle.usefulness.proofs.Pieces.{spans_long, piece_leaves}
use Rattle.usefulness.proofs.Reading.{got_at, leaf_within}
use Rattle.usefulness.proofs.RowFacts.{at_get}
use Rattle.usefulness.proofs.lone.enter_lone.Goals as goal

pub index-leaf-requires : goal.index-leaf-requires
index-leaf-requires g c =
    let a = c.args.a.now in
    let long = spans_long (plain_ctors c.args.pieces.now) (apart_leaves a) (plain_spans c.args.spans.now) c.requires.spans in
    let spans = length-map c.args.spans.now plain_span in
    let leaves = length-map a.leaves.items plain_leaf in
    let within = c.in-Some.ensures.within in
    omega (arith, long, spans, leaves, within, a.leaves.ok.0)

pub index-asked-requires : goal.index-asked-requires
index-asked-requires g c =
    let a = c.args.a.now in
    let long = spans_long (plain_ctors c.args.pieces.now) (apart_leaves a) (plain_spans c.args.spans.now) c.requires.spans in
    let spans = length-map c.args.spans.now plain_span in
    let leaves = length-map a.leaves.items plain_leaf in
    let below = c.in-Some.ensures.within in
    let within : c.in-Some.k < length a.leaves.items = omega (arith, long, spans, leaves, below) in
    let of_row = leaf_within (scope_of c.args.reached.now) a c.requires.apart c.in-Some.k c.index-leaf.result.now within c.index-leaf.ensures in
    omega (arith, of_row, a.rows.ok.0)

pub note_leaf-requires : goal.note_leaf-requires
note_leaf-requires g c =
    let a = c.args.a.now in
    let scope = scope_of c.args.reached.now in
    let long = spans_long (plain_ctors c.args.pieces.now) (apart_leaves a) (plain_spans c.args.spans.now) c.requires.spans in
    let spans = length-map c.args.spans.now plain_span in
    let leaves = length-map a.leaves.items plain_leaf in
    let below = c.in-Some.ensures.within in
    let leaf = c.index-leaf.result.now in
    let asked = c.index-asked.result.now in
    let within : c.in-Some.k < length a.leaves.items = omega (arith, long, spans, leaves, below) in
    let of_row = leaf_within scope a c.requires.apart c.in-Some.k leaf within c.index-leaf.ensures in
    (at_get (IsRowIn scope (a.taken.number ∷ other_numbers a)) (apart_rows a) leaf.row (plain_asked asked) c.requires.apart.rows (got_at plain_asked a.rows.items leaf.row asked of_row c.index-asked.ensures)).arm

pub returns-in_ok-note_leaf-in-Some-clause-listed : goal.returns-in_ok-note_leaf-in-Some-clause-listed
returns-in_ok-note_leaf-in-Some-clause-listed g c = λ e piece got.
    let cx = c.args.cx.now in
    let a = c.args.a.now in
    let scope = scope_of c.args.reached.now in
    let m = is_noted c.args.reached.now in
    let missing = c.args.missing in
    let ctors = plain_ctors c.args.pieces.now in
    let number = c.args.number in
    let spans = c.args.spans.now in
    let ls = apart_leaves a in
    let long = spans_long ctors ls (plain_spans spans) c.requires.spans in
    let wide = length-map spans plain_span in
    let leaves = length-map a.leaves.items plain_leaf in
    let k = c.in-Some.k in
    let below = c.in-Some.ensures.within in
    let leaf = c.index-leaf.result.now in
    let asked = c.index-asked.result.now in
    let within : k < length a.leaves.items = omega (arith, long, wide, leaves, below) in
    let shown : k < length (plain_spans spans) = omega (arith, wide, below) in
    let of_row = leaf_within scope a c.requires.apart k leaf within c.index-leaf.ensures in
    let got_leaf = got_at plain_leaf a.leaves.items k leaf within c.index-leaf.ensures in
    let got_row = got_at plain_asked a.rows.items leaf.row asked of_row c.index-asked.ensures in
    let none : Span = record { first = 0; end = 0 } in
    let got_span = got-read plain_span spans k none below in
    let last = sym c.is_last.ensures ∙ c.if-not-is_last.false in
    let enough = lone_enough missing a spans number k (plain_leaf leaf) (plain_asked asked) (plain_span (get_or spans k none)) got_leaf got_row got_span c.args.reached.now.marks c.in-Some.ensures.first below shown last in
    let all = piece_leaves ctors number piece (slice_get_within ctors number piece got) ls (plain_spans spans) c.requires.spans (sym (get_or_from_slice_get ctors number piece piece got)) in
    lone_listed (g.C.PatCx.is_value cx) scope a c.requires.apart m (is_noted c.note_leaf.new.reached) (g.C.PatCx.context cx) piece missing
    (at_get (IsEnterable (g.C.PatCx.is_value cx) (g.C.PatCx.context cx) a) ctors number piece c.requires.pieces got)
    (plain_leaf leaf) (plain_asked asked) got_row last (subst (λ zs. AreEnough m missing a zs (plain_leaf leaf ∷ [])) all enough) c.in_ok-note_leaf-in-Some.ensures.noted
