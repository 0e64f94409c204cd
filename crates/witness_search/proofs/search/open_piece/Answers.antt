use Rattle.std.proofs.Common.{◌≡◌, ◌<◌, ◌+◌, ℕ, true, List, take, length, refl, subst, sym, ap, ◌∙◌, arith}
use Rattle.std.specs.List.{All, list_any}
use Rattle.match_model.specs.Constructors.{MCtor}
use Rattle.pat_context.specs.Views.{plain_ctor}
use Rattle.constructor_sets.specs.Columns.{plain_ctors, plain_piece}
use Rattle.constructor_sets.specs.declared.piece.Piece.{Piece}
use Rattle.constructor_sets.specs.declared.piece.PieceState.TheVariants.{Present}
use Rattle.pattern_matrix.specs.Columns.{plain_column}
use Rattle.pattern_matrix.specs.Parts.{pieces_left}
use Rattle.pattern_matrix.specs.Opening.{opened_rows}
use Rattle.pattern_matrix.specs.Sparse.{leaves_listed}
use Rattle.pattern_matrix.specs.Views.{plain_rows, plain_leaves}
use Rattle.pattern_matrix.specs.declared.rows.Leaf.{Leaf}
use Rattle.witness_search.specs.Askable.{IsValued}
use Rattle.witness_search.specs.Cuts.{IsNext, IsNextOf}
use Rattle.witness_search.specs.Found.{IsEnterable, ArePieceLeaves}
use Rattle.witness_search.specs.Starts.{lists_none}
use Rattle.witness_search.proofs.Going.{at_piece, next_at}
use Rattle.witness_search.proofs.Turning.{covered, piece_look}
use Rattle.witness_search.proofs.Plain.{within_code}
use Rattle.witness_search.proofs.Steps.{covered_piece, numbers_ready}
use Rattle.witness_search.proofs.search.open_piece.Goals as goal

present_next : (ctors : List MCtor) (numbers : List ℕ) (p : Piece) → p.state ≡ Present → IsNextOf ctors numbers (plain_piece p) → IsNext ctors numbers (plain_ctor p.ctor)
present_next ctors numbers p e h = subst (λ s. IsNextOf ctors numbers (plain_ctor p.ctor, s)) e h

pub leaves_of_next-requires-clause-left : goal.leaves_of_next-requires-clause-left
leaves_of_next-requires-clause-left g c =
    let w = c.args.walk in
    let asked = c.requires.1.1.1.1.1 in
    present_next (plain_ctors w.cut.ctors.items) (pieces_left w.todo.items) c.args.piece asked.1.1
    (next_at (plain_ctors w.cut.ctors.items) (pieces_left w.todo.items) w.cut.pieces.items w.done c.args.piece asked.0 asked.1.0 c.requires.1.1.0.left)

pub is_covered-requires-clause-within : goal.is_covered-requires-clause-within
is_covered-requires-clause-within g c =
    let cx = c.args.cx.now in
    let w = c.args.walk in
    let piece = plain_ctor c.args.piece.ctor in
    let numbers = c.in_ok-leaves.leaves.items in
    let have = subst (λ (ls : List (Leaf g.row.C-Ty.Denot)). ArePieceLeaves piece (plain_leaves ls) numbers) c.deref.ensures.value c.in_ok-leaves.ensures.leaves in
    subst (λ (ns : List ℕ). All (λ k. k < length w.e.leaves.items) ns) (sym c.deref-2.ensures.value)
    (numbers_ready (g.C.PatCx.is_type cx) (g.C.PatCx.context cx) (g.C.PatCx.is_value cx) w.e piece numbers w.e.leaves.items refl have)

pub is_covered-requires-clause-rows : goal.is_covered-requires-clause-rows
is_covered-requires-clause-rows g c = let w = c.args.walk in within_code w.e.rows.items w.e.leaves.items c.requires.1.1.0.apart.within

pub returns-then-is_covered : goal.returns-then-is_covered
returns-then-is_covered g c =
    let cx = c.args.cx.now in
    let w = c.args.walk in
    let opened = c.args.opened.now.items in
    let gone = c.requires.1.1.0 in
    let asked = c.requires.1.1.1.1.1 in
    let piece = plain_ctor c.args.piece.ctor in
    let numbers = c.in_ok-leaves.leaves.items in
    let have = subst (λ (ls : List (Leaf g.row.C-Ty.Denot)). ArePieceLeaves piece (plain_leaves ls) numbers) c.deref.ensures.value c.in_ok-leaves.ensures.leaves in
    let enterable = at_piece (λ q. IsEnterable (g.C.PatCx.context cx) (plain_column w.e.place.column) q.0) w.cut.pieces.items w.done c.args.piece asked.0 asked.1.0 gone.cut.enterable in
    let told = subst (λ (ns : List ℕ). (first count : ℕ) → list_any lists_none (opened_rows w.e.place.number first count (plain_rows w.e.rows.items) (leaves_listed (plain_leaves w.e.leaves.items) ns)) ≡ true)
    c.deref-2.ensures.value (c.is_covered.ensures c.if-is_covered.true) in (
      covered (g.C.PatCx.is_type cx) (g.C.PatCx.context cx) (g.C.PatCx.is_value cx) opened w c.args.piece c.leaves_of_next.new.todo.items asked.0 asked.1.0 asked.1.1 gone
          c.in_ok-leaves.ensures.left c.in_ok-leaves.ensures.full
          (covered_piece (g.C.PatCx.is_type cx) (g.C.PatCx.context cx) (g.C.PatCx.is_value cx) (g.met.C.PatCx.parts cx) opened w.e piece numbers gone.apart enterable have told),
      c.requires.1.1.1.0,
      c.requires.1.1.1.1.0,
    )

pub enter_piece-requires-clause-ctor : goal.enter_piece-requires-clause-ctor
enter_piece-requires-clause-ctor g c =
    let cx = c.args.cx.now in
    let w = c.args.walk in
    let asked = c.requires.1.1.1.1.1 in
    at_piece (λ q. IsEnterable (g.C.PatCx.context cx) (plain_column w.e.place.column) q.0) w.cut.pieces.items w.done c.args.piece asked.0 asked.1.0 c.requires.1.1.0.cut.enterable

pub returns : goal.returns
returns g c =
    let cx = c.args.cx.now in
    let w = c.args.walk in
    let opened = c.args.opened.now in
    let now = c.enter_piece.new.opened.items in
    let inner = c.in_ok-inner.inner in
    let gone = c.requires.1.1.0 in
    let asked = c.requires.1.1.1.1.1 in
    let count : c.len-before.result ≡ length opened.items = omega (arith, c.len-before.ensures, opened.ok.0) in (
      c.in_ok-inner.ensures.well,
      c.in_ok-inner.ensures.askable g.root.arms
          (at_piece (λ q. q.1 ≡ Present → IsValued (g.C.PatCx.is_value cx) (plain_column w.e.place.column) q.0) w.cut.pieces.items w.done c.args.piece asked.0 asked.1.0 gone.cut.valued asked.1.1)
          c.requires.1.1.1.0,
      piece_look (g.C.PatCx.is_type cx) (g.C.PatCx.context cx) (g.C.PatCx.is_value cx) g.root c.args.frames.now.items c.put_frame.new.frames.items opened.items now w.e
          (record { cut = w.cut; todo = c.leaves_of_next.new.todo; done = w.done + 1; all = w.all; ctor = c.args.piece.ctor; count = inner.count; before = c.len-before.result })
          c.args.piece w.done (pieces_left w.todo.items) (plain_rows inner.rows.items) c.in_ok-put_frame.ensures
          (ap (λ n. take n now) count ∙ c.in_ok-inner.ensures.kept) gone.apart gone.cut gone.found (omega arith) asked.0 asked.1.0 refl asked.1.1
          c.in_ok-inner.ensures.count gone.left c.in_ok-leaves.ensures.left c.in_ok-leaves.ensures.full c.requires.1.1.1.0 c.requires.1.1.1.1.0 c.in_ok-inner.ensures.back,
    )
