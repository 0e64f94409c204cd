use Rattle.std.proofs.Common.{◌≡◌, ◌++◌, ◌∙◌, List, map, filter_map, length, ap, subst, sym, arith}
use Rattle.std.specs.List.{All}
use Rattle.std.proofs.lemmas.List.{length-map}
use Rattle.constructor_sets.specs.Columns.{plain_ctors, plain_piece}
use Rattle.constructor_sets.specs.Present.{present_piece}
use Rattle.constructor_sets.specs.declared.piece.Span.{Span}
use Rattle.pat_context.specs.Views.{plain_ctor}
use Rattle.pattern_matrix.specs.Columns.{plain_column}
use Rattle.pattern_matrix.specs.Parts.{IsFull}
use Rattle.pattern_matrix.specs.Sparse.{columns_from}
use Rattle.witnesses.specs.Views.{plain_stack, plain_names}
use Rattle.witnesses.specs.declared.stack.Stack.{Stack}
use Rattle.witness_search.specs.Found.{AreOfPieces, AreNumbered}
use Rattle.witness_search.specs.Opened.{places_of}
use Rattle.witness_search.specs.Wells.{apart_heads}
use Rattle.witness_search.proofs.search.start_pieces.Goals as goal

pub returns-clause-gone : goal.returns-clause-gone
returns-clause-gone g c =
    let cx = c.args.cx.now in
    let e = c.args.e in
    let cut = c.in_ok-cut.cut in
    let others = c.args.opened.now.items in
    let pieces = map plain_piece cut.pieces.items in
    record {
      apart = c.requires.apart;
      cut = c.in_ok-cut.ensures;
      found = λ us h. subst (λ (ws : List Stack). AreOfPieces (g.C.PatCx.context cx) (g.C.PatCx.is_value cx) (plain_names cut.names.items) (plain_column e.place.column) (places_of others) (apart_heads others e) pieces
          (map plain_stack ws ++ us)) (sym c.new.ensures.items) h;
      left = subst (λ ks. AreNumbered (plain_ctors cut.ctors.items) ks (filter_map present_piece pieces))
          (sym (c.in_ok-todo.ensures.pieces ∙ ap (columns_from 0) (omega (arith, c.len.ensures, cut.ctors.ok.0, length-map cut.ctors.items plain_ctor)))) c.in_ok-cut.ensures.numbered;
      full = subst (λ (ss : List Span). All (IsFull ss) c.in_ok-todo.todo.items) c.deref.ensures.value c.in_ok-todo.ensures.full;
    }
