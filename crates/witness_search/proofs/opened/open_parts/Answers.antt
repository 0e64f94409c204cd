use Rattle.std.proofs.Common.{◌++◌, length, sym, ap, ◌∙◌, arith}
use Rattle.std.proofs.lemmas.List.{length-reverse}
use Rattle.pat_context.proofs.Consequences.{few_parts}
use Rattle.pat_context.specs.Views.{plain_ctor}
use Rattle.pattern_matrix.specs.Columns.{plain_column}
use Rattle.pattern_matrix.specs.Sparse.{columns_from}
use Rattle.witness_search.specs.Opened.{numbers_of}
use Rattle.witness_search.proofs.Plain.{opened-length}
use Rattle.witness_search.proofs.opened.open_parts.Goals as goal

pub add_parts-requires : goal.add_parts-requires
add_parts-requires g c =
    let cx = c.args.cx.now in
    let columns = c.open_columns.new.columns.items in
    let piece = plain_ctor c.args.piece.now in
    let few = few_parts (g.C.PatCx.is_type cx) (g.C.PatCx.is_value cx) (g.C.PatCx.context cx) (g.met.C.PatCx.parts cx) c.args.column.now.ty piece c.requires.ty c.requires.belongs c.requires.held in
    let all = opened-length (g.C.PatCx.context cx) (plain_column c.args.column.now) piece columns c.new-parts.result.items c.new-parts.ensures.items c.in_ok-count.ensures.opened in
    let turned = ap length c.reverse.ensures.items ∙ length-reverse columns in
    omega (arith, c.requires.room, few, all, turned)

pub returns-clause-few : goal.returns-clause-few
returns-clause-few g c =
    let cx = c.args.cx.now in
    let few = few_parts (g.C.PatCx.is_type cx) (g.C.PatCx.is_value cx) (g.C.PatCx.context cx) (g.met.C.PatCx.parts cx) c.args.column.now.ty (plain_ctor c.args.piece.now) c.requires.ty c.requires.belongs c.requires.held in
    omega (arith, few, c.in_ok-count.ensures.count)

pub returns-clause-numbers : goal.returns-clause-numbers
returns-clause-numbers g c =
    let cx = c.args.cx.now in
    let columns = c.open_columns.new.columns.items in
    let all = opened-length (g.C.PatCx.context cx) (plain_column c.args.column.now) (plain_ctor c.args.piece.now) columns c.new-parts.result.items c.new-parts.ensures.items c.in_ok-count.ensures.opened in
    c.in_ok-add_parts.ensures.numbers
    ∙ ap (λ n. columns_from c.args.first n ++ numbers_of c.args.opened.now.items) (ap length c.reverse.ensures.items ∙ length-reverse columns ∙ all ∙ sym c.in_ok-count.ensures.count)
