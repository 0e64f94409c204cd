use Rattle.std.proofs.Common.{◌≡◌, ◌+◌, List, ◌++◌, ap, ◌∙◌, map, length, length-append, arith}
use Rattle.std.proofs.lemmas.Result.{IfOk-weaker}
use Rattle.slice_split.specs.Shapes.{plain_shape}
use Rattle.match_model.specs.Constructors.{RowCtor}
use Rattle.match_model.specs.ArenaPatterns.{de_pat, de_pats_of}
use Rattle.pattern_arena.specs.declared.pattern.DePat.{DePat}
use Rattle.pattern_arena.specs.Trees.{tree, plain_bound}
use Rattle.type_table.specs.declared.table.TyId.{TyId}
use Rattle.type_table.specs.Tables.{table_program, table_type}
use Rattle.pattern_rules.specs.Builders.{list_of}
use Rattle.pattern_elaboration.specs.Given.{trees, given}
use Rattle.pattern_elaboration.specs.Rests.{fixed}
use Rattle.pattern_elaboration.specs.Walking.{plain}
use Rattle.pattern_elaboration.proofs.RowLists.{row_shown}
use Rattle.pattern_elaboration.proofs.rows.row_over.Goals as goal

pub returns-clause-shown : goal.returns-clause-shown
returns-clause-shown c = λ table written m row is.
    let front = c.args.front.now in
    let back = c.args.back.now in
    let items : c.in_ok-subs.subs.items ≡ front ++ back = c.in_ok-subs.ensures in
    let subs : c.in_ok-subs-2.subs.now ≡ front ++ back = c.in_ok-subs-2.ensures ∙ (c.deref.ensures.value ∙ items) in
    let count : c.len.result ≡ length front + length back =
    omega (
      arith,
      c.len.ensures,
      c.in_ok-subs.subs.ok.0,
      ap
          (λ (xs : List (DePat TyId)). length xs) items,
      length-append front back,
    ) in
    IfOk-weaker c.make.result
    (λ p. tree p ≡ de_pat (RowCtor (plain_shape c.row_shape-shape.result)) c.args.ty c.in_ok-uid.uid 0
    (de_pats_of (trees c.in_ok-subs-2.subs.now)) (map plain_bound c.in_ok-binds.binds.now))
    (λ p. plain table p ≡ list_of (table_program table) (fixed (given (table_type table) front)) written
    (fixed (given (table_type table) back)) (table_type table c.args.ty) m)
    (λ p e. row_shown (table_type table) (table_program table) front back written m c.args.ty c.in_ok-uid.uid
    (plain_shape c.row_shape-shape.result)
    (map plain_bound c.in_ok-binds.binds.now) (tree p) row
    (c.row_shape-shape.ensures written m is count)
    (c.in_ok-binds.ensures written m is)
    (e
    ∙ ap (λ (xs : List (DePat TyId)). de_pat (RowCtor (plain_shape c.row_shape-shape.result)) c.args.ty
    c.in_ok-uid.uid 0 (de_pats_of (trees xs)) (map plain_bound c.in_ok-binds.binds.now)) subs))
    c.make.ensures
