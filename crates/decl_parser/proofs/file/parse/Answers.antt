use Rattle.std.proofs.Common.{length, map, ap, ◌∙◌, arith, refl}
use Rattle.std.proofs.lemmas.Result.{err_from_is_err_and}
use Rattle.std.proofs.lemmas.List.{map_push, length-map}
use Rattle.decl_lexer.specs.Tokens.{tokens_view}
use Rattle.decl_syntax.specs.Units.{units, left, unit_view}
use Rattle.decl_syntax.specs.Items.{item_view}
use Rattle.decl_parser.specs.ItemGrammar.{nothing}
use Rattle.decl_parser.proofs.CountLaws.{file_has_at_most}
use Rattle.decl_parser.proofs.FileLaws.{items_push, narrow_push, item_spelled, item_smaller, fault_stands}
use Rattle.decl_parser.proofs.file.parse.Goals as goal

pub items-init : goal.items-init
items-init c = record {
  start = left c.in_ok-rest.rest;
  head = rw c.new.ensures at c.in_ok-rest.ensures.start;
  spelled = rw c.new-items.ensures.items (nothing (left c.in_ok-rest.rest));
  narrow = rw c.new-items.ensures.items tt;
}

pub returns-in_err-item-clause-fault : goal.returns-in_err-item-clause-fault
returns-in_err-item-clause-fault c =
    let p = err_from_is_err_and c.from_residual-in_err-item.result c.from_residual-in_err-item.ensures.1 in
    rw (p.1, p.2)
    (fault_stands (units (tokens_view c.args.tokens.now)) c.items.invariant.start (left c.items.rest) (left c.in-Some.field-0.1) (map item_view c.items.items.items) (unit_view c.in-Some.field-0.0)
    c.items.invariant.head c.items.invariant.spelled c.items.invariant.narrow c.in-Some.ensures c.in_err-item.field-0.0 c.len-number.result
    (omega (arith, length-map c.items.items.items item_view, c.items.items.ok.0, c.len-number.ensures)) c.in_err-item.ensures)

pub items-smaller : goal.items-smaller
items-smaller c = item_smaller (left c.items.rest) (left c.in_ok-item.after) (item_view c.in_ok-item.item) c.in_ok-item.ensures.0

pub items-preserved : goal.items-preserved
items-preserved c =
    let pushed = ap (map item_view) c.in_ok-push.ensures.items ∙ map_push item_view c.items.items.items c.in_ok-item.item in
    record {
      start = c.items.invariant.start;
      head = c.items.invariant.head;
      spelled = rw pushed (items_push c.items.invariant.start (left c.items.rest) (left c.in_ok-item.after) (map item_view c.items.items.items) (item_view c.in_ok-item.item) c.items.invariant.spelled
          (item_spelled (left c.items.rest) (left c.in_ok-item.after) (item_view c.in_ok-item.item) c.in_ok-item.ensures.0));
      narrow = rw pushed (narrow_push (map item_view c.items.items.items) (item_view c.in_ok-item.item) c.items.invariant.narrow c.in_ok-item.ensures.1);
    }

pub returns-in_default-clause-counts : goal.returns-in_default-clause-counts
returns-in_default-clause-counts c =
    file_has_at_most (tokens_view c.args.tokens.now) (length (tokens_view c.args.tokens.now)) (map item_view c.items.items.items) refl
    (record {
      start = c.items.invariant.start;
      head = c.items.invariant.head;
      spelled = rw c.in_default.ensures at c.items.invariant.spelled;
      narrow = c.items.invariant.narrow;
    })
