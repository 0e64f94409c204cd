use Rattle.std.proofs.Common.{List, sym, ap, subst, ◌∙◌, arith}
use Rattle.std.specs.List.{dedup}
use Rattle.std.proofs.lemmas.List.{take_all}
use Rattle.match_model.specs.Pieces.{text_of}
use Rattle.std.specs.List.{filter_map}
use Rattle.constructor_sets.specs.Columns.{plain_ctors}
use Rattle.constructor_sets.specs.declared.texts.Entry.{Entry}
use Rattle.constructor_sets.specs.Texts.{AreNumbered, entry_texts, same_entry}
use Rattle.constructor_sets.proofs.Named.{named_once}
use Rattle.constructor_sets.proofs.TextSpans.{none_numbered, place_known, told_step}
use Rattle.constructor_sets.proofs.texts.told_texts.Goals as goal

pub tell-requires : goal.tell-requires
tell-requires c =
    place_known c.args.heads.now c.in_ok-order.order.items c.deref-entry-items.result.now c.loop-entry.entry-index _ (entry_texts c.loop-entry.told.named.items) c.loop-entry.told.known.items
    c.deref-entry-items.ensures.value c.in_ok-order.ensures.each c.loop-entry-test.true c.loop-entry.invariant.1

pub loop-entry-init : goal.loop-entry-init
loop-entry-init c =
    let none = c.in_ok-with_capacity.ensures.items in (
      none,
      subst (λ (es : List Entry). AreNumbered c.args.heads.now (entry_texts es) c.in_ok-vec.field-0.items) (sym none)
          (none_numbered c.args.heads.now c.in_ok-vec.field-0.items _ (omega arith) (c.in_ok-vec.ensures.items_if_clones_equal (λ y e. e))),
    )

pub loop-entry-preserved : goal.loop-entry-preserved
loop-entry-preserved c =
    told_step c.args.heads.now c.in_ok-order.order.items c.deref-entry-items.result.now c.loop-entry.entry-index _ c.loop-entry.told.named.items c.tell.new.told.named.items c.loop-entry.told.known.items
    c.tell.new.told.known.items c.deref-entry-items.ensures.value c.in_ok-order.ensures.each c.loop-entry-test.true c.loop-entry.invariant c.in_ok-tell.ensures.named c.in_ok-tell.ensures.known

pub returns-clause-named : goal.returns-clause-named
returns-clause-named c =
    named_once c.args.heads.now (filter_map text_of (plain_ctors c.args.heads.now)) c.in_ok-order.order.items c.loop-entry.told.named.items c.in_ok-order.ensures.same c.in_ok-order.ensures.each
    c.in_ok-order.ensures.sorted
    (c.loop-entry.invariant.0 ∙ ap (dedup same_entry) (take_all c.loop-entry.entry-index c.deref-entry-items.result.now c.loop-entry-test.false ∙ c.deref-entry-items.ensures.value))
