use Rattle.std.proofs.Common.{◌≡◌, ℕ, List, Bool, length, refl, sym, ap, ◌∙◌}
use Rattle.std.proofs.lemmas.Option.{slice_get_read}
use Rattle.type_table.specs.Entries.{entry_below, entry_id}
use Rattle.type_table.specs.Possible.{lacks_own}
use Rattle.type_table.proofs.FieldLemmas.{all_at}
use Rattle.type_table.proofs.EndlessItems.{endless_here, none_more, none_at_all}
use Rattle.type_table.proofs.endless.first_endless.Goals as goal

pub lacks_values-requires : goal.lacks_values-requires
lacks_values-requires c =
    let items = c.args.items.now in
    let e = c.index-items-i.result in
    record {
      below = ap (λ (xs : List Bool). entry_below (length xs) e) c.deref.ensures.value
          ∙ (ap (λ (n : ℕ). entry_below n e) c.in_ok-values.ensures.len
          ∙ all_at (entry_below (length c.args.nodes.now)) items c.loop-i.i e c.requires.below
          (slice_get_read items (length items) c.loop-i.i e refl c.loop-i-test.true c.index-items-i.is));
    }

pub returns-then-lacks_values : goal.returns-then-lacks_values
returns-then-lacks_values c =
    let e = c.index-items-i.result in
    let lacks = ap (λ (xs : List Bool). lacks_own xs (entry_id e)) (sym c.deref.ensures.value) ∙ (sym c.lacks_values.ensures ∙ c.if-lacks_values.true) in (
      endless_here c.args._width c.args.nodes.now c.args.items.now c.requires.below c.requires.own c.in_ok-values.values.items c.in_ok-values.ensures
          c.loop-i.i e c.loop-i-test.true c.index-items-i.is lacks,
      c.loop-i.invariant,
    )

pub loop-i-preserved : goal.loop-i-preserved
loop-i-preserved c =
    let e = c.index-items-i.result in
    let lacks = ap (λ (xs : List Bool). lacks_own xs (entry_id e)) (sym c.deref.ensures.value) ∙ (sym c.lacks_values.ensures ∙ c.if-lacks_values.false) in
    none_more c.args._width c.args.nodes.now c.args.items.now c.requires.below c.requires.own c.in_ok-values.values.items c.in_ok-values.ensures
    c.loop-i.i e c.loop-i-test.true c.index-items-i.is lacks c.loop-i.invariant

pub returns : goal.returns
returns c =
    none_at_all c.args._width c.args.nodes.now c.args.items.now c.requires.below c.requires.own c.in_ok-values.values.items c.in_ok-values.ensures
    c.loop-i.i c.loop-i-test.false c.loop-i.invariant
