use Rattle.std.proofs.Common.{◌≡◌, ◌∙◌, ◌+◌, ◌^◌, ◌++◌, ◌∷◌, [], List, Some, map, length, refl, sym, ap, subst, append_assoc, append-nil, length-append, arith}
use Rattle.std.specs.Prelude.{slice_get}
use Rattle.std.specs.Vec.Iter.{into_iter_items}
use Rattle.decl_syntax.specs.declared.items.Item.{Item}
use Rattle.decl_syntax.specs.Items.{ItemTree, item_view}
use Rattle.match_top.specs.Reports.{functions_of}
use Rattle.match_top.specs.Reporting.{ReportsOn, setting_in}
use Rattle.match_top.proofs.Entries.{few_there, reports_next, there_next}
use Rattle.match_top.proofs.reporting.all_entries.Goals as goal

nothing_left : (items : List Item) → length items ≡ 0 → items ≡ []
nothing_left [] h = refl
nothing_left (x ∷ items) h = absurd (omega arith)

pub add_item-requires : goal.add_item-requires
add_item-requires g c =
    let at = c.loop-item in
    let x = c.in-Some.item in
    let rest = into_iter_items c.next.new.self in
    let steps : into_iter_items at.item-iterator ≡ x ∷ rest = c.in-Some.ensures.steps.0 in
    let here : slice_get g.whole at.number ≡ Some (item_view x) =
    there_next g.whole at.yielded rest x at.number (ap (λ (r : List Item). map item_view (at.yielded ++ r)) (sym steps) ∙ at.invariant.0) at.invariant.2 in
    (c.requires.0, (here, few_there g.whole at.number x (2 ^ 32) here c.requires.1.1))

pub loop-item-preserved : goal.loop-item-preserved
loop-item-preserved g c =
    let at = c.loop-item in
    let x = c.in-Some.item in
    let rest = into_iter_items c.next.new.self in
    let steps : into_iter_items at.item-iterator ≡ x ∷ rest = c.in-Some.ensures.steps.0 in (
      ap (map item_view) (append_assoc at.yielded (x ∷ []) rest ∙ ap (λ (r : List Item). at.yielded ++ r) (sym steps)) ∙ at.invariant.0,
      reports_next c.args.command (setting_in c.args.source.now g.whole) at.yielded x at.number c.in_ok-so_far.so_far at.invariant.2
          (c.in_ok-so_far.ensures (functions_of (map item_view at.yielded)) at.invariant.1),
      ap (λ n. n + 1) at.invariant.2 ∙ sym (length-append at.yielded (x ∷ [])),
      let was = at.invariant.3 in
          let gone = c.in-Some.ensures.steps.1 in
          let short = ap length steps in
          omega arith,
    )

pub returns : goal.returns
returns g c =
    let at = c.loop-item in
    let none = c.in-None.ensures.steps in
    let empty : into_iter_items at.item-iterator ≡ [] = nothing_left _ (sym at.invariant.3 ∙ none.0) in
    let all : map item_view at.yielded ≡ g.whole =
    ap (map item_view) (sym (append-nil at.yielded) ∙ ap (λ (r : List Item). at.yielded ++ r) (sym empty)) ∙ at.invariant.0 in
    subst (λ (its : List ItemTree). ReportsOn c.args.command (setting_in c.args.source.now g.whole) (functions_of its) at.so_far) all at.invariant.1
