use Rattle.std.proofs.Common.{◌≡◌, ◌≤◌, ◌+◌, ◌++◌, ◌∷◌, [], pos, Vec, ap, sym, subst, ◌∙◌, add-one, rules}
use Rattle.std.specs.Global.{Global}
use Rattle.match_model.specs.Declarations.{node_types}
use Rattle.range_split.specs.declared.num.Num.{Num}
use Rattle.type_table.specs.Tables.{table_program, table_type}
use Rattle.witnesses.specs.Views.{plain_witness}
use Rattle.witness_names.proofs.PartLists.{stayed}
use Rattle.arm_maker.specs.Keys.{arm_key, ends_count}
use Rattle.arm_maker.specs.Turns.{values}
use Rattle.arm_maker.proofs.PartKeys.{row_added, keys_from, moved, next_part, no_part}
use Rattle.arm_maker.proofs.keys.+key.Goals as goal
use Rattle.arm_maker.proofs.keys.+key.Goals.{push_parts-then-i-count+in_ok-push_key, push_parts-else-i-count}

pub push_row-returns : goal.push_row-returns
push_row-returns t c =
    let program = table_program c.args.table.now in
    let here = table_type c.args.table.now c.args.ty in
    let w = plain_witness c.args.witness.now in
    let count : values c.push_count.new.key.items ≡ values c.args.key.now.items ++ (pos (ends_count w) ∷ []) = search rules in
    row_added program here (values c.args.key.now.items) (values c.push_count.new.key.items)
    (values c.push_front.new.key.items) (values c.push_back.new.key.items) w
    (table_type c.args.table.now c.behind-item.result) c.requires.row c.behind-item.ensures.is count
    c.in_ok-push_front.ensures c.in_ok-push_back.ensures

pub push_parts-loop-part-preserved : goal.push_parts-loop-part-preserved
push_parts-loop-part-preserved t c =
    let table = c.args.table.now in
    let program = table_program table in
    let o = node_types program (table_type table c.args.ty) c.args.variant in
    let ps = c.args.parts.now in
    let i = c.loop-part.i in
    let k = c.loop-part.part-index in
    elim c.if-i-count.branch [
      | push_parts-then-i-count+in_ok-push_key w ↦
          let place = table_type table w.field.result in
          let next = next_part program o ps i k c.part-item.result place c.loop-part-test.true c.part-item.is
          w.field.ensures.type_is in
          let index = w.i-is ∙ add-one i in
          let grown = ap (λ (f : Vec Num Global). values f.items) w.key-is ∙ w.in_ok-push_key.ensures in
          moved (values c.loop-part.key.items) _ (arm_key program place (plain_witness c.part-item.result)) _ _ _ grown
          (next ∙ ap (λ j. arm_key program place (plain_witness c.part-item.result) ++ keys_from program o ps j
          (k + 1)) (sym index))
          c.loop-part.invariant
      | push_parts-else-i-count w ↦
          let past = subst (λ n. n ≤ i) c.fields-count.ensures w.if-i-count.false in
          stayed _ _ _ _ _ (ap (λ (f : Vec Num Global). values f.items) w.key-is) (no_part program o ps i k past)
          (ap (λ j. keys_from program o ps j (k + 1)) w.i-is ∙ no_part program o ps i (k + 1) past)
          c.loop-part.invariant
    ]
