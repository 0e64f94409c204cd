use Rattle.std.proofs.Common.{◌≡◌, ◌++◌, ◌∷◌, [], ◌∙◌, length, map, take, ap, sym, arith, length-append}
use Rattle.std.proofs.lemmas.List.{map-append, take_all}
use Rattle.std.specs.List.{flat_map}
use Rattle.keyed_matrix.specs.Views.{plain_heads, plain_row, plain_rows}
use Rattle.decision_tree.specs.Known.{head_uid, known_row}
use Rattle.decision_tree.specs.KnownViews.{plain_known_heads, plain_known_row, plain_known_rows}
use Rattle.decision_tree.proofs.KnownRows.{size_all, size-more, rows-more}
use Rattle.decision_tree.proofs.RunTests.{rows-until}
use Rattle.decision_tree.proofs.tells.known_matrix.Goals as goal

pub loop-row-init : goal.loop-row-init
loop-row-init g c = record {
  told = ap (λ rs. plain_known_rows c.in_ok-heads.heads.items rs) c.in_ok-all.ensures.items;
  sizes = ap length c.in_ok-heads.ensures.items ∙ sym (ap size_all c.in_ok-all.ensures.items);
}

pub known_row-requires : goal.known_row-requires
known_row-requires g c =
    ap (flat_map plain_known_heads) c.deref-in-loop-row.ensures.value ∙ c.in_ok-list_heads.ensures
    ∙ ap (λ hs. map head_uid (plain_heads hs)) c.deref.ensures.value

pub loop-row-preserved : goal.loop-row-preserved
loop-row-preserved g c =
    let loop = c.loop-row in
    let rows = c.args.rows.now in
    let k = loop.row-index in
    let row = c.row-item.result in
    let one = c.in_ok-new.new in
    let own = c.deref-in-loop-row.result.now in
    let more = c.deref-in-loop-row-2.result.now in
    let same : own ≡ more = c.deref-in-loop-row.ensures.value ∙ sym c.deref-in-loop-row-2.ensures.value in
    let size : one.size ≡ length more = c.in_ok-new.ensures.size ∙ ap length same in
    let longer = c.in_ok-extend_from_slice.ensures.items in
    let pushed = c.in_ok-push.ensures.items in
    let shown : plain_known_row more one ≡ known_row (plain_row row) =
    ap (λ hs. plain_known_row hs one) (sym same) ∙ c.in_ok-new.ensures.row in
    record {
      told =
          ap (λ hs. plain_known_rows hs c.push.new.self.items) longer
          ∙ ap (plain_known_rows (loop.heads.items ++ more)) pushed
          ∙ rows-more loop.all.items loop.heads.items more one loop.invariant.sizes size
          ∙ (λ i. loop.invariant.told i ++ shown i ∷ [])
          ∙ sym (ap (map known_row) (rows-until rows k row c.loop-row-test.true c.row-item.is)
          ∙ map-append known_row (plain_rows (take k rows)) (plain_row row ∷ []));
      sizes =
          (let a = ap length longer ∙ length-append loop.heads.items more in
          let b = ap size_all pushed ∙ size-more loop.all.items one in
          let before = loop.invariant.sizes in
          omega (arith, a, b, size, before));
    }

pub returns : goal.returns
returns g c = λ i. record {
  columns = c.in_ok-columns.ensures i;
  rows = (ap (λ hs. plain_known_rows hs c.loop-row.all.items) c.shrink_to_fit.ensures.items
      ∙ c.loop-row.invariant.told
      ∙ ap (λ rs. map known_row (plain_rows rs))
      (take_all c.loop-row.row-index c.args.rows.now c.loop-row-test.false)) i;
}
