use Rattle.std.proofs.Common.{◌∙◌, ◌≡◌, arith, ap, sym, drop, take, map, length, rules}
use Rattle.std.specs.Box.{with_value}
use Rattle.std.specs.Prelude.{box_value}
use Rattle.std.proofs.lemmas.List.{drop-drop}
use Rattle.match_model.specs.Witness.{NodeOf, PointOf, RowOf, witnesses_of}
use Rattle.match_model.specs.WitnessList.{first_witness}
use Rattle.witnesses.specs.Views.{plain_witness, tops}
use Rattle.witnesses.specs.Rooms.{filled}
use Rattle.witnesses.specs.declared.witness.Witness.TheViews as w
use Rattle.witnesses.specs.declared.witness.Witness.TheFolds.{the_lemmas}
use Rattle.witnesses.proofs.Filling.{node_parts, row_parts, node_filled, row_filled, left_long}
use Rattle.witnesses.proofs.witness.Witness.fill.Goals as goal

pub take_into-parts-requires : goal.take_into-parts-requires
take_into-parts-requires c =
    let is : plain_witness c.args.self ≡ NodeOf c.in-Node.variant (witnesses_of (map plain_witness c.in-Node.parts.items)) = search (rules, the_lemmas) in
    let e = node_parts (plain_witness c.args.self) c.in-Node.variant c.in-Node.parts.items is in
    omega (arith, e)

pub take_into-front-requires : goal.take_into-front-requires
take_into-front-requires c =
    let is : plain_witness c.args.self ≡ RowOf (witnesses_of (map plain_witness c.in-Row.front.items)) c.in-Row.longer (witnesses_of (map plain_witness c.in-Row.back.items)) = search (rules, the_lemmas) in
    let e = row_parts (plain_witness c.args.self) c.in-Row.front.items c.in-Row.longer c.in-Row.back.items is in
    omega (arith, e)

pub take_into-back-requires : goal.take_into-back-requires
take_into-back-requires c =
    let is : plain_witness c.args.self ≡ RowOf (witnesses_of (map plain_witness c.in-Row.front.items)) c.in-Row.longer (witnesses_of (map plain_witness c.in-Row.back.items)) = search (rules, the_lemmas) in
    let e = row_parts (plain_witness c.args.self) c.in-Row.front.items c.in-Row.longer c.in-Row.back.items is in
    left_long c.take_into-front.new.open.items c.args.open.now.items (length c.in-Row.front.items) (length c.in-Row.back.items) c.take_into-front.ensures.left (omega (arith, e))

pub returns-in-Node-clause-filled : goal.returns-in-Node-clause-filled
returns-in-Node-clause-filled c =
    let is : plain_witness c.args.self ≡ NodeOf c.in-Node.variant (witnesses_of (map plain_witness c.in-Node.parts.items)) = search (rules, the_lemmas) in
    let new : plain_witness (w.Node c.in-Node.variant c.take_into-parts.result) ≡ NodeOf c.in-Node.variant (witnesses_of (map plain_witness c.take_into-parts.result.items)) = search (rules, the_lemmas) in
    node_filled (plain_witness c.args.self) _ c.in-Node.variant c.in-Node.parts.items c.take_into-parts.result.items (tops c.args.open.now.items) is new c.take_into-parts.ensures.taken

pub returns-in-Node-clause-left : goal.returns-in-Node-clause-left
returns-in-Node-clause-left c =
    let is : plain_witness c.args.self ≡ NodeOf c.in-Node.variant (witnesses_of (map plain_witness c.in-Node.parts.items)) = search (rules, the_lemmas) in
    c.take_into-parts.ensures.left ∙ ap (λ n. drop n (tops c.args.open.now.items)) (sym (node_parts (plain_witness c.args.self) c.in-Node.variant c.in-Node.parts.items is))

pub returns-in-Row-clause-filled : goal.returns-in-Row-clause-filled
returns-in-Row-clause-filled c =
    let is : plain_witness c.args.self ≡ RowOf (witnesses_of (map plain_witness c.in-Row.front.items)) c.in-Row.longer (witnesses_of (map plain_witness c.in-Row.back.items)) = search (rules, the_lemmas) in
    let new : plain_witness (w.Row c.take_into-front.result c.in-Row.longer c.take_into-back.result) ≡ RowOf (witnesses_of (map plain_witness c.take_into-front.result.items)) c.in-Row.longer (witnesses_of (map plain_witness c.take_into-back.result.items)) = search (rules, the_lemmas) in
    row_filled (plain_witness c.args.self) _ c.in-Row.front.items c.in-Row.longer c.in-Row.back.items c.take_into-front.result.items c.take_into-back.result.items (tops c.args.open.now.items) is new
    c.take_into-front.ensures.taken (c.take_into-back.ensures.taken ∙ ap (λ us. take (length c.in-Row.back.items) us) c.take_into-front.ensures.left)

pub returns-in-Row-clause-left : goal.returns-in-Row-clause-left
returns-in-Row-clause-left c =
    let is : plain_witness c.args.self ≡ RowOf (witnesses_of (map plain_witness c.in-Row.front.items)) c.in-Row.longer (witnesses_of (map plain_witness c.in-Row.back.items)) = search (rules, the_lemmas) in
    c.take_into-back.ensures.left ∙ ap (drop (length c.in-Row.back.items)) c.take_into-front.ensures.left ∙ drop-drop (length c.in-Row.back.items) (length c.in-Row.front.items) (tops c.args.open.now.items)
    ∙ ap (λ n. drop n (tops c.args.open.now.items)) (sym (row_parts (plain_witness c.args.self) c.in-Row.front.items c.in-Row.longer c.in-Row.back.items is))

pub returns-in-Point-clause-filled : goal.returns-in-Point-clause-filled
returns-in-Point-clause-filled c =
    let is : plain_witness c.args.self ≡ PointOf (plain_witness (box_value c.in-Point.inner)) = search (rules, the_lemmas) in
    let new : plain_witness (w.Point (with_value c.in-Point.inner c.pop_top.result)) ≡ PointOf (plain_witness c.pop_top.result) = search (rules, the_lemmas) in
    new ∙ ap (λ us. PointOf (first_witness us)) (sym c.pop_top.ensures) ∙ ap (λ x. filled x (tops c.args.open.now.items)) (sym is)
