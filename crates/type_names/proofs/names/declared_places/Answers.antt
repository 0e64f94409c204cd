use Rattle.type_names.specs.NameMaps.{get_by_name}
use Rattle.decl_syntax.specs.Items.{item_view}
use Rattle.type_names.specs.Meanings.{declared_name}
use Rattle.type_names.proofs.Places.{places_more}
use Rattle.type_names.proofs.names.declared_places.Goals as goal

pub loop-i-preserved : goal.loop-i-preserved
loop-i-preserved c =
    places_more item_view (λ i. declared_name i.kind) c.args.items.now c.loop-i.i c.index-items-i.result (get_by_name c.loop-i.places) (get_by_name c.note.new.places) _
    c.loop-i-test.true c.index-items-i.is c.loop-i.invariant c.declared_name.ensures c.in_ok-note.ensures
