use Rattle.std.proofs.Common.{Some, refl}
use Rattle.std.specs.Rc.{rc_str_bytes}
use Rattle.type_names.specs.NameMaps.{get_by_name}
use Rattle.decl_syntax.specs.Items.{variant_view}
use Rattle.type_names.proofs.Places.{places_more}
use Rattle.type_names.proofs.names.variant_places.Goals as goal

pub loop-i-preserved : goal.loop-i-preserved
loop-i-preserved c =
    places_more variant_view (λ v. Some v.name) c.args.variants.now c.loop-i.i c.index-variants-i.result (get_by_name c.loop-i.places) (get_by_name c.note.new.places)
    (Some (rc_str_bytes c.index-variants-i.result.name)) c.loop-i-test.true c.index-variants-i.is c.loop-i.invariant refl c.in_ok-note.ensures
