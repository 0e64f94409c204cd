use Rattle.std.proofs.Common.{◌≡◌, ◌+◌, List, true, map, take, Some, refl, sym, ap, ◌∙◌, rules, subst}
use Rattle.std.specs.Rc.{rc_str_bytes}
use Rattle.std.specs.Prelude.{option_map, slice_get, IfOk}
use Rattle.match_model.specs.Types.{MType, MTypes, TupleType, types_list}
use Rattle.match_model.specs.Types.{types_of as types_of_list}
use Rattle.decl_syntax.specs.Types.{type_view, types_from}
use Rattle.decl_syntax.specs.Types as written
use Rattle.decl_syntax.specs.declared.ty.Ty.{Ty}
use Rattle.decl_syntax.specs.declared.ty.Ty.TheFolds.{the_lemmas}
use Rattle.type_names.specs.Meanings.{arguments_sized}
use Rattle.type_names.specs.Views.{means_in, meaning_view}
use Rattle.type_names.specs.Written.{types_of, named_type}
use Rattle.type_table.specs.Nodes.{types_in}
use Rattle.type_names.proofs.Places.{front_more}
use Rattle.type_table.proofs.Declares.{ok_keeps, keeps_then, keeps_none, keeps_on, keeps_meant, keeps_twice}
use Rattle.type_table.proofs.NodeLemmas.{extends_twice}
use Rattle.type_table.proofs.TypeNodes.{id_below, ids_below, ids_types, list_there, tuple_seen, named_seen, ids_more}
use Rattle.type_table.proofs.written.+written.Goals as goal

pub type_id-intern_all-requires-clause-below : goal.type_id-intern_all-requires-clause-below
type_id-intern_all-requires-clause-below t c = ids_below c.type_ids.new.nodes.keys c.in_ok-ids-in-Tuple.ids.items _ c.in_ok-ids-in-Tuple.ensures.types_are

pub type_id-intern_one-requires-clause-below : goal.type_id-intern_one-requires-clause-below
type_id-intern_one-requires-clause-below t c = id_below c.type_id.new.nodes.keys c.in_ok-id-in-Point.id _ c.in_ok-id-in-Point.ensures.type_is

pub type_id-slice_id-requires-clause-below : goal.type_id-slice_id-requires-clause-below
type_id-slice_id-requires-clause-below t c = id_below c.type_id-in-Slice.new.nodes.keys c.in_ok-id-in-Slice.id _ c.in_ok-id-in-Slice.ensures.type_is

pub type_id-array_id-requires-clause-below : goal.type_id-array_id-requires-clause-below
type_id-array_id-requires-clause-below t c = id_below c.type_id-in-Array.new.nodes.keys c.in_ok-id-in-Array.id _ c.in_ok-id-in-Array.ensures.type_is

pub type_id-named_id-requires-clause-below : goal.type_id-named_id-requires-clause-below
type_id-named_id-requires-clause-below t c = ids_below c.type_ids-in-Named.new.nodes.keys c.in_ok-ids-in-Named.ids.items _ c.in_ok-ids-in-Named.ensures.types_are

pub type_id-returns-in_ok-ids-in-Tuple-clause-type_is : goal.type_id-returns-in_ok-ids-in-Tuple-clause-type_is
type_id-returns-in_ok-ids-in-Tuple-clause-type_is t c =
    let names = means_in c.args.names.now in
    let trees = map type_view c.deref.result.now in
    let X : MTypes = types_of names true (types_from trees) in
    let shape : type_view c.args.ty.now ≡ written.Tuple (types_from (map type_view c.in-Tuple.parts.items)) = search (rules, the_lemmas) in
    let seen = tuple_seen names c.args.sized trees (type_view c.args.ty.now) (shape ∙ ap (λ (ps : List Ty). written.Tuple (types_from (map type_view ps))) (sym c.deref.ensures.value)) in
    let P : MType → Type 0 = λ u. IfOk c.intern_all.result (λ i. slice_get (types_in c.intern_all.new.nodes.keys) i ≡ Some u) in
    subst P
    (ap (λ (us : List MType). TupleType (types_of_list us)) (ids_types (types_in c.type_ids.new.nodes.keys) c.in_ok-ids-in-Tuple.ids.items (types_list X) c.in_ok-ids-in-Tuple.ensures.types_are)
    ∙ (ap TupleType (list_there X) ∙ seen))
    c.intern_all.ensures.type_is

pub type_id-returns-in_ok-ids-in-Named-clause-type_is : goal.type_id-returns-in_ok-ids-in-Named-clause-type_is
type_id-returns-in_ok-ids-in-Named-clause-type_is t c =
    let names = means_in c.args.names.now in
    let trees = map type_view c.deref-in-Named-2.result.now in
    let name = rc_str_bytes c.in-Named.name in
    let X : MTypes = types_of names c.arguments_sized.result (types_from trees) in
    let shape : type_view c.args.ty.now ≡ written.Named name (types_from (map type_view c.in-Named.args.items)) = search (rules, the_lemmas) in
    let meant : option_map meaning_view c.meaning.result ≡ names name = search rules in
    let sized : c.arguments_sized.result ≡ arguments_sized (names name) = search rules in
    let seen = named_seen names c.args.sized (option_map meaning_view c.meaning.result) c.arguments_sized.result name trees (type_view c.args.ty.now) meant sized
    (shape ∙ ap (λ (ps : List Ty). written.Named name (types_from (map type_view ps))) (sym c.deref-in-Named-2.ensures.value)) in
    let P : MType → Type 0 = λ u. IfOk c.named_id.result (λ i. slice_get (types_in c.named_id.new.nodes.keys) i ≡ Some u) in
    subst P
    (ap (λ (us : List MType). named_type c.args.sized (option_map meaning_view c.meaning.result) (types_of_list us)) (ids_types (types_in c.type_ids-in-Named.new.nodes.keys) c.in_ok-ids-in-Named.ids.items (types_list X) c.in_ok-ids-in-Named.ensures.types_are)
    ∙ (ap (named_type c.args.sized (option_map meaning_view c.meaning.result)) (list_there X) ∙ seen))
    c.named_id.ensures.type_is

pub type_ids-loop-ty-preserved : goal.type_ids-loop-ty-preserved
type_ids-loop-ty-preserved t c = record {
  extends = extends_twice c.args.nodes.now.keys c.loop-ty.nodes.keys c.type_id.new.nodes.keys c.loop-ty.invariant.extends c.in_ok-id.ensures.extends;
  are = c.in_ok-id.ensures.are;
  declared = keeps_twice c.loop-ty.invariant.declared c.in_ok-id.ensures.declared;
  types_are = ids_more c.loop-ty.nodes.keys c.type_id.new.nodes.keys c.loop-ty.ids.items c.push.new.self.items (means_in c.args.names.now) c.args.sized
      (map type_view (take c.loop-ty.ty-index c.args.types.now)) (map type_view (take (c.loop-ty.ty-index + 1) c.args.types.now)) (type_view c.ty-item.result) c.in_ok-id.id
      c.in_ok-id.ensures.extends c.loop-ty.invariant.types_are c.in_ok-id.ensures.type_is c.in_ok-push.ensures.items
      (front_more type_view c.args.types.now c.loop-ty.ty-index c.ty-item.result c.loop-ty-test.true c.ty-item.is);
}

pub type_id-returns-in-Never-clause-declared : goal.type_id-returns-in-Never-clause-declared
type_id-returns-in-Never-clause-declared t c = ok_keeps c.leaf.result (keeps_then (λ is. refl) (keeps_none c.args.nodes.now.keys)) c.leaf.ensures.declared

pub type_id-returns-in_ok-ids-in-Tuple-clause-declared : goal.type_id-returns-in_ok-ids-in-Tuple-clause-declared
type_id-returns-in_ok-ids-in-Tuple-clause-declared t c = ok_keeps c.intern_all.result (keeps_then (λ is. refl) c.in_ok-ids-in-Tuple.ensures.declared) c.intern_all.ensures.declared

pub type_id-returns-in_ok-id-in-Point-clause-declared : goal.type_id-returns-in_ok-id-in-Point-clause-declared
type_id-returns-in_ok-id-in-Point-clause-declared t c = ok_keeps c.intern_one.result (keeps_then (λ is. refl) c.in_ok-id-in-Point.ensures.declared) c.intern_one.ensures.declared

pub type_id-returns-in_ok-id-in-Slice-clause-declared : goal.type_id-returns-in_ok-id-in-Slice-clause-declared
type_id-returns-in_ok-id-in-Slice-clause-declared t c = ok_keeps c.slice_id.result (keeps_on c.in_ok-id-in-Slice.ensures.declared) c.slice_id.ensures.declared

pub type_id-returns-in_ok-id-in-Array-clause-declared : goal.type_id-returns-in_ok-id-in-Array-clause-declared
type_id-returns-in_ok-id-in-Array-clause-declared t c = ok_keeps c.array_id.result (keeps_on c.in_ok-id-in-Array.ensures.declared) c.array_id.ensures.declared

pub type_id-returns-in_ok-ids-in-Named-clause-declared : goal.type_id-returns-in_ok-ids-in-Named-clause-declared
type_id-returns-in_ok-ids-in-Named-clause-declared t c =
    let meant : option_map meaning_view c.meaning.result ≡ means_in c.args.names.now (rc_str_bytes c.in-Named.name) = search rules in
    ok_keeps c.named_id.result (keeps_meant (rc_str_bytes c.in-Named.name) meant c.in_ok-ids-in-Named.ensures.declared) c.named_id.ensures.declared
