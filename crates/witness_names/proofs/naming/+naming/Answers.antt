use Rattle.std.proofs.Common.{◌≡◌, ℕ, ◌+◌, ◌<◌, ◌≤◌, ◌++◌, Bool, Bor, Vec, List, [], ◌∷◌, Option, Some, map, rules, ap, sym, subst, ◌∙◌, add-one}
use Rattle.std.specs.Global.{Global}
use Rattle.std.specs.Prelude.{option_map}
use Rattle.std.proofs.lemmas.List.{map-append}
use Rattle.match_model.specs.Declarations.{node_types}
use Rattle.type_table.specs.Tables.{table_program, table_type, type_variant}
use Rattle.witness_text.specs.declared.named.NamedField.{NamedField}
use Rattle.witness_text.specs.declared.named.NamedWitness.{NamedWitness}
use Rattle.witness_text.specs.declared.named.NamedWitness.TheFolds.{the_lemmas}
use Rattle.witness_text.specs.Trees.{FieldTree, witness_view, field_view}
use Rattle.witness_names.proofs.PartLists.{parts_from, trees_from, part_there, moved, ended, next_part, no_part, next_field, no_field, no_name, no_witness, stayed}
use Rattle.match_model.specs.Witness.{PointOf}
use Rattle.type_table.specs.declared.table.TyId.{TyId}
use Rattle.witnesses.specs.Views.{plain_witness}
use Rattle.witnesses.specs.declared.witness.Witness.TheFolds.{the_lemmas as plain_lemmas}
use Rattle.witness_names.specs.Lookups.{pointed, pointed_view}
use Rattle.witness_names.specs.Points.{point_kinds, put_behind}
use Rattle.witness_names.proofs.Points.{behind_step, named_points}
use Rattle.witness_names.proofs.naming.+naming.Goals as goal
use Rattle.witness_names.proofs.naming.+naming.Goals.{name_fields-then-i-count+in-Some+in_ok-witness+in_ok-push, name_fields-else-i-count, name_parts-then-i-count+in_ok-witness+in_ok-push, name_parts-else-i-count}

pub name_fields-returns-in_default : goal.name_fields-returns-in_default
name_fields-returns-in_default t c =
    let table = c.args.table.now in
    let program = table_program table in
    let v = type_variant program (table_type table c.args.ty) c.args.variant in
    let o = node_types program (table_type table c.args.ty) c.args.variant in
    let none = sym c.field_name.ensures ∙ ap (λ (n : Option (Bor (List ℕ))). option_map (λ s. s.now) n)
    c.in_default.is in
    ended _ _ _ (no_name c.args.paths program v o c.args.parts.now c.loop-part.i c.loop-part.part-index none) c.loop-part.invariant

pub name_fields-field-place-requires-clause-there : goal.name_fields-field-place-requires-clause-there
name_fields-field-place-requires-clause-there t c =
    let table = c.args.table.now in
    part_there (node_types (table_program table) (table_type table c.args.ty) c.args.variant) c.loop-part.i
    (subst (λ n. c.loop-part.i < n) c.fields-count.ensures c.if-i-count.true)

pub name_fields-loop-part-preserved : goal.name_fields-loop-part-preserved
name_fields-loop-part-preserved t c =
    let table = c.args.table.now in
    let program = table_program table in
    let v = type_variant program (table_type table c.args.ty) c.args.variant in
    let o = node_types program (table_type table c.args.ty) c.args.variant in
    let ps = c.args.parts.now in
    let i = c.loop-part.i in
    let k = c.loop-part.part-index in
    elim c.if-i-count.branch [
      | name_fields-then-i-count+in-Some+in_ok-witness+in_ok-push w ↦
          let named = sym w.field_name.ensures ∙ ap (λ (n : Option (Bor (List ℕ))). option_map (λ s. s.now) n)
          w.in-Some.is in
          let next = next_field c.args.paths program o ps i k v c.part-item.result _ (witness_view w.in_ok-witness.witness) _
          c.loop-part-test.true c.part-item.is
          w.field-place.ensures.type_is w.in_ok-witness.ensures named in
          let index = w.i-is ∙ add-one i in
          let seen : field_view (record { name = w.in-Some.name; witness = w.in_ok-witness.witness })
          ≡ record { name = w.in-Some.name.now; witness = witness_view w.in_ok-witness.witness } =
          search (rules, the_lemmas) in
          let grown = ap (λ (f : Vec NamedField Global). map field_view f.items) w.fields-is
          ∙ (ap (map field_view) w.in_ok-push.ensures.items
          ∙ (map-append field_view c.loop-part.fields.items _
          ∙ ap (λ (f : FieldTree). map field_view c.loop-part.fields.items ++ f ∷ []) seen)) in
          moved _ _ _ _ _ _ grown (next ∙ ap (λ j. record {
            name = w.in-Some.name.now;
            witness = witness_view
                w.in_ok-witness.witness;
          } ∷ trees_from c.args.paths program v o ps j (k + 1)) (sym index)) c.loop-part.invariant
      | name_fields-else-i-count w ↦
          let past = subst (λ n. n ≤ i) c.fields-count.ensures w.if-i-count.false in
          stayed _ _ _ _ _ (ap (λ (f : Vec NamedField Global). map field_view f.items) w.fields-is) (no_field c.args.paths program
          v o ps i k past)
          (ap (λ j. trees_from c.args.paths program v o ps j (k + 1)) w.i-is
          ∙ no_field c.args.paths program v o ps i (k + 1) past) c.loop-part.invariant
    ]

pub name_fields-returns : goal.name_fields-returns
name_fields-returns t c =
    let table = c.args.table.now in
    let program = table_program table in
    let v = type_variant program (table_type table c.args.ty) c.args.variant in
    let o = node_types program (table_type table c.args.ty) c.args.variant in
    ended _ _ _ (no_witness c.args.paths program v o c.args.parts.now c.loop-part.i c.loop-part.part-index c.loop-part-test.false)
    c.loop-part.invariant

pub name_points-returns : goal.name_points-returns
name_points-returns t c =
    let table = c.args.table.now in
    let program = table_program table in
    let here = table_type table c.args.ty in
    let u = table_type table c.in-Some.next in
    let inner = plain_witness c.deref.result.now in
    let is : plain_witness c.args.witness.now ≡ PointOf inner = search (rules, plain_lemmas) in
    let there : pointed here ≡ Some (c.in-Some._mutable, u) = sym c.pointed.ensures.is
    ∙ ap (λ (o : Option (Bool × TyId)). option_map (pointed_view table) o) c.in-Some.is in
    c.in_ok-all.ensures
    ∙ ap (λ (ks : List Bool). put_behind ks (witness_view c.in_ok-last.last)) c.in_ok-kinds.ensures
    ∙ ap (put_behind (point_kinds (plain_witness c.args.witness.now) here))
    (c.in_ok-last.ensures ∙ c.behind_points.ensures.named c.args.paths
    ∙ behind_step c.args.paths program here u c.in-Some._mutable inner (plain_witness c.args.witness.now) there is)
    ∙ named_points c.args.paths program (plain_witness c.args.witness.now) here

pub name_parts-loop-part-preserved : goal.name_parts-loop-part-preserved
name_parts-loop-part-preserved t c =
    let table = c.args.table.now in
    let program = table_program table in
    let o = node_types program (table_type table c.args.ty) c.args.variant in
    let ps = c.args.parts.now in
    let i = c.loop-part.i in
    let k = c.loop-part.part-index in
    elim c.if-i-count.branch [
      | name_parts-then-i-count+in_ok-witness+in_ok-push w ↦
          let next = next_part c.args.paths program o ps i k c.part-item.result _ (witness_view w.in_ok-witness.witness)
          c.loop-part-test.true c.part-item.is
          w.field-place.ensures.type_is w.in_ok-witness.ensures in
          let index = w.i-is ∙ add-one i in
          let grown = ap (λ (f : Vec NamedWitness Global). map witness_view f.items) w.named-is
          ∙ (ap (map witness_view) w.in_ok-push.ensures.items
          ∙ map-append witness_view c.loop-part.named.items _) in
          moved _ _ _ _ _ _ grown (next ∙ ap (λ j. witness_view w.in_ok-witness.witness
          ∷ parts_from c.args.paths program o ps j (k + 1)) (sym index)) c.loop-part.invariant
      | name_parts-else-i-count w ↦
          let past = subst (λ n. n ≤ i) c.fields-count.ensures w.if-i-count.false in
          stayed _ _ _ _ _ (ap (λ (f : Vec NamedWitness Global). map witness_view f.items) w.named-is) (no_part c.args.paths
          program o ps i k past)
          (ap (λ j. parts_from c.args.paths program o ps j (k + 1)) w.i-is
          ∙ no_part c.args.paths program o ps i (k + 1) past) c.loop-part.invariant
    ]
