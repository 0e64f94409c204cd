use Rattle.std.proofs.Common.{◌≡◌, map, length, Option, Some, sym, ap, ◌∙◌, rules, subst}
use Rattle.std.specs.Prelude.{option_map, slice_get, IfOk}
use Rattle.std.proofs.lemmas.List.{length-map}
use Rattle.match_model.specs.Types.{MType}
use Rattle.match_model.specs.Types.{types_of as types_of_list}
use Rattle.type_names.specs.Meanings.{argument_count}
use Rattle.type_names.specs.Meanings as plain_meanings
use Rattle.type_names.specs.Views.{meaning_view}
use Rattle.type_names.specs.Written.{named_type}
use Rattle.type_table.specs.Nodes.{type_at, types_in}
use Rattle.type_table.specs.declared.nodes.Head.{Head}
use Rattle.type_table.specs.Readings.{type_with, head_of}
use Rattle.type_table.proofs.Declares.{ok_keeps, keeps_broken, keeps_head}
use Rattle.type_table.proofs.TypeNodes.{miscounted, counted, differ_test, same_test}
use Rattle.type_table.proofs.written.named_id.Goals as goal

pub returns-then-len-argument_count-clause-type_is : goal.returns-then-len-argument_count-clause-type_is
returns-then-len-argument_count-clause-type_is c =
    let args = map (type_at (types_in c.args.nodes.now.keys)) c.args.ids.items in
    let given : Some (meaning_view c.in-Some.meaning) ≡ option_map meaning_view c.args.meaning = search rules in
    let count : length args ≡ c.len.result = rw length-map (search rules) in
    let P : MType → Type 0 = λ t. IfOk c.broken_id-then-len-argument_count.result (λ i. slice_get (types_in c.broken_id-then-len-argument_count.new.nodes.keys) i ≡ Some t) in
    subst P
    (sym (miscounted c.args.sized (meaning_view c.in-Some.meaning) args (differ_test (length args) c.len.result c.argument_count.result (argument_count (meaning_view c.in-Some.meaning)) count c.argument_count.ensures c.if-len-argument_count.true))
    ∙ ap (λ (o : Option plain_meanings.Meaning). named_type c.args.sized o (types_of_list args)) given)
    c.broken_id-then-len-argument_count.ensures.type_is

pub returns-in-Some-head_of-clause-type_is : goal.returns-in-Some-head_of-clause-type_is
returns-in-Some-head_of-clause-type_is c =
    let args = map (type_at (types_in c.args.nodes.now.keys)) c.args.ids.items in
    let given : Some (meaning_view c.in-Some.meaning) ≡ option_map meaning_view c.args.meaning = search rules in
    let count : length args ≡ c.len.result = rw length-map (search rules) in
    let P : MType → Type 0 = λ t. IfOk c.intern_all.result (λ i. slice_get (types_in c.intern_all.new.nodes.keys) i ≡ Some t) in
    subst P
    (ap (λ (o : Option Head). type_with o args) (sym c.in-Some-head_of.is ∙ c.head_of.ensures)
    ∙ (counted c.args.sized c.in-Some.meaning args (same_test (length args) c.len.result c.argument_count.result (argument_count (meaning_view c.in-Some.meaning)) count c.argument_count.ensures c.if-len-argument_count.false)
    ∙ ap (λ (o : Option plain_meanings.Meaning). named_type c.args.sized o (types_of_list args)) given))
    c.intern_all.ensures.type_is

pub returns-then-len-argument_count-clause-declared : goal.returns-then-len-argument_count-clause-declared
returns-then-len-argument_count-clause-declared c = ok_keeps c.broken_id-then-len-argument_count.result keeps_broken c.broken_id-then-len-argument_count.ensures.declared

pub returns-in-Some-head_of-clause-declared : goal.returns-in-Some-head_of-clause-declared
returns-in-Some-head_of-clause-declared c =
    let given : Some c.in-Some.meaning ≡ c.args.meaning = search rules in
    let head : head_of c.args.sized c.in-Some.meaning ≡ Some c.in-Some-head_of.head = search rules in
    ok_keeps c.intern_all.result (keeps_head c.args.sized given head) c.intern_all.ensures.declared
