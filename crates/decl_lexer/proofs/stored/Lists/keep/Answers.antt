use Rattle.std.proofs.Common.{rules, ◌≡◌, ◌∙◌, ap, Some, true, false, string_bytes}
use Rattle.decl_lexer.specs.Begins.{Named}
use Rattle.decl_lexer.specs.Views.{read_view}
use Rattle.decl_lexer.specs.Stored.{large_entry, integer_entry, text_entry}
use Rattle.decl_lexer.proofs.StoredLemmas.{grew_same, name_shown, get_pushed}
use Rattle.decl_lexer.proofs.stored.Lists.keep.Goals as goal

pub returns-in_ok-put_name-in-Plain-default-true-clause-grows : goal.returns-in_ok-put_name-in-Plain-default-true-clause-grows
returns-in_ok-put_name-in-Plain-default-true-clause-grows c =
    (c.in_ok-put_name-in-Plain-default-true.ensures.grew, grew_same c.args.self.now.large.items, grew_same c.args.self.now.integers.items, grew_same c.args.self.now.texts.items)

pub returns-in_ok-put_name-in-Plain-default-true-clause-shows : goal.returns-in_ok-put_name-in-Plain-default-true-clause-shows
returns-in_ok-put_name-in-Plain-default-true-clause-shows c longer g =
    name_shown c.put_name.new.names.keys longer.names.keys _ c.in_ok-put_name-in-Plain-default-true.field-0 true
    c.in_ok-put_name-in-Plain-default-true.ensures.entry g.0 ∙ search rules

pub returns-in_ok-put_name-in-Plain-default-false-clause-grows : goal.returns-in_ok-put_name-in-Plain-default-false-clause-grows
returns-in_ok-put_name-in-Plain-default-false-clause-grows c =
    (c.in_ok-put_name-in-Plain-default-false.ensures.grew, grew_same c.args.self.now.large.items, grew_same c.args.self.now.integers.items, grew_same c.args.self.now.texts.items)

pub returns-in_ok-put_name-in-Plain-default-false-clause-shows : goal.returns-in_ok-put_name-in-Plain-default-false-clause-shows
returns-in_ok-put_name-in-Plain-default-false-clause-shows c longer g =
    name_shown c.put_name-in-Plain-default-false.new.names.keys longer.names.keys _ c.in_ok-put_name-in-Plain-default-false.field-0 false
    c.in_ok-put_name-in-Plain-default-false.ensures.entry g.0 ∙ search rules

pub returns-in_ok-put_name-in-Name-default-true-clause-grows : goal.returns-in_ok-put_name-in-Name-default-true-clause-grows
returns-in_ok-put_name-in-Name-default-true-clause-grows c =
    (c.in_ok-put_name-in-Name-default-true.ensures.grew, grew_same c.args.self.now.large.items, grew_same c.args.self.now.integers.items, grew_same c.args.self.now.texts.items)

pub returns-in_ok-put_name-in-Name-default-true-clause-shows : goal.returns-in_ok-put_name-in-Name-default-true-clause-shows
returns-in_ok-put_name-in-Name-default-true-clause-shows c longer g =
    let same : Named (string_bytes c.in-Name-default-true.text) true ≡ read_view c.args.kind = search rules in
    let e = c.in_ok-put_name-in-Name-default-true.ensures.entry in
    name_shown c.put_name-in-Name-default-true.new.names.keys longer.names.keys (string_bytes c.in-Name-default-true.text) c.in_ok-put_name-in-Name-default-true.field-0 true
    (e.0, e.1, e.2 ∙ c.as_str.ensures.value) g.0 ∙ same

pub returns-in_ok-put_name-in-Name-default-false-clause-grows : goal.returns-in_ok-put_name-in-Name-default-false-clause-grows
returns-in_ok-put_name-in-Name-default-false-clause-grows c =
    (c.in_ok-put_name-in-Name-default-false.ensures.grew, grew_same c.args.self.now.large.items, grew_same c.args.self.now.integers.items, grew_same c.args.self.now.texts.items)

pub returns-in_ok-put_name-in-Name-default-false-clause-shows : goal.returns-in_ok-put_name-in-Name-default-false-clause-shows
returns-in_ok-put_name-in-Name-default-false-clause-shows c longer g =
    let same : Named (string_bytes c.in-Name-default-false.text) false ≡ read_view c.args.kind = search rules in
    let e = c.in_ok-put_name-in-Name-default-false.ensures.entry in
    name_shown c.put_name-in-Name-default-false.new.names.keys longer.names.keys (string_bytes c.in-Name-default-false.text) c.in_ok-put_name-in-Name-default-false.field-0 false
    (e.0, e.1, e.2 ∙ c.as_str-in-Name-default-false.ensures.value) g.0 ∙ same

pub returns-in_ok-put-in-Err-clause-shows : goal.returns-in_ok-put-in-Err-clause-shows
returns-in_ok-put-in-Err-clause-shows c longer g =
    let same : large_entry (Some c.in-Small.number) ≡ read_view c.args.kind = search rules in
    ap large_entry (get_pushed c.args.self.now.large.items c.put.new.list.items longer.large.items c.in-Small.number c.in_ok-put-in-Err.field-0 c.in_ok-put-in-Err.ensures.list c.in_ok-put-in-Err.ensures.number g.1) ∙ same

pub returns-in_ok-put-in-Int-clause-shows : goal.returns-in_ok-put-in-Int-clause-shows
returns-in_ok-put-in-Int-clause-shows c longer g =
    let same : integer_entry (Some c.in-Int.integer) ≡ read_view c.args.kind = search rules in
    ap integer_entry (get_pushed c.args.self.now.integers.items c.put-in-Int.new.list.items longer.integers.items c.in-Int.integer c.in_ok-put-in-Int.field-0 c.in_ok-put-in-Int.ensures.list c.in_ok-put-in-Int.ensures.number g.2) ∙ same

pub returns-in_ok-put-in-Str-clause-shows : goal.returns-in_ok-put-in-Str-clause-shows
returns-in_ok-put-in-Str-clause-shows c longer g =
    let same : text_entry (Some c.in-Str.text) ≡ read_view c.args.kind = search rules in
    ap text_entry (get_pushed c.args.self.now.texts.items c.put-in-Str.new.list.items longer.texts.items c.in-Str.text c.in_ok-put-in-Str.field-0 c.in_ok-put-in-Str.ensures.list c.in_ok-put-in-Str.ensures.number g.3) ∙ same
