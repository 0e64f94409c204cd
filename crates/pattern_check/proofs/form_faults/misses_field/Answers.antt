use Rattle.std.proofs.Common.{◌≡◌, ℕ, not, ◌&&◌, List, Bor, Global, String, map, string_bytes, refl, ap, sym, ◌∙◌}
use Rattle.std.specs.Str.{bytes_eq}
use Rattle.list_members.specs.Members.{are_among}
use Rattle.decl_syntax.specs.Patterns.{field_view, fields_from}
use Rattle.type_table.specs.Lookups.{field_names}
use Rattle.type_table.specs.Tables.{table_program, table_type, type_variant}
use Rattle.pattern_rules.specs.NodeRules.{some_absent, written_names}
use Rattle.pattern_check.proofs.FieldLemmas.{absent_among}
use Rattle.pattern_check.proofs.form_faults.misses_field.Goals as goal

pub returns : goal.returns
returns c =
    let names = field_names (type_variant (table_program c.args.table.now) (table_type c.args.table.now c.args.ty) c.args.variant) in
    let written = written_names (fields_from (map field_view c.args.fields.now)) in
    let texts_of : List (Bor (List ℕ)) → List (List ℕ) = λ xs. map (λ x. x.now) xs in
    let declared : texts_of c.deref-2.result.now ≡ names
    = ap texts_of c.deref-2.ensures.value
    ∙ (c.in_ok-texts.ensures ∙ (ap (λ (xs : List (String Global)). map string_bytes xs) c.deref.ensures.value ∙ c.in_ok-declared.ensures)) in
    let wrote : texts_of c.deref-3.result.now ≡ written = ap texts_of c.deref-3.ensures.value ∙ c.in_ok-written.ensures in
    let all : c.in_ok-all.all ≡ are_among bytes_eq names written
    = c.in_ok-all.ensures
    ∙ (ap (λ (ns : List (List ℕ)). are_among bytes_eq ns (texts_of c.deref-3.result.now)) declared ∙ ap (λ (ns : List (List ℕ)). are_among bytes_eq names ns) wrote) in
    let rest : some_absent names written ≡ (not c.args.rest && some_absent names written) = rw c.if-rest.false refl in
    ap not all ∙ (sym (absent_among names written) ∙ rest)
