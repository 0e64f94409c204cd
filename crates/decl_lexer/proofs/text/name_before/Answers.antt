use Rattle.unicode_ident.specs.Ident.{is_xid_continue}
use Rattle.std.proofs.Common.{◌≡◌, ◌-◌, length, take, ap, length-append, ◌∙◌, arith}
use Rattle.std.proofs.lemmas.Grind.{common_steps}
use Rattle.decl_lexer.proofs.TextLemmas.{front_is, may_cut, cut_is, cut_chars}
use Rattle.decl_lexer.proofs.text.name_before.Goals as goal

pub overflow_sub-text : goal.overflow_sub-text
overflow_sub-text c =
    let whole = ap length (front_is is_xid_continue c.args.text.now c.args.rest.now c.utf8.text c.utf8.rest c.requires) ∙ length-append _ c.args.rest.now in
    omega (arith, whole)

pub range-requires-clause-end_boundary : goal.range-requires-clause-end_boundary
range-requires-clause-end_boundary c = may_cut is_xid_continue c.args.text.now c.args.rest.now c.utf8.text c.utf8.rest c.requires

pub returns-clause-bytes : goal.returns-clause-bytes
returns-clause-bytes c =
    let text = c.args.text.now in
    let rest = c.args.rest.now in
    let cut : c.range.result.now ≡ take (length text - length rest) text = c.range.ensures.value ∙ grind (arith, common_steps) in
    cut ∙ cut_is is_xid_continue text rest c.utf8.text c.utf8.rest c.requires

pub returns-clause-name : goal.returns-clause-name
returns-clause-name c =
    cut_chars is_xid_continue c.args.text.now c.args.rest.now c.range.result.now c.utf8.text c.utf8.rest c.range.utf8 c.requires (returns-clause-bytes c)
