use Rattle.std.proofs.Common.{rules, ◌≡◌, subst}
use Rattle.decl_lexer.specs.Tokens.{tokens_view, IsFaultOf}
use Rattle.decl_syntax.specs.Units.{left, units}
use Rattle.value_syntax.specs.Trees.{written_view}
use Rattle.decl_syntax.specs.Reading.{Fails}
use Rattle.value_syntax.specs.ValueReading.{whole_value}
use Rattle.value_syntax.proofs.Texts.{spelled_by, unspelled_by, broken_by}
use Rattle.value_syntax.proofs.reading.read_written.Goals as goal

pub returns-in-Err-Rule-clause-none : goal.returns-in-Err-Rule-clause-none
returns-in-Err-Rule-clause-none c =
    let same : c.as_bytes.result.now ≡ c.args.text.now = search rules in
    broken_by c.args.text.now c.as_bytes.result.now c.in-Err-Rule.field-0-0 c.in-Err-Rule.field-0-1 same
    (subst (λ f. IsFaultOf c.as_bytes.result.now f) c.in-Err-Rule.field-0-is c.in-Err-Rule.ensures.fault)

pub returns-in-Ok-whole_value-clause-written : goal.returns-in-Ok-whole_value-clause-written
returns-in-Ok-whole_value-clause-written c =
    let same : c.as_bytes.result.now ≡ c.args.text.now = search rules in
    let ts = tokens_view c.in-Ok.tokens in
    let us : left c.new.result ≡ units ts = c.new.ensures in
    spelled_by c.args.text.now c.as_bytes.result.now ts (left c.new.result)
    (written_view c.in-Ok-whole_value.value) same c.in-Ok.ensures.tokens us c.in-Ok-whole_value.ensures

pub returns-in-Err-Syntax-clause-none : goal.returns-in-Err-Syntax-clause-none
returns-in-Err-Syntax-clause-none c =
    let same : c.as_bytes.result.now ≡ c.args.text.now = search rules in
    let ts = tokens_view c.in-Ok.tokens in
    let us : left c.new.result ≡ units ts = c.new.ensures in
    unspelled_by c.args.text.now c.as_bytes.result.now ts (left c.new.result) same c.in-Ok.ensures.tokens us
    (subst (λ e. Fails e (whole_value (left c.new.result))) c.in-Err-Syntax.field-0-is c.in-Err-Syntax.ensures)
