use Rattle.std.proofs.Common.{sym, ap, subst, ◌∙◌}
use Rattle.match_model.specs.RustTypes.{rust_set}
use Rattle.type_table.specs.Tables.{KindIs, table_program}
use Rattle.rust_context.proofs.kinds.kind_set.Goals as goal

pub returns-in-Char : goal.returns-in-Char
returns-in-Char c = λ table t w d k.
    c.char_set.ensures (table_program table).width ∙ ap (rust_set (table_program table)) (sym (subst (KindIs table t) c.in-Char.is k))
