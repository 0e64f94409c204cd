use Rattle.decl_syntax.specs.Units.{left}
use Rattle.decl_parser.specs.FileGrammar.{no_more, one_more}
use Rattle.decl_parser.proofs.FileLaws.{attribute_sound, attribute_none, attribute_smaller}
use Rattle.decl_parser.proofs.file.start_of_items.Goals as goal

pub attributes-smaller : goal.attributes-smaller
attributes-smaller c = attribute_smaller (left c.attributes.rest) (left c.in-Ok.after) c.in-Ok.ensures

pub attributes-preserved : goal.attributes-preserved
attributes-preserved c = λ more s. c.attributes.invariant more (one_more (left c.attributes.rest) (left c.in-Ok.after) more (attribute_sound (left c.attributes.rest) (left c.in-Ok.after) c.in-Ok.ensures) s)

pub returns-in-Err-Syntax-clause-start : goal.returns-in-Err-Syntax-clause-start
returns-in-Err-Syntax-clause-start c =
    c.attributes.invariant (left c.attributes.rest) (no_more (left c.attributes.rest) (attribute_none (left c.attributes.rest) (rw c.in-Err-Syntax.field-0-is at c.in-Err-Syntax.ensures)))
