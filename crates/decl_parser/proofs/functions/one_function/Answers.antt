use Rattle.decl_syntax.proofs.Joined.{one_reading}
use Rattle.decl_parser.specs.FunctionGrammar.{SpellsFunction}
use Rattle.decl_parser.specs.FunctionReading.{function_at}
use Rattle.decl_parser.proofs.FunctionLaws.{functions}
use Rattle.decl_parser.proofs.functions.one_function.Goals as goal

pub returns : goal.returns
returns c = one_reading SpellsFunction function_at functions
