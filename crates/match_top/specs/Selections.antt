-- No meaning: what a value is tried on, for the proofs of `finding` and `evaluating`.
use Rattle.std.specs.Prelude.{List}
use Rattle.decl_syntax.specs.Functions.{FunctionTree, function_view}
use Rattle.decl_syntax.specs.Items.{ItemTree}
use Rattle.match_model.specs.ArenaPatterns.{MDeMatch}
use Rattle.match_model.specs.Values.{MValue}
use Rattle.pattern_rules.specs.Verdicts.{Domain}
use Rattle.type_table.specs.declared.table.TyId.{TyId}
use Rattle.match_top.specs.declared.finding.Numbered.{Numbered}
use Rattle.match_top.specs.declared.source.Source.{Source}
use Rattle.match_top.specs.Reporting.{IsMatchOf, setting_in}
use Rattle.match_top.specs.Reports.{NumberedFunction, numbered}

-- a function with the number of its item
abbrev pub numbered_view : Numbered → NumberedFunction
numbered_view f = numbered f.number (function_view f.function.now)

-- the match is the function's, and the value is one of its domain
pub record IsReady (x : Source) (items : List ItemTree) (f : FunctionTree) (m : MDeMatch TyId) (v : MValue) : Type 0 where
  pub match_is : IsMatchOf x items f m
  pub inside : Domain (setting_in x items) f v
