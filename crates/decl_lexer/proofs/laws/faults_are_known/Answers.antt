use Rattle.decl_lexer.proofs.Sources.{faults_known}
use Rattle.decl_lexer.proofs.laws.faults_are_known.Goals as goal

pub returns : goal.returns
returns c bytes rule place h = faults_known bytes rule place h
