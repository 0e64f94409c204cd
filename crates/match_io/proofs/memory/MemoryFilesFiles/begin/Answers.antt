use Rattle.std.proofs.Common.{◌≡◌, false}
use Rattle.match_io.specs.Counts.{is_listed}
use Rattle.match_io.proofs.Listed.{not_listed}
use Rattle.match_io.proofs.memory.MemoryFilesFiles.begin.Goals as goal

pub returns-then-is_failing-clause-found : goal.returns-then-is_failing-clause-found
returns-then-is_failing-clause-found c =
    λ sure _. let e : is_listed c.args.self.now.failing.items c.args.self.now.calls ≡ false = not_listed _ _ sure in cc
