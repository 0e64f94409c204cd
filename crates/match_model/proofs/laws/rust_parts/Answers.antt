use Rattle.match_model.proofs.RustParts.{rust_parts}
use Rattle.match_model.proofs.laws.rust_parts.Goals as goal

pub returns : goal.returns
returns c = rust_parts
