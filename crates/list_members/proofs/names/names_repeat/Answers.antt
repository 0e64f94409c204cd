use Rattle.std.proofs.Common.{◌≡◌, ℕ, Bool, List, [], Bor, IfOk, subst}
use Rattle.std.specs.Str.{bytes_eq}
use Rattle.list_members.proofs.MemberLemmas.{repeats_map}
use Rattle.list_members.proofs.names.names_repeat.Goals as goal

pub returns : goal.returns
returns c = subst (λ (t : Bool). IfOk c.repeats.result (λ b. b ≡ t)) (repeats_map (λ (n : Bor (List ℕ)). n.now) bytes_eq [] c.args.names.now) c.repeats.ensures
