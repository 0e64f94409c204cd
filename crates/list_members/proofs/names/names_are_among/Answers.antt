use Rattle.std.proofs.Common.{◌≡◌, ℕ, Bool, List, Bor, IfOk, subst}
use Rattle.std.specs.Str.{bytes_eq}
use Rattle.list_members.proofs.MemberLemmas.{among_map}
use Rattle.list_members.proofs.names.names_are_among.Goals as goal

pub returns : goal.returns
returns c = subst (λ (t : Bool). IfOk c.are_among.result (λ b. b ≡ t))
    (among_map (λ (n : Bor (List ℕ)). n.now) bytes_eq c.args.first.now c.args.second.now) c.are_among.ensures
