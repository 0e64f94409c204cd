use Rattle.std.proofs.Common.{◌≡◌, ℕ, List, ◌||◌, rules, ap, ◌∙◌}
use Rattle.std.specs.Rc.{rc_str_bytes}
use Rattle.std.specs.Str.{bytes_eq}
use Rattle.type_names.specs.NameMaps.{contains_name}
use Rattle.type_names.proofs.InsertLemmas.{has_inserted}
use Rattle.type_names.proofs.Places.{same_functions}
use Rattle.type_names.proofs.name_rules.take_name.Goals as goal

pub returns-clause-taken : goal.returns-clause-taken
returns-clause-taken c =
    let copied : rc_str_bytes c.in_ok-copy.copy ≡ rc_str_bytes c.args.name.now = search rules in
    same_functions (λ q.
    has_inserted c.args.taken.now.keys c.insert.new.self.keys c.in_ok-copy.copy q c.in_ok-is_new.ensures.keys
    ∙ ap (λ (n : List ℕ). contains_name c.args.taken.now q || bytes_eq q n) copied)
