use Rattle.std.proofs.Common.{◌≡◌, true, false, map, refl, sym, ◌∙◌}
use Rattle.pattern_rules.specs.Namings.{is_path_name}
use Rattle.pattern_check.specs.Walks.{text_at}
use Rattle.pattern_check.proofs.NameLists.{adds_none}
use Rattle.pattern_check.proofs.FieldLemmas.{if_ok}
use Rattle.pattern_check.proofs.bound.bind_bare.Goals as goal

pub returns-then-is_path_name-clause-twice : goal.returns-then-is_path_name-clause-twice
returns-then-is_path_name-clause-twice c = λ s is.
    let e : is_path_name s c.args.name.now ≡ true = sym (c.is_path_name.ensures s is) ∙ c.if-is_path_name.true in
    rw e refl

pub returns-then-is_path_name-clause-adds : goal.returns-then-is_path_name-clause-adds
returns-then-is_path_name-clause-adds c = λ s is.
    let e : is_path_name s c.args.name.now ≡ true = sym (c.is_path_name.ensures s is) ∙ c.if-is_path_name.true in
    rw e (adds_none (map text_at c.args.names.now.keys))

pub returns-clause-twice : goal.returns-clause-twice
returns-clause-twice c =
    if_ok c.bind.result _ _
    (λ b h s is.
    let e : is_path_name s c.args.name.now ≡ false = sym (c.is_path_name.ensures s is) ∙ c.if-is_path_name.false in
    rw e h)
    c.bind.ensures.twice

pub returns-clause-adds : goal.returns-clause-adds
returns-clause-adds c =
    if_ok c.bind.result _ _
    (λ b h s is.
    let e : is_path_name s c.args.name.now ≡ false = sym (c.is_path_name.ensures s is) ∙ c.if-is_path_name.false in
    rw e h)
    c.bind.ensures.adds
