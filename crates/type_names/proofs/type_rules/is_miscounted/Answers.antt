use Rattle.std.proofs.Common.{◌≡◌, ℕ, Option, Some, not, map, refl, sym, ap, ◌∙◌, rules, nat_eq}
use Rattle.std.specs.Rc.{rc_str_bytes}
use Rattle.decl_syntax.specs.Types.{TypeTree, type_view, types_from, Named}
use Rattle.decl_syntax.specs.declared.ty.Ty.TheFolds.{the_lemmas}
use Rattle.type_names.specs.Meanings.{Meaning, argument_count}
use Rattle.type_names.specs.TypeRules.{count_of, counts_differ, is_miscounted}
use Rattle.type_names.specs.Views.{meaning_view, means_in}
use Rattle.std.proofs.lemmas.List.{length-map}
use Rattle.type_names.proofs.WrittenLemmas.{count_from}
use Rattle.type_names.proofs.type_rules.is_miscounted.Goals as goal

counted : (k n a : ℕ) (m : Meaning) (o : Option Meaning) → k ≡ n → a ≡ argument_count m → Some m ≡ o → not (nat_eq n a) ≡ counts_differ k o
counted k n a m o e h f = rw (← f, ← h, e) refl

pub returns-in-Some : goal.returns-in-Some
returns-in-Some c =
    let count : count_of (types_from (map type_view c.in-Named.args.items)) ≡ c.len.result = count_from (map type_view c.in-Named.args.items) ∙ rw length-map (search rules) in
    let seen : type_view c.args.ty.now ≡ Named (rc_str_bytes c.in-Named.name) (types_from (map type_view c.in-Named.args.items)) = search (rules, the_lemmas) in
    let named : Some (meaning_view c.in-Some.m) ≡ means_in c.args.names.now (rc_str_bytes c.in-Named.name) = search rules in
    λ sized.
    counted (count_of (types_from (map type_view c.in-Named.args.items))) c.len.result c.argument_count.result (meaning_view c.in-Some.m) (means_in c.args.names.now (rc_str_bytes c.in-Named.name)) count c.argument_count.ensures named
    ∙ ap (λ (t : TypeTree). is_miscounted (means_in c.args.names.now) sized t) (sym seen)
