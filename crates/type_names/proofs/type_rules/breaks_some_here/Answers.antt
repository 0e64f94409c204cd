use Rattle.std.proofs.Common.{◌≡◌, ℕ, Bool, true, false, ◌||◌, Option, map, refl, sym, ap, ◌∙◌, rules, option_map}
use Rattle.std.specs.Rc.{rc_str_bytes}
use Rattle.decl_syntax.specs.Types.{TypeTree, type_view, types_from, Named}
use Rattle.decl_syntax.specs.declared.ty.Ty.TheFolds.{the_lemmas}
use Rattle.type_names.specs.Meanings.{Meaning}
use Rattle.type_names.specs.TypeRules.{count_of, is_unknown, is_sizeless, is_long, is_miscounted}
use Rattle.type_names.specs.SomeRule.{is_misnamed, some_test}
use Rattle.type_names.specs.Views.{meaning_view, means_in}
use Rattle.std.proofs.lemmas.List.{length-map}
use Rattle.type_names.proofs.WrittenLemmas.{count_from}
use Rattle.type_names.proofs.type_rules.breaks_some_here.Goals as goal

third_alone : (a b x d : Bool) → a ≡ false → b ≡ false → d ≡ false → x ≡ (a || (b || (x || d)))
third_alone a b true d e f g = rw (e, f) refl
third_alone a b false d e f g = rw (e, f, g) refl

pub returns-in-Array : goal.returns-in-Array
returns-in-Array c =
    let m = means_in c.args.names.now in
    let t = type_view c.args.ty.now in
    let named : is_unknown m c.args.sized t ≡ false = search (rules, the_lemmas) in
    let sized : is_sizeless m c.args.sized t ≡ false = search (rules, the_lemmas) in
    let counted : is_miscounted m c.args.sized t ≡ false = search (rules, the_lemmas) in
    c.is_long.ensures m c.args.sized ∙ third_alone (is_unknown m c.args.sized t) (is_sizeless m c.args.sized t) (is_long m c.args.sized t) (is_miscounted m c.args.sized t) named sized counted

pub returns-in-Named : goal.returns-in-Named
returns-in-Named c =
    let m = means_in c.args.names.now in
    let ts = map type_view c.in-Named.args.items in
    let count : count_of (types_from ts) ≡ c.len.result = count_from ts ∙ rw length-map (search rules) in
    let seen : type_view c.args.ty.now ≡ Named (rc_str_bytes c.in-Named.name) (types_from ts) = search (rules, the_lemmas) in
    let meant : option_map meaning_view c.meaning.result ≡ m (rc_str_bytes c.in-Named.name) = search rules in
    c.is_misnamed.ensures
    ∙ (ap (λ (o : Option Meaning). is_misnamed o c.args.sized c.len.result) meant
    ∙ (ap (λ (n : ℕ). is_misnamed (m (rc_str_bytes c.in-Named.name)) c.args.sized n) (sym count)
    ∙ ap (λ (t : TypeTree). some_test m c.args.sized t) (sym seen)))
