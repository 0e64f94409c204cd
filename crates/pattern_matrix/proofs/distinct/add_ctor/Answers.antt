use Rattle.std.proofs.Common.{◌≡◌, ◌++◌, ◌∷◌, [], List, ℕ, Some, slice_get, length, ap, sym, subst, ◌∙◌, arith}
use Rattle.std.proofs.lemmas.List.{map-append, length-map}
use Rattle.match_model.specs.Constructors.{MCtor}
use Rattle.pat_context.specs.Views.{plain_ctor}
use Rattle.pat_context.specs.declared.ctor.Ctor.{Ctor}
use Rattle.constructor_sets.specs.Columns.{plain_ctors}
use Rattle.pattern_matrix.specs.Distinct.{AreDistinct}
use Rattle.pattern_matrix.proofs.Keeping.{more_again, more_kept}
use Rattle.pattern_matrix.proofs.distinct.add_ctor.Goals as goal

pub returns-in_ok-note_number-in-Some : goal.returns-in_ok-note_number-in-Some
returns-in_ok-note_number-in-Some c = λ all d.
    let heads = c.args.heads.now in
    let one = plain_ctor c.args.ctor in
    let kept = plain_ctors heads.ctors.items in
    let same = subst (λ (cs : List Ctor). slice_get (plain_ctors cs) c.in-Some.number ≡ Some one) c.deref.ensures.value c.in-Some.ensures in
    subst (λ (ns : List ℕ). AreDistinct (all ++ one ∷ []) kept ns) (sym c.in_ok-note_number-in-Some.ensures) (more_again all kept heads.numbers.items one c.in-Some.number d same)

pub returns-in_ok-push-in-None : goal.returns-in_ok-push-in-None
returns-in_ok-push-in-None c = λ all d.
    let heads = c.args.heads.now in
    let one = plain_ctor c.args.ctor in
    let kept = plain_ctors heads.ctors.items in
    let numbers = heads.numbers.items in
    let long = length-map heads.ctors.items plain_ctor in
    let many : c.len.result ≡ length kept = omega (arith, c.len.ensures, heads.ctors.ok.0, long) in
    subst (λ (ns : List ℕ). AreDistinct (all ++ one ∷ []) (plain_ctors c.push.new.self.items) ns) (sym (c.in_ok-note_number-in-None.ensures ∙ ap (λ n. numbers ++ n ∷ []) many))
    (subst (λ (cs : List MCtor). AreDistinct (all ++ one ∷ []) cs (numbers ++ length kept ∷ [])) (sym (ap plain_ctors c.in_ok-push-in-None.ensures.items ∙ map-append plain_ctor heads.ctors.items (c.args.ctor ∷ [])))
    (more_kept all kept numbers one d))
