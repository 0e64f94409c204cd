use Rattle.std.proofs.Common.{◌≡◌, ◌∷◌, ◌++◌, [], List, map, refl, ap, ◌∙◌, rules}
use Rattle.pattern_arena.specs.Trees.{plain_match}
use Rattle.witnesses.specs.Views.{plain_stack}
use Rattle.witness_search.specs.Opened.{places_of, numbers_of}
use Rattle.witness_search.specs.Starts.{starting_rows}
use Rattle.witness_search.specs.declared.opened.Opened.{Opened}
use Rattle.witness_search.proofs.Starting.{first_well, first_askable, first_back}
use Rattle.witness_search.proofs.top.stacks_of_match.Goals as goal

pub stacks_of-requires : goal.stacks_of-requires
stacks_of-requires g c κs within =
    let cx = c.args.cx.now in
    let m = plain_match c.args.m.now in
    let opened = c.push.new.self.items in
    let first : Opened g.row.C-Ty.Denot = record { number = 0; column = record { ty = c.args.m.now.ty; validity = c.args.m.now.validity } } in
    let one : opened ≡ first ∷ [] = c.in_ok-push.ensures.items ∙ ap (λ (xs : List (Opened g.row.C-Ty.Denot)). xs ++ first ∷ []) c.new-opened.ensures.items in (
      search rules,
      (
        search rules,
        (
          first_well (g.C.PatCx.is_type cx) (g.C.PatCx.context cx) m (numbers_of opened) (places_of opened) (starting_rows m.arms) c.requires.typed (ap numbers_of one) (ap places_of one) refl,
          (first_askable (g.C.PatCx.is_value cx) m (numbers_of opened) (places_of opened) (ap numbers_of one) (ap places_of one) c.requires.value.0 c.requires.value.1, (λ ws h. h, (refl, (c.matches_are_made.ensures, c.requires.typed.uids)))),
        ),
      ),
    )

pub returns : goal.returns
returns g c =
    let cx = c.args.cx.now in
    let m = plain_match c.args.m.now in
    let opened = c.push.new.self.items in
    let first : Opened g.row.C-Ty.Denot = record { number = 0; column = record { ty = c.args.m.now.ty; validity = c.args.m.now.validity } } in
    let one : opened ≡ first ∷ [] = c.in_ok-push.ensures.items ∙ ap (λ (xs : List (Opened g.row.C-Ty.Denot)). xs ++ first ∷ []) c.new-opened.ensures.items in
    first_back (g.C.PatCx.context cx) (g.C.PatCx.is_value cx) m (numbers_of opened) (places_of opened) (starting_rows m.arms) (ap numbers_of one) (ap places_of one) refl (map plain_stack c.in_ok-stacks.stacks.items)
    c.in_ok-stacks.ensures
