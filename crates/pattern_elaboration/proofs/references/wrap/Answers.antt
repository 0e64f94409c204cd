use Rattle.std.proofs.Common.{◌≡◌, ◌++◌, ◌∷◌, [], List, map, subst}
use Rattle.match_model.specs.Lists.{Every}
use Rattle.type_table.specs.Tables.{IsOf}
use Rattle.type_table.specs.declared.table.TyId.{TyId}
use Rattle.pattern_arena.specs.Trees.{tree}
use Rattle.pattern_rules.specs.Shown.{settled}
use Rattle.pattern_elaboration.specs.Placed.{wrapped}
use Rattle.pattern_elaboration.proofs.Numbering.{made_one}
use Rattle.pattern_elaboration.proofs.Peeling.{wrap_step, every_front}
use Rattle.pattern_elaboration.proofs.references.wrap.Goals as goal

pub loop-ty-preserved : goal.loop-ty-preserved
loop-ty-preserved c =
    let popped : c.loop-ty.levels.items ≡ c.pop.new.self.items ++ c.in-Some.ty ∷ [] = c.in-Some.ensures.items in
    record {
      shown = λ type. wrap_step type c.pop.new.self.items c.in-Some.ty c.loop-ty.next (tree c.loop-ty.whole)
          (tree c.in_ok-whole.whole) (wrapped (map type c.args.levels.items) (settled type 0 (tree c.args.pattern)))
          (subst (λ (xs : List TyId). wrapped (map type xs) (settled type 0 (tree c.loop-ty.whole)) ≡ wrapped
          (map type c.args.levels.items) (settled type 0 (tree c.args.pattern))) popped
          (c.loop-ty.invariant.shown type)) c.in_ok-whole.ensures.tree;
      made = λ table from typed made.
          let inv = c.loop-ty.invariant.made table from typed made in
          let ends = every_front (IsOf table) c.pop.new.self.items c.in-Some.ty
          (subst (λ (xs : List TyId). Every (IsOf table) xs) popped inv.0) in (
            ends.0,
            c.in_ok-whole.ensures.made table from ends.1 (made_one (IsOf table) from c.loop-ty.next
                (tree c.loop-ty.whole) inv.1),
          );
    }

pub returns-clause-made : goal.returns-clause-made
returns-clause-made c = λ table from typed made. (c.loop-ty.invariant.made table from typed made).1
