use Rattle.std.proofs.Common.{◌<◌, Bool, List, length, ◌∙◌, subst, arith, refl, rules}
use Rattle.std.proofs.lemmas.Grind.{common_steps}
use Rattle.std.proofs.lemmas.List.{length-set}
use Rattle.horn_clauses.specs.Derivations.{Derives}
use Rattle.horn_clauses.specs.Marks.{IsOpenHead, IsClosed}
use Rattle.horn_clauses.proofs.Models.{unmarked_falls, sound_more, fires, closed_complete}
use Rattle.horn_clauses.proofs.model.least_model.Goals as goal

pub index_mut-requires : goal.index_mut-requires
index_mut-requires c =
    let o = subst (λ (ms : List Bool). IsOpenHead c.args.clauses.now ms c.in-Some.head) c.deref.ensures.value (c.in-Some.ensures.found c.in-Some.head refl) in
    let w : c.in-Some.head < length c.loop-head.marks.items = o.within in grind (arith, common_steps)

pub loop-head-smaller : goal.loop-head-smaller
loop-head-smaller c =
    let o = subst (λ (ms : List Bool). IsOpenHead c.args.clauses.now ms c.in-Some.head) c.deref.ensures.value (c.in-Some.ensures.found c.in-Some.head refl) in
    unmarked_falls c.loop-head.marks.items c.in-Some.head o.within o.unmarked

pub loop-head-preserved : goal.loop-head-preserved
loop-head-preserved c =
    let o = subst (λ (ms : List Bool). IsOpenHead c.args.clauses.now ms c.in-Some.head) c.deref.ensures.value (c.in-Some.ensures.found c.in-Some.head refl) in
    record {
      len = length-set _ _ _ ∙ c.loop-head.invariant.len;
      sound = sound_more c.args.clauses.now c.loop-head.marks.items c.in-Some.head c.loop-head.invariant.sound
          (subst (Derives c.args.clauses.now) o.head (fires c.args.clauses.now c.loop-head.marks.items o.clause c.loop-head.invariant.sound o.listed o.body));
    }

pub returns : goal.returns
returns c = record {
  len = c.loop-head.invariant.len;
  sound = c.loop-head.invariant.sound;
  complete = closed_complete c.args.clauses.now c.loop-head.marks.items
      (subst (IsClosed c.args.clauses.now) c.deref.ensures.value (c.open_head.ensures.closed (search rules)));
}
