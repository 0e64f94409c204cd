use Rattle.std.proofs.Common.{None, length, ◌<◌, subst, ◌∙◌, sym, refl}
use Rattle.std.proofs.lemmas.List.{length-set, get_or_read}
use Rattle.horn_clauses.proofs.Waits.{numbers_set}
use Rattle.horn_clauses.proofs.propagation.pass_on.Goals as goal

pub chain-init : goal.chain-init
chain-init c =
    let s = c.args.state.now in
    let clauses = c.args.clauses.now in
    record {
      sound = record {
        marks = c.requires.sound.marks;
        places = c.requires.sound.places;
        places_len = c.requires.sound.places_len;
        first_len = length-set _ _ _ ∙ c.requires.sound.first_len;
        next_len = c.requires.sound.next_len;
        first = numbers_set (length clauses) s.first_waiting.items c.args.atom None c.requires.sound.first (λ m e. cc);
        next = c.requires.sound.next;
        fresh = c.requires.sound.fresh;
      };
      len = refl;
      number = λ n e. c.requires.sound.first c.args.atom n
          (sym (get_or_read s.first_waiting.items c.args.atom c.index-waiting.result.now (subst (λ x. c.args.atom < x) (sym c.requires.sound.first_len) c.requires.atom) c.index-waiting.ensures None) ∙ e);
    }

pub chain-preserved : goal.chain-preserved
chain-preserved c =
    let known = c.chain.invariant.number c.in-Some.number c.in-Some.is in
    record {
      sound = c.in_ok-settle-in-Some.ensures.sound;
      len = c.in_ok-settle-in-Some.ensures.len ∙ c.chain.invariant.len;
      number = λ n e. c.chain.invariant.sound.next c.in-Some.number n
          (sym (get_or_read c.chain.state.next_waiting.items c.in-Some.number c.index-waiting-in-Some.result.now (subst (λ x. c.in-Some.number < x) (sym c.chain.invariant.sound.next_len) known) c.index-waiting-in-Some.ensures None) ∙ e);
    }
