use Rattle.std.proofs.Common.{◌≡◌, ℕ, Option, Some, None, length, ◌∙◌, sym, ap, rules, replicate, false, [], ◌<◌}
use Rattle.std.proofs.lemmas.List.{length-replicate}
use Rattle.std.proofs.lemmas.List.Elements.{All-pop, All-same, All-nil}
use Rattle.horn_clauses.proofs.Waits.{sound_start, before_start, numbers_start}
use Rattle.horn_clauses.proofs.propagation.propagate.Goals as goal

pub loop-number-init : goal.loop-number-init
loop-number-init c =
    let clauses = c.args.clauses.now in
    let marks : c.in_ok-vec.field-0.items ≡ replicate c.args.count false = c.in_ok-vec.ensures.items_if_clones_equal (λ y e. e) in
    let places : c.in_ok-vec-2.field-0.items ≡ replicate (length clauses) 0 = c.in_ok-vec-2.ensures.items_if_clones_equal (λ y e. e) in
    let first : c.in_ok-vec-3.field-0.items ≡ replicate c.args.count None = c.in_ok-vec-3.ensures.items_if_clones_equal (search rules) in
    let next : c.in_ok-vec-4.field-0.items ≡ replicate (length clauses) None = c.in_ok-vec-4.ensures.items_if_clones_equal (search rules) in
    let marks_len : length c.in_ok-vec.field-0.items ≡ c.args.count = ap length marks ∙ length-replicate c.args.count false in
    record {
      sound = record {
        marks = sound_start clauses c.in_ok-vec.field-0.items c.args.count marks;
        places = before_start clauses c.in_ok-vec.field-0.items c.in_ok-vec-2.field-0.items (length clauses) places;
        places_len = ap length places ∙ length-replicate (length clauses) 0;
        first_len = ap length first ∙ length-replicate {A = Option ℕ} c.args.count None ∙ sym marks_len;
        next_len = ap length next ∙ length-replicate {A = Option ℕ} (length clauses) None;
        first = numbers_start (length clauses) c.in_ok-vec-3.field-0.items c.args.count first;
        next = numbers_start (length clauses) c.in_ok-vec-4.field-0.items (length clauses) next;
        fresh = All-same (λ a. a < length c.in_ok-vec.field-0.items) c.new.result.items [] c.new.ensures.items (All-nil (λ a. a < length c.in_ok-vec.field-0.items));
      };
      len = marks_len;
    }

pub pass_on-requires-clause-sound : goal.pass_on-requires-clause-sound
pass_on-requires-clause-sound c =
    let s = c.atoms.invariant.sound in
    record {
      marks = s.marks;
      places = s.places;
      places_len = s.places_len;
      first_len = s.first_len;
      next_len = s.next_len;
      first = s.first;
      next = s.next;
      fresh = (All-pop (λ a. a < length c.atoms.state.marks.items) c.atoms.state.fresh.items c.pop.new.self.items (Some c.in-Some.atom) c.in-Some.ensures.items s.fresh).0;
    }

pub pass_on-requires-clause-atom : goal.pass_on-requires-clause-atom
pass_on-requires-clause-atom c =
    (All-pop (λ a. a < length c.atoms.state.marks.items) c.atoms.state.fresh.items c.pop.new.self.items (Some c.in-Some.atom) c.in-Some.ensures.items c.atoms.invariant.sound.fresh).1
