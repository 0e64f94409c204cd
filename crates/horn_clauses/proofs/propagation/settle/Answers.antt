use Rattle.std.proofs.Common.{◌≡◌, ℕ, ◌<◌, ◌≤◌, Bool, true, false, Some, None, List, length, get_or, set, sym, ap, subst, ◌∙◌, arith}
use Rattle.std.proofs.lemmas.Grind.{common_steps}
use Rattle.std.proofs.lemmas.List.{length-set, get_or_read}
use Rattle.std.proofs.lemmas.List.Elements.{All-push, All-same}
use Rattle.horn_clauses.specs.Derivations.{by_clause}
use Rattle.horn_clauses.specs.Marks.{IsWithin, IsHeld}
use Rattle.horn_clauses.proofs.Models.{sound_more}
use Rattle.horn_clauses.proofs.Waits.{held_front, before_set, before_more, numbers_set}
use Rattle.horn_clauses.proofs.propagation.settle.Goals as goal

pub returns-then-place-len-clause-sound : goal.returns-then-place-len-clause-sound
returns-then-place-len-clause-sound c =
    let s = c.args.state.now in
    let clauses = c.args.clauses.now in
    let clause = c.index-clauses-number.result in
    let front : (k : ℕ) → k < c.held_until-place.result → IsHeld s.marks.items (get_or clause.body.items k 0) =
    held_front clauses s.marks.items s.places.items c.args.number c.held_until-place.result clause c.requires.sound.places c.requires.number c.index-clauses-number.is
    (λ k low high.
    let start : c.index.result.now ≤ k = subst (λ x. x ≤ k) (sym (get_or_read s.places.items c.args.number c.index.result.now (subst (λ x. c.args.number < x) (sym c.requires.sound.places_len) c.requires.number) c.index.ensures 0)) low in
    let held = c.held_until-place.ensures k start high in
    ap (λ (xs : List ℕ). get_or s.marks.items (get_or xs k 0) false) (sym c.deref.ensures.value)
    ∙ ap (λ (ms : List Bool). get_or ms (get_or c.deref.result.now k 0) false) (sym c.deref-2.ensures.value) ∙ held) in
    let place_in : c.held_until-place.result < length clause.body.items = grind (arith, common_steps) in
    let atom_in : c.index-then-place-len.result.now < length s.first_waiting.items =
    subst (λ n. c.index-then-place-len.result.now < n) (sym c.requires.sound.first_len)
    (subst (λ x. x < length s.marks.items) (sym (get_or_read clause.body.items c.held_until-place.result c.index-then-place-len.result.now place_in c.index-then-place-len.ensures 0))
    ((subst (IsWithin (length s.marks.items)) (sym c.index-clauses-number.is) (c.requires.within c.args.number clause c.requires.number)).body c.held_until-place.result 0 place_in)) in
    record {
      marks = c.requires.sound.marks;
      places = before_set clauses s.marks.items s.places.items c.args.number c.held_until-place.result clause c.requires.sound.places c.requires.sound.places_len c.requires.number c.index-clauses-number.is front;
      places_len = length-set _ _ _ ∙ c.requires.sound.places_len;
      first_len = length-set _ _ _ ∙ c.requires.sound.first_len;
      next_len = length-set _ _ _ ∙ c.requires.sound.next_len;
      first = numbers_set (length clauses) s.first_waiting.items c.index-then-place-len.result.now (Some c.args.number) c.requires.sound.first
          (λ m e. subst (λ x. x < length clauses) (some_is c.args.number m e) c.requires.number);
      next = numbers_set (length clauses) s.next_waiting.items c.args.number c.index-then-place-len-2.result.now c.requires.sound.next
          (λ m e. c.requires.sound.first c.index-then-place-len.result.now m
          (sym (get_or_read s.first_waiting.items c.index-then-place-len.result.now c.index-then-place-len-2.result.now atom_in c.index-then-place-len-2.ensures None) ∙ e));
      fresh = c.requires.sound.fresh;
    }
  where
    some_is : (m n : ℕ) → Some m ≡ Some n → m ≡ n
    some_is m n e = cc

pub returns-in_ok-push-clause-sound : goal.returns-in_ok-push-clause-sound
returns-in_ok-push-clause-sound c =
    let s = c.args.state.now in
    let clauses = c.args.clauses.now in
    let clause = c.index-clauses-number.result in
    let within : clause.head < length s.marks.items =
    (subst (IsWithin (length s.marks.items)) (sym c.index-clauses-number.is) (c.requires.within c.args.number clause c.requires.number)).head in
    let front : (k : ℕ) → k < c.held_until-place.result → IsHeld s.marks.items (get_or clause.body.items k 0) =
    held_front clauses s.marks.items s.places.items c.args.number c.held_until-place.result clause c.requires.sound.places c.requires.number c.index-clauses-number.is
    (λ k low high.
    let start : c.index.result.now ≤ k = subst (λ x. x ≤ k) (sym (get_or_read s.places.items c.args.number c.index.result.now (subst (λ x. c.args.number < x) (sym c.requires.sound.places_len) c.requires.number) c.index.ensures 0)) low in
    let held = c.held_until-place.ensures k start high in
    ap (λ (xs : List ℕ). get_or s.marks.items (get_or xs k 0) false) (sym c.deref.ensures.value)
    ∙ ap (λ (ms : List Bool). get_or ms (get_or c.deref.result.now k 0) false) (sym c.deref-2.ensures.value) ∙ held) in
    record {
      marks = sound_more clauses s.marks.items clause.head c.requires.sound.marks
          (by_clause clause (c.args.number, c.requires.number, sym c.index-clauses-number.is)
          (λ k l. c.requires.sound.marks (get_or clause.body.items k 0) (front k (omega arith))));
      places = before_more clauses s.marks.items _ clause.head within (before_set clauses s.marks.items s.places.items c.args.number c.held_until-place.result clause c.requires.sound.places c.requires.sound.places_len c.requires.number c.index-clauses-number.is front);
      places_len = length-set _ _ _ ∙ c.requires.sound.places_len;
      first_len = c.requires.sound.first_len ∙ sym (length-set _ _ _);
      next_len = c.requires.sound.next_len;
      first = c.requires.sound.first;
      next = c.requires.sound.next;
      fresh = All-same (λ a. a < length (set s.marks.items clause.head true)) c.push.new.self.items _ c.in_ok-push.ensures.items
          (All-push (λ a. a < length (set s.marks.items clause.head true)) s.fresh.items clause.head
          (λ k d l. subst (λ n. get_or s.fresh.items k d < n) (sym (length-set _ _ _)) (c.requires.sound.fresh k d l))
          (subst (λ n. clause.head < n) (sym (length-set _ _ _)) within));
    }
