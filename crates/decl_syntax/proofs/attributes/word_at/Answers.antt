use Rattle.std.proofs.Common.{◌≡◌, ◌++◌, ◌∷◌, [], refl, sym, ap, ◌∙◌, arith, vec_len}
use Rattle.std.specs.Prelude.{reverse}
use Rattle.std.proofs.lemmas.Bool.{eqb-true, eqb-false}
use Rattle.std.proofs.lemmas.List.{nil_from_length}
use Rattle.decl_syntax.specs.Units.{left, unit_view}
use Rattle.decl_syntax.specs.RunReading.{run_at, word_at}
use Rattle.decl_syntax.proofs.RunLaws.{run_over, run_ends, run_torn, run_goes_on, tracked_true, tracked_false, first_push, reverse_empty}
use Rattle.decl_syntax.proofs.attributes.word_at.Goals as goal

pub returns-in_default : goal.returns-in_default
unfolding word_at
returns-in_default c = rw (run_over c.tokens.invariant.0 (left c.tokens.rest) (reverse c.tokens.opened.items) (run_at (left c.args.at) []) c.tokens.invariant.2 c.in_default.ensures) refl

pub returns-then-outside : goal.returns-then-outside
unfolding word_at
returns-then-outside c =
    let nothing : c.tokens.opened.items ≡ [] = nil_from_length c.tokens.opened.items (omega (arith, c.tokens.opened.ok.0, eqb-true (vec_len c.tokens.opened) 0 (sym c.if-outside.ensures))) in
    rw (
      run_ends c.tokens.invariant.0 (left c.tokens.rest) (reverse c.tokens.opened.items) (run_at (left c.args.at) []) c.tokens.invariant.2 (unit_view c.in-Some.first) (left c.in-Some.after) c.in-Some.ensures (ap reverse nothing)
          (tracked_false c.in_ok-tracked.tracked _ _ c.in_ok-tracked.ensures c.if-not-tracked.true),
      c.tokens.invariant.1,
    ) refl

pub returns-then-not-tracked : goal.returns-then-not-tracked
unfolding word_at
returns-then-not-tracked c =
    rw (run_torn c.tokens.invariant.0 (left c.tokens.rest) (reverse c.tokens.opened.items) (run_at (left c.args.at) []) c.tokens.invariant.2 (unit_view c.in-Some.first) (left c.in-Some.after) c.in-Some.ensures
    (λ e. eqb-false (vec_len c.tokens.opened) 0 (sym c.if-outside.ensures) (omega (arith, c.tokens.opened.ok.0, reverse_empty c.tokens.opened.items e)))
    (tracked_false c.in_ok-tracked.tracked _ _ c.in_ok-tracked.ensures c.if-not-tracked.true)) refl

pub tokens-preserved : goal.tokens-preserved
tokens-preserved c = (
  c.tokens.invariant.0 ++ unit_view c.in-Some.first ∷ [],
  first_push c.tokens.invariant.0 (unit_view c.in-Some.first) ∙ rw c.tokens.invariant.1 (sym c.first_word-word.ensures),
  run_goes_on c.tokens.invariant.0 (left c.tokens.rest) (reverse c.tokens.opened.items) (run_at (left c.args.at) []) c.tokens.invariant.2 (unit_view c.in-Some.first) (left c.in-Some.after) _ c.in-Some.ensures
      (tracked_true c.in_ok-tracked.tracked _ _ c.in_ok-tracked.ensures c.if-not-tracked.false),
)
