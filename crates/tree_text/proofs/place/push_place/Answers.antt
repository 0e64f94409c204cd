use Rattle.std.proofs.Common.{◌∙◌, ap, sym, ◌++◌, string_bytes}
use Rattle.std.specs.Prelude.{flat_map}
use Rattle.pat_context.specs.Places.{steps_of}
use Rattle.pat_context.specs.Views.{plain_place}
use Rattle.witness_text.proofs.Adding.{three_added}
use Rattle.tree_text.specs.Places.{step_text}
use Rattle.tree_text.proofs.Plain.{place_written}
use Rattle.tree_text.proofs.place.push_place.Goals as goal

pub returns : goal.returns
unfolding lib.Utf8.encode
returns c =
    three_added _ _ _ _ _ _ _ c.in_ok-push_str.ensures.bytes
    (c.in_ok-push_steps.ensures ∙ ap (λ s. string_bytes c.push_str.new.self ++ flat_map step_text (plain_place s)) c.steps.ensures)
    c.in_ok-push.ensures.bytes
    ∙ ap (λ z. string_bytes c.args.text.now ++ z) (sym (place_written (plain_place (steps_of c.args.place.now))))
