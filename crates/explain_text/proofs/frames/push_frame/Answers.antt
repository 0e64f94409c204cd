use Rattle.explain_text.proofs.FrameLemmas.{frame_added}
use Rattle.explain_text.proofs.frames.push_frame.Goals as goal

pub returns : goal.returns
returns c =
    frame_added _ _ _ _ _ _ _ _ _ _ _ _ c.in_ok-parts.ensures c.in_ok-push_arrow.ensures c.in_ok-push_source.ensures c.in_ok-push_caret.ensures
