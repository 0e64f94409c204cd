use Rattle.std.proofs.Common.{◌∙◌, ap, ◌++◌, string_bytes}
use Rattle.explain_text.specs.Texts.{short_text, level_style}
use Rattle.explain_text.specs.Styles.{styled}
use Rattle.explain_text.specs.declared.styles.Style.{Style}
use Rattle.explain_text.proofs.Eight.{eight_added}
use Rattle.explain_text.proofs.texts.push_short.Goals as goal

pub returns : goal.returns
unfolding short_text
returns c =
    eight_added _ _ _ _ _ _ _ _ _ _ _ _ _ _ _ _ _ c.in_ok-push_short_place.ensures c.in_ok-push_str.ensures.bytes
    (c.in_ok-push_styled.ensures
    ∙ ap (λ (s : Style). string_bytes c.push_str.new.self ++ styled c.args.source.now.paint s c.level_text.result.now) c.level_style.ensures
    ∙ ap (λ x. string_bytes c.push_str.new.self ++ styled c.args.source.now.paint (level_style c.args.one.now.breaks) x) c.level_text.ensures)
    c.in_ok-push_str-2.ensures.bytes
    (c.in_ok-push_str-3.ensures.bytes ∙ ap (λ s. string_bytes c.push_str-2.new.self ++ s) c.as_str.ensures.value)
    c.in_ok-push_str-4.ensures.bytes
    (c.in_ok-push_str-5.ensures.bytes ∙ ap (λ s. string_bytes c.push_str-4.new.self ++ s) c.as_str-2.ensures.value)
    c.in_ok-push_str-6.ensures.bytes
