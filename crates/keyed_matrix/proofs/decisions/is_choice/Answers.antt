use Rattle.std.proofs.Common.{map, ap, sym, ◌∙◌}
use Rattle.match_model.specs.ArenaPatterns.{de_pats_of}
use Rattle.match_model.specs.Numbering.{is_choice}
use Rattle.pat_context.specs.Views.{plain_ctor}
use Rattle.pattern_arena.specs.Trees.{tree, placed_subs}
use Rattle.keyed_matrix.proofs.Numbered.{choice-length}
use Rattle.keyed_matrix.proofs.decisions.is_choice.Goals as goal

pub returns-in-Or : goal.returns-in-Or
returns-in-Or g c =
    let subs = placed_subs c.args.p.now in
    choice-length subs ∙ ap (λ k. is_choice (plain_ctor k) (de_pats_of (map tree subs))) (sym c.in-Or.is)
