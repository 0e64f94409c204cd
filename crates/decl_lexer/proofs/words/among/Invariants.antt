use Rattle.std.proofs.Common.{◌≡◌, map, drop}
use Rattle.decl_lexer.specs.Tables.{with_text}
use Rattle.decl_lexer.proofs.words.among.Given as goal

abbrev pub invariant-loop-spelling : goal.invariant-loop-spelling
invariant-loop-spelling l = with_text (map (λ entry. (entry.0.now, entry.1)) l.words) l.text
    ≡ with_text (map (λ entry. (entry.0.now, entry.1)) (drop l.spelling-index l.words)) l.text
