-- No meaning: a reading of arms from left to right, which laws join to the grammar.
use Rattle.std.specs.Prelude.{ℕ, zero, suc, Bool, true, false, List, [], ◌∷◌, length, Option, Some, None}
use Rattle.decl_lexer.specs.declared.marks.Mark.TheVariants as marks
use Rattle.decl_lexer.specs.declared.words.Word.TheVariants as words
use Rattle.decl_lexer.specs.Lexing.{Placed}
use Rattle.decl_syntax.specs.Units.{behind, flag_at, is_mark, is_word}
use Rattle.decl_syntax.specs.Reading.{◌>>=◌, either, Read}
use Rattle.decl_syntax.specs.PatternReading.{pattern_at}
use Rattle.decl_syntax.specs.RunReading.{attributes_at}
use Rattle.decl_parser.specs.declared.runs.Until.TheVariants as until
use Rattle.decl_syntax.specs.Items.{ArmTree}
use Rattle.decl_parser.specs.RunReading.{skip_at, run_at}

-- a guard, or none
unfoldable pub guard_at : List Placed → Read Bool
guard_at ts = either (behind (is_word words.If) ts) (λ us. run_at until.Arrow us >>= λ rest. Some (true, rest)) (Some (false, ts))

-- the tokens behind a block and an optional comma, behind its "{"
unfoldable pub block_at : List Placed → Option (List Placed)
block_at ts = skip_at until.Bracket ts >>= λ us. behind (is_mark marks.CloseCurly) us >>= λ rest. Some (flag_at (is_mark marks.Comma) rest).1

-- the tokens behind a body that is no block
unfoldable pub value_at : List Placed → Option (List Placed)
value_at ts =
    run_at until.CommaOrArrow ts >>= λ us. either (behind (is_mark marks.Comma) us) (λ rest. Some rest)
    (behind (is_mark marks.CloseCurly) us >>= λ rest. Some us)

-- the tokens behind a body
unfoldable pub body_at : List Placed → Option (List Placed)
body_at ts = either (behind (is_mark marks.OpenCurly) ts) (λ us. block_at us) (value_at ts)

-- an arm
unfoldable pub arm_at : List Placed → Read ArmTree
arm_at ts =
    attributes_at ts >>= λ a. pattern_at a.1 >>= λ p. guard_at p.1 >>= λ g. behind (is_mark marks.FatArrow) g.1 >>= λ us.
    body_at us >>= λ rest. Some (record { attrs = a.0; pattern = p.0; guarded = g.0 }, rest)

-- one arm, and what is read behind it
abbrev pub arms_step : (List Placed → Read (List ArmTree)) → List Placed → Read (List ArmTree)
arms_step others ts =
    either (behind (is_mark marks.CloseCurly) ts) (λ rest. Some ([], rest))
    (arm_at ts >>= λ x. others x.1 >>= λ xs. Some (x.0 ∷ xs.0, xs.1))

-- at most so many steps
abbrev pub arms_within : ℕ → List Placed → Read (List ArmTree)
arms_within zero ts = None
arms_within (suc fuel) ts = arms_step (arms_within fuel) ts

-- arms one after the other, and the "}" behind them
unfoldable pub arms_at : List Placed → Read (List ArmTree)
arms_at ts = arms_within (suc (length ts)) ts
