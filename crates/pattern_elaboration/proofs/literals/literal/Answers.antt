use Rattle.std.proofs.Common.{◌≡◌, ℕ, Bool, ◌⊎◌, inl, inr, Box, option_map, ap, refl, ◌∙◌}
use Rattle.std.specs.Global.{Global}
use Rattle.std.proofs.lemmas.Result.{IfOk-weaker}
use Rattle.match_model.specs.Declarations.{MProgram}
use Rattle.match_model.specs.Patterns.{MPat}
use Rattle.decl_syntax.specs.declared.tree.Lit.{Lit}
use Rattle.decl_syntax.specs.declared.tree.Lit.TheVariants as lits
use Rattle.decl_syntax.specs.declared.tree.IntLit.{IntLit}
use Rattle.decl_syntax.specs.Patterns.{Literal, lit_view}
use Rattle.range_split.specs.Numbers.{num_value}
use Rattle.type_table.specs.Tables.{table_type}
use Rattle.pattern_rules.specs.Settings.{program}
use Rattle.pattern_rules.specs.Literals.{number_of}
use Rattle.pattern_rules.specs.Resolved.{literal_pattern, number_pattern}
use Rattle.pattern_rules.specs.Elaborated.{elaborated}
use Rattle.pattern_elaboration.specs.Walking.{plain, ShapeShown}
use Rattle.pattern_elaboration.proofs.literals.literal.Goals as goal

-- a literal that is neither a flag nor a text is a number, if it is anything
number_literal : (lit : Lit) →
    ((x : ℕ) × (lit ≡ lits.Char x)) ⊎ (((x : ℕ) × (lit ≡ lits.Byte x)) ⊎
    (((x : Bool) × (y : ℕ) × (lit ≡ lits.Small x y))
    ⊎ (((x : Box IntLit Global) × (lit ≡ lits.Int x)) ⊎ (lit ≡ lits.Other)))) →
    number_pattern (number_of (lit_view lit)) ≡ literal_pattern (lit_view lit)
number_literal lit (inl h) = rw h.1 refl
number_literal lit (inr (inl h)) = rw h.1 refl
number_literal lit (inr (inr (inl h))) = rw h.2 refl
number_literal lit (inr (inr (inr (inl h)))) = rw h.1 refl
number_literal lit (inr (inr (inr (inr h)))) = rw h refl

pub returns-in-Char-clause-shown : goal.returns-in-Char-clause-shown
returns-in-Char-clause-shown c = λ from.
    let table = c.args.table.now in
    let t = table_type table c.args.here.ty in
    let e = ap number_pattern c.number_of.ensures ∙ number_literal c.args.lit.now c.in-Char.is in
    IfOk-weaker c.number_at.result
    (λ p. (q : MProgram) → plain table p ≡ elaborated q (number_pattern
    (option_map num_value c.number_of.result)) t c.args.here.mode)
    (ShapeShown table t c.args.here.mode from (Literal (lit_view c.args.lit.now)))
    (λ p h s is fits. h (program s) ∙ ap (λ (x : MPat). elaborated (program s) x t c.args.here.mode) e)
    c.number_at.ensures.shown
