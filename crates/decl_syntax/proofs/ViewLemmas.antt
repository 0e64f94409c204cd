-- What a caller sees of a tree, one form at a time.
use Rattle.std.proofs.Common.{rules, ◌≡◌, ◌<◌, ◌-◌, ℕ, zero, suc, Bool, Some, refl, arith}
use Rattle.std.specs.Rc.{rc_str_bytes}
use Rattle.std.specs.declared.rc.RcStr.{RcStr}
use Rattle.std.specs.Global.{Global, Box}
use Rattle.decl_syntax.specs.declared.tree.Pat.{Pat}
use Rattle.decl_syntax.specs.declared.tree.PatKind.TheViews as v
use Rattle.decl_syntax.specs.declared.tree.PatKind.TheFolds.{the_lemmas}
use Rattle.decl_syntax.specs.Patterns.{Shape, At, BindAs, shape_view, pattern_view, fits, fits_within}

pub bind_as_view : (name : RcStr Global) (by_ref mutable : Bool) (b : Box Pat) → shape_view (v.Bind name by_ref mutable (Some b)) ≡ BindAs (rc_str_bytes name) by_ref mutable (pattern_view b.value)
bind_as_view name by_ref mutable b = search (rules, the_lemmas)

pub fits_at : (from : ℕ) (shape : Shape) (n : ℕ) → 0 < n → fits (At from shape) n ≡ fits_within shape (n - 1)
fits_at from shape zero lt = absurd (omega arith)
fits_at from shape (suc n) lt = let k : suc n - 1 ≡ n = omega arith in rw k refl
