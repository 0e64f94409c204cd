-- A function by itself, and what callers see of one.
use Rattle.std.specs.Prelude.{ℕ, List, Option, map}
use Rattle.std.specs.Rc.{rc_str_bytes}
use Rattle.decl_syntax.specs.declared.items.FnItem as declared_function
use Rattle.decl_syntax.specs.Types.{TypeTree, type_view}
use Rattle.decl_syntax.specs.Items.{ArmTree, arm_view}

-- a function: its name, the type of its parameter, the place of `*` before its scrutinee, and its arms
pub record FunctionTree : Type 0 where
  pub name : List ℕ
  pub param : TypeTree
  pub deref : Option ℕ
  pub arms : List ArmTree

-- a function
abbrev pub function_view : declared_function.FnItem → FunctionTree
function_view f = record { name = rc_str_bytes f.name; param = type_view f.param; deref = f.deref; arms = map arm_view f.arms.items }
