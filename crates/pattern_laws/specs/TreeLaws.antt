-- What the decision tree of an engine's match says of the function that it shows.
use Rattle.std.specs.Prelude.{◌≡◌, Bool, List, IsTrue}
use Rattle.match_model.specs.Types.{MType}
use Rattle.match_model.specs.RustTypes.{rust_context, RustValue}
use Rattle.match_model.specs.Contexts.{Context}
use Rattle.match_model.specs.ContextViews.{Seen}
use Rattle.match_model.specs.ArenaPatterns.{MDeMatch}
use Rattle.match_model.specs.Select.{select}
use Rattle.match_model.specs.Trees.{MNode}
use Rattle.match_model.specs.OfType.{tree_is_of}
use Rattle.match_model.specs.MatchTree.{IsMatchTree, AreGoodNodes}
use Rattle.decl_syntax.specs.Functions.{FunctionTree}
use Rattle.type_table.specs.declared.table.TyId.{TyId}
use Rattle.type_table.specs.declared.table.TypeTable.{TypeTable}
use Rattle.type_table.specs.TableContext.{table_context, TableValue}
use Rattle.pattern_rules.specs.Settings.{Setting, program}
use Rattle.pattern_rules.specs.Faults.{scrutinee_type}
use Rattle.pattern_rules.specs.Verdicts.{Domain, written_arms}
use Rattle.pattern_laws.specs.NumberedMatch.{numbered_match}
use Rattle.pattern_laws.specs.JudgedLaws.{IsEngineMatch}
use Rattle.pattern_laws.specs.TableLaws.{IsTableMatch}

-- the nodes are the decision tree of the function's match: they do with each value of the domain what the arms as they
-- are written do, with the same names bound and the same guards asked, look at no place twice and have nothing that no
-- value comes to; their places and cases are of the scrutinee's type; and of all such trees they are the one in which a
-- place with the fewest branches is looked at next
pub record IsTreeOn (s : Setting) (f : FunctionTree) (nodes : List MNode) : Type 0 where
  pub good : AreGoodNodes (Domain s f) (λ v answers. select (written_arms s f) v answers) nodes
  pub of_type : IsTrue (tree_is_of (rust_context (program s)) (scrutinee_type s f) nodes)
  pub lowered : IsMatchTree (rust_context (program s)) (RustValue (program s)) (numbered_match s f) nodes

-- law: the tree of a match that shows the function is the function's
abbrev pub TreeOfShownMatch : Type 0 → Type 0
TreeOfShownMatch T =
    (type : T → MType) (is_type_s : T → Bool) (cy : Context T) (s : Setting) (f : FunctionTree) (m : MDeMatch T)
    (nodes : List MNode) → IsEngineMatch type is_type_s cy s f m →
    IsMatchTree cy (Seen type (RustValue (program s))) m nodes → IsTreeOn s f nodes

-- law: so is that of a match that shows it by the numbers of a table
abbrev pub TreeOfTableMatch : Type 0
TreeOfTableMatch =
    (table : TypeTable) (s : Setting) (f : FunctionTree) (m : MDeMatch TyId) (nodes : List MNode) →
    IsTableMatch table s f m → IsMatchTree (table_context table) (TableValue table) m nodes → IsTreeOn s f nodes

-- law: a function has one tree at most
abbrev pub TreeOnIsOne : Type 0
TreeOnIsOne = (s : Setting) (f : FunctionTree) (ns ms : List MNode) → IsTreeOn s f ns → IsTreeOn s f ms → ns ≡ ms
