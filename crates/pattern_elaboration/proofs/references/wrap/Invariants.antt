use Rattle.std.proofs.Common.{◌≡◌, ℕ, map, vec_len}
use Rattle.match_model.specs.Types.{MType}
use Rattle.match_model.specs.Lists.{Every}
use Rattle.type_table.specs.Tables.{IsOf}
use Rattle.type_table.specs.declared.table.TyId.{TyId}
use Rattle.type_table.specs.declared.table.TypeTable.{TypeTable}
use Rattle.pattern_arena.specs.Trees.{tree}
use Rattle.pattern_rules.specs.Shown.{settled}
use Rattle.pattern_elaboration.specs.Numbered.{IsMade}
use Rattle.pattern_elaboration.specs.Placed.{wrapped}
use Rattle.pattern_elaboration.proofs.references.wrap.Given as goal

abbrev pub invariant-loop-ty : goal.invariant-loop-ty
invariant-loop-ty l = record {
  shown : (type : TyId → MType) →
      wrapped (map type l.levels.items) (settled type 0 (tree l.whole)) ≡ wrapped (map type l.fn.levels.items)
      (settled type 0 (tree l.fn.pattern));
  made : (table : TypeTable) (from : ℕ) → Every (IsOf table) l.fn.levels.items → IsMade (IsOf table) from l.fn.next
      (tree l.fn.pattern) →
      Every (IsOf table) l.levels.items × IsMade (IsOf table) from l.next (tree l.whole);
}

abbrev pub decreases-loop-ty : goal.decreases-loop-ty
decreases-loop-ty l = vec_len l.levels
