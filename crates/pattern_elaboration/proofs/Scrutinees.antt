-- The type of a function's scrutinee, as a table tells it.
use Rattle.std.proofs.Common.{◌≡◌, ℕ, Bool, true, false, not, ◌&&◌, List, Option, Some, None, refl, ap, ◌∙◌}
use Rattle.std.specs.Prelude.{slice_get, is_some, is_none}
use Rattle.match_model.specs.Types.{MType, PointType}
use Rattle.decl_syntax.specs.Functions.{FunctionTree}
use Rattle.decl_syntax.specs.Items.{ItemTree, KindTree, Enum, Struct, Import, Function}
use Rattle.pat_context.specs.Views.{is_sure}
use Rattle.type_names.specs.Meanings.{means}
use Rattle.type_table.specs.declared.table.TypeTable.{TypeTable}
use Rattle.type_table.specs.Entries.{Told, parameter_of}
use Rattle.type_table.specs.Readers as readers
use Rattle.type_table.specs.Tables.{IsTableOf, table_told}
use Rattle.type_table.proofs.PathLemmas.{told_at}
use Rattle.pattern_rules.specs.Settings.{Setting}
use Rattle.pattern_rules.specs.Faults.{function_of, parameter_type, is_reference, scrutinee_by}
use Rattle.pattern_elaboration.specs.Arms.{validity_by}

-- what the table says of a function's parameter
pub parameter_there : (s : Setting) (table : TypeTable) → IsTableOf s.items s.width table →
    (n : ℕ) (i : ItemTree) (f : FunctionTree) →
    slice_get s.items n ≡ Some i → function_of i.kind ≡ Some f →
    readers.parameter_told (slice_get (table_told table) n) ≡ Some (parameter_type s f, is_some f.deref)
parameter_there s table is n i f at e =
    ap (λ (ts : List Told). readers.parameter_told (slice_get ts n)) is.told
    ∙ (ap (λ (o : Option Told). readers.parameter_told o) (told_at (means s.items) s.items n i at) ∙ by i.kind e)
  where
    some_same : {g h : FunctionTree} → Some g ≡ Some h → g ≡ h
    some_same x = cc

    by : (k : KindTree) → function_of k ≡ Some f → parameter_of (means s.items) k ≡ Some
        (parameter_type s f, is_some f.deref)
    by (Function name param deref arms) h = ap (λ (g : FunctionTree). Some (parameter_type s g, is_some g.deref))
        (some_same h)
    by (Enum name variants) h = absurd cc
    by (Struct name form) h = absurd cc
    by (Import owner names) h = absurd cc

-- the scrutinee that the table tells is that of the function
pub scrutinee_there : (t u : MType) (star : Option ℕ) (b : Bool) →
    Some (u, b) ≡ readers.scrutinee_by t (is_some star) → u ≡ scrutinee_by t star
scrutinee_there t u None b h =
    let e : (u, b) ≡ (t, false) = cc in
    ap (λ (p : MType × Bool). p.0) e
scrutinee_there (PointType mutable v) u (Some at) b h =
    let e : (u, b) ≡ (v, true) = cc in
    ap (λ (p : MType × Bool). p.0) e
scrutinee_there t u (Some at) b h = absurd cc

-- where it tells none, a `*` stands before what is no reference
pub scrutinee_missing : (t : MType) (star : Option ℕ) → None ≡ readers.scrutinee_by t (is_some star) →
    (is_some star && not (is_reference t)) ≡ false → ⊥
scrutinee_missing t None h k = absurd cc
scrutinee_missing (PointType mutable v) (Some at) h k = absurd cc
scrutinee_missing t (Some at) h k = absurd cc

pub sure_by : (star : Option ℕ) → is_sure (validity_by (is_some star)) ≡ is_none star
sure_by None = refl
sure_by (Some at) = refl
