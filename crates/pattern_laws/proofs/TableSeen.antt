-- The context of a table is seen through the types of its file.
use Rattle.std.proofs.Common.{nat_lt, ◌≡◌, ℕ, zero, suc, ◌<◌, Bool, true, List, [], ◌∷◌, map, length, Option, Some, None, slice_get, IsTrue, refl, sym, ap, subst, ◌∙◌, arith}
use Rattle.std.specs.Prelude.{is_some, option_map}
use Rattle.std.specs.List.{list_all}
use Rattle.std.proofs.lemmas.Bool.Decides.{nat_tests}
use Rattle.std.proofs.lemmas.Option.{slice_get-map, slice_get_read}
use Rattle.match_model.specs.declared.Width.{Width}
use Rattle.match_model.specs.Types.{MType}
use Rattle.match_model.specs.RustTypes.{rust_context, is_type, IsSoundProgram, RustValue}
use Rattle.match_model.specs.ContextViews.{View, Passing, Seen}
use Rattle.match_model.specs.Lists.{Every}
use Rattle.match_model.specs.ArenaPatterns.{MDePat, MDeMatch, type_of}
use Rattle.match_model.specs.WellTyped.{IsWellTyped}
use Rattle.match_model.specs.Unreachable.{Entry}
use Rattle.match_model.specs.Witness.{MWitness}
use Rattle.pattern_matrix.specs.SearchLaws.{IsJudged}
use Rattle.decl_syntax.specs.Functions.{FunctionTree}
use Rattle.decl_syntax.specs.Items.{ItemTree, KindTree, Enum, Struct, Import, Function}
use Rattle.type_names.specs.Meanings.{means}
use Rattle.type_names.specs.Written.{program_of}
use Rattle.type_table.specs.declared.table.TyId.{TyId}
use Rattle.type_table.specs.declared.table.TypeTable.{TypeTable}
use Rattle.type_table.specs.declared.entries.Entry as declared_entry
use Rattle.type_table.specs.declared.entries.Entry.TheVariants as entries
use Rattle.type_table.specs.Nodes.{type_at}
use Rattle.type_table.specs.Entries.{Told, entry_told, entry_below, parameter_of}
use Rattle.type_table.specs.Tables.{table_program, table_type, table_types, IsOf, IsTableOf}
use Rattle.type_table.specs.TableContext.{table_context, TableValue}
use Rattle.type_table.proofs.EmptyTypes.{rust_types, sound_table}
use Rattle.type_table.proofs.ContextLemmas.{table_view}
use Rattle.type_table.proofs.PathLemmas.{told_at}
use Rattle.pattern_rules.specs.Settings.{Setting, program}
use Rattle.pattern_rules.specs.Faults.{function_of, parameter_type}
use Rattle.pattern_rules.specs.ArenaForms.{all_within}
use Rattle.pattern_rules.specs.Verdicts.{IsVerdictOn}
use Rattle.pattern_rules.proofs.SameTypes.{both_left, both_right}
use Rattle.pattern_laws.specs.JudgedLaws.{by_offset, IsEngineMatch}
use Rattle.pattern_laws.specs.TableLaws.{is_number_of, TableIsSeen, TablesAreSeen, IsSoundFile, TabledFilesAreSound, IsTableMatch, TableMatchIsWellTyped, JudgedTableMatch}
use Rattle.pattern_laws.proofs.JudgedShown.{shown_typed, judged_shown}
use Rattle.pattern_laws.proofs.SoundFiles.{scrutinee_is_type}

module _ (table : TypeTable) where
  number_is : (ty : TyId) → IsOf table ty → IsTrue (is_number_of table ty)
  number_is ty h = grind (arith, nat_tests, h)

  number_back : (ty : TyId) → IsTrue (is_number_of table ty) → IsOf table ty
  number_back ty h = grind (arith, nat_tests, h)

  numbers_seen : View (table_type table) (Passing (is_number_of table)) (Passing (is_type (table_program table)))
      (table_context table) (rust_context (table_program table))
  numbers_seen =
      let v = table_view table in
      record {
        set = v.set;
        arity = v.arity;
        sub = v.sub;
        is_type = λ ty h. v.is_type ty (number_back ty h);
        part_type = λ ty e i h k lt. number_is _ (v.part_type ty e i (number_back ty h) k lt);
        item_type = λ ty r i h k. number_is _ (v.item_type ty r i (number_back ty h) k);
        one = λ a b h k e. v.one a b (number_back a h) (number_back b k) e;
      }

  every_number : (qs : List (MDePat TyId)) → Every (λ q. IsOf table (type_of q)) qs →
      Every (λ q. IsTrue (is_number_of table (type_of q))) qs
  every_number [] h = tt
  every_number (q ∷ qs) h = (number_is (type_of q) h.0, every_number qs h.1)

  module _ (items : List ItemTree) (width : Width) (is : IsTableOf items width table) where
    view_there : View (table_type table) (Passing (is_number_of table)) (Passing (is_type (program_of items width)))
        (table_context table) (rust_context (program_of items width))
    view_there =
        subst (λ p. View (table_type table) (Passing (is_number_of table)) (Passing (is_type p)) (table_context table)
        (rust_context p))
        is.program numbers_seen

    sound_there : IsSoundProgram (program_of items width)
    sound_there = subst IsSoundProgram is.program (sound_table table)

    seen_there : TableIsSeen items width table
    seen_there = record {
      view = view_there;
      numbers = λ ty. (number_is ty, number_back ty);
      values = λ ty sure v. (
        λ h. subst (λ p. RustValue p (table_type table ty) sure v) is.program h,
        λ h. subst (λ p. RustValue p (table_type table ty) sure v) (sym is.program) h,
      );
    }

pub tables_seen : TablesAreSeen
tables_seen items width table is = seen_there table items width is

-- ---- the type of the scrutinee

-- what is told of an entry that may be there
abbrev parameter_by : Option Told → Option (MType × Bool)
parameter_by None = None
parameter_by (Some t) = t.parameter

entry_at : (below : declared_entry.Entry → Bool) (es : List declared_entry.Entry) (n : ℕ) (e : declared_entry.Entry) →
    list_all below es ≡ true →
    slice_get es n ≡ Some e → below e ≡ true
entry_at below [] n e h at = cc
entry_at below (x ∷ es) zero e h at = let same : x ≡ e = cc in ap below (sym same)
    ∙ both_left (below x) (list_all below es) h
entry_at below (x ∷ es) (suc n) e h at = entry_at below es n e (both_right (below x) (list_all below es) h) at

parameter_kept : (kind : KindTree) (s : Setting) (f : FunctionTree) → function_of kind ≡ Some f →
    parameter_of (means s.items) kind ≡ Some (parameter_type s f, is_some f.deref)
parameter_kept (Function name param deref arms) s f h = ap
    (λ (g : FunctionTree). Some (parameter_type s g, is_some g.deref)) (same h)
  where
    same : Some (record { name = name; param = param; deref = deref; arms = arms }) ≡ Some f →
        record { name = name; param = param; deref = deref; arms = arms } ≡ f
    same e = cc
parameter_kept (Enum name variants) s f h = absurd cc
parameter_kept (Struct name form) s f h = absurd cc
parameter_kept (Import owner names) s f h = absurd cc

module _ (s : Setting) (table : TypeTable) (is : IsTableOf s.items s.width table) where
  below_is : (n : ℕ) → nat_lt n (length table.nodes.keys) ≡ true → n < length table.nodes.keys
  below_is n low = grind (arith, nat_tests, low)

  entry_type : (e : declared_entry.Entry) (t : MType) (b : Bool) → entry_below (length table.nodes.keys) e ≡ true →
      (entry_told (table_types table) e).parameter ≡ Some (t, b) → IsTrue (is_type (program s) t)
  entry_type (entries.Struct id variant) t b low e = absurd cc
  entry_type (entries.Enum id name later variants) t b low e = absurd cc
  entry_type (entries.Function param deref) t b low e =
      let of : param < length table.nodes.keys = below_is param low in
      let pair : (type_at (table_types table) param, deref) ≡ (t, b) = cc in
      let same : type_at (table_types table) param ≡ t = ap (λ (p : MType × Bool). p.0) pair in
      subst (λ p. IsTrue (is_type p t)) is.program
      (subst (λ u. IsTrue (is_type (table_program table) u)) same (rust_types table (record { index = param }) of))
  entry_type entries.Import t b low e = absurd cc

  at_entry : (n : ℕ) (t : MType) (b : Bool) (o : Option declared_entry.Entry) → slice_get table.items.items n ≡ o →
      parameter_by (option_map (entry_told (table_types table)) o) ≡ Some (t, b) → IsTrue (is_type (program s) t)
  at_entry n t b None e h = absurd cc
  at_entry n t b (Some x) e h =
      entry_type x t b (entry_at (entry_below (length table.nodes.keys)) table.items.items n x table.whole.below e) h

  parameter_is_type : (n : ℕ) (item : ItemTree) (f : FunctionTree) → slice_get s.items n ≡ Some item →
      function_of item.kind ≡ Some f →
      IsTrue (is_type (program s) (parameter_type s f))
  parameter_is_type n item f at h =
      at_entry n (parameter_type s f) (is_some f.deref) (slice_get table.items.items n) refl
      (ap parameter_by (sym (slice_get-map (entry_told (table_types table)) table.items.items n))
      ∙ (ap (λ (ts : List Told). parameter_by (slice_get ts n)) is.told
      ∙ (ap parameter_by (told_at (means s.items) s.items n item at) ∙ parameter_kept item.kind s f h)))

  pub sound_file : IsSoundFile s
  sound_file = record {
    sound = sound_there table s.items s.width is;
    scrutinee = λ item f c h b.
        scrutinee_is_type (program s) (parameter_type s f) f.deref b.scrutinee
        (parameter_is_type c.0 item f (slice_get_read s.items (length s.items) c.0 item refl c.1 (sym c.2)) h);
  }

pub files_sound : TabledFilesAreSound
files_sound s table is = sound_file s table is

-- ---- a match over a table

module _ (table : TypeTable) (s : Setting) (f : FunctionTree) (m : MDeMatch TyId) (k : IsTableMatch table s f m) where
  pub engine_match : IsEngineMatch (table_type table) (is_number_of table) (table_context table) s f m
  engine_match = record {
    sound = sound_there table s.items s.width k.table_is;
    view = view_there table s.items s.width k.table_is;
    shown = k.shown;
    type_is = number_is table m.type k.type_is;
    types = λ d c. every_number table (all_within d.pat) (k.types d c);
    uids = k.uids;
    made = k.made;
  }

  table_typed : IsWellTyped (IsOf table) (table_context table) m
  table_typed =
      let w = shown_typed TyId (table_type table) (is_number_of table) (table_context table) s f m engine_match in
      record { type = k.type_is; typed = w.typed; names = w.names; uids = w.uids }

  table_verdict : (e : Bool) (us : List Entry) (ws : List MWitness) → IsJudged (TableValue table) (table_context table)
      m e us ws →
      IsVerdictOn s f e (map by_offset us) ws
  table_verdict e us ws j =
      judged_shown TyId (table_type table) (is_number_of table) (table_context table) s f m e us ws engine_match
      (subst (λ p. IsJudged (Seen (table_type table) (RustValue p)) (table_context table) m e us ws)
      k.table_is.program j)

pub table_match_typed : TableMatchIsWellTyped
table_match_typed table s f m k = table_typed table s f m k

pub judged_table : JudgedTableMatch
judged_table table s f m e us ws k j = table_verdict table s f m k e us ws j
