-- No function of a file is left out of its report.
use Rattle.std.proofs.Common.{◌≡◌, ◌∙◌, ◌⊎◌, ℕ, zero, suc, ◌+◌, Bool, true, false, List, [], ◌∷◌, ◌++◌, Option, Some, None, inl, inr, refl, sym, ap, arith}
use Rattle.std.specs.List.{AllZip, list_all, Contains}
use Rattle.std.specs.Prelude.{slice_get, IsTrue}
use Rattle.arm_laws.specs.VerdictLaws.{ArmsCompleteMatch, IsFound}
use Rattle.arm_maker.specs.Arms.{AreArms, are_small, patterns_of}
use Rattle.arm_maker.proofs.Typed.{IsOfType}
use Rattle.decl_lexer.specs.Lexing.{Placed, HasTokens}
use Rattle.decl_parser.specs.FileGrammar.{IsFile}
use Rattle.decl_syntax.specs.Functions.{FunctionTree}
use Rattle.decl_syntax.specs.Items.{ArmTree, ItemTree, KindTree, Enum, Struct, Import, Function}
use Rattle.decl_syntax.specs.Units.{units}
use Rattle.match_model.specs.Lists.{Every}
use Rattle.match_model.specs.RustTypes.{is_type}
use Rattle.match_model.specs.Unreachable.{Entry}
use Rattle.match_model.specs.Witness.{MWitness}
use Rattle.pattern_laws.specs.OverlapLaws.{SomeOverlaps}
use Rattle.pattern_laws.specs.JudgedLaws.{SomeVerdict}
use Rattle.pattern_laws.specs.ParsedLaws.{FilesAreSound, ParsedFunctionsAreSpelled}
use Rattle.pattern_laws.specs.TableLaws.{IsSoundFile}
use Rattle.pattern_rules.specs.Faults as patterns
use Rattle.pattern_rules.specs.Faults.{function_of, scrutinee_type}
use Rattle.pattern_rules.specs.FirstFault.{PatternFault, first_fault, IsAnswer, WalkTells}
use Rattle.pattern_rules.specs.Settings.{Setting, program}
use Rattle.pattern_rules.specs.ShownMatches.{IsSoundArm}
use Rattle.pattern_rules.specs.Verdicts.{IsVerdictOn}
use Rattle.type_table.specs.Faults.{BreaksNone}
use Rattle.verdict_json.specs.Report.{ReportEntry, JudgedFunction, RefusedFunction, ArmedFunction, report_text}
use Rattle.match_top.specs.Reports.{NumberedFunction, numbered, function_at, functions_from, functions_of}
use Rattle.match_top.specs.Reports.{refusal_of, report_of, too_large, has_arms, is_too_large, IsFineEntry, IsEntry, is_refused, is_judged, is_clean, status_of}
use Rattle.match_top.specs.declared.words.Command.{Command}
use Rattle.match_top.specs.declared.words.Command.TheVariants.{Check, Arms}
use Rattle.match_top.specs.Reporting.{StandsAt}
use Rattle.match_top.proofs.Armed.{one_first}
use Rattle.match_top.proofs.Entries.{contains_at}
use Rattle.match_top.proofs.SomeOrder.{some_order}
use Rattle.match_top.specs.Laws.{SomeEntry, EachFunctionStands, SomeReport}

-- a function among those of an item and those behind it is the item's, or stands behind
front_or_behind : (n : ℕ) (kind : KindTree) (fs : List NumberedFunction) (k : ℕ) (f : NumberedFunction) → slice_get (function_at n kind ++ fs) k ≡ Some f
    → ((f.number ≡ n) × (function_of kind ≡ Some f.function)) ⊎ ((j : ℕ) × (slice_get fs j ≡ Some f))
front_or_behind n (Enum name variants) fs k f there = inr (k, there)
front_or_behind n (Struct name form) fs k f there = inr (k, there)
front_or_behind n (Import owner names) fs k f there = inr (k, there)
front_or_behind n (Function name param deref arms) fs zero f there =
    let g : NumberedFunction = numbered n (record { name = name; param = param; deref = deref; arms = arms }) in
    let there_is : Some g ≡ Some f = there in
    let same : g ≡ f = cc in
    inl (sym (ap (λ (x : NumberedFunction). x.number) same), ap (λ (x : NumberedFunction). Some x.function) same)
front_or_behind n (Function name param deref arms) fs (suc k) f there = inr (k, there)

-- a function is some item
pub stands_behind : (n : ℕ) (items : List ItemTree) (k : ℕ) (f : NumberedFunction) → slice_get (functions_from n items) k ≡ Some f
    → (i : ℕ) × (f.number ≡ n + i) × StandsAt items i f.function
stands_behind n [] k f there = absurd cc
stands_behind n (x ∷ items) k f there = by (λ j later. stands_behind (n + 1) items j f later) (front_or_behind n x.kind (functions_from (n + 1) items) k f there)
  where
    by : ((j : ℕ) → slice_get (functions_from (n + 1) items) j ≡ Some f → (i : ℕ) × (f.number ≡ (n + 1) + i) × StandsAt items i f.function)
        → ((f.number ≡ n) × (function_of x.kind ≡ Some f.function)) ⊎ ((j : ℕ) × (slice_get (functions_from (n + 1) items) j ≡ Some f))
        → (i : ℕ) × (f.number ≡ n + i) × StandsAt (x ∷ items) i f.function
    by behind (inl h) = let number : f.number ≡ n = h.0 in (0, omega arith, record { item = x; there = refl; is = h.1 })
    by behind (inr h) =
        let later = behind h.0 h.1 in
        let number : f.number ≡ (n + 1) + later.0 = later.1 in
        (suc later.0, omega arith, record { item = later.2.item; there = later.2.there; is = later.2.is })

each_contained : (P : MWitness → Type 0) (ws : List MWitness) → ((w : MWitness) → Contains ws w → P w) → Every P ws
each_contained P [] h = tt
each_contained P (w ∷ ws) h = (h w (0, omega arith, refl), each_contained P ws (λ u (k, l, e). h u (suc k, omega (arith, l), e)))

-- the entry by what the walk tells
entry_by : (command : Command) (s : Setting) (f : NumberedFunction) → (patterns.BreaksNone s f.function → (e : ReportEntry) × IsFineEntry command s f e)
    → (answer : Option PatternFault) → IsAnswer s f.function answer → (e : ReportEntry) × IsEntry command s f e
entry_by command s f of_fine (Some x) fault = (
  RefusedFunction f.function.name (refusal_of f.number x.rule x.arm x.at),
  is_refused (record { rule = x.rule; arm = x.arm; at = x.at; fault = fault; tells = refl }),
)
entry_by command s f of_fine None fine = let e = of_fine fine in (e.0, is_judged e.1)

-- what the laws of rules, of spelled functions, of sound files and of verdicts tell of entries
module _ (walk_tells : WalkTells) (spelled_functions : ParsedFunctionsAreSpelled) (sound_files : FilesAreSound) (some_verdict : SomeVerdict) (some_overlaps : SomeOverlaps) (complete : ArmsCompleteMatch) where
  -- a function of a file that tokens spell
  module _ (source : List ℕ) (tokens : List Placed) (s : Setting) (i : ℕ) (f : NumberedFunction) (lexed : HasTokens source tokens) (spelled : IsFile (units tokens) s.items) (unbroken : BreaksNone s.items s.width) (sound : IsSoundFile s)
      (at : StandsAt s.items i f.function) (fine : patterns.BreaksNone s f.function) where
    among : Contains s.items at.item
    among = contains_at s.items i at.item at.there

    type_is : IsTrue (is_type (program s) (scrutinee_type s f.function))
    type_is = sound.scrutinee at.item f.function among at.is fine

    arms : (a : ArmTree) → Contains f.function.arms a → IsSoundArm s f.function a
    arms a here =
        let parsed = spelled_functions source tokens s.items at.item f.function lexed spelled among at.is in
        record { sound = sound.sound; type_is = type_is; fine = fine; among = here; spelled = parsed.spelled a here; ascend = parsed.ascend a here }

    found : (exhaustive : Bool) × (unreachable : List Entry) × (witnesses : List MWitness) × IsVerdictOn s f.function exhaustive unreachable witnesses
    found = some_verdict s f.function sound.sound type_is arms

    checked : (e : ReportEntry) × IsFineEntry Check s f e
    checked =
        let v = found in
        let os = some_overlaps s f.function sound.sound type_is arms in (
          JudgedFunction (report_of s f.function v.0 os.0 None v.1 v.2),
          record { fine = fine; exhaustive = v.0; unreachable = v.1; witnesses = v.2; verdict = v.3; overlaps = os.0; overlaps_are = os.1; tree = None; tree_is = refl; shows = refl },
        )

    found_there : (exhaustive : Bool) (unreachable : List Entry) (witnesses : List MWitness) → IsVerdictOn s f.function exhaustive unreachable witnesses
        → IsFound source tokens s f.function witnesses
    found_there exhaustive unreachable witnesses verdict = record {
      lexed = lexed;
      spelled = spelled;
      unbroken = unbroken;
      item = at.item;
      among = among;
      is = at.is;
      fine = fine;
      exhaustive = exhaustive;
      unreachable = unreachable;
      verdict = verdict;
    }

    armed_by : (exhaustive : Bool) (unreachable : List Entry) (witnesses : List MWitness) → IsVerdictOn s f.function exhaustive unreachable witnesses
        → (small : Bool) → are_small (program s) (scrutinee_type s f.function) witnesses ≡ small → (e : ReportEntry) × IsFineEntry Arms s f e
    armed_by exhaustive unreachable witnesses verdict false e = (
      RefusedFunction f.function.name (too_large f.number),
      record { fine = fine; exhaustive = exhaustive; unreachable = unreachable; witnesses = witnesses; verdict = verdict; shows = is_too_large e refl },
    )
    armed_by exhaustive unreachable witnesses verdict true e =
        let typed = each_contained (IsOfType (program s) (scrutinee_type s f.function)) witnesses verdict.typed in
        let o = some_order (program s) (scrutinee_type s f.function) witnesses typed (one_first witnesses verdict.cover.ascending) in
        let texts = patterns_of (program s) (scrutinee_type s f.function) o.0 in
        let arms_are : AreArms (program s) (scrutinee_type s f.function) witnesses texts = record { sorted = o.0; in_order = o.1; small = e; texts_are = refl } in (
          ArmedFunction f.function.name texts,
          record {
            fine = fine;
            exhaustive = exhaustive;
            unreachable = unreachable;
            witnesses = witnesses;
            verdict = verdict;
            shows = has_arms texts arms_are (complete source tokens s f.function witnesses texts (found_there exhaustive unreachable witnesses verdict) arms_are) refl;
          },
        )

    armed : (e : ReportEntry) × IsFineEntry Arms s f e
    armed = let v = found in armed_by v.0 v.1 v.2 v.3 (are_small (program s) (scrutinee_type s f.function) v.2) refl

  pub some_entry_of : SomeEntry Check
  some_entry_of source tokens s k f lexed spelled unbroken there =
      let at = stands_behind 0 s.items k f there in
      let sound : IsSoundFile s = sound_files (units tokens) s spelled unbroken in
      entry_by Check s f (checked source tokens s at.0 f lexed spelled unbroken sound at.2) (first_fault s f.function) (walk_tells s f.function)

  pub some_arms_of : SomeEntry Arms
  some_arms_of source tokens s k f lexed spelled unbroken there =
      let at = stands_behind 0 s.items k f there in
      let sound : IsSoundFile s = sound_files (units tokens) s spelled unbroken in
      entry_by Arms s f (armed source tokens s at.0 f lexed spelled unbroken sound at.2) (first_fault s f.function) (walk_tells s f.function)

-- where each function has an entry, there is a report
module _ (command : Command) (some : SomeEntry command) where
  all_entries : (source : List ℕ) (tokens : List Placed) (s : Setting) (fs : List NumberedFunction) → HasTokens source tokens
      → IsFile (units tokens) s.items → BreaksNone s.items s.width
      → ((k : ℕ) (f : NumberedFunction) → slice_get fs k ≡ Some f → (j : ℕ) × (slice_get (functions_of s.items) j ≡ Some f))
      → (es : List ReportEntry) × AllZip (IsEntry command s) fs es
  all_entries source tokens s [] lexed spelled unbroken stands = ([], tt)
  all_entries source tokens s (f ∷ fs) lexed spelled unbroken stands =
      let here = stands 0 f refl in
      let e = some source tokens s here.0 f lexed spelled unbroken here.1 in
      let es = all_entries source tokens s fs lexed spelled unbroken (λ k g there. stands (suc k) g there) in
      (e.0 ∷ es.0, (e.1, es.1))

  pub some_report_of : SomeReport command
  some_report_of source tokens s lexed spelled unbroken =
      let es = all_entries source tokens s (functions_of s.items) lexed spelled unbroken (λ k f there. (k, there)) in
      (report_text es.0, status_of (list_all is_clean es.0), record { unbroken = unbroken; entries = es.0; each = es.1; text_is = refl; status_is = refl })

-- the functions of the items behind one stand behind its own
behind : (n : ℕ) (k : KindTree) (fs : List NumberedFunction) (f : NumberedFunction) (at : ℕ) → slice_get fs at ≡ Some f
    → (j : ℕ) × (slice_get (function_at n k ++ fs) j ≡ Some f)
behind n (Enum name variants) fs f at there = (at, there)
behind n (Struct name form) fs f at there = (at, there)
behind n (Import owner names) fs f at there = (at, there)
behind n (Function name param deref arms) fs f at there = (suc at, there)

stands_from : (n : ℕ) (items : List ItemTree) (i : ℕ) (item : ItemTree) (f : FunctionTree) → slice_get items i ≡ Some item
    → item.kind ≡ Function f.name f.param f.deref f.arms
    → (k : ℕ) × (slice_get (functions_from n items) k ≡ Some (numbered (n + i) f))
stands_from n [] zero item f at is = absurd cc
stands_from n [] (suc i) item f at is = absurd cc
stands_from n (x ∷ items) zero item f at is =
    let kind : x.kind ≡ Function f.name f.param f.deref f.arms = cc in
    let number : n ≡ n + 0 = omega arith in
    (0, ap (λ (k : KindTree). slice_get (function_at n k ++ functions_from (n + 1) items) 0) kind ∙ ap (λ (m : ℕ). Some (numbered m f)) number)
stands_from n (x ∷ items) (suc i) item f at is =
    let later = stands_from (n + 1) items i item f at is in
    let number : (n + 1) + i ≡ n + suc i = omega arith in
    behind n x.kind (functions_from (n + 1) items) (numbered (n + suc i) f) later.0 (later.1 ∙ ap (λ (m : ℕ). Some (numbered m f)) number)

pub each_function_stands : EachFunctionStands
each_function_stands items i item f at is =
    let found = stands_from 0 items i item f at is in
    let number : 0 + i ≡ i = omega arith in
    (found.0, found.1 ∙ ap (λ (m : ℕ). Some (numbered m f)) number)
