-- The entry that shows the arms to add to a function, or that one would be too large.
use Rattle.std.proofs.Common.{◌≡◌, ◌∙◌, ℕ, suc, ◌<◌, Bool, false, List, [], ◌∷◌, map, length, Some, None, IsTrue, inl, refl, sym, ap, subst, arith}
use Rattle.std.specs.List.{All, Contains}
use Rattle.std.specs.Prelude.{◌==◌, slice_get, String, string_bytes}
use Rattle.std.specs.declared.alloc.Global.{Global}
use Rattle.std.proofs.lemmas.Bool.Decides.{nat_tests}
use Rattle.std.proofs.lemmas.List.Elements.{All-cons, All-nil}
use Rattle.arm_laws.specs.VerdictLaws.{ArmsCompleteMatch, IsFound}
use Rattle.arm_maker.specs.Arms.{AreArms, are_small}
use Rattle.arm_maker.specs.Order.{IsOneFirst}
use Rattle.decl_lexer.specs.Lexing.{Placed}
use Rattle.decl_syntax.specs.Functions.{FunctionTree}
use Rattle.decl_syntax.specs.Items.{ItemTree}
use Rattle.match_model.specs.Declarations.{MProgram}
use Rattle.match_model.specs.Lists.{Every, Ordered}
use Rattle.match_model.specs.OfType.{witness_is_of}
use Rattle.match_model.specs.RustTypes.{rust_context}
use Rattle.match_model.specs.Types.{MType}
use Rattle.match_model.specs.Witness.{MWitness}
use Rattle.match_model.specs.WitnessOrder.{Before, compare_witness}
use Rattle.pattern_laws.specs.JudgedLaws.{by_offset}
use Rattle.pattern_rules.specs.Faults.{scrutinee_type}
use Rattle.pattern_rules.specs.Settings.{program}
use Rattle.type_table.specs.Tables.{table_program, table_type}
use Rattle.type_table.specs.declared.table.TyId.{TyId}
use Rattle.verdict_json.specs.declared.refusal.Refusal.{Refusal}
use Rattle.verdict_json.specs.Report.{ReportEntry, ArmedFunction, RefusedFunction}
use Rattle.witness_search.specs.Entries.{plain_entries}
use Rattle.witnesses.specs.Views.{plain_witness}
use Rattle.witnesses.specs.declared.judgement.Judgement.{Judgement}
use Rattle.witnesses.specs.declared.witness.Witness.{Witness}
use Rattle.match_top.specs.declared.source.Source.{Source}
use Rattle.match_top.specs.declared.words.Command.{Command}
use Rattle.match_top.specs.declared.words.Command.TheVariants.{Arms}
use Rattle.match_top.specs.Reports.{numbered, too_large, ShowsArms, has_arms, is_too_large, IsFineEntry, IsEntry, is_judged, is_no_arm}
use Rattle.match_top.specs.Reporting.{setting_in, IsFineFunction, IsVerdictFor}
use Rattle.match_top.proofs.Entries.{contains_at}

-- a refusal by a rule that tells the item alone
abbrev pub refusal_with : (rule number : ℕ) → Refusal
refusal_with rule number = record { rule = rule; item = Some number; arm = None; at = None }

-- where there is no text there is no arm
pub no_arms : (texts : List (String Global)) (none : Bool) → none ≡ (length texts == 0) → none ≡ is_no_arm (map string_bytes texts)
no_arms [] none e = e
no_arms (t ∷ ts) none e = e ∙ not_zero (length ts)
  where
    not_zero : (n : ℕ) → (suc n == 0) ≡ false
    not_zero n = grind (arith, nat_tests)

each_typed : (P : MWitness → Type 0) (ws : List Witness) → ((w : MWitness) → Contains (map plain_witness ws) w → P w) → All (λ w. P (plain_witness w)) ws
each_typed P [] h = All-nil (λ w. P (plain_witness w))
each_typed P (w ∷ ws) h =
    All-cons (λ u. P (plain_witness u)) w ws (h (plain_witness w) (0, omega arith, refl)) (each_typed P ws (λ u (k, l, e). h u (suc k, omega (arith, l), e)))

each_after : (w : MWitness) (us : List MWitness) → ((j : ℕ) (u : MWitness) → slice_get us j ≡ Some u → compare_witness w u ≡ Before) → Every (IsOneFirst w) us
each_after w [] h = tt
each_after w (u ∷ us) h = (inl (h 0 u refl), each_after w us (λ j v e. h (suc j) v e))

-- of any two witnesses that ascend one stands before the other
pub one_first : (ws : List MWitness) → ((i j : ℕ) (w u : MWitness) → slice_get ws i ≡ Some w → slice_get ws j ≡ Some u → i < j → compare_witness w u ≡ Before) → Ordered IsOneFirst ws
one_first [] h = tt
one_first (w ∷ ws) h =
    (each_after w ws (λ j u e. h 0 (suc j) w u refl e (omega arith)), one_first ws (λ i j v u a b l. h (suc i) (suc j) v u a b (omega (arith, l))))

-- the types of a table are those of the file
module _ (x : Source) (items : List ItemTree) (number : ℕ) (f : FunctionTree) (ty : TyId) (j : Judgement) (fine : IsFineFunction x items number f)
    (type_is : table_type x.table.now ty ≡ scrutinee_type (setting_in x items) f) (verdict : IsVerdictFor x items f j) where
  pub witnesses_typed : All (λ w. IsTrue (witness_is_of (rust_context (table_program x.table.now)) (table_type x.table.now ty) (plain_witness w))) j.witnesses.items
  witnesses_typed =
      each_typed (λ w. IsTrue (witness_is_of (rust_context (table_program x.table.now)) (table_type x.table.now ty) w)) j.witnesses.items
      (λ w c. subst (λ (p : MProgram). IsTrue (witness_is_of (rust_context p) (table_type x.table.now ty) w)) (sym fine.sound.table_is.program)
      (subst (λ (t : MType). IsTrue (witness_is_of (rust_context (program (setting_in x items))) t w)) (sym type_is) (verdict.typed w c)))

  -- the entry of the function, where arms are asked for
  armed : (command : Command) (e : ReportEntry) → command ≡ Arms → ShowsArms (setting_in x items) number f (map plain_witness j.witnesses.items) e → IsEntry command (setting_in x items) (numbered number f) e
  armed command e is show =
      is_judged (subst (λ (c : Command). IsFineEntry c (setting_in x items) (numbered number f) e) (sym is)
      (record { fine = fine.fine; exhaustive = j.exhaustive; unreachable = map by_offset (plain_entries j.unreachable.items); witnesses = map plain_witness j.witnesses.items; verdict = verdict; shows = show }))

  -- tokens spell the file, and these are the witnesses of the function's verdict
  found : (bytes : List ℕ) × (tokens : List Placed) × IsFound bytes tokens (setting_in x items) f (map plain_witness j.witnesses.items)
  found =
      let spelled = fine.sound.spelled in (
        spelled.0,
        spelled.1,
        record {
          lexed = spelled.2;
          spelled = spelled.3;
          unbroken = fine.sound.table_is.unbroken;
          item = fine.stands.item;
          among = contains_at items number fine.stands.item fine.stands.there;
          is = fine.stands.is;
          fine = fine.fine;
          exhaustive = j.exhaustive;
          unreachable = map by_offset (plain_entries j.unreachable.items);
          verdict = verdict;
        },
      )

  pub arms_entry : ArmsCompleteMatch → (command : Command) (name : List ℕ) (texts : List (List ℕ)) → command ≡ Arms → name ≡ f.name
      → AreArms (table_program x.table.now) (table_type x.table.now ty) (map plain_witness j.witnesses.items) texts
      → IsEntry command (setting_in x items) (numbered number f) (ArmedFunction name texts)
  arms_entry complete command name texts is name_is arms =
      let ws = map plain_witness j.witnesses.items in
      let there : AreArms (program (setting_in x items)) (scrutinee_type (setting_in x items) f) ws texts =
      subst (λ (p : MProgram). AreArms p (scrutinee_type (setting_in x items) f) ws texts) fine.sound.table_is.program
      (subst (λ (t : MType). AreArms (table_program x.table.now) t ws texts) type_is arms) in
      armed command (ArmedFunction name texts) is
      (has_arms texts there (complete found.0 found.1 (setting_in x items) f ws texts found.2 there)
      (ap (λ (n : List ℕ). ArmedFunction n texts) name_is))

  pub large_entry : (command : Command) (name : List ℕ) (r : Refusal) → command ≡ Arms → name ≡ f.name → r ≡ too_large number
      → are_small (table_program x.table.now) (table_type x.table.now ty) (map plain_witness j.witnesses.items) ≡ false
      → IsEntry command (setting_in x items) (numbered number f) (RefusedFunction name r)
  large_entry command name r is name_is refusal_is large =
      let ws = map plain_witness j.witnesses.items in
      armed command (RefusedFunction name r) is
      (is_too_large
      (subst (λ (p : MProgram). are_small p (scrutinee_type (setting_in x items) f) ws ≡ false) fine.sound.table_is.program (subst (λ (t : MType). are_small (table_program x.table.now) t ws ≡ false) type_is large))
      (ap (λ (n : List ℕ). RefusedFunction n r) name_is ∙ ap (RefusedFunction f.name) refusal_is))
