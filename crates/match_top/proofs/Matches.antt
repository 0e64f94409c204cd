-- The match of a function as the engine has it, and what is found of it.
use Rattle.std.proofs.Common.{◌≡◌, ◌∙◌, ℕ, ◌<◌, List, [], ◌∷◌, map, length, Result, Ok, Err, IfOk, Option, Some, None, refl, sym, ap, subst}
use Rattle.std.specs.List.{Contains}
use Rattle.std.specs.Global.{Vec}
use Rattle.std.specs.Prelude.{option_map}
use Rattle.std.proofs.lemmas.List.{length-map}
use Rattle.decl_syntax.specs.Functions.{FunctionTree}
use Rattle.decl_syntax.specs.Items.{ArmTree, ItemTree}
use Rattle.match_model.specs.ArenaPatterns.{MDeArm, MDeMatch, MDePat, type_of}
use Rattle.match_model.specs.Declarations.{MProgram}
use Rattle.match_model.specs.Lists.{Every}
use Rattle.match_model.specs.Made.{AreArmsMade}
use Rattle.match_model.specs.ArenaWays.{match_arms, InMatchDomain}
use Rattle.match_model.specs.MatchTree.{IsMatchTree}
use Rattle.match_model.specs.Overlaps.{MOverlap, IsOverlapList}
use Rattle.match_model.specs.Trees.{MNode}
use Rattle.match_model.specs.Types.{MType}
use Rattle.match_model.specs.Unreachable.{Entry}
use Rattle.pattern_arena.specs.declared.matches.CheckedMatch.{CheckedMatch}
use Rattle.pattern_arena.specs.Trees.{plain_arm, plain_match}
use Rattle.pattern_elaboration.specs.Arms.{IsMatchMade}
use Rattle.pattern_laws.specs.OverlapLaws.{OverlapsOfTableMatch}
use Rattle.pattern_laws.proofs.ParsedSound.{every_of}
use Rattle.pattern_laws.specs.JudgedLaws.{by_offset}
use Rattle.pattern_laws.specs.ParsedLaws.{ParsedArmsAreSound}
use Rattle.pattern_laws.specs.TableLaws.{JudgedTableMatch}
use Rattle.pattern_laws.specs.TreeLaws.{IsTreeOn, TreeOfTableMatch}
use Rattle.pattern_lints.specs.Views.{plain_overlaps}
use Rattle.pattern_matrix.specs.SearchLaws.{IsJudged}
use Rattle.pattern_rules.specs.ArenaForms.{all_within}
use Rattle.pattern_rules.specs.Faults.{scrutinee_type}
use Rattle.pattern_rules.specs.Settings.{Setting, program}
use Rattle.pattern_rules.specs.ShownMatches.{IsSoundArm, IsShownMatch}
use Rattle.tree_eval.specs.Nodes.{tree_nodes}
use Rattle.tree_eval.specs.declared.tree.Tree.{Tree}
use Rattle.tree_text.specs.Trees.{NodeTree}
use Rattle.type_table.specs.TableContext.{TableValue, table_context}
use Rattle.type_table.specs.Tables.{IsOf, table_program, table_type}
use Rattle.type_table.specs.declared.table.TyId.{TyId}
use Rattle.verdict_json.specs.Report.{ReportEntry, JudgedFunction}
use Rattle.verdict_json.specs.Trees.{UnreachableTree, overlap_view, unreachable_view}
use Rattle.witness_names.specs.Named.{named_witness}
use Rattle.witness_names.specs.NamedTrees.{named_node}
use Rattle.witness_search.specs.Entries.{plain_entries}
use Rattle.witness_text.specs.Trees.{WitnessTree}
use Rattle.witnesses.specs.Views.{plain_witness}
use Rattle.witnesses.specs.declared.judgement.Judgement.{Judgement}
use Rattle.witnesses.specs.declared.judgement.Overlap.{Overlap}
use Rattle.witnesses.specs.declared.judgement.Unreachable.{Unreachable}
use Rattle.witnesses.specs.declared.witness.Witness.{Witness}
use Rattle.match_top.specs.declared.source.Source.{Source}
use Rattle.match_top.specs.declared.words.Command.{Command}
use Rattle.match_top.specs.declared.words.Command.TheVariants.{Check, Trees, Arms}
use Rattle.match_top.specs.Reports.{NumberedFunction, numbered, shown_entry, named_tree, IsShownTree, IsJudgedFunction, IsFineEntry, IsEntry, is_judged}
use Rattle.match_top.specs.Reporting.{setting_in, IsFineFunction, IsMatchOf, IsVerdictFor, AreOverlapsFor, IsTreeFor, AsksForFindings, IsFoundOn}
use Rattle.match_top.proofs.Entries.{contains_at}

-- each arm of a function that breaks no rule is sound
pub sound_arm : ParsedArmsAreSound → (x : Source) (items : List ItemTree) (number : ℕ) (f : FunctionTree) → IsFineFunction x items number f → (a : ArmTree) → Contains f.arms a
    → IsSoundArm (setting_in x items) f a
sound_arm law x items number f h a among =
    let spelled = h.sound.spelled in
    law spelled.0 spelled.1 (setting_in x items) x.table.now h.stands.item f a spelled.2 spelled.3 h.sound.table_is
    (contains_at items number h.stands.item h.stands.there) h.stands.is h.fine among

-- a match that was made and shows the function is its match as the engine has it
pub is_match_of : (x : Source) (items : List ItemTree) (number : ℕ) (f : FunctionTree) (m : MDeMatch TyId) → IsFineFunction x items number f → IsMatchMade x.table.now m
    → IsShownMatch (table_type x.table.now) (setting_in x items) f m → AreArmsMade m.arms → IsMatchOf x items f m
is_match_of x items number f m h made shown ranges = record {
  table_is = h.sound.table_is;
  shown = shown;
  type_is = made.type;
  types = λ d among. every_of (λ (a : MDeArm TyId). Every (λ (q : MDePat TyId). IsOf x.table.now (type_of q)) (all_within a.pat)) m.arms made.types d among;
  uids = made.uids;
  made = ranges;
}

-- the match has as many arms as the function
pub few_arms : (x : Source) (items : List ItemTree) (f : FunctionTree) (m : CheckedMatch TyId) (most : ℕ) → IsMatchOf x items f (plain_match m) → length f.arms < most → length m.arms.now < most
few_arms x items f m most h few =
    let count : length (map plain_arm m.arms.now) ≡ length f.arms = h.shown.count in
    let same : length (map plain_arm m.arms.now) ≡ length m.arms.now = length-map m.arms.now plain_arm in
    subst (λ (n : ℕ). n < most) (sym count ∙ same) few

-- what is judged of the match is found of the function
pub verdict_of : {E : Type 0} → JudgedTableMatch → (x : Source) (items : List ItemTree) (f : FunctionTree) (m : MDeMatch TyId) (r : Result Judgement E) → IsMatchOf x items f m
    → IfOk r (λ j. IsJudged (TableValue x.table.now) (table_context x.table.now) m j.exhaustive (plain_entries j.unreachable.items) (map plain_witness j.witnesses.items))
    → IfOk r (λ j. IsVerdictFor x items f j)
verdict_of law x items f m (Ok j) h judged =
    law x.table.now (setting_in x items) f m j.exhaustive (plain_entries j.unreachable.items) (map plain_witness j.witnesses.items) h judged
verdict_of law x items f m (Err e) h judged = tt

-- the overlaps of the match are those of the function
pub overlaps_for : {E : Type 0} → OverlapsOfTableMatch → (x : Source) (items : List ItemTree) (f : FunctionTree) (m : MDeMatch TyId) (r : Result (Vec Overlap) E) → IsMatchOf x items f m
    → IfOk r (λ v. IsOverlapList (InMatchDomain (TableValue x.table.now) m) (match_arms m) (plain_overlaps v.items))
    → IfOk r (λ v. AreOverlapsFor x items f v.items)
overlaps_for law x items f m (Ok v) h found = law x.table.now (setting_in x items) f m (plain_overlaps v.items) h found
overlaps_for law x items f m (Err e) h found = tt

-- an entry is shown without its number
shown_by_offset : (es : List Entry) → map shown_entry es ≡ map shown_entry (map by_offset es)
shown_by_offset [] = refl
shown_by_offset (e ∷ es) = ap (λ (us : List UnreachableTree). shown_entry e ∷ us) (shown_by_offset es)

-- what a report shows of what was found is what it shows of the entries
shown_each : (us : List Unreachable) → map unreachable_view us ≡ map shown_entry (plain_entries us)
shown_each [] = refl
shown_each (u ∷ us) = ap (λ (es : List UnreachableTree). unreachable_view u ∷ es) (shown_each us)

-- witnesses are named one by one
named_each : (p : MProgram) (t : MType) (ws : List Witness) → map (λ (w : Witness). named_witness p t (plain_witness w)) ws ≡ map (named_witness p t) (map plain_witness ws)
named_each p t [] = refl
named_each p t (w ∷ ws) = ap (λ (us : List WitnessTree). named_witness p t (plain_witness w) ∷ us) (named_each p t ws)

-- the tree of the match is that of the function
pub tree_on : {E : Type 0} → TreeOfTableMatch → (x : Source) (items : List ItemTree) (f : FunctionTree) (m : MDeMatch TyId) (r : Result Tree E) → IsMatchOf x items f m
    → IfOk r (λ t. IsMatchTree (table_context x.table.now) (TableValue x.table.now) m (tree_nodes t))
    → IfOk r (λ t. IsTreeOn (setting_in x items) f (tree_nodes t))
tree_on law x items f m (Ok t) h tree = law x.table.now (setting_in x items) f m (tree_nodes t) h tree
tree_on law x items f m (Err e) h tree = tt

-- it is shown where trees are asked for
pub tree_for : (command : Command) (x : Source) (items : List ItemTree) (f : FunctionTree) (t : Tree) → command ≡ Trees → IsTreeOn (setting_in x items) f (tree_nodes t)
    → IsTreeFor command x items f (Some t)
tree_for command x items f t is tree = subst (λ (c : Command). IsTreeFor c x items f (Some t)) (sym is) (t, refl, tree)

-- the names of the nodes of a tree, if there is one, over the types of the table
abbrev pub table_named : Source → TyId → Option Tree → Option (List NodeTree)
table_named x ty tree =
    option_map (λ t. map (named_node (table_program x.table.now) (table_type x.table.now ty)) (tree_nodes t)) tree

-- what was made of the function's tree is shown of it
shown_tree : (command : Command) (x : Source) (items : List ItemTree) (f : FunctionTree) (ty : TyId) (made : Option Tree) (tree : Option (List NodeTree))
    → table_program x.table.now ≡ program (setting_in x items) → table_type x.table.now ty ≡ scrutinee_type (setting_in x items) f
    → IsTreeFor command x items f made → tree ≡ table_named x ty made → IsShownTree command (setting_in x items) f tree
shown_tree Check x items f ty made tree program_is type_is is named = named ∙ ap (table_named x ty) is
shown_tree Arms x items f ty made tree program_is type_is is named = named ∙ ap (table_named x ty) is
shown_tree Trees x items f ty made tree program_is type_is is named = (
  tree_nodes is.0,
  is.2,
  named ∙ ap (table_named x ty) is.1
      ∙ ap (λ (p : MProgram). Some (map (named_node p (table_type x.table.now ty)) (tree_nodes is.0))) program_is
      ∙ ap (λ (t : MType). Some (map (named_node (program (setting_in x items)) t) (tree_nodes is.0))) type_is,
)

-- what is found of a function is its entry where a command asks for findings
fine_entry : (command : Command) (s : Setting) (f : NumberedFunction) (e : ReportEntry) → AsksForFindings command → IsJudgedFunction command s f.function e → IsFineEntry command s f e
fine_entry Check s f e asked h = h
fine_entry Trees s f e asked h = h
fine_entry Arms s f e asked h = absurd asked

-- a report on a function that shows what was found of it is its entry
pub judged_entry : (command : Command) (x : Source) (items : List ItemTree) (number : ℕ) (f : FunctionTree) (ty : TyId) (j : Judgement) (overlaps : List Overlap) (made : Option Tree)
    (name : List ℕ) (tree : Option (List NodeTree)) (vs : List WitnessTree)
    → IsFoundOn command x items number f ty j overlaps made → name ≡ f.name → tree ≡ table_named x ty made
    → vs ≡ map (λ (w : Witness). named_witness (table_program x.table.now) (table_type x.table.now ty) (plain_witness w)) j.witnesses.items
    → IsEntry command (setting_in x items) (numbered number f)
    (JudgedFunction (record { name = name; exhaustive = j.exhaustive; overlaps = map overlap_view overlaps; tree = tree; unreachable = map unreachable_view j.unreachable.items; witnesses = vs }))
judged_entry command x items number f ty j overlaps made name tree vs found name_is tree_named witnesses =
    let s = setting_in x items in
    let es = plain_entries j.unreachable.items in
    let ws = map plain_witness j.witnesses.items in
    let program_is : table_program x.table.now ≡ program s = found.fine.sound.table_is.program in
    let us = map unreachable_view j.unreachable.items in
    let shown : us ≡ map shown_entry (map by_offset es) = shown_each j.unreachable.items ∙ shown_by_offset es in
    let named : vs ≡ map (named_witness (program s) (scrutinee_type s f)) ws =
    witnesses ∙ named_each (table_program x.table.now) (table_type x.table.now ty) j.witnesses.items
    ∙ ap (λ (p : MProgram). map (named_witness p (table_type x.table.now ty)) ws) program_is
    ∙ ap (λ (t : MType). map (named_witness (program s) t) ws) found.type_is in
    let entry : List ℕ → List UnreachableTree → List WitnessTree → ReportEntry =
    λ n es vs. JudgedFunction (record { name = n; exhaustive = j.exhaustive; overlaps = map overlap_view overlaps; tree = tree; unreachable = es; witnesses = vs }) in
    is_judged (fine_entry command s (numbered number f) (entry name us vs) found.asked (record {
      fine = found.fine.fine;
      exhaustive = j.exhaustive;
      unreachable = map by_offset es;
      witnesses = ws;
      verdict = found.verdict;
      overlaps = map overlap_view overlaps;
      overlaps_are = found.overlaps_are;
      tree = tree;
      tree_is = shown_tree command x items f ty made tree program_is found.type_is found.tree_is tree_named;
      shows =
          ap (λ (n : List ℕ). entry n us vs) name_is
          ∙ ap (λ (es : List UnreachableTree). entry f.name es vs) shown
          ∙ ap (λ (vs : List WitnessTree). entry f.name (map shown_entry (map by_offset es)) vs) named;
    }))
