-- Which JSON value is which record (docs/report.md, "The report").
use Rattle.std.specs.Prelude.{◌≡◌, ℕ, List, [], ◌∷◌, Bool, Option, Some, None, option_map, option_and_then, Result, Ok, Err, ⊤, codes}
use Rattle.serde_json.specs.Data.{Data, Items, no_items, item}
use Rattle.serde_json.specs.Find.{get}
use Rattle.explain_report.specs.Fields.{number_at, text_at, flag_at, items_at, place_at}
use Rattle.explain_report.specs.Records.{RefusedTree, OverlapTree, JudgedTree, VerdictTree, IsJudged, IsRefused, FunctionTree, ReportTree, OfFunctions, OfRefused}
use Rattle.explain_report.specs.declared.records.Unreached.{Unreached}
use Rattle.explain_report.specs.declared.records.ReadFault.{ReadFault}
use Rattle.explain_report.specs.declared.records.ReadFault.TheVariants.{NoReport, NoMemory}

-- the answer is what is wanted, or says that there is no such thing; memory may be wanted and refused
abbrev pub Reads : {T A : Type 0} → (T → A) → Option A → Result T ReadFault → Type 0
Reads seen wanted (Ok t) = wanted ≡ Some (seen t)
Reads seen wanted (Err NoReport) = wanted ≡ None
Reads seen wanted (Err NoMemory) = ⊤

-- each item is such a thing
abbrev pub all_of : {A : Type 0} → (Data → Option A) → Items → Option (List A)
all_of one no_items = Some []
all_of one (item d ds) = option_and_then (λ a. option_map (λ rest. a ∷ rest) (all_of one ds)) (one d)

-- the list of this key, of which each item is such a thing
abbrev pub list_at : {A : Type 0} → (Data → Option A) → List ℕ → Data → Option (List A)
list_at one key d = option_and_then (all_of one) (items_at key d)

-- a witness, as Rust writes it
abbrev pub witness_of : Data → Option (List ℕ)
witness_of d = text_at (codes "text") d

-- an arm or alternative to which no value comes
abbrev pub unreached_of : Data → Option Unreached
unreached_of d =
    option_and_then (λ arm. option_and_then (λ at. option_map (λ whole. record { arm = arm; at = at; whole = whole })
    (flag_at (codes "whole") d)) (number_at (codes "at") d)) (number_at (codes "arm") d)

-- ranges that overlap
abbrev pub overlap_of : Data → Option OverlapTree
overlap_of d =
    option_and_then (λ at. option_and_then (λ other. option_map (λ value. record { at = at; «with» = other; value = value })
    (text_at (codes "value") d)) (number_at (codes "with") d)) (number_at (codes "at") d)

-- a broken rule of this number and name, by its places
abbrev pub refused_from : ℕ → List ℕ → Option (Option ℕ) → Option (Option ℕ) → Option (Option ℕ) → Option RefusedTree
refused_from rule name items arms places =
    option_and_then (λ item. option_and_then (λ arm. option_map (λ at.
    record { rule = rule; name = name; item = item; arm = arm; at = at }) places) arms) items

-- a broken rule
abbrev pub refused_of : Data → Option RefusedTree
refused_of d =
    option_and_then (λ rule. option_and_then (λ name.
    refused_from rule name (place_at (codes "item") d) (place_at (codes "arm") d) (place_at (codes "at") d))
    (text_at (codes "name") d)) (number_at (codes "rule") d)

-- what is found of a match, by its parts
abbrev pub judged_from : Option Bool → Option (List OverlapTree) → Option (List Unreached) → Option (List (List ℕ)) → Option JudgedTree
judged_from exhaustive overlaps unreachable witnesses =
    option_and_then (λ e. option_and_then (λ o. option_and_then (λ u. option_map (λ w.
    record { exhaustive = e; overlaps = o; unreachable = u; witnesses = w }) witnesses) unreachable) overlaps) exhaustive

-- what is found of a match
abbrev pub judged_of : Data → Option JudgedTree
judged_of d =
    judged_from (flag_at (codes "exhaustive") d) (list_at overlap_of (codes "overlaps") d) (list_at unreached_of (codes "unreachable") d)
    (list_at witness_of (codes "witnesses") d)

-- what is said of a function: it is refused where there is such a key
abbrev pub verdict_from : Option Data → Data → Option VerdictTree
verdict_from (Some refused) d = option_map IsRefused (refused_of refused)
verdict_from None d = option_map IsJudged (judged_of d)

-- a function
abbrev pub function_of : Data → Option FunctionTree
function_of d =
    option_and_then (λ name. option_map (λ verdict. record { name = name; verdict = verdict }) (verdict_from (get (codes "refused") d) d))
    (text_at (codes "name") d)

-- a report: the file is refused where there is such a key
abbrev pub report_from : Option Data → Data → Option ReportTree
report_from (Some refused) d = option_map OfRefused (refused_of refused)
report_from None d = option_map OfFunctions (list_at function_of (codes "functions") d)

-- the report that the JSON value is, where it is one
unfoldable pub report_of : Data → Option ReportTree
report_of d = report_from (get (codes "refused") d) d
