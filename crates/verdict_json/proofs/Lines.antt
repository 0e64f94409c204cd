-- The text of a report, from the texts of its entries.
use Rattle.std.proofs.Common.{◌≡◌, ◌∙◌, sym, ap, refl, List, [], ◌∷◌, ◌++◌, ℕ, Bool, true, false, map, append_assoc, append-nil, codes, string_bytes}
use Rattle.std.specs.Prelude.{Option, Some, None}
use Rattle.serde_json.specs.Data.{string, array, Members, no_members, member}
use Rattle.serde_json.specs.View.{items_of}
use Rattle.serde_json.specs.Written.{compact_text, items_text, members_text, comma_if}
use Rattle.serde_json.proofs.OnLiterals.{serde_json_on_literals}
use Rattle.verdict_json.specs.declared.report.ReportText.{ReportText}
use Rattle.verdict_json.specs.Report.{ReportEntry, overlap_entry, unreachable_data, with_tree, function_data, entry_data, report_data, report_text}
use Rattle.verdict_json.specs.Trees.{ReportTree}
use Rattle.witness_text.specs.Reported.{witnesses_data}
use Rattle.witness_text.proofs.Adding.{two_added, five_added, seven_added}
use Rattle.tree_text.specs.Trees.{NodeTree}
use Rattle.tree_text.specs.Reported.{tree_data}
use Rattle.verdict_json.specs.Writing.{flag_word, shown_tree_text, listed, is_behind, HasEntries}

-- the bracket closes the list
closing : (later : Bool) (fs : List ReportEntry) → listed later fs ++ 93 ∷ [] ≡ items_text later (items_of (map entry_data fs))
closing later [] = refl
closing later (f ∷ fs) =
    append_assoc (comma_if later) (compact_text (entry_data f) ++ listed true fs) (93 ∷ [])
    ∙ ap (λ z. comma_if later ++ z) (append_assoc (compact_text (entry_data f)) (listed true fs) (93 ∷ [])
    ∙ ap (λ z. compact_text (entry_data f) ++ z) (closing true fs))

opened : (fs : List ReportEntry) → compact_text (report_data fs) ++ 10 ∷ [] ≡ codes "{\"functions\":[" ++ ((items_text false (items_of (map entry_data fs)) ++ 125 ∷ []) ++ 10 ∷ [])
unfolding serde_json_on_literals
opened fs = refl

-- the bracket and the brace that close a report make its text
pub closed : (text : List ℕ) (fs : List ReportEntry) → text ≡ codes "{\"functions\":[" ++ listed false fs → text ++ codes "]}\n" ≡ report_text fs
unfolding report_text
closed text fs e =
    let start = codes "{\"functions\":[" in
    let items = items_text false (items_of (map entry_data fs)) in
    ap (λ z. z ++ codes "]}\n") e
    ∙ append_assoc start (listed false fs) (codes "]}\n")
    ∙ ap (λ z. start ++ z) (sym (append_assoc (listed false fs) (93 ∷ []) (125 ∷ 10 ∷ [])) ∙ ap (λ z. z ++ 125 ∷ 10 ∷ []) (closing false fs)
    ∙ sym (append_assoc items (125 ∷ []) (10 ∷ [])))
    ∙ sym (opened fs)

behind_more : (fs : List ReportEntry) → is_behind true fs ≡ true
behind_more [] = refl
behind_more (f ∷ fs) = refl

last_one : (later : Bool) (fs : List ReportEntry) (f : ReportEntry)
    → listed later (fs ++ f ∷ []) ≡ listed later fs ++ (comma_if (is_behind later fs) ++ compact_text (entry_data f))
last_one later [] f = ap (λ z. comma_if later ++ z) (append-nil (compact_text (entry_data f)))
last_one later (g ∷ fs) f =
    let text = compact_text (entry_data g) in
    let piece = comma_if true ++ compact_text (entry_data f) in
    ap (λ z. comma_if later ++ (text ++ z)) (last_one true fs f ∙ ap (λ b. listed true fs ++ (comma_if b ++ compact_text (entry_data f))) (behind_more fs))
    ∙ ap (λ z. comma_if later ++ z) (sym (append_assoc text (listed true fs) piece))
    ∙ sym (append_assoc (comma_if later) (text ++ listed true fs) piece)

behind_last : (fs : List ReportEntry) (f : ReportEntry) → is_behind false (fs ++ f ∷ []) ≡ true
behind_last [] f = refl
behind_last (g ∷ fs) f = refl

-- a report whose text has grown by a comma, where one is due, and an entry's text has that entry at its end
pub grown : (fs : List ReportEntry) (f : ReportEntry) (t u : ReportText) → HasEntries fs t → u.later ≡ true
    → string_bytes u.text ≡ (string_bytes t.text ++ comma_if t.later) ++ compact_text (entry_data f) → HasEntries (fs ++ f ∷ []) u
grown fs f t u has later e = record {
  begun =
      e ∙ append_assoc (string_bytes t.text) (comma_if t.later) (compact_text (entry_data f))
      ∙ ap (λ z. z ++ (comma_if t.later ++ compact_text (entry_data f))) has.begun
      ∙ append_assoc (codes "{\"functions\":[") (listed false fs) (comma_if t.later ++ compact_text (entry_data f))
      ∙ ap (λ b. codes "{\"functions\":[" ++ (listed false fs ++ (comma_if b ++ compact_text (entry_data f)))) has.behind
      ∙ ap (λ z. codes "{\"functions\":[" ++ z) (sym (last_one false fs f));
  behind = later ∙ sym (behind_last fs f);
}

-- the key of a tree stands behind a comma, where there is one
tree_written : (o : Option (List NodeTree)) (others : Members) →
    members_text true (with_tree o others) ≡ shown_tree_text o ++ members_text true others
unfolding serde_json_on_literals
tree_written None others = refl
tree_written (Some nodes) others = sym (append_assoc (codes ",\"tree\":") (compact_text (tree_data nodes)) (members_text true others))

-- the members behind the tree
abbrev last_members : ReportTree → Members
last_members f =
    member (codes "unreachable") (array (items_of (map unreachable_data f.unreachable)))
    (member (codes "witnesses") (witnesses_data f.witnesses) no_members)

-- what is reported of a function, with the key of its tree behind the first members
begun_written : (f : ReportTree) →
    codes "{\"exhaustive\":" ++ (flag_word f.exhaustive ++ (codes ",\"name\":" ++ (compact_text (string f.name) ++ (codes ",\"overlaps\":["
    ++ (items_text false (items_of (map overlap_entry f.overlaps)) ++ members_text true (with_tree f.tree (last_members f)))))))
    ≡ compact_text (function_data f)
unfolding serde_json_on_literals
begun_written f = refl

-- the members behind the tree, one after the other
last_written : (f : ReportTree) →
    codes ",\"unreachable\":[" ++ (items_text false (items_of (map unreachable_data f.unreachable)) ++ (codes ",\"witnesses\":"
    ++ (compact_text (witnesses_data f.witnesses) ++ 125 ∷ [])))
    ≡ members_text true (last_members f)
unfolding serde_json_on_literals
last_written f = refl

-- the pieces of what is reported of a function, one after the other, make its text
pub function_written : (f : ReportTree) (x0 x1 x2 x3 x4 x5 x6 x7 x8 x9 x10 x11 x12 : List ℕ)
    → x1 ≡ x0 ++ codes "{\"exhaustive\":"
    → x2 ≡ x1 ++ flag_word f.exhaustive
    → x3 ≡ x2 ++ codes ",\"name\":"
    → x4 ≡ x3 ++ compact_text (string f.name)
    → x5 ≡ x4 ++ codes ",\"overlaps\":["
    → x6 ≡ x5 ++ items_text false (items_of (map overlap_entry f.overlaps))
    → x7 ≡ x6 ++ shown_tree_text f.tree
    → x8 ≡ x7 ++ codes ",\"unreachable\":["
    → x9 ≡ x8 ++ items_text false (items_of (map unreachable_data f.unreachable))
    → x10 ≡ x9 ++ codes ",\"witnesses\":"
    → x11 ≡ x10 ++ compact_text (witnesses_data f.witnesses)
    → x12 ≡ x11 ++ 125 ∷ []
    → x12 ≡ x0 ++ compact_text (function_data f)
function_written f x0 x1 x2 x3 x4 x5 x6 x7 x8 x9 x10 x11 x12 e1 e2 e3 e4 e5 e6 e7 e8 e9 e10 e11 e12 =
    let tree = shown_tree_text f.tree in
    let last : x12 ≡ x7 ++ members_text true (last_members f) =
    five_added x7 x8 x9 x10 x11 x12 _ _ _ _ _ e8 e9 e10 e11 e12 ∙ ap (λ z. x7 ++ z) (last_written f) in
    let behind : x12 ≡ x6 ++ members_text true (with_tree f.tree (last_members f)) =
    two_added x6 x7 x12 tree (members_text true (last_members f)) e7 last ∙ ap (λ z. x6 ++ z) (sym (tree_written f.tree (last_members f))) in
    seven_added x0 x1 x2 x3 x4 x5 x6 x12 _ _ _ _ _ _ _ e1 e2 e3 e4 e5 e6 behind ∙ ap (λ z. x0 ++ z) (begun_written f)
