-- Findings whose places are in the file.
use Rattle.std.proofs.Common.{◌≡◌, ◌∙◌, ap, sym, subst, ℕ, zero, suc, ◌-◌, ◌<◌, ◌≤◌, List, [], ◌∷◌, ◌++◌, length, drop, take, map, get_or, Bool, true, false, cond, Option, Some, None, arith, refl, min, decimal, codes}
use Rattle.std.specs.List.{All, list_all, flat_map}
use Rattle.std.proofs.lemmas.Bool.{leb-true, and_parts, false≢true}
use Rattle.std.proofs.lemmas.List.{length-drop, length-map, get_or-map, take_min, take-map}
use Rattle.std.proofs.lemmas.List.Elements.{All-cons, All-nil}
use Rattle.serde_json.specs.Data.{Data}
use Rattle.explain_report.specs.Records.{ReportTree}
use Rattle.explain_report.specs.Reading.{report_of}
use Rattle.explain_places.specs.declared.pieces.Piece.{Piece}
use Rattle.explain_places.specs.declared.spans.Place.{Place}
use Rattle.explain_places.specs.declared.spans.Place.TheVariants.{Nowhere, There, Lost}
use Rattle.explain_text.specs.Diagnosing.{Diagnosis, Diagnosed, NotInFile, checked, described, diagnosis_of, diagnosis_of_json, diagnosis_of_report, findings_of, is_found, is_inside, is_note_found}
use Rattle.explain_text.specs.Diagnostics.{DiagnosticTree, NoteTree, IsInside, IsNoteInside}
use Rattle.explain_text.specs.Order.{start_of}
use Rattle.explain_text.specs.Sources.{mark_length}
use Rattle.explain_text.specs.Texts.{whole_text, diagnostic_text, counts_text, error_count}

behind_mark : (long mark at : ℕ) → at ≤ long → at - mark ≤ long - mark
behind_mark long mark at h = omega (arith, h)

-- a place that is in the file begins within it
found_within : (file : List ℕ) (mark : ℕ) (p : Place) → is_found file p ≡ true → start_of p - mark ≤ length file - mark
found_within file mark (There s) h = behind_mark (length file) mark s.from (leb-true s.from (length file) h)
found_within file mark Nowhere h = omega arith
found_within file mark Lost h = absurd (false≢true h)

notes_within : (file : List ℕ) (mark : ℕ) (ns : List NoteTree) → list_all (is_note_found file) ns ≡ true → All (IsNoteInside (length file - mark) mark) ns
notes_within file mark [] h = All-nil (IsNoteInside (length file - mark) mark)
notes_within file mark (n ∷ ns) h =
    let both = and_parts (is_note_found file n) (list_all (is_note_found file) ns) h in
    All-cons (IsNoteInside (length file - mark) mark) n ns (found_within file mark n.place both.0) (notes_within file mark ns both.1)

one_inside : (file : List ℕ) (mark : ℕ) (d : DiagnosticTree) → is_inside file d ≡ true → IsInside (length file - mark) mark d
one_inside file mark d h =
    let both = and_parts (is_found file d.place) (list_all (is_note_found file) d.notes) h in
    record {
      place = found_within file mark d.place both.0;
      notes = notes_within file mark d.notes both.1;
    }

-- findings that are all in the file
all_inside : (file : List ℕ) (mark : ℕ) (ds : List DiagnosticTree) → list_all (is_inside file) ds ≡ true → All (IsInside (length file - mark) mark) ds
all_inside file mark [] h = All-nil (IsInside (length file - mark) mark)
all_inside file mark (d ∷ ds) h =
    let both = and_parts (is_inside file d) (list_all (is_inside file) ds) h in
    All-cons (IsInside (length file - mark) mark) d ds (one_inside file mark d both.0) (all_inside file mark ds both.1)

-- the findings of a diagnosis, or none
abbrev found_in : Diagnosis → List DiagnosticTree
found_in (Diagnosed ds) = ds
found_in d = []

-- findings that were checked are in the file
checked_inside : (file : List ℕ) (mark : ℕ) (ds : List DiagnosticTree) → All (IsInside (length file - mark) mark) (found_in (checked file ds))
checked_inside file mark ds = go (list_all (is_inside file) ds) refl
  where
    go : (b : Bool) → list_all (is_inside file) ds ≡ b → All (IsInside (length file - mark) mark) (found_in (cond b (Diagnosed ds) NotInFile))
    go true h = all_inside file mark ds h
    go false h = All-nil (IsInside (length file - mark) mark)

report_inside : (file : List ℕ) (mark : ℕ) (arms : List (List (List ℕ))) (ps : List Piece) (r : Option ReportTree) →
    All (IsInside (length file - mark) mark) (found_in (diagnosis_of_report file arms ps r))
report_inside file mark arms ps None = All-nil (IsInside (length file - mark) mark)
report_inside file mark arms ps (Some r) = checked_inside file mark (described file arms (findings_of file ps r))

json_inside : (file : List ℕ) (mark : ℕ) (arms : List (List (List ℕ))) (ps : List Piece) (d : Option Data) →
    All (IsInside (length file - mark) mark) (found_in (diagnosis_of_json file arms ps d))
unfolding diagnosis_of_json
json_inside file mark arms ps None = All-nil (IsInside (length file - mark) mark)
json_inside file mark arms ps (Some d) = report_inside file mark arms ps (report_of d)

both_inside : (file : List ℕ) (mark : ℕ) (d : Option Data) (arms : Option (List (List (List ℕ)))) (ps : List Piece) →
    All (IsInside (length file - mark) mark) (found_in (diagnosis_of file d arms ps))
both_inside file mark d None ps = All-nil (IsInside (length file - mark) mark)
both_inside file mark d (Some arms) ps = json_inside file mark arms ps d

-- what is found is in the file
pub diagnosed_inside : (file : List ℕ) (mark : ℕ) (d : Option Data) (arms : Option (List (List (List ℕ)))) (ps : List Piece) (ds : List DiagnosticTree) →
    diagnosis_of file d arms ps ≡ Diagnosed ds → All (IsInside (length file - mark) mark) ds
diagnosed_inside file mark d arms ps ds e =
    subst (λ (x : List DiagnosticTree). All (IsInside (length file - mark) mark) x) (ap found_in e) (both_inside file mark d arms ps)

-- some findings have a text with counts
pub some_text : (paint : Bool) (name text : List ℕ) (mark : ℕ) (ds : List DiagnosticTree) → 0 < length ds →
    whole_text paint name text mark ds ≡ flat_map (diagnostic_text paint name text mark) ds ++ counts_text (error_count ds) (length ds - error_count ds)
some_text paint name text mark [] some = absurd (omega arith)
some_text paint name text mark (d ∷ ds) some = refl

-- no finding has none
pub no_text : (paint : Bool) (name text : List ℕ) (mark : ℕ) (ds : List DiagnosticTree) → length ds ≡ 0 → [] ≡ whole_text paint name text mark ds
no_text paint name text mark [] none = refl
no_text paint name text mark (d ∷ ds) none = absurd (omega arith)

-- the first of a list under a map
pub first_mapped : {A B : Type 0} (f : A → B) (n : ℕ) (xs : List A) → map f (take (min n (length xs)) xs) ≡ take n (map f xs)
first_mapped f n xs = ap (map f) (take_min n xs) ∙ sym (take-map f n xs)

-- one of a list under a map is as all are
pub mapped_at : {A B : Type 0} (P : B → Type 0) (f : A → B) (xs : List A) (i : ℕ) (d : A) → i < length xs → d ≡ get_or xs i d → All P (map f xs) → P (f d)
mapped_at P f xs i d lt is all = subst P (get_or-map f xs i d (f d) lt ∙ ap f (sym is)) (all i (f d) (omega (arith, length-map xs f, lt)))
