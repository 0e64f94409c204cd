-- The whole text, piece by piece.
use Rattle.std.proofs.Common.{◌≡◌, ◌∙◌, ap, sym, subst, refl, ℕ, zero, suc, ◌-◌, ◌+◌, ◌<◌, ◌≤◌, List, [], ◌∷◌, ◌++◌, length, drop, take, map, get_or, Bool, true, false, cond, nat_lt, Option, Result, Ok, Err, arith, min, Bor, append_assoc, string_bytes, IfOk}
use Rattle.std.specs.Global.{Vec}
use Rattle.std.specs.List.{All, list_all, flat_map}
use Rattle.std.proofs.lemmas.List.{length-map, length-drop, get_or-map, take_rest}
use Rattle.std.proofs.lemmas.List.Sums.{count_by_more_yes, count_by_more_no}
use Rattle.explain_text.specs.Sources.{mark_length}
use Rattle.serde_json.specs.Data.{Data}
use Rattle.explain_text.specs.Diagnosing.{Diagnosis, Diagnosed, NotInFile, Diagnoses, DiagnosesBy, checked, described, diagnosis_of, diagnostic_of, is_inside}
use Rattle.explain_text.specs.Diagnostics.{DiagnosticTree, IsInside, diagnostic_view}
use Rattle.explain_text.specs.Texts.{AnswersBy, Outcome, Told, counts_text, diagnostic_text, error_count, form_text, told_of, whole_text}
use Rattle.explain_text.specs.declared.diagnostics.Diagnostic.{Diagnostic}
use Rattle.explain_text.specs.declared.diagnosing.Fault.{Fault}
use Rattle.explain_text.specs.declared.diagnosing.Fault.TheVariants.{NoReport, NoPlace, NoMemory}
use Rattle.explain_text.specs.declared.explaining.Explained.{Explained}
use Rattle.explain_text.specs.declared.explaining.Manner.{Manner}
use Rattle.explain_places.specs.declared.pieces.Piece.{Piece}
use Rattle.explain_places.specs.Pieces.{ArePieces}
use Rattle.explain_text.specs.Findings.{FindingTree}
use Rattle.explain_text.proofs.Inside.{diagnosed_inside, some_text}

same_at : (ds : List Diagnostic) (i : ℕ) (d : Diagnostic) → i < length ds → get_or (map diagnostic_view ds) i (diagnostic_view d) ≡ diagnostic_view (get_or ds i d)
same_at ds i d lt = get_or-map diagnostic_view ds i d (diagnostic_view d) lt

-- one more finding that breaks a build
pub count_yes : (ds : List Diagnostic) (i : ℕ) (d : Diagnostic) (n m : ℕ) → i < length ds → d ≡ get_or ds i d → d.breaks ≡ true →
    n ≡ error_count (take i (map diagnostic_view ds)) → m ≡ n + 1 → m ≡ error_count (take (i + 1) (map diagnostic_view ds))
count_yes ds i d n m lt is breaks e more =
    more ∙ ap (λ k. k + 1) e
    ∙ sym (count_by_more_yes (λ f. f.breaks) (map diagnostic_view ds) i (diagnostic_view d) (omega (arith, length-map ds diagnostic_view))
    (ap (λ (f : DiagnosticTree). f.breaks) (same_at ds i d lt) ∙ ap (λ (x : Diagnostic). x.breaks) (sym is) ∙ breaks))

-- one that does not
pub count_no : (ds : List Diagnostic) (i : ℕ) (d : Diagnostic) (n m : ℕ) → i < length ds → d ≡ get_or ds i d → d.breaks ≡ false →
    n ≡ error_count (take i (map diagnostic_view ds)) → m ≡ n → m ≡ error_count (take (i + 1) (map diagnostic_view ds))
count_no ds i d n m lt is warns e same =
    same ∙ e
    ∙ sym (count_by_more_no (λ f. f.breaks) (map diagnostic_view ds) i (diagnostic_view d) (omega (arith, length-map ds diagnostic_view))
    (ap (λ (f : DiagnosticTree). f.breaks) (same_at ds i d lt) ∙ ap (λ (x : Diagnostic). x.breaks) (sym is) ∙ warns))

-- all findings and the counts
pub whole_added : (paint : Bool) (name text : List ℕ) (mark : ℕ) (ds : List Diagnostic) (start mid new : List ℕ) (errors : ℕ) → 0 < length ds → start ≡ [] →
    mid ≡ start ++ flat_map (diagnostic_text paint name text mark) (map diagnostic_view ds) → new ≡ mid ++ counts_text errors (length ds - errors) →
    errors ≡ error_count (map diagnostic_view ds) → new ≡ whole_text paint name text mark (map diagnostic_view ds)
whole_added paint name text mark ds start mid new errors some none e f count =
    let long = length-map ds diagnostic_view in
    let texts = flat_map (diagnostic_text paint name text mark) (map diagnostic_view ds) in
    f ∙ ap (λ m. m ++ counts_text errors (length ds - errors)) (e ∙ ap (λ s. s ++ texts) none)
    ∙ ap (λ n. texts ++ counts_text errors (n - errors)) (sym long)
    ∙ ap (λ n. texts ++ counts_text n (length (map diagnostic_view ds) - n)) count
    ∙ sym (some_text paint name text mark (map diagnostic_view ds) (omega (arith, long)))

-- the length of the text behind a byte order mark
pub long_behind : (file : List ℕ) (mark : ℕ) → length (take (length file - mark) (drop mark file)) ≡ length file - mark
long_behind file mark = ap length (take_rest file mark) ∙ length-drop mark file

-- what is told
pub told : (manner : Manner) (name file : List ℕ) (ds : List DiagnosticTree) (mark : ℕ) (text : List ℕ) (n : ℕ) → mark ≡ mark_length file →
    text ≡ form_text manner.form manner.paint name (take (length file - mark) (drop mark file)) mark ds → n ≡ error_count ds →
    told_of manner name file (Diagnosed ds) ≡ Told text (nat_lt 0 n)
told manner name file ds mark text n m t count =
    ap (λ k. Told (form_text manner.form manner.paint name (drop k file) k ds) (nat_lt 0 (error_count ds))) (sym m)
    ∙ ap (λ x. Told x (nat_lt 0 (error_count ds))) (sym (t ∙ ap (λ x. form_text manner.form manner.paint name x mark ds) (take_rest file mark)))
    ∙ ap (λ k. Told text (nat_lt 0 k)) (sym count)

-- a diagnosis by the tokens of the file
pub diagnosed : (file : List ℕ) (ps : List Piece) (d : List Piece → Diagnosis) (r : Result (Vec Diagnostic) Fault) → ArePieces file ps → Diagnoses (d ps) r → DiagnosesBy file d r
diagnosed file ps d (Ok ds) p a = (ps, p, a)
diagnosed file ps d (Err NoReport) p a = (ps, p, a)
diagnosed file ps d (Err NoPlace) p a = (ps, p, a)
diagnosed file ps d (Err NoMemory) p a = tt

-- an answer without a text
pub failed : (manner : Manner) (name file : List ℕ) (d : List Piece → Diagnosis) (f : Fault) → DiagnosesBy file d (Err f) →
    AnswersBy file (λ ps. told_of manner name file (d ps)) (Err f)
failed manner name file d NoReport w = (w.0, w.1, ap (told_of manner name file) w.2)
failed manner name file d NoPlace w = (w.0, w.1, ap (told_of manner name file) w.2)
failed manner name file d NoMemory w = tt

-- an answer with a text
pub answered : (manner : Manner) (name file : List ℕ) (d : List Piece → Diagnosis) (ds : Vec Diagnostic) (e : Explained) → DiagnosesBy file d (Ok ds) →
    told_of manner name file (Diagnosed (map diagnostic_view ds.items)) ≡ Told (string_bytes e.text) e.breaks →
    AnswersBy file (λ ps. told_of manner name file (d ps)) (Ok e)
answered manner name file d ds e w t = (w.0, w.1, ap (told_of manner name file) w.2 ∙ t)

-- findings in words, by the text behind the byte order mark
pub described_is : (file : List ℕ) (arms : List (List (List ℕ))) (fs : List FindingTree) (mark : ℕ) (ds : List DiagnosticTree) → mark ≡ mark_length file →
    ds ≡ map (diagnostic_of (take (length file - mark) (drop mark file)) mark arms) fs → ds ≡ described file arms fs
described_is file arms fs mark ds m e =
    e ∙ ap (λ t. map (diagnostic_of t mark arms) fs) (take_rest file mark) ∙ ap (λ k. map (diagnostic_of (drop k file) k arms) fs) m

-- they are checked
pub checked_is : (file : List ℕ) (ds wanted : List DiagnosticTree) (b : Bool) → ds ≡ wanted → b ≡ list_all (is_inside file) ds →
    checked file wanted ≡ cond b (Diagnosed ds) NotInFile
checked_is file ds wanted b e h = ap (checked file) (sym e) ∙ ap (λ t. cond t (Diagnosed ds) NotInFile) (sym h)

-- what is found begins in the file
pub inside_all : (file : List ℕ) (mark : ℕ) (d : Option Data) (arms : Option (List (List (List ℕ)))) (ps : List Piece) (r : Result (Vec Diagnostic) Fault) →
    Diagnoses (diagnosis_of file d arms ps) r → IfOk r (λ ds. All (IsInside (length file - mark) mark) (map diagnostic_view ds.items))
inside_all file mark d arms ps (Ok ds) e = diagnosed_inside file mark d arms ps (map diagnostic_view ds.items) e
inside_all file mark d arms ps (Err f) e = tt
