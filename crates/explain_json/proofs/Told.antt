-- The answer to what a report has found.
use Rattle.std.proofs.Common.{◌≡◌, ◌∙◌, ap, sym, subst, refl, ℕ, ◌-◌, ◌<◌, List, [], ◌++◌, length, drop, take, map, get_or, Bool, false, arith, string_bytes, flat_map}
use Rattle.std.specs.Prelude.{Result, Ok, Err}
use Rattle.std.specs.List.{All}
use Rattle.std.specs.Global.{Vec}
use Rattle.std.proofs.lemmas.List.{get_or-map, length-drop, length-map, take_rest}
use Rattle.explain_places.specs.declared.pieces.Piece.{Piece}
use Rattle.explain_text.specs.Diagnosing.{Diagnosis, DiagnosesBy}
use Rattle.explain_text.specs.Diagnostics.{DiagnosticTree, IsInside, IsNoteInside, NoteTree, diagnostic_view, note_view}
use Rattle.explain_text.specs.Sources.{mark_length}
use Rattle.explain_text.specs.declared.diagnostics.Diagnostic.{Diagnostic}
use Rattle.explain_text.specs.declared.diagnostics.Note.{Note}
use Rattle.explain_text.specs.declared.diagnosing.Fault.{Fault}
use Rattle.explain_text.specs.declared.diagnosing.Fault.TheVariants.{NoReport, NoPlace, NoMemory}
use Rattle.explain_text.specs.declared.explaining.Explained.{Explained}
use Rattle.explain_json.specs.Diagnostics.{finding_line}
use Rattle.explain_json.specs.Texts.{AnswersBy, IsTextOf, findings_text}

-- one of some notes is in the file as all are
pub note_inside : (long mark : ℕ) (ns : List Note) (i : ℕ) (n : Note) → i < length ns → n ≡ get_or ns i n → All (IsNoteInside long mark) (map note_view ns) →
    IsNoteInside long mark (note_view n)
note_inside long mark ns i n lt is all =
    subst (λ (m : Note). IsNoteInside long mark (note_view m)) (sym is)
    (subst (IsNoteInside long mark) (get_or-map note_view ns i n (note_view n) lt) (all i (note_view n) (omega (arith, length-map ns note_view))))

-- one of some findings is in the file as all are
pub finding_inside : (long mark : ℕ) (ds : List Diagnostic) (i : ℕ) (d : Diagnostic) → i < length ds → d ≡ get_or ds i d → All (IsInside long mark) (map diagnostic_view ds) →
    IsInside long mark (diagnostic_view d)
finding_inside long mark ds i d lt is all =
    subst (λ (e : Diagnostic). IsInside long mark (diagnostic_view e)) (sym is)
    (subst (IsInside long mark) (get_or-map diagnostic_view ds i d (diagnostic_view d) lt) (all i (diagnostic_view d) (omega (arith, length-map ds diagnostic_view))))

-- findings that are in the file are in the text behind its byte order mark
pub behind_mark : (file : List ℕ) (mark : ℕ) (ds : List DiagnosticTree) → mark ≡ mark_length file →
    All (IsInside (length file - mark_length file) (mark_length file)) ds →
    All (IsInside (length (take (length file - mark) (drop mark file))) mark) ds
behind_mark file mark ds e all =
    let long : length file - mark ≡ length (drop mark file) = sym (length-drop mark file) in
    subst (λ (t : List ℕ). All (IsInside (length t) mark) ds) (sym (take_rest file mark))
    (subst (λ (n : ℕ). All (IsInside n mark) ds) long
    (subst (λ (m : ℕ). All (IsInside (length file - m) m) ds) (sym e) all))

-- the text of findings, by the text behind the byte order mark
pub findings_told : (name file : List ℕ) (mark : ℕ) (ds : List DiagnosticTree) (old new : List ℕ) → mark ≡ mark_length file → old ≡ [] →
    new ≡ old ++ flat_map (finding_line false name (take (length file - mark) (drop mark file)) mark) ds → new ≡ findings_text name file ds
findings_told name file mark ds old new m none told =
    told ∙ ap (λ z. z ++ flat_map (finding_line false name (take (length file - mark) (drop mark file)) mark) ds) none
    ∙ ap (λ t. flat_map (finding_line false name t mark) ds) (take_rest file mark)
    ∙ ap (λ n. flat_map (finding_line false name (drop n file) n) ds) m

-- what is answered where there are findings
pub answered : (name file : List ℕ) (d : List Piece → Diagnosis) (ds : Vec Diagnostic) (e : Explained) → DiagnosesBy file d (Ok ds) →
    IsTextOf name file (map diagnostic_view ds.items) e → AnswersBy name file d (Ok e)
answered name file d ds e w t = (w.0, w.1, (map diagnostic_view ds.items, w.2, t))

-- what is answered where there are none to tell of
pub failed : (name file : List ℕ) (d : List Piece → Diagnosis) (fault : Fault) → DiagnosesBy file d (Err fault) → AnswersBy name file d (Err fault)
failed name file d NoReport w = w
failed name file d NoPlace w = w
failed name file d NoMemory w = tt
