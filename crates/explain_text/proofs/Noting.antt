-- Notes and lines of code, one after the other.
use Rattle.std.proofs.Common.{◌≡◌, ◌∙◌, ap, sym, refl, ℕ, zero, suc, ◌-◌, ◌<◌, List, [], ◌∷◌, ◌++◌, length, take, map, min, Bor, String, string_bytes, codes, decimal, arith, append_assoc}
use Rattle.std.specs.Global.{Global}
use Rattle.std.proofs.lemmas.List.{length-map, map_push}
use Rattle.explain_text.specs.Diagnostics.{note_view}
use Rattle.explain_text.specs.Notes.{arm_line, arm_lines, case_note, case_notes, count_note, more_notes, rest_lines}
use Rattle.explain_text.specs.declared.diagnostics.Note.{Note}
use Rattle.explain_text.proofs.Inside.{first_mapped}

some_rest : (n : ℕ) → 0 < n → (codes "_ => todo!(), // the other cases: " ++ decimal n) ∷ [] ≡ rest_lines n
some_rest zero some = absurd (omega arith)
some_rest (suc n) some = refl

-- one arm for those that are not shown
pub rest_added : (lines grown : List (String Global)) (line : String Global) (start : List ℕ) (count : ℕ) → 0 < count → start ≡ [] →
    string_bytes line ≡ start ++ (codes "_ => todo!(), // the other cases: " ++ decimal count) → grown ≡ lines ++ line ∷ [] →
    map string_bytes grown ≡ map string_bytes lines ++ rest_lines count
rest_added lines grown line start count some none e g =
    ap (λ (l : List (String Global)). map string_bytes l) g ∙ map_push string_bytes lines line
    ∙ ap (λ t. map string_bytes lines ++ t ∷ []) (e ∙ ap (λ s. s ++ (codes "_ => todo!(), // the other cases: " ++ decimal count)) none)
    ∙ ap (λ l. map string_bytes lines ++ l) (some_rest count some)

-- the first arms, and one for the others
pub lines_added : (arms start mid end : List (String Global)) (shown : ℕ) → shown ≡ min 16 (length arms) → start ≡ [] →
    map string_bytes mid ≡ map string_bytes start ++ map arm_line (map string_bytes (take shown arms)) →
    map string_bytes end ≡ map string_bytes mid ++ rest_lines (length arms - shown) →
    map string_bytes end ≡ arm_lines (map string_bytes arms)
lines_added arms start mid end shown few none e f =
    let long = length-map arms (λ (a : String Global). string_bytes a) in
    let rest : length arms - shown ≡ length (map (λ (a : String Global). string_bytes a) arms) - 16 = omega (arith, few, long) in
    f ∙ ap (λ n. map string_bytes mid ++ rest_lines n) rest
    ∙ ap (λ l. l ++ rest_lines (length (map (λ (a : String Global). string_bytes a) arms) - 16))
    (e ∙ ap (λ n. map string_bytes start ++ map arm_line (map string_bytes (take n arms))) few
    ∙ ap (λ (l : List (String Global)). map string_bytes l ++ map arm_line (map string_bytes (take (min 16 (length arms)) arms))) none
    ∙ ap (map arm_line) (first_mapped (λ (a : String Global). string_bytes a) 16 arms))

-- the first cases, how many there are more, and how many there are
pub cases_added : (function : List ℕ) (ws : List (Bor (List ℕ))) (start mid near end : List Note) (note : Note) (shown : ℕ) → shown ≡ min 8 (length ws) → start ≡ [] →
    map note_view mid ≡ map note_view start ++ map case_note (map (λ w. w.now) (take shown ws)) →
    map note_view near ≡ map note_view mid ++ more_notes (length ws - shown) → note_view note ≡ count_note function (length ws) → end ≡ near ++ note ∷ [] →
    map note_view end ≡ case_notes (map (λ w. w.now) ws) ++ count_note function (length ws) ∷ []
cases_added function ws start mid near end note shown few none e f is g =
    let long = length-map ws (λ (w : Bor (List ℕ)). w.now) in
    let rest : length ws - shown ≡ length (map (λ (w : Bor (List ℕ)). w.now) ws) - 8 = omega (arith, few, long) in
    let first = e ∙ ap (λ n. map note_view start ++ map case_note (map (λ w. w.now) (take n ws))) few
    ∙ ap (λ (l : List Note). map note_view l ++ map case_note (map (λ w. w.now) (take (min 8 (length ws)) ws))) none
    ∙ ap (map case_note) (first_mapped (λ (w : Bor (List ℕ)). w.now) 8 ws) in
    ap (λ (l : List Note). map note_view l) g ∙ map_push note_view near note
    ∙ ap (λ n. map note_view near ++ n ∷ []) is
    ∙ ap (λ l. l ++ count_note function (length ws) ∷ [])
    (f ∙ ap (λ n. map note_view mid ++ more_notes n) rest ∙ ap (λ l. l ++ more_notes (length (map (λ (w : Bor (List ℕ)). w.now) ws) - 8)) first)
