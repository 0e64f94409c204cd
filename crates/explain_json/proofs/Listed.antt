-- Lines that are written one after the other.
use Rattle.std.proofs.Common.{◌≡◌, ◌∙◌, ap, sym, refl, ℕ, zero, suc, ◌+◌, ◌-◌, ◌<◌, ◌≤◌, List, [], ◌∷◌, ◌++◌, length, drop, get_or, Bool, true, false, arith, append_assoc, nat_eq}
use Rattle.std.proofs.lemmas.List.{append-nil, drop_more, drop_all}
use Rattle.serde_json.specs.Written.{comma_if, compact_text, items_text}
use Rattle.explain_lines.specs.Lines.{first_line, is_feed, spot_at}
use Rattle.explain_lines.specs.declared.spots.Spot.{Spot}
use Rattle.explain_lines.proofs.LineSteps.{first_line-feed, first_line-other}
use Rattle.explain_lines.proofs.Adding.{three_added}
use Rattle.explain_json.specs.Lines.{line_data, line_width, lines_items, shown_line}

-- of some lines the first one
first_of : (n i from to : ℕ) (bytes : List ℕ) (later : Bool) → i < n →
    items_text later (lines_items (n - i) from to bytes)
    ≡ comma_if later ++ (compact_text (line_data from to (shown_line bytes))
    ++ items_text true (lines_items (n - (i + 1)) (from - line_width bytes) (to - line_width bytes) (drop (line_width bytes) bytes)))
unfolding lines_items
first_of n i from to bytes later lt =
    let more : n - i ≡ suc (n - (i + 1)) = omega arith in
    ap (λ k. items_text later (lines_items k from to bytes)) more

-- one more line, behind which others come
pub line_more : (n i from to begin end : ℕ) (bytes rest : List ℕ) (later : Bool) (old mid new whole : List ℕ) → i < n →
    begin ≡ from - line_width bytes → end ≡ to - line_width bytes → rest ≡ drop (line_width bytes) bytes →
    mid ≡ old ++ comma_if later → new ≡ mid ++ compact_text (line_data from to (shown_line bytes)) →
    old ++ items_text later (lines_items (n - i) from to bytes) ≡ whole →
    new ++ items_text true (lines_items (n - (i + 1)) begin end rest) ≡ whole
line_more n i from to begin end bytes rest later old mid new whole lt b e r m w h =
    let here = compact_text (line_data from to (shown_line bytes)) in
    let behind = items_text true (lines_items (n - (i + 1)) (from - line_width bytes) (to - line_width bytes) (drop (line_width bytes) bytes)) in
    ap (λ x. new ++ items_text true (lines_items (n - (i + 1)) x end rest)) b
    ∙ ap (λ x. new ++ items_text true (lines_items (n - (i + 1)) (from - line_width bytes) x rest)) e
    ∙ ap (λ x. new ++ items_text true (lines_items (n - (i + 1)) (from - line_width bytes) (to - line_width bytes) x)) r
    ∙ three_added old mid new (new ++ behind) (comma_if later) here behind m w refl
    ∙ ap (λ z. old ++ z) (sym (first_of n i from to bytes later lt))
    ∙ h

-- the last line, and the bracket that closes the list
pub line_last : (n i from to : ℕ) (bytes : List ℕ) (later : Bool) (old mid near new whole : List ℕ) → n ≤ i →
    mid ≡ old ++ comma_if later → near ≡ mid ++ compact_text (line_data from to (shown_line bytes)) → new ≡ near ++ 93 ∷ [] →
    old ++ items_text later (lines_items (n - i) from to bytes) ≡ whole → new ≡ whole
unfolding lines_items
line_last n i from to bytes later old mid near new whole le m w c h =
    let none : n - i ≡ 0 = omega arith in
    three_added old mid near new (comma_if later) (compact_text (line_data from to (shown_line bytes))) (93 ∷ []) m w c
    ∙ ap (λ k. old ++ items_text later (lines_items k from to bytes)) (sym none)
    ∙ h

-- the first line of the rest ends at a line feed
pub length_feed : (bytes : List ℕ) (i count : ℕ) (whole : ℕ) → i < length bytes → is_feed (get_or bytes i 0) ≡ true →
    count + length (first_line (drop i bytes)) ≡ whole → count ≡ whole
length_feed bytes i count whole lt feed h =
    let none : length (first_line (drop i bytes)) ≡ 0 = ap (λ l. length (first_line l)) (drop_more bytes i 0 lt)
    ∙ ap length (first_line-feed (get_or bytes i 0) (drop (i + 1) bytes) feed) in
    omega (arith, none, h)

-- it goes on
pub length_more : (bytes : List ℕ) (i count : ℕ) (whole : ℕ) → i < length bytes → is_feed (get_or bytes i 0) ≡ false →
    count + length (first_line (drop i bytes)) ≡ whole → count + 1 + length (first_line (drop (i + 1) bytes)) ≡ whole
length_more bytes i count whole lt other h =
    let one : length (first_line (drop i bytes)) ≡ suc (length (first_line (drop (i + 1) bytes))) = ap (λ l. length (first_line l)) (drop_more bytes i 0 lt)
    ∙ ap length (first_line-other (get_or bytes i 0) (drop (i + 1) bytes) other) in
    omega (arith, one, h)

-- the text ends
pub length_end : (bytes : List ℕ) (i count : ℕ) (whole : ℕ) → length bytes ≤ i →
    count + length (first_line (drop i bytes)) ≡ whole → count ≡ whole
length_end bytes i count whole le h =
    let none : length (first_line (drop i bytes)) ≡ 0 = ap (λ l. length (first_line l)) (drop_all i bytes le) in
    omega (arith, none, h)

-- a line begins no later than its places
pub starts_before : (text : List ℕ) (at : ℕ) (spot : Spot) → spot ≡ spot_at text at → spot.start ≤ at
unfolding spot_at
starts_before text at spot e =
    let start = ap (λ (s : Spot). s.start) e in
    omega (arith, start)
