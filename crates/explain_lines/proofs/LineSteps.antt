-- The spot behind one more byte.
use Rattle.std.proofs.Common.{◌≡◌, ◌∙◌, ap, sym, refl, ℕ, ◌+◌, ◌-◌, ◌<◌, ◌≤◌, List, [], ◌∷◌, ◌++◌, length, take, drop, get_or, reverse, Bool, true, false, cond, not, arith, subst, count_by, if◌then◌else◌}
use Rattle.std.proofs.lemmas.List.{take_more, reverse-append, length-append, length-reverse, length-take, length-take-le, length_push}
use Rattle.std.proofs.lemmas.List.Sums.{sum_by_push, take_while-cons, count_by-le-length, prefix_len-le-length}
use Rattle.std.specs.List.{take_while, prefix_len, All}
use Rattle.std.proofs.lemmas.List.Elements.{All-same, All-push}
use Rattle.explain_lines.specs.Lines.{begins_character, is_feed, first_line, last_line, spot_at}
use Rattle.explain_lines.specs.Steps.{next_spot, IsSpotOf}
use Rattle.explain_lines.specs.declared.spots.Spot.{Spot}

first_line-cons : (b : ℕ) (bs : List ℕ) → first_line (b ∷ bs) ≡ cond (not (is_feed b)) (b ∷ first_line bs) []
first_line-cons b bs = take_while-cons (λ byte. not (is_feed byte)) b bs

-- the first line where the first byte is no line feed
pub first_line-other : (b : ℕ) (bs : List ℕ) → is_feed b ≡ false → first_line (b ∷ bs) ≡ b ∷ first_line bs
first_line-other b bs other = first_line-cons b bs ∙ ap (λ f. cond (not f) (b ∷ first_line bs) []) other

-- the first line where the first byte is a line feed
pub first_line-feed : (b : ℕ) (bs : List ℕ) → is_feed b ≡ true → first_line (b ∷ bs) ≡ []
first_line-feed b bs feed = first_line-cons b bs ∙ ap (λ f. cond (not f) (b ∷ first_line bs) []) feed

-- one more byte in reverse
pub reverse_push : (xs : List ℕ) (b : ℕ) → reverse (xs ++ b ∷ []) ≡ b ∷ reverse xs
reverse_push xs b = reverse-append xs (b ∷ [])

-- the reverse of a list with one more byte in front
pub reverse_cons : (b : ℕ) (xs : List ℕ) → reverse (b ∷ xs) ≡ reverse xs ++ b ∷ []
reverse_cons b xs = reverse-append (b ∷ []) xs

last_line-feed : (xs : List ℕ) (b : ℕ) → is_feed b ≡ true → last_line (xs ++ b ∷ []) ≡ []
last_line-feed xs b feed = ap (λ r. reverse (first_line r)) (reverse_push xs b) ∙ ap reverse (first_line-feed b (reverse xs) feed)

last_line-other : (xs : List ℕ) (b : ℕ) → is_feed b ≡ false → last_line (xs ++ b ∷ []) ≡ last_line xs ++ b ∷ []
last_line-other xs b other =
    ap (λ r. reverse (first_line r)) (reverse_push xs b) ∙ ap reverse (first_line-other b (reverse xs) other) ∙ reverse_cons b (first_line (reverse xs))

-- the spot behind these bytes
abbrev front_spot : List ℕ → ℕ → Spot
front_spot xs n = record { at = n; line = count_by is_feed xs + 1; column = count_by begins_character (last_line xs) + 1; start = n - length (last_line xs) }

same_spot : (a b c d x y z w : ℕ) → a ≡ x → b ≡ y → c ≡ z → d ≡ w →
    (let s : Spot = record { at = a; line = b; column = c; start = d } in s) ≡ record { at = x; line = y; column = z; start = w }
same_spot a b c d x y z w p q r s = cc

pushed : (xs : List ℕ) (b n : ℕ) (f g : Bool) → is_feed b ≡ f → begins_character b ≡ g →
    cond f (let s : Spot = record { at = n + 1; line = count_by is_feed xs + 1 + 1; column = 1; start = n + 1 } in s)
    (cond g (record { at = n + 1; line = count_by is_feed xs + 1; column = count_by begins_character (last_line xs) + 1 + 1; start = n - length (last_line xs) })
    (record { at = n + 1; line = count_by is_feed xs + 1; column = count_by begins_character (last_line xs) + 1; start = n - length (last_line xs) }))
    ≡ front_spot (xs ++ b ∷ []) (n + 1)
pushed xs b n true g e h =
    let lines : count_by is_feed (xs ++ b ∷ []) ≡ count_by is_feed xs + 1 = sum_by_push (λ x. cond (is_feed x) 1 0) xs b ∙ ap (λ f. count_by is_feed xs + cond f 1 0) e in
    let last = last_line-feed xs b e in
    same_spot _ _ _ _ _ _ _ _ refl (ap (λ k. k + 1) (sym lines)) (ap (λ l. count_by begins_character l + 1) (sym last)) ((let z : n + 1 ≡ n + 1 - 0 = omega arith in z) ∙ ap (λ l. n + 1 - length l) (sym last))
pushed xs b n false true e h =
    let lines : count_by is_feed (xs ++ b ∷ []) ≡ count_by is_feed xs = sum_by_push (λ x. cond (is_feed x) 1 0) xs b ∙ ap (λ f. count_by is_feed xs + cond f 1 0) e ∙ omega arith in
    let last = last_line-other xs b e in
    let columns : count_by begins_character (last_line xs ++ b ∷ []) ≡ count_by begins_character (last_line xs) + 1 =
    sum_by_push (λ x. cond (begins_character x) 1 0) (last_line xs) b ∙ ap (λ f. count_by begins_character (last_line xs) + cond f 1 0) h in
    let long = length_push (last_line xs) b in
    let starts : n - length (last_line xs) ≡ n + 1 - length (last_line xs ++ b ∷ []) = omega (arith, long) in
    same_spot _ _ _ _ _ _ _ _ refl (ap (λ k. k + 1) (sym lines)) (ap (λ k. k + 1) (sym columns) ∙ ap (λ l. count_by begins_character l + 1) (sym last))
    (starts ∙ ap (λ l. n + 1 - length l) (sym last))
pushed xs b n false false e h =
    let lines : count_by is_feed (xs ++ b ∷ []) ≡ count_by is_feed xs = sum_by_push (λ x. cond (is_feed x) 1 0) xs b ∙ ap (λ f. count_by is_feed xs + cond f 1 0) e ∙ omega arith in
    let last = last_line-other xs b e in
    let columns : count_by begins_character (last_line xs ++ b ∷ []) ≡ count_by begins_character (last_line xs) =
    sum_by_push (λ x. cond (begins_character x) 1 0) (last_line xs) b ∙ ap (λ f. count_by begins_character (last_line xs) + cond f 1 0) h ∙ omega arith in
    let long = length_push (last_line xs) b in
    let starts : n - length (last_line xs) ≡ n + 1 - length (last_line xs ++ b ∷ []) = omega (arith, long) in
    same_spot _ _ _ _ _ _ _ _ refl (ap (λ k. k + 1) (sym lines)) (ap (λ k. k + 1) (sym columns) ∙ ap (λ l. count_by begins_character l + 1) (sym last))
    (starts ∙ ap (λ l. n + 1 - length l) (sym last))

-- one byte further on
pub spot_more : (text : List ℕ) (i b : ℕ) → i < length text → b ≡ get_or text i 0 → next_spot (spot_at text i) b ≡ spot_at text (i + 1)
unfolding spot_at
spot_more text i b lt e =
    pushed (take i text) b i (is_feed b) (begins_character b) refl refl
    ∙ ap (λ r. front_spot r (i + 1)) (ap (λ x. take i text ++ x ∷ []) e ∙ sym (take_more text i 0 lt))

first_line-le : (xs : List ℕ) → length (first_line xs) ≤ length xs
first_line-le xs = omega (arith, length-take (prefix_len (λ byte. not (is_feed byte)) xs) xs)

-- a line number is no more than the place, counted from 1
pub line_within : (text : List ℕ) (at : ℕ) → at ≤ length text → (spot_at text at).line ≤ at + 1
unfolding spot_at
line_within text at within = omega (arith, count_by-le-length is_feed (take at text), length-take-le at text within)

-- nor is a column
pub column_within : (text : List ℕ) (at : ℕ) → at ≤ length text → (spot_at text at).column ≤ at + 1
unfolding spot_at
column_within text at within =
    omega (
      arith,
      count_by-le-length begins_character (last_line (take at text)),
      length-reverse (first_line (reverse (take at text))),
      first_line-le (reverse (take at text)),
      length-reverse (take at text),
      length-take-le at text within,
    )

-- what is known of a spot that a loop has come to
pub record Fits (spot : Spot) (i : ℕ) : Type 0 where
  pub at : spot.at ≡ i
  pub line : spot.line ≤ i + 1
  pub column : spot.column ≤ i + 1

at_is : (text : List ℕ) (i : ℕ) → (spot_at text i).at ≡ i
unfolding spot_at
at_is text i = refl

pub spot_fits : (text : List ℕ) (spot : Spot) (i : ℕ) → spot ≡ spot_at text i → i ≤ length text → Fits spot i
spot_fits text spot i e within =
    let lines : spot.line ≡ (spot_at text i).line = ap (λ (s : Spot). s.line) e in
    let columns : spot.column ≡ (spot_at text i).column = ap (λ (s : Spot). s.column) e in
    record {
      at = ap (λ (s : Spot). s.at) e ∙ at_is text i;
      line = omega (arith, lines, line_within text i within);
      column = omega (arith, columns, column_within text i within);
    }

-- every text begins there
pub origin_is : (text : List ℕ) → (let s : Spot = record { at = 0; line = 1; column = 1; start = 0 } in s) ≡ spot_at text 0
unfolding spot_at
origin_is text = refl

-- the place of a spot
pub place_is : (text : List ℕ) (spot : Spot) (at : ℕ) → spot ≡ spot_at text at → spot.at ≡ at
place_is text spot at e = ap (λ (s : Spot). s.at) e ∙ at_is text at

-- the spot of a place within the text is one of the text's
pub is_spot : (text : List ℕ) (spot : Spot) (at : ℕ) → spot ≡ spot_at text at → at ≤ length text → IsSpotOf text spot
is_spot text spot at e within =
    let place = place_is text spot at e in
    record { right = e ∙ ap (spot_at text) (sym place); within = omega (arith, place) }

-- one more spot
pub all_pushed : (text : List ℕ) (xs ys : List Spot) (spot : Spot) → ys ≡ xs ++ spot ∷ [] → All (IsSpotOf text) xs → IsSpotOf text spot → All (IsSpotOf text) ys
all_pushed text xs ys spot e all one = All-same (IsSpotOf text) ys (xs ++ spot ∷ []) e (All-push (IsSpotOf text) xs spot all one)
