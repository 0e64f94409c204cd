-- Parts of a line around a place.
use Rattle.std.proofs.Common.{◌≡◌, ◌∙◌, ap, sym, refl, ℕ, zero, suc, ◌+◌, ◌-◌, ◌<◌, ◌≤◌, List, [], ◌∷◌, ◌++◌, length, take, drop, get_or, reverse, Bool, true, false, cond, not, arith, append_assoc, ◌&&◌, nat_eq}
use Rattle.std.proofs.lemmas.List.{take_more, drop_more, drop_all, append-nil, reverse-reverse, length-drop, get_or-drop}
use Rattle.std.proofs.lemmas.Bool.{both_ways, and_left}
use Rattle.std.proofs.Math.Dec.{eqb-suc-zero}
use Rattle.explain_lines.specs.Lines.{begins_character, is_feed, first_line, whole_back, whole_front, shown_before, shown_after}
use Rattle.explain_lines.specs.Windows.{IsPart}
use Rattle.explain_lines.proofs.LineSteps.{first_line-other, first_line-feed, reverse_push, reverse_cons}

-- what is still to be shown before a place, in reverse
abbrev pub back : ℕ → List ℕ → ℕ → List ℕ
back left text k = whole_back left (first_line (reverse (take k text)))

-- what is still to be shown from a place on
abbrev pub front : ℕ → List ℕ → ℕ → List ℕ
front left text k = whole_front left (first_line (drop k text))

-- the bytes from the one place to the other
abbrev pub slice : List ℕ → ℕ → ℕ → List ℕ
slice text from to = take (to - from) (drop from text)

-- how far the walk back from a place has come
pub record WalkedBack (text : List ℕ) (at most from left : ℕ) : Type 0 where
  pub near : from ≤ at
  pub part : reverse (slice text from at) ++ back left text from ≡ back most text at

-- how far the walk on from a place has come
pub record WalkedOn (text : List ℕ) (at most to left : ℕ) : Type 0 where
  pub near : at ≤ to
  pub within : to ≤ length text
  pub part : slice text at to ++ front left text to ≡ front most text at

empty_slice : (text : List ℕ) (at : ℕ) → slice text at at ≡ []
empty_slice text at = ap (λ n. take n (drop at text)) (let none : at - at ≡ 0 = omega arith in none)

pub back_begun : (text : List ℕ) (at most : ℕ) → WalkedBack text at most at most
back_begun text at most = record {
  near = omega arith;
  part = ap (λ s. reverse s ++ back most text at) (empty_slice text at);
}

pub on_begun : (text : List ℕ) (at most : ℕ) → at ≤ length text → WalkedOn text at most at most
on_begun text at most within = record {
  near = omega arith;
  within = within;
  part = ap (λ s. s ++ front most text at) (empty_slice text at);
}

reverse_take : (text : List ℕ) (k : ℕ) → k < length text → reverse (take (k + 1) text) ≡ get_or text k 0 ∷ reverse (take k text)
reverse_take text k lt = ap reverse (take_more text k 0 lt) ∙ reverse_push (take k text) (get_or text k 0)

whole_back-cons : (left b : ℕ) (bs : List ℕ) → 0 < left → whole_back left (b ∷ bs) ≡ b ∷ whole_back (cond (begins_character b) (left - 1) left) bs
whole_back-cons zero b bs some = absurd (omega arith)
whole_back-cons (suc left) b bs some = chosen (begins_character b)
  where
    chosen : (t : Bool) → (b ∷ cond t (whole_back left bs) (whole_back (suc left) bs)) ≡ b ∷ whole_back (cond t (suc left - 1) (suc left)) bs
    chosen true = ap (λ n. b ∷ whole_back n bs) (let one : left ≡ suc left - 1 = omega arith in one)
    chosen false = refl

back_step : (left : ℕ) (text : List ℕ) (k : ℕ) → k < length text → 0 < left → is_feed (get_or text k 0) ≡ false →
    back left text (k + 1) ≡ get_or text k 0 ∷ back (cond (begins_character (get_or text k 0)) (left - 1) left) text k
back_step left text k lt some other =
    ap (λ r. whole_back left (first_line r)) (reverse_take text k lt)
    ∙ ap (whole_back left) (first_line-other (get_or text k 0) (reverse (take k text)) other)
    ∙ whole_back-cons left (get_or text k 0) (first_line (reverse (take k text))) some

longer_slice : (text : List ℕ) (k at : ℕ) → k < at → k < length text → slice text k at ≡ get_or text k 0 ∷ slice text (k + 1) at
longer_slice text k at lt within =
    ap (λ n. take n (drop k text)) (let n : at - k ≡ suc (at - (k + 1)) = omega arith in n)
    ∙ ap (take (suc (at - (k + 1)))) (drop_more text k 0 within)

-- one byte further back
pub walked_back : (text : List ℕ) (at most from left k room : ℕ) → at ≤ length text → from ≡ k + 1 → 0 < left → is_feed (get_or text k 0) ≡ false →
    room ≡ cond (begins_character (get_or text k 0)) (left - 1) left → WalkedBack text at most from left → WalkedBack text at most k room
walked_back text at most from left k room within e some other r w =
    let near = w.near in
    let lt : k < at = omega arith in
    let inside : k < length text = omega arith in
    let b = get_or text k 0 in
    let part : reverse (slice text (k + 1) at) ++ back left text (k + 1) ≡ back most text at = ap (λ f. reverse (slice text f at) ++ back left text f) (sym e) ∙ w.part in
    record {
      near = omega arith;
      part = ap (λ n. reverse (slice text k at) ++ back n text k) r
          ∙ ap (λ s. reverse s ++ back (cond (begins_character b) (left - 1) left) text k) (longer_slice text k at lt inside)
          ∙ ap (λ s. s ++ back (cond (begins_character b) (left - 1) left) text k) (reverse_cons b (slice text (k + 1) at))
          ∙ append_assoc (reverse (slice text (k + 1) at)) (b ∷ []) (back (cond (begins_character b) (left - 1) left) text k)
          ∙ ap (λ s. reverse (slice text (k + 1) at) ++ s) (sym (back_step left text k inside some other))
          ∙ part;
    }

shown_back : (text : List ℕ) (at most from left : ℕ) → at ≤ length text → WalkedBack text at most from left → back left text from ≡ [] → IsPart text from at (shown_before most text at)
unfolding shown_before
shown_back text at most from left within w none = record {
  ordered = w.near;
  within = within;
  part = sym (reverse-reverse (slice text from at))
      ∙ ap reverse (sym (append-nil (reverse (slice text from at))) ∙ ap (λ s. reverse (slice text from at) ++ s) (sym none) ∙ w.part);
}

whole_back-nil : (left : ℕ) → whole_back left [] ≡ []
whole_back-nil zero = refl
whole_back-nil (suc left) = refl

-- the walk back ends at the text's begin
pub back_at_begin : (text : List ℕ) (at most from left : ℕ) → at ≤ length text → from ≡ 0 → WalkedBack text at most from left → IsPart text from at (shown_before most text at)
back_at_begin text at most from left within e w = shown_back text at most from left within w (ap (back left text) e ∙ whole_back-nil left)

-- it ends where there is no room
pub back_at_room : (text : List ℕ) (at most from left : ℕ) → at ≤ length text → left ≡ 0 → WalkedBack text at most from left → IsPart text from at (shown_before most text at)
back_at_room text at most from left within e w = shown_back text at most from left within w (ap (λ n. back n text from) e)

-- it ends behind a line feed
pub back_at_feed : (text : List ℕ) (at most from left k : ℕ) → at ≤ length text → from ≡ k + 1 → is_feed (get_or text k 0) ≡ true → WalkedBack text at most from left →
    IsPart text from at (shown_before most text at)
back_at_feed text at most from left k within e feed w =
    let near = w.near in
    let inside : k < length text = omega arith in
    shown_back text at most from left within w
    (ap (back left text) e ∙ ap (λ r. whole_back left (first_line r)) (reverse_take text k inside)
    ∙ ap (whole_back left) (first_line-feed (get_or text k 0) (reverse (take k text)) feed) ∙ whole_back-nil left)

whole_front-cons : (left b : ℕ) (bs : List ℕ) → (nat_eq left 0 && begins_character b) ≡ false →
    whole_front left (b ∷ bs) ≡ b ∷ whole_front (cond (begins_character b) (left - 1) left) bs
whole_front-cons zero b bs room = chosen (begins_character b) room
  where
    chosen : (t : Bool) → t ≡ false → cond t [] (b ∷ whole_front zero bs) ≡ b ∷ whole_front (cond t (zero - 1) zero) bs
    chosen true e = absurd (cc)
    chosen false e = refl
whole_front-cons (suc left) b bs room = chosen (begins_character b)
  where
    chosen : (t : Bool) → (b ∷ cond t (whole_front left bs) (whole_front (suc left) bs)) ≡ b ∷ whole_front (cond t (suc left - 1) (suc left)) bs
    chosen true = ap (λ n. b ∷ whole_front n bs) (let one : left ≡ suc left - 1 = omega arith in one)
    chosen false = refl

whole_front-full : (left b : ℕ) (bs : List ℕ) → (nat_eq left 0 && begins_character b) ≡ true → whole_front left (b ∷ bs) ≡ []
whole_front-full zero b bs full = ap (λ t. cond t [] (b ∷ whole_front zero bs)) full
whole_front-full (suc left) b bs full = absurd (both_ways _ (and_left (nat_eq (suc left) 0) (begins_character b) (eqb-suc-zero left)) full)

slice_push : (text : List ℕ) (at to : ℕ) → at ≤ to → to < length text → slice text at (to + 1) ≡ slice text at to ++ get_or text to 0 ∷ []
slice_push text at to near lt =
    let here : at + (to - at) ≡ to = omega arith in
    let long : to - at < length (drop at text) = omega (arith, length-drop at text) in
    ap (λ n. take n (drop at text)) (let n : to + 1 - at ≡ to - at + 1 = omega arith in n)
    ∙ take_more (drop at text) (to - at) 0 long
    ∙ ap (λ b. slice text at to ++ b ∷ []) (get_or-drop at text (to - at) 0 ∙ ap (λ n. get_or text n 0) here)

first_at : (text : List ℕ) (to : ℕ) → to < length text → drop to text ≡ get_or text to 0 ∷ drop (to + 1) text
first_at text to lt = drop_more text to 0 lt

-- one byte further on
pub walked_on : (text : List ℕ) (at most to left room : ℕ) → to < length text → (nat_eq left 0 && begins_character (get_or text to 0)) ≡ false → is_feed (get_or text to 0) ≡ false →
    room ≡ cond (begins_character (get_or text to 0)) (left - 1) left → WalkedOn text at most to left → WalkedOn text at most (to + 1) room
walked_on text at most to left room lt space other r w =
    let near = w.near in
    let b = get_or text to 0 in
    let rest = cond (begins_character b) (left - 1) left in
    let step : front left text to ≡ b ∷ front rest text (to + 1) =
    ap (λ d. whole_front left (first_line d)) (first_at text to lt) ∙ ap (whole_front left) (first_line-other b (drop (to + 1) text) other)
    ∙ whole_front-cons left b (first_line (drop (to + 1) text)) space in
    record {
      near = omega arith;
      within = omega arith;
      part = ap (λ n. slice text at (to + 1) ++ front n text (to + 1)) r
          ∙ ap (λ s. s ++ front rest text (to + 1)) (slice_push text at to near lt)
          ∙ append_assoc (slice text at to) (b ∷ []) (front rest text (to + 1))
          ∙ ap (λ s. slice text at to ++ s) (sym step)
          ∙ w.part;
    }

shown_on : (text : List ℕ) (at most to left : ℕ) → WalkedOn text at most to left → front left text to ≡ [] → IsPart text at to (shown_after most text at)
unfolding shown_after
shown_on text at most to left w none = record {
  ordered = w.near;
  within = w.within;
  part = sym (append-nil (slice text at to)) ∙ ap (λ s. slice text at to ++ s) (sym none) ∙ w.part;
}

whole_front-nil : (left : ℕ) → whole_front left [] ≡ []
whole_front-nil left = refl

-- the walk on ends at the text's end
pub on_at_end : (text : List ℕ) (at most to left : ℕ) → length text ≤ to → WalkedOn text at most to left → IsPart text at to (shown_after most text at)
on_at_end text at most to left past w =
    shown_on text at most to left w (ap (λ d. whole_front left (first_line d)) (drop_all to text past) ∙ whole_front-nil left)

-- it ends where there is no room
pub on_at_room : (text : List ℕ) (at most to left : ℕ) → to < length text → (nat_eq left 0 && begins_character (get_or text to 0)) ≡ true → is_feed (get_or text to 0) ≡ false →
    WalkedOn text at most to left → IsPart text at to (shown_after most text at)
on_at_room text at most to left lt full other w =
    shown_on text at most to left w
    (ap (λ d. whole_front left (first_line d)) (first_at text to lt) ∙ ap (whole_front left) (first_line-other (get_or text to 0) (drop (to + 1) text) other)
    ∙ whole_front-full left (get_or text to 0) (first_line (drop (to + 1) text)) full)

-- it ends before a line feed
pub on_at_feed : (text : List ℕ) (at most to left : ℕ) → to < length text → is_feed (get_or text to 0) ≡ true → WalkedOn text at most to left →
    IsPart text at to (shown_after most text at)
on_at_feed text at most to left lt feed w =
    shown_on text at most to left w
    (ap (λ d. whole_front left (first_line d)) (first_at text to lt) ∙ ap (whole_front left) (first_line-feed (get_or text to 0) (drop (to + 1) text) feed) ∙ whole_front-nil left)
