-- One step further inside a text.
use Rattle.std.proofs.Common.{◌≡◌, ◌≢◌, ℕ, ◌-◌, ◌≤◌, true, false, cond, ◌||◌, ◌==◌, List, [], ◌∷◌, ◌++◌, length, drop, chars, Option, Some, None, Ok, Err, encode_utf8, encode_utf8_all, refl, sym, ap, subst, ◌∙◌, append_assoc, length-append, arith, Bool}
use Rattle.std.proofs.lemmas.Bool.{eqb-true, false_from_ne_true}
use Rattle.std.proofs.lemmas.List.{append-nil}
use Rattle.std.proofs.lemmas.Str.{encodes-chars, encodes-append}
use Rattle.std.specs.Str.{IsUtf8}
use Rattle.std.specs.List.{take_while}
use Rattle.std.proofs.lemmas.List.Sums.{take_while-cons}
use Rattle.decl_lexer.specs.declared.escapes.Quoted.{Quoted}
use Rattle.decl_lexer.specs.Begins.{Fault}
use Rattle.decl_lexer.specs.Text.{begins_with, skip_while}
use Rattle.decl_lexer.specs.Escapes.{escape}
use Rattle.decl_lexer.specs.Texts.{is_ordinary, TextRead, with_front, text_breaks, begins_line_end, behind_blanks, text_from, has_hashes, raw_from}
use Rattle.decl_lexer.proofs.Rests.{EndsIn, itself, past}
use Rattle.decl_lexer.proofs.QuoteRests.{EscapeEnds, escape_ends}

abbrev done : List ℕ → List ℕ → TextRead
done value rest = Ok (value, rest)

pub front_nil : (r : TextRead) → with_front [] r ≡ r
front_nil (Ok x) = refl
front_nil (Err f) = refl

front_front : (xs ys : List ℕ) (r : TextRead) → with_front xs (with_front ys r) ≡ with_front (xs ++ ys) r
front_front xs ys (Ok x) = ap (λ (v : List ℕ). done v x.1) (sym (append_assoc xs ys x.0))
front_front xs ys (Err f) = refl

-- what is read so far, and the rest, make the whole
pub whole_step : (value more : List ℕ) (r s whole : TextRead) → r ≡ with_front more s → with_front value r ≡ whole → with_front (value ++ more) s ≡ whole
whole_step value more r s whole e h = sym (front_front value more s) ∙ ap (with_front value) (sym e) ∙ h

pub whole_same : (value : List ℕ) (r s whole : TextRead) → r ≡ s → with_front value r ≡ whole → with_front value s ≡ whole
whole_same value r s whole e h = ap (with_front value) (sym e) ∙ h

pub whole_ends : (value rest : List ℕ) (r whole : TextRead) → r ≡ Ok ([], rest) → with_front value r ≡ whole → whole ≡ Ok (value, rest)
whole_ends value rest r whole e h = sym h ∙ ap (with_front value) e ∙ ap (λ (v : List ℕ). done v rest) (append-nil value)

pub whole_fails : (value : List ℕ) (f : Fault) (r whole : TextRead) → r ≡ Err f → with_front value r ≡ whole → whole ≡ Err f
whole_fails value f r whole e h = sym h ∙ ap (with_front value) e

other : (c d : ℕ) → c ≢ d → (c == d) ≡ false
other c d ne = false_from_ne_true (c == d) (λ same. ne (eqb-true c d same))

skip_read : (kind : Quoted) (start front rest : List ℕ) → text_from kind start (length front) (front ++ rest) ≡ text_from kind start 0 rest
unfolding text_from
skip_read kind start [] rest = refl
skip_read kind start (c ∷ front) rest = skip_read kind start front rest

-- what is read already is left out
read_past : (kind : Quoted) (start cs rest : List ℕ) → EndsIn cs rest → text_from kind start (length cs - length rest) cs ≡ text_from kind start 0 rest
read_past kind start cs rest h =
    let n : length cs - length rest ≡ length h.0 = let l = ap length h.1 ∙ length-append h.0 rest in omega arith in
    rw n (ap (λ (x : List ℕ). text_from kind start (length h.0) x) h.1 ∙ skip_read kind start h.0 rest)

blanks_end : (cs : List ℕ) → EndsIn cs (behind_blanks cs)
blanks_end [] = itself []
blanks_end (c ∷ cs) =
    elim (c == 32 || c == 9 || begins_line_end (c ∷ cs)) as (λ b. EndsIn (c ∷ cs) (cond b (behind_blanks cs) (c ∷ cs))) [
      | true ↦ past c cs (behind_blanks cs) (blanks_end cs)
      | false ↦ itself (c ∷ cs)
    ]

pub at_end : (kind : Quoted) (start all : List ℕ) → all ≡ [] → text_from kind start 0 all ≡ text_breaks 4 start
unfolding text_from
at_end kind start all e = ap (text_from kind start 0) e

pub at_quote : (kind : Quoted) (start all cs : List ℕ) (c : ℕ) → all ≡ c ∷ cs → c ≡ 34 → text_from kind start 0 all ≡ Ok ([], cs)
unfolding text_from
at_quote kind start all cs c e q = ap (text_from kind start 0) (e ∙ ap (λ (d : ℕ). d ∷ cs) q)

pub at_line_end : (kind : Quoted) (start all cs : List ℕ) (c : ℕ) → all ≡ c ∷ cs → c ≡ 92 → begins_line_end cs ≡ true → text_from kind start 0 all ≡ text_from kind start 0 (behind_blanks cs)
unfolding text_from
at_line_end kind start all cs c e q l = ap (text_from kind start 0) (e ∙ ap (λ (d : ℕ). d ∷ cs) q) ∙ rw l (read_past kind start cs (behind_blanks cs) (blanks_end cs))

pub at_escape : (kind : Quoted) (start all cs after : List ℕ) (c x : ℕ) → all ≡ c ∷ cs → c ≡ 92 → begins_line_end cs ≡ false → escape kind cs ≡ Some (x, after)
    → text_from kind start 0 all ≡ with_front (encode_utf8 x) (text_from kind start 0 after)
unfolding text_from
at_escape kind start all cs after c x e q l found =
    let P : Option (ℕ × List ℕ) → Type 0 = λ o. EscapeEnds cs o in
    let ends : EndsIn cs after = subst P found (escape_ends kind cs) in
    ap (text_from kind start 0) (e ∙ ap (λ (d : ℕ). d ∷ cs) q) ∙ rw (l, found) (ap (with_front (encode_utf8 x)) (read_past kind start cs after ends))

pub at_bad_escape : (kind : Quoted) (start all cs : List ℕ) (c : ℕ) → all ≡ c ∷ cs → c ≡ 92 → begins_line_end cs ≡ false → escape kind cs ≡ None → text_from kind start 0 all ≡ text_breaks 5 all
unfolding text_from
at_bad_escape kind start all cs c e q l found =
    let whole = e ∙ ap (λ (d : ℕ). d ∷ cs) q in
    ap (text_from kind start 0) whole ∙ rw (l, found) (ap (text_breaks 5) (sym whole))

pub at_cr : (kind : Quoted) (start all cs : List ℕ) (c : ℕ) → all ≡ c ∷ cs → c ≡ 13 → begins_with (10 ∷ []) cs ≡ true → text_from kind start 0 all ≡ text_from kind start 0 cs
unfolding text_from
at_cr kind start all cs c e q l = ap (text_from kind start 0) (e ∙ ap (λ (d : ℕ). d ∷ cs) q) ∙ rw l refl

pub at_bare_cr : (kind : Quoted) (start all cs : List ℕ) (c : ℕ) → all ≡ c ∷ cs → c ≡ 13 → begins_with (10 ∷ []) cs ≡ false → text_from kind start 0 all ≡ text_breaks 2 all
unfolding text_from
at_bare_cr kind start all cs c e q l =
    let whole = e ∙ ap (λ (d : ℕ). d ∷ cs) q in
    ap (text_from kind start 0) whole ∙ rw l (ap (text_breaks 2) (sym whole))

pub at_plain : (kind : Quoted) (start all cs : List ℕ) (c : ℕ) → all ≡ c ∷ cs → c ≢ 34 → c ≢ 92 → c ≢ 13 → text_from kind start 0 all ≡ with_front (encode_utf8 c) (text_from kind start 0 cs)
unfolding text_from
at_plain kind start all cs c e quote backslash cr = ap (text_from kind start 0) e ∙ rw (other c 34 quote, other c 92 backslash, other c 13 cr) refl

-- the same of raw texts
pub raw_end : (hashes : ℕ) (start all : List ℕ) → all ≡ [] → raw_from hashes start all ≡ text_breaks 4 start
unfolding raw_from
raw_end hashes start all e = ap (raw_from hashes start) e

pub raw_quote : (hashes : ℕ) (start all cs : List ℕ) (c : ℕ) → all ≡ c ∷ cs → c ≡ 34 → has_hashes hashes cs ≡ true → raw_from hashes start all ≡ Ok ([], drop hashes cs)
unfolding raw_from
raw_quote hashes start all cs c e q l = ap (raw_from hashes start) (e ∙ ap (λ (d : ℕ). d ∷ cs) q) ∙ rw l refl

pub raw_cr : (hashes : ℕ) (start all cs : List ℕ) (c : ℕ) → all ≡ c ∷ cs → c ≡ 13 → begins_with (10 ∷ []) cs ≡ true → raw_from hashes start all ≡ raw_from hashes start cs
unfolding raw_from
raw_cr hashes start all cs c e q l = ap (raw_from hashes start) (e ∙ ap (λ (d : ℕ). d ∷ cs) q) ∙ rw l refl

pub raw_bare_cr : (hashes : ℕ) (start all cs : List ℕ) (c : ℕ) → all ≡ c ∷ cs → c ≡ 13 → begins_with (10 ∷ []) cs ≡ false → raw_from hashes start all ≡ text_breaks 2 all
unfolding raw_from
raw_bare_cr hashes start all cs c e q l =
    let whole = e ∙ ap (λ (d : ℕ). d ∷ cs) q in
    ap (raw_from hashes start) whole ∙ rw l (ap (text_breaks 2) (sym whole))

pub raw_inner_quote : (hashes : ℕ) (start all cs : List ℕ) (c : ℕ) → all ≡ c ∷ cs → c ≡ 34 → has_hashes hashes cs ≡ false → raw_from hashes start all ≡ with_front (encode_utf8 34) (raw_from hashes start cs)
unfolding raw_from
raw_inner_quote hashes start all cs c e q l = ap (raw_from hashes start) (e ∙ ap (λ (d : ℕ). d ∷ cs) q) ∙ rw l refl

pub raw_plain : (hashes : ℕ) (start all cs : List ℕ) (c : ℕ) → all ≡ c ∷ cs → c ≢ 34 → c ≢ 13 → raw_from hashes start all ≡ with_front (encode_utf8 c) (raw_from hashes start cs)
unfolding raw_from
raw_plain hashes start all cs c e quote cr = ap (raw_from hashes start) e ∙ rw (other c 34 quote, other c 13 cr) refl

-- what a text ends with is no longer than it
pub not_longer : (text rest : List ℕ) → IsUtf8 text → IsUtf8 rest → EndsIn (chars text) (chars rest) → length rest ≤ length text
not_longer text rest u v h =
    let whole : text ≡ encode_utf8_all h.0 ++ rest =
    sym (encodes-chars text u) ∙ ap encode_utf8_all h.1 ∙ encodes-append h.0 (chars rest) ∙ ap (λ (x : List ℕ). encode_utf8_all h.0 ++ x) (encodes-chars rest v) in
    let l = ap length whole ∙ length-append (encode_utf8_all h.0) rest in
    omega arith

pub escape_not_longer : (kind : Quoted) (text rest : List ℕ) (x : ℕ) → IsUtf8 text → IsUtf8 rest → escape kind (chars text) ≡ Some (x, chars rest) → length rest ≤ length text
escape_not_longer kind text rest x u v found =
    let P : Option (ℕ × List ℕ) → Type 0 = λ o. EscapeEnds (chars text) o in
    not_longer text rest u v (subst P found (escape_ends kind (chars text)))

-- a run of characters that stand for themselves
not_among : (escapes : Bool) (c d : ℕ) → is_ordinary escapes d ≡ false → is_ordinary escapes c ≡ true → c ≢ d
not_among escapes c d special plain same = let e : true ≡ false = sym plain ∙ ap (is_ordinary escapes) same ∙ special in cc

-- a run at the front of a text
abbrev AtRun : Bool → (List ℕ → TextRead) → List ℕ → Type 0
AtRun escapes read cs = read cs ≡ with_front (encode_utf8_all (take_while (is_ordinary escapes) cs)) (read (skip_while (is_ordinary escapes) cs))

run_step : (escapes : Bool) (read : List ℕ → TextRead) (c : ℕ) (cs : List ℕ) → (is_ordinary escapes c ≡ true → read (c ∷ cs) ≡ with_front (encode_utf8 c) (read cs)) → AtRun escapes read cs → AtRun escapes read (c ∷ cs)
run_step escapes read c cs step below = rw (take_while-cons (is_ordinary escapes) c cs) (by (is_ordinary escapes c) refl)
  where
    by : (b : Bool) → is_ordinary escapes c ≡ b
        → read (c ∷ cs) ≡ with_front (encode_utf8_all (cond b (c ∷ take_while (is_ordinary escapes) cs) [])) (read (cond b (skip_while (is_ordinary escapes) cs) (c ∷ cs)))
    by true is = step is ∙ ap (with_front (encode_utf8 c)) below ∙ front_front (encode_utf8 c) (encode_utf8_all (take_while (is_ordinary escapes) cs)) (read (skip_while (is_ordinary escapes) cs))
    by false is = sym (front_nil (read (c ∷ cs)))

pub at_run : (kind : Quoted) (start cs : List ℕ) → AtRun true (text_from kind start 0) cs
at_run kind start [] = sym (front_nil (text_from kind start 0 []))
at_run kind start (c ∷ cs) =
    run_step true (text_from kind start 0) c cs
    (λ is. at_plain kind start (c ∷ cs) cs c refl (not_among true c 34 refl is) (not_among true c 92 refl is) (not_among true c 13 refl is)) (at_run kind start cs)

pub raw_run : (hashes : ℕ) (start cs : List ℕ) → AtRun false (raw_from hashes start) cs
raw_run hashes start [] = sym (front_nil (raw_from hashes start []))
raw_run hashes start (c ∷ cs) =
    run_step false (raw_from hashes start) c cs (λ is. raw_plain hashes start (c ∷ cs) cs c refl (not_among false c 34 refl is) (not_among false c 13 refl is)) (raw_run hashes start cs)
