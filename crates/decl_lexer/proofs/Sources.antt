-- The start of a source, and the order of its tokens.
use Rattle.std.proofs.Common.{◌≤◌, inl, inr, ◌≡◌, ℕ, ◌+◌, Bool, true, false, cond, List, [], ◌∷◌, length, chars, encode_utf8, encode_utf8_all, ◌==◌, refl, sym, ap, subst, ◌∙◌, length-append, arith}
use Rattle.std.proofs.lemmas.Bool.{eqb-true}
use Rattle.std.proofs.lemmas.Str.{encodes-chars}
use Rattle.std.specs.Str.{IsUtf8}
use lib.Utf8.{encode}
use Rattle.decl_lexer.specs.Lexing.{Placed, width, mark_width, without_mark, HasTokens, HasFault, AreInOrder}
use Rattle.decl_lexer.proofs.LexLaws.{in_order, order_from, fault_known}

pub width_is : (bs : List ℕ) → IsUtf8 bs → width (chars bs) ≡ length bs
width_is bs u = ap length (encodes-chars bs u)

pub mark_first : (cs : List ℕ) → mark_width cs + width (without_mark cs) ≡ width cs
unfolding encode
mark_first [] = refl
mark_first (c ∷ cs) = by (c == 0xFEFF) refl
  where
    by : (b : Bool) → (c == 0xFEFF) ≡ b → cond b 3 0 + width (cond b cs (c ∷ cs)) ≡ width (c ∷ cs)
    by true e =
        let mark : c ≡ 0xFEFF = eqb-true c 0xFEFF e in
        let three : length (encode_utf8 c) ≡ 3 = ap (λ n. length (encode_utf8 n)) mark in
        sym (length-append (encode_utf8 c) (encode_utf8_all cs) ∙ ap (λ (n : ℕ). n + width cs) three)
    by false e = omega arith

-- the same of a text's bytes
pub mark_bytes : (text rest : List ℕ) → IsUtf8 text → IsUtf8 rest → chars rest ≡ without_mark (chars text) → mark_width (chars text) + length rest ≡ length text
mark_bytes text rest u v e =
    ap (λ (n : ℕ). mark_width (chars text) + n) (sym (width_is rest v) ∙ ap width e) ∙ mark_first (chars text) ∙ width_is text u

pub tokens_in_order : (bytes : List ℕ) (ts : List Placed) → HasTokens bytes ts → AreInOrder 0 (length bytes) ts
tokens_in_order bytes ts h =
    let cs = chars bytes in
    let whole = in_order (mark_width cs) (without_mark cs) ts h.1 in
    let P : ℕ → Type 0 = λ n. AreInOrder (mark_width cs) n ts in
    order_from (mark_width cs) 0 (length bytes) ts (omega arith) (subst P (mark_first cs ∙ width_is bytes h.0) whole)

pub faults_known : (bytes : List ℕ) (rule place : ℕ) → HasFault bytes rule place → (1 ≤ rule) × (rule ≤ 5) × (place ≤ length bytes)
faults_known bytes rule place (inl f) = let short = f.1.short in (omega (arith, f.0), omega (arith, f.0), omega (arith, short))
faults_known bytes rule place (inr f) =
    let known = fault_known rule place (mark_width (chars bytes)) (without_mark (chars bytes)) f.1 in
    (omega (arith, known.0.0), known.0.1, omega (arith, known.1, mark_first (chars bytes), width_is bytes f.0))
