-- One piece further in the bytes of a text.
use Rattle.std.proofs.Common.{◌≤◌, ◌≡◌, ℕ, ◌+◌, ◌-◌, ◌<◌, List, [], ◌∷◌, ◌++◌, length, chars, encode_utf8_all, Result, Option, None, Some, Ok, Err, true, refl, sym, ap, subst, ◌∙◌, append_assoc, length-append, inr, arith}
use denote.Ref.{Bor}
use Rattle.std.specs.Str.{IsUtf8}
use Rattle.decl_lexer.specs.Gaps.{is_space}
use Rattle.decl_lexer.specs.Text.{skip_while}
use Rattle.decl_lexer.specs.declared.read.ReadToken.{ReadToken}
use Rattle.decl_lexer.specs.Views.{read_token_view}
use Rattle.std.proofs.lemmas.Str.{encodes-append}
use Rattle.decl_lexer.specs.Begins.{Lexeme, Piece, Gap, Token, Begins}
use Rattle.decl_lexer.specs.Pieces.{piece_at}
use Rattle.decl_lexer.specs.Lexing.{Placed, width, First, End, Found, Broken, Finds, takes, fails, skips, Lexes, goes_on, Faults, here, mark_width, without_mark, HasTokens, HasFault}
use Rattle.decl_lexer.specs.declared.token.LexFault.{LexFault}
use Rattle.decl_lexer.specs.declared.token.LexFault.TheVariants.{Rule, NoMemory}
use Rattle.decl_lexer.specs.Tokens.{IsFaultOf, IsKnown, FaultComesFirst, FindsFirst}
use Rattle.decl_lexer.proofs.Rests.{EndsIn, Rests, IsPieceRule}
use Rattle.decl_lexer.proofs.PieceRests.{piece_rests}
use Rattle.decl_lexer.proofs.Firsts.{wide, width_parts, ahead, IsAhead}
use Rattle.decl_lexer.proofs.Sources.{width_is}

-- a piece that is read, and its width
pub record IsCut (c : ℕ) (rest behind after : List ℕ) : Type 0 where
  pub front : List ℕ
  pub same : chars behind ≡ front ++ chars after
  pub long : length rest ≡ width (c ∷ front) + length after
  pub some : length after < length rest

pub cut : (c : ℕ) (rest behind after : List ℕ) (piece : Piece) → IsUtf8 rest → IsUtf8 after → chars rest ≡ c ∷ chars behind → piece_at c (chars behind) ≡ Ok (piece, chars after)
    → IsCut c rest behind after
cut c rest behind after piece u v e read =
    let P : Begins → Type 0 = λ r. Rests (c ∷ chars behind) (chars behind) r in
    let ends : EndsIn (chars behind) (chars after) = subst P read (piece_rests c (chars behind)) in
    let long : length rest ≡ width (c ∷ ends.0) + length after =
    sym (width_is rest u) ∙ ap width e ∙ width_parts c (chars behind) ends.0 (chars after) ends.1 ∙ ap (λ (n : ℕ). width (c ∷ ends.0) + n) (width_is after v) in
    let some = wide c ends.0 in
    record { front = ends.0; same = ends.1; long = long; some = omega arith }

pub token_found : (at c : ℕ) (rest behind after : List ℕ) (lexeme : Lexeme) → chars rest ≡ c ∷ chars behind → IsCut c rest behind after → piece_at c (chars behind) ≡ Ok (Token lexeme, chars after)
    → Finds at (chars rest) (Found (record { lexeme = lexeme; from = at; to = at + (length rest - length after) }) (chars after))
token_found at c rest behind after lexeme e k read =
    let to : at + (length rest - length after) ≡ at + width (c ∷ k.front) = omega (arith, k.long) in
    rw (e, to) (takes at c (chars behind) k.front (chars after) lexeme read k.same)

pub gap_found : (at c : ℕ) (rest behind after : List ℕ) (x : First) → chars rest ≡ c ∷ chars behind → IsCut c rest behind after → piece_at c (chars behind) ≡ Ok (Gap, chars after)
    → Finds (at + (length rest - length after)) (chars after) x → Finds at (chars rest) x
gap_found at c rest behind after x e k read found =
    let to : at + (length rest - length after) ≡ at + width (c ∷ k.front) = omega (arith, k.long) in
    rw e (skips at c (chars behind) k.front (chars after) x read k.same (rw to at found))

space_gap : (c : ℕ) (cs : List ℕ) → is_space c ≡ true → piece_at c cs ≡ Ok (Gap, skip_while is_space cs)
unfolding piece_at
space_gap c cs h = rw h refl

-- what comes first behind whitespace comes first
pub past_spaces : (at c : ℕ) (rest behind after : List ℕ) (x : First) → is_space c ≡ true → IsUtf8 rest → IsUtf8 after → chars rest ≡ c ∷ chars behind → chars after ≡ skip_while is_space (chars behind)
    → Finds (at + (length rest - length after)) (chars after) x → Finds at (chars rest) x
past_spaces at c rest behind after x space u v e same found =
    let read : piece_at c (chars behind) ≡ Ok (Gap, chars after) = rw same (space_gap c (chars behind) space) in
    gap_found at c rest behind after x e (cut c rest behind after Gap u v e read) read found

-- what is found first behind whitespace is found first
pub first_behind : (at from : ℕ) (cs ds : List ℕ) (r : Result (Option (ReadToken × Bor (List ℕ))) LexFault) → ((x : First) → Finds from ds x → Finds at cs x) → FindsFirst from ds r → FindsFirst at cs r
first_behind at from cs ds (Ok None) h found = h End found
first_behind at from cs ds (Ok (Some p)) h found = h (Found (read_token_view p.0) (chars p.1.now)) found
first_behind at from cs ds (Err NoMemory) h found = tt
first_behind at from cs ds (Err (Rule rule place)) h found = h (Broken rule place) found

-- where a fault stands
pub record IsWithin (c : ℕ) (rest behind faulty : List ℕ) : Type 0 where
  pub front : List ℕ
  pub same : c ∷ chars behind ≡ front ++ chars faulty
  pub long : length rest ≡ width front + length faulty

pub within : (c : ℕ) (rest behind faulty : List ℕ) (rule : ℕ) → IsUtf8 rest → IsUtf8 faulty → chars rest ≡ c ∷ chars behind → piece_at c (chars behind) ≡ Err (record { rule = rule; rest = chars faulty })
    → IsWithin c rest behind faulty
within c rest behind faulty rule u v e read =
    let P : Begins → Type 0 = λ r. Rests (c ∷ chars behind) (chars behind) r in
    let ends : EndsIn (c ∷ chars behind) (chars faulty) = (subst P read (piece_rests c (chars behind))).0 in
    let parts = ap length (encodes-append ends.0 (chars faulty)) ∙ length-append (encode_utf8_all ends.0) (encode_utf8_all (chars faulty)) in
    let long : length rest ≡ width ends.0 + length faulty =
    sym (width_is rest u) ∙ ap width (e ∙ ends.1) ∙ parts ∙ ap (λ (n : ℕ). width ends.0 + n) (width_is faulty v) in
    record { front = ends.0; same = ends.1; long = long }

pub fault_found : (at c : ℕ) (rest behind faulty : List ℕ) (rule : ℕ) → chars rest ≡ c ∷ chars behind → IsWithin c rest behind faulty
    → piece_at c (chars behind) ≡ Err (record { rule = rule; rest = chars faulty }) → Finds at (chars rest) (Broken rule (at + (length rest - length faulty)))
fault_found at c rest behind faulty rule e k read =
    let place : at + (length rest - length faulty) ≡ at + width k.front = omega (arith, k.long) in
    rw (e, place) (fails at c (chars behind) k.front (record { rule = rule; rest = chars faulty }) read k.same)

-- what the loop knows of the tokens so far
abbrev pub Continues : ℕ → List ℕ → ℕ → List ℕ → List Placed → Type 0
Continues start text at cs front = (more : List Placed) → Lexes at cs more → Lexes start text (front ++ more)

pub past_token : (start : ℕ) (text : List ℕ) (at : ℕ) (cs rest : List ℕ) (front : List Placed) (token : Placed) → Continues start text at cs front → Finds at cs (Found token rest)
    → Continues start text token.to rest (front ++ token ∷ [])
past_token start text at cs rest front token h found more u = rw append_assoc (h _ (goes_on at cs rest token more found u))

-- what stands behind a token is shorter
pub token_shorter : (at : ℕ) (rest after : List ℕ) (token : Placed) → IsUtf8 rest → IsUtf8 after → Finds at (chars rest) (Found token (chars after)) → length after < length rest
token_shorter at rest after token u v found =
    let known : IsAhead at (chars rest) token (chars after) = ahead _ _ _ found in
    omega (arith, known.begins, known.some, known.place, width_is after v, width_is rest u)

-- a token stands where the text does
pub token_place : (at : ℕ) (rest after : List ℕ) (token : Placed) → IsUtf8 rest → IsUtf8 after → Finds at (chars rest) (Found token (chars after)) → token.to + length after ≡ at + length rest
token_place at rest after token u v found =
    let known : IsAhead at (chars rest) token (chars after) = ahead _ _ _ found in
    omega (arith, known.place, width_is after v, width_is rest u)

-- the start of a source
pub record IsStart (source text rest : List ℕ) : Type 0 where
  pub utf8 : IsUtf8 source
  pub same : text ≡ source
  pub rest_is : chars rest ≡ without_mark (chars text)
  pub width_is : mark_width (chars text) + length rest ≡ length text

pub whole_tokens : (source text rest : List ℕ) (tokens : List Placed) → IsStart source text rest → Lexes (length text - length rest) (chars rest) tokens → HasTokens source tokens
whole_tokens source text rest tokens s h =
    let at : length text - length rest ≡ mark_width (chars text) = omega (arith, s.width_is) in
    let P : List ℕ → Type 0 = λ bs. Lexes (mark_width (chars bs)) (without_mark (chars bs)) tokens in
    (s.utf8, subst P s.same (rw (at, s.rest_is) at h))

pub whole_fault : (source text rest : List ℕ) (rule place : ℕ) → IsStart source text rest → Faults rule place (length text - length rest) (chars rest) → HasFault source rule place
whole_fault source text rest rule place s h =
    let at : length text - length rest ≡ mark_width (chars text) = omega (arith, s.width_is) in
    let P : List ℕ → Type 0 = λ bs. Faults rule place (mark_width (chars bs)) (without_mark (chars bs)) in
    inr (s.utf8, subst P s.same (rw (at, s.rest_is) at h))

-- memory ran out, or the rule is known and the place lies within the text
pub first_known : (at : ℕ) (cs : List ℕ) (fault : LexFault) → FaultComesFirst at cs fault → IsKnown (at + width cs) fault
first_known at cs NoMemory h = tt
first_known at cs (Rule rule place) h = let known : IsPieceRule rule × (place ≤ at + width cs) = ahead at cs (Broken rule place) h in (omega (arith, known.0.0), known.0.1, known.1)

-- memory ran out, or the fault that comes first is the source's
pub fault_of : (at : ℕ) (cs source : List ℕ) (fault : LexFault) → FaultComesFirst at cs fault → ((rule place : ℕ) → Faults rule place at cs → HasFault source rule place) → IsFaultOf source fault
fault_of at cs source NoMemory h whole = tt
fault_of at cs source (Rule rule place) h whole = whole rule place (here at cs h)
