use Rattle.std.proofs.Common.{rules, ◌≡◌, chars, ℕ, List, Ok, sym, subst, arith}
use Rattle.std.specs.Str.{IsUtf8}
use Rattle.decl_lexer.specs.Begins.{Gap, Token}
use Rattle.decl_lexer.specs.Pieces.{piece_at}
use Rattle.decl_lexer.specs.Views.{read_view}
use Rattle.decl_lexer.specs.Lexing.{Finds, End, nothing}
use Rattle.decl_lexer.proofs.LexLemmas.{cut, token_found, gap_found, within, fault_found}
use Rattle.decl_lexer.proofs.lexing.first_token.Goals as goal

pub overflow_sub-to : goal.overflow_sub-to
overflow_sub-to c =
    let u : IsUtf8 c.in-Ok.after.now = search rules in
    let k = cut c.in-Some.first c.gaps.rest.now c.in-Some.behind.now c.in-Ok.after.now _ c.gaps.invariant.utf8 u c.in-Some.ensures.cases c.in-Ok.ensures in
    omega (arith, k.some)

pub returns-in-Token : goal.returns-in-Token
returns-in-Token c =
    let rest = c.gaps.rest.now in
    let behind = c.in-Some.behind.now in
    let after = c.in-Ok.after.now in
    let u : IsUtf8 after = search rules in
    let read : piece_at c.in-Some.first (chars behind) ≡ Ok (Token (read_view c.in-Token.kind), chars after) = rw c.in-Token.is at c.in-Ok.ensures in
    let k = cut c.in-Some.first rest behind after _ c.gaps.invariant.utf8 u c.in-Some.ensures.cases read in
    c.gaps.invariant.first _ (token_found c.gaps.at c.in-Some.first rest behind after (read_view c.in-Token.kind) c.in-Some.ensures.cases k read)

pub gaps-smaller : goal.gaps-smaller
gaps-smaller c =
    let u : IsUtf8 c.in-Ok.after.now = search rules in
    let k = cut c.in-Some.first c.gaps.rest.now c.in-Some.behind.now c.in-Ok.after.now _ c.gaps.invariant.utf8 u c.in-Some.ensures.cases c.in-Ok.ensures in
    k.some

pub gaps-preserved : goal.gaps-preserved
gaps-preserved c =
    let rest = c.gaps.rest.now in
    let behind = c.in-Some.behind.now in
    let after = c.in-Ok.after.now in
    let u : IsUtf8 after = search rules in
    let read : piece_at c.in-Some.first (chars behind) ≡ Ok (Gap, chars after) = rw c.in-Gap.is at c.in-Ok.ensures in
    let k = cut c.in-Some.first rest behind after Gap c.gaps.invariant.utf8 u c.in-Some.ensures.cases read in
    record {
      utf8 = u;
      first = λ x found. c.gaps.invariant.first x (gap_found c.gaps.at c.in-Some.first rest behind after x c.in-Some.ensures.cases k read found);
      place = omega (arith, k.some, c.gaps.invariant.place);
    }

pub overflow_sub-at : goal.overflow_sub-at
overflow_sub-at c =
    let faulty = c.in-Err-Fault.faulty.now in
    let u : IsUtf8 faulty = search rules in
    let read = rw c.in-Err-Fault.field-0-is at c.in-Err-Fault.ensures in
    let k = within c.in-Some.first c.gaps.rest.now c.in-Some.behind.now faulty _ c.gaps.invariant.utf8 u c.in-Some.ensures.cases read in
    rw c.in-Err-Fault.faulty-is (omega (arith, k.long))

pub returns-in-Err-Fault : goal.returns-in-Err-Fault
returns-in-Err-Fault c =
    let faulty = c.in-Err-Fault.faulty.now in
    let u : IsUtf8 faulty = search rules in
    let read = rw c.in-Err-Fault.field-0-is at c.in-Err-Fault.ensures in
    let k = within c.in-Some.first c.gaps.rest.now c.in-Some.behind.now faulty _ c.gaps.invariant.utf8 u c.in-Some.ensures.cases read in
    rw (c.in-Err-Fault.rule-is, c.in-Err-Fault.faulty-is)
    (c.gaps.invariant.first _ (fault_found c.gaps.at c.in-Some.first c.gaps.rest.now c.in-Some.behind.now faulty _ c.in-Some.ensures.cases k read))

pub returns : goal.returns
returns c =
    let P : List ℕ → Type 0 = λ cs. Finds c.gaps.at cs End in
    c.gaps.invariant.first End (subst P (sym c.in_default.ensures.cases) (nothing c.gaps.at))
