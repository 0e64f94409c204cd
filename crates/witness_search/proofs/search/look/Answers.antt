use Rattle.std.proofs.Common.{◌≡◌, ◌<◌, List, Bool, ℕ, map, length, true, false, ap, subst, sym, arith, eqb, vec_len, reverse}
use Rattle.std.proofs.lemmas.Bool.Decides.{nat_tests}
use Rattle.std.proofs.lemmas.List.{length-map}
use Rattle.pattern_matrix.specs.Views.{plain_row, plain_rows}
use Rattle.witnesses.specs.Views.{plain_stack}
use Rattle.witness_search.specs.Opened.{places_of, numbers_of}
use Rattle.witness_search.specs.Turns.{Accepts}
use Rattle.witness_search.specs.declared.opened.Opened.{Opened}
use Rattle.witness_search.proofs.Ends.{none_found, taken_found}
use Rattle.witness_search.proofs.Plain.{places-length}
use Rattle.witness_search.proofs.search.look.Goals as goal

zero_of : (r : Bool) (n : ℕ) → r ≡ eqb n 0 → r ≡ true → n ≡ 0
zero_of r n h k = grind (arith, nat_tests)

pos_of : (r : Bool) (n : ℕ) → r ≡ eqb n 0 → r ≡ false → 0 < n
pos_of r n h k = grind (arith, nat_tests)

pub returns-then-is_empty : goal.returns-then-is_empty
returns-then-is_empty g c =
    let cx = c.args.cx.now in
    let opened = c.args.opened.now in
    let rows = c.args.rows in
    let none : length (plain_rows rows.items) ≡ 0 = omega (arith, length-map rows.items plain_row, zero_of c.is_empty.result (vec_len rows) c.is_empty.ensures c.if-is_empty.true, rows.ok.0) in
    let count : c.len.result ≡ length (places_of opened.items) = omega (arith, c.len.ensures, opened.ok.0, places-length opened.items) in
    c.requires.1.1.1.1 (map plain_stack c.in_ok-one.one.items)
    (none_found (g.C.PatCx.context cx) (g.C.PatCx.is_value cx) (places_of opened.items) (numbers_of opened.items) (plain_rows rows.items) c.len.result (map plain_stack c.in_ok-one.one.items) none count c.in_ok-one.ensures)

pub returns-in-None : goal.returns-in-None
returns-in-None g c =
    let cx = c.args.cx.now in
    let opened = c.args.opened.now.items in
    let rows = c.args.rows in
    let ws = map plain_stack c.new-none.result.items in
    let some : 0 < length (plain_rows rows.items) = omega (arith, length-map rows.items plain_row, pos_of c.is_empty.result (vec_len rows) c.is_empty.ensures c.if-is_empty.false, rows.ok.0) in
    subst (λ (os : List (Opened g.row.C-Ty.Denot)). Accepts (g.C.PatCx.is_type cx) (g.C.PatCx.context cx) (g.C.PatCx.is_value cx) g.root (reverse c.args.frames.now.items) os ws) (sym c.in-None.ensures.same)
    (c.requires.1.1.1.1 ws (taken_found (g.C.PatCx.context cx) (g.C.PatCx.is_value cx) (places_of opened) (numbers_of opened) (plain_rows rows.items) ws c.in-None.ensures.none some (ap (map plain_stack) c.new-none.ensures.items)))
