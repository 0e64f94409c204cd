use Rattle.std.proofs.Common.{◌≡◌, ℕ, zero, suc, false, ◌<◌, ◌≤◌, ◌+◌, ◌-◌, ◌&&◌, ◌∙◌, not, nat_eq, nat_le, length, take, get_or, refl, sym, arith}
use Rattle.std.proofs.lemmas.Bool.{eqb-true, not-true}
use Rattle.std.proofs.lemmas.List.{take_all}
use Rattle.match_model.proofs.Basics.{both, untrue}
use Rattle.constructor_sets.specs.declared.piece.Span.{Span}
use Rattle.constructor_sets.specs.Spans.{plain_span}
use Rattle.pattern_matrix.specs.Views.{plain_leaf}
use Rattle.pattern_matrix.proofs.Getting.{got-read}
use Rattle.usefulness.specs.Cutting.{writes_parts}
use Rattle.usefulness.proofs.Reading.{got_at}
use Rattle.usefulness.proofs.Cuts.{one_seen}
use Rattle.usefulness.proofs.cutting.is_repeated.Goals as goal

some_number : (n : ℕ) → nat_eq n 0 ≡ false → 0 < n
some_number zero e = untrue (sym e)
some_number (suc n) e = omega arith

pub returns-clause-whole : goal.returns-clause-whole
returns-clause-whole g c = λ e.
    let a = c.args.a.now in
    let part = c.args.part.now in
    let spans = c.args.spans.now in
    let kept = c.args.kept.now in
    let row = c.args.leaf.now.row in
    let leaf = c.index.result.now in
    let none : Span = record { first = 0; end = 0 } in
    let i = length kept - 1 in
    let number = get_or kept i 0 in
    let some = some_number (length kept) (sym c.is_empty.ensures ∙ c.if-is_empty.false) in
    let below : i < length kept = omega (arith, some) in
    let all : length kept ≤ i + 1 = omega (arith, some) in
    let spanned : number < length spans = c.requires.within i 0 below in
    let same = c.requires.spans in
    let within : number < length a.leaves.items = omega (arith, same, spanned) in
    let span = get_or spans number none in
    let one = both (nat_eq leaf.row row) (not (writes_parts (plain_leaf leaf).head) && (nat_le span.first part.first && nat_le part.end span.end)) (sym c.is_whole.ensures ∙ e) in
    let two = both (not (writes_parts (plain_leaf leaf).head)) (nat_le span.first part.first && nat_le part.end span.end) one.1 in
    record {
      before = take i kept;
      number = number;
      leaf = plain_leaf leaf;
      span = plain_span span;
      last = sym (one_seen kept kept i refl below ∙ take_all (i + 1) kept all);
      got = got_at plain_leaf a.leaves.items number leaf within c.index.ensures;
      spanned = got-read plain_span spans number none spanned;
      same = eqb-true leaf.row row one.0;
      bare = not-true (writes_parts (plain_leaf leaf).head) two.0;
      whole = two.1;
    }
