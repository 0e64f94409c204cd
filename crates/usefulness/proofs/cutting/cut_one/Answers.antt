use Rattle.std.proofs.Common.{◌<◌, ◌∙◌, [], ◌∷◌, ◌++◌, length, get_or, sym, subst, arith}
use Rattle.constructor_sets.specs.declared.piece.Span.{Span}
use Rattle.constructor_sets.specs.Spans.{plain_span}
use Rattle.pattern_matrix.specs.Views.{plain_leaf}
use Rattle.pattern_matrix.proofs.Getting.{got-read}
use Rattle.usefulness.specs.States.{plain_asked, is_noted, scope_of}
use Rattle.usefulness.specs.Cutting.{IsCutSoFar, EndsWhole}
use Rattle.usefulness.proofs.Reading.{got_at, some_at, leaf_within}
use Rattle.usefulness.proofs.Cuts.{step_apart, step_idle, step_kept, step_last}
use Rattle.usefulness.proofs.Repeated.{step_repeated}
use Rattle.usefulness.proofs.cutting.cut_one.Goals as goal

pub index-asked-requires : goal.index-asked-requires
index-asked-requires g c =
    let a = c.args.a.now in
    let same = c.requires.spans in
    let below = c.requires.within in
    let within : c.args.number < length a.leaves.items = omega (arith, same, below) in
    let of_row = leaf_within (scope_of c.args.reached.now) a c.requires.apart c.args.number c.index-leaf.result.now within c.index-leaf.ensures in
    omega (arith, of_row, a.rows.ok.0)

pub returns-then-not-meets-clause-more : goal.returns-then-not-meets-clause-more
returns-then-not-meets-clause-more g c = λ e seen so_far.
    let a = c.args.a.now in
    let part = c.args.part.now in
    let spans = c.args.spans.now in
    let number = c.args.number in
    let kept = c.args.kept.now.items in
    let none : Span = record { first = 0; end = 0 } in
    let span = get_or spans number none in
    let same = c.requires.spans in
    let below = c.requires.within in
    let within : number < length a.leaves.items = omega (arith, same, below) in
    let leaf = some_at a.leaves.items number within in
    let of_row = leaf_within (scope_of c.args.reached.now) a c.requires.apart number leaf.0 within leaf.1 in
    let asked = some_at a.rows.items leaf.0.row of_row in
    let got_leaf = got_at plain_leaf a.leaves.items number leaf.0 within leaf.1 in
    let got_row = got_at plain_asked a.rows.items leaf.0.row asked.0 of_row asked.1 in
    let got_span = got-read plain_span spans number none below in
    step_apart c.args.missing a spans number (plain_leaf leaf.0) (plain_asked asked.0) (plain_span span) got_leaf got_row got_span c.args.reached.now.marks part.first part.end seen kept so_far (sym c.meets.ensures ∙ c.if-not-meets.true)

pub returns-then-is_idle-clause-more : goal.returns-then-is_idle-clause-more
returns-then-is_idle-clause-more g c = λ e seen so_far.
    let a = c.args.a.now in
    let part = c.args.part.now in
    let spans = c.args.spans.now in
    let number = c.args.number in
    let kept = c.args.kept.now.items in
    let leaf = c.index-leaf.result.now in
    let asked = c.index-asked.result.now in
    let none : Span = record { first = 0; end = 0 } in
    let span = get_or spans number none in
    let same = c.requires.spans in
    let below = c.requires.within in
    let within : number < length a.leaves.items = omega (arith, same, below) in
    let of_row = leaf_within (scope_of c.args.reached.now) a c.requires.apart number leaf within c.index-leaf.ensures in
    let got_leaf = got_at plain_leaf a.leaves.items number leaf within c.index-leaf.ensures in
    let got_row = got_at plain_asked a.rows.items leaf.row asked of_row c.index-asked.ensures in
    let got_span = got-read plain_span spans number none below in
    step_idle c.args.missing a spans number (plain_leaf leaf) (plain_asked asked) (plain_span span) got_leaf got_row got_span c.args.reached.now.marks part.first part.end seen kept so_far (sym c.is_idle.ensures ∙ c.if-is_idle.true)

pub returns-then-is_repeated-clause-more : goal.returns-then-is_repeated-clause-more
returns-then-is_repeated-clause-more g c = λ e seen so_far.
    let a = c.args.a.now in
    let part = c.args.part.now in
    let spans = c.args.spans.now in
    let number = c.args.number in
    let kept = c.args.kept.now.items in
    let leaf = c.index-leaf.result.now in
    let asked = c.index-asked.result.now in
    let none : Span = record { first = 0; end = 0 } in
    let span = get_or spans number none in
    let same = c.requires.spans in
    let below = c.requires.within in
    let within : number < length a.leaves.items = omega (arith, same, below) in
    let of_row = leaf_within (scope_of c.args.reached.now) a c.requires.apart number leaf within c.index-leaf.ensures in
    let got_leaf = got_at plain_leaf a.leaves.items number leaf within c.index-leaf.ensures in
    let got_row = got_at plain_asked a.rows.items leaf.row asked of_row c.index-asked.ensures in
    let got_span = got-read plain_span spans number none below in
    step_repeated c.args.missing a spans (scope_of c.args.reached.now) c.requires.apart number (plain_leaf leaf) (plain_asked asked) (plain_span span) got_leaf got_row got_span c.args.reached.now.marks part.first part.end seen kept so_far
    (c.is_repeated.ensures.guarded c.if-is_repeated.true) (subst (EndsWhole a spans part.first part.end leaf.row) c.as_slice.ensures.value (c.is_repeated.ensures.whole c.if-is_repeated.true))

pub returns-clause-more : goal.returns-clause-more
returns-clause-more g c = λ e seen so_far.
    let a = c.args.a.now in
    let part = c.args.part.now in
    let spans = c.args.spans.now in
    let number = c.args.number in
    let kept = c.args.kept.now.items in
    let leaf = c.index-leaf.result.now in
    let asked = c.index-asked.result.now in
    let none : Span = record { first = 0; end = 0 } in
    let span = get_or spans number none in
    let same = c.requires.spans in
    let below = c.requires.within in
    let within : number < length a.leaves.items = omega (arith, same, below) in
    let of_row = leaf_within (scope_of c.args.reached.now) a c.requires.apart number leaf within c.index-leaf.ensures in
    let got_leaf = got_at plain_leaf a.leaves.items number leaf within c.index-leaf.ensures in
    let got_row = got_at plain_asked a.rows.items leaf.row asked of_row c.index-asked.ensures in
    let got_span = got-read plain_span spans number none below in
    subst (IsCutSoFar (is_noted c.args.reached.now) c.args.missing a spans part.first part.end (seen ++ number ∷ [])) (sym c.in_ok-push.ensures.items)
    (step_kept c.args.missing a spans number (plain_leaf leaf) (plain_asked asked) (plain_span span) got_leaf got_row got_span c.args.reached.now.marks part.first part.end seen kept so_far below (sym c.meets.ensures ∙ c.if-not-meets.false))

pub returns-then-not-covers-clause-more : goal.returns-then-not-covers-clause-more
returns-then-not-covers-clause-more g c = λ e seen so_far.
    let a = c.args.a.now in
    let part = c.args.part.now in
    let spans = c.args.spans.now in
    let number = c.args.number in
    let kept = c.args.kept.now.items in
    let leaf = c.index-leaf.result.now in
    let asked = c.index-asked.result.now in
    let none : Span = record { first = 0; end = 0 } in
    let span = get_or spans number none in
    let same = c.requires.spans in
    let below = c.requires.within in
    let within : number < length a.leaves.items = omega (arith, same, below) in
    let of_row = leaf_within (scope_of c.args.reached.now) a c.requires.apart number leaf within c.index-leaf.ensures in
    let got_leaf = got_at plain_leaf a.leaves.items number leaf within c.index-leaf.ensures in
    let got_row = got_at plain_asked a.rows.items leaf.row asked of_row c.index-asked.ensures in
    let got_span = got-read plain_span spans number none below in
    subst (IsCutSoFar (is_noted c.args.reached.now) c.args.missing a spans part.first part.end (seen ++ number ∷ [])) (sym c.in_ok-push.ensures.items)
    (step_kept c.args.missing a spans number (plain_leaf leaf) (plain_asked asked) (plain_span span) got_leaf got_row got_span c.args.reached.now.marks part.first part.end seen kept so_far below (sym c.meets.ensures ∙ c.if-not-meets.false))

pub returns-clause-last : goal.returns-clause-last
returns-clause-last g c = λ e seen rest so_far.
    let a = c.args.a.now in
    let part = c.args.part.now in
    let spans = c.args.spans.now in
    let number = c.args.number in
    let kept = c.args.kept.now.items in
    let leaf = c.index-leaf.result.now in
    let asked = c.index-asked.result.now in
    let none : Span = record { first = 0; end = 0 } in
    let span = get_or spans number none in
    let same = c.requires.spans in
    let below = c.requires.within in
    let within : number < length a.leaves.items = omega (arith, same, below) in
    let of_row = leaf_within (scope_of c.args.reached.now) a c.requires.apart number leaf within c.index-leaf.ensures in
    let got_leaf = got_at plain_leaf a.leaves.items number leaf within c.index-leaf.ensures in
    let got_row = got_at plain_asked a.rows.items leaf.row asked of_row c.index-asked.ensures in
    let got_span = got-read plain_span spans number none below in
    subst (IsCutSoFar (is_noted c.args.reached.now) c.args.missing a spans part.first part.end (seen ++ number ∷ rest)) (sym c.in_ok-push.ensures.items)
    (step_last c.args.missing a spans number (plain_leaf leaf) (plain_asked asked) (plain_span span) got_leaf got_row got_span c.args.reached.now.marks part.first part.end seen kept so_far rest below (sym c.meets.ensures ∙ c.if-not-meets.false) (sym c.covers.ensures ∙ c.if-not-covers.false) (sym c.is_last.ensures ∙ e))
