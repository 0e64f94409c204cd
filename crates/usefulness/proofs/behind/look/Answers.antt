use Rattle.std.proofs.Common.{◌≡◌, [], ◌∷◌, refl, ap, sym, subst}
use Rattle.std.proofs.lemmas.Result.{on_ok_weaker}
use Rattle.pattern_matrix.specs.Searching.{Comes}
use Rattle.usefulness.specs.Behind.{IsLooked, Passes}
use Rattle.usefulness.specs.Covering.{behind, covered_arms, scope_asked, IsKnown}
use Rattle.usefulness.specs.States.{frame_view, IsGood}
use Rattle.usefulness.proofs.AskedLooks.{looked_known, looked_left, looked_for}
use Rattle.usefulness.proofs.Known.{known_itself, known_on, known_back}
use Rattle.usefulness.proofs.Passing.{passes_none}
use Rattle.usefulness.proofs.Stepping.{good_below, compact_good, compact_fit, compact_weighs, compact_on, compact_back}
use Rattle.usefulness.proofs.behind.look.Goals as goal

pub compact-requires : goal.compact-requires
compact-requires g c = good_below (scope_asked (covered_arms c.args.covered.now)) c.args.frame c.requires.good

pub tell-requires-clause-open : goal.tell-requires-clause-open
tell-requires-clause-open g c = (compact_good (scope_asked (covered_arms c.args.covered.now)) c.args.frame c.in_ok-rest.rest c.in_ok-rest.ensures c.requires.good).columns

pub tell-requires-clause-below : goal.tell-requires-clause-below
tell-requires-clause-below g c =
    let scope = scope_asked (covered_arms c.args.covered.now) in
    good_below scope c.in_ok-rest.rest (compact_good scope c.args.frame c.in_ok-rest.rest c.in_ok-rest.ensures c.requires.good)

pub returns-then-is_told : goal.returns-then-is_told
returns-then-is_told g c =
    let cx = c.args.cx.now in
    let IsType = g.C.PatCx.is_type cx in
    let IsValue = g.C.PatCx.is_value cx in
    let context = g.C.PatCx.context cx in
    let arms = covered_arms c.args.covered.now in
    let old = c.args.search.now in
    let f = c.args.frame in
    let rest = c.in_ok-rest.rest in
    let compact = c.in_ok-rest.ensures in
    let (at, numbered, are) = c.in_ok-words.ensures in
    let words = c.in_ok-words.words.items in
    let k = c.requires.covered.full words (c.is_told.ensures c.if-is_told.true) in
    looked_known IsType IsValue context arms old old (frame_view f) c.requires.known (λ q e. e) refl refl
    (subst (λ m. Passes IsValue m (frame_view f ∷ []) []) (sym c.requires.unmarked) (passes_none IsValue (frame_view f) (λ d.
    k.holds (known_on IsType IsValue context arms f rest compact c.requires.good c.requires.fit at numbered words are c.requires.covered.pinned (λ s. Comes IsValue behind s → ⊥) k d))))

pub returns-then-is_told-2 : goal.returns-then-is_told-2
returns-then-is_told-2 g c =
    let cx = c.args.cx.now in
    let IsType = g.C.PatCx.is_type cx in
    let IsValue = g.C.PatCx.is_value cx in
    let context = g.C.PatCx.context cx in
    let arms = covered_arms c.args.covered.now in
    let old = c.args.search.now in
    let f = c.args.frame in
    let rest = c.in_ok-rest.rest in
    let compact = c.in_ok-rest.ensures in
    let (at, numbered, are) = c.in_ok-words.ensures in
    let words = c.in_ok-words.words.items in
    let k = c.requires.covered.left words (c.is_told-2.ensures c.if-is_told-2.true) in
    on_ok_weaker c.mark.result
    (λ marked. looked_left IsType IsValue context arms old _ (frame_view f) _ c.requires.known refl c.mark.ensures.arms marked refl refl refl
    (known_back IsType IsValue context arms f rest compact c.requires.good c.requires.fit at numbered words are c.requires.covered.pinned (λ s. Comes IsValue behind s) k k.holds))
    c.mark.ensures.marked

pub look_new-requires-clause-good : goal.look_new-requires-clause-good
look_new-requires-clause-good g c =
    let arms = covered_arms c.args.covered.now in
    let same = sym (ap (λ s. s.written) c.requires.known) in
    let f = c.args.frame in
    let rest = c.in_ok-rest.rest in
    let compact = c.in_ok-rest.ensures in
    subst (λ ws. IsGood (scope_asked ws) rest) same (compact_good (scope_asked arms) f rest compact c.requires.good)

pub look_new-requires-clause-fit : goal.look_new-requires-clause-fit
look_new-requires-clause-fit g c =
    let cx = c.args.cx.now in
    let IsType = g.C.PatCx.is_type cx in
    let IsValue = g.C.PatCx.is_value cx in
    let context = g.C.PatCx.context cx in
    compact_fit (scope_asked (covered_arms c.args.covered.now)) IsType IsValue context c.args.frame c.in_ok-rest.rest c.in_ok-rest.ensures c.requires.fit

pub look_new-requires-clause-words : goal.look_new-requires-clause-words
look_new-requires-clause-words g c =
    let cx = c.args.cx.now in
    let IsType = g.C.PatCx.is_type cx in
    let IsValue = g.C.PatCx.is_value cx in
    let context = g.C.PatCx.context cx in
    let arms = covered_arms c.args.covered.now in
    let old = c.args.search.now in
    let f = c.args.frame in
    let rest = c.in_ok-rest.rest in
    let compact = c.in_ok-rest.ensures in
    let (at, numbered, are) = c.in_ok-words.ensures in
    let words = c.in_ok-words.words.items in
    let same = sym (ap (λ s. s.written) c.requires.known) in
    subst (λ ws. IsKnown IsType IsValue context ws (λ s. s ≡ frame_view rest) words) same
    (known_itself IsType IsValue context arms f rest compact c.requires.good c.requires.fit at numbered words are)

pub returns : goal.returns
returns g c =
    let cx = c.args.cx.now in
    let IsType = g.C.PatCx.is_type cx in
    let IsValue = g.C.PatCx.is_value cx in
    let context = g.C.PatCx.context cx in
    let arms = covered_arms c.args.covered.now in
    let same = sym (ap (λ s. s.written) c.requires.known) in
    let f = c.args.frame in
    let rest = c.in_ok-rest.rest in
    let compact = c.in_ok-rest.ensures in
    let scope = scope_asked arms in
    let old = c.args.search.now in
    let now = c.look_new.new.search in
    on_ok_weaker c.look_new.result
    (λ l. looked_for IsType IsValue context arms old now (frame_view f) (frame_view rest) (compact_on scope IsType IsValue context f rest compact c.requires.fit behind) (compact_back scope IsType IsValue context f rest compact c.requires.fit behind)
    (compact_weighs scope IsType IsValue context f rest compact c.requires.fit) (subst (λ ws. IsLooked IsType IsValue context ws old now (frame_view rest)) (sym same) l))
    c.look_new.ensures
