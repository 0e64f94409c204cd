-- A run that is read is spelled so, and one that is spelled so is read.
use Rattle.std.proofs.Common.{◌≡◌, ◌<◌, Bool, true, false, ◌&&◌, ◌||◌, cond, List, [], ◌∷◌, ◌++◌, length, Option, Some, None, refl, sym, ap, ◌∙◌, arith}
use Rattle.std.proofs.lemmas.List.{length-append}
use Rattle.decl_lexer.specs.declared.marks.Mark.{Mark}
use Rattle.decl_lexer.specs.Lexing.{Placed}
use Rattle.decl_syntax.specs.Units.{first_passes}
use Rattle.decl_syntax.specs.Runs.{Part, Opens, Closes, Inside, part_of, behind_part, pairs_behind, pairs_up}
use Rattle.decl_syntax.proofs.Joined.{some_is}
use Rattle.decl_parser.specs.declared.runs.Until.{Until}
use Rattle.decl_parser.specs.RunGrammar.{stops, closes, ends_run, NoneOutside, SpellsRun, spelled}
use Rattle.decl_parser.specs.RunReading.{outside, skip_step, skip_from, skip_at, run_at}

-- ---- lists

abbrev head_of : Placed → List Placed → Placed
head_of t [] = t
head_of t (u ∷ us) = u

abbrev tail_of : List Placed → List Placed
tail_of [] = []
tail_of (u ∷ us) = us

heads_same : (t u : Placed) (ts us : List Placed) → t ∷ ts ≡ u ∷ us → t ≡ u
heads_same t u ts us e = ap (head_of t) e

tails_same : (t u : Placed) (ts us : List Placed) → t ∷ ts ≡ u ∷ us → ts ≡ us
tails_same t u ts us e = ap tail_of e

no_cons : (front back : List Placed) (t : Placed) → [] ≡ front ++ t ∷ back → ⊥
no_cons [] back t e = absurd cc
no_cons (u ∷ front) back t e = absurd cc

-- ---- ends

closing_ends : (stop : Until) (t : Placed) → behind_part (part_of t.lexeme) t.lexeme [] ≡ None → ends_run stop t.lexeme ≡ true
closing_ends stop t e = by_part (part_of t.lexeme) (stops stop t.lexeme) e
  where
    by_part : (p : Part) (b : Bool) → behind_part p t.lexeme [] ≡ None → (b || closes p) ≡ true
    by_part (Opens mark) b e = absurd cc
    by_part Closes true e = refl
    by_part Closes false e = refl
    by_part Inside b e = absurd cc

closing_closes : (t : Placed) → closes (part_of t.lexeme) ≡ true → behind_part (part_of t.lexeme) t.lexeme [] ≡ None
closing_closes t e = by_part (part_of t.lexeme) e
  where
    by_part : (p : Part) → closes p ≡ true → behind_part p t.lexeme [] ≡ None
    by_part (Opens mark) e = absurd cc
    by_part Closes e = refl
    by_part Inside e = absurd cc

stops_end : (stop : Until) (t : Placed) → stops stop t.lexeme ≡ true → ends_run stop t.lexeme ≡ true
stops_end stop t e = rw e refl

-- ---- what is spelled is read

ends_there : (stop : Until) (rest : List Placed) → first_passes (ends_run stop) rest ≡ true → skip_from stop rest [] ≡ Some rest
ends_there stop [] e = absurd cc
ends_there stop (t ∷ ts) e = by_case (stops stop t.lexeme) refl e
  where
    by_case : (b : Bool) → stops stop t.lexeme ≡ b → ends_run stop t.lexeme ≡ true → skip_from stop (t ∷ ts) [] ≡ Some (t ∷ ts)
    by_case true s e = rw s refl
    by_case false s e = let k : closes (part_of t.lexeme) ≡ true = rw s at e in rw (s, closing_closes t k) refl

pub skip_complete : (stop : Until) (run rest : List Placed) (open_ : List Mark) → pairs_up run open_ ≡ true → NoneOutside stop run open_ → first_passes (ends_run stop) rest ≡ true
    → skip_from stop (run ++ rest) open_ ≡ Some rest
skip_complete stop [] rest [] p n e = ends_there stop rest e
skip_complete stop [] rest (mark ∷ open_) p n e = absurd cc
skip_complete stop (u ∷ run) rest open_ p n e = by_step (behind_part (part_of u.lexeme) u.lexeme open_) refl p (λ others q further. skip_complete stop run rest others q further e)
  where
    goes_on : (open_ : List Mark) → (pairs_up [] open_ ≡ true → stops stop u.lexeme ≡ false) → (outside open_ && stops stop u.lexeme) ≡ false
    goes_on [] s = s refl
    goes_on (mark ∷ open_) s = refl

    by_step : (o : Option (List Mark)) → behind_part (part_of u.lexeme) u.lexeme open_ ≡ o → pairs_behind (pairs_up run) o ≡ true
        → ((others : List Mark) → pairs_up run others ≡ true → NoneOutside stop run others → skip_from stop (run ++ rest) others ≡ Some rest)
        → skip_from stop (u ∷ run ++ rest) open_ ≡ Some rest
    by_step None s p below = absurd cc
    by_step (Some others) s p below =
        let further : NoneOutside stop run others = λ front back t w q. n (u ∷ front) back t (ap (λ ts. u ∷ ts) w) (rw s q) in
        rw (goes_on open_ (λ q. n [] run u refl q), s) (below others p further)

-- ---- what is read is spelled

pub record IsSkipped (stop : Until) (open_ : List Mark) (ts rest : List Placed) : Type 0 where
  pub run : List Placed
  pub whole : ts ≡ run ++ rest
  pub paired : pairs_up run open_ ≡ true
  pub none_outside : NoneOutside stop run open_
  pub ends : first_passes (ends_run stop) rest ≡ true

nothing_skipped : (stop : Until) (ts rest : List Placed) → ts ≡ rest → first_passes (ends_run stop) ts ≡ true → IsSkipped stop [] ts rest
nothing_skipped stop ts rest w e = record { run = []; whole = w; paired = refl; none_outside = λ front back t v q. absurd (no_cons front back t v); ends = rw w at e }

one_skipped : (stop : Until) (t : Placed) (ts rest : List Placed) (open_ others : List Mark) → (outside open_ && stops stop t.lexeme) ≡ false → behind_part (part_of t.lexeme) t.lexeme open_ ≡ Some others
    → IsSkipped stop others ts rest → IsSkipped stop open_ (t ∷ ts) rest
one_skipped stop t ts rest open_ others n s r = record {
  run = t ∷ r.run;
  whole = ap (λ us. t ∷ us) r.whole;
  paired = rw s r.paired;
  none_outside = λ front back u w q. by_front front back u w q;
  ends = r.ends;
}
  where
    by_open : (open_ : List Mark) → (outside open_ && stops stop t.lexeme) ≡ false → pairs_up [] open_ ≡ true → stops stop t.lexeme ≡ false
    by_open [] n q = n
    by_open (mark ∷ open_) n q = absurd cc

    by_front : (front back : List Placed) (u : Placed) → t ∷ r.run ≡ front ++ u ∷ back → pairs_up front open_ ≡ true → stops stop u.lexeme ≡ false
    by_front [] back u w q = rw (heads_same t u r.run back w) at (by_open open_ n q)
    by_front (v ∷ front) back u w q =
        let same : t ≡ v = heads_same t v r.run (front ++ u ∷ back) w in
        let k : pairs_up (t ∷ front) open_ ≡ true = rw same q in
        r.none_outside front back u (tails_same t v r.run (front ++ u ∷ back) w) (rw s at k)

pub skip_sound : (stop : Until) (ts : List Placed) (open_ : List Mark) (rest : List Placed) → skip_from stop ts open_ ≡ Some rest → IsSkipped stop open_ ts rest
skip_sound stop [] open_ rest e = absurd cc
skip_sound stop (t ∷ ts) open_ rest e = by_case (outside open_ && stops stop t.lexeme) refl e (λ others d. skip_sound stop ts others rest d)
  where
    at_stop : (open_ : List Mark) → (outside open_ && stops stop t.lexeme) ≡ true → t ∷ ts ≡ rest → IsSkipped stop open_ (t ∷ ts) rest
    at_stop [] s w = nothing_skipped stop (t ∷ ts) rest w (stops_end stop t s)
    at_stop (mark ∷ open_) s w = absurd cc

    at_end : (open_ : List Mark) → behind_part (part_of t.lexeme) t.lexeme open_ ≡ None → skip_step (skip_from stop ts) (t ∷ ts) open_ None ≡ Some rest → IsSkipped stop open_ (t ∷ ts) rest
    at_end [] s e = nothing_skipped stop (t ∷ ts) rest (some_is _ _ e) (closing_ends stop t s)
    at_end (mark ∷ open_) s e = absurd cc

    by_step : (o : Option (List Mark)) → behind_part (part_of t.lexeme) t.lexeme open_ ≡ o → (outside open_ && stops stop t.lexeme) ≡ false
        → skip_step (skip_from stop ts) (t ∷ ts) open_ o ≡ Some rest → ((others : List Mark) → skip_from stop ts others ≡ Some rest → IsSkipped stop others ts rest)
        → IsSkipped stop open_ (t ∷ ts) rest
    by_step None s n e below = at_end open_ s e
    by_step (Some others) s n e below = one_skipped stop t ts rest open_ others n s (below others e)

    by_case : (b : Bool) → (outside open_ && stops stop t.lexeme) ≡ b
        → cond b (Some (t ∷ ts)) (skip_step (skip_from stop ts) (t ∷ ts) open_ (behind_part (part_of t.lexeme) t.lexeme open_)) ≡ Some rest
        → ((others : List Mark) → skip_from stop ts others ≡ Some rest → IsSkipped stop others ts rest) → IsSkipped stop open_ (t ∷ ts) rest
    by_case true s e below = at_stop open_ s (some_is _ _ e)
    by_case false n e below = by_step (behind_part (part_of t.lexeme) t.lexeme open_) refl n e below

-- ---- runs that are not empty

pub run_complete : (stop : Until) (ts rest : List Placed) → SpellsRun stop ts rest → run_at stop ts ≡ Some rest
unfolding run_at skip_at
run_complete stop _ _ (spelled first run rest p n e) =
    rw (first_goes_on (stops stop first.lexeme) (part_of first.lexeme) p (n [] run first refl refl)) (skip_complete stop (first ∷ run) rest [] p n e)
  where
    first_goes_on : (b : Bool) (part : Part) → pairs_behind (pairs_up run) (behind_part part first.lexeme []) ≡ true → b ≡ false → (b || closes part) ≡ false
    first_goes_on true part q s = absurd cc
    first_goes_on false (Opens mark) q s = refl
    first_goes_on false Closes q s = absurd cc
    first_goes_on false Inside q s = refl

pub run_sound : (stop : Until) (ts rest : List Placed) → run_at stop ts ≡ Some rest → SpellsRun stop ts rest
unfolding run_at skip_at
run_sound stop ts rest e = by_case (first_passes (ends_run stop) ts) refl e
  where
    by_run : (run : List Placed) → first_passes (ends_run stop) ts ≡ false → ts ≡ run ++ rest → pairs_up run [] ≡ true → NoneOutside stop run [] → first_passes (ends_run stop) rest ≡ true → SpellsRun stop ts rest
    by_run [] n w p o e = absurd (let k : first_passes (ends_run stop) ts ≡ true = rw w e in cc)
    by_run (first ∷ run) n w p o e = rw w (spelled first run rest p o e)

    by_case : (b : Bool) → first_passes (ends_run stop) ts ≡ b → cond b None (skip_from stop ts []) ≡ Some rest → SpellsRun stop ts rest
    by_case true n e = absurd cc
    by_case false n e = let r = skip_sound stop ts [] rest e in by_run r.run n r.whole r.paired r.none_outside r.ends

pub run_shrinks : (stop : Until) (ts rest : List Placed) → SpellsRun stop ts rest → length rest < length ts
run_shrinks stop _ _ (spelled first run rest p n e) = omega (arith, length-append run rest)

pub one_place : (stop : Until) (ts us vs : List Placed) → SpellsRun stop ts us → SpellsRun stop ts vs → us ≡ vs
one_place stop ts us vs p q = some_is _ _ (sym (run_complete stop ts us p) ∙ run_complete stop ts vs q)
