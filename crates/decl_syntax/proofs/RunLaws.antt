-- An attribute that is read is spelled so, and one that is spelled so is read.
use Rattle.std.proofs.Common.{◌≡◌, ℕ, ◌<◌, Bool, true, false, cond, List, [], ◌∷◌, ◌++◌, length, Option, Some, None, Result, Ok, Err, refl, sym, ap, subst, ◌∙◌, arith, inl, inr}
use Rattle.std.proofs.lemmas.List.{length-append, append-nil, length-reverse}
use Rattle.std.specs.Prelude.{reverse, IfOk, IfErr}
use Rattle.decl_syntax.specs.declared.stop.Stop.{Stop}
use Rattle.decl_syntax.specs.declared.stop.Stop.TheVariants as stops
use Rattle.decl_lexer.specs.declared.marks.Mark.{Mark}
use Rattle.decl_lexer.specs.declared.marks.Mark.TheVariants as marks
use Rattle.decl_lexer.specs.Begins.{Lexeme, Marked}
use Rattle.decl_lexer.specs.Lexing.{Placed}
use Rattle.decl_syntax.specs.Units.{behind, is_mark, same_mark, name_of, from_of}
use Rattle.decl_syntax.specs.Patterns.{AttrTree}
use Rattle.decl_syntax.specs.Grammar.{NoneSpelled, IsMark}
use Rattle.decl_syntax.specs.Runs.{Closes, part_of, mark_of, Tracks, behind_part, pairs_behind, pairs_up, or_else, first_name, text_of, SpellsAttribute, attribute, SpellsAttributes, OneAttributeList}
use Rattle.decl_syntax.specs.Reading.{◌>>=◌, Read, Gives}
use Rattle.decl_syntax.specs.RunReading.{run_step, run_at, word_at, attribute_at, attributes_at}
use Rattle.decl_syntax.proofs.ListLemmas.{with_front, regroup, Shrinks}
use Rattle.decl_syntax.proofs.Joined.{some_is, bind_some, either_some, mark_only, behind_some, behind_it, Joined, read_shrinks, many_sound, many_complete}

-- a closing mark closes nothing where nothing is open
none_open : (t : Placed) → IsMark marks.CloseSquare t → behind_part (part_of t.lexeme) t.lexeme [] ≡ None
none_open t e = rw e refl

-- a run in front of a closing bracket is read to its end
run_complete : (run : List Placed) (open_ : List Mark) (t : Placed) (rest : List Placed) → pairs_up run open_ ≡ true → IsMark marks.CloseSquare t → run_at (run ++ t ∷ rest) open_ ≡ Some (run, t ∷ rest)
run_complete [] [] t rest p e = rw (none_open t e) refl
run_complete [] (mark ∷ open_) t rest p e = absurd cc
run_complete (u ∷ run) open_ t rest p e = by_step (behind_part (part_of u.lexeme) u.lexeme open_) p (λ others q. run_complete run others t rest q e)
  where
    by_step : (o : Option (List Mark)) → pairs_behind (pairs_up run) o ≡ true → ((others : List Mark) → pairs_up run others ≡ true → run_at (run ++ t ∷ rest) others ≡ Some (run, t ∷ rest))
        → run_step (run_at (run ++ t ∷ rest)) u (run ++ t ∷ rest) open_ o ≡ Some (u ∷ run, t ∷ rest)
    by_step None p below = absurd cc
    by_step (Some others) p below = rw (below others p) refl

-- what was read is a run, and a closing bracket follows
record IsRun (open_ : List Mark) (ts : List Placed) (y : List Placed × List Placed) : Type 0 where
  paired : pairs_up y.0 open_ ≡ true
  whole : ts ≡ y.0 ++ y.1

ended : (t : Placed) (ts : List Placed) (open_ : List Mark) (y : List Placed × List Placed) → run_step (run_at ts) t ts open_ None ≡ Some y → IsRun open_ (t ∷ ts) y
ended t ts [] y e =
    let found : IsRun [] (t ∷ ts) ([], t ∷ ts) = record { paired = refl; whole = refl } in
    subst (λ z. IsRun [] (t ∷ ts) z) (some_is _ _ e) found
ended t ts (mark ∷ open_) y e = absurd cc

run_sound : (ts : List Placed) (open_ : List Mark) (y : List Placed × List Placed) → run_at ts open_ ≡ Some y → IsRun open_ ts y
run_sound [] open_ y e = absurd cc
run_sound (t ∷ ts) open_ y e = by_step (behind_part (part_of t.lexeme) t.lexeme open_) refl e (run_sound ts)
  where
    by_step : (o : Option (List Mark)) → behind_part (part_of t.lexeme) t.lexeme open_ ≡ o → run_step (run_at ts) t ts open_ o ≡ Some y
        → ((others : List Mark) (z : List Placed × List Placed) → run_at ts others ≡ Some z → IsRun others ts z) → IsRun open_ (t ∷ ts) y
    by_step (Some others) s e below =
        let x = bind_some (run_at ts others) _ y e in
        let r = below others x.0 x.1 in
        let found : IsRun open_ (t ∷ ts) (t ∷ x.0.0, x.0.1) = record { paired = ap (pairs_behind (pairs_up x.0.0)) s ∙ r.paired; whole = ap (λ us. t ∷ us) r.whole } in
        subst (λ z. IsRun open_ (t ∷ ts) z) (some_is _ _ x.2) found
    by_step None s e below = ended t ts open_ y e

word_complete : (run : List Placed) (t : Placed) (rest : List Placed) → pairs_up run [] ≡ true → IsMark marks.CloseSquare t → word_at (run ++ t ∷ rest) ≡ Some (first_name run, t ∷ rest)
unfolding word_at
word_complete run t rest p e = rw (run_complete run [] t rest p e) refl

attribute_complete : (ts rest : List Placed) (a : AttrTree) → SpellsAttribute ts a rest → attribute_at ts ≡ Some (a, rest)
unfolding attribute_at
attribute_complete _ _ _ (attribute hash opening closing first run rest h o p c) =
    rw (h, o, first_stays first run (closing ∷ rest) p, word_complete (first ∷ run) closing rest p c, c) refl
  where
    first_stays : (first : Placed) (run more : List Placed) → pairs_up (first ∷ run) [] ≡ true → behind (is_mark marks.CloseSquare) (first ∷ run ++ more) ≡ None
    first_stays first run more p = by_mark (is_mark marks.CloseSquare first.lexeme) refl
      where
        by_mark : (b : Bool) → is_mark marks.CloseSquare first.lexeme ≡ b → behind (is_mark marks.CloseSquare) (first ∷ run ++ more) ≡ None
        by_mark true m = let k : behind_part (part_of first.lexeme) first.lexeme [] ≡ None = none_open first (mark_only marks.CloseSquare first.lexeme m) in let q : pairs_up (first ∷ run) [] ≡ false = rw k refl in absurd cc
        by_mark false m = rw m refl

abbrev attribute_pair : ℕ → Option (List ℕ) → List Placed → AttrTree × List Placed
attribute_pair from word rest = (record { from = from; word = text_of word }, rest)

attribute_sound : (ts : List Placed) (y : AttrTree × List Placed) → attribute_at ts ≡ Some y → SpellsAttribute ts y.0 y.1
unfolding attribute_at word_at
attribute_sound ts y e =
    let h = bind_some (behind (is_mark marks.Hash) ts) _ y e in
    let hash = behind_some marks.Hash ts h.0 h.1 in
    let o = bind_some (behind (is_mark marks.OpenSquare) h.0) _ y h.2 in
    let opening = behind_some marks.OpenSquare h.0 o.0 o.1 in
    elim (either_some (behind (is_mark marks.CloseSquare) o.0) _ _ y o.2) [
      | inl a ↦ (let none_such = a.2 in absurd cc)
      | inr n ↦ (
          let w = bind_some (word_at o.0) _ y n.1 in
          let r = bind_some (run_at o.0 []) _ w.0 w.1 in
          let run = run_sound o.0 [] r.0 r.1 in
          let c = bind_some (behind (is_mark marks.CloseSquare) w.0.1) _ y w.2 in
          let closing = behind_some marks.CloseSquare w.0.1 c.0 c.1 in
          let same = some_is _ _ r.2 in
          whole ts h.0 o.0 r.0.0 r.0.1 c.0 hash.first opening.first closing.first y hash.is opening.is closing.is hash.whole opening.whole (ap (λ z. z.1) same ∙ closing.whole) run n.0
          (ap (λ z. attribute_pair (from_of ts) z c.0) (ap (λ z. z.0) same) ∙ some_is _ _ c.2))
    ]
  where
    whole : (ts us vs run ws rest : List Placed) (hash opening closing : Placed) (y : AttrTree × List Placed) → IsMark marks.Hash hash → IsMark marks.OpenSquare opening → IsMark marks.CloseSquare closing
        → ts ≡ hash ∷ us → us ≡ opening ∷ vs → ws ≡ closing ∷ rest → IsRun [] vs (run, ws) → behind (is_mark marks.CloseSquare) vs ≡ None → attribute_pair (from_of ts) (first_name run) rest ≡ y → SpellsAttribute ts y.0 y.1
    whole ts us vs [] ws rest hash opening closing y h o c a b d r n e =
        let k : vs ≡ closing ∷ rest = r.whole ∙ d in
        let l : behind (is_mark marks.CloseSquare) vs ≡ Some rest = rw (k, behind_it marks.CloseSquare closing rest c) refl in
        absurd cc
    whole ts us vs (first ∷ run) ws rest hash opening closing y h o c a b d r n e =
        let whole_is : ts ≡ hash ∷ opening ∷ first ∷ run ++ closing ∷ rest = a ∙ ap (λ zs. hash ∷ zs) (b ∙ ap (λ zs. opening ∷ zs) (r.whole ∙ ap (λ zs. first ∷ run ++ zs) d)) in
        let from_is : from_of ts ≡ hash.from = ap from_of whole_is in
        let spelled : SpellsAttribute ts (record { from = from_of ts; word = text_of (first_name (first ∷ run)) }) rest =
        rw (from_is, whole_is) (attribute hash opening closing first run rest h o r.paired c) in
        subst (λ z. SpellsAttribute ts z.0 z.1) e spelled

attribute_shrinks : (ts rest : List Placed) (a : AttrTree) → SpellsAttribute ts a rest → length rest < length ts
attribute_shrinks _ _ _ (attribute hash opening closing first run rest h o p c) = omega (arith, length-append run (closing ∷ rest))

pub attributes : Joined SpellsAttribute attribute_at
attributes = record { sound = attribute_sound; complete = attribute_complete; shrinks = attribute_shrinks }

pub first_push : (front : List Placed) (t : Placed) → first_name (front ++ t ∷ []) ≡ or_else (first_name front) (name_of t.lexeme)
first_push [] t = or_none (name_of t.lexeme)
  where
    or_none : (o : Option (List ℕ)) → or_else o None ≡ o
    or_none None = refl
    or_none (Some x) = refl
first_push (u ∷ front) t = ap (or_else (name_of u.lexeme)) (first_push front t) ∙ assoc (name_of u.lexeme) (first_name front) (name_of t.lexeme)
  where
    assoc : (a b c : Option (List ℕ)) → or_else a (or_else b c) ≡ or_else (or_else a b) c
    assoc None b c = refl
    assoc (Some x) b c = refl

-- a run read token by token, as a loop does
module _ (front : List Placed) (ts : List Placed) (open_ : List Mark) (total : Read (List Placed)) (so_far : with_front front (run_at ts open_) ≡ total) where
  pub run_over : ts ≡ [] → total ≡ None
  run_over e = sym so_far ∙ rw e refl

  pub run_ends : (t : Placed) (us : List Placed) → ts ≡ t ∷ us → open_ ≡ [] → behind_part (part_of t.lexeme) t.lexeme open_ ≡ None → total ≡ Some (front, ts)
  run_ends t us w o s =
      let p : run_at ts open_ ≡ Some ([], ts) = rw w (read_end t us open_ o s) in
      sym so_far ∙ rw p (ap (λ (xs : List Placed). Some (xs, ts)) (append-nil front))
    where
      read_end : (t : Placed) (us : List Placed) (open_ : List Mark) → open_ ≡ [] → behind_part (part_of t.lexeme) t.lexeme open_ ≡ None → run_at (t ∷ us) open_ ≡ Some ([], t ∷ us)
      read_end t us [] o s = rw s refl
      read_end t us (mark ∷ open_) o s = absurd cc

  pub run_torn : (t : Placed) (us : List Placed) → ts ≡ t ∷ us → (open_ ≡ [] → ⊥) → behind_part (part_of t.lexeme) t.lexeme open_ ≡ None → total ≡ None
  run_torn t us w o s = let p : run_at ts open_ ≡ None = rw w (read_torn t us open_ o s) in sym so_far ∙ rw p refl
    where
      read_torn : (t : Placed) (us : List Placed) (open_ : List Mark) → (open_ ≡ [] → ⊥) → behind_part (part_of t.lexeme) t.lexeme open_ ≡ None → run_at (t ∷ us) open_ ≡ None
      read_torn t us [] o s = absurd (o refl)
      read_torn t us (mark ∷ open_) o s = rw s refl

  pub run_goes_on : (t : Placed) (us : List Placed) (others : List Mark) → ts ≡ t ∷ us → behind_part (part_of t.lexeme) t.lexeme open_ ≡ Some others → with_front (front ++ t ∷ []) (run_at us others) ≡ total
  run_goes_on t us others w s =
      let p : run_at ts open_ ≡ (run_at us others >>= λ x. Some (t ∷ x.0, x.1)) = rw (w, s) refl in
      sym (sym so_far ∙ rw p (regroup front t (run_at us others)))

-- ---- closing brackets, as a loop does

mark_is : (l : Lexeme) (m : Mark) → Some m ≡ mark_of l → l ≡ Marked m
mark_is (Marked n) m e = ap Marked (some_is n m (sym e))
mark_is _ m e = absurd cc

pub track_closes : (m close : Mark) (l : Lexeme) (b : Bool) (old new : List Mark) → Some m ≡ mark_of l → Closes ≡ part_of (Marked m) → old ≡ close ∷ new → b ≡ same_mark m close
    → Tracks (Ok b) (behind_part (part_of l) l old) new
track_closes m close l b old new e p r s = let k = mark_is l m e in rw (k, ← p, r) (by_case b s)
  where
    by_case : (b : Bool) → b ≡ same_mark m close → Tracks (Ok b) (cond (same_mark m close) (Some new) None) new
    by_case true s = rw (← s) refl
    by_case false s = rw (← s) refl

pub attributes_shrink : Shrinks attribute_at
attributes_shrink = read_shrinks SpellsAttribute attribute_at attributes

pub tracked_true : (b : Bool) (o : Option (List Mark)) (now : List Mark) → Tracks (Ok b) o now → b ≡ true → o ≡ Some now
tracked_true true o now t e = t
tracked_true false o now t e = absurd cc

pub tracked_false : (b : Bool) (o : Option (List Mark)) (now : List Mark) → Tracks (Ok b) o now → b ≡ false → o ≡ None
tracked_false true o now t e = absurd cc
tracked_false false o now t e = t

pub reverse_empty : (xs : List Mark) → reverse xs ≡ [] → length xs ≡ 0
reverse_empty [] e = refl
reverse_empty (x ∷ xs) e = absurd (omega (arith, ap length e, length-reverse (x ∷ xs)))

-- ---- lists of attributes

all_found : (ts : List Placed) (y : List AttrTree × List Placed) → attributes_at ts ≡ Some y → SpellsAttributes ts y.0 y.1
unfolding attributes_at
all_found ts y e = many_sound marks.Hash SpellsAttribute attribute_at attributes ts y e

all_read : (ts rest : List Placed) (xs : List AttrTree) → SpellsAttributes ts xs rest → attributes_at ts ≡ Some (xs, rest)
unfolding attributes_at
all_read ts rest xs s = many_complete marks.Hash SpellsAttribute attribute_at attributes ts rest xs s

pub one_list : OneAttributeList
one_list ts us vs xs ys p q = let same = some_is _ _ (sym (all_read ts us xs p) ∙ all_read ts vs ys q) in (ap (λ w. w.0) same, ap (λ w. w.1) same)

pub attributes_are_found : {X : Type 0} (view : X → List AttrTree × List Placed) (ts : List Placed) (r : Result X Stop) → Gives view r (attributes_at ts) → IfOk r (λ x. SpellsAttributes ts (view x).0 (view x).1)
attributes_are_found view ts (Ok x) g = all_found ts (view x) g
attributes_are_found view ts (Err e) g = tt

pub attributes_are_none : {X : Type 0} (view : X → List AttrTree × List Placed) (ts : List Placed) (r : Result X Stop) → Gives view r (attributes_at ts) → IfErr r (NoneSpelled SpellsAttributes ts)
attributes_are_none view ts (Ok x) g = tt
attributes_are_none view ts (Err stops.Memory) g = tt
attributes_are_none view ts (Err stops.Syntax) g = λ x rest p. let k = all_read ts rest x p in absurd cc
