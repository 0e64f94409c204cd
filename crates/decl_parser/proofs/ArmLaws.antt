-- Arms that are read are spelled so, and arms that are spelled so are read.
use Rattle.std.proofs.Common.{◌≡◌, ℕ, zero, suc, ◌+◌, ◌<◌, ◌≤◌, Bool, true, List, [], ◌∷◌, ◌++◌, length, sum_by, Some, None, refl, sym, ap, subst, ◌∙◌, arith, inl, inr}
use Rattle.decl_syntax.specs.Patterns.{PatternTree}
use Rattle.decl_syntax.specs.PatternGrammar.{SpellsPattern}
use Rattle.std.proofs.lemmas.List.Sums.{sum_by-cons}
use Rattle.std.proofs.lemmas.List.{length-append, append-nil}
use Rattle.decl_lexer.specs.declared.marks.Mark.TheVariants as marks
use Rattle.decl_lexer.specs.declared.words.Word.TheVariants as words
use Rattle.decl_lexer.specs.Lexing.{Placed}
use Rattle.decl_syntax.specs.declared.stop.Stop.{Stop}
use Rattle.decl_syntax.specs.declared.stop.Stop.TheVariants as stops_at
use Rattle.decl_syntax.specs.Units.{behind, flag_at, is_mark, is_word}
use Rattle.decl_syntax.specs.PatternReading.{pattern_at}
use Rattle.decl_syntax.specs.Grammar.{IsMark, NextIsNot, Maybe}
use Rattle.decl_syntax.specs.Reading.{◌>>=◌, either, Read, Fails}
use Rattle.decl_syntax.specs.Runs.{pairs_up, SpellsAttribute}
use Rattle.decl_syntax.specs.RunReading.{attribute_at, attributes_at}
use Rattle.decl_syntax.proofs.ListLemmas.{with_front, regroup, Shrinks, bind_same}
use Rattle.decl_syntax.proofs.Joined.{some_is, bind_some, either_some, given, word_only, behind_first, behind_some, none_behind, next_is_not, flag_sound, flag_complete, maybe_shrinks, Joined, read_shrinks, many_shrinks}
use Rattle.decl_syntax.proofs.PatternLaws.{patterns}
use Rattle.decl_syntax.proofs.RunLaws.{attributes}
use Rattle.decl_parser.specs.declared.runs.Until.TheVariants as until
use Rattle.decl_syntax.specs.Items.{ArmTree}
use Rattle.decl_parser.specs.RunReading.{skip_from, skip_at, run_at}
use Rattle.decl_parser.specs.ArmGrammar.{SpellsGuard, no_guard, a_guard, SpellsBody, block, before_comma, at_the_end, SpellsArm, spelled, SpellsArms, no_more, one_more}
use Rattle.decl_parser.specs.ArmReading.{guard_at, block_at, value_at, body_at, arm_at, arms_step, arms_within, arms_at}
use Rattle.decl_parser.proofs.PartLemmas.{Reads, attributes_read}
use Rattle.decl_parser.proofs.RunLaws.{skip_sound, skip_complete, run_sound, run_complete, run_shrinks}

-- ---- guards

guard_sound : (ts : List Placed) (y : Bool × List Placed) → guard_at ts ≡ Some y → SpellsGuard ts y.0 y.1
unfolding guard_at
guard_sound ts y e =
    elim (either_some (behind (is_word words.If) ts) _ _ y e) [
      | inl a ↦ (
          let b = behind_first (is_word words.If) ts a.0 a.1 in
          let r = bind_some (run_at until.Arrow a.0) _ y a.2 in
          given SpellsGuard ts _ y r.2 (rw b.whole (a_guard b.first a.0 r.0 (word_only words.If b.first.lexeme b.is) (run_sound until.Arrow a.0 r.0 r.1))))
      | inr o ↦ given SpellsGuard ts _ y o.1 (no_guard ts (next_is_not (is_word words.If) ts o.0))
    ]

guard_complete : (ts rest : List Placed) (b : Bool) → SpellsGuard ts b rest → guard_at ts ≡ Some (b, rest)
unfolding guard_at
guard_complete _ _ _ (no_guard ts n) = rw (none_behind (is_word words.If) ts n) refl
guard_complete _ _ _ (a_guard word ts rest w r) = rw (w, run_complete until.Arrow ts rest r) refl

pub guards : Reads SpellsGuard guard_at
guards = record { sound = guard_sound; complete = guard_complete }

guard_shrinks : (ts rest : List Placed) (b : Bool) → SpellsGuard ts b rest → length rest ≤ length ts
guard_shrinks _ _ _ (no_guard ts n) = omega arith
guard_shrinks _ _ _ (a_guard word ts rest w r) = omega (arith, run_shrinks until.Arrow ts rest r)

-- ---- bodies

block_by : (t closing : Placed) (ts inner us rest : List Placed) (comma : Bool) → ts ≡ inner ++ closing ∷ us → IsMark marks.OpenCurly t → pairs_up inner [] ≡ true → IsMark marks.CloseCurly closing
    → Maybe (is_mark marks.Comma) us comma rest → SpellsBody (t ∷ ts) rest
block_by t closing ts inner us rest comma whole o p c m = rw whole (block t closing inner us rest comma o p c m)

block_sound : (t : Placed) (ts rest : List Placed) → IsMark marks.OpenCurly t → block_at ts ≡ Some rest → SpellsBody (t ∷ ts) rest
unfolding block_at skip_at
block_sound t ts rest w e =
    let r = bind_some (skip_at until.Bracket ts) _ rest e in
    let k = skip_sound until.Bracket ts [] r.0 r.1 in
    let c = bind_some (behind (is_mark marks.CloseCurly) r.0) _ rest r.2 in
    let closing = behind_some marks.CloseCurly r.0 c.0 c.1 in
    let whole : ts ≡ k.run ++ closing.first ∷ c.0 = k.whole ∙ ap (λ us. k.run ++ us) closing.whole in
    subst (λ us. SpellsBody (t ∷ ts) us) (some_is _ _ c.2)
    (block_by t closing.first ts k.run c.0 (flag_at (is_mark marks.Comma) c.0).1 (flag_at (is_mark marks.Comma) c.0).0 whole w k.paired closing.is (flag_sound (is_mark marks.Comma) c.0))

value_sound : (ts rest : List Placed) → NextIsNot (is_mark marks.OpenCurly) ts → value_at ts ≡ Some rest → SpellsBody ts rest
unfolding value_at
value_sound ts rest n e =
    let r = bind_some (run_at until.CommaOrArrow ts) _ rest e in
    let run = run_sound until.CommaOrArrow ts r.0 r.1 in
    elim (either_some (behind (is_mark marks.Comma) r.0) _ _ rest r.2) [
      | inl a ↦ (
          let b = behind_some marks.Comma r.0 a.0 a.1 in
          subst (λ us. SpellsBody ts us) (some_is _ _ a.2) (before_comma ts a.0 b.first n (rw b.whole at run) b.is))
      | inr o ↦ (
          let c = bind_some (behind (is_mark marks.CloseCurly) r.0) _ rest o.1 in
          let b = behind_some marks.CloseCurly r.0 c.0 c.1 in
          let same : b.first ∷ c.0 ≡ rest = sym b.whole ∙ some_is _ _ c.2 in
          subst (λ us. SpellsBody ts us) same (at_the_end ts c.0 b.first n (rw b.whole at run) b.is))
    ]

body_sound : (ts rest : List Placed) → body_at ts ≡ Some rest → SpellsBody ts rest
unfolding body_at
body_sound ts rest e =
    elim (either_some (behind (is_mark marks.OpenCurly) ts) _ _ rest e) [
      | inl a ↦ (let b = behind_some marks.OpenCurly ts a.0 a.1 in rw b.whole (block_sound b.first a.0 rest b.is a.2))
      | inr o ↦ value_sound ts rest (next_is_not (is_mark marks.OpenCurly) ts o.0) o.1
    ]

body_complete : (ts rest : List Placed) → SpellsBody ts rest → body_at ts ≡ Some rest
unfolding body_at block_at value_at skip_at
body_complete _ _ (block opening closing inner us rest comma o p c m) =
    let inside : skip_from until.Bracket (inner ++ closing ∷ us) [] ≡ Some (closing ∷ us) = skip_complete until.Bracket inner (closing ∷ us) [] p (λ front back t w q. refl) (rw c refl) in
    rw (o, inside, c, flag_complete (is_mark marks.Comma) us rest comma m) refl
body_complete _ _ (before_comma ts rest comma n r c) = rw (none_behind (is_mark marks.OpenCurly) ts n, run_complete until.CommaOrArrow ts (comma ∷ rest) r, c) refl
body_complete _ _ (at_the_end ts rest closing n r c) = rw (none_behind (is_mark marks.OpenCurly) ts n, run_complete until.CommaOrArrow ts (closing ∷ rest) r, c) refl

body_shrinks : (ts rest : List Placed) → SpellsBody ts rest → length rest < length ts
body_shrinks _ _ (block opening closing inner us rest comma o p c m) = omega (arith, length-append inner (closing ∷ us), maybe_shrinks (is_mark marks.Comma) us rest comma m)
body_shrinks _ _ (before_comma ts rest comma n r c) = omega (arith, run_shrinks until.CommaOrArrow ts (comma ∷ rest) r)
body_shrinks _ _ (at_the_end ts rest closing n r c) = run_shrinks until.CommaOrArrow ts (closing ∷ rest) r

-- ---- arms

arm_sound : (ts : List Placed) (y : ArmTree × List Placed) → arm_at ts ≡ Some y → SpellsArm ts y.0 y.1
unfolding arm_at
arm_sound ts y e =
    let a = bind_some (attributes_at ts) _ y e in
    let p = bind_some (pattern_at a.0.1) _ y a.2 in
    let g = bind_some (guard_at p.0.1) _ y p.2 in
    let w = bind_some (behind (is_mark marks.FatArrow) g.0.1) _ y g.2 in
    let arrow = behind_some marks.FatArrow g.0.1 w.0 w.1 in
    let b = bind_some (body_at w.0) _ y w.2 in
    given SpellsArm ts _ y b.2
    (spelled ts a.0.1 p.0.1 w.0 b.0 arrow.first a.0.0 p.0.0 g.0.0 (attributes_read.sound ts a.0 a.1) (patterns.sound a.0.1 p.0 p.1) (rw arrow.whole at (guard_sound p.0.1 g.0 g.1)) arrow.is (body_sound w.0 b.0 b.1))

arm_complete : (ts rest : List Placed) (arm : ArmTree) → SpellsArm ts arm rest → arm_at ts ≡ Some (arm, rest)
unfolding arm_at
arm_complete _ _ _ (spelled ts us vs ws rest arrow attrs pattern guarded a p g w b) =
    rw (attributes_read.complete ts us attrs a, patterns.complete us vs pattern p, guard_complete vs (arrow ∷ ws) guarded g, w, body_complete ws rest b) refl

arm_shrinks : (ts rest : List Placed) (arm : ArmTree) → SpellsArm ts arm rest → length rest < length ts
arm_shrinks _ _ _ (spelled ts us vs ws rest arrow attrs pattern guarded a p g w b) =
    omega (arith, many_shrinks marks.Hash SpellsAttribute attribute_at attributes ts us attrs a, patterns.shrinks us vs pattern p, guard_shrinks vs (arrow ∷ ws) guarded g, body_shrinks ws rest b)

arm_weighs : (weight : PatternTree → ℕ) → ((ts rest : List Placed) (p : PatternTree) → SpellsPattern ts p rest → weight p + length rest ≤ length ts)
    → (ts rest : List Placed) (arm : ArmTree) → SpellsArm ts arm rest → weight arm.pattern + length rest < length ts
arm_weighs weight each _ _ _ (spelled ts us vs ws rest arrow attrs pattern guarded a p g w b) =
    omega (arith, many_shrinks marks.Hash SpellsAttribute attribute_at attributes ts us attrs a, each us vs pattern p, guard_shrinks vs (arrow ∷ ws) guarded g, body_shrinks ws rest b)

pub one_arm : Joined SpellsArm arm_at
one_arm = record { sound = arm_sound; complete = arm_complete; shrinks = arm_shrinks }

pub arm_reading_shrinks : Shrinks arm_at
arm_reading_shrinks = read_shrinks SpellsArm arm_at one_arm

-- ---- lists of arms

step_same : (f g : List Placed → Read (List ArmTree)) (ts : List Placed) → ((us : List Placed) → length us < length ts → f us ≡ g us) → arms_step f ts ≡ arms_step g ts
step_same f g ts same =
    ap (either (behind (is_mark marks.CloseCurly) ts) (λ rest. Some ([], rest)))
    (bind_same (arm_at ts) _ _ (λ x e. ap (λ o. o >>= λ xs. Some (x.0 ∷ xs.0, xs.1)) (same x.1 (arm_reading_shrinks ts x.1 x.0 e))))

enough : (n m : ℕ) (ts : List Placed) → length ts < n → length ts < m → arms_within n ts ≡ arms_within m ts
enough zero m ts l k = absurd (omega arith)
enough (suc n) zero ts l k = absurd (omega arith)
enough (suc n) (suc m) ts l k = step_same _ _ ts (λ us s. enough n m us (omega arith) (omega arith))

-- one step of a list of arms
arms_unfold : (ts : List Placed) → arms_at ts ≡ arms_step arms_at ts
unfolding arms_at
arms_unfold ts = step_same _ _ ts (λ us s. enough (length ts) (suc (length us)) us s (omega arith))

within_sound : (fuel : ℕ) (ts : List Placed) (y : List ArmTree × List Placed) → arms_within fuel ts ≡ Some y → SpellsArms ts y.0 y.1
within_sound zero ts y e = absurd cc
within_sound (suc fuel) ts y e =
    elim (either_some (behind (is_mark marks.CloseCurly) ts) _ _ y e) [
      | inl a ↦ (let b = behind_some marks.CloseCurly ts a.0 a.1 in given SpellsArms ts _ y a.2 (rw b.whole (no_more b.first a.0 b.is)))
      | inr o ↦ (
          let r = bind_some (arm_at ts) _ y o.1 in
          let s = bind_some (arms_within fuel r.0.1) _ y r.2 in
          given SpellsArms ts _ y s.2
          (one_more ts r.0.1 s.0.1 r.0.0 s.0.0 (next_is_not (is_mark marks.CloseCurly) ts o.0) (arm_sound ts r.0 r.1) (within_sound fuel r.0.1 s.0 s.1)))
    ]

arms_sound : (ts : List Placed) (y : List ArmTree × List Placed) → arms_at ts ≡ Some y → SpellsArms ts y.0 y.1
unfolding arms_at
arms_sound ts y e = within_sound (suc (length ts)) ts y e

arms_complete : (ts rest : List Placed) (arms : List ArmTree) → SpellsArms ts arms rest → arms_at ts ≡ Some (arms, rest)
arms_complete _ _ _ (no_more closing rest c) = arms_unfold (closing ∷ rest) ∙ rw c refl
arms_complete _ _ _ (one_more ts us rest arm arms n a others) =
    arms_unfold ts ∙ rw (none_behind (is_mark marks.CloseCurly) ts n, arm_complete ts us arm a, arms_complete us rest arms others) refl

arms_shrink : (ts rest : List Placed) (arms : List ArmTree) → SpellsArms ts arms rest → length rest < length ts
arms_shrink _ _ _ (no_more closing rest c) = omega arith
arms_shrink _ _ _ (one_more ts us rest arm arms n a others) = omega (arith, arm_shrinks ts us arm a, arms_shrink us rest arms others)

pub all_arms : Joined SpellsArms arms_at
all_arms = record { sound = arms_sound; complete = arms_complete; shrinks = arms_shrink }

-- each arm takes a token at least, and the "}" another
pub arms_count : (ts rest : List Placed) (arms : List ArmTree) → SpellsArms ts arms rest → length arms + length rest < length ts
arms_count _ _ _ (no_more closing rest c) = omega arith
arms_count _ _ _ (one_more ts us rest arm arms n a others) = omega (arith, arm_shrinks ts us arm a, arms_count us rest arms others)

-- where each pattern has at most as many of something as tokens, so have the patterns of the arms
pub arms_weigh : (weight : PatternTree → ℕ) → ((ts rest : List Placed) (p : PatternTree) → SpellsPattern ts p rest → weight p + length rest ≤ length ts)
    → (ts rest : List Placed) (arms : List ArmTree) → SpellsArms ts arms rest → sum_by (λ a. weight a.pattern) arms + length rest < length ts
arms_weigh weight each _ _ _ (no_more closing rest c) = omega arith
arms_weigh weight each _ _ _ (one_more ts us rest arm arms n a others) = omega (arith, sum_by-cons (λ (a : ArmTree). weight a.pattern) arm arms, arm_weighs weight each ts us arm a, arms_weigh weight each us rest arms others)

-- arms read one after the other, as a loop does
module _ (front : List ArmTree) (ts : List Placed) (total : Read (List ArmTree)) (so_far : with_front front (arms_at ts) ≡ total) where
  now_read : with_front front (arms_step arms_at ts) ≡ total
  now_read = sym (ap (with_front front) (arms_unfold ts)) ∙ so_far

  pub arms_end : (rest : List Placed) → Some rest ≡ behind (is_mark marks.CloseCurly) ts → total ≡ Some (front, rest)
  arms_end rest b = sym now_read ∙ rw (← b) (ap (λ (xs : List ArmTree). Some (xs, rest)) (append-nil front))

  pub arms_stuck : (e : Stop) → None ≡ behind (is_mark marks.CloseCurly) ts → Fails e (arm_at ts) → Fails e total
  arms_stuck stops_at.Memory b f = tt
  arms_stuck stops_at.Syntax b f = sym now_read ∙ rw (← b, f) refl

  pub arms_go_on : (x : ArmTree) (us : List Placed) → None ≡ behind (is_mark marks.CloseCurly) ts → arm_at ts ≡ Some (x, us) → with_front (front ++ x ∷ []) (arms_at us) ≡ total
  arms_go_on x us b r = sym (sym now_read ∙ rw (← b, r) (regroup front x (arms_at us)))
