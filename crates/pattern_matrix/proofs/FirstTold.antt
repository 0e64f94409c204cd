-- From the first submatrix to a match.
use Rattle.std.proofs.Common.{◌≡◌, ◌↔◌, ℕ, suc, Bool, true, false, not, List, [], ◌∷◌, ◌++◌, length, refl, sym, ap, ◌∙◌, arith, IsTrue}
use Rattle.std.proofs.lemmas.List.{length-map}
use Rattle.match_model.specs.Values.{MValue}
use Rattle.match_model.specs.Contexts.{Context}
use Rattle.match_model.specs.ArenaPatterns.{MDeArm, MDeMatch}
use Rattle.match_model.specs.ArenaWays.{arena_arm, match_arms, InMatchDomain}
use Rattle.match_model.specs.Made.{AreArmsMade}
use Rattle.match_model.specs.Match.{is_covered, comes_to, comes_through}
use Rattle.match_model.specs.Matrices.{first_rows}
use Rattle.match_model.specs.WellTyped.{IsWellTyped}
use Rattle.match_model.proofs.Basics.{untrue}
use Rattle.pattern_matrix.specs.HeadRows.{cols, AllTyped, AreMadeRows}
use Rattle.pattern_matrix.specs.Counting.{Question, counts, all_wanted, row_behind, asked_rows, to_arm, through_alternative}
use Rattle.pattern_matrix.specs.Searching.{heads_in, IsFit, Comes, first_submatrix}
use Rattle.pattern_matrix.specs.SearchLaws.{IsReached, FirstTells}
use Rattle.pattern_matrix.proofs.Covers.{AreArmsTyped}
use Rattle.pattern_matrix.proofs.FirstCounts.{rows_tell}
use Rattle.pattern_matrix.proofs.Whole.{arms_typed}

module _ {T : Type 0} (IsType : T → Type 0) (IsValue : T → Bool → MValue → Type 0) (cx : Context T) where
  first_fit : (m : MDeMatch T) → IsWellTyped IsType cx m → AreArmsMade m.arms → (v : MValue) × InMatchDomain IsValue m v → IsFit IsType IsValue cx (first_submatrix m)
  first_fit m w y (v, a) = record {
    types = (w.type, tt);
    typed = typed 0 m.arms (arms_typed cx m.type m.arms w.typed);
    made = made 0 m.arms y;
    some = (v ∷ [], (a, tt));
  }
    where
      typed : (i : ℕ) (arms : List (MDeArm T)) → AreArmsTyped cx m.type arms →
          AllTyped cx (cols (record { type = m.type; sure = m.sure } ∷ [])) (heads_in (all_wanted (first_rows i arms ++ row_behind (length m.arms) ∷ [])))
      typed i [] h = ((tt, tt), tt)
      typed i (a ∷ arms) h = ((h.0, tt), typed (suc i) arms h.1)

      made : (i : ℕ) (arms : List (MDeArm T)) → AreArmsMade arms → AreMadeRows (heads_in (all_wanted (first_rows i arms ++ row_behind {T = T} (length m.arms) ∷ [])))
      made i [] h = ((tt, tt), tt)
      made i (a ∷ arms) h = ((h.0, tt), made (suc i) arms h.1)

  -- values come to it where one value of the domain does
  comes_is : (m : MDeMatch T) (q : Question) (test : MValue → Bool) → ((v : MValue) → counts q (asked_rows m) (v ∷ []) ≡ test v) →
      Comes IsValue q (first_submatrix m) ↔ ((v : MValue) × InMatchDomain IsValue m v × IsTrue (test v))
  comes_is m q test f = (
    alone,
    λ (v, a, e). (v ∷ [], (a, tt), f v ∙ e),
  )
    where
      alone : Comes IsValue q (first_submatrix m) → (v : MValue) × InMatchDomain IsValue m v × IsTrue (test v)
      alone ([], a, e) = absurd a
      alone (v ∷ [], a, e) = (v, a.0, sym (f v) ∙ e)
      alone (v ∷ u ∷ vs, a, e) = absurd a.1

  marked_is : (m : MDeMatch T) (is_marked : Question → Bool) → ((q : Question) → (is_marked q ≡ true) ↔ Comes IsValue q (first_submatrix m)) → (q : Question) (test : MValue → Bool) →
      ((v : MValue) → counts q (asked_rows m) (v ∷ []) ≡ test v) → (is_marked q ≡ true) ↔ ((v : MValue) × InMatchDomain IsValue m v × IsTrue (test v))
  marked_is m is_marked f q test g = ((λ e. (comes_is m q test g).0 ((f q).0 e)), (λ c. (f q).1 ((comes_is m q test g).1 c)))

  first_reached : (m : MDeMatch T) (is_marked : Question → Bool) → ((q : Question) → (is_marked q ≡ true) ↔ Comes IsValue q (first_submatrix m)) → IsReached IsValue m is_marked
  first_reached m is_marked f = record {
    exact = record {
      arm = λ j l. marked_is m is_marked f (to_arm j) (comes_to (match_arms m) j) (λ v. rows_tell.arm m j v (let e = length-map m.arms arena_arm in omega (arith, l, e)));
      alternative = λ j id l. marked_is m is_marked f (through_alternative j id) (comes_through (match_arms m) j id) (λ v. rows_tell.alternative m j id v);
    };
    behind = λ e v a u. covered (is_covered (match_arms m) v) (λ c. untrue (sym e ∙ uncovered.1 (v, a, c)));
    behind_too = λ n x. unmarked (is_marked (to_arm (length m.arms))) (λ e. let (v, a, c) = uncovered.0 e in untrue (sym (ap not (x v a (n v a))) ∙ c));
  }
    where
      uncovered : (is_marked (to_arm (length m.arms)) ≡ true) ↔ ((v : MValue) × InMatchDomain IsValue m v × IsTrue (not (is_covered (match_arms m) v)))
      uncovered = marked_is m is_marked f (to_arm (length m.arms)) (λ v. not (is_covered (match_arms m) v)) (λ v. rows_tell.behind m v)

      covered : (c : Bool) → (not c ≡ true → c ≡ true) → c ≡ true
      covered true f = refl
      covered false f = f refl

      unmarked : (b : Bool) → (b ≡ true → b ≡ false) → b ≡ false
      unmarked true f = f refl
      unmarked false f = refl

  pub first_tells : FirstTells IsType IsValue cx
  first_tells = record { fit = first_fit; reached = first_reached }
