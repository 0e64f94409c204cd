-- What is kept of a row holds of all rows that it is known of.
use Rattle.std.proofs.Common.{◌≡◌, ℕ, zero, suc, ◌+◌, ◌^◌, ◌≤◌, true, List, [], ◌∷◌, ◌++◌, get_or, set, length, Option, Some, None, inl, inr, ◌⊎◌, refl, sym, ap, subst, ◌∙◌, arith, get_or-set_same, get_or-set_other}
use Rattle.std.specs.Prelude.{nat_le}
use Rattle.std.proofs.lemmas.Bool.{cases_eq, cases_lt}
use Rattle.std.proofs.lemmas.Bool.Decides.{nat_tests}
use Rattle.std.proofs.lemmas.List.{set_past}
use Rattle.match_model.specs.Constructors.{FixedShape, LongerShape, MCtor, RowCtor, has_piece, least_length}
use Rattle.match_model.specs.WellTyped.{is_written}
use Rattle.constructor_sets.specs.declared.known.Known.{Known}
use Rattle.constructor_sets.specs.declared.piece.Span.{Span}
use Rattle.constructor_sets.specs.Known.{known_of, AreKnown, Keeps}
use Rattle.constructor_sets.specs.RowLengths.{IsShortRow}
use Rattle.constructor_sets.specs.Spans.{plain_span, IsSpan}

pub written_short : (c : MCtor) → is_written c ≡ true → IsShortRow c
written_short (RowCtor s) h = at_most (least_length s) h
  where
    at_most : (n : ℕ) → nat_le n 4294967296 ≡ true → n ≤ 2 ^ 32
    at_most n h = grind (arith, nat_tests)
written_short _ h = tt

-- heads that have the same pieces have the same spans
same_span : (pieces : List MCtor) (g h : MCtor) (s : ℕ × ℕ) → ((p : MCtor) → has_piece g p ≡ has_piece h p) → IsSpan pieces g s → IsSpan pieces h s
same_span pieces g h s e i = record { forward = i.forward; within = i.within; each = λ k d l. sym (e (get_or pieces k d)) ∙ i.each k d l }

same_rest : (f b g c : ℕ) → f + b ≡ g + c → (p : MCtor) → has_piece (RowCtor (LongerShape f b)) p ≡ has_piece (RowCtor (LongerShape g c)) p
same_rest f b g c e (RowCtor (FixedShape n)) = ap (λ m. nat_le m n) e
same_rest f b g c e (RowCtor (LongerShape i j)) = ap (λ m. nat_le m (i + j)) e
same_rest f b g c e _ = refl

-- what is kept at a place of a table
at_place : {A : Type 0} (xs : List (Option A)) (k n : ℕ) (x y : A) → get_or (set xs k (Some x)) n None ≡ Some y → ((k ≡ n) × (x ≡ y)) ⊎ (get_or xs n None ≡ Some y)
at_place xs k n x y e = elim (cases_lt k (length xs)) [
  | inl within ↦ elim (cases_eq n k) [
    | inl same ↦ inl (sym same, inside (sym (get_or-set_same xs k (Some x) None within) ∙ ap (λ j. get_or (set xs k (Some x)) j None) (sym same) ∙ e))
    | inr other ↦ inr (sym (get_or-set_other xs k n (Some x) None other) ∙ e)
  ]
  | inr past ↦ inr (ap (λ ys. get_or ys n None) (sym (set_past xs k (Some x) past)) ∙ e)
]
  where
    inside : Some x ≡ Some y → x ≡ y
    inside h = cc

pub more_known : (pieces : List MCtor) (c : MCtor) (s : Span) (old new : Known) → AreKnown pieces old → IsSpan pieces c (plain_span s) → Keeps c s old new → AreKnown pieces new
more_known pieces (RowCtor (FixedShape m)) s old new all is k (RowCtor (FixedShape n)) t e =
    elim (at_place old.fixed.items m n s t (ap (λ (xs : List (Option Span)). get_or xs n None) (sym k.0) ∙ e)) [
      | inl same ↦ subst (λ (x : Span). IsSpan pieces (RowCtor (FixedShape n)) (plain_span x)) same.1 (subst (λ j. IsSpan pieces (RowCtor (FixedShape j)) (plain_span s)) same.0 is)
      | inr before ↦ all (RowCtor (FixedShape n)) t before
    ]
more_known pieces (RowCtor (FixedShape m)) s old new all is k (RowCtor (LongerShape f b)) t e =
    all (RowCtor (LongerShape f b)) t (ap (λ (xs : List (Option Span)). get_or xs (f + b) None) (sym k.1) ∙ e)
more_known pieces (RowCtor (LongerShape g c)) s old new all is k (RowCtor (FixedShape n)) t e =
    all (RowCtor (FixedShape n)) t (ap (λ (xs : List (Option Span)). get_or xs n None) (sym k.0) ∙ e)
more_known pieces (RowCtor (LongerShape g c)) s old new all is k (RowCtor (LongerShape f b)) t e =
    elim (at_place old.longer.items (g + c) (f + b) s t (ap (λ (xs : List (Option Span)). get_or xs (f + b) None) (sym k.1) ∙ e)) [
      | inl same ↦ subst (λ (x : Span). IsSpan pieces (RowCtor (LongerShape f b)) (plain_span x)) same.1
          (same_span pieces (RowCtor (LongerShape g c)) (RowCtor (LongerShape f b)) (plain_span s) (same_rest g c f b same.0) is)
      | inr before ↦ all (RowCtor (LongerShape f b)) t before
    ]
more_known pieces (RowCtor r) s old new all is k h t e = absurd (none e)
  where
    none : None ≡ Some t → ⊥
    none e = cc
more_known pieces _ s old new all is k h t e = all h t (subst (λ (x : Known). known_of x h ≡ Some t) k e)

-- of nothing that is kept nothing is known
pub nothing_known : (k : Known) → ((n : ℕ) → get_or k.fixed.items n None ≡ None) → ((n : ℕ) → get_or k.longer.items n None ≡ None) → (h : MCtor) → known_of k h ≡ None
nothing_known k f l (RowCtor (FixedShape n)) = f n
nothing_known k f l (RowCtor (LongerShape g c)) = l (g + c)
nothing_known k f l _ = refl

pub none_known : (pieces : List MCtor) (k : Known) → ((h : MCtor) → known_of k h ≡ None) → AreKnown pieces k
none_known pieces k e h s i = absurd (none (sym (e h) ∙ i))
  where
    none : None ≡ Some s → ⊥
    none e = cc

-- a place more of a table in which nothing is kept
pub one_nothing : {A : Type 0} (xs : List (Option A)) (n : ℕ) → ((k : ℕ) → get_or xs k None ≡ None) → get_or (xs ++ None ∷ []) n None ≡ None
one_nothing [] zero e = refl
one_nothing [] (suc n) e = refl
one_nothing (x ∷ xs) zero e = e zero
one_nothing (x ∷ xs) (suc n) e = one_nothing xs n (λ k. e (suc k))
