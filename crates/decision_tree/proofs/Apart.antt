-- Columns without a constructor, and rows without an or-pattern in a column.
use Rattle.std.proofs.Common.{◌≡◌, ◌<◌, ◌⊎◌, inl, inr, ℕ, zero, suc, Bool, true, false, not, ◌&&◌, List, [], ◌∷◌, ◌++◌, map, drop, length, append-nil, Some, None, refl, sym, ap, ◌∙◌, subst, arith, true≢false, ◌==◌}
use Rattle.std.specs.List.{cons_option}
use Rattle.std.proofs.lemmas.Bool.Decides.{nat_tests}
use Rattle.std.proofs.lemmas.List.Elements.{All-head, All-tail}
use Rattle.match_model.specs.ArenaPatterns.{de_pat}
use Rattle.match_model.specs.Constructors.{MCtor, WildCtor, OrCtor, SingleCtor, PointCtor, LaterCtor, OtherTextCtor, VariantCtor, FlagCtor, NumbersCtor, TextCtor, RowCtor}
use Rattle.match_model.specs.Keys.{Decision}
use Rattle.match_model.specs.Lists.{Ordered}
use Rattle.match_model.specs.Lowering.{ctors_at, all_wild_at}
use Rattle.match_model.specs.Matrices.{MRow}
use Rattle.match_model.specs.Places.{MStep}
use Rattle.match_model.specs.RowOrder.{AreInOrder}
use Rattle.match_model.specs.Rows.{Head, Choice, choices_by, first_ctor, is_or_ctor, starts_or, starts_wild}
use Rattle.match_model.specs.Steps.{expand_head, with_head, with_others, replacements_at, row_replaced, rows_at}
use Rattle.keyed_rows.specs.Parting.{RowParted}
use Rattle.keyed_matrix.specs.Steps.{AreLonger, are_apart}
use Rattle.decision_tree.proofs.StillInOrder.{all-first}

pub none-of : {A : Type 0} (xs : List A) → length xs ≡ 0 → xs ≡ []
none-of [] e = refl
none-of (x ∷ xs) e = absurd (omega (arith, e))

pub some-of : {A : Type 0} (xs : List A) → 0 < length xs → ¬ (xs ≡ [])
some-of [] l e = omega (arith, l)
some-of (x ∷ xs) l e = cc

-- a list that is told to be empty has no length, and one that is told not to be has one
pub zero-long : (told : Bool) (n : ℕ) → told ≡ (n == 0) → told ≡ true → n ≡ 0
zero-long told n e t = grind (arith, nat_tests)

pub some-long : (told : Bool) (n : ℕ) → told ≡ (n == 0) → told ≡ false → 0 < n
some-long told n e t = grind (arith, nat_tests)

pub none-mapped : {A B : Type 0} (f : A → B) (xs : List A) → map f xs ≡ [] → xs ≡ []
none-mapped f [] e = refl
none-mapped f (x ∷ xs) e = cc

both-true : (a b : Bool) → (not a && b) ≡ true → (a ≡ false) × (b ≡ true)
both-true false true e = (refl, refl)
both-true false false e = absurd (true≢false (sym e))
both-true true b e = absurd (true≢false (sym e))

module _ {T : Type 0} where
  -- a wildcard has no constructor, and all else has one
  wild-unless : (hs : List (Head T)) → ((starts_wild hs ≡ true) × (first_ctor hs ≡ None))
      ⊎ ((starts_wild hs ≡ false) × ((k : MCtor) × (first_ctor hs ≡ Some k)))
  wild-unless [] = inl (refl, refl)
  wild-unless (None ∷ hs) = inl (refl, refl)
  wild-unless (Some (de_pat WildCtor t uid at subs binds) ∷ hs) = inl (refl, refl)
  wild-unless (Some (de_pat OrCtor t uid at subs binds) ∷ hs) = inr (refl, (OrCtor, refl))
  wild-unless (Some (de_pat SingleCtor t uid at subs binds) ∷ hs) = inr (refl, (SingleCtor, refl))
  wild-unless (Some (de_pat PointCtor t uid at subs binds) ∷ hs) = inr (refl, (PointCtor, refl))
  wild-unless (Some (de_pat LaterCtor t uid at subs binds) ∷ hs) = inr (refl, (LaterCtor, refl))
  wild-unless (Some (de_pat OtherTextCtor t uid at subs binds) ∷ hs) = inr (refl, (OtherTextCtor, refl))
  wild-unless (Some (de_pat (VariantCtor x) t uid at subs binds) ∷ hs) = inr (refl, (VariantCtor x, refl))
  wild-unless (Some (de_pat (FlagCtor x) t uid at subs binds) ∷ hs) = inr (refl, (FlagCtor x, refl))
  wild-unless (Some (de_pat (NumbersCtor x) t uid at subs binds) ∷ hs) = inr (refl, (NumbersCtor x, refl))
  wild-unless (Some (de_pat (TextCtor x) t uid at subs binds) ∷ hs) = inr (refl, (TextCtor x, refl))
  wild-unless (Some (de_pat (RowCtor x) t uid at subs binds) ∷ hs) = inr (refl, (RowCtor x, refl))

  -- a column without constructors is wild
  pub all-wild : (i : ℕ) (rows : List (MRow T)) → ctors_at i rows ≡ [] → all_wild_at i rows ≡ true
  all-wild i [] e = refl
  all-wild i (r ∷ rows) e = go (all-wild i rows) (wild-unless (drop i r.heads))
    where
      go : (ctors_at i rows ≡ [] → all_wild_at i rows ≡ true) → ((starts_wild (drop i r.heads) ≡ true) × (first_ctor (drop i r.heads) ≡ None))
          ⊎ ((starts_wild (drop i r.heads) ≡ false) × ((k : MCtor) × (first_ctor (drop i r.heads) ≡ Some k))) →
          all_wild_at i (r ∷ rows) ≡ true
      go below (inl h) =
          ap (λ b. b && all_wild_at i rows) h.0
          ∙ below (sym (ap (λ o. cons_option o (ctors_at i rows)) h.1) ∙ e)
      go below (inr h) =
          let bad : h.1.0 ∷ ctors_at i rows ≡ [] = sym (ap (λ o. cons_option o (ctors_at i rows)) h.1.1) ∙ e in cc

  -- and no other column
  pub some-open : (i : ℕ) (rows : List (MRow T)) → ¬ (ctors_at i rows ≡ []) → all_wild_at i rows ≡ false
  some-open i [] n = absurd (n refl)
  some-open i (r ∷ rows) n = go (some-open i rows) (wild-unless (drop i r.heads))
    where
      go : (¬ (ctors_at i rows ≡ []) → all_wild_at i rows ≡ false) → ((starts_wild (drop i r.heads) ≡ true) × (first_ctor (drop i r.heads) ≡ None))
          ⊎ ((starts_wild (drop i r.heads) ≡ false) × ((k : MCtor) × (first_ctor (drop i r.heads) ≡ Some k))) →
          all_wild_at i (r ∷ rows) ≡ false
      go below (inl h) =
          ap (λ b. b && all_wild_at i rows) h.0
          ∙ below (λ e. n (ap (λ o. cons_option o (ctors_at i rows)) h.1 ∙ e))
      go below (inr h) = ap (λ b. b && all_wild_at i rows) h.0

  -- ---- rows without an or-pattern in the column are not changed when it is expanded

  alone : (c : MCtor) (alternatives self : List (Choice T)) → is_or_ctor c ≡ false → choices_by c alternatives self ≡ self
  alone OrCtor a s h = cc
  alone _ a s h = refl

  expand-plain : (h : Head T) (hs : List (Head T)) → starts_or (h ∷ hs) ≡ false →
      expand_head h ≡ record { heads = h ∷ []; chosen = []; binds = [] } ∷ []
  expand-plain None hs e = refl
  expand-plain (Some (de_pat c t uid at subs binds)) hs e =
      ap (map (λ (x : Choice T). record { heads = Some x.pat ∷ []; chosen = x.chosen; binds = x.binds }))
      (alone c _ (record { pat = de_pat c t uid at subs binds; chosen = []; binds = [] } ∷ []) e)

  plain-at : (i : ℕ) (hs : List (Head T)) → i < length hs → starts_or (drop i hs) ≡ false →
      replacements_at expand_head i hs ≡ record { heads = hs; chosen = []; binds = [] } ∷ []
  plain-at i [] l e = absurd (omega (arith, l))
  plain-at zero (h ∷ hs) l e = ap (map (with_others hs)) (expand-plain h hs e)
  plain-at (suc i) (h ∷ hs) l e = ap (map (with_head h)) (plain-at i hs (omega (arith, l)) e)

  same-row : (place : List MStep) (r : MRow T) →
      row_replaced place r (record { heads = r.heads; chosen = []; binds = [] }) ≡ r
  same-row place r = rw (append-nil r.chosen, append-nil r.caught) refl

  pub apart-rows : (place : List MStep) (i : ℕ) (rows : List (MRow T)) → AreLonger i rows → are_apart i rows ≡ true →
      rows_at expand_head place i rows ≡ rows
  apart-rows place i [] l e = refl
  apart-rows place i (r ∷ rows) l e =
      let b = both-true (starts_or (drop i r.heads)) (are_apart i rows) e in
      ap (λ ys. map (row_replaced place r) ys ++ rows_at expand_head place i rows)
      (plain-at i r.heads (All-head (λ (x : MRow T). i < length x.heads) r rows l) b.0)
      ∙ ap (λ x. x ∷ rows_at expand_head place i rows) (same-row place r)
      ∙ ap (λ rs. r ∷ rs) (apart-rows place i rows (All-tail (λ (x : MRow T). i < length x.heads) r rows l) b.1)

  -- and they are in order
  pub apart-order : (decides : ℕ → Decision) (place : List MStep) (i : ℕ) (rows : List (MRow T)) → AreLonger i rows →
      are_apart i rows ≡ true → Ordered (RowParted decides) rows → AreInOrder decides (rows_at expand_head place i rows) rows
  apart-order decides place i rows l e o =
      subst (λ rs. AreInOrder decides rs rows) (sym (apart-rows place i rows l e)) (record {
        same = record { forth = λ x a. a; back = λ x a. a };
        ordered = all-first decides rows o;
      })
