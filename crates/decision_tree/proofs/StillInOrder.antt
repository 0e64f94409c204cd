-- Rows that stay, each at most once and with what it decided, are in order still.
use Rattle.std.proofs.Common.{◌≡◌, ◌⊎◌, inl, inr, ℕ, zero, suc, Bool, true, false, List, [], ◌∷◌, ◌++◌, map, append-nil, cond, Some, None, refl, sym, ap, ◌∙◌, subst}
use Rattle.match_model.specs.ArenaPatterns.{de_pat, de_pats_list}
use Rattle.match_model.specs.Constructors.{MCtor, has_piece}
use Rattle.match_model.specs.Keys.{Decision, key_of, IsBefore}
use Rattle.match_model.specs.Lists.{Every, Ordered}
use Rattle.match_model.specs.Matrices.{MRow}
use Rattle.match_model.specs.Places.{MStep}
use Rattle.match_model.specs.RowOrder.{row_key, RowFirst, AreInOrder}
use Rattle.match_model.specs.Rows.{Head, is_wild, wildcards, heads_of}
use Rattle.match_model.specs.Steps.{Replacement, own_binds, specialise_head, default_head, with_head, with_others, replacements_at, row_replaced, rows_at}
use Rattle.keyed_rows.proofs.Lists.{every-append, every-to}
use Rattle.keyed_rows.specs.Parting.{RowParted}

module _ {T : Type 0} where
  -- nothing, or one thing by which nothing is decided
  abbrev IsOneAtMost : List (Replacement T) → Type 0
  IsOneAtMost ys = (ys ≡ []) ⊎ ((y : Replacement T) × (ys ≡ y ∷ []) × (y.chosen ≡ []))

  -- where this step does so with each head, it does so with a row's heads
  one-at-most : (f : Head T → List (Replacement T)) → ((h : Head T) → IsOneAtMost (f h)) → (i : ℕ) (hs : List (Head T)) →
      IsOneAtMost (replacements_at f i hs)
  one-at-most f one i [] = inl refl
  one-at-most f one zero (h ∷ hs) = go (one h)
    where
      go : IsOneAtMost (f h) → IsOneAtMost (map (with_others hs) (f h))
      go (inl e) = inl (ap (map (with_others hs)) e)
      go (inr y) = inr (with_others hs y.0, ap (map (with_others hs)) y.1, y.2)
  one-at-most f one (suc i) (h ∷ hs) = go (one-at-most f one i hs)
    where
      go : IsOneAtMost (replacements_at f i hs) → IsOneAtMost (map (with_head h) (replacements_at f i hs))
      go (inl e) = inl (ap (map (with_head h)) e)
      go (inr y) = inr (with_head h y.0, ap (map (with_head h)) y.1, y.2)

  at-most : (b : Bool) (y : Replacement T) → y.chosen ≡ [] → IsOneAtMost (cond b (y ∷ []) [])
  at-most true y e = inr (y, refl, e)
  at-most false y e = inl refl

  drops-one : (h : Head T) → IsOneAtMost (default_head h)
  drops-one h = at-most (is_wild h) (record { heads = []; chosen = []; binds = own_binds h }) refl

  enters-one : (p : MCtor) (n : ℕ) (h : Head T) → IsOneAtMost (specialise_head p n h)
  enters-one p n None = inr (record { heads = wildcards n; chosen = []; binds = [] }, refl, refl)
  enters-one p n (Some (de_pat c t uid at subs binds)) =
      at-most (has_piece c p) (record { heads = heads_of c (map Some (de_pats_list subs)) n; chosen = []; binds = binds }) refl

  module _ (decides : ℕ → Decision) where
    -- parted rows are in order
    parted-first : (r s : MRow T) → RowParted decides r s → RowFirst decides r s
    parted-first r s (inl l) = inl l
    parted-first r s (inr p) = inr (p.0, p.1.before)

    pub all-first : (rows : List (MRow T)) → Ordered (RowParted decides) rows → Ordered (RowFirst decides) rows
    all-first [] o = tt
    all-first (r ∷ rows) o =
        (every-to (RowParted decides r) (RowFirst decides r) rows (parted-first r) o.0, all-first rows o.1)

    module _ (f : Head T → List (Replacement T)) (one : (h : Head T) → IsOneAtMost (f h)) (place : List MStep) (i : ℕ) where
      same-key : (r : MRow T) (y : Replacement T) → y.chosen ≡ [] →
          row_key decides r ≡ row_key decides (row_replaced place r y)
      same-key r y e =
          ap (λ us. key_of (map decides us)) (sym (ap (λ us. r.chosen ++ us) e ∙ append-nil r.chosen))

      still-first : (x r : MRow T) (y : Replacement T) → y.chosen ≡ [] → RowFirst decides x r →
          RowFirst decides x (row_replaced place r y)
      still-first x r y e (inl l) = inl l
      still-first x r y e (inr b) = inr (b.0, subst (λ k. IsBefore (row_key decides x) k) (same-key r y e) b.1)

      first-still : (x r : MRow T) (y : Replacement T) → y.chosen ≡ [] → RowFirst decides r x →
          RowFirst decides (row_replaced place r y) x
      first-still x r y e (inl l) = inl l
      first-still x r y e (inr b) = inr (b.0, subst (λ k. IsBefore k (row_key decides x)) (same-key r y e) b.1)

      -- what stays of rows comes after a row that came before them
      after-still : (x : MRow T) (rows : List (MRow T)) → Every (RowFirst decides x) rows →
          Every (RowFirst decides x) (rows_at f place i rows)
      after-still x [] o = tt
      after-still x (r ∷ rows) o =
          every-append (RowFirst decides x) (map (row_replaced place r) (replacements_at f i r.heads))
          (rows_at f place i rows) (go (replacements_at f i r.heads) (one-at-most f one i r.heads))
          (after-still x rows o.1)
        where
          go : (ys : List (Replacement T)) → IsOneAtMost ys → Every (RowFirst decides x) (map (row_replaced place r) ys)
          go ys (inl e) = subst (λ zs. Every (RowFirst decides x) (map (row_replaced place r) zs)) (sym e) tt
          go ys (inr y) =
              subst (λ zs. Every (RowFirst decides x) (map (row_replaced place r) zs)) (sym y.1)
              (still-first x r y.0 y.2 o.0, tt)

      ordered-still : (rows : List (MRow T)) → Ordered (RowFirst decides) rows →
          Ordered (RowFirst decides) (rows_at f place i rows)
      ordered-still [] o = tt
      ordered-still (r ∷ rows) o =
          go (replacements_at f i r.heads) (one-at-most f one i r.heads) (ordered-still rows o.1)
        where
          go : (ys : List (Replacement T)) → IsOneAtMost ys → Ordered (RowFirst decides) (rows_at f place i rows) →
              Ordered (RowFirst decides) (map (row_replaced place r) ys ++ rows_at f place i rows)
          go ys (inl e) rest =
              subst (λ zs. Ordered (RowFirst decides) (map (row_replaced place r) zs ++ rows_at f place i rows)) (sym e)
              rest
          go ys (inr y) rest =
              subst (λ zs. Ordered (RowFirst decides) (map (row_replaced place r) zs ++ rows_at f place i rows)) (sym y.1) (
                every-to (RowFirst decides r) (RowFirst decides (row_replaced place r y.0)) (rows_at f place i rows)
                    (λ x l. first-still x r y.0 y.2 l) (after-still r rows o.0),
                rest,
              )

      in-order : (rows : List (MRow T)) → Ordered (RowParted decides) rows →
          AreInOrder decides (rows_at f place i rows) (rows_at f place i rows)
      in-order rows o = record {
        same = record { forth = λ x a. a; back = λ x a. a };
        ordered = ordered-still rows (all-first rows o);
      }

    -- of parted rows those that are wild at a column
    pub dropped-in-order : (place : List MStep) (i : ℕ) (rows : List (MRow T)) → Ordered (RowParted decides) rows →
        AreInOrder decides (rows_at default_head place i rows) (rows_at default_head place i rows)
    dropped-in-order place i rows o = in-order default_head drops-one place i rows o

    -- and those of a piece
    pub entered-in-order : (p : MCtor) (n : ℕ) (place : List MStep) (i : ℕ) (rows : List (MRow T)) →
        Ordered (RowParted decides) rows →
        AreInOrder decides (rows_at (specialise_head p n) place i rows) (rows_at (specialise_head p n) place i rows)
    entered-in-order p n place i rows o = in-order (specialise_head p n) (enters-one p n) place i rows o
