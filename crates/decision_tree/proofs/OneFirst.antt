-- Of any two rows that a step makes one comes first.
use Rattle.std.proofs.Common.{◌≡◌, inl, inr, ℕ, List, [], ◌∷◌, map, refl, sym, subst}
use Rattle.match_model.specs.Keys.{Decision, both_keys, IsBefore}
use Rattle.match_model.specs.Lists.{Every, Ordered, Among}
use Rattle.match_model.specs.Matrices.{MRow}
use Rattle.match_model.specs.Places.{MStep}
use Rattle.match_model.specs.RowOrder.{row_key}
use Rattle.match_model.specs.Rows.{Head}
use Rattle.match_model.specs.Steps.{Replacement, replacements_at, row_replaced, rows_at}
use Rattle.keyed_rows.specs.Dividing.{AreFree, GoodAt, Divides, replacement_key}
use Rattle.keyed_rows.specs.Parting.{IsParted, RowParted}
use Rattle.keyed_rows.proofs.Lists.{every-append, ordered-append, ordered-map}
use Rattle.keyed_rows.proofs.Parting.{StillEither, row-divided, rows-parted, among-map}
use Rattle.keyed_rows.proofs.RowOrder.{every-among, key-of-row}
use Rattle.keyed_matrix.specs.Turns.{IsOneFirst}

module _ {T : Type 0} (decides : ℕ → Decision) (Good : Head T → Type 0) (width : ℕ)
    (f : Head T → List (Replacement T)) (divides : Divides decides Good width f) (place : List MStep) (i : ℕ) where
  abbrev IsFree : MRow T → Type 0
  IsFree r = AreFree decides (row_key decides r) 0 r.heads

  abbrev made_of : MRow T → List (MRow T)
  made_of r = map (row_replaced place r) (replacements_at f i r.heads)

  turned : (r s : MRow T) (y z : Replacement T) →
      IsBefore (both_keys (row_key decides r) (replacement_key decides y))
      (both_keys (row_key decides s) (replacement_key decides z)) →
      IsBefore (row_key decides (row_replaced place r y)) (row_key decides (row_replaced place s z))
  turned r s y z b =
      subst (λ k. IsBefore k (row_key decides (row_replaced place s z))) (sym (key-of-row decides place r y))
      (subst (λ k. IsBefore (both_keys (row_key decides r) (replacement_key decides y)) k)
      (sym (key-of-row decides place s z)) b)

  -- of one row
  within : (r : MRow T) → GoodAt Good i r.heads → IsFree r → Ordered (IsOneFirst decides) (made_of r)
  within r good free =
      ordered-map (λ y z. IsParted decides (both_keys (row_key decides r) (replacement_key decides y)) y.heads
      (both_keys (row_key decides r) (replacement_key decides z)) z.heads) (IsOneFirst decides) (row_replaced place r)
      (replacements_at f i r.heads) (λ y z p. inl (inr (refl, turned r r y z p.before)))
      (row-divided decides Good width f divides (row_key decides r) 0 i r.heads good free)

  -- of two rows
  across : (r s : MRow T) → GoodAt Good i r.heads → GoodAt Good i s.heads → IsFree r → RowParted decides r s →
      (x z : MRow T) → Among x (made_of r) → Among z (made_of s) → IsOneFirst decides x z
  across r s good other free p x z a b =
      let m = among-map (row_replaced place r) (replacements_at f i r.heads) x a in
      let n = among-map (row_replaced place s) (replacements_at f i s.heads) z b in
      subst (λ w. IsOneFirst decides w z) (sym m.2)
      (subst (λ w. IsOneFirst decides (row_replaced place r m.0) w) (sym n.2) (go p m.0 n.0 m.1 n.1))
    where
      still : (y w : Replacement T) → (r.arm ≡ s.arm) → (l : ℕ) →
          StillEither decides l (both_keys (row_key decides r) (replacement_key decides y)) y.heads
          (both_keys (row_key decides s) (replacement_key decides w)) w.heads →
          IsOneFirst decides (row_replaced place r y) (row_replaced place s w)
      still y w e l (inl q) = inl (inr (e, turned r s y w q.parted.before))
      still y w e l (inr q) = inr (inr (sym e, turned s r w y q.parted.before))

      go : RowParted decides r s → (y w : Replacement T) → Among y (replacements_at f i r.heads) →
          Among w (replacements_at f i s.heads) → IsOneFirst decides (row_replaced place r y) (row_replaced place s w)
      go (inl l) y w j k = inl (inl l)
      go (inr q) y w j k =
          still y w q.0 q.1.before.at
          (rows-parted decides Good width f divides (row_key decides r) (row_key decides s) q.1.before 0 i r.heads
          s.heads y w good other free q.1.alike j k)

  all-across : (r x : MRow T) → GoodAt Good i r.heads → IsFree r → Among x (made_of r) → (rows : List (MRow T)) →
      Every (λ s. GoodAt Good i s.heads) rows → Every (RowParted decides r) rows →
      Every (IsOneFirst decides x) (rows_at f place i rows)
  all-across r x good free a [] g p = tt
  all-across r x good free a (s ∷ rows) g p =
      every-append (IsOneFirst decides x) (made_of s) (rows_at f place i rows)
      (every-among (IsOneFirst decides x) (made_of s) (λ z b. across r s good g.0 free p.0 x z a b))
      (all-across r x good free a rows g.1 p.1)

  -- of all rows
  pub one-first : (rows : List (MRow T)) → Every (λ r. GoodAt Good i r.heads) rows → Every IsFree rows →
      Ordered (RowParted decides) rows → Ordered (IsOneFirst decides) (rows_at f place i rows)
  one-first [] good free o = tt
  one-first (r ∷ rows) good free o =
      ordered-append (IsOneFirst decides) (made_of r) (rows_at f place i rows) (within r good.0 free.0)
      (one-first rows good.1 free.1 o.1)
      (every-among (λ x. Every (IsOneFirst decides x) (rows_at f place i rows)) (made_of r)
      (λ x a. all-across r x good.0 free.0 a rows good.1 o.0))
