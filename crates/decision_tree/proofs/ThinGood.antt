-- Rows without wildcards that bind nothing are as well formed, as parted and as much of the match as with them.
use Rattle.std.proofs.Common.{◌≡◌, ◌⊎◌, inl, inr, ℕ, ◌+◌, ◌&&◌, List, [], ◌∷◌, ◌++◌, map, refl, sym, ap, ◌∙◌, subst}
use Rattle.std.specs.List.{flat_map}
use Rattle.match_model.specs.ArenaPatterns.{MDeMatch}
use Rattle.match_model.specs.Contexts.{Context}
use Rattle.match_model.specs.Keys.{Decision, Key}
use Rattle.match_model.specs.Lists.{Every, Ordered}
use Rattle.match_model.specs.Matrices.{MColumn, MRow}
use Rattle.match_model.specs.RowOrder.{row_key}
use Rattle.match_model.specs.Rows.{Head}
use Rattle.match_model.specs.WellTyped.{are_apart, IsHeadTyped, AreHeadsTyped, head_names, head_names_differ, heads_names_differ}
use Rattle.keyed_rows.proofs.Lists.{every-map, ordered-map}
use Rattle.keyed_rows.specs.Dividing.{head_count, IsHeadNumbered, IsOpen, AreFree, IsAbove}
use Rattle.keyed_rows.specs.Parting.{AreAlike, RowParted}
use Rattle.keyed_steps.specs.Good.{IsMadeHead, IsGoodRow, IsGood}
use Rattle.decision_tree.specs.Thin.{thin_head, thin_row, thin_rows}
use Rattle.decision_tree.specs.Known.{IsHeadOf, IsInScope}
use Rattle.decision_tree.proofs.ThinHeads.{thin-same, thin-keeps, every-thin}

module _ {T : Type 0} where
  names-thin : (h : Head T) → head_names (thin_head h) ≡ head_names h
  names-thin = thin-same head_names (λ t uid at. refl)

  all-names : (hs : List (Head T)) → flat_map head_names (map thin_head hs) ≡ flat_map head_names hs
  all-names [] = refl
  all-names (h ∷ hs) = λ k. names-thin h k ++ all-names hs k

  differ-thin : (caught : List (List ℕ)) (hs : List (Head T)) →
      heads_names_differ caught (map thin_head hs) ≡ heads_names_differ caught hs
  differ-thin caught [] = refl
  differ-thin caught (h ∷ hs) =
      λ k. thin-same head_names_differ (λ t uid at. refl) h k
      && (are_apart caught (names-thin h k) && (are_apart (names-thin h k) (all-names hs k) && differ-thin caught hs k))

  typed-thin : (cx : Context T) (columns : List (MColumn T)) (hs : List (Head T)) → AreHeadsTyped cx columns hs →
      AreHeadsTyped cx columns (map thin_head hs)
  typed-thin cx [] [] t = tt
  typed-thin cx [] (h ∷ hs) t = t
  typed-thin cx (c ∷ columns) [] t = t
  typed-thin cx (c ∷ columns) (h ∷ hs) t =
      (thin-keeps (IsHeadTyped cx c.type) tt h t.0, typed-thin cx columns hs t.1)

  module _ (decides : ℕ → Decision) where
    free-thin : (k : Key) (low : ℕ) (hs : List (Head T)) → AreFree decides k low hs →
        AreFree decides k low (map thin_head hs)
    free-thin k low [] f = tt
    free-thin k low (h ∷ hs) f =
        let e : head_count (thin_head h) ≡ head_count h = thin-same head_count (λ t uid at. refl) h in (
          f.0,
          f.1,
          thin-keeps (IsHeadNumbered decides f.0) tt h f.2,
          subst (λ n. IsOpen k f.0 (n + f.0)) (sym e) f.3,
          subst (λ n. AreFree decides k (n + f.0) (map thin_head hs)) (sym e) (free-thin k (head_count h + f.0) hs f.4),
        )

    alike-thin : (d : ℕ) (hs gs : List (Head T)) → AreAlike decides d hs gs →
        AreAlike decides d (map thin_head hs) (map thin_head gs)
    alike-thin d [] [] a = tt
    alike-thin d [] (g ∷ gs) a = a
    alike-thin d (h ∷ hs) [] a = a
    alike-thin d (h ∷ hs) (g ∷ gs) a = (one a.0, alike-thin d hs gs a.1)
      where
        above : (x : Head T) → IsAbove decides d x → IsAbove decides d (thin_head x)
        above x b = (b.0, b.1, thin-keeps (IsHeadNumbered decides b.0) tt x b.2)

        one : (h ≡ g) ⊎ (IsAbove decides d h × IsAbove decides d g) →
            (thin_head h ≡ thin_head g) ⊎ (IsAbove decides d (thin_head h) × IsAbove decides d (thin_head g))
        one (inl e) = inl (ap thin_head e)
        one (inr b) = inr (above h b.0, above g b.1)

    -- rows are parted as they were
    pub parted-thin : (rows : List (MRow T)) → Ordered (RowParted decides) rows →
        Ordered (RowParted decides) (thin_rows rows)
    parted-thin rows o = ordered-map (RowParted decides) (RowParted decides) thin_row rows one o
      where
        one : (r s : MRow T) → RowParted decides r s → RowParted decides (thin_row r) (thin_row s)
        one r s (inl l) = inl l
        one r s (inr p) =
            inr (p.0, record { before = p.1.before; alike = alike-thin p.1.before.at r.heads s.heads p.1.alike })

    -- they are well formed
    pub good-thin : (IsType : T → Type 0) (cx : Context T) (columns : List (MColumn T)) (rows : List (MRow T)) →
        IsGood IsType cx decides columns rows → IsGood IsType cx decides columns (thin_rows rows)
    good-thin IsType cx columns rows g = record {
      columns_are = g.columns_are;
      rows_are = every-map (IsGoodRow cx decides columns) (IsGoodRow cx decides columns) thin_row rows one g.rows_are;
    }
      where
        one : (r : MRow T) → IsGoodRow cx decides columns r → IsGoodRow cx decides columns (thin_row r)
        one r h = record {
          typed = typed-thin cx columns r.heads h.typed;
          names = differ-thin (map (λ b. b.name) r.caught) r.heads ∙ h.names;
          free = free-thin (row_key decides r) 0 r.heads h.free;
          made = every-thin IsMadeHead tt r.heads h.made;
        }

  -- they are within the match
  pub scope-thin : (cx : Context T) (m : MDeMatch T) (columns : List (MColumn T)) (rows : List (MRow T)) →
      IsInScope cx m columns rows → IsInScope cx m columns (thin_rows rows)
  scope-thin cx m columns rows s = record {
    columns_are = s.columns_are;
    rows_are =
        every-map (λ r. Every (IsHeadOf m.arms) r.heads) (λ r. Every (IsHeadOf m.arms) r.heads) thin_row rows
        (λ r h. every-thin (IsHeadOf m.arms) tt r.heads h) s.rows_are;
  }
