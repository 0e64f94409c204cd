-- A search begins with the rows that were listed first.
use Rattle.std.proofs.Common.{◌≡◌, ◌≢◌, ◌<◌, inl, inr, ℕ, Bool, false, List, [], ◌∷◌, ◌++◌, take, ap, sym, subst, ◌∙◌, arith}
use Rattle.std.proofs.lemmas.List.Elements.{All-nil}
use Rattle.match_model.specs.Values.{MValue}
use Rattle.match_model.specs.Contexts.{Context, Open}
use Rattle.match_model.specs.ArenaPatterns.{MDeMatch}
use Rattle.pattern_matrix.specs.Counting.{Question}
use Rattle.pattern_matrix.specs.Searching.{Submatrix, IsFit, IsSearch, first_submatrix}
use Rattle.usefulness.specs.declared.frames.Listing.{Listing}
use Rattle.usefulness.specs.declared.frames.Reached.{Reached}
use Rattle.usefulness.specs.Children.{bare_sub}
use Rattle.usefulness.specs.Frames.{AreOpen, sub_view, subs_of}
use Rattle.usefulness.specs.Listing.{IsListedAs}
use Rattle.usefulness.specs.Scope.{Scope}
use Rattle.usefulness.specs.Starting.{asked_from}
use Rattle.usefulness.specs.States.{plain_askeds, IsListed, is_noted}
use Rattle.usefulness.proofs.BareRows.{fit_bare}
use Rattle.usefulness.proofs.Beginning.{search_begins, first_view}
use Rattle.usefulness.proofs.Listed.{listing_ends}

-- one is added where none is
pub one_pushed : {A : Type 0} {xs ys : List A} {x : A} → ys ≡ xs ++ x ∷ [] → xs ≡ [] → ys ≡ x ∷ []
one_pushed {x = x} e f = e ∙ ap (λ zs. zs ++ x ∷ []) f

-- the one column is open
pub first_open : AreOpen 1 (0 ∷ [])
first_open = (omega arith, All-nil (λ (x : ℕ). (x < 1) × (x ≢ 0)), tt)

module _ {T : Type 0} (IsType : T → Type 0) (IsValue : T → Bool → MValue → Type 0) (cx : Context T) where
  -- nothing was marked before
  none_before : (old now : Question → Bool) (s : Submatrix T) (new : List (Submatrix T)) → ((q : Question) → old q ≡ false) → IsListedAs IsValue old now s new → IsListedAs IsValue (λ q. false) now s new
  none_before old now s new none l = record {
    grow = λ q e. l.grow q (none q ∙ e);
    right = λ q m. elim (l.right q m) [ inl e ↦ inl (sym (none q) ∙ e) | inr c ↦ inr c ];
    listed = l.listed;
  }

  pub first_search : (scope : Scope T) (m : MDeMatch T) (old : Question → Bool) (now : Reached T) (l : Listing T) (new : List (Submatrix T)) → ((q : Question) → old q ≡ false) → IsFit IsType IsValue cx (first_submatrix m) →
      IsListed scope old now (0 ∷ []) (asked_from m.arms) l → new ≡ subs_of ((0, record { type = m.type; sure = m.sure }) ∷ []) (take l.end (plain_askeds l.rows.items)) →
      IsSearch IsType IsValue cx (bare_sub (first_submatrix m)) (is_noted now) new []
  first_search scope m old now l new none f i e =
      let shown : List (ℕ × Open T) = (0, record { type = m.type; sure = m.sure }) ∷ [] in
      let kept = plain_askeds l.rows.items in
      search_begins IsType IsValue cx (bare_sub (first_submatrix m)) (is_noted now) new (fit_bare IsType IsValue cx (first_submatrix m) f)
      (subst (λ s. IsListedAs IsValue (λ q. false) (is_noted now) s new) (first_view m)
      (subst (IsListedAs IsValue (λ q. false) (is_noted now) (sub_view shown (asked_from m.arms))) (sym e)
      (none_before old (is_noted now) (sub_view shown (asked_from m.arms)) (subs_of shown (take l.end kept)) none
      (listing_ends IsValue old (is_noted now) shown (asked_from m.arms) kept f.some l.closed l.end i.listed i.kept.end))))
