-- A search begins with the rows of a match, and ends with what it promises.
use Rattle.std.proofs.Common.{◌≡◌, ◌⊎◌, inl, inr, ◌<◌, ℕ, suc, Bool, true, false, List, [], ◌∷◌, ◌++◌, length, cond, Some, refl, ap, sym, ◌∙◌, arith}
use Rattle.std.proofs.lemmas.List.Elements.{All-nil, All-cons}
use Rattle.std.specs.List.{All, Contains}
use Rattle.match_model.specs.Values.{MValue}
use Rattle.match_model.specs.Contexts.{Context}
use Rattle.match_model.specs.ArenaPatterns.{MDeArm, MDeMatch}
use Rattle.match_model.specs.Rows.{is_wild}
use Rattle.match_model.specs.Matrices.{first_rows}
use Rattle.match_model.proofs.Basics.{untrue}
use Rattle.pattern_matrix.specs.Sparse.{bare_head}
use Rattle.pattern_matrix.specs.Starting.{starting_row, starting_rows}
use Rattle.pattern_matrix.specs.Counting.{Question, WantedRow, counts, all_wanted, row_behind, to_arm, through_alternative}
use Rattle.pattern_matrix.specs.Searching.{Submatrix, weight_of, IsFit, Comes, IsAccounted, IsSearch, StandFor, first_submatrix}
use Rattle.pattern_matrix.specs.SearchLaws.{IsReached}
use Rattle.pattern_matrix.proofs.HandingOn.{here, in_cons}
use Rattle.pattern_matrix.proofs.ListedRows.{part_weighs}
use Rattle.pattern_matrix.proofs.SearchSteps.{ends, values_long}
use Rattle.pattern_matrix.proofs.FirstTold.{first_tells}
use Rattle.usefulness.specs.Frames.{asked_view, asked_views, sub_view, IsHeadIn, IsRowIn}
use Rattle.usefulness.specs.Children.{bare_wanted, bare_rows, bare_sub}
use Rattle.usefulness.specs.Listing.{IsListedAs}
use Rattle.usefulness.specs.Starting.{wanted_all, behind_row, asked_from}
use Rattle.usefulness.proofs.BareRows.{comes_bare, comes_named}
use Rattle.usefulness.proofs.Looking.{stood_fit, stood_back}
use Rattle.usefulness.specs.Scope.{Scope, patterns_of}

module _ {T : Type 0} (IsType : T → Type 0) (IsValue : T → Bool → MValue → Type 0) (cx : Context T) where
  -- once the rows of a submatrix were listed and nothing was marked before
  pub search_begins : (first : Submatrix T) (now : Question → Bool) (new : List (Submatrix T)) → IsFit IsType IsValue cx first → IsListedAs IsValue (λ q. false) now first new →
      IsSearch IsType IsValue cx first now new []
  search_begins first now new f a = record {
    right = λ q m. elim (a.right q m) [ inl e ↦ untrue e | inr c ↦ c ];
    fit = λ s i. let (n, j, e, d) = a.listed.of_left s i in in_cons first n [] (λ z. (s.places ≡ z.places) → StandFor now (length z.places) z.rows s.rows → IsFit IsType IsValue cx s) (λ e d. stood_fit IsType IsValue cx now first s f e d) (λ z (k, l, g). absurd (omega (arith, l))) j e d;
    back = λ s i q c. let (n, j, e, d) = a.listed.of_left s i in in_cons first n [] (λ z. (s.places ≡ z.places) → StandFor now (length z.places) z.rows s.rows → Comes IsValue q first) (λ e d. stood_back IsType IsValue cx now first s e d q c) (λ z (k, l, g). absurd (omega (arith, l))) j e d;
    on = λ q c. accounted q c (a.listed.each first (here first []));
    told = λ s (k, l, e). absurd (omega (arith, l));
  }
    where
      accounted : (q : Question) → Comes IsValue q first →
          (rows : List (WantedRow T)) × StandFor now (length first.places) first.rows rows × (Contains new (record { places = first.places; rows = rows }) ⊎ (rows ≡ [])) →
          IsAccounted IsValue now new q (suc (weight_of first))
      accounted q (vs, b, c) (rows, d, h) = elim (d.on q vs (values_long IsValue first.places vs b) c) [
        | inl m ↦ inl m
        | inr e ↦ elim h [
          | inl i ↦ inr (record { places = first.places; rows = rows }, i, (let w = part_weighs rows first.rows d.part in omega (arith, w)), (vs, b, e))
          | inr z ↦ untrue (sym (ap (λ (xs : List (WantedRow T)). counts q xs vs) z) ∙ e)
        ]
      ]

  -- where nothing is to be looked at any more
  pub search_ends : (m : MDeMatch T) (now : Question → Bool) (seen : List (Submatrix T)) → IsSearch IsType IsValue cx (bare_sub (first_submatrix m)) now [] seen → IsReached IsValue m now
  search_ends m now seen s = (first_tells IsType IsValue cx).reached m now (λ q.
      let e = ends IsType IsValue cx (bare_sub (first_submatrix m)) now seen s q in
      ((λ k. comes_named IsType IsValue cx q (first_submatrix m) (e.0 k)), (λ c. e.1 (comes_bare IsType IsValue cx q (first_submatrix m) c))))

  -- where the scrutinee has no value nothing is reached
  pub none_reached : (m : MDeMatch T) (now : Question → Bool) → ((v : MValue) → ¬ IsValue m.type m.sure v) → ((q : Question) → now q ≡ false) → IsReached IsValue m now
  none_reached m now n f = record {
    exact = record {
      arm = λ j l. ((λ e. untrue (sym (f (to_arm j)) ∙ e)), (λ (v, d, c). absurd (n v d)));
      alternative = λ j id l. ((λ e. untrue (sym (f (through_alternative j id)) ∙ e)), (λ (v, d, c). absurd (n v d)));
    };
    behind = λ e v d u. absurd (n v d);
    behind_too = λ h e. f (to_arm (length m.arms));
  }

-- the rows that a search begins with are those of the arms, and the one behind

row_starts : {T : Type 0} (i : ℕ) (a : MDeArm T) →
    asked_view (0 ∷ []) (record { row = starting_row i a; wanted = true }) ≡ bare_wanted (record { row = record { heads = Some a.pat ∷ []; arm = i; guarded = a.guarded; chosen = []; caught = [] }; wanted = true })
row_starts {T} i a = go (is_wild (Some a.pat)) refl
  where
    go : (b : Bool) → is_wild (Some a.pat) ≡ b →
        asked_view (0 ∷ []) (record { row = record { heads = cond b [] ((0, a.pat) ∷ []); arm = i; guarded = a.guarded; chosen = [] }; wanted = true })
        ≡ record { row = record { heads = bare_head (Some a.pat) ∷ []; arm = i; guarded = a.guarded; chosen = []; caught = [] }; wanted = true }
    go true e = rw e refl
    go false e = refl

rows_start : {T : Type 0} (behind i : ℕ) (arms : List (MDeArm T)) →
    asked_views (0 ∷ []) (wanted_all (starting_rows i arms ++ behind_row behind ∷ [])) ≡ bare_rows (all_wanted (first_rows i arms ++ row_behind behind ∷ []))
rows_start behind i [] = refl
rows_start behind i (a ∷ arms) =
    ap (λ x. x ∷ asked_views (0 ∷ []) (wanted_all (starting_rows (suc i) arms ++ behind_row behind ∷ []))) (row_starts i a)
    ∙ ap (λ ys. bare_wanted (record { row = record { heads = Some a.pat ∷ []; arm = i; guarded = a.guarded; chosen = []; caught = [] }; wanted = true }) ∷ ys) (rows_start behind (suc i) arms)

pub first_view : {T : Type 0} (m : MDeMatch T) → sub_view ((0, record { type = m.type; sure = m.sure }) ∷ []) (asked_from m.arms) ≡ bare_sub (first_submatrix m)
first_view m = ap (λ ys. record { places = record { type = m.type; sure = m.sure } ∷ []; rows = ys }) (rows_start (length m.arms) 0 m.arms)

-- they are of these arms, and over the one column
pub row_starts_in : {T : Type 0} (scope : Scope T) (i : ℕ) (a : MDeArm T) → i < scope.arms → Contains (patterns_of scope.written) a.pat → IsRowIn scope (0 ∷ []) (record { row = starting_row i a; wanted = true })
row_starts_in {T} scope i a l k = record { arm = l; heads = go (is_wild (Some a.pat)) refl }
  where
    go : (b : Bool) → is_wild (Some a.pat) ≡ b → All (IsHeadIn scope (0 ∷ [])) (cond b [] ((0, a.pat) ∷ []))
    go true e = All-nil (IsHeadIn scope (0 ∷ []))
    go false e = All-cons (IsHeadIn scope (0 ∷ [])) (0, a.pat) [] (record { column = here 0 []; sharp = e; known = k }) (All-nil (IsHeadIn scope (0 ∷ [])))
