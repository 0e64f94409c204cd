-- What is known of a submatrix is so of one of the same words.
use Rattle.std.proofs.Common.{◌≡◌, ℕ, Bool, List, refl, sym, ◌∙◌}
use Rattle.std.specs.List.{All, Contains}
use Rattle.match_model.specs.Values.{MValue}
use Rattle.match_model.specs.ArenaPatterns.{MDeArm}
use Rattle.match_model.specs.Contexts.{Context}
use Rattle.pattern_matrix.specs.Searching.{Submatrix, IsFit, Comes}
use Rattle.usefulness.specs.declared.frames.Frame.{Frame}
use Rattle.usefulness.specs.Compact.{IsCompact}
use Rattle.usefulness.specs.Covering.{behind, scope_asked, IsKnown}
use Rattle.usefulness.specs.Frames.{SparseAsked, numbers, sub_view, IsHeadIn, IsRowIn}
use Rattle.usefulness.specs.Scope.{Scope, patterns_of}
use Rattle.usefulness.specs.States.{plain_opens, plain_askeds, frame_view, IsGood}
use Rattle.usefulness.specs.Told.{IsPinned}
use Rattle.usefulness.specs.Words.{AreNumbered, words}
use Rattle.usefulness.proofs.SameSubs.{all_got, whole_comes}
use Rattle.usefulness.proofs.Stepping.{every, compact_good, compact_fit, compact_used, compact_on, compact_back}

-- what follows for each submatrix is known where the first was
pub known_more : {T : Type 0} (IsType : T → Type 0) (IsValue : T → Bool → MValue → Type 0) (cx : Context T) (arms : List (MDeArm T)) (Holds Follows : Submatrix T → Type 0) (w : List ℕ) →
    ((s : Submatrix T) → Holds s → Follows s) → IsKnown IsType IsValue cx arms Holds w → IsKnown IsType IsValue cx arms Follows w
known_more IsType IsValue cx arms Holds Follows w f k = record {
  at = k.at;
  shown = k.shown;
  rows = k.rows;
  known = k.known;
  numbered = k.numbered;
  fit = k.fit;
  used = k.used;
  are = k.are;
  holds = f (sub_view k.shown k.rows) k.holds;
}

heads_known : {T : Type 0} (scope : Scope T) (columns : List ℕ) (xs : List (SparseAsked T)) → All (IsRowIn scope columns) xs → All (λ x. All (λ h. Contains columns h.0 × Contains (patterns_of scope.written) h.1) x.row.heads) xs
heads_known scope columns xs a = every (λ x. All (λ h. Contains columns h.0 × Contains (patterns_of scope.written) h.1) x.row.heads) xs (λ x i.
    every (λ h. Contains columns h.0 × Contains (patterns_of scope.written) h.1) x.row.heads (λ h j.
    let k = all_got (IsHeadIn scope columns) x.row.heads h (all_got (IsRowIn scope columns) xs x a i).heads j in
    (k.column, k.known)))

module _ {T : Type 0} (IsType : T → Type 0) (IsValue : T → Bool → MValue → Type 0) (cx : Context T) (arms : List (MDeArm T)) (f g : Frame T) (c : IsCompact f g) (good : IsGood (scope_asked arms) f) (fit : IsFit IsType IsValue cx (frame_view f))
    (at : ℕ → ℕ) (numbered : AreNumbered at 0 (numbers (plain_opens g.columns.items))) (w : List ℕ)
    (are : w ≡ words at (plain_opens g.columns.items) (plain_askeds g.rows.items)) where
  -- the words tell the compact rows
  pub known_itself : IsKnown IsType IsValue cx arms (λ s. s ≡ frame_view g) w
  known_itself = record {
    at = at;
    shown = plain_opens g.columns.items;
    rows = plain_askeds g.rows.items;
    known = (compact_good (scope_asked arms) f g c good).heads;
    numbered = numbered;
    fit = compact_fit (scope_asked arms) IsType IsValue cx f g c fit;
    used = compact_used (scope_asked arms) f g c good;
    are = are;
    holds = refl;
  }

  module _ (pinned : IsPinned (scope_asked arms)) (Holds : Submatrix T → Type 0) (k : IsKnown IsType IsValue cx arms Holds w) where
    mine : All (IsRowIn (scope_asked arms) (numbers (plain_opens g.columns.items))) (plain_askeds g.rows.items)
    mine = (compact_good (scope_asked arms) f g c good).heads

    -- where a value comes to the row behind in the one, one does in the other
    pub known_on : Comes IsValue behind (frame_view f) → Comes IsValue behind (sub_view k.shown k.rows)
    known_on d =
        whole_comes IsType IsValue cx (Contains (patterns_of arms)) pinned at k.at (plain_opens g.columns.items) k.shown (plain_askeds g.rows.items) k.rows
        (compact_fit (scope_asked arms) IsType IsValue cx f g c fit) k.fit numbered k.numbered (heads_known (scope_asked arms) (numbers (plain_opens g.columns.items)) (plain_askeds g.rows.items) mine)
        (heads_known (scope_asked arms) (numbers k.shown) k.rows k.known) (compact_used (scope_asked arms) f g c good) (sym are ∙ k.are) behind refl (compact_on (scope_asked arms) IsType IsValue cx f g c fit behind d)

    -- and the other way round
    pub known_back : Comes IsValue behind (sub_view k.shown k.rows) → Comes IsValue behind (frame_view f)
    known_back d =
        compact_back (scope_asked arms) IsType IsValue cx f g c fit behind
        (whole_comes IsType IsValue cx (Contains (patterns_of arms)) pinned k.at at k.shown (plain_opens g.columns.items) k.rows (plain_askeds g.rows.items)
        k.fit (compact_fit (scope_asked arms) IsType IsValue cx f g c fit) k.numbered numbered (heads_known (scope_asked arms) (numbers k.shown) k.rows k.known)
        (heads_known (scope_asked arms) (numbers (plain_opens g.columns.items)) (plain_askeds g.rows.items) mine) k.used (sym k.are ∙ are) behind refl d)
