-- How many branches a place has, counted by what is found of the pieces of its column.
use Rattle.std.proofs.Common.{◌≡◌, ℕ, suc, ◌+◌, Bool, true, false, inl, inr, List, [], ◌∷◌, map, length, sym, ap, ◌∙◌, subst, arith, true≢false, IsTrue}
use Rattle.std.specs.List.{All, filter_map, list_any}
use Rattle.std.proofs.lemmas.List.Elements.{All-head, All-tail}
use Rattle.match_model.specs.Values.{MValue}
use Rattle.match_model.specs.Constructors.{MCtor}
use Rattle.match_model.specs.Contexts.{Context}
use Rattle.match_model.specs.FewestBranches.{AreCases, nothing_missing, something_missing, no_branch_of, branch_of, AreBranches, no_branches, as_cases}
use Rattle.match_model.specs.Lowering.{ctors_at, all_wild_at}
use Rattle.match_model.specs.Lists.{Among}
use Rattle.match_model.specs.Matrices.{MColumn, MRow, open_of}
use Rattle.match_model.specs.Pieces.{ArePieces}
use Rattle.match_model.specs.PieceStates.{HasValue, named_in, is_present}
use Rattle.match_model.specs.Steps.{expand_head, rows_at}
use Rattle.constructor_sets.specs.Columns.{IsState}
use Rattle.constructor_sets.specs.Present.{present_piece, is_missing, AreFound}
use Rattle.constructor_sets.specs.declared.piece.PieceState.{PieceState}
use Rattle.constructor_sets.specs.declared.piece.PieceState.TheVariants.{Present, Missing, Empty}
use Rattle.keyed_rows.proofs.Members.{among-contains, contains-among}

-- one, where a piece with a value is missing
abbrev pub more_missing : Bool → ℕ
more_missing true = 1
more_missing false = 0

module _ {T : Type 0} (V : T → Bool → MValue → Type 0) (c : MColumn T) (heads all : List MCtor) where
  abbrev Stands : MCtor × PieceState → Type 0
  Stands p = IsState V (open_of c) (named_in all) heads p.0 p.1

  -- a piece that is missing
  missing-there : (pieces : List (MCtor × PieceState)) → list_any is_missing pieces ≡ true → All Stands pieces →
      (p : MCtor) × Among p (map (λ q. q.0) pieces) × Stands (p, Missing)
  missing-there [] any states = absurd (true≢false (sym any))
  missing-there ((p, Missing) ∷ pieces) any states = (p, inl (λ j. p), All-head Stands (p, Missing) pieces states)
  missing-there ((p, Present) ∷ pieces) any states =
      let r = missing-there pieces any (All-tail Stands (p, Present) pieces states) in (r.0, inr r.1, r.2)
  missing-there ((p, Empty) ∷ pieces) any states =
      let r = missing-there pieces any (All-tail Stands (p, Empty) pieces states) in (r.0, inr r.1, r.2)

  -- where none is missing, what no head has is without a value
  none-missing : (pieces : List (MCtor × PieceState)) → list_any is_missing pieces ≡ false → All Stands pieces →
      (q : MCtor) → Among q (map (λ p. p.0) pieces) → is_present heads q ≡ false →
      ¬ HasValue V (open_of c) (named_in all) q
  none-missing [] any states q a e v = elim a [ ]
  none-missing ((p, Missing) ∷ pieces) any states q a e v = true≢false any
  none-missing ((p, Present) ∷ pieces) any states q (inl s) e v =
      true≢false (sym (All-head Stands (p, Present) pieces states).1 ∙ ap (is_present heads) (sym s) ∙ e)
  none-missing ((p, Present) ∷ pieces) any states q (inr a) e v =
      none-missing pieces any (All-tail Stands (p, Present) pieces states) q a e v
  none-missing ((p, Empty) ∷ pieces) any states q (inl s) e v =
      All-head Stands (p, Empty) pieces states (subst (HasValue V (open_of c) (named_in all)) s v)
  none-missing ((p, Empty) ∷ pieces) any states q (inr a) e v =
      none-missing pieces any (All-tail Stands (p, Empty) pieces states) q a e v

  -- the pieces in front of some cases
  more-cases : (pieces : List (MCtor × PieceState)) (n : ℕ) → All Stands pieces → AreCases V c heads all [] n →
      AreCases V c heads all (map (λ p. p.0) pieces) (length (filter_map present_piece pieces) + n)
  more-cases [] n states last =
      subst (AreCases V c heads all []) (let e : n ≡ 0 + n = omega arith in e) last
  more-cases ((p, Missing) ∷ pieces) n states last =
      no_branch_of p (map (λ q. q.0) pieces) (length (filter_map present_piece pieces) + n)
      (inl (All-head Stands (p, Missing) pieces states).1)
      (more-cases pieces n (All-tail Stands (p, Missing) pieces states) last)
  more-cases ((p, Empty) ∷ pieces) n states last =
      no_branch_of p (map (λ q. q.0) pieces) (length (filter_map present_piece pieces) + n)
      (inr (All-head Stands (p, Empty) pieces states))
      (more-cases pieces n (All-tail Stands (p, Empty) pieces states) last)
  more-cases ((p, Present) ∷ pieces) n states last =
      let here : HasValue V (open_of c) (named_in all) p × (is_present heads p ≡ true) =
      All-head Stands (p, Present) pieces states in
      subst (AreCases V c heads all (p ∷ map (λ q. q.0) pieces)) (sums (length (filter_map present_piece pieces)) n)
      (branch_of p (map (λ q. q.0) pieces) (length (filter_map present_piece pieces) + n) here.1 here.0
      (more-cases pieces n (All-tail Stands (p, Present) pieces states) last))
    where
      sums : (a b : ℕ) → 1 + (a + b) ≡ suc a + b
      sums a b = omega arith

-- the count of what was found
found-cases : {T : Type 0} (V : T → Bool → MValue → Type 0) (cx : Context T) (c : MColumn T) (heads ctors : List MCtor)
    (missing : Bool) (gaps : List MCtor) (f : AreFound V cx (open_of c) heads ctors missing gaps) →
    AreCases V c heads (map (λ p. p.0) f.pieces) (map (λ p. p.0) f.pieces) (length ctors + more_missing missing)
found-cases V cx c heads ctors missing gaps f =
    subst (λ n. AreCases V c heads all all (n + more_missing missing)) (sym (ap length f.present))
    (more-cases V c heads all f.pieces (more_missing missing) f.split.states (last missing f.some_missing))
  where
    all : List MCtor
    all = map (λ p. p.0) f.pieces

    last : (b : Bool) → b ≡ list_any is_missing f.pieces → AreCases V c heads all [] (more_missing b)
    last true e =
        let p = missing-there V c heads all f.pieces (sym e) f.split.states in
        something_missing p.0 (among-contains all p.0 p.1, p.2.1) p.2.0
    last false e =
        nothing_missing (λ q h. none-missing V c heads all f.pieces (sym e) f.split.states q
        (contains-among all q h.0) h.1)

module _ {T : Type 0} (V : T → Bool → MValue → Type 0) (cx : Context T) (i : ℕ) (c : MColumn T) (rows read : List (MRow T))
    (is : read ≡ rows_at expand_head c.place i rows) where
  -- where all are wild there is none
  pub no-branches : all_wild_at i read ≡ true → AreBranches cx V i c rows 0
  no-branches w = no_branches (subst (λ rs. IsTrue (all_wild_at i rs)) is w)

  -- else as many as were found
  pub found-branches : (heads ctors : List MCtor) (missing : Bool) (gaps : List MCtor) → all_wild_at i read ≡ false →
      heads ≡ ctors_at i read → AreFound V cx (open_of c) heads ctors missing gaps →
      AreBranches cx V i c rows (length ctors + more_missing missing)
  found-branches heads ctors missing gaps w are f =
      let these : heads ≡ ctors_at i (rows_at expand_head c.place i rows) = are ∙ ap (ctors_at i) is in
      as_cases (map (λ p. p.0) f.pieces) (length ctors + more_missing missing)
      (subst (λ rs. all_wild_at i rs ≡ false) is w)
      (subst (λ hs. ArePieces (cx.set_of c.type) hs (map (λ p. p.0) f.pieces)) these f.split.are.listed)
      (subst (λ hs. AreCases V c hs (map (λ p. p.0) f.pieces) (map (λ p. p.0) f.pieces) (length ctors + more_missing missing))
      these (found-cases V cx c heads ctors missing gaps f))
