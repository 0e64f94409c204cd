-- What is missing of a column, said of values.
use Rattle.std.proofs.Common.{◌≡◌, ℕ, ◌+◌, Bool, true, false, ◌||◌, List, [], ◌∷◌, map, refl, sym, ap, ◌∙◌, arith}
use Rattle.std.specs.List.{All, list_any}
use Rattle.std.proofs.lemmas.List.Elements.{All-head, All-tail}
use Rattle.match_model.specs.Values.{MValue}
use Rattle.match_model.specs.Constructors.{MCtor, builds, has_piece}
use Rattle.match_model.specs.Contexts.{Context, Open}
use Rattle.match_model.specs.PieceStates.{named_in}
use Rattle.match_model.proofs.Basics.{untrue}
use Rattle.range_split.proofs.Splits.{All-unmap}
use Rattle.constructor_sets.specs.declared.piece.PieceState.{PieceState}
use Rattle.constructor_sets.specs.declared.piece.PieceState.TheVariants.{Present, Missing, Empty}
use Rattle.constructor_sets.specs.Columns.{IsOneSided, IsState, hits, one}
use Rattle.constructor_sets.specs.Present.{is_missing}
use Rattle.constructor_sets.specs.Laws.{head_has, MissingIsOfValues}

-- of a value that the piece builds, the heads that have it are those that have the piece
agree : (named : List (List ℕ)) (p : MCtor) (heads : List MCtor) (v : MValue) → All (IsOneSided named p) heads → builds named p v ≡ true →
    list_any (λ c. head_has c v) heads ≡ list_any (λ h. has_piece h p) heads
agree named p [] v all b = refl
agree named p (h ∷ hs) v all b =
    ap (λ x. x || list_any (λ c. head_has c v) hs) (All-head (IsOneSided named p) h hs all v b)
    ∙ ap (λ x. has_piece h p || x) (agree named p hs v (All-tail (IsOneSided named p) h hs all) b)

none_before : (b c : Bool) → (b || c) ≡ false → c ≡ false
none_before true c e = untrue (sym e)
none_before false c e = e

module _ {T : Type 0} (IsValue : T → Bool → MValue → Type 0) (o : Open T) (named : List (List ℕ)) (heads : List MCtor) where
  abbrev AreStates : List (MCtor × PieceState) → Type 0
  AreStates pieces = All (λ p. IsState IsValue o named heads p.0 p.1) pieces

  abbrev AreSided : List (MCtor × PieceState) → Type 0
  AreSided pieces = All (λ (p : MCtor × PieceState). All (IsOneSided named p.0) heads) pieces

  state_head : (p : MCtor × PieceState) (ps : List (MCtor × PieceState)) → AreStates (p ∷ ps) → IsState IsValue o named heads p.0 p.1
  state_head p ps s = All-head (λ (q : MCtor × PieceState). IsState IsValue o named heads q.0 q.1) p ps s

  state_tail : (p : MCtor × PieceState) (ps : List (MCtor × PieceState)) → AreStates (p ∷ ps) → AreStates ps
  state_tail p ps s = All-tail (λ (q : MCtor × PieceState). IsState IsValue o named heads q.0 q.1) p ps s

  side_head : (p : MCtor × PieceState) (ps : List (MCtor × PieceState)) → AreSided (p ∷ ps) → All (IsOneSided named p.0) heads
  side_head p ps s = All-head (λ (q : MCtor × PieceState). All (IsOneSided named q.0) heads) p ps s

  side_tail : (p : MCtor × PieceState) (ps : List (MCtor × PieceState)) → AreSided (p ∷ ps) → AreSided ps
  side_tail p ps s = All-tail (λ (q : MCtor × PieceState). All (IsOneSided named q.0) heads) p ps s

  -- a missing piece has a value, which is in no head
  some_left : (pieces : List (MCtor × PieceState)) → AreStates pieces → AreSided pieces → list_any is_missing pieces ≡ true →
      (v : MValue) × IsValue o.type o.sure v × (list_any (λ c. head_has c v) heads ≡ false)
  some_left [] s d e = untrue e
  some_left ((c, Missing) ∷ ps) s d e =
      let st = state_head (c, Missing) ps s in
      (st.0.0, st.0.1, agree named c heads st.0.0 (side_head (c, Missing) ps d) st.0.2 ∙ st.1)
  some_left ((c, Present) ∷ ps) s d e = some_left ps (state_tail (c, Present) ps s) (side_tail (c, Present) ps d) e
  some_left ((c, Empty) ∷ ps) s d e = some_left ps (state_tail (c, Empty) ps s) (side_tail (c, Empty) ps d) e

  -- where no piece is missing, the piece that builds a value is in some head
  step : (c : MCtor) (x : PieceState) (rest : Bool) (n : ℕ) (v : MValue) (b : Bool) → IsValue o.type o.sure v → builds named c v ≡ b → IsState IsValue o named heads c x → All (IsOneSided named c) heads →
      (is_missing (c, x) || rest) ≡ false → one (builds named c v) + n ≡ 1 →
      (rest ≡ false → n ≡ 1 → list_any (λ c. head_has c v) heads ≡ true) → list_any (λ c. head_has c v) heads ≡ true
  step c Present rest n v true i b st d e m more = agree named c heads v d b ∙ st.1
  step c Missing rest n v true i b st d e m more = untrue (sym e)
  step c Empty rest n v true i b st d e m more = absurd (st (v, i, b))
  step c x rest n v false i b st d e m more =
      let z : one (builds named c v) ≡ 0 = ap one b in
      more (none_before (is_missing (c, x)) rest e) (omega arith)

  some_had : (pieces : List (MCtor × PieceState)) (v : MValue) → IsValue o.type o.sure v → AreStates pieces → AreSided pieces → list_any is_missing pieces ≡ false →
      hits named (map (λ p. p.0) pieces) v ≡ 1 → list_any (λ c. head_has c v) heads ≡ true
  some_had [] v i s d e n = absurd (omega (arith, n))
  some_had ((c, x) ∷ ps) v i s d e n =
      step c x (list_any is_missing ps) (hits named (map (λ p. p.0) ps) v) v (builds named c v) i refl (state_head (c, x) ps s) (side_head (c, x) ps d) e n
      (λ f m. some_had ps v i (state_tail (c, x) ps s) (side_tail (c, x) ps d) f m)

sides : (named : List (List ℕ)) (heads : List MCtor) (pieces : List (MCtor × PieceState)) → All (λ p. All (IsOneSided named p) heads) (map (λ (p : MCtor × PieceState). p.0) pieces) →
    All (λ (p : MCtor × PieceState). All (IsOneSided named p.0) heads) pieces
sides named heads pieces all = All-unmap (λ p. All (IsOneSided named p) heads) (λ (p : MCtor × PieceState). p.0) pieces all

pub missing_of_values : {T : Type 0} (IsValue : T → Bool → MValue → Type 0) (cx : Context T) → MissingIsOfValues IsValue cx
missing_of_values IsValue cx o heads ctors gaps missing f =
    let named = named_in (map (λ (p : MCtor × PieceState). p.0) f.pieces) in
    let side = sides named heads f.pieces f.split.are.one_sided in
    record {
      some = λ e. some_left IsValue o named heads f.pieces f.split.states side (sym f.some_missing ∙ e);
      none = λ e v i nu nt. some_had IsValue o named heads f.pieces v i f.split.states side (sym f.some_missing ∙ e) (f.split.once v i nu nt);
    }
