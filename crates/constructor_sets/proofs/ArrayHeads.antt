-- Each head of a column of arrays has its one piece.
use Rattle.std.proofs.Common.{◌≡◌, ℕ, ◌+◌, ◌≤◌, Bool, true, false, ◌||◌, List, [], ◌∷◌, map, get_or, cond, nat_le, Some, refl, sym, subst, arith, IsTrue}
use Rattle.std.specs.List.{All, list_any}
use Rattle.std.proofs.lemmas.Bool.Decides.{nat_tests}
use Rattle.std.proofs.lemmas.List.Elements.{All-cons, All-nil, All-head, All-tail}
use Rattle.match_model.specs.Values.{MValue}
use Rattle.match_model.specs.Constructors.{FixedShape, LongerShape, MCtor, RowCtor, WildCtor, MSet, RowSet, covers, has_piece}
use Rattle.match_model.specs.Contexts.{Context, Open}
use Rattle.match_model.specs.Pieces.{ArePieces, array_piece, is_fixed, longest_front, longest_back}
use Rattle.match_model.specs.WellTyped.{is_written}
use Rattle.match_model.proofs.Basics.{both, untrue}
use Rattle.constructor_sets.specs.declared.piece.PieceState.{PieceState}
use Rattle.constructor_sets.specs.Present.{is_sharp_head, AreFound}
use Rattle.constructor_sets.specs.Spans.{AreHadByAll}
use Rattle.constructor_sets.proofs.Rising.{kept_each}
use Rattle.constructor_sets.proofs.Sharp.{AreSharp}

has_fixed : (n : ℕ) (h : MCtor) → is_sharp_head (RowSet (Some n)) h ≡ true → has_piece h (RowCtor (FixedShape n)) ≡ true
has_fixed n (RowCtor s) e = (both (covers s n) (is_written (RowCtor s)) e).0
has_fixed n WildCtor e = refl
has_fixed n _ e = untrue e

have_longer : (n front back : ℕ) (heads : List MCtor) → longest_front heads ≤ front → longest_back heads ≤ back → list_any is_fixed heads ≡ false → AreSharp (RowSet (Some n)) heads →
    All (λ h. IsTrue (has_piece h (RowCtor (LongerShape front back)))) heads
have_longer n front back [] f b e all = All-nil (λ h. IsTrue (has_piece h (RowCtor (LongerShape front back))))
have_longer n front back (RowCtor (FixedShape m) ∷ hs) f b e all = untrue (sym e)
have_longer n front back (RowCtor (LongerShape g c) ∷ hs) f b e all =
    All-cons (λ h. IsTrue (has_piece h (RowCtor (LongerShape front back)))) (RowCtor (LongerShape g c)) hs (at_most (g + c) (front + back) (omega arith))
    (have_longer n front back hs (omega arith) (omega arith) e (All-tail (λ h. IsTrue (is_sharp_head (RowSet (Some n)) h)) (RowCtor (LongerShape g c)) hs all))
  where
    at_most : (m n : ℕ) → m ≤ n → nat_le m n ≡ true
    at_most m n h = grind (arith, nat_tests)
have_longer n front back (h ∷ hs) f b e all = untrue (All-head (λ h. IsTrue (is_sharp_head (RowSet (Some n)) h)) h hs all)

pub have_piece : (n : ℕ) (heads : List MCtor) → AreSharp (RowSet (Some n)) heads → All (λ h. IsTrue (has_piece h (array_piece n heads))) heads
have_piece n heads all = go (list_any is_fixed heads) (nat_le n (longest_front heads + longest_back heads)) refl
  where
    go : (a b : Bool) → list_any is_fixed heads ≡ a → All (λ h. IsTrue (has_piece h (cond (a || b) (RowCtor (FixedShape n)) (RowCtor (LongerShape (longest_front heads) (longest_back heads)))))) heads
    go true b e = λ k d l. has_fixed n (get_or heads k d) (all k d l)
    go false true e = λ k d l. has_fixed n (get_or heads k d) (all k d l)
    go false false e = have_longer n (longest_front heads) (longest_back heads) heads (omega arith) (omega arith) e all

-- so each has what is found of the column
pub found_had : {T : Type 0} (IsValue : T → Bool → MValue → Type 0) (cx : Context T) (o : Open T) (heads ctors : List MCtor) (missing : Bool) (gaps : List MCtor) (n : ℕ) →
    cx.set_of o.type ≡ RowSet (Some n) → AreSharp (cx.set_of o.type) heads → AreFound IsValue cx o heads ctors missing gaps → AreHadByAll ctors heads
found_had IsValue cx o heads ctors missing gaps n e all f =
    let firsts = map (λ (p : MCtor × PieceState). p.0) f.pieces in
    let listed : firsts ≡ array_piece n heads ∷ [] = subst (λ (s : MSet). ArePieces s heads firsts) e f.split.are.listed in
    let had = have_piece n heads (subst (λ (s : MSet). AreSharp s heads) e all) in
    subst (λ ps. AreHadByAll ps heads) (sym f.present)
    (kept_each (λ p. All (λ h. IsTrue (has_piece h p)) heads) f.pieces
    (subst (λ ps. AreHadByAll ps heads) (sym listed) (All-cons (λ p. All (λ h. IsTrue (has_piece h p)) heads) (array_piece n heads) [] had (All-nil (λ p. All (λ h. IsTrue (has_piece h p)) heads)))))
