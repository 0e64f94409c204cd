-- Heads with the same members cut a column into the same pieces.
use Rattle.std.proofs.Common.{◌≡◌, inl, inr, ℕ, ◌+◌, ◌-◌, ◌≤◌, max, Bool, true, false, ◌||◌, nat_le, cond, List, [], ◌∷◌, ◌++◌, map, Option, Some, None, IsTrue, refl, ap, sym, ◌∙◌, subst, arith}
use Rattle.std.specs.Prelude.{◌↔◌}
use Rattle.std.specs.List.{All, list_any, filter_map}
use Rattle.std.proofs.lemmas.List.Elements.{All-weaker}
use Rattle.match_model.specs.Values.{MValue}
use Rattle.match_model.specs.Texts.{text_eq}
use Rattle.match_model.specs.Numbers.{MRange}
use Rattle.match_model.specs.Constructors.{FixedShape, LongerShape, MCtor, SingleCtor, PointCtor, LaterCtor, OtherTextCtor, VariantCtor, FlagCtor, NumbersCtor, TextCtor, RowCtor, WildCtor, OrCtor, MSet, SingleSet, PointSet, TextSet, FlagSet, OpaqueSet, NothingSet, VariantSet, NumberSet, RowSet, has_piece}
use Rattle.match_model.specs.Contexts.{Context, Open}
use Rattle.match_model.specs.Lists.{Among, SameMembers}
use Rattle.match_model.specs.Pieces.{is_at, IsCut, IsCutToo, AreNamed, range_of, text_of, fixed_end, longest_front, longest_back, is_fixed, each_below, ArePieces}
use Rattle.match_model.specs.PieceStates.{named_in}
use Rattle.match_model.specs.Rows.{is_wild_ctor}
use Rattle.constructor_sets.specs.Columns.{is_head, IsOneSided, HasRoomFor, AreColumnPieces, IsState, IsColumnSplit}
use Rattle.constructor_sets.specs.Present.{is_sharp_head, AreFound}
use Rattle.constructor_sets.specs.declared.piece.PieceState.{PieceState}
use Rattle.constructor_sets.specs.declared.piece.PieceState.TheVariants.{Present, Missing, Empty}
use Rattle.pattern_matrix.proofs.Members.{all_same, any_same, any_mapped_same}

-- a head that is no wildcard is a head
pub sharp_is_head : (set : MSet) (c : MCtor) → IsTrue (is_sharp_head set c) → IsTrue (is_head set c)
sharp_is_head set c h = wider (is_wild_ctor c) (is_sharp_head set c) h
  where
    wider : (a b : Bool) → IsTrue b → IsTrue (a || b)
    wider true b h = refl
    wider false b h = h

-- ---- the greatest of what heads say

fixed_more : (c : MCtor) (cs : List MCtor) → fixed_end (c ∷ cs) ≡ max (fixed_end (c ∷ [])) (fixed_end cs)
fixed_more (RowCtor (FixedShape n)) cs = omega arith
fixed_more (RowCtor (LongerShape f b)) cs = omega arith
fixed_more SingleCtor cs = omega arith
fixed_more PointCtor cs = omega arith
fixed_more LaterCtor cs = omega arith
fixed_more OtherTextCtor cs = omega arith
fixed_more (VariantCtor k) cs = omega arith
fixed_more (FlagCtor b) cs = omega arith
fixed_more (NumbersCtor r) cs = omega arith
fixed_more (TextCtor t) cs = omega arith
fixed_more WildCtor cs = omega arith
fixed_more OrCtor cs = omega arith

front_more : (c : MCtor) (cs : List MCtor) → longest_front (c ∷ cs) ≡ max (longest_front (c ∷ [])) (longest_front cs)
front_more (RowCtor (FixedShape n)) cs = omega arith
front_more (RowCtor (LongerShape f b)) cs = omega arith
front_more SingleCtor cs = omega arith
front_more PointCtor cs = omega arith
front_more LaterCtor cs = omega arith
front_more OtherTextCtor cs = omega arith
front_more (VariantCtor k) cs = omega arith
front_more (FlagCtor b) cs = omega arith
front_more (NumbersCtor r) cs = omega arith
front_more (TextCtor t) cs = omega arith
front_more WildCtor cs = omega arith
front_more OrCtor cs = omega arith

back_more : (c : MCtor) (cs : List MCtor) → longest_back (c ∷ cs) ≡ max (longest_back (c ∷ [])) (longest_back cs)
back_more (RowCtor (FixedShape n)) cs = omega arith
back_more (RowCtor (LongerShape f b)) cs = omega arith
back_more SingleCtor cs = omega arith
back_more PointCtor cs = omega arith
back_more LaterCtor cs = omega arith
back_more OtherTextCtor cs = omega arith
back_more (VariantCtor k) cs = omega arith
back_more (FlagCtor b) cs = omega arith
back_more (NumbersCtor r) cs = omega arith
back_more (TextCtor t) cs = omega arith
back_more WildCtor cs = omega arith
back_more OrCtor cs = omega arith

-- of a number that is the greatest of those of its members
module _ (f : List MCtor → ℕ) (none : f [] ≡ 0) (more : (c : MCtor) (cs : List MCtor) → f (c ∷ cs) ≡ max (f (c ∷ [])) (f cs)) where
  up_to : (c : MCtor) (cs : List MCtor) → Among c cs → f (c ∷ []) ≤ f cs
  up_to c [] a = absurd a
  up_to c (d ∷ cs) (inl e) = let m = more d cs in let same : f (c ∷ []) ≡ f (d ∷ []) = ap (λ x. f (x ∷ [])) e in omega (arith, m, same)
  up_to c (d ∷ cs) (inr a) = let m = more d cs in let l = up_to c cs a in omega (arith, m, l)

  at_most : (n : ℕ) (cs : List MCtor) → ((c : MCtor) → Among c cs → f (c ∷ []) ≤ n) → f cs ≤ n
  at_most n [] h = omega (arith, none)
  at_most n (c ∷ cs) h = let m = more c cs in let one = h c (inl refl) in let rest = at_most n cs (λ d a. h d (inr a)) in omega (arith, m, one, rest)

  greatest_same : (xs ys : List MCtor) → SameMembers xs ys → f xs ≡ f ys
  greatest_same xs ys s =
      let l = at_most (f ys) xs (λ c a. up_to c ys (s.forth c a)) in
      let k = at_most (f xs) ys (λ c a. up_to c xs (s.back c a)) in
      omega (arith, l, k)

-- ---- pieces

module _ (xs ys : List MCtor) (s : SameMembers xs ys) where
  cut_same : (whole : MRange) (ps : List MRange) → IsCut whole (filter_map range_of xs) ps → IsCut whole (filter_map range_of ys) ps
  cut_same whole ps c = record {
    together = c.together;
    cut = λ n before at.
        subst (λ b. IsTrue (list_any (λ (p : MRange). is_at n p.low) ps) ↔ IsTrue b) (any_mapped_same _ range_of xs ys s) (c.cut n before at);
  }

  cut_same_too : (whole : Option MRange) (ps : List MRange) → IsCutToo whole (filter_map range_of xs) ps → IsCutToo whole (filter_map range_of ys) ps
  cut_same_too None ps c = c
  cut_same_too (Some whole) ps c = cut_same whole ps c

  named_same : (texts : List (List ℕ)) → AreNamed (filter_map text_of xs) texts → AreNamed (filter_map text_of ys) texts
  named_same texts n = record { each = λ t. n.each t ∙ any_mapped_same (text_eq t) text_of xs ys s; ascending = n.ascending }

  by_ends : (end front back : ℕ) → List MCtor
  by_ends end front back =
      each_below (λ n. RowCtor (FixedShape n)) (max end (front + back)) ++ RowCtor (LongerShape (max end (front + back) - back) back) ∷ []

  of_length : (n : ℕ) (fixed : Bool) (front back : ℕ) → MCtor
  of_length n fixed front back = cond (fixed || nat_le n (front + back)) (RowCtor (FixedShape n)) (RowCtor (LongerShape front back))

  end_same : fixed_end xs ≡ fixed_end ys
  end_same = greatest_same fixed_end refl fixed_more xs ys s

  front_same : longest_front xs ≡ longest_front ys
  front_same = greatest_same longest_front refl front_more xs ys s

  back_same : longest_back xs ≡ longest_back ys
  back_same = greatest_same longest_back refl back_more xs ys s

  pieces_same : (set : MSet) (pieces : List MCtor) → ArePieces set xs pieces → ArePieces set ys pieces
  unfolding by_ends of_length
  pieces_same SingleSet pieces p = p
  pieces_same PointSet pieces p = p
  pieces_same FlagSet pieces p = p
  pieces_same (VariantSet count later) pieces p = p
  pieces_same (NumberSet first second) pieces (ps, qs, c, d, e) = (ps, qs, cut_same first ps c, cut_same_too second qs d, e)
  pieces_same TextSet pieces (texts, n, e) = (texts, named_same texts n, e)
  pieces_same (RowSet None) pieces p =
      p
      ∙ ap (λ n. by_ends n (longest_front xs) (longest_back xs)) end_same
      ∙ ap (λ n. by_ends (fixed_end ys) n (longest_back xs)) front_same
      ∙ ap (λ n. by_ends (fixed_end ys) (longest_front ys) n) back_same
  pieces_same (RowSet (Some n)) pieces p =
      p
      ∙ ap (λ b. of_length n b (longest_front xs) (longest_back xs) ∷ []) (any_same is_fixed xs ys s)
      ∙ ap (λ m. of_length n (list_any is_fixed ys) m (longest_back xs) ∷ []) front_same
      ∙ ap (λ m. of_length n (list_any is_fixed ys) (longest_front ys) m ∷ []) back_same
  pieces_same OpaqueSet pieces p = p
  pieces_same NothingSet pieces p = p

  column_same : (set : MSet) (pieces : List MCtor) → AreColumnPieces set xs pieces → AreColumnPieces set ys pieces
  column_same set pieces a = record {
    listed = pieces_same set pieces a.listed;
    belong = a.belong;
    held = a.held;
    one_sided = All-weaker (λ p. All (IsOneSided (named_in pieces) p) xs) (λ p. All (IsOneSided (named_in pieces) p) ys)
        (λ p. all_same (IsOneSided (named_in pieces) p) xs ys s) pieces a.one_sided;
    room = All-weaker (λ p. All (λ c. IsTrue (has_piece c p) → HasRoomFor p c) xs) (λ p. All (λ c. IsTrue (has_piece c p) → HasRoomFor p c) ys)
        (λ p. all_same (λ c. IsTrue (has_piece c p) → HasRoomFor p c) xs ys s) pieces a.room;
  }

  state_same : {T : Type 0} (IsValue : T → Bool → MValue → Type 0) (o : Open T) (named : List (List ℕ)) (c : MCtor) (state : PieceState) →
      IsState IsValue o named xs c state → IsState IsValue o named ys c state
  state_same IsValue o named c Empty h = h
  state_same IsValue o named c Present (v, h) = (v, sym (any_same (λ x. has_piece x c) xs ys s) ∙ h)
  state_same IsValue o named c Missing (v, h) = (v, sym (any_same (λ x. has_piece x c) xs ys s) ∙ h)

  pub split_same : {T : Type 0} (IsValue : T → Bool → MValue → Type 0) (cx : Context T) (o : Open T) (pieces : List (MCtor × PieceState)) →
      IsColumnSplit IsValue cx o xs pieces → IsColumnSplit IsValue cx o ys pieces
  split_same IsValue cx o pieces h = record {
    are = column_same (cx.set_of o.type) (map (λ p. p.0) pieces) h.are;
    once = h.once;
    states = All-weaker (λ (p : MCtor × PieceState). IsState IsValue o (named_in (map (λ q. q.0) pieces)) xs p.0 p.1)
        (λ p. IsState IsValue o (named_in (map (λ q. q.0) pieces)) ys p.0 p.1) (λ p. state_same IsValue o (named_in (map (λ q. q.0) pieces)) p.0 p.1) pieces h.states;
  }

  pub found_same : {T : Type 0} (IsValue : T → Bool → MValue → Type 0) (cx : Context T) (o : Open T) (ctors : List MCtor) (missing : Bool) (gaps : List MCtor) →
      AreFound IsValue cx o xs ctors missing gaps → AreFound IsValue cx o ys ctors missing gaps
  found_same IsValue cx o ctors missing gaps f = record {
    pieces = f.pieces;
    split = split_same IsValue cx o f.pieces f.split;
    present = f.present;
    some_missing = f.some_missing;
    missing_parts = f.missing_parts;
  }
