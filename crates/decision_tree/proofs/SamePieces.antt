-- Heads with the same members cut a column into the same pieces.
use Rattle.std.proofs.Common.{◌≡◌, inl, inr, ℕ, ◌+◌, ◌-◌, ◌≤◌, max, Bool, ◌||◌, nat_le, cond, List, [], ◌∷◌, ◌++◌, Option, Some, None, IsTrue, refl, ap, ◌∙◌, subst, arith}
use Rattle.std.specs.Prelude.{◌↔◌}
use Rattle.std.specs.List.{list_any, filter_map}
use Rattle.match_model.specs.Texts.{text_eq}
use Rattle.match_model.specs.Numbers.{MRange}
use Rattle.match_model.specs.Constructors.{FixedShape, LongerShape, MCtor, SingleCtor, PointCtor, LaterCtor, OtherTextCtor, VariantCtor, FlagCtor, NumbersCtor, TextCtor, RowCtor, WildCtor, OrCtor, MSet, SingleSet, PointSet, TextSet, FlagSet, OpaqueSet, NothingSet, VariantSet, NumberSet, RowSet}
use Rattle.match_model.specs.Lists.{Among, SameMembers}
use Rattle.match_model.specs.Pieces.{is_at, IsCut, IsCutToo, AreNamed, range_of, text_of, fixed_end, longest_front, longest_back, is_fixed, each_below, ArePieces}
use Rattle.pattern_matrix.proofs.Members.{any_same, any_mapped_same}

fixed-more : (c : MCtor) (cs : List MCtor) → fixed_end (c ∷ cs) ≡ max (fixed_end (c ∷ [])) (fixed_end cs)
fixed-more (RowCtor (FixedShape n)) cs = omega arith
fixed-more (RowCtor (LongerShape f b)) cs = omega arith
fixed-more SingleCtor cs = omega arith
fixed-more PointCtor cs = omega arith
fixed-more LaterCtor cs = omega arith
fixed-more OtherTextCtor cs = omega arith
fixed-more (VariantCtor k) cs = omega arith
fixed-more (FlagCtor b) cs = omega arith
fixed-more (NumbersCtor r) cs = omega arith
fixed-more (TextCtor t) cs = omega arith
fixed-more WildCtor cs = omega arith
fixed-more OrCtor cs = omega arith

front-more : (c : MCtor) (cs : List MCtor) → longest_front (c ∷ cs) ≡ max (longest_front (c ∷ [])) (longest_front cs)
front-more (RowCtor (FixedShape n)) cs = omega arith
front-more (RowCtor (LongerShape f b)) cs = omega arith
front-more SingleCtor cs = omega arith
front-more PointCtor cs = omega arith
front-more LaterCtor cs = omega arith
front-more OtherTextCtor cs = omega arith
front-more (VariantCtor k) cs = omega arith
front-more (FlagCtor b) cs = omega arith
front-more (NumbersCtor r) cs = omega arith
front-more (TextCtor t) cs = omega arith
front-more WildCtor cs = omega arith
front-more OrCtor cs = omega arith

back-more : (c : MCtor) (cs : List MCtor) → longest_back (c ∷ cs) ≡ max (longest_back (c ∷ [])) (longest_back cs)
back-more (RowCtor (FixedShape n)) cs = omega arith
back-more (RowCtor (LongerShape f b)) cs = omega arith
back-more SingleCtor cs = omega arith
back-more PointCtor cs = omega arith
back-more LaterCtor cs = omega arith
back-more OtherTextCtor cs = omega arith
back-more (VariantCtor k) cs = omega arith
back-more (FlagCtor b) cs = omega arith
back-more (NumbersCtor r) cs = omega arith
back-more (TextCtor t) cs = omega arith
back-more WildCtor cs = omega arith
back-more OrCtor cs = omega arith

-- of a number that is the greatest of those of its members
module _ (f : List MCtor → ℕ) (none : f [] ≡ 0) (more : (c : MCtor) (cs : List MCtor) → f (c ∷ cs) ≡ max (f (c ∷ [])) (f cs)) where
  up-to : (c : MCtor) (cs : List MCtor) → Among c cs → f (c ∷ []) ≤ f cs
  up-to c [] a = absurd a
  up-to c (d ∷ cs) (inl e) = let m = more d cs in let same : f (c ∷ []) ≡ f (d ∷ []) = ap (λ x. f (x ∷ [])) e in omega (arith, m, same)
  up-to c (d ∷ cs) (inr a) = let m = more d cs in let l = up-to c cs a in omega (arith, m, l)

  at-most : (n : ℕ) (cs : List MCtor) → ((c : MCtor) → Among c cs → f (c ∷ []) ≤ n) → f cs ≤ n
  at-most n [] h = omega (arith, none)
  at-most n (c ∷ cs) h = let m = more c cs in let one = h c (inl refl) in let rest = at-most n cs (λ d a. h d (inr a)) in omega (arith, m, one, rest)

  greatest-same : (xs ys : List MCtor) → SameMembers xs ys → f xs ≡ f ys
  greatest-same xs ys s =
      let l = at-most (f ys) xs (λ c a. up-to c ys (s.forth c a)) in
      let k = at-most (f xs) ys (λ c a. up-to c xs (s.back c a)) in
      omega (arith, l, k)

module _ (xs ys : List MCtor) (s : SameMembers xs ys) where
  cut-same : (whole : MRange) (ps : List MRange) → IsCut whole (filter_map range_of xs) ps → IsCut whole (filter_map range_of ys) ps
  cut-same whole ps c = record {
    together = c.together;
    cut = λ n before at.
        subst (λ b. IsTrue (list_any (λ (p : MRange). is_at n p.low) ps) ↔ IsTrue b) (any_mapped_same _ range_of xs ys s) (c.cut n before at);
  }

  cut-same-too : (whole : Option MRange) (ps : List MRange) → IsCutToo whole (filter_map range_of xs) ps → IsCutToo whole (filter_map range_of ys) ps
  cut-same-too None ps c = c
  cut-same-too (Some whole) ps c = cut-same whole ps c

  named-same : (texts : List (List ℕ)) → AreNamed (filter_map text_of xs) texts → AreNamed (filter_map text_of ys) texts
  named-same texts n = record { each = λ t. n.each t ∙ any_mapped_same (text_eq t) text_of xs ys s; ascending = n.ascending }

  by_ends : (end front back : ℕ) → List MCtor
  by_ends end front back =
      each_below (λ n. RowCtor (FixedShape n)) (max end (front + back)) ++ RowCtor (LongerShape (max end (front + back) - back) back) ∷ []

  of_length : (n : ℕ) (fixed : Bool) (front back : ℕ) → MCtor
  of_length n fixed front back = cond (fixed || nat_le n (front + back)) (RowCtor (FixedShape n)) (RowCtor (LongerShape front back))

  end-same : fixed_end xs ≡ fixed_end ys
  end-same = greatest-same fixed_end refl fixed-more xs ys s

  front-same : longest_front xs ≡ longest_front ys
  front-same = greatest-same longest_front refl front-more xs ys s

  back-same : longest_back xs ≡ longest_back ys
  back-same = greatest-same longest_back refl back-more xs ys s

  pub pieces-same : (set : MSet) (pieces : List MCtor) → ArePieces set xs pieces → ArePieces set ys pieces
  unfolding by_ends of_length
  pieces-same SingleSet pieces p = p
  pieces-same PointSet pieces p = p
  pieces-same FlagSet pieces p = p
  pieces-same (VariantSet count later) pieces p = p
  pieces-same (NumberSet first second) pieces (ps, qs, c, d, e) = (ps, qs, cut-same first ps c, cut-same-too second qs d, e)
  pieces-same TextSet pieces (texts, n, e) = (texts, named-same texts n, e)
  pieces-same (RowSet None) pieces p =
      p
      ∙ ap (λ n. by_ends n (longest_front xs) (longest_back xs)) end-same
      ∙ ap (λ n. by_ends (fixed_end ys) n (longest_back xs)) front-same
      ∙ ap (λ n. by_ends (fixed_end ys) (longest_front ys) n) back-same
  pieces-same (RowSet (Some n)) pieces p =
      p
      ∙ ap (λ b. of_length n b (longest_front xs) (longest_back xs) ∷ []) (any_same is_fixed xs ys s)
      ∙ ap (λ m. of_length n (list_any is_fixed ys) m (longest_back xs) ∷ []) front-same
      ∙ ap (λ m. of_length n (list_any is_fixed ys) (longest_front ys) m ∷ []) back-same
  pieces-same OpaqueSet pieces p = p
  pieces-same NothingSet pieces p = p
