-- A search that goes in through lone parts finds what it finds further in.
use Rattle.std.proofs.Common.{◌≡◌, ◌<◌, ℕ, suc, ◌-◌, List, [], ◌∷◌, ◌++◌, map, length, take, slice_get, Some, refl, sym, ap, subst, ◌∙◌, arith, vec_len}
use Rattle.std.proofs.lemmas.List.{take_all, take-append-le, length_push}
use Rattle.match_model.specs.Constructors.{MCtor}
use Rattle.match_model.specs.ArenaPatterns.{subs_of}
use Rattle.pattern_arena.specs.declared.pattern.DePat.{DePat}
use Rattle.pattern_arena.specs.Trees.{tree, placed_ctor, placed_subs}
use Rattle.pattern_arena.proofs.TreeFacts.{subs_of-tree}
use Rattle.pattern_lints.specs.declared.found.Finding.{Finding}
use Rattle.pattern_lints.specs.Meeting.{pattern_size}
use Rattle.pattern_lints.specs.Spots.{Spot, spot_below, spots_in}
use Rattle.pattern_lints.specs.Finding.{range_view, AreNoted, IsLone, GoesIn, Opens, Notes, Enters}
use Rattle.pattern_lints.proofs.HeadParts.{some_same}
use Rattle.pattern_lints.proofs.Noting.{all-but-last, notes-below}
use Rattle.pattern_lints.proofs.Sizes.{sub_smaller}
use Rattle.pattern_lints.proofs.Walking.{spots_lone}

-- nothing was gone through
pub enters-none : (a : Finding) (above : ℕ) (spots : List Spot) → Enters a a above spots above spots
enters-none a above spots = record {
  longer = omega arith;
  found = λ new last notes keys found arm path. record {
    more = notes.more;
    added = notes.added;
    arm = arm ∙ notes.arm;
    path = path ∙ ap (take (length a.path.items)) notes.path ∙ take_all (length a.path.items) a.path.items (omega arith);
    table = keys ∙ notes.table;
    found = ap (map range_view) found ∙ notes.found;
    noted = subst (λ t. AreNoted t a.arm a.path.items above notes.added spots) (sym keys) notes.noted;
  };
}

-- one more part was entered
pub enters-more : (a mid opened pushed : Finding) (above : ℕ) (spots : List Spot) (at n : ℕ) (c : MCtor) (outer inner : List Spot) → Enters a mid above spots at outer →
    outer ≡ map (spot_below c 0) inner → Opens mid opened at c 0 n → pushed.places.keys ≡ opened.places.keys → pushed.found.items ≡ opened.found.items → pushed.arm ≡ opened.arm →
    pushed.path.items ≡ opened.path.items ++ 0 ∷ [] → Enters a pushed above spots n inner
enters-more a mid opened pushed above spots at n c outer inner h e o keys found arm path =
    let whole : pushed.path.items ≡ mid.path.items ++ 0 ∷ [] = path ∙ ap (λ xs. xs ++ 0 ∷ []) o.grows.path in
    record {
      longer = let g = ap length whole in let l = length_push mid.path.items 0 in let s = h.longer in omega (arith, g, l, s);
      found = λ new last notes keys' found' arm' path'.
          let back : Finding = record new { path = mid.path } in
          let there : new.path.items ≡ mid.path.items ++ 0 ∷ [] = notes.path ∙ whole in
          let cut : mid.path.items ≡ take (vec_len new.path - 1) new.path.items =
          sym (ap (λ k. take (k - 1) new.path.items) new.path.ok.0 ∙ ap (λ xs. take (length xs - 1) xs) there ∙ all-but-last mid.path.items 0) in
          let below = notes-below mid opened pushed new back at c 0 n inner o keys found arm path notes refl refl refl cut in
          h.found back last (subst (Notes mid back at) (sym e) below) keys' found' arm'
          (path' ∙ ap (take (length a.path.items)) there ∙ take-append-le (length a.path.items) mid.path.items (0 ∷ []) h.longer);
    }

-- a part that stands alone was entered
pub enters-lone : {T : Type 0} (a mid pushed : Finding) (above : ℕ) (spots : List Spot) (at n : ℕ) (p q : DePat T) → Enters a mid above spots at (spots_in (tree p)) → IsLone p q →
    GoesIn mid pushed at (placed_ctor p) n → Enters a pushed above spots n (spots_in (tree q))
enters-lone a mid pushed above spots at n p q e lone g =
    enters-more a mid g.opened pushed above spots at n (placed_ctor p) (spots_in (tree p)) (spots_in (tree q)) e (spots_lone p q lone.only lone.plain) g.opens g.table g.found g.arm g.path

-- ---- a part that stands alone

one_item : {X : Type 0} (xs : List X) (x : X) → length xs ≡ 1 → slice_get xs 0 ≡ Some x → xs ≡ x ∷ []
one_item [] x l e = cc
one_item (y ∷ []) x l e = ap (λ z. z ∷ []) (some_same y x e)
one_item (y ∷ z ∷ zs) x l e = let no : suc (suc (length zs)) ≡ 1 = l in absurd (omega (arith, no))

pub only-part : {T : Type 0} (p q : DePat T) → length (placed_subs p) ≡ 1 → slice_get (placed_subs p) 0 ≡ Some q → placed_subs p ≡ q ∷ []
only-part p q = one_item (placed_subs p) q

pub lone-smaller : {T : Type 0} (p q : DePat T) → IsLone p q → pattern_size (tree q) < pattern_size (tree p)
lone-smaller p q lone =
    let there : slice_get (subs_of (tree p)) 0 ≡ Some (tree q) = ap (λ xs. slice_get xs 0) (subs_of-tree p ∙ ap (map tree) lone.only) in
    sub_smaller (tree p) 0 (tree q) there
