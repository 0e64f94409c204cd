-- The search goes from arm to arm.
use Rattle.std.proofs.Common.{◌≡◌, ◌<◌, ◌≤◌, ◌⊎◌, inl, inr, ℕ, ◌+◌, List, [], ◌∷◌, map, length, slice_get, Some, sym, ap, subst, ◌∙◌, arith}
use Rattle.std.specs.List.{Contains}
use Rattle.std.proofs.lemmas.Bool.{cases_eq}
use Rattle.std.proofs.lemmas.List.Elements.{Contains-append_left, Contains-append_right, Contains-append_cases}
use Rattle.match_model.specs.ArenaPatterns.{MDeArm}
use Rattle.pattern_arena.specs.declared.matches.CheckedArm.{CheckedArm}
use Rattle.pattern_arena.specs.Trees.{plain_arm}
use Rattle.pattern_lints.specs.declared.found.PlaceStep.{PlaceStep}
use Rattle.pattern_lints.specs.declared.found.Finding.{Finding}
use Rattle.pattern_lints.specs.Spots.{Spot, spots_in}
use Rattle.pattern_lints.specs.Finding.{RangeView, range_views, IsNoted, AreNoted, Notes, AreFound, AreFoundIn}
use Rattle.pattern_lints.proofs.SpotLaws.{nothing-in, first-in, later-in, first-or-later}
use Rattle.pattern_lints.proofs.Noting.{is-noted-stays}
use Rattle.pattern_lints.proofs.EndList.{below-length, below-mapped, one-at}

noted-each : (table : List PlaceStep) (arm : ℕ) (path : List ℕ) (above : ℕ) (fs : List RangeView) (spots : List Spot) → AreNoted table arm path above fs spots →
    (f : RangeView) → Contains fs f → (s : Spot) × Contains spots s × IsNoted table arm path above f s
noted-each table arm path above [] spots h f c = absurd (nothing-in f c)
noted-each table arm path above (g ∷ fs) [] h f c = absurd h
noted-each table arm path above (g ∷ fs) (s ∷ spots) h f c = elim (first-or-later g fs f c) [
  | inl e ↦ (s, first-in s spots, subst (λ x. IsNoted table arm path above x s) e h.0)
  | inr r ↦ let n = noted-each table arm path above fs spots h.1 f r in (n.0, later-in s spots n.0 n.1, n.2)
]

noted-all : (table : List PlaceStep) (arm : ℕ) (path : List ℕ) (above : ℕ) (fs : List RangeView) (spots : List Spot) → AreNoted table arm path above fs spots →
    (s : Spot) → Contains spots s → (f : RangeView) × Contains fs f × IsNoted table arm path above f s
noted-all table arm path above fs [] h s c = absurd (nothing-in s c)
noted-all table arm path above [] (t ∷ spots) h s c = absurd h
noted-all table arm path above (f ∷ fs) (t ∷ spots) h s c = elim (first-or-later t spots s c) [
  | inl e ↦ (f, first-in f fs, subst (λ x. IsNoted table arm path above f x) e h.0)
  | inr r ↦ let n = noted-all table arm path above fs spots h.1 s r in (n.0, later-in f fs n.0 n.1, n.2)
]

-- before the first arm
pub found-none : {T : Type 0} (arms : List (MDeArm T)) (table : List PlaceStep) → AreFound arms 0 table []
found-none arms table = record { each = λ f c. absurd (nothing-in f c); all = λ i a s l. absurd (omega (arith, l)) }

-- one arm more
pub found-more : {T : Type 0} (arms : List (MDeArm T)) (j : ℕ) (arm : MDeArm T) (a b : Finding) → slice_get arms j ≡ Some arm → a.arm ≡ j → a.path.items ≡ [] →
    AreFound arms j a.places.keys (range_views a) → Notes a b 0 (spots_in arm.pat) → AreFound arms (j + 1) b.places.keys (range_views b)
found-more {T} arms j arm a b there at path h notes = record {
  each = λ f c. elim (Contains-append_cases (range_views a) notes.added f (subst (λ xs. Contains xs f) notes.found c)) [
    | inl old ↦
        let e = h.each f old in
        let s = e.1.2 in
        (omega (arith, e.0), (e.1.0, e.1.1, (s.0, s.1, grown f.arm f s.0 s.2)))
    | inr new ↦
        let n = noted-each b.places.keys j [] 0 notes.added (spots_in arm.pat) noted f new in
        let is : f.arm ≡ j = n.2.arm_is in
        (omega (arith, is), (arm, ap (slice_get arms) is ∙ there, (n.0, n.1, subst (λ k. IsNoted b.places.keys k [] 0 f n.0) (sym is) n.2)))
  ];
  all = λ i p s l e c. elim (split i j l) [
    | inl before ↦
        let o = h.all i p s before e c in
        (o.0, subst (λ xs. Contains xs o.0) (sym notes.found) (Contains-append_left (range_views a) notes.added o.0 o.1), grown i o.0 s o.2)
    | inr here ↦
        let same : p ≡ arm = one-at arms i j p arm here e there in
        let n = noted-all b.places.keys j [] 0 notes.added (spots_in arm.pat) noted s (subst (λ (x : MDeArm T). Contains (spots_in x.pat) s) same c) in (
          n.0,
          subst (λ xs. Contains xs n.0) (sym notes.found) (Contains-append_right (range_views a) notes.added n.0 n.1),
          subst (λ k. IsNoted b.places.keys k [] 0 n.0 s) (sym here) n.2,
        )
  ];
}
  where
    noted : AreNoted b.places.keys j [] 0 notes.added (spots_in arm.pat)
    noted = subst (λ p. AreNoted b.places.keys j p 0 notes.added (spots_in arm.pat)) path (subst (λ k. AreNoted b.places.keys k a.path.items 0 notes.added (spots_in arm.pat)) at notes.noted)

    grown : (i : ℕ) (f : RangeView) (s : Spot) → IsNoted a.places.keys i [] 0 f s → IsNoted b.places.keys i [] 0 f s
    grown i f s n = subst (λ t. IsNoted t i [] 0 f s) (sym notes.table) (is-noted-stays a.places.keys notes.more i [] 0 f s n)

    split : (i j : ℕ) → i < j + 1 → (i < j) ⊎ (i ≡ j)
    split i j l = elim (cases_eq i j) [ inl e ↦ inr e | inr n ↦ inl (omega (arith, l, n)) ]

-- all arms
pub found-all : {T : Type 0} (arms : List (CheckedArm T)) (j : ℕ) (table : List PlaceStep) (fs : List RangeView) → length arms ≤ j → AreFound (map plain_arm arms) j table fs →
    AreFoundIn (map plain_arm arms) fs
found-all arms j table fs l h = (
  table,
  record {
    each = λ f c. let e = h.each f c in (below-length (map plain_arm arms) f.arm e.1.0 e.1.1, e.1);
    all = λ i a s k at c. let less = below-mapped plain_arm arms i a at in h.all i a s (omega (arith, less, l)) at c;
  },
)
