-- What a pattern of a constructor does on a value that it builds, by its patterns on the parts.
use Rattle.std.proofs.Common.{◌≡◌, ◌≤◌, ℕ, zero, suc, ◌+◌, ◌-◌, true, List, [], ◌∷◌, ◌++◌, map, length, take, drop, Some, refl, sym, ap, ◌∙◌, arith, length-append}
use Rattle.std.proofs.lemmas.List.{map-append}
use Rattle.match_model.specs.Values.{MValue, Row, parts_of, values_list, MValues}
use Rattle.match_model.specs.Constructors.{FixedShape, LongerShape, MCtor, SingleCtor, PointCtor, LaterCtor, OtherTextCtor, VariantCtor, FlagCtor, NumbersCtor, TextCtor, RowCtor, WildCtor, OrCtor, builds}
use Rattle.match_model.specs.Matching.{span_way}
use Rattle.match_model.specs.Ways.{Way}
use Rattle.match_model.specs.ArenaPatterns.{MDePat, MDePats, de_pats_list}
use Rattle.match_model.specs.ArenaWays.{NumberedPart, numbered_from, parts_met, parts_built, ways_where, with_spans_of, subs_ways, ways_by_ctor}
use Rattle.match_model.specs.Places.{some_if}
use Rattle.match_model.specs.Rows.{Head, heads_of}
use Rattle.match_model.specs.Keys.{Decision}
use Rattle.keyed_rows.proofs.PullOut.{done_of}
use Rattle.keyed_rows.proofs.PieceKeeps.{all_done, heads_done, subs-done, between-done}

parts-numbered : (i : ℕ) (vs : List MValue) → map (λ n. n.part) (numbered_from i vs) ≡ vs
parts-numbered i [] = refl
parts-numbered i (v ∷ vs) = ap (λ l. v ∷ l) (parts-numbered (suc i) vs)

length-numbered : (i : ℕ) (vs : List MValue) → length (numbered_from i vs) ≡ length vs
length-numbered i [] = refl
length-numbered i (v ∷ vs) = ap suc (length-numbered (suc i) vs)

module _ (decides : ℕ → Decision) where
  spans-done : (s : Way) (ws : List Way) → all_done decides (map (with_spans_of s) ws) ≡ all_done decides ws
  spans-done s [] = refl
  spans-done s (w ∷ ws) = ap (λ l. done_of decides w ∷ l) (spans-done s ws)

-- a constructor that is no wildcard, no or-pattern and no row with a rest
abbrev pub MeetsAll : MCtor → Type 0
MeetsAll WildCtor = ⊥
MeetsAll OrCtor = ⊥
MeetsAll (RowCtor (LongerShape f b)) = ⊥
MeetsAll c = Unit {0}

module _ {T : Type 0} (decides : ℕ → Decision) where
  -- all the parts, where the constructor builds the value
  where-done : (c : MCtor) (subs : MDePats T) (u : MValue) → builds [] c u ≡ true →
      parts_met c (numbered_from 0 (parts_of u)) ≡ numbered_from 0 (parts_of u) →
      length (de_pats_list subs) ≡ length (parts_of u) →
      all_done decides (ways_where (parts_built c u) (λ parts. subs_ways subs parts)) ≡ heads_done decides
      (map Some (de_pats_list subs)) (parts_of u)
  where-done c subs u b met count =
      ap (λ t. all_done decides (ways_where (some_if t (parts_met c (numbered_from 0 (parts_of u))))
      (λ parts. subs_ways subs parts))) b
      ∙ (ap (λ l. all_done decides (subs_ways subs l)) met
      ∙ (subs-done decides subs (numbered_from 0 (parts_of u)) (count ∙ sym (length-numbered 0 (parts_of u)))
      ∙ ap (heads_done decides (map Some (de_pats_list subs))) (parts-numbered 0 (parts_of u))))

  -- its patterns meet all parts, and stand for them
  pub all-met : (c : MCtor) (subs : MDePats T) (at n : ℕ) (alternatives : MValue → List Way) (u : MValue) →
      MeetsAll c → builds [] c u ≡ true → length (de_pats_list subs) ≡ length (parts_of u) →
      all_done decides (ways_by_ctor c at alternatives (λ parts. subs_ways subs parts) u) ≡ heads_done decides
      (heads_of c (map Some (de_pats_list subs)) n) (parts_of u)
  all-met SingleCtor subs at n a u m b e = where-done SingleCtor subs u b refl e
  all-met PointCtor subs at n a u m b e = where-done PointCtor subs u b refl e
  all-met LaterCtor subs at n a u m b e = where-done LaterCtor subs u b refl e
  all-met OtherTextCtor subs at n a u m b e = where-done OtherTextCtor subs u b refl e
  all-met (VariantCtor k) subs at n a u m b e = where-done (VariantCtor k) subs u b refl e
  all-met (FlagCtor t) subs at n a u m b e = where-done (FlagCtor t) subs u b refl e
  all-met (NumbersCtor r) subs at n a u m b e =
      spans-done decides (span_way at r) (ways_where (parts_built (NumbersCtor r) u) (λ parts. subs_ways subs parts))
      ∙ where-done (NumbersCtor r) subs u b refl e
  all-met (TextCtor t) subs at n a u m b e = where-done (TextCtor t) subs u b refl e
  all-met (RowCtor (FixedShape k)) subs at n a u m b e = where-done (RowCtor (FixedShape k)) subs u b refl e
  all-met (RowCtor (LongerShape f g)) subs at n a u m b e = elim m [ ]
  all-met WildCtor subs at n a u m b e = elim m [ ]
  all-met OrCtor subs at n a u m b e = elim m [ ]

take-map : {A B : Type 0} (f : A → B) (n : ℕ) (xs : List A) → map f (take n xs) ≡ take n (map f xs)
take-map f zero xs = refl
take-map f (suc n) [] = refl
take-map f (suc n) (x ∷ xs) = ap (λ l. f x ∷ l) (take-map f n xs)

drop-map : {A B : Type 0} (f : A → B) (n : ℕ) (xs : List A) → map f (drop n xs) ≡ drop n (map f xs)
drop-map f zero xs = refl
drop-map f (suc n) [] = refl
drop-map f (suc n) (x ∷ xs) = drop-map f n xs

take-length : {A : Type 0} (n : ℕ) (xs : List A) → n ≤ length xs → length (take n xs) ≡ n
take-length zero xs h = refl
take-length (suc n) [] h = absurd (omega (arith, h))
take-length (suc n) (x ∷ xs) h = ap suc (take-length n xs (omega (arith, h)))

drop-length : {A : Type 0} (n : ℕ) (xs : List A) → n ≤ length xs → length (drop n xs) + n ≡ length xs
drop-length zero xs h = omega arith
drop-length (suc n) [] h = absurd (omega (arith, h))
drop-length (suc n) (x ∷ xs) h =
    let r : length (drop n xs) + n ≡ length xs = drop-length n xs (omega (arith, h)) in omega (arith, r)

module _ {T : Type 0} (decides : ℕ → Decision) where
  -- a row with a rest, on parts that have its front, others, and its back
  pub longer-met : (f b : ℕ) (subs : MDePats T) (at n : ℕ) (alternatives : MValue → List Way) (items : MValues)
      (others xs : List MValue) → f + b ≤ length (values_list items) →
      builds [] (RowCtor (LongerShape f b)) (Row items) ≡ true → length (de_pats_list subs) ≡ f + b →
      length others ≡ n - (f + b) → xs ≡ take f (values_list items) ++ (others ++ drop (length (values_list items) - b)
      (values_list items)) →
      all_done decides (ways_by_ctor (RowCtor (LongerShape f b)) at alternatives (λ parts. subs_ways subs parts)
      (Row items)) ≡ heads_done decides (heads_of (RowCtor (LongerShape f b)) (map Some (de_pats_list subs)) n) xs
  longer-met f b subs at n a items others xs few built count rest is =
      ap (λ t. all_done decides (ways_where (some_if t (parts_met (RowCtor (LongerShape f b)) (numbered_from 0 l)))
      (λ parts. subs_ways subs parts))) built
      ∙ (subs-done decides subs met met-count
      ∙ (ap (heads_done decides (map Some (de_pats_list subs))) met-are
      ∙ (sym (between-done decides f (n - (f + b)) (map Some (de_pats_list subs)) (take f l) others
      (drop (length l - b) l) (take-length f l (omega (arith, few))) rest
      (omega (arith, count, length-map-some (de_pats_list subs))))
      ∙ ap (heads_done decides (heads_of (RowCtor (LongerShape f b)) (map Some (de_pats_list subs)) n)) (sym is))))
    where
      l : List MValue
      l = values_list items

      numbered : List NumberedPart
      numbered = numbered_from 0 l

      met : List NumberedPart
      met = take f numbered ++ drop (length numbered - b) numbered

      met-are : map (λ n. n.part) met ≡ take f l ++ drop (length l - b) l
      met-are =
          map-append (λ n. n.part) (take f numbered) (drop (length numbered - b) numbered)
          ∙ rw (
            take-map (λ n. n.part) f numbered,
            drop-map (λ n. n.part)
                (length numbered - b) numbered,
            parts-numbered 0 l,
            length-numbered 0 l,
          ) refl

      met-count : length (de_pats_list subs) ≡ length met
      met-count =
          let c : length numbered ≡ length l = length-numbered 0 l in
          let t : length (take f numbered) ≡ f = take-length f numbered (omega (arith, few, c)) in
          let d : length (drop (length numbered - b) numbered) + (length numbered - b) ≡ length numbered = drop-length
          (length numbered - b) numbered (omega arith) in
          let whole : length met ≡ length (take f numbered) + length (drop (length numbered - b) numbered) = length-append {A = NumberedPart} (take f numbered) (drop (length numbered - b) numbered) in
          omega (arith, few, c, t, d, whole, count)

      length-map-some : (ps : List (MDePat T)) → length (map {B = Head T} Some ps) ≡ length ps
      length-map-some [] = refl
      length-map-some (p ∷ ps) = ap suc (length-map-some ps)
