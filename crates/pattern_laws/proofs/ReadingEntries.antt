-- The list of what is unreachable in one arm, by offsets and in reading order, where its alternatives stand in any
-- order.
use Rattle.std.proofs.Common.{◌≡◌, ◌⊎◌, inl, inr, ℕ, ◌<◌, Bool, true, false, List, [], ◌∷◌, ◌++◌, map, nat_le, refl, sym, ap, subst, ◌∙◌, arith, if◌then◌else◌}
use Rattle.std.proofs.lemmas.List.{map-append}
use Rattle.match_model.specs.Lists.{Among}
use Rattle.match_model.specs.Match.{Alternatives, no_alternative, alternative}
use Rattle.match_model.specs.SourcePatterns.{ids_in}
use Rattle.match_model.specs.ArenaUnreachable.{put_in}
use Rattle.match_model.specs.Unreachable.{Entry, Listed, nothing_left, is_reachable, is_listed}
use Rattle.pattern_rules.specs.ArenaForms.{put_alternative, in_reading}
use Rattle.pattern_laws.specs.JudgedLaws.{by_offset}
use Rattle.pattern_laws.proofs.Reading.{Rising, among_left, among_right, rising_left, rising_right, rising_apart}
use Rattle.pattern_laws.proofs.EntryOrder.{all_in, all_in_both, AreAt, at_more, at_both, AreApart, all_swap}

-- the offsets of the alternatives, those inside each too, as they stand
abbrev pub offsets_of : Alternatives → List ℕ
offsets_of no_alternative = []
offsets_of (alternative id at inside others) = at ∷ (offsets_of inside ++ offsets_of others)

-- one of the alternatives has this name and stands at this offset
abbrev pub HasChoice : (id at : ℕ) → Alternatives → Type 0
HasChoice i a no_alternative = ⊥
HasChoice i a (alternative id at inside others) = ((i ≡ id) × (a ≡ at)) ⊎ (HasChoice i a inside ⊎ HasChoice i a others)

-- ---- each alternative is named by its offset

abbrev AllNamed : Alternatives → Type 0
AllNamed no_alternative = Unit {0}
AllNamed (alternative id at inside others) = (id ≡ at) × AllNamed inside × AllNamed others

put_named : (a : ℕ) (i y : Alternatives) → AllNamed i → AllNamed y → AllNamed (put_alternative a i y)
put_named a i no_alternative h k = (refl, h, tt)
put_named a i (alternative id at inside others) h k = go (nat_le a at) (put_named a i others h k.2)
  where
    go : (b : Bool) → AllNamed (put_alternative a i others) →
        AllNamed (if b then alternative a a i (alternative id at inside others) else alternative id at inside
        (put_alternative a i others))
    go true p = (refl, h, k)
    go false p = (k.0, k.1, p)

reading_named : (x : Alternatives) → AllNamed (in_reading x)
reading_named no_alternative = tt
reading_named (alternative id at inside others) = put_named at (in_reading inside) (in_reading others)
    (reading_named inside) (reading_named others)

named_offsets : (x : Alternatives) → AllNamed x → ids_in x ≡ offsets_of x
named_offsets no_alternative h = refl
named_offsets (alternative id at inside others) h =
    ap (λ n. n ∷ (ids_in inside ++ ids_in others)) h.0
    ∙ (ap (λ ns. at ∷ (ns ++ ids_in others)) (named_offsets inside h.1)
    ∙ ap (λ ns. at ∷ (offsets_of inside ++ ns)) (named_offsets others h.2))

-- in reading order names are offsets
pub reading_offsets : (x : Alternatives) → ids_in (in_reading x) ≡ offsets_of (in_reading x)
reading_offsets x = named_offsets (in_reading x) (reading_named x)

-- ---- offsets that rise once one more is put in

among_put : (a : ℕ) (i y : Alternatives) (u : ℕ) → Among u (a ∷ offsets_of i) →
    Among u (offsets_of (put_alternative a i y))
among_put a i no_alternative u h = among_left (a ∷ offsets_of i) [] u h
among_put a i (alternative id at inside others) u h = go (nat_le a at) (among_put a i others u h)
  where
    go : (b : Bool) → Among u (offsets_of (put_alternative a i others)) →
        Among u (offsets_of (if b then alternative a a i (alternative id at inside others) else alternative id at inside
        (put_alternative a i others)))
    go true p = among_left (a ∷ offsets_of i) (offsets_of (alternative id at inside others)) u h
    go false p = inr (among_right (offsets_of inside) (offsets_of (put_alternative a i others)) u p)

among_old : (a : ℕ) (i y : Alternatives) (u : ℕ) → Among u (offsets_of y) → Among u (offsets_of (put_alternative a i y))
among_old a i no_alternative u h = absurd h
among_old a i (alternative id at inside others) u h = go (nat_le a at) (λ k. among_old a i others u k) h
  where
    sides : Among u (offsets_of inside ++ offsets_of others) →
        (Among u (offsets_of others) → Among u (offsets_of (put_alternative a i others))) →
        Among u (offsets_of inside ++ offsets_of (put_alternative a i others))
    sides k f = by (offsets_of inside) k
      where
        by : (ns : List ℕ) → Among u (ns ++ offsets_of others) → Among u (ns ++ offsets_of (put_alternative a i others))
        by [] k = f k
        by (n ∷ ns) (inl e) = inl e
        by (n ∷ ns) (inr k) = inr (by ns k)

    go : (b : Bool) → (Among u (offsets_of others) → Among u (offsets_of (put_alternative a i others))) →
        Among u (at ∷ (offsets_of inside ++ offsets_of others)) →
        Among u (offsets_of (if b then alternative a a i (alternative id at inside others) else alternative id at inside
        (put_alternative a i others)))
    go true f k = among_right (a ∷ offsets_of i) (offsets_of (alternative id at inside others)) u k
    go false f (inl e) = inl e
    go false f (inr k) = inr (sides k f)

-- those of what was put in rise
pub put_rises : (a : ℕ) (i y : Alternatives) → Rising (offsets_of (put_alternative a i y)) → Rising (a ∷ offsets_of i)
put_rises a i no_alternative r = rising_left (a ∷ offsets_of i) [] r
put_rises a i (alternative id at inside others) r = go (nat_le a at) r (λ k. put_rises a i others k)
  where
    go : (b : Bool) → Rising (offsets_of (if b then alternative a a i (alternative id at inside others)
        else alternative id at inside (put_alternative a i others))) →
        (Rising (offsets_of (put_alternative a i others)) → Rising (a ∷ offsets_of i)) → Rising (a ∷ offsets_of i)
    go true k f = rising_left (a ∷ offsets_of i) (offsets_of (alternative id at inside others)) k
    go false k f = f (rising_right (at ∷ offsets_of inside) (offsets_of (put_alternative a i others)) k)

-- some of what stands behind numbers may be left out
fewer_rise : (ns ms ks : List ℕ) → Rising (ns ++ ms) → Rising ks → ((u : ℕ) → Among u ks → Among u ms) →
    Rising (ns ++ ks)
fewer_rise [] ms ks r q f = q
fewer_rise (n ∷ ns) ms ks r q f = (λ m a. r.0 m (moved ns m a), fewer_rise ns ms ks r.1 q f)
  where
    moved : (xs : List ℕ) (m : ℕ) → Among m (xs ++ ks) → Among m (xs ++ ms)
    moved [] m a = f m a
    moved (x ∷ xs) m (inl e) = inl e
    moved (x ∷ xs) m (inr a) = inr (moved xs m a)

-- those of the others rise
pub old_rises : (a : ℕ) (i y : Alternatives) → Rising (offsets_of (put_alternative a i y)) → Rising (offsets_of y)
old_rises a i no_alternative r = tt
old_rises a i (alternative id at inside others) r = go (nat_le a at) r (λ k. old_rises a i others k)
  where
    go : (b : Bool) → Rising (offsets_of (if b then alternative a a i (alternative id at inside others)
        else alternative id at inside (put_alternative a i others))) →
        (Rising (offsets_of (put_alternative a i others)) → Rising (offsets_of others)) →
        Rising (offsets_of (alternative id at inside others))
    go true k f = rising_right (a ∷ offsets_of i) (offsets_of (alternative id at inside others)) k
    go false k f =
        fewer_rise (at ∷ offsets_of inside) (offsets_of (put_alternative a i others)) (offsets_of others) k
        (f (rising_right (at ∷ offsets_of inside) (offsets_of (put_alternative a i others)) k)) (among_old a i others)

-- and none of them is one of what was put in
pub put_apart : (a : ℕ) (i y : Alternatives) → Rising (offsets_of (put_alternative a i y)) →
    AreApart (a ∷ offsets_of i) (offsets_of y)
put_apart a i no_alternative r u h k = k
put_apart a i (alternative id at inside others) r u h k = go (nat_le a at) r (λ q l. put_apart a i others q u h l)
  where
    among_either : (ns ms : List ℕ) → Among u (ns ++ ms) → Among u ns ⊎ Among u ms
    among_either [] ms l = inr l
    among_either (n ∷ ns) ms (inl e) = inl (inl e)
    among_either (n ∷ ns) ms (inr l) = by (among_either ns ms l)
      where
        by : Among u ns ⊎ Among u ms → Among u (n ∷ ns) ⊎ Among u ms
        by (inl m) = inl (inr m)
        by (inr m) = inr m

    go : (b : Bool) → Rising (offsets_of (if b then alternative a a i (alternative id at inside others)
        else alternative id at inside (put_alternative a i others))) →
        (Rising (offsets_of (put_alternative a i others)) → Among u (offsets_of others) → ⊥) → ⊥
    go true q f = rising_apart (a ∷ offsets_of i) (offsets_of (alternative id at inside others)) u q h k
    go false q f = by (among_either (at ∷ offsets_of inside) (offsets_of others) k)
      where
        by : Among u (at ∷ offsets_of inside) ⊎ Among u (offsets_of others) → ⊥
        by (inl l) = rising_apart (at ∷ offsets_of inside) (offsets_of (put_alternative a i others)) u q l
            (among_put a i others u h)
        by (inr l) = f (rising_right (at ∷ offsets_of inside) (offsets_of (put_alternative a i others)) q) l

-- the offsets of choices are those of the alternatives in reading order
choice_among : (x : Alternatives) (i a : ℕ) → HasChoice i a x → Among a (offsets_of (in_reading x))
choice_among no_alternative i a h = absurd h
choice_among (alternative id at inside others) i a (inl e) = among_put at (in_reading inside) (in_reading others) a
    (inl e.1)
choice_among (alternative id at inside others) i a (inr (inl h)) =
    among_put at (in_reading inside) (in_reading others) a (inr (choice_among inside i a h))
choice_among (alternative id at inside others) i a (inr (inr h)) =
    among_old at (in_reading inside) (in_reading others) a (choice_among others i a h)

-- where they rise, an offset has one name
pub one_name : (x : Alternatives) → Rising (offsets_of (in_reading x)) → (i k a : ℕ) → HasChoice i a x →
    HasChoice k a x → i ≡ k
one_name no_alternative r i k a h l = absurd h
one_name (alternative id at inside others) r i k a h l =
    go (λ c d. one_name inside (put_rises at (in_reading inside) (in_reading others) r).1 i k a c d)
    (λ c d. one_name others (old_rises at (in_reading inside) (in_reading others) r) i k a c d) h l
  where
    here : Rising (at ∷ offsets_of (in_reading inside))
    here = put_rises at (in_reading inside) (in_reading others) r

    apart : AreApart (at ∷ offsets_of (in_reading inside)) (offsets_of (in_reading others))
    apart = put_apart at (in_reading inside) (in_reading others) r

    not_inside : a ≡ at → (n : ℕ) → HasChoice n a inside → ⊥
    not_inside e n c = let less : at < a = here.0 a (choice_among inside n a c) in absurd (omega (arith, e, less))

    go : (HasChoice i a inside → HasChoice k a inside → i ≡ k) → (HasChoice i a others → HasChoice k a others → i ≡ k) →
        ((i ≡ id) × (a ≡ at)) ⊎ (HasChoice i a inside ⊎ HasChoice i a others) →
        ((k ≡ id) × (a ≡ at)) ⊎ (HasChoice k a inside ⊎ HasChoice k a others) → i ≡ k
    go within behind (inl e) (inl f) = e.0 ∙ sym f.0
    go within behind (inl e) (inr (inl c)) = absurd (not_inside e.1 k c)
    go within behind (inl e) (inr (inr c)) = absurd (apart a (inl e.1) (choice_among others k a c))
    go within behind (inr (inl c)) (inl f) = absurd (not_inside f.1 i c)
    go within behind (inr (inr c)) (inl f) = absurd (apart a (inl f.1) (choice_among others i a c))
    go within behind (inr (inl c)) (inr (inl d)) = within c d
    go within behind (inr (inl c)) (inr (inr d)) = absurd
        (apart a (inr (choice_among inside i a c)) (choice_among others k a d))
    go within behind (inr (inr c)) (inr (inl d)) = absurd
        (apart a (inr (choice_among inside k a d)) (choice_among others i a c))
    go within behind (inr (inr c)) (inr (inr d)) = behind c d

-- ---- the entries

-- the offsets at which entries stand
abbrev pub keys : List Entry → List ℕ
keys es = map (λ e. e.at) es

key_among : (j : ℕ) (ns : List ℕ) (es : List Entry) → AreAt j ns es → (m : ℕ) → Among m (keys es) → Among m ns
key_among j ns [] h m a = absurd a
key_among j ns (e ∷ es) h m (inl same) = subst (λ n. Among n ns) (sym same) h.0.1
key_among j ns (e ∷ es) h m (inr a) = key_among j ns es h.1 m a

across : (ns ms : List ℕ) (n m : ℕ) → Rising (ns ++ ms) → Among n ns → Among m ms → n < m
across [] ms n m r a b = absurd a
across (k ∷ ns) ms n m r (inl e) b = let less : k < m = r.0 m (among_right ns ms m b) in omega (arith, e, less)
across (k ∷ ns) ms n m r (inr a) b = across ns ms n m r.1 a b

both_rise : (ns ms : List ℕ) → ((n m : ℕ) → Among n ns → Among m ms → n < m) → Rising ns → Rising ms → Rising (ns ++ ms)
both_rise [] ms f r q = q
both_rise (k ∷ ns) ms f r q = (λ m a. by m (either ns m a), both_rise ns ms (λ n m a b. f n m (inr a) b) r.1 q)
  where
    either : (xs : List ℕ) (m : ℕ) → Among m (xs ++ ms) → Among m xs ⊎ Among m ms
    either [] m a = inr a
    either (x ∷ xs) m (inl e) = inl (inl e)
    either (x ∷ xs) m (inr a) = elim (either xs m a) [ inl b ↦ inl (inr b) | inr b ↦ inr b ]

    by : (m : ℕ) → Among m ns ⊎ Among m ms → k < m
    by m (inl a) = r.0 m a
    by m (inr b) = f k m (inl refl) b

-- the entry of an alternative
abbrev left_one : (arm id at : ℕ) → Entry
left_one j i a = record { arm = j; id = i; at = a; whole = false }

module _ (S : ℕ → Type 0) (j : ℕ) where
  -- they stand at offsets of the alternatives
  pub listed_at : (x : Alternatives) (es : List Entry) → Listed S j x es → AreAt j (offsets_of x) es
  listed_at x es nothing_left = tt
  listed_at x es (is_reachable id at inside others fs gs r h k) =
      at_both j (offsets_of (alternative id at inside others)) fs gs
      (at_more j (offsets_of inside) (offsets_of (alternative id at inside others)) fs
      (λ u a. inr (among_left (offsets_of inside) (offsets_of others) u a)) (listed_at inside fs h))
      (at_more j (offsets_of others) (offsets_of (alternative id at inside others)) gs
      (λ u a. inr (among_right (offsets_of inside) (offsets_of others) u a)) (listed_at others gs k))
  listed_at x es (is_listed id at inside others gs r k) = (
    (refl, inl refl),
    at_more j (offsets_of others) (offsets_of (alternative id at inside others)) gs
        (λ u a. inr (among_right (offsets_of inside) (offsets_of others) u a)) (listed_at others gs k),
  )

  -- their offsets rise where those of the alternatives do
  pub listed_rises : (x : Alternatives) (es : List Entry) → Listed S j x es → Rising (offsets_of x) → Rising (keys es)
  listed_rises x es nothing_left r = tt
  listed_rises x es (is_reachable id at inside others fs gs q h k) r =
      subst Rising (sym (map-append (λ e. e.at) fs gs))
      (both_rise (keys fs) (keys gs)
      (λ n m a b. across (offsets_of inside) (offsets_of others) n m r.1
      (key_among j (offsets_of inside) fs (listed_at inside fs h) n a)
      (key_among j (offsets_of others) gs (listed_at others gs k) m b))
      (listed_rises inside fs h (rising_left (offsets_of inside) (offsets_of others) r.1))
      (listed_rises others gs k (rising_right (offsets_of inside) (offsets_of others) r.1)))
  listed_rises x es (is_listed id at inside others gs q k) r = (
    λ m a. r.0 m (among_right (offsets_of inside) (offsets_of others) m
        (key_among j (offsets_of others) gs (listed_at others gs k) m a)),
    listed_rises others gs k (rising_right (offsets_of inside) (offsets_of others) r.1),
  )

  -- entries of the alternatives that go in as these do
  pub record Reordered (y : Alternatives) (es : List Entry) : Type 0 where
    pub out : List Entry
    pub listed : Listed S j y out
    pub same : (z : List Entry) → all_in es z ≡ all_in out z

  -- those of one more alternative, put in among the others
  put_listed : (a : ℕ) (inside : Alternatives) (ns : List ℕ) (block : List Entry) → AreAt j ns block →
      ((others : Alternatives) (rest : List Entry) → Listed S j others rest → Listed S j (alternative a a inside others)
      (block ++ rest)) →
      (y : Alternatives) (gs : List Entry) → Listed S j y gs → AreApart ns (offsets_of y) →
      Reordered (put_alternative a inside y) (block ++ gs)
  put_listed a inside ns block l front y gs nothing_left d =
      record { out = block ++ []; listed = front no_alternative [] nothing_left; same = λ z. refl }
  put_listed a inside ns block l front y gs (is_reachable id at within others ws us q h k) d =
      go (nat_le a at) (put_listed a inside ns block l front others us k
      (λ u m n. d u m (inr (among_right (offsets_of within) (offsets_of others) u n))))
    where
      swapped : (us out z : List Entry) → all_in (block ++ us) z ≡ all_in out z →
          all_in (block ++ (ws ++ us)) z ≡ all_in (ws ++ out) z
      swapped us out z e =
          all_in_both block (ws ++ us) z
          ∙ (ap (all_in block) (all_in_both ws us z)
          ∙ (all_swap j ns (offsets_of within) block ws (all_in us z)
          (λ u m n. d u m (inr (among_left (offsets_of within) (offsets_of others) u n))) l (listed_at within ws h)
          ∙ (ap (all_in ws) (sym (all_in_both block us z) ∙ e) ∙ sym (all_in_both ws out z))))

      go : (b : Bool) → Reordered (put_alternative a inside others) (block ++ us) →
          Reordered (if b then alternative a a inside (alternative id at within others)
          else alternative id at within (put_alternative a inside others)) (block ++ (ws ++ us))
      go true p = record {
        out = block ++ (ws ++ us);
        listed = front (alternative id at within others) (ws ++ us) (is_reachable id at within others ws us q h k);
        same = λ z. refl;
      }
      go false p = record {
        out = ws ++ p.out;
        listed = is_reachable id at within (put_alternative a inside others) ws p.out q h p.listed;
        same = λ z. swapped us p.out z (p.same z);
      }
  put_listed a inside ns block l front y gs (is_listed id at within others us q k) d =
      go (nat_le a at) (put_listed a inside ns block l front others us k
      (λ u m n. d u m (inr (among_right (offsets_of within) (offsets_of others) u n))))
    where
      swapped : (out z : List Entry) → all_in (block ++ us) z ≡ all_in out z → all_in (block ++ left_one j id at ∷ us) z
          ≡ all_in (left_one j id at ∷ out) z
      swapped out z e =
          all_in_both block (left_one j id at ∷ us) z
          ∙ (all_swap j ns (at ∷ []) block (left_one j id at ∷ []) (all_in us z) (λ u m n. apart u m n) l
          ((refl, inl refl), tt)
          ∙ ap (all_in (left_one j id at ∷ [])) (sym (all_in_both block us z) ∙ e))
        where
          apart : (u : ℕ) → Among u ns → Among u (at ∷ []) → ⊥
          apart u m (inl same) = d u m (inl same)
          apart u m (inr n) = n

      go : (b : Bool) → Reordered (put_alternative a inside others) (block ++ us) →
          Reordered (if b then alternative a a inside (alternative id at within others)
          else alternative id at within (put_alternative a inside others)) (block ++ left_one j id at ∷ us)
      go true p = record {
        out = block ++ left_one j id at ∷ us;
        listed = front (alternative id at within others) (left_one j id at ∷ us) (is_listed id at within others us q k);
        same = λ z. refl;
      }
      go false p = record {
        out = left_one j id at ∷ p.out;
        listed = is_listed id at within (put_alternative a inside others) p.out q p.listed;
        same = λ z. swapped p.out z (p.same z);
      }

  -- the entries of an arm, by offsets, are those of the alternatives in reading order
  pub reordered : (R : ℕ → Type 0) (x : Alternatives) (es : List Entry) → Listed R j x es →
      ((i a : ℕ) → HasChoice i a x → R i → S a) → ((i a : ℕ) → HasChoice i a x → S a → R i) →
      Rising (offsets_of (in_reading x)) → Reordered (in_reading x) (map by_offset es)
  reordered R x es nothing_left to back r = record { out = []; listed = nothing_left; same = λ z. refl }
  reordered R x es (is_reachable id at inside others fs gs q h k) to back r =
      let here = put_rises at (in_reading inside) (in_reading others) r in
      let first : Reordered (in_reading inside) (map by_offset fs) =
      reordered R inside fs h (λ i a c. to i a (inr (inl c))) (λ i a c. back i a (inr (inl c))) here.1 in
      let rest : Reordered (in_reading others) (map by_offset gs) =
      reordered R others gs k (λ i a c. to i a (inr (inr c))) (λ i a c. back i a (inr (inr c)))
      (old_rises at (in_reading inside) (in_reading others) r) in
      let both : Reordered (put_alternative at (in_reading inside) (in_reading others)) (first.out ++ rest.out) =
      put_listed at (in_reading inside) (at ∷ offsets_of (in_reading inside)) first.out
      (at_more j (offsets_of (in_reading inside)) (at ∷ offsets_of (in_reading inside)) first.out (λ u a. inr a)
      (listed_at (in_reading inside) first.out first.listed))
      (λ ys us l. is_reachable at at (in_reading inside) ys first.out us (to id at (inl (refl, refl)) q) first.listed l)
      (in_reading others) rest.out rest.listed (put_apart at (in_reading inside) (in_reading others) r) in
      record {
        out = both.out;
        listed = both.listed;
        same = λ z. ap (λ xs. all_in xs z) (map-append by_offset fs gs)
            ∙ (all_in_both (map by_offset fs) (map by_offset gs) z
            ∙ (first.same (all_in (map by_offset gs) z)
            ∙ (ap (all_in first.out) (rest.same z) ∙ (sym (all_in_both first.out rest.out z) ∙ both.same z))));
      }
  reordered R x es (is_listed id at inside others gs q k) to back r =
      let rest : Reordered (in_reading others) (map by_offset gs) =
      reordered R others gs k (λ i a c. to i a (inr (inr c))) (λ i a c. back i a (inr (inr c)))
      (old_rises at (in_reading inside) (in_reading others) r) in
      let both : Reordered (put_alternative at (in_reading inside) (in_reading others)) (left_one j at at ∷ rest.out) =
      put_listed at (in_reading inside) (at ∷ offsets_of (in_reading inside)) (left_one j at at ∷ [])
      ((refl, inl refl), tt)
      (λ ys us l. is_listed at at (in_reading inside) ys us (λ s. q (back id at (inl (refl, refl)) s)) l)
      (in_reading others) rest.out rest.listed (put_apart at (in_reading inside) (in_reading others) r) in
      record {
        out = both.out;
        listed = both.listed;
        same = λ z. ap (put_in (left_one j at at)) (rest.same z) ∙ both.same z;
      }
