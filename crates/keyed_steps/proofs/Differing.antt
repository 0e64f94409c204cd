-- Names that differ: the tests and the statements say the same; a step at any column keeps it.
use Rattle.std.proofs.Common.{◌≡◌, ◌⊎◌, inl, inr, ℕ, zero, suc, Bool, true, false, not, ◌&&◌, ◌||◌, List, [], ◌∷◌, ◌++◌, refl, sym, ap, ◌∙◌, subst}
use Rattle.std.specs.List.{list_all, list_any}
use Rattle.match_model.specs.Texts.{text_eq}
use Rattle.match_model.specs.Rows.{Head}
use Rattle.match_model.specs.WellTyped.{is_new, are_distinct, are_apart, head_names, head_names_differ, heads_names_differ, bound_names}
use Rattle.match_model.proofs.Basics.{both, and_true, text_equal, text_itself}
use Rattle.match_model.specs.Lists.{Among}
use Rattle.match_model.specs.Steps.{Replacement, with_head, with_others, replacements_at}
use Rattle.keyed_rows.proofs.Lists.{every-append}
use Rattle.keyed_rows.proofs.Parting.{among-map}
use Rattle.keyed_rows.proofs.PullOut.{left-among, right-among}
use Rattle.keyed_rows.proofs.RowOrder.{among-append}
use Rattle.keyed_steps.specs.Names.{Disjoint, IsInside, names_of, HeadsApart, AreFine, IsFineReplacement}

pub new-to : (xs : List (List ℕ)) (n : List ℕ) → is_new xs n ≡ true → Among n xs → ⊥
new-to [] n h a = a
new-to (x ∷ xs) n h (inl e) =
    clash (text_eq n x) (list_any (text_eq n) xs) (subst (λ y. text_eq n y ≡ true) e (text_itself n)) h
  where
    clash : (a b : Bool) → a ≡ true → not (a || b) ≡ true → ⊥
    clash true b p q = cc
    clash false b p q = cc
new-to (x ∷ xs) n h (inr a) = new-to xs n (later (text_eq n x) (list_any (text_eq n) xs) h) a
  where
    later : (a b : Bool) → not (a || b) ≡ true → not b ≡ true
    later true b p = cc
    later false b p = p

pub new-from : (xs : List (List ℕ)) (n : List ℕ) → (Among n xs → ⊥) → is_new xs n ≡ true
new-from [] n h = refl
new-from (x ∷ xs) n h = go (text_eq n x) refl (new-from xs n (λ a. h (inr a)))
  where
    go : (b : Bool) → text_eq n x ≡ b → is_new xs n ≡ true → not (text_eq n x || list_any (text_eq n) xs) ≡ true
    go true e r = absurd (h (inl (text_equal n x e)))
    go false e r = ap (λ b. not (b || list_any (text_eq n) xs)) e ∙ r

pub apart-to : (xs ys : List (List ℕ)) → are_apart xs ys ≡ true → Disjoint xs ys
apart-to xs [] h n a b = b
apart-to xs (y ∷ ys) h n a (inl e) =
    new-to xs y (both (is_new xs y) (list_all (is_new xs) ys) h).0 (subst (λ z. Among z xs) e a)
apart-to xs (y ∷ ys) h n a (inr b) = apart-to xs ys (both (is_new xs y) (list_all (is_new xs) ys) h).1 n a b

pub apart-from : (xs ys : List (List ℕ)) → Disjoint xs ys → are_apart xs ys ≡ true
apart-from xs [] h = refl
apart-from xs (y ∷ ys) h =
    and_true (is_new xs y) (list_all (is_new xs) ys) (new-from xs y (λ a. h y a (inl refl)))
    (apart-from xs ys (λ n a b. h n a (inr b)))

pub distinct-append : (xs ys : List (List ℕ)) → are_distinct xs ≡ true → are_distinct ys ≡ true → Disjoint xs ys →
    are_distinct (xs ++ ys) ≡ true
distinct-append [] ys p q d = q
distinct-append (x ∷ xs) ys p q d =
    let s = both (is_new xs x) (are_distinct xs) p in
    and_true (is_new (xs ++ ys) x) (are_distinct (xs ++ ys)) (new-from (xs ++ ys) x
    (λ a. elim (among-append xs ys x a) [ inl k ↦ new-to xs x s.0 k | inr k ↦ d x (inl refl) k ]))
    (distinct-append xs ys s.1 q (λ n a b. d n (inr a) b))

module _ {T : Type 0} where
  pub fine-to : (caught : List (List ℕ)) (hs : List (Head T)) → heads_names_differ caught hs ≡ true → AreFine caught hs
  fine-to caught [] h = record { distinct = h; each = tt; beside = λ n a b. b; apart = tt }
  fine-to caught (x ∷ hs) h =
      let a = both (head_names_differ x) (are_apart caught (head_names x) &&
      (are_apart (head_names x) (names_of hs) && heads_names_differ caught hs)) h in
      let b = both (are_apart caught (head_names x)) (are_apart (head_names x)
      (names_of hs) && heads_names_differ caught hs) a.1 in
      let c = both (are_apart (head_names x) (names_of hs)) (heads_names_differ caught hs) b.1 in
      let r : AreFine caught hs = fine-to caught hs c.1 in
      record {
        distinct = r.distinct;
        each = (a.0, r.each);
        beside =
            λ n i j. elim (among-append (head_names x) (names_of hs) n j)
            [ inl k ↦ apart-to caught (head_names x) b.0 n i k | inr k ↦ r.beside n i k ];
        apart = (apart-to (head_names x) (names_of hs) c.0, r.apart);
      }

  pub fine-from : (caught : List (List ℕ)) (hs : List (Head T)) → AreFine caught hs →
      heads_names_differ caught hs ≡ true
  fine-from caught [] f = f.distinct
  fine-from caught (x ∷ hs) f =
      and_true (head_names_differ x) (are_apart caught (head_names x) &&
      (are_apart (head_names x) (names_of hs) && heads_names_differ caught hs)) f.each.0
      (and_true (are_apart caught (head_names x)) (are_apart (head_names x)
      (names_of hs) && heads_names_differ caught hs) (apart-from caught (head_names x)
      (λ n a b. f.beside n a (left-among (head_names x) (names_of hs) n b)))
      (and_true (are_apart (head_names x) (names_of hs)) (heads_names_differ caught hs)
      (apart-from (head_names x) (names_of hs) f.apart.0)
      (fine-from caught hs (record {
        distinct = f.distinct;
        each = f.each.1;
        beside = λ n a b. f.beside n a
            (right-among (head_names x) (names_of hs) n b);
        apart = f.apart.1;
      }))))

  pub of-append : (xs ys : List (Head T)) (n : List ℕ) → Among n (names_of (xs ++ ys)) → Among n (names_of xs)
      ⊎ Among n (names_of ys)
  of-append [] ys n a = inr a
  of-append (x ∷ xs) ys n a = elim (among-append (head_names x) (names_of (xs ++ ys)) n a) [
    | inl k ↦ inl (left-among (head_names x) (names_of xs) n k)
    | inr k ↦ elim (of-append xs ys n k) [ inl j ↦ inl (right-among (head_names x) (names_of xs) n j) | inr j ↦ inr j ]
  ]

  apart-append : (xs ys : List (Head T)) → HeadsApart xs → HeadsApart ys → Disjoint (names_of xs) (names_of ys) →
      HeadsApart (xs ++ ys)
  apart-append [] ys p q d = q
  apart-append (x ∷ xs) ys p q d = (
    λ n a b. elim (of-append xs ys n b) [
      | inl k ↦ p.0 n a k
      | inr k ↦ d n
          (left-among (head_names x) (names_of xs) n a) k
    ],
    apart-append xs ys p.1 q (λ n a b. d n (right-among (head_names x) (names_of xs) n a) b),
  )

  -- a replacement in a row, of heads of which each has good replacements
  module _ (f : Head T → List (Replacement T)) (each : (h : Head T) (y : Replacement T) → Among y (f h) →
      IsFineReplacement h y) where
    pub replacement-inside : (i : ℕ) (hs : List (Head T)) (y : Replacement T) → Among y (replacements_at f i hs) →
        IsInside (bound_names y.binds) (names_of hs) × IsInside (names_of y.heads) (names_of hs)
    replacement-inside i [] y a = elim a [ ]
    replacement-inside zero (h ∷ hs) y a =
        let m = among-map (with_others hs) (f h) y a in
        let g : IsFineReplacement h m.0 = each h m.0 m.1 in
        subst (λ (z : Replacement T). IsInside (bound_names z.binds) (names_of (h ∷ hs))
        × IsInside (names_of z.heads) (names_of (h ∷ hs))) (sym m.2) (
          λ n b. left-among (head_names h) (names_of hs) n (g.binds n b),
          λ n b. elim (of-append m.0.heads hs n b) [
            | inl k ↦ left-among (head_names h) (names_of hs) n
                (g.heads n k)
            | inr k ↦ right-among (head_names h) (names_of hs) n k
          ],
        )
    replacement-inside (suc i) (h ∷ hs) y a =
        let m = among-map (with_head h) (replacements_at f i hs) y a in
        let g = replacement-inside i hs m.0 m.1 in
        subst (λ (z : Replacement T). IsInside (bound_names z.binds) (names_of (h ∷ hs))
        × IsInside (names_of z.heads) (names_of (h ∷ hs))) (sym m.2) (
          λ n b. right-among (head_names h) (names_of hs) n (g.0 n b),
          λ n b. elim (among-append (head_names h) (names_of m.0.heads) n b) [
            | inl k ↦ left-among (head_names h) (names_of hs) n k
            | inr k ↦ right-among (head_names h) (names_of hs) n
                (g.1 n k)
          ],
        )

    -- names that differ do so after the step
    pub fine-step : (caught : List (List ℕ)) (i : ℕ) (hs : List (Head T)) (y : Replacement T) →
        Among y (replacements_at f i hs) → AreFine caught hs → AreFine (caught ++ bound_names y.binds) y.heads
    fine-step caught i [] y a g = elim a [ ]
    fine-step caught zero (h ∷ hs) y a g =
        let m = among-map (with_others hs) (f h) y a in
        let e : IsFineReplacement h m.0 = each h m.0 m.1 in
        let k : AreFine (bound_names m.0.binds) m.0.heads = e.fine g.each.0 in
        subst (λ (z : Replacement T). AreFine (caught ++ bound_names z.binds) z.heads) (sym m.2) (record {
          distinct =
              distinct-append caught (bound_names m.0.binds) g.distinct k.distinct
              (λ n p q. g.beside n p (left-among (head_names h) (names_of hs) n (e.binds n q)));
          each = every-append (λ x. head_names_differ x ≡ true) m.0.heads hs k.each g.each.1;
          beside = λ n p q. elim (among-append caught (bound_names m.0.binds) n p) [
            | inl c ↦ (elim (of-append m.0.heads hs n q) [
              | inl j ↦ g.beside n c
                  (left-among (head_names h) (names_of hs) n (e.heads n j))
              | inr j ↦ g.beside n c
                  (right-among (head_names h) (names_of hs) n j)
            ])
            | inr c ↦ (elim (of-append m.0.heads hs n q) [
              | inl j ↦ k.beside n c j
              | inr j ↦ g.apart.0 n
                  (e.binds n c) j
            ])
          ];
          apart = apart-append m.0.heads hs k.apart g.apart.1 (λ n p q. g.apart.0 n (e.heads n p) q);
        })
    fine-step caught (suc i) (h ∷ hs) y a g =
        let m = among-map (with_head h) (replacements_at f i hs) y a in
        let k : AreFine (caught ++ bound_names m.0.binds) m.0.heads = fine-step caught i hs m.0 m.1
        (record {
          distinct = g.distinct;
          each = g.each.1;
          beside = λ n p q. g.beside n p
              (right-among (head_names h) (names_of hs) n q);
          apart = g.apart.1;
        }) in
        let e = replacement-inside i hs m.0 m.1 in
        subst (λ (z : Replacement T). AreFine (caught ++ bound_names z.binds) z.heads) (sym m.2) (record {
          distinct = k.distinct;
          each = (g.each.0, k.each);
          beside = λ n p q. elim (among-append (head_names h) (names_of m.0.heads) n q) [
            | inl j ↦ (elim (among-append caught (bound_names m.0.binds) n p) [
              | inl c ↦ g.beside n c (left-among (head_names h) (names_of hs) n j)
              | inr c ↦ g.apart.0 n j
                  (e.0 n c)
            ])
            | inr j ↦ k.beside n p j
          ];
          apart = (λ n p q. g.apart.0 n p (e.1 n q), k.apart);
        })
