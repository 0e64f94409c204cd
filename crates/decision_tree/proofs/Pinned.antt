-- Where no two patterns of a match have one uid, a uid tells the pattern.
use Rattle.std.proofs.Common.{◌≡◌, inl, inr, ℕ, false, List, [], ◌∷◌, ◌++◌, nat_eq, sym, ap, ◌∙◌, subst}
use Rattle.std.specs.List.{IsDistinct, AllByRecursion, flat_map}
use Rattle.match_model.specs.ArenaPatterns.{MDePat, de_pat, MDePats, no_de_pats, more_de_pats, uid_of, MDeArm}
use Rattle.match_model.specs.Lists.{Every, Ordered, Among}
use Rattle.match_model.specs.WellTyped.{uids_in, uids_in_all}
use Rattle.match_model.proofs.Basics.{untrue, nat_itself}
use Rattle.keyed_rows.proofs.Parting.{among-every}
use Rattle.keyed_rows.proofs.PullOut.{left-among, right-among}
use Rattle.decision_tree.specs.Known.{IsInside, IsInsideOne, IsOfArms}

-- they differ
abbrev Differ : ℕ → ℕ → Type 0
Differ m n = nat_eq m n ≡ false

not-same : {A : Type 0} (m n : ℕ) → Differ m n → m ≡ n → A
not-same m n d e = untrue (sym d ∙ ap (nat_eq m) (sym e) ∙ nat_itself m)

all-differ : (m : ℕ) (ns : List ℕ) → AllByRecursion (λ n. nat_eq m n ≡ false) ns → Every (Differ m) ns
all-differ m [] a = tt
all-differ m (n ∷ ns) a = (a.0, all-differ m ns a.1)

in-order : (ns : List ℕ) → IsDistinct nat_eq ns → Ordered Differ ns
unfolding IsDistinct
in-order [] d = tt
in-order (n ∷ ns) d = (all-differ n ns d.0, in-order ns d.1)

module _ {A : Type 0} (R : A → A → Type 0) where
  every-left : (P : A → Type 0) (xs ys : List A) → Every P (xs ++ ys) → Every P xs
  every-left P [] ys h = tt
  every-left P (x ∷ xs) ys h = (h.0, every-left P xs ys h.1)

  ordered-left : (xs ys : List A) → Ordered R (xs ++ ys) → Ordered R xs
  ordered-left [] ys o = tt
  ordered-left (x ∷ xs) ys o = (every-left (R x) xs ys o.0, ordered-left xs ys o.1)

  ordered-right : (xs ys : List A) → Ordered R (xs ++ ys) → Ordered R ys
  ordered-right [] ys o = o
  ordered-right (x ∷ xs) ys o = ordered-right xs ys o.1

  ordered-across : (xs ys : List A) (x y : A) → Ordered R (xs ++ ys) → Among x xs → Among y ys → R x y
  ordered-across [] ys x y o i j = elim i [ ]
  ordered-across (z ∷ xs) ys x y o (inl e) j =
      subst (λ w. R w y) (sym e) (among-every (R z) (xs ++ ys) y o.0 (right-among xs ys y j))
  ordered-across (z ∷ xs) ys x y o (inr i) j = ordered-across xs ys x y o.1 i j

module _ {T : Type 0} where
  mutual
    uid-inside : (p q : MDePat T) → IsInside q p → Among (uid_of q) (uids_in p)
    uid-inside (de_pat c t uid at subs binds) q (inl e) = inl (ap uid_of e)
    uid-inside (de_pat c t uid at subs binds) q (inr i) = inr (uid-inside-one subs q i)

    uid-inside-one : (ps : MDePats T) (q : MDePat T) → IsInsideOne q ps → Among (uid_of q) (uids_in_all ps)
    uid-inside-one no_de_pats q i = elim i [ ]
    uid-inside-one (more_de_pats p ps) q (inl i) =
        left-among (uids_in p) (uids_in_all ps) (uid_of q) (uid-inside p q i)
    uid-inside-one (more_de_pats p ps) q (inr i) =
        right-among (uids_in p) (uids_in_all ps) (uid_of q) (uid-inside-one ps q i)

  uid-of-arms : (arms : List (MDeArm T)) (q : MDePat T) → IsOfArms arms q →
      Among (uid_of q) (flat_map (λ a. uids_in a.pat) arms)
  uid-of-arms [] q i = elim i [ ]
  uid-of-arms (a ∷ arms) q (inl i) =
      left-among (uids_in a.pat) (flat_map (λ a. uids_in a.pat) arms) (uid_of q) (uid-inside a.pat q i)
  uid-of-arms (a ∷ arms) q (inr i) =
      right-among (uids_in a.pat) (flat_map (λ a. uids_in a.pat) arms) (uid_of q) (uid-of-arms arms q i)

  -- two patterns in two lists of uids that differ
  apart : (ms ns : List ℕ) (p q : MDePat T) → Ordered Differ (ms ++ ns) → Among (uid_of p) ms → Among (uid_of q) ns →
      uid_of p ≡ uid_of q → p ≡ q
  apart ms ns p q o i j e =
      not-same (uid_of p) (uid_of q) (ordered-across Differ ms ns (uid_of p) (uid_of q) o i j) e

  mutual
    one-inside : (p a b : MDePat T) → Ordered Differ (uids_in p) → IsInside a p → IsInside b p → uid_of a ≡ uid_of b →
        a ≡ b
    one-inside (de_pat c t uid at subs binds) a b o (inl e) (inl f) h = e ∙ sym f
    one-inside (de_pat c t uid at subs binds) a b o (inl e) (inr j) h =
        not-same uid (uid_of b) (among-every (Differ uid) (uids_in_all subs) (uid_of b) o.0 (uid-inside-one subs b j))
        (sym (ap uid_of e) ∙ h)
    one-inside (de_pat c t uid at subs binds) a b o (inr i) (inl f) h =
        not-same uid (uid_of a) (among-every (Differ uid) (uids_in_all subs) (uid_of a) o.0 (uid-inside-one subs a i))
        (sym (ap uid_of f) ∙ sym h)
    one-inside (de_pat c t uid at subs binds) a b o (inr i) (inr j) h = one-inside-one subs a b o.1 i j h

    one-inside-one : (ps : MDePats T) (a b : MDePat T) → Ordered Differ (uids_in_all ps) → IsInsideOne a ps →
        IsInsideOne b ps → uid_of a ≡ uid_of b → a ≡ b
    one-inside-one no_de_pats a b o i j h = elim i [ ]
    one-inside-one (more_de_pats p ps) a b o (inl i) (inl j) h =
        one-inside p a b (ordered-left Differ (uids_in p) (uids_in_all ps) o) i j h
    one-inside-one (more_de_pats p ps) a b o (inl i) (inr j) h =
        apart (uids_in p) (uids_in_all ps) a b o (uid-inside p a i) (uid-inside-one ps b j) h
    one-inside-one (more_de_pats p ps) a b o (inr i) (inl j) h =
        sym (apart (uids_in p) (uids_in_all ps) b a o (uid-inside p b j) (uid-inside-one ps a i) (sym h))
    one-inside-one (more_de_pats p ps) a b o (inr i) (inr j) h =
        one-inside-one ps a b (ordered-right Differ (uids_in p) (uids_in_all ps) o) i j h

  abbrev all_uids : List (MDeArm T) → List ℕ
  all_uids arms = flat_map (λ a. uids_in a.pat) arms

  one-of-arms : (arms : List (MDeArm T)) (p q : MDePat T) → Ordered Differ (all_uids arms) → IsOfArms arms p →
      IsOfArms arms q → uid_of p ≡ uid_of q → p ≡ q
  one-of-arms [] p q o i j h = elim i [ ]
  one-of-arms (a ∷ arms) p q o (inl i) (inl j) h =
      one-inside a.pat p q (ordered-left Differ (uids_in a.pat) (all_uids arms) o) i j h
  one-of-arms (a ∷ arms) p q o (inl i) (inr j) h =
      apart (uids_in a.pat) (all_uids arms) p q o (uid-inside a.pat p i) (uid-of-arms arms q j) h
  one-of-arms (a ∷ arms) p q o (inr i) (inl j) h =
      sym (apart (uids_in a.pat) (all_uids arms) q p o (uid-inside a.pat q j) (uid-of-arms arms p i) (sym h))
  one-of-arms (a ∷ arms) p q o (inr i) (inr j) h =
      one-of-arms arms p q (ordered-right Differ (uids_in a.pat) (all_uids arms) o) i j h

  -- a uid tells the pattern
  pub pinned : (arms : List (MDeArm T)) → IsDistinct nat_eq (flat_map (λ a. uids_in a.pat) arms) → (p q : MDePat T) →
      IsOfArms arms p → IsOfArms arms q → uid_of p ≡ uid_of q → p ≡ q
  pinned arms d p q i j h = one-of-arms arms p q (in-order (all_uids arms) d) i j h
