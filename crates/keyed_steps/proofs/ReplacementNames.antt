-- What stands in place of a head has the head's names, and they differ where the head's do.
use Rattle.std.proofs.Common.{◌≡◌, ◌⊎◌, inl, inr, ℕ, zero, suc, ◌-◌, ◌+◌, Bool, true, false, ◌&&◌, List, [], ◌∷◌, ◌++◌, map, take, drop, cond, Some, None, refl, sym, ap, ◌∙◌, subst}
use Rattle.match_model.specs.Constructors.{FixedShape, LongerShape, MCtor, SingleCtor, PointCtor, LaterCtor, OtherTextCtor, WildCtor, OrCtor, VariantCtor, FlagCtor, NumbersCtor, TextCtor, RowCtor, has_piece}
use Rattle.match_model.specs.ArenaPatterns.{MBound, MDePat, de_pat, MDePats, no_de_pats, more_de_pats, de_pats_list, uid_of}
use Rattle.match_model.specs.Rows.{Head, is_wild, Choice, choices_of, all_choices_of, choices_by, choice_among, with_binds, wildcards, heads_of}
use Rattle.match_model.specs.WellTyped.{are_distinct, are_apart, bound_names, names_in, names_in_all, if_or, names_differ, names_differ_in_each, names_differ_in_all, head_names, head_names_differ}
use Rattle.match_model.proofs.Basics.{both, untrue}
use Rattle.match_model.specs.Lists.{Every, Among}
use Rattle.match_model.specs.Steps.{Replacement, own_binds, expand_head, specialise_head, default_head}
use Rattle.keyed_rows.proofs.Lists.{every-append, every-map, every-to}
use Rattle.keyed_rows.proofs.Parting.{among-map, among-every}
use Rattle.keyed_rows.proofs.PullOut.{left-among, right-among}
use Rattle.keyed_rows.proofs.RowOrder.{among-append}
use Rattle.keyed_steps.specs.Names.{Disjoint, IsInside, names_of, HeadsApart, AreFine, IsFineReplacement}
use Rattle.keyed_steps.proofs.Differing.{apart-to, distinct-append}

-- what a choice binds and what is left of the pattern
record IsFineChoice {T : Type 0} (names : List (List ℕ)) (fine : Bool) (c : Choice T) : Type 0 where
  pub binds : IsInside (bound_names c.binds) names
  pub pat : IsInside (names_in c.pat) names
  pub differ : fine ≡ true → (are_distinct (bound_names c.binds) ≡ true) × (names_differ c.pat ≡ true)
      × Disjoint (bound_names c.binds) (names_in c.pat)

names-bind : (xs ys : List MBound) → bound_names (xs ++ ys) ≡ bound_names xs ++ bound_names ys
names-bind [] ys = refl
names-bind (x ∷ xs) ys = ap (λ l. x.name ∷ l) (names-bind xs ys)

or-has : (p : MCtor) → has_piece OrCtor p ≡ false
or-has p = refl

all-of : (c p : MCtor) (a b : Bool) → has_piece c p ≡ true → if_or c a b ≡ true → b ≡ true
all-of OrCtor p a b h e = untrue (sym (or-has p) ∙ h)
all-of WildCtor p a b h e = e
all-of SingleCtor p a b h e = e
all-of PointCtor p a b h e = e
all-of LaterCtor p a b h e = e
all-of OtherTextCtor p a b h e = e
all-of (VariantCtor k) p a b h e = e
all-of (FlagCtor k) p a b h e = e
all-of (NumbersCtor k) p a b h e = e
all-of (TextCtor k) p a b h e = e
all-of (RowCtor k) p a b h e = e

no-more : (xs : List (List ℕ)) (n : List ℕ) → Among n (xs ++ []) → Among n xs
no-more [] n a = a
no-more (x ∷ xs) n (inl e) = inl e
no-more (x ∷ xs) n (inr a) = inr (no-more xs n a)

module _ {T : Type 0} where
  wider : (names more : List (List ℕ)) (fine : Bool) → IsInside names more → (c : Choice T) →
      IsFineChoice names fine c → IsFineChoice more fine c
  wider names more fine h c g =
      record { binds = λ n a. h n (g.binds n a); pat = λ n a. h n (g.pat n a); differ = g.differ }

  weaker : (names : List (List ℕ)) (fine part : Bool) → (fine ≡ true → part ≡ true) → (c : Choice T) →
      IsFineChoice names part c → IsFineChoice names fine c
  weaker names fine part h c g = record { binds = g.binds; pat = g.pat; differ = λ e. g.differ (h e) }

  through-fine : (names : List (List ℕ)) (fine : Bool) (subs : MDePats T) (uid : ℕ) (c : Choice T) →
      IsFineChoice names fine c → IsFineChoice names fine (choice_among subs uid c)
  through-fine names fine no_de_pats uid c g = g
  through-fine names fine (more_de_pats p no_de_pats) uid c g = g
  through-fine names fine (more_de_pats p (more_de_pats q qs)) uid c g =
      record { binds = g.binds; pat = g.pat; differ = g.differ }

  -- the names of an or-pattern around an alternative
  bind-fine : (binds : List MBound) (inner : List (List ℕ)) (each : Bool) (c : Choice T) → IsFineChoice inner each c →
      IsFineChoice (bound_names binds ++ inner) (are_distinct (bound_names binds) &&
      (are_apart (bound_names binds) inner && each)) (with_binds binds c)
  bind-fine binds inner each c g = record {
    binds =
        λ n a. elim (split n a) [
          | inl k ↦ left-among (bound_names binds) inner n k
          | inr k ↦ right-among
              (bound_names binds) inner n (g.binds n k)
        ];
    pat = λ n a. right-among (bound_names binds) inner n (g.pat n a);
    differ = λ e. fine e;
  }
    where
      split : (n : List ℕ) → Among n (bound_names (binds ++ c.binds)) → Among n (bound_names binds)
          ⊎ Among n (bound_names c.binds)
      split n a =
          among-append (bound_names binds) (bound_names c.binds) n (subst (Among n) (names-bind binds c.binds) a)

      fine : (are_distinct (bound_names binds) && (are_apart (bound_names binds) inner && each)) ≡ true →
          (are_distinct (bound_names (binds ++ c.binds)) ≡ true) × (names_differ c.pat ≡ true)
          × Disjoint (bound_names (binds ++ c.binds)) (names_in c.pat)
      fine e =
          let a = both (are_distinct (bound_names binds)) (are_apart (bound_names binds) inner && each) e in
          let b = both (are_apart (bound_names binds) inner) each a.1 in
          let d = g.differ b.1 in
          let out : Disjoint (bound_names binds) inner = apart-to (bound_names binds) inner b.0 in (
            subst (λ l. are_distinct l ≡ true) (sym (names-bind binds c.binds))
                (distinct-append (bound_names binds) (bound_names c.binds) a.0 d.0 (λ n p q. out n p (g.binds n q))),
            d.1,
            λ n p q. elim (split n p) [ inl k ↦ out n k (g.pat n q) | inr k ↦ d.2 n k q ],
          )

  mutual
    choices-fine : (p : MDePat T) → Every (IsFineChoice (names_in p) (names_differ p)) (choices_of p)
    choices-fine (de_pat c t uid at subs binds) =
        go c (all-fine (choice_among subs) (λ names fine u d g. through-fine names fine subs u d g) subs)
      where
        go : (c : MCtor) → Every (IsFineChoice (names_in_all subs) (names_differ_in_each subs))
            (all_choices_of (choice_among subs) subs) →
            Every (IsFineChoice (names_in (de_pat c t uid at subs binds))
            (names_differ (de_pat c t uid at subs binds))) (choices_by c
            (map (with_binds binds) (all_choices_of (choice_among subs) subs))
            (record { pat = de_pat c t uid at subs binds; chosen = []; binds = [] } ∷ []))
        go OrCtor h =
            every-map (IsFineChoice (names_in_all subs) (names_differ_in_each subs))
            (IsFineChoice (names_in (de_pat OrCtor t uid at subs binds))
            (names_differ (de_pat OrCtor t uid at subs binds))) (with_binds binds)
            (all_choices_of (choice_among subs) subs)
            (bind-fine binds (names_in_all subs) (names_differ_in_each subs)) h
        go _ h = (record { binds = λ n a. absurd a; pat = λ n a. a; differ = λ e. (refl, e, λ n a b. a) }, tt)

    all-fine : (choose : ℕ → Choice T → Choice T) → ((names : List (List ℕ)) (fine : Bool) (u : ℕ) (d : Choice T) →
        IsFineChoice names fine d → IsFineChoice names fine (choose u d)) → (ps : MDePats T) →
        Every (IsFineChoice (names_in_all ps) (names_differ_in_each ps)) (all_choices_of choose ps)
    all-fine choose k no_de_pats = tt
    all-fine choose k (more_de_pats p ps) =
        every-append (IsFineChoice (names_in p ++ names_in_all ps) (names_differ p && names_differ_in_each ps))
        (map (choose (uid_of p)) (choices_of p)) (all_choices_of choose ps)
        (every-map (IsFineChoice (names_in p) (names_differ p)) (IsFineChoice (names_in p ++ names_in_all ps)
        (names_differ p && names_differ_in_each ps)) (choose (uid_of p)) (choices_of p)
        (λ c g. k (names_in p ++ names_in_all ps) (names_differ p && names_differ_in_each ps) (uid_of p) c
        (weaker (names_in p ++ names_in_all ps) (names_differ p && names_differ_in_each ps) (names_differ p)
        (λ e. (both (names_differ p) (names_differ_in_each ps) e).0) c
        (wider (names_in p) (names_in p ++ names_in_all ps) (names_differ p)
        (left-among (names_in p) (names_in_all ps)) c g))) (choices-fine p))
        (every-to (IsFineChoice (names_in_all ps) (names_differ_in_each ps))
        (IsFineChoice (names_in p ++ names_in_all ps) (names_differ p && names_differ_in_each ps))
        (all_choices_of choose ps)
        (λ c g. weaker (names_in p ++ names_in_all ps) (names_differ p && names_differ_in_each ps)
        (names_differ_in_each ps) (λ e. (both (names_differ p) (names_differ_in_each ps) e).1) c
        (wider (names_in_all ps) (names_in p ++ names_in_all ps) (names_differ_in_each ps)
        (right-among (names_in p) (names_in_all ps)) c g)) (all-fine choose k ps))

  -- alternatives
  pub expand-fine : (h : Head T) (y : Replacement T) → Among y (expand_head h) → IsFineReplacement h y
  expand-fine None y (inl e) =
      subst (IsFineReplacement None) (sym e)
      (record {
        binds = λ n a. a;
        heads = λ n a. a;
        fine = λ e. record
            { distinct = refl; each = (refl, tt); beside = λ n a b. a; apart = (λ n a b. a, tt) };
      })
  expand-fine None y (inr a) = absurd a
  expand-fine (Some p) y a =
      let m = among-map (λ c. record { heads = Some c.pat ∷ []; chosen = c.chosen; binds = c.binds })
      (choices_of p) y a in
      let g : IsFineChoice (names_in p) (names_differ p) m.0 = among-every (IsFineChoice (names_in p) (names_differ p))
      (choices_of p) m.0 (choices-fine p) m.1 in
      subst (IsFineReplacement (Some p)) (sym m.2) (record {
        binds = g.binds;
        heads = λ n b. g.pat n (no-more (names_in m.0.pat) n b);
        fine =
            λ e. (let d = g.differ e in record {
              distinct = d.0;
              each = (d.1, tt);
              beside = λ n p q. d.2 n p
                  (no-more (names_in m.0.pat) n q);
              apart = (λ n p q. q, tt);
            });
      })

  -- heads whose names differ, with names among these
  record AreFineParts (names : List (List ℕ)) (hs : List (Head T)) : Type 0 where
    pub inside : IsInside (names_of hs) names
    pub each : Every (λ h. head_names_differ h ≡ true) hs
    pub apart : HeadsApart hs

  wild-inside : (m : ℕ) (hs : List (Head T)) → IsInside (names_of (wildcards m ++ hs)) (names_of hs)
  wild-inside zero hs n a = a
  wild-inside (suc m) hs n a = wild-inside m hs n a

  wild-each : (m : ℕ) (hs : List (Head T)) → Every (λ h. head_names_differ h ≡ true) hs →
      Every (λ h. head_names_differ h ≡ true) (wildcards m ++ hs)
  wild-each zero hs e = e
  wild-each (suc m) hs e = (refl, wild-each m hs e)

  wild-apart : (m : ℕ) (hs : List (Head T)) → HeadsApart hs → HeadsApart (wildcards m ++ hs)
  wild-apart zero hs e = e
  wild-apart (suc m) hs e = (λ n a b. a, wild-apart m hs e)

  -- wildcards put in between
  put-inside : (f m : ℕ) (hs : List (Head T)) → IsInside (names_of (take f hs ++ (wildcards m ++ drop f hs)))
      (names_of hs)
  put-inside zero m hs n a = wild-inside m hs n a
  put-inside (suc f) m [] n a = wild-inside m [] n a
  put-inside (suc f) m (h ∷ hs) n a =
      elim (among-append (head_names h) (names_of (take f hs ++ (wildcards m ++ drop f hs))) n a) [
        | inl k ↦ left-among (head_names h) (names_of hs) n k
        | inr k ↦ right-among (head_names h) (names_of hs) n (put-inside f m hs n k)
      ]

  put-each : (f m : ℕ) (hs : List (Head T)) → Every (λ h. head_names_differ h ≡ true) hs →
      Every (λ h. head_names_differ h ≡ true) (take f hs ++ (wildcards m ++ drop f hs))
  put-each zero m hs e = wild-each m hs e
  put-each (suc f) m [] e = wild-each m [] e
  put-each (suc f) m (h ∷ hs) e = (e.0, put-each f m hs e.1)

  put-apart : (f m : ℕ) (hs : List (Head T)) → HeadsApart hs → HeadsApart (take f hs ++ (wildcards m ++ drop f hs))
  put-apart zero m hs e = wild-apart m hs e
  put-apart (suc f) m [] e = wild-apart m [] e
  put-apart (suc f) m (h ∷ hs) e = (λ n a b. e.0 n a (put-inside f m hs n b), put-apart f m hs e.1)

  only-wild : (names : List (List ℕ)) (m : ℕ) → AreFineParts names (wildcards m)
  only-wild names zero = record { inside = λ n a. absurd a; each = tt; apart = tt }
  only-wild names (suc m) =
      let r : AreFineParts names (wildcards m) = only-wild names m in
      record { inside = r.inside; each = (refl, r.each); apart = (λ n a b. a, r.apart) }

  heads-fine : (c : MCtor) (names : List (List ℕ)) (m : ℕ) (hs : List (Head T)) → AreFineParts names hs →
      AreFineParts names (heads_of c hs m)
  heads-fine (RowCtor (LongerShape f b)) names m hs g =
      record {
        inside = λ n a. g.inside n (put-inside f (m - (f + b)) hs n a);
        each = put-each f
            (m - (f + b)) hs g.each;
        apart = put-apart f (m - (f + b)) hs g.apart;
      }
  heads-fine WildCtor names m hs g = only-wild names m
  heads-fine (RowCtor (FixedShape k)) names m hs g = g
  heads-fine SingleCtor names m hs g = g
  heads-fine PointCtor names m hs g = g
  heads-fine LaterCtor names m hs g = g
  heads-fine OtherTextCtor names m hs g = g
  heads-fine OrCtor names m hs g = g
  heads-fine (VariantCtor k) names m hs g = g
  heads-fine (FlagCtor k) names m hs g = g
  heads-fine (NumbersCtor k) names m hs g = g
  heads-fine (TextCtor k) names m hs g = g

  subs-names : (subs : MDePats T) → names_of (map {B = Head T} Some (de_pats_list subs)) ≡ names_in_all subs
  subs-names no_de_pats = refl
  subs-names (more_de_pats p ps) = ap (λ l. names_in p ++ l) (subs-names ps)

  subs-each : (subs : MDePats T) → names_differ_in_all subs ≡ true →
      Every (λ h. head_names_differ h ≡ true) (map {B = Head T} Some (de_pats_list subs))
      × HeadsApart (map {B = Head T} Some (de_pats_list subs))
  subs-each no_de_pats h = (tt, tt)
  subs-each (more_de_pats p ps) h =
      let a = both (names_differ p) (are_apart (names_in p) (names_in_all ps) && names_differ_in_all ps) h in
      let b = both (are_apart (names_in p) (names_in_all ps)) (names_differ_in_all ps) a.1 in
      let r = subs-each ps b.1 in
      ((a.0, r.0), (λ n i j. apart-to (names_in p) (names_in_all ps) b.0 n i (subst (Among n) (subs-names ps) j), r.1))

  -- parts
  pub piece-fine : (p : MCtor) (m : ℕ) (h : Head T) (y : Replacement T) → Among y (specialise_head p m h) →
      IsFineReplacement h y
  piece-fine p m None y (inl e) =
      subst (IsFineReplacement None) (sym e) (let r : AreFineParts [] (wildcards m) = only-wild [] m in
      record {
        binds = λ n a. a;
        heads = r.inside;
        fine = λ e. record
            { distinct = refl; each = r.each; beside = λ n a b. a; apart = r.apart };
      })
  piece-fine p m None y (inr a) = absurd a
  piece-fine p m (Some (de_pat c t uid at subs binds)) y a = go (has_piece c p) refl a
    where
      hs : List (Head T)
      hs = map Some (de_pats_list subs)

      H : Head T
      H = Some (de_pat c t uid at subs binds)

      Y : Replacement T
      Y = record { heads = heads_of c hs m; chosen = []; binds = binds }

      -- no claim of differing is needed for what is inside
      inside-of : (c : MCtor) → IsInside (names_of (heads_of c hs m)) (names_of hs)
      inside-of (RowCtor (LongerShape f b)) = put-inside f (m - (f + b)) hs
      inside-of WildCtor = λ n a. absurd (let r : AreFineParts [] (wildcards m) = only-wild [] m in r.inside n a)
      inside-of (RowCtor (FixedShape k)) = λ n a. a
      inside-of SingleCtor = λ n a. a
      inside-of PointCtor = λ n a. a
      inside-of LaterCtor = λ n a. a
      inside-of OtherTextCtor = λ n a. a
      inside-of OrCtor = λ n a. a
      inside-of (VariantCtor k) = λ n a. a
      inside-of (FlagCtor k) = λ n a. a
      inside-of (NumbersCtor k) = λ n a. a
      inside-of (TextCtor k) = λ n a. a

      parts-inside : IsInside (names_of (heads_of c hs m)) (names_in_all subs)
      parts-inside n a = subst (Among n) (subs-names subs) (inside-of c n a)

      fine : has_piece c p ≡ true → head_names_differ H ≡ true → AreFine (bound_names binds) (heads_of c hs m)
      fine has e =
          let a = both (are_distinct (bound_names binds)) (are_apart (bound_names binds) (names_in_all subs) && if_or c
          (names_differ_in_each subs) (names_differ_in_all subs)) e in
          let b = both (are_apart (bound_names binds) (names_in_all subs))
          (if_or c (names_differ_in_each subs) (names_differ_in_all subs)) a.1 in
          let s = subs-each subs (all-of c p (names_differ_in_each subs) (names_differ_in_all subs) has b.1) in
          let g : AreFineParts (names_of hs) hs = record { inside = λ n a. a; each = s.0; apart = s.1 } in
          let r : AreFineParts (names_of hs) (heads_of c hs m) = heads-fine c (names_of hs) m hs g in
          record {
            distinct = a.0;
            each = r.each;
            beside = λ n i j. apart-to (bound_names binds)
                (names_in_all subs) b.0 n i (parts-inside n j);
            apart = r.apart;
          }

      whole : has_piece c p ≡ true → IsFineReplacement H Y
      whole has =
          record {
            binds = left-among (bound_names binds) (names_in_all subs);
            heads = λ n a. right-among
                (bound_names binds) (names_in_all subs) n (parts-inside n a);
            fine = fine has;
          }

      go : (b : Bool) → has_piece c p ≡ b → Among y (cond (has_piece c p) (Y ∷ []) []) → IsFineReplacement H y
      go true q a =
          elim (subst (λ x. Among y (cond x (Y ∷ []) [])) q a) [
            | inl e ↦ subst (IsFineReplacement H) (sym e)
                (whole q)
            | inr e ↦ absurd e
          ]
      go false q a = absurd (subst (λ x. Among y (cond x (Y ∷ []) [])) q a)

  -- nothing
  pub drop-fine : (h : Head T) (y : Replacement T) → Among y (default_head h) → IsFineReplacement h y
  drop-fine h y a = go (is_wild h) refl a
    where
      Y : Replacement T
      Y = record { heads = []; chosen = []; binds = own_binds h }

      own : (h : Head T) → IsInside (bound_names (own_binds h)) (head_names h)
      own None n a = a
      own (Some (de_pat c t uid at subs binds)) n a = left-among (bound_names binds) (names_in_all subs) n a

      distinct : (h : Head T) → head_names_differ h ≡ true → are_distinct (bound_names (own_binds h)) ≡ true
      distinct None e = refl
      distinct (Some (de_pat c t uid at subs binds)) e =
          (both (are_distinct (bound_names binds)) (are_apart (bound_names binds) (names_in_all subs) && if_or c
          (names_differ_in_each subs) (names_differ_in_all subs)) e).0

      whole : IsFineReplacement h Y
      whole =
          record {
            binds = own h;
            heads = λ n a. absurd a;
            fine = λ e. record
                { distinct = distinct h e; each = tt; beside = λ n a b. b; apart = tt };
          }

      go : (b : Bool) → is_wild h ≡ b → Among y (cond (is_wild h) (Y ∷ []) []) → IsFineReplacement h y
      go true q a =
          elim (subst (λ x. Among y (cond x (Y ∷ []) [])) q a) [
            | inl e ↦ subst (IsFineReplacement h)
                (sym e) whole
            | inr e ↦ absurd e
          ]
      go false q a = absurd (subst (λ x. Among y (cond x (Y ∷ []) [])) q a)
