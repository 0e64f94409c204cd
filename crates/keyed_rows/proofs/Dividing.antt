-- Each step divides a head: what an alternative decides, what a piece and a dropped column leave.
use Rattle.std.proofs.Common.{◌≡◌, ◌<◌, ◌≤◌, inl, inr, ℕ, zero, suc, ◌+◌, ◌-◌, Bool, true, false, List, [], ◌∷◌, ◌++◌, map, length, take, drop, Some, None, refl, sym, ap, ◌∙◌, arith, cond, nat_eq, subst}
use Rattle.std.proofs.lemmas.Bool.{cases_lt}
use Rattle.std.proofs.lemmas.Bool.Decides.{nat_tests}
use Rattle.match_model.specs.Constructors.{FixedShape, LongerShape, MCtor, SingleCtor, PointCtor, LaterCtor, OtherTextCtor, WildCtor, OrCtor, VariantCtor, FlagCtor, NumbersCtor, TextCtor, RowCtor, has_piece}
use Rattle.match_model.specs.ArenaPatterns.{MBound, MDePat, de_pat, MDePats, no_de_pats, more_de_pats, de_pats_list, uid_of}
use Rattle.match_model.specs.Rows.{Head, is_wild, Choice, with_binds, choice_through, choice_among, choices_of, all_choices_of, wildcards, heads_of}
use Rattle.match_model.specs.Keys.{Decision, Key, key_of}
use Rattle.match_model.specs.Lists.{Every, Ordered}
use Rattle.match_model.specs.Numbering.{own_count, or_count, or_counts, AreAlternatives, IsDecided, IsNumbered, AreNumbered}
use Rattle.match_model.specs.Steps.{Replacement, own_binds, expand_head, specialise_head, default_head}
use Rattle.keyed_rows.specs.Dividing.{HasCount, head_count, HeadsWithin, IsAbove, IsReplacement, AreReplacements, IsDivided, Divides}
use Rattle.keyed_rows.proofs.Lists.{every-append, every-map, every-to, ordered-append, ordered-map, none-is-not}
use Rattle.keyed_rows.proofs.Parting.{within-above}

itself : (n : ℕ) → nat_eq n n ≡ true
itself n = grind (arith, nat_tests)

differs : (n o : ℕ) → o < n → nat_eq n o ≡ false
differs n o h = grind (arith, nat_tests)

differs_above : (n o : ℕ) → n < o → nat_eq n o ≡ false
differs_above n o h = grind (arith, nat_tests)

same-sum : (a b m : ℕ) → a + (b + m) ≡ b + a + m
same-sum a b m = omega arith

length-wildcards : (T : Type 0) (m : ℕ) → length (wildcards {T = T} m) ≡ m
length-wildcards T zero = refl
length-wildcards T (suc m) = ap suc (length-wildcards T m)

only-wildcards : (T : Type 0) (decides : ℕ → Decision) (low high m : ℕ) → low ≤ high → HeadsWithin
    {T = T} decides low high (wildcards m)
only-wildcards T decides low high zero l = l
only-wildcards T decides low high (suc m) l =
    (low, omega arith, tt, only-wildcards T decides (0 + low) high m (omega (arith, l)))

module _ {T : Type 0} (decides : ℕ → Decision) where
  -- heads from a list of patterns, with wildcards put in
  wide-within : (low high high' : ℕ) (hs : List (Head T)) → high ≤ high' → HeadsWithin decides low high hs →
      HeadsWithin decides low high' hs
  wide-within low high high' [] l w = omega (arith, l, w)
  wide-within low high high' (h ∷ hs) l w = (w.0, w.1, w.2, wide-within (head_count h + w.0) high high' hs l w.3)

  lower-within : (low low' high : ℕ) (hs : List (Head T)) → low' ≤ low → HeadsWithin decides low high hs → HeadsWithin
      decides low' high hs
  lower-within low low' high [] l w = omega (arith, l, w)
  lower-within low low' high (h ∷ hs) l w = let start : low ≤ w.0 = w.1 in (w.0, omega (arith, l, start), w.2, w.3)

  wildcards-within : (low high m : ℕ) (hs : List (Head T)) → HeadsWithin decides low high hs → HeadsWithin
      decides low high (wildcards m ++ hs)
  wildcards-within low high zero hs w = w
  wildcards-within low high (suc m) hs w = (
    low,
    omega arith,
    tt,
    lower-within low (0 + low) high (wildcards m ++ hs) (omega arith) (wildcards-within
        low high m hs w),
  )

  parts-within : (low : ℕ) (ps : MDePats T) → AreNumbered decides low ps → HeadsWithin
      decides low (or_counts ps + low) (map Some (de_pats_list ps))
  parts-within low no_de_pats a = omega arith
  parts-within low (more_de_pats p ps) a = (
    low,
    omega arith,
    a.0,
    subst (λ x. HeadsWithin decides (or_count p + low) x (map Some (de_pats_list ps)))
        (same-sum (or_counts ps) (or_count p) low) (parts-within (or_count p + low) ps a.1),
  )

  split-within : (low high f m : ℕ) (hs : List (Head T)) → HeadsWithin decides low high hs → HeadsWithin
      decides low high (take f hs ++ (wildcards m ++ drop f hs))
  split-within low high zero m hs w = wildcards-within low high m hs w
  split-within low high (suc f) m [] w = wildcards-within low high m [] w
  split-within low high (suc f) m (h ∷ hs) w = (w.0, w.1, w.2, split-within (head_count h + w.0) high f m hs w.3)

  heads_of-within : (c : MCtor) (low high n : ℕ) (hs : List (Head T)) → low ≤ high → HeadsWithin decides low high hs →
      HeadsWithin decides low high (heads_of c hs n)
  heads_of-within SingleCtor low high n hs l w = w
  heads_of-within PointCtor low high n hs l w = w
  heads_of-within LaterCtor low high n hs l w = w
  heads_of-within OtherTextCtor low high n hs l w = w
  heads_of-within WildCtor low high n hs l w = only-wildcards T decides low high n l
  heads_of-within OrCtor low high n hs l w = w
  heads_of-within (VariantCtor k) low high n hs l w = w
  heads_of-within (FlagCtor b) low high n hs l w = w
  heads_of-within (NumbersCtor r) low high n hs l w = w
  heads_of-within (TextCtor t) low high n hs l w = w
  heads_of-within (RowCtor (FixedShape m)) low high n hs l w = w
  heads_of-within (RowCtor (LongerShape f b)) low high n hs l w = split-within low high f (n - (f + b)) hs w

  -- a dropped wildcard
  pub drop-divides : Divides decides (λ (h : Head T). Unit {0}) 0 default_head
  drop-divides h n good i = go (is_wild h)
    where
      go : (b : Bool) → IsDivided {T = T} decides n (head_count h + n) 0
          (cond b (record { heads = []; chosen = []; binds = own_binds h } ∷ []) [])
      go true =
          record {
            each = (
              record {
                middle = n;
                from = omega arith;
                decided = record
                    { below = λ o l. refl; above = λ o l. refl };
                left = omega arith;
                wide = refl;
              },
              tt,
            );
            parted = (tt, tt);
          }
      go false = record { each = tt; parted = tt }

  -- a piece
  pub piece-divides : (piece : MCtor) (m : ℕ) → Divides {T = T} decides (HasCount piece m) m (specialise_head piece m)
  piece-divides piece m None n good i = record {
    each = (
      record {
        middle = n;
        from = omega arith;
        decided = record { below = λ o l. refl; above = λ o l. refl };
        left = only-wildcards T decides n (0 + n) m (omega arith);
        wide = length-wildcards T m;
      },
      tt,
    );
    parted = (tt, tt);
  }
  piece-divides piece m (Some (de_pat c t uid at subs binds)) n good i = go (has_piece c piece) good
    where
      go : (b : Bool) → (b ≡ true → length (heads_of c
          (map {A = MDePat T} {B = Head T} Some (de_pats_list subs)) m) ≡ m) →
          IsDivided {T = T} decides n (own_count c subs + or_counts subs + n) m
          (cond b (record { heads = heads_of c (map Some (de_pats_list subs)) m; chosen = []; binds = binds } ∷ []) [])
      go true h = record {
        each = (
          record {
            middle = own_count c subs + n;
            from = omega arith;
            decided = record { below = λ o l. refl; above = λ o l. refl };
            left =
                heads_of-within c (own_count c subs + n) (own_count c subs + or_counts subs + n) m
                (map Some (de_pats_list subs)) (omega arith)
                (subst (λ x. HeadsWithin decides (own_count c subs + n) x (map Some (de_pats_list subs)))
                (same-sum (or_counts subs) (own_count c subs) n) (parts-within (own_count c subs + n) subs i.1));
            wide = h refl;
          },
          tt,
        );
        parted = (tt, tt);
      }
      go false h = record { each = tt; parted = tt }

  -- an alternative in place of its or-pattern
  abbrev as_replacement : Choice T → Replacement T
  as_replacement c = record { heads = Some c.pat ∷ []; chosen = c.chosen; binds = c.binds }

  abbrev CK : Choice T → Key
  CK c = key_of (map decides c.chosen)

  abbrev IsChoice : (low high : ℕ) → Choice T → Type 0
  IsChoice low high c = IsReplacement decides low high 1 (as_replacement c)

  abbrev AreChoices : Choice T → Choice T → Type 0
  AreChoices c d = AreReplacements decides (as_replacement c) (as_replacement d)

  -- the choices of a pattern
  record Choices (low high : ℕ) (cs : List (Choice T)) : Type 0 where
    pub each : Every (IsChoice low high) cs
    pub parted : Ordered AreChoices cs

  -- the choices of alternatives: each has decided the or-pattern, from this alternative on
  record Among_choices (n k high : ℕ) (cs : List (Choice T)) : Type 0 where
    pub all : Choices n high cs
    pub choice : Every (λ c. (a : ℕ) × (CK c n ≡ Some a) × (k ≤ a)) cs
    pub above : Every (λ d. Every (IsAbove decides n) (Some d.pat ∷ [])) cs

  through-key : (uid n k : ℕ) (c : Choice T) (o : ℕ) → decides uid ≡ record { number = n; alternative = k } →
      CK (choice_through uid c) o ≡ cond (nat_eq n o) (Some k) (CK c o)
  through-key uid n k c o e = rw e refl

  through-here : (uid n k : ℕ) (c : Choice T) → decides uid ≡ record { number = n; alternative = k } →
      CK (choice_through uid c) n ≡ Some k
  through-here uid n k c e = through-key uid n k c n e ∙ rw (itself n) refl

  through-is : (uid n k m high : ℕ) (c : Choice T) → decides uid ≡ record { number = n; alternative = k } → n < m →
      IsChoice m high c → IsChoice n high (choice_through uid c)
  through-is uid n k m high c e l i =
      let from : m ≤ i.middle = i.from in
      record {
        middle = i.middle;
        from = omega (arith, l, from);
        decided = record {
          below = λ o p. through-key uid n k c o e ∙ rw (differs n o p, i.decided.below o (omega (arith, p, l))) refl;
          above =
              λ o p. through-key uid n k c o e ∙ rw (
                differs_above n o
                    (omega (arith, p, l, from)),
                i.decided.above o p,
              ) refl;
        };
        left = i.left;
        wide = i.wide;
      }

  through-are : (uid n k m high : ℕ) (c d : Choice T) → decides uid ≡ record { number = n; alternative = k } → n < m →
      IsChoice m high c → AreChoices c d → AreChoices (choice_through uid c) (choice_through uid d)
  through-are uid n k m high c d e l i a =
      record {
        before = record {
          at = a.before.at;
          one = a.before.one;
          other = a.before.other;
          first = through-key uid n k c a.before.at e ∙ rw (differs_above n a.before.at late, a.before.first) refl;
          second = through-key uid n k d a.before.at e ∙ rw (differs_above n a.before.at late, a.before.second) refl;
          less = a.before.less;
          same = λ o p. through-key uid n k c o e ∙ rw (a.before.same o p) (sym (through-key uid n k d o e));
        };
        first_above = a.first_above;
        second_above = a.second_above;
      }
    where
      late : n < a.before.at
      late =
          elim (cases_lt a.before.at m) [
            | inl p ↦ none-is-not (CK c) a.before.at a.before.one
                (i.decided.below a.before.at p) a.before.first
            | inr p ↦ omega (arith, l, p)
          ]

  choice-above : (n m high : ℕ) (c : Choice T) → n < m → IsChoice m high c → Every (IsAbove decides n) (Some c.pat ∷ [])
  choice-above n m high c l i =
      let from : m ≤ i.middle = i.from in within-above decides n i.middle high (Some c.pat ∷ []) (omega
      (arith, l, from)) i.left

  choices-join : (uid n k m high : ℕ) (cs ds : List (Choice T)) →
      decides uid ≡ record { number = n; alternative = k } → n < m → m ≤ high → Choices m high cs →
      Among_choices n (suc k) high ds →
      Among_choices n k high (map (choice_through uid) cs ++ ds)
  choices-join uid n k m high cs ds e l g a b =
      record {
        all = record {
          each =
              every-append (IsChoice n high) (map (choice_through uid) cs) ds
              (every-map (IsChoice m high) (IsChoice n high) (choice_through uid) cs
              (λ c i. through-is uid n k m high c e l i) a.each) b.all.each;
          parted =
              ordered-append AreChoices (map (choice_through uid) cs) ds (own cs a.each a.parted) b.all.parted
              (cross cs a.each);
        };
        choice =
            every-append (λ c. (a : ℕ) × (CK c n ≡ Some a) × (k ≤ a)) (map (choice_through uid) cs) ds (mine cs)
            (every-to _ _ ds (λ d i. (i.0, i.1, lower i.0 i.2)) b.choice);
        above =
            every-append (λ d. Every (IsAbove decides n) (Some d.pat ∷ [])) (map (choice_through uid) cs) ds
            (every-map (IsChoice m high) _ (choice_through uid) cs (λ c i. choice-above n m high c l i) a.each) b.above;
      }
    where
      lower : (a : ℕ) → suc k ≤ a → k ≤ a
      lower a p = omega (arith, p)

      mine : (xs : List (Choice T)) → Every (λ c. (a : ℕ) × (CK c n ≡ Some a) × (k ≤ a)) (map (choice_through uid) xs)
      mine [] = tt
      mine (x ∷ xs) = ((k, through-here uid n k x e, omega arith), mine xs)

      own : (xs : List (Choice T)) → Every (IsChoice m high) xs → Ordered AreChoices xs →
          Ordered AreChoices (map (choice_through uid) xs)
      own [] p o = tt
      own (x ∷ xs) p o = (after xs o.0, own xs p.1 o.1)
        where
          after : (ys : List (Choice T)) → Every (AreChoices x) ys → Every (AreChoices (choice_through uid x)) (map
              (choice_through uid) ys)
          after [] q = tt
          after (y ∷ ys) q = (through-are uid n k m high x y e l p.0 q.0, after ys q.1)

      cross : (xs : List (Choice T)) → Every (IsChoice m high) xs →
          Every (λ x. Every (AreChoices x) ds) (map (choice_through uid) xs)
      cross [] p = tt
      cross (x ∷ xs) p = (go ds b.choice b.all.each b.above, cross xs p.1)
        where
          go : (ys : List (Choice T)) → Every (λ c. (a : ℕ) × (CK c n ≡ Some a) × (suc k ≤ a)) ys →
              Every (IsChoice n high) ys → Every (λ d. Every (IsAbove decides n) (Some d.pat ∷ [])) ys →
              Every (AreChoices (choice_through uid x)) ys
          go [] q r s = tt
          go (y ∷ ys) q r s = (
            record {
              before = record {
                at = n;
                one = k;
                other = q.0.0;
                first = through-here uid n k x e;
                second = q.0.1;
                less = (let later : suc k ≤ q.0.0 = q.0.2 in omega (arith, later));
                same =
                    λ o t. through-key uid n k x o e ∙ rw (
                      differs n o t,
                      p.0.decided.below o
                          (omega (arith, t, l)),
                      r.0.decided.below o t,
                    ) refl;
              };
              first_above = choice-above n m high x l p.0;
              second_above = s.0;
            },
            go ys q.1 r.1 s.1,
          )

  no-choices : (low high : ℕ) → Choices low high []
  no-choices low high = record { each = tt; parted = tt }

  -- the pattern itself
  self-choices : (p : MDePat T) (n : ℕ) → IsNumbered decides n p →
      Choices n (or_count p + n) (record { pat = p; chosen = []; binds = [] } ∷ [])
  self-choices p n i = record {
    each = (
      record {
        middle = n;
        from = omega arith;
        decided = record { below = λ o l. refl; above = λ o l. refl };
        left = (n, omega arith, i, omega arith);
        wide = refl;
      },
      tt,
    );
    parted = (tt, tt);
  }

  choices-wider : (low high low' high' : ℕ) (cs : List (Choice T)) → low' ≤ low → high ≤ high' → Choices low high cs →
      Choices low' high' cs
  choices-wider low high low' high' cs l k a = record {
    each = every-to (IsChoice low high) (IsChoice low' high') cs wider a.each;
    parted = a.parted;
  }
    where
      wider : (c : Choice T) → IsChoice low high c → IsChoice low' high' c
      wider c i =
          let from : low ≤ i.middle = i.from in
          record {
            middle = i.middle;
            from = omega (arith, l, from);
            decided = record { below = λ o p. i.decided.below o (omega (arith, p, l)); above = i.decided.above };
            left = wide-within i.middle high high' (Some c.pat ∷ []) k i.left;
            wide = i.wide;
          }

  choices-bind : (low high : ℕ) (binds : List MBound) (cs : List (Choice T)) → Choices low high cs →
      Choices low high (map (with_binds binds) cs)
  choices-bind low high binds cs a = record {
    each =
        every-map (IsChoice low high) (IsChoice low high) (with_binds binds) cs
        (λ c i. record { middle = i.middle; from = i.from; decided = i.decided; left = i.left; wide = i.wide }) a.each;
    parted =
        ordered-map AreChoices AreChoices (with_binds binds) cs
        (λ c d i. record { before = i.before; first_above = i.first_above; second_above = i.second_above }) a.parted;
  }

  abbrev FirstChoices : ℕ → MDePats T → Type 0
  FirstChoices n no_de_pats = Unit {0}
  FirstChoices n (more_de_pats p ps) = Choices n (or_count p + n) (choices_of p)

  map-choices : (cs : List (Choice T)) → map (λ c. c) cs ++ [] ≡ cs
  map-choices [] = refl
  map-choices (c ∷ cs) = ap (λ l. c ∷ l) (map-choices cs)

  only-or : (subs : MDePats T) (n : ℕ) → IsDecided decides n OrCtor subs →
      AreNumbered decides (own_count OrCtor subs + n) subs → FirstChoices (own_count OrCtor subs + n) subs →
      (AreAlternatives decides n 0 subs → AreNumbered decides (1 + n) subs →
      Among_choices n 0 (or_counts subs + (1 + n)) (all_choices_of choice_through subs)) →
      Choices n (own_count OrCtor subs + or_counts subs + n) (all_choices_of (choice_among subs) subs)
  only-or no_de_pats n d i f h = no-choices n _
  only-or (more_de_pats p no_de_pats) n d i f h =
      rw (map-choices (choices_of p)) (choices-wider (0 + n) (or_count p + (0 + n)) n (0 + (or_count p + 0) + n)
      (choices_of p) (omega arith) (omega arith) f)
  only-or (more_de_pats p (more_de_pats q qs)) n d i f h =
      choices-wider n (or_count p + (or_count q + or_counts qs) + (1 + n)) n
      (1 + (or_count p + (or_count q + or_counts qs)) + n) (all_choices_of choice_through
      (more_de_pats p (more_de_pats q qs))) (omega arith) (omega arith) (h d i).all

  by-ctor : (c : MCtor) (t : T) (uid at : ℕ) (subs : MDePats T) (binds : List MBound) (n : ℕ) →
      IsNumbered decides n (de_pat c t uid at subs binds) → FirstChoices (own_count c subs + n) subs →
      (AreAlternatives decides n 0 subs → AreNumbered decides (1 + n) subs →
      Among_choices n 0 (or_counts subs + (1 + n)) (all_choices_of choice_through subs)) →
      Choices n (or_count (de_pat c t uid at subs binds) + n) (choices_of (de_pat c t uid at subs binds))
  by-ctor SingleCtor t uid at subs binds n i f h = self-choices (de_pat SingleCtor t uid at subs binds) n i
  by-ctor PointCtor t uid at subs binds n i f h = self-choices (de_pat PointCtor t uid at subs binds) n i
  by-ctor LaterCtor t uid at subs binds n i f h = self-choices (de_pat LaterCtor t uid at subs binds) n i
  by-ctor OtherTextCtor t uid at subs binds n i f h = self-choices (de_pat OtherTextCtor t uid at subs binds) n i
  by-ctor (VariantCtor k) t uid at subs binds n i f h = self-choices (de_pat (VariantCtor k) t uid at subs binds) n i
  by-ctor (FlagCtor b) t uid at subs binds n i f h = self-choices (de_pat (FlagCtor b) t uid at subs binds) n i
  by-ctor (NumbersCtor r) t uid at subs binds n i f h = self-choices (de_pat (NumbersCtor r) t uid at subs binds) n i
  by-ctor (TextCtor u) t uid at subs binds n i f h = self-choices (de_pat (TextCtor u) t uid at subs binds) n i
  by-ctor (RowCtor s) t uid at subs binds n i f h = self-choices (de_pat (RowCtor s) t uid at subs binds) n i
  by-ctor WildCtor t uid at subs binds n i f h = self-choices (de_pat WildCtor t uid at subs binds) n i
  by-ctor OrCtor t uid at subs binds n i f h =
      choices-bind n _ binds (all_choices_of (choice_among subs) subs) (only-or subs n i.0 i.1 f h)

  mutual
    pat-choices : (p : MDePat T) (n : ℕ) → IsNumbered decides n p → Choices n (or_count p + n) (choices_of p)
    pat-choices (de_pat c t uid at subs binds) n i =
        by-ctor c t uid at subs binds n i (first-choices subs (own_count c subs + n) i.1)
        (λ a j. all-choices subs n 0 (1 + n) a j (omega arith))

    all-choices : (subs : MDePats T) (n k m : ℕ) → AreAlternatives decides n k subs → AreNumbered decides m subs →
        n < m → Among_choices n k (or_counts subs + m) (all_choices_of choice_through subs)
    all-choices no_de_pats n k m a i h = record { all = no-choices n _; choice = tt; above = tt }
    all-choices (more_de_pats p ps) n k m a i h =
        choices-join (uid_of p) n k m (or_count p + or_counts ps + m) (choices_of p)
        (all_choices_of choice_through ps) a.0 h (omega arith)
        (choices-wider m (or_count p + m) m (or_count p + or_counts ps + m) (choices_of p) (omega arith) (omega arith)
        (pat-choices p m i.0))
        (subst (λ x. Among_choices n (suc k) x (all_choices_of choice_through ps))
        (same-sum (or_counts ps) (or_count p) m) (all-choices ps n (suc k) (or_count p + m) a.1 i.1 (omega (arith, h))))

    first-choices : (subs : MDePats T) (n : ℕ) → AreNumbered decides n subs → FirstChoices n subs
    first-choices no_de_pats n i = tt
    first-choices (more_de_pats p ps) n i = pat-choices p n i.0

  -- or-patterns taken apart
  pub expand-divides : Divides decides (λ (h : Head T). Unit {0}) 1 expand_head
  expand-divides None n good i = record {
    each = (
      record {
        middle = n;
        from = omega arith;
        decided = record { below = λ o l. refl; above = λ o l. refl };
        left = (n, omega arith, tt, omega arith);
        wide = refl;
      },
      tt,
    );
    parted = (tt, tt);
  }
  expand-divides (Some p) n good i =
      let c : Choices n (or_count p + n) (choices_of p) = pat-choices p n i in
      record {
        each =
            every-map (IsChoice n (or_count p + n)) (IsReplacement decides n (or_count p + n) 1) as_replacement
            (choices_of p) (λ x j. j) c.each;
        parted = ordered-map AreChoices (AreReplacements decides) as_replacement (choices_of p) (λ x y j. j) c.parted;
      }
