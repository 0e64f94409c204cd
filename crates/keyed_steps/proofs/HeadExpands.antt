-- Taking or-patterns apart, and dropping a column, keep the ways of a well-typed head.
use Rattle.std.proofs.Common.{◌≡◌, ℕ, Bool, true, false, ◌||◌, List, [], ◌∷◌, ◌++◌, map, cond, Some, None, refl, sym, ap, ◌∙◌, subst}
use Rattle.std.specs.List.{list_all}
use Rattle.match_model.specs.Values.{MValue}
use Rattle.match_model.specs.Constructors.{MCtor, WildCtor, OrCtor, builds}
use Rattle.match_model.specs.Contexts.{Context}
use Rattle.match_model.specs.ArenaPatterns.{MPart, WholePart, MiddlePart, MBound, MDePat, de_pat, MDePats, no_de_pats, more_de_pats, uid_of}
use Rattle.match_model.specs.Places.{part_at, position_at}
use Rattle.match_model.specs.Rows.{Head, is_wild_ctor, Choice, choices_of, all_choices_of, choices_by, choice_among, with_binds}
use Rattle.match_model.specs.Matrices.{MColumn}
use Rattle.match_model.specs.WellTyped.{part_is_of, IsTyped, AreAllTyped, IsHeadTyped}
use Rattle.match_model.proofs.Basics.{both, and_true, untrue}
use Rattle.match_model.specs.Keys.{Decision}
use Rattle.match_model.specs.Lists.{Every}
use Rattle.match_model.specs.Steps.{expand_head, default_head}
use Rattle.keyed_rows.proofs.Lists.{every-append, every-map}
use Rattle.keyed_rows.proofs.Parting.{among-every}
use Rattle.keyed_rows.proofs.PullOut.{HeadKeeps}
use Rattle.keyed_rows.proofs.ExpandKeeps.{BindWhole, expand-keeps, drop-keeps}
use Rattle.keyed_steps.specs.Good.{IsPlainHead}
use Rattle.keyed_steps.proofs.HeadEnters.{none-keeps, none-ways}

-- the names hold whole values
abbrev pub AreWhole : List MBound → Type 0
AreWhole binds = list_all (λ b. part_is_of WildCtor b.part) binds ≡ true

whole-append : (xs ys : List MBound) → AreWhole xs → AreWhole ys → AreWhole (xs ++ ys)
whole-append [] ys h k = k
whole-append (x ∷ xs) ys h k =
    let s = both (part_is_of WildCtor x.part) (list_all (λ b. part_is_of WildCtor b.part) xs) h in
    and_true (part_is_of WildCtor x.part) (list_all (λ b. part_is_of WildCtor b.part) (xs ++ ys)) s.0
    (whole-append xs ys s.1 k)

or-whole : (bs : List MBound) → list_all (λ b. part_is_of OrCtor b.part) bs ≡ true → AreWhole bs
or-whole [] h = refl
or-whole (b ∷ bs) h =
    let s = both (part_is_of OrCtor b.part) (list_all (λ b. part_is_of OrCtor b.part) bs) h in
    and_true (part_is_of WildCtor b.part) (list_all (λ b. part_is_of WildCtor b.part) bs) (one b.part s.0)
    (or-whole bs s.1)
  where
    one : (p : MPart) → part_is_of OrCtor p ≡ true → part_is_of WildCtor p ≡ true
    one WholePart h = refl
    one (MiddlePart f g) h = untrue h

module _ {T : Type 0} (cx : Context T) where
  abbrev Whole : Choice T → Type 0
  Whole c = AreWhole c.binds

  through-whole : (subs : MDePats T) (uid : ℕ) (c : Choice T) → Whole c → Whole (choice_among subs uid c)
  through-whole no_de_pats uid c h = h
  through-whole (more_de_pats p no_de_pats) uid c h = h
  through-whole (more_de_pats p (more_de_pats q qs)) uid c h = h

  mutual
    -- names around alternatives hold whole values
    pub choices-whole : (t : T) (p : MDePat T) → IsTyped cx t p → Every Whole (choices_of p)
    choices-whole t (de_pat c u uid at subs binds) h =
        go c h (λ k. all-whole t (choice_among subs) (through-whole subs) subs k)
      where
        go : (c : MCtor) → IsTyped cx t (de_pat c u uid at subs binds) →
            (AreAllTyped cx t subs → Every Whole (all_choices_of (choice_among subs) subs)) →
            Every Whole (choices_by c (map (with_binds binds) (all_choices_of (choice_among subs) subs))
            (record { pat = de_pat c u uid at subs binds; chosen = []; binds = [] } ∷ []))
        go OrCtor h f =
            every-map Whole Whole (with_binds binds) (all_choices_of (choice_among subs) subs)
            (λ c k. whole-append binds c.binds (or-whole binds h.1) k) (f h.2)
        go _ h f = (refl, tt)

    all-whole : (t : T) (choose : ℕ → Choice T → Choice T) → ((u : ℕ) (c : Choice T) → Whole c → Whole (choose u c)) →
        (ps : MDePats T) → AreAllTyped cx t ps → Every Whole (all_choices_of choose ps)
    all-whole t choose k no_de_pats h = tt
    all-whole t choose k (more_de_pats p ps) h =
        every-append Whole (map (choose (uid_of p)) (choices_of p)) (all_choices_of choose ps)
        (every-map Whole Whole (choose (uid_of p)) (choices_of p) (k (uid_of p)) (choices-whole t p h.0))
        (all-whole t choose k ps h.1)

  bind-whole : (decides : ℕ → Decision) (t : T) (h : Head T) → IsHeadTyped cx t h → BindWhole decides h
  bind-whole decides t None ty = tt
  bind-whole decides t (Some p) ty = λ c a. among-every Whole (choices_of p) c (choices-whole t p ty) a

-- the head does not match the value, or is a wildcard or a name
abbrev pub PassesBy : {T : Type 0} → MValue → Head T → Type 0
PassesBy u None = Unit {0}
PassesBy u (Some (de_pat c t uid at subs binds)) = is_wild_ctor c ≡ false → builds [] c u ≡ false

module _ {T : Type 0} (decides : ℕ → Decision) (cx : Context T) (c : MColumn T) (v u : MValue) (pos : List ℕ)
    (part : part_at c.place v ≡ Some u) (position : position_at c.place v ≡ Some pos) where
  -- or-patterns taken apart
  pub head-expands : (h : Head T) → IsHeadTyped cx c.type h → HeadKeeps decides expand_head c (c ∷ []) v h
  head-expands h t = expand-keeps decides c v u pos part position h (bind-whole cx decides c.type h t)

  -- a dropped column
  pub head-drops : (h : Head T) → IsHeadTyped cx c.type h → IsPlainHead h → PassesBy u h →
      HeadKeeps decides default_head c [] v h
  head-drops None t p b = drop-keeps decides c v u pos part position None refl (λ w. untrue (sym w))
  head-drops (Some (de_pat k ty uid at subs binds)) t p b = go (is_wild_ctor k) refl
    where
      H : Head T
      H = Some (de_pat k ty uid at subs binds)

      wild : (k : MCtor) → is_wild_ctor k ≡ true → k ≡ WildCtor
      wild WildCtor w = refl
      wild _ w = untrue w

      go : (w : Bool) → is_wild_ctor k ≡ w → HeadKeeps decides default_head c [] v H
      go true w =
          drop-keeps decides c v u pos part position H (subst (λ x. list_all (λ b. part_is_of x b.part) binds ≡ true)
          (wild k w) t.1) (λ f. untrue (sym f ∙ w))
      go false w =
          none-keeps decides default_head c [] v u pos part position H
          (ap (λ x. cond x (record { heads = []; chosen = []; binds = binds } ∷ []) []) w)
          (none-ways k ty uid at subs binds u p (ap (λ x. x || builds [] k u) w ∙ b w))
