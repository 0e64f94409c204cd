-- What asks for no uids and no types of an engine's own is the same of the pattern without them.
use Rattle.std.proofs.Common.{◌≡◌, ℕ, suc, Bool, true, false, ◌&&◌, List, [], ◌∷◌, ◌++◌, length, filter, length-append, refl, sym, ap, ◌∙◌}
use Rattle.std.specs.List.{list_any, list_all}
use Rattle.match_model.specs.Types.{MType}
use Rattle.match_model.specs.Constructors.{MCtor, PointCtor, OrCtor, NumbersCtor, TextCtor}
use Rattle.match_model.specs.ArenaPatterns.{MDePat, de_pat, MDePats, no_de_pats, more_de_pats, de_pats_list, ctor_of, type_of, at_of}
use Rattle.match_model.specs.WellTyped.{bound_names, names_in, names_in_all, names_differ, names_differ_in_each, names_differ_in_all}
use Rattle.pattern_rules.specs.ArenaForms.{all_within, all_below, subs_in, is_or, is_wide, is_text, is_lone_range, lone_ranges_only}
use Rattle.pattern_rules.specs.Promises.{is_text_reference, text_is_referred, texts_are_referred}
use Rattle.pattern_rules.specs.Builders.{Built}
use Rattle.pattern_rules.specs.Shown.{uid_under, settled, settled_all}
use Rattle.pattern_laws.proofs.Everywhere.{Every}

-- names
mutual
  pub names_settled : {T : Type 0} (type : T → MType) (u : ℕ) (p : MDePat T) →
      names_in (settled type u p) ≡ names_in p
  names_settled {T} type u (de_pat c t uid at subs binds) = ap (λ ns. bound_names binds ++ ns)
      (all_names_settled type c subs)

  all_names_settled : {T : Type 0} (type : T → MType) (c : MCtor) (ps : MDePats T) →
      names_in_all (settled_all type c ps) ≡ names_in_all ps
  all_names_settled {T} type c no_de_pats = refl
  all_names_settled {T} type c (more_de_pats p ps) = rw
      (names_settled type (uid_under c p) p, all_names_settled type c ps) refl

mutual
  pub differ_settled : {T : Type 0} (type : T → MType) (u : ℕ) (p : MDePat T) → names_differ (settled type u p)
      ≡ names_differ p
  differ_settled {T} type u (de_pat c t uid at subs binds) =
      rw (all_names_settled type c subs, each_settled type c subs, all_settled type c subs) refl

  each_settled : {T : Type 0} (type : T → MType) (c : MCtor) (ps : MDePats T) → names_differ_in_each
      (settled_all type c ps) ≡ names_differ_in_each ps
  each_settled {T} type c no_de_pats = refl
  each_settled {T} type c (more_de_pats p ps) = rw
      (differ_settled type (uid_under c p) p, each_settled type c ps) refl

  all_settled : {T : Type 0} (type : T → MType) (c : MCtor) (ps : MDePats T) →
      names_differ_in_all (settled_all type c ps) ≡ names_differ_in_all ps
  all_settled {T} type c no_de_pats = refl
  all_settled {T} type c (more_de_pats p ps) =
      rw (
        differ_settled type (uid_under c p) p,
        names_settled type (uid_under c p) p,
        all_names_settled type c ps,
        all_settled type c ps,
      ) refl

-- tests of single patterns
or_settled : {T : Type 0} (type : T → MType) (u : ℕ) (p : MDePat T) → is_or (settled type u p) ≡ is_or p
or_settled type u (de_pat OrCtor t uid at subs binds) = refl
or_settled type u (de_pat c t uid at subs binds) = refl

wide_settled : {T : Type 0} (type : T → MType) (u : ℕ) (p : MDePat T) → is_wide (settled type u p) ≡ is_wide p
wide_settled type u (de_pat (NumbersCtor r) t uid at subs binds) = refl
wide_settled type u (de_pat c t uid at subs binds) = refl

text_settled : {T : Type 0} (type : T → MType) (u : ℕ) (p : MDePat T) → is_text (settled type u p) ≡ is_text p
text_settled type u (de_pat (TextCtor s) t uid at subs binds) = refl
text_settled type u (de_pat c t uid at subs binds) = refl

reference_settled : {T : Type 0} (type : T → MType) (u : ℕ) (p : MDePat T) → is_text_reference (λ t. t)
    (settled type u p) ≡ is_text_reference type p
reference_settled type u (de_pat PointCtor t uid at subs binds) = refl
reference_settled type u (de_pat c t uid at subs binds) = refl

-- tests of the patterns below one
count_settled : {T : Type 0} (type : T → MType) (c : MCtor) (ps : MDePats T) →
    length (de_pats_list (settled_all type c ps)) ≡ length (de_pats_list ps)
count_settled type c no_de_pats = refl
count_settled type c (more_de_pats p ps) = ap suc (count_settled type c ps)

wides_settled : {T : Type 0} (type : T → MType) (c : MCtor) (ps : MDePats T) →
    list_all is_wide (de_pats_list (settled_all type c ps)) ≡ list_all is_wide (de_pats_list ps)
wides_settled type c no_de_pats = refl
wides_settled type c (more_de_pats p ps) = rw (wide_settled type (uid_under c p) p, wides_settled type c ps) refl

texts_settled : {T : Type 0} (type : T → MType) (c : MCtor) (ps : MDePats T) →
    list_any is_text (de_pats_list (settled_all type c ps)) ≡ list_any is_text (de_pats_list ps)
texts_settled type c no_de_pats = refl
texts_settled type c (more_de_pats p ps) = rw (text_settled type (uid_under c p) p, texts_settled type c ps) refl

lone_settled : {T : Type 0} (type : T → MType) (u : ℕ) (p : MDePat T) → is_lone_range (settled type u p)
    ≡ is_lone_range p
lone_settled type u (de_pat c t uid at subs binds) =
    rw (or_settled type u (de_pat c t uid at subs binds), count_settled type c subs, wides_settled type c subs) refl

referred_settled : {T : Type 0} (type : T → MType) (u : ℕ) (p : MDePat T) → text_is_referred (λ t. t)
    (settled type u p) ≡ text_is_referred type p
referred_settled type u (de_pat c t uid at subs binds) =
    rw (reference_settled type u (de_pat c t uid at subs binds), texts_settled type c subs) refl

-- tests of all patterns within
append_all : {A : Type 0} (f : A → Bool) (xs ys : List A) → list_all f (xs ++ ys) ≡ (list_all f xs && list_all f ys)
append_all f [] ys = refl
append_all f (x ∷ xs) ys = rw (append_all f xs ys) (three (f x) (list_all f xs) (list_all f ys))
  where
    three : (a b c : Bool) → (a && (b && c)) ≡ ((a && b) && c)
    three true b c = refl
    three false b c = refl

module _ {T : Type 0} (type : T → MType) (B : Built → Bool) (C : MDePat T → Bool)
    (same : (u : ℕ) (p : MDePat T) → B (settled type u p) ≡ C p) where
  mutual
    pub within_settled : (u : ℕ) (p : MDePat T) → list_all B (all_within (settled type u p)) ≡ list_all C
        (all_within p)
    within_settled u (de_pat c t uid at subs binds) = rw
        (same u (de_pat c t uid at subs binds), below_settled c subs) refl

    below_settled : (c : MCtor) (ps : MDePats T) → list_all B (all_below (settled_all type c ps)) ≡ list_all C
        (all_below ps)
    below_settled c no_de_pats = refl
    below_settled c (more_de_pats p ps) =
        append_all B (all_within (settled type (uid_under c p) p)) (all_below (settled_all type c ps))
        ∙ (rw (within_settled (uid_under c p) p, below_settled c ps) refl
        ∙ sym (append_all C (all_within p) (all_below ps)))

pub lone_shown : {T : Type 0} (type : T → MType) (u : ℕ) (p : MDePat T) → lone_ranges_only (settled type u p)
    ≡ lone_ranges_only p
lone_shown type u p = within_settled type is_lone_range is_lone_range (lone_settled type) u p

pub texts_shown : {T : Type 0} (type : T → MType) (u : ℕ) (p : MDePat T) → texts_are_referred (λ t. t)
    (settled type u p) ≡ texts_are_referred type p
texts_shown type u p = rw (
  text_settled type u p,
  within_settled type (text_is_referred (λ t. t))
      (text_is_referred type) (referred_settled type) u p,
) refl

-- what holds of all patterns within
every_left : {A : Type 0} (E : A → Type 0) (xs ys : List A) → Every E (xs ++ ys) → Every E xs
every_left E [] ys h = tt
every_left E (x ∷ xs) ys h = (h.0, every_left E xs ys h.1)

every_right : {A : Type 0} (E : A → Type 0) (xs ys : List A) → Every E (xs ++ ys) → Every E ys
every_right E [] ys h = h
every_right E (x ∷ xs) ys h = every_right E xs ys h.1

every_both : {A : Type 0} (E : A → Type 0) (xs ys : List A) → Every E xs → Every E ys → Every E (xs ++ ys)
every_both E [] ys h k = k
every_both E (x ∷ xs) ys h k = (h.0, every_both E xs ys h.1 k)

module _ {T : Type 0} (type : T → MType) (E : Built → Type 0) (F : MDePat T → Type 0)
    (same : (u : ℕ) (p : MDePat T) → E (settled type u p) → F p) where
  mutual
    pub every_settled : (u : ℕ) (p : MDePat T) → Every E (all_within (settled type u p)) → Every F (all_within p)
    every_settled u (de_pat c t uid at subs binds) h =
        (same u (de_pat c t uid at subs binds) h.0, every_below c subs h.1)

    every_below : (c : MCtor) (ps : MDePats T) → Every E (all_below (settled_all type c ps)) → Every F (all_below ps)
    every_below c no_de_pats h = tt
    every_below c (more_de_pats p ps) h =
        every_both F (all_within p) (all_below ps)
        (every_settled (uid_under c p) p
        (every_left E (all_within (settled type (uid_under c p) p)) (all_below (settled_all type c ps)) h))
        (every_below c ps (every_right E (all_within (settled type (uid_under c p) p))
        (all_below (settled_all type c ps)) h))

pub ctor_settled : {T : Type 0} (type : T → MType) (u : ℕ) (p : MDePat T) → ctor_of (settled type u p) ≡ ctor_of p
ctor_settled type u (de_pat c t uid at subs binds) = refl

pub type_settled : {T : Type 0} (type : T → MType) (u : ℕ) (p : MDePat T) → type_of (settled type u p) ≡ type
    (type_of p)
type_settled type u (de_pat c t uid at subs binds) = refl

pub at_settled : {T : Type 0} (type : T → MType) (u : ℕ) (p : MDePat T) → at_of (settled type u p) ≡ at_of p
at_settled type u (de_pat c t uid at subs binds) = refl

pub subs_settled : {T : Type 0} (type : T → MType) (u : ℕ) (p : MDePat T) → length (subs_in (settled type u p))
    ≡ length (subs_in p)
subs_settled type u (de_pat c t uid at subs binds) = count_settled type c subs

-- how many or-patterns there are
pub or_is_settled : {T : Type 0} (type : T → MType) (u : ℕ) (p : MDePat T) → is_or (settled type u p) ≡ is_or p
or_is_settled type u p = or_settled type u p

filter_append : {A : Type 0} (f : A → Bool) (xs ys : List A) → filter f (xs ++ ys) ≡ filter f xs ++ filter f ys
filter_append f [] ys = refl
filter_append f (x ∷ xs) ys = go (f x) refl (filter_append f xs ys)
  where
    go : (b : Bool) → f x ≡ b → filter f (xs ++ ys) ≡ filter f xs ++ filter f ys →
        filter f (x ∷ (xs ++ ys)) ≡ filter f (x ∷ xs) ++ filter f ys
    go true e h = rw e (ap (λ zs. x ∷ zs) h)
    go false e h = rw e h

mutual
  pub ors_settled : {T : Type 0} (type : T → MType) (u : ℕ) (p : MDePat T) →
      length (filter is_or (all_within (settled type u p))) ≡ length (filter is_or (all_within p))
  ors_settled {T} type u (de_pat c t uid at subs binds) = go (is_or (de_pat c t uid at subs binds)) refl
      (ors_below type c subs)
    where
      go : (b : Bool) → is_or (de_pat c t uid at subs binds) ≡ b →
          length (filter is_or (all_below (settled_all type c subs))) ≡ length (filter is_or (all_below subs)) →
          length (filter is_or (all_within (settled type u (de_pat c t uid at subs binds)))) ≡ length
          (filter is_or (all_within (de_pat c t uid at subs binds)))
      go true e h =
          let e' : is_or (settled type u (de_pat c t uid at subs binds)) ≡ true = or_settled type u
          (de_pat c t uid at subs binds) ∙ e in
          rw (e, e') (ap suc h)
      go false e h =
          let e' : is_or (settled type u (de_pat c t uid at subs binds)) ≡ false = or_settled type u
          (de_pat c t uid at subs binds) ∙ e in
          rw (e, e') h

  ors_below : {T : Type 0} (type : T → MType) (c : MCtor) (ps : MDePats T) →
      length (filter is_or (all_below (settled_all type c ps))) ≡ length (filter is_or (all_below ps))
  ors_below {T} type c no_de_pats = refl
  ors_below {T} type c (more_de_pats p ps) =
      rw (
        filter_append is_or (all_within (settled type (uid_under c p) p)) (all_below (settled_all type c ps)),
        filter_append is_or (all_within p) (all_below ps),
        length-append (filter is_or (all_within (settled type (uid_under c p) p)))
            (filter is_or (all_below (settled_all type c ps))),
        length-append (filter is_or (all_within p)) (filter is_or (all_below ps)),
        ors_settled type (uid_under c p) p,
        ors_below type c ps,
      ) refl
