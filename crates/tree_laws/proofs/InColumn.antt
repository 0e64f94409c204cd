-- The constructors of a column, one by one.
use Rattle.std.proofs.Common.{◌≡◌, inl, inr, ℕ, zero, suc, Bool, true, false, ◌&&◌, ◌||◌, List, [], ◌∷◌, drop, Option, Some, None, slice_get, refl, sym, ap, ◌∙◌, subst}
use Rattle.std.specs.List.{All, cons_option}
use Rattle.std.proofs.lemmas.List.Elements.{All-cons, All-nil, All-head, All-tail}
use Rattle.match_model.specs.Constructors.{MCtor, SingleCtor, PointCtor, LaterCtor, OtherTextCtor, WildCtor, OrCtor, VariantCtor, FlagCtor, NumbersCtor, TextCtor, RowCtor, has_piece}
use Rattle.match_model.specs.ArenaPatterns.{MDePats, MBound, de_pat}
use Rattle.match_model.specs.Rows.{Head, is_wild_ctor, starts_wild, first_ctor, ctor_unless_wild}
use Rattle.match_model.specs.Matrices.{MRow}
use Rattle.match_model.specs.PieceStates.{is_present}
use Rattle.match_model.proofs.Basics.{untrue}
use Rattle.match_model.specs.Lists.{Every, Among}
use Rattle.keyed_rows.specs.Dividing.{GoodAt}
use Rattle.match_model.specs.Lowering.{ctors_at, all_wild_at}

pub all-from : {A : Type 0} (P : A → Type 0) (xs : List A) → Every P xs → All P xs
all-from P [] h = All-nil P
all-from P (x ∷ xs) h = All-cons P x xs h.0 (all-from P xs h.1)

pub all-among : {A : Type 0} (P : A → Type 0) (xs : List A) (x : A) → All P xs → Among x xs → P x
all-among P [] x h a = elim a [ ]
all-among P (y ∷ xs) x h (inl e) = subst P (sym e) (All-head P y xs h)
all-among P (y ∷ xs) x h (inr a) = all-among P xs x (All-tail P y xs h) a

-- it holds of the constructor, where there is one
abbrev pub OnCtor : (MCtor → Type 0) → Option MCtor → Type 0
OnCtor Q None = Unit {0}
OnCtor Q (Some k) = Q k

unless-is : (k : MCtor) → is_wild_ctor k ≡ false → ctor_unless_wild k ≡ Some k
unless-is WildCtor w = untrue (sym w)
unless-is SingleCtor w = refl
unless-is PointCtor w = refl
unless-is LaterCtor w = refl
unless-is OtherTextCtor w = refl
unless-is OrCtor w = refl
unless-is (VariantCtor k) w = refl
unless-is (FlagCtor k) w = refl
unless-is (NumbersCtor k) w = refl
unless-is (TextCtor k) w = refl
unless-is (RowCtor k) w = refl

module _ {T : Type 0} (i : ℕ) where
  on-drop : (Q : MCtor → Type 0) (j : ℕ) (hs : List (Head T)) → GoodAt (λ h. OnCtor Q (first_ctor (h ∷ []))) j hs →
      OnCtor Q (first_ctor (drop j hs))
  on-drop Q zero [] g = tt
  on-drop Q (suc j) [] g = tt
  on-drop Q zero (h ∷ hs) g = go h g
    where
      go : (h : Head T) → OnCtor Q (first_ctor (h ∷ [])) → OnCtor Q (first_ctor (h ∷ hs))
      go None g = tt
      go (Some (de_pat c t uid at subs binds)) g = g
  on-drop Q (suc j) (h ∷ hs) g = on-drop Q j hs g

  -- what holds of each head's constructor holds of the column's
  pub column-every : (Q : MCtor → Type 0) (rows : List (MRow T)) →
      Every (λ r. GoodAt (λ h. OnCtor Q (first_ctor (h ∷ []))) i r.heads) rows → Every Q (ctors_at i rows)
  column-every Q [] g = tt
  column-every Q (r ∷ rows) g = add (first_ctor (drop i r.heads)) (on-drop Q i r.heads g.0) (column-every Q rows g.1)
    where
      add : (o : Option MCtor) → OnCtor Q o → Every Q (ctors_at i rows) → Every Q (cons_option o (ctors_at i rows))
      add None a h = h
      add (Some k) a h = (a, h)

  -- a head's constructor is one of the column's
  pub column-among : (rows : List (MRow T)) (r : MRow T) (k : MCtor) (t : T) (uid at : ℕ) (subs : MDePats T)
      (binds : List MBound) → Among r rows → slice_get r.heads i ≡ Some (Some (de_pat k t uid at subs binds)) →
      is_wild_ctor k ≡ false → Among k (ctors_at i rows)
  column-among [] r k t uid at subs binds a e w = elim a [ ]
  column-among (x ∷ rows) r k t uid at subs binds (inl q) e w =
      let here : first_ctor (drop i x.heads) ≡ Some k = first i x.heads
      (subst (λ (y : MRow T). slice_get y.heads i ≡ Some (Some (de_pat k t uid at subs binds))) q e) in
      subst (λ o. Among k (cons_option o (ctors_at i rows))) (sym here) (inl refl)
    where
      first : (j : ℕ) (hs : List (Head T)) → slice_get hs j ≡ Some (Some (de_pat k t uid at subs binds)) →
          first_ctor (drop j hs) ≡ Some k
      first j [] h = cc
      first zero (y ∷ hs) h =
          let same : y ≡ Some (de_pat k t uid at subs binds) = cc in ap (λ z. first_ctor (z ∷ hs)) same ∙ unless-is k w
      first (suc j) (y ∷ hs) h = first j hs h
  column-among (x ∷ rows) r k t uid at subs binds (inr b) e w =
      add (first_ctor (drop i x.heads)) (column-among rows r k t uid at subs binds b e w)
    where
      add : (o : Option MCtor) → Among k (ctors_at i rows) → Among k (cons_option o (ctors_at i rows))
      add None h = h
      add (Some d) h = inr h

  -- where not all are wild there is a constructor
  pub column-some : (rows : List (MRow T)) → all_wild_at i rows ≡ false → (k : MCtor) × Among k (ctors_at i rows)
  column-some [] h = untrue (sym h)
  column-some (r ∷ rows) h = go (drop i r.heads) h (λ k. column-some rows k)
    where
      go : (hs : List (Head T)) → (starts_wild hs && all_wild_at i rows) ≡ false →
          (all_wild_at i rows ≡ false → (k : MCtor) × Among k (ctors_at i rows)) → (k : MCtor)
          × Among k (cons_option (first_ctor hs) (ctors_at i rows))
      go [] h f = f h
      go (None ∷ hs) h f = f h
      go (Some (de_pat k t uid at subs binds) ∷ hs) h f = inner (is_wild_ctor k) refl
        where
          none : (k : MCtor) → is_wild_ctor k ≡ true → ctor_unless_wild k ≡ None
          none WildCtor w = refl
          none _ w = untrue w

          inner : (b : Bool) → is_wild_ctor k ≡ b → (d : MCtor) × Among d (cons_option (ctor_unless_wild k)
              (ctors_at i rows))
          inner true w =
              let s = f (ap (λ b. b && all_wild_at i rows) (sym w) ∙ h) in
              (s.0, subst (λ o. Among s.0 (cons_option o (ctors_at i rows))) (sym (none k w)) s.1)
          inner false w = (k, subst (λ o. Among k (cons_option o (ctors_at i rows))) (sym (unless-is k w)) (inl refl))

-- a head of the column that has the piece
pub present-some : (heads : List MCtor) (p : MCtor) → is_present heads p ≡ true → (k : MCtor) × Among k heads
    × (has_piece k p ≡ true)
present-some [] p h = untrue h
present-some (x ∷ heads) p h = go (has_piece x p) refl (present-some heads p)
  where
    go : (b : Bool) → has_piece x p ≡ b → (is_present heads p ≡ true → (k : MCtor) × Among k heads ×
        (has_piece k p ≡ true)) → (k : MCtor) × Among k (x ∷ heads) × (has_piece k p ≡ true)
    go true e f = (x, inl refl, e)
    go false e f = let s = f (ap (λ b. b || is_present heads p) (sym e) ∙ h) in (s.0, inr s.1, s.2)
